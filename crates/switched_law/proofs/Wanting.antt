-- The ends that an actor keeps are those that it wants, by its own state and by the journal.
use Rattle.std.proofs.Common.{◌≡◌, ◌+◌, ◌++◌, ℕ, suc, Bool, cond, Some, List, [], ◌∷◌, length, map, slice_get, refl, sym, ap, ◌∙◌, subst, arith, inl, inr}
use Rattle.std.proofs.lemmas.Bool.{cases_lt, ne_eqb, eq-eqb}
use Rattle.line_text.specs.declared.ports_text.ports.Ports.{Ports}
use Rattle.wire_core.specs.declared.names.QueueId.{QueueId}
use Rattle.wire_core.specs.declared.names.QueueRow.{QueueRow}
use Rattle.wire_core.specs.declared.names.Entry.{Entry}
use Rattle.wire_core.specs.Ends.{Role, End}
use Rattle.wire_core.specs.Lists.{Passed}
use Rattle.wire_core.specs.Journal.{History, start_history}
use Rattle.wire_core.specs.Queues.{Queue, end_at}
use Rattle.turn_kit.specs.Turns.{Post, is_at_rest, settled_all}
use Rattle.turn_kit.specs.Posts.{intake_post, outlet_post}
use Rattle.turn_kit.specs.ManyEnds.{intake_posts, outlet_posts, needs_from}
use Rattle.turn_kit.specs.declared.ends.Intake.{Intake}
use Rattle.turn_kit.specs.declared.ends.Outlet.{Outlet}
use Rattle.play_core.specs.Moved.{Moved, moved}
use Rattle.play_core.specs.Wants.{Want, intake_want, outlet_want, all_settled}
use Rattle.play_core.specs.Rests.Meeting.{Met, Meet}
use Rattle.play_core.specs.Rests.Showing.{HaveItems, HaveBells}
use Rattle.play_core.proofs.Lists.{there_below}
use Rattle.client_programs.specs.declared.net.NetClient.{NetClient}
use Rattle.client_programs.specs.Net.Clients.{FitsClient, ClientStandsFor, client_round}
use Rattle.net_switch.specs.SwitchDesk.Desks.{is_taking, is_returning, is_wanting, is_loaded}
use Rattle.net_switch.specs.declared.switch.NetSwitch.{NetSwitch}
use Rattle.net_switch.specs.Ends.{come_queues, back_queues, room_queues, copy_queues}
use Rattle.net_switch.specs.Switching.{switch_round}
use Rattle.small_system.specs.Tales.{Moment, Turn, start_of, IsTale, after_tale, moment_after, journal_of, passed_by, Along}
use Rattle.small_system.specs.Standing.{Holds}
use Rattle.small_system.specs.Wants.{RestsBy, calls_in}
use Rattle.small_system.specs.SmallLaw.Wants.{WantsAre}
use Rattle.switched_law.specs.declared.switch_class.member.Member.{Member}
use Rattle.switched_law.specs.declared.switch_class.member.Member.TheVariants as Members
use Rattle.switched_law.specs.SwitchClass.Members.{member_means}
use Rattle.switched_law.specs.SwitchMoment.Scene.{IsClientOf, IsSwitched}
use Rattle.switched_law.specs.SwitchMoment.Takes.{frames_taken}
use Rattle.switched_law.specs.SwitchMoment.Wants.{client_wants, switch_wants, port_wants}
use Rattle.switched_law.proofs.SwitchMoment.Meeting.{meet_append}
use Rattle.switched_law.specs.Playing.{IsPlayed, taken_by}
use Rattle.switched_law.specs.Wants.{queue_wants, member_wants}
use Rattle.switched_law.proofs.Standing.{Laws, holds, below, client_is, switched, client_at, many, taken_is}

-- ends of one sort, by their queues
queues_meet : (ends : Role → ℕ → End) {X : Type 0} (post : X → Post) (queue : X → QueueId) (want : ℕ → Bool → Want) (need : ℕ → Bool) (s : ℕ) (xs : List X)
    → ((k : ℕ) (x : X) → slice_get xs k ≡ Some x → (b : Bool) → Met ends (post x) b (want (queue x).0 b)) → Meet ends (map post xs) (needs_from need s (map queue xs)) (queue_wants want need s (map queue xs))
queues_meet ends post queue want need s [] met = tt
queues_meet ends post queue want need s (x ∷ xs) met = (met 0 x refl (need s), queues_meet ends post queue want need (s + 1) xs (λ k y at b. met (suc k) y at b))

-- by its own state
pub wants_are : WantsAre member_means member_wants
wants_are ends (Members.Client c) f = (
  record { needs = refl; agrees = f.frames.input },
  (record { needs = refl; agrees = f.frames.output }, (record { needs = refl; agrees = f.sent }, (record { needs = refl; agrees = f.send }, tt))),
)
wants_are ends (Members.Switch v) f =
    meet_append ends (intake_posts v.ends.come) (outlet_posts v.ends.back ++ (intake_posts v.ends.room ++ outlet_posts v.ends.copy))
    (needs_from (is_taking v.desk) 0 (come_queues v.ends)) (needs_from (is_returning v.desk) 0 (back_queues v.ends) ++ (needs_from (is_wanting v.desk) 0 (room_queues v.ends) ++ needs_from (is_loaded v.desk) 0 (copy_queues v.ends)))
    (queue_wants intake_want (is_taking v.desk) 0 (come_queues v.ends)) _
    (queues_meet ends intake_post (λ (i : Intake). i.queue) intake_want (is_taking v.desk) 0 v.ends.come.ends.items (λ k i at b. record { needs = refl; agrees = f.ends_fit.come.agrees k i at }))
    (meet_append ends (outlet_posts v.ends.back) (intake_posts v.ends.room ++ outlet_posts v.ends.copy)
    (needs_from (is_returning v.desk) 0 (back_queues v.ends)) (needs_from (is_wanting v.desk) 0 (room_queues v.ends) ++ needs_from (is_loaded v.desk) 0 (copy_queues v.ends))
    (queue_wants outlet_want (is_returning v.desk) 0 (back_queues v.ends)) _
    (queues_meet ends outlet_post (λ (i : Outlet). i.queue) outlet_want (is_returning v.desk) 0 v.ends.back.ends.items (λ k i at b. record { needs = refl; agrees = f.ends_fit.back.agrees k i at }))
    (meet_append ends (intake_posts v.ends.room) (outlet_posts v.ends.copy)
    (needs_from (is_wanting v.desk) 0 (room_queues v.ends)) (needs_from (is_loaded v.desk) 0 (copy_queues v.ends))
    (queue_wants intake_want (is_wanting v.desk) 0 (room_queues v.ends)) (queue_wants outlet_want (is_loaded v.desk) 0 (copy_queues v.ends))
    (queues_meet ends intake_post (λ (i : Intake). i.queue) intake_want (is_wanting v.desk) 0 v.ends.room.ends.items (λ k i at b. record { needs = refl; agrees = f.ends_fit.room.agrees k i at }))
    (queues_meet ends outlet_post (λ (i : Outlet). i.queue) outlet_want (is_loaded v.desk) 0 v.ends.copy.ends.items (λ k i at b. record { needs = refl; agrees = f.ends_fit.copy.agrees k i at }))))

-- the clauses on which the wants of a moment stand
pub record WantLaws : Type 0 where
  pub items : (rows : List QueueRow) (moment : Moment Member) (passed : Passed) (journal : List Entry) → Holds member_means rows moment passed journal → HaveItems passed (moved (start_history rows) journal)
  pub bells : (rows : List QueueRow) (moment : Moment Member) (passed : Passed) (journal : List Entry) → Holds member_means rows moment passed journal → HaveBells moment.world (start_history rows) journal
  pub rest : (history : History) (journal : List Entry) (world : List Queue) (posts : List Post) (needs : List Bool) (wants : List Want) → HaveBells world history journal → Meet (end_at world) posts needs wants → settled_all posts needs ≡ all_settled history journal wants
  pub client : (ports : Ports) (world : List Queue) (passed : Passed) (m : Moved) → HaveItems passed m → (port : ℕ) (c : NetClient) → IsClientOf ports port c → FitsClient (end_at world) c → ClientStandsFor c passed → Meet (end_at world) (client_round c).posts (client_round c).needs (client_wants port (slice_get ports.macs port) (slice_get ports.sends port) m)
  pub switch : (ports : Ports) (ends : Role → ℕ → End) (v : NetSwitch) (passed : Passed) → IsSwitched ports ends v passed → (m : Moved) → HaveItems passed m → Meet ends (switch_round v).posts (switch_round v).needs (switch_wants ports m (frames_taken ports.sends passed.calls))

module _ (laws : Laws) (more : WantLaws) (ports : Ports) (rows : List QueueRow) (start : List Member) where
  module _ (turns : List (Turn Member)) (p : IsPlayed ports rows start turns) where
    abbrev mo : Moment Member
    mo = after_tale (start_of rows start) turns

    abbrev journal : List Entry
    journal = journal_of turns

    abbrev m : Moved
    m = moved (start_history rows) journal

    items : HaveItems (passed_by turns) m
    items = more.items rows mo (passed_by turns) journal (holds laws ports rows start turns p)

    bells : HaveBells mo.world (start_history rows) journal
    bells = more.bells rows mo (passed_by turns) journal (holds laws ports rows start turns p)

    -- a client, and the switch
    client_rests : (port : ℕ) (c : NetClient) → slice_get mo.actors port ≡ Some (Members.Client c) → is_at_rest (client_round c) ≡ all_settled (start_history rows) journal (port_wants ports port m (calls_in journal))
    client_rests port c at =
        let less = below laws ports rows start turns p port c at in
        let off = ne_eqb port (length ports.macs) (λ e. omega (arith, less, e)) in
        more.rest (start_history rows) journal mo.world (client_round c).posts (client_round c).needs (client_wants port (slice_get ports.macs port) (slice_get ports.sends port) m) bells
        (more.client ports mo.world (passed_by turns) m items port c (client_is laws ports rows start turns p port c at) ((holds laws ports rows start turns p).fits port (Members.Client c) at) ((holds laws ports rows start turns p).stands port (Members.Client c) at))
        ∙ ap (all_settled (start_history rows) journal) (sym (ap (λ b. cond b (switch_wants ports m (taken_by ports journal)) (client_wants port (slice_get ports.macs port) (slice_get ports.sends port) m)) off))

    switch_rests : (v : NetSwitch) → slice_get mo.actors (length ports.macs) ≡ Some (Members.Switch v) → is_at_rest (switch_round v) ≡ all_settled (start_history rows) journal (port_wants ports (length ports.macs) m (calls_in journal))
    switch_rests v at =
        more.rest (start_history rows) journal mo.world (switch_round v).posts (switch_round v).needs (switch_wants ports m (taken_by ports journal)) bells
        (subst (λ xs. Meet (end_at mo.world) (switch_round v).posts (switch_round v).needs (switch_wants ports m xs)) (taken_is laws ports rows start turns p)
        (more.switch ports (end_at mo.world) v (passed_by turns) (switched laws ports rows start turns p v at) m items))
        ∙ ap (all_settled (start_history rows) journal) (sym (ap (λ b. cond b (switch_wants ports m (taken_by ports journal)) (client_wants (length ports.macs) (slice_get ports.macs (length ports.macs)) (slice_get ports.sends (length ports.macs)) m)) (eq-eqb (length ports.macs) (length ports.macs) refl)))

    pub rests_by : RestsBy member_means (port_wants ports) rows mo journal
    rests_by k (Members.Client c) at = client_rests k c at
    rests_by k (Members.Switch v) at = elim (cases_lt k (length ports.macs)) [
      | inl less ↦ absurd (let c = client_at laws ports rows start turns p k less in let bad = sym c.1 ∙ at in cc)
      | inr past ↦
          let low = there_below mo.actors k (Members.Switch v) at in
          let long = many laws ports rows start turns p in
          let same : k ≡ length ports.macs = omega (arith, past, low, long) in
          subst (λ i. is_at_rest (switch_round v) ≡ all_settled (start_history rows) journal (port_wants ports i m (calls_in journal))) (sym same) (switch_rests v (subst (λ i. slice_get mo.actors i ≡ Some (Members.Switch v)) same at))
    ]

  -- one turn more
  after_more : (moment : Moment Member) (before : List (Turn Member)) (t : Turn Member) → after_tale moment (before ++ t ∷ []) ≡ moment_after (after_tale moment before) t
  after_more moment [] t = refl
  after_more moment (x ∷ before) t = after_more (moment_after moment x) before t

  module _ (joins : (moment : Moment Member) (before more : List (Turn Member)) → IsTale member_means moment before → IsTale member_means (after_tale moment before) more → IsTale member_means moment (before ++ more)) where
    -- and so at each moment
    pub rests_along : (before after : List (Turn Member)) → IsPlayed ports rows start before → IsTale member_means (after_tale (start_of rows start) before) after
        → Along (λ moment turns. RestsBy member_means (port_wants ports) rows moment (journal_of turns)) (after_tale (start_of rows start) before) before after
    rests_along before [] p tale = rests_by before p
    rests_along before (t ∷ after) p tale =
        let one : IsTale member_means (after_tale (start_of rows start) before) (t ∷ []) = (tale.0, tt) in
        let next : IsPlayed ports rows start (before ++ t ∷ []) = record { playable = p.playable; queues = p.queues; made = p.made; begins = p.begins; tale = joins (start_of rows start) before (t ∷ []) p.tale one } in
        let same = after_more (start_of rows start) before t in (
          rests_by before p,
          subst (λ mo. Along (λ moment turns. RestsBy member_means (port_wants ports) rows moment (journal_of turns)) mo (before ++ t ∷ []) after) same
              (rests_along (before ++ t ∷ []) after next (subst (λ mo. IsTale member_means mo after) (sym same) tale.1)),
        )
