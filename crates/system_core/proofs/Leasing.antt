-- The network's frames that copiers dropped, as the calls of a system tell it.
use Rattle.std.proofs.Common.{◌≡◌, ◌<◌, ◌≤◌, ◌+◌, ◌++◌, ℕ, Bool, true, false, Some, List, [], ◌∷◌, length, slice_get, refl, ap, ◌∙◌, subst, arith}
use Rattle.std.proofs.lemmas.List.{append-nil}
use Rattle.frame_core.specs.declared.mac.Mac.{Mac}
use Rattle.wire_core.specs.declared.names.Entry.{Entry}
use Rattle.wire_core.specs.declared.names.Event.{Event}
use Rattle.wire_core.specs.Bells.{bit}
use Rattle.wire_core.specs.Fates.{Fate, fate_after, fate_from, fate_of, no_fate}
use Rattle.wire_core.specs.Journal.{EachMoment, History, Track}
use Rattle.wire_core.proofs.BellTheorem.{start_is}
use Rattle.sdf_plan.specs.declared.plan.Plan.{Plan}
use Rattle.sdf_plan.specs.declared.plan.Net.{Net}
use Rattle.trace_text.specs.declared.trace.Trace.{Trace}
use Rattle.trace_text.specs.Events.{net_clients}
use Rattle.play_core.specs.Looks.{events_of}
use Rattle.play_core.specs.Moved.{taken}
use Rattle.play_core.proofs.Lists.{there_below}
use Rattle.play_core.proofs.Moments.{each_moment, last_moment}
use Rattle.net_copier.specs.Copying.{copier_word}
use Rattle.net_law.specs.Dropped.{Marks, told_leases}
use Rattle.net_law.specs.Parts.Numbers.{client_first, policy_at}
use Rattle.net_law.specs.TxParts.Numbers.{NetPlace}
use Rattle.cast_core.specs.Casts.{net_place}
use Rattle.cast_core.specs.Sources.{client_mac}
use Rattle.cast_core.proofs.Listing.{value_count}
use Rattle.system_core.specs.Shows.{Shown, moved_in}
use Rattle.system_core.specs.Lawful.{StandsLawful}
use Rattle.system_core.specs.Builds.{BeginsAnew, IsCastOf}
use Rattle.system_core.specs.Dropped.{LeasesStand, NetDropsAsMany, SettlesLeases, calls_by}
use Rattle.system_core.specs.PlanPlays.{net_dropped}
use Rattle.system_core.proofs.Scripts.{nets}

-- what became of leases by calls from one on, and by these behind others: what a call is to them
-- doesn't hang on those before it
fate_shift : (drops : Bool) (la rf : ℕ) (before after : List Event) (f : Fate) (es : List Event) → fate_from (copier_word drops la rf) before f es ≡ fate_from (copier_word drops la rf) after f es
fate_shift drops la rf before after f [] = refl
fate_shift drops la rf before after f (e ∷ es) = fate_shift drops la rf (before ++ e ∷ []) (after ++ e ∷ []) (fate_after f (copier_word drops la rf before e)) es

fate_append : (drops : Bool) (la rf : ℕ) (before : List Event) (f : Fate) (xs es : List Event) → fate_from (copier_word drops la rf) before f (xs ++ es) ≡ fate_from (copier_word drops la rf) before (fate_from (copier_word drops la rf) before f xs) es
fate_append drops la rf before f [] es = refl
fate_append drops la rf before f (x ∷ xs) es =
    let g : Fate = fate_after f (copier_word drops la rf before x) in
    fate_append drops la rf (before ++ x ∷ []) g xs es
    ∙ fate_shift drops la rf (before ++ x ∷ []) before (fate_from (copier_word drops la rf) (before ++ x ∷ []) g xs) es

-- where nothing is settled and nothing waits, nothing came
no_fate_is : (f : Fate) → length f.dropped + bit f.waits ≡ 0 → f ≡ no_fate
no_fate_is f none = by f.dropped f.waits none
  where
    by : (ds : List Bool) (w : Bool) → length ds + bit w ≡ 0 → record { dropped = ds; waits = w } ≡ no_fate
    by [] false none = refl
    by [] true none = absurd (omega (arith, none))
    by (d ∷ ds) w none = absurd (omega (arith, none))

-- where no lease came by the first calls, the others tell what was dropped
leases_anew : (la rf : ℕ) (past es : List Event) → length (fate_of (copier_word true la rf) past).dropped + bit (fate_of (copier_word true la rf) past).waits ≡ 0 → told_leases true la rf (past ++ es) ≡ told_leases true la rf es
leases_anew la rf past es none =
    ap (λ (f : Fate). f.dropped) (fate_append true la rf [] no_fate past es
    ∙ ap (λ f. fate_from (copier_word true la rf) [] f es) (no_fate_is (fate_of (copier_word true la rf) past) none))

-- the network of a plan
module _ (plan : Plan) (trace : Trace) (s : Shown) (cast : IsCastOf plan trace s.setting) (stands : StandsLawful s) (net : Net) (has : plan.net ≡ Some net) where
  abbrev place : NetPlace
  place = net_place plan trace

  abbrev drops_at : ℕ → Bool
  drops_at c = policy_at place.drops c

  abbrev marks : List Entry → Marks
  marks j = net_dropped plan trace (calls_by stands.calls.past j)

  macs_many : length place.macs ≡ length (net_clients plan)
  macs_many = value_count (length (net_clients plan)) (client_mac plan)

  -- each client's copier has settled its leases so
  settles : (j : List Entry) → LeasesStand s.setting.history s.setting.cast stands.calls.past j → (c : ℕ) → c < length place.macs → SettlesLeases (client_first 0 c) (client_first 0 c + 3) (drops_at c) (calls_by stands.calls.past j) (moved_in s.setting j)
  settles j stand c below =
      let copier = (cast.whole net has).copier c below in
      stand copier.0 (client_first 0 c) (client_first 0 c + 1) (client_first 0 c + 2) (client_first 0 c + 3) (drops_at c) copier.1

  pub net_drops_so : EachMoment (λ j. NetDropsAsMany place (marks j) (moved_in s.setting j)) s.journal
  net_drops_so = each_moment (LeasesStand s.setting.history s.setting.cast stands.calls.past) (LeasesStand s.setting.history s.setting.cast stands.calls.past) (λ j. NetDropsAsMany place (marks j) (moved_in s.setting j))
      (λ j stand again c mac at. (settles j stand c (there_below place.macs c mac at)).as_many) s.journal stands.calls.leases stands.calls.leases

  -- no more are marked than leases came
  pub net_few : (c : ℕ) (mac : Mac) → slice_get place.macs c ≡ Some mac → length (marks s.journal c) ≤ length ((moved_in s.setting s.journal).taken (client_first 0 c))
  net_few c mac at = (settles s.journal (last_moment (LeasesStand s.setting.history s.setting.cast stands.calls.past) s.journal stands.calls.leases) c (there_below place.macs c mac at)).few

  -- where nothing happened before the journal begins, its own calls tell all that was dropped
  pub net_anew : BeginsAnew s.setting → (j : List Entry) (c : ℕ) → c < length net.client → marks j c ≡ net_dropped plan trace (events_of j) c
  net_anew begins j c below = by (drops_at c) refl
    where
      here : c < length place.macs
      here = let many = ap length (nets plan net has) in let all = macs_many in omega (arith, below, many, all)

      first : SettlesLeases (client_first 0 c) (client_first 0 c + 3) (drops_at c) (calls_by stands.calls.past []) (moved_in s.setting [])
      first = settles [] stands.calls.leases.0 c here

      nothing : length (taken s.setting.history (client_first 0 c) []) ≡ 0
      nothing = ap (λ (h : History). length (taken h (client_first 0 c) [])) begins ∙ ap (λ (t : Track). length t.taken) (start_is s.setting.rows (client_first 0 c))

      by : (b : Bool) → drops_at c ≡ b → told_leases b (client_first 0 c) (client_first 0 c + 3) (calls_by stands.calls.past j) ≡ told_leases b (client_first 0 c) (client_first 0 c + 3) (events_of j)
      by false waits = refl
      by true on =
          let all : length (told_leases true (client_first 0 c) (client_first 0 c + 3) (calls_by stands.calls.past [])) + bit (fate_of (copier_word true (client_first 0 c) (client_first 0 c + 3)) (calls_by stands.calls.past [])).waits ≡ length (taken s.setting.history (client_first 0 c) []) =
          subst (λ b. length (told_leases b (client_first 0 c) (client_first 0 c + 3) (calls_by stands.calls.past [])) + bit (fate_of (copier_word b (client_first 0 c) (client_first 0 c + 3)) (calls_by stands.calls.past [])).waits ≡ length (taken s.setting.history (client_first 0 c) [])) on (first.all on) in
          let past : length (fate_of (copier_word true (client_first 0 c) (client_first 0 c + 3)) stands.calls.past).dropped + bit (fate_of (copier_word true (client_first 0 c) (client_first 0 c + 3)) stands.calls.past).waits ≡ length (taken s.setting.history (client_first 0 c) []) =
          subst (λ es. length (fate_of (copier_word true (client_first 0 c) (client_first 0 c + 3)) es).dropped + bit (fate_of (copier_word true (client_first 0 c) (client_first 0 c + 3)) es).waits ≡ length (taken s.setting.history (client_first 0 c) [])) (append-nil stands.calls.past) all in
          leases_anew (client_first 0 c) (client_first 0 c + 3) stands.calls.past (events_of j) (past ∙ nothing)
