-- A moment of a play: its actors stand for what passed.
use Rattle.std.proofs.Common.{◌≡◌, ◌+◌, ◌<◌, ℕ, Some, List, length, slice_get, sym, ap, ◌∙◌, subst, arith, inl, inr}
use Rattle.std.proofs.lemmas.Bool.{cases_lt}
use Rattle.line_text.specs.declared.ports_text.ports.Ports.{Ports}
use Rattle.wire_core.specs.declared.names.QueueRow.{QueueRow}
use Rattle.wire_core.specs.declared.names.Entry.{Entry}
use Rattle.wire_core.specs.Ends.{Role, End}
use Rattle.wire_core.specs.Lists.{Passed}
use Rattle.wire_core.specs.Queues.{queue_at, end_at}
use Rattle.play_core.proofs.Lists.{some_is, there_is, there_below}
use Rattle.client_programs.specs.declared.net.NetClient.{NetClient}
use Rattle.client_programs.specs.Net.Clients.{ClientStandsFor}
use Rattle.net_switch.specs.declared.switch.NetSwitch.{NetSwitch}
use Rattle.small_system.specs.Tales.{Moment, Turn, start_of, IsTale, after_tale, journal_of, passed_by}
use Rattle.small_system.specs.Standing.{Begins, Holds}
use Rattle.switched_law.specs.declared.switch_class.member.Member.{Member}
use Rattle.switched_law.specs.declared.switch_class.member.Member.TheVariants as Members
use Rattle.switched_law.specs.SwitchClass.Members.{member_means, made_of}
use Rattle.switched_law.specs.SwitchMoment.Scene.{HasClient, IsClientOf, IsSwitchOf, IsSwitched}
use Rattle.switched_law.specs.SwitchMoment.Takes.{frames_taken}
use Rattle.switched_law.specs.Playing.{IsPlayed, taken_by}
use Rattle.switched_law.proofs.Making.{client_there, switch_there}

-- the clauses of the player's law on which the laws of a play stand
pub record Laws : Type 0 where
  pub last : (rows : List QueueRow) (start : List Member) (turns : List (Turn Member)) → Begins member_means rows start → IsTale member_means (start_of rows start) turns → Holds member_means rows (after_tale (start_of rows start) turns) (passed_by turns) (journal_of turns)
  pub count : (moment : Moment Member) (turns : List (Turn Member)) → IsTale member_means moment turns → length (after_tale moment turns).actors ≡ length moment.actors
  pub parts : (moment : Moment Member) (turns : List (Turn Member)) → IsTale member_means moment turns → (k : ℕ) (x y : Member) → slice_get moment.actors k ≡ Some x → slice_get (after_tale moment turns).actors k ≡ Some y → made_of y ≡ made_of x

module _ (laws : Laws) (ports : Ports) (rows : List QueueRow) (start : List Member) (turns : List (Turn Member)) (p : IsPlayed ports rows start turns) where
  abbrev pub mo : Moment Member
  mo = after_tale (start_of rows start) turns

  abbrev pub passed : Passed
  passed = passed_by turns

  abbrev pub journal : List Entry
  journal = journal_of turns

  abbrev pub ends : Role → ℕ → End
  ends = end_at mo.world

  pub holds : Holds member_means rows mo passed journal
  holds = laws.last rows start turns p.begins p.tale

  pub many : length mo.actors ≡ length ports.macs + 1
  many = laws.count (start_of rows start) turns p.tale ∙ p.made.many

  -- the actor of a place is made as it was at the start
  now_at : (k : ℕ) → k < length ports.macs + 1 → (x : Member) × (y : Member) × (slice_get start k ≡ Some x) × (slice_get mo.actors k ≡ Some y) × (made_of y ≡ made_of x)
  now_at k less =
      let long = p.made.many in
      let now = many in
      let x = there_is start k (omega (arith, less, long)) in
      let y = there_is mo.actors k (omega (arith, less, now)) in
      (x.0, y.0, x.1, y.1, laws.parts (start_of rows start) turns p.tale k x.0 y.0 x.1 y.1)

  -- the client of each port
  pub client_at : (port : ℕ) → port < length ports.macs → (c : NetClient) × (slice_get mo.actors port ≡ Some (Members.Client c)) × IsClientOf ports port c
  client_at port less =
      let mac = there_is ports.macs port less in
      let frames = there_is ports.sends port (let e = p.playable.as_many in omega (arith, less, e)) in
      let now = now_at port (omega (arith, less)) in
      let c = client_there ports port mac.0 frames.0 now.1 mac.1 frames.1 (now.4 ∙ p.made.clients port mac.0 frames.0 now.0 mac.1 frames.1 now.2) in
      (c.0, now.3 ∙ ap Some c.1, c.2)

  -- and the switch behind them
  pub switch_at : (v : NetSwitch) × (slice_get mo.actors (length ports.macs) ≡ Some (Members.Switch v)) × IsSwitchOf ports.macs v
  switch_at =
      let now = now_at (length ports.macs) (omega arith) in
      let v = switch_there ports.macs now.1 (now.4 ∙ p.made.switch now.0 now.2) in
      (v.0, now.3 ∙ ap Some v.1, v.2)

  abbrev pub has_client : (port : ℕ) → port < length ports.macs → HasClient ports port ends passed
  has_client port less =
      let c = client_at port less in
      record {
        client = c.0;
        is = c.2;
        fits = holds.fits port (Members.Client c.0) c.1;
        stands = holds.stands port (Members.Client c.0) c.1;
      }

  same_switch : (v w : NetSwitch) → Members.Switch v ≡ Members.Switch w → v ≡ w
  same_switch v w e = cc

  same_client : (c d : NetClient) → Members.Client c ≡ Members.Client d → c ≡ d
  same_client c d e = cc

  -- so the moment is one of a switch's system
  abbrev pub switched_at : IsSwitched ports ends switch_at.0 passed
  switched_at = record {
    playable = p.playable;
    hands_over = λ n. ((queue_at mo.world n).entries, sym (holds.stands_there n));
    switch = switch_at.2;
    fits = holds.fits (length ports.macs) (Members.Switch switch_at.0) switch_at.1;
    stands = holds.stands (length ports.macs) (Members.Switch switch_at.0) switch_at.1;
    clients = has_client;
  }

  pub switched : (v : NetSwitch) → slice_get mo.actors (length ports.macs) ≡ Some (Members.Switch v) → IsSwitched ports ends v passed
  switched v at = subst (λ w. IsSwitched ports ends w passed) (same_switch switch_at.0 v (some_is (sym switch_at.1 ∙ at))) switched_at

  -- a client stands at a port
  pub below : (port : ℕ) (c : NetClient) → slice_get mo.actors port ≡ Some (Members.Client c) → port < length ports.macs
  below port c at = elim (cases_lt port (length ports.macs)) [
    | inl less ↦ less
    | inr past ↦
        let low = there_below mo.actors port (Members.Client c) at in
        let long = many in
        let same : port ≡ length ports.macs = omega (arith, past, low, long) in
        absurd (no_switch (some_is (sym at ∙ (ap (slice_get mo.actors) same ∙ switch_at.1))))
  ]
    where
      no_switch : Members.Client c ≡ Members.Switch switch_at.0 → ⊥
      no_switch e = cc

  pub client_is : (port : ℕ) (c : NetClient) → slice_get mo.actors port ≡ Some (Members.Client c) → IsClientOf ports port c
  client_is port c at = let less = below port c at in let d = client_at port less in subst (λ x. IsClientOf ports port x) (same_client d.0 c (some_is (sym d.1 ∙ at))) d.2

  pub client_stands : (port : ℕ) (c : NetClient) → slice_get mo.actors port ≡ Some (Members.Client c) → ClientStandsFor c passed
  client_stands port c at = holds.stands port (Members.Client c) at

  -- what the switch took, by the journal
  pub taken_is : frames_taken ports.sends passed.calls ≡ taken_by ports journal
  taken_is = ap (frames_taken ports.sends) holds.calls
