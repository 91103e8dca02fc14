use Rattle.std.proofs.Common.{◌≡◌, ◌+◌, ◌*◌, ◌<◌, ◌≤◌, ℕ, Some, List, [], length, map, slice_get, sym, ap, ◌∙◌, subst}
use Rattle.wire_core.specs.declared.names.QueueRow.{QueueRow}
use Rattle.wire_core.specs.Journal.{nobody, start_history}
use Rattle.wire_core.specs.Marks.{all_sent, ends_of}
use Rattle.play_core.specs.Wants.{Want}
use Rattle.play_core.specs.Still.{IsStill}
use Rattle.play_core.proofs.Lists.{some_is}
use Rattle.small_system.specs.SmallLaw.Wants.{WantsAre}
use Rattle.small_system.specs.Tales.{Turn, start_of, IsTale, after_tale, journal_of, passed_by, running_in}
use Rattle.small_system.specs.Standing.{Begins}
use Rattle.i2c_text.specs.declared.bus.Bus.{Bus}
use Rattle.i2c_virt.specs.declared.i2c_client.client.BusClient.{BusClient}
use Rattle.bus_law.specs.declared.i2c_actors.member.Member.{Member}
use Rattle.bus_law.specs.declared.i2c_actors.member.Member.TheVariants as Members
use Rattle.bus_law.specs.I2cActors.Members.{member_means}
use Rattle.bus_law.specs.Takes.{script_of, requests_taken, granted_replies}
use Rattle.bus_law.specs.Plays.{IsBusTale}
use Rattle.bus_law.specs.Bounds.{hops_of, bus_bound}
use Rattle.bus_law.proofs.Staging.{Laws, holds_now, stage_now}
use Rattle.bus_law.proofs.Replying.{MomentLaw, replies_begin}
use Rattle.bus_law.proofs.Hopping.{hops_few}
use Rattle.bus_law.proofs.Ending.{few_ends}
use Rattle.bus_law.proofs.Wanting.{member_wants, wants_are}
use Rattle.bus_law.proofs.Quieting.{RestLaw, all_of, all_replied, alone_length}
use Rattle.i2c_virt.specs.I2cKit.Grants.{granted_to}

-- How many steps a play has, and what holds at its end.

-- the clauses of the laws on a class
abbrev pub BoundLaw : Type 0
BoundLaw = (rows : List QueueRow) (start : List Member) (turns : List (Turn Member)) (hops ends : ℕ) → Begins member_means rows start → IsTale member_means (start_of rows start) turns → ((a : ℕ) → ends_of a rows ≤ ends) → all_sent (start_history rows) rows (journal_of turns) ≤ hops → length (journal_of turns) < 32 * (hops + length start + 1) * (ends + 1)

abbrev pub StillLaw : Type 0
StillLaw = (rows : List QueueRow) (start : List Member) (turns : List (Turn Member)) (wants : Member → List Want) → Begins member_means rows start → IsTale member_means (start_of rows start) turns → WantsAre member_means wants → running_in member_means (after_tale (start_of rows start) turns) ≡ [] → IsStill nobody (start_history rows) rows (map wants (after_tale (start_of rows start) turns).actors) (journal_of turns)

client_is : {x y : BusClient} → Members.Client x ≡ Members.Client y → x ≡ y
client_is h = cc

module _ (laws : Laws) where
  pub hops_are_few : (bus : Bus) (rows : List QueueRow) (start : List Member) (turns : List (Turn Member)) → IsBusTale bus rows start turns → all_sent (start_history rows) rows (journal_of turns) ≤ hops_of bus
  hops_are_few bus rows start turns play =
      hops_few bus (after_tale (start_of rows start) turns) (passed_by turns) (stage_now laws bus rows start turns play) rows (journal_of turns) (holds_now laws bus rows start turns play) play.queues.many

  pub steps_are_few : BoundLaw → (bus : Bus) (rows : List QueueRow) (start : List Member) (turns : List (Turn Member)) → IsBusTale bus rows start turns → 0 < bus.clients → length (journal_of turns) < bus_bound bus
  steps_are_few bound_law bus rows start turns play some =
      subst (λ k. length (journal_of turns) < 32 * (hops_of bus + k + 1) * (2 * bus.clients + 2 + 1)) play.made.many
      (bound_law rows start turns (hops_of bus) (2 * bus.clients + 2) play.begins play.tale (few_ends bus.clients rows play.queues some) (hops_are_few bus rows start turns play))

  module _ (moment_law : MomentLaw) (still_law : StillLaw) (rest_law : RestLaw) where
    pub all_replies : (bus : Bus) (rows : List QueueRow) (start : List Member) (turns : List (Turn Member)) → IsBusTale bus rows start turns → running_in member_means (after_tale (start_of rows start) turns) ≡ [] → (c : ℕ) → c < bus.clients → (x : BusClient) → slice_get (after_tale (start_of rows start) turns).actors c ≡ Some (Members.Client x) → x.asking.replies.shown ≡ granted_replies bus (journal_of turns) c
    all_replies bus rows start turns play quiet c lt x at =
        let mo = after_tale (start_of rows start) turns in
        let st = stage_now laws bus rows start turns play in
        let cl = st.clients c lt in
        let same : cl.client ≡ x = client_is (some_is (sym cl.there ∙ at)) in
        let still = still_law rows start turns member_wants play.begins play.tale wants_are quiet in
        let many = all_replied rest_law bus mo (passed_by turns) st rows (journal_of turns) play.queues (holds_now laws bus rows start turns play) still c lt in
        all_of x.asking.replies.shown (granted_replies bus (journal_of turns) c) (replies_begin laws moment_law bus rows start turns play c lt x at)
        (ap (λ (y : BusClient). length y.asking.replies.shown) (sym same) ∙ (many ∙ sym (alone_length (granted_to c (requests_taken bus (journal_of turns))) bus.devices (script_of bus c))))
