-- One turn of a switch.
use Rattle.std.proofs.Common.{◌≡◌, ◌&&◌, ℕ, List, false, not, is_some, slice_get, slice_index_or, refl, sym, ap, ◌∙◌, subst}
use Rattle.std.specs.List.{find}
use Rattle.wire_core.specs.declared.names.Event.{Event}
use Rattle.wire_core.specs.Lists.{Passed}
use Rattle.wire_core.specs.Marks.{is_mark}
use Rattle.turn_kit.specs.declared.turns.Turn.{Turn}
use Rattle.turn_kit.specs.Turns.{PostedAt, Turned, choice_of, chosen_place, last_after}
use Rattle.buffer_kit.specs.Clients.{is_so}
use Rattle.net_switch.specs.SwitchDesk.Desks.{is_taking, is_returning, is_wanting, is_loaded, is_free, is_copied, has_copy}
use Rattle.net_switch.specs.declared.switch_desk.slot.Slot.{Slot}
use Rattle.net_switch.specs.declared.switch_desk.desk.Desk.{Desk}
use Rattle.net_switch.specs.declared.ends.SwitchEnd.{SwitchEnd}
use Rattle.net_switch.specs.declared.ends.SwitchEnds.{SwitchEnds}
use Rattle.net_switch.specs.declared.switch.NetSwitch.{NetSwitch}
use Rattle.net_switch.specs.Ends.{IsThere, place_of, need_at, switch_posts}
use Rattle.net_switch.specs.Switching.{SameSwitch, SameDesk, SwitchStandsFor, switch_round}
use Rattle.net_switch.proofs.Rounds.{SameNeeds, turned}

needs_same : (old new : Desk) → SameDesk old new → SameNeeds (is_taking old) (is_returning old) (is_wanting old) (is_loaded old) (is_taking new) (is_returning new) (is_wanting new) (is_loaded new)
needs_same old new same = record {
  taking = λ k. ap (λ (xs : List Slot). is_so is_free (slice_get xs k)) same.slots;
  returning = λ k. ap (λ (xs : List Slot). is_so is_copied (slice_get xs k)) same.slots;
  wanting = λ k. (λ i. is_so (λ (s : Slot). not (has_copy s)) (slice_get (same.slots i) k) && is_some (find (λ x. is_so (λ (s : Slot). slice_index_or s.owed k false) (slice_get (same.slots i) x)) (same.order i)));
  loaded = λ k. ap (λ (xs : List Slot). is_so has_copy (slice_get xs k)) same.slots;
}

pub switch_turned : (old mid new : NetSwitch) (e : Event) (at : SwitchEnd) → place_of old.ends at ≡ chosen_place (choice_of (switch_round old)) → IsThere old.ends at
    → mid ≡ record old { ends = record old.ends { turn = record { last = last_after (choice_of (switch_round old)) } } }
    → PostedAt (switch_posts mid.ends) (place_of mid.ends at) (need_at (is_taking mid.desk) (is_returning mid.desk) (is_wanting mid.desk) (is_loaded mid.desk) at) e (switch_posts new.ends) → SameSwitch mid new → new.ends.turn ≡ mid.ends.turn → (is_mark e.op e.answer ≡ false → SameDesk mid.desk new.desk)
    → Turned (switch_round old) e (switch_round new)
switch_turned old mid new e at place there after posted same turn still =
    let ends : mid.ends ≡ record old.ends { turn = record { last = last_after (choice_of (switch_round old)) } } = ap (λ (v : NetSwitch). v.ends) after in
    let desk : mid.desk ≡ old.desk = ap (λ (v : NetSwitch). v.desk) after in
    turned old.ends mid.ends new.ends (record { last = last_after (choice_of (switch_round old)) }) e at (is_taking old.desk) (is_returning old.desk) (is_wanting old.desk) (is_loaded old.desk) (is_taking new.desk) (is_returning new.desk) (is_wanting new.desk) (is_loaded new.desk)
    ends place there (subst (λ (d : Desk). PostedAt (switch_posts mid.ends) (place_of mid.ends at) (need_at (is_taking d) (is_returning d) (is_wanting d) (is_loaded d) at) e (switch_posts new.ends)) desk posted) same.ends turn refl
    (λ m. needs_same old.desk new.desk (subst (λ (d : Desk). SameDesk d new.desk) desk (still m)))

-- whose turn it is doesn't matter for what it stands for
pub turn_stands : (v : NetSwitch) (turn : Turn) (passed : Passed) → SwitchStandsFor v passed → SwitchStandsFor (record v { ends = record v.ends { turn = turn } }) passed
turn_stands v turn passed h = record { fits = h.fits; ports = h.ports; desk = h.desk; came = h.came; called = h.called }
