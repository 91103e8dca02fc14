use Rattle.std.proofs.Common.{◌≡◌, ◌≤◌, ℕ, suc, Bool, true, false, is_none, List, [], ◌∷◌, map, option_to_list, refl, sym, ap, ◌∙◌}
use Rattle.wire_core.specs.declared.names.QueueId.{QueueId}
use Rattle.wire_core.specs.declared.names.Event.{Event}
use Rattle.wire_core.specs.Ends.{Producer}
use Rattle.wire_core.specs.Lists.{Passed}
use Rattle.wire_core.specs.Fates.{marked, noes_at}
use Rattle.turn_kit.specs.Turns.{Post, Round}
use Rattle.turn_kit.specs.Posts.{intake_post, outlet_post}
use Rattle.turn_kit.specs.ManyEnds.{outlet_queues, needs_from, is_here}
use Rattle.turn_kit.specs.Dropping.{dropping, with_drops}
use Rattle.turn_kit.specs.declared.ends.Outlet.{Outlet}
use Rattle.class_expect.specs.SerialSwitch.Carried.{byte_cargo, bytes_carried}
use Rattle.class_expect.specs.SerialSwitch.Switching.{input_of}
use Rattle.serial_virt.specs.declared.rx.SerialVirtRx.{SerialVirtRx}
use Rattle.serial_virt.specs.Shares.{AllHold, byte_fate}
use Rattle.serial_virt.specs.Receiving.{RxStandsFor, RxRow, HoldingRxStands, HoldingRxRow, rx_round, holding_rx_round, clients_of, taker_of, owed_to, place_loaded}
use Rattle.serial_virt.proofs.Sharing.{few_load}
use Rattle.serial_virt.proofs.Taking.{all_stay, few_bytes, hold_client, held_client}

-- a virtualiser that waits for each client
module _ (v : SerialVirtRx) (passed : Passed) (all : AllHold v.drops.items) where
  abbrev rx : ℕ
  rx = v.input.queue.0

  abbrev part : ℕ → List ℕ
  part k = input_of (clients_of v) k (bytes_carried (passed.taken rx))

  pub holds : RxRow v passed → HoldingRxRow v passed
  holds row = record {
    owner = row.owner;
    owed = row.owed;
    few = row.few;
    given = λ k q at. row.given k q at ∙ ap (map byte_cargo) (all_stay rx (taker_of v k q) (all k) passed.calls (part k));
  }

  pub held : HoldingRxRow v passed → RxRow v passed
  held row = record {
    owner = row.owner;
    owed = row.owed;
    few = row.few;
    given = λ k q at. row.given k q at ∙ sym (ap (map byte_cargo) (all_stay rx (taker_of v k q) (all k) passed.calls (part k)));
    settled = λ k q at on. let no : true ≡ false = sym on ∙ all k in absurd cc;
    each = λ k q at on. let no : true ≡ false = sym on ∙ all k in absurd cc;
  }

  pub stands_held : RxStandsFor v passed → HoldingRxStands v passed
  stands_held h = record {
    switched = h.switched;
    to = h.to;
    given = λ k q at. held_client rx (taker_of v k q) (all k) passed.calls (noes_at Producer q.0 passed.calls) (part k) (passed.sent q.0) (owed_to v.load v.to k) (h.clients k q at);
  }

  pub held_stands : HoldingRxStands v passed → RxStandsFor v passed
  held_stands h = record {
    switched = h.switched;
    to = h.to;
    told = λ k on. let no : true ≡ false = sym on ∙ all k in absurd cc;
    clients = λ k q at. hold_client rx (taker_of v k q) (all k) passed.calls (noes_at Producer q.0 passed.calls) (part k) (passed.sent q.0) (owed_to v.load v.to k) (h.given k q at);
  }

-- ends where nothing is dropped are as they are kept
hold_posts : (ds : List Bool) (xs : List Outlet) → AllHold ds → with_drops ds (map outlet_post xs) ≡ map outlet_post xs
hold_posts [] xs all = refl
hold_posts (d ∷ ds) [] all = refl
hold_posts (d ∷ ds) (x ∷ xs) all =
    let here : d ≡ false = all 0 in
    let first : dropping d (outlet_post x) ≡ outlet_post x = ap (λ b. dropping b (outlet_post x)) here in
    ap (λ p. p ∷ with_drops ds (map outlet_post xs)) first ∙ ap (λ ps. outlet_post x ∷ ps) (hold_posts ds xs (λ k. all (suc k)))

-- its ends, by those where bytes go
abbrev round_by : SerialVirtRx → List Post → Round
round_by v ps = record {
  posts = intake_post v.input ∷ ps;
  needs = is_none v.load ∷ needs_from (is_here (place_loaded v)) 0 (outlet_queues v.outputs);
  last = v.turn.last;
}

pub round_held : (v : SerialVirtRx) → AllHold v.drops.items → rx_round v ≡ holding_rx_round v
round_held v all = ap (round_by v) (hold_posts v.drops.items v.outputs.ends.items all)

pub few_of : (v : SerialVirtRx) (k : ℕ) (q : QueueId) (calls : List Event) → marked (byte_fate v.input.queue.0 (taker_of v k q) calls).dropped ≤ noes_at Producer q.0 calls
few_of v k q calls = few_bytes v.input.queue.0 (taker_of v k q) calls

-- the row of one that never drops
pub held_row : (v : SerialVirtRx) (passed : Passed) → HoldingRxStands v passed → HoldingRxRow v passed
held_row v passed h = record { owner = v.to; owed = option_to_list v.load; few = few_load v.load; given = h.given }
