use Rattle.std.proofs.Common.{◌≡◌, ◌≢◌, ◌⊎◌, ◌==◌, ◌&&◌, ◌<◌, ℕ, suc, Bool, true, false, Option, None, inl, inr, zero-add, eq-eqb, ne_eqb, is_some, is_none, length, drop, Some, slice_get, slice_index_or, refl, sym, ap, ◌∙◌, subst}
use Rattle.std.proofs.lemmas.Option.{slice_get-get_or}
use Rattle.wire_core.specs.declared.names.QueueId.{QueueId}
use Rattle.wire_core.specs.declared.names.Event.{Event}
use Rattle.turn_kit.specs.declared.turns.Turn.{Turn}
use Rattle.wire_core.specs.Marks.{is_mark}
use Rattle.turn_kit.specs.Posts.{outlet_post, intake_post}
use Rattle.turn_kit.specs.Turns.{Turned, Post, Posted, PostedAt, is_mark_at, choice_of, chosen_place, last_after}
use Rattle.turn_kit.specs.ManyEnds.{intake_queues, intake_posts, outlet_queues, needs_from, is_here}
use Rattle.turn_kit.proofs.Offers.{first, later, get_need}
use Rattle.turn_kit.proofs.Turning.{no_mark_at}
use Rattle.serial_virt.proofs.Sizes.{rx_size, tx_size}
use Rattle.serial_virt.specs.declared.tx.SerialVirtTx.{SerialVirtTx}
use Rattle.std.specs.Option.{option_map}
use Rattle.std.proofs.Math.Dec.{eqb}
use Rattle.std.proofs.lemmas.Bool.Decides.{eqb_tells}
use Rattle.wire_core.specs.Deeds.{Cargo}
use Rattle.serial_virt.specs.declared.rx.SerialVirtRx.{SerialVirtRx}
use Rattle.serial_virt.specs.Receiving.{rx_round, rx_queues, client_posts, place_loaded, is_owed_at}
use Rattle.serial_virt.specs.Sending.{tx_round, tx_queues}

no_queue : QueueId
no_queue = record { 0 = 0 }

-- a client's end of the virtualiser had its turn
pub tx_turned : (old mid new : SerialVirtTx) (t : Turn) (e : Event) (place k : ℕ) → mid ≡ record old { turn = t } → place ≡ chosen_place (choice_of (tx_round old)) → place ≡ suc k → k < length (intake_queues old.inputs)
    → PostedAt (intake_posts mid.inputs) k (is_none mid.load) e (intake_posts new.inputs) → new.output ≡ mid.output → (is_mark e.op e.answer ≡ false → new.load ≡ mid.load) → tx_queues new ≡ tx_queues mid → new.turn ≡ mid.turn → t.last ≡ last_after (choice_of (tx_round old)) → Turned (tx_round old) e (tx_round new)
tx_turned old mid new t e place k after is place_is there posted output still queues turn last =
    let inputs : mid.inputs ≡ old.inputs = ap (λ v. v.inputs) after in
    let load : mid.load ≡ old.load = ap (λ v. v.load) after in
    let posted' : PostedAt (intake_posts old.inputs) k (is_none old.load) e (intake_posts new.inputs) = subst (λ v. PostedAt (intake_posts v.inputs) k (is_none v.load) e (intake_posts new.inputs)) after posted in
    let out : new.output ≡ old.output = output ∙ ap (λ v. v.output) after in
    let same : intake_queues new.inputs ≡ intake_queues old.inputs = ap (drop 1) queues ∙ ap intake_queues inputs in
    let posted'' : PostedAt (tx_round old).posts place (is_none old.load) e (tx_round new).posts = rw (place_is, out) (later (outlet_post old.output) (intake_posts old.inputs) (intake_posts new.inputs) k (is_none old.load) e posted') in
    record {
      place = place;
      need = is_none old.load;
      is_chosen = is;
      needed = rw place_is (get_need (λ place. is_none old.load) 0 (intake_queues old.inputs) k (slice_index_or (intake_queues old.inputs) k no_queue) (slice_get-get_or (intake_queues old.inputs) k no_queue there));
      posted = posted'';
      needs = λ m. rw (same, still (no_mark_at posted''.post e m), load) refl;
      size = tx_size new;
      last = ap (λ t. t.last) (turn ∙ ap (λ v. v.turn) after) ∙ last;
    }

and_true : (b : Bool) → (b && true) ≡ b
and_true true = refl
and_true false = refl

and_none : (b : Bool) → (b && false) ≡ false
and_none true = refl
and_none false = refl

same_test : (a b : ℕ) → ((eqb a b ≡ true) × (a ≡ b)) ⊎ ((eqb a b ≡ false) × (a ≢ b)) → eqb a b ≡ eqb b a
same_test a b (inl same) = same.0 ∙ sym (eq-eqb b a (sym same.1))
same_test a b (inr other) = other.0 ∙ sym (ne_eqb b a (λ e. other.1 (sym e)))

owed_here : (load : Option Cargo) (to k : ℕ) → is_here (option_map (λ c. to) load) k ≡ ((k == to) && is_some load)
owed_here None to k = sym (and_none (k == to))
owed_here (Some c) to k = same_test to k (eqb_tells to k) ∙ sym (and_true (k == to))

owed_at_place : (v : SerialVirtRx) (k : ℕ) → k < length (outlet_queues v.outputs) → slice_get (needs_from (is_here (place_loaded v)) 0 (outlet_queues v.outputs)) k ≡ Some (is_owed_at v k)
owed_at_place v k there = get_need (is_here (place_loaded v)) 0 (outlet_queues v.outputs) k (slice_index_or (outlet_queues v.outputs) k no_queue) (slice_get-get_or (outlet_queues v.outputs) k no_queue there) ∙ (ap (λ n. Some (is_here (place_loaded v) n)) (zero-add k) ∙ ap (λ b. Some b) (owed_here v.load v.to k))

-- a client's end of the receiving virtualiser had its turn
pub rx_turned : (old mid new : SerialVirtRx) (t : Turn) (e : Event) (place k : ℕ) → mid ≡ record old { turn = t } → place ≡ chosen_place (choice_of (rx_round old)) → place ≡ suc k → k < length (outlet_queues old.outputs)
    → PostedAt (client_posts mid) k (is_owed_at mid k) e (client_posts new) → new.input ≡ mid.input → ((p : Post) → slice_get (client_posts mid) k ≡ Some p → is_mark_at p e ≡ false → new.load ≡ mid.load) → new.to ≡ mid.to → rx_queues new ≡ rx_queues mid → new.turn ≡ mid.turn → t.last ≡ last_after (choice_of (rx_round old)) → Turned (rx_round old) e (rx_round new)
rx_turned old mid new t e place k after is place_is there posted input still to queues turn last =
    let posted' : PostedAt (client_posts old) k (is_owed_at old k) e (client_posts new) = subst (λ v. PostedAt (client_posts v) k (is_owed_at v k) e (client_posts new)) after posted in
    let into : new.input ≡ old.input = input ∙ ap (λ v. v.input) after in
    let load : mid.load ≡ old.load = ap (λ v. v.load) after in
    let to' : new.to ≡ old.to = to ∙ ap (λ v. v.to) after in
    let same : outlet_queues new.outputs ≡ outlet_queues old.outputs = ap (drop 1) queues ∙ ap (λ v. outlet_queues v.outputs) after in
    let posted'' : PostedAt (rx_round old).posts place (is_owed_at old k) e (rx_round new).posts = rw (place_is, into) (later (intake_post old.input) (client_posts old) (client_posts new) k (is_owed_at old k) e posted') in
    let at : slice_get (client_posts old) k ≡ Some posted''.post = subst (λ n. slice_get (rx_round old).posts n ≡ Some posted''.post) place_is posted''.there in
    let at' : slice_get (client_posts mid) k ≡ Some posted''.post = subst (λ v. slice_get (client_posts v) k ≡ Some posted''.post) (sym after) at in
    record {
      place = place;
      need = is_owed_at old k;
      is_chosen = is;
      needed = rw place_is (owed_at_place old k there);
      posted = posted'';
      needs = λ m. rw (same, still posted''.post at' m, load, to') refl;
      size = rx_size new;
      last = ap (λ t. t.last) (turn ∙ ap (λ v. v.turn) after) ∙ last;
    }

-- the input of the receiving virtualiser had its turn
pub rx_input_turned : (old mid new : SerialVirtRx) (t : Turn) (e : Event) (place : ℕ) → mid ≡ record old { turn = t } → place ≡ chosen_place (choice_of (rx_round old)) → place ≡ 0
    → Posted (intake_post mid.input) (is_none mid.load) e (intake_post new.input) → new.outputs ≡ mid.outputs → new.drops.items ≡ mid.drops.items → (is_mark e.op e.answer ≡ false → new.load ≡ mid.load) → (is_mark e.op e.answer ≡ false → new.to ≡ mid.to) → new.turn ≡ mid.turn → t.last ≡ last_after (choice_of (rx_round old)) → Turned (rx_round old) e (rx_round new)
rx_input_turned old mid new t e place after is place_is posted outputs policies still to turn last =
    let posted' : Posted (intake_post old.input) (is_none old.load) e (intake_post new.input) = subst (λ v. Posted (intake_post v.input) (is_none v.load) e (intake_post new.input)) after posted in
    let out : new.outputs ≡ old.outputs = outputs ∙ ap (λ v. v.outputs) after in
    let flags : new.drops.items ≡ old.drops.items = policies ∙ ap (λ v. v.drops.items) after in
    let load : mid.load ≡ old.load = ap (λ v. v.load) after in
    let to' : mid.to ≡ old.to = ap (λ v. v.to) after in
    let posted'' : PostedAt (rx_round old).posts place (is_none old.load) e (rx_round new).posts = rw (place_is, out, flags) (first (intake_post old.input) (intake_post new.input) (client_posts old) (is_none old.load) e posted') in
    record {
      place = place;
      need = is_none old.load;
      is_chosen = is;
      needed = rw place_is refl;
      posted = posted'';
      needs = λ m. rw (out, still (no_mark_at posted''.post e m), to (no_mark_at posted''.post e m), load, to') refl;
      size = rx_size new;
      last = ap (λ t. t.last) (turn ∙ ap (λ v. v.turn) after) ∙ last;
    }

-- the output of the sending virtualiser had its turn
pub tx_output_turned : (old mid new : SerialVirtTx) (t : Turn) (e : Event) (place : ℕ) → mid ≡ record old { turn = t } → place ≡ chosen_place (choice_of (tx_round old)) → place ≡ 0
    → Posted (outlet_post mid.output) (is_some mid.load) e (outlet_post new.output) → new.inputs ≡ mid.inputs → (is_mark e.op e.answer ≡ false → new.load ≡ mid.load) → new.turn ≡ mid.turn → t.last ≡ last_after (choice_of (tx_round old)) → Turned (tx_round old) e (tx_round new)
tx_output_turned old mid new t e place after is place_is posted inputs still turn last =
    let posted' : Posted (outlet_post old.output) (is_some old.load) e (outlet_post new.output) = subst (λ v. Posted (outlet_post v.output) (is_some v.load) e (outlet_post new.output)) after posted in
    let ins : new.inputs ≡ old.inputs = inputs ∙ ap (λ v. v.inputs) after in
    let load : mid.load ≡ old.load = ap (λ v. v.load) after in
    let posted'' : PostedAt (tx_round old).posts place (is_some old.load) e (tx_round new).posts = rw (place_is, ins) (first (outlet_post old.output) (outlet_post new.output) (intake_posts old.inputs) (is_some old.load) e posted') in
    record {
      place = place;
      need = is_some old.load;
      is_chosen = is;
      needed = rw place_is refl;
      posted = posted'';
      needs = λ m. rw (ins, still (no_mark_at posted''.post e m), load) refl;
      size = tx_size new;
      last = ap (λ t. t.last) (turn ∙ ap (λ v. v.turn) after) ∙ last;
    }
