-- What of an actor's seats goes kind by kind: where no end of its sheet stands twice, its ends on
-- each side are of queues of their own; and its part tells what its queues carry.
use Rattle.std.proofs.Common.{◌≡◌, ℕ, suc, Some, List, [], ◌∷◌, map, flat_map, slice_get, refl, sym, ap, ◌∙◌, arith, inl, inr}
use Rattle.wire_core.specs.declared.names.QueueId.{QueueId}
use Rattle.wire_core.specs.Ends.{Role, Consumer, Producer}
use Rattle.turn_kit.specs.ManyEnds.{AreApart as AreQueuesApart, intake_queues, outlet_queues}
use Rattle.turn_kit.specs.declared.pipe.Pipe.{Pipe}
use Rattle.pipe_driver.specs.Drivers.{IsOneOf, IsNoneOf, AreDistinct, inputs_of, outputs_of}
use Rattle.play_core.specs.Moved.{Seat}
use Rattle.play_core.specs.Wants.{intake, outlet}
use Rattle.play_core.specs.Sheets.{Scene, AreApart}
use Rattle.play_core.proofs.Lists.{map_get}
use Rattle.eth_driver.specs.Four.{four_pipes}
use Rattle.buffer_kit.specs.declared.virt_ends.VirtEnds.{VirtEnds}
use Rattle.buffer_kit.specs.Virtualising.{from_queues, to_queues}
use Rattle.net_law.specs.Parts.Table.{way_ends}
use Rattle.net_law.specs.Parts.Playing.{way_of}
use Rattle.net_law.proofs.PartsLemmas.Pairs.{twice, twice_same}
use Rattle.actor_set.specs.Actors.{IsWhole, numbers, part_of}
use Rattle.actor_set.specs.StartStates.{HasApartEnds, HasApartQueues, kind_at}
use Rattle.actor_set.specs.declared.actor.Actor.{Actor}
use Rattle.actor_set.specs.declared.actor.Actor.TheVariants as Kinds
use Rattle.actor_set.specs.Laws.Kinds.{part_kind, sheet}
use Rattle.actor_set.proofs.LawsLemmas.NetEnds.{pipes_to, receiver_in, receiver_out}
use Rattle.actor_set.proofs.LawsLemmas.TxEnds.{sender_in, sender_out}
use Rattle.actor_set.proofs.LawsLemmas.BlkEnds.{server_in, server_out}
use Rattle.actor_set.proofs.LawsLemmas.PartEnds.{number_there}

-- what the queues of an actor carry
pub kind_is : (x : Actor) (r : Role) (n : ℕ) → kind_at x r n ≡ part_kind (part_of x) r n
kind_is (Kinds.UartDevice x) r n = refl
kind_is (Kinds.UartDriver x) r n = refl
kind_is (Kinds.SerialVirtRx x) r n = refl
kind_is (Kinds.SerialVirtTx x) r n = refl
kind_is (Kinds.SerialClient x) r n = refl
kind_is (Kinds.EthDevice x) r n = refl
kind_is (Kinds.EthDriver x) r n = refl
kind_is (Kinds.NetVirtRx x) r n = refl
kind_is (Kinds.NetCopier x) r n = refl
kind_is (Kinds.NetClient x) r n = refl
kind_is (Kinds.NetVirtTx x) r n = refl
kind_is (Kinds.DiskDevice x) r n = refl
kind_is (Kinds.BlkClient x) r n = refl
kind_is (Kinds.Rogue x) r n = refl
kind_is (Kinds.BlkDriver x) Consumer n = refl
kind_is (Kinds.BlkDriver x) Producer n = refl
kind_is (Kinds.BlkVirt x) Consumer n = refl
kind_is (Kinds.BlkVirt x) Producer n = refl

-- four ends, two on each side
turns_apart : (a b c d : ℕ) → AreApart (intake a ∷ outlet b ∷ intake c ∷ outlet d ∷ []) → (a ≡ c → ⊥) × (b ≡ d → ⊥)
turns_apart a b c d apart = (
  λ e. let no : 0 ≡ 2 = apart 0 2 (intake a) refl (ap (λ n. Some (intake n)) (sym e)) in cc,
  λ e. let no : 1 ≡ 3 = apart 1 3 (outlet b) refl (ap (λ n. Some (outlet n)) (sym e)) in cc,
)

twos_apart : (a b c d : ℕ) → AreApart (intake a ∷ intake b ∷ outlet c ∷ outlet d ∷ []) → (a ≡ b → ⊥) × (c ≡ d → ⊥)
twos_apart a b c d apart = (
  λ e. let no : 0 ≡ 1 = apart 0 1 (intake a) refl (ap (λ n. Some (intake n)) (sym e)) in cc,
  λ e. let no : 2 ≡ 3 = apart 2 3 (outlet c) refl (ap (λ n. Some (outlet n)) (sym e)) in cc,
)

-- an end and others after it, one for each client
clients_apart : (end : ℕ → Seat) (first : Seat) (qs : List QueueId) → AreApart (first ∷ map end (numbers qs)) → AreQueuesApart qs
clients_apart end first qs apart k j q q' at at' e =
    let here = map_get end (numbers qs) k q.0 (number_there qs k q q.0 at refl) in
    let there = map_get end (numbers qs) j q.0 (number_there qs j q' q.0 at' e) in
    let same : suc k ≡ suc j = apart (suc k) (suc j) (end q.0) here there in
    omega (arith, same)

-- a driver's ends
abbrev way_seats : List Pipe → List Seat
way_seats ps = flat_map way_ends (map way_of ps)

rest_apart : (a b : Seat) (seats : List Seat) → AreApart (a ∷ b ∷ seats) → AreApart seats
rest_apart a b seats apart i j s at at' = let same : suc (suc i) ≡ suc (suc j) = apart (suc (suc i)) (suc (suc j)) s at at' in omega (arith, same)

none_of : (n : ℕ) (ms : List ℕ) → ((m : ℕ) → IsOneOf m ms → n ≡ m → ⊥) → IsNoneOf n ms
none_of n [] none = tt
none_of n (m ∷ ms) none = (none m (inl refl), none_of n ms (λ k h. none k (inr h)))

inputs_apart : (ps : List Pipe) → AreApart (way_seats ps) → AreDistinct (inputs_of ps)
inputs_apart [] apart = tt
inputs_apart (p ∷ ps) apart = (
  none_of p.input.queue.0 (inputs_of ps) (λ m h e. let i = pipes_to ps Consumer m h in let no : 0 ≡ suc (suc i.0) = apart 0 (suc (suc i.0)) (intake p.input.queue.0) refl (i.1 ∙ ap (λ n. Some (intake n)) (sym e)) in cc),
  inputs_apart ps (rest_apart (intake p.input.queue.0) (outlet p.output.queue.0) (way_seats ps) apart),
)

outputs_apart : (ps : List Pipe) → AreApart (way_seats ps) → AreDistinct (outputs_of ps)
outputs_apart [] apart = tt
outputs_apart (p ∷ ps) apart = (
  none_of p.output.queue.0 (outputs_of ps) (λ m h e. let i = pipes_to ps Producer m h in let no : 1 ≡ suc (suc i.0) = apart 1 (suc (suc i.0)) (outlet p.output.queue.0) refl (i.1 ∙ ap (λ n. Some (outlet n)) (sym e)) in cc),
  outputs_apart ps (rest_apart (intake p.input.queue.0) (outlet p.output.queue.0) (way_seats ps) apart),
)

-- a virtualiser's ends, where those of its clients stand after its first two
queues_apart : (v : VirtEnds) (clients : List Seat) (in_at out_at : ℕ → ℕ) → ((k j : ℕ) → in_at k ≡ in_at j → k ≡ j) → ((k j : ℕ) → out_at k ≡ out_at j → k ≡ j)
    → ((k : ℕ) (q : QueueId) → slice_get (from_queues v) k ≡ Some q → slice_get (intake v.input.queue.0 ∷ outlet v.output.queue.0 ∷ clients) (suc (suc (in_at k))) ≡ Some (intake q.0))
    → ((k : ℕ) (q : QueueId) → slice_get (to_queues v) k ≡ Some q → slice_get (intake v.input.queue.0 ∷ outlet v.output.queue.0 ∷ clients) (suc (suc (out_at k))) ≡ Some (outlet q.0))
    → AreApart (intake v.input.queue.0 ∷ outlet v.output.queue.0 ∷ clients) → HasApartQueues v
queues_apart v clients in_at out_at ins outs from to apart = record {
  from = λ k j q q' at at' e. let same : suc (suc (in_at k)) ≡ suc (suc (in_at j)) = apart (suc (suc (in_at k))) (suc (suc (in_at j))) (intake q.0) (from k q at) (from j q' at' ∙ ap (λ n. Some (intake n)) (sym e)) in ins k j (omega (arith, same));
  to = λ k j q q' at at' e. let same : suc (suc (out_at k)) ≡ suc (suc (out_at j)) = apart (suc (suc (out_at k))) (suc (suc (out_at j))) (outlet q.0) (to k q at) (to j q' at' ∙ ap (λ n. Some (outlet n)) (sym e)) in outs k j (omega (arith, same));
  input = λ k q at e. let no : 0 ≡ suc (suc (in_at k)) = apart 0 (suc (suc (in_at k))) (intake q.0) (ap (λ n. Some (intake n)) e) (from k q at) in cc;
  output = λ k q at e. let no : 1 ≡ suc (suc (out_at k)) = apart 1 (suc (suc (out_at k))) (outlet q.0) (ap (λ n. Some (outlet n)) e) (to k q at) in cc;
}

once : (k j : ℕ) → suc (twice k) ≡ suc (twice j) → k ≡ j
once k j e = let same : twice k ≡ twice j = omega (arith, e) in twice_same k j same

-- an actor's ends on each side are of queues of their own
pub apart_ends : (scene : Scene) (x : Actor) → IsWhole x → AreApart (sheet scene (part_of x)).ends → HasApartEnds x
apart_ends scene (Kinds.UartDevice x) whole apart = tt
apart_ends scene (Kinds.SerialClient x) whole apart = tt
apart_ends scene (Kinds.UartDriver x) whole apart = turns_apart _ _ _ _ apart
apart_ends scene (Kinds.SerialVirtRx x) whole apart = clients_apart outlet (intake x.input.queue.0) (outlet_queues x.outputs) apart
apart_ends scene (Kinds.SerialVirtTx x) whole apart = clients_apart intake (outlet x.output.queue.0) (intake_queues x.inputs) apart
apart_ends scene (Kinds.EthDevice x) whole apart = turns_apart _ _ _ _ apart
apart_ends scene (Kinds.EthDriver x) whole apart = (inputs_apart (four_pipes x.driver.pipes) apart, outputs_apart (four_pipes x.driver.pipes) apart)
apart_ends scene (Kinds.NetVirtRx x) whole apart = queues_apart x.ends _ (λ k. suc (twice k)) twice once twice_same (receiver_in x whole.from_each whole.to_each) (receiver_out x whole.from_each whole.to_each) apart
apart_ends scene (Kinds.NetCopier x) whole apart = twos_apart _ _ _ _ apart
apart_ends scene (Kinds.NetClient x) whole apart = turns_apart _ _ _ _ apart
apart_ends scene (Kinds.NetVirtTx x) whole apart = queues_apart x.ends _ twice (λ k. suc (twice k)) twice_same once (sender_in x whole.from_each whole.to_each) (sender_out x whole.from_each whole.to_each) apart
apart_ends scene (Kinds.DiskDevice x) whole apart = tt
apart_ends scene (Kinds.BlkDriver x) whole apart = turns_apart _ _ _ _ apart
apart_ends scene (Kinds.BlkVirt x) whole apart = queues_apart x.ends _ twice (λ k. suc (twice k)) twice_same once (server_in x whole.from_each whole.to_each) (server_out x whole.from_each whole.to_each) apart
apart_ends scene (Kinds.BlkClient x) whole apart = tt
apart_ends scene (Kinds.Rogue x) whole apart = tt
