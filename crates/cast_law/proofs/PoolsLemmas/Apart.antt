-- No actor has an end twice, where no two of its ends on one side are of one queue.
use Rattle.std.proofs.Common.{◌≡◌, ◌⊎◌, ◌++◌, ℕ, zero, suc, All, Some, List, [], ◌∷◌, map, flat_map, slice_get, refl, sym, ap, ◌∙◌, arith, inl, inr}
use Rattle.wire_core.specs.declared.names.QueueId.{QueueId}
use Rattle.wire_core.specs.Ends.{Role, Consumer, Producer, End}
use Rattle.play_core.specs.Moved.{Seat}
use Rattle.play_core.specs.Sheets.{Scene, AreApart}
use Rattle.play_core.specs.Wants.{intake, outlet}
use Rattle.play_core.proofs.Lists.{some_is, map_from}
use Rattle.turn_kit.specs.ManyEnds.{AreApart as QueuesApart, intake_queues, outlet_queues}
use Rattle.turn_kit.specs.declared.pipe.Pipe.{Pipe}
use Rattle.pipe_driver.specs.Drivers.{AreDistinct, IsNoneOf, inputs_of, outputs_of}
use Rattle.pipe_driver.specs.Lengths.{two_pipes}
use Rattle.eth_driver.specs.Four.{four_pipes}
use Rattle.device_model.specs.Ethernet.Devices as device
use Rattle.client_programs.specs.Net.Clients as client
use Rattle.client_programs.specs.Rogue.Clients.{AreApart as NoneTwice}
use Rattle.buffer_kit.specs.Virtualising.{FitsVirt, from_queues, to_queues}
use Rattle.net_virt_rx.specs.declared.NetVirtRx.{NetVirtRx}
use Rattle.net_virt_tx.specs.declared.NetVirtTx.{NetVirtTx}
use Rattle.net_virt_tx.specs.declared.descriptors.Sender.{Sender}
use Rattle.net_virt_tx.specs.Traffics.{senders}
use Rattle.net_law.specs.Parts.Parts.{Lessee}
use Rattle.net_law.specs.Parts.Playing.{way_of, lessees_of}
use Rattle.net_law.specs.Parts.Table.{way_ends, lessee_ends}
use Rattle.net_law.specs.TxParts.Parts.{Shipper}
use Rattle.net_law.specs.TxParts.Playing.{shippers, send_part}
use Rattle.net_law.specs.TxParts.Table.{shipper_ends}
use Rattle.net_law.proofs.PartsLemmas.Leasing.{Served, served_at}
use Rattle.device_model.specs.Disk.Disks as disk
use Rattle.client_programs.specs.Blk.Clients as asker
use Rattle.blk_virt.specs.Desks.{holders}
use Rattle.blk_virt.specs.Ends.{FitsEnds}
use Rattle.blk_virt.specs.declared.requests.Holder.{Holder}
use Rattle.blk_virt.specs.declared.virtualiser.BlkVirt.{BlkVirt}
use Rattle.blk_law.specs.Sheets.Parts.{Sharer}
use Rattle.blk_law.specs.Sheets.Playing.{sharers}
use Rattle.blk_law.specs.Sheets.Table.{sharer_ends}
use Rattle.actor_set.specs.Actors.{FitsActor, part_of, numbers}
use Rattle.actor_set.specs.declared.actor.Actor.{Actor}
use Rattle.actor_set.specs.declared.actor.Actor.TheVariants as Kinds
use Rattle.actor_set.specs.Laws.Kinds.{sheet}

-- an end is none of these
abbrev IsAway : Seat → List Seat → Type 0
IsAway s seats = (i : ℕ) → slice_get seats i ≡ Some s → ⊥

apart_none : AreApart []
apart_none i j s at there = cc

apart_more : (s : Seat) (seats : List Seat) → IsAway s seats → AreApart seats → AreApart (s ∷ seats)
apart_more s seats off rest zero zero x at there = refl
apart_more s seats off rest zero (suc j) x at there = absurd (off j (there ∙ sym at))
apart_more s seats off rest (suc i) zero x at there = absurd (off i (at ∙ sym there))
apart_more s seats off rest (suc i) (suc j) x at there = ap suc (rest i j x at there)

off_none : (s : Seat) → IsAway s []
off_none s i at = cc

off_more : (s x : Seat) (seats : List Seat) → (x ≡ s → ⊥) → IsAway s seats → IsAway s (x ∷ seats)
off_more s x seats ne rest zero at = ne (some_is at)
off_more s x seats ne rest (suc i) at = rest i at

-- ends of other queues, and on other sides
in_away : (a b : ℕ) → (a ≡ b → ⊥) → intake a ≡ intake b → ⊥
in_away a b ne e = ne (ap (λ (s : Seat). s.queue) e)

out_away : (a b : ℕ) → (a ≡ b → ⊥) → outlet a ≡ outlet b → ⊥
out_away a b ne e = ne (ap (λ (s : Seat). s.queue) e)

in_out : (a b : ℕ) → intake a ≡ outlet b → ⊥
in_out a b e = let roles : Consumer ≡ Producer = ap (λ (s : Seat). s.role) e in cc

out_in : (a b : ℕ) → outlet a ≡ intake b → ⊥
out_in a b e = let roles : Producer ≡ Consumer = ap (λ (s : Seat). s.role) e in cc

-- an end on each side
one_each : (a b : ℕ) → AreApart (intake a ∷ outlet b ∷ [])
one_each a b = apart_more (intake a) (outlet b ∷ []) (off_more (intake a) (outlet b) [] (out_in b a) (off_none (intake a))) (apart_more (outlet b) [] (off_none (outlet b)) apart_none)

-- two on each side, one after the other
by_turns : (a b c d : ℕ) → (a ≡ c → ⊥) → (b ≡ d → ⊥) → AreApart (intake a ∷ outlet b ∷ intake c ∷ outlet d ∷ [])
by_turns a b c d ac bd =
    let third : List Seat = intake c ∷ outlet d ∷ [] in
    apart_more (intake a) (outlet b ∷ third) (off_more (intake a) (outlet b) third (out_in b a) (off_more (intake a) (intake c) (outlet d ∷ []) (in_away c a (λ e. ac (sym e))) (off_more (intake a) (outlet d) [] (out_in d a) (off_none (intake a)))))
    (apart_more (outlet b) third (off_more (outlet b) (intake c) (outlet d ∷ []) (in_out c b) (off_more (outlet b) (outlet d) [] (out_away d b (λ e. bd (sym e))) (off_none (outlet b)))) (one_each c d))

-- or one side after the other
by_twos : (a b c d : ℕ) → (a ≡ b → ⊥) → (c ≡ d → ⊥) → AreApart (intake a ∷ intake b ∷ outlet c ∷ outlet d ∷ [])
by_twos a b c d ab cd =
    let third : List Seat = outlet c ∷ outlet d ∷ [] in
    apart_more (intake a) (intake b ∷ third) (off_more (intake a) (intake b) third (in_away b a (λ e. ab (sym e))) (off_more (intake a) (outlet c) (outlet d ∷ []) (out_in c a) (off_more (intake a) (outlet d) [] (out_in d a) (off_none (intake a)))))
    (apart_more (intake b) third (off_more (intake b) (outlet c) (outlet d ∷ []) (out_in c b) (off_more (intake b) (outlet d) [] (out_in d b) (off_none (intake b))))
    (apart_more (outlet c) (outlet d ∷ []) (off_more (outlet c) (outlet d) [] (out_away d c (λ e. cd (sym e))) (off_none (outlet c))) (apart_more (outlet d) [] (off_none (outlet d)) apart_none)))

-- many on one side
abbrev Distinct : List ℕ → Type 0
Distinct ns = (i j n : ℕ) → slice_get ns i ≡ Some n → slice_get ns j ≡ Some n → i ≡ j

suc_is : {a b : ℕ} → suc a ≡ suc b → a ≡ b
suc_is {a} {b} h = omega (arith, h)

queues_distinct : (qs : List QueueId) → QueuesApart qs → Distinct (numbers qs)
queues_distinct qs apart i j n at there =
    let x = map_from (λ (q : QueueId). q.0) qs i n at in
    let y = map_from (λ (q : QueueId). q.0) qs j n there in
    apart i j x.0 y.0 x.1 y.1 (x.2 ∙ sym y.2)

ins_apart : (ns : List ℕ) → Distinct ns → AreApart (map intake ns)
ins_apart ns distinct i j s at there =
    let x = map_from intake ns i s at in
    let y = map_from intake ns j s there in
    let same : x.0 ≡ y.0 = ap (λ (z : Seat). z.queue) (x.2 ∙ sym y.2) in
    distinct i j x.0 x.1 (y.1 ∙ ap Some (sym same))

outs_apart : (ns : List ℕ) → Distinct ns → AreApart (map outlet ns)
outs_apart ns distinct i j s at there =
    let x = map_from outlet ns i s at in
    let y = map_from outlet ns j s there in
    let same : x.0 ≡ y.0 = ap (λ (z : Seat). z.queue) (x.2 ∙ sym y.2) in
    distinct i j x.0 x.1 (y.1 ∙ ap Some (sym same))

-- many on both sides, the inputs first
all_away : (n : ℕ) (ns : List ℕ) → All (λ m. n ≡ m → ⊥) ns → (i : ℕ) → slice_get ns i ≡ Some n → ⊥
all_away n [] all i at = cc
all_away n (m ∷ ns) all zero at = all 0 m (omega arith) (sym (some_is at))
all_away n (m ∷ ns) all (suc i) at = all_away n ns (λ k d h. all (suc k) d (omega (arith, h))) i at

all_distinct : (ns : List ℕ) → NoneTwice ns → Distinct ns
all_distinct [] apart i j n at there = cc
all_distinct (m ∷ ns) apart zero zero n at there = refl
all_distinct (m ∷ ns) apart zero (suc j) n at there = absurd (all_away m ns apart.0 j (there ∙ sym at))
all_distinct (m ∷ ns) apart (suc i) zero n at there = absurd (all_away m ns apart.0 i (at ∙ sym there))
all_distinct (m ∷ ns) apart (suc i) (suc j) n at there = ap suc (all_distinct ns apart.1 i j n at there)

in_of_both : (a : ℕ) (ins outs : List ℕ) → ((i : ℕ) → slice_get ins i ≡ Some a → ⊥) → IsAway (intake a) (map intake ins ++ map outlet outs)
in_of_both a [] outs off i at = let x = map_from outlet outs i (intake a) at in out_in x.0 a x.2
in_of_both a (n ∷ ins) outs off zero at = off 0 (ap (λ (s : Seat). Some s.queue) (some_is at))
in_of_both a (n ∷ ins) outs off (suc i) at = in_of_both a ins outs (λ k. off (suc k)) i at

both_apart : (ins outs : List ℕ) → Distinct ins → Distinct outs → AreApart (map intake ins ++ map outlet outs)
both_apart [] outs one two = outs_apart outs two
both_apart (n ∷ ins) outs one two =
    apart_more (intake n) (map intake ins ++ map outlet outs)
    (in_of_both n ins outs (λ i at. let e : suc i ≡ 0 = one (suc i) 0 n at refl in omega (arith, e)))
    (both_apart ins outs (λ i j m at there. suc_is (one (suc i) (suc j) m at there)) two)

in_of_outs : (a : ℕ) (ns : List ℕ) → IsAway (intake a) (map outlet ns)
in_of_outs a ns i at = let x = map_from outlet ns i (intake a) at in out_in x.0 a x.2

out_of_ins : (a : ℕ) (ns : List ℕ) → IsAway (outlet a) (map intake ns)
out_of_ins a ns i at = let x = map_from intake ns i (outlet a) at in in_out x.0 a x.2

-- pairs of ends, one after another, each with one end on each side
module _ {X : Type 0} (a b : X → ℕ) where
  abbrev pub pairs : List X → List Seat
  pairs xs = flat_map (λ x. outlet (a x) ∷ intake (b x) ∷ []) xs

  abbrev pub PairsApart : List X → Type 0
  PairsApart xs = (i j : ℕ) (x y : X) → slice_get xs i ≡ Some x → slice_get xs j ≡ Some y → (a x ≡ a y) ⊎ (b x ≡ b y) → i ≡ j

  out_off : (n : ℕ) (xs : List X) → ((i : ℕ) (x : X) → slice_get xs i ≡ Some x → n ≡ a x → ⊥) → IsAway (outlet n) (pairs xs)
  out_off n [] off i at = cc
  out_off n (x ∷ xs) off zero at = off 0 x refl (sym (ap (λ (s : Seat). s.queue) (some_is at)))
  out_off n (x ∷ xs) off (suc zero) at = in_out (b x) n (some_is at)
  out_off n (x ∷ xs) off (suc (suc i)) at = out_off n xs (λ j y y_at. off (suc j) y y_at) i at

  in_off : (n : ℕ) (xs : List X) → ((i : ℕ) (x : X) → slice_get xs i ≡ Some x → n ≡ b x → ⊥) → IsAway (intake n) (pairs xs)
  in_off n [] off i at = cc
  in_off n (x ∷ xs) off zero at = out_in (a x) n (some_is at)
  in_off n (x ∷ xs) off (suc zero) at = off 0 x refl (sym (ap (λ (s : Seat). s.queue) (some_is at)))
  in_off n (x ∷ xs) off (suc (suc i)) at = in_off n xs (λ j y y_at. off (suc j) y y_at) i at

  pairs_apart : (xs : List X) → PairsApart xs → AreApart (pairs xs)
  pairs_apart [] apart = apart_none
  pairs_apart (x ∷ xs) apart =
      let rest : List Seat = pairs xs in
      let outs : IsAway (outlet (a x)) rest = out_off (a x) xs (λ i y at e. never i (apart 0 (suc i) x y refl at (inl e))) in
      let ins : IsAway (intake (b x)) rest = in_off (b x) xs (λ i y at e. never i (apart 0 (suc i) x y refl at (inr e))) in
      apart_more (outlet (a x)) (intake (b x) ∷ rest) (off_more (outlet (a x)) (intake (b x)) rest (in_out (b x) (a x)) outs) (apart_more (intake (b x)) rest ins (pairs_apart xs (λ i j y z at there e. suc_is (apart (suc i) (suc j) y z at there e))))
    where
      never : (i : ℕ) → 0 ≡ suc i → ⊥
      never i e = cc

  -- after two ends of other queues
  pub after_apart : (i o : ℕ) (xs : List X) → ((k : ℕ) (x : X) → slice_get xs k ≡ Some x → i ≡ b x → ⊥) → ((k : ℕ) (x : X) → slice_get xs k ≡ Some x → o ≡ a x → ⊥) → PairsApart xs → AreApart (intake i ∷ outlet o ∷ pairs xs)
  after_apart i o xs ins outs apart =
      apart_more (intake i) (outlet o ∷ pairs xs) (off_more (intake i) (outlet o) (pairs xs) (out_in o i) (in_off i xs ins)) (apart_more (outlet o) (pairs xs) (out_off o xs outs) (pairs_apart xs apart))

-- the other way round: each pair takes first
module _ {X : Type 0} (a b : X → ℕ) where
  abbrev turned : List X → List Seat
  turned xs = flat_map (λ x. intake (a x) ∷ outlet (b x) ∷ []) xs

  turned_in_off : (n : ℕ) (xs : List X) → ((i : ℕ) (x : X) → slice_get xs i ≡ Some x → n ≡ a x → ⊥) → IsAway (intake n) (turned xs)
  turned_in_off n [] off i at = cc
  turned_in_off n (x ∷ xs) off zero at = off 0 x refl (sym (ap (λ (s : Seat). s.queue) (some_is at)))
  turned_in_off n (x ∷ xs) off (suc zero) at = out_in (b x) n (some_is at)
  turned_in_off n (x ∷ xs) off (suc (suc i)) at = turned_in_off n xs (λ j y y_at. off (suc j) y y_at) i at

  turned_out_off : (n : ℕ) (xs : List X) → ((i : ℕ) (x : X) → slice_get xs i ≡ Some x → n ≡ b x → ⊥) → IsAway (outlet n) (turned xs)
  turned_out_off n [] off i at = cc
  turned_out_off n (x ∷ xs) off zero at = in_out (a x) n (some_is at)
  turned_out_off n (x ∷ xs) off (suc zero) at = off 0 x refl (sym (ap (λ (s : Seat). s.queue) (some_is at)))
  turned_out_off n (x ∷ xs) off (suc (suc i)) at = turned_out_off n xs (λ j y y_at. off (suc j) y y_at) i at

  turned_apart : (xs : List X) → PairsApart a b xs → AreApart (turned xs)
  turned_apart [] apart = apart_none
  turned_apart (x ∷ xs) apart =
      let rest : List Seat = turned xs in
      let ins : IsAway (intake (a x)) rest = turned_in_off (a x) xs (λ i y at e. never i (apart 0 (suc i) x y refl at (inl e))) in
      let outs : IsAway (outlet (b x)) rest = turned_out_off (b x) xs (λ i y at e. never i (apart 0 (suc i) x y refl at (inr e))) in
      apart_more (intake (a x)) (outlet (b x) ∷ rest) (off_more (intake (a x)) (outlet (b x)) rest (out_in (b x) (a x)) ins) (apart_more (outlet (b x)) rest outs (turned_apart xs (λ i j y z at there e. suc_is (apart (suc i) (suc j) y z at there e))))
    where
      never : (i : ℕ) → 0 ≡ suc i → ⊥
      never i e = cc

  after_in_out : (i o : ℕ) (xs : List X) → ((k : ℕ) (x : X) → slice_get xs k ≡ Some x → i ≡ a x → ⊥) → ((k : ℕ) (x : X) → slice_get xs k ≡ Some x → o ≡ b x → ⊥) → PairsApart a b xs → AreApart (intake i ∷ outlet o ∷ turned xs)
  after_in_out i o xs ins outs apart =
      apart_more (intake i) (outlet o ∷ turned xs) (off_more (intake i) (outlet o) (turned xs) (out_in o i) (turned_in_off i xs ins)) (apart_more (outlet o) (turned xs) (turned_out_off o xs outs) (turned_apart xs apart))

-- ways of a driver
none_of_outs : (n : ℕ) (ps : List Pipe) → IsNoneOf n (inputs_of ps) → IsAway (intake n) (flat_map way_ends (map way_of ps))
none_of_outs n [] off i at = cc
none_of_outs n (p ∷ ps) off zero at = off.0 (sym (ap (λ (s : Seat). s.queue) (some_is at)))
none_of_outs n (p ∷ ps) off (suc zero) at = out_in p.output.queue.0 n (some_is at)
none_of_outs n (p ∷ ps) off (suc (suc i)) at = none_of_outs n ps off.1 i at

none_of_ins : (n : ℕ) (ps : List Pipe) → IsNoneOf n (outputs_of ps) → IsAway (outlet n) (flat_map way_ends (map way_of ps))
none_of_ins n [] off i at = cc
none_of_ins n (p ∷ ps) off zero at = in_out p.input.queue.0 n (some_is at)
none_of_ins n (p ∷ ps) off (suc zero) at = off.0 (sym (ap (λ (s : Seat). s.queue) (some_is at)))
none_of_ins n (p ∷ ps) off (suc (suc i)) at = none_of_ins n ps off.1 i at

ways_apart : (ps : List Pipe) → AreDistinct (inputs_of ps) → AreDistinct (outputs_of ps) → AreApart (flat_map way_ends (map way_of ps))
ways_apart [] ins outs = apart_none
ways_apart (p ∷ ps) ins outs =
    let rest : List Seat = flat_map way_ends (map way_of ps) in
    let i : ℕ = p.input.queue.0 in
    let o : ℕ = p.output.queue.0 in
    apart_more (intake i) (outlet o ∷ rest) (off_more (intake i) (outlet o) rest (out_in o i) (none_of_outs i ps ins.0)) (apart_more (outlet o) rest (none_of_ins o ps outs.0) (ways_apart ps ins.1 outs.1))

-- clients of the receiving virtualiser
lender_apart : (ends : Role → ℕ → End) (v : NetVirtRx) → FitsVirt ends v.ends → AreApart (intake v.ends.input.queue.0 ∷ outlet v.ends.output.queue.0 ∷ flat_map lessee_ends (lessees_of v))
lender_apart ends v fits =
    after_apart (λ (c : Lessee). c.active) (λ c. c.free) v.ends.input.queue.0 v.ends.output.queue.0 (lessees_of v)
    (λ k c at e. let s = served v k c at in fits.inputs_apart k s.1 s.4 (e ∙ sym s.6))
    (λ k c at e. let s = served v k c at in fits.outputs_apart k s.0 s.3 (e ∙ sym s.5))
    (λ i j c d at there same. by i j (served v i c at) (served v j d there) same)
  where
    served : (v : NetVirtRx) (k : ℕ) (c : Lessee) → slice_get (lessees_of v) k ≡ Some c → Served v.work.macs.items (to_queues v.ends) (from_queues v.ends) k c
    served v k c at = served_at v.work.macs.items (to_queues v.ends) (from_queues v.ends) k c at

    by : (i j : ℕ) {c d : Lessee} → Served v.work.macs.items (to_queues v.ends) (from_queues v.ends) i c → Served v.work.macs.items (to_queues v.ends) (from_queues v.ends) j d → (c.active ≡ d.active) ⊎ (c.free ≡ d.free) → i ≡ j
    by i j s t (inl e) = fits.to_clients.apart i j s.0 t.0 s.3 t.3 (s.5 ∙ (e ∙ sym t.5))
    by i j s t (inr e) = fits.from_clients.apart i j s.1 t.1 s.4 t.4 (s.6 ∙ (e ∙ sym t.6))

-- clients of the sending virtualiser
abbrev IsShipping : List Sender → (from to : List QueueId) → ℕ → Shipper → Type 0
IsShipping ss from to k c = (q : QueueId) × (r : QueueId) × (slice_get from k ≡ Some q) × (slice_get to k ≡ Some r) × (q.0 ≡ c.active) × (r.0 ≡ c.free)

shipping : (ss : List Sender) (from to : List QueueId) (k : ℕ) (c : Shipper) → slice_get (shippers ss from to) k ≡ Some c → IsShipping ss from to k c
shipping [] from to k c at = cc
shipping (s ∷ ss) [] to k c at = cc
shipping (s ∷ ss) (q ∷ from) [] k c at = cc
shipping (s ∷ ss) (q ∷ from) (r ∷ to) zero c at = (q, r, refl, refl, ap (λ (z : Shipper). z.active) (some_is at), ap (λ (z : Shipper). z.free) (some_is at))
shipping (s ∷ ss) (q ∷ from) (r ∷ to) (suc k) c at = shipping ss from to k c at

sender_apart : (ends : Role → ℕ → End) (v : NetVirtTx) → FitsVirt ends v.ends → AreApart (intake v.ends.input.queue.0 ∷ outlet v.ends.output.queue.0 ∷ flat_map shipper_ends (send_part v).clients)
sender_apart ends v fits =
    after_in_out (λ (c : Shipper). c.active) (λ c. c.free) v.ends.input.queue.0 v.ends.output.queue.0 (send_part v).clients
    (λ k c at e. let s = served k c at in fits.inputs_apart k s.0 s.2 (e ∙ sym s.4))
    (λ k c at e. let s = served k c at in fits.outputs_apart k s.1 s.3 (e ∙ sym s.5))
    (λ i j c d at there same. by i j c d (served i c at) (served j d there) same)
  where
    served : (k : ℕ) (c : Shipper) → slice_get (send_part v).clients k ≡ Some c → IsShipping (senders v.work) (from_queues v.ends) (to_queues v.ends) k c
    served k c at = shipping (senders v.work) (from_queues v.ends) (to_queues v.ends) k c at

    by : (i j : ℕ) (c d : Shipper) → IsShipping (senders v.work) (from_queues v.ends) (to_queues v.ends) i c → IsShipping (senders v.work) (from_queues v.ends) (to_queues v.ends) j d → (c.active ≡ d.active) ⊎ (c.free ≡ d.free) → i ≡ j
    by i j c d s t (inl e) = fits.from_clients.apart i j s.0 t.0 s.2 t.2 (s.4 ∙ (e ∙ sym t.4))
    by i j c d s t (inr e) = fits.to_clients.apart i j s.1 t.1 s.3 t.3 (s.5 ∙ (e ∙ sym t.5))

-- clients of the block virtualiser
abbrev IsSharing : List Holder → (from to : List QueueId) → ℕ → Sharer → Type 0
IsSharing hs from to k c = (q : QueueId) × (r : QueueId) × (slice_get from k ≡ Some q) × (slice_get to k ≡ Some r) × (q.0 ≡ c.req) × (r.0 ≡ c.resp)

sharing : (hs : List Holder) (from to : List QueueId) (k : ℕ) (c : Sharer) → slice_get (sharers hs from to) k ≡ Some c → IsSharing hs from to k c
sharing [] from to k c at = cc
sharing (h ∷ hs) [] to k c at = cc
sharing (h ∷ hs) (q ∷ from) [] k c at = cc
sharing (h ∷ hs) (q ∷ from) (r ∷ to) zero c at = (q, r, refl, refl, ap (λ (z : Sharer). z.req) (some_is at), ap (λ (z : Sharer). z.resp) (some_is at))
sharing (h ∷ hs) (q ∷ from) (r ∷ to) (suc k) c at = sharing hs from to k c at

server_apart : (ends : Role → ℕ → End) (v : BlkVirt) → FitsEnds ends v.ends → AreApart (intake v.ends.input.queue.0 ∷ outlet v.ends.output.queue.0 ∷ flat_map sharer_ends (sharers (holders v.work.desk) (from_queues v.ends) (to_queues v.ends)))
server_apart ends v fits =
    after_in_out (λ (c : Sharer). c.req) (λ c. c.resp) v.ends.input.queue.0 v.ends.output.queue.0 (sharers (holders v.work.desk) (from_queues v.ends) (to_queues v.ends))
    (λ k c at e. let s = served k c at in fits.inputs_apart k s.0 s.2 (e ∙ sym s.4))
    (λ k c at e. let s = served k c at in fits.outputs_apart k s.1 s.3 (e ∙ sym s.5))
    (λ i j c d at there same. by i j c d (served i c at) (served j d there) same)
  where
    served : (k : ℕ) (c : Sharer) → slice_get (sharers (holders v.work.desk) (from_queues v.ends) (to_queues v.ends)) k ≡ Some c → IsSharing (holders v.work.desk) (from_queues v.ends) (to_queues v.ends) k c
    served k c at = sharing (holders v.work.desk) (from_queues v.ends) (to_queues v.ends) k c at

    by : (i j : ℕ) (c d : Sharer) → IsSharing (holders v.work.desk) (from_queues v.ends) (to_queues v.ends) i c → IsSharing (holders v.work.desk) (from_queues v.ends) (to_queues v.ends) j d → (c.req ≡ d.req) ⊎ (c.resp ≡ d.resp) → i ≡ j
    by i j c d s t (inl e) = fits.from_clients.apart i j s.0 t.0 s.2 t.2 (s.4 ∙ (e ∙ sym t.4))
    by i j c d s t (inr e) = fits.to_clients.apart i j s.1 t.1 s.3 t.3 (s.5 ∙ (e ∙ sym t.5))

-- no actor that fits its ends has one twice
pub ends_apart : (ends : Role → ℕ → End) (scene : Scene) (x : Actor) → FitsActor ends x → AreApart (sheet scene (part_of x)).ends
ends_apart ends scene (Kinds.UartDevice x) fits = one_each x.terminal.input.queue.0 x.terminal.output.queue.0
ends_apart ends scene (Kinds.UartDriver x) fits = ways_apart (two_pipes x.driver.pipes) fits.inputs fits.outputs
ends_apart ends scene (Kinds.SerialVirtRx x) fits =
    let qs : List ℕ = numbers (outlet_queues x.outputs) in
    apart_more (intake x.input.queue.0) (map outlet qs) (in_of_outs x.input.queue.0 qs) (outs_apart qs (queues_distinct (outlet_queues x.outputs) fits.outputs.apart))
ends_apart ends scene (Kinds.SerialVirtTx x) fits =
    let qs : List ℕ = numbers (intake_queues x.inputs) in
    apart_more (outlet x.output.queue.0) (map intake qs) (out_of_ins x.output.queue.0 qs) (ins_apart qs (queues_distinct (intake_queues x.inputs) fits.inputs.apart))
ends_apart ends scene (Kinds.SerialClient x) fits = one_each x.terminal.input.queue.0 x.terminal.output.queue.0
ends_apart ends scene (Kinds.EthDevice x) fits = by_turns (device.rx_free x) (device.rx_active x) (device.tx_active x) (device.tx_free x) fits.0.inputs_apart fits.0.outputs_apart
ends_apart ends scene (Kinds.EthDriver x) fits = ways_apart (four_pipes x.driver.pipes) fits.inputs fits.outputs
ends_apart ends scene (Kinds.NetVirtRx x) fits = lender_apart ends x fits.ends_fit
ends_apart ends scene (Kinds.NetCopier x) fits = by_twos x.lease_input.queue.0 x.buffer_input.queue.0 x.buffer_output.queue.0 x.lease_output.queue.0 fits.inputs_apart fits.outputs_apart
ends_apart ends scene (Kinds.NetClient x) fits = by_turns (client.rx_active x) (client.rx_free x) (client.tx_free x) (client.tx_active x) fits.0.inputs_apart fits.0.outputs_apart
ends_apart ends scene (Kinds.NetVirtTx x) fits = sender_apart ends x fits.ends_fit
ends_apart ends scene (Kinds.DiskDevice x) fits = one_each (disk.req x.device) (disk.resp x.device)
ends_apart ends scene (Kinds.BlkDriver x) fits = ways_apart (two_pipes x.driver.pipes) fits.inputs fits.outputs
ends_apart ends scene (Kinds.BlkVirt x) fits = server_apart ends x fits.0.ends_fit
ends_apart ends scene (Kinds.BlkClient x) fits = one_each (asker.resp_queue x) (asker.req_queue x)
ends_apart ends scene (Kinds.Rogue x) fits = both_apart (numbers x.inputs.items) (numbers x.outputs.items) (all_distinct (numbers x.inputs.items) fits.is.inputs) (all_distinct (numbers x.outputs.items) fits.is.outputs)
