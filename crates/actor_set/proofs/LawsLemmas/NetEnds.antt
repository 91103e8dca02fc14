-- The ends of the network's actors as their sheets have them.
use Rattle.std.proofs.Common.{◌≡◌, ◌⊎◌, ◌<◌, ℕ, zero, suc, Some, List, [], ◌∷◌, length, map, flat_map, slice_get, refl, sym, ap, ◌∙◌, arith, inl, inr}
use Rattle.wire_core.specs.declared.names.QueueId.{QueueId}
use Rattle.wire_core.specs.Ends.{Role, Consumer, Producer}
use Rattle.turn_kit.specs.declared.pipe.Pipe.{Pipe}
use Rattle.pipe_driver.specs.Drivers.{PipesEnd}
use Rattle.play_core.specs.Moved.{Seat}
use Rattle.play_core.specs.Wants.{intake, outlet}
use Rattle.play_core.specs.Sheets.{Scene}
use Rattle.play_core.proofs.Lists.{some_is, there_is, there_below}
use Rattle.buffer_kit.specs.Virtualising.{VirtOwns, from_queues, to_queues}
use Rattle.net_virt_rx.specs.declared.NetVirtRx.{NetVirtRx}
use Rattle.net_law.specs.Parts.Parts.{NetPart, NetDevice, NetDriver, NetReceiver, NetCopier, NetClient, Lessee}
use Rattle.net_law.specs.Parts.Table.{net_sheet, way_ends, lessee_ends}
use Rattle.net_law.specs.Parts.Playing.{way_of, lessees_of, receiver_part}
use Rattle.net_law.proofs.PartsLemmas.Pairs.{twice, pair_first, pair_second}
use Rattle.net_law.proofs.PartsLemmas.Leasing.{Served, served_at}
use Rattle.net_law.proofs.RestsLemmas.Counting.{lessees_long}

-- a seat of a role and a queue
abbrev pub seat : Role → ℕ → Seat
seat r n = record { queue = n; role = r }

-- it is among these
abbrev pub IsThere : List Seat → Role → ℕ → Type 0
IsThere seats r n = (i : ℕ) × (slice_get seats i ≡ Some (seat r n))

-- a sheet's ends hang on no scene
abbrev pub ends_of : NetPart → List Seat
ends_of p = (net_sheet (record { frames = []; image = [] }) p).ends

pub ends_same : (scene : Scene) (p : NetPart) → (net_sheet scene p).ends ≡ ends_of p
ends_same scene (NetDevice rx_free rx_active tx_active tx_free frames drops) = refl
ends_same scene (NetDriver ways) = refl
ends_same scene (NetReceiver active free pool clients) = refl
ends_same scene (NetCopier lease_active lease_free rx_active rx_free drops) = refl
ends_same scene (NetClient program mac rx_active rx_free tx_active tx_free rx tx) = refl

pub queue_of : (s : Seat) (r : Role) (n : ℕ) → Some s ≡ Some (seat r n) → n ≡ s.queue
queue_of s r n h = sym (ap (λ (x : Seat). x.queue) (some_is h))

-- an end of one role is none of the other
pub not_out : (m n : ℕ) → Some (intake m) ≡ Some (seat Producer n) → ⊥
not_out m n h = let e : Consumer ≡ Producer = ap (λ (x : Seat). x.role) (some_is h) in cc

pub not_in : (m n : ℕ) → Some (outlet m) ≡ Some (seat Consumer n) → ⊥
not_in m n h = let e : Producer ≡ Consumer = ap (λ (x : Seat). x.role) (some_is h) in cc

-- four ends, two of each role
abbrev pub Either : (a b c d : ℕ) → Role → ℕ → Type 0
Either a b c d Consumer n = (n ≡ a) ⊎ (n ≡ b)
Either a b c d Producer n = (n ≡ c) ⊎ (n ≡ d)

pub turns_to : (a b c d : ℕ) (r : Role) (n : ℕ) → Either a c b d r n → IsThere (intake a ∷ outlet b ∷ intake c ∷ outlet d ∷ []) r n
turns_to a b c d Consumer n (inl h) = (0, ap (λ k. Some (intake k)) (sym h))
turns_to a b c d Consumer n (inr h) = (2, ap (λ k. Some (intake k)) (sym h))
turns_to a b c d Producer n (inl h) = (1, ap (λ k. Some (outlet k)) (sym h))
turns_to a b c d Producer n (inr h) = (3, ap (λ k. Some (outlet k)) (sym h))

pub turns_from : (a b c d : ℕ) (r : Role) (n i : ℕ) → slice_get (intake a ∷ outlet b ∷ intake c ∷ outlet d ∷ []) i ≡ Some (seat r n) → Either a c b d r n
turns_from a b c d Consumer n zero at = inl (queue_of (intake a) Consumer n at)
turns_from a b c d Producer n zero at = absurd (not_out a n at)
turns_from a b c d Consumer n (suc zero) at = absurd (not_in b n at)
turns_from a b c d Producer n (suc zero) at = inl (queue_of (outlet b) Producer n at)
turns_from a b c d Consumer n (suc (suc zero)) at = inr (queue_of (intake c) Consumer n at)
turns_from a b c d Producer n (suc (suc zero)) at = absurd (not_out c n at)
turns_from a b c d Consumer n (suc (suc (suc zero))) at = absurd (not_in d n at)
turns_from a b c d Producer n (suc (suc (suc zero))) at = inr (queue_of (outlet d) Producer n at)
turns_from a b c d r n (suc (suc (suc (suc i)))) at = cc

pub twos_to : (a b c d : ℕ) (r : Role) (n : ℕ) → Either a b c d r n → IsThere (intake a ∷ intake b ∷ outlet c ∷ outlet d ∷ []) r n
twos_to a b c d Consumer n (inl h) = (0, ap (λ k. Some (intake k)) (sym h))
twos_to a b c d Consumer n (inr h) = (1, ap (λ k. Some (intake k)) (sym h))
twos_to a b c d Producer n (inl h) = (2, ap (λ k. Some (outlet k)) (sym h))
twos_to a b c d Producer n (inr h) = (3, ap (λ k. Some (outlet k)) (sym h))

pub twos_from : (a b c d : ℕ) (r : Role) (n i : ℕ) → slice_get (intake a ∷ intake b ∷ outlet c ∷ outlet d ∷ []) i ≡ Some (seat r n) → Either a b c d r n
twos_from a b c d Consumer n zero at = inl (queue_of (intake a) Consumer n at)
twos_from a b c d Producer n zero at = absurd (not_out a n at)
twos_from a b c d Consumer n (suc zero) at = inr (queue_of (intake b) Consumer n at)
twos_from a b c d Producer n (suc zero) at = absurd (not_out b n at)
twos_from a b c d Consumer n (suc (suc zero)) at = absurd (not_in c n at)
twos_from a b c d Producer n (suc (suc zero)) at = inl (queue_of (outlet c) Producer n at)
twos_from a b c d Consumer n (suc (suc (suc zero))) at = absurd (not_in d n at)
twos_from a b c d Producer n (suc (suc (suc zero))) at = inr (queue_of (outlet d) Producer n at)
twos_from a b c d r n (suc (suc (suc (suc i)))) at = cc

-- a driver's ends
pub pipes_to : (ps : List Pipe) (r : Role) (n : ℕ) → PipesEnd ps r n → IsThere (flat_map way_ends (map way_of ps)) r n
pipes_to [] Consumer n h = absurd h
pipes_to [] Producer n h = absurd h
pipes_to (p ∷ ps) Consumer n (inl h) = (0, ap (λ k. Some (intake k)) (sym h))
pipes_to (p ∷ ps) Producer n (inl h) = (1, ap (λ k. Some (outlet k)) (sym h))
pipes_to (p ∷ ps) Consumer n (inr h) = let rest = pipes_to ps Consumer n h in (suc (suc rest.0), rest.1)
pipes_to (p ∷ ps) Producer n (inr h) = let rest = pipes_to ps Producer n h in (suc (suc rest.0), rest.1)

pub pipes_from : (ps : List Pipe) (r : Role) (n i : ℕ) → slice_get (flat_map way_ends (map way_of ps)) i ≡ Some (seat r n) → PipesEnd ps r n
pipes_from [] r n i at = cc
pipes_from (p ∷ ps) Consumer n zero at = inl (queue_of (intake p.input.queue.0) Consumer n at)
pipes_from (p ∷ ps) Producer n zero at = absurd (not_out p.input.queue.0 n at)
pipes_from (p ∷ ps) Consumer n (suc zero) at = absurd (not_in p.output.queue.0 n at)
pipes_from (p ∷ ps) Producer n (suc zero) at = inl (queue_of (outlet p.output.queue.0) Producer n at)
pipes_from (p ∷ ps) Consumer n (suc (suc i)) at = inr (pipes_from ps Consumer n i at)
pipes_from (p ∷ ps) Producer n (suc (suc i)) at = inr (pipes_from ps Producer n i at)

-- a receiving virtualiser's ends
client_there : (cs : List Lessee) (r : Role) (n i : ℕ) → slice_get (flat_map lessee_ends cs) i ≡ Some (seat r n) → (k : ℕ) × (c : Lessee) × (slice_get cs k ≡ Some c) × Either c.free c.free c.active c.active r n
client_there [] r n i at = cc
client_there (c ∷ cs) Producer n zero at = (0, c, refl, inl (queue_of (outlet c.active) Producer n at))
client_there (c ∷ cs) Consumer n zero at = absurd (not_in c.active n at)
client_there (c ∷ cs) Producer n (suc zero) at = absurd (not_out c.free n at)
client_there (c ∷ cs) Consumer n (suc zero) at = (0, c, refl, inl (queue_of (intake c.free) Consumer n at))
client_there (c ∷ cs) r n (suc (suc i)) at = let rest = client_there cs r n i at in (suc rest.0, rest.1, rest.2, rest.3)

pub either_one : {A : Type 0} → A ⊎ A → A
either_one (inl h) = h
either_one (inr h) = h

module _ (v : NetVirtRx) where
  abbrev At : ℕ → Lessee → Type 0
  At k c = Served v.work.macs.items (to_queues v.ends) (from_queues v.ends) k c

  pub receiver_from : (r : Role) (n i : ℕ) → slice_get (ends_of (receiver_part v)) i ≡ Some (seat r n) → VirtOwns v.ends r n
  receiver_from Consumer n zero at = inl (queue_of (intake v.ends.input.queue.0) Consumer n at)
  receiver_from Producer n zero at = absurd (not_out v.ends.input.queue.0 n at)
  receiver_from Consumer n (suc zero) at = absurd (not_in v.ends.output.queue.0 n at)
  receiver_from Producer n (suc zero) at = inl (queue_of (outlet v.ends.output.queue.0) Producer n at)
  receiver_from Consumer n (suc (suc i)) at =
      let c = client_there (lessees_of v) Consumer n i at in
      let own : At c.0 c.1 = served_at v.work.macs.items (to_queues v.ends) (from_queues v.ends) c.0 c.1 c.2 in
      inr (c.0, own.1, own.4, either_one c.3 ∙ sym own.6)
  receiver_from Producer n (suc (suc i)) at =
      let c = client_there (lessees_of v) Producer n i at in
      let own : At c.0 c.1 = served_at v.work.macs.items (to_queues v.ends) (from_queues v.ends) c.0 c.1 c.2 in
      inr (c.0, own.0, own.3, either_one c.3 ∙ sym own.5)

  module _ (from_each : length (from_queues v.ends) ≡ length v.work.macs.items) (to_each : length (to_queues v.ends) ≡ length v.work.macs.items) where
    lessee_there : (k : ℕ) → k < length v.work.macs.items → (c : Lessee) × (slice_get (lessees_of v) k ≡ Some c)
    lessee_there k lt = let long = lessees_long v.work.macs.items (to_queues v.ends) (from_queues v.ends) to_each from_each in there_is (lessees_of v) k (omega (arith, lt, long))

    -- the end from the client at a place, and the one to it
    pub receiver_in : (k : ℕ) (q : QueueId) → slice_get (from_queues v.ends) k ≡ Some q → slice_get (ends_of (receiver_part v)) (suc (suc (suc (twice k)))) ≡ Some (intake q.0)
    receiver_in k q at =
        let below = there_below (from_queues v.ends) k q at in
        let c = lessee_there k (omega (arith, below, from_each)) in
        let own : At k c.0 = served_at v.work.macs.items (to_queues v.ends) (from_queues v.ends) k c.0 c.1 in
        let same : q ≡ own.1 = some_is (sym at ∙ own.4) in
        pair_second (λ (d : Lessee). outlet d.active) (λ d. intake d.free) (lessees_of v) k c.0 c.1 ∙ ap (λ n. Some (intake n)) (sym (ap (λ (x : QueueId). x.0) same ∙ own.6))

    pub receiver_out : (k : ℕ) (q : QueueId) → slice_get (to_queues v.ends) k ≡ Some q → slice_get (ends_of (receiver_part v)) (suc (suc (twice k))) ≡ Some (outlet q.0)
    receiver_out k q at =
        let below = there_below (to_queues v.ends) k q at in
        let c = lessee_there k (omega (arith, below, to_each)) in
        let own : At k c.0 = served_at v.work.macs.items (to_queues v.ends) (from_queues v.ends) k c.0 c.1 in
        let same : q ≡ own.0 = some_is (sym at ∙ own.3) in
        pair_first (λ (d : Lessee). outlet d.active) (λ d. intake d.free) (lessees_of v) k c.0 c.1 ∙ ap (λ n. Some (outlet n)) (sym (ap (λ (x : QueueId). x.0) same ∙ own.5))

    pub receiver_to : (r : Role) (n : ℕ) → VirtOwns v.ends r n → IsThere (ends_of (receiver_part v)) r n
    receiver_to Consumer n (inl h) = (0, ap (λ k. Some (intake k)) (sym h))
    receiver_to Producer n (inl h) = (1, ap (λ k. Some (outlet k)) (sym h))
    receiver_to Consumer n (inr h) = (suc (suc (suc (twice h.0))), receiver_in h.0 h.1 h.2 ∙ ap (λ k. Some (intake k)) (sym h.3))
    receiver_to Producer n (inr h) = (suc (suc (twice h.0)), receiver_out h.0 h.1 h.2 ∙ ap (λ k. Some (outlet k)) (sym h.3))
