-- The ends of the block class's actors as their sheets have them.
use Rattle.std.proofs.Common.{◌≡◌, ℕ, zero, suc, Some, List, [], ◌∷◌, length, flat_map, slice_get, refl, sym, ap, ◌∙◌, arith, inl, inr}
use Rattle.wire_core.specs.declared.names.QueueId.{QueueId}
use Rattle.wire_core.specs.Ends.{Role, Consumer, Producer}
use Rattle.play_core.specs.Moved.{Seat}
use Rattle.play_core.specs.Wants.{intake, outlet}
use Rattle.play_core.specs.Sheets.{Scene}
use Rattle.play_core.proofs.Lists.{some_is, there_is, there_below}
use Rattle.buffer_kit.specs.Virtualising.{VirtOwns, from_queues, to_queues}
use Rattle.net_law.proofs.PartsLemmas.Pairs.{twice, pair_first, pair_second}
use Rattle.blk_virt.specs.declared.requests.Holder.{Holder}
use Rattle.blk_virt.specs.declared.virtualiser.BlkVirt.{BlkVirt as Virt}
use Rattle.blk_virt.specs.Desks.{holders}
use Rattle.blk_law.specs.Sheets.Parts.{BlkPart, DiskDevice, BlkDriver, BlkVirt, BlkClient, Sharer}
use Rattle.blk_law.specs.Sheets.Table.{blk_sheet, sharer_ends}
use Rattle.blk_law.specs.Sheets.Playing.{virt_part, holder_pool, sharers}
use Rattle.blk_law.proofs.RestsLemmas.Opening.{shared}
use Rattle.actor_set.proofs.LawsLemmas.NetEnds.{IsThere, Either, seat, queue_of, not_out, not_in, either_one}

-- a sheet's ends hang on no scene
abbrev pub blk_ends : BlkPart → List Seat
blk_ends p = (blk_sheet (record { frames = []; image = [] }) p).ends

pub blk_ends_same : (scene : Scene) (p : BlkPart) → (blk_sheet scene p).ends ≡ blk_ends p
blk_ends_same scene (DiskDevice req resp image) = refl
blk_ends_same scene (BlkDriver ways) = refl
blk_ends_same scene (BlkVirt req resp sectors pool clients) = refl
blk_ends_same scene (BlkClient req resp asks pool) = refl

-- two ends, one of each role
abbrev pub OneEach : (a b : ℕ) → Role → ℕ → Type 0
OneEach a b Consumer n = n ≡ a
OneEach a b Producer n = n ≡ b

pub ones_to : (a b : ℕ) (r : Role) (n : ℕ) → OneEach a b r n → IsThere (intake a ∷ outlet b ∷ []) r n
ones_to a b Consumer n h = (0, ap (λ k. Some (intake k)) (sym h))
ones_to a b Producer n h = (1, ap (λ k. Some (outlet k)) (sym h))

pub ones_from : (a b : ℕ) (r : Role) (n i : ℕ) → slice_get (intake a ∷ outlet b ∷ []) i ≡ Some (seat r n) → OneEach a b r n
ones_from a b Consumer n zero at = queue_of (intake a) Consumer n at
ones_from a b Producer n zero at = absurd (not_out a n at)
ones_from a b Consumer n (suc zero) at = absurd (not_in b n at)
ones_from a b Producer n (suc zero) at = queue_of (outlet b) Producer n at
ones_from a b r n (suc (suc i)) at = cc

client_there : (cs : List Sharer) (r : Role) (n i : ℕ) → slice_get (flat_map sharer_ends cs) i ≡ Some (seat r n) → (k : ℕ) × (c : Sharer) × (slice_get cs k ≡ Some c) × Either c.req c.req c.resp c.resp r n
client_there [] r n i at = cc
client_there (c ∷ cs) Consumer n zero at = (0, c, refl, inl (queue_of (intake c.req) Consumer n at))
client_there (c ∷ cs) Producer n zero at = absurd (not_out c.req n at)
client_there (c ∷ cs) Consumer n (suc zero) at = absurd (not_in c.resp n at)
client_there (c ∷ cs) Producer n (suc zero) at = (0, c, refl, inl (queue_of (outlet c.resp) Producer n at))
client_there (c ∷ cs) r n (suc (suc i)) at = let rest = client_there cs r n i at in (suc rest.0, rest.1, rest.2, rest.3)

-- the sheet's client at a place has the holder and the queues at that place
there_at : (hs : List Holder) (from to : List QueueId) (k : ℕ) (h : Holder) (q r : QueueId) → slice_get hs k ≡ Some h → slice_get from k ≡ Some q → slice_get to k ≡ Some r → slice_get (sharers hs from to) k ≡ Some (record { req = q.0; resp = r.0; entry = h.partition; pool = holder_pool h })
there_at [] from to k h q r at at' at'' = absurd cc
there_at (x ∷ hs) [] to k h q r at at' at'' = absurd cc
there_at (x ∷ hs) (y ∷ from) [] k h q r at at' at'' = absurd cc
there_at (x ∷ hs) (y ∷ from) (z ∷ to) zero h q r at at' at'' = rw (← some_is at, ← some_is at', ← some_is at'') refl
there_at (x ∷ hs) (y ∷ from) (z ∷ to) (suc k) h q r at at' at'' = there_at hs from to k h q r at at' at''

module _ (v : Virt) where
  abbrev hs : List Holder
  hs = holders v.work.desk

  abbrev from : List QueueId
  from = from_queues v.ends

  abbrev to : List QueueId
  to = to_queues v.ends

  abbrev clients : List Sharer
  clients = sharers hs from to

  pub server_from : (r : Role) (n i : ℕ) → slice_get (blk_ends (virt_part v)) i ≡ Some (seat r n) → VirtOwns v.ends r n
  server_from Consumer n zero at = inl (queue_of (intake v.ends.input.queue.0) Consumer n at)
  server_from Producer n zero at = absurd (not_out v.ends.input.queue.0 n at)
  server_from Consumer n (suc zero) at = absurd (not_in v.ends.output.queue.0 n at)
  server_from Producer n (suc zero) at = inl (queue_of (outlet v.ends.output.queue.0) Producer n at)
  server_from Consumer n (suc (suc i)) at =
      let c = client_there clients Consumer n i at in
      let own = shared hs from to c.0 c.1 c.2 in
      inr (c.0, own.comes, own.comes_at, either_one c.3 ∙ ap (λ (s : Sharer). s.req) own.sharer_is)
  server_from Producer n (suc (suc i)) at =
      let c = client_there clients Producer n i at in
      let own = shared hs from to c.0 c.1 c.2 in
      inr (c.0, own.goes, own.goes_at, either_one c.3 ∙ ap (λ (s : Sharer). s.resp) own.sharer_is)

  module _ (from_each : length from ≡ length hs) (to_each : length to ≡ length hs) where
    -- the end from the client at a place, and the one to it
    pub server_in : (k : ℕ) (q : QueueId) → slice_get from k ≡ Some q → slice_get (blk_ends (virt_part v)) (suc (suc (twice k))) ≡ Some (intake q.0)
    server_in k q at =
        let below = there_below from k q at in
        let h = there_is hs k (omega (arith, below, from_each)) in
        let r = there_is to k (omega (arith, below, from_each, to_each)) in
        pair_first (λ (d : Sharer). intake d.req) (λ d. outlet d.resp) clients k _ (there_at hs from to k h.0 q r.0 h.1 at r.1)

    pub server_out : (k : ℕ) (q : QueueId) → slice_get to k ≡ Some q → slice_get (blk_ends (virt_part v)) (suc (suc (suc (twice k)))) ≡ Some (outlet q.0)
    server_out k q at =
        let below = there_below to k q at in
        let h = there_is hs k (omega (arith, below, to_each)) in
        let f = there_is from k (omega (arith, below, from_each, to_each)) in
        pair_second (λ (d : Sharer). intake d.req) (λ d. outlet d.resp) clients k _ (there_at hs from to k h.0 f.0 q h.1 f.1 at)

    pub server_to : (r : Role) (n : ℕ) → VirtOwns v.ends r n → IsThere (blk_ends (virt_part v)) r n
    server_to Consumer n (inl h) = (0, ap (λ k. Some (intake k)) (sym h))
    server_to Producer n (inl h) = (1, ap (λ k. Some (outlet k)) (sym h))
    server_to Consumer n (inr h) = (suc (suc (twice h.0)), server_in h.0 h.1 h.2 ∙ ap (λ k. Some (intake k)) (sym h.3))
    server_to Producer n (inr h) = (suc (suc (suc (twice h.0))), server_out h.0 h.1 h.2 ∙ ap (λ k. Some (outlet k)) (sym h.3))
