use Rattle.std.proofs.Common.{◌≡◌, ◌+◌, ◌*◌, ◌==◌, ◌<◌, ◌||◌, ℕ, zero, suc, Bool, true, false, nat_lt, Some, List, [], ◌∷◌, All, length, map, slice_get, slice_index_or, sum_by, add-zero, refl, sym, ap, ◌∙◌, arith}
use Rattle.std.proofs.lemmas.Bool.{lt-ltb, le-ltb}
use Rattle.std.proofs.lemmas.List.Sums.{sum_by-cons}
use Rattle.cargo_core.specs.declared.item.Body.TheVariants as Carried
use Rattle.frame_core.specs.declared.mac.Mac.{Mac}
use Rattle.wire_core.specs.declared.names.QueueId.{QueueId}
use Rattle.wire_core.specs.Bells.{bit}
use Rattle.wire_core.specs.Deeds.{Cargo}
use Rattle.wire_core.specs.Lists.{if_there}
use Rattle.wire_core.specs.Marks.{sum_below}
use Rattle.play_core.specs.Moved.{Moved}
use Rattle.owner_law.proofs.Counting.{below_plus, below_one}
use Rattle.buffer_kit.specs.Entries.{addr_of}
use Rattle.buffer_kit.specs.declared.stock.Stock.{Stock}
use Rattle.net_virt_rx.specs.Sharing.{named, number_of, IsBuffer, how_many}
use Rattle.net_virt_rx.proofs.Naming.{buffer_named, bit_same, bit_other}
use Rattle.owner_law.specs.Pools.Places.{PoolAt}
use Rattle.net_law.specs.Owners.Lending.{Borrower}
use Rattle.net_law.specs.Parts.Parts.{Lessee}
use Rattle.net_law.specs.Parts.Table.{is_short, leases_of, some_owed}
use Rattle.net_law.specs.Parts.Playing.{lessees}

pub less_is : (a r b : ℕ) → b ≡ a + r → nat_lt a b ≡ nat_lt 0 r
less_is a zero b e = le-ltb a b (omega (arith, e))
less_is a (suc r) b e = lt-ltb a b (omega (arith, e)) ∙ sym (lt-ltb 0 (suc r) (omega arith))

-- each entry names one of a pool's buffers
buffer_few : (s : Stock) (c : Cargo) → IsBuffer s c → number_of c.1 < s.buffers
buffer_few s (item, Carried.Page page) is = is.1
buffer_few s (item, Carried.Empty) is = absurd is
buffer_few s (item, Carried.Lease lease) is = absurd is

pub named_total : (s : Stock) (cs : List Cargo) → 0 < s.size → All (IsBuffer s) cs → sum_below (λ b. named s.base s.size b cs) s.buffers ≡ length cs
named_total s [] some all = none s.buffers
  where
    none : (k : ℕ) → sum_below (λ n. 0) k ≡ 0
    none zero = refl
    none (suc k) = omega (arith, none k)
named_total s (c ∷ cs) some all =
    let is : IsBuffer s c = all 0 c (omega arith) in
    let test : ℕ → ℕ = λ b. bit (addr_of c.0 == s.base + b * s.size) in
    let says : (b : ℕ) → test b ≡ bit (number_of c.1 == b) = λ b. sym (add-zero (test b)) ∙ buffer_named s c b some is in
    let one = below_one test s.buffers (number_of c.1) 1 (buffer_few s c is) (says (number_of c.1) ∙ bit_same (number_of c.1) (number_of c.1) refl) (λ n off. says n ∙ bit_other (number_of c.1) n off) in
    let parts = below_plus test (λ b. named s.base s.size b cs) s.buffers in
    let rest = named_total s cs some (λ k d lt. all (suc k) d (omega (arith, lt))) in
    omega (arith, one, parts, rest)

-- sums over clients
pub out_sum : (h : Lessee → Borrower) (f g : Borrower → ℕ) (cs : List Lessee) (outs : List Bool) → length cs ≡ length outs → ((k : ℕ) (c : Lessee) → slice_get cs k ≡ Some c → f (h c) + bit (slice_index_or outs k false) ≡ g (h c)) → sum_by f (map h cs) + how_many outs ≡ sum_by g (map h cs)
out_sum h f g [] [] same each = refl
out_sum h f g [] (b ∷ outs) same each = absurd (omega (arith, same))
out_sum h f g (c ∷ cs) [] same each = absurd (omega (arith, same))
out_sum h f g (c ∷ cs) (b ∷ outs) same each =
    let first = each 0 c refl in
    let rest = out_sum h f g cs outs (omega (arith, same)) (λ k d at. each (suc k) d at) in
    omega (arith, first, rest, sum_by-cons f (h c) (map h cs), sum_by-cons g (h c) (map h cs))

or_more : (b : Bool) (n : ℕ) → (b || nat_lt 0 n) ≡ nat_lt 0 (bit b + n)
or_more true n = sym (lt-ltb 0 (1 + n) (omega arith))
or_more false n = ap (nat_lt 0) plus
  where
    plus : n ≡ 0 + n
    plus = omega arith

-- some client is owed a lease where one is marked
pub owed_some : (frames : List (List ℕ)) (pool : PoolAt) (active : ℕ) (m : Moved) (cs : List Lessee) (owed : List Bool) → length cs ≡ length owed → ((k : ℕ) (c : Lessee) → slice_get cs k ≡ Some c → slice_index_or owed k false ≡ is_short (m.sent c.active) (leases_of frames pool active m c)) → some_owed frames pool active m cs ≡ nat_lt 0 (how_many owed)
owed_some frames pool active m [] [] same each = refl
owed_some frames pool active m [] (b ∷ owed) same each = absurd (omega (arith, same))
owed_some frames pool active m (c ∷ cs) [] same each = absurd (omega (arith, same))
owed_some frames pool active m (c ∷ cs) (b ∷ owed) same each =
    ap (λ t. t || some_owed frames pool active m cs) (sym (each 0 c refl))
    ∙ (ap (λ t. b || t) (owed_some frames pool active m cs owed (omega (arith, same)) (λ k d at. each (suc k) d at)) ∙ or_more b (how_many owed))

pub lessees_long : (macs : List Mac) (to from : List QueueId) → length to ≡ length macs → length from ≡ length macs → length (lessees macs to from) ≡ length macs
lessees_long [] to from a b = refl
lessees_long (mac ∷ macs) [] from a b = absurd (omega (arith, a))
lessees_long (mac ∷ macs) (q ∷ to) [] a b = absurd (omega (arith, b))
lessees_long (mac ∷ macs) (q ∷ to) (r ∷ from) a b = ap suc (lessees_long macs to from (omega (arith, a)) (omega (arith, b)))

pub there_one : (b : Bool) (x : Cargo) → length (if_there b (x ∷ [])) ≡ bit b
there_one true x = refl
there_one false x = refl
