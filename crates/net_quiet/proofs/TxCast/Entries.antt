-- Entries at the buffers of a pool: those that are filled send a frame, and those that send one are
-- at a buffer; and how many of a client's are at one.
use Rattle.std.proofs.Common.{◌≡◌, ◌⊎◌, ◌==◌, ◌+◌, ◌*◌, ◌<◌, ◌≤◌, ℕ, suc, Bool, true, cond, nat_le, inl, inr, Some, List, [], ◌∷◌, length, map, slice_get, refl, sym, ap, ◌∙◌, subst, arith, le-leb, lt-ltb, eq-eqb}
use Rattle.std.proofs.lemmas.Bool.{and_parts, cases_eq, eqb-true, ltb-true, leb-true}
use Rattle.cargo_core.specs.Items.{kind_of}
use Rattle.cargo_core.specs.Lists.{replaced}
use Rattle.cargo_core.specs.Pages.{Paged}
use Rattle.cargo_core.specs.declared.item.Item.{Item}
use Rattle.cargo_core.specs.declared.item.Item.TheVariants as ItemOf
use Rattle.cargo_core.specs.declared.item.Body.TheVariants as Carried
use Rattle.cargo_core.specs.declared.item.PoolId.{PoolId}
use Rattle.cargo_core.specs.declared.item.QueueKind.TheVariants as Kind
use Rattle.wire_core.specs.Bells.{bit}
use Rattle.wire_core.specs.Deeds.{Cargo}
use Rattle.buffer_kit.specs.Entries.{addr_of, len_of, with_len, filled, all_filled}
use Rattle.buffer_kit.specs.Pools.{given_entry}
use Rattle.net_virt_tx.specs.Clients.{at_address}
use Rattle.net_virt_tx.specs.Descriptors.{is_good}
use Rattle.net_virt_tx.specs.Serving.{is_good_of}
use Rattle.net_virt_tx.specs.declared.descriptors.Sender.{Sender}
use Rattle.net_virt_tx.proofs.Counting.{bit_same, bit_other, same_number}
use Rattle.owner_law.specs.Pools.Places.{PoolAt}
use Rattle.net_law.proofs.PartsLemmas.Turning.{replaced_long}
use Rattle.net_law.specs.TxParts.Playing.{sender_pool}
use Rattle.net_quiet.specs.TxCast.Casting.{IsFrame, IsSend}

-- an entry of the network is at one of a pool's buffers, by its offset, and carries its page
abbrev pub IsAtBuffer : PoolAt → Cargo → Type 0
IsAtBuffer pool (item, Carried.Page page) = (kind_of item ≡ Kind.Net) × (page.pool.0 ≡ pool.number) × (page.no < pool.buffers) × (addr_of item ≡ page.no * pool.size) × (pool.size ≤ length page.bytes)
IsAtBuffer pool (item, Carried.Empty) = ⊥
IsAtBuffer pool (item, Carried.Lease lease) = ⊥

address_kept : (n : ℕ) (item : Item) → addr_of (with_len n item) ≡ addr_of item
address_kept n (ItemOf.Net d) = refl
address_kept n (ItemOf.Byte b) = refl
address_kept n (ItemOf.Req r) = refl
address_kept n (ItemOf.Resp r) = refl

length_told : (n : ℕ) (item : Item) → kind_of item ≡ Kind.Net → len_of (with_len n item) ≡ n
length_told n (ItemOf.Net d) kind = refl
length_told n (ItemOf.Byte b) kind = absurd cc
length_told n (ItemOf.Req r) kind = absurd cc
length_told n (ItemOf.Resp r) kind = absurd cc

net_of : (item : Item) → nat_le 14 (len_of item) ≡ true → kind_of item ≡ Kind.Net
net_of (ItemOf.Net d) h = refl
net_of (ItemOf.Byte b) h = let l = leb-true 14 0 h in absurd (omega (arith, l))
net_of (ItemOf.Req r) h = let l = leb-true 14 0 h in absurd (omega (arith, l))
net_of (ItemOf.Resp r) h = let l = leb-true 14 0 h in absurd (omega (arith, l))

-- a buffer that is filled with a frame sends it
pub filled_sends : (most : ℕ) (pool : PoolAt) → most ≤ pool.size → (f : List ℕ) (c : Cargo) → IsFrame most f → IsAtBuffer pool c → IsSend most pool (filled f c)
filled_sends most pool fits f (item, Carried.Page page) frame is =
    let room : nat_le (length f) (length page.bytes) ≡ true = le-leb (length f) (length page.bytes) (omega (arith, frame.1, is.4, fits)) in
    subst (λ (b : Bool). IsSend most pool (with_len (length f) item, cond b (Carried.Page (record { pool = page.pool; no = page.no; bytes = replaced page.bytes 0 f })) (Carried.Page page))) (sym room) sends
  where
    sends : IsSend most pool (with_len (length f) item, Carried.Page (record { pool = page.pool; no = page.no; bytes = replaced page.bytes 0 f }))
    sends =
        let same = replaced_long f page.bytes (omega (arith, frame.1, is.4, fits)) in
        let long = is.4 in
        let told : len_of (with_len (length f) item) ≡ length f = length_told (length f) item is.0 in
        let at : addr_of (with_len (length f) item) ≡ page.no * pool.size = address_kept (length f) item ∙ is.3 in
        record {
          good = rw (eq-eqb page.pool.0 pool.number is.1, lt-ltb page.no pool.buffers is.2, eq-eqb (addr_of (with_len (length f) item)) (page.no * pool.size) at, told, le-leb 14 (length f) frame.0, le-leb (length f) most frame.1) refl;
          long = omega (arith, same, long);
        }
filled_sends most pool fits f (item, Carried.Empty) frame is = absurd is
filled_sends most pool fits f (item, Carried.Lease lease) frame is = absurd is

-- what sends a frame is at a buffer
pub send_buffer : (most : ℕ) (pool : PoolAt) (c : Cargo) → IsSend most pool c → IsAtBuffer pool c
send_buffer most pool (item, Carried.Page page) is =
    let one = and_parts _ _ is.good in
    let two = and_parts _ _ one.1 in
    let three = and_parts _ _ two.1 in
    let four = and_parts _ _ three.1 in
    (net_of item four.0, eqb-true page.pool.0 pool.number one.0, ltb-true page.no pool.buffers two.0, eqb-true (addr_of item) (page.no * pool.size) three.0, is.long)
send_buffer most pool (item, Carried.Empty) is = absurd is.long
send_buffer most pool (item, Carried.Lease lease) is = absurd is.long

-- it is a good descriptor of the client that has the pool
pub send_good : (s : Sender) (pool : PoolAt) (c : Cargo) → sender_pool s ≡ pool → IsSend s.most pool c → is_good_of s c ≡ true
send_good s pool c own is = ap (λ (p : PoolAt). is_good (record { 0 = p.number }) p.buffers p.size s.most c) own ∙ is.good

-- a buffer as it is first given
pub given_at : (pool : PoolAt) (id : PoolId) (page : Paged) → id.0 ≡ pool.number → page.pool ≡ id → page.no < pool.buffers → length page.bytes ≡ pool.size → IsAtBuffer pool (given_entry 0 pool.size page)
given_at pool id page number same few long = (refl, ap (λ (p : PoolId). p.0) same ∙ number, few, omega arith, omega (arith, long))

-- filling changes no address
pub filled_few : (a : ℕ) (fs : List (List ℕ)) (cs : List Cargo) → at_address a (all_filled fs cs) ≤ at_address a cs
filled_few a [] cs = omega arith
filled_few a (f ∷ fs) [] = omega arith
filled_few a (f ∷ fs) (c ∷ cs) = omega (arith, filled_few a fs cs, ap (λ n. bit (n == a)) (address_kept (length f) c.0))

-- buffers in rising number are at an address at most once
numbered_after : (size : ℕ) → 1 ≤ size → (j b : ℕ) (pages : List Paged) → ((k : ℕ) (p : Paged) → slice_get pages k ≡ Some p → p.no ≡ j + k) → b < j → at_address (b * size) (map (given_entry 0 size) pages) ≡ 0
numbered_after size some j b [] numbered lt = refl
numbered_after size some j b (p ∷ pages) numbered lt =
    let here : p.no ≡ j + 0 = numbered 0 p refl in
    let none = bit_other (0 + p.no * size) (b * size) (λ e. let same = same_number size p.no b some (omega (arith, e)) in omega (arith, same, here, lt)) in
    let rest = numbered_after size some (j + 1) b pages (λ k x at. let e = numbered (suc k) x at in omega (arith, e)) (omega (arith, lt)) in
    omega (arith, none, rest)

pub numbered_once : (size : ℕ) → 1 ≤ size → (j b : ℕ) (pages : List Paged) → ((k : ℕ) (p : Paged) → slice_get pages k ≡ Some p → p.no ≡ j + k) → at_address (b * size) (map (given_entry 0 size) pages) ≤ 1
numbered_once size some j b [] numbered = omega arith
numbered_once size some j b (p ∷ pages) numbered =
    let later : (k : ℕ) (x : Paged) → slice_get pages k ≡ Some x → x.no ≡ j + 1 + k = λ k x at. let e = numbered (suc k) x at in omega (arith, e) in
    by (cases_eq p.no b) later (numbered_once size some (j + 1) b pages later)
  where
    by : (p.no ≡ b) ⊎ (p.no ≡ b → ⊥) → ((k : ℕ) (x : Paged) → slice_get pages k ≡ Some x → x.no ≡ j + 1 + k) → at_address (b * size) (map (given_entry 0 size) pages) ≤ 1 → at_address (b * size) (map (given_entry 0 size) (p ∷ pages)) ≤ 1
    by (inl same) later few =
        let here : p.no ≡ j + 0 = numbered 0 p refl in
        let one = bit_same (0 + p.no * size) (b * size) (let e = ap (λ n. n * size) same in omega (arith, e)) in
        let rest = numbered_after size some (j + 1) b pages later (omega (arith, here, same)) in
        omega (arith, one, rest)
    by (inr other) later few =
        let none = bit_other (0 + p.no * size) (b * size) (λ e. other (same_number size p.no b some (omega (arith, e)))) in
        omega (arith, none, few)
