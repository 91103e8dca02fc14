-- How many buffers are in hand, and clients of which nothing came yet.
use Rattle.std.proofs.Common.{◌≡◌, ◌+◌, ◌<◌, ◌≤◌, ◌^◌, ◌==◌, ℕ, zero, suc, Bool, true, false, Some, List, [], ◌∷◌, ◌++◌, length, map, take, slice_get, if◌then◌else◌, refl, sym, ap, ◌∙◌, subst, arith}
use Rattle.std.specs.List.{sum_by}
use Rattle.std.specs.Option.{option_to_list}
use Rattle.std.proofs.lemmas.List.Sums.{sum_by-cons, sum_by-take-le}
use Rattle.cargo_core.specs.declared.item.PoolId.{PoolId}
use Rattle.cargo_core.specs.declared.item.Body.{Body}
use Rattle.cargo_core.specs.declared.item.Body.TheVariants as Carried
use Rattle.cargo_core.specs.Bodies.{buffers_in}
use Rattle.cargo_core.specs.Ranges.{AreRanges}
use Rattle.wire_core.specs.Deeds.{Cargo}
use Rattle.turn_kit.proofs.Holding.{cargo-cons}
use Rattle.buffer_kit.proofs.ManyClients.{some_eq}
use Rattle.net_virt_tx.specs.declared.TxEnds.{TxEnds}
use Rattle.net_virt_tx.specs.declared.client.Client.{Client}
use Rattle.net_virt_tx.specs.declared.descriptors.Sender.{Sender}
use Rattle.net_virt_tx.specs.declared.traffic.Traffic.{Traffic}
use Rattle.net_virt_tx.specs.Queued.{returns_list}
use Rattle.net_virt_tx.specs.Clients.{IsClient, IsFresh, carried, range_of}
use Rattle.net_virt_tx.specs.Traffics.{IsTraffic, senders}
use Rattle.net_virt_tx.specs.Sending.{FitsClients, sender_of, tx_range}
use Rattle.net_virt_tx.proofs.Counting.{few_marked}

one_body : (pool : PoolId) (b : Body) → buffers_in pool b ≤ 1
one_body pool Carried.Empty = omega arith
one_body pool (Carried.Page page) = either (page.pool.0 == pool.0)
  where
    either : (t : Bool) → (if t then 1 else 0) ≤ 1
    either true = omega arith
    either false = omega arith
one_body pool (Carried.Lease lease) = omega arith

-- an entry carries one buffer at most
pub few_carried : (pool : PoolId) (cs : List Cargo) → carried pool cs ≤ length cs
few_carried pool [] = omega arith
few_carried pool (c ∷ cs) =
    let all = cargo-cons pool c cs in
    let one = one_body pool c.1 in
    let rest = few_carried pool cs in
    omega (arith, all, one, rest)

-- what leaves and what came back are buffers of the client, each once
pub few_entries : (c : Client) → IsClient c → length (option_to_list c.leaving) + length (returns_list c.returns) ≤ c.sender.buffers
few_entries c h =
    let many = h.counts in
    let most = few_marked c.inside in
    let long = h.inside_long in
    omega (arith, many, most, long)

-- a client more of which nothing came yet
pub fresh_push : (cs : List Client) (x : Client) → ((k : ℕ) (c : Client) → slice_get cs k ≡ Some c → IsFresh c) → IsFresh x → (k : ℕ) (c : Client) → slice_get (cs ++ x ∷ []) k ≡ Some c → IsFresh c
fresh_push [] x h f zero c at = subst IsFresh (some_eq at) f
fresh_push [] x h f (suc k) c at = absurd cc
fresh_push (y ∷ cs) x h f zero c at = h zero c at
fresh_push (y ∷ cs) x h f (suc k) c at = fresh_push cs x (λ j d e. h (suc j) d e) f k c at

pub none_fresh : (k : ℕ) (c : Client) → slice_get [] k ≡ Some c → IsFresh c
none_fresh k c at = absurd cc

-- what is kept of new clients fits together
sums_same : (most : ℕ) (cs : List TxEnds) → sum_by (λ (s : Sender). s.buffers + 2) (map (sender_of most) cs) ≡ sum_by (λ (c : TxEnds). c.buffers + 2) cs
sums_same most [] = refl
sums_same most (c ∷ cs) =
    let a = sum_by-cons (λ (s : Sender). s.buffers + 2) (sender_of most c) (map (sender_of most) cs) in
    let b = sum_by-cons (λ (x : TxEnds). x.buffers + 2) c cs in
    let r = sums_same most cs in
    omega (arith, a, b, r)

ranges_same : (most : ℕ) (cs : List TxEnds) → map tx_range cs ≡ map range_of (map (sender_of most) cs)
ranges_same most [] = refl
ranges_same most (c ∷ cs) = ap (λ rs. tx_range c ∷ rs) (ranges_same most cs)

pub new_traffic : (most : ℕ) (w : Traffic) (clients : List TxEnds) → FitsClients clients w.ranges → AreRanges w.ranges → senders w ≡ map (sender_of most) clients → ((k : ℕ) (c : Client) → slice_get w.clients.items k ≡ Some c → IsFresh c) → IsTraffic w
new_traffic most w clients fits are same fresh = record {
  each = λ k c at. (fresh k c at).work;
  ranges_are = fits.ranges_are ∙ (ranges_same most clients ∙ ap (map range_of) (sym same));
  apart = are;
  few = subst (λ (ss : List Sender). sum_by (λ (s : Sender). s.buffers + 2) ss < 2 ^ 32) (sym same) (let e = sums_same most clients in let f = fits.few in omega (arith, e, f));
}

abbrev pub places_of : Client → ℕ
places_of c = c.sender.buffers + 2

pub places_more : (cs : List Client) (k : ℕ) (c : Client) → slice_get cs k ≡ Some c → sum_by places_of (take (suc k) cs) ≡ sum_by places_of (take k cs) + (c.sender.buffers + 2)
places_more [] k c at = absurd cc
places_more (x ∷ cs) zero c at =
    let all = sum_by-cons places_of x [] in
    let e = ap places_of (some_eq at) in
    omega (arith, all, e)
places_more (x ∷ cs) (suc k) c at =
    let a = sum_by-cons places_of x (take (suc k) cs) in
    let b = sum_by-cons places_of x (take k cs) in
    let e = places_more cs k c at in
    omega (arith, a, b, e)

places_all : (cs : List Client) → sum_by places_of cs ≡ sum_by (λ (s : Sender). s.buffers + 2) (map (λ (c : Client). c.sender) cs)
places_all [] = refl
places_all (c ∷ cs) =
    let a = sum_by-cons places_of c cs in
    let b = sum_by-cons (λ (s : Sender). s.buffers + 2) c.sender (map (λ (x : Client). x.sender) cs) in
    let r = places_all cs in
    omega (arith, a, b, r)

pub places_few : (w : Traffic) → IsTraffic w → (k : ℕ) → sum_by places_of (take k w.clients.items) < 2 ^ 32
places_few w h k =
    let all = places_all w.clients.items in
    let part = sum_by-take-le places_of w.clients.items k in
    let few = h.few in
    omega (arith, all, part, few)
