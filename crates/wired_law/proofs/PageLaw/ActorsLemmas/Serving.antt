-- What the sending virtualiser does for each client conserves buffers.
use Rattle.std.proofs.Common.{◌≡◌, ◌+◌, ℕ, zero, suc, Bool, true, false, not, cond, Some, List, [], ◌∷◌, ◌++◌, length, map, flat_map, slice_get, refl, sym, ap, ◌∙◌, arith}
use Rattle.std.specs.List.{filter}
use Rattle.std.specs.Option.{option_to_list}
use Rattle.cargo_core.specs.Ranges.{AreRanges}
use Rattle.wire_core.specs.declared.names.QueueId.{QueueId}
use Rattle.wire_core.specs.Deeds.{Cargo}
use Rattle.wire_core.specs.Lists.{Lists}
use Rattle.turn_kit.specs.Hands.{bodies_at}
use Rattle.turn_kit.proofs.Offers.{get_map}
use Rattle.buffer_kit.specs.Entries.{addr_of}
use Rattle.net_virt_tx.specs.declared.client.Client.{Client}
use Rattle.net_virt_tx.specs.declared.descriptors.Sender.{Sender}
use Rattle.net_virt_tx.specs.Descriptors.{to_client}
use Rattle.net_virt_tx.specs.Queued.{returns_list}
use Rattle.net_virt_tx.specs.Serving.{is_good_of, is_own, own_of}
use Rattle.net_virt_tx.specs.Clients.{ClientStands, client_cargo, range_of}
use Rattle.net_virt_tx.specs.Sending.{queue_at}
use Rattle.buffer_kit.specs.Conserving.{Count, counted, weighed}
use Rattle.buffer_kit.proofs.Conserving.{weighed-append, weighed-map, weighed-split, weighed-merge, all_weighed, counted-at}

-- of one client: what came from it and returned for it is what was sent for it, what went back to it
-- and what is kept of it
pub client_flow : (f : Count) (c : Client) (came sent returned back : List Cargo) → ClientStands c came sent returned back → weighed f came + weighed f returned ≡ weighed f sent + (weighed f back + weighed f (client_cargo c))
client_flow f c came sent returned back h =
    let split = weighed-split f (is_good_of c.sender) came in
    let good = ap (weighed f) h.sends in
    let parts = weighed-append f sent (map (to_client c.sender.base) (option_to_list c.leaving)) in
    let leaving = weighed-map f (to_client c.sender.base) (λ x. refl) (option_to_list c.leaving) in
    let bad = ap (weighed f) h.bads_are in
    let bads = weighed-append f h.bads (option_to_list c.bad) in
    let ret = ap (weighed f) h.rets_are in
    let rets = weighed-append f h.rets (returns_list c.returns) in
    let merged = weighed-merge f (h.bads ∷ h.rets ∷ []) back h.merged in
    let kept = weighed-append f (option_to_list c.leaving) (option_to_list c.bad ++ returns_list c.returns) in
    let kept' = weighed-append f (option_to_list c.bad) (returns_list c.returns) in
    omega (arith, split, good, parts, leaving, bad, bads, ret, rets, merged, kept, kept')

-- what is in each client's range
abbrev pub owned_by : List Cargo → Client → List Cargo
owned_by xs c = own_of c.sender xs

-- of all clients
pub all_flow : (f : Count) (cs : List Client) (qs rs : List QueueId) (turn gave : Lists) (sent returned : List Cargo) → length qs ≡ length cs → length rs ≡ length cs
    → ((k : ℕ) (c : Client) → slice_get cs k ≡ Some c → ClientStands c (turn (queue_at qs k)) (own_of c.sender sent) (own_of c.sender returned) (gave (queue_at rs k)))
    → counted f (bodies_at turn (map (λ q. q.0) qs)) + all_weighed f (map (owned_by returned) cs) ≡ all_weighed f (map (owned_by sent) cs) + (counted f (bodies_at gave (map (λ q. q.0) rs)) + weighed f (flat_map client_cargo cs))
all_flow f [] [] [] turn gave sent returned a b h = refl
all_flow f [] (q ∷ qs) rs turn gave sent returned a b h = absurd (omega (arith, a))
all_flow f [] [] (r ∷ rs) turn gave sent returned a b h = absurd (omega (arith, b))
all_flow f (c ∷ cs) [] rs turn gave sent returned a b h = absurd (omega (arith, a))
all_flow f (c ∷ cs) (q ∷ qs) [] turn gave sent returned a b h = absurd (omega (arith, b))
all_flow f (c ∷ cs) (q ∷ qs) (r ∷ rs) turn gave sent returned a b h =
    let one = client_flow f c (turn q.0) (own_of c.sender sent) (own_of c.sender returned) (gave r.0) (h zero c refl) in
    let rest = all_flow f cs qs rs turn gave sent returned (omega (arith, a)) (omega (arith, b)) (λ k d at. h (suc k) d at) in
    let came = counted-at f turn q.0 (map (λ q. q.0) qs) in
    let went = counted-at f gave r.0 (map (λ q. q.0) rs) in
    let kept = weighed-append f (client_cargo c) (flat_map client_cargo cs) in
    omega (arith, one, rest, came, went, kept)

-- no entry is in two ranges
abbrev pub Apart : List Sender → Type 0
Apart ss = (k j : ℕ) (s r : Sender) → slice_get ss k ≡ Some s → slice_get ss j ≡ Some r → (k ≡ j → ⊥) → (x : Cargo) → is_own s x ≡ true → is_own r x ≡ false

pub apart_of : (ss : List Sender) → AreRanges (map range_of ss) → Apart ss
apart_of ss h k j s r at at' ne x own = h.apart k j (range_of s) (range_of r) (get_map range_of ss k s at) (get_map range_of ss j r at') ne (addr_of x.0) own

-- what isn't in this client's range
abbrev pub beside_of : Sender → List Cargo → List Cargo
beside_of s xs = filter (λ x. not (is_own s x)) xs

-- what is in no range
abbrev pub nobodys : List Sender → List Cargo → List Cargo
nobodys [] xs = xs
nobodys (s ∷ ss) xs = nobodys ss (beside_of s xs)

-- what one client's range leaves out has all of another's
own_beside : (s r : Sender) → ((x : Cargo) → is_own s x ≡ true → is_own r x ≡ false) → (xs : List Cargo) → filter (is_own r) (beside_of s xs) ≡ filter (is_own r) xs
own_beside s r apart [] = refl
own_beside s r apart (x ∷ xs) = by (is_own s x) refl (own_beside s r apart xs)
  where
    by : (t : Bool) → is_own s x ≡ t → filter (is_own r) (beside_of s xs) ≡ filter (is_own r) xs → filter (is_own r) (cond (not (is_own s x)) (x ∷ beside_of s xs) (beside_of s xs)) ≡ cond (is_own r x) (x ∷ filter (is_own r) xs) (filter (is_own r) xs)
    by true own rest =
        ap (λ b. filter (is_own r) (cond (not b) (x ∷ beside_of s xs) (beside_of s xs))) own
        ∙ (rest ∙ sym (ap (λ b. cond b (x ∷ filter (is_own r) xs) (filter (is_own r) xs)) (apart x own)))
    by false own rest =
        ap (λ b. filter (is_own r) (cond (not b) (x ∷ beside_of s xs) (beside_of s xs))) own
        ∙ ap (λ l. cond (is_own r x) (x ∷ l) l) rest

abbrev pub owned : List Cargo → Sender → List Cargo
owned xs s = filter (is_own s) xs

maps_same : (xs ys : List Cargo) (ss : List Sender) → ((k : ℕ) (r : Sender) → slice_get ss k ≡ Some r → filter (is_own r) xs ≡ filter (is_own r) ys) → map (owned xs) ss ≡ map (owned ys) ss
maps_same xs ys [] h = refl
maps_same xs ys (s ∷ ss) h = ap (λ l. l ∷ map (owned xs) ss) (h zero s refl) ∙ ap (λ ls. owned ys s ∷ ls) (maps_same xs ys ss (λ k r at. h (suc k) r at))

-- all is in the ranges, or in none
pub shares : (f : Count) (ss : List Sender) → Apart ss → (xs : List Cargo) → weighed f xs ≡ all_weighed f (map (owned xs) ss) + weighed f (nobodys ss xs)
shares f [] apart xs = omega arith
shares f (s ∷ ss) apart xs =
    let split = weighed-split f (is_own s) xs in
    let rest = shares f ss (λ k j p q at at' ne. apart (suc k) (suc j) p q at at' (λ e. ne (let n : suc k ≡ suc j = e in omega (arith, n)))) (beside_of s xs) in
    let same = ap (all_weighed f) (maps_same (beside_of s xs) xs ss (λ k r at. own_beside s r (apart zero (suc k) s r refl at (λ e. absurd cc)) xs)) in
    omega (arith, split, rest, same)

-- what clients own, with device addresses or offsets
pub owned_weights : (f : Count) (xs : List Cargo) (cs : List Client) → all_weighed f (map (owned_by xs) cs) ≡ all_weighed f (map (owned xs) (map (λ (c : Client). c.sender) cs))
owned_weights f xs [] = refl
owned_weights f xs (c ∷ cs) = omega (arith, weighed-map f (to_client c.sender.base) (λ x. refl) (filter (is_own c.sender) xs), owned_weights f xs cs)
