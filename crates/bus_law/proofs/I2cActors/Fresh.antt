-- The clients of a bus and their queues, one after another.
use Rattle.std.proofs.Common.{◌≡◌, ◌+◌, ◌*◌, ◌<◌, ◌≤◌, ◌++◌, ◌⊎◌, inl, inr, ℕ, zero, suc, Some, List, [], ◌∷◌, length, length-append, slice_get, refl, sym, ap, ◌∙◌, subst, arith, append_assoc}
use Rattle.std.proofs.lemmas.Bool.{cases_lt}
use Rattle.wire_core.specs.declared.names.QueueId.{QueueId}
use Rattle.play_core.proofs.Lists.{some_is}
use Rattle.i2c_text.specs.declared.bus.BusAsk.{BusAsk}
use Rattle.i2c_virt.specs.declared.i2c_client.client.BusClient.{BusClient}
use Rattle.bus_law.specs.declared.i2c_actors.member.Member.{Member}
use Rattle.bus_law.specs.declared.i2c_actors.member.Member.TheVariants as Members
use Rattle.bus_law.specs.I2cActors.Casting.{AreEverySecond}
use Rattle.bus_law.specs.I2cActors.Starting.{IsFresh, IsClient, AreFresh}
use Rattle.bus_law.proofs.I2cActors.Places.{get_split}

-- an entry behind others
pub get_last : {X : Type 0} (xs : List X) (x : X) → slice_get (xs ++ x ∷ []) (length xs) ≡ Some x
get_last [] x = refl
get_last (y ∷ xs) x = get_last xs x

front : {X : Type 0} (xs ys : List X) (k : ℕ) (x : X) → slice_get xs k ≡ Some x → slice_get (xs ++ ys) k ≡ Some x
front [] ys k x at = cc
front (y ∷ xs) ys zero x at = at
front (y ∷ xs) ys (suc k) x at = front xs ys k x at

pub none_second : (first : ℕ) (qs : List QueueId) → qs ≡ [] → AreEverySecond first 0 qs
none_second first qs e = record { many = ap length e; each = λ c lt. absurd (omega (arith, lt)) }

pub one_second : (first clients : ℕ) (qs new : List QueueId) (q : QueueId) → AreEverySecond first clients qs → q.0 ≡ 2 * clients + first → new ≡ qs ++ q ∷ [] → AreEverySecond first (clients + 1) new
one_second first clients qs new q are is e = record {
  many = let m : length qs ≡ clients = are.many in let a = ap length e ∙ length-append qs (q ∷ []) in omega (arith, m, a);
  each = λ c lt. subst (λ l. slice_get l c ≡ Some (record { 0 = 2 * c + first })) (sym e) (by c lt (cases_lt c clients));
}
  where
    by : (c : ℕ) → c < clients + 1 → (c < clients) ⊎ (clients ≤ c) → slice_get (qs ++ q ∷ []) c ≡ Some (record { 0 = 2 * c + first })
    by c lt (inl before) = front qs (q ∷ []) c _ (are.each c before)
    by c lt (inr past) =
        let m : length qs ≡ clients = are.many in
        let here : length qs ≡ c = omega (arith, m, lt, past) in
        let same : 2 * clients + first ≡ 2 * c + first = omega (arith, lt, past) in
        subst (λ k. slice_get (qs ++ q ∷ []) k ≡ Some (record { 0 = 2 * c + first })) here (get_last qs q ∙ ap (λ (n : ℕ). Some (record { 0 = n })) (is ∙ same))

-- the clients below a number
pub record AreFreshTo (count : ℕ) (asks : List (List BusAsk)) (clients : List Member) : Type 0 where
  pub many : length clients ≡ count
  pub each : (c : ℕ) (x : Member) → slice_get clients c ≡ Some x → (script : List BusAsk) × (slice_get asks c ≡ Some script) × IsClient c script x

pub none_fresh : (asks : List (List BusAsk)) (clients : List Member) → clients ≡ [] → AreFreshTo 0 asks clients
none_fresh asks clients e = record { many = ap length e; each = λ c x at. let no : slice_get [] c ≡ Some x = ap (λ l. slice_get l c) (sym e) ∙ at in cc }

pub one_fresh : (count : ℕ) (asks : List (List BusAsk)) (clients new : List Member) (script : List BusAsk) (y : BusClient) → AreFreshTo count asks clients → slice_get asks count ≡ Some script → IsFresh count script y → new ≡ clients ++ Members.Client y ∷ [] → AreFreshTo (count + 1) asks new
one_fresh count asks clients new script y are has fresh e = record {
  many = let m : length clients ≡ count = are.many in let a = ap length e ∙ length-append clients (Members.Client y ∷ []) in omega (arith, m, a);
  each = λ c x at. by c x (get_split clients (Members.Client y ∷ []) c x (ap (λ l. slice_get l c) (sym e) ∙ at));
}
  where
    behind : (c : ℕ) (x : Member) (j : ℕ) → slice_get (Members.Client y ∷ []) j ≡ Some x → c ≡ length clients + j → (s : List BusAsk) × (slice_get asks c ≡ Some s) × IsClient c s x
    behind c x zero at e =
        let m : length clients ≡ count = are.many in
        let here : count ≡ c = omega (arith, m, e) in
        (script, ap (slice_get asks) (sym here) ∙ has, record { client = y; is = sym (some_is at); fresh = subst (λ k. IsFresh k script y) here fresh })
    behind c x (suc j) at e = cc

    by : (c : ℕ) (x : Member) → (slice_get clients c ≡ Some x) ⊎ ((j : ℕ) × (slice_get (Members.Client y ∷ []) j ≡ Some x) × (c ≡ length clients + j)) → (s : List BusAsk) × (slice_get asks c ≡ Some s) × IsClient c s x
    by c x (inl h) = are.each c x h
    by c x (inr h) = behind c x h.0 h.1 h.2

pub all_fresh : (count : ℕ) (asks : List (List BusAsk)) (clients : List Member) → AreFreshTo count asks clients → count ≡ length asks → AreFresh asks clients
all_fresh count asks clients are e = record { many = are.many ∙ e; each = are.each }

-- three more, one after another
pub three_more : {X : Type 0} (xs one two three : List X) (a b c : X) → one ≡ xs ++ a ∷ [] → two ≡ one ++ b ∷ [] → three ≡ two ++ c ∷ [] → three ≡ xs ++ a ∷ b ∷ c ∷ []
three_more xs one two three a b c e f g = g ∙ (ap (λ l. l ++ c ∷ []) (f ∙ (ap (λ l. l ++ b ∷ []) e ∙ append_assoc xs (a ∷ []) (b ∷ []))) ∙ append_assoc xs (a ∷ b ∷ []) (c ∷ []))
