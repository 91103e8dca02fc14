use Rattle.std.proofs.Common.{◌≡◌, ◌≢◌, ◌⊎◌, ◌==◌, ◌+◌, ◌-◌, ◌++◌, ◌<◌, ◌≤◌, ℕ, zero, suc, Bool, true, false, cond, nat_lt, if◌then◌else◌, Some, List, [], ◌∷◌, length, length-append, map, slice_get, refl, sym, ap, ◌∙◌, subst, arith, inl, inr}
use Rattle.std.proofs.Math.Dec.{eqb}
use Rattle.std.proofs.lemmas.Bool.{ltb-true, lt-ltb}
use Rattle.std.proofs.lemmas.Bool.Decides.{eqb_tells}
use Rattle.std.proofs.lemmas.List.{append-nil, length-map}
use Rattle.cargo_core.specs.declared.item.Item.{Item}
use Rattle.cargo_core.specs.declared.item.Item.TheVariants as ItemOf
use Rattle.cargo_core.specs.Lists.{Merge}
use Rattle.wire_core.specs.Ends.{Producer}
use Rattle.wire_core.specs.Fates.{without, marked}
use Rattle.wire_core.proofs.Fating.{without_length}
use Rattle.class_expect.specs.SerialSwitch.Switching.{input_of}
use Rattle.serial_virt.specs.Shares.{policy_at}
use Rattle.play_core.specs.Moved.{Moved, Seat, gone_at, with_put}
use Rattle.play_core.specs.Wants.{Want, seat_of, intake, outlet, intake_want, outlet_want}
use Rattle.play_core.specs.Sheets.{Due, AreApart, due_want}
use Rattle.play_core.specs.Totals.{total}
use Rattle.play_core.proofs.Lists.{some_is, map_get}
use Rattle.play_core.proofs.Merges.{merge_total}
use Rattle.serial_law.specs.Bytes.{bytes_in, byte_items, is_owed}
use Rattle.serial_law.specs.Table.{Marks, SharesOut, SharesSome, MergesAll, due_to, is_owed_to, some_owed, shares, share_dues, taken_count, is_held}
use Rattle.play_core.proofs.Puts.{put_here, put_beside}

-- the end at a client's queue
pub share_at : (all : ℕ) (bytes : List ℕ) (drops : List Bool) (from : ℕ) (qs : List ℕ) (m : Moved) (c k q : ℕ) → k ≡ from + c → slice_get qs c ≡ Some q
    → slice_get (shares all bytes drops from qs m) c ≡ Some (outlet_want q (is_owed_to all bytes drops k q m))
share_at all bytes drops from [] m c k q e at = cc
share_at all bytes drops from (x ∷ qs) m zero k q e at =
    let same : x ≡ q = some_is at in
    let here : from ≡ k = omega arith in
    ap Some (ap (λ n. outlet_want n (is_owed_to all bytes drops from n m)) same ∙ ap (λ n. outlet_want q (is_owed_to all bytes drops n q m)) here)
share_at all bytes drops from (x ∷ qs) m (suc c) k q e at = share_at all bytes drops (from + 1) qs m c k q (omega arith) at

-- whose end it is
pub share_from : (all : ℕ) (bytes : List ℕ) (drops : List Bool) (from : ℕ) (qs : List ℕ) (m : Moved) (c : ℕ) (w : Want) → slice_get (shares all bytes drops from qs m) c ≡ Some w
    → (q : ℕ) × (slice_get qs c ≡ Some q) × (outlet_want q (is_owed_to all bytes drops (from + c) q m) ≡ w)
share_from all bytes drops from [] m c w at = cc
share_from all bytes drops from (x ∷ qs) m zero w at =
    let z : from ≡ from + 0 = omega arith in
    (x, refl, ap (λ n. outlet_want x (is_owed_to all bytes drops n x m)) (sym z) ∙ some_is at)
share_from all bytes drops from (x ∷ qs) m (suc c) w at =
    let r = share_from all bytes drops (from + 1) qs m c w at in
    let z : from + 1 + c ≡ from + suc c = omega arith in
    (r.0, r.1, ap (λ n. outlet_want r.0 (is_owed_to all bytes drops n r.0 m)) (sym z) ∙ r.2)

pub none_owed : (all : ℕ) (bytes : List ℕ) (drops : List Bool) (from : ℕ) (qs : List ℕ) (m : Moved) → ((c k q : ℕ) → k ≡ from + c → slice_get qs c ≡ Some q → is_owed_to all bytes drops k q m ≡ false)
    → some_owed all bytes drops from qs m ≡ false
none_owed all bytes drops from [] m none = refl
none_owed all bytes drops from (q ∷ qs) m none =
    let here = none 0 from q (omega arith) refl in
    let rest = none_owed all bytes drops (from + 1) qs m (λ c k x e at. none (suc c) k x (omega arith) at) in
    rw here rest

pub count_is : (qs : List ℕ) (m : Moved) → taken_count qs m ≡ total (map (λ q. m.taken q) qs)
count_is [] m = refl
count_is (q ∷ qs) m = ap (λ n. length (m.taken q) + n) (count_is qs m)

-- where the same was put to the clients, as often room was looked for in vain, and the same was
-- taken from them
abbrev pub SamePut : List ℕ → Moved → Moved → Type 0
SamePut qs a b = (k q : ℕ) → slice_get qs k ≡ Some q → a.sent q ≡ b.sent q

abbrev pub SameLooks : List ℕ → Moved → Moved → Type 0
SameLooks qs a b = (k q : ℕ) → slice_get qs k ≡ Some q → a.noes Producer q ≡ b.noes Producer q

abbrev pub SameTaken : List ℕ → Moved → Moved → Type 0
SameTaken qs a b = (k q : ℕ) → slice_get qs k ≡ Some q → a.taken q ≡ b.taken q

pub shares_same : (all : ℕ) (bytes : List ℕ) (drops : List Bool) (c : ℕ) (qs : List ℕ) (a b : Moved) → SamePut qs a b → SameLooks qs a b → shares all bytes drops c qs a ≡ shares all bytes drops c qs b
shares_same all bytes drops c [] a b same look = refl
shares_same all bytes drops c (q ∷ qs) a b same look =
    let here : a.sent q ≡ b.sent q = same 0 q refl in
    let rest : shares all bytes drops (c + 1) qs a ≡ shares all bytes drops (c + 1) qs b = shares_same all bytes drops (c + 1) qs a b (λ k x at. same (suc k) x at) (λ k x at. look (suc k) x at) in
    let looked : a.noes Producer q ≡ b.noes Producer q = look 0 q refl in
    ap (λ (xs : List Item). outlet_want q (nat_lt (length xs) (due_to all bytes drops c q a)) ∷ shares all bytes drops (c + 1) qs a) here
    ∙ (ap (λ n. outlet_want q (nat_lt (length (b.sent q)) (length (input_of all c bytes) - cond (policy_at drops c) n 0)) ∷ shares all bytes drops (c + 1) qs a) looked
    ∙ ap (λ ws. outlet_want q (is_owed_to all bytes drops c q b) ∷ ws) rest)

pub owed_same : (all : ℕ) (bytes : List ℕ) (drops : List Bool) (c : ℕ) (qs : List ℕ) (a b : Moved) → SamePut qs a b → SameLooks qs a b → some_owed all bytes drops c qs a ≡ some_owed all bytes drops c qs b
owed_same all bytes drops c [] a b same look = refl
owed_same all bytes drops c (q ∷ qs) a b same look =
    let here : a.sent q ≡ b.sent q = same 0 q refl in
    let looked : a.noes Producer q ≡ b.noes Producer q = look 0 q refl in
    let rest : some_owed all bytes drops (c + 1) qs a ≡ some_owed all bytes drops (c + 1) qs b = owed_same all bytes drops (c + 1) qs a b (λ k x at. same (suc k) x at) (λ k x at. look (suc k) x at) in
    rw (here, looked, rest) refl

pub count_same : (qs : List ℕ) (a b : Moved) → SameTaken qs a b → taken_count qs a ≡ taken_count qs b
count_same [] a b same = refl
count_same (q ∷ qs) a b same =
    let here : a.taken q ≡ b.taken q = same 0 q refl in
    let rest : taken_count qs a ≡ taken_count qs b = count_same qs a b (λ k x at. same (suc k) x at) in
    rw (here, rest) refl

pub share_seats : (all : ℕ) (bytes : List ℕ) (drops : List Bool) (c : ℕ) (qs : List ℕ) (m : Moved) → map seat_of (shares all bytes drops c qs m) ≡ map outlet qs
share_seats all bytes drops c [] m = refl
share_seats all bytes drops c (q ∷ qs) m = ap (λ (ss : List Seat). outlet q ∷ ss) (share_seats all bytes drops (c + 1) qs m)

pub intake_seats : (need : Bool) (qs : List ℕ) → map seat_of (map (λ q. intake_want q need) qs) ≡ map intake qs
intake_seats need [] = refl
intake_seats need (q ∷ qs) = ap (λ (ss : List Seat). intake q ∷ ss) (intake_seats need qs)

-- the number that is due at a client's queue
pub share_due : (all : ℕ) (bytes : List ℕ) (drops : List Bool) (from : ℕ) (qs : List ℕ) (m : Moved) (i : ℕ) (d : Due) → slice_get (share_dues all bytes drops from qs m) i ≡ Some d → slice_get (shares all bytes drops from qs m) i ≡ Some (due_want m d)
share_due all bytes drops from [] m i d at = cc
share_due all bytes drops from (q ∷ qs) m zero d at = ap (λ (x : Due). Some (due_want m x)) (some_is at)
share_due all bytes drops from (q ∷ qs) m (suc i) d at = share_due all bytes drops (from + 1) qs m i d at

-- clients' queues that stand once each among the ends behind the first
pub queues_apart : (first : Seat) (f : ℕ → Seat) (qs : List ℕ) → AreApart (first ∷ map f qs) → (c d q : ℕ) → slice_get qs c ≡ Some q → slice_get qs d ≡ Some q → c ≡ d
queues_apart first f qs apart c d q a b =
    let e : suc c ≡ suc d = apart (suc c) (suc d) (f q) (map_get f qs c q a) (map_get f qs d q b) in
    omega (arith, e)

-- the one byte that is owed is that of the client to which some is
module _ (marks : Marks) (rx : ℕ) (clients : List ℕ) (drops : List Bool) (m : Moved) (row : SharesOut marks drops rx clients m) (c q : ℕ) (at : slice_get clients c ≡ Some q) where
  abbrev part : ℕ → List ℕ
  part k = without (marks k) (input_of (length clients) k (bytes_in (m.taken rx)))

  abbrev Put : Item → Type 0
  Put x = SharesOut marks drops rx clients (with_put m q x)

  -- what is due is as long as what wasn't dropped
  pub due_is : due_to (length clients) (bytes_in (m.taken rx)) drops c q m ≡ length (part c)
  due_is =
      let left = without_length (marks c) (input_of (length clients) c (bytes_in (m.taken rx))) (row.settled c q at) in
      let gone = row.as_many c q at in
      omega (arith, left, gone)

  pub owed_is : is_owed_to (length clients) (bytes_in (m.taken rx)) drops c q m ≡ is_owed (m.sent q) (part c)
  owed_is = ap (nat_lt (length (m.sent q))) due_is

  given_here : m.sent q ++ (if row.owner == c then row.owed else []) ≡ byte_items (part c)
  given_here = row.given c q at

  longer : is_owed (m.sent q) (part c) ≡ true → length (m.sent q) < length (byte_items (part c))
  longer owed = let lt : length (m.sent q) < length (part c) = ltb-true (length (m.sent q)) (length (part c)) owed in let n : length (byte_items (part c)) ≡ length (part c) = length-map (part c) (λ b. ItemOf.Byte b) in omega (arith, lt, n)

  nothing_left : m.sent q ++ [] ≡ byte_items (part c) → is_owed (m.sent q) (part c) ≡ true → ⊥
  nothing_left whole owed =
      let lt = longer owed in
      let same : length (m.sent q) ≡ length (byte_items (part c)) = ap length (sym (append-nil (m.sent q)) ∙ whole) in
      omega (arith, lt, same)

  others_given : (distinct : (c d q : ℕ) → slice_get clients c ≡ Some q → slice_get clients d ≡ Some q → c ≡ d) → (x : Item) → row.owner ≡ c → row.owed ≡ x ∷ [] → (d p : ℕ) → slice_get clients d ≡ Some p
      → ((eqb c d ≡ true) × (c ≡ d)) ⊎ ((eqb c d ≡ false) × (c ≢ d)) → (with_put m q x).sent p ++ (if row.owner == d then [] else []) ≡ byte_items (part d)
  others_given distinct x mine one d p there (inl e) =
      let same : q ≡ p = some_is (sym at ∙ (ap (slice_get clients) e.1 ∙ there)) in
      let now : m.sent q ++ x ∷ [] ≡ byte_items (part c) = ap (λ (ys : List Item). m.sent q ++ ys) (sym (owed_now mine one)) ∙ given_here in
      empty_if (row.owner == d) ((with_put m q x).sent p) ∙ (ap (λ n. (with_put m q x).sent n) (sym same) ∙ (put_here m q x ∙ (now ∙ ap (λ k. byte_items (part k)) e.1)))
    where
      empty_if : (b : Bool) (xs : List Item) → xs ++ (if b then [] else []) ≡ xs
      empty_if true xs = append-nil xs
      empty_if false xs = append-nil xs

      owed_now : row.owner ≡ c → row.owed ≡ x ∷ [] → (if row.owner == c then row.owed else []) ≡ x ∷ []
      owed_now mine one = rw (mine, one) (self c)
        where
          self : (c : ℕ) → (if c == c then x ∷ [] else []) ≡ x ∷ []
          self c = grind arith
  others_given distinct x mine one d p there (inr e) =
      let away : q ≢ p = λ same. e.1 (distinct c d p (at ∙ ap Some same) there) in
      let off : (row.owner == d) ≡ false = ap (λ k. k == d) mine ∙ e.0 in
      let now : m.sent p ++ [] ≡ byte_items (part d) = ap (λ (b : Bool). m.sent p ++ (if b then row.owed else [])) (sym off) ∙ row.given d p there in
      ap (λ (b : Bool). (with_put m q x).sent p ++ (if b then [] else [])) off ∙ (ap (λ (xs : List Item). xs ++ []) (put_beside m q x p away) ∙ now)

  one_more : (distinct : (c d q : ℕ) → slice_get clients c ≡ Some q → slice_get clients d ≡ Some q → c ≡ d) → is_owed (m.sent q) (part c) ≡ true → (x : Item) × Put x
  one_more distinct owed = mine (eqb_tells row.owner c)
    where
      some_left : row.owner ≡ c → (ys : List Item) → row.owed ≡ ys → m.sent q ++ ys ≡ byte_items (part c) → (x : Item) × Put x
      some_left mine [] is whole = absurd (nothing_left whole owed)
      some_left mine (x ∷ []) is whole = (x, record { owner = row.owner; owed = []; few = omega arith; given = λ d p there. others_given distinct x mine is d p there (eqb_tells c d); settled = row.settled; as_many = row.as_many })
      some_left mine (x ∷ y ∷ ys) is whole = let n : length row.owed ≡ length (x ∷ y ∷ ys) = ap length is in let few = row.few in absurd (omega (arith, n, few))

      mine : ((eqb row.owner c ≡ true) × (row.owner ≡ c)) ⊎ ((eqb row.owner c ≡ false) × (row.owner ≢ c)) → (x : Item) × Put x
      mine (inl e) = some_left e.1 row.owed refl (ap (λ (b : Bool). m.sent q ++ (if b then row.owed else [])) (sym e.0) ∙ given_here)
      mine (inr e) = absurd (nothing_left (ap (λ (b : Bool). m.sent q ++ (if b then row.owed else [])) (sym e.0) ∙ given_here) owed)

  pub share_owed : (first : Seat) → AreApart (first ∷ map outlet clients) → is_owed_to (length clients) (bytes_in (m.taken rx)) drops c q m ≡ true → (x : Item) × SharesSome drops rx clients (with_put m q x)
  share_owed first apart owed =
      let more = one_more (queues_apart first outlet clients apart) (sym owed_is ∙ owed) in
      (more.0, record { marks = marks; out = more.1 })

-- whatever is marked, a client that may be given one more is owed some
module _ (rx : ℕ) (clients : List ℕ) (drops : List Bool) (m : Moved) (c q : ℕ) (at : slice_get clients c ≡ Some q) where
  abbrev all_of : List ℕ
  all_of = input_of (length clients) c (bytes_in (m.taken rx))

  shorter_by : (marks : Marks) (x : Item) → SharesOut marks drops rx clients (with_put m q x) → length (m.sent q) + 1 ≤ length (without (marks c) all_of)
  shorter_by marks x put =
      let whole = put.given c q at in
      let n : length ((with_put m q x).sent q ++ (if put.owner == c then put.owed else [])) ≡ length (byte_items (without (marks c) all_of)) = ap length whole in
      let a = length-append ((with_put m q x).sent q) (if put.owner == c then put.owed else []) in
      let b : length ((with_put m q x).sent q) ≡ length (m.sent q ++ x ∷ []) = ap length (put_here m q x) in
      let d = length-append (m.sent q) (x ∷ []) in
      let k : length (byte_items (without (marks c) all_of)) ≡ length (without (marks c) all_of) = length-map (without (marks c) all_of) (λ b. ItemOf.Byte b) in
      omega (arith, n, a, b, d, k)

  due_less : (marks : Marks) (x : Item) → SharesOut marks drops rx clients (with_put m q x) → length (m.sent q) < due_to (length clients) (bytes_in (m.taken rx)) drops c q m
  due_less marks x put =
      let short = shorter_by marks x put in
      let left = without_length (marks c) all_of (put.settled c q at) in
      let gone : marked (marks c) ≡ gone_at (policy_at drops c) m Producer q = put.as_many c q at in
      omega (arith, short, left, gone)

  pub share_only : (x : Item) → SharesSome drops rx clients (with_put m q x) → is_owed_to (length clients) (bytes_in (m.taken rx)) drops c q m ≡ true
  share_only x some = lt-ltb (length (m.sent q)) (due_to (length clients) (bytes_in (m.taken rx)) drops c q m) (due_less some.marks x some.out)

-- one more byte of those that are held
module _ (tx : ℕ) (clients : List ℕ) (m : Moved) (row : MergesAll tx clients m) where
  abbrev all : List (List Item)
  all = map (λ q. m.taken q) clients

  pub merge_owed : is_held tx clients m ≡ true → (x : Item) × MergesAll tx clients (with_put m tx x)
  merge_owed held = go row.owed refl
    where
      lt : length (m.sent tx) < taken_count clients m
      lt = ltb-true (length (m.sent tx)) (taken_count clients m) held

      go : (ys : List Item) → row.owed ≡ ys → (x : Item) × MergesAll tx clients (with_put m tx x)
      go [] is =
          let n : length (m.sent tx ++ row.owed) ≡ total all = merge_total all (m.sent tx ++ row.owed) row.merged in
          let none : length row.owed ≡ 0 = ap length is in
          let a = length-append (m.sent tx) row.owed in
          let k = count_is clients m in
          absurd (omega (arith, n, none, a, k, lt))
      go (x ∷ []) is = (
        x,
        record {
          owed = [];
          few = omega arith;
          merged = subst (Merge all) (ap (λ (ys : List Item). m.sent tx ++ ys) is ∙ (sym (append-nil (m.sent tx ++ x ∷ [])) ∙ ap (λ (xs : List Item). xs ++ []) (sym (put_here m tx x)))) row.merged;
        },
      )
      go (x ∷ y ∷ ys) is = let n : length row.owed ≡ length (x ∷ y ∷ ys) = ap length is in let few = row.few in absurd (omega (arith, n, few))

  pub merge_only : (x : Item) → MergesAll tx clients (with_put m tx x) → is_held tx clients m ≡ true
  merge_only x put =
      let n : length ((with_put m tx x).sent tx ++ put.owed) ≡ total all = merge_total all ((with_put m tx x).sent tx ++ put.owed) put.merged in
      let a = length-append ((with_put m tx x).sent tx) put.owed in
      let b : length ((with_put m tx x).sent tx) ≡ length (m.sent tx ++ x ∷ []) = ap length (put_here m tx x) in
      let d = length-append (m.sent tx) (x ∷ []) in
      let k = count_is clients m in
      lt-ltb (length (m.sent tx)) (taken_count clients m) (omega (arith, n, a, b, d, k))
