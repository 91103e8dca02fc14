use Rattle.std.proofs.lemmas.Bool.{eqb-false}
use Rattle.std.proofs.Common.{◌≡◌, ◌==◌, ◌+◌, ◌≤◌, ◌<◌, ℕ, zero, suc, Bool, true, false, cond, List, [], ◌∷◌, ◌++◌, length, replicate, count_by, refl, sym, ap, ◌∙◌, subst, arith, eqb-true, ◌-◌, length-append}
use Rattle.std.proofs.lemmas.List.{length-replicate}
use Rattle.std.proofs.lemmas.List.Sums.{sum_by-cons, count_by-le-length}
use Rattle.wire_core.specs.Bells.{bit}
use Rattle.owner_law.specs.Things.{Buffer, is_same, Thing, Nothing, Whole, Frame, Lease, Return, as_buffer, as_lease, lends, gives_back, brings_leases}
use Rattle.owner_law.specs.Owners.{Spot, InQueue, InHand, is_spot, Place, Nowhere, At, Lent, Table, leases_at, Stands, without, after_put, after_take, frame_place, returned_place, receivers, AreCounted}
use Rattle.owner_law.specs.Keeping.{stands_in, is_with, IsAmong}
use Rattle.owner_law.proofs.Sums.{when, bit_when, when_none, when_more, same_is}

-- how many of some spots are this one
abbrev pub spots_at : Spot → List Spot → ℕ
spots_at spot spots = count_by (λ s. is_spot s spot) spots

pub spot_is : (a b : Spot) → is_spot a b ≡ true → a ≡ b
spot_is (InQueue n) (InQueue q) h = ap InQueue (eqb-true n q h)
spot_is (InQueue n) (InHand k) h = cc
spot_is (InHand k) (InQueue n) h = cc
spot_is (InHand k) (InHand j) h = ap InHand (eqb-true k j h)

spots_cons : (spot s : Spot) (spots : List Spot) → spots_at spot (s ∷ spots) ≡ when (is_spot s spot) 1 + spots_at spot spots
spots_cons spot s spots = sum_by-cons (λ x. when (is_spot x spot) 1) s spots

without_step : (b : Bool) (from s : Spot) (spots : List Spot) → is_spot s from ≡ b → (1 ≤ spots_at from spots → (spot : Spot) → spots_at spot (without from spots) + when (is_spot from spot) 1 ≡ spots_at spot spots) → 1 ≤ spots_at from (s ∷ spots) → (spot : Spot) → spots_at spot (cond b spots (s ∷ without from spots)) + when (is_spot from spot) 1 ≡ spots_at spot (s ∷ spots)
without_step true from s spots is rest some spot =
    let e : s ≡ from = spot_is s from is in
    let same : when (is_spot s spot) 1 ≡ when (is_spot from spot) 1 = ap (λ x. when (is_spot x spot) 1) e in
    omega (arith, spots_cons spot s spots, same)
without_step false from s spots is rest some spot =
    let none : when (is_spot s from) 1 ≡ 0 = ap (λ b. when b 1) is in
    let some_on : 1 ≤ spots_at from spots = omega (arith, some, spots_cons from s spots, none) in
    omega (arith, spots_cons spot s spots, spots_cons spot s (without from spots), rest some_on spot)

-- one spot less
pub without_at : (from : Spot) (spots : List Spot) → 1 ≤ spots_at from spots → (spot : Spot) → spots_at spot (without from spots) + when (is_spot from spot) 1 ≡ spots_at spot spots
without_at from [] some spot = absurd (omega (arith, some))
without_at from (s ∷ spots) some spot = without_step (is_spot s from) from s spots refl (without_at from spots) some spot

without_length_step : (b : Bool) (from s : Spot) (spots : List Spot) → is_spot s from ≡ b → (1 ≤ spots_at from spots → length (without from spots) + 1 ≡ length spots) → 1 ≤ spots_at from (s ∷ spots) → length (cond b spots (s ∷ without from spots)) + 1 ≡ length (s ∷ spots)
without_length_step true from s spots is rest some = omega arith
without_length_step false from s spots is rest some =
    let none : when (is_spot s from) 1 ≡ 0 = ap (λ b. when b 1) is in
    let some_on : 1 ≤ spots_at from spots = omega (arith, some, spots_cons from s spots, none) in
    omega (arith, rest some_on)

pub without_length : (from : Spot) (spots : List Spot) → 1 ≤ spots_at from spots → length (without from spots) + 1 ≡ length spots
without_length from [] some = absurd (omega (arith, some))
without_length from (s ∷ spots) some = without_length_step (is_spot s from) from s spots refl (without_length from spots) some

-- as many spots more
pub replicate_at : (n : ℕ) (s : Spot) (spots : List Spot) (spot : Spot) → spots_at spot (replicate n s ++ spots) ≡ when (is_spot s spot) n + spots_at spot spots
replicate_at zero s spots spot = omega (arith, when_none (is_spot s spot))
replicate_at (suc n) s spots spot = omega (arith, spots_cons spot s (replicate n s ++ spots), replicate_at n s spots spot, when_more (is_spot s spot) n)

-- a lease that moves from spot to spot, where this is so
moved_at : (s : Bool) (from to : Spot) (here spots : List Spot) → (s ≡ true → here ≡ spots) → (s ≡ true → 1 ≤ spots_at from here) → (spot : Spot) → spots_at spot (cond s (to ∷ without from here) spots) + when (is_spot from spot) (bit s) ≡ spots_at spot spots + when (is_spot to spot) (bit s)
moved_at true from to here spots same some spot =
    omega (arith, spots_cons spot to (without from here), without_at from here (some refl) spot, ap (spots_at spot) (same refl))
moved_at false from to here spots same some spot = omega (arith, when_none (is_spot from spot), when_none (is_spot to spot))

moved_length : (s : Bool) (from to : Spot) (here spots : List Spot) → (s ≡ true → here ≡ spots) → (s ≡ true → 1 ≤ spots_at from here) → length (cond s (to ∷ without from here) spots) ≡ length spots
moved_length true from to here spots same some = omega (arith, without_length from here (some refl), ap length (same refl))
moved_length false from to here spots same some = refl

-- leases that are made, and one that comes back
made_at : (s : Bool) (n : ℕ) (to : Spot) (here spots : List Spot) → (s ≡ true → here ≡ spots) → (spot : Spot) → spots_at spot (cond s (replicate n to ++ here) spots) ≡ spots_at spot spots + when (is_spot to spot) (when s n)
made_at true n to here spots same spot = omega (arith, replicate_at n to here spot, ap (spots_at spot) (same refl))
made_at false n to here spots same spot = omega (arith, when_none (is_spot to spot))

made_length : (s : Bool) (n : ℕ) (to : Spot) (here spots : List Spot) → (s ≡ true → here ≡ spots) → length (cond s (replicate n to ++ here) spots) ≡ length spots + when s n
made_length true n to here spots same = omega (arith, length-append (replicate n to) here, length-replicate n to, ap length (same refl))
made_length false n to here spots same = omega arith

back_at : (s : Bool) (from : Spot) (here spots : List Spot) → (s ≡ true → here ≡ spots) → (s ≡ true → 1 ≤ spots_at from here) → (spot : Spot) → spots_at spot (cond s (without from here) spots) + when (is_spot from spot) (bit s) ≡ spots_at spot spots
back_at true from here spots same some spot = omega (arith, without_at from here (some refl) spot, ap (spots_at spot) (same refl))
back_at false from here spots same some spot = omega (arith, when_none (is_spot from spot))

back_length : (s : Bool) (from : Spot) (here spots : List Spot) → (s ≡ true → here ≡ spots) → (s ≡ true → 1 ≤ spots_at from here) → length (cond s (without from here) spots) + bit s ≡ length spots
back_length true from here spots same some = omega (arith, without_length from here (some refl), ap length (same refl))
back_length false from here spots same some = omega arith

-- a number of places that is another one at a new place
placed : (f : Place → ℕ) (s : Bool) (P Q : Place) (less more : ℕ) → (s ≡ true → f P + less ≡ f Q + more) → f (cond s P Q) + when s less ≡ f Q + when s more
placed f true P Q less more h = h refl
placed f false P Q less more h = refl

-- what a put does to the place and the leases of a buffer
pub record PutEffect (lender : ℕ) (old : Table) (actor queue : ℕ) (x : Thing) (new : Table) (b : Buffer) : Type 0 where
  pub stands : (q : ℕ) → stands_in q (new.place b) ≡ stands_in q (old.place b) + when (queue == q) (as_buffer b x)
  pub with : (j : ℕ) → is_with lender j (new.place b) + when (actor == j) (as_buffer b x) ≡ is_with lender j (old.place b)
  pub queued : (q : ℕ) → leases_at new b (InQueue q) ≡ leases_at old b (InQueue q) + when (queue == q) (as_lease b x)
  pub held : (j : ℕ) → leases_at new b (InHand j) + when (actor == j) (as_lease b x) ≡ leases_at old b (InHand j)
  pub owed : receivers (new.place b) ≡ receivers (old.place b)
  pub length_is : length (new.leases b) ≡ length (old.leases b)
  pub lent : (n : ℕ) → new.place b ≡ Lent n → old.place b ≡ Lent n
  pub among : (count : ℕ) → IsAmong count lender (old.place b) → IsAmong count lender (new.place b)

put_stands : (s : Bool) (P : Place) (k n : ℕ) → (s ≡ true → P ≡ At (InHand k)) → (q : ℕ) → stands_in q (cond s (At (InQueue n)) P) ≡ stands_in q P + when (n == q) (bit s)
put_stands true P k n h q = rw (h refl) (omega (arith, bit_when (n == q)))
put_stands false P k n h q = omega (arith, when_none (n == q))

put_with : (s : Bool) (P : Place) (lender k n : ℕ) → (s ≡ true → P ≡ At (InHand k)) → (j : ℕ) → is_with lender j (cond s (At (InQueue n)) P) + when (k == j) (bit s) ≡ is_with lender j P
put_with true P lender k n h j = rw (h refl) (omega (arith, bit_when (k == j)))
put_with false P lender k n h j = omega (arith, when_none (k == j))

put_owed : (s : Bool) (P : Place) (k n : ℕ) → (s ≡ true → P ≡ At (InHand k)) → receivers (cond s (At (InQueue n)) P) ≡ receivers P
put_owed true P k n h = rw (h refl) refl
put_owed false P k n h = refl

put_among : (s : Bool) (P : Place) (lender n count : ℕ) → IsAmong count lender P → IsAmong count lender (cond s (At (InQueue n)) P)
put_among true P lender n count h = tt
put_among false P lender n count h = h

put_lent : (s : Bool) (P : Place) (n r : ℕ) → cond s (At (InQueue n)) P ≡ Lent r → P ≡ Lent r
put_lent true P n r h = cc
put_lent false P n r h = h

module _ (lender : ℕ) (t : Table) (k n : ℕ) where
  -- a buffer is put
  put_whole : (c b : Buffer) → t.place c ≡ At (InHand k) → PutEffect lender t k n (Whole c) (after_put t k n (Whole c)) b
  put_whole c b found =
      let here : is_same c b ≡ true → t.place b ≡ At (InHand k) = λ h. subst (λ d. t.place d ≡ At (InHand k)) (same_is c b h) found in
      record {
        stands = put_stands (is_same c b) (t.place b) k n here;
        with = put_with (is_same c b) (t.place b) lender k n here;
        queued = λ q. omega (arith, when_none (n == q));
        held = λ j. omega (arith, when_none (k == j));
        owed = put_owed (is_same c b) (t.place b) k n here;
        length_is = refl;
        lent = put_lent (is_same c b) (t.place b) n;
        among = put_among (is_same c b) (t.place b) lender n;
      }

  -- a lease is put
  put_lease : (c b : Buffer) → 1 ≤ leases_at t c (InHand k) → PutEffect lender t k n (Lease c) (after_put t k n (Lease c)) b
  put_lease c b found =
      let same : is_same c b ≡ true → t.leases c ≡ t.leases b = λ h. ap t.leases (same_is c b h) in
      record {
        stands = λ q. omega (arith, when_none (n == q));
        with = λ j. omega (arith, when_none (k == j));
        queued = λ q. omega (arith, moved_at (is_same c b) (InHand k) (InQueue n) (t.leases c) (t.leases b) same (λ h. found) (InQueue q));
        held = λ j. omega (arith, moved_at (is_same c b) (InHand k) (InQueue n) (t.leases c) (t.leases b) same (λ h. found) (InHand j));
        owed = refl;
        length_is = moved_length (is_same c b) (InHand k) (InQueue n) (t.leases c) (t.leases b) same (λ h. found);
        lent = λ r h. h;
        among = λ count h. h;
      }

  pub put_effect : (x : Thing) → Stands t (InHand k) x → (b : Buffer) → PutEffect lender t k n x (after_put t k n x) b
  put_effect Nothing found b = record {
    stands = λ q. omega (arith, when_none (n == q));
    with = λ j. omega (arith, when_none (k == j));
    queued = λ q. omega (arith, when_none (n == q));
    held = λ j. omega (arith, when_none (k == j));
    owed = refl;
    length_is = refl;
    lent = λ r h. h;
    among = λ count h. h;
  }
  put_effect (Whole c) found b = put_whole c b found
  put_effect (Frame c r) found b = let e = put_whole c b found in record { stands = e.stands; with = e.with; queued = e.queued; held = e.held; owed = e.owed; length_is = e.length_is; lent = e.lent; among = e.among }
  put_effect (Lease c) found b = put_lease c b found
  put_effect (Return c) found b = let e = put_lease c b found in record { stands = e.stands; with = e.with; queued = e.queued; held = e.held; owed = e.owed; length_is = e.length_is; lent = e.lent; among = e.among }

-- what a take does to the place and the leases of a buffer
pub record TakeEffect (lender : ℕ) (old : Table) (actor queue : ℕ) (x : Thing) (new : Table) (b : Buffer) : Type 0 where
  pub stands : (q : ℕ) → stands_in q (new.place b) + when (queue == q) (as_buffer b x) ≡ stands_in q (old.place b)
  pub with : (j : ℕ) → is_with lender j (new.place b) ≡ is_with lender j (old.place b) + when (actor == j) (as_buffer b x)
  pub queued : (q : ℕ) → leases_at new b (InQueue q) + when (queue == q) (as_lease b x) ≡ leases_at old b (InQueue q)
  pub held : (j : ℕ) → leases_at new b (InHand j) ≡ leases_at old b (InHand j) + when (actor == j) (brings_leases b x)
  pub owed : receivers (new.place b) + gives_back b x ≡ receivers (old.place b) + lends b x
  pub length_is : length (new.leases b) + gives_back b x ≡ length (old.leases b) + lends b x
  pub some : (n : ℕ) → new.place b ≡ Lent n → 1 ≤ n
  pub among : (count : ℕ) → actor < count → IsAmong count lender (old.place b) → IsAmong count lender (new.place b)

take_stands : (s : Bool) (P Q : Place) (n : ℕ) → ((q : ℕ) → stands_in q P ≡ 0) → (s ≡ true → Q ≡ At (InQueue n)) → (q : ℕ) → stands_in q (cond s P Q) + when (n == q) (bit s) ≡ stands_in q Q
take_stands true P Q n none h q = rw (h refl) (omega (arith, none q, bit_when (n == q)))
take_stands false P Q n none h q = omega (arith, when_none (n == q))

take_with : (s : Bool) (P Q : Place) (lender k n : ℕ) → ((j : ℕ) → is_with lender j P ≡ bit (k == j)) → (s ≡ true → Q ≡ At (InQueue n)) → (j : ℕ) → is_with lender j (cond s P Q) ≡ is_with lender j Q + when (k == j) (bit s)
take_with true P Q lender k n his h j = rw (h refl) (omega (arith, his j, bit_when (k == j)))
take_with false P Q lender k n his h j = omega (arith, when_none (k == j))

take_owed : (s : Bool) (P Q : Place) (n r : ℕ) → receivers P ≡ r → (s ≡ true → Q ≡ At (InQueue n)) → receivers (cond s P Q) ≡ receivers Q + when s r
take_owed true P Q n r owes h = rw (h refl) (omega (arith, owes))
take_owed false P Q n r owes h = omega arith

take_some : (s : Bool) (P Q : Place) → ((r : ℕ) → P ≡ Lent r → 1 ≤ r) → ((r : ℕ) → Q ≡ Lent r → 1 ≤ r) → (r : ℕ) → cond s P Q ≡ Lent r → 1 ≤ r
take_some true P Q mine yours r h = mine r h
take_some false P Q mine yours r h = yours r h

take_among : (s : Bool) (P Q : Place) (lender count : ℕ) → IsAmong count lender P → IsAmong count lender Q → IsAmong count lender (cond s P Q)
take_among true P Q lender count mine yours = mine
take_among false P Q lender count mine yours = yours

-- where a buffer with a frame goes
frame_stands : (k r q : ℕ) → stands_in q (frame_place k r) ≡ 0
frame_stands k zero q = refl
frame_stands k (suc r) q = refl

frame_with : (lender k r : ℕ) → k ≡ lender → (j : ℕ) → is_with lender j (frame_place k r) ≡ bit (k == j)
frame_with lender k zero his j = refl
frame_with lender k (suc r) his j = rw his refl

frame_owed : (k r : ℕ) → receivers (frame_place k r) ≡ r
frame_owed k zero = refl
frame_owed k (suc r) = refl

frame_some : (k r n : ℕ) → frame_place k r ≡ Lent n → 1 ≤ n
frame_some k zero n h = cc
frame_some k (suc r) n h = let e : suc r ≡ n = cc in omega (arith, e)

frame_among : (lender k r count : ℕ) → k ≡ lender → k < count → IsAmong count lender (frame_place k r)
frame_among lender k zero count his lt = lt
frame_among lender k (suc r) count his lt = subst (λ j. j < count) his lt

-- where a lent buffer goes, of which a lease comes back
lent_stands : (b : Bool) (k r q : ℕ) → stands_in q (cond b (At (InHand k)) (Lent (r - 1))) ≡ 0
lent_stands true k r q = refl
lent_stands false k r q = refl

lent_with : (b : Bool) (lender k r : ℕ) → k ≡ lender → (j : ℕ) → is_with lender j (cond b (At (InHand k)) (Lent (r - 1))) ≡ is_with lender j (Lent r)
lent_with true lender k r his j = rw his refl
lent_with false lender k r his j = refl

lent_owed : (b : Bool) (k r : ℕ) → (r == 1) ≡ b → 1 ≤ r → receivers (cond b (At (InHand k)) (Lent (r - 1))) + 1 ≡ r
lent_owed true k r is some = omega (arith, eqb-true r 1 is)
lent_owed false k r is some = omega (arith, some)

lent_some : (b : Bool) (k r n : ℕ) → (r == 1) ≡ b → 1 ≤ r → cond b (At (InHand k)) (Lent (r - 1)) ≡ Lent n → 1 ≤ n
lent_some true k r n is some h = cc
lent_some false k r n is some h =
    let e : r - 1 ≡ n = cc in
    omega (arith, e, some, λ (one : r ≡ 1). eqb-false r 1 is one)

lent_among : (b : Bool) (lender k r count : ℕ) → k < count → lender < count → IsAmong count lender (cond b (At (InHand k)) (Lent (r - 1)))
lent_among true lender k r count mine his = mine
lent_among false lender k r count mine his = his

returned_among : (P : Place) (lender k count : ℕ) → k < count → IsAmong count lender P → IsAmong count lender (returned_place k P)
returned_among Nowhere lender k count lt h = h
returned_among (At spot) lender k count lt h = h
returned_among (Lent r) lender k count lt h = lent_among (r == 1) lender k r count lt h

returned_stands : (P Q : Place) (k len q : ℕ) → P ≡ Q → receivers P ≡ len → 1 ≤ len → stands_in q (returned_place k P) ≡ stands_in q Q
returned_stands Nowhere Q k len q same owes some = absurd (omega (arith, owes, some))
returned_stands (At spot) Q k len q same owes some = absurd (omega (arith, owes, some))
returned_stands (Lent r) Q k len q same owes some = lent_stands (r == 1) k r q ∙ ap (stands_in q) same

returned_with : (P Q : Place) (lender k len : ℕ) → P ≡ Q → receivers P ≡ len → 1 ≤ len → k ≡ lender → (j : ℕ) → is_with lender j (returned_place k P) ≡ is_with lender j Q
returned_with Nowhere Q lender k len same owes some his j = absurd (omega (arith, owes, some))
returned_with (At spot) Q lender k len same owes some his j = absurd (omega (arith, owes, some))
returned_with (Lent r) Q lender k len same owes some his j = lent_with (r == 1) lender k r his j ∙ ap (is_with lender j) same

returned_owed : (P Q : Place) (k len : ℕ) → P ≡ Q → receivers P ≡ len → 1 ≤ len → receivers (returned_place k P) + 1 ≡ receivers Q
returned_owed Nowhere Q k len same owes some = absurd (omega (arith, owes, some))
returned_owed (At spot) Q k len same owes some = absurd (omega (arith, owes, some))
returned_owed (Lent r) Q k len same owes some = lent_owed (r == 1) k r refl (omega (arith, owes, some)) ∙ ap receivers same

returned_some : (P : Place) (k len : ℕ) → receivers P ≡ len → 1 ≤ len → (n : ℕ) → returned_place k P ≡ Lent n → 1 ≤ n
returned_some Nowhere k len owes some n h = absurd (omega (arith, owes, some))
returned_some (At spot) k len owes some n h = absurd (omega (arith, owes, some))
returned_some (Lent r) k len owes some n h = lent_some (r == 1) k r n refl (omega (arith, owes, some)) h

-- of a buffer that is another one only where this is so
same_stands : (s : Bool) (P Q : Place) (q : ℕ) → (s ≡ true → stands_in q P ≡ stands_in q Q) → stands_in q (cond s P Q) ≡ stands_in q Q
same_stands true P Q q h = h refl
same_stands false P Q q h = refl

same_with : (s : Bool) (P Q : Place) (lender j : ℕ) → (s ≡ true → is_with lender j P ≡ is_with lender j Q) → is_with lender j (cond s P Q) ≡ is_with lender j Q
same_with true P Q lender j h = h refl
same_with false P Q lender j h = refl

same_owed : (s : Bool) (P Q : Place) → (s ≡ true → receivers P + 1 ≡ receivers Q) → receivers (cond s P Q) + bit s ≡ receivers Q
same_owed true P Q h = h refl
same_owed false P Q h = omega arith

-- who takes this may lend: it is the one who lends
abbrev pub IsLenders : ℕ → ℕ → Thing → Type 0
IsLenders lender k Nothing = Unit {0}
IsLenders lender k (Whole c) = Unit {0}
IsLenders lender k (Frame c r) = k ≡ lender
IsLenders lender k (Lease c) = Unit {0}
IsLenders lender k (Return c) = k ≡ lender

module _ (lender : ℕ) (t : Table) (counted : AreCounted t) (k n : ℕ) where
  -- a frame is taken, which is for receivers or for nobody
  take_frame : (c : Buffer) (r : ℕ) (b : Buffer) → k ≡ lender → t.place c ≡ At (InQueue n) → TakeEffect lender t k n (Frame c r) (after_take t k n (Frame c r)) b
  take_frame c r b his found =
      let here : is_same c b ≡ true → t.place b ≡ At (InQueue n) = λ h. subst (λ d. t.place d ≡ At (InQueue n)) (same_is c b h) found in
      let same : is_same c b ≡ true → t.leases c ≡ t.leases b = λ h. ap t.leases (same_is c b h) in
      record {
        stands = take_stands (is_same c b) (frame_place k r) (t.place b) n (frame_stands k r) here;
        with = take_with (is_same c b) (frame_place k r) (t.place b) lender k n (frame_with lender k r his) here;
        queued = λ q. omega (arith, when_none (n == q), made_at (is_same c b) r (InHand k) (t.leases c) (t.leases b) same (InQueue q), when_none false);
        held = λ j. made_at (is_same c b) r (InHand k) (t.leases c) (t.leases b) same (InHand j);
        owed = omega (arith, take_owed (is_same c b) (frame_place k r) (t.place b) n r (frame_owed k r) here);
        length_is = omega (arith, made_length (is_same c b) r (InHand k) (t.leases c) (t.leases b) same);
        some = take_some (is_same c b) (frame_place k r) (t.place b) (frame_some k r) (counted.some b);
        among = λ count lt h. take_among (is_same c b) (frame_place k r) (t.place b) lender count (frame_among lender k r count his lt) h;
      }

  -- a buffer is taken
  take_whole : (c b : Buffer) → t.place c ≡ At (InQueue n) → TakeEffect lender t k n (Whole c) (after_take t k n (Whole c)) b
  take_whole c b found =
      let here : is_same c b ≡ true → t.place b ≡ At (InQueue n) = λ h. subst (λ d. t.place d ≡ At (InQueue n)) (same_is c b h) found in
      record {
        stands = take_stands (is_same c b) (At (InHand k)) (t.place b) n (λ q. refl) here;
        with = take_with (is_same c b) (At (InHand k)) (t.place b) lender k n (λ j. refl) here;
        queued = λ q. omega (arith, when_none (n == q));
        held = λ j. omega (arith, when_none (k == j));
        owed = omega (arith, take_owed (is_same c b) (At (InHand k)) (t.place b) n 0 refl here, when_none (is_same c b));
        length_is = refl;
        some = take_some (is_same c b) (At (InHand k)) (t.place b) (λ r h. cc) (counted.some b);
        among = λ count lt h. take_among (is_same c b) (At (InHand k)) (t.place b) lender count lt h;
      }

  -- a lease is taken
  take_lease : (c b : Buffer) → 1 ≤ leases_at t c (InQueue n) → TakeEffect lender t k n (Lease c) (after_take t k n (Lease c)) b
  take_lease c b found =
      let same : is_same c b ≡ true → t.leases c ≡ t.leases b = λ h. ap t.leases (same_is c b h) in
      record {
        stands = λ q. omega (arith, when_none (n == q));
        with = λ j. omega (arith, when_none (k == j));
        queued = λ q. omega (arith, moved_at (is_same c b) (InQueue n) (InHand k) (t.leases c) (t.leases b) same (λ h. found) (InQueue q));
        held = λ j. omega (arith, moved_at (is_same c b) (InQueue n) (InHand k) (t.leases c) (t.leases b) same (λ h. found) (InHand j));
        owed = refl;
        length_is = ap (λ m. m + 0) (moved_length (is_same c b) (InQueue n) (InHand k) (t.leases c) (t.leases b) same (λ h. found));
        some = counted.some b;
        among = λ count lt h. h;
      }

  -- a lease comes back to who lent the buffer
  take_return : (c b : Buffer) → k ≡ lender → 1 ≤ leases_at t c (InQueue n) → TakeEffect lender t k n (Return c) (after_take t k n (Return c)) b
  take_return c b his found =
      let same : is_same c b ≡ true → t.leases c ≡ t.leases b = λ h. ap t.leases (same_is c b h) in
      let there : is_same c b ≡ true → t.place c ≡ t.place b = λ h. ap t.place (same_is c b h) in
      let some : 1 ≤ length (t.leases c) = omega (arith, found, count_by-le-length (λ s. is_spot s (InQueue n)) (t.leases c)) in
      record {
        stands = λ q. omega (arith, when_none (n == q), same_stands (is_same c b) (returned_place k (t.place c)) (t.place b) q (λ h. returned_stands (t.place c) (t.place b) k (length (t.leases c)) q (there h) (counted.leases c) some));
        with = λ j. omega (arith, when_none (k == j), same_with (is_same c b) (returned_place k (t.place c)) (t.place b) lender j (λ h. returned_with (t.place c) (t.place b) lender k (length (t.leases c)) (there h) (counted.leases c) some his j));
        queued = λ q. back_at (is_same c b) (InQueue n) (t.leases c) (t.leases b) same (λ h. found) (InQueue q);
        held = λ j. omega (arith, when_none (k == j), back_at (is_same c b) (InQueue n) (t.leases c) (t.leases b) same (λ h. found) (InHand j));
        owed = omega (arith, same_owed (is_same c b) (returned_place k (t.place c)) (t.place b) (λ h. returned_owed (t.place c) (t.place b) k (length (t.leases c)) (there h) (counted.leases c) some));
        length_is = omega (arith, back_length (is_same c b) (InQueue n) (t.leases c) (t.leases b) same (λ h. found));
        some = take_some (is_same c b) (returned_place k (t.place c)) (t.place b) (returned_some (t.place c) k (length (t.leases c)) (counted.leases c) some) (counted.some b);
        among = λ count lt h. returned_among_of (is_same c b) count lt h there;
      }
    where
      returned_among_of : (s : Bool) (count : ℕ) → k < count → IsAmong count lender (t.place b) → (s ≡ true → t.place c ≡ t.place b) → IsAmong count lender (cond s (returned_place k (t.place c)) (t.place b))
      returned_among_of true count lt h same = returned_among (t.place c) lender k count lt (subst (λ P. IsAmong count lender P) (sym (same refl)) h)
      returned_among_of false count lt h same = h

  pub take_effect : (x : Thing) → IsLenders lender k x → Stands t (InQueue n) x → (b : Buffer) → TakeEffect lender t k n x (after_take t k n x) b
  take_effect Nothing his found b = record {
    stands = λ q. omega (arith, when_none (n == q));
    with = λ j. omega (arith, when_none (k == j));
    queued = λ q. omega (arith, when_none (n == q));
    held = λ j. omega (arith, when_none (k == j));
    owed = refl;
    length_is = refl;
    some = counted.some b;
    among = λ count lt h. h;
  }
  take_effect (Whole c) his found b = take_whole c b found
  take_effect (Frame c r) his found b = take_frame c r b his found
  take_effect (Lease c) his found b = take_lease c b found
  take_effect (Return c) his found b = take_return c b his found
