use Rattle.std.proofs.Common.{◌≡◌, ◌+◌, ◌≤◌, ◌&&◌, ℕ, zero, suc, Bool, true, false, cond, nat_lt, List, [], ◌∷◌, ◌++◌, length, map, refl, sym, ap, ◌∙◌, arith}
use Rattle.std.proofs.lemmas.List.{append-nil, map-append, length-append}
use Rattle.wire_core.specs.declared.names.Event.{Event}
use Rattle.wire_core.specs.Deeds.{Cargo}
use Rattle.wire_core.specs.Ends.{Producer}
use Rattle.class_expect.specs.SerialSwitch.Carried.{byte_cargo}
use Rattle.wire_core.specs.Fates.{Came, Served, Refused, Other, IsRefused, Fate, fate_after, is_take_at, is_vain_at, noes_at, without, marked}
use Rattle.wire_core.proofs.Fating.{marked-append, without_more, without_last, without_settled, without_none, settled_none, settled_length, few_dropped, none_dropped}
use Rattle.wire_core.proofs.Readings.{both_true}
use Rattle.serial_virt.specs.Shares.{Taker, came_to, is_put_at, serial_word, byte_fate, ClientStands}

-- a byte came
came_by : (drops : Bool) → drops ≡ true → (ds : List Bool) (w : Bool) (noes : ℕ) (input : List ℕ) (sent : List Cargo) (x : ℕ) → ClientStands drops (record { dropped = ds; waits = w }) noes input sent [] → ClientStands drops (fate_after (record { dropped = ds; waits = w }) Came) noes (input ++ x ∷ []) sent (byte_cargo x ∷ [])
came_by drops on ds true noes input sent x h = let no : 1 ≡ 0 = (h.tells on).waits in absurd (omega (arith, no))
came_by drops on ds false noes input sent x h =
    let k = (h.tells on).came in
    let few : length ds ≤ length input = omega (arith, k) in
    let n = length-append input (x ∷ []) in
    rw (append-nil ds) (record {
      given = ap (λ cs. cs ++ byte_cargo x ∷ []) (sym (append-nil sent) ∙ h.given) ∙ (sym (map-append byte_cargo (without ds input) (x ∷ [])) ∙ ap (map byte_cargo) (sym (without_more ds input (x ∷ []) few)));
      tells = λ o. record { came = omega (arith, k, n); waits = refl; each = (h.tells on).each };
    })

pub came_client : (drops : Bool) → drops ≡ true → (f : Fate) (noes : ℕ) (input : List ℕ) (sent : List Cargo) (x : ℕ) → ClientStands drops f noes input sent [] → ClientStands drops (fate_after f Came) noes (input ++ x ∷ []) sent (byte_cargo x ∷ [])
came_client drops on f noes input sent x h = came_by drops on f.dropped f.waits noes input sent x h

-- it was put
served_by : (drops : Bool) (ds : List Bool) (w : Bool) (noes : ℕ) (input : List ℕ) (sent : List Cargo) (c : Cargo) → ClientStands drops (record { dropped = ds; waits = w }) noes input sent (c ∷ []) → ClientStands drops (fate_after (record { dropped = ds; waits = w }) Served) noes input (sent ++ c ∷ []) []
served_by drops ds w noes input sent c h = record {
  given = append-nil (sent ++ c ∷ []) ∙ (h.given ∙ ap (map byte_cargo) (sym (without_settled w ds input)));
  tells = λ on.
      let k = (h.tells on).came in
      let n = settled_length w false ds in
      record { came = omega (arith, k, n); waits = refl; each = (h.tells on).each ∙ sym (settled_none w ds) };
}

pub served_client : (drops : Bool) (f : Fate) (noes : ℕ) (input : List ℕ) (sent : List Cargo) (c : Cargo) → ClientStands drops f noes input sent (c ∷ []) → ClientStands drops (fate_after f Served) noes input (sent ++ c ∷ []) []
served_client drops f noes input sent c h = served_by drops f.dropped f.waits noes input sent c h

-- a list that isn't empty, by its last element
last_of : (xs : List ℕ) (n : ℕ) → n + 1 ≡ length xs → (ys : List ℕ) × (y : ℕ) × (xs ≡ ys ++ y ∷ []) × (length ys ≡ n)
last_of [] n long = absurd (omega (arith, long))
last_of (x ∷ []) n long = ([], x, refl, omega (arith, long))
last_of (x ∷ y ∷ xs) zero long = absurd (omega (arith, long))
last_of (x ∷ y ∷ xs) (suc n) long = let r = last_of (y ∷ xs) n (omega (arith, long)) in let e = r.3 in (x ∷ r.0, r.1, ap (λ zs. x ∷ zs) r.2, omega (arith, e))

-- it was dropped
refused_by : (drops : Bool) → drops ≡ true → (ds : List Bool) (w : Bool) (noes : ℕ) (input : List ℕ) (sent : List Cargo) (c : Cargo) → ClientStands drops (record { dropped = ds; waits = w }) noes input sent (c ∷ []) → ClientStands drops (fate_after (record { dropped = ds; waits = w }) Refused) (noes + 1) input sent []
refused_by drops on ds false noes input sent c h = let no : 0 ≡ 1 = (h.tells on).waits in absurd (omega (arith, no))
refused_by drops on ds true noes input sent c h =
    let k = (h.tells on).came in
    let r = last_of input (length ds) k in
    let same : length ds ≡ length r.0 = sym r.3 in
    let n = length-append ds (true ∷ []) in
    let m = marked-append ds (true ∷ []) in
    let kept : without ds input ≡ without ds r.0 ++ r.1 ∷ [] = ap (without ds) r.2 ∙ without_more ds r.0 (r.1 ∷ []) (omega (arith, same)) in
    let given : sent ++ c ∷ [] ≡ map byte_cargo (without ds r.0) ++ byte_cargo r.1 ∷ [] = h.given ∙ (ap (map byte_cargo) kept ∙ map-append byte_cargo (without ds r.0) (r.1 ∷ [])) in
    record {
      given = append-nil sent ∙ (front sent (map byte_cargo (without ds r.0)) c (byte_cargo r.1) given ∙ ap (map byte_cargo) (sym (ap (without (ds ++ true ∷ [])) r.2 ∙ without_last ds r.0 r.1 same)));
      tells = λ o. record { came = omega (arith, k, n); waits = refl; each = let e = (h.tells on).each in omega (arith, e, m) };
    }
  where
    first : {a b : Cargo} {xs ys : List Cargo} → a ∷ xs ≡ b ∷ ys → (a ≡ b) × (xs ≡ ys)
    first e = (cc, cc)

    front : (xs ys : List Cargo) (a b : Cargo) → xs ++ a ∷ [] ≡ ys ++ b ∷ [] → xs ≡ ys
    front [] [] a b e = refl
    front [] (y ∷ ys) a b e = let l = ap length e in let n = length-append ys (b ∷ []) in absurd (omega (arith, l, n))
    front (x ∷ xs) [] a b e = let l = ap length e in let n = length-append xs (a ∷ []) in absurd (omega (arith, l, n))
    front (x ∷ xs) (y ∷ ys) a b e = let s = first e in let r = front xs ys a b s.1 in rw (s.0, r) refl

pub refused_client : (drops : Bool) → drops ≡ true → (f : Fate) (noes : ℕ) (input : List ℕ) (sent : List Cargo) (c : Cargo) → ClientStands drops f noes input sent (c ∷ []) → ClientStands drops (fate_after f Refused) (noes + 1) input sent []
refused_client drops on f noes input sent c h = refused_by drops on f.dropped f.waits noes input sent c h

-- a refusal is a look in vain for room, of one that drops
refused_so : (a g b v : Bool) → IsRefused (cond a (cond g Came Other) (cond b Served (cond v Refused Other))) → v ≡ true
refused_so true true b v r = absurd r
refused_so true false b v r = absurd r
refused_so false g true v r = absurd r
refused_so false g false true r = refl
refused_so false g false false r = absurd r

refused : (input : ℕ) (t : Taker) (bs : List Event) (e : Event) → IsRefused (serial_word input t bs e) → (t.drops ≡ true) × (is_vain_at Producer t.queue e ≡ true)
refused input t bs e r = both_true t.drops (is_vain_at Producer t.queue e) (refused_so (is_take_at input e) (nat_lt (length (came_to input t bs)) (length (came_to input t (bs ++ e ∷ [])))) (is_put_at t.queue e) (t.drops && is_vain_at Producer t.queue e) r)

pub few_bytes : (input : ℕ) (t : Taker) (calls : List Event) → marked (byte_fate input t calls).dropped ≤ noes_at Producer t.queue calls
few_bytes input t calls = few_dropped (serial_word input t) Producer t.queue (λ bs e r. (refused input t bs e r).1) calls

pub none_held : (input : ℕ) (t : Taker) → t.drops ≡ false → (calls : List Event) → marked (byte_fate input t calls).dropped ≡ 0
none_held input t hold calls = none_dropped (serial_word input t) (λ bs e r. let no : true ≡ false = sym (refused input t bs e r).0 ∙ hold in absurd cc) calls

-- where a client's bytes are never dropped, all of them stay
pub all_stay : (input : ℕ) (t : Taker) → t.drops ≡ false → (calls : List Event) (xs : List ℕ) → without (byte_fate input t calls).dropped xs ≡ xs
all_stay input t hold calls xs = without_none (byte_fate input t calls).dropped xs (none_held input t hold calls)

-- a client for whom nothing is dropped
pub hold_client : (input : ℕ) (t : Taker) → t.drops ≡ false → (calls : List Event) (noes : ℕ) (xs : List ℕ) (sent owed : List Cargo) → sent ++ owed ≡ map byte_cargo xs → ClientStands t.drops (byte_fate input t calls) noes xs sent owed
hold_client input t hold calls noes xs sent owed is = record {
  given = is ∙ ap (map byte_cargo) (sym (all_stay input t hold calls xs));
  tells = λ on. let no : true ≡ false = sym on ∙ hold in absurd cc;
}

pub held_client : (input : ℕ) (t : Taker) → t.drops ≡ false → (calls : List Event) (noes : ℕ) (xs : List ℕ) (sent owed : List Cargo) → ClientStands t.drops (byte_fate input t calls) noes xs sent owed → sent ++ owed ≡ map byte_cargo xs
held_client input t hold calls noes xs sent owed h = h.given ∙ ap (map byte_cargo) (all_stay input t hold calls xs)
