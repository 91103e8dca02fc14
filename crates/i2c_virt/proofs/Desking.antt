use Rattle.std.proofs.Common.{◌≡◌, ◌&&◌, ℕ, zero, suc, ◌+◌, ◌≤◌, Bool, true, false, Option, Some, None, is_some, is_none, List, [], ◌∷◌, ◌++◌, length, length-append, slice_get, map, refl, sym, ap, ◌∙◌, subst, arith, append_assoc}
use Rattle.std.specs.Option.{option_to_list, ForSome}
use Rattle.std.proofs.lemmas.List.{append-nil}
use Rattle.std.proofs.lemmas.Bool.{eqb-true}
use Rattle.cargo_core.specs.declared.item.PoolId.{PoolId}
use Rattle.cargo_core.specs.declared.item.QueueKind.TheVariants as Kind
use Rattle.cargo_core.specs.Items.{kind_of}
use Rattle.cargo_core.specs.Pages.{Paged}
use Rattle.wire_core.specs.Deeds.{Cargo}
use Rattle.i2c_text.specs.declared.report.BusStatus.{BusStatus}
use Rattle.i2c_virt.specs.declared.desk.Desk.{Desk}
use Rattle.i2c_virt.specs.Desks.{IsDesk, DeskStands, Judged, IsUnderWay, IsPassedOn, IsLeaving, AreGiven, forwarded, own_entry, shared_entry, own_answer, is_open, is_away_in, is_number, asked_by, back_with, forwarding, answering}

-- What the virtualiser stands for of one client goes on with a request, with what came back, and
-- with what went.

forwarded_none : (xs : List Judged) (p : Paged) → forwarded (xs ++ (p, None) ∷ []) ≡ forwarded xs ++ shared_entry p ∷ []
forwarded_none [] p = refl
forwarded_none ((q, Some s) ∷ xs) p = forwarded_none xs p
forwarded_none ((q, None) ∷ xs) p = ap (λ r. shared_entry q ∷ r) (forwarded_none xs p)

forwarded_some : (xs : List Judged) (p : Paged) (s : BusStatus) → forwarded (xs ++ (p, Some s) ∷ []) ≡ forwarded xs
forwarded_some [] p s = refl
forwarded_some ((q, Some t) ∷ xs) p s = forwarded_some xs p s
forwarded_some ((q, None) ∷ xs) p s = ap (λ r. shared_entry q ∷ r) (forwarded_some xs p s)

-- an own answer more
given_own : (js : List Judged) (back zs : List Cargo) (p : Paged) (s : BusStatus) → length zs ≡ length js → AreGiven js back zs → AreGiven (js ++ (p, Some s) ∷ []) back (zs ++ own_answer s p ∷ [])
given_own [] back [] p s n h = (refl, tt)
given_own [] back (z ∷ zs) p s n h = absurd h
given_own (j ∷ js) back [] p s n h = absurd (omega (arith, n))
given_own ((q, Some t) ∷ js) back (z ∷ zs) p s n h = (h.0, given_own js back zs p s (omega (arith, n)) h.1)
given_own ((q, None) ∷ js) [] (z ∷ zs) p s n h = absurd h
given_own ((q, None) ∷ js) (y ∷ back) (z ∷ zs) p s n h = (h.0, given_own js back zs p s (omega (arith, n)) h.1)

-- an answer of the driver more
given_back : (js : List Judged) (back zs : List Cargo) (p : Paged) (y z : Cargo) → length zs ≡ length js → length back ≡ length (forwarded js) → IsPassedOn p y z → AreGiven js back zs → AreGiven (js ++ (p, None) ∷ []) (back ++ y ∷ []) (zs ++ z ∷ [])
given_back [] [] [] p y z n m on h = (on, tt)
given_back [] (w ∷ back) [] p y z n m on h = absurd (omega (arith, m))
given_back [] back (w ∷ zs) p y z n m on h = absurd h
given_back (j ∷ js) back [] p y z n m on h = absurd (omega (arith, n))
given_back ((q, Some t) ∷ js) back (w ∷ zs) p y z n m on h = (h.0, given_back js back zs p y z (omega (arith, n)) m on h.1)
given_back ((q, None) ∷ js) [] (w ∷ zs) p y z n m on h = absurd h
given_back ((q, None) ∷ js) (x ∷ back) (w ∷ zs) p y z n m on h = (h.0, given_back js back zs p y z (omega (arith, n)) (omega (arith, m)) on h.1)

-- fewer answers, and more requests
pub given_fewer : (js more : List Judged) (back zs ws : List Cargo) → AreGiven js back (zs ++ ws) → AreGiven (js ++ more) back zs
given_fewer js more back [] ws h = tt
given_fewer [] more back (z ∷ zs) ws h = absurd h
given_fewer ((p, Some s) ∷ js) more back (z ∷ zs) ws h = (h.0, given_fewer js more back zs ws h.1)
given_fewer ((p, None) ∷ js) more [] (z ∷ zs) ws h = absurd h
given_fewer ((p, None) ∷ js) more (y ∷ back) (z ∷ zs) ws h = (h.0, given_fewer js more back zs ws h.1)

pub some_is : {X : Type 0} {a b : X} → Some a ≡ Some b → a ≡ b
some_is h = cc

none_is : {X : Type 0} (o : Option X) → is_none o ≡ true → o ≡ None
none_is None h = refl
none_is (Some x) h = cc

pub both : (a b : Bool) → (a && b) ≡ true → (a ≡ true) × (b ≡ true)
both true true h = (refl, refl)
both true false h = cc
both false b h = cc

-- nothing leaves where no request is under way
no_leaving : (k : ℕ) (d : Desk) → IsDesk k d → d.current ≡ None → d.leaving ≡ None
no_leaving k d fit none = by d.leaving refl
  where
    by : (o : Option Cargo) → d.leaving ≡ o → d.leaving ≡ None
    by None is = is
    by (Some x) is = let l = fit.leaves x is in let no : None ≡ Some l.page.no = sym none ∙ l.number in cc

-- a desk that is open
module _ (k : ℕ) (d : Desk) (fit : IsDesk k d) (opened : is_open d ≡ true) (judged : List Judged) (sent back gave : List Cargo) (h : DeskStands k d judged sent back gave) where
  no_current : d.current ≡ None
  no_current = none_is d.current (both (is_none d.current) (is_none d.held) opened).0

  no_held : d.held ≡ None
  no_held = none_is d.held (both (is_none d.current) (is_none d.held) opened).1

  all_before : judged ≡ h.before
  all_before = h.parts ∙ (ap (λ u. h.before ++ u) (subst (λ c. IsUnderWay k c h.under_way) no_current h.current) ∙ append-nil h.before)

  all_went : sent ≡ forwarded judged
  all_went = sym (append-nil sent) ∙ (ap (λ (l : Option Cargo). sent ++ option_to_list l) (sym (no_leaving k d fit no_current)) ∙ h.went)

  all_given : AreGiven h.before back gave
  all_given = subst (AreGiven h.before back) (ap (λ (l : Option Cargo). gave ++ option_to_list l) no_held ∙ append-nil gave) h.given

  pub open_many : length gave ≡ length judged
  open_many = let n : length (option_to_list d.held) ≡ 0 = ap (λ (l : Option Cargo). length (option_to_list l)) no_held in let m = h.as_many in let e = ap length all_before in omega (arith, n, m, e)

  -- a request came
  pub asked_stands : (v : Option BusStatus) (p : Paged) → p.pool.0 ≡ k → DeskStands k (asked_by v p d) (judged ++ (p, v) ∷ []) sent back gave
  asked_stands None p own = record {
    before = h.before;
    under_way = (p, None) ∷ [];
    parts = ap (λ xs. xs ++ (p, None) ∷ []) all_before;
    current = (p, refl, own, refl);
    went = ap (λ xs. xs ++ shared_entry p ∷ []) all_went ∙ sym (forwarded_none judged p);
    came_back = h.came_back;
    given = h.given;
    as_many = h.as_many;
  }
  asked_stands (Some s) p own = record {
    before = h.before ++ (p, Some s) ∷ [];
    under_way = [];
    parts = ap (λ xs. xs ++ (p, Some s) ∷ []) all_before ∙ sym (append-nil (h.before ++ (p, Some s) ∷ []));
    current = subst (λ c. IsUnderWay k c []) (sym no_current) refl;
    went = h.went ∙ sym (forwarded_some judged p s);
    came_back = h.came_back ∙ ap length (sym (forwarded_some h.before p s));
    given = given_own h.before back gave p s (open_many ∙ ap length all_before) all_given;
    as_many = let e = open_many ∙ ap length all_before in let n = length-append h.before ((p, Some s) ∷ []) in omega (arith, e, n);
  }

-- it fits together
pub asked_fits : (k : ℕ) (d : Desk) → IsDesk k d → is_open d ≡ true → (v : Option BusStatus) (p : Paged) → p.pool.0 ≡ k → IsDesk k (asked_by v p d)
asked_fits k d fit opened None p own = record {
  leaves = λ x is. record { page = p; is = sym (some_is is); own = own; number = refl };
  kind = fit.kind;
  alone = λ t. none_is d.held (both (is_none d.current) (is_none d.held) opened).1;
}
asked_fits k d fit opened (Some s) p own = record {
  leaves = fit.leaves;
  kind = λ x is. subst (λ (z : Cargo). kind_of z.0 ≡ Kind.Net) (some_is is) refl;
  alone = λ t. let no : false ≡ true = ap is_some (sym (none_is d.current (both (is_none d.current) (is_none d.held) opened).0)) ∙ t in cc;
}

-- a desk whose request is at the driver
module _ (k : ℕ) (d : Desk) (fit : IsDesk k d) (p : Paged) (away : is_away_in d p.no ≡ true) where
  is_current : d.current ≡ Some p.no
  is_current = by d.current refl (both (is_none d.leaving) (is_number d.current p.no) away).1
    where
      by : (o : Option ℕ) → d.current ≡ o → is_number o p.no ≡ true → d.current ≡ Some p.no
      by None is h = cc
      by (Some m) is h = is ∙ ap (λ (n : ℕ). Some n) (eqb-true m p.no h)

  gone : d.leaving ≡ None
  gone = none_is d.leaving (both (is_none d.leaving) (is_number d.current p.no) away).0

  empty : d.held ≡ None
  empty = fit.alone (ap is_some is_current)

  pub back_fits : IsDesk k (back_with p d)
  back_fits = record {
    leaves = λ x is. let no : None ≡ Some x = sym gone ∙ is in cc;
    kind = λ x is. subst (λ (z : Cargo). kind_of z.0 ≡ Kind.Net) (some_is is) refl;
    alone = λ t. cc;
  }

  -- the answer came back
  pub back_stands : p.pool.0 ≡ k → (judged : List Judged) (sent back gave : List Cargo) → DeskStands k d judged sent back gave → DeskStands k (back_with p d) judged sent (back ++ shared_entry p ∷ []) gave
  back_stands own judged sent back gave h =
      let u = subst (λ c. IsUnderWay k c h.under_way) is_current h.current in
      let zero : length (option_to_list d.held) ≡ 0 = ap (λ (l : Option Cargo). length (option_to_list l)) empty in
      let m = h.as_many in
      let many : length gave ≡ length h.before = omega (arith, zero, m) in
      let n = length-append h.before ((u.0, None) ∷ []) in
      let f = ap length (forwarded_none h.before u.0) ∙ length-append (forwarded h.before) (shared_entry u.0 ∷ []) in
      let b = length-append back (shared_entry p ∷ []) in
      let came = h.came_back in
      record {
        before = h.before ++ (u.0, None) ∷ [];
        under_way = [];
        parts = h.parts ∙ (ap (λ js. h.before ++ js) u.1 ∙ sym (append-nil (h.before ++ (u.0, None) ∷ [])));
        current = refl;
        went = h.went;
        came_back = omega (arith, f, b, came);
        given = given_back h.before back gave u.0 (shared_entry p) (own_entry p) many h.came_back (record { page = p; same_pool = ap (λ (m : ℕ). record { 0 = m }) (own ∙ sym u.2); same_number = sym u.3; came_is = refl; given_is = refl })
            (subst (AreGiven h.before back) (ap (λ (l : Option Cargo). gave ++ option_to_list l) empty ∙ append-nil gave) h.given);
        as_many = omega (arith, many, n);
      }

-- an entry that is left is the one that was
pub left_is : (was now : Option Cargo) (xs : List Cargo) (x : Cargo) → option_to_list was ≡ xs ++ option_to_list now → now ≡ Some x → was ≡ Some x
left_is None (Some y) [] x h is = cc
left_is None (Some y) (z ∷ xs) x h is = cc
left_is (Some w) (Some y) [] x h is = ap (λ (cs : List Cargo). slice_get cs 0) h ∙ is
left_is (Some w) (Some y) (z ∷ xs) x h is = absurd (let n = ap length h in let m = length-append xs (y ∷ []) in omega (arith, n, m))
left_is was None xs x h is = cc

none_left : (was now : Option Cargo) (xs : List Cargo) → option_to_list was ≡ xs ++ option_to_list now → was ≡ None → now ≡ None
none_left was None xs h none = refl
none_left was (Some y) xs h none = let is = left_is was (Some y) xs y h refl in cc

-- a request went to the driver, or none
module _ (k : ℕ) (d : Desk) (left : Option Cargo) (put : List Cargo) (parts : option_to_list d.leaving ≡ put ++ option_to_list left) where
  pub sent_fits : IsDesk k d → IsDesk k (record d { leaving = left })
  sent_fits fit = record {
    leaves = λ x is. let l = fit.leaves x (left_is d.leaving left put x parts is) in record { page = l.page; is = l.is; own = l.own; number = l.number };
    kind = fit.kind;
    alone = fit.alone;
  }

  pub sent_stands : (judged : List Judged) (sent back gave : List Cargo) → DeskStands k d judged sent back gave → DeskStands k (record d { leaving = left }) judged (sent ++ put) back gave
  sent_stands judged sent back gave h = record {
    before = h.before;
    under_way = h.under_way;
    parts = h.parts;
    current = h.current;
    went = append_assoc sent put (option_to_list left) ∙ (ap (λ xs. sent ++ xs) (sym parts) ∙ h.went);
    came_back = h.came_back;
    given = h.given;
    as_many = h.as_many;
  }

-- an answer went to the client, or none
module _ (k : ℕ) (d : Desk) (left : Option Cargo) (put : List Cargo) (parts : option_to_list d.held ≡ put ++ option_to_list left) where
  pub gave_fits : IsDesk k d → IsDesk k (record d { held = left })
  gave_fits fit = record {
    leaves = fit.leaves;
    kind = λ x is. fit.kind x (left_is d.held left put x parts is);
    alone = λ t. none_left d.held left put parts (fit.alone t);
  }

  pub gave_stands : (judged : List Judged) (sent back gave : List Cargo) → DeskStands k d judged sent back gave → DeskStands k (record d { held = left }) judged sent back (gave ++ put)
  gave_stands judged sent back gave h =
      let m = h.as_many in
      let n = ap length parts ∙ length-append put (option_to_list left) in
      let g = length-append gave put in
      record {
        before = h.before;
        under_way = h.under_way;
        parts = h.parts;
        current = h.current;
        went = h.went;
        came_back = h.came_back;
        given = subst (AreGiven h.before back) (ap (λ xs. gave ++ xs) parts ∙ sym (append_assoc gave put (option_to_list left))) h.given;
        as_many = omega (arith, m, n, g);
      }
