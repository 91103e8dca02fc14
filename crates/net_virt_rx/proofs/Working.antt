-- What a virtualiser that shares frames keeps fits together, after each thing that it does.
use Rattle.std.proofs.Common.{◌≡◌, ◌⊎◌, ◌+◌, ◌*◌, ◌-◌, ◌==◌, ◌<◌, ◌≤◌, ◌^◌, ◌&&◌, ℕ, zero, suc, Bool, true, false, not, nat_lt, inl, inr, Option, Some, None, is_some, is_none, List, [], length, map, reverse, replicate, slice_get, slice_set, slice_index_or, if◌then◌else◌, refl, sym, ap, ◌∙◌, subst, arith}
use Rattle.std.specs.Option.{option_to_list, option_map}
use Rattle.std.proofs.lemmas.Bool.{and_parts, eqb-true, ltb-true, lt-ltb, cases_eq, eq-eqb}
use Rattle.std.proofs.lemmas.Option.{slice_get-get_or}
use Rattle.std.proofs.lemmas.List.{length-append, length-map, length-reverse, length-replicate, length-set, get_or-replicate, get_or-set_same, get_or-set_other}
use Rattle.cargo_core.specs.declared.item.Item.{Item}
use Rattle.cargo_core.specs.declared.item.Body.TheVariants as Carried
use Rattle.cargo_core.specs.Items.{kind_of}
use Rattle.cargo_core.specs.Loans.{Loan, receivers, receivers_at, after_return, page_back}
use Rattle.cargo_core.specs.Pages.{Paged}
use Rattle.wire_core.specs.Deeds.{Cargo}
use Rattle.wire_core.proofs.Places.{slice_get_written, slice_get_beside}
use Rattle.buffer_kit.specs.Entries.{addr_of}
use Rattle.buffer_kit.specs.Pools.{given_entry}
use Rattle.buffer_kit.specs.Stocks.{IsStock, IsStart, stock_list}
use Rattle.buffer_kit.specs.declared.stock.Stock.{Stock}
use Rattle.net_virt_rx.specs.declared.sharer.Sharer.{Sharer}
use Rattle.net_virt_rx.specs.Sharing.{lent_bodies, IsSharer, IsLoan, how_many, is_owing, is_idle, is_back, is_out}
use Rattle.net_virt_rx.proofs.Marking.{none_marked, one_less}

some_eq : {X : Type 0} {a b : X} → Some a ≡ Some b → a ≡ b
some_eq h = cc

pub idle_parts : (next stray : Option Cargo) (owing : Bool) → (is_none next && (is_none stray && not owing)) ≡ true → (next ≡ None) × (stray ≡ None) × (owing ≡ false)
idle_parts None None false h = (refl, refl, refl)
idle_parts None None true h = cc
idle_parts None (Some x) owing h = cc
idle_parts (Some x) stray owing h = cc

pub none_owed : (bs : List Bool) → nat_lt 0 (how_many bs) ≡ false → how_many bs ≡ 0
none_owed bs h = by_zero (how_many bs) h
  where
    by_zero : (n : ℕ) → nat_lt 0 n ≡ false → n ≡ 0
    by_zero zero e = refl
    by_zero (suc n) e = let t : nat_lt 0 (suc n) ≡ true = lt-ltb 0 (suc n) (omega arith) in absurd cc

pub owing_not : (n : ℕ) → n ≡ 0 → nat_lt 0 n ≡ true → ⊥
owing_not n z e = let t = ltb-true 0 n e in omega arith

pub empty_stock : (s : Stock) → IsStock s → s.next ≡ None → stock_list s ≡ []
empty_stock s h e = rw (e, h.ready e) refl

pub back_parts : (w : Sharer) (item : Item) (page : Paged) → is_back w (item, Carried.Page page) ≡ true → (page.pool ≡ w.stock.pool) × (page.no < w.stock.buffers) × (addr_of item ≡ w.stock.base + page.no * w.stock.size) × (receivers_at w.lent page.no ≡ 0) × (length page.bytes ≡ w.stock.size)
back_parts w item page h =
    let one = and_parts (page.pool.0 == w.stock.pool.0) (nat_lt page.no w.stock.buffers && ((addr_of item == w.stock.base + page.no * w.stock.size) && ((receivers_at w.lent page.no == 0) && (length page.bytes == w.stock.size)))) h in
    let two = and_parts (nat_lt page.no w.stock.buffers) ((addr_of item == w.stock.base + page.no * w.stock.size) && ((receivers_at w.lent page.no == 0) && (length page.bytes == w.stock.size))) one.1 in
    let three = and_parts (addr_of item == w.stock.base + page.no * w.stock.size) ((receivers_at w.lent page.no == 0) && (length page.bytes == w.stock.size)) two.1 in
    let four = and_parts (receivers_at w.lent page.no == 0) (length page.bytes == w.stock.size) three.1 in
    (ap (λ n. record { 0 = n }) (eqb-true page.pool.0 w.stock.pool.0 one.0), ltb-true page.no w.stock.buffers two.0, eqb-true (addr_of item) (w.stock.base + page.no * w.stock.size) three.0, eqb-true (receivers_at w.lent page.no) 0 four.0, eqb-true (length page.bytes) w.stock.size four.1)

-- a buffer of which no lease is out isn't lent
pub free_at : (lent : List (Option Loan)) (b : ℕ) → b < length lent → receivers_at lent b ≡ 0 → ((loan : Loan) → slice_get lent b ≡ Some (Some loan) → 1 ≤ loan.1) → slice_get lent b ≡ Some None
free_at lent b within none some = by_loan (slice_index_or lent b None) (slice_get-get_or lent b None within)
  where
    by_loan : (o : Option Loan) → slice_get lent b ≡ Some o → slice_get lent b ≡ Some None
    by_loan None is = is
    by_loan (Some loan) is = let many = some loan is in let is_none : loan.1 ≡ 0 = sym (ap receivers is) ∙ none in absurd (omega (arith, many, is_none))

pub loan_at : (o : Option (Option Loan)) → 1 ≤ receivers o → (loan : Loan) × (o ≡ Some (Some loan))
loan_at None h = absurd (omega (arith, h))
loan_at (Some None) h = absurd (omega (arith, h))
loan_at (Some (Some loan)) h = (loan, refl)

pub lent_beside : (lent : List (Option Loan)) (b j : ℕ) (x : Option Loan) → (j ≡ b → ⊥) → receivers_at (slice_set lent b x) j ≡ receivers_at lent j
lent_beside lent b j x ne = ap receivers (slice_get_beside lent b j x ne)

pub lent_here : (lent : List (Option Loan)) (b : ℕ) (old x : Option Loan) → slice_get lent b ≡ Some old → receivers_at (slice_set lent b x) b ≡ receivers (Some x)
lent_here lent b old x at = ap receivers (slice_get_written lent b old x at)

-- at the start
none_lent : (n b : ℕ) → receivers_at (replicate n None) b ≡ 0
none_lent zero b = refl
none_lent (suc n) zero = refl
none_lent (suc n) (suc b) = none_lent n b

no_loan : (n b : ℕ) (loan : Loan) → slice_get (replicate n None) b ≡ Some (Some loan) → ⊥
no_loan zero b loan h = cc
no_loan (suc n) zero loan h = cc
no_loan (suc n) (suc b) loan h = no_loan n b loan h

rest_few : (s : Stock) (pages : List Paged) (base size : ℕ) → IsStock s → stock_list s ≡ map (given_entry base size) pages → length pages < 2 ^ 32 → length s.rest.items < 2 ^ 32 - 1
rest_few s pages base size h list few = by_next s.next refl
  where
    all_long : length (option_to_list s.next) + length s.rest.items ≡ length pages
    all_long =
        let l = length-append (option_to_list s.next) (map (given_entry s.base s.size) (reverse s.rest.items)) in
        let m = length-map (reverse s.rest.items) (given_entry s.base s.size) in
        let r = length-reverse s.rest.items in
        let p = length-map pages (given_entry base size) in
        let e = ap length list in
        omega (arith, l, m, r, p, e)

    by_next : (o : Option Cargo) → s.next ≡ o → length s.rest.items < 2 ^ 32 - 1
    by_next None is = rw (h.ready is) (omega arith)
    by_next (Some x) is = let one = ap (λ (n : Option Cargo). length (option_to_list n)) is in let all = all_long in omega (arith, one, all, few)

pub new_lent : (l : List (Option Loan)) (n : ℕ) → l ≡ replicate n None → (b : ℕ) → receivers_at l b ≡ 0
new_lent l n lent b = ap (λ l. receivers_at l b) lent ∙ none_lent n b

pub nothing_out : (l : List (Option Loan)) (n : ℕ) → l ≡ replicate n None → lent_bodies l ≡ []
nothing_out l n lent = ap lent_bodies lent ∙ none_out n
  where
    none_out : (n : ℕ) → lent_bodies (replicate n None) ≡ []
    none_out zero = refl
    none_out (suc n) = none_out n

pub new_work : (w : Sharer) (pages : List Paged) (base m : ℕ) → IsStock w.stock → IsStart w.stock pages → stock_list w.stock ≡ map (given_entry base w.stock.size) pages → length w.macs.items < 2 ^ 32 → m ≡ length w.macs.items → w.owed ≡ replicate m false → w.lent ≡ replicate w.stock.buffers None
    → w.out.items ≡ replicate w.stock.buffers (replicate m false) → w.ready ≡ None → w.stray ≡ None → IsSharer w
new_work w pages base m stock start list few same owed lent out ready stray = record {
  stock = stock;
  rest = rest_few w.stock pages base w.stock.size stock list start.are_pool.few;
  room = rw (← start.many) start.are_pool.ends;
  some = start.are_pool.some;
  few = few;
  owed_long = ap length owed ∙ (length-replicate m false ∙ same);
  lent_long = ap length lent ∙ length-replicate w.stock.buffers None;
  out_long = ap length out ∙ length-replicate w.stock.buffers (replicate m false);
  outs_long = λ b within. ap length (at b within) ∙ (length-replicate m false ∙ same);
  counts = λ b within. ap how_many (at b within) ∙ (none_marked m ∙ sym (new_lent w.lent w.stock.buffers lent b));
  loans = λ b loan is. absurd (no_loan w.stock.buffers b loan (ap (λ l. slice_get l b) (sym lent) ∙ is));
  owing = λ e. absurd (owing_not (how_many w.owed) (ap how_many owed ∙ none_marked m) e);
  ready = λ x is. let no_such : None ≡ Some x = sym ready ∙ is in absurd cc;
  strayed = λ e. let no_such : is_some {T = Cargo} None ≡ true = ap is_some (sym stray) ∙ e in absurd cc;
}
  where
    at : (b : ℕ) → b < w.stock.buffers → slice_index_or w.out.items b [] ≡ replicate m false
    at b within = ap (λ l. slice_index_or l b []) out ∙ get_or-replicate w.stock.buffers b (replicate m false) [] within

-- what is known where it is idle
module _ (w : Sharer) (h : IsSharer w) (idle : is_idle w ≡ true) where
  pub no_next : w.stock.next ≡ None
  no_next = (idle_parts w.stock.next w.stray (is_owing w) idle).0

  pub no_stray : w.stray ≡ None
  no_stray = (idle_parts w.stock.next w.stray (is_owing w) idle).1

  pub no_owed : how_many w.owed ≡ 0
  no_owed = none_owed w.owed ((idle_parts w.stock.next w.stray (is_owing w) idle).2)

  pub not_ready : (x : Cargo) → w.ready ≡ Some x → ⊥
  not_ready x is = owing_not (how_many w.owed) no_owed (h.ready x is).0

  pub no_list : stock_list w.stock ≡ []
  no_list = empty_stock w.stock h.stock no_next

  no_strayed : is_some w.stray ≡ true → ⊥
  no_strayed e = let no_such : is_some {T = Cargo} None ≡ true = ap is_some (sym no_stray) ∙ e in absurd cc

  -- a buffer that is for nobody
  pub none_work : (o : List Bool) (page : Paged) → how_many o ≡ 0 → length o ≡ length w.macs.items → IsSharer (record w { owed = o; stock = record w.stock { next = Some (given_entry w.stock.base w.stock.size page) } })
  none_work o page none long = record {
    stock = record { ready = λ e. absurd cc; kind = λ x e. ap (λ (y : Cargo). kind_of y.0) (sym (some_eq e)); addresses = h.stock.addresses };
    rest = h.rest;
    room = h.room;
    some = h.some;
    few = h.few;
    owed_long = long;
    lent_long = h.lent_long;
    out_long = h.out_long;
    outs_long = h.outs_long;
    counts = h.counts;
    loans = λ b loan is. let l = h.loans b loan is in record { same_pool = l.same_pool; number = l.number; sized = l.sized; some = l.some };
    owing = λ e. absurd (owing_not (how_many o) none e);
    ready = λ x is. absurd (not_ready x is);
    strayed = λ e. absurd (no_strayed e);
  }

  -- a buffer that is lent
  module _ (o : List Bool) (n len : ℕ) (page : Paged) (l : List (Option Loan)) (w' : Sharer) (is : w' ≡ record w { owed = o; len = len; shared = page.no; lent = l; out = w'.out })
      (lent : l ≡ slice_set w.lent page.no (Some (page, n))) (out : w'.out.items ≡ slice_set w.out.items page.no o)
      (many : n ≡ how_many o) (some : 1 ≤ n) (long : length o ≡ length w.macs.items) (pool : page.pool ≡ w.stock.pool) (sized : length page.bytes ≡ w.stock.size) (within : page.no < w.stock.buffers) (free : slice_get w.lent page.no ≡ Some None) where
    out_now : (b : ℕ) → b < w.stock.buffers → ((b ≡ page.no) × (slice_index_or w'.out.items b [] ≡ o)) ⊎ ((b ≡ page.no → ⊥) × (slice_index_or w'.out.items b [] ≡ slice_index_or w.out.items b []))
    out_now b there = elim (cases_eq b page.no) [
      | inl e ↦ inl (e, ap (λ xs. slice_index_or xs b []) out ∙ (ap (λ k. slice_index_or (slice_set w.out.items page.no o) k []) e ∙ get_or-set_same w.out.items page.no o [] (let x = h.out_long in omega (arith, x, within))))
      | inr ne ↦ inr (ne, ap (λ xs. slice_index_or xs b []) out ∙ get_or-set_other w.out.items page.no b o [] ne)
    ]

    lent_now : receivers_at l page.no ≡ n
    lent_now = ap (λ xs. receivers_at xs page.no) lent ∙ lent_here w.lent page.no None (Some (page, n)) free

    lent_still : (b : ℕ) → (b ≡ page.no → ⊥) → receivers_at l b ≡ receivers_at w.lent b
    lent_still b ne = ap (λ xs. receivers_at xs b) lent ∙ lent_beside w.lent page.no b (Some (page, n)) ne

    abbrev w'' : Sharer
    w'' = record w { owed = o; len = len; shared = page.no; lent = l; out = w'.out }

    loan_now : (b : ℕ) (loan : Loan) → slice_get l b ≡ Some (Some loan) → (b ≡ page.no) ⊎ (b ≡ page.no → ⊥) → IsLoan w.stock b loan
    loan_now b loan at (inl e) =
        let this : loan ≡ (page, n) = let f : Some (Some loan) ≡ Some (Some (page, n)) = sym at ∙ (ap (λ xs. slice_get xs b) lent ∙ (ap (λ k. slice_get (slice_set w.lent page.no (Some (page, n))) k) e ∙ slice_get_written w.lent page.no None (Some (page, n)) free)) in some_eq (some_eq f) in
        rw this (record { same_pool = pool; number = sym e; sized = sized; some = some })
    loan_now b loan at (inr ne) = h.loans b loan (sym (slice_get_beside w.lent page.no b (Some (page, n)) ne) ∙ (ap (λ xs. slice_get xs b) (sym lent) ∙ at))

    pub lends_work : IsSharer w'
    lends_work = subst IsSharer (sym is) (record {
      stock = h.stock;
      rest = h.rest;
      room = h.room;
      some = h.some;
      few = h.few;
      owed_long = long;
      lent_long = ap length lent ∙ (length-set w.lent page.no (Some (page, n)) ∙ h.lent_long);
      out_long = ap length out ∙ (length-set w.out.items page.no o ∙ h.out_long);
      outs_long = λ b there. elim (out_now b there) [ inl e ↦ ap length e.1 ∙ long | inr e ↦ ap length e.1 ∙ h.outs_long b there ];
      counts = λ b there. elim (out_now b there) [ inl e ↦ ap how_many e.1 ∙ (sym many ∙ (sym lent_now ∙ ap (receivers_at l) (sym e.0))) | inr e ↦ ap how_many e.1 ∙ (h.counts b there ∙ sym (lent_still b e.0)) ];
      loans = λ b loan at. let f = loan_now b loan at (cases_eq b page.no) in record { same_pool = f.same_pool; number = f.number; sized = f.sized; some = f.some };
      owing = λ e. record { next = no_next; stray = no_stray; within = within; lent = let x = lent_now in omega (arith, x, some) };
      ready = λ x at. absurd (not_ready x at);
      strayed = λ e. absurd (no_strayed e);
    })

  -- a lease came back
  module _ (k b0 : ℕ) (loan : Loan) (l : List (Option Loan)) (nx : Option Cargo) (w' : Sharer) (is : w' ≡ record w { lent = l; out = w'.out; stock = record w.stock { next = nx } })
      (within : b0 < w.stock.buffers) (there : slice_get w.lent b0 ≡ Some (Some loan)) (lent : l ≡ slice_set w.lent b0 (after_return loan)) (next : nx ≡ option_map (given_entry w.stock.base w.stock.size) (page_back loan))
      (out : w'.out.items ≡ slice_set w.out.items b0 (slice_set (slice_index_or w.out.items b0 []) k false)) (was_out : is_out w b0 k ≡ true) where
    back_now : (b : ℕ) → ((b ≡ b0) × (slice_index_or w'.out.items b [] ≡ slice_set (slice_index_or w.out.items b0 []) k false)) ⊎ ((b ≡ b0 → ⊥) × (slice_index_or w'.out.items b [] ≡ slice_index_or w.out.items b []))
    back_now b = elim (cases_eq b b0) [
      | inl e ↦ inl (e, ap (λ xs. slice_index_or xs b []) out ∙ (ap (λ j. slice_index_or (slice_set w.out.items b0 (slice_set (slice_index_or w.out.items b0 []) k false)) j []) e ∙ get_or-set_same w.out.items b0 (slice_set (slice_index_or w.out.items b0 []) k false) [] (let x = h.out_long in omega (arith, x, within))))
      | inr ne ↦ inr (ne, ap (λ xs. slice_index_or xs b []) out ∙ get_or-set_other w.out.items b0 b (slice_set (slice_index_or w.out.items b0 []) k false) [] ne)
    ]

    loan_is : IsLoan w.stock b0 loan
    loan_is = h.loans b0 loan there

    left_of : (t : Bool) → (loan.1 == 1) ≡ t → receivers (Some (if t then None else Some (loan.0, loan.1 - 1))) + 1 ≡ loan.1
    left_of true e = let f = eqb-true loan.1 1 e in omega (arith, f)
    left_of false e = let s = loan_is.some in omega (arith, s)

    fewer_now : receivers_at l b0 + 1 ≡ receivers_at w.lent b0
    fewer_now =
        let a = ap (λ xs. receivers_at xs b0) lent ∙ lent_here w.lent b0 (Some loan) (after_return loan) there in
        let b = left_of (loan.1 == 1) refl in
        let c = ap receivers there in
        omega (arith, a, b, c)

    beside_now : (b : ℕ) → (b ≡ b0 → ⊥) → receivers_at l b ≡ receivers_at w.lent b
    beside_now b ne = ap (λ xs. receivers_at xs b) lent ∙ lent_beside w.lent b0 b (after_return loan) ne

    loan_after : (t : Bool) (x : Loan) → Some x ≡ (if t then None else Some (loan.0, loan.1 - 1)) → (loan.1 == 1) ≡ t → IsLoan w.stock b0 x
    loan_after true x e f = absurd cc
    loan_after false x e f = rw (some_eq e) (record { same_pool = loan_is.same_pool; number = loan_is.number; sized = loan_is.sized; some = more })
      where
        more : 1 ≤ loan.1 - 1
        more = let s = loan_is.some in let ne : loan.1 ≡ 1 → ⊥ = λ g. let t : (loan.1 == 1) ≡ true = eq-eqb loan.1 1 g in absurd cc in omega (arith, s, ne)

    loan_now' : (b : ℕ) (x : Loan) → slice_get l b ≡ Some (Some x) → (b ≡ b0) ⊎ (b ≡ b0 → ⊥) → IsLoan w.stock b x
    loan_now' b x at (inl e) =
        let f : Some x ≡ after_return loan = some_eq (sym at ∙ (ap (λ xs. slice_get xs b) lent ∙ (ap (λ j. slice_get (slice_set w.lent b0 (after_return loan)) j) e ∙ slice_get_written w.lent b0 (Some loan) (after_return loan) there))) in
        rw e (loan_after (loan.1 == 1) x f refl)
    loan_now' b x at (inr ne) = h.loans b x (sym (slice_get_beside w.lent b0 b (after_return loan) ne) ∙ (ap (λ xs. slice_get xs b) (sym lent) ∙ at))

    stock_now : (t : Option Paged) → nx ≡ option_map (given_entry w.stock.base w.stock.size) t → IsStock (record w.stock { next = nx })
    stock_now None e = rw e (record { ready = λ x. h.stock.ready no_next; kind = λ x e. absurd cc; addresses = h.stock.addresses })
    stock_now (Some p) e = rw e (record { ready = λ x. absurd cc; kind = λ x e. ap (λ (y : Cargo). kind_of y.0) (sym (some_eq e)); addresses = h.stock.addresses })

    pub back_work : IsSharer w'
    back_work = subst IsSharer (sym is) (record {
      stock = stock_now (page_back loan) next;
      rest = h.rest;
      room = h.room;
      some = h.some;
      few = h.few;
      owed_long = h.owed_long;
      lent_long = ap length lent ∙ (length-set w.lent b0 (after_return loan) ∙ h.lent_long);
      out_long = ap length out ∙ (length-set w.out.items b0 (slice_set (slice_index_or w.out.items b0 []) k false) ∙ h.out_long);
      outs_long = λ b i. elim (back_now b) [ inl e ↦ ap length e.1 ∙ (length-set (slice_index_or w.out.items b0 []) k false ∙ h.outs_long b0 within) | inr e ↦ ap length e.1 ∙ h.outs_long b i ];
      counts = λ b i. elim (back_now b) [
        | inl e ↦ (let a = ap how_many e.1 in let c = h.counts b0 within in let d = one_less (slice_index_or w.out.items b0 []) k was_out in let f = fewer_now in let g = ap (receivers_at l) e.0 in omega (arith, a, c, d, f, g))
        | inr e ↦ ap how_many e.1 ∙ (h.counts b i ∙ sym (beside_now b e.0))
      ];
      loans = λ b x at. let f = loan_now' b x at (cases_eq b b0) in record { same_pool = f.same_pool; number = f.number; sized = f.sized; some = f.some };
      owing = λ e. absurd (owing_not (how_many w.owed) no_owed e);
      ready = λ x at. absurd (not_ready x at);
      strayed = λ e. absurd (no_strayed e);
    })
