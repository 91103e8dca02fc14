-- A frame came in turn, or a lease came back in turn: how it stands then, and which buffers it has.
use Rattle.std.proofs.Common.{◌≡◌, ◌⊎◌, ◌+◌, ◌*◌, ◌-◌, ◌==◌, ◌<◌, ◌≤◌, ℕ, zero, suc, Bool, true, false, cond, nat_lt, inl, inr, Option, Some, None, List, [], ◌∷◌, ◌++◌, All, length, map, take, reverse, slice_get, slice_set, slice_index_or, if◌then◌else◌, refl, sym, ap, ◌∙◌, subst, add-zero, zero-add, arith}
use Rattle.std.specs.Option.{option_to_list, option_map}
use Rattle.std.proofs.lemmas.Bool.{lt-ltb, cases_eq, eq-eqb, ne_eqb}
use Rattle.std.proofs.lemmas.List.{get_or-set_same, get_or-set_other}
use Rattle.std.proofs.lemmas.List.Elements.{All-nil, All-cons}
use Rattle.cargo_core.specs.declared.item.PoolId.{PoolId}
use Rattle.cargo_core.specs.declared.item.Item.{Item}
use Rattle.cargo_core.specs.declared.item.Body.{Body}
use Rattle.cargo_core.specs.declared.item.Body.TheVariants as Carried
use Rattle.cargo_core.specs.Bodies.{buffers_of, buffers_in}
use Rattle.cargo_core.specs.Loans.{Loan, receivers, receivers_at, after_return, page_back, page_at, loaned}
use Rattle.cargo_core.specs.Pages.{Paged}
use Rattle.frame_core.specs.declared.mac.Mac.{Mac}
use Rattle.wire_core.specs.Bells.{bit}
use Rattle.wire_core.specs.Deeds.{Cargo}
use Rattle.wire_core.specs.Lists.{if_there}
use Rattle.wire_core.proofs.Places.{slice_get_written}
use Rattle.turn_kit.specs.Hands.{bodies_of}
use Rattle.turn_kit.proofs.Holding.{buffers-append, buffers-cons}
use Rattle.class_expect.specs.NetExpect.Expecting.{is_for_client}
use Rattle.buffer_kit.specs.Entries.{addr_of, frame_of, len_of}
use Rattle.buffer_kit.specs.Pools.{given_entry, page_bodies}
use Rattle.buffer_kit.specs.Stocks.{stock_list, stock_hand}
use Rattle.net_virt_rx.specs.declared.sharer.Sharer.{Sharer}
use Rattle.net_virt_rx.specs.Sharing.{IsSharer, IsLoan, IsBuffer, SharerStands, how_many, named, is_back, is_idle, is_out, lease_of, lease_entry, leases_for, owed_to, owed_lease, loan_bodies, lent_bodies, sharer_hand, sharer_bodies, with_more}
use Rattle.net_virt_rx.proofs.Marking.{all_clear, one_less}
use Rattle.net_virt_rx.proofs.Naming.{buffer_named, given_named, lease_named, leases_one, offset_named, bit_same, bit_other}
use Rattle.net_virt_rx.proofs.Standing.{takes, returns}
use Rattle.net_virt_rx.proofs.Working.{no_next, no_owed, no_list, none_work, back_parts, free_at, loan_at, lent_beside, lent_here, lends_work, back_work}

-- the clients that a frame is for
abbrev pub marks_for : Sharer → Cargo → List Bool
marks_for w c = map (λ (mac : Mac). is_for_client mac (frame_of c)) w.macs.items

hit_at : (f : Mac → Bool) (ms : List Mac) (k : ℕ) (m : Mac) → slice_get ms k ≡ Some m → slice_index_or (map f ms) k false ≡ f m
hit_at f [] k m at = absurd cc
hit_at f (n ∷ ms) zero m at = ap f (some_eq at)
  where
    some_eq : Some n ≡ Some m → n ≡ m
    some_eq h = cc
hit_at f (n ∷ ms) (suc k) m at = hit_at f ms k m at

nothing_if : (b : Bool) (cs : List Cargo) → b ≡ false → if_there b cs ≡ []
nothing_if b cs e = ap (λ t. if_there t cs) e

none_either : (t : Bool) (m : ℕ) → m ≡ 0 → cond t m 0 ≡ m
none_either true m e = refl
none_either false m e = sym e

bit_lent : (n : ℕ) → 1 ≤ n → bit (nat_lt 0 n) ≡ 1
bit_lent n some = ap bit (lt-ltb 0 n (omega arith))

bit_not : (n : ℕ) → n ≡ 0 → bit (nat_lt 0 n) ≡ 0
bit_not n none = ap (λ m. bit (nat_lt 0 m)) none

-- where it is idle nothing is owed
module _ (w : Sharer) (h : IsSharer w) (idle : is_idle w ≡ true) where
  owes_none : (k : ℕ) → owed_to w k ≡ []
  owes_none k = nothing_if (slice_index_or w.owed k false) (owed_lease w ∷ []) (all_clear w.owed k (no_owed w h idle))

  one_stocked : (g : Cargo) → stock_list (record w.stock { next = Some g }) ≡ g ∷ []
  one_stocked g = ap (λ xs. g ∷ map (given_entry w.stock.base w.stock.size) (reverse xs)) (h.stock.ready (no_next w h idle))

  none_stocked : stock_list (record w.stock { next = None }) ≡ []
  none_stocked = ap (λ xs. map (given_entry w.stock.base w.stock.size) (reverse xs)) (h.stock.ready (no_next w h idle))

  module _ (item : Item) (page : Paged) (back : is_back w (item, Carried.Page page) ≡ true) (o : List Bool) (o_is : o ≡ marks_for w (item, Carried.Page page)) where
    abbrev entry : Cargo
    entry = (item, Carried.Page page)

    in_pool : IsBuffer w.stock entry
    in_pool = let p = back_parts w item page back in (p.0, p.1, p.2, p.4)

    pub not_lent : slice_get w.lent page.no ≡ Some None
    not_lent =
        let p = back_parts w item page back in
        let long = h.lent_long in
        let one = p.1 in
        free_at w.lent page.no (omega (arith, long, one)) p.3 (λ loan at. (h.loans page.no loan at).some)

    hit : (k : ℕ) (mac : Mac) → slice_get w.macs.items k ≡ Some mac → slice_index_or o k false ≡ is_for_client mac (frame_of entry)
    hit k mac at = ap (λ xs. slice_index_or xs k false) o_is ∙ hit_at (λ (m : Mac). is_for_client m (frame_of entry)) w.macs.items k mac at

    -- for nobody
    module _ (none : how_many o ≡ 0) (start : List Paged) (frames given : List Cargo) (shared backs : ℕ → List Cargo) (s : SharerStands w start frames given shared backs) where
      abbrev wn : Sharer
      wn = record w { owed = o; stock = record w.stock { next = Some (given_entry w.stock.base w.stock.size page) } }

      no_leases : (k : ℕ) (mac : Mac) → slice_get w.macs.items k ≡ Some mac → leases_for w.stock.size mac (entry ∷ []) ≡ []
      no_leases k mac at = leases_one w.stock.size mac entry ∙ nothing_if (is_for_client mac (frame_of entry)) (lease_of w.stock.size entry ∷ []) (sym (hit k mac at) ∙ all_clear o k none)

      pub takes_none : SharerStands wn start (frames ++ entry ∷ []) given shared backs
      takes_none = takes w wn (record { stock = record { same_pool = refl; buffers = refl; base = refl; size = refl }; macs = refl }) entry owes_none
          (λ k mac at. nothing_if (slice_index_or o k false) (owed_lease wn ∷ []) (all_clear o k none) ∙ sym (no_leases k mac at))
          (λ k mac at b within. let e = ap (named 0 w.stock.size b) (no_leases k mac at) in omega (arith, e))
          (no_list w h idle) in_pool
          (let p = back_parts w item page back in subst (λ xs. All (IsBuffer w.stock) xs) (sym (one_stocked (given_entry w.stock.base w.stock.size page))) (All-cons (IsBuffer w.stock) (given_entry w.stock.base w.stock.size page) [] (p.0, p.1, refl, p.4) (All-nil (IsBuffer w.stock))))
          (λ b within.
          let list = ap (named w.stock.base w.stock.size b) (one_stocked (given_entry w.stock.base w.stock.size page)) in
          let one = given_named w.stock.base w.stock.size b page h.some in
          let two = buffer_named w.stock entry b h.some in_pool in
          omega (arith, list, one, two))
          start frames given shared backs s

    -- for some clients
    module _ (n : ℕ) (l : List (Option Loan)) (w' : Sharer) (is : w' ≡ record w { owed = o; len = len_of item; shared = page.no; lent = l; out = w'.out })
        (lent : l ≡ slice_set w.lent page.no (Some (page, n))) (out : w'.out.items ≡ slice_set w.out.items page.no o) (some : 1 ≤ n) where
      abbrev wl : Sharer
      wl = record w { owed = o; len = len_of item; shared = page.no; lent = l; out = w'.out }

      pub free : slice_get w.lent page.no ≡ Some None
      free = not_lent

      lease_now : owed_lease wl ≡ lease_of w.stock.size entry
      lease_now =
          let at : page_at l page.no ≡ page = ap (λ xs. page_at xs page.no) lent ∙ ap loaned (slice_get_written w.lent page.no None (Some (page, n)) free) in
          ap (λ (p : Paged). lease_entry w.stock.size page.no (take (len_of item) p.bytes)) at

      due : (k : ℕ) (mac : Mac) → slice_get w.macs.items k ≡ Some mac → leases_for w.stock.size mac (entry ∷ []) ≡ if_there (slice_index_or o k false) (lease_of w.stock.size entry ∷ [])
      due k mac at = leases_one w.stock.size mac entry ∙ ap (λ b. if_there b (lease_of w.stock.size entry ∷ [])) (sym (hit k mac at))

      named_due : (k : ℕ) (mac : Mac) → slice_get w.macs.items k ≡ Some mac → (b : ℕ) → named 0 w.stock.size b (leases_for w.stock.size mac (entry ∷ [])) ≡ cond (slice_index_or o k false) (bit (page.no == b)) 0
      named_due k mac at b = ap (named 0 w.stock.size b) (due k mac at) ∙ by_mark (slice_index_or o k false)
        where
          by_mark : (t : Bool) → named 0 w.stock.size b (if_there t (lease_of w.stock.size entry ∷ [])) ≡ cond t (bit (page.no == b)) 0
          by_mark true = lease_named w.stock.size page.no b (frame_of entry) h.some
          by_mark false = refl

      was_clear : (k : ℕ) → is_out w page.no k ≡ false
      was_clear k = let p = back_parts w item page back in all_clear (slice_index_or w.out.items page.no []) k (h.counts page.no p.1 ∙ p.3)

      outs_now : (k : ℕ) (mac : Mac) → slice_get w.macs.items k ≡ Some mac → (b : ℕ) → b < w.stock.buffers → (b ≡ page.no) ⊎ (b ≡ page.no → ⊥) → bit (is_out wl b k) ≡ bit (is_out w b k) + named 0 w.stock.size b (leases_for w.stock.size mac (entry ∷ []))
      outs_now k mac at b within (inl e) =
          let long = h.out_long in
          let p = back_parts w item page back in
          let now : slice_index_or w'.out.items b [] ≡ o = ap (λ xs. slice_index_or xs b []) out ∙ (ap (λ j. slice_index_or (slice_set w.out.items page.no o) j []) e ∙ get_or-set_same w.out.items page.no o [] (let x = p.1 in omega (arith, long, x))) in
          let is_now = ap (λ xs. bit (slice_index_or xs k false)) now in
          let was = ap (λ j. bit (is_out w j k)) e ∙ ap bit (was_clear k) in
          let more = named_due k mac at b in
          let same = bit_same page.no b (sym e) in
          let both : cond (slice_index_or o k false) (bit (page.no == b)) 0 ≡ bit (slice_index_or o k false) = ap (λ m. cond (slice_index_or o k false) m 0) same ∙ one_or_none (slice_index_or o k false) in
          omega (arith, is_now, was, more, both)
        where
          one_or_none : (t : Bool) → cond t 1 0 ≡ bit t
          one_or_none true = refl
          one_or_none false = refl
      outs_now k mac at b within (inr ne) =
          let now : slice_index_or w'.out.items b [] ≡ slice_index_or w.out.items b [] = ap (λ xs. slice_index_or xs b []) out ∙ get_or-set_other w.out.items page.no b o [] ne in
          let is_now = ap (λ xs. bit (slice_index_or xs k false)) now in
          let more = named_due k mac at b in
          let other = bit_other page.no b (λ e. ne (sym e)) in
          let both = none_either (slice_index_or o k false) (bit (page.no == b)) other in
          omega (arith, is_now, more, both)

      lent_bits : (b : ℕ) → (b ≡ page.no) ⊎ (b ≡ page.no → ⊥) → bit (nat_lt 0 (receivers_at l b)) ≡ bit (nat_lt 0 (receivers_at w.lent b)) + bit (page.no == b)
      lent_bits b (inl e) =
          let p = back_parts w item page back in
          let now = bit_lent (receivers_at l b) (let x = ap (λ xs. receivers_at xs b) lent ∙ (ap (receivers_at (slice_set w.lent page.no (Some (page, n)))) e ∙ lent_here w.lent page.no None (Some (page, n)) free) in omega (arith, x, some)) in
          let was = bit_not (receivers_at w.lent b) (ap (receivers_at w.lent) e ∙ p.3) in
          let same = bit_same page.no b (sym e) in
          omega (arith, now, was, same)
      lent_bits b (inr ne) =
          let now = ap (λ m. bit (nat_lt 0 m)) (ap (λ xs. receivers_at xs b) lent ∙ lent_beside w.lent page.no b (Some (page, n)) ne) in
          let other = bit_other page.no b (λ e. ne (sym e)) in
          omega (arith, now, other)

      pub work_some : n ≡ how_many o → length o ≡ length w.macs.items → IsSharer w'
      work_some many long = let p = back_parts w item page back in lends_work w h idle o n (len_of item) page l w' is lent out many some long p.0 p.4 p.1 free

      pub takes_some : (start : List Paged) (frames given : List Cargo) (shared backs : ℕ → List Cargo) → SharerStands w start frames given shared backs → SharerStands w' start (frames ++ entry ∷ []) given shared backs
      takes_some start frames given shared backs s = subst (λ v. SharerStands v start (frames ++ entry ∷ []) given shared backs) (sym is)
          (takes w wl (record { stock = record { same_pool = refl; buffers = refl; base = refl; size = refl }; macs = refl }) entry owes_none
          (λ k mac at. ap (λ x. if_there (slice_index_or o k false) (x ∷ [])) lease_now ∙ sym (due k mac at))
          (λ k mac at b within. outs_now k mac at b within (cases_eq b page.no))
          (no_list w h idle) in_pool
          (subst (λ xs. All (IsBuffer w.stock) xs) (sym (no_list w h idle)) (All-nil (IsBuffer w.stock)))
          (λ b within.
          let list = ap (named w.stock.base w.stock.size b) (no_list w h idle) in
          let two = buffer_named w.stock entry b h.some in_pool in
          let bits = lent_bits b (cases_eq b page.no) in
          omega (arith, list, two, bits))
          start frames given shared backs s)

-- the same of an entry whose body is a page
module _ (w : Sharer) (h : IsSharer w) (idle : is_idle w ≡ true) (c : Cargo) (page : Paged) (at : c.1 ≡ Carried.Page page) (back : is_back w c ≡ true) (o : List Bool) (o_is : o ≡ marks_for w c) where
  abbrev this : Cargo
  this = (c.0, Carried.Page page)

  is_this : c ≡ this
  is_this = ap (λ (b : Body). (c.0, b)) at

  back_this : is_back w this ≡ true
  back_this = subst (λ (x : Cargo). is_back w x ≡ true) is_this back

  marks_this : o ≡ marks_for w this
  marks_this = subst (λ (x : Cargo). o ≡ marks_for w x) is_this o_is

  pub not_lent_at : slice_get w.lent page.no ≡ Some None
  not_lent_at = not_lent w h idle c.0 page back_this o marks_this

  pub none_work_at : how_many o ≡ 0 → length o ≡ length w.macs.items → (w' : Sharer) → w' ≡ record w { owed = o; stock = record w.stock { next = Some (given_entry w.stock.base w.stock.size page) } } → IsSharer w'
  none_work_at none long w' is = subst IsSharer (sym is) (none_work w h idle o page none long)

  pub none_at : how_many o ≡ 0 → (w' : Sharer) → w' ≡ record w { owed = o; stock = record w.stock { next = Some (given_entry w.stock.base w.stock.size page) } } → (start : List Paged) (frames given : List Cargo) (shared backs : ℕ → List Cargo) → SharerStands w start frames given shared backs → SharerStands w' start (frames ++ c ∷ []) given shared backs
  none_at none w' is start frames given shared backs s =
      subst (λ v. SharerStands v start (frames ++ c ∷ []) given shared backs) (sym is) (subst (λ (x : Cargo). SharerStands (record w { owed = o; stock = record w.stock { next = Some (given_entry w.stock.base w.stock.size page) } }) start (frames ++ x ∷ []) given shared backs) (sym is_this) (takes_none w h idle c.0 page back_this o marks_this none start frames given shared backs s))

  module _ (n len : ℕ) (told : len ≡ len_of c.0) (l : List (Option Loan)) (w' : Sharer) (is : w' ≡ record w { owed = o; len = len; shared = page.no; lent = l; out = w'.out })
      (lent : l ≡ slice_set w.lent page.no (Some (page, n))) (out : w'.out.items ≡ slice_set w.out.items page.no o) (some : 1 ≤ n) where
    is_told : w' ≡ record w { owed = o; len = len_of c.0; shared = page.no; lent = l; out = w'.out }
    is_told = is ∙ ap (λ m. record w { owed = o; len = m; shared = page.no; lent = l; out = w'.out }) told

    pub some_work : n ≡ how_many o → length o ≡ length w.macs.items → IsSharer w'
    some_work = work_some w h idle c.0 page back_this o marks_this n l w' is_told lent out some

    pub some_stands : (start : List Paged) (frames given : List Cargo) (shared backs : ℕ → List Cargo) → SharerStands w start frames given shared backs → SharerStands w' start (frames ++ c ∷ []) given shared backs
    some_stands start frames given shared backs s = subst (λ (x : Cargo). SharerStands w' start (frames ++ x ∷ []) given shared backs) (sym is_this) (takes_some w h idle c.0 page back_this o marks_this n l w' is_told lent out some start frames given shared backs s)

    pub some_free : slice_get w.lent page.no ≡ Some None
    some_free = free w h idle c.0 page back_this o marks_this n l w' is_told lent out some

-- the buffers that are lent, where one of them changes
pub lent_more : (pool : PoolId) (lent : List (Option Loan)) (b : ℕ) (old x : Option Loan) → slice_get lent b ≡ Some old → buffers_of pool (lent_bodies (slice_set lent b x)) + buffers_of pool (loan_bodies old) ≡ buffers_of pool (lent_bodies lent) + buffers_of pool (loan_bodies x)
lent_more pool [] b old x at = absurd cc
lent_more pool (o ∷ lent) zero old x at =
    let same : buffers_of pool (loan_bodies o) ≡ buffers_of pool (loan_bodies old) = ap (λ (y : Option Loan). buffers_of pool (loan_bodies y)) (let e : o ≡ old = some_eq at in e) in
    let now = buffers-append pool (loan_bodies x) (lent_bodies lent) in
    let was = buffers-append pool (loan_bodies o) (lent_bodies lent) in
    omega (arith, same, now, was)
  where
    some_eq : {X : Type 0} {a b : X} → Some a ≡ Some b → a ≡ b
    some_eq h = cc
lent_more pool (o ∷ lent) (suc b) old x at =
    let now = buffers-append pool (loan_bodies o) (lent_bodies (slice_set lent b x)) in
    let was = buffers-append pool (loan_bodies o) (lent_bodies lent) in
    let rest = lent_more pool lent b old x at in
    omega (arith, now, was, rest)

pub held_some : (pool : PoolId) (w : Sharer) (o : List Bool) (page : Paged) (n len : ℕ) (l : List (Option Loan)) (w' : Sharer) → w' ≡ record w { owed = o; len = len; shared = page.no; lent = l; out = w'.out } → l ≡ slice_set w.lent page.no (Some (page, n)) → slice_get w.lent page.no ≡ Some None
    → buffers_of pool (sharer_bodies w') ≡ buffers_of pool (sharer_bodies w) + buffers_in pool (Carried.Page page)
held_some pool w o page n len l w' is lent free =
    let same = ap (λ (v : Sharer). buffers_of pool (sharer_bodies v)) is in
    let now = buffers-append pool (sharer_hand w) (lent_bodies l) in
    let was = buffers-append pool (sharer_hand w) (lent_bodies w.lent) in
    let more = lent_more pool w.lent page.no None (Some (page, n)) free in
    let l_is = ap (λ xs. buffers_of pool (lent_bodies xs)) lent in
    let one = buffers-cons pool (Carried.Page page) [] in
    omega (arith, same, now, was, more, l_is, one)

-- a lease came back in turn
module _ (w : Sharer) (h : IsSharer w) (idle : is_idle w ≡ true) (k b0 : ℕ) (loan : Loan) (l : List (Option Loan)) (nx : Option Cargo) (w' : Sharer) (is : w' ≡ record w { lent = l; out = w'.out; stock = record w.stock { next = nx } })
    (within : b0 < w.stock.buffers) (there : slice_get w.lent b0 ≡ Some (Some loan)) (lent : l ≡ slice_set w.lent b0 (after_return loan)) (next : nx ≡ option_map (given_entry w.stock.base w.stock.size) (page_back loan))
    (out : w'.out.items ≡ slice_set w.out.items b0 (slice_set (slice_index_or w.out.items b0 []) k false)) (was_out : is_out w b0 k ≡ true) where
  abbrev wb : Sharer
  wb = record w { lent = l; out = w'.out; stock = record w.stock { next = nx } }

  this_loan : IsLoan w.stock b0 loan
  this_loan = h.loans b0 loan there

  pub work_back : IsSharer w'
  work_back = back_work w h idle k b0 loan l nx w' is within there lent next out was_out

  outs_back : (x : Cargo) → addr_of x.0 ≡ b0 * w.stock.size → (j b : ℕ) → b < w.stock.buffers → (b ≡ b0) ⊎ (b ≡ b0 → ⊥) → (k ≡ j) ⊎ (k ≡ j → ⊥) → bit (is_out wb b j) + named 0 w.stock.size b (if_there (k == j) (x ∷ [])) ≡ bit (is_out w b j)
  outs_back x ad j b i (inl e) (inl f) =
      let flags = slice_index_or w.out.items b0 [] in
      let long = h.out_long in
      let now : slice_index_or w'.out.items b [] ≡ slice_set flags k false = ap (λ xs. slice_index_or xs b []) out ∙ (ap (λ m. slice_index_or (slice_set w.out.items b0 (slice_set flags k false)) m []) e ∙ get_or-set_same w.out.items b0 (slice_set flags k false) [] (omega (arith, long, within))) in
      let off : slice_index_or (slice_set flags k false) j false ≡ false = ap (λ m. slice_index_or (slice_set flags k false) m false) (sym f) ∙ cleared flags k in
      let is_now = ap (λ xs. bit (slice_index_or xs j false)) now in
      let zero_now = ap bit off in
      let was : bit (is_out w b j) ≡ 1 = ap (λ m. bit (is_out w m j)) e ∙ (ap (λ m. bit (is_out w b0 m)) (sym f) ∙ ap bit was_out) in
      let mine : if_there (k == j) (x ∷ []) ≡ x ∷ [] = ap (λ t. if_there t (x ∷ [])) (eq-eqb k j f) in
      let one = ap (named 0 w.stock.size b) mine in
      let names = offset_named (addr_of x.0) w.stock.size b0 b h.some ad in
      let same = bit_same b0 b (sym e) in
      omega (arith, is_now, zero_now, was, one, names, same)
    where
      cleared : (xs : List Bool) (m : ℕ) → slice_index_or (slice_set xs m false) m false ≡ false
      cleared [] m = refl
      cleared (y ∷ xs) zero = refl
      cleared (y ∷ xs) (suc m) = cleared xs m
  outs_back x ad j b i (inl e) (inr nf) =
      let flags = slice_index_or w.out.items b0 [] in
      let long = h.out_long in
      let now : slice_index_or w'.out.items b [] ≡ slice_set flags k false = ap (λ xs. slice_index_or xs b []) out ∙ (ap (λ m. slice_index_or (slice_set w.out.items b0 (slice_set flags k false)) m []) e ∙ get_or-set_same w.out.items b0 (slice_set flags k false) [] (omega (arith, long, within))) in
      let is_now = ap (λ xs. bit (slice_index_or xs j false)) now in
      let still = ap bit (get_or-set_other flags k j false false (λ g. nf (sym g))) in
      let was = ap (λ m. bit (is_out w m j)) e in
      let none = ap (named 0 w.stock.size b) (ap (λ t. if_there t (x ∷ [])) (ne_eqb k j nf)) in
      omega (arith, is_now, still, was, none)
  outs_back x ad j b i (inr ne) f =
      let flags = slice_index_or w.out.items b0 [] in
      let now : slice_index_or w'.out.items b [] ≡ slice_index_or w.out.items b [] = ap (λ xs. slice_index_or xs b []) out ∙ get_or-set_other w.out.items b0 b (slice_set flags k false) [] ne in
      let is_now = ap (λ xs. bit (slice_index_or xs j false)) now in
      let names = offset_named (addr_of x.0) w.stock.size b0 b h.some ad in
      let other = bit_other b0 b (λ e. ne (sym e)) in
      let none = none_named (k == j) (omega (arith, names, other)) in
      omega (arith, is_now, none)
    where
      none_named : (t : Bool) → named 0 w.stock.size b (x ∷ []) ≡ 0 → named 0 w.stock.size b (if_there t (x ∷ [])) ≡ 0
      none_named true e = e
      none_named false e = refl

  -- the buffer is in hand again where the last lease came
  given_back : (t : Bool) → (loan.1 == 1) ≡ t → (b : ℕ) → (b ≡ b0) ⊎ (b ≡ b0 → ⊥) → named w.stock.base w.stock.size b (option_to_list (option_map (given_entry w.stock.base w.stock.size) (if t then Some loan.0 else None))) + bit (nat_lt 0 (receivers_at (slice_set w.lent b0 (if t then None else Some (loan.0, loan.1 - 1))) b)) ≡ bit (nat_lt 0 (receivers_at w.lent b))
  given_back true e b (inl f) =
      let named_now = given_named w.stock.base w.stock.size b loan.0 h.some in
      let number = this_loan.number in
      let same = bit_same loan.0.no b (number ∙ sym f) in
      let now = bit_not (receivers_at (slice_set w.lent b0 None) b) (ap (receivers_at (slice_set w.lent b0 None)) f ∙ lent_here w.lent b0 (Some loan) None there) in
      let was = bit_lent (receivers_at w.lent b) (let x = ap (receivers_at w.lent) f ∙ ap receivers there in let y = this_loan.some in omega (arith, x, y)) in
      omega (arith, named_now, same, now, was)
  given_back true e b (inr nf) =
      let named_now = given_named w.stock.base w.stock.size b loan.0 h.some in
      let number = this_loan.number in
      let other = bit_other loan.0.no b (λ g. nf (sym g ∙ number)) in
      let now = ap (λ m. bit (nat_lt 0 m)) (lent_beside w.lent b0 b None nf) in
      omega (arith, named_now, other, now)
  given_back false e b (inl f) =
      let more : 1 ≤ loan.1 - 1 = (let s = this_loan.some in let ne : loan.1 ≡ 1 → ⊥ = λ g. let t : (loan.1 == 1) ≡ true = eq-eqb loan.1 1 g in absurd cc in omega (arith, s, ne)) in
      let now = bit_lent (receivers_at (slice_set w.lent b0 (Some (loan.0, loan.1 - 1))) b) (let x = ap (receivers_at (slice_set w.lent b0 (Some (loan.0, loan.1 - 1)))) f ∙ lent_here w.lent b0 (Some loan) (Some (loan.0, loan.1 - 1)) there in omega (arith, x, more)) in
      let was = bit_lent (receivers_at w.lent b) (let x = ap (receivers_at w.lent) f ∙ ap receivers there in let y = this_loan.some in omega (arith, x, y)) in
      omega (arith, now, was)
  given_back false e b (inr nf) =
      let now = ap (λ m. bit (nat_lt 0 m)) (lent_beside w.lent b0 b (Some (loan.0, loan.1 - 1)) nf) in
      omega (arith, now)

  stocked_back : stock_list (record w.stock { next = nx }) ≡ option_to_list nx
  stocked_back = ap (λ xs. option_to_list nx ++ map (given_entry w.stock.base w.stock.size) (reverse xs)) (h.stock.ready (no_next w h idle)) ∙ no_more nx
    where
      no_more : (o : Option Cargo) → option_to_list o ++ [] ≡ option_to_list o
      no_more None = refl
      no_more (Some c) = refl

  in_pool_back : (t : Bool) → All (IsBuffer w.stock) (option_to_list (option_map (given_entry w.stock.base w.stock.size) (if t then Some loan.0 else None)))
  in_pool_back true = All-cons (IsBuffer w.stock) (given_entry w.stock.base w.stock.size loan.0) [] (this_loan.same_pool, (let n = this_loan.number in omega (arith, n, within)), refl, this_loan.sized) (All-nil (IsBuffer w.stock))
  in_pool_back false = All-nil (IsBuffer w.stock)

  pub returns_back : (start : List Paged) (frames given : List Cargo) (shared backs : ℕ → List Cargo) (x : Cargo) → addr_of x.0 ≡ b0 * w.stock.size → SharerStands w start frames given shared backs → SharerStands w' start frames given shared (with_more backs k (x ∷ []))
  returns_back start frames given shared backs x ad s = subst (λ v. SharerStands v start frames given shared (with_more backs k (x ∷ []))) (sym is)
      (returns w wb (record { stock = record { same_pool = refl; buffers = refl; base = refl; size = refl }; macs = refl }) k x
      (λ j. nothing_if (slice_index_or w.owed j false) (owed_lease wb ∷ []) (all_clear w.owed j (no_owed w h idle)) ∙ sym (owes_none w h idle j))
      (λ j b i. outs_back x ad j b i (cases_eq b b0) (cases_eq k j))
      (no_list w h idle)
      (subst (λ xs. All (IsBuffer w.stock) xs) (sym (stocked_back ∙ ap option_to_list next)) (in_pool_back (loan.1 == 1)))
      (λ b i.
      let list = ap (named w.stock.base w.stock.size b) (stocked_back ∙ ap option_to_list next) in
      let l_is = ap (λ xs. bit (nat_lt 0 (receivers_at xs b))) lent in
      let all = given_back (loan.1 == 1) refl b (cases_eq b b0) in
      omega (arith, list, l_is, all))
      start frames given shared backs s)

  next_held : (pool : PoolId) (t : Bool) → buffers_of pool (bodies_of (option_to_list (option_map (given_entry w.stock.base w.stock.size) (if t then Some loan.0 else None)))) + buffers_of pool (loan_bodies (if t then None else Some (loan.0, loan.1 - 1))) ≡ buffers_of pool (loan_bodies (Some loan))
  next_held pool true = add-zero (buffers_of pool (Carried.Page loan.0 ∷ []))
  next_held pool false = zero-add (buffers_of pool (Carried.Page loan.0 ∷ []))

  pub held_back : (pool : PoolId) → buffers_of pool (sharer_bodies w') ≡ buffers_of pool (sharer_bodies w)
  held_back pool =
      let stray = bodies_of (option_to_list w.stray) in
      let same = ap (λ (v : Sharer). buffers_of pool (sharer_bodies v)) is in
      let now = buffers-append pool (sharer_hand wb) (lent_bodies l) in
      let was = buffers-append pool (sharer_hand w) (lent_bodies w.lent) in
      let hand = buffers-append pool (stock_hand (record w.stock { next = nx })) stray in
      let hand' = buffers-append pool (stock_hand w.stock) stray in
      let stock = buffers-append pool (bodies_of (option_to_list nx)) (page_bodies w.stock.rest.items) in
      let stock' = buffers-append pool (bodies_of (option_to_list w.stock.next)) (page_bodies w.stock.rest.items) in
      let none = ap (λ (o : Option Cargo). buffers_of pool (bodies_of (option_to_list o))) (no_next w h idle) in
      let nx_is = ap (λ (o : Option Cargo). buffers_of pool (bodies_of (option_to_list o))) next in
      let more = lent_more pool w.lent b0 (Some loan) (after_return loan) there in
      let l_is = ap (λ xs. buffers_of pool (lent_bodies xs)) lent in
      let both = next_held pool (loan.1 == 1) in
      omega (arith, same, now, was, hand, hand', stock, stock', none, nx_is, more, l_is, both)

-- a buffer of which a lease is out is lent
pub lent_some : (w : Sharer) → IsSharer w → (b k : ℕ) → b < w.stock.buffers → is_out w b k ≡ true → 1 ≤ receivers_at w.lent b
lent_some w h b k within out = let d = one_less (slice_index_or w.out.items b []) k out in let c = h.counts b within in omega (arith, d, c)

-- a lease came back, by what the table of lent pages answered
module _ (w : Sharer) (h : IsSharer w) (idle : is_idle w ≡ true) (k b0 : ℕ) (within : b0 < w.stock.buffers) (was_out : is_out w b0 k ≡ true) (page : Option Paged) (l : List (Option Loan))
    (gave : (loan : Loan) → slice_get w.lent b0 ≡ Some (Some loan) → (page ≡ page_back loan) × (l ≡ slice_set w.lent b0 (after_return loan))) where
  this_one : (loan : Loan) × (slice_get w.lent b0 ≡ Some (Some loan))
  this_one = loan_at (slice_get w.lent b0) (lent_some w h b0 k within was_out)

  pub page_within : (p : Paged) → page ≡ Some p → p.no < w.stock.buffers
  page_within p at = is_within (this_one.0.1 == 1) (sym at ∙ (gave this_one.0 this_one.1).0)
    where
      is_within : (t : Bool) → Some p ≡ (if t then Some this_one.0.0 else None) → p.no < w.stock.buffers
      is_within true e = let same : p ≡ this_one.0.0 = cc in rw (same, (h.loans b0 this_one.0 this_one.1).number) within
      is_within false e = absurd cc

  module _ (w' : Sharer) (is : w' ≡ record w { lent = l; out = w'.out; stock = record w.stock { next = option_map (given_entry w.stock.base w.stock.size) page } })
      (out : w'.out.items ≡ slice_set w.out.items b0 (slice_set (slice_index_or w.out.items b0 []) k false)) where
    next_is : option_map (given_entry w.stock.base w.stock.size) page ≡ option_map (given_entry w.stock.base w.stock.size) (page_back this_one.0)
    next_is = ap (option_map (given_entry w.stock.base w.stock.size)) (gave this_one.0 this_one.1).0

    pub gave_work : IsSharer w'
    gave_work = work_back w h idle k b0 this_one.0 l (option_map (given_entry w.stock.base w.stock.size) page) w' is within this_one.1 (gave this_one.0 this_one.1).1 next_is out was_out

    pub gave_stands : (start : List Paged) (frames given : List Cargo) (shared backs : ℕ → List Cargo) (x : Cargo) → addr_of x.0 ≡ b0 * w.stock.size → SharerStands w start frames given shared backs → SharerStands w' start frames given shared (with_more backs k (x ∷ []))
    gave_stands = returns_back w h idle k b0 this_one.0 l (option_map (given_entry w.stock.base w.stock.size) page) w' is within this_one.1 (gave this_one.0 this_one.1).1 next_is out was_out

    pub gave_held : (pool : PoolId) → buffers_of pool (sharer_bodies w') ≡ buffers_of pool (sharer_bodies w)
    gave_held = held_back w h idle k b0 this_one.0 l (option_map (given_entry w.stock.base w.stock.size) page) w' is within this_one.1 (gave this_one.0 this_one.1).1 next_is out was_out
