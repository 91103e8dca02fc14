use Rattle.std.proofs.Common.{◌≡◌, ◌⊎◌, ◌+◌, ◌<◌, ◌≤◌, ◌&&◌, ℕ, zero, suc, Bool, true, false, not, cond, nat_lt, Option, Some, None, List, [], ◌∷◌, slice_get, refl, sym, ap, ◌∙◌, subst, inl, inr, arith, add-zero, add-one}
use Rattle.std.proofs.lemmas.Bool.{ltb-true, ltb-false}
use Rattle.turn_kit.specs.Table.{is_settled}
use Rattle.turn_kit.specs.Turns.{Post, Choosing, lower, lower_if, choice_with, offered_from, settled_all}
use Rattle.turn_kit.specs.declared.turns.Stand.{Stand}

pub some_is : {X : Type 0} {a b : X} → Some a ≡ Some b → a ≡ b
some_is h = cc

-- the one of lowest queue number among those that pass a test
abbrev pub best : (Post → Bool → Bool) → Option Stand → ℕ → List Post → List Bool → Option Stand
best t acc place [] ns = acc
best t acc place (p ∷ ps) [] = acc
best t acc place (p ∷ ps) (n ∷ ns) = best t (lower_if (t p n) acc (record { queue = p.queue; place = place })) (place + 1) ps ns

abbrev pub is_loose : Post → Bool → Bool
is_loose p n = not (is_settled p.state n)

abbrev pub is_late : ℕ → Post → Bool → Bool
is_late last p n = nat_lt last p.queue

abbrev pub is_any : Post → Bool → Bool
is_any p n = true

pub offered_best : (c : Choosing) (place : ℕ) (ps : List Post) (ns : List Bool) → offered_from c place ps ns ≡ record { count = c.count; last = c.last; unsettled = best is_loose c.unsettled place ps ns; after = best (is_late c.last) c.after place ps ns; first = best is_any c.first place ps ns }
offered_best c place [] ns = refl
offered_best c place (p ∷ ps) [] = refl
offered_best c place (p ∷ ps) (n ∷ ns) = offered_best (choice_with c (record { queue = p.queue; place = place }) (is_settled p.state n)) (place + 1) ps ns

-- one of the two is lower than both
pub record Lower (x y z : Stand) : Type 0 where
  pub left : z.queue ≤ x.queue
  pub right : z.queue ≤ y.queue
  pub from : (z ≡ x) ⊎ (z ≡ y)

cond_lower : (v : Bool) (x y : Stand) → nat_lt y.queue x.queue ≡ v → Lower x y (cond v y x)
cond_lower true x y e = record { left = let h : y.queue < x.queue = ltb-true y.queue x.queue e in omega (arith, h); right = omega arith; from = inr refl }
cond_lower false x y e = record { left = omega arith; right = ltb-false y.queue x.queue e; from = inl refl }

pub lower_is : (x y z : Stand) → lower (Some x) y ≡ Some z → Lower x y z
lower_is x y z h = subst (Lower x y) (some_is h) (cond_lower (nat_lt y.queue x.queue) x y refl)

pub best_some : (t : Post → Bool → Bool) (a : Stand) (place : ℕ) (ps : List Post) (ns : List Bool) → (z : Stand) × (best t (Some a) place ps ns ≡ Some z)
best_some t a place [] ns = (a, refl)
best_some t a place (p ∷ ps) [] = (a, refl)
best_some t a place (p ∷ ps) (n ∷ ns) = go (λ b. best_some t b (place + 1) ps ns) (t p n)
  where
    go : ((b : Stand) → (z : Stand) × (best t (Some b) (place + 1) ps ns ≡ Some z)) → (v : Bool) → (z : Stand) × (best t (lower_if v (Some a) (record { queue = p.queue; place = place })) (place + 1) ps ns ≡ Some z)
    go on true = on (cond (nat_lt p.queue a.queue) (record { queue = p.queue; place = place }) a)
    go on false = on a

-- none was found where none passes
pub best_none : (t : Post → Bool → Bool) (place : ℕ) (ps : List Post) (ns : List Bool) → best t None place ps ns ≡ None → (k : ℕ) (p : Post) (n : Bool) → slice_get ps k ≡ Some p → slice_get ns k ≡ Some n → t p n ≡ false
best_none t place [] ns h k p n at need = cc
best_none t place (q ∷ ps) [] h k p n at need = cc
best_none t place (q ∷ ps) (m ∷ ns) h k p n at need = go (λ g j. best_none t (place + 1) ps ns g j p n) (t q m) refl h k at need
  where
    go : (best t None (place + 1) ps ns ≡ None → (j : ℕ) → slice_get ps j ≡ Some p → slice_get ns j ≡ Some n → t p n ≡ false) → (v : Bool) → t q m ≡ v → best t (lower_if v None (record { queue = q.queue; place = place })) (place + 1) ps ns ≡ None → (k : ℕ) → slice_get (q ∷ ps) k ≡ Some p → slice_get (m ∷ ns) k ≡ Some n → t p n ≡ false
    go on true e h k at need = let s = best_some t (record { queue = q.queue; place = place }) (place + 1) ps ns in let no : Some s.0 ≡ None = sym s.1 ∙ h in cc
    go on false e h zero at need = ap (λ x. t x n) (sym (some_is at)) ∙ (ap (t q) (sym (some_is need)) ∙ e)
    go on false e h (suc k) at need = on h k at need

-- one of the ends, at its place
pub record Among (t : Post → Bool → Bool) (place : ℕ) (ps : List Post) (ns : List Bool) (s : Stand) : Type 0 where
  pub k : ℕ
  pub post : Post
  pub need : Bool
  pub there : slice_get ps k ≡ Some post
  pub needed : slice_get ns k ≡ Some need
  pub test : t post need ≡ true
  pub queue : s.queue ≡ post.queue
  pub is_place : s.place ≡ place + k

pub record Found (t : Post → Bool → Bool) (acc : Option Stand) (place : ℕ) (ps : List Post) (ns : List Bool) (s : Stand) : Type 0 where
  pub from : (acc ≡ Some s) ⊎ Among t place ps ns s
  pub least : (k : ℕ) (p : Post) (n : Bool) → slice_get ps k ≡ Some p → slice_get ns k ≡ Some n → t p n ≡ true → s.queue ≤ p.queue
  pub below : (a : Stand) → acc ≡ Some a → s.queue ≤ a.queue

same_below : (acc : Option Stand) (s a : Stand) → acc ≡ Some s → acc ≡ Some a → s.queue ≤ a.queue
same_below acc s a h g = subst (λ x. s.queue ≤ x.queue) (some_is (sym h ∙ g)) (omega arith)

place_later : (m k : ℕ) → m + 1 + k ≡ m + suc k
place_later m k = rw (← add-one k) omega arith

further : (t : Post → Bool → Bool) (place : ℕ) (p : Post) (n : Bool) (ps : List Post) (ns : List Bool) (s : Stand) → Among t (place + 1) ps ns s → Among t place (p ∷ ps) (n ∷ ns) s
further t place p n ps ns s a = record { k = suc a.k; post = a.post; need = a.need; there = a.there; needed = a.needed; test = a.test; queue = a.queue; is_place = a.is_place ∙ place_later place a.k }

one_more : (t : Post → Bool → Bool) (v : Bool) (acc : Option Stand) (place : ℕ) (p : Post) (n : Bool) (ps : List Post) (ns : List Bool) (s : Stand) → t p n ≡ v → Found t (lower_if v acc (record { queue = p.queue; place = place })) (place + 1) ps ns s → Found t acc place (p ∷ ps) (n ∷ ns) s
one_more t false acc place p n ps ns s e f = record {
  from = elim f.from [ inl h ↦ inl h | inr a ↦ inr (further t place p n ps ns s a) ];
  least = least;
  below = f.below;
}
  where
    least : (k : ℕ) (q : Post) (m : Bool) → slice_get (p ∷ ps) k ≡ Some q → slice_get (n ∷ ns) k ≡ Some m → t q m ≡ true → s.queue ≤ q.queue
    least zero q m at need g = let no : false ≡ true = sym e ∙ (ap (λ x. t x n) (some_is at) ∙ (ap (t q) (some_is need) ∙ g)) in cc
    least (suc k) q m at need g = f.least k q m at need g
one_more t true None place p n ps ns s e f = record {
  from = elim f.from [ inl h ↦ inr (here (some_is h)) | inr a ↦ inr (further t place p n ps ns s a) ];
  least = least;
  below = λ a h. cc;
}
  where
    here : record { queue = p.queue; place = place } ≡ s → Among t place (p ∷ ps) (n ∷ ns) s
    here h = record { k = 0; post = p; need = n; there = refl; needed = refl; test = e; queue = sym (ap (λ (x : Stand). x.queue) h); is_place = sym (ap (λ (x : Stand). x.place) h) ∙ sym (add-zero place) }

    least : (k : ℕ) (q : Post) (m : Bool) → slice_get (p ∷ ps) k ≡ Some q → slice_get (n ∷ ns) k ≡ Some m → t q m ≡ true → s.queue ≤ q.queue
    least zero q m at need g = subst (λ (x : Post). s.queue ≤ x.queue) (some_is at) (f.below (record { queue = p.queue; place = place }) refl)
    least (suc k) q m at need g = f.least k q m at need g
one_more t true (Some x) place p n ps ns s e f = record {
  from = elim f.from [ inl h ↦ from (lower_is x (record { queue = p.queue; place = place }) s h) | inr a ↦ inr (further t place p n ps ns s a) ];
  least = least;
  below = λ a h. let l = cond_lower (nat_lt p.queue x.queue) x (record { queue = p.queue; place = place }) refl in let b = f.below (cond (nat_lt p.queue x.queue) (record { queue = p.queue; place = place }) x) refl in subst (λ (y : Stand). s.queue ≤ y.queue) (some_is h) (omega (arith, l.left, b));
}
  where
    here : s ≡ record { queue = p.queue; place = place } → Among t place (p ∷ ps) (n ∷ ns) s
    here h = record { k = 0; post = p; need = n; there = refl; needed = refl; test = e; queue = ap (λ (x : Stand). x.queue) h; is_place = ap (λ (x : Stand). x.place) h ∙ sym (add-zero place) }

    from : Lower x (record { queue = p.queue; place = place }) s → (Some x ≡ Some s) ⊎ Among t place (p ∷ ps) (n ∷ ns) s
    from l = elim l.from [ inl h ↦ inl (ap (λ y. Some y) (sym h)) | inr h ↦ inr (here h) ]

    least : (k : ℕ) (q : Post) (m : Bool) → slice_get (p ∷ ps) k ≡ Some q → slice_get (n ∷ ns) k ≡ Some m → t q m ≡ true → s.queue ≤ q.queue
    least zero q m at need g = let l = cond_lower (nat_lt p.queue x.queue) x (record { queue = p.queue; place = place }) refl in let b = f.below (cond (nat_lt p.queue x.queue) (record { queue = p.queue; place = place }) x) refl in subst (λ (y : Post). s.queue ≤ y.queue) (some_is at) (omega (arith, l.right, b))
    least (suc k) q m at need g = f.least k q m at need g

-- what is found is one of those that pass, and the lowest of them
pub found : (t : Post → Bool → Bool) (acc : Option Stand) (place : ℕ) (ps : List Post) (ns : List Bool) (s : Stand) → best t acc place ps ns ≡ Some s → Found t acc place ps ns s
found t acc place [] ns s h = record { from = inl h; least = λ k p n at need g. cc; below = λ a g. same_below acc s a h g }
found t acc place (p ∷ ps) [] s h = record { from = inl h; least = λ k q n at need g. cc; below = λ a g. same_below acc s a h g }
found t acc place (p ∷ ps) (n ∷ ns) s h = one_more t (t p n) acc place p n ps ns s refl (found t (lower_if (t p n) acc (record { queue = p.queue; place = place })) (place + 1) ps ns s h)

-- all ends are settled exactly where no end was found that isn't
pub rest_none : (place : ℕ) (ps : List Post) (ns : List Bool) → settled_all ps ns ≡ true → best is_loose None place ps ns ≡ None
rest_none place [] ns h = refl
rest_none place (p ∷ ps) [] h = refl
rest_none place (p ∷ ps) (n ∷ ns) h = go (rest_none (place + 1) ps ns) (is_settled p.state n) h
  where
    go : (settled_all ps ns ≡ true → best is_loose None (place + 1) ps ns ≡ None) → (v : Bool) → (v && settled_all ps ns) ≡ true → best is_loose (lower_if (not v) None (record { queue = p.queue; place = place })) (place + 1) ps ns ≡ None
    go on true h = on h
    go on false h = cc

pub none_rest : (place : ℕ) (ps : List Post) (ns : List Bool) → best is_loose None place ps ns ≡ None → settled_all ps ns ≡ true
none_rest place [] ns h = refl
none_rest place (p ∷ ps) [] h = refl
none_rest place (p ∷ ps) (n ∷ ns) h = go (none_rest (place + 1) ps ns) (is_settled p.state n) h
  where
    go : (best is_loose None (place + 1) ps ns ≡ None → settled_all ps ns ≡ true) → (v : Bool) → best is_loose (lower_if (not v) None (record { queue = p.queue; place = place })) (place + 1) ps ns ≡ None → (v && settled_all ps ns) ≡ true
    go on true h = on h
    go on false h = let s = best_some is_loose (record { queue = p.queue; place = place }) (place + 1) ps ns in let no : Some s.0 ≡ None = sym s.1 ∙ h in cc
