use Rattle.std.proofs.Common.{◌≡◌, ◌+◌, ◌&&◌, ℕ, zero, suc, Bool, true, false, not, Option, Some, List, [], ◌∷◌, drop, map, slice_get, slice_set, refl, sym, ap, ◌∙◌, arith, add-one, add-zero, zero-add, add_assoc}
use Rattle.wire_core.specs.declared.names.QueueId.{QueueId}
use Rattle.wire_core.specs.declared.names.Event.{Event}
use Rattle.turn_kit.specs.Table.{is_settled}
use Rattle.turn_kit.specs.Turns.{Post, Posted, PostedAt, Choosing, choice_with, offered_from, settled_all, lower_if, unsettled_from}
use Rattle.turn_kit.specs.declared.turns.Stand.{Stand}
use Rattle.turn_kit.specs.ManyEnds.{needs_from}

-- so many ends were offered, and the others are left
pub record OffersOn (c now : Choosing) (base k : ℕ) (posts : List Post) (needs : List Bool) : Type 0 where
  pub count : now.count ≡ c.count
  pub rest : offered_from c base posts needs ≡ offered_from now (base + k) (drop k posts) (drop k needs)

some_eq : {X : Type 0} {a b : X} → Some a ≡ Some b → a ≡ b
some_eq h = cc

pub drop_here : {X : Type 0} → (xs : List X) (k : ℕ) (x : X) → slice_get xs k ≡ Some x → drop k xs ≡ x ∷ drop (suc k) xs
drop_here [] k x h = cc
drop_here (y ∷ xs) zero x h = ap (λ z. z ∷ xs) (some_eq h)
drop_here (y ∷ xs) (suc k) x h = drop_here xs k x h

module _ (c : Choosing) (base k k' : ℕ) (posts : List Post) (needs : List Bool) where
  one_on : base + k + 1 ≡ base + (k + 1) → suc k ≡ k' → offered_from c (base + k + 1) (drop (suc k) posts) (drop (suc k) needs) ≡ offered_from c (base + k') (drop k' posts) (drop k' needs)
  one_on e f = ap (λ n. offered_from c n (drop (suc k) posts) (drop (suc k) needs)) (e ∙ ap (λ m. base + m) (add-one k)) ∙ ap (λ m. offered_from c (base + m) (drop m posts) (drop m needs)) f

pub offers_next : (c now : Choosing) (base k : ℕ) (posts : List Post) (needs : List Bool) (p : Post) (need : Bool) → slice_get posts k ≡ Some p → slice_get needs k ≡ Some need → OffersOn c now base k posts needs → OffersOn c (choice_with now (record { queue = p.queue; place = base + k }) (is_settled p.state need)) base (k + 1) posts needs
offers_next c now base k posts needs p need at n h = record {
  count = h.count;
  rest = h.rest ∙ (ap (λ ps. offered_from now (base + k) ps (drop k needs)) (drop_here posts k p at) ∙ (ap (λ ns. offered_from now (base + k) (p ∷ drop (suc k) posts) ns) (drop_here needs k need n) ∙ one_on (choice_with now (record { queue = p.queue; place = base + k }) (is_settled p.state need)) base k (k + 1) posts needs (add_assoc base k 1) (sym (add-one k))));
}

-- what a map has at a place
pub get_map : {X Y : Type 0} → (f : X → Y) (xs : List X) (k : ℕ) (x : X) → slice_get xs k ≡ Some x → slice_get (map f xs) k ≡ Some (f x)
get_map f [] k x h = cc
get_map f (y ∷ xs) zero x h = ap (λ z. Some (f z)) (some_eq h)
get_map f (y ∷ xs) (suc k) x h = get_map f xs k x h

pub map_set : {X Y : Type 0} → (f : X → Y) (xs : List X) (k : ℕ) (x : X) → map f (slice_set xs k x) ≡ slice_set (map f xs) k (f x)
map_set f [] k x = refl
map_set f (y ∷ xs) zero x = refl
map_set f (y ∷ xs) (suc k) x = ap (λ zs. f y ∷ zs) (map_set f xs k x)

-- one end of a list moved
pub posted_at : {X : Type 0} → (f : X → Post) (xs : List X) (k : ℕ) (x moved : X) (need : Bool) (e : Event) → slice_get xs k ≡ Some x → Posted (f x) need e (f moved) → PostedAt (map f xs) k need e (map f (slice_set xs k moved))
posted_at f xs k x moved need e at p = record { post = f x; moved = f moved; there = get_map f xs k x at; posted = p; after = map_set f xs k moved }

plus_suc : (m k : ℕ) → m + 1 + k ≡ m + suc k
plus_suc m k = rw (← add-one k) omega arith

pub get_need : (need : ℕ → Bool) (from : ℕ) (qs : List QueueId) (k : ℕ) (q : QueueId) → slice_get qs k ≡ Some q → slice_get (needs_from need from qs) k ≡ Some (need (from + k))
get_need need from [] k q h = cc
get_need need from (y ∷ qs) zero q h = ap (λ n. Some (need n)) (sym (add-zero from))
get_need need from (y ∷ qs) (suc k) q h = get_need need (from + 1) qs k q h ∙ ap (λ n. Some (need n)) (plus_suc from k)

-- the first of the ends moved, or a later one
pub first : (p moved : Post) (ps : List Post) (need : Bool) (e : Event) → Posted p need e moved → PostedAt (p ∷ ps) 0 need e (moved ∷ ps)
first p moved ps need e h = record { post = p; moved = moved; there = refl; posted = h; after = refl }

pub later : (p : Post) (ps ps' : List Post) (k : ℕ) (need : Bool) (e : Event) → PostedAt ps k need e ps' → PostedAt (p ∷ ps) (suc k) need e (p ∷ ps')
later p ps ps' k need e h = record { post = h.post; moved = h.moved; there = h.there; posted = h.posted; after = ap (λ xs. p ∷ xs) h.after }

-- an end that is there, and its need
module _ {X : Type 0} (f : X → Post) (g : X → QueueId) (ends : List X) (k : ℕ) (x : X) (need : ℕ → Bool) (there : slice_get ends k ≡ Some x) where
  post_here : slice_get (map f ends) k ≡ Some (f x)
  post_here = get_map f ends k x there

  need_here : slice_get (needs_from need 0 (map g ends)) k ≡ Some (need k)
  need_here = get_need need 0 (map g ends) k (g x) (get_map g ends k x there) ∙ ap (λ n. Some (need n)) (zero-add k)

-- one end of a list more was offered
pub end_next : {X : Type 0} (f : X → Post) (g : X → QueueId) (c now v : Choosing) (base k : ℕ) (ends : List X) (x : X) (need : ℕ → Bool) (q : ℕ) (s b : Bool) → slice_get ends k ≡ Some x → q ≡ (f x).queue → v ≡ choice_with now (record { queue = q; place = base + k }) s → s ≡ is_settled (f x).state b → b ≡ need k
    → OffersOn c now base k (map f ends) (needs_from need 0 (map g ends)) → OffersOn c v base (k + 1) (map f ends) (needs_from need 0 (map g ends))
end_next f g c now v base k ends x need q s b there p e t u on = rw (e, p, t, u) (offers_next c now base k (map f ends) (needs_from need 0 (map g ends)) (f x) (need k) (post_here f g ends k x need there) (need_here f g ends k x need there) on)

module _ (x : Option Stand) (base k k' : ℕ) (posts : List Post) (needs : List Bool) where
  one_left : base + k + 1 ≡ base + (k + 1) → suc k ≡ k' → unsettled_from x (base + k + 1) (drop (suc k) posts) (drop (suc k) needs) ≡ unsettled_from x (base + k') (drop k' posts) (drop k' needs)
  one_left e f = ap (λ n. unsettled_from x n (drop (suc k) posts) (drop (suc k) needs)) (e ∙ ap (λ m. base + m) (add-one k)) ∙ ap (λ m. unsettled_from x (base + m) (drop m posts) (drop m needs)) f

counted_next : (x : Option Stand) (base k : ℕ) (posts : List Post) (needs : List Bool) (p : Post) (need : Bool) → slice_get posts k ≡ Some p → slice_get needs k ≡ Some need → unsettled_from x (base + k) (drop k posts) (drop k needs) ≡ unsettled_from (lower_if (not (is_settled p.state need)) x (record { queue = p.queue; place = base + k })) (base + (k + 1)) (drop (k + 1) posts) (drop (k + 1) needs)
counted_next x base k posts needs p need at n =
    ap (λ ps. unsettled_from x (base + k) ps (drop k needs)) (drop_here posts k p at)
    ∙ (ap (λ ns. unsettled_from x (base + k) (p ∷ drop (suc k) posts) ns) (drop_here needs k need n)
    ∙ one_left (lower_if (not (is_settled p.state need)) x (record { queue = p.queue; place = base + k })) base k (k + 1) posts needs (add_assoc base k 1) (sym (add-one k)))

-- one end of a list more was counted
pub end_counted : {X : Type 0} (f : X → Post) (g : X → QueueId) (all was now : Option Stand) (base k : ℕ) (ends : List X) (x : X) (need : ℕ → Bool) (q : ℕ) (s b : Bool) → slice_get ends k ≡ Some x → q ≡ (f x).queue → now ≡ lower_if (not s) was (record { queue = q; place = base + k }) → s ≡ is_settled (f x).state b → b ≡ need k
    → all ≡ unsettled_from was (base + k) (drop k (map f ends)) (drop k (needs_from need 0 (map g ends))) → all ≡ unsettled_from now (base + (k + 1)) (drop (k + 1) (map f ends)) (drop (k + 1) (needs_from need 0 (map g ends)))
end_counted f g all was now base k ends x need q s b there p e t u on = rw (e, p, t, u) (on ∙ counted_next was base k (map f ends) (needs_from need 0 (map g ends)) (f x) (need k) (post_here f g ends k x need there) (need_here f g ends k x need there))

here_settled : (posts : List Post) (needs : List Bool) (k : ℕ) (p : Post) (need : Bool) → slice_get posts k ≡ Some p → slice_get needs k ≡ Some need → settled_all (drop k posts) (drop k needs) ≡ (is_settled p.state need && settled_all (drop (k + 1) posts) (drop (k + 1) needs))
here_settled posts needs k p need at n = rw (drop_here posts k p at, drop_here needs k need n, add-one k) refl

-- the ends from a place on are settled where this one is and the others are
module _ {X : Type 0} (f : X → Post) (g : X → QueueId) (k : ℕ) (ends : List X) (x : X) (need : ℕ → Bool) (s b : Bool) (there : slice_get ends k ≡ Some x) (t : s ≡ is_settled (f x).state b) (u : b ≡ need k) where
  settled_now : settled_all (drop k (map f ends)) (drop k (needs_from need 0 (map g ends))) ≡ (s && settled_all (drop (k + 1) (map f ends)) (drop (k + 1) (needs_from need 0 (map g ends))))
  settled_now = rw (t, u) (here_settled (map f ends) (needs_from need 0 (map g ends)) k (f x) (need k) (post_here f g ends k x need there) (need_here f g ends k x need there))

  pub end_stop : (all : Bool) → s ≡ false → all ≡ settled_all (drop k (map f ends)) (drop k (needs_from need 0 (map g ends))) → false ≡ all
  end_stop all e o = sym (o ∙ (settled_now ∙ ap (λ y. y && settled_all (drop (k + 1) (map f ends)) (drop (k + 1) (needs_from need 0 (map g ends)))) e))

  pub end_go : (all : Bool) → s ≡ true → all ≡ settled_all (drop k (map f ends)) (drop k (needs_from need 0 (map g ends))) → all ≡ settled_all (drop (k + 1) (map f ends)) (drop (k + 1) (needs_from need 0 (map g ends)))
  end_go all e o = o ∙ (settled_now ∙ ap (λ y. y && settled_all (drop (k + 1) (map f ends)) (drop (k + 1) (needs_from need 0 (map g ends)))) e)
