-- Where no address begins a buffer in two windows, items name of other pools what they named.
use Rattle.std.proofs.Common.{◌≡◌, ◌≢◌, ◌⊎◌, ◌==◌, ◌&&◌, ◌+◌, ℕ, zero, suc, Bool, true, false, cond, if◌then◌else◌, Option, None, Some, List, [], ◌∷◌, slice_get, sum_by, refl, sym, ap, ◌∙◌, arith, inl, inr}
use Rattle.std.specs.Option.{option_and_then}
use Rattle.std.proofs.Math.Dec.{eqb}
use Rattle.std.proofs.lemmas.Bool.Decides.{eqb_tells}
use Rattle.std.proofs.lemmas.List.Sums.{sum_by-cons}
use Rattle.cargo_core.specs.declared.item.Item.{Item}
use Rattle.wire_core.specs.Bells.{bit}
use Rattle.play_core.specs.Moved.{Moved}
use Rattle.owner_law.specs.Things.{Answers, Buffer, Buffers, Frame, Frames, Lease, Leases, Names, NoBuffers, Nothing, Return, Returns, Thing, Whole, Window, address_of, as_buffer, as_lease, begins_at, brings_leases, buffer_at, buffer_of, gives_back, is_same, lends, number_at, requested, requests_of, thing_at, thing_of, things_from}
use Rattle.cast_law.specs.Pools.Owning.{names_beside, windows_beside}

-- no address begins a buffer in two of these windows
abbrev pub AreWindowsApart : List Window → Type 0
AreWindowsApart ws = (i j : ℕ) (v w : Window) (a : ℕ) → slice_get ws i ≡ Some v → slice_get ws j ≡ Some w → begins_at v a ≡ true → begins_at w a ≡ true → i ≡ j

pub one_apart : (w : Window) → AreWindowsApart (w ∷ [])
one_apart w zero zero v u a i_at j_at x y = refl
one_apart w zero (suc j) v u a i_at j_at x y = cc
one_apart w (suc i) j v u a i_at j_at x y = cc

none_apart : (w : Window) (ws : List Window) → AreWindowsApart (w ∷ ws) → AreWindowsApart ws
none_apart w ws apart i j v u a i_at j_at x y = let e = apart (suc i) (suc j) v u a i_at j_at x y in omega (arith, e)

-- the windows of what a queue's items name
abbrev pub AreNamesApart : Names → Type 0
AreNamesApart NoBuffers = Unit {0}
AreNamesApart (Buffers ws) = AreWindowsApart ws
AreNamesApart (Frames ws receivers) = AreWindowsApart ws
AreNamesApart (Leases ws) = AreWindowsApart ws
AreNamesApart (Returns ws) = AreWindowsApart ws
AreNamesApart (Answers q ws) = AreWindowsApart ws

no_name : (ws : List Window) (a : ℕ) → ((i : ℕ) (w : Window) → slice_get ws i ≡ Some w → begins_at w a ≡ true → ⊥) → buffer_at ws a ≡ None
no_name [] a none = refl
no_name (w ∷ ws) a none = by (begins_at w a) refl (no_name ws a (λ i v at. none (suc i) v at))
  where
    by : (t : Bool) → begins_at w a ≡ t → buffer_at ws a ≡ None → buffer_at (w ∷ ws) a ≡ None
    by true e rest = absurd (none 0 w refl e)
    by false e rest = ap (λ t. if t then Some (record { pool = w.pool; no = number_at w a }) else buffer_at ws a) e ∙ rest

two_ways : (t : Bool) → t ≡ true → t ≡ false → ⊥
two_ways t g h = cc

-- buffers of pools of which one is such a pool and one isn't are not the same
other_pool : (off : ℕ → Bool) (c b : Buffer) (t : Bool) → off c.pool ≡ t → (off b.pool ≡ t → ⊥) → is_same c b ≡ false
other_pool off c b t one other = by (eqb_tells c.pool b.pool)
  where
    by : ((eqb c.pool b.pool ≡ true) × (c.pool ≡ b.pool)) ⊎ ((eqb c.pool b.pool ≡ false) × (c.pool ≢ b.pool)) → ((c.pool == b.pool) && (c.no == b.no)) ≡ false
    by (inl e) = absurd (other (ap off (sym e.1) ∙ one))
    by (inr e) = ap (λ z. z && (c.no == b.no)) e.0

-- the same is named, or nothing for another buffer than this one
abbrev pub IsKept : Buffer → Option Buffer → Option Buffer → Type 0
IsKept b o' o = (o' ≡ o) ⊎ ((o' ≡ None) × (c : Buffer) × (o ≡ Some c) × (is_same c b ≡ false))

-- nothing is named, or another buffer
abbrev pub IsOther : Buffer → Option Buffer → Type 0
IsOther b o = (o ≡ None) ⊎ ((c : Buffer) × (o ≡ Some c) × (is_same c b ≡ false))

module _ (off : ℕ → Bool) where
  kept_name : (ws : List Window) → AreWindowsApart ws → (b : Buffer) → off b.pool ≡ false → (a : ℕ) → IsKept b (buffer_at (windows_beside off ws) a) (buffer_at ws a)
  kept_name [] apart b free a = inl refl
  kept_name (w ∷ ws) apart b free a = by (off w.pool) refl (begins_at w a) refl (kept_name ws (none_apart w ws apart) b free a)
    where
      -- where the first window has the address
      first : begins_at w a ≡ true → buffer_at (w ∷ ws) a ≡ Some (record { pool = w.pool; no = number_at w a })
      first e = ap (λ t. if t then Some (record { pool = w.pool; no = number_at w a }) else buffer_at ws a) e

      later : begins_at w a ≡ false → buffer_at (w ∷ ws) a ≡ buffer_at ws a
      later e = ap (λ t. if t then Some (record { pool = w.pool; no = number_at w a }) else buffer_at ws a) e

      alone : begins_at w a ≡ true → buffer_at ws a ≡ None
      alone e = no_name ws a (λ i v at begins. let same = apart 0 (suc i) w v a refl at e begins in omega (arith, same))

      -- what is named without the window, where that has not the address or another buffer
      without : IsKept b (buffer_at (windows_beside off ws) a) (buffer_at ws a) → buffer_at ws a ≡ None → buffer_at (windows_beside off ws) a ≡ None
      without (inl e) none = e ∙ none
      without (inr x) none = x.0

      with_later : IsKept b (buffer_at (windows_beside off ws) a) (buffer_at ws a) → (o' o : Option Buffer) → o' ≡ buffer_at (windows_beside off ws) a → o ≡ buffer_at ws a → IsKept b o' o
      with_later (inl e) o' o p q = inl (p ∙ (e ∙ sym q))
      with_later (inr (e, c, is, apart_)) o' o p q = inr (p ∙ e, c, q ∙ is, apart_)

      by : (t : Bool) → off w.pool ≡ t → (u : Bool) → begins_at w a ≡ u → IsKept b (buffer_at (windows_beside off ws) a) (buffer_at ws a) → IsKept b (buffer_at (cond t (windows_beside off ws) (w ∷ windows_beside off ws)) a) (buffer_at (w ∷ ws) a)
      by true on true e rest = inr (without rest (alone e), record { pool = w.pool; no = number_at w a }, first e, other_pool off (record { pool = w.pool; no = number_at w a }) b true on (λ h. two_ways (off b.pool) h free))
      by true on false e rest = with_later rest (buffer_at (windows_beside off ws) a) (buffer_at (w ∷ ws) a) refl (later e)
      by false on true e rest = inl (ap (λ t. if t then Some (record { pool = w.pool; no = number_at w a }) else buffer_at (windows_beside off ws) a) e ∙ sym (first e))
      by false on false e rest = with_later rest (buffer_at (w ∷ windows_beside off ws) a) (buffer_at (w ∷ ws) a) (ap (λ t. if t then Some (record { pool = w.pool; no = number_at w a }) else buffer_at (windows_beside off ws) a) e) (later e)

  -- a buffer of such a pool is named no more
  gone_name : (ws : List Window) (b : Buffer) → off b.pool ≡ true → (a : ℕ) → IsOther b (buffer_at (windows_beside off ws) a)
  gone_name [] b on a = inl refl
  gone_name (w ∷ ws) b on a = by (off w.pool) refl (gone_name ws b on a)
    where
      by : (t : Bool) → off w.pool ≡ t → IsOther b (buffer_at (windows_beside off ws) a) → IsOther b (buffer_at (cond t (windows_beside off ws) (w ∷ windows_beside off ws)) a)
      by true e rest = rest
      by false e rest = side (begins_at w a)
        where
          side : (z : Bool) → IsOther b (if z then Some (record { pool = w.pool; no = number_at w a }) else buffer_at (windows_beside off ws) a)
          side true = inr (record { pool = w.pool; no = number_at w a }, refl, other_pool off (record { pool = w.pool; no = number_at w a }) b false e (λ h. two_ways (off b.pool) on h))
          side false = rest

  kept_option : (ws : List Window) → AreWindowsApart ws → (b : Buffer) → off b.pool ≡ false → (o : Option ℕ) → IsKept b (option_and_then (buffer_at (windows_beside off ws)) o) (option_and_then (buffer_at ws) o)
  kept_option ws apart b free None = inl refl
  kept_option ws apart b free (Some a) = kept_name ws apart b free a

  gone_option : (ws : List Window) (b : Buffer) → off b.pool ≡ true → (o : Option ℕ) → IsOther b (option_and_then (buffer_at (windows_beside off ws)) o)
  gone_option ws b on None = inl refl
  gone_option ws b on (Some a) = gone_name ws b on a

  kept_request : (ws : List Window) → AreWindowsApart ws → (b : Buffer) → off b.pool ≡ false → (o : Option Item) → IsKept b (option_and_then (buffer_of (windows_beside off ws)) o) (option_and_then (buffer_of ws) o)
  kept_request ws apart b free None = inl refl
  kept_request ws apart b free (Some i) = kept_option ws apart b free (address_of i)

  gone_request : (ws : List Window) (b : Buffer) → off b.pool ≡ true → (o : Option Item) → IsOther b (option_and_then (buffer_of (windows_beside off ws)) o)
  gone_request ws b on None = inl refl
  gone_request ws b on (Some i) = gone_option ws b on (address_of i)

-- what is counted of one buffer: of other buffers nothing
pub record IsOf (b : Buffer) (f : Thing → ℕ) : Type 0 where
  pub nothing : f Nothing ≡ 0
  pub whole : (c : Buffer) → is_same c b ≡ false → f (Whole c) ≡ 0
  pub frame : (c : Buffer) (r : ℕ) → is_same c b ≡ false → f (Frame c r) ≡ 0
  pub lease : (c : Buffer) → is_same c b ≡ false → f (Lease c) ≡ 0
  pub back : (c : Buffer) → is_same c b ≡ false → f (Return c) ≡ 0

pub of_buffer : (b : Buffer) → IsOf b (as_buffer b)
of_buffer b = record { nothing = refl; whole = λ c e. ap bit e; frame = λ c r e. ap bit e; lease = λ c e. refl; back = λ c e. refl }

pub of_lease : (b : Buffer) → IsOf b (as_lease b)
of_lease b = record { nothing = refl; whole = λ c e. refl; frame = λ c r e. refl; lease = λ c e. ap bit e; back = λ c e. ap bit e }

pub of_lends : (b : Buffer) → IsOf b (lends b)
of_lends b = record { nothing = refl; whole = λ c e. refl; frame = λ c r e. ap (λ (t : Bool). if t then r else 0) e; lease = λ c e. refl; back = λ c e. refl }

pub of_back : (b : Buffer) → IsOf b (gives_back b)
of_back b = record { nothing = refl; whole = λ c e. refl; frame = λ c r e. refl; lease = λ c e. refl; back = λ c e. ap bit e }

pub of_brought : (b : Buffer) → IsOf b (brings_leases b)
of_brought b = record { nothing = refl; whole = λ c e. refl; frame = λ c r e. ap (λ (t : Bool). if t then r else 0) e; lease = λ c e. ap bit e; back = λ c e. refl }

module _ (b : Buffer) (f : Thing → ℕ) (of : IsOf b f) where
  -- what such a thing counts
  made_kept : (make : Buffer → Thing) → ((c : Buffer) → is_same c b ≡ false → f (make c) ≡ 0) → (o' o : Option Buffer) → IsKept b o' o → f (thing_of make o') ≡ f (thing_of make o)
  made_kept make other o' o (inl e) = ap (λ x. f (thing_of make x)) e
  made_kept make other o' o (inr (none, c, is, apart)) = ap (λ x. f (thing_of make x)) none ∙ (of.nothing ∙ sym (ap (λ x. f (thing_of make x)) is ∙ other c apart))

  made_gone : (make : Buffer → Thing) → ((c : Buffer) → is_same c b ≡ false → f (make c) ≡ 0) → (o : Option Buffer) → IsOther b o → f (thing_of make o) ≡ 0
  made_gone make other o (inl e) = ap (λ x. f (thing_of make x)) e ∙ of.nothing
  made_gone make other o (inr (c, is, apart)) = ap (λ x. f (thing_of make x)) is ∙ other c apart

  module _ (off : ℕ → Bool) where
    -- of another pool the same is counted
    pub kept_thing : off b.pool ≡ false → (names : Names) → AreNamesApart names → (rs : List Item) (k : ℕ) (i : Item) → f (thing_at (names_beside off names) rs k i) ≡ f (thing_at names rs k i)
    kept_thing free NoBuffers apart rs k i = refl
    kept_thing free (Buffers ws) apart rs k i = made_kept Whole of.whole (buffer_of (windows_beside off ws) i) (buffer_of ws i) (kept_option off ws apart b free (address_of i))
    kept_thing free (Frames ws receivers) apart rs k i = made_kept (λ c. Frame c (receivers k)) (λ c e. of.frame c (receivers k) e) (buffer_of (windows_beside off ws) i) (buffer_of ws i) (kept_option off ws apart b free (address_of i))
    kept_thing free (Leases ws) apart rs k i = made_kept Lease of.lease (buffer_of (windows_beside off ws) i) (buffer_of ws i) (kept_option off ws apart b free (address_of i))
    kept_thing free (Returns ws) apart rs k i = made_kept Return of.back (buffer_of (windows_beside off ws) i) (buffer_of ws i) (kept_option off ws apart b free (address_of i))
    kept_thing free (Answers q ws) apart rs k i = made_kept Whole of.whole (requested (windows_beside off ws) rs k) (requested ws rs k) (kept_request off ws apart b free (slice_get rs k))

    -- of such a pool nothing is
    pub gone_thing : off b.pool ≡ true → (names : Names) (rs : List Item) (k : ℕ) (i : Item) → f (thing_at (names_beside off names) rs k i) ≡ 0
    gone_thing on NoBuffers rs k i = of.nothing
    gone_thing on (Buffers ws) rs k i = made_gone Whole of.whole (buffer_of (windows_beside off ws) i) (gone_option off ws b on (address_of i))
    gone_thing on (Frames ws receivers) rs k i = made_gone (λ c. Frame c (receivers k)) (λ c e. of.frame c (receivers k) e) (buffer_of (windows_beside off ws) i) (gone_option off ws b on (address_of i))
    gone_thing on (Leases ws) rs k i = made_gone Lease of.lease (buffer_of (windows_beside off ws) i) (gone_option off ws b on (address_of i))
    gone_thing on (Returns ws) rs k i = made_gone Return of.back (buffer_of (windows_beside off ws) i) (gone_option off ws b on (address_of i))
    gone_thing on (Answers q ws) rs k i = made_gone Whole of.whole (requested (windows_beside off ws) rs k) (gone_request off ws b on (slice_get rs k))

-- sums over all that passed
pub none_from : (f : Thing → ℕ) (names : Names) (rs : List Item) → ((j : ℕ) (i : Item) → f (thing_at names rs j i) ≡ 0) → (k : ℕ) (is : List Item) → sum_by f (things_from names rs k is) ≡ 0
none_from f names rs none k [] = refl
none_from f names rs none k (i ∷ is) = omega (arith, sum_by-cons f (thing_at names rs k i) (things_from names rs (k + 1) is), none k i, none_from f names rs none (k + 1) is)

pub same_from : (f : Thing → ℕ) (names names' : Names) (rs : List Item) → ((j : ℕ) (i : Item) → f (thing_at names rs j i) ≡ f (thing_at names' rs j i)) → (k : ℕ) (is : List Item) → sum_by f (things_from names rs k is) ≡ sum_by f (things_from names' rs k is)
same_from f names names' rs same k [] = refl
same_from f names names' rs same k (i ∷ is) = omega (arith, sum_by-cons f (thing_at names rs k i) (things_from names rs (k + 1) is), sum_by-cons f (thing_at names' rs k i) (things_from names' rs (k + 1) is), same k i, same_from f names names' rs same (k + 1) is)

pub same_requests : (off : ℕ → Bool) (names : Names) (m : Moved) → requests_of (names_beside off names) m ≡ requests_of names m
same_requests off NoBuffers m = refl
same_requests off (Buffers ws) m = refl
same_requests off (Frames ws receivers) m = refl
same_requests off (Leases ws) m = refl
same_requests off (Returns ws) m = refl
same_requests off (Answers q ws) m = refl

-- items name nothing
abbrev pub IsEmpty : Names → Type 0
IsEmpty names = (names ≡ NoBuffers) ⊎ (names ≡ Buffers []) ⊎ ((q : ℕ) × (names ≡ Answers q []))

no_buffer : (o : Option ℕ) → option_and_then (buffer_at []) o ≡ None
no_buffer None = refl
no_buffer (Some a) = refl

no_request : (o : Option Item) → option_and_then (buffer_of []) o ≡ None
no_request None = refl
no_request (Some i) = no_buffer (address_of i)

pub empty_thing : (names : Names) → IsEmpty names → (rs : List Item) (k : ℕ) (i : Item) → thing_at names rs k i ≡ Nothing
empty_thing names (inl e) rs k i = ap (λ x. thing_at x rs k i) e
empty_thing names (inr (inl e)) rs k i = ap (λ x. thing_at x rs k i) e ∙ ap (thing_of Whole) (no_buffer (address_of i))
empty_thing names (inr (inr x)) rs k i = ap (λ y. thing_at y rs k i) x.1 ∙ ap (thing_of Whole) (no_request (slice_get rs k))
