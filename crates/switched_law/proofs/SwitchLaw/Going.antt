use Rattle.std.proofs.Common.{◌≡◌, ℕ, zero, suc, Bool, true, false, Some, List, [], ◌∷◌, map, slice_get, slice_set, slice_index_or, refl, sym, ap, ◌∙◌, subst, arith, eq-eqb, eqb-true}
use Rattle.frame_core.specs.declared.mac.Mac.{Mac}
use Rattle.buffer_kit.specs.Entries.{frame_of}
use Rattle.class_expect.specs.NetExpect.Expecting.{is_for_client}
use Rattle.net_virt_rx.specs.Sharing.{how_many}
use Rattle.net_switch.specs.SwitchDesk.Frames.{Sent, receivers_of, goes_to, is_lost}

-- To which ports a frame goes.

some_of : {T : Type 0} {x y : T} → Some x ≡ Some y → x ≡ y
some_of h = cc

mapped_at : (f : Mac → Bool) (macs : List Mac) (r : ℕ) (mac : Mac) → slice_get macs r ≡ Some mac → slice_index_or (map f macs) r false ≡ f mac
mapped_at f [] r mac at = cc
mapped_at f (m ∷ macs) zero mac at = ap f (some_of at)
mapped_at f (m ∷ macs) (suc r) mac at = mapped_at f macs r mac at

set_other : (f : Mac → Bool) (macs : List Mac) (s r : ℕ) (mac : Mac) → slice_get macs r ≡ Some mac → (s ≡ r → ⊥) → slice_index_or (slice_set (map f macs) s false) r false ≡ f mac
set_other f [] s r mac at off = cc
set_other f (m ∷ macs) zero zero mac at off = absurd (off refl)
set_other f (m ∷ macs) zero (suc r) mac at off = mapped_at f macs r mac at
set_other f (m ∷ macs) (suc s) zero mac at off = ap f (some_of at)
set_other f (m ∷ macs) (suc s) (suc r) mac at off = set_other f macs s r mac at (λ e. off (ap suc e))

set_same : (bs : List Bool) (r : ℕ) → slice_index_or (slice_set bs r false) r false ≡ false
set_same [] r = refl
set_same (b ∷ bs) zero = refl
set_same (b ∷ bs) (suc r) = set_same bs r

-- no frame goes to its own port
pub goes_own : (macs : List Mac) (r : ℕ) (x : Sent) → x.0 ≡ r → goes_to macs r x ≡ false
goes_own macs r x same = subst (λ s. slice_index_or (slice_set (map (λ (mac : Mac). is_for_client mac (frame_of x.1)) macs) s false) r false ≡ false) (sym same) (set_same (map (λ (mac : Mac). is_for_client mac (frame_of x.1)) macs) r)

-- and to another it goes where it is for it
pub goes_other : (macs : List Mac) (r : ℕ) (mac : Mac) → slice_get macs r ≡ Some mac → (x : Sent) → (x.0 ≡ r → ⊥) → goes_to macs r x ≡ is_for_client mac (frame_of x.1)
goes_other macs r mac at x off = set_other (λ (m : Mac). is_for_client m (frame_of x.1)) macs x.0 r mac at off

-- where none of these is so, none at a place is, and where some is, one at a place is
none_there : (bs : List Bool) (k : ℕ) → how_many bs ≡ 0 → slice_index_or bs k false ≡ false
none_there [] k none = refl
none_there (true ∷ bs) k none = absurd (omega (arith, none))
none_there (false ∷ bs) zero none = refl
none_there (false ∷ bs) (suc k) none = none_there bs k (omega (arith, none))

some_there : (bs : List Bool) → (how_many bs ≡ 0 → ⊥) → (k : ℕ) × (slice_index_or bs k false ≡ true)
some_there [] some = absurd (some refl)
some_there (true ∷ bs) some = (0, refl)
some_there (false ∷ bs) some = let more = some_there bs (λ none. some (omega (arith, none))) in (suc more.0, more.1)

pub lost_nowhere : (macs : List Mac) (x : Sent) → is_lost macs x ≡ true → (port : ℕ) → goes_to macs port x ≡ false
lost_nowhere macs x lost port = none_there (receivers_of macs x) port (eqb-true (how_many (receivers_of macs x)) 0 lost)

pub kept_somewhere : (macs : List Mac) (x : Sent) → is_lost macs x ≡ false → (port : ℕ) × (goes_to macs port x ≡ true)
kept_somewhere macs x kept = some_there (receivers_of macs x) (λ none. let bad : true ≡ false = sym (eq-eqb (how_many (receivers_of macs x)) 0 none) ∙ kept in cc)
