use Rattle.std.proofs.Common.{◌≡◌, ◌==◌, ◌&&◌, ℕ, suc, Some, List, [], ◌∷◌, slice_get, refl, sym, ap, ◌∙◌, subst, arith, eq-eqb}
use Rattle.cargo_core.specs.declared.item.PoolId.{PoolId}
use Rattle.cargo_core.specs.declared.item.Body.{Body}
use Rattle.cargo_core.specs.declared.item.Body.TheVariants as Carried
use Rattle.cargo_core.specs.Bodies.{buffers_of, buffers_in}
use Rattle.wire_core.specs.Bells.{bit}
use Rattle.wire_core.specs.Deeds.{Cargo}
use Rattle.wire_core.specs.Ends.{Role, Consumer, Producer}
use Rattle.wire_core.specs.Lists.{Passed}
use Rattle.turn_kit.specs.Hands.{Balances, bodies_of}
use Rattle.turn_kit.proofs.Holding.{cargo-cons, buffers-append}
use Rattle.play_core.specs.Moved.{Moved, Seat}
use Rattle.owner_law.specs.Things.{Buffer, Names, NoBuffers, Naming, thing_at, requests_of, as_buffer}
use Rattle.owner_law.specs.Keeping.{is_lending}
use Rattle.owner_law.specs.Pages.{as_page}
use Rattle.owner_law.specs.Pools.Handing.{Carries, AllCarry, TakesPages, PutsPages, NameNothing}
use Rattle.owner_law.specs.Pools.Lines.{HoldsIts, bodies_in, came, went}
use Rattle.owner_law.proofs.PoolsLemmas.Lining.{lent_away}

-- an entry without a page
abbrev pub HasNone : Cargo → Type 0
HasNone c = (b : Buffer) → as_page b c.1 ≡ 0

module _ (naming : Naming) (m : Moved) (n : ℕ) (none : naming n ≡ NoBuffers) where
  names_none : (k : ℕ) (c : Cargo) (b : Buffer) → as_buffer b (thing_at (naming n) (requests_of (naming n) m) k c.0) ≡ 0
  names_none k c b = subst (λ (x : Names). as_buffer b (thing_at x (requests_of x m) k c.0) ≡ 0) (sym none) refl

  pub none_carries : (k : ℕ) (c : Cargo) → HasNone c → Carries naming m n k c
  none_carries k c has b = has b ∙ sym (names_none k c b)

  pub carries_none : (k : ℕ) (c : Cargo) → Carries naming m n k c → HasNone c
  carries_none k c carry b = carry b ∙ names_none k c b

-- bodies that are no pages are no buffers
none_in : (pool : PoolId) (body : Body) → ((b : Buffer) → as_page b body ≡ 0) → buffers_in pool body ≡ 0
none_in pool Carried.Empty none = refl
none_in pool (Carried.Lease lease) none = refl
none_in pool (Carried.Page page) none =
    let one : bit ((page.pool.0 == page.pool.0) && (page.no == page.no)) ≡ 1 = rw (eq-eqb page.pool.0 page.pool.0 refl, eq-eqb page.no page.no refl) refl in
    absurd (omega (arith, one, none (record { pool = page.pool.0; no = page.no })))

none_of : (pool : PoolId) (cs : List Cargo) → ((k : ℕ) (c : Cargo) → slice_get cs k ≡ Some c → HasNone c) → buffers_of pool (bodies_of cs) ≡ 0
none_of pool [] none = refl
none_of pool (c ∷ cs) none = omega (arith, cargo-cons pool c cs, none_in pool c.1 (none 0 c refl), none_of pool cs (λ k d at. none (suc k) d at))

module _ (naming : Naming) (m : Moved) (passed : Passed) where
  none_at : (pool : PoolId) (r : Role) (n : ℕ) → naming n ≡ NoBuffers → (r ≡ Consumer → AllCarry naming m n (passed.taken n)) → buffers_of pool (bodies_in passed r n) ≡ 0
  none_at pool Producer n none carry = refl
  none_at pool Consumer n none carry = none_of pool (passed.taken n) (λ k c at. carries_none naming m n none k c (carry refl k c at))

  none_came : (pool : PoolId) (ends : List Seat) → NameNothing naming ends → TakesPages naming m passed ends → buffers_of pool (came passed ends) ≡ 0
  none_came pool [] none takes = refl
  none_came pool (s ∷ ends) none takes =
      omega (arith, buffers-append pool (bodies_in passed s.role s.queue) (came passed ends), none_at pool s.role s.queue (none 0 s refl) (takes 0 s refl), none_came pool ends (λ i x at. none (suc i) x at) (λ i x at consumer. takes (suc i) x at consumer))

  pub plain_holds : (sizes : ℕ → ℕ) (ends : List Seat) (hand kept : List Body) → NameNothing naming ends → TakesPages naming m passed ends → Balances [] (came passed ends) (went passed ends) hand kept → HoldsIts naming sizes m passed (record { keeper = record { ends = ends; hand = λ pool. [] }; hand = hand; lent = λ pool. 0 })
  plain_holds sizes ends hand kept none takes balance = record {
    balances = λ pool. omega (arith, balance pool, none_came pool ends none takes);
    lends = λ pool. sym (lent_away naming m ends (λ i s at consumer. ap is_lending (none i s at)) pool (sizes pool));
  }

  -- what is put without pages
  pub plain_puts : (ends : List Seat) → NameNothing naming ends → ((i : ℕ) (s : Seat) → slice_get ends i ≡ Some s → s.role ≡ Producer → (k : ℕ) (c : Cargo) → slice_get (passed.sent s.queue) k ≡ Some c → HasNone c) → PutsPages naming m passed ends
  plain_puts ends none each i s at producer k c c_at = none_carries naming m s.queue (none i s at) k c (each i s at producer k c c_at)

  pub plain_takes : (ends : List Seat) → NameNothing naming ends → TakesPages naming m passed ends → (i : ℕ) (s : Seat) → slice_get ends i ≡ Some s → s.role ≡ Consumer → (k : ℕ) (c : Cargo) → slice_get (passed.taken s.queue) k ≡ Some c → HasNone c
  plain_takes ends none takes i s at consumer k c c_at = carries_none naming m s.queue (none i s at) k c (takes i s at consumer k c c_at)
