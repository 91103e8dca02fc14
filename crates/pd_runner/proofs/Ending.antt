-- How the threads and the last pass fit together.
use Rattle.std.proofs.Common.{◌≡◌, ◌∙◌, ◌≤◌, ◌+◌, ◌⊎◌, inl, inr, ⊎_elim, ℕ, List, [], ◌∷◌, ◌++◌, Bool, true, false, arith, refl, subst}
use Rattle.spsc_queue.specs.Known.Ends.{RingIs}
use Rattle.seat_wires.specs.Places.Are.{SeatsAre}
use Rattle.seat_wires.proofs.Going.{went_then}
use Rattle.actor_set.specs.declared.actor.Actor.{Actor}
use Rattle.order_law.proofs.Telling.{goes_then}
use Rattle.pd_runner.specs.declared.part.Part.{Part}
use Rattle.pd_runner.specs.declared.part.Ran.{Ran}
use Rattle.pd_runner.specs.Running.{IsReady, HasNoWant, Comes, Came, CameAtWork}
use Rattle.pd_runner.specs.Begun.{RanOf}
use Rattle.pd_runner.specs.Ends.{RanReady, SettledOf, LawfulOf, SpentOf, Rests}
use Rattle.pd_runner.specs.Each.{Each, Every, AnyOf, AnyPair}
use Rattle.pd_runner.proofs.Eaches.{each_then}
use Rattle.pd_runner.proofs.Wilding.{wild_on}

comes_then : (a : Actor) (s : SeatsAre) (n : ℕ) (b : Actor) (t : SeatsAre) (m : ℕ) (c : Actor) (u : SeatsAre) → Comes a s n b t → Comes b t m c u → Comes a s (n + m) c u
comes_then a s n b t m c u h k = record { same = k.same ∙ h.same; sits = k.sits; went = went_then s n t m u h.went k.went; calls = h.calls ++ k.calls; goes = goes_then a s h.calls b t k.calls c u h.goes k.goes }

pub came_then : (rings : List RingIs) (a : Part) (n : ℕ) (b : Part) (m : ℕ) (c : Part) → Came rings a n b → Came rings b m c → Came rings a (n + m) c
came_then rings a n b m c h k = record { stands = k.stands; comes = comes_then _ _ n _ _ m _ _ h.comes k.comes; row = k.row }

module _ (rings : List RingIs) (limit : ℕ) where
  -- a part that a thread left may be stepped where it met no want
  pub rans_ready : (olds : List Part) (rans : List Ran) → Every (IsReady rings) olds → Each (RanOf rings limit) olds rans → Every (λ (r : Ran). HasNoWant r.part) rans → Every (RanReady rings limit) rans
  rans_ready [] [] were h fine = tt
  rans_ready [] (r ∷ rans) were h fine = absurd h
  rans_ready (x ∷ olds) [] were h fine = absurd h
  rans_ready (x ∷ olds) (r ∷ rans) were h fine = ((record { stands = h.0.0.stands; wild = wild_on _ _ r.made _ _ h.0.0.comes were.0.wild; fine = fine.0 }, h.0.1), rans_ready olds rans were.1 h.1 fine.1)

  pub lawful : (stop : Bool) (old : Part) (ran : Ran) (new : Part) → RanOf rings limit old ran → SettledOf rings limit stop ran new → LawfulOf rings limit old new
  lawful stop old ran new h k = record { steps = ran.made + k.more; within = k.within; came = came_then rings old ran.made ran.part k.more new h.0 k.came.came; fine = k.fine }

  spent : (old : Part) (n : ℕ) (new : Part) → Came rings old n new → limit ≤ n → SpentOf rings limit old new
  spent old n new h below = record { steps = n; reached = below; came = h }

  -- the last pass was made
  pub all_passed : (olds : List Part) (rans : List Ran) (news : List Part) → Each (RanOf rings limit) olds rans → Each (SettledOf rings limit false) rans news → Every Rests news ⊎ AnyPair (SpentOf rings limit) olds news
  all_passed [] [] [] h k = inl tt
  all_passed [] [] (z ∷ news) h k = absurd k
  all_passed [] (r ∷ rans) news h k = absurd h
  all_passed (x ∷ olds) [] news h k = absurd h
  all_passed (x ∷ olds) (r ∷ rans) [] h k = absurd k
  all_passed (x ∷ olds) (r ∷ rans) (z ∷ news) h k = ⊎_elim
      (λ e. cc)
      (⊎_elim
      (λ rests. ⊎_elim (λ all. inl (rests, all)) (λ some. inr (inr some)) (all_passed olds rans news h.1 k.1))
      (λ e. inr (inl (spent x (r.made + k.0.more) z (came_then rings x r.made r.part k.0.more z h.0.0 k.0.came.came) (omega (arith, e))))))
      k.0.rests

  -- the last pass was left out, since one was spent
  pub one_stopped : (stop : Bool) (olds : List Part) (rans : List Ran) (news : List Part) → Each (RanOf rings limit) olds rans → Each (SettledOf rings limit stop) rans news → AnyOf (λ r. limit ≤ r.made) rans → AnyPair (SpentOf rings limit) olds news
  one_stopped stop [] [] [] h k any = absurd any
  one_stopped stop [] [] (z ∷ news) h k any = absurd k
  one_stopped stop [] (r ∷ rans) news h k any = absurd h
  one_stopped stop (x ∷ olds) [] news h k any = absurd h
  one_stopped stop (x ∷ olds) (r ∷ rans) [] h k any = absurd k
  one_stopped stop (x ∷ olds) (r ∷ rans) (z ∷ news) h k any = ⊎_elim
      (λ below. inl (spent x (r.made + k.0.more) z (came_then rings x r.made r.part k.0.more z h.0.0 k.0.came.came) (omega (arith, below))))
      (λ later. inr (one_stopped stop olds rans news h.1 k.1 later))
      any

  pub ends : (stop : Bool) (olds : List Part) (rans : List Ran) (news : List Part) → (stop ≡ true → AnyOf (λ r. limit ≤ r.made) rans) → Each (RanOf rings limit) olds rans → Each (SettledOf rings limit stop) rans news → Every Rests news ⊎ AnyPair (SpentOf rings limit) olds news
  ends true olds rans news any h k = inr (one_stopped true olds rans news h k (any refl))
  ends false olds rans news any h k = all_passed olds rans news h k

pub settled_of : (rings : List RingIs) (limit : ℕ) (stop : Bool) (ran : Ran) (new : Part) (made : ℕ) → ((n : ℕ) × (made ≡ ran.made + n) × CameAtWork rings ran.part n new) → HasNoWant new → made ≤ limit → ((stop ≡ true) ⊎ (Rests new ⊎ (made ≡ limit))) → SettledOf rings limit stop ran new
settled_of rings limit stop ran new made came fine within rests = record {
  more = came.0;
  within = subst (λ (z : ℕ). z ≤ limit) came.1 within;
  came = came.2;
  fine = fine;
  rests = subst (λ (z : ℕ). (stop ≡ true) ⊎ (Rests new ⊎ (z ≡ limit))) came.1 rests;
}

module _ (rings shared : List RingIs) (limit : ℕ) (is : shared ≡ rings) (stop : Bool) (olds : List Part) (rans : List Ran) (news : List Part) (h : Each (RanOf shared limit) olds rans) where
  pub all_lawful : Each (SettledOf shared limit stop) rans news → Each (LawfulOf rings limit) olds news
  all_lawful k = subst (λ (z : List RingIs). Each (LawfulOf z limit) olds news) is (each_then (RanOf shared limit) (SettledOf shared limit stop) (LawfulOf shared limit) (lawful shared limit stop) olds rans news h k)

  pub all_ended : (stop ≡ true → AnyOf (λ r. limit ≤ r.made) rans) → Each (SettledOf shared limit stop) rans news → Every Rests news ⊎ AnyPair (SpentOf rings limit) olds news
  all_ended any k = subst (λ (z : List RingIs). Every Rests news ⊎ AnyPair (SpentOf z limit) olds news) is (ends shared limit stop olds rans news any h k)
