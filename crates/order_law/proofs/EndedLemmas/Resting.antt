-- An actor at ends that it gave up was at rest where the tracks say so: with its looks on them, the
-- queues that are left are its ends as they were.
use Rattle.std.proofs.Common.{◌≡◌, ◌<◌, ◌+◌, ℕ, zero, suc, Bool, ◌&&◌, nat_lt, List, [], ◌∷◌, length, refl, sym, ap, ◌∙◌, subst, arith}
use Rattle.wire_core.specs.declared.names.BellState.{BellState}
use Rattle.wire_core.specs.Ends.{Role, Consumer, Producer, End}
use Rattle.wire_core.specs.Journal.{Track, History, history_at}
use Rattle.wire_core.specs.Lists.{Passed}
use Rattle.wire_core.specs.Queues.{Bells, Queue, queue_at, end_at, end_of}
use Rattle.play_core.specs.Moved.{Moved, moved, noes_of}
use Rattle.play_core.specs.Names.{Names, Wild}
use Rattle.play_core.specs.Sheets.{Scene}
use Rattle.play_core.specs.Wants.{Want, all_settled, bells_settled, end_settled}
use Rattle.play_core.specs.Rests.Showing.{HaveItems, HaveBells}
use Rattle.play_core.specs.Manners.{Calm}
use Rattle.actor_set.specs.Actors.{FitsActor, ActorStandsFor, ActorEnd, part_of, actor_rests}
use Rattle.actor_set.specs.Laws.Kinds.{manner_of}
use Rattle.actor_set.specs.Laws.Scenes.{ToldInTurn, told_sheet}
use Rattle.actor_set.proofs.LawsLemmas.Beside.{fits_beside}
use Rattle.actor_set.proofs.LawsLemmas.ToldRows.{told_rests}
use Rattle.actor_set.specs.Adopting.Looks.{SameButLook}
use Rattle.order_law.specs.ActorParts.Parting.{Apart, apart_end}

module _ (looks : Role → ℕ → Bool) where
  -- bells with these looks
  abbrev with_looks : ℕ → Bells → Bells
  with_looks k b = record b { seen = looks Consumer k; roomed = looks Producer k }

  abbrev looked : ℕ → Queue → Queue
  looked k q = record q { bells = with_looks k q.bells }

  abbrev told : ℕ → Track → Track
  told k t = record t { bells = with_looks k t.bells }

  -- of queues and tracks from a number on
  abbrev looked_from : ℕ → List Queue → List Queue
  looked_from k [] = []
  looked_from k (q ∷ qs) = looked k q ∷ looked_from (k + 1) qs

  abbrev told_from : ℕ → History → History
  told_from k [] = []
  told_from k (t ∷ ts) = told k t ∷ told_from (k + 1) ts

  looked_long : (k : ℕ) (w : List Queue) → length (looked_from k w) ≡ length w
  looked_long k [] = refl
  looked_long k (q ∷ qs) = ap suc (looked_long (k + 1) qs)

  further : (k n : ℕ) → (k + 1) + n ≡ k + suc n
  further k n = omega arith

  looked_at : (k n : ℕ) (w : List Queue) → n < length w → queue_at (looked_from k w) n ≡ looked (k + n) (queue_at w n)
  looked_at k n [] lt = absurd (omega (arith, lt))
  looked_at k zero (q ∷ qs) lt = ap (λ m. looked m q) (let e : k ≡ k + 0 = omega arith in e)
  looked_at k (suc n) (q ∷ qs) lt = looked_at (k + 1) n qs (omega (arith, lt)) ∙ ap (λ m. looked m (queue_at qs n)) (further k n)

  told_at : (k n : ℕ) (ts : History) → n < length ts → history_at (told_from k ts) n ≡ told (k + n) (history_at ts n)
  told_at k n [] lt = absurd (omega (arith, lt))
  told_at k zero (t ∷ ts) lt = ap (λ m. told m t) (let e : k ≡ k + 0 = omega arith in e)
  told_at k (suc n) (t ∷ ts) lt = told_at (k + 1) n ts (omega (arith, lt)) ∙ ap (λ m. told m (history_at ts n)) (further k n)

  -- all else stays at each number
  sent_stays : (k n : ℕ) (ts : History) → (history_at (told_from k ts) n).sent ≡ (history_at ts n).sent
  sent_stays k n [] = refl
  sent_stays k zero (t ∷ ts) = refl
  sent_stays k (suc n) (t ∷ ts) = sent_stays (k + 1) n ts

  taken_stays : (k n : ℕ) (ts : History) → (history_at (told_from k ts) n).taken ≡ (history_at ts n).taken
  taken_stays k n [] = refl
  taken_stays k zero (t ∷ ts) = refl
  taken_stays k (suc n) (t ∷ ts) = taken_stays (k + 1) n ts

  forward_stays : (k n : ℕ) (ts : History) → (history_at (told_from k ts) n).bells.forward ≡ (history_at ts n).bells.forward
  forward_stays k n [] = refl
  forward_stays k zero (t ∷ ts) = refl
  forward_stays k (suc n) (t ∷ ts) = forward_stays (k + 1) n ts

  backward_stays : (k n : ℕ) (ts : History) → (history_at (told_from k ts) n).bells.backward ≡ (history_at ts n).bells.backward
  backward_stays k n [] = refl
  backward_stays k zero (t ∷ ts) = refl
  backward_stays k (suc n) (t ∷ ts) = backward_stays (k + 1) n ts

  noes_stay : (r : Role) (k n : ℕ) (ts : History) → noes_of r (history_at (told_from k ts) n) ≡ noes_of r (history_at ts n)
  noes_stay r k n [] = refl
  noes_stay Consumer k zero (t ∷ ts) = refl
  noes_stay Producer k zero (t ∷ ts) = refl
  noes_stay r k (suc n) (t ∷ ts) = noes_stay r (k + 1) n ts

  moved_stays : (ts : History) → moved (told_from 0 ts) [] ≡ moved ts []
  moved_stays ts = λ i. record { sent = λ n. sent_stays 0 n ts i; taken = λ n. taken_stays 0 n ts i; noes = λ r n. noes_stay r 0 n ts i }

  bell_settled : (a b : Bells) → a.forward ≡ b.forward → a.backward ≡ b.backward → (r : Role) (need : Bool) → bells_settled a r need ≡ bells_settled b r need
  bell_settled a b f g Consumer need = ap (λ (x : BellState). end_settled x.waiter a.backward.ringer need) f ∙ ap (λ (x : BellState). end_settled b.forward.waiter x.ringer need) g
  bell_settled a b f g Producer need = ap (λ (x : BellState). end_settled x.waiter a.forward.ringer need) g ∙ ap (λ (x : BellState). end_settled b.backward.waiter x.ringer need) f

  settled_stays : (ts : History) (ws : List Want) → all_settled (told_from 0 ts) [] ws ≡ all_settled ts [] ws
  settled_stays ts [] = refl
  settled_stays ts (w ∷ ws) = both (bell_settled (history_at (told_from 0 ts) w.queue).bells (history_at ts w.queue).bells (forward_stays 0 w.queue ts) (backward_stays 0 w.queue ts) w.role w.need) (settled_stays ts ws)
    where
      both : {a b c d : Bool} → a ≡ b → c ≡ d → (a && c) ≡ (b && d)
      both e f = cc

  bells_stay : (w : List Queue) (ts : History) → length ts ≡ length w → HaveBells w ts [] → HaveBells (looked_from 0 w) (told_from 0 ts) []
  bells_stay w ts long have n lt =
      let below : n < length w = (let l = looked_long 0 w in omega (arith, lt, l)) in
      ap (λ (q : Queue). q.bells) (looked_at 0 n w below) ∙ (ap (with_looks (0 + n)) (have n below) ∙ sym (ap (λ (t : Track). t.bells) (told_at 0 n ts (omega (arith, below, long)))))

  end_looked : (w : List Queue) (r : Role) (n : ℕ) → n < length w → end_at (looked_from 0 w) r n ≡ record (end_at w r n) { looked = looks r n }
  end_looked w r n lt = ap (λ (b : ℕ). end_of (nat_lt n b) (queue_at (looked_from 0 w) n).kind (queue_at (looked_from 0 w) n).bells r) (looked_long 0 w) ∙ (ap (λ (q : Queue). end_of (nat_lt n (length w)) q.kind q.bells r) (looked_at 0 n w lt ∙ ap (λ m. looked m (queue_at w n)) (let e : 0 + n ≡ n = omega arith in e)) ∙ by r)
    where
      by : (r : Role) → end_of (nat_lt n (length w)) (queue_at w n).kind (with_looks n (queue_at w n).bells) r ≡ record (end_at w r n) { looked = looks r n }
      by Consumer = refl
      by Producer = refl

same_looked : (e e' : End) → SameButLook e e' → record e' { looked = e.looked } ≡ e
same_looked e e' same = λ i. record { owned = same.owned i; kind = same.kind i; waiter = same.waiter i; ringer = same.ringer i; looked = e.looked }

-- where an actor's ends were those of these queues, but for its looks, it was at rest where the
-- tracks say so
pub rests_left : (w : List Queue) (ts : History) → length ts ≡ length w → HaveBells w ts [] → (scene : Scene) (wild : Wild) (names : Names) (p : Apart) (passed : Passed) → ((r : Role) (n : ℕ) → ActorEnd p.actor r n → (n < length w) × SameButLook (apart_end p r n) (end_at w r n)) → FitsActor (apart_end p) p.actor → manner_of (part_of p.actor) ≡ Calm → ToldInTurn scene wild names p.actor passed → ActorStandsFor p.actor passed → HaveItems passed (moved ts []) → actor_rests p.actor ≡ all_settled ts [] ((told_sheet scene wild names (part_of p.actor)).wants (moved ts []))
rests_left w ts long have scene wild names p passed same fits calm turn stands items =
    let looks : Role → ℕ → Bool = λ r n. (apart_end p r n).looked in
    let w' : List Queue = looked_from looks 0 w in
    let ts' : History = told_from looks 0 ts in
    let m : moved ts' [] ≡ moved ts [] = moved_stays looks ts in
    let fits' : FitsActor (end_at w') p.actor = fits_beside (apart_end p) (end_at w') p.actor (λ r n own. (let s = same r n own in end_looked looks w r n s.0 ∙ same_looked (apart_end p r n) (end_at w r n) s.1)) fits in
    told_rests scene wild names passed ts' [] w' (bells_stay looks w ts long have) (subst (HaveItems passed) (sym m) items) p.actor calm turn fits' stands
    ∙ (settled_stays looks ts ((told_sheet scene wild names (part_of p.actor)).wants (moved ts' [])) ∙ ap (λ (z : Moved). all_settled ts [] ((told_sheet scene wild names (part_of p.actor)).wants z)) m)
