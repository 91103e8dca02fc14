use Rattle.std.proofs.Common.{◌≡◌, ℕ, false, List, ap, ◌∙◌, subst}
use Rattle.wire_core.specs.declared.names.Event.{Event}
use Rattle.wire_core.specs.Marks.{is_mark}
use Rattle.turn_kit.specs.Turns.{Turned, choice_of, chosen_place, last_after}
use Rattle.turn_kit.proofs.Turning.{no_mark_at}
use Rattle.turn_kit.specs.declared.pipe.Pipe.{Pipe}
use Rattle.pipe_driver.specs.Drivers.{PipesPosted, pipe_needs, pipes_round}
use Rattle.pipe_driver.proofs.Counting.{need_count}

-- one end was chosen, and then called
module _ (ps ps' : List Pipe) (last last' place : ℕ) (e : Event) (is : place ≡ chosen_place (choice_of (pipes_round ps last))) (then : last' ≡ last_after (choice_of (pipes_round ps last))) where
  turned : PipesPosted ps place e ps' → (is_mark e.op e.answer ≡ false → pipe_needs ps' ≡ pipe_needs ps) → Turned (pipes_round ps last) e (pipes_round ps' last')
  turned h still = record {
    place = place;
    need = h.need;
    is_chosen = is;
    needed = h.needed;
    posted = h.posted;
    needs = λ m. still (no_mark_at h.posted.post e m);
    size = need_count ps';
    last = then;
  }

  pub pipes_turned : (mid : List Pipe) → mid ≡ ps → PipesPosted mid place e ps' → (is_mark e.op e.answer ≡ false → pipe_needs ps' ≡ pipe_needs mid) → Turned (pipes_round ps last) e (pipes_round ps' last')
  pipes_turned mid same h still = turned (subst (λ (l : List Pipe). PipesPosted l place e ps') same h) (λ m. still m ∙ ap pipe_needs same)
