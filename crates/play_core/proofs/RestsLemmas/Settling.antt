use Rattle.std.proofs.Common.{◌≡◌, ◌+◌, ℕ, Bool, true, false, not, ◌&&◌, nat_lt, Option, Some, None, is_some, is_none, List, [], ◌∷◌, length, refl, sym, ap, ◌∙◌, arith}
use Rattle.std.specs.Option.{option_to_list}
use Rattle.std.proofs.lemmas.Bool.{lt-ltb, le-ltb}
use Rattle.std.proofs.lemmas.List.{length-map}
use Rattle.cargo_core.specs.declared.item.QueueKind.{QueueKind}
use Rattle.wire_core.specs.declared.names.Entry.{Entry}
use Rattle.wire_core.specs.Bells.{bit}
use Rattle.wire_core.specs.Deeds.{Cargo}
use Rattle.wire_core.specs.Ends.{Role, Consumer, Producer, End}
use Rattle.wire_core.specs.Queues.{Bells, Queue, queue_at, end_at, end_of}
use Rattle.wire_core.specs.Lists.{Passed}
use Rattle.wire_core.specs.Journal.{History}
use Rattle.wire_core.proofs.Moving.{there_if_owned}
use Rattle.turn_kit.specs.Table.{Agrees, is_settled}
use Rattle.turn_kit.specs.Turns.{Post, settled_all}
use Rattle.turn_kit.specs.declared.end_state.EndState.{EndState}
use Rattle.play_core.specs.Moved.{Moved}
use Rattle.play_core.specs.Wants.{Want, end_settled, bells_settled, want_settled, all_settled}
use Rattle.play_core.specs.Rests.Showing.{HaveItems, HaveBells}
use Rattle.play_core.specs.Rests.Meeting.{Met, Meet}

pub both : {a b c d : Bool} → a ≡ b → c ≡ d → (a && c) ≡ (b && d)
both e f = cc

state_settled : (e : End) (k : EndState) (need : Bool) → Agrees e k → is_settled k need ≡ end_settled e.waiter e.ringer need
state_settled e k need a = rw (a.ringer, a.waiter) refl

same_settled : (mine : Bool) (k : QueueKind) (b : Bells) (r : Role) (need : Bool) → end_settled (end_of mine k b r).waiter (end_of mine k b r).ringer need ≡ bells_settled b r need
same_settled mine k b Consumer need = refl
same_settled mine k b Producer need = refl

module _ (history : History) (journal : List Entry) (w : List Queue) (bells : HaveBells w history journal) where
  -- an end is settled where the one that is wanted is
  pub settled_here : (p : Post) (need : Bool) (x : Want) → Met (end_at w) p need x → is_settled p.state need ≡ want_settled history journal x
  settled_here p need x m =
      ap (is_settled p.state) m.needs
      ∙ (state_settled (end_at w x.role x.queue) p.state x.need m.agrees
      ∙ (same_settled (nat_lt x.queue (length w)) (queue_at w x.queue).kind (queue_at w x.queue).bells x.role x.need
      ∙ ap (λ b. bells_settled b x.role x.need) (bells x.queue (there_if_owned w x.role x.queue m.agrees.owned))))

  -- and so are all
  pub all_here : (ps : List Post) (needs : List Bool) (ws : List Want) → Meet (end_at w) ps needs ws → settled_all ps needs ≡ all_settled history journal ws
  all_here [] [] [] m = refl
  all_here [] [] (x ∷ ws) m = absurd m
  all_here [] (n ∷ ns) ws m = absurd m
  all_here (p ∷ ps) [] ws m = absurd m
  all_here (p ∷ ps) (n ∷ ns) [] m = absurd m
  all_here (p ∷ ps) (n ∷ ns) (x ∷ ws) m = both (settled_here p n x m.0) (all_here ps ns ws m.1)

-- how many passed
module _ (passed : Passed) (m : Moved) (h : HaveItems passed m) where
  pub took : (n : ℕ) → length (passed.taken n) ≡ length (m.taken n)
  took n = sym (length-map (passed.taken n) (λ (c : Cargo). c.0)) ∙ ap (λ l. length l) (h.taken n)

  pub put : (n : ℕ) → length (passed.sent n) ≡ length (m.sent n)
  put n = sym (length-map (passed.sent n) (λ (c : Cargo). c.0)) ∙ ap (λ l. length l) (h.sent n)

pub none_is : (load : Option Cargo) → is_none load ≡ not (is_some load)
none_is None = refl
none_is (Some c) = refl

-- an entry is in hand where fewer went than came
pub held_is : (load : Option Cargo) (n m : ℕ) → n + length (option_to_list load) ≡ m → is_some load ≡ nat_lt n m
held_is None n m e = sym (le-ltb n m (omega (arith, e)))
held_is (Some c) n m e = sym (lt-ltb n m (omega (arith, e)))

-- the same of one that is owed or not
pub bit_is : (b : Bool) (n m : ℕ) → n + bit b ≡ m → b ≡ nat_lt n m
bit_is true n m e = sym (lt-ltb n m (omega (arith, e)))
bit_is false n m e = sym (le-ltb n m (omega (arith, e)))
