-- What goes round on closed queues.
use Rattle.std.proofs.Common.{◌≡◌, ◌⊎◌, ◌≤◌, ◌+◌, ◌++◌, ◌==◌, ℕ, Bool, true, false, List, [], ◌∷◌, inl, inr, refl, sym, ap, ◌∙◌, arith}
use Rattle.std.proofs.lemmas.List.{append-nil}
use Rattle.cargo_core.specs.Lists.{IsPrefix}
use Rattle.cargo_core.specs.declared.item.Body.{Body}
use Rattle.wire_core.specs.declared.names.Op.{Op}
use Rattle.wire_core.specs.declared.names.Op.TheVariants as Do
use Rattle.wire_core.specs.Deeds.{Deed, Cargo, cargo_of}
use Rattle.wire_core.specs.Lists.{Lists, Passed, if_there, if_put, if_taken, nothing_passed, put_by, taken_by, with, with_deed}
use Rattle.turn_kit.specs.Hands.{bodies_of, bodies_at}
use Rattle.buffer_kit.specs.Conserving.{Count, counted, weighed}
use Rattle.buffer_kit.specs.Pools.{page_bodies}
use Rattle.buffer_kit.proofs.Conserving.{counted-at, weighed-append}
use Rattle.client_programs.specs.declared.rogue.Rogue.{Rogue}
use Rattle.client_programs.specs.Rogue.Clients.{RogueStandsFor, numbers}
use Rattle.wired_law.specs.PageLaw.WildPages.Rounds.{IsClosed, put_there, taken_there}

pub starts : (f : Count) (queues : List ℕ) → put_there f nothing_passed queues ≡ 0
starts f [] = refl
starts f (n ∷ ns) = starts f ns

-- a call puts nothing, or takes nothing
one_way : (o : Op) → ((c : List Cargo) → if_put o c ≡ []) ⊎ ((c : List Cargo) → if_taken o c ≡ [])
one_way Do.Put = inr (λ c. refl)
one_way Do.Take = inl (λ c. refl)
one_way Do.See = inl (λ c. refl)
one_way Do.Room = inl (λ c. refl)
one_way (Do.Ask s) = inl (λ c. refl)
one_way (Do.Waive s) = inl (λ c. refl)
one_way (Do.Wake s) = inl (λ c. refl)
one_way (Do.Wanted s) = inl (λ c. refl)
one_way (Do.Settle s) = inl (λ c. refl)
one_way (Do.Ring s) = inl (λ c. refl)
one_way (Do.Store w v) = inl (λ c. refl)

nothing : (b : Bool) (c : List Cargo) → c ≡ [] → if_there b c ≡ []
nothing true c none = none
nothing false c none = refl

-- where nothing more came to lists, they weigh the same
still : (f : Count) (old more : Lists) → ((n : ℕ) → more n ≡ []) → (ns : List ℕ) → counted f (bodies_at (with old more) ns) ≡ counted f (bodies_at old ns)
still f old more none [] = refl
still f old more none (n ∷ ns) =
    let here : weighed f (old n ++ more n) ≡ weighed f (old n) = ap (λ c. weighed f (old n ++ c)) (none n) ∙ ap (weighed f) (append-nil (old n)) in
    omega (arith, counted-at f (with old more) n ns, counted-at f old n ns, here, still f old more none ns)

-- what was taken weighs no more than what was put
pub fewer : (f : Count) (passed : Passed) → ((n : ℕ) → IsPrefix (passed.taken n) (passed.sent n)) → (ns : List ℕ) → taken_there f passed ns ≤ put_there f passed ns
fewer f passed begins [] = omega arith
fewer f passed begins (n ∷ ns) =
    let b = begins n in
    let here : weighed f (passed.sent n) ≡ weighed f (passed.taken n) + weighed f b.0 = ap (weighed f) (sym b.1) ∙ weighed-append f (passed.taken n) b.0 in
    omega (arith, counted-at f passed.taken n ns, counted-at f passed.sent n ns, here, fewer f passed begins ns)

pub goes_on : (f : Count) (queues : List ℕ) (passed : Passed) (d : Deed) → ((n : ℕ) → IsPrefix (passed.taken n) (passed.sent n)) → IsClosed f queues (with_deed passed d) → put_there f passed queues ≡ 0 → put_there f (with_deed passed d) queues ≡ 0
goes_on f queues passed d begins closed none = by (one_way d.event.op)
  where
    by : ((c : List Cargo) → if_put d.event.op c ≡ []) ⊎ ((c : List Cargo) → if_taken d.event.op c ≡ []) → put_there f (with_deed passed d) queues ≡ 0
    by (inl quiet) = still f passed.sent (put_by d) (λ n. nothing (d.event.queue.0 == n) (if_put d.event.op (cargo_of d)) (quiet (cargo_of d))) queues ∙ none
    by (inr quiet) =
        let same : taken_there f (with_deed passed d) queues ≡ taken_there f passed queues = still f passed.taken (taken_by d) (λ n. nothing (d.event.queue.0 == n) (if_taken d.event.op (cargo_of d)) (quiet (cargo_of d))) queues in
        omega (arith, closed, same, fewer f passed begins queues, none)

-- what a hostile client takes of what wasn't put, it doesn't keep
pub keeps : (f : Count) (r : Rogue) (passed : Passed) → RogueStandsFor r passed → ((n : ℕ) → IsPrefix (passed.taken n) (passed.sent n)) → counted f (page_bodies r.start.value.items) ≡ 0 → put_there f passed (numbers r.inputs.items) ≡ 0 → counted f r.kept.items ≡ 0
keeps f r passed stands begins start none = omega (arith, stands f, fewer f passed begins (numbers r.inputs.items), start, none)
