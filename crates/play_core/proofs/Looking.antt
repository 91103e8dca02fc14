use Rattle.std.proofs.Common.{◌≡◌, ◌==◌, ◌+◌, ◌≤◌, ◌&&◌, ◌||◌, ◌++◌, ℕ, Bool, true, false, List, [], ◌∷◌, refl, sym, ap, ◌∙◌, arith}
use Rattle.wire_core.specs.declared.names.Entry.{Entry}
use Rattle.wire_core.specs.declared.names.Event.{Event}
use Rattle.wire_core.specs.declared.names.Op.{Op}
use Rattle.wire_core.specs.declared.names.Op.TheVariants as Do
use Rattle.cargo_core.specs.declared.act.Word.TheVariants as Words
use Rattle.wire_core.specs.declared.names.Answer.{Answer}
use Rattle.wire_core.specs.declared.names.Answer.TheVariants.{Done, Yes, No}
use Rattle.wire_core.specs.declared.names.Side.TheVariants.{Forward, Backward}
use Rattle.wire_core.specs.Bells.{bit}
use Rattle.wire_core.specs.Ends.{Role, Consumer, Producer, role_of}
use Rattle.wire_core.specs.Fates.{is_vain_at, noes_at}
use Rattle.wire_core.specs.Journal.{History, Tally, Track, history_at, if_on, tally_after, track, track_after, track_from}
use Rattle.wire_core.specs.Marks.{dropped, is_role, is_vain_look}
use Rattle.wire_core.proofs.Fating.{noes_more}
use Rattle.wire_core.proofs.Tracks.{track_from-append}
use Rattle.play_core.specs.Looks.{drops_at, events_of, noes_together}
use Rattle.play_core.specs.Moved.{Seat, moved, noes_of}

-- one call more in an end's tally
tally_noes : (y : Tally) (mine : Role) (o : Op) (a : Answer) → (tally_after y mine (role_of o) o a).noes ≡ y.noes + bit (is_vain_look o a && is_role (role_of o) mine)
tally_noes y Consumer Do.See Yes = omega arith
tally_noes y Consumer Do.See No = omega arith
tally_noes y Consumer Do.See Done = omega arith
tally_noes y Consumer Do.Room Yes = omega arith
tally_noes y Consumer Do.Room No = omega arith
tally_noes y Consumer Do.Room Done = omega arith
tally_noes y Consumer Do.Take a = omega arith
tally_noes y Consumer Do.Put a = omega arith
tally_noes y Consumer (Do.Ask Forward) a = omega arith
tally_noes y Consumer (Do.Ask Backward) a = omega arith
tally_noes y Consumer (Do.Waive Forward) a = omega arith
tally_noes y Consumer (Do.Waive Backward) a = omega arith
tally_noes y Consumer (Do.Wake Forward) a = omega arith
tally_noes y Consumer (Do.Wake Backward) a = omega arith
tally_noes y Consumer (Do.Wanted Forward) a = omega arith
tally_noes y Consumer (Do.Wanted Backward) a = omega arith
tally_noes y Consumer (Do.Settle Forward) a = omega arith
tally_noes y Consumer (Do.Settle Backward) a = omega arith
tally_noes y Consumer (Do.Ring Forward) a = omega arith
tally_noes y Consumer (Do.Ring Backward) a = omega arith
tally_noes y Consumer (Do.Store Words.Head v) a = omega arith
tally_noes y Consumer (Do.Store Words.Tail v) a = omega arith
tally_noes y Consumer (Do.Store Words.Flag v) a = omega arith
tally_noes y Consumer (Do.Store Words.FlagBack v) a = omega arith
tally_noes y Consumer (Do.Store Words.Pending v) a = omega arith
tally_noes y Consumer (Do.Store Words.PendingBack v) a = omega arith
tally_noes y Producer Do.See Yes = omega arith
tally_noes y Producer Do.See No = omega arith
tally_noes y Producer Do.See Done = omega arith
tally_noes y Producer Do.Room Yes = omega arith
tally_noes y Producer Do.Room No = omega arith
tally_noes y Producer Do.Room Done = omega arith
tally_noes y Producer Do.Take a = omega arith
tally_noes y Producer Do.Put a = omega arith
tally_noes y Producer (Do.Ask Forward) a = omega arith
tally_noes y Producer (Do.Ask Backward) a = omega arith
tally_noes y Producer (Do.Waive Forward) a = omega arith
tally_noes y Producer (Do.Waive Backward) a = omega arith
tally_noes y Producer (Do.Wake Forward) a = omega arith
tally_noes y Producer (Do.Wake Backward) a = omega arith
tally_noes y Producer (Do.Wanted Forward) a = omega arith
tally_noes y Producer (Do.Wanted Backward) a = omega arith
tally_noes y Producer (Do.Settle Forward) a = omega arith
tally_noes y Producer (Do.Settle Backward) a = omega arith
tally_noes y Producer (Do.Ring Forward) a = omega arith
tally_noes y Producer (Do.Ring Backward) a = omega arith
tally_noes y Producer (Do.Store Words.Head v) a = omega arith
tally_noes y Producer (Do.Store Words.Tail v) a = omega arith
tally_noes y Producer (Do.Store Words.Flag v) a = omega arith
tally_noes y Producer (Do.Store Words.FlagBack v) a = omega arith
tally_noes y Producer (Do.Store Words.Pending v) a = omega arith
tally_noes y Producer (Do.Store Words.PendingBack v) a = omega arith

one_noes : (r : Role) (t : Track) (e : Event) → noes_of r (track_after t e) ≡ noes_of r t + bit (is_vain_look e.op e.answer && is_role (role_of e.op) r)
one_noes Consumer t e = tally_noes t.consumer Consumer e.op e.answer
one_noes Producer t e = tally_noes t.producer Producer e.op e.answer

-- one entry more, at this queue or another
on_noes : (r : Role) (t : Track) (e : Event) (b : Bool) → noes_of r (if_on b (track_after t e) t) ≡ noes_of r t + bit (is_vain_look e.op e.answer && (is_role (role_of e.op) r && b))
on_noes r t e true = one_noes r t e ∙ ap (λ x. noes_of r t + bit (is_vain_look e.op e.answer && x)) (sym (and_true (is_role (role_of e.op) r)))
  where
    and_true : (x : Bool) → (x && true) ≡ x
    and_true true = refl
    and_true false = refl
on_noes r t e false = let n = ap bit (none (is_vain_look e.op e.answer) (is_role (role_of e.op) r)) in omega (arith, n)
  where
    none : (x y : Bool) → (x && (y && false)) ≡ false
    none true true = refl
    none true false = refl
    none false y = refl

track_noes : (r : Role) (n : ℕ) (t : Track) (journal : List Entry) → noes_of r (track_from t n journal) ≡ noes_of r t + noes_at r n (events_of journal)
track_noes r n t [] = omega arith
track_noes r n t (e ∷ es) =
    let rest = track_noes r n (if_on (e.event.queue.0 == n) (track_after t e.event) t) es in
    let one = on_noes r t e.event (e.event.queue.0 == n) in
    omega (arith, rest, one)

pub track_looks : (r : Role) (n : ℕ) (history : History) (journal : List Entry) → noes_of r (track history n journal) ≡ noes_of r (history_at history n) + noes_at r n (events_of journal)
track_looks r n history journal = track_noes r n (history_at history n) journal

pub one_look : (r : Role) (n : ℕ) (history : History) (journal : List Entry) (e : Entry) → noes_of r (track history n (journal ++ e ∷ [])) ≡ noes_of r (track history n journal) + bit (is_vain_at r n e.event)
one_look r n history journal e =
    ap (noes_of r) (track_from-append (history_at history n) n journal e)
    ∙ on_noes r (track history n journal) e.event (e.event.queue.0 == n)

pub looks_kept : (r : Role) (n : ℕ) (history : History) (journal : List Entry) (e : Entry) (calls : List Event) → noes_at r n calls ≡ noes_of r (track history n journal) → noes_at r n (calls ++ e.event ∷ []) ≡ noes_of r (track history n (journal ++ e ∷ []))
looks_kept r n history journal e calls same =
    noes_more r n calls e.event ∙ (ap (λ x. x + bit (is_vain_at r n e.event)) same ∙ sym (one_look r n history journal e))

-- looks in vain that calls made at these ends, together
abbrev called_together : List Seat → List Event → ℕ
called_together [] calls = 0
called_together (s ∷ seats) calls = noes_at s.role s.queue calls + called_together seats calls

drops_few : (seats : List Seat) (journal : List Entry) → dropped (drops_at seats) journal ≤ called_together seats (events_of journal)
drops_few seats [] = omega arith
drops_few seats (e ∷ es) =
    let rest = drops_few seats es in
    let one = split seats e es in
    omega (arith, rest, one)
  where
    either : (a b : Bool) → bit (a || b) ≤ bit a + bit b
    either true b = omega arith
    either false b = omega arith

    split : (seats : List Seat) (e : Entry) (es : List Entry) → bit (drops_at seats e) + called_together seats (events_of es) ≤ called_together seats (events_of (e ∷ es))
    split [] e es = omega arith
    split (s ∷ ss) e es =
        let r = split ss e es in
        let b = either (is_vain_at s.role s.queue e.event) (drops_at ss e) in
        omega (arith, r, b)

called_few : (seats : List Seat) (history : History) (journal : List Entry) → called_together seats (events_of journal) ≤ noes_together seats (moved history journal)
called_few [] history journal = omega arith
called_few (s ∷ seats) history journal =
    let rest = called_few seats history journal in
    let one = track_looks s.role s.queue history journal in
    omega (arith, rest, one)

pub drops_within : (seats : List Seat) (history : History) (journal : List Entry) → dropped (drops_at seats) journal ≤ noes_together seats (moved history journal)
drops_within seats history journal =
    let a = drops_few seats journal in
    let b = called_few seats history journal in
    omega (arith, a, b)
