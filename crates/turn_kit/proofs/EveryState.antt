-- What holds of each state of an end, at each need, on each side and after each answer: one test for each claim, which is
-- computed over all of them.
use Rattle.std.proofs.Common.{◌≡◌, ◌+◌, ◌≤◌, ◌&&◌, ◌||◌, Bool, true, false, not, nat_lt, Option, Some, None, refl, ap, arith}
use Rattle.std.proofs.lemmas.Bool.{ltb-true}
use Rattle.wire_core.specs.declared.names.Side.{Side}
use Rattle.wire_core.specs.declared.names.Side.TheVariants.{Forward, Backward}
use Rattle.wire_core.specs.declared.names.Op.TheVariants as Do
use Rattle.wire_core.specs.declared.names.Answer.{Answer}
use Rattle.wire_core.specs.declared.names.Answer.TheVariants.{Done, Yes, No}
use Rattle.wire_core.specs.declared.names.Waiter.{Waiter}
use Rattle.wire_core.specs.declared.names.Waiter.TheVariants as Wait
use Rattle.wire_core.specs.declared.names.Ringer.{Ringer}
use Rattle.wire_core.specs.declared.names.Ringer.TheVariants as Rung
use Rattle.wire_core.specs.Marks.{is_mark}
use Rattle.turn_kit.specs.declared.end_state.EndState.{EndState}
use Rattle.turn_kit.specs.Table.{next_op, state_after, is_settled}
use Rattle.turn_kit.specs.Calls.{may_answer, calls_left, settling_left, is_moving, is_waking}

pub and_left : (a b : Bool) → (a && b) ≡ true → a ≡ true
and_left true b h = refl
and_left false b h = cc

pub and_right : (a b : Bool) → (a && b) ≡ true → b ≡ true
and_right true b h = h
and_right false b h = cc

-- a test holds of each value of a type
abbrev all_bools : (Bool → Bool) → Bool
all_bools t = t true && t false

bools : (t : Bool → Bool) → all_bools t ≡ true → (b : Bool) → t b ≡ true
bools t h true = and_left (t true) (t false) h
bools t h false = and_right (t true) (t false) h

abbrev all_looks : (Option Bool → Bool) → Bool
all_looks t = t None && all_bools (λ b. t (Some b))

looks : (t : Option Bool → Bool) → all_looks t ≡ true → (l : Option Bool) → t l ≡ true
looks t h None = and_left (t None) (all_bools (λ b. t (Some b))) h
looks t h (Some b) = bools (λ b. t (Some b)) (and_right (t None) (all_bools (λ b. t (Some b))) h) b

abbrev all_four : Bool → Bool → Bool → Bool → Bool
all_four a b c d = (a && b) && (c && d)

abbrev all_waiters : (Waiter → Bool) → Bool
all_waiters t = all_four (t Wait.Busy) (t Wait.Asked) (t Wait.Clear) (t Wait.Off)

waiters : (t : Waiter → Bool) → all_waiters t ≡ true → (w : Waiter) → t w ≡ true
waiters t h Wait.Busy = and_left (t Wait.Busy) (t Wait.Asked) (and_left (t Wait.Busy && t Wait.Asked) (t Wait.Clear && t Wait.Off) h)
waiters t h Wait.Asked = and_right (t Wait.Busy) (t Wait.Asked) (and_left (t Wait.Busy && t Wait.Asked) (t Wait.Clear && t Wait.Off) h)
waiters t h Wait.Clear = and_left (t Wait.Clear) (t Wait.Off) (and_right (t Wait.Busy && t Wait.Asked) (t Wait.Clear && t Wait.Off) h)
waiters t h Wait.Off = and_right (t Wait.Clear) (t Wait.Off) (and_right (t Wait.Busy && t Wait.Asked) (t Wait.Clear && t Wait.Off) h)

abbrev all_ringers : (Ringer → Bool) → Bool
all_ringers t = all_four (t Rung.Free) (t Rung.Put) (t Rung.Hot) (t Rung.Ringing)

ringers : (t : Ringer → Bool) → all_ringers t ≡ true → (r : Ringer) → t r ≡ true
ringers t h Rung.Free = and_left (t Rung.Free) (t Rung.Put) (and_left (t Rung.Free && t Rung.Put) (t Rung.Hot && t Rung.Ringing) h)
ringers t h Rung.Put = and_right (t Rung.Free) (t Rung.Put) (and_left (t Rung.Free && t Rung.Put) (t Rung.Hot && t Rung.Ringing) h)
ringers t h Rung.Hot = and_left (t Rung.Hot) (t Rung.Ringing) (and_right (t Rung.Free && t Rung.Put) (t Rung.Hot && t Rung.Ringing) h)
ringers t h Rung.Ringing = and_right (t Rung.Hot) (t Rung.Ringing) (and_right (t Rung.Free && t Rung.Put) (t Rung.Hot && t Rung.Ringing) h)

abbrev all_sides : (Side → Bool) → Bool
all_sides t = t Forward && t Backward

sides : (t : Side → Bool) → all_sides t ≡ true → (s : Side) → t s ≡ true
sides t h Forward = and_left (t Forward) (t Backward) h
sides t h Backward = and_right (t Forward) (t Backward) h

abbrev all_answers : (Answer → Bool) → Bool
all_answers t = t Yes && (t No && t Done)

answers : (t : Answer → Bool) → all_answers t ≡ true → (a : Answer) → t a ≡ true
answers t h Yes = and_left (t Yes) (t No && t Done) h
answers t h No = and_left (t No) (t Done) (and_right (t Yes) (t No && t Done) h)
answers t h Done = and_right (t No) (t Done) (and_right (t Yes) (t No && t Done) h)

abbrev state : Ringer → Waiter → Option Bool → EndState
state r w l = record { waiter = w; ringer = r; look = l }

-- of each state of an end, where it is needed and where it isn't
abbrev all_states : (EndState → Bool → Bool) → Bool
all_states t = all_ringers (λ r. all_waiters (λ w. all_looks (λ l. all_bools (t (state r w l)))))

states : (t : EndState → Bool → Bool) → all_states t ≡ true → (k : EndState) (need : Bool) → t k need ≡ true
states t h k need =
    let by_ringer = ringers (λ r. all_waiters (λ w. all_looks (λ l. all_bools (t (state r w l))))) h k.ringer in
    let by_waiter = waiters (λ w. all_looks (λ l. all_bools (t (state k.ringer w l)))) by_ringer k.waiter in
    bools (t k) (looks (λ l. all_bools (t (state k.ringer k.waiter l))) by_waiter k.look) need

-- and of each next call, by its side and its answer
abbrev all_calls : (EndState → Bool → Side → Answer → Bool) → Bool
all_calls t = all_states (λ k need. all_sides (λ s. all_answers (t k need s)))

calls : (t : EndState → Bool → Side → Answer → Bool) → all_calls t ≡ true → (k : EndState) (need : Bool) (s : Side) (a : Answer) → t k need s a ≡ true
calls t h k need s a = answers (t k need s) (sides (λ s. all_answers (t k need s)) (states (λ k need. all_sides (λ s. all_answers (t k need s))) h k need) s) a

abbrev implies : Bool → Bool → Bool
implies a b = not a || b

follows : (a b : Bool) → implies a b ≡ true → a ≡ true → b ≡ true
follows true b h p = h
follows false b h p = cc

not_false : (b : Bool) → not b ≡ true → b ≡ false
not_false false h = refl
not_false true h = cc

both_true : (a b : Bool) → a ≡ true → b ≡ true → (a && b) ≡ true
both_true a b h g = cc

-- the state after the next call
abbrev then_state : EndState → Bool → Side → Answer → EndState
then_state k need s a = state_after k (next_op k s need) a

-- the next call is no mark, and may be answered so
abbrev is_plain : EndState → Bool → Side → Answer → Bool
is_plain k need s a = not (is_mark (next_op k s need) a) && may_answer (next_op k s need) a

abbrev brings_nearer : EndState → Bool → Side → Answer → Bool
brings_nearer k need s a = implies (not (is_settled k need) && is_plain k need s a) (nat_lt (calls_left (then_state k need s a) need) (calls_left k need))

abbrev brings_rest : EndState → Bool → Side → Answer → Bool
brings_rest k need s a =
    implies (not (is_settled k need) && is_plain k need s a)
    (is_moving (then_state k need s a) need || nat_lt (settling_left (then_state k need s a) need) (settling_left k need))

abbrev keeps_moving : EndState → Bool → Side → Answer → Bool
keeps_moving k need s a = implies (is_moving k need && is_plain k need s a) (is_moving (then_state k need s a) need)

abbrev wakes_next : EndState → Bool → Side → Answer → Bool
wakes_next k need s a = implies (is_settled k need && is_plain k need s a) (is_waking (then_state k need s a) need)

plain_if : (k : EndState) (need : Bool) (s : Side) (a : Answer) → is_mark (next_op k s need) a ≡ false → may_answer (next_op k s need) a ≡ true → is_plain k need s a ≡ true
plain_if k need s a m p = both_true (not (is_mark (next_op k s need) a)) (may_answer (next_op k s need) a) (ap not m) p

-- while an end isn't settled, each of its calls that is no mark brings it nearer
pub nearer : (k : EndState) (need : Bool) (s : Side) (a : Answer) → is_settled k need ≡ false → is_mark (next_op k s need) a ≡ false → may_answer (next_op k s need) a ≡ true → calls_left (then_state k need s a) need + 1 ≤ calls_left k need
nearer k need s a h m p =
    let less = ltb-true (calls_left (then_state k need s a) need) (calls_left k need) (follows _ _ (calls brings_nearer refl k need s a) (both_true (not (is_settled k need)) (is_plain k need s a) (ap not h) (plain_if k need s a m p))) in
    omega (arith, less)

-- and nearer to where it is settled, if it doesn't go on to move an entry
pub settles : (k : EndState) (need : Bool) (s : Side) (a : Answer) → is_settled k need ≡ false → is_mark (next_op k s need) a ≡ false → may_answer (next_op k s need) a ≡ true → is_moving (then_state k need s a) need ≡ false → settling_left (then_state k need s a) need + 1 ≤ settling_left k need
settles k need s a h m p g =
    let or_less = follows _ _ (calls brings_rest refl k need s a) (both_true (not (is_settled k need)) (is_plain k need s a) (ap not h) (plain_if k need s a m p)) in
    let less = ltb-true (settling_left (then_state k need s a) need) (settling_left k need) (other (is_moving (then_state k need s a) need) _ g or_less) in
    omega (arith, less)
  where
    other : (x y : Bool) → x ≡ false → (x || y) ≡ true → y ≡ true
    other false y e h = h
    other true y e h = cc

-- an end that saw that it can move an entry goes on so
pub moving_stays : (k : EndState) (need : Bool) (s : Side) (a : Answer) → is_moving k need ≡ true → is_mark (next_op k s need) a ≡ false → may_answer (next_op k s need) a ≡ true → is_moving (then_state k need s a) need ≡ true
moving_stays k need s a h m p = follows _ _ (calls keeps_moving refl k need s a) (both_true (is_moving k need) (is_plain k need s a) h (plain_if k need s a m p))

-- where an end is settled, its next call but one is a wake
pub settled_wakes : (k : EndState) (need : Bool) (s : Side) (a : Answer) → is_settled k need ≡ true → is_mark (next_op k s need) a ≡ false → may_answer (next_op k s need) a ≡ true → is_waking (then_state k need s a) need ≡ true
settled_wakes k need s a h m p = follows _ _ (calls wakes_next refl k need s a) (both_true (is_settled k need) (is_plain k need s a) h (plain_if k need s a m p))

-- at most 7 calls, and at most 6 until it is settled
pub seven : (k : EndState) (need : Bool) → calls_left k need ≤ 7
seven k need = let less = ltb-true (calls_left k need) 8 (states (λ k need. nat_lt (calls_left k need) 8) refl k need) in omega (arith, less)

pub six : (k : EndState) (need : Bool) → settling_left k need ≤ 6
six k need = let less = ltb-true (settling_left k need) 7 (states (λ k need. nat_lt (settling_left k need) 7) refl k need) in omega (arith, less)

pub moving_unsettled : (k : EndState) (need : Bool) → is_moving k need ≡ true → is_settled k need ≡ false
moving_unsettled k need h = not_false (is_settled k need) (follows (is_moving k need) (not (is_settled k need)) (states (λ k need. implies (is_moving k need) (not (is_settled k need))) refl k need) h)

pub waking_settled : (k : EndState) (need : Bool) → is_waking k need ≡ true → is_settled k need ≡ true
waking_settled k need h = follows (is_waking k need) (is_settled k need) (states (λ k need. implies (is_waking k need) (is_settled k need)) refl k need) h

-- an end that is waking makes a wake
pub waking_op : (k : EndState) (need : Bool) (s : Side) → is_waking k need ≡ true → next_op k s need ≡ Do.Wake s
waking_op k need s h = wakes k.ringer k.waiter need k.look h
  where
    wakes : (r : Ringer) (w : Waiter) (need : Bool) (l : Option Bool) → is_waking (state r w l) need ≡ true → next_op (state r w l) s need ≡ Do.Wake s
    wakes Rung.Free Wait.Clear need l h = refl
    wakes Rung.Free Wait.Off false l h = refl
    wakes Rung.Free Wait.Off true l h = cc
    wakes Rung.Free Wait.Busy true l h = cc
    wakes Rung.Free Wait.Busy false l h = cc
    wakes Rung.Free Wait.Asked true l h = cc
    wakes Rung.Free Wait.Asked false l h = cc
    wakes Rung.Put w need l h = cc
    wakes Rung.Hot w need l h = cc
    wakes Rung.Ringing w need l h = cc
