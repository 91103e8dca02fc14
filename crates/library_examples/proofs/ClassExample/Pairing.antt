use Rattle.std.proofs.Common.{◌≡◌, ◌⊎◌, ◌<◌, ◌≤◌, ◌+◌, ◌++◌, append_assoc, ℕ, Bool, true, false, nat_lt, Some, List, [], ◌∷◌, length, length-append, length-take, map, take, drop, slice_get, refl, sym, ap, ◌∙◌, subst, arith, zero, suc, min, inl, inr}
use Rattle.std.proofs.lemmas.List.{append-nil, length-map, take_all, take-append-drop}
use Rattle.std.proofs.lemmas.Bool.{lt-ltb}
use Rattle.std.proofs.lemmas.Nat.{pow_pos}
use Rattle.std.specs.List.{All}
use Rattle.cargo_core.specs.Capacities.{IsCapacity}
use Rattle.cargo_core.specs.Lists.{IsPrefix}
use Rattle.cargo_core.specs.declared.item.Item.{Item}
use Rattle.wire_core.specs.declared.names.QueueRow.{QueueRow}
use Rattle.wire_core.specs.declared.names.Entry.{Entry}
use Rattle.wire_core.specs.Deeds.{Cargo}
use Rattle.wire_core.specs.Ends.{Consumer, Producer}
use Rattle.wire_core.specs.Lists.{Passed}
use Rattle.wire_core.specs.Queues.{Queue, queue_at, end_at, items_of}
use Rattle.wire_core.specs.Journal.{History, Hostiles, track, start_history, is_calm, owner_of}
use Rattle.turn_kit.specs.Table.{Agrees}
use Rattle.turn_kit.specs.Turns.{Post, is_at_rest, settled_all}
use Rattle.turn_kit.specs.Posts.{intake_post, outlet_post}
use Rattle.play_core.specs.Moved.{Moved, moved}
use Rattle.play_core.specs.Wants.{Want, Needful, all_settled, intake_want, outlet_want}
use Rattle.play_core.specs.Manners.{Manners, hostile_by}
use Rattle.play_core.specs.Rests.Showing.{HaveBells}
use Rattle.play_core.specs.Rests.Meeting.{Meet}
use Rattle.play_core.specs.Resting.{QueueRests}
use Rattle.play_core.specs.Still as Stillness
use Rattle.play_core.proofs.Lists.{some_is, map_from, there_is, there_below}
use Rattle.class_expect.specs.SerialSwitch.Carried.{byte_cargo, bytes_carried}
use Rattle.small_system.specs.Tales.{Moment, Turn, start_of, IsTale, after_tale, journal_of, passed_by, running_in}
use Rattle.small_system.specs.Standing.{Begins, Holds}
use Rattle.small_system.specs.Shows.{Shown, IsTold}
use Rattle.small_system.specs.Wants.{Wanting, calls_in, wanted_by, calm, RestsBy}
use Rattle.library_examples.specs.declared.class_example.source.Source.{Source}
use Rattle.library_examples.specs.declared.class_example.joiner.Joiner.{Joiner}
use Rattle.library_examples.specs.declared.class_example.joiner.Claim.{Claim}
use Rattle.library_examples.specs.declared.class_example.joiner.Claim.TheVariants.{Open, First, Second}
use Rattle.library_examples.specs.declared.class_example.member.Member.{Member}
use Rattle.library_examples.specs.declared.class_example.member.Member.TheVariants as Members
use Rattle.library_examples.specs.ClassExample.Sources.{FitsSource, SourceStandsFor}
use Rattle.library_examples.specs.ClassExample.Joiners.{FitsJoiner, JoinerStandsFor, wants_first, wants_second, claim_by}
use Rattle.library_examples.specs.ClassExample.Members.{Made, Says, Joins, made_of, member_round, member_means}
use Rattle.library_examples.specs.ClassExample.Pairs.{pair_of, pair_wants, said_by, Keeps}
use Rattle.library_examples.proofs.ClassExample.Speech.{bytes_said, bytes_join}

-- The joiner keeps to one input: drawn from the clauses of the laws alone.

-- the clauses on which the theorem stands
pub record Laws : Type 0 where
  pub last : (rows : List QueueRow) (start : List Member) (turns : List (Turn Member)) → Begins member_means rows start → IsTale member_means (start_of rows start) turns → Holds member_means rows (after_tale (start_of rows start) turns) (passed_by turns) (journal_of turns)
  pub count : (moment : Moment Member) (turns : List (Turn Member)) → IsTale member_means moment turns → length (after_tale moment turns).actors ≡ length moment.actors
  pub parts : (moment : Moment Member) (turns : List (Turn Member)) → IsTale member_means moment turns → (k : ℕ) (x y : Member) → slice_get moment.actors k ≡ Some x → slice_get (after_tale moment turns).actors k ≡ Some y → made_of y ≡ made_of x
  pub bells : (rows : List QueueRow) (moment : Moment Member) (passed : Passed) (journal : List Entry) → Holds member_means rows moment passed journal → HaveBells moment.world (start_history rows) journal
  pub quiet : (wants : Wanting) (rows : List QueueRow) (start : List Member) (turns : List (Turn Member)) → Begins member_means rows start → IsTale member_means (start_of rows start) turns → RestsBy member_means wants rows (after_tale (start_of rows start) turns) (journal_of turns) → running_in member_means (after_tale (start_of rows start) turns) ≡ [] → Stillness.IsQuiet calm (start_history rows) rows (wanted_by wants rows (length start) (journal_of turns)) (journal_of turns)
  pub rest : (history : History) (journal : List Entry) (world : List Queue) (posts : List Post) (needs : List Bool) (wants : List Want) → HaveBells world history journal → Meet (end_at world) posts needs wants → settled_all posts needs ≡ all_settled history journal wants
  pub still : (manner : Manners) (history : History) (rows : List QueueRow) (actors : Needful) (journal : List Entry) → Stillness.IsQuiet manner history rows actors journal → Stillness.IsStill (hostile_by manner) history rows actors journal
  pub rests : (hostile : Hostiles) (history : History) (rows : List QueueRow) (actors : Needful) (journal : List Entry) → Stillness.IsStill hostile history rows actors journal → (n : ℕ) (row : QueueRow) (needed owed : Bool) → slice_get rows n ≡ Some row → is_calm hostile row ≡ true → Stillness.Needs hostile actors n needed → Stillness.Owes hostile actors n owed → QueueRests row (track history n journal) needed owed

source_of : (y : Member) (n : ℕ) (script : List ℕ) → made_of y ≡ Says n script → (q : Source) × (y ≡ Members.Source q) × (q.output.queue.0 ≡ n) × (q.script ≡ script)
source_of (Members.Source q) n script h = (q, refl, cc, cc)
source_of (Members.Joiner j) n script h = cc

joiner_of : (y : Member) (n m : ℕ) → made_of y ≡ Joins n m → (j : Joiner) × (y ≡ Members.Joiner j) × (j.first.queue.0 ≡ n) × (j.second.queue.0 ≡ m)
joiner_of (Members.Source q) n m h = cc
joiner_of (Members.Joiner j) n m h = (j, refl, cc, cc)

two_power : (n : ℕ) → IsCapacity n → 0 < n
two_power n c = subst (λ i. 0 < i) (sym c.2) (pow_pos c.0)

all_at : {T : Type 0} (P : T → Type 0) (xs : List T) → All P xs → (k : ℕ) (x : T) → slice_get xs k ≡ Some x → P x
all_at P [] h k x at = cc
all_at P (y ∷ xs) h zero x at = subst P (some_is at) (h 0 y (omega arith))
all_at P (y ∷ xs) h (suc k) x at = all_at P xs (λ i d lt. h (suc i) d (omega (arith, lt))) k x at

least : (m n : ℕ) → m ≤ n → min m n ≡ m
least m n le = omega (arith, le)

no_more : (xs : List Cargo) → length xs ≡ 0 → xs ≡ []
no_more [] h = refl
no_more (x ∷ xs) h = absurd (omega (arith, h))

all_said : (n m : ℕ) → nat_lt n m ≡ false → m ≤ n
all_said n m h = by (cases n m)
  where
    cases : (a b : ℕ) → (a < b) ⊎ (b ≤ a)
    cases zero zero = inr (omega arith)
    cases zero (suc b) = inl (omega arith)
    cases (suc a) zero = inr (omega arith)
    cases (suc a) (suc b) = elim (cases a b) [ inl l ↦ inl (omega arith) | inr l ↦ inr (omega arith) ]

    by : (n < m) ⊎ (m ≤ n) → m ≤ n
    by (inl l) = let no : true ≡ false = sym (lt-ltb n m l) ∙ h in absurd cc
    by (inr l) = l

-- the source at a place, which is its queue
record SourceAt (mo : Moment Member) (passed : Passed) (k : ℕ) (script : List ℕ) : Type 0 where
  pub source : Source
  pub there : slice_get mo.actors k ≡ Some (Members.Source source)
  pub queue : source.output.queue.0 ≡ k
  pub script_is : source.script ≡ script
  pub fits : FitsSource (end_at mo.world) source
  pub sent : passed.sent k ≡ map byte_cargo (take source.next script)
  pub next : source.next ≤ length script

-- the joiner
record JoinerAt (mo : Moment Member) (passed : Passed) (journal : List Entry) : Type 0 where
  pub joiner : Joiner
  pub there : slice_get mo.actors 2 ≡ Some (Members.Joiner joiner)
  pub first : joiner.first.queue.0 ≡ 0
  pub second : joiner.second.queue.0 ≡ 1
  pub fits : FitsJoiner (end_at mo.world) joiner
  pub claim : joiner.claim ≡ claim_by 0 1 (calls_in journal)
  pub heard : joiner.recorded.shown ≡ bytes_carried (passed.taken 0) ++ bytes_carried (passed.taken 1)
  pub first_alone : wants_first joiner.claim ≡ true → passed.taken 1 ≡ []
  pub second_alone : wants_second joiner.claim ≡ true → passed.taken 0 ≡ []

module _ (laws : Laws) (s : Shown Member) (one other : List ℕ) (told : IsTold member_means s) (pair : map made_of s.start ≡ pair_of one other) where
  abbrev turns : List (Turn Member)
  turns = told.turns

  abbrev start : Moment Member
  start = start_of s.rows s.start

  abbrev mo : Moment Member
  mo = after_tale start turns

  abbrev journal : List Entry
  journal = journal_of turns

  abbrev passed : Passed
  passed = passed_by turns

  abbrev history : History
  history = start_history s.rows

  holds : Holds member_means s.rows mo passed journal
  holds = laws.last s.rows s.start turns told.begins told.told.tale

  size : length s.start ≡ 3
  size = sym (length-map s.start made_of) ∙ ap length pair

  now_size : length mo.actors ≡ 3
  now_size = laws.count start turns told.told.tale ∙ size

  now_at : (k : ℕ) (p : Made) → slice_get (pair_of one other) k ≡ Some p → (y : Member) × (slice_get mo.actors k ≡ Some y) × (made_of y ≡ p)
  now_at k p at =
      let x = map_from made_of s.start k p (ap (λ ps. slice_get ps k) pair ∙ at) in
      let lt : k < length s.start = there_below s.start k x.0 x.1 in
      let n : length mo.actors ≡ length s.start = laws.count start turns told.told.tale in
      let y = there_is mo.actors k (omega (arith, lt, n)) in
      (y.0, y.1, laws.parts start turns told.told.tale k x.0 y.0 x.1 y.1 ∙ x.2)

  source_at : (k : ℕ) (script : List ℕ) → slice_get (pair_of one other) k ≡ Some (Says k script) → SourceAt mo passed k script
  source_at k script at =
      let y = now_at k (Says k script) at in
      let q = source_of y.0 k script y.2 in
      let there : slice_get mo.actors k ≡ Some (Members.Source q.0) = y.1 ∙ ap Some q.1 in
      let fits : FitsSource (end_at mo.world) q.0 = holds.fits k (Members.Source q.0) there in
      let stands : SourceStandsFor q.0 passed = holds.stands k (Members.Source q.0) there in
      record {
        source = q.0;
        there = there;
        queue = q.2;
        script_is = q.3;
        fits = fits;
        sent = subst (λ n. passed.sent n ≡ map byte_cargo (take q.0.next script)) q.2 (stands.sent_is ∙ ap (λ xs. map byte_cargo (take q.0.next xs)) q.3);
        next = subst (λ (xs : List ℕ). q.0.next ≤ length xs) q.3 fits.next;
      }

  first_source : SourceAt mo passed 0 one
  first_source = source_at 0 one refl

  second_source : SourceAt mo passed 1 other
  second_source = source_at 1 other refl

  joiner_at : JoinerAt mo passed journal
  joiner_at =
      let y = now_at 2 (Joins 0 1) refl in
      let j = joiner_of y.0 0 1 y.2 in
      let there : slice_get mo.actors 2 ≡ Some (Members.Joiner j.0) = y.1 ∙ ap Some j.1 in
      let stands : JoinerStandsFor j.0 passed = holds.stands 2 (Members.Joiner j.0) there in
      record {
        joiner = j.0;
        there = there;
        first = j.2;
        second = j.3;
        fits = holds.fits 2 (Members.Joiner j.0) there;
        claim = stands.claim_is ∙ (ap (λ n. claim_by n j.0.second.queue.0 passed.calls) j.2 ∙ (ap (λ n. claim_by 0 n passed.calls) j.3 ∙ ap (claim_by 0 1) holds.calls));
        heard = stands.record_is ∙ (ap (λ n. bytes_carried (passed.taken n) ++ bytes_carried (passed.taken j.0.second.queue.0)) j.2 ∙ ap (λ n. bytes_carried (passed.taken 0) ++ bytes_carried (passed.taken n)) j.3);
        first_alone = λ h. ap passed.taken (sym j.3) ∙ stands.first_alone h;
        second_alone = λ h. ap passed.taken (sym j.2) ∙ stands.second_alone h;
      }

  from_first : wants_first joiner_at.joiner.claim ≡ true → joiner_at.joiner.recorded.shown ≡ bytes_carried (passed.taken 0)
  from_first h = joiner_at.heard ∙ (ap (λ r. bytes_carried (passed.taken 0) ++ bytes_carried r) (joiner_at.first_alone h) ∙ append-nil (bytes_carried (passed.taken 0)))

  from_second : wants_second joiner_at.joiner.claim ≡ true → joiner_at.joiner.recorded.shown ≡ bytes_carried (passed.taken 1)
  from_second h = joiner_at.heard ∙ ap (λ r. bytes_carried r ++ bytes_carried (passed.taken 1)) (joiner_at.second_alone h)

  -- what was taken is a beginning of what the source says
  comes_in_order : (k : ℕ) (script : List ℕ) → (q : SourceAt mo passed k script) → IsPrefix (bytes_carried (passed.taken k)) script
  comes_in_order k script q =
      let es = (queue_at mo.world k).entries in (
        bytes_carried es ++ drop q.source.next script,
        sym (append_assoc (bytes_carried (passed.taken k)) (bytes_carried es) (drop q.source.next script))
            ∙ (ap (λ xs. xs ++ drop q.source.next script) (sym (bytes_join (passed.taken k) es) ∙ (ap bytes_carried (sym (holds.stands_there k) ∙ q.sent) ∙ bytes_said (take q.source.next script)))
            ∙ take-append-drop q.source.next script),
      )

  begins_by : (c : Claim) → joiner_at.joiner.claim ≡ c → IsPrefix joiner_at.joiner.recorded.shown (said_by one other c)
  begins_by Open e =
      let none : joiner_at.joiner.recorded.shown ≡ [] = from_first (ap wants_first e) ∙ ap bytes_carried (joiner_at.second_alone (ap wants_second e)) in
      ([], append-nil joiner_at.joiner.recorded.shown ∙ none)
  begins_by First e = subst (λ xs. IsPrefix xs one) (sym (from_first (ap wants_first e))) (comes_in_order 0 one first_source)
  begins_by Second e = subst (λ xs. IsPrefix xs other) (sym (from_second (ap wants_second e))) (comes_in_order 1 other second_source)

  abbrev moves : Moved
  moves = moved history journal

  put_count : (k : ℕ) (script : List ℕ) (q : SourceAt mo passed k script) → length (moves.sent k) ≡ q.source.next
  put_count k script q = ap (λ (l : List Item). length l) (sym (holds.shows_sent k)) ∙ (length-map (passed.sent k) (λ (c : Cargo). c.0) ∙ (ap length q.sent ∙ (length-map (take q.source.next script) byte_cargo ∙ (length-take q.source.next script ∙ least q.source.next (length script) q.next))))

  -- each rests where what it wants is settled
  source_rests : (k : ℕ) (script : List ℕ) (q : SourceAt mo passed k script) → is_at_rest (member_round (Members.Source q.source)) ≡ all_settled history journal (outlet_want k (nat_lt (length (moves.sent k)) (length script)) ∷ [])
  source_rests k script q =
      laws.rest history journal mo.world (outlet_post q.source.output ∷ []) (nat_lt q.source.next (length q.source.script) ∷ []) (outlet_want k (nat_lt (length (moves.sent k)) (length script)) ∷ []) (laws.bells s.rows mo passed journal holds)
      (record { needs = ap (λ (xs : List ℕ). nat_lt q.source.next (length xs)) q.script_is ∙ ap (λ n. nat_lt n (length script)) (sym (put_count k script q)); agrees = subst (λ n. Agrees (end_at mo.world Producer n) q.source.output.state) q.queue q.fits.output }, tt)

  joiner_rests : is_at_rest (member_round (Members.Joiner joiner_at.joiner)) ≡ all_settled history journal (intake_want 0 (wants_first (claim_by 0 1 (calls_in journal))) ∷ intake_want 1 (wants_second (claim_by 0 1 (calls_in journal))) ∷ [])
  joiner_rests =
      laws.rest history journal mo.world (intake_post joiner_at.joiner.first ∷ intake_post joiner_at.joiner.second ∷ []) (wants_first joiner_at.joiner.claim ∷ wants_second joiner_at.joiner.claim ∷ []) (intake_want 0 (wants_first (claim_by 0 1 (calls_in journal))) ∷ intake_want 1 (wants_second (claim_by 0 1 (calls_in journal))) ∷ []) (laws.bells s.rows mo passed journal holds) (
        record { needs = ap wants_first joiner_at.claim; agrees = subst (λ n. Agrees (end_at mo.world Consumer n) joiner_at.joiner.first.state) joiner_at.first joiner_at.fits.first },
        (record { needs = ap wants_second joiner_at.claim; agrees = subst (λ n. Agrees (end_at mo.world Consumer n) joiner_at.joiner.second.state) joiner_at.second joiner_at.fits.second }, tt),
      )

  each_rests : (k : ℕ) (x : Member) → slice_get mo.actors k ≡ Some x → is_at_rest (member_round x) ≡ all_settled history journal (pair_wants one other k moves (calls_in journal))
  each_rests zero x at = subst (λ y. is_at_rest (member_round y) ≡ all_settled history journal (pair_wants one other zero moves (calls_in journal))) (some_is (sym first_source.there ∙ at)) (source_rests 0 one first_source)
  each_rests (suc zero) x at = subst (λ y. is_at_rest (member_round y) ≡ all_settled history journal (pair_wants one other (suc zero) moves (calls_in journal))) (some_is (sym second_source.there ∙ at)) (source_rests 1 other second_source)
  each_rests (suc (suc zero)) x at = subst (λ y. is_at_rest (member_round y) ≡ all_settled history journal (pair_wants one other (suc (suc zero)) moves (calls_in journal))) (some_is (sym joiner_at.there ∙ at)) joiner_rests
  each_rests (suc (suc (suc k))) x at = let lt : suc (suc (suc k)) < length mo.actors = there_below mo.actors (suc (suc (suc k))) x at in let n : length mo.actors ≡ 3 = now_size in absurd (omega (arith, lt, n))

  -- where nobody is runnable
  module _ (none : running_in member_means mo ≡ []) where
    abbrev wanted : Needful
    wanted = wanted_by (pair_wants one other) s.rows (length (pair_of one other)) journal

    is_still : Stillness.IsStill (hostile_by calm) history s.rows wanted journal
    is_still = subst (λ n. Stillness.IsStill (hostile_by calm) history s.rows (wanted_by (pair_wants one other) s.rows n journal) journal) size (laws.still calm history s.rows (wanted_by (pair_wants one other) s.rows (length s.start) journal) journal (laws.quiet (pair_wants one other) s.rows s.start turns told.begins told.told.tale each_rests none))

    seat_row : (k : ℕ) (script : List ℕ) (q : SourceAt mo passed k script) → (row : QueueRow) × (slice_get s.rows k ≡ Some row) × (owner_of row Producer ≡ k)
    seat_row k script q = holds.seated.given k (Members.Source q.source) q.there Producer k (record { place = 0; post = outlet_post q.source.output; there = refl; queue = q.queue; role = refl })

    queue_rests : (k : ℕ) (script : List ℕ) (q : SourceAt mo passed k script) (needed : Bool) → Stillness.Needs (hostile_by calm) wanted k needed → Stillness.Owes (hostile_by calm) wanted k (nat_lt (length (moves.sent k)) (length script)) → needed ≡ true → bytes_carried (passed.taken k) ≡ script
    queue_rests k script q needed needs owes is =
        let row = seat_row k script q in
        let r = laws.rests (hostile_by calm) history s.rows wanted journal is_still k row.0 needed (nat_lt (length (moves.sent k)) (length script)) row.1 refl needs owes in
        let room : 0 < row.0.capacity = two_power row.0.capacity (all_at (λ (x : QueueRow). IsCapacity x.capacity) s.rows told.begins.sized.capacities k row.0 row.1) in
        let drained : items_of (passed.sent k) ≡ items_of (passed.taken k) = holds.shows_sent k ∙ (r.drained is ∙ sym (holds.shows_taken k)) in
        let many : length (passed.sent k) ≡ length (passed.taken k) = sym (length-map (passed.sent k) (λ (c : Cargo). c.0)) ∙ (ap (λ (l : List Item). length l) drained ∙ length-map (passed.taken k) (λ (c : Cargo). c.0)) in
        let es = (queue_at mo.world k).entries in
        let parts : length (passed.sent k) ≡ length (passed.taken k) + length es = ap length (holds.stands_there k) ∙ length-append (passed.taken k) es in
        let empty : es ≡ [] = no_more es (omega (arith, many, parts)) in
        let all : passed.sent k ≡ passed.taken k = holds.stands_there k ∙ (ap (λ xs. passed.taken k ++ xs) empty ∙ append-nil (passed.taken k)) in
        let done : length script ≤ length (moves.sent k) = all_said (length (moves.sent k)) (length script) (r.handed room is) in
        let n : length (moves.sent k) ≡ q.source.next = put_count k script q in
        ap bytes_carried (sym all ∙ q.sent) ∙ (bytes_said (take q.source.next script) ∙ take_all q.source.next script (omega (arith, done, n)))

    first_rests : wants_first joiner_at.joiner.claim ≡ true → bytes_carried (passed.taken 0) ≡ one
    first_rests h = queue_rests 0 one first_source (wants_first (claim_by 0 1 (calls_in journal))) (record { ends = pair_wants one other 2 moves (calls_in journal); acts = record { actor = 2; calm = refl; there = refl }; place = 0; is = refl }) (record { ends = pair_wants one other 0 moves (calls_in journal); acts = record { actor = 0; calm = refl; there = refl }; place = 0; is = refl }) (ap wants_first (sym joiner_at.claim) ∙ h)

    second_rests : wants_second joiner_at.joiner.claim ≡ true → bytes_carried (passed.taken 1) ≡ other
    second_rests h = queue_rests 1 other second_source (wants_second (claim_by 0 1 (calls_in journal))) (record { ends = pair_wants one other 2 moves (calls_in journal); acts = record { actor = 2; calm = refl; there = refl }; place = 1; is = refl }) (record { ends = pair_wants one other 1 moves (calls_in journal); acts = record { actor = 1; calm = refl; there = refl }; place = 0; is = refl }) (ap wants_second (sym joiner_at.claim) ∙ h)

    whole_by : (c : Claim) → joiner_at.joiner.claim ≡ c → joiner_at.joiner.recorded.shown ≡ said_by one other c
    whole_by Open e = from_first (ap wants_first e) ∙ ap bytes_carried (joiner_at.second_alone (ap wants_second e))
    whole_by First e = from_first (ap wants_first e) ∙ first_rests (ap wants_first e)
    whole_by Second e = from_second (ap wants_second e) ∙ second_rests (ap wants_second e)

    silent_by : joiner_at.joiner.claim ≡ Open → (one ≡ []) × (other ≡ [])
    silent_by e = (
      sym (first_rests (ap wants_first e)) ∙ ap bytes_carried (joiner_at.second_alone (ap wants_second e)),
      sym (second_rests (ap wants_second e)) ∙ ap bytes_carried (joiner_at.first_alone (ap wants_first e)),
    )

  pub pair_keeps : Keeps s one other
  pair_keeps = record {
    joiner = joiner_at.joiner;
    there = subst (λ (m : Moment Member). slice_get m.actors 2 ≡ Some (Members.Joiner joiner_at.joiner)) (sym told.told.moment) joiner_at.there;
    claim = joiner_at.claim ∙ ap (λ j. claim_by 0 1 (calls_in j)) (sym told.told.journal);
    begins = begins_by joiner_at.joiner.claim refl;
    whole = λ quiet. whole_by (ap (running_in member_means) (sym told.told.moment) ∙ quiet) joiner_at.joiner.claim refl;
    silent = λ quiet. silent_by (ap (running_in member_means) (sym told.told.moment) ∙ quiet);
  }
