-- One order of all calls: the call of the lowest rank is next.
use Rattle.std.proofs.Common.{◌≡◌, ◌≢◌, ◌∙◌, ℕ, zero, suc, ◌+◌, ◌*◌, ◌<◌, ◌≤◌, List, [], ◌∷◌, ◌++◌, length, length-append, refl, sym, ap, subst, arith, append-nil, append_assoc, Option, Some, None, slice_get, slice_set}
use Rattle.std.specs.Option.{option_map_or}
use mathlib.Core.Logic.{dite}
use native.Mathlib.Decide.{ℕ_discrete, dec_le}
use Rattle.cargo_core.specs.Lists.{IsPrefix}
use Rattle.wire_core.specs.declared.names.Event.{Event}
use Rattle.wire_core.specs.declared.names.QueueRow.{QueueRow}
use Rattle.wire_core.specs.declared.names.Op.{Op}
use Rattle.wire_core.specs.declared.names.Op.TheVariants as Do
use Rattle.wire_core.specs.Deeds.{Cargo}
use Rattle.wire_core.specs.Bells.{bit}
use Rattle.wire_core.specs.Ends.{Role, Consumer, Producer, role_of}
use Rattle.wire_core.specs.Fates.{is_vain_at, noes_at}
use Rattle.wire_core.specs.Journal.{owner_of}
use Rattle.wire_core.specs.Lists.{Passed, nothing_passed, with_deed}
use Rattle.wire_core.proofs.Fating.{noes_more}
use Rattle.spsc_queue.specs.Known.Ends.{EndIs}
use Rattle.seat_wires.specs.Places.{ends_of, stands_at, joined_get, seat_end}
use Rattle.seat_wires.specs.Times.{times_at, AddsTime}
use Rattle.seat_wires.proofs.Timing.{times_go}
use Rattle.actor_set.specs.declared.actor.Actor.{Actor}
use Rattle.order_law.specs.Tales.{Call, Made, Goes}
use Rattle.order_law.specs.Orders.{Seated, Turn, IsTurn, InOrder, HaveLooked, HaveRun, actors_of, entries_at, listed, looked, noes_seen, passed_by}
use Rattle.order_law.proofs.Lists.{same_some, same_heads, get_there, get_within, get_front, get_last, set_there, set_beside, length_set, same_lists, two_prefixes, prefix_same, prefix_then, map_set, map_there}
use Rattle.order_law.proofs.Looking.{noes_go, no_vain}
use Rattle.order_law.proofs.Moving.{moved_by, moved_else, moved_apart, moved_there, moved_few, moved_take, entries_go, end_there, sized_go}
use Rattle.order_law.proofs.Ranking.{rank, rank_take, times_grow, entries_grow, comes_before}

-- how many calls are to come
abbrev total : List (List Call) → ℕ
total [] = 0
total (cs ∷ rest) = length cs + total rest

length_none : (cs : List Call) → length cs ≡ 0 → cs ≡ []
length_none [] is = refl
length_none (c ∷ cs) is = absurd (omega (arith, is))

none_left : (rest : List (List Call)) → total rest ≡ 0 → (k : ℕ) (cs : List Call) → slice_get rest k ≡ Some cs → cs ≡ []
none_left [] none k cs is = cc
none_left (ds ∷ rest) none zero cs is = sym (same_some ds cs is) ∙ length_none ds (omega (arith, none))
none_left (ds ∷ rest) none (suc k) cs is = none_left rest (omega (arith, none)) k cs is

total_set : (rest : List (List Call)) (k : ℕ) (c : Call) (cs : List Call) → slice_get rest k ≡ Some (c ∷ cs) → total (slice_set rest k cs) + 1 ≡ total rest
total_set [] k c cs is = cc
total_set (ds ∷ rest) zero c cs is = let long : length ds ≡ length (c ∷ cs) = ap length (same_some ds (c ∷ cs) is) in omega (arith, long)
total_set (ds ∷ rest) (suc k) c cs is = let h = total_set rest k c cs is in omega (arith, h)

no_call : (c : Call) (cs : List Call) → c ∷ cs ≡ [] → ⊥
no_call c cs e = cc

-- a first call of the lowest rank
record Least (rest : List (List Call)) : Type 0 where
  pub place : ℕ
  pub call : Call
  pub calls : List Call
  pub there : slice_get rest place ≡ Some (call ∷ calls)
  pub first : (j : ℕ) (d : Call) (ds : List Call) → slice_get rest j ≡ Some (d ∷ ds) → rank call ≤ rank d

behind : (cs : List Call) (rest : List (List Call)) (c : Call) → ((d : Call) (ds : List Call) → cs ≡ d ∷ ds → rank c ≤ rank d) → ((j : ℕ) (d : Call) (ds : List Call) → slice_get rest j ≡ Some (d ∷ ds) → rank c ≤ rank d)
    → (j : ℕ) (d : Call) (ds : List Call) → slice_get (cs ∷ rest) j ≡ Some (d ∷ ds) → rank c ≤ rank d
behind cs rest c here there zero d ds is = here d ds (same_some cs (d ∷ ds) is)
behind cs rest c here there (suc j) d ds is = there j d ds is

least : (rest : List (List Call)) → 0 < total rest → Least rest
least [] lt = absurd (omega arith)
least ([] ∷ rest) lt = let l = least rest (omega arith) in record {
  place = suc l.place;
  call = l.call;
  calls = l.calls;
  there = l.there;
  first = behind [] rest l.call (λ d ds is. absurd (no_call d ds (sym is))) l.first;
}
least ((c ∷ cs) ∷ rest) lt = dite (ℕ_discrete (total rest) 0)
    (λ none. record {
      place = 0;
      call = c;
      calls = cs;
      there = refl;
      first = behind (c ∷ cs) rest c (λ d ds is. (let e : rank c ≡ rank d = ap rank (same_heads c d cs ds is) in omega (arith, e))) (λ j d ds is. absurd (no_call d ds (none_left rest none j (d ∷ ds) is)));
    })
    (λ some. let l = least rest (omega (arith, some)) in dite (dec_le (rank c) (rank l.call))
    (λ le. record {
      place = 0;
      call = c;
      calls = cs;
      there = refl;
      first = behind (c ∷ cs) rest c (λ d ds is. (let e : rank c ≡ rank d = ap rank (same_heads c d cs ds is) in omega (arith, e))) (λ j d ds is. (let m = l.first j d ds is in omega (arith, m, le)));
    })
    (λ gt. record {
      place = suc l.place;
      call = l.call;
      calls = l.calls;
      there = l.there;
      first = behind (c ∷ cs) rest l.call (λ d ds is. (let e : rank c ≡ rank d = ap rank (same_heads c d cs ds is) in omega (arith, e, gt))) l.first;
    }))

-- actors at their ends, with the calls that are to come, at a moment
record Under (rows : List QueueRow) (news sits : List Seated) (rest : List (List Call)) : Type 0 where
  pub many : length sits ≡ length news
  pub rests : length rest ≡ length news
  pub goes : (k : ℕ) (x : Seated) (cs : List Call) → slice_get sits k ≡ Some x → slice_get rest k ≡ Some cs → (y : Seated) × (slice_get news k ≡ Some y) × Goes x.actor x.seats cs y.actor y.seats
  pub own : (k : ℕ) (x : Seated) → slice_get sits k ≡ Some x → (r : Role) (n : ℕ) (e : EndIs) → stands_at (ends_of x.seats r) n ≡ Some e → (row : QueueRow) × (slice_get rows n ≡ Some row) × (owner_of row r ≡ k)
  pub sized : (k : ℕ) (x : Seated) → slice_get sits k ≡ Some x → (r : Role) (n : ℕ) → length (entries_at x.seats r n) ≡ length (times_at x.seats r n)
  pub few : (n : ℕ) (row : QueueRow) → slice_get rows n ≡ Some row → (p c : Seated) → slice_get sits row.producer.0 ≡ Some p → slice_get sits row.consumer.0 ≡ Some c
      → length (entries_at c.seats Consumer n) ≤ length (entries_at p.seats Producer n)

listed_row : (rows : List QueueRow) (all : List Seated) (r : Role) (n : ℕ) (row : QueueRow) (x : Seated) → slice_get rows n ≡ Some row → slice_get all (owner_of row r) ≡ Some x → listed rows all r n ≡ entries_at x.seats r n
listed_row rows all r n row x is there = ap (λ (o : Option QueueRow). option_map_or (λ (z : QueueRow). option_map_or (λ (y : Seated). entries_at y.seats r n) (slice_get all (owner_of z r)) []) o []) is
    ∙ ap (λ (o : Option Seated). option_map_or (λ (y : Seated). entries_at y.seats r n) o []) there

listed_none : (rows : List QueueRow) (all : List Seated) (r : Role) (n : ℕ) → slice_get rows n ≡ None → listed rows all r n ≡ []
listed_none rows all r n is = ap (λ (o : Option QueueRow). option_map_or (λ (z : QueueRow). option_map_or (λ (y : Seated). entries_at y.seats r n) (slice_get all (owner_of z r)) []) o []) is

looked_row : (rows : List QueueRow) (all : List Seated) (r : Role) (n : ℕ) (row : QueueRow) (x : Seated) → slice_get rows n ≡ Some row → slice_get all (owner_of row r) ≡ Some x → looked rows all r n ≡ noes_seen x.seats r n
looked_row rows all r n row x is there = ap (λ (o : Option QueueRow). option_map_or (λ (z : QueueRow). option_map_or (λ (y : Seated). noes_seen y.seats r n) (slice_get all (owner_of z r)) 0) o 0) is
    ∙ ap (λ (o : Option Seated). option_map_or (λ (y : Seated). noes_seen y.seats r n) o 0) there

looked_none : (rows : List QueueRow) (all : List Seated) (r : Role) (n : ℕ) → slice_get rows n ≡ None → looked rows all r n ≡ 0
looked_none rows all r n is = ap (λ (o : Option QueueRow). option_map_or (λ (z : QueueRow). option_map_or (λ (y : Seated). noes_seen y.seats r n) (slice_get all (owner_of z r)) 0) o 0) is

no_row : (row : QueueRow) → Some row ≡ None → ⊥
no_row row e = cc

module _ (rows : List QueueRow) (news : List Seated) (peers : (n : ℕ) (row : QueueRow) → slice_get rows n ≡ Some row → (r : Role) → owner_of row r < length news)
    (flows : (n : ℕ) (row : QueueRow) → slice_get rows n ≡ Some row → (p c : Seated) → slice_get news row.producer.0 ≡ Some p → slice_get news row.consumer.0 ≡ Some c
    → IsPrefix (entries_at c.seats Consumer n) (entries_at p.seats Producer n) × IsPrefix (times_at c.seats Consumer n) (times_at p.seats Producer n)) where
  module _ (sits : List Seated) (rest : List (List Call)) (u : Under rows news sits rest) where
    -- the owner of an end, as it is now
    owner : (n : ℕ) (row : QueueRow) → slice_get rows n ≡ Some row → (r : Role) → (x : Seated) × (slice_get sits (owner_of row r) ≡ Some x)
    owner n row is r = let less = peers n row is r in get_there sits (owner_of row r) (omega (arith, less, u.many))

    todo : (n : ℕ) (row : QueueRow) → slice_get rows n ≡ Some row → (r : Role) → (cs : List Call) × (slice_get rest (owner_of row r) ≡ Some cs)
    todo n row is r = let less = peers n row is r in get_there rest (owner_of row r) (omega (arith, less, u.rests))

    hands_at : (n : ℕ) (o : Option QueueRow) → slice_get rows n ≡ o → IsPrefix (listed rows sits Consumer n) (listed rows sits Producer n)
    hands_at n None is = subst (λ (z : List Cargo × List Cargo). IsPrefix z.0 z.1) (λ i. (sym (listed_none rows sits Consumer n is) i, sym (listed_none rows sits Producer n is) i)) ([], refl)
    hands_at n (Some row) is = let p = owner n row is Producer in let c = owner n row is Consumer in let ps = todo n row is Producer in let cs = todo n row is Consumer in
        let gp = u.goes row.producer.0 p.0 ps.0 p.1 ps.1 in let gc = u.goes row.consumer.0 c.0 cs.0 c.1 cs.1 in let flow = flows n row is gp.0 gc.0 gp.1 gc.1 in
        let more = entries_grow p.0.actor p.0.seats ps.0 gp.0.actor gp.0.seats gp.2 Producer n in let less = entries_grow c.0.actor c.0.seats cs.0 gc.0.actor gc.0.seats gc.2 Consumer n in
        let is_prefix : IsPrefix (entries_at c.0.seats Consumer n) (entries_at p.0.seats Producer n) = two_prefixes (entries_at c.0.seats Consumer n) (entries_at p.0.seats Producer n) (less.0 ++ flow.0.0) more.0
        (sym (append_assoc (entries_at c.0.seats Consumer n) less.0 flow.0.0) ∙ (ap (λ (z : List Cargo). z ++ flow.0.0) (sym less.1) ∙ (flow.0.1 ∙ more.1))) (u.few n row is p.0 c.0 p.1 c.1) in
        subst (λ (z : List Cargo × List Cargo). IsPrefix z.0 z.1) (λ i. (sym (listed_row rows sits Consumer n row c.0 is c.1) i, sym (listed_row rows sits Producer n row p.0 is p.1) i)) is_prefix

    hands : (n : ℕ) → IsPrefix (listed rows sits Consumer n) (listed rows sits Producer n)
    hands n = hands_at n (slice_get rows n) refl

    module _ (l : Least rest) where
      abbrev k : ℕ
      k = l.place

      at_k : (x : Seated) × (slice_get sits k ≡ Some x)
      at_k = let less = get_within rest k (l.call ∷ l.calls) l.there in get_there sits k (omega (arith, less, u.many, u.rests))

      abbrev x : Seated
      x = at_k.0

      abbrev new : Seated
      new = record { actor = l.call.actor; seats = l.call.seats }

      abbrev sits' : List Seated
      sits' = slice_set sits k new

      abbrev rest' : List (List Call)
      rest' = slice_set rest k l.calls

      end : (y : Seated) × (slice_get news k ≡ Some y) × Goes x.actor x.seats (l.call ∷ l.calls) y.actor y.seats
      end = u.goes k x (l.call ∷ l.calls) at_k.1 l.there

      tale : Goes x.actor x.seats (l.call ∷ l.calls) end.0.actor end.0.seats
      tale = end.2

      made : Made x.actor x.seats l.call
      made = tale.0

      later : Goes l.call.actor l.call.seats l.calls end.0.actor end.0.seats
      later = tale.1

      -- who stands at a place then
      here_now : (j : ℕ) (z : Seated) → j ≡ k → slice_get sits' j ≡ Some z → z ≡ new
      here_now j z here is = same_some z new (sym is ∙ (ap (λ (m : ℕ). slice_get sits' m) here ∙ set_there sits k x new at_k.1))

      calls_now : (j : ℕ) (cs : List Call) → j ≡ k → slice_get rest' j ≡ Some cs → cs ≡ l.calls
      calls_now j cs here is = same_some cs l.calls (sym is ∙ (ap (λ (m : ℕ). slice_get rest' m) here ∙ set_there rest k (l.call ∷ l.calls) l.calls l.there))

      else_now : (j : ℕ) (z : Seated) → j ≢ k → slice_get sits' j ≡ Some z → slice_get sits j ≡ Some z
      else_now j z ne is = sym (set_beside sits k j new ne) ∙ is

      -- the call is at an end of its own
      own_row : (row : QueueRow) × (slice_get rows l.call.deed.event.queue.0 ≡ Some row) × (owner_of row made.did.maker ≡ k)
      own_row = u.own k x at_k.1 made.did.maker l.call.deed.event.queue.0 made.did.before (ap joined_get made.did.there)

      goes' : (j : ℕ) (z : Seated) (cs : List Call) → slice_get sits' j ≡ Some z → slice_get rest' j ≡ Some cs → (y : Seated) × (slice_get news j ≡ Some y) × Goes z.actor z.seats cs y.actor y.seats
      goes' j z cs is todo_is = dite (ℕ_discrete j k)
          (λ here. (end.0, ap (λ (m : ℕ). slice_get news m) here ∙ end.1, subst (λ (w : Seated × List Call). Goes w.0.actor w.0.seats w.1 end.0.actor end.0.seats) (λ i. (sym (here_now j z here is) i, sym (calls_now j cs here todo_is) i)) later))
          (λ ne. u.goes j z cs (else_now j z ne is) (sym (set_beside rest k j l.calls ne) ∙ todo_is))

      own' : (j : ℕ) (z : Seated) → slice_get sits' j ≡ Some z → (r : Role) (n : ℕ) (e : EndIs) → stands_at (ends_of z.seats r) n ≡ Some e → (row : QueueRow) × (slice_get rows n ≡ Some row) × (owner_of row r ≡ j)
      own' j z is r n e at = dite (ℕ_discrete j k)
          (λ here. let was = end_there x.seats l.call.deed l.call.seats made.did r n e (ap (λ (w : Seated). stands_at (ends_of w.seats r) n) (sym (here_now j z here is)) ∙ at) in
          let o = u.own k x at_k.1 r n was.0 was.1 in (o.0, o.1, o.2 ∙ sym here))
          (λ ne. u.own j z (else_now j z ne is) r n e at)

      sized' : (j : ℕ) (z : Seated) → slice_get sits' j ≡ Some z → (r : Role) (n : ℕ) → length (entries_at z.seats r n) ≡ length (times_at z.seats r n)
      sized' j z is r n = dite (ℕ_discrete j k)
          (λ here. subst (λ (w : Seated). length (entries_at w.seats r n) ≡ length (times_at w.seats r n)) (sym (here_now j z here is)) (sized_go x.seats l.call.deed l.call.seats made.did (u.sized k x at_k.1) r n))
          (λ ne. u.sized j z (else_now j z ne is) r n)

      module _ (n : ℕ) (row : QueueRow) (is : slice_get rows n ≡ Some row) where
        -- the producer took nothing back
        sent_more : (p p' : Seated) → slice_get sits row.producer.0 ≡ Some p → slice_get sits' row.producer.0 ≡ Some p' → length (entries_at p.seats Producer n) ≤ length (entries_at p'.seats Producer n)
        sent_more p p' at at' = dite (ℕ_discrete row.producer.0 k)
            (λ here. let p_is : p ≡ x = same_some p x (sym at ∙ (ap (λ (m : ℕ). slice_get sits m) here ∙ at_k.1)) in let go = ap length (entries_go x.seats l.call.deed l.call.seats made.did Producer n) in
            subst (λ (w : Seated × Seated). length (entries_at w.0.seats Producer n) ≤ length (entries_at w.1.seats Producer n)) (λ i. (sym p_is i, sym (here_now row.producer.0 p' here at') i)) (omega (arith, go, length-append (entries_at x.seats Producer n) (moved_by l.call.deed Producer n))))
            (λ ne. let same : p ≡ p' = same_some p p' (sym at ∙ else_now row.producer.0 p' ne at') in subst (λ (w : Seated). length (entries_at p.seats Producer n) ≤ length (entries_at w.seats Producer n)) same (omega arith))

        -- the consumer takes the entry that was put there
        no_early_take : (p : Seated) → slice_get sits row.producer.0 ≡ Some p → row.consumer.0 ≡ k → length (entries_at x.seats Consumer n) ≡ length (entries_at p.seats Producer n) → 0 < length (moved_by l.call.deed Consumer n) → ⊥
        no_early_take p at_p here same some = let mine = moved_there x.seats l.call.deed l.call.seats made.did Consumer n some in let op_is : l.call.deed.event.op ≡ Do.Take = moved_take l.call.deed n some in
            let adds : AddsTime Do.Take x.seats n l.call.seats = subst (λ (z : Op × ℕ). AddsTime z.0 x.seats z.1 l.call.seats) (λ i. (op_is i, sym mine.1 i)) (times_go x.seats l.call.deed l.call.seats made.did).here in
            let time : ℕ = adds.0 in let i : ℕ = length (times_at x.seats Consumer n) in
            let mine_later = times_grow l.call.actor l.call.seats l.calls end.0.actor end.0.seats later Consumer n in
            let at_end : slice_get (times_at end.0.seats Consumer n) i ≡ Some time = ap (λ (z : List ℕ). slice_get z i) (mine_later.1 ∙ ap (λ (z : List ℕ). z ++ mine_later.0) adds.1) ∙ get_front (times_at x.seats Consumer n ++ time ∷ []) mine_later.0 i time (get_last (times_at x.seats Consumer n) time []) in
            let ps = todo n row is Producer in let gp = u.goes row.producer.0 p ps.0 at_p ps.1 in
            let flow = flows n row is gp.0 end.0 gp.1 (ap (λ (m : ℕ). slice_get news m) here ∙ end.1) in
            let put_end : slice_get (times_at gp.0.seats Producer n) i ≡ Some time = ap (λ (z : List ℕ). slice_get z i) (sym flow.1.1) ∙ get_front (times_at end.0.seats Consumer n) flow.1.0 i time at_end in
            let short : length (times_at p.seats Producer n) ≤ i = omega (arith, u.sized k x at_k.1 Consumer n, u.sized row.producer.0 p at_p Producer n, same) in
            let before = comes_before n i time p.actor p.seats ps.0 gp.0.actor gp.0.seats gp.2 short put_end in
            let lowest : rank l.call ≤ rank before.0 = l.first row.producer.0 before.0 before.1 (ps.1 ∙ ap (λ (z : List Call). Some z) before.2) in
            let rank_is : rank l.call ≡ 2 * time + 1 = rank_take l.call x.seats n time op_is (sym mine.1) adds.1 in
            omega (arith, lowest, rank_is, before.3)

        few' : (p' c' : Seated) → slice_get sits' row.producer.0 ≡ Some p' → slice_get sits' row.consumer.0 ≡ Some c' → length (entries_at c'.seats Consumer n) ≤ length (entries_at p'.seats Producer n)
        few' p' c' at_p at_c = let p = owner n row is Producer in let c = owner n row is Consumer in let old = u.few n row is p.0 c.0 p.1 c.1 in let more = sent_more p.0 p' p.1 at_p in dite (ℕ_discrete row.consumer.0 k)
            (λ here. let c_is : c.0 ≡ x = same_some c.0 x (sym c.1 ∙ (ap (λ (m : ℕ). slice_get sits m) here ∙ at_k.1)) in let old' : length (entries_at x.seats Consumer n) ≤ length (entries_at p.0.seats Producer n) = subst (λ (w : Seated). length (entries_at w.seats Consumer n) ≤ length (entries_at p.0.seats Producer n)) c_is old in
            let go : length (entries_at l.call.seats Consumer n) ≡ length (entries_at x.seats Consumer n) + length (moved_by l.call.deed Consumer n) = ap length (entries_go x.seats l.call.deed l.call.seats made.did Consumer n) ∙ length-append (entries_at x.seats Consumer n) (moved_by l.call.deed Consumer n) in
            let one = moved_few x.seats l.call.deed l.call.seats made.did Consumer n in
            subst (λ (w : Seated). length (entries_at w.seats Consumer n) ≤ length (entries_at p'.seats Producer n)) (sym (here_now row.consumer.0 c' here at_c)) (dite (dec_le (length (entries_at l.call.seats Consumer n)) (length (entries_at p.0.seats Producer n)))
            (λ le. omega (arith, le, more))
            (λ gt. absurd (no_early_take p.0 p.1 here (omega (arith, gt, go, one, old')) (omega (arith, gt, go, one, old'))))))
            (λ ne. let same : c.0 ≡ c' = same_some c.0 c' (sym c.1 ∙ else_now row.consumer.0 c' ne at_c) in subst (λ (w : Seated). length (entries_at w.seats Consumer n) ≤ length (entries_at p'.seats Producer n)) same (omega (arith, old, more)))

      next : Under rows news sits' rest'
      next = record {
        many = length_set sits k new ∙ u.many;
        rests = length_set rest k l.calls ∙ u.rests;
        goes = goes';
        own = own';
        sized = sized';
        few = few';
      }

      -- what passed then
      listed_at : (r : Role) (n : ℕ) (o : Option QueueRow) → slice_get rows n ≡ o → listed rows sits' r n ≡ listed rows sits r n ++ moved_by l.call.deed r n
      listed_at r n None is = listed_none rows sits' r n is ∙ (λ i. sym (listed_none rows sits r n is) i ++ sym (moved_else l.call.deed r n (λ _ at. no_row own_row.0 (sym own_row.1 ∙ (ap (λ (m : ℕ). slice_get rows m) (sym at) ∙ is)))) i)
      listed_at r n (Some row) is = let z = owner n row is r in dite (ℕ_discrete (owner_of row r) k)
          (λ here. let z_is : z.0 ≡ x = same_some z.0 x (sym z.1 ∙ (ap (λ (m : ℕ). slice_get sits m) here ∙ at_k.1)) in
          listed_row rows sits' r n row new is (ap (λ (m : ℕ). slice_get sits' m) here ∙ set_there sits k x new at_k.1) ∙ (entries_go x.seats l.call.deed l.call.seats made.did r n
          ∙ ap (λ (w : List Cargo). w ++ moved_by l.call.deed r n) (ap (λ (w : Seated). entries_at w.seats r n) (sym z_is) ∙ sym (listed_row rows sits r n row z.0 is z.1))))
          (λ ne. let away : r ≡ made.did.maker → n ≡ l.call.deed.event.queue.0 → ⊥ = (λ same at. ne (ap (λ (w : QueueRow). owner_of w r) (same_some row own_row.0 (sym is ∙ (ap (λ (m : ℕ). slice_get rows m) at ∙ own_row.1))) ∙ (ap (owner_of own_row.0) same ∙ own_row.2))) in
          listed_row rows sits' r n row z.0 is (set_beside sits k (owner_of row r) new ne ∙ z.1) ∙ (sym (listed_row rows sits r n row z.0 is z.1) ∙ (sym (append-nil (listed rows sits r n)) ∙ ap (λ (w : List Cargo). listed rows sits r n ++ w) (sym (moved_apart l.call.deed made.did.maker made.did.makes r n away)))))

      -- and how often each end looked in vain
      looked_at : (r : Role) (n : ℕ) (o : Option QueueRow) → slice_get rows n ≡ o → looked rows sits' r n ≡ looked rows sits r n + bit (is_vain_at r n l.call.deed.event)
      looked_at r n None is = let now = looked_none rows sits' r n is in let was = looked_none rows sits r n is in
          let none = ap bit (no_vain l.call.deed.event made.did.maker made.did.makes r n (λ _ at. no_row own_row.0 (sym own_row.1 ∙ (ap (λ (m : ℕ). slice_get rows m) (sym at) ∙ is)))) in
          omega (arith, now, was, none)
      looked_at r n (Some row) is = let z = owner n row is r in dite (ℕ_discrete (owner_of row r) k)
          (λ here. let z_is : z.0 ≡ x = same_some z.0 x (sym z.1 ∙ (ap (λ (m : ℕ). slice_get sits m) here ∙ at_k.1)) in
          let now = looked_row rows sits' r n row new is (ap (λ (m : ℕ). slice_get sits' m) here ∙ set_there sits k x new at_k.1) in
          let was : looked rows sits r n ≡ noes_seen x.seats r n = looked_row rows sits r n row z.0 is z.1 ∙ ap (λ (w : Seated). noes_seen w.seats r n) z_is in
          let go = noes_go x.seats l.call.deed l.call.seats made.did r n in
          omega (arith, now, was, go))
          (λ ne. let away : r ≡ made.did.maker → n ≡ l.call.deed.event.queue.0 → ⊥ = (λ same at. ne (ap (λ (w : QueueRow). owner_of w r) (same_some row own_row.0 (sym is ∙ (ap (λ (m : ℕ). slice_get rows m) at ∙ own_row.1))) ∙ (ap (owner_of own_row.0) same ∙ own_row.2))) in
          let now = looked_row rows sits' r n row z.0 is (set_beside sits k (owner_of row r) new ne ∙ z.1) in
          let was = looked_row rows sits r n row z.0 is z.1 in
          let none = ap bit (no_vain l.call.deed.event made.did.maker made.did.makes r n away) in
          omega (arith, now, was, none))

      looked_next : (calls : List Event) (r : Role) (n : ℕ) → looked rows sits' r n + noes_at r n calls ≡ looked rows sits r n + noes_at r n (calls ++ l.call.deed.event ∷ [])
      looked_next calls r n = let now = looked_at r n (slice_get rows n) refl in let more = noes_more r n calls l.call.deed.event in omega (arith, now, more)

      passed_next : (calls : List Event) → passed_by rows sits' (calls ++ l.call.deed.event ∷ []) ≡ with_deed (passed_by rows sits calls) l.call.deed
      passed_next calls = λ i. record {
        taken = λ n. listed_at Consumer n (slice_get rows n) refl i;
        sent = λ n. listed_at Producer n (slice_get rows n) refl i;
        calls = calls ++ l.call.deed.event ∷ [];
      }

      abbrev turn : Turn
      turn = record { number = k; deed = l.call.deed; actor = l.call.actor }

      actors_next : actors_of sits' ≡ slice_set (actors_of sits) k l.call.actor
      actors_next = map_set (λ (w : Seated). w.actor) sits k new

      is_turn : (calls : List Event) → ((n : ℕ) → IsPrefix (listed rows sits' Consumer n) (listed rows sits' Producer n)) → IsTurn (actors_of sits) (passed_by rows sits calls) turn
      is_turn calls over = record {
        old = x.actor;
        there = map_there (λ (w : Seated). w.actor) sits k x at_k.1;
        own = made.own;
        turned = made.turned;
        part = made.part;
        kept = made.kept;
        ends = seat_end l.call.seats;
        fits = made.fits;
        hands_over = λ n. subst (λ (p : Passed). IsPrefix (p.taken n) (p.sent n)) (passed_next calls) (over n);
      }

  -- where no call is to come, all is as it is at the end
  at_end : (sits : List Seated) (rest : List (List Call)) → Under rows news sits rest → total rest ≡ 0 → sits ≡ news
  at_end sits rest u none = same_lists sits news u.many (λ k x is. (
      let less = get_within sits k x is in let cs = get_there rest k (omega (arith, less, u.many, u.rests)) in let g = u.goes k x cs.0 is cs.1 in
      let done : Goes x.actor x.seats [] g.0.actor g.0.seats = subst (λ (z : List Call). Goes x.actor x.seats z g.0.actor g.0.seats) (none_left rest none k cs.0 cs.1) g.2 in
      g.1 ∙ ap (λ (z : Seated). Some z) (λ i. record { actor = done.0 i; seats = done.1 i })
      ))

  -- since some calls were made, up to others, each end looked in vain so often more
  abbrev Looks : List Seated → (calls after : List Event) → Type 0
  Looks sits calls after = (r : Role) (n : ℕ) → looked rows news r n + noes_at r n calls ≡ looked rows sits r n + noes_at r n after

  order : (many : ℕ) (sits : List Seated) (rest : List (List Call)) (calls : List Event) → total rest ≡ many → Under rows news sits rest → (turns : List Turn) × (after : List Event) × InOrder (actors_of sits) (passed_by rows sits calls) turns (actors_of news) (passed_by rows news after) × Looks sits calls after
  order zero sits rest calls none u = let same = at_end sits rest u none in ([], calls, (ap actors_of (sym same), ap (λ (z : List Seated). passed_by rows z calls) (sym same)), λ r n. ap (λ (z : List Seated). looked rows z r n + noes_at r n calls) (sym same))
  order (suc m) sits rest calls some u = let l = least rest (omega (arith, some)) in let u' = next sits rest u l in
      let fewer : total (rest' sits rest u l) ≡ m = omega (arith, total_set rest l.place l.call l.calls l.there, some) in
      let go = order m (sits' sits rest u l) (rest' sits rest u l) (calls ++ l.call.deed.event ∷ []) fewer u' in (
        turn sits rest u l ∷ go.0,
        go.1,
        (is_turn sits rest u l calls (hands (sits' sits rest u l) (rest' sits rest u l) u'), subst (λ (z : List Actor × Passed). InOrder z.0 z.1 go.0 (actors_of news) (passed_by rows news go.1)) (λ i. (actors_next sits rest u l i, passed_next sits rest u l calls i)) go.2),
        λ r n. (let later = go.3 r n in let one = looked_next sits rest u l calls r n in let more = noes_more r n calls l.call.deed.event in omega (arith, later, one, more)),
      )

-- at the start
listed_by : (rows : List QueueRow) (olds : List Seated) (r : Role) (n : ℕ) (row : QueueRow) → slice_get rows n ≡ Some row → listed rows olds r n ≡ option_map_or (λ (y : Seated). entries_at y.seats r n) (slice_get olds (owner_of row r)) []
listed_by rows olds r n row is = ap (λ (o : Option QueueRow). option_map_or (λ (z : QueueRow). option_map_or (λ (y : Seated). entries_at y.seats r n) (slice_get olds (owner_of z r)) []) o []) is

module _ (rows : List QueueRow) (olds : List Seated) (anew : (k : ℕ) (x : Seated) → slice_get olds k ≡ Some x → (r : Role) (n : ℕ) → entries_at x.seats r n ≡ []) where
  of_owner : (r : Role) (n k : ℕ) (o : Option Seated) → slice_get olds k ≡ o → option_map_or (λ (y : Seated). entries_at y.seats r n) o [] ≡ []
  of_owner r n k None is = refl
  of_owner r n k (Some x) is = anew k x is r n

  nothing_at : (r : Role) (n : ℕ) (o : Option QueueRow) → slice_get rows n ≡ o → listed rows olds r n ≡ []
  nothing_at r n None is = listed_none rows olds r n is
  nothing_at r n (Some row) is = listed_by rows olds r n row is ∙ of_owner r n (owner_of row r) (slice_get olds (owner_of row r)) refl

  nothing_yet : passed_by rows olds [] ≡ nothing_passed
  nothing_yet = λ i. record {
    taken = λ n. nothing_at Consumer n (slice_get rows n) refl i;
    sent = λ n. nothing_at Producer n (slice_get rows n) refl i;
    calls = [];
  }

tales_at : (P : ℕ → List Call → Type 0) (first : List Call) → P 0 first → (rest : List (List Call)) → ((k : ℕ) (cs : List Call) → slice_get rest k ≡ Some cs → P (suc k) cs) → (k : ℕ) (cs : List Call) → slice_get (first ∷ rest) k ≡ Some cs → P k cs
tales_at P first p rest each zero cs is = subst (P 0) (same_some first cs is) p
tales_at P first p rest each (suc k) cs is = each k cs is

-- the calls of each actor, in a list
tales_in : (n : ℕ) (P : ℕ → List Call → Type 0) → ((k : ℕ) → k < n → (cs : List Call) × P k cs) → (all : List (List Call)) × (length all ≡ n) × ((k : ℕ) (cs : List Call) → slice_get all k ≡ Some cs → P k cs)
tales_in zero P each = ([], refl, λ k cs is. cc)
tales_in (suc n) P each = let first = each 0 (omega arith) in let rest = tales_in n (λ k cs. P (suc k) cs) (λ k lt. each (suc k) (omega arith)) in (
  first.0 ∷ rest.0,
  ap suc rest.1,
  tales_at P first.0 first.1 rest.0 rest.2,
)

module _ (rows : List QueueRow) (olds news : List Seated) (run : HaveRun rows olds news) where
  abbrev Tells : ℕ → List Call → Type 0
  Tells k cs = (x : Seated) → slice_get olds k ≡ Some x → (y : Seated) × (slice_get news k ≡ Some y) × Goes x.actor x.seats cs y.actor y.seats

  tells : (k : ℕ) → k < length olds → (cs : List Call) × Tells k cs
  tells k lt = let x = get_there olds k lt in let t = run.tales k x.0 x.1 in (
    t.2,
    λ z is. (t.0, t.1, subst (λ (w : Seated). Goes w.actor w.seats t.2 t.0.actor t.0.seats) (same_some x.0 z (sym x.1 ∙ is)) t.3),
  )

  pub ordered : (turns : List Turn) × (calls : List Event) × InOrder (actors_of olds) nothing_passed turns (actors_of news) (passed_by rows news calls) × HaveLooked rows olds news calls
  ordered = let all = tales_in (length olds) Tells tells in
      let none : (k : ℕ) (x : Seated) → slice_get olds k ≡ Some x → (r : Role) (n : ℕ) → length (entries_at x.seats r n) ≡ 0 = (λ k x is r n. ap length (run.anew k x is r n).0) in
      let go = order rows news (λ n row is r. (let lt = run.peers n row is r in omega (arith, lt, run.many))) run.flows (total all.0) olds all.0 [] refl record {
        many = sym run.many;
        rests = all.1 ∙ sym run.many;
        goes = λ k x cs is todo. all.2 k cs todo x is;
        own = run.own;
        sized = λ k x is r n. none k x is r n ∙ sym (ap length (run.anew k x is r n).1);
        few = λ n row is p c at_p at_c. omega (arith, none row.consumer.0 c at_c Consumer n);
      } in (go.0, go.1, subst (λ (p : Passed). InOrder (actors_of olds) p go.0 (actors_of news) (passed_by rows news go.1)) (nothing_yet rows olds (λ k x is r n. (run.anew k x is r n).0)) go.2, λ r n. (let all = go.3 r n in omega (arith, all)))

-- what was put stays
pub grows : (actors after : List Actor) (passed last : Passed) (turns : List Turn) → InOrder actors passed turns after last → (n : ℕ) → IsPrefix (passed.sent n) (last.sent n)
grows actors after passed last [] o n = subst (λ (p : Passed). IsPrefix (passed.sent n) (p.sent n)) (sym o.1) (prefix_same (passed.sent n))
grows actors after passed last (t ∷ ts) o n = prefix_then (passed.sent n) ((with_deed passed t.deed).sent n) (last.sent n) (moved_by t.deed Producer n, refl) (grows (slice_set actors t.number t.actor) after (with_deed passed t.deed) last ts o.1 n)
