use Rattle.std.proofs.Common.{◌≡◌, ◌<◌, ◌≤◌, ◌+◌, ◌-◌, ℕ, Bool, true, false, cond, not, ◌||◌, nat_lt, Option, Some, None, is_some, is_none, List, [], ◌∷◌, ◌++◌, map, length, length-append, length-take, slice_get, subst, refl, sym, ap, ◌∙◌, arith, suc}
use Rattle.std.specs.Option.{option_to_list}
use Rattle.std.proofs.lemmas.List.{length-map}
use Rattle.std.proofs.lemmas.Bool.{lt-ltb, le-ltb}
use Rattle.wire_core.specs.declared.names.Entry.{Entry}
use Rattle.wire_core.specs.Deeds.{Cargo}
use Rattle.wire_core.specs.Ends.{Role, Consumer, Producer, End}
use Rattle.wire_core.specs.Queues.{Queue, items_of, end_at}
use Rattle.wire_core.specs.Lists.{Passed}
use Rattle.wire_core.specs.Journal.{History}
use Rattle.turn_kit.specs.Table.{Agrees}
use Rattle.turn_kit.specs.Pipes.{PipeStandsFor}
use Rattle.turn_kit.specs.declared.pipe.Pipe.{Pipe}
use Rattle.device_model.specs.SerialTerminal.Terminals.{FitsTerminal, TerminalStandsFor, terminal_round}
use Rattle.device_model.specs.declared.serial_terminal.Terminal.{Terminal}
use Rattle.std.proofs.Common.{◌⊎◌, ◌≢◌, nat_eq, if◌then◌else◌, inl, inr}
use Rattle.std.specs.Option.{option_map}
use Rattle.std.proofs.Math.Dec.{eqb}
use Rattle.std.proofs.lemmas.Bool.Decides.{eqb_tells}
use Rattle.wire_core.specs.declared.names.QueueId.{QueueId}
use Rattle.turn_kit.specs.ManyEnds.{intake_queues, outlet_queues, outlet_posts, is_here, needs_from}
use Rattle.turn_kit.specs.Posts.{intake_post, outlet_post}
use Rattle.turn_kit.specs.declared.ends.Intake.{Intake}
use Rattle.turn_kit.specs.declared.ends.Outlet.{Outlet}
use Rattle.class_expect.specs.SerialSwitch.Carried.{byte_cargo, bytes_carried}
use Rattle.class_expect.specs.SerialSwitch.Switching.{input_of}
use Rattle.actor_set.proofs.LawsLemmas.Rows.{carried_in}
use Rattle.play_core.proofs.Merges.{merge_total}
use Rattle.play_core.specs.Totals.{total}
use Rattle.serial_virt.specs.Receiving.{FitsRx, RxStandsFor, rx_round, owed_to, clients_of, place_loaded, policy_of, taker_of}
use Rattle.serial_virt.specs.Shares.{ClientStands, byte_fate}
use Rattle.serial_virt.proofs.Taking.{held_client}
use Rattle.wire_core.specs.Fates.{without, noes_at}
use Rattle.wire_core.proofs.Fating.{without_length}
use Rattle.turn_kit.specs.Turns.{Post}
use Rattle.turn_kit.specs.Dropping.{with_drops}
use Rattle.serial_virt.specs.declared.rx.SerialVirtRx.{SerialVirtRx}
use Rattle.serial_virt.specs.Sending.{FitsTx, TxStandsFor, tx_round}
use Rattle.serial_virt.specs.declared.tx.SerialVirtTx.{SerialVirtTx}
use Rattle.play_core.specs.Moved.{Moved, moved}
use Rattle.play_core.specs.Wants.{Want, intake_want, outlet_want, all_settled}
use Rattle.play_core.specs.Sheets.{Scene}
use Rattle.serial_law.specs.Bytes.{bytes_in, is_owed}
use Rattle.serial_law.specs.Table.{some_owed, shares, taken_count, is_held, due_to, is_owed_to}
use Rattle.actor_set.specs.Laws.Kinds.{manner_of, sheet}
use Rattle.play_core.specs.Manners.{Calm}
use Rattle.actor_set.proofs.LawsLemmas.Rounds.{rests_is}
use Rattle.actor_set.specs.Actors.{FitsActor, ActorStandsFor, part_of, actor_round, actor_rests, numbers}
use Rattle.play_core.specs.Rests.Showing.{HaveItems, HaveBells}
use Rattle.play_core.specs.Rests.Meeting.{Meet}
use Rattle.play_core.proofs.RestsLemmas.Settling.{none_is, held_is, all_here}
use Rattle.uart_driver.specs.declared.UartDriver.{UartDriver}
use Rattle.eth_driver.specs.Four.{four_pipes}
use Rattle.pipe_driver.specs.Lengths.{two_pipes}
use Rattle.net_law.proofs.RestsLemmas.Resting.{device_rest, driver_rest, receiver_rest, copier_rest, client_rest}
use Rattle.net_law.proofs.TxRests.Resting.{sender_rest}
use Rattle.blk_law.proofs.RestsLemmas.Resting as block
use Rattle.actor_set.specs.Laws.Turning.{InTurn}
use Rattle.actor_set.specs.declared.actor.Actor.{Actor}
use Rattle.actor_set.specs.declared.actor.Actor.TheVariants as Kinds

some_is : (sent taken : List Cargo) (load : Option Cargo) → taken ≡ sent ++ option_to_list load → is_some load ≡ nat_lt (length (items_of sent)) (length (items_of taken))
some_is sent taken None h = sym (le-ltb _ _ (simp (length-map) (omega (arith, ap length h, length-append sent []))))
some_is sent taken (Some c) h = sym (lt-ltb _ _ (simp (length-map) (omega (arith, ap length h, length-append sent (c ∷ [])))))

-- what is owed to the client at a place, by how much was put to it
owed_here : (load : Option Cargo) (to k n m : ℕ) → n + length (owed_to load to k) ≡ m → ((eqb to k ≡ true) × (to ≡ k)) ⊎ ((eqb to k ≡ false) × (to ≢ k)) → is_here (option_map (λ c. to) load) k ≡ nat_lt n m
owed_here None to k n m e (inl t) = let f : length (owed_to None to k) ≡ 0 = ap (λ b. length (if b then option_to_list {X = Cargo} None else [])) t.0 in sym (le-ltb n m (omega (arith, e, f)))
owed_here None to k n m e (inr t) = let f : length (owed_to None to k) ≡ 0 = ap (λ b. length (if b then option_to_list {X = Cargo} None else [])) t.0 in sym (le-ltb n m (omega (arith, e, f)))
owed_here (Some c) to k n m e (inl t) = let f : length (owed_to (Some c) to k) ≡ 1 = ap (λ b. length (if b then option_to_list (Some c) else [])) t.0 in t.0 ∙ sym (lt-ltb n m (omega (arith, e, f)))
owed_here (Some c) to k n m e (inr t) = let f : length (owed_to (Some c) to k) ≡ 0 = ap (λ b. length (if b then option_to_list (Some c) else [])) t.0 in t.0 ∙ sym (le-ltb n m (omega (arith, e, f)))

index_moves : (c k : ℕ) → c + suc k ≡ (c + 1) + k
index_moves c k = omega arith

shares_meet : (ends : Role → ℕ → End) (place : Option ℕ) (all : ℕ) (bytes : List ℕ) (drops : List Bool) (c : ℕ) (os : List Outlet) (items : Moved) → ((k : ℕ) (o : Outlet) → slice_get os k ≡ Some o → Agrees (ends Producer o.queue.0) o.state) → ((k : ℕ) (q : QueueId) → slice_get (map (λ (o : Outlet). o.queue) os) k ≡ Some q → is_here place (c + k) ≡ is_owed_to all bytes drops (c + k) q.0 items) → Meet ends (map outlet_post os) (needs_from (is_here place) c (map (λ (o : Outlet). o.queue) os)) (shares all bytes drops c (numbers (map (λ (o : Outlet). o.queue) os)) items)
shares_meet ends place all bytes drops c [] items agrees owed = tt
shares_meet ends place all bytes drops c (o ∷ os) items agrees owed =
    let z : c + 0 ≡ c = omega arith in (
      record { needs = subst (λ i. is_here place i ≡ is_owed_to all bytes drops i o.queue.0 items) z (owed 0 o.queue refl); agrees = agrees 0 o refl },
      shares_meet ends place all bytes drops (c + 1) os items (λ k x at. agrees (suc k) x at) (λ k q at. subst (λ i. is_here place i ≡ is_owed_to all bytes drops i q.0 items) (index_moves c k) (owed (suc k) q at)),
    )

nobody_owed : (all : ℕ) (bytes : List ℕ) (drops : List Bool) (c : ℕ) (qs : List QueueId) (items : Moved) → ((k : ℕ) (q : QueueId) → slice_get qs k ≡ Some q → false ≡ is_owed_to all bytes drops (c + k) q.0 items) → some_owed all bytes drops c (numbers qs) items ≡ false
nobody_owed all bytes drops c [] items owed = refl
nobody_owed all bytes drops c (q ∷ qs) items owed =
    let z : c + 0 ≡ c = omega arith in
    let e : is_owed_to all bytes drops c q.0 items ≡ false = subst (λ i. is_owed_to all bytes drops i q.0 items ≡ false) z (sym (owed 0 q refl)) in
    rw (e, nobody_owed all bytes drops (c + 1) qs items (λ k x at. subst (λ i. false ≡ is_owed_to all bytes drops i x.0 items) (index_moves c k) (owed (suc k) x at))) refl

one_owed : (to all : ℕ) (bytes : List ℕ) (drops : List Bool) (c : ℕ) (qs : List QueueId) (items : Moved) → c ≤ to → to < c + length qs → ((k : ℕ) (q : QueueId) → slice_get qs k ≡ Some q → nat_eq to (c + k) ≡ is_owed_to all bytes drops (c + k) q.0 items) → ((eqb to c ≡ true) × (to ≡ c)) ⊎ ((eqb to c ≡ false) × (to ≢ c)) → some_owed all bytes drops c (numbers qs) items ≡ true
one_owed to all bytes drops c [] items le lt owed t = absurd (omega arith)
one_owed to all bytes drops c (q ∷ qs) items le lt owed (inl t) =
    let z : c + 0 ≡ c = omega arith in
    let e : is_owed_to all bytes drops c q.0 items ≡ true = sym (subst (λ i. nat_eq to i ≡ is_owed_to all bytes drops i q.0 items) z (owed 0 q refl)) ∙ t.0 in
    rw e refl
one_owed to all bytes drops c (q ∷ qs) items le lt owed (inr t) =
    rw (one_owed to all bytes drops (c + 1) qs items (omega (arith, t.1)) (omega arith) (λ k x at. subst (λ i. nat_eq to i ≡ is_owed_to all bytes drops i x.0 items) (index_moves c k) (owed (suc k) x at)) (eqb_tells to (c + 1))) (or_true (is_owed_to all bytes drops c q.0 items))
  where
    or_true : (b : Bool) → (b || true) ≡ true
    or_true true = refl
    or_true false = refl

owed_some : (to : ℕ) (load : Option Cargo) (all : ℕ) (bytes : List ℕ) (drops : List Bool) (c : ℕ) (qs : List QueueId) (items : Moved) → (is_some load ≡ true → (c ≤ to) × (to < c + length qs)) → ((k : ℕ) (q : QueueId) → slice_get qs k ≡ Some q → is_here (option_map (λ x. to) load) (c + k) ≡ is_owed_to all bytes drops (c + k) q.0 items) → some_owed all bytes drops c (numbers qs) items ≡ is_some load
owed_some to None all bytes drops c qs items there owed = nobody_owed all bytes drops c qs items owed
owed_some to (Some x) all bytes drops c qs items there owed = let t = there refl in one_owed to all bytes drops c qs items t.0 t.1 owed (eqb_tells to c)

inputs_meet : (ends : Role → ℕ → End) (need need' : Bool) (c : ℕ) (is : List Intake) → need ≡ need' → ((k : ℕ) (i : Intake) → slice_get is k ≡ Some i → Agrees (ends Consumer i.queue.0) i.state) → Meet ends (map intake_post is) (needs_from (λ place. need) c (map (λ (i : Intake). i.queue) is)) (map (λ q. intake_want q need') (numbers (map (λ (i : Intake). i.queue) is)))
inputs_meet ends need need' c [] same agrees = tt
inputs_meet ends need need' c (i ∷ is) same agrees = (record { needs = same; agrees = agrees 0 i refl }, inputs_meet ends need need' (c + 1) is same (λ k x at. agrees (suc k) x at))

-- what an actor needs is what its sheet wants, of the items of the lists that it stands for
module _ (scene : Scene) (w : List Queue) (passed : Passed) (items : Moved) (h : HaveItems passed items) where
  said : (t : Terminal) → FitsTerminal (end_at w) t → TerminalStandsFor t passed → nat_lt t.next (length t.script) ≡ is_owed (items.sent t.output.queue.0) t.script
  said t f st =
      let n : length (items.sent t.output.queue.0) ≡ t.next = rw (← h.sent t.output.queue.0, st.sent_is) (simp (length-map, length-take) (omega (arith, f.next))) in
      ap (λ m. nat_lt m (length t.script)) (sym n)

  loaded : (p : Pipe) → PipeStandsFor p passed → is_some p.load ≡ is_owed (items.sent p.output.queue.0) (items.taken p.input.queue.0)
  loaded p st = rw (← h.sent p.output.queue.0, ← h.taken p.input.queue.0) (some_is (passed.sent p.output.queue.0) (passed.taken p.input.queue.0) p.load st)

  free : (p : Pipe) → PipeStandsFor p passed → is_none p.load ≡ not (is_owed (items.sent p.output.queue.0) (items.taken p.input.queue.0))
  free p st = none_is p.load ∙ ap not (loaded p st)

  -- what was put to a client, and what is owed to it, is what is due to it
  module _ (v : SerialVirtRx) (st : RxStandsFor v passed) (k : ℕ) (q : QueueId) (at : slice_get (outlet_queues v.outputs) k ≡ Some q) where
    abbrev part : List ℕ
    part = input_of (clients_of v) k (bytes_carried (passed.taken v.input.queue.0))

    abbrev gone : List Bool
    gone = (byte_fate v.input.queue.0 (taker_of v k q) passed.calls).dropped

    abbrev here : ClientStands (policy_of v k) (byte_fate v.input.queue.0 (taker_of v k q) passed.calls) (noes_at Producer q.0 passed.calls) part (passed.sent q.0) (owed_to v.load v.to k)
    here = st.clients k q at

    long : (bs : List ℕ) → passed.sent q.0 ++ owed_to v.load v.to k ≡ map byte_cargo bs → length (items.sent q.0) + length (owed_to v.load v.to k) ≡ length bs
    long bs e =
        let put : length (passed.sent q.0) ≡ length (items.sent q.0) = sym (length-map (passed.sent q.0) (λ (c : Cargo). c.0)) ∙ ap length (h.sent q.0) in
        let all = length-append (passed.sent q.0) (owed_to v.load v.to k) in
        let same = ap length e ∙ length-map bs byte_cargo in
        omega (arith, put, all, same)

    due_by : (b : Bool) → policy_of v k ≡ b → length (items.sent q.0) + length (owed_to v.load v.to k) ≡ length part - cond b (items.noes Producer q.0) 0
    due_by false e =
        let n = long part (held_client v.input.queue.0 (taker_of v k q) e passed.calls (noes_at Producer q.0 passed.calls) part (passed.sent q.0) (owed_to v.load v.to k) here) in
        omega (arith, n)
    due_by true e =
        let tells = here.tells e in
        let came = tells.came in
        let few : length gone ≤ length part = omega (arith, came) in
        let left = without_length gone part few in
        let n = long (without gone part) here.given in
        let each = sym (h.noes Producer q.0) ∙ tells.each in
        omega (arith, left, n, each)

    rx_due : length (items.sent q.0) + length (owed_to v.load v.to k) ≡ due_to (clients_of v) (bytes_carried (passed.taken v.input.queue.0)) v.drops.items k q.0 items
    rx_due = due_by (policy_of v k) refl

  rx_owed : (v : SerialVirtRx) → RxStandsFor v passed → (k : ℕ) (q : QueueId) → slice_get (outlet_queues v.outputs) k ≡ Some q → is_here (place_loaded v) (0 + k) ≡ is_owed_to (clients_of v) (bytes_carried (passed.taken v.input.queue.0)) v.drops.items (0 + k) q.0 items
  rx_owed v st k q at =
      let z : k ≡ 0 + k = omega arith in
      subst (λ i. is_here (place_loaded v) i ≡ is_owed_to (clients_of v) (bytes_carried (passed.taken v.input.queue.0)) v.drops.items i q.0 items) z (owed_here v.load v.to k (length (items.sent q.0)) (due_to (clients_of v) (bytes_carried (passed.taken v.input.queue.0)) v.drops.items k q.0 items) (rx_due v st k q at) (eqb_tells v.to k))

  -- whether a client drops is nothing to what is needed at its end
  drops_meet : (ends : Role → ℕ → End) (ds : List Bool) (ps : List Post) (ns : List Bool) (ws : List Want) → Meet ends ps ns ws → Meet ends (with_drops ds ps) ns ws
  drops_meet ends [] ps ns ws m = m
  drops_meet ends (d ∷ ds) [] ns ws m = m
  drops_meet ends (d ∷ ds) (p ∷ ps) [] ws m = m
  drops_meet ends (d ∷ ds) (p ∷ ps) (n ∷ ns) [] m = m
  drops_meet ends (d ∷ ds) (p ∷ ps) (n ∷ ns) (w ∷ ws) m = (record { needs = m.0.needs; agrees = m.0.agrees }, drops_meet ends ds ps ns ws m.1)

  rx_meets : (v : SerialVirtRx) → FitsRx (end_at w) v → RxStandsFor v passed → Meet (end_at w) (rx_round v).posts (rx_round v).needs ((sheet scene (part_of (Kinds.SerialVirtRx v))).wants items)
  rx_meets v f st =
      let n : length (numbers (outlet_queues v.outputs)) ≡ clients_of v = simp length-map in
      let heard : bytes_in (items.taken v.input.queue.0) ≡ bytes_carried (passed.taken v.input.queue.0) = sym (carried_in (passed.taken v.input.queue.0) ∙ ap bytes_in (h.taken v.input.queue.0)) in
      rw (n, heard) (
        record { needs = none_is v.load ∙ ap not (sym (owed_some v.to v.load (clients_of v) (bytes_carried (passed.taken v.input.queue.0)) v.drops.items 0 (outlet_queues v.outputs) items (λ some. (omega arith, let lt = st.to some in omega arith)) (rx_owed v st))); agrees = f.input },
        drops_meet (end_at w) v.drops.items (outlet_posts v.outputs) (needs_from (is_here (place_loaded v)) 0 (outlet_queues v.outputs)) (shares (clients_of v) (bytes_carried (passed.taken v.input.queue.0)) v.drops.items 0 (numbers (outlet_queues v.outputs)) items)
            (shares_meet (end_at w) (place_loaded v) (clients_of v) (bytes_carried (passed.taken v.input.queue.0)) v.drops.items 0 v.outputs.ends.items items f.outputs.agrees (rx_owed v st)),
      )

  tx_held : (v : SerialVirtTx) → TxStandsFor v passed → is_some v.load ≡ is_held v.output.queue.0 (numbers (intake_queues v.inputs)) items
  tx_held v st =
      let all : length (passed.sent v.output.queue.0 ++ option_to_list v.load) ≡ total (map (λ (q : QueueId). passed.taken q.0) (intake_queues v.inputs)) = merge_total _ _ st in
      let put : length (passed.sent v.output.queue.0) ≡ length (items.sent v.output.queue.0) = sym (length-map (passed.sent v.output.queue.0) (λ (c : Cargo). c.0)) ∙ ap length (h.sent v.output.queue.0) in
      held_is v.load (length (items.sent v.output.queue.0)) (taken_count (numbers (intake_queues v.inputs)) items) (let a = length-append (passed.sent v.output.queue.0) (option_to_list v.load) in let b = took_count (intake_queues v.inputs) in omega arith)
    where
      took_count : (qs : List QueueId) → total (map (λ (q : QueueId). passed.taken q.0) qs) ≡ taken_count (numbers qs) items
      took_count [] = refl
      took_count (q ∷ qs) =
          let put : length (passed.taken q.0) ≡ length (items.taken q.0) = sym (length-map (passed.taken q.0) (λ (c : Cargo). c.0)) ∙ ap length (h.taken q.0) in
          ap (λ n. n + total (map (λ (q : QueueId). passed.taken q.0) qs)) put ∙ ap (λ n. length (items.taken q.0) + n) (took_count qs)

  tx_meets : (v : SerialVirtTx) → FitsTx (end_at w) v → TxStandsFor v passed → Meet (end_at w) (tx_round v).posts (tx_round v).needs ((sheet scene (part_of (Kinds.SerialVirtTx v))).wants items)
  tx_meets v f st =
      let held : is_some v.load ≡ is_held v.output.queue.0 (numbers (intake_queues v.inputs)) items = tx_held v st in
      (record { needs = held; agrees = f.output }, inputs_meet (end_at w) (is_none v.load) (not (is_held v.output.queue.0 (numbers (intake_queues v.inputs)) items)) 0 v.inputs.ends.items (none_is v.load ∙ ap not held) f.inputs.agrees)

  terminal_meets : (t : Terminal) → FitsTerminal (end_at w) t → TerminalStandsFor t passed → Meet (end_at w) (terminal_round t).posts (terminal_round t).needs (intake_want t.input.queue.0 true ∷ outlet_want t.output.queue.0 (is_owed (items.sent t.output.queue.0) t.script) ∷ [])
  terminal_meets t f st = (record { needs = refl; agrees = f.input }, (record { needs = said t f st; agrees = f.output }, tt))

  driver_meets : (x : UartDriver) → FitsActor (end_at w) (Kinds.UartDriver x) → ActorStandsFor (Kinds.UartDriver x) passed → Meet (end_at w) (actor_round (Kinds.UartDriver x)).posts (actor_round (Kinds.UartDriver x)).needs ((sheet scene (part_of (Kinds.UartDriver x))).wants items)
  driver_meets x f st = (
    record { needs = free x.driver.pipes.first st.0; agrees = f.each.0.input },
    (
      record { needs = loaded x.driver.pipes.first st.0; agrees = f.each.0.output },
      (
        record { needs = free x.driver.pipes.rest st.1.0; agrees = f.each.1.0.input },
        (record { needs = loaded x.driver.pipes.rest st.1.0; agrees = f.each.1.0.output }, tt),
      ),
    ),
  )

-- an actor is at rest where its sheet's wants are settled
module _ (history : History) (journal : List Entry) (w : List Queue) (bells : HaveBells w history journal) (scene : Scene) (passed : Passed) (has : HaveItems passed (moved history journal)) where
  settled_so : (x : Actor) → manner_of (part_of x) ≡ Calm → Meet (end_at w) (actor_round x).posts (actor_round x).needs ((sheet scene (part_of x)).wants (moved history journal)) → actor_rests x ≡ all_settled history journal ((sheet scene (part_of x)).wants (moved history journal))
  settled_so x calm meet = rests_is x calm ∙ all_here history journal w bells (actor_round x).posts (actor_round x).needs ((sheet scene (part_of x)).wants (moved history journal)) meet

  rest_of : (x : Actor) → manner_of (part_of x) ≡ Calm → InTurn scene x passed → FitsActor (end_at w) x → ActorStandsFor x passed → actor_rests x ≡ all_settled history journal ((sheet scene (part_of x)).wants (moved history journal))
  rest_of (Kinds.UartDevice x) calm turn f st = settled_so (Kinds.UartDevice x) calm (terminal_meets scene w passed (moved history journal) has x.terminal f st)
  rest_of (Kinds.SerialClient x) calm turn f st = settled_so (Kinds.SerialClient x) calm (terminal_meets scene w passed (moved history journal) has x.terminal f st)
  rest_of (Kinds.SerialVirtRx x) calm turn f st = settled_so (Kinds.SerialVirtRx x) calm (rx_meets scene w passed (moved history journal) has x f st)
  rest_of (Kinds.SerialVirtTx x) calm turn f st = settled_so (Kinds.SerialVirtTx x) calm (tx_meets scene w passed (moved history journal) has x f st)
  rest_of (Kinds.UartDriver x) calm turn f st = settled_so (Kinds.UartDriver x) calm (driver_meets scene w passed (moved history journal) has x f st)
  rest_of (Kinds.EthDevice x) calm turn f st = device_rest scene history journal w passed has bells x f.0 st
  rest_of (Kinds.EthDriver x) calm turn f st = driver_rest scene history journal w passed has bells (four_pipes x.driver.pipes) x.driver.turn.last f st
  rest_of (Kinds.NetVirtRx x) calm turn f st = receiver_rest scene history journal w passed has bells x turn f st
  rest_of (Kinds.NetCopier x) calm turn f st = copier_rest scene history journal w passed has bells x turn f st
  rest_of (Kinds.NetClient x) calm turn f st = client_rest scene history journal w passed has bells x turn.1 f.0 st
  rest_of (Kinds.NetVirtTx x) calm turn f st = sender_rest history journal w passed has bells x turn.good turn.in_turn f st
  rest_of (Kinds.DiskDevice x) calm turn f st = block.disk_rest scene history journal w passed has bells x.start.value x.device turn f st
  rest_of (Kinds.BlkDriver x) calm turn f st = block.driver_rest scene history journal w passed has bells (two_pipes x.driver.pipes) x.driver.turn.last f st
  rest_of (Kinds.BlkVirt x) calm turn f st = block.virt_rest scene history journal w passed has bells x turn f.0 st
  rest_of (Kinds.BlkClient x) calm turn f st = block.client_rest scene history journal w passed has bells x turn f st
  rest_of (Kinds.Rogue x) calm turn f st = cc

pub rests : (history : History) (journal : List Entry) (w : List Queue) → HaveBells w history journal → (scene : Scene) (x : Actor) (passed : Passed) → manner_of (part_of x) ≡ Calm → InTurn scene x passed → FitsActor (end_at w) x → ActorStandsFor x passed → HaveItems passed (moved history journal) → actor_rests x ≡ all_settled history journal ((sheet scene (part_of x)).wants (moved history journal))
rests history journal w bells scene x passed calm turn fits stands has = rest_of history journal w bells scene passed has x calm turn fits stands
