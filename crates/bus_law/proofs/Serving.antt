use Rattle.std.proofs.Common.{◌≡◌, ◌==◌, ◌&&◌, ◌⊎◌, ◌+◌, ◌*◌, ◌%◌, ◌<◌, ◌≤◌, ◌++◌, ℕ, zero, suc, Bool, true, false, cond, nat_lt, is_some, Option, Some, None, List, [], ◌∷◌, All, length, length-append, drop, map, slice_get, refl, sym, ap, ◌∙◌, subst, arith, append_assoc, append-nil, inl, inr}
use Rattle.std.specs.Option.{option_to_list, option_map}
use Rattle.std.specs.List.{filter}
use Rattle.std.proofs.Math.Nat.{mod-lt}
use Rattle.std.proofs.lemmas.Bool.{cases_lt, lt-ltb, eq-eqb}
use Rattle.std.proofs.lemmas.List.{map-append}
use Rattle.std.proofs.lemmas.List.Elements.{All-cons}
use Rattle.cargo_core.specs.Lists.{IsPrefix}
use Rattle.cargo_core.specs.declared.item.PoolId.{PoolId}
use Rattle.wire_core.specs.declared.names.QueueId.{QueueId}
use Rattle.wire_core.specs.Deeds.{Cargo}
use Rattle.wire_core.specs.Lists.{Passed}
use Rattle.buffer_kit.specs.Clients.{queue_at}
use Rattle.play_core.proofs.Lists.{some_is, there_is, there_below}
use Rattle.small_system.specs.Tales.{Moment}
use Rattle.i2c_text.specs.declared.bus.Bus.{Bus}
use Rattle.i2c_text.specs.declared.bus.BusAsk.{BusAsk}
use Rattle.i2c_virt.specs.declared.i2c_kit.alone.Request.{Request}
use Rattle.i2c_virt.specs.declared.i2c_kit.device.Device.{Device}
use Rattle.i2c_virt.specs.declared.i2c_kit.page.Head.{Head}
use Rattle.i2c_virt.specs.I2cKit.Devices.{new_devices}
use Rattle.i2c_virt.specs.I2cKit.Entries.{item_at, own_place, names, is_own_request}
use Rattle.i2c_virt.specs.I2cKit.Pages.{SpellsRequest, request_in, head_in, asked}
use Rattle.i2c_virt.specs.I2cKit.Serving.{answer_to, answers_to, done}
use Rattle.i2c_virt.specs.I2cClient.Asking.{AreAsked, IsAsked, AreAnswered}
use Rattle.i2c_virt.proofs.I2cClient.Lists.{asked_before}
use Rattle.i2c_virt.specs.declared.desk.Desk.{Desk}
use Rattle.i2c_virt.specs.declared.work.From.{From}
use Rattle.i2c_virt.specs.declared.work.From.TheVariants as Source
use Rattle.i2c_virt.specs.declared.work.Stray.{Stray}
use Rattle.i2c_virt.specs.declared.work.Work.{Work}
use Rattle.i2c_virt.specs.Desks.{DeskStands, AreGiven}
use Rattle.i2c_virt.specs.Works.{Took, IsTook, IsSomeones, requests_in, clients_in, judged_of, entries_of, of_client}
use Rattle.i2c_virt.specs.Virtualising.{VirtStands, IsAstray, order_of, strays_by, strays_of, if_client, if_client_number}
use Rattle.i2c_virt.proofs.Desking.{given_fewer}
use Rattle.bus_law.specs.I2cLaw.Shares.{asks_of}
use Rattle.bus_law.specs.I2cLaw.Moments.{AreServed, IsServed}
use Rattle.bus_law.proofs.I2cLaw.Meeting.{script_first}
use Rattle.bus_law.specs.declared.i2c_actors.member.Member.{Member}
use Rattle.bus_law.specs.I2cActors.Casting.{AreEverySecond}
use Rattle.bus_law.specs.Takes.{script_of, request_queues, request_of, turns_of, next_requests, requests_by}
use Rattle.bus_law.proofs.Lists.{prefix_then, prefix_part, prefix_at, get_first, get_behind, same_lists, queue_is, all_head, all_tail}
use Rattle.bus_law.proofs.Staging.{Stage}

-- At a moment the actors' rows meet, and the requests are those that the calls show.

-- the answers to the first are the first answers
pub answers_first : (ds : List Device) (xs ys : List Cargo) → IsPrefix xs ys → IsPrefix (answers_to ds xs) (answers_to ds ys)
answers_first ds xs ys pre = subst (λ l. IsPrefix (answers_to ds xs) (answers_to ds l)) pre.1 (go ds xs pre.0)
  where
    go : (ds : List Device) (xs rest : List Cargo) → IsPrefix (answers_to ds xs) (answers_to ds (xs ++ rest))
    go ds [] rest = (answers_to ds rest, refl)
    go ds (x ∷ xs) rest = let more = go (done ds x) xs rest in (more.0, ap (λ l. answer_to ds x ∷ l) more.1)

-- an entry that was asked is a request in turn
pub record AskedAt (pool : PoolId) (k : ℕ) (x : Cargo) : Type 0 where
  pub ask : BusAsk
  pub is : IsAsked pool k ask x

pub asked_at : (pool : PoolId) (k : ℕ) (asks : List BusAsk) (xs : List Cargo) → AreAsked pool k asks xs → (i : ℕ) (x : Cargo) → slice_get xs i ≡ Some x → AskedAt pool (k + i) x
asked_at pool k asks [] are i x at = cc
asked_at pool k [] (y ∷ xs) are i x at = absurd are
asked_at pool k (a ∷ asks) (y ∷ xs) are zero x at =
    let e : k ≡ k + 0 = omega arith in
    subst (λ m. AskedAt pool m x) e (record { ask = a; is = subst (IsAsked pool k a) (some_is at) are.0 })
asked_at pool k (a ∷ asks) (y ∷ xs) are (suc i) x at =
    let e : (k + 1) + i ≡ k + suc i = omega arith in
    subst (λ m. AskedAt pool m x) e (asked_at pool (k + 1) asks xs are.1 i x at)

pub spelled_head : (page : List ℕ) (ask : BusAsk) → SpellsRequest page ask → is_some (head_in page) ≡ true
unfolding request_in
spelled_head page ask h = by (head_in page) h
  where
    by : (o : Option Head) → option_map (λ (h : Head). asked h.operation h.address h.count (drop 4 page)) o ≡ Some ask → is_some o ≡ true
    by None e = cc
    by (Some x) e = refl

pub all_three : (a b c : Bool) → a ≡ true → b ≡ true → c ≡ true → (a && b && c) ≡ true
all_three true true true h g f = refl
all_three true true false h g f = cc
all_three true false c h g f = cc
all_three false b c h g f = cc

pub all_four : (a b c d : Bool) → a ≡ true → b ≡ true → c ≡ true → d ≡ true → (a && b && c && d) ≡ true
all_four true true true true h g f e = refl
all_four true true true false h g f e = cc
all_four true true false d h g f e = cc
all_four true false c d h g f e = cc
all_four false b c d h g f e = cc

pub named : (place : ℕ) → names (item_at place) place ≡ true
named place = ap (λ (b : Bool). b && true) (eq-eqb place place refl)

asked_own : (pool : PoolId) (k : ℕ) (x : Cargo) → AskedAt pool k x → is_own_request pool x ≡ true
unfolding is_own_request
asked_own pool k x a =
    let h = a.is in
    ap (is_own_request pool) h.carried ∙ all_four (h.page.pool.0 == pool.0) (nat_lt h.page.no 2) (names (item_at (own_place h.page.no)) (own_place h.page.no)) (is_some (head_in h.page.bytes))
    (eq-eqb h.page.pool.0 pool.0 (ap (λ (p : PoolId). p.0) h.own)) (lt-ltb h.page.no 2 (subst (λ i. i < 2) (sym h.number) (mod-lt k (omega arith)))) (named (own_place h.page.no)) (spelled_head h.page.bytes a.ask h.spelled)

queues_many : (n : ℕ) → length (request_queues n) ≡ n
queues_many zero = refl
queues_many (suc n) =
    let e = queues_many n in
    let q : QueueId = record { 0 = 2 * n } in
    let f = length-append (request_queues n) (q ∷ []) in
    omega (arith, e, f)

queues_each : (n k : ℕ) → k < n → slice_get (request_queues n) k ≡ Some (record { 0 = 2 * k })
queues_each zero k lt = absurd (omega (arith, lt))
queues_each (suc n) k lt = by (λ less. queues_each n k less) (cases_lt k n)
  where
    by : (k < n → slice_get (request_queues n) k ≡ Some (record { 0 = 2 * k })) → (k < n) ⊎ (n ≤ k) → slice_get (request_queues (suc n)) k ≡ Some (record { 0 = 2 * k })
    by rest (inl less) = get_first (request_queues n) (record { 0 = 2 * n } ∷ []) k (record { 0 = 2 * k }) (rest less)
    by rest (inr more) =
        let same : n ≡ k = omega (arith, lt, more) in
        let q : QueueId = record { 0 = 2 * n } in
        subst (λ m. slice_get (request_queues n ++ q ∷ []) m ≡ Some (record { 0 = 2 * m })) same
        (subst (λ m. slice_get (request_queues n ++ q ∷ []) m ≡ Some q) (queues_many n) (get_behind (request_queues n) q []))

pub queues_are : (n : ℕ) (reqs : List QueueId) → AreEverySecond 0 n reqs → reqs ≡ request_queues n
queues_are n reqs h = same_lists reqs (request_queues n) (h.many ∙ sym (queues_many n)) (λ k q at.
    let lt = there_below reqs k q at in
    let many = h.many in
    let less : k < n = omega (arith, lt, many) in
    let e : 2 * k ≡ 2 * k + 0 = omega arith in
    queues_each n k less ∙ (ap (λ (m : ℕ). Some (let r : QueueId = record { 0 = m } in r)) e ∙ (sym (h.each k less) ∙ at)))

-- the requests that clients give, each its next one, are those of which each client's are its own in their order
turns_many : (c : ℕ) (rs : List Request) → turns_of c (map (λ (r : Request). r.client) rs) ≡ length (asks_of c rs)
turns_many c [] = refl
turns_many c (r ∷ rs) = by (r.client == c) refl (turns_many c rs)
  where
    by : (b : Bool) → (r.client == c) ≡ b → turns_of c (map (λ (r : Request). r.client) rs) ≡ length (asks_of c rs) → turns_of c (map (λ (r : Request). r.client) (r ∷ rs)) ≡ length (asks_of c (r ∷ rs))
    by true e rest = subst (λ (b : Bool). length (cond b (r.client ∷ filter (λ d. d == c) (map (λ (r : Request). r.client) rs)) (filter (λ d. d == c) (map (λ (r : Request). r.client) rs))) ≡ length (cond b (r.ask ∷ asks_of c rs) (asks_of c rs))) (sym e) (ap suc rest)
    by false e rest = subst (λ (b : Bool). length (cond b (r.client ∷ filter (λ d. d == c) (map (λ (r : Request). r.client) rs)) (filter (λ d. d == c) (map (λ (r : Request). r.client) rs))) ≡ length (cond b (r.ask ∷ asks_of c rs) (asks_of c rs))) (sym e) rest

asks_join : (c : ℕ) (a b : List Request) → asks_of c (a ++ b) ≡ asks_of c a ++ asks_of c b
asks_join c [] b = refl
asks_join c (r ∷ a) b = by (r.client == c) (asks_join c a b)
  where
    by : (t : Bool) → asks_of c (a ++ b) ≡ asks_of c a ++ asks_of c b → cond t (r.ask ∷ asks_of c (a ++ b)) (asks_of c (a ++ b)) ≡ cond t (r.ask ∷ asks_of c a) (asks_of c a) ++ asks_of c b
    by true e = ap (λ l. r.ask ∷ l) e
    by false e = e

asks_own : (r : Request) (rs : List Request) → asks_of r.client (r ∷ rs) ≡ r.ask ∷ asks_of r.client rs
asks_own r rs = ap (λ (b : Bool). cond b (r.ask ∷ asks_of r.client rs) (asks_of r.client rs)) (eq-eqb r.client r.client refl)

module _ (bus : Bus) where
  next_are : (before rs : List Request) → All (λ (r : Request). r.client < bus.clients) rs → ((c : ℕ) → c < bus.clients → IsPrefix (asks_of c (before ++ rs)) (script_of bus c)) → next_requests bus (map (λ (r : Request). r.client) before) (map (λ (r : Request). r.client) rs) ≡ rs
  next_are before [] few own = refl
  next_are before (r ∷ rs) few own =
      let c = r.client in
      let firsts = asks_of c before in
      let whole : asks_of c (before ++ r ∷ rs) ≡ firsts ++ r.ask ∷ asks_of c rs = asks_join c before (r ∷ rs) ∙ ap (λ l. firsts ++ l) (asks_own r rs) in
      let there : slice_get (script_of bus c) (length firsts) ≡ Some r.ask = prefix_at (asks_of c (before ++ r ∷ rs)) (script_of bus c) (own c (all_head (λ (r : Request). r.client < bus.clients) r rs few)) (length firsts) r.ask
      (ap (λ l. slice_get l (length firsts)) whole ∙ get_behind firsts r.ask (asks_of c rs)) in
      let here : slice_get (script_of bus c) (turns_of c (map (λ (r : Request). r.client) before)) ≡ Some r.ask = ap (slice_get (script_of bus c)) (turns_many c before) ∙ there in
      let tail = next_are (before ++ r ∷ []) rs (all_tail (λ (r : Request). r.client < bus.clients) r rs few) (λ d lt. subst (λ l. IsPrefix (asks_of d l) (script_of bus d)) (sym (append_assoc before (r ∷ []) rs)) (own d lt)) in
      ap (λ (o : Option BusAsk). request_of c o ++ next_requests bus (map (λ (r : Request). r.client) before ++ c ∷ []) (map (λ (r : Request). r.client) rs)) here
      ∙ ap (λ l. r ∷ l) (ap (λ l. next_requests bus l (map (λ (r : Request). r.client) rs)) (sym (map-append (λ (r : Request). r.client) before (r ∷ []))) ∙ tail)

  clients_are : (log : List Took) → map (λ (r : Request). r.client) (requests_in log) ≡ clients_in log
  clients_are [] = refl
  clients_are (t ∷ log) = ap (λ l. t.request.client ∷ l) (clients_are log)

module _ (bus : Bus) (mo : Moment Member) (passed : Passed) (st : Stage bus mo passed) where
  abbrev n : ℕ
  n = bus.clients

  abbrev S : ℕ → List Cargo
  S q = passed.sent q

  abbrev T : ℕ → List Cargo
  T q = passed.taken q

  abbrev ds : List Device
  ds = new_devices bus.devices

  abbrev w : Work
  w = st.virt.virt.work

  abbrev vs : VirtStands (2 * n + 1) (2 * n) st.reqs st.resps w passed
  vs = st.virt.stands

  abbrev pub log_now : List Took
  log_now = vs.log

  abbrev pub back_now : List Cargo
  back_now = vs.back

  pub flow : (q : ℕ) → IsPrefix (T q) (S q)
  flow q = prefix_part (T q) _ (S q) (st.flows q)

  -- what the bus took are the first of what went to the driver
  pub requests_first : IsPrefix st.bus_itself.requests (S (2 * n))
  requests_first =
      prefix_then st.bus_itself.requests (T (2 * n + 2)) (S (2 * n)) (prefix_part st.bus_itself.requests _ (T (2 * n + 2)) st.bus_itself.taken)
      (prefix_then (T (2 * n + 2)) (S (2 * n + 2)) (S (2 * n)) (flow (2 * n + 2))
      (prefix_then (S (2 * n + 2)) (T (2 * n)) (S (2 * n)) (prefix_part (S (2 * n + 2)) _ (T (2 * n)) st.driver.there_is) (flow (2 * n))))

  -- what comes back are the first of the answers to that
  pub came_first : IsPrefix (T (2 * n + 1)) (answers_to ds (S (2 * n)))
  came_first =
      prefix_then (T (2 * n + 1)) (S (2 * n + 1)) (answers_to ds (S (2 * n))) (flow (2 * n + 1))
      (prefix_then (S (2 * n + 1)) (T (2 * n + 3)) (answers_to ds (S (2 * n))) (prefix_part (S (2 * n + 1)) _ (T (2 * n + 3)) st.driver.back_is)
      (prefix_then (T (2 * n + 3)) (S (2 * n + 3)) (answers_to ds (S (2 * n))) (flow (2 * n + 3))
      (prefix_then (S (2 * n + 3)) (answers_to ds st.bus_itself.requests) (answers_to ds (S (2 * n))) (prefix_part (S (2 * n + 3)) _ (answers_to ds st.bus_itself.requests) (sym st.bus_itself.answered))
      (answers_first ds st.bus_itself.requests (S (2 * n)) requests_first))))

  pub back_first : IsPrefix back_now (answers_to ds (S (2 * n)))
  back_first = prefix_then back_now (T (2 * n + 1)) (answers_to ds (S (2 * n))) (prefix_part back_now _ (T (2 * n + 1)) vs.responses) came_first

  pub desk_below : (k : ℕ) → k < n → k < length w.desks.items
  desk_below k lt = let m = st.virt.many in omega (arith, lt, m)

  pub desk_at : (k : ℕ) → k < n → (d : Desk) × (slice_get w.desks.items k ≡ Some d)
  desk_at k lt = there_is w.desks.items k (desk_below k lt)

  pub req_queue : (k : ℕ) → k < n → queue_at st.reqs k ≡ 2 * k
  req_queue k lt = let e : 2 * k + 0 ≡ 2 * k = omega arith in queue_is st.reqs k (record { 0 = 2 * k + 0 }) (st.reqs_are.each k lt) ∙ e

  pub resp_queue : (k : ℕ) → k < n → queue_at st.resps k ≡ 2 * k + 1
  resp_queue k lt = queue_is st.resps k (record { 0 = 2 * k + 1 }) (st.resps_are.each k lt)

  pub desk_stands : (k : ℕ) → k < n → (d : Desk) → slice_get w.desks.items k ≡ Some d → DeskStands k d (judged_of k log_now) (of_client k (S (2 * n))) (of_client k back_now) (S (2 * k + 1))
  desk_stands k lt d at = subst (λ q. DeskStands k d (judged_of k log_now) (of_client k (S (2 * n))) (of_client k back_now) (S q)) (resp_queue k lt) (vs.stands.desks k d at)

  pub served : AreServed n bus.devices log_now (S (2 * n)) back_now
  served = record {
    took = subst (λ m. All (IsTook m) log_now) st.virt.many vs.stands.took;
    someones = subst (λ m. All (IsSomeones m) (S (2 * n))) st.virt.many vs.stands.someones;
    sends = λ k lt. let d = desk_at k lt in (option_to_list d.0.leaving, (desk_stands k lt d.0 d.1).went);
    answers = back_first;
  }

  pub taken_from : (k : ℕ) → k < n → T (2 * k) ≡ entries_of k log_now ++ strays_of k w.stray
  taken_from k lt = ap T (sym (req_queue k lt)) ∙ vs.requests k (desk_below k lt)

  pub asked_by : (c : ℕ) → c < n → AreAsked (record { 0 = c }) 0 (script_of bus c) (S (2 * c))
  asked_by c lt =
      let cl = st.clients c lt in
      subst (λ pool. AreAsked pool 0 (script_of bus c) (S (2 * c))) cl.pool
      (subst (λ script. AreAsked cl.client.asking.pool 0 script (S (2 * c))) cl.script_is
      (asked_before cl.client.asking.pool 0 cl.client.asking.script (S (2 * c)) (option_to_list cl.client.asking.load) cl.stands.stands.asks))

  pub answered_by : (c : ℕ) (lt : c < n) → AreAnswered (record { 0 = c }) 0 (script_of bus c) (st.clients c lt).stands.came (st.clients c lt).client.asking.replies.shown
  answered_by c lt =
      let cl = st.clients c lt in
      subst (λ pool. AreAnswered pool 0 (script_of bus c) cl.stands.came cl.client.asking.replies.shown) cl.pool
      (subst (λ script. AreAnswered cl.client.asking.pool 0 script cl.stands.came cl.client.asking.replies.shown) cl.script_is cl.stands.stands.replied)

  pub client_served : (c : ℕ) (lt : c < n) → IsServed c (record { 0 = c }) (script_of bus c) log_now back_now (S (2 * c)) (S (2 * c + 1)) (st.clients c lt).stands.came (st.clients c lt).client.asking.replies.shown
  client_served c lt =
      let cl = st.clients c lt in
      let d = desk_at c lt in
      let s = desk_stands c lt d.0 d.1 in
      record {
        asks = asked_by c lt;
        taken = prefix_then (entries_of c log_now) (T (2 * c)) (S (2 * c)) (prefix_part (entries_of c log_now) _ (T (2 * c)) (taken_from c lt)) (flow (2 * c));
        answers = subst (λ js. AreGiven js (of_client c back_now) (S (2 * c + 1))) (sym s.parts) (given_fewer s.before s.under_way (of_client c back_now) (S (2 * c + 1)) (option_to_list d.0.held) s.given);
        comes = prefix_then cl.stands.came (T (2 * c + 1)) (S (2 * c + 1)) (prefix_part cl.stands.came _ (T (2 * c + 1)) cl.stands.taken) (flow (2 * c + 1));
        recorded = answered_by c lt;
      }

  -- no client puts what is no request
  if_mine : (k : ℕ) (x : Cargo) → if_client k (Source.Client k) x ≡ x ∷ []
  if_mine k x = ap (λ (b : Bool). cond b (x ∷ []) []) (eq-eqb k k refl)

  pub from_no_client : (s : Stray) → w.stray ≡ Some s → (k : ℕ) → s.from ≡ Source.Client k → ⊥
  from_no_client s at k is =
      let astray : IsAstray (length w.desks.items) (S (2 * n)) back_now (Source.Client k) s.entry = subst (λ f. IsAstray (length w.desks.items) (S (2 * n)) back_now f s.entry) is (vs.out_of_turn s at) in
      let below = astray.0 in
      let many = st.virt.many in
      let lt : k < n = omega (arith, below, many) in
      let took : T (2 * k) ≡ entries_of k log_now ++ s.entry ∷ [] = taken_from k lt ∙ (ap (λ (o : Option Stray). entries_of k log_now ++ strays_of k o) at ∙ (ap (λ (f : From). entries_of k log_now ++ if_client k f s.entry) is ∙ ap (λ l. entries_of k log_now ++ l) (if_mine k s.entry))) in
      let there : slice_get (S (2 * k)) (length (entries_of k log_now)) ≡ Some s.entry = prefix_at (T (2 * k)) (S (2 * k)) (flow (2 * k)) (length (entries_of k log_now)) s.entry (ap (λ l. slice_get l (length (entries_of k log_now))) took ∙ get_behind (entries_of k log_now) s.entry []) in
      let good = asked_own (record { 0 = k }) _ s.entry (asked_at (record { 0 = k }) 0 (script_of bus k) (S (2 * k)) (asked_by k lt) (length (entries_of k log_now)) s.entry there) in
      let no : true ≡ false = sym good ∙ astray.1 in
      cc

  none_by : (o : Option Stray) → w.stray ≡ o → strays_by o ≡ []
  none_by None is = refl
  none_by (Some s) is = by s.from refl
    where
      by : (f : From) → s.from ≡ f → if_client_number f ≡ []
      by Source.Driver e = refl
      by (Source.Client k) e = absurd (from_no_client s is k e)

  pub order_is : order_of (request_queues n) passed.calls ≡ clients_in log_now
  order_is =
      ap (λ l. order_of l passed.calls) (sym (queues_are n st.reqs st.reqs_are)) ∙ (vs.order ∙ (ap (λ l. clients_in log_now ++ l) (none_by w.stray refl) ∙ append-nil (clients_in log_now)))

  few_clients : (log : List Took) → All (IsTook n) log → All (λ (r : Request). r.client < n) (requests_in log)
  few_clients [] all = λ k r lt. absurd (omega (arith, lt))
  few_clients (t ∷ log) all = All-cons (λ (r : Request). r.client < n) t.request (requests_in log) (all_head (IsTook n) t log all).there (few_clients log (all_tail (IsTook n) t log all))

  pub requests_are : requests_by bus passed.calls ≡ requests_in log_now
  requests_are =
      ap (next_requests bus []) (order_is ∙ sym (clients_are bus log_now))
      ∙ next_are bus [] (requests_in log_now) (few_clients log_now served.took) (λ c lt.
      let s = client_served c lt in
      script_first n bus.devices log_now (S (2 * n)) back_now served c lt (record { 0 = c }) (script_of bus c) (S (2 * c)) (S (2 * c + 1)) (st.clients c lt).stands.came (st.clients c lt).client.asking.replies.shown s)
