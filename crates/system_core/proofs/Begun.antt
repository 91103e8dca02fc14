use Rattle.std.proofs.Common.{◌≡◌, ◌<◌, ◌≤◌, ◌+◌, ◌*◌, ◌^◌, ◌&&◌, ℕ, suc, Bool, true, false, not, Some, List, [], ◌∷◌, length, map, slice_get, refl, sym, ap, ◌∙◌, subst, arith}
use Rattle.std.specs.Option.{option_map, option_map_or}
use Rattle.std.proofs.lemmas.List.{length-map}
use Rattle.std.proofs.lemmas.Nat.{pow_pos}
use Rattle.cargo_core.specs.Lists.{IsPrefix}
use Rattle.sdf_plan.specs.declared.plan.Plan.{Plan}
use Rattle.sdf_plan.specs.declared.plan.Serial.{Serial}
use Rattle.sdf_plan.specs.declared.plan.SerialClient.{SerialClient as Client}
use Rattle.class_expect.specs.SerialSwitch.Switching.{input_of}
use Rattle.trace_text.specs.declared.trace.Trace.{Trace}
use Rattle.trace_text.specs.Events.{is_serial_rogue}
use Rattle.wire_core.specs.declared.names.QueueRow.{QueueRow}
use Rattle.wire_core.specs.Fates.{without}
use Rattle.wire_core.proofs.Fating.{without_length}
use Rattle.region_layout.specs.Rows.{uart_number}
use Rattle.play_core.specs.Moved.{Moved, Seat}
use Rattle.play_core.specs.Wants.{intake, outlet}
use Rattle.play_core.specs.Still.{Holds}
use Rattle.play_core.specs.Manners.{Calm}
use Rattle.play_core.proofs.Lists.{some_is, map_get, map_from, there_is, there_below}
use Rattle.serial_law.specs.Parts.{SerialPart, SerialClient}
use Rattle.serial_law.specs.Bytes.{bytes_in}
use Rattle.serial_law.specs.Table.{Marks}
use Rattle.serial_law.specs.Serial.{SerialClass, IsSerial, ArrivesWhole}
use Rattle.serial_law.specs.Beside.{HasQueue, IsSerialBeside, ArrivesBeside}
use Rattle.actor_set.specs.Parts.{Part, ClientPart}
use Rattle.actor_set.specs.Laws.Kinds.{manner_of, serial_part, sheet}
use Rattle.system_core.specs.Shows.{Setting, Shown, hostile_in, moved_in}
use Rattle.actor_set.specs.Laws.Records.{record_by}
use Rattle.system_core.specs.Lawful.{record_at, IsFitted, IsTold}
use Rattle.system_core.specs.Crews.{number_named}
use Rattle.system_core.specs.Builds.{class_of, serial_class}
use Rattle.system_core.specs.GivesBack.{SerialGivesBack}
use Rattle.system_core.proofs.Casting.{HasSerial}
use Rattle.system_core.specs.PlanPlays.{ShowsInPart, ShowsWhole}
use Rattle.actor_set.proofs.LawsLemmas.Calm.{calm_at}
use Rattle.cast_core.specs.Sources.{every_second, first_serial, serial_drops}
use Rattle.cast_core.proofs.Seconds.{second_get, second_there, second_length}

-- an actor of the serial class is one of a cast
abbrev pub There : Setting → SerialPart → Type 0
There s p = (k : ℕ) × (slice_get s.cast k ≡ Some (serial_part p))

-- the actors of the serial class are its actors
module _ (plan : Plan) (serial : Serial) (first : ℕ) (trace : Trace) (s : Setting) (fitted : IsFitted s) (h : HasSerial first plan serial trace s) (says : length trace.says ≡ length serial.client) where
  abbrev count : ℕ
  count = length serial.client

  -- a queue of which an actor has an end is there
  has : (k : ℕ) (p : Part) → slice_get s.cast k ≡ Some p → (i : ℕ) (x : Seat) → slice_get (sheet s.scene p).ends i ≡ Some x → HasQueue s.rows x.queue
  has k p at i x end = let seat = fitted.seated k p at i x end in (seat.0, seat.1)

  -- and the queue between two that aren't hostile can hold an entry
  holds : (n k j i l : ℕ) (p r : Part) → manner_of p ≡ Calm → manner_of r ≡ Calm → slice_get s.cast k ≡ Some p → slice_get (sheet s.scene p).ends i ≡ Some (outlet n) → slice_get s.cast j ≡ Some r → slice_get (sheet s.scene r).ends l ≡ Some (intake n) → Holds (hostile_in s) s.rows n 1
  holds n k j i l p r puts takes put put_end take take_end =
      let from = fitted.seated k p put i (outlet n) put_end in
      let to = fitted.seated j r take l (intake n) take_end in
      let row : QueueRow = from.0 in
      let same : to.0 ≡ row = some_is (sym to.1 ∙ from.1) in
      let producer : hostile_in s row.producer.0 ≡ false = ap (hostile_in s) from.2 ∙ calm_at s.cast k p put puts in
      let consumer : hostile_in s row.consumer.0 ≡ false = ap (λ (y : QueueRow). hostile_in s y.consumer.0) (sym same) ∙ (ap (hostile_in s) to.2 ∙ calm_at s.cast j r take takes) in
      let c = fitted.places n row from.1 in
      record { row = row; there = from.1; calm = neither producer consumer; enough = subst (λ m. 1 ≤ m) (sym c.2) (some_power c.0) }
    where
      some_power : (k : ℕ) → 1 ≤ 2 ^ k
      some_power k = let p : 0 < 2 ^ k = pow_pos k in omega (arith, p)

      neither : {a b : Bool} → a ≡ false → b ≡ false → (not a && not b) ≡ true
      neither x y = rw (x, y) refl

  -- the client of a number, where it isn't hostile
  client_is : (c q p : ℕ) (script : List ℕ) → is_serial_rogue plan c ≡ false → slice_get (every_second (first + 4) count) c ≡ Some q → slice_get (every_second (first + 5) count) c ≡ Some p → slice_get trace.says c ≡ Some script → There s (SerialClient q p script)
  client_is c q p script calm rx tx said =
      let g = second_get (first + 4) count c q rx in
      let p_is : p ≡ first + 5 + 2 * c = (second_get (first + 5) count c p tx).1 in
      let client = there_is serial.client c g.0 in
      let at : slice_get s.cast (number_named plan client.0.pd) ≡ Some (ClientPart (first + 4 + 2 * c) (first + 5 + 2 * c) script) = h.client c client.0 script calm client.1 said in (
        number_named plan client.0.pd,
        subst (λ n. slice_get s.cast (number_named plan client.0.pd) ≡ Some (ClientPart n p script)) (sym g.1)
            (subst (λ n. slice_get s.cast (number_named plan client.0.pd) ≡ Some (ClientPart (first + 4 + 2 * c) n script)) (sym p_is) at),
      )

  rx_many : length (every_second (first + 4) count) ≡ length trace.says
  rx_many = second_length (first + 4) count ∙ sym says

  tx_many : length (every_second (first + 5) count) ≡ length trace.says
  tx_many = second_length (first + 5) count ∙ sym says

  -- the end of a virtualiser at the queue of a client
  receiver_end : (c q : ℕ) → slice_get (every_second (first + 4) count) c ≡ Some q → slice_get (intake (first + 2) ∷ map outlet (every_second (first + 4) count)) (suc c) ≡ Some (outlet q)
  receiver_end c q at = map_get outlet (every_second (first + 4) count) c q at

  sender_end : (c q : ℕ) → slice_get (every_second (first + 5) count) c ≡ Some q → slice_get (outlet (first + 3) ∷ map intake (every_second (first + 5) count)) (suc c) ≡ Some (intake q)
  sender_end c q at = map_get intake (every_second (first + 5) count) c q at

  -- whichever of its clients are hostile
  pub serial_beside : IsSerialBeside (There s) (is_serial_rogue plan) s.rows (serial_class first count (serial_drops plan) trace)
  serial_beside = record {
    device = ((uart_number plan).0, h.device);
    driver = (number_named plan serial.driver, h.driver);
    receiver = (number_named plan serial.rx_virt, h.receiver);
    sender = (number_named plan serial.tx_virt, h.sender);
    client = client_is;
    rx_count = rx_many;
    tx_count = tx_many;
    has_device_rx = has _ _ h.device 1 (outlet first) refl;
    has_device_tx = has _ _ h.device 0 (intake (first + 1)) refl;
    has_rx = has _ _ h.driver 1 (outlet (first + 2)) refl;
    has_tx = has _ _ h.driver 2 (intake (first + 3)) refl;
    has_client_rx = λ c q at. has _ _ h.receiver (suc c) (outlet q) (receiver_end c q at);
    has_client_tx = λ c q at. has _ _ h.sender (suc c) (intake q) (sender_end c q at);
  }

  -- where none is
  module _ (calm : SerialGivesBack plan) where
    -- the client of a number
    client_at : (c q p : ℕ) → slice_get (every_second (first + 4) count) c ≡ Some q → slice_get (every_second (first + 5) count) c ≡ Some p → (script : List ℕ) × There s (SerialClient q p script)
    client_at c q p rx tx =
        let g = second_get (first + 4) count c q rx in
        let lt = g.0 in
        let script = there_is trace.says c (omega (arith, lt, says)) in
        (script.0, client_is c q p script.0 (calm c) rx tx script.1)

    pub serial_there : IsSerial (There s) (hostile_in s) s.rows (serial_class first count (serial_drops plan) trace)
    serial_there = record {
      device = ((uart_number plan).0, h.device);
      driver = (number_named plan serial.driver, h.driver);
      receiver = (number_named plan serial.rx_virt, h.receiver);
      sender = (number_named plan serial.tx_virt, h.sender);
      client = λ c q p script. client_is c q p script (calm c);
      rx_count = rx_many;
      tx_count = tx_many;
      holds_device_rx = holds first _ _ 1 0 _ _ refl refl h.device refl h.driver refl;
      holds_device_tx = holds (first + 1) _ _ 3 0 _ _ refl refl h.driver refl h.device refl;
      holds_rx = holds (first + 2) _ _ 1 0 _ _ refl refl h.driver refl h.receiver refl;
      holds_tx = holds (first + 3) _ _ 0 2 _ _ refl refl h.sender refl h.driver refl;
      holds_client_rx = λ c q at.
          let lt = (second_get (first + 4) count c q at).0 in
          let client = client_at c q (first + 5 + 2 * c) at (second_there (first + 5) count c lt) in
          holds q _ _ (suc c) 0 _ _ refl refl h.receiver (receiver_end c q at) client.1.1 refl;
      holds_client_tx = λ c q at.
          let lt = (second_get (first + 5) count c q at).0 in
          let client = client_at c (first + 4 + 2 * c) q (second_there (first + 4) count c lt) at in
          holds q _ _ 1 (suc c) _ _ refl refl client.1.1 refl h.sender (sender_end c q at);
    }

-- what is seen of the class is what its actors took
module _ (plan : Plan) (serial : Serial) (trace : Trace) (s : Shown) (h : HasSerial (first_serial plan) plan serial trace s.setting) (says : length trace.says ≡ length serial.client) (told : IsTold s) (marks : Marks) where
  abbrev first : ℕ
  first = first_serial plan

  abbrev clients : ℕ
  clients = length serial.client

  abbrev class : SerialClass
  class = class_of plan trace serial

  abbrev went : Moved
  went = moved_in s.setting s.journal

  -- the client of a number, and what its place says that it recorded
  seen : (c : ℕ) (got : List ℕ) → slice_get s.state.serial c ≡ Some got → (client : Client) × (slice_get serial.client c ≡ Some client) × (option_map_or (record_by went) (slice_get s.setting.cast (number_named plan client.pd)) [] ≡ got)
  seen c got at =
      let m = map_from (record_at s) s.setting.serial.clients c got (ap (λ rs. slice_get rs c) (sym told.serial) ∙ at) in
      let client = map_from (λ (x : Client). number_named plan x.pd) serial.client c m.0 (ap (λ ns. slice_get ns c) (sym h.clients_are) ∙ m.1) in
      (client.0, client.1, ap (λ k. option_map_or (record_by went) (slice_get s.setting.cast k) []) client.2 ∙ m.2)

  record_is : (c : ℕ) (got : List ℕ) → is_serial_rogue plan c ≡ false → slice_get s.state.serial c ≡ Some got → (slice_get class.client_rx c ≡ Some (first + 4 + 2 * c)) × (bytes_in (went.taken (first + 4 + 2 * c)) ≡ got)
  record_is c got calm at =
      let client = seen c got at in
      let lt = there_below serial.client c client.0 client.1 in
      let script = there_is trace.says c (omega (arith, lt, says)) in
      let is : slice_get s.setting.cast (number_named plan client.0.pd) ≡ Some (ClientPart (first + 4 + 2 * c) (first + 5 + 2 * c) script.0) = h.client c client.0 script.0 calm client.1 script.1 in
      (second_there (first + 4) clients c lt, sym (ap (λ o. option_map_or (record_by went) o []) is) ∙ client.2)

  -- a hostile client records nothing
  nothing_is : (c : ℕ) (got : List ℕ) → is_serial_rogue plan c ≡ true → slice_get s.state.serial c ≡ Some got → got ≡ []
  nothing_is c got rogue at =
      let client = seen c got at in
      sym client.2 ∙ ap (λ o. option_map_or (record_by went) o []) (h.hostile c client.0 rogue client.1).1

  line_is : s.state.line ≡ Some (bytes_in (went.taken (first + 1)))
  line_is =
      told.line ∙ (ap (option_map (record_at s)) h.device_is ∙ ap Some (ap (λ o. option_map_or (record_by went) o []) h.device))

  pub shows_in_part : ArrivesBeside marks (is_serial_rogue plan) class went → ShowsInPart plan trace serial marks went s.state
  shows_in_part a = record {
    count_is = ap length told.serial ∙ (length-map s.setting.serial.clients (record_at s) ∙ (ap length h.clients_are ∙ length-map serial.client (λ (x : Client). number_named plan x.pd)));
    records = λ c got at. begins c got at (is_serial_rogue plan c) refl;
    hostile = nothing_is;
    line = (bytes_in (went.taken (first + 1)), line_is, a.line);
  }
    where
      begins : (c : ℕ) (got : List ℕ) → slice_get s.state.serial c ≡ Some got → (b : Bool) → is_serial_rogue plan c ≡ b → IsPrefix got (without (marks c) (input_of clients c trace.input))
      begins c got at true rogue = subst (λ g. IsPrefix g (without (marks c) (input_of clients c trace.input))) (sym (nothing_is c got rogue at)) (without (marks c) (input_of clients c trace.input), refl)
      begins c got at false calm =
          let r = record_is c got calm at in
          subst (λ n. IsPrefix got (without (marks c) (input_of n c trace.input))) (second_length (first + 4) clients) (subst (λ x. IsPrefix x (without (marks c) (input_of (length class.client_rx) c trace.input))) r.1 (a.records c (first + 4 + 2 * c) r.0))

  pub shows_whole : SerialGivesBack plan → ((c q : ℕ) → slice_get class.client_rx c ≡ Some q → length (marks c) ≤ length (input_of (length class.client_rx) c class.input)) → ArrivesWhole marks class went → ShowsWhole clients trace marks s.state
  shows_whole calm fit a = record {
    records = all;
    lacks = λ c got at. (
        let r = record_is c got (calm c) at in
        let few : length (marks c) ≤ length (input_of clients c trace.input) = subst (λ n. length (marks c) ≤ length (input_of n c trace.input)) (second_length (first + 4) clients) (fit c (first + 4 + 2 * c) r.0) in
        let left = without_length (marks c) (input_of clients c trace.input) few in
        let is = ap length (all c got at) in
        omega (arith, left, is)
        );
    line = (bytes_in (went.taken (first + 1)), line_is, a.line);
  }
    where
      all : (c : ℕ) (got : List ℕ) → slice_get s.state.serial c ≡ Some got → got ≡ without (marks c) (input_of clients c trace.input)
      all c got at = let r = record_is c got (calm c) at in sym r.1 ∙ (a.records c (first + 4 + 2 * c) r.0 ∙ ap (λ n. without (marks c) (input_of n c trace.input)) (second_length (first + 4) clients))
