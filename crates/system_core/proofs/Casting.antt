use Rattle.std.proofs.Common.{◌≡◌, ◌+◌, ◌*◌, ℕ, true, false, if◌then◌else◌, Some, List, length, map, slice_get, unwrap_or, [], refl, ap, ◌∙◌}
use Rattle.std.specs.Option.{option_map_or}
use Rattle.sdf_plan.specs.declared.plan.Plan.{Plan}
use Rattle.sdf_plan.specs.declared.plan.Serial.{Serial}
use Rattle.sdf_plan.specs.declared.plan.SerialClient.{SerialClient as Client}
use Rattle.trace_text.specs.declared.trace.Trace.{Trace}
use Rattle.region_layout.specs.Rows.{uart_number}
use Rattle.serial_law.specs.Parts.{SerialPart, SerialDevice, SerialDriver, SerialReceiver, SerialSender, SerialClient}
use Rattle.layout_laws.specs.Jobs.Jobs as jobs
use Rattle.actor_set.specs.Parts.{RxPart, TxPart, ClientPart, HostilePart, RoguePart}
use Rattle.actor_set.specs.Laws.Kinds.{serial_part}
use Rattle.trace_text.specs.Events.{is_serial_rogue}
use Rattle.cast_core.specs.Casts.{calm_part}
use Rattle.cast_core.specs.Hostile.{acts_at, serial_rogue_at}
use Rattle.cast_core.specs.Sources.{every_second, first_serial, serial_drops}
use Rattle.layout_laws.proofs.SeatsLemmas.Naming.{serial_named}
use Rattle.system_core.specs.Shows.{Crew, Setting}
use Rattle.system_core.specs.States.{crew_of, nobody}
use Rattle.system_core.specs.Crews.{number_named}
use Rattle.cast_law.proofs.Restarted.{IsRogueAlike, plays_calm, plays_rogue}
use Rattle.system_core.specs.Builds.{IsCastOf}
use Rattle.system_core.proofs.Scripts.{serials}

-- the actor of this number is this one of the serial class
abbrev pub IsPart : Setting → ℕ → SerialPart → Type 0
IsPart s number part = slice_get s.cast number ≡ Some (serial_part part)

-- the actors of the serial class, each at its queues
pub record HasSerial (first : ℕ) (plan : Plan) (serial : Serial) (trace : Trace) (s : Setting) : Type 0 where
  pub device_is : s.serial.device ≡ Some (uart_number plan).0
  pub clients_are : s.serial.clients ≡ map (λ (c : Client). number_named plan c.pd) serial.client
  pub device : IsPart s (uart_number plan).0 (SerialDevice first (first + 1) trace.input)
  pub driver : IsPart s (number_named plan serial.driver) (SerialDriver first (first + 1) (first + 2) (first + 3))
  pub receiver : IsPart s (number_named plan serial.rx_virt) (SerialReceiver (first + 2) (every_second (first + 4) (length serial.client)) (serial_drops plan))
  pub sender : IsPart s (number_named plan serial.tx_virt) (SerialSender (first + 3) (every_second (first + 5) (length serial.client)))
  pub client : (c : ℕ) (client : Client) (script : List ℕ) → is_serial_rogue plan c ≡ false → slice_get serial.client c ≡ Some client → slice_get trace.says c ≡ Some script → IsPart s (number_named plan client.pd) (SerialClient (first + 4 + 2 * c) (first + 5 + 2 * c) script)
  pub hostile : (c : ℕ) (client : Client) → is_serial_rogue plan c ≡ true → slice_get serial.client c ≡ Some client → (r : RoguePart) × (slice_get s.cast (number_named plan client.pd) ≡ Some (HostilePart r)) × IsRogueAlike (serial_rogue_at first c (acts_at trace.serial_acts c)) r

pub has_serial : (plan : Plan) (trace : Trace) (s : Setting) → IsCastOf plan trace s → (serial : Serial) → plan.serial ≡ Some serial → HasSerial (first_serial plan) plan serial trace s
has_serial plan trace s cast serial has =
    let first = first_serial plan in
    let who : s.serial ≡ crew_of (Some (uart_number plan).0) (map (λ (c : Client). number_named plan c.pd) serial.client) =
    cast.serial ∙ ap (λ o. option_map_or (λ (x : Serial). crew_of (Some (uart_number plan).0) (map (λ (c : Client). number_named plan c.pd) x.client)) o nobody) has in
    let clients = serials plan serial has in
    let named = serial_named plan serial has in
    record {
      device_is = ap (λ (c : Crew). c.device) who;
      clients_are = ap (λ (c : Crew). c.clients) who;
      device = plays_calm plan trace s.cast cast.parts jobs.UartDevice _ named.device _ refl refl;
      driver = plays_calm plan trace s.cast cast.parts jobs.UartDriver _ named.driver _ refl refl;
      receiver = plays_calm plan trace s.cast cast.parts jobs.SerialReceiver _ named.receiver _ refl refl ∙ ap (λ (cs : List Client). Some (RxPart (first + 2) (every_second (first + 4) (length cs)) (serial_drops plan))) clients;
      sender = plays_calm plan trace s.cast cast.parts jobs.SerialSender _ named.sender _ refl refl ∙ ap (λ (cs : List Client). Some (TxPart (first + 3) (every_second (first + 5) (length cs)))) clients;
      client = λ c client script calm at said. plays_calm plan trace s.cast cast.parts (jobs.SerialClient c) _ (named.client c client at) _ (ap (λ b. if b then Some (HostilePart (serial_rogue_at first c (acts_at trace.serial_acts c))) else calm_part plan trace (jobs.SerialClient c)) calm ∙ ap (λ o. Some (ClientPart (first + 4 + 2 * c) (first + 5 + 2 * c) (unwrap_or o []))) said) refl;
      hostile = λ c client rogue at. plays_rogue plan trace s.cast cast.parts (jobs.SerialClient c) _ (named.client c client at) _ (ap (λ b. if b then Some (HostilePart (serial_rogue_at first c (acts_at trace.serial_acts c))) else calm_part plan trace (jobs.SerialClient c)) rogue);
    }
