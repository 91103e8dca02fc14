use Rattle.std.proofs.Common.{◌≡◌, Some, length, refl, ap, ◌∙◌}
use Rattle.sdf_plan.specs.declared.plan.Plan.{Plan}
use Rattle.sdf_plan.specs.declared.plan.Serial.{Serial}
use Rattle.sdf_plan.specs.declared.plan.Net.{Net}
use Rattle.sdf_plan.specs.declared.plan.Blk.{Blk}
use Rattle.cast_core.proofs.Listing.{value_count}
use Rattle.trace_text.specs.declared.trace.Trace.{Trace}
use Rattle.trace_text.specs.Events.{serial_clients, net_clients, blk_clients}
use Rattle.trace_text.specs.Traces.{IsReadFor, trace_of, trace_from}

pub serials : (plan : Plan) (serial : Serial) → plan.serial ≡ Some serial → serial_clients plan ≡ serial.client
serials plan serial has = rw has refl

pub nets : (plan : Plan) (net : Net) → plan.net ≡ Some net → net_clients plan ≡ net.client
nets plan net has = rw has refl

pub blks : (plan : Plan) (blk : Blk) → plan.blk ≡ Some blk → blk_clients plan ≡ blk.client
blks plan blk has = rw has refl

-- a trace has a script for each serial client
pub scripts_length : (plan : Plan) (serial : Serial) (trace : Trace) → plan.serial ≡ Some serial → IsReadFor plan trace → length trace.says ≡ length serial.client
unfolding trace_of trace_from
scripts_length plan serial trace has t =
    ap (λ (x : Trace). length x.says) t.given ∙ (value_count (length (serial_clients plan)) _ ∙ ap length (serials plan serial has))
