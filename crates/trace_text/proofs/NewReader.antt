use Rattle.std.proofs.Common.{◌≡◌, ℕ, List, [], length, refl}
use Rattle.cargo_core.specs.declared.act.Act.{Act}
use Rattle.cargo_core.specs.declared.item.Ask.{Ask}
use Rattle.sdf_plan.specs.declared.plan.Plan.{Plan}
use Rattle.trace_text.specs.Events.{net_clients, serial_clients, blk_clients}
use Rattle.line_text.specs.Lists.{per_client}
use Rattle.trace_text.specs.Traces.{trace_from}
use Rattle.trace_text.specs.Reading.{reader_after}

-- the reader before the first line
pub new_reader : (plan : Plan) (frames : List (List ℕ)) (input image : List ℕ) (sends : List (List (List ℕ))) (says : List (List ℕ)) (asks : List (List Ask)) (net serial blk : List (List Act))
    → frames ≡ [] → input ≡ [] → image ≡ [] → sends ≡ per_client (length (net_clients plan)) (λ _. []) → says ≡ per_client (length (serial_clients plan)) (λ _. [])
    → asks ≡ per_client (length (blk_clients plan)) (λ _. [])
    → net ≡ per_client (length (net_clients plan)) (λ _. []) → serial ≡ per_client (length (serial_clients plan)) (λ _. []) → blk ≡ per_client (length (blk_clients plan)) (λ _. [])
    → record { trace = record { frames = frames; input = input; sends = sends; says = says; asks = asks; image = image; net_acts = net; serial_acts = serial; blk_acts = blk }; frame_lines = 0; stream_bytes = 0; request_lines = 0; rogue_lines = 0; disk_lines = 0 }
    ≡ reader_after plan []
unfolding trace_from
new_reader plan frames input image sends says asks net serial blk a b c d e f g h i = rw (a, b, c, d, e, f, g, h, i) refl
