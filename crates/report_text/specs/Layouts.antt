-- The lines of a layout, field by field.
use Rattle.std.specs.Prelude.{ℕ, false, Option, Some, None, unwrap_or, List, [], ◌∷◌, ◌++◌, map}
use Rattle.std.specs.Prelude.{slice_get, codes}
use Rattle.std.specs.Option.{option_map_or}
use Rattle.std.specs.Fmt.{decimal, digits}
use Rattle.sdf_plan.specs.declared.plan.Plan.{Plan}
use Rattle.sdf_plan.specs.declared.plan.Region.{Region}
use Rattle.wire_core.specs.declared.names.QueueRow.{QueueRow}
use Rattle.wire_core.specs.declared.names.PoolRow.{PoolRow}
use Rattle.region_layout.specs.declared.layout.Layout.{Layout}
use Rattle.report_text.specs.Lines.{text_of}
use Rattle.report_text.specs.Reports.{each_numbered}

-- a number in lower-case hexadecimal, without leading zeros
abbrev pub hex_text : ℕ → List ℕ
hex_text n = codes "0x" ++ digits 16 false n

-- the name at a place of a list of names; nothing where the list ends before it
abbrev pub name_at : List (List ℕ) → ℕ → List ℕ
name_at names k = unwrap_or (slice_get names k) []

-- the name of the region at a place
abbrev pub region_name : List Region → ℕ → List ℕ
region_name regions r = option_map_or (λ (region : Region). region.name) (slice_get regions r) []

-- a region: its name, its base and its size
abbrev pub region_line : Region → ℕ → List ℕ
region_line region base =
    codes "region " ++ (region.name ++ (codes " " ++ (hex_text base
    ++ (codes " " ++ hex_text region.size))))

-- each region with its base
abbrev pub region_lines : List Region → List ℕ → List (List ℕ)
region_lines [] bases = []
region_lines (region ∷ regions) [] = []
region_lines (region ∷ regions) (base ∷ bases) =
    region_line region base ∷ region_lines regions bases

-- a pool: its name, its region, the address of its first buffer, how many buffers it has, and their
-- size
abbrev pub layout_pool_line : List Region → PoolRow → List ℕ
layout_pool_line regions pool =
    codes "pool " ++ (pool.name ++ (codes " " ++ (region_name regions pool.region
    ++ (codes " " ++ (hex_text pool.base ++ (codes " " ++ (decimal pool.buffers
    ++ (codes " " ++ decimal pool.size))))))))

-- the region of a queue; a device's queue has none
abbrev pub queue_region : List Region → Option ℕ → List ℕ
queue_region regions None = codes "-"
queue_region regions (Some r) = region_name regions r

-- a queue: its number, its name, its producer and its consumer, its region, where it begins there,
-- and how many entries it holds
abbrev pub queue_line : List Region → List (List ℕ) → ℕ → QueueRow → List ℕ
queue_line regions actors n queue =
    codes "queue " ++ (decimal n ++ (codes " " ++ (queue.name
    ++ (codes " " ++ (name_at actors queue.producer.0
    ++ (codes " " ++ (name_at actors queue.consumer.0
    ++ (codes " " ++ (queue_region regions queue.region
    ++ (codes " " ++ (hex_text queue.offset
    ++ (codes " " ++ decimal queue.capacity))))))))))))

-- the lines of a layout: the regions, the pools and the queues, each in their order
abbrev pub layout_lines : Plan → Layout → List (List ℕ)
layout_lines plan layout =
    region_lines plan.memory_region layout.bases
    ++ map (layout_pool_line plan.memory_region) layout.pools
    ++ each_numbered
    (λ n queue. queue_line plan.memory_region layout.actors n queue ∷ []) 0 layout.queues

-- the text of a layout
abbrev pub layout_text : Plan → Layout → List ℕ
layout_text plan layout = text_of (layout_lines plan layout)
