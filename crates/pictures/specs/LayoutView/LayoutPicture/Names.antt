-- Names that are looked up in the rows of a layout.
use Rattle.std.specs.Prelude.{ℕ, Option, unwrap_or, List, [], slice_get, codes}
use Rattle.std.specs.Option.{option_map_or}
use Rattle.cargo_core.specs.declared.item.QueueKind.{QueueKind}
use Rattle.cargo_core.specs.declared.item.QueueKind.TheVariants as Kind
use Rattle.sdf_plan.specs.declared.plan.Region.{Region}

-- the name at a place of a list of names; nothing where the list ends before it
abbrev pub name_at : List (List ℕ) → ℕ → List ℕ
name_at names k = unwrap_or (slice_get names k) []

-- the name of the region at a place
abbrev pub region_name : List Region → ℕ → List ℕ
region_name regions r = option_map_or (λ (region : Region). region.name) (slice_get regions r) []

-- what a queue carries, in a word
abbrev pub kind_name : QueueKind → List ℕ
kind_name Kind.Net = codes "net"
kind_name Kind.Byte = codes "byte"
kind_name Kind.Req = codes "request"
kind_name Kind.Resp = codes "response"
