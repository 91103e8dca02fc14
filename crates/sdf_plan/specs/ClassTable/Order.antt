-- The number of an element in the table, and the elements before one.
use Rattle.std.specs.Prelude.{ℕ, ◌+◌, List, [], length, take}
use Rattle.std.specs.Option.{option_map_or}
use Rattle.sdf_plan.specs.declared.place.Place.{Place}
use Rattle.sdf_plan.specs.declared.place.Place.TheVariants as At
use Rattle.sdf_plan.specs.declared.plan.Plan.{Plan}
use Rattle.sdf_plan.specs.ClassTable.Table.{Element, net_elements, serial_elements, table_of}

-- how many elements the network class has
abbrev pub net_count : Plan → ℕ
net_count plan = length (option_map_or net_elements plan.net [])

-- how many elements the serial class has
abbrev pub serial_count : Plan → ℕ
serial_count plan = length (option_map_or serial_elements plan.serial [])

-- the number of the element at a place
abbrev pub number_of : Plan → Place → ℕ
number_of plan (At.NetClient c) = 1 + c
number_of plan At.Serial = net_count plan
number_of plan (At.SerialClient c) = net_count plan + 1 + c
number_of plan At.Blk = net_count plan + serial_count plan
number_of plan (At.BlkClient c) = net_count plan + serial_count plan + 1 + c
number_of plan _ = 0

-- the elements before a place
abbrev pub elements_before : Plan → Place → List Element
elements_before plan place = take (number_of plan place) (table_of plan)
