-- Bytes and the items that carry them.
use Rattle.std.specs.Prelude.{ℕ, Bool, nat_lt, List, length, map, flat_map}
use Rattle.cargo_core.specs.declared.item.Item.{Item}
use Rattle.cargo_core.specs.declared.item.Item.TheVariants as ItemOf
use Rattle.class_expect.specs.SerialSwitch.Carried.{byte_of}

-- the bytes that items are
abbrev pub bytes_in : List Item → List ℕ
bytes_in items = flat_map byte_of items

-- the items that carry some bytes, one each
abbrev pub byte_items : List ℕ → List Item
byte_items bs = map (λ b. ItemOf.Byte b) bs

-- the first list is shorter than the second
abbrev pub is_owed : {T U : Type 0} → List T → List U → Bool
is_owed xs ys = nat_lt (length xs) (length ys)
