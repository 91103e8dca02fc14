-- The bytes that the entries of a serial queue carry: all actors of the class speak of them.
use Rattle.std.specs.Prelude.{ℕ, List, [], ◌∷◌, flat_map}
use Rattle.cargo_core.specs.declared.item.Item.{Item}
use Rattle.cargo_core.specs.declared.item.Item.TheVariants as ItemOf
use Rattle.cargo_core.specs.declared.item.Body.{Body}
use Rattle.cargo_core.specs.declared.item.Body.TheVariants as BodyOf

-- an entry that carries a byte
abbrev pub byte_cargo : ℕ → Item × Body
byte_cargo b = (ItemOf.Byte b, BodyOf.Empty)

-- the byte that an item is
abbrev pub byte_of : Item → List ℕ
byte_of (ItemOf.Byte b) = b ∷ []
byte_of (ItemOf.Net d) = []
byte_of (ItemOf.Req r) = []
byte_of (ItemOf.Resp r) = []

-- the bytes that entries carry
abbrev pub bytes_carried : List (Item × Body) → List ℕ
bytes_carried cs = flat_map (λ c. byte_of c.0) cs
