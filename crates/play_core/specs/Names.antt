-- What items don't show of the entries that were put: the names of the pages that they carry, told
-- queue by queue in lists that grow at their ends.
use Rattle.std.specs.Prelude.{◌≡◌, ◌==◌, ◌&&◌, ℕ, Bool, true, false, not, cond, Option, Some, None}
use Rattle.std.specs.Prelude.{List, [], ◌∷◌, map, slice_get}
use Rattle.std.specs.Option.{option_map_or}
use Rattle.cargo_core.specs.declared.item.Item.{Item}
use Rattle.cargo_core.specs.declared.item.Body.{Body}
use Rattle.cargo_core.specs.declared.item.Body.TheVariants as Carried
use Rattle.cargo_core.specs.declared.item.QueueKind.{QueueKind}
use Rattle.cargo_core.specs.declared.item.QueueKind.TheVariants as Kind
use Rattle.cargo_core.specs.Lists.{IsPrefix}
use Rattle.wire_core.specs.declared.names.QueueRow.{QueueRow}
use Rattle.wire_core.specs.Deeds.{Cargo, Deed, cargo_of}
use Rattle.wire_core.specs.Journal.{Hostiles, is_calm}
use Rattle.wire_core.specs.Lists.{Passed, if_put}

-- a page by its pool and its number there
pub record Tag : Type 0 where
  pub pool : ℕ
  pub number : ℕ

-- what an entry carries: the page of this name, or none
abbrev pub Name : Type 0
Name = Option Tag

-- the name of what a body carries
abbrev pub name_of : Body → Name
name_of Carried.Empty = None
name_of (Carried.Page page) = Some (record { pool = page.pool.0; number = page.no })
name_of (Carried.Lease lease) = None

-- of each queue, the names of its entries in the order in which they were put, as far as they are
-- told
abbrev pub Names : Type 0
Names = ℕ → List Name

-- more names at the ends of the queues' lists
abbrev pub GrowsTo : Names → Names → Type 0
GrowsTo old new = (n : ℕ) → IsPrefix (old n) (new n)

-- of each queue, whether names of its entries are kept
abbrev pub Wild : Type 0
Wild = ℕ → Bool

-- the entries of a queue of this kind may carry pages: a byte carries none
abbrev pub carries_pages : QueueKind → Bool
carries_pages Kind.Net = true
carries_pages Kind.Byte = false
carries_pages Kind.Req = true
carries_pages Kind.Resp = true

-- they are kept where a hostile actor has an end of the queue, and its entries may carry pages
abbrev pub is_wild : Hostiles → QueueRow → Bool
is_wild hostile row = not (is_calm hostile row) && carries_pages row.kind

-- so it is of each queue, by these rows
abbrev pub wild_in : Hostiles → List QueueRow → Wild
wild_in hostile rows n = option_map_or (is_wild hostile) (slice_get rows n) false

-- an item with the name of its page
abbrev pub Named : Type 0
Named = Item × Name

-- items with their names, as far as both go
abbrev pub named : List Item → List Name → List Named
named [] ns = []
named (i ∷ is) [] = []
named (i ∷ is) (n ∷ ns) = (i, n) ∷ named is ns

-- the items of these
abbrev pub items_in : List Named → List Item
items_in xs = map (λ (x : Named). x.0) xs

-- an entry as it is told of
abbrev pub told : Cargo → Named
told c = (c.0, name_of c.1)

-- the names of what entries carry
abbrev pub names_of : List Cargo → List Name
names_of cs = map (λ (c : Cargo). name_of c.1) cs

-- the names of all that was put by a moment
abbrev pub names_at : Passed → Names
names_at passed n = names_of (passed.sent n)

-- of a queue with a hostile end what the names tell, and of another all
abbrev pub by_sort : {T : Type 0} → Bool → T → T → T
by_sort true told all = told
by_sort false told all = all

-- a name that is kept: of an entry that was put to this queue
pub record Noted : Type 0 where
  pub queue : ℕ
  pub name : Name

-- the names of the queues by those that are kept, one after another in the order of the puts
abbrev pub told_by : List Noted → Names
told_by [] n = []
told_by (x ∷ notes) n = cond (x.queue == n) (x.name ∷ told_by notes n) (told_by notes n)

-- the names that a call adds to those that are kept: that of the entry that it put, if any
abbrev pub notes_of : Wild → Deed → List Noted
notes_of wild d = cond (wild d.event.queue.0) (map (λ (c : Cargo). record {
  queue = d.event.queue.0;
  name = name_of c.1;
}) (if_put d.event.op (cargo_of d))) []

-- the names that are kept are those of all that was put, of each queue of which they are kept
abbrev pub AreNoted : Wild → List Noted → Passed → Type 0
AreNoted wild notes passed = (n : ℕ) → wild n ≡ true → told_by notes n ≡ names_at passed n
