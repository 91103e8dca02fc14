-- What the block virtualiser has in its hand, and how that stands for what passed.
use Rattle.std.specs.Prelude.{◌≡◌, ◌⊎◌, ◌+◌, ◌<◌, ◌^◌, ◌%◌, ◌&&◌, ◌||◌, ℕ, Bool, is_none, Option}
use Rattle.std.specs.Prelude.{Some, List, [], ◌∷◌, ◌++◌, length, drop, slice_get}
use Rattle.std.specs.Option.{option_to_list}
use Rattle.cargo_core.specs.declared.item.QueueKind.TheVariants as Kind
use Rattle.cargo_core.specs.Items.{kind_of}
use Rattle.cargo_core.specs.Pages.{Paged}
use Rattle.wire_core.specs.Deeds.{Cargo}
use Rattle.blk_mbr.specs.declared.part.Part.{Part}
use Rattle.buffer_kit.specs.Conserving.{Count, weighed}
use Rattle.blk_virt.specs.declared.opening.Block.{Block}
use Rattle.blk_virt.specs.declared.work.Work.{Work}
use Rattle.blk_virt.specs.Requests.{number_of}
use Rattle.blk_virt.specs.Openings.{OpeningStands, KnowsParts, IsOutOfTurn, block_cargo, block_of}
use Rattle.blk_virt.specs.Openings.{is_open, is_reading}
use Rattle.blk_virt.specs.Desks.{IsDesk, DeskStands, desk_cargo, holders, needs_at, loaded_at, owes}
use Rattle.blk_virt.specs.Desks.{with_more}

-- the client's next request is needed
abbrev pub wants_at : Work → ℕ → Bool
wants_at w k = is_none w.stray && (is_open w.opening && needs_at w.desk k)

-- an answer is to go to the client
abbrev pub gives_at : Work → ℕ → Bool
gives_at w k = is_none w.stray && loaded_at w.desk k

-- a request is to go to the driver
abbrev pub is_owing : Work → Bool
is_owing w = is_none w.stray && (is_reading w.opening
    || (is_open w.opening && owes w.desk))

-- the entries in its hand
abbrev pub work_cargo : Work → List Cargo
work_cargo w = option_to_list w.opening.first ++ (block_cargo w.opening.block
    ++ (desk_cargo w.desk ++ option_to_list w.stray))

-- what it keeps fits together
pub record IsWork (w : Work) : Type 0 where
  pub desk : IsDesk w.desk
  pub told : (b : Block) → w.opening.block ≡ Some b
      → (y : Cargo) × (b ≡ block_of w.opening.disk_sectors y)
  pub first : (x : Cargo) → w.opening.first ≡ Some x → kind_of x.0 ≡ Kind.Req

-- what it has known from the start stays
pub record SameWork (old new : Work) : Type 0 where
  pub clients : holders new.desk ≡ holders old.desk
  pub own : new.opening.own ≡ old.opening.own
  pub base : new.opening.base ≡ old.opening.base
  pub sectors : new.opening.disk_sectors ≡ old.opening.disk_sectors

-- how it stands for the responses that came in turn, for what came from each client by its place,
-- for what it sent to the driver and for what it gave to each client: it begins with the read of
-- the first block, and then serves its clients; nothing came from one before that block did; and
-- its requests are numbered from 0 on
pub record WorkStands (w : Work) (start : Paged) (back : List Cargo) (came : ℕ → List Cargo)
    (sent : List Cargo) (gave : ℕ → List Cargo) : Type 0 where
  pub is_start : w.opening.own ≡ record { pool = start.pool; no = start.no }
  pub opens : OpeningStands w.opening w.opening.first w.opening.block start sent back
  pub serves : (parts : ℕ → Option Part) → KnowsParts w.opening.disk_sectors back parts
      → DeskStands w.desk parts came (drop 1 sent) (drop 1 back) gave
  pub quiet : back ≡ [] → (k : ℕ) → k < length (holders w.desk) → came k ≡ []
  pub numbered : (j : ℕ) (x : Cargo) → slice_get sent j ≡ Some x → number_of x ≡ j % 2 ^ 32
  pub number : w.number ≡ length sent % 2 ^ 32

-- a response came in turn, or strays
abbrev pub Received : Work → Work → Cargo → Paged → List Cargo → (ℕ → List Cargo) → List Cargo
    → (ℕ → List Cargo) → Type 0
Received old new y start back came sent gave =
    ((new.stray ≡ old.stray) × WorkStands new start (back ++ y ∷ []) came sent gave)
    ⊎ (IsOutOfTurn sent back y × (new ≡ record old { stray = Some y }))

-- what is needed and to go stays
pub record WorkIsStill (old new : Work) : Type 0 where
  pub wants : (k : ℕ) → wants_at new k ≡ wants_at old k
  pub gives : (k : ℕ) → gives_at new k ≡ gives_at old k
  pub owing : is_owing new ≡ is_owing old
  pub free : is_none new.stray ≡ is_none old.stray

-- so much more went to the driver
pub record Sent (old new : Work) (sent : List Cargo) : Type 0 where
  pub stands : (start : Paged) (back ss : List Cargo) (came gave : ℕ → List Cargo)
      → WorkStands old start back came ss gave → WorkStands new start back came (ss ++ sent) gave
  pub held : (f : Count) → weighed f (work_cargo old)
      ≡ weighed f sent + weighed f (work_cargo new)

-- so much more went to the client at place k
pub record Gave (old new : Work) (k : ℕ) (given : List Cargo) : Type 0 where
  pub stands : (start : Paged) (back ss : List Cargo) (came gave : ℕ → List Cargo)
      → WorkStands old start back came ss gave
      → WorkStands new start back came ss (with_more gave k given)
  pub held : (f : Count) → weighed f (work_cargo old)
      ≡ weighed f given + weighed f (work_cargo new)
