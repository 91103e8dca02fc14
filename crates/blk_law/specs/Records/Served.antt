-- A client's record at any moment, from the rows of all that its requests and responses pass.
use Rattle.std.specs.Prelude.{◌≡◌, ℕ, false, Option, Some, None, List, All}
use Rattle.cargo_core.specs.declared.item.Ask.{Ask}
use Rattle.cargo_core.specs.declared.item.QueueKind.TheVariants as Kind
use Rattle.cargo_core.specs.Items.{kind_of}
use Rattle.cargo_core.specs.Lists.{IsPrefix}
use Rattle.cargo_core.specs.Pages.{Paged}
use Rattle.wire_core.specs.Deeds.{Cargo}
use Rattle.blk_mbr.specs.declared.part.Part.{Part}
use Rattle.class_expect.specs.BlkExpect.Replies.{partition_in, replies_of}
use Rattle.client_programs.specs.Blk.Asking.{asked_from, replies_to}
use Rattle.blk_virt.specs.declared.requests.Holder.{Holder}
use Rattle.blk_virt.specs.Requests.{is_at, is_bad}
use Rattle.blk_virt.specs.Serving.{IsServed}
use Rattle.device_model.specs.Disk.Serving.{answers_to}
use Rattle.blk_law.specs.Runs.{OthersBeside}
use Rattle.blk_law.specs.Replying.{HaveRoom}

-- a request of an honest client: a read or a write has its own buffer
pub record IsHonest (h : Holder) (x : Cargo) : Type 0 where
  pub kind : kind_of x.0 ≡ Kind.Req
  pub good : is_bad h x ≡ false

-- what isn't at a client's buffers leaves its partition as it is
abbrev pub LeavesPart : Holder → Option Part → List Cargo → Type 0
LeavesPart h None sent = Unit {0}
LeavesPart h (Some part) sent = OthersBeside (is_at h) part.first_block part.blocks sent

-- a client's record at any moment is a beginning of what it must get. The client put a beginning of
-- its script (`put`), each read and write in its own buffer, of which the virtualiser took a
-- beginning (`taken`) and served it; what the virtualiser sent (`sent`) are requests, of which
-- those for others leave the client's partition alone; what came back are the disk's answers, as
-- far as they go; and the client took a beginning of what it was given (`gave`, `came`)
abbrev pub RecordsAtAnyMoment : (image : List ℕ) (entry : ℕ) (asks : List Ask) (h : Holder) → Type 0
RecordsAtAnyMoment image entry asks h =
    (pages : List Paged) (put taken sent back gave came : List Cargo)
    → HaveRoom pages → IsPrefix put (asked_from 0 asks pages) → IsPrefix taken put
    → All (λ (x : Cargo). is_bad h x ≡ false) taken
    → All (λ (x : Cargo). kind_of x.0 ≡ Kind.Req) sent
    → LeavesPart h (partition_in image entry) sent
    → IsServed h (partition_in image entry) taken sent back gave
    → IsPrefix back (answers_to image sent) → IsPrefix came gave
    → IsPrefix (replies_to asks came) (replies_of image entry asks)
