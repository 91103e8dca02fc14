-- What two plays have to agree in, for a client of each class, and what is then said of its two
-- records.
use Rattle.std.specs.Prelude.{◌≡◌, ℕ, Bool, true, List, filter, option_map}
use Rattle.cargo_core.specs.Lists.{IsPrefix}
use Rattle.frame_core.specs.declared.mac.Mac.{Mac}
use Rattle.class_expect.specs.NetExpect.Expecting.{is_for_client}
use Rattle.class_expect.specs.SerialSwitch.Switching.{input_of}
use Rattle.blk_mbr.specs.declared.part.Part.{Part}
use Rattle.class_expect.specs.BlkExpect.Replies.{partition_in, partition_bytes}

-- a record is of a list: it is a beginning of it, and all of it where the play is quiet
pub record IsRecordOf {T : Type 0} (whole : List T) (quiet : Bool) (got : List T) : Type 0 where
  pub begins : IsPrefix got whole
  pub all : quiet ≡ true → got ≡ whole

-- two records are of one list
pub record AreOfOne {T : Type 0} (whole : List T) (quiet : Bool) (got : List T) (still : Bool)
    (seen : List T) : Type 0 where
  pub one : IsRecordOf whole quiet got
  pub other : IsRecordOf whole still seen

-- the device receives the same frames for the client's address or for all stations, in their order
abbrev pub AgreeOnFrames : Mac → (frames others : List (List ℕ)) → Type 0
AgreeOnFrames mac frames others =
    filter (is_for_client mac) frames ≡ filter (is_for_client mac) others

-- the same of the input is for the client
abbrev pub AgreeOnInput : (clients client : ℕ) → (input other : List ℕ) → Type 0
AgreeOnInput clients client input other =
    input_of clients client input ≡ input_of clients client other

-- the client's partition has as many blocks on both disks, with the same bytes; where it begins,
-- and which entry it is of, may differ
pub record AgreeOnPartition (image : List ℕ) (entry : ℕ) (other : List ℕ) (place : ℕ) :
    Type 0 where
  pub blocks : option_map (λ (p : Part). p.blocks) (partition_in image entry)
      ≡ option_map (λ (p : Part). p.blocks) (partition_in other place)
  pub bytes : partition_bytes (partition_in image entry) image
      ≡ partition_bytes (partition_in other place) other
