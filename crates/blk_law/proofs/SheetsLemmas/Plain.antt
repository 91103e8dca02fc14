-- What is said of a disk and of a client speaks of its own ends, and its needs follow.
use Rattle.std.proofs.Common.{◌≡◌, ℕ, zero, suc, true, not, nat_lt, Some, List, [], ◌∷◌, length, map, slice_get, refl, sym, ap, ap₂, subst, arith}
use Rattle.std.proofs.lemmas.List.{length-map}
use Rattle.cargo_core.specs.Lists.{IsPrefix}
use Rattle.cargo_core.specs.declared.item.Ask.{Ask}
use Rattle.cargo_core.specs.declared.item.Item.{Item}
use Rattle.play_core.specs.Moved.{Moved}
use Rattle.play_core.specs.Wants.{intake, outlet, intake_want, outlet_want}
use Rattle.play_core.specs.Sheets.{Scene, Sheet, Due, CouldPut, IsOwn, NeedsFollow, due_want}
use Rattle.play_core.proofs.Lists.{some_is}
use Rattle.play_core.proofs.Puts.{copy_more, copy_shorter}
use Rattle.owner_law.specs.Pools.Places.{PoolAt}
use Rattle.net_law.specs.Parts.Table.{is_short}
use Rattle.net_law.proofs.PartsLemmas.Fits.{AllFit, intake_fits, outlet_fits, sheet_follows}
use Rattle.net_law.proofs.PartsLemmas.Pairs.{put_length}
use Rattle.blk_law.specs.Sheets.Parts.{DiskDevice, BlkClient}
use Rattle.blk_law.specs.Sheets.Rows.{answer_item, AsksInOrder, client_requests}
use Rattle.blk_law.specs.Sheets.Table.{blk_sheet}

-- a disk
module _ (scene : Scene) (req resp : ℕ) (image : List ℕ) where
  abbrev Disk : Sheet
  Disk = blk_sheet scene (DiskDevice req resp image)

  pub disk_own : IsOwn Disk
  disk_own = record {
    row = λ a b alike look h. subst (λ xs. IsPrefix xs (map answer_item (b.taken req))) (alike 1 (outlet resp) refl) (subst (λ ys. IsPrefix (a.sent resp) (map answer_item ys)) (alike 0 (intake req) refl) h);
    wants = λ a b alike look.
        ap₂ (λ (xs ys : List Item). intake_want req (not (is_short xs ys)) ∷ outlet_want resp (is_short xs ys) ∷ []) (alike 1 (outlet resp) refl) (alike 0 (intake req) refl);
    ends = λ m. refl;
  }

  module _ (m : Moved) (row : Disk.row m) where
    answers_long : length (map answer_item (m.taken req)) ≡ length (m.taken req)
    answers_long = length-map (m.taken req) answer_item

    answers : is_short (m.sent resp) (m.taken req) ≡ true → CouldPut Disk m resp
    answers lt = copy_more m resp (map answer_item (m.taken req)) row (subst (λ n. nat_lt (length (m.sent resp)) n ≡ true) (sym answers_long) lt)

    answers_only : CouldPut Disk m resp → is_short (m.sent resp) (m.taken req) ≡ true
    answers_only put = subst (λ n. nat_lt (length (m.sent resp)) n ≡ true) answers_long (copy_shorter m resp (map answer_item (m.taken req)) put.0 put.1)

    disk_fits : AllFit Disk m (Disk.wants m)
    disk_fits = (intake_fits Disk m req _, (outlet_fits Disk m resp _ answers answers_only, tt))

  disk_due : (m : Moved) (i : ℕ) (d : Due) → slice_get (Disk.dues m) i ≡ Some d → (k : ℕ) × (slice_get (Disk.wants m) k ≡ Some (due_want m d))
  disk_due m zero d at = (1, ap (λ (x : Due). Some (due_want m x)) (some_is at))
  disk_due m (suc i) d at = cc

  pub disk_follows : NeedsFollow Disk
  disk_follows = sheet_follows Disk (λ m apart row. disk_fits m row) disk_due

-- a client
module _ (scene : Scene) (req resp : ℕ) (asks : List Ask) (pool : PoolAt) where
  abbrev Client : Sheet
  Client = blk_sheet scene (BlkClient req resp asks pool)

  pub client_own : IsOwn Client
  client_own = record {
    row = λ a b alike look h. subst (λ xs. AsksInOrder asks pool (b.taken resp) xs) (alike 1 (outlet req) refl) (subst (λ ys. AsksInOrder asks pool ys (a.sent req)) (alike 0 (intake resp) refl) h);
    wants = λ a b alike look.
        ap₂ (λ (xs ys : List Item). intake_want resp true ∷ outlet_want req (is_short xs (client_requests asks pool (length ys))) ∷ []) (alike 1 (outlet req) refl) (alike 0 (intake resp) refl);
    ends = λ m. refl;
  }

  module _ (m : Moved) (row : Client.row m) where
    abbrev all : List Item
    all = client_requests asks pool (length (m.taken resp))

    asked : is_short (m.sent req) all ≡ true → CouldPut Client m req
    asked lt =
        let more = copy_more m req all row.begins lt in
        let long = put_length m req more.0 in
        let few = row.answered in
        (more.0, record { begins = more.1; answered = omega (arith, long, few) })

    asked_only : CouldPut Client m req → is_short (m.sent req) all ≡ true
    asked_only put = copy_shorter m req all put.0 put.1.begins

    client_fits : AllFit Client m (Client.wants m)
    client_fits = (intake_fits Client m resp _, (outlet_fits Client m req _ asked asked_only, tt))

  client_due : (m : Moved) (i : ℕ) (d : Due) → slice_get (Client.dues m) i ≡ Some d → (k : ℕ) × (slice_get (Client.wants m) k ≡ Some (due_want m d))
  client_due m zero d at = (1, ap (λ (x : Due). Some (due_want m x)) (some_is at))
  client_due m (suc i) d at = cc

  pub client_follows : NeedsFollow Client
  client_follows = sheet_follows Client (λ m apart row. client_fits m row) client_due
