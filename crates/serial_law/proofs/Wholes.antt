use Rattle.std.proofs.Common.{◌≡◌, ◌≤◌, ℕ, suc, Bool, true, false, not, Some, List, length, map, slice_get, refl, sym, ap, ◌∙◌, subst, arith}
use Rattle.std.proofs.lemmas.Bool.{ltb-false}
use Rattle.cargo_core.specs.Lists.{Merge}
use Rattle.cargo_core.specs.declared.item.Item.{Item}
use Rattle.wire_core.specs.declared.names.QueueRow.{QueueRow}
use Rattle.wire_core.specs.declared.names.Entry.{Entry}
use Rattle.wire_core.specs.Journal.{History, Hostiles}
use Rattle.wire_core.specs.Fates.{without}
use Rattle.class_expect.specs.SerialSwitch.Carried.{byte_of}
use Rattle.class_expect.specs.SerialSwitch.Switching.{input_of}
use Rattle.play_core.specs.Moved.{Moved, moved, sent, taken}
use Rattle.play_core.specs.Wants.{Want, Needful}
use Rattle.play_core.specs.Totals.{total}
use Rattle.play_core.specs.Still.{IsStill, HasWant, Plays, Needs, Owes, Holds}
use Rattle.play_core.proofs.OneQueue.{whole_prefix}
use Rattle.play_core.proofs.Walks.{drained, handed}
use Rattle.play_core.proofs.Lists.{map_get, maps_are, there_is, there_below}
use Rattle.play_core.proofs.Merges.{merge_whole, merge_flat}
use Rattle.serial_law.specs.Parts.{SerialPart, SerialDevice, SerialDriver, SerialReceiver, SerialSender, SerialClient}
use Rattle.serial_law.specs.Bytes.{bytes_in, byte_items, is_owed}
use Rattle.serial_law.specs.Table.{Marks, SharesOut, MergesAll, is_owed_to, some_owed, taken_count, is_held, serial_sheet}
use Rattle.serial_law.specs.Serial.{SerialClass, IsSerial, ArrivesWhole}
use Rattle.serial_law.proofs.Lists.{bytes_items, paid, all_said}
use Rattle.serial_law.proofs.Shares.{share_at, none_owed, count_is, owed_is}

module _ (hostile : Hostiles) (history : History) (rows : List QueueRow) (actors : Needful) (j : List Entry) (c : SerialClass) (marks : Marks) (still : IsStill hostile history rows actors j) (out : SharesOut marks c.drops c.rx c.client_rx (moved history j)) (w : IsSerial (λ p. Plays hostile actors (moved history j) (serial_sheet p)) hostile rows c) where
  abbrev m : Moved
  m = moved history j

  abbrev got : ℕ → List Item
  got n = taken history n j

  abbrev put : ℕ → List Item
  put n = sent history n j

  -- an actor that plays a part has the part's ends
  want_at : (p : SerialPart) → Plays hostile actors m (serial_sheet p) → (place : ℕ) (x : Want) → slice_get ((serial_sheet p).wants m) place ≡ Some x → HasWant hostile actors x
  want_at p plays place x is = record { ends = (serial_sheet p).wants m; acts = plays.acts; place = place; is = is }

  -- a queue whose consumer needs an entry has none, and none is owed to it
  passed : (n : ℕ) (owed : Bool) → Holds hostile rows n 1 → Needs hostile actors n true → Owes hostile actors n owed → (put n ≡ got n) × (owed ≡ false)
  passed n owed holds needs owes = (drained hostile history rows actors j still n 1 owed holds needs owes, handed hostile history rows actors j still n 1 owed holds (omega arith) needs owes)

  same_need : (n : ℕ) (a b : Bool) → a ≡ b → Needs hostile actors n a → Needs hostile actors n b
  same_need n a b e h = subst (λ x. Needs hostile actors n x) e h

  -- from the clients up to the device's input

  abbrev heard : List ℕ
  heard = bytes_in (got c.rx)

  abbrev part : ℕ → List ℕ
  part k = input_of (length c.client_rx) k heard

  -- a client needs whatever comes
  client_needs : (k n : ℕ) → slice_get c.client_rx k ≡ Some n → Needs hostile actors n true
  client_needs k n at =
      let lt = there_below c.client_rx k n at in
      let p = there_is c.client_tx k (omega (arith, w.rx_count, w.tx_count, lt)) in
      let script = there_is c.scripts k (omega (arith, w.rx_count, lt)) in
      want_at (SerialClient n p.0 script.0) (w.client k n p.0 script.0 at p.1 script.1) 0 _ refl

  -- a byte is owed to a client
  abbrev owes : (k n : ℕ) → Bool
  owes k n = is_owed_to (length c.client_rx) heard c.drops k n m

  abbrev receiver_part : SerialPart
  receiver_part = SerialReceiver c.rx c.client_rx c.drops

  receiver_owes : (k n : ℕ) → slice_get c.client_rx k ≡ Some n → Owes hostile actors n (owes k n)
  receiver_owes k n at = want_at receiver_part w.receiver (suc k) _ (share_at (length c.client_rx) heard c.drops 0 c.client_rx m k k n (omega arith) at)

  shared : (k n : ℕ) → slice_get c.client_rx k ≡ Some n → (put n ≡ got n) × (owes k n ≡ false)
  shared k n at = passed n _ (w.holds_client_rx k n at) (client_needs k n at) (receiver_owes k n at)

  receiver_needs : Needs hostile actors c.rx true
  receiver_needs =
      let none : some_owed (length c.client_rx) heard c.drops 0 c.client_rx m ≡ false = none_owed (length c.client_rx) heard c.drops 0 c.client_rx m (λ k i n e at. let same : k ≡ i = omega arith in subst (λ x. owes x n ≡ false) same (shared k n at).1) in
      same_need c.rx _ true (ap not none) (want_at receiver_part w.receiver 0 _ refl)

  given : (k n : ℕ) → slice_get c.client_rx k ≡ Some n → put n ≡ byte_items (without (marks k) (part k))
  given k n at =
      let none : is_owed (put n) (without (marks k) (part k)) ≡ false = sym (owed_is marks c.rx c.client_rx c.drops m out k n at) ∙ (shared k n at).1 in
      all_said (put n) (without (marks k) (part k)) (_, out.given k n at) none

  abbrev driver_part : SerialPart
  driver_part = SerialDriver c.device_rx c.device_tx c.rx c.tx

  up_2 : (put c.rx ≡ got c.rx) × (is_owed (put c.rx) (got c.device_rx) ≡ false)
  up_2 = passed c.rx _ w.holds_rx receiver_needs (want_at driver_part w.driver 1 _ refl)

  up_1 : (put c.device_rx ≡ got c.device_rx) × (is_owed (put c.device_rx) c.input ≡ false)
  up_1 = passed c.device_rx _ w.holds_device_rx (same_need c.device_rx _ true (ap not up_2.1) (want_at driver_part w.driver 0 _ refl)) (want_at (SerialDevice c.device_rx c.device_tx c.input) w.device 1 _ refl)

  read : got c.rx ≡ byte_items c.input
  read =
      let copied : put c.rx ≡ got c.device_rx = whole_prefix (put c.rx) (got c.device_rx) w.driver.row.0 (paid (put c.rx) (got c.device_rx) up_2.1) in
      let begun : put c.device_rx ≡ byte_items c.input = all_said (put c.device_rx) c.input w.device.row up_1.1 in
      sym up_2.0 ∙ (copied ∙ (sym up_1.0 ∙ begun))

  records : (k q : ℕ) → slice_get c.client_rx k ≡ Some q → bytes_in (got q) ≡ without (marks k) (input_of (length c.client_rx) k c.input)
  records k q at =
      let items : got q ≡ byte_items (without (marks k) (part k)) = sym (shared k q at).0 ∙ given k q at in
      let bytes : bytes_in (got q) ≡ without (marks k) (part k) = ap bytes_in items ∙ bytes_items (without (marks k) (part k)) in
      let input_is : heard ≡ c.input = ap bytes_in read ∙ bytes_items c.input in
      bytes ∙ ap (λ bs. without (marks k) (input_of (length c.client_rx) k bs)) input_is

  -- from the device's line up to the scripts

  down_1 : (put c.device_tx ≡ got c.device_tx) × (is_owed (put c.device_tx) (got c.tx) ≡ false)
  down_1 = passed c.device_tx _ w.holds_device_tx (want_at (SerialDevice c.device_rx c.device_tx c.input) w.device 0 _ refl) (want_at driver_part w.driver 3 _ refl)

  down_2 : (put c.tx ≡ got c.tx) × (is_held c.tx c.client_tx m ≡ false)
  down_2 = passed c.tx _ w.holds_tx (same_need c.tx _ true (ap not down_1.1) (want_at driver_part w.driver 2 _ refl)) (want_at (SerialSender c.tx c.client_tx) w.sender 0 _ refl)

  sender_needs : (k n : ℕ) → slice_get c.client_tx k ≡ Some n → Needs hostile actors n true
  sender_needs k n at = same_need n _ true (ap not down_2.1) (want_at (SerialSender c.tx c.client_tx) w.sender (suc k) _ (map_get _ c.client_tx k n at))

  said : (k n : ℕ) (script : List ℕ) → slice_get c.client_tx k ≡ Some n → slice_get c.scripts k ≡ Some script → got n ≡ byte_items script
  said k n script at script_at =
      let lt = there_below c.client_tx k n at in
      let q = there_is c.client_rx k (omega (arith, w.rx_count, w.tx_count, lt)) in
      let client : Plays hostile actors m (serial_sheet (SerialClient q.0 n script)) = w.client k q.0 n script q.1 at script_at in
      let end : (put n ≡ got n) × (is_owed (put n) script ≡ false) = passed n _ (w.holds_client_tx k n at) (sender_needs k n at) (want_at (SerialClient q.0 n script) client 1 _ refl) in
      sym end.0 ∙ all_said (put n) script client.row end.1

  line : Merge c.scripts (bytes_in (got c.device_tx))
  line =
      let merges : MergesAll c.tx c.client_tx m = w.sender.row in
      let all : taken_count c.client_tx m ≡ total (map got c.client_tx) = count_is c.client_tx m in
      let few : taken_count c.client_tx m ≤ length (put c.tx) = ltb-false _ _ down_2.1 in
      let items : Merge (map got c.client_tx) (put c.tx) = merge_whole (map got c.client_tx) (put c.tx) merges.owed merges.merged (omega (arith, all, few)) in
      let bytes : Merge (map bytes_in (map got c.client_tx)) (bytes_in (put c.tx)) = merge_flat byte_of (map got c.client_tx) (put c.tx) items in
      let scripts_are : map bytes_in (map got c.client_tx) ≡ c.scripts = maps_are got bytes_in c.client_tx c.scripts w.tx_count (λ k n script a b. ap bytes_in (said k n script a b) ∙ bytes_items script) in
      let copied : put c.device_tx ≡ got c.tx = whole_prefix (put c.device_tx) (got c.tx) w.driver.row.1 (paid (put c.device_tx) (got c.tx) down_1.1) in
      let line_is : got c.device_tx ≡ put c.tx = sym down_1.0 ∙ (copied ∙ sym down_2.0) in
      subst (λ xs. Merge c.scripts (bytes_in xs)) (sym line_is) (subst (λ ls. Merge ls (bytes_in (put c.tx))) scripts_are bytes)

  pub arrives_whole : ArrivesWhole marks c m
  arrives_whole = record { records = records; line = line }
