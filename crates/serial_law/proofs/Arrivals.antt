use Rattle.std.proofs.Common.{◌≡◌, ◌++◌, ◌+◌, ◌≤◌, ℕ, zero, suc, Bool, true, false, Some, List, [], ◌∷◌, length, length-append, map, slice_get, refl, sym, ap, ◌∙◌, subst, arith}
use Rattle.std.proofs.lemmas.List.{append-nil, length-map}
use Rattle.cargo_core.specs.Lists.{IsPrefix, PrefixMerge}
use Rattle.cargo_core.specs.declared.item.Item.{Item}
use Rattle.wire_core.specs.declared.names.QueueRow.{QueueRow}
use Rattle.wire_core.specs.declared.names.Entry.{Entry}
use Rattle.wire_core.specs.Journal.{History, Hostiles, QueuesFlow}
use Rattle.wire_core.specs.Fates.{without}
use Rattle.wire_core.proofs.Fating.{without_more}
use Rattle.class_expect.specs.SerialSwitch.Carried.{byte_of}
use Rattle.class_expect.specs.SerialSwitch.Switching.{input_of}
use Rattle.play_core.specs.Moved.{Moved, moved, sent, taken}
use Rattle.play_core.specs.Still.{Holds}
use Rattle.play_core.specs.Names.{by_sort}
use Rattle.play_core.proofs.Lists.{some_is, map_from, prefix_trans, there_is, there_below}
use Rattle.play_core.proofs.Merges.{prefix_merge, prefix_merge_flat, prefix_merge_wider}
use Rattle.serial_law.specs.Parts.{SerialPart}
use Rattle.serial_law.specs.Bytes.{bytes_in, byte_items}
use Rattle.serial_law.specs.Table.{Marks, SharesOut, MergesAll, serial_sheet}
use Rattle.serial_law.specs.Serial.{SerialClass, IsSerial, ArrivesInPart}
use Rattle.serial_law.specs.Beside.{Rogues, HasQueue, IsSerialBeside, ArrivesBeside, said_from, said_beside}
use Rattle.serial_law.proofs.Lists.{bytes_of_begin}
use Rattle.serial_law.proofs.InputBegins.{input_begins}

-- actors that are there in one sense are there in another
pub as_there : (A B : SerialPart → Type 0) → ((p : SerialPart) → A p → B p) → (hostile : Hostiles) (rows : List QueueRow) (c : SerialClass) → IsSerial A hostile rows c → IsSerial B hostile rows c
as_there A B turn hostile rows c w = record {
  device = turn _ w.device;
  driver = turn _ w.driver;
  receiver = turn _ w.receiver;
  sender = turn _ w.sender;
  client = λ k q p script a b d. turn _ (w.client k q p script a b d);
  rx_count = w.rx_count;
  tx_count = w.tx_count;
  holds_device_rx = w.holds_device_rx;
  holds_device_tx = w.holds_device_tx;
  holds_rx = w.holds_rx;
  holds_tx = w.holds_tx;
  holds_client_rx = w.holds_client_rx;
  holds_client_tx = w.holds_client_tx;
}

-- the row of a part holds at a moment
abbrev pub RowAt : Moved → SerialPart → Type 0
RowAt m p = (serial_sheet p).row m

-- so are those beside which none is hostile
pub as_beside : (There : SerialPart → Type 0) (hostile : Hostiles) (rows : List QueueRow) (c : SerialClass) → IsSerial There hostile rows c → IsSerialBeside There (λ k. false) rows c
as_beside There hostile rows c w = record {
  device = w.device;
  driver = w.driver;
  receiver = w.receiver;
  sender = w.sender;
  client = λ k q p script calm a b d. w.client k q p script a b d;
  rx_count = w.rx_count;
  tx_count = w.tx_count;
  has_device_rx = has _ w.holds_device_rx;
  has_device_tx = has _ w.holds_device_tx;
  has_rx = has _ w.holds_rx;
  has_tx = has _ w.holds_tx;
  has_client_rx = λ k q at. has q (w.holds_client_rx k q at);
  has_client_tx = λ k q at. has q (w.holds_client_tx k q at);
}
  where
    has : (n : ℕ) → Holds hostile rows n 1 → HasQueue rows n
    has n h = (h.row, h.there)

-- beside hostile clients, one There into another
pub beside_there : (A B : SerialPart → Type 0) → ((p : SerialPart) → A p → B p) → (rogues : Rogues) (rows : List QueueRow) (c : SerialClass) → IsSerialBeside A rogues rows c → IsSerialBeside B rogues rows c
beside_there A B turn rogues rows c w = record {
  device = turn _ w.device;
  driver = turn _ w.driver;
  receiver = turn _ w.receiver;
  sender = turn _ w.sender;
  client = λ k q p script calm a b d. turn _ (w.client k q p script calm a b d);
  rx_count = w.rx_count;
  tx_count = w.tx_count;
  has_device_rx = w.has_device_rx;
  has_device_tx = w.has_device_tx;
  has_rx = w.has_rx;
  has_tx = w.has_tx;
  has_client_rx = w.has_client_rx;
  has_client_tx = w.has_client_tx;
}

-- what the clients say is said of each
module _ (rogues : Rogues) (m : Moved) where
  said_length : (k : ℕ) (qs : List ℕ) (scripts : List (List ℕ)) → length qs ≡ length scripts → length (said_from rogues m k qs scripts) ≡ length scripts
  said_length k [] [] n = refl
  said_length k [] (s ∷ scripts) n = cc
  said_length k (q ∷ qs) [] n = cc
  said_length k (q ∷ qs) (s ∷ scripts) n = ap suc (said_length (k + 1) qs scripts (omega (arith, n)))

  said_at : (k : ℕ) (qs : List ℕ) (scripts : List (List ℕ)) (i : ℕ) (said : List ℕ) → slice_get (said_from rogues m k qs scripts) i ≡ Some said
      → (q : ℕ) × (script : List ℕ) × (slice_get qs i ≡ Some q) × (slice_get scripts i ≡ Some script) × (by_sort (rogues (k + i)) (bytes_in (m.taken q)) script ≡ said)
  said_at k [] scripts i said at = cc
  said_at k (q ∷ qs) [] i said at = cc
  said_at k (q ∷ qs) (s ∷ scripts) zero said at = let z : k + 0 ≡ k = omega arith in (q, s, refl, refl, ap (λ n. by_sort (rogues n) (bytes_in (m.taken q)) s) z ∙ some_is at)
  said_at k (q ∷ qs) (s ∷ scripts) (suc i) said at =
      let r = said_at (k + 1) qs scripts i said at in
      let z : k + suc i ≡ k + 1 + i = omega arith in
      (r.0, r.1, r.2, r.3, ap (λ n. by_sort (rogues n) (bytes_in (m.taken r.0)) r.1) z ∙ r.4)

  pub said_calm : ((k : ℕ) → rogues k ≡ false) → (k : ℕ) (qs : List ℕ) (scripts : List (List ℕ)) → length qs ≡ length scripts → said_from rogues m k qs scripts ≡ scripts
  said_calm calm k [] [] n = refl
  said_calm calm k [] (s ∷ scripts) n = cc
  said_calm calm k (q ∷ qs) [] n = cc
  said_calm calm k (q ∷ qs) (s ∷ scripts) n =
      let rest = said_calm calm (k + 1) qs scripts (omega (arith, n)) in
      ap (λ b. by_sort b (bytes_in (m.taken q)) s ∷ said_from rogues m (k + 1) qs scripts) (calm k) ∙ ap (λ ss. s ∷ ss) rest

module _ (history : History) (rows : List QueueRow) (j : List Entry) (rogues : Rogues) (c : SerialClass) (marks : Marks) (flows : QueuesFlow history rows j) (shares : SharesOut marks c.drops c.rx c.client_rx (moved history j)) (w : IsSerialBeside (RowAt (moved history j)) rogues rows c) where
  abbrev m : Moved
  m = moved history j

  abbrev got : ℕ → List Item
  got n = taken history n j

  abbrev put : ℕ → List Item
  put n = sent history n j

  flow : (n : ℕ) → HasQueue rows n → IsPrefix (got n) (put n)
  flow n there = (flows n there.0 there.1).begins

  -- from the device's input to the receiving virtualiser
  reached : IsPrefix (bytes_in (got c.rx)) c.input
  reached =
      bytes_of_begin (got c.rx) c.input
      (prefix_trans (got c.rx) (put c.rx) (byte_items c.input) (flow c.rx w.has_rx)
      (prefix_trans (put c.rx) (got c.device_rx) (byte_items c.input) w.driver.0
      (prefix_trans (got c.device_rx) (put c.device_rx) (byte_items c.input) (flow c.device_rx w.has_device_rx) w.device)))

  -- a client's part of what was heard, and of all that comes
  abbrev heard_part : ℕ → List ℕ
  heard_part k = input_of (length c.client_rx) k (bytes_in (got c.rx))

  abbrev whole_part : ℕ → List ℕ
  whole_part k = input_of (length c.client_rx) k c.input

  -- what is marked was heard, so what comes behind it stays
  part_begins : (k q : ℕ) → slice_get c.client_rx k ≡ Some q → IsPrefix (without (marks k) (heard_part k)) (without (marks k) (whole_part k))
  part_begins k q at =
      let more = input_begins (length c.client_rx) k (bytes_in (got c.rx)) c.input reached in
      (more.0, sym (without_more (marks k) (heard_part k) more.0 (shares.settled k q at)) ∙ ap (without (marks k)) more.1)

  -- and no more is marked than comes
  pub marks_fit : (k q : ℕ) → slice_get c.client_rx k ≡ Some q → length (marks k) ≤ length (whole_part k)
  marks_fit k q at =
      let more = input_begins (length c.client_rx) k (bytes_in (got c.rx)) c.input reached in
      let long = ap length more.1 in
      let parts = length-append (heard_part k) more.0 in
      let few = shares.settled k q at in
      omega (arith, long, parts, few)

  records_at : (k q : ℕ) → slice_get c.client_rx k ≡ Some q → IsPrefix (bytes_in (got q)) (without (marks k) (whole_part k))
  records_at k q at =
      let given : IsPrefix (put q) (byte_items (without (marks k) (heard_part k))) = (_, shares.given k q at) in
      let bytes : IsPrefix (bytes_in (got q)) (without (marks k) (heard_part k)) = bytes_of_begin (got q) (without (marks k) (heard_part k)) (prefix_trans (got q) (put q) _ (flow q (w.has_client_rx k q at)) given) in
      prefix_trans _ _ _ bytes (part_begins k q at)

  -- the script of a client that isn't hostile goes on what was taken of it
  script_at : (k p : ℕ) (script : List ℕ) → rogues k ≡ false → slice_get c.client_tx k ≡ Some p → slice_get c.scripts k ≡ Some script → IsPrefix (bytes_in (got p)) script
  script_at k p script calm at b =
      let lt = there_below c.scripts k script b in
      let q = there_is c.client_rx k (omega (arith, w.rx_count, lt)) in
      let row : IsPrefix (put p) (byte_items script) = w.client k q.0 p script calm q.1 at b in
      bytes_of_begin (got p) script (prefix_trans (got p) (put p) (byte_items script) (flow p (w.has_client_tx k p at)) row)

  line_at : PrefixMerge (said_beside rogues c m) (bytes_in (got c.device_tx))
  line_at =
      let merges : MergesAll c.tx c.client_tx m = w.sender in
      let begins : IsPrefix (got c.device_tx) (put c.tx ++ merges.owed) =
      prefix_trans (got c.device_tx) (put c.device_tx) _ (flow c.device_tx w.has_device_tx)
      (prefix_trans (put c.device_tx) (got c.tx) _ w.driver.1
      (prefix_trans (got c.tx) (put c.tx) _ (flow c.tx w.has_tx) (merges.owed, refl))) in
      let items : PrefixMerge (map got c.client_tx) (got c.device_tx) = prefix_merge (map got c.client_tx) (put c.tx ++ merges.owed) merges.merged (got c.device_tx) begins in
      let bytes : PrefixMerge (map bytes_in (map got c.client_tx)) (bytes_in (got c.device_tx)) = prefix_merge_flat byte_of (map got c.client_tx) (got c.device_tx) items in
      let many : length (map bytes_in (map got c.client_tx)) ≡ length (said_beside rogues c m) = length-map (map got c.client_tx) bytes_in ∙ (length-map c.client_tx got ∙ (w.tx_count ∙ sym (said_length rogues m 0 c.client_tx c.scripts w.tx_count))) in
      prefix_merge_wider (map bytes_in (map got c.client_tx)) (said_beside rogues c m) (bytes_in (got c.device_tx)) many said bytes
    where
      by_cases : (k p : ℕ) (script told : List ℕ) → slice_get c.client_tx k ≡ Some p → slice_get c.scripts k ≡ Some script → (b : Bool) → rogues k ≡ b → by_sort b (bytes_in (got p)) script ≡ told → IsPrefix (bytes_in (got p)) told
      by_cases k p script told at b true is same = ([], append-nil (bytes_in (got p)) ∙ same)
      by_cases k p script told at b false is same = subst (IsPrefix (bytes_in (got p))) same (script_at k p script is at b)

      said : (k : ℕ) (l told : List ℕ) → slice_get (map bytes_in (map got c.client_tx)) k ≡ Some l → slice_get (said_beside rogues c m) k ≡ Some told → IsPrefix l told
      said k l told a b =
          let i = map_from bytes_in (map got c.client_tx) k l a in
          let n = map_from got c.client_tx k i.0 i.1 in
          let s = said_at rogues m 0 c.client_tx c.scripts k told b in
          let same : n.0 ≡ s.0 = some_is (sym n.1 ∙ s.2) in
          let z : k ≡ 0 + k = omega arith in
          let begin : IsPrefix (bytes_in (got s.0)) told = by_cases k s.0 s.1 told s.2 s.3 (rogues k) refl (ap (λ i. by_sort (rogues i) (bytes_in (got s.0)) s.1) z ∙ s.4) in
          subst (λ z. IsPrefix z told) (ap (λ x. bytes_in (got x)) (sym same) ∙ (ap bytes_in n.2 ∙ i.2)) begin

  pub arrives_beside : ArrivesBeside marks rogues c (moved history j)
  arrives_beside = record { records = records_at; line = line_at }

-- where nobody is hostile
pub arrives_in_part : (hostile : Hostiles) (history : History) (rows : List QueueRow) (j : List Entry) (c : SerialClass) (marks : Marks) → QueuesFlow history rows j → SharesOut marks c.drops c.rx c.client_rx (moved history j) → IsSerial (RowAt (moved history j)) hostile rows c → ArrivesInPart marks c (moved history j)
arrives_in_part hostile history rows j c marks flows shares w =
    let b : ArrivesBeside marks (λ k. false) c (moved history j) = arrives_beside history rows j (λ k. false) c marks flows shares (as_beside (RowAt (moved history j)) hostile rows c w) in record {
      records = b.records;
      line = subst (λ ls. PrefixMerge ls (bytes_in (taken history c.device_tx j))) (said_calm (λ k. false) (moved history j) (λ k. refl) 0 c.client_tx c.scripts w.tx_count) b.line;
    }
