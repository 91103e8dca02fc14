use Rattle.std.proofs.Common.{◌≡◌, ◌≢◌, ◌≤◌, ◌==◌, ◌++◌, ◌+◌, ℕ, zero, suc, Bool, true, cond, not, if◌then◌else◌, Some, List, [], ◌∷◌, length, map, slice_get, refl, sym, ap, ◌∙◌, subst, arith}
use Rattle.cargo_core.specs.Lists.{IsPrefix, Merge}
use Rattle.cargo_core.specs.declared.item.Item.{Item}
use Rattle.wire_core.specs.Ends.{Consumer, Producer}
use Rattle.wire_core.specs.Fates.{without}
use Rattle.class_expect.specs.SerialSwitch.Switching.{input_of}
use Rattle.serial_virt.specs.Shares.{policy_at}
use Rattle.play_core.specs.Moved.{Moved, Seat, AreAlike, LookAlike, with_put}
use Rattle.play_core.specs.Wants.{Want, intake, outlet, intake_want, outlet_want}
use Rattle.play_core.specs.Sheets.{Due, IsOwn, NeedsFollow, AreApart, due_want}
use Rattle.play_core.proofs.Lists.{some_is, map_get, map_from, map_alike}
use Rattle.play_core.proofs.Puts.{put_beside, copy_more, copy_shorter}
use Rattle.serial_law.specs.Bytes.{bytes_in, byte_items, is_owed}
use Rattle.serial_law.specs.Parts.{SerialPart, SerialDevice, SerialDriver, SerialReceiver, SerialSender, SerialClient}
use Rattle.serial_law.specs.Table.{SharesSome, MergesAll, is_owed_to, some_owed, shares, taken_count, is_held, serial_sheet}
use Rattle.serial_law.proofs.Lists.{say_more, say_shorter}
use Rattle.serial_law.proofs.Shares.{share_from, shares_same, owed_same, count_same, share_seats, intake_seats, share_due, share_owed, share_only, merge_owed, merge_only}

-- one end's list told otherwise
prefix_same : (xs ys us vs : List Item) → xs ≡ us → ys ≡ vs → IsPrefix xs ys → IsPrefix us vs
prefix_same xs ys us vs e f h = subst (λ zs. IsPrefix zs vs) e (subst (IsPrefix xs) f h)

-- each part's sheet speaks of its own ends alone

receiver_own : (rx : ℕ) (clients : List ℕ) (drops : List Bool) → IsOwn (serial_sheet (SerialReceiver rx clients drops))
receiver_own rx clients drops = record {
  row = λ a b alike look h. record {
    marks = h.marks;
    out =
        let took : a.taken rx ≡ b.taken rx = alike 0 (intake rx) refl in
        record {
          owner = h.out.owner;
          owed = h.out.owed;
          few = h.out.few;
          given = λ c q at. ap (λ (xs : List Item). xs ++ (if h.out.owner == c then h.out.owed else [])) (sym (put a b alike c q at)) ∙ (h.out.given c q at ∙ ap (λ (xs : List Item). byte_items (without (h.marks c) (input_of (length clients) c (bytes_in xs)))) took);
          settled = λ c q at. subst (λ (xs : List Item). length (h.marks c) ≤ length (input_of (length clients) c (bytes_in xs))) took (h.out.settled c q at);
          as_many = λ c q at. h.out.as_many c q at ∙ ap (λ n. cond (policy_at drops c) n 0) (looked a b look c q at);
        };
  };
  wants = λ a b alike look.
      let took : a.taken rx ≡ b.taken rx = alike 0 (intake rx) refl in
      let owed = owed_same (length clients) (bytes_in (a.taken rx)) drops 0 clients a b (put a b alike) (looked a b look) in
      let each = shares_same (length clients) (bytes_in (a.taken rx)) drops 0 clients a b (put a b alike) (looked a b look) in
      ap (λ (b : Bool). intake_want rx (not b) ∷ shares (length clients) (bytes_in (a.taken rx)) drops 0 clients a) owed
      ∙ (ap (λ ws. intake_want rx (not (some_owed (length clients) (bytes_in (a.taken rx)) drops 0 clients b)) ∷ ws) each
      ∙ ap (λ (xs : List Item). intake_want rx (not (some_owed (length clients) (bytes_in xs) drops 0 clients b)) ∷ shares (length clients) (bytes_in xs) drops 0 clients b) took);
  ends = λ m. ap (λ (ss : List Seat). intake rx ∷ ss) (share_seats (length clients) (bytes_in (m.taken rx)) drops 0 clients m);
}
  where
    put : (a b : Moved) → AreAlike (intake rx ∷ map outlet clients) a b → (k q : ℕ) → slice_get clients k ≡ Some q → a.sent q ≡ b.sent q
    put a b alike k q at = alike (suc k) (outlet q) (map_get outlet clients k q at)

    looked : (a b : Moved) → LookAlike (intake rx ∷ map outlet clients) a b → (k q : ℕ) → slice_get clients k ≡ Some q → a.noes Producer q ≡ b.noes Producer q
    looked a b look k q at = look (suc k) (outlet q) (map_get outlet clients k q at)

sender_own : (tx : ℕ) (clients : List ℕ) → IsOwn (serial_sheet (SerialSender tx clients))
sender_own tx clients = record {
  row = λ a b alike look h. record {
    owed = h.owed;
    few = h.few;
    merged =
        let put : a.sent tx ≡ b.sent tx = alike 0 (outlet tx) refl in
        subst (λ (xs : List Item). Merge (map (λ q. b.taken q) clients) (xs ++ h.owed)) put (subst (λ lists. Merge lists (a.sent tx ++ h.owed)) (map_alike (λ q. a.taken q) (λ q. b.taken q) clients (took a b alike)) h.merged);
  };
  wants = λ a b alike look.
      let put : a.sent tx ≡ b.sent tx = alike 0 (outlet tx) refl in
      let count = count_same clients a b (took a b alike) in
      let held : is_held tx clients a ≡ is_held tx clients b = rw (put, count) refl in
      ap (λ (h : Bool). outlet_want tx h ∷ map (λ q. intake_want q (not h)) clients) held;
  ends = λ m. ap (λ (ss : List Seat). outlet tx ∷ ss) (intake_seats (not (is_held tx clients m)) clients);
}
  where
    took : (a b : Moved) → AreAlike (outlet tx ∷ map intake clients) a b → (k q : ℕ) → slice_get clients k ≡ Some q → a.taken q ≡ b.taken q
    took a b alike k q at = alike (suc k) (intake q) (map_get intake clients k q at)

driver_own : (device_rx device_tx rx tx : ℕ) → IsOwn (serial_sheet (SerialDriver device_rx device_tx rx tx))
driver_own device_rx device_tx rx tx = record {
  row = λ a b alike look h. (
    prefix_same (a.sent rx) (a.taken device_rx) (b.sent rx) (b.taken device_rx) (alike 1 (outlet rx) refl) (alike 0 (intake device_rx) refl) h.0,
    prefix_same (a.sent device_tx) (a.taken tx) (b.sent device_tx) (b.taken tx) (alike 3 (outlet device_tx) refl) (alike 2 (intake tx) refl) h.1,
  );
  wants = λ a b alike look.
      let e0 : a.taken device_rx ≡ b.taken device_rx = alike 0 (intake device_rx) refl in
      let e1 : a.sent rx ≡ b.sent rx = alike 1 (outlet rx) refl in
      let e2 : a.taken tx ≡ b.taken tx = alike 2 (intake tx) refl in
      let e3 : a.sent device_tx ≡ b.sent device_tx = alike 3 (outlet device_tx) refl in
      rw (e0, e1, e2, e3) refl;
  ends = λ m. refl;
}

pub serial_own : (p : SerialPart) → IsOwn (serial_sheet p)
serial_own (SerialDevice rx tx input) = record {
  row = λ a b alike look h. subst (λ xs. IsPrefix xs (byte_items input)) (alike 1 (outlet rx) refl) h;
  wants = λ a b alike look. ap (λ (xs : List Item). intake_want tx true ∷ outlet_want rx (is_owed xs input) ∷ []) (alike 1 (outlet rx) refl);
  ends = λ m. refl;
}
serial_own (SerialDriver device_rx device_tx rx tx) = driver_own device_rx device_tx rx tx
serial_own (SerialReceiver rx clients drops) = receiver_own rx clients drops
serial_own (SerialSender tx clients) = sender_own tx clients
serial_own (SerialClient rx tx script) = record {
  row = λ a b alike look h. subst (λ xs. IsPrefix xs (byte_items script)) (alike 1 (outlet tx) refl) h;
  wants = λ a b alike look. ap (λ (xs : List Item). intake_want rx true ∷ outlet_want tx (is_owed xs script) ∷ []) (alike 1 (outlet tx) refl);
  ends = λ m. refl;
}

-- each part's needs follow from its row

-- an actor that says bytes, and whose other end is an intake
module _ (rx tx : ℕ) (script : List ℕ) (m : Moved) where
  says_owed : IsPrefix (m.sent tx) (byte_items script) → (i : ℕ) (w : Want) → slice_get (intake_want rx true ∷ outlet_want tx (is_owed (m.sent tx) script) ∷ []) i ≡ Some w → w.role ≡ Producer → w.need ≡ true → (x : Item) × IsPrefix ((with_put m w.queue x).sent tx) (byte_items script)
  says_owed row zero w at out need = let e : Consumer ≡ Producer = ap (λ (v : Want). v.role) (some_is at) ∙ out in cc
  says_owed row (suc zero) w at out need =
      let same : outlet_want tx (is_owed (m.sent tx) script) ≡ w = some_is at in
      let more = say_more m tx script row (ap (λ (v : Want). v.need) same ∙ need) in
      (more.0, subst (λ n. IsPrefix ((with_put m n more.0).sent tx) (byte_items script)) (ap (λ (v : Want). v.queue) same) more.1)
  says_owed row (suc (suc i)) w at out need = cc

  says_only : (i : ℕ) (w : Want) → slice_get (intake_want rx true ∷ outlet_want tx (is_owed (m.sent tx) script) ∷ []) i ≡ Some w → w.role ≡ Producer → (x : Item) × IsPrefix ((with_put m w.queue x).sent tx) (byte_items script) → w.need ≡ true
  says_only zero w at out put = let e : Consumer ≡ Producer = ap (λ (v : Want). v.role) (some_is at) ∙ out in cc
  says_only (suc zero) w at out put =
      let same : outlet_want tx (is_owed (m.sent tx) script) ≡ w = some_is at in
      sym (ap (λ (v : Want). v.need) same) ∙ say_shorter m tx script put.0 (subst (λ n. IsPrefix ((with_put m n put.0).sent tx) (byte_items script)) (sym (ap (λ (v : Want). v.queue) same)) put.1)
  says_only (suc (suc i)) w at out put = cc

  says_due : (n : ℕ) (i : ℕ) (d : Due) → slice_get (record { queue = tx; number = length script } ∷ []) i ≡ Some d → (k : ℕ) × (slice_get (intake_want n true ∷ outlet_want tx (is_owed (m.sent tx) script) ∷ []) k ≡ Some (due_want m d))
  says_due n zero d at = (1, ap (λ (x : Due). Some (due_want m x)) (some_is at))
  says_due n (suc i) d at = cc

client_follows : (rx tx : ℕ) (script : List ℕ) → NeedsFollow (serial_sheet (SerialClient rx tx script))
client_follows rx tx script = record {
  owed = λ m apart row i w at out need. says_owed rx tx script m row i w at out need;
  only = λ m apart row i w at out put. says_only rx tx script m i w at out put;
  due = λ m i d at. says_due rx tx script m rx i d at;
}

device_follows : (rx tx : ℕ) (input : List ℕ) → NeedsFollow (serial_sheet (SerialDevice rx tx input))
device_follows rx tx input = record {
  owed = λ m apart row i w at out need. says_owed tx rx input m row i w at out need;
  only = λ m apart row i w at out put. says_only tx rx input m i w at out put;
  due = λ m i d at. says_due tx rx input m tx i d at;
}

module _ (device_rx device_tx rx tx : ℕ) (apart : AreApart (intake device_rx ∷ outlet rx ∷ intake tx ∷ outlet device_tx ∷ [])) (m : Moved) where
  two : rx ≢ device_tx
  two same = let e : 1 ≡ 3 = apart 1 3 (outlet rx) refl (ap (λ n. Some (outlet n)) (sym same)) in omega (arith, e)

  two_back : device_tx ≢ rx
  two_back same = two (sym same)

  abbrev Row : Moved → Type 0
  Row a = IsPrefix (a.sent rx) (a.taken device_rx) × IsPrefix (a.sent device_tx) (a.taken tx)

  abbrev ws : List Want
  ws = (serial_sheet (SerialDriver device_rx device_tx rx tx)).wants m

  pipe_owed : Row m → (i : ℕ) (w : Want) → slice_get ws i ≡ Some w → w.role ≡ Producer → w.need ≡ true → (x : Item) × Row (with_put m w.queue x)
  pipe_owed row zero w at out need = let e : Consumer ≡ Producer = ap (λ (v : Want). v.role) (some_is at) ∙ out in cc
  pipe_owed row (suc zero) w at out need =
      let same : outlet_want rx (is_owed (m.sent rx) (m.taken device_rx)) ≡ w = some_is at in
      let more = copy_more m rx (m.taken device_rx) row.0 (ap (λ (v : Want). v.need) same ∙ need) in
      let rest : IsPrefix ((with_put m rx more.0).sent device_tx) (m.taken tx) = subst (λ xs. IsPrefix xs (m.taken tx)) (sym (put_beside m rx more.0 device_tx two)) row.1 in
      (more.0, subst (λ n. Row (with_put m n more.0)) (ap (λ (v : Want). v.queue) same) (more.1, rest))
  pipe_owed row (suc (suc zero)) w at out need = let e : Consumer ≡ Producer = ap (λ (v : Want). v.role) (some_is at) ∙ out in cc
  pipe_owed row (suc (suc (suc zero))) w at out need =
      let same : outlet_want device_tx (is_owed (m.sent device_tx) (m.taken tx)) ≡ w = some_is at in
      let more = copy_more m device_tx (m.taken tx) row.1 (ap (λ (v : Want). v.need) same ∙ need) in
      let rest : IsPrefix ((with_put m device_tx more.0).sent rx) (m.taken device_rx) = subst (λ xs. IsPrefix xs (m.taken device_rx)) (sym (put_beside m device_tx more.0 rx two_back)) row.0 in
      (more.0, subst (λ n. Row (with_put m n more.0)) (ap (λ (v : Want). v.queue) same) (rest, more.1))
  pipe_owed row (suc (suc (suc (suc i)))) w at out need = cc

  pipe_only : (i : ℕ) (w : Want) → slice_get ws i ≡ Some w → w.role ≡ Producer → (x : Item) × Row (with_put m w.queue x) → w.need ≡ true
  pipe_only zero w at out put = let e : Consumer ≡ Producer = ap (λ (v : Want). v.role) (some_is at) ∙ out in cc
  pipe_only (suc zero) w at out put =
      let same : outlet_want rx (is_owed (m.sent rx) (m.taken device_rx)) ≡ w = some_is at in
      let row : Row (with_put m rx put.0) = subst (λ n. Row (with_put m n put.0)) (sym (ap (λ (v : Want). v.queue) same)) put.1 in
      sym (ap (λ (v : Want). v.need) same) ∙ copy_shorter m rx (m.taken device_rx) put.0 row.0
  pipe_only (suc (suc zero)) w at out put = let e : Consumer ≡ Producer = ap (λ (v : Want). v.role) (some_is at) ∙ out in cc
  pipe_only (suc (suc (suc zero))) w at out put =
      let same : outlet_want device_tx (is_owed (m.sent device_tx) (m.taken tx)) ≡ w = some_is at in
      let row : Row (with_put m device_tx put.0) = subst (λ n. Row (with_put m n put.0)) (sym (ap (λ (v : Want). v.queue) same)) put.1 in
      sym (ap (λ (v : Want). v.need) same) ∙ copy_shorter m device_tx (m.taken tx) put.0 row.1
  pipe_only (suc (suc (suc (suc i)))) w at out put = cc

pipe_due : (device_rx device_tx rx tx : ℕ) (m : Moved) (i : ℕ) (d : Due) → slice_get ((serial_sheet (SerialDriver device_rx device_tx rx tx)).dues m) i ≡ Some d → (k : ℕ) × (slice_get ((serial_sheet (SerialDriver device_rx device_tx rx tx)).wants m) k ≡ Some (due_want m d))
pipe_due device_rx device_tx rx tx m zero d at = (1, ap (λ (x : Due). Some (due_want m x)) (some_is at))
pipe_due device_rx device_tx rx tx m (suc zero) d at = (3, ap (λ (x : Due). Some (due_want m x)) (some_is at))
pipe_due device_rx device_tx rx tx m (suc (suc i)) d at = cc

module _ (rx : ℕ) (clients : List ℕ) (drops : List Bool) (m : Moved) where
  abbrev receives : List Want
  receives = (serial_sheet (SerialReceiver rx clients drops)).wants m

  abbrev owes : (c q : ℕ) → Bool
  owes c q = is_owed_to (length clients) (bytes_in (m.taken rx)) drops c q m

  receive_owed : AreApart (intake rx ∷ map outlet clients) → SharesSome drops rx clients m → (i : ℕ) (w : Want) → slice_get receives i ≡ Some w → w.role ≡ Producer → w.need ≡ true → (x : Item) × SharesSome drops rx clients (with_put m w.queue x)
  receive_owed apart row zero w at out need = let e : Consumer ≡ Producer = ap (λ (v : Want). v.role) (some_is at) ∙ out in cc
  receive_owed apart row (suc c) w at out need =
      let f = share_from (length clients) (bytes_in (m.taken rx)) drops 0 clients m c w at in
      let z : 0 + c ≡ c = omega arith in
      let owed : owes c f.0 ≡ true = ap (λ k. owes k f.0) (sym z) ∙ (ap (λ (v : Want). v.need) f.2 ∙ need) in
      let more = share_owed row.marks rx clients drops m row.out c f.0 f.1 (intake rx) apart owed in
      (more.0, subst (λ n. SharesSome drops rx clients (with_put m n more.0)) (ap (λ (v : Want). v.queue) f.2) more.1)

  receive_only : (i : ℕ) (w : Want) → slice_get receives i ≡ Some w → w.role ≡ Producer → (x : Item) × SharesSome drops rx clients (with_put m w.queue x) → w.need ≡ true
  receive_only zero w at out put = let e : Consumer ≡ Producer = ap (λ (v : Want). v.role) (some_is at) ∙ out in cc
  receive_only (suc c) w at out put =
      let f = share_from (length clients) (bytes_in (m.taken rx)) drops 0 clients m c w at in
      let z : 0 + c ≡ c = omega arith in
      let some : SharesSome drops rx clients (with_put m f.0 put.0) = subst (λ n. SharesSome drops rx clients (with_put m n put.0)) (sym (ap (λ (v : Want). v.queue) f.2)) put.1 in
      sym (ap (λ (v : Want). v.need) f.2) ∙ (ap (λ k. owes k f.0) z ∙ share_only rx clients drops m c f.0 f.1 put.0 some)

module _ (tx : ℕ) (clients : List ℕ) (m : Moved) where
  abbrev sends : List Want
  sends = (serial_sheet (SerialSender tx clients)).wants m

  only_first : (i : ℕ) (w : Want) → slice_get sends (suc i) ≡ Some w → w.role ≡ Producer → ⊥
  only_first i w at out = let f = map_from (λ q. intake_want q (not (is_held tx clients m))) clients i w at in let e : Consumer ≡ Producer = ap (λ (v : Want). v.role) f.2 ∙ out in cc

  send_owed : MergesAll tx clients m → (i : ℕ) (w : Want) → slice_get sends i ≡ Some w → w.role ≡ Producer → w.need ≡ true → (x : Item) × MergesAll tx clients (with_put m w.queue x)
  send_owed row zero w at out need =
      let same : outlet_want tx (is_held tx clients m) ≡ w = some_is at in
      let more = merge_owed tx clients m row (ap (λ (v : Want). v.need) same ∙ need) in
      (more.0, subst (λ n. MergesAll tx clients (with_put m n more.0)) (ap (λ (v : Want). v.queue) same) more.1)
  send_owed row (suc i) w at out need = absurd (only_first i w at out)

  send_only : (i : ℕ) (w : Want) → MergesAll tx clients m → slice_get sends i ≡ Some w → w.role ≡ Producer → (x : Item) × MergesAll tx clients (with_put m w.queue x) → w.need ≡ true
  send_only zero w row at out put =
      let same : outlet_want tx (is_held tx clients m) ≡ w = some_is at in
      let merges : MergesAll tx clients (with_put m tx put.0) = subst (λ n. MergesAll tx clients (with_put m n put.0)) (sym (ap (λ (v : Want). v.queue) same)) put.1 in
      sym (ap (λ (v : Want). v.need) same) ∙ merge_only tx clients m row put.0 merges
  send_only (suc i) w row at out put = absurd (only_first i w at out)

  send_due : (i : ℕ) (d : Due) → slice_get (record { queue = tx; number = taken_count clients m } ∷ []) i ≡ Some d → (k : ℕ) × (slice_get sends k ≡ Some (due_want m d))
  send_due zero d at = (0, ap (λ (x : Due). Some (due_want m x)) (some_is at))
  send_due (suc i) d at = cc

pub serial_follows : (p : SerialPart) → NeedsFollow (serial_sheet p)
serial_follows (SerialDevice rx tx input) = device_follows rx tx input
serial_follows (SerialDriver device_rx device_tx rx tx) = record {
  owed = λ m apart row i w at out need. pipe_owed device_rx device_tx rx tx apart m row i w at out need;
  only = λ m apart row i w at out put. pipe_only device_rx device_tx rx tx apart m i w at out put;
  due = λ m i d at. pipe_due device_rx device_tx rx tx m i d at;
}
serial_follows (SerialReceiver rx clients drops) = record {
  owed = λ m apart row i w at out need. receive_owed rx clients drops m apart row i w at out need;
  only = λ m apart row i w at out put. receive_only rx clients drops m i w at out put;
  due = λ m i d at. (suc i, share_due (length clients) (bytes_in (m.taken rx)) drops 0 clients m i d at);
}
serial_follows (SerialSender tx clients) = record {
  owed = λ m apart row i w at out need. send_owed tx clients m row i w at out need;
  only = λ m apart row i w at out put. send_only tx clients m i w row at out put;
  due = λ m i d at. send_due tx clients m i d at;
}
serial_follows (SerialClient rx tx script) = client_follows rx tx script
