use Rattle.std.proofs.Common.{◌≡◌, ◌⊎◌, ◌+◌, ◌≤◌, ◌&&◌, Bool, true, false, Option, Some, None, is_some, List, [], ◌∷◌, ◌++◌, All, length, map, refl, sym, ap, ◌∙◌, subst, arith}
use Rattle.std.specs.Option.{option_to_list}
use Rattle.std.proofs.lemmas.List.{append-nil, map-append, length-append, length-map}
use Rattle.std.proofs.lemmas.List.Elements.{All-push, All-append}
use Rattle.cargo_core.specs.Bodies.{buffers_of}
use Rattle.wire_core.specs.Bells.{bit}
use Rattle.wire_core.specs.Deeds.{Cargo}
use Rattle.wire_core.specs.Lists.{Passed}
use Rattle.wire_core.specs.Fates.{Fate, without, marked}
use Rattle.wire_core.proofs.Fating.{without_left, without_past}
use Rattle.net_copier.proofs.Core.{Core, fits_all, fits_back, back_settled}
use Rattle.net_copier.proofs.Standing.{core_of}
use Rattle.turn_kit.specs.Hands.{bodies_of}
use Rattle.turn_kit.proofs.Holding.{at_one, at_more, cargo-append}
use Rattle.buffer_kit.specs.Entries.{all_filled}
use Rattle.net_copier.specs.declared.Stage.{Stage}
use Rattle.net_copier.specs.declared.Stage.TheVariants as At
use Rattle.net_copier.specs.declared.NetCopier.{NetCopier}
use Rattle.net_copier.proofs.Dropping.{held_stands, holds}
use Rattle.net_copier.specs.Copying.{CopierStandsFor, CopierBalances, CopierRow, HoldingCopierStands, HoldingCopierRow, is_copied, is_stray, IfThere, IsAt, leased_bytes, lease_fate, leases_dropped}
use Rattle.buffer_kit.proofs.Filling.{filled_still}
use Rattle.buffer_kit.proofs.Counts.{all_filled_in}

-- a lease that is to be returned is there; where a buffer is filled none is
hand_few : (lease buffer : Option Cargo) (s : Stage) → (is_some buffer ≡ true → (is_some lease ≡ true) × (s ≡ At.Taken)) → bit (is_some lease && is_copied s) + length (option_to_list buffer) ≤ length (option_to_list lease)
hand_few None None s h = omega arith
hand_few None (Some b) s h = let no : is_some {T = Cargo} None ≡ true = (h refl).0 in absurd cc
hand_few (Some l) None At.Taken h = omega arith
hand_few (Some l) None At.Copied h = omega arith
hand_few (Some l) None At.Stray h = omega arith
hand_few (Some l) (Some b) At.Taken h = omega arith
hand_few (Some l) (Some b) At.Copied h = let no : At.Copied ≡ At.Taken = (h refl).1 in absurd cc
hand_few (Some l) (Some b) At.Stray h = let no : At.Stray ≡ At.Taken = (h refl).1 in absurd cc

-- of one moment's lists: no more buffers, with the dropped leases, than leases
taken_few : (drops : Bool) (f : Fate) (tla trf sra slf : List Cargo) (l b : Option Cargo) (s : Stage) → Core drops f tla trf sra slf l b s → length trf + marked f.dropped ≤ length tla
taken_few drops f tla trf sra slf l b s h =
    let hand = hand_few l b s h.buffered in
    let la = ap length h.leases ∙ length-append slf (option_to_list l) in
    let rf = h.takes ∙ length-append sra (option_to_list b) in
    let p = h.puts in
    omega (arith, hand, la, rf, p)

module _ (c : NetCopier) (passed : Passed) (h : CopierStandsFor c passed) where
  abbrev tla : List Cargo
  tla = passed.taken c.lease_input.queue.0

  abbrev trf : List Cargo
  trf = passed.taken c.buffer_input.queue.0

  abbrev sra : List Cargo
  sra = passed.sent c.buffer_output.queue.0

  abbrev slf : List Cargo
  slf = passed.sent c.lease_output.queue.0

  abbrev ds : List Bool
  ds = leases_dropped c passed.calls

  few_taken : length trf + marked ds ≤ length tla
  few_taken = taken_few c.drops (lease_fate c passed.calls) tla trf sra slf c.lease c.buffer c.stage (core_of c passed h)

  fits : (length ds ≤ length tla) ⊎ (marked ds ≡ 0)
  fits = fits_all c.drops (lease_fate c passed.calls) tla trf sra slf c.lease c.buffer c.stage (core_of c passed h)

  pub balance_of : CopierBalances c passed
  balance_of pool =
      let came = at_more pool passed.taken c.lease_input.queue.0 (c.buffer_input.queue.0 ∷ []) in
      let came' = at_one pool passed.taken c.buffer_input.queue.0 in
      let went = at_more pool passed.sent c.buffer_output.queue.0 (c.lease_output.queue.0 ∷ []) in
      let went' = at_one pool passed.sent c.lease_output.queue.0 in
      let leases = ap (λ cs. buffers_of pool (bodies_of cs)) h.leases ∙ cargo-append pool slf (option_to_list c.lease) in
      let long = length-map (without ds tla) leased_bytes in
      let left = without_left ds tla fits in
      let few = few_taken in
      let copies = ap (λ cs. buffers_of pool (bodies_of cs)) h.copies ∙ all_filled_in pool (map leased_bytes (without ds tla)) trf (omega (arith, long, left, few)) in
      let parts = cargo-append pool sra (option_to_list c.buffer) in
      let hand = cargo-append pool (option_to_list c.lease) (option_to_list c.buffer) in
      omega (arith, came, came', went, went', leases, copies, parts, hand)

  -- its row
  turn_of : (l : Option Cargo) → IfThere l (λ x. is_stray x ≡ false) → All (λ (x : Cargo). is_stray x ≡ false) (option_to_list l)
  turn_of None t = λ k d there. absurd (omega (arith, there))
  turn_of (Some x) t = All-push (λ (z : Cargo). is_stray z ≡ false) [] x (λ k d there. absurd (omega (arith, there))) t

  all_in_turn : IfThere c.lease (λ x. is_stray x ≡ false) → CopierRow c passed
  all_in_turn t = record {
    leases = tla;
    stray = [];
    taken = sym (append-nil tla);
    few = omega arith;
    in_turn = rw h.leases (All-append (λ (x : Cargo). is_stray x ≡ false) slf (option_to_list c.lease) h.in_turn (turn_of c.lease t));
    out_of_turn = λ k d there. absurd (omega (arith, there));
    copies = (option_to_list c.buffer, h.copies);
    takes_for = few_taken;
    gives_back = (option_to_list c.lease, sym h.leases);
    after_copy = let p = h.puts in omega (arith, p);
    each = λ on. (h.tells on).each;
    settled = λ on. let k = (h.tells on).came in omega (arith, k);
  }

  at_stray : (x : Cargo) → c.lease ≡ Some x → c.buffer ≡ None → c.stage ≡ At.Stray → Core c.drops (lease_fate c passed.calls) tla trf sra slf (Some x) None At.Stray
  at_stray x lease none stage = subst (λ (l : Option Cargo). Core c.drops (lease_fate c passed.calls) tla trf sra slf l None At.Stray) lease (subst (λ (b : Option Cargo). Core c.drops (lease_fate c passed.calls) tla trf sra slf c.lease b At.Stray) none (subst (λ (s : Stage). Core c.drops (lease_fate c passed.calls) tla trf sra slf c.lease c.buffer s) stage (core_of c passed h)))

  -- one that strayed waits for good
  one_stray : (x : Cargo) → c.lease ≡ Some x → c.stage ≡ At.Stray → is_stray x ≡ true → CopierRow c passed
  one_stray x lease stage t =
      let puts = h.puts ∙ ap (λ n. length slf + n) (ap (λ (s : Stage). bit (is_some c.lease && is_copied s)) stage ∙ ap (λ (l : Option Cargo). bit (is_some l && false)) lease) in
      let none = no_buffer c.buffer h.work.buffered in
      let rf = h.takes ∙ (ap (λ (b : Option Cargo). length (sra ++ option_to_list b)) none ∙ ap length (append-nil sra)) in
      let taken = h.leases ∙ ap (λ (l : Option Cargo). slf ++ option_to_list l) lease in
      let settled = fits_back c.drops (lease_fate c passed.calls) tla trf sra slf x At.Stray refl (at_stray x lease none stage) in
      let left = without_left ds slf settled in
      let kept : without ds tla ≡ without ds slf ++ x ∷ [] = ap (without ds) taken ∙ without_past ds slf (x ∷ []) settled in
      let long = length-map (without ds slf) leased_bytes in
      let few : length trf ≤ length (map leased_bytes (without ds slf)) = omega (arith, puts, rf, long, left) in
      record {
        leases = slf;
        stray = x ∷ [];
        taken = taken;
        few = omega arith;
        in_turn = h.in_turn;
        out_of_turn = All-push (λ (z : Cargo). is_stray z ≡ true) [] x (λ k d there. absurd (omega (arith, there))) t;
        copies = (option_to_list c.buffer, h.copies ∙ (ap (λ xs. all_filled (map leased_bytes xs) trf) kept ∙ (ap (λ fs. all_filled fs trf) (map-append leased_bytes (without ds slf) (x ∷ [])) ∙ filled_still (map leased_bytes (without ds slf)) (leased_bytes x ∷ []) trf few)));
        takes_for = omega (arith, puts, rf);
        gives_back = ([], append-nil slf);
        after_copy = omega (arith, puts);
        each = λ on. (h.tells on).each;
        settled = λ on. back_settled c.drops on (lease_fate c passed.calls) tla trf sra slf x At.Stray refl (at_stray x lease none stage);
      }
    where
      no_buffer : (b : Option Cargo) → (is_some b ≡ true → (is_some c.lease ≡ true) × (c.stage ≡ At.Taken)) → b ≡ None
      no_buffer None f = refl
      no_buffer (Some y) f = let no : At.Stray ≡ At.Taken = sym stage ∙ (f refl).1 in absurd cc

  by_stage : (l : Option Cargo) (s : Stage) → c.lease ≡ l → c.stage ≡ s → IfThere l (IsAt s) → CopierRow c passed
  by_stage None s lease stage t = all_in_turn (rw lease tt)
  by_stage (Some x) At.Taken lease stage t = all_in_turn (rw lease t)
  by_stage (Some x) At.Copied lease stage t = all_in_turn (rw lease t)
  by_stage (Some x) At.Stray lease stage t = one_stray x lease stage t

  pub row_of : CopierRow c passed
  row_of = by_stage c.lease c.stage refl refl h.work.lease

-- a copier that never drops
abbrev waiting : NetCopier → NetCopier
waiting c = record c { drops = false }

waiting_stands : (c : NetCopier) (passed : Passed) → HoldingCopierStands c passed → CopierStandsFor (waiting c) passed
waiting_stands c passed h = held_stands (waiting c) passed refl (record { leases = h.leases; copies = h.copies; takes = h.takes; puts = h.puts; in_turn = h.in_turn; work = record { lease = h.work.lease; buffered = h.work.buffered } })

pub held_row : (c : NetCopier) (passed : Passed) → HoldingCopierStands c passed → HoldingCopierRow c passed
held_row c passed h =
    let row = holds (waiting c) passed refl (row_of (waiting c) passed (waiting_stands c passed h)) in
    record { leases = row.leases; stray = row.stray; taken = row.taken; few = row.few; in_turn = row.in_turn; out_of_turn = row.out_of_turn; copies = row.copies; takes_for = row.takes_for; gives_back = row.gives_back; after_copy = row.after_copy }

pub held_balance : (c : NetCopier) (passed : Passed) → HoldingCopierStands c passed → CopierBalances c passed
held_balance c passed h = balance_of (waiting c) passed (waiting_stands c passed h)
