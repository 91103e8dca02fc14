-- What is owed to a port, by what the desk holds and by what was taken.
use Rattle.std.proofs.Common.{◌≡◌, ◌==◌, ◌||◌, ◌<◌, ◌++◌, ℕ, zero, suc, Bool, true, false, nat_lt, cond, flat_map, slice_index_or, is_some, Option, Some, None, List, [], ◌∷◌, length, map, drop, refl, sym, ap, ◌∙◌, subst, arith, inl, inr}
use Rattle.std.specs.List.{find, list_any}
use Rattle.std.specs.Option.{option_to_list, option_map}
use Rattle.std.proofs.lemmas.Bool.{cases_Bool, lt-ltb, eqb-true, eq-eqb}
use Rattle.std.proofs.lemmas.List.{map-append}
use Rattle.std.proofs.lemmas.List.Folds.{list_any-append}
use Rattle.wire_core.specs.Bells.{bit}
use Rattle.wire_core.specs.Deeds.{Cargo}
use Rattle.buffer_kit.specs.Clients.{entry_in}
use Rattle.net_virt_rx.specs.Sharing.{how_many}
use Rattle.net_switch.specs.declared.switch_desk.desk.Desk.{Desk}
use Rattle.net_switch.specs.declared.switch_desk.slot.Slot.{Slot}
use Rattle.net_switch.specs.SwitchDesk.Frames.{Sent}
use Rattle.net_switch.specs.SwitchDesk.Orders.{times}
use Rattle.net_switch.specs.SwitchDesk.Desks.{IsDesk, held_at, owes, owed_by, owed_to, first_owing}
use Rattle.net_switch.proofs.SwitchDesk.Orders.{skipped}
use Rattle.net_switch.proofs.SwitchDesk.Moves.{first_held}
use Rattle.net_switch.proofs.SwitchDesk.Owing.{owed_first}
use Rattle.switched_law.specs.SwitchMoment.Takes.{FromPort, told, some_below}

pub bool_same : (a b : Bool) → (a ≡ true → b ≡ true) → (b ≡ true → a ≡ true) → a ≡ b
bool_same true b f g = sym (f refl)
bool_same false true f g = g refl
bool_same false false f g = refl

pub some_found : (n : ℕ) (p : ℕ → Bool) → some_below n p ≡ true → (k : ℕ) × (k < n) × (p k ≡ true)
some_found zero p h = cc
some_found (suc n) p h = elim (cases_Bool (p n)) [
  | inl is ↦ (n, omega arith, is)
  | inr isnt ↦ (let rest = some_found n p (left (some_below n p) (p n) isnt h) in let less = rest.1 in (rest.0, omega (arith, less), rest.2))
]
  where
    left : (a b : Bool) → b ≡ false → (a || b) ≡ true → a ≡ true
    left true b e h = refl
    left false b e h = let bad = sym e ∙ h in cc

-- marks that are set
pub some_marked : (bs : List Bool) → 0 < how_many bs → (k : ℕ) × (slice_index_or bs k false ≡ true)
some_marked [] some = absurd (omega (arith, some))
some_marked (true ∷ bs) some = (0, refl)
some_marked (false ∷ bs) some = let rest = some_marked bs (omega (arith, some)) in (suc rest.0, rest.1)

pub marked_some : (bs : List Bool) (k : ℕ) → slice_index_or bs k false ≡ true → 0 < how_many bs
marked_some [] k h = cc
marked_some (b ∷ bs) zero h = let one : bit b ≡ 1 = ap bit h in omega (arith, one)
marked_some (b ∷ bs) (suc k) h = let rest = marked_some bs k h in omega (arith, rest)

drop_map : {X Y : Type 0} (f : X → Y) (k : ℕ) (xs : List X) → drop k (map f xs) ≡ map f (drop k xs)
drop_map f zero xs = refl
drop_map f (suc k) [] = refl
drop_map f (suc k) (x ∷ xs) = drop_map f k xs

pub drop_told : (k : ℕ) (xs : List Sent) → drop k (map told xs) ≡ map told (drop k xs)
drop_told k xs = drop_map told k xs

-- where none owes, nothing is owed
none_flat : {X Y : Type 0} (p : X → Bool) (f : X → List Y) (xs : List X) → find p xs ≡ None → ((x : X) → p x ≡ false → f x ≡ []) → flat_map f xs ≡ []
none_flat p f [] none quiet = refl
none_flat p f (x ∷ xs) none quiet = elim (cases_Bool (p x)) [
  | inl is ↦ absurd (let bad = rw is at none in cc)
  | inr isnt ↦ (let later : find p xs ≡ None = rw isnt at none in ap (λ l. l ++ flat_map f xs) (quiet x isnt) ∙ none_flat p f xs later quiet)
]

module _ (d : Desk) (is : IsDesk d) (port : ℕ) where
  -- of a port that owes, its frame
  owing_one : (sender : ℕ) (held : Cargo) → owes d sender port ≡ true → held_at d sender ≡ Some held → owed_by d port sender ≡ (sender, held) ∷ []
  owing_one sender held owing there =
      ap (λ b. cond b (option_to_list (option_map (λ (c : Cargo). (sender, c)) (held_at d sender))) []) owing
      ∙ ap (λ (o : Option Cargo). option_to_list (option_map (λ (c : Cargo). (sender, c)) o)) there

  owing_none : (sender : ℕ) → owes d sender port ≡ false → owed_by d port sender ≡ []
  owing_none sender isnt = ap (λ b. cond b (option_to_list (option_map (λ (c : Cargo). (sender, c)) (held_at d sender))) []) isnt

  -- something is owed where some port owes
  pub owed_some : is_some (first_owing d port) ≡ nat_lt 0 (length (owed_to d port))
  owed_some = by (first_owing d port) refl
    where
      by : (o : Option ℕ) → first_owing d port ≡ o → is_some (first_owing d port) ≡ nat_lt 0 (length (owed_to d port))
      by None e =
          let none : owed_to d port ≡ [] = none_flat (λ x. owes d x port) (owed_by d port) d.order e owing_none in
          ap is_some e ∙ sym (ap (λ (l : List Sent). nat_lt 0 (length l)) none)
      by (Some sender) e =
          let f = first_held d is port sender e in
          let held : held_at d sender ≡ Some f.1 = ap (λ (o : Option Slot). entry_in (λ (s : Slot). s.frame) o) f.2 ∙ f.3 in
          let some = owed_first (owed_by d port) (λ x. owes d x port) sender (sender, f.1) d.order e owing_none (owing_one sender f.1 f.4 held) in
          let long = ap (λ l. length l) some.1 in
          ap is_some e ∙ sym (lt-ltb 0 (length (owed_to d port)) (omega (arith, long)))

  -- what is owed is a port's where that port owes
  abbrev of_port : ℕ → FromPort → Bool
  of_port sender x = x.0 == sender

  any_front : (sender other : ℕ) → list_any (of_port sender) (map told (owed_by d port other)) ≡ true → (other ≡ sender) × (owes d other port ≡ true)
  any_front sender other h = elim (cases_Bool (owes d other port)) [
    | inl owing ↦ (by (held_at d other) (let l = rw owing at h in l), owing)
    | inr isnt ↦ absurd (let bad = sym (ap (λ l. list_any (of_port sender) (map told l)) (owing_none other isnt)) ∙ h in cc)
  ]
    where
      by : (o : Option Cargo) → list_any (of_port sender) (map told (option_to_list (option_map (λ (c : Cargo). (other, c)) o))) ≡ true → other ≡ sender
      by None l = cc
      by (Some c) l = eqb-true other sender (or_left (other == sender) l)
        where
          or_left : (b : Bool) → (b || false) ≡ true → b ≡ true
          or_left true e = refl
          or_left false e = cc

  any_parts : (sender other : ℕ) (xs : List ℕ) → list_any (of_port sender) (map told (flat_map (owed_by d port) (other ∷ xs)))
      ≡ (list_any (of_port sender) (map told (owed_by d port other)) || list_any (of_port sender) (map told (flat_map (owed_by d port) xs)))
  any_parts sender other xs =
      ap (list_any (of_port sender)) (map-append told (owed_by d port other) (flat_map (owed_by d port) xs))
      ∙ list_any-append (of_port sender) (map told (owed_by d port other)) (map told (flat_map (owed_by d port) xs))

  pub any_owes : (sender : ℕ) (xs : List ℕ) → list_any (of_port sender) (map told (flat_map (owed_by d port) xs)) ≡ true → owes d sender port ≡ true
  any_owes sender [] h = cc
  any_owes sender (other ∷ xs) h = elim (cases_Bool (list_any (of_port sender) (map told (owed_by d port other)))) [
    | inl here ↦ (let f = any_front sender other here in subst (λ s. owes d s port ≡ true) f.0 f.1)
    | inr isnt ↦ any_owes sender xs (right (list_any (of_port sender) (map told (owed_by d port other))) (list_any (of_port sender) (map told (flat_map (owed_by d port) xs))) isnt (sym (any_parts sender other xs) ∙ h))
  ]
    where
      right : (a b : Bool) → a ≡ false → (a || b) ≡ true → b ≡ true
      right true b e h = cc
      right false b e h = h

  pub owes_any : (sender : ℕ) (held : Cargo) (xs : List ℕ) → owes d sender port ≡ true → held_at d sender ≡ Some held → 0 < times sender xs → list_any (of_port sender) (map told (flat_map (owed_by d port) xs)) ≡ true
  owes_any sender held [] owing there some = absurd (omega (arith, some))
  owes_any sender held (other ∷ xs) owing there some = elim (cases_Bool (other == sender)) [
    | inl same ↦
        let e : other ≡ sender = eqb-true other sender same in
        let one : owed_by d port other ≡ (sender, held) ∷ [] = ap (owed_by d port) e ∙ owing_one sender held owing there in
        any_parts sender other xs
        ∙ (ap (λ l. list_any (of_port sender) (map told l) || list_any (of_port sender) (map told (flat_map (owed_by d port) xs))) one
        ∙ ap (λ b. (b || false) || list_any (of_port sender) (map told (flat_map (owed_by d port) xs))) (eq-eqb sender sender refl))
    | inr off ↦
        let less = skipped sender other xs off in
        any_parts sender other xs
        ∙ (ap (λ b. list_any (of_port sender) (map told (owed_by d port other)) || b) (owes_any sender held xs owing there (omega (arith, less, some))) ∙ or_right (list_any (of_port sender) (map told (owed_by d port other))))
  ]
    where
      or_right : (b : Bool) → (b || true) ≡ true
      or_right true = refl
      or_right false = refl
