-- What each call that does what its contract says makes of its end, on either sort of ring.
use Rattle.std.proofs.Common.{◌≡◌, ℕ, suc, ◌+◌, ◌≤◌, Bool, true, false, ◌&&◌, nat_eq, List, [], ◌∷◌, ◌++◌, length, refl, sym, ap, ◌∙◌, arith, Option, None}
use Rattle.std.specs.Prelude.{if◌then◌else◌}
use Rattle.wire_core.specs.declared.names.Op.{Op}
use Rattle.wire_core.specs.declared.names.Op.TheVariants as Do
use Rattle.wire_core.specs.declared.names.Answer.{Answer}
use Rattle.wire_core.specs.Deeds.{Cargo, answer_of}
use Rattle.wire_core.specs.Ends.{end_after}
use Rattle.spsc_queue.specs.declared.view.Half.{Half}
use Rattle.spsc_queue.specs.Rule.{Slot, tail_word, head_word, guard_word}
use Rattle.spsc_queue.specs.Steps.{after_look, empty_if, noes_more, Granted, passed, fits_entry, fits_room, see_answer, room_answer, EntryTold, RoomTold, SeeDid, RoomDid, took, sent, EndDid, known_end, last_value, steps_made}
use Rattle.spsc_queue.specs.Shown.{is_no, more_noes, fewest_steps, most_steps}

-- the end after a look
seen_end : (h : Half) (b : Bool) (w r k : ℕ) (g : Option Slot) → Granted h.kind b g → known_end (after_look b w r g k h) ≡ end_after (known_end h) Do.See (answer_of b)
seen_end h true w r k g gr = ap (λ (z : Option Slot). known_end (after_look true w r z k h)) gr.1
seen_end h false w r k g gr = ap (λ (z : Option Slot). known_end (after_look false w r z k h)) gr

roomed_end : (h : Half) (b : Bool) (w r k : ℕ) → known_end (after_look b w r (empty_if b) k h) ≡ end_after (known_end h) Do.Room (answer_of b)
roomed_end h true w r k = refl
roomed_end h false w r k = refl

module _ (n : ℕ) (h : Half) (r : ℕ) (a : Answer) (c : List Cargo) (h' : Half) where
  entry_end : (fits : Bool) (x : ℕ) → EntryTold fits n h x r a h' → known_end h' ≡ end_after (known_end h) Do.See a
  entry_end false x d = ap known_end d.0 ∙ (seen_end h false tail_word x h.ahead None refl ∙ ap (end_after (known_end h) Do.See) (sym d.1))
  entry_end true x d = ap known_end d.0 ∙ (seen_end (passed tail_word x h) (nat_eq r 1) (guard_word n (length h.entries)) r h.ahead h'.grant d.2 ∙ ap (end_after (known_end h) Do.See) (sym d.1))

  see_end : (wild : Bool) → SeeDid wild n h r a c h' → known_end h' ≡ end_after (known_end h) Do.See a
  see_end false d = ap known_end d.0 ∙ (seen_end h (see_answer h r) 0 r 0 h'.grant d.3 ∙ ap (end_after (known_end h) Do.See) (sym d.1))
  see_end true d = entry_end (fits_entry n (length h.entries) d.0) d.0 d.2

  room_told_end : (fits : Bool) (x : ℕ) → RoomTold fits n h x r a h' → known_end h' ≡ end_after (known_end h) Do.Room a
  room_told_end false x d = ap known_end d.0 ∙ (roomed_end h false head_word x h.ahead ∙ ap (end_after (known_end h) Do.Room) (sym d.1))
  room_told_end true x d = ap known_end d.0 ∙ (roomed_end (passed head_word x h) (nat_eq r 0) (guard_word n (length h.entries)) r h.ahead ∙ ap (end_after (known_end h) Do.Room) (sym d.1))

  room_end : (wild : Bool) → RoomDid wild n h r a c h' → known_end h' ≡ end_after (known_end h) Do.Room a
  room_end false d = ap known_end d.0 ∙ (roomed_end h (room_answer n h r) 0 r 0 ∙ ap (end_after (known_end h) Do.Room) (sym d.1))
  room_end true d = room_told_end (fits_room n (length h.entries) d.0) d.0 d.2

  -- what a look leaves as it was
  entry_same : {X : Type 0} (f : Half → X) → ((g : Half) (b : Bool) (w v k : ℕ) (o : Option Slot) → f (after_look b w v o k g) ≡ f g) → ((g : Half) (w v : ℕ) → f (passed w v g) ≡ f g) → (fits : Bool) (x : ℕ) → EntryTold fits n h x r a h' → f h' ≡ f h
  entry_same f looks goes false x d = ap f d.0 ∙ looks h false tail_word x h.ahead None
  entry_same f looks goes true x d = ap f d.0 ∙ (looks (passed tail_word x h) (nat_eq r 1) (guard_word n (length h.entries)) r h.ahead h'.grant ∙ goes h tail_word x)

  pub see_same : {X : Type 0} (f : Half → X) → ((g : Half) (b : Bool) (w v k : ℕ) (o : Option Slot) → f (after_look b w v o k g) ≡ f g) → ((g : Half) (w v : ℕ) → f (passed w v g) ≡ f g) → (wild : Bool) → SeeDid wild n h r a c h' → f h' ≡ f h
  see_same f looks goes false d = ap f d.0 ∙ looks h (see_answer h r) _ r _ h'.grant
  see_same f looks goes true d = entry_same f looks goes (fits_entry n (length h.entries) d.0) d.0 d.2

  room_told_same : {X : Type 0} (f : Half → X) → ((g : Half) (b : Bool) (w v k : ℕ) (o : Option Slot) → f (after_look b w v o k g) ≡ f g) → ((g : Half) (w v : ℕ) → f (passed w v g) ≡ f g) → (fits : Bool) (x : ℕ) → RoomTold fits n h x r a h' → f h' ≡ f h
  room_told_same f looks goes false x d = ap f d.0 ∙ looks h false head_word x h.ahead None
  room_told_same f looks goes true x d = ap f d.0 ∙ (looks (passed head_word x h) (nat_eq r 0) (guard_word n (length h.entries)) r h.ahead (empty_if (nat_eq r 0)) ∙ goes h head_word x)

  pub room_same : {X : Type 0} (f : Half → X) → ((g : Half) (b : Bool) (w v k : ℕ) (o : Option Slot) → f (after_look b w v o k g) ≡ f g) → ((g : Half) (w v : ℕ) → f (passed w v g) ≡ f g) → (wild : Bool) → RoomDid wild n h r a c h' → f h' ≡ f h
  room_same f looks goes false d = ap f d.0 ∙ looks h (room_answer n h r) _ r _ (empty_if (room_answer n h r))
  room_same f looks goes true d = room_told_same f looks goes (fits_room n (length h.entries) d.0) d.0 d.2

  -- a look that answers no counts one no
  noes_are : (b : Bool) (k : ℕ) → noes_more b k ≡ k + (if is_no (answer_of b) then 1 else 0)
  noes_are true k = omega arith
  noes_are false k = refl

  entry_noes : (fits : Bool) (x : ℕ) → EntryTold fits n h x r a h' → h'.noes ≡ h.noes + (if is_no a then 1 else 0)
  entry_noes false x d = ap (λ (z : Half). z.noes) d.0 ∙ (noes_are false h.noes ∙ ap (λ (z : Answer). h.noes + (if is_no z then 1 else 0)) (sym d.1))
  entry_noes true x d = ap (λ (z : Half). z.noes) d.0 ∙ (noes_are (nat_eq r 1) h.noes ∙ ap (λ (z : Answer). h.noes + (if is_no z then 1 else 0)) (sym d.1))

  see_noes : (wild : Bool) → SeeDid wild n h r a c h' → h'.noes ≡ h.noes + (if is_no a then 1 else 0)
  see_noes false d = ap (λ (z : Half). z.noes) d.0 ∙ (noes_are (see_answer h r) h.noes ∙ ap (λ (z : Answer). h.noes + (if is_no z then 1 else 0)) (sym d.1))
  see_noes true d = entry_noes (fits_entry n (length h.entries) d.0) d.0 d.2

  room_told_noes : (fits : Bool) (x : ℕ) → RoomTold fits n h x r a h' → h'.noes ≡ h.noes + (if is_no a then 1 else 0)
  room_told_noes false x d = ap (λ (z : Half). z.noes) d.0 ∙ (noes_are false h.noes ∙ ap (λ (z : Answer). h.noes + (if is_no z then 1 else 0)) (sym d.1))
  room_told_noes true x d = ap (λ (z : Half). z.noes) d.0 ∙ (noes_are (nat_eq r 0) h.noes ∙ ap (λ (z : Answer). h.noes + (if is_no z then 1 else 0)) (sym d.1))

  room_noes : (wild : Bool) → RoomDid wild n h r a c h' → h'.noes ≡ h.noes + (if is_no a then 1 else 0)
  room_noes false d = ap (λ (z : Half). z.noes) d.0 ∙ (noes_are (room_answer n h r) h.noes ∙ ap (λ (z : Answer). h.noes + (if is_no z then 1 else 0)) (sym d.1))
  room_noes true d = room_told_noes (fits_room n (length h.entries) d.0) d.0 d.2

  -- how many word steps a look is
  abbrev Steps : ℕ → ℕ → Type 0
  Steps least most = (steps_made h + least ≤ steps_made h') × (steps_made h' ≤ steps_made h + most)

  one : steps_made h' ≡ suc (steps_made h) → Steps 1 1
  one e = (omega (arith, e), omega (arith, e))

  pub one_or_two : (wild : Bool) → steps_made h' ≡ suc (steps_made h) → Steps 1 (if wild then 2 else 1)
  one_or_two true e = (omega (arith, e), omega (arith, e))
  one_or_two false e = (omega (arith, e), omega (arith, e))

  entry_steps : (fits : Bool) (x : ℕ) → EntryTold fits n h x r a h' → Steps 1 2
  entry_steps false x d = let e = ap steps_made d.0 in (omega (arith, e), omega (arith, e))
  entry_steps true x d = let e = ap steps_made d.0 in (omega (arith, e), omega (arith, e))

  see_steps : (wild : Bool) → SeeDid wild n h r a c h' → Steps (if wild && false then 2 else 1) (if wild && true then 2 else 1)
  see_steps false d = one (ap steps_made d.0)
  see_steps true d = entry_steps (fits_entry n (length h.entries) d.0) d.0 d.2

  room_told_steps : (fits : Bool) (x : ℕ) → RoomTold fits n h x r a h' → Steps 1 2
  room_told_steps false x d = let e = ap steps_made d.0 in (omega (arith, e), omega (arith, e))
  room_told_steps true x d = let e = ap steps_made d.0 in (omega (arith, e), omega (arith, e))

  room_steps : (wild : Bool) → RoomDid wild n h r a c h' → Steps (if wild && false then 2 else 1) (if wild && true then 2 else 1)
  room_steps false d = one (ap steps_made d.0)
  room_steps true d = room_told_steps (fits_room n (length h.entries) d.0) d.0 d.2

  take_steps : (wild : Bool) (x : Cargo) (t : ℕ) → h' ≡ took wild n x t h → Steps (if wild && true then 2 else 1) (if wild && true then 2 else 1)
  take_steps false x t d = one (ap steps_made d)
  take_steps true x t d = let e = ap steps_made d in (omega (arith, e), omega (arith, e))

  put_steps : (wild : Bool) (x : Cargo) (t : ℕ) → h' ≡ sent wild n x t h → Steps (if wild && true then 2 else 1) (if wild && true then 2 else 1)
  put_steps false x t d = one (ap steps_made d)
  put_steps true x t d = let e = ap steps_made d in (omega (arith, e), omega (arith, e))

  plain_steps : (wild : Bool) → steps_made h' ≡ suc (steps_made h) → Steps (if wild && false then 2 else 1) (if wild && false then 2 else 1)
  plain_steps true e = one e
  plain_steps false e = one e

-- what a take and a put leave as it was, and what they add
module _ (n : ℕ) (h : Half) (x : Cargo) (t : ℕ) where
  pub took_entries : (wild : Bool) → (took wild n x t h).entries ≡ h.entries ++ x ∷ []
  took_entries true = refl
  took_entries false = refl

  pub took_times : (wild : Bool) → (took wild n x t h).times ≡ h.times ++ t ∷ []
  took_times true = refl
  took_times false = refl

  pub sent_entries : (wild : Bool) → (sent wild n x t h).entries ≡ h.entries ++ x ∷ []
  sent_entries true = refl
  sent_entries false = refl

  pub sent_times : (wild : Bool) → (sent wild n x t h).times ≡ h.times ++ t ∷ []
  sent_times true = refl
  sent_times false = refl

  take_end : (wild : Bool) (a : Answer) → known_end (took wild n x t h) ≡ end_after (known_end h) Do.Take a
  take_end true a = refl
  take_end false a = refl

  put_end : (wild : Bool) (a : Answer) → known_end (sent wild n x t h) ≡ end_after (known_end h) Do.Put a
  put_end true a = refl
  put_end false a = refl

  took_sort : (wild : Bool) → (took wild n x t h).wild ≡ h.wild
  took_sort true = refl
  took_sort false = refl

  sent_sort : (wild : Bool) → (sent wild n x t h).wild ≡ h.wild
  sent_sort true = refl
  sent_sort false = refl

  took_noes : (wild : Bool) → (took wild n x t h).noes ≡ h.noes
  took_noes true = refl
  took_noes false = refl

  sent_noes : (wild : Bool) → (sent wild n x t h).noes ≡ h.noes
  sent_noes true = refl
  sent_noes false = refl

-- the waiter, the ringer and the look are those of the table of calls
pub end_did : (n : ℕ) (h : Half) (o : Op) (a : Answer) (c : List Cargo) (h' : Half) → EndDid n h o a c h' → known_end h' ≡ end_after (known_end h) o a
end_did n h Do.See a c h' d = see_end n h (last_value h') a c h' h.wild d
end_did n h Do.Room a c h' d = room_end n h (last_value h') a c h' h.wild d
end_did n h Do.Take a c h' d = ap known_end d.4 ∙ take_end n h d.0 d.1 h.wild a
end_did n h Do.Put a c h' d = ap known_end d.3 ∙ put_end n h d.0 d.1 h.wild a
end_did n h (Do.Ask s) a c h' d = ap known_end d.0
end_did n h (Do.Waive s) a c h' d = ap known_end d.0
end_did n h (Do.Wake s) a c h' d = ap known_end d.0 ∙ ap (end_after (known_end h) (Do.Wake s)) (sym d.1)
end_did n h (Do.Wanted s) a c h' d = ap known_end d.0 ∙ ap (end_after (known_end h) (Do.Wanted s)) (sym d.1)
end_did n h (Do.Settle s) a c h' d = ap known_end d.0
end_did n h (Do.Ring s) a c h' d = ap known_end d.0
end_did n h (Do.Store w v) a c h' d = ap known_end d.0

pub sort_did : (n : ℕ) (h : Half) (o : Op) (a : Answer) (c : List Cargo) (h' : Half) → EndDid n h o a c h' → h'.wild ≡ h.wild
sort_did n h Do.See a c h' d = see_same n h (last_value h') a c h' (λ (z : Half). z.wild) (λ g b w v k o. refl) (λ g w v. refl) h.wild d
sort_did n h Do.Room a c h' d = room_same n h (last_value h') a c h' (λ (z : Half). z.wild) (λ g b w v k o. refl) (λ g w v. refl) h.wild d
sort_did n h Do.Take a c h' d = ap (λ (z : Half). z.wild) d.4 ∙ took_sort n h d.0 d.1 h.wild
sort_did n h Do.Put a c h' d = ap (λ (z : Half). z.wild) d.3 ∙ sent_sort n h d.0 d.1 h.wild
sort_did n h (Do.Ask s) a c h' d = ap (λ (z : Half). z.wild) d.0
sort_did n h (Do.Waive s) a c h' d = ap (λ (z : Half). z.wild) d.0
sort_did n h (Do.Wake s) a c h' d = ap (λ (z : Half). z.wild) d.0
sort_did n h (Do.Wanted s) a c h' d = ap (λ (z : Half). z.wild) d.0
sort_did n h (Do.Settle s) a c h' d = ap (λ (z : Half). z.wild) d.0
sort_did n h (Do.Ring s) a c h' d = ap (λ (z : Half). z.wild) d.0
sort_did n h (Do.Store w v) a c h' d = ap (λ (z : Half). z.wild) d.0

no_more : (k : ℕ) → k ≡ k + 0
no_more k = omega arith

pub noes_did : (n : ℕ) (h : Half) (o : Op) (a : Answer) (c : List Cargo) (h' : Half) → EndDid n h o a c h' → h'.noes ≡ h.noes + more_noes o a
noes_did n h Do.See a c h' d = see_noes n h (last_value h') a c h' h.wild d
noes_did n h Do.Room a c h' d = room_noes n h (last_value h') a c h' h.wild d
noes_did n h Do.Take a c h' d = ap (λ (z : Half). z.noes) d.4 ∙ (took_noes n h d.0 d.1 h.wild ∙ no_more h.noes)
noes_did n h Do.Put a c h' d = ap (λ (z : Half). z.noes) d.3 ∙ (sent_noes n h d.0 d.1 h.wild ∙ no_more h.noes)
noes_did n h (Do.Ask s) a c h' d = ap (λ (z : Half). z.noes) d.0 ∙ no_more h.noes
noes_did n h (Do.Waive s) a c h' d = ap (λ (z : Half). z.noes) d.0 ∙ no_more h.noes
noes_did n h (Do.Wake s) a c h' d = ap (λ (z : Half). z.noes) d.0 ∙ no_more h.noes
noes_did n h (Do.Wanted s) a c h' d = ap (λ (z : Half). z.noes) d.0 ∙ no_more h.noes
noes_did n h (Do.Settle s) a c h' d = ap (λ (z : Half). z.noes) d.0 ∙ no_more h.noes
noes_did n h (Do.Ring s) a c h' d = ap (λ (z : Half). z.noes) d.0 ∙ no_more h.noes
noes_did n h (Do.Store w v) a c h' d = ap (λ (z : Half). z.noes) d.0 ∙ no_more h.noes

pub steps_did : (n : ℕ) (h : Half) (o : Op) (a : Answer) (c : List Cargo) (h' : Half) → EndDid n h o a c h' → (steps_made h + fewest_steps h.wild o ≤ steps_made h') × (steps_made h' ≤ steps_made h + most_steps h.wild o)
steps_did n h Do.See a c h' d = see_steps n h (last_value h') a c h' h.wild d
steps_did n h Do.Room a c h' d = room_steps n h (last_value h') a c h' h.wild d
steps_did n h Do.Take a c h' d = take_steps n h 0 a c h' h.wild d.0 d.1 d.4
steps_did n h Do.Put a c h' d = put_steps n h 0 a c h' h.wild d.0 d.1 d.3
steps_did n h (Do.Ask s) a c h' d = plain_steps n h 0 a c h' h.wild (ap steps_made d.0)
steps_did n h (Do.Waive s) a c h' d = plain_steps n h 0 a c h' h.wild (ap steps_made d.0)
steps_did n h (Do.Wake s) a c h' d = plain_steps n h 0 a c h' h.wild (ap steps_made d.0)
steps_did n h (Do.Wanted s) a c h' d = plain_steps n h 0 a c h' h.wild (ap steps_made d.0)
steps_did n h (Do.Settle s) a c h' d = plain_steps n h 0 a c h' h.wild (ap steps_made d.0)
steps_did n h (Do.Ring s) a c h' d = plain_steps n h 0 a c h' h.wild (ap steps_made d.0)
steps_did n h (Do.Store w v) a c h' d = plain_steps n h 0 a c h' h.wild (ap steps_made d.0)
