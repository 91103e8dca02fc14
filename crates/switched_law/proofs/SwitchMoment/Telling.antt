-- Which frames go to which port: of the entries that a switch took, and of the frames alone.
use Rattle.std.proofs.Common.{◌≡◌, ◌==◌, ◌&&◌, ◌||◌, ◌+◌, ◌*◌, ◌<◌, ℕ, zero, suc, Bool, true, false, not, cond, Option, Some, None, List, [], ◌∷◌, ◌++◌, length, map, slice_get, slice_index_or, refl, sym, ap, ◌∙◌, subst, arith, inl, inr, length-set}
use Rattle.std.specs.List.{filter, count_by}
use Rattle.std.specs.Option.{option_map, option_to_list}
use Rattle.std.proofs.lemmas.Bool.{cases_Bool, cases_lt, eqb-true, eq-eqb}
use Rattle.std.proofs.lemmas.List.{length-map}
use Rattle.std.proofs.lemmas.List.Sums.{sum_by-cons}
use Rattle.frame_core.specs.declared.mac.Mac.{Mac}
use Rattle.wire_core.specs.declared.names.Event.{Event}
use Rattle.play_core.proofs.Lists.{some_is, there_is}
use Rattle.buffer_kit.specs.Clients.{is_so}
use Rattle.buffer_kit.specs.Entries.{frame_of}
use Rattle.class_expect.specs.NetExpect.Expecting.{is_for_client}
use Rattle.net_switch.specs.SwitchDesk.Frames as desk
use Rattle.net_switch.specs.SwitchDesk.Frames.{Sent}
use Rattle.switched_law.proofs.SwitchLaw.Going.{goes_own, goes_other, lost_nowhere, kept_somewhere}
use Rattle.net_switch.specs.Switching.{takes_on}
use Rattle.switched_law.specs.SwitchMoment.Takes.{FromPort, told, takes_from, next_frame, frames_after, reaches, some_below, reaches_none, reaching, frames_in, sent_by}

-- P of each element
abbrev pub Each : {X : Type 0} → (X → Type 0) → List X → Type 0
Each {X} P [] = Unit {0}
Each {X} P (x ∷ xs) = P x × Each P xs

each_append : {X : Type 0} (P : X → Type 0) (xs ys : List X) → Each P xs → Each P ys → Each P (xs ++ ys)
each_append P [] ys a b = b
each_append P (x ∷ xs) ys a b = (a.0, each_append P xs ys a.1 b)

pub each_at : {X : Type 0} (P : X → Type 0) (xs : List X) → Each P xs → (k : ℕ) (x : X) → slice_get xs k ≡ Some x → P x
each_at P [] h k x at = cc
each_at P (y ∷ xs) h zero x at = subst P (some_is at) h.0
each_at P (y ∷ xs) h (suc k) x at = each_at P xs h.1 k x at

-- what holds of each frame that some port sends holds of each that was taken
next_each : (P : FromPort → Type 0) (s : ℕ) (sends : List (List (List ℕ))) (before : List Event) (e : Event) → ((k : ℕ) (frames : List (List ℕ)) (j : ℕ) (frame : List ℕ) → slice_get sends k ≡ Some frames → slice_get frames j ≡ Some frame → P (s + k, frame))
    → Each P (next_frame s sends before e)
next_each P s [] before e all = tt
next_each P s (frames ∷ sends) before e all =
    each_append P (cond (takes_from s e) (option_to_list (option_map (λ (f : List ℕ). (s, f)) (slice_get frames (takes_on (4 * s) before)))) []) (next_frame (s + 1) sends before e)
    (here (takes_from s e))
    (next_each P (s + 1) sends before e (λ k fs j f at there. subst (λ i. P (i, f)) (omega arith) (all (suc k) fs j f at there)))
  where
    got : (o : Option (List ℕ)) → slice_get frames (takes_on (4 * s) before) ≡ o → Each P (option_to_list (option_map (λ (f : List ℕ). (s, f)) o))
    got None e = tt
    got (Some f) e = (subst (λ i. P (i, f)) (omega arith) (all 0 frames (takes_on (4 * s) before) f refl e), tt)

    here : (b : Bool) → Each P (cond b (option_to_list (option_map (λ (f : List ℕ). (s, f)) (slice_get frames (takes_on (4 * s) before)))) [])
    here true = got (slice_get frames (takes_on (4 * s) before)) refl
    here false = tt

pub frames_each : (P : FromPort → Type 0) (sends : List (List (List ℕ))) → ((k : ℕ) (frames : List (List ℕ)) (j : ℕ) (frame : List ℕ) → slice_get sends k ≡ Some frames → slice_get frames j ≡ Some frame → P (k, frame)) → (before es : List Event)
    → Each P (frames_after sends before es)
frames_each P sends all before [] = tt
frames_each P sends all before (e ∷ es) =
    each_append P (next_frame 0 sends before e) (frames_after sends (before ++ e ∷ []) es)
    (next_each P 0 sends before e (λ k fs j f at there. subst (λ i. P (i, f)) (omega arith) (all k fs j f at there)))
    (frames_each P sends all (before ++ e ∷ []) es)

-- whether a frame goes to a port
pub goes_same : (macs : List Mac) (port : ℕ) (mac : Mac) → slice_get macs port ≡ Some mac → (x : Sent) → desk.goes_to macs port x ≡ reaches macs port (told x)
goes_same macs port mac at x = elim (cases_Bool (x.0 == port)) [
  | inl is ↦
      goes_own macs port x (eqb-true x.0 port is)
      ∙ sym (ap (λ b. not b && is_so (λ (m : Mac). is_for_client m (frame_of x.1)) (slice_get macs port)) is)
  | inr isnt ↦
      goes_other macs port mac at x (λ e. let bad = sym (eq-eqb x.0 port e) ∙ isnt in cc)
      ∙ sym (ap (λ b. not b && is_so (λ (m : Mac). is_for_client m (frame_of x.1)) (slice_get macs port)) isnt ∙ ap (is_so (λ (m : Mac). is_for_client m (frame_of x.1))) at)
]

-- so those that go there are the same
pub reaching_told : (macs : List Mac) (port : ℕ) (mac : Mac) → slice_get macs port ≡ Some mac → (xs : List Sent) → reaching macs port (map told xs) ≡ map told (desk.sent_to macs port xs)
reaching_told macs port mac at [] = refl
reaching_told macs port mac at (x ∷ xs) =
    ap (λ b. cond b (told x ∷ reaching macs port (map told xs)) (reaching macs port (map told xs))) (sym (goes_same macs port mac at x))
    ∙ by (desk.goes_to macs port x) (reaching_told macs port mac at xs)
  where
    by : (b : Bool) → reaching macs port (map told xs) ≡ map told (desk.sent_to macs port xs) → cond b (told x ∷ reaching macs port (map told xs)) (reaching macs port (map told xs)) ≡ map told (cond b (x ∷ desk.sent_to macs port xs) (desk.sent_to macs port xs))
    by true rest = ap (λ l. told x ∷ l) rest
    by false rest = rest

pub frames_told : (xs : List Sent) → frames_in (map told xs) ≡ map (λ (x : Sent). frame_of x.1) xs
frames_told [] = refl
frames_told (x ∷ xs) = ap (λ l. frame_of x.1 ∷ l) (frames_told xs)

-- some number that is so, or none
pub some_true : (n : ℕ) (p : ℕ → Bool) (k : ℕ) → k < n → p k ≡ true → some_below n p ≡ true
some_true zero p k less is = absurd (omega (arith, less))
some_true (suc n) p k less is = elim (cases_lt k n) [
  | inl below ↦ rw (some_true n p k below is) refl
  | inr past ↦ (let same : k ≡ n = omega (arith, less, past) in let here : p n ≡ true = ap p (sym same) ∙ is in rw here (or_right (some_below n p)))
]
  where
    or_right : (b : Bool) → (b || true) ≡ true
    or_right true = refl
    or_right false = refl

pub some_false : (n : ℕ) (p : ℕ → Bool) → ((k : ℕ) → k < n → p k ≡ false) → some_below n p ≡ false
some_false zero p none = refl
some_false (suc n) p none = let rest = some_false n p (λ k less. none k (omega (arith, less))) in let here = none n (omega arith) in rw (rest, here) refl

pub index_within : (bs : List Bool) (k : ℕ) → slice_index_or bs k false ≡ true → k < length bs
index_within [] k h = cc
index_within (b ∷ bs) zero h = omega arith
index_within (b ∷ bs) (suc k) h = let r = index_within bs k h in omega (arith, r)

pub goes_within : (macs : List Mac) (port : ℕ) (x : Sent) → desk.goes_to macs port x ≡ true → port < length macs
goes_within macs port x is =
    let low = index_within (desk.receivers_of macs x) port is in
    let set = length-set (map (λ (mac : Mac). is_for_client mac (frame_of x.1)) macs) x.0 false in
    let long = length-map macs (λ (mac : Mac). is_for_client mac (frame_of x.1)) in
    omega (arith, low, set, long)

-- a frame that goes to no port
lost_same : (macs : List Mac) (x : Sent) → desk.is_lost macs x ≡ reaches_none macs (told x)
lost_same macs x = elim (cases_Bool (desk.is_lost macs x)) [
  | inl is ↦
      let none : some_below (length macs) (λ port. reaches macs port (told x)) ≡ false =
      some_false (length macs) (λ port. reaches macs port (told x)) (λ port less. let mac = there_is macs port less in sym (goes_same macs port mac.0 mac.1 x) ∙ lost_nowhere macs x is port) in
      is ∙ sym (ap not none)
  | inr isnt ↦
      let to = kept_somewhere macs x isnt in
      let less = goes_within macs to.0 x to.1 in
      let mac = there_is macs to.0 less in
      let some : some_below (length macs) (λ port. reaches macs port (told x)) ≡ true =
      some_true (length macs) (λ port. reaches macs port (told x)) to.0 less (sym (goes_same macs to.0 mac.0 mac.1 x) ∙ to.1) in
      isnt ∙ sym (ap not some)
]

pub lost_count : (macs : List Mac) (xs : List Sent) → count_by (desk.is_lost macs) xs ≡ count_by (reaches_none macs) (map told xs)
lost_count macs [] = refl
lost_count macs (x ∷ xs) =
    let a = sum_by-cons (λ (y : Sent). cond (desk.is_lost macs y) 1 0) x xs in
    let b = sum_by-cons (λ (y : FromPort). cond (reaches_none macs y) 1 0) (told x) (map told xs) in
    let here : cond {A = ℕ} (desk.is_lost macs x) 1 0 ≡ cond (reaches_none macs (told x)) 1 0 = ap (λ b. cond {A = ℕ} b 1 0) (lost_same macs x) in
    let rest = lost_count macs xs in
    omega (arith, a, b, here, rest)

-- the frames of one port are those of its entries
pub sent_told : (port : ℕ) (xs : List Sent) → sent_by port (map told xs) ≡ map frame_of (desk.entries_from port xs)
sent_told port [] = refl
sent_told port (x ∷ xs) = by (x.0 == port) (sent_told port xs)
  where
    by : (b : Bool) → sent_by port (map told xs) ≡ map frame_of (desk.entries_from port xs) → frames_in (cond b (told x ∷ filter (λ (y : FromPort). y.0 == port) (map told xs)) (filter (λ (y : FromPort). y.0 == port) (map told xs)))
        ≡ map frame_of (map (λ (y : Sent). y.1) (cond b (x ∷ filter (λ (y : Sent). y.0 == port) xs) (filter (λ (y : Sent). y.0 == port) xs)))
    by true rest = ap (λ l. frame_of x.1 ∷ l) rest
    by false rest = rest
