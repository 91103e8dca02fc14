use Rattle.std.proofs.Common.{◌≡◌, ◌==◌, ◌&&◌, ℕ, Bool, true, false, Option, Some, None, is_none, IsSome, List, [], ◌∷◌, ◌++◌, length, refl, sym, ap, ◌∙◌, subst}
use Rattle.std.specs.Option.{option_to_list}
use Rattle.std.proofs.lemmas.List.{append-nil}
use Rattle.std.proofs.lemmas.List.Elements.{All-push}
use Rattle.wire_core.specs.declared.names.Event.{Event}
use Rattle.wire_core.specs.Deeds.{Cargo}
use Rattle.wire_core.specs.Lists.{Lists, Passed, with, if_there}
use Rattle.wire_core.proofs.Places.{if_there_here}
use Rattle.turn_kit.specs.declared.ends.Intake.{Intake}
use Rattle.device_model.specs.declared.disk.DiskDevice.{DiskDevice}
use Rattle.device_model.specs.Disk.Serving.{answer_to, answers_to, done, image_after, is_stray}
use Rattle.device_model.specs.Disk.Disks.{DiskStandsFor, disk_with, is_asking, req, resp, taken_if}
use Rattle.device_model.proofs.DiskLemmas.Replaying.{answers_more, image_more, stray_alike}

some_eq : {a b : Cargo} → Some a ≡ Some b → a ≡ b
some_eq e = cc

-- a request came, which was done, or is kept where it is out of turn
module _ (start : List ℕ) (d : DiskDevice) (i : Intake) (x : Cargo) (passed : Passed) (took put : Lists) (calls : List Event)
    (queue : i.queue ≡ d.input.queue) (no_load : d.load ≡ None) (no_stray : d.stray ≡ None) (size : length (disk_with (record d { input = i }) x).image ≡ length d.image)
    (takes : (n : ℕ) → took n ≡ if_there (req d == n) (x ∷ [])) (puts : (n : ℕ) → put n ≡ []) (h : DiskStandsFor start d passed) where
  came : took (req d) ≡ x ∷ []
  came = takes (req d) ∙ if_there_here (req d) (x ∷ [])

  all_done : passed.taken (req d) ≡ h.requests
  all_done = h.taken ∙ (ap (λ (s : Option Cargo). h.requests ++ option_to_list s) no_stray ∙ append-nil h.requests)

  all_put : passed.sent (resp d) ≡ answers_to start h.requests
  all_put = sym (append-nil (passed.sent (resp d))) ∙ (ap (λ (l : Option Cargo). passed.sent (resp d) ++ option_to_list l) (sym no_load) ∙ h.answered)

  -- what passed now
  abbrev after : Passed
  after = record { taken = with passed.taken took; sent = with passed.sent put; calls = calls }

  answer_now : answers_to start h.requests ++ answer_to d.image x ∷ [] ≡ answers_to start (h.requests ++ x ∷ [])
  answer_now = ap (λ image. answers_to start h.requests ++ answer_to image x ∷ []) h.image ∙ sym (answers_more start h.requests x)

  image_now : done d.image x ≡ image_after start (h.requests ++ x ∷ [])
  image_now = ap (λ image. done image x) h.image ∙ sym (image_more start h.requests x)

  by_turn : (b : Bool) → is_stray d.image x ≡ b → length (taken_if b (record d { input = i }) x).image ≡ length d.image → DiskStandsFor start (taken_if b (record d { input = i }) x) after
  by_turn true stray long = record {
    requests = h.requests;
    taken = rw (queue, came, all_done) refl;
    answered = rw (puts (resp d), append-nil (passed.sent (resp d))) h.answered;
    image = h.image;
    size = h.size;
    in_turn = h.in_turn;
    out_of_turn = λ y e. subst (λ (z : Cargo). is_stray start z ≡ true) (some_eq e) (sym (stray_alike d.image start h.size x) ∙ stray);
  }
  by_turn false stray long = record {
    requests = h.requests ++ x ∷ [];
    taken = rw (queue, came, all_done, no_stray) (sym (append-nil (h.requests ++ x ∷ [])));
    answered = rw (puts (resp d), append-nil (passed.sent (resp d)), all_put) answer_now;
    image = image_now;
    size = long ∙ h.size;
    in_turn = All-push (λ (y : Cargo). is_stray start y ≡ false) h.requests x h.in_turn (sym (stray_alike d.image start h.size x) ∙ stray);
    out_of_turn = λ y e. let no : None ≡ Some y = sym no_stray ∙ e in cc;
  }

  pub request_came : DiskStandsFor start (disk_with (record d { input = i }) x) after
  request_came = by_turn (is_stray d.image x) refl size

-- a request comes only where none is in the hand
asking_as : (l s : Option Cargo) → (is_none l && is_none s) ≡ true → (l ≡ None) × (s ≡ None)
asking_as None None h = (refl, refl)
asking_as None (Some y) h = cc
asking_as (Some y) s h = cc

pub asking : (d : DiskDevice) (got : Option Cargo) (need : Bool) → need ≡ is_asking d → (IsSome got → need ≡ true) → (x : Cargo) → got ≡ Some x → (d.load ≡ None) × (d.stray ≡ None)
asking d None need is f x at = cc
asking d (Some z) need is f x at = asking_as d.load d.stray (sym is ∙ f refl)
