use Rattle.std.proofs.Common.{◌≡◌, ◌+◌, ℕ, Bool, true, false, List, [], ◌∷◌, ◌++◌, Some, take, map, slice_get, refl, ap, ◌∙◌}
use Rattle.std.specs.List.{filter}
use Rattle.std.proofs.lemmas.List.{take_more, map-append}
use Rattle.std.proofs.lemmas.List.Elements.{filter-append}
use Rattle.std.proofs.lemmas.Option.{slice_get_within, get_or_from_slice_get}
use Rattle.frame_core.specs.Frames.{turned_round}
use Rattle.frame_core.specs.declared.mac.Mac.{Mac}
use Rattle.class_expect.specs.NetExpect.Expecting.{is_for_client, frames_for, answers_for}

pub kept : {X : Type 0} (p : X → Bool) (x : X) → p x ≡ true → filter p (x ∷ []) ≡ x ∷ []
kept p x t = rw t refl

pub left : {X : Type 0} (p : X → Bool) (x : X) → p x ≡ false → filter p (x ∷ []) ≡ []
left p x t = rw t refl

-- the frames up to the next one
module _ (mac : Mac) (frames : List (List ℕ)) (k : ℕ) (f : List ℕ) (at : slice_get frames k ≡ Some f) where
  pub one_more : frames_for mac (take (k + 1) frames) ≡ frames_for mac (take k frames) ++ filter (is_for_client mac) (f ∷ [])
  one_more = rw (take_more frames k [] (slice_get_within frames k f at), get_or_from_slice_get frames k f [] at) (filter-append (is_for_client mac) (take k frames) (f ∷ []))

  pub one_answer_more : answers_for mac (take (k + 1) frames) ≡ answers_for mac (take k frames) ++ answers_for mac (f ∷ [])
  one_answer_more = ap (map (λ (frame : List ℕ). turned_round frame mac)) one_more ∙ map-append (λ (frame : List ℕ). turned_round frame mac) (frames_for mac (take k frames)) (frames_for mac (f ∷ []))
