-- A frame that goes to no port, and what each port's share leaves out.
use Rattle.std.proofs.Common.{◌≡◌, ◌==◌, ◌&&◌, ◌<◌, ℕ, Bool, true, false, not, cond, Some, List, [], ◌∷◌, length, slice_get, refl, sym, ap, ◌∙◌, inl, inr}
use Rattle.std.specs.List.{filter}
use Rattle.std.proofs.lemmas.Bool.{cases_Bool}
use Rattle.frame_core.specs.declared.mac.Mac.{Mac}
use Rattle.buffer_kit.specs.Clients.{is_so}
use Rattle.class_expect.specs.NetExpect.Expecting.{is_for_client, frames_for}
use Rattle.play_core.proofs.Lists.{there_is, there_below}
use Rattle.switched_law.specs.SwitchLaw.Ports.{to_from}
use Rattle.switched_law.specs.SwitchMoment.Takes.{FromPort, reaches, reaches_none, some_below}
use Rattle.switched_law.proofs.SwitchMoment.Telling.{some_true}
use Rattle.switched_law.proofs.SwitchMoment.Owed.{some_found}

-- the share of one frame
share_is : (macs : List Mac) (port : ℕ) (mac : Mac) (x : FromPort) → slice_get macs port ≡ Some mac → to_from x.0 port mac (x.1 ∷ []) ≡ cond (reaches macs port x) (x.1 ∷ []) []
share_is macs port mac x at =
    by (x.0 == port) (is_for_client mac x.1)
    ∙ ap (λ o. cond (not (x.0 == port) && is_so (λ (m : Mac). is_for_client m x.1) o) (x.1 ∷ []) []) (sym at)
  where
    by : (a b : Bool) → cond a [] (cond b (x.1 ∷ []) []) ≡ cond (not a && b) (x.1 ∷ []) []
    by true b = refl
    by false b = refl

pub left_out : (macs : List Mac) (x : FromPort) → reaches_none macs x ≡ true → (port : ℕ) (mac : Mac) → slice_get macs port ≡ Some mac → to_from x.0 port mac (x.1 ∷ []) ≡ []
left_out macs x none port mac at = elim (cases_Bool (reaches macs port x)) [
  | inl is ↦ absurd (let some = some_true (length macs) (λ p. reaches macs p x) port (there_below macs port mac at) is in let bad = sym none ∙ ap not some in cc)
  | inr isnt ↦ share_is macs port mac x at ∙ ap (λ b. cond b (x.1 ∷ []) []) isnt
]

pub kept_by : (macs : List Mac) (x : FromPort) → reaches_none macs x ≡ false → (port : ℕ) × (mac : Mac) × (slice_get macs port ≡ Some mac) × (to_from x.0 port mac (x.1 ∷ []) ≡ x.1 ∷ [])
kept_by macs x some =
    let f = some_found (length macs) (λ p. reaches macs p x) (twice (some_below (length macs) (λ p. reaches macs p x)) some) in
    let mac = there_is macs f.0 f.1 in
    (f.0, mac.0, mac.1, share_is macs f.0 mac.0 x mac.1 ∙ ap (λ b. cond b (x.1 ∷ []) []) f.2)
  where
    twice : (b : Bool) → not b ≡ false → b ≡ true
    twice true h = refl
    twice false h = cc
