-- A play in slices is a play, and what is told between them is a beginning of the lines.
use Rattle.std.proofs.Common.{◌≡◌, ◌+◌, ◌≤◌, ◌<◌, ℕ, Bool, true, false, Option, Some, None, List, [], ◌∷◌, ◌++◌, append_assoc, length, length-append, drop, refl, sym, ap, ◌∙◌, subst, arith, inl, inr}
use Rattle.std.proofs.lemmas.List.{append-nil, at_drop_more}
use native.Mathlib.Numerals.{unary_clauses}
use Rattle.std.proofs.lemmas.Bool.{cases_Bool}
use Rattle.cargo_core.specs.Lists.{IsPrefix}
use Rattle.decision_core.specs.ShelfCore.Outside.{appended}
use Rattle.decision_core.proofs.ShelfCore.Appending.{appended-twice}
use Rattle.wire_core.specs.declared.names.Entry.{Entry}
use Rattle.wire_core.specs.Journal.{EachMoment, start_history}
use Rattle.wire_core.specs.Picks.{PickedFrom, next_seed, drawn}
use Rattle.play_core.proofs.Staying.{picked_same}
use Rattle.sdf_plan.specs.declared.plan.Plan.{Plan}
use Rattle.sdf_check.specs.Valid.{Valid}
use Rattle.trace_text.specs.declared.trace.Trace.{Trace}
use Rattle.trace_text.specs.Traces.{IsReadFor}
use Rattle.system_core.specs.Builds.{BeginsAnew, IsBuilt}
use Rattle.system_core.specs.PlanPlays.{IsSystemOf, IsPlayed, StaysOfItsPlan}
use Rattle.system_core.specs.Plays.{Played, IsSpent, runnable_now}
use Rattle.system_core.specs.Reports.{report_of}
use Rattle.system_core.specs.declared.system.Ending.{Ending}
use Rattle.system_core.specs.declared.system.Ending.TheVariants as Ends
use Rattle.std.specs.Prelude.{◌==◌}
use Rattle.system_core.specs.Shows.{Setting, Shown, KeepsSetting, NamesTell, runs}
use Rattle.system_core.proofs.Growing.{told_runs}
use Rattle.system_core.proofs.Playing.{part_moment}
use Rattle.view_plays.specs.ToldPlays.Progress.{progress_line, progress_text, IsProgress, HasTold}

-- picks go on from the number that was drawn last
picked-on : (rule : List Entry → List ℕ) (x : ℕ) (before a b : List Entry) → PickedFrom rule x before a → PickedFrom rule (drawn x a) (before ++ a) b → PickedFrom rule x before (a ++ b)
picked-on rule x before [] b p q = subst (λ j. PickedFrom rule x j b) (append-nil before) q
picked-on rule x before (e ∷ a) b p q = (p.0, picked-on rule (next_seed x) (before ++ e ∷ []) a b p.1 (subst (λ j. PickedFrom rule (drawn (next_seed x) a) j b) (sym (append_assoc before (e ∷ []) a)) q))

drawn-on : (x : ℕ) (a b : List Entry) → drawn x (a ++ b) ≡ drawn (drawn x a) b
drawn-on x [] b = refl
drawn-on x (e ∷ a) b = drawn-on (next_seed x) a b

-- one number more is drawn for the next entry
pub drawn-step : (x : ℕ) (es : List Entry) (i : ℕ) → i < length es → drawn x (drop i es) ≡ drawn (next_seed x) (drop (i + 1) es)
drawn-step x [] i l = absurd (omega (arith, l))
drawn-step x (e ∷ es) i l = at_drop_more (λ (r : List Entry). drawn x r) (e ∷ es) i e l

drop-length : (a b : List Entry) → drop (length a) (a ++ b) ≡ b
drop-length [] b = refl
drop-length (e ∷ a) b = drop-length a b

-- a play that a seed made so far
pub record IsMade (plan : Plan) (trace : Trace) (seed : ℕ) (s : Shown) : Type 0 where
  pub begins : BeginsAnew s.setting
  pub system : IsSystemOf plan trace s
  pub picked : PickedFrom (runs s.setting) seed [] s.journal

pub made-first : (plan : Plan) (trace : Trace) (seed : ℕ) (s : Shown) → IsBuilt plan trace s → IsSystemOf plan trace s → IsMade plan trace seed s
made-first plan trace seed s built system = record { begins = built.begins; system = system; picked = subst (λ j. PickedFrom (runs s.setting) seed [] j) (sym built.journal) tt }

still-anew : (old new : Setting) → KeepsSetting old new → BeginsAnew old → BeginsAnew new
still-anew old new keeps begins =
    let h = ap (λ (z : Setting). z.history) keeps.stays in
    let r = ap (λ (z : Setting). z.rows) keeps.stays in
    h ∙ (begins ∙ sym (ap start_history r))

-- one slice more, from the number that was drawn last
pub made-more : (plan : Plan) (trace : Trace) (seed x n : ℕ) (old new : Shown) → Valid plan → IsReadFor plan trace → IsMade plan trace seed old → x ≡ drawn seed old.journal
    → Played old new x n → StaysOfItsPlan old new → IsMade plan trace seed new
made-more plan trace seed x n old new valid read made is p stays = record {
  begins = still-anew old.setting new.setting p.setting made.begins;
  system = stays plan trace valid read made.system;
  picked =
      let first = picked_same (runs old.setting) (runs new.setting) seed [] old.journal (λ some rest is. told_runs old.setting new.setting p.setting some (part_moment (NamesTell old.setting) some rest (subst (EachMoment (NamesTell old.setting)) (sym is) made.system.stands.lawful.names_tell))) made.picked in
      subst (λ j. PickedFrom (runs new.setting) seed [] j) (sym p.journal)
      (picked-on (runs new.setting) seed [] old.journal p.more first (subst (λ y. PickedFrom (runs new.setting) y old.journal p.more) is p.picked));
}

pub drawn-more : (seed x y n before : ℕ) (old new : Shown) → x ≡ drawn seed old.journal → Played old new x n → before ≡ length old.journal → y ≡ drawn x (drop before new.journal) → y ≡ drawn seed new.journal
drawn-more seed x y n before old new is p at last =
    let behind : drop before new.journal ≡ p.more = ap (λ k. drop k new.journal) at ∙ (ap (λ (j : List Entry). drop (length old.journal) j) p.journal ∙ drop-length old.journal p.more) in
    last ∙ (ap (λ (j : List Entry). drawn x j) behind ∙ (ap (λ z. drawn z p.more) is ∙ (sym (drawn-on seed old.journal p.more) ∙ ap (λ (j : List Entry). drawn seed j) (sym p.journal))))

pub longer : (x n : ℕ) (old new : Shown) → Played old new x n → length new.journal ≤ length old.journal + n
longer x n old new p =
    let l = ap length p.journal ∙ length-append old.journal p.more in
    omega (arith, l, p.within)

pub is-played : (plan : Plan) (trace : Trace) (seed limit : ℕ) (s : Shown) → IsMade plan trace seed s → length s.journal ≤ limit → IsPlayed plan trace seed limit s
is-played plan trace seed limit s made within = record { begins = made.begins; played = record { system = made.system; picked = made.picked; within = within } }

-- how a slice ended: quiet, or all its steps were made
pub quiet-spent : (limit : ℕ) (s : Shown) → runnable_now s ≡ [] → (report_of s).quiet ≡ false → length s.journal ≡ limit
quiet-spent limit s h q = let f : (length (runnable_now s) == 0) ≡ true = ap (λ (xs : List ℕ). length xs == 0) h in let g = sym q ∙ f in cc

pub last-spent : (limit left : ℕ) (old new : Shown) (e : Ending) → length old.journal + left ≡ limit → (e ≡ Ends.Quiet → runnable_now new ≡ []) → (e ≡ Ends.Spent → IsSpent old new left)
    → (report_of new).quiet ≡ false → length new.journal ≡ limit
last-spent limit left old new Ends.Quiet at quiet spent q = quiet-spent limit new (quiet refl) q
last-spent limit left old new Ends.Spent at quiet spent q = let s = (spent refl).0 in s ∙ at

-- nothing is appended
pub appended-none : (before : Option (List ℕ)) → before ≡ appended before []
appended-none None = refl
appended-none (Some text) = ap (λ (t : List ℕ). Some t) (sym (append-nil text))

-- the lines after so many slices were written, or a beginning of them, and then none goes on
pub record IsToldSoFar {E : Type 0} (written : E → Option (List ℕ)) (old new : E) (going : Bool) (slices : ℕ) : Type 0 where
  pub part : List ℕ
  pub written_is : written new ≡ appended (written old) part
  pub begins : IsPrefix part (progress_text slices)
  pub whole : going ≡ true → part ≡ progress_text slices

pub told-first : {E : Type 0} (written : E → Option (List ℕ)) (old : E) → IsToldSoFar written old old true 0
told-first written old = record { part = []; written_is = appended-none (written old); begins = ([], refl); whole = λ e. refl }

prefix-on : (a b c : List ℕ) → IsPrefix a b → IsPrefix a (b ++ c)
prefix-on a b c p = (p.0 ++ c, sym (append_assoc a p.0 c) ∙ ap (λ (l : List ℕ). l ++ c) p.1)

prefix-behind : (a b c : List ℕ) → IsPrefix b c → IsPrefix (a ++ b) (a ++ c)
prefix-behind a b c p = (p.0, append_assoc a b p.0 ∙ ap (λ (l : List ℕ). a ++ l) p.1)

-- the lines after one slice more
line-more : (n : ℕ) → progress_text n ++ progress_line (n + 1) ≡ progress_text (n + 1)
line-more n = simp unary_clauses refl

pub told-more : {E : Type 0} (written : E → Option (List ℕ)) (old mid new : E) (before after : Bool) (slices : ℕ) → IsToldSoFar written old mid before slices
    → HasTold written mid new before (slices + 1) after → IsToldSoFar written old new after (slices + 1)
told-more written old mid new before after slices t h = record {
  part = t.part ++ h.part;
  written_is = h.written_is ∙ (ap (λ w. appended w h.part) t.written_is ∙ appended-twice (written old) t.part h.part);
  begins = subst (λ q. IsPrefix (t.part ++ h.part) q) (line-more slices) (elim (cases_Bool before) [
    | inl on ↦
        subst (λ p. IsPrefix (p ++ h.part) (progress_text slices ++ progress_line (slices + 1))) (sym (t.whole on))
        (prefix-behind (progress_text slices) h.part (progress_line (slices + 1)) h.begins)
    | inr off ↦
        subst (λ p. IsPrefix p (progress_text slices ++ progress_line (slices + 1))) (sym (ap (λ (l : List ℕ). t.part ++ l) (h.silent off).0 ∙ append-nil t.part))
        (prefix-on t.part (progress_text slices) (progress_line (slices + 1)) t.begins)
  ]);
  whole = λ e. elim (cases_Bool before) [
    | inl on ↦ (ap (λ (l : List ℕ). l ++ h.part) (t.whole on) ∙ (ap (λ (l : List ℕ). progress_text slices ++ l) (h.whole e) ∙ line-more slices))
    | inr off ↦ (let f = (h.silent off).1 in absurd (cc (e, f)))
  ];
}

pub told-progress : {E : Type 0} (written : E → Option (List ℕ)) (old new : E) (going : Bool) (slices : ℕ) → IsToldSoFar written old new going slices → IsProgress written old new
told-progress written old new going slices t = record { slices = slices; part = t.part; begins = t.begins; written_is = t.written_is }

pub no_progress : {E : Type 0} (written : E → Option (List ℕ)) (old : E) → IsProgress written old old
no_progress written old = record { slices = 0; part = []; begins = ([], refl); written_is = appended-none (written old) }
