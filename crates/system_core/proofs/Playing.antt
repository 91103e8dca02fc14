use Rattle.std.proofs.Common.{◌≡◌, ◌≤◌, ◌+◌, ◌++◌, ℕ, Some, List, [], ◌∷◌, length, length-append, slice_get, append_assoc, subst, refl, sym, ap, ◌∙◌, arith}
use Rattle.std.proofs.lemmas.List.{append-nil}
use Rattle.wire_core.specs.declared.names.Entry.{Entry}
use Rattle.wire_core.specs.Journal.{EachFrom, EachMoment}
use Rattle.wire_core.specs.Picks.{PickedFrom, next_seed, place_of, drawn}
use Rattle.wire_core.proofs.Tracks.{PickedFrom-append, drawn-append}
use Rattle.play_core.proofs.Moments.{last_moment}
use Rattle.play_core.proofs.Staying.{picked_same}
use Rattle.system_core.specs.Shows.{Shown, KeepsSetting, NamesTell, runs}
use Rattle.system_core.specs.Plays.{Played, StepsAt, runnable_now}
use Rattle.system_core.proofs.Growing.{told_runs}
use Rattle.system_core.proofs.Telling.{keeps_same, keeps_on}

-- what holds at each moment of a journal holds of each beginning
part_from : (P : List Entry → Type 0) (before some rest : List Entry) → P before → EachFrom (λ b e. P (b ++ e ∷ [])) before (some ++ rest) → P (before ++ some)
part_from P before [] rest now each = subst P (sym (append-nil before)) now
part_from P before (e ∷ some) rest now each = subst P (append_assoc before (e ∷ []) some) (part_from P (before ++ e ∷ []) some rest each.0 each.1)

pub part_moment : (P : List Entry → Type 0) (some rest : List Entry) → EachMoment P (some ++ rest) → P some
part_moment P some rest each = part_from P [] some rest each.0 each.1

-- a play under way: n steps were made, and the number drawn last is x
pub record Playing (old new : Shown) (seed x n : ℕ) : Type 0 where
  pub setting : KeepsSetting old.setting new.setting
  pub more : List Entry
  pub journal : new.journal ≡ old.journal ++ more
  pub picked : PickedFrom (runs new.setting) seed old.journal more
  pub drawn_is : x ≡ drawn seed more
  pub count : length more ≡ n
  pub unmoved : n ≡ 0 → new ≡ old
  pub rests : runnable_now old ≡ [] → new ≡ old

pub start_playing : (old : Shown) (seed : ℕ) → Playing old old seed seed 0
start_playing old seed = record { setting = keeps_same old.setting; more = []; journal = sym (append-nil old.journal); picked = tt; drawn_is = refl; count = refl; unmoved = λ e. refl; rests = λ none. refl }

-- one step more, of the actor that is picked
pub play_step : (old mid new : Shown) (seed x n x' place count : ℕ) → EachMoment (NamesTell mid.setting) mid.journal → Playing old mid seed x n → x' ≡ next_seed x → count ≡ length (runnable_now mid) → place ≡ place_of x' count → StepsAt place mid new → Playing old new seed x' (n + 1)
play_step old mid new seed x n x' place count tell p next many at s =
    let a = s.appends in
    let e : Entry = record { actor = record { 0 = s.actor }; event = a.event } in
    let is : x' ≡ next_seed (drawn seed p.more) = next ∙ ap next_seed p.drawn_is in
    let there : slice_get (runnable_now mid) (place_of (next_seed (drawn seed p.more)) (length (runnable_now mid))) ≡ Some s.actor = rw (← is, ← many, ← at) s.there in
    let tell' : EachMoment (NamesTell mid.setting) (old.journal ++ p.more) = subst (EachMoment (NamesTell mid.setting)) p.journal tell in
    let same : runnable_now mid ≡ runs new.setting (old.journal ++ p.more) = ap (runs mid.setting) p.journal ∙ told_runs mid.setting new.setting a.setting (old.journal ++ p.more) (last_moment (NamesTell mid.setting) (old.journal ++ p.more) tell') in
    record {
      setting = keeps_on old.setting mid.setting new.setting p.setting a.setting;
      more = p.more ++ e ∷ [];
      journal = a.journal ∙ (ap (λ j. j ++ e ∷ []) p.journal ∙ append_assoc old.journal p.more (e ∷ []));
      picked = PickedFrom-append (runs new.setting) seed old.journal p.more e
          (picked_same (runs mid.setting) (runs new.setting) seed old.journal p.more (λ some rest is. told_runs mid.setting new.setting a.setting some (part_moment (NamesTell mid.setting) some rest (subst (EachMoment (NamesTell mid.setting)) (sym is) tell'))) p.picked)
          (subst (λ (ks : List ℕ). slice_get ks (place_of (next_seed (drawn seed p.more)) (length ks)) ≡ Some s.actor) same there);
      drawn_is = is ∙ sym (drawn-append seed p.more e);
      count = length-append p.more (e ∷ []) ∙ ap (λ m. m + 1) p.count;
      unmoved = λ none. absurd (omega (arith, none));
      rests = λ none.
          let nobody : runnable_now mid ≡ [] = ap runnable_now (p.rests none) ∙ none in
          let at : slice_get [] place ≡ Some s.actor = subst (λ (ks : List ℕ). slice_get ks place ≡ Some s.actor) nobody s.there in
          absurd cc;
    }

pub played : (old new : Shown) (seed x n limit : ℕ) → Playing old new seed x n → n ≤ limit → Played old new seed limit
played old new seed x n limit p le = record { setting = p.setting; more = p.more; journal = p.journal; picked = p.picked; within = subst (λ m. m ≤ limit) (sym p.count) le; unmoved = λ none. p.unmoved (sym p.count ∙ ap length none) }
