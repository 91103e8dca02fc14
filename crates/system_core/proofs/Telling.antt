-- Where nobody is hostile, what is said by the names that are kept is what is said without names.
use Rattle.std.proofs.Common.{◌≡◌, ◌∙◌, ℕ, List, [], refl, sym, ap, subst}
use Rattle.std.proofs.lemmas.List.{append-nil}
use Rattle.wire_core.specs.declared.names.Entry.{Entry}
use Rattle.wire_core.specs.Journal.{EachMoment}
use Rattle.play_core.specs.Moved.{Moved}
use Rattle.play_core.specs.Names.{told_by, wild_in}
use Rattle.play_core.specs.Runs.{runnable}
use Rattle.play_core.specs.Sheets.{RowsHold, needful}
use Rattle.play_core.proofs.Lists.{prefix_trans}
use Rattle.play_core.proofs.Moments.{each_moment}
use Rattle.actor_set.specs.Parts.{Part}
use Rattle.actor_set.specs.Laws.Kinds.{AllCalm, sheet}
use Rattle.actor_set.proofs.LawsLemmas.Told.{calm_row, calm_wants, none_hostile, row_calm, runs_calm}
use Rattle.system_core.specs.Adopting.{OneSpent}
use Rattle.system_core.specs.Shows.{Setting, KeepsSetting, RowsStand, hostile_in, manner_in, moved_in, runs, sheet_in}

-- who is runnable, without names
abbrev pub plain_runs : Setting → List Entry → List ℕ
plain_runs s journal = runnable (manner_in s) s.history s.rows (needful (sheet s.scene) s.cast (moved_in s journal)) journal

-- each actor's row, without names
abbrev pub PlainRows : Setting → List Entry → Type 0
PlainRows s journal = RowsHold (sheet s.scene) (hostile_in s) s.cast (moved_in s journal)

pub runs_plain : (s : Setting) → AllCalm s.cast → (journal : List Entry) → runs s journal ≡ plain_runs s journal
runs_plain s calm journal = runs_calm s.scene (told_by s.names) (manner_in s) s.history s.rows s.cast journal calm

pub rows_plain : (s : Setting) → AllCalm s.cast → (journal : List Entry) → RowsStand s journal → PlainRows s journal
rows_plain s calm journal rows k p still at = calm_row s.scene (wild_in (hostile_in s) s.rows) (told_by s.names) p (moved_in s journal) (none_hostile s.cast calm s.rows p) (rows k p still at)

pub rows_told : (s : Setting) → AllCalm s.cast → (journal : List Entry) → PlainRows s journal → RowsStand s journal
rows_told s calm journal rows k p still at = row_calm s.scene (wild_in (hostile_in s) s.rows) (told_by s.names) p (moved_in s journal) (none_hostile s.cast calm s.rows p) (rows k p still at)

-- so at each moment
pub each_plain : (s : Setting) → AllCalm s.cast → (journal : List Entry) → EachMoment (RowsStand s) journal → EachMoment (PlainRows s) journal
each_plain s calm journal rows = each_moment (RowsStand s) (RowsStand s) (PlainRows s) (λ j a b. rows_plain s calm j a) journal rows rows

-- so as more names are kept all stays said
pub keeps_same : (s : Setting) → KeepsSetting s s
keeps_same s = record { names = ([], append-nil s.names); stays = refl }

pub keeps_equal : (s t : Setting) → t ≡ s → KeepsSetting s t
keeps_equal s t same = subst (KeepsSetting s) (sym same) (keeps_same s)

pub keeps_on : (s t u : Setting) → KeepsSetting s t → KeepsSetting t u → KeepsSetting s u
keeps_on s t u a b = record {
  names = prefix_trans s.names t.names u.names a.names b.names;
  stays = b.stays ∙ ap (λ (z : Setting). record z { names = u.names }) a.stays;
}

keeps_calm : (s t : Setting) → KeepsSetting s t → AllCalm s.cast → AllCalm t.cast
keeps_calm s t keeps calm = subst (λ (z : Setting). AllCalm z.cast) (sym keeps.stays) calm

pub was_calm : (s t : Setting) → KeepsSetting s t → AllCalm t.cast → AllCalm s.cast
was_calm s t keeps calm = subst (λ (z : Setting). AllCalm z.cast) keeps.stays calm

pub keeps_runs : (s t : Setting) → AllCalm s.cast → KeepsSetting s t → (journal : List Entry) → runs s journal ≡ runs t journal
keeps_runs s t calm keeps journal = runs_plain s calm journal ∙ (sym (ap (λ (z : Setting). plain_runs z journal) keeps.stays) ∙ sym (runs_plain t (keeps_calm s t keeps calm) journal))

pub wants_plain : (s : Setting) → AllCalm s.cast → (p : Part) (m : Moved) → (sheet_in s p).wants m ≡ (sheet s.scene p).wants m
wants_plain s calm p m = calm_wants s.scene (wild_in (hostile_in s) s.rows) (told_by s.names) p m (none_hostile s.cast calm s.rows p)

pub keeps_spent : (s t : Setting) (limit : ℕ) → KeepsSetting s t → OneSpent s limit → OneSpent t limit
keeps_spent s t limit keeps spent = subst (λ (z : Setting). OneSpent z limit) (sym keeps.stays) (spent.0, spent.1, spent.2)
