use Rattle.std.proofs.Common.{◌≡◌, ◌++◌, ℕ, List, [], ◌∷◌, sym, ap, ◌∙◌, append_assoc}
use Rattle.std.proofs.lemmas.List.{append-nil}
use Rattle.wire_core.specs.declared.names.QueueRow.{QueueRow}
use Rattle.wire_core.specs.declared.names.Entry.{Entry}
use Rattle.wire_core.specs.Journal.{History, Hostiles, LegalEntry, EachFrom, EachMoment}
use Rattle.wire_core.proofs.Tracks.{EachFrom-append}
use Rattle.play_core.specs.Moved.{moved}
use Rattle.owner_law.specs.Things.{Naming}
use Rattle.owner_law.specs.Owners.{Table, OneOwner, Finds, move_of, after_move, replay, replay_from}
use Rattle.owner_law.specs.Keeping.{Keeper, IsShownBy, IsKept, IsOwned}
use Rattle.owner_law.proofs.Steps.{entry_step}

-- a replay goes on where it ended
pub replay_append : (naming : Naming) (history : History) (before : List Entry) (t : Table) (es fs : List Entry) → replay_from naming history before t (es ++ fs) ≡ replay_from naming history (before ++ es) (replay_from naming history before t es) fs
replay_append naming history before t [] fs = ap (λ j. replay_from naming history j t fs) (sym (append-nil before))
replay_append naming history before t (e ∷ es) fs =
    replay_append naming history (before ++ e ∷ []) (after_move t e.actor.0 e.event.queue.0 (move_of naming (moved history before) e)) es fs
    ∙ ap (λ j. replay_from naming history j (replay_from naming history before t (e ∷ es)) fs) (append_assoc before (e ∷ []) es)

-- what each entry keeps holds at each moment
walk : (P M : List Entry → Type 0) (L : List Entry → Entry → Type 0) → ((before : List Entry) (e : Entry) → P before → M before → L before e → M (before ++ e ∷ []) → P (before ++ e ∷ [])) → (before es : List Entry) → P before → M before → EachFrom L before es → EachFrom (λ b e. M (b ++ e ∷ [])) before es → EachFrom (λ b e. P (b ++ e ∷ [])) before es
walk P M L keep before [] p m l ms = tt
walk P M L keep before (e ∷ es) p m l ms =
    let next = keep before e p m l.0 ms.0 in
    (next, walk P M L keep (before ++ e ∷ []) es next ms.0 l.1 ms.1)

firsts : (P Q : List Entry → Type 0) (before es : List Entry) → EachFrom (λ b e. P (b ++ e ∷ []) × Q (b ++ e ∷ [])) before es → EachFrom (λ b e. P (b ++ e ∷ [])) before es
firsts P Q before [] all = tt
firsts P Q before (e ∷ es) all = (all.0.0, firsts P Q (before ++ e ∷ []) es all.1)

seconds : (P Q : List Entry → Type 0) (before es : List Entry) → EachFrom (λ b e. P (b ++ e ∷ []) × Q (b ++ e ∷ [])) before es → EachFrom (λ b e. Q (b ++ e ∷ [])) before es
seconds P Q before [] all = tt
seconds P Q before (e ∷ es) all = (all.0.1, seconds P Q (before ++ e ∷ []) es all.1)

module _ (naming : Naming) (lender : ℕ) (hostile : Hostiles) (history : History) (rows : List QueueRow) (keepers : List Keeper) (start : Table) (journal : List Entry) (is : IsOwned naming lender hostile history rows keepers start journal) where
  abbrev Shown : List Entry → Type 0
  Shown j = IsShownBy naming lender keepers (moved history j) (replay naming history start j)

  abbrev Owns : List Entry → Type 0
  Owns j = OneOwner naming history start j

  go_on : (before : List Entry) (e : Entry) → Owns before × Shown before → IsKept naming hostile history rows keepers before → LegalEntry hostile history rows before e → IsKept naming hostile history rows keepers (before ++ e ∷ []) → Owns (before ++ e ∷ []) × Shown (before ++ e ∷ [])
  go_on before e so kept legal next =
      let step = entry_step naming lender hostile history rows keepers is.naming_is is.keepers_are before e legal kept next (replay naming history start before) so.0.counted so.1 in
      let table : replay naming history start (before ++ e ∷ []) ≡ after_move (replay naming history start before) e.actor.0 e.event.queue.0 (move_of naming (moved history before) e) = replay_append naming history [] start before (e ∷ []) in (
        record {
          found = EachFrom-append (λ b x. Finds (replay naming history start b) x.actor.0 x.event.queue.0 (move_of naming (moved history b) x)) [] before e so.0.found step.0;
          counted = rw table step.1;
        },
        rw table step.2,
      )

  all : EachFrom (λ b e. Owns (b ++ e ∷ []) × Shown (b ++ e ∷ [])) [] journal
  all = walk (λ j. Owns j × Shown j) (λ j. IsKept naming hostile history rows keepers j) (LegalEntry hostile history rows) go_on [] journal (record { found = tt; counted = is.counted }, is.shown) is.kept.0 is.legal is.kept.1

  pub owners_hold : EachMoment Owns journal
  owners_hold = (record { found = tt; counted = is.counted }, firsts Owns Shown [] journal all)

  pub shown_hold : EachMoment Shown journal
  shown_hold = (is.shown, seconds Owns Shown [] journal all)
