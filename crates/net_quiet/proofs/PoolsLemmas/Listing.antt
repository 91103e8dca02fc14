use Rattle.std.proofs.Common.{◌≡◌, ◌⊎◌, ◌+◌, ◌*◌, ◌<◌, ◌≤◌, ℕ, zero, suc, true, Some, List, [], ◌∷◌, length, flat_map, slice_get, refl, sym, ap, ◌∙◌, arith, inl, inr}
use Rattle.std.specs.Prelude.{slice_index_or}
use Rattle.std.proofs.lemmas.Bool.{cases_lt}
use Rattle.frame_core.specs.declared.mac.Mac.{Mac}
use Rattle.wire_core.specs.declared.names.QueueRow.{QueueRow}
use Rattle.wire_core.specs.Ends.{Consumer}
use Rattle.wire_core.specs.Journal.{Hostiles, is_calm, owner_of}
use Rattle.play_core.specs.Sheets.{Scene}
use Rattle.play_core.specs.Still.{Holds}
use Rattle.play_core.proofs.Lists.{there_is}
use Rattle.owner_law.specs.Things.{Window, NoBuffers, Answers, Naming}
use Rattle.owner_law.specs.Keeping.{is_lending, IsNaming}
use Rattle.net_law.specs.Owners.Names.{ClientPools, client_names}
use Rattle.owner_law.specs.Pools.Places.{PoolAt}
use Rattle.net_law.specs.Parts.Numbers.{client_first, layout_naming}

-- at the clients' queues
module _ (pool : PoolAt) where
  flat_past : (cs : List ClientPools) (n : ℕ) → 6 * length cs ≤ n → slice_index_or (flat_map (client_names pool) cs) n NoBuffers ≡ NoBuffers
  flat_past [] n le = refl
  flat_past (c ∷ cs) zero le = absurd (omega (arith, le))
  flat_past (c ∷ cs) (suc zero) le = absurd (omega (arith, le))
  flat_past (c ∷ cs) (suc (suc zero)) le = absurd (omega (arith, le))
  flat_past (c ∷ cs) (suc (suc (suc zero))) le = absurd (omega (arith, le))
  flat_past (c ∷ cs) (suc (suc (suc (suc zero)))) le = absurd (omega (arith, le))
  flat_past (c ∷ cs) (suc (suc (suc (suc (suc zero))))) le = absurd (omega (arith, le))
  flat_past (c ∷ cs) (suc (suc (suc (suc (suc (suc n)))))) le = flat_past cs n (omega (arith, le))

  flat_lends : (cs : List ClientPools) (n : ℕ) → is_lending (slice_index_or (flat_map (client_names pool) cs) n NoBuffers) ≡ true → (k : ℕ) × (k < length cs) × (n ≡ 6 * k + 1)
  flat_lends [] n is = cc
  flat_lends (c ∷ cs) zero is = cc
  flat_lends (c ∷ cs) (suc zero) is = (0, omega arith, omega arith)
  flat_lends (c ∷ cs) (suc (suc zero)) is = cc
  flat_lends (c ∷ cs) (suc (suc (suc zero))) is = cc
  flat_lends (c ∷ cs) (suc (suc (suc (suc zero)))) is = cc
  flat_lends (c ∷ cs) (suc (suc (suc (suc (suc zero))))) is = cc
  flat_lends (c ∷ cs) (suc (suc (suc (suc (suc (suc n)))))) is =
      let x = flat_lends cs n is in
      (suc x.0, omega (arith, x.1), omega (arith, x.2))

  flat_plain : (cs : List ClientPools) (n q : ℕ) (ws : List Window) → slice_index_or (flat_map (client_names pool) cs) n NoBuffers ≡ Answers q ws → ⊥
  flat_plain [] n q ws is = cc
  flat_plain (c ∷ cs) zero q ws is = cc
  flat_plain (c ∷ cs) (suc zero) q ws is = cc
  flat_plain (c ∷ cs) (suc (suc zero)) q ws is = cc
  flat_plain (c ∷ cs) (suc (suc (suc zero))) q ws is = cc
  flat_plain (c ∷ cs) (suc (suc (suc (suc zero)))) q ws is = cc
  flat_plain (c ∷ cs) (suc (suc (suc (suc (suc zero))))) q ws is = cc
  flat_plain (c ∷ cs) (suc (suc (suc (suc (suc (suc n)))))) q ws is = flat_plain cs n q ws is

module _ (scene : Scene) (pool : PoolAt) (macs : List Mac) (pools : List ClientPools) where
  abbrev naming : Naming
  naming = layout_naming scene pool macs pools

  pub past : (n : ℕ) → 8 + 6 * length pools ≤ n → naming n ≡ NoBuffers
  past zero le = absurd (omega (arith, le))
  past (suc zero) le = absurd (omega (arith, le))
  past (suc (suc zero)) le = absurd (omega (arith, le))
  past (suc (suc (suc zero))) le = absurd (omega (arith, le))
  past (suc (suc (suc (suc zero)))) le = absurd (omega (arith, le))
  past (suc (suc (suc (suc (suc zero))))) le = absurd (omega (arith, le))
  past (suc (suc (suc (suc (suc (suc zero)))))) le = absurd (omega (arith, le))
  past (suc (suc (suc (suc (suc (suc (suc zero))))))) le = absurd (omega (arith, le))
  past (suc (suc (suc (suc (suc (suc (suc (suc n)))))))) le = flat_past pool pools n (omega (arith, le))

  lends : (n : ℕ) → is_lending (naming n) ≡ true → (n ≡ 4) ⊎ ((k : ℕ) × (k < length pools) × (n ≡ client_first 0 k + 1))
  lends zero is = cc
  lends (suc zero) is = cc
  lends (suc (suc zero)) is = cc
  lends (suc (suc (suc zero))) is = cc
  lends (suc (suc (suc (suc zero)))) is = inl refl
  lends (suc (suc (suc (suc (suc zero))))) is = cc
  lends (suc (suc (suc (suc (suc (suc zero)))))) is = cc
  lends (suc (suc (suc (suc (suc (suc (suc zero))))))) is = cc
  lends (suc (suc (suc (suc (suc (suc (suc (suc n)))))))) is =
      let x = flat_lends pool pools n is in
      inr (x.0, x.1, omega (arith, x.2))

  pub never_answers : (n q : ℕ) (ws : List Window) → naming n ≡ Answers q ws → ⊥
  never_answers zero q ws is = cc
  never_answers (suc zero) q ws is = cc
  never_answers (suc (suc zero)) q ws is = cc
  never_answers (suc (suc (suc zero))) q ws is = cc
  never_answers (suc (suc (suc (suc zero)))) q ws is = cc
  never_answers (suc (suc (suc (suc (suc zero))))) q ws is = cc
  never_answers (suc (suc (suc (suc (suc (suc zero)))))) q ws is = cc
  never_answers (suc (suc (suc (suc (suc (suc (suc zero))))))) q ws is = cc
  never_answers (suc (suc (suc (suc (suc (suc (suc (suc n)))))))) q ws is = flat_plain pool pools n q ws is

  pub layout_names : (lender : ℕ) (hostile : Hostiles) (queues : List QueueRow) → 8 + 6 * length pools ≤ length queues → ((n : ℕ) (row : QueueRow) → slice_get queues n ≡ Some row → is_calm hostile row ≡ true) → ((row : QueueRow) → slice_get queues 4 ≡ Some row → owner_of row Consumer ≡ lender) → ((k : ℕ) (row : QueueRow) → k < length pools → slice_get queues (client_first 0 k + 1) ≡ Some row → owner_of row Consumer ≡ lender) → IsNaming naming lender hostile queues
  layout_names lender hostile queues many calm frames returns = record {
    calm = λ n. here n (cases_lt n (length queues));
    lends = λ n row at is. by n row at (lends n is);
    answers = λ n q ws is same. never_answers n q ws is;
  }
    where
      here : (n : ℕ) → (n < length queues) ⊎ (length queues ≤ n) → (naming n ≡ NoBuffers) ⊎ Holds hostile queues n 0
      here n (inl lt) =
          let row = there_is queues n lt in
          inr (record { row = row.0; there = row.1; calm = calm n row.0 row.1; enough = omega arith })
      here n (inr le) = inl (past n (omega (arith, le, many)))

      by : (n : ℕ) (row : QueueRow) → slice_get queues n ≡ Some row → (n ≡ 4) ⊎ ((k : ℕ) × (k < length pools) × (n ≡ client_first 0 k + 1)) → owner_of row Consumer ≡ lender
      by n row at (inl same) = frames row (ap (slice_get queues) (sym same) ∙ at)
      by n row at (inr x) = returns x.0 row x.1 (ap (slice_get queues) (sym x.2) ∙ at)
