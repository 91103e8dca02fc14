use Rattle.std.proofs.Common.{◌≡◌, ◌+◌, ℕ, suc, List, [], ◌∷◌, refl, sym, ap, ap₂, ◌∙◌, arith}
use Rattle.cargo_core.specs.declared.item.PoolId.{PoolId}
use Rattle.wire_core.specs.declared.names.PoolRow.{PoolRow}
use Rattle.wire_core.specs.declared.names.QueueRow.{QueueRow}
use Rattle.wire_core.specs.declared.names.Entry.{Entry}
use Rattle.wire_core.specs.Journal.{History, Hostiles}
use Rattle.wire_core.specs.Lists.{Passed}
use Rattle.wire_core.specs.Queues.{Queue}
use Rattle.owner_law.specs.Things.{Naming}
use Rattle.owner_law.specs.Owners.{Table, replay}
use Rattle.owner_law.specs.Census.{Census, census}
use Rattle.owner_law.specs.Pools.Lines.{Holder, AreLines}
use Rattle.owner_law.proofs.PoolsLemmas.Lasting.{last_queues, last_hands, last_lent}
use Rattle.cast_law.specs.PoolLines.PoolLines.{line_of, table_lines, counted, counted_lines, AreSized}

module _ (naming : Naming) (lender : ℕ) (hostile : Hostiles) (history : History) (rows : List QueueRow) (sizes : ℕ → ℕ) (holders : List Holder) (start : Table) (journal : List Entry) (passed : Passed) (world : List Queue) (x : AreLines naming lender hostile history rows sizes holders start journal passed world) where
  abbrev t : Table
  t = replay naming history start journal

  pub counts_are : (number buffers : ℕ) → sizes number ≡ buffers → counted world holders (record { 0 = number }) ≡ census t number buffers
  counts_are number buffers sized =
      let pool : PoolId = record { 0 = number } in
      let three : counted world holders pool ≡ census t number (sizes number) =
      ap (λ q. let c : Census = record { queues = q; hands = (counted world holders pool).hands; lent = (counted world holders pool).lent } in c) (sym (last_queues naming lender hostile history rows sizes holders start journal passed world x pool))
      ∙ (ap (λ h. let c : Census = record { queues = (census t number (sizes number)).queues; hands = h; lent = (counted world holders pool).lent } in c) (sym (last_hands naming lender hostile history rows sizes holders start journal passed world x pool))
      ∙ ap (λ l. let c : Census = record { queues = (census t number (sizes number)).queues; hands = (census t number (sizes number)).hands; lent = l } in c) (sym (last_lent naming lender hostile history rows sizes holders start journal passed world x pool))) in
      three ∙ ap (census t number) sized

  pub lines_are : (first : ℕ) (pools : List PoolRow) → AreSized sizes first pools → counted_lines world holders first pools ≡ table_lines t first pools
  lines_are first [] sized = refl
  lines_are first (row ∷ pools) sized =
      let here : sizes first ≡ row.buffers = ap sizes plus ∙ sized 0 row refl in
      ap₂ (λ l ls. l ∷ ls) (ap (line_of row) (counts_are first row.buffers here)) (lines_are (first + 1) pools (λ k p at. ap sizes (shift k) ∙ sized (suc k) p at))
    where
      plus : first ≡ first + 0
      plus = omega arith

      shift : (k : ℕ) → first + 1 + k ≡ first + suc k
      shift k = omega arith
