-- What the items of each queue name.
use Rattle.std.proofs.Common.{◌≡◌, ◌⊎◌, inl, inr, ◌+◌, ◌*◌, ◌<◌, ◌≤◌, ℕ, zero, suc, true, Some, List, slice_get, refl, sym, ap, ◌∙◌, subst, arith}
use Rattle.std.specs.Prelude.{slice_index_or}
use Rattle.std.proofs.lemmas.Bool.{cases_lt}
use Rattle.wire_core.specs.declared.names.QueueRow.{QueueRow}
use Rattle.wire_core.specs.Journal.{nobody}
use Rattle.play_core.specs.Still.{Holds}
use Rattle.owner_law.specs.Things.{Window, NoBuffers, Answers}
use Rattle.owner_law.specs.Keeping.{is_lending, IsNaming}
use Rattle.owner_law.specs.Pools.Places.{PoolAt}
use Rattle.switched_law.specs.SwitchClass.Queues.{AreQueues}
use Rattle.switched_law.specs.SwitchClass.Casting.{rx_pool, tx_pool}
use Rattle.switched_law.proofs.SwitchClass.Lanes.{Lane, TxActive, TxFree, RxActive, RxFree, offset, InLane, in_lane, lane_row}
use Rattle.switched_law.specs.SwitchOwners.Owning.{names_of, names_from, switch_naming}

-- the pool of a lane
abbrev pub pool_in : Lane → ℕ → PoolAt
pool_in TxActive port = tx_pool port
pool_in TxFree port = tx_pool port
pool_in RxActive port = rx_pool port
pool_in RxFree port = rx_pool port

name_from : (ports first port : ℕ) (l : Lane) → port < ports → slice_index_or (names_from first ports) (4 * port + offset l) NoBuffers ≡ names_of (pool_in l (first + port))
name_from zero first port l lt = absurd (omega (arith, lt))
name_from (suc ports) first zero l lt = by l
  where
    z : first ≡ first + 0
    z = omega arith

    by : (l_ : Lane) → slice_index_or (names_from first (suc ports)) (4 * 0 + offset l_) NoBuffers ≡ names_of (pool_in l_ (first + 0))
    by TxActive = ap (λ k. names_of (tx_pool k)) z
    by TxFree = ap (λ k. names_of (tx_pool k)) z
    by RxActive = ap (λ k. names_of (rx_pool k)) z
    by RxFree = ap (λ k. names_of (rx_pool k)) z
name_from (suc ports) first (suc port) l lt =
    let four : 4 * suc port + offset l ≡ suc (suc (suc (suc (4 * port + offset l)))) = omega arith in
    let next : first + 1 + port ≡ first + suc port = omega arith in
    ap (λ k. slice_index_or (names_from first (suc ports)) k NoBuffers) four ∙ (name_from ports (first + 1) port l (omega (arith, lt)) ∙ ap (λ k. names_of (pool_in l k)) next)

pub name_at : (ports port : ℕ) (l : Lane) → port < ports → switch_naming ports (4 * port + offset l) ≡ names_of (pool_in l port)
name_at ports port l lt = let z : 0 + port ≡ port = omega arith in name_from ports 0 port l lt ∙ ap (λ k. names_of (pool_in l k)) z

pub name_tx : (ports port : ℕ) → port < ports → switch_naming ports (4 * port) ≡ names_of (tx_pool port)
name_tx ports port lt = let z : 4 * port ≡ 4 * port + 0 = omega arith in ap (switch_naming ports) z ∙ name_at ports port TxActive lt

past_from : (ports first n : ℕ) → 4 * ports ≤ n → slice_index_or (names_from first ports) n NoBuffers ≡ NoBuffers
past_from zero first n le = refl
past_from (suc ports) first zero le = absurd (omega (arith, le))
past_from (suc ports) first (suc zero) le = absurd (omega (arith, le))
past_from (suc ports) first (suc (suc zero)) le = absurd (omega (arith, le))
past_from (suc ports) first (suc (suc (suc zero))) le = absurd (omega (arith, le))
past_from (suc ports) first (suc (suc (suc (suc n)))) le = past_from ports (first + 1) n (omega (arith, le))

-- nothing, or the buffers of the pool of a lane
pub record NamesLane (ports n : ℕ) : Type 0 where
  pub in_lane : InLane ports n
  pub names : switch_naming ports n ≡ names_of (pool_in in_lane.lane in_lane.port)

pub names_there : (ports n : ℕ) → (NamesLane ports n) ⊎ (switch_naming ports n ≡ NoBuffers)
names_there ports n = by (cases_lt n (4 * ports))
  where
    by : (n < 4 * ports) ⊎ (4 * ports ≤ n) → (NamesLane ports n) ⊎ (switch_naming ports n ≡ NoBuffers)
    by (inl lt) = let i = in_lane ports n lt in inl (record { in_lane = i; names = ap (switch_naming ports) i.is ∙ name_at ports i.port i.lane i.below })
    by (inr le) = inr (past_from ports 0 n le)

pub no_answers : (ports n q : ℕ) (ws : List Window) → switch_naming ports n ≡ Answers q ws → ⊥
no_answers ports n q ws is = by (names_there ports n)
  where
    by : (NamesLane ports n) ⊎ (switch_naming ports n ≡ NoBuffers) → ⊥
    by (inl x) = let no : names_of (pool_in x.in_lane.lane x.in_lane.port) ≡ Answers q ws = sym x.names ∙ is in cc
    by (inr none) = let no : NoBuffers ≡ Answers q ws = sym none ∙ is in cc

pub no_lending : (ports n : ℕ) → is_lending (switch_naming ports n) ≡ true → ⊥
no_lending ports n is = by (names_there ports n)
  where
    by : (NamesLane ports n) ⊎ (switch_naming ports n ≡ NoBuffers) → ⊥
    by (inl x) = let no : is_lending (names_of (pool_in x.in_lane.lane x.in_lane.port)) ≡ true = ap is_lending (sym x.names) ∙ is in cc
    by (inr none) = let no : is_lending NoBuffers ≡ true = ap is_lending (sym none) ∙ is in cc

pub is_naming : (ports lender : ℕ) (rows : List QueueRow) → AreQueues ports rows → IsNaming (switch_naming ports) lender nobody rows
is_naming ports lender rows q = record {
  calm = λ n. calm n (names_there ports n);
  lends = λ n row at is. absurd (no_lending ports n is);
  answers = λ n r ws is. absurd (no_answers ports n r ws is);
}
  where
    calm : (n : ℕ) → (NamesLane ports n) ⊎ (switch_naming ports n ≡ NoBuffers) → (switch_naming ports n ≡ NoBuffers) ⊎ Holds nobody rows n 0
    calm n (inl x) =
        let g = lane_row ports rows q x.in_lane.lane x.in_lane.port x.in_lane.below in
        inr (record { row = g.row; there = subst (λ k. slice_get rows k ≡ Some g.row) (sym x.in_lane.is) g.at; calm = refl; enough = omega arith })
    calm n (inr none) = inl none
