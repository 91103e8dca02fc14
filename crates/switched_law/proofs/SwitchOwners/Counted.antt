-- The buffers that the table of owners has in queues are the pages that stand there.
use Rattle.std.proofs.Common.{◌≡◌, ◌⊎◌, inl, inr, ◌+◌, ◌*◌, ◌<◌, ◌≤◌, ℕ, zero, suc, Some, List, [], ◌∷◌, length, slice_get, sum_by, refl, sym, ap, ◌∙◌, subst, arith}
use Rattle.std.proofs.lemmas.List.Elements.{All-nil, All-cons}
use Rattle.std.proofs.lemmas.List.Sums.{sum_by-cons}
use Rattle.wire_core.specs.declared.names.QueueRow.{QueueRow}
use Rattle.wire_core.specs.Journal.{start_history, nobody}
use Rattle.play_core.specs.Moved.{moved}
use Rattle.play_core.proofs.Lists.{some_is, there_is}
use Rattle.owner_law.specs.Things.{Window, NoBuffers}
use Rattle.owner_law.specs.Keeping.{Keeper, start_table}
use Rattle.owner_law.specs.Census.{census}
use Rattle.owner_law.specs.Pools.Places.{by_offset}
use Rattle.owner_law.specs.Pools.Lines.{Holder, keepers_of, NamesWithin, HoldsIts, AreLines}
use Rattle.owner_law.proofs.Starts.{start_shown, start_counted}
use Rattle.line_text.specs.declared.ports_text.ports.Ports.{Ports}
use Rattle.small_system.specs.Tales.{Turn, start_of, IsTale, after_tale, journal_of, passed_by}
use Rattle.small_system.specs.Standing.{Begins, Holds}
use Rattle.small_system.proofs.Telling.{told_holds, tale_count, tale_parts}
use Rattle.small_system.specs.SmallLaw.Keepers.{HaveKeepers}
use Rattle.small_system.proofs.SmallLaw.Keeping.{owned}
use Rattle.switched_law.specs.declared.switch_class.member.Member.{Member}
use Rattle.switched_law.specs.SwitchClass.Queues.{AreQueues}
use Rattle.switched_law.specs.SwitchClass.Members.{member_means}
use Rattle.switched_law.specs.SwitchClass.MemberLaws.{member_lawful}
use Rattle.switched_law.specs.SwitchClass.Casting.{CanBeMade, AreMade}
use Rattle.switched_law.proofs.SwitchClass.Lanes.{Lane, TxActive, TxFree, RxActive, RxFree}
use Rattle.switched_law.specs.SwitchOwners.Owning.{switch_naming, switch_keepers}
use Rattle.switched_law.specs.SwitchOwners.Lines.{IsLine, queued, table_after}
use Rattle.switched_law.proofs.SwitchOwners.Naming.{pool_in, NamesLane, names_there}
use Rattle.switched_law.proofs.SwitchOwners.Spread.{sizes_at, size_here, half, half_only, keepers_many, all_keepers}
use Rattle.switched_law.proofs.SwitchOwners.Actors.{hand_of, client_like_holds, switch_like_holds}
use Rattle.switched_law.proofs.SwitchOwners.Keepers.{port_there, hand_on, two_owners}
use Rattle.switched_law.proofs.SwitchOwners.Carried.{tale_carries}

-- the actors with what they have in hand
abbrev holders_with : ℕ → List Keeper → List Member → List Holder
holders_with n [] xs = []
holders_with n (p ∷ ps) [] = []
holders_with n (p ∷ ps) (x ∷ xs) = record { keeper = p; hand = hand_of n x; lent = λ pool. 0 } ∷ holders_with n ps xs

keepers_back : (n : ℕ) (ps : List Keeper) (xs : List Member) → length ps ≡ length xs → keepers_of (holders_with n ps xs) ≡ ps
keepers_back n [] xs e = refl
keepers_back n (p ∷ ps) [] e = absurd (omega (arith, e))
keepers_back n (p ∷ ps) (x ∷ xs) e = ap (λ l. p ∷ l) (keepers_back n ps xs (omega (arith, e)))

record HolderAt (n : ℕ) (ps : List Keeper) (xs : List Member) (k : ℕ) (h : Holder) : Type 0 where
  pub keeper : Keeper
  pub actor : Member
  pub keeper_at : slice_get ps k ≡ Some keeper
  pub actor_at : slice_get xs k ≡ Some actor
  pub is : h ≡ record { keeper = keeper; hand = hand_of n actor; lent = λ pool. 0 }

holder_at : (n : ℕ) (ps : List Keeper) (xs : List Member) (k : ℕ) (h : Holder) → slice_get (holders_with n ps xs) k ≡ Some h → HolderAt n ps xs k h
holder_at n [] xs k h at = cc
holder_at n (p ∷ ps) [] k h at = cc
holder_at n (p ∷ ps) (x ∷ xs) zero h at = record { keeper = p; actor = x; keeper_at = refl; actor_at = refl; is = sym (some_is at) }
holder_at n (p ∷ ps) (x ∷ xs) (suc k) h at = let r = holder_at n ps xs k h at in record { keeper = r.keeper; actor = r.actor; keeper_at = r.keeper_at; actor_at = r.actor_at; is = r.is }

none_lent : (n : ℕ) (ps : List Keeper) (xs : List Member) (pool : ℕ) → sum_by (λ (h : Holder). h.lent pool) (holders_with n ps xs) ≡ 0
none_lent n [] xs pool = refl
none_lent n (p ∷ ps) [] pool = refl
none_lent n (p ∷ ps) (x ∷ xs) pool = let h : Holder = record { keeper = p; hand = hand_of n x; lent = λ pool. 0 } in let c = sum_by-cons (λ (h : Holder). h.lent pool) h (holders_with n ps xs) in let r = none_lent n ps xs pool in omega (arith, c, r)

-- a pool is with one of the actors at the start
pub below_half : (pool n : ℕ) → pool < 2 * n → half pool < length (switch_keepers n)
below_half pool n lt = by (half_only pool (half pool) refl)
  where
    by : (pool ≡ 2 * half pool) ⊎ (pool ≡ 2 * half pool + 1) → half pool < length (switch_keepers n)
    by (inl h) = let m = keepers_many n in omega (arith, h, m, lt)
    by (inr h) = let m = keepers_many n in omega (arith, h, m, lt)

pool_small : (l : Lane) (port ports : ℕ) → port < ports → (pool_in l port).number < 2 * ports
pool_small TxActive port ports lt = omega (arith, lt)
pool_small TxFree port ports lt = omega (arith, lt)
pool_small RxActive port ports lt = omega (arith, lt)
pool_small RxFree port ports lt = omega (arith, lt)

pool_four : (l : Lane) (port : ℕ) → (pool_in l port).buffers ≡ 4
pool_four TxActive port = refl
pool_four TxFree port = refl
pool_four RxActive port = refl
pool_four RxFree port = refl

-- items name buffers of the pools alone
names_within : (ports k : ℕ) → NamesWithin (sizes_at ports) (switch_naming ports k)
names_within ports k = by (names_there ports k)
  where
    by : (NamesLane ports k) ⊎ (switch_naming ports k ≡ NoBuffers) → NamesWithin (sizes_at ports) (switch_naming ports k)
    by (inl x) =
        let pool = pool_in x.in_lane.lane x.in_lane.port in
        let size = size_here ports pool.number (pool_small x.in_lane.lane x.in_lane.port ports x.in_lane.below) in
        let four = pool_four x.in_lane.lane x.in_lane.port in
        let one : (by_offset pool).buffers ≤ sizes_at ports (by_offset pool).pool = omega (arith, size, four) in
        subst (NamesWithin (sizes_at ports)) (sym x.names) (All-cons (λ (w : Window). w.buffers ≤ sizes_at ports w.pool) (by_offset pool) [] one (All-nil (λ (w : Window). w.buffers ≤ sizes_at ports w.pool)))
    by (inr none) = subst (NamesWithin (sizes_at ports)) (sym none) tt

module _ (ports : Ports) (rows : List QueueRow) (start : List Member) (turns : List (Turn Member)) (can : CanBeMade ports) (q : AreQueues (length ports.macs) rows) (made : AreMade ports start) (begins : Begins member_means rows start) (tale : IsTale member_means (start_of rows start) turns)
    (have : HaveKeepers member_means (switch_naming (length ports.macs)) (length ports.macs) rows start (switch_keepers (length ports.macs))) where
  abbrev n : ℕ
  n = length ports.macs

  abbrev last : List Member
  last = (after_tale (start_of rows start) turns).actors

  abbrev holders : List Holder
  holders = holders_with n (switch_keepers n) last

  holds : Holds member_means rows (after_tale (start_of rows start) turns) (passed_by turns) (journal_of turns)
  holds = told_holds member_means member_lawful rows start turns begins tale

  last_many : length (switch_keepers n) ≡ length last
  last_many = have.many ∙ sym (tale_count member_means (start_of rows start) turns tale)

  keepers_are : keepers_of holders ≡ switch_keepers n
  keepers_are = keepers_back n (switch_keepers n) last last_many

  holds_its : (k : ℕ) (p : Keeper) → slice_get (switch_keepers n) k ≡ Some p → (y : Member) → slice_get last k ≡ Some y → HoldsIts (switch_naming n) (sizes_at n) (moved (start_history rows) (journal_of turns)) (passed_by turns) (record { keeper = p; hand = hand_of n y; lent = λ pool. 0 })
  holds_its = all_keepers n (λ k p. (y : Member) → slice_get last k ≡ Some y → HoldsIts (switch_naming n) (sizes_at n) (moved (start_history rows) (journal_of turns)) (passed_by turns) (record { keeper = p; hand = hand_of n y; lent = λ pool. 0 }))
      (λ k lt y at.
      let many : length start ≡ n + 1 = made.many in
      let x = there_is start k (omega (arith, lt, many)) in
      let c = port_there ports rows start can q made begins k lt x.0 x.1 in
      let part = tale_parts member_means (start_of rows start) turns tale k x.0 y x.1 at in
      client_like_holds n k lt c.mac c.frames (passed_by turns) (moved (start_history rows) (journal_of turns)) (sizes_at n) y (part ∙ c.is) (holds.stands k y at))
      (λ y at.
      let many : length start ≡ n + 1 = made.many in
      let x = there_is start n (omega (arith, many)) in
      let part = tale_parts member_means (start_of rows start) turns tale n x.0 y x.1 at in
      switch_like_holds ports.macs (passed_by turns) (moved (start_history rows) (journal_of turns)) (sizes_at n) y (part ∙ made.switch x.0 x.1) (holds.stands n y at))

  pub are_lines : ((k : ℕ) (p : Keeper) → slice_get (switch_keepers n) k ≡ Some p → Rattle.owner_law.specs.Pools.Lines.HandWithin (sizes_at n) p)
      → AreLines (switch_naming n) n nobody (start_history rows) rows (sizes_at n) holders (start_table (switch_keepers n)) (journal_of turns) (passed_by turns) (after_tale (start_of rows start) turns).world
  are_lines within = record {
    owned = subst (λ ks. Rattle.owner_law.specs.Keeping.IsOwned (switch_naming n) n nobody (start_history rows) rows ks (start_table (switch_keepers n)) (journal_of turns)) (sym keepers_are)
        (owned member_means member_lawful (switch_naming n) n rows start (switch_keepers n) have turns begins tale (start_counted (switch_keepers n)) (start_shown (switch_naming n) n rows (switch_keepers n) have.dealt));
    carry = tale_carries member_means member_lawful (switch_naming n) n rows start (switch_keepers n) begins have (two_owners n rows q) (hand_on ports rows start can q made begins) turns tale;
    stands_there = holds.stands_there;
    size = holds.size;
    names = names_within n;
    starts = λ k h at. let x = holder_at n (switch_keepers n) last k h at in subst (λ (y : Holder). Rattle.owner_law.specs.Pools.Lines.HandWithin (sizes_at n) y.keeper) (sym x.is) (within k x.keeper x.keeper_at);
    holds = λ k h at. let x = holder_at n (switch_keepers n) last k h at in subst (λ (y : Holder). HoldsIts (switch_naming n) (sizes_at n) (moved (start_history rows) (journal_of turns)) (passed_by turns) y) (sym x.is) (holds_its k x.keeper x.keeper_at x.actor x.actor_at);
  }

  pub lent_none : (pool : ℕ) → sum_by (λ (h : Holder). h.lent pool) holders ≡ 0
  lent_none pool = none_lent n (switch_keepers n) last pool

  -- the line of a pool, by the sums of the law of lines
  pub is_line : (pool : ℕ) → pool < 2 * n
      → (census (table_after n rows (journal_of turns)) pool (sizes_at n pool)).queues ≡ queued (after_tale (start_of rows start) turns).world pool
      → (census (table_after n rows (journal_of turns)) pool (sizes_at n pool)).lent ≡ sum_by (λ (h : Holder). h.lent pool) holders
      → (census (table_after n rows (journal_of turns)) pool (sizes_at n pool)).queues + (census (table_after n rows (journal_of turns)) pool (sizes_at n pool)).hands + (census (table_after n rows (journal_of turns)) pool (sizes_at n pool)).lent ≡ sizes_at n pool
      → IsLine (queued (after_tale (start_of rows start) turns).world pool) (census (table_after n rows (journal_of turns)) pool 4)
  is_line pool lt queues lent whole =
      let size = size_here n pool lt in
      let none = lent_none pool in
      subst (λ s. IsLine (queued (after_tale (start_of rows start) turns).world pool) (census (table_after n rows (journal_of turns)) pool s)) size (record {
        queues_are = queues;
        all = omega (arith, whole, lent, none, size);
        none_lent = lent ∙ none;
      })
