use Rattle.std.proofs.Common.{◌≡◌, ℕ, List, ◌+◌, sum_by, arith}
use Rattle.cargo_core.specs.declared.item.PoolId.{PoolId}
use Rattle.cargo_core.specs.Bodies.{buffers_of}
use Rattle.wire_core.specs.declared.names.QueueRow.{QueueRow}
use Rattle.wire_core.specs.declared.names.Entry.{Entry}
use Rattle.wire_core.specs.Journal.{History, Hostiles}
use Rattle.wire_core.specs.Lists.{Passed}
use Rattle.wire_core.specs.Queues.{Queue}
use Rattle.turn_kit.specs.Hands.{bodies_of}
use Rattle.play_core.specs.Moved.{moved}
use Rattle.play_core.proofs.Moments.{last_moment}
use Rattle.owner_law.specs.Things.{Naming}
use Rattle.owner_law.specs.Owners.{Table, OneOwner, replay}
use Rattle.owner_law.specs.Keeping.{IsShownBy}
use Rattle.owner_law.specs.Census.{census, IsPool}
use Rattle.owner_law.proofs.Counting.{census_whole}
use Rattle.owner_law.proofs.Replays.{owners_hold, shown_hold}
use Rattle.owner_law.specs.Pools.Lines.{Holder, keepers_of, AreLines}
use Rattle.owner_law.proofs.PoolsLemmas.Lining.{IsMoment, line_queues, line_hands, line_lent}

module _ (naming : Naming) (lender : ℕ) (hostile : Hostiles) (history : History) (rows : List QueueRow) (sizes : ℕ → ℕ) (holders : List Holder) (start : Table) (journal : List Entry) (passed : Passed) (world : List Queue) (x : AreLines naming lender hostile history rows sizes holders start journal passed world) where
  abbrev t : Table
  t = replay naming history start journal

  is_moment : IsMoment naming lender hostile rows sizes holders (moved history journal) t passed world
  is_moment = record {
    naming_is = x.owned.naming_is;
    keepers_are = x.owned.keepers_are;
    shown = last_moment (λ j. IsShownBy naming lender (keepers_of holders) (moved history j) (replay naming history start j)) journal (shown_hold naming lender hostile history rows (keepers_of holders) start journal x.owned);
    counted = (last_moment (OneOwner naming history start) journal (owners_hold naming lender hostile history rows (keepers_of holders) start journal x.owned)).counted;
    carry = x.carry;
    stands_there = x.stands_there;
    size = x.size;
    names = x.names;
    starts = x.starts;
    holds = x.holds;
  }

  pub last_queues : (pool : PoolId) → (census t pool.0 (sizes pool.0)).queues ≡ sum_by (λ (q : Queue). buffers_of pool (bodies_of q.entries)) world
  last_queues pool = line_queues naming lender hostile rows sizes holders (moved history journal) t passed world is_moment pool

  pub last_hands : (pool : PoolId) → (census t pool.0 (sizes pool.0)).hands ≡ sum_by (λ (h : Holder). buffers_of pool h.hand) holders
  last_hands pool = line_hands naming lender hostile rows sizes holders (moved history journal) t passed world is_moment pool

  pub last_lent : (pool : PoolId) → (census t pool.0 (sizes pool.0)).lent ≡ sum_by (λ (h : Holder). h.lent pool.0) holders
  last_lent pool = line_lent naming lender hostile rows sizes holders (moved history journal) t passed world is_moment pool

  pub last_whole : (pool : PoolId) → IsPool start pool.0 (sizes pool.0) → sum_by (λ (q : Queue). buffers_of pool (bodies_of q.entries)) world + sum_by (λ (h : Holder). buffers_of pool h.hand) holders + sum_by (λ (h : Holder). h.lent pool.0) holders ≡ sizes pool.0
  last_whole pool some = omega (arith, census_whole naming history start pool.0 (sizes pool.0) some journal, last_queues pool, last_hands pool, last_lent pool)
