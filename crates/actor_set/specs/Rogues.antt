-- A hostile client and the journal, and its sheet: what it did is told by its acts, so its row asks
-- nothing, and it owes whatever it may put.
use Rattle.std.specs.Prelude.{◌≡◌, ◌==◌, ℕ, true, false, cond, List, [], ◌∷◌, ◌++◌, map, sum_by}
use Rattle.wire_core.specs.declared.names.Entry.{Entry}
use Rattle.buffer_kit.specs.Conserving.{Count}
use Rattle.play_core.specs.Manners.{Manner, Hostile, calls_of}
use Rattle.play_core.specs.Sheets.{Sheet}
use Rattle.play_core.specs.Wants.{intake, outlet, intake_want, outlet_want}
use Rattle.client_programs.specs.declared.rogue.Rogue.{Rogue}
use Rattle.client_programs.specs.Rogue.Acts.{Left, left_from, Follows, is_done_after}
use Rattle.client_programs.specs.Rogue.Clients.{left_of, left_at_start, ends_of}
use Rattle.actor_set.specs.Parts.{PageAt}

-- how a hostile client goes about that had this to do where the journal began
abbrev pub rogue_manner : Left → Manner
rogue_manner start = Hostile (is_done_after start)

-- the calls of actor k are those of its acts, and what it has yet to do is what they left
pub record KeepsActs (k : ℕ) (r : Rogue) (journal : List Entry) : Type 0 where
  pub follows : Follows r.kind (ends_of r) (left_at_start r) (calls_of k journal)
  pub left : left_of r ≡ left_from (left_at_start r) (calls_of k journal)

-- the numbers of those pages that are of a pool
abbrev pub pages_in : List PageAt → ℕ → List ℕ
pages_in [] pool = []
pages_in (p ∷ ps) pool = cond (p.pool == pool) (p.number ∷ pages_in ps pool) (pages_in ps pool)

-- what a page weighs
abbrev pub page_weighs : Count → PageAt → ℕ
page_weighs f p = f (record { 0 = p.pool }) p.number p.long

-- what these pages weigh together
abbrev pub pages_weigh : Count → List PageAt → ℕ
pages_weigh f pages = sum_by (page_weighs f) pages

-- what is said of the part of a hostile client, whose needs nobody reads: it is runnable by what it
-- has yet to do
abbrev pub rogue_sheet : (inputs outputs : List ℕ) → (ℕ → List ℕ) → Sheet
rogue_sheet inputs outputs hand = record {
  ends = map intake inputs ++ map outlet outputs;
  row = λ m. Unit {0};
  wants = λ m. map (λ n. intake_want n false) inputs ++ map (λ n. outlet_want n true) outputs;
  dues = λ m. [];
  hand = hand;
}
