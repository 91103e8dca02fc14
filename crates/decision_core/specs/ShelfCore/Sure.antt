-- A shelf that never fails: a description under its name, and a trace under every other name.
use Rattle.std.specs.Prelude.{ℕ, Option, Some, None, List, [], drop, nat_eq, if◌then◌else◌}
use Rattle.std.specs.Cmp.Lexicographic.{pointwise}
use Rattle.decision_core.specs.declared.shelf_core.sure.Opened.{Opened}
use Rattle.decision_core.specs.declared.shelf_core.sure.Opened.TheVariants as Is

-- such a shelf: the name of the description, both texts, which is open, and how far it was read
pub record Sure : Type 0 where
  pub name : List ℕ
  pub desc : List ℕ
  pub trace : List ℕ
  pub opened : Opened
  pub at : ℕ

-- the text under a name
abbrev pub sure_text : Sure → List ℕ → List ℕ
sure_text s name = if pointwise nat_eq s.name name then s.desc else s.trace

-- a text that is open, of these two
abbrev pub open_text : Opened → List ℕ → List ℕ → List ℕ
open_text Is.Nothing desc trace = []
open_text Is.Description desc trace = desc
open_text Is.Trace desc trace = trace

-- what is left of the open text
abbrev pub sure_left : Sure → List ℕ
sure_left s = drop s.at (open_text s.opened s.desc s.trace)
