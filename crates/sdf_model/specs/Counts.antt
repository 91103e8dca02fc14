-- How many elements a description has at most, by the length of its text.
use Rattle.std.specs.Prelude.{ℕ, suc, ◌+◌, List, [], ◌∷◌}
use Rattle.toml.specs.Data.{Data, array, table, Items, no_items, item, Members, no_members, member}

-- how many bytes a description has at most
abbrev pub text_most : ℕ
text_most = 16777216

abbrev mutual
  -- how many elements the arrays of a value have, those inside one another among them
  pub elements_in : Data → ℕ
  elements_in (array ds) = elements_of_items ds
  elements_in (table ms) = elements_of_members ms
  elements_in _ = 0

  -- the same of some items, which count too
  pub elements_of_items : Items → ℕ
  elements_of_items no_items = 0
  elements_of_items (item d ds) = suc (elements_in d + elements_of_items ds)

  -- the same of the members of a table
  pub elements_of_members : Members → ℕ
  elements_of_members no_members = 0
  elements_of_members (member k d ms) = elements_in d + elements_of_members ms

-- the same of a list of tables, which count too
abbrev pub elements_of_tables : List Members → ℕ
elements_of_tables [] = 0
elements_of_tables (t ∷ ts) = suc (elements_of_members t + elements_of_tables ts)
