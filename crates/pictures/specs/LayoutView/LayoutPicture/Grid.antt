-- Where the parts of a picture are: columns, one for each box, and rows below them, one for each
-- queue, each channel and each region. Columns are as far apart as the longest name asks, and rows
-- 24 pixels, so that no two boxes and no two labels can meet; arrows lie in rows, below all boxes.
use Rattle.std.specs.Prelude.{ℕ, ◌+◌, ◌*◌, ◌^◌, ◌≤◌, ◌==◌, max, if◌then◌else◌}
use Rattle.pictures.specs.declared.layout_view.layout_picture.grid.Grid.{Grid}

-- where the boxes begin, from above
abbrev pub box_top : ℕ
box_top = 48

-- and how high they are
abbrev pub box_height : ℕ
box_height = 68

-- how wide a box is: eight pixels for each letter of the longest name in one, and a margin
abbrev pub box_width : Grid → ℕ
box_width g = 8 * g.letters + 16

-- where the places of queues are written: behind the labels of the rows
abbrev pub place_x : Grid → ℕ
place_x g = 8 * g.label + 32

-- where the columns begin: behind the places
abbrev pub left : Grid → ℕ
left g = place_x g + 8 * g.place + 16

-- where a column begins
abbrev pub column_x : Grid → ℕ → ℕ
column_x g k = left g + (8 * g.letters + 32) * k

-- the middle of a column, at which its arrows begin and end
abbrev pub middle_x : Grid → ℕ → ℕ
middle_x g k = column_x g k + 4 * g.letters + 8

-- where a row is: the rows of queues come first
abbrev pub queue_y : ℕ → ℕ
queue_y q = 176 + 24 * q

-- then, below a heading, those of channels
abbrev pub channel_y : Grid → ℕ → ℕ
channel_y g c = 224 + 24 * (g.queues + c)

-- then, below a heading, those of regions
abbrev pub region_y : Grid → ℕ → ℕ
region_y g r = 272 + 24 * (g.queues + g.channels + r)

-- how wide the rows of regions are: a bar, its range, and what is said of the pool in it
abbrev pub memory_width : Grid → ℕ
memory_width g = if g.pools == 0 then 600 else 8 * g.letters + 944

-- how wide the picture is
abbrev pub width : Grid → ℕ
width g = max (column_x g g.columns) (left g + memory_width g)

-- and how high: to a margin below the last row
abbrev pub height : Grid → ℕ
height g = region_y g g.regions + 16

-- a grid is small enough for its places to be numbers of 64 bits: names have at most 1,000 letters,
-- and there are at most 2^40 columns, and as many rows of each sort
pub record IsSmall (g : Grid) : Type 0 where
  pub short_label : g.label ≤ 1000
  pub short_place : g.place ≤ 1000
  pub short_names : g.letters ≤ 1000
  pub few_columns : g.columns ≤ 2 ^ 40
  pub few_queues : g.queues ≤ 2 ^ 40
  pub few_channels : g.channels ≤ 2 ^ 40
  pub few_regions : g.regions ≤ 2 ^ 40
