-- Where the parts of a chart are: a lane for each actor, and below their names a row for each step.
-- Lanes are as far apart as the longest name asks, and the steps lie 14 pixels apart.
use Rattle.std.specs.Prelude.{ℕ, ◌+◌, ◌-◌, ◌*◌, ◌<◌, ◌≤◌, ◌^◌}
use Rattle.pictures.specs.declared.play_picture.lanes.Lanes.{Lanes}

-- how wide a lane is: eight pixels for each letter of the longest name, and a margin
abbrev pub lane_width : Lanes → ℕ
lane_width l = 8 * l.letters + 16

-- where a lane begins: behind the labels of the steps
abbrev pub lane_x : Lanes → ℕ → ℕ
lane_x l actor = 8 * l.label + 32 + lane_width l * actor

-- the middle of a lane
abbrev pub middle_x : Lanes → ℕ → ℕ
middle_x l actor = lane_x l actor + 4 * l.letters + 4

-- the row of a step
abbrev pub step_y : Lanes → ℕ → ℕ
step_y l step = 112 + 14 * (step - l.from)

-- how wide the chart is
abbrev pub width : Lanes → ℕ
width l = lane_x l l.actors + 200

-- and how high
abbrev pub height : Lanes → ℕ
height l = step_y l l.to + 16

-- a chart is small enough for its places to be numbers of 64 bits
pub record IsSmall (l : Lanes) : Type 0 where
  pub short_labels : l.label ≤ 1000
  pub short_names : l.letters ≤ 1000
  pub few_actors : l.actors ≤ 65536
  pub few_steps : l.to < 2 ^ 32
  pub in_order : l.from ≤ l.to
