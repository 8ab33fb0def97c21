-- What a picture of lanes is made of, and where its parts are. Numbers are units of the picture
-- (docs/FORMATS.md, Picture; the form is this project's).
use Rattle.std.specs.Prelude.{ℕ, ◌+◌, ◌-◌, ◌*◌, ◌/◌, ◌<◌, ◌≤◌, ◌==◌, false, nat_le, if◌then◌else◌, List, length, map, take, sum, slice_index_or, replicate, string_bytes}
use Rattle.lane_picture.specs.declared.parts.Arrow.{Arrow}
use Rattle.lane_picture.specs.declared.parts.TaskCalls.{TaskCalls}
use Rattle.lane_picture.specs.declared.parts.Cell.{Cell}
use Rattle.lane_picture.specs.declared.parts.LanePicture.{LanePicture}

-- what is drawn
pub record Drawn : Type 0 where
  pub title : List ℕ
  pub ending : List ℕ
  pub turns : ℕ
  pub ticks : ℕ
  -- how many turns a column has
  pub column_turns : ℕ
  -- the name of each task
  pub names : List (List ℕ)
  -- for each column, the number of turns in which something came from outside
  pub outside : List ℕ
  -- for each column, the cells of all tasks
  pub cells : List Cell
  -- the calls of each task
  pub calls : List TaskCalls
  pub arrows : List Arrow
  -- how many arrows there are in all; `arrows` may have only the first ones
  pub all_arrows : ℕ
  pub events : List (List ℕ)
  pub all_events : ℕ

abbrev pub drawn_of : LanePicture → Drawn
drawn_of p = record {
  title = p.title.now;
  ending = p.ending.now;
  turns = p.turns;
  ticks = p.ticks;
  column_turns = p.column_turns;
  names = map string_bytes p.names.now;
  outside = p.outside.now;
  cells = p.cells.now;
  calls = p.calls.now;
  arrows = p.arrows.now;
  all_arrows = p.all_arrows;
  events = map string_bytes p.events.now;
  all_events = p.all_events;
}

-- the part of a height or a width (`room`) for `some` out of `all`
abbrev pub part : ℕ → ℕ → ℕ → ℕ
part room some all = if all == 0 then 0 else room * some / all

-- ## columns: from 176 to 1376

abbrev pub columns : Drawn → ℕ
columns d = length d.outside

abbrev pub column_left : Drawn → ℕ → ℕ
column_left d k = 176 + part 1200 k (columns d)

abbrev pub column_width : Drawn → ℕ → ℕ
column_width d k = column_left d (k + 1) - column_left d k

-- the left end of the column of a turn
abbrev pub turn_left : Drawn → ℕ → ℕ
turn_left d turn = column_left d (turn / d.column_turns)

-- ## lanes: they are lower if there are more than 32 tasks

abbrev pub tasks : Drawn → ℕ
tasks d = length d.names

abbrev pub lane_height : Drawn → ℕ
lane_height d = if nat_le (tasks d) 32 then 18 else 9

-- the distance from the top of a lane to the top of the next one
abbrev pub lane_pitch : Drawn → ℕ
lane_pitch d = if nat_le (tasks d) 32 then 28 else 12

abbrev pub lane_top : Drawn → ℕ → ℕ
lane_top d i = 118 + i * lane_pitch d

abbrev pub lane_bottom : Drawn → ℕ → ℕ
lane_bottom d i = lane_top d i + lane_height d

-- the base line of the words of a lane
abbrev pub lane_words : Drawn → ℕ → ℕ
lane_words d i = lane_top d i + (if nat_le (tasks d) 32 then 13 else 8)

abbrev pub lanes_end : Drawn → ℕ
lanes_end d = lane_top d (tasks d)

-- the base line of the j-th row below the lanes
abbrev pub row_line : Drawn → ℕ → ℕ
row_line d j = lanes_end d + 20 + 16 * j

-- ## cells

abbrev pub no_cell : Cell
no_cell = record { turns = replicate 7 0; faulted = false; born = false }

-- the cell of a column and a task
abbrev pub cell_at : Drawn → ℕ → ℕ → Cell
cell_at d k i = slice_index_or d.cells (k * tasks d + i) no_cell

-- the number of turns in a cell
abbrev pub cell_turns : Cell → ℕ
cell_turns c = sum c.turns

-- the height above the bottom of the lane at which the box of an activity begins: the sum of those before it
abbrev pub activity_height : Drawn → Cell → ℕ → ℕ
activity_height d c activity = part (lane_height d) (sum (take activity c.turns)) (cell_turns c)

-- ## bounds of a picture

pub record IsBounded (p : LanePicture) : Type 0 where
  pub columns : length p.outside.now ≤ 1200
  pub tasks : length p.names.now ≤ 65536
  pub events : length p.events.now ≤ 10
  pub turns : 0 < p.column_turns
