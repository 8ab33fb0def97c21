-- A picture of lanes as SVG (docs/FORMATS.md, Picture; the form is this project's).
use Rattle.std.specs.Prelude.{ℕ, ◌+◌, ◌-◌, ◌*◌, ◌==◌, nat_le, nat_lt, if◌then◌else◌, List, [], ◌∷◌, ◌++◌, length, fold, max, sum_by, slice_index_or, codes, decimal, find, Option, Some, None, unwrap_or}
use Rattle.std.specs.List.{flat_map, range_with_len}
use Rattle.lane_picture.specs.declared.parts.Arrow.{Arrow}
use Rattle.lane_picture.specs.declared.parts.TaskCalls.{TaskCalls}
use Rattle.lane_picture.specs.declared.parts.Longest.{Longest}
use Rattle.lane_picture.specs.declared.parts.AskedCall.{AskedCall}
use Rattle.lane_picture.specs.declared.parts.ArrowKind.{ArrowKind}
use Rattle.lane_picture.specs.declared.parts.ArrowKind.TheVariants as way
use Rattle.lane_picture.specs.Sizes.{Drawn, columns, column_width, column_left, turn_left, tasks, lane_height, lane_top, lane_bottom, lane_words, lanes_end, row_line, cell_at, part, activity_height}

-- a byte of a name as XML writes it; a byte that XML text may not have becomes a question mark
unfoldable pub escape : ℕ → List ℕ
escape b =
    if b == 38 then codes "&amp;"
    else if b == 60 then codes "&lt;"
    else if b == 62 then codes "&gt;"
    else if nat_lt b 32 then codes "?"
    else b ∷ []

abbrev pub escaped : List ℕ → List ℕ
escaped bytes = flat_map escape bytes

abbrev pub name_at : Drawn → ℕ → List ℕ
name_at d i = escaped (slice_index_or d.names i [])

-- ## the parts before the lanes

abbrev pub height : Drawn → ℕ
height d = row_line d (length d.events + 2)

unfoldable pub opening_text : Drawn → List ℕ
opening_text d = codes "<svg xmlns=\"http://www.w3.org/2000/svg\" viewBox=\"0 0 1760 " ++ decimal (height d) ++ codes "\" width=\"1760\" height=\"" ++ decimal (height d) ++ codes "\">\n<title>" ++ escaped d.title ++ codes "</title>\n"

-- the styles, the heads of arrows, the background, and what the colours mean
unfoldable pub look_text : List ℕ
look_text = codes "<style>.bg{fill:#fff}.t{fill:#1a1a1a}.d{fill:#666}.g{stroke:#e4e4e4}.o{fill:#5b5b5b}.f{fill:#c1121f}.n{fill:#2a7f3f}\n.a0{fill:#0b5fa5}.a1{fill:#f6d27a}.a2{fill:#c8553d}.a3{fill:#b79ad6}.a4{fill:#e6e9ec}.a5{fill:#111}.a6{fill:#9aa0a6}\n.o,.f,.n,.a0,.a1,.a2,.a3,.a4,.a5,.a6{shape-rendering:crispEdges}\n.c,.r,.x{fill:none;stroke:#222;marker-end:url(#h)}.r{stroke-dasharray:3 2}.x{stroke:#c1121f;marker-end:url(#e)}.h{fill:#222}.e{fill:#c1121f}\ntext{font:11px ui-sans-serif,system-ui,sans-serif}.s{font-size:9px}.b{font-weight:600;font-size:13px}.m{text-anchor:middle}.q{text-anchor:end}\n@media(prefers-color-scheme:dark){.bg{fill:#14171a}.t{fill:#e8e8e8}.d{fill:#9aa0a6}.g{stroke:#2b3035}.o{fill:#aaa}.f{fill:#ff5964}.n{fill:#57c46d}\n.a0{fill:#4aa3ff}.a1{fill:#8a6d1f}.a2{fill:#ff7a5c}.a3{fill:#7d62a8}.a4{fill:#2a3036}.a5{fill:#f5f5f5}.a6{fill:#5c646c}\n.c,.r{stroke:#ddd}.x{stroke:#ff5964}.h{fill:#ddd}.e{fill:#ff5964}}</style>\n<defs><marker id=\"h\" viewBox=\"0 0 6 6\" refX=\"6\" refY=\"3\" markerWidth=\"6\" markerHeight=\"6\" orient=\"auto\"><path class=\"h\" d=\"M0 0L6 3L0 6z\"/></marker><marker id=\"e\" viewBox=\"0 0 6 6\" refX=\"6\" refY=\"3\" markerWidth=\"6\" markerHeight=\"6\" orient=\"auto\"><path class=\"e\" d=\"M0 0L6 3L0 6z\"/></marker></defs>\n<rect class=\"bg\" width=\"100%\" height=\"100%\"/>\n<rect class=\"a0\" x=\"176\" y=\"42\" width=\"10\" height=\"10\"/><text x=\"190\" y=\"51\" class=\"t s\">runs</text><rect class=\"a1\" x=\"256\" y=\"42\" width=\"10\" height=\"10\"/><text x=\"270\" y=\"51\" class=\"t s\">ready</text><rect class=\"a2\" x=\"336\" y=\"42\" width=\"10\" height=\"10\"/><text x=\"350\" y=\"51\" class=\"t s\">offers</text><rect class=\"a3\" x=\"416\" y=\"42\" width=\"10\" height=\"10\"/><text x=\"430\" y=\"51\" class=\"t s\">awaits</text><rect class=\"a4\" x=\"496\" y=\"42\" width=\"10\" height=\"10\"/><text x=\"510\" y=\"51\" class=\"t s\">listens</text><rect class=\"a5\" x=\"576\" y=\"42\" width=\"10\" height=\"10\"/><text x=\"590\" y=\"51\" class=\"t s\">faulted</text><rect class=\"a6\" x=\"656\" y=\"42\" width=\"10\" height=\"10\"/><text x=\"670\" y=\"51\" class=\"t s\">stopped</text><rect class=\"f\" x=\"740\" y=\"42\" width=\"2\" height=\"10\"/><text x=\"750\" y=\"51\" class=\"t s\">a fault</text><rect class=\"n\" x=\"820\" y=\"42\" width=\"2\" height=\"10\"/><text x=\"830\" y=\"51\" class=\"t s\">a birth</text>\n"

-- if there are more arrows than this, none is drawn
abbrev pub most_arrows : ℕ
most_arrows = 300

abbrev pub scale_text : ℕ → List ℕ
scale_text turns = if turns == 1 then codes "a turn a column" else decimal turns ++ codes " turns a column, the height of a colour is its share of them"

abbrev pub left_out_text : ℕ → List ℕ
left_out_text arrows = if nat_lt most_arrows arrows then codes "; " ++ decimal arrows ++ codes " arrows left out" else []

unfoldable pub head_text : Drawn → List ℕ
head_text d = codes "<text x=\"8\" y=\"20\" class=\"t b\">" ++ escaped d.title ++ codes "</text>\n<text x=\"8\" y=\"36\" class=\"d\">" ++ decimal d.turns ++ codes " turns, " ++ decimal d.ticks ++ codes " ticks, ends " ++ d.ending ++ codes "; " ++ scale_text d.column_turns ++ left_out_text d.all_arrows ++ codes "</text>\n"

-- ## the axis: at most ten steps

abbrev pub steps : List ℕ
steps = 1 ∷ 2 ∷ 5 ∷ 10 ∷ 20 ∷ 50 ∷ 100 ∷ 200 ∷ 500 ∷ 1000 ∷ 2000 ∷ 5000 ∷ 10000 ∷ 20000 ∷ 50000 ∷ 100000 ∷ 200000 ∷ 500000 ∷ 1000000 ∷ 2000000 ∷ 5000000 ∷ 10000000 ∷ 20000000 ∷ 50000000 ∷ 100000000 ∷ 200000000 ∷ []

-- the smallest step with which ten steps cover all turns
abbrev pub step : ℕ → ℕ
step turns = unwrap_or (find (λ s. nat_le turns (10 * s)) steps) 500000000

unfoldable pub grid_line : Drawn → ℕ → List ℕ
grid_line d turn = codes "<path class=\"g\" d=\"M" ++ decimal (turn_left d turn) ++ codes " 72V" ++ decimal (lanes_end d) ++ codes "\"/><text x=\"" ++ decimal (turn_left d turn) ++ codes "\" y=\"68\" class=\"d s m\">" ++ decimal turn ++ codes "</text>\n"

abbrev pub grid_line_within : Drawn → ℕ → List ℕ
grid_line_within d turn = if nat_le turn d.turns then grid_line d turn else []

abbrev pub axis_text : Drawn → List ℕ
axis_text d = flat_map (λ j. grid_line_within d (j * step d.turns)) (range_with_len 0 11)

-- ## boxes: from the top left corner to the right, down and back; a box without height is left out

unfoldable pub box_text : ℕ → ℕ → ℕ → ℕ → List ℕ
box_text x y width height = codes "M" ++ decimal x ++ codes " " ++ decimal y ++ codes "h" ++ decimal width ++ codes "v" ++ decimal height ++ codes "h-" ++ decimal width ++ codes "z"

abbrev pub box_or_none : ℕ → ℕ → ℕ → ℕ → List ℕ
box_or_none x y width height = if height == 0 then [] else box_text x y width height

-- ## what came from outside: a box for each column, the highest for the column with the most turns

abbrev pub most_outside : Drawn → ℕ
most_outside d = fold max 0 d.outside

abbrev pub outside_box : Drawn → ℕ → List ℕ
outside_box d k = let high = part 24 (slice_index_or d.outside k 0) (most_outside d) in box_or_none (column_left d k) (104 - high) (column_width d k) high

abbrev pub outside_boxes : Drawn → List ℕ
outside_boxes d = flat_map (outside_box d) (range_with_len 0 (columns d))

unfoldable pub outside_text : Drawn → List ℕ
outside_text d = codes "<text x=\"168\" y=\"98\" class=\"t q\">outside</text>\n<path class=\"o\" d=\"" ++ outside_boxes d ++ codes "\"/>\n<text x=\"1384\" y=\"98\" class=\"d s\">at most " ++ decimal (most_outside d) ++ codes " turns a column</text>\n"

-- ## a lane

-- the number of turns in which a task runs
abbrev pub running : Drawn → ℕ → ℕ
running d i = sum_by (λ k. slice_index_or (cell_at d k i).turns 0 0) (range_with_len 0 (columns d))

-- the share of these turns, in percent of all turns
abbrev pub share_text : ℕ → ℕ → List ℕ
share_text runs turns = if runs == 0 then codes "-" else decimal (part 100 runs turns) ++ codes " %"

abbrev pub longest_text : Drawn → Option Longest → List ℕ
longest_text d None = []
longest_text d (Some l) = codes ", the longest of " ++ decimal l.turns ++ codes " turns from turn " ++ decimal l.from ++ codes " to " ++ name_at d l.server

abbrev pub asked_text : Drawn → Option AskedCall → List ℕ
asked_text d None = []
asked_text d (Some a) = codes ", open since turn " ++ decimal a.since ++ codes " to " ++ name_at d a.server

abbrev pub calls_text : Drawn → TaskCalls → List ℕ
calls_text d c = if c.count == 0 then [] else codes "; calls: " ++ decimal c.count ++ longest_text d c.longest ++ asked_text d c.asked

abbrev pub no_calls : TaskCalls
no_calls = record { count = 0; asked = None; longest = None }

abbrev pub calls_at : Drawn → ℕ → TaskCalls
calls_at d i = slice_index_or d.calls i no_calls

-- The box of an activity of a task in a column. It is on top of the boxes of the activities before it.
abbrev pub activity_box : Drawn → ℕ → ℕ → ℕ → List ℕ
activity_box d i activity k =
    let low = activity_height d (cell_at d k i) activity in
    let high = activity_height d (cell_at d k i) (activity + 1) in
    box_or_none (column_left d k) (lane_bottom d i - high) (column_width d k) (high - low)

unfoldable pub activity_path : Drawn → ℕ → ℕ → List ℕ
activity_path d i activity = codes "<path class=\"a" ++ decimal activity ++ codes "\" d=\"" ++ flat_map (activity_box d i activity) (range_with_len 0 (columns d)) ++ codes "\"/>\n"

-- A column in which a task faulted has a mark over the lane. A column in which the task was born has a mark
-- below the lane.
abbrev pub fault_box : Drawn → ℕ → ℕ → List ℕ
fault_box d i k = if (cell_at d k i).faulted then box_text (column_left d k) (lane_top d i - 4) 2 (lane_height d + 4) else []

abbrev pub birth_box : Drawn → ℕ → ℕ → List ℕ
birth_box d i k = if (cell_at d k i).born then box_text (column_left d k) (lane_bottom d i) 2 4 else []

unfoldable pub marks_text : Drawn → ℕ → List ℕ
marks_text d i = codes "<path class=\"f\" d=\"" ++ flat_map (fault_box d i) (range_with_len 0 (columns d)) ++ codes "\"/>\n<path class=\"n\" d=\"" ++ flat_map (birth_box d i) (range_with_len 0 (columns d)) ++ codes "\"/>\n"

unfoldable pub words_text : Drawn → ℕ → List ℕ
words_text d i = codes "<text x=\"168\" y=\"" ++ decimal (lane_words d i) ++ codes "\" class=\"t q\">" ++ name_at d i ++ codes " <tspan class=\"d s\">" ++ decimal i ++ codes "</tspan></text>\n<text x=\"1384\" y=\"" ++ decimal (lane_words d i) ++ codes "\" class=\"d s\">" ++ share_text (running d i) d.turns ++ calls_text d (calls_at d i) ++ codes "</text>\n"

abbrev pub lane_text : Drawn → ℕ → List ℕ
lane_text d i = words_text d i ++ flat_map (activity_path d i) (range_with_len 0 7) ++ marks_text d i

-- ## arrows

abbrev pub way_class : ArrowKind → List ℕ
way_class way.Call = codes "c"
way_class way.Answer = codes "r"
way_class way.Break = codes "x"

-- an arrow begins and ends at the sides of the two lanes that face each other
unfoldable pub arrow_text : Drawn → Arrow → List ℕ
arrow_text d a =
    let down = nat_lt a.from a.to in
    codes "<path class=\"" ++ way_class a.way ++ codes "\" d=\"M" ++ decimal (turn_left d a.at) ++ codes " " ++ decimal (if down then lane_bottom d a.from else lane_top d a.from)
    ++ codes "L" ++ decimal (turn_left d a.until) ++ codes " " ++ decimal (if down then lane_top d a.to else lane_bottom d a.to) ++ codes "\"/>\n"

abbrev pub arrows_text : Drawn → List ℕ
arrows_text d = if nat_lt most_arrows d.all_arrows then [] else flat_map (arrow_text d) d.arrows

-- ## the rows below the lanes

unfoldable pub row_text : Drawn → ℕ → List ℕ → List ℕ → List ℕ
row_text d j class text = codes "<text x=\"176\" y=\"" ++ decimal (row_line d j) ++ codes "\" class=\"" ++ class ++ codes "\">" ++ text ++ codes "</text>\n"

abbrev pub event_text : Drawn → ℕ → List ℕ
event_text d j = row_text d (j + 1) (codes "d") (escaped (slice_index_or d.events j []))

-- how many more events there are than the picture lists
abbrev pub more_text : Drawn → List ℕ
more_text d = row_text d (length d.events + 1) (codes "d") (codes "and " ++ decimal (d.all_events - length d.events) ++ codes " more")

-- that there are no events, or how many more there are
abbrev pub rest_text : Drawn → List ℕ
rest_text d =
    if d.all_events == 0 then row_text d 1 (codes "d") (codes "none")
    else if nat_lt (length d.events) d.all_events then more_text d
    else []

abbrev pub events_text : Drawn → List ℕ
events_text d = row_text d 0 (codes "t") (codes "faults and births") ++ flat_map (event_text d) (range_with_len 0 (length d.events)) ++ rest_text d

-- ## the whole

unfoldable pub drawing_text : Drawn → List ℕ
drawing_text d = opening_text d ++ look_text ++ head_text d ++ axis_text d ++ outside_text d ++ flat_map (lane_text d) (range_with_len 0 (tasks d)) ++ arrows_text d ++ events_text d ++ codes "</svg>\n"
