-- The front of a picture: its size, its style, the heading, the segments of the cycle, the numbers of the static slots,
-- and the names of the channels' rows (project-defined).
use Rattle.std.specs.Prelude.{ℕ, ◌+◌, ◌*◌, ◌/◌, ◌%◌, ◌==◌, nat_lt, nat_le, Bool, ◌||◌, min, List, [], ◌∷◌, ◌++◌, codes}
use Rattle.std.specs.Prelude.{length, if◌then◌else◌}
use Rattle.std.specs.Fmt.{decimal}
use Rattle.std.specs.List.{flat_map, range_with_len}
use Rattle.fr_picture.specs.Owners.{start_of, end_of}
use Rattle.fr_picture.specs.Places.{across, extent, row_of}
use Rattle.fr_schedule.specs.Descriptions.{Description}
use Rattle.fr_slots.specs.declared.channel.Channel.TheVariants.{A, B}
use Rattle.fr_slots.specs.Parameters.{Parameters}
use Rattle.fr_svg.specs.Elements.{group_end, group_front, picture_front, placed_front, placed_text, rect_text, text_end}
use Rattle.fr_svg.specs.Styles.{colour_of, text_rule}
use Rattle.fr_timing.specs.Segments.{cycle_end, dynamic_start, idle_start, symbol_start}

-- ---- the style

-- boxes of this node, and the stripes of this number, have this colour
unfoldable pub filled_rule : ℕ → List ℕ → List ℕ
filled_rule number colour =
    codes ".n" ++ (decimal number ++ (codes " rect,.s" ++ (decimal number ++ (codes "{fill:"
    ++ (colour ++ codes "}\n")))))

-- boxes of this node have the stripes of this number
unfoldable pub striped_rule : ℕ → ℕ → List ℕ
striped_rule node number =
    codes ".n" ++ (decimal node ++ (codes " rect{fill:url(#p" ++ (decimal number ++ codes ")}\n")))

-- nodes 0 to 7 have the colours, and nodes 8 to 15 the same ones with stripes
unfoldable pub low_rule : ℕ → List ℕ
low_rule number = filled_rule number (colour_of number)

unfoldable pub high_rule : ℕ → List ℕ
high_rule number = striped_rule (number + 8) number

unfoldable pub first_rules : List ℕ
first_rules =
    codes ".name text{text-anchor:end}\n"
    ++ codes ".head text{font-size:170px;text-anchor:start}\n"
    ++ codes "rect{stroke:#fff}\n"
    ++ codes ".page rect,.stripe{stroke:none}\n"
    ++ codes ".page rect{fill:#fff}\n"
    ++ codes ".free rect{fill:#eee}\n"
    ++ codes ".static rect{fill:#d9d9d9}\n"
    ++ codes ".dynamic rect{fill:#ececec}\n"
    ++ codes ".symbol rect{fill:#c4c4c4}\n"
    ++ codes ".idle rect{fill:#f6f6f6;stroke:#bbb}\n"

unfoldable pub last_rules : List ℕ
last_rules =
    codes ".never rect{fill-opacity:.25;stroke:#000;stroke-dasharray:40}\n"
    ++ codes ".axis text{font-size:90px}\n"
    ++ codes ".range rect{stroke:none}\n"
    ++ codes "</style>\n"

unfoldable pub style_text : List ℕ
style_text =
    codes "<style>\n" ++ text_rule 110 24 ++ first_rules ++ flat_map low_rule (range_with_len 0 8)
    ++ flat_map high_rule (range_with_len 0 8) ++ last_rules

-- the gap between boxes, smaller if static slots are short
unfoldable pub gap_rule : ℕ → List ℕ
gap_rule gap = codes "<style>rect{stroke-width:" ++ (decimal gap ++ codes "px}</style>\n")

unfoldable pub gap_of : Parameters → ℕ
gap_of p = min (extent p 0 p.static_mt / 12) 6

unfoldable pub stripe_front : ℕ → List ℕ
stripe_front number =
    codes "<pattern id='p" ++ (decimal number ++ codes "' width='60' height='60' patternUnits='userSpaceOnUse'>")

unfoldable pub stripe_colour : ℕ → List ℕ
stripe_colour number = codes "<path class='s" ++ (decimal number ++ codes "' d='M0 0h60v60h-60z'/>")

unfoldable pub stripe_lines : List ℕ
stripe_lines =
    codes "<path class='stripe' fill='#fff' d='M0 60L60 0H30L0 30zM60 60V30L30 60z'/>" ++ codes "</pattern>\n"

-- a filling of this colour with white stripes
unfoldable pub stripe_text : ℕ → List ℕ
stripe_text number = stripe_front number ++ stripe_colour number ++ stripe_lines

unfoldable pub stripes_text : List ℕ
stripes_text = codes "<defs>\n" ++ flat_map stripe_text (range_with_len 0 8) ++ codes "</defs>\n"

-- ---- the page and its heading

unfoldable pub title_line : ℕ → List ℕ
title_line cycle = codes "<title>Schedule of cycle " ++ (decimal cycle ++ codes "</title>\n")

unfoldable pub paper_front : ℕ → List ℕ
paper_front cycle = codes "<g class='page'><title>Schedule of cycle " ++ (decimal cycle ++ codes "</title>")

-- a white page
unfoldable pub paper_text : ℕ → ℕ → List ℕ
paper_text cycle height = paper_front cycle ++ rect_text 0 0 11600 height ++ group_end

unfoldable pub head_front : ℕ → List ℕ
head_front cycle = codes "<g class='head'><title>cycle " ++ (decimal cycle ++ codes "</title>")

abbrev pub nodes_word : ℕ → List ℕ
nodes_word nodes = if nodes == 1 then codes "node" else codes "nodes"

unfoldable pub head_words : ℕ → ℕ → ℕ → List ℕ → List ℕ
head_words cycle macroticks nodes word =
    codes "Cycle " ++ (decimal cycle ++ (codes ", " ++ (decimal macroticks ++ (codes " macroticks, " ++ (decimal nodes
    ++ (codes " " ++ word))))))

unfoldable pub heading_text : ℕ → ℕ → ℕ → List ℕ
heading_text cycle macroticks nodes =
    head_front cycle ++ placed_front 1400 260 ++ head_words cycle macroticks nodes (nodes_word nodes) ++ text_end
    ++ group_end

-- there are two rows of guardians for each node
abbrev pub height_of : ℕ → ℕ
height_of nodes = 2300 + 360 * nodes + 160

unfoldable pub opening_text : Parameters → ℕ → ℕ → List ℕ
opening_text p cycle height =
    picture_front 1160 (height / 10) 11600 height ++ title_line cycle ++ style_text ++ gap_rule (gap_of p)
    ++ stripes_text

unfoldable pub head_text : Parameters → ℕ → ℕ → List ℕ
head_text p cycle nodes =
    opening_text p cycle (height_of nodes) ++ paper_text cycle (height_of nodes)
    ++ heading_text cycle p.cycle_mt nodes

-- ---- the segments

unfoldable pub segment_front : List ℕ → List ℕ → ℕ → ℕ → List ℕ
segment_front class name start end =
    codes "<g class='" ++ (class ++ (codes "'><title>" ++ (name ++ (codes ": macroticks " ++ (decimal start
    ++ (codes " to " ++ (decimal end ++ codes "</title>")))))))

-- the name of a segment, if its box has room for it
unfoldable pub label_text : ℕ → ℕ → List ℕ → List ℕ
label_text left room name =
    if nat_lt (room / 65) (length name) then [] else placed_text (left + room / 2) 790 name

unfoldable pub segment_box : ℕ → ℕ → List ℕ → List ℕ
segment_box left room name = rect_text left 620 room 260 ++ label_text left room name

-- a segment of the cycle with its name, if it has any macroticks
unfoldable pub segment_text : Parameters → List ℕ → List ℕ → ℕ → ℕ → List ℕ
segment_text p class name start end =
    if nat_lt start end then
    segment_front class name start end ++ segment_box (across p start) (extent p start end) name ++ group_end
    else []

unfoldable pub segments_text : Parameters → List ℕ
segments_text p =
    segment_text p (codes "static") (codes "static segment") 0 (dynamic_start p)
    ++ segment_text p (codes "dynamic") (codes "dynamic segment") (dynamic_start p) (symbol_start p)
    ++ segment_text p (codes "symbol") (codes "symbol window") (symbol_start p) (idle_start p)
    ++ segment_text p (codes "idle") (codes "network idle time") (idle_start p) (cycle_end p)

-- ---- the macroticks at which the segments begin

unfoldable pub tick_front : ℕ → List ℕ
tick_front macrotick = codes "<g><title>macrotick " ++ (decimal macrotick ++ codes "</title>")

-- the number of a macrotick at its place, unless it would cover the number before it
unfoldable pub tick_text : ℕ → ℕ → ℕ → List ℕ
tick_text left macrotick from =
    if nat_lt left from then [] else tick_front macrotick ++ placed_text left 560 (decimal macrotick) ++ group_end

-- the first place after it
unfoldable pub tick_end : ℕ → ℕ → ℕ
tick_end left from = if nat_lt left from then from else left + 400

unfoldable pub ticks_text : Parameters → ℕ → List ℕ → List ℕ
ticks_text p from [] = []
ticks_text p from (macrotick ∷ macroticks) =
    tick_text (across p macrotick) macrotick from
    ++ ticks_text p (tick_end (across p macrotick) from) macroticks

abbrev pub starts_of : Parameters → List ℕ
starts_of p = 0 ∷ dynamic_start p ∷ symbol_start p ∷ idle_start p ∷ cycle_end p ∷ []

-- ---- the numbers of the static slots

abbrev pub has_room : ℕ → ℕ → Bool
has_room room step = nat_le 220 (room * step)

-- of so many static slots the number of one is written, so that these numbers have room
unfoldable pub axis_step : ℕ → ℕ
axis_step room =
    if has_room room 1 then 1
    else if has_room room 2 then 2
    else if has_room room 5 then 5
    else if has_room room 10 then 10
    else if has_room room 20 then 20
    else if has_room room 50 then 50
    else if has_room room 100 then 100
    else if has_room room 200 then 200
    else if has_room room 500 then 500
    else 1000

unfoldable pub middle_of : Parameters → ℕ → ℕ
middle_of p slot = across p (start_of p slot) + extent p (start_of p slot) (end_of p slot) / 2

-- the number of a static slot above its box
unfoldable pub axis_number : Parameters → ℕ → ℕ → List ℕ
axis_number p step slot =
    if slot == 1 || slot % step == 0 then placed_text (middle_of p slot) 975 (decimal slot) else []

unfoldable pub axis_numbers : Parameters → ℕ → List ℕ
axis_numbers p step = flat_map (axis_number p step) (range_with_len 1 p.static_slots)

unfoldable pub axis_text : Parameters → List ℕ
axis_text p =
    group_front (codes "axis") (codes "static slots") ++ axis_numbers p (axis_step (extent p 0 p.static_mt))
    ++ group_end

-- ---- the names of rows

-- the name of a row with its middle at this distance from the top
unfoldable pub name_text : ℕ → List ℕ → List ℕ
name_text top name = group_front (codes "name") name ++ placed_text 1320 (top + 40) name ++ group_end

unfoldable pub names_text : List ℕ
names_text = name_text (row_of A + 210) (codes "channel A") ++ name_text (row_of B + 210) (codes "channel B")

-- ---- the part before the static slots

unfoldable pub front_text : Description → ℕ → List ℕ
front_text d cycle =
    head_text d.params cycle (length d.plans) ++ segments_text d.params ++ ticks_text d.params 0 (starts_of d.params)
    ++ axis_text d.params ++ names_text
