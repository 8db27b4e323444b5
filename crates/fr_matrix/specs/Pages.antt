-- The parts of a matrix around its cells: its front with the style and the heading, the numbers of its rows and
-- columns, and the key (project-defined).
use Rattle.std.specs.Prelude.{ℕ, ◌+◌, ◌-◌, ◌*◌, ◌==◌, nat_lt, nat_le, max, min, Bool, ◌&&◌, List, [], ◌++◌, codes}
use Rattle.std.specs.Prelude.{Option, Some, None, if◌then◌else◌}
use Rattle.std.specs.Fmt.{decimal}
use Rattle.std.specs.List.{flat_map, range_with_len}
use Rattle.fr_matrix.specs.declared.grid.Grid.{Grid}
use Rattle.fr_matrix.specs.declared.view.View.{View}
use Rattle.fr_matrix.specs.Places.{across, down}
use Rattle.fr_slots.specs.Admission.{letter_of}
use Rattle.fr_slots.specs.declared.channel.Channel.{Channel}
use Rattle.fr_svg.specs.Elements.{group_end, group_front, moved_front, picture_end, picture_front, placed_front}
use Rattle.fr_svg.specs.Elements.{placed_text, plain_front, rect_text, text_end}
use Rattle.fr_svg.specs.Styles.{colour_of, text_rule}

-- ---- the style

-- the cells of this sender have this colour
unfoldable pub filled_rule : ℕ → List ℕ → List ℕ
filled_rule node colour = codes ".n" ++ (decimal node ++ (codes " rect{fill:" ++ (colour ++ codes "}\n")))

-- and broken lines around
unfoldable pub broken_rule : ℕ → List ℕ → List ℕ
broken_rule node colour =
    codes ".n" ++ (decimal node ++ (codes " rect{fill:" ++ (colour ++ codes ";stroke:#000;stroke-dasharray:2}\n")))

-- nodes 0 to 7 have the colours, and nodes 8 to 15 the same ones with broken lines around
unfoldable pub low_rule : ℕ → List ℕ
low_rule number = filled_rule number (colour_of number)

unfoldable pub high_rule : ℕ → List ℕ
high_rule number = broken_rule (number + 8) (colour_of number)

unfoldable pub first_rules : List ℕ
first_rules =
    codes ".head text{font-size:14px;text-anchor:start}\n"
    ++ codes ".name text{text-anchor:end}\n"
    ++ codes ".legend text{font-size:11px;text-anchor:start}\n"
    ++ codes ".slot text{font-size:7px}\n"
    ++ codes "rect{stroke:#bbb;stroke-width:.5px}\n"
    ++ codes ".page rect{fill:#fff;stroke:none}\n"
    ++ codes ".silence rect,.broken rect{fill:#fff}\n"

-- a colour is pale where a frame has no data
unfoldable pub last_rules : List ℕ
last_rules =
    codes ".null rect{fill-opacity:.3}\n"
    ++ codes ".broken rect,.overrun rect{fill-opacity:.6;stroke:#d00;stroke-width:1.5px}\n"
    ++ codes ".collision rect{fill:#d00}\n"
    ++ codes ".blocked rect,.lost rect,.turned rect{stroke:#000;stroke-width:1.5px}\n"
    ++ codes "</style>\n"

unfoldable pub style_text : List ℕ
style_text =
    codes "<style>\n" ++ text_rule 8 2 ++ first_rules ++ flat_map low_rule (range_with_len 0 8)
    ++ flat_map high_rule (range_with_len 0 8) ++ last_rules

-- ---- the heading

unfoldable pub subject_text : Channel → Option ℕ → List ℕ
subject_text channel (Some node) =
    codes "What node " ++ (decimal node ++ (codes " saw on channel " ++ letter_of channel))
subject_text channel None = codes "What channel " ++ (letter_of channel ++ codes " carried")

unfoldable pub drawn_text : ℕ → ℕ → ℕ → List ℕ
drawn_text first last cycles =
    codes ": cycles " ++ (decimal first ++ (codes " to " ++ (decimal last ++ (codes " of " ++ decimal cycles))))

unfoldable pub none_text : ℕ → List ℕ
none_text cycles = codes ": none of the " ++ (decimal cycles ++ codes " cycles")

-- the first and the last cycle that are drawn
abbrev pub range_text : ℕ → ℕ → ℕ → List ℕ
range_text from cycles rows =
    if rows == 0 then none_text cycles else drawn_text from (from + rows - 1) cycles

-- the option that shows the cycles after them
unfoldable pub more_text : ℕ → ℕ → ℕ → List ℕ
more_text from cycles rows =
    if nat_lt (from + rows) cycles then codes "; --from " ++ (decimal (from + rows) ++ codes " shows more") else []

unfoldable pub scope_text : ℕ → ℕ → ℕ → List ℕ
scope_text from cycles rows = range_text from cycles rows ++ more_text from cycles rows

unfoldable pub windows_drawn : ℕ → ℕ → ℕ → List ℕ
windows_drawn first last most =
    codes "Windows " ++ (decimal first ++ (codes " to " ++ (decimal last ++ (codes " of " ++ (decimal most
    ++ codes " in a cycle")))))

unfoldable pub no_windows : ℕ → List ℕ
no_windows most = codes "None of the " ++ (decimal most ++ codes " windows in a cycle")

-- the first and the last window of a cycle that are drawn, of those of the longest one
abbrev pub windows_range : ℕ → ℕ → ℕ → List ℕ
windows_range first most columns =
    if columns == 0 then no_windows most else windows_drawn first (first + columns - 1) most

unfoldable pub next_window : ℕ → List ℕ
next_window next = codes "; --from-window " ++ (decimal next ++ codes " shows more")

-- the option that shows the windows after them
abbrev pub more_windows : ℕ → ℕ → ℕ → List ℕ
more_windows first most columns =
    if nat_lt (first + columns) most then next_window (first + columns) else []

unfoldable pub windows_text : ℕ → ℕ → ℕ → List ℕ
windows_text first most columns = windows_range first most columns ++ more_windows first most columns

unfoldable pub cycles_line : View → ℕ → ℕ → List ℕ
cycles_line v cycles rows =
    placed_front 20 30 ++ subject_text v.channel v.node ++ scope_text v.from cycles rows ++ text_end

unfoldable pub windows_line : ℕ → ℕ → ℕ → List ℕ
windows_line first most columns = placed_front 20 50 ++ windows_text first most columns ++ text_end

unfoldable pub heading_text : View → ℕ → ℕ → ℕ → ℕ → List ℕ
heading_text v cycles rows most columns =
    plain_front (codes "head") ++ cycles_line v cycles rows ++ windows_line v.from_window most columns ++ group_end

-- ---- the page

-- at most 1,600, since each column that is drawn ends at most 1,580 from the left
abbrev pub width_of : Grid → ℕ → ℕ
width_of g columns = max (across g columns) 840 + 20

abbrev pub height_of : ℕ → ℕ
height_of rows = down rows + 150

abbrev pub title_line : Channel → Option ℕ → List ℕ
title_line channel node = codes "<title>" ++ subject_text channel node ++ codes "</title>\n"

-- a white page
abbrev pub paper_text : ℕ → ℕ → List ℕ
paper_text width height = plain_front (codes "page") ++ rect_text 0 0 width height ++ group_end

abbrev pub opening_text : Channel → Option ℕ → ℕ → ℕ → List ℕ
opening_text channel node width height =
    picture_front width height width height ++ title_line channel node ++ style_text ++ paper_text width height

-- ---- the numbers of rows and columns

-- the column of a static slot has the number of the slot
unfoldable pub column_text : Grid → ℕ → List ℕ
column_text g place = placed_text (across g place + 10) 80 (decimal (g.first + place + 1))

-- the columns of static slots among so many
abbrev pub headed_in : Grid → ℕ → ℕ
headed_in g columns = min columns (g.static_slots - g.first)

unfoldable pub column_numbers : Grid → ℕ → List ℕ
column_numbers g headed = flat_map (column_text g) (range_with_len 0 headed)

unfoldable pub columns_text : Grid → ℕ → List ℕ
columns_text g headed = group_front (codes "axis") (codes "static slots") ++ column_numbers g headed ++ group_end

-- there are columns after those of the static slots, and room for a heading over them
abbrev pub names_dynamic : Grid → ℕ → ℕ → Bool
names_dynamic g headed columns =
    nat_lt headed columns && nat_le (across g headed + 100) (width_of g columns)

unfoldable pub dynamic_text : Grid → ℕ → ℕ → List ℕ
dynamic_text g headed columns =
    if names_dynamic g headed columns then
    group_front (codes "legend") (codes "dynamic windows")
    ++ placed_text (across g headed) 80 (codes "dynamic segment") ++ group_end
    else []

-- a row has the number of its cycle of the run
unfoldable pub row_text : ℕ → ℕ → List ℕ
row_text from row = placed_text 60 (down row + 17) (decimal (from + row))

unfoldable pub row_numbers : ℕ → ℕ → List ℕ
row_numbers from rows = flat_map (row_text from) (range_with_len 0 rows)

abbrev pub rows_text : ℕ → ℕ → List ℕ
rows_text from rows = group_front (codes "name") (codes "cycles of the run") ++ row_numbers from rows ++ group_end

-- ---- the key

-- a box with a sign, as a cell has it, and its meaning
unfoldable pub key_box : ℕ → ℕ → ℕ → List ℕ → List ℕ
key_box left top width class = plain_front class ++ rect_text left top width 28

unfoldable pub key_sign : ℕ → ℕ → ℕ → List ℕ → List ℕ
key_sign left top line sign = moved_front left top 10 line ++ sign ++ text_end ++ group_end

unfoldable pub key_meaning : ℕ → ℕ → List ℕ → List ℕ
key_meaning left top meaning = plain_front (codes "legend") ++ placed_text left (top + 18) meaning ++ group_end

abbrev pub key_cell : ℕ → ℕ → ℕ → List ℕ → List ℕ → List ℕ
key_cell left top line class sign = key_box left top 20 class ++ key_sign left top line sign

abbrev pub key_entry : ℕ → ℕ → ℕ → List ℕ → List ℕ → List ℕ → List ℕ
key_entry left top line class sign meaning =
    key_cell left top line class sign ++ key_meaning (left + 24) top meaning

-- the colours of the sixteen nodes
unfoldable pub node_front : ℕ → List ℕ
node_front node = codes "<g class='n" ++ (decimal node ++ codes "'>")

unfoldable pub node_box : ℕ → ℕ → List ℕ
node_box top node = node_front node ++ rect_text (20 + 22 * node) top 20 28

unfoldable pub node_sign : ℕ → ℕ → List ℕ
node_sign top node = moved_front (20 + 22 * node) top 10 17 ++ decimal node ++ text_end ++ group_end

unfoldable pub node_text : ℕ → ℕ → List ℕ
node_text top node = node_box top node ++ node_sign top node

unfoldable pub key_nodes : ℕ → List ℕ
key_nodes top =
    flat_map (node_text top) (range_with_len 0 16)
    ++ key_meaning 376 top (codes "the node whose transmission passed; if several passed, the first")

unfoldable pub key_frames : ℕ → List ℕ
key_frames top =
    key_entry 20 top 17 (codes "data n0") (codes "0") (codes "data frame")
    ++ key_entry 140 top 17 (codes "null n0") (codes "0-") (codes "null frame")
    ++ key_entry 260 top 17 (codes "own n0") (codes "0=") (codes "sent by the observing node")
    ++ key_entry 450 top 17 (codes "broken n0") (codes "0?") (codes "bytes that are no frame")
    ++ key_entry 630 top 17 (codes "overrun n0") (codes "0+") (codes "too long for its slot")

unfoldable pub key_stopped : ℕ → List ℕ
key_stopped top =
    key_entry 20 top 17 (codes "collision n0") (codes "0X") (codes "collision")
    ++ key_entry 140 top 25 (codes "silence blocked") (codes "b") (codes "blocked by a guardian")

unfoldable pub key_faults : ℕ → List ℕ
key_faults top =
    key_entry 310 top 25 (codes "silence lost") (codes "l") (codes "lost by a fault")
    ++ key_entry 450 top 25 (codes "data n0 turned") (codes "t") (codes "a bit flipped by a fault")

unfoldable pub key_others : ℕ → List ℕ
key_others top = key_stopped top ++ key_faults top

unfoldable pub key_narrow : ℕ → ℕ → List ℕ
key_narrow left top =
    key_box left top 3 (codes "silence") ++ group_end
    ++ key_meaning (left + 7) top (codes "dynamic window, empty in all rows")

unfoldable pub key_windows : ℕ → List ℕ
key_windows top =
    key_entry 20 top 17 (codes "silence") (codes "") (codes "nothing passed")
    ++ key_entry 140 top 8 (codes "silence slot") (codes "7") (codes "dynamic window of slot 7")
    ++ key_narrow 330 top
    ++ key_meaning 560 top (codes "The title of each cell lists what was sent.")

unfoldable pub key_text : ℕ → List ℕ
key_text top =
    key_nodes top ++ key_frames (top + 32) ++ key_others (top + 64) ++ key_windows (top + 96)

-- ---- the parts before and after the cells

unfoldable pub page_front : View → Grid → ℕ → ℕ → ℕ → ℕ → List ℕ
page_front v g cycles rows most columns =
    opening_text v.channel v.node (width_of g columns) (height_of rows)
    ++ heading_text v cycles rows most columns
    ++ columns_text g (headed_in g columns) ++ dynamic_text g (headed_in g columns) columns
    ++ rows_text v.from rows

unfoldable pub page_end : ℕ → List ℕ
page_end rows = key_text (down rows + 14) ++ picture_end
