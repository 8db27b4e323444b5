-- A matrix, and its cells: for each window of the record in which the channel has a slot, the observation and the
-- transmissions there (project-defined).
use Rattle.std.specs.Prelude.{◌≡◌, ℕ, ◌-◌, ◌≤◌, Bool, List, [], ◌++◌, codes, Option, Some, None, if◌then◌else◌}
use Rattle.std.specs.Fmt.{decimal}
use Rattle.std.specs.List.{flat_map}
use Rattle.fr_bus.specs.declared.outcome.SentFate.{SentFate}
use Rattle.fr_bus.specs.declared.outcome.SentFate.TheVariants.{Passed, Blocked, Muted}
use Rattle.fr_bus.specs.declared.outcome.Sent.{Sent}
use Rattle.fr_bus.specs.Record.{Recorded}
use Rattle.fr_bus.specs.Windows.{cycles_begun}
use Rattle.fr_matrix.specs.declared.cell.Cell.{Cell}
use Rattle.fr_matrix.specs.declared.cell.Shape.{Shape}
use Rattle.fr_matrix.specs.declared.cell.Shape.TheVariants as shape
use Rattle.fr_matrix.specs.declared.grid.Grid.{Grid}
use Rattle.fr_matrix.specs.declared.look.Marks.{Marks}
use Rattle.fr_matrix.specs.declared.view.View.{View}
use Rattle.fr_matrix.specs.Looks.{look_in, look_word, marks_in, sender_in, sign, turned_bit}
use Rattle.fr_matrix.specs.Pages.{page_end, page_front, width_of}
use Rattle.fr_matrix.specs.Places.{across, column_of, columns_in, cycle_of, down, grid_of, is_drawn, is_headed}
use Rattle.fr_matrix.specs.Places.{is_wide, most_drawn, rows_in}
use Rattle.fr_slots.specs.Admission.{is_channel}
use Rattle.fr_slots.specs.declared.channel.Channel.{Channel}
use Rattle.fr_slots.specs.History.{each_after}
use Rattle.fr_slots.specs.Parameters.{Parameters}
use Rattle.fr_slots.specs.Windows.{slot_of}
use Rattle.fr_svg.specs.Elements.{group_end, moved_front, plain_front, rect_text, text_end}
use Rattle.fr_text.specs.Spelling.{hex_text}

-- ---- words

abbrev pub mark_text : Bool → List ℕ → List ℕ
mark_text is_so word = if is_so then word else []

unfoldable pub marks_class : Marks → List ℕ
marks_class m =
    mark_text m.blocked (codes " blocked") ++ mark_text m.lost (codes " lost") ++ mark_text m.turned (codes " turned")

unfoldable pub marks_letters : Marks → List ℕ
marks_letters m = mark_text m.blocked (codes "b") ++ mark_text m.lost (codes "l") ++ mark_text m.turned (codes "t")

abbrev pub sender_class : Option ℕ → List ℕ
sender_class None = []
sender_class (Some node) = codes " n" ++ decimal node

abbrev pub sender_number : Option ℕ → List ℕ
sender_number None = []
sender_number (Some node) = decimal node

unfoldable pub head_text : Cell → List ℕ
head_text c = (codes "<g class='" ++ look_word c.look) ++ sender_class c.sender ++ marks_class c.marks ++ codes "'>"

unfoldable pub title_text : Cell → List ℕ
title_text c =
    codes "<title>cycle " ++ (decimal c.cycle ++ (codes ", slot " ++ (decimal c.slot ++ (codes ", window "
    ++ (decimal c.number ++ (codes ": " ++ look_word c.look))))))

-- ---- transmissions

abbrev pub fate_text : SentFate → List ℕ
fate_text Passed = codes ""
fate_text Blocked = codes ", blocked"
fate_text Muted = codes ", lost"

abbrev pub verb_of : Bool → List ℕ
verb_of is_babble = if is_babble then codes "babbled" else codes "sent"

unfoldable pub sent_text : Sent → List ℕ
sent_text t =
    (codes "; node " ++ (decimal t.node ++ (codes " " ++ (verb_of t.babble ++ codes " "))))
    ++ hex_text t.bytes.items ++ fate_text t.fate

abbrev pub sent_on : Channel → Sent → List ℕ
sent_on channel t = if is_channel t.channel channel then sent_text t else []

abbrev pub turned_text : Option ℕ → List ℕ
turned_text None = []
turned_text (Some bit) = codes "; bit " ++ (decimal bit ++ codes " turned")

-- ---- a cell

abbrev pub box_width : Shape → ℕ
box_width shape.Narrow = 3
box_width shape.Headed = 20
box_width shape.Numbered = 20

-- the number of the slot, in the first of three lines
unfoldable pub slot_text : Cell → List ℕ
slot_text c =
    plain_front (codes "slot") ++ moved_front c.left c.top 10 8 ++ decimal c.slot ++ text_end ++ group_end

unfoldable pub label_text : Cell → List ℕ
label_text c = moved_front c.left c.top 10 17 ++ sender_number c.sender ++ sign c.look ++ text_end

unfoldable pub letters_text : Cell → List ℕ
letters_text c = moved_front c.left c.top 10 25 ++ marks_letters c.marks ++ text_end

unfoldable pub signs_text : Cell → List ℕ
signs_text c = label_text c ++ letters_text c

unfoldable pub numbered_text : Cell → List ℕ
numbered_text c = slot_text c ++ signs_text c

-- the texts in the box of a cell
abbrev pub content_text : Shape → Cell → List ℕ
content_text shape.Narrow c = []
content_text shape.Headed c = signs_text c
content_text shape.Numbered c = numbered_text c

unfoldable pub title_end : List ℕ
title_end = codes "</title>"

abbrev pub front_text : Cell → Channel → List Sent → Option ℕ → List ℕ
front_text c channel sent turned =
    head_text c ++ title_text c ++ flat_map (sent_on channel) sent ++ turned_text turned ++ title_end

abbrev pub cell_text : Cell → Channel → List Sent → Option ℕ → List ℕ
cell_text c channel sent turned =
    front_text c channel sent turned ++ rect_text c.left c.top (box_width c.shape) 28 ++ content_text c.shape c
    ++ group_end

-- ---- the cells

-- the number of a slot stands above the column of a static one, and in the other wide cells
abbrev pub shape_at : Grid → ℕ → Shape
shape_at g place =
    if is_headed g place then shape.Headed else if is_wide g place then shape.Numbered else shape.Narrow

abbrev pub cell_of : Parameters → View → Grid → ℕ → ℕ → ℕ → Recorded → Cell
cell_of p v g cycle column slot r = record {
  left = across g (column - v.from_window);
  top = down (cycle - v.from);
  shape = shape_at g (column - v.from_window);
  cycle = cycle;
  slot = slot;
  number = r.window.number;
  look = look_in p v r;
  sender = sender_in v.channel r.sent;
  marks = marks_in p v.channel r;
}

-- none if the channel has no slot
abbrev pub slot_cell : Parameters → View → Grid → ℕ → ℕ → Recorded → Option ℕ → List ℕ
slot_cell p v g cycle column r None = []
slot_cell p v g cycle column r (Some slot) =
    cell_text (cell_of p v g cycle column slot r) v.channel r.sent (turned_bit p v.channel r)

abbrev pub cell_at : Parameters → View → Grid → ℕ → ℕ → ℕ → Recorded → List ℕ
cell_at p v g columns cycle column r =
    if is_drawn v columns cycle column then slot_cell p v g cycle column r (slot_of r.window v.channel) else []

abbrev pub cell_after : Parameters → View → Grid → ℕ → List Recorded → Recorded → List ℕ
cell_after p v g columns before r = cell_at p v g columns (cycle_of before r) (column_of before r) r

-- the cells of all windows of the record, in order
abbrev pub cells_text : Parameters → View → Grid → ℕ → List Recorded → List ℕ
cells_text p v g columns recorded = each_after (cell_after p v g columns) [] recorded

-- ---- the matrix

-- the whole text with these columns: the front of the page with its style, headings and numbers, then the cells, then
-- the key
abbrev pub text_with : Parameters → View → Grid → ℕ → ℕ → List Recorded → List ℕ
text_with p v g most columns recorded =
    page_front v g (cycles_begun recorded) (rows_in v recorded) most columns
    ++ cells_text p v g columns recorded ++ page_end (rows_in v recorded)

abbrev pub matrix_text : Parameters → View → List Recorded → List ℕ
matrix_text p v recorded =
    text_with p v (grid_of p v recorded) (most_drawn v recorded)
    (columns_in (grid_of p v recorded) (most_drawn v recorded)) recorded

-- the whole text, and the width of the page
pub record IsMatrix (p : Parameters) (v : View) (recorded : List Recorded) (text : List ℕ) : Type 0 where
  pub text_is : text ≡ matrix_text p v recorded
  pub is_small : width_of (grid_of p v recorded)
      (columns_in (grid_of p v recorded) (most_drawn v recorded)) ≤ 1600
