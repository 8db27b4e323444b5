-- The rows of the guardians of a picture: for each node and channel a row with its name, and in it an element for each
-- interval in which the channel is open to the node in the cycle.
use Rattle.std.specs.Prelude.{◌≡◌, ℕ, zero, suc, ◌+◌, ◌*◌, List, [], ◌++◌, codes}
use Rattle.std.specs.Fmt.{decimal}
use Rattle.std.specs.List.{flat_map}
use Rattle.fr_guardian.specs.Guarding.{IsOpenMacrotick}
use Rattle.fr_guardian.specs.Intervals.{Span, AreMaximalIntervals}
use Rattle.fr_picture.specs.Places.{across, extent}
use Rattle.fr_schedule.specs.Descriptions.{Description}
use Rattle.fr_slots.specs.Admission.{letter_of}
use Rattle.fr_slots.specs.declared.channel.Channel.{Channel}
use Rattle.fr_slots.specs.declared.channel.Channel.TheVariants.{A, B}
use Rattle.fr_slots.specs.Parameters.{Parameters}
use Rattle.fr_svg.specs.Elements.{group_end, placed_front, rect_text, text_end}

-- the distance of a row from the top; in each node that of channel A stands above that of channel B
abbrev pub guard_row : ℕ → Channel → ℕ
guard_row node A = 2300 + 360 * node
guard_row node B = 2300 + 360 * node + 180

-- ---- the name of a row

unfoldable pub guard_front : ℕ → Channel → List ℕ
guard_front node channel =
    codes "<g class='name'><title>node " ++ (decimal node ++ (codes " " ++ (letter_of channel ++ codes "</title>")))

unfoldable pub guard_words : ℕ → Channel → List ℕ
guard_words node channel = codes "node " ++ (decimal node ++ (codes " " ++ letter_of channel))

unfoldable pub guard_name : ℕ → ℕ → Channel → List ℕ
guard_name top node channel =
    guard_front node channel ++ placed_front 1320 (top + 115) ++ guard_words node channel ++ text_end ++ group_end

-- ---- the open intervals

unfoldable pub open_front : ℕ → Channel → ℕ → ℕ → List ℕ
open_front node channel start end =
    codes "<g class='open n" ++ (decimal node ++ (codes "'><title>node " ++ (decimal node ++ (codes " on "
    ++ (letter_of channel ++ (codes ": open from " ++ (decimal start ++ (codes " to " ++ (decimal end
    ++ codes "</title>")))))))))

unfoldable pub open_text : Parameters → ℕ → ℕ → Channel → Span → List ℕ
open_text p top node channel span =
    open_front node channel span.0 span.1 ++ rect_text (across p span.0) top (extent p span.0 span.1) 150 ++ group_end

unfoldable pub opens_text : Parameters → ℕ → ℕ → Channel → List Span → List ℕ
opens_text p top node channel spans = flat_map (open_text p top node channel) spans

-- ---- the rows

abbrev pub row_text : Parameters → ℕ → ℕ → Channel → List Span → List ℕ
row_text p top node channel spans = guard_name top node channel ++ opens_text p top node channel spans

-- the row of a node and a channel has exactly the intervals in which the channel is open to the node in the cycle
pub record IsGuardRow (d : Description) (cycle node : ℕ) (channel : Channel) (text : List ℕ) : Type 0 where
  pub spans : List Span
  pub maximal : AreMaximalIntervals (IsOpenMacrotick d node cycle channel) spans
  pub text_is : text ≡ row_text d.params (guard_row node channel) node channel spans

-- the rows of this number of nodes, from the first on
abbrev pub AreGuardRows : Description → ℕ → ℕ → List ℕ → Type 0
AreGuardRows d cycle zero text = text ≡ []
AreGuardRows d cycle (suc node) text =
    (before : List ℕ) × (a : List ℕ) × (b : List ℕ) × AreGuardRows d cycle node before
    × IsGuardRow d cycle node A a × IsGuardRow d cycle node B b × (text ≡ before ++ a ++ b)
