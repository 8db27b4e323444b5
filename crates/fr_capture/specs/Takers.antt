-- The receivers of a frame: the receive buffers and the receive FIFO of a node that observed it (chapter 9; the
-- receive FIFO, and channel A before B, are project-defined). Where several nodes receive it, each receiver has its
-- node.
use Rattle.std.specs.Prelude.{ℕ, ◌+◌, Bool, true, false, List, [], ◌∷◌, ◌++◌, codes, Option, Some, None, if◌then◌else◌}
use Rattle.std.specs.Fmt.{decimal}
use Rattle.fr_capture.specs.declared.takers.Taker.{Taker}
use Rattle.fr_capture.specs.Taking.{buffer_takes, queue_takes}
use Rattle.fr_journal.specs.Counts.{seen_on}
use Rattle.fr_lines.specs.Parts.{absent}
use Rattle.fr_slots.specs.declared.channel.Channel.{Channel}
use Rattle.fr_slots.specs.declared.plan.Buffer.{Buffer}
use Rattle.fr_slots.specs.Parameters.{Parameters}
use Rattle.fr_slots.specs.Plans.{Plan}
use Rattle.fr_slots.specs.Windows.{Opportunity}
use Rattle.fr_status.specs.Forms.{Seen}

-- ---- all receivers

abbrev pub taker_if : Bool → Option ℕ → Option ℕ → List Taker
taker_if takes node buffer = if takes then record { node = node; buffer = buffer } ∷ [] else []

-- the buffers from this number on
abbrev pub buffers_from : Parameters → Opportunity → Seen → Seen → Channel → Option ℕ → ℕ → List Buffer → List Taker
buffers_from p w a b channel which number [] = []
buffers_from p w a b channel which number (line ∷ lines) =
    taker_if (buffer_takes p w a b channel line) which (Some number)
    ++ buffers_from p w a b channel which (number + 1) lines

-- of the observations in the window on channels A and B, the buffers that store the frame of one of them, and then the
-- receive FIFO
abbrev pub takers_of : Parameters → Plan → Opportunity → Seen → Seen → Channel → Option ℕ → List Taker
takers_of p plan w a b channel node =
    buffers_from p w a b channel node 0 plan.buffers
    ++ taker_if (queue_takes p plan w channel (seen_on channel a b) plan.queue) node None

-- ---- words

abbrev pub place_word : Option ℕ → Option ℕ → List ℕ
place_word None None = codes "queue"
place_word None (Some buffer) = codes "b" ++ decimal buffer
place_word (Some node) None = decimal node ++ codes ":queue"
place_word (Some node) (Some buffer) = decimal node ++ codes ":b" ++ decimal buffer

abbrev pub taker_word : Taker → List ℕ
taker_word t = place_word t.node t.buffer

-- each after a comma, except the first if none was before it
unfoldable pub after_commas : Bool → List Taker → List ℕ
after_commas any [] = []
after_commas any (t ∷ ts) = (if any then codes "," else []) ++ taker_word t ++ after_commas true ts

abbrev pub takers_word : List Taker → List ℕ
takers_word [] = absent
takers_word (t ∷ ts) = after_commas false (t ∷ ts)
