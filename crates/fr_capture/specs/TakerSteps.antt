-- The receivers and their words step by step, as the code goes. The proofs show that they agree with `Takers`.
use Rattle.std.specs.Prelude.{ℕ, ◌+◌, Bool, true, false, List, [], ◌∷◌, ◌++◌, Option, Some, None}
use Rattle.fr_capture.specs.declared.takers.Taker.{Taker}
use Rattle.fr_capture.specs.Takers.{taker_if}
use Rattle.fr_capture.specs.TakingSteps.{queue_takes_by, takes_by}
use Rattle.fr_slots.specs.declared.channel.Channel.{Channel}
use Rattle.fr_slots.specs.declared.plan.Buffer.{Buffer}
use Rattle.fr_slots.specs.Plans.{Plan}
use Rattle.fr_slots.specs.Windows.{Opportunity}

-- the buffers that store the frame, from this number on
abbrev pub buffers_by : Opportunity → Bool → Bool → Channel → Option ℕ → ℕ → List Buffer → List Taker
buffers_by w a b channel which number [] = []
buffers_by w a b channel which number (line ∷ lines) =
    taker_if (takes_by w a b channel line) which (Some number) ++ buffers_by w a b channel which (number + 1) lines

-- the buffers, and then the receive FIFO
abbrev pub takers_by : Plan → Opportunity → Bool → Bool → Channel → Option ℕ → List Taker
takers_by plan w a b channel node =
    buffers_by w a b channel node 0 plan.buffers ++ taker_if (queue_takes_by plan w a b channel plan.queue) node None

abbrev pub is_any : List Taker → Bool
is_any [] = false
is_any (t ∷ ts) = true
