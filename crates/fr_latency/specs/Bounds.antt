-- A bound on the starts of slots: the longest row of each slot before.
use Rattle.std.specs.Prelude.{ℕ, suc, zero, ◌+◌, max, List, if◌then◌else◌}
use Rattle.std.specs.List.{fold}
use Rattle.fr_slots.specs.declared.channel.Channel.{Channel}
use Rattle.fr_slots.specs.declared.plan.Buffer.{Buffer}
use Rattle.fr_slots.specs.Faults.{sends_at}
use Rattle.fr_slots.specs.Parameters.{Parameters}
use Rattle.fr_slots.specs.Plans.{Plan}
use Rattle.fr_schedule.specs.Descriptions.{Description}
use Rattle.fr_latency.specs.Openings.{frame_length, slot_after}

-- the greatest value, which is at least this number
abbrev pub longest_of : {X : Type 0} → (X → ℕ) → ℕ → List X → ℕ
longest_of value least xs = fold (λ most x. max most (value x)) least xs

-- the minislots of the slot with its longest frame in the cycle, or one minislot
abbrev pub row_of_buffer : Parameters → ℕ → Channel → ℕ → Buffer → ℕ
row_of_buffer p slot channel cycle b = if sends_at slot channel cycle b then frame_length p b else 1

abbrev pub row_of_plan : Parameters → ℕ → Channel → ℕ → Plan → ℕ
row_of_plan p slot channel cycle plan = longest_of (row_of_buffer p slot channel cycle) 1 plan.buffers

abbrev pub longest_row : Description → Channel → ℕ → ℕ → ℕ
longest_row d channel cycle slot = longest_of (row_of_plan d.params slot channel cycle) 1 d.plans

-- the minislot after the longest rows of so many dynamic slots
unfoldable pub after_longest : Description → Channel → ℕ → ℕ → ℕ
after_longest d channel cycle zero = 1
after_longest d channel cycle (suc earlier) =
    after_longest d channel cycle earlier + longest_row d channel cycle (slot_after d.params earlier)
