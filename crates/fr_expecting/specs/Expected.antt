-- The contents of receive buffers at the ends of a run's cycles, and the expectations that a run missed
-- (project-defined).
use Rattle.std.specs.Prelude.{ℕ, ◌+◌, ◌-◌, ◌==◌, not, Bool, true, false, ◌&&◌, List, [], ◌∷◌, length, slice_get}
use Rattle.std.specs.Prelude.{Option, Some, None, option_to_list, if◌then◌else◌}
use Rattle.std.specs.List.{filter, flat_map, range_with_len}
use Rattle.std.specs.Str.{bytes_eq}
use Rattle.fr_journal.specs.Cycles.{begins_cycle_at}
use Rattle.fr_expecting.specs.declared.expectation.Expectation.{Expectation}
use Rattle.fr_expecting.specs.declared.missed.Found.{Found}
use Rattle.fr_expecting.specs.declared.missed.Found.TheVariants.{NoBuffer, Nothing, Data}
use Rattle.fr_expecting.specs.declared.missed.Missed.{Missed}
use Rattle.fr_interface.specs.State.{State}
use Rattle.fr_journal.specs.declared.entry.Arrival.{Arrival}
use Rattle.fr_journal.specs.Forms.{Entry}
use Rattle.fr_journal.specs.Held.{held}
use Rattle.fr_runs.specs.Cycles.{names_cycle}
use Rattle.fr_slots.specs.declared.filter.Filter.{Filter}
use Rattle.fr_slots.specs.declared.plan.Buffer.{Buffer}
use Rattle.fr_slots.specs.Plans.{buffer_at, is_receive}

-- ---- the end of a cycle

-- The entries of a journal through so many cycles of the run: those before the entry that begins the next cycle, or all
-- entries if none does. The state at the end of cycle `c` of the run, which is counted from 0, is the one after `c + 1`
-- cycles.
unfoldable pub through : ℕ → List Entry → List Entry
through n [] = []
through n (e ∷ es) =
    if begins_cycle_at e && n == 0 then [] else e ∷ through (if begins_cycle_at e then n - 1 else n) es

-- ---- the content of a buffer

abbrev pub found_of : Option Arrival → Found
found_of None = Nothing
found_of (Some arrival) = Data arrival.frame.payload

-- the filter of a receive buffer
abbrev pub receive_filter : Option Buffer → Option Filter
receive_filter None = None
receive_filter (Some b) = if is_receive b.mode then Some b.filter else None

abbrev pub found_with : State → Option Filter → ℕ → Found
found_with s None cycle = NoBuffer
found_with s (Some filter) cycle = found_of (held s.params filter (through (cycle + 1) s.entries))

-- the content of a node's buffer at the end of a cycle; a node that the cluster doesn't have has no buffer
abbrev pub found_by : ℕ → Option State → ℕ → Found
found_by buffer None cycle = NoBuffer
found_by buffer (Some s) cycle = found_with s (receive_filter (buffer_at s.plan buffer)) cycle

abbrev pub found_in : List State → Expectation → ℕ → Found
found_in states x cycle = found_by x.buffer (slice_get states x.node) cycle

-- ---- the cycles that miss an expectation

-- this is what is wanted: the payload, or an empty buffer
abbrev pub meets : Option (List ℕ) → Found → Bool
meets wanted NoBuffer = false
meets None Nothing = true
meets (Some payload) Nothing = false
meets None (Data found) = false
meets (Some payload) (Data found) = bytes_eq payload found

-- the expectation names the cycle, and the buffer holds something else there or doesn't exist
abbrev pub misses : Expectation → (ℕ → Found) → ℕ → Bool
misses x found cycle = names_cycle x.cycles cycle && not (meets x.payload (found cycle))

-- the cycles of a run of so many cycles that miss it
abbrev pub missing : Expectation → (ℕ → Found) → ℕ → List ℕ
missing x found cycles = filter (misses x found) (range_with_len 0 cycles)

-- ---- a missed expectation

-- the first of these cycles, the content there, and the number of them
abbrev pub missed_at : Expectation → (ℕ → Found) → List ℕ → Option Missed
missed_at x found [] = None
missed_at x found (c ∷ cs) =
    Some record {
      line = x.line;
      node = x.node;
      buffer = x.buffer;
      wanted = x.payload;
      cycle = c;
      found = found c;
      count = length (c ∷ cs);
    }

abbrev pub missed_with : ℕ → Expectation → (ℕ → Found) → Option Missed
missed_with cycles x found = missed_at x found (missing x found cycles)

-- the expectation, if a cycle of the run missed it
abbrev pub missed_of : ℕ → List State → Expectation → List Missed
missed_of cycles states x = option_to_list (missed_with cycles x (found_in states x))

-- the expectations that a run of so many cycles missed, in their order
abbrev pub missed_by : ℕ → List State → List Expectation → List Missed
missed_by cycles states expectations = flat_map (missed_of cycles states) expectations
