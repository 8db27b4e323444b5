-- A worked run: the contents of a receive buffer at the ends of its cycles, and the expectations that it missed.
use Rattle.std.proofs.Common.{◌≡◌, ℕ, ◌+◌, ◌*◌, false, List, [], ◌∷◌, ◌++◌, Option, Some, None, refl}
use Rattle.std.specs.Fmt.{digits}
use Rattle.std.specs.Prelude.{codes}
use Rattle.fr_expecting.specs.declared.expectation.Expectation.{Expectation}
use Rattle.fr_expecting.specs.declared.missed.Found.{Found}
use Rattle.fr_expecting.specs.declared.missed.Found.TheVariants.{NoBuffer, Nothing as Empty, Data as Holds}
use Rattle.fr_expecting.specs.declared.missed.Missed.{Missed}
use Rattle.fr_expecting.specs.Expected.{missed_by, through}
use Rattle.fr_expecting.specs.MissedText.{expected_text, missed_text}
use Rattle.fr_frame.specs.Bits.{bits_of, number_of}
use Rattle.fr_frame.specs.Crc.{xor_front, divide_once, divide}
use Rattle.fr_frame.specs.Decoding.{decoded}
use Rattle.fr_interface.specs.State.{State}
use Rattle.fr_journal.specs.declared.entry.Entry.TheVariants.{Read, Fetch, Observe}
use Rattle.fr_journal.specs.declared.entry.Offered.TheVariants.{Nothing}
use Rattle.fr_journal.specs.Forms.{Entry}
use Rattle.fr_runs.specs.declared.cycles.RunCycles.{RunCycles}
use Rattle.fr_runs.specs.declared.cycles.RunCycles.TheVariants.{Every, Only, Span}
use Rattle.fr_slots.specs.declared.channel.Channels.TheVariants.{Both}
use Rattle.fr_slots.specs.declared.plan.Buffer.{Buffer}
use Rattle.fr_slots.specs.declared.plan.Mode.{Mode}
use Rattle.fr_slots.specs.declared.plan.Mode.TheVariants.{Event, Receive}
use Rattle.fr_slots.specs.History.{last_after}
use Rattle.fr_slots.specs.Parameters.{Parameters}
use Rattle.fr_slots.specs.Plans.{Plan, empty_plan}
use Rattle.fr_slots.specs.Windows.{static_window}
use Rattle.fr_status.specs.declared.seen.Seen.TheVariants.{Silence, Bytes}
use Rattle.fr_status.specs.Forms.{Seen}
use Rattle.fr_status.specs.Status.{frame_in}

abbrev one_word : Parameters
one_word = record {
  static_slots = 3;
  minislots = 4;
  static_words = 1;
  static_mt = 20;
  minislot_mt = 5;
  symbol_mt = 0;
  nit_mt = 10;
  cycle_mt = 90;
  idle = 0;
  words_per_minislot = 5;
}

abbrev buffer_of : Mode → ℕ → Buffer
buffer_of mode slot = record {
  mode = mode;
  filter = record { slot = slot; channels = Both; cycles = record { base = 0; repetition = 1 } };
  words = None;
  preamble = false;
}

-- buffer 0 receives slot 2, and buffer 1 transmits
abbrev receiver : Plan
receiver = record (empty_plan 1 0 0 8 16) { buffers = buffer_of Receive 2 ∷ buffer_of Event 3 ∷ [] }

abbrev seen_bytes : List ℕ → Seen
seen_bytes bytes = Bytes (record { items = bytes })

-- slots 1 and 2 of a cycle
abbrev cycle_of : ℕ → Seen → List Entry
cycle_of cycle seen =
    Fetch (static_window (2 * cycle) cycle 1) Nothing Nothing
    ∷ Observe (2 * cycle) Silence Silence
    ∷ Fetch (static_window (2 * cycle + 1) cycle 2) Nothing Nothing
    ∷ Observe (2 * cycle + 1) seen Silence
    ∷ []

-- nothing in cycle 0, the payload 0002 in cycle 1 and 0003 in cycle 2; a task reads before the first window
abbrev two_cycles : List Entry
two_cycles = Read 0 0 None ∷ cycle_of 0 Silence ++ cycle_of 1 (seen_bytes
    (0x20 ∷ 0x02 ∷ 0x03 ∷ 0xc1 ∷ 0x41 ∷ 0x00 ∷ 0x02 ∷ 0x3c ∷ 0xea ∷ 0x0c ∷ []))

abbrev entries : List Entry
entries = two_cycles ++ cycle_of 2 (seen_bytes
    (0x20 ∷ 0x02 ∷ 0x03 ∷ 0xc1 ∷ 0x42 ∷ 0x00 ∷ 0x03 ∷ 0x7a ∷ 0x36 ∷ 0x3b ∷ []))

pub ends : (through 0 entries ≡ Read 0 0 None ∷ []) × (through 1 entries ≡ Read 0 0 None ∷ cycle_of 0 Silence)
    × (through 2 entries ≡ two_cycles) × (through 3 entries ≡ entries) × (through 4 entries ≡ entries)
unfolding through
ends = (refl, refl, refl, refl, refl)

abbrev node : State
node = record { params = one_word; plan = receiver; entries = entries }

abbrev expect : ℕ → ℕ → RunCycles → ℕ → Option (List ℕ) → Expectation
expect line node cycles buffer payload =
    record { line = line; node = node; cycles = cycles; buffer = buffer; payload = payload }

abbrev miss : Expectation → ℕ → Found → ℕ → Missed
miss x cycle found count = record {
  line = x.line;
  node = x.node;
  buffer = x.buffer;
  wanted = x.payload;
  cycle = cycle;
  found = found;
  count = count;
}

abbrev met : List Expectation
met = expect 2 0 (Only 0) 0 None ∷ expect 3 0 (Only 1) 0 (Some (0 ∷ 2 ∷ []))
    ∷ expect 4 0 (Span 2 3 1) 0 (Some (0 ∷ 3 ∷ [])) ∷ expect 5 0 (Only 9) 0 None ∷ []

abbrev in_each : Expectation
in_each = expect 6 0 Every 0 (Some (0 ∷ 2 ∷ []))

abbrev if_empty : Expectation
if_empty = expect 7 0 (Span 1 3 1) 0 None

abbrev of_transmitter : Expectation
of_transmitter = expect 8 0 (Only 2) 1 None

abbrev of_other_node : Expectation
of_other_node = expect 9 1 Every 0 None

-- In a run of four cycles the buffer holds nothing, 0002, 0003 and 0003 at their ends. A cycle that the run doesn't
-- have misses nothing.
pub judged : missed_by 4 (node ∷ []) (met ++ in_each ∷ if_empty ∷ of_transmitter ∷ of_other_node ∷ [])
    ≡ miss in_each 0 Empty 3 ∷ miss if_empty 1 (Holds (0 ∷ 2 ∷ [])) 3 ∷ miss of_transmitter 2 NoBuffer 1
    ∷ miss of_other_node 0 NoBuffer 4 ∷ []
unfolding through last_after frame_in decoded bits_of number_of xor_front divide_once divide
judged = refl

-- the other cycles that missed it are counted beside the first
pub texts : (missed_text (miss of_transmitter 2 NoBuffer 1)
    ≡ codes "line 8: node 0 buffer 1 at the end of cycle 2: expected nothing, found no receive buffer")
    × (missed_text (miss of_other_node 0 NoBuffer 2)
    ≡ codes
    "line 9: node 1 buffer 0 at the end of cycle 0: expected nothing, found no receive buffer (and in 1 other cycle)")
    × (missed_text (miss of_other_node 12 NoBuffer 5)
    ≡ codes
    "line 9: node 1 buffer 0 at the end of cycle 12: expected nothing, found no receive buffer (and in 4 other cycles)")
unfolding expected_text digits
texts = (refl, refl, refl)
