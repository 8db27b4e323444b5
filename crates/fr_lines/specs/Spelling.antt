-- The lines of a trace, each as its words. Only the first line and the ownership lines differ between versions.
use Rattle.std.specs.Prelude.{ℕ, List, [], ◌∷◌, ◌++◌, codes, if◌then◌else◌}
use Rattle.std.specs.Fmt.{decimal}
use Rattle.fr_journal.specs.Forms.{Entry}
use Rattle.fr_journal.specs.declared.entry.Entry.TheVariants.{Commit, Withdraw, Read, Pop, Fetch, Observe}
use Rattle.fr_lines.specs.declared.versions.Version.{Version}
use Rattle.fr_lines.specs.declared.versions.Version.TheVariants.{One, Two, Three}
use Rattle.fr_lines.specs.Parts.{flag_word, optional_number, channels_word, from_word, offered_word, seen_word}
use Rattle.fr_lines.specs.Versions.{has_own_cycles}
use Rattle.fr_slots.specs.Admission.{CycleClass}
use Rattle.fr_slots.specs.declared.filter.Filter.{Filter}
use Rattle.fr_slots.specs.declared.plan.Buffer.{Buffer}
use Rattle.fr_slots.specs.declared.plan.Mode.{Mode}
use Rattle.fr_slots.specs.declared.plan.Mode.TheVariants.{Event, State, Receive}
use Rattle.fr_slots.specs.declared.plan.Own.{Own}
use Rattle.fr_slots.specs.declared.plan.Queue.{Queue}
use Rattle.fr_slots.specs.Parameters.{Parameters}
use Rattle.fr_slots.specs.Plans.{Plan}
use Rattle.fr_text.specs.Spaces.{line_of}
use Rattle.fr_text.specs.Spelling.{hex_text}

-- ---- a line of words, with its line feed

abbrev pub line_feed : List ℕ
line_feed = 10 ∷ []

abbrev pub line_text : List (List ℕ) → List ℕ
line_text words = line_of words ++ line_feed

-- ---- the lines without numbers

abbrev pub first_line : Version → List ℕ
first_line One = codes "frtrace 1"
first_line Two = codes "frtrace 2"
first_line Three = codes "frtrace 3"

-- between the plan and the entries
abbrev pub begin_line : List ℕ
begin_line = codes "begin"

abbrev pub end_line : List ℕ
end_line = codes "end"

-- ---- parameters and plan

abbrev pub params_words : Parameters → List (List ℕ)
params_words p =
    codes "params" ∷ decimal p.static_slots ∷ decimal p.minislots ∷ decimal p.static_words ∷ decimal p.static_mt
    ∷ decimal p.minislot_mt
    ∷ decimal p.symbol_mt ∷ decimal p.nit_mt ∷ decimal p.cycle_mt ∷ decimal p.idle ∷ decimal p.words_per_minislot ∷ []

-- the numbers of a plan; its ownership lines, buffers and receive FIFO have lines of their own
abbrev pub node_words : Plan → List (List ℕ)
node_words p = codes "node" ∷ decimal p.tasks ∷ decimal p.latest_a ∷ decimal p.latest_b ∷ decimal p.host_entries
    ∷ decimal p.slot_entries ∷ []

-- the cycles of an ownership, in a version whose line has them
abbrev pub own_cycles_words : Version → CycleClass → List (List ℕ)
own_cycles_words version cycles =
    if has_own_cycles version then decimal cycles.base ∷ decimal cycles.repetition ∷ [] else []

abbrev pub own_words : Version → Own → List (List ℕ)
own_words version o = codes "own" ∷ decimal o.slot ∷ channels_word o.channels ∷ flag_word o.sync ∷ flag_word o.startup
    ∷ own_cycles_words version o.cycles

abbrev pub transmit_words : List ℕ → Buffer → List (List ℕ)
transmit_words mode b =
    codes "tx" ∷ mode ∷ decimal b.filter.slot ∷ channels_word b.filter.channels ∷ decimal b.filter.cycles.base
    ∷ decimal b.filter.cycles.repetition
    ∷ optional_number b.words ∷ flag_word b.preamble ∷ []

abbrev pub receive_words : Filter → List (List ℕ)
receive_words f = codes "rx" ∷ decimal f.slot ∷ channels_word f.channels ∷ decimal f.cycles.base
    ∷ decimal f.cycles.repetition ∷ []

abbrev pub words_of_mode : Mode → Buffer → List (List ℕ)
words_of_mode Event b = transmit_words (codes "event") b
words_of_mode State b = transmit_words (codes "state") b
words_of_mode Receive b = receive_words b.filter

abbrev pub buffer_words : Buffer → List (List ℕ)
buffer_words b = words_of_mode b.mode b

abbrev pub queue_words : Queue → List (List ℕ)
queue_words q =
    codes "queue" ∷ decimal q.capacity ∷ decimal q.first ∷ decimal q.last ∷ channels_word q.channels
    ∷ decimal q.cycles.base ∷ decimal q.cycles.repetition ∷ []

-- ---- entries

abbrev pub entry_words : Entry → List (List ℕ)
entry_words (Commit task buffer payload) = codes "commit" ∷ decimal task ∷ decimal buffer ∷ hex_text payload ∷ []
entry_words (Withdraw task buffer of) = codes "withdraw" ∷ decimal task ∷ decimal buffer ∷ optional_number of ∷ []
entry_words (Read task buffer from) = codes "read" ∷ decimal task ∷ decimal buffer ∷ from_word from ∷ []
entry_words (Pop task from) = codes "pop" ∷ decimal task ∷ from_word from ∷ []
entry_words (Fetch window a b) =
    codes "fetch" ∷ decimal window.number ∷ decimal window.cycle ∷ decimal window.minislot ∷ optional_number window.a
    ∷ optional_number window.b
    ∷ offered_word a ∷ offered_word b ∷ []
entry_words (Observe window a b) = codes "see" ∷ decimal window ∷ seen_word a ∷ seen_word b ∷ []
