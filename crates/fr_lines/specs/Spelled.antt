-- The values that the lines that are read can spell.
use Rattle.std.specs.Prelude.{◌≡◌, ◌<◌, ℤ, pos, true, List, [], ◌∷◌}
use Rattle.fr_journal.specs.Forms.{Entry}
use Rattle.fr_journal.specs.declared.entry.Entry.TheVariants.{Commit, Withdraw, Read, Pop, Fetch, Observe}
use Rattle.fr_journal.specs.Entries.{IsEntry}
use Rattle.fr_slots.specs.declared.plan.Buffer.{Buffer}
use Rattle.fr_slots.specs.declared.plan.Own.{Own}
use Rattle.fr_slots.specs.declared.plan.Queue.{Queue}
use Rattle.fr_slots.specs.Parameters.{Parameters}
use Rattle.fr_slots.specs.Plans.{Plan, IsBuffer, IsOwn, IsQueue, buffer_fits, empty_plan, own_fits, queue_fits}

-- an entry whose numbers are in range, and whose buffer is one that a plan can have
abbrev pub IsSpelledEntry : Entry → Type 0
IsSpelledEntry (Commit task buffer payload) = IsEntry (Commit task buffer payload) × (buffer < 64)
IsSpelledEntry (Withdraw task buffer of) = IsEntry (Withdraw task buffer of) × (buffer < 64)
IsSpelledEntry (Read task buffer from) = IsEntry (Read task buffer from) × (buffer < 64)
IsSpelledEntry (Pop task from) = IsEntry (Pop task from)
IsSpelledEntry (Fetch window a b) = IsEntry (Fetch window a b)
IsSpelledEntry (Observe window a b) = IsEntry (Observe window a b)

-- an ownership line that a plan can have
pub record IsSpelledOwn (o : Own) : Type 0 where
  pub is : IsOwn o
  pub fits : own_fits o ≡ true

-- a buffer that a plan can have
pub record IsSpelledBuffer (b : Buffer) : Type 0 where
  pub is : IsBuffer b
  pub fits : buffer_fits b ≡ true

-- a receive FIFO that a plan can have
pub record IsSpelledQueue (q : Queue) : Type 0 where
  pub is : IsQueue q
  pub fits : queue_fits q ≡ true

-- the ten numbers, in the order of the keys
abbrev pub parameter_numbers : Parameters → List ℤ
parameter_numbers p =
    pos p.static_slots ∷ pos p.minislots ∷ pos p.static_words ∷ pos p.static_mt ∷ pos p.minislot_mt
    ∷ pos p.symbol_mt ∷ pos p.nit_mt ∷ pos p.cycle_mt ∷ pos p.idle ∷ pos p.words_per_minislot ∷ []

-- the plan without its lines
abbrev pub bare_plan : Plan → Plan
bare_plan p = empty_plan p.tasks p.latest_a p.latest_b p.host_entries p.slot_entries
