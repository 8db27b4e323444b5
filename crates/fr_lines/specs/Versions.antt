-- The versions of the format, and the lines that each has.
use Rattle.std.specs.Prelude.{Bool, true, false, ◌||◌}
use Rattle.fr_journal.specs.Forms.{Entry}
use Rattle.fr_journal.specs.declared.entry.Entry.TheVariants.{Commit, Withdraw, Read, Pop, Fetch, Observe}
use Rattle.fr_lines.specs.declared.versions.Version.{Version}
use Rattle.fr_lines.specs.declared.versions.Version.TheVariants.{One, Two, Three}
use Rattle.fr_slots.specs.Admission.{is_every_cycle}
use Rattle.fr_slots.specs.declared.plan.Own.{Own}

abbrev pub has_withdraws : Version → Bool
has_withdraws One = false
has_withdraws Two = true
has_withdraws Three = true

-- an ownership line has its cycles in this version, and is for every cycle in the others
abbrev pub has_own_cycles : Version → Bool
has_own_cycles One = false
has_own_cycles Two = false
has_own_cycles Three = true

-- the version has a line for the entry
abbrev pub tells : Version → Entry → Bool
tells version (Commit task buffer payload) = true
tells version (Withdraw task buffer of) = has_withdraws version
tells version (Read task buffer from) = true
tells version (Pop task from) = true
tells version (Fetch window a b) = true
tells version (Observe window a b) = true

-- the version has a line for the ownership
abbrev pub tells_own : Version → Own → Bool
tells_own version own = has_own_cycles version || is_every_cycle own.cycles
