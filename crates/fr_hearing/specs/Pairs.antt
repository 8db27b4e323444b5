-- Recordings of both channels of a run without faults, and the law that these have no finding (project-defined).
use Rattle.std.specs.Prelude.{◌≡◌, ℕ, ℤ, Bool, true, false, List, [], ◌∷◌, ◌++◌, ◌⊎◌, Option, None}
use Rattle.fr_bus.specs.Record.{Recorded, heard}
use Rattle.fr_core.specs.Worlds.{WorldState}
use Rattle.fr_hearing.specs.Alarms.{judged}
use Rattle.fr_hearing.specs.Files.{Clock, capture_of}
use Rattle.fr_hearing.specs.Runs.{IsHealthy, packets_seen, logged}
use Rattle.fr_judging.specs.Judging.{fresh, finish, has_finding}
use Rattle.fr_judging.specs.Rules.{rules_of}
use Rattle.fr_logged.specs.declared.record.Kind.TheVariants.{Foreign}
use Rattle.fr_logged.specs.Logged.{kind_of}
use Rattle.fr_recording.specs.Records.{Record}
use Rattle.fr_recording.specs.Stream.{records_in}
use Rattle.fr_slots.specs.declared.channel.Channel.TheVariants.{A, B}
use Rattle.fr_slots.specs.Parameters.{Parameters}

-- the packets of all that a listener receives on both channels, window by window, channel A before B
abbrev pub packets_of_both : Parameters → List Recorded → List (List ℕ)
packets_of_both p [] = []
packets_of_both p (r ∷ rs) = packets_seen A (heard p r A) ++ (packets_seen B (heard p r B) ++ packets_of_both p rs)

-- The records are those of these packets, in this order, at any times. Foreign records may stand between.
abbrev pub AreInOrder : List Record → List (List ℕ) → Type 0
AreInOrder [] packets = packets ≡ []
AreInOrder (r ∷ rs) packets =
    ((kind_of r.link r.bytes ≡ Foreign) × AreInOrder rs packets)
    ⊎ ((time : Option ℤ) × (bytes : List ℕ) × (rest : List (List ℕ)) × (packets ≡ bytes ∷ rest)
    × (r ≡ logged time bytes) × AreInOrder rs rest)

-- In a run without faults on either channel, both have no finding, judged together and without times. Both channels
-- have a sender, or one of them, or none.
abbrev pub NoAlarmTogether : WorldState → Type 0
NoAlarmTogether w = (most : ℕ) (whole : Bool) (records : List Record) → IsHealthy w A → IsHealthy w B
    → AreInOrder records (packets_of_both w.bus.cluster.params w.bus.sealed)
    → has_finding (finish (judged (fresh (rules_of w.bus.cluster most whole None 0)) records) true) ≡ false

-- The same of the capture of such a run's bus, with any times.
abbrev pub NoAlarmInFileTogether : WorldState → Type 0
NoAlarmInFileTogether w = (most : ℕ) (whole : Bool) (time : Clock) → IsHealthy w A → IsHealthy w B
    → has_finding (finish (judged (fresh (rules_of w.bus.cluster most whole None 0))
    (records_in (capture_of time w.bus.cluster.params w.bus.sealed))) true) ≡ false
