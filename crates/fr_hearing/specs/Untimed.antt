-- The judgement without times beside that with times, and the law that frames in time make no difference
-- (project-defined).
use Rattle.std.specs.Prelude.{◌≡◌, ℕ, Bool, true, List, ◌++◌, Option, None}
use Rattle.fr_hearing.specs.Alarms.{judged}
use Rattle.fr_hearing.specs.Schedule.{Timeline, IsTimeline, Timed, ArePunctual, AreAt}
use Rattle.fr_judging.specs.declared.lane.Lane.{Lane}
use Rattle.fr_judging.specs.declared.rules.Rules.{Rules}
use Rattle.fr_judging.specs.Judging.{State, fresh, finish}
use Rattle.fr_judging.specs.Rules.{rules_of, judged_by}
use Rattle.fr_recording.specs.Records.{Record}
use Rattle.fr_schedule.specs.Descriptions.{Description}
use Rattle.fr_slots.specs.declared.channel.Channel.{Channel}
use Rattle.fr_slots.specs.Parameters.{Parameters, IsParameters}

abbrev pub untimed_rules : Rules → Rules
untimed_rules r = record r { macrotick = 0 }

abbrev pub untimed_lane : Lane → Lane
untimed_lane l = record l { fixed = None }

-- the same state by rules without times, which keep no static frame for reference
abbrev pub untimed : State → State
untimed s = record s { rules = untimed_rules s.rules; mine = untimed_lane s.mine; other = untimed_lane s.other }

-- the records of each channel that is judged are those of frames in time
abbrev pub AreInTime : Parameters → Timeline → Option Channel → List Record → Type 0
AreInTime p t only records = (channel : Channel) → judged_by only channel ≡ true
    → (xs : List Timed) × AreAt channel records xs × ArePunctual p t xs

-- Of such records the judgement has the same findings, counts and lines with times and without, after each record.
-- There may be findings of other names, but no cycle without a frame.
abbrev pub EachIsUntimed : Type 0
EachIsUntimed = (d : Description) (most : ℕ) (whole : Bool) (only : Option Channel) (t : Timeline)
    (records more : List Record) → IsParameters d.params → IsTimeline d.params t
    → AreInTime d.params t only (records ++ more)
    → judged (fresh (rules_of d most whole only 0)) records
    ≡ untimed (judged (fresh (rules_of d most whole only t.macrotick)) records)

-- The same at the end.
abbrev pub InTimeIsUntimed : Type 0
InTimeIsUntimed = (d : Description) (most : ℕ) (whole : Bool) (only : Option Channel) (t : Timeline)
    (records : List Record) → IsParameters d.params → IsTimeline d.params t → AreInTime d.params t only records
    → finish (judged (fresh (rules_of d most whole only 0)) records) true
    ≡ untimed (finish (judged (fresh (rules_of d most whole only t.macrotick)) records) true)
