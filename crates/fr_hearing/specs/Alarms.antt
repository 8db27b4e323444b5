-- A recording of a bus without faults has no finding (project-defined).
use Rattle.std.specs.Prelude.{◌≡◌, ℕ, Bool, false, true, List, [], ◌∷◌, ◌⊎◌, Some, None, Ok}
use Rattle.fr_frame.specs.Fields.{Fields}
use Rattle.fr_hearing.specs.Heard.{AreHeard}
use Rattle.fr_judging.specs.Judging.{State, fresh, judge, finish, has_finding}
use Rattle.fr_judging.specs.Rules.{rules_of, has_sender, other_channel}
use Rattle.fr_logged.specs.declared.record.Kind.{Kind}
use Rattle.fr_logged.specs.declared.record.Kind.TheVariants.{Foreign, Symbol, Frame}
use Rattle.fr_logged.specs.Logged.{kind_of, spelled}
use Rattle.fr_recording.specs.Records.{Record}
use Rattle.fr_schedule.specs.Descriptions.{Description}
use Rattle.fr_slots.specs.Admission.{is_channel}
use Rattle.fr_slots.specs.declared.channel.Channel.{Channel}

-- ---- recordings

-- the record is a frame or a symbol of the channel
abbrev pub is_on : Channel → Kind → Bool
is_on channel Foreign = false
is_on channel (Symbol other) = is_channel channel other
is_on channel (Frame other) = is_channel channel other

-- the record spells the frame
pub record Spells (channel : Channel) (r : Record) (f : Fields) : Type 0 where
  pub is_frame : kind_of r.link r.bytes ≡ Frame channel
  pub spells : spelled channel r.original r.bytes ≡ Ok f

-- the records of the channel spell these frames, at any times and between any records of other kinds
abbrev pub AreOn : Channel → List Record → List Fields → Type 0
AreOn channel [] fs = fs ≡ []
AreOn channel (r ∷ rs) fs =
    ((is_on channel (kind_of r.link r.bytes) ≡ false) × AreOn channel rs fs)
    ⊎ ((f : Fields) × (rest : List Fields) × (fs ≡ f ∷ rest) × Spells channel r f × AreOn channel rs rest)

-- the state after all records
abbrev pub judged : State → List Record → State
judged s [] = s
judged s (r ∷ rs) = judged (judge s r) rs

-- ---- no false alarm

-- Of each channel by itself, without times: some whole cycles without faults, at least one, have no finding.
abbrev pub NoFalseAlarm : Type 0
NoFalseAlarm = (d : Description) (most : ℕ) (whole : Bool) (channel : Channel) (rs : List Record) (f : Fields)
    (fs : List Fields) → AreOn channel rs (f ∷ fs) → AreHeard d channel (f ∷ fs)
    → has_finding (finish (judged (fresh (rules_of d most whole (Some channel) 0)) rs) true) ≡ false

-- The same of both channels without times, if the other one has neither a sender nor a record.
abbrev pub NoFalseAlarmOfBoth : Type 0
NoFalseAlarmOfBoth = (d : Description) (most : ℕ) (whole : Bool) (channel : Channel) (rs : List Record) (f : Fields)
    (fs : List Fields) → AreOn channel rs (f ∷ fs) → AreHeard d channel (f ∷ fs)
    → has_sender d (other_channel channel) ≡ false → AreOn (other_channel channel) rs []
    → has_finding (finish (judged (fresh (rules_of d most whole None 0)) rs) true) ≡ false

-- A channel without a sender and without records has no finding.
abbrev pub NoAlarmInSilence : Type 0
NoAlarmInSilence = (d : Description) (most : ℕ) (whole : Bool) (channel : Channel) (rs : List Record)
    → AreOn channel rs [] → has_sender d channel ≡ false
    → has_finding (finish (judged (fresh (rules_of d most whole (Some channel) 0)) rs) true) ≡ false
