-- The frames of a recording that has no finding (project-defined).
use Rattle.std.specs.Prelude.{◌≡◌, ℕ, ◌≤◌, true, false, List, [], ◌∷◌, length, ◌⊎◌, Some}
use Rattle.fr_frame.specs.Fields.{Fields}
use Rattle.fr_hearing.specs.Alarms.{is_on, Spells, judged}
use Rattle.fr_hearing.specs.Heard.{AreHeard}
use Rattle.fr_judging.specs.Judging.{fresh, finish, has_finding}
use Rattle.fr_judging.specs.Rules.{rules_of, has_sender}
use Rattle.fr_logged.specs.declared.record.Kind.TheVariants.{Symbol}
use Rattle.fr_logged.specs.Logged.{kind_of}
use Rattle.fr_recording.specs.Records.{Record}
use Rattle.fr_schedule.specs.Clusters.{IsCluster}
use Rattle.fr_schedule.specs.Descriptions.{Description}
use Rattle.fr_slots.specs.declared.channel.Channel.{Channel}

-- ---- the frames of a recording

-- a whole symbol on the channel of a cluster with a symbol window
pub record IsSymbol (d : Description) (channel : Channel) (r : Record) : Type 0 where
  pub is_symbol : kind_of r.link r.bytes ≡ Symbol channel
  pub whole : r.original ≤ length r.bytes
  pub window : 1 ≤ d.params.symbol_mt

-- the record isn't a frame on the channel
abbrev pub IsAside : Description → Channel → Record → Type 0
IsAside d channel r = (is_on channel (kind_of r.link r.bytes) ≡ false) ⊎ IsSymbol d channel r

-- Each frame record of the channel spells the next one of these frames. Records of other kinds may stand between.
abbrev pub AreDecoded : Description → Channel → List Record → List Fields → Type 0
AreDecoded d channel [] fs = fs ≡ []
AreDecoded d channel (r ∷ rs) fs =
    (IsAside d channel r × AreDecoded d channel rs fs)
    ⊎ ((f : Fields) × (rest : List Fields) × (fs ≡ f ∷ rest) × Spells channel r f × AreDecoded d channel rs rest)

-- ---- nothing else is accepted

-- The frames of the recording are those that the cluster allows in some whole cycles. If a node sends on the channel,
-- there are some.
pub record HasHeard (d : Description) (channel : Channel) (rs : List Record) : Type 0 where
  pub frames : List Fields
  pub decoded : AreDecoded d channel rs frames
  pub cycles : AreHeard d channel frames
  pub some : has_sender d channel ≡ true → 1 ≤ length frames

-- If the judgement of a channel by itself, as a whole and without times, has no finding, the recording has such frames.
abbrev pub AcceptedIsHeard : Type 0
AcceptedIsHeard = (d : Description) (most : ℕ) (channel : Channel) (rs : List Record) → IsCluster d
    → has_finding (finish (judged (fresh (rules_of d most true (Some channel) 0)) rs) true) ≡ false
    → HasHeard d channel rs
