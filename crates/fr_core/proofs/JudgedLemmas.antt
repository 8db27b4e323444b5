-- The fates that a bus records are those of its guardians.
use Rattle.std.proofs.Common.{◌≡◌, ℕ, Bool, true, false, List, [], length, Some, refl, ap, ◌∙◌, arith}
use Rattle.std.specs.List.{list_all}
use Rattle.fr_bus.specs.declared.outcome.Sent.{Sent}
use Rattle.fr_bus.specs.Outcome.{fate_of}
use Rattle.fr_bus.specs.Record.{Recorded, IsOutcome}
use Rattle.fr_bus.specs.States.{IsRecorded}
use Rattle.fr_core.proofs.SentLemmas.{of_all}
use Rattle.fr_slots.proofs.PlaceLemmas.{AllAfter-at}
use Rattle.fr_slots.specs.History.{AllAfter}
use Rattle.fr_bus.specs.declared.outcome.SentFate.{SentFate}
use Rattle.fr_bus.specs.declared.outcome.SentFate.TheVariants.{Passed, Blocked, Muted}
use Rattle.std.specs.Prelude.{not, slice_get, take}
use Rattle.fr_guardian.specs.Guarding.{passes}
use Rattle.fr_schedule.specs.Descriptions.{Description}
use Rattle.fr_slots.specs.Windows.{Opportunity}

-- the fate is the guardian's, or a mute
abbrev pub is_judged : SentFate → Bool → Bool
is_judged Passed let_pass = let_pass
is_judged Blocked let_pass = not let_pass
is_judged Muted let_pass = true

abbrev pub is_judged_in : Description → Opportunity → Sent → Bool
is_judged_in d w t = is_judged t.fate (passes d t.node w t.channel)

-- each recorded fate is a mute, or that of the cluster's guardians
abbrev pub AreJudged : Description → List Recorded → Type 0
AreJudged d rs = (k : ℕ) (r : Recorded) → slice_get rs k ≡ Some r → list_all (is_judged_in d r.window) r.sent ≡ true

judged : (muted let_pass : Bool) → is_judged (fate_of muted let_pass) let_pass ≡ true
judged true let_pass = refl
judged false true = refl
judged false false = refl

pub outcome_judged : (d : Description) (r : Recorded) → IsOutcome d r → list_all (is_judged_in d r.window) r.sent ≡ true
outcome_judged d r o =
    ap (λ (sent : List Sent). list_all (is_judged_in d r.window) sent) o.sent_is
    ∙ of_all d r.window (is_judged_in d r.window) (length o.stations)
    (λ node channel babble muted bytes within. judged muted (passes d node r.window channel)) 0 o.stations (omega arith)

-- the law of a record at one of its windows
pub recorded_at : (d : Description) (cycles : ℕ) (rs : List Recorded) (k : ℕ) (r : Recorded)
    → AllAfter (IsRecorded d cycles) [] rs → slice_get rs k ≡ Some r
    → IsRecorded d cycles (take k rs) r
recorded_at d cycles rs k r all at = AllAfter-at (IsRecorded d cycles) rs k r all at

pub are_judged : (d : Description) (cycles : ℕ) (rs : List Recorded) → AllAfter (IsRecorded d cycles) [] rs
    → AreJudged d rs
are_judged d cycles rs all k r at = outcome_judged d r (recorded_at d cycles rs k r all at).1
