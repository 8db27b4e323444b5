-- Records of frames in time are judged the same with times and without.
use Rattle.std.proofs.Common.{◌≡◌, ℕ, Bool, true, refl, ap, ◌∙◌, Option}
use Rattle.fr_hearing.proofs.punctual.CourseLemmas.{same_front, same_state}
use Rattle.fr_hearing.specs.Alarms.{judged}
use Rattle.fr_hearing.specs.Untimed.{untimed, EachIsUntimed, InTimeIsUntimed}
use Rattle.fr_judging.specs.Judging.{State, fresh, finish}
use Rattle.fr_judging.specs.Rules.{rules_of}
use Rattle.fr_schedule.specs.Descriptions.{Description}
use Rattle.fr_slots.specs.declared.channel.Channel.{Channel}

untimed_fresh : (d : Description) (most : ℕ) (whole : Bool) (only : Option Channel) (macrotick : ℕ)
    → fresh (rules_of d most whole only 0) ≡ untimed (fresh (rules_of d most whole only macrotick))
unfolding fresh rules_of
untimed_fresh d most whole only macrotick = refl

pub each_is_untimed : EachIsUntimed
unfolding rules_of
each_is_untimed d most whole only t records more lawful is in_time =
    ap (λ (s : State). judged s records) (untimed_fresh d most whole only t.macrotick)
    ∙ same_front (rules_of d most whole only t.macrotick) t.starts t.slack t.drift lawful is records more in_time

pub in_time_is_untimed : InTimeIsUntimed
unfolding rules_of
in_time_is_untimed d most whole only t records lawful is in_time =
    ap (λ (s : State). finish (judged s records) true) (untimed_fresh d most whole only t.macrotick)
    ∙ same_state (rules_of d most whole only t.macrotick) t.starts t.slack t.drift lawful is records in_time
