-- The receivers of a frame, if it is known whether data frames came.
use Rattle.std.proofs.Common.{◌≡◌, Bool, true, false, cond, ◌&&◌, Option, Some, None, refl}
use Rattle.std.specs.Prelude.{[], is_some, option_map}
use Rattle.std.specs.Option.{option_or}
use Rattle.fr_capture.specs.Taking.{buffer_takes, is_from, queue_takes}
use Rattle.fr_capture.specs.TakingSteps.{queue_takes_by, takes_by}
use Rattle.fr_frame.specs.Fields.{Fields}
use Rattle.fr_journal.specs.Counts.{seen_on}
use Rattle.fr_journal.specs.Cycles.{moment_after}
use Rattle.fr_journal.specs.Held.{arrival_of, data_frame_seen}
use Rattle.fr_slots.specs.declared.channel.Channel.{Channel}
use Rattle.fr_slots.specs.declared.channel.Channel.TheVariants.{A, B}
use Rattle.fr_slots.specs.declared.plan.Buffer.{Buffer}
use Rattle.fr_slots.specs.declared.plan.Queue.{Queue}
use Rattle.fr_slots.specs.Parameters.{Parameters}
use Rattle.fr_slots.specs.Plans.{Plan, admits_window, is_receive}
use Rattle.fr_slots.specs.Windows.{Opportunity}
use Rattle.fr_status.specs.Forms.{Seen}

abbrev takes_words : Bool → Bool → Bool → Bool → Bool → Channel → Bool
takes_words receives admits_a admits_b a b A = receives && (a && admits_a)
takes_words receives admits_a admits_b a b B = receives && cond (a && admits_a) false (b && admits_b)

by_tests : (receives admits_a admits_b : Bool) (a b : Option Fields) (channel : Channel)
    → takes_words receives admits_a admits_b (is_some a) (is_some b) channel
    ≡ (receives && is_from channel (option_or (cond admits_a (option_map (arrival_of (moment_after []) A) a) None)
    (cond admits_b (option_map (arrival_of (moment_after []) B) b) None)))
by_tests false admits_a admits_b a b A = refl
by_tests false admits_a admits_b a b B = refl
by_tests true true admits_b (Some x) b A = refl
by_tests true true admits_b (Some x) b B = refl
by_tests true true true None (Some y) A = refl
by_tests true true true None (Some y) B = refl
by_tests true true true None None A = refl
by_tests true true true None None B = refl
by_tests true true false None (Some y) A = refl
by_tests true true false None (Some y) B = refl
by_tests true true false None None A = refl
by_tests true true false None None B = refl
by_tests true false true None (Some y) A = refl
by_tests true false true None (Some y) B = refl
by_tests true false true None None A = refl
by_tests true false true None None B = refl
by_tests true false false None (Some y) A = refl
by_tests true false false None (Some y) B = refl
by_tests true false false None None A = refl
by_tests true false false None None B = refl
by_tests true false true (Some x) (Some y) A = refl
by_tests true false true (Some x) (Some y) B = refl
by_tests true false true (Some x) None A = refl
by_tests true false true (Some x) None B = refl
by_tests true false false (Some x) (Some y) A = refl
by_tests true false false (Some x) (Some y) B = refl
by_tests true false false (Some x) None A = refl
by_tests true false false (Some x) None B = refl

module _ (p : Parameters) (w : Opportunity) (a b : Seen) where
  pub takes_is : (channel : Channel) (line : Buffer)
      → takes_by w (is_some (data_frame_seen p w A a)) (is_some (data_frame_seen p w B b)) channel line
      ≡ buffer_takes p w a b channel line
  takes_is A line =
      by_tests (is_receive line.mode) (admits_window line.filter w A) (admits_window line.filter w B)
      (data_frame_seen p w A a) (data_frame_seen p w B b) A
  takes_is B line =
      by_tests (is_receive line.mode) (admits_window line.filter w A) (admits_window line.filter w B)
      (data_frame_seen p w A a) (data_frame_seen p w B b) B

  pub queue_is : (plan : Plan) (channel : Channel) (q : Option Queue)
      → queue_takes_by plan w (is_some (data_frame_seen p w A a)) (is_some (data_frame_seen p w B b)) channel q
      ≡ queue_takes p plan w channel (seen_on channel a b) q
  queue_is plan channel None = refl
  queue_is plan A (Some q) = refl
  queue_is plan B (Some q) = refl
