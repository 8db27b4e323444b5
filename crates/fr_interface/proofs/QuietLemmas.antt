-- What follows from an observation that sets no bit and has no frame.
use Rattle.std.proofs.Common.{◌≡◌, ℕ, Bool, true, false, cond, List, [], ◌∷◌, Option, Some, None, refl, ap, ◌∙◌}
use Rattle.std.specs.Prelude.{option_map}
use Rattle.std.specs.Option.{option_and_then, option_or}
use Rattle.fr_buffers.specs.Waiting.{Waiting}
use Rattle.fr_interface.specs.Known.{frame_on, taken_by, stored_all, with_arrival, with_arrivals}
use Rattle.fr_interface.specs.Seeing.{IsQuiet, status_seen}
use Rattle.fr_journal.specs.Arrivals.{is_for_queue}
use Rattle.fr_journal.specs.declared.entry.Arrival.{Arrival}
use Rattle.fr_journal.specs.declared.entry.Moment.{Moment}
use Rattle.fr_journal.specs.Held.{data_frame_seen, with_data}
use Rattle.fr_slots.specs.declared.channel.Channel.{Channel}
use Rattle.fr_slots.specs.declared.channel.Channel.TheVariants.{A, B}
use Rattle.fr_slots.specs.declared.plan.Buffer.{Buffer}
use Rattle.fr_slots.specs.declared.plan.Queue.{Queue}
use Rattle.fr_slots.specs.Parameters.{Parameters}
use Rattle.fr_slots.specs.Plans.{Plan, admits_window, is_receive}
use Rattle.fr_slots.specs.Windows.{Opportunity, slot_of}
use Rattle.fr_status.specs.Forms.{Seen}
use Rattle.fr_status.specs.Status.{frame_in, no_bit, status_in}

module _ (params : Parameters) (window : Opportunity) (channel : Channel) (seen : Seen) (quiet : IsQuiet seen) where
  pub quiet_status : status_seen params window channel seen ≡ option_map (λ slot. no_bit) (slot_of window channel)
  quiet_status = of_slot (slot_of window channel)
    where
      of_slot : (o : Option ℕ) → option_map (λ slot. status_in params window.cycle slot channel seen) o
          ≡ option_map (λ slot. no_bit) o
      of_slot None = refl
      of_slot (Some slot) = ap Some (quiet params window.cycle slot channel).0

  pub quiet_frame : data_frame_seen params window channel seen ≡ None
  quiet_frame = of_slot (slot_of window channel)
    where
      of_slot : (o : Option ℕ)
          → option_and_then with_data (option_and_then (λ slot. frame_in params window.cycle slot channel seen) o)
          ≡ None
      of_slot None = refl
      of_slot (Some slot) = ap (option_and_then with_data) (quiet params window.cycle slot channel).1

none_either : (b : Bool) → let none : Option Arrival = None in cond b none none ≡ none
none_either true = refl
none_either false = refl

module _ (moment : Moment) (window : Opportunity) where
  no_frame : (channel : Channel) (line : Buffer) → frame_on moment window channel None line ≡ None
  no_frame channel line = none_either (admits_window line.filter window channel)

  none_taken : (line : Buffer) → taken_by moment window None None line ≡ None
  none_taken line =
      (λ i. cond (is_receive line.mode) (option_or (no_frame A line i) (no_frame B line i)) None)
      ∙ none_either (is_receive line.mode)

  -- without a frame no receive buffer stores one
  pub none_stored : (lines : List Buffer) (held : List (Option Arrival))
      → stored_all moment window None None lines held ≡ held
  none_stored [] held = refl
  none_stored (line ∷ lines) [] = refl
  none_stored (line ∷ lines) (h ∷ held) =
      λ i. option_or (none_taken line i) h ∷ none_stored lines held i

  -- nor does the receive FIFO
  pub none_arrives : (plan : Plan) (q : Option Queue) (waiting : Option Waiting)
      → with_arrivals plan moment window None None q waiting ≡ waiting
  none_arrives plan None waiting = refl
  none_arrives plan (Some q) None = refl
  none_arrives plan (Some q) (Some w) = λ i. Some (with_arrival
      (with_arrival w (none_either (is_for_queue plan q window A) i))
      (none_either (is_for_queue plan q window B) i))
