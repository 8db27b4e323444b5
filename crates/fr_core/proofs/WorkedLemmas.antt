-- The turns of three controllers in a window, worked out.
use Rattle.std.proofs.Common.{◌≡◌, ℕ, true, false, List, [], ◌∷◌, ◌++◌, Option, Some, None, refl}
use Rattle.std.specs.List.{list_all}
use Rattle.fr_bus.specs.declared.error.BusError.TheVariants.{NotAllPut, NotCollecting, UnknownNode as NoNode}
use Rattle.fr_bus.specs.declared.fault.Fault.TheVariants.{Mute}
use Rattle.fr_core.specs.declared.error.StepError.{StepError}
use Rattle.fr_core.specs.declared.error.StepError.TheVariants.{UnknownNode, WrongTurn, Bus}
use Rattle.fr_core.specs.declared.event.Event.{Event}
use Rattle.fr_core.specs.declared.event.Event.TheVariants.{Look, Fetch, Put, Take, Observe, Inject, Seal}
use Rattle.fr_core.specs.Steps.{step_refusal, step_done}
use Rattle.fr_core.specs.Worlds.{WorldState, opening_world, is_between}
use Rattle.fr_schedule.specs.Descriptions.{Description}
use Rattle.fr_slots.specs.declared.channel.Channel.TheVariants.{A}
use Rattle.fr_slots.specs.declared.channel.Channels.TheVariants as channels
use Rattle.fr_slots.specs.History.{last_after}
use Rattle.fr_slots.specs.Parameters.{Parameters}
use Rattle.fr_slots.specs.Plans.{Plan, empty_plan}

abbrev one_word : Parameters
one_word = record {
  static_slots = 3;
  minislots = 4;
  static_words = 1;
  static_mt = 20;
  minislot_mt = 5;
  symbol_mt = 0;
  nit_mt = 10;
  cycle_mt = 90;
  idle = 0;
  words_per_minislot = 5;
}

abbrev owning : ℕ → Plan
owning slot = record (empty_plan 2 0 0 256 4096) {
  owned =
      record {
        slot = slot;
        channels = channels.Both;
        sync = false;
        startup = false;
        cycles =
            record { base = 0; repetition = 1 };
      } ∷ [];
}

-- nodes 0 and 1 own slots 1 and 2, and channel A is guarded
abbrev three_nodes : Description
three_nodes = record {
  params = one_word;
  guard = Some channels.A;
  plans =
      owning 1 ∷ owning 2 ∷ empty_plan 2 4 0 256 4096 ∷ [];
}

-- a refused event changes nothing
abbrev after : WorldState → Event → Option StepError → WorldState
after w event None = step_done w event
after w event (Some error) = w

abbrev led : WorldState → List Event → WorldState
led w [] = w
led w (event ∷ events) = led (after w event (step_refusal w event)) events

abbrev refusals : WorldState → List Event → List (Option StepError)
refusals w [] = []
refusals w (event ∷ events) = step_refusal w event ∷ refusals (after w event (step_refusal w event)) events

abbrev opening : WorldState
opening = opening_world three_nodes 1

abbrev first_half : ℕ → List Event
first_half n = Look n ∷ Fetch n ∷ Put n ∷ []

abbrev second_half : ℕ → List Event
second_half n = Take n ∷ Observe n ∷ []

abbrev three : List (Option StepError)
three = None ∷ None ∷ None ∷ []

-- a put comes after a look and a fetch, and a seal after all puts
pub steps_come_in_their_order :
    refusals opening (Put 0 ∷ first_half 0 ++ Seal ∷ Look 0 ∷ first_half 1 ++ first_half 2 ++ Seal ∷ Look 0 ∷ [])
    ≡ Some WrongTurn ∷ three ++ Some (Bus NotAllPut) ∷ Some WrongTurn ∷ three ++ three ++ None ∷ Some WrongTurn ∷ []
unfolding last_after
steps_come_in_their_order = refl

abbrev sealed : WorldState
sealed = led opening (first_half 0 ++ first_half 1 ++ first_half 2 ++ Seal ∷ [])

-- an idle controller finds no open window once the window is sealed
pub a_look_after_the_seal_is_refused_by_the_bus :
    refusals sealed (second_half 0 ++ Look 0 ∷ Look 3 ∷ Inject (Mute 3 A) ∷ [])
    ≡ None ∷ None ∷ Some (Bus NotCollecting) ∷ Some UnknownNode ∷ Some (Bus NoNode) ∷ []
unfolding last_after
a_look_after_the_seal_is_refused_by_the_bus = refl

-- all controllers are between two windows once all have observed
pub all_have_observed :
    (list_all is_between (led sealed (second_half 0 ++ second_half 1)).carried ≡ false)
    × (list_all is_between (led sealed (second_half 0 ++ second_half 1 ++ second_half 2)).carried ≡ true)
unfolding last_after
all_have_observed = (refl, refl)
