-- Frames that the cluster allows in whole cycles are those of a run without faults. So is each recording without
-- findings.
use Rattle.std.proofs.Common.{◌≡◌, ℕ, ◌+◌, ◌*◌, ◌<◌, ◌≤◌, ◌^◌, Bool, cond, List, [], ◌∷◌, length, Some, None, refl, sym}
use Rattle.std.proofs.Common.{ap, ◌∙◌, arith}
use Rattle.std.proofs.lemmas.Bool.{lt-ltb}
use Rattle.fr_bus.specs.Courses.{opportunities}
use Rattle.fr_bus.specs.States.{phase_at}
use Rattle.fr_bus.specs.Windows.{following}
use Rattle.fr_core.specs.Worlds.{opening_world}
use Rattle.fr_frame.specs.Fields.{Fields}
use Rattle.fr_guarantees.proofs.ExactLemmas.{opening_at}
use Rattle.fr_guarantees.proofs.HoldingLemmas.{nothing_kept}
use Rattle.fr_guarantees.proofs.LeadLemmas.{leads_on}
use Rattle.fr_guarantees.proofs.PassingLemmas.{IsAt, next_here}
use Rattle.fr_guarantees.proofs.ProgressLemmas.{course_none}
use Rattle.fr_guarantees.proofs.WalkLemmas.{IsStart, reaches_cycle}
use Rattle.fr_guarantees.specs.Exactness.{HasRoom}
use Rattle.fr_hearing.proofs.AcceptedLaws.{accepted_is_heard}
use Rattle.fr_hearing.proofs.replaying.GoneLemmas.{all_mute}
use Rattle.fr_hearing.proofs.replaying.WalkLemmas.{walks_from}
use Rattle.fr_hearing.specs.Accepted.{AreDecoded, HasHeard}
use Rattle.fr_hearing.specs.Heard.{AreHeard}
use Rattle.fr_hearing.specs.Replays.{cycles_for, AreReplayed, HasRun, NothingMissed}
use Rattle.fr_recording.specs.Records.{Record}
use Rattle.fr_schedule.specs.Clusters.{IsCluster}
use Rattle.fr_schedule.specs.Descriptions.{Description}
use Rattle.fr_slots.specs.declared.channel.Channel.{Channel}
use Rattle.fr_slots.specs.Windows.{static_window}

-- ---- the start of the run

opens_at : (d : Description) → IsCluster d → (cycles : ℕ) → 0 < cycles → cycles * opportunities d.params < 2 ^ 32
    → IsAt d cycles nothing_kept 0 (opening_world d cycles)
opens_at d lawful cycles some numbers =
    let one = opening_at d lawful 1 (omega arith) (omega arith) in
    let next : following d.params cycles [] ≡ Some (static_window 0 0 1) =
    ap (λ (b : Bool). cond b (Some (static_window 0 0 1)) None) (lt-ltb 0 cycles some) in
    record {
      cluster = refl;
      cycles_are = refl;
      one_each = one.one_each;
      course = course_none d.params cycles lawful.params_are numbers;
      between = record {
        a_controller_each = one.between.a_controller_each;
        a_station_each = one.between.a_station_each;
        idle = one.between.idle;
        unput = one.between.unput;
        whole_a = refl;
        whole_b = refl;
        phase = sym (ap phase_at next);
        opened = refl;
      };
      nodes = one.nodes;
    }

comes_to : (d : Description) (lawful : IsCluster d) (cycles most : ℕ) (room : HasRoom d cycles most) (channel : Channel)
    (cycle : ℕ) → cycle < cycles → cycles * opportunities d.params < 2 ^ 32
    → IsStart d lawful cycles most room nothing_kept 0 cycle (opening_world d cycles)
comes_to d lawful cycles most room channel cycle more numbers =
    reaches_cycle d lawful cycles most room nothing_kept (λ rs. Unit {0})
    (cycle * opportunities d.params + 1) 0 cycle
    (λ rs window good next course before opens. (all_mute d window, λ r is. tt)) more channel (opening_world d cycles)
    (opens_at d lawful cycles (omega (arith, more)) numbers) tt (omega arith) (omega arith)

pub are_replayed : AreReplayed
are_replayed d channel f fs lawful heard room =
    let cycles : ℕ = cycles_for f fs in
    let start = comes_to d lawful (cycles_for f fs) (3 * length (f ∷ fs)) room.journals channel f.cycle (omega arith)
    room.numbers in
    let walked = walks_from d lawful (cycles_for f fs) (3 * length (f ∷ fs)) room.journals channel start.world
    start.is_at f fs heard.0 heard.1 start.begun_is start.window start.next start.opens refl (omega arith) in
    record {
      world = walked.world;
      leads = leads_on start.leads walked.leads;
      finished = walked.is_at.between.phase
          ∙ ap phase_at (next_here d (cycles_for f fs) nothing_kept walked.calls walked.world walked.is_at
          ∙ walked.finished);
      before = start.world.bus.sealed;
      rest = walked.rest;
      sealed_are = walked.sealed;
      begun_are = start.begun_is;
      received = walked.received;
    }

-- ---- recordings

with_frames : (d : Description) (channel : Channel) (rs : List Record) → IsCluster d → (fs : List Fields)
    → AreDecoded d channel rs fs → AreHeard d channel fs → 1 ≤ length fs → HasRun d channel rs
with_frames d channel rs lawful [] decoded cycles some = absurd (let none : ⊥ = omega (arith, some) in none)
with_frames d channel rs lawful (f ∷ fs) decoded cycles some = record {
  first = f;
  rest = fs;
  of_run = record {
    decoded = decoded;
    cycles = cycles;
    replayed = are_replayed d channel f fs lawful cycles;
  };
}

pub nothing_missed : NothingMissed
nothing_missed d most channel rs lawful sender quiet =
    let heard : HasHeard d channel rs = accepted_is_heard d most channel rs lawful quiet in
    with_frames d channel rs lawful heard.frames heard.decoded heard.cycles (heard.some sender)
