-- Two cycles of a channel worked out: two static slots with owners, and a dynamic frame after a silent slot.
use Rattle.std.proofs.Common.{◌≡◌, ℕ, ◌≤◌, Bool, true, false, List, [], ◌∷◌, Option, Some, None, refl, arith, inl, inr}
use Rattle.fr_frame.specs.Fields.{Fields}
use Rattle.fr_hearing.specs.Heard.{begins_at, after_frame, AreFree, AreHeard}
use Rattle.fr_judging.specs.Rules.{is_clocked}
use Rattle.fr_logged.specs.declared.due.Due.{Due}
use Rattle.fr_schedule.specs.Descriptions.{Description}
use Rattle.fr_slots.specs.Admission.{CycleClass}
use Rattle.fr_slots.specs.declared.channel.Channel.TheVariants.{A, B}
use Rattle.fr_slots.specs.declared.channel.Channels.TheVariants as channels
use Rattle.fr_slots.specs.declared.plan.Buffer.{Buffer}
use Rattle.fr_slots.specs.declared.plan.Mode.TheVariants as mode
use Rattle.fr_slots.specs.declared.plan.Own.{Own}
use Rattle.fr_slots.specs.Parameters.{Parameters}
use Rattle.fr_slots.specs.Plans.{empty_plan}

-- five words fill a minislot, and a minislot stays idle after a frame
abbrev two_slots : Parameters
two_slots = record {
  static_slots = 2;
  minislots = 4;
  static_words = 1;
  static_mt = 20;
  minislot_mt = 5;
  symbol_mt = 0;
  nit_mt = 10;
  cycle_mt = 70;
  idle = 1;
  words_per_minislot = 5;
}

abbrev every_cycle : CycleClass
every_cycle = record { base = 0; repetition = 1 }

abbrev owns : ℕ → Own
owns slot = record { slot = slot; channels = channels.A; sync = true; startup = false; cycles = every_cycle }

abbrev sends : ℕ → Option ℕ → Buffer
sends slot words = record {
  mode = mode.Event;
  filter = record { slot = slot; channels = channels.A; cycles = every_cycle };
  words = words;
  preamble = false;
}

-- node 0 has a task, slot 1 and the dynamic slot 4; node 1 has no task and slot 2
abbrev cluster : Description
cluster = record {
  params = two_slots;
  guard = None;
  plans = (record (empty_plan 1 4 0 8 8) { owned = owns 1 ∷ []; buffers = sends 1 None ∷ sends 4 (Some 1) ∷ [] })
      ∷ (record (empty_plan 0 0 0 8 8) { owned = owns 2 ∷ [] }) ∷ [];
}

abbrev frame : Bool → Bool → ℕ → ℕ → List ℕ → Fields
frame has_data sync id cycle payload = record {
  preamble = false;
  has_data = has_data;
  sync = sync;
  startup = false;
  id = id;
  payload = payload;
  cycle = cycle;
}

abbrev first_due : Due
first_due = record {
  node = 0;
  sync = true;
  startup = false;
  words = 1;
  preamble = Some false;
  both = false;
  latest = 0;
}

abbrev second_due : Due
second_due = record {
  node = 1;
  sync = true;
  startup = false;
  words = 1;
  preamble = None;
  both = false;
  latest = 0;
}

abbrev dynamic_due : Due
dynamic_due = record {
  node = 0;
  sync = false;
  startup = false;
  words = 1;
  preamble = Some false;
  both = false;
  latest = 4;
}

none_between : (cycle from end : ℕ) → end ≤ from → AreFree cluster A cycle from end
none_between cycle from end few k low high = absurd (let none : ⊥ = omega (arith, few, low, high) in none)

-- data and a null frame, then the dynamic frame; in the next cycle two null frames
pub two_cycles_are_heard : AreHeard cluster A
    (frame true true 1 0 (7 ∷ 8 ∷ []) ∷ frame false true 2 0 (0 ∷ 0 ∷ []) ∷ frame true false 4 0 (9 ∷ 9 ∷ [])
    ∷ frame false true 1 1 (0 ∷ 0 ∷ []) ∷ frame false true 2 1 (0 ∷ 0 ∷ []) ∷ [])
two_cycles_are_heard = (
  record {
    free = none_between 0 1 1 (omega arith);
    allowed = record {
      slot_is = omega arith;
      count_fits = omega arith;
      due = first_due;
      due_is = refl;
      allowed = record { words = refl; sync = refl; startup = refl; content = refl };
    };
  },
  inl (
    record {
      same_cycle = refl;
      later = omega arith;
      free = none_between 0 2 2 (omega arith);
      allowed = record {
        slot_is = omega arith;
        count_fits = omega arith;
        due = second_due;
        due_is = refl;
        allowed = record {
          words = refl;
          sync = refl;
          startup = refl;
          content = record { no_preamble = refl; zeros = refl };
        };
      };
    },
    inl (
      record {
        same_cycle = refl;
        later = omega arith;
        free = none_between 0 3 3 (omega arith);
        allowed = record {
          slot_is = omega arith;
          count_fits = omega arith;
          due = dynamic_due;
          due_is = refl;
          allowed = record {
            has_data = refl;
            no_sync = refl;
            no_startup = refl;
            words = refl;
            preamble = refl;
            some_minislot = omega arith;
            within = omega arith;
            in_time = omega arith;
          };
        };
      },
      inr (
        record {
          next_cycle = refl;
          over = none_between 0 5 3 (omega arith);
          first = record {
            free = none_between 1 1 1 (omega arith);
            allowed = record {
              slot_is = omega arith;
              count_fits = omega arith;
              due = first_due;
              due_is = refl;
              allowed = record {
                words = refl;
                sync = refl;
                startup = refl;
                content = record { no_preamble = refl; zeros = refl };
              };
            };
          };
        },
        inl (
          record {
            same_cycle = refl;
            later = omega arith;
            free = none_between 1 2 2 (omega arith);
            allowed = record {
              slot_is = omega arith;
              count_fits = omega arith;
              due = second_due;
              due_is = refl;
              allowed = record {
                words = refl;
                sync = refl;
                startup = refl;
                content = record { no_preamble = refl; zeros = refl };
              };
            };
          },
          none_between 1 3 3 (omega arith),
        ),
      ),
    ),
  ),
)

-- slot 3 is silent, so the frame in slot 4 begins at minislot 2; the slot after it would begin at minislot 4
pub a_silent_slot_takes_a_minislot :
    (begins_at (record { cycle = 0; last = 2; slot = 3; minislot = 1 }) (frame true false 4 0 (9 ∷ 9 ∷ [])) ≡ 2)
    × ((after_frame two_slots (record { cycle = 0; last = 2; slot = 3; minislot = 1 })
    (frame true false 4 0 (9 ∷ 9 ∷ []))).minislot ≡ 4)
a_silent_slot_takes_a_minislot = (refl, refl)

-- the cluster has a clock on channel A alone
pub one_channel_has_a_clock : (is_clocked cluster A 0 ≡ true) × (is_clocked cluster B 0 ≡ false)
one_channel_has_a_clock = (refl, refl)
