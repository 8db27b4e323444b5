-- A window with a babbling node, and the windows of a dynamic segment, worked out.
use Rattle.std.proofs.Common.{◌≡◌, ℕ, true, false, List, [], ◌∷◌, ◌++◌, map, Option, Some, None, refl}
use Rattle.arrayvec.specs.ArrayVec.{ArrayVec}
use Rattle.fr_bus.specs.declared.outcome.SentFate.{SentFate}
use Rattle.fr_bus.specs.declared.outcome.SentFate.TheVariants.{Passed, Blocked, Muted}
use Rattle.fr_bus.specs.declared.outcome.Sent.{Sent}
use Rattle.fr_bus.specs.declared.station.Side.{Side}
use Rattle.fr_bus.specs.Stations.{Station}
use Rattle.fr_bus.specs.Windows.{following}
use Rattle.fr_bus.specs.Outcome.{sent_from}
use Rattle.fr_bus.specs.Record.{Recorded, seen_by}
use Rattle.fr_schedule.specs.Descriptions.{Description}
use Rattle.fr_slots.specs.Admission.{CycleClass}
use Rattle.fr_slots.specs.declared.channel.Channel.TheVariants.{A, B}
use Rattle.fr_slots.specs.declared.channel.Channels.TheVariants as channels
use Rattle.fr_slots.specs.Parameters.{Parameters}
use Rattle.fr_slots.specs.Plans.{Plan, empty_plan}
use Rattle.fr_slots.specs.Windows.{Opportunity, static_window}
use Rattle.fr_status.specs.Forms.{Seen}
use Rattle.fr_status.specs.declared.seen.Seen.TheVariants.{Silence, Own as Owns, Conflict, Noise, Bytes}

abbrev one_word : Parameters
one_word = record {
  static_slots = 3;
  minislots = 4;
  static_words = 1;
  static_mt = 20;
  minislot_mt = 5;
  symbol_mt = 0;
  nit_mt = 10;
  cycle_mt = 90;
  idle = 0;
  words_per_minislot = 5;
}

abbrev owning_in : CycleClass → ℕ → Plan
owning_in cycles slot = record (empty_plan 2 0 0 256 4096) {
  owned =
      record { slot = slot; channels = channels.Both; sync = false; startup = false; cycles = cycles } ∷ [];
}

abbrev owning : ℕ → Plan
owning slot = owning_in (record { base = 0; repetition = 1 }) slot

-- nodes 0 and 1 own slots 1 and 2, and channel A is guarded
abbrev three_nodes : Description
three_nodes = record {
  params = one_word;
  guard = Some channels.A;
  plans =
      owning 1 ∷ owning 2 ∷ empty_plan 2 4 0 256 4096 ∷ [];
}

abbrev second_slot : Opportunity
second_slot = static_window 1 0 2

abbrev sample : ArrayVec ℕ
sample = record { items = 0x20 ∷ 0x02 ∷ 0x03 ∷ 0xc1 ∷ 0x40 ∷ 0x0a ∷ 0x0b ∷ 0xa3 ∷ 0x22 ∷ 0x17 ∷ [] }

abbrev nul : ArrayVec ℕ
nul = record { items = 0 ∷ [] }

abbrev silent : Side
silent = record { offer = None; babble = None; mute = false }

abbrev idle_node : Station
idle_node = record { put = true; taken = false; a = silent; b = silent }

abbrev offering : Side
offering = record { offer = Some sample; babble = None; mute = false }

abbrev muted : Side
muted = record { offer = Some sample; babble = None; mute = true }

abbrev babbling : Side
babbling = record { offer = None; babble = Some nul; mute = false }

abbrev sender : Side → Station
sender a = record { put = true; taken = false; a = a; b = offering }

abbrev babbler : Station
babbler = record { put = true; taken = false; a = babbling; b = babbling }

abbrev sent_with : Side → List Sent
sent_with a = sent_from three_nodes second_slot 0 (idle_node ∷ sender a ∷ babbler ∷ [])

abbrev listed : SentFate → List Sent
listed on_a =
    record { node = 1; channel = A; babble = false; bytes = sample; fate = on_a }
    ∷ record { node = 1; channel = B; babble = false; bytes = sample; fate = Passed }
    ∷ record { node = 2; channel = A; babble = true; bytes = nul; fate = Blocked }
    ∷ record { node = 2; channel = B; babble = true; bytes = nul; fate = Passed }
    ∷ []

abbrev recorded_with : Side → Recorded
recorded_with a = record { window = second_slot; sent = sent_with a; corrupt_a = None; corrupt_b = None }

abbrev Sees : Side → ℕ → Seen → Seen → Type 0
Sees side node a b = (seen_by one_word (recorded_with side) A node ≡ a) ×
    (seen_by one_word (recorded_with side) B node ≡ b)

-- the guardian blocks the babble on A, and B carries both
pub a_babble_is_blocked_on_the_guarded_channel : sent_with offering ≡ listed Passed
a_babble_is_blocked_on_the_guarded_channel = refl

pub the_others_receive_on_a : Sees offering 0 (Bytes sample) Noise × Sees offering 1 Owns Conflict × Sees offering 2
    (Bytes sample) Conflict
the_others_receive_on_a = ((refl, refl), (refl, refl), (refl, refl))

-- a mute loses the offer on A alone
pub a_muted_offer_is_lost : sent_with muted ≡ listed Muted
a_muted_offer_is_lost = refl

pub a_muted_slot_is_silent : Sees muted 0 Silence Noise × Sees muted 1 Silence Conflict × Sees muted 2 Silence Conflict
a_muted_slot_is_silent = ((refl, refl), (refl, refl), (refl, refl))

-- ---- a slot that two nodes divide by cycles

-- slot 3 is node 0's in every fourth cycle from 0 on, and node 1's in every fourth from 1 on
abbrev two_owners : Description
two_owners = record {
  params = one_word;
  guard = Some channels.A;
  plans = owning_in (record { base = 0; repetition = 4 }) 3 ∷ owning_in (record { base = 1; repetition = 4 }) 3 ∷ [];
}

-- the outcomes of both nodes' offers: of node 0's on A and on B, and of node 1's
abbrev fates_in : ℕ → List SentFate
fates_in cycle = map (λ (t : Sent). t.fate) (sent_from two_owners (static_window 1 cycle 3) 0
    (sender offering ∷ sender offering ∷ []))

-- on A the owner of the cycle passes alone, and no node passes in a cycle without an owner
pub a_divided_slot_is_guarded_by_cycles :
    (fates_in 0 ≡ Passed ∷ Passed ∷ Blocked ∷ Passed ∷ []) × (fates_in 1 ≡ Blocked ∷ Passed ∷ Passed ∷ Passed ∷ [])
    × (fates_in 2 ≡ Blocked ∷ Passed ∷ Blocked ∷ Passed ∷ []) × (fates_in 60 ≡ Passed ∷ Passed ∷ Blocked ∷ Passed ∷ [])
a_divided_slot_is_guarded_by_cycles = (refl, refl, refl, refl)

-- ---- a dynamic segment: ten minislots of four words, one idle after a transmission

abbrev four_words : Parameters
four_words = record {
  static_slots = 3;
  minislots = 10;
  static_words = 1;
  static_mt = 20;
  minislot_mt = 5;
  symbol_mt =
      4;
  nit_mt = 6;
  cycle_mt = 120;
  idle = 1;
  words_per_minislot = 4;
}

abbrev quiet : Opportunity → Recorded
quiet w = record { window = w; sent = []; corrupt_a = None; corrupt_b = None }

abbrev dynamic : ℕ → ℕ → Option ℕ → Option ℕ → Opportunity
dynamic number minislot a b = record { number = number; cycle = 0; minislot = minislot; a = a; b = b }

abbrev sixteen : ArrayVec ℕ
sixteen = record { items = 0 ∷ 0 ∷ 0 ∷ 0 ∷ 0 ∷ 0 ∷ 0 ∷ 0 ∷ 0 ∷ 0 ∷ 0 ∷ 0 ∷ 0 ∷ 0 ∷ 0 ∷ 0 ∷ [] }

abbrev static_part : List Recorded
static_part = quiet (static_window 0 0 1) ∷ quiet (static_window 1 0 2) ∷ quiet (static_window 2 0 3) ∷ []

-- eight bytes and four words on B in slot 4
abbrev first_minislot_sealed : Recorded
first_minislot_sealed = record {
  window = dynamic 3 1 (Some 4) (Some 4);
  sent = record { node = 2; channel = B; babble = false; bytes = sixteen; fate = Passed } ∷ [];
  corrupt_a = None;
  corrupt_b = None;
}

pub static_slots_come_first : (following four_words 2 [] ≡ Some (static_window 0 0 1)) ×
    (following four_words 2 static_part ≡ Some (dynamic 3 1 (Some 4) (Some 4)))
static_slots_come_first = (refl, refl)

pub a_long_slot_leaves_the_other_channel_alone :
    (following four_words 2 (static_part ++ first_minislot_sealed ∷ []) ≡ Some (dynamic 4 2 (Some 5) None))
    × (following four_words 2 (static_part ++ first_minislot_sealed ∷ quiet (dynamic 4 2 (Some 5) None) ∷ []) ≡ Some
    (dynamic 5 3 (Some 6) None))
    × (following four_words 2 (static_part ++ first_minislot_sealed ∷ quiet (dynamic 4 2 (Some 5) None) ∷ quiet
    (dynamic 5 3 (Some 6) None) ∷ [])
    ≡ Some (dynamic 6 4 (Some 7) (Some 5)))
a_long_slot_leaves_the_other_channel_alone = (refl, refl, refl)
