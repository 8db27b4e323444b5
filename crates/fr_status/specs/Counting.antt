-- The status counters after one more slot (chapter 6).
use Rattle.std.specs.Prelude.{ℕ, ◌+◌, ◌<◌, ◌^◌, Bool, List, [], ◌∷◌, slice_index, if◌then◌else◌}
use Rattle.fr_slots.specs.declared.channel.Channel.{Channel}
use Rattle.fr_slots.specs.declared.channel.Channel.TheVariants as channel
use Rattle.fr_status.specs.declared.counters.Counters.{Counters}
use Rattle.fr_status.specs.declared.status.SlotStatus.{SlotStatus}

abbrev pub digit : Bool → ℕ
digit bit = if bit then 1 else 0

-- the five counts of a channel, with one more slot
abbrev pub with_bits : List ℕ → SlotStatus → List ℕ
with_bits counts s =
    (slice_index counts 0 + digit s.valid) ∷ (slice_index counts 1 + digit s.syntax) ∷ (slice_index counts 2
    + digit s.content)
    ∷ (slice_index counts 3 + digit s.boundary) ∷ (slice_index counts 4 + digit s.conflict) ∷ []

abbrev pub with_status : Counters → Channel → SlotStatus → Counters
with_status c channel.A s = record { a = with_bits c.a s; b = c.b }
with_status c channel.B s = record { a = c.a; b = with_bits c.b s }

-- each count fits 32 bits, with one more slot
pub record FitsBits (counts : List ℕ) (s : SlotStatus) : Type 0 where
  pub valid : slice_index counts 0 + digit s.valid < 2 ^ 32
  pub syntax : slice_index counts 1 + digit s.syntax < 2 ^ 32
  pub content : slice_index counts 2 + digit s.content < 2 ^ 32
  pub boundary : slice_index counts 3 + digit s.boundary < 2 ^ 32
  pub conflict : slice_index counts 4 + digit s.conflict < 2 ^ 32

abbrev pub HasRoom : Counters → Channel → SlotStatus → Type 0
HasRoom c channel.A s = FitsBits c.a s
HasRoom c channel.B s = FitsBits c.b s
