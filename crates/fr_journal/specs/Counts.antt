-- The status counters of a channel: the number of observed windows with each bit there (chapter 6).
use Rattle.std.specs.Prelude.{ℕ, Bool, false, List, [], ◌∷◌, Option, Some, None}
use Rattle.fr_journal.specs.Forms.{Entry}
use Rattle.fr_journal.specs.declared.entry.Entry.TheVariants.{Commit, Withdraw, Read, Pop, Fetch, Observe}
use Rattle.fr_journal.specs.OpenWindow.{open_window}
use Rattle.fr_slots.specs.declared.channel.Channel.{Channel}
use Rattle.fr_slots.specs.declared.channel.Channel.TheVariants as channel
use Rattle.fr_slots.specs.History.{count_after}
use Rattle.fr_slots.specs.Parameters.{Parameters}
use Rattle.fr_slots.specs.Windows.{Opportunity, slot_of}
use Rattle.fr_status.specs.declared.counters.Counters.{Counters}
use Rattle.fr_status.specs.Forms.{Seen}
use Rattle.fr_status.specs.declared.status.SlotStatus.{SlotStatus}
use Rattle.fr_status.specs.Status.{status_in}

abbrev pub seen_on : Channel → Seen → Seen → Seen
seen_on channel.A a b = a
seen_on channel.B a b = b

-- a channel without a slot has no status
abbrev pub bit_at : (SlotStatus → Bool) → Parameters → Opportunity → Channel → Seen → Option ℕ → Bool
bit_at bit params window channel seen None = false
bit_at bit params window channel seen (Some slot) = bit (status_in params window.cycle slot channel seen)

abbrev pub bit_in : (SlotStatus → Bool) → Parameters → Channel → Seen → Seen → Option Opportunity → Bool
bit_in bit params channel a b None = false
bit_in bit params channel a b (Some window) =
    bit_at bit params window channel (seen_on channel a b) (slot_of window channel)

abbrev pub has_bit : (SlotStatus → Bool) → Parameters → Channel → List Entry → Entry → Bool
has_bit bit params channel before (Commit task buffer payload) = false
has_bit bit params channel before (Withdraw task buffer of) = false
has_bit bit params channel before (Read task buffer from) = false
has_bit bit params channel before (Pop task from) = false
has_bit bit params channel before (Fetch window a b) = false
has_bit bit params channel before (Observe window a b) = bit_in bit params channel a b (open_window before)

abbrev pub count_of : (SlotStatus → Bool) → Parameters → Channel → List Entry → ℕ
count_of bit params channel entries = count_after (has_bit bit params channel) [] entries

pub record StatusCounts : Type 0 where
  pub valid : ℕ
  pub syntax_errors : ℕ
  pub content_errors : ℕ
  pub boundary_violations : ℕ
  pub conflicts : ℕ

abbrev pub counts_of : Parameters → Channel → List Entry → StatusCounts
counts_of params channel entries = record {
  valid = count_of (λ s. s.valid) params channel entries;
  syntax_errors = count_of (λ s. s.syntax) params channel entries;
  content_errors = count_of (λ s. s.content) params channel entries;
  boundary_violations = count_of (λ s. s.boundary) params channel entries;
  conflicts = count_of (λ s. s.conflict) params channel entries;
}

-- the counts of a channel in their order
abbrev pub in_order : StatusCounts → List ℕ
in_order c = c.valid ∷ c.syntax_errors ∷ c.content_errors ∷ c.boundary_violations ∷ c.conflicts ∷ []

-- the counters after some entries
abbrev pub counters_of : Parameters → List Entry → Counters
counters_of params entries =
    record { a = in_order (counts_of params channel.A entries); b = in_order (counts_of params channel.B entries) }
