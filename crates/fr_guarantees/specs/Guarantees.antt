-- Slots that open in time whatever the hosts do, and what follows from it in every world (project-defined).
use Rattle.std.specs.Prelude.{◌≡◌, ℕ, ◌-◌, ◌%◌, ◌<◌, ◌≤◌, not, Bool, true, false, ◌||◌, List, [], ◌∷◌, ◌++◌, take}
use Rattle.std.specs.Prelude.{slice_get, Some}
use Rattle.std.specs.List.{list_all}
use Rattle.fr_bus.specs.declared.outcome.Sent.{Sent}
use Rattle.fr_bus.specs.Record.{Recorded}
use Rattle.fr_bus.specs.Windows.{cycles_begun, this_cycle, counts_on}
use Rattle.fr_core.specs.Receivers.{is_muted}
use Rattle.fr_core.specs.Worlds.{WorldState}
use Rattle.fr_guarantees.specs.Ways.{IsWay}
use Rattle.fr_interface.specs.State.{State}
use Rattle.fr_journal.specs.declared.entry.Entry.TheVariants.{Fetch}
use Rattle.fr_journal.specs.declared.entry.Offered.{Offered}
use Rattle.fr_journal.specs.Fate.{tally_of}
use Rattle.fr_journal.specs.Forms.{Entry}
use Rattle.fr_latency.specs.Latencies.{is_guaranteed}
use Rattle.fr_minislot.specs.DynamicRows.{first_minislot, slot_after, has_row_after}
use Rattle.fr_schedule.specs.Descriptions.{Description}
use Rattle.fr_slots.specs.declared.channel.Channel.{Channel}
use Rattle.fr_slots.specs.declared.plan.Buffer.{Buffer}
use Rattle.fr_slots.specs.Faults.{sends_at, latest_on}
use Rattle.fr_slots.specs.Plans.{buffer_at}
use Rattle.fr_slots.specs.Windows.{Opportunity, slot_of, is_static}

-- ---- the guarantee of a schedule

-- on each way to the dynamic slot or to one before it, the slot begins within the dynamic segment
abbrev pub AlwaysOpens : Description → ℕ → Channel → ℕ → Type 0
AlwaysOpens d cycle channel slot = (counts : List ℕ) → IsWay d cycle channel counts → slot_after d.params counts ≤ slot
    → first_minislot d.params counts ≤ d.params.minislots

-- on each way to the dynamic slot, it begins at this minislot or before it
abbrev pub OpensBy : Description → ℕ → Channel → ℕ → ℕ → Type 0
OpensBy d cycle channel slot latest = (counts : List ℕ) → IsWay d cycle channel counts
    → slot_after d.params counts ≡ slot → first_minislot d.params counts ≤ latest

-- ---- a run without faults of senders

-- neither a babble nor a muted offer
abbrev pub is_plain : Sent → Bool
is_plain t = not (t.babble || is_muted t.fate)

-- no recorded transmission is a babble or a muted offer; bits may have been flipped
abbrev pub ArePlain : List Recorded → Type 0
ArePlain rs = (k : ℕ) (r : Recorded) → slice_get rs k ≡ Some r → list_all is_plain r.sent ≡ true

-- ---- the promises

-- the window has a slot in which the transmit buffer of this number sends on the channel
pub record IsTurn (s : State) (number : ℕ) (window : Opportunity) (channel : Channel) (slot : ℕ) : Type 0 where
  pub buffer : Buffer
  pub at : buffer_at s.plan number ≡ Some buffer
  pub slot_is : slot_of window channel ≡ Some slot
  pub sends : sends_at slot channel window.cycle buffer ≡ true

-- once the window is fetched, no commit on the buffer is pending
abbrev pub IsServed : State → ℕ → Opportunity → Type 0
IsServed s number window = (before after : List Entry) (a b : Offered)
    → s.entries ≡ before ++ Fetch window a b ∷ after
    → (tally_of number (before ++ Fetch window a b ∷ [])).pending ≡ 0

-- the cycle number of the cycle that began last
abbrev pub cycle_of : List Recorded → ℕ
cycle_of rs = (cycles_begun rs - 1) % 64

pub record Guarantees (w : WorldState) : Type 0 where
  -- a static window leaves no commit pending on a buffer that it belongs to, whatever faults there are
  pub static : (n number slot : ℕ) (s : State) (window : Opportunity) (channel : Channel)
      → slice_get w.interfaces n ≡ Some s → IsTurn s number window channel slot → is_static window ≡ true
      → IsServed s number window
  -- Without faults of senders, so does a dynamic window, if its slot opens by the node's latest minislot on each way.
  pub dynamic : ArePlain w.bus.sealed → (n number slot : ℕ) (s : State) (window : Opportunity) (channel : Channel)
      → slice_get w.interfaces n ≡ Some s → IsTurn s number window channel slot → is_static window ≡ false
      → OpensBy w.bus.cluster window.cycle channel slot (latest_on s.plan channel) → IsServed s number window
  -- Without faults of senders, the rows of each cycle are one of the schedule's ways.
  pub ways : ArePlain w.bus.sealed → (k : ℕ) (channel : Channel)
      → IsWay w.bus.cluster (cycle_of (take k w.bus.sealed)) channel (counts_on channel (this_cycle
      (take k w.bus.sealed)))
  -- Without faults of senders, a slot that always opens has had its row once the channel has no further row in the
  -- cycle.
  pub opened : ArePlain w.bus.sealed → (k slot : ℕ) (channel : Channel) → slot ≤ 2047
      → AlwaysOpens w.bus.cluster (cycle_of (take k w.bus.sealed)) channel slot
      → has_row_after w.bus.cluster.params (counts_on channel (this_cycle (take k w.bus.sealed))) ≡ false
      → slot < slot_after w.bus.cluster.params (counts_on channel (this_cycle (take k w.bus.sealed)))

-- ---- the table of latencies

-- Without faults of senders, a window of a cycle that the table calls guaranteed leaves no commit pending on its
-- buffer.
abbrev pub TableHolds : WorldState → Type 0
TableHolds w = ArePlain w.bus.sealed → (n number slot : ℕ) (s : State) (window : Opportunity) (channel : Channel)
    → slice_get w.interfaces n ≡ Some s → (turn : IsTurn s number window channel slot)
    → is_guaranteed w.bus.cluster s.plan turn.buffer window.cycle ≡ true → IsServed s number window
