-- The account of a static slot: the entries of its owner's journal that decide the owner's transmissions there
-- (project-defined).
use Rattle.std.specs.Prelude.{◌≡◌, ℕ, ◌+◌, ◌-◌, ◌%◌, ◌==◌, Bool, true, false, ◌&&◌, List, [], ◌∷◌, ◌++◌, take}
use Rattle.std.specs.Prelude.{slice_get, Option, Some, None, if◌then◌else◌}
use Rattle.std.specs.List.{filter}
use Rattle.std.specs.Option.{option_and_then}
use Rattle.arrayvec.specs.ArrayVec.{ArrayVec}
use Rattle.fr_bus.specs.declared.outcome.Sent.{Sent}
use Rattle.fr_bus.specs.Outcome.{fate_of, transmission, all_passed, is_of, seen_of}
use Rattle.fr_bus.specs.Record.{Recorded, corrupt_on, seen_by}
use Rattle.fr_bus.specs.Windows.{cycles_begun}
use Rattle.fr_core.specs.Receivers.{IsOwner, is_muted}
use Rattle.fr_frame.specs.Fields.{Fields}
use Rattle.fr_interface.specs.State.{State}
use Rattle.fr_journal.specs.Cycles.{run_cycle}
use Rattle.fr_journal.specs.Forms.{Entry}
use Rattle.fr_journal.specs.declared.entry.Entry.TheVariants.{Commit, Withdraw, Read, Pop, Fetch, Observe}
use Rattle.fr_journal.specs.declared.entry.Offered.{Offered}
use Rattle.fr_journal.specs.Offers.{transmitter, null_frame, preamble_in, bytes_of}
use Rattle.fr_schedule.specs.Descriptions.{Description, is_guarded}
use Rattle.fr_slots.specs.Admission.{cycle_admitted, is_channel}
use Rattle.fr_slots.specs.declared.channel.Channel.{Channel}
use Rattle.fr_slots.specs.declared.plan.Buffer.{Buffer}
use Rattle.fr_slots.specs.declared.plan.Mode.{Mode}
use Rattle.fr_slots.specs.declared.plan.Mode.TheVariants as mode
use Rattle.fr_slots.specs.Faults.{transmits}
use Rattle.fr_slots.specs.History.{each_after}
use Rattle.fr_slots.specs.Parameters.{Parameters}
use Rattle.fr_slots.specs.Plans.{Plan, buffer_at}
use Rattle.fr_slots.specs.Windows.{Opportunity, slot_of, is_static, static_window}
use Rattle.fr_status.specs.declared.seen.Seen.TheVariants.{Silence}

-- ---- the entries of a journal that an account keeps

-- a commit of this payload on a buffer of the slot, a withdraw on one, or a window of the slot in a run cycle
pub data Kept : Type 0 where
  commits : ℕ → List ℕ → Kept
  withdraws : ℕ → Kept
  turns : ℕ → Kept

abbrev pub is_slot_at : ℕ → Option ℕ → Bool
is_slot_at slot None = false
is_slot_at slot (Some s) = s == slot

-- a static window of the slot, which is on both channels
abbrev pub is_window_of : ℕ → Opportunity → Bool
is_window_of slot w = is_static w && is_slot_at slot w.a

abbrev pub is_buffer_of : ℕ → Option Buffer → Bool
is_buffer_of slot None = false
is_buffer_of slot (Some b) = transmits b && b.filter.slot == slot

abbrev pub kept_at : Plan → ℕ → List Entry → Entry → List Kept
kept_at plan slot before (Commit task buffer payload) =
    if is_buffer_of slot (buffer_at plan buffer) then commits buffer payload ∷ [] else []
kept_at plan slot before (Withdraw task buffer of) =
    if is_buffer_of slot (buffer_at plan buffer) then withdraws buffer ∷ [] else []
kept_at plan slot before (Read task buffer from) = []
kept_at plan slot before (Pop task from) = []
kept_at plan slot before (Fetch w a b) =
    if is_window_of slot w then turns (run_cycle (before ++ Fetch w a b ∷ [])) ∷ [] else []
kept_at plan slot before (Observe number a b) = []

-- the commits and withdraws on the node's transmit buffers of the slot, and the run cycles of its windows
abbrev pub account : Plan → ℕ → List Entry → List Kept
account plan slot entries = each_after (kept_at plan slot) [] entries

-- ---- the offer by the account

abbrev pub is_event : Mode → Bool
is_event mode.Event = true
is_event mode.State = false
is_event mode.Receive = false

-- a buffer after an account: the payload that it offers, and a flag for a pending last commit
pub record Left : Type 0 where
  pub payload : Option (List ℕ)
  pub pending : Bool

abbrev pub empty : Left
empty = record { payload = None; pending = false }

-- a new commit is offered, and is pending
abbrev pub given : List ℕ → Left
given payload = record { payload = Some payload; pending = true }

-- a withdraw that finds the last commit pending leaves no offer, and any other withdraw changes nothing
abbrev pub taken_back : Left → Left
taken_back now = if now.pending then empty else now

-- A window of a cycle that the buffer admits sends the last commit. In event mode the commit is then used up.
abbrev pub sent_out : Buffer → Left → Left
sent_out b now = record { payload = if is_event b.mode then None else now.payload; pending = false }

-- a window of the slot in a run cycle that the buffer admits
abbrev pub is_turn_of : Buffer → ℕ → Bool
is_turn_of b cycle = cycle_admitted b.filter.cycles (cycle % 64)

-- the buffer after all kept entries
abbrev pub left_after : Buffer → ℕ → Left → List Kept → Left
left_after b buffer now [] = now
left_after b buffer now (commits k payload ∷ rest) =
    left_after b buffer (if k == buffer then given payload else now) rest
left_after b buffer now (withdraws k ∷ rest) = left_after b buffer (if k == buffer then taken_back now else now) rest
left_after b buffer now (turns cycle ∷ rest) =
    left_after b buffer (if is_turn_of b cycle then sent_out b now else now) rest

-- the payload of the last kept commit on the buffer, unless a window used it up or a withdraw found it pending
abbrev pub left_over : Buffer → ℕ → List Kept → Option (List ℕ)
left_over b buffer kept = (left_after b buffer empty kept).payload

abbrev pub left_over_in : Plan → List Kept → ℕ → Option (List ℕ)
left_over_in plan kept buffer = option_and_then (λ b. left_over b buffer kept) (buffer_at plan buffer)

-- the window of the slot in a run cycle, with any number
abbrev pub turn_of : ℕ → ℕ → Opportunity
turn_of slot cycle = static_window 0 (cycle % 64) slot

abbrev pub frame_by : Parameters → Plan → Opportunity → Channel → ℕ → Option (List ℕ) → Fields
frame_by p plan w channel slot None = null_frame p plan w channel slot
frame_by p plan w channel slot (Some payload) = record (null_frame p plan w channel slot) {
  preamble = preamble_in plan w channel;
  has_data = true;
  payload = payload;
}

-- The frame that the owner of a slot offers in a run cycle, by the account before its fetch. It is the remaining
-- payload on the buffer that admits the slot there, otherwise a null frame.
abbrev pub frame_by_account : Parameters → Plan → ℕ → Channel → ℕ → List Kept → Fields
frame_by_account p plan slot channel cycle kept =
    frame_by p plan (turn_of slot cycle) channel slot
    (option_and_then (left_over_in plan kept) (transmitter plan (turn_of slot cycle) channel))

-- ---- observations by the account

-- the node's transmissions on the channel
abbrev pub own : Channel → ℕ → List Sent → List Sent
own channel node sent = filter (λ (t : Sent). is_of node t && is_channel t.channel channel) sent

-- an owner's offer with its mute, and its babble; the guardian passes both
abbrev pub of_owner : ℕ → Channel → Bool → Option (ArrayVec ℕ) → Option (ArrayVec ℕ) → List Sent
of_owner owner channel mute offer babble =
    transmission owner channel false (fate_of mute true) offer
    ++ transmission owner channel true (fate_of false true) babble

-- the offer among an owner's transmissions is muted
abbrev pub mute_of : List Sent → Bool
mute_of [] = false
mute_of (t ∷ ts) = if t.babble then mute_of ts else is_muted t.fate

-- the babble among an owner's transmissions
abbrev pub babble_of : List Sent → Option (ArrayVec ℕ)
babble_of [] = None
babble_of (t ∷ ts) = if t.babble then Some t.bytes else babble_of ts

-- an owner's transmissions, by the account before its fetch and by its recorded mute and babble
abbrev pub sent_by_account : State → ℕ → Channel → ℕ → ℕ → List Entry → List Sent → List Sent
sent_by_account s owner channel slot cycle before mine =
    of_owner owner channel (mute_of mine)
    (bytes_of channel (Some (frame_by_account s.params s.plan slot channel cycle (account s.plan slot before))))
    (babble_of mine)

-- The owner fetched the recorded window. Its recorded transmissions on the channel are those of its account before that
-- fetch. Each node observes there what these alone give, without any other transmission.
pub record IsSeenByAccount (p : Parameters) (r : Recorded) (cycle : ℕ) (s : State) (owner : ℕ) (channel : Channel)
    (slot : ℕ) : Type 0 where
  pub before : List Entry
  pub a : Offered
  pub b : Offered
  pub after : List Entry
  pub cut : s.entries ≡ before ++ Fetch r.window a b ∷ after
  pub recorded : own channel owner r.sent
      ≡ sent_by_account s owner channel slot cycle before (own channel owner r.sent)
  pub seen : (n : ℕ) → seen_by p r channel n
      ≡ seen_of p (turn_of slot cycle) (corrupt_on r channel) n
      (all_passed channel (sent_by_account s owner channel slot cycle before (own channel owner r.sent)))

-- the run cycle of the window at this place of a record: the number of windows of static slot 1, less one
abbrev pub recorded_cycle : List Recorded → ℕ → ℕ
recorded_cycle rs k = cycles_begun (take (k + 1) rs) - 1

-- A babbling node is harmless in guarded static slots. If the slot has an owner in the window's cycle, each node's
-- observation follows from the owner's account. If it has none, each node observes silence.
pub record IsHarmless (d : Description) (interfaces : List State) (rs : List Recorded) : Type 0 where
  pub owned : (k owner slot : ℕ) (r : Recorded) (s : State) (channel : Channel)
      → slice_get rs k ≡ Some r → slice_get interfaces owner ≡ Some s
      → is_static r.window ≡ true → is_guarded d.guard channel ≡ true → slot_of r.window channel ≡ Some slot
      → IsOwner d r.window.cycle slot channel owner
      → IsSeenByAccount d.params r (recorded_cycle rs k) s owner channel slot
  pub unowned : (k slot n : ℕ) (r : Recorded) (channel : Channel)
      → slice_get rs k ≡ Some r
      → is_static r.window ≡ true → is_guarded d.guard channel ≡ true → slot_of r.window channel ≡ Some slot
      → ((owner : ℕ) → IsOwner d r.window.cycle slot channel owner → ⊥)
      → seen_by d.params r channel n ≡ Silence

-- ---- two runs of one cluster

abbrev pub is_fetch_of : ℕ → Entry → Bool
is_fetch_of number (Commit task buffer payload) = false
is_fetch_of number (Withdraw task buffer of) = false
is_fetch_of number (Read task buffer from) = false
is_fetch_of number (Pop task from) = false
is_fetch_of number (Fetch w a b) = w.number == number
is_fetch_of number (Observe window a b) = false

-- the entries before the fetch of the window of this number
abbrev pub before_fetch : ℕ → List Entry → List Entry
before_fetch number [] = []
before_fetch number (e ∷ es) = if is_fetch_of number e then [] else e ∷ before_fetch number es

-- the account of the slot before the fetch of the window of this number
abbrev pub account_at : State → ℕ → ℕ → List Kept
account_at s slot number = account s.plan slot (before_fetch number s.entries)

-- Two recorded windows of a slot have the same account of the owner before its fetch, the same mute and babble of the
-- owner, and the same bit to be flipped.
pub record IsSamePart (slot owner : ℕ) (channel : Channel) (r t : Recorded) (mine theirs : State) : Type 0 where
  pub accounts : account_at mine slot r.window.number ≡ account_at theirs slot t.window.number
  pub mutes : mute_of (own channel owner r.sent) ≡ mute_of (own channel owner t.sent)
  pub babbles : babble_of (own channel owner r.sent) ≡ babble_of (own channel owner t.sent)
  pub corrupts : corrupt_on r channel ≡ corrupt_on t channel

-- If these are the same in two runs of one cluster, for a guarded static slot in a run cycle, each node observes the
-- same there. Commits, babbles and mutes of other nodes, and the windows' numbers, have no effect.
abbrev pub AreAlike : Description → List State → List Recorded → List State → List Recorded → Type 0
AreAlike d interfaces rs others ts = (k j owner slot : ℕ) (r t : Recorded) (mine theirs : State) (channel : Channel)
    → slice_get rs k ≡ Some r → slice_get ts j ≡ Some t
    → slice_get interfaces owner ≡ Some mine → slice_get others owner ≡ Some theirs
    → is_static r.window ≡ true → is_static t.window ≡ true → is_guarded d.guard channel ≡ true
    → slot_of r.window channel ≡ Some slot → slot_of t.window channel ≡ Some slot
    → IsOwner d r.window.cycle slot channel owner
    → recorded_cycle rs k ≡ recorded_cycle ts j
    → IsSamePart slot owner channel r t mine theirs
    → (n : ℕ) → seen_by d.params r channel n ≡ seen_by d.params t channel n
