-- Interfaces without a commit to send: they offer nothing in a dynamic window, and a fetch sends nothing.
use Rattle.std.proofs.Common.{◌≡◌, ℕ, Bool, true, false, cond, ◌||◌, List, Option, Some, None, refl, ap, ◌∙◌, is_some}
use Rattle.std.specs.Option.{option_and_then}
use Rattle.fr_core.proofs.ReadyLemmas.{ready-same}
use Rattle.fr_core.specs.Steps.{offer_of}
use Rattle.fr_guarantees.proofs.HeardLemmas.{offer_on}
use Rattle.fr_guarantees.proofs.ObservingLemmas.{IsObserved}
use Rattle.fr_guarantees.proofs.OfferingLemmas.{fetched_by}
use Rattle.fr_interface.specs.State.{State, fetch_entry}
use Rattle.fr_journal.specs.declared.entry.Entry.TheVariants.{Observe}
use Rattle.fr_journal.specs.declared.entry.Offered.{Offered}
use Rattle.fr_journal.specs.declared.entry.Offered.TheVariants.{Nothing, Null, Data}
use Rattle.fr_journal.specs.Fate.{is_data_of, sends}
use Rattle.fr_journal.specs.Forms.{Entry}
use Rattle.fr_journal.specs.Offers.{may_begin, ready, ready_in, transmitter, commit_offered, owns, ownership, data_or}
use Rattle.fr_journal.specs.Offers.{offered_at, offered, frame_of_offer, frame_with, frame_offered, bytes_of}
use Rattle.fr_slots.specs.declared.channel.Channel.{Channel}
use Rattle.fr_slots.specs.declared.channel.Channel.TheVariants.{A, B}
use Rattle.fr_slots.specs.declared.plan.Buffer.{Buffer}
use Rattle.fr_slots.specs.declared.plan.Mode.{Mode}
use Rattle.fr_slots.specs.declared.plan.Mode.TheVariants as mode
use Rattle.fr_slots.specs.Plans.{Plan, buffer_at, is_receive}
use Rattle.fr_slots.specs.Windows.{Opportunity, slot_of, is_static}

-- ---- what is offered

-- no commit is offered in the window, on either channel
pub record IsSilent (s : State) (window : Opportunity) : Type 0 where
  pub on_a : commit_offered s.plan s.entries window A ≡ None
  pub on_b : commit_offered s.plan s.entries window B ≡ None

silent_on : (s : State) (window : Opportunity) → IsSilent s window → (channel : Channel)
    → commit_offered s.plan s.entries window channel ≡ None
silent_on s window silent A = silent.on_a
silent_on s window silent B = silent.on_b

-- Each buffer has this commit ready in event and in state mode, or none.
abbrev pub Keeps : Type 0
Keeps = ℕ → Option ℕ

abbrev pub HasReady : Keeps → State → Type 0
HasReady kept s = (m : Mode) (number : ℕ) → is_receive m ≡ false → ready m number s.entries ≡ kept number

pub not_ready : (entries : List Entry) (number : ℕ) → ((m : Mode) → is_receive m ≡ false → ready m number entries
    ≡ None)
    → (m : Mode) → ready m number entries ≡ None
not_ready entries number none mode.Event = none mode.Event refl
not_ready entries number none mode.State = none mode.State refl
not_ready entries number none mode.Receive = refl

-- no buffer of the node with a ready commit sends in the window
abbrev pub IsMute : Keeps → Plan → Opportunity → Type 0
IsMute kept plan window = (channel : Channel) (number : ℕ) → transmitter plan window channel ≡ Some number
    → may_begin plan window channel ≡ true → kept number ≡ None

pub none_offered : (kept : Keeps) (s : State) → HasReady kept s → (window : Opportunity) → IsMute kept s.plan window
    → (channel : Channel) → commit_offered s.plan s.entries window channel ≡ None
none_offered kept s has window mute channel =
    by (may_begin s.plan window channel) refl (transmitter s.plan window channel) refl
  where
    none_ready : (number : ℕ) → kept number ≡ None → (o : Option Buffer) → buffer_at s.plan number ≡ o
        → option_and_then (λ (b : Buffer). ready b.mode number s.entries) o ≡ None
    none_ready number none None is = refl
    none_ready number none (Some b) is =
        not_ready s.entries number (λ m sending. has m number sending ∙ none) b.mode

    by : (begins : Bool) → may_begin s.plan window channel ≡ begins → (o : Option ℕ)
        → transmitter s.plan window channel ≡ o
        → cond begins (option_and_then (ready_in s.plan s.entries) o) None ≡ None
    by true begins None at = refl
    by true begins (Some number) at =
        none_ready number (mute channel number at begins) (buffer_at s.plan number) refl
    by false begins o at = refl

pub mute_is_silent : (kept : Keeps) (s : State) → HasReady kept s → (window : Opportunity)
    → IsMute kept s.plan window → IsSilent s window
mute_is_silent kept s has window mute = record {
  on_a = none_offered kept s has window mute A;
  on_b = none_offered kept s has window mute B;
}

no_data : (s : State) (window : Opportunity) (channel : Channel) (commit : ℕ)
    → commit_offered s.plan s.entries window channel ≡ None
    → is_data_of commit (offered s.plan s.entries window channel) ≡ false
no_data s window channel commit none = by (slot_of window channel)
  where
    either : (slot : ℕ) (b : Bool) → is_data_of commit (data_or (cond b Null Nothing) None) ≡ false
    either slot true = refl
    either slot false = refl

    by : (o : Option ℕ) → is_data_of commit (offered_at s.plan s.entries window channel o) ≡ false
    by None = refl
    by (Some slot) = ap (λ (c : Option ℕ). is_data_of commit
        (data_or (cond (owns s.plan window channel slot) Null Nothing) c)) none
        ∙ either slot (owns s.plan window channel slot)

-- ---- a dynamic window without a frame of the node

pub not_owned : (plan : Plan) (window : Opportunity) (channel : Channel) (slot : ℕ) → is_static window ≡ false
    → owns plan window channel slot ≡ false
not_owned plan window channel slot dynamic = ap (λ (b : Bool). is_some (cond b
    (ownership plan.owned slot channel window.cycle) None)) dynamic

nothing_offered : (s : State) (window : Opportunity) (channel : Channel) → is_static window ≡ false
    → commit_offered s.plan s.entries window channel ≡ None → (o : Option ℕ)
    → offered_at s.plan s.entries window channel o ≡ Nothing
nothing_offered s window channel dynamic none None = refl
nothing_offered s window channel dynamic none (Some slot) =
    λ i. data_or (cond (not_owned s.plan window channel slot dynamic i) Null Nothing) (none i)

pub no_frame : (s : State) (window : Opportunity) (channel : Channel) (o : Option ℕ)
    → option_and_then (λ (slot : ℕ). frame_of_offer s.params s.plan s.entries window channel slot Nothing) o ≡ None
no_frame s window channel None = refl
no_frame s window channel (Some slot) = refl

pub offer_is : (s : State) (window : Opportunity) (channel : Channel)
    → offer_on channel (offer_of s window) ≡ bytes_of channel (frame_offered s.params s.plan s.entries window channel)
offer_is s window A = refl
offer_is s window B = refl

pub no_bytes : (s : State) (window : Opportunity) (channel : Channel) → is_static window ≡ false
    → commit_offered s.plan s.entries window channel ≡ None → offer_on channel (offer_of s window) ≡ None
no_bytes s window channel dynamic none =
    offer_is s window channel
    ∙ ap (λ (o : Offered). bytes_of channel (frame_with s.params s.plan s.entries window channel o))
    (nothing_offered s window channel dynamic none (slot_of window channel))
    ∙ ap (bytes_of channel) (no_frame s window channel (slot_of window channel))

-- the bytes of a commit's frame
pub data_bytes : (s : State) (window : Opportunity) (channel : Channel) (slot commit : ℕ)
    → slot_of window channel ≡ Some slot → offered s.plan s.entries window channel ≡ Data commit
    → offer_on channel (offer_of s window)
    ≡ bytes_of channel (frame_of_offer s.params s.plan s.entries window channel slot (Data commit))
data_bytes s window channel slot commit slot_is is =
    offer_is s window channel
    ∙ (λ i. bytes_of channel (option_and_then (λ (k : ℕ). frame_of_offer s.params s.plan s.entries window channel k
    (is i)) (slot_is i)))

-- ---- the same commits are ready after the window

pub unsent : (s : State) (window : Opportunity) → IsSilent s window → (commit : ℕ)
    → sends commit (fetch_entry s window) ≡ false
unsent s window silent commit =
    λ i. no_data s window A commit silent.on_a i || no_data s window B commit silent.on_b i

pub ready_after : (s t : State) (window : Opportunity) → IsSilent s window
    → IsObserved (fetched_by s window) t window → (m : Mode) (number : ℕ)
    → ready m number t.entries ≡ ready m number s.entries
ready_after s t window silent seen m number =
    ap (λ (x : State). ready m number x.entries) seen.is
    ∙ ready-same number (fetched_by s window).entries (Observe window.number seen.a seen.b) refl m (λ j last. refl)
    (λ j last. refl)
    ∙ ready-same number s.entries (fetch_entry s window) refl m (λ j last. unsent s window silent j)
    (λ j last. refl)

pub kept_after : (kept : Keeps) (s t : State) (window : Opportunity) → HasReady kept s → IsMute kept s.plan window
    → IsObserved (fetched_by s window) t window → HasReady kept t
kept_after kept s t window has mute seen m number sending =
    ready_after s t window (mute_is_silent kept s has window mute) seen m number ∙ has m number sending
