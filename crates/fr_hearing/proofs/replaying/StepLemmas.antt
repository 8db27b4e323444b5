-- The next window of a run that follows some frames: its frame is sent, or nothing is.
use Rattle.std.proofs.Common.{◌≡◌, ℕ, ◌+◌, ◌<◌, ◌≤◌, Bool, true, false, ◌&&◌, List, [], length, Option, Some, None}
use Rattle.std.proofs.Common.{refl, sym, ap, subst, ◌∙◌, arith, slice_get}
use Rattle.std.specs.Prelude.{nat_le}
use Rattle.std.proofs.lemmas.Bool.{cond-true, cond-false, le-leb, lt-leb, false_from_ne_true}
use Rattle.fr_bus.specs.declared.outcome.Sent.{Sent}
use Rattle.fr_bus.specs.Outcome.{all_passed, heard_of, received, overruns}
use Rattle.fr_bus.specs.Record.{Recorded, corrupt_on, heard}
use Rattle.fr_bus.specs.Windows.{following}
use Rattle.fr_core.proofs.CaseLemmas.{both}
use Rattle.fr_core.specs.Worlds.{WorldState}
use Rattle.fr_frame.specs.Fields.{Fields}
use Rattle.fr_guarantees.proofs.FollowingLemmas.{following_fits}
use Rattle.fr_guarantees.proofs.HeardLemmas.{longest_one}
use Rattle.fr_guarantees.proofs.HoldingLemmas.{nothing_kept}
use Rattle.fr_guarantees.proofs.OfferLemmas.{length-frame}
use Rattle.fr_guarantees.proofs.PassingLemmas.{IsAt, at_more}
use Rattle.fr_guarantees.proofs.SilenceLemmas.{not_owned}
use Rattle.fr_guarantees.specs.Exactness.{HasRoom}
use Rattle.fr_hearing.proofs.HearingLemmas.{ends, few_bytes}
use Rattle.fr_hearing.proofs.PassageLemmas.{IsLoud}
use Rattle.fr_hearing.proofs.replaying.GoneLemmas.{IsLone, IsGone, goes_quiet, goes_null, not_owner}
use Rattle.fr_hearing.proofs.replaying.SenderLemmas.{hand_static, hand_dynamic, hand_null}
use Rattle.fr_hearing.proofs.replaying.SentLemmas.{goes_sending}
use Rattle.fr_hearing.proofs.RunLaws.{due_in}
use Rattle.fr_hearing.specs.Heard.{Spot, IsOwners, IsDynamic, IsAllowed, IsAllowedAs}
use Rattle.fr_hearing.specs.Listening.{IsThere}
use Rattle.fr_hearing.specs.Offering.{IsDueThere}
use Rattle.fr_judging.specs.Rules.{due_at, due_or}
use Rattle.fr_logged.proofs.DueLemmas.{due_is_owners}
use Rattle.fr_logged.proofs.FirstLemmas.{some_found_in}
use Rattle.fr_logged.specs.declared.due.Due.{Due}
use Rattle.fr_logged.specs.Dues.{due_of, static_due, buffer_in}
use Rattle.fr_schedule.specs.Clusters.{IsCluster}
use Rattle.fr_schedule.specs.Descriptions.{Description}
use Rattle.fr_slots.proofs.PlaceLemmas.{same_some}
use Rattle.fr_slots.specs.declared.channel.Channel.{Channel}
use Rattle.fr_slots.specs.Faults.{claims, is_owned}
use Rattle.fr_slots.specs.Numbers.{last_slot}
use Rattle.fr_slots.specs.Parameters.{Parameters, is_static_slot}
use Rattle.fr_slots.specs.Plans.{Plan}
use Rattle.fr_slots.specs.Windows.{Opportunity, slot_of, is_static, window_fits}
use Rattle.fr_status.specs.declared.seen.Seen.TheVariants.{Silence, Overrun, Bytes}

-- ---- what a listener receives

pub silent_is : (p : Parameters) (channel : Channel) (r : Recorded) → all_passed channel r.sent ≡ []
    → heard p r channel ≡ Silence
silent_is p channel r e = ap (heard_of p r.window (corrupt_on r channel)) e

-- a listener receives this frame
pub record IsLoudAs (d : Description) (channel : Channel) (r : Recorded) (g : Fields) : Type 0 where
  pub loud : IsLoud d channel r
  pub frame_is : loud.frame ≡ g

pub loud_is : (d : Description) (channel : Channel) (r : Recorded) (g : Fields) (slot : ℕ) → IsCluster d
    → window_fits d.params r.window ≡ true → slot_of r.window channel ≡ Some slot → corrupt_on r channel ≡ None
    → IsThere d r.window channel slot g (is_static r.window) → IsLone channel r g → IsLoudAs d channel r g
loud_is d channel r g slot cluster fits slot_is whole there lone =
    let size : length lone.sender.bytes.items ≡ 8 + length g.payload =
    ap (λ (l : List ℕ). length l) lone.spelled ∙ length-frame g channel in
    let short : overruns d.params r.window (length lone.sender.bytes.items) ≡ false =
    ends d cluster r.window channel slot fits slot_is g (is_static r.window) refl there
    (length lone.sender.bytes.items) size in
    record {
      loud = record {
        slot = slot;
        slot_is = slot_is;
        bytes = lone.sender.bytes;
        frame = g;
        hears = ap (λ (ts : List Sent). heard_of d.params r.window (corrupt_on r channel) ts) lone.only
            ∙ ap (λ (c : Option ℕ). received d.params r.window c lone.sender.bytes) whole
            ∙ cond-false (overruns d.params r.window (length lone.sender.bytes.items)) Overrun
            (Bytes lone.sender.bytes) short;
        spelled = lone.spelled;
        is_there = there;
        size = longest_one channel r.sent lone.sender lone.only ∙ size;
        few = few_bytes d cluster r.window channel slot fits slot_is g (is_static r.window) refl there;
      };
      frame_is = refl;
    }

-- ---- what is due

pub due_of_none : (d : Description) (slot : ℕ) (channel : Channel) (cycle : ℕ) → 1 ≤ slot → slot ≤ 2047
    → due_at d slot channel cycle ≡ None → due_of d slot channel cycle ≡ None
due_of_none d slot channel cycle some few e =
    sym (ap (due_or d channel cycle) (cond-true (nat_le 1 slot && nat_le slot last_slot) (Some slot) None
    (both (nat_le 1 slot) (nat_le slot last_slot) (le-leb 1 slot some) (le-leb slot last_slot few)))) ∙ e

nobody_owns : (d : Description) (slot : ℕ) (channel : Channel) (cycle n : ℕ) (plan : Plan) → IsCluster d → cycle < 64
    → is_static_slot d.params slot ≡ true → due_of d slot channel cycle ≡ None → slice_get d.plans n ≡ Some plan
    → is_owned plan.owned slot channel cycle ≡ false
nobody_owns d slot channel cycle n plan cluster fits static none at =
    false_from_ne_true (is_owned plan.owned slot channel cycle) owned
  where
    owned : is_owned plan.owned slot channel cycle ≡ true → ⊥
    owned is =
        let own = some_found_in (claims slot channel cycle) plan.owned is in
        let due = due_is_owners d slot channel cycle n plan own.value cluster.one_sender fits static at own.is in
        let no : None ≡ Some (static_due d.params n plan own.value (buffer_in slot channel cycle plan)) =
        sym none ∙ due in
        let wrong : ⊥ = cc in wrong

-- the frame is allowed in a static slot, or in a dynamic one
pub record IsDueOwners (d : Description) (channel : Channel) (g : Fields) : Type 0 where
  pub due : Due
  pub due_is : due_of d g.id channel g.cycle ≡ Some due
  pub owners : IsOwners due g

pub static_allowed : (d : Description) (channel : Channel) (s : Spot) (g : Fields) → IsAllowed d channel s g
    → g.id ≤ d.params.static_slots → IsDueOwners d channel g
static_allowed d channel s g is static = record {
  due = is.due;
  due_is = (due_in d g.id channel g.cycle is.due is.due_is).due_is;
  owners = subst (IsAllowedAs d.params is.due s g) (le-leb g.id d.params.static_slots static) is.allowed;
}

pub record IsDueSenders (d : Description) (channel : Channel) (s : Spot) (g : Fields) : Type 0 where
  pub due : Due
  pub due_is : due_of d g.id channel g.cycle ≡ Some due
  pub few : g.id ≤ 2047
  pub senders : IsDynamic d.params due s g

pub dynamic_allowed : (d : Description) (channel : Channel) (s : Spot) (g : Fields) → IsAllowed d channel s g
    → d.params.static_slots < g.id → IsDueSenders d channel s g
dynamic_allowed d channel s g is above =
    let due = due_in d g.id channel g.cycle is.due is.due_is in
    record {
      due = is.due;
      due_is = due.due_is;
      few = due.few;
      senders = subst (IsAllowedAs d.params is.due s g) (lt-leb g.id d.params.static_slots above) is.allowed;
    }

-- ---- a window

module _ (d : Description) (lawful : IsCluster d) (cycles most : ℕ) (room : HasRoom d cycles most) (channel : Channel)
    (calls : ℕ) (w : WorldState) (here : IsAt d cycles nothing_kept calls w) (window : Opportunity)
    (next : following d.params cycles w.bus.sealed ≡ Some window) where
  pub fits_here : window_fits d.params window ≡ true
  fits_here = (following_fits d.params cycles w.bus.sealed window
      (omega (arith, here.course.lawful.static_slots_fit.from_least)) next).fits

  -- a static window without an owner
  pub free_static : (slot : ℕ) → is_static window ≡ true → slot_of window channel ≡ Some slot
      → is_static_slot d.params slot ≡ true → window.cycle < 64 → due_of d slot channel window.cycle ≡ None
      → IsGone d cycles calls w window channel None
  free_static slot static slot_is static_slot fits none =
      goes_quiet d lawful cycles most room calls w here window next channel
      (λ n k plan at k_is. not_owner plan window channel k
      (subst (λ (m : ℕ). is_owned plan.owned m channel window.cycle ≡ false) (same_some slot k (sym slot_is ∙ k_is))
      (nobody_owns d slot channel window.cycle n plan lawful fits static_slot none at)))

  -- a dynamic window in which no host commits anything
  pub free_dynamic : is_static window ≡ false → IsGone d cycles calls w window channel None
  free_dynamic dynamic =
      goes_quiet d lawful cycles most room calls w here window next channel
      (λ n k plan at k_is. not_owned plan window channel k dynamic)

  gone_more : (o : Option Fields) → IsGone d cycles calls w window channel o
      → IsGone d cycles (calls + 3) w window channel o
  gone_more o gone = record {
    world = gone.world;
    leads = gone.leads;
    is_at = at_more d cycles nothing_kept calls (calls + 3) gone.world (omega arith) gone.is_at;
    recorded = gone.recorded;
    sealed = gone.sealed;
    window_is = gone.window_is;
    whole = gone.whole;
    passed_as = gone.passed_as;
  }

  module _ (few : calls + 3 ≤ most) (slot : ℕ) (slot_is : slot_of window channel ≡ Some slot)
      (fits : window.cycle < 64) (g : Fields) (id_is : g.id ≡ slot) (cycle_is : g.cycle ≡ window.cycle) where
    -- the frame of a static slot's owner
    pub owners_gone : is_static window ≡ true → is_static_slot d.params slot ≡ true → (x : Due)
        → due_of d slot channel window.cycle ≡ Some x → IsOwners x g
        → IsGone d cycles (calls + 3) w window channel (Some g)
    owners_gone static static_slot x due owners = by g.has_data refl
      where
        by : (b : Bool) → g.has_data ≡ b → IsGone d cycles (calls + 3) w window channel (Some g)
        by true has = goes_sending d lawful cycles most room channel calls few w here window next slot slot_is fits g
            (hand_static d window channel slot g x due id_is cycle_is static static_slot owners has)
            (λ still. static_slot)
        by false null = gone_more (Some g) (goes_null d lawful cycles most room calls w here window next channel slot g
            slot_is static static_slot fits
            (hand_null d window channel slot g x due id_is cycle_is static static_slot owners null))

    -- the frame of a dynamic slot's sender
    pub senders_gone : is_static window ≡ false → is_static_slot d.params slot ≡ false
        → IsDueThere d window channel slot g → IsGone d cycles (calls + 3) w window channel (Some g)
    senders_gone dynamic dynamic_slot there =
        goes_sending d lawful cycles most room channel calls few w here window next slot slot_is fits g
        (hand_dynamic d window channel slot g there.due there.due_is id_is cycle_is dynamic dynamic_slot there.has_data
        there.no_sync there.no_startup there.words there.preamble there.in_time)
        (λ static. absurd (let none : ⊥ = cc in none))
