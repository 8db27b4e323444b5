-- A transmit buffer for both channels offers the same on both.
use Rattle.std.proofs.Common.{◌≡◌, ℕ, ◌*◌, ◌<◌, Bool, true, false, cond, ◌&&◌, List, refl, sym, ap, ◌∙◌, Option, Some}
use Rattle.std.proofs.Common.{None, replicate, slice_get}
use Rattle.std.proofs.lemmas.Bool.{eqb-true}
use Rattle.std.specs.Option.{option_and_then}
use Rattle.std.specs.Prelude.{is_some, nat_le, ◌==◌, ◌||◌}
use Rattle.std.proofs.lemmas.Map.Keys.{any_passes_from_place}
use Rattle.fr_core.proofs.CaseLemmas.{both, both_first, both_rest}
use Rattle.fr_frame.specs.Fields.{Fields}
use Rattle.fr_hearing.proofs.OfferLaws.{transmitter_is}
use Rattle.fr_hearing.proofs.pairing.ViewLemmas.{Alike}
use Rattle.fr_hearing.proofs.SizeLemmas.{found_at}
use Rattle.fr_journal.specs.declared.entry.Offered.TheVariants.{Nothing, Null}
use Rattle.fr_journal.specs.Forms.{Entry}
use Rattle.fr_journal.specs.Offers.{transmitter, commit_offered, ready_in, owns, data_or, offered, offered_at}
use Rattle.fr_journal.specs.Offers.{payload_of, null_frame, data_frame_of, frame_of_offer, frame_with}
use Rattle.fr_logged.proofs.FirstLemmas.{some_found_in}
use Rattle.fr_logged.specs.Dues.{buffer_in, is_both, is_for_both}
use Rattle.fr_slots.proofs.FaultlessLemmas.{faultless}
use Rattle.fr_slots.proofs.PlaceLemmas.{same_some}
use Rattle.fr_slots.specs.Admission.{includes, cycle_admitted}
use Rattle.fr_slots.specs.declared.channel.Channel.{Channel}
use Rattle.fr_slots.specs.declared.channel.Channels.{Channels}
use Rattle.fr_slots.specs.declared.channel.Channels.TheVariants as channels
use Rattle.fr_slots.specs.declared.plan.Buffer.{Buffer}
use Rattle.fr_slots.specs.Faults.{transmits, transmits_static, sends_at, is_owned, plan_fault, latest_on}
use Rattle.fr_slots.specs.Numbers.{IsSlot}
use Rattle.fr_slots.specs.Parameters.{Parameters, is_static_slot}
use Rattle.fr_slots.specs.Plans.{Plan, buffer_at}
use Rattle.fr_slots.specs.Windows.{Opportunity, slot_of, is_static}

-- ---- a buffer for both channels

-- the node's transmit buffer in the slot on the channel is for both channels
pub record IsTwin (slot : ℕ) (channel : Channel) (cycle : ℕ) (plan : Plan) : Type 0 where
  pub buffer : Buffer
  pub found : buffer_in slot channel cycle plan ≡ Some buffer
  pub both : buffer.filter.channels ≡ channels.Both

pub is_twin : (slot : ℕ) (channel : Channel) (cycle : ℕ) (plan : Plan)
    → is_for_both (buffer_in slot channel cycle plan) ≡ true → IsTwin slot channel cycle plan
is_twin slot channel cycle plan e = by (buffer_in slot channel cycle plan) refl e
  where
    both_is : (c : Channels) → is_both c ≡ true → c ≡ channels.Both
    both_is channels.A f = absurd (let none : ⊥ = cc in none)
    both_is channels.B f = absurd (let none : ⊥ = cc in none)
    both_is channels.Both f = refl

    by : (o : Option Buffer) → buffer_in slot channel cycle plan ≡ o → is_for_both o ≡ true
        → IsTwin slot channel cycle plan
    by None is f = absurd (let none : ⊥ = cc in none)
    by (Some b) is f = record { buffer = b; found = is; both = both_is b.filter.channels f }

-- it sends on the other channel as well
pub sends_there : (slot : ℕ) (here there : Channel) (cycle : ℕ) (b : Buffer) → b.filter.channels ≡ channels.Both
    → sends_at slot here cycle b ≡ true → sends_at slot there cycle b ≡ true
sends_there slot here there cycle b both sends =
    let on = λ (c : Channels) (channel : Channel). transmits b
    && (b.filter.slot == slot && includes c channel && cycle_admitted b.filter.cycles cycle) in
    ap (λ (c : Channels). on c there) both ∙ sym (ap (λ (c : Channels). on c here) both) ∙ sends

-- its node owns the slot there
pub owned_there : (p : Parameters) (plan : Plan) (slot : ℕ) (here there : Channel) (cycle : ℕ)
    → plan_fault p plan ≡ None → cycle < 64 → is_static_slot p slot ≡ true → IsTwin slot here cycle plan
    → is_owned plan.owned slot there cycle ≡ true
owned_there p plan slot here there cycle fine fits static twin =
    let b : Buffer = twin.buffer in
    let place = found_at (sends_at slot here cycle) plan.buffers twin.buffer twin.found in
    let front : Bool = b.filter.slot == slot && includes b.filter.channels here in
    let admits = both_rest (transmits b) (front && cycle_admitted b.filter.cycles cycle) place.passes in
    let same : b.filter.slot ≡ slot = eqb-true b.filter.slot slot
    (both_first (b.filter.slot == slot) (includes b.filter.channels here)
    (both_first front (cycle_admitted b.filter.cycles cycle) admits)) in
    let sends : transmits_static p b ≡ true = both (transmits b) (is_static_slot p b.filter.slot)
    (both_first (transmits b) (front && cycle_admitted b.filter.cycles cycle) place.passes)
    (ap (is_static_slot p) same ∙ static) in
    let fit = (faultless p plan fine).static_fit place.place twin.buffer place.at sends in
    ap (λ (n : ℕ). is_owned plan.owned n there cycle) (sym same)
    ∙ fit.owned there cycle fits (ap (λ (c : Channels). includes c there) twin.both)
    (both_rest front (cycle_admitted b.filter.cycles cycle) admits)

-- ---- the transmitter

record IsTransmitter (plan : Plan) (w : Opportunity) (channel : Channel) (slot : ℕ) (b : Buffer) : Type 0 where
  number : ℕ
  is : transmitter plan w channel ≡ Some number
  at : slice_get plan.buffers number ≡ Some b
  sends : sends_at slot channel w.cycle b ≡ true

transmitter_of : (plan : Plan) (w : Opportunity) (channel : Channel) (slot : ℕ) (b : Buffer)
    → slot_of w channel ≡ Some slot → buffer_in slot channel w.cycle plan ≡ Some b
    → IsTransmitter plan w channel slot b
transmitter_of plan w channel slot b slot_is found =
    by (transmitter plan w channel) refl (sym (transmitter_is plan w channel slot slot_is) ∙ found)
  where
    by : (o : Option ℕ) → transmitter plan w channel ≡ o → option_and_then (buffer_at plan) o ≡ Some b
        → IsTransmitter plan w channel slot b
    by None is e = absurd (let none : ⊥ = cc in none)
    by (Some n) is e = record {
      number = n;
      is = is;
      at = e;
      sends = (found_at (sends_at slot channel w.cycle) plan.buffers b found).passes;
    }

module _ (p : Parameters) (plan : Plan) (w : Opportunity) (slot : ℕ) (here there : Channel)
    (fine : plan_fault p plan ≡ None) (fits : w.cycle < 64) (is_slot : IsSlot slot)
    (slot_here : slot_of w here ≡ Some slot) (slot_there : slot_of w there ≡ Some slot)
    (twin : IsTwin slot here w.cycle plan) where
  same_transmitter : transmitter plan w here ≡ transmitter plan w there
  same_transmitter =
      let x = transmitter_of plan w here slot twin.buffer slot_here twin.found in
      let sends = sends_there slot here there w.cycle twin.buffer twin.both x.sends in
      let other = some_found_in (sends_at slot there w.cycle) plan.buffers
      (any_passes_from_place (sends_at slot there w.cycle) plan.buffers x.number twin.buffer x.at sends) in
      let y = transmitter_of plan w there slot other.value slot_there other.is in
      let same : x.number ≡ y.number = (faultless p plan fine).one_sender slot there w.cycle x.number y.number
      twin.buffer other.value fits is_slot (record { at = x.at; sends = sends })
      (record { at = y.at; sends = y.sends }) in
      x.is ∙ ap Some same ∙ sym y.is

  -- ---- the commit

  commit_static : (before : List Entry) (channel : Channel) → is_static w ≡ true
      → commit_offered plan before w channel
      ≡ option_and_then (ready_in plan before) (transmitter plan w channel)
  commit_static before channel static =
      ap (λ (b : Bool). cond (b || nat_le w.minislot (latest_on plan channel))
      (option_and_then (ready_in plan before) (transmitter plan w channel)) None) static

  same_commit : (before : List Entry) → is_static w ≡ true
      → commit_offered plan before w here ≡ commit_offered plan before w there
  same_commit before static =
      commit_static before here static ∙ ap (option_and_then (ready_in plan before)) same_transmitter
      ∙ sym (commit_static before there static)

  -- ---- the frame

  abbrev payload_by : List Entry → Option ℕ → List ℕ
  payload_by before None = replicate (2 * p.static_words) 0
  payload_by before (Some commit) = payload_of before commit

  -- the data of this commit, or a null frame
  record Carries (before : List Entry) (o : Option ℕ) (f : Fields) : Type 0 where
    has_data : is_some o ≡ f.has_data
    payload : payload_by before o ≡ f.payload

  carries : (before : List Entry) (channel : Channel) (f : Fields) → slot_of w channel ≡ Some slot
      → frame_with p plan before w channel (offered plan before w channel) ≡ Some f
      → Carries before (commit_offered plan before w channel) f
  carries before channel f slot_is handed =
      by (owns plan w channel slot) (commit_offered plan before w channel)
      (sym (ap (λ (o : Option ℕ). option_and_then (λ (k : ℕ). frame_of_offer p plan before w channel k
      (offered_at plan before w channel o)) o) slot_is) ∙ handed)
    where
      by : (own : Bool) (o : Option ℕ)
          → frame_of_offer p plan before w channel slot (data_or (cond own Null Nothing) o) ≡ Some f
          → Carries before o f
      by true None e = record {
        has_data = ap (λ (x : Fields). x.has_data) (same_some (null_frame p plan w channel slot) f e);
        payload = ap (λ (x : Fields). x.payload) (same_some (null_frame p plan w channel slot) f e);
      }
      by false None e = absurd (let none : ⊥ = cc in none)
      by own (Some commit) e = record {
        has_data = ap (λ (x : Fields). x.has_data)
            (same_some (data_frame_of plan before w channel slot commit) f e);
        payload = ap (λ (x : Fields). x.payload) (same_some (data_frame_of plan before w channel slot commit) f e);
      }

  -- the frames on both channels have the same data
  pub offers_alike : (before : List Entry) (f g : Fields) → is_static w ≡ true
      → frame_with p plan before w here (offered plan before w here) ≡ Some f
      → frame_with p plan before w there (offered plan before w there) ≡ Some g → Alike f g
  offers_alike before f g static handed_f handed_g =
      let x = carries before here f slot_here handed_f in
      let y = carries before there g slot_there handed_g in
      let same = same_commit before static in
      record {
        has_data = sym x.has_data ∙ ap (λ (o : Option ℕ). is_some o) same ∙ y.has_data;
        payload = sym x.payload ∙ ap (payload_by before) same ∙ y.payload;
      }
