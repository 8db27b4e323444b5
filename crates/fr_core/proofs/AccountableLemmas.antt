-- The offers of an owner in its static slots are those of its account.
use Rattle.std.proofs.Common.{◌≡◌, ℕ, ◌*◌, ◌%◌, Bool, true, false, not, cond, ◌&&◌, ◌||◌, List, [], ◌∷◌, ◌++◌}
use Rattle.std.proofs.Common.{replicate, Option, Some, None, refl, sym, ap, subst, ◌∙◌, option_map, slice_get}
use Rattle.std.specs.Prelude.{◌==◌, nat_le, is_some}
use Rattle.std.specs.List.{position}
use Rattle.std.specs.Option.{option_and_then}
use Rattle.std.proofs.lemmas.Bool.{eq-eqb}
use Rattle.std.proofs.lemmas.List.Folds.{Any-from_list_any}
use Rattle.std.proofs.lemmas.List.Quantifiers.{position-Some}
use Rattle.std.proofs.lemmas.Option.{slice_get-get_or}
use Rattle.fr_core.specs.Accounts.{account, left_over, left_over_in, turn_of, frame_by, frame_by_account}
use Rattle.fr_core.specs.Receivers.{offered_on}
use Rattle.fr_slots.proofs.PlaceLemmas.{AllAfter-front, same_some, AllAfter-cut}
use Rattle.fr_core.proofs.TimingLemmas.{IsTimed}
use Rattle.fr_core.proofs.CaseLemmas.{both, both_first, both_rest}
use Rattle.fr_core.proofs.HandingLemmas.{offer_is}
use Rattle.fr_core.proofs.SendingLemmas.{found_in, account_is_ready}
use Rattle.fr_core.proofs.TakingLemmas.{transmitter_admits, transmitter_transmits}
use Rattle.fr_frame.specs.Fields.{Fields}
use Rattle.fr_interface.specs.State.{State, IsLegalInterface}
use Rattle.fr_journal.specs.Forms.{Entry}
use Rattle.fr_journal.specs.declared.entry.Entry.TheVariants.{Fetch}
use Rattle.fr_journal.specs.declared.entry.Offered.{Offered}
use Rattle.fr_journal.specs.declared.entry.Offered.TheVariants.{Nothing, Null}
use Rattle.fr_journal.specs.Entries.{IsEntry}
use Rattle.fr_slots.specs.Windows.{static_slot_fits, dynamic_slot_fits, window_fits, Opportunity, slot_of, is_static}
use Rattle.fr_journal.specs.Legal.{IsLegal, IsLegalFetch, AreEntries}
use Rattle.fr_slots.specs.Plans.{admits_slot, buffer_at, Plan, is_receive}
use Rattle.fr_journal.specs.Offers.{transmitter, ready, ready_in, ownership, line_of, data_or, offered_at, offered}
use Rattle.fr_journal.specs.Offers.{payload_of, sync_of, startup_of, preamble_of, null_frame, data_frame_of}
use Rattle.fr_journal.specs.Offers.{frame_of_offer, frame_with, bytes_of}
use Rattle.fr_slots.specs.declared.channel.Channel.{Channel}
use Rattle.fr_slots.specs.declared.channel.Channel.TheVariants.{A, B}
use Rattle.fr_slots.specs.declared.plan.Buffer.{Buffer}
use Rattle.fr_slots.specs.declared.plan.Own.{Own}
use Rattle.fr_slots.specs.Faults.{claims, is_owned, transmits, latest_on, HasOneSender}
use Rattle.fr_slots.specs.Parameters.{is_static_slot, Parameters}
use Rattle.fr_slots.specs.History.{AllAfter}
use Rattle.fr_slots.proofs.FaultlessLemmas.{faultless}

-- ---- the window of a turn

turn_slot : (slot cycle : ℕ) (channel : Channel) → slot_of (turn_of slot cycle) channel ≡ Some slot
turn_slot slot cycle A = refl
turn_slot slot cycle B = refl

transmitter_same : (plan : Plan) (w : Opportunity) (channel : Channel) (slot cycle : ℕ) → slot_of w channel ≡ Some slot
    → w.cycle ≡ cycle % 64
    → transmitter plan w channel ≡ transmitter plan (turn_of slot cycle) channel
transmitter_same plan w channel slot cycle is timed =
    ap (λ (c : ℕ). position (λ (b : Buffer). transmits b && admits_slot b.filter c channel (slot_of w channel))
    plan.buffers) timed
    ∙ ap (λ (o : Option ℕ). position (λ (b : Buffer). transmits b && admits_slot b.filter (cycle % 64) channel o)
    plan.buffers) (is ∙ sym (turn_slot slot cycle channel))

-- ---- owners

owner_line : (owned : List Own) (slot : ℕ) (channel : Channel) (cycle : ℕ) → is_owned owned slot channel cycle ≡ true
    → is_some (ownership owned slot channel cycle) ≡ true
owner_line owned slot channel cycle e =
    let (k, own, below, is, claimed) = Any-from_list_any (claims slot channel cycle) owned e in
    let found = found_in (claims slot channel cycle) owned k own (position (claims slot channel cycle) owned) refl
    (slice_get-get_or owned k own below ∙ ap (λ (o : Own). Some o) is) claimed in
    let first = position-Some (claims slot channel cycle) owned found.place own found.at in
    ap (λ (o : Option ℕ). is_some (option_and_then (slice_get owned) o)) found.at ∙ ap is_some
    (slice_get-get_or owned found.place own first.0)

-- an owner offers the commit that is ready, or a null frame
offers : (plan : Plan) (before : List Entry) (w : Opportunity) (channel : Channel) (slot : ℕ) → is_static w ≡ true
    → slot_of w channel ≡ Some slot → is_owned plan.owned slot channel w.cycle ≡ true
    → offered plan before w channel ≡ data_or Null (option_and_then (ready_in plan before) (transmitter plan w channel))
offers plan before w channel slot still is owned =
    let ready_there = option_and_then (ready_in plan before) (transmitter plan w channel) in
    ap (offered_at plan before w channel) is
    ∙ ap (λ (t : Bool). data_or (cond (is_some (cond t (ownership plan.owned slot channel w.cycle) None)) Null Nothing)
    (cond (t || nat_le w.minislot (latest_on plan channel)) ready_there None)) still
    ∙ ap (λ (t : Bool). data_or (cond t Null Nothing) ready_there) (owner_line plan.owned slot channel w.cycle owned)

-- ---- the frames

module _ (p : Parameters) (plan : Plan) (before : List Entry) (w : Opportunity) (channel : Channel) (slot cycle : ℕ)
    (still : is_static w ≡ true) (is : slot_of w channel ≡ Some slot) (timed : w.cycle ≡ cycle % 64) where
  line_same : line_of plan w channel slot ≡ line_of plan (turn_of slot cycle) channel slot
  line_same = ap (λ (t : Bool). cond t (ownership plan.owned slot channel w.cycle) None) still ∙ ap
      (ownership plan.owned slot channel) timed

  null_same : null_frame p plan w channel slot ≡ null_frame p plan (turn_of slot cycle) channel slot
  null_same =
      let frame : Option Own → ℕ → Fields = λ o c. record {
        preamble = false;
        has_data = false;
        sync = sync_of o;
        startup = startup_of o;
        id = slot;
        payload = replicate (2 * p.static_words) 0;
        cycle = c;
      } in
      ap (λ (o : Option Own). frame o w.cycle) line_same ∙ ap
      (frame (line_of plan (turn_of slot cycle) channel slot)) timed

  data_same : (number : ℕ) → data_frame_of plan before w channel slot number ≡ frame_by p plan
      (turn_of slot cycle) channel slot (Some (payload_of before number))
  data_same number =
      let frame : Option ℕ → Option Own → ℕ → Fields = λ t o c. record {
        preamble = preamble_of (option_and_then (buffer_at plan) t);
        has_data = true;
        sync = sync_of o;
        startup = startup_of o;
        id = slot;
        payload = payload_of before number;
        cycle = c;
      } in
      ap (λ (t : Option ℕ). frame t (line_of plan w channel slot) w.cycle)
      (transmitter_same plan w channel slot cycle is timed)
      ∙ ap (λ (o : Option Own). frame (transmitter plan (turn_of slot cycle) channel) o w.cycle) line_same
      ∙ ap (frame (transmitter plan (turn_of slot cycle) channel) (line_of plan (turn_of slot cycle) channel slot))
      timed

  frame_cases : (o : Option ℕ) (l : Option (List ℕ)) → l ≡ option_map (payload_of before) o
      → frame_of_offer p plan before w channel slot (data_or Null o) ≡ Some
      (frame_by p plan (turn_of slot cycle) channel slot l)
  frame_cases None l e = ap (λ (f : Fields). Some f) null_same ∙ ap
      (λ (x : Option (List ℕ)). Some (frame_by p plan (turn_of slot cycle) channel slot x)) (sym e)
  frame_cases (Some number) l e = ap (λ (f : Fields). Some f) (data_same number) ∙ ap
      (λ (x : Option (List ℕ)). Some (frame_by p plan (turn_of slot cycle) channel slot x)) (sym e)

-- ---- the commit that the transmitter has ready, and its account

static_on : (p : Parameters) (w : Opportunity) (channel : Channel) (slot : ℕ) → is_static w ≡ true
    → slot_of w channel ≡ Some slot → window_fits p w ≡ true → is_static_slot p slot ≡ true
static_on p w channel slot still is fits =
    on channel is (ap (λ (t : Bool). cond t (static_slot_fits p w.a && static_slot_fits p w.b)
    (nat_le w.minislot p.minislots && dynamic_slot_fits p w.a && dynamic_slot_fits p w.b)) (sym still) ∙ fits)
  where
    on : (c : Channel) → slot_of w c ≡ Some slot → (static_slot_fits p w.a && static_slot_fits p w.b) ≡ true
        → is_static_slot p slot ≡ true
    on A e h = ap (static_slot_fits p) (sym e) ∙ both_first (static_slot_fits p w.a) (static_slot_fits p w.b) h
    on B e h = ap (static_slot_fits p) (sym e) ∙ both_rest (static_slot_fits p w.a) (static_slot_fits p w.b) h

no_receive : (b : Bool) → not b ≡ true → b ≡ false
no_receive false e = refl
no_receive true e = absurd (let none : ⊥ = cc in none)

module _ (p : Parameters) (plan : Plan) (before : List Entry) (w : Opportunity) (channel : Channel) (slot : ℕ)
    (is : slot_of w channel ≡ Some slot) (static : is_static_slot p slot ≡ true) (one : HasOneSender plan)
    (legal : AllAfter (IsLegal p plan) [] before) (ranges : AllAfter
    (λ (b : List Entry) (e : Entry). IsEntry e) [] before) (timed : (s : ℕ) → AllAfter (IsTimed s) [] before) where
  of_buffer : (k : ℕ) (found : Option Buffer) → buffer_at plan k ≡ found → transmitter plan w channel ≡ Some k
      → option_and_then (λ (b : Buffer). left_over b k (account plan slot before)) found ≡ option_map
      (payload_of before) (option_and_then (λ (b : Buffer). ready b.mode k before) found)
  of_buffer k None at e = refl
  of_buffer k (Some b) at e =
      let a = transmitter_admits plan w channel k b e at in
      let same : b.filter.slot ≡ slot = same_some b.filter.slot slot (sym a.slot_is ∙ is) in
      let sends_it : transmits b ≡ true = transmitter_transmits plan w channel k b e at in
      ap (λ (s : ℕ). left_over b k (account plan s before)) (sym same)
      ∙ account_is_ready p plan k b at (ap (is_static_slot p) same ∙ static) sends_it one
      (both (transmits b) (b.filter.slot == b.filter.slot) sends_it (eq-eqb b.filter.slot b.filter.slot refl))
      (no_receive (is_receive b.mode) sends_it) before legal ranges (timed b.filter.slot)

  of_transmitter : (t : Option ℕ) → transmitter plan w channel ≡ t
      → option_and_then (left_over_in plan (account plan slot before)) t ≡ option_map (payload_of before)
      (option_and_then (ready_in plan before) t)
  of_transmitter None e = refl
  of_transmitter (Some k) e = of_buffer k (buffer_at plan k) refl e

-- The node's offer in each window of a static slot that it owns in the window's cycle is the one of its account, if the
-- windows before it were timed.
abbrev pub IsAccountable : State → Type 0
IsAccountable s = (before after : List Entry) (w : Opportunity) (a b : Offered) (channel : Channel) (slot cycle : ℕ)
    → s.entries ≡ before ++ Fetch w a b ∷ after
    → ((n : ℕ) → AllAfter (IsTimed n) [] before) → is_static w ≡ true
    → slot_of w channel ≡ Some slot → is_owned s.plan.owned slot channel w.cycle ≡ true → w.cycle ≡ cycle % 64
    → bytes_of channel (frame_with s.params s.plan before w channel (offered_on channel a b))
    ≡ bytes_of channel (Some (frame_by_account s.params s.plan slot channel cycle (account s.plan slot before)))

pub accountable : (s : State) → IsLegalInterface s → IsAccountable s
accountable s lawful before after w a b channel slot cycle cut timed still is owned at_cycle =
    let rest = Fetch w a b ∷ after in
    let legal_all = subst (λ (l : List Entry). AllAfter (IsLegal s.params s.plan) [] l) cut lawful.legal in
    let ranges_all = subst (λ (l : List Entry). AreEntries l) cut lawful.entries_are in
    let legal : IsLegalFetch s.params s.plan before w a b = AllAfter-cut (IsLegal s.params s.plan) [] before
    (Fetch w a b) after legal_all in
    let one = (faultless s.params s.plan lawful.faultless).one_sender in
    let left = of_transmitter s.params s.plan before w channel slot is
    (static_on s.params w channel slot still is legal.fits) one
    (AllAfter-front (IsLegal s.params s.plan) [] before rest legal_all)
    (AllAfter-front (λ (x : List Entry) (e : Entry). IsEntry e) [] before rest ranges_all)
    timed (transmitter s.plan w channel) refl in
    ap (λ (o : Offered). bytes_of channel (frame_with s.params s.plan before w channel o))
    (sym (offer_is s before w a b channel legal) ∙ offers s.plan before w channel slot still is owned)
    ∙ ap (λ (x : Option ℕ). bytes_of channel (option_and_then
    (λ n. frame_of_offer s.params s.plan before w channel n
    (data_or Null (option_and_then (ready_in s.plan before) (transmitter s.plan w channel)))) x)) is
    ∙ ap (bytes_of channel) (
    frame_cases s.params s.plan before w channel slot cycle still is at_cycle
    (option_and_then (ready_in s.plan before) (transmitter s.plan w channel))
    (option_and_then (left_over_in s.plan (account s.plan slot before)) (transmitter s.plan w channel)) left
    ∙ ap (λ (t : Option ℕ). Some (frame_by s.params s.plan (turn_of slot cycle) channel slot
    (option_and_then (left_over_in s.plan (account s.plan slot before)) t)))
    (transmitter_same s.plan w channel slot cycle is at_cycle)
    )
