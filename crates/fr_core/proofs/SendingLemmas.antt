-- A window that a static transmit buffer admits sends its ready commit, so the account's remainder is that commit.
use Rattle.std.proofs.Common.{◌≡◌, ◌<◌, ℕ, ◌%◌, Bool, true, false, cond, ◌&&◌, ◌||◌, List, [], ◌∷◌, ◌++◌, Option}
use Rattle.std.proofs.Common.{Some, None, refl, sym, ap, subst, ◌∙◌, slice_get, get_or, option_map}
use Rattle.std.specs.Prelude.{◌==◌, nat_le}
use Rattle.std.specs.List.{position}
use Rattle.std.specs.Option.{option_and_then}
use Rattle.std.proofs.lemmas.Bool.{eqb-true, eq-eqb}
use Rattle.std.proofs.lemmas.Iterator.Adapters.{position_from-zero}
use Rattle.std.proofs.lemmas.List.Quantifiers.{position-Some}
use Rattle.std.proofs.lemmas.Option.{slice_get-get_or}
use Rattle.fr_core.proofs.TimingLemmas.{IsTimed}
use Rattle.fr_core.specs.Accounts.{is_slot_at, is_window_of, is_buffer_of, account, is_turn_of, left_over}
use Rattle.fr_journal.specs.Cycles.{run_cycle}
use Rattle.fr_core.proofs.LeftOverLemmas.{Takes, IsTaking, left_over_is}
use Rattle.fr_core.proofs.CaseLemmas.{both, both_first, both_rest, differ}
use Rattle.fr_core.proofs.TakingLemmas.{unsent, sent_is_ready}
use Rattle.fr_journal.specs.Forms.{Entry}
use Rattle.fr_journal.specs.declared.entry.Entry.TheVariants.{Commit, Withdraw, Read, Pop, Fetch, Observe}
use Rattle.fr_journal.specs.declared.entry.Offered.{Offered}
use Rattle.fr_journal.specs.declared.entry.Offered.TheVariants.{Nothing, Null, Data}
use Rattle.fr_journal.specs.Entries.{IsEntry}
use Rattle.fr_journal.specs.Fate.{is_data_of, sends}
use Rattle.fr_journal.specs.Legal.{IsLegal, IsLegalFetch}
use Rattle.fr_slots.specs.Plans.{admits_slot, buffer_at, Plan, is_receive}
use Rattle.fr_journal.specs.Offers.{is_admitting, transmitter, may_begin, ready, ready_in, owns, data_or, offered_at}
use Rattle.fr_journal.specs.Offers.{offered, payload_of}
use Rattle.fr_slots.specs.Admission.{includes, cycle_admitted}
use Rattle.fr_slots.specs.declared.channel.Channel.{Channel}
use Rattle.fr_slots.specs.declared.channel.Channel.TheVariants.{A, B}
use Rattle.fr_slots.specs.declared.channel.Channels.{Channels}
use Rattle.fr_slots.specs.declared.channel.Channels.TheVariants as channels
use Rattle.fr_slots.specs.declared.plan.Buffer.{Buffer}
use Rattle.fr_slots.specs.Faults.{transmits, sends_at, latest_on, HasOneSender}
use Rattle.fr_slots.specs.Parameters.{is_static_slot, Parameters}
use Rattle.fr_slots.specs.History.{AllAfter}
use Rattle.fr_slots.specs.Numbers.{IsSlot}
use Rattle.fr_slots.specs.Windows.{Opportunity, IsInRange, IsSlotOrNone, slot_of, is_static}
use Rattle.fr_slots.proofs.FaultlessLemmas.{position_from-none}

-- ---- the first item that passes

pub record IsFound {X : Type 0} (test : X → Bool) (xs : List X) : Type 0 where
  pub place : ℕ
  pub at : position test xs ≡ Some place

pub found_in : {X : Type 0} (test : X → Bool) (xs : List X) (k : ℕ) (x : X) (o : Option ℕ) → position test xs ≡ o
    → slice_get xs k ≡ Some x → test x ≡ true → IsFound test xs
found_in test xs k x None is at passes = differ passes (position_from-none test 0 xs k x
    (sym (position_from-zero test xs) ∙ is) at)
found_in test xs k x (Some j) is at passes = record { place = j; at = is }

-- ---- a channel of a filter

record IsIncluded (cs : Channels) : Type 0 where
  channel : Channel
  is : includes cs channel ≡ true

included : (cs : Channels) → IsIncluded cs
included channels.Both = record { channel = A; is = refl }
included channels.A = record { channel = A; is = refl }
included channels.B = record { channel = B; is = refl }

-- ---- the slot of a window

slot_at : (slot : ℕ) (o : Option ℕ) → is_slot_at slot o ≡ true → o ≡ Some slot
slot_at slot None e = absurd (let none : ⊥ = cc in none)
slot_at slot (Some s) e = ap Some (eqb-true s slot e)

slot_on : (w : Opportunity) (channel : Channel) (slot : ℕ) → IsInRange w → is_static w ≡ true → w.a ≡ Some slot
    → slot_of w channel ≡ Some slot
slot_on w A slot range static is = is
slot_on w B slot range static is = sym (range.window_is.static_same (eqb-true w.minislot 0 static)) ∙ is

or_first : (p q : Bool) → p ≡ true → (p || q) ≡ true
or_first true q e = refl
or_first false q e = differ e refl

or_rest : (p q : Bool) → q ≡ true → (p || q) ≡ true
or_rest true q e = refl
or_rest false q e = e

pub sends_on : (number : ℕ) (w : Opportunity) (x y : Offered) (plan : Plan) (before : List Entry) (channel : Channel)
    → x ≡ offered plan before w A → y ≡ offered plan before w B
    → offered plan before w channel ≡ Data number → sends number (Fetch w x y) ≡ true
sends_on number w x y plan before A e f is = or_first (is_data_of number x) (is_data_of number y)
    (ap (is_data_of number) (e ∙ is) ∙ eq-eqb number number refl)
sends_on number w x y plan before B e f is = or_rest (is_data_of number x) (is_data_of number y)
    (ap (is_data_of number) (f ∙ is) ∙ eq-eqb number number refl)

module _ (plan : Plan) (k : ℕ) (b : Buffer) (at : buffer_at plan k ≡ Some b) (transmitting : transmits b ≡ true)
    (one : HasOneSender plan) where
  -- the buffer is the one that transmits in the slots that it admits
  pub transmits_there : (w : Opportunity) (channel : Channel) → w.cycle < 64 → IsSlot b.filter.slot
      → slot_of w channel ≡ Some b.filter.slot → includes b.filter.channels channel ≡ true
      → cycle_admitted b.filter.cycles w.cycle ≡ true → transmitter plan w channel ≡ Some k
  transmits_there w channel cycle_fits slot_fits is included admitted =
      let slot = b.filter.slot in
      let own_slot : (b.filter.slot == slot) ≡ true = eq-eqb slot slot refl in
      let sends_it : sends_at slot channel w.cycle b ≡ true =
      both (transmits b) ((b.filter.slot == slot && includes b.filter.channels channel)
      && cycle_admitted b.filter.cycles w.cycle) transmitting
      (both (b.filter.slot == slot && includes b.filter.channels channel) (cycle_admitted b.filter.cycles w.cycle)
      (both (b.filter.slot == slot) (includes b.filter.channels channel) own_slot included) admitted) in
      let passes : is_admitting w channel b ≡ true = ap (λ (o : Option ℕ). transmits b && admits_slot b.filter w.cycle
      channel o) is ∙ sends_it in
      let found = found_in (is_admitting w channel) plan.buffers k b
      (position (is_admitting w channel) plan.buffers) refl at passes in
      let first = position-Some (is_admitting w channel) plan.buffers found.place b found.at in
      let other = get_or plan.buffers found.place b in
      let other_sends : sends_at slot channel w.cycle other ≡ true =
      ap (λ (o : Option ℕ). transmits other && admits_slot other.filter w.cycle channel o) (sym is) ∙ first.1 in
      found.at ∙ ap Some (one slot channel w.cycle found.place k other b cycle_fits slot_fits
      (record { at = slice_get-get_or plan.buffers found.place b first.0; sends = other_sends })
      (record { at = at; sends = sends_it }))

  -- where it may begin, it offers the commit that it has ready
  pub offers_ready : (before : List Entry) (w : Opportunity) (channel : Channel) (slot number : ℕ)
      → may_begin plan w channel ≡ true → slot_of w channel ≡ Some slot → transmitter plan w channel ≡ Some k
      → ready b.mode k before ≡ Some number → offered plan before w channel ≡ Data number
  offers_ready before w channel slot number begins is transmitter_is ready_is =
      let otherwise = cond (owns plan w channel slot) Null Nothing in
      ap (offered_at plan before w channel) is
      ∙ ap (λ (t : Bool). data_or otherwise (cond t
      (option_and_then (ready_in plan before) (transmitter plan w channel)) None)) begins
      ∙ ap (λ (t : Option ℕ). data_or otherwise (option_and_then (ready_in plan before) t)) transmitter_is
      ∙ ap (λ (o : Option Buffer). data_or otherwise (option_and_then (λ (x : Buffer). ready x.mode k before) o)) at
      ∙ ap (data_or otherwise) ready_is

module _ (p : Parameters) (plan : Plan) (k : ℕ) (b : Buffer) (at : buffer_at plan k ≡ Some b)
    (static : is_static_slot p b.filter.slot ≡ true) (transmitting : transmits b ≡ true) (one : HasOneSender plan) where
  -- a window that uses up the commit sends it
  sent : (before : List Entry) (w : Opportunity) (x y : Offered) (number cycle : ℕ) → IsLegalFetch p plan before w x y
      → IsInRange w
      → (is_window_of b.filter.slot w ≡ true → cycle % 64 ≡ w.cycle)
      → (is_window_of b.filter.slot w && is_turn_of b cycle) ≡ true
      → ready b.mode k before ≡ Some number → sends number (Fetch w x y) ≡ true
  sent before w x y number cycle legal range timed taking ready_is =
      let window : is_window_of b.filter.slot w ≡ true = both_first (is_window_of b.filter.slot w) (is_turn_of b cycle)
      taking in
      let still : is_static w ≡ true = both_first (is_static w) (is_slot_at b.filter.slot w.a) window in
      let on_a : w.a ≡ Some b.filter.slot = slot_at b.filter.slot w.a
      (both_rest (is_static w) (is_slot_at b.filter.slot w.a) window) in
      let admitted : cycle_admitted b.filter.cycles w.cycle ≡ true =
      ap (cycle_admitted b.filter.cycles) (sym (timed window)) ∙ both_rest (is_window_of b.filter.slot w)
      (is_turn_of b cycle) taking in
      let c = included b.filter.channels in
      let is : slot_of w c.channel ≡ Some b.filter.slot = slot_on w c.channel b.filter.slot range still on_a in
      let slot_fits : IsSlot b.filter.slot = subst IsSlotOrNone on_a range.slot_a in
      sends_on number w x y plan before c.channel legal.offer_a legal.offer_b
      (offers_ready plan k b at transmitting one before w c.channel b.filter.slot number
      (or_first (is_static w) (nat_le w.minislot (latest_on plan c.channel)) still) is
      (transmits_there plan k b at transmitting one w c.channel range.cycle_fits slot_fits is c.is admitted) ready_is)

  -- ---- over a journal

  module _ (of_slot : is_buffer_of b.filter.slot (Some b) ≡ true) (sending : is_receive b.mode ≡ false) where
    fetch_takes : (before : List Entry) (w : Opportunity) (x y : Offered) (t : Bool)
        → (is_window_of b.filter.slot w && is_turn_of b (run_cycle (before ++ Fetch w x y ∷ []))) ≡ t
        → IsLegalFetch p plan before w x y → IsInRange w → (is_window_of b.filter.slot w ≡ true
        → run_cycle (before ++ Fetch w x y ∷ []) % 64 ≡ w.cycle)
        → Takes plan b.filter.slot k b at of_slot sending t before (Fetch w x y)
    fetch_takes before w x y true is legal range timed = (
      λ number ready_is. sent before w x y number (run_cycle (before ++ Fetch w x y ∷ [])) legal range timed is
          ready_is,
      λ number last out. sent_is_ready p plan k b at static before w x y number legal last out,
    )
    fetch_takes before w x y false is legal range timed =
        λ number last. unsent p plan k b at static before w x y number
        (run_cycle (before ++ Fetch w x y ∷ [])) legal range timed last is

    entry_takes : (before : List Entry) (e : Entry) → IsLegal p plan before e → IsEntry e
        → IsTimed b.filter.slot before e → IsTaking plan b.filter.slot k b at of_slot sending before e
    entry_takes before (Commit task j payload) legal range timed = tt
    entry_takes before (Withdraw task j of) legal range timed = legal.found
    entry_takes before (Read task j from) legal range timed = tt
    entry_takes before (Pop task from) legal range timed = tt
    entry_takes before (Fetch w x y) legal range timed =
        fetch_takes before w x y (is_window_of b.filter.slot w && is_turn_of b (run_cycle (before ++ Fetch w x y ∷ [])))
        refl legal range.window_is timed
    entry_takes before (Observe number x y) legal range timed = tt

    all_take : (before es : List Entry) → AllAfter (IsLegal p plan) before es
        → AllAfter (λ (b : List Entry) (e : Entry). IsEntry e) before es → AllAfter (IsTimed b.filter.slot) before es
        → AllAfter (IsTaking plan b.filter.slot k b at of_slot sending) before es
    unfolding AllAfter
    all_take before [] legal ranges timed = tt
    all_take before (e ∷ es) legal ranges timed = (
      entry_takes before e legal.0 ranges.0 timed.0,
      all_take (before ++ e ∷ []) es legal.1 ranges.1 timed.1,
    )

    -- in a legal journal the account's remainder is the payload that the buffer has ready
    pub account_is_ready : (es : List Entry) → AllAfter (IsLegal p plan) [] es
        → AllAfter (λ (b : List Entry) (e : Entry). IsEntry e) [] es → AllAfter (IsTimed b.filter.slot) [] es
        → left_over b k (account plan b.filter.slot es) ≡ option_map (payload_of es) (ready b.mode k es)
    account_is_ready es legal ranges timed = left_over_is plan b.filter.slot k b at of_slot sending es
        (all_take [] es legal ranges timed)
