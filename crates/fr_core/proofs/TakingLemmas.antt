-- The windows that use up the commit of a static transmit buffer are those that it admits.
use Rattle.std.proofs.Common.{◌≡◌, ℕ, ◌%◌, Bool, true, false, not, cond, ◌&&◌, ◌||◌, List, [], ◌∷◌, ◌++◌, length}
use Rattle.std.proofs.Common.{Option, Some, None, refl, sym, ap, subst, ◌∙◌, slice_get, inl, inr, ◌⊎◌}
use Rattle.std.specs.Prelude.{◌==◌, nat_le}
use Rattle.std.specs.Option.{option_and_then}
use Rattle.std.proofs.lemmas.Bool.{eqb-true, eq-eqb}
use Rattle.std.proofs.lemmas.List.Quantifiers.{position-Some}
use Rattle.std.proofs.lemmas.Option.{get_or_from_slice_get}
use Rattle.fr_core.specs.Accounts.{is_slot_at, is_window_of, is_turn_of}
use Rattle.fr_core.proofs.CaseLemmas.{both, both_first, both_rest, differ, kept, kept_if}
use Rattle.fr_slots.proofs.PlaceLemmas.{same_some, get-after, last_after-at}
use Rattle.fr_core.proofs.HandingLemmas.{data_is}
use Rattle.fr_core.proofs.ReadyLemmas.{ready_is_last}
use Rattle.fr_journal.specs.Forms.{Entry}
use Rattle.fr_journal.specs.declared.entry.Entry.TheVariants.{Commit, Withdraw, Read, Pop, Fetch, Observe}
use Rattle.fr_journal.specs.declared.entry.Offered.{Offered}
use Rattle.fr_journal.specs.declared.entry.Offered.TheVariants.{Nothing, Null, Data}
use Rattle.fr_journal.specs.Fate.{commit_on, last_commit, is_data_of, sends}
use Rattle.fr_slots.specs.Windows.{window_fits, static_slot_fits, dynamic_slot_fits, Opportunity, IsInRange, slot_of}
use Rattle.fr_slots.specs.Windows.{is_static}
use Rattle.fr_journal.specs.Legal.{IsLegalFetch}
use Rattle.fr_slots.specs.Plans.{admits_slot, admits_window, buffer_at, Plan}
use Rattle.fr_journal.specs.Offers.{is_admitting, transmitter, may_begin, ready, ready_in, commit_offered, owns}
use Rattle.fr_journal.specs.Offers.{offered_at, offered}
use Rattle.fr_slots.specs.Admission.{includes, cycle_admitted}
use Rattle.fr_slots.specs.declared.channel.Channel.{Channel}
use Rattle.fr_slots.specs.declared.channel.Channel.TheVariants.{A, B}
use Rattle.fr_slots.specs.declared.filter.Filter.{Filter}
use Rattle.fr_slots.specs.declared.plan.Buffer.{Buffer}
use Rattle.fr_slots.specs.Faults.{transmits}
use Rattle.fr_slots.specs.Parameters.{is_static_slot, Parameters}

-- ---- a commit is on one buffer

record IsCommitBy (entries : List Entry) (number buffer : ℕ) : Type 0 where
  task : ℕ
  payload : List ℕ
  at : slice_get entries number ≡ Some (Commit task buffer payload)

by_entry : (k number : ℕ) (before after : List Entry) (e : Entry) → commit_on k before e ≡ Some number
    → IsCommitBy (before ++ e ∷ after) number k
by_entry k number before after (Commit task j payload) e =
    let place : length before ≡ number = same_some (length before) number
    (kept (j == k) (Some (length before)) number e) in
    let same : j ≡ k = eqb-true j k (kept_if (j == k) (Some (length before)) number e) in
    record {
      task = task;
      payload = payload;
      at = ap (slice_get (before ++ Commit task j payload ∷ after)) (sym place) ∙ get-after before after
          (Commit task j payload) ∙ ap (λ (i : ℕ). Some (Commit task i payload)) same;
    }
by_entry k number before after (Withdraw task j of) e = absurd (let none : ⊥ = cc in none)
by_entry k number before after (Read task j from) e = absurd (let none : ⊥ = cc in none)
by_entry k number before after (Pop task from) e = absurd (let none : ⊥ = cc in none)
by_entry k number before after (Fetch w x y) e = absurd (let none : ⊥ = cc in none)
by_entry k number before after (Observe w x y) e = absurd (let none : ⊥ = cc in none)

committed_by : (k number : ℕ) (es : List Entry) → last_commit k es ≡ Some number → IsCommitBy es number k
committed_by k number es e =
    let c = last_after-at (commit_on k) [] es number e in
    subst (λ (l : List Entry). IsCommitBy l number k) (sym c.cut) (by_entry k number c.inner c.after c.here c.holds)

buffer_in : Option Entry → ℕ
buffer_in None = 0
buffer_in (Some (Commit task j payload)) = j
buffer_in (Some (Withdraw task j of)) = 0
buffer_in (Some (Read task j from)) = 0
buffer_in (Some (Pop task from)) = 0
buffer_in (Some (Fetch w x y)) = 0
buffer_in (Some (Observe w x y)) = 0

same_buffer : (j k number : ℕ) (es : List Entry) → last_commit j es ≡ Some number → last_commit k es ≡ Some number
    → j ≡ k
unfolding buffer_in
same_buffer j k number es e f =
    let c = committed_by j number es e in
    let d = committed_by k number es f in
    ap buffer_in (sym c.at ∙ d.at)

-- ---- the buffer that offers

pub record IsOfferedBy (plan : Plan) (es : List Entry) (w : Opportunity) (channel : Channel) (number : ℕ) : Type 0 where
  pub buffer : ℕ
  pub at : transmitter plan w channel ≡ Some buffer
  pub is_ready : ready_in plan es buffer ≡ Some number
  pub last : last_commit buffer es ≡ Some number

ready_last_of : (j number : ℕ) (es : List Entry) (b : Option Buffer)
    → option_and_then (λ (x : Buffer). ready x.mode j es) b ≡ Some number → last_commit j es ≡ Some number
ready_last_of j number es None e = absurd (let none : ⊥ = cc in none)
ready_last_of j number es (Some b) e = ready_is_last b.mode j number es e

by_transmitter : (plan : Plan) (es : List Entry) (w : Opportunity) (channel : Channel) (number : ℕ) (t : Option ℕ)
    → transmitter plan w channel ≡ t → option_and_then (ready_in plan es) t ≡ Some number
    → IsOfferedBy plan es w channel number
by_transmitter plan es w channel number None is e = absurd (let none : ⊥ = cc in none)
by_transmitter plan es w channel number (Some j) is e = record {
  buffer = j;
  at = is;
  is_ready = e;
  last =
      ready_last_of j number es (buffer_at plan j) e;
}

pub in_slot : (plan : Plan) (es : List Entry) (w : Opportunity) (channel : Channel) (number : ℕ) (slot : Option ℕ)
    → offered_at plan es w channel slot ≡ Data number → IsOfferedBy plan es w channel number
in_slot plan es w channel number None e = absurd (let none : ⊥ = cc in none)
in_slot plan es w channel number (Some slot) e =
    by_transmitter plan es w channel number (transmitter plan w channel) refl
    (kept (may_begin plan w channel) (option_and_then (ready_in plan es) (transmitter plan w channel)) number
    (data_is (owns plan w channel slot) (commit_offered plan es w channel) number e))

-- ---- admitted slots

pub record Admits (f : Filter) (w : Opportunity) (channel : Channel) : Type 0 where
  pub slot_is : slot_of w channel ≡ Some f.slot
  pub cycle_is : cycle_admitted f.cycles w.cycle ≡ true

admits_in : (f : Filter) (w : Opportunity) (channel : Channel) (o : Option ℕ) → slot_of w channel ≡ o
    → admits_slot f w.cycle channel o ≡ true → Admits f w channel
admits_in f w channel None is e = absurd (let none : ⊥ = cc in none)
admits_in f w channel (Some s) is e =
    let here : (f.slot == s) ≡ true = both_first (f.slot == s) (includes f.channels channel)
    (both_first (f.slot == s && includes f.channels channel) (cycle_admitted f.cycles w.cycle) e) in
    record {
      slot_is = is ∙ ap Some (sym (eqb-true f.slot s here));
      cycle_is = both_rest (f.slot == s && includes f.channels channel) (cycle_admitted f.cycles w.cycle) e;
    }

pub transmitter_admits : (plan : Plan) (w : Opportunity) (channel : Channel) (k : ℕ) (b : Buffer)
    → transmitter plan w channel ≡ Some k → buffer_at plan k ≡ Some b → Admits b.filter w channel
transmitter_admits plan w channel k b e at =
    let found = position-Some (is_admitting w channel) plan.buffers k b e in
    let passes : is_admitting w channel b ≡ true = ap (is_admitting w channel)
    (sym (get_or_from_slice_get plan.buffers k b b at)) ∙ found.1 in
    admits_in b.filter w channel (slot_of w channel) refl (both_rest (transmits b)
    (admits_window b.filter w channel) passes)

pub transmitter_transmits : (plan : Plan) (w : Opportunity) (channel : Channel) (k : ℕ) (b : Buffer)
    → transmitter plan w channel ≡ Some k → buffer_at plan k ≡ Some b → transmits b ≡ true
transmitter_transmits plan w channel k b e at =
    let found = position-Some (is_admitting w channel) plan.buffers k b e in
    both_first (transmits b) (admits_window b.filter w channel)
    (ap (is_admitting w channel) (sym (get_or_from_slice_get plan.buffers k b b at)) ∙ found.1)

-- ---- a static slot is in static windows

dynamic_none : (p : Parameters) (slot : ℕ) (o : Option ℕ) → o ≡ Some slot → is_static_slot p slot ≡ true
    → dynamic_slot_fits p o ≡ true → ⊥
dynamic_none p slot o is static fits =
    let h : not (is_static_slot p slot) ≡ true = ap (dynamic_slot_fits p) (sym is) ∙ fits in
    let k : not true ≡ true = ap not (sym static) ∙ h in
    let none : ⊥ = cc in none

window_is_static : (p : Parameters) (w : Opportunity) (channel : Channel) (slot : ℕ) (t : Bool) → is_static w ≡ t
    → slot_of w channel ≡ Some slot → is_static_slot p slot ≡ true
    → cond t (static_slot_fits p w.a && static_slot_fits p w.b)
    (nat_le w.minislot p.minislots && dynamic_slot_fits p w.a && dynamic_slot_fits p w.b) ≡ true
    → is_static w ≡ true
window_is_static p w channel slot true t_is is static fits = t_is
window_is_static p w A slot false t_is is static fits =
    absurd (dynamic_none p slot w.a is static (both_rest (nat_le w.minislot p.minislots) (dynamic_slot_fits p w.a)
    (both_first (nat_le w.minislot p.minislots && dynamic_slot_fits p w.a) (dynamic_slot_fits p w.b) fits)))
window_is_static p w B slot false t_is is static fits =
    absurd (dynamic_none p slot w.b is static (both_rest (nat_le w.minislot p.minislots && dynamic_slot_fits p w.a)
    (dynamic_slot_fits p w.b) fits))

slot_on_a : (w : Opportunity) (channel : Channel) (slot : ℕ) → IsInRange w → is_static w ≡ true
    → slot_of w channel ≡ Some slot → w.a ≡ Some slot
slot_on_a w A slot range static is = is
slot_on_a w B slot range static is = range.window_is.static_same (eqb-true w.minislot 0 static) ∙ is

-- ---- a window that sends the last commit uses it up

either : (p q : Bool) → p ≡ false → q ≡ false → (p || q) ≡ false
either false q e f = f
either true q e f = differ refl e

data_of : (number : ℕ) (o : Offered) → is_data_of number o ≡ true → o ≡ Data number
data_of number Nothing e = absurd (let none : ⊥ = cc in none)
data_of number Null e = absurd (let none : ⊥ = cc in none)
data_of number (Data k) e = ap Data (eqb-true k number e)

module _ (p : Parameters) (plan : Plan) (k : ℕ) (b : Buffer) (at : buffer_at plan k ≡ Some b)
    (static : is_static_slot p b.filter.slot ≡ true) where
  takes : (before : List Entry) (w : Opportunity) (channel : Channel) (number cycle : ℕ) → IsInRange w
      → window_fits p w ≡ true
      → (is_window_of b.filter.slot w ≡ true → cycle % 64 ≡ w.cycle) → last_commit k before ≡ Some number
      → offered plan before w channel ≡ Data number
      → (is_window_of b.filter.slot w && is_turn_of b cycle) ≡ true
  takes before w channel number cycle range fits timed last e =
      let o = in_slot plan before w channel number (slot_of w channel) e in
      let mine : o.buffer ≡ k = same_buffer o.buffer k number before o.last last in
      let a = transmitter_admits plan w channel k b (o.at ∙ ap Some mine) at in
      let still : is_static w ≡ true = window_is_static p w channel b.filter.slot
      (is_static w) refl a.slot_is static fits in
      let on_a : is_slot_at b.filter.slot w.a ≡ true = ap (is_slot_at b.filter.slot)
      (slot_on_a w channel b.filter.slot range still a.slot_is) ∙ eq-eqb b.filter.slot b.filter.slot refl in
      let window : is_window_of b.filter.slot w ≡ true = both (is_static w) (is_slot_at b.filter.slot w.a) still on_a in
      both (is_window_of b.filter.slot w) (is_turn_of b cycle) window
      (ap (cycle_admitted b.filter.cycles) (timed window) ∙ a.cycle_is)

  unsent_on : (before : List Entry) (w : Opportunity) (channel : Channel) (number cycle : ℕ) (o : Offered) (t : Bool)
      → is_data_of number o ≡ t → o ≡ offered plan before w channel → IsInRange w
      → window_fits p w ≡ true → (is_window_of b.filter.slot w ≡ true → cycle % 64 ≡ w.cycle)
      → last_commit k before ≡ Some number
      → (is_window_of b.filter.slot w && is_turn_of b cycle) ≡ false → is_data_of number o ≡ false
  unsent_on before w channel number cycle o false is same range fits timed last none = is
  unsent_on before w channel number cycle o true is same range fits timed last none =
      differ (takes before w channel number cycle range fits timed last (sym same ∙ data_of number o is)) none

  -- a window that doesn't use up the last commit doesn't send it
  pub unsent : (before : List Entry) (w : Opportunity) (x y : Offered) (number cycle : ℕ)
      → IsLegalFetch p plan before w x y → IsInRange w
      → (is_window_of b.filter.slot w ≡ true → cycle % 64 ≡ w.cycle) → last_commit k before ≡ Some number
      → (is_window_of b.filter.slot w && is_turn_of b cycle) ≡ false → sends number (Fetch w x y) ≡ false
  unsent before w x y number cycle legal range timed last none =
      either (is_data_of number x) (is_data_of number y)
      (unsent_on before w A number cycle x (is_data_of number x) refl legal.offer_a range legal.fits timed last none)
      (unsent_on before w B number cycle y (is_data_of number y) refl legal.offer_b range legal.fits timed last none)

  offered_is_ready : (before : List Entry) (w : Opportunity) (channel : Channel) (number : ℕ)
      → last_commit k before ≡ Some number → offered plan before w channel ≡ Data number
      → ready b.mode k before ≡ Some number
  offered_is_ready before w channel number last e =
      let o = in_slot plan before w channel number (slot_of w channel) e in
      let mine : o.buffer ≡ k = same_buffer o.buffer k number before o.last last in
      ap (λ (found : Option Buffer). option_and_then (λ (x : Buffer). ready x.mode k before) found) (sym at) ∙ ap
      (ready_in plan before) (sym mine) ∙ o.is_ready

  one_of : (p q : Bool) → (p || q) ≡ true → (p ≡ true) ⊎ (q ≡ true)
  one_of true q e = inl refl
  one_of false q e = inr e

  -- a window that sends the last commit finds it ready
  pub sent_is_ready : (before : List Entry) (w : Opportunity) (x y : Offered) (number : ℕ)
      → IsLegalFetch p plan before w x y → last_commit k before ≡ Some number
      → sends number (Fetch w x y) ≡ true → ready b.mode k before ≡ Some number
  sent_is_ready before w x y number legal last e = elim (one_of (is_data_of number x) (is_data_of number y) e) [
    | inl on_a ↦ offered_is_ready before w A number last (sym legal.offer_a ∙ data_of number x on_a)
    | inr on_b ↦ offered_is_ready before w B number last (sym legal.offer_b ∙ data_of number y on_b)
  ]
