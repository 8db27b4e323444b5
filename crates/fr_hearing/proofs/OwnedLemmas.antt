-- In a static window a node offers something only if it owns the slot.
use Rattle.std.proofs.Common.{◌≡◌, ℕ, ◌<◌, Bool, true, false, cond, ◌&&◌, List, [], ◌∷◌, refl, sym, ap, ◌∙◌, Option}
use Rattle.std.proofs.Common.{Some, None}
use Rattle.std.proofs.lemmas.Bool.{eqb-true, and_from}
use Rattle.std.proofs.lemmas.List.Quantifiers.{position-Some}
use Rattle.std.proofs.lemmas.Option.{get_or_from_slice_get}
use Rattle.std.specs.Prelude.{is_some, ◌==◌, ◌||◌}
use Rattle.std.specs.List.{find, list_any}
use Rattle.fr_core.proofs.CaseLemmas.{both_first, both_rest}
use Rattle.fr_core.proofs.TakingLemmas.{in_slot}
use Rattle.fr_guarantees.proofs.OfferLemmas.{some_buffer}
use Rattle.fr_hearing.proofs.OfferLaws.{line_is}
use Rattle.fr_journal.specs.declared.entry.Offered.{Offered}
use Rattle.fr_journal.specs.declared.entry.Offered.TheVariants.{Nothing, Null, Data}
use Rattle.fr_journal.specs.Forms.{Entry}
use Rattle.fr_journal.specs.Offers.{is_admitting, commit_offered, owns, data_or, offered_at, offered}
use Rattle.fr_slots.proofs.FaultlessLemmas.{faultless}
use Rattle.fr_slots.specs.Admission.{includes, cycle_admitted}
use Rattle.fr_slots.specs.declared.channel.Channel.{Channel}
use Rattle.fr_slots.specs.declared.plan.Own.{Own}
use Rattle.fr_slots.specs.Faults.{claims, is_owned, transmits, transmits_static, plan_fault}
use Rattle.fr_slots.specs.Parameters.{Parameters, is_static_slot}
use Rattle.fr_slots.specs.Plans.{Plan, admits_slot, filter_admits}
use Rattle.fr_slots.specs.Windows.{Opportunity, slot_of, is_static}

pub some_found : {X : Type 0} (test : X → Bool) (xs : List X) → list_any test xs ≡ true → is_some (find test xs) ≡ true
some_found test [] e = absurd (let none : ⊥ = cc in none)
some_found test (x ∷ xs) e = by (test x) e (some_found test xs)
  where
    by : (b : Bool) → (b || list_any test xs) ≡ true → (list_any test xs ≡ true → is_some (find test xs) ≡ true)
        → is_some (cond b (Some x) (find test xs)) ≡ true
    by true g more = refl
    by false g more = more g

-- the node owns the slot of the window
pub owned_is : (plan : Plan) (w : Opportunity) (channel : Channel) (slot : ℕ) → is_static w ≡ true
    → is_owned plan.owned slot channel w.cycle ≡ true → owns plan w channel slot ≡ true
owned_is plan w channel slot static owned =
    ap (λ (o : Option Own). is_some o) (line_is plan w channel slot static)
    ∙ some_found (claims slot channel w.cycle) plan.owned owned

data_owns : (p : Parameters) (plan : Plan) (before : List Entry) (w : Opportunity) (channel : Channel) (slot commit : ℕ)
    → plan_fault p plan ≡ None → is_static w ≡ true → is_static_slot p slot ≡ true → w.cycle < 64
    → slot_of w channel ≡ Some slot → offered plan before w channel ≡ Data commit
    → is_owned plan.owned slot channel w.cycle ≡ true
data_owns p plan before w channel slot commit fine static static_slot fits slot_is is =
    let o = in_slot plan before w channel commit (slot_of w channel) is in
    let b = some_buffer plan before o.buffer commit o.is_ready in
    let found = position-Some (is_admitting w channel) plan.buffers o.buffer b.buffer o.at in
    let passes : is_admitting w channel b.buffer ≡ true = ap (is_admitting w channel)
    (sym (get_or_from_slice_get plan.buffers o.buffer b.buffer b.buffer b.at)) ∙ found.1 in
    let cycles : Bool = cycle_admitted b.buffer.filter.cycles w.cycle in
    let admits : filter_admits b.buffer.filter w.cycle slot channel ≡ true =
    ap (admits_slot b.buffer.filter w.cycle channel) (sym slot_is)
    ∙ both_rest (transmits b.buffer) (admits_slot b.buffer.filter w.cycle channel (slot_of w channel)) passes in
    let front = both_first (b.buffer.filter.slot == slot && includes b.buffer.filter.channels channel) cycles admits in
    let admitted = both_rest (b.buffer.filter.slot == slot && includes b.buffer.filter.channels channel) cycles admits
    in
    let same : b.buffer.filter.slot ≡ slot = eqb-true b.buffer.filter.slot slot
    (both_first (b.buffer.filter.slot == slot) (includes b.buffer.filter.channels channel) front) in
    let included = both_rest (b.buffer.filter.slot == slot) (includes b.buffer.filter.channels channel) front in
    let sends : transmits_static p b.buffer ≡ true =
    and_from (transmits b.buffer) (is_static_slot p b.buffer.filter.slot)
    (both_first (transmits b.buffer) (admits_slot b.buffer.filter w.cycle channel (slot_of w channel)) passes)
    (ap (is_static_slot p) same ∙ static_slot) in
    let fit = (faultless p plan fine).static_fit o.buffer b.buffer b.at sends in
    ap (λ (n : ℕ). is_owned plan.owned n channel w.cycle) (sym same)
    ∙ fit.owned channel w.cycle fits included admitted

null_owns : (b : Bool) (o : Option ℕ) → data_or (cond b Null Nothing) o ≡ Null → b ≡ true
null_owns true o e = refl
null_owns false None e = absurd (let none : ⊥ = cc in none)
null_owns false (Some commit) e = absurd (let none : ⊥ = cc in none)

pub offers_own : (p : Parameters) (plan : Plan) (before : List Entry) (w : Opportunity) (channel : Channel) (slot : ℕ)
    → plan_fault p plan ≡ None → is_static w ≡ true → is_static_slot p slot ≡ true → w.cycle < 64
    → slot_of w channel ≡ Some slot → (o : Offered) → offered plan before w channel ≡ o → (o ≡ Nothing → ⊥)
    → owns plan w channel slot ≡ true
offers_own p plan before w channel slot fine static static_slot fits slot_is Nothing is some = absurd (some refl)
offers_own p plan before w channel slot fine static static_slot fits slot_is Null is some =
    null_owns (owns plan w channel slot) (commit_offered plan before w channel)
    (ap (offered_at plan before w channel) (sym slot_is) ∙ is)
offers_own p plan before w channel slot fine static static_slot fits slot_is (Data commit) is some =
    owned_is plan w channel slot static
    (data_owns p plan before w channel slot commit fine static static_slot fits slot_is is)
