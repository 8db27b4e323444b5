-- An interface with one more entry, whose kept data made the same call.
use Rattle.std.proofs.Common.{◌≡◌, ℕ, List, [], ◌∷◌, ◌++◌, Option, Some, None, sym, ap, subst, ◌∙◌}
use Rattle.fr_interface.specs.InterfaceFields.{state_in, IsPlanned, HasLimits, IsRoom, IsLawful}
use Rattle.fr_interface.specs.Standing.{Standing, IsHistory, KeepsTerms}
use Rattle.fr_interface.specs.State.{with_entry}
use Rattle.fr_journal.specs.Forms.{Entry}
use Rattle.fr_journal.specs.Histories.{Limits}
use Rattle.fr_slots.specs.Faults.{plan_fault}
use Rattle.fr_slots.specs.Plans.{Plan, IsNodePlan, with_limits}

pub state-more : (h h' : Standing) (es es' : List Entry) (e : Entry) → es' ≡ es ++ e ∷ [] → KeepsTerms h h'
    → with_entry (state_in h es) e ≡ state_in h' es'
state-more h h' es es' e more terms = λ j. record {
  params = sym terms.params j;
  plan = with_limits (sym terms.plan j) (sym terms.host_limit j) (sym terms.slot_limit j);
  entries = sym more j;
}

planned-more : (h h' : Standing) (limits : Limits) → KeepsTerms h h'
    → IsPlanned h.plan h.host_limit h.slot_limit limits → IsPlanned h'.plan h'.host_limit h'.slot_limit limits
planned-more h h' limits terms planned = record {
  host_is = planned.host_is ∙ sym terms.host_limit;
  slot_is = planned.slot_is ∙ sym terms.slot_limit;
  host_planned = terms.host_limit ∙ planned.host_planned ∙ ap (λ (p : Plan). p.host_entries) (sym terms.plan);
  slot_planned = terms.slot_limit ∙ planned.slot_planned ∙ ap (λ (p : Plan). p.slot_entries) (sym terms.plan);
}

limits-more : (h h' : Standing) (of : Option Limits) → KeepsTerms h h'
    → HasLimits h.plan h.host_limit h.slot_limit of → HasLimits h'.plan h'.host_limit h'.slot_limit of
limits-more h h' None terms are = tt
limits-more h h' (Some limits) terms are = planned-more h h' limits terms are

room-more : (h h' : Standing) → KeepsTerms h h' → IsRoom h.host_limit h.slot_limit
    → IsRoom h'.host_limit h'.slot_limit
room-more h h' terms room =
    subst (IsRoom h'.host_limit) (sym terms.slot_limit)
    (subst (λ (host : ℕ). IsRoom host h.slot_limit) (sym terms.host_limit) room)

pub lawful-more : (h h' : Standing) (es es' : List Entry) (of of' : Option Limits) (e : Entry) → IsLawful h es of
    → es' ≡ es ++ e ∷ [] → of' ≡ of → KeepsTerms h h' → IsHistory h' (with_entry (state_in h es) e)
    → IsLawful h' es' of'
lawful-more h h' es es' of of' e lawful more same terms history = record {
  limits_are = subst (HasLimits h'.plan h'.host_limit h'.slot_limit) (sym same)
      (limits-more h h' of terms lawful.limits_are);
  room_is = room-more h h' terms lawful.room_is;
  plan_is = subst IsNodePlan (sym terms.plan) lawful.plan_is;
  faultless = (λ j. plan_fault (terms.params j) (terms.plan j)) ∙ lawful.faultless;
  history = subst (IsHistory h') (state-more h h' es es' e more terms) history;
}
