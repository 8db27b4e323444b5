-- One accepted event leads on, and so do accepted events after others.
use Rattle.std.proofs.Common.{◌≡◌, Bool, true, List, [], ◌∷◌, ◌++◌, None, refl, subst}
use Rattle.std.specs.Prelude.{Ok}
use Rattle.std.specs.List.{list_all}
use Rattle.std.specs.Result.{is_ok}
use Rattle.fr_core.proofs.CaseLemmas.{both, both_first, both_rest}
use Rattle.fr_core.specs.declared.event.Event.{Event}
use Rattle.fr_core.specs.Runs.{Answer, StepsAll}
use Rattle.fr_core.specs.Steps.{step_refusal, step_reply, step_done}
use Rattle.fr_core.specs.Worlds.{WorldState}
use Rattle.fr_guarantees.specs.Leading.{is_faultless, Leads}

all_joined : {X : Type 0} (test : X → Bool) (xs ys : List X) → list_all test xs ≡ true → list_all test ys ≡ true
    → list_all test (xs ++ ys) ≡ true
all_joined test [] ys e f = f
all_joined test (x ∷ xs) ys e f =
    both (test x) (list_all test (xs ++ ys)) (both_first (test x) (list_all test xs) e)
    (all_joined test xs ys (both_rest (test x) (list_all test xs) e) f)

steps_joined : (u : WorldState) (es : List Event) (xs : List Answer) (v : WorldState) (fs : List Event)
    (ys : List Answer) (w : WorldState) → StepsAll u es xs v → StepsAll v fs ys w
    → StepsAll u (es ++ fs) (xs ++ ys) w
unfolding StepsAll
steps_joined u [] [] v fs ys w first second = subst (λ (x : WorldState). StepsAll x fs ys w) first second
steps_joined u [] (x ∷ xs) v fs ys w first second = absurd first
steps_joined u (e ∷ es) [] v fs ys w first second = absurd first
steps_joined u (e ∷ es) (x ∷ xs) v fs ys w first second =
    (first.0, first.1, steps_joined first.0 es xs v fs ys w first.2 second)

pub leads_not : (w : WorldState) → Leads w w
unfolding StepsAll
leads_not w = record { events = []; answers = []; steps = refl; accepted = refl; faultless = refl }

pub leads_on : {u v w : WorldState} → Leads u v → Leads v w → Leads u w
leads_on {u = u} {v = v} {w = w} first second = record {
  events = first.events ++ second.events;
  answers = first.answers ++ second.answers;
  steps = steps_joined u first.events first.answers v second.events second.answers w first.steps second.steps;
  accepted = all_joined is_ok first.answers second.answers first.accepted second.accepted;
  faultless = all_joined is_faultless first.events second.events first.faultless second.faultless;
}

-- one event
pub leads_by : (w : WorldState) (event : Event) (new : WorldState) → step_refusal w event ≡ None
    → is_faultless event ≡ true → new ≡ step_done w event → Leads w new
unfolding StepsAll
leads_by w event new accepted plain is = record {
  events = event ∷ [];
  answers = Ok (step_reply w event) ∷ [];
  steps = (new, (accepted, refl, is), refl);
  accepted = refl;
  faultless = both (is_faultless event) true plain refl;
}
