-- Ownership lines that are added to a plan one by one.
use Rattle.std.proofs.Common.{◌≡◌, List, [], ◌∷◌, ◌++◌, map, Option, Some, None, option_map, refl, sym, ap}
use Rattle.std.proofs.lemmas.List.{append_assoc, append-nil}
use Rattle.std.specs.Prelude.{option_and_then}
use Rattle.fr_schedule.specs.TableReading.{all_of}
use Rattle.fr_schedule.specs.NodeTables.{own_of, owning}
use Rattle.fr_slots.specs.declared.plan.Own.{Own}
use Rattle.fr_slots.specs.Parameters.{Parameters}
use Rattle.fr_slots.specs.Plans.{Plan, with_own}
use Rattle.toml.specs.View.{view}
use Rattle.toml.specs.declared.value.Value.{Value}

abbrev pub adding : Plan → List Own → Plan
adding plan more = owning plan (plan.owned ++ more)

abbrev pub owning_more : Parameters → Plan → List Value → Option Plan
owning_more p plan lines = option_map (adding plan) (all_of (own_of p) (map view lines))

abbrev pub owning_all : Parameters → Plan → List Value → Option Plan
owning_all p plan lines = option_map (owning plan) (all_of (own_of p) (map view lines))

adding_one : (plan : Plan) (own : Own) (more : Option (List Own))
    → option_map (adding plan) (option_and_then (λ rest. Some (own ∷ rest)) more) ≡ option_map
    (adding (with_own plan own)) more
adding_one plan own None = refl
adding_one plan own (Some more) = ap (λ (lines : List Own). let o : Option Plan = Some (owning plan lines) in o)
    (sym (append_assoc plan.owned (own ∷ []) more))

-- a line that is refused
pub owning_none : (p : Parameters) (plan : Plan) (line : Value) (lines : List Value) → own_of p (view line) ≡ None
    → owning_more p plan (line ∷ lines) ≡ None
unfolding all_of
owning_none p plan line lines none = rw none refl

-- a line that is accepted
pub owning_some : (p : Parameters) (plan : Plan) (line : Value) (lines : List Value) (own : Own)
    → own_of p (view line) ≡ Some own
    → owning_more p plan (line ∷ lines) ≡ owning_more p (with_own plan own) lines
unfolding all_of
owning_some p plan line lines own is = rw is (adding_one plan own (all_of (own_of p) (map view lines)))

pub owning_end : (p : Parameters) (plan : Plan) → owning_more p plan [] ≡ Some plan
unfolding all_of
owning_end p plan = ap (λ (lines : List Own). let o : Option Plan = Some (owning plan lines) in o)
    (append-nil plan.owned)

none_owned : (plan : Plan) (more : Option (List Own)) → plan.owned ≡ []
    → option_map (adding plan) more ≡ option_map (owning plan) more
none_owned plan None none = refl
none_owned plan (Some more) none = ap (λ (lines : List Own). let o : Option Plan =
    Some (owning plan (lines ++ more)) in o) none

pub owning_start : (p : Parameters) (plan : Plan) (lines : List Value) → plan.owned ≡ []
    → owning_more p plan lines ≡ owning_all p plan lines
owning_start p plan lines none = none_owned plan (all_of (own_of p) (map view lines)) none
