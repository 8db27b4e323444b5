-- Plans of nodes that are read one by one.
use Rattle.std.proofs.Common.{◌≡◌, ℕ, ◌+◌, List, [], ◌∷◌, ◌++◌, map, Result, Ok, Err, refl}
use Rattle.fr_schedule.proofs.EachLemmas.{with_rest, rest_refused, rest_taken, rest_end}
use Rattle.fr_schedule.specs.declared.error.ConfigError.{ConfigError}
use Rattle.fr_schedule.specs.Files.{◌>>=◌, each_of, plan_of}
use Rattle.fr_slots.specs.Parameters.{Parameters}
use Rattle.fr_slots.specs.Plans.{Plan}
use Rattle.toml.specs.View.{view}
use Rattle.toml.specs.declared.value.Value.{Value}

abbrev made : List Plan → List Plan
made plans = plans

-- the plans that were read and the remaining ones
abbrev pub plans_left : Parameters → ℕ → List Plan → List Value → Result (List Plan) ConfigError
plans_left p n so_far values = with_rest (plan_of p) made n so_far (map view values)

pub plan_refused : (p : Parameters) (n : ℕ) (so_far : List Plan) (value : Value) (values : List Value) (e : ConfigError)
    → plan_of p n (view value) ≡ Err e → plans_left p n so_far (value ∷ values) ≡ Err e
plan_refused p n so_far value values e is = rest_refused (plan_of p) made n so_far (view value) (map view values) e is

pub plan_taken : (p : Parameters) (n : ℕ) (so_far : List Plan) (value : Value) (values : List Value) (plan : Plan)
    → plan_of p n (view value) ≡ Ok plan → plans_left p n so_far (value ∷ values) ≡ plans_left p (n + 1)
    (so_far ++ plan ∷ []) values
plan_taken p n so_far value values plan is = rest_taken (plan_of p) made n so_far (view value) (map view values) plan is

pub plans_end : (p : Parameters) (n : ℕ) (so_far : List Plan) → plans_left p n so_far [] ≡ Ok so_far
plans_end p n so_far = rest_end (plan_of p) made n so_far

all_made : (r : Result (List Plan) ConfigError) → (r >>= (λ more. Ok (made ([] ++ more)))) ≡ r
all_made (Err e) = refl
all_made (Ok plans) = refl

pub plans_start : (p : Parameters) (none : List Plan) (values : List Value) → none ≡ []
    → plans_left p 0 none values ≡ each_of (plan_of p) 0 (map view values)
plans_start p none values is = rw is (all_made (each_of (plan_of p) 0 (map view values)))
