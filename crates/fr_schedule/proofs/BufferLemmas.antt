-- Buffers that are added to a plan one by one.
use Rattle.std.proofs.Common.{◌≡◌, ℕ, ◌+◌, List, [], ◌∷◌, ◌++◌, map, Result, Ok, Err, refl, ap}
use Rattle.fr_schedule.proofs.EachLemmas.{with_rest, rest_refused, rest_taken, rest_end}
use Rattle.fr_schedule.specs.declared.error.ConfigError.{ConfigError}
use Rattle.fr_schedule.specs.Files.{buffer_read, with_buffers, with_buffers_of}
use Rattle.fr_slots.specs.declared.plan.Buffer.{Buffer}
use Rattle.fr_slots.specs.Parameters.{Parameters}
use Rattle.fr_slots.specs.Plans.{Plan, with_buffer}
use Rattle.toml.specs.View.{view}
use Rattle.toml.specs.declared.value.Value.{Value}

-- the plan with its buffers and the remaining ones
abbrev pub buffers_left : Parameters → ℕ → Plan → ℕ → List Buffer → List Value → Result Plan ConfigError
buffers_left p node plan n so_far values = with_rest (buffer_read p node) (with_buffers plan) n so_far (map view values)

pub left_refused : (p : Parameters) (node : ℕ) (plan : Plan) (n : ℕ) (so_far : List Buffer) (value : Value)
    (values : List Value) (e : ConfigError)
    → buffer_read p node n (view value) ≡ Err e → buffers_left p node plan n so_far (value ∷ values) ≡ Err e
left_refused p node plan n so_far value values e is =
    rest_refused (buffer_read p node) (with_buffers plan) n so_far (view value) (map view values) e is

pub left_taken : (p : Parameters) (node : ℕ) (plan : Plan) (n : ℕ) (so_far : List Buffer) (value : Value)
    (values : List Value) (b : Buffer)
    → buffer_read p node n (view value) ≡ Ok b
    → buffers_left p node plan n so_far (value ∷ values) ≡ buffers_left p node plan (n + 1) (so_far ++ b ∷ []) values
left_taken p node plan n so_far value values b is =
    rest_taken (buffer_read p node) (with_buffers plan) n so_far (view value) (map view values) b is

pub left_end : (p : Parameters) (node : ℕ) (plan : Plan) (n : ℕ) (so_far : List Buffer)
    → buffers_left p node plan n so_far [] ≡ Ok (with_buffers plan so_far)
left_end p node plan n so_far = rest_end (buffer_read p node) (with_buffers plan) n so_far

pub left_start : (p : Parameters) (node : ℕ) (plan : Plan) (none : List Buffer) (values : List Value) → none ≡ []
    → buffers_left p node plan 0 none values ≡ with_buffers_of p node (map view values) plan
unfolding with_buffers_of
left_start p node plan none values is = rw is refl

-- one more buffer
pub kept_more : (plan new : Plan) (b : Buffer) → new ≡ with_buffers plan new.buffers
    → with_buffer new b ≡ with_buffers plan (new.buffers ++ b ∷ [])
kept_more plan new b kept = ap (λ (q : Plan). with_buffers q (new.buffers ++ b ∷ [])) kept
