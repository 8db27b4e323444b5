-- The number of nodes of a world, and their parameters.
use Rattle.std.proofs.Common.{◌≡◌, ◌≤◌, ◌<◌, List, [], ◌∷◌, length, map, get_or, sym, ap, ◌∙◌, arith}
use Rattle.std.proofs.lemmas.List.{length-map}
use Rattle.fr_core.specs.Headline.{Headline}
use Rattle.fr_core.specs.Worlds.{WorldState, new_interface, without_entries}
use Rattle.fr_interface.specs.State.{State}
use Rattle.fr_slots.specs.Parameters.{Parameters}
use Rattle.fr_slots.specs.Plans.{Plan}

module _ (w : WorldState) (h : Headline w) where
  one_each : length w.interfaces ≡ length w.bus.cluster.plans
  one_each =
      sym (length-map w.interfaces without_entries) ∙ ap (length {A = State}) h.agrees.configured
      ∙ length-map w.bus.cluster.plans (new_interface w.bus.cluster.params)

  pub few_nodes : length w.interfaces ≤ 16
  few_nodes = omega (arith, one_each, h.run.lawful.few_nodes)

  pub some_nodes : 0 < length w.interfaces
  some_nodes = omega (arith, one_each, h.run.lawful.some_nodes)

params_in : (p : Parameters) (ss : List State) (plans : List Plan) (s : State)
    → map without_entries ss ≡ map (new_interface p) plans → 0 < length ss → s ≡ get_or ss 0 s
    → s.params ≡ p
params_in p [] plans s same some is = absurd (omega arith)
params_in p (x ∷ ss) [] s same some is = absurd cc
params_in p (x ∷ ss) (plan ∷ plans) s same some is =
    let first : without_entries x ≡ new_interface p plan = cc in
    ap (λ (s : State). s.params) is ∙ ap (λ (s : State). s.params) first

pub params_are : (w : WorldState) → Headline w → (s : State) → s ≡ get_or w.interfaces 0 s
    → s.params ≡ w.bus.cluster.params
params_are w h s is = params_in w.bus.cluster.params w.interfaces w.bus.cluster.plans s h.agrees.configured
    (some_nodes w h) is
