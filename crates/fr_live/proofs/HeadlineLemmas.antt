-- The headline promise of each world that leads to some data.
use Rattle.std.proofs.Common.{◌≡◌, List, [], ◌∷◌, map, sym, subst, ap, ◌∙◌}
use Rattle.std.proofs.lemmas.List.Elements.{All-nil, All-cons}
use Rattle.std.specs.List.{All}
use Rattle.std.specs.Prelude.{slice_index_or}
use Rattle.fr_bus.proofs.SenderLemmas.{one_sender}
use Rattle.fr_core.proofs.HeadlineLemmas.{headline}
use Rattle.fr_core.specs.Headline.{Headline}
use Rattle.fr_core.specs.Worlds.{WorldState, no_interface, new_interface, without_entries}
use Rattle.fr_interface.proofs.AccountLemmas.{all_accounted}
use Rattle.fr_interface.specs.Standing.{Standing, IsHistory}
use Rattle.fr_interface.specs.State.{State, IsLegalInterface}
use Rattle.fr_live.specs.LiveWorlds.{LiveState, AreHistories, IsWorldHistory}
use Rattle.fr_schedule.specs.Clusters.{IsNode}
use Rattle.fr_slots.specs.Faults.{plan_fault}
use Rattle.fr_slots.specs.Parameters.{Parameters}
use Rattle.fr_slots.specs.Plans.{Plan, IsPlan, Each}

-- a history of the interface of a node of the cluster is legal
legal_one : (h : Standing) (s : State) (params : Parameters) (p : Plan) → IsHistory h s → IsNode params p
    → without_entries s ≡ new_interface params p → IsLegalInterface s
legal_one h s params p history node same =
    let params_are : s.params ≡ params = ap (λ (t : State). t.params) same in
    let plan_is : s.plan ≡ p = ap (λ (t : State). t.plan) same in
    record {
      params_are = history.legal.params_are;
      plan_is = subst IsPlan (sym plan_is) node.0;
      faultless = (λ i. plan_fault (params_are i) (plan_is i)) ∙ node.1;
      entries_are = history.legal.entries_are;
      legal = history.legal.legal;
    }

legal_all : (hs : List Standing) (ss : List State) (params : Parameters) (ps : List Plan) → AreHistories hs ss
    → Each (IsNode params) ps → map without_entries ss ≡ map (new_interface params) ps → All IsLegalInterface ss
legal_all hs [] params ps are nodes same = All-nil IsLegalInterface
legal_all [] (s ∷ ss) params ps are nodes same = absurd are
legal_all (h ∷ hs) (s ∷ ss) params [] are nodes same = absurd (let none : ⊥ = cc in none)
legal_all (h ∷ hs) (s ∷ ss) params (p ∷ ps) are nodes same =
    All-cons IsLegalInterface s ss
    (legal_one h s params p are.0 nodes.0 (ap (λ (l : List State). slice_index_or l 0 no_interface) same))
    (legal_all hs ss params ps are.1 nodes.1 (ap (λ (l : List State). rest l) same))
  where
    rest : List State → List State
    rest [] = []
    rest (t ∷ ts) = ts

pub each_world : (w : WorldState) (l : LiveState) → IsWorldHistory l w → Headline w
each_world w l is =
    let run = is.leads.bus_is.of_bus.run in
    let lawful : All IsLegalInterface w.interfaces =
    legal_all l.interfaces w.interfaces w.bus.cluster.params w.bus.cluster.plans is.leads.interfaces_are
    run.lawful.nodes_are is.world_is.configured in
    headline w lawful (all_accounted w.interfaces lawful) run (one_sender w.bus run) is.world_is
