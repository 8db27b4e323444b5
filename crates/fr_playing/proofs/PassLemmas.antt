-- Accepted events, cut in two, and what each of them keeps.
use Rattle.std.proofs.Common.{◌≡◌, ℕ, Bool, true, List, [], ◌∷◌, ◌++◌, length, Ok, None, refl, sym, ap, subst}
use Rattle.std.proofs.Common.{◌∙◌}
use Rattle.std.specs.List.{list_all}
use Rattle.std.proofs.lemmas.List.{length-map}
use Rattle.fr_core.proofs.CaseLemmas.{both_first, both_rest}
use Rattle.fr_core.proofs.ClusterLemmas.{steps_cluster}
use Rattle.fr_core.proofs.WorldLemmas.{kept_step}
use Rattle.fr_core.specs.Runs.{StepsAll}
use Rattle.fr_core.specs.Agreement.{IsWorld}
use Rattle.fr_core.specs.declared.event.Event.{Event}
use Rattle.fr_core.specs.Steps.{step_done, step_refusal, step_reply}
use Rattle.fr_core.specs.Worlds.{WorldState, interface_at, new_interface, without_entries}
use Rattle.fr_interface.specs.State.{State}
use Rattle.fr_playing.specs.Striking.{Passes}
use Rattle.fr_schedule.specs.Descriptions.{Description}
use Rattle.fr_playing.proofs.EventLemmas.{is_of_slot, IsKept, done_on, goes_keeps, AreBalanced, balanced_done}

pub record IsSplit (old : WorldState) (xs ys : List Event) (new : WorldState) : Type 0 where
  pub mid : WorldState
  pub first : Passes old xs mid
  pub second : Passes mid ys new

pub passes_split : (old : WorldState) (xs ys : List Event) (new : WorldState) → Passes old (xs ++ ys) new
    → IsSplit old xs ys new
unfolding Passes
passes_split old [] ys new passes = record { mid = old; first = refl; second = passes }
passes_split old (x ∷ xs) ys new passes =
    let (between, reply, step, rest) = passes in
    let cut = passes_split between xs ys new rest in
    record { mid = cut.mid; first = (between, reply, step, cut.first); second = cut.second }

-- the one event, which is accepted
pub record IsDone (old : WorldState) (event : Event) (new : WorldState) : Type 0 where
  pub free : step_refusal old event ≡ None
  pub done : new ≡ step_done old event

pub passes_event : (old : WorldState) (event : Event) (new : WorldState) → Passes old (event ∷ []) new
    → IsDone old event new
unfolding Passes
passes_event old event new passes =
    let (between, reply, step, rest) = passes in
    record { free = step.0; done = rest ∙ step.2 }

-- what the first event keeps, and then the others
pub passes_keep : (P : WorldState → Type 0) (is_one : Event → Bool)
    → ((w : WorldState) (event : Event) → is_one event ≡ true → step_refusal w event ≡ None → P w
    → P (step_done w event))
    → (old : WorldState) (events : List Event) (new : WorldState) → list_all is_one events ≡ true
    → Passes old events new → P old → P new
unfolding Passes
passes_keep P is_one keeps old [] new all passes p = subst P (sym passes) p
passes_keep P is_one keeps old (event ∷ events) new all passes p =
    let (between, reply, step, rest) = passes in
    passes_keep P is_one keeps between events new (both_rest (is_one event) (list_all is_one events) all) rest
    (subst P (sym step.2) (keeps old event (both_first (is_one event) (list_all is_one events) all) step.0 p))

-- ---- events of slots

-- a property of each node's journal
pub slots_keep : (Q : ℕ → State → Type 0) → IsKept Q → (old : WorldState) (events : List Event) (new : WorldState)
    → list_all is_of_slot events ≡ true → Passes old events new
    → ((m : ℕ) → Q m (interface_at old m)) → (m : ℕ) → Q m (interface_at new m)
slots_keep Q keeps old events new all passes q =
    passes_keep (λ w. (m : ℕ) → Q m (interface_at w m)) is_of_slot
    (λ w event of_slot free before m. goes_keeps Q keeps m (interface_at w m) (interface_at (step_done w event) m)
    (done_on w event of_slot m) (before m))
    old events new all passes q

pub world_done : (w : WorldState) (event : Event) → step_refusal w event ≡ None → IsWorld w
    → IsWorld (step_done w event)
world_done w event free world = kept_step w event (Ok (step_reply w event)) (step_done w event)
    (free, refl, refl) world

cluster_done : (w : WorldState) (event : Event) → step_refusal w event ≡ None
    → (step_done w event).bus.cluster ≡ w.bus.cluster
unfolding StepsAll
cluster_done w event free =
    steps_cluster w (event ∷ []) (Ok (step_reply w event) ∷ []) (step_done w event)
    (step_done w event, (free, refl, refl), refl)

-- a world of the cluster, in which each node has observed as many windows as it has fetched, but for an open one
pub record IsSound (d : Description) (w : WorldState) : Type 0 where
  pub world : IsWorld w
  pub balanced : AreBalanced w
  pub cluster : w.bus.cluster ≡ d

pub slots_sound : (d : Description) (old : WorldState) (events : List Event) (new : WorldState)
    → list_all is_of_slot events ≡ true → Passes old events new → IsSound d old → IsSound d new
slots_sound d old events new all passes sound =
    passes_keep (IsSound d) is_of_slot
    (λ w event of_slot free before. record {
      world = world_done w event free before.world;
      balanced = balanced_done w event of_slot free before.world.a_controller_each before.balanced;
      cluster = cluster_done w event free ∙ before.cluster;
    }) old events new all passes sound

-- the nodes of such a world are those of the cluster
pub as_many_nodes : (d : Description) (w : WorldState) → IsSound d w → length w.interfaces ≡ length d.plans
as_many_nodes d w sound =
    sym (length-map w.interfaces without_entries)
    ∙ ap length sound.world.configured
    ∙ length-map w.bus.cluster.plans (new_interface w.bus.cluster.params)
    ∙ ap (λ (c : Description). length c.plans) sound.cluster
