-- The first fault of nodes, and the first slot that lines or buffers of several nodes share.
use Rattle.std.proofs.Common.{◌≡◌, ℕ, ◌+◌, Bool, true, false, if◌then◌else◌, List, [], ◌∷◌, Option, Some, None}
use Rattle.std.proofs.Common.{option_map, refl, sym, ap, ◌∙◌}
use Rattle.std.specs.Option.{option_or}
use Rattle.fr_schedule.specs.declared.error.ConfigError.{ConfigError}
use Rattle.fr_schedule.specs.declared.error.ConfigError.TheVariants as error
use Rattle.fr_schedule.specs.FileFaults.{all_owned, all_buffers, first_in_nodes, overlap_at, overlap_on, overlap_in}
use Rattle.fr_schedule.specs.FileFaults.{first_overlap}
use Rattle.fr_schedule.specs.RuleFaults.{overlap_fault}
use Rattle.fr_slots.proofs.FaultlessLemmas.{map_none}
use Rattle.fr_slots.proofs.ScanLemmas.{overlap-none, overlap-some}
use Rattle.fr_slots.specs.declared.channel.Channel.{Channel}
use Rattle.fr_slots.specs.declared.fault.PlanFault.{PlanFault}
use Rattle.fr_slots.specs.declared.fault.PlanFault.TheVariants as fault
use Rattle.fr_slots.specs.declared.sharing.Occasion.{Occasion}
use Rattle.fr_slots.specs.Faults as plan
use Rattle.fr_slots.specs.Faults.{first_of, is_overlap, slots, channels, cycles}
use Rattle.fr_slots.specs.Plans.{Plan}
use Rattle.fr_slots.specs.Sharing.{IsFirst}

-- ---- nodes

module _ (fault : ℕ → Plan → Option ConfigError) where
  pub nodes_some : (n : ℕ) (plan : Plan) (plans : List Plan) (e : ConfigError) → fault n plan ≡ Some e
      → first_in_nodes fault n (plan ∷ plans) ≡ Some e
  unfolding first_in_nodes
  nodes_some n plan plans e is = rw is refl

  pub nodes_none : (n : ℕ) (plan : Plan) (plans : List Plan) → fault n plan ≡ None
      → first_in_nodes fault n (plan ∷ plans) ≡ first_in_nodes fault (n + 1) plans
  unfolding first_in_nodes
  nodes_none n plan plans is = rw is refl

  pub nodes_end : (n : ℕ) → first_in_nodes fault n [] ≡ None
  unfolding first_in_nodes
  nodes_end n = refl

-- ---- the faults of one plan, as faults of a file

abbrev of_file : PlanFault → ConfigError
of_file (fault.Overlap slot channel cycle) = error.Overlap slot channel cycle
of_file other = error.Toml

or_map : {A B : Type 0} (h : A → B) (o p : Option A) → option_or (option_map h o) (option_map h p) ≡ option_map h
    (option_or o p)
or_map h None p = refl
or_map h (Some x) p = refl

first_of-map : {X A B : Type 0} (h : A → B) (f : X → Option A) (g : X → Option B) → ((x : X) → g x ≡ option_map h (f x))
    → (xs : List X) → first_of g xs ≡ option_map h (first_of f xs)
unfolding first_of
first_of-map h f g same [] = refl
first_of-map h f g same (x ∷ xs) =
    ap (λ o. option_or o (first_of g xs)) (same x)
    ∙ ap (λ o. option_or (option_map h (f x)) o) (first_of-map h f g same xs)
    ∙ or_map h (f x) (first_of f xs)

overlap_here : (b : Bool) (slot : ℕ) (channel : Channel) (cycle : ℕ)
    → (if b then Some (error.Overlap slot channel cycle) else None) ≡ option_map of_file
    (if b then Some (fault.Overlap slot channel cycle) else None)
overlap_here true slot channel cycle = refl
overlap_here false slot channel cycle = refl

overlap_same : (plans : List Plan) → first_overlap plans ≡ option_map of_file
    (plan.first_overlap (all_owned plans) (all_buffers plans))
overlap_same plans =
    let owned = all_owned plans in
    let buffers = all_buffers plans in
    first_of-map of_file (plan.overlap_in owned buffers) (overlap_in plans)
    (λ slot.
    first_of-map of_file (plan.overlap_on owned buffers slot) (overlap_on plans slot)
    (λ channel.
    first_of-map of_file (plan.overlap_at owned buffers slot channel) (overlap_at plans slot channel)
    (λ cycle. overlap_here (is_overlap owned buffers slot channel cycle) slot channel cycle) cycles)
    channels)
    slots

-- ---- slots that lines or buffers share

pub overlap_is : (plans : List Plan) (o : Option Occasion) → IsFirst (is_overlap (all_owned plans) (all_buffers plans))
    o
    → option_map overlap_fault o ≡ first_overlap plans
overlap_is plans None is =
    sym (overlap_same plans ∙ ap (option_map of_file) (overlap-none (all_owned plans) (all_buffers plans) is))
overlap_is plans (Some o) is =
    sym (overlap_same plans ∙ ap (option_map of_file) (overlap-some (all_owned plans) (all_buffers plans) o is))

-- if the lines of all plans together have no overlap, those of each plan have none
pub no_overlap_plans : (plans : List Plan) → first_overlap plans ≡ None
    → plan.first_overlap (all_owned plans) (all_buffers plans) ≡ None
no_overlap_plans plans none =
    map_none of_file (plan.first_overlap (all_owned plans) (all_buffers plans)) (sym (overlap_same plans) ∙ none)
