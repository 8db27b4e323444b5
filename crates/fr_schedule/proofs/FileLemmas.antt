-- The first fault of a file's table, step by step.
use Rattle.std.proofs.Common.{◌≡◌, ℕ, suc, ◌+◌, ◌≤◌, List, [], ◌∷◌, length, Option, Some, None, Result, Ok, Err, refl}
use Rattle.std.proofs.Common.{sym, ap, subst, ◌∙◌}
use Rattle.fr_schedule.proofs.StepLemmas.{then_ok, same_Ok}
use Rattle.fr_schedule.proofs.ClusterLemmas.{cluster_is}
use Rattle.fr_schedule.proofs.FitLemmas.{plans-fit}
use Rattle.fr_schedule.specs.Clusters.{IsCluster}
use Rattle.fr_schedule.specs.declared.error.ConfigError.{ConfigError}
use Rattle.fr_schedule.specs.declared.error.ConfigError.TheVariants as error
use Rattle.fr_schedule.specs.FileFaults.{file_fault}
use Rattle.fr_schedule.specs.Files.{params_in, guard_in, nodes_in, each_of, plan_of, unless_fault, description_of}
use Rattle.fr_slots.specs.declared.channel.Channels.{Channels}
use Rattle.fr_slots.specs.Parameters.{Parameters, IsParameters}
use Rattle.fr_slots.specs.Plans.{Plan, IsPlan, Each}
use Rattle.toml.specs.Data.{Data, Members}

module _ (root : Members) where
  pub params_refused : (e : ConfigError) → params_in root ≡ Err e → description_of root ≡ Err e
  unfolding description_of
  params_refused e is = rw is refl

  module _ (p : Parameters) (params_are : params_in root ≡ Ok p) where
    pub guard_refused : (e : ConfigError) → guard_in root ≡ Err e → description_of root ≡ Err e
    unfolding description_of
    guard_refused e is = rw (params_are, is) refl

    module _ (guard : Option Channels) (guard_is : guard_in root ≡ Ok guard) where
      pub nodes_refused : nodes_in root ≡ None → description_of root ≡ Err error.TooManyNodes
      unfolding description_of
      nodes_refused is = rw (params_are, guard_is, is) refl

      module _ (values : List Data) (values_are : nodes_in root ≡ Some values) where
        pub plans_refused : (e : ConfigError) → each_of (plan_of p) 0 values ≡ Err e → description_of root ≡ Err e
        unfolding description_of
        plans_refused e is = rw (params_are, guard_is, values_are, is) refl

        pub plans_read : (plans : List Plan) → each_of (plan_of p) 0 values ≡ Ok plans
            → description_of root ≡ unless_fault (file_fault p plans)
            (record { params = p; guard = guard; plans = plans })
        unfolding description_of
        plans_read plans is = rw (params_are, guard_is, values_are, is) refl

-- as many values are read as there are
pub each_of-length : {X A : Type 0} (read : ℕ → X → Result A ConfigError) (n : ℕ) (xs : List X) (all : List A)
    → each_of read n xs ≡ Ok all → length all ≡ length xs
unfolding each_of
each_of-length read n [] all is = ap length (sym (same_Ok [] all is))
each_of-length read n (x ∷ xs) all is =
    let (one, is_one, rest) = then_ok (read n x) _ all is in
    let (more, is_more, made) = then_ok (each_of read (n + 1) xs) _ all rest in
    ap length (sym (same_Ok (one ∷ more) all made)) ∙ ap suc (each_of-length read (n + 1) xs more is_more)

-- the nodes read from a file without fault are a cluster
pub read_cluster : (p kept : Parameters) (guard : Option Channels) (values : List Data) (plans : List Plan) → kept ≡ p
    → IsParameters p → 1 ≤ length values → length values ≤ 16
    → each_of (plan_of p) 0 values ≡ Ok plans → Each IsPlan plans → file_fault p plans ≡ None
    → IsCluster (record { params = kept; guard = guard; plans = plans })
read_cluster p kept guard values plans same lawful some few read are free =
    let as_many = each_of-length (plan_of p) 0 values plans read in
    subst (λ (q : Parameters). IsCluster (record { params = q; guard = guard; plans = plans })) (sym same)
    (cluster_is (record { params = p; guard = guard; plans = plans }) lawful (subst (λ n. 1 ≤ n) (sym as_many) some)
    (subst (λ n. n ≤ 16) (sym as_many) few) are
    (plans-fit p values plans read) free)
