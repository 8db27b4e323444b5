-- The fields of `Guardian` as the cluster's description, and their contents.
use Rattle.std.specs.Prelude.{◌≡◌, ℕ, ◌-◌, ◌*◌, ◌%◌, ◌<◌, ◌↔◌, IsTrue, Bool, true, false, List, map}
use Rattle.std.specs.Prelude.{length, slice_index_or, slice_get, Some, Vec}
use Rattle.std.specs.declared.alloc.Global.{Global}
use Rattle.std.specs.List.{All}
use Rattle.fr_slots.specs.declared.channel.Channel.{Channel}
use Rattle.fr_slots.specs.declared.channel.Channel.TheVariants.{A, B}
use Rattle.fr_slots.specs.declared.plan.Own.{Own}
use Rattle.fr_slots.specs.Faults.{is_owned}
use Rattle.fr_guardian.specs.declared.guardian.Guardian.TheInside.{Inside}
use Rattle.fr_guardian.specs.declared.guardian.Post.{Post}
use Rattle.fr_guardian.specs.Guarding.{IsOpenTo}
use Rattle.fr_guardian.specs.Intervals.{Span, AreMaximalIntervals, IsCovered}
use Rattle.fr_guardian.specs.Periods.{period}
use Rattle.fr_slots.specs.Numbers.{IsSlot}
use Rattle.fr_slots.specs.Parameters.{Parameters, is_static_slot}
use Rattle.fr_schedule.specs.Clusters.{IsCluster}
use Rattle.fr_schedule.specs.Descriptions.{Description, is_guarded}

-- the intervals of a cycle, as the code keeps them
abbrev pub Row : Type 0
Row = Vec Span Global

-- the intervals that the post keeps for the channel, cycle by cycle
abbrev pub rows_on : Post → Channel → List Row
rows_on post A = post.a.items
rows_on post B = post.b.items

-- a row for each cycle of the period of the owned slots, with the open macroticks of that cycle
pub record AreRows (p : Parameters) (guarded : Bool) (owned : List Own) (channel : Channel)
    (rows : List Row) : Type 0 where
  pub size : length rows ≡ period owned
  pub each : (cycle : ℕ) (row : Row) → slice_get rows cycle ≡ Some row
      → AreMaximalIntervals (IsOpenTo p guarded owned cycle channel) row.items

-- these are the intervals of the cycle; the rows repeat
pub record IsRowAt (rows : List Row) (cycle : ℕ) (spans : List Span) : Type 0 where
  pub row : Row
  pub at : slice_get rows (cycle % length rows) ≡ Some row
  pub spans_are : row.items ≡ spans

-- the intervals that the post keeps are the open macroticks of its node in this cluster
pub record IsPost (d : Description) (post : Post) : Type 0 where
  pub on_a : AreRows d.params (is_guarded d.guard A) post.plan.owned A post.a.items
  pub on_b : AreRows d.params (is_guarded d.guard B) post.plan.owned B post.b.items

-- the posts of the cluster's nodes, in their order
pub record ArePosts (d : Description) (posts : List Post) : Type 0 where
  pub plans_are : map (λ (post : Post). post.plan) posts ≡ d.plans
  pub each : All (IsPost d) posts

abbrev pub description_in : Inside → Description
description_in g = record { params = g.params; guard = g.guard; plans = map (λ (post : Post). post.plan) g.posts.items }

pub record IsLawful (g : Inside) : Type 0 where
  pub cluster : IsCluster (description_in g)
  pub each : All (IsPost (description_in g)) g.posts.items

-- the answer is true exactly if the slot is static and its first macrotick lies in one of the intervals
pub record IsSlotWithin (p : Parameters) (spans : List Span) (slot : ℕ) (answer : Bool) : Type 0 where
  pub slot_is : IsSlot slot
  pub tells : IsTrue answer ↔ ((is_static_slot p slot ≡ true) × IsCovered spans ((slot - 1) * p.static_mt))

-- an answer for each number: it is a slot that the node owns on the channel in the cycle
pub record AreOwnedSlots (owned : List Own) (cycle : ℕ) (channel : Channel) (slots : List Bool) : Type 0 where
  pub size : length slots ≡ 2048
  pub each : (slot : ℕ) → slot < 2048 → slice_index_or slots slot false ≡ is_owned owned slot channel cycle
