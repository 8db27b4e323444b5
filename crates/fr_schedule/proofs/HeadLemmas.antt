-- The contents of a node's plan before its buffers are read.
use Rattle.std.proofs.Common.{◌≡◌, List, [], codes, Option, Some, None, option_map, sym, ap, ◌∙◌}
use Rattle.std.proofs.lemmas.Option.{same_Some}
use Rattle.std.specs.Prelude.{IfSome}
use Rattle.fr_schedule.proofs.StepLemmas.{then_some, map_some}
use Rattle.fr_schedule.specs.TableReading.{tables_at, all_of, or_default}
use Rattle.fr_schedule.specs.NodeTables.{own_of, owning, with_owned_in, with_queue_in, queue_of}
use Rattle.fr_slots.specs.declared.plan.Own.{Own}
use Rattle.fr_slots.specs.declared.plan.Queue.{Queue}
use Rattle.fr_slots.specs.Parameters.{Parameters}
use Rattle.fr_slots.specs.Plans.{Plan, with_queue}
use Rattle.toml.specs.Data.{Data, Members, get_member}

-- the ownership lines that were read are in the plan, and nothing else
pub record Owns (p : Parameters) (plan new : Plan) : Type 0 where
  pub lines : List Data
  pub owned : List Own
  pub read : all_of (own_of p) lines ≡ Some owned
  pub is : owning plan owned ≡ new

pub owned_is : (p : Parameters) (table : Members) (plan new : Plan) → with_owned_in p table plan ≡ Some new
    → Owns p plan new
unfolding with_owned_in
owned_is p table plan new is =
    let (lines, at, rest) = then_some (tables_at (codes "own") table)
    (λ lines. option_map (owning plan) (all_of (own_of p) lines)) new is in
    let (owned, read, made) = map_some (owning plan) (all_of (own_of p) lines) new rest in
    record { lines = lines; owned = owned; read = read; is = made }

-- only the receive FIFO differs
abbrev pub IsQueued : Plan → Plan → Type 0
IsQueued plan new = (queue : Option Queue) × (record plan { queue = queue } ≡ new)

queued_by : (plan new : Plan) (o : Option Data) → or_default plan
    (λ value. option_map (with_queue plan) (queue_of value)) o ≡ Some new → IsQueued plan new
queued_by plan new None is = (plan.queue, same_Some plan new is)
queued_by plan new (Some value) is =
    let (queue, read, made) = map_some (with_queue plan) (queue_of value) new is in (Some queue, made)

pub queued_is : (table : Members) (plan new : Plan) → with_queue_in table plan ≡ Some new → IsQueued plan new
unfolding with_queue_in
queued_is table plan new is = queued_by plan new (get_member (codes "queue") table) is

pub owned_queue : (p : Parameters) (table : Members) (plan new : Plan) → with_owned_in p table plan ≡ Some new
    → plan.queue ≡ None → new.queue ≡ None
owned_queue p table plan new is none = let o = owned_is p table plan new is in ap (λ (q : Plan). q.queue) (sym o.is) ∙
    none

pub owned_buffers : (p : Parameters) (table : Members) (plan new : Plan) → with_owned_in p table plan ≡ Some new
    → plan.buffers ≡ [] → new.buffers ≡ []
owned_buffers p table plan new is none = let o = owned_is p table plan new is in ap (λ (q : Plan). q.buffers) (sym o.is)
    ∙ none

pub queued_buffers : (table : Members) (plan : Plan) (new : Option Plan) → new ≡ with_queue_in table plan
    → plan.buffers ≡ [] → IfSome new (λ q. q.buffers ≡ [])
queued_buffers table plan None is none = tt
queued_buffers table plan (Some new) is none = let q = queued_is table plan new (sym is) in ap (λ (r : Plan). r.buffers)
    (sym q.1) ∙ none
