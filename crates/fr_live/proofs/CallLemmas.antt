-- The call of a task at a node is one event of the world.
use Rattle.std.proofs.Common.{◌≡◌, ℕ, Bool, true, false, cond, Option, Some, refl, ap}
use Rattle.std.specs.Prelude.{option_map, Ok, Err}
use Rattle.fr_core.specs.declared.error.StepError.{StepError}
use Rattle.fr_core.specs.declared.error.StepError.TheVariants.{UnknownNode, Host}
use Rattle.fr_core.specs.Steps.{event_of, reply_of, step_refusal, step_reply, step_done, with_interface}
use Rattle.fr_core.specs.Worlds.{WorldState, has_node, interface_at}
use Rattle.fr_interface.specs.Calls.{call_refusal, call_answer, call_entry}
use Rattle.fr_interface.specs.declared.call.Call.{Call}
use Rattle.fr_interface.specs.declared.call.Call.TheVariants.{Commit, Withdraw, Read, Pop}
use Rattle.fr_interface.specs.State.{with_entry}

-- the error of a node that there isn't
pub place_no : (there : Bool) (n : ℕ) (e : StepError) → Err e ≡ cond there (Ok n) (Err UnknownNode)
    → (there ≡ false) × (e ≡ UnknownNode)
place_no true n e same = absurd (let none : ⊥ = cc in none)
place_no false n e same = (refl, let unknown : e ≡ UnknownNode = cc in unknown)

if_no : (b : Bool) (x : Option StepError) → b ≡ false → cond b x (Some UnknownNode) ≡ Some UnknownNode
if_no b x gone = ap (λ c. cond c x (Some UnknownNode)) gone

if_there : (b : Bool) (x : Option StepError) → b ≡ true → cond b x (Some UnknownNode) ≡ x
if_there b x there = ap (λ c. cond c x (Some UnknownNode)) there

module _ (w : WorldState) (n task : ℕ) where
  pub no_node : (call : Call) → has_node w n ≡ false → step_refusal w (event_of n task call) ≡ Some UnknownNode
  no_node (Commit buffer payload) gone = if_no (has_node w n) _ gone
  no_node (Withdraw buffer) gone = if_no (has_node w n) _ gone
  no_node (Read buffer) gone = if_no (has_node w n) _ gone
  no_node Pop gone = if_no (has_node w n) _ gone

  pub node_call : (call : Call) → has_node w n ≡ true
      → step_refusal w (event_of n task call) ≡ option_map Host (call_refusal (interface_at w n) task call)
  node_call (Commit buffer payload) there = if_there (has_node w n) _ there
  node_call (Withdraw buffer) there = if_there (has_node w n) _ there
  node_call (Read buffer) there = if_there (has_node w n) _ there
  node_call Pop there = if_there (has_node w n) _ there

  pub reply_call : (call : Call)
      → reply_of (call_answer (interface_at w n) task call) ≡ step_reply w (event_of n task call)
  reply_call (Commit buffer payload) = refl
  reply_call (Withdraw buffer) = refl
  reply_call (Read buffer) = refl
  reply_call Pop = refl

  pub done_call : (call : Call)
      → with_interface w n (with_entry (interface_at w n) (call_entry (interface_at w n) task call))
      ≡ step_done w (event_of n task call)
  done_call (Commit buffer payload) = refl
  done_call (Withdraw buffer) = refl
  done_call (Read buffer) = refl
  done_call Pop = refl
