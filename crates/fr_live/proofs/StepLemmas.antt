-- A step of the kept data is a step of each world that leads to them.
use Rattle.std.proofs.Common.{◌≡◌, ℕ, true, false, List, [], ◌∷◌, ◌++◌, Option, Some, None, refl, sym, subst, ap, ◌∙◌}
use Rattle.std.specs.Prelude.{option_map, Result, Ok, Err, IfOk, OnOk, OnErr, is_err}
use Rattle.std.specs.Option.{is_some}
use Rattle.std.specs.Result.{result_err}
use Rattle.fr_bus.specs.declared.error.BusError.TheVariants as bus
use Rattle.fr_core.proofs.WorldLemmas.{kept_step}
use Rattle.fr_core.specs.declared.error.StepError.{StepError}
use Rattle.fr_core.specs.declared.error.StepError.TheVariants.{UnknownNode, WrongTurn, Host, Slot, Bus}
use Rattle.fr_core.specs.declared.event.Event.{Event}
use Rattle.fr_core.specs.declared.event.Event.TheVariants.{Seal}
use Rattle.fr_core.specs.declared.event.Reply.{Reply}
use Rattle.fr_core.specs.declared.event.Reply.TheVariants.{Done, Committed, Window}
use Rattle.fr_interface.specs.Calls.{call_answer}
use Rattle.fr_interface.specs.declared.call.Answer.{Answer}
use Rattle.fr_interface.specs.declared.call.Call.{Call}
use Rattle.fr_interface.specs.declared.call.Call.TheVariants as host_call
use Rattle.fr_interface.specs.declared.interface.Receipt.{Receipt}
use Rattle.fr_slots.specs.Windows.{Opportunity}
use Rattle.fr_core.specs.Steps.{Refuses, step_refusal, step_reply, step_done, answered, with_window}
use Rattle.fr_core.specs.Steps.{event_of, reply_of}
use Rattle.fr_core.specs.Worlds.{WorldState, interface_at}
use Rattle.fr_live.proofs.CallLemmas.{reply_call}
use Rattle.fr_live.proofs.RefusalLemmas.{seal_refuses}
use Rattle.fr_core.specs.Agreement.{IsWorld}
use Rattle.fr_live.specs.LiveSteps.{Accepts, AcceptsAlike, LiveAccepts, LiveRefuses, RefusesAlike}
use Rattle.fr_live.specs.LiveSteps.{LiveApplies, LiveSteps, AppliesAlike, StepsAlike, SealsMachine, with_answer}
use Rattle.fr_live.specs.LiveSteps.{with_receipt, without_value}
use Rattle.fr_live.specs.LiveWorlds.{LiveState, Leads}

-- the answer with this reply in place of the value
abbrev pub replied : {X : Type 0} → (X → Reply) → Result X StepError → Result Reply StepError
replied reply (Ok x) = Ok (reply x)
replied reply (Err e) = Err e

module _ {X : Type 0} (old new : LiveState) (event : Event) (reply : X → Reply)
    (plain : (e : StepError) (found : Option StepError) → found ≡ Some e → Refuses event e found) where
  pub step_so : (r : Result X StepError) → ((w : WorldState) → Leads w old → result_err r ≡ step_refusal w event)
      → ((w : WorldState) → Leads w old → OnOk r (Leads (step_done w event) new)) → OnErr r (new ≡ old)
      → ((w : WorldState) → Leads w old → IfOk r (λ x. reply x ≡ step_reply w event))
      → LiveSteps old event (replied reply r) new
  step_so (Ok x) refusal leads refused replies w is =
      (step_done w event, (sym (refusal w is), replies w is, refl), leads w is)
  step_so (Err e) refusal leads refused replies w is =
      (w, (plain e (step_refusal w event) (sym (refusal w is)), refl), subst (Leads w) (sym refused) is)

done_replied : (r : Result (Unit {0}) StepError) → replied (λ x. Done) r ≡ answered Done r
done_replied (Ok x) = refl
done_replied (Err e) = refl

receipt_replied : (r : Result Receipt StepError) → replied Committed r ≡ with_receipt r
receipt_replied (Ok x) = refl
receipt_replied (Err e) = refl

answer_replied : (r : Result Answer StepError) → replied reply_of r ≡ with_answer r
answer_replied (Ok x) = refl
answer_replied (Err e) = refl

window_replied : (r : Result Opportunity StepError) → replied Window r ≡ with_window r
window_replied (Ok x) = refl
window_replied (Err e) = refl

module _ (old new : LiveState) (event : Event)
    (plain : (e : StepError) (found : Option StepError) → found ≡ Some e → Refuses event e found) where
  -- the same for an event without a reply of its own
  pub done_so : ((w : WorldState) → Done ≡ step_reply w event) → (r : Result (Unit {0}) StepError)
      → ((w : WorldState) → Leads w old → result_err r ≡ step_refusal w event)
      → ((w : WorldState) → Leads w old → OnOk r (Leads (step_done w event) new)) → OnErr r (new ≡ old)
      → LiveSteps old event (answered Done r) new
  done_so silent r refusal leads refused =
      subst (λ a. LiveSteps old event a new) (done_replied r)
      (step_so old new event (λ x. Done) plain r refusal leads refused (λ w is. on_ok w r))
    where
      on_ok : (w : WorldState) (a : Result (Unit {0}) StepError) → IfOk a (λ x. Done ≡ step_reply w event)
      on_ok w (Ok x) = silent w
      on_ok w (Err e) = tt

  -- the same for a commit and for a look
  pub receipt_so : (r : Result Receipt StepError)
      → ((w : WorldState) → Leads w old → result_err r ≡ step_refusal w event)
      → ((w : WorldState) → Leads w old → OnOk r (Leads (step_done w event) new)) → OnErr r (new ≡ old)
      → ((w : WorldState) → Leads w old → IfOk r (λ x. Committed x ≡ step_reply w event))
      → LiveSteps old event (with_receipt r) new
  receipt_so r refusal leads refused replies = subst (λ a. LiveSteps old event a new) (receipt_replied r)
      (step_so old new event Committed plain r refusal leads refused replies)

  pub window_so : (r : Result Opportunity StepError)
      → ((w : WorldState) → Leads w old → result_err r ≡ step_refusal w event)
      → ((w : WorldState) → Leads w old → OnOk r (Leads (step_done w event) new)) → OnErr r (new ≡ old)
      → ((w : WorldState) → Leads w old → IfOk r (λ x. Window x ≡ step_reply w event))
      → LiveSteps old event (with_window r) new
  window_so r refusal leads refused replies = subst (λ a. LiveSteps old event a new) (window_replied r)
      (step_so old new event Window plain r refusal leads refused replies)

-- no call of a task is a seal
plain_call : (n task : ℕ) (call : Call) (e : StepError) (found : Option StepError) → found ≡ Some e
    → Refuses (event_of n task call) e found
plain_call n task (host_call.Commit buffer payload) e found is = is
plain_call n task (host_call.Withdraw buffer) e found is = is
plain_call n task (host_call.Read buffer) e found is = is
plain_call n task host_call.Pop e found is = is

-- a fact about the value in an accepted answer gives another
pub on_value : {X : Type 0} {P Q : X → Type 0} (r : Result X StepError) → ((x : X) → P x → Q x) → IfOk r P → IfOk r Q
on_value (Ok x) so h = so x h
on_value (Err e) so h = tt

-- the same for a call of a task
pub call_so : (old new : LiveState) (n task : ℕ) (call : Call) (r : Result Answer StepError)
    → ((w : WorldState) → Leads w old → result_err r ≡ step_refusal w (event_of n task call))
    → ((w : WorldState) → Leads w old → OnOk r (Leads (step_done w (event_of n task call)) new))
    → OnErr r (new ≡ old)
    → ((w : WorldState) → Leads w old → IfOk r (λ a. a ≡ call_answer (interface_at w n) task call))
    → LiveSteps old (event_of n task call) (with_answer r) new
call_so old new n task call r refusal leads refused answers =
    subst (λ a. LiveSteps old (event_of n task call) a new) (answer_replied r)
    (step_so old new (event_of n task call) reply_of (plain_call n task call) r refusal leads refused
    (λ w is. on_value r (λ a h. ap reply_of h ∙ reply_call w n task call) (answers w is)))

pub seal_so : (old new : LiveState) (r : Result (Unit {0}) StepError) → SealsMachine old r new
    → LiveSteps old Seal (answered Done r) new
seal_so old new (Ok x) seals w is =
    (step_done w Seal, (sym (ap (option_map Bus) (sym seals.0) ∙ seal_refuses w old is), refl, refl), seals.1 w is)
seal_so old new (Err (Bus bus.Memory)) seals w is =
    (w, (sym (ap (option_map Bus) (sym seals.0) ∙ seal_refuses w old is), refl), subst (Leads w) (sym seals.1) is)
seal_so old new (Err UnknownNode) seals w is =
    (w, (sym (seal_refuses w old is) ∙ seals.0, refl), subst (Leads w) (sym seals.1) is)
seal_so old new (Err WrongTurn) seals w is =
    (w, (sym (seal_refuses w old is) ∙ seals.0, refl), subst (Leads w) (sym seals.1) is)
seal_so old new (Err (Host h)) seals w is =
    (w, (sym (seal_refuses w old is) ∙ seals.0, refl), subst (Leads w) (sym seals.1) is)
seal_so old new (Err (Slot s)) seals w is =
    (w, (sym (seal_refuses w old is) ∙ seals.0, refl), subst (Leads w) (sym seals.1) is)
seal_so old new (Err (Bus bus.UnknownNode)) seals w is =
    (w, (sym (seal_refuses w old is) ∙ seals.0, refl), subst (Leads w) (sym seals.1) is)
seal_so old new (Err (Bus bus.NotCollecting)) seals w is =
    (w, (sym (seal_refuses w old is) ∙ seals.0, refl), subst (Leads w) (sym seals.1) is)
seal_so old new (Err (Bus bus.WrongWindow)) seals w is =
    (w, (sym (seal_refuses w old is) ∙ seals.0, refl), subst (Leads w) (sym seals.1) is)
seal_so old new (Err (Bus bus.AlreadyPut)) seals w is =
    (w, (sym (seal_refuses w old is) ∙ seals.0, refl), subst (Leads w) (sym seals.1) is)
seal_so old new (Err (Bus bus.TooManyFaults)) seals w is =
    (w, (sym (seal_refuses w old is) ∙ seals.0, refl), subst (Leads w) (sym seals.1) is)
seal_so old new (Err (Bus bus.NotAllPut)) seals w is =
    (w, (sym (seal_refuses w old is) ∙ seals.0, refl), subst (Leads w) (sym seals.1) is)
seal_so old new (Err (Bus bus.NotSealed)) seals w is =
    (w, (sym (seal_refuses w old is) ∙ seals.0, refl), subst (Leads w) (sym seals.1) is)
seal_so old new (Err (Bus bus.AlreadyTaken)) seals w is =
    (w, (sym (seal_refuses w old is) ∙ seals.0, refl), subst (Leads w) (sym seals.1) is)
seal_so old new (Err (Bus bus.NotAllTaken)) seals w is =
    (w, (sym (seal_refuses w old is) ∙ seals.0, refl), subst (Leads w) (sym seals.1) is)
seal_so old new (Err (Bus bus.BadCycles)) seals w is =
    (w, (sym (seal_refuses w old is) ∙ seals.0, refl), subst (Leads w) (sym seals.1) is)

-- ---- a step without its reply

module _ {X : Type 0} (old new : LiveState) (event : Event)
    (plain : (e : StepError) (found : Option StepError) → found ≡ Some e → Refuses event e found) where
  pub applied_so : (r : Result X StepError) → ((w : WorldState) → Leads w old → result_err r ≡ step_refusal w event)
      → ((w : WorldState) → Leads w old → OnOk r (Leads (step_done w event) new)) → OnErr r (new ≡ old)
      → LiveApplies old event (without_value r) new
  applied_so (Ok x) refusal leads refused w is = (step_done w event, (sym (refusal w is), refl, refl), leads w is)
  applied_so (Err e) refusal leads refused w is =
      (w, (plain e (step_refusal w event) (sym (refusal w is)), refl), subst (Leads w) (sym refused) is)

pub applied_by : (old new : LiveState) (event : Event) (answer : Result Reply StepError)
    → LiveSteps old event answer new → LiveApplies old event (without_value answer) new
applied_by old new event (Ok reply) steps w is =
    let step = steps w is in
    (step.0, (step.1.0, refl, step.1.2), step.2)
applied_by old new event (Err e) steps w is = steps w is

-- ---- worlds

pub alike : (old new : LiveState) (event : Event) (answer : Result Reply StepError) → LiveSteps old event answer new
    → StepsAlike old event answer new
alike old new event answer steps w is =
    let step = steps w is.leads in
    (step.0, step.1, record { leads = step.2; world_is = kept_step w event answer step.0 step.1 is.world_is })

pub applies_alike : (old new : LiveState) (event : Event) (outcome : Result (Unit {0}) StepError)
    → LiveApplies old event outcome new → AppliesAlike old event outcome new
applies_alike old new event outcome applies w is =
    let step = applies w is.leads in
    let answer = answered (step_reply w event) outcome in
    (step.0, step.1, record { leads = step.2; world_is = kept_step w event answer step.0 step.1 is.world_is })

-- ---- accepted events

accepts_then : (first later : List Event) (w u v : WorldState) → Accepts w first u → Accepts u later v
    → Accepts w (first ++ later) v
unfolding Accepts
accepts_then [] later w u v one two = subst (λ (x : WorldState). Accepts x later v) one two
accepts_then (e ∷ es) later w u v one two = (one.0, accepts_then es later (step_done w e) u v one.1 two)

pub accepted_none : (old new : LiveState) → new ≡ old → LiveAccepts old [] new
unfolding Accepts
accepted_none old new same w is = (w, refl, subst (Leads w) (sym same) is)

-- further events
pub accepted_then : (old mid new : LiveState) (first later : List Event) → LiveAccepts old first mid
    → LiveAccepts mid later new → LiveAccepts old (first ++ later) new
accepted_then old mid new first later one two w is =
    let before = one w is in
    let after = two before.0 before.2 in
    (after.0, accepts_then first later w before.0 after.0 before.1 after.1, after.2)

module _ {X : Type 0} (old new : LiveState) (event : Event) where
  pub accepted_one : (r : Result X StepError) → is_err r ≡ false
      → ((w : WorldState) → Leads w old → result_err r ≡ step_refusal w event)
      → ((w : WorldState) → Leads w old → OnOk r (Leads (step_done w event) new)) → LiveAccepts old (event ∷ []) new
  unfolding Accepts
  accepted_one (Ok x) accepted refusal leads w is =
      (step_done w event, (sym (refusal w is), refl), leads w is)
  accepted_one (Err e) accepted refusal leads w is = absurd (let none : ⊥ = cc accepted in none)

  -- a refused event changes nothing
  pub refused_none : (r : Result X StepError) → is_err r ≡ true → OnErr r (new ≡ old) → LiveAccepts old [] new
  unfolding Accepts
  refused_none (Ok x) refused same w is = absurd (let none : ⊥ = cc refused in none)
  refused_none (Err e) refused same w is = (w, refl, subst (Leads w) (sym same) is)

  -- the refused event is refused by each world that leads to the data, before and after
  pub refused_next : (r : Result X StepError) → is_err r ≡ true → OnErr r (new ≡ old)
      → ((w : WorldState) → Leads w old → result_err r ≡ step_refusal w event) → LiveRefuses new (Some event)
  refused_next (Ok x) refused same told w is = absurd (let none : ⊥ = cc refused in none)
  refused_next (Err e) refused same told w is = sym (ap is_some (told w (subst (Leads w) same is)))

pub refuses_alike : (l : LiveState) (event : Option Event) → LiveRefuses l event → RefusesAlike l event
refuses_alike l None refused = tt
refuses_alike l (Some event) refused = λ w is. refused w is.leads

kept_all : (events : List Event) (w v : WorldState) → Accepts w events v → IsWorld w → IsWorld v
unfolding Accepts
kept_all [] w v same kept = subst IsWorld (sym same) kept
kept_all (e ∷ es) w v accepts kept =
    kept_all es (step_done w e) v accepts.1
    (kept_step w e (Ok (step_reply w e)) (step_done w e) (accepts.0, refl, refl) kept)

pub accepts_alike : (old new : LiveState) (events : List Event) → LiveAccepts old events new
    → AcceptsAlike old events new
accepts_alike old new events accepts w is =
    let done = accepts w is.leads in
    (done.0, done.1, record { leads = done.2; world_is = kept_all events w done.0 done.1 is.world_is })
