-- Each event adds its entry to the journal of its node, and the line of that to the trace.
use Rattle.std.proofs.Common.{◌≡◌, ◌≢◌, ◌<◌, ◌≤◌, ℕ, zero, suc, take}
use Rattle.std.proofs.Common.{Bool, true, false, cond, List, [], ◌∷◌, ◌++◌}
use Rattle.std.proofs.Common.{length, Option, Some, None, Result, Ok, Err, refl, sym, ap, ap₂, subst, ◌∙◌, append_assoc}
use Rattle.std.proofs.Common.{append-nil, arith, get_or, eqb, inl, inr, ◌⊎◌}
use Rattle.std.specs.Prelude.{is_ok}
use Rattle.std.specs.List.{flat_map}
use Rattle.std.proofs.lemmas.Bool.{ltb-true}
use Rattle.std.proofs.lemmas.Bool.Decides.{eqb_tells}
use Rattle.std.proofs.lemmas.List.{get_or-set_other, get_or-set_same, get_or_past}
use Rattle.std.proofs.lemmas.List.Concat.{flat_map-append}
use Rattle.fr_auditing.specs.LongText.{long_begin_text, long_body_text}
use Rattle.fr_bus.specs.Standing.{LiveStanding}
use Rattle.fr_bus.specs.States.{collecting_of}
use Rattle.fr_core.proofs.FrontLemmas.{index_any, take_front}
use Rattle.fr_core.specs.Carried.{Carried, Idle, Knows, Offers, Waits, Took}
use Rattle.fr_core.specs.declared.error.StepError.{StepError}
use Rattle.fr_core.specs.declared.error.StepError.TheVariants.{UnknownNode}
use Rattle.fr_core.specs.declared.event.Event.{Event}
use Rattle.fr_core.specs.declared.event.Event.TheVariants.{Commit, Withdraw, Read, Pop, Look, Fetch, Put, Take}
use Rattle.fr_core.specs.declared.event.Event.TheVariants.{Observe, Inject, Seal, Advance}
use Rattle.fr_core.specs.declared.event.Reply.{Reply}
use Rattle.fr_core.specs.declared.event.Reply.TheVariants.{Done}
use Rattle.fr_core.specs.Runs.{Answer}
use Rattle.fr_core.specs.Steps.{Applies, Steps, fetched, looked, observed, put_on_bus, step_done, step_refusal}
use Rattle.fr_core.specs.Steps.{step_reply}
use Rattle.fr_core.specs.Steps.{event_of, reply_of, taken, with_interface}
use Rattle.fr_core.specs.Worlds.{WorldState, carried_at, has_node, interface_at, no_interface}
use Rattle.fr_endless.proofs.TapLemmas.{added_as, added_none, capture_grows, done_keeps, record_grows, seals_window}
use Rattle.fr_endless.proofs.TapLemmas.{more_none, more_unknown, no_text, told_flushed, told_more}
use Rattle.fr_endless.specs.Alike.{Alike}
use Rattle.fr_core.specs.declared.front.Front.{Front}
use Rattle.fr_core.specs.declared.front.Front.TheVariants as front
use Rattle.fr_endless.specs.Fronts.{IsUntraced, events_of}
use Rattle.fr_endless.specs.Taps.{AddsBoth, AddsEach, AddsLast, AddsMore, IsLine, IsTold, Start, TapsState, ToldAlike}
use Rattle.fr_endless.proofs.KeptLemmas.{as_many_places, holds_as, holds_sealed}
use Rattle.fr_endless.specs.Kept.{HoldsLast}
use Rattle.fr_endless.specs.Taps.{IsToldHistory, ToldBy, with_kept}
use Rattle.fr_endless.specs.Taps.{ToldState}
use Rattle.fr_endless.specs.Taps.{at_node, body_at, capture_last, is_seal, record_last, record_of, traced_in, with_taps}
use Rattle.fr_endless.specs.Tracing.{IsPlain, adds_entry, entry_by, fetched_entry, line_in, node_of}
use Rattle.fr_endless.specs.Tracing.{call_in, entry_told, observed_entry}
use Rattle.fr_endless.specs.declared.tracing.HostCall.{HostCall}
use Rattle.fr_interface.specs.Calls.{call_answer}
use Rattle.fr_interface.specs.declared.call.Answer as interface
use Rattle.fr_interface.specs.declared.call.Call.{Call}
use Rattle.fr_interface.specs.declared.call.Call.TheVariants as host
use Rattle.fr_interface.specs.Standing.{Standing, IsHistory}
use Rattle.fr_interface.specs.State.{State, fetch_entry, pop_entry, read_entry, with_entry, withdraw_entry}
use Rattle.fr_journal.specs.declared.entry.Entry.TheVariants as entries
use Rattle.fr_journal.specs.Forms.{Entry}
use Rattle.fr_live.proofs.LeadLemmas.{as_many, carried_same, history_lent}
use Rattle.fr_live.specs.LiveSteps.{Accepts, AcceptsAlike, AppliesAlike, StepsAlike, without_value}
use Rattle.fr_live.specs.LiveWorlds.{LiveState, IsWorldHistory}
use Rattle.fr_showing.specs.Listening.{all_records}
use Rattle.fr_slots.specs.Parameters.{Parameters}
use Rattle.fr_slots.specs.Windows.{Opportunity}
use Rattle.fr_trace.specs.TraceText.{entry_line}

-- ---- the text of a journal with one more entry

body_more : (s : State) (e : Entry) → long_body_text (with_entry s e) ≡ long_body_text s ++ entry_line e
body_more s e =
    ap (λ (l : List ℕ). long_begin_text s.params s.plan ++ l)
    (flat_map-append entry_line s.entries (e ∷ [])
    ∙ ap (λ (l : List ℕ). flat_map entry_line s.entries ++ l) (append-nil (entry_line e)))
    ∙ sym (append_assoc (long_begin_text s.params s.plan) (flat_map entry_line s.entries) (entry_line e))

-- the texts of the traces after one entry more
abbrev pub Grows : WorldState → WorldState → ℕ → List ℕ → Type 0
Grows w v m text = (n : ℕ) → body_at v n ≡ body_at w n ++ at_node m text n

entry_grows : (w : WorldState) (m : ℕ) (e : Entry) → m < length w.interfaces
    → Grows w (with_interface w m (with_entry (interface_at w m) e)) m (entry_line e)
entry_grows w m e within n = by (eqb_tells n m)
  where
    more : State
    more = with_entry (interface_at w m) e

    v : WorldState
    v = with_interface w m more

    by : ((eqb n m ≡ true) × (n ≡ m)) ⊎ ((eqb n m ≡ false) × (n ≢ m))
        → body_at v n ≡ body_at w n ++ at_node m (entry_line e) n
    by (inl (test, same)) =
        ap (body_at v) same
        ∙ ap long_body_text (get_or-set_same w.interfaces m more no_interface within)
        ∙ body_more (interface_at w m) e
        ∙ ap₂ (λ (k : ℕ) (l : List ℕ). body_at w k ++ l) (sym same)
        (ap (λ (b : Bool). cond b (entry_line e) []) (sym test))
    by (inr (test, other)) =
        ap long_body_text (get_or-set_other w.interfaces m n more no_interface other)
        ∙ sym (append-nil (body_at w n))
        ∙ ap (λ (b : Bool). body_at w n ++ cond b (entry_line e) []) (sym test)

-- the journals stay
same_grows : (w v : WorldState) (m : ℕ) → v.interfaces ≡ w.interfaces → Grows w v m []
same_grows w v m same n =
    ap (λ (l : List State). long_body_text (get_or l n no_interface)) same
    ∙ sym (append-nil (body_at w n)) ∙ ap (λ (l : List ℕ). body_at w n ++ l) (sym (no_text m n))

-- ---- the entry of an event

looked_keeps : (w : WorldState) (n : ℕ) (opened : Option Opportunity) → (looked w n opened).interfaces ≡ w.interfaces
looked_keeps w n None = refl
looked_keeps w n (Some x) = refl

put_keeps : (w : WorldState) (n : ℕ) (c : Carried) → (put_on_bus w n c).interfaces ≡ w.interfaces
put_keeps w n Idle = refl
put_keeps w n (Knows x) = refl
put_keeps w n (Offers x o) = refl
put_keeps w n (Waits x) = refl
put_keeps w n (Took x p q) = refl

taken_keeps : (w : WorldState) (n : ℕ) (c : Carried) → (taken w n c).interfaces ≡ w.interfaces
taken_keeps w n Idle = refl
taken_keeps w n (Knows x) = refl
taken_keeps w n (Offers x o) = refl
taken_keeps w n (Waits x) = refl
taken_keeps w n (Took x p q) = refl

fetch_grows : (w : WorldState) (m : ℕ) (c : Carried) → m < length w.interfaces
    → Grows w (fetched w m c) m (line_in (fetched_entry (interface_at w m) c))
fetch_grows w m Idle within = same_grows w w m refl
fetch_grows w m (Knows x) within = entry_grows w m (fetch_entry (interface_at w m) x) within
fetch_grows w m (Offers x o) within = same_grows w w m refl
fetch_grows w m (Waits x) within = same_grows w w m refl
fetch_grows w m (Took x p q) within = same_grows w w m refl

observe_grows : (w : WorldState) (m : ℕ) (c : Carried) → m < length w.interfaces
    → Grows w (observed w m c) m (line_in (observed_entry c))
observe_grows w m Idle within = same_grows w w m refl
observe_grows w m (Knows x) within = same_grows w w m refl
observe_grows w m (Offers x o) within = same_grows w w m refl
observe_grows w m (Waits x) within = same_grows w w m refl
observe_grows w m (Took x p q) within = entry_grows w m (entries.Observe x.number p q) within

-- an event of a node that is there
there_by : (b : Bool) (x : Option StepError) (e : StepError) → cond b x (Some e) ≡ None → b ≡ true
there_by true x e free = refl
there_by false x e free = absurd (let no : ⊥ = cc free in no)

is_there : (w : WorldState) (m : ℕ) (x : Option StepError) → cond (has_node w m) x (Some UnknownNode) ≡ None
    → m < length w.interfaces
is_there w m x free = ltb-true m (length w.interfaces) (there_by (has_node w m) x UnknownNode free)

-- an accepted event adds its entry
pub done_grows : (w : WorldState) (event : Event) → step_refusal w event ≡ None
    → Grows w (step_done w event) (node_of event) (line_in (entry_by w event))
done_grows w (Commit m task buffer payload) free =
    entry_grows w m (entries.Commit task buffer payload) (is_there w m _ free)
done_grows w (Withdraw m task buffer) free =
    entry_grows w m (withdraw_entry (interface_at w m) task buffer) (is_there w m _ free)
done_grows w (Read m task buffer) free =
    entry_grows w m (read_entry (interface_at w m) task buffer) (is_there w m _ free)
done_grows w (Pop m task) free = entry_grows w m (pop_entry (interface_at w m) task) (is_there w m _ free)
done_grows w (Look m) free = same_grows w (step_done w (Look m)) m (looked_keeps w m (collecting_of w.bus))
done_grows w (Fetch m) free = fetch_grows w m (carried_at w m) (is_there w m _ free)
done_grows w (Put m) free = same_grows w (step_done w (Put m)) m (put_keeps w m (carried_at w m))
done_grows w (Take m) free = same_grows w (step_done w (Take m)) m (taken_keeps w m (carried_at w m))
done_grows w (Observe m) free = observe_grows w m (carried_at w m) (is_there w m _ free)
done_grows w (Inject fault) free = same_grows w (step_done w (Inject fault)) 0 refl
done_grows w Seal free = same_grows w (step_done w Seal) 0 refl
done_grows w Advance free = same_grows w (step_done w Advance) 0 refl

-- ---- an event that adds no line

no_entry : (w : WorldState) (event : Event) → adds_entry event ≡ false → entry_by w event ≡ None
no_entry w (Commit m task buffer payload) none = absurd (let no : ⊥ = cc in no)
no_entry w (Withdraw m task buffer) none = absurd (let no : ⊥ = cc in no)
no_entry w (Read m task buffer) none = absurd (let no : ⊥ = cc in no)
no_entry w (Pop m task) none = absurd (let no : ⊥ = cc in no)
no_entry w (Look m) none = refl
no_entry w (Fetch m) none = absurd (let no : ⊥ = cc in no)
no_entry w (Put m) none = refl
no_entry w (Take m) none = refl
no_entry w (Observe m) none = absurd (let no : ⊥ = cc in no)
no_entry w (Inject fault) none = refl
no_entry w Seal none = refl
no_entry w Advance none = refl

none_adds : (taps : TapsState) (w : WorldState) (event : Event) → adds_entry event ≡ false
    → AddsEach taps taps (at_node (node_of event) (line_in (entry_by w event)))
none_adds taps w event none =
    added_as taps taps (λ n. []) (at_node (node_of event) (line_in (entry_by w event)))
    (λ n. sym (ap (λ (e : Option Entry). at_node (node_of event) (line_in e) n) (no_entry w event none)
    ∙ no_text (node_of event) n)) (added_none taps)

untraced_adds : (taps : TapsState) (node : ℕ) (text : List ℕ) → traced_in taps.traced node ≡ None
    → AddsEach taps taps (at_node node text)
untraced_adds taps node text none = record {
  params_are = refl;
  kept_is = refl;
  stays = λ no. no;
  to_record = more_none taps.failed taps.failed taps.recorded;
  to_capture = more_none taps.failed taps.failed taps.captured;
  to_traces = λ n. by n (eqb_tells n node);
}
  where
    by : (n : ℕ) → ((eqb n node ≡ true) × (n ≡ node)) ⊎ ((eqb n node ≡ false) × (n ≢ node))
        → AddsMore taps.failed taps.failed (traced_in taps.traced n) (traced_in taps.traced n) (at_node node text n)
    by n (inl (test, same)) =
        let past : traced_in taps.traced n ≡ None = ap (traced_in taps.traced) same ∙ none in
        subst (λ (x : Option (List ℕ)). AddsMore taps.failed taps.failed x x (at_node node text n)) (sym past)
        (more_unknown taps.failed taps.failed None (at_node node text n))
    by n (inr (test, other)) =
        subst (AddsMore taps.failed taps.failed (traced_in taps.traced n) (traced_in taps.traced n))
        (sym (ap (λ (b : Bool). cond b text []) test)) (more_none taps.failed taps.failed (traced_in taps.traced n))

plain_adds : (taps : TapsState) (event : Event) → IsPlain taps.traced event → (w : WorldState)
    → AddsEach taps taps (at_node (node_of event) (line_in (entry_by w event)))
plain_adds taps event plain w = by (adds_entry event) refl
  where
    by : (b : Bool) → adds_entry event ≡ b
        → AddsEach taps taps (at_node (node_of event) (line_in (entry_by w event)))
    by true enters = untraced_adds taps (node_of event) (line_in (entry_by w event)) (plain enters)
    by false none = none_adds taps w event none

-- ---- events by the kept data

-- an accepted event that is no seal
pub adding_told : (l m : LiveState) (old new : TapsState) (event : Event) (R : WorldState → WorldState → Type 0)
    → is_seal event ≡ false → ((w v : WorldState) → R w v → (reply : Reply) × Steps w event (Ok reply) v)
    → ((w : WorldState) → IsWorldHistory l w → step_refusal w event ≡ None
    → AddsEach old new (at_node (node_of event) (line_in (entry_by w event))))
    → Alike l R m → ToldAlike (with_taps l old) R (with_taps m new)
adding_told l m old new event R other steps adds given s w is =
    let (v, one, leads) = given w is.leads in
    let (reply, step) = steps w v one in
    let kept : v.bus.sealed ≡ w.bus.sealed = ap (λ (u : WorldState). u.bus.sealed) step.2
    ∙ done_keeps w event other in (
      v,
      one,
      record {
        leads = leads;
        is_told = told_more s old new w v [] [] (at_node (node_of event) (line_in (entry_by w event)))
            (adds w is.leads step.0)
            (ap (record_of s.params) kept ∙ sym (append-nil (record_of s.params w.bus.sealed)))
            (ap (all_records s.params) kept ∙ sym (append-nil (all_records s.params w.bus.sealed)))
            (λ n. ap (λ (u : WorldState). body_at u n) step.2 ∙ done_grows w event step.0 n) is.is_told;
        holds = holds_as old.kept new.kept w.bus.sealed v.bus.sealed (adds w is.leads step.0).kept_is kept is.holds;
        keep_is = ap (λ (k : List (Option (List ℕ))). length k) (adds w is.leads step.0).kept_is ∙ is.keep_is;
      },
    )

-- an event that is refused
refused_told : (l m : LiveState) (taps : TapsState) (R : WorldState → WorldState → Type 0)
    → ((w v : WorldState) → R w v → v ≡ w) → Alike l R m → ToldAlike (with_taps l taps) R (with_taps m taps)
refused_told l m taps R same given s w is =
    let (v, one, leads) = given w is.leads in
    let stays = sym (same w v one) in (
      v,
      one,
      record {
        leads = leads;
        is_told = subst (IsTold s taps) stays is.is_told;
        holds = subst (λ (u : WorldState). HoldsLast taps.kept u.bus.sealed) stays is.holds;
        keep_is = is.keep_is;
      },
    )

-- an event that is no seal and adds no line
pub step_kept : (l m : LiveState) (taps : TapsState) (event : Event) (answer : Answer) → is_seal event ≡ false
    → IsPlain taps.traced event → StepsAlike l event answer m
    → ToldAlike (with_taps l taps) (λ w v. Steps w event answer v) (with_taps m taps)
step_kept l m taps event (Ok reply) other plain steps =
    adding_told l m taps taps event (λ w v. Steps w event (Ok reply) v) other (λ w v step. (reply, step))
    (λ w is free. plain_adds taps event plain w) steps
step_kept l m taps event (Err e) other plain steps =
    refused_told l m taps (λ w v. Steps w event (Err e) v) (λ w v step. step.1) steps

pub apply_kept : (l m : LiveState) (taps : TapsState) (event : Event) (outcome : Result (Unit {0}) StepError)
    → is_seal event ≡ false → IsPlain taps.traced event → AppliesAlike l event outcome m
    → ToldAlike (with_taps l taps) (λ w v. Applies w event outcome v) (with_taps m taps)
apply_kept l m taps event (Ok done) other plain steps =
    adding_told l m taps taps event (λ w v. Applies w event (Ok done) v) other
    (λ w v step. (step_reply w event, step)) (λ w is free. plain_adds taps event plain w) steps
apply_kept l m taps event (Err e) other plain steps =
    refused_told l m taps (λ w v. Applies w event (Err e) v) (λ w v step. step.1) steps

-- an event that is refused
pub step_refused : (l m : LiveState) (taps : TapsState) (event : Event) (answer : Answer) → is_ok answer ≡ false
    → StepsAlike l event answer m → ToldAlike (with_taps l taps) (λ w v. Steps w event answer v) (with_taps m taps)
step_refused l m taps event (Ok reply) refused steps = absurd (let none : ⊥ = cc in none)
step_refused l m taps event (Err e) refused steps =
    refused_told l m taps (λ w v. Steps w event (Err e) v) (λ w v step. step.1) steps

pub apply_refused : (l m : LiveState) (taps : TapsState) (event : Event) (outcome : Result (Unit {0}) StepError)
    → is_ok outcome ≡ false → AppliesAlike l event outcome m
    → ToldAlike (with_taps l taps) (λ w v. Applies w event outcome v) (with_taps m taps)
apply_refused l m taps event (Ok done) refused steps = absurd (let none : ⊥ = cc in none)
apply_refused l m taps event (Err e) refused steps =
    refused_told l m taps (λ w v. Applies w event (Err e) v) (λ w v step. step.1) steps

-- other lines are kept
told_with : (s : Start) (taps : TapsState) (kept : List (Option (List ℕ))) (w : WorldState) → IsTold s taps w
    → IsTold s (with_kept taps kept) w
told_with s taps kept w is = record {
  params_are = is.params_are;
  recorded_are = is.recorded_are;
  captured_are = is.captured_are;
  traces_are = is.traces_are;
}

-- a seal, after which the last window is added
sealed_told : (l m : LiveState) (old new : TapsState) (reply : Reply) → StepsAlike l Seal (Ok reply) m
    → AddsLast old m.bus.bus.course.begun m.bus.last new
    → ToldAlike (with_taps l old) (λ w v. Steps w Seal (Ok reply) v) (with_taps m new)
sealed_told l m old new reply steps adds s w is =
    let (v, step, leads) = steps w is.leads in
    let (made, grows) = seals_window l w v reply is.leads step in
    let (kept, keeps, writes) = adds in
    let begun = m.bus.bus.course.begun in
    let same = is.is_told.params_are in (
      v,
      step,
      record {
        leads = leads;
        is_told = told_more s (with_kept old kept) new w v (record_last old.params begun m.bus.last)
            (capture_last old.params begun m.bus.last) (λ n. []) writes
            (record_grows s.params m w v made grows leads
            ∙ ap (λ (p : Parameters). record_of s.params w.bus.sealed ++ record_last p begun m.bus.last) (sym same))
            (capture_grows s.params m w v made grows leads
            ∙ ap (λ (p : Parameters). all_records s.params w.bus.sealed ++ capture_last p begun m.bus.last) (sym same))
            (λ n. ap (λ (u : WorldState). body_at u n) step.2 ∙ done_grows w Seal step.0 n
            ∙ ap (λ (t : List ℕ). body_at w n ++ t) (no_text 0 n))
            (told_with s old kept w is.is_told);
        holds = subst (λ (k : List (Option (List ℕ))). HoldsLast k v.bus.sealed) (sym writes.kept_is)
            (holds_sealed m w v made old.kept kept grows leads is.holds keeps);
        keep_is = ap (λ (k : List (Option (List ℕ))). length k) writes.kept_is
            ∙ as_many_places m.bus.last old.kept kept keeps ∙ is.keep_is;
      },
    )

seal_is : (event : Event) → is_seal event ≡ true → event ≡ Seal
seal_is (Commit n task buffer payload) seal = absurd (let none : ⊥ = cc in none)
seal_is (Withdraw n task buffer) seal = absurd (let none : ⊥ = cc in none)
seal_is (Read n task buffer) seal = absurd (let none : ⊥ = cc in none)
seal_is (Pop n task) seal = absurd (let none : ⊥ = cc in none)
seal_is (Look n) seal = absurd (let none : ⊥ = cc in none)
seal_is (Fetch n) seal = absurd (let none : ⊥ = cc in none)
seal_is (Put n) seal = absurd (let none : ⊥ = cc in none)
seal_is (Take n) seal = absurd (let none : ⊥ = cc in none)
seal_is (Observe n) seal = absurd (let none : ⊥ = cc in none)
seal_is (Inject fault) seal = absurd (let none : ⊥ = cc in none)
seal_is Seal seal = refl
seal_is Advance seal = absurd (let none : ⊥ = cc in none)

pub step_sealed : (l m : LiveState) (old new : TapsState) (event : Event) (answer : Answer) → is_seal event ≡ true
    → is_ok answer ≡ true → StepsAlike l event answer m → AddsLast old m.bus.bus.course.begun m.bus.last new
    → ToldAlike (with_taps l old) (λ w v. Steps w event answer v) (with_taps m new)
step_sealed l m old new event (Err e) seal ok steps adds = absurd (let none : ⊥ = cc in none)
step_sealed l m old new event (Ok reply) seal ok steps adds =
    let is = seal_is event seal in
    subst (λ (e : Event). ToldAlike (with_taps l old) (λ w v. Steps w e (Ok reply) v) (with_taps m new)) (sym is)
    (sealed_told l m old new reply (subst (λ (e : Event). StepsAlike l e (Ok reply) m) is steps) adds)

pub apply_sealed : (l m : LiveState) (old new : TapsState) (event : Event) (outcome : Result (Unit {0}) StepError)
    → is_seal event ≡ true → is_ok outcome ≡ true → AppliesAlike l event outcome m
    → AddsLast old m.bus.bus.course.begun m.bus.last new
    → ToldAlike (with_taps l old) (λ w v. Applies w event outcome v) (with_taps m new)
apply_sealed l m old new event (Err e) seal ok steps adds = absurd (let none : ⊥ = cc in none)
apply_sealed l m old new event (Ok done) seal ok steps adds =
    let is = seal_is event seal in
    subst (λ (e : Event). ToldAlike (with_taps l old) (λ w v. Applies w e (Ok done) v) (with_taps m new)) (sym is)
    (sealed_told l m old new Done (subst (λ (e : Event). AppliesAlike l e (Ok done) m) is steps) adds)

-- the window of the kept data is added, by that of the bus
pub added_by : (old new : TapsState) (b h : LiveStanding) → b ≡ h → AddsLast old b.bus.course.begun b.last new
    → AddsLast old h.bus.course.begun h.last new
added_by old new b h is adds = subst (λ (x : LiveStanding). AddsLast old x.bus.course.begun x.last new) is adds

-- ---- a flush

end_flushed : (s : Start) (m : LiveState) (mid new : TapsState) (v : WorldState) → AddsBoth mid new [] []
    → IsToldHistory s (with_taps m mid) v → IsToldHistory s (with_taps m new) v
end_flushed s m mid new v adds end =
    let same = adds.kept_is in record {
      leads = end.leads;
      is_told = told_flushed s mid new v adds end.is_told;
      holds = subst (λ (k : List (Option (List ℕ))). HoldsLast k v.bus.sealed) (sym same) end.holds;
      keep_is = ap (λ (k : List (Option (List ℕ))). length k) same ∙ end.keep_is;
    }

-- the files are flushed afterwards
pub told_then_flushed : (old : ToldState) (m : LiveState) (mid new : TapsState) (R : WorldState → WorldState → Type 0)
    → ToldAlike old R (with_taps m mid) → AddsBoth mid new [] [] → ToldAlike old R (with_taps m new)
told_then_flushed old m mid new R given adds s w is =
    let (v, one, end) = given s w is in
    (v, one, end_flushed s m mid new v adds end)

-- the same, if the lines of so many windows are kept
pub flushed_by : (keep : ℕ) (old : ToldState) (m : LiveState) (mid new : TapsState)
    (R : WorldState → WorldState → Type 0) → ToldBy keep old R (with_taps m mid) → AddsBoth mid new [] []
    → ToldBy keep old R (with_taps m new)
flushed_by keep old m mid new R given adds s w is k =
    let (v, one, end) = given s w is k in
    (v, one, end_flushed s m mid new v adds end)

-- ---- an event that adds a line

entry_unsealed : (event : Event) → adds_entry event ≡ true → is_seal event ≡ false
entry_unsealed (Commit m task buffer payload) enters = refl
entry_unsealed (Withdraw m task buffer) enters = refl
entry_unsealed (Read m task buffer) enters = refl
entry_unsealed (Pop m task) enters = refl
entry_unsealed (Look m) enters = refl
entry_unsealed (Fetch m) enters = refl
entry_unsealed (Put m) enters = refl
entry_unsealed (Take m) enters = refl
entry_unsealed (Observe m) enters = refl
entry_unsealed (Inject fault) enters = refl
entry_unsealed Seal enters = absurd (let no : ⊥ = cc in no)
entry_unsealed Advance enters = refl

entry_there : (w : WorldState) (event : Event) → adds_entry event ≡ true → step_refusal w event ≡ None
    → has_node w (node_of event) ≡ true
entry_there w (Commit m task buffer payload) enters free = there_by (has_node w m) _ _ free
entry_there w (Withdraw m task buffer) enters free = there_by (has_node w m) _ _ free
entry_there w (Read m task buffer) enters free = there_by (has_node w m) _ _ free
entry_there w (Pop m task) enters free = there_by (has_node w m) _ _ free
entry_there w (Look m) enters free = there_by (has_node w m) _ _ free
entry_there w (Fetch m) enters free = there_by (has_node w m) _ _ free
entry_there w (Put m) enters free = there_by (has_node w m) _ _ free
entry_there w (Take m) enters free = there_by (has_node w m) _ _ free
entry_there w (Observe m) enters free = there_by (has_node w m) _ _ free
entry_there w (Inject fault) enters free = absurd (let no : ⊥ = cc enters in no)
entry_there w Seal enters free = absurd (let no : ⊥ = cc enters in no)
entry_there w Advance enters free = absurd (let no : ⊥ = cc enters in no)

-- the line was written before the event
pub slot_lined : (l m : LiveState) (old new : TapsState) (event : Event) (outcome : Result (Unit {0}) StepError)
    (node : ℕ) (line : Option (List ℕ)) → is_ok outcome ≡ true → adds_entry event ≡ true
    → AppliesAlike l event outcome m → node ≡ node_of event
    → ((w : WorldState) → IsWorldHistory l w → has_node w (node_of event) ≡ true
    → IsLine line (line_in (entry_by w event)))
    → ((text : List ℕ) → IsLine line text → AddsEach old new (at_node node text))
    → ToldAlike (with_taps l old) (λ w v. Applies w event outcome v) (with_taps m new)
slot_lined l m old new event (Err e) node line ok enters applies node_is line_is adds =
    absurd (let no : ⊥ = cc ok in no)
slot_lined l m old new event (Ok done) node line ok enters applies node_is line_is adds =
    adding_told l m old new event (λ w v. Applies w event (Ok done) v) (entry_unsealed event enters)
    (λ w v step. (step_reply w event, step))
    (λ w is free. added_as old new (at_node node (line_in (entry_by w event)))
    (at_node (node_of event) (line_in (entry_by w event)))
    (λ n. ap (λ (k : ℕ). at_node k (line_in (entry_by w event)) n) node_is)
    (adds (line_in (entry_by w event)) (line_is w is (entry_there w event enters free)))) applies

slot_done : (w : WorldState) (event : Event) → adds_entry event ≡ true → call_in event ≡ None
    → Done ≡ step_reply w event
slot_done w (Commit m task buffer payload) enters slot = absurd (let no : ⊥ = cc slot in no)
slot_done w (Withdraw m task buffer) enters slot = absurd (let no : ⊥ = cc slot in no)
slot_done w (Read m task buffer) enters slot = absurd (let no : ⊥ = cc slot in no)
slot_done w (Pop m task) enters slot = absurd (let no : ⊥ = cc slot in no)
slot_done w (Look m) enters slot = absurd (let no : ⊥ = cc enters in no)
slot_done w (Fetch m) enters slot = refl
slot_done w (Put m) enters slot = refl
slot_done w (Take m) enters slot = refl
slot_done w (Observe m) enters slot = refl
slot_done w (Inject fault) enters slot = refl
slot_done w Seal enters slot = refl
slot_done w Advance enters slot = refl

-- with its reply
pub slot_accepted : (old new : ToldState) (event : Event) (outcome : Result (Unit {0}) StepError) (done : Unit {0})
    → adds_entry event ≡ true → call_in event ≡ None → outcome ≡ Ok done
    → ToldAlike old (λ w v. Applies w event outcome v) new → ToldAlike old (λ w v. Steps w event (Ok Done) v) new
slot_accepted old new event outcome done enters slot is told s w at =
    let (v, applies, end) = told s w at in
    let step : Applies w event (Ok done) v =
    subst (λ (o : Result (Unit {0}) StepError). Applies w event o v) is applies in
    (v, (step.0, slot_done w event enters slot, step.2), end)

pub slot_refused : (old new : ToldState) (event : Event) (outcome : Result (Unit {0}) StepError) (e : StepError)
    → outcome ≡ Err e → ToldAlike old (λ w v. Applies w event outcome v) new
    → ToldAlike old (λ w v. Steps w event (Err e) v) new
slot_refused old new event outcome e is told s w at =
    let (v, applies, end) = told s w at in
    (v, subst (λ (o : Result (Unit {0}) StepError). Applies w event o v) is applies, end)

-- ---- a call of a host

call_unsealed : (n task : ℕ) (call : Call) → is_seal (event_of n task call) ≡ false
call_unsealed n task (host.Commit buffer payload) = refl
call_unsealed n task (host.Withdraw buffer) = refl
call_unsealed n task (host.Read buffer) = refl
call_unsealed n task host.Pop = refl

call_adds : (w : WorldState) (n task : ℕ) (call : Call) (given : interface.Answer) (k : ℕ)
    → given ≡ call_answer (interface_at w n) task call
    → at_node n (entry_line (entry_told task call given)) k
    ≡ at_node (node_of (event_of n task call)) (line_in (entry_by w (event_of n task call))) k
call_adds w n task (host.Commit buffer payload) given k same = refl
call_adds w n task (host.Withdraw buffer) given k same =
    ap (λ (a : interface.Answer). at_node n (entry_line (entry_told task (host.Withdraw buffer) a)) k) same
call_adds w n task (host.Read buffer) given k same =
    ap (λ (a : interface.Answer). at_node n (entry_line (entry_told task (host.Read buffer) a)) k) same
call_adds w n task host.Pop given k same =
    ap (λ (a : interface.Answer). at_node n (entry_line (entry_told task host.Pop a)) k) same

-- the entry is had from the answer
pub call_told : (l m : LiveState) (old new : TapsState) (n task : ℕ) (call : Call) (given : interface.Answer)
    (entry : Entry) (reply : Reply) → StepsAlike l (event_of n task call) (Ok (reply_of given)) m
    → ((w : WorldState) → IsWorldHistory l w → given ≡ call_answer (interface_at w n) task call)
    → entry ≡ entry_told task call given → AddsEach old new (at_node n (entry_line entry)) → reply ≡ reply_of given
    → ToldAlike (with_taps l old) (λ w v. Steps w (event_of n task call) (Ok reply) v) (with_taps m new)
call_told l m old new n task call given entry reply steps answered entry_is adds reply_is =
    let event = event_of n task call in
    subst (λ (r : Reply). ToldAlike (with_taps l old) (λ w v. Steps w event (Ok r) v) (with_taps m new)) (sym reply_is)
    (adding_told l m old new event (λ w v. Steps w event (Ok (reply_of given)) v) (call_unsealed n task call)
    (λ w v step. (reply_of given, step))
    (λ w is free. added_as old new (at_node n (entry_line entry))
    (at_node (node_of event) (line_in (entry_by w event)))
    (λ k. ap (λ (e : Entry). at_node n (entry_line e) k) entry_is ∙ call_adds w n task call given k (answered w is))
    adds) steps)

-- a call that is refused
pub call_refused : (l m : LiveState) (taps : TapsState) (n task : ℕ) (call : Call) (e : StepError)
    → StepsAlike l (event_of n task call) (Err e) m
    → ToldAlike (with_taps l taps) (λ w v. Steps w (event_of n task call) (Err e) v) (with_taps m taps)
call_refused l m taps n task call e steps =
    refused_told l m taps (λ w v. Steps w (event_of n task call) (Err e) v) (λ w v step. step.1) steps

same_call : (a b : HostCall) → Some a ≡ Some b → a ≡ b
same_call a b same = cc same

call_is : (event : Event) (asked : HostCall) → call_in event ≡ Some asked
    → event ≡ event_of asked.node asked.task asked.call
call_is (Commit m task buffer payload) asked is =
    ap (λ (h : HostCall). event_of h.node h.task h.call) (same_call _ asked is)
call_is (Withdraw m task buffer) asked is =
    ap (λ (h : HostCall). event_of h.node h.task h.call) (same_call _ asked is)
call_is (Read m task buffer) asked is = ap (λ (h : HostCall). event_of h.node h.task h.call) (same_call _ asked is)
call_is (Pop m task) asked is = ap (λ (h : HostCall). event_of h.node h.task h.call) (same_call _ asked is)
call_is (Look m) asked is = absurd (let no : ⊥ = cc is in no)
call_is (Fetch m) asked is = absurd (let no : ⊥ = cc is in no)
call_is (Put m) asked is = absurd (let no : ⊥ = cc is in no)
call_is (Take m) asked is = absurd (let no : ⊥ = cc is in no)
call_is (Observe m) asked is = absurd (let no : ⊥ = cc is in no)
call_is (Inject fault) asked is = absurd (let no : ⊥ = cc is in no)
call_is Seal asked is = absurd (let no : ⊥ = cc is in no)
call_is Advance asked is = absurd (let no : ⊥ = cc is in no)

-- the event of a call
pub asked_told : (old new : ToldState) (event : Event) (asked : HostCall) (answer : Answer)
    → call_in event ≡ Some asked
    → ToldAlike old (λ w v. Steps w (event_of asked.node asked.task asked.call) answer v) new
    → ToldAlike old (λ w v. Steps w event answer v) new
asked_told old new event asked answer is told =
    subst (λ (e : Event). ToldAlike old (λ w v. Steps w e answer v) new) (sym (call_is event asked is)) told

-- ---- without the reply

applied : (w v : WorldState) (event : Event) (answer : Answer) → Steps w event answer v
    → Applies w event (without_value answer) v
applied w v event (Ok reply) step = (step.0, refl, step.2)
applied w v event (Err e) step = step

pub applied_told : (old new : ToldState) (event : Event) (answer : Answer) (outcome : Result (Unit {0}) StepError)
    → outcome ≡ without_value answer → ToldAlike old (λ w v. Steps w event answer v) new
    → ToldAlike old (λ w v. Applies w event outcome v) new
applied_told old new event answer outcome is told =
    subst (λ (r : Result (Unit {0}) StepError). ToldAlike old (λ w v. Applies w event r v) new) (sym is)
    (λ s w at. let (v, step, end) = told s w at in (v, applied w v event answer step, end))

-- ---- the entry of a fetch

-- by the data of the node's interface and of its controller
pub fetch_at : (l : LiveState) (n place : ℕ) (interfaces : List Standing) (controllers : List Carried) (h : Standing)
    (k : Carried) (P : Option Entry → Type 0) → interfaces ≡ l.interfaces → controllers ≡ l.carried → place ≡ n
    → place < length interfaces → place < length controllers → h ≡ get_or interfaces place h
    → k ≡ get_or controllers place k → ((s : State) → IsHistory h s → P (fetched_entry s k)) → (w : WorldState)
    → IsWorldHistory l w → P (fetched_entry (interface_at w n) (carried_at w n))
fetch_at l n place interfaces controllers h k P all_is every_is place_is within known lent taken had w is =
    let here : n < length l.interfaces = subst (λ (m : ℕ). m < length l.interfaces) place_is
    (subst (λ (hs : List Standing). place < length hs) all_is within) in
    let lent_here : h ≡ get_or l.interfaces n h = lent
    ∙ ap₂ (λ (hs : List Standing) (m : ℕ). get_or hs m h) all_is place_is in
    let carried : k ≡ carried_at w n =
    taken ∙ index_any controllers place k Idle known
    ∙ ap₂ (λ (ks : List Carried) (m : ℕ). get_or ks m Idle) every_is place_is ∙ carried_same w l is.leads n in
    subst P (ap (fetched_entry (interface_at w n)) carried)
    (had (interface_at w n) (history_lent w l is.leads n h lent_here here))

-- a node that isn't there
pub fetch_past : (l : LiveState) (n place : ℕ) (interfaces : List Standing) → interfaces ≡ l.interfaces → place ≡ n
    → length interfaces ≤ place → (w : WorldState) → IsWorldHistory l w → has_node w n ≡ true
    → None ≡ fetched_entry (interface_at w n) (carried_at w n)
fetch_past l n place interfaces all_is place_is past w is there =
    let gone : length l.interfaces ≤ n = subst (λ (m : ℕ). length l.interfaces ≤ m) place_is
    (subst (λ (hs : List Standing). length hs ≤ place) all_is past) in
    let many = as_many l.interfaces w.interfaces is.leads.interfaces_are in
    absurd (let no : ⊥ = omega (arith, gone, many, ltb-true n (length w.interfaces) there) in no)

-- a controller that isn't there
pub fetch_idle : (l : LiveState) (n place : ℕ) (controllers : List Carried) → controllers ≡ l.carried → place ≡ n
    → length controllers ≤ place → (w : WorldState) → IsWorldHistory l w
    → None ≡ fetched_entry (interface_at w n) (carried_at w n)
fetch_idle l n place controllers every_is place_is past w is =
    let carried : carried_at w n ≡ Idle =
    sym (carried_same w l is.leads n)
    ∙ sym (ap₂ (λ (ks : List Carried) (m : ℕ). get_or ks m Idle) every_is place_is)
    ∙ get_or_past controllers place Idle past in
    sym (ap (fetched_entry (interface_at w n)) carried)

-- ---- accepted events that add no line

told_kept : (s : Start) (taps : TapsState) (w : WorldState) (event : Event) → is_seal event ≡ false
    → IsPlain taps.traced event → step_refusal w event ≡ None → IsTold s taps w → IsTold s taps (step_done w event)
told_kept s taps w event other plain free told =
    let kept : (step_done w event).bus.sealed ≡ w.bus.sealed = done_keeps w event other in
    told_more s taps taps w (step_done w event) [] [] (at_node (node_of event) (line_in (entry_by w event)))
    (plain_adds taps event plain w)
    (ap (record_of s.params) kept ∙ sym (append-nil (record_of s.params w.bus.sealed)))
    (ap (all_records s.params) kept ∙ sym (append-nil (all_records s.params w.bus.sealed)))
    (done_grows w event free) told

-- no event is a seal, and none adds a line
abbrev pub AreKept : List (Option (List ℕ)) → List Event → Type 0
AreKept traced [] = Unit {0}
AreKept traced (e ∷ es) = (is_seal e ≡ false) × IsPlain traced e × AreKept traced es

take_kept : (n : ℕ) (traced : List (Option (List ℕ))) (es : List Event) → AreKept traced es
    → AreKept traced (take n es)
take_kept zero traced es all = tt
take_kept (suc n) traced [] all = tt
take_kept (suc n) traced (e ∷ es) all = (all.0, all.1, take_kept n traced es all.2)

told_all : (s : Start) (taps : TapsState) (es : List Event) (w v : WorldState) → AreKept taps.traced es
    → Accepts w es v → IsTold s taps w → IsTold s taps v
unfolding Accepts
told_all s taps [] w v all same told = subst (IsTold s taps) (sym same) told
told_all s taps (e ∷ es) w v all accepts told =
    told_all s taps es (step_done w e) v all.2 accepts.1 (told_kept s taps w e all.0 all.1 accepts.0 told)

sealed_all : (traced : List (Option (List ℕ))) (es : List Event) (w v : WorldState) → AreKept traced es
    → Accepts w es v → v.bus.sealed ≡ w.bus.sealed
unfolding Accepts
sealed_all traced [] w v all same = ap (λ (u : WorldState). u.bus.sealed) same
sealed_all traced (e ∷ es) w v all accepts =
    sealed_all traced es (step_done w e) v all.2 accepts.1 ∙ done_keeps w e all.0

front_kept : (traced : List (Option (List ℕ))) (f : Front) → IsUntraced traced f → AreKept traced (events_of f)
front_kept traced (front.Offer n) none =
    (refl, (λ enters. none), (refl, (λ enters. none), (refl, (λ enters. none), tt)))
front_kept traced (front.See n) none = (refl, (λ enters. none), (refl, (λ enters. none), tt))
front_kept traced front.Other none = tt

-- the events of a node that isn't traced
pub front_told : (l m : LiveState) (taps : TapsState) (f : Front) (n : ℕ) (events rest : List Event)
    → IsUntraced taps.traced f → n ≤ length (events_of f) → events ≡ events_of f ++ rest
    → AcceptsAlike l (take n (events_of f)) m
    → ToldAlike (with_taps l taps) (λ w v. Accepts w (take n events) v) (with_taps m taps)
front_told l m taps f n events rest none few is accepts s w at =
    let (v, one, leads) = accepts w at.leads in
    let same : take n (events_of f) ≡ take n events =
    sym (ap (take n) is ∙ take_front n (events_of f) rest few) in (
      v,
      subst (λ (es : List Event). Accepts w es v) same one,
      record {
        leads = leads;
        is_told = told_all s taps (take n (events_of f)) w v
            (take_kept n taps.traced (events_of f) (front_kept taps.traced f none)) one at.is_told;
        holds = holds_as taps.kept taps.kept w.bus.sealed v.bus.sealed refl
            (sealed_all taps.traced (take n (events_of f)) w v
            (take_kept n taps.traced (events_of f) (front_kept taps.traced f none)) one) at.holds;
        keep_is = at.keep_is;
      },
    )

pub accepts_none : (l : LiveState) → AcceptsAlike l [] l
unfolding Accepts
accepts_none l w is = (w, refl, is)

-- no event
pub front_none : (l : LiveState) (taps : TapsState) (events : List Event)
    → ToldAlike (with_taps l taps) (λ w v. Accepts w (take 0 events) v) (with_taps l taps)
unfolding Accepts
front_none l taps events s w at = (w, refl, at)
