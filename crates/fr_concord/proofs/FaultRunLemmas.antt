-- A session of fault lines leads to the world of the single-threaded run with these faults.
use Rattle.std.proofs.Common.{◌≡◌, ◌≢◌, ℕ, zero, suc, ◌+◌, ◌-◌, ◌<◌, Bool, true, false, cond, inl, inr, List, [], ◌∷◌}
use Rattle.std.proofs.Common.{◌++◌, length, map, Option, Some, None, Ok, Err, refl, sym, ap, subst, ◌∙◌, arith}
use Rattle.std.proofs.Common.{append_assoc, append-nil, lt-ltb, slice_index_or, not, ◌≤◌}
use Rattle.std.specs.List.{flat_map, fold, range_with_len}
use Rattle.fr_bus.specs.declared.error.BusError.TheVariants.{UnknownNode as BusNode, NotCollecting, TooManyFaults}
use Rattle.fr_bus.specs.declared.error.Phase.{Phase}
use Rattle.fr_bus.specs.declared.error.Phase.TheVariants.{Collect, Sealed, Finished}
use Rattle.fr_bus.specs.States.{collects, knows, has_fault, inject_refusal, seal_refusal}
use Rattle.fr_bus.specs.Windows.{cycles_begun}
use Rattle.fr_concord.proofs.MoveLemmas.{passes_same}
use Rattle.fr_concord.proofs.SpelledLemmas.{read_again}
use Rattle.fr_concord.proofs.StepLemmas.{seal_collects, window_last, no_bus}
use Rattle.fr_concord.specs.Determined.{HasShortCycles, MovesFreely, DoesFreely, ServesFreely, IsUnhindered}
use Rattle.fr_concord.specs.FaultRuns.{fault_text, AreSessionsPlayed}
use Rattle.fr_concord.specs.Spelled.{spelled}
use Rattle.fr_core.specs.Carried.{Carried, Idle}
use Rattle.fr_core.specs.declared.error.StepError.{StepError}
use Rattle.fr_core.specs.declared.error.StepError.TheVariants.{UnknownNode, WrongTurn}
use Rattle.fr_core.specs.declared.event.Event.{Event}
use Rattle.fr_core.specs.declared.event.Event.TheVariants.{Observe, Inject, Advance}
use Rattle.fr_core.specs.Runs.{Answer, StepsAll}
use Rattle.fr_core.specs.Steps.{step_refusal, step_reply, observe_in_turn, look_in_turn, unless_collecting}
use Rattle.fr_core.specs.Worlds.{WorldState, carried_at, has_node, opening_world}
use Rattle.fr_interface.specs.State.{State}
use Rattle.fr_playing.proofs.CycleLemmas.{IsStage, stage_after}
use Rattle.fr_playing.proofs.PassLemmas.{IsSplit, passes_split, IsDone, passes_event, IsSound, as_many_nodes}
use Rattle.fr_playing.proofs.StageLemmas.{begun_more}
use Rattle.fr_playing.proofs.WindowLemmas.{IsFresh, IsRecordedIn, window_recorded, window_fresh, window_sound}
use Rattle.fr_playing.specs.Calls.{asked_of, DoesCalls}
use Rattle.fr_playing.specs.declared.call.ExecutedCall.{ExecutedCall}
use Rattle.fr_playing.specs.Moving.{observe_events, whole_window, window_events, run_cycle_after, struck_after}
use Rattle.fr_playing.specs.Moving.{struck_events, first_refusal, Strikes, MovesOn, is_at_cycle, WithinCycle, EndsCycle}
use Rattle.fr_playing.specs.Moving.{PassesCycles, RunsCycles}
use Rattle.fr_playing.specs.Playing.{PlaysCycles, asked_by}
use Rattle.fr_playing.specs.Striking.{Passes, strike_events}
use Rattle.fr_playing.specs.Windows.{PlaysWindow, PlaysWithin, PlaysWindows}
use Rattle.fr_runs.specs.declared.fault_line.FaultLine.{FaultLine}
use Rattle.fr_runs.specs.Striking.{strikes}
use Rattle.fr_runs.specs.Suiting.{IsFaultAfter}
use Rattle.fr_scenario.specs.Spelled.{IsSaidFaultLine}
use Rattle.fr_schedule.specs.Descriptions.{Description}
use Rattle.fr_session.specs.declared.noted.Noted.{Noted}
use Rattle.fr_session.specs.declared.request.Request.{Request}
use Rattle.fr_session.specs.declared.request.Request.TheVariants as request
use Rattle.fr_session.specs.Keeping.{KeepsIf}
use Rattle.fr_session.specs.Queries.{memory_text, moved_text}
use Rattle.fr_session.specs.Sessions.{SessionState, DoesIf, nothing_noted, state_of, terms_of, with_faults}
use Rattle.fr_slots.specs.History.{AllAfter}
use Rattle.fr_slots.specs.Plans.{Each}
use Rattle.fr_slots.specs.Windows.{opens_cycle, Opportunity}

-- ---- accepted events

-- the events are accepted, and none is a hindrance
record AreDone (old : WorldState) (events : List Event) (new : WorldState) : Type 0 where
  answers : List Answer
  steps : StepsAll old events answers new
  free : None ≡ fold first_refusal None answers

passes_done : (old : WorldState) (events : List Event) (new : WorldState) → Passes old events new
    → AreDone old events new
unfolding Passes StepsAll
passes_done old [] new passes = record { answers = []; steps = passes; free = refl }
passes_done old (e ∷ events) new passes =
    let (between, reply, step, rest) = passes in
    let more : AreDone between events new = passes_done between events new rest in
    record { answers = Ok reply ∷ more.answers; steps = (between, step, more.steps); free = more.free }

-- ---- the faults leave interfaces and controllers as they are

record KeepsNodes (old new : WorldState) : Type 0 where
  interfaces : new.interfaces ≡ old.interfaces
  carried : new.carried ≡ old.carried

struck_line : (b : Bool) (line : FaultLine) (rest : List Event) (old new : WorldState)
    → Passes old (cond b (Inject line.fault ∷ []) [] ++ rest) new
    → ((mid : WorldState) → Passes mid rest new → KeepsNodes mid new) → KeepsNodes old new
unfolding Passes
struck_line false line rest old new passes more = more old passes
struck_line true line rest old new passes more =
    let (between, reply, step, later) = passes in
    let kept : KeepsNodes between new = more between later in
    record {
      interfaces = kept.interfaces ∙ ap (λ (w : WorldState). w.interfaces) step.2;
      carried = kept.carried ∙ ap (λ (w : WorldState). w.carried) step.2;
    }

struck_keeps : (cycle : ℕ) (window : Opportunity) (lines : List FaultLine) (old new : WorldState)
    → Passes old (flat_map (strike_events cycle window) lines) new → KeepsNodes old new
unfolding Passes
struck_keeps cycle window [] old new passes = record {
  interfaces = ap (λ (w : WorldState). w.interfaces) passes;
  carried = ap (λ (w : WorldState). w.carried) passes;
}
struck_keeps cycle window (line ∷ lines) old new passes =
    struck_line (strikes line cycle window) line (flat_map (strike_events cycle window) lines) old new passes
    (λ mid rest. struck_keeps cycle window lines mid new rest)

-- ---- observes that aren't due

idle_turn : (w : WorldState) (n : ℕ) (c : Carried) → c ≡ Idle → observe_in_turn w n c ≡ Some WrongTurn
idle_turn w n c is = ap (observe_in_turn w n) is

not_due : (w : WorldState) (n : ℕ) → has_node w n ≡ true → carried_at w n ≡ Idle
    → step_refusal w (Observe n) ≡ Some WrongTurn
not_due w n there idle =
    ap (λ (b : Bool). cond b (observe_in_turn w n (carried_at w n)) (Some UnknownNode)) there
    ∙ idle_turn w n (carried_at w n) idle

refused_first : (w : WorldState) (n : ℕ) (events : List Event) (new : WorldState)
    → step_refusal w (Observe n) ≡ Some WrongTurn → AreDone w events new → AreDone w (Observe n ∷ events) new
unfolding StepsAll
refused_first w n events new is done = record {
  answers = Err WrongTurn ∷ done.answers;
  steps = (w, (is, refl), done.steps);
  free = done.free;
}

observes_first : (w : WorldState) (start count : ℕ) (events : List Event) (new : WorldState)
    → ((n : ℕ) → n < start + count → step_refusal w (Observe n) ≡ Some WrongTurn) → AreDone w events new
    → AreDone w (flat_map observe_events (range_with_len start count) ++ events) new
observes_first w start zero events new refused done = done
observes_first w start (suc count) events new refused done =
    refused_first w start (flat_map observe_events (range_with_len (start + 1) count) ++ events) new
    (refused start (omega arith))
    (observes_first w (start + 1) count events new
    (λ n below. refused n (let b = below in omega (arith, b))) done)

-- ---- a bus that accepts the first event of a window collects

known : (b : Bool) (found : Option StepError) → cond b found (Some UnknownNode) ≡ None → found ≡ None
known true found free = free
known false found free = absurd (let none : ⊥ = cc in none)

inject_collects : (node collecting has : Bool)
    → cond (not node) (Some BusNode) (cond (not collecting) (Some NotCollecting) (cond has (Some TooManyFaults) None))
    ≡ None → collecting ≡ true
inject_collects true true has free = refl
inject_collects true false has free = absurd (let none : ⊥ = cc in none)
inject_collects false collecting has free = absurd (let none : ⊥ = cc in none)

look_collects : (phase : Phase) (opened : Option Opportunity)
    → unless_collecting (cond (collects phase) opened None) ≡ None → collects phase ≡ true
look_collects Collect opened free = refl
look_collects Sealed opened free = absurd (let none : ⊥ = cc in none)
look_collects Finished opened free = absurd (let none : ⊥ = cc in none)

looks : (w : WorldState) (c : Carried) → c ≡ Idle → look_in_turn w c ≡ None → collects w.bus.phase ≡ true
looks w c idle free =
    look_collects w.bus.phase w.bus.opened (ap (look_in_turn w) (sym idle) ∙ free)

whole_collects : (nodes : ℕ) (w new : WorldState) → carried_at w 0 ≡ Idle → Passes w (whole_window nodes) new
    → collects w.bus.phase ≡ true
unfolding Passes
whole_collects zero w new idle passes = seal_collects w.bus (no_bus (seal_refusal w.bus) passes.2.0)
whole_collects (suc n) w new idle passes =
    looks w (carried_at w 0) idle (known (has_node w 0) (look_in_turn w (carried_at w 0)) passes.2.0)

line_collects : (b : Bool) (line : FaultLine) (rest : List Event) (old new : WorldState)
    → Passes old (cond b (Inject line.fault ∷ []) [] ++ rest) new
    → (Passes old rest new → collects old.bus.phase ≡ true) → collects old.bus.phase ≡ true
unfolding Passes
line_collects false line rest old new passes more = more passes
line_collects true line rest old new passes more =
    inject_collects (knows old.bus line.fault) (collects old.bus.phase) (has_fault old.bus line.fault)
    (no_bus (inject_refusal old.bus line.fault) passes.2.0)

front_collects : (cycle : ℕ) (window : Opportunity) (lines : List FaultLine) (rest : List Event) (old new : WorldState)
    → Passes old (flat_map (strike_events cycle window) lines ++ rest) new
    → (Passes old rest new → collects old.bus.phase ≡ true) → collects old.bus.phase ≡ true
front_collects cycle window [] rest old new passes more = more passes
front_collects cycle window (line ∷ lines) rest old new passes more =
    let same : (strike_events cycle window line ++ flat_map (strike_events cycle window) lines) ++ rest
    ≡ strike_events cycle window line ++ (flat_map (strike_events cycle window) lines ++ rest) =
    append_assoc (strike_events cycle window line) (flat_map (strike_events cycle window) lines) rest in
    line_collects (strikes line cycle window) line (flat_map (strike_events cycle window) lines ++ rest) old new
    (subst (λ (l : List Event). Passes old l new) same passes)
    (λ later. front_collects cycle window lines rest old new later more)

-- ---- the cycle of the open window

run_cycle_is : (b : Bool) (begun cycle : ℕ) → begun + cond b 1 0 ≡ cycle + 1 → cond b begun (begun - 1) ≡ cycle
run_cycle_is true begun cycle is = let e = is in omega (arith, e)
run_cycle_is false begun cycle is = let e = is in omega (arith, e)

-- ---- one window

-- a world between two windows of the cycle of this number of the run
record Mid (d : Description) (cycle : ℕ) (w : WorldState) : Type 0 where
  sound : IsSound d w
  fresh : IsFresh w
  begun : cycles_begun w.bus.sealed + cond {A = ℕ} (is_at_cycle w.bus.opened) 1 0 ≡ cycle + 1

module _ (d : Description) (lines : List FaultLine) where
  abbrev nodes : ℕ
  nodes = length d.plans

  abbrev due : List Event
  due = window_events nodes

  module _ (cycle : ℕ) (old new : WorldState) (stands : Mid d cycle old)
      (plays : PlaysWindow cycle lines (whole_window nodes) old new) where
    abbrev window : Opportunity
    window = plays.0

    abbrev strikes_due : List Event
    strikes_due = flat_map (strike_events cycle window) lines

    -- before the advance
    ending : IsSplit old (strikes_due ++ whole_window nodes) (Advance ∷ []) new
    ending = passes_split old (strikes_due ++ whole_window nodes) (Advance ∷ []) new plays.2

    -- after the faults
    striking : IsSplit old strikes_due (whole_window nodes) ending.mid
    striking = passes_split old strikes_due (whole_window nodes) ending.mid ending.first

    advance : IsDone ending.mid Advance new
    advance = passes_event ending.mid Advance new ending.second

    kept : KeepsNodes old striking.mid
    kept = struck_keeps cycle window lines old striking.mid striking.first

    collecting : collects old.bus.phase ≡ true
    collecting = front_collects cycle window lines (whole_window nodes) old ending.mid ending.first
        (λ later. whole_collects nodes old ending.mid (stands.fresh.idle 0) later)

    run_cycle : run_cycle_after old.bus.sealed window ≡ cycle
    run_cycle = run_cycle_is (opens_cycle window) (cycles_begun old.bus.sealed) cycle
        (ap (λ (o : Option Opportunity). cycles_begun old.bus.sealed + cond {A = ℕ} (is_at_cycle o) 1 0) (sym plays.1)
        ∙ stands.begun)

    struck_are : struck_events lines old.bus ≡ strikes_due
    struck_are =
        ap (λ (b : Bool). struck_after lines old.bus.sealed (cond b old.bus.opened None)) collecting
        ∙ ap (struck_after lines old.bus.sealed) plays.1
        ∙ ap (λ (n : ℕ). flat_map (strike_events n window) lines) run_cycle

    struck : Strikes lines old striking.mid
    struck =
        let done : AreDone old strikes_due striking.mid = passes_done old strikes_due striking.mid striking.first in (
          done.answers,
          subst (λ (l : List Event). StepsAll old l done.answers striking.mid) (sym struck_are)
              done.steps,
        )

    turn_is : (n : ℕ) → n < 0 + nodes → step_refusal striking.mid (Observe n) ≡ Some WrongTurn
    turn_is n below =
        let many : length old.interfaces ≡ nodes = as_many_nodes d old stands.sound in
        let same : length striking.mid.interfaces ≡ length old.interfaces =
        ap (λ (l : List State). length l) kept.interfaces in
        let less : n < length striking.mid.interfaces = omega (arith, below, many, same) in
        not_due striking.mid n (lt-ltb n (length striking.mid.interfaces) less)
        (ap (λ (l : List Carried). slice_index_or l n Idle) kept.carried ∙ stands.fresh.idle n)

    all_done : AreDone striking.mid due ending.mid
    all_done = observes_first striking.mid 0 nodes (whole_window nodes) ending.mid turn_is
        (passes_done striking.mid (whole_window nodes) ending.mid striking.second)

    moves : MovesOn lines due old None new
    moves = (
      striking.mid,
      ending.mid,
      None,
      Ok (step_reply ending.mid Advance),
      struck,
      (all_done.answers, all_done.steps, all_done.free),
      (advance.free, refl, advance.done),
      refl,
    )

    made : IsRecordedIn lines cycle window old new
    made = window_recorded d lines cycle window old new plays.1 stands.sound stands.fresh plays.2

    begun_now : cycles_begun new.bus.sealed ≡ cycle + 1
    begun_now =
        ap cycles_begun made.record_is
        ∙ begun_more old.bus.sealed made.made
        ∙ ap (λ (b : Bool). cycles_begun old.bus.sealed + cond {A = ℕ} b 1 0)
        (ap opens_cycle made.window_is ∙ ap is_at_cycle (sym plays.1))
        ∙ stands.begun

    goes_on : is_at_cycle new.bus.opened ≡ false → Mid d cycle new
    goes_on inside = record {
      sound = window_sound d lines cycle window old new plays.1 stands.sound stands.fresh plays.2;
      fresh = window_fresh d lines cycle window old new plays.1 stands.sound stands.fresh plays.2;
      begun = ap (λ (b : Bool). cycles_begun new.bus.sealed + cond {A = ℕ} b 1 0) inside
          ∙ (let begun = begun_now in omega (arith, begun));
    }

  -- ---- the windows of a cycle

  record AreWithin (cycle count : ℕ) (start w : WorldState) : Type 0 where
    stands : Mid d cycle w
    within : WithinCycle lines due count start w

  all_within : (cycle : ℕ) (start : WorldState) → Mid d cycle start → (count : ℕ) (w : WorldState)
      → PlaysWithin cycle lines (whole_window nodes) count start w → AreWithin cycle count start w
  unfolding PlaysWithin WithinCycle
  all_within cycle start stands zero w plays = record {
    stands = subst (Mid d cycle) (sym plays) stands;
    within = plays;
  }
  all_within cycle start stands (suc count) w plays =
      let (mid, before, window, inside) = plays in
      let so_far : AreWithin cycle count start mid = all_within cycle start stands count mid before in
      record {
        stands = goes_on cycle mid w so_far.stands window inside;
        within = (mid, so_far.within, moves cycle mid w so_far.stands window, inside);
      }

  cycle_ends : (cycle : ℕ) (old new : WorldState) → Mid d cycle old
      → PlaysWindows cycle lines (whole_window nodes) old new → EndsCycle lines due old None new
  cycle_ends cycle old new stands plays =
      let (count, before, within, window, ends) = plays in
      let so_far : AreWithin cycle count old before = all_within cycle old stands count before within in
      inl (count, before, so_far.within, moves cycle before new so_far.stands window, λ none. ends)

  -- ---- all cycles

  no_calls : (calls : List ExecutedCall) → map asked_of calls ≡ [] → calls ≡ []
  no_calls [] none = refl
  no_calls (call ∷ calls) none = absurd (let wrong : ⊥ = cc none in wrong)

  no_change : (calls : List ExecutedCall) (old new : WorldState) → calls ≡ [] → DoesCalls old calls new → new ≡ old
  unfolding DoesCalls
  no_change [] old new none does = does
  no_change (call ∷ calls) old new none does = absurd (let wrong : ⊥ = cc none in wrong)

  module _ (cycles : ℕ) where
    stage_mid : (cycle : ℕ) (calls : List ExecutedCall) (w : WorldState) → IsStage d [] lines cycle calls w
        → Mid d cycle w
    stage_mid cycle calls w stage = record {
      sound = stage.sound;
      fresh = stage.fresh;
      begun = ap (λ (b : Bool). cycles_begun w.bus.sealed + cond {A = ℕ} b 1 0) stage.at_cycle
          ∙ ap (λ (n : ℕ). n + 1) stage.begun;
    }

    cycles_pass : (count : ℕ) (calls later : List ExecutedCall) (w : WorldState)
        → map asked_of (calls ++ later) ≡ asked_by cycles []
        → PlaysCycles [] lines (whole_window nodes) count (opening_world d cycles) calls w
        → PassesCycles lines due count (opening_world d cycles) w
    unfolding PlaysCycles PassesCycles
    cycles_pass zero calls later w all plays = plays.1
    cycles_pass (suc count) calls later w all plays =
        let (mid, before, more, so_far, cycle, are) = plays in
        let split : map asked_of (before ++ (more ++ later)) ≡ asked_by cycles [] =
        ap (map asked_of) (sym (append_assoc before more later))
        ∙ ap (λ (l : List ExecutedCall). map asked_of (l ++ later)) (sym are) ∙ all in
        let stage : IsStage d [] lines count before mid = stage_after d [] lines cycles (λ i. tt) count before
        (more ++ later) mid split so_far in
        let (called, asked, does, windows) = cycle in
        let same : called ≡ mid = no_change more mid called (no_calls more asked) does in (
          mid,
          cycles_pass count before (more ++ later) mid split so_far,
          cycle_ends count mid w (stage_mid count before mid stage)
              (subst (λ (v : WorldState). PlaysWindows count lines (whole_window nodes) v w) same windows),
        )

-- ---- the session

-- these fault lines are kept, and no frame was received
abbrev noting : List FaultLine → Noted
noting faults = with_faults nothing_noted faults

module _ (d : Description) (cycles : ℕ) where
  record Kept (w : WorldState) (faults : List FaultLine) (rest : List (List ℕ)) (new : SessionState) : Type 0 where
    number : ℕ
    replies : List ℕ
    serves : ServesFreely (terms_of d cycles) (state_of w (noting faults)) number rest replies new

  keeps : (suits : Bool) (old : List FaultLine) (line : FaultLine) (reply : List ℕ) (new : List FaultLine)
      → suits ≡ true → KeepsIf suits old (line ∷ []) reply new → reply ≢ memory_text → new ≡ old ++ line ∷ []
  keeps true old line reply new is (inl kept) memory = kept.1
  keeps true old line reply new is (inr starved) memory = absurd (memory starved.0)
  keeps false old line reply new is kept memory = absurd (let none : ⊥ = cc is in none)

  line_kept : (w : WorldState) (kept : List FaultLine) (line : FaultLine) (number : ℕ) (reply : List ℕ)
      (between : SessionState) → IsSaidFaultLine line → IsFaultAfter d cycles kept line
      → DoesFreely (terms_of d cycles) (state_of w (noting kept)) number (fault_text line) reply between
      → between ≡ state_of w (noting (kept ++ line ∷ []))
  line_kept w kept line number reply between fits suits does =
      let read = (read_again (request.Fault line) fits).read in
      let done : DoesIf (terms_of d cycles) (state_of w (noting kept)) number
      (Some (request.Fault line)) reply between =
      subst (λ (o : Option Request). DoesIf (terms_of d cycles) (state_of w (noting kept)) number o reply between) read
      does.does in
      let (told, same, latest) = done in
      let (truth, means, keeps_if) = told in
      let faults : between.noted.faults ≡ kept ++ line ∷ [] =
      keeps truth kept line reply between.noted.faults (means.1 suits) keeps_if does.memory.of_session in
      λ i. state_of (same i) (record { faults = faults i; latest = latest i })

  lines_kept : (w : WorldState) (kept faults : List FaultLine) (rest : List (List ℕ)) (number : ℕ) (replies : List ℕ)
      (new : SessionState) → Each IsSaidFaultLine faults → AllAfter (IsFaultAfter d cycles) kept faults
      → ServesFreely (terms_of d cycles) (state_of w (noting kept)) number (map fault_text faults ++ rest) replies new
      → Kept w (kept ++ faults) rest new
  unfolding ServesFreely AllAfter
  lines_kept w kept [] rest number replies new spelled_all suit serves = record {
    number = number;
    replies = replies;
    serves = subst (λ (l : List FaultLine). ServesFreely (terms_of d cycles)
        (state_of w (noting l)) number rest replies new)
        (sym (append-nil kept)) serves;
  }
  lines_kept w kept (line ∷ faults) rest number replies new spelled_all suit serves =
      let (between, reply, later, does, are, more) = serves in
      let same : between ≡ state_of w (noting (kept ++ line ∷ [])) =
      line_kept w kept line number reply between spelled_all.0 suit.0 does in
      let kept_all : Kept w ((kept ++ line ∷ []) ++ faults) rest new =
      lines_kept w (kept ++ line ∷ []) faults rest (number + 1) later new spelled_all.1 suit.1
      (subst (λ (s : SessionState). ServesFreely (terms_of d cycles) s (number + 1) (map fault_text faults ++ rest)
      later new) same more) in
      subst (λ (l : List FaultLine). Kept w l rest new) (append_assoc kept (line ∷ []) faults) kept_all

  -- a request that isn't refused was not hindered
  runs : (faults : List FaultLine) (w : WorldState) (hinders : Option StepError) (reply : List ℕ) (new : WorldState)
      → RunsCycles faults (window_events (length d.plans)) cycles w hinders new → reply ≡ moved_text hinders new.bus
      → IsUnhindered reply → PassesCycles faults (window_events (length d.plans)) cycles w new
  runs faults w None reply new run is free = run
  runs faults w (Some e) reply new run is free = absurd (free e is)

  record Ran (faults : List FaultLine) (w new : WorldState) : Type 0 where
    passed : PassesCycles faults (window_events (length d.plans)) cycles w new
    short : HasShortCycles faults (window_events (length d.plans)) w

  last_run : (w : WorldState) (faults : List FaultLine) (number : ℕ) (replies : List ℕ) (new : SessionState)
      → cycles ≤ 1024
      → ServesFreely (terms_of d cycles) (state_of w (noting faults)) number
      (spelled (request.Run cycles) ∷ []) replies new
      → Ran faults w new.world
  unfolding ServesFreely
  last_run w faults number replies new few serves =
      let (between, reply, later, does, are, done) = serves in
      let read = (read_again (request.Run cycles) few).read in
      let told : DoesIf (terms_of d cycles) (state_of w (noting faults)) number
      (Some (request.Run cycles)) reply between =
      subst (λ (o : Option Request). DoesIf (terms_of d cycles)
      (state_of w (noting faults)) number o reply between) read
      does.does in
      let free : MovesFreely (terms_of d cycles) (state_of w (noting faults)) between
      (Some (request.Run cycles)) reply =
      subst (λ (o : Option Request). MovesFreely (terms_of d cycles) (state_of w (noting faults)) between o reply) read
      does.free in
      let (hinders, run, is, kept) = told in
      subst (λ (s : SessionState). Ran faults w s.world) (sym done.1) (record {
        passed = runs faults w hinders reply between.world run is free.0;
        short = free.1;
      })

-- ---- the law

pub sessions_played : AreSessionsPlayed
sessions_played d faults cycles played replies new lines is serves =
    let kept : Kept d cycles (opening_world d cycles) faults (spelled (request.Run cycles) ∷ []) new =
    lines_kept d cycles (opening_world d cycles) [] faults (spelled (request.Run cycles) ∷ []) 1 replies new
    lines.spelled lines.suit serves in
    let ran : Ran d cycles faults (opening_world d cycles) new.world =
    last_run d cycles (opening_world d cycles) faults kept.number kept.replies new lines.few_cycles kept.serves in
    let all : map asked_of (played.calls.items ++ []) ≡ asked_by cycles [] =
    ap (map asked_of) (append-nil played.calls.items) ∙ is.asked in
    passes_same faults (window_events (length d.plans)) (window_last (length d.plans)) cycles (opening_world d cycles)
    new.world played.world ran.short ran.passed
    (cycles_pass d faults cycles cycles played.calls.items [] played.world all is.cycles_are)
