-- The cycles of a single-threaded run: the properties of the world after each.
use Rattle.std.proofs.Common.{◌≡◌, ℕ, zero, suc, ◌+◌, Bool, true, false, cond, List, [], ◌∷◌, ◌++◌, length, map}
use Rattle.std.proofs.Common.{take, get_or, replicate, Some, None, refl, sym, ap, subst, ◌∙◌, arith, append_assoc}
use Rattle.std.proofs.Common.{append-nil, slice_get}
use Rattle.std.specs.Prelude.{nat_lt, count_by, ◌%◌}
use Rattle.fr_bus.specs.Record.{Recorded, side_on}
use Rattle.fr_bus.specs.States.{idle_station, corrupt_in}
use Rattle.fr_bus.specs.Stations.{Station}
use Rattle.fr_bus.specs.Windows.{begins_cycle, cycles_begun}
use Rattle.fr_core.proofs.WorldLemmas.{kept_opening}
use Rattle.fr_core.specs.Carried.{Carried, Idle}
use Rattle.fr_core.specs.Scripts.{Scripted}
use Rattle.fr_core.specs.Worlds.{WorldState, interface_at, carried_at, no_interface, new_interface, opening_world}
use Rattle.fr_interface.specs.declared.call.Call.{Call}
use Rattle.fr_interface.specs.State.{State}
use Rattle.fr_journal.specs.Forms.{Entry}
use Rattle.fr_playing.proofs.CallLemmas.{AreOf, of_cycle, AreMade, AreInTurn, turn_kept, IsCalled, calls_made}
use Rattle.fr_playing.proofs.CallLemmas.{action_of, IsReady}
use Rattle.fr_playing.proofs.CallLemmas.{calls_ready}
use Rattle.fr_core.specs.Scripts.{call_at}
use Rattle.fr_playing.proofs.AnswerLemmas.{longer, Tells, AreTold, told_kept}
use Rattle.fr_playing.specs.Settled.{executed_by}
use Rattle.fr_playing.proofs.AskedLemmas.{mine}
use Rattle.fr_playing.proofs.EntryLemmas.{calls_by, calls_more, no_call}
use Rattle.fr_playing.proofs.EventLemmas.{AreBalanced, IsBalanced, IsKept}
use Rattle.fr_playing.proofs.PassLemmas.{IsSound}
use Rattle.fr_playing.proofs.StageLemmas.{AreFaulted, Stands, Passed, windows_passed, windows_keep}
use Rattle.fr_playing.proofs.WindowLemmas.{IsFresh}
use Rattle.fr_playing.specs.Calls.{asked_of}
use Rattle.fr_playing.specs.declared.call.ExecutedCall.{ExecutedCall}
use Rattle.fr_playing.specs.Moving.{is_at_cycle, whole_window}
use Rattle.fr_playing.specs.Playing.{PlaysCycle, PlaysCycles, asked_by}
use Rattle.fr_runs.specs.declared.fault_line.FaultLine.{FaultLine}
use Rattle.fr_runs.specs.Refusing.{EachScriptSuits}
use Rattle.fr_runs.specs.Stepping.{is_beginning, is_fetch, is_observe, IsInTurn}
use Rattle.fr_schedule.specs.Descriptions.{Description}
use Rattle.fr_slots.proofs.PlaceLemmas.{get-after}
use Rattle.fr_slots.specs.declared.channel.Channel.{Channel}
use Rattle.fr_slots.specs.declared.channel.Channel.TheVariants.{A, B}
use Rattle.fr_slots.specs.History.{AllAfter, each_after}
use Rattle.fr_slots.specs.Windows.{static_window}
use Rattle.fr_slots.specs.Parameters.{Parameters}
use Rattle.fr_slots.specs.Plans.{Plan}

-- the world after so many cycles, with these calls
pub record IsStage (d : Description) (scripts : List Scripted) (lines : List FaultLine) (cycle : ℕ)
    (calls : List ExecutedCall) (w : WorldState) : Type 0 where
  pub sound : IsSound d w
  pub fresh : IsFresh w
  pub faulted : AreFaulted lines w.bus.sealed
  pub begun : cycles_begun w.bus.sealed ≡ cycle
  pub at_cycle : is_at_cycle w.bus.opened ≡ true
  pub made : AreMade calls w
  pub told : AreTold calls w
  -- in each record that goes on from here, the calls are in the cycles of their lines
  pub in_turn : (rs more : List Recorded) → rs ≡ w.bus.sealed ++ more → AreInTurn d scripts rs w

-- the front of a list
front : {X : Type 0} (xs ys : List X) → take (length xs) (xs ++ ys) ≡ xs
front [] ys = refl
front (x ∷ xs) ys = ap (λ (l : List _). x ∷ l) (front xs ys)

balanced_empty : (s : State) (c : Carried) → s.entries ≡ [] → c ≡ Idle → IsBalanced s c
balanced_empty s c none idle =
    subst (IsBalanced s) (sym idle)
    (ap (λ (es : List Entry). count_by is_observe es + 0) none ∙ ap (λ (es : List Entry). count_by is_fetch es) (sym
    none))

module _ (d : Description) (scripts : List Scripted) (lines : List FaultLine) (cycles : ℕ)
    (suits : EachScriptSuits d cycles scripts) where
  -- ---- one cycle

  module _ (cycle : ℕ) (before calls later : List ExecutedCall) (old new : WorldState)
      (all : map asked_of (before ++ calls ++ later) ≡ asked_by cycles scripts)
      (stage : IsStage d scripts lines cycle before old)
      (plays : PlaysCycle cycle scripts lines (whole_window (length d.plans)) old calls new) where
    abbrev called : WorldState
    called = plays.0

    of_this : AreOf cycle (map asked_of calls)
    of_this = subst (AreOf cycle) (sym plays.1) (of_cycle cycle scripts)

    -- after the calls, if the next window of the record begins the cycle
    after_calls : (rs more : List Recorded) (first : Recorded) → rs ≡ old.bus.sealed ++ first ∷ more
        → begins_cycle first ≡ true → IsCalled d scripts rs (before ++ calls) old called
    after_calls rs more first goes begins =
        calls_made d scripts rs cycles cycle suits old
        (ap (λ (l : List Recorded). cycles_begun (take (length old.bus.sealed) l)) goes
        ∙ ap cycles_begun (front old.bus.sealed (first ∷ more)) ∙ stage.begun)
        (ap (λ (l : List Recorded). is_beginning (slice_get l (length old.bus.sealed))) goes
        ∙ ap is_beginning (get-after old.bus.sealed more first) ∙ begins)
        before calls later old called all of_this
        (record {
          ready = record { sound = stage.sound; fresh = stage.fresh; same_bus = refl };
          made = stage.made;
          in_turn = stage.in_turn rs (first ∷ more) goes;
          told = stage.told;
        })
        plays.2

    ready : IsReady d old called
    ready = calls_ready d old old calls called plays.2
        (record { sound = stage.sound; fresh = stage.fresh; same_bus = refl })

    stands : Stands d lines cycle called
    stands = record {
      sound = ready.sound;
      fresh = ready.fresh;
      faulted = subst (λ b. AreFaulted lines b.sealed) (sym ready.same_bus) stage.faulted;
      begun =
          let begun = stage.begun in
          ap (λ b. cycles_begun b.sealed + cond {A = ℕ} (is_at_cycle b.opened) 1 0) ready.same_bus
          ∙ ap (λ (t : Bool). cycles_begun old.bus.sealed + cond {A = ℕ} t 1 0) stage.at_cycle
          ∙ omega (arith, begun);
    }

    passed : Passed d lines cycle called new
    passed = windows_passed d lines cycle called new stands (ap (λ b. is_at_cycle b.opened) ready.same_bus
        ∙ stage.at_cycle) plays.3

    record_grows : new.bus.sealed ≡ old.bus.sealed ++ passed.first ∷ passed.more
    record_grows = passed.record_is ∙ ap (λ b. b.sealed ++ passed.first ∷ passed.more) ready.same_bus

    -- the record goes on from the start of this cycle
    goes_on : (rs more : List Recorded) → rs ≡ new.bus.sealed ++ more
        → rs ≡ old.bus.sealed ++ passed.first ∷ (passed.more ++ more)
    goes_on rs more goes =
        goes ∙ ap (λ (l : List Recorded). l ++ more) record_grows
        ∙ append_assoc old.bus.sealed (passed.first ∷ passed.more) more

    turns_after : (rs more : List Recorded) → rs ≡ new.bus.sealed ++ more → AreInTurn d scripts rs new
    turns_after rs more goes =
        windows_keep d lines cycle (λ m s. AllAfter (IsInTurn rs scripts m) [] s.entries) (turn_kept d scripts rs)
        called new plays.3
        (after_calls rs (passed.more ++ more) passed.first (goes_on rs more goes) passed.begins).in_turn

    calls_kept : IsKept (λ m s. (task : ℕ) → calls_by task s.entries
        ≡ map action_of (mine m task (map asked_of (before ++ calls))))
    calls_kept m s e none are task =
        calls_more task s.entries e
        ∙ ap (λ (l : List Call). calls_by task s.entries ++ l) (no_call task e none)
        ∙ append-nil (calls_by task s.entries) ∙ are task

    made_after : AreMade (before ++ calls) new
    made_after =
        windows_keep d lines cycle
        (λ m s. (task : ℕ) → calls_by task s.entries ≡ map action_of (mine m task (map asked_of (before ++ calls))))
        calls_kept called new plays.3
        (after_calls new.bus.sealed (passed.more ++ []) passed.first
        (goes_on new.bus.sealed [] (sym (append-nil new.bus.sealed))) passed.begins).made

    told_after : AreTold (before ++ calls) new
    told_after =
        windows_keep d lines cycle (λ m s. (task : ℕ) → Tells task (executed_by (before ++ calls) m task) s)
        (told_kept (before ++ calls)) called new plays.3
        (after_calls new.bus.sealed (passed.more ++ []) passed.first
        (goes_on new.bus.sealed [] (sym (append-nil new.bus.sealed))) passed.begins).told

    pub next_stage : is_at_cycle new.bus.opened ≡ true → IsStage d scripts lines (cycle + 1) (before ++ calls) new
    next_stage at_cycle = record {
      sound = passed.sound;
      fresh = passed.fresh;
      faulted = passed.faulted;
      begun = passed.begun;
      at_cycle = at_cycle;
      made = made_after;
      told = told_after;
      in_turn = turns_after;
    }

  -- ---- the opening world

  opening_entries : (p : Parameters) (plans : List Plan) (m : ℕ)
      → (get_or (map (new_interface p) plans) m no_interface).entries ≡ []
  opening_entries p [] m = refl
  opening_entries p (plan ∷ plans) zero = refl
  opening_entries p (plan ∷ plans) (suc m) = opening_entries p plans m

  opening_idle : (k n : ℕ) → get_or (replicate k Idle) n Idle ≡ Idle
  opening_idle zero n = refl
  opening_idle (suc k) zero = refl
  opening_idle (suc k) (suc n) = opening_idle k n

  opening_station : (k n : ℕ) → get_or (replicate k idle_station) n idle_station ≡ idle_station
  opening_station zero n = refl
  opening_station (suc k) zero = refl
  opening_station (suc k) (suc n) = opening_station k n

  no_bit : (channel : Channel) → corrupt_in (opening_world d cycles).bus channel ≡ None
  no_bit A = refl
  no_bit B = refl

  no_babble : (channel : Channel) → (side_on channel idle_station).babble ≡ None
  no_babble A = refl
  no_babble B = refl

  no_mute : (channel : Channel) → (side_on channel idle_station).mute ≡ false
  no_mute A = refl
  no_mute B = refl

  first_at_cycle : (b : Bool) → is_at_cycle (cond b (Some (static_window 0 (0 % 64) 1)) None) ≡ true
  first_at_cycle true = refl
  first_at_cycle false = refl

  balanced_opening : AreBalanced (opening_world d cycles)
  balanced_opening m =
      balanced_empty (interface_at (opening_world d cycles) m) (carried_at (opening_world d cycles) m)
      (opening_entries d.params d.plans m) (opening_idle (length d.plans) m)

  opening : IsStage d scripts lines 0 [] (opening_world d cycles)
  unfolding AllAfter each_after
  opening = record {
    sound = record { world = kept_opening d cycles; balanced = balanced_opening; cluster = refl };
    fresh = record {
      idle = opening_idle (length d.plans);
      bits = no_bit;
      babbles = λ n channel. ap (λ (s : Station). (side_on channel s).babble) (opening_station (length d.plans) n)
          ∙ no_babble channel;
      mutes = λ n channel. ap (λ (s : Station). (side_on channel s).mute) (opening_station (length d.plans) n)
          ∙ no_mute channel;
    };
    faulted = tt;
    begun = refl;
    at_cycle = first_at_cycle (nat_lt 0 cycles);
    made = λ m task. ap (calls_by task) (opening_entries d.params d.plans m);
    told = λ m task more. ap (each_after (call_at (longer (interface_at (opening_world d cycles) m) more) task) [])
        (opening_entries d.params d.plans m);
    in_turn = λ rs more goes m. subst (AllAfter (IsInTurn rs scripts m) []) (sym (opening_entries d.params d.plans m))
        tt;
  }

  -- ---- all cycles

  at_cycle_after : (cycle : ℕ) (old : WorldState) (calls : List ExecutedCall) (new : WorldState)
      → PlaysCycle cycle scripts lines (whole_window (length d.plans)) old calls new → is_at_cycle new.bus.opened ≡ true
  at_cycle_after cycle old calls new plays =
      let (count, before, within, window, ends) = plays.3 in
      ends

  pub stage_after : (count : ℕ) (calls later : List ExecutedCall) (w : WorldState)
      → map asked_of (calls ++ later) ≡ asked_by cycles scripts
      → PlaysCycles scripts lines (whole_window (length d.plans)) count (opening_world d cycles) calls w
      → IsStage d scripts lines count calls w
  unfolding PlaysCycles
  stage_after zero calls later w all plays =
      subst (λ (l : List ExecutedCall). IsStage d scripts lines 0 l w) (sym plays.0)
      (subst (IsStage d scripts lines 0 []) (sym plays.1) opening)
  stage_after (suc count) calls later w all plays =
      let (mid, before, new_calls, so_far, cycle, are) = plays in
      let next : count + 1 ≡ suc count = omega arith in
      let whole : map asked_of (before ++ new_calls ++ later) ≡ asked_by cycles scripts =
      ap (λ (l : List ExecutedCall). map asked_of (l ++ later)) (sym are) ∙ all in
      let split : map asked_of (before ++ (new_calls ++ later)) ≡ asked_by cycles scripts =
      ap (map asked_of) (sym (append_assoc before new_calls later)) ∙ whole in
      let stage : IsStage d scripts lines count before mid = stage_after count before (new_calls ++ later) mid split
      so_far in
      subst (λ (k : ℕ). IsStage d scripts lines k calls w) next
      (subst (λ (l : List ExecutedCall). IsStage d scripts lines (count + 1) l w) (sym are)
      (next_stage count before new_calls later mid w whole stage cycle
      (at_cycle_after count mid new_calls w cycle)))
