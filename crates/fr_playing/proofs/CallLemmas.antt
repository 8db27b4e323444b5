-- The calls of a cycle: each is its task's next line, and comes before the first window of its cycle.
use Rattle.std.proofs.Common.{◌≡◌, ◌<◌, ℕ, ◌+◌, Bool, true, false, cond, ◌&&◌, List, [], ◌∷◌, ◌++◌, length, map}
use Rattle.std.proofs.Common.{Option, None, refl, sym, ap, ap₂, subst, ◌∙◌, inl, inr, arith, append_assoc, append-nil}
use Rattle.std.proofs.Common.{take, get_or, set, slice_get}
use Rattle.std.specs.Prelude.{◌==◌, count_by, IfSome}
use Rattle.std.specs.List.{flat_map}
use Rattle.std.proofs.lemmas.Bool.{eq-eqb, ne_eqb}
use Rattle.std.proofs.lemmas.Bool.Decides.{eqb_tells}
use Rattle.std.proofs.lemmas.List.{get_or-set_same, get_or-set_other, length-map, map-append}
use Rattle.std.proofs.lemmas.List.Elements.{filter-append}
use Rattle.fr_bus.specs.Record.{Recorded}
use Rattle.fr_bus.specs.Windows.{cycles_begun}
use Rattle.fr_core.specs.Agreeing.{offers_of}
use Rattle.fr_core.specs.Agreement.{ahead, AgreesAt, view_for, IsWorld}
use Rattle.fr_core.specs.Carried.{Carried}
use Rattle.fr_core.specs.declared.event.Event.{Event}
use Rattle.fr_core.specs.declared.script.Line.{Line}
use Rattle.fr_core.specs.Scripts.{Scripted}
use Rattle.fr_core.specs.Steps.{event_of, step_refusal, with_interface}
use Rattle.fr_core.specs.Worlds.{WorldState, interface_at, carried_at, no_interface}
use Rattle.fr_interface.specs.declared.call.Call.{Call}
use Rattle.fr_interface.specs.State.{State, with_entry}
use Rattle.fr_journal.specs.Forms.{Entry}
use Rattle.fr_playing.proofs.AnswerLemmas.{AreTold, told_next}
use Rattle.fr_playing.proofs.AskedLemmas.{is_mine, mine}
use Rattle.fr_playing.proofs.EntryLemmas.{calls_by, calls_more, as_many_calls, as_many_fetches, host_entry}
use Rattle.fr_playing.proofs.EntryLemmas.{host_done, host_there, host_task, host_call_by}
use Rattle.fr_playing.proofs.EventLemmas.{IsKept, balanced_host, unobserved}
use Rattle.fr_playing.proofs.PassLemmas.{IsSound, world_done}
use Rattle.fr_playing.proofs.ScriptLemmas.{IsGiven, line_of}
use Rattle.fr_playing.proofs.WindowLemmas.{IsFresh}
use Rattle.fr_playing.specs.Calls.{Asked, asked_of, asked_in, asked_in_line, asked_in_script, DoesCall, DoesCalls}
use Rattle.fr_playing.specs.declared.call.ExecutedCall.{ExecutedCall}
use Rattle.fr_playing.specs.Playing.{asked_by}
use Rattle.fr_runs.specs.Refusing.{EachScriptSuits}
use Rattle.fr_runs.specs.Stepping.{is_fetch, is_observe, is_by, is_beginning, lines_given, IsInStep, IsInTurn}
use Rattle.fr_schedule.specs.Descriptions.{Description}
use Rattle.fr_slots.proofs.HistoryLemmas.{AllAfter-snoc}
use Rattle.fr_slots.specs.History.{AllAfter}

-- ---- the calls of one cycle

abbrev pub AreOf : ℕ → List Asked → Type 0
AreOf cycle [] = Unit {0}
AreOf cycle (a ∷ later) = (a.cycle ≡ cycle) × AreOf cycle later

of_both : (cycle : ℕ) (xs ys : List Asked) → AreOf cycle xs → AreOf cycle ys → AreOf cycle (xs ++ ys)
of_both cycle [] ys first second = second
of_both cycle (x ∷ xs) ys first second = (first.0, of_both cycle xs ys first.1 second)

of_flat : {X : Type 0} (cycle : ℕ) (f : X → List Asked) → ((x : X) → AreOf cycle (f x)) → (xs : List X)
    → AreOf cycle (flat_map f xs)
of_flat cycle f each [] = tt
of_flat cycle f each (x ∷ xs) = of_both cycle (f x) (flat_map f xs) (each x) (of_flat cycle f each xs)

of_if : (cycle : ℕ) (a : Asked) (b : Bool) → a.cycle ≡ cycle → AreOf cycle (cond b (a ∷ []) [])
of_if cycle a true is = (is, tt)
of_if cycle a false is = tt

of_script : (cycle node task : ℕ) (lines : List Line) → AreOf cycle (flat_map (asked_in_line cycle node task) lines)
of_script cycle node task lines =
    of_flat cycle (asked_in_line cycle node task)
    (λ line. of_if cycle (record { node = node; task = task; cycle = cycle; call = line.action }) (line.cycle == cycle)
    refl) lines

pub of_cycle : (cycle : ℕ) (scripts : List Scripted) → AreOf cycle (asked_in cycle scripts)
of_cycle cycle scripts =
    of_flat cycle (asked_in_script cycle) (λ script. of_script cycle script.node script.task script.lines) scripts

-- ---- journals beside the calls so far

abbrev pub action_of : Asked → Call
action_of a = a.call

-- the calls of each task in its node's journal are those of these calls that are the task's
abbrev pub AreMade : List ExecutedCall → WorldState → Type 0
AreMade before w = (m task : ℕ)
    → calls_by task (interface_at w m).entries ≡ map action_of (mine m task (map asked_of before))

mine_if : (m task : ℕ) (call : ExecutedCall) (b : Bool) → (call.node == m && call.task == task) ≡ b
    → mine m task (asked_of call ∷ []) ≡ cond b (asked_of call ∷ []) []
mine_if m task call b is = ap (λ (t : Bool). cond t (asked_of call ∷ []) []) is

mine_more : (m task : ℕ) (before : List ExecutedCall) (call : ExecutedCall)
    → map action_of (mine m task (map asked_of (before ++ call ∷ [])))
    ≡ map action_of (mine m task (map asked_of before))
    ++ cond (call.node == m && call.task == task) (call.call ∷ []) []
mine_more m task before call =
    ap (λ (l : List Asked). map action_of (mine m task l)) (map-append asked_of before (call ∷ []))
    ∙ ap (map action_of) (filter-append (is_mine m task) (map asked_of before) (asked_of call ∷ []))
    ∙ map-append action_of (mine m task (map asked_of before)) (mine m task (asked_of call ∷ []))
    ∙ ap (λ (l : List Call). map action_of (mine m task (map asked_of before)) ++ l)
    (by_test (call.node == m && call.task == task) refl)
  where
    by_test : (b : Bool) → (call.node == m && call.task == task) ≡ b
        → map action_of (mine m task (asked_of call ∷ [])) ≡ cond b (call.call ∷ []) []
    by_test true is = ap (map action_of) (mine_if m task call true is)
    by_test false is = ap (map action_of) (mine_if m task call false is)

-- ---- worlds in which calls are made

-- nothing but journals has changed since the start of the cycle
pub record IsReady (d : Description) (start w : WorldState) : Type 0 where
  pub sound : IsSound d w
  pub fresh : IsFresh w
  pub same_bus : w.bus ≡ start.bus

module _ (d : Description) (start : WorldState) where
  ready_next : (w : WorldState) (call : ExecutedCall) → step_refusal w (event_of call.node call.task call.call) ≡ None
      → IsReady d start w → IsReady d start (with_interface w call.node (with_entry (interface_at w call.node)
      (host_entry (interface_at w call.node) call.task call.call)))
  ready_next w call free ready =
      let event : Event = event_of call.node call.task call.call in
      let sound = ready.sound in
      let fresh = ready.fresh in
      record {
        sound = record {
          world = subst IsWorld (host_done w call.node call.task call.call) (world_done w event free sound.world);
          balanced = balanced_host w sound.world.a_controller_each sound.balanced call.node
              (host_there w call.node call.task call.call free) call.task call.call;
          cluster = sound.cluster;
        };
        fresh = record { idle = fresh.idle; bits = fresh.bits; babbles = fresh.babbles; mutes = fresh.mutes };
        same_bus = ready.same_bus;
      }

  pub call_ready : (w : WorldState) (call : ExecutedCall) (new : WorldState) → DoesCall w call new → IsReady d start w
      → IsReady d start new
  call_ready w call new does ready =
      subst (IsReady d start) (sym (does.0.2 ∙ host_done w call.node call.task call.call))
      (ready_next w call does.0.0 ready)

  pub calls_ready : (w : WorldState) (calls : List ExecutedCall) (new : WorldState) → DoesCalls w calls new
      → IsReady d start w → IsReady d start new
  unfolding DoesCalls
  calls_ready w [] new does ready = subst (IsReady d start) (sym does) ready
  calls_ready w (call ∷ calls) new does ready =
      let (between, here, rest) = does in
      calls_ready between calls new rest (call_ready w call between here ready)

-- ---- the next call

module _ (d : Description) (scripts : List Scripted) (record_of : List Recorded) where
  -- the calls so far are in the cycles of their lines
  abbrev pub AreInTurn : WorldState → Type 0
  AreInTurn w = (m : ℕ) → AllAfter (IsInTurn record_of scripts m) [] (interface_at w m).entries

  pub turn_kept : IsKept (λ m s. AllAfter (IsInTurn record_of scripts m) [] s.entries)
  turn_kept m s e none all =
      AllAfter-snoc (IsInTurn record_of scripts m) s.entries e all
      (subst (λ (o : Option ℕ). IfSome o (λ task.
      IfSome (slice_get (lines_given scripts m task) (count_by (is_by task) s.entries)) (λ line.
      IsInStep record_of line.cycle s.entries))) (sym none) tt)

  pub record IsCalled (before : List ExecutedCall) (start w : WorldState) : Type 0 where
    pub ready : IsReady d start w
    pub made : AreMade before w
    pub in_turn : AreInTurn w
    pub told : AreTold before w

  module _ (cycles cycle : ℕ) (suits : EachScriptSuits d cycles scripts) (start : WorldState)
      (begun : cycles_begun (take (length start.bus.sealed) record_of) ≡ cycle)
      (begins : is_beginning (slice_get record_of (length start.bus.sealed)) ≡ true) where
    -- an idle node has fetched and observed each window of the record
    as_many : (before : List ExecutedCall) (w : WorldState) → IsCalled before start w → (n : ℕ)
        → n < length w.interfaces
        → (count_by is_fetch (interface_at w n).entries ≡ length start.bus.sealed)
        × (count_by is_observe (interface_at w n).entries ≡ count_by is_fetch (interface_at w n).entries)
    as_many before w called n within =
        let stations = called.ready.sound.world.agrees.a_station_each in
        let agrees : AgreesAt w n = called.ready.sound.world.agrees.each n (omega (arith, within, stations)) in
        let nothing : ahead (carried_at w n) (view_for w.bus n) ≡ [] =
        ap (λ (c : Carried). ahead c (view_for w.bus n)) (called.ready.fresh.idle n) in
        let fetches = as_many_fetches (interface_at w n) in
        let all = ap length (agrees.fetches ∙ ap (λ l. map (offers_of n) w.bus.sealed ++ l) nothing
        ∙ append-nil (map (offers_of n) w.bus.sealed)) ∙ length-map w.bus.sealed (offers_of n) in
        let same : length w.bus.sealed ≡ length start.bus.sealed = ap (λ b. length b.sealed) called.ready.same_bus in
        let balanced = subst (λ (c : Carried). count_by is_observe (interface_at w n).entries + unobserved c
        ≡ count_by is_fetch (interface_at w n).entries) (called.ready.fresh.idle n) (called.ready.sound.balanced n) in
        (sym fetches ∙ all ∙ same, omega (arith, balanced))

    module _ (before later : List ExecutedCall) (call : ExecutedCall) (w new : WorldState)
        (all : map asked_of (before ++ call ∷ later) ≡ asked_by cycles scripts) (of_cycle : call.cycle ≡ cycle)
        (called : IsCalled before start w) (does : DoesCall w call new) where
      abbrev n : ℕ
      n = call.node

      abbrev here : State
      here = interface_at w n

      abbrev entry : Entry
      entry = host_entry here call.task call.call

      free : step_refusal w (event_of n call.task call.call) ≡ None
      free = does.0.0

      within : n < length w.interfaces
      within = host_there w n call.task call.call free

      next : new ≡ with_interface w n (with_entry here entry)
      next = does.0.2 ∙ host_done w n call.task call.call

      given : IsGiven d cycles scripts suits before call
      given = line_of d cycles scripts suits before call later all

      place : count_by (is_by call.task) here.entries ≡ length (mine n call.task (map asked_of before))
      place =
          as_many_calls call.task here.entries ∙ ap length (called.made n call.task)
          ∙ length-map (mine n call.task (map asked_of before)) action_of

      in_step : IsInStep record_of given.line.cycle here.entries
      in_step =
          let counts = as_many before w called n within in
          record {
            cycle_is = ap (λ (k : ℕ). cycles_begun (take k record_of)) counts.0 ∙ begun ∙ sym of_cycle
                ∙ sym given.cycle_is;
            beginning = ap (λ (k : ℕ). is_beginning (slice_get record_of k)) counts.0 ∙ begins;
            observed = counts.1;
          }

      turn : IsInTurn record_of scripts n here.entries entry
      turn =
          subst (λ (o : Option ℕ). IfSome o (λ task.
          IfSome (slice_get (lines_given scripts n task) (count_by (is_by task) here.entries)) (λ line.
          IsInStep record_of line.cycle here.entries))) (sym (host_task here call.task call.call))
          (subst (λ (o : Option Line). IfSome o (λ line. IsInStep record_of line.cycle here.entries))
          (sym (ap (slice_get (lines_given scripts n call.task)) place ∙ given.at)) in_step)

      own_is : get_or (set w.interfaces n (with_entry here entry)) n no_interface ≡ with_entry here entry
      own_is = get_or-set_same w.interfaces n (with_entry here entry) no_interface within

      turns_next : AreInTurn (with_interface w n (with_entry here entry))
      turns_next m =
          elim (eqb_tells m n) [
            | inl own ↦
                subst (λ (k : ℕ). AllAfter (IsInTurn record_of scripts k) []
                (get_or (set w.interfaces n (with_entry here entry)) k no_interface).entries) (sym own.1)
                (subst (λ (s : State). AllAfter (IsInTurn record_of scripts n) [] s.entries) (sym own_is)
                (AllAfter-snoc (IsInTurn record_of scripts n) here.entries entry (called.in_turn n) turn))
            | inr other ↦
                subst (λ (s : State). AllAfter (IsInTurn record_of scripts m) [] s.entries)
                (sym (get_or-set_other w.interfaces n m (with_entry here entry) no_interface other.1)) (called.in_turn
                m)
          ]

      mine_own : (task : ℕ) → cond (call.node == n && call.task == task) (call.call ∷ []) []
          ≡ cond (call.task == task) (call.call ∷ []) []
      mine_own task = ap (λ (b : Bool). cond (b && call.task == task) (call.call ∷ []) []) (eq-eqb n n refl)

      made_own : (task : ℕ) → calls_by task (with_entry here entry).entries
          ≡ map action_of (mine n task (map asked_of (before ++ call ∷ [])))
      made_own task =
          calls_more task here.entries entry
          ∙ ap₂ (λ (a : List Call) (b : List Call). a ++ b) (called.made n task)
          (host_call_by here call.task task call.call ∙ sym (mine_own task))
          ∙ sym (mine_more n task before call)

      not_mine : (m task : ℕ) → (n ≡ m → ⊥) → cond (call.node == m && call.task == task) (call.call ∷ []) [] ≡ []
      not_mine m task other = ap (λ (b : Bool). cond (b && call.task == task) (call.call ∷ []) []) (ne_eqb n m other)

      made_next : AreMade (before ++ call ∷ []) (with_interface w n (with_entry here entry))
      made_next m task =
          elim (eqb_tells m n) [
            | inl own ↦
                subst (λ (k : ℕ). calls_by task (get_or (set w.interfaces n (with_entry here entry)) k
                no_interface).entries
                ≡ map action_of (mine k task (map asked_of (before ++ call ∷ [])))) (sym own.1)
                (ap (λ (s : State). calls_by task s.entries) own_is ∙ made_own task)
            | inr other ↦
                ap (λ (s : State). calls_by task s.entries)
                (get_or-set_other w.interfaces n m (with_entry here entry) no_interface other.1)
                ∙ called.made m task
                ∙ sym (append-nil (map action_of (mine m task (map asked_of before))))
                ∙ ap (λ (l : List Call). map action_of (mine m task (map asked_of before)) ++ l)
                (sym (not_mine m task (λ same. other.1 (sym same))))
                ∙ sym (mine_more m task before call)
          ]

      pub call_made : IsCalled (before ++ call ∷ []) start new
      call_made = record {
        ready = call_ready d start w call new does called.ready;
        made = subst (AreMade (before ++ call ∷ [])) (sym next) made_next;
        in_turn = subst AreInTurn (sym next) turns_next;
        told = subst (AreTold (before ++ call ∷ [])) (sym next) (told_next before call w within does.0.1 called.told);
      }

    -- ---- all calls of the cycle

    pub calls_made : (before calls later : List ExecutedCall) (w new : WorldState)
        → map asked_of (before ++ calls ++ later) ≡ asked_by cycles scripts → AreOf cycle (map asked_of calls)
        → IsCalled before start w → DoesCalls w calls new → IsCalled (before ++ calls) start new
    unfolding DoesCalls
    calls_made before [] later w new all of_cycle called does =
        subst (λ (l : List ExecutedCall). IsCalled l start new) (sym (append-nil before))
        (subst (IsCalled before start) (sym does) called)
    calls_made before (call ∷ calls) later w new all of_cycle called does =
        let (between, here, rest) = does in
        let whole : map asked_of (before ++ call ∷ (calls ++ later)) ≡ asked_by cycles scripts =
        ap (map asked_of) (sym (append_assoc before (call ∷ calls) later)) ∙ all in
        let one : IsCalled (before ++ call ∷ []) start between =
        call_made before (calls ++ later) call w between whole of_cycle.0 called here in
        subst (λ (l : List ExecutedCall). IsCalled l start new) (append_assoc before (call ∷ []) calls)
        (calls_made (before ++ call ∷ []) calls later between new
        (ap (λ (l : List ExecutedCall). map asked_of (l ++ later)) (append_assoc before (call ∷ []) calls) ∙ all)
        of_cycle.1 one rest)
