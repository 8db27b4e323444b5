-- A world in which all controllers are idle: its journals and scripts agree with its record.
use Rattle.std.proofs.Common.{◌≡◌, ◌<◌, ℕ, zero, suc, Bool, true, false, not, ◌&&◌, ◌||◌, List, [], ◌∷◌, ◌++◌}
use Rattle.std.proofs.Common.{cond}
use Rattle.std.proofs.Common.{length, map, Option, Some, None, refl, sym, ap, subst, ◌∙◌, inl, inr, arith, append-nil}
use Rattle.std.proofs.Common.{slice_get, get_or}
use Rattle.std.specs.Prelude.{nat_lt, ◌==◌, IfSome}
use Rattle.std.specs.List.{list_all, list_any}
use Rattle.std.proofs.lemmas.Bool.{lt-ltb}
use Rattle.std.proofs.lemmas.Bool.Decides.{eqb_tells}
use Rattle.std.proofs.lemmas.List.{length-map}
use Rattle.std.proofs.lemmas.Option.{slice_get_within, get_or_from_slice_get}
use Rattle.arrayvec.specs.ArrayVec.{ArrayVec}
use Rattle.fr_bus.specs.Outcome.{fate_of}
use Rattle.fr_bus.specs.Record.{Recorded, IsOutcome}
use Rattle.fr_bus.specs.States.{BusState, IsRun}
use Rattle.fr_core.proofs.CaseLemmas.{both, differ}
use Rattle.fr_core.proofs.SentLemmas.{of_all}
use Rattle.fr_core.proofs.SettledLemmas.{fetched_windows, observed_windows, outcome_at}
use Rattle.fr_core.specs.Agreeing.{Handed, Sight, fetched, observed, offers_of, sights_of}
use Rattle.fr_core.specs.Agreement.{view_for, ahead, behind, AgreesAt, IsWorld}
use Rattle.fr_core.specs.Answers.{without_answer, without_answers}
use Rattle.fr_core.specs.Carried.{Carried, Idle}
use Rattle.fr_core.specs.declared.script.Line.{Line}
use Rattle.fr_core.specs.Scripts.{Scripted, Executed, is_for, IsLine, AreLines, IsScript, ScriptAgrees}
use Rattle.fr_core.specs.Scripts.{calls_at, calls_in}
use Rattle.fr_core.specs.Settling.{IfThere, ArePlanned, HasWindows, WindowsAgree, windows_of, is_due, is_right}
use Rattle.fr_core.specs.Settling.{are_right, IsFatedAt, IsHandedAt, OffersAgree, IsShownAt, SightsAgree}
use Rattle.fr_core.specs.Settling.{Agrees}
use Rattle.fr_core.specs.Worlds.{WorldState, interface_at, carried_at, no_interface, new_interface, without_entries}
use Rattle.fr_guardian.specs.Guarding.{passes}
use Rattle.fr_interface.specs.declared.call.Call.{Call}
use Rattle.fr_interface.specs.State.{State}
use Rattle.fr_playing.proofs.AskedLemmas.{mine, ask, Once, neither_first, neither_rest}
use Rattle.fr_playing.proofs.CallLemmas.{AreMade, action_of}
use Rattle.fr_playing.proofs.EntryLemmas.{calls_by, calls_are}
use Rattle.fr_playing.proofs.ScriptLemmas.{task_lines, given_once}
use Rattle.fr_playing.specs.Calls.{Asked, asked_of}
use Rattle.fr_playing.specs.declared.call.ExecutedCall.{ExecutedCall}
use Rattle.fr_playing.specs.Playing.{asked_by}
use Rattle.fr_runs.specs.Refusing.{EachScriptSuits}
use Rattle.fr_runs.specs.Stepping.{lines_given}
use Rattle.fr_schedule.specs.Descriptions.{Description}
use Rattle.fr_slots.proofs.PlaceLemmas.{same_some, same_head, same_tail, get-map, map-get, IsMapped}
use Rattle.fr_slots.specs.declared.channel.Channel.{Channel}
use Rattle.fr_slots.specs.Parameters.{Parameters}
use Rattle.fr_slots.specs.Plans.{Plan}
use Rattle.fr_slots.specs.Windows.{Opportunity}

-- ---- plans

planned : (p : Parameters) (is : List State) (plans : List Plan) → map without_entries is ≡ map (new_interface p) plans
    → (n : ℕ) → ArePlanned p (slice_get is n) (slice_get plans n)
planned p [] [] e n = tt
planned p [] (plan ∷ plans) e n = absurd (let none : ⊥ = cc in none)
planned p (i ∷ is) [] e n = absurd (let none : ⊥ = cc in none)
planned p (i ∷ is) (plan ∷ plans) e zero =
    let same = same_head (without_entries i) (new_interface p plan) (map without_entries is)
    (map (new_interface p) plans) e in
    (ap (λ (s : State). s.params) same, ap (λ (s : State). s.plan) same)
planned p (i ∷ is) (plan ∷ plans) e (suc n) =
    planned p is plans (same_tail (without_entries i) (new_interface p plan) (map without_entries is)
    (map (new_interface p) plans) e) n

-- ---- windows

offered_windows : (n : ℕ) (rs : List Recorded) → map (λ (h : Handed). h.window) (map (offers_of n) rs) ≡ windows_of rs
offered_windows n [] = refl
offered_windows n (r ∷ rs) = ap (λ l. r.window ∷ l) (offered_windows n rs)

shown_windows : (p : Parameters) (n : ℕ) (rs : List Recorded)
    → map (λ (x : Sight). x.window) (map (sights_of p n) rs) ≡ windows_of rs
shown_windows p n [] = refl
shown_windows p n (r ∷ rs) = ap (λ l. r.window ∷ l) (shown_windows p n rs)

-- ---- the fates that a bus records

due : (muted let_pass : Bool) → is_due (fate_of muted let_pass) let_pass ≡ true
due true let_pass = refl
due false true = refl
due false false = refl

or_rest : (p q : Bool) → q ≡ true → (p || q) ≡ true
or_rest true q e = refl
or_rest false q e = e

or_first : (p q : Bool) → p ≡ false → (not p || q) ≡ true
or_first true q e = absurd (let none : ⊥ = cc in none)
or_first false q e = refl

module _ (d : Description) (w : Opportunity) (n : ℕ) where
  right : (node : ℕ) (channel : Channel) (babble muted : Bool) (bytes : ArrayVec ℕ) → node < length d.plans
      → is_right d n w (record {
        node = node;
        channel = channel;
        babble = babble;
        bytes = bytes;
        fate =
            fate_of muted (passes d node w channel);
      }) ≡ true
  right node channel babble muted bytes within =
      elim (eqb_tells node n) [
        | inl same ↦
            let below : nat_lt n (length d.plans) ≡ true = lt-ltb n (length d.plans)
            (subst (λ m. m < length d.plans) same.1 within) in
            let fated : is_due (fate_of muted (passes d node w channel)) (passes d n w channel) ≡ true =
            ap (λ m. is_due (fate_of muted (passes d node w channel)) (passes d m w channel)) (sym same.1) ∙ due muted
            (passes d node w channel) in
            or_rest (not (node == n)) (nat_lt n (length d.plans) && is_due (fate_of muted (passes d node w channel))
            (passes d n w channel)) (both (nat_lt n (length d.plans)) _ below fated)
        | inr other ↦ or_first (node == n) _ other.0
      ]

outcome_right : (d : Description) (n : ℕ) (r : Recorded) → IsOutcome d r → are_right d n r ≡ true
outcome_right d n r o =
    let as_many = o.one_each in
    ap (list_all (is_right d n r.window)) o.sent_is
    ∙ of_all d r.window (is_right d n r.window) (length d.plans) (right d r.window n) 0 o.stations
    (omega (arith, as_many))

run_fated : (b : BusState) → IsRun b → (n k : ℕ) → IsFatedAt b.cluster b.sealed n k
run_fated b run n k r at = outcome_right b.cluster n r (outcome_at b.cluster b.cycles [] b.sealed k r run.recorded at)

-- ---- the journals of a world whose controllers are idle

if_there : (is : List State) (n : ℕ) (P : State → Type 0) → ((s : State) → slice_get is n ≡ Some s → P s)
    → IfThere (slice_get is n) P
if_there is n P each = by_place (slice_get is n) refl
  where
    by_place : (o : Option State) → slice_get is n ≡ o → IfThere o P
    by_place None at = tt
    by_place (Some s) at = each s at

-- the lists of a node's interface are those of the record
record IsLevel (p : Parameters) (rs : List Recorded) (n : ℕ) (s : State) : Type 0 where
  pub fetches : fetched s ≡ map (offers_of n) rs
  pub sees : observed s ≡ map (sights_of p n) rs

module _ (w : WorldState) (world : IsWorld w) (run : IsRun w.bus) (idle : (n : ℕ) → carried_at w n ≡ Idle) where
  level : (n : ℕ) (s : State) → slice_get w.interfaces n ≡ Some s → IsLevel w.bus.cluster.params w.bus.sealed n s
  level n s at =
      let within = slice_get_within w.interfaces n s at in
      let stations = world.agrees.a_station_each in
      let agrees : AgreesAt w n = world.agrees.each n (omega (arith, within, stations)) in
      let none_ahead : ahead (carried_at w n) (view_for w.bus n) ≡ [] =
      ap (λ (c : Carried). ahead c (view_for w.bus n)) (idle n) in
      let none_behind : behind n (carried_at w n) (view_for w.bus n) ≡ [] =
      ap (λ (c : Carried). behind n c (view_for w.bus n)) (idle n) in
      subst (IsLevel w.bus.cluster.params w.bus.sealed n) (get_or_from_slice_get w.interfaces n s no_interface at)
      (record {
        fetches = agrees.fetches ∙ ap (λ l. map (offers_of n) w.bus.sealed ++ l) none_ahead
            ∙ append-nil (map (offers_of n) w.bus.sealed);
        sees = sym (append-nil (observed (interface_at w n)))
            ∙ ap (λ l. observed (interface_at w n) ++ l) (sym none_behind) ∙ agrees.sees;
      })

  windows_agree : (n : ℕ) → WindowsAgree w.interfaces w.bus.sealed n
  windows_agree n =
      let rs : List Recorded = w.bus.sealed in
      if_there w.interfaces n (HasWindows rs) (λ s at. record {
        fetches = sym (fetched_windows s) ∙ ap (map (λ (h : Handed). h.window)) (level n s at).fetches
            ∙ offered_windows n rs;
        observes = sym (observed_windows s) ∙ ap (map (λ (x : Sight). x.window)) (level n s at).sees
            ∙ shown_windows w.bus.cluster.params n rs;
      })

  offers_agree : (n : ℕ) → OffersAgree w.bus.cluster w.interfaces w.bus.sealed n
  offers_agree n k = record {
    offers = if_there w.interfaces n (IsHandedAt w.bus.sealed n k)
        (λ s at. ap (λ l. slice_get l k) (level n s at).fetches);
    fates = run_fated w.bus run n k;
  }

  sights_agree : (n : ℕ) → SightsAgree w.bus.cluster w.interfaces w.bus.sealed n
  sights_agree n k = if_there w.interfaces n (IsShownAt w.bus.cluster.params w.bus.sealed n k)
      (λ s at. ap (λ l. slice_get l k) (level n s at).sees)

-- ---- scripts

abbrev action : Line → Call
action line = line.action

abbrev executed : Executed → Call
executed x = x.0

-- the lines are the calls
lines_are : (lines : List Line) (calls : List Executed) → map executed calls ≡ map action lines
    → AreLines (map without_answer lines) calls
lines_are lines calls same = record {
  as_many = length-map lines without_answer ∙ sym (length-map lines action) ∙ ap length (sym same)
      ∙ length-map calls executed;
  each = each;
}
  where
    each : (k : ℕ) (line : Line) (x : Executed) → slice_get (map without_answer lines) k ≡ Some line
        → slice_get calls k ≡ Some x → IsLine line x
    each k line x at called =
        let m : IsMapped without_answer lines k line = get-map without_answer lines k line at in
        record {
          action_is = ap action (sym m.value)
              ∙ same_some (action m.source) (executed x) (sym (map-get action lines k m.source m.at)
              ∙ ap (λ l. slice_get l k) (sym same) ∙ map-get executed calls k x called);
          answer_is = subst (λ (l : Line). IfSome l.answer (λ answer. answer ≡ x.1)) m.value tt;
        }

none_given : (scripts : List Scripted) (n task : ℕ) → list_any (is_for n task) scripts ≡ false
    → lines_given scripts n task ≡ []
none_given [] n task none = refl
none_given (script ∷ scripts) n task none =
    ap (λ (b : Bool). cond b script.lines (lines_given scripts n task))
    (neither_first (is_for n task script) (list_any (is_for n task) scripts) none)
    ∙ none_given scripts n task (neither_rest (is_for n task script) (list_any (is_for n task) scripts) none)

any_at : (p : Scripted → Bool) (scripts : List Scripted) (k : ℕ) (script : Scripted) → slice_get scripts k ≡ Some script
    → p script ≡ true → list_any p scripts ≡ true
any_at p [] k script at passes = absurd (let none : ⊥ = cc in none)
any_at p (s ∷ scripts) zero script at passes =
    ap (λ (b : Bool). b || list_any p scripts) (ap p (same_some s script at) ∙ passes)
any_at p (s ∷ scripts) (suc k) script at passes = either (p s) (list_any p scripts) (any_at p scripts k script at
    passes)
  where
    either : (a b : Bool) → b ≡ true → (a || b) ≡ true
    either true b e = refl
    either false b e = e

-- the lines of a task's one script are those that are given to the task
given_at : (n task : ℕ) (scripts : List Scripted) → Once n task scripts → (k : ℕ) (script : Scripted)
    → slice_get scripts k ≡ Some script → is_for n task script ≡ true → lines_given scripts n task ≡ script.lines
given_at n task [] once k script at own = absurd (let none : ⊥ = cc in none)
given_at n task (s ∷ scripts) once zero script at own =
    let same : s ≡ script = same_some s script at in
    ap (λ (b : Bool). cond b s.lines (lines_given scripts n task)) (ap (is_for n task) same ∙ own)
    ∙ ap (λ (x : Scripted). x.lines) same
given_at n task (s ∷ scripts) once (suc k) script at own =
    by_test (is_for n task s) refl (given_at n task scripts once.1 k script at own)
  where
    by_test : (b : Bool) → is_for n task s ≡ b → lines_given scripts n task ≡ script.lines
        → cond b s.lines (lines_given scripts n task) ≡ script.lines
    by_test true first rest = differ (any_at (is_for n task) scripts k script at own) (once.0 first)
    by_test false other rest = rest

any_without : (n task : ℕ) (scripts : List Scripted)
    → list_any (is_for n task) (map without_answers scripts) ≡ list_any (is_for n task) scripts
any_without n task [] = refl
any_without n task (s ∷ scripts) = ap (λ (b : Bool). is_for n task s || b) (any_without n task scripts)

no_calls : (calls : List Executed) → map executed calls ≡ [] → calls ≡ []
no_calls [] none = refl
no_calls (x ∷ calls) none = absurd (let no : ⊥ = cc in no)

actions_asked : (n task : ℕ) (lines : List Line) → map action_of (map (ask n task) lines) ≡ map action lines
actions_asked n task [] = refl
actions_asked n task (line ∷ lines) = ap (λ (l : List Call). line.action ∷ l) (actions_asked n task lines)

module _ (d : Description) (cycles : ℕ) (scripts : List Scripted) (suits : EachScriptSuits d cycles scripts)
    (calls : List ExecutedCall) (all : map asked_of calls ≡ asked_by cycles scripts) (w : WorldState)
    (made : AreMade calls w) where
  journal_calls : (n task : ℕ) (o : Option State) → slice_get w.interfaces n ≡ o
      → map executed (calls_in o task) ≡ calls_by task (interface_at w n).entries
  journal_calls n task None at =
      ap (λ (s : State). calls_by task s.entries) (sym (at_none w.interfaces n at))
    where
      at_none : (is : List State) (k : ℕ) → slice_get is k ≡ None → get_or is k no_interface ≡ no_interface
      at_none [] k none = refl
      at_none (i ∷ is) zero none = absurd (let no : ⊥ = cc in no)
      at_none (i ∷ is) (suc k) none = at_none is k none
  journal_calls n task (Some s) at =
      calls_are s task
      ∙ ap (λ (i : State). calls_by task i.entries) (sym (get_or_from_slice_get w.interfaces n s no_interface at))

  calls_given : (n task : ℕ) → map executed (calls_at w.interfaces n task) ≡ map action (lines_given scripts n task)
  calls_given n task =
      journal_calls n task (slice_get w.interfaces n) refl ∙ made n task
      ∙ ap (λ (l : List Asked). map action_of (mine n task l)) all
      ∙ ap (map action_of) (task_lines d cycles scripts suits n task)
      ∙ actions_asked n task (lines_given scripts n task)

  pub scripts_agree : (n task : ℕ) → ScriptAgrees w.interfaces (map without_answers scripts) n task
  scripts_agree n task = record {
    given = λ k. by_place k (slice_get (map without_answers scripts) k) refl;
    missing = λ none. no_calls (calls_at w.interfaces n task) (calls_given n task
        ∙ ap (map action) (none_given scripts n task (sym (any_without n task scripts) ∙ none)));
  }
    where
      by_place : (k : ℕ) (o : Option Scripted) → slice_get (map without_answers scripts) k ≡ o
          → IfSome o (IsScript w.interfaces n task)
      by_place k None at = tt
      by_place k (Some script) at =
          let m : IsMapped without_answers scripts k script = get-map without_answers scripts k script at in
          subst (IsScript w.interfaces n task) m.value
          (λ own. lines_are m.source.lines (calls_at w.interfaces n task)
          (calls_given n task
          ∙ ap (map action) (given_at n task scripts (given_once d cycles scripts suits n task) k m.source m.at own)))

  pub agrees : IsWorld w → IsRun w.bus → ((n : ℕ) → carried_at w n ≡ Idle) → w.bus.cluster ≡ d
      → Agrees d w.interfaces w.bus.sealed (map without_answers scripts)
  agrees world run idle cluster =
      subst (λ (c : Description). Agrees c w.interfaces w.bus.sealed (map without_answers scripts)) cluster
      (record {
        plans = planned w.bus.cluster.params w.interfaces w.bus.cluster.plans world.configured;
        windows = λ n few. windows_agree w world run idle n;
        offers = λ n few. offers_agree w world run idle n;
        sights = λ n few. sights_agree w world run idle n;
        scripts = λ n few task below. scripts_agree n task;
      })
