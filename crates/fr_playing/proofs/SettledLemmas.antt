-- A single-threaded run is settled.
use Rattle.std.proofs.Common.{◌≡◌, ℕ, zero, suc, ◌+◌, ◌-◌, false, List, [], ◌∷◌, ◌++◌, map, take, Option, Some, None}
use Rattle.std.proofs.Common.{refl, sym, ap, subst, ◌∙◌, append-nil, arith, slice_get, get_or}
use Rattle.std.specs.Prelude.{IfSome, is_some}
use Rattle.fr_bus.specs.declared.error.Phase.{Phase}
use Rattle.fr_bus.specs.declared.error.Phase.TheVariants.{Collect, Sealed as InSealed, Finished}
use Rattle.fr_bus.specs.Record.{Recorded}
use Rattle.fr_bus.specs.States.{BusState, OneSenderEach, Stands}
use Rattle.fr_bus.specs.Windows.{cycles_begun}
use Rattle.fr_core.proofs.CaseLemmas.{differ}
use Rattle.fr_core.specs.Accounts.{IsHarmless}
use Rattle.fr_core.specs.Headline.{Headline}
use Rattle.fr_core.specs.Receivers.{Receivers}
use Rattle.fr_core.specs.Scripts.{Scripted, calls_at, calls_in}
use Rattle.fr_core.specs.Settling.{IfThere}
use Rattle.fr_core.specs.Worlds.{WorldState, interface_at, no_interface}
use Rattle.fr_interface.specs.State.{State}
use Rattle.fr_journal.specs.Forms.{Entry}
use Rattle.fr_playing.proofs.AgreeLemmas.{agrees}
use Rattle.fr_playing.proofs.AnswerLemmas.{Tells, AreTold, told_at_end}
use Rattle.fr_playing.proofs.CycleLemmas.{IsStage, stage_after}
use Rattle.fr_playing.proofs.StageLemmas.{HasFaultsAfter, AreFaulted}
use Rattle.fr_playing.specs.Calls.{asked_of}
use Rattle.fr_playing.specs.declared.call.ExecutedCall.{ExecutedCall}
use Rattle.fr_playing.specs.declared.play.Played.{Played}
use Rattle.fr_playing.specs.Playing.{IsPlayed, asked_by}
use Rattle.fr_playing.specs.Settled.{IsSettled, executed_by}
use Rattle.fr_runs.specs.declared.fault_line.FaultLine.{FaultLine}
use Rattle.fr_runs.specs.Faulted.{HasFaults, HaveFaults, cycle_at}
use Rattle.fr_runs.specs.Refusing.{Refuses}
use Rattle.fr_runs.specs.Stepping.{IsInTurn, IsStepped, AreStepped}
use Rattle.fr_schedule.specs.Descriptions.{Description}
use Rattle.fr_slots.proofs.PlaceLemmas.{AllAfter-at}
use Rattle.fr_slots.specs.History.{AllAfter, each_after}
use Rattle.fr_slots.specs.Windows.{Opportunity}
use Rattle.std.proofs.lemmas.Option.{get_or_from_slice_get}

-- ---- faults

front_more : {X : Type 0} (xs : List X) (k : ℕ) (x : X) → slice_get xs k ≡ Some x
    → take (k + 1) xs ≡ take k xs ++ x ∷ []
front_more {X = X} xs k x at =
    let place : suc k ≡ k + 1 = omega arith in
    subst (λ (n : ℕ). take n xs ≡ take k xs ++ x ∷ []) place (from xs k at)
  where
    from : (ys : List X) (j : ℕ) → slice_get ys j ≡ Some x → take (suc j) ys ≡ take j ys ++ x ∷ []
    from [] j there = absurd (let none : ⊥ = cc in none)
    from (y ∷ ys) zero there = let same : y ≡ x = cc in ap (λ z. z ∷ []) same
    from (y ∷ ys) (suc j) there = ap (λ (l : List X). y ∷ l) (from ys j there)

faults_at : (lines : List FaultLine) (rs : List Recorded) → AreFaulted lines rs → (k : ℕ) (o : Option Recorded)
    → slice_get rs k ≡ o → IfSome o (HasFaults lines (cycle_at rs k))
faults_at lines rs all k None at = tt
faults_at lines rs all k (Some r) at =
    subst (λ (l : List Recorded). HasFaults lines (cycles_begun l - 1) r) (sym (front_more rs k r at))
    (AllAfter-at (HasFaultsAfter lines) rs k r all at)

have_faults : (lines : List FaultLine) (rs : List Recorded) → AreFaulted lines rs → HaveFaults lines rs
have_faults lines rs all k = faults_at lines rs all k (slice_get rs k) refl

-- ---- steps

module _ (rs : List Recorded) (scripts : List Scripted) where
  turn_at : (node : ℕ) (entries : List Entry) → AllAfter (IsInTurn rs scripts node) [] entries
      → (k : ℕ) (o : Option Entry)
      → slice_get entries k ≡ o → IfSome o (IsInTurn rs scripts node (take k entries))
  turn_at node entries all k None at = tt
  turn_at node entries all k (Some e) at = AllAfter-at (IsInTurn rs scripts node) entries k e all at

  stepped_at : (w : WorldState) → ((m : ℕ) → AllAfter (IsInTurn rs scripts m) [] (interface_at w m).entries)
      → (node : ℕ)
      (o : Option State) → slice_get w.interfaces node ≡ o → IfThere o (IsStepped rs scripts node)
  stepped_at w all node None at = tt
  stepped_at w all node (Some s) at =
      λ k. turn_at node s.entries
      (subst (λ (i : State). AllAfter (IsInTurn rs scripts node) [] i.entries)
      (get_or_from_slice_get w.interfaces node s no_interface at) (all node))
      k (slice_get s.entries k) refl

  stepped : (w : WorldState) → ((m : ℕ) → AllAfter (IsInTurn rs scripts m) [] (interface_at w m).entries)
      → AreStepped rs scripts w.interfaces
  stepped w all node few = stepped_at w all node (slice_get w.interfaces node) refl

-- ---- answers

no_interface_at : (is : List State) (n : ℕ) → slice_get is n ≡ None → get_or is n no_interface ≡ no_interface
no_interface_at [] n none = refl
no_interface_at (i ∷ is) zero none = absurd (let no : ⊥ = cc in no)
no_interface_at (i ∷ is) (suc n) none = no_interface_at is n none

answered_at : (calls : List ExecutedCall) (w : WorldState) → AreTold calls w → (n task : ℕ) (o : Option State)
    → slice_get w.interfaces n ≡ o → calls_in o task ≡ executed_by calls n task
unfolding each_after
answered_at calls w told n task None at =
    subst (Tells task (executed_by calls n task)) (no_interface_at w.interfaces n at) (told n task) []
answered_at calls w told n task (Some s) at =
    told_at_end s task (executed_by calls n task)
    (subst (Tells task (executed_by calls n task)) (get_or_from_slice_get w.interfaces n s no_interface at) (told n
    task))

answered : (calls : List ExecutedCall) (w : WorldState) → AreTold calls w → (n task : ℕ)
    → calls_at w.interfaces n task ≡ executed_by calls n task
answered calls w told n task = answered_at calls w told n task (slice_get w.interfaces n) refl

-- ---- the end

no_window : (o : Option Opportunity) → o ≡ None → is_some o ≡ false
no_window None none = refl
no_window (Some window) none = absurd (let no : ⊥ = cc in no)

finished : (b : BusState) (p : Phase) → b.phase ≡ p → Stands p b → b.opened ≡ None → b.phase ≡ Finished
finished b Collect is stands none = differ stands.1 (no_window b.opened none)
finished b InSealed is stands none = differ stands.1 (no_window b.opened none)
finished b Finished is stands none = is

pub settled_run : (d : Description) (scripts : List Scripted) (lines : List FaultLine) (cycles : ℕ) (played : Played)
    → Refuses d scripts lines cycles None → Headline played.world → IsPlayed d scripts lines cycles played
    → IsSettled d scripts lines cycles played
settled_run d scripts lines cycles played accepted headline is =
    let w : WorldState = played.world in
    let calls : List ExecutedCall = played.calls.items in
    let suits = accepted.1 in
    let all : map asked_of (calls ++ []) ≡ asked_by cycles scripts =
    ap (map asked_of) (append-nil calls) ∙ is.asked in
    let stage : IsStage d scripts lines cycles calls w =
    stage_after d scripts lines cycles suits cycles calls [] w all is.cycles_are in
    let same = stage.sound.cluster in
    record {
      agrees = agrees d cycles scripts suits calls is.asked w stage.made headline.agrees headline.run stage.fresh.idle
          same;
      answers = answered calls w stage.told;
      faults = have_faults lines w.bus.sealed stage.faulted;
      stepped = stepped w.bus.sealed scripts w
          (stage.in_turn w.bus.sealed [] (sym (append-nil w.bus.sealed)));
      harmless = subst (λ (c : Description). IsHarmless c w.interfaces w.bus.sealed) same headline.harmless;
      receivers = subst (λ (c : Description). Receivers c w.interfaces w.bus.sealed) same headline.receivers;
      one_sender = subst (λ (c : Description). OneSenderEach c w.bus.sealed) same headline.one_sender;
      cluster = same;
      run_is = headline.run;
      finished = finished w.bus w.bus.phase refl headline.run.stands is.over;
      cycles_done = stage.begun;
    }
