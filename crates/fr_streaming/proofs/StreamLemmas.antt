-- The result of a run in a world without history, from the results of its parts.
use Rattle.std.proofs.Common.{◌≡◌, ◌≤◌, ℕ, ◌&&◌, Bool, true, false, List, [], ◌++◌, length, Option, Some, None, Result}
use Rattle.std.proofs.Common.{Ok, Err, refl, sym, ap, subst, ◌∙◌, append_assoc, append-nil, inl, inr, arith}
use Rattle.std.specs.List.{list_all}
use Rattle.std.specs.Prelude.{min, nat_le, is_some, ◌*◌}
use Rattle.std.proofs.lemmas.Bool.{le-leb, leb-true}
use Rattle.std.proofs.lemmas.List.{length-map}
use Rattle.std.specs.Result.{result_err}
use Rattle.std.specs.Io.KnownBytes.{Appends}
use Rattle.std.proofs.KnownBytes.{Appends-trans, Keeps-refl}
use Rattle.fr_bus.specs.declared.error.BusError.{BusError}
use Rattle.fr_bus.specs.declared.error.BusError.TheVariants.{BadCycles}
use Rattle.fr_bus.specs.Courses.{opportunities}
use Rattle.fr_bus.specs.Live.{cycles_suit, most_live_cycles}
use Rattle.fr_bus.specs.States.{cycles_fit}
use Rattle.fr_core.proofs.CaseLemmas.{both, both_first}
use Rattle.fr_core.specs.declared.event.Event.{Event}
use Rattle.fr_core.specs.Headline.{Headline}
use Rattle.fr_core.specs.Scripts.{Scripted}
use Rattle.fr_core.specs.Worlds.{WorldState}
use Rattle.fr_files.proofs.InputLemmas.{for_text_map}
use Rattle.fr_files.specs.declared.error.BenchError.TheVariants as bench
use Rattle.fr_files.specs.Inputs.{ForText}
use Rattle.fr_files.specs.Outputs.{FallsShort}
use Rattle.fr_live.proofs.LeadLemmas.{as_many}
use Rattle.fr_live.specs.LiveWorlds.{Entries, LiveState, ForEachWorld, IsWorldHistory, OpensLiveWorld}
use Rattle.fr_names.specs.Names.{NamesOfNode}
use Rattle.fr_outcome.specs.declared.file_error.FileError.{FileError}
use Rattle.fr_outcome.specs.declared.file_error.FileError.TheVariants as file
use Rattle.fr_outcome.specs.ScenarioFiles.{IsScenarioOf}
use Rattle.fr_playing.specs.declared.error.PlayError.{PlayError}
use Rattle.fr_playing.specs.declared.error.PlayError.TheVariants as refusal
use Rattle.fr_playing.proofs.PlayLemmas.{all_asked}
use Rattle.fr_playing.specs.declared.call.ExecutedCall.{ExecutedCall}
use Rattle.fr_playing.specs.Moving.{whole_window}
use Rattle.fr_playing.specs.Playing.{PlaysCycles}
use Rattle.fr_playing.specs.Refusals.{failure_of_file}
use Rattle.fr_playing.specs.Windows.{PlaysWindow}
use Rattle.fr_runs.specs.declared.check.RunRefusal.{RunRefusal}
use Rattle.fr_runs.specs.declared.check.RunRefusal.TheVariants as run
use Rattle.fr_runs.specs.declared.fault_line.FaultLine.{FaultLine}
use Rattle.fr_runs.specs.Refusing.{Refuses}
use Rattle.fr_scenario.specs.Contents.{Contents}
use Rattle.fr_schedule.specs.Descriptions.{Description}
use Rattle.fr_slots.specs.Parameters.{Parameters}
use Rattle.fr_slots.specs.Plans.{Plan}
use Rattle.fr_endless.proofs.AlikeLemmas.{opened_same}
use Rattle.fr_endless.specs.Alike.{Alike}
use Rattle.fr_streaming.proofs.LedLemmas.{executes_none, whole_silent}
use Rattle.fr_streaming.proofs.LogLemmas.{plan_of, plans_are}
use Rattle.fr_streaming.proofs.TellLemmas.{tells_none, told_after, window_told, Leads}
use Rattle.fr_streaming.specs.declared.hindrance.Hindrance.{Hindrance}
use Rattle.fr_streaming.specs.declared.hindrance.Hindrance.TheVariants as hindrance
use Rattle.fr_streaming.specs.declared.log.NodeOffers.{NodeOffers}
use Rattle.fr_streaming.specs.declared.telling.Streamed.{Streamed}
use Rattle.fr_streaming.specs.declared.stream.StreamNotes.{StreamNotes}
use Rattle.fr_streaming.specs.Runs.{error_of, kept_refusal, most_entries, opening, AddsStream, ChecksStream, Cuts}
use Rattle.fr_streaming.specs.Runs.{cycles_named, CutsRun, CutsStream, CutsText, OpensStream, RefusesStream}
use Rattle.fr_streaming.specs.Runs.{AreNotes}
use Rattle.fr_streaming.specs.Runs.{Streams, TellsRun, TellsStream}
use Rattle.fr_streaming.specs.Streams.{is_silent, offers_for, told_closing, told_last, told_opening, Breaks, Closes}
use Rattle.fr_streaming.specs.Streams.{ClosesShort, Goes, IsTold, TellsBetween, WithoutCalls}

-- ---- the world

pub opened_ok : (d : Description) (cycles : ℕ) (room : Entries) (r : Result LiveState BusError) (l : LiveState)
    → r ≡ Ok l → room ≡ most_entries → OpensLiveWorld d cycles room r → OpensStream d cycles (Ok l)
opened_ok d cycles room r l is room_is opens =
    subst (λ (e : Entries). OpensLiveWorld d cycles e (Ok l)) room_is
    (subst (OpensLiveWorld d cycles room) is opens)

pub opened_bad : (d : Description) (cycles : ℕ) (room : Entries) (r : Result LiveState BusError)
    → r ≡ Err BadCycles → OpensLiveWorld d cycles room r
    → OpensStream d cycles (Err (refusal.Run run.BadCycles))
opened_bad d cycles room r is opens = (subst (OpensLiveWorld d cycles room) is opens).0

-- ---- the check

module _ (d : Description) (s : Contents) (named : ℕ) where
  checked_of : (r : Result (Unit {0}) RunRefusal) → Refuses d s.scripts s.faults named (result_err r)
      → ChecksStream d s named (kept_refusal r)
  checked_of (Ok done) refuses = (refuses.0, refuses.1, refuses.2)
  checked_of (Err run.BadCycles) refuses = refuses
  checked_of (Err (run.BadScript i)) refuses = refuses.1
  checked_of (Err (run.BadFault i)) refuses = (refuses.1, refuses.2)
  checked_of (Err (run.NoRoom n)) refuses = (refuses.0, refuses.1, refuses.2)

  pub checked : (r : Result (Unit {0}) RunRefusal) (scripts : List Scripted) (faults : List FaultLine)
      (answer : Result (Unit {0}) PlayError) → scripts ≡ s.scripts → faults ≡ s.faults → answer ≡ kept_refusal r
      → Refuses d scripts faults named (result_err r) → ChecksStream d s named answer
  checked r scripts faults answer scripts_are faults_are is refuses =
      subst (ChecksStream d s named) (sym is)
      (checked_of r (subst (λ (ss : List Scripted). Refuses d ss s.faults named (result_err r)) scripts_are
      (subst (λ (fs : List FaultLine). Refuses d scripts fs named (result_err r)) faults_are refuses)))

named_some : (n m : ℕ) → 1 ≤ n → m ≡ min n 1024 → cycles_fit m ≡ true
named_some n m some is =
    let least : 1 ≤ m = omega (arith, some, is) in
    let most : m ≤ 1024 = omega (arith, is) in
    both (nat_le 1 m) (nat_le m 1024) (le-leb 1 m least) (le-leb m 1024 most)

-- the cycles that a scenario can name are a number of cycles of a run with history
pub named_fit : (p : Parameters) (cycles : ℕ) → cycles_suit p cycles ≡ true → cycles_fit (min cycles 1024) ≡ true
named_fit p cycles suits =
    named_some cycles (min cycles 1024)
    (leb-true 1 cycles (both_first (nat_le 1 cycles) (nat_le cycles most_live_cycles)
    (both_first (nat_le 1 cycles && nat_le cycles most_live_cycles) (nat_le (cycles * opportunities p) 1610612734)
    suits))) refl

-- ---- why there is no run

module _ (d : Description) (s : Contents) (cycles : ℕ) where
  pub not_opened : (e : PlayError) → OpensStream d cycles (Err e) → TellsRun d s cycles (Err e)
  not_opened (refusal.Run run.BadCycles) opens = opens
  not_opened (refusal.Run (run.BadScript i)) opens = absurd opens
  not_opened (refusal.Run (run.BadFault i)) opens = absurd opens
  not_opened (refusal.Run (run.NoRoom n)) opens = absurd opens
  not_opened (refusal.Text bench.Memory) opens = tt
  not_opened (refusal.Text bench.TooLong) opens = absurd opens
  not_opened (refusal.Text bench.Read) opens = absurd opens
  not_opened (refusal.Text bench.Write) opens = absurd opens
  not_opened (refusal.Text bench.BadNumber) opens = absurd opens
  not_opened (refusal.Text (bench.Config e)) opens = absurd opens
  not_opened (refusal.Text (bench.Midpoint e)) opens = absurd opens
  not_opened (refusal.Scenario e) opens = absurd opens
  not_opened (refusal.Step e) opens = absurd opens
  not_opened refusal.Unfinished opens = absurd opens
  not_opened refusal.UnknownNode opens = absurd opens

  pub not_checked : (e : PlayError) → cycles_suit d.params cycles ≡ true → cycles_fit (min cycles 1024) ≡ true
      → ChecksStream d s (min cycles 1024) (Err e) → TellsRun d s cycles (Err e)
  not_checked (refusal.Run run.BadCycles) suits fits checks = absurd (let none : ⊥ = cc in none)
  not_checked (refusal.Run (run.BadScript i)) suits fits checks = (suits, checks)
  not_checked (refusal.Run (run.BadFault i)) suits fits checks = (suits, checks.0, checks.1)
  not_checked (refusal.Run (run.NoRoom n)) suits fits checks = absurd checks
  not_checked (refusal.Text e) suits fits checks = absurd checks
  not_checked (refusal.Scenario e) suits fits checks = absurd checks
  not_checked (refusal.Step e) suits fits checks = absurd checks
  not_checked refusal.Unfinished suits fits checks = absurd checks
  not_checked refusal.UnknownNode suits fits checks = absurd checks

  pub not_refused : cycles_suit d.params cycles ≡ true → ChecksStream d s (min cycles 1024) (Ok tt)
      → RefusesStream d s cycles None
  not_refused suits checks = (suits, checks.1, checks.2)

  pub hindered : (h : Hindrance) → RefusesStream d s cycles None → TellsRun d s cycles (Err (error_of h))
  hindered (hindrance.Step e) free = free
  hindered hindrance.Unfinished free = free
  hindered hindrance.Memory free = tt
  hindered hindrance.Write free = free

pub none_of : {A : Type 0} (o : Option A) (b : Bool) → b ≡ is_some o → b ≡ false → o ≡ None
none_of None b is none = refl
none_of (Some x) b is none = absurd (let no : ⊥ = cc in no)

-- ---- a window

-- there is room for the offers of all nodes
few_nodes : (l : LiveState) (w : WorldState) → IsWorldHistory l w → length l.interfaces ≤ 16
few_nodes l w is =
    let many = as_many l.interfaces w.interfaces is.leads.interfaces_are in
    let plans = ap (length {A = Plan}) (plans_are w is.world_is) in
    let each = length-map w.interfaces plan_of in
    omega (arith, many, plans, each, is.leads.bus_is.of_bus.run.lawful.few_nodes)

-- the kept data after a window have the text of each way that leads there
pub window_shows : (streamed : Streamed) (s : Contents) (d : Description) (cycle : ℕ) (faults : List FaultLine)
    (due : List Event) (l n : LiveState) (os : List NodeOffers) → due ≡ whole_window (length d.plans)
    → (length l.interfaces ≤ 16 → os ≡ offers_for streamed l) → Alike l (λ w v. PlaysWindow cycle faults due w v) n
    → Alike l (λ w v. (calls : List ExecutedCall) × WithoutCalls (PlaysWindow cycle faults due) w calls v
    × TellsBetween streamed s d w calls v (told_last streamed s d n.bus.bus.course.begun n.bus.last os)) n
window_shows streamed s d cycle faults due l n os due_is os_are plays w is =
    let (v, one, end) = plays w is in (
      v,
      (
        [],
        (refl, one),
        subst
            (λ (offers : List NodeOffers). TellsBetween streamed s d w [] v
            (told_last streamed s d n.bus.bus.course.begun n.bus.last offers))
            (sym (os_are (few_nodes l w is)))
            (window_told s d streamed cycle (length d.plans) faults l n w v refl
            (subst (λ (es : List Event). PlaysWindow cycle faults es w v) due_is one) is end),
      ),
      end,
    )

-- the events that are due in a window have no call of a task
pub due_silent : (due : List Event) (nodes : ℕ) → due ≡ whole_window nodes → list_all is_silent due ≡ true
due_silent due nodes is = ap (list_all is_silent) is ∙ whole_silent nodes

-- ---- the whole run

module _ (streamed : Streamed) (d : Description) (s : Contents) (cycles : ℕ) where
  pub streamed_all : (due : List Event) (l n : LiveState) (a b c e : Option (List ℕ))
      → due ≡ whole_window (length d.plans) → OpensStream d cycles (Ok l) → Appends a b (told_opening streamed)
      → Goes (TellsBetween streamed s d) (PlaysCycles s.scripts s.faults due cycles) l b c n
      → n.bus.bus.opened ≡ None → ForEachWorld n Headline → Closes streamed n c e → AddsStream d cycles streamed s a e
  streamed_all due l n a b c e due_is opens begins goes over headline closes =
      let (text, adds, each) = goes in
      let (closing, ends, closing_is) = closes in
      let (v, (calls, plays, tells), is) = each (opening d cycles) opens.1 in (
        v,
        calls,
        record {
          cycles_are = subst
              (λ (es : List Event). PlaysCycles s.scripts s.faults es cycles (opening d cycles) calls v) due_is plays;
          asked = all_asked s.scripts s.faults due cycles calls (opening d cycles) v plays;
          over = opened_same n v is ∙ over;
          headline = headline v is;
        },
        (
          (told_opening streamed ++ text) ++ told_closing streamed v,
          told_after s d streamed cycles calls v text opens.1.world_is tells,
          subst (λ (t : List ℕ). Appends a e ((told_opening streamed ++ text) ++ t)) (closing_is v is)
              (Appends-trans a c e (told_opening streamed ++ text) closing
              (Appends-trans a b c (told_opening streamed) text begins adds) ends),
        ),
      )

-- ---- what was written before an error

module _ (d : Description) (s : Contents) (cycles : ℕ) (streamed : Streamed) where
  pub cuts_of : (l : LiveState) (a b c : Option (List ℕ)) → OpensStream d cycles (Ok l)
      → Appends a b (told_opening streamed) → Breaks (TellsBetween streamed s d) l b c
      → Cuts d s cycles streamed a c
  cuts_of l a b c opens begins breaks =
      let (text, adds, each) = breaks in
      let (v, calls, rest, executes, tells) = each (opening d cycles) opens.1 in
      let begun = told_opening streamed in
      let closing = told_closing streamed v in (
        v,
        calls,
        begun ++ text,
        rest ++ closing,
        executes,
        subst (IsTold streamed s d v calls)
            (ap (λ (t : List ℕ). t ++ closing) (sym (append_assoc begun text rest))
            ∙ append_assoc (begun ++ text) rest closing)
            (told_after s d streamed cycles calls v (text ++ rest) opens.1.world_is tells),
        Appends-trans a b c begun text begins adds,
      )

  pub cuts_opening : (l : LiveState) (a b : Option (List ℕ)) → OpensStream d cycles (Ok l)
      → FallsShort a b (told_opening streamed) → Cuts d s cycles streamed a b
  cuts_opening l a b opens short =
      let (front, rest, is, missing, adds) = short in
      let start = opening d cycles in
      let closing = told_closing streamed start in (
        start,
        [],
        front,
        rest ++ closing,
        executes_none start,
        subst (IsTold streamed s d start [])
            (ap (λ (t : List ℕ). t ++ closing) (append-nil (told_opening streamed) ∙ is)
            ∙ append_assoc front rest closing)
            (told_after s d streamed cycles [] start [] opens.1.world_is (tells_none s d streamed start)),
        adds,
      )

  pub cuts_closing : (R : WorldState → List ExecutedCall → WorldState → Type 0) (l n : LiveState)
      (a b c e : Option (List ℕ)) → OpensStream d cycles (Ok l) → Appends a b (told_opening streamed)
      → Goes (TellsBetween streamed s d) R l b c n → Leads R → ClosesShort streamed n c e
      → Cuts d s cycles streamed a e
  cuts_closing R l n a b c e opens begins goes leads closes =
      let (text, adds, each) = goes in
      let (front, ends, short) = closes in
      let (v, (calls, one, tells), is) = each (opening d cycles) opens.1 in
      let (rest, closing_is) = short v is in
      let begun = told_opening streamed in (
        v,
        calls,
        (begun ++ text) ++ front,
        rest,
        leads (opening d cycles) calls v one,
        subst (IsTold streamed s d v calls)
            (ap (λ (t : List ℕ). (begun ++ text) ++ t) (sym closing_is)
            ∙ sym (append_assoc (begun ++ text) front rest))
            (told_after s d streamed cycles calls v text opens.1.world_is tells),
        Appends-trans a c e (begun ++ text) front (Appends-trans a b c begun text begins adds) ends,
      )

  pub cuts_hindered : (h : Hindrance) (a b : Option (List ℕ)) → Cuts d s cycles streamed a b
      → CutsRun d s cycles streamed a b (error_of h)
  cuts_hindered (hindrance.Step e) a b cuts = cuts
  cuts_hindered hindrance.Unfinished a b cuts = cuts
  cuts_hindered hindrance.Memory a b cuts = inr cuts
  cuts_hindered hindrance.Write a b cuts = cuts

  pub cuts_unopened : (e : PlayError) (a : Option (List ℕ)) → OpensStream d cycles (Err e)
      → CutsRun d s cycles streamed a a e
  cuts_unopened (refusal.Run e) a opens = Keeps-refl a
  cuts_unopened (refusal.Text bench.Memory) a opens = inl (Keeps-refl a)
  cuts_unopened (refusal.Text bench.TooLong) a opens = absurd opens
  cuts_unopened (refusal.Text bench.Read) a opens = absurd opens
  cuts_unopened (refusal.Text bench.Write) a opens = absurd opens
  cuts_unopened (refusal.Text bench.BadNumber) a opens = absurd opens
  cuts_unopened (refusal.Text (bench.Config e)) a opens = absurd opens
  cuts_unopened (refusal.Text (bench.Midpoint e)) a opens = absurd opens
  cuts_unopened (refusal.Scenario e) a opens = absurd opens
  cuts_unopened (refusal.Step e) a opens = absurd opens
  cuts_unopened refusal.Unfinished a opens = absurd opens
  cuts_unopened refusal.UnknownNode a opens = absurd opens

  pub cuts_unchecked : (e : PlayError) (named : ℕ) (a : Option (List ℕ)) → ChecksStream d s named (Err e)
      → CutsRun d s cycles streamed a a e
  cuts_unchecked (refusal.Run e) named a checks = Keeps-refl a
  cuts_unchecked (refusal.Text e) named a checks = absurd checks
  cuts_unchecked (refusal.Scenario e) named a checks = absurd checks
  cuts_unchecked (refusal.Step e) named a checks = absurd checks
  cuts_unchecked refusal.Unfinished named a checks = absurd checks
  cuts_unchecked refusal.UnknownNode named a checks = absurd checks

-- ---- the file

module _ (d : Description) (names : List NamesOfNode) (cycles : ℕ) where
  not_read : (A : Type 0) (text : List ℕ) (e : FileError) → IsScenarioOf names (cycles_named cycles) text (Err e)
      → TellsStream {A = A} d names cycles text (Err (failure_of_file e))
  not_read A text (file.Scenario e) is = is
  not_read A text (file.Text bench.TooLong) is = is
  not_read A text (file.Text bench.Read) is = tt
  not_read A text (file.Text bench.Memory) is = tt
  not_read A text (file.Text bench.Write) is = absurd is
  not_read A text (file.Text bench.BadNumber) is = absurd is
  not_read A text (file.Text (bench.Config e)) is = absurd is
  not_read A text (file.Text (bench.Midpoint e)) is = absurd is

  pub file_refused : (A : Type 0) (text : Option (List ℕ)) (e : FileError)
      → ForText text (λ t. IsScenarioOf names (cycles_named cycles) t (Err e))
      → ForText text (λ t. TellsStream {A = A} d names cycles t (Err (failure_of_file e)))
  file_refused A text e is =
      for_text_map text (λ t. IsScenarioOf names (cycles_named cycles) t (Err e))
      (λ t. TellsStream {A = A} d names cycles t (Err (failure_of_file e)))
      (λ t here. not_read A t e here) is

  told_of : (A : Type 0) (s : Contents) (text : List ℕ) (e : PlayError)
      → IsScenarioOf names (cycles_named cycles) text (Ok s)
      → TellsRun d s cycles (Err e) → TellsStream {A = A} d names cycles text (Err e)
  told_of A s text (refusal.Run e) read tells_run = (read.0, (s, read.1, tells_run))
  told_of A s text (refusal.Step e) read tells_run = (read.0, (s, read.1, tells_run))
  told_of A s text refusal.Unfinished read tells_run = (read.0, (s, read.1, tells_run))
  told_of A s text refusal.UnknownNode read tells_run = absurd tells_run
  told_of A s text (refusal.Scenario e) read tells_run = absurd tells_run
  told_of A s text (refusal.Text bench.Write) read tells_run = (read.0, (s, read.1, tells_run))
  told_of A s text (refusal.Text bench.Memory) read tells_run = tt
  told_of A s text (refusal.Text bench.Read) read tells_run = absurd tells_run
  told_of A s text (refusal.Text bench.TooLong) read tells_run = absurd tells_run
  told_of A s text (refusal.Text bench.BadNumber) read tells_run = absurd tells_run
  told_of A s text (refusal.Text (bench.Config e)) read tells_run = absurd tells_run
  told_of A s text (refusal.Text (bench.Midpoint e)) read tells_run = absurd tells_run

  pub file_told : {A : Type 0} (s : Contents) (text : Option (List ℕ)) (x : A)
      → ForText text (λ t. IsScenarioOf names (cycles_named cycles) t (Ok s)) → TellsRun d s cycles (Ok tt)
      → ForText text (λ t. TellsStream d names cycles t (Ok x))
  file_told s text x read tells_run =
      for_text_map text (λ t. IsScenarioOf names (cycles_named cycles) t (Ok s))
      (λ t. TellsStream d names cycles t (Ok x)) (λ t here. (here.0, (s, here.1, tells_run))) read

  pub file_untold : (A : Type 0) (s : Contents) (text : Option (List ℕ)) (e : PlayError)
      → ForText text (λ t. IsScenarioOf names (cycles_named cycles) t (Ok s)) → TellsRun d s cycles (Err e)
      → ForText text (λ t. TellsStream {A = A} d names cycles t (Err e))
  file_untold A s text e read tells_run =
      for_text_map text (λ t. IsScenarioOf names (cycles_named cycles) t (Ok s))
      (λ t. TellsStream {A = A} d names cycles t (Err e)) (λ t here. told_of A s t e here tells_run) read

  pub file_streamed : (streamed : Streamed) (s : Contents) (text a b : Option (List ℕ)) (notes : StreamNotes)
      → ForText text (λ t. IsScenarioOf names (cycles_named cycles) t (Ok s)) → AddsStream d cycles streamed s a b
      → AreNotes s notes → ForText text (Streams d names cycles streamed a b notes)
  file_streamed streamed s text a b notes read adds are =
      for_text_map text (λ t. IsScenarioOf names (cycles_named cycles) t (Ok s))
      (Streams d names cycles streamed a b notes) (λ t here. (s, here.1, adds, are)) read

  -- ---- what was written before its error

  pub file_cut : (streamed : Streamed) (text a : Option (List ℕ)) (e : FileError)
      → ForText text (λ t. IsScenarioOf names (cycles_named cycles) t (Err e))
      → CutsStream d names cycles streamed text a a (failure_of_file e)
  file_cut streamed text a (file.Scenario e) is = Keeps-refl a
  file_cut streamed text a (file.Text bench.TooLong) is = Keeps-refl a
  file_cut streamed text a (file.Text bench.Read) is = Keeps-refl a
  file_cut streamed text a (file.Text bench.Memory) is = inl (Keeps-refl a)
  file_cut streamed text a (file.Text bench.Write) is =
      for_text_map text (λ t. IsScenarioOf names (cycles_named cycles) t (Err (file.Text bench.Write)))
      (CutsText d names cycles streamed a a (refusal.Text bench.Write)) (λ t here. absurd here) is
  file_cut streamed text a (file.Text bench.BadNumber) is =
      for_text_map text (λ t. IsScenarioOf names (cycles_named cycles) t (Err (file.Text bench.BadNumber)))
      (CutsText d names cycles streamed a a (refusal.Text bench.BadNumber)) (λ t here. absurd here) is
  file_cut streamed text a (file.Text (bench.Config e)) is =
      for_text_map text (λ t. IsScenarioOf names (cycles_named cycles) t (Err (file.Text (bench.Config e))))
      (CutsText d names cycles streamed a a (refusal.Text (bench.Config e))) (λ t here. absurd here) is
  file_cut streamed text a (file.Text (bench.Midpoint e)) is =
      for_text_map text (λ t. IsScenarioOf names (cycles_named cycles) t (Err (file.Text (bench.Midpoint e))))
      (CutsText d names cycles streamed a a (refusal.Text (bench.Midpoint e))) (λ t here. absurd here) is

  module _ (streamed : Streamed) (s : Contents) (text a b : Option (List ℕ))
      (read : ForText text (λ t. IsScenarioOf names (cycles_named cycles) t (Ok s))) where
    cut_in : (e : PlayError) → CutsRun d s cycles streamed a b e → ForText text (CutsText d names cycles streamed a b e)
    cut_in e cuts =
        for_text_map text (λ t. IsScenarioOf names (cycles_named cycles) t (Ok s))
        (CutsText d names cycles streamed a b e)
        (λ t here. (s, here.1, cuts)) read

    cut_by_memory : CutsRun d s cycles streamed a b (refusal.Text bench.Memory)
        → CutsStream d names cycles streamed text a b (refusal.Text bench.Memory)
    cut_by_memory (inl keeps) = inl keeps
    cut_by_memory (inr cuts) = inr (cut_in (refusal.Text bench.Memory) (inr cuts))

    pub cut_of : (e : PlayError) → CutsRun d s cycles streamed a b e → CutsStream d names cycles streamed text a b e
    cut_of (refusal.Scenario e) cuts = cuts
    cut_of (refusal.Text bench.Read) cuts = cuts
    cut_of (refusal.Text bench.TooLong) cuts = cuts
    cut_of (refusal.Text bench.Memory) cuts = cut_by_memory cuts
    cut_of (refusal.Text bench.Write) cuts = cut_in (refusal.Text bench.Write) cuts
    cut_of (refusal.Text bench.BadNumber) cuts = cut_in (refusal.Text bench.BadNumber) cuts
    cut_of (refusal.Text (bench.Config e)) cuts = cut_in (refusal.Text (bench.Config e)) cuts
    cut_of (refusal.Text (bench.Midpoint e)) cuts = cut_in (refusal.Text (bench.Midpoint e)) cuts
    cut_of (refusal.Run e) cuts = cut_in (refusal.Run e) cuts
    cut_of (refusal.Step e) cuts = cut_in (refusal.Step e) cuts
    cut_of refusal.Unfinished cuts = cut_in refusal.Unfinished cuts
    cut_of refusal.UnknownNode cuts = cut_in refusal.UnknownNode cuts
