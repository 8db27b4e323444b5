-- What a call of a task adds to the log of commits.
use Rattle.std.proofs.Common.{◌≡◌, ◌≢◌, ℕ, ◌<◌, Bool, true, false, cond, List, [], ◌∷◌, ◌++◌, length, Option, Some}
use Rattle.std.proofs.Common.{None}
use Rattle.std.proofs.Common.{refl, sym, ap, ap₂, subst, ◌∙◌, append-nil, arith, inl, inr}
use Rattle.std.specs.Prelude.{codes, option_map}
use Rattle.std.specs.List.{All}
use Rattle.std.proofs.lemmas.Bool.Decides.{eqb_tells}
use Rattle.std.proofs.lemmas.Grind.{flat_map-append}
use Rattle.std.proofs.lemmas.List.{get_or-set_same, get_or-set_other, length-set}
use Rattle.std.proofs.lemmas.List.Elements.{All-push}
use Rattle.fr_bus.specs.Record.{Recorded}
use Rattle.fr_bus.specs.Windows.{cycles_begun}
use Rattle.fr_core.proofs.TimingLemmas.{count_more}
use Rattle.fr_journal.specs.Cycles.{begins_cycle_at}
use Rattle.fr_core.specs.Agreement.{IsWorld}
use Rattle.fr_core.specs.declared.error.StepError.TheVariants.{Host, UnknownNode}
use Rattle.fr_core.specs.Steps.{event_of, step_refusal, with_interface}
use Rattle.fr_core.specs.Worlds.{WorldState, interface_at, no_interface}
use Rattle.fr_endless.proofs.AlikeLemmas.{begun_same}
use Rattle.fr_interface.proofs.StandingLemmas.{entries-length, pending-there}
use Rattle.fr_interface.specs.Calls.{call_answer}
use Rattle.fr_interface.specs.declared.call.Answer.{Answer}
use Rattle.fr_interface.specs.declared.call.Call.{Call}
use Rattle.fr_interface.specs.declared.call.Call.TheVariants as host_call
use Rattle.fr_interface.specs.declared.errors.HostError.{HostError}
use Rattle.fr_interface.specs.declared.errors.HostError.TheVariants.{UnknownTask}
use Rattle.fr_interface.specs.Sending.{pending_at}
use Rattle.fr_interface.specs.Standing.{Standing, IsHistory, entries_before}
use Rattle.fr_interface.specs.State.{State, unless_transmit, with_entry}
use Rattle.fr_journal.specs.Fate.{pending_commit}
use Rattle.fr_journal.specs.Forms.{Entry}
use Rattle.fr_live.proofs.LeadLemmas.{as_many, history_at}
use Rattle.fr_live.specs.LiveWorlds.{LiveState, IsWorldHistory, standing_at}
use Rattle.fr_playing.proofs.EntryLemmas.{host_entry}
use Rattle.fr_schedule.specs.Descriptions.{Description}
use Rattle.fr_showing.specs.CommitText.{entries_at}
use Rattle.fr_journal.specs.Cycles.{cycles_of}
use Rattle.fr_slots.proofs.HistoryLemmas.{each_after-snoc}
use Rattle.fr_slots.specs.declared.plan.Buffer.{Buffer}
use Rattle.fr_slots.specs.History.{each_after}
use Rattle.fr_slots.specs.Plans.{buffer_at}
use Rattle.fr_streaming.proofs.LogLemmas.{joined, like_of, lines_kept, node_text, of_node, other_lines, own_lines}
use Rattle.fr_streaming.specs.CommitLog.{commit_after, commit_text, ended_lines, entry_lines, lines_at, node_lines}
use Rattle.fr_streaming.specs.CommitLog.{text_of, AddsToLog}
use Rattle.fr_streaming.specs.declared.log.CallPlace.{CallPlace}
use Rattle.fr_streaming.specs.LogSteps.{call_text, end_text, overwritten_by, place_in, IsBetween, IsSealedIn}

-- ---- the place of a call

-- the pending commit that a call after these entries overwrites
abbrev overwritten_after : List Entry → Call → Option ℕ
overwritten_after es (host_call.Commit buffer payload) = pending_commit buffer es
overwritten_after es (host_call.Withdraw buffer) = None
overwritten_after es (host_call.Read buffer) = None
overwritten_after es host_call.Pop = None

abbrev place_after : List Entry → Call → CallPlace
place_after es call = record { overwritten = overwritten_after es call; entry = length es; cycle = cycles_of es }

free_transmit : (there unknown : Bool) (o : Option HostError)
    → cond there (option_map Host (cond unknown (Some UnknownTask) o)) (Some UnknownNode) ≡ None → o ≡ None
free_transmit true false None free = refl
free_transmit true false (Some error) free = absurd (let none : ⊥ = cc in none)
free_transmit true true o free = absurd (let none : ⊥ = cc in none)
free_transmit false unknown o free = absurd (let none : ⊥ = cc in none)

known_buffer : (s : State) (h : Standing) (buffer : ℕ) (payload : List ℕ) (o : Option Buffer) → IsHistory h s
    → buffer_at s.plan buffer ≡ o → unless_transmit s payload o ≡ None
    → pending_at h.transmit buffer ≡ pending_commit buffer s.entries
known_buffer s h buffer payload None is there free = absurd (let none : ⊥ = cc in none)
known_buffer s h buffer payload (Some line) is there free =
    pending-there h s buffer line is (sym (ap (λ (x : Standing). buffer_at x.plan buffer) is.leaves) ∙ there)

module _ (l : LiveState) (w : WorldState) (history : IsWorldHistory l w) (n : ℕ)
    (within : n < length w.interfaces) where
  abbrev here : State
  here = interface_at w n

  kept : IsHistory (standing_at l n) here
  kept =
      let many = as_many l.interfaces w.interfaces history.leads.interfaces_are in
      history_at w l history.leads n (omega (arith, many, within))

  entry_is : entries_before (standing_at l n) ≡ length here.entries
  entry_is = sym (ap entries_before kept.leaves) ∙ entries-length here

  overwritten_is : (task : ℕ) (call : Call) → step_refusal w (event_of n task call) ≡ None
      → overwritten_by (standing_at l n) call ≡ overwritten_after here.entries call
  overwritten_is task (host_call.Commit buffer payload) free =
      known_buffer here (standing_at l n) buffer payload (buffer_at here.plan buffer) kept refl
      (free_transmit _ _ (unless_transmit here payload (buffer_at here.plan buffer)) free)
  overwritten_is task (host_call.Withdraw buffer) free = refl
  overwritten_is task (host_call.Read buffer) free = refl
  overwritten_is task host_call.Pop free = refl

  pub place_is : (task : ℕ) (call : Call) → step_refusal w (event_of n task call) ≡ None
      → cycles_of here.entries ≡ cycles_begun w.bus.sealed → place_in l n call ≡ place_after here.entries call
  place_is task call free begun =
      let cycle_is : l.bus.bus.course.begun ≡ cycles_of here.entries = sym (begun_same l w history) ∙ sym begun in
      let over = overwritten_is task call free in
      λ i. record { overwritten = over i; entry = entry_is i; cycle = cycle_is i }

-- ---- the text of the lines

joined_ended : (word : List ℕ) (node : ℕ) (o : Option ℕ) (place : CallPlace)
    → joined (ended_lines word node o place.cycle place.entry) ≡ end_text word node o place
joined_ended word node None place = refl
joined_ended word node (Some of) place = append-nil (end_text word node (Some of) place)

-- the lines of a call's entry are those that are written of its answer
pub call_lines : (w : WorldState) (n task : ℕ) (s : State) (call : Call)
    → text_of (of_node n (entry_lines w n s.entries (host_entry s task call)))
    ≡ call_text n task (place_after s.entries call) (call_answer s task call) call
call_lines w n task s (host_call.Commit buffer payload) =
    let place = place_after s.entries (host_call.Commit buffer payload) in
    let ended : List (List ℕ) = ended_lines (codes "overwritten") n place.overwritten place.cycle place.entry in
    let made : List ℕ = commit_text (commit_after n s.entries buffer task payload) in
    node_text n (ended ++ made ∷ [])
    ∙ flat_map-append (λ (l : List ℕ). l) ended (made ∷ [])
    ∙ ap₂ (λ (a b : List ℕ). a ++ b) (joined_ended (codes "overwritten") n place.overwritten place) (append-nil made)
call_lines w n task s (host_call.Withdraw buffer) =
    let place = place_after s.entries (host_call.Withdraw buffer) in
    let of = pending_commit buffer s.entries in
    node_text n (ended_lines (codes "withdrawn") n of place.cycle place.entry)
    ∙ joined_ended (codes "withdrawn") n of place
call_lines w n task s (host_call.Read buffer) = refl
call_lines w n task s host_call.Pop = refl

-- ---- the world after a call

host_sealed : (rs : List Recorded) (s : State) (task : ℕ) (call : Call) → IsSealedIn rs (host_entry s task call)
host_sealed rs s task (host_call.Commit buffer payload) = tt
host_sealed rs s task (host_call.Withdraw buffer) = tt
host_sealed rs s task (host_call.Read buffer) = tt
host_sealed rs s task host_call.Pop = tt

host_begins : (s : State) (task : ℕ) (call : Call) → begins_cycle_at (host_entry s task call) ≡ false
host_begins s task (host_call.Commit buffer payload) = refl
host_begins s task (host_call.Withdraw buffer) = refl
host_begins s task (host_call.Read buffer) = refl
host_begins s task host_call.Pop = refl

cycles_same : (es : List Entry) (e : Entry) → begins_cycle_at e ≡ false → cycles_of (es ++ e ∷ []) ≡ cycles_of es
cycles_same es e none =
    let count = count_more begins_cycle_at es e in
    let nothing : cond {A = ℕ} (begins_cycle_at e) 1 0 ≡ 0 = ap (λ (b : Bool). cond {A = ℕ} b 1 0) none in
    omega (arith, count, nothing)

module _ (d : Description) (w : WorldState) (n task : ℕ) (call : Call) (within : n < length w.interfaces)
    (between : IsBetween d w) where
  abbrev s : State
  s = interface_at w n

  abbrev e : Entry
  e = host_entry s task call

  abbrev after : WorldState
  after = with_interface w n (with_entry s e)

  own_entries : entries_at after n ≡ s.entries ++ e ∷ []
  own_entries = ap (λ (t : State). t.entries) (get_or-set_same w.interfaces n (with_entry s e) no_interface within)

  other_entries : (m : ℕ) → m ≢ n → entries_at after m ≡ entries_at w m
  other_entries m other =
      ap (λ (t : State). t.entries) (get_or-set_other w.interfaces n m (with_entry s e) no_interface other)

  pub between_after : IsWorld after → IsBetween d after
  between_after world = record {
    world = world;
    room = between.room;
    cluster = between.cluster;
    sealed = λ m. elim (eqb_tells m n) [
      | inl own ↦
          subst (λ (k : ℕ). All (IsSealedIn w.bus.sealed) (entries_at after k)) (sym own.1)
          (subst (All (IsSealedIn w.bus.sealed)) (sym own_entries)
          (All-push (IsSealedIn w.bus.sealed) s.entries e (between.sealed n) (host_sealed w.bus.sealed s task call)))
      | inr other ↦ subst (All (IsSealedIn w.bus.sealed)) (sym (other_entries m other.1)) (between.sealed m)
    ];
    begun = λ m below.
        let many = length-set w.interfaces n (with_entry s e) in
        elim (eqb_tells m n) [
          | inl own ↦
              ap (λ (k : ℕ). cycles_of (entries_at after k)) own.1 ∙ ap cycles_of own_entries
              ∙ cycles_same s.entries e (host_begins s task call) ∙ between.begun n within
          | inr other ↦ ap cycles_of (other_entries m other.1) ∙ between.begun m (omega (arith, below, many))
        ];
  }

  kept_lines : IsWorld after → (m : ℕ)
      → each_after (entry_lines after m) [] (entries_at w m) ≡ node_lines w m
  kept_lines world m =
      sym (lines_kept d w after (like_of d w between) (like_of d after (between_after world)) []
      (sym (append-nil w.bus.sealed)) m [] (entries_at w m) (between.sealed m))

  pub lines_after : IsWorld after → (m : ℕ)
      → node_lines after m ≡ node_lines w m ++ lines_at m (of_node n (entry_lines after n s.entries e))
  lines_after world m = elim (eqb_tells m n) [
    | inl own ↦
        subst
        (λ (k : ℕ). node_lines after k
        ≡ node_lines w k ++ lines_at k (of_node n (entry_lines after n s.entries e))) (sym own.1)
        (ap (each_after (entry_lines after n) []) own_entries
        ∙ each_after-snoc (entry_lines after n) s.entries e
        ∙ ap₂ (λ (xs ys : List (List ℕ)). xs ++ ys) (kept_lines world n)
        (sym (own_lines n (entry_lines after n s.entries e))))
    | inr other ↦
        ap (each_after (entry_lines after m) []) (other_entries m other.1)
        ∙ kept_lines world m
        ∙ sym (append-nil (node_lines w m))
        ∙ ap (λ (ls : List (List ℕ)). node_lines w m ++ ls)
        (sym (other_lines n m (entry_lines after n s.entries e) (λ same. other.1 (sym same))))
  ]

-- what a call adds to the log
pub call_logs : (d : Description) (l : LiveState) (w v : WorldState) (n task : ℕ) (call : Call) (reply : Answer)
    → IsWorldHistory l w → n < length w.interfaces → step_refusal w (event_of n task call) ≡ None
    → v ≡ with_interface w n (with_entry (interface_at w n) (host_entry (interface_at w n) task call)) → IsWorld v
    → reply ≡ call_answer (interface_at w n) task call → IsBetween d w
    → IsBetween d v × AddsToLog w v (call_text n task (place_in l n call) reply call)
call_logs d l w v n task call reply history within free v_is world reply_is between =
    let s = interface_at w n in
    let after = with_interface w n (with_entry s (host_entry s task call)) in
    let world_after : IsWorld after = subst IsWorld v_is world in
    let adds : AddsToLog w after (call_text n task (place_in l n call) reply call) = record {
      lines = of_node n (entry_lines after n s.entries (host_entry s task call));
      text_is =
          ap₂ (λ (place : CallPlace) (answer : Answer). call_text n task place answer call)
          (place_is l w history n within task call free (between.begun n within)) reply_is
          ∙ sym (call_lines after n task s call);
      each = lines_after d w n task call within between world_after;
    } in
    subst (λ (u : WorldState). IsBetween d u × AddsToLog w u (call_text n task (place_in l n call) reply call))
    (sym v_is) (between_after d w n task call within between world_after, adds)
