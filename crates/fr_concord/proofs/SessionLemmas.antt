-- The lines of a session determine its replies and its state.
use Rattle.std.proofs.Common.{◌⊎◌, ◌≡◌, ◌≢◌, ◌↔◌, ℕ, ◌+◌, Bool, true, false, inl, inr, List, [], ◌∷◌, ◌++◌, length}
use Rattle.std.proofs.Common.{Option, Some, None, refl, sym, ap, subst, ◌∙◌, slice_get, IsTrue}
use Rattle.fr_bus.specs.declared.error.BusError.TheVariants.{Memory}
use Rattle.fr_bus.specs.Record.{Recorded}
use Rattle.fr_bus.specs.States.{BusState}
use Rattle.fr_concord.proofs.MoveLemmas.{moved_same, passes_same}
use Rattle.fr_concord.proofs.StepLemmas.{one_step, seals_last, window_last}
use Rattle.fr_concord.specs.Determined.{refusal_text, HasMemory, IsUnhindered, IsPastOffers, HasShortCycles}
use Rattle.fr_concord.specs.Determined.{MovesFreely, ServesFreely, AreSessionsDetermined}
use Rattle.fr_core.specs.declared.error.StepError.{StepError}
use Rattle.fr_core.specs.declared.error.StepError.TheVariants.{Bus}
use Rattle.fr_core.specs.declared.event.Event.{Event}
use Rattle.fr_core.specs.declared.event.Event.TheVariants.{Read, Pop}
use Rattle.fr_core.specs.Runs.{Answer}
use Rattle.fr_core.specs.Steps.{Steps}
use Rattle.fr_core.specs.Worlds.{WorldState, has_node, interface_at}
use Rattle.fr_interface.specs.State.{oldest_of, received_by}
use Rattle.fr_journal.specs.declared.entry.Arrival.{Arrival}
use Rattle.fr_lines.specs.declared.versions.Version.TheVariants.{Three}
use Rattle.fr_playing.specs.Moving.{MovesOn, RunsCycles, window_events}
use Rattle.fr_runs.specs.declared.fault_line.FaultLine.{FaultLine}
use Rattle.fr_runs.specs.Suiting.{IsFaultAfter}
use Rattle.fr_schedule.specs.Descriptions.{Description}
use Rattle.fr_session.specs.declared.noted.Noted.{Noted}
use Rattle.fr_session.specs.declared.request.Request.{Request}
use Rattle.fr_session.specs.declared.request.Request.TheVariants as request
use Rattle.fr_session.specs.Keeping.{AreFaultsAfter, KeepsIf}
use Rattle.fr_session.specs.Latest.{is_fresh, place_of}
use Rattle.fr_session.specs.Queries.{now_text, moved_text, memory_text, IsBlock, IsBlockIf, IsRecordOf, sealed_text}
use Rattle.fr_session.specs.Reading.{asked_in}
use Rattle.fr_session.specs.Replies.{answer_text, receipt_text}
use Rattle.fr_session.specs.Sessions.{SessionState, after_receipt, state_of, DoesRequest, DoesIf, terms_of}
use Rattle.fr_trace.specs.ReportText.{report_text}
use Rattle.fr_trace.specs.TraceText.{trace_text}

-- the reply and the state are the same
abbrev AreSame : (a b : List ℕ) (x y : SessionState) → Type 0
AreSame a b x y = (a ≡ b) × (x ≡ y)

by_parts : (x y : SessionState) → x.world ≡ y.world → x.noted ≡ y.noted → x ≡ y
by_parts x y world noted =
    ap (λ (w : WorldState). state_of w x.noted) world ∙ ap (λ (n : Noted). state_of y.world n) noted

noted_same : (x y : Noted) → x.faults ≡ y.faults → x.latest ≡ y.latest → x ≡ y
noted_same x y faults latest = λ i. record { faults = faults i; latest = latest i }

-- ---- events

event_same : (old : WorldState) (event : Event) (a b : Answer) (x y : WorldState) → Steps old event a x
    → Steps old event b y → answer_text a ≢ refusal_text (Bus Memory) → answer_text b ≢ refusal_text (Bus Memory)
    → (a ≡ b) × (x ≡ y)
event_same old event a b x y first second memory memory' =
    elim (one_step old event a b x y first second) [
      | inl same ↦ same
      | inr starved ↦
          elim starved [
            | inl s ↦ absurd (memory (ap answer_text s.told))
            | inr s ↦ absurd (memory' (ap answer_text s.told))
          ]
    ]

-- the frame that is looked at before the step is the same
receipt_same : (old : WorldState) (event : Event) (a b : Answer) (x y : WorldState) (fresh : Bool)
    (arrival : Option Arrival) → Steps old event a x → Steps old event b y
    → receipt_text fresh arrival a ≢ refusal_text (Bus Memory)
    → receipt_text fresh arrival b ≢ refusal_text (Bus Memory) → (a ≡ b) × (x ≡ y)
receipt_same old event a b x y fresh arrival first second memory memory' =
    elim (one_step old event a b x y first second) [
      | inl same ↦ same
      | inr starved ↦
          elim starved [
            | inl s ↦ absurd (memory (ap (receipt_text fresh arrival) s.told))
            | inr s ↦ absurd (memory' (ap (receipt_text fresh arrival) s.told))
          ]
    ]

-- ---- fault lines

fault_same : (suits suits' : Bool) (old new new' more : List FaultLine) (a b : List ℕ)
    → suits ≡ suits' → KeepsIf suits old more a new → KeepsIf suits' old more b new' → a ≢ memory_text
    → b ≢ memory_text → (a ≡ b) × (new ≡ new')
fault_same true true old new new' more a b same (inl first) (inl second) memory memory' =
    (first.0 ∙ sym second.0, first.1 ∙ sym second.1)
fault_same true true old new new' more a b same (inl first) (inr second) memory memory' = absurd (memory' second.0)
fault_same true true old new new' more a b same (inr first) second memory memory' = absurd (memory first.0)
fault_same true false old new new' more a b same first second memory memory' = absurd (let none : ⊥ = cc same in none)
fault_same false true old new new' more a b same first second memory memory' = absurd (let none : ⊥ = cc same in none)
fault_same false false old new new' more a b same first second memory memory' =
    (first.0 ∙ sym second.0, first.1 ∙ sym second.1)

one_truth : (P : Type 0) (p q : Bool) → (IsTrue p ↔ P) → (IsTrue q ↔ P) → p ≡ q
one_truth P true true first second = refl
one_truth P true false first second = sym (second.1 (first.0 refl))
one_truth P false true first second = first.1 (second.0 refl)
one_truth P false false first second = refl

-- ---- queries

block_same : (lines a b : List ℕ) → IsBlock lines a → IsBlock lines b → a ≢ memory_text → b ≢ memory_text → a ≡ b
block_same lines a b (inl first) (inl second) memory memory' = first ∙ sym second
block_same lines a b (inl first) (inr second) memory memory' = absurd (memory' second)
block_same lines a b (inr first) second memory memory' = absurd (memory first)

block_if_same : (known : Bool) (lines a b : List ℕ) → IsBlockIf known lines a → IsBlockIf known lines b
    → a ≢ memory_text → b ≢ memory_text → a ≡ b
block_if_same true lines a b first second memory memory' = block_same lines a b first second memory memory'
block_if_same false lines a b first second memory memory' = first ∙ sym second

record_same : (r : Option Recorded) (a b : List ℕ) → IsRecordOf r a → IsRecordOf r b → a ≢ memory_text
    → b ≢ memory_text → a ≡ b
record_same None a b first second memory memory' = first ∙ sym second
record_same (Some r) a b first second memory memory' = block_same (sealed_text r) a b first second memory memory'

-- ---- moves

-- a request that isn't refused was not hindered
unhindered : (hinders : Option StepError) (b : BusState) (reply : List ℕ) → reply ≡ moved_text hinders b
    → IsUnhindered reply → hinders ≡ None
unhindered None b reply is free = refl
unhindered (Some e) b reply is free = absurd (free e is)

module _ (faults : List FaultLine) (due : List Event) (last_is : seals_last due ≡ true) where
  is_free : (h : Option StepError) (x : WorldState) (a : List ℕ) → a ≡ moved_text h x.bus
      → IsUnhindered a ⊎ IsPastOffers x.bus → (h ≡ None) ⊎ IsPastOffers x.bus
  is_free h x a is (inl free) = inl (unhindered h x.bus a is free)
  is_free h x a is (inr past) = inr past

  window_same : (old x y : WorldState) (h k : Option StepError) (a b : List ℕ) → MovesOn faults due old h x
      → MovesOn faults due old k y → a ≡ moved_text h x.bus → b ≡ moved_text k y.bus
      → IsUnhindered a ⊎ IsPastOffers x.bus → IsUnhindered b ⊎ IsPastOffers y.bus → (a ≡ b) × (x ≡ y)
  window_same old x y h k a b first second is is' free free' =
      let same = moved_same faults due last_is old x y h k first second (is_free h x a is free)
      (is_free k y b is' free') in (
        is ∙ ap (λ (o : Option StepError). moved_text o x.bus) same.0
            ∙ ap (λ (w : WorldState). moved_text k w.bus) same.1 ∙ sym is',
        same.1,
      )

  run_same : (cycles : ℕ) (old x y : WorldState) (h k : Option StepError) (a b : List ℕ)
      → RunsCycles faults due cycles old h x → RunsCycles faults due cycles old k y
      → a ≡ moved_text h x.bus → b ≡ moved_text k y.bus → IsUnhindered a → IsUnhindered b
      → HasShortCycles faults due old → (a ≡ b) × (x ≡ y)
  run_same cycles old x y None None a b first second is is' free free' short =
      let same = passes_same faults due last_is cycles old x y short first second in
      (is ∙ ap (λ (w : WorldState). now_text w.bus) same ∙ sym is', same)
  run_same cycles old x y None (Some e) a b first second is is' free free' short = absurd (free' e is')
  run_same cycles old x y (Some e) k a b first second is is' free free' short = absurd (free e is)

-- ---- one line

unchanged : (old x y : SessionState) (a b : List ℕ) → x ≡ old → y ≡ old → a ≡ b → AreSame a b x y
unchanged old x y a b first second same = (same, first ∙ sym second)

module _ (d : Description) (cycles : ℕ) where
  request_same : (old : SessionState) (asked : Request) (a b : List ℕ) (x y : SessionState)
      → DoesRequest (terms_of d cycles) old asked a x → DoesRequest (terms_of d cycles) old asked b y
      → HasMemory a → HasMemory b → MovesFreely (terms_of d cycles) old x (Some asked) a
      → MovesFreely (terms_of d cycles) old y (Some asked) b → AreSame a b x y
  request_same old (request.Event event) a b x y first second memory memory' free free' =
      let (answer, step, is, kept) = first in
      let (answer', step', is', kept') = second in
      let same = event_same old.world event answer answer' x.world y.world step step'
      (λ e. memory.of_bus (is ∙ e)) (λ e. memory'.of_bus (is' ∙ e)) in
      (is ∙ ap answer_text same.0 ∙ sym is', by_parts x y same.1 (kept ∙ sym kept'))
  request_same old (request.Receive node task buffer) a b x y first second memory memory' free free' =
      let (answer, step, is, kept) = first in
      let (answer', step', is', kept') = second in
      let arrival = received_by (interface_at old.world node) buffer in
      let place = place_of node buffer in
      let text = receipt_text (is_fresh old.noted.latest place arrival) arrival in
      let same = receipt_same old.world (Read node task buffer) answer answer' x.world y.world
      (is_fresh old.noted.latest place arrival) arrival step step' (λ e. memory.of_bus (is ∙ e))
      (λ e. memory'.of_bus (is' ∙ e)) in (
        is ∙ ap text same.0 ∙ sym is',
        by_parts x y same.1 (kept ∙ ap (after_receipt old.noted place arrival) same.0 ∙ sym kept'),
      )
  request_same old (request.Next node task) a b x y first second memory memory' free free' =
      let (answer, step, is, kept) = first in
      let (answer', step', is', kept') = second in
      let arrival = oldest_of (interface_at old.world node) in
      let same = receipt_same old.world (Pop node task) answer answer' x.world y.world true arrival step step'
      (λ e. memory.of_bus (is ∙ e)) (λ e. memory'.of_bus (is' ∙ e)) in
      (is ∙ ap (receipt_text true arrival) same.0 ∙ sym is', by_parts x y same.1 (kept ∙ sym kept'))
  request_same old (request.Fault line) a b x y first second memory memory' free free' =
      let (keeps, world, latest) = first in
      let (keeps', world', latest') = second in
      let truth = one_truth (IsFaultAfter d cycles old.noted.faults line) keeps.0 keeps'.0 keeps.1 keeps'.1 in
      let same = fault_same keeps.0 keeps'.0 old.noted.faults x.noted.faults y.noted.faults
      (line ∷ []) a b truth keeps.2 keeps'.2
      memory.of_session memory'.of_session in
      (same.0, by_parts x y (world ∙ sym world') (noted_same x.noted y.noted same.1 (latest ∙ sym latest')))
  request_same old (request.Faults one other) a b x y first second memory memory' free free' =
      let (keeps, world, latest) = first in
      let (keeps', world', latest') = second in
      let truth = one_truth (AreFaultsAfter d cycles old.noted.faults one other) keeps.0 keeps'.0 keeps.1 keeps'.1 in
      let same = fault_same keeps.0 keeps'.0 old.noted.faults x.noted.faults y.noted.faults
      (one ∷ other ∷ []) a b truth keeps.2 keeps'.2
      memory.of_session memory'.of_session in
      (same.0, by_parts x y (world ∙ sym world') (noted_same x.noted y.noted same.1 (latest ∙ sym latest')))
  request_same old request.Forget a b x y first second memory memory' free free' =
      (first.0 ∙ sym second.0, first.1 ∙ sym second.1)
  request_same old request.Window a b x y first second memory memory' free free' =
      let (hinders, moves, is, kept) = first in
      let (hinders', moves', is', kept') = second in
      let same = window_same old.noted.faults (window_events (length d.plans)) (window_last (length d.plans)) old.world
      x.world y.world hinders hinders' a b moves moves' is is' free free' in
      (same.0, by_parts x y same.1 (kept ∙ sym kept'))
  request_same old (request.Run count) a b x y first second memory memory' free free' =
      let (hinders, moves, is, kept) = first in
      let (hinders', moves', is', kept') = second in
      let same = run_same old.noted.faults (window_events (length d.plans))
      (window_last (length d.plans)) count old.world
      x.world y.world hinders hinders' a b moves moves' is is' free.0 free'.0 free.1 in
      (same.0, by_parts x y same.1 (kept ∙ sym kept'))
  request_same old request.Now a b x y first second memory memory' free free' =
      unchanged old x y a b first.0 second.0 (first.1 ∙ sym second.1)
  request_same old request.At a b x y first second memory memory' free free' =
      unchanged old x y a b first.0 second.0 (first.1 ∙ sym second.1)
  request_same old (request.Report node) a b x y first second memory memory' free free' =
      unchanged old x y a b first.0 second.0 (block_if_same (has_node old.world node)
      (report_text (interface_at old.world node)) a b first.1 second.1 memory.of_session memory'.of_session)
  request_same old (request.Status node channel) a b x y first second memory memory' free free' =
      unchanged old x y a b first.0 second.0 (first.1 ∙ sym second.1)
  request_same old (request.Trace node) a b x y first second memory memory' free free' =
      unchanged old x y a b first.0 second.0 (block_if_same (has_node old.world node)
      (trace_text Three (interface_at old.world node)) a b first.1 second.1 memory.of_session memory'.of_session)
  request_same old (request.Origin node) a b x y first second memory memory' free free' =
      unchanged old x y a b first.0 second.0 (first.1 ∙ sym second.1)
  request_same old (request.Record window) a b x y first second memory memory' free free' =
      unchanged old x y a b first.0 second.0 (record_same (slice_get old.world.bus.sealed window) a b first.1 second.1
      memory.of_session memory'.of_session)

  if_same : (old : SessionState) (number : ℕ) (asked : Option Request) (a b : List ℕ) (x y : SessionState)
      → DoesIf (terms_of d cycles) old number asked a x → DoesIf (terms_of d cycles) old number asked b y
      → HasMemory a → HasMemory b → MovesFreely (terms_of d cycles) old x asked a
      → MovesFreely (terms_of d cycles) old y asked b → AreSame a b x y
  if_same old number None a b x y first second memory memory' free free' =
      (first.0 ∙ sym second.0, first.1 ∙ sym second.1)
  if_same old number (Some asked) a b x y first second memory memory' free free' =
      request_same old asked a b x y first second memory memory' free free'

  -- ---- all lines

  serves_same : (old : SessionState) (number : ℕ) (lines : List (List ℕ)) (a b : List ℕ) (x y : SessionState)
      → ServesFreely (terms_of d cycles) old number lines a x → ServesFreely (terms_of d cycles) old number lines b y
      → AreSame a b x y
  unfolding ServesFreely
  serves_same old number [] a b x y first second = (first.0 ∙ sym second.0, first.1 ∙ sym second.1)
  serves_same old number (line ∷ lines) a b x y first second =
      let (between, reply, later, does, are, rest) = first in
      let (between', reply', later', does', are', rest') = second in
      let one = if_same old number (asked_in line) reply reply' between between' does.does does'.does does.memory
      does'.memory does.free does'.free in
      let other = subst (λ (s : SessionState). ServesFreely (terms_of d cycles) s (number + 1) lines later' y)
      (sym one.1) rest' in
      let next = serves_same between (number + 1) lines later later' x y rest other in (
        are ∙ ap (λ (l : List ℕ). l ++ later) one.0 ∙ ap (λ (l : List ℕ). reply' ++ l) next.0 ∙ sym are',
        next.1,
      )

-- ---- the law

pub sessions_determined : AreSessionsDetermined
sessions_determined d cycles old number lines replies other_replies new other first second =
    serves_same d cycles old number lines replies other_replies new other first second
