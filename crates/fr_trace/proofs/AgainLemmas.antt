-- The text of a legal interface is read.
use Rattle.std.proofs.Common.{◌≡◌, ℕ, true, zero, suc, ◌+◌, ◌≤◌, ◌<◌, List, [], ◌∷◌, ◌++◌, length, Option, Some, Ok}
use Rattle.std.proofs.Common.{refl, sym, ap, subst, ◌∙◌, append_assoc, None, arith, length-append}
use Rattle.std.specs.Prelude.{slice_get, IsSomeAnd}
use Rattle.std.proofs.lemmas.List.{append-nil}
use Rattle.std.proofs.lemmas.List.Sums.{fold-append}
use Rattle.std.specs.List.{flat_map}
use Rattle.fr_journal.specs.Forms.{Entry}
use Rattle.fr_journal.specs.declared.entry.Entry.TheVariants.{Commit, Withdraw, Read, Pop, Fetch, Observe}
use Rattle.fr_journal.specs.Entries.{IsEntry}
use Rattle.fr_journal.specs.Legal.{IsLegal}
use Rattle.fr_interface.specs.State.{State, IsLegalInterface, IsNodeInterface, with_entry}
use Rattle.fr_lines.specs.declared.versions.Version.{Version}
use Rattle.fr_lines.specs.declared.versions.Version.TheVariants.{One, Two, Three}
use Rattle.fr_lines.specs.Versions.{tells, tells_own}
use Rattle.fr_lines.proofs.VersionLemmas.{version_again}
use Rattle.fr_text.specs.Plain.{has_no_feed}
use Rattle.fr_lines.specs.Spelled.{IsSpelledEntry, IsSpelledOwn, IsSpelledBuffer, IsSpelledQueue, bare_plan}
use Rattle.fr_lines.specs.Spelling.{first_line, begin_line, end_line, params_words, node_words, own_words, buffer_words}
use Rattle.fr_lines.specs.Spelling.{queue_words, entry_words, line_feed, line_text}
use Rattle.fr_lines.proofs.BufferLemmas.{buffer_line_again, buffer_no_feed, buffer_short, buffer_not_begin}
use Rattle.fr_lines.proofs.EntryLemmas.{entry_line_again, entry_no_feed, entry_short, entry_not_end}
use Rattle.fr_lines.proofs.NodeLemmas.{node_line_again, node_no_feed, node_short}
use Rattle.fr_lines.proofs.OwnLemmas.{own_line_again, own_no_feed, own_short, own_not_begin}
use Rattle.fr_lines.proofs.PlanLineLemmas.{own_told, buffer_told, queue_told}
use Rattle.fr_lines.proofs.QueueLemmas.{queue_line_again, queue_no_feed, queue_short, queue_not_begin}
use Rattle.fr_lines.proofs.ParameterLemmas.{params_line_again, parameters_again, params_no_feed, params_short}
use Rattle.fr_slots.specs.declared.plan.Buffer.{Buffer}
use Rattle.fr_slots.specs.declared.plan.Own.{Own}
use Rattle.fr_slots.specs.declared.plan.Queue.{Queue}
use Rattle.fr_slots.specs.Faults.{plan_fault}
use Rattle.fr_slots.specs.History.{AllAfter}
use Rattle.fr_slots.specs.Parameters.{Parameters, IsParameters}
use Rattle.fr_slots.specs.Plans.{Plan, IsPlan, IsNodePlan, IsBuffer, IsOwn, IsQueueOrNone, QueueFits, Each, AllFit}
use Rattle.fr_slots.specs.Plans.{buffer_fits, own_fits, with_buffer, with_own, with_queue}
use Rattle.fr_text.specs.Spaces.{words_of, line_of}
use Rattle.fr_trace.specs.Answers.{made_by}
use Rattle.fr_trace.specs.Stream.{Phase, magic, params, node, lines, body, finished, reading, after_magic}
use Rattle.fr_trace.specs.Stream.{after_parameters, after_numbers, after_node, line_number, take_line, take_byte}
use Rattle.fr_trace.specs.Stream.{take_bytes, fresh}
use Rattle.fr_trace.specs.TraceText.{entry_line, head_text, params_text, numbers_text, plan_text, begin_text, body_text}
use Rattle.fr_trace.specs.TraceText.{trace_text}
use Rattle.fr_trace.specs.TraceText.{AreOwnedTold, AreTold}
use Rattle.fr_trace.proofs.AnswerLemmas.{no_fault, legal_accepted, made-answered}
use Rattle.fr_trace.specs.Feeds.{IsAtBegin, Begins}
use Rattle.fr_trace.proofs.FeedLemmas.{begins_before}
use Rattle.fr_trace.proofs.LineLemmas.{next_line}
use Rattle.fr_trace.proofs.PlanLemmas.{own_taken, buffer_taken, queue_taken}
use Rattle.fr_trace.proofs.TextLemmas.{is_open, bare_text, own_text, buffer_text, queue_text}

-- ---- parameters

first_no_feed : (v : Version) → has_no_feed (first_line v) ≡ true
first_no_feed One = refl
first_no_feed Two = refl
first_no_feed Three = refl

first_short : (v : Version) → length (first_line v) ≤ 1200
first_short One = omega arith
first_short Two = omega arith
first_short Three = omega arith

params_read : (v : Version) (p : Parameters) → IsParameters p
    → take_bytes fresh (params_text v p) ≡ reading (node v p) []
params_read v p is =
    let head : take_bytes fresh (head_text v) ≡ reading (params v) [] =
    next_line fresh [] (first_line v) magic (params v) refl refl (first_no_feed v) (first_short v)
    (ap after_magic (version_again v)) in
    next_line fresh (head_text v) (line_of (params_words p)) (params v) (node v p) head refl (params_no_feed p is)
    (params_short p is)
    (ap (after_numbers v) (params_line_again p is) ∙ ap (after_parameters v) (parameters_again p is))

-- ---- the plan

node_read : (v : Version) (p : Parameters) (plan : Plan) → IsParameters p → IsNodePlan plan
    → take_bytes fresh (params_text v p ++ line_text (node_words plan)) ≡ reading (lines v p (bare_plan plan)) []
node_read v p plan is plan_is =
    next_line fresh (params_text v p) (line_of (node_words plan)) (node v p) (lines v p (bare_plan plan))
    (params_read v p is) refl (node_no_feed plan plan_is) (node_short plan plan_is)
    (ap (after_node v p) (node_line_again plan plan_is))

-- the plan with these lines and no receive FIFO
abbrev with_lines : Plan → List Own → List Buffer → Plan
with_lines plan owned buffers = record (bare_plan plan) { owned = owned; buffers = buffers }

own_line_read : (v : Version) (p : Parameters) (plan : Plan) (o : Own) → plan.buffers ≡ [] → plan.queue ≡ None
    → length plan.owned < 64 → IsSpelledOwn o → tells_own v o ≡ true
    → take_line (lines v p plan) (line_of (own_words v o)) ≡ Ok (lines v p (with_own plan o))
own_line_read v p plan o no_buffer no_queue room spelled told =
    rw (
      own_not_begin v o,
      own_told v (words_of (line_of (own_words v o))) o (own_line_again v o spelled told),
      no_buffer,
      no_queue,
      own_taken plan o spelled.fits room,
    ) refl

buffer_line_read : (v : Version) (p : Parameters) (plan : Plan) (b : Buffer) → plan.queue ≡ None
    → length plan.buffers < 64 → IsSpelledBuffer b → take_line (lines v p plan) (line_of (buffer_words b)) ≡ Ok
    (lines v p (with_buffer plan b))
buffer_line_read v p plan b none room spelled =
    rw (
      buffer_not_begin b,
      buffer_told v (words_of (line_of (buffer_words b))) b (buffer_line_again b spelled),
      none,
      buffer_taken plan b spelled.fits room,
    ) refl

-- the receive FIFO
queue_line_read : (v : Version) (p : Parameters) (plan : Plan) (q : Queue) → plan.queue ≡ None → IsSpelledQueue q
    → take_line (lines v p plan) (line_of (queue_words q)) ≡ Ok (lines v p (with_queue plan q))
queue_line_read v p plan q none spelled =
    rw (
      queue_not_begin q,
      queue_told v (words_of (line_of (queue_words q))) q (queue_line_again q spelled),
      queue_taken plan q spelled.fits none,
    ) refl

abbrev with_queue_or_none : Plan → Option Queue → Plan
with_queue_or_none plan o = record plan { queue = o }

-- ---- entries

get_below : (buffers : List Buffer) (buffer : ℕ) (P : Buffer → Type 0) → IsSomeAnd (slice_get buffers buffer) P
    → buffer < length buffers
get_below [] buffer P h = absurd h
get_below (b ∷ buffers) zero P h = omega arith
get_below (b ∷ buffers) (suc buffer) P h = let lt = get_below buffers buffer P h in omega arith

-- each buffer that exists has a number below 64
spelled_entry : (s : State) (e : Entry) → IsPlan s.plan → IsEntry e → IsLegal s.params s.plan s.entries e
    → IsSpelledEntry e
spelled_entry s (Commit task buffer payload) plan_is ranges legal =
    let lt = get_below s.plan.buffers buffer _ legal.transmits in
    let few = plan_is.few_buffers in
    (ranges, omega arith)
spelled_entry s (Withdraw task buffer of) plan_is ranges legal =
    let lt = get_below s.plan.buffers buffer _ legal.transmits in
    let few = plan_is.few_buffers in
    (ranges, omega arith)
spelled_entry s (Read task buffer from) plan_is ranges legal =
    let lt = get_below s.plan.buffers buffer _ legal.receives in
    let few = plan_is.few_buffers in
    (ranges, omega arith)
spelled_entry s (Pop task from) plan_is ranges legal = ranges
spelled_entry s (Fetch window a b) plan_is ranges legal = ranges
spelled_entry s (Observe window a b) plan_is ranges legal = ranges

entry_line_read : (v : Version) (s : State) (e : Entry) → IsPlan s.plan → IsEntry e
    → IsLegal s.params s.plan s.entries e → tells v e ≡ true
    → take_line (body v s) (line_of (entry_words e)) ≡ Ok (body v (with_entry s e))
entry_line_read v s e plan_is ranges legal told =
    let spelled = spelled_entry s e plan_is ranges legal in
    let made : made_by s e ≡ e = made-answered s e (legal_accepted s e legal).1 in
    rw (entry_not_end e, entry_line_again v e spelled told, no_fault (line_number (body v s)) s e legal, made) refl

-- ---- whole texts, from the place where they came

-- A text came to a phase. A further line leads on, where the phase takes it.
module _ (Came : List ℕ → Phase → Type 0)
    (next : (text line : List ℕ) (p q : Phase) → Came text p → is_open p ≡ true → has_no_feed line ≡ true
    → length line ≤ 1200 → take_line p line ≡ Ok q → Came (text ++ (line ++ line_feed)) q) where
  bare_came : (v : Version) (p : Parameters) (plan : Plan) → Came (numbers_text v p plan) (lines v p (bare_plan plan))
      → Came (plan_text v p (bare_plan plan)) (lines v p (bare_plan plan))
  bare_came v p plan came = subst (λ (t : List ℕ). Came t (lines v p (bare_plan plan)))
      (sym (bare_text v p (bare_plan plan) refl refl refl)) came

  -- further ownership lines
  owned_came : (v : Version) (p : Parameters) (plan : Plan) (more before : List Own)
      → length before + length more ≤ 64 → AllFit own_fits more → Each IsOwn more → AreOwnedTold v more
      → Came (plan_text v p (with_lines plan before [])) (lines v p (with_lines plan before []))
      → Came (plan_text v p (with_lines plan (before ++ more) [])) (lines v p (with_lines plan (before ++ more) []))
  owned_came v p plan [] before few fit ranges told came =
      subst (λ (owned : List Own).
      Came (plan_text v p (with_lines plan owned [])) (lines v p (with_lines plan owned [])))
      (sym (append-nil before)) came
  owned_came v p plan (o ∷ more) before few fit ranges told came =
      let spelled : IsSpelledOwn o = record { is = ranges.0; fits = fit.0 } in
      let here = with_lines plan before [] in
      let one : Came (plan_text v p (with_own here o)) (lines v p (with_own here o)) =
      subst (λ (t : List ℕ). Came t (lines v p (with_own here o))) (sym (own_text v p here o refl refl))
      (next (plan_text v p here) (line_of (own_words v o)) (lines v p here) (lines v p (with_own here o)) came refl
      (own_no_feed v o spelled) (own_short v o spelled)
      (own_line_read v p here o refl refl (omega arith) spelled told.0)) in
      subst (λ (owned : List Own).
      Came (plan_text v p (with_lines plan owned [])) (lines v p (with_lines plan owned [])))
      (append_assoc before (o ∷ []) more)
      (owned_came v p plan more (before ++ o ∷ []) (omega (arith, length-append before (o ∷ []))) fit.1 ranges.1 told.1
      one)

  -- further buffers
  buffers_came : (v : Version) (p : Parameters) (plan : Plan) (owned : List Own) (more before : List Buffer)
      → length before + length more ≤ 64 → AllFit buffer_fits more → Each IsBuffer more
      → Came (plan_text v p (with_lines plan owned before)) (lines v p (with_lines plan owned before))
      → Came (plan_text v p (with_lines plan owned (before ++ more)))
      (lines v p (with_lines plan owned (before ++ more)))
  buffers_came v p plan owned [] before few fit ranges came =
      subst (λ (buffers : List Buffer). Came (plan_text v p (with_lines plan owned buffers))
      (lines v p (with_lines plan owned buffers))) (sym (append-nil before)) came
  buffers_came v p plan owned (b ∷ more) before few fit ranges came =
      let spelled : IsSpelledBuffer b = record { is = ranges.0; fits = fit.0 } in
      let here = with_lines plan owned before in
      let one : Came (plan_text v p (with_buffer here b)) (lines v p (with_buffer here b)) =
      subst (λ (t : List ℕ). Came t (lines v p (with_buffer here b))) (sym (buffer_text v p here b refl))
      (next (plan_text v p here) (line_of (buffer_words b)) (lines v p here) (lines v p (with_buffer here b)) came refl
      (buffer_no_feed b spelled) (buffer_short b spelled)
      (buffer_line_read v p here b refl (omega arith) spelled)) in
      subst (λ (buffers : List Buffer). Came (plan_text v p (with_lines plan owned buffers))
      (lines v p (with_lines plan owned buffers))) (append_assoc before (b ∷ []) more)
      (buffers_came v p plan owned more (before ++ b ∷ []) (omega (arith, length-append before (b ∷ []))) fit.1
      ranges.1 one)

  -- the receive FIFO
  queue_came : (v : Version) (p : Parameters) (plan : Plan) (o : Option Queue) → plan.queue ≡ None → QueueFits o
      → IsQueueOrNone o → Came (plan_text v p plan) (lines v p plan)
      → Came (plan_text v p (with_queue_or_none plan o)) (lines v p (with_queue_or_none plan o))
  queue_came v p plan None none fits ranges came =
      let same : plan ≡ with_queue_or_none plan None = λ i. record {
        tasks = plan.tasks;
        latest_a = plan.latest_a;
        latest_b = plan.latest_b;
        host_entries = plan.host_entries;
        slot_entries = plan.slot_entries;
        owned = plan.owned;
        buffers = plan.buffers;
        queue = none i;
      } in
      subst (λ (x : Plan). Came (plan_text v p x) (lines v p x)) same came
  queue_came v p plan (Some q) none fits ranges came =
      let spelled : IsSpelledQueue q = record { is = ranges; fits = fits } in
      subst (λ (t : List ℕ). Came t (lines v p (with_queue plan q))) (sym (queue_text v p plan q none))
      (next (plan_text v p plan) (line_of (queue_words q)) (lines v p plan) (lines v p (with_queue plan q)) came refl
      (queue_no_feed q spelled) (queue_short q spelled) (queue_line_read v p plan q none spelled))

  plan_came : (v : Version) (p : Parameters) (plan : Plan) → IsPlan plan → AreOwnedTold v plan.owned
      → Came (numbers_text v p plan) (lines v p (bare_plan plan)) → Came (plan_text v p plan) (lines v p plan)
  plan_came v p plan is told came =
      let few_owned = is.few_owned in
      let few_buffers = is.few_buffers in
      let owned = owned_came v p plan plan.owned [] (omega arith) is.owned_fit is.owned_are told
      (bare_came v p plan came) in
      let buffers = buffers_came v p plan plan.owned plan.buffers [] (omega arith) is.buffers_fit is.buffers_are
      owned in
      queue_came v p (with_lines plan plan.owned plan.buffers) plan.queue refl is.queue_fits is.queue_is buffers

  begin_came : (v : Version) (p : Parameters) (plan : Plan) → plan_fault p plan ≡ None
      → Came (plan_text v p plan) (lines v p plan)
      → Came (begin_text v p plan) (body v (record { params = p; plan = plan; entries = [] }))
  begin_came v p plan faultless came =
      next (plan_text v p plan) begin_line (lines v p plan)
      (body v (record { params = p; plan = plan; entries = [] })) came refl refl (omega arith) (rw faultless refl)

  entries_came : (v : Version) (p : Parameters) (plan : Plan) (items before : List Entry) (front : List ℕ)
      → IsPlan plan → AllAfter (IsLegal p plan) before items → AllAfter (λ _ e. IsEntry e) before items
      → AreTold v items → Came front (body v (record { params = p; plan = plan; entries = before }))
      → Came (front ++ flat_map entry_line items)
      (body v (record { params = p; plan = plan; entries = before ++ items }))
  unfolding AllAfter
  entries_came v p plan [] before front plan_is legal ranges told came =
      subst (λ (xs : List Entry). Came (front ++ []) (body v (record { params = p; plan = plan; entries = xs })))
      (sym (append-nil before))
      (subst (λ (t : List ℕ). Came t (body v (record { params = p; plan = plan; entries = before })))
      (sym (append-nil front)) came)
  entries_came v p plan (e ∷ items) before front plan_is legal ranges told came =
      let s : State = record { params = p; plan = plan; entries = before } in
      let spelled = spelled_entry s e plan_is ranges.0 legal.0 in
      let one : Came (front ++ entry_line e) (body v (with_entry s e)) =
      next front (line_of (entry_words e)) (body v s) (body v (with_entry s e)) came refl
      (entry_no_feed e spelled) (entry_short e spelled) (entry_line_read v s e plan_is ranges.0 legal.0 told.0) in
      subst (λ (xs : List Entry). Came (front ++ flat_map entry_line (e ∷ items))
      (body v (record { params = p; plan = plan; entries = xs }))) (append_assoc before (e ∷ []) items)
      (subst (λ (t : List ℕ). Came t
      (body v (record { params = p; plan = plan; entries = (before ++ e ∷ []) ++ items })))
      (append_assoc front (entry_line e) (flat_map entry_line items))
      (entries_came v p plan items (before ++ e ∷ []) (front ++ entry_line e) plan_is legal.1 ranges.1 told.1 one))

  -- the whole text of a legal interface, whose plan may have any room
  pub text_came : (v : Version) (s : State) → IsLegalInterface s → AreOwnedTold v s.plan.owned → AreTold v s.entries
      → Came (numbers_text v s.params s.plan) (lines v s.params (bare_plan s.plan))
      → Came (trace_text v s) (finished v s)
  text_came v s is owned told came =
      let begun = begin_came v s.params s.plan is.faultless (plan_came v s.params s.plan is.plan_is owned came) in
      let entries = entries_came v s.params s.plan s.entries [] (begin_text v s.params s.plan) is.plan_is is.legal
      is.entries_are told begun in
      next (body_text v s) end_line (body v s) (finished v s) entries refl refl (omega arith) refl

-- ---- the whole text of a node's interface

abbrev came_fresh : List ℕ → Phase → Type 0
came_fresh text p = take_bytes fresh text ≡ reading p []

plan_read : (v : Version) (p : Parameters) (plan : Plan) → IsParameters p → IsNodePlan plan → AreOwnedTold v plan.owned
    → take_bytes fresh (plan_text v p plan) ≡ reading (lines v p plan) []
plan_read v p plan is plan_is told =
    plan_came came_fresh (next_line fresh) v p plan plan_is.plan_is told (node_read v p plan is plan_is)

pub text_again : (v : Version) (s : State) → IsNodeInterface s → AreOwnedTold v s.plan.owned → AreTold v s.entries
    → take_bytes fresh (trace_text v s) ≡ reading (finished v s) []
text_again v s is owned told =
    text_came came_fresh (next_line fresh) v s is.legal owned told
    (node_read v s.params s.plan is.legal.params_are is.node_plan)

-- the line feed of `begin` comes after the plan
pub text_begins : (v : Version) (s : State) → IsNodeInterface s → AreOwnedTold v s.plan.owned
    → Begins fresh (trace_text v s)
text_begins v s is owned =
    let front = plan_text v s.params s.plan ++ begin_line in
    let before : take_bytes fresh (plan_text v s.params s.plan) ≡ reading (lines v s.params s.plan) [] =
    plan_read v s.params s.plan is.legal.params_are is.node_plan owned in
    let at : take_bytes fresh front ≡ reading (lines v s.params s.plan) begin_line =
    fold-append take_byte fresh (plan_text v s.params s.plan) begin_line ∙ ap
    (λ p. take_bytes p begin_line) before in
    let begins : Begins fresh (begin_text v s.params s.plan) = (
      front,
      [],
      sym (append_assoc (plan_text v s.params s.plan) begin_line line_feed),
      subst IsAtBegin (sym at) (refl, is.legal.faultless),
    ) in
    begins_before fresh (body_text v s) (end_line ++ line_feed)
    (begins_before fresh (begin_text v s.params s.plan) (flat_map entry_line s.entries) begins)
