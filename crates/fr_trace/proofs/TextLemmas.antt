-- The bytes that have been read spell the phase and the front of a line.
use Rattle.std.proofs.Common.{◌≡◌, ℕ, ◌==◌, ◌&&◌, Bool, true, false, List, [], ◌∷◌, ◌++◌, length, Option, Some, None}
use Rattle.std.proofs.Common.{Result, Ok, Err, refl, sym, ap, subst, ◌∙◌, append_assoc, inl, inr}
use Rattle.std.specs.Prelude.{ℤ, is_none}
use Rattle.std.proofs.lemmas.Bool.{and_parts, cases_Bool, eqb-true}
use Rattle.std.proofs.lemmas.List.{append-nil, flat_map_more}
use Rattle.std.proofs.lemmas.Slice.Eq.{bytes_eq-Decides}
use Rattle.std.specs.List.{flat_map}
use Rattle.std.specs.Str.{bytes_eq}
use Rattle.fr_journal.specs.Forms.{Entry}
use Rattle.fr_interface.specs.State.{State, with_entry}
use Rattle.fr_lines.specs.Reading.{version_in, params_in, node_in, own_in, buffer_in, queue_in, plan_line_in, entry_in}
use Rattle.fr_lines.specs.Spelling.{begin_line, end_line, node_words, queue_words, entry_words, line_feed, line_text}
use Rattle.fr_lines.proofs.BufferLemmas.{buffer_line_takes}
use Rattle.fr_lines.proofs.EntryLemmas.{entry_line_takes}
use Rattle.fr_lines.proofs.NodeLemmas.{node_line_takes, node_no_lines}
use Rattle.fr_lines.proofs.OwnLemmas.{own_line_takes}
use Rattle.fr_lines.proofs.ParameterLemmas.{params_line_takes}
use Rattle.fr_lines.proofs.PlanLineLemmas.{told_read}
use Rattle.fr_lines.proofs.VersionLemmas.{version_takes}
use Rattle.fr_lines.proofs.QueueLemmas.{queue_line_takes}
use Rattle.fr_lines.specs.declared.versions.Version.{Version}
use Rattle.fr_lines.specs.declared.plan_lines.PlanLine.{PlanLine}
use Rattle.fr_lines.specs.declared.plan_lines.PlanLine.TheVariants as plan_line
use Rattle.fr_slots.specs.declared.params.RangeError.{RangeError}
use Rattle.fr_slots.specs.declared.plan.Buffer.{Buffer}
use Rattle.fr_slots.specs.declared.plan.Own.{Own}
use Rattle.fr_slots.specs.declared.plan.Queue.{Queue}
use Rattle.fr_slots.specs.Parameters.{Parameters, parameters_of}
use Rattle.fr_slots.specs.Plans.{Plan, own_refusal, buffer_refusal, queue_refusal, with_own, with_buffer, with_queue}
use Rattle.fr_text.specs.Spaces.{words_of, line_of}
use Rattle.fr_trace.specs.Answers.{fault_of, made_by, is_answered, is_refused}
use Rattle.fr_trace.specs.declared.error.TraceError.{TraceError}
use Rattle.fr_slots.specs.Faults.{plan_fault}
use Rattle.fr_trace.specs.TraceText.{own_line, buffer_line, queue_lines, entry_line, head_text, params_text, plan_text}
use Rattle.fr_trace.specs.TraceText.{begin_text, body_text, trace_text}
use Rattle.fr_trace.specs.Stream.{Phase, magic, params, node, lines, body, finished, Progress, reading, failed}
use Rattle.fr_trace.specs.Stream.{after_magic, after_parameters, after_numbers, after_node, after_queue, after_buffer}
use Rattle.fr_trace.specs.Stream.{has_owned_alone, after_own, after_plan_line, after_begin, line_number, after_fault}
use Rattle.fr_trace.specs.Stream.{after_entry, take_line, after_line, take_open, take_in, take_byte, take_bytes, fresh}
use Rattle.fr_trace.specs.Stream.{longest_line}
use Rattle.fr_trace.proofs.AnswerLemmas.{made-answered}
use Rattle.fr_trace.proofs.PlanLemmas.{nil_is, none_is, no_queue_yet}

-- the lines that led to a phase
abbrev pub text_of : Phase → List ℕ
text_of magic = []
text_of (params v) = head_text v
text_of (node v p) = params_text v p
text_of (lines v p plan) = plan_text v p plan
text_of (body v s) = body_text v s
text_of (finished v s) = trace_text v s

abbrev pub IsFront : Phase → List ℕ → Type 0
IsFront (finished v s) line = line ≡ []
IsFront p line = Unit {0}

abbrev pub Spelled : Progress → List ℕ → Type 0
Spelled (failed e) text = Unit {0}
Spelled (reading p line) text = (text ≡ text_of p ++ line) × IsFront p line

front_nil : (p : Phase) → IsFront p []
front_nil magic = tt
front_nil (params v) = tt
front_nil (node v p) = tt
front_nil (lines v p plan) = tt
front_nil (body v s) = tt
front_nil (finished v s) = refl

-- a line that leads from one phase to the next
abbrev Leads : Phase → List ℕ → Phase → Type 0
Leads p line q = text_of q ≡ text_of p ++ (line ++ line_feed)

-- ---- parameters

after_parameters_leads : (v : Version) (line : List ℕ) (numbers : List ℤ) (r : Result Parameters RangeError) (q : Phase)
    → params_in (words_of line) ≡ Some numbers → parameters_of numbers ≡ r → after_parameters v r ≡ Ok q
    → Leads (params v) line q
after_parameters_leads v line numbers (Err e) q read is h = cc h
after_parameters_leads v line numbers (Ok p) q read is h =
    let end : node v p ≡ q = cc h in
    subst (λ x. Leads (params v) line x) end (ap (λ t. head_text v ++ (t ++ line_feed))
    (sym (params_line_takes line numbers p read is)))

after_numbers_leads : (v : Version) (line : List ℕ) (o : Option (List ℤ)) (q : Phase) → params_in (words_of line) ≡ o
    → after_numbers v o ≡ Ok q → Leads (params v) line q
after_numbers_leads v line None q read h = cc h
after_numbers_leads v line (Some numbers) q read h = after_parameters_leads v line numbers (parameters_of numbers) q
    read refl h

-- ---- the plan

-- a plan without lines
pub bare_text : (v : Version) (p : Parameters) (plan : Plan) → plan.owned ≡ [] → plan.buffers ≡ [] → plan.queue ≡ None
    → plan_text v p plan ≡ params_text v p ++ line_text (node_words plan)
bare_text v p plan no_own no_buffer no_queue =
    let front = params_text v p ++ line_text (node_words plan) in
    ap (λ (q : Option Queue). front ++ flat_map (own_line v) plan.owned ++ flat_map buffer_line plan.buffers ++
    queue_lines q) no_queue
    ∙ append-nil (front ++ flat_map (own_line v) plan.owned ++ flat_map buffer_line plan.buffers)
    ∙ ap (λ (b : List Buffer). front ++ flat_map (own_line v) plan.owned ++ flat_map buffer_line b) no_buffer
    ∙ append-nil (front ++ flat_map (own_line v) plan.owned)
    ∙ ap (λ (o : List Own). front ++ flat_map (own_line v) o) no_own
    ∙ append-nil front

after_node_leads : (v : Version) (line : List ℕ) (p : Parameters) (o : Option Plan) (q : Phase)
    → node_in (words_of line) ≡ o → after_node v p o ≡ Ok q → Leads (node v p) line q
after_node_leads v line p None q read h = cc h
after_node_leads v line p (Some plan) q read h =
    let end : lines v p plan ≡ q = cc h in
    let bare = node_no_lines (words_of line) plan read in
    subst (λ x. Leads (node v p) line x) end
    (bare_text v p plan bare.0 bare.1 bare.2 ∙ ap (λ t. params_text v p ++ (t ++ line_feed))
    (sym (node_line_takes line plan read)))

-- a plan without buffers
owned_text : (v : Version) (p : Parameters) (plan : Plan) → plan.buffers ≡ [] → plan.queue ≡ None
    → plan_text v p plan ≡ params_text v p ++ line_text (node_words plan) ++ flat_map (own_line v) plan.owned
owned_text v p plan no_buffer no_queue =
    let front = params_text v p ++ line_text (node_words plan) ++ flat_map (own_line v) plan.owned in
    ap (λ (q : Option Queue). front ++ flat_map buffer_line plan.buffers ++ queue_lines q) no_queue
    ∙ append-nil (front ++ flat_map buffer_line plan.buffers)
    ∙ ap (λ (b : List Buffer). front ++ flat_map buffer_line b) no_buffer
    ∙ append-nil front

-- one more ownership line
pub own_text : (v : Version) (p : Parameters) (plan : Plan) (o : Own) → plan.buffers ≡ [] → plan.queue ≡ None
    → plan_text v p (with_own plan o) ≡ plan_text v p plan ++ own_line v o
own_text v p plan o no_buffer no_queue =
    owned_text v p (with_own plan o) no_buffer no_queue
    ∙ sym (flat_map_more (own_line v) (params_text v p ++ line_text (node_words plan)) plan.owned o)
    ∙ ap (λ t. t ++ own_line v o) (sym (owned_text v p plan no_buffer no_queue))

after_own_leads : (v : Version) (line : List ℕ) (p : Parameters) (plan : Plan) (o : Own) (q : Phase)
    → own_in v (words_of line) ≡ Some o → after_own v p plan o ≡ Ok q → Leads (lines v p plan) line q
after_own_leads v line p plan o q read h =
    elim (cases_Bool (has_owned_alone plan && is_none (own_refusal plan o))) [
      | inl taken ↦
          let alone = and_parts (length plan.buffers == 0) (is_none plan.queue)
          (and_parts (has_owned_alone plan) (is_none (own_refusal plan o)) taken).0 in
          let end : lines v p (with_own plan o) ≡ q = cc (rw taken at h) in
          subst (λ x. Leads (lines v p plan) line x) end
          (own_text v p plan o (nil_is plan.buffers alone.0) (none_is plan.queue alone.1) ∙ ap
          (λ t. plan_text v p plan ++ (t ++ line_feed)) (sym (own_line_takes v line o read)))
      | inr refused ↦ cc (rw refused at h)
    ]

-- one more buffer
pub buffer_text : (v : Version) (p : Parameters) (plan : Plan) (b : Buffer) → plan.queue ≡ None
    → plan_text v p (with_buffer plan b) ≡ plan_text v p plan ++ buffer_line b
buffer_text v p plan b no_queue =
    let front = params_text v p ++ line_text (node_words plan) ++ flat_map (own_line v) plan.owned in
    let before = front ++ flat_map buffer_line plan.buffers in
    ap (λ (q : Option Queue). front ++ flat_map buffer_line (plan.buffers ++ b ∷ []) ++ queue_lines q) no_queue
    ∙ append-nil (front ++ flat_map buffer_line (plan.buffers ++ b ∷ []))
    ∙ sym (flat_map_more buffer_line front plan.buffers b)
    ∙ ap (λ t. t ++ buffer_line b) (sym (append-nil before))
    ∙ ap (λ (q : Option Queue). (before ++ queue_lines q) ++ buffer_line b) (sym no_queue)

after_buffer_leads : (v : Version) (line : List ℕ) (p : Parameters) (plan : Plan) (b : Buffer) (q : Phase)
    → buffer_in (words_of line) ≡ Some b → after_buffer v p plan b ≡ Ok q
    → Leads (lines v p plan) line q
after_buffer_leads v line p plan b q read h =
    elim (cases_Bool (is_none plan.queue && is_none (buffer_refusal plan b))) [
      | inl taken ↦
          let no_queue = (and_parts (is_none plan.queue) (is_none (buffer_refusal plan b)) taken).0 in
          let end : lines v p (with_buffer plan b) ≡ q = cc (rw taken at h) in
          subst (λ x. Leads (lines v p plan) line x) end
          (buffer_text v p plan b (none_is plan.queue no_queue) ∙ ap (λ t. plan_text v p plan ++ (t ++ line_feed))
          (sym (buffer_line_takes line b read)))
      | inr refused ↦ cc (rw refused at h)
    ]

-- the receive FIFO
pub queue_text : (v : Version) (p : Parameters) (plan : Plan) (q : Queue) → plan.queue ≡ None
    → plan_text v p (with_queue plan q) ≡ plan_text v p plan ++ line_text (queue_words q)
queue_text v p plan q no_queue =
    let before = params_text v p ++ line_text (node_words plan) ++ flat_map
    (own_line v) plan.owned ++ flat_map buffer_line plan.buffers in
    ap (λ t. t ++ line_text (queue_words q)) (sym (append-nil before))
    ∙ ap (λ (o : Option Queue). (before ++ queue_lines o) ++ line_text (queue_words q)) (sym no_queue)

after_queue_leads : (v : Version) (line : List ℕ) (p : Parameters) (plan : Plan) (q : Queue) (x : Phase)
    → queue_in (words_of line) ≡ Some q → after_queue v p plan q ≡ Ok x
    → Leads (lines v p plan) line x
after_queue_leads v line p plan q x read h =
    elim (cases_Bool (is_none (queue_refusal plan q))) [
      | inl taken ↦
          let end : lines v p (with_queue plan q) ≡ x = cc (rw taken at h) in
          subst (λ y. Leads (lines v p plan) line y) end
          (queue_text v p plan q (no_queue_yet plan q taken) ∙ ap (λ t. plan_text v p plan ++ (t ++ line_feed))
          (sym (queue_line_takes line q read)))
      | inr refused ↦ cc (rw refused at h)
    ]

after_plan_line_leads : (v : Version) (line : List ℕ) (p : Parameters) (plan : Plan) (o : Option PlanLine) (q : Phase)
    → plan_line_in v (words_of line) ≡ o → after_plan_line v p plan o ≡ Ok q
    → Leads (lines v p plan) line q
after_plan_line_leads v line p plan None q read h = cc h
after_plan_line_leads v line p plan (Some (plan_line.Own o)) q read h =
    after_own_leads v line p plan o q (told_read v (words_of line) (plan_line.Own o) read) h
after_plan_line_leads v line p plan (Some (plan_line.Buffer b)) q read h =
    after_buffer_leads v line p plan b q (told_read v (words_of line) (plan_line.Buffer b) read) h
after_plan_line_leads v line p plan (Some (plan_line.Queue t)) q read h =
    after_queue_leads v line p plan t q (told_read v (words_of line) (plan_line.Queue t) read) h

after_begin_leads : (v : Version) (line : List ℕ) (p : Parameters) (plan : Plan) (q : Phase) → line ≡ begin_line
    → after_begin v p plan ≡ Ok q → Leads (lines v p plan) line q
after_begin_leads v line p plan q is h =
    elim (cases_Bool (is_none (plan_fault p plan))) [
      | inl pass ↦
          let end : body v (record { params = p; plan = plan; entries = [] }) ≡ q = cc (rw pass at h) in
          subst (λ x. Leads (lines v p plan) line x) end (append-nil (begin_text v p plan) ∙ ap
          (λ t. plan_text v p plan ++ (t ++ line_feed)) (sym is))
      | inr fail ↦ cc (rw fail at h)
    ]

-- ---- entries

pub fault_none : (line : ℕ) (s : State) (e : Entry) → fault_of line s e ≡ None → is_answered s e ≡ true
fault_none line s e h =
    elim (cases_Bool (is_refused s e)) [
      | inl refused ↦ cc (rw refused at h)
      | inr accepted ↦
          let h1 = rw accepted at h in
          elim (cases_Bool (is_answered s e)) [
            | inl answered ↦ answered
            | inr wrong ↦ cc (rw wrong at h1)
          ]
    ]

after_fault_leads : (v : Version) (s : State) (line : List ℕ) (e : Entry) (o : Option TraceError) (q : Phase)
    → line ≡ line_of (entry_words e) → fault_of (line_number (body v s)) s e ≡ o → after_fault v s e o ≡ Ok q
    → Leads (body v s) line q
after_fault_leads v s line e (Some f) q text is h = cc h
after_fault_leads v s line e None q text is h =
    let made : made_by s e ≡ e = made-answered s e (fault_none (line_number (body v s)) s e is) in
    let end : body v (with_entry s e) ≡ q = ap (λ (x : Entry). body v (with_entry s x)) (sym made) ∙ cc h in
    let spelled : body_text v (with_entry s e) ≡ body_text v s ++ (line ++ line_feed) =
    sym (flat_map_more entry_line (begin_text v s.params s.plan) s.entries e) ∙ ap
    (λ t. body_text v s ++ (t ++ line_feed)) (sym text) in
    subst (λ x. Leads (body v s) line x) end spelled

after_entry_leads : (v : Version) (s : State) (line : List ℕ) (o : Option Entry) (q : Phase)
    → entry_in v (words_of line) ≡ o → after_entry v s o ≡ Ok q → Leads (body v s) line q
after_entry_leads v s line None q is h = cc h
after_entry_leads v s line (Some e) q is h = after_fault_leads v s line e (fault_of (line_number (body v s)) s e) q
    (entry_line_takes v line e is) refl h

-- ---- whole lines

after_magic_leads : (line : List ℕ) (o : Option Version) (q : Phase) → version_in line ≡ o → after_magic o ≡ Ok q
    → Leads magic line q
after_magic_leads line None q read h = cc h
after_magic_leads line (Some v) q read h =
    let end : params v ≡ q = cc h in
    subst (λ x. Leads magic line x) end (ap (λ t. t ++ line_feed) (sym (version_takes line v read)))

line_leads : (p : Phase) (line : List ℕ) (q : Phase) → take_line p line ≡ Ok q → Leads p line q
line_leads magic line q h = after_magic_leads line (version_in line) q refl h
line_leads (params v) line q h = after_numbers_leads v line (params_in (words_of line)) q refl h
line_leads (node v p) line q h = after_node_leads v line p (node_in (words_of line)) q refl h
line_leads (lines v p plan) line q h =
    elim (cases_Bool (bytes_eq line begin_line)) [
      | inl pass ↦ after_begin_leads v line p plan q ((bytes_eq-Decides line begin_line).0 pass) (rw pass at h)
      | inr fail ↦ after_plan_line_leads v line p plan (plan_line_in v (words_of line)) q refl (rw fail at h)
    ]
line_leads (body v s) line q h =
    elim (cases_Bool (bytes_eq line end_line)) [
      | inl pass ↦
          let is : line ≡ end_line = (bytes_eq-Decides line end_line).0 pass in
          let end : finished v s ≡ q = cc (rw pass at h) in
          subst (λ x. Leads (body v s) line x) end (ap (λ t. body_text v s ++ (t ++ line_feed)) (sym is))
      | inr fail ↦ after_entry_leads v s line (entry_in v (words_of line)) q refl (rw fail at h)
    ]
line_leads (finished v s) line q h = cc h

after_line_spelled : (p : Phase) (line text : List ℕ) (r : Result Phase TraceError) → text ≡ text_of p ++ line
    → take_line p line ≡ r
    → Spelled (after_line r) (text ++ line_feed)
after_line_spelled p line text (Err e) is h = tt
after_line_spelled p line text (Ok q) is h =
    let led = line_leads p line q h in (
      ap (λ t. t ++ line_feed) is
          ∙ (append_assoc (text_of p) line line_feed ∙ (sym led ∙ sym (append-nil (text_of q)))),
      front_nil q,
    )

-- ---- bytes

-- a phase at which more may come
abbrev pub is_open : Phase → Bool
is_open (finished v s) = false
is_open p = true

pub take_in-open : (p : Phase) (line : List ℕ) (b : ℕ) → is_open p ≡ true → take_in p line b ≡ take_open p line b
take_in-open magic line b opened = refl
take_in-open (params v) line b opened = refl
take_in-open (node v p) line b opened = refl
take_in-open (lines v p plan) line b opened = refl
take_in-open (body v s) line b opened = refl
take_in-open (finished v s) line b opened = cc opened

front_open : (p : Phase) (line : List ℕ) → is_open p ≡ true → IsFront p line
front_open magic line opened = tt
front_open (params v) line opened = tt
front_open (node v p) line opened = tt
front_open (lines v p plan) line opened = tt
front_open (body v s) line opened = tt
front_open (finished v s) line opened = cc opened

open_spelled : (p : Phase) (line text : List ℕ) (b : ℕ) → is_open p ≡ true → Spelled (reading p line) text
    → Spelled (take_in p line b) (text ++ b ∷ [])
open_spelled p line text b opened h =
    subst (λ s. Spelled s (text ++ b ∷ [])) (sym (take_in-open p line b opened))
    (elim (cases_Bool (b == 10)) [
      | inl feed ↦
          let is : b ≡ 10 = eqb-true b 10 feed in
          rw feed (subst (λ x. Spelled (after_line (take_line p line)) (text ++ x ∷ [])) (sym is)
          (after_line_spelled p line text (take_line p line) h.0 refl))
      | inr other ↦ rw other (elim (cases_Bool (length line == longest_line)) [
        | inl full ↦ rw full tt
        | inr room ↦ rw room (
          ap (λ t. t ++ b ∷ []) h.0 ∙ append_assoc (text_of p) line (b ∷ []),
          front_open p (line ++ b ∷ []) opened,
        )
      ])
    ])

byte_spelled : (s : Progress) (text : List ℕ) (b : ℕ) → Spelled s text → Spelled (take_byte s b) (text ++ b ∷ [])
byte_spelled (failed e) text b h = tt
byte_spelled (reading magic line) text b h = open_spelled magic line text b refl h
byte_spelled (reading (params v) line) text b h = open_spelled (params v) line text b refl h
byte_spelled (reading (node v p) line) text b h = open_spelled (node v p) line text b refl h
byte_spelled (reading (lines v p plan) line) text b h = open_spelled (lines v p plan) line text b refl h
byte_spelled (reading (body v s) line) text b h = open_spelled (body v s) line text b refl h
byte_spelled (reading (finished v s) line) text b h = tt

pub bytes_spelled : (bytes : List ℕ) (s : Progress) (text : List ℕ) → Spelled s text
    → Spelled (take_bytes s bytes) (text ++ bytes)
bytes_spelled [] s text h = subst (λ t. Spelled s t) (sym (append-nil text)) h
bytes_spelled (b ∷ bytes) s text h =
    subst (λ t. Spelled (take_bytes (take_byte s b) bytes) t) (append_assoc text (b ∷ []) bytes)
    (bytes_spelled bytes (take_byte s b) (text ++ b ∷ []) (byte_spelled s text b h))

-- the bytes that have come spell the phase that they leave
pub text_spelled : (text : List ℕ) → Spelled (take_bytes fresh text) text
text_spelled text = bytes_spelled text fresh [] (refl, tt)
