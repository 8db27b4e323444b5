-- Each reply is one line, or a counted block of lines.
use Rattle.std.proofs.Common.{◌≡◌, ℕ, zero, suc, ◌+◌, ◌/◌, ◌%◌, ◌==◌, Bool, true, false, not, cond, ◌⊎◌, inl, inr, List}
use Rattle.std.proofs.Common.{[], ◌∷◌, ◌++◌, length, codes, Option, Some, None, Ok, Err, refl, sym, ap, subst, ◌∙◌}
use Rattle.std.proofs.Common.{arith, slice_get, count_by}
use Rattle.std.proofs.lemmas.Bool.{cases_Bool, eqb-true}
use Rattle.std.proofs.lemmas.Bool.Decides.{nat_tests}
use Rattle.std.specs.Fmt.{decimal, digits, digits_onto, digit_glyph}
use Rattle.std.specs.List.{flat_map}
use Rattle.std.specs.Prelude.{nat_lt}
use Rattle.std.proofs.lemmas.List.Sums.{sum_by-cons}
use Rattle.fr_bus.specs.declared.error.BusError.{BusError}
use Rattle.fr_bus.specs.declared.error.BusError.TheVariants as bus
use Rattle.fr_bus.specs.declared.error.Phase.{Phase}
use Rattle.fr_bus.specs.declared.error.Phase.TheVariants.{Collect, Sealed, Finished}
use Rattle.fr_bus.specs.declared.outcome.Sent.{Sent}
use Rattle.fr_bus.specs.ErrorNames.{bus_error_name}
use Rattle.fr_bus.specs.Record.{Recorded}
use Rattle.fr_bus.specs.States.{BusState}
use Rattle.fr_bus.specs.Windows.{cycles_begun}
use Rattle.fr_capture.specs.Moments.{start_of}
use Rattle.fr_concord.specs.Replied.{begins_block, IsOneLine, HasLines, IsBlockReply, IsReplyTo, AreWhole}
use Rattle.fr_core.specs.declared.error.StepError.{StepError}
use Rattle.fr_core.specs.declared.error.StepError.TheVariants as step
use Rattle.fr_core.specs.declared.event.Reply.TheVariants as reply
use Rattle.fr_core.specs.ErrorNames.{step_error_text}
use Rattle.fr_core.specs.Runs.{Answer}
use Rattle.fr_core.specs.Worlds.{has_node, interface_at}
use Rattle.fr_frame.specs.Fields.{Fields}
use Rattle.fr_interface.specs.declared.errors.HostError.{HostError}
use Rattle.fr_interface.specs.declared.errors.HostError.TheVariants as host
use Rattle.fr_interface.specs.declared.errors.SlotError.{SlotError}
use Rattle.fr_interface.specs.declared.errors.SlotError.TheVariants as slot
use Rattle.fr_interface.specs.ErrorNames.{host_error_name, slot_error_name}
use Rattle.fr_interface.specs.State.{State, oldest_of, received_by}
use Rattle.fr_journal.specs.Counts.{counts_of}
use Rattle.fr_journal.specs.declared.entry.Arrival.{Arrival}
use Rattle.fr_journal.specs.declared.entry.Origin.{Origin}
use Rattle.fr_lines.specs.declared.versions.Version.{Version}
use Rattle.fr_lines.specs.declared.versions.Version.TheVariants.{Three}
use Rattle.fr_lines.specs.Parts.{mark, indicators, optional_number, channel_mark, from_word}
use Rattle.fr_lines.specs.Spelling.{line_feed, line_text, end_line}
use Rattle.fr_runs.specs.declared.fault_line.FaultLine.{FaultLine}
use Rattle.fr_session.specs.declared.request.Request.{Request}
use Rattle.fr_session.specs.declared.request.Request.TheVariants as request
use Rattle.fr_session.specs.Keeping.{KeepsIf}
use Rattle.fr_session.specs.Latest.{is_fresh, place_of}
use Rattle.fr_session.specs.Lines.{with_feed, IsLine, AreLines}
use Rattle.fr_session.specs.Queries.{now_words, moved_text, memory_text, IsBlock, IsBlockIf, last_origin, origin_text}
use Rattle.fr_session.specs.Queries.{sent_line, corrupt_lines, sealed_text, IsRecordOf, phase_word, at_words, cycle_at}
use Rattle.fr_session.specs.Queries.{moment_words, status_text}
use Rattle.fr_session.specs.Reading.{asked_in}
use Rattle.fr_session.specs.RecordWords.{kind_word, fate_word}
use Rattle.fr_session.specs.Replies.{refusal_words, bad_line_words, bad_fault_words, done_words, frame_words, age_word}
use Rattle.fr_session.specs.Replies.{answer_text, frame_reply, receipt_text, received_words, reply_words, window_words}
use Rattle.fr_session.specs.Replies.{withdrawn_words}
use Rattle.fr_session.specs.Sessions.{Terms, SessionState, DoesRequest, DoesIf}
use Rattle.fr_slots.specs.Admission.{letter_of}
use Rattle.fr_slots.specs.declared.channel.Channel.{Channel}
use Rattle.fr_slots.specs.declared.channel.Channel.TheVariants as channel
use Rattle.fr_slots.specs.Parameters.{Parameters}
use Rattle.fr_slots.specs.Windows.{Opportunity}
use Rattle.fr_text.proofs.PlainLemmas.{IsPlain-hex_text, has_no_feed-plain, has_no_feed-append}
use Rattle.fr_text.specs.Plain.{is_feed, has_no_feed}
use Rattle.fr_text.specs.Spaces.{line_of}
use Rattle.fr_text.specs.Spelling.{hex_text}
use Rattle.fr_trace.specs.ReportText.{report_text, reports_from, queue_report, channel_report, channel_words}
use Rattle.fr_trace.specs.TraceText.{trace_text, body_text}

-- ---- words without a line feed

glyph_from : (b : Bool) (d : ℕ) → is_feed (cond b (48 + d) (87 + d)) ≡ false
glyph_from true d = grind (arith, nat_tests)
glyph_from false d = grind (arith, nat_tests)

glyph_no_feed : (d : ℕ) → is_feed (digit_glyph false d) ≡ false
glyph_no_feed d = glyph_from (nat_lt d 10) d

cons_no_feed : (b : ℕ) (bytes : List ℕ) → is_feed b ≡ false → has_no_feed bytes ≡ true → has_no_feed (b ∷ bytes) ≡ true
cons_no_feed b bytes here rest = rw (here, rest) refl

chosen : (b : Bool) (xs ys : List ℕ) → has_no_feed xs ≡ true → has_no_feed ys ≡ true → has_no_feed (cond b xs ys) ≡ true
chosen true xs ys first second = first
chosen false xs ys first second = second

digits_no_feed : (k n : ℕ) (more : List ℕ) → has_no_feed more ≡ true
    → has_no_feed (digits_onto k 10 false n more) ≡ true
digits_no_feed zero n more h = h
digits_no_feed (suc k) n more h =
    let next = cons_no_feed (digit_glyph false (n % 10)) more (glyph_no_feed (n % 10)) h in
    chosen (n / 10 == 0) (digit_glyph false (n % 10) ∷ more)
    (digits_onto k 10 false (n / 10) (digit_glyph false (n % 10) ∷ more)) next
    (digits_no_feed k (n / 10) (digit_glyph false (n % 10) ∷ more) next)

number_line : (n : ℕ) → IsLine (decimal n)
unfolding digits
number_line n = digits_no_feed 64 n [] refl

bytes_line : (bytes : List ℕ) → IsLine (hex_text bytes)
bytes_line bytes = has_no_feed-plain (hex_text bytes) (IsPlain-hex_text bytes)

optional_line : (o : Option ℕ) → IsLine (optional_number o)
optional_line None = refl
optional_line (Some n) = number_line n

mark_line : (letter : List ℕ) (b : Bool) → IsLine letter → IsLine (mark letter b)
mark_line letter b h = chosen b letter (codes "-") h refl

indicators_line : (f : Fields) → IsLine (indicators f)
unfolding indicators
indicators_line f =
    let p = mark (codes "p") f.preamble in
    let n = mark (codes "n") (not f.has_data) in
    let s = mark (codes "s") f.sync in
    let u = mark (codes "u") f.startup in
    has_no_feed-append (p ++ n ++ s) u
    (has_no_feed-append (p ++ n) s
    (has_no_feed-append p n (mark_line (codes "p") f.preamble refl) (mark_line (codes "n") (not f.has_data) refl))
    (mark_line (codes "s") f.sync refl))
    (mark_line (codes "u") f.startup refl)

channel_line : (c : Channel) → IsLine (channel_mark c)
channel_line channel.A = refl
channel_line channel.B = refl

from_line : (o : Option Origin) → IsLine (from_word o)
from_line None = refl
from_line (Some origin) =
    has_no_feed-append (decimal origin.entry) (channel_mark origin.channel) (number_line origin.entry)
    (channel_line origin.channel)

host_line : (e : HostError) → IsLine (host_error_name e)
host_line host.UnknownTask = refl
host_line host.UnknownBuffer = refl
host_line host.NotTransmit = refl
host_line host.WrongLength = refl
host_line host.HostFull = refl
host_line host.NotReceive = refl
host_line host.NoQueue = refl

slot_line : (e : SlotError) → IsLine (slot_error_name e)
slot_line slot.NotObserved = refl
slot_line slot.WindowOrder = refl
slot_line slot.SlotFull = refl
slot_line slot.NotFetched = refl
slot_line slot.WrongWindow = refl
slot_line slot.BadWindow = refl

bus_line : (e : BusError) → IsLine (bus_error_name e)
bus_line bus.UnknownNode = refl
bus_line bus.NotCollecting = refl
bus_line bus.WrongWindow = refl
bus_line bus.AlreadyPut = refl
bus_line bus.TooManyFaults = refl
bus_line bus.NotAllPut = refl
bus_line bus.NotSealed = refl
bus_line bus.AlreadyTaken = refl
bus_line bus.NotAllTaken = refl
bus_line bus.BadCycles = refl
bus_line bus.Memory = refl

error_line : (e : StepError) → IsLine (step_error_text e)
error_line step.UnknownNode = refl
error_line step.WrongTurn = refl
error_line (step.Host e) = has_no_feed-append (codes "Host ") (host_error_name e) refl (host_line e)
error_line (step.Slot e) = has_no_feed-append (codes "Slot ") (slot_error_name e) refl (slot_line e)
error_line (step.Bus e) = has_no_feed-append (codes "Bus ") (bus_error_name e) refl (bus_line e)

-- ---- one line

words_line : (words : List (List ℕ)) → AreLines words → IsLine (line_of words)
words_line [] are = refl
words_line (word ∷ []) are = are.0
words_line (word ∷ next ∷ words) are =
    has_no_feed-append word (32 ∷ line_of (next ∷ words)) are.0 (words_line (next ∷ words) are.1)

one_line : (words : List (List ℕ)) → AreLines words → begins_block (line_text words) ≡ false
    → IsOneLine (line_text words)
one_line words are other =
    record { line = line_of words; is_line = words_line words are; reply_is = refl; no_block = other }

same_line : (words : List (List ℕ)) (text : List ℕ) → text ≡ line_text words → AreLines words
    → begins_block (line_text words) ≡ false → IsOneLine text
same_line words text is are other = subst IsOneLine (sym is) (one_line words are other)

refusal_line : (e : StepError) → IsOneLine (line_text (refusal_words e))
refusal_line e = one_line (refusal_words e) (refl, (error_line e, tt)) refl

window_line : (kind : List ℕ) (w : Opportunity) → IsLine kind → begins_block (line_text (window_words kind w)) ≡ false
    → IsOneLine (line_text (window_words kind w))
window_line kind w h other =
    one_line (window_words kind w) (
      h,
      (
        number_line w.number,
        (
          number_line w.cycle,
          (
            number_line w.minislot,
            (
              optional_line w.a,
              (
                optional_line w.b,
                tt,
              ),
            ),
          ),
        ),
      ),
    ) other

frame_line : (o : Option Fields) → IsOneLine (line_text (frame_reply o))
frame_line None = one_line (frame_reply None) (refl, (refl, tt)) refl
frame_line (Some f) =
    one_line (frame_words f)
    (refl, (number_line f.cycle, (number_line f.id, (indicators_line f, (bytes_line f.payload, tt))))) refl

letter_line : (c : Channel) → IsLine (letter_of c)
letter_line channel.A = refl
letter_line channel.B = refl

age_line : (fresh : Bool) → IsLine (age_word fresh)
age_line true = refl
age_line false = refl

received_line : (fresh : Bool) (arrival : Option Arrival) → IsOneLine (line_text (received_words fresh arrival))
received_line fresh None = frame_line None
received_line fresh (Some a) =
    let f = a.frame in
    one_line (received_words fresh (Some a)) (
      refl,
      (
        number_line f.cycle,
        (
          number_line f.id,
          (
            indicators_line f,
            (
              bytes_line f.payload,
              (letter_line a.origin.channel, (number_line a.cycle, (age_line fresh, tt))),
            ),
          ),
        ),
      ),
    ) refl

receipt_line : (fresh : Bool) (arrival : Option Arrival) (answer : Answer)
    → IsOneLine (receipt_text fresh arrival answer)
receipt_line fresh arrival (Ok reply) = received_line fresh arrival
receipt_line fresh arrival (Err e) = refusal_line e

answer_line : (answer : Answer) → IsOneLine (answer_text answer)
answer_line (Ok (reply.Committed receipt)) =
    one_line (reply_words (reply.Committed receipt)) (refl, (number_line receipt.entry, tt)) refl
answer_line (Ok (reply.Withdrawn of)) = one_line (withdrawn_words of) (refl, (optional_line of, tt)) refl
answer_line (Ok (reply.Frame frame)) = frame_line frame
answer_line (Ok (reply.Window window)) = window_line (codes "window") window refl refl
answer_line (Ok reply.Done) = one_line done_words (refl, tt) refl
answer_line (Err e) = refusal_line e

phase_line : (phase : Phase) (w : Opportunity) → IsOneLine (line_text (window_words (phase_word phase) w))
phase_line Collect w = window_line (codes "open") w refl refl
phase_line Sealed w = window_line (codes "sealed") w refl refl
phase_line Finished w = window_line (codes "open") w refl refl

now_line : (opened : Option Opportunity) (phase : Phase) → IsOneLine (line_text (now_words opened phase))
now_line None phase = one_line (codes "over" ∷ []) (refl, tt) refl
now_line (Some w) phase = phase_line phase w

moved_line : (hinders : Option StepError) (b : BusState) → IsOneLine (moved_text hinders b)
moved_line None b = now_line b.opened b.phase
moved_line (Some e) b = refusal_line e

memory_line : IsOneLine memory_text
memory_line = one_line (codes "refused" ∷ codes "Memory" ∷ []) (refl, (refl, tt)) refl

kept_line : (suits : Bool) (old new more : List FaultLine) (text : List ℕ)
    → KeepsIf suits old more text new → IsOneLine text
kept_line true old new more text (inl kept) = same_line done_words text kept.0 (refl, tt) refl
kept_line true old new more text (inr memory) = subst IsOneLine (sym memory.0) memory_line
kept_line false old new more text kept =
    same_line (bad_fault_words (length old)) text kept.0 (refl, (refl, (number_line (length old), tt))) refl

origin_line : (s : State) → IsOneLine (origin_text s)
origin_line s = one_line (codes "origin" ∷ from_word (last_origin s.entries) ∷ [])
    (refl, (from_line (last_origin s.entries), tt)) refl

moment_line : (cycle macrotick windows : ℕ) → IsOneLine (line_text (moment_words cycle macrotick windows))
moment_line cycle macrotick windows =
    one_line (moment_words cycle macrotick windows)
    (refl, (number_line cycle, (number_line macrotick, (number_line windows, tt)))) refl

at_line : (p : Parameters) (phase : Phase) (begun windows : ℕ) (opened : Option Opportunity)
    → IsOneLine (line_text (at_words p phase begun windows opened))
at_line p phase begun windows None = moment_line begun 0 windows
at_line p phase begun windows (Some w) = moment_line (cycle_at phase begun w) (start_of p w) windows

status_one_line : (c : Channel) (s : State) → IsOneLine (status_text c s)
status_one_line c s =
    let k = counts_of s.params c s.entries in
    one_line (codes "status" ∷ channel_words c k) (
      refl,
      (
        letter_line c,
        (
          number_line k.valid,
          (
            number_line k.syntax_errors,
            (
              number_line k.content_errors,
              (number_line k.boundary_violations, (number_line k.conflicts, tt)),
            ),
          ),
        ),
      ),
    ) refl

-- a line of a node, if the cluster has it
node_line : (known : Bool) (text : List ℕ) → IsOneLine text
    → IsOneLine (cond known text (line_text (refusal_words step.UnknownNode)))
node_line true text is = is
node_line false text is = refusal_line step.UnknownNode

-- ---- texts of whole lines

-- the text is empty, or its last byte is a line feed
abbrev ends_line : List ℕ → Bool
ends_line [] = true
ends_line (b ∷ []) = is_feed b
ends_line (b ∷ c ∷ bytes) = ends_line (c ∷ bytes)

ends_both : (xs ys : List ℕ) → ends_line xs ≡ true → ends_line ys ≡ true → ends_line (xs ++ ys) ≡ true
ends_both [] ys first second = second
ends_both (x ∷ []) [] first second = first
ends_both (x ∷ []) (y ∷ ys) first second = second
ends_both (x ∷ c ∷ xs) ys first second = ends_both (c ∷ xs) ys first second

ends_feed : (xs : List ℕ) → ends_line (xs ++ line_feed) ≡ true
ends_feed [] = refl
ends_feed (x ∷ []) = refl
ends_feed (x ∷ y ∷ xs) = ends_feed (y ∷ xs)

ends_text : (words : List (List ℕ)) → ends_line (line_text words) ≡ true
ends_text words = ends_feed (line_of words)

ends_each : {A : Type 0} (f : A → List ℕ) (xs : List A) → ((x : A) → ends_line (f x) ≡ true)
    → ends_line (flat_map f xs) ≡ true
ends_each f [] each = refl
ends_each f (x ∷ xs) each = ends_both (f x) (flat_map f xs) (each x) (ends_each f xs each)

none_left : (c : ℕ) (bytes : List ℕ) → c ∷ bytes ≡ [] → ⊥
none_left c bytes e = cc e

-- a byte more in front of the first line
more_in_line : (b c count : ℕ) (bytes : List ℕ) (lines : List (List ℕ)) → is_feed b ≡ false → AreLines lines
    → c ∷ bytes ≡ flat_map with_feed lines → length lines ≡ count → HasLines count (b ∷ c ∷ bytes)
more_in_line b c count bytes [] other are is counted = absurd (none_left c bytes is)
more_in_line b c count bytes (line ∷ lines) other are is counted = record {
  lines = (b ∷ line) ∷ lines;
  are_lines = (cons_no_feed b line other are.0, are.1);
  text_is = ap (λ (l : List ℕ). b ∷ l) is;
  count_is = counted;
}

-- an empty line in front
line_more : (b count : ℕ) (bytes : List ℕ) → b ≡ 10 → HasLines count bytes → HasLines (suc count) (b ∷ bytes)
line_more b count bytes feed has = record {
  lines = [] ∷ has.lines;
  are_lines = (refl, has.are_lines);
  text_is = ap (λ (x : ℕ). x ∷ bytes) feed ∙ ap (λ (l : List ℕ). 10 ∷ l) has.text_is;
  count_is = ap suc has.count_is;
}

count_feed : (b : ℕ) (bytes : List ℕ) → is_feed b ≡ true
    → count_by is_feed (b ∷ bytes) ≡ suc (count_by is_feed bytes)
count_feed b bytes h =
    let all : count_by is_feed (b ∷ bytes) ≡ cond (is_feed b) 1 0 + count_by is_feed bytes =
    sum_by-cons (λ (x : ℕ). cond (is_feed x) 1 0) b bytes in
    let next : 1 + count_by is_feed bytes ≡ suc (count_by is_feed bytes) = omega arith in
    let one : cond (is_feed b) 1 0 ≡ 1 = ap (λ (x : Bool). cond x 1 0) h in
    all ∙ ap (λ (n : ℕ). n + count_by is_feed bytes) one ∙ next

count_other : (b : ℕ) (bytes : List ℕ) → is_feed b ≡ false
    → count_by is_feed (b ∷ bytes) ≡ count_by is_feed bytes
count_other b bytes h =
    let all : count_by is_feed (b ∷ bytes) ≡ cond (is_feed b) 1 0 + count_by is_feed bytes =
    sum_by-cons (λ (x : ℕ). cond (is_feed x) 1 0) b bytes in
    let same : 0 + count_by is_feed bytes ≡ count_by is_feed bytes = omega arith in
    let none : cond (is_feed b) 1 0 ≡ 0 = ap (λ (x : Bool). cond x 1 0) h in
    all ∙ ap (λ (n : ℕ). n + count_by is_feed bytes) none ∙ same

no_lines : HasLines 0 []
no_lines = record { lines = []; are_lines = tt; text_is = refl; count_is = refl }

-- a text that ends with a line feed has as many lines as line feeds
has_lines : (text : List ℕ) → ends_line text ≡ true → HasLines (count_by is_feed text) text
has_lines [] ends = no_lines
has_lines (b ∷ []) ends =
    subst (λ (n : ℕ). HasLines n (b ∷ [])) (sym (count_feed b [] ends)) (line_more b 0 [] (eqb-true b 10 ends) no_lines)
has_lines (b ∷ c ∷ bytes) ends =
    let rest = has_lines (c ∷ bytes) ends in
    elim (cases_Bool (is_feed b)) [
      | inl feed ↦
          subst (λ (n : ℕ). HasLines n (b ∷ c ∷ bytes)) (sym (count_feed b (c ∷ bytes) feed))
          (line_more b (count_by is_feed (c ∷ bytes)) (c ∷ bytes) (eqb-true b 10 feed) rest)
      | inr other ↦
          subst (λ (n : ℕ). HasLines n (b ∷ c ∷ bytes)) (sym (count_other b (c ∷ bytes) other))
          (more_in_line b c (count_by is_feed (c ∷ bytes)) bytes rest.lines other rest.are_lines rest.text_is
          rest.count_is)
    ]

-- ---- blocks

-- the text isn't empty, and its last byte is a line feed
abbrev ends_more : List ℕ → Bool
ends_more [] = false
ends_more (b ∷ []) = is_feed b
ends_more (b ∷ c ∷ bytes) = ends_more (c ∷ bytes)

more_on : (b : ℕ) (bytes : List ℕ) → ends_more bytes ≡ true → ends_more (b ∷ bytes) ≡ true
more_on b [] ends = absurd (let none : ⊥ = cc ends in none)
more_on b (c ∷ bytes) ends = ends

more_ends : (bytes : List ℕ) → ends_more bytes ≡ true → ends_line bytes ≡ true
more_ends [] ends = refl
more_ends (b ∷ []) ends = ends
more_ends (b ∷ c ∷ bytes) ends = more_ends (c ∷ bytes) ends

-- a text that ends with a line, whatever stands before it
whole_end : (xs ys : List ℕ) → ends_more ys ≡ true → ends_more (xs ++ ys) ≡ true
whole_end [] ys ends = ends
whole_end (x ∷ xs) ys ends = more_on x (xs ++ ys) (whole_end xs ys ends)

report_ends : (s : State) → ends_line (report_text s) ≡ true
report_ends s =
    let b = channel_report s channel.B in
    let a = channel_report s channel.A in
    let queue = queue_report s s.plan.queue in
    let words = channel_words channel.B (counts_of s.params channel.B s.entries) in
    more_ends (report_text s) (whole_end (reports_from s 0 s.plan.buffers ++ queue) (a ++ b)
    (whole_end a b (whole_end (line_of words) line_feed refl)))

trace_ends : (version : Version) (s : State) → ends_line (trace_text version s) ≡ true
trace_ends version s =
    more_ends (trace_text version s) (whole_end (body_text version s) (end_line ++ line_feed) refl)

abbrev sent_words : Sent → List (List ℕ)
sent_words t = codes "sent" ∷ decimal t.node ∷ letter_of t.channel ∷ kind_word t.babble ∷ fate_word t.fate
    ∷ hex_text t.bytes.items ∷ []

sent_ends : (t : Sent) → ends_line (sent_line t) ≡ true
sent_ends t = ends_text (sent_words t)

corrupt_ends : (letter : List ℕ) (o : Option ℕ) → ends_line (corrupt_lines letter o) ≡ true
corrupt_ends letter None = refl
corrupt_ends letter (Some bit) = ends_text (codes "corrupt" ∷ letter ∷ decimal bit ∷ [])

sealed_ends : (r : Recorded) → ends_line (sealed_text r) ≡ true
sealed_ends r =
    let head = line_text (window_words (codes "window") r.window) in
    let sent = flat_map sent_line r.sent in
    let a = corrupt_lines (codes "A") r.corrupt_a in
    let b = corrupt_lines (codes "B") r.corrupt_b in
    ends_both (head ++ sent ++ a) b
    (ends_both (head ++ sent) a
    (ends_both head sent (ends_text (window_words (codes "window") r.window)) (ends_each sent_line r.sent sent_ends))
    (corrupt_ends (codes "A") r.corrupt_a))
    (corrupt_ends (codes "B") r.corrupt_b)

block_reply : (text reply : List ℕ) → ends_line text ≡ true → IsBlock text reply → IsOneLine reply ⊎ IsBlockReply reply
block_reply text reply ends (inl is) =
    inr (record { count = count_by is_feed text; after = text; reply_is = is; counted = has_lines text ends })
block_reply text reply ends (inr is) = inl (subst IsOneLine (sym is) memory_line)

block_of : (known : Bool) (text reply : List ℕ) → ends_line text ≡ true → IsBlockIf known text reply
    → IsOneLine reply ⊎ IsBlockReply reply
block_of true text reply ends is = block_reply text reply ends is
block_of false text reply ends is = inl (subst IsOneLine (sym is) (refusal_line step.UnknownNode))

record_of : (r : Option Recorded) (reply : List ℕ) → IsRecordOf r reply → IsOneLine reply ⊎ IsBlockReply reply
record_of None reply is =
    inl (same_line (codes "refused" ∷ codes "NoWindow" ∷ []) reply is (refl, (refl, tt)) refl)
record_of (Some r) reply is = block_reply (sealed_text r) reply (sealed_ends r) is

-- ---- the law

request_line : (terms : Terms) (old : SessionState) (asked : Request) (text : List ℕ) (new : SessionState)
    → DoesRequest terms old asked text new → IsReplyTo (Some asked) text
request_line terms old (request.Event event) text new does = subst IsOneLine (sym does.2) (answer_line does.0)
request_line terms old (request.Receive node task buffer) text new does =
    let arrival = received_by (interface_at old.world node) buffer in
    subst IsOneLine (sym does.2)
    (receipt_line (is_fresh old.noted.latest (place_of node buffer) arrival) arrival does.0)
request_line terms old (request.Next node task) text new does =
    subst IsOneLine (sym does.2) (receipt_line true (oldest_of (interface_at old.world node)) does.0)
request_line terms old (request.Fault line) text new does =
    kept_line does.0.0 old.noted.faults new.noted.faults (line ∷ []) text does.0.2
request_line terms old (request.Faults a b) text new does =
    kept_line does.0.0 old.noted.faults new.noted.faults (a ∷ b ∷ []) text does.0.2
request_line terms old request.Forget text new does = same_line done_words text does.0 (refl, tt) refl
request_line terms old request.Window text new does =
    subst IsOneLine (sym does.2) (moved_line does.0 new.world.bus)
request_line terms old (request.Run cycles) text new does =
    subst IsOneLine (sym does.2) (moved_line does.0 new.world.bus)
request_line terms old request.Now text new does =
    subst IsOneLine (sym does.1) (now_line old.world.bus.opened old.world.bus.phase)
request_line terms old request.At text new does =
    let b = old.world.bus in
    subst IsOneLine (sym does.1)
    (at_line terms.cluster.params b.phase (cycles_begun b.sealed) (length b.sealed) b.opened)
request_line terms old (request.Report node) text new does =
    block_of (has_node old.world node) (report_text (interface_at old.world node)) text
    (report_ends (interface_at old.world node)) does.1
request_line terms old (request.Status node channel) text new does =
    subst IsOneLine (sym does.1)
    (node_line (has_node old.world node) (status_text channel (interface_at old.world node))
    (status_one_line channel (interface_at old.world node)))
request_line terms old (request.Trace node) text new does =
    block_of (has_node old.world node) (trace_text Three (interface_at old.world node)) text
    (trace_ends Three (interface_at old.world node)) does.1
request_line terms old (request.Origin node) text new does =
    subst IsOneLine (sym does.1) (node_line (has_node old.world node) (origin_text (interface_at old.world node))
    (origin_line (interface_at old.world node)))
request_line terms old (request.Record window) text new does =
    record_of (slice_get old.world.bus.sealed window) text does.1

reply_line : (terms : Terms) (old : SessionState) (number : ℕ) (asked : Option Request) (text : List ℕ)
    (new : SessionState) → DoesIf terms old number asked text new → IsReplyTo asked text
reply_line terms old number None text new does =
    same_line (bad_line_words number) text does.0 (refl, (refl, (number_line number, tt))) refl
reply_line terms old number (Some asked) text new does = request_line terms old asked text new does

pub are_whole : AreWhole
are_whole terms old number line reply new does = reply_line terms old number (asked_in line) reply new does
