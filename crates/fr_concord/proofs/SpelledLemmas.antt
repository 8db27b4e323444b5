-- The spelling of a request is read as this request.
use Rattle.std.proofs.Common.{◌≡◌, ℕ, ◌<◌, ◌≤◌, false, List, [], ◌∷◌, length, codes, Some, None, refl, sym, ap, ap₂}
use Rattle.std.proofs.Common.{◌∙◌, arith}
use Rattle.std.specs.Fmt.{decimal}
use Rattle.std.proofs.lemmas.Bool.{le-ltb}
use Rattle.std.specs.Prelude.{nat_lt}
use Rattle.fr_bus.specs.declared.fault.Fault.{Fault}
use Rattle.fr_bus.specs.declared.fault.Fault.TheVariants.{Babble, Mute, Corrupt}
use Rattle.fr_concord.specs.Spelled.{both_line_words, both_words, injected_words, event_words, request_words, spelled}
use Rattle.fr_concord.specs.Spelled.{IsSpelledEvent, IsSpelledRequest, AreReadAgain}
use Rattle.fr_core.specs.declared.event.Event.{Event}
use Rattle.fr_core.specs.declared.event.Event.TheVariants as event
use Rattle.fr_core.specs.Steps.{event_of}
use Rattle.fr_frame.specs.Payload.{IsPayload}
use Rattle.fr_interface.specs.declared.call.Call.{Call}
use Rattle.fr_interface.specs.declared.call.Call.TheVariants.{Commit, Withdraw, Read, Pop}
use Rattle.fr_journal.specs.Entries.{AreBytes}
use Rattle.fr_lines.proofs.PlanPartLemmas.{payload_again}
use Rattle.fr_lines.proofs.WordLemmas.{IsWord, number_word, payload_word, long_word}
use Rattle.fr_runs.specs.declared.cycles.RunCycles.{RunCycles}
use Rattle.fr_runs.specs.declared.fault_line.FaultLine.{FaultLine}
use Rattle.fr_runs.specs.declared.fault_line.FaultPlace.{FaultPlace}
use Rattle.fr_scenario.proofs.FaultLineLemmas.{babble_line, corrupt_line, mute_line, said_cycles_word, said_place_word}
use Rattle.fr_scenario.proofs.FaultLineLemmas.{said_same}
use Rattle.fr_scenario.proofs.PartLemmas.{channel_again, channel_plain}
use Rattle.fr_scenario.specs.CallReading.{call_in, commit_in, withdraw_in, read_in, pop_in}
use Rattle.fr_scenario.specs.declared.fault_lines.LineFaults.TheVariants.{Both}
use Rattle.fr_scenario.specs.FaultLines.{faults_in, faults_said}
use Rattle.fr_scenario.specs.Parts.{channel_word, cycles_word, place_word}
use Rattle.fr_scenario.specs.Spelled.{IsSpelledFault, AreSaidCycles, IsSaidPlace, IsSaidFaultLine}
use Rattle.fr_scenario.specs.Spelling.{kind_word, call_words, fault_words, fault_line_words}
use Rattle.fr_scenario.specs.Statements.{fault_at}
use Rattle.fr_scenario.specs.StatementText.{on_channel, AreSaidFaultLines}
use Rattle.fr_session.specs.declared.request.Request.{Request}
use Rattle.fr_session.specs.declared.request.Request.TheVariants as request
use Rattle.fr_session.specs.Lines.{longest_line}
use Rattle.fr_session.specs.Reading.{host_request, node_in, step_of, step_request, babble_in, mute_in, corrupt_in}
use Rattle.fr_session.specs.Reading.{fault_of, fault_request, run_in, record_in, report_in, status_in, trace_in}
use Rattle.fr_session.specs.Reading.{origin_in, query_request, other_request, event_request, request_in, next_in}
use Rattle.fr_session.specs.Reading.{receive_in, request_or_faults, with_faults}
use Rattle.fr_slots.specs.declared.channel.Channel.TheVariants as channel
use Rattle.fr_slots.specs.declared.channel.Channels.TheVariants as channels
use Rattle.fr_text.proofs.HexTextLemmas.{bytes_again, length-hex_text}
use Rattle.fr_text.proofs.LineLemmas.{words_of-line_of, has_no_feed-line_of, length-line_of-le}
use Rattle.fr_text.proofs.NumberLemmas.{number_again}
use Rattle.fr_text.proofs.PlainLemmas.{IsPlain-hex_text}
use Rattle.fr_text.specs.Plain.{ArePlain}
use Rattle.fr_text.specs.Spaces.{line_of, words_of}
use Rattle.fr_text.specs.Spelling.{hex_text}

-- ---- the words of a request are read as it

abbrev IsCall : Call → Type 0
IsCall (Commit buffer payload) = (buffer < 64) × IsPayload payload × AreBytes payload
IsCall (Withdraw buffer) = buffer < 64
IsCall (Read buffer) = buffer < 64
IsCall Pop = Unit {0}

call_again : (c : Call) → IsCall c → call_in (kind_word c) (call_words c) ≡ Some c
unfolding call_in commit_in withdraw_in read_in pop_in
call_again (Commit buffer payload) fits =
    rw (number_again 64 buffer fits.0 (omega arith), payload_again payload fits.1 fits.2) refl
call_again (Withdraw buffer) fits = rw (number_again 64 buffer fits (omega arith)) refl
call_again (Read buffer) fits = rw (number_again 64 buffer fits (omega arith)) refl
call_again Pop fits = refl

node_again : (n : ℕ) → n < 16 → node_in (decimal n ∷ []) ≡ Some n
unfolding node_in
node_again n fits = number_again 16 n fits (omega arith)

host_again : (n t : ℕ) (c : Call) → n < 16 → t < 8 → IsCall c
    → host_request (kind_word c) (decimal n ∷ decimal t ∷ call_words c) ≡ Some (event_of n t c)
unfolding host_request
host_again n t c node task fits =
    rw (number_again 16 n node (omega arith), number_again 8 t task (omega arith), call_again c fits) refl

event_again : (e : Event) → IsSpelledEvent e → request_in (event_words e) ≡ Some (request.Event e)
unfolding request_in event_request step_request step_of fault_request fault_of babble_in mute_in corrupt_in
    other_request
event_again (event.Commit n t b p) fits = rw (host_again n t (Commit b p) fits.0 fits.1 (fits.2, fits.3, fits.4)) refl
event_again (event.Withdraw n t b) fits = rw (host_again n t (Withdraw b) fits.0 fits.1 fits.2) refl
event_again (event.Read n t b) fits = rw (host_again n t (Read b) fits.0 fits.1 fits.2) refl
event_again (event.Pop n t) fits = rw (host_again n t Pop fits.0 fits.1 tt) refl
event_again (event.Look n) fits = rw (node_again n fits) refl
event_again (event.Fetch n) fits = rw (node_again n fits) refl
event_again (event.Put n) fits = rw (node_again n fits) refl
event_again (event.Take n) fits = rw (node_again n fits) refl
event_again (event.Observe n) fits = rw (node_again n fits) refl
event_again (event.Inject (Babble n c bytes)) fits =
    rw (number_again 16 n fits.0 (omega arith), channel_again c, bytes_again 262 bytes.items fits.2 fits.1) refl
event_again (event.Inject (Mute n c)) fits = rw (number_again 16 n fits (omega arith), channel_again c) refl
event_again (event.Inject (Corrupt c bit)) fits = rw (channel_again c, number_again 65536 bit fits (omega arith)) refl
event_again event.Seal fits = refl
event_again event.Advance fits = refl

-- a fault line has more words than each other request of its name
fault_no_event : (cycles place : List ℕ) (f : Fault) → request_in (fault_words cycles place f) ≡ None
unfolding request_in event_request fault_request fault_of babble_in mute_in corrupt_in
fault_no_event cycles place (Babble n c bytes) = refl
fault_no_event cycles place (Mute n c) = refl
fault_no_event cycles place (Corrupt c bit) = refl

both_no_event : (cycles place : List ℕ) (f : Fault) → request_in (both_words cycles place f) ≡ None
unfolding request_in event_request fault_request fault_of babble_in mute_in corrupt_in
both_no_event cycles place (Babble n c bytes) = refl
both_no_event cycles place (Mute n c) = refl
both_no_event cycles place (Corrupt c bit) = refl

both_faults : (f : Fault) (y : RunCycles) (p : FaultPlace) → IsSpelledFault f → AreSaidCycles y → IsSaidPlace p
    → faults_in (line_of (both_words (cycles_word y) (place_word p) f))
    ≡ Some (Both (fault_at (on_channel channel.A f) y p) (fault_at (on_channel channel.B f) y p))
both_faults (Babble n c bytes) y p fits cycles place =
    ap faults_said (babble_line [] channels.Both y p cycles place n bytes fits)
both_faults (Mute n c) y p fits cycles place = ap faults_said (mute_line [] channels.Both y p cycles place n fits)
both_faults (Corrupt c bit) y p fits cycles place =
    ap faults_said (corrupt_line [] channels.Both y p cycles place bit fits)

both_again : (a b : FaultLine) → AreSaidFaultLines a b
    → with_faults (faults_in (line_of (both_line_words a))) ≡ Some (request.Faults a b)
both_again a b fits =
    let one = fits.first in
    let first = ap (λ (f : Fault). fault_at f a.cycles a.place) (sym fits.on_a) in
    ap with_faults (both_faults a.fault a.cycles a.place one.fault_fits one.cycles_fit one.place_fits)
    ∙ ap₂ (λ (x y : FaultLine). Some (request.Faults x y)) first (sym fits.on_b)

request_again : (r : Request) → IsSpelledRequest r
    → request_or_faults (request_in (request_words r)) (spelled r) ≡ Some r
unfolding request_in other_request query_request run_in receive_in next_in record_in report_in status_in trace_in
    origin_in
request_again (request.Event e) fits = rw (event_again e fits) refl
request_again (request.Receive n t b) fits =
    rw (
      number_again 16 n fits.0 (omega arith),
      number_again 8 t fits.1 (omega arith),
      number_again 64 b fits.2 (omega arith),
    ) refl
request_again (request.Next n t) fits =
    rw (number_again 16 n fits.0 (omega arith), number_again 8 t fits.1 (omega arith)) refl
request_again (request.Fault line) fits =
    rw (fault_no_event (cycles_word line.cycles) (place_word line.place) line.fault)
    (ap with_faults (said_same [] line fits))
request_again (request.Faults a b) fits =
    rw (both_no_event (cycles_word a.cycles) (place_word a.place) a.fault) (both_again a b fits)
request_again request.Forget fits = refl
request_again request.Window fits = refl
request_again (request.Run n) fits = rw (number_again 1025 n (omega arith) (omega arith)) refl
request_again request.Now fits = refl
request_again request.At fits = refl
request_again (request.Report n) fits = rw (node_again n fits) refl
request_again (request.Status n c) fits = rw (number_again 16 n fits (omega arith), channel_again c) refl
request_again (request.Trace n) fits = rw (node_again n fits) refl
request_again (request.Origin n) fits = rw (node_again n fits) refl
request_again (request.Record n) fits = rw (number_again 4294967296 n (omega arith) (omega arith)) refl

-- ---- the words are plain and few

-- the words are plain, and the line is short
pub record IsLineOf (words : List (List ℕ)) : Type 0 where
  pub plain : ArePlain words
  pub short : length (line_of words) ≤ longest_line
  pub cut : words_of (line_of words) ≡ words

line_so : (word : List ℕ) (words : List (List ℕ)) → ArePlain (word ∷ words)
    → length (line_of (word ∷ words)) ≤ longest_line → IsLineOf (word ∷ words)
line_so word words plain short = record { plain = plain; short = short; cut = words_of-line_of word words plain }

-- one word
alone_so : (word : List ℕ) → ArePlain (word ∷ []) → length word ≤ 100 → IsLineOf (word ∷ [])
alone_so word plain few =
    let all = length-line_of-le (word ∷ []) in line_so word [] plain (omega arith)

-- a word, and a number
numbered_so : (word : List ℕ) (digits n : ℕ) → ArePlain (word ∷ []) → length word ≤ 100 → IsWord digits (decimal n)
    → digits ≤ 20 → IsLineOf (word ∷ decimal n ∷ [])
numbered_so word digits n plain few number most =
    let all = length-line_of-le (word ∷ decimal n ∷ []) in
    let short = number.short in
    line_so word (decimal n ∷ []) (plain.0, (number.plain, tt)) (omega arith)

node_word : (n : ℕ) → n < 16 → IsWord 2 (decimal n)
node_word n fits = number_word 2 n (omega arith) (omega arith) (omega arith)

task_word : (n : ℕ) → n < 8 → IsWord 1 (decimal n)
task_word n fits = number_word 1 n (omega arith) (omega arith) (omega arith)

buffer_word : (n : ℕ) → n < 64 → IsWord 2 (decimal n)
buffer_word n fits = number_word 2 n (omega arith) (omega arith) (omega arith)

bytes_word : (bs : List ℕ) → length bs ≤ 262 → IsWord 525 (hex_text bs)
bytes_word bs few = let digits = length-hex_text bs in record { plain = IsPlain-hex_text bs; short = omega arith }

-- three numbers after the first word
places_so : (word : List ℕ) (n t b : ℕ) → ArePlain (word ∷ []) → length word ≤ 100 → n < 16 → t < 8 → b < 64
    → IsLineOf (word ∷ decimal n ∷ decimal t ∷ decimal b ∷ [])
places_so word n t b plain few node task buffer =
    let first = node_word n node in
    let second = task_word t task in
    let third = buffer_word b buffer in
    let all = length-line_of-le (word ∷ decimal n ∷ decimal t ∷ decimal b ∷ []) in
    line_so word (decimal n ∷ decimal t ∷ decimal b ∷ [])
    (plain.0, (first.plain, (second.plain, (third.plain, tt)))) (omega (arith, first.short, second.short, third.short))

injected_so : (f : Fault) → IsSpelledFault f → IsLineOf (injected_words f)
injected_so (Babble n c bytes) fits =
    let first = node_word n fits.0 in
    let second = channel_plain c in
    let third = bytes_word bytes.items fits.1 in
    let all = length-line_of-le (injected_words (Babble n c bytes)) in
    line_so (codes "babble") (decimal n ∷ channel_word c ∷ hex_text bytes.items ∷ [])
    (refl, (first.plain, (second.plain, (third.plain, tt)))) (omega (arith, first.short, second.short, third.short))
injected_so (Mute n c) fits =
    let first = node_word n fits in
    let second = channel_plain c in
    let all = length-line_of-le (injected_words (Mute n c)) in
    line_so (codes "mute") (decimal n ∷ channel_word c ∷ [])
    (refl, (first.plain, (second.plain, tt))) (omega (arith, first.short, second.short))
injected_so (Corrupt c bit) fits =
    let first = channel_plain c in
    let second = number_word 5 bit (omega arith) (omega arith) (omega arith) in
    let all = length-line_of-le (injected_words (Corrupt c bit)) in
    line_so (codes "corrupt") (channel_word c ∷ decimal bit ∷ [])
    (refl, (first.plain, (second.plain, tt))) (omega (arith, first.short, second.short))

faulty_so : (f : Fault) (cycles : RunCycles) (place : FaultPlace) → IsSpelledFault f → AreSaidCycles cycles
    → IsSaidPlace place → IsLineOf (fault_words (cycles_word cycles) (place_word place) f)
faulty_so (Babble n c bytes) cycles place fits cycles_fit place_fits =
    let first = node_word n fits.0 in
    let second = channel_plain c in
    let third = said_cycles_word cycles cycles_fit in
    let fourth = said_place_word place place_fits in
    let fifth = bytes_word bytes.items fits.1 in
    let all = length-line_of-le (fault_words (cycles_word cycles) (place_word place) (Babble n c bytes)) in
    line_so (codes "babble")
    (decimal n ∷ channel_word c ∷ cycles_word cycles ∷ place_word place ∷ hex_text bytes.items ∷ [])
    (refl, (first.plain, (second.plain, (third.plain, (fourth.plain, (fifth.plain, tt))))))
    (omega (arith, first.short, second.short, third.short, fourth.short, fifth.short))
faulty_so (Mute n c) cycles place fits cycles_fit place_fits =
    let first = node_word n fits in
    let second = channel_plain c in
    let third = said_cycles_word cycles cycles_fit in
    let fourth = said_place_word place place_fits in
    let all = length-line_of-le (fault_words (cycles_word cycles) (place_word place) (Mute n c)) in
    line_so (codes "mute") (decimal n ∷ channel_word c ∷ cycles_word cycles ∷ place_word place ∷ [])
    (refl, (first.plain, (second.plain, (third.plain, (fourth.plain, tt)))))
    (omega (arith, first.short, second.short, third.short, fourth.short))
faulty_so (Corrupt c bit) cycles place fits cycles_fit place_fits =
    let first = channel_plain c in
    let second = said_cycles_word cycles cycles_fit in
    let third = said_place_word place place_fits in
    let fourth = number_word 5 bit (omega arith) (omega arith) (omega arith) in
    let all = length-line_of-le (fault_words (cycles_word cycles) (place_word place) (Corrupt c bit)) in
    line_so (codes "corrupt") (channel_word c ∷ cycles_word cycles ∷ place_word place ∷ decimal bit ∷ [])
    (refl, (first.plain, (second.plain, (third.plain, (fourth.plain, tt)))))
    (omega (arith, first.short, second.short, third.short, fourth.short))

fault_so : (line : FaultLine) → IsSaidFaultLine line → IsLineOf (fault_line_words line)
fault_so line fits = faulty_so line.fault line.cycles line.place fits.fault_fits fits.cycles_fit fits.place_fits

on_both_so : (f : Fault) (cycles : RunCycles) (place : FaultPlace) → IsSpelledFault f → AreSaidCycles cycles
    → IsSaidPlace place → IsLineOf (both_words (cycles_word cycles) (place_word place) f)
on_both_so (Babble n c bytes) cycles place fits cycles_fit place_fits =
    let first = node_word n fits.0 in
    let third = said_cycles_word cycles cycles_fit in
    let fourth = said_place_word place place_fits in
    let fifth = bytes_word bytes.items fits.1 in
    let all = length-line_of-le (both_words (cycles_word cycles) (place_word place) (Babble n c bytes)) in
    line_so (codes "babble")
    (decimal n ∷ codes "AB" ∷ cycles_word cycles ∷ place_word place ∷ hex_text bytes.items ∷ [])
    (refl, (first.plain, (refl, (third.plain, (fourth.plain, (fifth.plain, tt))))))
    (omega (arith, first.short, third.short, fourth.short, fifth.short))
on_both_so (Mute n c) cycles place fits cycles_fit place_fits =
    let first = node_word n fits in
    let third = said_cycles_word cycles cycles_fit in
    let fourth = said_place_word place place_fits in
    let all = length-line_of-le (both_words (cycles_word cycles) (place_word place) (Mute n c)) in
    line_so (codes "mute") (decimal n ∷ codes "AB" ∷ cycles_word cycles ∷ place_word place ∷ [])
    (refl, (first.plain, (refl, (third.plain, (fourth.plain, tt)))))
    (omega (arith, first.short, third.short, fourth.short))
on_both_so (Corrupt c bit) cycles place fits cycles_fit place_fits =
    let second = said_cycles_word cycles cycles_fit in
    let third = said_place_word place place_fits in
    let fourth = number_word 5 bit (omega arith) (omega arith) (omega arith) in
    let all = length-line_of-le (both_words (cycles_word cycles) (place_word place) (Corrupt c bit)) in
    line_so (codes "corrupt") (codes "AB" ∷ cycles_word cycles ∷ place_word place ∷ decimal bit ∷ [])
    (refl, (refl, (second.plain, (third.plain, (fourth.plain, tt)))))
    (omega (arith, second.short, third.short, fourth.short))

both_so : (a b : FaultLine) → AreSaidFaultLines a b → IsLineOf (both_line_words a)
both_so a b fits =
    let one = fits.first in
    on_both_so a.fault a.cycles a.place one.fault_fits one.cycles_fit one.place_fits

event_so : (e : Event) → IsSpelledEvent e → IsLineOf (event_words e)
event_so (event.Commit n t b p) fits =
    let first = node_word n fits.0 in
    let second = task_word t fits.1 in
    let third = buffer_word b fits.2 in
    let fourth = payload_word p fits.3.short in
    let all = length-line_of-le (event_words (event.Commit n t b p)) in
    line_so (codes "commit") (decimal n ∷ decimal t ∷ decimal b ∷ hex_text p ∷ [])
    (refl, (first.plain, (second.plain, (third.plain, (fourth.plain, tt)))))
    (omega (arith, first.short, second.short, third.short, fourth.short))
event_so (event.Withdraw n t b) fits = places_so (codes "withdraw") n t b (refl, tt) (omega arith) fits.0 fits.1 fits.2
event_so (event.Read n t b) fits = places_so (codes "read") n t b (refl, tt) (omega arith) fits.0 fits.1 fits.2
event_so (event.Pop n t) fits =
    let first = node_word n fits.0 in
    let second = task_word t fits.1 in
    let all = length-line_of-le (event_words (event.Pop n t)) in
    line_so (codes "pop") (decimal n ∷ decimal t ∷ []) (refl, (first.plain, (second.plain, tt)))
    (omega (arith, first.short, second.short))
event_so (event.Look n) fits = numbered_so (codes "look") 2 n (refl, tt) (omega arith) (node_word n fits) (omega arith)
event_so (event.Fetch n) fits =
    numbered_so (codes "fetch") 2 n (refl, tt) (omega arith) (node_word n fits) (omega arith)
event_so (event.Put n) fits = numbered_so (codes "put") 2 n (refl, tt) (omega arith) (node_word n fits) (omega arith)
event_so (event.Take n) fits = numbered_so (codes "take") 2 n (refl, tt) (omega arith) (node_word n fits) (omega arith)
event_so (event.Observe n) fits =
    numbered_so (codes "observe") 2 n (refl, tt) (omega arith) (node_word n fits) (omega arith)
event_so (event.Inject f) fits = injected_so f fits
event_so event.Seal fits = alone_so (codes "seal") (refl, tt) (omega arith)
event_so event.Advance fits = alone_so (codes "advance") (refl, tt) (omega arith)

request_so : (r : Request) → IsSpelledRequest r → IsLineOf (request_words r)
request_so (request.Event e) fits = event_so e fits
request_so (request.Receive n t b) fits =
    places_so (codes "receive") n t b (refl, tt) (omega arith) fits.0 fits.1 fits.2
request_so (request.Next n t) fits =
    let first = node_word n fits.0 in
    let second = task_word t fits.1 in
    let all = length-line_of-le (request_words (request.Next n t)) in
    line_so (codes "next") (decimal n ∷ decimal t ∷ []) (refl, (first.plain, (second.plain, tt)))
    (omega (arith, first.short, second.short))
request_so (request.Fault line) fits = fault_so line fits
request_so (request.Faults a b) fits = both_so a b fits
request_so request.Forget fits = alone_so (codes "forget") (refl, tt) (omega arith)
request_so request.Window fits = alone_so (codes "window") (refl, tt) (omega arith)
request_so (request.Run n) fits =
    numbered_so (codes "run") 4 n (refl, tt) (omega arith) (number_word 4 n (omega arith) (omega arith) (omega arith))
    (omega arith)
request_so request.Now fits = alone_so (codes "now") (refl, tt) (omega arith)
request_so request.At fits = alone_so (codes "at") (refl, tt) (omega arith)
request_so (request.Report n) fits =
    numbered_so (codes "report") 2 n (refl, tt) (omega arith) (node_word n fits) (omega arith)
request_so (request.Status n c) fits =
    let first = node_word n fits in
    let second = channel_plain c in
    let all = length-line_of-le (request_words (request.Status n c)) in
    line_so (codes "status") (decimal n ∷ channel_word c ∷ [])
    (refl, (first.plain, (second.plain, tt))) (omega (arith, first.short, second.short))
request_so (request.Trace n) fits =
    numbered_so (codes "trace") 2 n (refl, tt) (omega arith) (node_word n fits) (omega arith)
request_so (request.Origin n) fits =
    numbered_so (codes "origin") 2 n (refl, tt) (omega arith) (node_word n fits) (omega arith)
request_so (request.Record n) fits =
    numbered_so (codes "record") 10 n (refl, tt) (omega arith) (long_word n fits) (omega arith)

-- ---- the law

short_test : (line : List ℕ) → length line ≤ longest_line → nat_lt longest_line (length line) ≡ false
short_test line few = le-ltb longest_line (length line) few

pub read_again : AreReadAgain
read_again r fits =
    let so = request_so r fits in
    record {
      one_line = has_no_feed-line_of (request_words r) so.plain;
      short = so.short;
      read = rw (short_test (spelled r) so.short)
          (ap (λ (ws : List (List ℕ)). request_or_faults (request_in ws) (spelled r)) so.cut ∙ request_again r fits);
    }
