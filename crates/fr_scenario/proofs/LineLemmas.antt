-- A line of a scenario spells at most one value, and the words of a spelled line are read as this value.
use Rattle.std.proofs.Common.{◌≡◌, ℕ, ◌<◌, ◌≤◌, inl, inr, true, false, List, [], ◌∷◌, length, codes, Some, refl, sym}
use Rattle.std.proofs.Common.{ap, ◌∙◌, arith}
use Rattle.std.specs.Fmt.{decimal}
use Rattle.std.specs.Str.{bytes_eq}
use Rattle.fr_bus.specs.declared.fault.Fault.{Fault}
use Rattle.fr_bus.specs.declared.fault.Fault.TheVariants.{Babble, Mute, Corrupt}
use Rattle.fr_interface.specs.declared.call.Call.{Call}
use Rattle.fr_interface.specs.declared.call.Call.TheVariants.{Commit, Withdraw, Read, Pop}
use Rattle.fr_core.specs.declared.script.Line.{Line}
use Rattle.fr_lines.proofs.PartLemmas.{word_or}
use Rattle.fr_lines.proofs.WordLemmas.{IsWord, number_word, payload_word}
use Rattle.fr_lines.specs.PartReading.{channel_in}
use Rattle.fr_lines.specs.Spelling.{end_line}
use Rattle.fr_runs.specs.declared.cycles.RunCycles.{RunCycles}
use Rattle.fr_runs.specs.declared.fault_line.FaultPlace.{FaultPlace}
use Rattle.fr_scenario.proofs.CallLemmas.{told_takes, told_again}
use Rattle.fr_scenario.proofs.PartLemmas.{channel_takes, channel_again, channel_plain, run_cycle_takes, run_cycle_again}
use Rattle.fr_scenario.proofs.PartLemmas.{run_cycle_plain, cycles_takes, cycles_again, cycles_plain, place_takes}
use Rattle.fr_scenario.proofs.PartLemmas.{place_again, place_plain}
use Rattle.fr_scenario.specs.declared.spelled.SpelledLine.{SpelledLine}
use Rattle.fr_scenario.specs.declared.spelled.SpelledLine.TheVariants.{Host, Fault as FaultOf}
use Rattle.fr_scenario.specs.declared.version.Version.{Version}
use Rattle.fr_scenario.specs.declared.version.Version.TheVariants.{One, Two}
use Rattle.fr_scenario.specs.LineReading.{host_line, host_in, told_call_in, fault_line, babble_in, mute_in, corrupt_in}
use Rattle.fr_scenario.specs.LineReading.{line_in}
use Rattle.fr_scenario.specs.PartReading.{run_cycle_in, cycles_in, place_in}
use Rattle.fr_scenario.specs.Parts.{channel_word, cycles_word, place_word}
use Rattle.fr_scenario.specs.Spelled.{IsRunCycle, IsSpelledCall, IsSpelledHost, IsSpelledFault, AreSpelledCycles}
use Rattle.fr_scenario.specs.Spelled.{IsSpelledPlace, IsSpelledLine}
use Rattle.fr_scenario.specs.Spelling.{kind_word, call_words, placed_words, fault_words, line_words}
use Rattle.fr_text.proofs.BindLemmas.{bind_some}
use Rattle.fr_text.proofs.HexTextLemmas.{bytes_takes, bytes_again, length-hex_text}
use Rattle.fr_text.proofs.LineLemmas.{cons_same, line_of-words_of, words_of-line_of, has_no_feed-line_of}
use Rattle.fr_text.proofs.LineLemmas.{length-line_of-le}
use Rattle.fr_text.proofs.NumberLemmas.{number_takes, number_again}
use Rattle.fr_text.proofs.PlainLemmas.{IsPlain-hex_text}
use Rattle.fr_text.specs.Plain.{ArePlain, has_no_feed}
use Rattle.fr_text.specs.Reading.{number_in, bytes_in}
use Rattle.fr_text.specs.Spaces.{words_of, line_of}
use Rattle.fr_text.specs.Spelling.{hex_text}

-- ---- a line that is read is spelled by these words

host_takes : (version : Version) (kind : List ℕ) (words : List (List ℕ)) (l : SpelledLine)
    → host_in version kind words ≡ Some l → (kind ∷ words ≡ line_words l) × IsSpelledLine version l
unfolding host_in
host_takes version kind [] l h = cc h
host_takes version kind (a ∷ []) l h = cc h
host_takes version kind (a ∷ b ∷ []) l h = cc h
host_takes version kind (a ∷ b ∷ c ∷ words) l h =
    let (n, hn, h1) = bind_some (number_in 16 a) _ l h in
    let (t, ht, h2) = bind_some (number_in 8 b) _ l h1 in
    let (y, hy, h3) = bind_some (run_cycle_in c) _ l h2 in
    let (call, hc, h4) = bind_some (told_call_in version kind words) _ l h3 in
    let is : host_line n t y call ≡ l = cc h4 in
    let node = number_takes 16 a n hn in
    let task = number_takes 8 b t ht in
    let cycle = run_cycle_takes c y hy in
    let told = told_takes version kind words call hc in
    rw (← is) (
      cons_same told.0 (cons_same (sym node.0) (cons_same (sym task.0) (cons_same cycle.0 told.1))),
      record {
        node_fits = node.1;
        task_fits = task.1;
        cycle_fits = cycle.1;
        action_fits = told.2;
        unanswered = refl;
      },
    )

babble_takes : (version : Version) (words : List (List ℕ)) (l : SpelledLine) → babble_in words ≡ Some l
    → (codes "babble" ∷ words ≡ line_words l) × IsSpelledLine version l
unfolding babble_in
babble_takes version [] l h = cc h
babble_takes version (a ∷ []) l h = cc h
babble_takes version (a ∷ b ∷ []) l h = cc h
babble_takes version (a ∷ b ∷ c ∷ []) l h = cc h
babble_takes version (a ∷ b ∷ c ∷ d ∷ []) l h = cc h
babble_takes version (a ∷ b ∷ c ∷ d ∷ e ∷ []) l h =
    let (n, hn, h1) = bind_some (number_in 16 a) _ l h in
    let (c1, hc, h2) = bind_some (channel_in b) _ l h1 in
    let (y, hy, h3) = bind_some (cycles_in c) _ l h2 in
    let (p, hp, h4) = bind_some (place_in d) _ l h3 in
    let (bs, hb, h5) = bind_some (bytes_in 262 e) _ l h4 in
    let is : fault_line (Babble n c1 (record { items = bs })) y p ≡ l = cc h5 in
    let node = number_takes 16 a n hn in
    let cycles = cycles_takes c y hy in
    let place = place_takes d p hp in
    let bytes = bytes_takes 262 e bs hb in
    rw (← is) (
      cons_same refl (cons_same (sym node.0) (cons_same (channel_takes b c1 hc)
          (cons_same cycles.0 (cons_same place.0 (cons_same bytes.0 refl))))),
      record { fault_fits = (node.1, bytes.1, bytes.2); cycles_fit = cycles.1; place_fits = place.1 },
    )
babble_takes version (a ∷ b ∷ c ∷ d ∷ e ∷ f ∷ words) l h = cc h

mute_takes : (version : Version) (words : List (List ℕ)) (l : SpelledLine) → mute_in words ≡ Some l
    → (codes "mute" ∷ words ≡ line_words l) × IsSpelledLine version l
unfolding mute_in
mute_takes version [] l h = cc h
mute_takes version (a ∷ []) l h = cc h
mute_takes version (a ∷ b ∷ []) l h = cc h
mute_takes version (a ∷ b ∷ c ∷ []) l h = cc h
mute_takes version (a ∷ b ∷ c ∷ d ∷ []) l h =
    let (n, hn, h1) = bind_some (number_in 16 a) _ l h in
    let (c1, hc, h2) = bind_some (channel_in b) _ l h1 in
    let (y, hy, h3) = bind_some (cycles_in c) _ l h2 in
    let (p, hp, h4) = bind_some (place_in d) _ l h3 in
    let is : fault_line (Mute n c1) y p ≡ l = cc h4 in
    let node = number_takes 16 a n hn in
    let cycles = cycles_takes c y hy in
    let place = place_takes d p hp in
    rw (← is) (
      cons_same refl (cons_same (sym node.0) (cons_same (channel_takes b c1 hc)
          (cons_same cycles.0 (cons_same place.0 refl)))),
      record { fault_fits = node.1; cycles_fit = cycles.1; place_fits = place.1 },
    )
mute_takes version (a ∷ b ∷ c ∷ d ∷ e ∷ words) l h = cc h

corrupt_takes : (version : Version) (words : List (List ℕ)) (l : SpelledLine) → corrupt_in words ≡ Some l
    → (codes "corrupt" ∷ words ≡ line_words l) × IsSpelledLine version l
unfolding corrupt_in
corrupt_takes version [] l h = cc h
corrupt_takes version (a ∷ []) l h = cc h
corrupt_takes version (a ∷ b ∷ []) l h = cc h
corrupt_takes version (a ∷ b ∷ c ∷ []) l h = cc h
corrupt_takes version (a ∷ b ∷ c ∷ d ∷ []) l h =
    let (c1, hc, h1) = bind_some (channel_in a) _ l h in
    let (y, hy, h2) = bind_some (cycles_in b) _ l h1 in
    let (p, hp, h3) = bind_some (place_in c) _ l h2 in
    let (n, hn, h4) = bind_some (number_in 65536 d) _ l h3 in
    let is : fault_line (Corrupt c1 n) y p ≡ l = cc h4 in
    let cycles = cycles_takes b y hy in
    let place = place_takes c p hp in
    let bit = number_takes 65536 d n hn in
    rw (← is) (
      cons_same refl (cons_same (channel_takes a c1 hc) (cons_same cycles.0
          (cons_same place.0 (cons_same (sym bit.0) refl)))),
      record { fault_fits = bit.1; cycles_fit = cycles.1; place_fits = place.1 },
    )
corrupt_takes version (a ∷ b ∷ c ∷ d ∷ e ∷ words) l h = cc h

taken : (version : Version) (words : List (List ℕ)) (l : SpelledLine) → line_in version words ≡ Some l
    → (words ≡ line_words l) × IsSpelledLine version l
unfolding line_in
taken version [] l h = cc h
taken version (kind ∷ words) l h =
    elim (word_or kind (codes "babble") (babble_in words) _ l h) [
      | inl babble ↦ let t = babble_takes version words l babble.1 in (cons_same babble.0 refl ∙ t.0, t.1)
      | inr h1 ↦
          elim (word_or kind (codes "mute") (mute_in words) _ l h1) [
            | inl mute ↦ let t = mute_takes version words l mute.1 in (cons_same mute.0 refl ∙ t.0, t.1)
            | inr h2 ↦
                elim (word_or kind (codes "corrupt") (corrupt_in words) _ l h2) [
                  | inl corrupt ↦ let t = corrupt_takes version words l corrupt.1
                      in (cons_same corrupt.0 refl ∙ t.0, t.1)
                  | inr h3 ↦ host_takes version kind words l h3
                ]
          ]
    ]

-- a line that is read is spelled by these words, and is in range
pub line_takes : (version : Version) (line : List ℕ) (l : SpelledLine) → line_in version (words_of line) ≡ Some l
    → (line ≡ line_of (line_words l)) × IsSpelledLine version l
line_takes version line l h =
    let t = taken version (words_of line) l h in
    (sym (line_of-words_of line) ∙ ap line_of t.0, t.1)

-- ---- a line that is spelled is read again

placed_again : (version : Version) (node task cycle : ℕ) (call : Call) → node < 16 → task < 8 → IsRunCycle cycle
    → IsSpelledCall version call
    → host_in version (kind_word call) (decimal node ∷ decimal task ∷ decimal cycle ∷ call_words call) ≡ Some
    (host_line node task cycle call)
unfolding host_in
placed_again version node task cycle call n t c fits =
    rw (
      number_again 16 node n (omega arith),
      number_again 8 task t (omega arith),
      run_cycle_again cycle c,
      told_again version call fits,
    ) refl

action_again : (version : Version) (node task cycle : ℕ) (call : Call) → node < 16 → task < 8 → IsRunCycle cycle
    → IsSpelledCall version call
    → line_in version (placed_words node task cycle call) ≡ Some (host_line node task cycle call)
unfolding line_in
action_again version node task cycle (Commit buffer payload) n t c fits =
    placed_again version node task cycle (Commit buffer payload) n t c fits
action_again version node task cycle (Withdraw buffer) n t c fits =
    placed_again version node task cycle (Withdraw buffer) n t c fits
action_again version node task cycle (Read buffer) n t c fits =
    placed_again version node task cycle (Read buffer) n t c fits
action_again version node task cycle Pop n t c fits = placed_again version node task cycle Pop n t c fits

again_fault : (version : Version) (fault : Fault) (cycles : RunCycles) (place : FaultPlace) → IsSpelledFault fault
    → AreSpelledCycles cycles → IsSpelledPlace place
    → line_in version (fault_words (cycles_word cycles) (place_word place) fault) ≡ Some (fault_line fault cycles place)
unfolding line_in babble_in mute_in corrupt_in
again_fault version (Babble node channel bytes) cycles place fault c p =
    rw (
      number_again 16 node fault.0 (omega arith),
      channel_again channel,
      cycles_again cycles c,
      place_again place p,
      bytes_again 262 bytes.items fault.2 fault.1,
    ) refl
again_fault version (Mute node channel) cycles place fault c p =
    rw (number_again 16 node fault (omega arith), channel_again channel, cycles_again cycles c, place_again place p)
    refl
again_fault version (Corrupt channel bit) cycles place fault c p =
    rw (channel_again channel, cycles_again cycles c, place_again place p, number_again 65536 bit fault (omega arith))
    refl

host_again : (version : Version) (node task : ℕ) (line : Line) → IsSpelledHost version node task line
    → line_in version (line_words (Host node task line)) ≡ Some (Host node task line)
host_again version node task line fits =
    let same : host_line node task line.cycle line.action ≡ Host node task line =
    ap (λ a. Host node task (record { cycle = line.cycle; action = line.action; answer = a }))
    (sym fits.unanswered) in
    action_again version node task line.cycle line.action fits.node_fits fits.task_fits fits.cycle_fits fits.action_fits
    ∙ ap Some same

again : (version : Version) (l : SpelledLine) → IsSpelledLine version l → line_in version (line_words l) ≡ Some l
again version (Host node task line) fits = host_again version node task line fits
again version (FaultOf f) fits = again_fault version f.fault f.cycles f.place fits.fault_fits fits.cycles_fit
    fits.place_fits

-- ---- the words are plain and few

-- the words of a spelled line are plain, and the line is short
pub record IsSpelledSo (words : List (List ℕ)) : Type 0 where
  pub plain : ArePlain words
  pub short : length (line_of words) ≤ 1200
  pub cut : words_of (line_of words) ≡ words

bytes_word : (bs : List ℕ) → length bs ≤ 262 → IsWord 525 (hex_text bs)
bytes_word bs few = let digits = length-hex_text bs in record { plain = IsPlain-hex_text bs; short = omega arith }

spelled_so : (word : List ℕ) (words : List (List ℕ)) → ArePlain (word ∷ words) → length (line_of (word ∷ words)) ≤ 1200
    → IsSpelledSo (word ∷ words)
spelled_so word words plain short = record { plain = plain; short = short; cut = words_of-line_of word words plain }

action_spelled : (version : Version) (node task cycle : ℕ) (action : Call) → node < 16 → task < 8 → IsRunCycle cycle
    → IsSpelledCall version action
    → IsSpelledSo (placed_words node task cycle action)
action_spelled version node task cycle (Commit buffer payload) node_fits task_fits cycle_fits bytes =
    let n = number_word 2 node (omega arith) (omega arith) (omega arith) in
    let t = number_word 1 task (omega arith) (omega arith) (omega arith) in
    let y = run_cycle_plain cycle cycle_fits in
    let few = bytes.0 in
    let b = number_word 2 buffer (omega arith) (omega arith) (omega arith) in
    let p = payload_word payload bytes.1.short in
    let all = length-line_of-le (codes "commit" ∷ decimal node ∷ decimal task ∷ decimal cycle ∷ decimal buffer ∷
    hex_text payload ∷ []) in
    spelled_so (codes "commit") (decimal node ∷ decimal task ∷ decimal cycle ∷ decimal buffer ∷ hex_text payload ∷ [])
    (refl, (n.plain, (t.plain, (y.plain, (b.plain, (p.plain, tt))))))
    (omega (arith, n.short, t.short, y.short, b.short, p.short))
action_spelled One node task cycle (Withdraw buffer) node_fits task_fits cycle_fits few = absurd few
action_spelled Two node task cycle (Withdraw buffer) node_fits task_fits cycle_fits few =
    let n = number_word 2 node (omega arith) (omega arith) (omega arith) in
    let t = number_word 1 task (omega arith) (omega arith) (omega arith) in
    let y = run_cycle_plain cycle cycle_fits in
    let b = number_word 2 buffer (omega arith) (omega arith) (omega arith) in
    let all = length-line_of-le (codes "withdraw" ∷ decimal node ∷ decimal task ∷ decimal cycle ∷ decimal buffer ∷ [])
    in
    spelled_so (codes "withdraw") (decimal node ∷ decimal task ∷ decimal cycle ∷ decimal buffer ∷ [])
    (refl, (n.plain, (t.plain, (y.plain, (b.plain, tt))))) (omega (arith, n.short, t.short, y.short, b.short))
action_spelled version node task cycle (Read buffer) node_fits task_fits cycle_fits few =
    let n = number_word 2 node (omega arith) (omega arith) (omega arith) in
    let t = number_word 1 task (omega arith) (omega arith) (omega arith) in
    let y = run_cycle_plain cycle cycle_fits in
    let b = number_word 2 buffer (omega arith) (omega arith) (omega arith) in
    let all = length-line_of-le (codes "read" ∷ decimal node ∷ decimal task ∷ decimal cycle ∷ decimal buffer ∷ []) in
    spelled_so (codes "read") (decimal node ∷ decimal task ∷ decimal cycle ∷ decimal buffer ∷ [])
    (refl, (n.plain, (t.plain, (y.plain, (b.plain, tt))))) (omega (arith, n.short, t.short, y.short, b.short))
action_spelled version node task cycle Pop node_fits task_fits cycle_fits fits =
    let n = number_word 2 node (omega arith) (omega arith) (omega arith) in
    let t = number_word 1 task (omega arith) (omega arith) (omega arith) in
    let y = run_cycle_plain cycle cycle_fits in
    let all = length-line_of-le (codes "pop" ∷ decimal node ∷ decimal task ∷ decimal cycle ∷ []) in
    spelled_so (codes "pop") (decimal node ∷ decimal task ∷ decimal cycle ∷ [])
    (refl, (n.plain, (t.plain, (y.plain, tt)))) (omega (arith, n.short, t.short, y.short))

fault_spelled : (fault : Fault) (cycles : RunCycles) (place : FaultPlace) → IsSpelledFault fault
    → AreSpelledCycles cycles → IsSpelledPlace place
    → IsSpelledSo (fault_words (cycles_word cycles) (place_word place) fault)
fault_spelled (Babble node channel bytes) cycles place fault cycles_fit place_fits =
    let small = fault.0 in
    let n = number_word 2 node (omega arith) (omega arith) (omega arith) in
    let c = channel_plain channel in
    let y = cycles_plain cycles cycles_fit in
    let p = place_plain place place_fits in
    let b = bytes_word bytes.items fault.1 in
    let all = length-line_of-le (codes "babble" ∷ decimal node ∷ channel_word channel ∷ cycles_word cycles ∷ place_word
    place ∷ hex_text bytes.items ∷ []) in
    spelled_so (codes "babble") (decimal node ∷ channel_word channel ∷ cycles_word cycles ∷ place_word place ∷ hex_text
    bytes.items ∷ [])
    (refl, (n.plain, (c.plain, (y.plain, (p.plain, (b.plain, tt))))))
    (omega (arith, n.short, c.short, y.short, p.short, b.short))
fault_spelled (Mute node channel) cycles place small cycles_fit place_fits =
    let n = number_word 2 node (omega arith) (omega arith) (omega arith) in
    let c = channel_plain channel in
    let y = cycles_plain cycles cycles_fit in
    let p = place_plain place place_fits in
    let all = length-line_of-le (codes "mute" ∷ decimal node ∷ channel_word channel ∷ cycles_word cycles ∷ place_word
    place ∷ []) in
    spelled_so (codes "mute") (decimal node ∷ channel_word channel ∷ cycles_word cycles ∷ place_word place ∷ [])
    (refl, (n.plain, (c.plain, (y.plain, (p.plain, tt))))) (omega (arith, n.short, c.short, y.short, p.short))
fault_spelled (Corrupt channel bit) cycles place small cycles_fit place_fits =
    let c = channel_plain channel in
    let y = cycles_plain cycles cycles_fit in
    let p = place_plain place place_fits in
    let b = number_word 5 bit (omega arith) (omega arith) (omega arith) in
    let all = length-line_of-le (codes "corrupt" ∷ channel_word channel ∷ cycles_word cycles ∷ place_word place ∷
    decimal bit ∷ []) in
    spelled_so (codes "corrupt") (channel_word channel ∷ cycles_word cycles ∷ place_word place ∷ decimal bit ∷ [])
    (refl, (c.plain, (y.plain, (p.plain, (b.plain, tt))))) (omega (arith, c.short, y.short, p.short, b.short))

spelled : (version : Version) (l : SpelledLine) → IsSpelledLine version l → IsSpelledSo (line_words l)
spelled version (Host node task line) fits = action_spelled version node task line.cycle line.action fits.node_fits
    fits.task_fits fits.cycle_fits fits.action_fits
spelled version (FaultOf f) fits = fault_spelled f.fault f.cycles f.place fits.fault_fits fits.cycles_fit
    fits.place_fits

-- ---- a line that is spelled is read again

pub line_again : (version : Version) (l : SpelledLine) → IsSpelledLine version l
    → line_in version (words_of (line_of (line_words l))) ≡ Some l
line_again version l fits = ap (line_in version) (spelled version l fits).cut ∙ again version l fits

pub line_short : (version : Version) (l : SpelledLine) → IsSpelledLine version l
    → length (line_of (line_words l)) ≤ 1200
line_short version l fits = (spelled version l fits).short

pub line_no_feed : (version : Version) (l : SpelledLine) → IsSpelledLine version l
    → has_no_feed (line_of (line_words l)) ≡ true
line_no_feed version l fits = has_no_feed-line_of (line_words l) (spelled version l fits).plain

-- ---- no line is `end`

action_not_end : (node task cycle : ℕ) (action : Call)
    → bytes_eq (line_of (placed_words node task cycle action)) end_line ≡ false
action_not_end node task cycle (Commit buffer payload) = refl
action_not_end node task cycle (Withdraw buffer) = refl
action_not_end node task cycle (Read buffer) = refl
action_not_end node task cycle Pop = refl

fault_not_end : (cycles place : List ℕ) (fault : Fault) → bytes_eq (line_of (fault_words cycles place fault)) end_line ≡
    false
fault_not_end cycles place (Babble node channel bytes) = refl
fault_not_end cycles place (Mute node channel) = refl
fault_not_end cycles place (Corrupt channel bit) = refl

pub line_not_end : (l : SpelledLine) → bytes_eq (line_of (line_words l)) end_line ≡ false
line_not_end (Host node task line) = action_not_end node task line.cycle line.action
line_not_end (FaultOf f) = fault_not_end (cycles_word f.cycles) (place_word f.place) f.fault
