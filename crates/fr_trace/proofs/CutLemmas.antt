-- A line that is taken at once gives the same as its bytes one after another.
use Rattle.std.proofs.Common.{◌≡◌, ◌≢◌, ℕ, zero, suc, ◌+◌, ◌<◌, ◌≤◌, ◌==◌, true, false, not, inl, inr, List, [], ◌∷◌}
use Rattle.std.proofs.Common.{◌++◌}
use Rattle.std.proofs.Common.{length, get_or, take, drop, refl, sym, ap, ◌∙◌, arith, subst, append_assoc, length-append}
use Rattle.std.proofs.lemmas.Bool.{and_parts, cases_Bool, eq-eqb, eqb-true}
use Rattle.std.proofs.lemmas.Bool.Decides.{nat_tests}
use Rattle.std.proofs.lemmas.List.Folds.{fold_stays}
use Rattle.fr_text.specs.Plain.{is_feed, has_no_feed}
use Rattle.fr_trace.specs.Feeds.{Reads, EndsLine, held, with_line}
use Rattle.fr_trace.specs.Stream.{Phase, Progress, magic, params, node, lines, body, reading, failed, finished}
use Rattle.fr_trace.specs.Stream.{take_byte, take_bytes, take_in, too_long, longest_line, line_number}
use Rattle.fr_trace.specs.declared.error.TraceError.{TraceError}
use Rattle.fr_trace.specs.declared.error.TraceError.TheVariants.{BadLine}
use Rattle.fr_interface.specs.State.{State}
use Rattle.fr_lines.specs.declared.versions.Version.{Version}
use Rattle.fr_trace.specs.Auditor.{phase_of, progress_in}
use Rattle.fr_trace.specs.declared.auditor.TextPhase.{TextPhase as Given}
use Rattle.fr_trace.specs.declared.auditor.TextPhase.TheVariants.{Finished}
use Rattle.std.specs.Prelude.{Option, Some, None, is_some}
use Rattle.fr_trace.proofs.FeedLemmas.{reads_more, feed_read, phase_open}
use Rattle.fr_trace.proofs.LineLemmas.{fill}
use Rattle.fr_trace.proofs.TextLemmas.{is_open, take_in-open}

pub stays_failed : (e : TraceError) (bytes : List ℕ) → take_bytes (failed e) bytes ≡ failed e
stays_failed e bytes = fold_stays take_byte (failed e) (λ _. refl) bytes

-- more bytes than a line may have
pub overflow : (p : Phase) (line more : List ℕ) → is_open p ≡ true → has_no_feed more ≡ true → length line ≤ 1200
    → 1200 < length line + length more
    → take_bytes (reading p line) more ≡ failed (too_long p)
overflow p line [] opened plain fits long = absurd (omega arith)
overflow p line (b ∷ more) opened plain fits long =
    let parts = and_parts (not (is_feed b)) (has_no_feed more) plain in
    let other : (b == 10) ≡ false = grind (arith, nat_tests) in
    elim (cases_Bool (length line == longest_line)) [
      | inl full ↦
          let one : take_in p line b ≡ failed (too_long p) = take_in-open p line b opened ∙ rw (other, full) refl in
          ap (λ s. take_bytes s more) one ∙ stays_failed (too_long p) more
      | inr left ↦
          let one : take_in p line b ≡ reading p (line ++ b ∷ []) =
          take_in-open p line b opened ∙ rw (other, left) refl in
          let len = length-append line (b ∷ []) in
          let room : length line ≢ 1200 = λ e. cc (sym left ∙ eq-eqb (length line) 1200 e) in
          ap (λ s. take_bytes s more) one ∙ overflow p (line ++ b ∷ []) more opened parts.1 (omega arith) (omega arith)
    ]

-- a line feed ends the line that is held
pub ends_read : (mid new : Progress) → EndsLine mid new → Reads mid (10 ∷ []) new
ends_read (failed e) new ends = inl ends
ends_read (reading (finished v s) line) new (inl is) = inl is
ends_read (reading (finished v s) line) new (inr out) = absurd out.1
ends_read (reading magic line) new ends = feed_read magic line new refl ends
ends_read (reading (params v) line) new ends = feed_read (params v) line new refl ends
ends_read (reading (node v p) line) new ends = feed_read (node v p) line new refl ends
ends_read (reading (lines v p plan) line) new ends = feed_read (lines v p plan) line new refl ends
ends_read (reading (body v s) line) new ends = feed_read (body v s) line new refl ends

direct_open : (p : Phase) (line rest : List ℕ) (new : Progress) → is_open p ≡ true → line ≡ [] → has_no_feed rest ≡ true
    → length rest ≤ 1200 → EndsLine (reading p rest) new
    → Reads (reading p line) (rest ++ 10 ∷ []) new
direct_open p line rest new opened empty plain fits ends =
    subst (λ (l : List ℕ). Reads (reading p l) (rest ++ 10 ∷ []) new) (sym empty)
    (reads_more (reading p []) rest (10 ∷ []) (reading p rest) new
    (inl (sym (fill p rest [] opened plain (omega arith)))) (feed_read p rest new opened ends))

-- a whole line at once
pub direct_read : (old : Progress) (rest : List ℕ) (new : Progress) → held old ≡ [] → has_no_feed rest ≡ true
    → length rest ≤ 1200 → EndsLine (with_line old rest) new → Reads old (rest ++ 10 ∷ []) new
direct_read (failed e) rest new empty plain fits ends = inl (ends ∙ sym (stays_failed e (rest ++ 10 ∷ [])))
direct_read (reading (finished v s) line) [] new empty plain fits (inl is) = inl is
direct_read (reading (finished v s) line) (b ∷ rest) new empty plain fits (inl is) =
    inl (is ∙ sym (stays_failed _ (rest ++ 10 ∷ [])))
direct_read (reading (finished v s) line) rest new empty plain fits (inr out) = absurd out.1
direct_read (reading magic line) rest new empty plain fits ends =
    direct_open magic line rest new refl empty plain fits ends
direct_read (reading (params v) line) rest new empty plain fits ends =
    direct_open (params v) line rest new refl empty plain fits ends
direct_read (reading (node v p) line) rest new empty plain fits ends =
    direct_open (node v p) line rest new refl empty plain fits ends
direct_read (reading (lines v p plan) line) rest new empty plain fits ends =
    direct_open (lines v p plan) line rest new refl empty plain fits ends
direct_read (reading (body v s) line) rest new empty plain fits ends =
    direct_open (body v s) line rest new refl empty plain fits ends

-- the front that was held, and the rest of the line
pub carried_read : (old mid : Progress) (rest : List ℕ) (new : Progress) → mid ≡ take_bytes old rest → EndsLine mid new
    → Reads old (rest ++ 10 ∷ []) new
carried_read old mid rest new is ends = reads_more old rest (10 ∷ []) mid new (inl is) (ends_read mid new ends)

-- ---- the places of the line feeds

pub no_feed : (bytes : List ℕ) → ((k : ℕ) → k < length bytes → (get_or bytes k 0 == 10) ≡ true → ⊥)
    → has_no_feed bytes ≡ true
no_feed [] none = refl
no_feed (b ∷ bytes) none =
    let rest = no_feed bytes (λ k lt. none (suc k) (omega arith)) in
    elim (cases_Bool (b == 10)) [
      | inl feed ↦ absurd (none 0 (omega arith) feed)
      | inr other ↦ rw (other, rest) refl
    ]

pub no_feed_before : (bytes : List ℕ) (at : ℕ) → at ≤ length bytes
    → ((k : ℕ) → k < at → (get_or bytes k 0 == 10) ≡ true → ⊥) → has_no_feed (take at bytes) ≡ true
no_feed_before bytes zero fits none = refl
no_feed_before [] (suc at) fits none = refl
no_feed_before (b ∷ bytes) (suc at) fits none =
    let rest = no_feed_before bytes at (omega arith) (λ k lt. none (suc k) (omega arith)) in
    elim (cases_Bool (b == 10)) [
      | inl feed ↦ absurd (none 0 (omega arith) feed)
      | inr other ↦ rw (other, rest) refl
    ]

-- ---- the bytes of one line, of an auditor with these fields

pub failed_more : (fault : Option TraceError) (p : Given) (line : List ℕ) (old : Progress) (bytes : List ℕ)
    → progress_in fault (phase_of p) line ≡ old → is_some fault ≡ true → old ≡ take_bytes old bytes
failed_more None p line old bytes is bad = cc bad
failed_more (Some e) p line old bytes is bad = subst (λ o. o ≡ take_bytes o bytes) is (sym (stays_failed e bytes))

after_end : (v : Version) (s : State) (line bytes : List ℕ) → (bytes ≡ [] → ⊥)
    → failed (BadLine (line_number (finished v s))) ≡ take_bytes (reading (finished v s) line) bytes
after_end v s line [] some = absurd (some refl)
after_end v s line (b ∷ bytes) some = sym (stays_failed _ bytes)

pub finished_more : (fault : Option TraceError) (p : Given) (line : List ℕ) (old : Progress) (bytes : List ℕ) (n : ℕ)
    (v : Version) (s : State) → progress_in fault (phase_of p) line ≡ old → is_some fault ≡ false
    → p ≡ Finished v s → n ≡ line_number (phase_of p) → (bytes ≡ [] → ⊥) → failed (BadLine n) ≡ take_bytes old bytes
finished_more (Some e) p line old bytes n v s is fine ended n_is some = cc fine
finished_more None p line old bytes n v s is fine ended n_is some =
    ap (λ (k : ℕ). failed (BadLine k)) (n_is ∙ ap (λ (q : Given). line_number (phase_of q)) ended)
    ∙ after_end v s line bytes some
    ∙ ap (λ (q : Given). take_bytes (reading (phase_of q) line) bytes) (sym ended)
    ∙ ap (λ (o : Progress). take_bytes o bytes) is

pub longer_more : (fault : Option TraceError) (p : Given) (line : List ℕ) (old : Progress) (bytes : List ℕ)
    (e : TraceError) → progress_in fault (phase_of p) line ≡ old → is_some fault ≡ false
    → ((v : Version) (s : State) → p ≡ Finished v s → ⊥) → has_no_feed bytes ≡ true → length line ≤ 1200
    → 1200 < length line + length bytes → e ≡ too_long (phase_of p) → failed e ≡ take_bytes old bytes
longer_more (Some f) p line old bytes e is fine going plain fits long e_is = cc fine
longer_more None p line old bytes e is fine going plain fits long e_is =
    ap failed e_is ∙ sym (overflow (phase_of p) line bytes (phase_open p going) plain fits long) ∙ ap
    (λ (o : Progress). take_bytes o bytes) is

pub held_more : (fault : Option TraceError) (p : Given) (line : List ℕ) (old : Progress) (bytes new : List ℕ)
    → progress_in fault (phase_of p) line ≡ old → is_some fault ≡ false
    → ((v : Version) (s : State) → p ≡ Finished v s → ⊥) → has_no_feed bytes ≡ true → length line + length bytes ≤ 1200
    → new ≡ line ++ bytes → progress_in fault (phase_of p) new ≡ take_bytes old bytes
held_more (Some f) p line old bytes new is fine going plain fits new_is = cc fine
held_more None p line old bytes new is fine going plain fits new_is =
    ap (reading (phase_of p)) new_is ∙ sym (fill (phase_of p) bytes line (phase_open p going) plain fits) ∙ ap
    (λ (o : Progress). take_bytes o bytes) is

pub nothing_more : (old : Progress) (bytes : List ℕ) → (length bytes == 0) ≡ true → old ≡ take_bytes old bytes
nothing_more old [] none = refl
nothing_more old (b ∷ bytes) none = let zero_long : length (b ∷ bytes) ≡ 0 =
    eqb-true (length (b ∷ bytes)) 0 none in absurd (omega arith)

-- no line is held
pub held_nothing : (fault : Option TraceError) (p : Given) (line : List ℕ) (old : Progress)
    → progress_in fault (phase_of p) line ≡ old → (length line == 0) ≡ true → held old ≡ []
held_nothing (Some e) p line old is none = subst (λ o. held o ≡ []) is refl
held_nothing None p [] old is none = subst (λ o. held o ≡ []) is refl
held_nothing None p (b ∷ line) old is none = let zero_long : length (b ∷ line) ≡ 0 =
    eqb-true (length (b ∷ line)) 0 none in absurd (omega arith)

-- ---- a piece, cut at a line feed

rest_cut : (at : ℕ) (rest : List ℕ) → at < length rest → get_or rest at 0 ≡ 10
    → take at rest ++ (10 ∷ drop 1 (drop at rest)) ≡ rest
rest_cut at [] lt feed = absurd (omega arith)
rest_cut zero (b ∷ rest) lt feed = ap (λ (x : ℕ). x ∷ rest) (sym feed)
rest_cut (suc at) (b ∷ rest) lt feed = ap (λ (t : List ℕ). b ∷ t) (rest_cut at rest (omega arith) feed)

pub piece_cut : (front rest piece : List ℕ) (at : ℕ) → front ++ rest ≡ piece → at < length rest → get_or rest at 0 ≡ 10
    → (front ++ (take at rest ++ 10 ∷ [])) ++ drop 1 (drop at rest) ≡ piece
piece_cut front rest piece at whole lt feed =
    append_assoc front (take at rest ++ 10 ∷ []) (drop 1 (drop at rest))
    ∙ ap (λ (t : List ℕ). front ++ t) (append_assoc (take at rest) (10 ∷ []) (drop 1 (drop at rest))
    ∙ rest_cut at rest lt feed)
    ∙ whole
