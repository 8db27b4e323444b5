-- The bytes of an auditor: a line that is taken at once, and the bytes of one line.
use Rattle.std.proofs.Common.{◌≡◌, ℕ, ◌+◌, ◌<◌, ◌≤◌, ◌==◌, Bool, true, false, List, [], ◌∷◌}
use Rattle.std.proofs.Common.{◌++◌, length, Option, Some, None, inl, inr, refl, sym, ap, subst, ◌∙◌, arith}
use Rattle.std.proofs.lemmas.Bool.{eqb-true}
use Rattle.std.proofs.lemmas.List.Sums.{fold-append}
use Rattle.std.specs.Prelude.{is_some}
use Rattle.fr_auditing.proofs.StreamLemmas.{stays_by, plain_same, begins_before_by, begins_behind_by}
use Rattle.fr_auditing.specs.declared.auditor.KeptPhase.{KeptPhase}
use Rattle.fr_auditing.specs.declared.auditor.KeptPhase.TheVariants.{Magic, Parameters, Node, Lines, Body, Finished}
use Rattle.fr_auditing.specs.LongStream.{line_by, byte_by, bytes_by, BeginsBy}
use Rattle.fr_auditing.specs.Phases.{phase_of, EndsLine}
use Rattle.fr_auditing.specs.Tracking.{Auditing, auditing, ReadsOn}
use Rattle.fr_interface.specs.State.{State}
use Rattle.fr_lines.specs.declared.versions.Version.{Version}
use Rattle.fr_text.specs.Plain.{has_no_feed}
use Rattle.fr_trace.proofs.CutLemmas.{overflow, stays_failed}
use Rattle.fr_trace.proofs.LineLemmas.{fill}
use Rattle.fr_trace.proofs.TextLemmas.{is_open}
use Rattle.fr_trace.specs.Auditor.{progress_in}
use Rattle.fr_trace.specs.declared.error.TraceError.{TraceError}
use Rattle.fr_trace.specs.declared.error.TraceError.TheVariants.{BadLine, Memory}
use Rattle.fr_trace.specs.Feeds.{IsAtBegin, held}
use Rattle.fr_trace.specs.Stream.{Phase, Progress, magic, params, node, lines, body, finished, reading, failed}
use Rattle.fr_trace.specs.Stream.{after_line, line_number, take_bytes, too_long}

-- ---- pieces

pub reads_more : (old mid new : Auditing) (a b : List ℕ) → ReadsOn old a mid → ReadsOn mid b new
    → ReadsOn old (a ++ b) new
reads_more old mid new a b (inl is) more = by_rest (subst (λ (m : Auditing). ReadsOn m b new) is more)
  where
    by_rest : ReadsOn (auditing old.later (bytes_by old.later old.progress a)) b new → ReadsOn old (a ++ b) new
    by_rest (inl all) = inl (all ∙ ap (auditing old.later) (sym (fold-append (byte_by old.later) old.progress a b)))
    by_rest (inr out) = inr (out.0, begins_behind_by old.later old.progress a b out.1)
reads_more old mid new a b (inr out) more = by_rest (subst (λ (m : Auditing). ReadsOn m b new) out.0 more)
  where
    begins : BeginsBy old.later old.progress (a ++ b)
    begins = begins_before_by old.later old.progress a b out.1

    by_rest : ReadsOn (auditing old.later (failed Memory)) b new → ReadsOn old (a ++ b) new
    by_rest (inl all) = inr (all ∙ ap (auditing old.later) (stays_by old.later Memory b), begins)
    by_rest (inr again) = inr (again.0, begins)

-- ---- whole lines

whole_open : (later : Bool) (q : Phase) (rest : List ℕ) → is_open q ≡ true → has_no_feed rest ≡ true
    → length rest ≤ 1200 → bytes_by later (reading q []) rest ≡ reading q rest
whole_open later q rest opened plain fits =
    plain_same later rest (reading q []) plain ∙ fill q rest [] opened plain (omega (arith, fits))

whole_is : (later : Bool) (q : Phase) (rest : List ℕ) → is_open q ≡ true → has_no_feed rest ≡ true
    → length rest ≤ 1200 → bytes_by later (reading q []) (rest ++ 10 ∷ []) ≡ after_line (line_by later q rest)
whole_is later q rest opened plain fits =
    fold-append (byte_by later) (reading q []) rest (10 ∷ [])
    ∙ ap (λ s. byte_by later s 10) (whole_open later q rest opened plain fits)

-- the whole line and its line feed have been read, or memory ran out
open_direct : (later : Bool) (q : Phase) (rest : List ℕ) (new : Auditing) → is_open q ≡ true → has_no_feed rest ≡ true
    → length rest ≤ 1200 → EndsLine later (reading q []) rest new
    → ReadsOn (auditing later (reading q [])) (rest ++ 10 ∷ []) new
open_direct later q rest new opened plain fits (inl is) =
    inl (is ∙ ap (auditing later) (sym (whole_is later q rest opened plain fits)))
open_direct later q rest new opened plain fits (inr out) =
    inr (out.0, (rest, [], refl, subst IsAtBegin (sym (whole_open later q rest opened plain fits)) out.1))

plain_finished : (later : Bool) (v : Version) (s : State) (b : ℕ) (rest : List ℕ) → has_no_feed (b ∷ rest) ≡ true
    → bytes_by later (reading (finished v s) []) ((b ∷ rest) ++ 10 ∷ [])
    ≡ failed (BadLine (line_number (finished v s)))
plain_finished later v s b rest plain =
    fold-append (byte_by later) (reading (finished v s) []) (b ∷ rest) (10 ∷ [])
    ∙ ap (λ x. byte_by later x 10) (plain_same later (b ∷ rest) (reading (finished v s) []) plain
    ∙ stays_failed (BadLine (line_number (finished v s))) rest)

phase_direct : (later : Bool) (q : Phase) (rest : List ℕ) (new : Auditing) → has_no_feed rest ≡ true
    → length rest ≤ 1200 → EndsLine later (reading q []) rest new
    → ReadsOn (auditing later (reading q [])) (rest ++ 10 ∷ []) new
phase_direct later (finished v s) [] new plain fits (inl is) = inl is
phase_direct later (finished v s) (b ∷ rest) new plain fits (inl is) =
    inl (is ∙ ap (auditing later) (sym (plain_finished later v s b rest plain)))
phase_direct later (finished v s) rest new plain fits (inr out) = absurd out.1
phase_direct later magic rest new plain fits ends = open_direct later magic rest new refl plain fits ends
phase_direct later (params v) rest new plain fits ends = open_direct later (params v) rest new refl plain fits ends
phase_direct later (node v p) rest new plain fits ends = open_direct later (node v p) rest new refl plain fits ends
phase_direct later (lines v p plan) rest new plain fits ends =
    open_direct later (lines v p plan) rest new refl plain fits ends
phase_direct later (body v s) rest new plain fits ends = open_direct later (body v s) rest new refl plain fits ends

-- a whole line at once, where none is held
pub direct_read : (later : Bool) (s : Progress) (rest : List ℕ) (new : Auditing) → held s ≡ []
    → has_no_feed rest ≡ true → length rest ≤ 1200 → EndsLine later s rest new
    → ReadsOn (auditing later s) (rest ++ 10 ∷ []) new
direct_read later (failed e) rest new empty plain fits is =
    inl (is ∙ ap (auditing later) (sym (stays_by later e (rest ++ 10 ∷ []))))
direct_read later (reading q line) rest new empty plain fits ends =
    subst (λ (l : List ℕ). ReadsOn (auditing later (reading q l)) (rest ++ 10 ∷ []) new) (sym empty)
    (phase_direct later q rest new plain fits (bare q line ends))
  where
    bare : (p : Phase) (front : List ℕ) → EndsLine later (reading p front) rest new
        → EndsLine later (reading p []) rest new
    bare p front h = h

-- the front that was held, and the rest of the line
pub carried_read : (fault : Option TraceError) (q : Phase) (line : List ℕ) (later : Bool) (s : Progress)
    (rest : List ℕ) (new : Auditing) → has_no_feed rest ≡ true → progress_in fault q line ≡ take_bytes s rest
    → EndsLine later (progress_in fault q []) line new
    → ReadsOn (auditing later s) (rest ++ 10 ∷ []) new
carried_read (Some e) q line later s rest new plain is ends =
    let all : bytes_by later s (rest ++ 10 ∷ []) ≡ failed e =
    fold-append (byte_by later) s rest (10 ∷ [])
    ∙ ap (λ x. byte_by later x 10) (plain_same later rest s plain ∙ sym is) in
    inl (ends ∙ ap (auditing later) (sym all))
carried_read None q line later s rest new plain is ends = by_end ends
  where
    front : bytes_by later s rest ≡ reading q line
    front = plain_same later rest s plain ∙ sym is

    by_end : EndsLine later (reading q []) line new → ReadsOn (auditing later s) (rest ++ 10 ∷ []) new
    by_end (inl there) =
        inl (there ∙ ap (auditing later) (sym (fold-append (byte_by later) s rest (10 ∷ [])
        ∙ ap (λ x. byte_by later x 10) front)))
    by_end (inr out) = inr (out.0, (rest, [], refl, subst IsAtBegin (sym front) out.1))

-- ---- the bytes of one line, of an auditor with these fields

phase_open : (p : KeptPhase) → ((v : Version) (s : State) → p ≡ Finished v s → ⊥) → is_open (phase_of p) ≡ true
phase_open Magic going = refl
phase_open (Parameters v) going = refl
phase_open (Node v p) going = refl
phase_open (Lines v p plan) going = refl
phase_open (Body v s) going = refl
phase_open (Finished v s) going = absurd (going v s refl)

pub nothing_more : (s : Progress) (bytes : List ℕ) → (length bytes == 0) ≡ true → s ≡ take_bytes s bytes
nothing_more s [] none = refl
nothing_more s (b ∷ bytes) none = let zero_long : length (b ∷ bytes) ≡ 0 =
    eqb-true (length (b ∷ bytes)) 0 none in absurd (omega arith)

pub failed_more : (fault : Option TraceError) (q : Phase) (line bytes : List ℕ) → is_some fault ≡ true
    → progress_in fault q line ≡ take_bytes (progress_in fault q line) bytes
failed_more None q line bytes bad = cc bad
failed_more (Some e) q line bytes bad = sym (stays_failed e bytes)

after_end : (v : Version) (s : State) (line bytes : List ℕ) → (bytes ≡ [] → ⊥)
    → failed (BadLine (line_number (finished v s))) ≡ take_bytes (reading (finished v s) line) bytes
after_end v s line [] some = absurd (some refl)
after_end v s line (b ∷ bytes) some = sym (stays_failed (BadLine (line_number (finished v s))) bytes)

pub finished_more : (fault : Option TraceError) (p : KeptPhase) (line bytes : List ℕ) (n : ℕ) (v : Version) (s : State)
    → is_some fault ≡ false → p ≡ Finished v s → n ≡ line_number (phase_of p) → (bytes ≡ [] → ⊥)
    → failed (BadLine n) ≡ take_bytes (progress_in fault (phase_of p) line) bytes
finished_more (Some e) p line bytes n v s fine ended number some = cc fine
finished_more None p line bytes n v s fine ended number some =
    ap (λ (k : ℕ). failed (BadLine k)) (number ∙ ap (λ (q : KeptPhase). line_number (phase_of q)) ended)
    ∙ after_end v s line bytes some
    ∙ ap (λ (q : KeptPhase). take_bytes (reading (phase_of q) line) bytes) (sym ended)

pub longer_more : (fault : Option TraceError) (p : KeptPhase) (line bytes : List ℕ) (e : TraceError)
    → is_some fault ≡ false → ((v : Version) (s : State) → p ≡ Finished v s → ⊥) → has_no_feed bytes ≡ true
    → length line ≤ 1200 → 1200 < length line + length bytes → e ≡ too_long (phase_of p)
    → failed e ≡ take_bytes (progress_in fault (phase_of p) line) bytes
longer_more (Some d) p line bytes e fine going plain fits long error = cc fine
longer_more None p line bytes e fine going plain fits long error =
    ap failed error ∙ sym (overflow (phase_of p) line bytes (phase_open p going) plain fits long)

pub held_more : (fault : Option TraceError) (p : KeptPhase) (line bytes new : List ℕ) → is_some fault ≡ false
    → ((v : Version) (s : State) → p ≡ Finished v s → ⊥) → has_no_feed bytes ≡ true
    → length line + length bytes ≤ 1200 → new ≡ line ++ bytes
    → progress_in fault (phase_of p) new ≡ take_bytes (progress_in fault (phase_of p) line) bytes
held_more (Some d) p line bytes new fine going plain fits more = cc fine
held_more None p line bytes new fine going plain fits more =
    ap (reading (phase_of p)) more ∙ sym (fill (phase_of p) bytes line (phase_open p going) plain fits)

-- no line is held
pub held_nothing : (fault : Option TraceError) (q : Phase) (line : List ℕ) → (length line == 0) ≡ true
    → held (progress_in fault q line) ≡ []
held_nothing (Some e) q line none = refl
held_nothing None q [] none = refl
held_nothing None q (b ∷ line) none = let zero_long : length (b ∷ line) ≡ 0 =
    eqb-true (length (b ∷ line)) 0 none in absurd (omega arith)
