-- A text that is read is spelled by its lines, and a text that is spelled is read again.
use Rattle.std.proofs.Common.{◌≡◌, ℕ, ◌+◌, ◌≤◌, ◌==◌, ◌⊎◌, true, false, not, ◌&&◌, inl, inr, List, [], ◌∷◌, ◌++◌}
use Rattle.std.proofs.Common.{length, take, drop, Option, Some, None, Ok, Err, refl, sym, ap, subst, ◌∙◌, arith}
use Rattle.std.proofs.Common.{ltb, append_assoc}
use Rattle.std.proofs.lemmas.Bool.{and_parts, cases_Bool, le-ltb, ltb-false}
use Rattle.std.proofs.lemmas.Bool.Decides.{nat_tests}
use Rattle.std.proofs.lemmas.List.Elements.{All-nil, All-cons}
use Rattle.std.proofs.lemmas.List.Splits.{slice_split_at, join_with_byte-slice_split}
use Rattle.std.proofs.lemmas.Slice.Eq.{bytes_eq-Decides}
use Rattle.std.specs.List.{All, flat_map, join_with_byte, range_with_len}
use Rattle.std.specs.Str.{bytes_eq}
use Rattle.fr_lines.specs.Spelling.{line_feed, end_line}
use Rattle.fr_scenario.proofs.CutLemmas.{some_line, read_next}
use Rattle.fr_scenario.proofs.LineLemmas.{line_takes, line_again, line_short, line_no_feed, line_not_end}
use Rattle.fr_core.specs.Answers.{IsUnanswered, AreUnanswered}
use Rattle.fr_core.specs.declared.script.Line.{Line}
use Rattle.fr_core.specs.Scripts.{Scripted}
use Rattle.fr_expecting.specs.declared.expectation.Expectation.{Expectation}
use Rattle.fr_runs.specs.declared.fault_line.FaultLine.{FaultLine}
use Rattle.fr_scenario.proofs.TaskLemmas.{scripts_kept, faults_kept, numbers_kept}
use Rattle.fr_scenario.specs.Contents.{Contents, contents_of, task_lines, fault_lines, script_of, node_at, task_at}
use Rattle.fr_scenario.specs.Contents.{fault_numbers, scripts_of}
use Rattle.fr_scenario.specs.Gathering.{Kept, none_yet, with_line, with_lines, kept_from, scripts_from}
use Rattle.fr_scenario.specs.declared.error.ScenarioError.{ScenarioError}
use Rattle.fr_scenario.specs.declared.error.ScenarioError.TheVariants.{BadMagic}
use Rattle.fr_scenario.specs.declared.spelled.SpelledLine.{SpelledLine}
use Rattle.fr_scenario.specs.declared.spelled.SpelledLine.TheVariants.{Host, Fault as FaultOf}
use Rattle.fr_scenario.specs.declared.version.Version.{Version}
use Rattle.fr_scenario.specs.declared.version.Version.TheVariants.{One, Two}
use Rattle.fr_scenario.specs.LineReading.{line_in}
use Rattle.fr_scenario.specs.Reading.{next_line}
use Rattle.fr_scenario.specs.Reading.{lines_in, Read, unfinished, is_at_end, after_end, put_before, said, whole_line}
use Rattle.fr_scenario.specs.Reading.{is_end_line, told_line, told_from, version_in, read_after, read_lines}
use Rattle.fr_scenario.specs.Reading.{read_text, with_contents, old_scenario_in}
use Rattle.fr_scenario.specs.ScenarioText.{first_line, spelled_line, body_text, scenario_text, IsOldText}
use Rattle.fr_scenario.specs.Spelled.{IsSpelledLine}
use Rattle.fr_scenario.specs.Spelling.{line_words}
use Rattle.fr_slots.specs.Plans.{Each}
use Rattle.fr_text.specs.Plain.{is_feed, has_no_feed}
use Rattle.fr_text.specs.Spaces.{words_of, line_of}

-- ---- a text that is read is spelled by its lines

module _ (version : Version) where
  -- the lines from number n on are these, up to `end`
  pub record AreLines (n : ℕ) (lines : List (List ℕ)) (ls : List SpelledLine) : Type 0 where
    pub spelled : join_with_byte 10 lines ≡ body_text ls
    pub fit : Each (IsSpelledLine version) ls
    pub few : n + length ls ≤ 4096

  unfinished_none : (n : ℕ) (line : List ℕ) (ls : List SpelledLine) → unfinished n line ≡ Ok ls → ⊥
  unfinished_none n [] ls h = cc h
  unfinished_none n (b ∷ line) ls h =
      elim (cases_Bool (ltb 4096 n)) [
        | inl late ↦ cc (rw late at h)
        | inr early ↦
            let h1 = rw early at h in
            elim (cases_Bool (ltb 1200 (length (b ∷ line))))
            [ inl long ↦ cc (rw long at h1) | inr short ↦ cc (rw short at h1) ]
      ]

  end_text : (line next : List ℕ) (more : List (List ℕ)) → line ≡ end_line → is_at_end (next ∷ more) ≡ true
      → join_with_byte 10 (line ∷ next ∷ more) ≡ end_line ++ line_feed
  end_text line [] [] is empty = ap (λ l. l ++ 10 ∷ []) is
  end_text line [] (other ∷ more) is empty = cc empty
  end_text line (b ∷ next) [] is empty = cc empty
  end_text line (b ∷ next) (other ∷ more) is empty = cc empty

  ended : (n : ℕ) (line next : List ℕ) (more : List (List ℕ)) (ls : List SpelledLine) → n ≤ 4096 → line ≡ end_line
      → after_end (n + 1) (next ∷ more) ≡ Ok ls
      → AreLines n (line ∷ next ∷ more) ls
  ended n line next more ls few is h =
      elim (cases_Bool (is_at_end (next ∷ more))) [
        | inl empty ↦
            let none : [] ≡ ls = cc (rw empty at h) in
            subst (AreLines n (line ∷ next ∷ more)) none
            (record { spelled = end_text line next more is empty; fit = tt; few = omega arith })
        | inr some ↦ cc (rw some at h)
      ]

  before_some : (l : SpelledLine) (r : Read) (ls : List SpelledLine) → put_before l r ≡ Ok ls
      → (rest : List SpelledLine) × (r ≡ Ok rest) × (l ∷ rest ≡ ls)
  before_some l (Err e) ls h = cc h
  before_some l (Ok rest) ls h = (rest, refl, cc h)

  said_some : (n : ℕ) (o : Option SpelledLine) (r : Read) (ls : List SpelledLine) → said n o r ≡ Ok ls
      → (l : SpelledLine) × (rest : List SpelledLine) × (o ≡ Some l) × (r ≡ Ok rest) × (l ∷ rest ≡ ls)
  said_some n None r ls h = cc h
  said_some n (Some l) r ls h =
      let (rest, is, same) = before_some l r ls h in
      (l, rest, refl, is, same)

  line_more : (n : ℕ) (line next : List ℕ) (more : List (List ℕ)) (l : SpelledLine) (rest : List SpelledLine) → n ≤ 4096
      → line_in version (words_of line) ≡ Some l
      → AreLines (n + 1) (next ∷ more) rest → AreLines n (line ∷ next ∷ more) (l ∷ rest)
  line_more n line next more l rest few is after =
      let taken = line_takes version line l is in
      let limit = after.few in
      record {
        spelled = ap (λ xs. xs ++ 10 ∷ join_with_byte 10 (next ∷ more)) taken.0
            ∙ ap (λ xs. line_of (line_words l) ++ 10 ∷ xs) after.spelled
            ∙ sym (append_assoc (line_of (line_words l)) (10 ∷ []) (body_text rest))
            ∙ sym (append_assoc (spelled_line l) (flat_map spelled_line rest) (end_line ++ line_feed));
        fit = (taken.1, after.fit);
        few = omega arith;
      }

  whole : (n : ℕ) (line next : List ℕ) (more : List (List ℕ)) (r : Read) (ls : List SpelledLine) → n ≤ 4096
      → ((rest : List SpelledLine) → r ≡ Ok rest → AreLines (n + 1) (next ∷ more) rest)
      → whole_line is_end_line (told_line version) n line (next ∷ more) r ≡ Ok ls → AreLines n (line ∷ next ∷ more) ls
  whole n line next more r ls few after h =
      elim (cases_Bool (bytes_eq line end_line)) [
        | inl pass ↦ ended n line next more ls few ((bytes_eq-Decides line end_line).0 pass) (rw pass at h)
        | inr fail ↦
            let (l, rest, is, read, same) = said_some n (line_in version (words_of line)) r ls (rw fail at h) in
            subst (AreLines n (line ∷ next ∷ more)) same (line_more n line next more l rest few is (after rest read))
      ]

  lines_found : (n : ℕ) (lines : List (List ℕ)) (ls : List SpelledLine) → told_from version n lines ≡ Ok ls
      → AreLines n lines ls
  lines_found n [] ls h = cc h
  lines_found n (line ∷ []) ls h = absurd (unfinished_none n line ls h)
  lines_found n (line ∷ next ∷ more) ls h =
      elim (cases_Bool (ltb 4096 n)) [
        | inl late ↦ cc (rw late at h)
        | inr early ↦
            let h1 = rw early at h in
            elim (cases_Bool (ltb 1200 (length line))) [
              | inl long ↦ cc (rw long at h1)
              | inr short ↦
                  whole n line next more (told_from version (n + 1) (next ∷ more)) ls (ltb-false 4096 n early)
                  (λ rest read. lines_found (n + 1) (next ∷ more) rest read) (rw short at h1)
            ]
      ]

  -- the lines after the first one, as they are read from a text
  pub body_found : (text : List ℕ) (ls : List SpelledLine) → told_from version 2 (lines_in text) ≡ Ok ls
      → (text ≡ body_text ls) × Each (IsSpelledLine version) ls × (2 + length ls ≤ 4096)
  body_found text ls h =
      let are = lines_found 2 (lines_in text) ls h in
      (sym (join_with_byte-slice_split 10 text) ∙ are.spelled, are.fit, are.few)

-- ---- a text that is spelled is read again

not_feed : (bytes : List ℕ) → has_no_feed bytes ≡ true → All (λ b. is_feed b ≡ false) bytes
not_feed [] h = All-nil (λ b. is_feed b ≡ false)
not_feed (b ∷ bytes) h =
    let parts = and_parts (not (is_feed b)) (has_no_feed bytes) h in
    All-cons (λ x. is_feed x ≡ false) b bytes (grind (arith, nat_tests)) (not_feed bytes parts.1)

cut_line : (line rest : List ℕ) → has_no_feed line ≡ true → lines_in ((line ++ line_feed) ++ rest) ≡ line ∷ lines_in
    rest
cut_line line rest plain = ap lines_in (append_assoc line line_feed rest) ∙ slice_split_at is_feed line 10 rest
    (not_feed line plain) refl

module _ (version : Version) where
  lines_again : (ls : List SpelledLine) (n : ℕ) → Each (IsSpelledLine version) ls → n + length ls ≤ 4096
      → told_from version n (lines_in (body_text ls)) ≡ Ok ls
  lines_again [] n fit few = rw (le-ltb 4096 n (omega arith)) refl
  lines_again (l ∷ ls) n fit few =
      let line = line_of (line_words l) in
      let (next, more, is) = some_line (body_text ls) in
      let cut : lines_in (body_text (l ∷ ls)) ≡ line ∷ next ∷ more =
      ap lines_in (append_assoc (spelled_line l) (flat_map spelled_line ls) (end_line ++ line_feed)) ∙ cut_line line
      (body_text ls) (line_no_feed version l fit.0) ∙ ap (λ lines. line ∷ lines) is in
      let after : told_from version (n + 1) (next ∷ more) ≡ Ok ls =
      ap (told_from version (n + 1)) (sym is) ∙ lines_again ls (n + 1) fit.1 (omega arith) in
      ap (told_from version n) cut ∙ rw (
        le-ltb 4096 n (omega arith),
        le-ltb 1200 (length line) (line_short version l fit.0),
        line_not_end l,
        line_again version l fit.0,
        after,
      )
      refl

-- ---- the whole text

-- the first line has no line feed, and names its version
plain_first : (version : Version) → has_no_feed (first_line version) ≡ true
plain_first One = refl
plain_first Two = refl

first_again : (version : Version) → version_in (first_line version) ≡ Some version
first_again One = refl
first_again Two = refl

pub read_scenario : (version : Version) (ls : List SpelledLine) → Each (IsSpelledLine version) ls → length ls + 2 ≤ 4096
    → read_text (scenario_text version ls) ≡ Ok ls
read_scenario version ls fit few =
    let (next, more, is) = some_line (body_text ls) in
    let cut : lines_in (scenario_text version ls) ≡ first_line version ∷ next ∷ more =
    cut_line (first_line version) (body_text ls) (plain_first version) ∙ ap
    (λ lines. first_line version ∷ lines) is in
    ap read_lines cut ∙ ap (λ v. read_after v (next ∷ more)) (first_again version) ∙ ap (told_from version 2) (sym is)
    ∙ lines_again version ls 2 fit (omega arith)

pub scenario_again : (text : List ℕ) (s : Contents) → IsOldText text s → old_scenario_in text ≡ Ok s
scenario_again text s is =
    ap old_scenario_in is.spelled ∙ ap with_contents (read_scenario is.version is.lines is.fit is.few) ∙ ap Ok
    (sym is.contents_are)

-- a text that begins with a first line has the content of the rest
pub after_first : (version : Version) (rest : List ℕ) → read_text ((first_line version ++ line_feed) ++ rest) ≡
    told_from version 2 (lines_in rest)
after_first version rest =
    let (next, more, is) = some_line rest in
    ap read_lines (cut_line (first_line version) rest (plain_first version) ∙ ap
    (λ lines. first_line version ∷ lines) is)
    ∙ ap (λ v. read_after v (next ∷ more)) (first_again version) ∙ ap (told_from version 2) (sym is)

-- a text that is read, as its version and its lines
record IsTextOf (text : List ℕ) (ls : List SpelledLine) : Type 0 where
  version : Version
  spelled : text ≡ scenario_text version ls
  fit : Each (IsSpelledLine version) ls
  few : length ls + 2 ≤ 4096

-- the first line is that of the version that it names
named : (first : List ℕ) → (version_in first ≡ None) ⊎ ((version : Version) × (version_in first ≡ Some version) ×
    (first ≡ first_line version))
named first =
    elim (cases_Bool (bytes_eq first (first_line One))) [
      | inl one ↦ inr (One, rw one refl, (bytes_eq-Decides first (first_line One)).0 one)
      | inr not_one ↦
          elim (cases_Bool (bytes_eq first (first_line Two))) [
            | inl two ↦ inr (Two, rw (not_one, two) refl, (bytes_eq-Decides first (first_line Two)).0 two)
            | inr not_two ↦ inl (rw (not_one, not_two) refl)
          ]
    ]

version_found : (version : Version) (first next : List ℕ) (rest : List (List ℕ)) (ls : List SpelledLine)
    → first ≡ first_line version → told_from version 2 (next ∷ rest) ≡ Ok ls
    → IsTextOf (join_with_byte 10 (first ∷ next ∷ rest)) ls
version_found version first next rest ls is h =
    let are = lines_found version 2 (next ∷ rest) ls h in
    let limit = are.few in
    record {
      version = version;
      spelled = ap (λ xs. xs ++ 10 ∷ join_with_byte 10 (next ∷ rest)) is
          ∙ ap (λ xs. first_line version ++ 10 ∷ xs) are.spelled
          ∙ sym (append_assoc (first_line version) line_feed (body_text ls));
      fit = are.fit;
      few = omega arith;
    }

whole_found : (lines : List (List ℕ)) (ls : List SpelledLine) → read_lines lines ≡ Ok ls
    → IsTextOf (join_with_byte 10 lines) ls
whole_found [] ls h = cc h
whole_found (first ∷ []) ls h = cc h
whole_found (first ∷ next ∷ rest) ls h =
    elim (named first) [
      | inl none ↦ let bad : Err BadMagic ≡ Ok ls = ap (λ v. read_after v (next ∷ rest)) (sym none) ∙ h in cc bad
      | inr (version, some, is) ↦ version_found version first next rest ls is
          (ap (λ v. read_after v (next ∷ rest)) (sym some) ∙ h)
    ]

text_found : (text : List ℕ) (ls : List SpelledLine) → read_text text ≡ Ok ls → IsTextOf text ls
text_found text ls h = subst (λ t. IsTextOf t ls) (join_with_byte-slice_split 10 text)
    (whole_found (lines_in text) ls h)

contents_found : (text : List ℕ) (s : Contents) (r : Read) → read_text text ≡ r → with_contents r ≡ Ok s
    → IsOldText text s
contents_found text s (Err e) is h = cc h
contents_found text s (Ok ls) is h =
    let of = text_found text ls is in
    record { version = of.version; lines = ls; spelled = of.spelled; fit = of.fit; few = of.few; contents_are = cc h }

pub scenario_found : (text : List ℕ) (s : Contents) → old_scenario_in text ≡ Ok s → IsOldText text s
scenario_found text s h = contents_found text s (read_text text) refl h

-- ---- another first line

has_first : (lines : List (List ℕ)) → (read_lines lines ≡ Err BadMagic) ⊎
    ((version : Version) × (next : List ℕ) × (rest : List (List ℕ)) × (lines ≡ first_line version ∷ next ∷ rest))
has_first [] = inl refl
has_first (first ∷ []) = inl refl
has_first (first ∷ next ∷ rest) =
    elim (named first) [
      | inl none ↦ inl (ap (λ v. read_after v (next ∷ rest)) none)
      | inr (version, some, is) ↦ inr (version, next, rest, ap (λ line. line ∷ next ∷ rest) is)
    ]

begins : (version : Version) (text next : List ℕ) (rest : List (List ℕ))
    → lines_in text ≡ first_line version ∷ next ∷ rest
    → bytes_eq (take 13 text) (first_line version ++ line_feed) ≡ true
begins One text next rest is =
    let whole : text ≡ first_line One ++ 10 ∷ join_with_byte 10 (next ∷ rest) =
    sym (join_with_byte-slice_split 10 text) ∙ ap (join_with_byte 10) is in
    ap (λ t. bytes_eq (take 13 t) (first_line One ++ line_feed)) whole
begins Two text next rest is =
    let whole : text ≡ first_line Two ++ 10 ∷ join_with_byte 10 (next ∷ rest) =
    sym (join_with_byte-slice_split 10 text) ∙ ap (join_with_byte 10) is in
    ap (λ t. bytes_eq (take 13 t) (first_line Two ++ line_feed)) whole

pub not_first : (text : List ℕ) → bytes_eq (take 13 text) (first_line One ++ line_feed) ≡ false
    → bytes_eq (take 13 text) (first_line Two ++ line_feed) ≡ false
    → read_text text ≡ Err BadMagic
not_first text one two =
    elim (has_first (lines_in text)) [
      | inl bad ↦ bad
      | inr (version, next, rest, is) ↦ absurd (neither version (begins version text next rest is))
    ]
  where
    neither : (version : Version) → bytes_eq (take 13 text) (first_line version ++ line_feed) ≡ true → ⊥
    neither One same = cc (sym one ∙ same)
    neither Two same = cc (sym two ∙ same)

-- the text begins with another prefix
pub not_there : (text prefix first : List ℕ) → prefix ≡ first → bytes_eq (take (length prefix) text) prefix ≡ false
    → bytes_eq (take (length first) text) first ≡ false
not_there text prefix first is other = ap (λ p. bytes_eq (take (length p) text) p) (sym is) ∙ other

pub no_first : (text : List ℕ) → read_text text ≡ Err BadMagic → Err BadMagic ≡ old_scenario_in text
no_first text bad = sym (ap with_contents bad)

-- ---- the state that is kept of a text

kept_ok : (n : ℕ) (g k : Kept) (r : Read) → kept_from n g r ≡ Ok k
    → (ls : List SpelledLine) × (r ≡ Ok ls) × (with_lines n g ls ≡ k)
kept_ok n g k (Err e) h = cc h
kept_ok n g k (Ok ls) h = (ls, refl, cc h)

pub kept_refused : (n : ℕ) (g : Kept) (r : Read) (e : ScenarioError) → kept_from n g r ≡ Err e → r ≡ Err e
kept_refused n g (Ok ls) e h = cc h
kept_refused n g (Err f) e h = cc h

pub made : (version : Version) (text rest : List ℕ) (k : Kept) (scripts : List Scripted) (faults : List FaultLine)
    (numbers skipped : List ℕ) (expected : List Expectation)
    → text ≡ (first_line version ++ line_feed) ++ rest → kept_from 2 none_yet (told_from version 2 (lines_in rest)) ≡ Ok
    k → scripts ≡ scripts_from 0 k.tasks
    → faults ≡ k.faults → numbers ≡ k.numbers → skipped ≡ [] → expected ≡ []
    → Ok (record { scripts = scripts; faults = faults; numbers = numbers; skipped = skipped; expected = expected }) ≡
    old_scenario_in text
made version text rest k scripts faults numbers skipped expected is kept ss fs ns none nothing =
    let (ls, read, same) = kept_ok 2 none_yet k (told_from version 2 (lines_in rest)) kept in
    let are = lines_found version 2 (lines_in rest) ls read in
    let scripts_are : scripts ≡ scripts_of ls = ss ∙ ap (λ (g : Kept). scripts_from 0 g.tasks) (sym same) ∙ scripts_kept
    version ls are.fit in
    let faults_are : faults ≡ fault_lines ls = fs ∙ ap (λ (g : Kept). g.faults) (sym same) ∙ faults_kept ls in
    let numbers_are : numbers ≡ fault_numbers 2 ls = ns ∙ ap (λ (g : Kept). g.numbers) (sym same) ∙ numbers_kept ls in
    let value : contents_of ls
    ≡ record { scripts = scripts; faults = faults; numbers = numbers; skipped = skipped; expected = expected } =
    rw (scripts_are, faults_are, numbers_are, none, nothing) refl in
    sym (ap old_scenario_in is ∙ ap with_contents (after_first version rest ∙ read) ∙ ap Ok value)

pub refused : (version : Version) (text rest : List ℕ) (e : ScenarioError)
    → text ≡ (first_line version ++ line_feed) ++ rest → told_from version 2 (lines_in rest) ≡ Err e
    → Err e ≡ old_scenario_in text
refused version text rest e is read = sym (ap old_scenario_in is ∙ ap with_contents (after_first version rest ∙ read))

-- ---- no line has an answer

pub Each-append : {X : Type 0} (P : X → Type 0) (xs ys : List X) → Each P xs → Each P ys → Each P (xs ++ ys)
Each-append P [] ys hx hy = hy
Each-append P (x ∷ xs) ys hx hy = (hx.0, Each-append P xs ys hx.1 hy)

lines_unanswered : (version : Version) (n t : ℕ) (ls : List SpelledLine) → Each (IsSpelledLine version) ls
    → Each IsUnanswered (task_lines n t ls)
lines_unanswered version n t [] fit = tt
lines_unanswered version n t (Host node task line ∷ ls) fit =
    let rest = lines_unanswered version n t ls fit.1 in
    elim (cases_Bool (node == n && task == t)) [
      | inl here ↦ rw here (fit.0.unanswered, rest)
      | inr there ↦ rw there rest
    ]
lines_unanswered version n t (FaultOf f ∷ ls) fit = lines_unanswered version n t ls fit.1

pub script_unanswered : (n t : ℕ) (lines : List Line) → Each IsUnanswered lines → AreUnanswered (script_of n t lines)
script_unanswered n t [] all = tt
script_unanswered n t (line ∷ lines) all = (all, tt)

scripts_unanswered : (version : Version) (ls : List SpelledLine) (places : List ℕ) → Each (IsSpelledLine version) ls
    → AreUnanswered (flat_map (λ k. script_of (node_at k) (task_at k) (task_lines (node_at k) (task_at k) ls)) places)
scripts_unanswered version ls [] fit = tt
scripts_unanswered version ls (k ∷ places) fit =
    Each-append (λ script. Each IsUnanswered script.lines) (script_of (node_at k) (task_at k)
    (task_lines (node_at k) (task_at k) ls)) _
    (script_unanswered (node_at k) (task_at k) _ (lines_unanswered version (node_at k) (task_at k) ls fit))
    (scripts_unanswered version ls places fit)

pub made_unanswered : (version : Version) (rest : List ℕ) (k : Kept) (scripts : List Scripted)
    → kept_from 2 none_yet (told_from version 2 (lines_in rest)) ≡ Ok k
    → scripts ≡ scripts_from 0 k.tasks → AreUnanswered scripts
made_unanswered version rest k scripts kept ss =
    let (ls, read, same) = kept_ok 2 none_yet k (told_from version 2 (lines_in rest)) kept in
    let are = lines_found version 2 (lines_in rest) ls read in
    let scripts_are : scripts ≡ scripts_of ls = ss ∙ ap (λ (g : Kept). scripts_from 0 g.tasks) (sym same) ∙ scripts_kept
    version ls are.fit in
    subst AreUnanswered (sym scripts_are) (scripts_unanswered version ls (range_with_len 0 128) are.fit)

-- ---- one line more

pub body_more : (version : Version) (n : ℕ) (g k : Kept) (lines left : List (List ℕ)) (line : List ℕ) (l : SpelledLine)
    → n ≤ 4096 → next_line n lines ≡ Ok line → left ≡ drop 1 lines → bytes_eq line end_line ≡ false
    → line_in version (words_of line) ≡ Some l → k ≡ with_line n g l
    → kept_from (n + 1) k (told_from version (n + 1) left) ≡ kept_from n g (told_from version n lines)
body_more version n g k lines left line l few next rest other some kept =
    let after = told_from version (n + 1) (drop 1 lines) in
    let is : told_from version n lines ≡ put_before l after =
    read_next is_end_line (told_line version) n lines line few next ∙ rw (other, some) refl in
    ap (λ (x : Kept). kept_from (n + 1) x (told_from version (n + 1) left)) kept
    ∙ ap (λ (ls : List (List ℕ)). kept_from (n + 1) (with_line n g l) (told_from version (n + 1) ls)) rest
    ∙ before_kept n g l after ∙ sym (ap (kept_from n g) is)
  where
    before_kept : (n : ℕ) (g : Kept) (l : SpelledLine) (r : Read)
        → kept_from (n + 1) (with_line n g l) r ≡ kept_from n g (put_before l r)
    before_kept n g l (Ok ls) = refl
    before_kept n g l (Err e) = refl
