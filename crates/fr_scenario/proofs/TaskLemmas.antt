-- The lines that are kept for each task, and the scripts that they make.
use Rattle.std.proofs.Common.{◌≡◌, ◌≢◌, ℕ, zero, suc, ◌+◌, ◌*◌, ◌/◌, ◌%◌, ◌<◌, ◌==◌, ◌&&◌, true, false, inl, inr, List}
use Rattle.std.proofs.Common.{[], cond}
use Rattle.std.proofs.Common.{◌∷◌, ◌++◌, length, get_or, set, replicate, map, refl, sym, ap, ◌∙◌, arith, append_assoc}
use Rattle.std.proofs.lemmas.Bool.{cases_Bool, cases_eq, eq-eqb}
use Rattle.std.proofs.lemmas.Bool.Decides.{nat_tests}
use Rattle.std.proofs.lemmas.List.{get_or-set_same, get_or-set_other, append-nil, replicate-append-replicate}
use Rattle.std.proofs.lemmas.List.{length-replicate}
use Rattle.std.proofs.lemmas.List.FromFn.{fill_by_all}
use Rattle.std.proofs.Math.ListN.{length-set}
use Rattle.std.specs.List.{flat_map, range_with_len}
use Rattle.fr_core.specs.declared.script.Line.{Line}
use Rattle.fr_core.specs.Scripts.{Scripted}
use Rattle.fr_scenario.specs.Contents.{script_of, node_at, task_at, task_lines, fault_lines, fault_numbers, scripts_of}
use Rattle.fr_scenario.specs.declared.spelled.SpelledLine.{SpelledLine}
use Rattle.fr_scenario.specs.declared.spelled.SpelledLine.TheVariants.{Host, Fault as FaultOf}
use Rattle.fr_scenario.specs.Gathering.{Kept, none_yet, place_of, with_line, with_lines, with_task_line, scripts_from}
use Rattle.fr_scenario.specs.declared.version.Version.{Version}
use Rattle.fr_scenario.specs.Spelled.{IsSpelledLine}
use Rattle.fr_slots.specs.Plans.{Each}

-- ---- one task more

pub script_none : (ss : List Scripted) (place : ℕ) (ls : List Line) (rest : List (List Line)) → length ls ≡ 0
    → ss ++ scripts_from (place + 1) rest ≡ ss ++ scripts_from place (ls ∷ rest)
script_none ss place [] rest none = refl
script_none ss place (l ∷ ls) rest none = absurd (omega arith)

pub script_some : (ss : List Scripted) (place : ℕ) (ls : List Line) (rest : List (List Line)) → 0 < length ls
    → (ss ++ record { node = node_at place; task = task_at place; lines = ls } ∷ []) ++ scripts_from (place + 1) rest
    ≡ ss ++ scripts_from place (ls ∷ rest)
script_some ss place [] rest some = absurd (omega arith)
script_some ss place (l ∷ ls) rest some = append_assoc ss
    (record { node = node_at place; task = task_at place; lines = l ∷ ls } ∷ []) (scripts_from (place + 1) rest)

pub replicate-more : {X : Type 0} (n : ℕ) (x : X) → replicate n x ++ x ∷ [] ≡ replicate (n + 1) x
replicate-more n x = replicate-append-replicate n 1 x

-- ---- the lines of each task

length-with_line : (n : ℕ) (g : Kept) (l : SpelledLine) → length (with_line n g l).tasks ≡ length g.tasks
length-with_line n g (Host node task line) = length-set g.tasks (place_of node task) _
length-with_line n g (FaultOf f) = refl

pub length-kept : (n : ℕ) (lines : List SpelledLine) (g : Kept) → length (with_lines n g lines).tasks ≡ length g.tasks
length-kept n [] g = refl
length-kept n (l ∷ lines) g = length-kept (n + 1) lines (with_line n g l) ∙ length-with_line n g l

elsewhere : (node task k : ℕ) → 8 * node + task ≢ k → (node == k / 8 && task == k % 8) ≡ false
elsewhere node task k other =
    elim (cases_Bool (node == k / 8 && task == k % 8)) [
      | inl same ↦ absurd (other (grind (arith, nat_tests)))
      | inr differ ↦ differ
    ]

-- one line more at its task
pub line_more : (tasks : List (List Line)) (node task : ℕ) (line : Line) (rest : List Line) (k : ℕ)
    → node_at (place_of node task) ≡ node → task_at (place_of node task) ≡ task → place_of node task < length tasks
    → get_or (with_task_line (place_of node task) line tasks) k [] ++ rest
    ≡ get_or tasks k [] ++ cond (node == node_at k && task == task_at k) (line ∷ rest) rest
line_more tasks node task line rest k of by inside =
    let place = place_of node task in
    let old = get_or tasks place [] in
    elim (cases_eq place k) [
      | inl same ↦
          let n : (node == k / 8) ≡ true = eq-eqb node (k / 8) (sym of ∙ ap (λ j. j / 8) same) in
          let t : (task == k % 8) ≡ true = eq-eqb task (k % 8) (sym by ∙ ap (λ j. j % 8) same) in
          let now : get_or (set tasks place (old ++ line ∷ [])) k [] ≡ get_or tasks k [] ++ line ∷ [] =
          ap (λ j. get_or (set tasks place (old ++ line ∷ [])) j []) (sym same) ∙ get_or-set_same tasks place
          (old ++ line ∷ []) [] inside ∙ ap (λ j. get_or tasks j [] ++ line ∷ []) same in
          rw (n, t) (ap (λ xs. xs ++ rest) now ∙ append_assoc (get_or tasks k []) (line ∷ []) rest)
      | inr other ↦
          rw (elsewhere node task k other) (ap (λ xs. xs ++ rest)
          (get_or-set_other tasks place k (old ++ line ∷ []) [] (λ e. other (sym e))))
    ]

step : (version : Version) (n : ℕ) (g : Kept) (l : SpelledLine) (lines : List SpelledLine) (k : ℕ)
    → IsSpelledLine version l → length g.tasks ≡ 128
    → get_or (with_line n g l).tasks k [] ++ task_lines (node_at k) (task_at k) lines
    ≡ get_or g.tasks k [] ++ task_lines (node_at k) (task_at k) (l ∷ lines)
step version n g (Host node task line) lines k fits len =
    let low = fits.task_fits in
    let high = fits.node_fits in
    line_more g.tasks node task line (task_lines (node_at k) (task_at k) lines) k (omega arith) (omega arith)
    (omega arith)
step version n g (FaultOf f) lines k fits len = refl

kept_lines : (version : Version) (n : ℕ) (lines : List SpelledLine) (g : Kept) (k : ℕ)
    → Each (IsSpelledLine version) lines → length g.tasks ≡ 128 → k < 128
    → get_or (with_lines n g lines).tasks k [] ≡ get_or g.tasks k [] ++ task_lines (node_at k) (task_at k) lines
kept_lines version n [] g k fit len within = sym (append-nil (get_or g.tasks k []))
kept_lines version n (l ∷ lines) g k fit len within =
    kept_lines version (n + 1) lines (with_line n g l) k fit.1 (length-with_line n g l ∙ len) within
    ∙ step version n g l lines k fit.0 len

pub nothing_yet : {X : Type 0} (n k : ℕ) → get_or (replicate {A = List X} n []) k [] ≡ []
nothing_yet zero k = refl
nothing_yet (suc n) zero = refl
nothing_yet (suc n) (suc k) = nothing_yet n k

-- ---- the scripts

pub scripts_by : (f : ℕ → List Line) (n place : ℕ) → scripts_from place (map f (range_with_len place n)) ≡ flat_map
    (λ k. script_of (node_at k) (task_at k) (f k)) (range_with_len place n)
scripts_by f zero place = refl
scripts_by f (suc n) place = ap (λ ss. script_of (node_at place) (task_at place) (f place) ++ ss)
    (scripts_by f n (place + 1))

pub scripts_kept : (version : Version) (lines : List SpelledLine) → Each (IsSpelledLine version) lines
    → scripts_from 0 (with_lines 2 none_yet lines).tasks ≡ scripts_of lines
scripts_kept version lines fit =
    let tasks = (with_lines 2 none_yet lines).tasks in
    let f = λ (k : ℕ). task_lines (node_at k) (task_at k) lines in
    let len : length none_yet.tasks ≡ 128 = length-replicate {A = List Line} 128 [] in
    let all : length tasks ≡ 128 = length-kept 2 lines none_yet ∙ len in
    let each = λ (k : ℕ) (within : k < 128). kept_lines version 2 lines none_yet k fit len within ∙ ap (λ xs. xs ++ f k)
    (nothing_yet 128 k) in
    ap (scripts_from 0) (fill_by_all f tasks 128 [] all each) ∙ scripts_by f 128 0

faults_more : (n : ℕ) (lines : List SpelledLine) (g : Kept) → (with_lines n g lines).faults ≡ g.faults ++ fault_lines
    lines
faults_more n [] g = sym (append-nil g.faults)
faults_more n (Host node task line ∷ lines) g = faults_more (n + 1) lines (with_line n g (Host node task line))
faults_more n (FaultOf f ∷ lines) g = faults_more (n + 1) lines (with_line n g (FaultOf f)) ∙ append_assoc g.faults
    (f ∷ []) (fault_lines lines)

pub faults_kept : (lines : List SpelledLine) → (with_lines 2 none_yet lines).faults ≡ fault_lines lines
faults_kept lines = faults_more 2 lines none_yet

numbers_more : (n : ℕ) (lines : List SpelledLine) (g : Kept)
    → (with_lines n g lines).numbers ≡ g.numbers ++ fault_numbers n lines
numbers_more n [] g = sym (append-nil g.numbers)
numbers_more n (Host node task line ∷ lines) g = numbers_more (n + 1) lines (with_line n g (Host node task line))
numbers_more n (FaultOf f ∷ lines) g = numbers_more (n + 1) lines (with_line n g (FaultOf f)) ∙ append_assoc g.numbers
    (n ∷ []) (fault_numbers (n + 1) lines)

pub numbers_kept : (lines : List SpelledLine) → (with_lines 2 none_yet lines).numbers ≡ fault_numbers 2 lines
numbers_kept lines = numbers_more 2 lines none_yet
