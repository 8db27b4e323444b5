-- The calls of one task among those of a run: the lines of its script, in their order.
use Rattle.std.proofs.Common.{◌≡◌, ℕ, zero, suc, ◌+◌, Bool, true, false, cond, ◌&&◌, ◌||◌, List, [], ◌∷◌, ◌++◌}
use Rattle.std.proofs.Common.{map, refl, sym, ap, ap₂, subst, ◌∙◌, append-nil, arith}
use Rattle.std.specs.Prelude.{◌==◌, filter}
use Rattle.std.specs.List.{flat_map, range_with_len, list_any, list_all}
use Rattle.std.proofs.lemmas.Bool.{eq-eqb, eqb-true}
use Rattle.std.proofs.lemmas.Grind.{flat_map-append}
use Rattle.std.proofs.lemmas.List.{map-append}
use Rattle.std.proofs.lemmas.List.Elements.{filter-append}
use Rattle.fr_core.proofs.CaseLemmas.{both, both_first, both_rest}
use Rattle.fr_core.specs.declared.script.Line.{Line}
use Rattle.fr_core.specs.Scripts.{Scripted, is_for}
use Rattle.fr_playing.specs.Calls.{Asked, asked_in_line, asked_in_script, asked_in}
use Rattle.fr_playing.specs.Playing.{asked_by}
use Rattle.fr_playing.proofs.MovingLemmas.{range-more}
use Rattle.fr_runs.specs.Stepping.{lines_given}
use Rattle.fr_playing.proofs.RisingLemmas.{is_below, is_at, Rises, none_below, below_next, all_below}

abbrev pub is_mine : ℕ → ℕ → Asked → Bool
is_mine n task a = a.node == n && a.task == task

-- the calls of the task among these
abbrev pub mine : ℕ → ℕ → List Asked → List Asked
mine n task asked = filter (is_mine n task) asked

-- the line as a call of the task
abbrev pub ask : ℕ → ℕ → Line → Asked
ask n task line = record { node = n; task = task; cycle = line.cycle; call = line.action }

abbrev asked_as : ℕ → ℕ → ℕ → Line → Asked
asked_as n task cycle line = record { node = n; task = task; cycle = cycle; call = line.action }

abbrev pub cycle_of : Line → ℕ
cycle_of line = line.cycle

pub neither_first : (p q : Bool) → (p || q) ≡ false → p ≡ false
neither_first true q none = absurd (let no : ⊥ = cc in no)
neither_first false q none = refl

pub neither_rest : (p q : Bool) → (p || q) ≡ false → q ≡ false
neither_rest true q none = absurd (let no : ⊥ = cc in no)
neither_rest false q none = none

module _ (n task : ℕ) where
  -- ---- the lines of one script

  abbrev pub of_script : List Line → ℕ → List Asked
  of_script lines cycle = flat_map (asked_in_line cycle n task) lines

  line_at : (cycle : ℕ) (line : Line) (rest : List Line) (b : Bool) → (line.cycle == cycle) ≡ b
      → cond b (asked_as n task cycle line ∷ []) [] ++ map (ask n task) rest
      ≡ map (ask n task) (cond b (line ∷ rest) rest)
  line_at cycle line rest true is =
      ap (λ (k : ℕ). asked_as n task k line ∷ map (ask n task) rest) (sym (eqb-true line.cycle cycle is))
  line_at cycle line rest false is = refl

  lines_at : (cycle : ℕ) (lines : List Line) → of_script lines cycle ≡ map (ask n task) (filter (is_at cycle_of cycle)
      lines)
  lines_at cycle [] = refl
  lines_at cycle (line ∷ lines) =
      ap (λ (l : List Asked). asked_in_line cycle n task line ++ l) (lines_at cycle lines)
      ∙ line_at cycle line (filter (is_at cycle_of cycle) lines) (line.cycle == cycle) refl

  abbrev IsUpTo : List Line → ℕ → Type 0
  IsUpTo lines count = flat_map (of_script lines) (range_with_len 0 count)
      ≡ map (ask n task) (filter (is_below cycle_of count) lines)

  up_to_next : (lines : List Line) → Rises cycle_of 0 lines → (count : ℕ) → IsUpTo lines count
      → IsUpTo lines (count + 1)
  up_to_next lines rises count so_far =
      let place : 0 + count ≡ count = omega arith in
      ap (flat_map (of_script lines)) (range-more 0 count)
      ∙ flat_map-append (of_script lines) (range_with_len 0 count) ((0 + count) ∷ [])
      ∙ ap₂ (λ (a : List Asked) (b : List Asked). a ++ b) so_far
      (append-nil (of_script lines (0 + count)) ∙ ap (of_script lines) place ∙ lines_at count lines)
      ∙ sym (map-append (ask n task) (filter (is_below cycle_of count) lines) (filter (is_at cycle_of count) lines))
      ∙ ap (map (ask n task)) (sym (below_next cycle_of count 0 lines rises))

  up_to : (lines : List Line) → Rises cycle_of 0 lines → (count : ℕ) → IsUpTo lines count
  up_to lines rises zero = ap (map (ask n task)) (sym (none_below cycle_of 0 0 lines rises (omega arith)))
  up_to lines rises (suc count) =
      subst (IsUpTo lines) (omega arith) (up_to_next lines rises count (up_to lines rises count))

  -- ---- the scripts

  mine_line : (cycle : ℕ) (line : Line) (b : Bool) → filter (is_mine n task) (cond b (asked_as n task cycle line ∷ [])
      [])
      ≡ cond b (asked_as n task cycle line ∷ []) []
  mine_line cycle line true =
      ap (λ (b : Bool). cond b (asked_as n task cycle line ∷ []) [])
      (both (n == n) (task == task) (eq-eqb n n refl) (eq-eqb task task refl))
  mine_line cycle line false = refl

  all_mine : (cycle : ℕ) (lines : List Line) → mine n task (of_script lines cycle) ≡ of_script lines cycle
  all_mine cycle [] = refl
  all_mine cycle (line ∷ lines) =
      filter-append (is_mine n task) (asked_in_line cycle n task line) (of_script lines cycle)
      ∙ ap₂ (λ (a : List Asked) (b : List Asked). a ++ b) (mine_line cycle line (line.cycle == cycle))
      (all_mine cycle lines)

  other_line : (m t cycle : ℕ) (line : Line) (b : Bool) → (m == n && t == task) ≡ false
      → filter (is_mine n task) (cond b (asked_as m t cycle line ∷ []) []) ≡ []
  other_line m t cycle line true other = ap (λ (b : Bool). cond b (asked_as m t cycle line ∷ []) []) other
  other_line m t cycle line false other = refl

  none_mine : (m t cycle : ℕ) (lines : List Line) → (m == n && t == task) ≡ false
      → mine n task (flat_map (asked_in_line cycle m t) lines) ≡ []
  none_mine m t cycle [] other = refl
  none_mine m t cycle (line ∷ lines) other =
      filter-append (is_mine n task) (asked_in_line cycle m t line) (flat_map (asked_in_line cycle m t) lines)
      ∙ ap₂ (λ (a : List Asked) (b : List Asked). a ++ b) (other_line m t cycle line (line.cycle == cycle) other)
      (none_mine m t cycle lines other)

  mine_script : (cycle : ℕ) (script : Scripted) → is_for n task script ≡ true
      → mine n task (asked_in_script cycle script) ≡ of_script script.lines cycle
  mine_script cycle script own =
      ap₂ (λ (m : ℕ) (t : ℕ). mine n task (flat_map (asked_in_line cycle m t) script.lines))
      (eqb-true script.node n (both_first (script.node == n) (script.task == task) own))
      (eqb-true script.task task (both_rest (script.node == n) (script.task == task) own))
      ∙ all_mine cycle script.lines

  -- no script is for the task
  none_in : (cycle : ℕ) (scripts : List Scripted) → list_any (is_for n task) scripts ≡ false
      → mine n task (asked_in cycle scripts) ≡ []
  none_in cycle [] none = refl
  none_in cycle (script ∷ scripts) none =
      filter-append (is_mine n task) (asked_in_script cycle script) (asked_in cycle scripts)
      ∙ ap₂ (λ (a : List Asked) (b : List Asked). a ++ b)
      (none_mine script.node script.task cycle script.lines
      (neither_first (is_for n task script) (list_any (is_for n task) scripts) none))
      (none_in cycle scripts (neither_rest (is_for n task script) (list_any (is_for n task) scripts) none))

  -- at most one script is for the task
  abbrev pub Once : List Scripted → Type 0
  Once [] = Unit {0}
  Once (script ∷ scripts) =
      (is_for n task script ≡ true → list_any (is_for n task) scripts ≡ false) × Once scripts

  mine_in : (cycle : ℕ) (scripts : List Scripted) → Once scripts
      → mine n task (asked_in cycle scripts) ≡ of_script (lines_given scripts n task) cycle
  mine_in cycle [] once = refl
  mine_in cycle (script ∷ scripts) once =
      filter-append (is_mine n task) (asked_in_script cycle script) (asked_in cycle scripts)
      ∙ by_script (is_for n task script) refl (mine_in cycle scripts once.1)
    where
      by_script : (b : Bool) → is_for n task script ≡ b
          → mine n task (asked_in cycle scripts) ≡ of_script (lines_given scripts n task) cycle
          → mine n task (asked_in_script cycle script) ++ mine n task (asked_in cycle scripts)
          ≡ of_script (cond b script.lines (lines_given scripts n task)) cycle
      by_script true own rest =
          ap₂ (λ (a : List Asked) (b : List Asked). a ++ b) (mine_script cycle script own)
          (none_in cycle scripts (once.0 own))
          ∙ append-nil (of_script script.lines cycle)
      by_script false other rest =
          ap₂ (λ (a : List Asked) (b : List Asked). a ++ b)
          (none_mine script.node script.task cycle script.lines other)
          rest

  mine_by : (scripts : List Scripted) → Once scripts → (cycles : List ℕ)
      → mine n task (flat_map (λ (cycle : ℕ). asked_in cycle scripts) cycles)
      ≡ flat_map (of_script (lines_given scripts n task)) cycles
  mine_by scripts once [] = refl
  mine_by scripts once (cycle ∷ cycles) =
      filter-append (is_mine n task) (asked_in cycle scripts) (flat_map (λ (c : ℕ). asked_in c scripts) cycles)
      ∙ ap₂ (λ (a : List Asked) (b : List Asked). a ++ b) (mine_in cycle scripts once) (mine_by scripts once cycles)

  -- the calls of the task are the lines of its script, if these rise and are of cycles of the run
  pub mine_are_lines : (scripts : List Scripted) (cycles : ℕ) → Once scripts
      → Rises cycle_of 0 (lines_given scripts n task)
      → list_all (is_below cycle_of cycles) (lines_given scripts n task) ≡ true
      → mine n task (asked_by cycles scripts) ≡ map (ask n task) (lines_given scripts n task)
  mine_are_lines scripts cycles once rises few =
      mine_by scripts once (range_with_len 0 cycles)
      ∙ up_to (lines_given scripts n task) rises cycles
      ∙ ap (map (ask n task)) (all_below cycle_of cycles (lines_given scripts n task) few)
