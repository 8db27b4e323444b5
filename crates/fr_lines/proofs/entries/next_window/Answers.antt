use Rattle.std.proofs.Common.{refl, sym, ◌∙◌}
use Rattle.fr_lines.proofs.FirstLemmas.{window_by_steps}
use Rattle.fr_lines.proofs.entries.next_window.Goals as goal

pub returns-in_err-number-clause-window : goal.returns-in_err-number-clause-window
returns-in_err-number-clause-window c =
    c.from_residual.ensures ∙ sym (window_by_steps c.args.words.now ∙ rw (← c.in_err-number.ensures.number) refl)

pub returns-in_err-cycle-clause-window : goal.returns-in_err-cycle-clause-window
returns-in_err-cycle-clause-window c =
    c.from_residual-in_err-cycle.ensures
    ∙ sym (window_by_steps c.args.words.now
    ∙ rw (← c.in_ok-number.ensures.number, ← c.in_ok-number.ensures.left, ← c.in_err-cycle.ensures.number) refl)

pub returns-in_err-minislot-clause-window : goal.returns-in_err-minislot-clause-window
returns-in_err-minislot-clause-window c =
    c.from_residual-in_err-minislot.ensures
    ∙ sym (window_by_steps c.args.words.now
    ∙ rw (
      ← c.in_ok-number.ensures.number,
      ← c.in_ok-number.ensures.left,
      ← c.in_ok-cycle.ensures.number,
      ← c.in_ok-cycle.ensures.left,
      ← c.in_err-minislot.ensures.number,
    ) refl)

pub returns-in_err-a-clause-window : goal.returns-in_err-a-clause-window
returns-in_err-a-clause-window c =
    c.from_residual-in_err-a.ensures
    ∙ sym (window_by_steps c.args.words.now
    ∙ rw (
      ← c.in_ok-number.ensures.number,
      ← c.in_ok-number.ensures.left,
      ← c.in_ok-cycle.ensures.number,
      ← c.in_ok-cycle.ensures.left,
      ← c.in_ok-minislot.ensures.number,
      ← c.in_ok-minislot.ensures.left,
      ← c.in_err-a.ensures.slot,
    ) refl)

pub returns-in_err-b-clause-window : goal.returns-in_err-b-clause-window
returns-in_err-b-clause-window c =
    c.from_residual-in_err-b.ensures
    ∙ sym (window_by_steps c.args.words.now
    ∙ rw (
      ← c.in_ok-number.ensures.number,
      ← c.in_ok-number.ensures.left,
      ← c.in_ok-cycle.ensures.number,
      ← c.in_ok-cycle.ensures.left,
      ← c.in_ok-minislot.ensures.number,
      ← c.in_ok-minislot.ensures.left,
      ← c.in_ok-a.ensures.slot,
      ← c.in_ok-a.ensures.left,
      ← c.in_err-b.ensures.slot,
    ) refl)

pub returns-clause-window : goal.returns-clause-window
returns-clause-window c =
    rw c.from_bits.ensures at c.window_at.ensures
    ∙ sym (window_by_steps c.args.words.now
    ∙ rw (
      ← c.in_ok-number.ensures.number,
      ← c.in_ok-number.ensures.left,
      ← c.in_ok-cycle.ensures.number,
      ← c.in_ok-cycle.ensures.left,
      ← c.in_ok-minislot.ensures.number,
      ← c.in_ok-minislot.ensures.left,
      ← c.in_ok-a.ensures.slot,
      ← c.in_ok-a.ensures.left,
      ← c.in_ok-b.ensures.slot,
    ) refl)
