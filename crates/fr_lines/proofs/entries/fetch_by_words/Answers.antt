use Rattle.std.proofs.Common.{sym, ◌∙◌}
use Rattle.fr_lines.proofs.FirstLemmas.{no_window, a_fetch}
use Rattle.fr_lines.proofs.entries.fetch_by_words.Goals as goal

pub returns-in_err-window : goal.returns-in_err-window
returns-in_err-window c bytes =
    rw c.from_residual.ensures (sym (no_window c.args.words.now (sym c.in_err-window.ensures.window)))

pub returns : goal.returns
returns c bytes =
    sym (a_fetch c.args.words.now c.next_window.new.words c.next_offered.new.words c.in_ok-window.window
    c.in_ok-a.a c.in_ok-b.b
    (sym c.in_ok-window.ensures.window) c.in_ok-window.ensures.left
    (sym c.in_ok-a.ensures.offered) c.in_ok-a.ensures.left
    (sym c.in_ok-b.ensures.offered) (sym c.in_ok-b.ensures.left ∙ c.in_ok-end.ensures.none))
