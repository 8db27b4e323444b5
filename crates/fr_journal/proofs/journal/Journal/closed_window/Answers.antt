use Rattle.std.proofs.Common.{ap, sym, ◌∙◌, List}
use Rattle.fr_journal.specs.Forms.{ShortEntry}
use Rattle.fr_journal.specs.Marks.{fetched_at, mark_at}
use Rattle.fr_journal.proofs.ShortLemmas.{closed-known}
use Rattle.fr_journal.proofs.journal.Journal.closed_window.Goals as goal

pub returns : goal.returns
returns c =
    let shorts = c.as_slice-shorts.ensures.value in
    c.fetched_at.ensures ∙ ap (λ (l : List ShortEntry). fetched_at l c.in_ok-mark.mark) shorts
    ∙ closed-known c.self.inside _ c.self.invariant c.self.view_is c.args.number c.in_ok-mark.mark
    (sym (c.mark_at.ensures ∙ ap (λ (l : List ShortEntry). mark_at l c.args.number) shorts) ∙ c.in_ok-mark.was)
