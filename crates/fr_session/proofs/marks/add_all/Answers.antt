use Rattle.fr_session.proofs.MarkLemmas.{left}
use Rattle.fr_session.proofs.marks.add_all.Goals as goal

pub returns : goal.returns
returns c = λ m. left c.args.own c.at.result c.at-2.result c.at-3.result m _ _ _ _ _ c.at.ensures c.at-2.ensures
    c.at-3.ensures
    (c.in_ok-add.ensures m) (c.in_ok-add-2.ensures m) (c.in_ok-add-3.ensures m) (c.in_ok-add-4.ensures m)
