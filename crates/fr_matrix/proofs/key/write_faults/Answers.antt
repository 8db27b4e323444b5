use Rattle.std.specs.Prelude.{codes}
use Rattle.fr_matrix.specs.Pages.{key_entry, key_faults}
use Rattle.fr_svg.proofs.NumberedLemmas.{last-written}
use Rattle.fr_matrix.proofs.key.write_faults.Goals as goal

pub returns : goal.returns
unfolding key_faults
returns g c =
    let start = g.W.Write.contents c.args.writer.now in
    let mid = g.W.Write.contents c.write_entry.new.writer in
    last-written c.write_entry-2.result start mid (g.W.Write.contents c.write_entry-2.new.writer)
    (key_entry 310 c.args.top 25 (codes "silence lost") (codes "l") (codes "lost by a fault"))
    (key_entry 450 c.args.top 25 (codes "data n0 turned") (codes "t") (codes "a bit flipped by a fault"))
    c.in_ok-write_entry.ensures c.write_entry-2.ensures
