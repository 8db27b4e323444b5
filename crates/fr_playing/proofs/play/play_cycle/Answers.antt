use Rattle.fr_playing.proofs.PlayLemmas.{ends_cycle}
use Rattle.fr_playing.specs.Moving.{whole_window}
use Rattle.fr_playing.proofs.play.play_cycle.Goals as goal

pub returns : goal.returns
returns c =
    ends_cycle c.play_windows.result c.args.cycle c.args.scripts.now c.args.faults.now (whole_window c.args.nodes)
    c.args.calls.now.items c.do_lines.new.calls.items
    c.args.world.now c.do_lines.new.world c.play_windows.new.world c.in_ok-do_lines.ensures c.play_windows.ensures
