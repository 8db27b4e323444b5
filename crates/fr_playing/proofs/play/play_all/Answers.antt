use Rattle.std.proofs.Common.{◌∙◌, ap, sym}
use Rattle.fr_playing.proofs.PlayLemmas.{is_played}
use Rattle.fr_playing.proofs.play.play_all.Goals as goal
use Rattle.fr_bus.specs.States.{BusState}
use Rattle.fr_playing.specs.Moving.{whole_window}

pub returns-in-None : goal.returns-in-None
returns-in-None c =
    is_played c.args.cluster.now c.args.scripts.now c.args.faults.now c.args.cycles
    (whole_window c.nodes.result)
    c.in_ok-world.world (record { world = c.play_cycles.new.world; calls = c.play_cycles.new.calls })
    (ap whole_window c.nodes.ensures.value) c.in_ok-world.ensures.1
    c.in_ok-play_cycles.ensures
    (ap (λ (b : BusState). b.opened) (sym c.bus.ensures.value) ∙ sym c.in-None.ensures)
