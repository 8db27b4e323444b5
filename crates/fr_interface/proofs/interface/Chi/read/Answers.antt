use Rattle.std.proofs.Common.{Option, sym, subst}
use Rattle.std.specs.Prelude.{IfSome}
use Rattle.fr_frame.specs.Fields.{Fields}
use Rattle.fr_journal.specs.Held.{IsReceivable}
use Rattle.fr_interface.proofs.interface.Chi.read.Goals as goal

pub returns-clause-frames : goal.returns-clause-frames
returns-clause-frames g c =
    subst (λ (o : Option Fields). IfSome o IsReceivable) (sym c.frame_in.ensures) c.in_ok-read_arrival.ensures.frames
