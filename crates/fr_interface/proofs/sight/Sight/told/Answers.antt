use Rattle.std.proofs.Common.{sym, ap, ◌∙◌}
use Rattle.fr_interface.specs.declared.sight.Sight.{Sight}
use Rattle.fr_interface.specs.Seeing.{status_seen}
use Rattle.fr_interface.specs.Sights.{seen_in}
use Rattle.fr_journal.specs.Held.{data_frame_seen}
use Rattle.fr_interface.proofs.sight.Sight.told.Goals as goal

pub returns-in-Own-clause-status : goal.returns-in-Own-clause-status
returns-in-Own-clause-status c = c.of_own.ensures.status c.args.params.now
    ∙ ap (λ (s : Sight). status_seen c.args.params.now c.args.window.now c.args.channel (seen_in s)) (sym c.in-Own.is)

pub returns-in-Own-clause-frame : goal.returns-in-Own-clause-frame
returns-in-Own-clause-frame c = c.of_own.ensures.frame c.args.params.now
    ∙ ap (λ (s : Sight). data_frame_seen c.args.params.now c.args.window.now c.args.channel (seen_in s))
    (sym c.in-Own.is)

pub returns-in-Conflict-clause-status : goal.returns-in-Conflict-clause-status
returns-in-Conflict-clause-status c = c.of_conflict.ensures.status c.args.params.now
    ∙ ap (λ (s : Sight). status_seen c.args.params.now c.args.window.now c.args.channel (seen_in s))
    (sym c.in-Conflict.is)

pub returns-in-Conflict-clause-frame : goal.returns-in-Conflict-clause-frame
returns-in-Conflict-clause-frame c = c.of_conflict.ensures.frame c.args.params.now
    ∙ ap (λ (s : Sight). data_frame_seen c.args.params.now c.args.window.now c.args.channel (seen_in s))
    (sym c.in-Conflict.is)
