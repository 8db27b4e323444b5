use Rattle.std.proofs.Common.{◌∙◌}
use Rattle.fr_endless.proofs.TapLemmas.{front_absent, front_handed}
use Rattle.fr_showing.specs.RecordText.{window_text}
use Rattle.fr_endless.proofs.taps.write_recorded.Goals as goal

pub returns-in_default : goal.returns-in_default
returns-in_default g c =
    front_absent g.F.Write.contents c.args.file.now
    (window_text c.args.scenario.now c.args.params.now c.args.cycle c.args.sealed.now) c.in_default.is

pub returns-in-Ok : goal.returns-in-Ok
returns-in-Ok g c =
    front_handed g.F.Write.contents c.args.file.now c.in-Some.writer c.hand_text.new.writer c.hand_text.result
    c.as_slice.result.now (window_text c.args.scenario.now c.args.params.now c.args.cycle c.args.sealed.now)
    c.in-Some.is
    (c.as_slice.ensures.value ∙ c.in-Ok.ensures) c.hand_text.ensures
