use Rattle.std.specs.Prelude.{option_and_then}
use Rattle.std.proofs.Common.{ℕ, List, None, ◌∙◌, map, subst}
use Rattle.fr_endless.proofs.TapLemmas.{handed_unknown}
use Rattle.fr_endless.specs.Taps.{AddsAt}
use Rattle.fr_endless.proofs.taps.hand_head.Goals as goal

pub returns-then-not-has_trace : goal.returns-then-not-has_trace
returns-then-not-has_trace g c =
    handed_unknown (option_and_then g.F.Write.contents) c.args.traces.now.items c.args.place None _
    (c.has_trace.ensures c.if-not-has_trace.true)

pub returns-in-Ok : goal.returns-in-Ok
returns-in-Ok g c =
    subst (λ (l : List ℕ). AddsAt c.hand_trace.result (map (option_and_then g.F.Write.contents) c.args.traces.now.items)
    (map (option_and_then g.F.Write.contents) c.hand_trace.new.traces.items) c.args.place l)
    (c.as_slice.ensures.value ∙ c.in-Ok.ensures)
    c.hand_trace.ensures
