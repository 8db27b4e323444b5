use Rattle.std.proofs.Common.{◌≡◌, ◌∙◌, List, ℕ, map, subst}
use Rattle.std.specs.Prelude.{option_and_then, option_map}
use Rattle.fr_endless.specs.Taps.{AddsAt, IsLine}
use Rattle.fr_endless.proofs.taps.hand_line.Goals as goal

pub returns-in-Some : goal.returns-in-Some
returns-in-Some g c = λ text line.
    let is : c.in-Some.text.items ≡ text =
    subst (λ o. IsLine (option_map (λ l. l.items) o) text) c.in-Some.is line in
    subst (λ (l : List ℕ). AddsAt c.hand_trace.result
    (map (option_and_then g.F.Write.contents) c.args.traces.now.items)
    (map (option_and_then g.F.Write.contents) c.hand_trace.new.traces.items) c.args.place l)
    (c.as_slice.ensures.value ∙ is) c.hand_trace.ensures
