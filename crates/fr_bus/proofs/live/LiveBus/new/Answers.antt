use Rattle.std.proofs.Common.{◌≡◌, true, sym, ap, ◌∙◌}
use Rattle.fr_bus.proofs.StandingLemmas.{live_new}
use Rattle.fr_bus.specs.Live.{cycles_suit}
use Rattle.fr_slots.specs.Parameters.{Parameters}
use Rattle.fr_bus.proofs.live.LiveBus.new.Goals as goal

pub returns-in-Ok : goal.returns-in-Ok
returns-in-Ok c =
    let d = c.args.cluster.now in
    let suits : cycles_suit d.params c.args.cycles ≡ true =
    ap (λ (p : Parameters). cycles_suit p c.args.cycles) (sym c.params.ensures.value) ∙ sym c.cycles_suit.ensures
    ∙ c.if-not-cycles_suit.false in
    (suits, λ e lawful alike. live_new d e c.args.cycles c.in-Ok.kept c.in-Ok.ensures.new suits lawful alike)
