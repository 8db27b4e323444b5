use Rattle.std.proofs.Common.{◌≡◌, ◌∷◌, ◌∙◌, [], ℕ, Some, ap, sym, subst}
use Rattle.std.specs.List.{flat_map}
use Rattle.fr_core.specs.declared.event.Event.TheVariants.{Seal}
use Rattle.fr_playing.specs.Moving.{for_nodes, offer_events, see_events, whole_window}
use Rattle.fr_playing.specs.Striking.{strike_events, Passes}
use Rattle.fr_playing.proofs.PlayLemmas.{ends_window}
use Rattle.fr_playing.proofs.StrikingLemmas.{passes_append}
use Rattle.fr_playing.proofs.windows.play_window.Goals as goal

pub returns : goal.returns
returns c =
    let n = c.args.nodes in
    let opened : c.args.world.now.bus.opened ≡ Some c.in-Some.window =
    ap (λ b. b.opened) (sym c.bus.ensures.value) ∙ sym c.in-Some.ensures in
    let whole : Passes c.strike_all.new.world (whole_window n) c.pass_sights.new.world =
    passes_append c.strike_all.new.world (for_nodes offer_events n) c.pass_offers.new.world
    (Seal ∷ for_nodes see_events n) c.pass_sights.new.world c.in_ok-pass_offers.ensures
    (passes_append c.pass_offers.new.world (Seal ∷ []) c.pass_seal.new.world (for_nodes see_events n)
    c.pass_sights.new.world c.in_ok-pass_seal.ensures c.in_ok-pass_sights.ensures) in
    ends_window c.pass_advance.result c.args.cycle c.args.faults.now (whole_window n) c.in-Some.window c.args.world.now
    c.strike_all.new.world c.pass_sights.new.world
    c.pass_advance.new.world opened
    (subst (λ (k : ℕ). Passes c.args.world.now (flat_map (strike_events k c.in-Some.window) c.args.faults.now)
    c.strike_all.new.world) c.from.ensures c.in_ok-strike_all.ensures.passes) whole c.pass_advance.ensures
