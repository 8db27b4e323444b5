use Rattle.std.proofs.Common.{sym, subst, ap, ◌∙◌}
use Rattle.fr_bus.proofs.StandingLemmas.{live_seal}
use Rattle.fr_bus.specs.LiveFields.{standing_in}
use Rattle.fr_bus.specs.Record.{heard}
use Rattle.fr_bus.specs.Standing.{LiveStanding, IsLiveHistory, bare}
use Rattle.fr_bus.specs.States.{seal_refusal, sealed_now}
use Rattle.fr_slots.specs.declared.channel.Channel.TheVariants.{A, B}
use Rattle.fr_slots.specs.Parameters.{Parameters}
use Rattle.fr_bus.proofs.live.LiveBus.seal.Goals as goal

pub invariant_of-self : goal.invariant_of-self
invariant_of-self c =
    let had = c.self.invariant.had in
    let sealed = c.in_ok-sealed.sealed in
    record {
      had = (
        sealed_now had.0,
        live_seal (standing_in c.self.inside) c.close.new.self had.0 sealed.window sealed
            had.1 (c.close.ensures.history had.0 had.1.of_bus) c.in_ok-sealed.ensures.1 c.in_ok-sealed.ensures.2,
      );
      on_a = c.hear.ensures ∙ ap (λ (p : Parameters). heard p sealed A) c.params.ensures;
      on_b = c.hear-2.ensures ∙ ap (λ (p : Parameters). heard p sealed B) c.params-2.ensures;
    }

pub returns : goal.returns
returns c = (
  ap (λ (h : LiveStanding). seal_refusal (bare h.bus)) (sym c.self.view_is) ∙ c.in_ok-sealed.ensures.0,
  λ b is. (
      let before : IsLiveHistory (standing_in c.self.inside) b =
      subst (λ (h : LiveStanding). IsLiveHistory h b) (sym c.self.view_is) is in
      live_seal (standing_in c.self.inside) c.close.new.self b c.in_ok-sealed.sealed.window c.in_ok-sealed.sealed before
      (c.close.ensures.history b before.of_bus) c.in_ok-sealed.ensures.1 c.in_ok-sealed.ensures.2
      ),
)
