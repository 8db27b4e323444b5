use Rattle.std.proofs.Common.{refl, sym, subst}
use Rattle.fr_bus.proofs.StandingLemmas.{has_either, live_either, kept_record}
use Rattle.fr_bus.proofs.LiveLemmas.{heard_stays}
use Rattle.fr_bus.specs.LiveFields.{standing_in}
use Rattle.fr_bus.specs.Standing.{LiveStanding, IsLiveHistory}
use Rattle.fr_bus.specs.States.{take_done}
use Rattle.fr_slots.specs.declared.channel.Channel.TheVariants.{A, B}
use Rattle.fr_bus.proofs.live.LiveBus.take.Goals as goal

pub invariant_of-self : goal.invariant_of-self
invariant_of-self c =
    let old = standing_in c.self.inside in
    let new : LiveStanding = record { bus = c.take.new.self; last = c.self.inside.last } in
    record {
      had = has_either old new c.self.invariant.had (λ b. take_done b c.args.node) c.take.result
          (λ b is. live_either old new b (take_done b c.args.node) is (kept_record b _ refl refl refl) refl
          c.take.result
          (c.take.ensures.history b is.of_bus)) refl c.take.ensures.refused;
      on_a = heard_stays c.take.new.self old.bus old.last A c.self.inside.heard_a c.take.ensures.cluster
          c.self.invariant.on_a;
      on_b = heard_stays c.take.new.self old.bus old.last B c.self.inside.heard_b c.take.ensures.cluster
          c.self.invariant.on_b;
    }

pub returns-clause-history : goal.returns-clause-history
returns-clause-history c b is =
    let old = standing_in c.self.inside in
    let new : LiveStanding = record { bus = c.take.new.self; last = c.self.inside.last } in
    let before : IsLiveHistory old b = subst (λ (h : LiveStanding). IsLiveHistory h b) (sym c.self.view_is) is in
    live_either old new b (take_done b c.args.node) before (kept_record b _ refl refl refl) refl
    c.take.result
    (c.take.ensures.history b before.of_bus)
