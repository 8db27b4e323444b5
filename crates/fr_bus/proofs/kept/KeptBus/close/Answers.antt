use Rattle.std.proofs.Common.{sym, subst}
use Rattle.fr_bus.proofs.StandingLemmas.{next_window, history_seal}
use Rattle.fr_bus.specs.KeptFields.{standing_in}
use Rattle.fr_bus.specs.Standing.{BusStanding, IsDecided, IsBusHistory}
use Rattle.fr_bus.specs.States.{sealed_now}
use Rattle.fr_bus.proofs.kept.KeptBus.close.Goals as goal

pub pass-requires-clause-next : goal.pass-requires-clause-next
pass-requires-clause-next c =
    let h = standing_in c.self.inside in
    let is : IsDecided h c.args.window.now c.args.a c.args.b =
    subst (λ (x : BusStanding). IsDecided x c.args.window.now c.args.a c.args.b) (sym c.self.view_is)
    c.requires.decided in
    next_window h c.self.invariant.bus c.self.invariant.run c.args.window.now is.accepted is.opened

pub invariant_of-self : goal.invariant_of-self
invariant_of-self c =
    let h = standing_in c.self.inside in
    let is : IsDecided h c.args.window.now c.args.a c.args.b =
    subst (λ (x : BusStanding). IsDecided x c.args.window.now c.args.a c.args.b) (sym c.self.view_is)
    c.requires.decided in
    record {
      bus = sealed_now c.self.invariant.bus;
      run = history_seal h c.self.invariant.bus c.self.invariant.run c.args.window.now c.args.a c.args.b c.pass.new.self
          is c.pass.ensures;
      put_count_is = c.self.invariant.put_count_is;
      taken_count_is = c.self.invariant.taken_count_is;
    }

pub returns-clause-history : goal.returns-clause-history
returns-clause-history c s history =
    let h = standing_in c.self.inside in
    let is : IsDecided h c.args.window.now c.args.a c.args.b =
    subst (λ (x : BusStanding). IsDecided x c.args.window.now c.args.a c.args.b) (sym c.self.view_is)
    c.requires.decided in
    history_seal h s (subst (λ (x : BusStanding). IsBusHistory x s) (sym c.self.view_is) history) c.args.window.now
    c.args.a c.args.b c.pass.new.self is c.pass.ensures
