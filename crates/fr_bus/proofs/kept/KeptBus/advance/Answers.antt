use Rattle.std.proofs.Common.{length, refl, sym, subst, ap, ◌∙◌}
use Rattle.std.specs.List.{count_by}
use Rattle.fr_bus.proofs.CountLemmas.{count_none}
use Rattle.fr_bus.proofs.StandingLemmas.{history_advance}
use Rattle.fr_bus.specs.KeptFields.{standing_in}
use Rattle.fr_bus.specs.Standing.{BusStanding, IsBusHistory}
use Rattle.fr_bus.specs.States.{advanced, idle_station, is_put, is_taken}
use Rattle.fr_bus.proofs.kept.KeptBus.advance.Goals as goal

pub invariant_of-self : goal.invariant_of-self
invariant_of-self c =
    record {
      bus = advanced c.self.invariant.bus;
      run = history_advance (standing_in c.self.inside) c.self.invariant.bus c.self.invariant.run
          c.phase_at-self-inside.result c.next-opened.result c.clear.new.self c.next-opened.ensures
          c.phase_at-self-inside.ensures c.clear.ensures;
      put_count_is = sym (ap (count_by is_put) c.clear.ensures ∙ count_none is_put
          (length c.self.inside.stations) idle_station refl);
      taken_count_is = sym (ap (count_by is_taken) c.clear.ensures ∙ count_none is_taken
          (length c.self.inside.stations) idle_station refl);
    }

pub returns-clause-history : goal.returns-clause-history
returns-clause-history c b history =
    history_advance (standing_in c.self.inside) b
    (subst (λ (x : BusStanding). IsBusHistory x b) (sym c.self.view_is) history)
    c.phase_at-self-inside.result c.next-opened.result c.clear.new.self c.next-opened.ensures
    c.phase_at-self-inside.ensures c.clear.ensures
