use Rattle.fr_bus.proofs.StationLemmas.{clear_stations}
use Rattle.fr_bus.proofs.station.Stations.clear.Goals as goal

pub returns : goal.returns
returns c = clear_stations c.self.inside c.self.invariant c.args.self.now c.self.view_is c.clear_sides.new.sides.items
    c.clear_sides.ensures
