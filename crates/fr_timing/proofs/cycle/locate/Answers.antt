use Rattle.fr_timing.proofs.LayoutLemmas.{located_found, located_only, located_alone, located_none}
use Rattle.fr_timing.proofs.cycle.locate.Goals as goal

pub returns : goal.returns
returns c =
    let params = c.args.params.now in
    let answer = c.place_at.result in
    let divided = c.place_at.ensures.place in
    let found = located_found params c.place_at.ensures.lawful c.args.macrotick answer divided in
    record {
      found = found;
      only = located_only params c.args.macrotick answer divided;
      inverse = located_alone params c.args.macrotick answer found;
      none = located_none params c.place_at.ensures.lawful c.args.macrotick answer divided;
    }
