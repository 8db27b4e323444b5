use Rattle.fr_timing.proofs.LayoutLemmas.{started_found, started_only, started_alone}
use Rattle.fr_timing.proofs.cycle.start_of.Goals as goal

pub returns : goal.returns
returns c =
    let params = c.args.params.now in
    let answer = c.start_at.result in
    let found = started_found params c.args.place answer c.start_at.ensures.value in
    record {
      found = found;
      only = started_only params c.args.place answer c.start_at.ensures.value;
      inverse = started_alone params c.args.place answer found;
      lawful = c.start_at.ensures.lawful;
    }
