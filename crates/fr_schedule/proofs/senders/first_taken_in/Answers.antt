use Rattle.fr_schedule.proofs.CycleRowLemmas.{free_row_gives_none}
use Rattle.fr_schedule.proofs.senders.first_taken_in.Goals as goal

pub returns-then-is_row_free : goal.returns-then-is_row_free
returns-then-is_row_free c = free_row_gives_none c.args.nodes.now c.args.start c.args.cycles
    (c.is_row_free.ensures c.if-is_row_free.true)
