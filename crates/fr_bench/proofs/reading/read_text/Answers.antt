use Rattle.std.proofs.Common.{sym, ◌∙◌}
use Rattle.fr_bench.proofs.ReadLemmas.{read_fault, read_more, read_none}
use Rattle.fr_bench.proofs.reading.read_text.Goals as goal

pub returns-in-Err : goal.returns-in-Err
returns-in-Err g c text come =
    read_fault c.args.later text text (g.R.Read.remaining c.args.reader.now) c.new-auditor.result c.feed-fed.new.self
    c.args.head.now c.in-Err.fault (read_none c.args.later text c.new-auditor.result c.new-auditor.ensures) come
    c.requires c.feed-fed.ensures.state (sym c.feed-fed.ensures.answer ∙ c.in-Err.is)

pub returns : goal.returns
returns g c text come =
    c.rest_of.ensures c.args.later text
    (read_more c.args.later text text (g.R.Read.remaining c.args.reader.now) c.new-auditor.result c.feed-fed.new.self
    c.args.head.now (read_none c.args.later text c.new-auditor.result c.new-auditor.ensures) come
    c.feed-fed.ensures.state (sym c.feed-fed.ensures.answer ∙ c.in_default.is))
