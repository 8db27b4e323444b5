use Rattle.std.proofs.Common.{take, drop}
use Rattle.fr_why.specs.Finding.{between}
use Rattle.fr_why.proofs.ExplainLemmas.{refused_is}
use Rattle.fr_why.proofs.ReasonLemmas.{reason_named}
use Rattle.fr_why.proofs.explain.fault_words.Goals as goal

pub returns-in-Ok-write_refused-clause-told : goal.returns-in-Ok-write_refused-clause-told
returns-in-Ok-write_refused-clause-told c =
    refused_is c.args.fault.now.error (take c.args.fault.now.start c.args.text.now)
    (between c.args.fault.now.start c.args.fault.now.end c.args.text.now) c.write_refused.new.writer.items
    c.new-words.result.items c.args.fault.now.before c.args.fault.now.head c.in-Ok.interface
    c.reason_of-reason.result c.windows_of-windows.result c.requires.told
    c.new-words.ensures.items c.in-Ok-write_refused.ensures c.requires.counted c.in-Ok.ensures.left
    c.reason_of-reason.ensures c.windows_of-windows.ensures

pub returns-in-Ok-write_refused-clause-named : goal.returns-in-Ok-write_refused-clause-named
returns-in-Ok-write_refused-clause-named c =
    let text = c.args.text.now in
    let f = c.args.fault.now in
    reason_named f.error text (take f.start text) (between f.start f.end text)
    (drop f.end text) c.requires.of_text c.requires.at_fault
