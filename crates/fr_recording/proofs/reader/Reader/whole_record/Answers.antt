use Rattle.std.proofs.Common.{◌≡◌, ◌==◌, true, length, rules}
use Rattle.fr_recording.proofs.ReadLemmas.{record_here}
use Rattle.fr_recording.proofs.reader.Reader.whole_record.Goals as goal

pub returns-then-is_empty-clause-steps : goal.returns-then-is_empty-clause-steps
returns-then-is_empty-clause-steps c =
    let empty : (length c.self.inside.held.items == 0) ≡ true = search rules in
    λ some. record_here c.args.self.now c.self.inside.course c.take_record.new.self c.self.inside.held.items
    c.args.bytes.now c.take_record.result c.self.view_is empty (c.take_record.ensures.record some)
