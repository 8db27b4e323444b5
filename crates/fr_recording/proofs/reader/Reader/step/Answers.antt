use Rattle.std.proofs.Common.{◌<◌, ◌≤◌, max, length, rules, sym, ◌∙◌}
use Rattle.fr_recording.specs.Stream.{needed}
use Rattle.fr_recording.proofs.ReadLemmas.{passed_part, refused_piece}
use Rattle.fr_recording.proofs.reader.Reader.step.Goals as goal

pub returns-in-Skipped-clause-steps : goal.returns-in-Skipped-clause-steps
returns-in-Skipped-clause-steps c =
    let few : length c.self.inside.held.items < max 1 (needed c.self.inside.course.phase) = search rules in
    let some : 0 < c.min-count.result = search rules in
    let fits : c.min-count.result ≤ length c.args.bytes.now = search rules in
    let left : c.min-count.result ≤ max c.in-Skipped.block.left 1 = search rules in
    passed_part c.args.self.now c.self.inside.course c.read_on.new.self c.pass.new.self c.self.inside.held.items
    c.args.bytes.now c.in-Skipped.block c.in-Skipped.head c.min-count.result c.self.view_is
    (sym c.phase-phase.ensures ∙ c.in-Skipped.is) few
    some fits left
    c.read_on.ensures c.pass.ensures

pub returns-in-Refused-clause-steps : goal.returns-in-Refused-clause-steps
returns-in-Refused-clause-steps c =
    let few : length c.self.inside.held.items < max 1 (needed c.self.inside.course.phase) = search rules in
    refused_piece c.args.self.now c.self.inside.course c.read_on-in-Refused.new.self c.self.inside.held.items
    c.args.bytes.now c.in-Refused.field-0 c.self.view_is
    (sym c.phase-phase.ensures ∙ c.in-Refused.is) few c.requires c.read_on-in-Refused.ensures
