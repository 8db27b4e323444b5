use Rattle.std.proofs.Common.{rules}
use Rattle.fr_core.specs.declared.error.StepError.TheVariants.{UnknownNode}
use Rattle.fr_endless.proofs.ReplyLemmas.{replied}
use Rattle.fr_endless.proofs.ReportLemmas.{status_same, no_status}
use Rattle.fr_endless.specs.Answers.{IsStatusOf, kept_status}
use Rattle.fr_lines.specs.Spelling.{line_text}
use Rattle.fr_session.specs.Replies.{refusal_words}
use Rattle.fr_endless.proofs.queries.write_node_status.Goals as goal

pub returns-then-place-interfaces : goal.returns-then-place-interfaces
returns-then-place-interfaces g c =
    let l = c.args.world.now in
    let n = c.args.node in
    let channel = c.args.channel in
    replied g.W.Write.contents c.args.writer.now c.write_kept_status.new.writer c.write_kept_status.result
    (kept_status channel c.index-interfaces-place.result) (IsStatusOf l n channel)
    (status_same l n channel c.index-interfaces-place.result (search rules) (search rules)) c.write_kept_status.ensures

pub returns-else-place-interfaces : goal.returns-else-place-interfaces
returns-else-place-interfaces g c =
    let l = c.args.world.now in
    let n = c.args.node in
    let channel = c.args.channel in
    replied g.W.Write.contents c.args.writer.now c.write_unknown.new.writer c.write_unknown.result
    (line_text (refusal_words UnknownNode)) (IsStatusOf l n channel) (no_status l n channel (search rules))
    c.write_unknown.ensures
