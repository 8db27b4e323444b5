use Rattle.std.proofs.Common.{◌++◌, subst, List, Option}
use Rattle.std.specs.List.{flat_map}
use Rattle.std.specs.Prelude.{OnOk}
use Rattle.std.specs.Io.KnownBytes.{Appends}
use Rattle.std.proofs.KnownBytes.{Appends-trans}
use Rattle.fr_slots.specs.declared.plan.Own.{Own}
use Rattle.fr_slots.specs.declared.plan.Buffer.{Buffer}
use Rattle.fr_slots.specs.declared.plan.Queue.{Queue}
use Rattle.fr_slots.specs.Plans.{with_limits}
use Rattle.fr_lines.specs.declared.versions.Version.TheVariants.{Three}
use Rattle.fr_trace.specs.TraceText.{own_line, buffer_line, queue_lines}
use Rattle.fr_trace.proofs.WritingLemmas.{appends-last}
use Rattle.fr_auditing.specs.LongText.{long_numbers_text}
use Rattle.fr_auditing.proofs.head.write_plan.Goals as goal

pub returns : goal.returns
returns g c =
    let params = c.args.params.now in
    let plan = with_limits c.args.plan.now c.args.host_entries c.args.slot_entries in
    let start = g.W.Write.contents c.args.writer.now in
    let first = g.W.Write.contents c.write_numbers.new.writer in
    let second = g.W.Write.contents c.write_owned.new.writer in
    let third = g.W.Write.contents c.write_buffers.new.writer in
    let end = g.W.Write.contents c.write_queues.new.writer in
    let numbers = long_numbers_text params plan in
    let owned : Appends first second (flat_map (own_line Three) plan.owned) =
    subst (λ (o : List Own). Appends first second (flat_map (own_line Three) o)) c.owned.ensures.value
    c.in_ok-write_owned.ensures in
    let buffers : Appends second third (flat_map buffer_line plan.buffers) =
    subst (λ (b : List Buffer). Appends second third (flat_map buffer_line b)) c.buffers.ensures.value
    c.in_ok-write_buffers.ensures in
    let queue : OnOk c.write_queues.result (Appends third end (queue_lines plan.queue)) =
    subst (λ (q : Option Queue). OnOk c.write_queues.result (Appends third end (queue_lines q))) c.queue.ensures.value
    c.write_queues.ensures in
    appends-last c.write_queues.result start third end (numbers ++ flat_map (own_line Three) plan.owned ++ flat_map
    buffer_line plan.buffers) (queue_lines plan.queue)
    (Appends-trans start second third (numbers ++ flat_map (own_line Three) plan.owned)
    (flat_map buffer_line plan.buffers)
    (Appends-trans start first second numbers (flat_map (own_line Three) plan.owned) c.in_ok-write_numbers.ensures
    owned) buffers) queue
