use Rattle.std.proofs.Common.{◌++◌, subst, List}
use Rattle.std.specs.Io.KnownBytes.{Appends}
use Rattle.std.specs.List.{flat_map}
use Rattle.std.proofs.KnownBytes.{Appends-trans}
use Rattle.fr_journal.specs.Forms.{Entry}
use Rattle.fr_slots.specs.Parameters.{Parameters}
use Rattle.fr_slots.specs.Plans.{Plan}
use Rattle.fr_lines.specs.declared.versions.Version.TheVariants.{Three}
use Rattle.fr_lines.specs.Spelling.{line_feed, begin_line, end_line}
use Rattle.fr_trace.specs.TraceText.{entry_line, plan_text, begin_text, body_text}
use Rattle.fr_trace.proofs.WritingLemmas.{appends-last}
use Rattle.fr_trace.proofs.trace.write_text.Goals as goal

pub returns-clause-written : goal.returns-clause-written
returns-clause-written g c =
    let s = c.args.interface.now in
    let start = g.W.Write.contents c.args.writer.now in
    let first = g.W.Write.contents c.write_plan.new.writer in
    let second = g.W.Write.contents c.writeln.new.self in
    let third = g.W.Write.contents c.write_entries.new.writer in
    let plan : Appends start first (plan_text Three s.params s.plan) =
    subst (λ (p : Plan). Appends start first (plan_text Three s.params p)) c.plan.ensures.value
    (subst (λ (q : Parameters). Appends start first (plan_text Three q c.plan.result.now)) c.params.ensures.value
    c.in_ok-write_plan.ensures) in
    let entries : Appends second third (flat_map entry_line s.entries) =
    subst (λ (es : List Entry). Appends second third (flat_map entry_line es)) c.journal.ensures.entries
    c.in_ok-write_entries.ensures in
    let begun = Appends-trans start first second (plan_text Three s.params s.plan)
    (begin_line ++ line_feed) plan c.in_ok-writeln.ensures.bytes in
    appends-last c.writeln-2.result start third (g.W.Write.contents c.writeln-2.new.self) (body_text Three s)
    (end_line ++ line_feed)
    (Appends-trans start second third (begin_text Three s.params s.plan) (flat_map entry_line s.entries) begun entries)
    c.writeln-2.ensures.bytes
