use Rattle.std.proofs.Common.{◌≡◌, ◌<◌, ◌≤◌, ◌+◌, [], length, rules, ap, sym, ◌∙◌}
use Rattle.fr_auditing.proofs.CutLemmas.{failed_more, finished_more, held_more, longer_more, nothing_more}
use Rattle.fr_auditing.specs.Phases.{phase_of}
use Rattle.fr_auditing.specs.Tracking.{Auditing, auditing}
use Rattle.fr_trace.specs.Stream.{take_bytes}
use Rattle.fr_auditing.proofs.auditor.KeptAuditor.add.Goals as goal

pub returns-then-is_some : goal.returns-then-is_some
returns-then-is_some c =
    let a = c.self.inside in
    let more : Auditing → Auditing = λ x. auditing x.later (take_bytes x.progress c.args.bytes.now) in
    elim c.then-is_some.branch [
      | goal.then-is_some-via-then-is_some w ↦
          sym c.self.view_is
          ∙ ap (auditing a.later) (failed_more a.fault (phase_of a.phase) a.line.items c.args.bytes.now
          (sym c.is_some.ensures ∙ w.if-is_some.true))
          ∙ ap more c.self.view_is
      | goal.then-is_some-via-else-is_some+then-is_empty w ↦
          ap (auditing c.args.self.now.later) (nothing_more c.args.self.now.progress c.args.bytes.now
          (sym w.is_empty.ensures ∙ w.if-is_empty.true))
    ]

pub returns-in-Finished : goal.returns-in-Finished
returns-in-Finished c =
    let a = c.self.inside in
    let more : Auditing → Auditing = λ x. auditing x.later (take_bytes x.progress c.args.bytes.now) in
    let some : c.args.bytes.now ≡ [] → ⊥ = search rules in
    ap (auditing a.later) (finished_more a.fault a.phase a.line.items c.args.bytes.now c.line_number.result
    c.in-Finished.field-0 c.in-Finished.field-1 (sym c.is_some.ensures ∙ c.if-is_some.false) c.in-Finished.is
    c.line_number.ensures some)
    ∙ ap more c.self.view_is

pub returns-then-bytes-as_slice : goal.returns-then-bytes-as_slice
returns-then-bytes-as_slice c =
    let a = c.self.inside in
    let more : Auditing → Auditing = λ x. auditing x.later (take_bytes x.progress c.args.bytes.now) in
    let fits : length a.line.items ≤ 1200 = search rules in
    let long : 1200 < length a.line.items + length c.args.bytes.now = search rules in
    ap (auditing a.later) (longer_more a.fault a.phase a.line.items c.args.bytes.now c.too_long.result
    (sym c.is_some.ensures ∙ c.if-is_some.false) c.in_default.not-Finished c.requires fits long c.too_long.ensures)
    ∙ ap more c.self.view_is

pub returns-else-bytes-as_slice : goal.returns-else-bytes-as_slice
returns-else-bytes-as_slice c =
    let a = c.self.inside in
    let more : Auditing → Auditing = λ x. auditing x.later (take_bytes x.progress c.args.bytes.now) in
    let fits : length a.line.items + length c.args.bytes.now ≤ 1200 = search rules in
    ap (auditing a.later) (held_more a.fault a.phase a.line.items c.args.bytes.now
    c.try_extend_from_slice.new.self.items (sym c.is_some.ensures ∙ c.if-is_some.false) c.in_default.not-Finished
    c.requires fits (search rules))
    ∙ ap more c.self.view_is
