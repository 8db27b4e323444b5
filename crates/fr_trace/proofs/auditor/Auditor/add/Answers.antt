use Rattle.std.proofs.Common.{◌≡◌, ◌<◌, ◌≤◌, ◌+◌, [], length, rules, sym, ◌∙◌}
use Rattle.fr_trace.proofs.CutLemmas.{failed_more, nothing_more, finished_more, longer_more, held_more}
use Rattle.fr_trace.proofs.auditor.Auditor.add.Goals as goal

pub returns-then-is_some : goal.returns-then-is_some
returns-then-is_some c =
    elim c.then-is_some.branch [
      | goal.then-is_some-via-then-is_some w ↦ failed_more c.self.inside.fault c.self.inside.phase
          c.self.inside.line.items c.args.self.now c.args.bytes.now c.self.view_is
          (sym c.is_some.ensures ∙ w.if-is_some.true)
      | goal.then-is_some-via-else-is_some+then-is_empty w ↦ nothing_more c.args.self.now c.args.bytes.now
          (sym w.is_empty.ensures ∙ w.if-is_empty.true)
    ]

pub returns-in-Finished : goal.returns-in-Finished
returns-in-Finished c =
    let some : c.args.bytes.now ≡ [] → ⊥ = search rules in
    finished_more c.self.inside.fault c.self.inside.phase c.self.inside.line.items c.args.self.now c.args.bytes.now _ _
    _ c.self.view_is (sym c.is_some.ensures ∙ c.if-is_some.false) c.in-Finished.is c.line_number.ensures some

pub returns-then-bytes-as_slice : goal.returns-then-bytes-as_slice
returns-then-bytes-as_slice c =
    let fits : length c.self.inside.line.items ≤ 1200 = search rules in
    let long : 1200 < length c.self.inside.line.items + length c.args.bytes.now = search rules in
    longer_more c.self.inside.fault c.self.inside.phase c.self.inside.line.items c.args.self.now c.args.bytes.now _
    c.self.view_is (sym c.is_some.ensures ∙ c.if-is_some.false) c.in_default.not-Finished c.requires fits long
    c.too_long.ensures

pub returns-else-bytes-as_slice : goal.returns-else-bytes-as_slice
returns-else-bytes-as_slice c =
    let fits : length c.self.inside.line.items + length c.args.bytes.now ≤ 1200 = search rules in
    held_more c.self.inside.fault c.self.inside.phase c.self.inside.line.items c.args.self.now c.args.bytes.now _
    c.self.view_is (sym c.is_some.ensures ∙ c.if-is_some.false) c.in_default.not-Finished c.requires fits
    (search rules)
