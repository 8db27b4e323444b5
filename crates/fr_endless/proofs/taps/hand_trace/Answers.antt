use Rattle.std.specs.Prelude.{option_and_then}
use Rattle.std.proofs.Common.{rules, ◌≡◌, None, arith, length}
use Rattle.fr_endless.proofs.TapLemmas.{handed_at, handed_past}
use Rattle.fr_endless.proofs.taps.hand_trace.Goals as goal

pub returns-then-place-len : goal.returns-then-place-len
returns-then-place-len g c =
    let many : c.len.result ≡ length c.args.traces.now.items = search rules in
    handed_at (option_and_then g.F.Write.contents) c.args.traces.now.items c.args.place c.index_mut.result.now
    c.hand_file.new.file c.hand_file.result c.args.text.now (omega (arith, c.if-place-len.true, many))
    c.index_mut.ensures.value c.hand_file.ensures

pub returns-else-place-len : goal.returns-else-place-len
returns-else-place-len g c =
    let many : c.len.result ≡ length c.args.traces.now.items = search rules in
    handed_past (option_and_then g.F.Write.contents) c.args.traces.now.items c.args.place None c.args.text.now
    (omega (arith, c.if-place-len.false, many))
