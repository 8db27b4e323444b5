use Rattle.std.specs.Prelude.{option_and_then}
use Rattle.std.proofs.Common.{rules, ◌≡◌, [], None, arith, length}
use Rattle.fr_endless.proofs.TapLemmas.{handed_at, handed_past}
use Rattle.fr_endless.proofs.taps.flush_trace.Goals as goal

pub returns-then-place-len : goal.returns-then-place-len
returns-then-place-len g c =
    let many : c.len.result ≡ length c.args.traces.now.items = search rules in
    handed_at (option_and_then g.F.Write.contents) c.args.traces.now.items c.args.place c.index_mut.result.now
    c.flush_file.new.file c.flush_file.result [] (omega (arith, c.if-place-len.true, many))
    c.index_mut.ensures.value c.flush_file.ensures

pub returns-else-place-len : goal.returns-else-place-len
returns-else-place-len g c =
    let many : c.len.result ≡ length c.args.traces.now.items = search rules in
    handed_past (option_and_then g.F.Write.contents) c.args.traces.now.items c.args.place None []
    (omega (arith, c.if-place-len.false, many))
