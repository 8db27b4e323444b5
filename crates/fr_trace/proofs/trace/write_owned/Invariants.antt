use Rattle.std.proofs.Common.{take}
use Rattle.std.specs.Io.KnownBytes.{Appends}
use Rattle.std.specs.List.{flat_map}
use Rattle.fr_lines.specs.declared.versions.Version.TheVariants.{Three}
use Rattle.fr_trace.specs.TraceText.{own_line}
use Rattle.fr_trace.proofs.trace.write_owned.Given as goal

abbrev pub invariant-loop-own : goal.invariant-loop-own
invariant-loop-own g l = Appends (g.W.Write.contents l.fn.writer) (g.W.Write.contents l.writer)
    (flat_map (own_line Three) (take l.own-index l.owned))
