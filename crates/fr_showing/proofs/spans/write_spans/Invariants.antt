use Rattle.std.proofs.Common.{◌≡◌, take}
use Rattle.std.specs.Io.KnownBytes.{Appends}
use Rattle.fr_bus.specs.Windows.{cycles_begun}
use Rattle.fr_showing.specs.Spans.{spans_text}
use Rattle.fr_showing.proofs.spans.write_spans.Given as goal

-- the windows so far
abbrev pub invariant-loop-sealed : goal.invariant-loop-sealed
invariant-loop-sealed g l = record {
  begun : l.begun ≡ cycles_begun (take l.sealed-index l.bus.sealed);
  written : Appends (g.W.Write.contents l.fn.writer) (g.W.Write.contents l.writer)
      (spans_text l.params (take l.sealed-index l.bus.sealed));
}
