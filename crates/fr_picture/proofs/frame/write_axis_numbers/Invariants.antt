use Rattle.std.specs.Io.KnownBytes.{Appends}
use Rattle.std.specs.List.{flat_map, range_with_len}
use Rattle.fr_picture.specs.Frames.{axis_number}
use Rattle.fr_picture.proofs.frame.write_axis_numbers.Given as goal

abbrev pub invariant-loop-earlier : goal.invariant-loop-earlier
invariant-loop-earlier g l =
    Appends (g.W.Write.contents l.fn.writer) (g.W.Write.contents l.writer)
    (flat_map (axis_number l.params l.step) (range_with_len 1 l.earlier))
