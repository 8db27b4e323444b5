use Rattle.std.proofs.Common.{◌++◌, refl}
use Rattle.std.specs.Prelude.{codes}
use Rattle.std.proofs.KnownBytes.{Appends-trans}
use Rattle.fr_picture.proofs.TickLemmas.{segment_moved, last_moved}
use Rattle.fr_picture.specs.Frames.{segment_text, segments_text}
use Rattle.fr_svg.proofs.NumberedLemmas.{last-written}
use Rattle.fr_timing.specs.Segments.{cycle_end, dynamic_start, idle_start, symbol_start}
use Rattle.fr_picture.proofs.frame.write_segments.Goals as goal

pub returns : goal.returns
unfolding segments_text
returns g c =
    let p = c.args.params.now in
    let s = c.segments_of-segments.result in
    let e = c.segments_of-segments.ensures in
    let w0 = g.W.Write.contents c.args.writer.now in
    let w1 = g.W.Write.contents c.write_segment.new.writer in
    let w2 = g.W.Write.contents c.write_segment-2.new.writer in
    let w3 = g.W.Write.contents c.write_segment-3.new.writer in
    let w4 = g.W.Write.contents c.write_segment-4.new.writer in
    let fixed = segment_text p (codes "static") (codes "static segment") 0 (dynamic_start p) in
    let dynamic = segment_text p (codes "dynamic") (codes "dynamic segment") (dynamic_start p) (symbol_start p) in
    let symbol = segment_text p (codes "symbol") (codes "symbol window") (symbol_start p) (idle_start p) in
    let idle = segment_text p (codes "idle") (codes "network idle time") (idle_start p) (cycle_end p) in
    last-written c.write_segment-4.result w0 w3 w4 (fixed ++ dynamic ++ symbol) idle
    (Appends-trans w0 w2 w3 (fixed ++ dynamic) symbol
    (Appends-trans w0 w1 w2 fixed dynamic
    (segment_moved p (codes "static") (codes "static segment") 0 s.dynamic 0 (dynamic_start p) w0 w1 refl e.dynamic
    c.in_ok-write_segment.ensures)
    (segment_moved p (codes "dynamic") (codes "dynamic segment") s.dynamic s.symbol (dynamic_start p) (symbol_start p)
    w1 w2 e.dynamic e.symbol c.in_ok-write_segment-2.ensures))
    (segment_moved p (codes "symbol") (codes "symbol window") s.symbol s.idle (symbol_start p) (idle_start p)
    w2 w3 e.symbol e.idle c.in_ok-write_segment-3.ensures))
    (last_moved c.write_segment-4.result p (codes "idle") (codes "network idle time") s.idle s.end (idle_start p)
    (cycle_end p) w3 w4 e.idle e.end c.write_segment-4.ensures)
