use Rattle.std.proofs.KnownBytes.{Appends-nil}
use Rattle.fr_why.proofs.WordLemmas.{bytes_more}
use Rattle.fr_why.proofs.words.write_bytes.Goals as goal

pub loop-byte-init : goal.loop-byte-init
loop-byte-init g c = Appends-nil (g.W.Write.contents c.args.writer.now)

pub loop-byte-preserved : goal.loop-byte-preserved
loop-byte-preserved g c =
    bytes_more c.args.bytes.now c.loop-byte.byte-index (g.W.Write.contents c.args.writer.now)
    (g.W.Write.contents c.loop-byte.writer) (g.W.Write.contents c.write_byte.new.writer) c.loop-byte-test.true
    c.loop-byte.invariant
    c.in_ok-write_byte.ensures
