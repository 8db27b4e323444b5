use Rattle.std.proofs.Common.{rules, ◌≡◌, ◌≤◌, ◌++◌, length, take, sym, ap, subst, ◌∙◌, arith, length-append}
use Rattle.std.proofs.KnownBytes.{Consumes-trans, Keeps-refl}
use Rattle.std.specs.Io.KnownBytes.{Consumes}
use Rattle.fr_bench.proofs.VersionLemmas.{open_short}
use Rattle.fr_bench.proofs.HeadLemmas.{head_failed, head_shut}
use Rattle.fr_bench.proofs.reading.head_of.Goals as goal

pub returns-in-Err-2 : goal.returns-in-Err-2
returns-in-Err-2 g c =
    head_failed (g.R.Read.remaining c.args.reader.now) (g.R.Read.remaining c.pieces.reader)
    (g.R.Read.remaining c.read.new.self) c.pieces.head.items c.pieces.invariant.0 c.pieces.invariant.1 (search rules)

pub returns-then-not-open : goal.returns-then-not-open
returns-then-not-open g c =
    let few = open_short c.pieces.head.items c.pieces.invariant.1 in
    let room : length c.read.new.buf ≡ 4086 = c.read.auto.buf ∙ c.pieces.invariant.2 in
    let short : length (take c.in-Ok.count c.read.new.buf) ≤ 4086 =
    omega (arith, room, c.in-Ok.ensures.bound.0, c.in-Ok.ensures.bound.1) in
    let same : c.try_extend_from_slice.new.self.items ≡ c.pieces.head.items ++ take c.in-Ok.count c.read.new.buf =
    search (rules, few, short) in
    let come =
    Consumes-trans (g.R.Read.remaining c.args.reader.now) (g.R.Read.remaining c.pieces.reader)
    (g.R.Read.remaining c.read.new.self) c.pieces.head.items (take c.in-Ok.count c.read.new.buf) c.pieces.invariant.0
    c.in-Ok.ensures.bytes.0 in
    head_shut (g.R.Read.remaining c.args.reader.now) (g.R.Read.remaining c.read.new.self)
    c.try_extend_from_slice.new.self.items
    (subst (Consumes (g.R.Read.remaining c.args.reader.now) (g.R.Read.remaining c.read.new.self)) (sym same) come)
    (search rules)
    (omega (
      arith,
      few,
      short,
      ap length same,
      length-append c.pieces.head.items (take c.in-Ok.count c.read.new.buf),
    ))

pub returns : goal.returns
returns g c =
    head_failed (g.R.Read.remaining c.args.reader.now) (g.R.Read.remaining c.pieces.reader)
    (g.R.Read.remaining c.pieces.reader) c.pieces.head.items c.pieces.invariant.0 c.pieces.invariant.1
    (Keeps-refl (g.R.Read.remaining c.pieces.reader))
