use Rattle.std.proofs.Common.{rules, ◌≡◌, Some, None, Ok, Err, sym, subst}
use Rattle.std.proofs.KnownBytes.{Keeps-refl}
use Rattle.std.specs.Io.KnownBytes.{Keeps}
use Rattle.fr_auditing.specs.Tracking.{Auditing}
use Rattle.fr_bench.proofs.ReadLemmas.{read_end, read_failed, read_fault, read_kept, read_more}
use Rattle.fr_bench.specs.Reading.{FeedsNext, SoFar}
use Rattle.fr_bench.proofs.reading.rest_of.Goals.{in-Ok-Some-Ok, in-Err+then-eq}
use Rattle.fr_bench.proofs.reading.rest_of.Goals as goal

pub returns-in-Ok-Some-Err : goal.returns-in-Ok-Some-Err
returns-in-Ok-Some-Err g c later text so_far =
    let fed : FeedsNext (Some (Err c.in-Ok-Some-Err.fault)) (g.R.Read.remaining c.pieces.reader)
    (g.R.Read.remaining c.feed_next.new.reader) c.pieces.auditor c.feed_next.new.auditor = search rules in
    let (bytes, consumed, short, state, answer) = fed in
    rw c.in-Ok-Some-Err.fault-is (read_fault later text (g.R.Read.remaining c.pieces.reader)
    (g.R.Read.remaining c.feed_next.new.reader) c.pieces.auditor c.feed_next.new.auditor bytes c.in-Ok-Some-Err.fault
    (c.pieces.invariant later text so_far) consumed short state (sym answer))

pub returns-in-Ok-None : goal.returns-in-Ok-None
returns-in-Ok-None g c later text so_far =
    let fed : FeedsNext None (g.R.Read.remaining c.pieces.reader) (g.R.Read.remaining c.feed_next.new.reader)
    c.pieces.auditor c.feed_next.new.auditor = search rules in
    let before = subst (λ (a : Auditing). SoFar later text (g.R.Read.remaining c.pieces.reader) a) (sym fed.1)
    (c.pieces.invariant later text so_far) in
    read_end text (g.R.Read.remaining c.pieces.reader) (g.R.Read.remaining c.feed_next.new.reader)
    c.feed_next.new.auditor fed.0 later c.finish.result before c.finish.ensures.exact c.finish.ensures.earlier
    c.finish.ensures.found

pub returns-in-Err-2 : goal.returns-in-Err-2
returns-in-Err-2 g c later text so_far =
    let kept : Keeps (g.R.Read.remaining c.pieces.reader) (g.R.Read.remaining c.feed_next.new.reader) =
    search rules in
    read_failed later text (g.R.Read.remaining c.pieces.reader) (g.R.Read.remaining c.feed_next.new.reader)
    c.pieces.auditor (c.pieces.invariant later text so_far) kept

pub pieces-preserved : goal.pieces-preserved
pieces-preserved g c =
    elim c.match-feed_next.branch [
      | in-Ok-Some-Ok w ↦ λ later text so_far.
          let fed : FeedsNext (Some (Ok tt)) (g.R.Read.remaining c.pieces.reader)
          (g.R.Read.remaining c.feed_next.new.reader) c.pieces.auditor c.feed_next.new.auditor = search rules in
          let (bytes, consumed, short, state, answer) = fed in
          read_more later text (g.R.Read.remaining c.pieces.reader) (g.R.Read.remaining c.feed_next.new.reader)
          c.pieces.auditor c.feed_next.new.auditor bytes (c.pieces.invariant later text so_far) consumed state
          (sym answer)
      | in-Err+then-eq w ↦ λ later text so_far.
          let kept : Keeps (g.R.Read.remaining c.pieces.reader) (g.R.Read.remaining c.feed_next.new.reader) =
          search rules in
          let same : c.feed_next.new.auditor ≡ c.pieces.auditor = search rules in
          subst (λ (a : Auditing). SoFar later text (g.R.Read.remaining c.feed_next.new.reader) a) (sym same)
          (read_kept later text (g.R.Read.remaining c.pieces.reader) (g.R.Read.remaining c.feed_next.new.reader)
          c.pieces.auditor (c.pieces.invariant later text so_far) kept)
    ]

pub returns : goal.returns
returns g c later text so_far =
    read_failed later text (g.R.Read.remaining c.pieces.reader) (g.R.Read.remaining c.pieces.reader) c.pieces.auditor
    (c.pieces.invariant later text so_far) (Keeps-refl (g.R.Read.remaining c.pieces.reader))
