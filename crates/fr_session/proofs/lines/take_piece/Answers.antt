use Rattle.std.proofs.Common.{subst}
use Rattle.std.specs.Io.BufRead.{FillKeeps}
use Rattle.fr_session.proofs.LineLemmas.{took_last, took_part}
use Rattle.fr_session.proofs.lines.take_piece.Goals as goal

pub returns-in-Some-clause-taken : goal.returns-in-Some-clause-taken
returns-in-Some-clause-taken g c =
    let rested = c.fill_buf.follows.lender-at-none in
    let filled = subst (FillKeeps (g.R.Read.remaining c.args.reader.now) (g.R.Read.remaining rested)
    (g.R.BufRead.consumable_len rested)) c.in_ok-shown.was c.fill_buf.follows.holds-at-none in
    took_last _ _ _ _ c.in_ok-shown.shown.now c.args.line.now.items c.keep.new.line.items c.in_ok-shown.ensures.front
    c.in_ok-shown.ensures.end filled.0 filled.1
    c.in-Some.at c.in-Some.ensures c.consume.ensures.bytes c.keep.ensures

pub returns-in-None-clause-taken : goal.returns-in-None-clause-taken
returns-in-None-clause-taken g c =
    let rested = c.fill_buf.follows.lender-at-none in
    let filled = subst (FillKeeps (g.R.Read.remaining c.args.reader.now) (g.R.Read.remaining rested)
    (g.R.BufRead.consumable_len rested)) c.in_ok-shown.was c.fill_buf.follows.holds-at-none in
    took_part _ _ _ _ c.in_ok-shown.shown.now c.args.line.now.items c.keep-in-None.new.line.items
    c.in_ok-shown.ensures.front c.in_ok-shown.ensures.end filled.0 filled.1
    c.in-None.ensures c.consume-in-None.ensures.bytes c.keep-in-None.ensures
