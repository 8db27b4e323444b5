use Rattle.std.proofs.Common.{◌≡◌, ◌≤◌, length, take, refl, subst, rules, arith, length-take}
use Rattle.std.proofs.BufReadLemmas.{Consumes_shown}
use Rattle.std.specs.Io.BufRead.{FillKeeps}
use Rattle.fr_bench.proofs.ReadLemmas.{shown_none}
use Rattle.fr_bench.proofs.reading.feed_next.Goals as goal

pub returns-then-is_empty-clause-fed : goal.returns-then-is_empty-clause-fed
returns-then-is_empty-clause-fed g c =
    let rested = c.fill_buf.follows.lender-at-none in
    let filled = subst (FillKeeps (g.R.Read.remaining c.args.reader.now) (g.R.Read.remaining rested)
    (g.R.BufRead.consumable_len rested)) c.in_ok-shown.was c.fill_buf.follows.holds-at-none in
    let none : length c.in_ok-shown.shown.now ≡ 0 = search rules in (
      shown_none (g.R.Read.remaining c.args.reader.now) (g.R.Read.remaining rested) c.in_ok-shown.shown.now none
          c.in_ok-shown.ensures.end filled.0,
      refl,
    )

pub returns-clause-fed : goal.returns-clause-fed
returns-clause-fed g c =
    let rested = c.fill_buf.follows.lender-at-none in
    let filled = subst (FillKeeps (g.R.Read.remaining c.args.reader.now) (g.R.Read.remaining rested)
    (g.R.BufRead.consumable_len rested)) c.in_ok-shown.was c.fill_buf.follows.holds-at-none in
    let shown = c.in_ok-shown.shown.now in
    let count = c.min-count.result in
    let within : count ≤ length shown = omega (arith, c.min-count.ensures) in
    let moved = Consumes_shown (g.R.Read.remaining c.args.reader.now) (g.R.Read.remaining rested)
    (g.R.Read.remaining c.consume.new.self) (g.R.BufRead.consumable_len rested) shown count within
    c.in_ok-shown.ensures.front c.in_ok-shown.ensures.end filled.0 filled.1 c.consume.ensures.bytes in (
      take count shown,
      moved.0,
      omega (arith, length-take count shown, c.min-count.ensures),
      c.feed-fed.ensures.state,
      c.feed-fed.ensures.answer,
    )
