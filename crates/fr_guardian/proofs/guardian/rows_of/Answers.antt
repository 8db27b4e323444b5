use Rattle.std.proofs.Common.{◌+◌, List, sym, subst}
use Rattle.fr_schedule.specs.Descriptions.{is_guarded}
use Rattle.fr_guardian.specs.GuardianFields.{Row}
use Rattle.fr_guardian.specs.Guarding.{IsOpenTo}
use Rattle.fr_guardian.specs.Intervals.{AreMaximalIntervals}
use Rattle.fr_guardian.proofs.PostLemmas.{AreFirstRows, rows_more}
use Rattle.fr_guardian.proofs.guardian.rows_of.Goals as goal

pub loop-number-preserved : goal.loop-number-preserved
loop-number-preserved c =
    let d = c.args.cluster.now in
    let guarded = is_guarded d.guard c.args.channel in
    let row = c.in_ok-intervals_in.field-0 in
    let here = subst (λ cycle. AreMaximalIntervals (IsOpenTo d.params guarded c.args.owned.now cycle c.args.channel)
    row.items) c.from_bits-cycle.ensures c.in_ok-intervals_in.ensures in
    let more = rows_more d.params guarded c.args.owned.now c.args.channel c.loop-number.number c.loop-number.rows.items
    row c.loop-number.invariant here in
    subst (λ (rows : List Row). AreFirstRows d.params guarded c.args.owned.now c.args.channel
    (c.loop-number.number + 1) rows) (sym {A = List Row} c.in_ok-push.ensures.items) more
