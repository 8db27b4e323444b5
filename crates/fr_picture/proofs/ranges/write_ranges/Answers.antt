use Rattle.std.proofs.Common.{◌+◌, ℕ, inl, inr, refl, subst, sym, arith}
use Rattle.fr_picture.proofs.ShareLemmas.{AreWritten, few_senders, none_more_written, none_written, one_written}
use Rattle.fr_picture.proofs.ShareLemmas.{place_of}
use Rattle.fr_picture.specs.Ranges.{IsRangeText}
use Rattle.fr_picture.proofs.ranges.write_ranges.Goals.{in-Some+in_ok-write_sent_range, in_default}
use Rattle.fr_picture.proofs.ranges.write_ranges.Goals as goal

pub write_sent_range-requires-clause-place : goal.write_sent_range-requires-clause-place
write_sent_range-requires-clause-place g c =
    place_of c.args.cluster.now c.args.cycle c.args.channel c.loop-earlier.earlier c.in-Some.sender.slot
    c.in-Some.sender.node c.loop-earlier.before c.count_senders-count.result c.in-Some.ensures.slot
    (omega (arith, c.loop-earlier-test.true)) c.loop-earlier.invariant.before_is c.count_senders-count.ensures.value
    c.count_senders-count.ensures.few c.in-Some.ensures.sender

pub overflow_add-before : goal.overflow_add-before
overflow_add-before g c =
    omega (
      arith,
      c.loop-earlier.invariant.before_is,
      c.loop-earlier-test.true,
      few_senders c.args.cluster.now c.args.cycle c.args.channel c.loop-earlier.earlier,
    )

pub loop-earlier-init : goal.loop-earlier-init
loop-earlier-init g c =
    none_written c.args.cluster.now c.args.cycle c.args.channel
    (IsRangeText c.args.cluster.now c.args.cycle c.args.channel) (g.W.Write.contents c.args.writer.now)

pub loop-earlier-preserved : goal.loop-earlier-preserved
loop-earlier-preserved g c =
    let d = c.args.cluster.now in
    let cycle = c.args.cycle in
    let channel = c.args.channel in
    let earlier = c.loop-earlier.earlier in
    let before = c.loop-earlier.before in
    let start = g.W.Write.contents c.args.writer.now in
    let middle = g.W.Write.contents c.loop-earlier.writer in
    let IsText = IsRangeText d cycle channel in
    elim c.match-sender_in.branch [
      | in-Some+in_ok-write_sent_range w ↦
          let sender = w.in-Some.sender in
          let after = g.W.Write.contents w.write_sent_range.new.writer in
          let done = one_written d cycle channel IsText earlier sender.slot sender.node before start middle after
          w.in-Some.ensures.slot c.loop-earlier.invariant w.in-Some.ensures.sender w.in_ok-write_sent_range.ensures in
          subst (λ x. AreWritten d cycle channel IsText (earlier + 1) c.match-sender_in.before start
          (g.W.Write.contents x)) (sym w.writer-is)
          (subst (λ (n : ℕ). AreWritten d cycle channel IsText (earlier + 1) n start after) (sym w.before-is) done)
      | in_default w ↦
          let done = none_more_written d cycle channel IsText earlier (earlier + 1) before start middle refl
          c.loop-earlier.invariant w.in_default.ensures.nobody (inr (inl w.in_default.ensures.nobody, refl)) in
          subst (λ x. AreWritten d cycle channel IsText (earlier + 1) c.match-sender_in.before start
          (g.W.Write.contents x)) (sym w.writer-is)
          (subst (λ (n : ℕ). AreWritten d cycle channel IsText (earlier + 1) n start middle) (sym w.before-is) done)
    ]
