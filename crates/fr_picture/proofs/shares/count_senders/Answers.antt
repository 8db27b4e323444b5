use Rattle.std.proofs.Common.{◌≡◌, true, false, rules, sym, arith}
use Rattle.std.specs.Prelude.{is_some}
use Rattle.fr_picture.proofs.ShareLemmas.{few_senders, no_senders, no_sender_in, sender_in_more}
use Rattle.fr_picture.proofs.shares.count_senders.Goals.{then-is_some, else-is_some}
use Rattle.fr_picture.proofs.shares.count_senders.Goals as goal

pub loop-earlier-init : goal.loop-earlier-init
loop-earlier-init c = sym (no_senders c.args.cluster.now c.args.cycle c.args.channel)

pub overflow_add-count : goal.overflow_add-count
overflow_add-count c =
    omega (
      arith,
      c.loop-earlier.invariant,
      c.loop-earlier-test.true,
      few_senders c.args.cluster.now c.args.cycle c.args.channel c.loop-earlier.earlier,
    )

pub loop-earlier-preserved : goal.loop-earlier-preserved
loop-earlier-preserved c =
    let d = c.args.cluster.now in
    let cycle = c.args.cycle in
    let channel = c.args.channel in
    let earlier = c.loop-earlier.earlier in
    elim c.if-is_some.branch [
      | then-is_some w ↦
          let found : is_some c.sender_in.result ≡ true = search rules in
          let more = sender_in_more d cycle channel c.sender_in.result earlier c.sender_in.ensures.slot
          c.sender_in.ensures.sender found in
          omega (arith, w.count-is, c.loop-earlier.invariant, more)
      | else-is_some w ↦
          let none : is_some c.sender_in.result ≡ false = search rules in
          let same = no_sender_in d cycle channel c.sender_in.result earlier c.sender_in.ensures.nobody none in
          omega (arith, w.count-is, c.loop-earlier.invariant, same)
    ]

pub returns-clause-few : goal.returns-clause-few
returns-clause-few c =
    omega (
      arith,
      c.loop-earlier.invariant,
      c.loop-earlier.auto.earlier-end,
      few_senders c.args.cluster.now c.args.cycle c.args.channel c.loop-earlier.earlier,
    )
