use Rattle.std.proofs.Common.{◌≡◌, ◌+◌, ℕ, List, subst, ◌∙◌, arith}
use Rattle.std.specs.Io.KnownBytes.{Appends}
use Rattle.std.specs.List.{flat_map, range_with_len}
use Rattle.fr_commands.specs.PlanText.{base_text}
use Rattle.fr_commands.proofs.PlanTextLemmas.{one_more, owners_all}
use Rattle.fr_commands.proofs.plan.write_owners.Goals as goal

pub loop-number-preserved : goal.loop-number-preserved
loop-number-preserved g c =
    let text = base_text c.args.cluster.now.plans c.args.slot c.args.channel in
    let number = c.loop-number.number in
    let before = g.W.Write.contents c.loop-number.writer in
    let after = g.W.Write.contents c.write_base.new.writer in
    one_more text 0 number (g.W.Write.contents c.args.writer.now) before after c.loop-number.invariant
    (subst (λ (n : ℕ). Appends before after (text n)) (c.from_bits.ensures ∙
    (let e : number ≡ 0 + number = omega arith in e)) c.in_ok-write_base.ensures)

pub returns : goal.returns
returns g c =
    let d = c.args.cluster.now in
    let text = base_text d.plans c.args.slot c.args.channel in
    let start = g.W.Write.contents c.args.writer.now in
    let end = g.W.Write.contents c.loop-number.writer in
    let all : c.loop-number.number ≡ c.args.cycles = omega (
      arith,
      c.loop-number-test.false,
      c.loop-number.auto.number-end,
    ) in
    subst (λ (t : List ℕ). Appends start end t) (owners_all d c.requires.lawful c.args.slot c.args.channel c.args.cycles
    c.requires.cycles c.requires.few)
    (subst (λ (n : ℕ). Appends start end (flat_map text (range_with_len 0 n))) all c.loop-number.invariant)
