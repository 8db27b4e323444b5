use Rattle.std.proofs.Common.{◌≡◌, ◌+◌, ℕ, Bool, List, [], ◌++◌, true, false, drop, refl, sym, ap, ◌∙◌, subst}
use Rattle.std.specs.Fmt.{decimal}
use Rattle.std.specs.Io.KnownBytes.{Appends}
use Rattle.std.proofs.KnownBytes.{Appends-nil, Appends-trans}
use Rattle.fr_slots.specs.Parameters.{Parameters}
use Rattle.fr_text.specs.Writing.{Writes}
use Rattle.fr_monitoring.specs.SummaryText.{comma_if, dash_unless, sends_in, nodes_from, nodes_text}
use Rattle.fr_monitoring.proofs.LineLemmas.{node_sends, node_silent, nodes_end, appends-last}
use Rattle.fr_monitoring.proofs.summary.write_nodes.Goals as goal
use Rattle.fr_monitoring.proofs.summary.write_nodes.Goals.{then-sends_in+in_ok-write_comma+in_ok-write, else-sends_in}

pub loop-node-init : goal.loop-node-init
loop-node-init g c = ([], Appends-nil (g.W.Write.contents c.args.writer.now), refl)

pub loop-node-preserved : goal.loop-node-preserved
loop-node-preserved g c =
    let p = c.params-params.result.now in
    let plans = c.plans-plans.result.now in
    let node = c.loop-node.node-counter in
    let old = g.W.Write.contents c.args.writer.now in
    let text : List ℕ = c.loop-node.invariant.0 in
    let all : List ℕ = nodes_from p c.args.slot c.args.channel false 0 plans in
    let before : Appends old (g.W.Write.contents c.loop-node.writer) text = c.loop-node.invariant.1 in
    elim c.if-sends_in.branch [
      | then-sends_in+in_ok-write_comma+in_ok-write w ↦
          let more : List ℕ = comma_if c.loop-node.some ++ decimal node in
          let both : Appends (g.W.Write.contents c.loop-node.writer) (g.W.Write.contents w.write.new.self) more =
          Appends-trans _ (g.W.Write.contents w.write_comma.new.writer) _ (comma_if c.loop-node.some) (decimal node)
          w.in_ok-write_comma.ensures w.in_ok-write.ensures.bytes in
          let next : Appends old (g.W.Write.contents w.write.new.self) (text ++ more) =
          Appends-trans old (g.W.Write.contents c.loop-node.writer) (g.W.Write.contents w.write.new.self) text more
          before both in
          let sends : sends_in p c.args.slot c.args.channel c.index-plans-node.result ≡ true =
          sym c.sends_in.ensures ∙ w.if-sends_in.true in (
            text ++ more,
            subst (λ (v : g.row.W.Denot). Appends old (g.W.Write.contents v) (text ++ more)) (sym w.writer-is) next,
            subst (λ (b : Bool). (text ++ more)
                ++ nodes_from p c.args.slot c.args.channel b (node + 1) (drop (node + 1) plans) ≡ all) (sym w.some-is)
                (node_sends p c.args.slot c.args.channel c.loop-node.some node plans c.index-plans-node.result text all
                c.loop-node-test.true c.index-plans-node.is sends c.loop-node.invariant.2),
          )
      | else-sends_in w ↦
          let silent : sends_in p c.args.slot c.args.channel c.index-plans-node.result ≡ false =
          sym c.sends_in.ensures ∙ w.if-sends_in.false in (
            text,
            subst (λ (v : g.row.W.Denot). Appends old (g.W.Write.contents v) text) (sym w.writer-is) before,
            subst (λ (b : Bool). text ++ nodes_from p c.args.slot c.args.channel b (node + 1) (drop (node + 1) plans)
                ≡ all) (sym w.some-is)
                (node_silent p c.args.slot c.args.channel c.loop-node.some node plans c.index-plans-node.result text all
                c.loop-node-test.true c.index-plans-node.is silent c.loop-node.invariant.2),
          )
    ]

pub returns : goal.returns
returns g c =
    let p = c.params-params.result.now in
    let plans = c.plans-plans.result.now in
    let text : List ℕ = c.loop-node.invariant.0 in
    let whole : text ++ dash_unless c.loop-node.some ≡ nodes_text c.args.cluster.now c.args.slot c.args.channel =
    ap (λ (t : List ℕ). text ++ t) (sym (nodes_end p c.args.slot c.args.channel c.loop-node.some
    c.loop-node.node-counter plans c.loop-node-test.false))
    ∙ c.loop-node.invariant.2
    ∙ ap (λ (q : Parameters). nodes_from q c.args.slot c.args.channel false 0 plans) c.params-params.ensures.value
    ∙ ap (nodes_from c.args.cluster.now.params c.args.slot c.args.channel false 0) c.plans-plans.ensures.value in
    subst (λ (t : List ℕ). Writes g.W.Write.contents c.args.writer.now c.write_dash.new.writer c.write_dash.result t)
    whole
    (appends-last c.write_dash.result (g.W.Write.contents c.args.writer.now) (g.W.Write.contents c.loop-node.writer)
    (g.W.Write.contents c.write_dash.new.writer) text (dash_unless c.loop-node.some) c.loop-node.invariant.1
    c.write_dash.ensures)
