use Rattle.std.proofs.Common.{List, subst}
use Rattle.fr_bus.specs.Record.{Recorded}
use Rattle.fr_core.proofs.SettledLemmas.{answer_follows, between_windows}
use Rattle.fr_core.proofs.SettlingLemmas.{answer_one_sender, answer_receivers, answer_harmless}
use Rattle.fr_core.specs.Settling.{Settles}
use Rattle.fr_core.proofs.settle.settle_beside.Goals as goal

pub returns-clause-answer : goal.returns-clause-answer
returns-clause-answer c =
    subst (λ (rs : List Recorded). Settles c.args.cluster.now c.args.interfaces.now rs c.args.scripts.now
    c.judge-answer.result) c.record-recorded.ensures.value c.judge-answer.ensures

pub returns-clause-follows : goal.returns-clause-follows
returns-clause-follows c =
    answer_follows c.args.cluster.now c.args.interfaces.now c.args.bus.now.sealed c.args.scripts.now
    c.judge-answer.result c.params-params.ensures.lawful
    (subst (λ (rs : List Recorded). Settles c.args.cluster.now c.args.interfaces.now rs c.args.scripts.now
    c.judge-answer.result) c.record-recorded.ensures.value c.judge-answer.ensures)

pub returns-clause-between : goal.returns-clause-between
returns-clause-between c =
    between_windows c.args.cluster.now c.args.interfaces.now c.args.bus.now c.args.scripts.now c.judge-answer.result
    (subst (λ (rs : List Recorded). Settles c.args.cluster.now c.args.interfaces.now rs c.args.scripts.now
    c.judge-answer.result) c.record-recorded.ensures.value c.judge-answer.ensures)

pub returns-clause-one_sender : goal.returns-clause-one_sender
returns-clause-one_sender c =
    answer_one_sender c.args.cluster.now c.args.interfaces.now c.args.bus.now c.args.scripts.now c.judge-answer.result
    c.params-params.ensures.lawful c.record-recorded.ensures.run
    (subst (λ (rs : List Recorded). Settles c.args.cluster.now c.args.interfaces.now rs c.args.scripts.now
    c.judge-answer.result) c.record-recorded.ensures.value c.judge-answer.ensures)

pub returns-clause-receivers : goal.returns-clause-receivers
returns-clause-receivers c =
    answer_receivers c.args.cluster.now c.args.interfaces.now c.args.bus.now c.args.scripts.now c.judge-answer.result
    c.params-params.ensures.lawful c.record-recorded.ensures.run c.known.ensures.legal
    (subst (λ (rs : List Recorded). Settles c.args.cluster.now c.args.interfaces.now rs c.args.scripts.now
    c.judge-answer.result) c.record-recorded.ensures.value c.judge-answer.ensures)

pub returns-clause-harmless : goal.returns-clause-harmless
returns-clause-harmless c =
    answer_harmless c.args.cluster.now c.args.interfaces.now c.args.bus.now c.args.scripts.now c.judge-answer.result
    c.record-recorded.ensures.run c.known.ensures.legal
    (subst (λ (rs : List Recorded). Settles c.args.cluster.now c.args.interfaces.now rs c.args.scripts.now
    c.judge-answer.result) c.record-recorded.ensures.value c.judge-answer.ensures)
