use Rattle.std.proofs.Common.{◌≡◌, rules, subst, true, ◌∙◌}
use Rattle.std.specs.Prelude.{IsTrue}
use Rattle.fr_core.specs.Accounts.{IsHarmless}
use Rattle.fr_core.specs.Receivers.{Receivers}
use Rattle.fr_runs.specs.Stepping.{AreStepped}
use Rattle.fr_threads.proofs.RunLemmas.{settles_same}
use Rattle.fr_threads.proofs.run.settled_run.Goals.{else-workload-via-then-workload+else-not-are_stepped}
use Rattle.fr_threads.proofs.run.settled_run.Goals.{else-workload-via-else-workload}
use Rattle.fr_threads.proofs.run.settled_run.Goals as goal

pub returns : goal.returns
returns g c =
    let same_interfaces = c.as_slice-2.ensures.value in
    let settled = settles_same _ _ _ _ _ _ _ same_interfaces c.as_slice-3.ensures.value c.in_ok-settled.ensures.answer
    in
    let at_end : IsTrue c.in_ok-is_at_end.field-0 = search rules in
    let scripts = c.args.workload.now.scripts.now in
    let interfaces = c.args.nodes.interfaces.items in
    let stepped : c.args.workload.now.stepped ≡ true → AreStepped c.args.bus.sealed scripts interfaces =
    elim c.else-workload.branch [
      | else-workload-via-then-workload+else-not-are_stepped w ↦
          λ yes.
          let are : IsTrue w.are_stepped.result = search rules in
          let found = w.are_stepped.ensures.0 are in
          subst (λ rs. AreStepped rs scripts interfaces) w.record.ensures.value
          (subst (λ is. AreStepped w.record.result.now scripts is) w.as_slice-then-workload.ensures.value found)
      | else-workload-via-else-workload w ↦ λ yes. cc (w.if-workload.false, yes)
    ] in
    record {
      agrees = settled.0;
      windows = settled.1;
      receivers = subst (λ is. Receivers c.args.cluster.now is c.args.bus.sealed) same_interfaces
          c.in_ok-settled.ensures.receivers;
      one_sender = c.in_ok-settled.ensures.one_sender;
      cluster = c.in_ok-is_at_end.ensures.cluster at_end;
      run_is = c.in_ok-is_at_end.ensures.run at_end;
      harmless = subst (λ is. IsHarmless c.args.cluster.now is c.args.bus.sealed) same_interfaces
          (c.in_ok-settled.ensures.harmless (c.in_ok-is_at_end.ensures.cluster at_end));
      commits = c.requires;
      finished = c.in_ok-is_at_end.ensures.finished at_end;
      cycles_done = c.in_ok-is_at_end.ensures.cycles at_end;
      scripts = c.in_ok-scripts.ensures;
      faults = c.in_ok-is_at_end.ensures.faults at_end;
      stepped = stepped;
    }
