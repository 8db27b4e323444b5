use Rattle.std.proofs.Common.{◌≡◌, ◌∙◌, ℕ, ◌+◌, ◌≤◌, cond, List, length, take, Some, refl, sym, ap, subst, arith}
use Rattle.std.specs.Prelude.{slice_get}
use Rattle.std.specs.Io.KnownBytes.{Appends}
use Rattle.fr_journal.specs.Cycles.{begins_cycle_at}
use Rattle.fr_journal.specs.Lent.{whole}
use Rattle.fr_showing.proofs.FateLemmas.{cycles_more, entry_is, lent_there}
use Rattle.fr_showing.proofs.GoingLemmas.{ends_behind, goes_on, here, starts}
use Rattle.fr_showing.specs.CommitSteps.{node_text}
use Rattle.fr_showing.specs.CommitText.{commit_by, line_in}
use Rattle.fr_showing.proofs.commits.write_node.Goals as goal

pub loop-number-init : goal.loop-number-init
loop-number-init g c = record {
  cycle = refl;
  written =
      starts (commit_by c.args.node) (line_in c.args.world.now c.args.interface.now.entries)
      c.args.interface.now.entries (node_text c.args.world.now c.args.node c.args.interface.now.entries)
      (g.W.Write.contents c.args.writer.now) 0 refl;
}

pub loop-number-preserved : goal.loop-number-preserved
loop-number-preserved g c =
    let es = c.args.interface.now.entries in
    let n : ℕ = c.loop-number.number in
    let e = whole c.in-Some.entry in
    let now = g.W.Write.contents c.loop-number.writer in
    let mid = g.W.Write.contents c.write_entry.new.writer in
    let there : slice_get es n ≡ Some e = lent_there es c.journal-journal.result.now.entries n c.lent.result
    c.in-Some.entry c.journal-journal.ensures.entries c.lent.ensures.entry c.in-Some.is in
    record {
      cycle = c.begun_with-begun.ensures ∙ ap (λ (b : ℕ). b + cond (begins_cycle_at e) 1 0)
          c.loop-number.invariant.cycle ∙ sym (cycles_more es n e there);
      written =
          goes_on (commit_by c.args.node) (line_in c.args.world.now es) es (node_text c.args.world.now c.args.node es)
          (g.W.Write.contents c.args.writer.now) now mid n e there c.loop-number.invariant.written
          (subst (λ (t : List ℕ). Appends now mid t)
          (entry_is c.args.world.now c.args.node es c.loop-number.begun n (take n es) e c.loop-number.invariant.cycle
          (sym (here es n e there).place)) c.in_ok-write_entry.ensures);
    }

pub returns : goal.returns
returns g c =
    let es = c.args.interface.now.entries in
    let n : ℕ = c.loop-number.number in
    let le : length es ≤ n = omega (
      arith,
      c.loop-number-test.false,
      c.len-number-end.ensures.value,
      ap (length {A = _}) c.journal-journal.ensures.entries,
    ) in
    ends_behind (commit_by c.args.node) (line_in c.args.world.now es) es (node_text c.args.world.now c.args.node es)
    (g.W.Write.contents c.args.writer.now) (g.W.Write.contents c.loop-number.writer) n le
    c.loop-number.invariant.written
