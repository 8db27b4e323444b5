use Rattle.std.proofs.Common.{◌+◌, List, ℕ, sym, subst}
use Rattle.std.specs.List.{list_any}
use Rattle.fr_latency.specs.Cells.{AddsTo, HasBits}
use Rattle.fr_latency.specs.Openings.{can_begin, follows_node}
use Rattle.fr_latency.proofs.StepLemmas.{stepped}
use Rattle.fr_latency.proofs.openings.step.Goals as goal

pub returns : goal.returns
returns c =
    let d = c.args.cluster.now in
    let adds = subst (λ (cells : List ℕ). AddsTo c.args.earlier
    (λ test cycle minislot.
    list_any (follows_node d.params c.args.slot c.args.channel cycle (test cycle) minislot) d.plans) c.args.before.now
    cells c.add_nodes.new.after) c.copy_from_slice.ensures.after c.add_nodes.ensures in
    record {
      begins = subst (λ (cells : List ℕ). HasBits (c.args.earlier + 2)
          (λ cycle minislot. can_begin d c.args.channel cycle (c.args.earlier + 1) minislot) cells)
          (sym c.copy_from_slice-2.ensures.after)
          (stepped d c.args.channel c.args.slot c.args.earlier c.args.before.now c.add_nodes.new.after
          c.requires.lawful c.requires.slot c.requires.begins adds);
    }
