use Rattle.std.proofs.Common.{ap, ◌-◌, ◌∙◌, ◌==◌, bit_and}
use Rattle.fr_slots.specs.Admission.{cycle_admitted}
use Rattle.fr_slots.proofs.CycleLemmas.{rest_below}
use Rattle.fr_slots.proofs.filter.CycleFilter.admits.Goals as goal

pub returns : goal.returns
returns c =
    ap (λ n. bit_and n (c.self.inside.repetition - 1) == c.self.inside.base) c.number.ensures.value
    ∙ ap (λ n. n == c.self.inside.base) (rest_below c.args.cycle c.self.inside.repetition
    c.self.invariant.repetition_is)
    ∙ ap (λ class. cycle_admitted class c.args.cycle) c.self.view_is
