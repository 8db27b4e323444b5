use Rattle.std.proofs.Common.{◌≡◌, ◌+◌, ◌*◌, ◌/◌, ◌-◌, ◌<◌, ◌≤◌, ◌==◌, ℕ, not, Some, arith, ap, ap₂, subst, sym, ◌∙◌}
use Rattle.fr_slots.specs.Faults.{first_of, numbers_from}
use Rattle.fr_schedule.specs.DenseTable.{at_place, first_taken_in, nobody, taken_in}
use Rattle.fr_schedule.proofs.CycleRowLemmas.{turn_ended, turn_finds, turn_passes, turn_within}
use Rattle.fr_schedule.proofs.senders.search_row.Goals as goal

pub returns-then-is_taken_at : goal.returns-then-is_taken_at
returns-then-is_taken_at c =
    let repetition : c.from-step.result ≡ c.args.cycles.repetition = c.from-step.ensures ∙ c.repetition.ensures.value in
    let base : c.from-first.result ≡ c.args.cycles.base = c.from-first.ensures ∙ c.base.ensures.value in
    let cycle : c.loop-turn.turn * c.from-step.result + c.from-first.result
    ≡ c.loop-turn.turn * c.args.cycles.repetition + c.args.cycles.base =
    ap₂ (λ s b. c.loop-turn.turn * s + b) repetition base in
    ap Some (c.from_bits.ensures ∙ cycle)
    ∙ turn_finds c.args.nodes.now c.args.start c.args.cycles c.loop-turn.turn _ c.repetition.ensures.lawful.base_below
    (turn_within c.loop-turn.turn c.args.cycles.repetition (subst
    (λ s. c.loop-turn.turn < 64 / s) repetition c.loop-turn-test.true))
    (ap (λ (k : ℕ). not (at_place c.args.nodes.now (c.args.start + k) == nobody)) (sym cycle)
    ∙ sym c.is_taken_at.ensures ∙ c.if-is_taken_at.true)
    (subst (λ s. first_of (taken_in c.args.nodes.now c.args.start c.args.cycles)
    (numbers_from (c.loop-turn.turn * s) (64 - c.loop-turn.turn * s))
    ≡ first_taken_in c.args.nodes.now c.args.start c.args.cycles) repetition c.loop-turn.invariant)

pub loop-turn-preserved : goal.loop-turn-preserved
loop-turn-preserved c =
    let repetition : c.from-step.result ≡ c.args.cycles.repetition = c.from-step.ensures ∙ c.repetition.ensures.value in
    let base : c.from-first.result ≡ c.args.cycles.base = c.from-first.ensures ∙ c.base.ensures.value in
    let cycle : c.loop-turn.turn * c.from-step.result + c.from-first.result
    ≡ c.loop-turn.turn * c.args.cycles.repetition + c.args.cycles.base =
    ap₂ (λ s b. c.loop-turn.turn * s + b) repetition base in
    subst (λ s. first_of (taken_in c.args.nodes.now c.args.start c.args.cycles)
    (numbers_from ((c.loop-turn.turn + 1) * s) (64 - (c.loop-turn.turn + 1) * s))
    ≡ first_taken_in c.args.nodes.now c.args.start c.args.cycles) (sym repetition)
    (turn_passes c.args.nodes.now c.args.start c.args.cycles c.loop-turn.turn _ c.repetition.ensures.lawful.base_below
    (turn_within c.loop-turn.turn c.args.cycles.repetition (subst
    (λ s. c.loop-turn.turn < 64 / s) repetition c.loop-turn-test.true))
    (ap (λ (k : ℕ). not (at_place c.args.nodes.now (c.args.start + k) == nobody)) (sym cycle)
    ∙ sym c.is_taken_at.ensures ∙ c.if-is_taken_at.false)
    (subst (λ s. first_of (taken_in c.args.nodes.now c.args.start c.args.cycles)
    (numbers_from (c.loop-turn.turn * s) (64 - c.loop-turn.turn * s))
    ≡ first_taken_in c.args.nodes.now c.args.start c.args.cycles) repetition c.loop-turn.invariant))

pub returns : goal.returns
returns c =
    let repetition : c.from-step.result ≡ c.args.cycles.repetition = c.from-step.ensures ∙ c.repetition.ensures.value in
    turn_ended (taken_in c.args.nodes.now c.args.start c.args.cycles) c.loop-turn.turn c.args.cycles.repetition _
    c.repetition.ensures.lawful.repetition_is
    (subst (λ s. 64 / s ≤ c.loop-turn.turn) repetition (omega (arith, c.loop-turn-test.false)))
    (subst (λ s. first_of (taken_in c.args.nodes.now c.args.start c.args.cycles)
    (numbers_from (c.loop-turn.turn * s) (64 - c.loop-turn.turn * s))
    ≡ first_taken_in c.args.nodes.now c.args.start c.args.cycles) repetition c.loop-turn.invariant)
