use Rattle.std.proofs.Common.{◌≡◌, ◌∙◌, ℕ, ◌+◌, ◌<◌, true, false, cond, length, Some, refl, sym, ap, arith}
use Rattle.std.specs.Prelude.{slice_get}
use Rattle.fr_journal.specs.Cycles.{begins_cycle_at}
use Rattle.fr_journal.specs.Lent.{whole}
use Rattle.fr_showing.proofs.FateLemmas.{commit_within, cycles_more, cycles_with, decided, lent_none, lent_there}
use Rattle.fr_showing.proofs.FateLemmas.{same_then}
use Rattle.fr_showing.specs.FateSteps.{became_with, is_pending}
use Rattle.fr_showing.proofs.fates.became_of.Goals as goal

pub overflow_step-number : goal.overflow_step-number
overflow_step-number c =
    let within : c.args.commit < length c.args.interface.now.entries =
    commit_within c.args.interface.now.entries c.args.buffer c.args.commit c.requires.there in
    omega (
      arith,
      within,
      ap (length {A = _}) c.journal-journal.ensures.entries,
      c.len-end.ensures.value,
      c.len-end.ensures.few,
    )

pub loop-number-init : goal.loop-number-init
loop-number-init c = record {
  cycle = c.requires.cycle ∙ cycles_with c.args.interface.now.entries c.args.buffer c.args.commit c.requires.there;
  same = refl;
}

pub returns-in_default : goal.returns-in_default
returns-in_default c =
    absurd (lent_none c.args.interface.now.entries c.journal-journal.result.now.entries c.loop-number.number
    c.len-end.result c.lent.result c.journal-journal.ensures.entries
    c.lent.ensures.entry c.len-end.ensures.value c.loop-number-test.true c.in_default.is)

pub returns-then-not-is_pending : goal.returns-then-not-is_pending
returns-then-not-is_pending c =
    let es = c.args.interface.now.entries in
    let n : ℕ = c.loop-number.number in
    let e = whole c.in-Some.entry in
    let here : slice_get es n ≡ Some e = lent_there es c.journal-journal.result.now.entries n c.lent.result
    c.in-Some.entry c.journal-journal.ensures.entries c.lent.ensures.entry c.in-Some.is in
    let later : c.args.commit < n = omega (arith, c.loop-number.auto.number) in
    let found : is_pending (became_with c.args.buffer c.args.commit c.loop-number.begun n e) ≡ false =
    ap is_pending (sym c.became_with-became.ensures) ∙ sym c.is_pending.ensures ∙ c.if-not-is_pending.true in
    c.became_with-became.ensures
    ∙ decided c.args.interface.now c.args.buffer c.args.commit c.journal-journal.ensures.legal c.requires.there n e
    later here c.loop-number.begun c.loop-number.invariant.cycle found
    ∙ c.loop-number.invariant.same

pub loop-number-preserved : goal.loop-number-preserved
loop-number-preserved c =
    let es = c.args.interface.now.entries in
    let n : ℕ = c.loop-number.number in
    let e = whole c.in-Some.entry in
    let here : slice_get es n ≡ Some e = lent_there es c.journal-journal.result.now.entries n c.lent.result
    c.in-Some.entry c.journal-journal.ensures.entries c.lent.ensures.entry c.in-Some.is in
    let later : c.args.commit < n = omega (arith, c.loop-number.auto.number) in
    let pending : is_pending (became_with c.args.buffer c.args.commit c.loop-number.begun n e) ≡ true =
    ap is_pending (sym c.became_with-became.ensures) ∙ sym c.is_pending.ensures ∙ c.if-not-is_pending.false in
    record {
      cycle = c.begun_with-begun.ensures ∙ ap (λ (b : ℕ). b + cond (begins_cycle_at e) 1 0)
          c.loop-number.invariant.cycle ∙ sym (cycles_more es n e here);
      same =
          sym (same_then c.args.interface.now c.args.buffer c.args.commit c.journal-journal.ensures.legal
          c.requires.there n e later here c.loop-number.begun pending)
          ∙ c.loop-number.invariant.same;
    }
