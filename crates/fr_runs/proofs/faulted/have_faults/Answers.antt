use Rattle.std.proofs.Common.{◌≡◌, Bool, true, false, cond, take, sym, ap, subst, ◌∙◌, ◌+◌, ◌-◌, ◌<◌, ◌≤◌, ◌^◌, arith}
use Rattle.std.proofs.Common.{rules, refl, IsTrue}
use Rattle.std.proofs.lemmas.Option.{slice_get_read}
use Rattle.fr_bus.specs.Windows.{begins_cycle, cycles_begun}
use Rattle.fr_runs.proofs.FaultedLemmas.{faults_all, faults_on, faults_at, begun_yes, begun_no}
use Rattle.fr_runs.specs.Faulted.{HasFaults, HasFaultsAt, lines_of_cycle}
use Rattle.fr_runs.proofs.faulted.have_faults.Goals as goal
use Rattle.fr_runs.proofs.faulted.have_faults.Goals.{then-opens_cycle+in_ok-keep_lines_of-2, else-opens_cycle}

digit : (b : Bool) → cond b 1 0 ≤ 1
digit true = omega arith
digit false = omega arith

pub loop-sealed-preserved : goal.loop-sealed-preserved
loop-sealed-preserved c =
    let lines = c.args.lines.now in
    let rs = c.args.recorded.now in
    let k = c.loop-sealed.sealed-index in
    let here = c.sealed-item.result in
    let before = c.loop-sealed.invariant in
    let at = slice_get_read rs _ k here refl c.loop-sealed-test.true c.sealed-item.is in
    let begins : begins_cycle here ≡ c.opens_cycle.result = search rules in
    let room : c.loop-sealed.begun + 1 < 2 ^ 64 = search rules in
    let begun = c.cycles_with-begun.result in
    let more : begun ≡ c.loop-sealed.begun + cond (begins_cycle here) 1 0 = c.cycles_with-begun.ensures.counted room in
    let counted : begun ≡ cycles_begun (take (k + 1) rs) =
    elim c.if-opens_cycle.branch [
      | then-opens_cycle+in_ok-keep_lines_of-2 w ↦
          let yes = begins ∙ w.if-opens_cycle.true in
          more ∙ ap (λ b. c.loop-sealed.begun + cond b 1 0) yes ∙ ap (λ n. n + 1) before.begun
          ∙ sym (begun_yes rs k here at yes)
      | else-opens_cycle w ↦
          let no = begins ∙ w.if-opens_cycle.false in
          let same : c.loop-sealed.begun + 0 ≡ c.loop-sealed.begun = omega arith in
          more ∙ ap (λ b. c.loop-sealed.begun + cond b 1 0) no ∙ same ∙ before.begun ∙ sym (begun_no rs k here at no)
    ] in
    let kept : c.if-opens_cycle.kept.items ≡ lines_of_cycle (begun - 1) lines =
    elim c.if-opens_cycle.branch [
      | then-opens_cycle+in_ok-keep_lines_of-2 w ↦
          let yes = begins ∙ w.if-opens_cycle.true in
          let now : begun ≡ c.loop-sealed.begun + 1 = more ∙ ap (λ b. c.loop-sealed.begun + cond b 1 0) yes in
          let last : c.loop-sealed.begun ≡ begun - 1 = omega (arith, now) in
          ap (λ v. v.items) w.kept-is ∙ w.in_ok-keep_lines_of-2.ensures ∙ ap (λ n. lines_of_cycle n lines) last
      | else-opens_cycle w ↦
          let no = begins ∙ w.if-opens_cycle.false in
          let now : begun ≡ c.loop-sealed.begun + 0 = more ∙ ap (λ b. c.loop-sealed.begun + cond b 1 0) no in
          let same : c.loop-sealed.begun - 1 ≡ begun - 1 = omega (arith, now) in
          ap (λ v. v.items) w.kept-is ∙ before.kept ∙ ap (λ n. lines_of_cycle n lines) same
    ] in
    let is_true : IsTrue c.has_faults.result = search rules in
    let has : HasFaults c.if-opens_cycle.kept.items (begun - 1) here =
    subst (λ ls. HasFaults ls (begun - 1) here) c.as_slice.ensures.value
    (subst (λ n. HasFaults c.as_slice.result.now n here) c.saturating_sub.ensures (c.has_faults.ensures is_true)) in
    let last : HasFaultsAt lines rs k =
    faults_at lines c.if-opens_cycle.kept.items rs k (begun - 1) here at
    (ap (λ n. n - 1) counted) kept has in
    record {
      begun = counted;
      few = omega (arith, more, before.few, digit (begins_cycle here));
      kept = kept;
      faults = faults_on lines rs k before.faults last;
    }

pub returns : goal.returns
returns c = λ yes. faults_all c.args.lines.now c.args.recorded.now c.loop-sealed.sealed-index c.loop-sealed-test.false
    c.loop-sealed.invariant.faults
