use Rattle.std.proofs.Common.{◌≡◌, ℕ, ◌<◌, Bool, arith, length, sym, ap, ◌∙◌, cond}
use Rattle.fr_trace.proofs.WritingLemmas.{there_is, none_behind}
use Rattle.fr_why.specs.Faults.{is_fetch}
use Rattle.fr_why.proofs.WordLemmas.{windows_more}
use Rattle.fr_why.proofs.explain.window_count.Goals.{in-Some+then-is_fetch, in-Some+else-is_fetch, in_default}
use Rattle.fr_why.proofs.explain.window_count.Goals as goal

pub loop-number-preserved : goal.loop-number-preserved
loop-number-preserved c =
    let entries = c.args.journal.now.entries in
    let i = c.loop-number.number in
    let lt : i < length entries = omega (arith, c.len-number-end.ensures.value, c.loop-number-test.true) in
    let (so_far, few) = c.loop-number.invariant in
    elim c.match-get.branch [
      | in-Some+then-is_fetch w ↦
          let e = w.in-Some.entry in
          let more = windows_more entries i e lt (there_is entries i e (sym c.get.ensures ∙ w.in-Some.is)) in
          let one : ◌≡◌ {A = ℕ} (cond (is_fetch e) 1 0) 1 = ap (λ (b : Bool). cond {A = ℕ} b 1 0)
          (sym w.is_fetch.ensures ∙ w.if-is_fetch.true) in
          (omega (arith, more, one, so_far, w.count-is), omega (arith, few, w.count-is))
      | in-Some+else-is_fetch w ↦
          let e = w.in-Some.entry in
          let more = windows_more entries i e lt (there_is entries i e (sym c.get.ensures ∙ w.in-Some.is)) in
          let none : ◌≡◌ {A = ℕ} (cond (is_fetch e) 1 0) 0 =
          ap (λ (b : Bool). cond {A = ℕ} b 1 0) (sym w.is_fetch.ensures ∙ w.if-is_fetch.false) in
          (omega (arith, more, none, so_far, w.count-is), omega (arith, few, w.count-is))
      | in_default w ↦ absurd (none_behind entries i lt (sym c.get.ensures ∙ w.in_default.is))
    ]
