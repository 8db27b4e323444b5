use Rattle.std.proofs.Common.{◌≡◌, ℕ, ◌+◌, ◌++◌, ◌∷◌, [], List, Bool, length, sym, ap, ◌∙◌, subst, arith}
use Rattle.std.specs.Prelude.{Vec}
use Rattle.std.specs.declared.alloc.Global.{Global}
use Rattle.fr_latency.specs.Cells.{HasBits}
use Rattle.fr_latency.specs.Marks.{AreMarks}
use Rattle.fr_latency.specs.Openings.{can_begin}
use Rattle.fr_latency.proofs.RowLemmas.{first_slot}
use Rattle.fr_latency.proofs.WayLemmas.{marks_first, marks_pushed, marks_right}
use Rattle.fr_latency.proofs.way.history_from.Goals as goal

pub loop-earlier-init : goal.loop-earlier-init
loop-earlier-init c =
    let d = c.args.cluster.now in
    let row = c.in_ok-marks_of.field-0 in
    let begins = first_slot d c.args.channel c.args.before.now c.requires.begins in
    let right = marks_right d c.args.channel c.args.cycle 0 c.args.before.now row.items c.requires.lawful
    c.marks_of.ensures.fits c.requires.room begins c.in_ok-marks_of.ensures.marks in
    let items : c.push.new.self.items ≡ row ∷ [] =
    c.in_ok-push.ensures.items ∙ ap (λ (rows : List (Vec Bool Global)). rows ++ row ∷ []) c.new-history.ensures.items in
    record {
      marks = subst (λ (rows : List (Vec Bool Global)). AreMarks d c.args.channel c.args.cycle 0 rows) (sym items)
          (marks_first d c.args.channel c.args.cycle row right);
      begins = begins;
    }

pub loop-earlier-preserved : goal.loop-earlier-preserved
loop-earlier-preserved c =
    let d = c.args.cluster.now in
    let earlier = c.loop-earlier.earlier in
    let row = c.in_ok-marks_of-2.field-0 in
    let next : earlier + 2 ≡ earlier + 1 + 1 = omega arith in
    let begins = subst (λ (first : ℕ). HasBits first
    (λ cycle minislot. can_begin d c.args.channel cycle (earlier + 1) minislot) c.step.new.before) next
    c.step.ensures.begins in
    let room : length c.step.new.before ≡ d.params.minislots + 300 = omega arith in
    let right = marks_right d c.args.channel c.args.cycle (earlier + 1) c.step.new.before row.items c.requires.lawful
    c.marks_of-in-loop-earlier.ensures.fits room begins c.in_ok-marks_of-2.ensures.marks in
    record {
      marks = subst (λ (rows : List (Vec Bool Global)). AreMarks d c.args.channel c.args.cycle (earlier + 1) rows)
          (sym c.in_ok-push-2.ensures.items)
          (marks_pushed d c.args.channel c.args.cycle earlier c.loop-earlier.history.items row
          c.loop-earlier.invariant.marks right);
      begins = begins;
    }
