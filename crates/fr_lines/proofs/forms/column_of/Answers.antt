use Rattle.std.proofs.Common.{rules, ◌≡◌, ◌+◌, ℕ, ◌≤◌, length, arith, refl, sym, ◌∙◌}
use Rattle.fr_text.specs.Spaces.{words_of}
use Rattle.fr_lines.proofs.FormLemmas.{column_within, front_more, rest_more, front_over, rest_over}
use Rattle.fr_lines.proofs.forms.column_of.Goals.{in-Some, in_default}
use Rattle.fr_lines.proofs.forms.column_of.Goals as goal

pub loop-init : goal.loop-init
loop-init c = (refl, c.new-words.ensures)

pub overflow_add-column-in-Some : goal.overflow_add-column-in-Some
overflow_add-column-in-Some c =
    let more = front_more (words_of c.args.line.now) c.loop.counter c.in-Some.word.now c.next_word.new.self
    (sym c.loop.invariant.1 ∙ c.in-Some.ensures.words) in
    let within = column_within c.args.line.now (c.loop.counter + 1) in
    let few : c.loop.column + (length c.in-Some.word.now + 1) ≤ length c.args.line.now + 2 =
    omega (arith, c.loop.invariant.0, more, within) in
    search rules

pub loop-preserved : goal.loop-preserved
loop-preserved c = elim c.match-next_word.branch [
  | in-Some w ↦
      let at = sym c.loop.invariant.1 ∙ w.in-Some.ensures.words in
      let more = front_more (words_of c.args.line.now) c.loop.counter w.in-Some.word.now c.next_word.new.self at in (
        omega (arith, c.loop.invariant.0, more, w.column-is),
        rest_more (words_of c.args.line.now) c.loop.counter w.in-Some.word.now c.next_word.new.self at,
      )
  | in_default w ↦
      let over = sym c.loop.invariant.1 ∙ w.in_default.ensures.end in (
        omega (arith, c.loop.invariant.0, front_over (words_of c.args.line.now) c.loop.counter over, w.column-is),
        sym w.in_default.ensures.words ∙ w.in_default.ensures.end ∙ rest_over
            (words_of c.args.line.now) c.loop.counter over,
      )
]
