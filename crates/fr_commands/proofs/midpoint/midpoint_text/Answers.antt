use Rattle.std.proofs.Common.{◌≡◌, ◌≤◌, ◌∙◌, ℕ, ℤ, List, length, Some, ap, rules, subst, sym}
use Rattle.fr_commands.proofs.MidpointLemmas.{answer_is, midpoint_told}
use Rattle.fr_commands.specs.Midpoints.{midpoint_line}
use Rattle.fr_commands.specs.Numbers.{numbers_in, words_in}
use Rattle.fr_files.proofs.InputLemmas.{for_text}
use Rattle.fr_files.specs.Inputs.{ForText}
use Rattle.fr_commands.proofs.midpoint.midpoint_text.Goals as goal

pub returns-in-Ok : goal.returns-in-Ok
returns-in-Ok g c =
    let known = g.R.Read.remaining c.args.reader.now in
    let bytes = c.as_slice.result.now in
    let numbers = c.as_slice-2.result.now in
    let answer = c.in_ok-answer.answer in
    let read = subst (λ (b : List ℕ). ForText known (λ text. (b ≡ text) × (length text ≤ 4096)))
    (sym c.as_slice.ensures.value) (for_text known (λ text. (c.in_ok-text.text.items ≡ text) × (length text ≤ 4096))
    c.in_ok-text.ensures.known c.in_ok-text.ensures.some) in
    let spelled : numbers_in (words_in bytes) ≡ Some numbers =
    c.in_ok-numbers.ensures.found ∙ ap (λ (ns : List ℤ). Some ns) (sym c.as_slice-2.ensures.value) in
    let line_is : c.as_slice-in-Ok.result.now ≡ midpoint_line answer = search rules in
    midpoint_told known bytes numbers answer (g.W.Write.contents c.args.writer.now)
    (g.W.Write.contents c.write_whole.new.writer) c.as_slice-in-Ok.result.now c.write_whole.result read spelled
    (answer_is numbers answer c.in_ok-answer.ensures.none c.in_ok-answer.ensures.found) line_is
    c.write_whole.ensures.written c.write_whole.ensures.refused c.write_whole.ensures.cut
