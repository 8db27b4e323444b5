use Rattle.std.proofs.Common.{drop, sym, ap, ◌∙◌}
use Rattle.fr_lines.proofs.FirstLemmas.{window_by_steps}
use Rattle.fr_lines.proofs.FrontLemmas.{fetch_at, five_dropped}
use Rattle.fr_text.specs.Spaces.{words_of}
use Rattle.fr_lines.proofs.entries.fetch_at_front.Goals as goal

pub returns : goal.returns
returns c bytes =
    let window =
    window_by_steps (words_of c.args.line.now)
    ∙ rw (
      c.in_ok-number.ensures.number,
      ← c.in_ok-number.ensures.left,
      c.in_ok-cycle.ensures.number,
      ← c.in_ok-cycle.ensures.left,
      c.in_ok-minislot.ensures.number,
      ← c.in_ok-minislot.ensures.left,
      c.in-Some.ensures.slot,
      ← c.in-Some.ensures.left,
      c.in-Some-slot_at_front.ensures.slot,
    ) (sym (rw c.from_bits-cycle.ensures at c.window_at.ensures) ∙ c.in_ok-window.was) in
    let two = c.in_ok-cycle.ensures.left ∙ ap (drop 1) c.in_ok-number.ensures.left in
    let four = c.in-Some.ensures.left ∙ ap (drop 1) (c.in_ok-minislot.ensures.left ∙ ap (drop 1) two) in
    let left = c.in-Some-slot_at_front.ensures.left ∙ ap (drop 1) four ∙ five_dropped (words_of c.args.line.now) in
    fetch_at (words_of c.args.line.now) (words_of c.in-Some-slot_at_front.offers.now) c.in_ok-window.window c.in_ok-a.a
    c.in_ok-a.b window left (sym c.offers_of.ensures ∙ c.in_ok-a.was)
