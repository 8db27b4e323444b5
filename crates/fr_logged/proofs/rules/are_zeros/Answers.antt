use Rattle.std.proofs.Common.{◌*◌, ◌/◌, Bool, ◌&&◌, length, drop, sym, ap, ◌∙◌}
use Rattle.std.specs.List.{list_all}
use Rattle.fr_logged.specs.Rules.{is_zero}
use Rattle.fr_logged.proofs.ZeroLemmas.{all_chunks}
use Rattle.fr_logged.proofs.rules.are_zeros.Goals as goal

pub returns-else-are_zero_words : goal.returns-else-are_zero_words
returns-else-are_zero_words c =
    let bytes = c.args.bytes.now in
    let words = c.are_zero_words.ensures ∙ ap (list_all (list_all is_zero)) c.as_chunks.ensures.front in
    c.if-are_zero_words.false
    ∙ sym (ap (λ (b : Bool). b && list_all is_zero (drop (length bytes / 8 * 8) bytes))
    (sym words ∙ c.if-are_zero_words.false))
    ∙ all_chunks is_zero 8 (length bytes / 8) bytes
