use Rattle.std.proofs.Common.{◌≡◌, ◌<◌, ◌++◌, ℕ, [], false, replicate, length, get_or, rules, sym, ap, ◌∙◌}
use Rattle.std.proofs.lemmas.List.{append-nil}
use Rattle.fr_frame.specs.Bits.{bits_of, bits_of_bytes}
use Rattle.fr_frame.specs.Crc.{frame_divisor}
use Rattle.fr_frame.specs.Register.{left_by, stepped_all}
use Rattle.fr_frame.proofs.TableLemmas.{block_steps, word_bits}
use Rattle.fr_frame.proofs.crc.step_four.Goals as goal

pub returns-clause-bits : goal.returns-clause-bits
returns-clause-bits c =
    let bytes = c.args.bytes in
    let four : length bytes ≡ 4 = search rules in
    let small : (i : ℕ) → get_or bytes i 0 < 256 = λ i. search rules in
    let word = word_bits c.from_be_bytes.result bytes four small c.from_be_bytes.ensures in
    block_steps 6122955 c.args.register c.from_be_bytes.result _ bytes [] c.requires word four
    (c.frame_entries.ensures.bits ∙ ap (λ w. left_by frame_divisor 24 (bits_of_bytes w ++ replicate 0 false))
    (c.to_be_bytes.ensures ∙ sym (append-nil _)))
    ∙ ap (λ b. stepped_all (bits_of 24 6122955) (bits_of 24 c.args.register) (bits_of_bytes b)) (append-nil bytes)
