use Rattle.std.proofs.Common.{◌≡◌, ◌<◌, ◌++◌, ◌∷◌, [], false, replicate, length, get_or, rules, sym, refl, ap, ◌∙◌}
use Rattle.std.proofs.lemmas.List.{append_assoc}
use Rattle.std.proofs.lemmas.Nat.{xor_lt}
use Rattle.fr_frame.specs.Bits.{bits_of, bits_of_bytes}
use Rattle.fr_frame.specs.Crc.{frame_divisor}
use Rattle.fr_frame.specs.Register.{left_by, stepped_all}
use Rattle.fr_frame.proofs.TableLemmas.{block_steps, stretches_add, word_bits, sixteen_of, four_fit}
use Rattle.fr_frame.proofs.crc.step_sixteen.Goals as goal

pub returns-clause-bits : goal.returns-clause-bits
returns-clause-bits c =
    let bytes = c.args.bytes in
    let sixteen : length bytes ≡ 16 = search rules in
    let first : get_or bytes 0 0 < 256 = search rules in
    let second : get_or bytes 1 0 < 256 = search rules in
    let third : get_or bytes 2 0 < 256 = search rules in
    let fourth : get_or bytes 3 0 < 256 = search rules in
    let front = get_or bytes 0 0 ∷ get_or bytes 1 0 ∷ get_or bytes 2 0 ∷ get_or bytes 3 0 ∷ [] in
    let next = get_or bytes 4 0 ∷ get_or bytes 5 0 ∷ get_or bytes 6 0 ∷ get_or bytes 7 0 ∷ [] in
    let back = (get_or bytes 8 0 ∷ get_or bytes 9 0 ∷ get_or bytes 10 0 ∷ get_or bytes 11 0 ∷ [])
    ++ (get_or bytes 12 0 ∷ get_or bytes 13 0 ∷ get_or bytes 14 0 ∷ get_or bytes 15 0 ∷ []) in
    let met = c.to_be_bytes.result in
    let word = word_bits c.from_be_bytes.result front refl (four_fit _ _ _ _ first second third fourth)
    c.from_be_bytes.ensures in
    block_steps 6122955 c.args.register c.from_be_bytes.result _ front (next ++ back) c.requires word refl
    (stretches_add frame_divisor 24 0 _ _ (met ++ next) back c.frame_entries_of_two.ensures.bits
    c.frame_entries_of_two-back.ensures.bits
    ∙ ap (λ w. left_by frame_divisor 24 (bits_of_bytes w ++ replicate 0 false)) (append_assoc met next back)
    ∙ ap (λ w. left_by frame_divisor 24 (bits_of_bytes (w ++ (next ++ back)) ++ replicate 0 false))
    c.to_be_bytes.ensures)
    ∙ ap (λ b. stepped_all (bits_of 24 6122955) (bits_of 24 c.args.register) (bits_of_bytes b))
    (sym (sixteen_of bytes sixteen))

pub returns-clause-fits : goal.returns-clause-fits
returns-clause-fits c = xor_lt 24 _ _ c.frame_entries_of_two.ensures.fits c.frame_entries_of_two-back.ensures.fits
