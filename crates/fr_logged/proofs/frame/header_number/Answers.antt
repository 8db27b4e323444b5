use Rattle.std.proofs.Common.{◌<◌, ◌+◌, ◌∷◌, [], get_or, refl, sym, ap, ◌∙◌, arith, rules, ◌≡◌}
use Rattle.fr_frame.proofs.FieldLemmas.{number-more}
use Rattle.fr_frame.proofs.TableLemmas.{word_bits, four_fit}
use Rattle.fr_frame.specs.Bits.{bits_of, bits_of_bytes}
use Rattle.fr_logged.proofs.HeaderLemmas.{front_four}
use Rattle.fr_logged.proofs.frame.header_number.Goals as goal

pub returns : goal.returns
returns c =
    let bytes = c.args.bytes.now in
    let front = get_or bytes 0 0 ∷ get_or bytes 1 0 ∷ get_or bytes 2 0 ∷ get_or bytes 3 0 ∷ [] in
    let word = word_bits c.from_be_bytes-front.result front refl
    (four_fit _ _ _ _ (search rules) (search rules) (search rules) (search rules)) c.from_be_bytes-front.ensures in
    let byte : get_or bytes 4 0 < 256 = search rules in
    number-more bytes 4 c.from.result c.from-2.result (omega (arith, c.requires)) (omega arith)
    c.from-2.ensures (omega (arith, c.from-2.ensures, byte))
    (omega (arith, c.from.ensures, c.from_be_bytes-front.type_inv))
    (ap (bits_of 32) c.from.ensures ∙ word ∙ ap bits_of_bytes (sym (front_four bytes (omega (arith, c.requires)))))
