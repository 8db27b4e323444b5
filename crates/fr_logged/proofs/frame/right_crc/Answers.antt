use Rattle.std.proofs.Common.{◌≡◌, ◌+◌, ◌*◌, ◌≤◌, List, Bool, length, arith, ap, ◌∙◌}
use Rattle.fr_frame.specs.Bits.{number_of}
use Rattle.fr_frame.specs.Crc.{header_check}
use Rattle.fr_frame.specs.Fields.{Fields}
use Rattle.fr_frame.specs.Header.{number_at}
use Rattle.fr_frame.specs.Spelling.{covered}
use Rattle.fr_logged.specs.Logged.{fields_by}
use Rattle.fr_logged.specs.declared.frame.Header.{Header}
use Rattle.fr_logged.proofs.HeaderLemmas.{covered_by}
use Rattle.fr_logged.proofs.frame.right_crc.Goals as goal

pub returns : goal.returns
returns c =
    let bytes = c.args.bytes.now in
    let words : c.args.header.now.words ≡ number_at 16 7 bytes = ap (λ (h : Header). h.words) c.requires.header in
    let long : 5 + 2 * number_at 16 7 bytes ≤ length bytes = omega (arith, c.requires.whole, words) in
    c.header_crc.ensures
    ∙ ap (λ (f : Fields). number_of (header_check (covered f))) c.lent_from.ensures
    ∙ ap (λ (h : Header). number_of (header_check (covered (fields_by h bytes)))) c.requires.header
    ∙ ap (λ (t : List Bool). number_of (header_check t)) (covered_by bytes long)
