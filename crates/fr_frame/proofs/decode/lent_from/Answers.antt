use Rattle.std.proofs.Common.{arith, refl, sym, ◌∙◌}
use Rattle.fr_frame.proofs.ReadingLemmas.{refused_length, refused_header, refused_frame, not_refused, long_enough}
use Rattle.fr_frame.proofs.ReadingLemmas.{header_read, length_test, length_test_fails, header_test, header_test_fails}
use Rattle.fr_frame.proofs.ReadingLemmas.{frame_test, frame_test_fails, last_part, fields_read}
use Rattle.fr_frame.proofs.decode.lent_from.Goals as goal

pub returns-then-bytes-words-clause-refused : goal.returns-then-bytes-words-clause-refused
returns-then-bytes-words-clause-refused c =
    let read = header_read _ _ (omega arith) c.number_from-header.ensures.bits in
    sym (refused_length _ _ (long_enough _ c.if-bytes-lt8.false) (length_test_fails _ _ read c.if-bytes-words.true))

pub returns-then-stored-crc_of_header-clause-refused :
    goal.returns-then-stored-crc_of_header-clause-refused
returns-then-stored-crc_of_header-clause-refused c =
    let read = header_read _ _ (omega arith) c.number_from-header.ensures.bits in
    sym (refused_header _ _ (long_enough _ c.if-bytes-lt8.false) (length_test _ _ read c.if-bytes-words.false)
    (header_test_fails _ _ _ read c.crc_of_header.ensures.value c.if-stored-crc_of_header.true))

pub returns-then-last-from-clause-refused : goal.returns-then-last-from-clause-refused
returns-then-last-from-clause-refused c =
    let read = header_read _ _ (omega arith) c.number_from-header.ensures.bits in
    sym (refused_frame _ _ (long_enough _ c.if-bytes-lt8.false) (length_test _ _ read c.if-bytes-words.false)
    (header_test _ _ _ read c.crc_of_header.ensures.value c.if-stored-crc_of_header.false)
    (frame_test_fails _ _ _ _ _ (last_part c.args.bytes.now) c.number_from-last.ensures.bits
    c.number_from-last.ensures.fits (c.from.ensures ∙ c.check_of.ensures) c.if-last-from.true))

pub returns-clause-refused : goal.returns-clause-refused
returns-clause-refused c =
    let read = header_read _ _ (omega arith) c.number_from-header.ensures.bits in
    sym (not_refused _ _ (long_enough _ c.if-bytes-lt8.false) (length_test _ _ read c.if-bytes-words.false)
    (header_test _ _ _ read c.crc_of_header.ensures.value c.if-stored-crc_of_header.false)
    (frame_test _ _ _ _ _ (last_part c.args.bytes.now) c.number_from-last.ensures.bits c.number_from-last.ensures.fits
    (c.from.ensures ∙ c.check_of.ensures) c.if-last-from.false))

pub returns-clause-read : goal.returns-clause-read
returns-clause-read c =
    let read = header_read _ _ (omega arith) c.number_from-header.ensures.bits in
    fields_read c.number_from-header.result _ _ c.args.bytes.now c.if-bytes-lt8.false read refl c.from_bits.ensures
