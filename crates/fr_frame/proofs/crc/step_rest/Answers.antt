use Rattle.std.proofs.Common.{◌<◌, ◌/◌, [], get_or, length, arith, ◌∙◌, ap, sym}
use Rattle.std.proofs.lemmas.List.{drop_all}
use Rattle.fr_frame.specs.Bits.{bits_of, bits_of_bytes}
use Rattle.fr_frame.specs.Crc.{frame_divisor}
use Rattle.fr_frame.specs.Register.{stepped_all, divided}
use Rattle.fr_frame.proofs.LoopLemmas.{divided-next_byte}
use Rattle.fr_frame.proofs.TableLemmas.{divided-next_block, block_at, length-polynomial, some_bits}
use Rattle.fr_frame.proofs.crc.step_rest.Goals as goal

pub loop-four-preserved : goal.loop-four-preserved
loop-four-preserved c =
    let bytes = c.args.bytes.now in
    let i = c.loop-four.four-index in
    let within : i < length bytes / 4 = omega (arith, c.loop-four-test.true, c.as_chunks.ensures.front_len) in
    let block = ap (λ blocks. get_or blocks i []) c.as_chunks.ensures.front ∙ block_at 4
    (length bytes / 4) i bytes [] within in
    record {
      fits = c.step_four-register.ensures.fits;
      rest = divided-next_block 4 _ _ _ bytes i _ (length-polynomial 6122955 c.loop-four.register)
          (some_bits c.loop-four.register) (c.step_four-register.ensures.bits ∙ ap
          (λ b. stepped_all (bits_of 24 6122955) (bits_of 24 c.loop-four.register) (bits_of_bytes b)) block)
          c.loop-four.invariant.rest;
    }

pub loop-byte-preserved : goal.loop-byte-preserved
loop-byte-preserved c = record {
  fits = c.step_byte-register.ensures.fits;
  rest = divided-next_byte _ _ _ _ _ _ (length-polynomial 6122955 c.loop-byte.register)
      (some_bits c.loop-byte.register) c.loop-byte-test.true c.step_byte-register.ensures.bits
      c.loop-byte.invariant.rest;
}

pub returns-clause-left : goal.returns-clause-left
returns-clause-left c =
    ap (λ bytes. divided frame_divisor (bits_of 24 c.loop-byte.register) (bits_of_bytes bytes))
    (sym (drop_all _ _ c.loop-byte-test.false)) ∙ c.loop-byte.invariant.rest
