use Rattle.std.proofs.Common.{◌≡◌, ◌<◌, ◌/◌, [], get_or, length, rules, arith, refl, ◌∙◌, ap}
use Rattle.fr_frame.specs.Bits.{bits_of, bits_of_bytes}
use Rattle.fr_frame.specs.Crc.{frame_check, frame_divisor}
use Rattle.fr_frame.specs.Register.{stepped_all, divided}
use Rattle.fr_frame.proofs.LoopLemmas.{number-divided, bits-divided}
use Rattle.fr_frame.proofs.TableLemmas.{divided-next_block, block_at, length-polynomial, some_bits}
use Rattle.fr_frame.proofs.crc.crc24.Goals as goal

pub loop-sixteen-preserved : goal.loop-sixteen-preserved
loop-sixteen-preserved c =
    let bytes = c.args.bytes.now in
    let i = c.loop-sixteen.sixteen-index in
    let within : i < length bytes / 16 = omega (arith, c.loop-sixteen-test.true, c.as_chunks.ensures.front_len) in
    let block = ap (λ blocks. get_or blocks i []) c.as_chunks.ensures.front ∙ block_at 16
    (length bytes / 16) i bytes [] within in
    record {
      fits = c.step_sixteen-register.ensures.fits;
      rest = divided-next_block 16 _ _ _ bytes i _ (length-polynomial 6122955 c.loop-sixteen.register)
          (some_bits c.loop-sixteen.register) (c.step_sixteen-register.ensures.bits ∙ ap
          (λ b. stepped_all (bits_of 24 6122955) (bits_of 24 c.loop-sixteen.register) (bits_of_bytes b)) block)
          c.loop-sixteen.invariant.rest;
    }

pub returns-clause-value : goal.returns-clause-value
returns-clause-value c =
    let left : divided frame_divisor (bits_of 24 c.step_rest.result) [] ≡ frame_check c.args.channel c.args.bytes.now =
    search rules in
    number-divided _ 24 _ _ _ c.step_rest.ensures.fits refl left

pub returns-clause-bits : goal.returns-clause-bits
returns-clause-bits c =
    let left : divided frame_divisor (bits_of 24 c.step_rest.result) [] ≡ frame_check c.args.channel c.args.bytes.now =
    search rules in
    bits-divided _ 24 _ _ _ refl left
