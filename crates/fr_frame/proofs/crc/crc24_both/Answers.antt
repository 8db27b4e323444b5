use Rattle.std.proofs.Common.{◌≡◌, ◌<◌, ◌/◌, [], get_or, length, rules, arith, refl, ◌∙◌, ap}
use Rattle.fr_frame.specs.Bits.{bits_of, bits_of_bytes}
use Rattle.fr_frame.specs.Crc.{frame_check, frame_divisor}
use Rattle.fr_frame.specs.Register.{stepped_all, divided}
use Rattle.fr_slots.specs.declared.channel.Channel.TheVariants.{A, B}
use Rattle.fr_frame.proofs.LoopLemmas.{number-divided}
use Rattle.fr_frame.proofs.TableLemmas.{divided-next_block, block_at, length-polynomial, some_bits}
use Rattle.fr_frame.proofs.crc.crc24_both.Goals as goal

pub loop-sixteen-preserved : goal.loop-sixteen-preserved
loop-sixteen-preserved c =
    let bytes = c.args.bytes.now in
    let i = c.loop-sixteen.sixteen-index in
    let within : i < length bytes / 16 = omega (arith, c.loop-sixteen-test.true, c.as_chunks.ensures.front_len) in
    let block = ap (λ blocks. get_or blocks i []) c.as_chunks.ensures.front ∙ block_at 16
    (length bytes / 16) i bytes [] within in
    record {
      fits_a = c.step_sixteen-on_a.ensures.fits;
      fits_b = c.step_sixteen-on_b.ensures.fits;
      rest_a = divided-next_block 16 _ _ _ bytes i _ (length-polynomial 6122955 c.loop-sixteen.on_a)
          (some_bits c.loop-sixteen.on_a) (c.step_sixteen-on_a.ensures.bits ∙ ap
          (λ b. stepped_all (bits_of 24 6122955) (bits_of 24 c.loop-sixteen.on_a) (bits_of_bytes b)) block)
          c.loop-sixteen.invariant.rest_a;
      rest_b = divided-next_block 16 _ _ _ bytes i _ (length-polynomial 6122955 c.loop-sixteen.on_b)
          (some_bits c.loop-sixteen.on_b) (c.step_sixteen-on_b.ensures.bits ∙ ap
          (λ b. stepped_all (bits_of 24 6122955) (bits_of 24 c.loop-sixteen.on_b) (bits_of_bytes b)) block)
          c.loop-sixteen.invariant.rest_b;
    }

pub returns-clause-on_a : goal.returns-clause-on_a
returns-clause-on_a c =
    let left : divided frame_divisor (bits_of 24 c.step_rest.result) [] ≡ frame_check A c.args.bytes.now =
    search rules in
    number-divided _ 24 _ _ _ c.step_rest.ensures.fits refl left

pub returns-clause-on_b : goal.returns-clause-on_b
returns-clause-on_b c =
    let left : divided frame_divisor (bits_of 24 c.step_rest-2.result) [] ≡ frame_check B c.args.bytes.now =
    search rules in
    number-divided _ 24 _ _ _ c.step_rest-2.ensures.fits refl left
