use Rattle.std.proofs.Common.{sym, ◌∙◌, lit<}
use Rattle.std.proofs.lemmas.List.{drop_all}
use Rattle.fr_frame.proofs.BitLemmas.{length-bits_of}
use Rattle.fr_frame.proofs.LoopLemmas.{divided-next, number-divided}
use Rattle.fr_frame.proofs.crc.crc11.Goals as goal

pub loop-bit-preserved : goal.loop-bit-preserved
loop-bit-preserved c = record {
  fits = c.step_header-register.ensures.fits;
  rest = divided-next _ _ _ _ _ _ (length-bits_of 11 901 ∙ sym (length-bits_of 11 c.loop-bit.register))
      (rw (length-bits_of 11 c.loop-bit.register) (lit< tt)) c.loop-bit-test.true c.step_header-register.ensures.bits
      c.loop-bit.invariant.rest;
}

pub returns-clause-value : goal.returns-clause-value
returns-clause-value c = number-divided _ 11 _ _ _ c.loop-bit.invariant.fits
    (drop_all _ _ c.loop-bit-test.false) c.loop-bit.invariant.rest
