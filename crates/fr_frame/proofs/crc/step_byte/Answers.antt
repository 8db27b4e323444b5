use Rattle.std.proofs.lemmas.Nat.{xor_lt}
use Rattle.fr_frame.proofs.TableLemmas.{byte_steps, moved_fits}
use Rattle.fr_frame.proofs.crc.step_byte.Goals as goal

pub returns-clause-bits : goal.returns-clause-bits
returns-clause-bits c = byte_steps 6122955 c.args.register c.args.byte _ c.requires c.frame_entry.ensures.bits

pub returns-clause-fits : goal.returns-clause-fits
returns-clause-fits c = xor_lt 24 _ _ c.frame_entry.ensures.fits (moved_fits c.args.register)
