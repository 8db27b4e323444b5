use Rattle.std.proofs.Common.{lit≤, lit<}
use Rattle.std.proofs.lemmas.Nat.{xor_lt}
use Rattle.fr_frame.proofs.BitLemmas.{stepped-with_feedback, stepped-without, shifted_fits}
use Rattle.fr_frame.proofs.crc.step_header.Goals as goal

pub returns-then-feedback-clause-fits : goal.returns-then-feedback-clause-fits
returns-then-feedback-clause-fits c = xor_lt 11 _ 901 (shifted_fits 10 16 c.args.register (lit≤ tt)) (lit< tt)

pub returns-then-feedback-clause-bits : goal.returns-then-feedback-clause-bits
returns-then-feedback-clause-bits c = stepped-with_feedback 10 16 901 c.args.register c.args.bit
    (lit≤ tt) c.requires c.if-feedback.true

pub returns-else-feedback-clause-bits : goal.returns-else-feedback-clause-bits
returns-else-feedback-clause-bits c = stepped-without 10 16 901 c.args.register c.args.bit
    (lit≤ tt) c.requires c.if-feedback.false
