use Rattle.std.proofs.Common.{◌≡◌, refl}
use Rattle.fr_frame.specs.Encoding.{checked_bytes, encoded}
use Rattle.fr_frame.specs.Fields.{IsFrame}
use Rattle.fr_frame.proofs.EncodingLemmas.{encoded_is_canonical, encoded_is_decoded}
use Rattle.fr_frame.proofs.encode.encode.Goals as goal

checked : (c : goal.After-append-3) → c.append-2.new.bytes.items ≡ checked_bytes c.args.frame.now
checked c =
    rw (
      c.append-2.ensures,
      c.append.ensures,
      c.new-bytes.ensures,
      c.to_be_bytes.ensures,
      c.header_number.ensures.value,
      c.as_slice.ensures.value,
      ← c.frame.view_is,
    ) refl

written : (c : goal.After-append-3) → c.append-3.new.bytes.items ≡ encoded c.args.frame.now c.args.channel
unfolding encoded
written c = rw (
  c.append-3.ensures,
  c.to_be_bytes-2.ensures,
  c.crc24-check.ensures.value,
  c.as_slice-2.ensures.value,
  checked c,
) refl

is_frame : (c : goal.After-append-3) → IsFrame c.args.frame.now
is_frame c = record {
  id_fits = rw (← c.frame.view_is) c.frame.invariant;
  cycle_fits = c.header_number.ensures.cycle_fits;
  payload_fits = rw (← c.frame.view_is) c.as_slice.ensures.is_payload;
}

pub returns-clause-value : goal.returns-clause-value
returns-clause-value c = written c

pub returns-clause-canonical : goal.returns-clause-canonical
returns-clause-canonical c = rw (written c) (encoded_is_canonical c.args.frame.now c.args.channel (is_frame c))

pub returns-clause-round_trip : goal.returns-clause-round_trip
returns-clause-round_trip c = rw (written c) (encoded_is_decoded c.args.frame.now c.args.channel (is_frame c))
