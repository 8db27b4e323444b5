use Rattle.fr_lines.proofs.FirstLemmas.{first_seen}
use Rattle.fr_lines.proofs.parts.next_seen_into.Goals as goal

pub returns-in-Some-Ok-clause-seen : goal.returns-in-Some-Ok-clause-seen
returns-in-Some-Ok-clause-seen c =
    first_seen c.args.words.now c.next_bytes_or.new.bytes.items
    (rw c.in-Some-Ok.field-0-is at c.in-Some-Ok.ensures.bytes)

pub returns-in-Some-Ok-next_bytes_or : goal.returns-in-Some-Ok-next_bytes_or
returns-in-Some-Ok-next_bytes_or c = record {
  seen =
      first_seen c.args.words.now c.next_bytes_or-2.new.bytes.items
      (rw c.in-Some-Ok-next_bytes_or.field-0-is at c.in-Some-Ok-next_bytes_or.ensures.bytes);
  left = c.in-Some-Ok-next_bytes_or.ensures.left;
}
