use Rattle.std.proofs.Common.{is_ok, vec_len, vec_capacity, ◌≡◌, refl, ◌<◌, ◌≤◌, ◌+◌, ◌==◌, ◌++◌, length, take, rules}
use Rattle.std.proofs.Common.{true, false}
use Rattle.fr_recording.proofs.ReadLemmas.{part_here, part_ended, part_begun}
use Rattle.fr_recording.proofs.reader.Reader.fill.Goals as goal

pub returns-then-whole-bytes-clause-steps : goal.returns-then-whole-bytes-clause-steps
returns-then-whole-bytes-clause-steps c =
    let empty : (length c.self.inside.held.items == 0) ≡ true = search rules in
    part_here c.args.self.now c.self.inside.course c.read_on.new.self c.after_part.new.self c.self.inside.held.items
    c.args.bytes.now _ c.args.whole c.self.view_is c.requires.length
    empty c.if-whole-bytes.true c.read_on.ensures c.after_part.ensures (search rules)

pub returns-then-len-whole-clause-steps : goal.returns-then-len-whole-clause-steps
returns-then-len-whole-clause-steps c =
    let short : length c.self.inside.held.items < c.args.whole = search rules in
    let fits : c.min-count.result ≤ length c.args.bytes.now = search rules in
    let some : 0 < c.min-count.result = search rules in
    let full : (length c.extend_from_slice.new.self.items == c.args.whole) ≡ true = search rules in
    let next : c.extend_from_slice.new.self.items ≡ c.self.inside.held.items ++ take c.min-count.result c.args.bytes.now
    = search rules in
    part_ended c.args.self.now c.self.inside.course c.read_on-2.new.self c.after_part-then-len-whole.new.self
    c.self.inside.held.items c.args.bytes.now (take c.min-count.result c.args.bytes.now)
    c.extend_from_slice.new.self.items c.clear.new.self.items c.args.whole c.min-count.result c.self.view_is
    c.requires.length short fits some c.read_on-2.ensures refl next full (search rules) c.clear.ensures.items

pub returns-else-len-whole-clause-steps : goal.returns-else-len-whole-clause-steps
returns-else-len-whole-clause-steps c =
    let short : length c.self.inside.held.items + c.min-count.result ≤ c.args.whole = search rules in
    let fits : c.min-count.result ≤ length c.args.bytes.now = search rules in
    let some : 0 < c.min-count.result = search rules in
    let open_part : (length c.extend_from_slice.new.self.items == c.args.whole) ≡ false = search rules in
    let room : vec_len c.self.inside.held + length (take c.min-count.result c.args.bytes.now)
    ≤ vec_capacity c.self.inside.held = search rules in
    let ok : is_ok c.extend_from_slice.result ≡ true = search (rules, c.extend_from_slice.ensures.succeeds room) in
    let next : c.extend_from_slice.new.self.items ≡ c.self.inside.held.items ++ take c.min-count.result c.args.bytes.now
    = search rules in
    part_begun c.args.self.now c.self.inside.course c.read_on-2.new.self c.self.inside.held.items c.args.bytes.now
    (take c.min-count.result c.args.bytes.now) c.extend_from_slice.new.self.items c.args.whole c.min-count.result
    c.self.view_is c.requires.length short fits some c.read_on-2.ensures refl next open_part
