use Rattle.std.proofs.Common.{◌/◌, ◌%◌, ◌++◌, List, ℕ, subst}
use Rattle.std.specs.Io.KnownBytes.{Appends}
use Rattle.std.specs.Prelude.{OnOk}
use Rattle.std.proofs.KnownBytes.{Appends-trans}
use Rattle.fr_capture.specs.Pcap.{long_number, record_header}
use Rattle.fr_trace.proofs.WritingLemmas.{appends-last}
use Rattle.fr_capture.proofs.pcap.write_record_header.Goals as goal

pub returns : goal.returns
unfolding record_header
returns g c =
    let start = g.W.Write.contents c.args.writer.now in
    let first = g.W.Write.contents c.write_all.new.self in
    let second = g.W.Write.contents c.write_all-2.new.self in
    let third = g.W.Write.contents c.write_all-3.new.self in
    let new = g.W.Write.contents c.write_all-4.new.self in
    let r = c.write_all-4.result in
    let seconds = long_number (c.args.time / 1000000) in
    let rest = long_number (c.args.time % 1000000) in
    let count = long_number c.args.count in
    let one : Appends start first seconds = subst (λ (t : List ℕ). Appends start first t) c.to_le_bytes.ensures
    c.in_ok-write_all.ensures.bytes in
    let two : Appends first second rest = subst (λ (t : List ℕ). Appends first second t) c.to_le_bytes-2.ensures
    c.in_ok-write_all-2.ensures.bytes in
    let three : Appends second third count = subst (λ (t : List ℕ). Appends second third t) c.to_le_bytes-3.ensures
    c.in_ok-write_all-3.ensures.bytes in
    let four : OnOk r (Appends third new count) = subst (λ (t : List ℕ). OnOk r (Appends third new t))
    c.to_le_bytes-4.ensures c.write_all-4.ensures.bytes in
    appends-last r start third new (seconds ++ rest ++ count) count
    (Appends-trans start second third (seconds ++ rest) count
    (Appends-trans start first second seconds rest one two) three) four
