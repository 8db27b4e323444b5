use Rattle.std.proofs.Common.{◌≡◌, ◌+◌, ◌∷◌, [], ◌∙◌, List, ℕ, Option, length, ap, ap₂, subst}
use Rattle.std.specs.Io.KnownBytes.{Appends}
use Rattle.std.specs.Prelude.{OnOk}
use Rattle.fr_frame.specs.declared.decode.DecodeError.{DecodeError}
use Rattle.fr_frame.specs.Refusal.{refusal}
use Rattle.fr_capture.specs.Pcap.{captured_bytes, channel_mark, error_flags, record_with}
use Rattle.fr_capture.proofs.RecordLemmas.{record_done}
use Rattle.fr_capture.proofs.pcap.write_record.Goals as goal

pub returns : goal.returns
returns g c =
    let channel = c.args.channel in
    let bytes = c.args.bytes.now in
    let time = c.args.time in
    let start = g.W.Write.contents c.args.writer.now in
    let first = g.W.Write.contents c.write_record_header.new.writer in
    let second = g.W.Write.contents c.write_all.new.self in
    let new = g.W.Write.contents c.write_all-2.new.self in
    let r = c.write_all-2.result in
    let error = c.err-error.result in
    let same : error ≡ refusal channel bytes = c.err-error.ensures.value ∙ c.decode_lent.ensures.refused in
    let captured : c.captured_bytes-captured.result.now ≡ captured_bytes error bytes =
    c.captured_bytes-captured.ensures in
    let many : length c.captured_bytes-captured.result.now + 2 ≡ length (captured_bytes error bytes) + 2 =
    ap (λ (l : List ℕ). length l + 2) captured in
    let two = λ (a b : ℕ). a ∷ b ∷ [] in
    let marks : Appends first second (channel_mark channel ∷ error_flags error ∷ []) =
    subst (λ (t : List ℕ). Appends first second t) (ap₂ two c.channel_mark.ensures c.error_flags.ensures)
    c.in_ok-write_all.ensures.bytes in
    let last : OnOk r (Appends second new (captured_bytes error bytes)) =
    subst (λ (t : List ℕ). OnOk r (Appends second new t)) captured c.write_all-2.ensures.bytes in
    let done = record_done r start first second new time (length c.captured_bytes-captured.result.now + 2) channel error
    bytes many c.in_ok-write_record_header.ensures marks last in
    subst (λ (e : Option DecodeError). OnOk r (Appends start new (record_with time channel e bytes))) same done
