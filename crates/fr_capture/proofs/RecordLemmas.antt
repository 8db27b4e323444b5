-- A record, written in three steps.
use Rattle.std.proofs.Common.{◌≡◌, ℕ, ◌+◌}
use Rattle.std.proofs.Common.{List, [], ◌∷◌, ◌++◌, length, Option, Result, ap, subst, ◌∙◌, append_assoc, arith}
use Rattle.std.specs.Io.KnownBytes.{Appends}
use Rattle.std.specs.Prelude.{OnOk}
use Rattle.std.proofs.KnownBytes.{Appends-trans}
use Rattle.fr_frame.specs.declared.decode.DecodeError.{DecodeError}
use Rattle.fr_slots.specs.declared.channel.Channel.{Channel}
use Rattle.fr_capture.specs.Pcap.{captured_bytes, channel_mark, error_flags, packet, record_header, record_with}
use Rattle.fr_trace.proofs.WritingLemmas.{appends-last}

pub record_done : {A E : Type 0} (r : Result A E) (start first second new : Option (List ℕ)) (time count : ℕ)
    (channel : Channel) (error : Option DecodeError) (bytes : List ℕ)
    → count ≡ length (captured_bytes error bytes) + 2 → Appends start first (record_header time count)
    → Appends first second (channel_mark channel ∷ error_flags error ∷ [])
    → OnOk r (Appends second new (captured_bytes error bytes))
    → OnOk r (Appends start new (record_with time channel error bytes))
record_done r start first second new time count channel error bytes many header marks last =
    let two = channel_mark channel ∷ error_flags error ∷ [] in
    let captured = captured_bytes error bytes in
    let all : count ≡ length (packet channel error bytes) = omega (arith, many) in
    let text : record_header time count ++ two ++ captured ≡ record_with time channel error bytes =
    append_assoc (record_header time count) two captured ∙ ap
    (λ (n : ℕ). record_header time n ++ packet channel error bytes) all in
    subst (λ (t : List ℕ). OnOk r (Appends start new t)) text
    (appends-last r start second new (record_header time count ++ two) captured
    (Appends-trans start first second (record_header time count) two header marks) last)
