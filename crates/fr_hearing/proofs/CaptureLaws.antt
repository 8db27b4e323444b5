-- The record of a frame in a capture spells the frame.
use Rattle.std.proofs.Common.{◌≡◌, ℕ, ◌+◌, ◌-◌, ◌*◌, ◌≤◌, Bool, true, false, cond, not, List, length, take, drop, refl}
use Rattle.std.proofs.Common.{sym, ap, ◌∙◌, arith, Option, Some, None, length-take}
use Rattle.std.proofs.lemmas.Bool.{cond-true, cond-false, eqb-true, eq-eqb, le-ltb, ltb-false}
use Rattle.std.proofs.lemmas.List.{take-take, drop-take}
use Rattle.std.specs.Prelude.{Ok, Err, nat_lt, ◌==◌, is_some}
use Rattle.fr_capture.specs.Pcap.{packet, link_type}
use Rattle.fr_frame.proofs.EncodingLemmas.{encoded_is_decoded}
use Rattle.fr_frame.specs.Bits.{bits_of_bytes, number_of}
use Rattle.fr_frame.specs.Crc.{header_check, frame_check}
use Rattle.fr_frame.specs.declared.decode.DecodeError.{DecodeError}
use Rattle.fr_frame.specs.declared.decode.DecodeError.TheVariants.{TooShort, LengthMismatch, HeaderCrc, FrameCrc}
use Rattle.fr_frame.specs.Decoding.{decoded, fields_of, payload_of}
use Rattle.fr_frame.specs.Encoding.{encoded}
use Rattle.fr_frame.specs.Fields.{Fields}
use Rattle.fr_frame.specs.Header.{bits_at, number_at}
use Rattle.fr_frame.specs.Refusal.{refusal}
use Rattle.fr_hearing.specs.Captured.{ReadsBack}
use Rattle.fr_logged.specs.declared.finding.Finding.{Finding}
use Rattle.fr_logged.specs.declared.finding.Name.TheVariants as name
use Rattle.fr_logged.specs.declared.record.Kind.TheVariants.{Frame}
use Rattle.fr_logged.specs.Findings.{with_numbers}
use Rattle.fr_logged.specs.Headers.{header_in, right_crc}
use Rattle.fr_logged.specs.Logged.{kind_of, spelled, spelled_in, unless_logged, logged_in, logged_by, frame_by, or_else}
use Rattle.fr_logged.specs.Logged.{length_finding, header_finding, frame_finding, trailer_finding, fields_by, cut}
use Rattle.fr_logged.specs.Logged.{right_trailer, trailer_of}
use Rattle.fr_slots.specs.declared.channel.Channel.{Channel}
use Rattle.fr_slots.specs.declared.channel.Channel.TheVariants.{A, B}

-- ---- bytes that a decoder takes

record IsTaken (bytes : List ℕ) : Type 0 where
  long : nat_lt (length bytes) 8 ≡ false
  whole : (length bytes == 8 + 2 * number_at 16 7 bytes) ≡ true
  checked : (number_at 23 11 bytes == number_of (header_check (bits_at 3 20 bytes))) ≡ true

record Passes (a b c : Bool) : Type 0 where
  first : a ≡ false
  second : b ≡ true
  third : c ≡ true

passes : (a b c d : Bool)
    → cond a (Some TooShort) (cond (not b) (Some LengthMismatch) (cond (not c) (Some HeaderCrc)
    (cond (not d) (Some FrameCrc) None))) ≡ None → Passes a b c
passes true b c d e = absurd (let none : ⊥ = cc in none)
passes false false c d e = absurd (let none : ⊥ = cc in none)
passes false true false d e = absurd (let none : ⊥ = cc in none)
passes false true true d e = record { first = refl; second = refl; third = refl }

taken : (channel : Channel) (bytes : List ℕ) → refusal channel bytes ≡ None → IsTaken bytes
taken channel bytes e =
    let p = passes (nat_lt (length bytes) 8) (length bytes == 8 + 2 * number_at 16 7 bytes)
    (number_at 23 11 bytes == number_of (header_check (bits_at 3 20 bytes)))
    (number_of (bits_of_bytes (drop (length bytes - 3) bytes)) == number_of
    (frame_check channel (take (length bytes - 3) bytes))) e in
    record { long = p.first; whole = p.second; checked = p.third }

pub record IsRead (channel : Channel) (bytes : List ℕ) (f : Fields) : Type 0 where
  pub none : refusal channel bytes ≡ None
  pub fields_are : fields_of bytes ≡ f

pub read : (channel : Channel) (bytes : List ℕ) (f : Fields) → decoded channel bytes ≡ Some f → IsRead channel bytes f
unfolding decoded
read channel bytes f e = by (refusal channel bytes) refl e
  where
    by : (o : Option DecodeError) → refusal channel bytes ≡ o → cond (is_some o) None (Some (fields_of bytes)) ≡ Some f
        → IsRead channel bytes f
    by None is g = record { none = is; fields_are = cc }
    by (Some error) is g = absurd (let none : ⊥ = cc in none)

-- ---- header and payload without the trailer

module _ (bytes : List ℕ) (is : IsTaken bytes) where
  long_enough : 8 ≤ length bytes
  long_enough = ltb-false (length bytes) 8 is.long

  length_is : length bytes ≡ 8 + 2 * number_at 16 7 bytes
  length_is = eqb-true (length bytes) (8 + 2 * number_at 16 7 bytes) is.whole

  front : List ℕ
  front = take (length bytes - 3) bytes

  length_front : length (take (length bytes - 3) bytes) ≡ length bytes - 3
  length_front = omega (arith, length-take (length bytes - 3) bytes)

  same_five : take 5 (take (length bytes - 3) bytes) ≡ take 5 bytes
  same_five = let below : 5 ≤ length bytes - 3 = omega (arith, long_enough) in
      take-take 5 (length bytes - 3) bytes below

  same_number : (place count : ℕ) → number_at place count (take (length bytes - 3) bytes) ≡ number_at place count bytes
  same_number place count =
      ap (λ (l : List ℕ). number_of (take count (drop place (bits_of_bytes l)))) same_five

  same_crc : right_crc (take (length bytes - 3) bytes) ≡ right_crc bytes
  same_crc = ap (λ (l : List ℕ). number_of (header_check (take 20 (drop 3 (bits_of_bytes l))))) same_five

  payload_is : take (2 * number_at 16 7 bytes) (drop 5 (take (length bytes - 3) bytes)) ≡ payload_of bytes
  payload_is =
      let words : 2 * number_at 16 7 bytes ≡ length bytes - 8 = omega (arith, length_is) in
      let sum : length bytes - 3 ≡ 5 + (length bytes - 8) = omega (arith, long_enough) in
      let rest : drop 5 (take (length bytes - 3) bytes) ≡ payload_of bytes =
      ap (λ (n : ℕ). drop 5 (take n bytes)) sum ∙ drop-take 5 (length bytes - 8) bytes in
      ap (λ (l : List ℕ). take (2 * number_at 16 7 bytes) l) rest
      ∙ ap (λ (n : ℕ). take n (payload_of bytes)) words
      ∙ take-take (length bytes - 8) (length bytes - 8) (drop 5 bytes)
      (let le : length bytes - 8 ≤ length bytes - 8 = omega arith in le)

  fields_same : fields_by (header_in (take (length bytes - 3) bytes)) (take (length bytes - 3) bytes) ≡ fields_of bytes
  fields_same =
      ap (λ (l : List ℕ). let f : Fields = record {
        preamble = number_of (take 1 (drop 1 (bits_of_bytes l))) == 1;
        has_data = number_of (take 1 (drop 2 (bits_of_bytes l))) == 1;
        sync = number_of (take 1 (drop 3 (bits_of_bytes l))) == 1;
        startup = number_of (take 1 (drop 4 (bits_of_bytes l))) == 1;
        id = number_of (take 11 (drop 5 (bits_of_bytes l)));
        payload = take (2 * number_of (take 7 (drop 16 (bits_of_bytes l)))) (drop 5 (take (length bytes - 3) bytes));
        cycle = number_of (take 6 (drop 34 (bits_of_bytes l)));
      } in f) same_five
      ∙ ap (λ (l : List ℕ). let f : Fields = record (fields_of bytes) { payload = l } in f) payload_is

  no_length : length_finding (7 + 2 * number_at 16 7 (take (length bytes - 3) bytes))
      (length (take (length bytes - 3) bytes) + 2) ≡ None
  no_length =
      let due : length (take (length bytes - 3) bytes) + 2 ≡ 7 + 2 * number_at 16 7 (take (length bytes - 3) bytes) =
      omega (arith, length_front, length_is, same_number 16 7) in
      cond-true (length (take (length bytes - 3) bytes) + 2 == 7 + 2 * number_at 16 7 (take (length bytes - 3) bytes))
      None
      (cond (length (take (length bytes - 3) bytes) + 2 == 7 + 2 * number_at 16 7 (take (length bytes - 3) bytes) + 3)
      None
      (Some (with_numbers name.Length (7 + 2 * number_at 16 7 (take (length bytes - 3) bytes))
      (length (take (length bytes - 3) bytes) + 2))))
      (eq-eqb (length (take (length bytes - 3) bytes) + 2) (7 + 2 * number_at 16 7 (take (length bytes - 3) bytes)) due)

  no_header : header_finding (right_crc (take (length bytes - 3) bytes))
      (number_at 23 11 (take (length bytes - 3) bytes))
      ≡ None
  no_header =
      let crc : number_at 23 11 (take (length bytes - 3) bytes) ≡ right_crc (take (length bytes - 3) bytes) =
      same_number 23 11 ∙ eqb-true (number_at 23 11 bytes) (right_crc bytes) is.checked ∙ sym same_crc in
      cond-true (number_at 23 11 (take (length bytes - 3) bytes) == right_crc (take (length bytes - 3) bytes)) None _
      (eq-eqb (number_at 23 11 (take (length bytes - 3) bytes)) (right_crc (take (length bytes - 3) bytes)) crc)

  no_trailer : (channel : Channel) → frame_finding channel (number_at 16 7 (take (length bytes - 3) bytes))
      (take (length bytes - 3) bytes) ≡ None
  no_trailer channel =
      let short : length (take (length bytes - 3) bytes) ≡ 5 + 2 * number_at 16 7 (take (length bytes - 3) bytes) =
      omega (arith, length_front, length_is, same_number 16 7) in
      cond-true (length (take (length bytes - 3) bytes) == 5 + 2 * number_at 16 7 (take (length bytes - 3) bytes)) None
      (trailer_finding (right_trailer channel (take (length bytes - 3) bytes))
      (trailer_of (take (length bytes - 3) bytes)))
      (eq-eqb (length (take (length bytes - 3) bytes)) (5 + 2 * number_at 16 7 (take (length bytes - 3) bytes)) short)

  frame_is : (channel : Channel) → frame_by channel (header_in (take (length bytes - 3) bytes))
      (take (length bytes - 3) bytes) ≡ Ok (fields_of bytes)
  frame_is channel =
      let b = take (length bytes - 3) bytes in
      let h = header_in b in
      ap (λ (o : Option Finding). or_else o (or_else (header_finding (right_crc b) h.crc)
      (or_else (frame_finding channel h.words b) (Ok (fields_by h b))))) no_length
      ∙ ap (λ (o : Option Finding). or_else o (or_else (frame_finding channel h.words b) (Ok (fields_by h b))))
      no_header
      ∙ ap (λ (o : Option Finding). or_else o (Ok (fields_by h b))) (no_trailer channel)
      ∙ ap Ok fields_same

-- ---- the record

kind_is : (channel : Channel) (bytes : List ℕ) → kind_of link_type (packet channel None bytes) ≡ Frame channel
kind_is A bytes = refl
kind_is B bytes = refl

spelled_back : (channel : Channel) (bytes : List ℕ) → IsTaken bytes
    → spelled channel (length (packet channel None bytes)) (packet channel None bytes) ≡ Ok (fields_of bytes)
spelled_back channel bytes is =
    let p = packet channel None bytes in
    let b = take (length bytes - 3) bytes in
    let long : 7 ≤ length p = omega (arith, length_front bytes is, long_enough bytes is) in
    cond-false (nat_lt (length p) (length p)) (Err (cut (length p) (length p)))
    (unless_logged (logged_in p) (spelled_in channel p)) (le-ltb (length p) (length p) (omega arith))
    ∙ ap (λ (c : Bool). unless_logged (cond c None (logged_by 0)) (spelled_in channel p))
    (le-ltb (length p) 2 (omega (arith, long)))
    ∙ cond-false (nat_lt (length p) 7) _ (frame_by channel (header_in b) b) (le-ltb (length p) 7 long)
    ∙ frame_is bytes is channel

pub reads_back : ReadsBack
reads_back time channel f is_frame =
    let r = read channel (encoded f channel) f (encoded_is_decoded f channel is_frame) in
    record {
      is_frame = kind_is channel (encoded f channel);
      spells = spelled_back channel (encoded f channel) (taken channel (encoded f channel) r.none) ∙ ap Ok r.fields_are;
    }
