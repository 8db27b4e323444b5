-- The frame that a record spells has a cycle count, and a payload of whole words.
use Rattle.std.proofs.Common.{◌≡◌, ℕ, ◌+◌, ◌*◌, ◌<◌, ◌≤◌, ◌^◌, Bool, true, false, cond, List, refl, sym, ap, subst, ◌∙◌}
use Rattle.std.proofs.Common.{arith, length, take, drop}
use Rattle.std.proofs.lemmas.Bool.{ltb-false, eqb-true}
use Rattle.std.proofs.lemmas.List.{length-take, length-drop}
use Rattle.std.specs.Prelude.{Option, Some, None, Result, Ok, Err, nat_lt, ◌==◌}
use Rattle.fr_frame.proofs.NumberLemmas.{number_of-fits, length-bits_of_bytes}
use Rattle.fr_frame.specs.Bits.{bits_of_bytes, number_of}
use Rattle.fr_frame.specs.Fields.{Fields}
use Rattle.fr_frame.specs.Header.{number_at}
use Rattle.fr_logged.specs.declared.finding.Finding.{Finding}
use Rattle.fr_logged.specs.declared.finding.Name.{Name}
use Rattle.fr_logged.specs.declared.finding.Name.TheVariants as name
use Rattle.fr_logged.specs.declared.frame.Header.{Header}
use Rattle.fr_logged.specs.Findings.{with_numbers}
use Rattle.fr_logged.specs.Headers.{header_in, right_crc}
use Rattle.fr_logged.specs.Logged.{spelled, spelled_in, frame_by, fields_by, length_finding, header_finding}
use Rattle.fr_logged.specs.Logged.{frame_finding, or_else, unless_logged, logged_in, cut}
use Rattle.fr_slots.specs.declared.channel.Channel.{Channel}

pub record IsSized (f : Fields) : Type 0 where
  pub count_fits : f.cycle < 64
  pub words : ℕ
  pub even : length f.payload ≡ 2 * words

few_bits : (place count : ℕ) (bits : List Bool)
    → number_of (take count (drop place bits)) < 2 ^ length (take count (drop place bits))
few_bits place count bits = number_of-fits (take count (drop place bits))

count_below : (bytes : List ℕ) → 5 ≤ length bytes → number_at 34 6 bytes < 64
count_below bytes long =
    let bits = bits_of_bytes (take 5 bytes) in
    let len : length bits ≡ 40 = omega (arith, length-bits_of_bytes (take 5 bytes), length-take 5 bytes, long) in
    let six : length (take 6 (drop 34 bits)) ≡ 6 =
    omega (arith, length-take 6 (drop 34 bits), length-drop 34 bits, len) in
    subst (λ (n : ℕ). number_at 34 6 bytes < 2 ^ n) six (few_bits 34 6 bits)

or_ok : (o : Option Finding) (r : Result Fields Finding) (f : Fields) → or_else o r ≡ Ok f → (o ≡ None) × (r ≡ Ok f)
or_ok None r f e = (refl, e)
or_ok (Some x) r f e = absurd (let none : ⊥ = cc in none)

unless_ok : (o : Option Name) (r : Result Fields Finding) (f : Fields) → unless_logged o r ≡ Ok f → r ≡ Ok f
unless_ok None r f e = e
unless_ok (Some x) r f e = absurd (let none : ⊥ = cc in none)

rest_ok : (b : Bool) (x : Finding) (r : Result Fields Finding) (f : Fields) → cond b (Err x) r ≡ Ok f
    → (b ≡ false) × (r ≡ Ok f)
rest_ok true x r f e = absurd (let none : ⊥ = cc in none)
rest_ok false x r f e = (refl, e)

same_fields : (f g : Fields) → ◌≡◌ {A = Result Fields Finding} (Ok f) (Ok g) → f ≡ g
same_fields f g e = cc

length_ok : (due there : ℕ) → length_finding due there ≡ None → due ≤ there
length_ok due there e = by (there == due) refl (there == due + 3) refl e
  where
    by : (a : Bool) → (there == due) ≡ a → (b : Bool) → (there == due + 3) ≡ b
        → cond a None (cond b None (Some (with_numbers name.Length due there))) ≡ None → due ≤ there
    by true is b other g = omega (arith, eqb-true there due is)
    by false is true other g = omega (arith, eqb-true there (due + 3) other)
    by false is false other g = absurd (let none : ⊥ = cc in none)

sized_by : (channel : Channel) (bytes : List ℕ) (f : Fields) → 5 ≤ length bytes
    → frame_by channel (header_in bytes) bytes ≡ Ok f → IsSized f
sized_by channel bytes f long e =
    let h : Header = header_in bytes in
    let by_length = or_ok (length_finding (7 + 2 * h.words) (length bytes + 2))
    (or_else (header_finding (right_crc bytes) h.crc)
    (or_else (frame_finding channel h.words bytes) (Ok (fields_by h bytes)))) f e in
    let by_header = or_ok (header_finding (right_crc bytes) h.crc)
    (or_else (frame_finding channel h.words bytes) (Ok (fields_by h bytes))) f by_length.1 in
    let by_frame = or_ok (frame_finding channel h.words bytes) (Ok (fields_by h bytes)) f by_header.1 in
    let is : fields_by h bytes ≡ f = same_fields (fields_by h bytes) f by_frame.1 in
    let there : 7 + 2 * h.words ≤ length bytes + 2 =
    length_ok (7 + 2 * h.words) (length bytes + 2) by_length.0 in
    let size : length (take (2 * h.words) (drop 5 bytes)) ≡ 2 * h.words =
    omega (arith, length-take (2 * h.words) (drop 5 bytes), length-drop 5 bytes, there) in
    record {
      count_fits = subst (λ (g : Fields). g.cycle < 64) is (count_below bytes long);
      words = h.words;
      even = ap (λ (g : Fields). length g.payload) (sym is) ∙ size;
    }

pub spelled_sized : (channel : Channel) (original : ℕ) (bytes : List ℕ) (f : Fields)
    → spelled channel original bytes ≡ Ok f → IsSized f
spelled_sized channel original bytes f e =
    let whole = rest_ok (nat_lt (length bytes) original) (cut original (length bytes))
    (unless_logged (logged_in bytes) (spelled_in channel bytes)) f e in
    let unmarked = unless_ok (logged_in bytes) (spelled_in channel bytes) f whole.1 in
    let long = rest_ok (nat_lt (length bytes) 7) _ (frame_by channel (header_in (drop 2 bytes)) (drop 2 bytes)) f
    unmarked in
    let seven = ltb-false (length bytes) 7 long.0 in
    sized_by channel (drop 2 bytes) f (omega (arith, seven, length-drop 2 bytes)) long.1
