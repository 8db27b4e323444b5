-- Bytes spell at most one frame, and bytes that spell one aren't refused.
use Rattle.std.proofs.Common.{◌≡◌, ℕ, ◌+◌, ◌-◌, ◌/◌, ◌^◌, ◌<◌, Bool, List, ◌∷◌, ◌++◌, length, take, drop, None, sym, ap}
use Rattle.std.proofs.Common.{◌∙◌, arith, lit<, length-append}
use Rattle.std.proofs.lemmas.List.{append_assoc, take_at, drop_at}
use Rattle.std.proofs.Math.Nat.{mod-eq_of_lt}
use Rattle.std.proofs.lemmas.Bool.{le-ltb, eq-eqb}
use Rattle.fr_slots.specs.declared.channel.Channel.{Channel}
use Rattle.fr_frame.specs.Bits.{bits_of, number_of, bits_of_bytes}
use Rattle.fr_frame.specs.Crc.{header_check, frame_check}
use Rattle.fr_frame.specs.Fields.{Fields}
use Rattle.fr_frame.specs.Header.{bits_at, number_at}
use Rattle.fr_frame.specs.Refusal.{refusal}
use Rattle.fr_frame.specs.Spelling.{covered, header, Spells}
use Rattle.fr_frame.proofs.BitLemmas.{length-bits_of, number_of-bits_of}
use Rattle.fr_frame.proofs.LoopLemmas.{length-divided}
use Rattle.fr_frame.proofs.ReadingLemmas.{not_refused}

pub length-header_check : (bits : List Bool) → length (header_check bits) ≡ 11
length-header_check bits =
    length-divided (bits_of 11 0x385) (bits_of 11 0x01A) bits (length-bits_of 11 0x385 ∙ sym (length-bits_of 11 0x01A))
    (rw (length-bits_of 11 0x01A) (lit< tt)) ∙ length-bits_of 11 0x01A

pub length-covered : (f : Fields) → length (covered f) ≡ 20
unfolding covered
length-covered f = omega (
  arith,
  length-append (bits_of 11 f.id) (bits_of 7 (length f.payload / 2)),
  length-bits_of 11 f.id,
  length-bits_of 7 (length f.payload / 2),
)

-- the bytes before the payload, as `take` gives them
first-is : (f : Fields) (channel : Channel) (bytes : List ℕ) (s : Spells f channel bytes) → take 5 bytes ≡ s.first
first-is f channel bytes s = ap (take 5) (s.parts ∙ append_assoc s.first f.payload s.last) ∙ take_at s.first
    (f.payload ++ s.last) 5 s.first_len

length-is : (f : Fields) (channel : Channel) (bytes : List ℕ) (s : Spells f channel bytes)
    → length bytes ≡ 8 + length f.payload
length-is f channel bytes s = ap length s.parts ∙ omega (
  arith,
  length-append (s.first ++ f.payload) s.last,
  length-append s.first f.payload,
  s.first_len,
  s.last_len,
)

bits-is : (f : Fields) (channel : Channel) (bytes : List ℕ) (s : Spells f channel bytes)
    → bits_of_bytes (take 5 bytes) ≡ header s.reserved f
bits-is f channel bytes s = ap bits_of_bytes (first-is f channel bytes s) ∙ s.header_is

payload-is : (f : Fields) (channel : Channel) (bytes : List ℕ) (s : Spells f channel bytes)
    → take (length bytes - 8) (drop 5 bytes) ≡ f.payload
payload-is f channel bytes s =
    ap (take (length bytes - 8)) (ap (drop 5) (s.parts ∙ append_assoc s.first f.payload s.last) ∙ drop_at s.first
    (f.payload ++ s.last) 5 s.first_len)
    ∙ take_at f.payload s.last (length bytes - 8) (omega (arith, length-is f channel bytes s))

-- ---- the parts of a header

after_flags : (r : Bool) (f : Fields) → drop 3 (header r f) ≡ covered f ++
    (header_check (covered f) ++ bits_of 6 f.cycle)
unfolding header
after_flags r f = append_assoc (covered f) (header_check (covered f)) (bits_of 6 f.cycle)

covered-at : (r : Bool) (f : Fields) → take 20 (drop 3 (header r f)) ≡ covered f
covered-at r f = ap (take 20) (after_flags r f) ∙ take_at (covered f) (header_check (covered f) ++ bits_of 6 f.cycle) 20
    (length-covered f)

check-at : (r : Bool) (f : Fields) → take 11 (drop 23 (header r f)) ≡ header_check (covered f)
unfolding header
check-at r f =
    ap (λ (t : List Bool). take 11 (drop 20 t)) (append_assoc (covered f) (header_check (covered f))
    (bits_of 6 f.cycle))
    ∙ ap (take 11) (drop_at (covered f) (header_check (covered f) ++ bits_of 6 f.cycle) 20 (length-covered f))
    ∙ take_at (header_check (covered f)) (bits_of 6 f.cycle) 11 (length-header_check (covered f))

-- the frame ID and the bits after it
tail_of : Fields → List Bool
tail_of f = bits_of 7 (length f.payload / 2) ++ (header_check (covered f) ++ bits_of 6 f.cycle)

header-is : (r : Bool) (f : Fields) → header r f ≡ r ∷ f.preamble ∷ f.has_data ∷ f.sync ∷ f.startup ∷
    (bits_of 11 f.id ++ tail_of f)
unfolding header covered tail_of
header-is r f =
    let check = header_check (covered f) ++ bits_of 6 f.cycle in
    ap (λ (t : List Bool). r ∷ f.preamble ∷ f.has_data ∷ t) (append_assoc (covered f) (header_check (covered f))
    (bits_of 6 f.cycle))
    ∙ ap (λ (t : List Bool). r ∷ f.preamble ∷ f.has_data ∷ f.sync ∷ f.startup ∷ t)
    (append_assoc (bits_of 11 f.id) (bits_of 7 (length f.payload / 2)) check)

words-at : (r : Bool) (f : Fields) → take 7 (drop 16 (header r f)) ≡ bits_of 7 (length f.payload / 2)
unfolding tail_of
words-at r f =
    ap (λ (t : List Bool). take 7 (drop 16 t)) (header-is r f)
    ∙ ap (take 7) (drop_at (bits_of 11 f.id) (tail_of f) 11 (length-bits_of 11 f.id))
    ∙ take_at (bits_of 7 (length f.payload / 2)) (header_check (covered f) ++ bits_of 6 f.cycle) 7
    (length-bits_of 7 (length f.payload / 2))

cycle-at : (r : Bool) (f : Fields) → drop 34 (header r f) ≡ bits_of 6 f.cycle
unfolding header
cycle-at r f =
    drop_at (covered f ++ header_check (covered f)) (bits_of 6 f.cycle) 31
    (omega (
      arith,
      length-append (covered f) (header_check (covered f)),
      length-covered f,
      length-header_check (covered f),
    ))

id-at : (r : Bool) (f : Fields) → take 11 (drop 5 (header r f)) ≡ bits_of 11 f.id
id-at r f = ap (λ (t : List Bool). take 11 (drop 5 t)) (header-is r f) ∙ take_at (bits_of 11 f.id) (tail_of f) 11
    (length-bits_of 11 f.id)

-- numbers that have the same bits
same_number : (w a b : ℕ) → a < 2 ^ w → b < 2 ^ w → bits_of w a ≡ bits_of w b → a ≡ b
same_number w a b below_a below_b e = sym (mod-eq_of_lt below_a) ∙ sym (number_of-bits_of w a) ∙ ap number_of e
    ∙ number_of-bits_of w b ∙ mod-eq_of_lt below_b

-- ---- bytes that spell a frame aren't refused

pub spelled_is_granted : (f : Fields) (channel : Channel) (bytes : List ℕ) → Spells f channel bytes
    → refusal channel bytes ≡ None
spelled_is_granted f channel bytes s =
    let len : length bytes ≡ 8 + length f.payload = length-is f channel bytes s in
    let bits : bits_of_bytes (take 5 bytes) ≡ header s.reserved f = bits-is f channel bytes s in
    let words : number_at 16 7 bytes ≡ length f.payload / 2 =
    ap (λ (t : List Bool). number_of (take 7 (drop 16 t))) bits ∙ ap number_of (words-at s.reserved f)
    ∙ number_of-bits_of 7 (length f.payload / 2)
    ∙ mod-eq_of_lt (omega (arith, s.payload_fits.short)) in
    let covered_bits : bits_at 3 20 bytes ≡ covered f = ap (λ (t : List Bool). take 20 (drop 3 t)) bits ∙ covered-at
    s.reserved f in
    let stored : number_at 23 11 bytes ≡ number_of (header_check (covered f)) =
    ap (λ (t : List Bool). number_of (take 11 (drop 23 t))) bits ∙ ap number_of (check-at s.reserved f) in
    let front : take (length bytes - 3) bytes ≡ s.first ++ f.payload =
    ap (take (length bytes - 3)) s.parts ∙ take_at (s.first ++ f.payload) s.last (length bytes - 3)
    (omega (arith, len, length-append s.first f.payload, s.first_len)) in
    let back : drop (length bytes - 3) bytes ≡ s.last =
    ap (drop (length bytes - 3)) s.parts ∙ drop_at (s.first ++ f.payload) s.last (length bytes - 3)
    (omega (arith, len, length-append s.first f.payload, s.first_len)) in
    not_refused channel bytes (le-ltb _ _ (omega arith))
    (eq-eqb _ _ (omega (arith, len, words, s.payload_fits.even)))
    (eq-eqb _ _ (stored ∙ ap (λ (t : List Bool). number_of (header_check t)) (sym covered_bits)))
    (eq-eqb _ _ (ap number_of (ap bits_of_bytes back ∙ s.check_is ∙ ap (frame_check channel) (sym front))))

-- ---- bytes spell at most one frame

pub spelled_once : (f g : Fields) (channel : Channel) (bytes : List ℕ) → Spells f channel bytes → Spells g channel bytes
    → f ≡ g
spelled_once f g channel bytes s t =
    let e : header s.reserved f ≡ header t.reserved g = sym (bits-is f channel bytes s) ∙ bits-is g channel bytes t in
    let flags : s.reserved ∷ f.preamble ∷ f.has_data ∷ f.sync ∷ f.startup ∷ (bits_of 11 f.id ++ tail_of f)
    ≡ t.reserved ∷ g.preamble ∷ g.has_data ∷ g.sync ∷ g.startup ∷ (bits_of 11 g.id ++ tail_of g) =
    sym (header-is s.reserved f) ∙ e ∙ header-is t.reserved g in
    let preamble_same : f.preamble ≡ g.preamble = cc in
    let has_data_same : f.has_data ≡ g.has_data = cc in
    let sync_same : f.sync ≡ g.sync = cc in
    let startup_same : f.startup ≡ g.startup = cc in
    let id_same : f.id ≡ g.id = same_number 11 f.id g.id s.id_fits t.id_fits
    (sym (id-at s.reserved f) ∙ ap (λ (h : List Bool). take 11 (drop 5 h)) e ∙ id-at t.reserved g) in
    let cycle_same : f.cycle ≡ g.cycle = same_number 6 f.cycle g.cycle s.cycle_fits t.cycle_fits
    (sym (cycle-at s.reserved f) ∙ ap (drop 34) e ∙ cycle-at t.reserved g) in
    let payload_same : f.payload ≡ g.payload = sym (payload-is f channel bytes s) ∙ payload-is g channel bytes t in
    λ i. record {
      preamble = preamble_same i;
      has_data = has_data_same i;
      sync = sync_same i;
      startup = startup_same i;
      id = id_same i;
      payload = payload_same i;
      cycle = cycle_same i;
    }
