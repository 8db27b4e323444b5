-- The bytes of a text: a line that is taken at once; in version 4 the lines after `node`; and versions 1 to 3.
use Rattle.std.proofs.Common.{◌≡◌, ℕ, ◌+◌, ◌≤◌, ◌==◌, Bool, true, false, not, List, [], ◌∷◌, ◌++◌, length, Ok}
use Rattle.std.proofs.Common.{inl, inr, refl, sym, ap, subst, ◌∙◌, append_assoc, arith}
use Rattle.std.proofs.lemmas.Bool.{and_parts, cases_Bool}
use Rattle.std.proofs.lemmas.Bool.Decides.{nat_tests}
use Rattle.std.proofs.lemmas.List.Folds.{fold_stays}
use Rattle.std.proofs.lemmas.List.Sums.{fold-append}
use Rattle.std.specs.Prelude.{Result}
use Rattle.fr_auditing.specs.LongStream.{byte_by, bytes_by, BeginsBy, long_line, long_byte, long_bytes}
use Rattle.fr_lines.specs.Spelling.{line_feed}
use Rattle.fr_text.specs.Plain.{is_feed, has_no_feed}
use Rattle.fr_trace.proofs.LineLemmas.{fill}
use Rattle.fr_trace.proofs.RefusalLemmas.{GivesNext, StepsTo, line_next, steps}
use Rattle.fr_trace.proofs.TextLemmas.{is_open}
use Rattle.fr_trace.specs.declared.error.TraceError.{TraceError}
use Rattle.fr_trace.specs.Feeds.{IsAtBegin}
use Rattle.fr_trace.specs.Stream.{Phase, Progress, magic, params, node, lines, body, finished, reading, failed}
use Rattle.fr_trace.specs.Stream.{line_number, take_line, after_line, take_byte, take_bytes}

pub stays_by : (later : Bool) (e : TraceError) (bytes : List ℕ) → bytes_by later (failed e) bytes ≡ failed e
stays_by later e bytes = fold_stays (byte_by later) (failed e) (λ _. refl) bytes

-- ---- bytes without a line feed are taken as in version 3

byte_same : (later : Bool) (s : Progress) (b : ℕ) → (b == 10) ≡ false → byte_by later s b ≡ take_byte s b
byte_same later (failed e) b other = refl
byte_same later (reading p line) b other = rw other refl

pub plain_same : (later : Bool) (bytes : List ℕ) (s : Progress) → has_no_feed bytes ≡ true
    → bytes_by later s bytes ≡ take_bytes s bytes
plain_same later [] s plain = refl
plain_same later (b ∷ bytes) s plain =
    let parts = and_parts (not (is_feed b)) (has_no_feed bytes) plain in
    let other : (b == 10) ≡ false = grind (arith, nat_tests) in
    ap (λ t. bytes_by later t bytes) (byte_same later s b other) ∙ plain_same later bytes (take_byte s b) parts.1

-- ---- a text of versions 1 to 3 is read as in `fr_trace`

earlier_byte : (s : Progress) (b : ℕ) → byte_by false s b ≡ take_byte s b
earlier_byte (failed e) b = refl
earlier_byte (reading p line) b = elim (cases_Bool (b == 10)) [
  | inl feed ↦ at_feed p feed
  | inr other ↦ byte_same false (reading p line) b other
]
  where
    at_feed : (q : Phase) → (b == 10) ≡ true → byte_by false (reading q line) b ≡ take_byte (reading q line) b
    at_feed magic feed = rw feed refl
    at_feed (params v) feed = rw feed refl
    at_feed (node v p) feed = rw feed refl
    at_feed (lines v p plan) feed = rw feed refl
    at_feed (body v s) feed = rw feed refl
    at_feed (finished v s) feed = rw feed refl

pub earlier_bytes : (bytes : List ℕ) (s : Progress) → bytes_by false s bytes ≡ take_bytes s bytes
earlier_bytes [] s = refl
earlier_bytes (b ∷ bytes) s =
    ap (λ t. bytes_by false t bytes) (earlier_byte s b) ∙ earlier_bytes bytes (take_byte s b)

-- ---- whole lines

pub long_whole : (p : Phase) (line : List ℕ) (q : Phase) → is_open p ≡ true → has_no_feed line ≡ true
    → length line ≤ 1200 → long_line p line ≡ Ok q → long_bytes (reading p []) (line ++ line_feed) ≡ reading q []
long_whole p line q opened plain short led =
    fold-append long_byte (reading p []) line line_feed
    ∙ (ap (λ s. long_bytes s line_feed) (plain_same true line (reading p []) plain ∙ fill p line [] opened plain
    (omega (arith, short)))
    ∙ ap after_line led)

-- the next line, after a text that has been read
pub long_next : (start : Progress) (text line : List ℕ) (p q : Phase) → long_bytes start text ≡ reading p []
    → is_open p ≡ true → has_no_feed line ≡ true → length line ≤ 1200 → long_line p line ≡ Ok q
    → long_bytes start (text ++ (line ++ line_feed)) ≡ reading q []
long_next start text line p q came opened plain short led =
    fold-append long_byte start text (line ++ line_feed)
    ∙ (ap (λ s. long_bytes s (line ++ line_feed)) came ∙ long_whole p line q opened plain short led)

-- ---- the lines after `node` are taken as in version 3

pub late_line : (p : Phase) (line : List ℕ) → 4 ≤ line_number p → long_line p line ≡ take_line p line
late_line magic line late = absurd (let none : ⊥ = omega (arith, late) in none)
late_line (params v) line late = refl
late_line (node v p) line late = absurd (let none : ⊥ = omega (arith, late) in none)
late_line (lines v p plan) line late = refl
late_line (body v s) line late = refl
late_line (finished v s) line late = refl

pub late_byte : (p : Phase) (line : List ℕ) (b : ℕ) → 4 ≤ line_number p
    → long_byte (reading p line) b ≡ take_byte (reading p line) b
late_byte magic line b late = absurd (let none : ⊥ = omega (arith, late) in none)
late_byte (params v) line b late = absurd (let none : ⊥ = omega (arith, late) in none)
late_byte (node v p) line b late = absurd (let none : ⊥ = omega (arith, late) in none)
late_byte (lines v p plan) line b late = elim (cases_Bool (b == 10)) [
  | inl feed ↦ rw feed refl
  | inr other ↦ rw other refl
]
late_byte (body v s) line b late = elim (cases_Bool (b == 10)) [
  | inl feed ↦ rw feed refl
  | inr other ↦ rw other refl
]
late_byte (finished v s) line b late = elim (cases_Bool (b == 10)) [
  | inl feed ↦ rw feed refl
  | inr other ↦ rw other refl
]

abbrev pub IsLate : Progress → Type 0
IsLate (reading p line) = 4 ≤ line_number p
IsLate (failed e) = Unit {0}

stays_late : (n : ℕ) (feed : Bool) (s : Progress) → 4 ≤ n → StepsTo n feed s → IsLate s
stays_late n feed (reading q line) late step = omega (arith, late, step)
stays_late n feed (failed e) late step = tt

pub next_byte_late : (p : Phase) (line : List ℕ) (b : ℕ) → 4 ≤ line_number p → IsLate (take_byte (reading p line) b)
next_byte_late p line b late = stays_late (line_number p) (b == 10) (take_byte (reading p line) b) late (steps p line b)

pub late_bytes : (bytes : List ℕ) (s : Progress) → IsLate s → long_bytes s bytes ≡ take_bytes s bytes
late_bytes [] s late = refl
late_bytes (b ∷ bytes) (failed e) late = late_bytes bytes (failed e) tt
late_bytes (b ∷ bytes) (reading p line) late =
    ap (λ t. long_bytes t bytes) (late_byte p line b late)
    ∙ late_bytes bytes (take_byte (reading p line) b) (next_byte_late p line b late)

-- the next phase is late, too
pub next_late : (p : Phase) (line : List ℕ) (q : Phase) → 4 ≤ line_number p → take_line p line ≡ Ok q
    → 4 ≤ line_number q
next_late p line q late led =
    let next : line_number q ≡ line_number p + 1 =
    subst (λ (r : Result Phase TraceError). GivesNext (line_number p) r) led (line_next p line) in
    omega (arith, late, next)

-- ---- the line feed of `begin`

pub begins_before_by : (later : Bool) (old : Progress) (a b : List ℕ) → BeginsBy later old a
    → BeginsBy later old (a ++ b)
begins_before_by later old a b h =
    let (front, rest, is, at) = h in
    (front, rest ++ b, ap (λ t. t ++ b) is ∙ append_assoc front (10 ∷ rest) b, at)

pub begins_behind_by : (later : Bool) (old : Progress) (a b : List ℕ) → BeginsBy later (bytes_by later old a) b
    → BeginsBy later old (a ++ b)
begins_behind_by later old a b h =
    let (front, rest, is, at) = h in (
      a ++ front,
      rest,
      ap (λ t. a ++ t) is ∙ sym (append_assoc a front (10 ∷ rest)),
      subst IsAtBegin (sym (fold-append (byte_by later) old a front)) at,
    )
