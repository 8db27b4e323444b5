-- A frame without a finding of its own is one that the cluster allows, and a count without one is the next.
use Rattle.std.proofs.Common.{◌≡◌, ℕ, zero, suc, ◌+◌, ◌-◌, ◌/◌, ◌*◌, ◌%◌, ◌<◌, ◌≤◌, Bool, true, false, cond, refl, sym}
use Rattle.std.proofs.Common.{ap, ◌∙◌, arith, length, inl, inr}
use Rattle.std.proofs.lemmas.Bool.{and_parts, and_cases, not-true, eqb-true, eqb-false, ltb-false, lt-ltb, or_parts}
use Rattle.std.specs.Prelude.{Option, Some, None, min, nat_lt, ◌==◌, not, ◌&&◌, ◌||◌}
use Rattle.std.specs.List.{list_all}
use Rattle.fr_frame.specs.Fields.{Fields}
use Rattle.fr_hearing.specs.Heard.{IsNull, HasContent, IsOwners}
use Rattle.fr_judging.specs.Distances.{steps_of}
use Rattle.fr_logged.specs.declared.due.Due.{Due}
use Rattle.fr_logged.specs.declared.finding.Name.TheVariants as name
use Rattle.fr_logged.specs.Findings.{bare, with_numbers}
use Rattle.fr_logged.specs.Rules.{same, is_zero, preamble_finding, null_finding, buffer_finding, static_rules}
use Rattle.fr_logged.specs.Rules.{kind_finding, words_finding, dynamic_rules, minislot_finding, bits_finding}

-- ---- a choice without a finding

pub passed_test : {X : Type 0} (b : Bool) (x : X) (o : Option X) → cond (not b) (Some x) o ≡ None
    → (b ≡ true) × (o ≡ None)
passed_test true x o e = (refl, e)
passed_test false x o e = absurd (let none : ⊥ = cc in none)

failed_test : {X : Type 0} (b : Bool) (x : X) (o : Option X) → cond b (Some x) o ≡ None → (b ≡ false) × (o ≡ None)
failed_test false x o e = (refl, e)
failed_test true x o e = absurd (let none : ⊥ = cc in none)

taken_test : {X : Type 0} (b : Bool) (x : X) (o : Option X) → cond b o (Some x) ≡ None → (b ≡ true) × (o ≡ None)
taken_test true x o e = (refl, e)
taken_test false x o e = absurd (let none : ⊥ = cc in none)

none_test : {X : Type 0} (b : Bool) (x : X) → cond b None (Some x) ≡ None → b ≡ true
none_test true x e = refl
none_test false x e = absurd (let none : ⊥ = cc in none)

same_from : (x y : Bool) → same x y ≡ true → x ≡ y
same_from true y e = sym e
same_from false y e = sym (not-true y e)

-- ---- a static slot

preamble_from : (p : Bool) (f : Fields) → preamble_finding p f ≡ None → p ≡ f.preamble
preamble_from p f e = same_from p f.preamble (none_test (same p f.preamble) _ e)

buffer_from : (node : ℕ) (p : Option Bool) (f : Fields) → buffer_finding node p f ≡ None → p ≡ Some f.preamble
buffer_from node None f e = absurd (let none : ⊥ = cc in none)
buffer_from node (Some p) f e = ap Some (preamble_from p f e)

null_from : (f : Fields) → null_finding f ≡ None → IsNull f
null_from f e =
    let parts = and_parts (not f.preamble) (list_all is_zero f.payload)
    (none_test (not f.preamble && list_all is_zero f.payload) (bare name.NullFrame) e) in
    record { no_preamble = not-true f.preamble parts.0; zeros = parts.1 }

content_from : (d : Due) (f : Fields) (b : Bool)
    → cond b (buffer_finding d.node d.preamble f) (null_finding f) ≡ None → HasContent d f b
content_from d f true e = buffer_from d.node d.preamble f e
content_from d f false e = null_from f e

words_from : (n w due : ℕ) → n ≡ 2 * w → n / 2 ≡ due → n ≡ 2 * due
words_from n w due even half = omega (arith, even, half)

-- a static slot's frame without a finding is its owner's
pub owners_from : (d : Due) (f : Fields) (words : ℕ) → length f.payload ≡ 2 * words → static_rules d f ≡ None
    → IsOwners d f
owners_from d f words even e =
    let by_words = passed_test (length f.payload / 2 == d.words)
    (with_numbers name.Words d.words (length f.payload / 2))
    (cond (not (same d.sync f.sync && same d.startup f.startup)) (Some (bits_finding d.sync d.startup f))
    (kind_finding d f)) e in
    let by_bits = passed_test (same d.sync f.sync && same d.startup f.startup) (bits_finding d.sync d.startup f)
    (kind_finding d f) by_words.1 in
    let bits = and_parts (same d.sync f.sync) (same d.startup f.startup) by_bits.0 in
    record {
      words = words_from (length f.payload) words d.words even (eqb-true (length f.payload / 2) d.words by_words.0);
      sync = same_from d.sync f.sync bits.0;
      startup = same_from d.startup f.startup bits.1;
      content = content_from d f f.has_data by_bits.1;
    }

-- ---- a dynamic slot

-- what a dynamic frame without a finding has, wherever its slot opens
pub record IsSenders (d : Due) (f : Fields) : Type 0 where
  pub has_data : f.has_data ≡ true
  pub no_sync : f.sync ≡ false
  pub no_startup : f.startup ≡ false
  pub words : length f.payload ≡ 2 * d.words
  pub preamble : d.preamble ≡ Some f.preamble

pub senders_from : (d : Due) (f : Fields) (words : ℕ) → length f.payload ≡ 2 * words → dynamic_rules d f ≡ None
    → IsSenders d f
senders_from d f words even e =
    let by_kind = passed_test f.has_data (bare name.NullFrame)
    (cond (f.sync || f.startup) (Some (bits_finding false false f)) (words_finding d f)) e in
    let by_bits = failed_test (f.sync || f.startup) (bits_finding false false f) (words_finding d f) by_kind.1 in
    let bits = or_parts f.sync f.startup by_bits.0 in
    let by_words = taken_test (length f.payload / 2 == d.words) (with_numbers name.Words d.words (length f.payload / 2))
    (buffer_finding d.node d.preamble f) by_bits.1 in
    record {
      has_data = by_kind.0;
      no_sync = bits.0;
      no_startup = bits.1;
      words = words_from (length f.payload) words d.words even (eqb-true (length f.payload / 2) d.words by_words.0);
      preamble = buffer_from d.node d.preamble f by_words.1;
    }

pub minislot_from : (minislots latest opens : ℕ) → minislot_finding minislots latest opens ≡ None
    → (opens ≤ minislots) × (opens ≤ latest)
minislot_from minislots latest opens e =
    let within = failed_test (nat_lt minislots opens) (with_numbers name.Closed minislots opens)
    (cond (nat_lt latest opens) (Some (with_numbers name.Late latest opens)) None) e in
    let in_time = failed_test (nat_lt latest opens) (with_numbers name.Late latest opens) None within.1 in
    (ltb-false minislots opens within.0, ltb-false latest opens in_time.0)

-- below the limit of counts nothing is cut off
pub sum_within : (a b m n : ℕ) → n < m → min (min a m + b) m ≤ n → a + b ≤ n
sum_within a b m n below le = omega (arith, below, le)

pub sum_in_time : (a b m n latest : ℕ) → n < m → min (min a m + b) m ≤ n → min (min a m + b) m ≤ latest
    → a + b ≤ latest
sum_in_time a b m n latest below le last = omega (arith, below, le, last)

-- ---- a lawful slot

pub record IsLawful (static minislots id : ℕ) : Type 0 where
  pub some : 1 ≤ id
  pub dynamic : static < id → 1 ≤ minislots

pub lawful_from : (static minislots id : ℕ) → cond (id == 0) true (nat_lt static id && minislots == 0) ≡ false
    → IsLawful static minislots id
lawful_from static minislots id e =
    let zero_not = by (id == 0) refl e in
    record {
      some = some_from id (eqb-false id 0 zero_not.0);
      dynamic = λ above. elim (and_cases (nat_lt static id) (minislots == 0) zero_not.1) [
        | inl below ↦ absurd (let no : ⊥ = cc (sym (lt-ltb static id above) ∙ below) in no)
        | inr some ↦ some_from minislots (eqb-false minislots 0 some)
      ];
    }
  where
    some_from : (n : ℕ) → (n ≡ 0 → ⊥) → 1 ≤ n
    some_from zero other = absurd (other refl)
    some_from (suc n) other = omega arith

    by : (b : Bool) → (id == 0) ≡ b → cond b true (nat_lt static id && minislots == 0) ≡ false
        → ((id == 0) ≡ false) × ((nat_lt static id && minislots == 0) ≡ false)
    by true is f = absurd (let none : ⊥ = cc in none)
    by false is f = (is, f)

-- ---- counts of cycles

steps_next : (c x n : ℕ) → c < 64 → x < 64 → n ≡ (x + 63 - c) % 64 → n + 1 ≡ 1 → x ≡ (c + 1) % 64
steps_next c x n lt fits is one = omega (arith, lt, fits, is, one)

-- one step leads to the next count
pub next_from : (c x : ℕ) → c < 64 → x < 64 → steps_of c x ≡ 1 → x ≡ (c + 1) % 64
next_from c x lt fits one = steps_next c x ((x + 63 - c) % 64) lt fits refl one
