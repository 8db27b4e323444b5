-- A frame that the cluster allows has no finding of its own.
use Rattle.std.proofs.Common.{◌≡◌, ℕ, ◌/◌, ◌*◌, ◌≤◌, Bool, true, false, cond, refl, sym, ap, ◌∙◌, arith, length}
use Rattle.std.proofs.lemmas.Bool.{cond-true, cond-false, eq-eqb, le-ltb, and_from}
use Rattle.std.specs.Prelude.{Option, Some, None, nat_lt, ◌==◌, not, ◌&&◌, ◌||◌}
use Rattle.std.specs.List.{list_all}
use Rattle.fr_frame.specs.Fields.{Fields}
use Rattle.fr_hearing.specs.Heard.{IsNull, HasContent, IsOwners, IsDynamic, Spot}
use Rattle.fr_logged.specs.declared.due.Due.{Due}
use Rattle.fr_logged.specs.declared.finding.Finding.{Finding}
use Rattle.fr_logged.specs.declared.finding.Name.TheVariants as name
use Rattle.fr_logged.specs.Findings.{bare, with_numbers}
use Rattle.fr_logged.specs.Rules.{same, is_zero, preamble_finding, null_finding, buffer_finding, static_rules}
use Rattle.fr_logged.specs.Rules.{words_finding, dynamic_rules, minislot_finding, bits_finding}
use Rattle.fr_slots.specs.Parameters.{Parameters}

pub same_self : (b : Bool) → same b b ≡ true
same_self true = refl
same_self false = refl

same_is : (x y : Bool) → x ≡ y → same x y ≡ true
same_is x y e = ap (same x) (sym e) ∙ same_self x

-- a choice between findings whose test passes
pub no_finding : {X : Type 0} (b : Bool) (x : Option X) (o : Option X) → b ≡ true → o ≡ None
    → cond (not b) x o ≡ None
no_finding b x o e none = ap (λ (c : Bool). cond (not c) x o) e ∙ none

found_none : (b : Bool) (x : Option Finding) → b ≡ true → cond b None x ≡ None
found_none b x e = ap (λ (c : Bool). cond c None x) e

no_preamble_finding : (f : Fields) → preamble_finding f.preamble f ≡ None
no_preamble_finding f = found_none (same f.preamble f.preamble) _ (same_self f.preamble)

buffer_fits : (node : ℕ) (p : Option Bool) (f : Fields) → p ≡ Some f.preamble → buffer_finding node p f ≡ None
buffer_fits node p f e = ap (λ (o : Option Bool). buffer_finding node o f) e ∙ no_preamble_finding f

null_fits : (f : Fields) → IsNull f → null_finding f ≡ None
null_fits f is =
    cond-true (not f.preamble && list_all is_zero f.payload) None (Some (bare name.NullFrame))
    (and_from (not f.preamble) (list_all is_zero f.payload) (ap not is.no_preamble) is.zeros)

content_fits : (d : Due) (f : Fields) (b : Bool) → HasContent d f b
    → cond b (buffer_finding d.node d.preamble f) (null_finding f) ≡ None
content_fits d f true is = buffer_fits d.node d.preamble f is
content_fits d f false is = null_fits f is

half : (n : ℕ) → 2 * n / 2 ≡ n
half n = omega arith

-- the frame that the owner of a static slot sends
pub owners_fits : (d : Due) (f : Fields) → IsOwners d f → static_rules d f ≡ None
owners_fits d f is =
    no_finding (length f.payload / 2 == d.words) (Some (with_numbers name.Words d.words (length f.payload / 2)))
    (cond (not (same d.sync f.sync && same d.startup f.startup)) (Some (bits_finding d.sync d.startup f))
    (cond f.has_data (buffer_finding d.node d.preamble f) (null_finding f)))
    (eq-eqb (length f.payload / 2) d.words (ap (λ (n : ℕ). n / 2) is.words ∙ half d.words))
    (no_finding (same d.sync f.sync && same d.startup f.startup) (Some (bits_finding d.sync d.startup f))
    (cond f.has_data (buffer_finding d.node d.preamble f) (null_finding f))
    (and_from (same d.sync f.sync) (same d.startup f.startup) (same_is d.sync f.sync is.sync)
    (same_is d.startup f.startup is.startup))
    (content_fits d f f.has_data is.content))

words_fit : (d : Due) (f : Fields) → length f.payload / 2 ≡ d.words → d.preamble ≡ Some f.preamble
    → words_finding d f ≡ None
words_fit d f words preamble =
    cond-true (length f.payload / 2 == d.words) (buffer_finding d.node d.preamble f)
    (Some (with_numbers name.Words d.words (length f.payload / 2))) (eq-eqb (length f.payload / 2) d.words words)
    ∙ buffer_fits d.node d.preamble f preamble

-- the frame of a dynamic transmit buffer
pub dynamic_fits : (p : Parameters) (d : Due) (s : Spot) (f : Fields) → IsDynamic p d s f → dynamic_rules d f ≡ None
dynamic_fits p d s f is =
    no_finding f.has_data (Some (bare name.NullFrame))
    (cond (f.sync || f.startup) (Some (bits_finding false false f)) (words_finding d f)) is.has_data
    (cond-false (f.sync || f.startup) (Some (bits_finding false false f)) (words_finding d f)
    (ap (λ (b : Bool). b || f.startup) is.no_sync ∙ is.no_startup)
    ∙ words_fit d f (ap (λ (n : ℕ). n / 2) is.words ∙ half d.words) is.preamble)

-- a slot that opens in time
pub minislot_fits : (minislots latest opens : ℕ) → opens ≤ minislots → opens ≤ latest
    → minislot_finding minislots latest opens ≡ None
minislot_fits minislots latest opens within in_time =
    cond-false (nat_lt minislots opens) (Some (with_numbers name.Closed minislots opens))
    (cond (nat_lt latest opens) (Some (with_numbers name.Late latest opens)) None) (le-ltb minislots opens within)
    ∙ cond-false (nat_lt latest opens) (Some (with_numbers name.Late latest opens)) None (le-ltb latest opens in_time)
