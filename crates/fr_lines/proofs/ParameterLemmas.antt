-- The line of the parameters.
use Rattle.std.proofs.Common.{◌≡◌, ℕ, ◌<◌, ◌≤◌, ◌^◌, inl, inr, true, List, [], ◌∷◌, length, codes, Some, Result, Ok}
use Rattle.std.proofs.Common.{Err, refl, sym, ap, ◌∙◌, arith}
use Rattle.std.specs.Prelude.{ℤ, pos, ◌==◌}
use Rattle.std.proofs.lemmas.Bool.{cases_Bool, le-leb, eq-eqb}
use Rattle.std.specs.Fmt.{decimal}
use Rattle.fr_lines.proofs.PartLemmas.{word_or}
use Rattle.fr_lines.proofs.WordLemmas.{IsWord, number_word}
use Rattle.fr_lines.specs.Reading.{Five, numbers_of, at_end, parameter_in, five_in, ten_in, params_in}
use Rattle.fr_lines.specs.Spelled.{parameter_numbers}
use Rattle.fr_lines.specs.Spelling.{params_words}
use Rattle.fr_slots.specs.declared.params.Key.{Key}
use Rattle.fr_slots.specs.declared.params.Key.TheVariants.{StaticSlots, Minislots, StaticWords, StaticMt, MinislotMt}
use Rattle.fr_slots.specs.declared.params.Key.TheVariants.{SymbolMt, NitMt, CycleMt, Idle, WordsPerMinislot}
use Rattle.fr_slots.specs.declared.params.RangeError.{RangeError}
use Rattle.fr_slots.specs.Parameters.{Parameters, IsParameters, IsWithin, least_of, greatest_of, admits, unsigned}
use Rattle.fr_slots.specs.Parameters.{number_at, first_five, last_five, parameters_of, assembled, summed, macroticks_of}
use Rattle.fr_slots.specs.Parameters as slots
use Rattle.fr_text.proofs.BindLemmas.{bind_some}
use Rattle.fr_text.proofs.LineLemmas.{cons_same, line_of-words_of, words_of-line_of, has_no_feed-line_of}
use Rattle.fr_text.proofs.LineLemmas.{length-line_of-le}
use Rattle.fr_text.proofs.NumberLemmas.{number_takes, number_again}
use Rattle.fr_text.specs.Plain.{ArePlain, has_no_feed}
use Rattle.fr_text.specs.Reading.{number_in}
use Rattle.fr_text.specs.Spaces.{words_of, line_of}

-- ---- ten numbers that are read are spelled by these words

-- five numbers, before other words
abbrev spelled : Five → List (List ℕ) → List (List ℕ)
spelled f rest =
    decimal (unsigned f.0) ∷ decimal (unsigned f.1) ∷ decimal (unsigned f.2) ∷ decimal (unsigned f.3)
    ∷ decimal (unsigned f.4) ∷ rest

parameter_takes : (word : List ℕ) (z : ℤ) → parameter_in word ≡ Some z → word ≡ decimal (unsigned z)
unfolding parameter_in
parameter_takes word z h =
    let (n, hn, h1) = bind_some (number_in (2 ^ 32) word) _ z h in
    let is : pos n ≡ z = cc h1 in
    sym (number_takes (2 ^ 32) word n hn).0 ∙ ap (λ y. decimal (unsigned y)) is

five_takes : (words : List (List ℕ)) (r : Five × List (List ℕ)) → five_in words ≡ Some r → words ≡ spelled r.0 r.1
unfolding five_in
five_takes [] r h = cc h
five_takes (a ∷ []) r h = cc h
five_takes (a ∷ b ∷ []) r h = cc h
five_takes (a ∷ b ∷ c ∷ []) r h = cc h
five_takes (a ∷ b ∷ c ∷ d ∷ []) r h = cc h
five_takes (a ∷ b ∷ c ∷ d ∷ e ∷ rest) r h =
    let (v, hv, h1) = bind_some (parameter_in a) _ r h in
    let (w, hw, h2) = bind_some (parameter_in b) _ r h1 in
    let (x, hx, h3) = bind_some (parameter_in c) _ r h2 in
    let (y, hy, h4) = bind_some (parameter_in d) _ r h3 in
    let (z, hz, h5) = bind_some (parameter_in e) _ r h4 in
    let is : ((v, w, x, y, z), rest) ≡ r = cc h5 in
    let last = cons_same (parameter_takes d y hy) (cons_same (parameter_takes e z hz) refl) in
    let rest_is = cons_same (parameter_takes b w hw) (cons_same (parameter_takes c x hx) last) in
    rw (← is) (cons_same (parameter_takes a v hv) rest_is)

end_takes : {A : Type 0} (value : A) (words : List (List ℕ)) (found : A) → at_end value words ≡ Some found
    → (value ≡ found) × (words ≡ [])
end_takes value [] found h = (cc h, refl)
end_takes value (word ∷ words) found h = cc h

ten_takes : (words : List (List ℕ)) (zs : List ℤ) → ten_in words ≡ Some zs
    → (a : Five) × (b : Five) × (numbers_of a b ≡ zs) × (words ≡ spelled a (spelled b []))
unfolding ten_in
ten_takes words zs h =
    let (first, hf, h1) = bind_some (five_in words) _ zs h in
    let (last, hl, h2) = bind_some (five_in first.1) _ zs h1 in
    let end = end_takes (numbers_of first.0 last.0) last.1 zs h2 in
    let last_is = five_takes first.1 last hl ∙ ap (spelled last.0) end.1 in
    (first.0, last.0, end.0, five_takes words first hf ∙ ap (spelled first.0) last_is)

-- ---- and are the numbers of the parameters

bind_ok : {A B : Type 0} (r : Result A RangeError) (f : A → Result B RangeError) (y : B) → slots.◌>>=◌ r f ≡ Ok y
    → (x : A) × (r ≡ Ok x) × (f x ≡ Ok y)
bind_ok (Ok x) f y h = (x, refl, h)
bind_ok (Err e) f y h = cc h

number_at_takes : (key : Key) (z : ℤ) (n : ℕ) → number_at key z ≡ Ok n → unsigned z ≡ n
unfolding number_at
number_at_takes key z n h =
    elim (cases_Bool (admits key z)) [
      | inl pass ↦ cc (rw pass at h)
      | inr fail ↦ cc (rw fail at h)
    ]

first_takes : (a b : Five) (f : slots.Five) → first_five (numbers_of a b) ≡ Ok f
    → (unsigned a.0, unsigned a.1, unsigned a.2, unsigned a.3, unsigned a.4) ≡ f
unfolding first_five
first_takes a b f h =
    let (v, hv, h1) = bind_ok (number_at StaticSlots a.0) _ f h in
    let (w, hw, h2) = bind_ok (number_at Minislots a.1) _ f h1 in
    let (x, hx, h3) = bind_ok (number_at StaticWords a.2) _ f h2 in
    let (y, hy, h4) = bind_ok (number_at StaticMt a.3) _ f h3 in
    let (z, hz, h5) = bind_ok (number_at MinislotMt a.4) _ f h4 in
    let is : (v, w, x, y, z) ≡ f = cc h5 in
    rw (
      number_at_takes StaticSlots a.0 v hv,
      number_at_takes Minislots a.1 w hw,
      number_at_takes StaticWords a.2 x hx,
      number_at_takes StaticMt a.3 y hy,
      number_at_takes MinislotMt a.4 z hz,
    ) is

last_takes : (a b : Five) (f : slots.Five) → last_five (numbers_of a b) ≡ Ok f
    → (unsigned b.0, unsigned b.1, unsigned b.2, unsigned b.3, unsigned b.4) ≡ f
unfolding last_five
last_takes a b f h =
    let (v, hv, h1) = bind_ok (number_at SymbolMt b.0) _ f h in
    let (w, hw, h2) = bind_ok (number_at NitMt b.1) _ f h1 in
    let (x, hx, h3) = bind_ok (number_at CycleMt b.2) _ f h2 in
    let (y, hy, h4) = bind_ok (number_at Idle b.3) _ f h3 in
    let (z, hz, h5) = bind_ok (number_at WordsPerMinislot b.4) _ f h4 in
    let is : (v, w, x, y, z) ≡ f = cc h5 in
    rw (
      number_at_takes SymbolMt b.0 v hv,
      number_at_takes NitMt b.1 w hw,
      number_at_takes CycleMt b.2 x hx,
      number_at_takes Idle b.3 y hy,
      number_at_takes WordsPerMinislot b.4 z hz,
    ) is

summed_takes : (q p : Parameters) → summed q ≡ Ok p → q ≡ p
summed_takes q p h =
    elim (cases_Bool (macroticks_of q == q.cycle_mt)) [
      | inl pass ↦ cc (rw pass at h)
      | inr fail ↦ cc (rw fail at h)
    ]

abbrev naturals : Five → slots.Five
naturals f = (unsigned f.0, unsigned f.1, unsigned f.2, unsigned f.3, unsigned f.4)

assembled_take : (a b : Five) (first last : slots.Five) (p : Parameters) → naturals a ≡ first → naturals b ≡ last
    → assembled first last ≡ p
    → codes "params" ∷ spelled a (spelled b []) ≡ params_words p
assembled_take a b first last p ha hb is = rw (← is, ← ha, ← hb) refl

parameters_take : (a b : Five) (p : Parameters) → parameters_of (numbers_of a b) ≡ Ok p
    → codes "params" ∷ spelled a (spelled b []) ≡ params_words p
unfolding parameters_of
parameters_take a b p h =
    let (first, hf, h1) = bind_ok (first_five (numbers_of a b)) _ p h in
    let (last, hl, h2) = bind_ok (last_five (numbers_of a b)) _ p h1 in
    assembled_take a b first last p (first_takes a b first hf) (last_takes a b last hl)
    (summed_takes (assembled first last) p h2)

pub params_takes : (words : List (List ℕ)) (zs : List ℤ) (p : Parameters) → params_in words ≡ Some zs
    → parameters_of zs ≡ Ok p → words ≡ params_words p
unfolding params_in
params_takes [] zs p h made = cc h
params_takes (kind ∷ words) zs p h made =
    elim (word_or kind (codes "params") (ten_in words) _ zs h) [
      | inl params ↦
          let (a, b, is, spelling) = ten_takes words zs params.1 in
          cons_same params.0 spelling ∙ parameters_take a b p (ap parameters_of is ∙ made)
      | inr h1 ↦ cc h1
    ]

pub params_line_takes : (line : List ℕ) (zs : List ℤ) (p : Parameters) → params_in (words_of line) ≡ Some zs
    → parameters_of zs ≡ Ok p → line ≡ line_of (params_words p)
params_line_takes line zs p h made = sym (line_of-words_of line) ∙ ap line_of (params_takes (words_of line) zs p h made)

-- ---- ten numbers that are spelled are read again

parameter_again : (n : ℕ) → n ≤ 20000 → parameter_in (decimal n) ≡ Some (pos n)
unfolding parameter_in
parameter_again n small =
    let below : n < 2 ^ 32 = omega arith in
    rw (number_again (2 ^ 32) n below (omega arith)) refl

-- a number in the range of a key is at most 20000
within : (key : Key) (n : ℕ) → IsWithin key n → n ≤ 20000
within StaticSlots n is = let high = is.at_most in omega arith
within Minislots n is = let high = is.at_most in omega arith
within StaticWords n is = let high = is.at_most in omega arith
within StaticMt n is = let high = is.at_most in omega arith
within MinislotMt n is = let high = is.at_most in omega arith
within SymbolMt n is = let high = is.at_most in omega arith
within NitMt n is = let high = is.at_most in omega arith
within CycleMt n is = let high = is.at_most in omega arith
within Idle n is = let high = is.at_most in omega arith
within WordsPerMinislot n is = let high = is.at_most in omega arith

five_again : (a b c d e : ℕ) (rest : List (List ℕ)) → a ≤ 20000 → b ≤ 20000 → c ≤ 20000 → d ≤ 20000 → e ≤ 20000
    → five_in (decimal a ∷ decimal b ∷ decimal c ∷ decimal d ∷ decimal e ∷ rest)
    ≡ Some ((pos a, pos b, pos c, pos d, pos e), rest)
unfolding five_in
five_again a b c d e rest ha hb hc hd he =
    rw (
      parameter_again a ha,
      parameter_again b hb,
      parameter_again c hc,
      parameter_again d hd,
      parameter_again e he,
    ) refl

pub params_again : (p : Parameters) → IsParameters p → params_in (params_words p) ≡ Some (parameter_numbers p)
unfolding params_in ten_in
params_again p is =
    let first = five_again p.static_slots p.minislots p.static_words p.static_mt p.minislot_mt
    (decimal p.symbol_mt ∷ decimal p.nit_mt ∷ decimal p.cycle_mt ∷ decimal p.idle ∷ decimal p.words_per_minislot ∷ [])
    (within StaticSlots p.static_slots is.static_slots_fit) (within Minislots p.minislots is.minislots_fit)
    (within StaticWords p.static_words is.static_words_fit) (within StaticMt p.static_mt is.static_mt_fit)
    (within MinislotMt p.minislot_mt is.minislot_mt_fit) in
    let last = five_again p.symbol_mt p.nit_mt p.cycle_mt p.idle p.words_per_minislot []
    (within SymbolMt p.symbol_mt is.symbol_mt_fit) (within NitMt p.nit_mt is.nit_mt_fit)
    (within CycleMt p.cycle_mt is.cycle_mt_fit) (within Idle p.idle is.idle_fit)
    (within WordsPerMinislot p.words_per_minislot is.words_per_minislot_fit) in
    rw (first, last) refl

number_at_again : (key : Key) (n : ℕ) → IsWithin key n → number_at key (pos n) ≡ Ok n
unfolding number_at
number_at_again key n is = rw (le-leb (least_of key) n is.from_least, le-leb n (greatest_of key) is.at_most) refl

first_again : (p : Parameters) → IsParameters p
    → first_five (parameter_numbers p) ≡ Ok (p.static_slots, p.minislots, p.static_words, p.static_mt, p.minislot_mt)
unfolding first_five
first_again p is =
    rw (
      number_at_again StaticSlots p.static_slots is.static_slots_fit,
      number_at_again Minislots p.minislots is.minislots_fit,
      number_at_again StaticWords p.static_words is.static_words_fit,
      number_at_again StaticMt p.static_mt is.static_mt_fit,
      number_at_again MinislotMt p.minislot_mt is.minislot_mt_fit,
    ) refl

last_again : (p : Parameters) → IsParameters p
    → last_five (parameter_numbers p) ≡ Ok (p.symbol_mt, p.nit_mt, p.cycle_mt, p.idle, p.words_per_minislot)
unfolding last_five
last_again p is =
    rw (
      number_at_again SymbolMt p.symbol_mt is.symbol_mt_fit,
      number_at_again NitMt p.nit_mt is.nit_mt_fit,
      number_at_again CycleMt p.cycle_mt is.cycle_mt_fit,
      number_at_again Idle p.idle is.idle_fit,
      number_at_again WordsPerMinislot p.words_per_minislot is.words_per_minislot_fit,
    ) refl

summed_again : (p : Parameters) → IsParameters p → summed p ≡ Ok p
summed_again p is = rw (eq-eqb (macroticks_of p) p.cycle_mt is.fills_the_cycle) refl

pub parameters_again : (p : Parameters) → IsParameters p → parameters_of (parameter_numbers p) ≡ Ok p
unfolding parameters_of
parameters_again p is = rw (first_again p is, last_again p is) (summed_again p is)

-- ---- the words are plain, and the line is short

small_word : (key : Key) (n : ℕ) → IsWithin key n → IsWord 5 (decimal n)
small_word key n is = let small = within key n is in number_word 5 n (omega arith) (omega arith) (omega arith)

both : (p : Parameters) → IsParameters p → ArePlain (params_words p) × (length (line_of (params_words p)) ≤ 1200)
both p is =
    let a = small_word StaticSlots p.static_slots is.static_slots_fit in
    let b = small_word Minislots p.minislots is.minislots_fit in
    let c = small_word StaticWords p.static_words is.static_words_fit in
    let d = small_word StaticMt p.static_mt is.static_mt_fit in
    let e = small_word MinislotMt p.minislot_mt is.minislot_mt_fit in
    let f = small_word SymbolMt p.symbol_mt is.symbol_mt_fit in
    let g = small_word NitMt p.nit_mt is.nit_mt_fit in
    let h = small_word CycleMt p.cycle_mt is.cycle_mt_fit in
    let i = small_word Idle p.idle is.idle_fit in
    let j = small_word WordsPerMinislot p.words_per_minislot is.words_per_minislot_fit in
    let all = length-line_of-le (params_words p) in
    let last : ArePlain (decimal p.cycle_mt ∷ decimal p.idle ∷ decimal p.words_per_minislot ∷ []) =
    (h.plain, (i.plain, (j.plain, tt))) in
    ((refl, (a.plain, (b.plain, (c.plain, (d.plain, (e.plain, (f.plain, (g.plain, last)))))))), omega arith)

pub params_plain : (p : Parameters) → IsParameters p → ArePlain (params_words p)
params_plain p is = (both p is).0

pub params_no_feed : (p : Parameters) → IsParameters p → has_no_feed (line_of (params_words p)) ≡ true
params_no_feed p is = has_no_feed-line_of (params_words p) (params_plain p is)

pub params_short : (p : Parameters) → IsParameters p → length (line_of (params_words p)) ≤ 1200
params_short p is = (both p is).1

-- so the line is cut into them
pub params_cut : (p : Parameters) → IsParameters p → words_of (line_of (params_words p)) ≡ params_words p
params_cut p is =
    words_of-line_of (codes "params")
    (decimal p.static_slots ∷ decimal p.minislots ∷ decimal p.static_words ∷ decimal p.static_mt ∷ decimal p.minislot_mt
    ∷ decimal p.symbol_mt ∷ decimal p.nit_mt ∷ decimal p.cycle_mt ∷ decimal p.idle ∷ decimal p.words_per_minislot ∷ [])
    (params_plain p is)

pub params_line_again : (p : Parameters) → IsParameters p
    → params_in (words_of (line_of (params_words p))) ≡ Some (parameter_numbers p)
params_line_again p is = ap params_in (params_cut p is) ∙ params_again p is
