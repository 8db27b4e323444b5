-- No line can be read with a word that `why` names as wrong.
use Rattle.std.proofs.Common.{◌≡◌, ℕ, Bool, true, false, cond, ◌||◌, List, [], ◌∷◌, take, Option, Some, None, Ok, Err}
use Rattle.std.proofs.Common.{inl, inr, refl, sym, ap, subst, ◌∙◌}
use Rattle.std.specs.Prelude.{codes, IsSome, option_map}
use Rattle.std.specs.Str.{bytes_eq}
use Rattle.std.proofs.lemmas.Slice.Eq.{bytes_eq-Decides}
use Rattle.std.proofs.lemmas.Bool.{or_parts, false_from_ne_true}
use Rattle.fr_concord.specs.Misfits.{IsAfterFirst, AreWrongWords}
use Rattle.fr_lines.proofs.FormLaws.{wrong_so}
use Rattle.fr_lines.specs.declared.forms.WordPlace.{WordPlace}
use Rattle.fr_lines.specs.declared.plan_lines.PlanLine.{PlanLine}
use Rattle.fr_lines.specs.declared.plan_lines.PlanLine.TheVariants as plan_line
use Rattle.fr_lines.specs.declared.versions.Version.{Version}
use Rattle.fr_lines.specs.Forms.{wrong_in, place_in, IsLine}
use Rattle.fr_lines.specs.Reading.{params_in, node_in, plan_line_in, entry_in}
use Rattle.fr_lines.specs.Spelling.{begin_line, end_line}
use Rattle.fr_slots.specs.Plans.{Plan}
use Rattle.fr_text.specs.Spaces.{words_of}
use Rattle.fr_trace.specs.declared.error.TraceError.TheVariants.{BadLine}
use Rattle.fr_trace.specs.Stream.{Phase, magic, params, node, lines, body, finished, take_line, line_number}
use Rattle.fr_trace.specs.Stream.{after_begin, after_entry, after_node, after_numbers, after_plan_line}
use Rattle.fr_why.specs.Reasons.{first_word, is_of_journal, is_of_plan, misfit_in, misfit_in_plan, misfit_of, misplaced}
use Rattle.fr_why.specs.Reasons.{place_of, told_version}

-- ---- tests

none_if : {A : Type 0} (o : Option A) → (IsSome o → ⊥) → o ≡ None
none_if None not_some = refl
none_if (Some x) not_some = absurd (not_some refl)

-- ---- the words up to the one that is named

-- with one word too few or too many of a form, or one of another form, no line begins
form_of : (v : Version) (words others : List (List ℕ)) (place : WordPlace) (o : Option ℕ) → wrong_in v words ≡ o
    → option_map (place_in words) o ≡ Some place → take place.word others ≡ take place.word words
    → IsLine v others → ⊥
form_of v words others place None is at same line = let none : ⊥ = cc at in none
form_of v words others place (Some n) is at same line =
    let here : place_in words n ≡ place = cc at in
    wrong_so v words n is others
    (subst (λ (x : WordPlace). take x.word others ≡ take x.word words) (sym here) same) line

first_same : (words others : List (List ℕ)) → take 1 others ≡ take 1 words → first_word others ≡ first_word words
first_same [] [] same = refl
first_same [] (other ∷ others) same = absurd (let none : ⊥ = cc same in none)
first_same (word ∷ words) [] same = absurd (let none : ⊥ = cc same in none)
first_same (word ∷ words) (other ∷ others) same = cc same

word_of : (words others : List (List ℕ)) (place : WordPlace)
    → ◌≡◌ {A = Option WordPlace} (Some (place_in words 0)) (Some place)
    → take place.word others ≡ take place.word words → first_word others ≡ first_word words
word_of words others place at same =
    let here : place_in words 0 ≡ place = cc at in
    first_same words others (subst (λ (x : WordPlace). take x.word others ≡ take x.word words) (sym here) same)

-- ---- lines of other first words

params_none : (words : List (List ℕ)) → bytes_eq (first_word words) (codes "params") ≡ false → params_in words ≡ None
unfolding params_in
params_none [] other = refl
params_none (kind ∷ words) other = rw other refl

node_none : (words : List (List ℕ)) → bytes_eq (first_word words) (codes "node") ≡ false → node_in words ≡ None
unfolding node_in
node_none [] other = refl
node_none (kind ∷ words) other = rw other refl

plan_none : (v : Version) (words : List (List ℕ)) → is_of_plan (first_word words) ≡ false
    → plan_line_in v words ≡ None
unfolding plan_line_in
plan_none v [] other = refl
plan_none v (kind ∷ words) other =
    let own = bytes_eq kind (codes "own") in
    let tx = bytes_eq kind (codes "tx") in
    let rx = bytes_eq kind (codes "rx") in
    let queue = bytes_eq kind (codes "queue") in
    let four = or_parts (own || tx || rx || queue) (bytes_eq kind (codes "begin")) other in
    let three = or_parts (own || tx || rx) queue four.0 in
    let two = or_parts (own || tx) rx three.0 in
    let one = or_parts own tx two.0 in
    let no_own : bytes_eq kind (codes "own") ≡ false = one.0 in
    let no_tx : bytes_eq kind (codes "tx") ≡ false = one.1 in
    let no_rx : bytes_eq kind (codes "rx") ≡ false = two.1 in
    let no_queue : bytes_eq kind (codes "queue") ≡ false = three.1 in
    rw no_own (rw no_tx (rw no_rx (rw no_queue refl)))

entry_none : (v : Version) (words : List (List ℕ)) → is_of_journal (first_word words) ≡ false
    → entry_in v words ≡ None
unfolding entry_in
entry_none v [] other = refl
entry_none v (kind ∷ words) other =
    let commit = bytes_eq kind (codes "commit") in
    let withdraw = bytes_eq kind (codes "withdraw") in
    let read = bytes_eq kind (codes "read") in
    let pop = bytes_eq kind (codes "pop") in
    let fetch = bytes_eq kind (codes "fetch") in
    let see = bytes_eq kind (codes "see") in
    let six = or_parts (commit || withdraw || read || pop || fetch || see) (bytes_eq kind (codes "end")) other in
    let five = or_parts (commit || withdraw || read || pop || fetch) see six.0 in
    let four = or_parts (commit || withdraw || read || pop) fetch five.0 in
    let three = or_parts (commit || withdraw || read) pop four.0 in
    let two = or_parts (commit || withdraw) read three.0 in
    let one = or_parts commit withdraw two.0 in
    let no_commit : bytes_eq kind (codes "commit") ≡ false = one.0 in
    let no_withdraw : bytes_eq kind (codes "withdraw") ≡ false = one.1 in
    let no_read : bytes_eq kind (codes "read") ≡ false = two.1 in
    let no_pop : bytes_eq kind (codes "pop") ≡ false = three.1 in
    let no_fetch : bytes_eq kind (codes "fetch") ≡ false = four.1 in
    let no_see : bytes_eq kind (codes "see") ≡ false = five.1 in
    rw no_commit (rw no_withdraw (rw no_read (rw no_pop (rw no_fetch (rw no_see refl)))))

-- the lines of one word are of the plan, and of the journal
begin_of_plan : (line : List ℕ) → bytes_eq line begin_line ≡ true → is_of_plan (first_word (words_of line)) ≡ true
begin_of_plan line same =
    ap (λ (l : List ℕ). is_of_plan (first_word (words_of l))) ((bytes_eq-Decides line begin_line).0 same)

end_of_journal : (line : List ℕ) → bytes_eq line end_line ≡ true → is_of_journal (first_word (words_of line)) ≡ true
end_of_journal line same =
    ap (λ (l : List ℕ). is_of_journal (first_word (words_of l))) ((bytes_eq-Decides line end_line).0 same)

both_no : (b : Bool) → b ≡ true → b ≡ false → ⊥
both_no b right wrong = let none : ⊥ = cc (right, wrong) in none

-- ---- what can't be read

module _ (v : Version) (line other : List ℕ) (place : WordPlace)
    (same : take place.word (words_of other) ≡ take place.word (words_of line)) where
  params_wrong : (b : Bool) → bytes_eq (first_word (words_of line)) (codes "params") ≡ b
      → place_of v (misfit_of b) (words_of line) ≡ Some place → params_in (words_of other) ≡ None
  params_wrong true is at =
      none_if (params_in (words_of other)) (λ known.
      form_of v (words_of line) (words_of other) place (wrong_in v (words_of line)) refl at same (inl known))
  params_wrong false is at =
      let first = word_of (words_of line) (words_of other) place at same in
      params_none (words_of other) (ap (λ (w : List ℕ). bytes_eq w (codes "params")) first ∙ is)

  node_wrong : (b : Bool) → bytes_eq (first_word (words_of line)) (codes "node") ≡ b
      → place_of v (misfit_of b) (words_of line) ≡ Some place → node_in (words_of other) ≡ None
  node_wrong true is at =
      none_if (node_in (words_of other)) (λ known.
      form_of v (words_of line) (words_of other) place (wrong_in v (words_of line)) refl at same (inr (inl known)))
  node_wrong false is at =
      let first = word_of (words_of line) (words_of other) place at same in
      node_none (words_of other) (ap (λ (w : List ℕ). bytes_eq w (codes "node")) first ∙ is)

  plan_wrong : (b : Bool) → is_of_plan (first_word (words_of line)) ≡ b
      → place_of v (misfit_of b) (words_of line) ≡ Some place
      → (bytes_eq other begin_line ≡ false) × (plan_line_in v (words_of other) ≡ None)
  plan_wrong true is at = (
    false_from_ne_true (bytes_eq other begin_line) (λ begins.
        form_of v (words_of line) (words_of other) place (wrong_in v (words_of line)) refl at same
        (inr (inr (inr (inl (ap words_of ((bytes_eq-Decides other begin_line).0 begins))))))),
    none_if (plan_line_in v (words_of other)) (λ known.
        form_of v (words_of line) (words_of other) place (wrong_in v (words_of line)) refl at same
        (inr (inr (inl known)))),
  )
  plan_wrong false is at =
      let first = word_of (words_of line) (words_of other) place at same in
      let outside = ap is_of_plan first ∙ is in (
        false_from_ne_true (bytes_eq other begin_line) (λ begins. both_no (is_of_plan (first_word (words_of other)))
            (begin_of_plan other begins) outside),
        plan_none v (words_of other) outside,
      )

  entry_wrong : (b : Bool) → is_of_journal (first_word (words_of line)) ≡ b
      → place_of v (misfit_of b) (words_of line) ≡ Some place
      → (bytes_eq other end_line ≡ false) × (entry_in v (words_of other) ≡ None)
  entry_wrong true is at = (
    false_from_ne_true (bytes_eq other end_line) (λ ends.
        form_of v (words_of line) (words_of other) place (wrong_in v (words_of line)) refl at same
        (inr (inr (inr (inr (inr (ap words_of ((bytes_eq-Decides other end_line).0 ends)))))))),
    none_if (entry_in v (words_of other)) (λ known.
        form_of v (words_of line) (words_of other) place (wrong_in v (words_of line)) refl at same
        (inr (inr (inr (inr (inl known)))))),
  )
  entry_wrong false is at =
      let first = word_of (words_of line) (words_of other) place at same in
      let outside = ap is_of_journal first ∙ is in (
        false_from_ne_true (bytes_eq other end_line) (λ ends. both_no (is_of_journal (first_word (words_of other)))
            (end_of_journal other ends) outside),
        entry_none v (words_of other) outside,
      )

  -- a line of the plan that is read is named without a word
  misplaced_unnamed : (b : Bool) → place_of v (misplaced b) (words_of line) ≡ Some place → ⊥
  misplaced_unnamed true at = let none : ⊥ = cc at in none
  misplaced_unnamed false at = let none : ⊥ = cc at in none

  plan_named : (plan : Plan) (o : Option PlanLine)
      → place_of v (misfit_in_plan plan (first_word (words_of line)) o) (words_of line) ≡ Some place
      → (bytes_eq other begin_line ≡ false) × (plan_line_in v (words_of other) ≡ None)
  plan_named plan None at = plan_wrong (is_of_plan (first_word (words_of line))) refl at
  plan_named plan (Some (plan_line.Own x)) at = absurd (misplaced_unnamed _ at)
  plan_named plan (Some (plan_line.Buffer x)) at = absurd (misplaced_unnamed _ at)
  plan_named plan (Some (plan_line.Queue x)) at = absurd (let none : ⊥ = cc at in none)

  refused : (p : Phase) → IsAfterFirst p → told_version p ≡ v
      → place_of v (misfit_in p (words_of line)) (words_of line) ≡ Some place
      → take_line p other ≡ Err (BadLine (line_number p))
  refused magic later version at = absurd later
  refused (params w) later version at =
      ap (after_numbers w) (params_wrong (bytes_eq (first_word (words_of line)) (codes "params")) refl at)
  refused (node w q) later version at =
      ap (after_node w q) (node_wrong (bytes_eq (first_word (words_of line)) (codes "node")) refl at)
  refused (lines w q plan) later version at =
      let named = plan_named plan (plan_line_in v (words_of line))
      (subst (λ (x : Version). place_of v (misfit_in_plan plan (first_word (words_of line)) (plan_line_in x
      (words_of line))) (words_of line) ≡ Some place) version at) in
      let none : plan_line_in w (words_of other) ≡ None =
      subst (λ (x : Version). plan_line_in x (words_of other) ≡ None) (sym version) named.1 in
      ap (λ (b : Bool). cond b (after_begin w q plan) (after_plan_line w q plan (plan_line_in w (words_of other))))
      named.0
      ∙ ap (after_plan_line w q plan) none
  refused (body w s) later version at =
      let named = entry_wrong (is_of_journal (first_word (words_of line))) refl at in
      let none : entry_in w (words_of other) ≡ None =
      subst (λ (x : Version). entry_in x (words_of other) ≡ None) (sym version) named.1 in
      ap (λ (b : Bool). cond b (Ok (finished w s)) (after_entry w s (entry_in w (words_of other)))) named.0
      ∙ ap (after_entry w s) none
  refused (finished w s) later version at = absurd (let none : ⊥ = cc at in none)

pub wrong_words : AreWrongWords
wrong_words p held line other misfit place later told same =
    let v = told_version p in
    let at : place_of v (misfit_in p (words_of line)) (words_of line) ≡ Some place = cc told in
    refused v line other place same p later refl at
