-- A line of version 3 with lists, element by element, and the lines of a text, one after another.
use Rattle.std.proofs.Common.{◌≡◌, ℕ, ◌+◌, ◌≤◌, ◌<◌, Bool, true, false, inl, inr, List, [], ◌∷◌, ◌++◌, length, map}
use Rattle.std.proofs.Common.{Option, Some, None, Ok, Err, drop, refl, sym, ap, ◌∙◌, arith, append_assoc, length-append}
use Rattle.std.specs.Prelude.{nat_lt}
use Rattle.std.proofs.lemmas.Bool.{cases_Bool, ltb-true, ltb-false, lt-ltb, le-ltb}
use Rattle.std.proofs.lemmas.List.{append-nil}
use Rattle.std.proofs.lemmas.List.Splits.{length-slice_split}
use Rattle.fr_names.specs.Names.{NamesOfNode}
use Rattle.fr_scenario.proofs.CutLemmas.{read_next}
use Rattle.fr_scenario.proofs.StatementLemmas.{many_words, put_all, put_one}
use Rattle.fr_scenario.specs.BlankWords.{blank_words}
use Rattle.fr_scenario.specs.Choosing.{alone, chosen_said, each_chosen, joined, kept_if, onto}
use Rattle.fr_scenario.specs.declared.error.ScenarioError.TheVariants.{BadLine}
use Rattle.fr_scenario.specs.declared.statement.Statement.{Statement}
use Rattle.fr_scenario.specs.Lists.{choices_before, choices_of, each_said, elements_of, few, is_comma, line_said}
use Rattle.fr_scenario.specs.Lists.{line_statements}
use Rattle.fr_scenario.specs.Lists.{most_meant, put_first}
use Rattle.fr_scenario.specs.Reading.{ReadOf, next_line, is_at_end, put_before, read_from, whole_line}
use Rattle.fr_scenario.specs.Statements.{are_end, is_last, statement_said}

-- ---- the statements of more lines

put_joined : (first : Option Statement) (more others : Option (List Statement))
    → put_first first (joined more others) ≡ joined (put_first first more) others
put_joined None more others = refl
put_joined (Some s) None others = refl
put_joined (Some s) (Some more) None = refl
put_joined (Some s) (Some more) (Some others) = refl

joined_none : (more : Option (List Statement)) → more ≡ joined (Some []) more
joined_none None = refl
joined_none (Some more) = refl

said_append : (names : List NamesOfNode) (lines others : List (List (List ℕ)))
    → each_said names (lines ++ others) ≡ joined (each_said names lines) (each_said names others)
said_append names [] others = joined_none (each_said names others)
said_append names (words ∷ lines) others =
    ap (put_first (statement_said names words)) (said_append names lines others)
    ∙ put_joined (statement_said names words) (each_said names lines) (each_said names others)

alone_first : (o : Option Statement) → alone o ≡ put_first o (Some [])
alone_first None = refl
alone_first (Some s) = refl

-- ---- an element after the words that are chosen

map_append : (F : List (List ℕ) → List (List ℕ)) (xs ys : List (List (List ℕ)))
    → map F (xs ++ ys) ≡ map F xs ++ map F ys
map_append F [] ys = refl
map_append F (x ∷ xs) ys = ap (λ (zs : List (List (List ℕ))). F x ∷ zs) (map_append F xs ys)

chosen_next : (chosen : List (List ℕ)) (element : List ℕ) (choices : List (List (List ℕ)))
    → map (λ rest. (chosen ++ element ∷ []) ++ rest) choices
    ≡ map (λ rest. chosen ++ rest) (map (λ rest. element ∷ rest) choices)
chosen_next chosen element [] = refl
chosen_next chosen element (rest ∷ choices) =
    ap (λ (first : List (List ℕ)). first ∷ map (λ rest. (chosen ++ element ∷ []) ++ rest) choices)
    (append_assoc chosen (element ∷ []) rest)
    ∙ ap (λ (more : List (List (List ℕ))). (chosen ++ element ∷ rest) ∷ more) (chosen_next chosen element choices)

onto_none : (o : Option (List Statement)) → few (onto [] o) ≡ few o
onto_none None = refl
onto_none (Some statements) = refl

module _ (names : List NamesOfNode) where
  -- element by element, the statements are those of the lines for which the line stands
  each_meant : (chosen : List (List ℕ)) (choices : List (List (List ℕ))) (F : List ℕ → Option (List Statement))
      → ((element : List ℕ) → F element ≡ each_said names (map (λ rest. (chosen ++ element ∷ []) ++ rest) choices))
      → (elements : List (List ℕ))
      → each_chosen F elements ≡ each_said names (map (λ rest. chosen ++ rest) (choices_before elements choices))
  each_meant chosen choices F is [] = refl
  each_meant chosen choices F is (element ∷ elements) =
      let own = map (λ rest. element ∷ rest) choices in
      let others = choices_before elements choices in
      let first : F element ≡ each_said names (map (λ rest. chosen ++ rest) own) =
      is element ∙ ap (each_said names) (chosen_next chosen element choices) in
      ap (λ (o : Option (List Statement)). joined o (each_chosen F elements)) first
      ∙ ap (joined (each_said names (map (λ rest. chosen ++ rest) own))) (each_meant chosen choices F is elements)
      ∙ sym (said_append names (map (λ rest. chosen ++ rest) own) (map (λ rest. chosen ++ rest) others))
      ∙ ap (each_said names) (sym (map_append (λ rest. chosen ++ rest) own others))

  chosen_meant : (words chosen : List (List ℕ))
      → chosen_said names chosen words ≡ each_said names (map (λ rest. chosen ++ rest) (choices_of words))
  chosen_meant [] chosen =
      alone_first (statement_said names chosen)
      ∙ ap (λ (ws : List (List ℕ)). put_first (statement_said names ws) (Some [])) (sym (append-nil chosen))
  chosen_meant (word ∷ words) chosen =
      each_meant chosen (choices_of words) (λ element. chosen_said names (chosen ++ element ∷ []) words)
      (λ element. chosen_meant words (chosen ++ element ∷ [])) (elements_of word)

  pub line_chosen : (kind : List ℕ) (words : List (List ℕ))
      → few (onto [] (chosen_said names (kind ∷ []) words)) ≡ line_said names (kind ∷ words)
  line_chosen kind words =
      onto_none (chosen_said names (kind ∷ []) words) ∙ ap few (chosen_meant words (kind ∷ []))

-- the first word is the only one that is chosen, and there are no statements before
pub line_kept : (names : List NamesOfNode) (kind : List ℕ) (words chosen : List (List ℕ)) (before now : List Statement)
    (done : Bool) → chosen ≡ kind ∷ [] → before ≡ []
    → kept_if done now ≡ few (onto before (chosen_said names chosen words))
    → kept_if done now ≡ line_said names (kind ∷ words)
line_kept names kind words chosen before now done first none h =
    h
    ∙ ap (λ (xs : List Statement). few (onto xs (chosen_said names chosen words))) none
    ∙ ap (λ (ws : List (List ℕ)). few (onto [] (chosen_said names ws words))) first
    ∙ line_chosen names kind words

-- ---- room for the statements

few_takes : (statements now : List Statement) → Some now ≡ few (Some statements) → now ≡ statements
few_takes statements now h =
    elim (cases_Bool (nat_lt most_meant (length statements))) [
      | inl more ↦ cc (rw more at h)
      | inr within ↦ cc (rw within at h)
    ]

too_many : (statements others : List Statement) → None ≡ few (Some statements) → length statements ≤ length others
    → None ≡ few (Some others)
too_many statements others h longer =
    elim (cases_Bool (nat_lt most_meant (length statements))) [
      | inl more ↦
          let long = ltb-true most_meant (length statements) more in
          let also : nat_lt most_meant (length others) ≡ true = lt-ltb most_meant (length others) (omega arith) in
          rw also refl
      | inr within ↦ cc (rw within at h)
    ]

-- at most 64 statements are kept
pub few_kept : (o : Option (List Statement)) (now : List Statement) → Some now ≡ few o → length now ≤ 64
few_kept None now h = cc h
few_kept (Some statements) now h =
    elim (cases_Bool (nat_lt most_meant (length statements))) [
      | inl more ↦ cc (rw more at h)
      | inr within ↦
          let is : now ≡ statements = few_takes statements now h in
          let few = ltb-false most_meant (length statements) within in
          rw is few
    ]

pub few_again : (statements : List Statement) → length statements ≤ 64
    → Some statements ≡ few (onto statements (Some []))
few_again statements few =
    let within : nat_lt most_meant (length (statements ++ [])) ≡ false =
    ap (λ (xs : List Statement). nat_lt most_meant (length xs)) (append-nil statements)
    ∙ le-ltb most_meant (length statements) few in
    rw within (ap Some (sym (append-nil statements)))

module _ (before : List Statement) where
  first_said : (now first : List Statement) (more : Option (List Statement)) → now ≡ before ++ first
      → few (onto now more) ≡ few (onto before (joined (Some first) more))
  first_said now first None is = refl
  first_said now first (Some more) is =
      ap (λ (xs : List Statement). few (Some xs))
      (ap (λ (xs : List Statement). xs ++ more) is ∙ append_assoc before first more)

  -- the first element has statements
  pub element_said : (now : List Statement) (first more : Option (List Statement))
      → Some now ≡ few (onto before first) → few (onto now more) ≡ few (onto before (joined first more))
  element_said now None more h = cc h
  element_said now (Some first) more h = first_said now first more (few_takes (before ++ first) now h)

  -- it has none, or too many
  pub element_refused : (first more : Option (List Statement)) → None ≡ few (onto before first)
      → None ≡ few (onto before (joined first more))
  element_refused None more h = refl
  element_refused (Some first) None h = refl
  element_refused (Some first) (Some more) h = too_many (before ++ first) (before ++ (first ++ more)) h
      (omega (arith, length-append before first, length-append before (first ++ more), length-append first more))

-- ---- more words than a line has

first_refused : (F : List ℕ → Option (List Statement)) (elements : List (List ℕ)) → 0 < length elements
    → ((element : List ℕ) → F element ≡ None) → each_chosen F elements ≡ None
first_refused F [] some none = absurd (omega arith)
first_refused F (element ∷ elements) some none = rw (none element) refl

some_element : (word : List ℕ) → 0 < length (elements_of word)
some_element word = let count = length-slice_split is_comma word in omega (arith, count)

many_chosen : (names : List NamesOfNode) (words chosen : List (List ℕ)) → 6 < length chosen + length words
    → chosen_said names chosen words ≡ None
many_chosen names [] chosen many = rw (many_words names chosen (omega arith)) refl
many_chosen names (word ∷ words) chosen many =
    first_refused (λ element. chosen_said names (chosen ++ element ∷ []) words) (elements_of word) (some_element word)
    (λ element. let more = length-append chosen (element ∷ []) in
    many_chosen names words (chosen ++ element ∷ []) (omega (arith, more)))

pub many_line : (names : List NamesOfNode) (words : List (List ℕ)) → 6 < length words → line_said names words ≡ None
many_line names [] many = absurd (omega arith)
many_line names (kind ∷ words) many =
    sym (line_chosen names kind words)
    ∙ ap (λ (o : Option (List Statement)). few (onto [] o)) (many_chosen names words (kind ∷ []) (omega arith))

-- ---- one line of a text

module _ (names : List NamesOfNode) (before : List (List Statement)) (n : ℕ) (lines : List (List ℕ)) (line : List ℕ)
    (few : n ≤ 4096) (next : next_line n lines ≡ Ok line) where
  abbrev after : ReadOf (List Statement)
  after = read_from is_last (line_statements names) (n + 1) (drop 1 lines)

  here : read_from is_last (line_statements names) n lines
      ≡ whole_line is_last (line_statements names) n line (drop 1 lines) after
  here = read_next is_last (line_statements names) n lines line few next

  -- the last line, at the end of the text
  pub ended : are_end (blank_words line) ≡ true → is_at_end (drop 1 lines) ≡ true
      → put_all before (read_from is_last (line_statements names) n lines) ≡ Ok before
  ended last empty =
      let is : read_from is_last (line_statements names) n lines ≡ Ok [] = here ∙ rw (last, empty) refl in
      ap (put_all before) is ∙ ap Ok (append-nil before)

  -- the last line, and bytes after it
  pub more_follows : are_end (blank_words line) ≡ true → is_at_end (drop 1 lines) ≡ false
      → put_all before (read_from is_last (line_statements names) n lines) ≡ Err (BadLine (n + 1))
  more_follows last more =
      let is : read_from is_last (line_statements names) n lines ≡ Err (BadLine (n + 1)) =
      here ∙ rw (last, more) refl in
      ap (put_all before) is

  -- another line, of which no form is known
  pub nothing_said : are_end (blank_words line) ≡ false → line_said names (blank_words line) ≡ None
      → put_all before (read_from is_last (line_statements names) n lines) ≡ Err (BadLine n)
  nothing_said other none =
      let is : read_from is_last (line_statements names) n lines ≡ Err (BadLine n) = here ∙ rw (other, none) refl in
      ap (put_all before) is

  -- another line with its statements
  pub one_said : (one : List Statement) → are_end (blank_words line) ≡ false
      → line_said names (blank_words line) ≡ Some one
      → put_all (before ++ one ∷ []) after ≡ put_all before (read_from is_last (line_statements names) n lines)
  one_said one other some =
      let is : read_from is_last (line_statements names) n lines ≡ put_before one after =
      here ∙ rw (other, some) refl in
      put_one before one after ∙ sym (ap (put_all before) is)
