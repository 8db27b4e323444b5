-- Words with which `clap` finds no fault enter one of the commands, with its file if it has one. Each value that a walk
-- over the words of a command keeps is one of the words.
use Rattle.std.proofs.Common.{◌≡◌, ◌∙◌, ◌<◌, ◌&&◌, ◌++◌, ◌∷◌, [], ℕ, zero, suc, List, length, Bool, cond, true, false}
use Rattle.std.proofs.Common.{not, Option, Some, None, option_map, is_some, true≢false, ◌||◌, fold, refl, sym, subst}
use Rattle.std.proofs.Common.{arith, inl, inr, codes, ◌⊎◌}
use Rattle.std.specs.Prelude.{IfSome, option_and_then, slice_get, drop}
use Rattle.std.specs.Option.{option_map_or}
use Rattle.std.specs.List.{find, slice_index_or}
use Rattle.std.specs.Str.{bytes_eq, chars}
use Rattle.std.specs.Char.{encode_utf8}
use Rattle.std.proofs.lemmas.List.{length-append}
use Rattle.clap.specs.Words.{Row, Rule, Shape, Text, fault_of, first_of, subcommand_of}
use Rattle.clap.specs.Walk.{Held, Names, Outcome, Step, Waiting, Walk, after_flag, after_step, arg_by_id, bundle_met}
use Rattle.clap.specs.Walk.{bundle_step, finished, has_row, nothing_held, option, option_word, plain_word, pushed}
use Rattle.clap.specs.Walk.{reading_by, refused, settled, settled_rows, to_positional, used, used_by_id, walk, walked}
use Rattle.clap.specs.Walk.{walked_from, walk_from, with_values, without, word_met, long_or_other, short_or_plain}
use Rattle.clap.specs.Walk.{subcommand_or_other, more_values, done, waits, plain, idle, positional, next, trailing}
use Rattle.clap.specs.Walk.{subcommand, value, positional_held, started}
use Rattle.clap.specs.Simple.{built, entered, filled, help_shape, names_of, rows_at, with_index}
use Rattle.clap.specs.Facts.{explicit_source}
use Rattle.clap.specs.Lexer.{long_of}
use Rattle.clap.specs.Takes.{is_given}
use Rattle.clap.specs.Faults.{level_fault, check_fault, entered_fault}
use Rattle.clap.specs.Kinds.{Kinds, or_else, check_kinds}
use Rattle.clap.specs.declared.parser.matches.ValueSource.{ValueSource}
use Rattle.fr_cli.specs.BenchOrders.{IsWhole, LacksRun, the_commands}
use Rattle.fr_cli.specs.Commands.{IsNamed, has_run_by, the_file, word_in}

-- ---- rows with values

abbrev AreValued : List Row → Type 0
AreValued [] = Unit {0}
AreValued (r ∷ rs) = (0 < length r.values) × AreValued rs

without_valued : (id : Text) (rows : List Row) → AreValued rows → AreValued (without id rows)
without_valued id [] h = tt
without_valued id (r ∷ rs) h =
    elim (bytes_eq r.id id) as (λ b. AreValued (cond b rs (r ∷ without id rs))) [
      | true ↦ h.1
      | false ↦ (h.0, without_valued id rs h.1)
    ]

with_values_valued : (a : Rule) (source : ValueSource) (v : Text) (vs : List Text) (rows : List Row)
    → AreValued rows → AreValued (with_values a.id (reading_by a) source (v ∷ vs) rows)
with_values_valued a source v vs [] h = (omega arith, tt)
with_values_valued a source v vs (r ∷ rs) h =
    elim (bytes_eq r.id a.id) as (λ b. AreValued (cond b (more_values source (v ∷ vs) r ++ rs)
    (r ∷ with_values a.id (reading_by a) source (v ∷ vs) rs))) [
      | true ↦ (let e = length-append r.values (v ∷ vs) in omega (arith, e), h.1)
      | false ↦ (h.0, with_values_valued a source v vs rs h.1)
    ]

-- ---- the only rule of a command with a file, after the command is built

abbrev rule : Rule
rule = with_index 1 (filled the_file)

abbrev rules : List Rule
rules = rule ∷ []

used_valued : (vs : List Text) (rows : List Row) → 0 < length vs → AreValued rows → AreValued (used rule vs rows)
used_valued [] rows some h = absurd (omega arith)
used_valued (v ∷ vs) rows some h = with_values_valued rule _ v vs (without rule.id rows) (without_valued rule.id rows h)

-- what is held so far: rows with values, and the values of the pending argument
record IsHeld (h : Held) : Type 0 where
  rows : AreValued h.rows
  pending : IfSome h.pending (λ p. 0 < length p.1)

settled_valued : (p : Option (Text × List Text)) (rows : List Row) → AreValued rows → IfSome p (λ p. 0 < length p.1)
    → AreValued (settled_rows rules p rows)
settled_valued None rows h some = h
settled_valued (Some p) rows h some =
    elim (bytes_eq rule.id p.0) as (λ b. AreValued (used_by_id (cond b (Some rule) None) p.1 rows)) [
      | true ↦ used_valued p.1 rows some h
      | false ↦ h
    ]

settled_held : (h : Held) → IsHeld h → IsHeld (settled rules h)
settled_held h is = record { rows = settled_valued h.pending h.rows is.rows is.pending; pending = tt }

pushed_held : (id word : Text) (h : Held) → IsHeld h → IsHeld (pushed id word h)
pushed_held id word h is = record {
  rows = is.rows;
  pending = let e =
      length-append (started id h.pending).1 (word ∷ []) in omega (arith, e);
}

-- ---- a word

option_word_held : (o : Option Rule) (id word : Text) (h : Held) → IsHeld h → IsHeld (option_word o id word h).0
option_word_held None id word h is = is
option_word_held (Some a) id word h is = pushed_held id word h is

plain_word_held : (waiting : Waiting) (word : Text) (h : Held) → IsHeld h → IsHeld (plain_word rules waiting word h).0
plain_word_held idle word h is = is
plain_word_held positional word h is = is
plain_word_held (option id) word h is = option_word_held (arg_by_id rules id) id word h is

after_flag_held : (o : Outcome) (waiting : Waiting) (word : Text) (h : Held) → IsHeld h
    → IsHeld (after_flag rules waiting word h o).0
after_flag_held done waiting word h is = is
after_flag_held (waits id) waiting word h is = is
after_flag_held plain waiting word h is = plain_word_held waiting word h is
after_flag_held refused waiting word h is = plain_word_held waiting word h is

bundle_held : (k : ℕ) (flags : Text) (skip : ℕ) (so_far : Outcome) (h : Held) → IsHeld h
    → IsHeld (bundle_met rules k flags skip so_far h).0
unfolding bundle_met
bundle_held zero flags skip so_far h is = is
bundle_held (suc k) flags skip so_far h is = step (λ x less. bundle_held k (drop (length (encode_utf8 x)) flags) less
    so_far h is) (slice_get (chars flags) 0) skip
  where
    step : ((x less : ℕ) → IsHeld (bundle_met rules k (drop (length (encode_utf8 x)) flags) less so_far h).0)
        → (x : Option ℕ) (skip : ℕ)
        → IsHeld (bundle_step rules x flags skip so_far h (bundle_met rules k)).0
    step on None skip = is
    step on (Some x) zero = is
    step on (Some x) (suc skip) = on x skip

short_held : (o : Option Text) (waiting : Waiting) (word : Text) (h : Held) → IsHeld h
    → IsHeld (short_or_plain rules waiting word o h).0
short_held None waiting word h is = plain_word_held waiting word h is
short_held (Some flags) waiting word h is =
    after_flag_held _ waiting word _ (bundle_held (length flags) flags h.skip plain (record h { skip = 0 })
    (record { rows = is.rows; pending = is.pending }))

long_held : (o : Option (Text × Option Text)) (waiting : Waiting) (word : Text) (h : Held) → IsHeld h
    → IsHeld (long_or_other rules waiting word o h).0
long_held None waiting word h is = short_held _ waiting word h is
long_held (Some p) waiting word h is = plain_word_held waiting word h is

other_held : (o : Option Text) (waiting : Waiting) (position : ℕ) (word : Text) (h : Held) → IsHeld h
    → IsHeld (subcommand_or_other rules o waiting position word h).0
other_held (Some name) waiting position word h is = is
other_held None waiting position word h is =
    elim (bytes_eq word (45 ∷ 45 ∷ [])) as (λ b. IsHeld
    (cond b (h, trailing position) (long_or_other rules waiting word (long_of word) h)).0) [
      | true ↦ is
      | false ↦ long_held _ waiting word h is
    ]

word_held : (names : Names) (is_trailing : Bool) (waiting : Waiting) (position : ℕ) (word : Text) (h : Held) → IsHeld h
    → IsHeld (word_met rules names is_trailing waiting position word h).0
word_held names true waiting position word h is = is
word_held names false waiting position word h is = other_held _ waiting position word h is

positional_is_held : (a : Rule) (word : Text) (h : Held) → IsHeld h → IsHeld (positional_held rules a word h)
positional_is_held a word h is = pushed_held a.id word _ (kept _)
  where
    kept : (b : Bool) → IsHeld (cond b h (settled rules h))
    kept true = is
    kept false = settled_held h is

to_positional_held : (o : Option Rule) (word : Text) (w : Walk) (h : Held) → IsHeld h
    → IsHeld (to_positional rules o word w h).held
to_positional_held None word w h is = is
to_positional_held (Some a) word w h is = positional_is_held a word h is

step_held : (s : Step) (word : Text) (w : Walk) (h : Held) → IsHeld h → IsHeld (after_step rules word w h s).held
step_held (next waiting) word w h is = is
step_held (trailing position) word w h is = is
step_held (subcommand name) word w h is = is
step_held value word w h is = to_positional_held _ word w h is

walked_held : (names : Names) (w : Walk) (word : Text) → IsHeld w.held → IsHeld (walked rules names w word).held
unfolding walked
walked_held names w word is = go w.stopped
  where
    go : (stopped : Option (Text × List Text)) → IsHeld (walked_from rules names stopped w word).held
    go (Some p) = is
    go None = step_held _ word w _ (word_held names w.is_trailing w.waiting w.position word w.held is)

walk_held : (names : Names) (words : List Text) (w : Walk) → IsHeld w.held
    → IsHeld (fold (walked rules names) w words).held
walk_held names [] w is = is
walk_held names (word ∷ words) w is = walk_held names words (walked rules names w word) (walked_held names w word is)

-- ---- the file

finished_valued : (h : Held) → IsHeld h → AreValued (finished rules h)
finished_valued h is = kept (has_row rule.id (settled rules h).rows)
  where
    kept : (b : Bool) → AreValued (cond b (settled rules h).rows (settled rules h).rows)
    kept true = (settled_held h is).rows
    kept false = (settled_held h is).rows

first_valued : (vs : List Text) → 0 < length vs → is_some (slice_get vs 0) ≡ true
first_valued [] some = absurd (omega arith)
first_valued (v ∷ vs) some = refl

given_valued : (rows : List Row) → AreValued rows → is_given (codes "FILE") rows ≡ true
    → is_some (first_of (codes "FILE") rows) ≡ true
given_valued [] h given = absurd (true≢false (sym given))
given_valued (r ∷ rs) h given = here (given_valued rs h.1) (bytes_eq r.id (codes "FILE")) given
  where
    here : (is_given (codes "FILE") rs ≡ true → is_some (first_of (codes "FILE") rs) ≡ true) → (b : Bool)
        → option_map_or (λ r. explicit_source r.source) (cond b (Some r) (find (λ r. bytes_eq r.id (codes "FILE")) rs))
        false ≡ true
        → is_some (option_and_then (λ r. slice_get r.values 0)
        (cond b (Some r) (find (λ r. bytes_eq r.id (codes "FILE")) rs))) ≡ true
    here later true given = first_valued r.values h.0
    here later false given = later given

-- ---- no fault

no_kinds : (a b : Kinds) → or_else a b ≡ [] → (a ≡ []) × (b ≡ [])
no_kinds [] b e = (refl, e)
no_kinds (k ∷ ks) b e = cc

no_level_fault : (s : Shape) (names : Names) (h : Held) (words : List Text) (has : Bool) (below : Kinds)
    → level_fault s names h words has below ≡ [] → (below ≡ []) ×
    (check_fault s (finished s.rules (walk s.rules names h words).held) has ≡ [])
no_level_fault s names h words has below e =
    let walked = no_kinds _ _ e in
    let entered = no_kinds _ _ walked.1 in
    let settled = no_kinds _ _ entered.1 in
    (entered.0, (no_kinds _ _ settled.1).1)

abbrev sub : ℕ → Shape
sub n = slice_index_or (built the_commands).subs n help_shape

given_file : (g : Bool) → check_kinds false false (not g || false) ≡ [] → g ≡ true
given_file true e = refl
given_file false e = cc

-- a command whose only rule is that of its file
record TakesFile (s : Shape) : Type 0 where
  rules_are : s.rules ≡ rules
  checks : (rows : List Row) → check_fault s rows false ≡ check_kinds false false
      (not (is_given (codes "FILE") rows) || false)

has_file : (s : Shape) (words : List Text) → TakesFile s → check_fault s
    (finished s.rules (walk s.rules [] nothing_held words).held) false ≡ []
    → is_some (first_of (codes "FILE") (finished s.rules (walk s.rules [] nothing_held words).held)) ≡ true
has_file s words is e =
    let valued = finished_valued _ (walk_held [] words (walk_from nothing_held) (record { rows = tt; pending = tt })) in
    let given = given_file _ (sym (is.checks (finished s.rules (walk s.rules [] nothing_held words).held)) ∙ e) in
    given_valued _ (subst (λ c. AreValued (finished c (walk c [] nothing_held words).held)) (sym is.rules_are) valued)
    given

check_takes : TakesFile (sub 1)
check_takes = record { rules_are = refl; checks = λ rows. refl }

plan_takes : TakesFile (sub 2)
plan_takes = record { rules_are = refl; checks = λ rows. refl }

-- an entered run has all its required arguments, or lacks one
run_or_not : (entered : Option (Text × List Row)) → IsNamed (codes "run") entered → IsWhole entered ⊎ LacksRun entered
run_or_not entered named = by (has_run_by (word_in entered)) refl
  where
    by : (b : Bool) → has_run_by (word_in entered) ≡ b → IsWhole entered ⊎ LacksRun entered
    by true e = inl (inr (inr (named, e)))
    by false e = inr (named, e)

abbrev met_at : Text × List Text → (a c q m r : Bool) → Option Shape
met_at p a c q m r = cond a (Some (sub 0)) (cond c (Some (sub 1))
    (cond q (Some (sub 2)) (cond m (Some (sub 3)) (cond r (Some (sub 4)) None))))

met : (p : Text × List Text) (a c q m r : Bool)
    → is_some (option_map (λ s. rows_at s p.1) (met_at p a c q m r)) ≡ true
    → option_map_or (λ s. level_fault s [] nothing_held p.1 false []) (met_at p a c q m r) [] ≡ []
    → IsWhole (option_map (λ s. rows_at s p.1) (met_at p a c q m r)) ⊎ LacksRun
    (option_map (λ s. rows_at s p.1) (met_at p a c q m r))
met p true c q m r has below = inl (inl (inl refl))
met p false true q m r has below = inl (inr (inl
    (inl refl, has_file (sub 1) p.1 check_takes (no_level_fault (sub 1) [] nothing_held p.1 false [] below).1)))
met p false false true m r has below = inl (inr
    (inl (inr refl, has_file (sub 2) p.1 plan_takes (no_level_fault (sub 2) [] nothing_held p.1 false [] below).1)))
met p false false false true r has below = inl (inl (inr refl))
met p false false false false true has below = run_or_not (Some (rows_at (sub 4) p.1)) refl
met p false false false false false has below = cc

whole_at : (stop : Option (Text × List Text)) → is_some (entered (built the_commands) stop) ≡ true
    → entered_fault (built the_commands) stop ≡ []
    → IsWhole (entered (built the_commands) stop) ⊎ LacksRun (entered (built the_commands) stop)
whole_at None has below = cc
whole_at (Some p) has below = met p _ _ _ _ _ has below

requires_one : (has : Bool) → check_kinds (not has && (false && false)) (not has && true) false ≡ [] → has ≡ true
requires_one true e = refl
requires_one false e = cc

pub whole : (words : List Text) → fault_of the_commands words ≡ []
    → IsWhole (subcommand_of the_commands words) ⊎ LacksRun (subcommand_of the_commands words)
whole words e =
    let parts = no_level_fault (built the_commands).top (names_of (built the_commands)) nothing_held words _ _ e in
    whole_at (walk (built the_commands).top.rules (names_of (built the_commands)) nothing_held words).stopped
    (requires_one _ parts.1) parts.0
