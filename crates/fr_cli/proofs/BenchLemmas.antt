-- The answer to words follows from a parse. The commands are of the kind for which `clap` reports all faults, and the
-- rows of a parse have the command's name and its words.
use Rattle.std.proofs.Common.{◌≡◌, ◌∷◌, [], List, Option, Some, None, Err, option_map, is_some, true≢false, ap, sym}
use Rattle.std.proofs.Common.{refl, ◌∙◌, ℕ, arith, inl, inr, codes, true}
use Rattle.std.specs.Prelude.{IfSome, IsSome, option_and_then}
use Rattle.std.specs.Option.{ok_or, option_map_or}
use Rattle.clap.specs.Values.{kind_of}
use Rattle.clap.specs.Words.{HasKind, IsAmong, Kinds, Row, Text, fault_of, first_of, is_simple, is_simple_and_free}
use Rattle.clap.specs.Words.{subcommand_of}
use Rattle.clap.specs.declared.error.Error.{Error}
use Rattle.clap.proofs.OnLiterals.{clap_on_literals}
use Rattle.fr_cli.specs.declared.command.Order.{Order}
use Rattle.fr_cli.specs.declared.error.OrderError.{OrderError}
use Rattle.fr_cli.specs.declared.error.OrderError.TheVariants as refusal
use Rattle.fr_cli.specs.BenchOrders.{HasFile, IsAnswer, IsOrder, IsRunBy, IsWhole, file_in, the_commands}
use Rattle.fr_cli.specs.declared.command.Order.TheVariants as the_order
use Rattle.fr_cli.proofs.BenchWholeLemmas.{whole}
use Rattle.fr_cli.specs.Commands.{IsNamed, cycles_in, has_run_by, is_true, name_in, order_error_of, word_in}

pub are_simple : is_simple the_commands ≡ true
unfolding clap_on_literals
are_simple = refl

pub are_free : is_simple_and_free the_commands ≡ true
unfolding clap_on_literals
are_free = refl

-- the word for FILE of a command whose rows are known
pub file_of_rows : (entered : Option (Text × List Row)) (rows : List Row)
    → option_map (λ p. p.1) entered ≡ Some rows → file_in entered ≡ first_of (codes "FILE") rows
file_of_rows None rows are = cc are
file_of_rows (Some (name, entered)) rows are = let is : entered ≡ rows = cc are in rw is refl

-- a command has one name, and the names differ in their first letters
abbrev first : Text → ℕ
first [] = 0
first (letter ∷ letters) = letter

one_name : (a b : Text) (o : Option Text) → o ≡ Some a → o ≡ Some b → first a ≡ first b
one_name a b o is_a is_b = ap (λ x. option_map_or first x 0) (sym is_a ∙ is_b)

-- a whole command that reads a file has the word for it
pub check_has_file : (entered : Option (Text × List Row)) → IsNamed (codes "check") entered → IsWhole entered
    → HasFile entered
check_has_file entered named (inl (inl e)) = let bad : 99 ≡ 97 =
    one_name (codes "check") (codes "audit") (name_in entered) named e in absurd (omega (arith, bad))
check_has_file entered named (inl (inr e)) = let bad : 99 ≡ 109 =
    one_name (codes "check") (codes "midpoint") (name_in entered) named e in absurd (omega (arith, bad))
check_has_file entered named (inr (inl h)) = h.1
check_has_file entered named (inr (inr e)) = let bad : 99 ≡ 114 =
    one_name (codes "check") (codes "run") (name_in entered) named e.0 in absurd (omega (arith, bad))

pub plan_has_file : (entered : Option (Text × List Row)) → IsNamed (codes "plan") entered → IsWhole entered
    → HasFile entered
plan_has_file entered named (inl (inl e)) = let bad : 112 ≡ 97 =
    one_name (codes "plan") (codes "audit") (name_in entered) named e in absurd (omega (arith, bad))
plan_has_file entered named (inl (inr e)) = let bad : 112 ≡ 109 =
    one_name (codes "plan") (codes "midpoint") (name_in entered) named e in absurd (omega (arith, bad))
plan_has_file entered named (inr (inl h)) = h.1
plan_has_file entered named (inr (inr e)) = let bad : 112 ≡ 114 =
    one_name (codes "plan") (codes "run") (name_in entered) named e.0 in absurd (omega (arith, bad))

-- a whole run has all its required arguments
pub run_has_all : (entered : Option (Text × List Row)) → IsNamed (codes "run") entered → IsWhole entered
    → has_run_by (word_in entered) ≡ true
run_has_all entered named (inl (inl e)) = let bad : 114 ≡ 97 =
    one_name (codes "run") (codes "audit") (name_in entered) named e in absurd (omega (arith, bad))
run_has_all entered named (inl (inr e)) = let bad : 114 ≡ 109 =
    one_name (codes "run") (codes "midpoint") (name_in entered) named e in absurd (omega (arith, bad))
run_has_all entered named (inr (inl (inl e, h))) = let bad : 114 ≡ 99 =
    one_name (codes "run") (codes "check") (name_in entered) named e in absurd (omega (arith, bad))
run_has_all entered named (inr (inl (inr e, h))) = let bad : 114 ≡ 112 =
    one_name (codes "run") (codes "plan") (name_in entered) named e in absurd (omega (arith, bad))
run_has_all entered named (inr (inr h)) = h.1

-- two ways to the same words give the same run
pub run_by_alike : (f g : Text → Option Text) → ((id : Text) → f id ≡ g id) → (o : Order) → IsRunBy f o
    → IsRunBy g o
run_by_alike f g same the_order.Audit is = is
run_by_alike f g same (the_order.Check file) is = is
run_by_alike f g same (the_order.Plan file) is = is
run_by_alike f g same the_order.Midpoint is = is
run_by_alike f g same (the_order.Run cluster scenario cycles free) is = (
  sym (same (codes "FILE")) ∙ is.0,
  sym (same (codes "SCENARIO")) ∙ is.1,
  ap (option_and_then cycles_in) (sym (same (codes "cycles"))) ∙ is.2,
  is.3 ∙ ap is_true (same (codes "free")),
)

pub run_told : (entered : Option (Text × List Row)) (look : Text → Option Text) (found : Option Order)
    → IsNamed (codes "run") entered
    → ((id : Text) → look id ≡ word_in entered id) → IfSome found (IsRunBy look) → IfSome found (IsOrder entered)
run_told entered look None named same told = tt
run_told entered look (Some o) named same told = by o (run_by_alike look (word_in entered) same o told)
  where
    by : (o : Order) → IsRunBy (word_in entered) o → IsOrder entered o
    by the_order.Audit is = absurd is
    by (the_order.Check file) is = absurd is
    by (the_order.Plan file) is = absurd is
    by the_order.Midpoint is = absurd is
    by (the_order.Run cluster scenario cycles free) is = (named, is)

pub none_has_none : (o : Option Text) → o ≡ None → is_some o ≡ true → ⊥
none_has_none o none some = true≢false (sym some ∙ ap is_some none)

-- an error of `clap` is a fault of the words, or a failed allocation
pub refused_for : (words : List Text) (e : Error) → HasKind (fault_of the_commands words) e
    → IsAnswer words (Err (order_error_of (kind_of e)))
refused_for words e (inl memory) = rw memory tt
refused_for words e (inr among) = by (order_error_of (kind_of e)) (fault_of the_commands words) refl among
  where
    by : (given : OrderError) (kinds : Kinds) → fault_of the_commands words ≡ kinds → IsAmong (kind_of e) kinds
        → IsAnswer words (Err given)
    by refusal.Memory kinds are among = tt
    by refusal.Usage [] are among = absurd among
    by refusal.Usage (k ∷ ks) are among = inl (rw are (omega arith))

-- without a fault, the order that was found is the answer
pub taken_for : (words : List Text) (found : Option Order) → fault_of the_commands words ≡ []
    → IfSome found (IsOrder (subcommand_of the_commands words))
    → (IsWhole (subcommand_of the_commands words) → IsSome found)
    → IsAnswer words (ok_or found refusal.Usage)
taken_for words (Some order) none told has = (none, told)
taken_for words None none told has =
    elim (whole words none) [
      | inl is ↦ absurd (true≢false (sym (has is)))
      | inr lacks ↦ inr lacks
    ]
