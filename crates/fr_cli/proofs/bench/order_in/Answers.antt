use Rattle.std.proofs.Common.{rules, sym, codes, ◌≡◌, ◌∙◌, Some, None}
use Rattle.clap.proofs.WalkLemmas.{first_value-rows}
use Rattle.clap.specs.Words.{Text, first_of, first_value, found_of, rows_of, subcommand_rows_of}
use Rattle.fr_cli.specs.BenchOrders.{file_in}
use Rattle.fr_cli.proofs.BenchLemmas.{check_has_file, file_of_rows, none_has_none, plan_has_file, run_has_all, run_told}
use Rattle.fr_cli.proofs.CommandLemmas.{has_run_alike, word_of_rows}
use Rattle.fr_cli.proofs.bench.order_in.Goals as goal
use Rattle.fr_cli.specs.Commands.{IsNamed, word_in}

pub returns-in_ok-get_str-in-check-clause-told : goal.returns-in_ok-get_str-in-check-clause-told
returns-in_ok-get_str-in-check-clause-told c =
    let rows = rows_of (found_of c.in_ok-name.arguments.now) in
    let first : first_of (codes "FILE") rows ≡ Some c.in_ok-get_str-in-check.field-0.now =
    sym (first_value-rows (found_of c.in_ok-name.arguments.now) (codes "FILE")) ∙ search rules in
    (search rules, file_of_rows (subcommand_rows_of c.args.matches.now) rows (search rules) ∙ first)

pub returns-in_ok-get_str-in-plan-clause-told : goal.returns-in_ok-get_str-in-plan-clause-told
returns-in_ok-get_str-in-plan-clause-told c =
    let rows = rows_of (found_of c.in_ok-name.arguments.now) in
    let first : first_of (codes "FILE") rows ≡ Some c.in_ok-get_str-in-plan.field-0.now =
    sym (first_value-rows (found_of c.in_ok-name.arguments.now) (codes "FILE")) ∙ search rules in
    (search rules, file_of_rows (subcommand_rows_of c.args.matches.now) rows (search rules) ∙ first)

pub returns-in_err-get_str-in-check-clause-whole : goal.returns-in_err-get_str-in-check-clause-whole
returns-in_err-get_str-in-check-clause-whole c h =
    let entered = subcommand_rows_of c.args.matches.now in
    let rows = rows_of (found_of c.in_ok-name.arguments.now) in
    let first : first_of (codes "FILE") rows ≡ None = sym (first_value-rows (found_of c.in_ok-name.arguments.now)
    (codes "FILE")) ∙ search rules in
    let file : file_in entered ≡ None = file_of_rows entered rows (search rules) ∙ first in
    let named : IsNamed (codes "check") entered = search rules in
    absurd (none_has_none (file_in entered) file (check_has_file entered named h))

pub returns-in_err-get_str-in-plan-clause-whole : goal.returns-in_err-get_str-in-plan-clause-whole
returns-in_err-get_str-in-plan-clause-whole c h =
    let entered = subcommand_rows_of c.args.matches.now in
    let rows = rows_of (found_of c.in_ok-name.arguments.now) in
    let first : first_of (codes "FILE") rows ≡ None = sym (first_value-rows (found_of c.in_ok-name.arguments.now)
    (codes "FILE")) ∙ search rules in
    let file : file_in entered ≡ None = file_of_rows entered rows (search rules) ∙ first in
    let named : IsNamed (codes "plan") entered = search rules in
    absurd (none_has_none (file_in entered) file (plan_has_file entered named h))

pub returns-in-run-clause-told : goal.returns-in-run-clause-told
returns-in-run-clause-told c =
    let entered = subcommand_rows_of c.args.matches.now in
    let found = found_of c.in_ok-name.arguments.now in
    let named : IsNamed (codes "run") entered = search rules in
    let words : (id : Text) → first_value found id ≡ word_in entered id =
    λ id. first_value-rows found id ∙ sym (word_of_rows entered (rows_of found) id (search rules)) in
    run_told entered (first_value found) c.run_in.result named words c.run_in.ensures.told

pub returns-in-run-clause-whole : goal.returns-in-run-clause-whole
returns-in-run-clause-whole c h =
    let entered = subcommand_rows_of c.args.matches.now in
    let found = found_of c.in_ok-name.arguments.now in
    let named : IsNamed (codes "run") entered = search rules in
    let words : (id : Text) → first_value found id ≡ word_in entered id =
    λ id. first_value-rows found id ∙ sym (word_of_rows entered (rows_of found) id (search rules)) in
    c.run_in.ensures.whole (has_run_alike (first_value found) (word_in entered) words ∙ run_has_all entered named h)
