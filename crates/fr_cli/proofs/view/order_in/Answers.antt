use Rattle.std.proofs.Common.{rules, ap, sym, codes, ◌≡◌, ◌∙◌}
use Rattle.clap.proofs.WalkLemmas.{first_value-rows}
use Rattle.clap.specs.Words.{Text, first_value, found_of, rows_of, subcommand_rows_of}
use Rattle.fr_cli.proofs.ViewLemmas.{latency_lacks, latency_told, links_lacks, links_told}
use Rattle.fr_cli.proofs.ViewLemmas.{schedule_lacks, schedule_told, show_lacks, show_told}
use Rattle.fr_cli.proofs.CommandLemmas.{word_of_rows}
use Rattle.fr_cli.proofs.view.order_in.Goals as goal
use Rattle.fr_cli.specs.Commands.{IsNamed, is_true, word_in}

pub returns-in-schedule-clause-told : goal.returns-in-schedule-clause-told
returns-in-schedule-clause-told c =
    let entered = subcommand_rows_of c.args.matches.now in
    let found = found_of c.in_ok-name.arguments.now in
    let named : IsNamed (codes "schedule") entered = search rules in
    let words : (id : Text) → first_value found id ≡ word_in entered id =
    λ id. first_value-rows found id ∙ sym (word_of_rows entered (rows_of found) id (search rules)) in
    schedule_told entered (first_value found) c.schedule_in.result named words c.schedule_in.ensures.told

pub returns-in-schedule-clause-nothing : goal.returns-in-schedule-clause-nothing
returns-in-schedule-clause-nothing c =
    let entered = subcommand_rows_of c.args.matches.now in
    let found = found_of c.in_ok-name.arguments.now in
    let named : IsNamed (codes "schedule") entered = search rules in
    let words : (id : Text) → first_value found id ≡ word_in entered id =
    λ id. first_value-rows found id ∙ sym (word_of_rows entered (rows_of found) id (search rules)) in
    schedule_lacks entered (first_value found) c.schedule_in.result named words c.schedule_in.ensures.nothing

pub returns-in-latency-clause-told : goal.returns-in-latency-clause-told
returns-in-latency-clause-told c =
    let entered = subcommand_rows_of c.args.matches.now in
    let found = found_of c.in_ok-name.arguments.now in
    let named : IsNamed (codes "latency") entered = search rules in
    let words : (id : Text) → first_value found id ≡ word_in entered id =
    λ id. first_value-rows found id ∙ sym (word_of_rows entered (rows_of found) id (search rules)) in
    latency_told entered (first_value found) c.latency_in.result named words c.latency_in.ensures.told

pub returns-in-latency-clause-nothing : goal.returns-in-latency-clause-nothing
returns-in-latency-clause-nothing c =
    let entered = subcommand_rows_of c.args.matches.now in
    let found = found_of c.in_ok-name.arguments.now in
    let named : IsNamed (codes "latency") entered = search rules in
    let words : (id : Text) → first_value found id ≡ word_in entered id =
    λ id. first_value-rows found id ∙ sym (word_of_rows entered (rows_of found) id (search rules)) in
    latency_lacks entered (first_value found) c.latency_in.result named words c.latency_in.ensures.nothing

pub returns-in-links-clause-told : goal.returns-in-links-clause-told
returns-in-links-clause-told c =
    let entered = subcommand_rows_of c.args.matches.now in
    let found = found_of c.in_ok-name.arguments.now in
    let named : IsNamed (codes "links") entered = search rules in
    let words : (id : Text) → first_value found id ≡ word_in entered id =
    λ id. first_value-rows found id ∙ sym (word_of_rows entered (rows_of found) id (search rules)) in
    links_told entered (first_value found) c.links_in.result named words c.links_in.ensures.told

pub returns-in-links-clause-nothing : goal.returns-in-links-clause-nothing
returns-in-links-clause-nothing c =
    let entered = subcommand_rows_of c.args.matches.now in
    let found = found_of c.in_ok-name.arguments.now in
    let named : IsNamed (codes "links") entered = search rules in
    let words : (id : Text) → first_value found id ≡ word_in entered id =
    λ id. first_value-rows found id ∙ sym (word_of_rows entered (rows_of found) id (search rules)) in
    links_lacks entered (first_value found) c.links_in.result named words c.links_in.ensures.nothing

pub returns-in-capture-clause-told : goal.returns-in-capture-clause-told
returns-in-capture-clause-told c =
    let entered = subcommand_rows_of c.args.matches.now in
    let found = found_of c.in_ok-name.arguments.now in
    let named : IsNamed (codes "capture") entered = search rules in
    let words : (id : Text) → first_value found id ≡ word_in entered id =
    λ id. first_value-rows found id ∙ sym (word_of_rows entered (rows_of found) id (search rules)) in (
      named,
      c.flags_in-until_fault.ensures.until_fault ∙ ap is_true (words (codes "until-fault")),
      c.flags_in-until_fault.ensures.more ∙ ap is_true (words (codes "own")),
    )

pub returns-in-frames-clause-told : goal.returns-in-frames-clause-told
returns-in-frames-clause-told c =
    let entered = subcommand_rows_of c.args.matches.now in
    let found = found_of c.in_ok-name.arguments.now in
    let named : IsNamed (codes "frames") entered = search rules in
    let words : (id : Text) → first_value found id ≡ word_in entered id =
    λ id. first_value-rows found id ∙ sym (word_of_rows entered (rows_of found) id (search rules)) in (
      named,
      c.flags_in-until_fault-in-frames.ensures.until_fault ∙ ap is_true (words (codes "until-fault")),
      c.flags_in-until_fault-in-frames.ensures.more ∙ ap is_true (words (codes "all")),
    )

pub returns-in_default-clause-told : goal.returns-in_default-clause-told
returns-in_default-clause-told c =
    let entered = subcommand_rows_of c.args.matches.now in
    let found = found_of c.in_ok-name.arguments.now in
    let named : IsNamed c.in_ok-name.name.now entered = search rules in
    let words : (id : Text) → first_value found id ≡ word_in entered id =
    λ id. first_value-rows found id ∙ sym (word_of_rows entered (rows_of found) id (search rules)) in
    show_told entered c.in_ok-name.name.now (first_value found) c.show_in.result named words c.show_in.ensures.told

pub returns-in_default-clause-nothing : goal.returns-in_default-clause-nothing
returns-in_default-clause-nothing c =
    let entered = subcommand_rows_of c.args.matches.now in
    let found = found_of c.in_ok-name.arguments.now in
    let named : IsNamed c.in_ok-name.name.now entered = search rules in
    let words : (id : Text) → first_value found id ≡ word_in entered id =
    λ id. first_value-rows found id ∙ sym (word_of_rows entered (rows_of found) id (search rules)) in
    show_lacks entered c.in_ok-name.name.now (first_value found) c.show_in.result named (search rules) (search rules)
    (search rules) (search rules) (search rules) (search rules) (search rules)
    words c.show_in.ensures.nothing
