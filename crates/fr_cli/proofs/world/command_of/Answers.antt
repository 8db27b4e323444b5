use Rattle.std.proofs.Common.{rules, ap, sym, subst, map, ◌≡◌, ◌∙◌, [], List}
use Rattle.clap.proofs.WalkLemmas.{first_value-rows}
use Rattle.clap.specs.Words.{HasKind, Text, fault_of, first_of, first_value, found_of, is_simple}
use Rattle.clap.specs.Words.{is_simple_and_free, matches_of, rows_of}
use Rattle.fr_cli.proofs.WorldLemmas.{are_free, are_simple, given_alike, refused_for, taken_for}
use Rattle.fr_cli.specs.WorldCommands.{IsAnswer, entered, the_command}
use Rattle.fr_cli.proofs.world.command_of.Goals as goal

pub returns-in_err-matches : goal.returns-in_err-matches
returns-in_err-matches c =
    let words : List Text = map (λ word. word.now) c.args.words.now in
    let is = c.in_ok-the_command.ensures in
    let e = c.in_err-matches.field-0.0 in
    let kinds : HasKind (fault_of the_command words) e =
    subst (λ a. HasKind (fault_of a words) e) is (c.in_err-matches.ensures.kinds (ap is_simple_and_free is ∙ are_free))
    in
    let answer = refused_for words e kinds in
    search rules

pub returns : goal.returns
returns c =
    let words : List Text = map (λ word. word.now) c.args.words.now in
    let is = c.in_ok-the_command.ensures in
    let found = found_of c.in_ok-matches.matches in
    let none : fault_of the_command words ≡ [] =
    ap (λ a. fault_of a words) (sym is) ∙ c.in_ok-matches.ensures.kinds (ap is_simple_and_free is ∙ are_free) in
    let rows : rows_of found ≡ matches_of the_command words =
    (c.in_ok-matches.ensures.matches (ap is_simple is ∙ are_simple)).0 ∙ ap (λ a. matches_of a words) is in
    let same : (id : Text) → first_value found id ≡ entered words id =
    λ id. first_value-rows found id ∙ ap (first_of id) rows in
    let given = c.given_in.ensures ∙ given_alike (first_value found) (entered words) same in
    subst (IsAnswer words) (sym c.ok_or.ensures.value) (taken_for words c.given_in.result none given)
