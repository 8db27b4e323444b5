use Rattle.std.proofs.Common.{rules, ap, sym, subst, ◌≡◌, ◌∙◌, [], map, true, List}
use Rattle.std.specs.Prelude.{IfSome, IsSome}
use Rattle.clap.specs.Words.{HasKind, Text, app_of, fault_of, is_simple, is_simple_and_free, subcommand_of}
use Rattle.clap.specs.Words.{subcommand_rows_of}
use Rattle.fr_cli.specs.BenchOrders.{IsAnswer, IsOrder, IsWhole, the_commands}
use Rattle.fr_cli.proofs.BenchLemmas.{are_free, are_simple, refused_for, taken_for}
use Rattle.fr_cli.proofs.bench.order.Goals as goal

pub returns-in_err-matches : goal.returns-in_err-matches
returns-in_err-matches c =
    let words : List Text = map (λ word. word.now) c.args.words.now in
    let free : is_simple_and_free (app_of c.in_ok-commands.field-0) ≡ true =
    ap is_simple_and_free c.in_ok-commands.ensures ∙ are_free in
    let e = c.in_err-matches.field-0.0 in
    let kinds : HasKind (fault_of the_commands words) e =
    subst (λ a. HasKind (fault_of a words) e) c.in_ok-commands.ensures (c.in_err-matches.ensures.kinds free) in
    let answer = refused_for words e kinds in
    search rules

pub returns : goal.returns
returns c =
    let words : List Text = map (λ word. word.now) c.args.words.now in
    let is = c.in_ok-commands.ensures in
    let none : fault_of the_commands words ≡ [] =
    ap (λ a. fault_of a words) (sym is) ∙ c.in_ok-matches.ensures.kinds (ap is_simple_and_free is ∙ are_free) in
    let entered : subcommand_rows_of c.in_ok-matches.matches ≡ subcommand_of the_commands words =
    (c.in_ok-matches.ensures.matches (ap is_simple is ∙ are_simple)).1 ∙ ap (λ a. subcommand_of a words) is in
    let told = subst (λ x. IfSome c.order_in.result (IsOrder x)) entered c.order_in.ensures.told in
    let has = subst (λ x. IsWhole x → IsSome c.order_in.result) entered c.order_in.ensures.whole in
    subst (IsAnswer words) (sym c.ok_or.ensures.value) (taken_for words c.order_in.result none told has)
