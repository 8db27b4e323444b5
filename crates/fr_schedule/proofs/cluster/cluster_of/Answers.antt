use Rattle.std.proofs.Common.{◌≡◌, ◌≤◌, length, map, Some, None, Result, Err, rules, sym, ap, subst, ◌∙◌}
use Rattle.std.proofs.lemmas.List.{length-map}
use Rattle.fr_schedule.proofs.FileLemmas.{params_refused, guard_refused, nodes_refused, plans_refused, plans_read}
use Rattle.fr_schedule.proofs.FileLemmas.{each_of-length}
use Rattle.fr_schedule.specs.Descriptions.{Description}
use Rattle.fr_schedule.specs.declared.error.ConfigError.{ConfigError}
use Rattle.fr_schedule.specs.Files.{nodes_in, plan_of}
use Rattle.toml.specs.View.{view, table_view}
use Rattle.fr_schedule.proofs.cluster.cluster_of.Goals as goal

pub returns-in_err-params-clause-told : goal.returns-in_err-params-clause-told
returns-in_err-params-clause-told c =
    let gone : c.from_residual.result ≡ Err c.in_err-params.field-0.0 = search rules in
    λ other. gone ∙ sym (params_refused (table_view c.args.root.now) _ (sym c.in_err-params.ensures.value))

pub returns-in_err-guard-clause-told : goal.returns-in_err-guard-clause-told
returns-in_err-guard-clause-told c =
    let gone : c.from_residual-in_err-guard.result ≡ Err c.in_err-guard.field-0.0 = search rules in
    λ other. gone ∙ sym (guard_refused (table_view c.args.root.now) c.in_ok-params.params
    (sym c.in_ok-params.ensures.value) _ (sym c.in_err-guard.ensures))

pub returns-in_default-clause-told : goal.returns-in_default-clause-told
returns-in_default-clause-told c =
    let root = table_view c.args.root.now in
    let none : nodes_in root ≡ None = search rules in
    λ other. sym (nodes_refused root c.in_ok-params.params (sym c.in_ok-params.ensures.value) c.in_ok-guard.guard
    (sym c.in_ok-guard.ensures) none)

pub returns-in_err-plans-clause-told : goal.returns-in_err-plans-clause-told
returns-in_err-plans-clause-told c =
    let root = table_view c.args.root.now in
    let p = c.in_ok-params.params in
    let values = map view c.in-Some.values.now in
    let found : nodes_in root ≡ Some values = search rules in
    let gone : c.from_residual-in_err-plans.result ≡ Err c.in_err-plans.field-0.0 = search rules in
    λ other.
    gone
    ∙ sym (plans_refused root p (sym c.in_ok-params.ensures.value) c.in_ok-guard.guard
    (sym c.in_ok-guard.ensures) values found _
    (c.in_err-plans.ensures.refused (λ memory. other (gone ∙ ap
    (λ (e : ConfigError). let r : Result Description ConfigError = Err e in r) memory))))

pub from_plans-requires-clause-some : goal.from_plans-requires-clause-some
from_plans-requires-clause-some c =
    let p = c.in_ok-params.params in
    let plans = c.in_ok-plans.plans.items in
    let as_many = each_of-length (plan_of p) 0 (map view c.in-Some.values.now) plans c.in_ok-plans.ensures.plans in
    let some : 1 ≤ length c.in-Some.values.now = search rules in
    subst (λ n. 1 ≤ n) (sym (as_many ∙ length-map c.in-Some.values.now view)) some

pub from_plans-requires-clause-few : goal.from_plans-requires-clause-few
from_plans-requires-clause-few c =
    let p = c.in_ok-params.params in
    let plans = c.in_ok-plans.plans.items in
    let as_many = each_of-length (plan_of p) 0 (map view c.in-Some.values.now) plans c.in_ok-plans.ensures.plans in
    let few : length c.in-Some.values.now ≤ 16 = search rules in
    subst (λ n. n ≤ 16) (sym (as_many ∙ length-map c.in-Some.values.now view)) few

pub returns-clause-told : goal.returns-clause-told
returns-clause-told c =
    let root = table_view c.args.root.now in
    let p = c.in_ok-params.params in
    let plans = c.in_ok-plans.plans.items in
    let values = map view c.in-Some.values.now in
    let found : nodes_in root ≡ Some values = search rules in
    λ other.
    c.from_plans.ensures.told other
    ∙ sym (plans_read root p (sym c.in_ok-params.ensures.value) c.in_ok-guard.guard
    (sym c.in_ok-guard.ensures) values found plans c.in_ok-plans.ensures.plans)
