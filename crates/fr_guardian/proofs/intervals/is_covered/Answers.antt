use Rattle.std.proofs.Common.{leb, List, rules, arith}
use Rattle.std.proofs.lemmas.List.Sorted.{IsPartitionPoint-from_clause, IsPartitionedBy-leb}
use Rattle.fr_guardian.specs.Intervals.{Span}
use Rattle.fr_guardian.proofs.SearchLemmas.{starts_rise, found_some, found_none}
use Rattle.fr_guardian.proofs.intervals.is_covered.Goals as goal

pub returns-then-started-gt0 : goal.returns-then-started-gt0
returns-then-started-gt0 c =
    let xs : List Span = c.args.spans.now in
    let parted = IsPartitionedBy-leb (λ (x : Span). x.0) xs c.args.macrotick
    (starts_rise xs c.requires.not_empty c.requires.apart) in
    let point = IsPartitionPoint-from_clause (λ (x : Span). leb x.0 c.args.macrotick) _ _
    c.partition_point-started.ensures.partitioned parted (λ a r q k. search rules) in
    found_some xs c.requires.not_empty c.requires.apart c.args.macrotick c.partition_point-started.result
    c.partition_point-started.ensures.bound point (omega (arith, c.if-started-gt0.true))

pub returns-else-started-gt0 : goal.returns-else-started-gt0
returns-else-started-gt0 c =
    let xs : List Span = c.args.spans.now in
    let parted = IsPartitionedBy-leb (λ (x : Span). x.0) xs c.args.macrotick
    (starts_rise xs c.requires.not_empty c.requires.apart) in
    let point = IsPartitionPoint-from_clause (λ (x : Span). leb x.0 c.args.macrotick) _ _
    c.partition_point-started.ensures.partitioned parted (λ a r q k. search rules) in
    found_none xs c.requires.not_empty c.requires.apart c.args.macrotick c.partition_point-started.result
    c.partition_point-started.ensures.bound point (omega (arith, c.if-started-gt0.false))
