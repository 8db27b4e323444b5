use Rattle.std.proofs.Common.{◌≡◌, List, ℕ, ap, replicate, subst, sym, ◌∙◌}
use Rattle.fr_schedule.proofs.DenseSenderLemmas.{free_from, free_is}
use Rattle.fr_schedule.specs.DenseTable.{AreEntered, IsFree, free, nobody}
use Rattle.fr_schedule.proofs.senders.enter_anew.Goals as goal

pub returns-clause-table : goal.returns-clause-table
returns-clause-table c =
    let freed : c.fill.new.self ≡ free =
    free_from c.fill.new.self (c.fill.ensures.after (λ y is. is) ∙ ap (λ n. replicate n nobody) c.requires) in
    subst (λ (old : List ℕ). AreEntered c.args.claims.now old c.enter_all.new.nodes) freed c.enter_all.ensures.entered

pub returns-clause-first : goal.returns-clause-first
returns-clause-first c =
    let freed : c.fill.new.self ≡ free =
    free_from c.fill.new.self (c.fill.ensures.after (λ y is. is) ∙ ap (λ n. replicate n nobody) c.requires) in
    c.enter_all.ensures.first (subst (λ (nodes : List ℕ). IsFree nodes) (sym freed) free_is)
