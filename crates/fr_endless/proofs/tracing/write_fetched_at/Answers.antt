use Rattle.std.proofs.Common.{rules, ◌≡◌, ◌∙◌, ap, Option}
use Rattle.std.specs.Prelude.{OnOk}
use Rattle.fr_endless.proofs.TraceLemmas.{fetch_at, fetch_idle, fetch_past}
use Rattle.fr_endless.specs.Tracing.{line_in}
use Rattle.fr_journal.specs.Forms.{Entry}
use Rattle.fr_endless.proofs.tracing.write_fetched_at.Goals as goal

pub returns-then-place-interfaces : goal.returns-then-place-interfaces
returns-then-place-interfaces c =
    let place : c.from-place.result ≡ c.args.node = search rules in
    λ w is there. c.requires ∙ ap line_in
    (fetch_past c.args.world.now c.args.node c.from-place.result c.interfaces-interfaces.result.now
    c.interfaces-interfaces.ensures place c.if-place-interfaces.true w is there)

pub returns-then-place-controllers : goal.returns-then-place-controllers
returns-then-place-controllers c =
    let place : c.from-place.result ≡ c.args.node = search rules in
    λ w is there. c.requires ∙ ap line_in
    (fetch_idle c.args.world.now c.args.node c.from-place.result c.controllers-controllers.result.now
    c.controllers-controllers.ensures place c.if-place-controllers.true w is)

pub returns : goal.returns
returns c =
    let place : c.from-place.result ≡ c.args.node = search rules in
    λ w is there. fetch_at c.args.world.now c.args.node c.from-place.result c.interfaces-interfaces.result.now
    c.controllers-controllers.result.now c.index-interfaces-place.result c.index-controllers-place.result
    (λ (e : Option Entry). OnOk c.write_fetched.result (c.write_fetched.new.line.items ≡ line_in e))
    c.interfaces-interfaces.ensures c.controllers-controllers.ensures place c.if-place-interfaces.false
    c.if-place-controllers.false
    c.index-interfaces-place.is c.index-controllers-place.is c.write_fetched.ensures w is
