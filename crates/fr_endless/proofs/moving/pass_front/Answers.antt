use Rattle.std.proofs.Common.{◌≡◌, ◌++◌, arith, ap, length, length-append}
use Rattle.fr_endless.specs.Fronts.{events_of}
use Rattle.fr_endless.proofs.TraceLemmas.{front_none, front_told}
use Rattle.fr_endless.proofs.moving.pass_front.Goals as goal

pub returns-then-is_traced-clause-accepts : goal.returns-then-is_traced-clause-accepts
returns-then-is_traced-clause-accepts g c = front_none c.args.world.now c.args.taps.now c.args.events.now

pub returns-clause-accepts : goal.returns-clause-accepts
returns-clause-accepts g c =
    front_told c.args.world.now c.pass.new.self c.args.taps.now c.front_of-front.result c.pass.result
    c.args.events.now c.front_of-front.ensures.first.0 (c.is_traced.ensures c.if-is_traced.false) c.pass.ensures.few
    c.front_of-front.ensures.first.1 c.pass.ensures.accepts

pub returns-clause-few : goal.returns-clause-few
returns-clause-few g c =
    let rest = c.front_of-front.ensures.first.0 in
    let all : length c.args.events.now ≡ length (events_of c.front_of-front.result ++ rest) =
    ap length c.front_of-front.ensures.first.1 in
    omega (arith, c.pass.ensures.few, all, length-append (events_of c.front_of-front.result) rest)
