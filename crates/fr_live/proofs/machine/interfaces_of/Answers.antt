use Rattle.std.proofs.Common.{◌≡◌, rules, ◌+◌, List, ◌∷◌, [], ◌++◌, take, map, sym, ap, subst, ◌∙◌}
use Rattle.std.proofs.lemmas.List.{take_more, map-append}
use Rattle.fr_core.specs.Worlds.{new_interface}
use Rattle.fr_interface.specs.Standing.{Standing, IsHistory}
use Rattle.fr_interface.specs.State.{State}
use Rattle.fr_live.proofs.RoomLemmas.{histories_more}
use Rattle.fr_live.specs.LiveWorlds.{AreHistories, new_with}
use Rattle.fr_slots.specs.Plans.{Plan, with_limits}
use Rattle.fr_live.proofs.machine.interfaces_of.Goals as goal

pub loop-plan-preserved : goal.loop-plan-preserved
loop-plan-preserved c =
    let params = c.args.params.now in
    let room = c.args.room.now in
    let plans = c.args.plans.now in
    let k = c.loop-plan.plan-index in
    let plan = c.plan-item.result in
    let made = c.in_ok-interface.interface in
    let pushed : c.push.new.self.items ≡ c.loop-plan.list.items ++ made ∷ [] = search rules in
    let more : take (k + 1) plans ≡ take k plans ++ plan ∷ [] =
    take_more plans k plan c.loop-plan-test.true ∙ ap (λ (p : Plan). take k plans ++ p ∷ []) (sym c.plan-item.is) in
    let history : IsHistory made (new_with params room plan) = subst (IsHistory made)
    (λ i. new_interface params (with_limits plan (c.host.ensures.value i) (c.slot.ensures.value i)))
    c.in_ok-interface.ensures.history in
    subst (λ (ss : List State). AreHistories c.push.new.self.items ss)
    (sym (ap (map (new_with params room)) more ∙ map-append (new_with params room) (take k plans) (plan ∷ [])))
    (subst (λ (hs : List Standing). AreHistories hs (map (new_with params room) (take k plans)
    ++ new_with params room plan ∷ [])) (sym pushed)
    (histories_more c.loop-plan.list.items (map (new_with params room) (take k plans)) made (new_with params room plan)
    c.loop-plan.invariant history))
