use Rattle.std.proofs.Common.{◌≡◌, ◌≤◌, rules, length, map, replicate, sym, ap, subst, ◌∙◌}
use Rattle.std.proofs.lemmas.List.{length-map}
use Rattle.fr_core.specs.Carried.{Idle}
use Rattle.fr_core.specs.Worlds.{new_interface}
use Rattle.fr_live.proofs.LeadLemmas.{as_many}
use Rattle.fr_live.proofs.RoomLemmas.{IsRoom, roomless_same, cluster_raised, opening_interfaces}
use Rattle.fr_live.specs.LiveWorlds.{AreHistories, new_with, with_room}
use Rattle.fr_slots.specs.Numbers.{last_host_limit, last_slot_limit}
use Rattle.fr_slots.specs.Plans.{Plan, with_limits}
use Rattle.fr_live.proofs.machine.LiveMachine.new.Goals as goal

pub returns : goal.returns
returns c =
    let d = c.args.cluster.now in
    let room = c.args.room.now in
    let fits : IsRoom room = record {
      some_host = subst (λ n. 1 ≤ n) c.host-host.ensures.value c.host-host.ensures.some;
      host_fits = subst (λ n. n ≤ last_host_limit) c.host-host.ensures.value c.host-host.ensures.fits;
      some_slot = subst (λ n. 2 ≤ n) c.slot-slot.ensures.value c.slot-slot.ensures.some;
      slot_fits = subst (λ n. n ≤ last_slot_limit) c.slot-slot.ensures.value c.slot-slot.ensures.fits;
    } in
    let states : map (new_with c.params.result.now room) c.plans.result.now
    ≡ map (new_interface d.params) (map (λ (p : Plan). with_limits p room.host room.slot) d.plans) =
    (λ i. map (new_with (c.params.ensures.value i) room) (c.plans.ensures.value i))
    ∙ opening_interfaces room d.params d.plans in
    let interfaces = subst (AreHistories c.in-Ok.interfaces.items) states c.in-Ok.ensures in
    let many : length c.in-Ok.interfaces.items ≡ length (with_room room d).plans =
    as_many c.in-Ok.interfaces.items _ interfaces ∙ length-map (with_room room d).plans (new_interface d.params) in
    let counted : c.len.result ≡ length c.in-Ok.interfaces.items = search rules in
    let idle = c.in-Ok-idle_controllers.ensures ∙ ap (λ n. replicate n Idle) (counted ∙ many) in
    let bus = c.in_ok-bus.ensures.1 (with_room room d) (cluster_raised room fits d c.params.ensures.lawful)
    (roomless_same room d) in
    (c.in_ok-bus.ensures.0, record { interfaces_are = interfaces; bus_is = bus; carried_are = sym idle })
