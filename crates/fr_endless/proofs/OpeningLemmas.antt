-- An opening world is one of its cluster.
use Rattle.std.proofs.Common.{◌≡◌, ◌∙◌, ℕ, ap, sym, Ok}
use Rattle.fr_bus.specs.Standing.{BusStanding, roomless}
use Rattle.fr_core.specs.Worlds.{WorldState, opening_world}
use Rattle.fr_endless.specs.Serving.{IsOf}
use Rattle.fr_live.proofs.RoomLemmas.{roomless_same}
use Rattle.fr_live.specs.LiveWorlds.{Entries, IsWorldHistory, LiveState, OpensLiveWorld, with_room}
use Rattle.fr_schedule.specs.Descriptions.{Description}

-- two worlds that lead to the same data are of one cluster and of as many cycles
two_alike : (l : LiveState) (w v : WorldState) → IsWorldHistory l w → IsWorldHistory l v
    → (roomless w.bus.cluster ≡ roomless v.bus.cluster) × (w.bus.cycles ≡ v.bus.cycles)
two_alike l w v one other =
    let of_one = one.leads.bus_is.of_bus in
    let of_other = other.leads.bus_is.of_bus in (
      of_one.alike ∙ sym of_other.alike,
      ap (λ (h : BusStanding). h.cycles) of_one.leaves ∙ sym (ap (λ (h : BusStanding). h.cycles) of_other.leaves),
    )

pub opens_of : (d : Description) (cycles : ℕ) (room : Entries) (l : LiveState) → OpensLiveWorld d cycles room (Ok l)
    → IsOf d cycles l
opens_of d cycles room l opens w is =
    let same = two_alike l w (opening_world (with_room room d) cycles) is opens.1 in
    (same.0 ∙ roomless_same room d, same.1)
