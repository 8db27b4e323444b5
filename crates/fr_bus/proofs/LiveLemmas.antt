-- What is heard in the last window of a bus without a record.
use Rattle.std.proofs.Common.{◌≡◌, Option, sym, ap, ◌∙◌}
use Rattle.fr_bus.specs.Record.{Recorded, heard_last}
use Rattle.fr_bus.specs.Standing.{BusStanding}
use Rattle.fr_schedule.specs.Descriptions.{Description}
use Rattle.fr_slots.specs.declared.channel.Channel.{Channel}
use Rattle.fr_status.specs.Forms.{Seen}

-- it stays as long as the cluster and the last window do
pub heard_stays : (new old : BusStanding) (last : Option Recorded) (channel : Channel) (seen : Seen)
    → new.cluster ≡ old.cluster → seen ≡ heard_last old.cluster.params last channel
    → seen ≡ heard_last new.cluster.params last channel
heard_stays new old last channel seen same is =
    is ∙ ap (λ (d : Description). heard_last d.params last channel) (sym same)
