-- The observation in the last window of a bus stays the same while its cluster and its record do.
use Rattle.std.proofs.Common.{Result, Ok, Err, sym, subst, length, ◌∙◌}
use Rattle.std.specs.Prelude.{◌≡◌, ◌-◌, OnOk, OnErr, slice_get}
use Rattle.fr_bus.proofs.StandingLemmas.{KeepsRecord}
use Rattle.fr_bus.specs.declared.error.BusError.{BusError}
use Rattle.fr_bus.specs.Record.{heard_last}
use Rattle.fr_bus.specs.States.{BusState, last_heard}
use Rattle.fr_core.specs.Hearing.{AreHeard}
use Rattle.fr_slots.specs.declared.channel.Channel.{Channel}
use Rattle.fr_slots.specs.declared.channel.Channel.TheVariants.{A, B}
use Rattle.fr_status.specs.Forms.{Seen}

heard_still : (old b : BusState) (channel : Channel) (seen : Seen) → KeepsRecord old b → seen ≡ last_heard old channel
    → seen ≡ last_heard b channel
heard_still old b channel seen same heard = heard
    ∙ sym (λ j. heard_last (same.cluster j).params (slice_get (same.sealed j) (length (same.sealed j) - 1)) channel)

-- a call that leads to this bus, or to none
module _ {X : Type 0} (old new b : BusState) (on_a on_b : Seen) (heard : AreHeard old on_a on_b)
    (same : KeepsRecord old b) where
  pub heard_either : (r : Result X BusError) → OnOk r (new ≡ b) → OnErr r (new ≡ old) → AreHeard new on_a on_b
  heard_either (Ok x) accepted refused = subst (λ (n : BusState). AreHeard n on_a on_b) (sym accepted)
      (record {
        on_a = heard_still old b A on_a same heard.on_a;
        on_b = heard_still old b B on_b same heard.on_b;
      })
  heard_either (Err e) accepted refused = subst (λ (n : BusState). AreHeard n on_a on_b) (sym refused) heard
