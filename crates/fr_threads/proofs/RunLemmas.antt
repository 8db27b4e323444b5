-- A cross-check of the same interfaces and scripts.
use Rattle.std.proofs.Common.{◌≡◌, List, Ok, subst}
use Rattle.fr_bus.specs.Record.{Recorded}
use Rattle.fr_core.specs.declared.settle.Settled.{Settled}
use Rattle.fr_core.specs.Scripts.{Scripted}
use Rattle.fr_core.specs.Settling.{Settles}
use Rattle.fr_interface.specs.State.{State}
use Rattle.fr_schedule.specs.Descriptions.{Description}

pub settles_same : (d : Description) (is js : List State) (rs : List Recorded) (xs ys : List Scripted) (s : Settled)
    → is ≡ js → xs ≡ ys → Settles d is rs xs (Ok s) → Settles d js rs ys (Ok s)
settles_same d is js rs xs ys s same_interfaces same_scripts settled =
    subst (λ zs. Settles d js rs zs (Ok s)) same_scripts
    (subst (λ ks. Settles d ks rs xs (Ok s)) same_interfaces settled)
