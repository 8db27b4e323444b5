use Rattle.std.proofs.Common.{◌∙◌, ap, refl}
use Rattle.std.specs.Prelude.{slice_set}
use Rattle.fr_bus.specs.States.{BusState}
use Rattle.fr_desks.specs.declared.letter.Observations.{Observations}
use Rattle.fr_desks.proofs.LetterLemmas.{seen_more, seen_none, sees_same}
use Rattle.fr_desks.proofs.letter.take_each.Goals as goal

pub loop-at-init : goal.loop-at-init
loop-at-init c = record { seen = seen_none c.args.bus.now c.args.places.now; cluster = refl; sealed = refl }

pub loop-at-preserved : goal.loop-at-preserved
loop-at-preserved c =
    let n = c.loop-at.at in
    let before = c.loop-at.invariant in
    let same = sees_same c.loop-at.bus c.args.bus.now n before.cluster before.sealed in
    record {
      seen = seen_more c.args.bus.now n c.loop-at.places c.take_at.new.places c.in_ok-take_at.ensures.within
          (c.in_ok-take_at.ensures.places
          ∙ ap (λ (o : Observations). slice_set c.loop-at.places n o) same) before.seen;
      cluster = ap (λ (b : BusState). b.cluster) c.in_ok-take_at.ensures.bus ∙ before.cluster;
      sealed = ap (λ (b : BusState). b.sealed) c.in_ok-take_at.ensures.bus ∙ before.sealed;
    }
