use Rattle.std.proofs.Common.{◌≡◌, List, Some, slice_get, refl, subst}
use Rattle.std.proofs.lemmas.Option.{slice_get_read}
use Rattle.fr_slots.specs.declared.plan.Buffer.{Buffer}
use Rattle.fr_latency.proofs.UsedLemmas.{used_of}
use Rattle.fr_latency.proofs.load.spare_of.Goals as goal

pub spare_for-requires-clause-used : goal.spare_for-requires-clause-used
spare_for-requires-clause-used c =
    let plan = c.args.plan.now in
    let index = c.loop-buffer.buffer-index in
    let here = slice_get_read c.buffers-buffer-items.result.now _ index c.buffer-item.result refl
    c.loop-buffer-test.true
    c.buffer-item.is in
    let there = subst (λ (bs : List Buffer). slice_get bs index ≡ Some c.buffer-item.result)
    c.buffers-buffer-items.ensures.value here in
    used_of c.args.cluster.now c.params.ensures.lawful c.args.node plan c.requires.node index c.buffer-item.result there
