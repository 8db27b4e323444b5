use Rattle.std.proofs.Common.{◌≡◌, ◌+◌, ◌-◌, ◌≤◌, length, true, ◌||◌, arith, rules, ap}
use Rattle.fr_slots.specs.Faults.{latest_on}
use Rattle.fr_latency.specs.Openings.{frame_length, is_for, follows_buffer}
use Rattle.fr_latency.proofs.CellLemmas.{bits_same, frame_added, after_frame}
use Rattle.fr_latency.proofs.StepLemmas.{frame_follows}
use Rattle.fr_latency.proofs.openings.add_buffer.Goals as goal

pub returns : goal.returns
returns c =
    let p = c.args.params.now in
    let b = c.args.buffer.now in
    let plan = c.args.plan.now in
    let channel = c.args.channel in
    let latest = latest_on plan channel in
    let size = frame_length p b in
    let shift = c.from-shift.result in
    let count = c.from-count.result in
    let is : is_for c.args.slot channel b ≡ true = search rules in
    let is_size : size ≡ shift + 1 = omega arith in
    let is_count : count ≡ latest - c.args.earlier = omega arith in
    let room : shift + count ≤ length c.args.after.now = omega arith in
    let same : length c.args.before.now ≡ length c.args.after.now = omega arith in
    let keeps : length c.add.new.cells ≡ length c.args.after.now = omega arith in
    λ test kept above from into.
    bits_same (c.args.earlier + 2)
    (λ cycle minislot. kept cycle minislot || after_frame latest size b.filter.cycles test cycle minislot)
    (λ cycle minislot.
    kept cycle minislot || follows_buffer p c.args.slot channel cycle (test cycle) minislot plan b) c.add.new.cells
    (λ cycle minislot. ap (λ x. kept cycle minislot || x)
    (frame_follows p c.args.slot channel plan b is test cycle minislot))
    (frame_added c.args.earlier latest size shift count c.mask_of.result b.filter.cycles c.args.before.now
    c.args.after.now c.add.new.cells test kept is_size is_count room same keeps c.mask_of.ensures above from into
    c.add.ensures)
