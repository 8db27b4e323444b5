use Rattle.std.proofs.Common.{◌≡◌, ◌<◌, ◌≤◌, ◌&&◌, List, length, get_or, leb, true, sym, ap, subst, arith}
use Rattle.std.proofs.lemmas.Bool.{le-leb}
use Rattle.std.specs.List.{list_any}
use Rattle.fr_slots.specs.declared.plan.Buffer.{Buffer}
use Rattle.fr_latency.specs.Openings.{follows_buffer, follows_node}
use Rattle.fr_latency.proofs.CellLemmas.{adds_item, adds_items, adds_same}
use Rattle.fr_latency.proofs.openings.add_node.Goals as goal

pub loop-buffer-preserved : goal.loop-buffer-preserved
loop-buffer-preserved c =
    let p = c.args.params.now in
    let plan = c.args.plan.now in
    let index = c.loop-buffer.buffer-index in
    let item = c.buffer-item.result in
    let same : c.buffers-buffer-items.result.now ≡ plan.buffers = c.buffers-buffer-items.ensures.value in
    let within : index < length plan.buffers =
    subst (λ (bs : List Buffer). index < length bs) same c.loop-buffer-test.true in
    let is : item ≡ get_or plan.buffers index item =
    subst (λ (bs : List Buffer). item ≡ get_or bs index item) same c.buffer-item.is in
    adds_item c.args.earlier
    (λ b test cycle minislot. follows_buffer p c.args.slot c.args.channel cycle (test cycle) minislot plan b)
    c.args.before.now c.args.after.now c.loop-buffer.after c.add_buffer.new.after plan.buffers index item within is
    c.loop-buffer.invariant c.add_buffer.ensures

pub returns : goal.returns
returns c =
    let p = c.args.params.now in
    let plan = c.args.plan.now in
    let same : c.buffers-buffer-items.result.now ≡ plan.buffers = c.buffers-buffer-items.ensures.value in
    let all : length plan.buffers ≤ c.loop-buffer.buffer-index =
    subst (λ (bs : List Buffer). length bs ≤ c.loop-buffer.buffer-index) same c.loop-buffer-test.false in
    let some : leb 1 plan.tasks ≡ true = le-leb 1 plan.tasks (omega arith) in
    adds_same c.args.earlier
    (λ test cycle minislot.
    list_any (follows_buffer p c.args.slot c.args.channel cycle (test cycle) minislot plan) plan.buffers)
    (λ test cycle minislot. follows_node p c.args.slot c.args.channel cycle (test cycle) minislot plan)
    c.args.before.now c.args.after.now c.loop-buffer.after
    (λ test cycle minislot. ap (λ b. b && list_any (follows_buffer p c.args.slot c.args.channel cycle (test cycle)
    minislot plan) plan.buffers) (sym some))
    (adds_items c.args.earlier
    (λ b test cycle minislot. follows_buffer p c.args.slot c.args.channel cycle (test cycle) minislot plan b)
    c.args.before.now c.args.after.now c.loop-buffer.after plan.buffers c.loop-buffer.buffer-index all
    c.loop-buffer.invariant)
