use Rattle.std.proofs.Common.{◌≡◌, Some, sym, ap, ◌∙◌}
use Rattle.std.specs.Prelude.{option_map}
use Rattle.std.specs.Option.{option_copied}
use Rattle.fr_buffers.specs.Waiting.{Waiting}
use Rattle.fr_interface.proofs.WaitingLemmas.{queued_is}
use Rattle.fr_interface.specs.Known.{with_arrival, with_arrivals}
use Rattle.fr_journal.specs.Held.{arrival_of}
use Rattle.fr_slots.specs.declared.channel.Channel.TheVariants.{A, B}
use Rattle.fr_interface.proofs.observed.arrive_all.Goals as goal

pub returns-in-Some-queue : goal.returns-in-Some-queue
returns-in-Some-queue c =
    let p = c.args.plan.now in
    let n = c.args.moment in
    let w = c.args.window.now in
    let q = c.in-Some.line in
    let waiting = c.in-Some-queue.waiting in
    let a = queued_is p q n w A c.args.a.now _ c.frame_for_queue-a.ensures in
    let b = queued_is p q n w B c.args.b.now _ c.frame_for_queue-b.ensures in
    let line : p.queue ≡ Some q = sym c.queue.ensures.value ∙ c.in-Some.is in
    ap Some
    (c.arrive-in-Some-queue.ensures
    ∙ ap (λ (x : Waiting). with_arrival x (option_map (arrival_of n B) (option_copied c.frame_for_queue-b.result)))
    c.arrive.ensures
    ∙ (λ i. with_arrival (with_arrival waiting (a i)) (b i)))
    ∙ (λ i. with_arrivals p n w c.args.a.now c.args.b.now (sym line i) (sym c.in-Some-queue.is i))
