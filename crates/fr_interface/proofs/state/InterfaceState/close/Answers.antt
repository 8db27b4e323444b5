use Rattle.std.proofs.Common.{◌≡◌, Some, arith, ap, sym, subst, refl, ◌∙◌}
use Rattle.std.specs.Vec.{with_items}
use Rattle.fr_interface.specs.StateFields.{standing_in}
use Rattle.fr_interface.specs.Known.{stored_all, with_arrivals, with_seen}
use Rattle.fr_interface.specs.Seeing.{status_seen}
use Rattle.fr_interface.specs.Standing.{Standing, IsHistory, Leaves, limited, moment_before, after_observe}
use Rattle.fr_interface.specs.Sights.{seen_in}
use Rattle.fr_interface.specs.State.{with_entry}
use Rattle.fr_interface.proofs.KeptLemmas.{written}
use Rattle.fr_interface.proofs.StandingLemmas.{history-observe, count-fits_a, count-fits_b, arrivals-fit}
use Rattle.fr_interface.proofs.StandingLemmas.{arrivals-limits}
use Rattle.fr_journal.specs.declared.entry.Entry.TheVariants.{Observe}
use Rattle.fr_journal.specs.Entries.{IsSeen}
use Rattle.fr_journal.specs.Held.{data_frame_seen}
use Rattle.fr_slots.specs.declared.channel.Channel.TheVariants.{A, B}
use Rattle.fr_status.specs.Counting.{HasRoom}
use Rattle.fr_status.specs.declared.counters.Counters.{Counters}
use Rattle.fr_interface.proofs.state.InterfaceState.close.Goals as goal

pub count_seen-requires : goal.count_seen-requires
count_seen-requires c = count-fits_a (standing_in c.self.inside) c.self.invariant.0 c.self.invariant.1

pub count_seen-requires-2 : goal.count_seen-requires-2
count_seen-requires-2 c = λ s.
    subst (λ (k : Counters). HasRoom k B s) (sym c.count_seen.ensures)
    (count-fits_b (standing_in c.self.inside) c.self.invariant.0 c.told-told_a.result.status c.self.invariant.1 s)

pub arrive_all-requires : goal.arrive_all-requires
arrive_all-requires c = arrivals-fit (standing_in c.self.inside) c.self.invariant.0 c.args.window.now c.self.invariant.1
    (ap (λ (x : Standing). x.opening.window) c.self.view_is ∙ c.requires.opened)

pub invariant_of-self : goal.invariant_of-self
invariant_of-self c =
    let h = standing_in c.self.inside in
    let window = c.args.window.now in
    let a = seen_in c.args.a.now in
    let b = seen_in c.args.b.now in
    let fits_a : IsSeen a = c.known.ensures in
    let fits_b : IsSeen b = c.known-2.ensures in
    let opened : h.opening.window ≡ Some window =
    ap (λ (x : Standing). x.opening.window) c.self.view_is ∙ c.requires.opened in
    let moment : c.moment-moment.result ≡ moment_before h = c.moment-moment.ensures.value ∙ ap moment_before
    (sym c.self.view_is) in
    let status_a : c.told-told_a.result.status ≡ status_seen h.params window A a = c.told-told_a.ensures.status in
    let status_b : c.told-told_b.result.status ≡ status_seen h.params window B b = c.told-told_b.ensures.status in
    let frame_a : c.told-told_a.result.frame ≡ data_frame_seen h.params window A a = c.told-told_a.ensures.frame in
    let frame_b : c.told-told_b.result.frame ≡ data_frame_seen h.params window B b = c.told-told_b.ensures.frame in
    let counters : c.count_seen-2.new.counters ≡ with_seen (with_seen h.counters A (status_seen h.params window A a)) B
    (status_seen h.params window B b) =
    c.count_seen-2.ensures ∙ (λ i. with_seen (c.count_seen.ensures i) B (status_b i)) ∙
    (λ i. with_seen (with_seen h.counters A (status_a i)) B (status_seen h.params window B b)) in
    let receive : (with_items c.self.inside.receive c.store_all.new.buffers).items ≡ stored_all
    (moment_before h) window (data_frame_seen h.params window A a)
    (data_frame_seen h.params window B b) h.plan.buffers h.receive =
    written c.self.inside.receive.len c.store_all.new.buffers _
    (omega (arith, c.deref_mut.ensures.len, c.store_all.auto.buffers))
    ∙ c.store_all.ensures
    ∙ (λ i. stored_all (moment i) window (frame_a i) (frame_b i) h.plan.buffers (c.deref_mut.ensures.value i)) in
    let queue : c.arrive_all.new.queue ≡ with_arrivals h.plan (moment_before h) window
    (data_frame_seen h.params window A a) (data_frame_seen h.params window B b) h.plan.queue h.queue =
    c.arrive_all.ensures ∙ (λ i. with_arrivals h.plan (moment i) window (frame_a i) (frame_b i) h.plan.queue h.queue) in
    let g = limited h in
    let arrived : c.arrive_all.new.queue ≡ with_arrivals g.plan (moment_before h) window
    (data_frame_seen h.params window A a) (data_frame_seen h.params window B b) h.plan.queue h.queue =
    queue ∙ sym (arrivals-limits h.plan h.host_limit h.slot_limit (moment_before h) window
    (data_frame_seen h.params window A a) (data_frame_seen h.params window B b) h.plan.queue h.queue) in (
      with_entry c.self.invariant.0 (Observe window.number a b),
      subst (λ (x : Standing). Leaves x (with_entry c.self.invariant.0 (Observe window.number a b)))
          (λ i. record (after_observe g window (status_seen h.params window A a) (status_seen h.params window B b)
          (data_frame_seen h.params window A a) (data_frame_seen h.params window B b))
          { receive = sym receive i; queue = sym arrived i; counters = sym counters i })
          (history-observe h c.self.invariant.0 window.number a b window c.self.invariant.1
          (c.kept_window-window.ensures.fits.number_fits, fits_a, fits_b) opened refl),
    )

pub returns-clause-history : goal.returns-clause-history
returns-clause-history c = λ s is.
    let h = standing_in c.self.inside in
    let window = c.args.window.now in
    let a = seen_in c.args.a.now in
    let b = seen_in c.args.b.now in
    let fits_a : IsSeen a = c.known.ensures in
    let fits_b : IsSeen b = c.known-2.ensures in
    let opened : h.opening.window ≡ Some window =
    ap (λ (x : Standing). x.opening.window) c.self.view_is ∙ c.requires.opened in
    let moment : c.moment-moment.result ≡ moment_before h = c.moment-moment.ensures.value ∙ ap moment_before
    (sym c.self.view_is) in
    let status_a : c.told-told_a.result.status ≡ status_seen h.params window A a = c.told-told_a.ensures.status in
    let status_b : c.told-told_b.result.status ≡ status_seen h.params window B b = c.told-told_b.ensures.status in
    let frame_a : c.told-told_a.result.frame ≡ data_frame_seen h.params window A a = c.told-told_a.ensures.frame in
    let frame_b : c.told-told_b.result.frame ≡ data_frame_seen h.params window B b = c.told-told_b.ensures.frame in
    let counters : c.count_seen-2.new.counters ≡ with_seen (with_seen h.counters A (status_seen h.params window A a)) B
    (status_seen h.params window B b) =
    c.count_seen-2.ensures ∙ (λ i. with_seen (c.count_seen.ensures i) B (status_b i)) ∙
    (λ i. with_seen (with_seen h.counters A (status_a i)) B (status_seen h.params window B b)) in
    let receive : (with_items c.self.inside.receive c.store_all.new.buffers).items ≡ stored_all
    (moment_before h) window (data_frame_seen h.params window A a)
    (data_frame_seen h.params window B b) h.plan.buffers h.receive =
    written c.self.inside.receive.len c.store_all.new.buffers _
    (omega (arith, c.deref_mut.ensures.len, c.store_all.auto.buffers))
    ∙ c.store_all.ensures
    ∙ (λ i. stored_all (moment i) window (frame_a i) (frame_b i) h.plan.buffers (c.deref_mut.ensures.value i)) in
    let queue : c.arrive_all.new.queue ≡ with_arrivals h.plan (moment_before h) window
    (data_frame_seen h.params window A a) (data_frame_seen h.params window B b) h.plan.queue h.queue =
    c.arrive_all.ensures ∙ (λ i. with_arrivals h.plan (moment i) window (frame_a i) (frame_b i) h.plan.queue h.queue) in
    let g = limited h in
    let arrived : c.arrive_all.new.queue ≡ with_arrivals g.plan (moment_before h) window
    (data_frame_seen h.params window A a) (data_frame_seen h.params window B b) h.plan.queue h.queue =
    queue ∙ sym (arrivals-limits h.plan h.host_limit h.slot_limit (moment_before h) window
    (data_frame_seen h.params window A a) (data_frame_seen h.params window B b) h.plan.queue h.queue) in
    subst (λ (x : Standing). Leaves x (with_entry s (Observe window.number a b)))
    (λ i. record (after_observe g window (status_seen h.params window A a) (status_seen h.params window B b)
    (data_frame_seen h.params window A a) (data_frame_seen h.params window B b))
    { receive = sym receive i; queue = sym arrived i; counters = sym counters i })
    (history-observe h s window.number a b window (subst (λ (x : Standing). IsHistory x s) (sym c.self.view_is) is)
    (c.kept_window-window.ensures.fits.number_fits, fits_a, fits_b) opened refl)
