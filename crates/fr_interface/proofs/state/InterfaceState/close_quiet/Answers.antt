use Rattle.std.proofs.Common.{◌≡◌, ◌+◌, Some, None, ap, sym, subst, refl, ◌∙◌}
use Rattle.fr_interface.proofs.QuietLemmas.{quiet_status, quiet_frame, none_stored, none_arrives}
use Rattle.fr_interface.proofs.StandingLemmas.{history-observe, count-fits_a, count-fits_b}
use Rattle.fr_interface.specs.Known.{stored_all, with_arrivals, with_seen}
use Rattle.fr_interface.specs.Seeing.{status_seen}
use Rattle.fr_interface.specs.Sights.{seen_in}
use Rattle.fr_interface.specs.Standing.{Standing, IsHistory, Leaves, limited, moment_before, after_observe}
use Rattle.fr_interface.specs.State.{State, with_entry}
use Rattle.fr_interface.specs.StateFields.{standing_in}
use Rattle.fr_journal.specs.declared.entry.Entry.TheVariants.{Observe}
use Rattle.fr_journal.specs.Held.{data_frame_seen}
use Rattle.fr_slots.specs.declared.channel.Channel.TheVariants.{A, B}
use Rattle.fr_status.specs.Counting.{HasRoom}
use Rattle.fr_status.specs.declared.counters.Counters.{Counters}
use Rattle.fr_interface.proofs.state.InterfaceState.close_quiet.Goals as goal

pub count_seen-requires : goal.count_seen-requires
count_seen-requires c = count-fits_a (standing_in c.self.inside) c.self.invariant.0 c.self.invariant.1

pub count_seen-requires-2 : goal.count_seen-requires-2
count_seen-requires-2 c = λ s.
    subst (λ (k : Counters). HasRoom k B s) (sym c.count_seen.ensures)
    (count-fits_b (standing_in c.self.inside) c.self.invariant.0 c.quiet_status.result c.self.invariant.1 s)

-- the data after the window are those after each journal with its observe
closes : (c : goal.After-known-2) (s : State) → IsHistory (standing_in c.self.inside) s
    → let h = standing_in c.self.inside in
    IsHistory (record h {
      slots = h.slots + 1;
      opening = record { window = None; last = h.opening.last };
      counters = c.count_seen-2.new.counters;
    }) (with_entry s (Observe c.args.window.now.number (seen_in c.args.a.now) (seen_in c.args.b.now)))
closes c s is =
    let h = standing_in c.self.inside in
    let g = limited h in
    let window = c.args.window.now in
    let a = seen_in c.args.a.now in
    let b = seen_in c.args.b.now in
    let moment = moment_before h in
    let opened : h.opening.window ≡ Some window =
    ap (λ (x : Standing). x.opening.window) c.self.view_is ∙ c.requires.opened in
    let status_a : c.quiet_status.result ≡ status_seen h.params window A a =
    c.quiet_status.ensures ∙ sym (quiet_status h.params window A a c.requires.quiet_a) in
    let status_b : c.quiet_status-2.result ≡ status_seen h.params window B b =
    c.quiet_status-2.ensures ∙ sym (quiet_status h.params window B b c.requires.quiet_b) in
    let frame_a : data_frame_seen h.params window A a ≡ None =
    quiet_frame h.params window A a c.requires.quiet_a in
    let frame_b : data_frame_seen h.params window B b ≡ None =
    quiet_frame h.params window B b c.requires.quiet_b in
    let counters : c.count_seen-2.new.counters ≡ with_seen (with_seen h.counters A (status_seen h.params window A a)) B
    (status_seen h.params window B b) =
    c.count_seen-2.ensures ∙ (λ i. with_seen (c.count_seen.ensures i) B (status_b i)) ∙
    (λ i. with_seen (with_seen h.counters A (status_a i)) B (status_seen h.params window B b)) in
    let receive : stored_all moment window (data_frame_seen h.params window A a) (data_frame_seen h.params window B b)
    h.plan.buffers h.receive ≡ h.receive =
    (λ i. stored_all moment window (frame_a i) (frame_b i) h.plan.buffers h.receive)
    ∙ none_stored moment window h.plan.buffers h.receive in
    let queue : with_arrivals g.plan moment window (data_frame_seen h.params window A a)
    (data_frame_seen h.params window B b) h.plan.queue h.queue ≡ h.queue =
    (λ i. with_arrivals g.plan moment window (frame_a i) (frame_b i) h.plan.queue h.queue)
    ∙ none_arrives moment window g.plan h.plan.queue h.queue in
    subst (λ (x : Standing). Leaves x (with_entry s (Observe window.number a b)))
    (λ i. record (after_observe g window (status_seen h.params window A a) (status_seen h.params window B b)
    (data_frame_seen h.params window A a) (data_frame_seen h.params window B b))
    { receive = receive i; queue = queue i; counters = sym counters i })
    (history-observe h s window.number a b window is
    (c.kept_window-window.ensures.fits.number_fits, c.known.ensures, c.known-2.ensures) opened refl)

pub invariant_of-self : goal.invariant_of-self
invariant_of-self c = (
  with_entry c.self.invariant.0 (Observe c.args.window.now.number (seen_in c.args.a.now) (seen_in c.args.b.now)),
  closes c c.self.invariant.0 c.self.invariant.1,
)

pub returns-clause-history : goal.returns-clause-history
returns-clause-history c s is = closes c s (subst (λ (x : Standing). IsHistory x s) (sym c.self.view_is) is)
