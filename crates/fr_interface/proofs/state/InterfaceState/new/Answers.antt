use Rattle.std.proofs.Common.{◌≡◌, [], map, Option, None, arith, ap, sym, ◌∙◌, option_map, rules}
use Rattle.fr_buffers.specs.Transmitting.{new_transmitter}
use Rattle.fr_interface.specs.Known.{transmitters, held_in, waiting_of, empty_queue}
use Rattle.fr_slots.specs.Plans.{with_limits}
use Rattle.fr_interface.specs.State.{State}
use Rattle.fr_interface.proofs.CounterLemmas.{counters-none}
use Rattle.fr_interface.proofs.KeptLemmas.{queue-none}
use Rattle.fr_interface.proofs.OpeningLemmas.{opening-none}
use Rattle.fr_interface.proofs.ReceiveLemmas.{held-none}
use Rattle.fr_interface.proofs.TransmitLemmas.{transmitters-none}
use Rattle.fr_journal.specs.declared.entry.Arrival.{Arrival}
use Rattle.fr_slots.specs.declared.plan.Buffer.{Buffer}
use Rattle.fr_slots.specs.History.{AllAfter}
use Rattle.fr_interface.proofs.state.InterfaceState.new.Goals as goal

pub invariant_of-result : goal.invariant_of-result
unfolding AllAfter
invariant_of-result c =
    let params = c.args.params.now in
    let plan = c.args.plan.now in
    let params_is : _ ≡ params = c.params.view_is in
    let plan_is : c.in_ok-indexed.indexed ≡ plan = c.in_ok-indexed.ensures in
    let transmit : c.in_ok-transmit.transmit.items ≡ transmitters plan [] =
    c.in_ok-transmit.ensures ∙ ap (map (λ (b : Buffer). new_transmitter b.mode)) c.buffers.ensures.value
    ∙ transmitters-none plan in
    let receive : c.in_ok-receive.receive.items ≡ map (held_in params []) plan.buffers =
    c.in_ok-receive.ensures ∙ ap (map (λ (b : Buffer). let empty : Option Arrival = None in empty))
    c.buffers-2.ensures.value ∙ sym (held-none params plan.buffers) in
    let queue : c.in_ok-queue.queue ≡ option_map (waiting_of params plan []) plan.queue =
    c.in_ok-queue.ensures ∙ ap (option_map empty_queue) c.queue.ensures.value ∙ queue-none params plan [] plan.queue in
    let start : State = record {
      params = params;
      plan = with_limits plan c.args.host_limit c.args.slot_limit;
      entries =
          [];
    } in (
      start,
      record {
        legal = record {
          params_are = search rules;
          few = c.requires;
          entries_are = tt;
          legal = tt;
        };
        host_room = omega arith;
        slot_room = omega arith;
        leaves = λ i. record {
          params = sym params_is i;
          plan = with_limits (sym plan_is i) c.args.host_limit c.args.slot_limit;
          host_limit = c.args.host_limit;
          slot_limit = c.args.slot_limit;
          hosts = 0;
          slots = 0;
          cycles = 0;
          opening = opening-none i;
          transmit = sym transmit i;
          receive = sym receive i;
          queue = sym queue i;
          counters = counters-none params i;
        };
      },
    )

pub returns-clause-history : goal.returns-clause-history
unfolding AllAfter
returns-clause-history c =
    let params = c.args.params.now in
    let plan = c.args.plan.now in
    let params_is : _ ≡ params = c.params.view_is in
    let plan_is : c.in_ok-indexed.indexed ≡ plan = c.in_ok-indexed.ensures in
    let transmit : c.in_ok-transmit.transmit.items ≡ transmitters plan [] =
    c.in_ok-transmit.ensures ∙ ap (map (λ (b : Buffer). new_transmitter b.mode)) c.buffers.ensures.value
    ∙ transmitters-none plan in
    let receive : c.in_ok-receive.receive.items ≡ map (held_in params []) plan.buffers =
    c.in_ok-receive.ensures ∙ ap (map (λ (b : Buffer). let empty : Option Arrival = None in empty))
    c.buffers-2.ensures.value ∙ sym (held-none params plan.buffers) in
    let queue : c.in_ok-queue.queue ≡ option_map (waiting_of params plan []) plan.queue =
    c.in_ok-queue.ensures ∙ ap (option_map empty_queue) c.queue.ensures.value ∙ queue-none params plan [] plan.queue in
    let start : State = record {
      params = params;
      plan = with_limits plan c.args.host_limit c.args.slot_limit;
      entries =
          [];
    } in
    record {
      legal = record {
        params_are = search rules;
        few = c.requires;
        entries_are = tt;
        legal = tt;
      };
      host_room = omega arith;
      slot_room = omega arith;
      leaves = λ i. record {
        params = sym params_is i;
        plan = with_limits (sym plan_is i) c.args.host_limit c.args.slot_limit;
        host_limit = c.args.host_limit;
        slot_limit = c.args.slot_limit;
        hosts = 0;
        slots = 0;
        cycles = 0;
        opening = opening-none i;
        transmit = sym transmit i;
        receive = sym receive i;
        queue = sym queue i;
        counters = counters-none params i;
      };
    }
