-- A cluster with another room of journals is a cluster.
use Rattle.std.proofs.Common.{◌≡◌, ℕ, zero, suc, ◌≤◌, List, [], ◌∷◌, ◌++◌, length, map, Some, refl, sym}
use Rattle.std.proofs.Common.{subst, ap, ◌∙◌}
use Rattle.std.proofs.lemmas.List.{length-map}
use Rattle.std.specs.Prelude.{slice_get, ◌&&◌}
use Rattle.std.specs.List.{list_any}
use Rattle.std.specs.Option.{option_or}
use Rattle.fr_bus.specs.Standing.{no_room, roomless}
use Rattle.fr_core.specs.Worlds.{new_interface}
use Rattle.fr_interface.specs.Standing.{Standing, IsHistory}
use Rattle.fr_interface.specs.State.{State}
use Rattle.fr_live.specs.LiveWorlds.{Entries, AreHistories, with_room, new_with}
use Rattle.fr_schedule.specs.Clusters.{IsCluster, IsNode}
use Rattle.fr_schedule.specs.Descriptions.{Description}
use Rattle.fr_schedule.specs.SenderTable.{IsSender, HasOneSender, may_send}
use Rattle.fr_slots.specs.declared.channel.Channel.{Channel}
use Rattle.fr_slots.specs.declared.channel.Channel.TheVariants.{A, B}
use Rattle.fr_slots.specs.declared.fault.PlanFault.TheVariants.{DynamicBoth, TooLong}
use Rattle.fr_slots.specs.declared.plan.Buffer.{Buffer}
use Rattle.fr_slots.specs.Admission.{includes}
use Rattle.fr_slots.specs.Faults.{plan_fault, ownership_fault, buffer_fault, ends_late, too_long, transmits_dynamic}
use Rattle.fr_slots.specs.Faults.{words_of, channels, first_buffer, dynamic_both, first_overlap}
use Rattle.fr_slots.specs.Numbers.{last_host_limit, last_slot_limit}
use Rattle.fr_slots.specs.Parameters.{Parameters}
use Rattle.fr_slots.specs.Plans.{Plan, IsPlan, Each, with_limits}

-- a room that entry numbers allow
pub record IsRoom (room : Entries) : Type 0 where
  pub some_host : 1 ≤ room.host
  pub host_fits : room.host ≤ last_host_limit
  pub some_slot : 2 ≤ room.slot
  pub slot_fits : room.slot ≤ last_slot_limit

module _ (room : Entries) where
  -- ---- the room has no other effect

  ends_late_same : (params : Parameters) (p : Plan) (words : ℕ) (channel : Channel)
      → ends_late params (with_limits p room.host room.slot) words channel ≡ ends_late params p words channel
  ends_late_same params p words A = refl
  ends_late_same params p words B = refl

  too_long_same : (params : Parameters) (p : Plan) (b : Buffer)
      → too_long params (with_limits p room.host room.slot) b ≡ too_long params p b
  too_long_same params p b = λ i. transmits_dynamic params b && list_any
      (λ channel. includes b.filter.channels channel && ends_late_same params p (words_of params b) channel i) channels

  buffer_fault_same : (params : Parameters) (p : Plan)
      → buffer_fault params (with_limits p room.host room.slot) ≡ buffer_fault params p
  unfolding buffer_fault
  buffer_fault_same params p = λ i. option_or (first_buffer DynamicBoth (dynamic_both params) p.buffers)
      (option_or (first_overlap p.owned p.buffers) (first_buffer TooLong (λ b. too_long_same params p b i) p.buffers))

  ownership_fault_same : (params : Parameters) (p : Plan)
      → ownership_fault params (with_limits p room.host room.slot) ≡ ownership_fault params p
  unfolding ownership_fault
  ownership_fault_same params p = refl

  fault_same : (params : Parameters) (p : Plan)
      → plan_fault params (with_limits p room.host room.slot) ≡ plan_fault params p
  unfolding plan_fault
  fault_same params p = λ i. option_or (ownership_fault_same params p i) (buffer_fault_same params p i)

  roomless_plans : (ps : List Plan)
      → map no_room (map (λ (p : Plan). with_limits p room.host room.slot) ps) ≡ map no_room ps
  roomless_plans [] = refl
  roomless_plans (p ∷ ps) = ap (λ qs. no_room p ∷ qs) (roomless_plans ps)

  pub roomless_same : (d : Description) → roomless (with_room room d) ≡ roomless d
  roomless_same d = λ i. record { params = d.params; guard = d.guard; plans = roomless_plans d.plans i }

  -- ---- the cluster

  plan_raised : IsRoom room → (p : Plan) → IsPlan p → IsPlan (with_limits p room.host room.slot)
  plan_raised fits p is = record {
    few_tasks = is.few_tasks;
    latest_a_fits = is.latest_a_fits;
    latest_b_fits = is.latest_b_fits;
    some_host_entries = fits.some_host;
    host_entries_fit = fits.host_fits;
    some_slot_entries = fits.some_slot;
    slot_entries_fit = fits.slot_fits;
    few_owned = is.few_owned;
    owned_fit = is.owned_fit;
    owned_are = is.owned_are;
    few_buffers = is.few_buffers;
    buffers_fit = is.buffers_fit;
    buffers_are = is.buffers_are;
    queue_fits = is.queue_fits;
    queue_is = is.queue_is;
  }

  nodes_raised : IsRoom room → (params : Parameters) (ps : List Plan) → Each (IsNode params) ps
      → Each (IsNode params) (map (λ (p : Plan). with_limits p room.host room.slot) ps)
  nodes_raised fits params [] are = tt
  nodes_raised fits params (p ∷ ps) are =
      ((plan_raised fits p are.0.0, fault_same params p ∙ are.0.1), nodes_raised fits params ps are.1)

  -- the plan of a node of the raised cluster is that of the cluster, raised
  record IsRaised (ps : List Plan) (n : ℕ) (q : Plan) : Type 0 where
    plan : Plan
    at : slice_get ps n ≡ Some plan
    is : with_limits plan room.host room.slot ≡ q

  get_raised : (ps : List Plan) (n : ℕ) (q : Plan)
      → slice_get (map (λ (p : Plan). with_limits p room.host room.slot) ps) n ≡ Some q → IsRaised ps n q
  get_raised [] n q at = absurd (let none : ⊥ = cc in none)
  get_raised (p ∷ ps) zero q at =
      record { plan = p; at = refl; is = let same : with_limits p room.host room.slot ≡ q = cc in same }
  get_raised (p ∷ ps) (suc n) q at =
      let later = get_raised ps n q at in record { plan = later.plan; at = later.at; is = later.is }

  sender_raised : (d : Description) (cycle slot : ℕ) (channel : Channel) (n : ℕ)
      → IsSender (with_room room d) cycle slot channel n → IsSender d cycle slot channel n
  sender_raised d cycle slot channel n sender =
      let raised_one = get_raised d.plans n sender.plan sender.at in
      record {
        plan = raised_one.plan;
        at = raised_one.at;
        sends = ap (λ (q : Plan). may_send d.params cycle slot channel q) raised_one.is
            ∙ sender.sends;
      }

  one_sender : (d : Description) → HasOneSender d → HasOneSender (with_room room d)
  one_sender d one cycle slot channel m n few first second =
      one cycle slot channel m n few (sender_raised d cycle slot channel m first)
      (sender_raised d cycle slot channel n second)

  pub cluster_raised : IsRoom room → (d : Description) → IsCluster d → IsCluster (with_room room d)
  cluster_raised fits d is =
      let many : length (map (λ (p : Plan). with_limits p room.host room.slot) d.plans) ≡ length d.plans =
      length-map d.plans (λ (p : Plan). with_limits p room.host room.slot) in
      record {
        params_are = is.params_are;
        some_nodes = subst (λ n. 1 ≤ n) (sym many) is.some_nodes;
        few_nodes = subst (λ n. n ≤ 16) (sym many) is.few_nodes;
        nodes_are = nodes_raised fits d.params d.plans is.nodes_are;
        one_sender = one_sender d is.one_sender;
      }

  -- ---- new interfaces

  pub opening_interfaces : (params : Parameters) (ps : List Plan)
      → map (new_with params room) ps
      ≡ map (new_interface params) (map (λ (p : Plan). with_limits p room.host room.slot) ps)
  opening_interfaces params [] = refl
  opening_interfaces params (p ∷ ps) = ap (λ ss. new_with params room p ∷ ss) (opening_interfaces params ps)

pub histories_more : (hs : List Standing) (ss : List State) (h : Standing) (s : State) → AreHistories hs ss
    → IsHistory h s → AreHistories (hs ++ h ∷ []) (ss ++ s ∷ [])
histories_more [] [] h s are is = (is, tt)
histories_more [] (t ∷ ss) h s are is = absurd are
histories_more (g ∷ hs) [] h s are is = absurd are
histories_more (g ∷ hs) (t ∷ ss) h s are is = (are.0, histories_more hs ss h s are.1 is)
