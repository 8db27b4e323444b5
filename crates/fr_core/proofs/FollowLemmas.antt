-- In a world the lists of the interfaces follow the record, and the interfaces are those of the cluster's nodes.
use Rattle.std.proofs.Common.{◌≡◌, ◌<◌, ℕ, List, length, Some, sym, ap, subst, ◌∙◌, arith, slice_get}
use Rattle.std.specs.List.{All}
use Rattle.std.proofs.lemmas.Option.{slice_get_within, get_or_from_slice_get}
use Rattle.fr_bus.specs.States.{IsRun}
use Rattle.fr_core.specs.Agreeing.{Follows}
use Rattle.fr_core.specs.Agreement.{view_for, ahead, behind, NodeAgrees, IsWorld}
use Rattle.fr_core.specs.Receivers.{Receivers}
use Rattle.fr_core.specs.Worlds.{WorldState, no_interface, interface_at, carried_at, without_entries, new_interface}
use Rattle.fr_core.proofs.JudgedLemmas.{are_judged}
use Rattle.fr_core.proofs.ReceiverLemmas.{receivers}
use Rattle.fr_core.proofs.TimingLemmas.{are_timed}
use Rattle.fr_interface.specs.State.{State, IsLegalInterface}
use Rattle.fr_core.proofs.AlikeLemmas.{alike}
use Rattle.fr_core.proofs.HarmlessLemmas.{harmless}
use Rattle.fr_core.specs.Accounts.{IsHarmless}
use Rattle.fr_core.specs.Headline.{WorldsAlike}
use Rattle.fr_schedule.specs.Descriptions.{Description}
use Rattle.fr_slots.proofs.PlaceLemmas.{same_some, get-map, map-get}

follows_as : (w : WorldState) (n : ℕ) (i s : State) → i ≡ s → NodeAgrees n i (carried_at w n) (view_for w.bus n)
    → Follows w.bus.cluster.params w.bus.sealed n s
follows_as w n i s same a =
    subst (Follows w.bus.cluster.params w.bus.sealed n) same
    (record {
      under_way = ahead (carried_at w n) (view_for w.bus n);
      unseen = behind n (carried_at w n) (view_for w.bus n);
      fetches = a.fetches;
      sees = a.sees;
    })

-- a controller carries everything by which its interface is ahead of the record or behind it
pub world_follows : (w : WorldState) → IsWorld w → (n : ℕ) (s : State) → slice_get w.interfaces n ≡ Some s
    → Follows w.bus.cluster.params w.bus.sealed n s
world_follows w kept n s at =
    let within : n < length w.interfaces = slice_get_within w.interfaces n s at in
    let as_many = kept.agrees.a_station_each in
    let station : n < length w.bus.stations = omega (arith, within, as_many) in
    follows_as w n (interface_at w n) s (get_or_from_slice_get w.interfaces n s no_interface at)
    (kept.agrees.each n station)

-- a node's interface has the cluster's parameters and the node's plan
pub record IsConfigured (w : WorldState) (n : ℕ) (s : State) : Type 0 where
  pub params_are : s.params ≡ w.bus.cluster.params
  pub plan_at : slice_get w.bus.cluster.plans n ≡ Some s.plan

pub world_configured : (w : WorldState) → IsWorld w → (n : ℕ) (s : State) → slice_get w.interfaces n ≡ Some s
    → IsConfigured w n s
world_configured w kept n s at =
    let bare = map-get without_entries w.interfaces n s at in
    let m = get-map (new_interface w.bus.cluster.params) w.bus.cluster.plans n (without_entries s)
    (ap (λ (l : List State). slice_get l n) (sym kept.configured) ∙ bare) in
    record {
      params_are = sym (ap (λ (i : State). i.params) m.value);
      plan_at = m.at ∙ ap (λ (i : State). Some i.plan) m.value;
    }

pub legal_at : (interfaces : List State) → All IsLegalInterface interfaces → (n : ℕ) (s : State)
    → slice_get interfaces n ≡ Some s → IsLegalInterface s
legal_at interfaces all n s at = subst IsLegalInterface (get_or_from_slice_get interfaces n s s at)
    (all n s (slice_get_within interfaces n s at))

-- the receivers' clause of a world
pub world_receivers : (w : WorldState) → IsWorld w → IsRun w.bus → All IsLegalInterface w.interfaces
    → Receivers w.bus.cluster w.interfaces w.bus.sealed
world_receivers w kept run lawful =
    receivers w.bus.cluster w.interfaces w.bus.sealed run.lawful
    (are_judged w.bus.cluster w.bus.cycles w.bus.sealed run.recorded)
    (legal_at w.interfaces lawful) (world_follows w kept)

-- in a world a babbling node is harmless in guarded static slots
pub world_harmless : (w : WorldState) → IsWorld w → IsRun w.bus → All IsLegalInterface w.interfaces
    → IsHarmless w.bus.cluster w.interfaces w.bus.sealed
world_harmless w kept run lawful =
    harmless w.bus.cluster w.bus.cycles w.interfaces w.bus.sealed run.lawful run.recorded (legal_at w.interfaces lawful)
    (λ n s at. let c = world_configured w kept n s at in c.plan_at) (world_follows w kept)

-- an interface of two worlds of one cluster has the same parameters and plan in both
same_node : (w v : WorldState) → IsWorld w → IsWorld v → w.bus.cluster ≡ v.bus.cluster → (n : ℕ) (mine theirs : State)
    → slice_get w.interfaces n ≡ Some mine
    → slice_get v.interfaces n ≡ Some theirs → (mine.params ≡ theirs.params) × (mine.plan ≡ theirs.plan)
same_node w v kept other same n mine theirs at there =
    let c = world_configured w kept n mine at in
    let e = world_configured v other n theirs there in (
      c.params_are ∙ ap (λ (d : Description). d.params) same ∙ sym e.params_are,
      same_some mine.plan theirs.plan (sym c.plan_at ∙ ap (λ (d : Description). slice_get d.plans n) same ∙ e.plan_at),
    )

pub worlds_alike : (w v : WorldState) → IsWorld w → IsWorld v → IsRun w.bus → IsRun v.bus
    → IsHarmless w.bus.cluster w.interfaces w.bus.sealed → IsHarmless v.bus.cluster v.interfaces v.bus.sealed
    → All IsLegalInterface w.interfaces → All IsLegalInterface v.interfaces → WorldsAlike w v
worlds_alike w v kept other run_w run_v harmless_w harmless_v lawful legal = λ same.
    alike w.bus.cluster w.interfaces v.interfaces w.bus.sealed v.bus.sealed harmless_w
    (subst (λ (d : Description). IsHarmless d v.interfaces v.bus.sealed) (sym same) harmless_v)
    (are_timed w.bus.cluster w.bus.cycles w.bus.sealed run_w.recorded)
    (are_timed v.bus.cluster v.bus.cycles v.bus.sealed run_v.recorded)
    (legal_at w.interfaces lawful) (legal_at v.interfaces legal)
    (λ n mine theirs at there. let e = same_node w v kept other same n mine theirs at there in e.0)
    (λ n mine theirs at there. let e = same_node w v kept other same n mine theirs at there in e.1)
