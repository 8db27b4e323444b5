-- Each event keeps the agreement of all journals with the record.
use Rattle.std.proofs.Common.{◌≡◌, ◌≢◌, ◌<◌, ℕ, zero, suc, Bool, true, false, not, cond, List, [], ◌∷◌, length, map}
use Rattle.std.proofs.Common.{replicate, Option, Some, None, refl, sym, ap, subst, ◌∙◌, arith, get_or, inl, inr}
use Rattle.std.specs.Prelude.{option_map}
use Rattle.std.specs.List.{list_all}
use Rattle.std.proofs.lemmas.Bool.{ltb-true}
use Rattle.std.proofs.lemmas.Bool.Decides.{eqb_tells}
use Rattle.std.proofs.lemmas.List.{length-set, get_or-set_same, get_or-set_other, set-get_or, length-replicate}
use Rattle.std.proofs.lemmas.List.{length-map}
use Rattle.arrayvec.specs.ArrayVec.{ArrayVec}
use Rattle.fr_bus.specs.declared.error.BusError.{BusError}
use Rattle.fr_bus.specs.declared.fault.Fault.{Fault}
use Rattle.fr_bus.specs.declared.fault.Fault.TheVariants.{Babble, Mute, Corrupt}
use Rattle.fr_bus.specs.Stations.{Station}
use Rattle.fr_bus.specs.Record.{Recorded}
use Rattle.fr_bus.specs.States.{BusState, collects, seals, station_at, with_station, idle_station, offering, babbling}
use Rattle.fr_bus.specs.States.{muting, is_node, has_fault, inject_refusal, inject_done, all_put, all_taken, is_put}
use Rattle.fr_bus.specs.States.{is_taken, outcome_of, seal_refusal, sealed_with, take_refusal, seen_where, seen_last}
use Rattle.fr_bus.specs.States.{last_recorded, next_of_bus, phase_at, advance_refusal, advanced, collecting_of}
use Rattle.fr_bus.proofs.OfferLemmas.{offer_of_station}
use Rattle.fr_core.proofs.CaseLemmas.{both_first, both_rest, kept, kept_if}
use Rattle.fr_core.proofs.NodeLemmas.{opening_agrees, agrees_host, agrees_look, agrees_fetch, agrees_put, agrees_seal}
use Rattle.fr_core.proofs.NodeLemmas.{agrees_take, agrees_observe, agrees_inject, agrees_advance}
use Rattle.fr_core.specs.Agreeing.{handed_at, sight_at}
use Rattle.fr_core.specs.Agreement.{BusView, view_for, sight_in, NodeAgrees, AgreesAt, Agreement}
use Rattle.fr_core.specs.Carried.{Carried, Idle, Knows, Offers, Waits, Took}
use Rattle.fr_core.specs.declared.error.StepError.{StepError}
use Rattle.fr_core.specs.declared.error.StepError.TheVariants.{UnknownNode}
use Rattle.fr_core.specs.declared.event.Event.{Event}
use Rattle.fr_core.specs.declared.event.Event.TheVariants.{Commit, Withdraw, Read, Pop, Look, Fetch, Put, Take}
use Rattle.fr_core.specs.declared.event.Event.TheVariants.{Observe, Inject, Seal, Advance}
use Rattle.fr_core.specs.Steps.{step_refusal, step_done, if_node, with_interface, with_carried, with_bus, offer_of}
use Rattle.fr_core.specs.Steps.{look_in_turn, take_in_turn, looked, fetched, put_on_bus, taken, observed}
use Rattle.fr_core.specs.Worlds.{WorldState, has_node, interface_at, carried_at, no_interface, new_interface}
use Rattle.fr_core.specs.Worlds.{opening_world}
use Rattle.fr_interface.specs.State.{State, with_entry, withdraw_entry, read_entry, pop_entry, fetch_entry}
use Rattle.fr_journal.specs.Forms.{Entry}
use Rattle.fr_journal.specs.declared.entry.Entry.TheVariants as entries
use Rattle.fr_journal.specs.OpenWindow.{window_mark}
use Rattle.fr_schedule.specs.Descriptions.{Description}
use Rattle.fr_slots.specs.declared.channel.Channel.{Channel}
use Rattle.fr_slots.specs.declared.channel.Channel.TheVariants.{A, B}
use Rattle.fr_slots.specs.Parameters.{Parameters}
use Rattle.fr_slots.specs.Plans.{Plan}
use Rattle.fr_slots.specs.Windows.{Opportunity}
use Rattle.fr_status.specs.Forms.{Seen}

-- ---- the node that changes, and the others

-- all nodes but one are unchanged
record Others (w w' : WorldState) (n : ℕ) : Type 0 where
  pub interfaces : (k : ℕ) → k ≢ n → interface_at w' k ≡ interface_at w k
  pub carried : (k : ℕ) → k ≢ n → carried_at w' k ≡ carried_at w k
  pub views : (k : ℕ) → k ≢ n → view_for w'.bus k ≡ view_for w.bus k

moved : {n : ℕ} {i i' : State} {c c' : Carried} {v v' : BusView} → i' ≡ i → c' ≡ c → v' ≡ v → NodeAgrees n i c v
    → NodeAgrees n i' c' v'
moved p q r a = rw (p, q, r) a

each_node : (w w' : WorldState) (n : ℕ) → Others w w' n → (k : ℕ) → AgreesAt w' n → AgreesAt w k → AgreesAt w' k
each_node w w' n others k here was =
    elim (eqb_tells k n) [
      | inl same ↦ subst (λ (m : ℕ). AgreesAt w' m) (sym same.1) here
      | inr other ↦ moved (others.interfaces k other.1) (others.carried k other.1) (others.views k other.1) was
    ]

-- one node's interface and carried state change
keeps_node : (w : WorldState) (n : ℕ) (i : State) (c : Carried) → length w.interfaces ≡ length w.carried → Agreement w
    → n < length w.interfaces
    → (AgreesAt w n → NodeAgrees n i c (view_for w.bus n)) → Agreement (with_carried (with_interface w n i) n c)
keeps_node w n i c few a within step =
    let as_many = a.a_station_each in
    let within_c : n < length w.carried = omega (arith, few, within) in
    let within_s : n < length w.bus.stations = omega (arith, as_many, within) in
    let w' : WorldState = with_carried (with_interface w n i) n c in
    let others : Others w w' n = record {
      interfaces = λ k ne. get_or-set_other w.interfaces n k i no_interface ne;
      carried = λ k ne. get_or-set_other w.carried n k c Idle ne;
      views = λ k ne. refl;
    } in
    record {
      a_station_each = length-set w.interfaces n i ∙ as_many;
      each = λ k below. each_node w w' n others k
          (moved (get_or-set_same w.interfaces n i no_interface within)
          (get_or-set_same w.carried n c Idle within_c) refl (step (a.each n within_s)))
          (a.each k below);
    }

keeps_interface : (w : WorldState) (n : ℕ) (i : State) → length w.interfaces ≡ length w.carried → Agreement w
    → n < length w.interfaces
    → (AgreesAt w n → NodeAgrees n i (carried_at w n) (view_for w.bus n)) → Agreement (with_interface w n i)
keeps_interface w n i few a within step =
    let e = set-get_or w.carried n Idle in
    rw e at (keeps_node w n i (carried_at w n) few a within step)

keeps_carried : (w : WorldState) (n : ℕ) (c : Carried) → length w.interfaces ≡ length w.carried → Agreement w
    → n < length w.interfaces
    → (AgreesAt w n → NodeAgrees n (interface_at w n) c (view_for w.bus n)) → Agreement (with_carried w n c)
keeps_carried w n c few a within step =
    let e = set-get_or w.interfaces n no_interface in
    rw e at (keeps_node w n (interface_at w n) c few a within step)

abbrev as_view : BusState → Station → BusView
as_view b s = record { params = b.cluster.params; sealed = b.sealed; phase = b.phase; opened = b.opened; station = s }

-- one node's station and carried state change
keeps_station : (w : WorldState) (n : ℕ) (s : Station) (c : Carried) → length w.interfaces ≡ length w.carried
    → Agreement w → n < length w.interfaces
    → (AgreesAt w n → NodeAgrees n (interface_at w n) c (as_view w.bus s))
    → Agreement (with_carried (with_bus w (with_station w.bus n s)) n c)
keeps_station w n s c few a within step =
    let as_many = a.a_station_each in
    let within_c : n < length w.carried = omega (arith, few, within) in
    let within_s : n < length w.bus.stations = omega (arith, as_many, within) in
    let w' : WorldState = with_carried (with_bus w (with_station w.bus n s)) n c in
    let still = length-set w.bus.stations n s in
    let others : Others w w' n = record {
      interfaces = λ k ne. refl;
      carried = λ k ne. get_or-set_other w.carried n k c Idle ne;
      views = λ k ne. ap (as_view w.bus) (get_or-set_other w.bus.stations n k s idle_station ne);
    } in
    record {
      a_station_each = as_many ∙ sym still;
      each = λ k below. each_node w w' n others k
          (moved refl (get_or-set_same w.carried n c Idle within_c)
          (ap (as_view w.bus) (get_or-set_same w.bus.stations n s idle_station within_s))
          (step (a.each n within_s)))
          (a.each k (subst (λ (m : ℕ). k < m) still below));
    }

keeps_faults : (w : WorldState) (n : ℕ) (s : Station) → length w.interfaces ≡ length w.carried → Agreement w
    → n < length w.interfaces
    → (AgreesAt w n → NodeAgrees n (interface_at w n) (carried_at w n) (as_view w.bus s))
    → Agreement (with_bus w (with_station w.bus n s))
keeps_faults w n s few a within step =
    let e = set-get_or w.carried n Idle in
    rw e at (keeps_station w n s (carried_at w n) few a within step)

-- the agreement of a node with its carried data
carrying : {n : ℕ} {i : State} {c c' : Carried} {v : BusView} → c ≡ c' → NodeAgrees n i c v → NodeAgrees n i c' v
carrying {n = n} {i = i} {v = v} e a = subst (λ (c : Carried). NodeAgrees n i c v) e a

-- ---- events of a node

keeps_host : (w : WorldState) (n : ℕ) (e : Entry) → handed_at (interface_at w n).params (interface_at w n).plan
    (interface_at w n).entries e ≡ []
    → sight_at (interface_at w n).entries e ≡ [] → window_mark (interface_at w n).entries e ≡ None
    → length w.interfaces ≡ length w.carried → Agreement w → n < length w.interfaces
    → Agreement (with_interface w n (with_entry (interface_at w n) e))
keeps_host w n e hands sees mark few a within =
    keeps_interface w n (with_entry (interface_at w n) e) few a within
    (λ h. agrees_host n (interface_at w n) (carried_at w n) (view_for w.bus n) e hands sees mark h)

keeps_look : (w : WorldState) (n : ℕ) (c : Carried) (opened : Option Opportunity) → carried_at w n ≡ c
    → collecting_of w.bus ≡ opened → look_in_turn w c ≡ None
    → length w.interfaces ≡ length w.carried → Agreement w → n < length w.interfaces → Agreement (looked w n opened)
keeps_look w n c None is shown free few a within = a
keeps_look w n Idle (Some x) is shown free few a within =
    keeps_carried w n (Knows x) few a within
    (λ h. agrees_look n (interface_at w n) (view_for w.bus n) x (kept_if (collects w.bus.phase) w.bus.opened x shown)
    (kept (collects w.bus.phase) w.bus.opened x shown) (carrying is h))
keeps_look w n (Knows y) (Some x) is shown free few a within = absurd (let none : ⊥ = cc in none)
keeps_look w n (Offers y o) (Some x) is shown free few a within = absurd (let none : ⊥ = cc in none)
keeps_look w n (Waits y) (Some x) is shown free few a within = absurd (let none : ⊥ = cc in none)
keeps_look w n (Took y p q) (Some x) is shown free few a within = absurd (let none : ⊥ = cc in none)

keeps_fetch : (w : WorldState) (n : ℕ) (c : Carried) → carried_at w n ≡ c → length w.interfaces ≡ length w.carried
    → Agreement w → n < length w.interfaces → Agreement (fetched w n c)
keeps_fetch w n Idle is few a within = a
keeps_fetch w n (Knows x) is few a within =
    keeps_node w n (with_entry (interface_at w n) (fetch_entry (interface_at w n) x))
    (Offers x (offer_of (interface_at w n) x)) few a within
    (λ h. agrees_fetch n (interface_at w n) x (view_for w.bus n) (carrying is h))
keeps_fetch w n (Offers x o) is few a within = a
keeps_fetch w n (Waits x) is few a within = a
keeps_fetch w n (Took x p q) is few a within = a

keeps_put : (w : WorldState) (n : ℕ) (c : Carried) → carried_at w n ≡ c → length w.interfaces ≡ length w.carried
    → Agreement w → n < length w.interfaces → Agreement (put_on_bus w n c)
keeps_put w n Idle is few a within = a
keeps_put w n (Knows x) is few a within = a
keeps_put w n (Offers x o) is few a within =
    keeps_station w n (offering (station_at w.bus n) o) (Waits x) few a within
    (λ h. agrees_put n (interface_at w n) x o (view_for w.bus n) (carrying is h))
keeps_put w n (Waits x) is few a within = a
keeps_put w n (Took x p q) is few a within = a

taking : (known sealed : Bool) (e f : BusError) (rest : Option BusError)
    → cond (not known) (Some e) (cond (not sealed) (Some f) rest) ≡ None → sealed ≡ true
taking true true e f rest h = refl
taking true false e f rest h = absurd (let none : ⊥ = cc in none)
taking false sealed e f rest h = absurd (let none : ⊥ = cc in none)

none_of : {E F : Type 0} (f : E → F) (o : Option E) → option_map f o ≡ None → o ≡ None
none_of f None e = refl
none_of f (Some x) e = absurd (let none : ⊥ = cc in none)

seen_is : (b : BusState) (channel : Channel) (n : ℕ) (o : Option Recorded)
    → sight_in b.cluster.params channel n o ≡ seen_where b o channel n
seen_is b channel n None = refl
seen_is b channel n (Some r) = refl

same_took : (x : Opportunity) (p q r s : Seen) → p ≡ r → q ≡ s → ◌≡◌ {A = Carried} (Took x p q) (Took x r s)
same_took x p q r s e f = cc

keeps_take : (w : WorldState) (n : ℕ) (c : Carried) → carried_at w n ≡ c → take_in_turn w n c ≡ None
    → length w.interfaces ≡ length w.carried → Agreement w → n < length w.interfaces
    → Agreement (taken w n c)
keeps_take w n Idle is free few a within = a
keeps_take w n (Knows x) is free few a within = a
keeps_take w n (Offers x o) is free few a within = a
keeps_take w n (Waits x) is free few a within =
    let sealed : seals w.bus.phase ≡ true = taking (is_node w.bus n) (seals w.bus.phase) _ _ _
    (none_of _ (take_refusal w.bus n x.number) free) in
    keeps_station w n (record (station_at w.bus n) { taken = true })
    (Took x (seen_last w.bus A n) (seen_last w.bus B n)) few a within
    (λ h. carrying (same_took x _ _ _ _ (seen_is w.bus A n (last_recorded w.bus))
    (seen_is w.bus B n (last_recorded w.bus)))
    (agrees_take n (interface_at w n) x (view_for w.bus n) sealed (carrying is h)))
keeps_take w n (Took x p q) is free few a within = a

keeps_observe : (w : WorldState) (n : ℕ) (c : Carried) → carried_at w n ≡ c → length w.interfaces ≡ length w.carried
    → Agreement w → n < length w.interfaces → Agreement (observed w n c)
keeps_observe w n Idle is few a within = a
keeps_observe w n (Knows x) is few a within = a
keeps_observe w n (Offers x o) is few a within = a
keeps_observe w n (Waits x) is few a within = a
keeps_observe w n (Took x p q) is few a within =
    keeps_node w n (with_entry (interface_at w n) (entries.Observe x.number p q)) Idle few a within
    (λ h. agrees_observe n (interface_at w n) x x.number p q (view_for w.bus n) (carrying is h))

-- ---- faults

-- a station with another fault
abbrev IsOtherwise : Station → Station → Type 0
IsOtherwise s t = (s.a.offer ≡ t.a.offer) × (s.b.offer ≡ t.b.offer) × (s.put ≡ t.put) × (s.taken ≡ t.taken)

babbling_is : (channel : Channel) (bytes : ArrayVec ℕ) (s : Station) → IsOtherwise (babbling channel bytes s) s
babbling_is A bytes s = (refl, refl, refl, refl)
babbling_is B bytes s = (refl, refl, refl, refl)

muting_is : (channel : Channel) (s : Station) → IsOtherwise (muting channel s) s
muting_is A s = (refl, refl, refl, refl)
muting_is B s = (refl, refl, refl, refl)

keeps_fault : (w : WorldState) (n : ℕ) (s : Station) → IsOtherwise s (station_at w.bus n)
    → length w.interfaces ≡ length w.carried → Agreement w → n < length w.interfaces
    → Agreement (with_bus w (with_station w.bus n s))
keeps_fault w n s same few a within =
    keeps_faults w n s few a within (λ h. agrees_inject n (interface_at w n) (carried_at w n)
    (view_for w.bus n) s same.0 same.1 same.2 same.3 h)

injecting : (known collecting more : Bool) (e f g : BusError)
    → ◌≡◌ {A = Option BusError} (cond (not known) (Some e) (cond (not collecting) (Some f) (cond more (Some g) None)))
    None → known ≡ true
injecting true collecting more e f g h = refl
injecting false collecting more e f g h = absurd (let none : ⊥ = cc in none)

keeps_inject : (w : WorldState) (fault : Fault) → inject_refusal w.bus fault ≡ None
    → length w.interfaces ≡ length w.carried → Agreement w → Agreement (with_bus w (inject_done w.bus fault))
keeps_inject w (Babble n channel bytes) free few a =
    let there : n < length w.bus.stations =
    ltb-true n (length w.bus.stations) (injecting (is_node w.bus n) (collects w.bus.phase)
    (has_fault w.bus (Babble n channel bytes)) _ _ _ free) in
    let as_many = a.a_station_each in
    keeps_fault w n (babbling channel bytes (station_at w.bus n)) (babbling_is channel bytes (station_at w.bus n)) few a
    (omega (arith, as_many, there))
keeps_inject w (Mute n channel) free few a =
    let there : n < length w.bus.stations =
    ltb-true n (length w.bus.stations) (injecting (is_node w.bus n) (collects w.bus.phase)
    (has_fault w.bus (Mute n channel)) _ _ _ free) in
    let as_many = a.a_station_each in
    keeps_fault w n (muting channel (station_at w.bus n)) (muting_is channel (station_at w.bus n)) few a
    (omega (arith, as_many, there))
keeps_inject w (Corrupt A bit) free few a = record { a_station_each = a.a_station_each; each = a.each }
keeps_inject w (Corrupt B bit) free few a = record { a_station_each = a.a_station_each; each = a.each }

-- ---- events of all nodes

all_at : (p : Station → Bool) (ss : List Station) (n : ℕ) → n < length ss → list_all p ss ≡ true
    → p (get_or ss n idle_station) ≡ true
all_at p [] n within e = absurd (let none : ⊥ = omega (arith, within) in none)
all_at p (s ∷ ss) zero within e = both_first (p s) (list_all p ss) e
all_at p (s ∷ ss) (suc n) within e = all_at p ss n (omega (arith, within)) (both_rest (p s) (list_all p ss) e)

passing : (first all : Bool) (e f : BusError) → ◌≡◌ {A = Option BusError}
    (cond (not first) (Some e) (cond (not all) (Some f) None)) None → (first ≡ true) × (all ≡ true)
passing true true e f h = (refl, refl)
passing true false e f h = absurd (let none : ⊥ = cc in none)
passing false all e f h = absurd (let none : ⊥ = cc in none)

keeps_seal : (w : WorldState) (opened : Option Opportunity) → w.bus.opened ≡ opened → seal_refusal w.bus ≡ None
    → Agreement w → Agreement (with_bus w (sealed_with w.bus opened))
keeps_seal w None is free a = a
keeps_seal w (Some x) is free a =
    let tests = passing (collects w.bus.phase) (all_put w.bus) _ _ free in
    record {
      a_station_each = a.a_station_each;
      each = λ n within.
          agrees_seal n (interface_at w n) (carried_at w n) (view_for w.bus n) (outcome_of w.bus x) tests.0
          (all_at is_put w.bus.stations n within tests.1) is
          (offer_of_station w.bus.cluster x A n 0 n w.bus.stations (omega arith) within)
          (offer_of_station w.bus.cluster x B n 0 n w.bus.stations (omega arith) within)
          (a.each n within);
    }

idle_at : (k n : ℕ) → get_or (replicate k idle_station) n idle_station ≡ idle_station
idle_at zero n = refl
idle_at (suc k) zero = refl
idle_at (suc k) (suc n) = idle_at k n

fresh : (next : Option Opportunity) → seals (phase_at next) ≡ false
fresh None = refl
fresh (Some x) = refl

keeps_advance : (w : WorldState) → advance_refusal w.bus ≡ None → Agreement w → Agreement (with_bus w (advanced w.bus))
keeps_advance w free a =
    let as_many = length-replicate (length w.bus.stations) idle_station in
    let tests = passing (seals w.bus.phase) (all_taken w.bus) _ _ free in
    let next = next_of_bus w.bus in
    record {
      a_station_each = a.a_station_each ∙ sym as_many;
      each = λ n within.
          let within_s : n < length w.bus.stations = subst (λ (m : ℕ). n < m) as_many within in
          subst (λ (s : Station). NodeAgrees n (interface_at w n) (carried_at w n)
          (record {
            params = w.bus.cluster.params;
            sealed = w.bus.sealed;
            phase = phase_at next;
            opened = next;
            station = s;
          })) (sym (idle_at (length w.bus.stations) n))
          (agrees_advance n (interface_at w n) (carried_at w n) (view_for w.bus n) (phase_at next) next tests.0
          (all_at is_taken w.bus.stations n within_s tests.1) (fresh next) (a.each n within_s));
    }

-- ---- events

known : (b : Bool) (found : Option StepError) → cond b found (Some UnknownNode) ≡ None → (b ≡ true) × (found ≡ None)
known true found e = (refl, e)
known false found e = absurd (let none : ⊥ = cc in none)

there_is : (w : WorldState) (n : ℕ) (refusal : Option StepError) → if_node w n refusal ≡ None → n < length w.interfaces
there_is w n refusal free = ltb-true n (length w.interfaces) (known (has_node w n) refusal free).0

pub keeps_done : (w : WorldState) (event : Event) → step_refusal w event ≡ None → length w.interfaces ≡ length w.carried
    → Agreement w → Agreement (step_done w event)
keeps_done w (Commit n task buffer payload) free few a = keeps_host w n (entries.Commit task buffer payload) refl refl
    refl few a (there_is w n _ free)
keeps_done w (Withdraw n task buffer) free few a = keeps_host w n (withdraw_entry (interface_at w n) task buffer) refl
    refl refl few a (there_is w n _ free)
keeps_done w (Read n task buffer) free few a = keeps_host w n (read_entry (interface_at w n) task buffer) refl refl refl
    few a (there_is w n _ free)
keeps_done w (Pop n task) free few a = keeps_host w n (pop_entry (interface_at w n) task) refl refl refl few a
    (there_is w n _ free)
keeps_done w (Look n) free few a = keeps_look w n (carried_at w n) (collecting_of w.bus) refl refl
    (known (has_node w n) _ free).1 few a (there_is w n _ free)
keeps_done w (Fetch n) free few a = keeps_fetch w n (carried_at w n) refl few a (there_is w n _ free)
keeps_done w (Put n) free few a = keeps_put w n (carried_at w n) refl few a (there_is w n _ free)
keeps_done w (Take n) free few a = keeps_take w n (carried_at w n) refl (known (has_node w n) _ free).1 few a
    (there_is w n _ free)
keeps_done w (Observe n) free few a = keeps_observe w n (carried_at w n) refl few a (there_is w n _ free)
keeps_done w (Inject fault) free few a = keeps_inject w fault (none_of _ (inject_refusal w.bus fault) free) few a
keeps_done w Seal free few a = keeps_seal w w.bus.opened refl (none_of _ (seal_refusal w.bus) free) a
keeps_done w Advance free few a = keeps_advance w (none_of _ (advance_refusal w.bus) free) a

-- ---- the opening world

idle_carried : (k n : ℕ) → get_or (replicate k Idle) n Idle ≡ Idle
idle_carried zero n = refl
idle_carried (suc k) zero = refl
idle_carried (suc k) (suc n) = idle_carried k n

new_at : (p : Parameters) (plans : List Plan) (n : ℕ) → n < length plans
    → (plan : Plan) × (get_or (map (new_interface p) plans) n no_interface ≡ new_interface p plan)
new_at p [] n within = absurd (let none : ⊥ = omega (arith, within) in none)
new_at p (plan ∷ plans) zero within = (plan, refl)
new_at p (plan ∷ plans) (suc n) within = new_at p plans n (omega (arith, within))

pub agreement_opens : (d : Description) (cycles : ℕ) → Agreement (opening_world d cycles)
agreement_opens d cycles =
    let w = opening_world d cycles in
    let as_many = length-replicate (length d.plans) idle_station in
    record {
      a_station_each = length-map d.plans (new_interface d.params) ∙ sym as_many;
      each = λ n within.
          let new = new_at d.params d.plans n (subst (λ (m : ℕ). n < m) as_many within) in
          moved new.1 (idle_carried (length d.plans) n) (ap (as_view w.bus) (idle_at (length d.plans) n))
          (opening_agrees n d.params new.0 w.bus.opened);
    }
