-- The calls of a bus keep the runs that lead to its data.
use Rattle.std.proofs.Common.{◌≡◌, ℕ, zero, suc, ◌+◌, ◌*◌, ◌^◌, ◌<◌, ◌≤◌, Bool, true, false, List, [], ◌∷◌, ◌++◌}
use Rattle.std.proofs.Common.{length, map}
use Rattle.std.proofs.Common.{replicate, Option, Some, None, slice_get, refl, subst, sym, ap, ◌∙◌, arith}
use Rattle.std.proofs.lemmas.Bool.{and_parts, leb-true}
use Rattle.std.proofs.lemmas.List.{length-map}
use Rattle.std.proofs.Common.{◌-◌}
use Rattle.std.specs.Prelude.{option_map, nat_le, ◌&&◌, Result, Ok, Err, OnOk, OnErr}
use Rattle.std.specs.Global.{Vec}
use Rattle.fr_bus.specs.BusFields.{state_in, IsLawful}
use Rattle.fr_bus.proofs.NextLemmas.{next_is}
use Rattle.fr_bus.proofs.RunLemmas.{run_new, run_sealed, run_advanced, course_sealed, opened_is_next, last_more}
use Rattle.fr_bus.specs.Courses.{Standpoint, opportunities, course_of, passed, next_of}
use Rattle.fr_bus.specs.declared.bus.Bus.TheInside.{Inside}
use Rattle.fr_bus.specs.declared.error.BusError.{BusError}
use Rattle.fr_bus.specs.declared.error.Phase.{Phase}
use Rattle.fr_bus.specs.declared.error.Phase.TheVariants.{Collect, Sealed as InSealed, Finished}
use Rattle.fr_bus.specs.declared.fault.Fault.{Fault}
use Rattle.fr_bus.specs.declared.fault.Fault.TheVariants.{Babble, Mute, Corrupt}
use Rattle.fr_bus.specs.declared.station.Side.{Side}
use Rattle.fr_bus.specs.Live.{cycles_suit, most_live_cycles, most_live_windows}
use Rattle.fr_bus.specs.Outcome.{sent_from, sent_of, sent_in, sent_on, longest, transmission, fate_of}
use Rattle.fr_bus.specs.Record.{Recorded, seen_by}
use Rattle.fr_bus.specs.Standing.{no_room, roomless, BusStanding, standing_of, with_record, bare, with_cluster}
use Rattle.fr_bus.specs.Standing.{IsBusHistory}
use Rattle.fr_bus.specs.Standing.{IsDecided, LiveStanding, IsLiveHistory}
use Rattle.fr_bus.specs.States.{BusState, IsRun, Stands, collects, outcome_of, sealed_with, sealed_now, advanced}
use Rattle.fr_bus.specs.States.{phase_at}
use Rattle.fr_bus.specs.States.{idle_station, seal_refusal, seen_where, next_of_bus, inject_done, last_recorded}
use Rattle.fr_bus.specs.States.{new_bus}
use Rattle.fr_bus.specs.States.{with_side, is_put, is_taken}
use Rattle.fr_bus.specs.Stations.{Station}
use Rattle.fr_bus.specs.Windows.{following}
use Rattle.fr_guardian.specs.Guarding.{passes, passes_in}
use Rattle.fr_schedule.specs.Clusters.{IsCluster}
use Rattle.fr_schedule.specs.Descriptions.{Description}
use Rattle.fr_slots.specs.declared.channel.Channel.{Channel}
use Rattle.fr_slots.specs.declared.channel.Channel.TheVariants.{A, B}
use Rattle.fr_slots.specs.Parameters.{Parameters}
use Rattle.fr_slots.specs.Plans.{Plan}
use Rattle.fr_slots.specs.Windows.{Opportunity, slot_of}

-- ---- one side of a station is changed

pub side_put : (channel : Channel) (side : Side) (s : Station) → is_put (with_side channel side s) ≡ is_put s
side_put A side s = refl
side_put B side s = refl

pub side_taken : (channel : Channel) (side : Side) (s : Station) → is_taken (with_side channel side s) ≡ is_taken s
side_taken A side s = refl
side_taken B side s = refl

-- ---- a bus has no journals

get_roomless : (ps : List Plan) (n : ℕ) → slice_get (map no_room ps) n ≡ option_map no_room (slice_get ps n)
get_roomless [] n = refl
get_roomless (p ∷ ps) zero = refl
get_roomless (p ∷ ps) (suc n) = get_roomless ps n

passes_without : (d : Description) (w : Opportunity) (channel : Channel) (plan : Option Plan) (slot : Option ℕ)
    → passes_in (roomless d) w channel (option_map no_room plan) slot ≡ passes_in d w channel plan slot
passes_without d w channel None slot = refl
passes_without d w channel (Some plan) None = refl
passes_without d w channel (Some plan) (Some slot) = refl

passes_roomless : (d : Description) (node : ℕ) (w : Opportunity) (channel : Channel)
    → passes (roomless d) node w channel ≡ passes d node w channel
passes_roomless d node w channel =
    ap (λ plan. passes_in (roomless d) w channel plan (slot_of w channel)) (get_roomless d.plans node)
    ∙ passes_without d w channel (slice_get d.plans node) (slot_of w channel)

pub passes_alike : (d e : Description) (node : ℕ) (w : Opportunity) (channel : Channel) → roomless d ≡ roomless e
    → passes d node w channel ≡ passes e node w channel
passes_alike d e node w channel alike =
    sym (passes_roomless d node w channel) ∙ ap (λ c. passes c node w channel) alike ∙ passes_roomless e node w channel

module _ (d e : Description) (w : Opportunity) (alike : roomless d ≡ roomless e) where
  on_channel : (node : ℕ) (channel : Channel) (side : Side)
      → sent_on d w node channel side ≡ sent_on e w node channel side
  on_channel node channel side =
      ap (λ (lets : Bool). transmission node channel false (fate_of side.mute lets) side.offer
      ++ transmission node channel true (fate_of false lets) side.babble) (passes_alike d e node w channel alike)

  in_channel : (node : ℕ) (channel : Channel) (side : Side) (slot : Option ℕ)
      → sent_in d w node channel side slot ≡ sent_in e w node channel side slot
  in_channel node channel side None = refl
  in_channel node channel side (Some slot) = on_channel node channel side

  of_node : (node : ℕ) (s : Station) → sent_of d w node s ≡ sent_of e w node s
  of_node node s = λ i. in_channel node A s.a (slot_of w A) i ++ in_channel node B s.b (slot_of w B) i

  pub sent_alike : (node : ℕ) (ss : List Station) → sent_from d w node ss ≡ sent_from e w node ss
  sent_alike node [] = refl
  sent_alike node (s ∷ ss) = λ i. of_node node s i ++ sent_alike (node + 1) ss i

-- ---- the data by a run that leads to them

module _ (h : BusStanding) (b : BusState) (is : IsBusHistory h b) where
  pub stations_are : b.stations ≡ h.stations
  stations_are = ap (λ (x : BusStanding). x.stations) is.leaves

  pub phase_is : b.phase ≡ h.phase
  phase_is = ap (λ (x : BusStanding). x.phase) is.leaves

  pub opened_is : b.opened ≡ h.opened
  opened_is = ap (λ (x : BusStanding). x.opened) is.leaves

  pub course_is : course_of b.cluster.params b.cycles b.sealed ≡ h.course
  course_is = ap (λ (x : BusStanding). x.course) is.leaves

  pub params_are : b.cluster.params ≡ h.cluster.params
  params_are = ap (λ (d : Description). d.params) is.alike

  pub course_cycles : h.course.cycles ≡ h.cycles
  course_cycles =
      sym (ap (λ (x : BusStanding). x.course.cycles) is.leaves) ∙ ap (λ (x : BusStanding). x.cycles) is.leaves

  -- the outcome of the open window
  pub outcome_is : (w : Opportunity) → outcome_of b w ≡ outcome_of (bare h) w
  outcome_is w = λ i. record {
    window = w;
    sent = (sent_alike b.cluster h.cluster w is.alike 0 b.stations ∙ ap (sent_from h.cluster w 0) stations_are) i;
    corrupt_a = (is.leaves i).corrupt_a;
    corrupt_b = (is.leaves i).corrupt_b;
  }

  -- the same bus, if it is of this very cluster
  pub told : (rs : List Recorded) → b.cluster ≡ h.cluster → b.sealed ≡ rs → with_record h rs ≡ b
  told rs same sealed =
      ap (λ (d : Description). with_record (with_cluster h d) rs) (sym same)
      ∙ ap (λ (x : BusStanding). with_record x rs) (sym is.leaves)
      ∙ ap (with_record (standing_of b)) (sym sealed)

  -- ---- stations and faults

  pub history_stations : (ss : List Station) → length ss ≡ length h.stations
      → IsBusHistory (record h { stations = ss }) (record b { stations = ss })
  history_stations ss long = record {
    run = record {
      lawful = is.run.lawful;
      some_cycles = is.run.some_cycles;
      few_windows = is.run.few_windows;
      one_each = long ∙ sym (ap length stations_are) ∙ is.run.one_each;
      recorded = is.run.recorded;
      stands = stands_so b.phase is.run.stands;
    };
    alike = is.alike;
    leaves = λ i. record (is.leaves i) { stations = ss };
  }
    where
      stands_so : (phase : Phase) → Stands phase b → Stands phase (record b { stations = ss })
      stands_so Collect s = s
      stands_so InSealed s = s
      stands_so Finished s = s

  -- the stations after a change that depends on the stations alone
  pub history_change : (change : List Station → List Station) (ss : List Station) → ss ≡ change h.stations
      → length (change h.stations) ≡ length h.stations
      → IsBusHistory (record h { stations = ss }) (record b { stations = change b.stations })
  history_change change ss same long =
      subst (λ (l : List Station). IsBusHistory (record h { stations = ss }) (record b { stations = l }))
      (same ∙ ap change (sym stations_are)) (history_stations ss (ap length same ∙ long))

  pub history_corrupt_a : (x : Option ℕ) → IsBusHistory (record h { corrupt_a = x }) (record b { corrupt_a = x })
  history_corrupt_a x = record {
    run = record {
      lawful = is.run.lawful;
      some_cycles = is.run.some_cycles;
      few_windows = is.run.few_windows;
      one_each = is.run.one_each;
      recorded = is.run.recorded;
      stands = stands_so b.phase is.run.stands;
    };
    alike = is.alike;
    leaves = λ i. record (is.leaves i) { corrupt_a = x };
  }
    where
      stands_so : (phase : Phase) → Stands phase b → Stands phase (record b { corrupt_a = x })
      stands_so Collect s = s
      stands_so InSealed s = s
      stands_so Finished s = s

  pub history_corrupt_b : (x : Option ℕ) → IsBusHistory (record h { corrupt_b = x }) (record b { corrupt_b = x })
  history_corrupt_b x = record {
    run = record {
      lawful = is.run.lawful;
      some_cycles = is.run.some_cycles;
      few_windows = is.run.few_windows;
      one_each = is.run.one_each;
      recorded = is.run.recorded;
      stands = stands_so b.phase is.run.stands;
    };
    alike = is.alike;
    leaves = λ i. record (is.leaves i) { corrupt_b = x };
  }
    where
      stands_so : (phase : Phase) → Stands phase b → Stands phase (record b { corrupt_b = x })
      stands_so Collect s = s
      stands_so InSealed s = s
      stands_so Finished s = s

  -- ---- a seal

  collecting : seal_refusal (bare h) ≡ None → collects h.phase ≡ true
  collecting accepted = by_case (collects h.phase) refl accepted
    where
      by_case : (c : Bool) → collects h.phase ≡ c → seal_refusal (bare h) ≡ None → collects h.phase ≡ true
      by_case true e none = e
      by_case false e none = absurd (let no : ⊥ = cc (rw e at none) in no)

  pub next_window : (w : Opportunity) → seal_refusal (bare h) ≡ None → h.opened ≡ Some w → next_of h.course ≡ Some w
  next_window w accepted opened =
      opened_is_next b h.course w is.run (sym course_is)
      (ap collects phase_is ∙ collecting accepted) (opened_is ∙ opened)

  pub history_seal : (w : Opportunity) (x y : ℕ) (c : Standpoint) → IsDecided h w x y → c ≡ passed h.course w x y
      → IsBusHistory (record h { phase = InSealed; course = c }) (sealed_now b)
  history_seal w x y c decided course =
      let at_w : b.opened ≡ Some w = opened_is ∙ decided.opened in
      let open_phase : collects b.phase ≡ true = ap collects phase_is ∙ collecting decided.accepted in
      let sent_is : outcome_of b w ≡ outcome_of (bare h) w = outcome_is w in
      let on_a : x ≡ longest A (outcome_of b w).sent =
      decided.on_a ∙ sym (ap (λ (r : Recorded). longest A r.sent) sent_is) in
      let on_b : y ≡ longest B (outcome_of b w).sent =
      decided.on_b ∙ sym (ap (λ (r : Recorded). longest B r.sent) sent_is) in
      let rs = b.sealed ++ outcome_of b w ∷ [] in
      let new_course : c ≡ course_of b.cluster.params b.cycles rs =
      course_sealed b w h.course c x y rs course (sym course_is) on_a on_b refl in
      subst (λ (o : Option Opportunity). IsBusHistory (record h { phase = InSealed; course = c }) (sealed_with b o))
      (sym at_w)
      (record {
        run = run_sealed b w rs refl is.run open_phase at_w;
        alike = is.alike;
        leaves = λ i. record (is.leaves i) { phase = InSealed; course = sym new_course i };
      })

  -- ---- an advance

  pub history_advance : (phase : Phase) (opened : Option Opportunity) (ss : List Station) → opened ≡ next_of h.course
      → phase ≡ phase_at opened → ss ≡ replicate (length h.stations) idle_station
      → IsBusHistory
      (record h { phase = phase; opened = opened; stations = ss; corrupt_a = None; corrupt_b = None }) (advanced b)
  history_advance phase opened ss opened_so phase_so stations_so =
      let next : next_of_bus b ≡ opened = sym (opened_so ∙ ap next_of (sym course_is)
      ∙ next_is b.cluster.params b.cycles b.sealed) in
      let at : phase_at (next_of_bus b) ≡ phase = ap phase_at next ∙ sym phase_so in
      let idle : replicate (length b.stations) idle_station ≡ ss =
      ap (λ (l : List Station). replicate (length l) idle_station) stations_are ∙ sym stations_so in
      record {
        run = run_advanced b is.run;
        alike = is.alike;
        leaves = λ i. record (is.leaves i)
            { phase = at i; opened = next i; stations = idle i; corrupt_a = None; corrupt_b = None };
      }

-- a run leads to its own data
pub own_history : (b : BusState) → IsRun b → IsBusHistory (standing_of b) b
own_history b run = record { run = run; alike = refl; leaves = refl }

-- what a node sees doesn't depend on the record
pub seen_same : (h : BusStanding) (rs : List Recorded) (last : Option Recorded) (channel : Channel) (node : ℕ)
    → seen_where (bare h) last channel node ≡ seen_where (with_record h rs) last channel node
seen_same h rs None channel node = refl
seen_same h rs (Some r) channel node = refl

pub seen_alike : (h : BusStanding) (b : BusState) (last : Option Recorded) (channel : Channel) (node : ℕ)
    → IsBusHistory h b → seen_where (bare h) last channel node ≡ seen_where b last channel node
seen_alike h b None channel node is = refl
seen_alike h b (Some r) channel node is = sym
    (ap (λ p. seen_by p r channel node) (params_are h b is))

-- ---- a bus with its record

-- the call keeps cluster, cycles and record
pub record KeepsRecord (b c : BusState) : Type 0 where
  pub cluster : c.cluster ≡ b.cluster
  pub cycles : c.cycles ≡ b.cycles
  pub sealed : c.sealed ≡ b.sealed

pub kept_record : (b c : BusState) → c.cluster ≡ b.cluster → c.cycles ≡ b.cycles → c.sealed ≡ b.sealed → KeepsRecord b c
kept_record b c cluster cycles sealed = record { cluster = cluster; cycles = cycles; sealed = sealed }

pub inject_keeps : (b : BusState) (fault : Fault) → KeepsRecord b (inject_done b fault)
inject_keeps b (Babble node channel bytes) = record { cluster = refl; cycles = refl; sealed = refl }
inject_keeps b (Mute node channel) = record { cluster = refl; cycles = refl; sealed = refl }
inject_keeps b (Corrupt A bit) = record { cluster = refl; cycles = refl; sealed = refl }
inject_keeps b (Corrupt B bit) = record { cluster = refl; cycles = refl; sealed = refl }

-- the bus after an accepted call is this one
pub record IsAfter (kept : BusStanding) (windows : Vec Recorded) (b : BusState) : Type 0 where
  pub value : with_record kept windows.items ≡ b
  pub lawful : IsLawful (record { kept = kept; «record» = windows })

pub after_call : (i : Inside) (kept : BusStanding) (windows : Vec Recorded) (b : BusState) → IsLawful i
    → IsBusHistory kept b → kept.cluster ≡ i.kept.cluster → b.cluster ≡ i.kept.cluster → b.cycles ≡ i.kept.cycles
    → b.sealed ≡ windows.items → IsAfter kept windows b
after_call i kept windows b lawful history same cluster cycles sealed =
    let value : with_record kept windows.items ≡ b = told kept b history windows.items (cluster ∙ sym same) sealed in
    let few : kept.cycles ≤ 1024 = subst (λ n. n ≤ 1024)
    (sym (ap (λ (x : BusStanding). x.cycles) (sym history.leaves) ∙ cycles)) lawful.few_cycles in
    record {
      value = value;
      lawful = record { run = subst (IsBusHistory kept) (sym value) history; few_cycles = few };
    }

module _ {X : Type 0} (i : Inside) (kept : BusStanding) (b : BusState) (lawful : IsLawful i)
    (keeps : KeepsRecord (state_in i) b) (same : kept.cluster ≡ i.kept.cluster) where
  pub lawful_either : (r : Result X BusError) → OnOk r (IsBusHistory kept b) → OnErr r (kept ≡ i.kept)
      → IsLawful (record { kept = kept; «record» = i.«record» })
  lawful_either (Ok x) history refused = (after_call i kept i.«record» b lawful history same keeps.cluster keeps.cycles
      keeps.sealed).lawful
  lawful_either (Err e) history refused = subst (λ (k : BusStanding). IsLawful
      (record { kept = k; «record» = i.«record» })) (sym refused) lawful

  pub accepted_either : (r : Result X BusError) → OnOk r (IsBusHistory kept b)
      → OnOk r (with_record kept i.«record».items ≡ b)
  accepted_either (Ok x) history = (after_call i kept i.«record» b lawful history same keeps.cluster keeps.cycles
      keeps.sealed).value
  accepted_either (Err e) history = tt

seal_cycles : (b : BusState) (o : Option Opportunity) → (sealed_with b o).cycles ≡ b.cycles
seal_cycles b None = refl
seal_cycles b (Some w) = refl

seal_cluster : (b : BusState) (o : Option Opportunity) → (sealed_with b o).cluster ≡ b.cluster
seal_cluster b None = refl
seal_cluster b (Some w) = refl

pub after_seal : (i : Inside) (kept : BusStanding) (windows : Vec Recorded) (w : Opportunity) → IsLawful i
    → IsBusHistory kept (sealed_now (state_in i)) → kept.cluster ≡ i.kept.cluster → i.kept.opened ≡ Some w
    → windows.items ≡ i.«record».items ++ outcome_of (bare i.kept) w ∷ []
    → IsAfter kept windows (sealed_now (state_in i))
after_seal i kept windows w lawful history same opened more =
    after_call i kept windows (sealed_now (state_in i)) lawful history same
    (seal_cluster (state_in i) i.kept.opened) (seal_cycles (state_in i) i.kept.opened)
    (ap (λ (o : Option Opportunity). (sealed_with (state_in i) o).sealed) opened ∙ sym more)

-- ---- a bus with its last window

module _ (h new : LiveStanding) (b c : BusState) (is : IsLiveHistory h b) (keeps : KeepsRecord b c)
    (same : new.last ≡ h.last) where
  pub live_call : IsBusHistory new.bus c → IsLiveHistory new c
  live_call history = record {
    of_bus = history;
    last_is = ap (λ (rs : List Recorded). slice_get rs (length rs - 1)) keeps.sealed ∙ is.last_is ∙ sym same;
  }

  pub live_either : {X : Type 0} (r : Result X BusError) → OnOk r (IsBusHistory new.bus c)
      → OnOk r (IsLiveHistory new c)
  live_either (Ok x) history = live_call history
  live_either (Err e) history = tt

pub live_seal : (h : LiveStanding) (bus : BusStanding) (b : BusState) (w : Opportunity) (r : Recorded)
    → IsLiveHistory h b → IsBusHistory bus (sealed_now b) → h.bus.opened ≡ Some w → r ≡ outcome_of (bare h.bus) w
    → IsLiveHistory (record { bus = bus; last = Some r }) (sealed_now b)
live_seal h bus b w r is history opened outcome =
    let at_w : b.opened ≡ Some w = opened_is h.bus b is.of_bus ∙ opened in
    record {
      of_bus = history;
      last_is = ap (λ (o : Option Opportunity). last_recorded (sealed_with b o)) at_w
          ∙ last_more b.sealed (outcome_of b w) ∙ ap Some (outcome_is h.bus b is.of_bus w ∙ sym outcome);
    }

-- a run for the data, whether the call was refused or not
pub has_either : {X : Type 0} (old new : LiveStanding) (had : (b : BusState) × IsLiveHistory old b)
    (change : BusState → BusState) (r : Result X BusError)
    → ((b : BusState) → IsLiveHistory old b → OnOk r (IsLiveHistory new (change b)))
    → new.last ≡ old.last → OnErr r (new.bus ≡ old.bus) → (b : BusState) × IsLiveHistory new b
has_either old new had change (Ok x) history same refused = (change had.0, history had.0 had.1)
has_either old new had change (Err e) history same refused = (
  had.0,
  subst (λ (h : LiveStanding). IsLiveHistory h had.0) (λ i. record
      { bus = sym refused i; last = sym same i }) had.1,
)

-- a new bus of a cluster that differs in the room of journals alone
new_alike : (d e : Description) (cycles : ℕ) → roomless e ≡ roomless d
    → standing_of (new_bus e cycles) ≡ with_cluster (standing_of (new_bus d cycles)) e
new_alike d e cycles alike =
    let params : e.params ≡ d.params = ap (λ (c : Description). c.params) alike in
    let nodes : length e.plans ≡ length d.plans = sym (length-map e.plans no_room)
    ∙ ap (λ (c : Description). length c.plans) alike ∙ length-map d.plans no_room in
    λ i. record (standing_of (new_bus e cycles)) {
      opened = following (params i) cycles [];
      stations = replicate (nodes i) idle_station;
      course = course_of (params i) cycles [];
    }

pub live_new : (d e : Description) (cycles : ℕ) (bus : BusStanding) → bus ≡ standing_of (new_bus d cycles)
    → cycles_suit d.params cycles ≡ true → IsCluster e → roomless e ≡ roomless d
    → IsLiveHistory (record { bus = bus; last = None }) (new_bus e cycles)
live_new d e cycles bus new suits lawful alike =
    let params : e.params ≡ d.params = ap (λ (c : Description). c.params) alike in
    let (front, few) = and_parts (nat_le 1 cycles && nat_le cycles most_live_cycles)
    (nat_le (cycles * opportunities d.params) most_live_windows) suits in
    let (some, most) = and_parts (nat_le 1 cycles) (nat_le cycles most_live_cycles) front in
    let within : cycles * opportunities d.params ≤ 1610612734 =
    leb-true (cycles * opportunities d.params) 1610612734 few in
    let fits : cycles * opportunities d.params < 2 ^ 32 = omega (arith, within) in
    record {
      of_bus = record {
        run = run_new e cycles lawful (leb-true 1 cycles some)
            (subst (λ (p : Parameters). cycles * opportunities p < 2 ^ 32) (sym params) fits);
        alike = alike ∙ sym (ap (λ (x : BusStanding). roomless x.cluster) new);
        leaves = new_alike d e cycles alike ∙ ap (λ (x : BusStanding). with_cluster x e) (sym new);
      };
      last_is = refl;
    }
