-- A window of a single-threaded run: its record has its faults, and it leaves all controllers idle.
use Rattle.std.proofs.Common.{◌≡◌, ◌≢◌, ◌<◌, ◌≤◌, ℕ, zero, suc, ◌+◌, Bool, true, false, not, ◌&&◌, ◌||◌, List, [], ◌∷◌}
use Rattle.std.proofs.Common.{cond}
use Rattle.std.proofs.Common.{◌++◌, length, Option, Some, None, refl, sym, ap, subst, ◌∙◌, arith, get_or, set}
use Rattle.std.proofs.Common.{replicate}
use Rattle.std.proofs.Common.{inl, inr}
use Rattle.std.specs.Prelude.{nat_lt}
use Rattle.std.proofs.lemmas.Bool.{ltb-true, ltb-false}
use Rattle.std.specs.List.{flat_map, list_all, range_with_len}
use Rattle.std.specs.Option.{option_or}
use Rattle.std.proofs.lemmas.Bool.Decides.{eqb_tells}
use Rattle.std.proofs.lemmas.List.{get_or-set_other}
use Rattle.arrayvec.specs.ArrayVec.{ArrayVec}
use Rattle.fr_bus.specs.Outcome.{sent_from}
use Rattle.fr_bus.specs.Record.{Recorded, side_on, corrupt_on, recordable}
use Rattle.fr_bus.specs.States.{BusState, collecting_of, corrupt_in, station_at, idle_station, offering, outcome_of}
use Rattle.fr_bus.specs.States.{sealed_with}
use Rattle.fr_bus.specs.States.{advanced, put_done}
use Rattle.fr_bus.specs.Stations.{Station}
use Rattle.fr_core.proofs.CaseLemmas.{both, both_first, both_rest}
use Rattle.fr_core.specs.Carried.{Carried, Idle, Knows, Offers, Waits, Took}
use Rattle.fr_core.specs.declared.error.StepError.{StepError}
use Rattle.fr_core.specs.declared.error.StepError.TheVariants.{UnknownNode}
use Rattle.fr_core.specs.declared.event.Event.{Event}
use Rattle.fr_core.specs.declared.event.Event.TheVariants.{Commit, Withdraw, Read, Pop, Look, Fetch, Put, Take}
use Rattle.fr_core.specs.declared.event.Event.TheVariants.{Observe, Inject, Seal, Advance}
use Rattle.fr_core.specs.Steps.{step_done, observe_in_turn, looked, fetched, put_on_bus, taken, observed}
use Rattle.fr_core.specs.Worlds.{WorldState, carried_at}
use Rattle.fr_interface.specs.declared.interface.Offer.{Offer}
use Rattle.fr_playing.proofs.BabbleLemmas.{babble_of_station, IsMutedBy, each_at, muted_from}
use Rattle.fr_playing.proofs.EventLemmas.{IsSet, set_read, is_of_slot}
use Rattle.fr_playing.proofs.FaultLemmas.{babble_at, mute_at, AreStruck, lines_struck}
use Rattle.fr_playing.proofs.MovingLemmas.{nodes_more}
use Rattle.fr_playing.proofs.PassLemmas.{IsSplit, passes_split, IsDone, passes_event, passes_keep, IsSound, slots_sound}
use Rattle.fr_playing.proofs.PassLemmas.{as_many_nodes}
use Rattle.fr_playing.specs.Moving.{offer_events, see_events, for_nodes, whole_window}
use Rattle.fr_playing.specs.Striking.{Passes, strike_events}
use Rattle.fr_playing.specs.Windows.{played_events}
use Rattle.fr_runs.specs.declared.fault_line.FaultLine.{FaultLine}
use Rattle.fr_runs.specs.Faulted.{HasFaults, bit_due, babble_due, is_loss_due}
use Rattle.fr_runs.specs.Striking.{strikes}
use Rattle.fr_schedule.specs.Descriptions.{Description}
use Rattle.fr_slots.specs.declared.channel.Channel.{Channel}
use Rattle.fr_slots.specs.declared.channel.Channel.TheVariants.{A, B}
use Rattle.fr_slots.specs.Windows.{Opportunity, slot_of}

-- ---- the kinds of the events of a window

abbrev is_offering : Event → Bool
is_offering (Commit n task buffer payload) = false
is_offering (Withdraw n task buffer) = false
is_offering (Read n task buffer) = false
is_offering (Pop n task) = false
is_offering (Look n) = true
is_offering (Fetch n) = true
is_offering (Put n) = true
is_offering (Take n) = false
is_offering (Observe n) = false
is_offering (Inject fault) = false
is_offering Seal = false
is_offering Advance = false

abbrev is_seeing : Event → Bool
is_seeing (Commit n task buffer payload) = false
is_seeing (Withdraw n task buffer) = false
is_seeing (Read n task buffer) = false
is_seeing (Pop n task) = false
is_seeing (Look n) = false
is_seeing (Fetch n) = false
is_seeing (Put n) = false
is_seeing (Take n) = true
is_seeing (Observe n) = true
is_seeing (Inject fault) = false
is_seeing Seal = false
is_seeing Advance = false

all_append : (p : Event → Bool) (xs ys : List Event) → list_all p xs ≡ true → list_all p ys ≡ true
    → list_all p (xs ++ ys) ≡ true
all_append p [] ys first second = second
all_append p (x ∷ xs) ys first second =
    both (p x) (list_all p (xs ++ ys)) (both_first (p x) (list_all p xs) first)
    (all_append p xs ys (both_rest (p x) (list_all p xs) first) second)

all_flat : {X : Type 0} (p : Event → Bool) (events : X → List Event) → ((x : X) → list_all p (events x) ≡ true)
    → (xs : List X) → list_all p (flat_map events xs) ≡ true
all_flat p events each [] = refl
all_flat p events each (x ∷ xs) = all_append p (events x) (flat_map events xs) (each x) (all_flat p events each xs)

injects : (line : FaultLine) (b : Bool) → list_all is_of_slot (cond b (Inject line.fault ∷ []) []) ≡ true
injects line true = refl
injects line false = refl

-- ---- offers keep the faults

record KeepsFaults (b c : BusState) : Type 0 where
  pub same_record : c.sealed ≡ b.sealed
  pub same_window : c.opened ≡ b.opened
  pub bits : (channel : Channel) → corrupt_in c channel ≡ corrupt_in b channel
  pub babbles : (n : ℕ) (channel : Channel) → babble_at c n channel ≡ babble_at b n channel
  pub mutes : (n : ℕ) (channel : Channel) → mute_at c n channel ≡ mute_at b n channel

kept_all : (b : BusState) → KeepsFaults b b
kept_all b = record {
  same_record = refl;
  same_window = refl;
  bits = λ channel. refl;
  babbles = λ n channel. refl;
  mutes = λ n channel. refl;
}

kept_on : (b c d : BusState) → KeepsFaults b c → KeepsFaults c d → KeepsFaults b d
kept_on b c d first second = record {
  same_record = second.same_record ∙ first.same_record;
  same_window = second.same_window ∙ first.same_window;
  bits = λ channel. second.bits channel ∙ first.bits channel;
  babbles = λ n channel. second.babbles n channel ∙ first.babbles n channel;
  mutes = λ n channel. second.mutes n channel ∙ first.mutes n channel;
}

offered_babble : (channel : Channel) (s : Station) (o : Offer)
    → (side_on channel (offering s o)).babble ≡ (side_on channel s).babble
offered_babble A s o = refl
offered_babble B s o = refl

offered_mute : (channel : Channel) (s : Station) (o : Offer)
    → (side_on channel (offering s o)).mute ≡ (side_on channel s).mute
offered_mute A s o = refl
offered_mute B s o = refl

module _ (w : WorldState) (n : ℕ) (o : Offer) where
  abbrev with_offer : Station
  with_offer = offering (station_at w.bus n) o

  bits_put : (channel : Channel) → corrupt_in (put_done w.bus n o) channel ≡ corrupt_in w.bus channel
  bits_put A = refl
  bits_put B = refl

  babbles_put : (m : ℕ) (channel : Channel) → IsSet w.bus.stations n with_offer m idle_station
      → (side_on channel (get_or (set w.bus.stations n with_offer) m idle_station)).babble ≡ babble_at w.bus m channel
  babbles_put m channel (inl is) = ap (λ (s : Station). (side_on channel s).babble) is
  babbles_put m channel (inr is) =
      ap (λ (s : Station). (side_on channel s).babble) is.1 ∙ offered_babble channel (station_at w.bus n) o
      ∙ ap (λ (k : ℕ). babble_at w.bus k channel) (sym is.0)

  mutes_put : (m : ℕ) (channel : Channel) → IsSet w.bus.stations n with_offer m idle_station
      → (side_on channel (get_or (set w.bus.stations n with_offer) m idle_station)).mute ≡ mute_at w.bus m channel
  mutes_put m channel (inl is) = ap (λ (s : Station). (side_on channel s).mute) is
  mutes_put m channel (inr is) =
      ap (λ (s : Station). (side_on channel s).mute) is.1 ∙ offered_mute channel (station_at w.bus n) o
      ∙ ap (λ (k : ℕ). mute_at w.bus k channel) (sym is.0)

  put_keeps : KeepsFaults w.bus (put_done w.bus n o)
  put_keeps = record {
    same_record = refl;
    same_window = refl;
    bits = bits_put;
    babbles = λ m channel. babbles_put m channel (set_read w.bus.stations n with_offer m idle_station);
    mutes = λ m channel. mutes_put m channel (set_read w.bus.stations n with_offer m idle_station);
  }

kept_put : (w : WorldState) (n : ℕ) (c : Carried) → KeepsFaults w.bus (put_on_bus w n c).bus
kept_put w n Idle = kept_all w.bus
kept_put w n (Knows x) = kept_all w.bus
kept_put w n (Offers x o) = put_keeps w n o
kept_put w n (Waits x) = kept_all w.bus
kept_put w n (Took x p q) = kept_all w.bus

looked_bus : (w : WorldState) (n : ℕ) (opened : Option Opportunity) → KeepsFaults w.bus (looked w n opened).bus
looked_bus w n None = kept_all w.bus
looked_bus w n (Some x) = kept_all w.bus

fetched_bus : (w : WorldState) (n : ℕ) (c : Carried) → KeepsFaults w.bus (fetched w n c).bus
fetched_bus w n Idle = kept_all w.bus
fetched_bus w n (Knows x) = kept_all w.bus
fetched_bus w n (Offers x o) = kept_all w.bus
fetched_bus w n (Waits x) = kept_all w.bus
fetched_bus w n (Took x p q) = kept_all w.bus

offering_keeps : (w : WorldState) (event : Event) → is_offering event ≡ true → KeepsFaults w.bus (step_done w event).bus
offering_keeps w (Commit n task buffer payload) offers = absurd (let none : ⊥ = cc in none)
offering_keeps w (Withdraw n task buffer) offers = absurd (let none : ⊥ = cc in none)
offering_keeps w (Read n task buffer) offers = absurd (let none : ⊥ = cc in none)
offering_keeps w (Pop n task) offers = absurd (let none : ⊥ = cc in none)
offering_keeps w (Look n) offers = looked_bus w n (collecting_of w.bus)
offering_keeps w (Fetch n) offers = fetched_bus w n (carried_at w n)
offering_keeps w (Put n) offers = kept_put w n (carried_at w n)
offering_keeps w (Take n) offers = absurd (let none : ⊥ = cc in none)
offering_keeps w (Observe n) offers = absurd (let none : ⊥ = cc in none)
offering_keeps w (Inject fault) offers = absurd (let none : ⊥ = cc in none)
offering_keeps w Seal offers = absurd (let none : ⊥ = cc in none)
offering_keeps w Advance offers = absurd (let none : ⊥ = cc in none)

offers_keep : (old new : WorldState) (nodes : ℕ) → Passes old (for_nodes offer_events nodes) new
    → KeepsFaults old.bus new.bus
offers_keep old new nodes passes =
    passes_keep (λ w. KeepsFaults old.bus w.bus) is_offering
    (λ w event offers free so_far. kept_on old.bus w.bus (step_done w event).bus so_far (offering_keeps w event offers))
    old (for_nodes offer_events nodes) new (all_flat is_offering offer_events (λ n. refl) (range_with_len 0 nodes))
    passes
    (kept_all old.bus)

-- ---- observations keep the record

taken_record : (w : WorldState) (n : ℕ) (c : Carried) → (taken w n c).bus.sealed ≡ w.bus.sealed
taken_record w n Idle = refl
taken_record w n (Knows x) = refl
taken_record w n (Offers x o) = refl
taken_record w n (Waits x) = refl
taken_record w n (Took x p q) = refl

observed_record : (w : WorldState) (n : ℕ) (c : Carried) → (observed w n c).bus.sealed ≡ w.bus.sealed
observed_record w n Idle = refl
observed_record w n (Knows x) = refl
observed_record w n (Offers x o) = refl
observed_record w n (Waits x) = refl
observed_record w n (Took x p q) = refl

seeing_record : (w : WorldState) (event : Event) → is_seeing event ≡ true
    → (step_done w event).bus.sealed ≡ w.bus.sealed
seeing_record w (Commit n task buffer payload) sees = absurd (let none : ⊥ = cc in none)
seeing_record w (Withdraw n task buffer) sees = absurd (let none : ⊥ = cc in none)
seeing_record w (Read n task buffer) sees = absurd (let none : ⊥ = cc in none)
seeing_record w (Pop n task) sees = absurd (let none : ⊥ = cc in none)
seeing_record w (Look n) sees = absurd (let none : ⊥ = cc in none)
seeing_record w (Fetch n) sees = absurd (let none : ⊥ = cc in none)
seeing_record w (Put n) sees = absurd (let none : ⊥ = cc in none)
seeing_record w (Take n) sees = taken_record w n (carried_at w n)
seeing_record w (Observe n) sees = observed_record w n (carried_at w n)
seeing_record w (Inject fault) sees = absurd (let none : ⊥ = cc in none)
seeing_record w Seal sees = absurd (let none : ⊥ = cc in none)
seeing_record w Advance sees = absurd (let none : ⊥ = cc in none)

sees_keep : (old new : WorldState) (nodes : ℕ) → Passes old (for_nodes see_events nodes) new
    → new.bus.sealed ≡ old.bus.sealed
sees_keep old new nodes passes =
    passes_keep (λ w. w.bus.sealed ≡ old.bus.sealed) is_seeing
    (λ w event sees free so_far. seeing_record w event sees ∙ so_far)
    old (for_nodes see_events nodes) new (all_flat is_seeing see_events (λ n. refl) (range_with_len 0 nodes)) passes
    refl

-- ---- after its observation a controller is idle

set_own : {X : Type 0} (xs : List X) (n : ℕ) (d : X) → get_or (set xs n d) n d ≡ d
set_own [] n d = refl
set_own (x ∷ xs) zero d = refl
set_own (x ∷ xs) (suc n) d = set_own xs n d

past : {X : Type 0} (xs : List X) (n : ℕ) (d : X) → length xs ≤ n → get_or xs n d ≡ d
past [] n d le = refl
past (x ∷ xs) zero d le = absurd (omega (arith, le))
past (x ∷ xs) (suc n) d le = past xs n d (omega (arith, le))

taken_others : (w : WorldState) (n : ℕ) (c : Carried) (m : ℕ) → m ≢ n → carried_at (taken w n c) m ≡ carried_at w m
taken_others w n Idle m other = refl
taken_others w n (Knows x) m other = refl
taken_others w n (Offers x o) m other = refl
taken_others w n (Waits x) m other = get_or-set_other w.carried n m _ Idle other
taken_others w n (Took x p q) m other = refl

observed_others : (w : WorldState) (n : ℕ) (c : Carried) (m : ℕ) → m ≢ n
    → carried_at (observed w n c) m ≡ carried_at w m
observed_others w n Idle m other = refl
observed_others w n (Knows x) m other = refl
observed_others w n (Offers x o) m other = refl
observed_others w n (Waits x) m other = refl
observed_others w n (Took x p q) m other = get_or-set_other w.carried n m Idle Idle other

observed_own : (w : WorldState) (n : ℕ) (c : Carried) → observe_in_turn w n c ≡ None
    → carried_at (observed w n c) n ≡ Idle
observed_own w n Idle free = absurd (let none : ⊥ = cc in none)
observed_own w n (Knows x) free = absurd (let none : ⊥ = cc in none)
observed_own w n (Offers x o) free = absurd (let none : ⊥ = cc in none)
observed_own w n (Waits x) free = absurd (let none : ⊥ = cc in none)
observed_own w n (Took x p q) free = set_own w.carried n Idle

known : (b : Bool) (found : Option StepError) → cond b found (Some UnknownNode) ≡ None → found ≡ None
known true found free = free
known false found free = absurd (let none : ⊥ = cc in none)

record Sees (n : ℕ) (old new : WorldState) : Type 0 where
  pub own : carried_at new n ≡ Idle
  pub others : (m : ℕ) → m ≢ n → carried_at new m ≡ carried_at old m

node_sees : (n : ℕ) (old new : WorldState) → Passes old (see_events n) new → Sees n old new
node_sees n old new passes =
    let cut : IsSplit old (Take n ∷ []) (Observe n ∷ []) new = passes_split old (Take n ∷ []) (Observe n ∷ []) new
    passes in
    let took : IsDone old (Take n) cut.mid = passes_event old (Take n) cut.mid cut.first in
    let saw : IsDone cut.mid (Observe n) new = passes_event cut.mid (Observe n) new cut.second in
    record {
      own = ap (λ (w : WorldState). carried_at w n) saw.done
          ∙ observed_own cut.mid n (carried_at cut.mid n) (known _ _ saw.free);
      others = λ m other. ap (λ (w : WorldState). carried_at w m) saw.done
          ∙ observed_others cut.mid n (carried_at cut.mid n) m other
          ∙ ap (λ (w : WorldState). carried_at w m) took.done
          ∙ taken_others old n (carried_at old n) m other;
    }

abbrev AreIdleBelow : ℕ → WorldState → Type 0
AreIdleBelow count w = (m : ℕ) → m < count → carried_at w m ≡ Idle

sees_next : (count : ℕ) (old mid new : WorldState) → AreIdleBelow count mid → Passes mid (see_events count) new
    → AreIdleBelow (count + 1) new
sees_next count old mid new idle passes m below =
    let sees = node_sees count mid new passes in
    elim (eqb_tells m count) [
      | inl own ↦ ap (carried_at new) own.1 ∙ sees.own
      | inr other ↦
          let ne = other.1 in
          sees.others m ne ∙ idle m (omega (arith, below, ne))
    ]

sees_idle : (count : ℕ) (old new : WorldState) → Passes old (for_nodes see_events count) new → AreIdleBelow count new
sees_idle zero old new passes m below = absurd (omega (arith, below))
sees_idle (suc count) old new passes m below =
    let next : suc count ≡ count + 1 = omega arith in
    let all : Passes old (for_nodes see_events count ++ see_events count) new =
    subst (λ (l : List Event). Passes old l new) (ap (for_nodes see_events) next
    ∙ nodes_more see_events count) passes in
    let cut : IsSplit old (for_nodes see_events count) (see_events count) new =
    passes_split old (for_nodes see_events count) (see_events count) new all in
    sees_next count old cut.mid new (sees_idle count old cut.mid cut.first) cut.second m (omega (arith, below))

-- ---- a window

-- all controllers are idle, and the open window has no fault
pub record IsFresh (w : WorldState) : Type 0 where
  pub idle : (n : ℕ) → carried_at w n ≡ Idle
  pub bits : (channel : Channel) → corrupt_in w.bus channel ≡ None
  pub babbles : (n : ℕ) (channel : Channel) → babble_at w.bus n channel ≡ None
  pub mutes : (n : ℕ) (channel : Channel) → mute_at w.bus n channel ≡ false

-- one more window is recorded, with its faults
pub record IsRecordedIn (lines : List FaultLine) (cycle : ℕ) (window : Opportunity) (old new : WorldState) : Type 0
  where
    pub made : Recorded
    pub record_is : new.bus.sealed ≡ old.bus.sealed ++ made ∷ []
    pub window_is : made.window ≡ window
    pub faults : HasFaults lines cycle made

recorded_bit : (b : BusState) (w : Opportunity) (channel : Channel) → corrupt_on (outcome_of b w) channel
    ≡ corrupt_in b channel
recorded_bit b w A = refl
recorded_bit b w B = refl

-- a window is recorded with the faults that it has when it is sealed
faults_recorded : (lines : List FaultLine) (cycle : ℕ) (b : BusState) (w : Opportunity)
    → ((channel : Channel) → corrupt_in b channel ≡ bit_due lines cycle w channel)
    → ((n : ℕ) (channel : Channel) → babble_at b n channel ≡ babble_due lines cycle w n channel)
    → ((n : ℕ) (channel : Channel) → mute_at b n channel ≡ is_loss_due lines cycle w n channel)
    → HasFaults lines cycle (outcome_of b w)
faults_recorded lines cycle b w bits babbles mutes = record {
  bits = λ channel. recorded_bit b w channel ∙ bits channel;
  babbles = λ n channel. babble_of_station b.cluster w channel n 0 n b.stations (omega arith)
      ∙ ap (recordable (slot_of w channel)) (babbles n channel);
  losses = λ k t at. each_at (IsMutedBy (station_at b)) (sent_from b.cluster w 0 b.stations) k t
      (muted_from (station_at b) b.cluster w 0 b.stations
      (λ j within. let same : 0 + j ≡ j = omega arith in ap (station_at b) same)) at
      ∙ ap (λ (m : Bool). not t.babble && m) (mutes t.node t.channel);
}

idle_at : (k n : ℕ) → get_or (replicate k idle_station) n idle_station ≡ idle_station
idle_at zero n = refl
idle_at (suc k) zero = refl
idle_at (suc k) (suc n) = idle_at k n

idle_babble : (channel : Channel) → (side_on channel idle_station).babble ≡ None
idle_babble A = refl
idle_babble B = refl

idle_mute : (channel : Channel) → (side_on channel idle_station).mute ≡ false
idle_mute A = refl
idle_mute B = refl

no_bit : (b : BusState) (channel : Channel) → corrupt_in (advanced b) channel ≡ None
no_bit b A = refl
no_bit b B = refl

-- all events of a window but the advance
front_of_slot : (cycle : ℕ) (lines : List FaultLine) (nodes : ℕ) (window : Opportunity)
    → list_all is_of_slot (flat_map (strike_events cycle window) lines ++ whole_window nodes) ≡ true
front_of_slot cycle lines nodes window =
    all_append is_of_slot (flat_map (strike_events cycle window) lines) (whole_window nodes)
    (all_flat is_of_slot (strike_events cycle window) (λ line. injects line (strikes line cycle window)) lines)
    (all_append is_of_slot (for_nodes offer_events nodes) (Seal ∷ for_nodes see_events nodes)
    (all_flat is_of_slot offer_events (λ n. refl) (range_with_len 0 nodes))
    (all_flat is_of_slot see_events (λ n. refl) (range_with_len 0 nodes)))

pub all_of_slot : (cycle : ℕ) (lines : List FaultLine) (nodes : ℕ) (window : Opportunity)
    → list_all is_of_slot (played_events cycle lines (whole_window nodes) window) ≡ true
all_of_slot cycle lines nodes window =
    all_append is_of_slot (flat_map (strike_events cycle window) lines ++ whole_window nodes) (Advance ∷ [])
    (front_of_slot cycle lines nodes window) refl

-- A window is recorded, whatever it holds.
pub window_adds : (lines : List FaultLine) (cycle nodes : ℕ) (window : Opportunity) (old new : WorldState)
    → old.bus.opened ≡ Some window → Passes old (played_events cycle lines (whole_window nodes) window) new
    → (made : Recorded) × (new.bus.sealed ≡ old.bus.sealed ++ made ∷ [])
window_adds lines cycle nodes window old new opened passes =
    let strikes_due = flat_map (strike_events cycle window) lines in
    let ending : IsSplit old (strikes_due ++ whole_window nodes) (Advance ∷ []) new =
    passes_split old (strikes_due ++ whole_window nodes) (Advance ∷ []) new passes in
    let striking : IsSplit old strikes_due (whole_window nodes) ending.mid =
    passes_split old strikes_due (whole_window nodes) ending.mid ending.first in
    let offering_done : IsSplit striking.mid (for_nodes offer_events nodes) (Seal ∷ for_nodes see_events nodes)
    ending.mid =
    passes_split striking.mid (for_nodes offer_events nodes) (Seal ∷ for_nodes see_events nodes) ending.mid
    striking.second in
    let sealing : IsSplit offering_done.mid (Seal ∷ []) (for_nodes see_events nodes) ending.mid =
    passes_split offering_done.mid (Seal ∷ []) (for_nodes see_events nodes) ending.mid offering_done.second in
    let struck = lines_struck cycle window lines old striking.mid striking.first in
    let kept = offers_keep striking.mid offering_done.mid nodes offering_done.first in
    let seal : IsDone offering_done.mid Seal sealing.mid =
    passes_event offering_done.mid Seal sealing.mid sealing.first in
    let advance : IsDone ending.mid Advance new = passes_event ending.mid Advance new ending.second in
    let bus = offering_done.mid.bus in
    let still_open : bus.opened ≡ Some window = kept.same_window ∙ struck.same_window ∙ opened in (
      outcome_of bus window,
      ap (λ (w : WorldState). w.bus.sealed) advance.done
          ∙ sees_keep sealing.mid ending.mid nodes sealing.second
          ∙ ap (λ (w : WorldState). w.bus.sealed) seal.done
          ∙ ap (λ (o : Option Opportunity). (sealed_with bus o).sealed) still_open
          ∙ ap (λ (rs : List Recorded). rs ++ outcome_of bus window ∷ []) (kept.same_record ∙ struck.same_record),
    )

module _ (d : Description) (lines : List FaultLine) (cycle : ℕ) (window : Opportunity) (old new : WorldState)
    (opened : old.bus.opened ≡ Some window) (sound : IsSound d old) (fresh : IsFresh old)
    (passes : Passes old (played_events cycle lines (whole_window (length d.plans)) window) new) where
  abbrev nodes : ℕ
  nodes = length d.plans

  abbrev strikes_due : List Event
  strikes_due = flat_map (strike_events cycle window) lines

  -- before the advance
  ending : IsSplit old (strikes_due ++ whole_window nodes) (Advance ∷ []) new
  ending = passes_split old (strikes_due ++ whole_window nodes) (Advance ∷ []) new passes

  -- after the faults
  striking : IsSplit old strikes_due (whole_window nodes) ending.mid
  striking = passes_split old strikes_due (whole_window nodes) ending.mid ending.first

  -- before the seal
  offering_done : IsSplit striking.mid (for_nodes offer_events nodes) (Seal ∷ for_nodes see_events nodes) ending.mid
  offering_done = passes_split striking.mid (for_nodes offer_events nodes) (Seal ∷ for_nodes see_events nodes)
      ending.mid
      striking.second

  -- after the seal
  sealing : IsSplit offering_done.mid (Seal ∷ []) (for_nodes see_events nodes) ending.mid
  sealing = passes_split offering_done.mid (Seal ∷ []) (for_nodes see_events nodes) ending.mid offering_done.second

  struck : AreStruck cycle window lines old.bus striking.mid.bus
  struck = lines_struck cycle window lines old striking.mid striking.first

  kept : KeepsFaults striking.mid.bus offering_done.mid.bus
  kept = offers_keep striking.mid offering_done.mid nodes offering_done.first

  seal : IsDone offering_done.mid Seal sealing.mid
  seal = passes_event offering_done.mid Seal sealing.mid sealing.first

  advance : IsDone ending.mid Advance new
  advance = passes_event ending.mid Advance new ending.second

  abbrev bus : BusState
  bus = offering_done.mid.bus

  still_open : bus.opened ≡ Some window
  still_open = kept.same_window ∙ struck.same_window ∙ opened

  now_sealed : sealing.mid.bus.sealed ≡ bus.sealed ++ outcome_of bus window ∷ []
  now_sealed =
      ap (λ (w : WorldState). w.bus.sealed) seal.done
      ∙ ap (λ (o : Option Opportunity). (sealed_with bus o).sealed) still_open

  pub window_recorded : IsRecordedIn lines cycle window old new
  window_recorded = record {
    made = outcome_of bus window;
    record_is = ap (λ (w : WorldState). w.bus.sealed) advance.done
        ∙ sees_keep sealing.mid ending.mid nodes sealing.second ∙ now_sealed
        ∙ ap (λ (rs : List Recorded). rs ++ outcome_of bus window ∷ []) (kept.same_record ∙ struck.same_record);
    window_is = refl;
    faults = faults_recorded lines cycle bus window
        (λ channel. kept.bits channel ∙ struck.bits channel
        ∙ ap (λ (o : Option ℕ). option_or o (bit_due lines cycle window channel)) (fresh.bits channel))
        (λ n channel. kept.babbles n channel ∙ struck.babbles n channel
        ∙ ap (λ (o : Option (ArrayVec ℕ)). option_or o (babble_due lines cycle window n channel)) (fresh.babbles n
        channel))
        (λ n channel. kept.mutes n channel ∙ struck.mutes n channel
        ∙ ap (λ (b : Bool). b || is_loss_due lines cycle window n channel) (fresh.mutes n channel));
  }

  sound_before : IsSound d ending.mid
  sound_before = slots_sound d old (strikes_due ++ whole_window nodes) ending.mid
      (front_of_slot cycle lines nodes window) ending.first sound

  idle_before : (n : ℕ) (b : Bool) → nat_lt n nodes ≡ b → carried_at ending.mid n ≡ Idle
  idle_before n true below = sees_idle nodes sealing.mid ending.mid sealing.second n (ltb-true n nodes below)
  idle_before n false above =
      let many = as_many_nodes d ending.mid sound_before in
      let each = sound_before.world.a_controller_each in
      let le = ltb-false n nodes above in
      past ending.mid.carried n Idle (omega (arith, many, each, le))

  pub window_fresh : IsFresh new
  window_fresh = record {
    idle = λ n. ap (λ (w : WorldState). carried_at w n) advance.done ∙ idle_before n (nat_lt n nodes) refl;
    bits = λ channel. ap (λ (w : WorldState). corrupt_in w.bus channel) advance.done ∙ no_bit ending.mid.bus channel;
    babbles = λ n channel. ap (λ (w : WorldState). babble_at w.bus n channel) advance.done
        ∙ ap (λ (s : Station). (side_on channel s).babble) (idle_at (length ending.mid.bus.stations) n)
        ∙ idle_babble channel;
    mutes = λ n channel. ap (λ (w : WorldState). mute_at w.bus n channel) advance.done
        ∙ ap (λ (s : Station). (side_on channel s).mute) (idle_at (length ending.mid.bus.stations) n)
        ∙ idle_mute channel;
  }

  pub window_sound : IsSound d new
  window_sound = slots_sound d old (played_events cycle lines (whole_window nodes) window) new
      (all_of_slot cycle lines nodes window) passes sound
