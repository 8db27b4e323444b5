-- What a window does to the journal of each node, and to the record.
use Rattle.std.proofs.Common.{◌≡◌, ◌≢◌, ◌<◌, ◌≤◌, ℕ, zero, suc, ◌+◌, Bool, true, false, ◌&&◌, cond, List, [], ◌∷◌, ◌++◌}
use Rattle.std.proofs.Common.{length, Option, Some, None, refl, sym, ap, ap₂, subst, ◌∙◌, arith, get_or, inl, inr}
use Rattle.std.specs.List.{flat_map, list_all}
use Rattle.std.proofs.lemmas.Bool.Decides.{eqb_tells}
use Rattle.std.proofs.lemmas.List.{get_or-set_same, get_or-set_other, length-set}
use Rattle.std.proofs.lemmas.List.Folds.{list_all-append}
use Rattle.fr_bus.specs.declared.fault.Fault.{Fault}
use Rattle.fr_bus.specs.declared.fault.Fault.TheVariants.{Babble, Mute, Corrupt}
use Rattle.fr_bus.specs.Record.{Recorded}
use Rattle.fr_bus.specs.States.{BusState, collecting_of, collects, inject_done, outcome_of, sealed_with}
use Rattle.fr_core.specs.Carried.{Carried, Idle, Knows, Offers, Waits, Took}
use Rattle.fr_core.specs.declared.error.StepError.{StepError}
use Rattle.fr_core.specs.declared.event.Event.{Event}
use Rattle.fr_core.specs.declared.event.Event.TheVariants.{Commit, Withdraw, Read, Pop, Look, Fetch, Put, Take}
use Rattle.fr_core.specs.declared.event.Event.TheVariants.{Observe, Inject, Seal, Advance}
use Rattle.fr_core.specs.Steps.{fetch_in_turn, fetched, look_in_turn, looked, observe_in_turn, observed, put_on_bus}
use Rattle.fr_core.specs.Steps.{step_done, step_refusal, taken, unless_collecting, with_carried}
use Rattle.fr_core.specs.Worlds.{WorldState, carried_at, interface_at, no_interface}
use Rattle.fr_interface.specs.State.{State, fetch_entry, with_entry}
use Rattle.fr_journal.specs.declared.entry.Entry.TheVariants as entries
use Rattle.fr_playing.proofs.EntryLemmas.{is_there}
use Rattle.fr_playing.proofs.EventLemmas.{IsSet, set_read}
use Rattle.fr_playing.proofs.MovingLemmas.{nodes_more}
use Rattle.fr_playing.proofs.PassLemmas.{IsDone, IsSplit, passes_event, passes_keep, passes_split}
use Rattle.fr_playing.specs.Moving.{for_nodes, offer_events, see_events, whole_window}
use Rattle.fr_playing.specs.Striking.{strike_events, Passes}
use Rattle.fr_playing.specs.Windows.{played_events}
use Rattle.fr_runs.specs.declared.fault_line.FaultLine.{FaultLine}
use Rattle.fr_runs.specs.Striking.{strikes}
use Rattle.fr_slots.specs.declared.channel.Channel.TheVariants.{A, B}
use Rattle.fr_slots.specs.Windows.{Opportunity}
use Rattle.fr_status.specs.Forms.{Seen}

known : (b : Bool) (found : Option StepError) (e : StepError) → cond b found (Some e) ≡ None → found ≡ None
known true found e free = free
known false found e free = absurd (let none : ⊥ = cc in none)

-- ---- faults

-- the journals, the open window and the record are the same
record IsSame (old new : WorldState) : Type 0 where
  interfaces : new.interfaces ≡ old.interfaces
  opened : new.bus.opened ≡ old.bus.opened
  sealed : new.bus.sealed ≡ old.bus.sealed

same_then : (w u v : WorldState) → IsSame w u → IsSame u v → IsSame w v
same_then w u v first second = record {
  interfaces = second.interfaces ∙ first.interfaces;
  opened = second.opened ∙ first.opened;
  sealed = second.sealed ∙ first.sealed;
}

abbrev injects : Event → Bool
injects (Commit n task buffer payload) = false
injects (Withdraw n task buffer) = false
injects (Read n task buffer) = false
injects (Pop n task) = false
injects (Look n) = false
injects (Fetch n) = false
injects (Put n) = false
injects (Take n) = false
injects (Observe n) = false
injects (Inject fault) = true
injects Seal = false
injects Advance = false

opened_kept : (b : BusState) (fault : Fault) → (inject_done b fault).opened ≡ b.opened
opened_kept b (Babble node channel bytes) = refl
opened_kept b (Mute node channel) = refl
opened_kept b (Corrupt A bit) = refl
opened_kept b (Corrupt B bit) = refl

sealed_kept : (b : BusState) (fault : Fault) → (inject_done b fault).sealed ≡ b.sealed
sealed_kept b (Babble node channel bytes) = refl
sealed_kept b (Mute node channel) = refl
sealed_kept b (Corrupt A bit) = refl
sealed_kept b (Corrupt B bit) = refl

inject_same : (w : WorldState) (event : Event) → injects event ≡ true → IsSame w (step_done w event)
inject_same w (Commit n task buffer payload) is = absurd (let none : ⊥ = cc in none)
inject_same w (Withdraw n task buffer) is = absurd (let none : ⊥ = cc in none)
inject_same w (Read n task buffer) is = absurd (let none : ⊥ = cc in none)
inject_same w (Pop n task) is = absurd (let none : ⊥ = cc in none)
inject_same w (Look n) is = absurd (let none : ⊥ = cc in none)
inject_same w (Fetch n) is = absurd (let none : ⊥ = cc in none)
inject_same w (Put n) is = absurd (let none : ⊥ = cc in none)
inject_same w (Take n) is = absurd (let none : ⊥ = cc in none)
inject_same w (Observe n) is = absurd (let none : ⊥ = cc in none)
inject_same w (Inject fault) is =
    record { interfaces = refl; opened = opened_kept w.bus fault; sealed = sealed_kept w.bus fault }
inject_same w Seal is = absurd (let none : ⊥ = cc in none)
inject_same w Advance is = absurd (let none : ⊥ = cc in none)

all_inject : (cycle : ℕ) (window : Opportunity) (lines : List FaultLine)
    → list_all injects (flat_map (strike_events cycle window) lines) ≡ true
all_inject cycle window [] = refl
all_inject cycle window (line ∷ lines) =
    list_all-append injects (strike_events cycle window line) (flat_map (strike_events cycle window) lines)
    ∙ ap₂ (λ (a b : Bool). a && b) (one (strikes line cycle window)) (all_inject cycle window lines)
  where
    one : (b : Bool) → list_all injects (cond b (Inject line.fault ∷ []) []) ≡ true
    one true = refl
    one false = refl

struck_same : (cycle : ℕ) (window : Opportunity) (lines : List FaultLine) (old new : WorldState)
    → Passes old (flat_map (strike_events cycle window) lines) new → IsSame old new
struck_same cycle window lines old new passes =
    passes_keep (IsSame old) injects
    (λ w event is free so_far. same_then old w (step_done w event) so_far (inject_same w event is))
    old (flat_map (strike_events cycle window) lines) new (all_inject cycle window lines) passes
    (record { interfaces = refl; opened = refl; sealed = refl })

-- ---- the offer of a node

-- the node's journal has one more fetch, and no other journal has more
record IsOffered (window : Opportunity) (n : ℕ) (old new : WorldState) : Type 0 where
  own : interface_at new n ≡ with_entry (interface_at old n) (fetch_entry (interface_at old n) window)
  others : (m : ℕ) → m ≢ n → interface_at new m ≡ interface_at old m
  many : length new.interfaces ≡ length old.interfaces
  opened : new.bus.opened ≡ old.bus.opened
  sealed : new.bus.sealed ≡ old.bus.sealed

collecting_is : (b : Bool) (o : Option Opportunity) (window : Opportunity) → o ≡ Some window
    → unless_collecting (cond b o None) ≡ None → cond b o None ≡ Some window
collecting_is true o window is free = is
collecting_is false o window is free = absurd (let none : ⊥ = cc in none)

record IsLooked (w : WorldState) (n : ℕ) (window : Opportunity) : Type 0 where
  was_idle : carried_at w n ≡ Idle
  collecting : collecting_of w.bus ≡ Some window

look_finds : (w : WorldState) (n : ℕ) (window : Opportunity) (c : Carried) → carried_at w n ≡ c
    → w.bus.opened ≡ Some window → look_in_turn w c ≡ None → IsLooked w n window
look_finds w n window Idle is opened free =
    record { was_idle = is; collecting = collecting_is (collects w.bus.phase) w.bus.opened window opened free }
look_finds w n window (Knows x) is opened free = absurd (let none : ⊥ = cc in none)
look_finds w n window (Offers x o) is opened free = absurd (let none : ⊥ = cc in none)
look_finds w n window (Waits x) is opened free = absurd (let none : ⊥ = cc in none)
look_finds w n window (Took x p q) is opened free = absurd (let none : ⊥ = cc in none)

idle_fetches : (w : WorldState) (n : ℕ) → fetch_in_turn w n Idle ≡ None → ⊥
idle_fetches w n free = let none : ⊥ = cc in none

knows_window : (w : WorldState) (n : ℕ) (window : Opportunity) → carried_at w n ≡ Idle
    → fetch_in_turn (with_carried w n (Knows window)) n (carried_at (with_carried w n (Knows window)) n) ≡ None
    → carried_at (with_carried w n (Knows window)) n ≡ Knows window
knows_window w n window idle free = by (set_read w.carried n (Knows window) n Idle)
  where
    u : WorldState
    u = with_carried w n (Knows window)

    by : IsSet w.carried n (Knows window) n Idle → carried_at u n ≡ Knows window
    by (inl same) = absurd (idle_fetches u n (subst (λ (c : Carried). fetch_in_turn u n c ≡ None) (same ∙ idle) free))
    by (inr set_is) = set_is.1

record IsFetched (window : Opportunity) (n : ℕ) (old new : WorldState) : Type 0 where
  own : interface_at new n ≡ with_entry (interface_at old n) (fetch_entry (interface_at old n) window)
  others : (m : ℕ) → m ≢ n → interface_at new m ≡ interface_at old m
  many : length new.interfaces ≡ length old.interfaces
  bus : new.bus ≡ old.bus

-- a controller that knows the window fetches it
fetch_does : (window : Opportunity) (n : ℕ) (w : WorldState) → n < length w.interfaces
    → IsFetched window n w (fetched w n (Knows window))
fetch_does window n w within =
    let s = interface_at w n in
    let more = with_entry s (fetch_entry s window) in
    record {
      own = get_or-set_same w.interfaces n more no_interface within;
      others = λ m other. get_or-set_other w.interfaces n m more no_interface other;
      many = length-set w.interfaces n more;
      bus = refl;
    }

put_same : (w : WorldState) (n : ℕ) (c : Carried) → IsSame w (put_on_bus w n c)
put_same w n Idle = record { interfaces = refl; opened = refl; sealed = refl }
put_same w n (Knows x) = record { interfaces = refl; opened = refl; sealed = refl }
put_same w n (Offers x o) = record { interfaces = refl; opened = refl; sealed = refl }
put_same w n (Waits x) = record { interfaces = refl; opened = refl; sealed = refl }
put_same w n (Took x p q) = record { interfaces = refl; opened = refl; sealed = refl }

-- a look and a fetch
node_fetches : (window : Opportunity) (n : ℕ) (old mid new : WorldState) → old.bus.opened ≡ Some window
    → IsDone old (Look n) mid → IsDone mid (Fetch n) new → IsFetched window n old new
node_fetches window n old mid new opened look fetch =
    let found = look_finds old n window (carried_at old n) refl opened (known _ _ _ look.free) in
    let u = with_carried old n (Knows window) in
    let mid_is : mid ≡ u = look.done ∙ ap (looked old n) found.collecting in
    let free : step_refusal u (Fetch n) ≡ None = subst (λ (w : WorldState). step_refusal w (Fetch n) ≡ None) mid_is
    fetch.free in
    let knows = knows_window old n window found.was_idle (known _ _ _ free) in
    let new_is : new ≡ fetched u n (Knows window) =
    fetch.done ∙ ap (λ (w : WorldState). fetched w n (carried_at w n)) mid_is ∙ ap (fetched u n) knows in
    let does = fetch_does window n u (is_there u n _ free) in
    record {
      own = ap (λ (w : WorldState). interface_at w n) new_is ∙ does.own;
      others = λ m other. ap (λ (w : WorldState). interface_at w m) new_is ∙ does.others m other;
      many = ap (λ (w : WorldState). length w.interfaces) new_is ∙ does.many;
      bus = ap (λ (w : WorldState). w.bus) new_is ∙ does.bus;
    }

node_offers : (window : Opportunity) (n : ℕ) (old new : WorldState) → old.bus.opened ≡ Some window
    → Passes old (offer_events n) new → IsOffered window n old new
node_offers window n old new opened passes =
    let first : IsSplit old (Look n ∷ []) (Fetch n ∷ Put n ∷ []) new =
    passes_split old (Look n ∷ []) (Fetch n ∷ Put n ∷ []) new passes in
    let second : IsSplit first.mid (Fetch n ∷ []) (Put n ∷ []) new =
    passes_split first.mid (Fetch n ∷ []) (Put n ∷ []) new first.second in
    let does = node_fetches window n old first.mid second.mid opened
    (passes_event old (Look n) first.mid first.first) (passes_event first.mid (Fetch n) second.mid second.first) in
    let put = passes_event second.mid (Put n) new second.second in
    let same = put_same second.mid n (carried_at second.mid n) in
    let after : new.interfaces ≡ second.mid.interfaces =
    ap (λ (w : WorldState). w.interfaces) put.done ∙ same.interfaces in
    record {
      own = ap (λ (ss : List State). get_or ss n no_interface) after ∙ does.own;
      others = λ m other. ap (λ (ss : List State). get_or ss m no_interface) after ∙ does.others m other;
      many = ap length after ∙ does.many;
      opened = ap (λ (w : WorldState). w.bus.opened) put.done ∙ same.opened ∙ ap (λ (b : BusState). b.opened) does.bus;
      sealed = ap (λ (w : WorldState). w.bus.sealed) put.done ∙ same.sealed ∙ ap (λ (b : BusState). b.sealed) does.bus;
    }

-- ---- the offers of so many nodes

record AreOffered (window : Opportunity) (count : ℕ) (old new : WorldState) : Type 0 where
  each : (m : ℕ) → m < count
      → interface_at new m ≡ with_entry (interface_at old m) (fetch_entry (interface_at old m) window)
  others : (m : ℕ) → count ≤ m → interface_at new m ≡ interface_at old m
  many : length new.interfaces ≡ length old.interfaces
  opened : new.bus.opened ≡ old.bus.opened
  sealed : new.bus.sealed ≡ old.bus.sealed

offers_more : (window : Opportunity) (count : ℕ) (old mid new : WorldState) → AreOffered window count old mid
    → IsOffered window count mid new → AreOffered window (suc count) old new
offers_more window count old mid new before one = record {
  each = λ m below. elim (eqb_tells m count) [
    | inl own ↦
        subst
        (λ (k : ℕ). interface_at new k ≡ with_entry (interface_at old k) (fetch_entry (interface_at old k) window))
        (sym own.1)
        (one.own ∙ ap (λ (s : State). with_entry s (fetch_entry s window)) (before.others count (omega arith)))
    | inr other ↦
        let ne = other.1 in
        one.others m ne ∙ before.each m (omega (arith, below, ne))
  ];
  others = λ m above.
      one.others m (λ same. let none : ⊥ = omega (arith, above, same) in none) ∙ before.others m (omega (arith, above));
  many = one.many ∙ before.many;
  opened = one.opened ∙ before.opened;
  sealed = one.sealed ∙ before.sealed;
}

offers_none : (window : Opportunity) (old new : WorldState) → new ≡ old → AreOffered window 0 old new
offers_none window old new is = record {
  each = λ m below. absurd (let none : ⊥ = omega (arith, below) in none);
  others = λ m above. ap (λ (w : WorldState). interface_at w m) is;
  many = ap (λ (w : WorldState). length w.interfaces) is;
  opened = ap (λ (w : WorldState). w.bus.opened) is;
  sealed = ap (λ (w : WorldState). w.bus.sealed) is;
}

offers_done : (window : Opportunity) (count : ℕ) (old new : WorldState) → old.bus.opened ≡ Some window
    → Passes old (for_nodes offer_events count) new → AreOffered window count old new
unfolding Passes
offers_done window zero old new opened passes = offers_none window old new passes
offers_done window (suc count) old new opened passes =
    let next : suc count ≡ count + 1 = omega arith in
    let all : Passes old (for_nodes offer_events count ++ offer_events count) new =
    subst (λ (l : List Event). Passes old l new) (ap (for_nodes offer_events) next ∙ nodes_more offer_events count)
    passes in
    let cut : IsSplit old (for_nodes offer_events count) (offer_events count) new =
    passes_split old (for_nodes offer_events count) (offer_events count) new all in
    let before = offers_done window count old cut.mid opened cut.first in
    offers_more window count old cut.mid new before
    (node_offers window count cut.mid new (before.opened ∙ opened) cut.second)

-- ---- the observation of a node

-- one more entry, which is an observation
abbrev pub AddsObserve : State → State → Type 0
AddsObserve old new =
    (number : ℕ) × (a : Seen) × (b : Seen) × (new ≡ with_entry old (entries.Observe number a b))

record IsSeen (n : ℕ) (old new : WorldState) : Type 0 where
  own : AddsObserve (interface_at old n) (interface_at new n)
  others : (m : ℕ) → m ≢ n → interface_at new m ≡ interface_at old m
  many : length new.interfaces ≡ length old.interfaces
  sealed : new.bus.sealed ≡ old.bus.sealed

taken_same : (w : WorldState) (n : ℕ) (c : Carried) → (taken w n c).interfaces ≡ w.interfaces
taken_same w n Idle = refl
taken_same w n (Knows x) = refl
taken_same w n (Offers x o) = refl
taken_same w n (Waits x) = refl
taken_same w n (Took x p q) = refl

taken_sealed : (w : WorldState) (n : ℕ) (c : Carried) → (taken w n c).bus.sealed ≡ w.bus.sealed
taken_sealed w n Idle = refl
taken_sealed w n (Knows x) = refl
taken_sealed w n (Offers x o) = refl
taken_sealed w n (Waits x) = refl
taken_sealed w n (Took x p q) = refl

observe_does : (w : WorldState) (n : ℕ) (c : Carried) → n < length w.interfaces → observe_in_turn w n c ≡ None
    → IsSeen n w (observed w n c)
observe_does w n Idle within free = absurd (let none : ⊥ = cc in none)
observe_does w n (Knows x) within free = absurd (let none : ⊥ = cc in none)
observe_does w n (Offers x o) within free = absurd (let none : ⊥ = cc in none)
observe_does w n (Waits x) within free = absurd (let none : ⊥ = cc in none)
observe_does w n (Took x p q) within free =
    let more = with_entry (interface_at w n) (entries.Observe x.number p q) in
    record {
      own = (x.number, p, q, get_or-set_same w.interfaces n more no_interface within);
      others = λ m other. get_or-set_other w.interfaces n m more no_interface other;
      many = length-set w.interfaces n more;
      sealed = refl;
    }

node_sees : (n : ℕ) (old new : WorldState) → Passes old (see_events n) new → IsSeen n old new
node_sees n old new passes =
    let cut : IsSplit old (Take n ∷ []) (Observe n ∷ []) new =
    passes_split old (Take n ∷ []) (Observe n ∷ []) new passes in
    let took = passes_event old (Take n) cut.mid cut.first in
    let saw = passes_event cut.mid (Observe n) new cut.second in
    let before : cut.mid.interfaces ≡ old.interfaces =
    ap (λ (w : WorldState). w.interfaces) took.done ∙ taken_same old n (carried_at old n) in
    let does = observe_does cut.mid n (carried_at cut.mid n) (is_there cut.mid n _ saw.free) (known _ _ _ saw.free) in
    let own : AddsObserve (interface_at cut.mid n) (interface_at new n) =
    subst (λ (w : WorldState). AddsObserve (interface_at cut.mid n) (interface_at w n)) (sym saw.done) does.own in
    record {
      own = subst (λ (ss : List State). AddsObserve (get_or ss n no_interface) (interface_at new n)) before own;
      others = λ m other. ap (λ (w : WorldState). interface_at w m) saw.done ∙ does.others m other
          ∙ ap (λ (ss : List State). get_or ss m no_interface) before;
      many = ap (λ (w : WorldState). length w.interfaces) saw.done ∙ does.many ∙ ap length before;
      sealed = ap (λ (w : WorldState). w.bus.sealed) saw.done ∙ does.sealed
          ∙ ap (λ (w : WorldState). w.bus.sealed) took.done ∙ taken_sealed old n (carried_at old n);
    }

-- ---- the observations of so many nodes

record AreSeen (count : ℕ) (old new : WorldState) : Type 0 where
  each : (m : ℕ) → m < count → AddsObserve (interface_at old m) (interface_at new m)
  others : (m : ℕ) → count ≤ m → interface_at new m ≡ interface_at old m
  many : length new.interfaces ≡ length old.interfaces
  sealed : new.bus.sealed ≡ old.bus.sealed

sees_more : (count : ℕ) (old mid new : WorldState) → AreSeen count old mid → IsSeen count mid new
    → AreSeen (suc count) old new
sees_more count old mid new before one = record {
  each = λ m below. elim (eqb_tells m count) [
    | inl own ↦
        subst (λ (k : ℕ). AddsObserve (interface_at old k) (interface_at new k)) (sym own.1)
        (subst (λ (s : State). AddsObserve s (interface_at new count)) (before.others count (omega arith)) one.own)
    | inr other ↦
        let ne = other.1 in
        subst (AddsObserve (interface_at old m)) (sym (one.others m ne)) (before.each m (omega (arith, below, ne)))
  ];
  others = λ m above.
      one.others m (λ same. let none : ⊥ = omega (arith, above, same) in none) ∙ before.others m (omega (arith, above));
  many = one.many ∙ before.many;
  sealed = one.sealed ∙ before.sealed;
}

sees_none : (old new : WorldState) → new ≡ old → AreSeen 0 old new
sees_none old new is = record {
  each = λ m below. absurd (let none : ⊥ = omega (arith, below) in none);
  others = λ m above. ap (λ (w : WorldState). interface_at w m) is;
  many = ap (λ (w : WorldState). length w.interfaces) is;
  sealed = ap (λ (w : WorldState). w.bus.sealed) is;
}

sees_done : (count : ℕ) (old new : WorldState) → Passes old (for_nodes see_events count) new → AreSeen count old new
unfolding Passes
sees_done zero old new passes = sees_none old new passes
sees_done (suc count) old new passes =
    let next : suc count ≡ count + 1 = omega arith in
    let all : Passes old (for_nodes see_events count ++ see_events count) new =
    subst (λ (l : List Event). Passes old l new) (ap (for_nodes see_events) next ∙ nodes_more see_events count)
    passes in
    let cut : IsSplit old (for_nodes see_events count) (see_events count) new =
    passes_split old (for_nodes see_events count) (see_events count) new all in
    sees_more count old cut.mid new (sees_done count old cut.mid cut.first) (node_sees count cut.mid new cut.second)

-- ---- a window

-- two more entries: the window is fetched and observed
abbrev pub AddsWindow : Opportunity → State → State → Type 0
AddsWindow window old new = AddsObserve (with_entry old (fetch_entry old window)) new

pub record IsWindow (window : Opportunity) (nodes : ℕ) (old new : WorldState) : Type 0 where
  pub made : Recorded
  pub window_is : made.window ≡ window
  pub record_is : new.bus.sealed ≡ old.bus.sealed ++ made ∷ []
  pub many : length new.interfaces ≡ length old.interfaces
  pub each : (m : ℕ) → m < nodes → AddsWindow window (interface_at old m) (interface_at new m)
  pub others : (m : ℕ) → nodes ≤ m → interface_at new m ≡ interface_at old m

sealed_does : (b : BusState) (window : Opportunity) (o : Option Opportunity) → o ≡ Some window
    → (sealed_with b o).sealed ≡ b.sealed ++ outcome_of b window ∷ []
sealed_does b window o is = ap (λ (x : Option Opportunity). (sealed_with b x).sealed) is

pub window_does : (lines : List FaultLine) (cycle nodes : ℕ) (window : Opportunity) (old new : WorldState)
    → old.bus.opened ≡ Some window → Passes old (played_events cycle lines (whole_window nodes) window) new
    → IsWindow window nodes old new
window_does lines cycle nodes window old new opened passes =
    let strikes_due = flat_map (strike_events cycle window) lines in
    let ending : IsSplit old (strikes_due ++ whole_window nodes) (Advance ∷ []) new =
    passes_split old (strikes_due ++ whole_window nodes) (Advance ∷ []) new passes in
    let striking : IsSplit old strikes_due (whole_window nodes) ending.mid =
    passes_split old strikes_due (whole_window nodes) ending.mid ending.first in
    let offering : IsSplit striking.mid (for_nodes offer_events nodes) (Seal ∷ for_nodes see_events nodes) ending.mid =
    passes_split striking.mid (for_nodes offer_events nodes) (Seal ∷ for_nodes see_events nodes) ending.mid
    striking.second in
    let sealing : IsSplit offering.mid (Seal ∷ []) (for_nodes see_events nodes) ending.mid =
    passes_split offering.mid (Seal ∷ []) (for_nodes see_events nodes) ending.mid offering.second in
    let struck = struck_same cycle window lines old striking.mid striking.first in
    let offers = offers_done window nodes striking.mid offering.mid (struck.opened ∙ opened) offering.first in
    let seal : IsDone offering.mid Seal sealing.mid = passes_event offering.mid Seal sealing.mid sealing.first in
    let sees = sees_done nodes sealing.mid ending.mid sealing.second in
    let advance : IsDone ending.mid Advance new = passes_event ending.mid Advance new ending.second in
    let b = offering.mid.bus in
    let still_open : b.opened ≡ Some window = offers.opened ∙ struck.opened ∙ opened in
    let seal_same : sealing.mid.interfaces ≡ offering.mid.interfaces = ap (λ (w : WorldState). w.interfaces) seal.done
    in
    let end_same : new.interfaces ≡ ending.mid.interfaces = ap (λ (w : WorldState). w.interfaces) advance.done in
    record {
      made = outcome_of b window;
      window_is = refl;
      record_is = ap (λ (w : WorldState). w.bus.sealed) advance.done ∙ sees.sealed
          ∙ ap (λ (w : WorldState). w.bus.sealed) seal.done ∙ sealed_does b window b.opened still_open
          ∙ ap (λ (rs : List Recorded). rs ++ outcome_of b window ∷ []) (offers.sealed ∙ struck.sealed);
      many = ap length end_same ∙ sees.many ∙ ap length seal_same ∙ offers.many ∙ ap length struck.interfaces;
      each = λ m below.
          let fetches = offers.each m below
          ∙ ap (λ (ss : List State). with_entry (get_or ss m no_interface) (fetch_entry (get_or ss m no_interface)
          window)) struck.interfaces in
          subst (λ (ss : List State). AddsWindow window (interface_at old m) (get_or ss m no_interface)) (sym end_same)
          (subst (λ (s : State). AddsObserve s (interface_at ending.mid m))
          (ap (λ (ss : List State). get_or ss m no_interface) seal_same ∙ fetches) (sees.each m below));
      others = λ m above.
          ap (λ (ss : List State). get_or ss m no_interface) end_same ∙ sees.others m above
          ∙ ap (λ (ss : List State). get_or ss m no_interface) seal_same ∙ offers.others m above
          ∙ ap (λ (ss : List State). get_or ss m no_interface) struck.interfaces;
    }
