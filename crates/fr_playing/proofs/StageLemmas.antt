-- The windows of a cycle: their records, and the journals after them.
use Rattle.std.proofs.Common.{◌≡◌, ℕ, zero, suc, ◌+◌, ◌-◌, Bool, true, false, cond, List, [], ◌∷◌, ◌++◌, length}
use Rattle.std.proofs.Common.{sym, ap, subst, ◌∙◌, ◌⊎◌, inl, inr, arith, append_assoc}
use Rattle.std.proofs.lemmas.List.Sums.{sum_by_push}
use Rattle.fr_bus.specs.Record.{Recorded}
use Rattle.fr_bus.specs.Windows.{begins_cycle, cycles_begun}
use Rattle.fr_slots.specs.Windows.{opens_cycle}
use Rattle.fr_core.specs.declared.event.Event.{Event}
use Rattle.fr_core.specs.Worlds.{WorldState, interface_at}
use Rattle.fr_interface.specs.State.{State}
use Rattle.fr_playing.proofs.EventLemmas.{IsKept}
use Rattle.fr_playing.proofs.PassLemmas.{IsSound, slots_keep}
use Rattle.fr_playing.proofs.WindowLemmas.{IsFresh, IsRecordedIn, all_of_slot, window_recorded, window_fresh}
use Rattle.fr_playing.proofs.WindowLemmas.{window_sound}
use Rattle.fr_playing.specs.Moving.{is_at_cycle, whole_window}
use Rattle.fr_playing.specs.Windows.{played_events, PlaysWindow, PlaysWithin, PlaysWindows}
use Rattle.fr_runs.specs.declared.fault_line.FaultLine.{FaultLine}
use Rattle.fr_runs.specs.Faulted.{HasFaults}
use Rattle.fr_schedule.specs.Descriptions.{Description}
use Rattle.fr_slots.proofs.HistoryLemmas.{AllAfter-snoc}
use Rattle.fr_slots.specs.History.{AllAfter}
use Rattle.fr_slots.specs.Windows.{Opportunity}

-- ---- the faults of a record

-- the window after these has the faults of its cycle
abbrev pub HasFaultsAfter : List FaultLine → List Recorded → Recorded → Type 0
HasFaultsAfter lines before r = HasFaults lines (cycles_begun (before ++ r ∷ []) - 1) r

abbrev pub AreFaulted : List FaultLine → List Recorded → Type 0
AreFaulted lines rs = AllAfter (HasFaultsAfter lines) [] rs

pub begun_more : (rs : List Recorded) (r : Recorded)
    → cycles_begun (rs ++ r ∷ []) ≡ cycles_begun rs + cond (begins_cycle r) 1 0
begun_more rs r = sum_by_push (λ (x : Recorded). cond {A = ℕ} (begins_cycle x) 1 0) rs r

-- ---- worlds between two windows

-- in the cycle of this number of the run
pub record Stands (d : Description) (lines : List FaultLine) (cycle : ℕ) (w : WorldState) : Type 0 where
  pub sound : IsSound d w
  pub fresh : IsFresh w
  pub faulted : AreFaulted lines w.bus.sealed
  -- with the open window, if it begins a cycle
  pub begun : cycles_begun w.bus.sealed + cond (is_at_cycle w.bus.opened) 1 0 ≡ cycle + 1

-- the same after at least one window of the cycle, from which on the windows of the cycle are recorded
pub record Passed (d : Description) (lines : List FaultLine) (cycle : ℕ) (start w : WorldState) : Type 0 where
  pub sound : IsSound d w
  pub fresh : IsFresh w
  pub faulted : AreFaulted lines w.bus.sealed
  pub begun : cycles_begun w.bus.sealed ≡ cycle + 1
  pub first : Recorded
  pub more : List Recorded
  pub record_is : w.bus.sealed ≡ start.bus.sealed ++ first ∷ more
  pub begins : begins_cycle first ≡ true

module _ (d : Description) (lines : List FaultLine) (cycle : ℕ) where
  abbrev due : List Event
  due = whole_window (length d.plans)

  -- ---- one window

  module _ (old new : WorldState) (stands : Stands d lines cycle old) (plays : PlaysWindow cycle lines due old new)
    where
      abbrev window : Opportunity
      window = plays.0

      made : IsRecordedIn lines cycle window old new
      made = window_recorded d lines cycle window old new plays.1 stands.sound stands.fresh plays.2

      opens_same : is_at_cycle old.bus.opened ≡ begins_cycle made.made
      opens_same = ap is_at_cycle plays.1 ∙ ap opens_cycle (sym made.window_is)

      begun_with : cycles_begun (old.bus.sealed ++ made.made ∷ []) ≡ cycle + 1
      begun_with =
          begun_more old.bus.sealed made.made
          ∙ ap (λ (b : Bool). cycles_begun old.bus.sealed + cond {A = ℕ} b 1 0) (sym opens_same)
          ∙ stands.begun

      has_faults : HasFaultsAfter lines old.bus.sealed made.made
      has_faults =
          let begun = begun_with in
          let same : cycle ≡ cycles_begun (old.bus.sealed ++ made.made ∷ []) - 1 = omega (arith, begun) in
          subst (λ (n : ℕ). HasFaults lines n made.made) same made.faults

      passed_by : (start : WorldState) (first : Recorded) (more : List Recorded)
          → new.bus.sealed ≡ start.bus.sealed ++ first ∷ more → begins_cycle first ≡ true
          → Passed d lines cycle start new
      passed_by start first more record_is begins = record {
        sound = window_sound d lines cycle window old new plays.1 stands.sound stands.fresh plays.2;
        fresh = window_fresh d lines cycle window old new plays.1 stands.sound stands.fresh plays.2;
        faulted = subst (AreFaulted lines) (sym made.record_is)
            (AllAfter-snoc (HasFaultsAfter lines) old.bus.sealed made.made stands.faulted has_faults);
        begun = ap cycles_begun made.record_is ∙ begun_with;
        first = first;
        more = more;
        record_is = record_is;
        begins = begins;
      }

      -- the first window of the cycle
      pub first_passed : is_at_cycle old.bus.opened ≡ true → Passed d lines cycle old new
      first_passed at_cycle = passed_by old made.made [] made.record_is (sym opens_same ∙ at_cycle)

      -- a later one
      pub next_passed : (start : WorldState) → Passed d lines cycle start old → Passed d lines cycle start new
      next_passed start passed =
          passed_by start passed.first (passed.more ++ made.made ∷ [])
          (made.record_is ∙ ap (λ (rs : List Recorded). rs ++ made.made ∷ []) passed.record_is
          ∙ append_assoc start.bus.sealed (passed.first ∷ passed.more) (made.made ∷ []))
          passed.begins

  -- ---- the windows of the cycle

  stands_on : (start w : WorldState) → Passed d lines cycle start w → is_at_cycle w.bus.opened ≡ false
      → Stands d lines cycle w
  stands_on start w passed within = record {
    sound = passed.sound;
    fresh = passed.fresh;
    faulted = passed.faulted;
    begun = let begun = passed.begun in
        ap (λ (b : Bool). cycles_begun w.bus.sealed + cond {A = ℕ} b 1 0) within ∙ omega (arith, begun);
  }

  -- a world after some windows of the cycle, which the next window follows
  record IsWithin (start w : WorldState) : Type 0 where
    pub stands : Stands d lines cycle w
    pub from_start : ((w ≡ start) × (is_at_cycle w.bus.opened ≡ true)) ⊎ Passed d lines cycle start w

  next_window : (start old new : WorldState) → IsWithin start old → PlaysWindow cycle lines due old new
      → Passed d lines cycle start new
  next_window start old new within plays = by_start within.from_start
    where
      by_start : (((old ≡ start) × (is_at_cycle old.bus.opened ≡ true)) ⊎ Passed d lines cycle start old)
          → Passed d lines cycle start new
      by_start (inl is) = subst (λ (w : WorldState). Passed d lines cycle w new) is.0
          (first_passed old new within.stands plays is.1)
      by_start (inr passed) = next_passed old new within.stands plays start passed

  all_within : (start : WorldState) → Stands d lines cycle start → is_at_cycle start.bus.opened ≡ true → (count : ℕ)
      (w : WorldState) → PlaysWithin cycle lines due count start w → IsWithin start w
  unfolding PlaysWithin
  all_within start stands at_cycle zero w plays = record {
    stands = subst (Stands d lines cycle) (sym plays) stands;
    from_start = inl (plays, ap (λ (v : WorldState). is_at_cycle v.bus.opened) plays ∙ at_cycle);
  }
  all_within start stands at_cycle (suc count) w plays =
      let (mid, before, window, within) = plays in
      let passed = next_window start mid w (all_within start stands at_cycle count mid before) window in
      record { stands = stands_on start w passed within; from_start = inr passed }

  pub windows_passed : (start new : WorldState) → Stands d lines cycle start → is_at_cycle start.bus.opened ≡ true
      → PlaysWindows cycle lines due start new → Passed d lines cycle start new
  windows_passed start new stands at_cycle plays =
      let (count, before, within, window, ends) = plays in
      next_window start before new (all_within start stands at_cycle count before within) window

  -- ---- what entries of slots keep

  module _ (Q : ℕ → State → Type 0) (keeps : IsKept Q) where
    window_keeps : (old new : WorldState) → PlaysWindow cycle lines due old new → ((m : ℕ) → Q m (interface_at old m))
        → (m : ℕ) → Q m (interface_at new m)
    window_keeps old new plays q =
        slots_keep Q keeps old (played_events cycle lines due plays.0) new
        (all_of_slot cycle lines (length d.plans) plays.0) plays.2 q

    within_keeps : (count : ℕ) (old new : WorldState) → PlaysWithin cycle lines due count old new
        → ((m : ℕ) → Q m (interface_at old m)) → (m : ℕ) → Q m (interface_at new m)
    unfolding PlaysWithin
    within_keeps zero old new plays q m = subst (λ (w : WorldState). Q m (interface_at w m)) (sym plays) (q m)
    within_keeps (suc count) old new plays q m =
        let (mid, before, window, within) = plays in
        window_keeps mid new window (λ k. within_keeps count old mid before q k) m

    pub windows_keep : (old new : WorldState) → PlaysWindows cycle lines due old new
        → ((m : ℕ) → Q m (interface_at old m)) → (m : ℕ) → Q m (interface_at new m)
    windows_keep old new plays q =
        let (count, before, within, window, ends) = plays in
        window_keeps before new window (within_keeps count old before within q)
