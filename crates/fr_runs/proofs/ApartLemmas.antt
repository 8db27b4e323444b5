-- Lines that both occur in a window name a common window.
use Rattle.std.proofs.Common.{◌≡◌, ℕ, Bool, true, false, ◌&&◌, List, take, refl, sym, subst, ◌∙◌}
use Rattle.std.specs.Prelude.{◌==◌, IfSome}
use Rattle.std.specs.List.{list_any}
use Rattle.circular_buffer.proofs.Places.{slice_get-take}
use Rattle.std.proofs.lemmas.Map.Keys.{any_passes_from_place}
use Rattle.fr_bus.specs.declared.fault.Fault.{Fault}
use Rattle.fr_bus.specs.declared.fault.Fault.TheVariants.{Babble, Mute, Corrupt}
use Rattle.fr_core.proofs.CaseLemmas.{both, both_first, both_rest, differ}
use Rattle.fr_runs.proofs.FaultedLemmas.{one_channel}
use Rattle.fr_runs.proofs.PlaceLemmas.{places_both}
use Rattle.fr_runs.proofs.SpanLemmas.{cycles_both}
use Rattle.fr_runs.specs.Apart.{ComeApart}
use Rattle.fr_runs.specs.Cycles.{names_cycle}
use Rattle.fr_runs.specs.declared.fault_line.FaultLine.{FaultLine}
use Rattle.fr_runs.specs.Refusing.{EachFaultSuits}
use Rattle.fr_runs.specs.Striking.{channel_of, names_window, strikes}
use Rattle.fr_runs.specs.Suiting.{are_alike, cycles_meet, places_meet, lines_meet, IsFaultAfter}
use Rattle.fr_schedule.specs.Descriptions.{Description}
use Rattle.fr_slots.specs.Admission.{is_channel}
use Rattle.fr_slots.specs.Windows.{Opportunity}

-- a fault of one kind, node and channel has one channel
same_channel : (one other : Fault) → are_alike one other ≡ true → channel_of one ≡ channel_of other
same_channel (Babble n c bytes) (Babble m e others) alike = one_channel c e (both_rest (n == m) (is_channel c e) alike)
same_channel (Babble n c bytes) (Mute m e) alike = absurd (let none : ⊥ = cc in none)
same_channel (Babble n c bytes) (Corrupt e other) alike = absurd (let none : ⊥ = cc in none)
same_channel (Mute n c) (Babble m e others) alike = absurd (let none : ⊥ = cc in none)
same_channel (Mute n c) (Mute m e) alike = one_channel c e (both_rest (n == m) (is_channel c e) alike)
same_channel (Mute n c) (Corrupt e other) alike = absurd (let none : ⊥ = cc in none)
same_channel (Corrupt c bit) (Babble m e others) alike = absurd (let none : ⊥ = cc in none)
same_channel (Corrupt c bit) (Mute m e) alike = absurd (let none : ⊥ = cc in none)
same_channel (Corrupt c bit) (Corrupt e other) alike = one_channel c e alike

meet_there : (one later : FaultLine) (cycle : ℕ) (w : Opportunity) → are_alike later.fault one.fault ≡ true
    → strikes one cycle w ≡ true → strikes later cycle w ≡ true → lines_meet later one ≡ true
meet_there one later cycle w alike hit again =
    let channel = channel_of later.fault in
    let on_one : names_window one.place channel w ≡ true =
    subst (λ c. names_window one.place c w ≡ true) (sym (same_channel later.fault one.fault alike))
    (both_rest (names_cycle one.cycles cycle) (names_window one.place (channel_of one.fault) w) hit) in
    both (are_alike later.fault one.fault && places_meet later.place one.place) (cycles_meet later.cycles one.cycles)
    (both (are_alike later.fault one.fault) (places_meet later.place one.place) alike
    (places_both channel w later.place one.place
    (both_rest (names_cycle later.cycles cycle) (names_window later.place channel w) again) on_one))
    (cycles_both later.cycles one.cycles cycle
    (both_first (names_cycle later.cycles cycle) (names_window later.place channel w) again)
    (both_first (names_cycle one.cycles cycle) (names_window one.place (channel_of one.fault) w) hit))

pub come_apart : (d : Description) (cycles : ℕ) (faults : List FaultLine) → EachFaultSuits d cycles faults
    → ComeApart faults
come_apart d cycles faults suits i j one later cycle w below at there alike hit =
    by_test (strikes later cycle w) refl
  where
    alone : list_any (lines_meet later) (take j faults) ≡ false
    alone = (subst (λ o. IfSome o (IsFaultAfter d cycles (take j faults))) there (suits j)).only

    by_test : (b : Bool) → strikes later cycle w ≡ b → b ≡ false
    by_test false again = refl
    by_test true again =
        differ
        (any_passes_from_place (lines_meet later) (take j faults) i one (slice_get-take j faults i below ∙ at)
        (meet_there one later cycle w alike hit again)) alone
