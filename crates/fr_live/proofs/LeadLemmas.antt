-- The kept data change as the world that leads to them does.
use Rattle.std.proofs.Common.{◌≡◌, ℕ, zero, suc, ◌<◌, List, [], ◌∷◌, length, refl, sym, ap}
use Rattle.std.proofs.Common.{subst, arith}
use Rattle.std.specs.Prelude.{nat_lt, slice_index_or, slice_set}
use Rattle.fr_bus.specs.Standing.{LiveStanding, IsLiveHistory}
use Rattle.fr_bus.specs.States.{BusState}
use Rattle.fr_core.specs.Carried.{Carried, Idle}
use Rattle.fr_core.specs.Steps.{with_interface, with_carried, with_bus}
use Rattle.fr_core.specs.Worlds.{WorldState, no_interface, interface_at}
use Rattle.fr_core.specs.Worlds as worlds
use Rattle.fr_interface.specs.Standing.{Standing, IsHistory}
use Rattle.fr_interface.specs.State.{State}
use Rattle.fr_live.specs.LiveWorlds.{LiveState, AreHistories, Leads, no_standing, has_node, standing_at, carried_at}

-- ---- lists of data and of histories

pub as_many : (hs : List Standing) (ss : List State) → AreHistories hs ss → length hs ≡ length ss
as_many [] [] are = refl
as_many [] (s ∷ ss) are = absurd are
as_many (h ∷ hs) [] are = absurd are
as_many (h ∷ hs) (s ∷ ss) are = ap suc (as_many hs ss are.1)

history_in : (hs : List Standing) (ss : List State) (n : ℕ) (d : Standing) → AreHistories hs ss → n < length hs
    → IsHistory (slice_index_or hs n d) (slice_index_or ss n no_interface)
history_in [] ss n d are within = absurd (let none : ⊥ = omega (arith, within) in none)
history_in (h ∷ hs) [] n d are within = absurd are
history_in (h ∷ hs) (s ∷ ss) zero d are within = are.0
history_in (h ∷ hs) (s ∷ ss) (suc n) d are within = history_in hs ss n d are.1 (omega (arith, within))

history_set : (hs : List Standing) (ss : List State) (n : ℕ) (h : Standing) (s : State) → AreHistories hs ss
    → IsHistory h s → AreHistories (slice_set hs n h) (slice_set ss n s)
history_set [] [] n h s are is = tt
history_set [] (t ∷ ss) n h s are is = absurd are
history_set (g ∷ hs) [] n h s are is = absurd are
history_set (g ∷ hs) (t ∷ ss) zero h s are is = (is, are.1)
history_set (g ∷ hs) (t ∷ ss) (suc n) h s are is = (are.0, history_set hs ss n h s are.1 is)

-- ---- a world that leads to the data

module _ (w : WorldState) (l : LiveState) (is : Leads w l) where
  pub nodes_same : (n : ℕ) → has_node l n ≡ worlds.has_node w n
  nodes_same n = ap (nat_lt n) (as_many l.interfaces w.interfaces is.interfaces_are)

  pub carried_same : (n : ℕ) → carried_at l n ≡ worlds.carried_at w n
  carried_same n = ap (λ (c : List Carried). slice_index_or c n Idle) (sym is.carried_are)

  pub history_at : (n : ℕ) → n < length l.interfaces → IsHistory (standing_at l n) (interface_at w n)
  history_at n within = history_in l.interfaces w.interfaces n no_standing is.interfaces_are within

  -- the same of data that were lent
  pub history_lent : (n : ℕ) (h : Standing) → h ≡ slice_index_or l.interfaces n h → n < length l.interfaces
      → IsHistory h (interface_at w n)
  history_lent n h lent within = subst (λ (x : Standing). IsHistory x (interface_at w n)) (sym lent)
      (history_in l.interfaces w.interfaces n h is.interfaces_are within)

  -- ---- one change

  pub with_history : (n : ℕ) (h : Standing) (s : State) → IsHistory h s
      → Leads (with_interface w n s) (record l { interfaces = slice_set l.interfaces n h })
  with_history n h s history = record {
    interfaces_are = history_set l.interfaces w.interfaces n h s is.interfaces_are history;
    bus_is = is.bus_is;
    carried_are = is.carried_are;
  }

  pub with_place : (n : ℕ) (c : Carried) → Leads (with_carried w n c) (record l { carried = slice_set l.carried n c })
  with_place n c = record {
    interfaces_are = is.interfaces_are;
    bus_is = is.bus_is;
    carried_are = ap (λ (cs : List Carried). slice_set cs n c) is.carried_are;
  }

  pub with_live : (b : BusState) (h : LiveStanding) → IsLiveHistory h b → Leads (with_bus w b) (record l { bus = h })
  with_live b h history = record {
    interfaces_are = is.interfaces_are;
    bus_is = history;
    carried_are = is.carried_are;
  }
