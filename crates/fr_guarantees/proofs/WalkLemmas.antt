-- Runs that come to a cycle in which nothing was sent so far, and that follow a chosen way in it.
use Rattle.std.proofs.Common.{◌≡◌, ℕ, zero, suc, ◌+◌, ◌-◌, ◌*◌, ◌%◌, ◌<◌, ◌≤◌, Bool, true, false, not, cond, ◌&&◌, ◌⊎◌}
use Rattle.std.proofs.Common.{inl, inr, List, [], ◌∷◌, ◌++◌, length, length-append, Option, Some, None, refl, sym, ap}
use Rattle.std.proofs.Common.{subst, ◌∙◌, arith, is_some}
use Rattle.std.proofs.lemmas.Bool.Decides.{eqb_tells}
use Rattle.std.proofs.lemmas.List.{append-nil, append_assoc}
use Rattle.std.proofs.Math.Nat.{mul-le-mul_right}
use Rattle.fr_bus.specs.Courses.{IsCourse, course_of, opportunities}
use Rattle.fr_bus.specs.Outcome.{longest}
use Rattle.fr_bus.specs.Record.{Recorded}
use Rattle.fr_bus.specs.Windows.{cycles_begun, this_cycle, counts_on, is_row_of, following}
use Rattle.fr_core.proofs.CaseLemmas.{both_first}
use Rattle.fr_core.specs.Worlds.{WorldState}
use Rattle.fr_guarantees.proofs.LeadLemmas.{leads_not, leads_on}
use Rattle.fr_guarantees.proofs.NextRowLemmas.{row_is, cycle_is}
use Rattle.fr_guarantees.proofs.PassingLemmas.{IsAt, AreMute, IsPast, at_more, past_more, passes_silent}
use Rattle.fr_guarantees.proofs.ProgressLemmas.{windows_fit, goes_on, next_later, begun_next, counts_first, counts_next}
use Rattle.fr_guarantees.proofs.SentLemmas.{passes_sending}
use Rattle.fr_guarantees.proofs.SilenceLemmas.{Keeps}
use Rattle.fr_guarantees.specs.Exactness.{HasRoom}
use Rattle.fr_guarantees.specs.Leading.{Leads}
use Rattle.fr_guarantees.specs.Ways.{CanSend, IsRow}
use Rattle.fr_minislot.specs.DynamicRows.{first_minislot, slot_after, has_row_after}
use Rattle.fr_schedule.specs.Clusters.{IsCluster}
use Rattle.fr_schedule.specs.Descriptions.{Description}
use Rattle.fr_slots.proofs.PlaceLemmas.{same_some}
use Rattle.fr_slots.specs.declared.channel.Channel.{Channel}
use Rattle.fr_slots.specs.History.{AllAfter}
use Rattle.fr_slots.specs.Windows.{opens_cycle, is_first_slot, Opportunity, slot_of, is_static}

pub one_more : (w : WorldState) (rs : List Recorded) (r : Recorded) → w.bus.sealed ≡ rs ++ r ∷ []
    → length w.bus.sealed ≡ length rs + 1
one_more w rs r is = ap (λ (l : List Recorded). length l) is ∙ length-append rs (r ∷ [])

module _ (d : Description) (lawful : IsCluster d) (cycles most : ℕ) (room : HasRoom d cycles most)
    (kept : ℕ → Keeps) where
  -- ---- to a cycle

  -- the next window is the first one of the cycle after so many
  pub record IsStart (calls begun : ℕ) (w : WorldState) : Type 0 where
    pub world : WorldState
    pub leads : Leads w world
    pub is_at : IsAt d cycles kept calls world
    pub begun_is : cycles_begun world.bus.sealed ≡ begun
    pub window : Opportunity
    pub next : following d.params cycles world.bus.sealed ≡ Some window
    pub opens : opens_cycle window ≡ true

  pub start_after : (calls begun : ℕ) (w v : WorldState) → Leads w v → IsStart calls begun v → IsStart calls begun w
  start_after calls begun w v leads start = record {
    world = start.world;
    leads = leads_on leads start.leads;
    is_at = start.is_at;
    begun_is = start.begun_is;
    window = start.window;
    next = start.next;
    opens = start.opens;
  }

  -- no more calls were made than so many more
  pub start_more : (calls more begun : ℕ) (w : WorldState) → calls ≤ more → IsStart calls begun w
      → IsStart more begun w
  start_more calls more begun w few start = record {
    world = start.world;
    leads = start.leads;
    is_at = at_more d cycles kept calls more start.world few start.is_at;
    begun_is = start.begun_is;
    window = start.window;
    next = start.next;
    opens = start.opens;
  }

  -- A property of records that each window keeps before that cycle. In no such window a ready commit is sent.
  abbrev pub KeepsMute : ℕ → (List Recorded → Type 0) → Type 0
  KeepsMute begun Good = (rs : List Recorded) (window : Opportunity) → Good rs
      → following d.params cycles rs ≡ Some window → IsCourse (course_of d.params cycles rs)
      → cycles_begun rs ≤ begun → (opens_cycle window ≡ true → cycles_begun rs < begun)
      → AreMute d kept window × ((r : Recorded) → r.window ≡ window → Good (rs ++ r ∷ []))

  -- from a world with so many windows left
  abbrev Starts : (List Recorded → Type 0) → ℕ → ℕ → ℕ → Type 0
  Starts Good fuel calls begun = (w : WorldState) → IsAt d cycles kept calls w → Good w.bus.sealed
      → cycles_begun w.bus.sealed ≤ begun
      → length w.bus.sealed + fuel ≡ begun * opportunities d.params + 1 → IsStart calls begun w

  past_start : (Good : List Recorded → Type 0) (fuel calls begun : ℕ) → Starts Good fuel calls begun → (w : WorldState)
      → (window : Opportunity) → (channel : Channel)
      → ((r : Recorded) → r.window ≡ window → Good (w.bus.sealed ++ r ∷ []))
      → (past : IsPast d cycles kept calls w window channel 0)
      → (b : Bool) → opens_cycle window ≡ b → cycles_begun w.bus.sealed + cond b 1 0 ≤ begun
      → length w.bus.sealed + suc fuel ≡ begun * opportunities d.params + 1 → IsStart calls begun w
  past_start Good fuel calls begun again w window channel good past b opens still count =
      let one = one_more past.world w.bus.sealed past.recorded past.sealed in
      let begun_is : cycles_begun past.world.bus.sealed ≡ cycles_begun w.bus.sealed + cond {A = ℕ} b 1 0 =
      ap cycles_begun past.sealed
      ∙ begun_next w.bus.sealed past.recorded b (ap opens_cycle past.window_is ∙ opens) in
      start_after calls begun w past.world past.leads
      (again past.world past.is_at (subst Good (sym past.sealed) (good past.recorded past.window_is)) (subst (λ
      (n : ℕ). n ≤ begun) (sym begun_is) still) (omega (arith, count, one)))

  next_start : (Good : List Recorded → Type 0) (fuel calls begun : ℕ) → KeepsMute begun Good → begun < cycles
      → Starts Good fuel calls begun → Channel → Starts Good (suc fuel) calls begun
  next_start Good fuel calls begun keeps more again channel w here good few count =
      let next = goes_on d.params cycles w.bus.sealed (omega (arith, few, more)) in
      by next.window next.follows (opens_cycle next.window) refl
    where
      by : (window : Opportunity) → following d.params cycles w.bus.sealed ≡ Some window → (b : Bool)
          → opens_cycle window ≡ b → IsStart calls begun w
      by window follows false opens =
          let going = keeps w.bus.sealed window good follows here.course few
          (λ e. absurd (let none : ⊥ = cc in none)) in
          past_start Good fuel calls begun again w window channel going.1
          (passes_silent d cycles most room kept calls w window channel here follows going.0) false opens
          (omega (arith, few)) count
      by window follows true opens = elim (eqb_tells (cycles_begun w.bus.sealed) begun) [
        | inl same ↦ record {
          world = w;
          leads = leads_not w;
          is_at = here;
          begun_is = same.1;
          window = window;
          next = follows;
          opens = opens;
        }
        | inr other ↦ (
            let going = keeps w.bus.sealed window good follows here.course few
            (λ e. omega (arith, few, other.1)) in
            past_start Good fuel calls begun again w window channel going.1
            (passes_silent d cycles most room kept calls w window channel here follows going.0) true opens
            (omega (arith, few, other.1)) count)
      ]

  pub reaches_cycle : (Good : List Recorded → Type 0) (fuel calls begun : ℕ) → KeepsMute begun Good → begun < cycles
      → Channel → Starts Good fuel calls begun
  reaches_cycle Good zero calls begun keeps more channel w here good few count =
      let fits = windows_fit d.params cycles w.bus.sealed here.course in
      let most_of : cycles_begun w.bus.sealed * opportunities d.params ≤ begun * opportunities d.params =
      mul-le-mul_right (opportunities d.params) few in
      absurd (let none : ⊥ = omega (arith, fits, most_of, count) in none)
  reaches_cycle Good (suc fuel) calls begun keeps more channel w here good few count =
      next_start Good fuel calls begun keeps more (λ v. reaches_cycle Good fuel calls begun keeps more channel v)
      channel
      w here good few count

  -- ---- along a way

  -- The next window opens the row after these on the channel.
  pub record IsCome (calls begun cycle : ℕ) (channel : Channel) (counts : List ℕ) (w : WorldState) : Type 0 where
    pub world : WorldState
    pub leads : Leads w world
    pub is_at : IsAt d cycles kept calls world
    pub window : Opportunity
    pub next : following d.params cycles world.bus.sealed ≡ Some window
    pub dynamic : is_static window ≡ false
    pub begun_is : cycles_begun world.bus.sealed ≡ begun
    pub cycle_is : window.cycle ≡ cycle
    pub counts_are : counts_on channel (this_cycle world.bus.sealed) ≡ counts
    pub slot_is : slot_of window channel ≡ Some (slot_after d.params counts)
    pub minislot_is : window.minislot ≡ first_minislot d.params counts

  come_after : (calls begun cycle : ℕ) (channel : Channel) (counts : List ℕ) (w v : WorldState) → Leads w v
      → IsCome calls begun cycle channel counts v → IsCome calls begun cycle channel counts w
  come_after calls begun cycle channel counts w v leads come = record {
    world = come.world;
    leads = leads_on leads come.leads;
    is_at = come.is_at;
    window = come.window;
    next = come.next;
    dynamic = come.dynamic;
    begun_is = come.begun_is;
    cycle_is = come.cycle_is;
    counts_are = come.counts_are;
    slot_is = come.slot_is;
    minislot_is = come.minislot_is;
  }

  no_slot : (channel : Channel) (r : Recorded) → (is_static r.window ≡ true) ⊎ (slot_of r.window channel ≡ None)
      → is_row_of channel r ≡ false
  no_slot channel r (inl static) = ap (λ (b : Bool). not b && is_some (slot_of r.window channel)) static
  no_slot channel r (inr none) = by (is_static r.window)
    where
      by : (b : Bool) → (not b && is_some (slot_of r.window channel)) ≡ false
      by true = refl
      by false = ap is_some none

  module _ (begun cycle : ℕ) (cycle_of_begun : (begun - 1) % 64 ≡ cycle) (fits : cycle < 64) (some : 1 ≤ begun)
      (channel : Channel) where
    -- a world on the way
    pub record IsOn (calls : ℕ) (counts : List ℕ) (w : WorldState) : Type 0 where
      pub is_at : IsAt d cycles kept calls w
      pub begun_is : cycles_begun w.bus.sealed ≡ begun
      pub counts_are : counts_on channel (this_cycle w.bus.sealed) ≡ counts

    goes_past : (calls more bytes : ℕ) (counts : List ℕ) (w : WorldState) (window : Opportunity) (row : Bool)
        → IsOn calls counts w → opens_cycle window ≡ false
        → (past : IsPast d cycles kept more w window channel bytes) → is_row_of channel past.recorded ≡ row
        → IsOn more (counts ++ cond row (longest channel past.recorded.sent ∷ []) []) past.world
    goes_past calls more bytes counts w window row on later past is = record {
      is_at = past.is_at;
      begun_is = ap cycles_begun past.sealed
          ∙ begun_next w.bus.sealed past.recorded false (ap opens_cycle past.window_is ∙ later)
          ∙ (let same : cycles_begun w.bus.sealed + 0 ≡ begun = omega (arith, on.begun_is) in same);
      counts_are = ap (λ (rs : List Recorded). counts_on channel (this_cycle rs)) past.sealed
          ∙ counts_next channel w.bus.sealed past.recorded row (ap opens_cycle past.window_is ∙ later) is
          ∙ ap (λ (l : List ℕ). l ++ cond row (longest channel past.recorded.sent ∷ []) []) on.counts_are;
    }

    module _ (way : List ℕ) (top : ℕ) (enough : top ≤ most) (final : has_row_after d.params way ≡ true)
        (mute : (rs : List Recorded) (window : Opportunity) → following d.params cycles rs ≡ Some window
        → IsCourse (course_of d.params cycles rs)
        → ((slot : ℕ) → is_static window ≡ false → slot_of window channel ≡ Some slot
        → slot < slot_after d.params way) → AreMute d kept window) where
      abbrev Walks : ℕ → Type 0
      Walks fuel = (calls : ℕ) (rest so_far : List ℕ) (w : WorldState) → IsOn calls so_far w → so_far ++ rest ≡ way
          → AllAfter (IsRow d cycle channel) so_far rest → calls + 3 * length rest ≤ top
          → length w.bus.sealed + fuel ≡ begun * opportunities d.params + 1 → IsCome top begun cycle channel way w

      no_row : (window : Opportunity) (slot : ℕ) → (is_static window ≡ true) ⊎ (slot_of window channel ≡ None)
          → is_static window ≡ false → slot_of window channel ≡ Some slot → ⊥
      no_row window slot (inl static) dynamic at = let none : ⊥ = cc in none
      no_row window slot (inr none) dynamic at = let no : ⊥ = cc in no

      -- a window that has no row of the channel
      past_other : (fuel : ℕ) → Walks fuel → (calls : ℕ) (rest so_far : List ℕ) (w : WorldState)
          → IsOn calls so_far w → so_far ++ rest ≡ way → AllAfter (IsRow d cycle channel) so_far rest
          → calls + 3 * length rest ≤ top → length w.bus.sealed + suc fuel ≡ begun * opportunities d.params + 1
          → (window : Opportunity) → following d.params cycles w.bus.sealed ≡ Some window
          → opens_cycle window ≡ false → (is_static window ≡ true) ⊎ (slot_of window channel ≡ None)
          → IsCome top begun cycle channel way w
      past_other fuel again calls rest so_far w on split all few count window follows later none =
          let past = passes_silent d cycles most room kept calls w window channel on.is_at follows
          (mute w.bus.sealed window follows on.is_at.course (λ slot dynamic at. absurd
          (no_row window slot none dynamic at)))
          in
          let one = one_more past.world w.bus.sealed past.recorded past.sealed in
          let row = no_slot channel past.recorded
          (subst (λ (v : Opportunity). (is_static v ≡ true) ⊎ (slot_of v channel ≡ None)) (sym past.window_is) none) in
          let still : IsOn calls so_far past.world = subst (λ (l : List ℕ). IsOn calls l past.world) (append-nil so_far)
          (goes_past calls calls 0 so_far w window false on later past row) in
          come_after top begun cycle channel way w past.world past.leads
          (again calls rest so_far past.world still split all few (omega (arith, count, one)))

      -- the window of the next row
      past_row : (fuel : ℕ) → Walks fuel → (calls bytes : ℕ) (rest so_far : List ℕ) (w : WorldState)
          → IsOn calls so_far w → so_far ++ (bytes ∷ rest) ≡ way
          → AllAfter (IsRow d cycle channel) (so_far ++ bytes ∷ []) rest
          → calls + 3 + 3 * length rest ≤ top → length w.bus.sealed + suc fuel ≡ begun * opportunities d.params + 1
          → (window : Opportunity) (slot : ℕ) → is_static window ≡ false → slot_of window channel ≡ Some slot
          → opens_cycle window ≡ false → IsPast d cycles kept (calls + 3) w window channel bytes
          → IsCome top begun cycle channel way w
      past_row fuel again calls bytes rest so_far w on split all few count window slot dynamic slot_is later past =
          let one = one_more past.world w.bus.sealed past.recorded past.sealed in
          let row : is_row_of channel past.recorded ≡ true =
          ap (λ (v : Opportunity). not (is_static v) && is_some (slot_of v channel)) past.window_is
          ∙ (λ i. not (dynamic i) && is_some (slot_is i)) in
          let next = goes_past calls (calls + 3) bytes so_far w window true on later past row in
          let still : IsOn (calls + 3) (so_far ++ bytes ∷ []) past.world =
          subst (λ (n : ℕ). IsOn (calls + 3) (so_far ++ n ∷ []) past.world) (past.longest_is dynamic) next in
          come_after top begun cycle channel way w past.world past.leads
          (again (calls + 3) rest (so_far ++ bytes ∷ []) past.world still
          (append_assoc so_far (bytes ∷ []) rest ∙ split) all few (omega (arith, count, one)))

      -- the window is the next row of the channel
      abbrev IsHere : List ℕ → WorldState → Opportunity → ℕ → Type 0
      IsHere so_far w window slot = (slot_after d.params so_far ≡ slot) × (first_minislot d.params so_far
          ≡ window.minislot)
          × (window.cycle ≡ cycle)

      row_here : (calls slot : ℕ) (so_far : List ℕ) (w : WorldState) (window : Opportunity) → IsOn calls so_far w
          → following d.params cycles w.bus.sealed ≡ Some window → is_static window ≡ false
          → slot_of window channel ≡ Some slot → IsHere so_far w window slot
      row_here calls slot so_far w window on follows dynamic slot_is =
          let row = row_is d.params cycles w.bus.sealed window channel slot follows dynamic slot_is in
          let cycle_here = cycle_is d.params cycles w.bus.sealed window follows dynamic in (
            ap (slot_after d.params) (sym on.counts_are) ∙ row.slot_is,
            ap (first_minislot d.params) (sym on.counts_are) ∙ row.begins,
            cycle_here ∙ ap (λ (n : ℕ). (n - 1) % 64) on.begun_is ∙ cycle_of_begun,
          )

      at_row : (fuel : ℕ) → Walks fuel → (calls : ℕ) (rest so_far : List ℕ) (w : WorldState)
          → IsOn calls so_far w → so_far ++ rest ≡ way → AllAfter (IsRow d cycle channel) so_far rest
          → calls + 3 * length rest ≤ top → length w.bus.sealed + suc fuel ≡ begun * opportunities d.params + 1
          → (window : Opportunity) (slot : ℕ) → following d.params cycles w.bus.sealed ≡ Some window
          → opens_cycle window ≡ false → is_static window ≡ false → slot_of window channel ≡ Some slot
          → IsCome top begun cycle channel way w
      unfolding AllAfter
      at_row fuel again calls [] so_far w on split all few count window slot follows later dynamic slot_is =
          let whole : so_far ≡ way = sym (append-nil so_far) ∙ split in
          let here = row_here calls slot so_far w window on follows dynamic slot_is in
          record {
            world = w;
            leads = leads_not w;
            is_at = at_more d cycles kept calls top w (omega (arith, few)) on.is_at;
            window = window;
            next = follows;
            dynamic = dynamic;
            begun_is = on.begun_is;
            cycle_is = here.2;
            counts_are = on.counts_are ∙ whole;
            slot_is = slot_is ∙ ap Some (sym here.0 ∙ ap (slot_after d.params) whole);
            minislot_is = sym here.1 ∙ ap (first_minislot d.params) whole;
          }
      at_row fuel again calls (bytes ∷ rest) so_far w on split all few count window slot follows later dynamic slot_is =
          let here = row_here calls slot so_far w window on follows dynamic slot_is in
          let left : calls + 3 + 3 * length rest ≤ top = omega (arith, few) in
          let shorter : slot_after d.params so_far < slot_after d.params way =
          omega (arith, ap (λ (l : List ℕ). length l) split, length-append so_far (bytes ∷ rest)) in
          let quiet : AreMute d kept window = mute w.bus.sealed window follows on.is_at.course
          (λ k still at. subst (λ (n : ℕ). n < slot_after d.params way)
          (here.0 ∙ same_some slot k (sym slot_is ∙ at)) shorter) in
          past_row fuel again calls bytes rest so_far w on split all.1 left count window slot dynamic slot_is later
          (elim all.0.1 [
            | inl none ↦ (
                let past = passes_silent d cycles most room kept calls w window channel on.is_at follows quiet in
                subst (λ (n : ℕ). IsPast d cycles kept (calls + 3) w window channel n) (sym none)
                (past_more d cycles kept calls (calls + 3) 0 w window channel (omega arith) past))
            | inr can ↦ (
                let there : CanSend d window.cycle slot channel window.minislot bytes =
                subst (λ (c : ℕ). CanSend d c slot channel window.minislot bytes) (sym here.2)
                (subst (λ (k : ℕ). CanSend d cycle k channel window.minislot bytes) here.0
                (subst (λ (m : ℕ). CanSend d cycle (slot_after d.params so_far) channel m bytes) here.1 can)) in
                passes_sending d lawful cycles most room kept channel calls (omega
                (arith, left, enough)) w on.is_at window
                follows quiet dynamic slot slot_is (subst (λ (c : ℕ). c < 64) (sym here.2) fits) bytes there)
          ])

      has_row : (rest so_far : List ℕ) → so_far ++ rest ≡ way → AllAfter (IsRow d cycle channel) so_far rest
          → has_row_after d.params so_far ≡ true
      unfolding AllAfter
      has_row [] so_far split all = ap (has_row_after d.params) (sym (append-nil so_far) ∙ split) ∙ final
      has_row (bytes ∷ rest) so_far split all = all.0.0

      walks_next : (fuel : ℕ) → Walks fuel → Walks (suc fuel)
      walks_next fuel again calls rest so_far w on split all few count =
          let row : has_row_after d.params (counts_on channel (this_cycle w.bus.sealed)) ≡ true =
          ap (has_row_after d.params) on.counts_are ∙ has_row rest so_far split all in
          let next = next_later d.params cycles w.bus.sealed channel on.is_at.course
          (omega (arith, some, on.begun_is)) row in
          by next.window next.follows next.later (is_static next.window) refl (slot_of next.window channel) refl
        where
          by : (window : Opportunity) → following d.params cycles w.bus.sealed ≡ Some window
              → opens_cycle window ≡ false → (b : Bool) → is_static window ≡ b → (o : Option ℕ)
              → slot_of window channel ≡ o → IsCome top begun cycle channel way w
          by window follows later true static o slot_is =
              past_other fuel again calls rest so_far w on split all few count window follows later (inl static)
          by window follows later false dynamic None slot_is =
              past_other fuel again calls rest so_far w on split all few count window follows later (inr slot_is)
          by window follows later false dynamic (Some slot) slot_is =
              at_row fuel again calls rest so_far w on split all few count window slot follows later dynamic slot_is

      pub walks : (fuel : ℕ) → Walks fuel
      walks zero calls rest so_far w on split all few count =
          let fit = windows_fit d.params cycles w.bus.sealed on.is_at.course in
          let same : cycles_begun w.bus.sealed * opportunities d.params ≡ begun * opportunities d.params =
          ap (λ (n : ℕ). n * opportunities d.params) on.begun_is in
          absurd (let none : ⊥ = omega (arith, fit, same, count) in none)
      walks (suc fuel) calls rest so_far w on split all few count =
          walks_next fuel (λ c. walks fuel c) calls rest so_far w on split all few count

  -- ---- a way in a cycle that begins

  -- the world after the first window of the cycle
  on_first : (calls begun cycle : ℕ) (same : (begun + 1 - 1) % 64 ≡ cycle) (fits : cycle < 64) (some : 1 ≤ begun + 1)
      (channel : Channel)
      (w : WorldState) (start : IsStart calls begun w) (past : IsPast d cycles kept calls start.world start.window
      channel 0)
      → IsOn (begun + 1) cycle same fits some channel calls [] past.world
  on_first calls begun cycle same fits some channel w start past =
      let opens = ap opens_cycle past.window_is ∙ start.opens in
      let r = past.recorded in
      let static : is_static r.window ≡ true = both_first (is_static r.window) (is_first_slot r.window.a) opens in
      let row : is_row_of channel r ≡ false = ap (λ (b : Bool). not b && is_some (slot_of r.window channel)) static in
      record {
        is_at = past.is_at;
        begun_is = ap cycles_begun past.sealed ∙ begun_next start.world.bus.sealed r true opens
            ∙ ap (λ (n : ℕ). n + 1) start.begun_is;
        counts_are = ap (λ (rs : List Recorded). counts_on channel (this_cycle rs)) past.sealed
            ∙ counts_first channel start.world.bus.sealed r opens row;
      }

  pub comes_in : (calls begun cycle : ℕ) → begun % 64 ≡ cycle → cycle < 64
      → (channel : Channel) (way : List ℕ) (top : ℕ)
      → top ≤ most → has_row_after d.params way ≡ true
      → ((rs : List Recorded) (window : Opportunity) → following d.params cycles rs ≡ Some window
      → IsCourse (course_of d.params cycles rs)
      → ((slot : ℕ) → is_static window ≡ false → slot_of window channel ≡ Some slot
      → slot < slot_after d.params way) → AreMute d kept window)
      → AllAfter (IsRow d cycle channel) [] way → calls + 3 * length way ≤ top
      → (w : WorldState) (start : IsStart calls begun w) → AreMute d kept start.window
      → IsCome top (begun + 1) cycle channel way w
  comes_in calls begun cycle same fits channel way top enough final mute rows few w start quiet =
      let past = passes_silent d cycles most room kept calls start.world start.window channel start.is_at start.next
      quiet
      in
      let back : (begun + 1 - 1) % 64 ≡ cycle =
      ap (λ (n : ℕ). n % 64) (let back : begun + 1 - 1 ≡ begun = omega arith in back) ∙ same in
      let some : 1 ≤ begun + 1 = omega arith in
      let on = on_first calls begun cycle back fits some channel w start past in
      let fit = windows_fit d.params cycles past.world.bus.sealed past.is_at.course in
      let begun_is : cycles_begun past.world.bus.sealed * opportunities d.params
      ≡ (begun + 1) * opportunities d.params =
      ap (λ (n : ℕ). n * opportunities d.params) on.begun_is in
      come_after top (begun + 1) cycle channel way w past.world (leads_on start.leads past.leads)
      (walks (begun + 1) cycle back fits some channel way top enough final mute
      ((begun + 1) * opportunities d.params + 1 - length past.world.bus.sealed) calls way [] past.world on refl rows few
      (omega (arith, fit, begun_is)))
