-- The guarantees of a schedule hold in every world.
use Rattle.std.proofs.Common.{◌≡◌, ℕ, zero, suc, ◌<◌, ◌≤◌, Bool, true, false, cond, ◌⊎◌, inl, inr, List, [], ◌∷◌, ◌++◌}
use Rattle.std.proofs.Common.{length, map, take, Some, refl, sym, ap, subst, ◌∙◌, arith, slice_get}
use Rattle.std.specs.Prelude.{nat_le}
use Rattle.std.proofs.lemmas.Bool.{le-leb, leb-false, leb-true, or_right, or_left}
use Rattle.std.proofs.lemmas.Option.{slice_get_within, get_or_from_slice_get}
use Rattle.fr_bus.specs.declared.error.Phase.{Phase}
use Rattle.fr_bus.specs.declared.error.Phase.TheVariants.{Collect, Sealed as InSealed, Finished}
use Rattle.fr_bus.specs.States.{BusState, IsRun, collects, Stands}
use Rattle.fr_bus.specs.Windows.{this_cycle, counts_on, following}
use Rattle.fr_core.proofs.CaseLemmas.{both}
use Rattle.fr_core.proofs.FollowLemmas.{legal_at}
use Rattle.fr_core.proofs.JudgedLemmas.{recorded_at}
use Rattle.fr_core.specs.Agreeing.{Handed, handed_at, fetched, offers_of}
use Rattle.fr_core.specs.Agreement.{view_for, ahead, handed_as, Turn}
use Rattle.fr_core.specs.Carried.{Carried, Idle, Knows, Offers, Waits, Took}
use Rattle.fr_core.specs.Headline.{Headline}
use Rattle.fr_core.specs.Worlds.{WorldState, no_interface, interface_at, carried_at}
use Rattle.fr_guarantees.proofs.NextRowLemmas.{row_is, cycle_is}
use Rattle.fr_guarantees.proofs.ServedLemmas.{served}
use Rattle.fr_guarantees.proofs.WayLemmas.{row_fits, goes_a_way}
use Rattle.fr_guarantees.specs.Guarantees.{AlwaysOpens, OpensBy, ArePlain, IsTurn, IsServed, cycle_of, Guarantees}
use Rattle.fr_guarantees.specs.Ways.{IsWay}
use Rattle.fr_interface.specs.State.{State, IsLegalInterface}
use Rattle.fr_journal.specs.declared.entry.Entry.TheVariants.{Fetch}
use Rattle.fr_journal.specs.declared.entry.Offered.{Offered}
use Rattle.fr_journal.specs.Entries.{IsEntry}
use Rattle.fr_journal.specs.Forms.{Entry}
use Rattle.fr_journal.specs.Legal.{IsLegal, IsLegalFetch, AreEntries}
use Rattle.fr_journal.specs.Offers.{may_begin}
use Rattle.fr_minislot.specs.DynamicRows.{first_minislot, slot_after, has_row_after}
use Rattle.fr_slots.proofs.FaultlessLemmas.{faultless}
use Rattle.fr_slots.proofs.PlaceLemmas.{same_some, get-after, AllAfter-cut, each_after-cut, IsInSecond, place-append}
use Rattle.fr_slots.proofs.PlaceLemmas.{get-map}
use Rattle.fr_slots.specs.declared.channel.Channel.{Channel}
use Rattle.fr_slots.specs.Faults.{latest_on}
use Rattle.fr_slots.specs.History.{AllAfter, each_after}
use Rattle.fr_slots.specs.Parameters.{Parameters}
use Rattle.fr_slots.specs.Windows.{Opportunity, slot_of, is_static}

-- ---- the fetch of a journal

-- the journal has this fetch
pub record HasFetch (s : State) (before after : List Entry) (w : Opportunity) (x y : Offered) : Type 0 where
  pub legal : IsLegalFetch s.params s.plan before w x y
  pub entry_is : IsEntry (Fetch w x y)

pub has_fetch : (s : State) → IsLegalInterface s → (before after : List Entry) (w : Opportunity) (x y : Offered)
    → s.entries ≡ before ++ Fetch w x y ∷ after → HasFetch s before after w x y
has_fetch s lawful before after w x y cut = record {
  legal = AllAfter-cut (IsLegal s.params s.plan) [] before (Fetch w x y) after
      (subst (λ (l : List Entry). AllAfter (IsLegal s.params s.plan) [] l) cut lawful.legal);
  entry_is = AllAfter-cut (λ (b : List Entry) (e : Entry). IsEntry e) [] before (Fetch w x y) after
      (subst (λ (l : List Entry). AreEntries l) cut lawful.entries_are);
}

-- a fetch of a turn in which the node may begin leaves no commit pending
serves : (s : State) → IsLegalInterface s → (number slot : ℕ) (w : Opportunity) (channel : Channel)
    → IsTurn s number w channel slot → may_begin s.plan w channel ≡ true → IsServed s number w
serves s lawful number slot w channel turn begins before after x y cut =
    let f = has_fetch s lawful before after w x y cut in
    let one = (faultless s.params s.plan lawful.faultless).one_sender in
    served s.params s.plan number turn.buffer turn.at one before w x y channel slot f.legal f.entry_is.window_is
    turn.slot_is turn.sends begins

-- ---- the window of a fetch follows a part of the record

record IsNext (w : WorldState) (window : Opportunity) : Type 0 where
  place : ℕ
  follows : following w.bus.cluster.params w.bus.cycles (take place w.bus.sealed) ≡ Some window

pub take_all : {X : Type 0} (xs : List X) → take (length xs) xs ≡ xs
take_all [] = refl
take_all (x ∷ xs) = ap (λ (l : List _). x ∷ l) (take_all xs)

-- the frames of a fetch are among those that the journal handed out
handed_here : (s : State) (before after : List Entry) (w : Opportunity) (x y : Offered)
    → s.entries ≡ before ++ Fetch w x y ∷ after → (h : Handed) → handed_at s.params s.plan before (Fetch w x y) ≡ h ∷ []
    → slice_get (fetched s) (length (each_after (handed_at s.params s.plan) [] before)) ≡ Some h
handed_here s before after w x y cut h is =
    let earlier = each_after (handed_at s.params s.plan) [] before in
    let later = each_after (handed_at s.params s.plan) (before ++ Fetch w x y ∷ []) after in
    ap (λ (l : List Handed). slice_get l (length earlier)) (
    ap (λ (l : List Entry). each_after (handed_at s.params s.plan) [] l) cut
    ∙ each_after-cut (handed_at s.params s.plan) [] before (Fetch w x y) after
    ∙ ap (λ (l : List Handed). earlier ++ (l ++ later)) is
    )
    ∙ get-after earlier later h

-- in the phase in which offers come, the open window is the next one of the record
opened_next : (b : BusState) (phase : Phase) (window : Opportunity) → b.phase ≡ phase → phase ≡ Collect → IsRun b
    → b.opened ≡ Some window → following b.cluster.params b.cycles b.sealed ≡ Some window
opened_next b phase window is collect run opened =
    let stands = subst (λ (p : Phase). Stands p b) (is ∙ collect) run.stands in
    sym stands.0 ∙ opened

only : {X : Type 0} (x y : X) (k : ℕ) → slice_get (x ∷ []) k ≡ Some y → x ≡ y
only x y zero e = same_some x y e
only x y (suc k) e = absurd (let none : ⊥ = cc in none)

-- a window that a controller fetched ahead of the record is the next one
ahead_next : (b : BusState) (n : ℕ) (c : Carried) (phase : Phase) (put taken : Bool) (h : Handed) (k : ℕ)
    → IsRun b → b.phase ≡ phase → Turn c phase b.opened put taken
    → slice_get (ahead c (view_for b n)) k ≡ Some h
    → following b.cluster.params b.cycles b.sealed ≡ Some h.window
ahead_next b n Idle phase put taken h k run is turn at = absurd (let none : ⊥ = cc in none)
ahead_next b n (Knows w) phase put taken h k run is turn at = absurd (let none : ⊥ = cc in none)
ahead_next b n (Took w x y) phase put taken h k run is turn at = absurd (let none : ⊥ = cc in none)
ahead_next b n (Offers w offer) Collect put taken h k run is turn at =
    let same = only (handed_as w offer.a offer.b) h k at in
    opened_next b Collect h.window is refl run
    (turn.2 ∙ ap (λ (x : Handed). Some x.window) same)
ahead_next b n (Offers w offer) InSealed put taken h k run is turn at = absurd turn
ahead_next b n (Offers w offer) Finished put taken h k run is turn at = absurd turn
ahead_next b n (Waits w) Collect put taken h k run is turn at =
    let here = ap (λ (p : Phase). slice_get (cond (collects p) (handed_as w (view_for b n).station.a.offer
    (view_for b n).station.b.offer ∷ []) []) k) (sym is) ∙ at in
    let same = only (handed_as w (view_for b n).station.a.offer (view_for b n).station.b.offer) h k here in
    opened_next b Collect h.window is refl run
    (turn.2 ∙ ap (λ (x : Handed). Some x.window) same)
ahead_next b n (Waits w) InSealed put taken h k run is turn at =
    let here = ap (λ (p : Phase). slice_get (cond (collects p) (handed_as w (view_for b n).station.a.offer
    (view_for b n).station.b.offer ∷ []) []) k) (sym is) ∙ at in
    absurd (let none : ⊥ = cc in none)
ahead_next b n (Waits w) Finished put taken h k run is turn at = absurd turn

came : (p : Parameters) (counts : List ℕ) (slot : ℕ) → slot ≤ 2047
    → (slot_after p counts ≤ slot → first_minislot p counts ≤ p.minislots) → has_row_after p counts ≡ false
    → slot < slot_after p counts
came p counts slot most always over = by (nat_le (slot_after p counts) slot) refl
  where
    by : (b : Bool) → nat_le (slot_after p counts) slot ≡ b → slot < slot_after p counts
    by false e = leb-false (slot_after p counts) slot e
    by true e =
        let not_yet : slot_after p counts ≤ slot = leb-true (slot_after p counts) slot e in
        let begins : first_minislot p counts ≤ p.minislots = always not_yet in
        let exists : has_row_after p counts ≡ true = both (nat_le (first_minislot p counts) p.minislots)
        (nat_le (slot_after p counts) 2047) (le-leb (first_minislot p counts) p.minislots begins)
        (le-leb (slot_after p counts) 2047 (omega (arith, not_yet, most))) in
        absurd (let none : ⊥ = cc (exists, over) in none)

module _ (w : WorldState) (head : Headline w) where
  -- a window that a journal fetched follows the windows before it
  fetched_next : (n : ℕ) (s : State) → slice_get w.interfaces n ≡ Some s → (k : ℕ) (h : Handed)
      → slice_get (fetched s) k ≡ Some h → IsNext w h.window
  fetched_next n s here k h at =
      let within : n < length w.interfaces = slice_get_within w.interfaces n s here in
      let station : n < length w.bus.stations = omega (arith, within, head.agrees.agrees.a_station_each) in
      let agrees = head.agrees.agrees.each n station in
      let same : interface_at w n ≡ s = get_or_from_slice_get w.interfaces n s no_interface here in
      let fetches = ap (λ (i : State). fetched i) (sym same) ∙ agrees.fetches in
      by agrees.turn (place-append (map (offers_of n) w.bus.sealed) (ahead (carried_at w n) (view_for w.bus n)) k h
      (ap (λ (l : List Handed). slice_get l k) (sym fetches) ∙ at))
    where
      in_record : slice_get (map (offers_of n) w.bus.sealed) k ≡ Some h → IsNext w h.window
      in_record e =
          let m = get-map (offers_of n) w.bus.sealed k h e in
          record {
            place = k;
            follows = (recorded_at w.bus.cluster w.bus.cycles w.bus.sealed k m.source head.run.recorded m.at).0
                ∙ ap (λ (x : Handed). Some x.window) m.value;
          }

      by : Turn (carried_at w n) w.bus.phase w.bus.opened (view_for w.bus n).station.put
          (view_for w.bus n).station.taken
          → ((slice_get (map (offers_of n) w.bus.sealed) k ≡ Some h)
          ⊎ IsInSecond (map (offers_of n) w.bus.sealed) (ahead (carried_at w n) (view_for w.bus n)) k h)
          → IsNext w h.window
      by turn (inl e) = in_record e
      by turn (inr e) = record {
        place = length w.bus.sealed;
        follows = ap (following w.bus.cluster.params w.bus.cycles) (take_all w.bus.sealed)
            ∙ ahead_next w.bus n (carried_at w n) w.bus.phase (view_for w.bus n).station.put
            (view_for w.bus n).station.taken h e.place head.run refl turn e.at;
      }

  goes : ArePlain w.bus.sealed → (k : ℕ) (channel : Channel)
      → IsWay w.bus.cluster (cycle_of (take k w.bus.sealed)) channel
      (counts_on channel (this_cycle (take k w.bus.sealed)))
  goes plain k channel =
      goes_a_way w.bus.cluster w.bus.cycles w.bus.sealed head.run.recorded (row_fits w head plain) k channel

  -- a dynamic turn comes by the latest minislot, if its slot opens by it on each way
  in_time : ArePlain w.bus.sealed → (slot latest : ℕ) (window : Opportunity) (channel : Channel) → IsNext w window
      → slot_of window channel ≡ Some slot → is_static window ≡ false
      → OpensBy w.bus.cluster window.cycle channel slot latest → window.minislot ≤ latest
  in_time plain slot latest window channel next slot_is dynamic opens =
      let p = w.bus.cluster.params in
      let before = take next.place w.bus.sealed in
      let row = row_is p w.bus.cycles before window channel slot next.follows dynamic slot_is in
      let cycle = cycle_is p w.bus.cycles before window next.follows dynamic in
      subst (λ (m : ℕ). m ≤ latest) row.begins
      (opens (counts_on channel (this_cycle before))
      (subst (λ (c : ℕ). IsWay w.bus.cluster c channel (counts_on channel (this_cycle before))) (sym cycle)
      (goes plain next.place channel)) row.slot_is)

  dynamic_served : ArePlain w.bus.sealed → (n number slot : ℕ) (s : State) (window : Opportunity) (channel : Channel)
      → slice_get w.interfaces n ≡ Some s → IsTurn s number window channel slot → is_static window ≡ false
      → OpensBy w.bus.cluster window.cycle channel slot (latest_on s.plan channel) → IsServed s number window
  dynamic_served plain n number slot s window channel here turn dynamic opens before after x y cut =
      let h = handed_here s before after window x y cut _ refl in
      let next = fetched_next n s here _ _ h in
      let early = in_time plain slot (latest_on s.plan channel) window channel next turn.slot_is dynamic opens in
      serves s (legal_at w.interfaces head.legal n s here) number slot window channel turn
      (or_right (is_static window) (nat_le window.minislot (latest_on s.plan channel))
      (le-leb window.minislot (latest_on s.plan channel) early)) before after x y cut

  -- a slot that always opens has had its row, once there is no further one
  row_came : (k slot : ℕ) (channel : Channel) → slot ≤ 2047
      → AlwaysOpens w.bus.cluster (cycle_of (take k w.bus.sealed)) channel slot
      → IsWay w.bus.cluster (cycle_of (take k w.bus.sealed)) channel
      (counts_on channel (this_cycle (take k w.bus.sealed)))
      → has_row_after w.bus.cluster.params (counts_on channel (this_cycle (take k w.bus.sealed))) ≡ false
      → slot < slot_after w.bus.cluster.params (counts_on channel (this_cycle (take k w.bus.sealed)))
  row_came k slot channel most always way over =
      came w.bus.cluster.params (counts_on channel (this_cycle (take k w.bus.sealed))) slot most
      (always (counts_on channel (this_cycle (take k w.bus.sealed))) way) over

  pub guarantees : Guarantees w
  guarantees = record {
    static = λ n number slot s window channel here turn still.
        serves s (legal_at w.interfaces head.legal n s here) number slot window channel turn
        (or_left (is_static window) (nat_le window.minislot (latest_on s.plan channel)) still);
    dynamic = dynamic_served;
    ways = goes;
    opened = λ plain k slot channel most always over. row_came k slot channel most always (goes plain k channel) over;
  }
