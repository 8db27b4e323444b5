-- In a run without faults of senders the rows of each cycle are one of the schedule's ways.
use Rattle.std.proofs.Common.{◌≡◌, ℕ, zero, suc, ◌-◌, ◌%◌, ◌<◌, ◌==◌, Bool, true, false, not, cond, ◌&&◌, ◌||◌, ◌⊎◌}
use Rattle.std.proofs.Common.{inl, inr, List, [], ◌∷◌, ◌++◌, length, map, take, Option, Some, None, refl, sym, ap}
use Rattle.std.proofs.Common.{subst, ◌∙◌, arith, slice_get, get_or, is_some}
use Rattle.std.specs.Prelude.{max, nat_le, nat_lt, slice_index_or}
use Rattle.std.specs.List.{filter, fold, list_all}
use Rattle.std.proofs.lemmas.Bool.{eq-eqb, leb-true, leb-false, lt-ltb, ltb-true, not-true, or_parts}
use Rattle.std.proofs.Math.Nat.{max-eq_left, max-eq_right}
use Rattle.std.proofs.lemmas.List.{append-nil, append_assoc}
use Rattle.std.proofs.lemmas.Option.{slice_get-get_or}
use Rattle.arrayvec.specs.ArrayVec.{ArrayVec}
use Rattle.fr_bus.proofs.CourseLemmas.{fold_more, counts_more}
use Rattle.fr_bus.specs.declared.outcome.Sent.{Sent}
use Rattle.fr_bus.specs.declared.outcome.SentFate.{SentFate}
use Rattle.fr_bus.specs.Outcome.{transmission, sent_in, is_of, passed_on, longest, fate_of, is_passed}
use Rattle.fr_bus.specs.Record.{Recorded, IsOutcome, offer_in, side_on}
use Rattle.fr_bus.specs.States.{IsRecorded, idle_station}
use Rattle.fr_bus.specs.Windows.{begins_cycle, cycles_begun, with_window, this_cycle, is_row_of, counts_on}
use Rattle.fr_core.proofs.CaseLemmas.{both_first, both_rest, both, differ}
use Rattle.fr_core.proofs.FollowLemmas.{world_follows, world_configured, legal_at}
use Rattle.fr_core.proofs.HandingLemmas.{fetch_of, bytes_on}
use Rattle.fr_core.proofs.JudgedLemmas.{recorded_at}
use Rattle.fr_core.proofs.OwnLemmas.{own_from}
use Rattle.fr_core.proofs.ReceiverLemmas.{handed_is_offered}
use Rattle.fr_core.proofs.SentLemmas.{of_all}
use Rattle.fr_core.proofs.TimingLemmas.{count_more}
use Rattle.fr_core.specs.Accounts.{own}
use Rattle.fr_core.specs.Agreeing.{Handed, fetched, offers_of}
use Rattle.fr_core.specs.Headline.{Headline}
use Rattle.fr_core.specs.Receivers.{is_muted}
use Rattle.fr_core.specs.Worlds.{no_interface, WorldState}
use Rattle.fr_guarantees.proofs.NextRowLemmas.{row_is, cycle_is}
use Rattle.fr_guarantees.proofs.OfferLemmas.{can_send}
use Rattle.fr_guarantees.specs.Guarantees.{cycle_of, is_plain, ArePlain}
use Rattle.fr_guarantees.specs.Ways.{CanSend, IsRow, IsWay}
use Rattle.fr_guardian.specs.Guarding.{passes}
use Rattle.fr_interface.specs.State.{State}
use Rattle.fr_journal.specs.Forms.{Entry}
use Rattle.fr_minislot.specs.DynamicRows.{first_minislot, slot_after}
use Rattle.fr_schedule.specs.Descriptions.{Description}
use Rattle.fr_slots.proofs.HistoryLemmas.{AllAfter-snoc}
use Rattle.fr_slots.proofs.PlaceLemmas.{IsAmong, same_some, get-append, map-get}
use Rattle.fr_slots.specs.Admission.{is_channel}
use Rattle.fr_slots.specs.declared.channel.Channel.{Channel}
use Rattle.fr_slots.specs.declared.channel.Channel.TheVariants.{A, B}
use Rattle.fr_slots.specs.History.{AllAfter}
use Rattle.fr_slots.specs.Windows.{is_first_slot, Opportunity, slot_of, is_static}

-- ---- lists

pub all_at : {X : Type 0} (test : X → Bool) (xs : List X) (k : ℕ) (x : X) → list_all test xs ≡ true
    → slice_get xs k ≡ Some x → test x ≡ true
all_at test [] k x all at = absurd (let none : ⊥ = cc in none)
all_at test (y ∷ xs) zero x all at = ap test (sym (same_some y x at)) ∙ both_first (test y) (list_all test xs) all
all_at test (y ∷ xs) (suc k) x all at = all_at test xs k x (both_rest (test y) (list_all test xs) all) at

pub filter_has : {X : Type 0} (test : X → Bool) (xs : List X) (k : ℕ) (x : X) → slice_get xs k ≡ Some x → test x ≡ true
    → IsAmong (filter test xs) x
filter_has test [] k x at passes = absurd (let none : ⊥ = cc in none)
filter_has test (y ∷ xs) zero x at passes =
    let here : test y ≡ true = ap test (same_some y x at) ∙ passes in
    record { place = 0; at = ap (λ (b : Bool). slice_get (cond b (y ∷ filter test xs) (filter test xs)) 0) here ∙ at }
filter_has test (y ∷ xs) (suc k) x at passes = by (test y) (filter_has test xs k x at passes)
  where
    by : (b : Bool) → IsAmong (filter test xs) x → IsAmong (cond b (y ∷ filter test xs) (filter test xs)) x
    by true rest = record { place = suc rest.place; at = rest.at }
    by false rest = rest

module _ {X : Type 0} (P : ℕ → Type 0) (size : X → ℕ) (test : X → Bool) where
  greater : (m n : ℕ) → P m → P n → P (max m n)
  greater m n p q = by (nat_le m n) refl
    where
      by : (b : Bool) → nat_le m n ≡ b → P (max m n)
      by true e = subst P (sym (max-eq_right (leb-true m n e))) q
      by false e = subst P (sym (max-eq_left (let below = leb-false m n e in omega (arith, below)))) p

  -- a property of the sizes of all items that pass, and of this number, is one of the greatest of them
  most_is : (most : ℕ) → P most → (xs : List X)
      → ((k : ℕ) (x : X) → slice_get xs k ≡ Some x → test x ≡ true → P (size x))
      → P (fold max most (map size (filter test xs)))
  most_is most p [] each = p
  most_is most p (x ∷ xs) each = by (test x) refl
      (λ more q. most_is more q xs (λ k y at through. each (suc k) y at through))
    where
      by : (b : Bool) → test x ≡ b
          → ((more : ℕ) → P more → P (fold max more (map size (filter test xs))))
          → P (fold max most (map size (cond b (x ∷ filter test xs) (filter test xs))))
      by true e rest = rest (max most (size x)) (greater most (size x) p (each 0 x refl e))
      by false e rest = rest most p

-- ---- the offer of a node

-- a node's transmissions contain its offer
pub offer_of_own : (channel : Channel) (n : ℕ) (xs : List Sent) → offer_in channel n xs ≡ offer_in channel n
    (own channel n xs)
offer_of_own channel n [] = refl
offer_of_own channel n (t ∷ xs) = by (is_of n t && is_channel t.channel channel) refl (offer_of_own channel n xs)
  where
    by : (b : Bool) → (is_of n t && is_channel t.channel channel) ≡ b
        → offer_in channel n xs ≡ offer_in channel n (own channel n xs)
        → cond (b && not t.babble) (Some t.bytes) (offer_in channel n xs)
        ≡ offer_in channel n (cond b (t ∷ own channel n xs) (own channel n xs))
    by true e rest = ap (λ (b : Bool). cond (b && not t.babble) (Some t.bytes) (offer_in channel n xs)) (sym e)
        ∙ ap (cond ((is_of n t && is_channel t.channel channel) && not t.babble) (Some t.bytes)) rest
    by false e rest = rest

-- what a node sends on a channel without babbling is its offer
pub offered_alone : (n : ℕ) (channel : Channel) (fate other : SentFate) (offer babble : Option (ArrayVec ℕ)) (k : ℕ)
    (t : Sent) → slice_get (transmission n channel false fate offer ++ transmission n channel true other babble) k
    ≡ Some t
    → t.babble ≡ false
    → offer_in channel n (transmission n channel false fate offer ++ transmission n channel true other babble)
    ≡ Some t.bytes
offered_alone n channel fate other offer babble k t at silent = by_offer offer at
  where
    babbles : (bs : Option (ArrayVec ℕ)) (j : ℕ) → slice_get (transmission n channel true other bs) j ≡ Some t → ⊥
    babbles None j here = let none : ⊥ = cc in none
    babbles (Some bytes) j here = by (length bytes.items == 0) j here
      where
        by : (b : Bool) (i : ℕ)
            → slice_get (cond b []
            (record { node = n; channel = channel; babble = true; bytes = bytes; fate = other } ∷ []))
            i ≡ Some t → ⊥
        by true i e = let none : ⊥ = cc in none
        by false zero e = differ (ap (λ (s : Sent). s.babble) (sym (same_some _ t e))) silent
        by false (suc i) e = let none : ⊥ = cc in none

    by_offer : (o : Option (ArrayVec ℕ))
        → slice_get (transmission n channel false fate o ++ transmission n channel true other babble) k ≡ Some t
        → offer_in channel n (transmission n channel false fate o ++ transmission n channel true other babble)
        ≡ Some t.bytes
    by_offer None here = absurd (babbles babble k here)
    by_offer (Some bytes) here = by (length bytes.items == 0) k here
      where
        mine : Sent
        mine = record { node = n; channel = channel; babble = false; bytes = bytes; fate = fate }

        found : offer_in channel n (mine ∷ transmission n channel true other babble) ≡ Some bytes
        found = ap (λ (b : Bool). cond (b && is_channel channel channel && true) (Some bytes)
            (offer_in channel n (transmission n channel true other babble))) (eq-eqb n n refl)
            ∙ on_channel channel
          where
            on_channel : (c : Channel) → cond (true && is_channel c c && true) (Some bytes)
                (offer_in channel n (transmission n channel true other babble)) ≡ Some bytes
            on_channel A = refl
            on_channel B = refl

        by : (b : Bool) (i : ℕ)
            → slice_get (cond b [] (mine ∷ []) ++ transmission n channel true other babble) i ≡ Some t
            → offer_in channel n (cond b [] (mine ∷ []) ++ transmission n channel true other babble) ≡ Some t.bytes
        by true i e = absurd (babbles babble i e)
        by false zero e = found ∙ ap (λ (s : Sent). Some s.bytes) (same_some mine t e)
        by false (suc i) e = absurd (babbles babble i e)

-- ---- the transmissions of a window

-- the outcome of a window of a world
abbrev pub outcome_at : (w : WorldState) → Headline w → (k : ℕ) (r : Recorded) → slice_get w.bus.sealed k ≡ Some r
    → IsOutcome w.bus.cluster r
outcome_at w head k r at = (recorded_at w.bus.cluster w.bus.cycles w.bus.sealed k r head.run.recorded at).1

-- the state of the node of a transmission, and its offer
pub record IsSentBy (interfaces : List State) (channel : Channel) (r : Recorded) (t : Sent) : Type 0 where
  pub state : State
  pub here : slice_get interfaces t.node ≡ Some state
  pub offer : offer_in channel t.node r.sent ≡ Some t.bytes

module _ (w : WorldState) (head : Headline w) (k : ℕ) (r : Recorded) (at : slice_get w.bus.sealed k ≡ Some r) where
  -- each transmission is of a node of the cluster
  pub node_known : (i : ℕ) (t : Sent) → slice_get r.sent i ≡ Some t
      → t.node < length (outcome_at w head k r at).stations
  node_known i t there =
      let o : IsOutcome w.bus.cluster r = outcome_at w head k r at in
      let count = length o.stations in
      let known : list_all (λ (u : Sent). nat_lt u.node count) r.sent ≡ true =
      ap (list_all (λ (u : Sent). nat_lt u.node count)) o.sent_is
      ∙ of_all w.bus.cluster r.window (λ (u : Sent). nat_lt u.node count) count
      (λ node channel babble muted bytes within. lt-ltb node count within) 0 o.stations (omega arith) in
      ltb-true t.node count (all_at (λ (u : Sent). nat_lt u.node count) r.sent i t known there)

  pub own_are : (channel : Channel) (i : ℕ) (t : Sent) → slice_get r.sent i ≡ Some t
      → own channel t.node r.sent ≡ sent_in w.bus.cluster r.window t.node channel
      (side_on channel (slice_index_or (outcome_at w head k r at).stations t.node idle_station))
      (slot_of r.window channel)
  own_are channel i t there =
      let o : IsOutcome w.bus.cluster r = outcome_at w head k r at in
      ap (own channel t.node) o.sent_is
      ∙ own_from w.bus.cluster r.window channel t.node 0 t.node o.stations (omega arith) (node_known i t there)

  -- what passed without a babble is the offer of its node
  pub offered_by : (channel : Channel) (slot : ℕ) → slot_of r.window channel ≡ Some slot → (i : ℕ) (t : Sent)
      → slice_get r.sent i ≡ Some t → passed_on channel t ≡ true → t.babble ≡ false
      → IsSentBy w.interfaces channel r t
  offered_by channel slot slot_is i t there through silent =
      let o : IsOutcome w.bus.cluster r = outcome_at w head k r at in
      let side = side_on channel (slice_index_or o.stations t.node idle_station) in
      let mine = own_are channel i t there ∙ ap (sent_in w.bus.cluster r.window t.node channel side) slot_is in
      let among = filter_has (λ (u : Sent). is_of t.node u && is_channel u.channel channel) r.sent i t there
      (both (is_of t.node t) (is_channel t.channel channel) (eq-eqb t.node t.node refl)
      (both_first (is_channel t.channel channel) (is_passed t.fate) through)) in
      let alone = offered_alone t.node channel (fate_of side.mute (passes_of t.node)) (fate_of false (passes_of t.node))
      side.offer side.babble among.place t
      (ap (λ (l : List Sent). slice_get l among.place) (sym mine) ∙ among.at) silent in
      let within : t.node < length o.stations = node_known i t there in
      let as_many : length w.interfaces ≡ length w.bus.cluster.plans =
      head.agrees.agrees.a_station_each ∙ head.run.one_each in
      let inside : t.node < length w.interfaces = omega (arith, within, as_many, o.one_each) in
      record {
        state = get_or w.interfaces t.node no_interface;
        here = slice_get-get_or w.interfaces t.node no_interface inside;
        offer = offer_of_own channel t.node r.sent ∙ ap (offer_in channel t.node) mine ∙ alone;
      }
    where
      passes_of : ℕ → Bool
      passes_of node = passes w.bus.cluster node r.window channel

-- ---- the rows of a window

-- in the window the row of the slot is silent, or as long as a frame that can be sent there
abbrev pub FitsRow : Description → Recorded → Type 0
FitsRow d r = (channel : Channel) (slot : ℕ) → is_static r.window ≡ false → slot_of r.window channel ≡ Some slot
    → (longest channel r.sent ≡ 0)
    ⊎ CanSend d r.window.cycle slot channel r.window.minislot (longest channel r.sent)

module _ (w : WorldState) (head : Headline w) where
  -- the frame that a node handed to the bus can be sent there
  handed_fits : (n k : ℕ) (s : State) (r : Recorded) (channel : Channel) (slot : ℕ) (bytes : ArrayVec ℕ)
      → slice_get w.interfaces n ≡ Some s → slice_get w.bus.sealed k ≡ Some r → is_static r.window ≡ false
      → slot_of r.window channel ≡ Some slot → offer_in channel n r.sent ≡ Some bytes
      → CanSend w.bus.cluster r.window.cycle slot channel r.window.minislot (length bytes.items)
  handed_fits n k s r channel slot bytes here at dynamic slot_is offer =
      let follows = world_follows w head.agrees n s here in
      let configured = world_configured w head.agrees n s here in
      let there : slice_get (fetched s) k ≡ Some (offers_of n r) =
      ap (λ (l : List Handed). slice_get l k) follows.fetches
      ∙ get-append (map (offers_of n) w.bus.sealed) follows.under_way k (offers_of n r)
      (map-get (offers_of n) w.bus.sealed k r at) in
      let c = fetch_of s k (offers_of n r) there in
      let window : c.holds.window ≡ r.window = ap (λ (h : Handed). h.window) c.holds.handed_is in
      subst (λ (o : Opportunity). CanSend w.bus.cluster o.cycle slot channel o.minislot (length bytes.items)) window
      (can_send w.bus.cluster n s (legal_at w.interfaces head.legal n s here) configured.params_are configured.plan_at
      c.inner c.after c.holds.window c.holds.a c.holds.b
      (c.cut ∙ ap (λ (e : Entry). c.inner ++ e ∷ c.after) c.holds.entry_is)
      (ap (λ (o : Opportunity). is_static o) window ∙ dynamic) channel slot
      (ap (λ (o : Opportunity). slot_of o channel) window ∙ slot_is) bytes
      (bytes_on s c.inner c.here (offers_of n r) channel c.holds ∙ handed_is_offered n r channel ∙ offer))

  pub row_fits : ArePlain w.bus.sealed → (k : ℕ) (r : Recorded) → slice_get w.bus.sealed k ≡ Some r
      → FitsRow w.bus.cluster r
  row_fits plain k r at channel slot dynamic slot_is =
      most_is (λ m. (m ≡ 0) ⊎ CanSend w.bus.cluster r.window.cycle slot channel r.window.minislot m)
      (λ (t : Sent). length t.bytes.items) (passed_on channel) 0 (inl refl) r.sent
      (λ i t there through. inr (sent_fits i t there through))
    where
      sent_fits : (i : ℕ) (t : Sent) → slice_get r.sent i ≡ Some t → passed_on channel t ≡ true
          → CanSend w.bus.cluster r.window.cycle slot channel r.window.minislot (length t.bytes.items)
      sent_fits i t there through =
          let silent = or_parts t.babble (is_muted t.fate) (not-true (t.babble || is_muted t.fate)
          (all_at is_plain r.sent i t (plain k r at) there)) in
          let by = offered_by w head k r at channel slot slot_is i t there through silent.0 in
          handed_fits t.node k by.state r channel slot t.bytes by.here at dynamic slot_is by.offer

-- ---- one more window

-- the rows of the cycle that began last are one of the ways
abbrev pub GoesAWay : Description → List Recorded → Type 0
GoesAWay d rs = (channel : Channel) → IsWay d (cycle_of rs) channel (counts_on channel (this_cycle rs))

record IsSlotOf (o : Option ℕ) : Type 0 where
  slot : ℕ
  is : o ≡ Some slot

slot_there : (o : Option ℕ) → is_some o ≡ true → IsSlotOf o
slot_there None e = absurd (let none : ⊥ = cc in none)
slot_there (Some slot) e = record { slot = slot; is = refl }

module _ (d : Description) (cycles : ℕ) where
  no_rows : (cycle : ℕ) (channel : Channel) → IsWay d cycle channel []
  unfolding AllAfter
  no_rows cycle channel = tt

  -- the first window of a cycle
  goes_first : (before : List Recorded) (r : Recorded) → begins_cycle r ≡ true → GoesAWay d (before ++ r ∷ [])
  goes_first before r e channel =
      let still = both_first (is_static r.window) (is_first_slot r.window.a) e in
      let cycle : this_cycle (before ++ r ∷ []) ≡ r ∷ [] = fold_more with_window [] before r
      ∙ ap (λ (b : Bool). cond b (r ∷ []) (this_cycle before ++ r ∷ [])) e in
      let none : counts_on channel (r ∷ []) ≡ [] = counts_more channel [] r false
      (ap (λ (b : Bool). not b && is_some (slot_of r.window channel)) still) in
      subst (IsWay d (cycle_of (before ++ r ∷ [])) channel) (sym (ap (counts_on channel) cycle ∙ none))
      (no_rows (cycle_of (before ++ r ∷ [])) channel)

  -- the row of a window
  adds_row : (before : List Recorded) (r : Recorded) (channel : Channel) → IsRecorded d cycles before r → FitsRow d r
      → is_row_of channel r ≡ true
      → IsRow d (cycle_of before) channel (counts_on channel (this_cycle before)) (longest channel r.sent)
  adds_row before r channel follows fits e =
      let dynamic = not-true (is_static r.window) (both_first (not (is_static r.window))
      (is_some (slot_of r.window channel)) e) in
      let s = slot_there (slot_of r.window channel) (both_rest (not (is_static r.window))
      (is_some (slot_of r.window channel)) e) in
      let row = row_is d.params cycles before r.window channel s.slot follows.0 dynamic s.is in
      let cycle = cycle_is d.params cycles before r.window follows.0 dynamic in (
        row.exists,
        either (fits channel s.slot dynamic s.is) (λ can. subst
            (λ (c : ℕ). CanSend d c (slot_after d.params (counts_on channel (this_cycle before))) channel
            (first_minislot d.params (counts_on channel (this_cycle before))) (longest channel r.sent)) cycle
            (subst (λ (k : ℕ). CanSend d r.window.cycle k channel
            (first_minislot d.params (counts_on channel (this_cycle before))) (longest channel r.sent))
            (sym row.slot_is)
            (subst (λ (m : ℕ). CanSend d r.window.cycle s.slot channel m (longest channel r.sent))
            (sym row.begins) can))),
      )
    where
      either : {X Y Z : Type 0} → X ⊎ Y → (Y → Z) → X ⊎ Z
      either (inl x) f = inl x
      either (inr y) f = inr (f y)

  -- any other window
  goes_on : (before : List Recorded) (r : Recorded) → begins_cycle r ≡ false → GoesAWay d before
      → IsRecorded d cycles before r → FitsRow d r → GoesAWay d (before ++ r ∷ [])
  goes_on before r e goes follows fits channel =
      let cycle : this_cycle (before ++ r ∷ []) ≡ this_cycle before ++ r ∷ [] = fold_more with_window [] before r
      ∙ ap (λ (b : Bool). cond b (r ∷ []) (this_cycle before ++ r ∷ [])) e in
      let one : cond {A = ℕ} (begins_cycle r) 1 0 ≡ 0 = ap (λ (b : Bool). cond {A = ℕ} b 1 0) e in
      let begun : cycles_begun (before ++ r ∷ []) ≡ cycles_begun before =
      omega (arith, count_more begins_cycle before r, one) in
      subst (λ (n : ℕ). IsWay d ((n - 1) % 64) channel (counts_on channel (this_cycle (before ++ r ∷ [])))) (sym begun)
      (subst (λ (l : List Recorded). IsWay d (cycle_of before) channel (counts_on channel l)) (sym cycle)
      (by_row (is_row_of channel r) refl))
    where
      by_row : (b : Bool) → is_row_of channel r ≡ b
          → IsWay d (cycle_of before) channel (counts_on channel (this_cycle before ++ r ∷ []))
      by_row true is = subst (IsWay d (cycle_of before) channel)
          (sym (counts_more channel (this_cycle before) r true is))
          (AllAfter-snoc (IsRow d (cycle_of before) channel) (counts_on channel (this_cycle before))
          (longest channel r.sent) (goes channel) (adds_row before r channel follows fits is))
      by_row false is = subst (IsWay d (cycle_of before) channel)
          (sym (counts_more channel (this_cycle before) r false is
          ∙ append-nil (counts_on channel (this_cycle before)))) (goes channel)

  goes_more : (before : List Recorded) (r : Recorded) → GoesAWay d before → IsRecorded d cycles before r → FitsRow d r
      → GoesAWay d (before ++ r ∷ [])
  goes_more before r goes follows fits = by (begins_cycle r) refl
    where
      by : (b : Bool) → begins_cycle r ≡ b → GoesAWay d (before ++ r ∷ [])
      by true e = goes_first before r e
      by false e = goes_on before r e goes follows fits

  goes_from : (before rest : List Recorded) → GoesAWay d before → AllAfter (IsRecorded d cycles) before rest
      → ((k : ℕ) (r : Recorded) → slice_get rest k ≡ Some r → FitsRow d r) → (k : ℕ)
      → GoesAWay d (before ++ take k rest)
  unfolding AllAfter
  goes_from before rest goes all fits zero = subst (GoesAWay d) (sym (append-nil before)) goes
  goes_from before [] goes all fits (suc k) = subst (GoesAWay d) (sym (append-nil before)) goes
  goes_from before (r ∷ rest) goes all fits (suc k) =
      subst (GoesAWay d) (append_assoc before (r ∷ []) (take k rest))
      (goes_from (before ++ r ∷ []) rest (goes_more before r goes all.0 (fits 0 r refl)) all.1
      (λ j s at. fits (suc j) s at) k)

  -- after each number of windows
  pub goes_a_way : (rs : List Recorded) → AllAfter (IsRecorded d cycles) [] rs
      → ((k : ℕ) (r : Recorded) → slice_get rs k ≡ Some r → FitsRow d r) → (k : ℕ) → GoesAWay d (take k rs)
  goes_a_way rs all fits k = goes_from [] rs (no_rows (cycle_of [])) all fits k
