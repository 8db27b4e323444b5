-- In a static slot of a guarded channel only the slot's sender's transmissions pass.
use Rattle.std.proofs.Common.{◌≡◌, ℕ, ◌+◌, Bool, true, false, cond, List, [], ◌∷◌, ◌++◌, length, Option, Some, None}
use Rattle.std.proofs.Common.{refl, subst}
use Rattle.std.proofs.lemmas.List.Elements.{All-nil, All-cons, All-head, All-tail, All-append, All-same, All-contains}
use Rattle.std.specs.Prelude.{◌==◌, All, Contains}
use Rattle.std.specs.List.{filter}
use Rattle.arrayvec.specs.ArrayVec.{ArrayVec}
use Rattle.fr_bus.proofs.NextLemmas.{and_left}
use Rattle.fr_bus.proofs.AscendLemmas.{and_right}
use Rattle.fr_bus.specs.declared.outcome.Sent.{Sent}
use Rattle.fr_bus.specs.declared.station.Side.{Side}
use Rattle.fr_bus.specs.Stations.{Station}
use Rattle.fr_bus.specs.Outcome.{fate_of, transmission, sent_in, sent_of, sent_from, is_passed, passed_on, all_passed}
use Rattle.fr_slots.specs.Admission.{is_channel}
use Rattle.fr_bus.specs.Record.{Recorded, IsOutcome}
use Rattle.fr_bus.specs.States.{BusState, IsRecorded, IsRun, OneSenderEach}
use Rattle.fr_guardian.proofs.AloneLemmas.{passing_sends}
use Rattle.fr_guardian.specs.Guarding.{passes}
use Rattle.fr_schedule.specs.Clusters.{IsCluster}
use Rattle.fr_schedule.specs.Descriptions.{Description, is_guarded}
use Rattle.fr_schedule.specs.SenderTable.{IsSender}
use Rattle.fr_slots.specs.declared.channel.Channel.{Channel}
use Rattle.fr_slots.specs.declared.channel.Channel.TheVariants.{A, B}
use Rattle.fr_slots.specs.History.{AllAfter}
use Rattle.fr_slots.specs.Windows.{Opportunity, slot_of, is_static}

-- the node's guardian let the transmission pass
abbrev pub IsLetPass : Description → Opportunity → Sent → Type 0
IsLetPass d w t = (channel : Channel) → passed_on channel t ≡ true → passes d t.node w channel ≡ true

fate_case : (muted pass : Bool) → is_passed (fate_of muted pass) ≡ true → pass ≡ true
fate_case true pass e = absurd (let none : ⊥ = cc in none)
fate_case false true e = refl
fate_case false false e = e

pub channel_case : (c channel : Channel) → is_channel c channel ≡ true → c ≡ channel
channel_case A A e = refl
channel_case A B e = absurd (let none : ⊥ = cc in none)
channel_case B A e = absurd (let none : ⊥ = cc in none)
channel_case B B e = refl

one_passes : (d : Description) (w : Opportunity) (node : ℕ) (c : Channel) (babble muted : Bool) (bytes : ArrayVec ℕ)
    → IsLetPass d w (record {
      node = node;
      channel = c;
      babble = babble;
      bytes = bytes;
      fate =
          fate_of muted (passes d node w c);
    })
one_passes d w node c babble muted bytes channel e =
    let passed = is_passed (fate_of muted (passes d node w c)) in
    subst (λ (other : Channel). passes d node w other ≡ true)
    (channel_case c channel (and_left (is_channel c channel) passed e))
    (fate_case muted (passes d node w c) (and_right (is_channel c channel) passed e))

in_transmission : (d : Description) (w : Opportunity) (node : ℕ) (c : Channel) (babble muted : Bool)
    (bytes : Option (ArrayVec ℕ))
    → All (IsLetPass d w) (transmission node c babble (fate_of muted (passes d node w c)) bytes)
in_transmission d w node c babble muted None = All-nil (IsLetPass d w)
in_transmission d w node c babble muted (Some bytes) = by_case (length bytes.items == 0)
  where
    by_case : (none : Bool) → All (IsLetPass d w) (cond none []
        (record { node = node; channel = c; babble = babble; bytes = bytes; fate = fate_of muted (passes d node w c) } ∷
        []))
    by_case true = All-nil (IsLetPass d w)
    by_case false = All-cons (IsLetPass d w) _ [] (one_passes d w node c babble muted bytes) (All-nil (IsLetPass d w))

in_side : (d : Description) (w : Opportunity) (node : ℕ) (c : Channel) (side : Side) (slot : Option ℕ)
    → All (IsLetPass d w) (sent_in d w node c side slot)
in_side d w node c side None = All-nil (IsLetPass d w)
in_side d w node c side (Some slot) = All-append (IsLetPass d w) _ _
    (in_transmission d w node c false side.mute side.offer) (in_transmission d w node c true false side.babble)

in_all : (d : Description) (w : Opportunity) (node : ℕ) (stations : List Station)
    → All (IsLetPass d w) (sent_from d w node stations)
in_all d w node [] = All-nil (IsLetPass d w)
in_all d w node (s ∷ ss) =
    All-append (IsLetPass d w) (sent_of d w node s) (sent_from d w (node + 1) ss)
    (All-append (IsLetPass d w) _ _ (in_side d w node A s.a (slot_of w A)) (in_side d w node B s.b (slot_of w B)))
    (in_all d w (node + 1) ss)

-- a property of all items that pass a test holds for all items that a filter by it keeps
All-kept : {X : Type 0} (test : X → Bool) (P : X → Type 0) (xs : List X) → All (λ x. test x ≡ true → P x) xs
    → All P (filter test xs)
All-kept test P [] all = All-nil P
All-kept test P (x ∷ xs) all = by_case (test x) refl (All-kept test P xs (All-tail (λ x. test x ≡ true → P x) x xs all))
  where
    by_case : (b : Bool) → test x ≡ b → All P (filter test xs) → All P (cond b (x ∷ filter test xs) (filter test xs))
    by_case true e rest = All-cons P x (filter test xs) (All-head (λ x. test x ≡ true → P x) x xs all e) rest
    by_case false e rest = rest

-- a property of each event after those before it gives a property of each event
All-each : {X : Type 0} (P : List X → X → Type 0) (Q : X → Type 0) → ((before : List X) (x : X) → P before x → Q x)
    → (before xs : List X) → AllAfter P before xs → All Q xs
unfolding AllAfter
All-each P Q weaker before [] all = All-nil Q
All-each P Q weaker before (x ∷ xs) all = All-cons Q x xs (weaker before x all.0)
    (All-each P Q weaker (before ++ x ∷ []) xs all.1)

-- if its node's guardian let each transmission pass, those that pass a guarded static slot are from its sender
pub passed_sends : (d : Description) → IsCluster d → (r : Recorded) → All (IsLetPass d r.window) r.sent
    → (channel : Channel) (slot : ℕ) (t : Sent)
    → is_static r.window ≡ true → is_guarded d.guard channel ≡ true → slot_of r.window channel ≡ Some slot
    → Contains (all_passed channel r.sent) t → IsSender d r.window.cycle slot channel t.node
passed_sends d cluster r sent channel slot t static guarded opened of_passed =
    let passed : All (λ (u : Sent). passes d u.node r.window channel ≡ true) (all_passed channel r.sent) =
    All-kept (passed_on channel) (λ (u : Sent). passes d u.node r.window channel ≡ true) r.sent
    (λ k x within. sent k x within channel) in
    passing_sends d cluster t.node slot r.window channel static guarded opened
    (All-contains (λ (u : Sent). passes d u.node r.window channel ≡ true)
    (all_passed channel r.sent) t passed of_passed)

pub one_sender : (b : BusState) → IsRun b → OneSenderEach b.cluster b.sealed
one_sender b run r channel slot t of_record static guarded opened of_passed =
    let d = b.cluster in
    let outcome : IsOutcome d r = All-contains (IsOutcome d) b.sealed r
    (All-each (IsRecorded d b.cycles) (IsOutcome d) (λ before x h. h.1) [] b.sealed run.recorded) of_record in
    let sent : All (IsLetPass d r.window) r.sent = All-same (IsLetPass d r.window) r.sent
    (sent_from d r.window 0 outcome.stations) outcome.sent_is (in_all d r.window 0 outcome.stations) in
    passed_sends d run.lawful r sent channel slot t static guarded opened of_passed
