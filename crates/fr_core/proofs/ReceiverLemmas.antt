-- Frames that receivers hold from a fault-free slot are commits of its owner, by the lists of the interfaces alone.
use Rattle.std.proofs.Common.{◌≡◌, ℕ, true, List, [], ◌∷◌, ◌++◌, length, map, take, Option, Some}
use Rattle.std.proofs.Common.{None, refl, sym, ap, ◌∙◌, inl, inr, slice_get, option_map}
use Rattle.std.specs.Prelude.{option_to_list}
use Rattle.std.specs.Option.{option_and_then}
use Rattle.arrayvec.specs.ArrayVec.{ArrayVec}
use Rattle.fr_bus.specs.Record.{Recorded, offer_in, seen_by}
use Rattle.fr_slots.proofs.PlaceLemmas.{same_some, get-append, get-after, get-map, map-get, each_after-cut}
use Rattle.fr_core.proofs.CaseLemmas.{kept, kept_if}
use Rattle.fr_core.specs.Agreeing.{Handed, Sight, fetched, sight_of, sight_at, observed, offers_of, sights_of, Follows}
use Rattle.fr_core.proofs.JudgedLemmas.{AreJudged}
use Rattle.fr_core.specs.Receivers.{IsFaultlessAt, Holds, HandsOver, IsReceived, Receivers}
use Rattle.fr_core.proofs.HandingLemmas.{handed_on, hands_over}
use Rattle.fr_core.proofs.LoneLemmas.{seen_offer}
use Rattle.fr_journal.proofs.SeenPlaceLemmas.{IsSeenBy, IsSeenIn, held_is_seen, queued_is_seen}
use Rattle.fr_frame.specs.Decoding.{decoded}
use Rattle.fr_frame.specs.Fields.{Fields}
use Rattle.fr_guardian.specs.Guarding.{passes}
use Rattle.fr_guardian.proofs.AloneLemmas.{passes_alone, owner_passes}
use Rattle.fr_interface.specs.State.{State, IsLegalInterface, received_in}
use Rattle.fr_journal.specs.Counts.{seen_on}
use Rattle.fr_journal.specs.declared.entry.Arrival.{Arrival}
use Rattle.fr_journal.specs.Forms.{Entry}
use Rattle.fr_journal.specs.declared.entry.Entry.TheVariants.{Observe}
use Rattle.fr_journal.specs.Held.{with_data, held}
use Rattle.fr_slots.specs.Plans.{buffer_at, is_receive}
use Rattle.fr_journal.specs.OpenWindow.{open_window}
use Rattle.fr_schedule.specs.Clusters.{IsCluster}
use Rattle.fr_schedule.specs.Descriptions.{Description}
use Rattle.fr_slots.specs.declared.channel.Channel.{Channel}
use Rattle.fr_slots.specs.declared.channel.Channel.TheVariants.{A, B}
use Rattle.fr_slots.specs.declared.plan.Buffer.{Buffer}
use Rattle.fr_slots.specs.History.{each_after}
use Rattle.fr_slots.specs.Parameters.{Parameters}
use Rattle.fr_slots.specs.Windows.{Opportunity, slot_of}
use Rattle.fr_status.specs.Forms.{Seen}
use Rattle.fr_status.specs.declared.seen.Seen.TheVariants.{Silence, Own, Conflict, Noise, Overrun, Bytes}
use Rattle.fr_status.specs.Status.{passes as fits_slot, passed, frame_in}

-- ---- a data frame was observed as bytes

-- these bytes were observed, and are the frame's
pub record IsSpelledBy (channel : Channel) (seen : Seen) (f : Fields) : Type 0 where
  pub bytes : ArrayVec ℕ
  pub seen_is : seen ≡ Bytes bytes
  pub decodes : decoded channel bytes.items ≡ Some f

passed_is : (p : Parameters) (cycle slot : ℕ) (o : Option Fields) (f : Fields) → passed p cycle slot o ≡ Some f
    → o ≡ Some f
passed_is p cycle slot None f e = e
passed_is p cycle slot (Some g) f e = kept (fits_slot p cycle slot g) (Some g) f e

spelled : (p : Parameters) (cycle slot : ℕ) (channel : Channel) (seen : Seen) (f : Fields)
    → frame_in p cycle slot channel seen ≡ Some f → IsSpelledBy channel seen f
unfolding frame_in
spelled p cycle slot channel Silence f e = absurd (let none : ⊥ = cc in none)
spelled p cycle slot channel Own f e = absurd (let none : ⊥ = cc in none)
spelled p cycle slot channel Conflict f e = absurd (let none : ⊥ = cc in none)
spelled p cycle slot channel Noise f e = absurd (let none : ⊥ = cc in none)
spelled p cycle slot channel Overrun f e = absurd (let none : ⊥ = cc in none)
spelled p cycle slot channel (Bytes bytes) f e = record {
  bytes = bytes;
  seen_is = refl;
  decodes =
      passed_is p cycle slot (decoded channel bytes.items) f e;
}

spelled_at : (p : Parameters) (cycle : ℕ) (channel : Channel) (seen : Seen) (f : Fields) (slot : Option ℕ)
    → option_and_then (λ s. frame_in p cycle s channel seen) slot ≡ Some f → IsSpelledBy channel seen f
spelled_at p cycle channel seen f None e = absurd (let none : ⊥ = cc in none)
spelled_at p cycle channel seen f (Some slot) e = spelled p cycle slot channel seen f e

with_data_is : (o : Option Fields) (f : Fields) → option_and_then with_data o ≡ Some f
    → (o ≡ Some f) × (f.has_data ≡ true)
with_data_is None f e = absurd (let none : ⊥ = cc in none)
with_data_is (Some g) f e =
    let same : g ≡ f = same_some g f (kept g.has_data (Some g) f e) in
    (ap Some same, ap (λ (x : Fields). x.has_data) (sym same) ∙ kept_if g.has_data (Some g) f e)

-- ---- an observation of the journal

take-after : {X : Type 0} (xs ys : List X) → take (length xs) (xs ++ ys) ≡ xs
take-after [] ys = refl
take-after (x ∷ xs) ys = ap (λ (l : List _). x ∷ l) (take-after xs ys)

-- an observe after these entries is among the observations, at this place
sight_here : (entries before after : List Entry) (number : ℕ) (x y : Seen) (w : Opportunity)
    → entries ≡ before ++ Observe number x y ∷ after → open_window before ≡ Some w
    → slice_get (each_after sight_at [] entries) (length (each_after sight_at [] before)) ≡ Some (sight_of x y w)
sight_here entries before after number x y w cut opened =
    let earlier = each_after sight_at [] before in
    let later = each_after sight_at (before ++ Observe number x y ∷ []) after in
    ap (λ (l : List Sight). slice_get l (length earlier)) (
    ap (λ (l : List Entry). each_after sight_at [] l) cut
    ∙ each_after-cut sight_at [] before (Observe number x y) after
    ∙ ap (λ (o : Option Opportunity). earlier ++ (option_to_list (option_map (sight_of x y) o) ++ later)) opened
    )
    ∙ get-after earlier later (sight_of x y w)

seen_there : (p : Parameters) (n : ℕ) (r : Recorded) (x y : Seen) (w : Opportunity) (channel : Channel)
    → sights_of p n r ≡ sight_of x y w → seen_by p r channel n ≡ seen_on channel x y
seen_there p n r x y w A e = ap (λ (s : Sight). s.a) e
seen_there p n r x y w B e = ap (λ (s : Sight). s.b) e

-- ---- the recorded window

-- the record has the window, with the node's observation in it
record IsRecordedSight (p : Parameters) (rs : List Recorded) (n : ℕ) (x y : Seen) (w : Opportunity) : Type 0 where
  place : ℕ
  recorded : Recorded
  at : slice_get rs place ≡ Some recorded
  value : sights_of p n recorded ≡ sight_of x y w

-- the observation of an observe is the one that the record has of the window
sight_is_recorded : (p : Parameters) (rs : List Recorded) (n : ℕ) (mine : State) → Follows p rs n mine
    → (before after : List Entry) (number : ℕ) (x y : Seen) (w : Opportunity)
    → mine.entries ≡ before ++ Observe number x y ∷ after → open_window before ≡ Some w
    → IsRecordedSight p rs n x y w
sight_is_recorded p rs n mine follows before after number x y w cut opened =
    let place = length (each_after sight_at [] before) in
    let there : slice_get (observed mine) place ≡ Some (sight_of x y w) =
    sight_here mine.entries before after number x y w cut opened in
    let mapped : slice_get (map (sights_of p n) rs) place ≡ Some (sight_of x y w) =
    ap (λ (l : List Sight). slice_get l place) (sym follows.sees) ∙ get-append (observed mine) follows.unseen place
    (sight_of x y w) there in
    let m = get-map (sights_of p n) rs place (sight_of x y w) mapped in
    record { place = place; recorded = m.source; at = m.at; value = m.value }

-- ---- the owner

-- the owner's transmissions pass in a fault-free slot
owner_is_let : (d : Description) (r : Recorded) (channel : Channel) (owner : ℕ) → IsFaultlessAt d r channel owner
    → passes d owner r.window channel ≡ true
owner_is_let d r channel owner f = owner_passes d owner r.window channel f.owned.plan f.slot f.owned.at f.slot_is
    f.owned.owns

pub handed_is_offered : (owner : ℕ) (r : Recorded) (channel : Channel)
    → handed_on channel (offers_of owner r) ≡ offer_in channel owner r.sent
handed_is_offered owner r A = refl
handed_is_offered owner r B = refl

-- a data frame that a node observed in a fault-free slot is one that the owner handed to the bus
from_owner : (d : Description) (rs : List Recorded) (n owner k : ℕ) (theirs : State) (r : Recorded) (channel : Channel)
    (bytes : ArrayVec ℕ) (f : Fields)
    → IsCluster d → AreJudged d rs → IsLegalInterface theirs → Follows d.params rs owner theirs
    → slice_get rs k ≡ Some r → IsFaultlessAt d r channel owner
    → seen_by d.params r channel n ≡ Bytes bytes → decoded channel bytes.items ≡ Some f → f.has_data ≡ true
    → HandsOver theirs r.window channel f
from_owner d rs n owner k theirs r channel bytes f cluster judged lawful follows at faultless seen decodes has_data =
    let passing : passes d owner r.window channel ≡ true = owner_is_let d r channel owner faultless in
    let offer : offer_in channel owner r.sent ≡ Some bytes =
    seen_offer d r.window channel owner passing (passes_alone d cluster owner r.window channel passing faultless.static
    faultless.guarded)
    d.params n r bytes (judged k r at) faultless.clean faultless.whole seen in
    let there : slice_get (fetched theirs) k ≡ Some (offers_of owner r) =
    ap (λ (l : List Handed). slice_get l k) follows.fetches ∙ get-append (map (offers_of owner) rs) follows.under_way k
    (offers_of owner r) (map-get (offers_of owner) rs k r at) in
    hands_over theirs k (offers_of owner r) channel bytes f lawful there
    (handed_is_offered owner r channel ∙ offer) decodes has_data

-- ---- held frames

held_in : (s : State) (b : Option Buffer) (a : Arrival) → option_and_then (received_in s) b ≡ Some a
    → IsSeenIn s.params s.entries a
held_in s None a e = absurd (let none : ⊥ = cc in none)
held_in s (Some b) a e = held_is_seen s.params b.filter s.entries a
    (kept (is_receive b.mode) (held s.params b.filter s.entries) a e)

pub holds_is_seen : (s : State) (a : Arrival) → Holds s a → IsSeenIn s.params s.entries a
holds_is_seen s a (inl h) = held_in s (buffer_at s.plan h.0) a h.1
holds_is_seen s a (inr h) = queued_is_seen s.params s.plan h.0 (h.0).capacity h.1 s.entries a h.3

-- an observed frame is in a recorded window, and if its slot was fault-free there, it is the owner's
received_from : (d : Description) (interfaces : List State) (rs : List Recorded) (n : ℕ) (mine : State) (a : Arrival)
    → IsCluster d → AreJudged d rs
    → ((k : ℕ) (s : State) → slice_get interfaces k ≡ Some s → IsLegalInterface s)
    → ((k : ℕ) (s : State) → slice_get interfaces k ≡ Some s → Follows d.params rs k s)
    → Follows d.params rs n mine
    → (before after : List Entry) (e : Entry) → mine.entries ≡ before ++ e ∷ after → IsSeenBy mine.params before e a
    → take a.origin.entry mine.entries ≡ before
    → IsReceived d interfaces rs mine a
received_from d interfaces rs n mine a cluster judged lawful follow follows before after e cut s front =
    let frame = with_data_is _ a.frame s.brought.frame_is in
    let b = spelled_at mine.params s.window.cycle a.origin.channel (seen_on a.origin.channel s.x s.y) a.frame
    (slot_of s.window a.origin.channel) frame.0 in
    let found = sight_is_recorded d.params rs n mine follows before after s.number s.x s.y s.window
    (cut ∙ ap (λ (x : Entry). before ++ x ∷ after) s.entry_is) s.opened in
    let window : s.window ≡ found.recorded.window = sym (ap (λ (x : Sight). x.window) found.value) in
    let seen : seen_by d.params found.recorded a.origin.channel n ≡ Bytes b.bytes =
    seen_there d.params n found.recorded s.x s.y s.window a.origin.channel found.value ∙ b.seen_is in
    record {
      place = found.place;
      recorded = found.recorded;
      recorded_at = found.at;
      seen_in = ap open_window front ∙ s.opened ∙ ap (λ (w : Opportunity). Some w) window;
      of_owner = λ owner theirs theirs_at faultless.
          from_owner d rs n owner found.place theirs found.recorded a.origin.channel b.bytes a.frame cluster judged
          (lawful owner theirs theirs_at) (follow owner theirs theirs_at)
          found.at faultless seen b.decodes frame.1;
    }

-- the receivers' clause, for a cluster, interfaces whose lists follow a record, and that record
pub receivers : (d : Description) (interfaces : List State) (rs : List Recorded) → IsCluster d → AreJudged d rs
    → ((n : ℕ) (s : State) → slice_get interfaces n ≡ Some s → IsLegalInterface s)
    → ((n : ℕ) (s : State) → slice_get interfaces n ≡ Some s → Follows d.params rs n s)
    → Receivers d interfaces rs
receivers d interfaces rs cluster judged lawful follow n mine a mine_at holds =
    let c = holds_is_seen mine a holds in
    let front : take a.origin.entry mine.entries ≡ c.inner =
    ap (λ (i : ℕ). take i mine.entries) c.holds.brought.entry_is ∙ ap
    (λ (l : List Entry). take (length c.inner) l) c.cut ∙ take-after c.inner (c.here ∷ c.after) in
    received_from d interfaces rs n mine a cluster judged lawful follow
    (follow n mine mine_at) c.inner c.after c.here c.cut c.holds front
