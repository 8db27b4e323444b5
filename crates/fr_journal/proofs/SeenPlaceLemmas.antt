-- Each frame in a receive buffer or in the receive FIFO is a data frame of a slot, from an observe of the journal.
use Rattle.std.proofs.Common.{◌≡◌, ℕ, zero, suc, ◌*◌, ◌-◌, ◌==◌, Bool, true, false, cond, not, ◌&&◌, ◌||◌, List, []}
use Rattle.std.proofs.Common.{◌∷◌, ◌++◌, length, Option, Some, None, refl, sym, ap, subst, ◌∙◌, inl, inr, ◌⊎◌}
use Rattle.std.proofs.Common.{slice_get, option_map}
use Rattle.std.specs.Prelude.{option_to_list, IfSome}
use Rattle.std.specs.Option.{option_and_then, option_or}
use Rattle.std.proofs.lemmas.Bool.{and_parts, eqb-true}
use Rattle.fr_frame.specs.Decoding.{decoded}
use Rattle.fr_frame.specs.Fields.{Fields}
use Rattle.fr_journal.specs.Arrivals.{is_for_queue, queue_arrival_on, queue_arrivals_in, moves_at, moves, arrived}
use Rattle.fr_journal.specs.Arrivals.{queue_content, queue_length, oldest}
use Rattle.fr_journal.specs.Counts.{seen_on}
use Rattle.fr_journal.specs.Cycles.{moment_after}
use Rattle.fr_journal.specs.declared.entry.Arrival.{Arrival}
use Rattle.fr_journal.specs.declared.entry.Moment.{Moment}
use Rattle.fr_journal.specs.Forms.{Entry}
use Rattle.fr_journal.specs.declared.entry.Entry.TheVariants.{Commit, Withdraw, Read, Pop, Fetch, Observe}
use Rattle.fr_journal.specs.Entries.{IsEntry}
use Rattle.fr_journal.specs.Held.{held, arrival_at, arrival_in, arrival_on, arrival_of, data_frame_seen, with_data}
use Rattle.fr_journal.specs.Held.{frame_of, IsReceivable}
use Rattle.fr_journal.specs.Legal.{AreEntries}
use Rattle.fr_slots.specs.Plans.{admits_window, Plan}
use Rattle.fr_journal.specs.OpenWindow.{open_window, window_mark}
use Rattle.fr_journal.proofs.MoveLemmas.{arrived-append, arrived-all}
use Rattle.fr_slots.proofs.PlaceLemmas.{same_some, IsAmong, IsCutAt, among-append, among-drop, last_after-at}
use Rattle.fr_slots.proofs.PlaceLemmas.{each_after-at, AllAfter-cut, AllAfter-front}
use Rattle.fr_slots.specs.declared.channel.Channel.{Channel}
use Rattle.fr_slots.specs.declared.channel.Channel.TheVariants.{A, B}
use Rattle.fr_slots.specs.declared.filter.Filter.{Filter}
use Rattle.fr_slots.specs.declared.plan.Queue.{Queue}
use Rattle.fr_slots.specs.History.{last_after, each_after}
use Rattle.fr_slots.specs.Parameters.{is_static_slot, Parameters}
use Rattle.fr_slots.specs.Numbers.{IsSlot}
use Rattle.fr_slots.specs.Windows.{Opportunity, IsInRange, IsSlotOrNone, slot_of}
use Rattle.fr_status.specs.Forms.{Seen}
use Rattle.fr_status.specs.declared.seen.Seen.TheVariants.{Silence, Own, Conflict, Noise, Overrun, Bytes}
use Rattle.fr_status.specs.Status.{frame_in, passed, passes, fits_static_slot, fits_dynamic_slot}

-- the arrival is the valid data frame on its channel in the observe of this moment
pub record IsBrought (params : Parameters) (moment : Moment) (window : Opportunity) (x y : Seen) (a : Arrival)
    : Type 0 where
  pub entry_is : a.origin.entry ≡ moment.entry
  pub cycle_is : a.cycle ≡ moment.cycle
  pub frame_is : data_frame_seen params window a.origin.channel (seen_on a.origin.channel x y) ≡ Some a.frame

-- the entry after these is an observe with the arrival
pub record IsSeenBy (params : Parameters) (before : List Entry) (e : Entry) (a : Arrival) : Type 0 where
  pub number : ℕ
  pub x : Seen
  pub y : Seen
  pub entry_is : e ≡ Observe number x y
  pub window : Opportunity
  pub opened : open_window before ≡ Some window
  pub brought : IsBrought params (moment_after before) window x y a

-- the journal has an observe with the arrival
abbrev pub IsSeenIn : Parameters → List Entry → Arrival → Type 0
IsSeenIn params entries a = IsCutAt (λ before e. IsSeenBy params before e a) [] entries

-- a value that passed a test was there before
kept : {X : Type 0} (b : Bool) (o : Option X) (y : X) → cond b o None ≡ Some y → o ≡ Some y
kept true o y e = e
kept false o y e = absurd (let none : ⊥ = cc in none)

on_channel : (params : Parameters) (moment : Moment) (window : Opportunity) (channel : Channel) (x y : Seen)
    (f : Option Fields) (a : Arrival)
    → data_frame_seen params window channel (seen_on channel x y) ≡ f
    → option_map (arrival_of moment channel) f ≡ Some a → IsBrought params moment window x y a
on_channel params moment window channel x y None a is e = absurd (let none : ⊥ = cc in none)
on_channel params moment window channel x y (Some f) a is e =
    subst (IsBrought params moment window x y) (same_some (arrival_of moment channel f) a e)
    (record { entry_is = refl; cycle_is = refl; frame_is = is })

-- ---- receive buffers

either_some : {A : Type 0} (o p : Option A) (a : A) → option_or o p ≡ Some a → (o ≡ Some a) ⊎ (p ≡ Some a)
either_some None p a e = inr e
either_some (Some x) p a e = inl e

module _ (params : Parameters) (filter : Filter) where
  from_channel : (moment : Moment) (window : Opportunity) (channel : Channel) (x y : Seen) (a : Arrival)
      → arrival_on params filter moment window channel (seen_on channel x y) ≡ Some a
      → IsBrought params moment window x y a
  from_channel moment window channel x y a e =
      on_channel params moment window channel x y (data_frame_seen params window channel (seen_on channel x y)) a refl
      (kept (admits_window filter window channel) (option_map (arrival_of moment channel)
      (data_frame_seen params window channel (seen_on channel x y))) a e)

  from_either : (moment : Moment) (window : Opportunity) (x y : Seen) (a : Arrival)
      → ((arrival_on params filter moment window A x ≡ Some a) ⊎ (arrival_on params filter moment window B y ≡ Some a))
      → IsBrought params moment window x y a
  from_either moment window x y a (inl e) = from_channel moment window A x y a e
  from_either moment window x y a (inr e) = from_channel moment window B x y a e

  from_window : (before : List Entry) (number : ℕ) (x y : Seen) (a : Arrival) (w : Option Opportunity)
      → open_window before ≡ w
      → option_and_then (arrival_in params filter (moment_after before) x y) w ≡ Some a
      → IsSeenBy params before (Observe number x y) a
  from_window before number x y a None is e = absurd (let none : ⊥ = cc in none)
  from_window before number x y a (Some w) is e = record {
    number = number;
    x = x;
    y = y;
    entry_is = refl;
    window = w;
    opened = is;
    brought = from_either (moment_after before) w x y a
        (either_some (arrival_on params filter (moment_after before) w A x)
        (arrival_on params filter (moment_after before) w B y) a e);
  }

  from_entry : (before : List Entry) (e : Entry) (a : Arrival) → arrival_at params filter before e ≡ Some a
      → IsSeenBy params before e a
  from_entry before (Commit task buffer payload) a e = absurd (let none : ⊥ = cc in none)
  from_entry before (Withdraw task buffer of) a e = absurd (let none : ⊥ = cc in none)
  from_entry before (Read task buffer from) a e = absurd (let none : ⊥ = cc in none)
  from_entry before (Pop task from) a e = absurd (let none : ⊥ = cc in none)
  from_entry before (Fetch w x y) a e = absurd (let none : ⊥ = cc in none)
  from_entry before (Observe number x y) a e = from_window before number x y a (open_window before) refl e

  pub held_is_seen : (entries : List Entry) (a : Arrival) → held params filter entries ≡ Some a
      → IsSeenIn params entries a
  held_is_seen entries a e =
      let c = last_after-at (arrival_at params filter) [] entries a e in
      record {
        inner = c.inner;
        here = c.here;
        after = c.after;
        cut = c.cut;
        holds =
            from_entry c.inner c.here a c.holds;
      }

-- ---- the receive FIFO

among_cond : {A : Type 0} (b : Bool) (o : Option A) (k : ℕ) (a : A)
    → slice_get (cond b (option_to_list o) []) k ≡ Some a → o ≡ Some a
among_cond false o k a e = absurd (let none : ⊥ = cc in none)
among_cond true None k a e = absurd (let none : ⊥ = cc in none)
among_cond true (Some x) zero a e = e
among_cond true (Some x) (suc k) a e = absurd (let none : ⊥ = cc in none)

module _ (params : Parameters) (plan : Plan) (q : Queue) where
  queued_on : (moment : Moment) (window : Opportunity) (channel : Channel) (x y : Seen) (a : Arrival)
      → IsAmong (queue_arrival_on params plan q moment window channel (seen_on channel x y)) a
      → IsBrought params moment window x y a
  queued_on moment window channel x y a h =
      on_channel params moment window channel x y (data_frame_seen params window channel (seen_on channel x y)) a refl
      (among_cond (is_for_queue plan q window channel) (option_map (arrival_of moment channel)
      (data_frame_seen params window channel (seen_on channel x y))) h.place a h.at)

  queued_either : (moment : Moment) (window : Opportunity) (x y : Seen) (a : Arrival)
      → (IsAmong (queue_arrival_on params plan q moment window A x) a ⊎ IsAmong
      (queue_arrival_on params plan q moment window B y) a) → IsBrought params moment window x y a
  queued_either moment window x y a (inl h) = queued_on moment window A x y a h
  queued_either moment window x y a (inr h) = queued_on moment window B x y a h

  queued_window : (before : List Entry) (number : ℕ) (x y : Seen) (k : ℕ) (a : Arrival) (w : Option Opportunity)
      → open_window before ≡ w
      → slice_get (queue_arrivals_in params plan q (moment_after before) x y w) k ≡ Some a
      → IsSeenBy params before (Observe number x y) a
  queued_window before number x y k a None is e = absurd (let none : ⊥ = cc in none)
  queued_window before number x y k a (Some w) is e = record {
    number = number;
    x = x;
    y = y;
    entry_is = refl;
    window = w;
    opened = is;
    brought = queued_either (moment_after before) w x y a
        (among-append (queue_arrival_on params plan q (moment_after before) w A x)
        (queue_arrival_on params plan q (moment_after before) w B y) k a e);
  }

  queued_entry : (before : List Entry) (e : Entry) (k : ℕ) (a : Arrival)
      → slice_get (arrived (moves_at params plan q before e)) k ≡ Some a → IsSeenBy params before e a
  queued_entry before (Commit task buffer payload) k a e = absurd (let none : ⊥ = cc in none)
  queued_entry before (Withdraw task buffer of) k a e = absurd (let none : ⊥ = cc in none)
  queued_entry before (Read task buffer from) k a e = absurd (let none : ⊥ = cc in none)
  queued_entry before (Pop task from) k a e = absurd (let none : ⊥ = cc in none)
  queued_entry before (Fetch w x y) k a e = absurd (let none : ⊥ = cc in none)
  queued_entry before (Observe number x y) k a e =
      queued_window before number x y k a (open_window before) refl
      (sym (ap (λ (l : List Arrival). slice_get l k) (arrived-all
      (queue_arrivals_in params plan q (moment_after before) x y (open_window before)))) ∙ e)

  -- the arrivals are those of each entry, in order
  arrived-each : (before entries : List Entry) → arrived (each_after (moves_at params plan q) before entries) ≡
      each_after (λ b e. arrived (moves_at params plan q b e)) before entries
  unfolding each_after
  arrived-each before [] = refl
  arrived-each before (e ∷ entries) =
      arrived-append (moves_at params plan q before e) (each_after (moves_at params plan q) (before ++ e ∷ []) entries)
      ∙ ap (λ l. arrived (moves_at params plan q before e) ++ l) (arrived-each (before ++ e ∷ []) entries)

  pub queued_is_seen : (capacity k : ℕ) (entries : List Entry) (a : Arrival)
      → slice_get (queue_content capacity (moves params plan q entries)) k ≡ Some a → IsSeenIn params entries a
  queued_is_seen capacity k entries a e =
      let m = moves params plan q entries in
      let h = among-drop (length (arrived m) - queue_length capacity m) (arrived m) k a e in
      let at : slice_get (each_after (λ b x. arrived (moves_at params plan q b x)) [] entries) h.place ≡ Some a =
      sym (ap (λ (l : List Arrival). slice_get l h.place) (arrived-each [] entries)) ∙ h.at in
      let c = each_after-at (λ b x. arrived (moves_at params plan q b x)) [] entries h.place a at in
      record {
        inner = c.inner;
        here = c.here;
        after = c.after;
        cut = c.cut;
        holds =
            queued_entry c.inner c.here c.holds.place a c.holds.at;
      }

-- ---- data frames of slots

-- an open window was fetched, so its numbers are in range
fetched_fits : (before : List Entry) (e : Entry) (w : Opportunity) → window_mark before e ≡ Some (Some w) → IsEntry e
    → IsInRange w
fetched_fits before (Commit task buffer payload) w e h = absurd (let none : ⊥ = cc in none)
fetched_fits before (Withdraw task buffer of) w e h = absurd (let none : ⊥ = cc in none)
fetched_fits before (Read task buffer from) w e h = absurd (let none : ⊥ = cc in none)
fetched_fits before (Pop task from) w e h = absurd (let none : ⊥ = cc in none)
fetched_fits before (Fetch window a b) w e h = subst IsInRange (same_some window w (same_some (Some window) (Some w) e))
    h.window_is
fetched_fits before (Observe window a b) w e h = absurd (let none : ⊥ = cc in none)

mark_of : (o : Option (Option Opportunity)) (w : Opportunity) → option_and_then (λ x. x) o ≡ Some w → o ≡ Some (Some w)
mark_of None w e = absurd (let none : ⊥ = cc in none)
mark_of (Some None) w e = absurd (let none : ⊥ = cc in none)
mark_of (Some (Some v)) w e = ap (λ (x : Option Opportunity). Some x) e

pub open_in_range : (entries : List Entry) (w : Opportunity) → AreEntries entries → open_window entries ≡ Some w
    → IsInRange w
open_in_range entries w are e =
    let c = last_after-at window_mark [] entries (Some w) (mark_of (last_after window_mark [] entries) w e) in
    fetched_fits c.inner c.here w c.holds
    (AllAfter-cut (λ (before : List Entry) (e : Entry). IsEntry e) [] c.inner c.here c.after
    (subst AreEntries c.cut are))

passes_id : (static : Bool) (p : Parameters) (cycle slot : ℕ) (f : Fields)
    → cond static (fits_static_slot p cycle slot f) (fits_dynamic_slot cycle slot f) ≡ true → f.id ≡ slot
passes_id true p cycle slot f h =
    let (front, indicators) = and_parts (length f.payload == 2 * p.static_words && f.id == slot && f.cycle == cycle)
    (f.sync || not f.startup) h in
    let (id, in_cycle) = and_parts (length f.payload == 2 * p.static_words && f.id == slot) (f.cycle == cycle) front in
    let (words, same) = and_parts (length f.payload == 2 * p.static_words) (f.id == slot) id in
    eqb-true f.id slot same
passes_id false p cycle slot f h =
    let (front, has_data) = and_parts (f.id == slot && f.cycle == cycle && not f.sync && not f.startup) f.has_data h in
    let (sync, startup) = and_parts (f.id == slot && f.cycle == cycle && not f.sync) (not f.startup) front in
    let (id, no_sync) = and_parts (f.id == slot && f.cycle == cycle) (not f.sync) sync in
    let (same, in_cycle) = and_parts (f.id == slot) (f.cycle == cycle) id in
    eqb-true f.id slot same

given_if : (p : Parameters) (cycle slot : ℕ) (b : Bool) (g f : Fields) → passes p cycle slot g ≡ b
    → cond b (Some g) None ≡ Some f → f.id ≡ slot
given_if p cycle slot true g f is e =
    ap (λ (x : Fields). x.id) (sym (same_some g f e)) ∙ passes_id (is_static_slot p slot) p cycle slot g is
given_if p cycle slot false g f is e = absurd (let none : ⊥ = cc in none)

passed_id : (p : Parameters) (cycle slot : ℕ) (o : Option Fields) (f : Fields) → passed p cycle slot o ≡ Some f
    → f.id ≡ slot
passed_id p cycle slot None f e = absurd (let none : ⊥ = cc in none)
passed_id p cycle slot (Some g) f e = given_if p cycle slot (passes p cycle slot g) g f refl e

-- a valid frame has its slot's frame ID
frame_id : (p : Parameters) (cycle slot : ℕ) (channel : Channel) (seen : Seen) (f : Fields)
    → frame_in p cycle slot channel seen ≡ Some f → f.id ≡ slot
unfolding frame_in
frame_id p cycle slot channel Silence f e = absurd (let none : ⊥ = cc in none)
frame_id p cycle slot channel Own f e = absurd (let none : ⊥ = cc in none)
frame_id p cycle slot channel Conflict f e = absurd (let none : ⊥ = cc in none)
frame_id p cycle slot channel Noise f e = absurd (let none : ⊥ = cc in none)
frame_id p cycle slot channel Overrun f e = absurd (let none : ⊥ = cc in none)
frame_id p cycle slot channel (Bytes bytes) f e = passed_id p cycle slot (decoded channel bytes.items) f e

id_in_slot : (p : Parameters) (cycle : ℕ) (channel : Channel) (seen : Seen) (slot : Option ℕ) (f : Fields)
    → IsSlotOrNone slot
    → option_and_then (λ s. frame_in p cycle s channel seen) slot ≡ Some f → IsSlot f.id
id_in_slot p cycle channel seen None f is e = absurd (let none : ⊥ = cc in none)
id_in_slot p cycle channel seen (Some slot) f is e = subst IsSlot (sym (frame_id p cycle slot channel seen f e)) is

data_if : (b : Bool) (g f : Fields) → g.has_data ≡ b → cond b (Some g) None ≡ Some f
    → (Some g ≡ Some f) × (f.has_data ≡ true)
data_if true g f is e = (e, ap (λ (x : Fields). x.has_data) (sym (same_some g f e)) ∙ is)
data_if false g f is e = absurd (let none : ⊥ = cc in none)

data_of : (o : Option Fields) (f : Fields) → option_and_then with_data o ≡ Some f → (o ≡ Some f) × (f.has_data ≡ true)
data_of None f e = absurd (let none : ⊥ = cc in none)
data_of (Some g) f e = data_if g.has_data g f refl e

slot_is : (w : Opportunity) (channel : Channel) → IsInRange w → IsSlotOrNone (slot_of w channel)
slot_is w A range = range.slot_a
slot_is w B range = range.slot_b

seen_is_receivable : (p : Parameters) (w : Opportunity) (channel : Channel) (seen : Seen) (f : Fields) → IsInRange w
    → data_frame_seen p w channel seen ≡ Some f → IsReceivable f
seen_is_receivable p w channel seen f range e =
    let d = data_of (option_and_then (λ s. frame_in p w.cycle s channel seen) (slot_of w channel)) f e in
    (d.1, id_in_slot p w.cycle channel seen (slot_of w channel) f (slot_is w channel range) d.0)

-- an arrival from an observe of the journal is a data frame of a slot
arrival_is_receivable : (params : Parameters) (entries : List Entry) (a : Arrival) → AreEntries entries
    → IsSeenIn params entries a → IsReceivable a.frame
arrival_is_receivable params entries a are c =
    let s = c.holds in
    let front : AreEntries c.inner = AllAfter-front (λ (before : List Entry) (e : Entry). IsEntry e) [] c.inner
    (c.here ∷ c.after) (subst AreEntries c.cut are) in
    seen_is_receivable params s.window a.origin.channel (seen_on a.origin.channel s.x s.y) a.frame
    (open_in_range c.inner s.window front s.opened) s.brought.frame_is

frames_of : (o : Option Arrival) → ((a : Arrival) → o ≡ Some a → IsReceivable a.frame)
    → IfSome (option_map frame_of o) IsReceivable
frames_of None each = tt
frames_of (Some a) each = each a refl

-- the frame in a receive buffer is a data frame of a slot
pub held_is_receivable : (params : Parameters) (filter : Filter) (entries : List Entry) → AreEntries entries
    → IfSome (option_map frame_of (held params filter entries)) IsReceivable
held_is_receivable params filter entries are =
    frames_of (held params filter entries) (λ a e. arrival_is_receivable params entries a are
    (held_is_seen params filter entries a e))

-- the oldest frame of the receive FIFO is a data frame of a slot
pub oldest_is_receivable : (params : Parameters) (plan : Plan) (q : Queue) (capacity : ℕ) (entries : List Entry)
    → AreEntries entries
    → IfSome (option_map frame_of (oldest capacity (moves params plan q entries))) IsReceivable
oldest_is_receivable params plan q capacity entries are =
    frames_of (oldest capacity (moves params plan q entries))
    (λ a e. arrival_is_receivable params entries a are (queued_is_seen params plan q capacity 0 entries a e))
