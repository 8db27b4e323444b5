-- The payload in a receive buffer, with one more entry.
use Rattle.std.proofs.Common.{◌≡◌, ℕ, ◌+◌, Bool, true, false, cond, List, [], ◌∷◌, ◌++◌, take, Option, Some, None}
use Rattle.std.proofs.Common.{option_map, refl, sym, ap, ◌∙◌, arith}
use Rattle.std.specs.Prelude.{count_by, slice_get}
use Rattle.std.proofs.lemmas.List.Sums.{sum_by-append}
use Rattle.fr_journal.specs.Cycles.{begins_cycle_at, moment_after}
use Rattle.fr_journal.specs.declared.entry.Moment.{Moment}
use Rattle.std.specs.Option.{option_and_then, option_or}
use Rattle.fr_expecting.proofs.PlaceLemmas.{here}
use Rattle.fr_expecting.specs.Contents.{IsPlace, found_left, payload_at, payload_from, payload_held, payload_in}
use Rattle.fr_expecting.specs.Contents.{payload_of, payload_on}
use Rattle.fr_expecting.specs.declared.walk.Place.{Place}
use Rattle.fr_expecting.specs.Expected.{found_of, found_with, through}
use Rattle.fr_frame.specs.Fields.{Fields}
use Rattle.fr_interface.specs.State.{State}
use Rattle.fr_journal.specs.Counts.{seen_on}
use Rattle.fr_journal.specs.declared.entry.Arrival.{Arrival}
use Rattle.fr_journal.specs.declared.entry.Entry.TheVariants.{Commit, Withdraw, Read, Pop, Fetch, Observe}
use Rattle.fr_journal.specs.Forms.{Entry}
use Rattle.fr_journal.specs.Held.{held, arrival_at, arrival_by, arrival_in, arrival_of, arrival_on, data_frame_seen}
use Rattle.fr_journal.specs.Held.{frame_in_entry, frame_named}
use Rattle.fr_journal.specs.OpenWindow.{closed_window, open_window}
use Rattle.fr_slots.proofs.HistoryLemmas.{last_after-snoc}
use Rattle.fr_slots.specs.declared.channel.Channel.{Channel}
use Rattle.fr_slots.specs.declared.channel.Channel.TheVariants.{A, B}
use Rattle.fr_slots.specs.declared.filter.Filter.{Filter}
use Rattle.fr_slots.specs.History.{last_after}
use Rattle.fr_slots.specs.Plans.{admits_window}
use Rattle.fr_slots.specs.Windows.{Opportunity}
use Rattle.fr_status.specs.Forms.{Seen}

payload_or : (x y : Option Arrival)
    → option_map payload_in (option_or x y) ≡ option_or (option_map payload_in x) (option_map payload_in y)
payload_or None y = refl
payload_or (Some x) y = refl

payload_if : (moment : Moment) (channel : Channel) (admitted : Bool) (frame : Option Fields)
    → cond admitted (option_map payload_of frame) None
    ≡ option_map payload_in (cond admitted (option_map (arrival_of moment channel) frame) None)
payload_if moment channel false frame = refl
payload_if moment channel true None = refl
payload_if moment channel true (Some frame) = refl

module _ (s : State) (filter : Filter) (n : ℕ) where
  abbrev before : List Entry
  before = take n s.entries

  -- on a channel of the window that the observe closes
  on_channel : (channel : Channel) (w : Opportunity) (number : ℕ) (a b : Seen)
      → slice_get s.entries n ≡ Some (Observe number a b) → open_window before ≡ Some w
      → payload_on s filter n channel w
      ≡ option_map payload_in (arrival_on s.params filter (moment_after before) w channel (seen_on channel a b))
  on_channel channel w number a b is opened =
      let frames : frame_named s.params s.entries (record { entry = n; channel = channel })
      ≡ data_frame_seen s.params w channel (seen_on channel a b) =
      ap (option_and_then (frame_in_entry s.params channel (open_window before))) is
      ∙ ap (λ (o : Option Opportunity). frame_in_entry s.params channel o (Observe number a b)) opened in
      ap (λ (f : Option Fields). cond (admits_window filter w channel) (option_map payload_of f) None) frames
      ∙ payload_if (moment_after before) channel (admits_window filter w channel)
      (data_frame_seen s.params w channel (seen_on channel a b))

  in_window : (number : ℕ) (a b : Seen) → slice_get s.entries n ≡ Some (Observe number a b)
      → (o : Option Opportunity) → open_window before ≡ o
      → option_and_then (payload_from s filter n) o
      ≡ option_map payload_in (option_and_then (arrival_in s.params filter (moment_after before) a b) o)
  in_window number a b is None opened = refl
  in_window number a b is (Some w) opened =
      (λ i. option_or (on_channel A w number a b is opened i) (on_channel B w number a b is opened i))
      ∙ sym (payload_or (arrival_on s.params filter (moment_after before) w A a)
      (arrival_on s.params filter (moment_after before) w B b))

  of_entry : (e : Entry) → slice_get s.entries n ≡ Some e
      → option_and_then (payload_from s filter n) (closed_window before e)
      ≡ option_map payload_in (arrival_by s.params filter (moment_after before) (open_window before) e)
  of_entry (Commit task buffer payload) is = refl
  of_entry (Withdraw task buffer of) is = refl
  of_entry (Read task buffer from) is = refl
  of_entry (Pop task from) is = refl
  of_entry (Fetch w a b) is = refl
  of_entry (Observe number a b) is = in_window number a b is (open_window before) refl

  -- an entry brings a payload, or leaves the one before
  pub payload_more : (e : Entry) → slice_get s.entries n ≡ Some e
      → payload_held s.params filter (take (n + 1) s.entries)
      ≡ option_or (payload_at s filter n) (payload_held s.params filter before)
  payload_more e is =
      let h = here s.entries n e is in
      let brought : payload_at s filter n
      ≡ option_map payload_in (arrival_by s.params filter (moment_after before) (open_window before) e) =
      ap (λ (o : Option Entry). option_and_then (payload_from s filter n) (option_and_then (closed_window before) o)) is
      ∙ of_entry e is in
      ap (payload_held s.params filter) h.passed
      ∙ ap (option_map payload_in) (last_after-snoc (arrival_at s.params filter) before e)
      ∙ payload_or (arrival_at s.params filter before e) (held s.params filter before)
      ∙ ap (λ (o : Option (List ℕ)). option_or o (payload_held s.params filter before))
      (sym brought)

-- ---- places

begun_more : (es : List Entry) (e : Entry)
    → count_by begins_cycle_at (es ++ e ∷ []) ≡ count_by begins_cycle_at es + cond (begins_cycle_at e) 1 0
begun_more es e = omega (arith, sum_by-append (λ (x : Entry). cond (begins_cycle_at x) 1 0) es (e ∷ []))

module _ (s : State) (filter : Filter) where
  -- the place behind one more entry
  pub passed : (place : Place) (e : Entry) (begun : ℕ) (now : Option (List ℕ)) → slice_get s.entries place.next ≡ Some e
      → IsPlace s filter place → begun ≡ place.begun + cond (begins_cycle_at e) 1 0
      → now ≡ option_or (payload_at s filter place.next) place.held
      → IsPlace s filter (record { next = place.next + 1; begun = begun; held = now })
  passed place e begun now is at counted brought =
      let h = here s.entries place.next e is in
      record {
        within = omega (arith, h.within);
        begun_is =
            counted
            ∙ ap (λ (n : ℕ). n + cond (begins_cycle_at e) 1 0) at.begun_is
            ∙ sym (ap (count_by begins_cycle_at) h.passed ∙ begun_more (take place.next s.entries) e);
        held_is =
            brought
            ∙ ap (option_or (payload_at s filter place.next)) at.held_is
            ∙ sym (payload_more s filter place.next e is);
      }

  -- the place before the first entry
  pub start : IsPlace s filter (record { next = 0; begun = 0; held = None })
  unfolding last_after
  start = record { within = omega arith; begun_is = refl; held_is = refl }

  left_is : (o : Option Arrival) → found_left (option_map payload_in o) ≡ found_of o
  left_is None = refl
  left_is (Some arrival) = refl

  -- the content at the end of a cycle
  pub at_end : (place : Place) (cycle : ℕ) → IsPlace s filter place
      → take place.next s.entries ≡ through (cycle + 1) s.entries
      → found_left place.held ≡ found_with s (Some filter) cycle
  at_end place cycle at ended =
      ap found_left (at.held_is ∙ ap (payload_held s.params filter) ended)
      ∙ left_is (held s.params filter (through (cycle + 1) s.entries))
