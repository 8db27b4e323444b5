-- The lines so far, of a range of numbers and of a journal.
use Rattle.std.proofs.Common.{◌≡◌, ℕ, zero, suc, ◌+◌, ◌*◌, ◌-◌, ◌<◌, ◌≤◌, List, [], ◌∷◌, ◌++◌, length, take, get_or}
use Rattle.std.proofs.Common.{Option, Some, None, Result, Ok, Err, Bool, true, false, cond, refl, sym, ap, subst}
use Rattle.std.proofs.Common.{◌∙◌, arith, append-nil}
use Rattle.std.specs.Io.KnownBytes.{Appends}
use Rattle.std.specs.List.{flat_map, range_with_len}
use Rattle.std.specs.Prelude.{OnOk}
use Rattle.std.proofs.KnownBytes.{Appends-nil, Appends-trans}
use Rattle.std.proofs.lemmas.Grind.{flat_map-append}
use Rattle.std.proofs.lemmas.List.{take_more, take_all}
use Rattle.fr_fifo.specs.declared.running.Running.{Running}
use Rattle.fr_fifo.specs.FifoSteps.{after_entry, oldest_in, running_of, step_text, with_frame, with_frames}
use Rattle.fr_fifo.specs.FifoSteps.{waiting_text, with_window}
use Rattle.fr_fifo.specs.FifoText.{entry_text, frames_text, waiting_line}
use Rattle.fr_fifo.proofs.FifoLemmas.{running_after, text_after}
use Rattle.fr_frame.specs.Fields.{Fields}
use Rattle.fr_interface.specs.State.{State}
use Rattle.fr_journal.specs.Arrivals.{moves}
use Rattle.fr_journal.specs.declared.entry.Entry.TheVariants.{Commit, Withdraw, Read, Pop, Fetch, Observe}
use Rattle.fr_journal.specs.Forms.{Entry}
use Rattle.fr_journal.specs.OpenWindow.{closed_window}
use Rattle.fr_journal.proofs.ContentLemmas.{queue_length-arrived}
use Rattle.fr_slots.specs.declared.plan.Queue.{Queue}
use Rattle.fr_slots.specs.History.{each_after}
use Rattle.fr_slots.proofs.HistoryLemmas.{each_after-snoc}
use Rattle.fr_slots.specs.Windows.{Opportunity, opens_cycle}

-- ---- a range of numbers

range_more : (first count : ℕ) → range_with_len first (count + 1) ≡ range_with_len first count ++ (first + count) ∷ []
range_more first zero = ap (λ (n : ℕ). n ∷ []) (omega arith)
range_more first (suc count) =
    let next : suc count + 1 ≡ suc (count + 1) = omega arith in
    let place : first + 1 + count ≡ first + suc count = omega arith in
    ap (λ (n : ℕ). range_with_len first n) next
    ∙ ap (λ (xs : List ℕ). first ∷ xs) (range_more (first + 1) count ∙ ap
    (λ (n : ℕ). range_with_len (first + 1) count ++ n ∷ []) place)

-- the lines of the numbers from the first one up to this one
abbrev pub lines_to : (ℕ → List ℕ) → ℕ → ℕ → List ℕ
lines_to line first number = flat_map line (range_with_len first (number - first))

pub no_number : (line : ℕ → List ℕ) (first : ℕ) (start : Option (List ℕ))
    → Appends start start (lines_to line first first)
no_number line first start =
    let none : 0 ≡ first - first = omega arith in
    subst (λ (n : ℕ). Appends start start (flat_map line (range_with_len first n))) none (Appends-nil start)

pub one_number : (line : ℕ → List ℕ) (first number : ℕ) (old mid new : Option (List ℕ)) → first ≤ number
    → Appends old mid (lines_to line first number) → Appends mid new (line number)
    → Appends old new (lines_to line first (number + 1))
one_number line first number old mid new le before one =
    let count = number - first in
    let next : number + 1 - first ≡ count + 1 = omega arith in
    let place : first + count ≡ number = omega arith in
    let text : lines_to line first (number + 1) ≡ lines_to line first number ++ line number =
    ap (λ (n : ℕ). flat_map line (range_with_len first n)) next
    ∙ ap (flat_map line) (range_more first count)
    ∙ flat_map-append line (range_with_len first count) ((first + count) ∷ [])
    ∙ ap (λ (t : List ℕ). lines_to line first number ++ t) (append-nil (line (first + count)) ∙ ap line place) in
    subst (Appends old new) (sym text)
    (Appends-trans old mid new (lines_to line first number) (line number) before one)

-- after the loop over these numbers, also if there is none
pub lines_all : (line : ℕ → List ℕ) (first number end : ℕ) (old new : Option (List ℕ)) → first ≤ number
    → end ≤ number → (first ≤ end → number ≤ end) → (end ≤ first → number ≡ first)
    → Appends old new (lines_to line first number) → Appends old new (lines_to line first end)
lines_all line first number end old new le over within still written =
    let same : number - first ≡ end - first = grind arith in
    subst (λ (n : ℕ). Appends old new (flat_map line (range_with_len first n))) same written

-- ---- the numbers stay small

pub record IsSmall (r : Running) (count : ℕ) : Type 0 where
  pub stored : r.stored ≤ 2 * count
  pub held : r.held ≤ 2 * count
  pub cycles : r.cycles ≤ count

frame_small : (capacity : ℕ) (r : Running) (f : Option Fields) (n cycles : ℕ) → r.stored ≤ n → r.held ≤ n
    → r.cycles ≤ cycles → ((with_frame capacity r f).stored ≤ n + 1) × ((with_frame capacity r f).held ≤ n + 1)
    × ((with_frame capacity r f).cycles ≤ cycles)
frame_small capacity r None n cycles stored held begun = (omega arith, omega arith, omega arith)
frame_small capacity r (Some f) n cycles stored held begun = (omega arith, omega arith, omega arith)

one_at_most : (b : Bool) → cond {A = ℕ} b 1 0 ≤ 1
one_at_most true = omega arith
one_at_most false = omega arith

same_small : (r : Running) (count : ℕ) → IsSmall r count → IsSmall r (count + 1)
same_small r count h = record { stored = omega arith; held = omega arith; cycles = omega arith }

begun_small : (r : Running) (window : Opportunity) (count : ℕ) → r.cycles ≤ count
    → (with_window r window).cycles ≤ count + 1
begun_small r window count le = omega (arith, le, one_at_most (opens_cycle window))

frames_small : (capacity : ℕ) (r : Running) (a b : Option Fields) (count : ℕ) → IsSmall r count
    → IsSmall (with_frames capacity r a b) (count + 1)
frames_small capacity r a b count h =
    let one = frame_small capacity r a (2 * count) count h.stored h.held h.cycles in
    let two = frame_small capacity (with_frame capacity r a) b (2 * count + 1) count one.0 one.1 one.2 in
    record { stored = omega (arith, two.0); held = omega (arith, two.1); cycles = omega (arith, two.2) }

pub one_small : (s : State) (q : Queue) (r : Running) (closed : Option Opportunity) (e : Entry) (count : ℕ)
    → IsSmall r count → IsSmall (after_entry s q r closed e) (count + 1)
one_small s q r closed (Commit task buffer payload) count h = same_small r count h
one_small s q r closed (Withdraw task buffer of) count h = same_small r count h
one_small s q r closed (Read task buffer from) count h = same_small r count h
one_small s q r closed (Pop task from) count h =
    record { stored = omega arith; held = omega arith; cycles = omega arith }
one_small s q r closed (Fetch window a b) count h =
    record { stored = omega arith; held = omega arith; cycles = begun_small r window count h.cycles }
one_small s q r None (Observe window a b) count h = same_small r count h
one_small s q r (Some w) (Observe window a b) count h = frames_small q.capacity r _ _ count h

-- ---- the lines of a journal

-- the numbers before any entry
abbrev pub none_yet : Running
none_yet = record { stored = 0; held = 0; cycles = 0 }

-- The lines of the first `count` entries were written, and these are the numbers after them.
pub record IsAlong (s : State) (q : Queue) (entries : List Entry) (count : ℕ) (start now : Option (List ℕ))
    (r : Running) : Type 0 where
  pub written : Appends start now (each_after (entry_text s q) [] (take count entries))
  pub numbers : r ≡ running_of s q (take count entries)
  pub small : IsSmall r count

module _ (s : State) (q : Queue) (entries : List Entry) (start : Option (List ℕ)) where
  pub along_none : IsAlong s q entries 0 start start none_yet
  unfolding each_after
  along_none = record {
    written = Appends-nil start;
    numbers = refl;
    small = record { stored = omega arith; held = omega arith; cycles = omega arith };
  }

  pub along_more : (count : ℕ) (e : Entry) (now mid : Option (List ℕ)) (r next : Running)
      (closed : Option Opportunity) → count < length entries → e ≡ get_or entries count e
      → IsAlong s q entries count start now r → closed ≡ closed_window (take count entries) e
      → Appends now mid (step_text s q r closed e) → next ≡ after_entry s q r closed e
      → IsAlong s q entries (count + 1) start mid next
  along_more count e now mid r next closed lt at h closed_is one next_is =
      let before = take count entries in
      let longer : take (count + 1) entries ≡ before ++ e ∷ [] =
      take_more entries count e lt ∙ ap (λ (x : Entry). before ++ x ∷ []) (sym at) in
      let told : step_text s q r closed e ≡ entry_text s q before e =
      ap (λ (n : Running). step_text s q n closed e) h.numbers
      ∙ ap (λ (o : Option Opportunity). step_text s q (running_of s q before) o e) closed_is
      ∙ sym (text_after s q before e) in
      let all : each_after (entry_text s q) [] (take (count + 1) entries)
      ≡ each_after (entry_text s q) [] before ++ entry_text s q before e =
      ap (each_after (entry_text s q) []) longer ∙ each_after-snoc (entry_text s q) before e in
      let then : next ≡ running_of s q (take (count + 1) entries) =
      next_is ∙ ap (λ (n : Running). after_entry s q n closed e) h.numbers
      ∙ ap (λ (o : Option Opportunity). after_entry s q (running_of s q before) o e) closed_is
      ∙ sym (running_after s q before e) ∙ ap (running_of s q) (sym longer) in
      record {
        written = subst (Appends start mid) (sym all)
            (Appends-trans start now mid (each_after (entry_text s q) [] before) (entry_text s q before e)
            h.written (subst (Appends now mid) told one));
        numbers = then;
        small = subst (λ (n : Running). IsSmall n (count + 1)) (sym next_is)
            (one_small s q r closed e count h.small);
      }

  -- the lines of the frames that wait come last
  pub along_all : {A E : Type 0} (result : Result A E) (count : ℕ) (now new : Option (List ℕ)) (r : Running)
      → length entries ≤ count → IsAlong s q entries count start now r
      → OnOk result (Appends now new (waiting_text r))
      → OnOk result (Appends start new (frames_text s q entries))
  along_all (Err e) count now new r all h last = tt
  along_all (Ok x) count now new r all h last =
      let whole : take count entries ≡ entries = take_all count entries all in
      let numbers : r ≡ running_of s q entries = h.numbers ∙ ap (running_of s q) whole in
      let t = running_of s q entries in
      let within : t.held ≤ t.stored = queue_length-arrived q.capacity (moves s.params s.plan q entries) in
      let many : t.stored - oldest_in t ≡ t.held = omega (arith, within) in
      let told : waiting_text r
      ≡ flat_map waiting_line (range_with_len (oldest_in t) t.held) =
      ap waiting_text numbers
      ∙ ap (λ (n : ℕ). flat_map waiting_line (range_with_len (oldest_in t) n)) many in
      Appends-trans start now new (each_after (entry_text s q) [] entries)
      (flat_map waiting_line (range_with_len (oldest_in t) t.held))
      (subst (λ (es : List Entry). Appends start now (each_after (entry_text s q) [] es)) whole h.written)
      (subst (Appends now new) told last)
