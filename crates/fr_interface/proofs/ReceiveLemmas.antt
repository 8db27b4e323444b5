-- The content of receive buffers, with one more entry.
use Rattle.std.proofs.Common.{◌≡◌, ℕ, zero, suc, ◌<◌, Bool, true, false, cond, List, [], ◌∷◌, ◌++◌, take, set, get_or}
use Rattle.std.proofs.Common.{length, map, Option, Some, None, refl, sym, ap, ◌∙◌, arith}
use Rattle.std.specs.Option.{option_and_then, option_or}
use Rattle.fr_frame.specs.Fields.{Fields}
use Rattle.fr_interface.specs.Known.{held_in, taken_by, stored_all}
use Rattle.fr_journal.specs.Cycles.{moment_after}
use Rattle.fr_journal.specs.declared.entry.Arrival.{Arrival}
use Rattle.fr_journal.specs.declared.entry.Moment.{Moment}
use Rattle.fr_journal.specs.Forms.{Entry}
use Rattle.fr_journal.specs.declared.entry.Entry.TheVariants.{Observe}
use Rattle.fr_journal.specs.Held.{held, arrival_at, arrival_in, data_frame_seen}
use Rattle.fr_journal.specs.OpenWindow.{open_window}
use Rattle.fr_slots.specs.declared.channel.Channel.TheVariants.{A, B}
use Rattle.fr_slots.specs.declared.filter.Filter.{Filter}
use Rattle.fr_slots.specs.declared.plan.Buffer.{Buffer}
use Rattle.fr_slots.specs.History.{last_after}
use Rattle.fr_slots.specs.Parameters.{Parameters}
use Rattle.fr_slots.specs.Plans.{is_receive}
use Rattle.fr_slots.specs.Windows.{Opportunity}
use Rattle.fr_slots.proofs.HistoryLemmas.{last_after-snoc}
use Rattle.fr_status.specs.Forms.{Seen}

-- ---- one buffer

never_held : (params : Parameters) (f : Filter) → held params f [] ≡ None
unfolding last_after
never_held params f = refl

held_at_first : (params : Parameters) (b : Buffer) (t : Bool) → cond t (held params b.filter []) None ≡ None
held_at_first params b true = never_held params b.filter
held_at_first params b false = refl

pub held-none : (params : Parameters) (lines : List Buffer) → map (held_in params []) lines ≡ map
    (λ (b : Buffer). let none : Option Arrival = None in none) lines
held-none params [] = refl
held-none params (b ∷ lines) = λ i. held_at_first params b (is_receive b.mode) i ∷ held-none params lines i

same_held : (params : Parameters) (xs : List Entry) (e : Entry) (f : Filter) → arrival_at params f xs e ≡ None
    → held params f (xs ++ e ∷ []) ≡ held params f xs
same_held params xs e f none = last_after-snoc (arrival_at params f) xs e ∙ ap
    (λ (o : Option Arrival). option_or o (held params f xs)) none

-- an entry without a frame leaves all buffers unchanged
pub held-other : (params : Parameters) (xs : List Entry) (e : Entry) (lines : List Buffer)
    → ((f : Filter) → arrival_at params f xs e ≡ None)
    → map (held_in params (xs ++ e ∷ [])) lines ≡ map (held_in params xs) lines
held-other params xs e [] none = refl
held-other params xs e (b ∷ lines) none =
    λ i. cond (is_receive b.mode) (same_held params xs e b.filter (none b.filter) i) None ∷ held-other params xs e lines
    none i

-- ---- an observed window

module _ (params : Parameters) (xs : List Entry) (n : ℕ) (a b : Seen) (window : Opportunity)
    (opened : open_window xs ≡ Some window) where
  held_after : (f : Filter) → held params f (xs ++ Observe n a b ∷ []) ≡ option_or
      (arrival_in params f (moment_after xs) a b window) (held params f xs)
  held_after f =
      last_after-snoc (arrival_at params f) xs (Observe n a b)
      ∙ ap (λ (o : Option Opportunity). option_or (option_and_then (arrival_in params f (moment_after xs) a b) o)
      (held params f xs)) opened

  stored : (t : Bool) (x y z : Option Arrival) → z ≡ option_or x y
      → option_or (cond t x None) (cond t y None) ≡ cond t z None
  stored true x y z is = sym is
  stored false x y z is = refl

  pub held-observe : (lines : List Buffer)
      → stored_all (moment_after xs) window (data_frame_seen params window A a)
      (data_frame_seen params window B b) lines (map (held_in params xs) lines)
      ≡ map (held_in params (xs ++ Observe n a b ∷ [])) lines
  held-observe [] = refl
  held-observe (line ∷ lines) = λ i.
      stored (is_receive line.mode) (arrival_in params line.filter (moment_after xs) a b window)
      (held params line.filter xs) (held params line.filter (xs ++ Observe n a b ∷ [])) (held_after line.filter) i
      ∷ held-observe lines i

-- ---- one buffer after another

module _ (moment : Moment) (window : Opportunity) (a b : Option Fields) where
  pub stored_all-more : (lines : List Buffer) (held : List (Option Arrival)) (i : ℕ) (line : Buffer)
      (h : Option Arrival) → i < length lines → length held ≡ length lines
      → line ≡ get_or lines i line → h ≡ get_or (stored_all moment window a b (take i lines) held) i h
      → set (stored_all moment window a b (take i lines) held) i (option_or (taken_by moment window a b line) h)
      ≡ stored_all moment window a b (take (suc i) lines) held
  stored_all-more [] held i line h lt same is was = absurd (omega (arith, lt))
  stored_all-more (l ∷ ls) [] i line h lt same is was = absurd (omega (arith, same))
  stored_all-more (l ∷ ls) (x ∷ xs) zero line h lt same is was =
      λ i. option_or (taken_by moment window a b (is i)) (was i) ∷ xs
  stored_all-more (l ∷ ls) (x ∷ xs) (suc n) line h lt same is was =
      ap (λ (rest : List (Option Arrival)). option_or (taken_by moment window a b l) x ∷ rest)
      (stored_all-more ls xs n line h (omega (arith, lt)) (omega (arith, same)) is was)
