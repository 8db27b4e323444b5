-- The status counters, with one more entry.
use Rattle.std.proofs.Common.{◌≡◌, ℕ, ◌+◌, ◌^◌, ◌≤◌, Bool, true, false, cond, List, [], ◌∷◌, ◌++◌, length, Option, Some}
use Rattle.std.proofs.Common.{None, refl, ap, ◌∙◌, arith, option_map}
use Rattle.fr_interface.specs.Known.{with_seen}
use Rattle.fr_interface.specs.Seeing.{status_seen}
use Rattle.fr_journal.specs.Counts.{bit_at, bit_in, has_bit, count_of, seen_on, counters_of}
use Rattle.fr_journal.specs.Forms.{Entry}
use Rattle.fr_journal.specs.declared.entry.Entry.TheVariants.{Observe}
use Rattle.fr_journal.specs.OpenWindow.{open_window}
use Rattle.fr_slots.specs.declared.channel.Channel.{Channel}
use Rattle.fr_slots.specs.declared.channel.Channel.TheVariants.{A, B}
use Rattle.fr_slots.specs.History.{count_after}
use Rattle.fr_slots.specs.Parameters.{Parameters}
use Rattle.fr_slots.specs.Windows.{Opportunity, slot_of}
use Rattle.fr_slots.proofs.HistoryLemmas.{count_after-snoc}
use Rattle.fr_status.specs.Counting.{digit, with_bits, FitsBits, HasRoom}
use Rattle.fr_status.specs.declared.counters.Counters.{Counters}
use Rattle.fr_status.specs.Forms.{Seen}
use Rattle.fr_status.specs.declared.status.SlotStatus.{SlotStatus}
use Rattle.fr_status.specs.Status.{status_in}

-- five counts in their order
abbrev five : ((SlotStatus → Bool) → ℕ) → List ℕ
five count = count (λ s. s.valid) ∷ count (λ s. s.syntax) ∷ count (λ s. s.content) ∷ count (λ s. s.boundary) ∷ count
    (λ s. s.conflict) ∷ []

abbrev counts_on : Parameters → Channel → List Entry → (SlotStatus → Bool) → ℕ
counts_on params channel entries bit = count_of bit params channel entries

pub counters-none : (params : Parameters) → counters_of params [] ≡
    record { a = 0 ∷ 0 ∷ 0 ∷ 0 ∷ 0 ∷ []; b = 0 ∷ 0 ∷ 0 ∷ 0 ∷ 0 ∷ [] }
unfolding count_after
counters-none params = refl

-- ---- an entry without a bit

unmoved : (params : Parameters) (channel : Channel) (bit : SlotStatus → Bool) (xs : List Entry) (e : Entry)
    → has_bit bit params channel xs e ≡ false
    → count_of bit params channel (xs ++ e ∷ []) ≡ count_of bit params channel xs
unmoved params channel bit xs e none =
    let zero_more : digit (has_bit bit params channel xs e) ≡ 0 = ap digit none in
    omega (arith, count_after-snoc (has_bit bit params channel) xs e, zero_more)

pub counters-other : (params : Parameters) (xs : List Entry) (e : Entry)
    → ((bit : SlotStatus → Bool) (channel : Channel) → has_bit bit params channel xs e ≡ false)
    → counters_of params (xs ++ e ∷ []) ≡ counters_of params xs
counters-other params xs e none =
    let same : (channel : Channel) (bit : SlotStatus → Bool)
    → count_of bit params channel (xs ++ e ∷ []) ≡ count_of bit params channel xs =
    λ channel bit. unmoved params channel bit xs e (none bit channel) in
    λ i. record { a = five (λ bit. same A bit i); b = five (λ bit. same B bit i) }

-- ---- an observed window

abbrev bit_of : (SlotStatus → Bool) → Option SlotStatus → Bool
bit_of bit None = false
bit_of bit (Some s) = bit s

bit_of_slot : (bit : SlotStatus → Bool) (params : Parameters) (window : Opportunity) (channel : Channel) (seen : Seen)
    (slot : Option ℕ)
    → bit_at bit params window channel seen slot ≡ bit_of bit
    (option_map (λ n. status_in params window.cycle n channel seen) slot)
bit_of_slot bit params window channel seen None = refl
bit_of_slot bit params window channel seen (Some slot) = refl

-- the five counts with the bits of one more status, if there is one
abbrev with_told : List ℕ → Option SlotStatus → List ℕ
with_told counts None = counts
with_told counts (Some s) = with_bits counts s

told : (old new : (SlotStatus → Bool) → ℕ) (o : Option SlotStatus)
    → ((bit : SlotStatus → Bool) → new bit ≡ old bit + digit (bit_of bit o)) → five new ≡ with_told (five old) o
told old new None more =
    let same : (bit : SlotStatus → Bool) → new bit ≡ old bit = λ bit. omega (arith, more bit) in
    λ i. five (λ bit. same bit i)
told old new (Some s) more = λ i. five (λ bit. more bit i)

module _ (params : Parameters) (xs : List Entry) (n : ℕ) (a b : Seen) (window : Opportunity)
    (opened : open_window xs ≡ Some window) where
  more_on : (channel : Channel) (bit : SlotStatus → Bool)
      → count_of bit params channel (xs ++ Observe n a b ∷ []) ≡ count_of bit params channel xs + digit
      (bit_of bit (status_seen params window channel (seen_on channel a b)))
  more_on channel bit =
      let here : has_bit bit params channel xs (Observe n a b) ≡ bit_of bit
      (status_seen params window channel (seen_on channel a b)) =
      ap (bit_in bit params channel a b) opened ∙ bit_of_slot bit params window channel (seen_on channel a b)
      (slot_of window channel) in
      count_after-snoc (has_bit bit params channel) xs (Observe n a b) ∙ ap
      (λ (t : Bool). count_of bit params channel xs + digit t) here

  pub counters-observe : counters_of params (xs ++ Observe n a b ∷ []) ≡ with_seen
      (with_seen (counters_of params xs) A (status_seen params window A a)) B (status_seen params window B b)
  counters-observe =
      (λ i. record {
        a = told (counts_on params A xs) (counts_on params A (xs ++ Observe n a b ∷ [])) (status_seen params window A a)
            (more_on A) i;
        b = told (counts_on params B xs) (counts_on params B (xs ++ Observe n a b ∷ [])) (status_seen params window B b)
            (more_on B) i;
      }) ∙ both (counters_of params xs) (status_seen params window A a) (status_seen params window B b)
    where
      both : (c : Counters) (sa sb : Option SlotStatus) → (let t : Counters =
          record { a = with_told c.a sa; b = with_told c.b sb } in t) ≡ with_seen (with_seen c A sa) B sb
      both c None None = refl
      both c None (Some s) = refl
      both c (Some s) None = refl
      both c (Some s) (Some t) = refl

-- ---- room for one more slot

digit_most : (t : Bool) → cond t 1 0 ≤ 1
digit_most true = omega arith
digit_most false = omega arith

count_most_from : (test : List Entry → Entry → Bool) (before xs : List Entry) → count_after test before xs ≤ length xs
unfolding count_after
count_most_from test before [] = omega arith
count_most_from test before (x ∷ xs) = omega (
  arith,
  digit_most (test before x),
  count_most_from test (before ++ x ∷ []) xs,
)

count_most : (bit : SlotStatus → Bool) (params : Parameters) (channel : Channel) (xs : List Entry)
    → count_of bit params channel xs ≤ length xs
count_most bit params channel xs = count_most_from (has_bit bit params channel) [] xs

fits_on : (params : Parameters) (channel : Channel) (xs : List Entry) (s : SlotStatus) → length xs + 2 ≤ 2 ^ 32
    → FitsBits (five (counts_on params channel xs)) s
fits_on params channel xs s few = record {
  valid = omega (arith, few, count_most (λ t. t.valid) params channel xs, digit_most s.valid);
  syntax = omega (arith, few, count_most (λ t. t.syntax) params channel xs, digit_most s.syntax);
  content = omega (arith, few, count_most (λ t. t.content) params channel xs, digit_most s.content);
  boundary = omega (arith, few, count_most (λ t. t.boundary) params channel xs, digit_most s.boundary);
  conflict = omega (arith, few, count_most (λ t. t.conflict) params channel xs, digit_most s.conflict);
}

pub room_on_a : (params : Parameters) (xs : List Entry) (s : SlotStatus) → length xs + 2 ≤ 2 ^ 32
    → HasRoom (counters_of params xs) A s
room_on_a params xs s few = fits_on params A xs s few

pub room_on_b : (params : Parameters) (xs : List Entry) (o : Option SlotStatus) (s : SlotStatus)
    → length xs + 2 ≤ 2 ^ 32 → HasRoom (with_seen (counters_of params xs) A o) B s
room_on_b params xs None s few = fits_on params B xs s few
room_on_b params xs (Some t) s few = fits_on params B xs s few
