-- The words of a fetch and of an observe, read one after another.
use Rattle.std.proofs.Common.{◌≡◌, ℕ, ◌<◌, ◌^◌, List, [], ◌∷◌, drop, Option, Some, None, refl, sym, ◌∙◌, arith, false}
use Rattle.fr_frame.specs.Payload.{most_frame_bytes}
use Rattle.fr_journal.specs.declared.entry.Entry.TheVariants.{Fetch}
use Rattle.fr_journal.specs.declared.entry.Offered.{Offered}
use Rattle.fr_journal.specs.declared.entry.Offered.TheVariants as offered
use Rattle.fr_lines.proofs.PartLemmas.{offered_again, seen_again}
use Rattle.fr_lines.specs.PartReading.{slot_in, optional_slot_in, offered_in, seen_in, window_of, window_in}
use Rattle.fr_lines.specs.Parts.{absent}
use Rattle.fr_lines.specs.Reading.{window_first, fetch_in}
use Rattle.fr_slots.specs.Numbers.{last_slot, number_within}
use Rattle.fr_slots.specs.Windows.{Opportunity}
use Rattle.fr_status.specs.declared.seen.Seen.TheVariants as seen
use Rattle.fr_text.proofs.HexTextLemmas.{bytes_takes}
use Rattle.fr_text.proofs.NumberLemmas.{number_takes, decimal_other}
use Rattle.fr_text.specs.Reading.{◌>>=◌, number_in, bytes_in, first_in}
use Rattle.std.specs.Fmt.{decimal}
use Rattle.std.specs.Str.{bytes_eq}

-- a second step that always gives nothing
never : {A B : Type 0} (o : Option A) (f : A → Option B) → ((x : A) → f x ≡ None) → (o >>= f) ≡ None
never None f none = refl
never (Some x) f none = none x

-- ---- numbers

pub first_data : (words : List (List ℕ)) (n : ℕ) → n < 2 ^ 32 → first_in (number_in (2 ^ 32)) words ≡ Some n
    → first_in offered_in words ≡ Some (offered.Data n)
first_data [] n small h = cc h
first_data (word ∷ words) n small h = rw (← (number_takes (2 ^ 32) word n h).0) (offered_again (offered.Data n) small)

slot_by : (word : List ℕ) (n : ℕ) → number_in 2048 word ≡ Some n
    → optional_slot_in word ≡ (number_within 1 last_slot n >>= (λ s. Some (Some s)))
unfolding optional_slot_in slot_in
slot_by word n h =
    let takes = number_takes 2048 word n h in
    let other : bytes_eq (decimal n) absent ≡ false = decimal_other n absent (omega (arith, takes.1)) refl in
    rw (rw takes.0 at other, h) refl

first_slot : (words : List (List ℕ)) (n : ℕ) → first_in (number_in 2048) words ≡ Some n
    → first_in optional_slot_in words ≡ (number_within 1 last_slot n >>= (λ s. Some (Some s)))
first_slot [] n h = cc h
first_slot (word ∷ words) n h = slot_by word n h

pub no_first_slot : (words : List (List ℕ)) (n : ℕ) → first_in (number_in 2048) words ≡ Some n
    → number_within 1 last_slot n ≡ None → first_in optional_slot_in words ≡ None
no_first_slot words n h none = first_slot words n h ∙ rw none refl

pub a_first_slot : (words : List (List ℕ)) (n s : ℕ) → first_in (number_in 2048) words ≡ Some n
    → number_within 1 last_slot n ≡ Some s → first_in optional_slot_in words ≡ Some (Some s)
a_first_slot words n s h some = first_slot words n h ∙ rw some refl

-- ---- five words, one after another

abbrev pub window_steps : List (List ℕ) → Option Opportunity
window_steps ws =
    first_in (number_in (2 ^ 32)) ws >>= (λ n.
    first_in (number_in 64) (drop 1 ws) >>= (λ c.
    first_in (number_in 8001) (drop 1 (drop 1 ws)) >>= (λ m.
    first_in optional_slot_in (drop 1 (drop 1 (drop 1 ws))) >>= (λ a.
    first_in optional_slot_in (drop 1 (drop 1 (drop 1 (drop 1 ws)))) >>= (λ b.
    window_of n c m a b)))))

pub window_by_steps : (ws : List (List ℕ)) → window_first ws ≡ window_steps ws
unfolding window_first window_in
window_by_steps [] = refl
window_by_steps (n ∷ []) = sym (never (number_in (2 ^ 32) n) _ (λ x. refl))
window_by_steps (n ∷ c ∷ []) = sym (never (number_in (2 ^ 32) n) _ (λ x. never (number_in 64 c) _ (λ y. refl)))
window_by_steps (n ∷ c ∷ m ∷ []) =
    sym (never (number_in (2 ^ 32) n) _ (λ x. never (number_in 64 c) _ (λ y. never (number_in 8001 m) _ (λ z. refl))))
window_by_steps (n ∷ c ∷ m ∷ a ∷ []) =
    sym (never (number_in (2 ^ 32) n) _ (λ x. never (number_in 64 c) _ (λ y.
    never (number_in 8001 m) _ (λ z. never (optional_slot_in a) _ (λ s. refl)))))
window_by_steps (n ∷ c ∷ m ∷ a ∷ b ∷ ws) = refl

-- ---- a fetch

pub no_window : (ws : List (List ℕ)) → window_first ws ≡ None → fetch_in ws ≡ None
unfolding window_first fetch_in
no_window [] h = refl
no_window (n ∷ []) h = refl
no_window (n ∷ c ∷ []) h = refl
no_window (n ∷ c ∷ m ∷ []) h = refl
no_window (n ∷ c ∷ m ∷ a ∷ []) h = refl
no_window (n ∷ c ∷ m ∷ a ∷ b ∷ []) h = refl
no_window (n ∷ c ∷ m ∷ a ∷ b ∷ x ∷ []) h = refl
no_window (n ∷ c ∷ m ∷ a ∷ b ∷ x ∷ y ∷ []) h = rw h refl
no_window (n ∷ c ∷ m ∷ a ∷ b ∷ x ∷ y ∷ z ∷ ws) h = refl

pub a_fetch : (ws rest last : List (List ℕ)) (w : Opportunity) (p q : Offered) → window_first ws ≡ Some w
    → rest ≡ drop 5 ws
    → first_in offered_in rest ≡ Some p → last ≡ drop 1 rest → first_in offered_in last ≡ Some q → drop 1 last ≡ []
    → fetch_in ws ≡ Some (Fetch w p q)
unfolding window_first fetch_in
a_fetch [] rest last w p q h5 d5 hp d6 hq d7 = cc h5
a_fetch (n ∷ []) rest last w p q h5 d5 hp d6 hq d7 = cc h5
a_fetch (n ∷ c ∷ []) rest last w p q h5 d5 hp d6 hq d7 = cc h5
a_fetch (n ∷ c ∷ m ∷ []) rest last w p q h5 d5 hp d6 hq d7 = cc h5
a_fetch (n ∷ c ∷ m ∷ a ∷ []) rest last w p q h5 d5 hp d6 hq d7 = cc h5
a_fetch (n ∷ c ∷ m ∷ a ∷ b ∷ []) rest last w p q h5 d5 hp d6 hq d7 = cc (rw d5 at hp)
a_fetch (n ∷ c ∷ m ∷ a ∷ b ∷ x ∷ []) rest last w p q h5 d5 hp d6 hq d7 = cc (rw (d6, d5) at hq)
a_fetch (n ∷ c ∷ m ∷ a ∷ b ∷ x ∷ y ∷ []) rest last w p q h5 d5 hp d6 hq d7 =
    let read_p : offered_in x ≡ Some p = rw d5 at hp in
    let read_q : offered_in y ≡ Some q = rw (d6, d5) at hq in
    rw (h5, read_p, read_q) refl
a_fetch (n ∷ c ∷ m ∷ a ∷ b ∷ x ∷ y ∷ z ∷ ws) rest last w p q h5 d5 hp d6 hq d7 = cc (rw (d6, d5) at d7)

-- ---- the observation on a channel

pub first_seen : (words : List (List ℕ)) (bytes : List ℕ) → first_in (bytes_in most_frame_bytes) words ≡ Some bytes
    → Some (seen.Bytes (record { items = bytes })) ≡ first_in seen_in words
first_seen [] bytes h = cc h
first_seen (word ∷ words) bytes h =
    let takes = bytes_takes most_frame_bytes word bytes h in
    sym (rw takes.0 (seen_again (seen.Bytes (record { items = bytes })) (takes.1, takes.2)))
