-- Each babble and each muted offer of a record has the number of its fault line.
use Rattle.std.proofs.Common.{◌≡◌, ℕ, zero, suc, ◌+◌, ◌<◌, ◌==◌, Bool, true, false, not, cond, ◌&&◌, ◌||◌, List, []}
use Rattle.std.proofs.Common.{◌∷◌, length, Option, Some, None, inl, inr, refl, sym, ap, ◌∙◌, arith, slice_get, is_some}
use Rattle.std.proofs.lemmas.Bool.{and_parts, cases_Bool, eqb-true, eq-eqb, le-ltb, lt-ltb, and_from, or_right, or_left}
use Rattle.std.proofs.lemmas.Bool.{or_parts}
use Rattle.std.specs.List.{list_any, position_or_len}
use Rattle.std.specs.Option.{option_and_then, option_or}
use Rattle.std.specs.Prelude.{position, nat_lt}
use Rattle.arrayvec.specs.ArrayVec.{ArrayVec}
use Rattle.std.proofs.Math.Bool.{and-false}
use Rattle.fr_bus.specs.declared.fault.Fault.{Fault}
use Rattle.fr_bus.specs.declared.fault.Fault.TheVariants.{Babble, Mute, Corrupt}
use Rattle.fr_bus.specs.declared.outcome.Sent.{Sent}
use Rattle.fr_bus.specs.Outcome.{is_of}
use Rattle.fr_bus.specs.Record.{Recorded, recordable}
use Rattle.fr_concord.specs.FaultLines.{is_fault, AreFaultsNumbered, AreOffersUnnumbered}
use Rattle.fr_core.proofs.ScriptLemmas.{get_within}
use Rattle.fr_guarantees.proofs.HeardLemmas.{same_channel}
use Rattle.fr_runs.specs.declared.fault_line.FaultLine.{FaultLine}
use Rattle.fr_runs.specs.Faulted.{bytes_babbled, loses, babble_by, babble_due, is_lost_by, is_loss_due, is_muted}
use Rattle.fr_runs.specs.Faulted.{is_babble_of, babble_in, HasFaults}
use Rattle.fr_runs.specs.Striking.{strikes}
use Rattle.fr_scenario.specs.Contents.{Contents}
use Rattle.fr_runs.specs.Effects.{is_sent_by, brings}
use Rattle.fr_showing.specs.Origins.{has_brought}
use Rattle.fr_slots.specs.Admission.{is_channel}
use Rattle.fr_slots.specs.declared.channel.Channel.{Channel}
use Rattle.fr_slots.specs.declared.channel.Channel.TheVariants.{A, B}
use Rattle.fr_slots.specs.Windows.{Opportunity, slot_of}

-- ---- the first element that passes

record IsFirst {X : Type 0} (p : X → Bool) (xs : List X) : Type 0 where
  place : ℕ
  element : X
  at : slice_get xs place ≡ Some element
  passes : p element ≡ true
  place_is : position_or_len p xs ≡ place
  within : place < length xs

pub rest_passes : (b c : Bool) → b ≡ false → (b || c) ≡ true → c ≡ true
rest_passes true c fail any = absurd (let none : ⊥ = cc fail in none)
rest_passes false c fail any = any

first_of : {X : Type 0} (p : X → Bool) (xs : List X) → list_any p xs ≡ true → IsFirst p xs
first_of p [] any = absurd (let none : ⊥ = cc any in none)
first_of p (x ∷ xs) any =
    elim (cases_Bool (p x)) [
      | inl pass ↦
          record {
            place = 0;
            element = x;
            at = refl;
            passes = pass;
            place_is = ap (λ (b : Bool). cond (not b) (1 + position_or_len p xs) 0) pass;
            within = omega arith;
          }
      | inr fail ↦
          let rest = first_of p xs (rest_passes (p x) (list_any p xs) fail any) in
          let place_is = rest.place_is in
          let within = rest.within in
          let next : 1 + position_or_len p xs ≡ suc rest.place = omega (arith, place_is) in
          record {
            place = suc rest.place;
            element = rest.element;
            at = rest.at;
            passes = rest.passes;
            place_is = ap (λ (b : Bool). cond (not b) (1 + position_or_len p xs) 0) fail ∙ next;
            within = omega (arith, within);
          }
    ]

position_is : {X : Type 0} (p : X → Bool) (xs : List X) (first : IsFirst p xs) → position p xs ≡ Some first.place
position_is p xs first =
    ap (λ (n : ℕ). cond (nat_lt n (length xs)) (Some n) None) first.place_is
    ∙ ap (λ (b : Bool). cond b (Some first.place) None) (lt-ltb first.place (length xs) first.within)

none_passes : {X : Type 0} (p : X → Bool) (xs : List X) → list_any p xs ≡ false → position_or_len p xs ≡ length xs
none_passes p [] none = refl
none_passes p (x ∷ xs) none =
    let both = or_parts (p x) (list_any p xs) none in
    let rest = none_passes p xs both.1 in
    let next : 1 + position_or_len p xs ≡ suc (length xs) = omega (arith, rest) in
    ap (λ (b : Bool). cond (not b) (1 + position_or_len p xs) 0) both.0 ∙ next

no_position : {X : Type 0} (p : X → Bool) (xs : List X) → list_any p xs ≡ false → position p xs ≡ None
no_position p xs none =
    ap (λ (n : ℕ). cond (nat_lt n (length xs)) (Some n) None) (none_passes p xs none)
    ∙ ap (λ (b : Bool). cond b (Some (length xs)) None) (le-ltb (length xs) (length xs) (omega arith))

-- ---- faults and the transmissions that they bring

turned : (c d : Channel) → is_channel c d ≡ true → is_channel d c ≡ true
turned A A is = refl
turned A B is = is
turned B A is = is
turned B B is = refl

turned_number : (m n : ℕ) → (m == n) ≡ true → (n == m) ≡ true
turned_number m n is = eq-eqb n m (sym (eqb-true m n is))

-- the node of the fault sent it on the channel of the fault
sent_so : (t : Sent) (node : ℕ) (on : Channel) → (node == t.node && is_channel on t.channel) ≡ true
    → is_sent_by node on t ≡ true
sent_so t node on is =
    let both = and_parts (node == t.node) (is_channel on t.channel) is in
    and_from (is_of node t) (is_channel t.channel on) (turned_number node t.node both.0)
    (turned on t.channel both.1)

lost_brings : (t : Sent) (f : Fault) → is_muted t.fate ≡ true → loses t.node t.channel f ≡ true → brings t f ≡ true
lost_brings t (Babble node on bytes) muted is = absurd (let none : ⊥ = cc is in none)
lost_brings t (Mute node on) muted is =
    and_from (is_muted t.fate) (is_sent_by node on t) muted (sent_so t node on is)
lost_brings t (Corrupt on bit) muted is = absurd (let none : ⊥ = cc is in none)

some_if : {X : Type 0} (b : Bool) (x : X) → is_some (cond b (Some x) None) ≡ true → b ≡ true
some_if true x is = refl
some_if false x is = absurd (let none : ⊥ = cc is in none)

babbled_brings : (t : Sent) (f : Fault) → t.babble ≡ true → is_some (bytes_babbled t.node t.channel f) ≡ true
    → brings t f ≡ true
babbled_brings t (Babble node on bytes) babble is =
    and_from t.babble (is_sent_by node on t) babble
    (sent_so t node on (some_if (node == t.node && is_channel on t.channel) bytes is))
babbled_brings t (Mute node on) babble is = absurd (let none : ⊥ = cc is in none)
babbled_brings t (Corrupt on bit) babble is = absurd (let none : ⊥ = cc is in none)

no_fault_brings : (t : Sent) (f : Fault) → is_fault t ≡ false → brings t f ≡ false
no_fault_brings t (Babble node on bytes) none =
    ap (λ (b : Bool). b && is_sent_by node on t) (or_parts t.babble (is_muted t.fate) none).0
no_fault_brings t (Mute node on) none =
    ap (λ (b : Bool). b && is_sent_by node on t) (or_parts t.babble (is_muted t.fate) none).1
no_fault_brings t (Corrupt on bit) none = refl

-- ---- the lines of a window

module _ (cycle : ℕ) (w : Opportunity) (t : Sent) where
  muted_due : (lines : List FaultLine) → is_muted t.fate ≡ true → is_loss_due lines cycle w t.node t.channel ≡ true
      → list_any (has_brought cycle w t) lines ≡ true
  muted_due [] muted due = absurd (let none : ⊥ = cc due in none)
  muted_due (line ∷ lines) muted due =
      elim (cases_Bool (is_lost_by cycle w t.node t.channel line)) [
        | inl here ↦
            let both = and_parts (strikes line cycle w) (loses t.node t.channel line.fault) here in
            or_left (has_brought cycle w t line) (list_any (has_brought cycle w t) lines)
            (and_from (strikes line cycle w) (brings t line.fault) both.0
            (lost_brings t line.fault muted both.1))
        | inr other ↦
            let later = rest_passes (is_lost_by cycle w t.node t.channel line)
            (is_loss_due lines cycle w t.node t.channel) other due in
            or_right (has_brought cycle w t line) (list_any (has_brought cycle w t) lines)
            (muted_due lines muted later)
      ]

  by_line : (b : Bool) (line : FaultLine) → strikes line cycle w ≡ b → t.babble ≡ true
      → is_some (cond b (bytes_babbled t.node t.channel line.fault) None) ≡ true → has_brought cycle w t line ≡ true
  by_line true line is babble some =
      and_from (strikes line cycle w) (brings t line.fault) is (babbled_brings t line.fault babble some)
  by_line false line is babble some = absurd (let none : ⊥ = cc some in none)

  or_some : (x y : Option (ArrayVec ℕ)) → is_some x ≡ false → is_some (option_or x y) ≡ true → is_some y ≡ true
  or_some None y none some = some
  or_some (Some x) y none some = absurd (let no_way : ⊥ = cc none in no_way)

  babble_is_due : (lines : List FaultLine) → t.babble ≡ true
      → is_some (babble_due lines cycle w t.node t.channel) ≡ true
      → list_any (has_brought cycle w t) lines ≡ true
  babble_is_due [] babble due = absurd (let none : ⊥ = cc due in none)
  babble_is_due (line ∷ lines) babble due =
      elim (cases_Bool (is_some (babble_by line cycle w t.node t.channel))) [
        | inl here ↦
            or_left (has_brought cycle w t line) (list_any (has_brought cycle w t) lines)
            (by_line (strikes line cycle w) line refl babble here)
        | inr other ↦
            or_right (has_brought cycle w t line) (list_any (has_brought cycle w t) lines)
            (babble_is_due lines babble (or_some (babble_by line cycle w t.node t.channel)
            (babble_due lines cycle w t.node t.channel) other due))
      ]

  none_brought : (lines : List FaultLine) → is_fault t ≡ false → list_any (has_brought cycle w t) lines ≡ false
  none_brought [] none = refl
  none_brought (line ∷ lines) none =
      rw (no_fault_brings t line.fault none, and-false (strikes line cycle w), none_brought lines none) refl

own_babble : (t : Sent) → t.babble ≡ true → is_babble_of t.channel t.node t ≡ true
own_babble t babble = and_from (t.node == t.node && is_channel t.channel t.channel) t.babble
    (and_from (t.node == t.node) (is_channel t.channel t.channel) (eq-eqb t.node t.node refl)
    (same_channel t.channel)) babble

some_first : {X : Type 0} (b : Bool) (x : X) (o : Option X) → is_some o ≡ true → is_some (cond b (Some x) o) ≡ true
some_first true x o is = refl
some_first false x o is = is

babble_there : (sent : List Sent) (k : ℕ) (t : Sent) → slice_get sent k ≡ Some t → t.babble ≡ true
    → is_some (babble_in t.channel t.node sent) ≡ true
babble_there [] k t at babble = absurd (let none : ⊥ = cc at in none)
babble_there (x ∷ sent) zero t at babble =
    let is : x ≡ t = cc at in
    let passes : is_babble_of t.channel t.node x ≡ true =
    ap (is_babble_of t.channel t.node) is ∙ own_babble t babble in
    ap (λ (b : Bool). is_some (cond b (Some x.bytes) (babble_in t.channel t.node sent))) passes
babble_there (x ∷ sent) (suc k) t at babble =
    some_first (is_babble_of t.channel t.node x) x.bytes (babble_in t.channel t.node sent)
    (babble_there sent k t at babble)

-- ---- the laws

either : (b c : Bool) → (b || c) ≡ true → b ≡ false → c ≡ true
either true c any none = absurd (let no_way : ⊥ = cc none in no_way)
either false c any none = any

-- a babble that is recorded is one
recorded_some : (slot : Option ℕ) (o : Option (ArrayVec ℕ)) → is_some (recordable slot o) ≡ true → is_some o ≡ true
recorded_some None o some = absurd (let none : ⊥ = cc some in none)
recorded_some (Some slot) None some = some
recorded_some (Some slot) (Some bytes) some = refl

brought : (s : Contents) (cycle : ℕ) (r : Recorded) (k : ℕ) (t : Sent) → HasFaults s.faults cycle r
    → slice_get r.sent k ≡ Some t → is_fault t ≡ true → list_any (has_brought cycle r.window t) s.faults ≡ true
brought s cycle r k t has at fault =
    elim (cases_Bool t.babble) [
      | inl babble ↦
          let there = babble_there r.sent k t at babble in
          let due = recorded_some (slot_of r.window t.channel)
          (babble_due s.faults cycle r.window t.node t.channel)
          (sym (ap is_some (has.babbles t.node t.channel)) ∙ there) in
          babble_is_due cycle r.window t s.faults babble due
      | inr offer ↦
          let muted = either t.babble (is_muted t.fate) fault offer in
          let loss = and_parts (not t.babble) (is_loss_due s.faults cycle r.window t.node t.channel)
          (sym (has.losses k t at) ∙ muted) in
          muted_due cycle r.window t s.faults muted loss.1
    ]

pub faults_numbered : AreFaultsNumbered
faults_numbered s cycle r k t same has at fault =
    let holds = has_brought cycle r.window t in
    let first = first_of holds s.faults (brought s cycle r k t has at fault) in
    let within = first.within in
    let number = get_within s.numbers first.place (omega (arith, within, same)) in
    let both = and_parts (strikes first.element cycle r.window) (brings t first.element.fault) first.passes in
    record {
      place = first.place;
      line = first.element;
      number = number.0;
      line_is = first.at;
      number_is = number.1;
      takes_effect = both.0;
      brings_it = both.1;
      named = ap (option_and_then (slice_get s.numbers)) (position_is holds s.faults first) ∙ number.1;
    }

pub offers_unnumbered : AreOffersUnnumbered
offers_unnumbered s cycle w t none =
    ap (option_and_then (slice_get s.numbers))
    (no_position (has_brought cycle w t) s.faults (none_brought cycle w t s.faults none))
