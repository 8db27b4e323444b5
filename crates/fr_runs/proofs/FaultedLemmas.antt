-- A window transmission by transmission, and line by line.
use Rattle.std.proofs.Common.{◌≡◌, ℕ, zero, suc, ◌+◌, Bool, true, false, cond, ◌&&◌, ◌||◌, List, [], ◌∷◌, take, ◌-◌}
use Rattle.std.proofs.Common.{Option, Some, None, refl, sym, ap, subst, ◌∙◌, ◌<◌, ◌≤◌, length, arith, inl, inr}
use Rattle.std.specs.Prelude.{◌==◌, IfSome, slice_get, not}
use Rattle.std.specs.Option.{option_or}
use Rattle.std.proofs.lemmas.Bool.{eqb-true}
use Rattle.std.proofs.lemmas.Bool.Decides.{eqb_tells}
use Rattle.std.proofs.lemmas.Option.{slice_get_within}
use Rattle.fr_runs.proofs.SteppingLemmas.{count_yes, count_no}
use Rattle.arrayvec.specs.ArrayVec.{ArrayVec}
use Rattle.fr_bus.specs.declared.fault.Fault.{Fault}
use Rattle.fr_bus.specs.declared.fault.Fault.TheVariants.{Babble, Mute, Corrupt}
use Rattle.fr_bus.specs.declared.outcome.Sent.{Sent}
use Rattle.fr_bus.specs.Record.{Recorded, corrupt_on, recordable}
use Rattle.fr_bus.specs.Windows.{begins_cycle, cycles_begun}
use Rattle.fr_core.proofs.CaseLemmas.{both_first, both_rest}
use Rattle.fr_runs.specs.Cycles.{names_cycle}
use Rattle.fr_runs.specs.declared.fault_line.FaultLine.{FaultLine}
use Rattle.fr_runs.specs.Faulted.{HasFaultsAt, cycle_at, bytes_babbled, bit_due, babble_by, babble_due, is_babble_of}
use Rattle.fr_runs.specs.Faulted.{babble_in, HasFaults, IsDue, is_muted, is_loss_due, IsDueAt, IsBabbled, IsBabbledBy}
use Rattle.fr_runs.specs.Faulted.{IsBabbledAt, bit_turned, bit_by, is_lost_by, loses, lines_of_cycle}
use Rattle.fr_runs.specs.Striking.{channel_of, names_window, strikes}
use Rattle.fr_slots.specs.Admission.{is_channel}
use Rattle.fr_slots.specs.declared.channel.Channel.{Channel}
use Rattle.fr_slots.specs.declared.channel.Channel.TheVariants.{A, B}
use Rattle.fr_slots.specs.Windows.{Opportunity, slot_of}

pub one_channel : (c e : Channel) → is_channel c e ≡ true → c ≡ e
one_channel A A is = refl
one_channel A B is = absurd (let none : ⊥ = cc in none)
one_channel B A is = absurd (let none : ⊥ = cc in none)
one_channel B B is = refl

module _ (lines : List FaultLine) (cycle : ℕ) (w : Opportunity) (channel : Channel) (node : ℕ) where
  abbrev Due : ArrayVec ℕ → Type 0
  Due bytes = recordable (slot_of w channel) (babble_due lines cycle w node channel) ≡ Some bytes

  -- a babble that was sent is due
  own_due : (t : Sent) → is_babble_of channel node t ≡ true → IsDue lines cycle w t → Due t.bytes
  own_due t own due =
      let first = both_first (t.node == node && is_channel t.channel channel) t.babble own in
      let of : t.node ≡ node = eqb-true t.node node (both_first (t.node == node) (is_channel t.channel channel) first)
      in
      let on : t.channel ≡ channel = one_channel t.channel channel
      (both_rest (t.node == node) (is_channel t.channel channel) first) in
      let babble : t.babble ≡ true = both_rest (t.node == node && is_channel t.channel channel) t.babble own in
      subst (λ c. recordable (slot_of w c) (babble_due lines cycle w node c) ≡ Some t.bytes) on
      (subst (λ n. recordable (slot_of w t.channel) (babble_due lines cycle w n t.channel) ≡ Some t.bytes) of
      (due.babble babble))

  sent_next : (t : Sent) (ts : List Sent) (bytes : ArrayVec ℕ) (b : Bool) → is_babble_of channel node t ≡ b
      → IsDue lines cycle w t
      → (babble_in channel node ts ≡ Some bytes → Due bytes)
      → cond b (Some t.bytes) (babble_in channel node ts) ≡ Some bytes → Due bytes
  sent_next t ts bytes true own due rest is = subst (λ o. recordable (slot_of w channel)
      (babble_due lines cycle w node channel) ≡ o) is (own_due t own due)
  sent_next t ts bytes false other due rest is = rest is

  sent_due : (ts : List Sent) (bytes : ArrayVec ℕ) → ((k : ℕ) → IfSome (slice_get ts k) (IsDue lines cycle w))
      → babble_in channel node ts ≡ Some bytes → Due bytes
  sent_due [] bytes due is = absurd (let none : ⊥ = cc in none)
  sent_due (t ∷ ts) bytes due is = sent_next t ts bytes (is_babble_of channel node t) refl (due zero)
      (sent_due ts bytes (λ k. due (suc k))) is

module _ (cycle : ℕ) (r : Recorded) (channel : Channel) (node : ℕ) where
  -- the babble that the line gives the node is recorded
  by_fault : (f : Fault) (bytes : ArrayVec ℕ) → bytes_babbled node channel f ≡ Some bytes → IsBabbled r f
      → babble_in channel node r.sent ≡ recordable (slot_of r.window channel) (Some bytes)
  by_fault (Mute of on) bytes is babbled = absurd (let none : ⊥ = cc in none)
  by_fault (Corrupt on bit) bytes is babbled = absurd (let none : ⊥ = cc in none)
  by_fault (Babble of on own) bytes is babbled = by_test (of == node && is_channel on channel) refl
    where
      by_test : (b : Bool) → (of == node && is_channel on channel) ≡ b
          → babble_in channel node r.sent ≡ recordable (slot_of r.window channel) (Some bytes)
      by_test false other = absurd (
          let none : cond false (Some own) None ≡ Some bytes =
          subst (λ b. cond b (Some own) None ≡ Some bytes) other is in
          let no : ⊥ = cc in no)
      by_test true both =
          let same : Some own ≡ Some bytes = subst (λ b. cond b (Some own) None ≡ Some bytes) both is in
          let of_node : of ≡ node = eqb-true of node (both_first (of == node) (is_channel on channel) both) in
          let on_channel : on ≡ channel = one_channel on channel (both_rest (of == node) (is_channel on channel) both)
          in
          subst (λ o. babble_in channel node r.sent ≡ recordable (slot_of r.window channel) o) same
          (subst (λ c. babble_in c node r.sent ≡ recordable (slot_of r.window c) (Some own)) on_channel
          (subst (λ n. babble_in on n r.sent ≡ recordable (slot_of r.window on) (Some own)) of_node babbled))

  struck : (line : FaultLine) (b : Bool) (bytes : ArrayVec ℕ) → IsBabbledBy cycle r line
      → strikes line cycle r.window ≡ b
      → cond b (bytes_babbled node channel line.fault) None ≡ Some bytes
      → babble_in channel node r.sent ≡ recordable (slot_of r.window channel) (Some bytes)
  struck line false bytes babbled strike is = absurd (let no : ⊥ = cc in no)
  struck line true bytes babbled strike is = by_fault line.fault bytes is (babbled strike)

  none_next : (line : FaultLine) (o rest : Option (ArrayVec ℕ)) → IsBabbledBy cycle r line
      → babble_in channel node r.sent ≡ None
      → babble_by line cycle r.window node channel ≡ o → recordable (slot_of r.window channel) rest ≡ None
      → recordable (slot_of r.window channel) (option_or o rest) ≡ None
  none_next line None rest babbled none is further = further
  none_next line (Some bytes) rest babbled none is further =
      sym (struck line (strikes line cycle r.window) bytes babbled refl is) ∙ none

  no_bytes : (slot : Option ℕ) → recordable slot None ≡ None
  no_bytes None = refl
  no_bytes (Some slot) = refl

  -- if nothing of the node is recorded, no line gives it a babble
  none_due : (lines : List FaultLine) → ((k : ℕ) → IfSome (slice_get lines k) (IsBabbledBy cycle r))
      → babble_in channel node r.sent ≡ None
      → recordable (slot_of r.window channel) (babble_due lines cycle r.window node channel) ≡ None
  none_due [] babbled none = no_bytes (slot_of r.window channel)
  none_due (line ∷ lines) babbled none =
      none_next line (babble_by line cycle r.window node channel) (babble_due lines cycle r.window node channel)
      (babbled zero) none refl
      (none_due lines (λ k. babbled (suc k)) none)

pub has_faults : (lines : List FaultLine) (cycle : ℕ) (r : Recorded)
    → corrupt_on r A ≡ bit_due lines cycle r.window A → corrupt_on r B ≡ bit_due lines cycle r.window B
    → ((k : ℕ) → IsDueAt lines cycle r k) → ((k : ℕ) → IsBabbledAt lines cycle r k) → HasFaults lines cycle r
has_faults lines cycle r on_a on_b due babbled = record {
  bits = bits;
  babbles =
      λ node channel. by_sent node channel (babble_in channel node r.sent) refl;
  losses = losses;
}
  where
    bits : (channel : Channel) → corrupt_on r channel ≡ bit_due lines cycle r.window channel
    bits A = on_a
    bits B = on_b

    by_sent : (node : ℕ) (channel : Channel) (o : Option (ArrayVec ℕ)) → babble_in channel node r.sent ≡ o
        → babble_in channel node r.sent ≡ recordable (slot_of r.window channel)
        (babble_due lines cycle r.window node channel)
    by_sent node channel (Some bytes) is = is ∙ sym (sent_due lines cycle r.window channel node r.sent bytes due is)
    by_sent node channel None is = is ∙ sym (none_due cycle r channel node lines babbled is)

    losses : (k : ℕ) (t : Sent) → slice_get r.sent k ≡ Some t
        → is_muted t.fate ≡ (not t.babble && is_loss_due lines cycle r.window t.node t.channel)
    losses k t at = (subst (λ o. IfSome o (IsDue lines cycle r.window)) at (due k)).loss

-- ---- the lines of one cycle

module _ (cycle : ℕ) (w : Opportunity) where
  unnamed : (line : FaultLine) → names_cycle line.cycles cycle ≡ false → strikes line cycle w ≡ false
  unnamed line other = ap (λ b. b && names_window line.place (channel_of line.fault) w) other

  bit_of_cycle_next : (channel : Channel) (line : FaultLine) (lines : List FaultLine) (b : Bool)
      → names_cycle line.cycles cycle ≡ b
      → bit_due (lines_of_cycle cycle lines) cycle w channel ≡ bit_due lines cycle w channel
      → bit_due (cond b (line ∷ lines_of_cycle cycle lines) (lines_of_cycle cycle lines)) cycle w channel ≡ bit_due
      (line ∷ lines) cycle w channel
  bit_of_cycle_next channel line lines true named rest = ap (option_or (bit_by line cycle w channel)) rest
  bit_of_cycle_next channel line lines false other rest = rest ∙ sym
      (ap (λ b. option_or (cond b (bit_turned channel line.fault) None) (bit_due lines cycle w channel))
      (unnamed line other))

  bit_of_cycle : (channel : Channel) (lines : List FaultLine)
      → bit_due (lines_of_cycle cycle lines) cycle w channel ≡ bit_due lines cycle w channel
  bit_of_cycle channel [] = refl
  bit_of_cycle channel (line ∷ lines) = bit_of_cycle_next channel line lines (names_cycle line.cycles cycle) refl
      (bit_of_cycle channel lines)

  babble_of_cycle_next : (node : ℕ) (channel : Channel) (line : FaultLine) (lines : List FaultLine) (b : Bool)
      → names_cycle line.cycles cycle ≡ b
      → babble_due (lines_of_cycle cycle lines) cycle w node channel ≡ babble_due lines cycle w node channel
      → babble_due (cond b (line ∷ lines_of_cycle cycle lines) (lines_of_cycle cycle lines)) cycle w node channel
      ≡ babble_due (line ∷ lines) cycle w node channel
  babble_of_cycle_next node channel line lines true named rest =
      ap (option_or (babble_by line cycle w node channel)) rest
  babble_of_cycle_next node channel line lines false other rest =
      rest ∙ sym (ap (λ b. option_or (cond b (bytes_babbled node channel line.fault) None)
      (babble_due lines cycle w node channel)) (unnamed line other))

  babble_of_cycle : (node : ℕ) (channel : Channel) (lines : List FaultLine)
      → babble_due (lines_of_cycle cycle lines) cycle w node channel ≡ babble_due lines cycle w node channel
  babble_of_cycle node channel [] = refl
  babble_of_cycle node channel (line ∷ lines) = babble_of_cycle_next node channel line lines
      (names_cycle line.cycles cycle) refl (babble_of_cycle node channel lines)

  loss_of_cycle_next : (node : ℕ) (channel : Channel) (line : FaultLine) (lines : List FaultLine) (b : Bool)
      → names_cycle line.cycles cycle ≡ b
      → is_loss_due (lines_of_cycle cycle lines) cycle w node channel ≡ is_loss_due lines cycle w node channel
      → is_loss_due (cond b (line ∷ lines_of_cycle cycle lines) (lines_of_cycle cycle lines)) cycle w node channel
      ≡ is_loss_due (line ∷ lines) cycle w node channel
  loss_of_cycle_next node channel line lines true named rest = ap (λ b. is_lost_by cycle w node channel line || b) rest
  loss_of_cycle_next node channel line lines false other rest =
      rest ∙ sym (ap (λ b. (b && loses node channel line.fault) || is_loss_due lines cycle w node channel)
      (unnamed line other))

  loss_of_cycle : (node : ℕ) (channel : Channel) (lines : List FaultLine)
      → is_loss_due (lines_of_cycle cycle lines) cycle w node channel ≡ is_loss_due lines cycle w node channel
  loss_of_cycle node channel [] = refl
  loss_of_cycle node channel (line ∷ lines) = loss_of_cycle_next node channel line lines (names_cycle line.cycles cycle)
      refl (loss_of_cycle node channel lines)

-- the lines of a cycle have the same effect on its windows as all lines
pub faults_of_cycle : (lines : List FaultLine) (cycle : ℕ) (r : Recorded)
    → HasFaults (lines_of_cycle cycle lines) cycle r → HasFaults lines cycle r
faults_of_cycle lines cycle r has = record {
  bits = λ channel. has.bits channel ∙ bit_of_cycle cycle r.window channel lines;
  babbles = λ node channel. has.babbles node channel ∙ ap (recordable (slot_of r.window channel))
      (babble_of_cycle cycle r.window node channel lines);
  losses = λ k t at. has.losses k t at ∙ ap (λ b. not t.babble && b)
      (loss_of_cycle cycle r.window t.node t.channel lines);
}

-- the window at this place has its faults, if so many cycles began with it, and these are the lines of that cycle
pub faults_at : (lines kept : List FaultLine) (rs : List Recorded) (k cycle : ℕ) (r : Recorded)
    → slice_get rs k ≡ Some r
    → cycle ≡ cycle_at rs k → kept ≡ lines_of_cycle cycle lines → HasFaults kept cycle r → HasFaultsAt lines rs k
faults_at lines kept rs k cycle r at counted are has =
    subst (λ o. IfSome o (HasFaults lines (cycle_at rs k))) (sym at)
    (subst (λ n. HasFaults lines n r) counted (faults_of_cycle lines cycle r
    (subst (λ ls. HasFaults ls cycle r) are has)))

by_place : (lines : List FaultLine) (rs : List Recorded) (j : ℕ) (o : Option Recorded) → slice_get rs j ≡ o
    → (j < length rs → HasFaultsAt lines rs j) → IfSome o (HasFaults lines (cycle_at rs j))
by_place lines rs j None at all = tt
by_place lines rs j (Some r) at all = subst (λ o. IfSome o (HasFaults lines (cycle_at rs j))) at
    (all (slice_get_within rs j r at))

-- all windows have their faults, if those before the end have
pub faults_all : (lines : List FaultLine) (rs : List Recorded) (k : ℕ) → length rs ≤ k
    → ((j : ℕ) → j < k → HasFaultsAt lines rs j) → (j : ℕ) → HasFaultsAt lines rs j
faults_all lines rs k end all j = by_place lines rs j (slice_get rs j) refl
    (λ within. all j (omega (arith, within, end)))

-- one more window has its faults
pub faults_on : (lines : List FaultLine) (rs : List Recorded) (k : ℕ) → ((j : ℕ) → j < k → HasFaultsAt lines rs j)
    → HasFaultsAt lines rs k
    → (j : ℕ) → j < k + 1 → HasFaultsAt lines rs j
faults_on lines rs k before here j below = elim (eqb_tells j k) [
  | inl same ↦ subst (HasFaultsAt lines rs) (sym same.1) here
  | inr other ↦ before j (let less : j < k = omega (arith, below, other.1) in less)
]

-- the cycles that began, with one more window
pub begun_yes : (rs : List Recorded) (k : ℕ) (r : Recorded) → slice_get rs k ≡ Some r → begins_cycle r ≡ true
    → cycles_begun (take (k + 1) rs) ≡ cycles_begun (take k rs) + 1
begun_yes rs k r at begins = count_yes begins_cycle rs k r at begins

pub begun_no : (rs : List Recorded) (k : ℕ) (r : Recorded) → slice_get rs k ≡ Some r → begins_cycle r ≡ false
    → cycles_begun (take (k + 1) rs) ≡ cycles_begun (take k rs)
begun_no rs k r at begins = count_no begins_cycle rs k r at begins
