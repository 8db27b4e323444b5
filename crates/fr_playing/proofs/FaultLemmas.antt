-- The faults of the open window: those of fault lines, one after another.
use Rattle.std.proofs.Common.{◌≡◌, ◌≢◌, ◌<◌, ℕ, Bool, true, false, cond, not, ◌&&◌, ◌||◌, List, [], ◌∷◌}
use Rattle.std.proofs.Common.{length, Option, Some, None, refl, sym, ap, ap₂, subst, ◌∙◌, get_or, set, inl, inr}
use Rattle.std.specs.Prelude.{◌==◌, is_some, option_map}
use Rattle.std.specs.List.{flat_map}
use Rattle.std.specs.Option.{option_or}
use Rattle.std.proofs.lemmas.Bool.{eq-eqb, ne_eqb, ltb-true}
use Rattle.std.proofs.lemmas.Bool.Decides.{eqb_tells}
use Rattle.std.proofs.lemmas.List.{get_or-set_same, get_or-set_other}
use Rattle.arrayvec.specs.ArrayVec.{ArrayVec}
use Rattle.fr_bus.specs.declared.error.BusError.{BusError}
use Rattle.fr_bus.specs.declared.error.BusError.TheVariants.{UnknownNode, NotCollecting, TooManyFaults}
use Rattle.fr_bus.specs.declared.fault.Fault.{Fault}
use Rattle.fr_bus.specs.declared.fault.Fault.TheVariants.{Babble, Mute, Corrupt}
use Rattle.fr_bus.specs.Record.{side_on}
use Rattle.fr_bus.specs.States.{BusState, collects, corrupt_in, station_at, idle_station, babbling, muting}
use Rattle.fr_bus.specs.States.{is_node, has_fault, inject_refusal, inject_done}
use Rattle.fr_bus.specs.Stations.{Station}
use Rattle.fr_core.specs.declared.error.StepError.TheVariants.{Bus}
use Rattle.fr_core.specs.declared.event.Event.TheVariants.{Inject}
use Rattle.fr_core.specs.Steps.{step_done}
use Rattle.fr_core.specs.Worlds.{WorldState}
use Rattle.fr_playing.specs.Striking.{Passes, strike_events}
use Rattle.fr_playing.proofs.PassLemmas.{IsSplit, passes_split}
use Rattle.fr_runs.specs.declared.fault_line.FaultLine.{FaultLine}
use Rattle.fr_runs.specs.Faulted.{bit_turned, bytes_babbled, loses, bit_by, bit_due, babble_by, babble_due, is_lost_by}
use Rattle.fr_runs.specs.Faulted.{is_loss_due}
use Rattle.fr_runs.specs.Striking.{strikes}
use Rattle.fr_slots.specs.Admission.{is_channel}
use Rattle.fr_slots.specs.declared.channel.Channel.{Channel}
use Rattle.fr_slots.specs.declared.channel.Channel.TheVariants.{A, B}
use Rattle.fr_slots.specs.Windows.{Opportunity}

-- the babble and the mute that a node's station has on a channel
abbrev pub babble_at : BusState → ℕ → Channel → Option (ArrayVec ℕ)
babble_at b n channel = (side_on channel (station_at b n)).babble

abbrev pub mute_at : BusState → ℕ → Channel → Bool
mute_at b n channel = (side_on channel (station_at b n)).mute

-- ---- one fault

-- these faults, and that of the event, are those of the window
pub record IsStruck (bit : Channel → Option ℕ) (babble : ℕ → Channel → Option (ArrayVec ℕ)) (loss : ℕ → Channel → Bool)
    (b c : BusState) : Type 0 where
  pub same_record : c.sealed ≡ b.sealed
  pub same_window : c.opened ≡ b.opened
  pub bits : (channel : Channel) → corrupt_in c channel ≡ option_or (corrupt_in b channel) (bit channel)
  pub babbles : (n : ℕ) (channel : Channel) → babble_at c n channel ≡ option_or (babble_at b n channel) (babble n
      channel)
  pub mutes : (n : ℕ) (channel : Channel) → mute_at c n channel ≡ (mute_at b n channel || loss n channel)

or_none : {X : Type 0} (o : Option X) → option_or o None ≡ o
or_none None = refl
or_none (Some x) = refl

or_false : (b : Bool) → (b || false) ≡ b
or_false true = refl
or_false false = refl

or_true : (b : Bool) → (b || true) ≡ true
or_true true = refl
or_true false = refl

not_equal : (m n : ℕ) → m ≢ n → (m == n) ≡ false
not_equal m n other = ne_eqb m n (λ same. other same)

if_free : (known collecting more : Bool) (e f g : BusError)
    → ◌≡◌ {A = Option BusError} (cond (not known) (Some e) (cond (not collecting) (Some f) (cond more (Some g) None)))
    None
    → (known ≡ true) × (more ≡ false)
if_free true true false e f g free = (refl, refl)
if_free true true true e f g free = absurd (let none : ⊥ = cc in none)
if_free true false more e f g free = absurd (let none : ⊥ = cc in none)
if_free false collecting more e f g free = absurd (let none : ⊥ = cc in none)

no_value : {X : Type 0} (o : Option X) → is_some o ≡ false → o ≡ None
no_value None none = refl
no_value (Some x) none = absurd (let no : ⊥ = cc in no)

-- a first value
first_value : {X : Type 0} (o : Option X) (x : X) → is_some o ≡ false → Some x ≡ option_or o (Some x)
first_value o x none = sym (ap (λ p. option_or p (Some x)) (no_value o none))

-- ---- a babble

module _ (bytes : ArrayVec ℕ) where
  -- the babble of the station that has a new one on a channel
  here_babbles : (on channel : Channel) (s : Station) → is_some (side_on on s).babble ≡ false
      → (side_on channel (babbling on bytes s)).babble
      ≡ option_or (side_on channel s).babble (cond (is_channel on channel) (Some bytes) None)
  here_babbles A A s none = first_value s.a.babble bytes none
  here_babbles A B s none = sym (or_none s.b.babble)
  here_babbles B A s none = sym (or_none s.a.babble)
  here_babbles B B s none = first_value s.b.babble bytes none

  babble_mutes : (on channel : Channel) (s : Station) → (side_on channel (babbling on bytes s)).mute
      ≡ (side_on channel s).mute
  babble_mutes A A s = refl
  babble_mutes A B s = refl
  babble_mutes B A s = refl
  babble_mutes B B s = refl

  module _ (b : BusState) (of : ℕ) (on : Channel) (within : of < length b.stations)
      (none : is_some (babble_at b of on) ≡ false) where
    abbrev babbled : Station
    babbled = babbling on bytes (station_at b of)

    node_babbles : (n : ℕ) (channel : Channel)
        → (side_on channel (get_or (set b.stations of babbled) n idle_station)).babble
        ≡ option_or (babble_at b n channel) (cond (of == n && is_channel on channel) (Some bytes) None)
    node_babbles n channel =
        elim (eqb_tells n of) [
          | inl own ↦
              ap (λ (m : ℕ). (side_on channel (get_or (set b.stations of babbled) m idle_station)).babble) own.1
              ∙ ap (λ (s : Station). (side_on channel s).babble) (get_or-set_same b.stations of babbled idle_station
              within)
              ∙ here_babbles on channel (station_at b of) none
              ∙ ap₂ (λ (m : ℕ) (t : Bool). option_or (babble_at b m channel)
              (cond (t && is_channel on channel) (Some bytes) None)) (sym own.1) (sym (eq-eqb of n (sym own.1)))
          | inr other ↦
              ap (λ (s : Station). (side_on channel s).babble)
              (get_or-set_other b.stations of n babbled idle_station other.1)
              ∙ sym (or_none (babble_at b n channel))
              ∙ ap (λ (t : Bool). option_or (babble_at b n channel) (cond (t && is_channel on channel) (Some bytes)
              None))
              (sym (not_equal of n (λ same. other.1 (sym same))))
        ]

    node_mutes : (n : ℕ) (channel : Channel)
        → (side_on channel (get_or (set b.stations of babbled) n idle_station)).mute ≡ mute_at b n channel
    node_mutes n channel =
        elim (eqb_tells n of) [
          | inl own ↦
              ap (λ (m : ℕ). (side_on channel (get_or (set b.stations of babbled) m idle_station)).mute) own.1
              ∙ ap (λ (s : Station). (side_on channel s).mute) (get_or-set_same b.stations of babbled idle_station
              within)
              ∙ babble_mutes on channel (station_at b of)
              ∙ ap (λ (m : ℕ). mute_at b m channel) (sym own.1)
          | inr other ↦
              ap (λ (s : Station). (side_on channel s).mute)
              (get_or-set_other b.stations of n babbled idle_station other.1)
        ]

-- ---- a mute

here_mutes : (on channel : Channel) (s : Station)
    → (side_on channel (muting on s)).mute ≡ ((side_on channel s).mute || is_channel on channel)
here_mutes A A s = sym (or_true s.a.mute)
here_mutes A B s = sym (or_false s.b.mute)
here_mutes B A s = sym (or_false s.a.mute)
here_mutes B B s = sym (or_true s.b.mute)

mute_babbles : (on channel : Channel) (s : Station) → (side_on channel (muting on s)).babble
    ≡ (side_on channel s).babble
mute_babbles A A s = refl
mute_babbles A B s = refl
mute_babbles B A s = refl
mute_babbles B B s = refl

module _ (b : BusState) (of : ℕ) (on : Channel) (within : of < length b.stations) where
  abbrev muted : Station
  muted = muting on (station_at b of)

  muted_mutes : (n : ℕ) (channel : Channel)
      → (side_on channel (get_or (set b.stations of muted) n idle_station)).mute
      ≡ (mute_at b n channel || (of == n && is_channel on channel))
  muted_mutes n channel =
      elim (eqb_tells n of) [
        | inl own ↦
            ap (λ (m : ℕ). (side_on channel (get_or (set b.stations of muted) m idle_station)).mute) own.1
            ∙ ap (λ (s : Station). (side_on channel s).mute) (get_or-set_same b.stations of muted idle_station within)
            ∙ here_mutes on channel (station_at b of)
            ∙ ap₂ (λ (m : ℕ) (t : Bool). mute_at b m channel || (t && is_channel on channel)) (sym own.1)
            (sym (eq-eqb of n (sym own.1)))
        | inr other ↦
            ap (λ (s : Station). (side_on channel s).mute)
            (get_or-set_other b.stations of n muted idle_station other.1)
            ∙ sym (or_false (mute_at b n channel))
            ∙ ap (λ (t : Bool). mute_at b n channel || (t && is_channel on channel))
            (sym (not_equal of n (λ same. other.1 (sym same))))
      ]

  muted_babbles : (n : ℕ) (channel : Channel)
      → (side_on channel (get_or (set b.stations of muted) n idle_station)).babble ≡ babble_at b n channel
  muted_babbles n channel =
      elim (eqb_tells n of) [
        | inl own ↦
            ap (λ (m : ℕ). (side_on channel (get_or (set b.stations of muted) m idle_station)).babble) own.1
            ∙ ap (λ (s : Station). (side_on channel s).babble) (get_or-set_same b.stations of muted idle_station within)
            ∙ mute_babbles on channel (station_at b of)
            ∙ ap (λ (m : ℕ). babble_at b m channel) (sym own.1)
        | inr other ↦
            ap (λ (s : Station). (side_on channel s).babble)
            (get_or-set_other b.stations of n muted idle_station other.1)
      ]

-- ---- an accepted fault

abbrev IsStruckBy : Fault → BusState → BusState → Type 0
IsStruckBy fault b c =
    IsStruck (λ channel. bit_turned channel fault) (λ n channel. bytes_babbled n channel fault)
    (λ n channel. loses n channel fault) b c

pub injected : (b : BusState) (fault : Fault) → inject_refusal b fault ≡ None → IsStruckBy fault b (inject_done b fault)
injected b (Babble of on bytes) free =
    let tests = if_free (is_node b of) (collects b.phase) (has_fault b (Babble of on bytes)) UnknownNode NotCollecting
    TooManyFaults free in
    let within : of < length b.stations = ltb-true of (length b.stations) tests.0 in
    record {
      same_record = refl;
      same_window = refl;
      bits = same_bits;
      babbles = node_babbles bytes b of on within tests.1;
      mutes = λ n channel. node_mutes bytes b of on within tests.1 n channel ∙ sym (or_false (mute_at b n channel));
    }
  where
    same_bits : (channel : Channel) → corrupt_in (inject_done b (Babble of on bytes)) channel
        ≡ option_or (corrupt_in b channel) None
    same_bits A = sym (or_none b.corrupt_a)
    same_bits B = sym (or_none b.corrupt_b)
injected b (Mute of on) free =
    let tests = if_free (is_node b of) (collects b.phase) (has_fault b (Mute of on)) UnknownNode NotCollecting
    TooManyFaults free in
    let within : of < length b.stations = ltb-true of (length b.stations) tests.0 in
    record {
      same_record = refl;
      same_window = refl;
      bits = same_bits;
      babbles = λ n channel. muted_babbles b of on within n channel ∙ sym (or_none (babble_at b n channel));
      mutes = muted_mutes b of on within;
    }
  where
    same_bits : (channel : Channel) → corrupt_in (inject_done b (Mute of on)) channel
        ≡ option_or (corrupt_in b channel) None
    same_bits A = sym (or_none b.corrupt_a)
    same_bits B = sym (or_none b.corrupt_b)
injected b (Corrupt A bit) free =
    record {
      same_record = refl;
      same_window = refl;
      bits = new_bits;
      babbles = λ n channel. sym (or_none (babble_at b n channel));
      mutes = λ n channel. sym (or_false (mute_at b n channel));
    }
  where
    new_bits : (channel : Channel) → corrupt_in (inject_done b (Corrupt A bit)) channel
        ≡ option_or (corrupt_in b channel) (bit_turned channel (Corrupt A bit))
    new_bits A = first_value b.corrupt_a bit (if_free true (collects b.phase) (has_fault b (Corrupt A bit))
        UnknownNode NotCollecting TooManyFaults free).1
    new_bits B = sym (or_none b.corrupt_b)
injected b (Corrupt B bit) free =
    record {
      same_record = refl;
      same_window = refl;
      bits = new_bits;
      babbles = λ n channel. sym (or_none (babble_at b n channel));
      mutes = λ n channel. sym (or_false (mute_at b n channel));
    }
  where
    new_bits : (channel : Channel) → corrupt_in (inject_done b (Corrupt B bit)) channel
        ≡ option_or (corrupt_in b channel) (bit_turned channel (Corrupt B bit))
    new_bits A = sym (or_none b.corrupt_a)
    new_bits B = first_value b.corrupt_b bit (if_free true (collects b.phase) (has_fault b (Corrupt B bit))
        UnknownNode NotCollecting TooManyFaults free).1

-- ---- the faults of lines

none_of : {E F : Type 0} (f : E → F) (o : Option E) → option_map f o ≡ None → o ≡ None
none_of f None e = refl
none_of f (Some x) e = absurd (let none : ⊥ = cc in none)

-- nothing is injected
same_faults : (b : BusState) → IsStruck (λ channel. None) (λ n channel. None) (λ n channel. false) b b
same_faults b = record {
  same_record = refl;
  same_window = refl;
  bits = λ channel. sym (or_none (corrupt_in b channel));
  babbles = λ n channel. sym (or_none (babble_at b n channel));
  mutes = λ n channel. sym (or_false (mute_at b n channel));
}

or_assoc : {X : Type 0} (x y z : Option X) → option_or (option_or x y) z ≡ option_or x (option_or y z)
or_assoc None y z = refl
or_assoc (Some x) y z = refl

any_assoc : (p q r : Bool) → ((p || q) || r) ≡ (p || (q || r))
any_assoc true q r = refl
any_assoc false q r = refl

module _ (bit bit' : Channel → Option ℕ) (babble babble' : ℕ → Channel → Option (ArrayVec ℕ))
    (loss loss' : ℕ → Channel → Bool) where
  struck_both : (b c d : BusState) → IsStruck bit babble loss b c → IsStruck bit' babble' loss' c d
      → IsStruck (λ channel. option_or (bit channel) (bit' channel))
      (λ n channel. option_or (babble n channel) (babble' n channel)) (λ n channel. loss n channel || loss' n channel)
      b d
  struck_both b c d first second = record {
    same_record = second.same_record ∙ first.same_record;
    same_window = second.same_window ∙ first.same_window;
    bits = λ channel. second.bits channel ∙ ap (λ o. option_or o (bit' channel)) (first.bits channel)
        ∙ or_assoc (corrupt_in b channel) (bit channel) (bit' channel);
    babbles = λ n channel. second.babbles n channel ∙ ap (λ o. option_or o (babble' n channel)) (first.babbles n
        channel)
        ∙ or_assoc (babble_at b n channel) (babble n channel) (babble' n channel);
    mutes = λ n channel. second.mutes n channel ∙ ap (λ p. p || loss' n channel) (first.mutes n channel)
        ∙ any_assoc (mute_at b n channel) (loss n channel) (loss' n channel);
  }

module _ (cycle : ℕ) (w : Opportunity) where
  abbrev pub AreStruck : List FaultLine → BusState → BusState → Type 0
  AreStruck lines b c =
      IsStruck (λ channel. bit_due lines cycle w channel) (λ n channel. babble_due lines cycle w n channel)
      (λ n channel. is_loss_due lines cycle w n channel) b c

  line_struck : (line : FaultLine) (b : Bool) (old new : WorldState)
      → Passes old (cond b (Inject line.fault ∷ []) []) new
      → IsStruck (λ channel. cond b (bit_turned channel line.fault) None)
      (λ n channel. cond b (bytes_babbled n channel line.fault) None) (λ n channel. b && loses n channel line.fault)
      old.bus new.bus
  unfolding Passes
  line_struck line true old new passes =
      let (between, reply, step, rest) = passes in
      let made : new ≡ step_done old (Inject line.fault) = rest ∙ step.2 in
      subst (λ (v : WorldState). IsStruckBy line.fault old.bus v.bus) (sym made)
      (injected old.bus line.fault (none_of Bus (inject_refusal old.bus line.fault) step.0))
  line_struck line false old new passes =
      subst (λ (v : WorldState). IsStruck (λ channel. None) (λ n channel. None) (λ n channel. false) old.bus v.bus)
      (sym passes) (same_faults old.bus)

  -- the faults of the lines that take effect, if all of them are accepted
  pub lines_struck : (lines : List FaultLine) (old new : WorldState)
      → Passes old (flat_map (strike_events cycle w) lines) new → AreStruck lines old.bus new.bus
  unfolding Passes
  lines_struck [] old new passes =
      subst (λ (v : WorldState). IsStruck (λ channel. None) (λ n channel. None) (λ n channel. false) old.bus v.bus)
      (sym passes) (same_faults old.bus)
  lines_struck (line ∷ lines) old new passes =
      let cut : IsSplit old (strike_events cycle w line) (flat_map (strike_events cycle w) lines) new =
      passes_split old (strike_events cycle w line) (flat_map (strike_events cycle w) lines) new passes in
      struck_both
      (λ channel. bit_by line cycle w channel) (λ channel. bit_due lines cycle w channel)
      (λ n channel. babble_by line cycle w n channel) (λ n channel. babble_due lines cycle w n channel)
      (λ n channel. is_lost_by cycle w n channel line) (λ n channel. is_loss_due lines cycle w n channel)
      old.bus cut.mid.bus new.bus
      (line_struck line (strikes line cycle w) old cut.mid cut.first)
      (lines_struck lines cut.mid new cut.second)
