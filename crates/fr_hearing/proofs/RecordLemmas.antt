-- The records of a recording: those of the channel spell its frames, and the others leave the channel as it is.
use Rattle.std.proofs.Common.{◌≡◌, ℕ, ◌≤◌, Bool, true, false, cond, List, refl, sym, ap, ◌∙◌, arith, ◌⊎◌, inl, inr}
use Rattle.std.proofs.lemmas.Bool.{cond-true, cond-false, le-ltb, leb-true, ne_eqb, and_left, and_right}
use Rattle.std.specs.Prelude.{Ok, nat_le, nat_lt, ◌==◌, ◌&&◌}
use Rattle.fr_frame.specs.Fields.{Fields}
use Rattle.fr_guarantees.proofs.HeardLemmas.{same_channel}
use Rattle.fr_hearing.proofs.CoreLemmas.{core}
use Rattle.fr_hearing.specs.Alarms.{is_on}
use Rattle.fr_hearing.specs.Heard.{Spot, IsAllowed, IsAllowedAs}
use Rattle.fr_judging.specs.declared.line.At.{At}
use Rattle.fr_judging.specs.declared.rules.Rules.{Rules}
use Rattle.fr_judging.specs.Judging.{State, turn, turned, judge, take_kind, next_record, frame_on, take_frame, good}
use Rattle.fr_judging.specs.Judging.{count_record, spelled_frame, is_lawless, symbol_on, count_symbol, ill}
use Rattle.fr_judging.specs.Rules.{judges, other_channel}
use Rattle.fr_logged.specs.declared.finding.Name.TheVariants as name
use Rattle.fr_logged.specs.declared.finding.Word.TheVariants.{Absent}
use Rattle.fr_logged.specs.declared.record.Kind.{Kind}
use Rattle.fr_logged.specs.declared.record.Kind.TheVariants.{Foreign, Symbol, Frame}
use Rattle.fr_logged.specs.Findings.{number_word}
use Rattle.fr_logged.specs.Logged.{kind_of, spelled, place_of as frame_place}
use Rattle.fr_recording.specs.Numbers.{counted}
use Rattle.fr_recording.specs.Records.{Record}
use Rattle.fr_schedule.specs.Descriptions.{Description}
use Rattle.fr_slots.specs.Admission.{is_channel}
use Rattle.fr_slots.specs.declared.channel.Channel.{Channel}
use Rattle.fr_slots.specs.declared.channel.Channel.TheVariants.{A, B}

-- ---- the channel that stands first

pub turn_none : (s : State) (channel : Channel) → s.channel ≡ channel → turn s channel ≡ s
turn_none s channel e =
    cond-true (is_channel s.channel channel) s (turned s)
    (ap (λ (c : Channel). is_channel c channel) e ∙ same_channel channel)

turned_core : (b : Bool) (s t : State) → core s ≡ core t → core (turned s) ≡ core (turned t)
    → core (cond b s (turned s)) ≡ core (cond b t (turned t))
turned_core true s t e f = e
turned_core false s t e f = f

-- ---- records of other kinds and of the other channel

pub record_turn : (s : State) (channel : Channel) → core (turn (next_record s) channel) ≡ core (turn s channel)
record_turn s channel = turned_core (is_channel s.channel channel) (next_record s) s refl refl

foreign_turn : (s : State) (channel : Channel)
    → core (turn (record s { foreign = counted s.foreign 1 }) channel) ≡ core (turn s channel)
foreign_turn s channel =
    turned_core (is_channel s.channel channel) (record s { foreign = counted s.foreign 1 }) s refl refl

-- a record that isn't on the channel is foreign, or of the other channel, which may not be judged
not_judged : (r : Rules) (channel other : Channel)
    → ((judges r (other_channel channel) ≡ false) ⊎ (is_channel (other_channel channel) other ≡ false))
    → is_channel channel other ≡ false → judges r other ≡ false
not_judged r A A aside is_other = absurd (let none : ⊥ = cc in none)
not_judged r A B (inl none) is_other = none
not_judged r A B (inr e) is_other = absurd (let none : ⊥ = cc in none)
not_judged r B A (inl none) is_other = none
not_judged r B A (inr e) is_other = absurd (let none : ⊥ = cc in none)
not_judged r B B aside is_other = absurd (let none : ⊥ = cc in none)

pub other_kind : (channel : Channel) (s : State) (at : At) (original : ℕ) (bytes : List ℕ) (k : Kind)
    → ((judges s.rules (other_channel channel) ≡ false) ⊎ (is_on (other_channel channel) k ≡ false))
    → is_on channel k ≡ false
    → core (turn (take_kind s at original bytes k) channel) ≡ core (turn s channel)
unfolding take_kind
other_kind channel s at original bytes Foreign aside is_other = foreign_turn s channel
other_kind channel s at original bytes (Symbol other) aside is_other =
    ap (λ (t : State). core (turn t channel))
    (cond-false (judges s.rules other) (symbol_on (count_symbol (turn s other)) at original bytes) s
    (not_judged s.rules channel other aside is_other))
other_kind channel s at original bytes (Frame other) aside is_other =
    ap (λ (t : State). core (turn t channel))
    (cond-false (judges s.rules other) (frame_on (turn s other) at original bytes) s
    (not_judged s.rules channel other aside is_other))

abbrev pub at_record : State → Record → At
at_record s r = record { number = (next_record s).records; time = r.time }

pub other_record : (channel : Channel) (s : State) (r : Record)
    → ((judges s.rules (other_channel channel) ≡ false)
    ⊎ (is_on (other_channel channel) (kind_of r.link r.bytes) ≡ false))
    → is_on channel (kind_of r.link r.bytes) ≡ false → core (turn (judge s r) channel) ≡ core (turn s channel)
unfolding judge
other_record channel s r aside is_other =
    other_kind channel (next_record s) (at_record s r) r.original r.bytes (kind_of r.link r.bytes) aside is_other
    ∙ record_turn s channel

-- ---- frames of the channel

lawful_by : (static minislots id : ℕ) (b : Bool) → b ≡ nat_le id static → 1 ≤ id → (b ≡ false → 1 ≤ minislots)
    → cond (id == 0) true (nat_lt static id && minislots == 0) ≡ false
lawful_by static minislots id true e some dynamic =
    cond-false (id == 0) true (nat_lt static id && minislots == 0) (ne_eqb id 0 (λ z. omega arith))
    ∙ and_left (nat_lt static id) (minislots == 0) (le-ltb static id (leb-true id static (sym e)))
lawful_by static minislots id false e some dynamic =
    let one : 1 ≤ minislots = dynamic refl in
    cond-false (id == 0) true (nat_lt static id && minislots == 0) (ne_eqb id 0 (λ z. omega arith))
    ∙ and_right (nat_lt static id) (minislots == 0) (ne_eqb minislots 0 (λ z. omega arith))

some_minislot_of : (d : Description) (channel : Channel) (spot : Spot) (f : Fields) (is : IsAllowed d channel spot f)
    (b : Bool) → IsAllowedAs d.params is.due spot f b → b ≡ false → 1 ≤ d.params.minislots
some_minislot_of d channel spot f is true allowed e = absurd (let none : ⊥ = cc in none)
some_minislot_of d channel spot f is false allowed e = allowed.some_minislot

lawful : (d : Description) (channel : Channel) (spot : Spot) (f : Fields) → IsAllowed d channel spot f
    → cond (f.id == 0) true (nat_lt d.params.static_slots f.id && d.params.minislots == 0) ≡ false
lawful d channel spot f is =
    lawful_by d.params.static_slots d.params.minislots f.id (nat_le f.id d.params.static_slots) refl is.slot_is
    (some_minislot_of d channel spot f is (nat_le f.id d.params.static_slots) is.allowed)

-- what is told of a slot that no cluster has
abbrev ill_of : State → Fields → At → State
ill_of s f at = ill (count_record s) at (frame_place s.channel f) (record {
  name = name.Slot;
  expected = Absent;
  found = number_word f.id;
})

pub own_frame : (r : Rules) (channel : Channel) (s : State) (at : At) (original : ℕ) (bytes : List ℕ) (f : Fields)
    (spot : Spot) → s.rules ≡ r → s.channel ≡ channel → spelled channel original bytes ≡ Ok f
    → IsAllowed r.cluster channel spot f → frame_on s at original bytes ≡ good (count_record s) f at
unfolding frame_on spelled_frame
own_frame r channel s at original bytes f spot rules_are channel_is spells is =
    ap (take_frame (count_record s) at bytes)
    (ap (λ (c : Channel). spelled c original bytes) channel_is ∙ spells)
    ∙ cond-false (is_lawless (count_record s) f.id) (ill_of s f at) (good (count_record s) f at)
    (ap (λ (q : Rules). cond (f.id == 0) true (nat_lt q.cluster.params.static_slots f.id
    && q.cluster.params.minislots == 0))
    rules_are ∙ lawful r.cluster channel spot f is)
