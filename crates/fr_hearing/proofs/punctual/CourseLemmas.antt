-- Record by record: a recording whose frames are in time is judged as without times.
use Rattle.std.proofs.Common.{◌≡◌, ℕ, Bool, true, false, cond, List, [], ◌∷◌, ◌++◌, pos, Some, None, refl, sym, ap}
use Rattle.std.proofs.Common.{subst, ◌∙◌, arith, ◌⊎◌, inl, inr}
use Rattle.std.proofs.lemmas.Bool.{cond-true, cond-false, le-ltb, leb-true, ne_eqb, and_left, and_right}
use Rattle.std.proofs.lemmas.List.{append-nil}
use Rattle.std.specs.Prelude.{nat_le, nat_lt, ◌==◌, ◌&&◌}
use Rattle.fr_frame.specs.Fields.{Fields}
use Rattle.fr_guarantees.proofs.HeardLemmas.{same_channel}
use Rattle.fr_hearing.proofs.punctual.CalmLemmas.{Hand, hand, Watch, watch, IsCalm, tell_end_calm}
use Rattle.fr_hearing.proofs.punctual.WalkLemmas.{Keeps, line, Stands, good_at, settled_end}
use Rattle.fr_hearing.specs.Alarms.{is_on, Spells, judged}
use Rattle.fr_hearing.specs.Schedule.{Timeline, IsTimeline, Timed, IsPunctual, ArePunctual, AreAt}
use Rattle.fr_hearing.specs.Untimed.{untimed}
use Rattle.fr_judging.specs.declared.lane.Lane.{Lane}
use Rattle.fr_judging.specs.declared.line.At.{At}
use Rattle.fr_judging.specs.declared.rules.Rules.{Rules}
use Rattle.fr_judging.specs.Judging.{State, turn, turned, judge, take_kind, next_record, frame_on, take_frame, good}
use Rattle.fr_judging.specs.Judging.{count_record, spelled_frame, is_lawless, ill, settle, tell_end, finish_channel}
use Rattle.fr_judging.specs.Judging.{finish_on, finish, fresh, lane_on, symbol_on, count_symbol}
use Rattle.fr_judging.specs.Rules.{judges, other_channel}
use Rattle.fr_logged.specs.declared.finding.Name.TheVariants as name
use Rattle.fr_logged.specs.declared.finding.Word.TheVariants.{Absent}
use Rattle.fr_logged.specs.declared.record.Kind.{Kind}
use Rattle.fr_logged.specs.declared.record.Kind.TheVariants.{Foreign, Symbol, Frame}
use Rattle.fr_logged.specs.Findings.{number_word}
use Rattle.fr_logged.specs.Logged.{kind_of, spelled, place_of as frame_place}
use Rattle.fr_recording.specs.Numbers.{counted}
use Rattle.fr_recording.specs.Records.{Record}
use Rattle.fr_slots.specs.Admission.{is_channel}
use Rattle.fr_slots.specs.declared.channel.Channel.{Channel}
use Rattle.fr_slots.specs.declared.channel.Channel.TheVariants.{A, B}
use Rattle.fr_slots.specs.Parameters.{Parameters, IsParameters}

-- ---- the channel that stands first

-- what a channel keeps of times
abbrev pub hand_on : State → Channel → Hand
hand_on s channel = hand (lane_on s channel)

record IsTurned (s t : State) (channel : Channel) : Type 0 where
  rules_are : t.rules ≡ s.rules
  channel_is : t.channel ≡ channel
  mine_is : hand t.mine ≡ hand_on s channel
  other_is : hand t.other ≡ hand_on s (other_channel channel)

either_turned : (s : State) (channel c : Channel) → s.channel ≡ c → IsTurned s (turn s channel) channel
either_turned s A A e = record {
  rules_are = ap (λ (c : Channel). (let t : State = cond (is_channel c A) s (turned s) in t).rules) e;
  channel_is = ap (λ (c : Channel). (let t : State = cond (is_channel c A) s (turned s) in t).channel) e ∙ e;
  mine_is = ap (λ (c : Channel). hand (let t : State = cond (is_channel c A) s (turned s) in t).mine) e
      ∙ sym (ap (λ (c : Channel). hand (let l : Lane = cond (is_channel c A) s.mine s.other in l)) e);
  other_is = ap (λ (c : Channel). hand (let t : State = cond (is_channel c A) s (turned s) in t).other) e
      ∙ sym (ap (λ (c : Channel). hand (let l : Lane = cond (is_channel c B) s.mine s.other in l)) e);
}
either_turned s A B e = record {
  rules_are = ap (λ (c : Channel). (let t : State = cond (is_channel c A) s (turned s) in t).rules) e;
  channel_is = ap (λ (c : Channel). (let t : State = cond (is_channel c A) s (turned s) in t).channel) e
      ∙ ap other_channel e;
  mine_is = ap (λ (c : Channel). hand (let t : State = cond (is_channel c A) s (turned s) in t).mine) e
      ∙ sym (ap (λ (c : Channel). hand (let l : Lane = cond (is_channel c A) s.mine s.other in l)) e);
  other_is = ap (λ (c : Channel). hand (let t : State = cond (is_channel c A) s (turned s) in t).other) e
      ∙ sym (ap (λ (c : Channel). hand (let l : Lane = cond (is_channel c B) s.mine s.other in l)) e);
}
either_turned s B A e = record {
  rules_are = ap (λ (c : Channel). (let t : State = cond (is_channel c B) s (turned s) in t).rules) e;
  channel_is = ap (λ (c : Channel). (let t : State = cond (is_channel c B) s (turned s) in t).channel) e
      ∙ ap other_channel e;
  mine_is = ap (λ (c : Channel). hand (let t : State = cond (is_channel c B) s (turned s) in t).mine) e
      ∙ sym (ap (λ (c : Channel). hand (let l : Lane = cond (is_channel c B) s.mine s.other in l)) e);
  other_is = ap (λ (c : Channel). hand (let t : State = cond (is_channel c B) s (turned s) in t).other) e
      ∙ sym (ap (λ (c : Channel). hand (let l : Lane = cond (is_channel c A) s.mine s.other in l)) e);
}
either_turned s B B e = record {
  rules_are = ap (λ (c : Channel). (let t : State = cond (is_channel c B) s (turned s) in t).rules) e;
  channel_is = ap (λ (c : Channel). (let t : State = cond (is_channel c B) s (turned s) in t).channel) e ∙ e;
  mine_is = ap (λ (c : Channel). hand (let t : State = cond (is_channel c B) s (turned s) in t).mine) e
      ∙ sym (ap (λ (c : Channel). hand (let l : Lane = cond (is_channel c B) s.mine s.other in l)) e);
  other_is = ap (λ (c : Channel). hand (let t : State = cond (is_channel c B) s (turned s) in t).other) e
      ∙ sym (ap (λ (c : Channel). hand (let l : Lane = cond (is_channel c A) s.mine s.other in l)) e);
}

is_turned : (s : State) (channel : Channel) → IsTurned s (turn s channel) channel
is_turned s channel = either_turned s channel s.channel refl

turn_same : (s : State) (channel : Channel) → turn (untimed s) channel ≡ untimed (turn s channel)
turn_same s channel = by (is_channel s.channel channel)
  where
    by : (b : Bool) → cond b (untimed s) (turned (untimed s)) ≡ untimed (cond b s (turned s))
    by true = refl
    by false = refl

-- the lanes of a state whose channel stands first
mine_on : (s : State) (channel : Channel) → s.channel ≡ channel → hand_on s channel ≡ hand s.mine
mine_on s channel e =
    ap hand (ap (λ (c : Channel). let l : Lane = cond (is_channel c channel) s.mine s.other in l) e
    ∙ cond-true (is_channel channel channel) s.mine s.other (same_channel channel))

other_on : (s : State) (channel : Channel) → s.channel ≡ channel → hand_on s (other_channel channel) ≡ hand s.other
other_on s channel e =
    ap hand (ap (λ (c : Channel). let l : Lane = cond (is_channel c (other_channel channel)) s.mine s.other in l) e
    ∙ cond-false (is_channel channel (other_channel channel)) s.mine s.other (by channel))
  where
    by : (c : Channel) → is_channel c (other_channel c) ≡ false
    by A = refl
    by B = refl

-- ---- a record of a channel that is judged

abbrev at_record : State → Record → At
at_record s r = record { number = (next_record s).records; time = r.time }

-- a slot of the cluster
abbrev has_no_slot : Parameters → ℕ → Bool
has_no_slot p id = cond (id == 0) true (nat_lt p.static_slots id && p.minislots == 0)

some_slot : (p : Parameters) (t : Timeline) (x : Timed) → IsPunctual p t x → has_no_slot p x.frame.id ≡ false
some_slot p t x is =
    cond-false (x.frame.id == 0) true (nat_lt p.static_slots x.frame.id && p.minislots == 0)
    (ne_eqb x.frame.id 0 (λ z. let one = is.from_one in let none : ⊥ = omega (arith, one, z) in none))
    ∙ by (nat_le x.frame.id p.static_slots) refl
  where
    by : (b : Bool) → nat_le x.frame.id p.static_slots ≡ b
        → (nat_lt p.static_slots x.frame.id && p.minislots == 0) ≡ false
    by true e = and_left (nat_lt p.static_slots x.frame.id) (p.minislots == 0)
        (le-ltb p.static_slots x.frame.id (leb-true x.frame.id p.static_slots e))
    by false e = and_right (nat_lt p.static_slots x.frame.id) (p.minislots == 0)
        (ne_eqb p.minislots 0 (λ z. let one = is.some_minislot e in let none : ⊥ = omega (arith, one, z) in none))

abbrev lawless_of : State → Fields → At → State
lawless_of s f at = ill s at (frame_place s.channel f) (record {
  name = name.Slot;
  expected = Absent;
  found = number_word f.id;
})

abbrev counted_on : State → Channel → State
counted_on s channel = count_record (turn (next_record s) channel)

judge_is : (s : State) (rec : Record) (channel : Channel) (f : Fields) → judges s.rules channel ≡ true
    → Spells channel rec f → has_no_slot s.rules.cluster.params f.id ≡ false
    → judge s rec ≡ good (counted_on s channel) f (at_record s rec)
unfolding judge take_kind frame_on spelled_frame
judge_is s rec channel f mine spells some =
    let n : State = next_record s in
    let t : State = turn n channel in
    let turned_is : IsTurned n t channel = is_turned n channel in
    ap (take_kind n (at_record s rec) rec.original rec.bytes) spells.is_frame
    ∙ cond-true (judges s.rules channel) (frame_on t (at_record s rec) rec.original rec.bytes) n mine
    ∙ ap (λ (c : Channel). take_frame (count_record t) (at_record s rec) rec.bytes (spelled c rec.original rec.bytes))
    turned_is.channel_is
    ∙ ap (take_frame (count_record t) (at_record s rec) rec.bytes) spells.spells
    ∙ cond-false (is_lawless (count_record t) f.id) (lawless_of (count_record t) f (at_record s rec))
    (good (count_record t) f (at_record s rec))
    (ap (λ (q : Rules). has_no_slot q.cluster.params f.id) turned_is.rules_are ∙ some)

-- ---- all lanes

-- the lane of the other channel stays as it is
record Passes (channel : Channel) (P : Hand → Type 0) (s u v : State) : Type 0 where
  same : u ≡ untimed v
  rules_are : v.rules ≡ s.rules
  mine_is : P (hand_on v channel)
  other_is : hand_on v (other_channel channel) ≡ hand_on s (other_channel channel)

passes : (channel : Channel) (P : Hand → Type 0) (s t u v : State) → IsTurned s t channel → Keeps P (watch t) u v
    → Passes channel P s u v
passes channel P s t u v turned_is k =
    let channel_is : v.channel ≡ channel = k.channel_is ∙ turned_is.channel_is in
    record {
      same = k.same;
      rules_are = k.rules_are ∙ turned_is.rules_are;
      mine_is = subst P (sym (mine_on v channel channel_is)) k.mine_is;
      other_is = other_on v channel channel_is ∙ k.other_is ∙ turned_is.other_is;
    }

counted_turned : (s : State) (channel : Channel) → IsTurned s (counted_on s channel) channel
counted_turned s channel =
    let c = is_turned (next_record s) channel in
    record { rules_are = c.rules_are; channel_is = c.channel_is; mine_is = c.mine_is; other_is = c.other_is }

module _ (r : Rules) (starts : ℕ → ℕ) (slack drift : ℕ) (lawful : IsParameters r.cluster.params)
    (is : IsTimeline r.cluster.params (line r starts slack drift)) where
  own_record : (channel : Channel) (s : State) (rec : Record) (x : Timed) (rest : List Timed) → s.rules ≡ r
      → judges r channel ≡ true → Spells channel rec x.frame → rec.time ≡ Some (pos x.time)
      → has_no_slot r.cluster.params x.frame.id ≡ false → Stands r starts slack drift (x ∷ rest) (hand_on s channel)
      → Passes channel (Stands r starts slack drift rest) s (judge (untimed s) rec) (judge s rec)
  own_record channel s rec x rest rules_are mine spells time_is some here =
      let t : State = counted_on s channel in
      let turned_is : IsTurned s (counted_on s channel) channel = counted_turned s channel in
      let mine_s : judges s.rules channel ≡ true = ap (λ (q : Rules). judges q channel) rules_are ∙ mine in
      let some_s : has_no_slot s.rules.cluster.params x.frame.id ≡ false =
      ap (λ (q : Rules). has_no_slot q.cluster.params x.frame.id) rules_are ∙ some in
      let timed_is : judge s rec ≡ good (counted_on s channel) x.frame (at_record s rec) =
      judge_is s rec channel x.frame mine_s spells some_s in
      let untimed_is : judge (untimed s) rec ≡ good (untimed (counted_on s channel)) x.frame (at_record s rec) =
      judge_is (untimed s) rec channel x.frame mine_s spells some_s
      ∙ ap (λ (u : State). good (count_record u) x.frame (at_record s rec)) (turn_same (next_record s) channel) in
      let k : Keeps (Stands r starts slack drift rest) (watch (counted_on s channel))
      (good (untimed (counted_on s channel)) x.frame (at_record s rec))
      (good (counted_on s channel) x.frame (at_record s rec)) =
      good_at r starts slack drift lawful is x rest (counted_on s channel) (at_record s rec)
      (turned_is.rules_are ∙ rules_are) time_is
      (subst (Stands r starts slack drift (x ∷ rest)) (sym turned_is.mine_is) here) in
      passes channel (Stands r starts slack drift rest) s (counted_on s channel) (judge (untimed s) rec) (judge s rec)
      turned_is
      (subst (λ (v : State). Keeps (Stands r starts slack drift rest) (watch (counted_on s channel)) v (judge s rec))
      (sym untimed_is)
      (subst (λ (v : State). Keeps (Stands r starts slack drift rest) (watch (counted_on s channel))
      (good (untimed (counted_on s channel)) x.frame (at_record s rec)) v) (sym timed_is) k))

  -- ---- each record

  first_punctual : (x : Timed) (rest : List Timed) (h : Hand) → Stands r starts slack drift (x ∷ rest) h
      → IsPunctual r.cluster.params (line r starts slack drift) x
  first_punctual x rest h (inl fresh) = fresh.1.0
  first_punctual x rest h (inr here) = here.3.1

  -- the channel's frames are in time, from the state on
  record IsOnCourse (channel : Channel) (s : State) (rs : List Record) : Type 0 where
    frames : List Timed
    are_at : AreAt channel rs frames
    stands : Stands r starts slack drift frames (hand_on s channel)

  abbrev AllOnCourse : State → List Record → Type 0
  AllOnCourse s rs = (channel : Channel) → judges r channel ≡ true → IsOnCourse channel s rs

  record Judged (s u v : State) (rs : List Record) : Type 0 where
    same : u ≡ untimed v
    rules_are : v.rules ≡ r
    course : AllOnCourse v rs

  -- the record isn't one of the channel
  aside : (channel : Channel) (s v : State) (rec : Record) (rs : List Record)
      → is_on channel (kind_of rec.link rec.bytes) ≡ false → hand_on v channel ≡ hand_on s channel
      → IsOnCourse channel s (rec ∷ rs) → IsOnCourse channel v rs
  aside channel s v rec rs other same c = by c.are_at
    where
      by : AreAt channel (rec ∷ rs) c.frames → IsOnCourse channel v rs
      by (inl here) = record {
        frames = c.frames;
        are_at = here.1;
        stands = subst (Stands r starts slack drift c.frames) (sym same) c.stands;
      }
      by (inr own) = absurd (let on : is_on channel (kind_of rec.link rec.bytes) ≡ true =
          ap (is_on channel) own.3.is_frame ∙ same_channel channel in
          let none : ⊥ = cc in none)

  still_judged : (s v : State) (rec : Record) (rs : List Record) → s.rules ≡ r → judge s rec ≡ v
      → judge (untimed s) rec ≡ untimed v → v.rules ≡ s.rules
      → ((channel : Channel) → hand_on v channel ≡ hand_on s channel)
      → ((channel : Channel) → judges r channel ≡ true → is_on channel (kind_of rec.link rec.bytes) ≡ false)
      → AllOnCourse s (rec ∷ rs) → Judged s (judge (untimed s) rec) (judge s rec) rs
  still_judged s v rec rs rules_are timed_is untimed_is same hands off course =
      subst (λ (u : State). Judged s (judge (untimed s) rec) u rs) (sym timed_is) (record {
        same = untimed_is;
        rules_are = same ∙ rules_are;
        course = λ channel mine. aside channel s v rec rs (off channel mine) (hands channel) (course channel mine);
      })

  -- a frame of a channel that is judged
  framed : (channel : Channel) (s : State) (rec : Record) (rs : List Record) → s.rules ≡ r
      → judges r channel ≡ true → kind_of rec.link rec.bytes ≡ Frame channel → AllOnCourse s (rec ∷ rs)
      → Judged s (judge (untimed s) rec) (judge s rec) rs
  framed channel s rec rs rules_are mine kind course = by (course channel mine) (course channel mine).are_at
    where
      not_other : (c : Channel) → is_channel (other_channel c) c ≡ false
      not_other A = refl
      not_other B = refl

      with_both : (P : Channel → Type 0) (c on : Channel) → P c → P (other_channel c) → P on
      with_both P A A mine other = mine
      with_both P A B mine other = other
      with_both P B A mine other = other
      with_both P B B mine other = mine

      by : (c : IsOnCourse channel s (rec ∷ rs)) → AreAt channel (rec ∷ rs) c.frames
          → Judged s (judge (untimed s) rec) (judge s rec) rs
      by c (inl here) = absurd (let on : is_on channel (kind_of rec.link rec.bytes) ≡ true =
          ap (is_on channel) kind ∙ same_channel channel in
          let off : is_on channel (kind_of rec.link rec.bytes) ≡ false = here.0 in
          let none : ⊥ = cc in none)
      by c (inr own) =
          let here : Stands r starts slack drift (own.0 ∷ own.1) (hand_on s channel) =
          subst (λ (xs : List Timed). Stands r starts slack drift xs (hand_on s channel)) own.2 c.stands in
          let p : Passes channel (Stands r starts slack drift own.1) s (judge (untimed s) rec) (judge s rec) =
          own_record channel s rec own.0 own.1 rules_are mine own.3 own.4
          (some_slot r.cluster.params (line r starts slack drift) own.0
          (first_punctual own.0 own.1 (hand_on s channel) here))
          here in
          record {
            same = p.same;
            rules_are = p.rules_are ∙ rules_are;
            course = λ on. with_both (λ (o : Channel). judges r o ≡ true → IsOnCourse o (judge s rec) rs)
                channel on
                (λ judged_is. record { frames = own.1; are_at = own.5; stands = p.mine_is })
                (λ judged_is. aside (other_channel channel) s (judge s rec) rec rs
                (ap (is_on (other_channel channel)) kind ∙ not_other channel) p.other_is
                (course (other_channel channel) judged_is));
          }

  -- a record of no channel that is judged
  ignored : (s : State) (rec : Record) (rs : List Record) (k : Kind) → s.rules ≡ r
      → kind_of rec.link rec.bytes ≡ k
      → (on : Channel) → ((k ≡ Symbol on) ⊎ (k ≡ Frame on)) → judges r on ≡ false → AllOnCourse s (rec ∷ rs)
      → Judged s (judge (untimed s) rec) (judge s rec) rs
  unfolding judge take_kind
  ignored s rec rs k rules_are kind on is_on_it none course =
      still_judged s (next_record s) rec rs rules_are (skips s rules_are)
      (skips_untimed (ap (λ (q : Rules). judges q on) rules_are ∙ none)) refl (λ channel. refl)
      (λ channel mine. off channel mine is_on_it) course
    where
      skips_by : (u : State) → judges u.rules on ≡ false → ((k ≡ Symbol on) ⊎ (k ≡ Frame on))
          → judge u rec ≡ next_record u
      skips_by u not_judged (inl e) =
          ap (take_kind (next_record u) (at_record u rec) rec.original rec.bytes) (kind ∙ e)
          ∙ cond-false (judges u.rules on)
          (symbol_on (count_symbol (turn (next_record u) on)) (at_record u rec) rec.original rec.bytes)
          (next_record u) not_judged
      skips_by u not_judged (inr e) =
          ap (take_kind (next_record u) (at_record u rec) rec.original rec.bytes) (kind ∙ e)
          ∙ cond-false (judges u.rules on)
          (frame_on (turn (next_record u) on) (at_record u rec) rec.original rec.bytes) (next_record u) not_judged

      skips : (u : State) → u.rules ≡ r → judge u rec ≡ next_record u
      skips u e = skips_by u (ap (λ (q : Rules). judges q on) e ∙ none) is_on_it

      skips_untimed : judges s.rules on ≡ false → judge (untimed s) rec ≡ untimed (next_record s)
      skips_untimed not_judged = skips_by (untimed s) not_judged is_on_it

      apart : (channel : Channel) → judges r channel ≡ true → is_channel channel on ≡ false
      apart channel mine = by channel on refl refl
        where
          by : (a b : Channel) → channel ≡ a → on ≡ b → is_channel a b ≡ false
          by A A e f = absurd (let no : judges r A ≡ false = ap (judges r) (sym f) ∙ none in
              let yes : judges r A ≡ true = ap (judges r) (sym e) ∙ mine in
              let bad : ⊥ = cc in bad)
          by A B e f = refl
          by B A e f = refl
          by B B e f = absurd (let no : judges r B ≡ false = ap (judges r) (sym f) ∙ none in
              let yes : judges r B ≡ true = ap (judges r) (sym e) ∙ mine in
              let bad : ⊥ = cc in bad)

      off : (channel : Channel) → judges r channel ≡ true → ((k ≡ Symbol on) ⊎ (k ≡ Frame on))
          → is_on channel (kind_of rec.link rec.bytes) ≡ false
      off channel mine (inl e) =
          ap (is_on channel) (kind ∙ e)
          ∙ subst (λ (b : Bool). is_channel channel on ≡ b) refl (apart channel mine)
      off channel mine (inr e) = ap (is_on channel) (kind ∙ e) ∙ apart channel mine

  foreign : (s : State) (rec : Record) (rs : List Record) → s.rules ≡ r → kind_of rec.link rec.bytes ≡ Foreign
      → AllOnCourse s (rec ∷ rs) → Judged s (judge (untimed s) rec) (judge s rec) rs
  unfolding judge take_kind
  foreign s rec rs rules_are kind course =
      still_judged s (record (next_record s) { foreign = counted s.foreign 1 }) rec rs rules_are
      (ap (take_kind (next_record s) (at_record s rec) rec.original rec.bytes) kind)
      (ap (take_kind (next_record (untimed s)) (at_record s rec) rec.original rec.bytes) kind) refl
      (λ channel. refl) (λ channel mine. ap (is_on channel) kind) course

  -- a channel that is judged has no symbol
  no_symbol : (channel : Channel) (s : State) (rec : Record) (rs : List Record) → judges r channel ≡ true
      → kind_of rec.link rec.bytes ≡ Symbol channel → IsOnCourse channel s (rec ∷ rs) → ⊥
  no_symbol channel s rec rs mine kind c = by c.are_at
    where
      by : AreAt channel (rec ∷ rs) c.frames → ⊥
      by (inl here) = let on : is_on channel (kind_of rec.link rec.bytes) ≡ true =
          ap (is_on channel) kind ∙ same_channel channel in
          let off : is_on channel (kind_of rec.link rec.bytes) ≡ false = here.0 in
          let none : ⊥ = cc in none
      by (inr own) = let both : Symbol channel ≡ Frame channel = sym kind ∙ own.3.is_frame in
          let none : ⊥ = cc in none

  each : (s : State) (rec : Record) (rs : List Record) → s.rules ≡ r → AllOnCourse s (rec ∷ rs)
      → Judged s (judge (untimed s) rec) (judge s rec) rs
  each s rec rs rules_are course = by (kind_of rec.link rec.bytes) refl
    where
      by : (k : Kind) → kind_of rec.link rec.bytes ≡ k → Judged s (judge (untimed s) rec) (judge s rec) rs
      by Foreign e = foreign s rec rs rules_are e course
      by (Symbol on) e = either (judges r on) refl
        where
          either : (b : Bool) → judges r on ≡ b → Judged s (judge (untimed s) rec) (judge s rec) rs
          either true mine = absurd (no_symbol on s rec rs mine e (course on mine))
          either false none = ignored s rec rs (Symbol on) rules_are e on (inl refl) none course
      by (Frame on) e = either (judges r on) refl
        where
          either : (b : Bool) → judges r on ≡ b → Judged s (judge (untimed s) rec) (judge s rec) rs
          either true mine = framed on s rec rs rules_are mine e course
          either false none = ignored s rec rs (Frame on) rules_are e on (inr refl) none course

  -- some records, and those that follow
  all_judged : (rs more : List Record) (s : State) → s.rules ≡ r → AllOnCourse s (rs ++ more)
      → Judged s (judged (untimed s) rs) (judged s rs) more
  all_judged [] more s rules_are course = record { same = refl; rules_are = rules_are; course = course }
  all_judged (rec ∷ rs) more s rules_are course =
      let one : Judged s (judge (untimed s) rec) (judge s rec) (rs ++ more) =
      each s rec (rs ++ more) rules_are course in
      let rest : Judged (judge s rec) (judged (untimed (judge s rec)) rs) (judged (judge s rec) rs) more =
      all_judged rs more (judge s rec) one.rules_are one.course in
      record {
        same = ap (λ (t : State). judged t rs) one.same ∙ rest.same;
        rules_are = rest.rules_are;
        course = rest.course;
      }

  -- ---- the end

  last_stands : (channel : Channel) (s : State) → IsOnCourse channel s []
      → Stands r starts slack drift [] (hand_on s channel)
  last_stands channel s c =
      subst (λ (xs : List Timed). Stands r starts slack drift xs (hand_on s channel)) c.are_at c.stands

  abbrev Nothing : Hand → Type 0
  Nothing h = Unit {0}

  channel_end : (channel : Channel) (s : State) → s.rules ≡ r → judges r channel ≡ true
      → Stands r starts slack drift [] (hand_on s channel)
      → Passes channel Nothing s (finish_on (untimed s) channel true) (finish_on s channel true)
  unfolding finish_on
  channel_end channel s rules_are mine here =
      let t : State = turn s channel in
      let turned_is : IsTurned s (turn s channel) channel = is_turned s channel in
      let settled_is : Keeps Nothing (watch (turn s channel)) (settle (untimed (turn s channel)) None)
      (settle (turn s channel) None) =
      settled_end r starts slack drift lawful is (turn s channel) (turned_is.rules_are ∙ rules_are)
      (subst (Stands r starts slack drift []) (sym turned_is.mine_is) here) in
      let told : IsCalm (settle (turn s channel) None) (tell_end (untimed (settle (turn s channel) None)))
      (tell_end (settle (turn s channel) None)) = tell_end_calm (settle (turn s channel) None) in
      let v : State = finish_channel (turn s channel) true in
      let mine_s : judges s.rules channel ≡ true = ap (λ (q : Rules). judges q channel) rules_are ∙ mine in
      let timed_is : finish_on s channel true ≡ finish_channel (turn s channel) true =
      cond-true (judges s.rules channel) (finish_channel (turn s channel) true) s mine_s in
      let untimed_is : finish_on (untimed s) channel true ≡ finish_channel (untimed (turn s channel)) true =
      cond-true (judges s.rules channel) (finish_channel (turn (untimed s) channel) true) (untimed s) mine_s
      ∙ ap (λ (u : State). finish_channel u true) (turn_same s channel) in
      passes channel Nothing s (turn s channel) (finish_on (untimed s) channel true) (finish_on s channel true)
      turned_is (record {
        same = untimed_is ∙ ap tell_end settled_is.same ∙ told.same ∙ ap untimed (sym timed_is);
        rules_are = ap (λ (u : State). u.rules) timed_is ∙ ap (λ (w : Watch). w.rules) told.still
            ∙ settled_is.rules_are;
        channel_is = ap (λ (u : State). u.channel) timed_is ∙ ap (λ (w : Watch). w.channel) told.still
            ∙ settled_is.channel_is;
        other_is = ap (λ (u : State). hand u.other) timed_is ∙ ap (λ (w : Watch). w.other) told.still
            ∙ settled_is.other_is;
        mine_is = tt;
      })

  record Ends (channel : Channel) (s u v : State) : Type 0 where
    same : u ≡ untimed v
    rules_are : v.rules ≡ s.rules
    other_is : hand_on v (other_channel channel) ≡ hand_on s (other_channel channel)

  either_end : (channel : Channel) (s : State) → s.rules ≡ r
      → (judges r channel ≡ true → Stands r starts slack drift [] (hand_on s channel))
      → Ends channel s (finish_on (untimed s) channel true) (finish_on s channel true)
  unfolding finish_on
  either_end channel s rules_are here = by (judges r channel) refl
    where
      by : (b : Bool) → judges r channel ≡ b
          → Ends channel s (finish_on (untimed s) channel true) (finish_on s channel true)
      by true mine =
          let p = channel_end channel s rules_are mine (here mine) in
          record { same = p.same; rules_are = p.rules_are; other_is = p.other_is }
      by false none =
          let none_s : judges s.rules channel ≡ false = ap (λ (q : Rules). judges q channel) rules_are ∙ none in
          let timed_is : finish_on s channel true ≡ s =
          cond-false (judges s.rules channel) (finish_channel (turn s channel) true) s none_s in
          let untimed_is : finish_on (untimed s) channel true ≡ untimed s =
          cond-false (judges s.rules channel) (finish_channel (turn (untimed s) channel) true) (untimed s) none_s in
          record {
            same = untimed_is ∙ ap untimed (sym timed_is);
            rules_are = ap (λ (u : State). u.rules) timed_is;
            other_is = ap (λ (u : State). hand_on u (other_channel channel)) timed_is;
          }

  finish_same : (s : State) → s.rules ≡ r
      → ((channel : Channel) → judges r channel ≡ true → Stands r starts slack drift [] (hand_on s channel))
      → finish (untimed s) true ≡ untimed (finish s true)
  unfolding finish
  finish_same s rules_are here =
      let t : State = record s { lines = [] } in
      let a : Ends A t (finish_on (untimed t) A true) (finish_on t A true) = either_end A t rules_are (here A) in
      let u : State = finish_on t A true in
      let b : Ends B u (finish_on (untimed u) B true) (finish_on u B true) =
      either_end B u (a.rules_are ∙ rules_are)
      (λ mine. subst (Stands r starts slack drift []) (sym a.other_is) (here B mine)) in
      ap (λ (v : State). finish_on v B true) a.same ∙ b.same

  -- ---- the whole recording

  fresh_stands : (channel : Channel) (xs : List Timed) → ArePunctual r.cluster.params (line r starts slack drift) xs
      → Stands r starts slack drift xs (hand_on (fresh r) channel)
  unfolding fresh
  fresh_stands A xs punctual =
      inl (record { none_held = refl; shut = record { none_open = refl; none_begun = refl } }, punctual)
  fresh_stands B xs punctual =
      inl (record { none_held = refl; shut = record { none_open = refl; none_begun = refl } }, punctual)

  -- the records of a channel are those of frames in time
  abbrev InTime : List Record → Type 0
  InTime rs = (channel : Channel) → judges r channel ≡ true
      → (xs : List Timed) × AreAt channel rs xs × ArePunctual r.cluster.params (line r starts slack drift) xs

  from_fresh : (rs more : List Record) → InTime (rs ++ more)
      → Judged (fresh r) (judged (untimed (fresh r)) rs) (judged (fresh r) rs) more
  unfolding fresh
  from_fresh rs more in_time =
      all_judged rs more (fresh r) refl (λ channel mine.
      let c = in_time channel mine in
      record { frames = c.0; are_at = c.1; stands = fresh_stands channel c.0 c.2 })

  pub same_front : (rs more : List Record)
      → ((channel : Channel) → judges r channel ≡ true
      → (xs : List Timed) × AreAt channel (rs ++ more) xs
      × ArePunctual r.cluster.params (line r starts slack drift) xs)
      → judged (untimed (fresh r)) rs ≡ untimed (judged (fresh r) rs)
  same_front rs more in_time = (from_fresh rs more in_time).same

  pub same_state : (rs : List Record)
      → ((channel : Channel) → judges r channel ≡ true
      → (xs : List Timed) × AreAt channel rs xs × ArePunctual r.cluster.params (line r starts slack drift) xs)
      → finish (judged (untimed (fresh r)) rs) true ≡ untimed (finish (judged (fresh r) rs) true)
  same_state rs in_time =
      let all : Judged (fresh r) (judged (untimed (fresh r)) rs) (judged (fresh r) rs) [] =
      from_fresh rs [] (subst InTime (sym (append-nil rs)) in_time) in
      ap (λ (t : State). finish t true) all.same
      ∙ finish_same (judged (fresh r) rs) all.rules_are
      (λ channel mine. last_stands channel (judged (fresh r) rs) (all.course channel mine))
