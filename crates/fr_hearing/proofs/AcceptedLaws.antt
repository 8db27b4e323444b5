-- A recording of a channel that has no finding holds some whole cycles of frames that the cluster allows there.
use Rattle.std.proofs.Common.{◌≡◌, ℕ, zero, suc, ◌+◌, ◌<◌, ◌≤◌, Bool, true, false, cond, List, [], ◌∷◌, refl, sym, ap}
use Rattle.std.proofs.Common.{subst, ◌∙◌, arith, length, ◌⊎◌, inl, inr}
use Rattle.std.proofs.lemmas.Bool.{cond-true, cond-false, ltb-false, eqb-false, and_from, or_right}
use Rattle.std.specs.Prelude.{Some, None, Result, Ok, Err, nat_le, nat_lt, ◌==◌, not, ◌&&◌, ◌||◌}
use Rattle.std.specs.Option.{is_some}
use Rattle.fr_frame.specs.Fields.{Fields}
use Rattle.fr_hearing.proofs.AlarmLaws.{alone, fresh_core, turn_rules, cluster_of, not_judged_alone, cleared}
use Rattle.fr_hearing.proofs.CameLemmas.{core_at}
use Rattle.fr_hearing.proofs.ConverseLemmas.{lawful_from}
use Rattle.fr_hearing.proofs.CoreLemmas.{Core, core}
use Rattle.fr_hearing.proofs.FoundLemmas.{end_is}
use Rattle.fr_hearing.proofs.FrameFoundLemmas.{IsGood, IsWhole, Stage, before, begun, within, between, stage_core}
use Rattle.fr_hearing.proofs.FrameFoundLemmas.{Sound, Rest, Leads, good_at, begun_settles, between_settles}
use Rattle.fr_hearing.proofs.RecordLemmas.{turn_none, record_turn, other_record, at_record}
use Rattle.fr_hearing.proofs.SpelledLemmas.{spelled_sized}
use Rattle.fr_hearing.proofs.StepLemmas.{settle_none, settle_at}
use Rattle.fr_hearing.proofs.ToldLemmas.{Told, find_told, ill_told, judged_keeps, finish_keeps, finish_on_keeps}
use Rattle.fr_hearing.proofs.ToldLemmas.{tell_end_keeps, nothing_keeps}
use Rattle.fr_hearing.specs.Accepted.{IsAside, AreDecoded, AcceptedIsHeard}
use Rattle.fr_hearing.specs.Alarms.{is_on, Spells, judged}
use Rattle.fr_hearing.specs.Heard.{Spot, IsOver, AreHeard, IsFirst, IsNext, cycle_start, after_frame}
use Rattle.fr_judging.specs.declared.line.At.{At}
use Rattle.fr_judging.specs.declared.rules.Rules.{Rules}
use Rattle.fr_judging.specs.Judging.{State, turn, turned, judge, take_kind, next_record, frame_on, symbol_on}
use Rattle.fr_judging.specs.Judging.{count_symbol, count_record, take_frame, spelled_frame, is_lawless, ill, good, find}
use Rattle.fr_judging.specs.Judging.{symbol_place, settle, end_cycle, end_in, tell_nothing, tell_end, says_nothing}
use Rattle.fr_judging.specs.Judging.{silence, fresh, finish, finish_on, finish_channel, has_finding, none_found}
use Rattle.fr_judging.specs.Rules.{judges, other_channel, rules_of, has_sender, has_sender_in}
use Rattle.fr_logged.specs.declared.finding.Finding.{Finding}
use Rattle.fr_logged.specs.declared.finding.Name.TheVariants as name
use Rattle.fr_logged.specs.declared.finding.Word.TheVariants.{Absent}
use Rattle.fr_logged.specs.declared.record.Kind.{Kind}
use Rattle.fr_logged.specs.declared.record.Kind.TheVariants.{Foreign, Symbol, Frame}
use Rattle.fr_logged.specs.Findings.{bare, number_word}
use Rattle.fr_logged.specs.Logged.{kind_of, spelled, cut, place_in, place_of as frame_place}
use Rattle.fr_recording.specs.Numbers.{most_counted}
use Rattle.fr_recording.specs.Records.{Record}
use Rattle.fr_schedule.specs.Clusters.{IsCluster}
use Rattle.fr_schedule.specs.Descriptions.{Description}
use Rattle.fr_slots.specs.Admission.{is_channel}
use Rattle.fr_slots.specs.declared.channel.Channel.{Channel}
use Rattle.fr_slots.specs.declared.channel.Channel.TheVariants.{A, B}

channel_same : (c d : Channel) → is_channel c d ≡ true → d ≡ c
channel_same A A e = refl
channel_same A B e = absurd (let none : ⊥ = cc in none)
channel_same B A e = absurd (let none : ⊥ = cc in none)
channel_same B B e = refl

stage_channel : (r : Rules) (channel : Channel) (x : Stage) → (stage_core r channel x).channel ≡ channel
stage_channel r channel before = refl
stage_channel r channel (begun h) = refl
stage_channel r channel (within spot) = refl
stage_channel r channel (between spot h) = refl

stage_rules : (r : Rules) (channel : Channel) (x : Stage) → (stage_core r channel x).rules ≡ r
stage_rules r channel before = refl
stage_rules r channel (begun h) = refl
stage_rules r channel (within spot) = refl
stage_rules r channel (between spot h) = refl

stage_found : (r : Rules) (channel : Channel) (x : Stage) → (stage_core r channel x).found ≡ none_found
stage_found r channel before = refl
stage_found r channel (begun h) = refl
stage_found r channel (within spot) = refl
stage_found r channel (between spot h) = refl

-- the frames of a recording from a place on
record Comes (r : Rules) (channel : Channel) (from : Stage) (rs : List Record) : Type 0 where
  frames : List Fields
  decoded : AreDecoded r.cluster channel rs frames
  rest : Rest r channel from frames

module _ (r : Rules) (channel : Channel) (is : IsWhole r) (mine : judges r channel ≡ true)
    (others : judges r (other_channel channel) ≡ false) where
  -- ---- a state with the channel first

  module _ (s : State) (from : Stage) (e : core s ≡ stage_core r channel from) where
    rules_are : s.rules ≡ r
    rules_are = ap (λ (c : Core). c.rules) e ∙ stage_rules r channel from

    channel_is : s.channel ≡ channel
    channel_is = ap (λ (c : Core). c.channel) e ∙ stage_channel r channel from

    found_is : s.found ≡ none_found
    found_is = ap (λ (c : Core). c.found) e ∙ stage_found r channel from

    -- ---- a symbol

    symbol_is : (at : At) (original : ℕ) (bytes : List ℕ) → Told (symbol_on s at original bytes)
        ⊎ ((original ≤ length bytes) × (1 ≤ r.cluster.params.symbol_mt) × (symbol_on s at original bytes ≡ s))
    unfolding symbol_on
    symbol_is at original bytes =
        by (nat_lt (length bytes) original) refl (s.rules.cluster.params.symbol_mt == 0) refl
      where
        some : (n : ℕ) → (n ≡ 0 → ⊥) → 1 ≤ n
        some zero other = absurd (other refl)
        some (suc n) other = omega arith

        window : (s.rules.cluster.params.symbol_mt == 0) ≡ false → 1 ≤ r.cluster.params.symbol_mt
        window there = some r.cluster.params.symbol_mt (eqb-false r.cluster.params.symbol_mt 0
            (ap (λ (q : Rules). q.cluster.params.symbol_mt == 0) (sym rules_are) ∙ there))

        by : (a : Bool) → nat_lt (length bytes) original ≡ a → (b : Bool)
            → (s.rules.cluster.params.symbol_mt == 0) ≡ b
            → Told (cond a (ill s at (symbol_place s) (cut original (length bytes)))
            (cond b (find s (Some at) (symbol_place s) (bare name.Symbol)) s))
            ⊎ ((original ≤ length bytes) × (1 ≤ r.cluster.params.symbol_mt)
            × (cond a (ill s at (symbol_place s) (cut original (length bytes)))
            (cond b (find s (Some at) (symbol_place s) (bare name.Symbol)) s) ≡ s))
        by true short b there = inl (ill_told s at (symbol_place s) (cut original (length bytes)) found_is)
        by false long true none = inl (find_told s (Some at) (symbol_place s) (bare name.Symbol) found_is)
        by false long false there = inr (ltb-false (length bytes) original long, window there, refl)

    -- ---- a frame

    spelled_is : (at : At) (f : Fields) (channel_of : Channel) (original : ℕ) (bytes : List ℕ)
        → spelled channel_of original bytes ≡ Ok f → Sound r from
        → Told (spelled_frame s at f) ⊎ Leads r channel (spelled_frame s at f) from f
    unfolding spelled_frame
    spelled_is at f channel_of original bytes spells sound = by (is_lawless s f.id) refl
      where
        x : Finding
        x = record { name = name.Slot; expected = Absent; found = number_word f.id }

        good_one : is_lawless s f.id ≡ false → IsGood r f
        good_one lawful = record {
          sized = spelled_sized channel_of original bytes f spells;
          lawful = lawful_from r.cluster.params.static_slots r.cluster.params.minislots f.id
              (ap (λ (q : Rules). cond (f.id == 0) true (nat_lt q.cluster.params.static_slots f.id
              && q.cluster.params.minislots == 0)) (sym rules_are) ∙ lawful);
        }

        by : (b : Bool) → is_lawless s f.id ≡ b
            → Told (cond b (ill s at (frame_place s.channel f) x) (good s f at))
            ⊎ Leads r channel (cond b (ill s at (frame_place s.channel f) x) (good s f at)) from f
        by true lawless = inl (ill_told s at (frame_place s.channel f) x found_is)
        by false lawful = good_at r channel is s from f at e sound (good_one lawful)

  taken_by : (s : State) (from : Stage) → core s ≡ stage_core r channel from → Sound r from → (at : At)
      (original : ℕ) (bytes : List ℕ) (x : Result Fields Finding) → spelled channel original bytes ≡ x
      → Told (take_frame s at bytes x)
      ⊎ ((f : Fields) × (spelled channel original bytes ≡ Ok f)
      × Leads r channel (take_frame s at bytes x) from f)
  taken_by s from e sound at original bytes (Err x) spells =
      inl (ill_told s at (place_in s.channel bytes) x (found_is s from e))
  taken_by s from e sound at original bytes (Ok f) spells =
      elim (spelled_is s from e at f channel original bytes spells sound) [
        | inl told ↦ inl told
        | inr leads ↦ inr (f, spells, leads)
      ]

  frame_is : (s : State) (from : Stage) → core s ≡ stage_core r channel from → Sound r from → (at : At)
      (original : ℕ) (bytes : List ℕ) → Told (frame_on s at original bytes)
      ⊎ ((f : Fields) × (spelled channel original bytes ≡ Ok f)
      × Leads r channel (frame_on s at original bytes) from f)
  unfolding frame_on
  frame_is s from e sound at original bytes =
      taken_by (count_record s) from e sound at original bytes (spelled s.channel original bytes)
      (ap (λ (c : Channel). spelled c original bytes) (sym (channel_is s from e)))

  -- ---- a record

  abbrev Step : State → Record → Stage → Type 0
  Step s rec from = Told (judge s rec)
      ⊎ ((IsAside r.cluster channel rec × (core (turn (judge s rec) channel) ≡ core (turn s channel)))
      ⊎ ((f : Fields) × Spells channel rec f × Leads r channel (turn (judge s rec) channel) from f))

  module _ (s : State) (rec : Record) (from : Stage) (e : core (turn s channel) ≡ stage_core r channel from)
      (sound : Sound r from) where
    first : core (turn (next_record s) channel) ≡ stage_core r channel from
    first = record_turn s channel ∙ e

    judged_here : (turn (next_record s) channel).rules ≡ r
    judged_here = rules_are (turn (next_record s) channel) from first

    is_mine : judges s.rules channel ≡ true
    is_mine = ap (λ (q : Rules). judges q channel) (sym (turn_rules (next_record s) channel) ∙ judged_here) ∙ mine

    aside_step : is_on channel (kind_of rec.link rec.bytes) ≡ false → Step s rec from
    aside_step other = inr (inl (
      inl other,
      other_record channel s rec
          (inl (ap (λ (q : Rules). judges q (other_channel channel))
          (sym (turn_rules (next_record s) channel) ∙ judged_here) ∙ others)) other,
    ))

    judge_symbol : kind_of rec.link rec.bytes ≡ Symbol channel → judge s rec
        ≡ symbol_on (count_symbol (turn (next_record s) channel)) (at_record s rec) rec.original rec.bytes
    unfolding judge take_kind
    judge_symbol kind =
        ap (take_kind (next_record s) (at_record s rec) rec.original rec.bytes) kind
        ∙ cond-true (judges s.rules channel)
        (symbol_on (count_symbol (turn (next_record s) channel)) (at_record s rec) rec.original rec.bytes)
        (next_record s) is_mine

    judge_frame : kind_of rec.link rec.bytes ≡ Frame channel → judge s rec
        ≡ frame_on (turn (next_record s) channel) (at_record s rec) rec.original rec.bytes
    unfolding judge take_kind
    judge_frame kind =
        ap (take_kind (next_record s) (at_record s rec) rec.original rec.bytes) kind
        ∙ cond-true (judges s.rules channel)
        (frame_on (turn (next_record s) channel) (at_record s rec) rec.original rec.bytes)
        (next_record s) is_mine

    symbol_step : kind_of rec.link rec.bytes ≡ Symbol channel → Step s rec from
    symbol_step kind = by (symbol_is (count_symbol (turn (next_record s) channel)) from first (at_record s rec)
        rec.original rec.bytes)
      where
        by : Told (symbol_on (count_symbol (turn (next_record s) channel)) (at_record s rec) rec.original rec.bytes)
            ⊎ ((rec.original ≤ length rec.bytes) × (1 ≤ r.cluster.params.symbol_mt)
            × (symbol_on (count_symbol (turn (next_record s) channel)) (at_record s rec) rec.original rec.bytes
            ≡ count_symbol (turn (next_record s) channel)))
            → Step s rec from
        by (inl told) = inl (subst Told (sym (judge_symbol kind)) told)
        by (inr way) =
            let same : judge s rec ≡ count_symbol (turn (next_record s) channel) = judge_symbol kind ∙ way.2 in
            let here : turn (judge s rec) channel ≡ count_symbol (turn (next_record s) channel) =
            ap (λ (u : State). turn u channel) same
            ∙ turn_none (count_symbol (turn (next_record s) channel)) channel
            (channel_is (turn (next_record s) channel) from first) in
            inr (inl (
              inr (record { is_symbol = kind; whole = way.0; window = way.1 }),
              ap core here ∙ record_turn s channel,
            ))

    frame_step : kind_of rec.link rec.bytes ≡ Frame channel → Step s rec from
    frame_step kind = by (frame_is (turn (next_record s) channel) from first sound (at_record s rec) rec.original
        rec.bytes)
      where
        by : Told (frame_on (turn (next_record s) channel) (at_record s rec) rec.original rec.bytes)
            ⊎ ((f : Fields) × (spelled channel rec.original rec.bytes ≡ Ok f)
            × Leads r channel (frame_on (turn (next_record s) channel) (at_record s rec) rec.original rec.bytes) from
            f)
            → Step s rec from
        by (inl told) = inl (subst Told (sym (judge_frame kind)) told)
        by (inr way) =
            let t : State = frame_on (turn (next_record s) channel) (at_record s rec) rec.original rec.bytes in
            let here : turn (judge s rec) channel
            ≡ frame_on (turn (next_record s) channel) (at_record s rec) rec.original rec.bytes =
            ap (λ (u : State). turn u channel) (judge_frame kind)
            ∙ turn_none t channel (channel_is t (way.2).next (way.2).here) in
            inr (inr (
              way.0,
              record { is_frame = kind; spells = way.1 },
              subst (λ (u : State). Leads r channel u from way.0) (sym here) way.2,
            ))

    step : Step s rec from
    step = by (kind_of rec.link rec.bytes) refl
      where
        by : (k : Kind) → kind_of rec.link rec.bytes ≡ k → Step s rec from
        by Foreign kind = aside_step (ap (is_on channel) kind)
        by (Symbol c) kind = symbol_by (is_channel channel c) refl
          where
            symbol_by : (b : Bool) → is_channel channel c ≡ b → Step s rec from
            symbol_by false other = aside_step (ap (is_on channel) kind ∙ other)
            symbol_by true here = symbol_step (kind ∙ ap Symbol (channel_same channel c here))
        by (Frame c) kind = frame_by (is_channel channel c) refl
          where
            frame_by : (b : Bool) → is_channel channel c ≡ b → Step s rec from
            frame_by false other = aside_step (ap (is_on channel) kind ∙ other)
            frame_by true here = frame_step (kind ∙ ap Frame (channel_same channel c here))

  -- ---- the end

  over_is : (t : State) (spot : Spot) → core t ≡ core_at r channel spot
      → Told (tell_end t) ⊎ IsOver r.cluster channel spot
  unfolding tell_end
  over_is t spot e = elim (end_is r channel is.plain t None spot e) [
    | inl told ↦ inl (nothing_keeps (cond t.rules.whole (end_cycle t None) t)
        (subst Told (sym (cond-true t.rules.whole (end_cycle t None) t
        (ap (λ (c : Core). c.rules.whole) e ∙ is.whole))) told))
    | inr over ↦ inr over
  ]

  nothing_told : (t : State) → core t ≡ stage_core r channel before → has_sender_in r channel ≡ true
      → Told (tell_nothing t)
  unfolding tell_nothing
  nothing_told t e some =
      let says : says_nothing t ≡ true =
      and_from (not t.mine.heard) (nat_le silence (t.other.cycles + cond (is_some t.other.held) 1 0)
      || not t.other.heard) (ap (λ (c : Core). not c.heard) e)
      (or_right (nat_le silence (t.other.cycles + cond (is_some t.other.held) 1 0)) (not t.other.heard)
      (ap (λ (c : Core). not c.answered) e)) in
      subst Told (sym (cond-true (has_sender_in t.rules t.channel && says_nothing t)
      (find t None (symbol_place t) (bare name.Nothing)) t
      (and_from (has_sender_in t.rules t.channel) (says_nothing t)
      (ap (λ (c : Core). has_sender_in c.rules c.channel) e ∙ some) says)))
      (find_told t None (symbol_place t) (bare name.Nothing) (ap (λ (c : Core). c.found) e))

  no_cycle : (t : State) → t.mine.current ≡ None → end_cycle t None ≡ t
  unfolding end_cycle
  no_cycle t none = ap (end_in t None) none

  silent_told : (t : State) → core t ≡ stage_core r channel before → has_sender_in r channel ≡ true
      → Told (tell_end t)
  unfolding tell_end
  silent_told t e some =
      subst (λ (u : State). Told (tell_nothing u)) (sym (by t.rules.whole)) (nothing_told t e some)
    where
      by : (b : Bool) → cond b (end_cycle t None) t ≡ t
      by true = no_cycle t (ap (λ (c : Core). c.current) e)
      by false = refl

  ends : (t : State) (from : Stage) → core t ≡ stage_core r channel from → Sound r from
      → Told (finish_channel t true) ⊎ Rest r channel from []
  ends t before e sound = by (has_sender_in r channel) refl
    where
      still : settle t None ≡ t
      still = settle_none t None (ap (λ (c : Core). c.held) e)

      by : (b : Bool) → has_sender_in r channel ≡ b → Told (finish_channel t true) ⊎ Rest r channel before []
      by true some = inl (subst (λ (u : State). Told (tell_end u)) (sym still) (silent_told t e some))
      by false none = inr (tt, λ some. absurd (let no : ⊥ = cc (sym some ∙ none) in no))
  ends t (begun h) e sound = by (begun_settles r channel is t h None e sound)
    where
      by : Told (settle t None) ⊎ (IsFirst r.cluster channel h.frame
          × (core (settle t None) ≡ core_at r channel (after_frame r.cluster.params
          (cycle_start r.cluster.params h.frame.cycle) h.frame)))
          → Told (finish_channel t true) ⊎ Rest r channel (begun h) []
      by (inl told) = inl (tell_end_keeps (settle t None) told)
      by (inr way) = elim (over_is (settle t None)
          (after_frame r.cluster.params (cycle_start r.cluster.params h.frame.cycle) h.frame) way.1) [
            | inl told ↦ inl told
            | inr over ↦ inr (way.0, over)
          ]
  ends t (within spot) e sound = over_is (settle t None) spot (settle_at r channel t spot None e)
  ends t (between spot h) e sound = by (between_settles r channel is t spot h None e sound.0 sound.1)
    where
      by : Told (settle t None) ⊎ (IsNext r.cluster channel spot h.frame
          × (core (settle t None) ≡ core_at r channel (after_frame r.cluster.params
          (cycle_start r.cluster.params h.frame.cycle) h.frame)))
          → Told (finish_channel t true) ⊎ Rest r channel (between spot h) []
      by (inl told) = inl (tell_end_keeps (settle t None) told)
      by (inr way) = elim (over_is (settle t None)
          (after_frame r.cluster.params (cycle_start r.cluster.params h.frame.cycle) h.frame) way.1) [
            | inl told ↦ inl told
            | inr over ↦ inr (inr (way.0, over))
          ]

  cleared_core : (s : State) → core (turn (cleared s) channel) ≡ core (turn s channel)
  cleared_core s = by (is_channel s.channel channel)
    where
      by : (b : Bool) → core (cond b (cleared s) (turned (cleared s))) ≡ core (cond b s (turned s))
      by true = refl
      by false = refl

  ends_on : (s : State) → s.rules ≡ r → Told (finish_channel (turn s channel) true)
      → Told (finish_on s channel true)
  unfolding finish_on
  ends_on s rules told =
      subst Told (sym (cond-true (judges s.rules channel) (finish_channel (turn s channel) true) s
      (ap (λ (q : Rules). judges q channel) rules ∙ mine))) told

pub quiet_other : (r : Rules) (s : State) (other : Channel) → s.rules ≡ r → judges r other ≡ false
    → finish_on s other true ≡ s
unfolding finish_on
quiet_other r s other rules none =
    cond-false (judges s.rules other) (finish_channel (turn s other) true) s
    (ap (λ (q : Rules). judges q other) rules ∙ none)

finish_told : (r : Rules) (channel : Channel) (s : State) → judges r channel ≡ true
    → judges r (other_channel channel) ≡ false → s.rules ≡ r
    → Told (finish_on (cleared s) channel true) → Told (finish s true)
unfolding finish
finish_told r A s mine others rules told = finish_on_keeps (finish_on (cleared s) A true) B told
finish_told r B s mine others rules told =
    subst (λ (t : State). Told (finish_on t B true)) (sym (quiet_other r (cleared s) A rules others)) told

module _ (r : Rules) (channel : Channel) (is : IsWhole r) (mine : judges r channel ≡ true)
    (others : judges r (other_channel channel) ≡ false) where
  no_both : {X : Type 0} (s : State) → Told s → has_finding s ≡ false → X
  no_both s told quiet = absurd (let none : ⊥ = cc (sym told ∙ quiet) in none)

  at_end : (s : State) (from : Stage) → core (turn s channel) ≡ stage_core r channel from → Sound r from
      → has_finding (finish s true) ≡ false → Rest r channel from []
  at_end s from e sound quiet =
      elim (ends r channel is mine others (turn (cleared s) channel) from
      (cleared_core r channel is mine others s ∙ e) sound) [
        | inl told ↦ no_both (finish s true) (finish_told r channel s mine others rules
            (ends_on r channel is mine others (cleared s) rules told)) quiet
        | inr rest ↦ rest
      ]
    where
      rules : s.rules ≡ r
      rules = sym (turn_rules s channel) ∙ rules_are r channel is mine others (turn s channel) from e

  all_from : (rs : List Record) (s : State) (from : Stage) → core (turn s channel) ≡ stage_core r channel from
      → Sound r from → has_finding (finish (judged s rs) true) ≡ false → Comes r channel from rs
  all_from [] s from e sound quiet =
      record { frames = []; decoded = refl; rest = at_end s from e sound quiet }
  all_from (rec ∷ rs) s from e sound quiet = elim (step r channel is mine others s rec from e sound) [
    | inl told ↦ no_both (finish (judged (judge s rec) rs) true)
        (finish_keeps (judged (judge s rec) rs) (judged_keeps (judge s rec) rs told)) quiet
    | inr (inl aside) ↦
        let more : Comes r channel from rs = all_from rs (judge s rec) from (aside.1 ∙ e) sound quiet in
        record { frames = more.frames; decoded = inl (aside.0, more.decoded); rest = more.rest }
    | inr (inr own) ↦
        let more : Comes r channel (own.2).next rs =
        all_from rs (judge s rec) (own.2).next (own.2).here (own.2).sound quiet in
        record {
          frames = own.0 ∷ more.frames;
          decoded = inr (own.0, more.frames, refl, own.1, more.decoded);
          rest = (own.2).follows more.frames more.rest;
        }
  ]

few_minislots : (n : ℕ) → n ≤ 8000 → n < most_counted
few_minislots n few = omega (arith, few)

sender_same : (d : Description) (most : ℕ) (channel : Channel) → has_sender d channel ≡ true
    → has_sender_in (rules_of d most true (Some channel) 0) channel ≡ true
unfolding rules_of
sender_same d most A some = some
sender_same d most B some = some

whole_rules : (d : Description) (most : ℕ) (channel : Channel) → IsCluster d
    → IsWhole (rules_of d most true (Some channel) 0)
unfolding rules_of
whole_rules d most channel cluster = record {
  plain = (alone d most true channel).plain;
  whole = refl;
  few = few_minislots d.params.minislots cluster.params_are.minislots_fit.at_most;
}

pub accepted_is_heard : AcceptedIsHeard
accepted_is_heard d most channel rs cluster quiet =
    let r : Rules = rules_of d most true (Some channel) 0 in
    let same : r.cluster ≡ d = cluster_of d most true channel in
    let comes : Comes r channel before rs = all_from r channel (whole_rules d most channel cluster)
    (alone d most true channel).mine (not_judged_alone d most true channel) rs (fresh r) before
    (fresh_core r channel) tt quiet in
    record {
      frames = comes.frames;
      decoded = subst (λ (e : Description). AreDecoded e channel rs comes.frames) same comes.decoded;
      cycles = subst (λ (e : Description). AreHeard e channel comes.frames) same comes.rest.0;
      some = λ some. comes.rest.1 (sender_same d most channel some);
    }
