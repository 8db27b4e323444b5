-- A text for each trace, one trace after another, and the last lines of traces.
use Rattle.std.proofs.Common.{◌≡◌, ◌≢◌, ◌<◌, ◌≤◌, ℕ, zero, suc, ◌+◌, Bool, true, false, cond, List, [], ◌∷◌, ◌++◌}
use Rattle.std.proofs.Common.{length, Option, Some, None, refl, sym, ap, ap₂, subst, ◌∙◌, append-nil, arith}
use Rattle.std.proofs.Common.{eqb, get_or, inl, inr, ◌⊎◌, slice_get}
use Rattle.std.specs.Prelude.{nat_lt}
use Rattle.std.proofs.lemmas.Bool.{le-ltb, lt-ltb, ltb-false, ltb-true}
use Rattle.std.proofs.lemmas.Bool.Decides.{eqb_tells}
use Rattle.std.proofs.lemmas.List.{get_or_past}
use Rattle.fr_capture.specs.Pcap.{file_header}
use Rattle.fr_core.specs.Worlds.{WorldState}
use Rattle.fr_endless.proofs.TapLemmas.{added_as, added_none, added_then, beyond_as, beyond_more, front_longer}
use Rattle.fr_endless.proofs.TapLemmas.{front_more, more_unknown, no_text}
use Rattle.fr_endless.specs.Taps.{AddsEach, AddsMore, IsTold, IsToldWhole, Start, TapsState, at_node}
use Rattle.fr_endless.specs.Taps.{head_at, head_of, head_with, last_line, record_of, traced_in}
use Rattle.fr_endless.specs.declared.taps.Tap.{Tap}
use Rattle.fr_live.specs.LiveWorlds.{Entries}
use Rattle.fr_schedule.specs.Descriptions.{Description}
use Rattle.fr_showing.specs.Listening.{all_records}
use Rattle.fr_slots.specs.Parameters.{Parameters}
use Rattle.fr_slots.specs.Plans.{Plan}

-- the texts of the traces of the first nodes
abbrev pub below : ℕ → (ℕ → List ℕ) → ℕ → List ℕ
below count texts n = cond (nat_lt n count) (texts n) []

-- nothing yet
pub each_none : (taps : TapsState) (texts : ℕ → List ℕ) → AddsEach taps taps (below 0 texts)
each_none taps texts =
    added_as taps taps (λ n. []) (below 0 texts)
    (λ n. sym (ap (λ (b : Bool). cond b (texts n) []) (le-ltb n 0 (omega arith)))) (added_none taps)

below_more : (texts : ℕ → List ℕ) (place : ℕ) (text : List ℕ) (n : ℕ) → text ≡ texts place
    → below place texts n ++ at_node place text n ≡ below (place + 1) texts n
below_more texts place text n is = by (eqb_tells n place)
  where
    by : ((eqb n place ≡ true) × (n ≡ place)) ⊎ ((eqb n place ≡ false) × (n ≢ place))
        → below place texts n ++ at_node place text n ≡ below (place + 1) texts n
    by (inl (test, same)) =
        ap₂ (λ (a b : Bool). cond a (texts n) [] ++ cond b text []) (le-ltb n place (omega (arith, same))) test
        ∙ is ∙ ap texts (sym same)
        ∙ sym (ap (λ (b : Bool). cond b (texts n) []) (lt-ltb n (place + 1) (omega (arith, same))))
    by (inr (test, other)) =
        ap (λ (b : Bool). below place texts n ++ cond b text []) test ∙ append-nil (below place texts n)
        ∙ ap (λ (b : Bool). cond b (texts n) []) (tests (nat_lt n place) refl)
      where
        tests : (b : Bool) → nat_lt n place ≡ b → nat_lt n place ≡ nat_lt n (place + 1)
        tests true is = is ∙ sym (lt-ltb n (place + 1) (omega (arith, ltb-true n place is)))
        tests false is = is ∙ sym (le-ltb n (place + 1) (omega (arith, ltb-false n place is, other)))

-- one trace more
pub each_more : (old mid new : TapsState) (texts : ℕ → List ℕ) (place : ℕ) (text : List ℕ) → text ≡ texts place
    → AddsEach old mid (below place texts) → AddsEach mid new (at_node place text)
    → AddsEach old new (below (place + 1) texts)
each_more old mid new texts place text is so_far adds =
    added_as old new (λ n. below place texts n ++ at_node place text n) (below (place + 1) texts)
    (λ n. below_more texts place text n is)
    (added_then old mid new (below place texts) (at_node place text) so_far adds)

more_all : (old new : TapsState) (texts : ℕ → List ℕ) (count n : ℕ) (b : Bool) → nat_lt n count ≡ b
    → length old.traced ≤ count
    → AddsMore old.failed new.failed (traced_in old.traced n) (traced_in new.traced n) (cond b (texts n) [])
    → AddsMore old.failed new.failed (traced_in old.traced n) (traced_in new.traced n) (texts n)
more_all old new texts count n true is all adds = adds
more_all old new texts count n false is all adds =
    subst (λ (x : Option (List ℕ)). AddsMore old.failed new.failed x (traced_in new.traced n) (texts n))
    (sym (get_or_past old.traced n None (omega (arith, all, ltb-false n count is))))
    (more_unknown old.failed new.failed (traced_in new.traced n) (texts n))

-- of all traces
pub each_all : (old new : TapsState) (texts : ℕ → List ℕ) (count : ℕ) → length old.traced ≤ count
    → AddsEach old new (below count texts) → AddsEach old new texts
each_all old new texts count all adds = record {
  params_are = adds.params_are;
  kept_is = adds.kept_is;
  stays = adds.stays;
  to_record = adds.to_record;
  to_capture = adds.to_capture;
  to_traces = λ n. more_all old new texts count n (nat_lt n count) refl all (adds.to_traces n);
}

-- of all nodes of a cluster
pub each_head : (old new : TapsState) (d : Description) (room : Entries) (count : ℕ) → length d.plans ≤ count
    → AddsEach old new (below count (head_at d room)) → AddsEach old new (head_at d room)
each_head old new d room count all adds =
    added_as old new (below count (head_at d room)) (head_at d room) (λ n. by n (nat_lt n count) refl) adds
  where
    none_past : (ps : List Plan) (n : ℕ) → length ps ≤ n → slice_get ps n ≡ None
    none_past [] n past = refl
    none_past (p ∷ ps) zero past = absurd (let no : ⊥ = omega (arith, past) in no)
    none_past (p ∷ ps) (suc n) past = none_past ps n (omega (arith, past))

    by : (n : ℕ) (b : Bool) → nat_lt n count ≡ b → cond b (head_at d room n) [] ≡ head_at d room n
    by n true is = refl
    by n false is =
        sym (ap (head_with d.params room) (none_past d.plans n (omega (arith, all, ltb-false n count is))))

-- the lines of the node's plan
pub head_got : (d : Description) (room : Entries) (params : Parameters) (plans : List Plan) (place : ℕ) (plan : Plan)
    → params ≡ d.params → plans ≡ d.plans → place < length plans → plan ≡ get_or plans place plan
    → head_of params room plan ≡ head_at d room place
head_got d room params plans place plan params_are plans_are within is =
    ap (λ (p : Parameters). head_of p room plan) params_are
    ∙ ap (head_with d.params room) (sym (got plans place plan within is))
    ∙ ap (λ (ps : List Plan). head_with d.params room (slice_get ps place)) plans_are
  where
    got : (ps : List Plan) (n : ℕ) (p : Plan) → n < length ps → p ≡ get_or ps n p → slice_get ps n ≡ Some p
    got [] n p within is = absurd (let no : ⊥ = omega (arith, within) in no)
    got (q ∷ ps) zero p within is = ap (λ (x : Plan). Some x) (sym is)
    got (q ∷ ps) (suc n) p within is = got ps n p (omega (arith, within)) is

-- ---- flushed traces

-- texts were written, and then the traces were flushed
pub then_flushed : (old mid new : TapsState) (texts : ℕ → List ℕ) → AddsEach old mid texts
    → AddsEach mid new (λ n. []) → AddsEach old new texts
then_flushed old mid new texts adds flushed =
    added_as old new (λ n. texts n ++ []) texts (λ n. append-nil (texts n))
    (added_then old mid new texts (λ n. []) adds flushed)

-- one trace more was flushed
pub flushed_more : (old mid new : TapsState) (place : ℕ) → AddsEach old mid (λ n. [])
    → AddsEach mid new (at_node place []) → AddsEach old new (λ n. [])
flushed_more old mid new place so_far flushed =
    added_as old new (λ n. at_node place [] n) (λ n. []) (λ n. no_text place n)
    (added_then old mid new (λ n. []) (at_node place []) so_far flushed)

-- ---- the last lines

-- the traces were ended
pub told_ended : (s : Start) (mid new : TapsState) (w : WorldState) → AddsEach mid new (λ n. last_line)
    → IsTold s mid w → IsToldWhole s new w
told_ended s mid new w adds is = record {
  params_are = adds.params_are ∙ is.params_are;
  recorded_are = beyond_as new.failed [] s.record_before (record_of s.params w.bus.sealed ++ [])
      (record_of s.params w.bus.sealed) s.recorded new.recorded (append-nil (record_of s.params w.bus.sealed))
      (beyond_more mid.failed new.failed [] s.record_before (record_of s.params w.bus.sealed) [] s.recorded
      mid.recorded new.recorded is.recorded_are adds.to_record adds.stays);
  captured_are = beyond_as new.failed file_header s.capture_before (all_records s.params w.bus.sealed ++ [])
      (all_records s.params w.bus.sealed) s.captured new.captured (append-nil (all_records s.params w.bus.sealed))
      (beyond_more mid.failed new.failed file_header s.capture_before (all_records s.params w.bus.sealed) []
      s.captured mid.captured new.captured is.captured_are adds.to_capture adds.stays);
  traces_are = λ n.
      let (added, body_is, front) = is.traces_are n in (
        added,
        body_is,
        front_more mid.failed new.failed added last_line (traced_in s.traced n) (traced_in mid.traced n)
            (traced_in new.traced n) front (adds.to_traces n) adds.stays,
      );
}

-- a file failed, so that the traces weren't ended
pub told_short : (s : Start) (taps : TapsState) (w : WorldState) (tap : Tap) → taps.failed ≡ Some tap
    → IsTold s taps w → IsToldWhole s taps w
told_short s taps w tap some is = record {
  params_are = is.params_are;
  recorded_are = is.recorded_are;
  captured_are = is.captured_are;
  traces_are = λ n.
      let (added, body_is, front) = is.traces_are n in (
        added,
        body_is,
        front_longer taps.failed tap added last_line (traced_in s.traced n) (traced_in taps.traced n) some front,
      );
}
