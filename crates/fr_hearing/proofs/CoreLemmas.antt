-- The part of a judge's state on which findings depend, and the steps that leave it as it is.
use Rattle.std.proofs.Common.{◌≡◌, ℕ, zero, suc, ◌+◌, ◌-◌, ◌<◌, ◌≤◌, Bool, true, false, cond, List, refl, ap, ◌∙◌}
use Rattle.std.proofs.Common.{arith, replicate, inl, inr}
use Rattle.std.proofs.lemmas.Bool.{cond-true, cond-false, eq-eqb, cases_lt}
use Rattle.std.proofs.lemmas.List.{get_or-replicate, get_or_past, length-replicate}
use Rattle.std.specs.Prelude.{Option, Some, None, nat_le, slice_index, ◌==◌, not, ◌&&◌, ◌||◌}
use Rattle.fr_frame.specs.Fields.{Fields}
use Rattle.fr_judging.specs.declared.lane.Held.{Held}
use Rattle.fr_judging.specs.declared.line.At.{At}
use Rattle.fr_judging.specs.declared.line.Line.TheVariants as line
use Rattle.fr_judging.specs.declared.rules.Rules.{Rules}
use Rattle.fr_judging.specs.Judging.{State, add_back, back_of, back, away_at, with_away, none_away, show, show_frame}
use Rattle.fr_judging.specs.Judging.{count_frame, find_some, keep_frame, fix, miss, miss_due, skipped, skip_to}
use Rattle.fr_judging.specs.Judging.{channels_finding, differ, beside, is_beside, silence, shown_in, shown_at}
use Rattle.fr_judging.specs.Lanes.{same_open}
use Rattle.fr_judging.specs.Rules.{due_at, other_channel}
use Rattle.fr_judging.specs.Tallies.{away_place}
use Rattle.fr_logged.specs.declared.due.Due.{Due}
use Rattle.fr_logged.specs.declared.finding.Finding.{Finding}
use Rattle.fr_logged.specs.Logged.{place_of as frame_place}
use Rattle.fr_slots.specs.declared.channel.Channel.{Channel}

pub record Core : Type 0 where
  pub found : List ℕ
  pub away : List ℕ
  pub rules : Rules
  pub channel : Channel
  pub opposite : Option ℕ
  pub aside : Option Held
  pub answered : Bool
  pub held : Option Held
  pub current : Option ℕ
  pub last : ℕ
  pub slot : ℕ
  pub minislot : ℕ
  pub heard : Bool

-- of the other channel the open cycle and the waiting frame alone, and whether it had a good frame
abbrev pub core : State → Core
core s = record {
  found = s.found;
  away = s.away;
  rules = s.rules;
  channel = s.channel;
  opposite = s.other.current;
  aside = s.other.held;
  answered = s.other.heard;
  held = s.mine.held;
  current = s.mine.current;
  last = s.mine.last;
  slot = s.mine.slot;
  minislot = s.mine.minislot;
  heard = s.mine.heard;
}

-- ---- no slot comes back

zero_of : (n i : ℕ) → slice_index (replicate n 0) i ≡ 0
zero_of n i = elim (cases_lt i n) [
  | inl within ↦ get_or-replicate n i 0 0 within
  | inr past ↦ get_or_past (replicate n 0) i 0 (omega (arith, length-replicate {A = ℕ} n 0, past))
]

-- no slot was missing so far
pub none_at : (i : ℕ) → slice_index none_away i ≡ 0
unfolding none_away
none_at i = zero_of 32768 i

back_none : (s : State) (f : Fields) (at : At) (node times : ℕ) → times ≡ 0 → back_of s f at node times ≡ s
back_none s f at node times none =
    cond-true (times == 0) s
    (add_back (with_away s f.id node 0) (line.Back at (frame_place s.channel f) node times)) (eq-eqb times 0 none)

pub back_core : (s : State) (f : Fields) (at : At) (d : Option Due) → s.away ≡ none_away
    → core (back s f at d) ≡ core s
unfolding back
back_core s f at None none = refl
back_core s f at (Some d) none =
    ap core (back_none s f at d.node (away_at s f.id d.node)
    (ap (λ (l : List ℕ). slice_index l (away_place f.id s.channel d.node)) none
    ∙ none_at (away_place f.id s.channel d.node)))

pub show_core : (s : State) (f : Fields) (d : Option Due) → core (show s f d) ≡ core s
unfolding show
show_core s f None = refl
show_core s f (Some d) = by d.both
  where
    by : (b : Bool) → core (cond b (show_frame s f) s) ≡ core s
    by true = refl
    by false = refl

pub fix_core : (s : State) (f : Fields) (at : At) (wrong : Option Finding) → core (fix s f at wrong) ≡ core s
fix_core s f at wrong = refl

-- a frame without a finding is its slot's
pub keep_core : (s : State) (f : Fields) (at : At)
    → core (keep_frame s f at None) ≡ (record (core s) { last = f.id })
unfolding keep_frame find_some count_frame
keep_core s f at = refl

-- ---- slots without an owner

miss_none : (s : State) (at : Option At) (cycle slot : ℕ) → due_at s.rules.cluster slot s.channel cycle ≡ None
    → miss s at cycle slot ≡ s
unfolding miss miss_due
miss_none s at cycle slot none = ap (miss_due s at cycle slot) none

skipped_none : (s : State) (at : Option At) (cycle from n : ℕ)
    → ((k : ℕ) → from ≤ k → k < from + n → due_at s.rules.cluster k s.channel cycle ≡ None)
    → skipped s at cycle from n ≡ s
unfolding skipped
skipped_none s at cycle from zero free = refl
skipped_none s at cycle from (suc n) free =
    ap (λ (t : State). miss t at cycle (from + n))
    (skipped_none s at cycle from n (λ k le lt. free k le (omega arith)))
    ∙ miss_none s at cycle (from + n) (free (from + n) (omega arith) (omega arith))

pub skip_none : (s : State) (at : Option At) (cycle from end : ℕ)
    → ((k : ℕ) → from ≤ k → k < end → due_at s.rules.cluster k s.channel cycle ≡ None)
    → skip_to s at cycle from end ≡ s
unfolding skip_to
skip_none s at cycle from end free =
    skipped_none s at cycle from (end - from) (λ k le lt. free k le (omega arith))

-- ---- the other channel

none_beside : (s : State) (f : Fields) → s.other.current ≡ None → beside s f ≡ None
none_beside s f none =
    cond-false (is_beside s f) (shown_in s.other (shown_at s f.id (other_channel s.channel))) None
    (ap (λ (o : Option ℕ). same_open o (Some f.cycle) && not (s.other.left || nat_le silence s.other.alone)) none)

pub no_channels : (s : State) (f : Fields) (d : Option Due) → s.other.current ≡ None
    → channels_finding s f d ≡ None
unfolding channels_finding
no_channels s f None none = refl
no_channels s f (Some d) none = by d.both
  where
    by : (b : Bool) → cond b (differ f (beside s f)) None ≡ None
    by true = ap (differ f) (none_beside s f none)
    by false = refl
