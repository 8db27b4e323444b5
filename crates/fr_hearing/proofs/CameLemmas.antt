-- The frame of a slot that the cluster allows leaves no finding, and the place after it.
use Rattle.std.proofs.Common.{◌≡◌, ℕ, ◌+◌, ◌-◌, ◌/◌, ◌≤◌, Bool, true, false, cond, refl, ap, ◌∙◌, arith, length}
use Rattle.std.proofs.lemmas.Bool.{cond-true}
use Rattle.std.specs.Prelude.{Option, Some, None, min, nat_le, ◌==◌}
use Rattle.std.specs.Option.{option_or}
use Rattle.fr_frame.specs.Fields.{Fields}
use Rattle.fr_hearing.proofs.CoreLemmas.{Core, core, back_core, show_core, fix_core, keep_core, no_channels}
use Rattle.fr_hearing.proofs.FrameLemmas.{owners_fits, dynamic_fits, minislot_fits}
use Rattle.fr_hearing.specs.Heard.{Spot, after_dynamic, after_frame, IsOwners, IsDynamic, IsAllowed, IsAllowedAs}
use Rattle.fr_judging.specs.declared.line.At.{At}
use Rattle.fr_judging.specs.declared.rules.Rules.{Rules}
use Rattle.fr_judging.specs.Distances.{time_finding, time_from}
use Rattle.fr_judging.specs.Judging.{State, static_came, static_found, static_with, dynamic_came, came, came_with, back}
use Rattle.fr_judging.specs.Judging.{show, fix, keep_frame, channels_finding, placed_finding, is_placed, none_found}
use Rattle.fr_judging.specs.Judging.{none_away}
use Rattle.fr_judging.specs.Lanes.{after_dynamic as dynamic_lane}
use Rattle.fr_judging.specs.Rules.{due_at, slot_time, are_both}
use Rattle.fr_logged.specs.declared.due.Due.{Due}
use Rattle.fr_logged.specs.declared.finding.Finding.{Finding}
use Rattle.fr_logged.specs.Rules.{static_finding, dynamic_finding, minislot_finding}
use Rattle.fr_recording.specs.Numbers.{counted, most_counted}
use Rattle.fr_slots.specs.declared.channel.Channel.{Channel}
use Rattle.fr_slots.specs.Faults.{minislots_filled}

-- one channel is judged, and times aren't
pub record IsPlain (r : Rules) : Type 0 where
  pub untimed : (r.macrotick == 0) ≡ true
  pub one : are_both r ≡ false

-- a place, without a finding so far
abbrev pub core_at : Rules → Channel → Spot → Core
core_at r channel s = record {
  found = none_found;
  away = none_away;
  rules = r;
  channel = channel;
  opposite = None;
  aside = None;
  answered = false;
  held = None;
  current = Some s.cycle;
  last = s.last;
  slot = s.slot;
  minislot = min s.minislot most_counted;
  heard = true;
}

-- ---- a static slot

static_core : (s : State) (f : Fields) (at : At) (d : Option Due) → static_finding d f ≡ None
    → s.other.current ≡ None → (s.rules.macrotick == 0) ≡ true → s.away ≡ none_away
    → core (static_came s f at d) ≡ (record (core s) { last = f.id })
unfolding static_came
static_core s f at d fits none untimed away =
    let nothing : option_or (static_finding d f) (channels_finding s f d) ≡ None =
    ap (λ (o : Option Finding). option_or o (channels_finding s f d)) fits ∙ no_channels s f d none in
    let in_time : time_finding s.rules s.mine f.id at.time None ≡ None =
    cond-true (s.rules.macrotick == 0) None (time_from (slot_time s.rules) s.mine.fixed f.id at.time) untimed in
    ap (λ (o : Option Finding). core (static_found s f at d o)) nothing
    ∙ ap (λ (o : Option Finding). core (static_with s f at d None o)) in_time
    ∙ keep_core (fix (show (back s f at d) f d) f at None) f at
    ∙ ap (λ (c : Core). let r : Core = record c { last = f.id } in r)
    (fix_core (show (back s f at d) f d) f at None ∙ show_core (back s f at d) f d ∙ back_core s f at d away)

static_at : (r : Rules) (channel : Channel) (s : State) (at : At) (d : Due) (spot : Spot) (f : Fields)
    → core s ≡ core_at r channel spot → IsPlain r → IsOwners d f
    → core (static_came s f at (Some d)) ≡ core_at r channel (record spot { last = f.id })
static_at r channel s at d spot f e plain is =
    static_core s f at (Some d) (owners_fits d f is) (ap (λ (c : Core). c.opposite) e)
    (ap (λ (c : Core). c.rules.macrotick == 0) e ∙ plain.untimed) (ap (λ (c : Core). c.away) e)
    ∙ ap (λ (c : Core). let t : Core = record c { last = f.id } in t) e

-- ---- a dynamic slot

-- counts that stop at a limit
pub still_least : (a b m : ℕ) → min (min a m + b) m ≡ min (a + b) m
still_least a b m = omega arith

pub least_below : (a b m n : ℕ) → a + b ≤ n → min (min a m + b) m ≤ n
least_below a b m n le = omega arith

pub opens_by_limit : (n a b : ℕ) → a + b ≤ n → counted (min a most_counted) b ≤ n
opens_by_limit n a b le = least_below a b most_counted n le

dynamic_core : (s : State) (f : Fields) (at : At) (d : Option Due) → dynamic_finding d f ≡ None
    → placed_finding s f d ≡ None
    → core (dynamic_came s f at d) ≡ (record (core s) {
      last = f.id;
      slot = f.id + 1;
      minislot = counted (counted (counted s.mine.minislot (f.id - s.mine.slot))
          (minislots_filled s.rules.cluster.params (length f.payload / 2))) s.rules.cluster.params.idle;
    })
unfolding dynamic_came
dynamic_core s f at d fits placed =
    let nothing : option_or (dynamic_finding d f) (placed_finding s f d) ≡ None =
    ap (λ (o : Option Finding). option_or o (placed_finding s f d)) fits ∙ placed in
    let t : State = record s { mine = dynamic_lane s.rules.cluster.params s.mine f (length f.payload / 2) } in
    ap (λ (o : Option Finding). core (keep_frame t f at o)) nothing ∙ keep_core t f at

placed_none : (r : Rules) (channel : Channel) (s : State) (d : Due) (spot : Spot) (f : Fields)
    → core s ≡ core_at r channel spot → IsDynamic r.cluster.params d spot f → placed_finding s f (Some d) ≡ None
unfolding placed_finding
placed_none r channel s d spot f e is =
    by (is_placed s)
    (ap (λ (c : Core). minislot_finding c.rules.cluster.params.minislots d.latest (counted c.minislot (f.id - c.slot)))
    e
    ∙ minislot_fits r.cluster.params.minislots d.latest (counted (min spot.minislot most_counted) (f.id - spot.slot))
    (opens_by_limit r.cluster.params.minislots spot.minislot (f.id - spot.slot) is.within)
    (opens_by_limit d.latest spot.minislot (f.id - spot.slot) is.in_time))
  where
    by : {o : Option Finding} (b : Bool) → o ≡ None → cond b o None ≡ None
    by true none = none
    by false none = refl

-- the limit is taken once
pub limits : (a b c d : ℕ)
    → counted (counted (counted (min a most_counted) b) c) d ≡ min (a + b + c + d) most_counted
limits a b c d =
    ap (λ (n : ℕ). counted (counted n c) d) (still_least a b most_counted)
    ∙ ap (λ (n : ℕ). counted n d) (still_least (a + b) c most_counted)
    ∙ still_least (a + b + c) d most_counted

dynamic_at : (r : Rules) (channel : Channel) (s : State) (at : At) (d : Due) (spot : Spot) (f : Fields)
    → core s ≡ core_at r channel spot → IsDynamic r.cluster.params d spot f
    → core (dynamic_came s f at (Some d)) ≡ core_at r channel (after_dynamic r.cluster.params spot f)
dynamic_at r channel s at d spot f e is =
    dynamic_core s f at (Some d) (dynamic_fits r.cluster.params d spot f is) (placed_none r channel s d spot f e is)
    ∙ ap (λ (c : Core). let t : Core = record c {
      last = f.id;
      slot = f.id + 1;
      minislot = counted (counted (counted c.minislot (f.id - c.slot))
          (minislots_filled c.rules.cluster.params (length f.payload / 2))) c.rules.cluster.params.idle;
    } in t) e
    ∙ ap (λ (n : ℕ). let t : Core = record (core_at r channel (after_dynamic r.cluster.params spot f)) { minislot = n }
    in t)
    (limits spot.minislot (f.id - spot.slot) (minislots_filled r.cluster.params (length f.payload / 2))
    r.cluster.params.idle)

-- ---- each slot

pub came_at : (r : Rules) (channel : Channel) (s : State) (at : At) (spot : Spot) (f : Fields)
    → core s ≡ core_at r channel spot → IsPlain r → IsAllowed r.cluster channel spot f
    → core (came s f at) ≡ core_at r channel (after_frame r.cluster.params spot f)
unfolding came
came_at r channel s at spot f e plain is =
    ap (λ (o : Option Due). core (came_with s f at o))
    (ap (λ (c : Core). due_at c.rules.cluster f.id c.channel f.cycle) e ∙ is.due_is)
    ∙ ap (λ (c : Core). core (cond (nat_le f.id c.rules.cluster.params.static_slots)
    (static_came s f at (Some is.due)) (dynamic_came s f at (Some is.due)))) e
    ∙ by (nat_le f.id r.cluster.params.static_slots) is.allowed
  where
    by : (b : Bool) → IsAllowedAs r.cluster.params is.due spot f b
        → core (cond b (static_came s f at (Some is.due)) (dynamic_came s f at (Some is.due)))
        ≡ core_at r channel (cond b (record spot { last = f.id }) (after_dynamic r.cluster.params spot f))
    by true is_owners = static_at r channel s at is.due spot f e plain is_owners
    by false is_dynamic = dynamic_at r channel s at is.due spot f e is_dynamic
