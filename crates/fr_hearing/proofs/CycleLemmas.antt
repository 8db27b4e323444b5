-- The frames of a record of windows are those of a channel's cycles.
use Rattle.std.proofs.Common.{◌≡◌, ℕ, ◌+◌, ◌-◌, ◌%◌, ◌<◌, ◌≤◌, true, ◌&&◌, List, [], ◌∷◌, ◌++◌, length, Some, None}
use Rattle.std.proofs.Common.{refl, sym, ap, subst, ◌∙◌, arith, inl, inr}
use Rattle.std.specs.Prelude.{◌==◌}
use Rattle.std.proofs.lemmas.Bool.{eq-eqb, le-leb}
use Rattle.std.proofs.lemmas.List.{append_assoc, append-nil}
use Rattle.std.proofs.lemmas.Nat.{mod_below}
use Rattle.std.proofs.lemmas.Map.Keys.{any_passes_from_place}
use Rattle.fr_bus.specs.Courses.{Standpoint, course_of, cycle_of}
use Rattle.fr_bus.specs.Record.{Recorded}
use Rattle.fr_bus.specs.States.{IsRecorded}
use Rattle.fr_bus.specs.Windows.{this_cycle, statics_of}
use Rattle.fr_core.proofs.CaseLemmas.{both, both_first, both_rest}
use Rattle.fr_frame.specs.Fields.{Fields}
use Rattle.fr_guardian.proofs.AloneLemmas.{each_at}
use Rattle.fr_hearing.proofs.NextLemmas.{IsNextOf, next_window, after_first, after_static, after_dynamic, some_minislot}
use Rattle.fr_hearing.proofs.PassageLemmas.{IsHeardAt, with_frame, IsAt, due_at_some, static_step, first_step}
use Rattle.fr_hearing.proofs.PassageLemmas.{dynamic_step}
use Rattle.fr_hearing.proofs.SizeLemmas.{found_at}
use Rattle.fr_hearing.specs.Heard.{Spot, cycle_start, after_frame, IsAllowed, AreFree, static_end, IsFirst, AreHeard}
use Rattle.fr_hearing.specs.Heard.{FollowOn}
use Rattle.fr_judging.specs.Rules.{due_at, is_clocked, owns_some, owns_in}
use Rattle.fr_logged.proofs.DueLemmas.{due_is_owners}
use Rattle.fr_logged.proofs.FirstLemmas.{some_found_in}
use Rattle.fr_logged.specs.declared.due.Due.{Due}
use Rattle.fr_logged.specs.Dues.{static_due, buffer_in}
use Rattle.fr_schedule.specs.Clusters.{IsCluster, IsNode}
use Rattle.fr_schedule.specs.Descriptions.{Description}
use Rattle.fr_slots.proofs.FaultlessLemmas.{faultless}
use Rattle.fr_slots.specs.Admission.{includes, cycle_admitted}
use Rattle.fr_slots.specs.declared.channel.Channel.{Channel}
use Rattle.fr_slots.specs.Faults.{claims}
use Rattle.fr_slots.specs.History.{AllAfter}
use Rattle.fr_slots.specs.Plans.{Plan, IsOwn}
use Rattle.fr_slots.specs.Windows.{static_window}

-- ---- the windows of a record

abbrev pub AreHeardAt : Description → Channel → List Recorded → Type 0
AreHeardAt d channel [] = Unit {0}
AreHeardAt d channel (r ∷ rs) = IsHeardAt d channel r × AreHeardAt d channel rs

abbrev pub frames_of : (d : Description) (channel : Channel) (rs : List Recorded) → AreHeardAt d channel rs
    → List Fields
frames_of d channel [] h = []
frames_of d channel (r ∷ rs) h = with_frame d channel r h.0 (frames_of d channel rs h.1)

-- ---- a cycle has a frame

-- a static slot with an owner
pub record HasOwner (d : Description) (channel : Channel) (cycle : ℕ) : Type 0 where
  pub slot : ℕ
  pub from_one : 1 ≤ slot
  pub static : slot ≤ d.params.static_slots
  pub due : Due
  pub due_is : due_at d slot channel cycle ≡ Some due

pub has_owner : (d : Description) (channel : Channel) (cycle : ℕ) → IsCluster d → cycle < 64
    → is_clocked d channel cycle ≡ true → HasOwner d channel cycle
has_owner d channel cycle cluster fits clocked =
    let node = some_found_in (owns_some channel cycle) d.plans clocked in
    let plan : Plan = node.value in
    let here = found_at (owns_some channel cycle) d.plans node.value node.is in
    let line = some_found_in (owns_in channel cycle) node.value.owned here.passes in
    let there = found_at (owns_in channel cycle) node.value.owned line.value line.is in
    let is_node : IsNode d.params node.value = each_at (IsNode d.params) d.plans here.place node.value
    cluster.nodes_are here.at in
    let own_is : IsOwn line.value = each_at IsOwn node.value.owned there.place line.value is_node.0.owned_are
    there.at in
    let few : line.value.slot ≤ d.params.static_slots =
    (faultless d.params node.value is_node.1).owned_are_static there.place line.value there.at in
    let claimed : claims line.value.slot channel cycle line.value ≡ true =
    both (line.value.slot == line.value.slot && includes line.value.channels channel)
    (cycle_admitted line.value.cycles cycle)
    (both (line.value.slot == line.value.slot) (includes line.value.channels channel)
    (eq-eqb line.value.slot line.value.slot refl)
    (both_first (includes line.value.channels channel) (cycle_admitted line.value.cycles cycle) there.passes))
    (both_rest (includes line.value.channels channel) (cycle_admitted line.value.cycles cycle) there.passes) in
    let owner = some_found_in (claims line.value.slot channel cycle) node.value.owned
    (any_passes_from_place (claims line.value.slot channel cycle) node.value.owned there.place line.value there.at
    claimed) in
    let due = due_is_owners d line.value.slot channel cycle here.place node.value owner.value cluster.one_sender fits
    (le-leb line.value.slot d.params.static_slots few) here.at owner.is in
    record {
      slot = line.value.slot;
      from_one = own_is.slot_is.from_one;
      static = few;
      due = static_due d.params here.place node.value owner.value
          (buffer_in line.value.slot channel cycle node.value);
      due_is = due_at_some d line.value.slot channel cycle (static_due d.params here.place node.value owner.value
          (buffer_in line.value.slot channel cycle node.value)) own_is.slot_is.from_one own_is.slot_is.at_most due;
    }

pub not_free : (d : Description) (channel : Channel) (cycle : ℕ) → HasOwner d channel cycle
    → AreFree d channel cycle 1 (static_end d) → ⊥
not_free d channel cycle o free =
    let few = o.static in
    let none : None ≡ Some o.due = sym (free o.slot o.from_one (omega (arith, few))) ∙ o.due_is in
    let no : ⊥ = cc in no

-- the frames begin with the first one of a cycle
pub record Begins (d : Description) (channel : Channel) (cycle : ℕ) (fs : List Fields) : Type 0 where
  pub frame : Fields
  pub rest : List Fields
  pub is : fs ≡ frame ∷ rest
  pub cycle_is : frame.cycle ≡ cycle
  pub first : IsFirst d channel frame
  pub after : FollowOn d channel (after_frame d.params (cycle_start d.params frame.cycle) frame) rest

begins : (d : Description) (channel : Channel) (cycle : ℕ) (fs : List Fields) → HasOwner d channel cycle
    → FollowOn d channel (cycle_start d.params cycle) fs → Begins d channel cycle fs
begins d channel cycle [] owner over = absurd (not_free d channel cycle owner over)
begins d channel cycle (f ∷ fs) owner (inl further) =
    let same : f.cycle ≡ cycle = further.0.same_cycle in
    record {
      frame = f;
      rest = fs;
      is = refl;
      cycle_is = same;
      first = record {
        free = further.0.free;
        allowed = subst (λ (n : ℕ). IsAllowed d channel (cycle_start d.params n) f) (sym same) further.0.allowed;
      };
      after = subst (λ (n : ℕ). FollowOn d channel (after_frame d.params (cycle_start d.params n) f) fs) (sym same)
          further.1;
    }
begins d channel cycle (f ∷ fs) owner (inr next) = absurd (not_free d channel cycle owner next.0.over)

-- ---- cycle by cycle

module _ (d : Description) (cycles : ℕ) (channel : Channel) (cluster : IsCluster d)
    (clocked : (cycle : ℕ) → cycle < 64 → is_clocked d channel cycle ≡ true) where
  -- the first window of a cycle, with the frames after it
  from_first : (before : List Recorded) (r : Recorded) (heard_is : IsHeardAt d channel r) (fs : List Fields)
      → r.window ≡ static_window (course_of d.params cycles before).windows
      ((course_of d.params cycles before).begun % 64) 1
      → ((t : Spot) → IsAt d channel (course_of d.params cycles (before ++ r ∷ [])) t → FollowOn d channel t fs)
      → Begins d channel ((course_of d.params cycles before).begun % 64) (with_frame d channel r heard_is fs)
  from_first before r heard_is fs is rest =
      let c : Standpoint = course_of d.params cycles before in
      let fits : c.begun % 64 < 64 = mod_below c.begun 64 (omega arith) in
      begins d channel (c.begun % 64) (with_frame d channel r heard_is fs)
      (has_owner d channel (c.begun % 64) cluster fits (clocked (c.begun % 64) fits))
      (first_step d channel cluster c r heard_is fs refl is
      (λ t here. rest t (subst (λ (e : Standpoint). IsAt d channel e t)
      (sym (after_first d.params cycles before r c.windows (c.begun % 64) is)) here)))

  step : (before : List Recorded) (r : Recorded) (heard_is : IsHeardAt d channel r) (s : Spot) (fs : List Fields)
      → IsAt d channel (course_of d.params cycles before) s → IsNextOf (course_of d.params cycles before) r.window
      → ((t : Spot) → IsAt d channel (course_of d.params cycles (before ++ r ∷ [])) t → FollowOn d channel t fs)
      → FollowOn d channel s (with_frame d channel r heard_is fs)
  step before r heard_is s fs at (inl first) rest =
      let c : Standpoint = course_of d.params cycles before in
      let b = from_first before r heard_is fs first.is rest in
      let over : d.params.static_slots ≤ c.statics = first.over at.some_window in
      let some : 1 ≤ c.begun = at.some_cycle in
      let next : c.begun % 64 ≡ ((c.begun - 1) % 64 + 1) % 64 = omega (arith, some) in
      subst (FollowOn d channel s) (sym b.is) (inr (
        record {
          next_cycle = b.cycle_is ∙ next ∙ ap (λ (n : ℕ). (n + 1) % 64) (sym at.cycle_is);
          over = λ k low high. at.free k low (omega (arith, high, over));
          first = b.first;
        },
        b.after,
      ))
  step before r heard_is s fs at (inr (inl static)) rest =
      let c : Standpoint = course_of d.params cycles before in
      static_step d channel cluster c s r heard_is fs at static.1.further static.1.is
      (λ t here. rest t (subst (λ (e : Standpoint). IsAt d channel e t)
      (sym (after_static d.params cycles before r c.windows (cycle_of c) c.statics at.some_static static.1.is)) here))
  step before r heard_is s fs at (inr (inr dynamic)) rest =
      let c : Standpoint = course_of d.params cycles before in
      let some : 1 ≤ dynamic.1.minislot =
      some_minislot c dynamic.1.minislot at.begins_a at.begins_b dynamic.1.least in
      dynamic_step d channel cluster c dynamic.1.minislot r dynamic.1.is some dynamic.1.over s heard_is fs at
      (λ t here. rest t (subst (λ (e : Standpoint). IsAt d channel e t)
      (sym (after_dynamic d.params cycles before r dynamic.1.minislot some dynamic.1.is)) here))

  follow : (before rs : List Recorded) (h : AreHeardAt d channel rs) (s : Spot)
      → AllAfter (IsRecorded d cycles) before rs → IsAt d channel (course_of d.params cycles before) s
      → d.params.static_slots ≤ statics_of (this_cycle (before ++ rs))
      → FollowOn d channel s (frames_of d channel rs h)
  unfolding AllAfter
  follow before [] h s all at end =
      let over : d.params.static_slots ≤ statics_of (this_cycle before) =
      subst (λ (l : List Recorded). d.params.static_slots ≤ statics_of (this_cycle l)) (append-nil before) end in
      λ k low high. at.free k low (omega (arith, high, over))
  follow before (r ∷ rs) h s all at end =
      step before r h.0 s (frames_of d channel rs h.1) at (next_window d.params cycles before r.window all.0.0)
      (λ t here. follow (before ++ r ∷ []) rs h.1 t all.1 here
      (subst (λ (l : List Recorded). d.params.static_slots ≤ statics_of (this_cycle l))
      (sym (append_assoc before (r ∷ []) rs)) end))

  -- the whole record
  pub from_start : (rs : List Recorded) (h : AreHeardAt d channel rs) → AllAfter (IsRecorded d cycles) [] rs
      → 1 ≤ length rs → d.params.static_slots ≤ statics_of (this_cycle rs)
      → Begins d channel 0 (frames_of d channel rs h)
  unfolding AllAfter
  from_start [] h all some end = absurd (let none : ⊥ = omega (arith, some) in none)
  from_start (r ∷ rs) h all some end =
      by (next_window d.params cycles [] r.window all.0.0)
      (λ t here. follow (r ∷ []) rs h.1 t all.1 here end)
    where
      by : IsNextOf (course_of d.params cycles []) r.window
          → ((t : Spot) → IsAt d channel (course_of d.params cycles (r ∷ [])) t
          → FollowOn d channel t (frames_of d channel rs h.1))
          → Begins d channel 0 (frames_of d channel (r ∷ rs) h)
      by (inl first) rest = from_first [] r h.0 (frames_of d channel rs h.1) first.is rest
      by (inr (inl static)) rest = absurd (let one = static.0 in let none : ⊥ = omega (arith, one) in none)
      by (inr (inr dynamic)) rest = absurd (let one = dynamic.0 in let none : ⊥ = omega (arith, one) in none)

  pub are_heard : (fs : List Fields) → (b : Begins d channel 0 fs) → AreHeard d channel (b.frame ∷ b.rest)
  are_heard fs b = (b.first, b.after)
