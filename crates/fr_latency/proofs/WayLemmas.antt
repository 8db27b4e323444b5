-- Ways to the minislots at which a slot can begin, and the marks of these minislots.
use Rattle.std.proofs.Common.{◌≡◌, ℕ, zero, suc, ◌+◌, ◌-◌, ◌<◌, ◌≤◌, Bool, true, false, ltb, List, [], ◌∷◌, ◌++◌}
use Rattle.std.proofs.Common.{length, get_or, map}
use Rattle.std.proofs.Common.{refl, sym, ap, ◌∙◌, subst, arith, inl, inr, add-one, Some, slice_get, cond}
use Rattle.std.specs.List.{list_any}
use Rattle.std.proofs.lemmas.Bool.{cases_lt, true≢false, or_from, eqb-true}
use Rattle.std.proofs.lemmas.List.{length-map, get_or-map}
use Rattle.std.proofs.lemmas.Option.{slice_get_read}
use Rattle.std.specs.Prelude.{Vec}
use Rattle.std.specs.declared.alloc.Global.{Global}
use Rattle.fr_latency.specs.Marks.{AreMarks}
use Rattle.fr_latency.proofs.RowLemmas.{pushed, none_pushed}
use Rattle.std.proofs.lemmas.List.{length_push}
use Rattle.fr_slots.specs.declared.channel.Channel.{Channel}
use Rattle.fr_schedule.specs.Clusters.{IsCluster}
use Rattle.fr_schedule.specs.Descriptions.{Description}
use Rattle.fr_latency.specs.declared.way.Frame.{Frame}
use Rattle.fr_latency.specs.Cells.{HasBits, has_bit}
use Rattle.fr_latency.specs.Marks.{AreMarksOf, IsFrameInto, place_of_most}
use Rattle.fr_latency.specs.Openings.{can_begin, follows_node, horizon, last_begin, slot_after}
use Rattle.fr_latency.specs.Ways.{IsWay}
use Rattle.fr_latency.proofs.BeginLemmas.{begins_more, frames_have_lengths, starts_after, starts_first}
use Rattle.fr_latency.proofs.GreatestLemmas.{greatest_bounds, greatest_passes}
use Rattle.fr_latency.proofs.UsedLemmas.{ends_by}

-- ---- marks

pub marks_right : (d : Description) (on : Channel) (cycle earlier : ℕ) (cells : List ℕ) (marks : List Bool)
    → IsCluster d → cycle < 64 → length cells ≡ d.params.minislots + 300
    → HasBits (earlier + 1) (λ cycle minislot. can_begin d on cycle earlier minislot) cells
    → marks ≡ map (λ cell. has_bit cell cycle) cells
    → AreMarksOf earlier (can_begin d on cycle earlier) marks
marks_right d on cycle earlier cells marks is within room bits made =
    let size : length marks ≡ length cells = ap (λ (xs : List Bool). length xs) made ∙ length-map cells
    (λ cell. has_bit cell cycle) in
    record {
      above = λ minislot few. starts_after d on cycle earlier minislot (frames_have_lengths d.params is.params_are) few;
      each = λ index less.
          let in_cells : index < length cells = omega (arith, less, size) in
          ap (λ (xs : List Bool). get_or xs index false) made
          ∙ get_or-map (λ cell. has_bit cell cycle) cells index 0 false in_cells
          ∙ bits index cycle in_cells within;
      within = λ minislot late. ends_by d is on cycle earlier minislot (omega (arith, late, size, room));
    }

pub marks_there : (d : Description) (on : Channel) (cycle count : ℕ) (history : List (Vec Bool Global))
    (earlier place : ℕ) (row : Vec Bool Global) (marks : List Bool)
    → AreMarks d on cycle count history → place ≡ earlier → place < length history → row ≡ get_or history place row
    → marks ≡ row.items → AreMarksOf earlier (can_begin d on cycle earlier) marks
marks_there d on cycle count history earlier place row marks are at less is items =
    let there : slice_get history place ≡ Some row = slice_get_read history (length history) place row refl less is in
    let here : AreMarksOf place (can_begin d on cycle place) row.items = are.each place row there in
    subst (λ (xs : List Bool). AreMarksOf earlier (can_begin d on cycle earlier) xs) (sym items)
    (subst (λ (n : ℕ). AreMarksOf n (can_begin d on cycle n) row.items) at here)

pub marks_pushed : (d : Description) (on : Channel) (cycle count : ℕ) (history : List (Vec Bool Global))
    (row : Vec Bool Global)
    → AreMarks d on cycle count history → AreMarksOf (count + 1) (can_begin d on cycle (count + 1)) row.items
    → AreMarks d on cycle (count + 1) (history ++ row ∷ [])
marks_pushed d on cycle count history row are here = record {
  size = length_push history row ∙ ap (λ n. n + 1) are.size;
  each = pushed (λ n (r : Vec Bool Global). AreMarksOf n (can_begin d on cycle n) r.items) history row are.each
      (subst (λ (n : ℕ). AreMarksOf n (can_begin d on cycle n) row.items) (sym are.size) here);
}

pub marks_first : (d : Description) (on : Channel) (cycle : ℕ) (row : Vec Bool Global)
    → AreMarksOf 0 (can_begin d on cycle 0) row.items → AreMarks d on cycle 0 (row ∷ [])
marks_first d on cycle row here = record {
  size = refl;
  each = pushed (λ n (r : Vec Bool Global). AreMarksOf n (can_begin d on cycle n) r.items) [] row
      (none_pushed (λ n (r : Vec Bool Global). AreMarksOf n (can_begin d on cycle n) r.items)) here;
}

-- ---- one slot more

pub no_slots : (d : Description) (on : Channel) (cycle minislot : ℕ) → can_begin d on cycle 0 minislot ≡ true
    → IsWay d on cycle 0 minislot []
unfolding IsWay can_begin
no_slots d on cycle minislot begins = (eqb-true minislot 1 begins, refl)

pub way_silent : (d : Description) (on : Channel) (cycle earlier minislot : ℕ) (frames : List Frame) → 1 ≤ earlier
    → 1 ≤ minislot → IsWay d on cycle (earlier - 1) (minislot - 1) frames → IsWay d on cycle earlier minislot frames
unfolding IsWay
way_silent d on cycle zero minislot frames some more way = absurd (omega arith)
way_silent d on cycle (suc earlier) minislot frames some more way =
    let less : suc earlier - 1 ≡ earlier = omega arith in
    inl (record {
      begin = minislot - 1;
      next = omega arith;
      before = subst (λ (n : ℕ). IsWay d on cycle n (minislot - 1) frames) less way;
    })

pub way_sent : (d : Description) (on : Channel) (cycle earlier minislot : ℕ) (frames : List Frame) (frame : Frame)
    → 1 ≤ earlier
    → IsFrameInto d on cycle (slot_after d.params (earlier - 1)) (can_begin d on cycle (earlier - 1)) minislot frame
    → IsWay d on cycle (earlier - 1) frame.minislot frames
    → IsWay d on cycle earlier minislot (frames ++ frame ∷ [])
unfolding IsWay
way_sent d on cycle zero minislot frames frame some into way = absurd (omega arith)
way_sent d on cycle (suc earlier) minislot frames frame some into way =
    let less : suc earlier - 1 ≡ earlier = omega arith in
    inr (record {
      frame = frame;
      size = into.size;
      is_frame = into.is_frame;
      in_slot = into.in_slot ∙ ap (slot_after d.params) less;
      next = into.next;
      others = frames;
      frames_are = refl;
      before = subst (λ (n : ℕ). IsWay d on cycle n frame.minislot frames) less way;
    })

-- if neither silence nor a frame leads to a minislot, the slot can't begin there
pub no_way : (d : Description) (on : Channel) (cycle earlier minislot : ℕ) → 1 ≤ earlier
    → can_begin d on cycle earlier minislot ≡ true
    → can_begin d on cycle (earlier - 1) (minislot - 1) ≡ false
    → list_any (follows_node d.params (slot_after d.params (earlier - 1)) on cycle (can_begin d on cycle (earlier - 1))
    minislot) d.plans ≡ false
    → ⊥
no_way d on cycle earlier minislot some begins silent sent =
    let whole : earlier - 1 + 1 ≡ earlier = omega arith in
    true≢false (sym begins ∙ ap (λ n. can_begin d on cycle n minislot) (sym whole)
    ∙ begins_more d on cycle (earlier - 1) minislot
    ∙ or_from (can_begin d on cycle (earlier - 1) (minislot - 1)) _ silent sent)

-- a slot that can begin begins after one minislot for each slot before it
pub begins_late : (d : Description) (on : Channel) (cycle earlier minislot : ℕ) → IsCluster d
    → can_begin d on cycle earlier minislot ≡ true → earlier < minislot
begins_late d on cycle earlier minislot is begins =
    elim (cases_lt earlier minislot) as (λ _. earlier < minislot) [
      | inl less ↦ less
      | inr more ↦ absurd (true≢false (sym begins ∙ starts_after d on cycle earlier minislot
          (frames_have_lengths d.params is.params_are) more))
    ]

-- it can begin at its last minislot
pub begins_last : (d : Description) (on : Channel) (cycle earlier : ℕ)
    → can_begin d on cycle earlier (last_begin d on cycle earlier) ≡ true
begins_last d on cycle earlier =
    let bound = greatest_bounds (can_begin d on cycle earlier) (horizon d.params earlier) (earlier + 1) (omega arith)
    (starts_first d on cycle earlier) in
    greatest_passes (can_begin d on cycle earlier) (horizon d.params earlier) (omega (arith, bound))

-- ---- the place of the greatest value

pub place_none : (value : ℕ → ℕ) → place_of_most value 0 ≡ 0
unfolding place_of_most
place_none value = refl

pub place_more : (value : ℕ → ℕ) (n : ℕ)
    → place_of_most value (n + 1) ≡ cond (ltb (value (place_of_most value n)) (value n)) n (place_of_most value n)
unfolding place_of_most
place_more value n = ap (place_of_most value) (add-one n)
