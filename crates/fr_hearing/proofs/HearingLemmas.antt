-- In a run without faults on a channel a listener receives silence or the frame that is due, window by window.
use Rattle.std.proofs.Common.{◌≡◌, ℕ, zero, suc, ◌+◌, ◌-◌, ◌*◌, ◌<◌, ◌≤◌, Bool, true, false, List, [], ◌∷◌, length}
use Rattle.std.proofs.Common.{Option, Some, None, refl, sym, ap, ◌∙◌, arith, slice_get, get_or, ◌⊎◌, inl, inr}
use Rattle.std.specs.Prelude.{nat_lt, ◌==◌}
use Rattle.std.specs.List.{list_any}
use Rattle.std.proofs.lemmas.Bool.{cond-true, cond-false, le-ltb}
use Rattle.std.proofs.lemmas.Option.{slice_get-get_or}
use Rattle.fr_bus.specs.declared.outcome.Sent.{Sent}
use Rattle.fr_bus.specs.Outcome.{all_passed, heard_of, received, overruns}
use Rattle.fr_bus.specs.Record.{Recorded, corrupt_on, heard}
use Rattle.fr_core.specs.Headline.{Headline}
use Rattle.fr_core.specs.Worlds.{WorldState, no_interface}
use Rattle.fr_frame.specs.Fields.{Fields}
use Rattle.fr_guarantees.proofs.DelayLemmas.{static_fits}
use Rattle.fr_guarantees.proofs.HeardLemmas.{longest_none, longest_one}
use Rattle.fr_guarantees.proofs.HeldTableLaws.{not_static}
use Rattle.fr_guarantees.proofs.OfferLemmas.{length-frame}
use Rattle.fr_hearing.proofs.CycleLemmas.{AreHeardAt}
use Rattle.fr_hearing.proofs.ListenLaws.{handed_by, fetch_fits}
use Rattle.fr_hearing.proofs.OwnersLaws.{owners_are_heard}
use Rattle.fr_hearing.proofs.PassageLemmas.{IsQuiet, IsLoud, IsHeardAt}
use Rattle.fr_hearing.proofs.SingleLemmas.{none_there, alone, IsLone}
use Rattle.fr_hearing.proofs.SizeLemmas.{filled_same, static_words, dynamic_sized}
use Rattle.fr_hearing.specs.Listening.{IsThere, SpellsDue}
use Rattle.fr_hearing.specs.Runs.{IsHealthy}
use Rattle.fr_logged.proofs.SenderLemmas.{due_nobody}
use Rattle.fr_logged.specs.Dues.{due_of}
use Rattle.fr_minislot.specs.DynamicRows.{minislots_filled_by}
use Rattle.fr_schedule.specs.Clusters.{IsCluster}
use Rattle.fr_schedule.specs.Descriptions.{Description}
use Rattle.fr_schedule.specs.SenderTable.{IsSender}
use Rattle.fr_slots.specs.declared.channel.Channel.{Channel}
use Rattle.fr_slots.specs.Faults.{is_owned, sends_at}
use Rattle.fr_slots.specs.Parameters.{is_static_slot}
use Rattle.fr_slots.specs.Windows.{Opportunity, slot_of, is_static, window_fits}
use Rattle.fr_status.specs.declared.seen.Seen.TheVariants.{Silence, Overrun, Bytes}

module _ (d : Description) (cluster : IsCluster d) (w : Opportunity) (channel : Channel) (slot : ℕ)
    (fits : window_fits d.params w ≡ true) (slot_is : slot_of w channel ≡ Some slot) (f : Fields) where
  -- a frame that is due ends within its slot, or within the dynamic segment
  pub ends : (b : Bool) → is_static w ≡ b → IsThere d w channel slot f b → (bytes : ℕ) → bytes ≡ 8 + length f.payload
      → overruns d.params w bytes ≡ false
  ends true static there bytes size =
      let words = there.owners.words in
      let due_words = static_words d slot channel w.cycle there.due
      (static_fits d.params w channel slot fits static slot_is) there.due_is in
      cond-true (is_static w) (nat_lt (8 + 2 * d.params.static_words) bytes)
      (nat_lt d.params.minislots (w.minislot - 1 + minislots_filled_by d.params bytes)) static
      ∙ le-ltb (8 + 2 * d.params.static_words) bytes (omega (arith, size, words, due_words))
  ends false dynamic there bytes size =
      let words = there.words in
      let sized = dynamic_sized d slot channel w.cycle there.due cluster
      (not_static d.params w channel slot fits dynamic slot_is) there.due_is in
      let some : 1 ≤ w.minislot = by_zero w.minislot dynamic in
      let in_time = there.in_time in
      let last = sized.ends (omega (arith, some, in_time)) in
      let filled = filled_same d.params bytes there.due.words cluster.params_are.words_per_minislot_fit.from_least
      (omega (arith, size, words)) in
      cond-false (is_static w) (nat_lt (8 + 2 * d.params.static_words) bytes)
      (nat_lt d.params.minislots (w.minislot - 1 + minislots_filled_by d.params bytes)) dynamic
      ∙ le-ltb d.params.minislots (w.minislot - 1 + minislots_filled_by d.params bytes)
      (omega (arith, last, filled, some, in_time))
    where
      by_zero : (m : ℕ) → (m == 0) ≡ false → 1 ≤ m
      by_zero zero e = absurd (let none : ⊥ = cc in none)
      by_zero (suc m) e = omega arith

  pub few_bytes : (b : Bool) → is_static w ≡ b → IsThere d w channel slot f b → length f.payload ≤ 254
  few_bytes true static there =
      let words = there.owners.words in
      let due_words = static_words d slot channel w.cycle there.due
      (static_fits d.params w channel slot fits static slot_is) there.due_is in
      let most : d.params.static_words ≤ 127 = cluster.params_are.static_words_fit.at_most in
      omega (arith, words, due_words, most)
  few_bytes false dynamic there =
      let words = there.words in
      let sized = dynamic_sized d slot channel w.cycle there.due cluster
      (not_static d.params w channel slot fits dynamic slot_is) there.due_is in
      let most = sized.words_fit in
      omega (arith, words, most)

-- ---- the windows of a world

module _ (w : WorldState) (head : Headline w) (channel : Channel) (healthy : IsHealthy w channel) (k : ℕ) (r : Recorded)
    (at : slice_get w.bus.sealed k ≡ Some r) where
  window_here : window_fits w.bus.cluster.params r.window ≡ true
  window_here =
      let d = w.bus.cluster in
      let cluster : IsCluster d = head.run.lawful in
      let as_many : length w.interfaces ≡ length d.plans = head.agrees.agrees.a_station_each ∙ head.run.one_each in
      let some : 0 < length w.interfaces = (let nodes = cluster.some_nodes in omega (arith, as_many, nodes)) in
      let s = get_or w.interfaces 0 no_interface in
      let h = handed_by w head 0 k s r (slice_get-get_or w.interfaces 0 no_interface some) at in
      fetch_fits d 0 s h.before r.window h.a h.b h.fetched_is

  silent : all_passed channel r.sent ≡ [] → heard w.bus.cluster.params r channel ≡ Silence
  silent e = ap (heard_of w.bus.cluster.params r.window (corrupt_on r channel)) e

  -- a static slot in which nothing passed has no owner
  no_owner : all_passed channel r.sent ≡ [] → (slot : ℕ) → slot_of r.window channel ≡ Some slot
      → is_static r.window ≡ true → due_of w.bus.cluster slot channel r.window.cycle ≡ None
  no_owner empty slot slot_is static =
      due_nobody w.bus.cluster slot channel r.window.cycle owned
    where
      owned : (node : ℕ) → IsSender w.bus.cluster r.window.cycle slot channel node → ⊥
      owned node sender =
          let static_slot = static_fits w.bus.cluster.params r.window channel slot window_here static slot_is in
          let heard_is = owners_are_heard w head channel healthy.sound k slot node r at (healthy.intact k r at) static
          slot_is
          (record {
            plan = sender.plan;
            at = sender.at;
            owns = sym (cond-true (is_static_slot w.bus.cluster.params slot)
                (is_owned sender.plan.owned slot channel r.window.cycle)
                (list_any (sends_at slot channel r.window.cycle) sender.plan.buffers) static_slot) ∙ sender.sends;
          }) in
          let both : Silence ≡ Bytes heard_is.bytes = sym (silent empty) ∙ heard_is.hears in
          let none : ⊥ = cc in none

  quiet : all_passed channel r.sent ≡ [] → IsQuiet w.bus.cluster channel r
  quiet e = record { hears = silent e; none = longest_none channel r.sent e; free = no_owner e }

  loud : (slot : ℕ) → slot_of r.window channel ≡ Some slot → IsLone w.bus.cluster r channel slot
      → IsLoud w.bus.cluster channel r
  loud slot slot_is lone =
      let d = w.bus.cluster in
      let due : SpellsDue d r.window channel slot lone.sender.bytes = lone.due in
      let size : length lone.sender.bytes.items ≡ 8 + length due.frame.payload =
      ap (λ (l : List ℕ). length l) due.spelled ∙ length-frame due.frame channel in
      let short : overruns d.params r.window (length lone.sender.bytes.items) ≡ false =
      ends d head.run.lawful r.window channel slot window_here slot_is due.frame (is_static r.window) refl due.is_there
      (length lone.sender.bytes.items) size in
      record {
        slot = slot;
        slot_is = slot_is;
        bytes = lone.sender.bytes;
        frame = due.frame;
        hears = ap (λ (ts : List Sent). heard_of d.params r.window (corrupt_on r channel) ts) lone.only
            ∙ ap (λ (c : Option ℕ). received d.params r.window c lone.sender.bytes) (healthy.intact k r at)
            ∙ cond-false (overruns d.params r.window (length lone.sender.bytes.items)) Overrun
            (Bytes lone.sender.bytes) short;
        spelled = due.spelled;
        is_there = due.is_there;
        size = longest_one channel r.sent lone.sender lone.only ∙ size;
        few = few_bytes d head.run.lawful r.window channel slot window_here slot_is due.frame (is_static r.window) refl
            due.is_there;
      }

  pub window_heard : IsHeardAt w.bus.cluster channel r
  window_heard = by (slot_of r.window channel) refl
    where
      either : (slot : ℕ) → slot_of r.window channel ≡ Some slot
          → ((all_passed channel r.sent ≡ []) ⊎ IsLone w.bus.cluster r channel slot)
          → IsHeardAt w.bus.cluster channel r
      either slot slot_is (inl empty) = inl (quiet empty)
      either slot slot_is (inr lone) = inr (loud slot slot_is lone)

      by : (o : Option ℕ) → slot_of r.window channel ≡ o → IsHeardAt w.bus.cluster channel r
      by None none = inl (quiet (none_there w head channel healthy.sound k r at none))
      by (Some slot) is = either slot is (alone w head channel healthy.sound k r at slot is)

pub each_heard : (d : Description) (channel : Channel) (rs : List Recorded)
    → ((k : ℕ) (r : Recorded) → slice_get rs k ≡ Some r → IsHeardAt d channel r) → AreHeardAt d channel rs
each_heard d channel [] each = tt
each_heard d channel (r ∷ rs) each =
    (each 0 r refl, each_heard d channel rs (λ k s at. each (suc k) s at))
