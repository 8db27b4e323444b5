-- Journals between two windows: what the next window needs of them, and what calls of the host leave as it is.
use Rattle.std.proofs.Common.{◌≡◌, ℕ, ◌+◌, ◌*◌, ◌≤◌, Bool, true, false, not, cond, [], Option, Some, None, sym, ap}
use Rattle.std.proofs.Common.{subst, ◌∙◌, arith, is_some}
use Rattle.std.specs.Prelude.{nat_lt, count_by}
use Rattle.std.specs.Option.{option_or, option_and_then}
use Rattle.std.proofs.lemmas.Bool.{le-ltb, lt-leb}
use Rattle.fr_core.proofs.TimingLemmas.{count_more}
use Rattle.fr_guarantees.proofs.ObservingLemmas.{IsObserved}
use Rattle.fr_guarantees.proofs.OfferingLemmas.{fetched_by}
use Rattle.fr_interface.specs.declared.errors.SlotError.TheVariants.{NotObserved, BadWindow, WindowOrder, SlotFull}
use Rattle.fr_interface.specs.State.{State, with_entry, fetch_entry, fetch_refusal, is_not_above}
use Rattle.fr_journal.proofs.OpenWindowLemmas.{open_window-snoc, last_number-snoc}
use Rattle.fr_journal.specs.declared.entry.Entry.TheVariants.{Observe}
use Rattle.fr_journal.specs.Entries.{is_host, is_slot}
use Rattle.fr_journal.specs.Forms.{Entry}
use Rattle.fr_journal.specs.OpenWindow.{window_mark, open_window, fetched_number, last_number}
use Rattle.fr_slots.specs.History.{last_after}
use Rattle.fr_slots.specs.Windows.{Opportunity, window_fits}

-- a journal of so many whole windows, of which the first has number 0
pub record HasWindows (s : State) (many : ℕ) : Type 0 where
  pub closed : open_window s.entries ≡ None
  pub earlier : is_not_above many (last_number s.entries) ≡ false
  pub slots : count_by is_slot s.entries ≡ 2 * many

pub fetch_ready : (s : State) (window : Opportunity) → HasWindows s window.number → window_fits s.params window ≡ true
    → 2 * window.number + 2 ≤ s.plan.slot_entries → fetch_refusal s window ≡ None
fetch_ready s window has fits room =
    let closed = ap is_some has.closed in
    let enough : nat_lt s.plan.slot_entries (count_by is_slot s.entries + 2) ≡ false =
    le-ltb s.plan.slot_entries (count_by is_slot s.entries + 2) (omega (arith, has.slots, room)) in
    λ i. cond (closed i) (Some NotObserved) (cond (not (fits i)) (Some BadWindow)
    (cond (has.earlier i) (Some WindowOrder) (cond (enough i) (Some SlotFull) None)))

-- one more window
pub windows_more : (s t : State) (window : Opportunity) (many : ℕ) → HasWindows s many → window.number ≡ many
    → IsObserved (fetched_by s window) t window → HasWindows t (many + 1)
windows_more s t window many has number_is seen =
    subst (λ (x : State). HasWindows x (many + 1)) (sym seen.is) (record {
      closed = open_window-snoc (fetched_by s window).entries (Observe window.number seen.a seen.b);
      earlier = ap (is_not_above (many + 1))
          (last_number-snoc (fetched_by s window).entries (Observe window.number seen.a seen.b)
          ∙ last_number-snoc s.entries (fetch_entry s window))
          ∙ lt-leb (many + 1) window.number (omega (arith, number_is));
      slots = omega (
        arith,
        has.slots,
        count_more is_slot (fetched_by s window).entries (Observe window.number seen.a seen.b),
        count_more is_slot s.entries (fetch_entry s window),
      );
    })

pub hosts_same : (s t : State) (window : Opportunity) → IsObserved (fetched_by s window) t window
    → count_by is_host t.entries ≡ count_by is_host s.entries
hosts_same s t window seen =
    ap (λ (x : State). count_by is_host x.entries) seen.is
    ∙ omega (
      arith,
      count_more is_host (fetched_by s window).entries (Observe window.number seen.a seen.b),
      count_more is_host s.entries (fetch_entry s window),
    )

-- one more entry of the host
pub windows_same : (s : State) (e : Entry) (many : ℕ) → window_mark s.entries e ≡ None
    → fetched_number s.entries e ≡ None → is_host e ≡ true → HasWindows s many → HasWindows (with_entry s e) many
windows_same s e many mark number host has = record {
  closed = open_window-snoc s.entries e ∙ ap (λ (o : Option (Option Opportunity)). option_and_then (λ
      (w : Option Opportunity). w)
      (option_or o (last_after window_mark [] s.entries))) mark
      ∙ has.closed;
  earlier = ap (is_not_above many) (last_number-snoc s.entries e
      ∙ ap (λ (o : Option ℕ). option_or o (last_number s.entries)) number) ∙ has.earlier;
  slots = omega (
    arith,
    has.slots,
    count_more is_slot s.entries e,
    ap (λ (b : Bool). cond {A = ℕ} (not b) 1 0) host,
  );
}
