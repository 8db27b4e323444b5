-- The lines of a plan for guardians are the open macroticks of the cycles.
use Rattle.std.proofs.Common.{◌≡◌, ◌≢◌, ℕ, zero, suc, ◌+◌, ◌-◌, ◌%◌, ◌<◌, ◌≤◌, ◌==◌, Bool, true, false, ◌&&◌, ◌||◌, not}
use Rattle.std.proofs.Common.{inl, inr, List, [], ◌∷◌, ◌++◌, Option, Some, None, refl, sym, ap, subst, ◌∙◌, arith}
use Rattle.std.proofs.Common.{length, slice_get}
use Rattle.std.specs.Prelude.{Contains, slice_index_or}
use Rattle.std.proofs.lemmas.Bool.{cases_Bool, eqb-true, eqb-false}
use Rattle.std.proofs.lemmas.Grind.{flat_map-append}
use Rattle.std.specs.List.{flat_map}
use Rattle.std.proofs.lemmas.Option.{slice_get_within}
use Rattle.fr_commands.specs.PlanText.{AreCycleTexts, AreGuardTexts, IsGuardText, cycles_told, guard_line}
use Rattle.fr_concord.proofs.PlanRowLemmas.{among_left, among_right, among_either}
use Rattle.fr_concord.specs.GuardRows.{GuardRow, guard_row_line, IsToldOpen, IsInSlot, ArePlansGuards}
use Rattle.fr_concord.specs.PlanRows.{IsAmong}
use Rattle.fr_guardian.proofs.OpenLemmas.{slot_open, slot_closed}
use Rattle.fr_guardian.proofs.PeriodLemmas.{period_some}
use Rattle.fr_guardian.proofs.PostLemmas.{opens_again}
use Rattle.fr_guardian.specs.Guarding.{is_open, IsOpenMacrotick, lets_pass, passes, passes_in}
use Rattle.fr_guardian.specs.Intervals.{Span, IsCovered}
use Rattle.fr_schedule.specs.Clusters.{IsCluster}
use Rattle.fr_schedule.specs.Descriptions.{Description, is_guarded}
use Rattle.fr_schedule.specs.FileFaults.{all_owned}
use Rattle.fr_slots.specs.declared.channel.Channel.{Channel}
use Rattle.fr_slots.specs.declared.channel.Channel.TheVariants.{A, B}
use Rattle.fr_slots.specs.Faults.{is_owned}
use Rattle.fr_slots.specs.Plans.{Plan}
use Rattle.fr_slots.specs.Windows.{Opportunity, slot_of, is_static}
use Rattle.fr_timing.specs.Layout.{static_slot}

-- ---- elements of a list

contains_at : (xs : List Span) (x : Span) (k : ℕ) → k < length xs → slice_index_or xs k x ≡ x → IsAmong x xs
contains_at [] x k below is = absurd (omega arith)
contains_at (y ∷ ys) x zero below is = inl (sym is)
contains_at (y ∷ ys) x (suc k) below is = inr (contains_at ys x k (omega arith) is)

among_at : (xs : List Span) (x : Span) → IsAmong x xs → Contains xs x
among_at [] x is = absurd is
among_at (y ∷ ys) x (inl same) = (0, omega arith, sym same)
among_at (y ∷ ys) x (inr later) =
    let rest = among_at ys x later in
    let below : rest.0 < length ys = rest.1 in
    (suc rest.0, omega arith, rest.2)

-- ---- the rows of intervals

module _ (node : ℕ) (channel : Channel) (cycle : ℕ) where
  abbrev row_of : Span → GuardRow
  row_of span = record { node = node; channel = channel; cycle = cycle; start = span.0; end = span.1 }

  abbrev rows_of : List Span → List GuardRow
  rows_of [] = []
  rows_of (span ∷ spans) = row_of span ∷ rows_of spans

  spans_same : (spans : List Span)
      → flat_map guard_row_line (rows_of spans) ≡ flat_map (guard_line node channel cycle) spans
  spans_same [] = refl
  spans_same (span ∷ spans) = ap (λ (l : List ℕ). guard_line node channel cycle span ++ l) (spans_same spans)

  record IsSpanRow (spans : List Span) (row : GuardRow) : Type 0 where
    span : Span
    among : IsAmong span spans
    row_is : row ≡ row_of span

  of_spans : (spans : List Span) (row : GuardRow) → IsAmong row (rows_of spans) → IsSpanRow spans row
  of_spans [] row is = absurd is
  of_spans (span ∷ spans) row (inl same) = record { span = span; among = inl refl; row_is = same }
  of_spans (span ∷ spans) row (inr later) =
      let rest = of_spans spans row later in
      record { span = rest.span; among = inr rest.among; row_is = rest.row_is }

  to_spans : (spans : List Span) (span : Span) → IsAmong span spans → IsAmong (row_of span) (rows_of spans)
  to_spans [] span is = absurd is
  to_spans (first ∷ spans) span (inl same) = inl (ap row_of same)
  to_spans (first ∷ spans) span (inr later) = inr (to_spans spans span later)

-- ---- the rows of cycles and nodes

module _ (d : Description) where
  -- each row has open macroticks alone
  abbrev Only : List GuardRow → Type 0
  Only rows = (row : GuardRow) (m : ℕ) → IsAmong row rows → row.start ≤ m → m < row.end
      → IsOpenMacrotick d row.node row.cycle row.channel m

  -- the rows have all macroticks that are open to the node
  abbrev Told : List GuardRow → ℕ → Channel → ℕ → Type 0
  Told rows node channel cycle = (m : ℕ) → IsOpenMacrotick d node cycle channel m → IsToldOpen rows node channel cycle m

  only_both : (xs ys : List GuardRow) → Only xs → Only ys → Only (xs ++ ys)
  only_both xs ys on_xs on_ys row m is from before =
      elim (among_either row xs ys is) [
        | inl here ↦ on_xs row m here from before
        | inr there ↦ on_ys row m there from before
      ]

  told_left : (xs ys : List GuardRow) (node cycle : ℕ) (channel : Channel) → Told xs node channel cycle
      → Told (xs ++ ys) node channel cycle
  told_left xs ys node cycle channel told m opens =
      let t = told m opens in
      record {
        row = t.row;
        among = among_left t.row xs ys t.among;
        node_is = t.node_is;
        channel_is = t.channel_is;
        cycle_is = t.cycle_is;
        from_start = t.from_start;
        before_end = t.before_end;
      }

  told_right : (xs ys : List GuardRow) (node cycle : ℕ) (channel : Channel) → Told ys node channel cycle
      → Told (xs ++ ys) node channel cycle
  told_right xs ys node cycle channel told m opens =
      let t = told m opens in
      record {
        row = t.row;
        among = among_right t.row xs ys t.among;
        node_is = t.node_is;
        channel_is = t.channel_is;
        cycle_is = t.cycle_is;
        from_start = t.from_start;
        before_end = t.before_end;
      }

  span_only : (node cycle : ℕ) (channel : Channel) (text : List ℕ) (h : IsGuardText d node channel cycle text)
      → Only (rows_of node channel cycle h.spans)
  span_only node cycle channel text h row m is from before =
      let r = of_spans node channel cycle h.spans row is in
      let start = subst (λ (x : GuardRow). x.start ≤ m) r.row_is from in
      let end = subst (λ (x : GuardRow). m < x.end) r.row_is before in
      let covered : IsCovered h.spans m =
      record { span = r.span; of_list = among_at h.spans r.span r.among; from_start = start; before_end = end } in
      subst (λ (x : GuardRow). IsOpenMacrotick d x.node x.cycle x.channel m) (sym r.row_is)
      (h.maximal.covers_only m covered)

  span_told : (node cycle : ℕ) (channel : Channel) (text : List ℕ) (h : IsGuardText d node channel cycle text)
      → Told (rows_of node channel cycle h.spans) node channel cycle
  span_told node cycle channel text h m opens =
      let covered = h.maximal.covers m opens in
      let span = covered.span in
      let among = contains_at h.spans span covered.of_list.0 covered.of_list.1 covered.of_list.2 in
      record {
        row = row_of node channel cycle span;
        among = to_spans node channel cycle h.spans span among;
        node_is = refl;
        channel_is = refl;
        cycle_is = refl;
        from_start = covered.from_start;
        before_end = covered.before_end;
      }

  both_texts : (xs ys : List GuardRow) (front back : List ℕ) → front ≡ flat_map guard_row_line xs
      → back ≡ flat_map guard_row_line ys → front ++ back ≡ flat_map guard_row_line (xs ++ ys)
  both_texts xs ys front back on_xs on_ys =
      ap (λ (l : List ℕ). l ++ back) on_xs ∙ ap (λ (l : List ℕ). flat_map guard_row_line xs ++ l) on_ys
      ∙ sym (flat_map-append guard_row_line xs ys)

  record AreCycleRows (node : ℕ) (channel : Channel) (count : ℕ) (text : List ℕ) : Type 0 where
    rows : List GuardRow
    text_is : text ≡ flat_map guard_row_line rows
    only : Only rows
    told : (cycle : ℕ) → cycle < count → Told rows node channel cycle

  cycle_rows : (node : ℕ) (channel : Channel) (count : ℕ) (text : List ℕ) → AreCycleTexts d node channel count text
      → AreCycleRows node channel count text
  cycle_rows node channel zero text is = record {
    rows = [];
    text_is = is;
    only = λ row m among from before. absurd among;
    told = λ cycle below m opens. absurd (omega (arith, below));
  }
  cycle_rows node channel (suc count) text is =
      let (before, last, before_are, last_is, text_is) = is in
      let prior = cycle_rows node channel count before before_are in
      let rows = rows_of node channel count last_is.spans in
      let same = last_is.text_is ∙ sym (spans_same node channel count last_is.spans) in
      record {
        rows = prior.rows ++ rows;
        text_is = text_is ∙ both_texts prior.rows rows before last prior.text_is same;
        only = only_both prior.rows rows prior.only (span_only node count channel last last_is);
        told = λ (cycle : ℕ) (below : cycle < suc count). elim (cases_Bool (cycle == count)) [
          | inl here ↦
              subst (λ (c : ℕ). Told (prior.rows ++ rows) node channel c) (sym (eqb-true cycle count here))
              (told_right prior.rows rows node count channel (span_told node count channel last last_is))
          | inr other ↦
              let apart : cycle ≢ count = eqb-false cycle count other in
              told_left prior.rows rows node cycle channel (prior.told cycle (omega arith))
        ];
      }

  record AreNodeRows (count : ℕ) (text : List ℕ) : Type 0 where
    rows : List GuardRow
    text_is : text ≡ flat_map guard_row_line rows
    only : Only rows
    told : (node cycle : ℕ) (channel : Channel) → node < count → cycle < cycles_told d → Told rows node channel cycle

  on_channel : (rows on_a on_b : List GuardRow) (node cycle : ℕ) (channel : Channel) → Told on_a node A cycle
      → Told on_b node B cycle → Told (rows ++ on_a ++ on_b) node channel cycle
  on_channel rows on_a on_b node cycle A told_a told_b =
      told_left (rows ++ on_a) on_b node cycle A (told_right rows on_a node cycle A told_a)
  on_channel rows on_a on_b node cycle B told_a told_b = told_right (rows ++ on_a) on_b node cycle B told_b

  node_rows : (count : ℕ) (text : List ℕ) → AreGuardTexts d count text → AreNodeRows count text
  node_rows zero text is = record {
    rows = [];
    text_is = is;
    only = λ row m among from before. absurd among;
    told = λ node cycle channel below few m opens. absurd (omega (arith, below));
  }
  node_rows (suc count) text is =
      let (before, a, b, before_are, a_are, b_are, text_is) = is in
      let prior = node_rows count before before_are in
      let on_a = cycle_rows count A (cycles_told d) a a_are in
      let on_b = cycle_rows count B (cycles_told d) b b_are in
      let front = prior.rows ++ on_a.rows in
      record {
        rows = front ++ on_b.rows;
        text_is = text_is ∙ both_texts front on_b.rows (before ++ a) b
            (both_texts prior.rows on_a.rows before a prior.text_is on_a.text_is) on_b.text_is;
        only = only_both front on_b.rows (only_both prior.rows on_a.rows prior.only on_a.only) on_b.only;
        told = λ (node cycle : ℕ) (channel : Channel) (below : node < suc count) (few : cycle < cycles_told d).
            elim (cases_Bool (node == count)) [
              | inl here ↦
                  subst (λ (n : ℕ). Told (front ++ on_b.rows) n channel cycle) (sym (eqb-true node count here))
                  (on_channel prior.rows on_a.rows on_b.rows count cycle channel (on_a.told cycle few)
                  (on_b.told cycle few))
              | inr other ↦
                  let apart : node ≢ count = eqb-false node count other in
                  told_left front on_b.rows node cycle channel
                  (told_left prior.rows on_a.rows node cycle channel (prior.told node cycle channel (omega arith) few))
            ];
      }

  -- ---- cycles repeat

  module _ (lawful : IsCluster d) (text : List ℕ) (h : AreNodeRows (length d.plans) text) where
    abbrev most : ℕ
    most = cycles_told d

    opens_told : (node cycle m : ℕ) (channel : Channel) → IsOpenMacrotick d node cycle channel m
        → IsToldOpen h.rows node channel (cycle % most) m
    opens_told node cycle m channel opens =
        let some : 1 ≤ most = period_some (all_owned d.plans) in
        let few : cycle % most < most = omega arith in
        let here = (opens_again d lawful most refl node cycle m channel).1 opens in
        h.told node (cycle % most) channel (slice_get_within d.plans node opens.plan opens.of_node) few m here

    told_opens : (node cycle m : ℕ) (channel : Channel) → IsToldOpen h.rows node channel (cycle % most) m
        → IsOpenMacrotick d node cycle channel m
    told_opens node cycle m channel t =
        let of_row = h.only t.row m t.among t.from_start t.before_end in
        let of_node = subst (λ (n : ℕ). IsOpenMacrotick d n t.row.cycle t.row.channel m) t.node_is of_row in
        let of_channel = subst (λ (x : Channel). IsOpenMacrotick d node t.row.cycle x m) t.channel_is of_node in
        let here = subst (λ (c : ℕ). IsOpenMacrotick d node c channel m) t.cycle_is of_channel in
        (opens_again d lawful most refl node cycle m channel).0 here

  -- ---- transmissions that pass

  record LetsPass (node : ℕ) (w : Opportunity) (channel : Channel) (slot : ℕ) : Type 0 where
    plan : Plan
    at : slice_get d.plans node ≡ Some plan
    opens : is_open (is_guarded d.guard channel) plan.owned w.cycle channel (static_slot slot) ≡ true

  static_pass : (w : Opportunity) (channel : Channel) (plan : Plan) (slot : ℕ) → is_static w ≡ true
      → lets_pass d w channel plan slot
      ≡ is_open (is_guarded d.guard channel) plan.owned w.cycle channel (static_slot slot)
  static_pass w channel plan slot static =
      ap (λ (b : Bool). not (b && is_guarded d.guard channel) || is_owned plan.owned slot channel w.cycle) static

  of_plan : (node : ℕ) (w : Opportunity) (channel : Channel) (slot : ℕ) (found : Option Plan)
      → slice_get d.plans node ≡ found → is_static w ≡ true → passes_in d w channel found (Some slot) ≡ true
      → LetsPass node w channel slot
  of_plan node w channel slot None at static is = absurd (let none : ⊥ = cc is in none)
  of_plan node w channel slot (Some plan) at static is =
      record { plan = plan; at = at; opens = sym (static_pass w channel plan slot static) ∙ is }

  passing : (node slot m : ℕ) (w : Opportunity) (channel : Channel) → IsCluster d → IsInSlot d w channel slot m
      → passes d node w channel ≡ true → IsOpenMacrotick d node w.cycle channel m
  passing node slot m w channel lawful at is =
      let in_slot = ap (passes_in d w channel (slice_get d.plans node)) (sym at.slot_is) ∙ is in
      let p = of_plan node w channel slot (slice_get d.plans node) refl at.static_is in_slot in
      let same : slot ≡ slot - 1 + 1 = omega (arith, at.from_one) in
      let below : slot - 1 < d.params.static_slots = omega (arith, at.from_one, at.at_most) in
      let opens = subst (λ (s : ℕ). is_open (is_guarded d.guard channel) p.plan.owned w.cycle channel (static_slot s)
      ≡ true) same p.opens in
      record {
        plan = p.plan;
        of_node = p.at;
        open_to = slot_open d.params lawful.params_are (is_guarded d.guard channel) p.plan.owned w.cycle channel
            (slot - 1) below opens m at.from_start at.before_end;
      }

  open_pass : (node slot m : ℕ) (w : Opportunity) (channel : Channel) → IsInSlot d w channel slot m
      → IsOpenMacrotick d node w.cycle channel m → passes d node w channel ≡ true
  open_pass node slot m w channel at o =
      let guarded = is_guarded d.guard channel in
      let same : slot ≡ slot - 1 + 1 = omega (arith, at.from_one) in
      let below : slot - 1 < d.params.static_slots = omega (arith, at.from_one, at.at_most) in
      let here = ap (λ (found : Option Plan). passes_in d w channel found (slot_of w channel)) o.of_node
      ∙ ap (passes_in d w channel (Some o.plan)) at.slot_is in
      elim (cases_Bool (is_open guarded o.plan.owned w.cycle channel (static_slot slot))) [
        | inl opens ↦ here ∙ static_pass w channel o.plan slot at.static_is ∙ opens
        | inr closed ↦
            let not_open = subst (λ (s : ℕ). is_open guarded o.plan.owned w.cycle channel (static_slot s) ≡ false) same
            closed in
            absurd (slot_closed d.params guarded o.plan.owned w.cycle channel (slot - 1) below not_open m at.from_start
            at.before_end o.open_to)
      ]

pub plans_guards : ArePlansGuards
plans_guards d lawful text texts =
    let h = node_rows d (length d.plans) text texts in (
      h.rows,
      record {
        text_is = h.text_is;
        are_open = h.only;
        are_all = λ node cycle m channel.
            (opens_told d lawful text h node cycle m channel, told_opens d lawful text h node cycle m channel);
        are_passing = λ node slot m w channel at. (
          λ is. opens_told d lawful text h node w.cycle m channel (passing d node slot m w channel lawful at is),
          λ t. open_pass d node slot m w channel at (told_opens d lawful text h node w.cycle m channel t),
        );
      },
    )
