-- What a view has of calls, windows and cycles, one after another.
use Rattle.std.proofs.Common.{◌≡◌, ℕ, ◌+◌, ◌-◌, true, false, List, [], ◌∷◌, ◌++◌, length}
use Rattle.std.proofs.Common.{Option, Some, Result, Ok, Err, refl, sym, ap, ap₂, subst, ◌∙◌, append_assoc}
use Rattle.std.proofs.Common.{append-nil, slice_get, arith}
use Rattle.std.specs.Prelude.{OnErr, OnOk}
use Rattle.std.specs.List.{list_all}
use Rattle.std.specs.Io.KnownBytes.{Appends}
use Rattle.std.proofs.KnownBytes.{Appends-nil, Appends-trans}
use Rattle.std.proofs.lemmas.Grind.{flat_map-append}
use Rattle.std.proofs.lemmas.List.{length-append}
use Rattle.fr_bus.specs.Record.{Recorded}
use Rattle.fr_bus.specs.Windows.{cycles_begun}
use Rattle.fr_capture.specs.Pcap.{file_header}
use Rattle.fr_core.specs.Agreement.{IsWorld}
use Rattle.fr_core.specs.declared.event.Event.{Event}
use Rattle.fr_core.specs.Scripts.{Scripted}
use Rattle.fr_core.specs.Worlds.{WorldState}
use Rattle.fr_endless.proofs.AlikeLemmas.{opened_same, begun_same, last_same}
use Rattle.fr_endless.specs.Alike.{Alike}
use Rattle.fr_files.specs.Outputs.{FallsShort}
use Rattle.fr_live.specs.LiveWorlds.{LiveState, IsWorldHistory}
use Rattle.fr_playing.proofs.PlayLemmas.{within_none, within_more, cycles_none, cycles_more}
use Rattle.fr_playing.proofs.WindowLemmas.{window_adds}
use Rattle.fr_playing.specs.Calls.{asked_in}
use Rattle.fr_playing.specs.declared.call.ExecutedCall.{ExecutedCall}
use Rattle.fr_playing.specs.Moving.{is_at_cycle, whole_window}
use Rattle.fr_playing.specs.Playing.{PlaysCycle, PlaysCycles}
use Rattle.fr_playing.specs.Windows.{PlaysWindow, PlaysWithin, PlaysWindows}
use Rattle.fr_runs.specs.declared.fault_line.FaultLine.{FaultLine}
use Rattle.fr_scenario.specs.Contents.{Contents}
use Rattle.fr_showing.specs.AnswerText.{answer_line, origin_line}
use Rattle.fr_showing.specs.Listening.{capture_of, window_records}
use Rattle.fr_showing.specs.EachWindow.{each_window, said_after}
use Rattle.fr_showing.specs.Spans.{span_line, spans_text}
use Rattle.fr_outcome.specs.OutcomeText.{outcome_text}
use Rattle.fr_showing.specs.Reasons.{reasons_in, reasons_text}
use Rattle.fr_showing.specs.RecordText.{record_text, window_text}
use Rattle.fr_slots.proofs.HistoryLemmas.{each_after-snoc}
use Rattle.fr_slots.proofs.PlaceLemmas.{get-after}
use Rattle.fr_slots.specs.History.{each_after}
use Rattle.fr_schedule.specs.Descriptions.{Description}
use Rattle.fr_streaming.proofs.AlikeLemmas.{ok_as}
use Rattle.fr_streaming.proofs.KeptLemmas.{executes_keeps, lines_kept}
use Rattle.fr_streaming.proofs.OriginLemmas.{origins_kept}
use Rattle.fr_streaming.proofs.LogEndLemmas.{log_is, opening_between}
use Rattle.fr_streaming.proofs.LogLemmas.{adds_none, adds_then}
use Rattle.fr_streaming.proofs.LogWindowLemmas.{window_last}
use Rattle.fr_streaming.proofs.LedLemmas.{err_as, executes_none, executes_then, made_executed, window_executed}
use Rattle.fr_streaming.proofs.LedLemmas.{windows_executed, within_executed, cycle_executed, cycles_executed}
use Rattle.fr_streaming.specs.declared.telling.Streamed.{Streamed}
use Rattle.fr_streaming.specs.declared.telling.Streamed.TheVariants.{Outcome, Answers, Commits, Record, Windows}
use Rattle.fr_streaming.specs.Received.{received_in, received_text}
use Rattle.fr_streaming.specs.declared.telling.Streamed.TheVariants.{Reasons, Origins, Received, Heard}
use Rattle.fr_streaming.specs.CommitLog.{AddsToLog}
use Rattle.fr_streaming.specs.LogSteps.{IsBetween}
use Rattle.fr_streaming.specs.Runs.{opening}
use Rattle.fr_streaming.specs.Streams.{is_silent, offers_for, told_closing, told_last, told_opening, Breaks, Executes}
use Rattle.fr_streaming.specs.Streams.{Goes, IsTold, MakesCalls, TellsBetween, WithoutCalls}

-- ---- one more window

last_of : (xs : List Recorded) (x : Recorded) → slice_get (xs ++ x ∷ []) (length (xs ++ x ∷ []) - 1) ≡ Some x
last_of xs x =
    let many = length-append xs (x ∷ []) in
    let place : length (xs ++ x ∷ []) - 1 ≡ length xs = omega (arith, many) in
    ap (slice_get (xs ++ x ∷ [])) place ∙ get-after xs [] x

-- the kept data have the window that was sealed last, and the number of cycles
sealed_more : (cycle nodes : ℕ) (faults : List FaultLine) (l : LiveState) (w v : WorldState)
    → PlaysWindow cycle faults (whole_window nodes) w v → IsWorldHistory l v
    → (made : Recorded) × (v.bus.sealed ≡ w.bus.sealed ++ made ∷ []) × (l.bus.last ≡ Some made)
    × (cycles_begun (w.bus.sealed ++ made ∷ []) ≡ l.bus.bus.course.begun)
sealed_more cycle nodes faults l w v plays is =
    let (made, grows) = window_adds faults cycle nodes plays.0 w v plays.1 plays.2 in (
      made,
      grows,
      sym (last_same l v is)
          ∙ ap (λ (rs : List Recorded). slice_get rs (length rs - 1)) grows ∙ last_of w.bus.sealed made,
      ap cycles_begun (sym grows) ∙ begun_same l v is,
    )

module _ (s : Contents) (d : Description) where
  -- what the view has of a way from the start is the view without its opening and its closing
  pub told_after : (streamed : Streamed) (cycles : ℕ) (calls : List ExecutedCall) (v : WorldState) (text : List ℕ)
      → IsWorld (opening d cycles) → TellsBetween streamed s d (opening d cycles) calls v text
      → IsTold streamed s d v calls (told_opening streamed ++ text ++ told_closing streamed v)
  unfolding each_after
  told_after Outcome cycles calls v text world tells =
      ap (λ (t : List ℕ). t ++ outcome_text v.interfaces (length v.bus.sealed)) tells
  told_after Answers cycles calls v text world tells = append-nil text ∙ tells
  told_after Commits cycles calls v text world tells =
      let (between, adds) = tells (opening_between d cycles world) in
      (text, log_is d cycles v text adds, refl)
  told_after Record cycles calls v text world tells = append-nil text ∙ sym tells
  told_after Windows cycles calls v text world tells = append-nil text ∙ sym tells
  told_after Reasons cycles calls v text world tells = append-nil text ∙ sym tells
  told_after Origins cycles calls v text world tells = append-nil text ∙ tells
  told_after Received cycles calls v text world tells = append-nil text ∙ sym tells
  told_after Heard cycles calls v text world tells =
      ap (λ (t : List ℕ). file_header ++ t) (append-nil text)
      ∙ ap (λ (t : List ℕ). t ++ text) (sym (append-nil file_header)) ∙ sym tells

  -- what the kept data have of the window that was sealed last
  pub window_told : (streamed : Streamed) (cycle nodes : ℕ) (faults : List FaultLine) (l n : LiveState)
      (w v : WorldState) → nodes ≡ length d.plans → PlaysWindow cycle faults (whole_window nodes) w v
      → IsWorldHistory l w → IsWorldHistory n v
      → TellsBetween streamed s d w [] v
      (told_last streamed s d n.bus.bus.course.begun n.bus.last (offers_for streamed l))
  window_told Outcome cycle nodes faults l n w v nodes_is plays from is = refl
  window_told Answers cycle nodes faults l n w v nodes_is plays from is = refl
  window_told Commits cycle nodes faults l n w v nodes_is plays from is = λ between.
      let (made, last, logs) = window_last d cycle nodes faults l n w v nodes_is plays from is between in
      subst
      (λ (o : Option Recorded). IsBetween d v × AddsToLog w v (told_last Commits s d n.bus.bus.course.begun o
      (offers_for Commits l))) (sym last) logs
  window_told Record cycle nodes faults l n w v nodes_is plays from is =
      let (made, grows, last, begun) = sealed_more cycle nodes faults n w v plays is in
      ap (record_text s d.params) grows ∙ each_after-snoc (said_after (window_text s d.params)) w.bus.sealed made
      ∙ ap (λ (k : ℕ). record_text s d.params w.bus.sealed ++ window_text s d.params (k - 1) made) begun
      ∙ ap (λ (o : Option Recorded). record_text s d.params w.bus.sealed
      ++ told_last Record s d n.bus.bus.course.begun o []) (sym last)
  window_told Windows cycle nodes faults l n w v nodes_is plays from is =
      let (made, grows, last, begun) = sealed_more cycle nodes faults n w v plays is in
      ap (spans_text d.params) grows ∙ each_after-snoc (said_after (span_line d.params)) w.bus.sealed made
      ∙ ap (λ (k : ℕ). spans_text d.params w.bus.sealed ++ span_line d.params (k - 1) made) begun
      ∙ ap (λ (o : Option Recorded). spans_text d.params w.bus.sealed
      ++ told_last Windows s d n.bus.bus.course.begun o []) (sym last)
  window_told Reasons cycle nodes faults l n w v nodes_is plays from is =
      let (made, grows, last, begun) = sealed_more cycle nodes faults n w v plays is in
      ap (reasons_text s d) grows ∙ each_after-snoc (said_after (reasons_in s d)) w.bus.sealed made
      ∙ ap (λ (k : ℕ). reasons_text s d w.bus.sealed ++ reasons_in s d (k - 1) made) begun
      ∙ ap (λ (o : Option Recorded). reasons_text s d w.bus.sealed
      ++ told_last Reasons s d n.bus.bus.course.begun o []) (sym last)
  window_told Origins cycle nodes faults l n w v nodes_is plays from is = refl
  window_told Received cycle nodes faults l n w v nodes_is plays from is =
      let (made, grows, last, begun) = sealed_more cycle nodes faults n w v plays is in
      ap (received_text d) grows ∙ each_after-snoc (said_after (received_in d)) w.bus.sealed made
      ∙ ap (λ (k : ℕ). received_text d w.bus.sealed ++ received_in d (k - 1) made) begun
      ∙ ap (λ (o : Option Recorded). received_text d w.bus.sealed
      ++ told_last Received s d n.bus.bus.course.begun o []) (sym last)
  window_told Heard cycle nodes faults l n w v nodes_is plays from is =
      let (made, grows, last, begun) = sealed_more cycle nodes faults n w v plays is in
      ap (capture_of d.params) grows
      ∙ ap (λ (t : List ℕ). file_header ++ t) (each_after-snoc (said_after (window_records d.params)) w.bus.sealed made)
      ∙ sym (append_assoc file_header (each_window (window_records d.params) w.bus.sealed)
      (said_after (window_records d.params) w.bus.sealed made))
      ∙ ap (λ (k : ℕ). capture_of d.params w.bus.sealed ++ window_records d.params (k - 1) made) begun
      ∙ ap (λ (o : Option Recorded). capture_of d.params w.bus.sealed
      ++ told_last Heard s d n.bus.bus.course.begun o []) (sym last)

  -- ---- one way after another

  pub tells_none : (streamed : Streamed) (w : WorldState) → TellsBetween streamed s d w [] w []
  tells_none Outcome w = refl
  tells_none Answers w = refl
  tells_none Commits w = λ between. (between, adds_none w)
  tells_none Record w = sym (append-nil (record_text s d.params w.bus.sealed))
  tells_none Windows w = sym (append-nil (spans_text d.params w.bus.sealed))
  tells_none Reasons w = sym (append-nil (reasons_text s d w.bus.sealed))
  tells_none Origins w = refl
  tells_none Received w = sym (append-nil (received_text d w.bus.sealed))
  tells_none Heard w = sym (append-nil (capture_of d.params w.bus.sealed))

  pub tells_then : (streamed : Streamed) (w u v : WorldState) (xs ys : List ExecutedCall) (a b : List ℕ)
      → Executes w xs u → Executes u ys v → TellsBetween streamed s d w xs u a → TellsBetween streamed s d u ys v b
      → TellsBetween streamed s d w (xs ++ ys) v (a ++ b)
  tells_then Outcome w u v xs ys a b first second one two = ap₂ (λ (x y : List ℕ). x ++ y) one two
  tells_then Answers w u v xs ys a b first second one two =
      ap₂ (λ (x y : List ℕ). x ++ y)
      (one ∙ lines_kept w xs u v first (executes_keeps u ys v second)) two
      ∙ sym (flat_map-append (answer_line v) xs ys)
  tells_then Commits w u v xs ys a b first second one two = λ between.
      let (mid, adds) = one between in
      let (end, more) = two mid in
      (end, adds_then w u v a b adds more)
  tells_then Record w u v xs ys a b first second one two =
      two ∙ ap (λ (t : List ℕ). t ++ b) one ∙ append_assoc (record_text s d.params w.bus.sealed) a b
  tells_then Windows w u v xs ys a b first second one two =
      two ∙ ap (λ (t : List ℕ). t ++ b) one ∙ append_assoc (spans_text d.params w.bus.sealed) a b
  tells_then Reasons w u v xs ys a b first second one two =
      two ∙ ap (λ (t : List ℕ). t ++ b) one ∙ append_assoc (reasons_text s d w.bus.sealed) a b
  tells_then Origins w u v xs ys a b first second one two =
      ap₂ (λ (x y : List ℕ). x ++ y)
      (one ∙ origins_kept w xs u v first (executes_keeps u ys v second)) two
      ∙ sym (flat_map-append (origin_line v) xs ys)
  tells_then Received w u v xs ys a b first second one two =
      two ∙ ap (λ (t : List ℕ). t ++ b) one ∙ append_assoc (received_text d w.bus.sealed) a b
  tells_then Heard w u v xs ys a b first second one two =
      two ∙ ap (λ (t : List ℕ). t ++ b) one ∙ append_assoc (capture_of d.params w.bus.sealed) a b

-- ---- texts one after another

-- the relation holds of accepted events
abbrev pub Leads : (WorldState → List ExecutedCall → WorldState → Type 0) → Type 0
Leads R = (w : WorldState) (calls : List ExecutedCall) (v : WorldState) → R w calls v → Executes w calls v

module _ (streamed : Streamed) (s : Contents) (d : Description) where
  pub goes_none : (R : WorldState → List ExecutedCall → WorldState → Type 0) (l : LiveState) (bytes : Option (List ℕ))
      → ((w : WorldState) → R w [] w) → Goes (TellsBetween streamed s d) R l bytes bytes l
  goes_none R l bytes same =
      ([], Appends-nil bytes, λ w is. (w, ([], same w, tells_none s d streamed w), is))

  pub goes_then : (R S Q : WorldState → List ExecutedCall → WorldState → Type 0) (l m n : LiveState)
      (a b c : Option (List ℕ)) → Goes (TellsBetween streamed s d) R l a b m
      → Goes (TellsBetween streamed s d) S m b c n → Leads R → Leads S
      → ((w u v : WorldState) (xs ys : List ExecutedCall) → IsWorldHistory n v → R w xs u → S u ys v
      → Q w (xs ++ ys) v)
      → Goes (TellsBetween streamed s d) Q l a c n
  goes_then R S Q l m n a b c first second leads leads' joins =
      let (text, adds, each) = first in
      let (more, adds', each') = second in (
        text ++ more,
        Appends-trans a b c text more adds adds',
        λ w is.
            let (u, (xs, one, tells_one), mid) = each w is in
            let (v, (ys, two, tells_two), end) = each' u mid in (
              v,
              (
                xs ++ ys,
                joins w u v xs ys end one two,
                tells_then s d streamed w u v xs ys text more (leads w xs u one) (leads' u ys v two) tells_one
                    tells_two,
              ),
              end,
            ),
      )

  -- ---- hindrances

  pub breaks_none : (l : LiveState) (bytes : Option (List ℕ)) → Breaks (TellsBetween streamed s d) l bytes bytes
  breaks_none l bytes =
      ([], Appends-nil bytes, λ w is. (w, [], [], executes_none w, tells_none s d streamed w))

  pub breaks_after : (R : WorldState → List ExecutedCall → WorldState → Type 0) (l m : LiveState)
      (a b c : Option (List ℕ)) → Goes (TellsBetween streamed s d) R l a b m → Leads R
      → Breaks (TellsBetween streamed s d) m b c → Breaks (TellsBetween streamed s d) l a c
  breaks_after R l m a b c goes leads breaks =
      let (text, adds, each) = goes in
      let (more, adds', each') = breaks in (
        text ++ more,
        Appends-trans a b c text more adds adds',
        λ w is.
            let (u, (xs, one, tells_one), mid) = each w is in
            let (v, ys, rest, executes, tells_two) = each' u mid in
            let before = leads w xs u one in (
              v,
              xs ++ ys,
              rest,
              executes_then w xs u ys v before executes,
              subst (TellsBetween streamed s d w (xs ++ ys) v) (sym (append_assoc text more rest))
                  (tells_then s d streamed w u v xs ys text (more ++ rest) before executes tells_one tells_two),
            ),
      )

  pub breaks_at : (R : WorldState → List ExecutedCall → WorldState → Type 0) (l m : LiveState) (a b : Option (List ℕ))
      → Goes (TellsBetween streamed s d) R l a b m → Leads R → Breaks (TellsBetween streamed s d) l a b
  breaks_at R l m a b goes leads = breaks_after R l m a b b goes leads (breaks_none m b)

  -- only a front of the text was written
  pub breaks_short : (R : WorldState → List ExecutedCall → WorldState → Type 0) (l m : LiveState)
      (a b : Option (List ℕ)) (text : List ℕ)
      → Alike l (λ w v. (calls : List ExecutedCall) × R w calls v × TellsBetween streamed s d w calls v text) m
      → Leads R → FallsShort a b text → Breaks (TellsBetween streamed s d) l a b
  breaks_short R l m a b text given leads short =
      let (front, rest, text_is, missing, adds) = short in (
        front,
        adds,
        λ w is.
            let (v, (calls, one, tells), end) = given w is in
            (v, calls, rest, leads w calls v one, subst (TellsBetween streamed s d w calls v) text_is tells),
      )

  -- ---- a text that is handed to the writer

  module _ {A E : Type 0} (r : Result A E) (R : WorldState → List ExecutedCall → WorldState → Type 0)
      (l n : LiveState) (a b : Option (List ℕ)) (handed text : List ℕ) (is : handed ≡ text)
      (given : Alike l
      (λ w v. (calls : List ExecutedCall) × R w calls v × TellsBetween streamed s d w calls v text) n) where
    pub handed_goes : OnOk r (Appends a b handed) → OnOk r (Goes (TellsBetween streamed s d) R l a b n)
    handed_goes adds =
        ok_as r (Appends a b handed) (Goes (TellsBetween streamed s d) R l a b n) adds
        (λ appends. (text, subst (Appends a b) is appends, given))

    pub handed_breaks : Leads R → OnErr r (FallsShort a b handed)
        → OnErr r (Breaks (TellsBetween streamed s d) l a b)
    handed_breaks leads short =
        err_as r (FallsShort a b handed) (Breaks (TellsBetween streamed s d) l a b) short
        (λ falls. breaks_short R l n a b text given leads (subst (FallsShort a b) is falls))

  -- ---- windows of a cycle

  module _ (cycle : ℕ) (faults : List FaultLine) (due : List Event) (silent : list_all is_silent due ≡ true) where
    within_leads : (count : ℕ) → Leads (WithoutCalls (PlaysWithin cycle faults due count))
    within_leads count = within_executed cycle faults due silent count

    no_calls : (xs ys : List ExecutedCall) → xs ≡ [] → ys ≡ [] → xs ++ ys ≡ []
    no_calls xs ys none none' = ap₂ (λ (a b : List ExecutedCall). a ++ b) none none'

    pub windows_none : (l : LiveState) (bytes : Option (List ℕ))
        → Goes (TellsBetween streamed s d) (WithoutCalls (PlaysWithin cycle faults due 0)) l bytes bytes l
    windows_none l bytes =
        goes_none (WithoutCalls (PlaysWithin cycle faults due 0)) l bytes
        (λ w. (refl, within_none cycle faults due w))

    pub windows_more : (l m n : LiveState) (a b c : Option (List ℕ)) (count : ℕ)
        → Goes (TellsBetween streamed s d) (WithoutCalls (PlaysWithin cycle faults due count)) l a b m
        → Goes (TellsBetween streamed s d) (WithoutCalls (PlaysWindow cycle faults due)) m b c n
        → is_at_cycle n.bus.bus.opened ≡ false
        → Goes (TellsBetween streamed s d) (WithoutCalls (PlaysWithin cycle faults due (count + 1))) l a c n
    windows_more l m n a b c count first second within =
        goes_then (WithoutCalls (PlaysWithin cycle faults due count)) (WithoutCalls (PlaysWindow cycle faults due))
        (WithoutCalls (PlaysWithin cycle faults due (count + 1))) l m n a b c first second (within_leads count)
        (window_executed cycle faults due silent)
        (λ w u v xs ys is one two. (
          no_calls xs ys one.0 two.0,
          within_more cycle faults due count w u v one.1 two.1 (ap is_at_cycle (opened_same n v is) ∙ within),
        ))

    pub windows_end : (l m n : LiveState) (a b c : Option (List ℕ)) (count : ℕ)
        → Goes (TellsBetween streamed s d) (WithoutCalls (PlaysWithin cycle faults due count)) l a b m
        → Goes (TellsBetween streamed s d) (WithoutCalls (PlaysWindow cycle faults due)) m b c n
        → is_at_cycle n.bus.bus.opened ≡ true
        → Goes (TellsBetween streamed s d) (WithoutCalls (PlaysWindows cycle faults due)) l a c n
    windows_end l m n a b c count first second ends =
        goes_then (WithoutCalls (PlaysWithin cycle faults due count)) (WithoutCalls (PlaysWindow cycle faults due))
        (WithoutCalls (PlaysWindows cycle faults due)) l m n a b c first second (within_leads count)
        (window_executed cycle faults due silent)
        (λ w u v xs ys is one two. (
          no_calls xs ys one.0 two.0,
          (count, u, one.1, two.1, ap is_at_cycle (opened_same n v is) ∙ ends),
        ))

  -- ---- cycles

  module _ (scripts : List Scripted) (faults : List FaultLine) (due : List Event)
      (silent : list_all is_silent due ≡ true) where
    pub cycle_goes : {A E : Type 0} (r : Result A E) (cycle : ℕ) (l m n : LiveState) (a b c : Option (List ℕ))
        → Goes (TellsBetween streamed s d) (MakesCalls (asked_in cycle scripts)) l a b m
        → OnOk r (Goes (TellsBetween streamed s d) (WithoutCalls (PlaysWindows cycle faults due)) m b c n)
        → OnOk r (Goes (TellsBetween streamed s d) (PlaysCycle cycle scripts faults due) l a c n)
    cycle_goes (Ok x) cycle l m n a b c called goes =
        goes_then (MakesCalls (asked_in cycle scripts)) (WithoutCalls (PlaysWindows cycle faults due))
        (PlaysCycle cycle scripts faults due) l m n a b c called goes (made_executed (asked_in cycle scripts))
        (windows_executed cycle faults due silent)
        (λ w u v xs ys is made plays.
        subst (λ (cs : List ExecutedCall). PlaysCycle cycle scripts faults due w cs v)
        (sym (ap (λ (zs : List ExecutedCall). xs ++ zs) plays.0 ∙ append-nil xs))
        (u, made.0, made.1, plays.1))
    cycle_goes (Err e) cycle l m n a b c called goes = tt

    pub cycles_start : (l : LiveState) (bytes : Option (List ℕ))
        → Goes (TellsBetween streamed s d) (PlaysCycles scripts faults due 0) l bytes bytes l
    cycles_start l bytes =
        goes_none (PlaysCycles scripts faults due 0) l bytes (λ w. cycles_none scripts faults due [] w refl)

    pub cycles_next : (l m n : LiveState) (a b c : Option (List ℕ)) (count : ℕ)
        → Goes (TellsBetween streamed s d) (PlaysCycles scripts faults due count) l a b m
        → Goes (TellsBetween streamed s d) (PlaysCycle count scripts faults due) m b c n
        → Goes (TellsBetween streamed s d) (PlaysCycles scripts faults due (count + 1)) l a c n
    cycles_next l m n a b c count first second =
        goes_then (PlaysCycles scripts faults due count) (PlaysCycle count scripts faults due)
        (PlaysCycles scripts faults due (count + 1)) l m n a b c first second
        (cycles_executed scripts faults due silent count) (cycle_executed scripts faults due silent count)
        (λ w u v xs ys is so_far plays.
        cycles_more scripts faults due count xs (xs ++ ys) w u v so_far (ys, refl, plays))
