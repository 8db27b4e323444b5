-- What a window adds to the log of commits.
use Rattle.std.proofs.Common.{◌≡◌, ◌≤◌, ◌<◌, ℕ, zero, suc, ◌+◌, ◌-◌, Bool, true, false, cond, List, [], ◌∷◌, ◌++◌}
use Rattle.std.proofs.Common.{length}
use Rattle.std.proofs.Common.{map, Option, Some, None, Ok, refl, sym, ap, ap₂, subst, ◌∙◌, append-nil, arith}
use Rattle.std.specs.Prelude.{codes, nat_lt, slice_get}
use Rattle.std.specs.Fmt.{decimal}
use Rattle.std.specs.List.{All}
use Rattle.std.proofs.lemmas.Bool.{ltb-true, ltb-false}
use Rattle.std.proofs.lemmas.Grind.{flat_map-append}
use Rattle.std.proofs.lemmas.List.{length-append, length-map}
use Rattle.std.proofs.lemmas.List.Elements.{All-push}
use Rattle.std.proofs.lemmas.Option.{slice_get-get_or}
use Rattle.fr_bus.specs.Record.{Recorded}
use Rattle.fr_bus.specs.Windows.{begins_cycle, cycles_begun}
use Rattle.fr_slots.specs.Windows.{opens_cycle}
use Rattle.fr_core.proofs.ClusterLemmas.{steps_cluster}
use Rattle.fr_core.proofs.TimingLemmas.{count_more}
use Rattle.fr_journal.specs.Cycles.{begins_cycle_at, run_cycle}
use Rattle.fr_core.specs.declared.event.Event.{Event}
use Rattle.fr_core.specs.Runs.{StepsAll}
use Rattle.fr_core.specs.Steps.{step_done, step_refusal, step_reply}
use Rattle.fr_core.specs.Worlds.{WorldState, interface_at}
use Rattle.fr_endless.proofs.AlikeLemmas.{begun_same, last_same, opened_same, windows_same}
use Rattle.fr_endless.specs.Answers.{windows_by}
use Rattle.fr_interface.proofs.StandingLemmas.{answer-offered}
use Rattle.fr_interface.specs.Sending.{outgoing_on}
use Rattle.fr_interface.specs.State.{State, fetch_entry}
use Rattle.fr_journal.specs.declared.entry.Entry.TheVariants.{Observe}
use Rattle.fr_journal.specs.declared.entry.Offered.{Offered}
use Rattle.fr_journal.specs.declared.entry.Offered.TheVariants.{Nothing, Null, Data}
use Rattle.fr_journal.specs.Forms.{Entry}
use Rattle.fr_journal.specs.Offers.{offered}
use Rattle.fr_lines.specs.Spelling.{line_text}
use Rattle.fr_live.proofs.LeadLemmas.{as_many, history_at}
use Rattle.fr_live.specs.LiveWorlds.{LiveState, IsWorldHistory, no_standing, standing_at}
use Rattle.fr_playing.proofs.EventLemmas.{is_of_slot}
use Rattle.fr_playing.proofs.PassLemmas.{passes_keep}
use Rattle.fr_playing.proofs.WindowLemmas.{all_of_slot}
use Rattle.fr_playing.specs.Moving.{whole_window}
use Rattle.fr_playing.specs.Striking.{Passes}
use Rattle.fr_playing.specs.Windows.{played_events, PlaysWindow}
use Rattle.fr_runs.specs.declared.fault_line.FaultLine.{FaultLine}
use Rattle.fr_schedule.specs.Descriptions.{Description}
use Rattle.fr_showing.specs.CommitText.{entries_at, recorded_of, words_by}
use Rattle.fr_showing.specs.declared.fates.Sending.{Sending}
use Rattle.fr_journal.specs.Cycles.{cycles_of}
use Rattle.fr_slots.proofs.HistoryLemmas.{each_after-snoc}
use Rattle.fr_slots.proofs.PlaceLemmas.{get-after, map-get}
use Rattle.fr_slots.specs.declared.channel.Channel.{Channel}
use Rattle.fr_slots.specs.declared.channel.Channel.TheVariants.{A, B}
use Rattle.fr_slots.specs.History.{each_after}
use Rattle.fr_slots.specs.Windows.{Opportunity}
use Rattle.fr_streaming.proofs.JournalLemmas.{window_does, AddsWindow, IsWindow}
use Rattle.fr_streaming.proofs.LogLemmas.{all_still, as_many_plans, joined, like_of, lines-append, lines_kept}
use Rattle.fr_streaming.proofs.LogLemmas.{node_text, of_node, other_lines, own_lines, same_words, text-append, words_in}
use Rattle.fr_streaming.proofs.LogLemmas.{IsLike}
use Rattle.fr_streaming.specs.CommitLog.{entry_lines, if_sealed, lines_at, node_lines, offer_lines, sending, sent_line}
use Rattle.fr_streaming.specs.CommitLog.{text_of, AddsToLog, NodeLine}
use Rattle.fr_streaming.specs.declared.log.NodeOffers.{NodeOffers}
use Rattle.fr_streaming.specs.LogSteps.{data_in, offers_in, offers_of, sent_at, sent_from, sent_on, IsBetween}
use Rattle.fr_streaming.specs.LogSteps.{IsSealedIn}

-- ---- the lines of the offers of all nodes

abbrev sent_lines_on : Description → Recorded → ℕ → ℕ → Channel → Option ℕ → List (List ℕ)
sent_lines_on d r cycle node channel None = []
sent_lines_on d r cycle node channel (Some commit) =
    line_text (codes "sent" ∷ decimal node ∷ decimal commit ∷ words_by d r cycle node channel) ∷ []

abbrev sent_lines_at : Description → Recorded → ℕ → ℕ → NodeOffers → List (List ℕ)
sent_lines_at d r cycle node o =
    sent_lines_on d r cycle node A o.a ++ sent_lines_on d r cycle node B o.b

abbrev sent_lines : Description → Recorded → ℕ → ℕ → List NodeOffers → List NodeLine
sent_lines d r cycle node [] = []
sent_lines d r cycle node (o ∷ os) =
    of_node node (sent_lines_at d r cycle node o) ++ sent_lines d r cycle (node + 1) os

module _ (d : Description) (r : Recorded) (cycle : ℕ) where
  on_text : (node : ℕ) (channel : Channel) (o : Option ℕ) → joined (sent_lines_on d r cycle node channel o)
      ≡ sent_on d r cycle node channel o
  on_text node channel None = refl
  on_text node channel (Some commit) = append-nil (sent_on d r cycle node channel (Some commit))

  at_text : (node : ℕ) (o : NodeOffers) → joined (sent_lines_at d r cycle node o) ≡ sent_at d r cycle node o
  at_text node o =
      flat_map-append (λ (l : List ℕ). l) (sent_lines_on d r cycle node A o.a) (sent_lines_on d r cycle node B o.b)
      ∙ ap₂ (λ (a b : List ℕ). a ++ b) (on_text node A o.a) (on_text node B o.b)

  sent_text : (node : ℕ) (os : List NodeOffers)
      → text_of (sent_lines d r cycle node os) ≡ sent_from d r cycle node os
  sent_text node [] = refl
  sent_text node (o ∷ os) =
      text-append (of_node node (sent_lines_at d r cycle node o)) (sent_lines d r cycle (node + 1) os)
      ∙ ap₂ (λ (a b : List ℕ). a ++ b)
      (node_text node (sent_lines_at d r cycle node o) ∙ at_text node o) (sent_text (node + 1) os)

  -- the lines of one node and those of the nodes after it
  both_lines : (k node : ℕ) (o : NodeOffers) (os : List NodeOffers) (xs ys : List (List ℕ))
      → lines_at k (of_node node (sent_lines_at d r cycle node o)) ≡ xs
      → lines_at k (sent_lines d r cycle (node + 1) os) ≡ ys
      → lines_at k (sent_lines d r cycle node (o ∷ os)) ≡ xs ++ ys
  both_lines k node o os xs ys first second =
      lines-append k (of_node node (sent_lines_at d r cycle node o)) (sent_lines d r cycle (node + 1) os)
      ∙ ap₂ (λ (a b : List (List ℕ)). a ++ b) first second

  none_before : (k node : ℕ) (os : List NodeOffers) → k < node → lines_at k (sent_lines d r cycle node os) ≡ []
  none_before k node [] lt = refl
  none_before k node (o ∷ os) lt =
      both_lines k node o os [] []
      (other_lines node k (sent_lines_at d r cycle node o) (λ same. let none : ⊥ = omega (arith, lt, same) in none))
      (none_before k (node + 1) os (omega (arith, lt)))

  none_beyond : (k node : ℕ) (os : List NodeOffers) → node + length os ≤ k
      → lines_at k (sent_lines d r cycle node os) ≡ []
  none_beyond k node [] le = refl
  none_beyond k node (o ∷ os) le =
      both_lines k node o os [] []
      (other_lines node k (sent_lines_at d r cycle node o) (λ same. let none : ⊥ = omega (arith, le, same) in none))
      (none_beyond k (node + 1) os (omega (arith, le)))

  lines_here : (k node m : ℕ) (os : List NodeOffers) (o : NodeOffers) → k ≡ node + m → slice_get os m ≡ Some o
      → lines_at k (sent_lines d r cycle node os) ≡ sent_lines_at d r cycle k o
  lines_here k node m [] o place there = absurd (let none : ⊥ = cc in none)
  lines_here k node zero (x ∷ os) o place there =
      let same : node ≡ k = omega (arith, place) in
      let is : x ≡ o = cc in
      both_lines k node x os (sent_lines_at d r cycle node x) []
      (subst (λ (j : ℕ). lines_at j (of_node node (sent_lines_at d r cycle node x)) ≡ sent_lines_at d r cycle node x)
      same (own_lines node (sent_lines_at d r cycle node x)))
      (none_before k (node + 1) os (omega (arith, place)))
      ∙ append-nil (sent_lines_at d r cycle node x)
      ∙ ap₂ (sent_lines_at d r cycle) same is
  lines_here k node (suc m) (x ∷ os) o place there =
      both_lines k node x os [] (sent_lines_at d r cycle k o)
      (other_lines node k (sent_lines_at d r cycle node x)
      (λ same. let none : ⊥ = omega (arith, place, same) in none))
      (lines_here k (node + 1) m os o (omega (arith, place)) there)

-- ---- the lines of a fetch

-- the lines of an offer in a sealed window
fetch_lines : (d : Description) (v : WorldState) → IsLike d v → (node cycle : ℕ) (window : Opportunity)
    (made : Recorded) → recorded_of v (sending cycle window A) ≡ Some made → made.window ≡ window
    → (channel : Channel) (o : Offered)
    → offer_lines v node o (sending cycle window channel) ≡ sent_lines_on d made cycle node channel (data_in o)
fetch_lines d v like node cycle window made there window_is channel Nothing = refl
fetch_lines d v like node cycle window made there window_is channel Null = refl
fetch_lines d v like node cycle window made there window_is channel (Data commit) =
    let s : Sending = sending cycle window channel in
    ap (λ (o : Option Recorded). if_sealed o (sent_line v node commit s)) there
    ∙ ap (λ (ws : List (List ℕ)). line_text (codes "sent" ∷ decimal node ∷ decimal commit ∷ ws) ∷ [])
    (same_words d v like node s made there
    ∙ ap (λ (x : Opportunity). words_in d made (sending cycle x channel) node) (sym window_is))

-- ---- the cluster stays

cluster_done : (w : WorldState) (event : Event) → step_refusal w event ≡ None
    → (step_done w event).bus.cluster ≡ w.bus.cluster
unfolding StepsAll
cluster_done w event free =
    steps_cluster w (event ∷ []) (Ok (step_reply w event) ∷ []) (step_done w event)
    (step_done w event, (free, refl, refl), refl)

cluster_kept : (cycle nodes : ℕ) (faults : List FaultLine) (window : Opportunity) (w v : WorldState)
    → Passes w (played_events cycle faults (whole_window nodes) window) v → v.bus.cluster ≡ w.bus.cluster
cluster_kept cycle nodes faults window w v passes =
    passes_keep (λ (u : WorldState). u.bus.cluster ≡ w.bus.cluster) is_of_slot
    (λ u event of_slot free so_far. cluster_done u event free ∙ so_far)
    w (played_events cycle faults (whole_window nodes) window) v (all_of_slot cycle faults nodes window) passes refl

-- ---- a window

last_of : (xs : List Recorded) (x : Recorded) → slice_get (xs ++ x ∷ []) (length (xs ++ x ∷ []) - 1) ≡ Some x
last_of xs x =
    let many = length-append xs (x ∷ []) in
    let place : length (xs ++ x ∷ []) - 1 ≡ length xs = omega (arith, many) in
    ap (slice_get (xs ++ x ∷ [])) place ∙ get-after xs [] x

module _ (d : Description) (cycle nodes : ℕ) (faults : List FaultLine) (l n : LiveState) (w v : WorldState)
    (nodes_is : nodes ≡ length d.plans) (plays : PlaysWindow cycle faults (whole_window nodes) w v)
    (from : IsWorldHistory l w) (to : IsWorldHistory n v) (between : IsBetween d w) where
  abbrev window : Opportunity
  window = plays.0

  does : IsWindow window nodes w v
  does = window_does faults cycle nodes window w v plays.1 plays.2

  abbrev made : Recorded
  made = does.made

  as_many_nodes : length w.interfaces ≡ nodes
  as_many_nodes = as_many_plans d w between ∙ sym nodes_is

  last_is : n.bus.last ≡ Some made
  last_is = sym (last_same n v to) ∙ ap (λ (rs : List Recorded). slice_get rs (length rs - 1)) does.record_is
      ∙ last_of w.bus.sealed made

  number_is : window.number ≡ length w.bus.sealed
  number_is =
      let counted : windows_by n.bus.last ≡ length v.bus.sealed = windows_same n v to in
      let last : windows_by n.bus.last ≡ made.window.number + 1 = ap windows_by last_is in
      let grown = ap (λ (rs : List Recorded). length rs) does.record_is ∙ length-append w.bus.sealed (made ∷ []) in
      let of_made : made.window.number ≡ window.number = ap (λ (x : Opportunity). x.number) does.window_is in
      omega (arith, counted, last, grown, of_made)

  there : slice_get v.bus.sealed window.number ≡ Some made
  there = ap₂ (λ (rs : List Recorded) (k : ℕ). slice_get rs k) does.record_is number_is
      ∙ get-after w.bus.sealed [] made

  begun_grown : cycles_begun v.bus.sealed ≡ cycles_begun w.bus.sealed + cond (opens_cycle window) 1 0
  begun_grown =
      ap cycles_begun does.record_is ∙ count_more begins_cycle w.bus.sealed made
      ∙ ap (λ (x : Opportunity). cycles_begun w.bus.sealed + cond (opens_cycle x) 1 0) does.window_is

  -- the journal of a node that there is
  module _ (m : ℕ) (below : m < nodes) where
    abbrev s : State
    s = interface_at w m

    abbrev f : Entry
    f = fetch_entry s window

    adds : AddsWindow window s (interface_at v m)
    adds = does.each m below

    abbrev seen : Entry
    seen = Observe adds.0 adds.1 adds.2

    entries_are : entries_at v m ≡ (s.entries ++ f ∷ []) ++ seen ∷ []
    entries_are = ap (λ (t : State). t.entries) adds.3

    fetched_begun : cycles_of (s.entries ++ f ∷ []) ≡ cycles_begun v.bus.sealed
    fetched_begun =
        let many = as_many_nodes in
        count_more begins_cycle_at s.entries f
        ∙ ap (λ (k : ℕ). k + cond (opens_cycle window) 1 0) (between.begun m (omega (arith, below, many)))
        ∙ sym begun_grown

    seen_begun : cycles_of ((s.entries ++ f ∷ []) ++ seen ∷ []) ≡ cycles_begun v.bus.sealed
    seen_begun =
        let count = count_more begins_cycle_at (s.entries ++ f ∷ []) seen in
        let before = fetched_begun in
        omega (arith, count, before)

    sealed_here : All (IsSealedIn v.bus.sealed) (entries_at v m)
    sealed_here =
        let before : All (IsSealedIn v.bus.sealed) s.entries =
        subst (λ (rs : List Recorded). All (IsSealedIn rs) s.entries) (sym does.record_is)
        (all_still w.bus.sealed (made ∷ []) s.entries (between.sealed m)) in
        subst (All (IsSealedIn v.bus.sealed)) (sym entries_are)
        (All-push (IsSealedIn v.bus.sealed) (s.entries ++ f ∷ []) seen
        (All-push (IsSealedIn v.bus.sealed) s.entries f before (made, there)) tt)

  -- a number beyond those of the nodes
  entries_beyond : (m : ℕ) → nodes ≤ m → entries_at v m ≡ entries_at w m
  entries_beyond m above = ap (λ (t : State). t.entries) (does.others m above)

  sealed_by : (m : ℕ) (b : Bool) → nat_lt m nodes ≡ b → All (IsSealedIn v.bus.sealed) (entries_at v m)
  sealed_by m true below = sealed_here m (ltb-true m nodes below)
  sealed_by m false above =
      subst (All (IsSealedIn v.bus.sealed)) (sym (entries_beyond m (ltb-false m nodes above)))
      (subst (λ (rs : List Recorded). All (IsSealedIn rs) (entries_at w m)) (sym does.record_is)
      (all_still w.bus.sealed (made ∷ []) (entries_at w m) (between.sealed m)))

  between_now : IsBetween d v
  between_now = record {
    world = to.world_is;
    room = between.room;
    cluster = cluster_kept cycle nodes faults window w v plays.2 ∙ between.cluster;
    sealed = λ m. sealed_by m (nat_lt m nodes) refl;
    begun = λ m below.
        let many = as_many_nodes in
        let same = does.many in
        let within : m < nodes = omega (arith, below, many, same) in
        ap cycles_of (entries_are m within) ∙ seen_begun m within;
  }

  like : IsLike d v
  like = like_of d v between_now

  kept_lines : (m : ℕ) → each_after (entry_lines v m) [] (entries_at w m) ≡ node_lines w m
  kept_lines m =
      sym (lines_kept d w v (like_of d w between) like (made ∷ []) does.record_is m [] (entries_at w m)
      (between.sealed m))

  cycle_is : (m : ℕ) (below : m < nodes)
      → run_cycle (entries_at w m ++ fetch_entry (interface_at w m) window ∷ []) ≡ n.bus.bus.course.begun - 1
  cycle_is m below = ap (λ (k : ℕ). k - 1) (fetched_begun m below ∙ begun_same n v to)

  -- the kept data of a node tell its offers
  offers_are : (m : ℕ) → m < nodes → (channel : Channel)
      → (outgoing_on (standing_at l m).plan (standing_at l m).transmit window
      channel).offered ≡ offered (interface_at w m).plan (interface_at w m).entries window channel
  offers_are m below channel =
      let many = as_many_nodes in
      let same = as_many l.interfaces w.interfaces from.leads.interfaces_are in
      answer-offered (standing_at l m) (interface_at w m) window channel
      (history_at w l from.leads m (omega (arith, below, many, same)))

  abbrev os : List NodeOffers
  os = offers_in l.bus.bus.opened l.interfaces

  os_are : os ≡ map (offers_of window) l.interfaces
  os_are = ap (λ (o : Option Opportunity). offers_in o l.interfaces) (sym (opened_same l w from) ∙ plays.1)

  os_many : length os ≡ nodes
  os_many =
      ap length os_are ∙ length-map l.interfaces (offers_of window)
      ∙ as_many l.interfaces w.interfaces from.leads.interfaces_are ∙ as_many_nodes

  os_got : (m : ℕ) → m < nodes → slice_get os m ≡ Some (offers_of window (standing_at l m))
  os_got m below =
      let many = as_many_nodes in
      let same = as_many l.interfaces w.interfaces from.leads.interfaces_are in
      ap (λ (xs : List NodeOffers). slice_get xs m) os_are
      ∙ map-get (offers_of window) l.interfaces m (standing_at l m)
      (slice_get-get_or l.interfaces m no_standing (omega (arith, below, many, same)))

  abbrev lines : List NodeLine
  lines = sent_lines d made (n.bus.bus.course.begun - 1) 0 os

  fetch_is : (m : ℕ) → m < nodes
      → entry_lines v m (entries_at w m) (fetch_entry (interface_at w m) window) ≡ lines_at m lines
  fetch_is m below =
      let s = interface_at w m in
      let cycle_now = run_cycle (s.entries ++ fetch_entry s window ∷ []) in
      let on = λ (channel : Channel).
      fetch_lines d v like m cycle_now window made there does.window_is channel
      (offered s.plan s.entries window channel)
      ∙ ap₂ (λ (k : ℕ) (o : Offered). sent_lines_on d made k m channel (data_in o)) (cycle_is m below)
      (sym (offers_are m below channel)) in
      ap₂ (λ (xs ys : List (List ℕ)). xs ++ ys) (on A) (on B)
      ∙ sym (lines_here d made (n.bus.bus.course.begun - 1) m 0 m os (offers_of window (standing_at l m))
      (omega arith) (os_got m below))

  grows_here : (m : ℕ) (below : m < nodes) → node_lines v m ≡ node_lines w m ++ lines_at m lines
  grows_here m below =
      let s = interface_at w m in
      let fetch = fetch_entry s window in
      ap (each_after (entry_lines v m) []) (entries_are m below)
      ∙ each_after-snoc (entry_lines v m) (s.entries ++ fetch ∷ []) (seen m below)
      ∙ append-nil (each_after (entry_lines v m) [] (s.entries ++ fetch ∷ []))
      ∙ each_after-snoc (entry_lines v m) s.entries fetch
      ∙ ap₂ (λ (xs ys : List (List ℕ)). xs ++ ys) (kept_lines m) (fetch_is m below)

  grows_by : (m : ℕ) (b : Bool) → nat_lt m nodes ≡ b → node_lines v m ≡ node_lines w m ++ lines_at m lines
  grows_by m true below = grows_here m (ltb-true m nodes below)
  grows_by m false above =
      let beyond = ltb-false m nodes above in
      let many = os_many in
      ap (each_after (entry_lines v m) []) (entries_beyond m beyond) ∙ kept_lines m
      ∙ sym (append-nil (node_lines w m))
      ∙ ap (λ (ls : List (List ℕ)). node_lines w m ++ ls)
      (sym (none_beyond d made (n.bus.bus.course.begun - 1) m 0 os (omega (arith, beyond, many))))

  -- what the kept data have of the window is what it adds to the log
  window_logs : IsBetween d v × AddsToLog w v (sent_from d made (n.bus.bus.course.begun - 1) 0 os)
  window_logs = (
    between_now,
    record {
      lines = lines;
      text_is = sym (sent_text d made (n.bus.bus.course.begun - 1) 0 os);
      each = λ m. grows_by m (nat_lt m nodes) refl;
    },
  )

  pub window_last : (x : Recorded) × (n.bus.last ≡ Some x)
      × (IsBetween d v × AddsToLog w v (sent_from d x (n.bus.bus.course.begun - 1) 0 os))
  window_last = (made, last_is, window_logs)
