-- What files get, one text after another, and of each window that is sealed.
use Rattle.std.proofs.Common.{◌≡◌, ℕ, ◌-◌, Bool, true, false, List, [], ◌∷◌, ◌++◌, length, Option, Some, None}
use Rattle.std.proofs.Common.{Result, Ok, Err, refl, sym, ap, ap₂, subst, ◌∙◌, append_assoc, append-nil, arith}
use Rattle.std.proofs.Common.{cond, not, slice_get, get_or, set, map, eqb, ◌≢◌, ◌<◌, ◌≤◌}
use Rattle.std.proofs.Common.{codes, inl, inr, ◌⊎◌}
use Rattle.std.specs.Prelude.{is_some, option_and_then, option_map}
use Rattle.std.specs.Io.KnownBytes.{Appends}
use Rattle.std.proofs.KnownBytes.{Appends-nil, Appends-trans}
use Rattle.std.proofs.lemmas.Bool.Decides.{eqb_tells}
use Rattle.std.proofs.lemmas.List.{get_or-map, get_or-set_other, get_or-set_same, get_or_past, length-append}
use Rattle.std.proofs.lemmas.List.{length-map}
use Rattle.std.proofs.lemmas.List.{map-set}
use Rattle.fr_bus.specs.declared.error.Phase.{Phase}
use Rattle.fr_bus.specs.declared.error.Phase.TheVariants.{Collect, Sealed as InSealed, Finished}
use Rattle.fr_bus.specs.Record.{Recorded}
use Rattle.fr_bus.specs.declared.error.BusError.{BusError}
use Rattle.fr_bus.specs.declared.error.BusError.TheVariants.{NotAllPut, NotCollecting}
use Rattle.fr_bus.specs.States.{BusState, Stands, all_put, collects, inject_done, outcome_of}
use Rattle.fr_bus.specs.States.{seal_refusal, sealed_with}
use Rattle.fr_bus.specs.Windows.{cycles_begun}
use Rattle.fr_core.specs.Carried.{Carried, Idle, Knows, Offers, Waits, Took}
use Rattle.fr_core.specs.declared.error.StepError.TheVariants.{Bus}
use Rattle.fr_core.specs.declared.event.Event.{Event}
use Rattle.fr_core.specs.declared.event.Event.TheVariants.{Commit, Withdraw, Read, Pop, Look, Fetch, Put, Take}
use Rattle.fr_core.specs.declared.event.Event.TheVariants.{Observe, Inject, Seal, Advance}
use Rattle.fr_core.specs.declared.event.Reply.{Reply}
use Rattle.fr_core.specs.Steps.{Steps, fetched, looked, observed, put_on_bus, step_done}
use Rattle.fr_core.specs.Steps.{taken}
use Rattle.fr_core.specs.Worlds.{WorldState, carried_at}
use Rattle.fr_bus.specs.States.{collecting_of}
use Rattle.fr_endless.proofs.AlikeLemmas.{begun_same, last_same}
use Rattle.fr_endless.specs.Taps.{Adds, AddsAt, AddsBoth, AddsEach, AddsFront, AddsMore, HasBeyond, IsTold}
use Rattle.fr_endless.specs.Taps.{Start, TapsState, at_node, body_at, capture_last, first_failed, is_seal, no_lines}
use Rattle.fr_endless.specs.Taps.{WritesLast, record_last, record_of, start_of, traced_in}
use Rattle.fr_endless.specs.declared.taps.Tap.{Tap}
use Rattle.fr_bus.specs.declared.fault.Fault.{Fault}
use Rattle.fr_bus.specs.declared.fault.Fault.TheVariants.{Babble, Mute, Corrupt}
use Rattle.fr_capture.specs.Pcap.{file_header}
use Rattle.fr_live.specs.LiveWorlds.{IsWorldHistory, LiveState}
use Rattle.fr_scenario.specs.AnyText.{IsScenarioText}
use Rattle.fr_scenario.specs.Contents.{Contents}
use Rattle.fr_scenario.specs.declared.error.ScenarioError.{ScenarioError}
use Rattle.fr_scenario.specs.declared.error.ScenarioError.TheVariants as error
use Rattle.fr_showing.specs.EachWindow.{said_after}
use Rattle.fr_showing.specs.Listening.{all_records, window_records}
use Rattle.fr_showing.specs.RecordText.{window_text}
use Rattle.fr_slots.proofs.HistoryLemmas.{each_after-snoc}
use Rattle.fr_slots.proofs.PlaceLemmas.{get-after}
use Rattle.fr_slots.specs.declared.channel.Channel.TheVariants.{A, B}
use Rattle.fr_slots.specs.Parameters.{Parameters}
use Rattle.fr_slots.specs.Windows.{Opportunity}

-- ---- texts that are added

-- nothing is added
pub front_none : (failed : Option Tap) (bytes : Option (List ℕ)) → AddsFront failed bytes bytes []
front_none failed bytes = ([], [], refl, λ none. refl, Appends-nil bytes)

-- of a file that isn't there, nothing is known
pub front_unknown : (failed : Option Tap) (after : Option (List ℕ)) (text : List ℕ) → AddsFront failed None after text
front_unknown failed after text = (text, [], sym (append-nil text), λ none. refl, tt)

-- a file that isn't there
pub front_absent : {F : Type 0} (contents : F → Option (List ℕ)) (file : Option F) (text : List ℕ) → file ≡ None
    → AddsFront None (option_and_then contents file) (option_and_then contents file) text
front_absent contents file text none =
    subst (λ (o : Option _). AddsFront None (option_and_then contents o) (option_and_then contents o) text) (sym none)
    (front_unknown None None text)

-- no text at all, unless a file had failed before
pub more_none : (failed later : Option Tap) (bytes : Option (List ℕ)) → AddsMore failed later bytes bytes []
more_none None later bytes = front_none later bytes
more_none (Some tap) later bytes = Appends-nil bytes

pub more_unknown : (failed later : Option Tap) (after : Option (List ℕ)) (text : List ℕ)
    → AddsMore failed later None after text
more_unknown None later after text = front_unknown later after text
more_unknown (Some tap) later after text = tt

-- one text after another
pub front_more : (f g : Option Tap) (one two : List ℕ) (start before after : Option (List ℕ))
    → AddsFront f start before one → AddsMore f g before after two → (g ≡ None → f ≡ None)
    → AddsFront g start after (one ++ two)
front_more None g one two start before after has more stays =
    let (front, rest, is, whole, adds) = has in
    let (front', rest', is', whole', adds') = more in
    let full : one ≡ front = is ∙ ap (λ (l : List ℕ). front ++ l) (whole refl) ∙ append-nil front in (
      front ++ front',
      rest',
      ap₂ (λ (a b : List ℕ). a ++ b) full is' ∙ sym (append_assoc front front' rest'),
      whole',
      Appends-trans start before after front front' adds adds',
    )
front_more (Some tap) g one two start before after has more stays =
    let (front, rest, is, whole, adds) = has in (
      front,
      rest ++ two,
      ap (λ (l : List ℕ). l ++ two) is ∙ append_assoc front rest two,
      λ none. absurd (let no : ⊥ = cc (stays none) in no),
      subst (Appends start after) (append-nil front) (Appends-trans start before after front [] adds more),
    )

pub more_then : (f g h : Option Tap) (one two : List ℕ) (start before after : Option (List ℕ))
    → AddsMore f g start before one → AddsMore g h before after two → (g ≡ None → f ≡ None) → (h ≡ None → g ≡ None)
    → AddsMore f h start after (one ++ two)
more_then None g h one two start before after first second stays later =
    front_more g h one two start before after first second later
more_then (Some tap) None h one two start before after first second stays later =
    absurd (let no : ⊥ = cc (stays refl) in no)
more_then (Some tap) (Some other) h one two start before after first second stays later =
    Appends-trans start before after [] [] first second

-- a front of a text is one of a longer text
pub front_longer : (failed : Option Tap) (tap : Tap) (one two : List ℕ) (before after : Option (List ℕ))
    → failed ≡ Some tap → AddsFront failed before after one → AddsFront failed before after (one ++ two)
front_longer failed tap one two before after some has =
    let (front, rest, is, whole, adds) = has in (
      front,
      rest ++ two,
      ap (λ (l : List ℕ). l ++ two) is ∙ append_assoc front rest two,
      λ none. absurd (let no : ⊥ = cc (sym none ∙ some) in no),
      adds,
    )

-- another file failed later
pub front_later : (one other : Option Tap) (before after : Option (List ℕ)) (text : List ℕ)
    → AddsFront one before after text → (other ≡ None → one ≡ None) → AddsFront other before after text
front_later one other before after text adds stays =
    let (front, rest, is, whole, appends) = adds in (front, rest, is, λ none. whole (stays none), appends)

pub first_none : (one other : Option Tap) → first_failed one other ≡ None → one ≡ None
first_none None other none = refl
first_none (Some tap) other none = absurd (let no : ⊥ = cc none in no)

pub second_none : (one other : Option Tap) → first_failed one other ≡ None → other ≡ None
second_none None other none = none
second_none (Some tap) other none = absurd (let no : ⊥ = cc none in no)

-- ---- both files

-- the traces stay
pub traces_kept : (old new : TapsState) → new.traced ≡ old.traced
    → (n : ℕ) → AddsMore old.failed new.failed (traced_in old.traced n) (traced_in new.traced n) []
traces_kept old new same n =
    subst (λ (l : List (Option (List ℕ))). AddsMore old.failed new.failed (traced_in old.traced n) (traced_in l n) [])
    (sym same) (more_none old.failed new.failed (traced_in old.traced n))

-- no file has failed
pub both_added : (old new : TapsState) (recorded captured : List ℕ) → old.failed ≡ None → new.params ≡ old.params
    → new.kept ≡ old.kept → new.traced ≡ old.traced → AddsFront new.failed old.recorded new.recorded recorded
    → AddsFront new.failed old.captured new.captured captured → AddsBoth old new recorded captured
both_added old new recorded captured none params kept traces first second = record {
  params_are = params;
  kept_is = kept;
  stays = λ later. none;
  to_record = subst (λ (f : Option Tap). AddsMore f new.failed old.recorded new.recorded recorded) (sym none) first;
  to_capture = subst (λ (f : Option Tap). AddsMore f new.failed old.captured new.captured captured) (sym none) second;
  to_traces = traces_kept old new traces;
}

-- a file had failed before
pub added_stopped : (taps : TapsState) (tap : Tap) (recorded captured : List ℕ) (traced : ℕ → List ℕ)
    → taps.failed ≡ Some tap → Adds taps taps recorded captured traced
added_stopped taps tap recorded captured traced some = record {
  params_are = refl;
  kept_is = refl;
  stays = λ none. none;
  to_record = subst (λ (f : Option Tap). AddsMore f taps.failed taps.recorded taps.recorded recorded) (sym some)
      (Appends-nil taps.recorded);
  to_capture = subst (λ (f : Option Tap). AddsMore f taps.failed taps.captured taps.captured captured) (sym some)
      (Appends-nil taps.captured);
  to_traces = λ n. subst
      (λ (f : Option Tap). AddsMore f taps.failed (traced_in taps.traced n) (traced_in taps.traced n) (traced n))
      (sym some) (Appends-nil (traced_in taps.traced n));
}

-- one text after another
pub added_then : (old mid new : TapsState) (one two : ℕ → List ℕ) → AddsEach old mid one → AddsEach mid new two
    → AddsEach old new (λ n. one n ++ two n)
added_then old mid new one two first second = record {
  params_are = second.params_are ∙ first.params_are;
  kept_is = second.kept_is ∙ first.kept_is;
  stays = λ none. first.stays (second.stays none);
  to_record = more_then old.failed mid.failed new.failed [] [] old.recorded mid.recorded new.recorded first.to_record
      second.to_record first.stays second.stays;
  to_capture = more_then old.failed mid.failed new.failed [] [] old.captured mid.captured new.captured
      first.to_capture second.to_capture first.stays second.stays;
  to_traces = λ n. more_then old.failed mid.failed new.failed (one n) (two n) (traced_in old.traced n)
      (traced_in mid.traced n) (traced_in new.traced n) (first.to_traces n) (second.to_traces n) first.stays
      second.stays;
}

-- a text was written to the capture, and then all files were flushed
pub header_flushed : (old mid new : TapsState) (text : List ℕ) → AddsBoth old mid [] text → AddsBoth mid new [] []
    → AddsBoth old new [] text
header_flushed old mid new text first second = record {
  params_are = second.params_are ∙ first.params_are;
  kept_is = second.kept_is ∙ first.kept_is;
  stays = λ none. first.stays (second.stays none);
  to_record = more_then old.failed mid.failed new.failed [] [] old.recorded mid.recorded new.recorded first.to_record
      second.to_record first.stays second.stays;
  to_capture = subst (AddsMore old.failed new.failed old.captured new.captured) (append-nil text)
      (more_then old.failed mid.failed new.failed text [] old.captured mid.captured new.captured first.to_capture
      second.to_capture first.stays second.stays);
  to_traces = λ n. more_then old.failed mid.failed new.failed [] [] (traced_in old.traced n)
      (traced_in mid.traced n) (traced_in new.traced n) (first.to_traces n) (second.to_traces n) first.stays
      second.stays;
}

-- the same texts
pub added_as : (old new : TapsState) (one two : ℕ → List ℕ) → ((n : ℕ) → one n ≡ two n) → AddsEach old new one
    → AddsEach old new two
added_as old new one two same adds = record {
  params_are = adds.params_are;
  kept_is = adds.kept_is;
  stays = adds.stays;
  to_record = adds.to_record;
  to_capture = adds.to_capture;
  to_traces = λ n. subst (AddsMore old.failed new.failed (traced_in old.traced n) (traced_in new.traced n)) (same n)
      (adds.to_traces n);
}

-- no text for a node
pub no_text : (m n : ℕ) → at_node m [] n ≡ []
no_text m n = by (eqb n m)
  where
    by : (b : Bool) → ◌≡◌ {A = List ℕ} (cond b [] []) []
    by true = refl
    by false = refl

-- no texts
pub added_none : (taps : TapsState) → AddsEach taps taps (λ n. [])
added_none taps = record {
  params_are = refl;
  kept_is = refl;
  stays = λ none. none;
  to_record = more_none taps.failed taps.failed taps.recorded;
  to_capture = more_none taps.failed taps.failed taps.captured;
  to_traces = λ n. more_none taps.failed taps.failed (traced_in taps.traced n);
}

-- ---- by the fields of the files

none_by : (failed : Option Tap) (b : Bool) → is_some failed ≡ not b → b ≡ true → failed ≡ None
none_by None b is so_is = refl
none_by (Some tap) b is so_is =
    let no : is_some (Some tap) ≡ false = is ∙ ap not so_is in absurd (let none : ⊥ = cc no in none)

module _ {F : Type 0} (contents : F → Option (List ℕ)) where
  abbrev pub files_of : List (Option (List ℕ)) → Parameters → Option Tap → Option F → Option F → List (Option F)
      → TapsState
  files_of lines p failed recorded captured traces = record {
    params = p;
    failed = failed;
    recorded = option_and_then contents recorded;
    captured = option_and_then contents captured;
    traced = map (option_and_then contents) traces;
    kept = lines;
  }

  -- a text was handed to a file that is there
  pub front_handed : (file : Option F) (writer new : F) (failed : Option Tap) (given text : List ℕ) → file ≡ Some writer
      → given ≡ text → AddsFront failed (contents writer) (contents new) given
      → AddsFront failed (option_and_then contents file) (contents new) text
  front_handed file writer new failed given text is same adds =
      subst (λ (o : Option F). AddsFront failed (option_and_then contents o) (contents new) text) (sym is)
      (subst (AddsFront failed (contents writer) (contents new)) same adds)

  -- the header was written
  pub header_added : (lines : List (Option (List ℕ))) (old : TapsState) (p : Parameters) (failed result : Option Tap)
      (recorded captured after : Option F) (traces : List (Option F))
      (b : Bool) → files_of lines p failed recorded captured traces ≡ old → is_some failed ≡ not b → b ≡ true
      → AddsFront result (option_and_then contents captured) (option_and_then contents after) file_header
      → AddsBoth old (files_of lines p result recorded after traces) [] file_header
  header_added lines old p failed result recorded captured after traces b is none so_is adds =
      subst (λ (t : TapsState). AddsBoth t (files_of lines p result recorded after traces) [] file_header) is
      (both_added (files_of lines p failed recorded captured traces)
      (files_of lines p result recorded after traces) [] file_header
      (none_by failed b none so_is) refl refl refl (front_none result (option_and_then contents recorded)) adds)

  -- both files were flushed
  pub flushed_added : (lines : List (Option (List ℕ))) (old : TapsState) (p : Parameters)
      (failed a b result : Option Tap)
      (recorded captured recorded' captured' : Option F) (traces : List (Option F))
      (t : Bool) → files_of lines p failed recorded captured traces ≡ old → is_some failed ≡ not t → t ≡ true
      → result ≡ first_failed a b
      → AddsFront a (option_and_then contents recorded) (option_and_then contents recorded') []
      → AddsFront b (option_and_then contents captured) (option_and_then contents captured') []
      → AddsBoth old (files_of lines p result recorded' captured' traces) [] []
  flushed_added lines old p failed a b result recorded captured recorded' captured' traces t is none so_is result_is
      first
      second =
      let start = files_of lines p failed recorded captured traces in
      let end = files_of lines p result recorded' captured' traces in
      subst (λ (x : TapsState). AddsBoth x end [] []) is
      (both_added start end [] [] (none_by failed t none so_is) refl refl refl
      (front_later a result start.recorded end.recorded [] first (λ no. first_none a b (sym result_is ∙ no)))
      (front_later b result start.captured end.captured [] second (λ no. second_none a b (sym result_is ∙ no))))

  -- a text was written to a trace
  pub trace_added : (lines : List (Option (List ℕ))) (old : TapsState) (p : Parameters) (failed result : Option Tap)
      (recorded captured : Option F)
      (traces after : List (Option F)) (b : Bool) (given place : ℕ) (text : List ℕ)
      → files_of lines p failed recorded captured traces ≡ old → is_some failed ≡ not b → b ≡ true → given ≡ place
      → AddsAt result (map (option_and_then contents) traces) (map (option_and_then contents) after) given text
      → AddsEach old (files_of lines p result recorded captured after) (at_node place text)
  trace_added lines old p failed result recorded captured traces after b given place text is none so_is same
      given_adds =
      let adds : AddsAt result (map (option_and_then contents) traces)
      (map (option_and_then contents) after) place text =
      subst (λ (n : ℕ). AddsAt result (map (option_and_then contents) traces)
      (map (option_and_then contents) after) n text) same given_adds in
      let start = files_of lines p failed recorded captured traces in
      let end = files_of lines p result recorded captured after in
      let free : start.failed ≡ None = none_by failed b none so_is in
      let by : AddsEach start end (at_node place text) = record {
        params_are = refl;
        kept_is = refl;
        stays = λ later. free;
        to_record = subst (λ (f : Option Tap). AddsMore f result start.recorded start.recorded []) (sym free)
            (front_none result start.recorded);
        to_capture = subst (λ (f : Option Tap). AddsMore f result start.captured start.captured []) (sym free)
            (front_none result start.captured);
        to_traces = λ n. subst (λ (f : Option Tap). AddsMore f result (traced_in start.traced n)
            (traced_in end.traced n) (at_node place text n)) (sym free) (adds n);
      } in
      subst (λ (t : TapsState). AddsEach t end (at_node place text)) is by

  -- a text was handed to the trace at this place
  pub handed_at : (traces : List F) (place : ℕ) (file new : F) (failed : Option Tap) (text : List ℕ)
      → place < length traces → file ≡ get_or traces place file
      → AddsFront failed (contents file) (contents new) text
      → AddsAt failed (map contents traces) (map contents (set traces place new)) place text
  handed_at traces place file new failed text within is adds n = by (eqb_tells n place)
    where
      before : List (Option (List ℕ))
      before = map contents traces

      after : List (Option (List ℕ))
      after = map contents (set traces place new)

      set_is : after ≡ set before place (contents new)
      set_is = map-set contents traces place new

      here : get_or before place None ≡ contents file
      here = get_or-map contents traces place file None within ∙ ap contents (sym is)

      there : get_or after place None ≡ contents new
      there = ap (λ (l : List (Option (List ℕ))). get_or l place None) set_is
          ∙ get_or-set_same before place (contents new) None (omega (arith, within, length-map traces contents))

      own : AddsFront failed (traced_in before place) (traced_in after place) text
      own = subst (λ (x : Option (List ℕ)). AddsFront failed x (traced_in after place) text) (sym here)
          (subst (λ (x : Option (List ℕ)). AddsFront failed (contents file) x text) (sym there) adds)

      by : ((eqb n place ≡ true) × (n ≡ place)) ⊎ ((eqb n place ≡ false) × (n ≢ place))
          → AddsFront failed (traced_in before n) (traced_in after n) (at_node place text n)
      by (inl (test, same)) =
          subst (λ (b : Bool). AddsFront failed (traced_in before n) (traced_in after n) (cond b text [])) (sym test)
          (subst (λ (m : ℕ). AddsFront failed (traced_in before m) (traced_in after m) text) (sym same) own)
      by (inr (test, other)) =
          let kept : get_or after n None ≡ get_or before n None =
          ap (λ (l : List (Option (List ℕ))). get_or l n None) set_is
          ∙ get_or-set_other before place n (contents new) None other in
          subst (λ (b : Bool). AddsFront failed (traced_in before n) (traced_in after n) (cond b text [])) (sym test)
          (subst (λ (x : Option (List ℕ)). AddsFront failed (traced_in before n) x []) (sym kept)
          (front_none failed (traced_in before n)))

  -- the trace at this place has no known bytes
  pub handed_unknown : (traces : List F) (place : ℕ) (failed : Option Tap) (text : List ℕ)
      → traced_in (map contents traces) place ≡ None
      → AddsAt failed (map contents traces) (map contents traces) place text
  handed_unknown traces place failed text none n = by (eqb_tells n place)
    where
      before : List (Option (List ℕ))
      before = map contents traces

      by : ((eqb n place ≡ true) × (n ≡ place)) ⊎ ((eqb n place ≡ false) × (n ≢ place))
          → AddsFront failed (traced_in before n) (traced_in before n) (at_node place text n)
      by (inl (test, same)) =
          subst (λ (x : Option (List ℕ)). AddsFront failed x x (at_node place text n))
          (sym (ap (traced_in before) same ∙ none)) (front_unknown failed None (at_node place text n))
      by (inr (test, other)) =
          subst (λ (b : Bool). AddsFront failed (traced_in before n) (traced_in before n) (cond b text [])) (sym test)
          (front_none failed (traced_in before n))

  -- there is no trace at this place
  pub handed_past : (traces : List F) (place : ℕ) (failed : Option Tap) (text : List ℕ) → length traces ≤ place
      → AddsAt failed (map contents traces) (map contents traces) place text
  handed_past traces place failed text past =
      handed_unknown traces place failed text
      (get_or_past (map contents traces) place None (omega (arith, past, length-map traces contents)))

  -- nothing came
  pub handed_none : (traces : List F) (place : ℕ) (tap : Tap) (text : List ℕ)
      → AddsAt (Some tap) (map contents traces) (map contents traces) place text
  handed_none traces place tap text n = (
    [],
    at_node place text n,
    refl,
    λ none. absurd (let no : ⊥ = cc none in no),
    Appends-nil (traced_in (map contents traces) n),
  )

  -- a window was written
  pub window_added : (lines : List (Option (List ℕ))) (old : TapsState) (p : Parameters)
      (failed a b result : Option Tap)
      (recorded captured recorded' captured' : Option F) (traces : List (Option F)) (scenario : Contents)
      (cycle begun : ℕ)
      (r : Recorded)
      (last : Option Recorded) (t : Bool) → files_of lines p failed recorded captured traces ≡ old → is_some failed
      ≡ not t
      → t ≡ true → scenario ≡ no_lines → cycle ≡ begun - 1 → Some r ≡ last → result ≡ first_failed a b
      → AddsFront a (option_and_then contents recorded) (option_and_then contents recorded')
      (window_text scenario p cycle r)
      → AddsFront b (option_and_then contents captured) (option_and_then contents captured') (window_records p cycle r)
      → WritesLast old begun last (files_of lines p result recorded' captured' traces)
  window_added lines old p failed a b result recorded captured recorded' captured' traces scenario cycle begun r last
      t is
      none so_is no_scenario cycle_is last_is result_is first second =
      let start = files_of lines p failed recorded captured traces in
      let end = files_of lines p result recorded' captured' traces in
      let lines : window_text scenario p cycle r ≡ record_last p begun (Some r) =
      ap₂ (λ (s : Contents) (n : ℕ). window_text s p n r) no_scenario cycle_is in
      let frames : window_records p cycle r ≡ capture_last p begun (Some r) =
      ap (λ (n : ℕ). window_records p n r) cycle_is in
      let to_record : AddsFront result start.recorded end.recorded (record_last p begun (Some r)) =
      front_later a result start.recorded end.recorded (record_last p begun (Some r))
      (subst (AddsFront a start.recorded end.recorded) lines first) (λ no. first_none a b (sym result_is ∙ no)) in
      let to_capture : AddsFront result start.captured end.captured (capture_last p begun (Some r)) =
      front_later b result start.captured end.captured (capture_last p begun (Some r))
      (subst (AddsFront b start.captured end.captured) frames second) (λ no. second_none a b (sym result_is ∙ no)) in
      subst (λ (o : Option Recorded). WritesLast old begun o end) last_is
      (subst (λ (x : TapsState). WritesLast x begun (Some r) end) is
      (both_added start end (record_last p begun (Some r)) (capture_last p begun (Some r))
      (none_by failed t none so_is) refl refl refl to_record to_capture))

-- ---- the scenario of a record

lines_none : IsScenarioText [] 1024 (codes "frscenario 3" ++ 10 ∷ codes "end" ++ 10 ∷ []) no_lines
lines_none = inr (record { version = refl; read = refl })

same_scenario : (s : Contents) → ◌≡◌ {A = Result Contents ScenarioError} (Ok s) (Ok no_lines)
    ⊎ ◌≡◌ {A = Result Contents ScenarioError} (Ok s) (Err error.Memory) → s ≡ no_lines
same_scenario s (inl same) = cc same
same_scenario s (inr other) = absurd (let none : ⊥ = cc other in none)

pub scenario_none : (text : List ℕ) (s : Contents)
    → text ≡ codes "frscenario 3" ++ 10 ∷ codes "end" ++ 10 ∷ []
    → ((x : Contents) → IsScenarioText [] 1024 text x
    → ◌≡◌ {A = Result Contents ScenarioError} (Ok s) (Ok x)
    ⊎ ◌≡◌ {A = Result Contents ScenarioError} (Ok s) (Err error.Memory)) → s ≡ no_lines
scenario_none text s is only =
    same_scenario s (only no_lines (subst (λ (t : List ℕ). IsScenarioText [] 1024 t no_lines) (sym is) lines_none))

-- ---- since a start

-- a text grows
pub beyond_more : (f g : Option Tap) (opening earlier all text : List ℕ) (start before after : Option (List ℕ))
    → HasBeyond f opening earlier start before all → AddsMore f g before after text → (g ≡ None → f ≡ None)
    → HasBeyond g opening earlier start after (all ++ text)
beyond_more f g opening earlier all text start before after has more stays =
    let (added, all_is, adds) = has in (
      added ++ text,
      ap (λ (l : List ℕ). l ++ text) all_is ∙ append_assoc earlier added text,
      subst (AddsFront g start after) (append_assoc opening added text)
          (front_more f g (opening ++ added) text start before after adds more stays),
    )

-- the same text
pub beyond_as : (f : Option Tap) (opening earlier all other : List ℕ) (start bytes : Option (List ℕ)) → all ≡ other
    → HasBeyond f opening earlier start bytes all → HasBeyond f opening earlier start bytes other
beyond_as f opening earlier all other start bytes is has =
    subst (λ (l : List ℕ). HasBeyond f opening earlier start bytes l) is has

-- all texts grow
pub told_more : (s : Start) (old new : TapsState) (w v : WorldState) (recorded captured : List ℕ)
    (traced : ℕ → List ℕ) → Adds old new recorded captured traced
    → record_of s.params v.bus.sealed ≡ record_of s.params w.bus.sealed ++ recorded
    → all_records s.params v.bus.sealed ≡ all_records s.params w.bus.sealed ++ captured
    → ((n : ℕ) → body_at v n ≡ body_at w n ++ traced n) → IsTold s old w → IsTold s new v
told_more s old new w v recorded captured traced adds record_grows capture_grows traces_grow is = record {
  params_are = adds.params_are ∙ is.params_are;
  recorded_are = beyond_as new.failed [] s.record_before (record_of s.params w.bus.sealed ++ recorded)
      (record_of s.params v.bus.sealed) s.recorded new.recorded (sym record_grows)
      (beyond_more old.failed new.failed [] s.record_before (record_of s.params w.bus.sealed) recorded s.recorded
      old.recorded new.recorded is.recorded_are adds.to_record adds.stays);
  captured_are = beyond_as new.failed file_header s.capture_before (all_records s.params w.bus.sealed ++ captured)
      (all_records s.params v.bus.sealed) s.captured new.captured (sym capture_grows)
      (beyond_more old.failed new.failed file_header s.capture_before (all_records s.params w.bus.sealed) captured
      s.captured old.captured new.captured is.captured_are adds.to_capture adds.stays);
  traces_are = λ n. beyond_as new.failed [] (s.trace_before n) (body_at w n ++ traced n) (body_at v n)
      (traced_in s.traced n) (traced_in new.traced n) (sym (traces_grow n))
      (beyond_more old.failed new.failed [] (s.trace_before n) (body_at w n) (traced n) (traced_in s.traced n)
      (traced_in old.traced n) (traced_in new.traced n) (is.traces_are n) (adds.to_traces n) adds.stays);
}

-- the files were flushed
pub told_flushed : (s : Start) (old new : TapsState) (w : WorldState) → AddsBoth old new [] [] → IsTold s old w
    → IsTold s new w
told_flushed s old new w adds is =
    told_more s old new w w [] [] (λ n. []) adds (sym (append-nil (record_of s.params w.bus.sealed)))
    (sym (append-nil (all_records s.params w.bus.sealed))) (λ n. sym (append-nil (body_at w n))) is

-- the header was written
pub told_begun : (old new : TapsState) (w : WorldState) → AddsBoth old new [] file_header → old.failed ≡ None
    → IsTold (start_of old w) new w
told_begun old new w adds none = record {
  params_are = adds.params_are;
  recorded_are = (
    [],
    sym (append-nil (record_of old.params w.bus.sealed)),
    subst (λ (f : Option Tap). AddsMore f new.failed old.recorded new.recorded []) none adds.to_record,
  );
  captured_are = (
    [],
    sym (append-nil (all_records old.params w.bus.sealed)),
    subst (λ (l : List ℕ). AddsFront new.failed old.captured new.captured l) (sym (append-nil file_header))
        (subst (λ (f : Option Tap). AddsMore f new.failed old.captured new.captured file_header) none adds.to_capture),
  );
  traces_are = λ n. (
    [],
    sym (append-nil (body_at w n)),
    subst (λ (f : Option Tap). AddsMore f new.failed (traced_in old.traced n) (traced_in new.traced n) []) none
        (adds.to_traces n),
  );
}

-- a file had failed before the header
pub told_stopped : (old new : TapsState) (w : WorldState) (tap : Tap) → AddsBoth old new [] file_header
    → old.failed ≡ Some tap → IsTold (start_of old w) new w
told_stopped old new w tap adds some = record {
  params_are = adds.params_are;
  recorded_are = (
    [],
    sym (append-nil (record_of old.params w.bus.sealed)),
    (
      [],
      [],
      refl,
      λ none. refl,
      subst (λ (f : Option Tap). AddsMore f new.failed old.recorded new.recorded []) some adds.to_record,
    ),
  );
  captured_are = (
    [],
    sym (append-nil (all_records old.params w.bus.sealed)),
    (
      [],
      file_header ++ [],
      refl,
      λ none. absurd (let no : ⊥ = cc (sym (adds.stays none) ∙ some) in no),
      subst (λ (f : Option Tap). AddsMore f new.failed old.captured new.captured file_header) some adds.to_capture,
    ),
  );
  traces_are = λ n. (
    [],
    sym (append-nil (body_at w n)),
    (
      [],
      [],
      refl,
      λ none. refl,
      subst (λ (f : Option Tap). AddsMore f new.failed (traced_in old.traced n) (traced_in new.traced n) []) some
          (adds.to_traces n),
    ),
  );
}

pub told_header : (old new : TapsState) (w : WorldState) → AddsBoth old new [] file_header
    → IsTold (start_of old w) new w
told_header old new w adds = by old.failed refl
  where
    by : (f : Option Tap) → old.failed ≡ f → IsTold (start_of old w) new w
    by None is = told_begun old new w adds is
    by (Some tap) is = told_stopped old new w tap adds is

-- ---- a window that is sealed

collects_now : (b : BusState) → seal_refusal b ≡ None → collects b.phase ≡ true
collects_now b = by (collects b.phase) (cond (not (all_put b)) (Some NotAllPut) None)
  where
    by : (c : Bool) (rest : Option BusError) → cond (not c) (Some NotCollecting) rest ≡ None → c ≡ true
    by true rest free = refl
    by false rest free = absurd (let none : ⊥ = cc free in none)

window_open : (b : BusState) (phase : Phase) → b.phase ≡ phase → collects b.phase ≡ true → Stands b.phase b
    → is_some b.opened ≡ true
window_open b Collect is now stands = (subst (λ (p : Phase). Stands p b) is stands).1
window_open b InSealed is now stands = (subst (λ (p : Phase). Stands p b) is stands).1
window_open b Finished is now stands =
    let not_now : collects b.phase ≡ false = ap collects is in absurd (let none : ⊥ = cc (sym now ∙ not_now) in none)

seals_one : (b : BusState) (opened : Option Opportunity) → b.opened ≡ opened → is_some b.opened ≡ true
    → (made : Recorded) × ((sealed_with b b.opened).sealed ≡ b.sealed ++ made ∷ [])
seals_one b None is some =
    let none_is : is_some b.opened ≡ false = ap (λ (o : Option Opportunity). is_some o) is in
    absurd (let none : ⊥ = cc (sym some ∙ none_is) in none)
seals_one b (Some w) is some = (outcome_of b w, ap (λ (o : Option Opportunity). (sealed_with b o).sealed) is)

none_of : {E F : Type 0} (f : E → F) (o : Option E) → option_map f o ≡ None → o ≡ None
none_of f None e = refl
none_of f (Some x) e = absurd (let none : ⊥ = cc in none)

-- a seal that is accepted adds a window to the record
pub seals_window : (l : LiveState) (w v : WorldState) (reply : Reply) → IsWorldHistory l w → Steps w Seal (Ok reply) v
    → (made : Recorded) × (v.bus.sealed ≡ w.bus.sealed ++ made ∷ [])
seals_window l w v reply is step =
    let run = is.leads.bus_is.of_bus.run in
    let free : seal_refusal w.bus ≡ None = none_of Bus (seal_refusal w.bus) step.0 in
    let open_is = window_open w.bus w.bus.phase refl (collects_now w.bus free) run.stands in
    let (made, sealed) = seals_one w.bus w.bus.opened refl open_is in
    (made, ap (λ (u : WorldState). u.bus.sealed) step.2 ∙ sealed)

last_of : (xs : List Recorded) (x : Recorded) → slice_get (xs ++ x ∷ []) (length (xs ++ x ∷ []) - 1) ≡ Some x
last_of xs x =
    let many = length-append xs (x ∷ []) in
    let place : length (xs ++ x ∷ []) - 1 ≡ length xs = omega (arith, many) in
    ap (slice_get (xs ++ x ∷ [])) place ∙ get-after xs [] x

-- the kept data have this window, and the number of its cycle
pub record_grows : (p : Parameters) (m : LiveState) (w v : WorldState) (made : Recorded)
    → v.bus.sealed ≡ w.bus.sealed ++ made ∷ [] → IsWorldHistory m v
    → record_of p v.bus.sealed ≡ record_of p w.bus.sealed ++ record_last p m.bus.bus.course.begun m.bus.last
record_grows p m w v made grows is =
    let last : m.bus.last ≡ Some made =
    sym (last_same m v is) ∙ ap (λ (rs : List Recorded). slice_get rs (length rs - 1)) grows
    ∙ last_of w.bus.sealed made in
    let begun : cycles_begun (w.bus.sealed ++ made ∷ []) ≡ m.bus.bus.course.begun =
    ap cycles_begun (sym grows) ∙ begun_same m v is in
    ap (record_of p) grows ∙ each_after-snoc (said_after (window_text no_lines p)) w.bus.sealed made
    ∙ ap (λ (n : ℕ). record_of p w.bus.sealed ++ window_text no_lines p (n - 1) made) begun
    ∙ ap (λ (o : Option Recorded). record_of p w.bus.sealed ++ record_last p m.bus.bus.course.begun o) (sym last)

pub capture_grows : (p : Parameters) (m : LiveState) (w v : WorldState) (made : Recorded)
    → v.bus.sealed ≡ w.bus.sealed ++ made ∷ [] → IsWorldHistory m v
    → all_records p v.bus.sealed ≡ all_records p w.bus.sealed ++ capture_last p m.bus.bus.course.begun m.bus.last
capture_grows p m w v made grows is =
    let last : m.bus.last ≡ Some made =
    sym (last_same m v is) ∙ ap (λ (rs : List Recorded). slice_get rs (length rs - 1)) grows
    ∙ last_of w.bus.sealed made in
    let begun : cycles_begun (w.bus.sealed ++ made ∷ []) ≡ m.bus.bus.course.begun =
    ap cycles_begun (sym grows) ∙ begun_same m v is in
    ap (all_records p) grows ∙ each_after-snoc (said_after (window_records p)) w.bus.sealed made
    ∙ ap (λ (n : ℕ). all_records p w.bus.sealed ++ window_records p (n - 1) made) begun
    ∙ ap (λ (o : Option Recorded). all_records p w.bus.sealed ++ capture_last p m.bus.bus.course.begun o) (sym last)

-- ---- other events

put_keeps : (w : WorldState) (n : ℕ) (c : Carried) → (put_on_bus w n c).bus.sealed ≡ w.bus.sealed
put_keeps w n Idle = refl
put_keeps w n (Knows x) = refl
put_keeps w n (Offers x o) = refl
put_keeps w n (Waits x) = refl
put_keeps w n (Took x p q) = refl

looked_keeps : (w : WorldState) (n : ℕ) (opened : Option Opportunity) → (looked w n opened).bus.sealed ≡ w.bus.sealed
looked_keeps w n None = refl
looked_keeps w n (Some x) = refl

fetched_keeps : (w : WorldState) (n : ℕ) (c : Carried) → (fetched w n c).bus.sealed ≡ w.bus.sealed
fetched_keeps w n Idle = refl
fetched_keeps w n (Knows x) = refl
fetched_keeps w n (Offers x o) = refl
fetched_keeps w n (Waits x) = refl
fetched_keeps w n (Took x p q) = refl

taken_keeps : (w : WorldState) (n : ℕ) (c : Carried) → (taken w n c).bus.sealed ≡ w.bus.sealed
taken_keeps w n Idle = refl
taken_keeps w n (Knows x) = refl
taken_keeps w n (Offers x o) = refl
taken_keeps w n (Waits x) = refl
taken_keeps w n (Took x p q) = refl

observed_keeps : (w : WorldState) (n : ℕ) (c : Carried) → (observed w n c).bus.sealed ≡ w.bus.sealed
observed_keeps w n Idle = refl
observed_keeps w n (Knows x) = refl
observed_keeps w n (Offers x o) = refl
observed_keeps w n (Waits x) = refl
observed_keeps w n (Took x p q) = refl

injected_keeps : (b : BusState) (fault : Fault) → (inject_done b fault).sealed ≡ b.sealed
injected_keeps b (Babble node channel bytes) = refl
injected_keeps b (Mute node channel) = refl
injected_keeps b (Corrupt A bit) = refl
injected_keeps b (Corrupt B bit) = refl

-- an event that is no seal keeps the record
pub done_keeps : (w : WorldState) (event : Event) → is_seal event ≡ false
    → (step_done w event).bus.sealed ≡ w.bus.sealed
done_keeps w (Commit n task buffer payload) other = refl
done_keeps w (Withdraw n task buffer) other = refl
done_keeps w (Read n task buffer) other = refl
done_keeps w (Pop n task) other = refl
done_keeps w (Look n) other = looked_keeps w n (collecting_of w.bus)
done_keeps w (Fetch n) other = fetched_keeps w n (carried_at w n)
done_keeps w (Put n) other = put_keeps w n (carried_at w n)
done_keeps w (Take n) other = taken_keeps w n (carried_at w n)
done_keeps w (Observe n) other = observed_keeps w n (carried_at w n)
done_keeps w (Inject fault) other = injected_keeps w.bus fault
done_keeps w Seal other = absurd (let none : ⊥ = cc in none)
done_keeps w Advance other = refl
