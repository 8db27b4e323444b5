-- The files to which a session writes the windows that it seals and the traces of the nodes, and what they have of them
-- (project-defined).
use Rattle.std.specs.Prelude.{◌≡◌, ℕ, ◌-◌, ◌==◌, Bool, true, false, List, [], ◌++◌, Option, Some, None}
use Rattle.std.specs.Prelude.{if◌then◌else◌, length, slice_get, slice_index_or}
use Rattle.std.specs.Io.KnownBytes.{Appends}
use Rattle.fr_auditing.specs.LongText.{long_begin_text, long_body_text}
use Rattle.fr_bus.specs.Record.{Recorded}
use Rattle.fr_capture.specs.Pcap.{file_header}
use Rattle.fr_core.specs.declared.event.Event.{Event}
use Rattle.fr_core.specs.declared.event.Event.TheVariants.{Commit, Withdraw, Read, Pop, Look, Fetch, Put, Take}
use Rattle.fr_core.specs.declared.event.Event.TheVariants.{Observe, Inject, Seal, Advance}
use Rattle.fr_core.specs.Worlds.{WorldState, interface_at}
use Rattle.fr_endless.specs.declared.taps.Tap.{Tap}
use Rattle.fr_endless.specs.Kept.{HoldsLast, KeepsLast}
use Rattle.fr_lines.specs.Spelling.{end_line, line_feed}
use Rattle.fr_live.specs.LiveWorlds.{Entries, LiveState, IsWorldHistory}
use Rattle.fr_schedule.specs.Descriptions.{Description}
use Rattle.fr_scenario.specs.Contents.{Contents}
use Rattle.fr_scenario.specs.RunContents.{run_contents}
use Rattle.fr_showing.specs.Listening.{all_records, window_records}
use Rattle.fr_showing.specs.RecordText.{record_text, window_text}
use Rattle.fr_slots.specs.Parameters.{Parameters}
use Rattle.fr_slots.specs.Plans.{Plan, with_limits}

-- ---- the texts

-- the contents of a scenario without a line
abbrev pub no_lines : Contents
no_lines = run_contents 1024 []

-- The record of some windows, as `fr_view record` has it. No fault comes from a line of a scenario, so a dash stands
-- where the number of one would.
abbrev pub record_of : Parameters → List Recorded → List ℕ
record_of p rs = record_text no_lines p rs

-- what the record has of the window that was sealed last, when so many cycles have begun
abbrev pub record_last : Parameters → ℕ → Option Recorded → List ℕ
record_last p begun None = []
record_last p begun (Some r) = window_text no_lines p (begun - 1) r

-- what the capture has of it
abbrev pub capture_last : Parameters → ℕ → Option Recorded → List ℕ
capture_last p begun None = []
capture_last p begun (Some r) = window_records p (begun - 1) r

-- the trace of a node, without its last line
abbrev pub body_at : WorldState → ℕ → List ℕ
body_at w n = long_body_text (interface_at w n)

-- the last line of a trace
abbrev pub last_line : List ℕ
last_line = end_line ++ line_feed

-- the lines of a trace before its entries, for a journal with this room
abbrev pub head_of : Parameters → Entries → Plan → List ℕ
head_of params room plan = long_begin_text params (with_limits plan room.host room.slot)

abbrev pub head_with : Parameters → Entries → Option Plan → List ℕ
head_with params room None = []
head_with params room (Some plan) = head_of params room plan

-- the same of each node of a cluster

abbrev pub head_at : Description → Entries → ℕ → List ℕ
head_at d room n = head_with d.params room (slice_get d.plans n)

-- a text for one node
abbrev pub at_node : ℕ → List ℕ → ℕ → List ℕ
at_node node text n = if n == node then text else []

-- ---- the files

pub record TapsState : Type 0 where
  -- the parameters of the cluster
  pub params : Parameters
  -- the file that failed first
  pub failed : Option Tap
  -- The bytes that were written to the record and to the capture, if they are known. Of an absent file none are known.
  pub recorded : Option (List ℕ)
  pub captured : Option (List ℕ)
  -- the same of the traces, in the order of the nodes
  pub traced : List (Option (List ℕ))
  -- the lines of the record for the windows that were sealed last, each at the place of its number
  pub kept : List (Option (List ℕ))

-- the same files, with other lines
abbrev pub with_kept : TapsState → List (Option (List ℕ)) → TapsState
with_kept taps kept = record {
  params = taps.params;
  failed = taps.failed;
  recorded = taps.recorded;
  captured = taps.captured;
  traced = taps.traced;
  kept = kept;
}

-- the bytes that were written to the trace of a node, if there is one and they are known
abbrev pub traced_in : List (Option (List ℕ)) → ℕ → Option (List ℕ)
traced_in traced n = slice_index_or traced n None

-- the first of both files that failed
abbrev pub first_failed : Option Tap → Option Tap → Option Tap
first_failed (Some tap) second = Some tap
first_failed None second = second

-- ---- a text that is added to a file

-- a front of the text is added, which is all of it unless a file has failed by then
abbrev pub AddsFront : Option Tap → Option (List ℕ) → Option (List ℕ) → List ℕ → Type 0
AddsFront failed before after text =
    (front : List ℕ) × (rest : List ℕ) × (text ≡ front ++ rest) × (failed ≡ None → rest ≡ [])
    × Appends before after front

-- a front of the text is added, unless a file had failed before
abbrev pub AddsMore : Option Tap → Option Tap → Option (List ℕ) → Option (List ℕ) → List ℕ → Type 0
AddsMore None failed before after text = AddsFront failed before after text
AddsMore (Some tap) failed before after text = Appends before after []

-- these texts are added to the record, to the capture and to the trace of each node; a failure stays
pub record Adds (old new : TapsState) (recorded captured : List ℕ) (traced : ℕ → List ℕ) : Type 0 where
  pub params_are : new.params ≡ old.params
  pub kept_is : new.kept ≡ old.kept
  pub stays : new.failed ≡ None → old.failed ≡ None
  pub to_record : AddsMore old.failed new.failed old.recorded new.recorded recorded
  pub to_capture : AddsMore old.failed new.failed old.captured new.captured captured
  pub to_traces : (n : ℕ) → AddsMore old.failed new.failed (traced_in old.traced n) (traced_in new.traced n) (traced n)

-- these texts are added to the record and to the capture, and nothing to a trace
abbrev pub AddsBoth : TapsState → TapsState → List ℕ → List ℕ → Type 0
AddsBoth old new recorded captured = Adds old new recorded captured (λ n. [])

-- a text is added to the trace of each node, and nothing to the record and the capture
abbrev pub AddsEach : TapsState → TapsState → (ℕ → List ℕ) → Type 0
AddsEach old new traced = Adds old new [] [] traced

-- a text is added to one of the traces, if there is that one
abbrev pub AddsAt : Option Tap → List (Option (List ℕ)) → List (Option (List ℕ)) → ℕ → List ℕ → Type 0
AddsAt failed before after node text =
    (n : ℕ) → AddsFront failed (traced_in before n) (traced_in after n) (at_node node text n)

-- the gathered line is this text, if there is a line
abbrev pub IsLine : Option (List ℕ) → List ℕ → Type 0
IsLine None text = Unit {0}
IsLine (Some line) text = line ≡ text

-- both files get what they have of the window that was sealed last
abbrev pub WritesLast : TapsState → ℕ → Option Recorded → TapsState → Type 0
WritesLast old begun last new =
    AddsBoth old new (record_last old.params begun last) (capture_last old.params begun last)

-- the lines of this window are kept
abbrev pub KeepsWindow : TapsState → Option Recorded → TapsState → Type 0
KeepsWindow old last new =
    (kept : List (Option (List ℕ))) × KeepsLast old.kept last kept × (new ≡ with_kept old kept)

-- so are they, and then both files get what they have of the window
abbrev pub AddsLast : TapsState → ℕ → Option Recorded → TapsState → Type 0
AddsLast old begun last new =
    (kept : List (Option (List ℕ))) × KeepsLast old.kept last kept × WritesLast (with_kept old kept) begun last new

-- ---- what the files have of a way from a world to another

-- The start of a way: the parameters, the bytes of each file, the texts of the windows that were sealed by then and of
-- the traces, and the number of windows whose lines are kept.
pub record Start : Type 0 where
  pub params : Parameters
  pub recorded : Option (List ℕ)
  pub captured : Option (List ℕ)
  pub traced : List (Option (List ℕ))
  pub record_before : List ℕ
  pub capture_before : List ℕ
  pub trace_before : ℕ → List ℕ
  -- the number of windows whose lines are kept
  pub keep : ℕ

abbrev pub start_of : TapsState → WorldState → Start
start_of taps w = record {
  params = taps.params;
  recorded = taps.recorded;
  captured = taps.captured;
  traced = taps.traced;
  record_before = record_of taps.params w.bus.sealed;
  capture_before = all_records taps.params w.bus.sealed;
  trace_before = λ n. body_at w n;
  keep = length taps.kept;
}

-- With this opening, the file has what a text has beyond an earlier one. If a file has failed, it has a front of that.
abbrev pub HasBeyond : Option Tap → List ℕ → List ℕ → Option (List ℕ) → Option (List ℕ) → List ℕ → Type 0
HasBeyond failed opening earlier before after text =
    (added : List ℕ) × (text ≡ earlier ++ added) × AddsFront failed before after (opening ++ added)

-- Since the start, the windows of the world beyond those of the start were written to the record and the capture, after
-- the header of a capture. The trace of each node got the lines of its entries beyond those of the start.
pub record IsTold (s : Start) (taps : TapsState) (w : WorldState) : Type 0 where
  pub params_are : taps.params ≡ s.params
  pub recorded_are : HasBeyond taps.failed [] s.record_before s.recorded taps.recorded (record_of s.params w.bus.sealed)
  pub captured_are : HasBeyond taps.failed file_header s.capture_before s.captured taps.captured
      (all_records s.params w.bus.sealed)
  pub traces_are : (n : ℕ) → HasBeyond taps.failed [] (s.trace_before n) (traced_in s.traced n)
      (traced_in taps.traced n) (body_at w n)

-- From this world to that one, the files got the record and the capture of the windows that were sealed on the way, and
-- the traces of the entries that were added on the way.
abbrev pub Tells : TapsState → TapsState → WorldState → WorldState → Type 0
Tells old new w v = IsTold (start_of old w) new v

-- The file has what a trace has beyond an earlier one, and its last line. If a file has failed, it has a front of that.
abbrev pub HasRest : Option Tap → List ℕ → Option (List ℕ) → Option (List ℕ) → List ℕ → Type 0
HasRest failed earlier before after body =
    (added : List ℕ) × (body ≡ earlier ++ added) × AddsFront failed before after (added ++ last_line)

-- the same, and then the traces were ended
pub record IsToldWhole (s : Start) (taps : TapsState) (w : WorldState) : Type 0 where
  pub params_are : taps.params ≡ s.params
  pub recorded_are : HasBeyond taps.failed [] s.record_before s.recorded taps.recorded (record_of s.params w.bus.sealed)
  pub captured_are : HasBeyond taps.failed file_header s.capture_before s.captured taps.captured
      (all_records s.params w.bus.sealed)
  pub traces_are : (n : ℕ) → HasRest taps.failed (s.trace_before n) (traced_in s.traced n) (traced_in taps.traced n)
      (body_at w n)

abbrev pub TellsWhole : TapsState → TapsState → WorldState → WorldState → Type 0
TellsWhole old new w v = IsToldWhole (start_of old w) new v

-- ---- a world without history, and its files

pub record ToldState : Type 0 where
  pub live : LiveState
  pub taps : TapsState

-- of all events a seal alone adds a window to the record
abbrev pub is_seal : Event → Bool
is_seal (Commit n task buffer payload) = false
is_seal (Withdraw n task buffer) = false
is_seal (Read n task buffer) = false
is_seal (Pop n task) = false
is_seal (Look n) = false
is_seal (Fetch n) = false
is_seal (Put n) = false
is_seal (Take n) = false
is_seal (Observe n) = false
is_seal (Inject fault) = false
is_seal Seal = true
is_seal Advance = false

abbrev pub with_taps : LiveState → TapsState → ToldState
with_taps live taps = record { live = live; taps = taps }

-- a world that leads to the data, of which the files were told since the start, and whose last windows' lines are kept
pub record IsToldHistory (s : Start) (t : ToldState) (w : WorldState) : Type 0 where
  pub leads : IsWorldHistory t.live w
  pub is_told : IsTold s t.taps w
  pub holds : HoldsLast t.taps.kept w.bus.sealed
  pub keep_is : length t.taps.kept ≡ s.keep

-- Each world that leads to the data before a call is in this relation to one that leads to the data after it, and the
-- files get what is sealed on the way.
abbrev pub ToldAlike : ToldState → (WorldState → WorldState → Type 0) → ToldState → Type 0
ToldAlike old Relates new =
    (s : Start) (w : WorldState) → IsToldHistory s old w
    → (v : WorldState) × Relates w v × IsToldHistory s new v

-- the same, if the lines of so many windows are kept
abbrev pub ToldBy : ℕ → ToldState → (WorldState → WorldState → Type 0) → ToldState → Type 0
ToldBy keep old Relates new =
    (s : Start) (w : WorldState) → IsToldHistory s old w → s.keep ≡ keep
    → (v : WorldState) × Relates w v × IsToldHistory s new v
