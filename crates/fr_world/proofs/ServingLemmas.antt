-- The room of a session with history, and a session without history, with the world that it opens.
use Rattle.std.proofs.Common.{◌≡◌, ◌<◌, ℕ, zero, suc, List, [], ◌∷◌, ◌++◌, length, map, Option, Some, None, Result, Ok}
use Rattle.std.proofs.Common.{Err, refl, sym, ap, ◌∙◌, subst, append-nil, append_assoc, arith}
use Rattle.std.specs.Option.{option_and_then}
use Rattle.std.specs.Prelude.{slice_get, slice_index_or}
use Rattle.fr_auditing.specs.LongText.{long_body_text, long_text}
use Rattle.fr_bus.specs.declared.error.BusError.{BusError}
use Rattle.fr_core.specs.Scripts.{Scripted}
use Rattle.fr_endless.specs.Alike.{Alike}
use Rattle.fr_capture.specs.Pcap.{file_header}
use Rattle.fr_core.specs.Worlds.{WorldState, interface_at, new_interface, no_interface}
use Rattle.fr_endless.proofs.SessionLemmas.{ends_unopened}
use Rattle.fr_endless.proofs.TapLemmas.{front_longer, front_more}
use Rattle.fr_endless.specs.declared.error.EndlessError.{EndlessError}
use Rattle.fr_endless.specs.declared.error.EndlessError.TheVariants as ending
use Rattle.fr_endless.specs.declared.taps.Tap.{Tap}
use Rattle.fr_endless.specs.Serving.{EndsEndless, FailedBy, ServedEndless, TellsUnless, endless_terms}
use Rattle.fr_endless.specs.Taps.{AddsEach, AddsFront, AddsMore, TapsState, Tells, TellsWhole, body_at, head_at}
use Rattle.fr_endless.specs.Taps.{head_with, last_line, record_of, traced_in}
use Rattle.fr_live.specs.LiveWorlds.{Entries, LiveState, OpensLiveWorld}
use Rattle.fr_runs.specs.declared.check.RunRefusal.{RunRefusal}
use Rattle.fr_runs.specs.declared.check.RunRefusal.TheVariants.{BadCycles, BadScript, BadFault, NoRoom}
use Rattle.fr_runs.specs.declared.fault_line.FaultLine.{FaultLine}
use Rattle.fr_runs.specs.Refusing.{Refuses}
use Rattle.fr_schedule.specs.Descriptions.{Description}
use Rattle.fr_session.specs.declared.error.SessionError.{SessionError}
use Rattle.fr_session.specs.declared.error.SessionError.TheVariants.{Read, Write, Memory}
use Rattle.fr_showing.specs.Listening.{all_records, capture_of}
use Rattle.fr_slots.specs.History.{each_after}
use Rattle.fr_slots.specs.Parameters.{Parameters}
use Rattle.fr_slots.specs.Plans.{Plan, with_limits}
use Rattle.fr_world.specs.declared.failure.WorldFailure.TheVariants as failure
use Rattle.fr_world.specs.Serving.{HasAll, HasBegun, HasBegunUnless, HasWindows, IsFullNode, ServesLive}
use Rattle.fr_world.specs.Serving.{endless_world, failure_of, greatest_room, node_named}

-- ---- the room of journals

bare : (d : Description) (cycles : ℕ) (r : Option RunRefusal) → Refuses d [] [] cycles r
    → IsFullNode d cycles (option_and_then node_named r)
bare d cycles None refuses = λ fit n. refuses.3 n
bare d cycles (Some BadCycles) refuses = λ fit n. cc (sym fit ∙ refuses)
bare d cycles (Some (BadScript i)) refuses = λ fit n. absurd (refuses.1.fails tt)
bare d cycles (Some (BadFault i)) refuses = λ fit n. absurd (refuses.2.fails tt)
bare d cycles (Some (NoRoom n)) refuses = (refuses.0, refuses.3)

pub full_told : (d : Description) (cycles : ℕ) (scripts : List Scripted) (faults : List FaultLine)
    (r : Option RunRefusal) → scripts ≡ [] → faults ≡ [] → Refuses d scripts faults cycles r
    → IsFullNode d cycles (option_and_then node_named r)
full_told d cycles scripts faults r none nothing refuses =
    bare d cycles r (subst (λ (l : List FaultLine). Refuses d [] l cycles r) nothing
    (subst (λ (l : List Scripted). Refuses d l faults cycles r) none refuses))

-- ---- without history

-- what was added to no failed file
more_free : (f g : Option Tap) (before after : Option (List ℕ)) (text : List ℕ) → f ≡ None
    → AddsMore f g before after text → AddsFront g before after text
more_free f g before after text none adds =
    subst (λ (o : Option Tap). AddsMore o g before after text) none adds

-- one text after another that is whole
front_then : (f g : Option Tap) (one two : List ℕ) (before mid after : Option (List ℕ)) → f ≡ None
    → AddsFront f before mid one → AddsFront g mid after two → AddsFront g before after (one ++ two)
front_then f g one two before mid after none first second =
    front_more None g one two before mid after
    (subst (λ (o : Option Tap). AddsFront o before mid one) none first) second (λ free. refl)

-- what was added by then, if a file failed
more_failed : (f g : Option Tap) (tap : Tap) (before after : Option (List ℕ)) (text : List ℕ) → g ≡ Some tap
    → AddsMore f g before after text → AddsFront g before after text
more_failed None g tap before after text some adds = adds
more_failed (Some other) g tap before after text some adds =
    ([], text, refl, λ none. absurd (let no : ⊥ = cc (sym none ∙ some) in no), adds)

-- the first lines of a trace are all that it has of the opening world
head_is : (params : Parameters) (room : Entries) (ps : List Plan) (n : ℕ) → n < length ps
    → long_body_text (slice_index_or (map (new_interface params)
    (map (λ (p : Plan). with_limits p room.host room.slot) ps)) n no_interface)
    ≡ head_with params room (slice_get ps n) ++ []
head_is params room [] n within = absurd (let none : ⊥ = omega (arith, within) in none)
head_is params room (p ∷ ps) zero within = refl
head_is params room (p ∷ ps) (suc n) within = head_is params room ps n (omega (arith, within))

module _ (d : Description) (cycles : ℕ) (old mid new : TapsState) (heads : AddsEach old mid (head_at d greatest_room))
  where
    abbrev pub opening : WorldState
    opening = endless_world d cycles

    body_is : (n : ℕ) → n < length d.plans → body_at opening n ≡ head_at d greatest_room n
    body_is n within = head_is d.params greatest_room d.plans n within ∙ append-nil (head_at d greatest_room n)

    -- ---- the first lines were written

    module _ (free : mid.failed ≡ None) where
      open_first : old.failed ≡ None
      open_first = heads.stays free

      head_whole : (n : ℕ) → AddsFront mid.failed (traced_in old.traced n) (traced_in mid.traced n)
          (head_at d greatest_room n)
      head_whole n = more_free old.failed mid.failed (traced_in old.traced n) (traced_in mid.traced n)
          (head_at d greatest_room n) open_first (heads.to_traces n)

      -- from an opening world, whose record is empty, the files get the texts of the whole record
      windows_of : (v : WorldState) (added frames : List ℕ)
          → record_of mid.params v.bus.sealed ≡ record_of mid.params opening.bus.sealed ++ added
          → AddsFront new.failed mid.recorded new.recorded added
          → all_records mid.params v.bus.sealed ≡ all_records mid.params opening.bus.sealed ++ frames
          → AddsFront new.failed mid.captured new.captured (file_header ++ frames) → HasWindows old new v
      unfolding each_after
      windows_of v added frames record_is to_record capture_is to_capture =
          let recorded : AddsFront new.failed old.recorded new.recorded (record_of mid.params v.bus.sealed) =
          subst (AddsFront new.failed old.recorded new.recorded) (sym record_is)
          (front_then mid.failed new.failed [] added old.recorded mid.recorded new.recorded free
          (more_free old.failed mid.failed old.recorded mid.recorded [] open_first heads.to_record) to_record) in
          let captured : AddsFront new.failed old.captured new.captured (capture_of mid.params v.bus.sealed) =
          subst (λ (l : List ℕ). AddsFront new.failed old.captured new.captured (file_header ++ l)) (sym capture_is)
          (front_then mid.failed new.failed [] (file_header ++ frames) old.captured mid.captured new.captured free
          (more_free old.failed mid.failed old.captured mid.captured [] open_first heads.to_capture) to_capture) in (
            subst (λ (p : Parameters). AddsFront new.failed old.recorded new.recorded (record_of p v.bus.sealed))
                heads.params_are recorded,
            subst (λ (p : Parameters). AddsFront new.failed old.captured new.captured (capture_of p v.bus.sealed))
                heads.params_are captured,
          )

      -- the whole traces
      pub all_of : (v : WorldState) → TellsWhole mid new opening v → HasAll d old new v
      all_of v tells =
          let (added, record_is, to_record) = tells.recorded_are in
          let (frames, capture_is, to_capture) = tells.captured_are in
          (windows_of v added frames record_is to_record capture_is to_capture, λ n within. whole n within)
        where
          whole : (n : ℕ) → n < length d.plans → AddsFront new.failed (traced_in old.traced n) (traced_in new.traced n)
              (long_text (interface_at v n))
          whole n within =
              let (more, more_is, front) = tells.traces_are n in
              let head = head_at d greatest_room n in
              let text : head ++ (more ++ last_line) ≡ long_text (interface_at v n) =
              sym (append_assoc head more last_line)
              ∙ ap (λ (l : List ℕ). (l ++ more) ++ last_line) (sym (body_is n within))
              ∙ ap (λ (l : List ℕ). l ++ last_line) (sym more_is) in
              subst (AddsFront new.failed (traced_in old.traced n) (traced_in new.traced n)) text
              (front_then mid.failed new.failed head (more ++ last_line) (traced_in old.traced n)
              (traced_in mid.traced n) (traced_in new.traced n) free (head_whole n) front)

      -- the traces without their last lines
      begun_of : (v : WorldState) → Tells mid new opening v → HasBegun d old new v
      begun_of v tells =
          let (added, record_is, to_record) = tells.recorded_are in
          let (frames, capture_is, to_capture) = tells.captured_are in
          (windows_of v added frames record_is to_record capture_is to_capture, λ n within. body n within)
        where
          body : (n : ℕ) → n < length d.plans → AddsFront new.failed (traced_in old.traced n) (traced_in new.traced n)
              (long_body_text (interface_at v n))
          body n within =
              let (more, more_is, front) = tells.traces_are n in
              let head = head_at d greatest_room n in
              let text : head ++ more ≡ long_body_text (interface_at v n) =
              ap (λ (l : List ℕ). l ++ more) (sym (body_is n within)) ∙ sym more_is in
              subst (AddsFront new.failed (traced_in old.traced n) (traced_in new.traced n)) text
              (front_then mid.failed new.failed head more (traced_in old.traced n)
              (traced_in mid.traced n) (traced_in new.traced n) free (head_whole n) front)

      pub begun_unless : (v : WorldState) (error : SessionError)
          → TellsUnless (ending.Session error) mid new opening v
          → FailedBy {A = Unit {0}} (Err (ending.Session error)) mid.failed new.failed
          → HasBegunUnless d error old new v
      begun_unless v Read tells failed = (begun_of v tells, failed)
      begun_unless v Write tells failed = (begun_of v tells, failed)
      begun_unless v Memory tells failed =
          subst (λ (t : TapsState). AddsEach old t (head_at d greatest_room)) (sym tells) heads

    -- ---- the first lines weren't written

    pub unopened_of : (tap : Tap) → mid.failed ≡ Some tap → HasAll d old mid opening
    unfolding each_after
    unopened_of tap some = (
      (
        more_failed old.failed mid.failed tap old.recorded mid.recorded [] some heads.to_record,
        front_longer mid.failed tap [] (capture_of old.params []) old.captured mid.captured some
            (more_failed old.failed mid.failed tap old.captured mid.captured [] some heads.to_capture),
      ),
      λ n within. by n within,
    )
      where
        by : (n : ℕ) → n < length d.plans → AddsFront mid.failed (traced_in old.traced n) (traced_in mid.traced n)
            (long_text (interface_at opening n))
        by n within =
            subst (λ (l : List ℕ). AddsFront mid.failed (traced_in old.traced n) (traced_in mid.traced n)
            (l ++ last_line)) (sym (body_is n within))
            (front_longer mid.failed tap (head_at d greatest_room n) last_line (traced_in old.traced n)
            (traced_in mid.traced n) some
            (more_failed old.failed mid.failed tap (traced_in old.traced n) (traced_in mid.traced n)
            (head_at d greatest_room n) some (heads.to_traces n)))

pub room_as : (old mid : TapsState) (d : Description) (room : Entries) → room ≡ greatest_room
    → AddsEach old mid (head_at d room) → AddsEach old mid (head_at d greatest_room)
room_as old mid d room is adds = subst (λ (e : Entries). AddsEach old mid (head_at d e)) is adds

module _ (d : Description) (cycles : ℕ) (text left before after : Option (List ℕ)) (old mid new : TapsState) where
  pub live_opens : (room : Entries) (r : Result LiveState BusError) → room ≡ greatest_room
      → OpensLiveWorld d cycles room r → OpensLiveWorld d cycles greatest_room r
  live_opens room r is opens = subst (λ (e : Entries). OpensLiveWorld d cycles e r) is opens

  pub live_served : (l m : LiveState) → AddsEach old mid (head_at d greatest_room) → mid.failed ≡ None
      → OpensLiveWorld d cycles greatest_room (Ok l)
      → Alike l (λ w v. ServedEndless (endless_terms d cycles (length mid.kept)) text before after w v
      × TellsWhole mid new w v) m
      → new.failed ≡ None → ServesLive d cycles text left before after old new (Ok tt)
  live_served l m heads free opens served whole =
      let got = served (endless_world d cycles) opens.1 in (
        opens.0,
        got.0,
        subst (λ (k : List (Option (List ℕ))). ServedEndless (endless_terms d cycles (length k)) text before after
            (endless_world d cycles) got.0) heads.kept_is got.1.0,
        all_of d cycles old mid new heads free got.0 got.1.1,
        whole,
      )

  pub live_ended : (l m : LiveState) (error : EndlessError) → AddsEach old mid (head_at d greatest_room)
      → mid.failed ≡ None → OpensLiveWorld d cycles greatest_room (Ok l)
      → Alike l (λ w v. EndsEndless (endless_terms d cycles (length mid.kept)) error text left before after w v
      × TellsUnless error mid new w v) m → FailedBy {A = Unit {0}} (Err error) mid.failed new.failed
      → ServesLive d cycles text left before after old new (Err (failure_of error))
  live_ended l m (ending.Session error) heads free opens gives failed =
      let got = gives (endless_world d cycles) opens.1 in (
        opens.0,
        got.0,
        subst (λ (k : List (Option (List ℕ))). EndsEndless (endless_terms d cycles (length k))
            (ending.Session error) text left before after (endless_world d cycles) got.0) heads.kept_is got.1.0,
        begun_unless d cycles old mid new heads free got.0 error got.1.1 failed,
      )
  live_ended l m (ending.Tap tap) heads free opens gives failed =
      let got = gives (endless_world d cycles) opens.1 in (
        opens.0,
        got.0,
        subst (λ (k : List (Option (List ℕ))). EndsEndless (endless_terms d cycles (length k)) (ending.Tap tap) text
            left before after (endless_world d cycles) got.0) heads.kept_is got.1.0,
        all_of d cycles old mid new heads free got.0 got.1.1,
        failed,
      )

-- the first lines of a trace can't be written
pub live_unopened : (d : Description) (cycles : ℕ) (text before : Option (List ℕ)) (old mid : TapsState)
    (l : LiveState) (tap : Tap) → AddsEach old mid (head_at d greatest_room) → mid.failed ≡ Some tap
    → OpensLiveWorld d cycles greatest_room (Ok l)
    → ServesLive d cycles text text before before old mid (Err (failure.Tap tap))
live_unopened d cycles text before old mid l tap heads some opens = (
  opens.0,
  endless_world d cycles,
  ends_unopened (endless_terms d cycles (length old.kept)) tap text before (endless_world d cycles),
  unopened_of d cycles old mid mid heads tap some,
  some,
)
