-- The calls of scripts, made of each world that leads to the kept data, and what a view has of them.
use Rattle.std.proofs.Common.{◌≡◌, ℕ, ◌+◌, ◌<◌, ◌≤◌, Bool, cond, List, [], ◌∷◌, ◌++◌, length, take, get_or}
use Rattle.std.proofs.Common.{Option, Result, Ok, refl, sym, ap, ap₂, subst, ◌∙◌, append-nil, eq-eqb, slice_get}
use Rattle.std.specs.Prelude.{IfOk, OnOk}
use Rattle.std.proofs.lemmas.Bool.{ne_eqb}
use Rattle.std.proofs.lemmas.List.{take_all}
use Rattle.std.specs.List.{flat_map}
use Rattle.fr_bus.specs.States.{BusState}
use Rattle.fr_core.specs.Agreement.{IsWorld}
use Rattle.fr_core.specs.declared.error.StepError.{StepError}
use Rattle.fr_core.specs.declared.event.Reply.{Reply}
use Rattle.fr_core.specs.declared.script.Line.{Line}
use Rattle.fr_core.specs.Steps.{event_of, reply_of, Steps}
use Rattle.fr_core.specs.Worlds.{interface_at, WorldState}
use Rattle.fr_endless.specs.Alike.{Alike}
use Rattle.fr_interface.specs.Calls.{call_answer}
use Rattle.fr_interface.specs.declared.call.Answer.{Answer}
use Rattle.fr_interface.specs.declared.call.Call.{Call}
use Rattle.fr_live.specs.LiveSteps.{with_answer, StepsAlike}
use Rattle.fr_live.specs.LiveWorlds.{ForEachWorld, LiveState, IsWorldHistory}
use Rattle.fr_playing.proofs.EntryLemmas.{host_done, host_there}
use Rattle.fr_playing.proofs.PlayLemmas.{adds_append}
use Rattle.fr_playing.proofs.StrikingLemmas.{flat-more}
use Rattle.fr_playing.specs.Calls.{Asked, asked_in_line, asked_of, entries_in, AddsCalls, DoesCall, DoesCalls}
use Rattle.fr_playing.specs.declared.call.ExecutedCall.{ExecutedCall}
use Rattle.fr_scenario.specs.Contents.{Contents}
use Rattle.fr_showing.specs.AnswerText.{answer_line, came_answered, came_in, came_line, channel_answered, channel_in}
use Rattle.fr_showing.specs.AnswerText.{origin_line, reply_line}
use Rattle.fr_showing.specs.Listening.{capture_of}
use Rattle.fr_showing.specs.Reasons.{reasons_text}
use Rattle.fr_showing.specs.RecordText.{record_text}
use Rattle.fr_showing.specs.Spans.{spans_text}
use Rattle.fr_slots.specs.declared.channel.Channel.{Channel}
use Rattle.fr_schedule.specs.Descriptions.{Description}
use Rattle.fr_streaming.proofs.KeptLemmas.{channel_kept, channel_told, kept_same}
use Rattle.fr_streaming.proofs.LedLemmas.{made_executed}
use Rattle.fr_streaming.proofs.LogCallLemmas.{call_logs}
use Rattle.fr_streaming.proofs.OriginLemmas.{came_kept, came_told}
use Rattle.fr_streaming.proofs.TellLemmas.{breaks_after, goes_none, goes_then}
use Rattle.fr_streaming.specs.CommitLog.{AddsToLog}
use Rattle.fr_streaming.specs.declared.log.CallPlace.{CallPlace}
use Rattle.fr_streaming.specs.declared.telling.Streamed.{Streamed}
use Rattle.fr_streaming.specs.declared.telling.Streamed.TheVariants.{Outcome, Answers, Commits, Record, Windows}
use Rattle.fr_streaming.specs.Received.{received_text}
use Rattle.fr_streaming.specs.declared.telling.Streamed.TheVariants.{Reasons, Origins, Received, Heard}
use Rattle.fr_streaming.specs.LogSteps.{call_text, place_in, IsBetween}
use Rattle.fr_streaming.specs.Streams.{asked, told_call, Breaks, Goes, MakesCalls, TellsBetween}

-- ---- calls one after another

made_none : (w : WorldState) → MakesCalls [] w [] w
unfolding DoesCalls
made_none w = (refl, refl)

made_append : (xs ys : List Asked) (w u v : WorldState) (calls more : List ExecutedCall) → MakesCalls xs w calls u
    → MakesCalls ys u more v → MakesCalls (xs ++ ys) w (calls ++ more) v
made_append xs ys w u v calls more first second =
    let one : AddsCalls [] calls w xs u = (calls, refl, first.0, first.1) in
    let two : AddsCalls calls (calls ++ more) u ys v = (more, refl, second.0, second.1) in
    let (all, is, all_asked, all_done) = adds_append [] calls (calls ++ more) xs ys w u v one two in
    subst (λ (cs : List ExecutedCall). MakesCalls (xs ++ ys) w cs v) (sym is) (all_asked, all_done)

-- ---- one call

-- a call leaves the bus
bus_kept : (w : WorldState) (call : ExecutedCall) (v : WorldState) → DoesCall w call v → v.bus ≡ w.bus
bus_kept w call v does =
    ap (λ (u : WorldState). u.bus) (does.0.2 ∙ host_done w call.node call.task call.call)

call_told : (streamed : Streamed) (s : Contents) (d : Description) (l : LiveState) (w : WorldState)
    (made : ExecutedCall) (v : WorldState) (place : CallPlace) (answer : Answer) → IsWorldHistory l w → IsWorld v
    → DoesCall w made v → place ≡ place_in l made.node made.call
    → answer ≡ call_answer (interface_at w made.node) made.task made.call → made.reply ≡ reply_of answer
    → TellsBetween streamed s d w (made ∷ []) v (told_call streamed (asked_of made) place answer)
call_told Outcome s d l w made v place answer history world does place_is is reply_is = refl
call_told Answers s d l w made v place answer history world does place_is is reply_is =
    ap₂ (λ (channel : Option Channel) (reply : Reply). reply_line channel (asked_of made) reply)
    (ap channel_answered is ∙ channel_told (interface_at w made.node) made.task made.call
    ∙ sym (channel_kept w made v v does (kept_same v.interfaces)))
    (sym reply_is)
    ∙ sym (append-nil (answer_line v made))
call_told Commits s d l w made v place answer history world does place_is is reply_is = λ between.
    subst
    (λ (x : CallPlace). IsBetween d v × AddsToLog w v (call_text made.node made.task x answer made.call))
    (sym place_is)
    (call_logs d l w v made.node made.task made.call answer history
    (host_there w made.node made.task made.call does.0.0) does.0.0
    (does.0.2 ∙ host_done w made.node made.task made.call) world is between)
call_told Record s d l w made v place answer history world does place_is is reply_is =
    ap (λ (b : BusState). record_text s d.params b.sealed) (bus_kept w made v does)
    ∙ sym (append-nil (record_text s d.params w.bus.sealed))
call_told Windows s d l w made v place answer history world does place_is is reply_is =
    ap (λ (b : BusState). spans_text d.params b.sealed) (bus_kept w made v does)
    ∙ sym (append-nil (spans_text d.params w.bus.sealed))
call_told Reasons s d l w made v place answer history world does place_is is reply_is =
    ap (λ (b : BusState). reasons_text s d b.sealed) (bus_kept w made v does)
    ∙ sym (append-nil (reasons_text s d w.bus.sealed))
call_told Origins s d l w made v place answer history world does place_is is reply_is =
    let channel : channel_answered answer ≡ channel_in (slice_get v.interfaces made.node) made.entry =
    ap channel_answered is ∙ channel_told (interface_at w made.node) made.task made.call
    ∙ sym (channel_kept w made v v does (kept_same v.interfaces)) in
    let came : came_answered answer ≡ came_in (slice_get v.interfaces made.node) made.entry =
    ap came_answered is ∙ came_told (interface_at w made.node) made.task made.call
    ∙ sym (came_kept w made v v does (kept_same v.interfaces)) in
    ap (λ (reply : Reply). came_line (came_answered answer) (channel_answered answer) (asked_of made) reply)
    (sym reply_is)
    ∙ ap₂ (λ (c : Option ℕ) (channel : Option Channel). came_line c channel (asked_of made) made.reply) came channel
    ∙ sym (append-nil (origin_line v made))
call_told Received s d l w made v place answer history world does place_is is reply_is =
    ap (λ (b : BusState). received_text d b.sealed) (bus_kept w made v does)
    ∙ sym (append-nil (received_text d w.bus.sealed))
call_told Heard s d l w made v place answer history world does place_is is reply_is =
    ap (λ (b : BusState). capture_of d.params b.sealed) (bus_kept w made v does)
    ∙ sym (append-nil (capture_of d.params w.bus.sealed))

does_one : (w : WorldState) (made : ExecutedCall) (v : WorldState) → DoesCall w made v → DoesCalls w (made ∷ []) v
unfolding DoesCalls
does_one w made v does = (v, does, refl)

module _ (streamed : Streamed) (s : Contents) (d : Description) where
  pub called_one : (l new : LiveState) (node task cycle : ℕ) (call : Call) (r : Result Answer StepError)
      (place : CallPlace) (answer : Answer) → place ≡ place_in l node call → r ≡ Ok answer
      → StepsAlike l (event_of node task call) (with_answer r) new
      → ForEachWorld l (λ w. IfOk r (λ (a : Answer). a ≡ call_answer (interface_at w node) task call))
      → Alike l (λ w v. (calls : List ExecutedCall) × MakesCalls (asked node task cycle call ∷ []) w calls v
      × TellsBetween streamed s d w calls v (told_call streamed (asked node task cycle call) place answer)) new
  called_one l new node task cycle call r place answer place_is r_is step answers w history =
      let (v, steps, end) = step w history in
      let accepted : Steps w (event_of node task call) (Ok (reply_of answer)) v =
      subst (λ (x : Result Answer StepError). Steps w (event_of node task call) (with_answer x) v) r_is steps in
      let answer_is : answer ≡ call_answer (interface_at w node) task call =
      subst (λ (x : Result Answer StepError). IfOk x (λ (a : Answer). a ≡ call_answer (interface_at w node) task call))
      r_is (answers w history) in
      let made : ExecutedCall =
      record {
        node = node;
        task = task;
        cycle = cycle;
        call = call;
        entry = entries_in (slice_get w.interfaces node);
        reply = reply_of answer;
      } in
      let does : DoesCall w made v = (accepted, refl) in (
        v,
        (
          made ∷ [],
          (refl, does_one w made v does),
          call_told streamed s d l w made v place answer history end.world_is does place_is answer_is refl,
        ),
        end,
      )

  -- ---- a line

  pub in_line : (cycle node task : ℕ) (line : Line) → line.cycle ≡ cycle
      → asked_in_line cycle node task line ≡ asked node task line.cycle line.action ∷ []
  in_line cycle node task line same =
      ap (λ (b : Bool). cond b (asked node task cycle line.action ∷ []) []) (eq-eqb line.cycle cycle same)
      ∙ ap (λ (c : ℕ). asked node task c line.action ∷ []) (sym same)

  pub out_of_line : (cycle node task : ℕ) (line : Line) → (line.cycle ≡ cycle → ⊥)
      → asked_in_line cycle node task line ≡ []
  out_of_line cycle node task line other =
      ap (λ (b : Bool). cond b (asked node task cycle line.action ∷ []) []) (ne_eqb line.cycle cycle other)

  pub line_goes : {A E : Type 0} (r : Result A E) (cycle node task : ℕ) (line : Line) (l n : LiveState)
      (a b : Option (List ℕ)) → line.cycle ≡ cycle
      → OnOk r (Goes (TellsBetween streamed s d) (MakesCalls (asked node task line.cycle line.action ∷ [])) l a b n)
      → OnOk r (Goes (TellsBetween streamed s d) (MakesCalls (asked_in_line cycle node task line)) l a b n)
  line_goes r cycle node task line l n a b same goes =
      subst (λ (xs : List Asked). OnOk r (Goes (TellsBetween streamed s d) (MakesCalls xs) l a b n))
      (sym (in_line cycle node task line same)) goes

  pub none_goes : (l : LiveState) (bytes : Option (List ℕ))
      → Goes (TellsBetween streamed s d) (MakesCalls []) l bytes bytes l
  none_goes l bytes = goes_none streamed s d (MakesCalls []) l bytes made_none

  pub line_passed : (cycle node task : ℕ) (line : Line) (l : LiveState) (bytes : Option (List ℕ))
      → (line.cycle ≡ cycle → ⊥)
      → Goes (TellsBetween streamed s d) (MakesCalls (asked_in_line cycle node task line)) l bytes bytes l
  line_passed cycle node task line l bytes other =
      subst (λ (xs : List Asked). Goes (TellsBetween streamed s d) (MakesCalls xs) l bytes bytes l)
      (sym (out_of_line cycle node task line other)) (none_goes l bytes)

  -- ---- lists of lines

  pub goes_more : {X : Type 0} (f : X → List Asked) (xs : List X) (i : ℕ) (x : X) (l m n : LiveState)
      (a b c : Option (List ℕ)) → i < length xs → x ≡ get_or xs i x
      → Goes (TellsBetween streamed s d) (MakesCalls (flat_map f (take i xs))) l a b m
      → Goes (TellsBetween streamed s d) (MakesCalls (f x)) m b c n
      → Goes (TellsBetween streamed s d) (MakesCalls (flat_map f (take (i + 1) xs))) l a c n
  goes_more f xs i x l m n a b c lt is first second =
      let front = flat_map f (take i xs) in
      subst (λ (all : List Asked). Goes (TellsBetween streamed s d) (MakesCalls all) l a c n)
      (sym (flat-more f xs i x lt is))
      (goes_then streamed s d (MakesCalls front) (MakesCalls (f x)) (MakesCalls (front ++ f x)) l m n a b c first second
      (made_executed front) (made_executed (f x))
      (λ w u v calls more end one two. made_append front (f x) w u v calls more one two))

  pub goes_all : {X : Type 0} (f : X → List Asked) (xs : List X) (i : ℕ) (l n : LiveState) (a b : Option (List ℕ))
      → length xs ≤ i → Goes (TellsBetween streamed s d) (MakesCalls (flat_map f (take i xs))) l a b n
      → Goes (TellsBetween streamed s d) (MakesCalls (flat_map f xs)) l a b n
  goes_all f xs i l n a b all given =
      subst (λ (ys : List _). Goes (TellsBetween streamed s d) (MakesCalls (flat_map f ys)) l a b n)
      (take_all i xs all) given

  pub breaks_more : (xs : List Asked) (l m : LiveState) (a b c : Option (List ℕ))
      → Goes (TellsBetween streamed s d) (MakesCalls xs) l a b m → Breaks (TellsBetween streamed s d) m b c
      → Breaks (TellsBetween streamed s d) l a c
  breaks_more xs l m a b c first breaks =
      breaks_after streamed s d (MakesCalls xs) l m a b c first (made_executed xs) breaks
