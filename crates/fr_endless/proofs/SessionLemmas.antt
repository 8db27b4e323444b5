-- An endless session continues by one line.
use Rattle.std.proofs.Common.{◌≡◌, ℕ, ◌+◌, true, false, List, [], ◌∷◌, ◌++◌, length, Option, Some, None, refl, sym, ap}
use Rattle.std.proofs.Common.{Result, Err, inl, inr}
use Rattle.std.proofs.KnownBytes.{Keeps-refl}
use Rattle.std.specs.Prelude.{IsErr}
use Rattle.std.proofs.Common.{subst, ◌∙◌, append_assoc, arith, length-append}
use Rattle.std.proofs.lemmas.List.{append-nil}
use Rattle.std.specs.List.{flat_map}
use Rattle.std.specs.Io.KnownBytes.{Appends, Keeps}
use Rattle.fr_endless.specs.Alike.{Alike}
use Rattle.fr_capture.specs.Pcap.{file_header}
use Rattle.fr_core.specs.Worlds.{WorldState}
use Rattle.fr_endless.proofs.EachLemmas.{told_ended, told_short}
use Rattle.fr_endless.proofs.TapLemmas.{told_header}
use Rattle.fr_endless.proofs.KeptLemmas.{forgotten_places, holds_none}
use Rattle.fr_endless.proofs.TraceLemmas.{flushed_by}
use Rattle.fr_endless.specs.declared.error.EndlessError.{EndlessError}
use Rattle.fr_endless.specs.declared.error.EndlessError.TheVariants as failure
use Rattle.fr_endless.specs.declared.taps.Tap.{Tap}
use Rattle.fr_endless.specs.Serving.{AnswersNextAlike, Does, DoesAlikeIf, DoesEndlessIf, EndsBefore, EndsByFile}
use Rattle.fr_endless.specs.Serving.{EndsEndless, FailedBy, FailsNextAlike, IsAfterMemory, IsOfLine, KeepsUnlessSent}
use Rattle.fr_endless.specs.Serving.{Served}
use Rattle.fr_endless.specs.Serving.{ServedEndless, Serves, TellsUnless}
use Rattle.fr_endless.specs.Taps.{AddsBoth, AddsEach, IsToldHistory, TapsState, Tells, TellsWhole, ToldBy, ToldState}
use Rattle.fr_endless.specs.Kept.{HoldsLast, forgotten}
use Rattle.fr_endless.specs.Taps.{last_line, start_of, with_kept, with_taps}
use Rattle.fr_live.specs.LiveWorlds.{IsWorldHistory, LiveState}
use Rattle.fr_session.proofs.CutLemmas.{ends_full, ends_greeting, ends_reading, ends_writing, sent_so}
use Rattle.fr_session.proofs.CutLemmas.{unsent_so}
use Rattle.fr_session.proofs.LineLemmas.{front_asks}
use Rattle.fr_session.proofs.SessionLemmas.{SoFarBy, are_lines_more, feeds_more, appends_more, appends_kept}
use Rattle.fr_session.specs.Cuts.{Hands, IsFront, Sends}
use Rattle.fr_session.specs.declared.error.SessionError.TheVariants.{Read, Write, Memory}
use Rattle.fr_session.specs.declared.noted.Noted.{Noted}
use Rattle.fr_session.specs.Lines.{Comes, ComesFront, with_feed}
use Rattle.fr_session.specs.Reading.{asked_in}
use Rattle.fr_session.specs.Replies.{greeting}
use Rattle.fr_session.specs.Sessions.{SessionState, Terms, nothing_noted, state_of}

serves_none : (terms : Terms) (w : SessionState) (number : ℕ) → Serves terms w number [] [] w
unfolding Serves
serves_none terms w number = (refl, refl)

serves_more : (terms : Terms) (old : SessionState) (number : ℕ) (lines : List (List ℕ)) (replies : List ℕ)
    (between : SessionState) (line reply : List ℕ) (new : SessionState)
    → Serves terms old number lines replies between → Does terms between (number + length lines) line reply new
    → Serves terms old number (lines ++ line ∷ []) (replies ++ reply) new
unfolding Serves
serves_more terms old number [] replies between line reply new so_far does =
    let here : Does terms old number line reply new = subst (λ (w : SessionState). Does terms w number line reply new)
    so_far.1
    (subst (λ k. Does terms between k line reply new) (omega arith) does) in
    (new, reply, [], here, ap (λ r. r ++ reply) so_far.0 ∙ sym (append-nil reply), (refl, refl))
serves_more terms old number (first ∷ lines) replies between line reply new so_far does =
    let (mid, answer, later, did, is, rest) = so_far in
    let there : Does terms between (number + 1 + length lines) line reply new =
    subst (λ k. Does terms between k line reply new) (omega arith) does in (
      mid,
      answer,
      later ++ reply,
      did,
      ap (λ r. r ++ reply) is ∙ append_assoc answer later reply,
      serves_more terms mid (number + 1) lines later between line reply new rest there,
    )

abbrev pub SoFar : Terms → Option (List ℕ) → Option (List ℕ) → Option (List ℕ) → Option (List ℕ) → ℕ → SessionState
    → SessionState → Type 0
SoFar terms text left before after number old new = SoFarBy (Serves terms) text left before after number old new

so_far_none : (terms : Terms) (text before after : Option (List ℕ)) (w : SessionState)
    → Appends before after greeting → SoFar terms text text before after 1 w w
so_far_none terms None before after w told = tt
so_far_none terms (Some text) before after w told = ([], [], refl, tt, refl, serves_none terms w 1, told)

so_far_more : (terms : Terms) (text left left' before after after' : Option (List ℕ)) (number : ℕ)
    (old mid new : SessionState) (line reply : List ℕ)
    → SoFar terms text left before after number old mid → Comes true left left' line
    → Does terms mid number line reply new → Appends after after' reply
    → SoFar terms text left' before after' (number + 1) old new
so_far_more terms None left left' before after after' number old mid new line reply so_far comes does tells = tt
so_far_more terms (Some text) None left' before after after' number old mid new line reply so_far comes does tells =
    absurd so_far
so_far_more terms (Some text) (Some left) None before after after' number old mid new line reply so_far comes does tells
    = absurd comes
so_far_more terms (Some text) (Some left) (Some left') before after after' number old mid new line reply so_far comes
    does tells =
    let (lines, replies, is, all, count, serves, told) = so_far in
    let here : Does terms mid (1 + length lines) line reply new =
    subst (λ k. Does terms mid k line reply new) count does in (
      lines ++ line ∷ [],
      replies ++ reply,
      is ∙ ap (λ l. flat_map with_feed lines ++ l) comes.0 ∙ sym (feeds_more lines line left'),
      are_lines_more lines line all comes.1,
      omega (arith, count, length-append lines (line ∷ [])),
      serves_more terms old 1 lines replies mid line reply new serves here,
      subst (Appends before after') (append_assoc greeting replies reply)
          (appends_more before after after' (greeting ++ replies) reply told tells),
    )

so_far_over : (terms : Terms) (text left left' before after after' : Option (List ℕ)) (number : ℕ)
    (old new : SessionState)
    → SoFar terms text left before after number old new → Comes false left left' [] → Keeps after after'
    → Served terms text before after' old new
so_far_over terms None left left' before after after' number old new so_far comes keeps = tt
so_far_over terms (Some text) None left' before after after' number old new so_far comes keeps = absurd so_far
so_far_over terms (Some text) (Some left) left' before after after' number old new so_far comes keeps =
    let (lines, replies, is, all, count, serves, told) = so_far in (
      lines,
      left,
      replies,
      (is, all, comes),
      serves,
      appends_kept before after after' (greeting ++ replies) told keeps,
    )

-- ---- by the kept data

abbrev pub SoFarAlike : Terms → Option (List ℕ) → Option (List ℕ) → Option (List ℕ) → Option (List ℕ) → ℕ → ToldState
    → Noted → ToldState → Noted → Type 0
SoFarAlike terms text left before after number old kept new keeps =
    ToldBy terms.keep old (λ w v. SoFar terms text left before after number (state_of w kept) (state_of v keeps)) new

pub begins : (terms : Terms) (text before after : Option (List ℕ)) (l : ToldState) (kept : Noted)
    → Appends before after greeting → SoFarAlike terms text text before after 1 l kept l kept
begins terms text before after l kept told s w is k =
    (w, so_far_none terms text before after (state_of w kept) told, is)

pub goes_on : (terms : Terms) (text left left' before after after' : Option (List ℕ)) (number : ℕ)
    (l mid new : ToldState)
    (first kept keeps : Noted)
    → SoFarAlike terms text left before after number l first mid kept
    → AnswersNextAlike terms true left left' after after' number mid kept new keeps
    → SoFarAlike terms text left' before after' (number + 1) l first new keeps
goes_on terms text left left' before after after' number l mid new first kept keeps so_far next s w is k =
    let (line, reply, comes, does, tells) = next in
    let got = so_far s w is k in
    let did = does s got.0 got.2 k in (
      did.0,
      so_far_more terms text left left' before after after' number (state_of w first) (state_of got.0 kept)
          (state_of did.0 keeps) line reply got.1 comes did.1 tells,
      did.2,
    )

pub ends : (terms : Terms) (text left left' before after after' : Option (List ℕ)) (number : ℕ) (l mid new : ToldState)
    (first kept keeps : Noted)
    → SoFarAlike terms text left before after number l first mid kept
    → AnswersNextAlike terms false left left' after after' number mid kept new keeps
    → ToldBy terms.keep l (λ w v. Served terms text before after' (state_of w first) (state_of v keeps)) new
ends terms text left left' before after after' number l mid new first kept keeps so_far next =
    subst (λ (x : ToldState). ToldBy terms.keep l (λ w v. Served terms text before after' (state_of w first)
    (state_of v keeps))
    x)
    (sym next.1)
    (subst (λ (f : Noted). ToldBy terms.keep l
    (λ w v. Served terms text before after' (state_of w first) (state_of v f))
    mid)
    (sym next.2) over)
  where
    over : ToldBy terms.keep l (λ w v. Served terms text before after' (state_of w first) (state_of v kept)) mid
    over s w is k =
        let got = so_far s w is k in (
          got.0,
          so_far_over terms text left left' before after after' number (state_of w first) (state_of got.0 kept) got.1
              next.0 next.3,
          got.2,
        )

-- a line of which the front was kept is answered by its front
pub answered_front : (terms : Terms) (text left before after : Option (List ℕ)) (number : ℕ) (front : List ℕ)
    (old : ToldState) (kept : Noted) (new : ToldState) (keeps : Noted)
    → ComesFront true text left front
    → (reply : List ℕ) × DoesAlikeIf terms old kept number (asked_in front) reply new keeps × Appends before after reply
    → AnswersNextAlike terms true text left before after number old kept new keeps
answered_front terms text left before after number front old kept new keeps comes answered =
    let (line, whole, is) = comes in
    let (reply, does, tells) = answered in (
      line,
      reply,
      whole,
      subst (λ asked. DoesAlikeIf terms old kept number asked reply new keeps) (ap asked_in is ∙ front_asks line) does,
      tells,
    )

-- the files of a session have forgotten the lines of windows before it
abbrev pub forgetting : TapsState → TapsState
forgetting taps = with_kept taps (forgotten taps.kept)

pub begun_so : (old mid begun : TapsState) → mid ≡ forgetting old → AddsBoth mid begun [] file_header
    → AddsBoth (forgetting old) begun [] file_header
begun_so old mid begun forgot adds = subst (λ (t : TapsState). AddsBoth t begun [] file_header) forgot adds

-- the start of a session, of which the header of a capture was written
starts : (l : LiveState) (old begun : TapsState) (w : WorldState) → IsWorldHistory l w
    → AddsBoth (forgetting old) begun [] file_header → IsToldHistory (start_of old w) (with_taps l begun) w
starts l old begun w is adds =
    let told = told_header (forgetting old) begun w adds in record {
      leads = is;
      is_told = record {
        params_are = told.params_are;
        recorded_are = told.recorded_are;
        captured_are = told.captured_are;
        traces_are = told.traces_are;
      };
      holds = subst (λ (k : List (Option (List ℕ))). HoldsLast k w.bus.sealed) (sym adds.kept_is)
          (holds_none old.kept w.bus.sealed);
      keep_is = ap (λ (k : List (Option (List ℕ))). length k) adds.kept_is ∙ forgotten_places old.kept;
    }

-- a session from an opening world, with nothing noted; the files got what they have before the first window
opened_at : (terms given : Terms) (text before after : Option (List ℕ)) (l m : LiveState)
    (old begun mid new : TapsState)
    (first keeps : Noted) → given ≡ terms → terms.keep ≡ length old.kept → first ≡ nothing_noted
    → AddsBoth (forgetting old) begun [] file_header
    → ToldBy given.keep (with_taps l begun) (λ w v. Served given text before after (state_of w first)
    (state_of v keeps))
    (with_taps m mid) → AddsEach mid new (λ n. last_line)
    → Alike l (λ w v. Served terms text before after (state_of w nothing_noted) (state_of v keeps)
    × TellsWhole old new w v) m
opened_at terms given text before after l m old begun mid new first keeps same places none adds served ends w is =
    let keep : length old.kept ≡ given.keep = sym (ap (λ (t : Terms). t.keep) same ∙ places) in
    let got = served (start_of old w) w (starts l old begun w is adds) keep in (
      got.0,
      (
        subst (λ (t : Terms). Served t text before after (state_of w nothing_noted) (state_of got.0 keeps)) same
            (subst (λ (f : Noted). Served given text before after (state_of w f) (state_of got.0 keeps)) none
            got.1),
        told_ended (start_of old w) mid new got.0 ends got.2.is_told,
      ),
      got.2.leads,
    )

-- the traces were ended
pub opened_so : (terms given : Terms) (text before after : Option (List ℕ)) (l m : LiveState)
    (old begun mid new : TapsState)
    (first keeps : Noted) → given ≡ terms → terms.keep ≡ length old.kept → first ≡ nothing_noted
    → AddsBoth (forgetting old) begun [] file_header
    → ToldBy given.keep (with_taps l begun) (λ w v. Served given text before after (state_of w first)
    (state_of v keeps))
    (with_taps m mid) → AddsEach mid new (λ n. last_line)
    → Alike l (λ w v. ServedEndless terms text before after w v × TellsWhole old new w v) m
opened_so terms given text before after l m old begun mid new first keeps same places none adds served ends w is =
    let got = opened_at terms given text before after l m old begun mid new first keeps same places none adds served
    ends
    w is in
    (got.0, ((keeps, got.1.0), got.1.1), got.2)

-- the last line of a trace can't be written
pub closed_so : (terms given : Terms) (text left before after : Option (List ℕ)) (l m : LiveState)
    (old begun mid new : TapsState) (tap : Tap)
    (first keeps : Noted) → given ≡ terms → terms.keep ≡ length old.kept → first ≡ nothing_noted
    → AddsBoth (forgetting old) begun [] file_header
    → ToldBy given.keep (with_taps l begun) (λ w v. Served given text before after (state_of w first)
    (state_of v keeps))
    (with_taps m mid) → AddsEach mid new (λ n. last_line)
    → Alike l (λ w v. EndsEndless terms (failure.Tap tap) text left before after w v × TellsWhole old new w v) m
closed_so terms given text left before after l m old begun mid new tap first keeps same places none adds served ends
    w is =
    let got = opened_at terms given text before after l m old begun mid new first keeps same places none adds served
    ends
    w is in
    (got.0, ((keeps, inr got.1.0), got.1.1), got.2)

-- ---- a stream fails

-- a line of which the front was kept is answered by its front, in part
pub failed_front_alike : (terms : Terms) (text left before after : Option (List ℕ)) (number : ℕ) (start : List ℕ)
    (old : ToldState) (kept : Noted) (new : ToldState) (keeps : Noted)
    → ComesFront true text left start
    → (reply : List ℕ) × DoesAlikeIf terms old kept number (asked_in start) reply new keeps
    × ((front : List ℕ) × IsFront front reply × Appends before after front)
    → FailsNextAlike terms (failure.Session Write) text left before after number old kept new keeps
failed_front_alike terms text left before after number start old kept new keeps comes answered =
    let (line, whole, is) = comes in
    let (reply, does, told) = answered in (
      line,
      reply,
      told.0,
      whole,
      subst (λ asked. DoesAlikeIf terms old kept number asked reply new keeps) (ap asked_in is ∙ front_asks line) does,
      told.1,
      told.2,
    )

-- a line of which the front was kept is executed, and a file fails
pub failed_file_alike : (terms : Terms) (text left before after : Option (List ℕ)) (number : ℕ) (start : List ℕ)
    (tap : Tap) (old : ToldState) (kept : Noted) (new : ToldState) (keeps : Noted)
    → ComesFront true text left start
    → (reply : List ℕ) × DoesAlikeIf terms old kept number (asked_in start) reply new keeps
    × ((front : List ℕ) × IsFront front reply × Appends before after front)
    → Keeps before after → FailsNextAlike terms (failure.Tap tap) text left before after number old kept new keeps
failed_file_alike terms text left before after number start tap old kept new keeps comes answered unwritten =
    let (line, whole, is) = comes in
    let (reply, does, told) = answered in (
      line,
      reply,
      whole,
      subst (λ asked. DoesAlikeIf terms old kept number asked reply new keeps) (ap asked_in is ∙ front_asks line) does,
      unwritten,
    )

-- the same for each error of a line
pub failed_line_alike : (terms : Terms) (error : EndlessError) (text left before after : Option (List ℕ)) (number : ℕ)
    (start : List ℕ) (old : ToldState) (kept : Noted) (new : ToldState) (keeps : Noted)
    → ComesFront true text left start → IsOfLine error
    → (reply : List ℕ) × DoesAlikeIf terms old kept number (asked_in start) reply new keeps
    × ((front : List ℕ) × IsFront front reply × Appends before after front)
    → KeepsUnlessSent {A = Unit {0}} (Err error) before after
    → FailsNextAlike terms error text left before after number old kept new keeps
failed_line_alike terms (failure.Session Read) text left before after number start old kept new keeps comes line
    answered unsent = absurd line
failed_line_alike terms (failure.Session Write) text left before after number start old kept new keeps comes line
    answered unsent = failed_front_alike terms text left before after number start old kept new keeps comes answered
failed_line_alike terms (failure.Session Memory) text left before after number start old kept new keeps comes line
    answered unsent = absurd line
failed_line_alike terms (failure.Tap tap) text left before after number start old kept new keeps comes line answered
    unsent =
    failed_file_alike terms text left before after number start tap old kept new keeps comes answered unsent

-- ---- a line is answered, and then the files are flushed

-- a reply that was prepared is sent
pub sent_told : {W A E : Type 0} (contents : W → Option (List ℕ)) (old new : W) (result : Result A E)
    (empty prepared : List ℕ) (terms : Terms) (l : ToldState) (m : LiveState) (mid flushed : TapsState)
    (kept keeps : Noted) (number : ℕ) (line items : List ℕ) → line ≡ items → empty ≡ []
    → (reply : List ℕ) × DoesAlikeIf terms l kept number (asked_in line) reply (with_taps m mid) keeps
    × (prepared ≡ empty ++ reply)
    → AddsBoth mid flushed [] [] → Hands contents old new result prepared
    → Sends contents old new result
    (λ reply. DoesAlikeIf terms l kept number (asked_in items) reply (with_taps m flushed) keeps)
sent_told contents old new result empty prepared terms l m mid flushed kept keeps number line items same none answered
    adds hands =
    let (reply, does, is) = answered in
    sent_so contents old new result empty prepared
    (λ line reply. DoesAlikeIf terms l kept number (asked_in line) reply (with_taps m flushed) keeps) line items same
    none (
      reply,
      flushed_by terms.keep l m mid flushed
          (λ w v. DoesEndlessIf terms (state_of w kept) number (asked_in line) reply (state_of v keeps)) does adds,
      is,
    ) hands

-- nothing is sent
pub unsent_told : {W A E : Type 0} (contents : W → Option (List ℕ)) (w : W) (result : Result A E)
    (terms : Terms) (l : ToldState) (m : LiveState) (mid flushed : TapsState) (kept keeps : Noted) (number : ℕ)
    (line items reply : List ℕ) → IsErr result → line ≡ items
    → DoesAlikeIf terms l kept number (asked_in line) reply (with_taps m mid) keeps → AddsBoth mid flushed [] []
    → Sends contents w w result
    (λ reply. DoesAlikeIf terms l kept number (asked_in items) reply (with_taps m flushed) keeps)
unsent_told contents w result terms l m mid flushed kept keeps number line items reply failed same does adds =
    unsent_so contents w result
    (λ line reply. DoesAlikeIf terms l kept number (asked_in line) reply (with_taps m flushed) keeps) line items reply
    failed same
    (flushed_by terms.keep l m mid flushed
    (λ w v. DoesEndlessIf terms (state_of w kept) number (asked_in line) reply (state_of v keeps)) does adds)

pub ends_greeting_alike : (terms : Terms) (text before after : Option (List ℕ)) (front : List ℕ) (l : ToldState)
    (kept : Noted) → IsFront front greeting → Appends before after front
    → ToldBy terms.keep l (λ w v. EndsBefore terms (failure.Session Write) text text before after (state_of w kept)
    (state_of v kept)) l
ends_greeting_alike terms text before after front l kept is told s w leads k =
    (w, ends_greeting (Does terms) (Serves terms) text before after front (state_of w kept) is told, leads)

ends_by_file : (terms : Terms) (text left left' before after after' : Option (List ℕ)) (number : ℕ)
    (old mid new : SessionState) (line reply : List ℕ) → SoFar terms text left before after number old mid
    → Comes true left left' line → Does terms mid number line reply new → Keeps after after'
    → EndsByFile terms text left' before after' old new
ends_by_file terms None left left' before after after' number old mid new line reply so_far comes does keeps = tt
ends_by_file terms (Some text) None left' before after after' number old mid new line reply so_far comes does keeps =
    absurd so_far
ends_by_file terms (Some text) (Some left) None before after after' number old mid new line reply so_far comes does
    keeps = absurd comes
ends_by_file terms (Some text) (Some left) (Some left') before after after' number old mid new line reply so_far comes
    does keeps =
    let (lines, replies, are, all, count, serves, told) = so_far in inr (
      lines,
      line,
      replies,
      reply,
      mid,
      are ∙ ap (λ l. flat_map with_feed lines ++ l) comes.0 ∙ sym (feeds_more lines line left'),
      are_lines_more lines line all comes.1,
      serves,
      subst (λ k. Does terms mid k line reply new) count does,
      appends_kept before after after' (greeting ++ replies) told keeps,
    )

pub ends_so_alike : (terms : Terms) (error : EndlessError) (text left left' before after after' : Option (List ℕ))
    (number : ℕ) (l mid new : ToldState) (first kept keeps : Noted)
    → SoFarAlike terms text left before after number l first mid kept
    → FailsNextAlike terms error left left' after after' number mid kept new keeps
    → ToldBy terms.keep l (λ w v. EndsBefore terms error text left' before after' (state_of w first)
    (state_of v keeps)) new
ends_so_alike terms (failure.Session Read) text left left' before after after' number l mid new first kept keeps so_far
    fails s w is k =
    let (taken, told, same, lines) = fails in
    let (part, plain, takes) = taken in
    let got = so_far s w is k in (
      got.0,
      ends_reading (Does terms) (Serves terms) text left left' before after after' number (state_of w first)
          (state_of got.0 kept) (state_of got.0 keeps) part got.1 plain takes told (ap (state_of got.0) lines),
      subst (λ (x : ToldState). IsToldHistory s x got.0) (sym same) got.2,
    )
ends_so_alike terms (failure.Session Write) text left left' before after after' number l mid new first kept keeps so_far
    fails s w is k =
    let (line, reply, front, comes, does, is_front, tells) = fails in
    let got = so_far s w is k in
    let did = does s got.0 got.2 k in (
      did.0,
      ends_writing (Does terms) (Serves terms) text left left' before after after' number (state_of w first)
          (state_of got.0 kept) (state_of did.0 keeps) line reply front got.1 comes did.1 is_front tells,
      did.2,
    )
ends_so_alike terms (failure.Session Memory) text left left' before after after' number l mid new first kept keeps
    so_far fails s w is k = absurd fails
ends_so_alike terms (failure.Tap tap) text left left' before after after' number l mid new first kept keeps so_far fails
    s w is k =
    let (line, reply, comes, does, keeps_bytes) = fails in
    let got = so_far s w is k in
    let did = does s got.0 got.2 k in (
      did.0,
      ends_by_file terms text left left' before after after' number (state_of w first) (state_of got.0 kept)
          (state_of did.0 keeps) line reply got.1 comes did.1 keeps_bytes,
      did.2,
    )

pub ends_full_alike : (terms : Terms) (text left before after : Option (List ℕ)) (number : ℕ) (l new : ToldState)
    (first kept : Noted) → SoFarAlike terms text left before after number l first new kept
    → ToldBy terms.keep l (λ w v. EndsBefore terms (failure.Session Read) text left before after (state_of w first)
    (state_of v kept)) new
ends_full_alike terms text left before after number l new first kept so_far s w is k =
    let got = so_far s w is k in (
      got.0,
      ends_full (Does terms) (Serves terms) text left before after number (state_of w first) (state_of got.0 kept)
          got.1,
      got.2,
    )

tells_unless : (error : EndlessError) (old new : TapsState) (w v : WorldState) → IsAfterMemory error
    → FailedBy {A = Unit {0}} (Err error) old.failed new.failed → Tells old new w v → TellsUnless error old new w v
tells_unless (failure.Session Read) old new w v after failed tells = tells
tells_unless (failure.Session Write) old new w v after failed tells = tells
tells_unless (failure.Session Memory) old new w v after failed tells = absurd after
tells_unless (failure.Tap tap) old new w v after failed tells = told_short (start_of old w) new v tap failed tells

-- which file failed, told of other bytes before
failed_after : (error : EndlessError) (one other new : Option Tap) → IsAfterMemory error
    → FailedBy {A = Unit {0}} (Err error) one new → FailedBy {A = Unit {0}} (Err error) other new
failed_after (failure.Session Read) one other new after failed = failed
failed_after (failure.Session Write) one other new after failed = failed
failed_after (failure.Session Memory) one other new after failed = absurd after
failed_after (failure.Tap tap) one other new after failed = failed

-- a session from an opening world, with nothing noted, that ends with an error
pub ended_so : (error : EndlessError) (terms given : Terms)
    (text left before after : Option (List ℕ)) (l m : LiveState) (old begun new : TapsState)
    (first keeps : Noted) → given ≡ terms → terms.keep ≡ length old.kept → first ≡ nothing_noted
    → AddsBoth (forgetting old) begun [] file_header
    → IsAfterMemory error → FailedBy {A = Unit {0}} (Err error) begun.failed new.failed
    → ToldBy given.keep (with_taps l begun) (λ w v. EndsBefore given error text left before after
    (state_of w first) (state_of v keeps)) (with_taps m new)
    → Alike l (λ w v. EndsEndless terms error text left before after w v × TellsUnless error old new w v) m
ended_so error terms given text left before after l m old begun new first keeps same places none adds later failed
    gives =
    λ w is.
    let keep : length old.kept ≡ given.keep = sym (ap (λ (t : Terms). t.keep) same ∙ places) in
    let got = gives (start_of old w) w (starts l old begun w is adds) keep in (
      got.0,
      (
        (
          keeps,
          inl (subst (λ (t : Terms). EndsBefore t error text left before after (state_of w nothing_noted)
              (state_of got.0 keeps))
              same
              (subst (λ (f : Noted). EndsBefore given error text left before after (state_of w f)
              (state_of got.0 keeps)) none got.1)),
        ),
        tells_unless error old new w got.0 later (failed_after error begun.failed old.failed new.failed later failed)
            got.2.is_told,
      ),
      got.2.leads,
    )

-- no line was taken
pub ends_unopened : (terms : Terms) (tap : Tap) (text bytes : Option (List ℕ)) (w : WorldState)
    → EndsEndless terms (failure.Tap tap) text text bytes bytes w w
ends_unopened terms tap text bytes w = (nothing_noted, inl (by text))
  where
    by : (t : Option (List ℕ)) → EndsByFile terms t t bytes bytes (state_of w nothing_noted) (state_of w nothing_noted)
    by None = tt
    by (Some x) = inl (refl, Keeps-refl bytes, refl)

-- the header of the capture couldn't be written
pub unopened_so : (terms : Terms) (text before : Option (List ℕ)) (l : LiveState) (old new : TapsState) (tap : Tap)
    → AddsBoth (forgetting old) new [] file_header → new.failed ≡ Some tap
    → Alike l (λ w v. EndsEndless terms (failure.Tap tap) text text before before w v × TellsWhole old new w v) l
unopened_so terms text before l old new tap adds failed w is = (
  w,
  (
    ends_unopened terms tap text before w,
    told_short (start_of old w) new w tap failed (starts l old new w is adds).is_told,
  ),
  is,
)

-- an allocation failed before the first line
pub unmade_so : (terms : Terms) (text before : Option (List ℕ)) (l : LiveState) (taps : TapsState)
    → Alike l (λ w v. EndsEndless terms (failure.Session Memory) text text before before w v
    × TellsUnless (failure.Session Memory) taps taps w v) l
unmade_so terms text before l taps w is = (w, ((nothing_noted, inl (by text)), refl), is)
  where
    by : (t : Option (List ℕ))
        → EndsBefore terms (failure.Session Memory) t t before before (state_of w nothing_noted)
        (state_of w nothing_noted)
    by None = tt
    by (Some x) = (refl, Keeps-refl before, refl)
