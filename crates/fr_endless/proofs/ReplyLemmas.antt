-- A reply by the kept data is that of each world with its history.
use Rattle.std.proofs.Common.{◌≡◌, ℕ, List, [], length, Option, None, Result}
use Rattle.std.specs.Prelude.{slice_get}
use Rattle.std.proofs.Common.{refl, sym, ap, ap₂, subst, ◌∙◌}
use Rattle.fr_bus.specs.Standing.{LiveStanding, bare}
use Rattle.fr_core.specs.declared.error.StepError.{StepError}
use Rattle.fr_core.specs.declared.event.Event.{Event}
use Rattle.fr_core.specs.Runs.{Answer}
use Rattle.fr_endless.proofs.AlikeLemmas.{now_same, moved_same, time_same}
use Rattle.fr_endless.proofs.KeptLemmas.{record_replied}
use Rattle.fr_endless.specs.Answers.{kept_time, no_history_text, IsReportOf, IsStatusOf}
use Rattle.fr_endless.specs.Kept.{IsKeptRecord, IsRecordBy, is_kept}
use Rattle.fr_endless.specs.Serving.{DoesAlike, DoesAlikeIf}
use Rattle.fr_endless.specs.Taps.{ToldAlike, ToldState}
use Rattle.fr_lines.specs.Spelling.{line_text}
use Rattle.fr_core.specs.Steps.{Steps}
use Rattle.fr_playing.specs.Moving.{MovesOn, RunsCycles}
use Rattle.fr_runs.specs.declared.fault_line.FaultLine.{FaultLine}
use Rattle.fr_session.specs.declared.request.Request.{Request}
use Rattle.fr_session.specs.declared.request.Request.TheVariants as request
use Rattle.fr_session.specs.declared.noted.Noted.{Noted}
use Rattle.fr_session.specs.Keeping.{KeepsLine, KeepsBoth}
use Rattle.fr_session.specs.Queries.{now_text, moved_text, Replies}
use Rattle.fr_session.specs.Replies.{answer_text, bad_line_words, done_words}
use Rattle.fr_session.specs.Sessions.{Terms, state_of, with_faults}
use Rattle.fr_slots.specs.declared.channel.Channel.{Channel}
use Rattle.fr_slots.specs.Parameters.{Parameters}
use Rattle.fr_text.specs.Writing.{Writes}

module _ {W A E : Type 0} (contents : W → Option (List ℕ)) (old new : W) (result : Result A E) where
  -- a text that is such a reply
  pub replied : (text : List ℕ) (IsReply : List ℕ → Type 0) → IsReply text → Writes contents old new result text
      → Replies contents old new result IsReply
  replied text IsReply holds told = (text, holds, told)

  pub replied_so : (IsReply IsAnswer : List ℕ → Type 0) → ((reply : List ℕ) → IsReply reply → IsAnswer reply)
      → Replies contents old new result IsReply → Replies contents old new result IsAnswer
  replied_so IsReply IsAnswer so told = (told.0, so told.0 told.1, told.2)

  -- a request that is this one
  pub asked_so : (terms : Terms) (l left : ToldState) (kept keeps : Noted) (given asked : Request)
      → given ≡ asked → Replies contents old new result (λ reply. DoesAlike terms l kept asked reply left keeps)
      → Replies contents old new result (λ reply. DoesAlike terms l kept given reply left keeps)
  asked_so terms l left kept keeps given asked is told =
      subst (λ (r : Request). Replies contents old new result (λ reply. DoesAlike terms l kept r reply left keeps))
      (sym is) told

  -- a line that is this request, or none
  pub asked_if : (terms : Terms) (l left : ToldState) (kept keeps : Noted) (number : ℕ)
      (given asked : Option Request) → given ≡ asked
      → Replies contents old new result (λ reply. DoesAlikeIf terms l kept number asked reply left keeps)
      → Replies contents old new result (λ reply. DoesAlikeIf terms l kept number given reply left keeps)
  asked_if terms l left kept keeps number given asked is told =
      subst (λ (r : Option Request). Replies contents old new result
      (λ reply. DoesAlikeIf terms l kept number r reply left keeps)) (sym is) told

module _ (terms : Terms) (l new : ToldState) (kept : Noted) where
  pub event_so : (event : Event) (answer : Answer) → ToldAlike l (λ w v. Steps w event answer v) new
      → DoesAlike terms l kept (request.Event event) (answer_text answer) new kept
  event_so event answer steps s w is keep =
      let got = steps s w is in (got.0, (answer, got.1, refl, refl), got.2)

  pub window_so : (faults : List FaultLine) (bus : LiveStanding) (hinders : Option StepError) → faults ≡ kept.faults
      → bus ≡ new.live.bus → ToldAlike l (λ w v. MovesOn faults terms.due w hinders v) new
      → DoesAlike terms l kept request.Window (moved_text hinders (bare bus.bus)) new kept
  window_so faults bus hinders faults_are bus_is moves s w is keep =
      let got = moves s w is in (
        got.0,
        (
          hinders,
          subst (λ (f : List FaultLine). MovesOn f terms.due w hinders got.0) faults_are got.1,
          ap (λ (b : LiveStanding). moved_text hinders (bare b.bus)) bus_is ∙ moved_same new.live got.0 got.2.leads
              hinders,
          refl,
        ),
        got.2,
      )

  pub run_so : (faults : List FaultLine) (bus : LiveStanding) (cycles : ℕ) (hinders : Option StepError) → faults
      ≡ kept.faults
      → bus ≡ new.live.bus → ToldAlike l (λ w v. RunsCycles faults terms.due cycles w hinders v) new
      → DoesAlike terms l kept (request.Run cycles) (moved_text hinders (bare bus.bus)) new kept
  run_so faults bus cycles hinders faults_are bus_is runs s w is keep =
      let got = runs s w is in (
        got.0,
        (
          hinders,
          subst (λ (f : List FaultLine). RunsCycles f terms.due cycles w hinders got.0) faults_are got.1,
          ap (λ (b : LiveStanding). moved_text hinders (bare b.bus)) bus_is ∙ moved_same new.live got.0 got.2.leads
              hinders,
          refl,
        ),
        got.2,
      )

module _ (terms : Terms) (l : ToldState) (kept : Noted) where
  pub line_so : (line : FaultLine) (keeps : List FaultLine) (reply : List ℕ)
      → KeepsLine terms.cluster terms.cycles kept.faults line reply keeps
      → DoesAlike terms l kept (request.Fault line) reply l (with_faults kept keeps)
  line_so line keeps reply does s w is keep = (w, (does, refl, refl), is)

  pub both_so : (a b : FaultLine) (keeps : List FaultLine) (reply : List ℕ)
      → KeepsBoth terms.cluster terms.cycles kept.faults a b reply keeps
      → DoesAlike terms l kept (request.Faults a b) reply l (with_faults kept keeps)
  both_so a b keeps reply does s w is keep = (w, (does, refl, refl), is)

  pub forget_so : (keeps : List FaultLine) → keeps ≡ []
      → DoesAlike terms l kept request.Forget (line_text done_words) l (with_faults kept keeps)
  forget_so keeps none s w is keep = (w, (refl, ap (λ (f : List FaultLine). state_of w (with_faults kept f)) none), is)

  pub now_so : (bus : LiveStanding) → bus ≡ l.live.bus
      → DoesAlike terms l kept request.Now (now_text (bare bus.bus)) l kept
  now_so bus bus_is s w is keep =
      (w, (refl, ap (λ (b : LiveStanding). now_text (bare b.bus)) bus_is ∙ now_same l.live w is.leads), is)

  pub at_so : (bus : LiveStanding) (p : Parameters) → bus ≡ l.live.bus → p ≡ terms.cluster.params
      → DoesAlike terms l kept request.At (kept_time p bus) l kept
  at_so bus p bus_is p_is s w is keep =
      (w, (refl, ap₂ kept_time p_is bus_is ∙ time_same l.live w is.leads terms.cluster.params), is)

  pub status_so : (node : ℕ) (channel : Channel) (reply : List ℕ) → IsStatusOf l.live node channel reply
      → DoesAlike terms l kept (request.Status node channel) reply l kept
  status_so node channel reply counts s w is keep = (w, (refl, counts w is.leads), is)

  pub report_so : (node : ℕ) (reply : List ℕ) → IsReportOf l.live node reply
      → DoesAlike terms l kept (request.Report node) reply l kept
  report_so node reply reports s w is keep = (w, (refl, reports w is.leads), is)

  pub trace_so : (node : ℕ) → DoesAlike terms l kept (request.Trace node) no_history_text l kept
  trace_so node s w is keep = (w, (refl, refl), is)

  pub origin_so : (node : ℕ) → DoesAlike terms l kept (request.Origin node) no_history_text l kept
  origin_so node s w is keep = (w, (refl, refl), is)

  pub record_so : (bus : LiveStanding) (lines : List (Option (List ℕ))) (window : ℕ) → bus ≡ l.live.bus
      → lines ≡ l.taps.kept → (reply : List ℕ) → IsRecordBy bus.last lines window reply
      → DoesAlike terms l kept (request.Record window) reply l kept
  record_so bus lines window bus_is lines_are reply recorded s w is keep =
      let by_data : IsRecordBy l.live.bus.last l.taps.kept window reply =
      subst (λ (b : LiveStanding). IsRecordBy b.last l.taps.kept window reply) bus_is
      (subst (λ (k : List (Option (List ℕ))). IsRecordBy bus.last k window reply) lines_are recorded) in
      let told = record_replied l.live l.taps.kept w is.leads is.holds window reply by_data in
      let many : length l.taps.kept ≡ terms.keep = is.keep_is ∙ keep in (
        w,
        (
          refl,
          subst (λ (n : ℕ). IsKeptRecord (is_kept n (length w.bus.sealed) window)
              (slice_get w.bus.sealed window) reply) many told,
        ),
        is,
      )

  pub bad_line_so : (number : ℕ) → DoesAlikeIf terms l kept number None (line_text (bad_line_words number)) l kept
  bad_line_so number s w is keep = (w, (refl, refl), is)
