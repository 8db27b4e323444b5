-- The report by the kept data of an interface is that of each history that leads to them.
use Rattle.std.proofs.Common.{◌≡◌, ℕ, zero, suc, ◌+◌, ◌≤◌, List, [], ◌++◌, length, take, Option, Some, None, refl, sym}
use Rattle.std.proofs.Common.{ap, ap₂, ◌∙◌, arith, option_map}
use Rattle.std.proofs.lemmas.List.{take_all}
use Rattle.fr_auditing.specs.KeptReport.{buffer_line, buffer_lines, queue_line, channel_lines, kept_report}
use Rattle.fr_buffers.specs.Waiting.{Waiting}
use Rattle.fr_interface.proofs.StandingLemmas.{answer-tally, answer-received, answer-length, answer-counters}
use Rattle.fr_interface.specs.Known.{waiting_of}
use Rattle.fr_interface.specs.Standing.{Standing, IsHistory}
use Rattle.fr_interface.specs.State.{State, lost_of, queued_of}
use Rattle.fr_journal.specs.Arrivals.{queue_lost}
use Rattle.fr_lines.specs.Spelling.{line_text}
use Rattle.fr_slots.specs.declared.plan.Queue.{Queue}
use Rattle.fr_trace.proofs.ReportLemmas.{report-more, report-none}
use Rattle.fr_trace.specs.ReportText.{answer_words, channels_report, queue_report, report_text, reports_from}

pub lines_none : (h : Standing) → buffer_lines h 0 ≡ []
unfolding buffer_lines
lines_none h = refl

lines_suc : (h : Standing) (count : ℕ) → buffer_lines h (suc count) ≡ buffer_lines h count ++ buffer_line h count
unfolding buffer_lines
lines_suc h count = refl

pub lines_more : (h : Standing) (count : ℕ) → buffer_lines h (count + 1) ≡ buffer_lines h count ++ buffer_line h count
lines_more h count =
    let next : count + 1 ≡ suc count = omega arith in
    ap (buffer_lines h) next ∙ lines_suc h count

module _ (h : Standing) (s : State) (is : IsHistory h s) where
  lines_are : (count : ℕ) → count ≤ length s.plan.buffers
      → buffer_lines h count ≡ reports_from s 0 (take count s.plan.buffers)
  lines_are zero fits = lines_none h ∙ sym (report-none s)
  lines_are (suc count) fits =
      let next : count + 1 ≡ suc count = omega arith in
      lines_suc h count
      ∙ ap₂ (λ (xs : List ℕ) (ys : List ℕ). xs ++ ys) (lines_are count (omega (arith, fits)))
      (ap₂ (λ t r. line_text (answer_words count t r)) (answer-tally h s count is) (answer-received h s count is))
      ∙ sym (report-more s count (omega (arith, fits)))
      ∙ ap (λ (n : ℕ). reports_from s 0 (take n s.plan.buffers)) next

  lost_same : option_map (λ (q : Waiting). q.lost) h.queue ≡ lost_of s
  lost_same = ap (option_map (λ (q : Waiting). q.lost)) (sym (ap (λ (x : Standing). x.queue) is.leaves))
      ∙ by_queue s.plan.queue
    where
      by_queue : (o : Option Queue) → option_map (λ (q : Waiting). q.lost)
          (option_map (waiting_of s.params s.plan s.entries) o)
          ≡ option_map (λ (q : Queue). queue_lost s.params s.plan q s.entries) o
      by_queue None = refl
      by_queue (Some q) = refl

  queue_same : queue_line (option_map (λ (q : Waiting). length q.frames) h.queue)
      (option_map (λ (q : Waiting). q.lost) h.queue) ≡ queue_report s s.plan.queue
  queue_same = ap₂ queue_line (answer-length h s is) lost_same ∙ by_queue s.plan.queue
    where
      by_queue : (o : Option Queue) → queue_line (option_map (queued_of s) o)
          (option_map (λ (q : Queue). queue_lost s.params s.plan q s.entries) o) ≡ queue_report s o
      by_queue None = refl
      by_queue (Some q) = refl

  channels_same : channel_lines h.counters ≡ channels_report s
  channels_same = ap channel_lines (answer-counters h s is)

  pub report_same : (count : ℕ) → count ≡ length s.plan.buffers → kept_report h count ≡ report_text s
  report_same count all =
      ap₂ (λ (xs : List ℕ) (ys : List ℕ). (xs ++ ys) ++ channel_lines h.counters)
      (lines_are count (omega (arith, all)) ∙ ap (reports_from s 0)
      (take_all count s.plan.buffers (omega (arith, all))))
      queue_same
      ∙ ap (λ (t : List ℕ). (reports_from s 0 s.plan.buffers ++ queue_report s s.plan.queue) ++ t) channels_same
