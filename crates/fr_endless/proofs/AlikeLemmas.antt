-- The kept data tell what each world that leads to them has.
use Rattle.std.proofs.Common.{◌≡◌, ℕ, length, Option, Some, None, refl, sym, ap, ◌∙◌}
use Rattle.fr_bus.specs.Standing.{BusStanding, bare, standing_of, with_cluster}
use Rattle.fr_bus.specs.States.{collecting_of, last_recorded}
use Rattle.fr_bus.specs.Windows.{cycles_begun}
use Rattle.fr_core.specs.declared.error.StepError.{StepError}
use Rattle.fr_core.specs.Worlds.{WorldState}
use Rattle.fr_live.proofs.RefusalLemmas.{collecting_same}
use Rattle.fr_live.specs.LiveWorlds.{LiveState, IsWorldHistory}
use Rattle.fr_endless.proofs.NumberLemmas.{last_counts}
use Rattle.fr_endless.specs.Answers.{kept_time, windows_by}
use Rattle.fr_lines.specs.Spelling.{line_text}
use Rattle.fr_session.specs.Queries.{at_text, at_words, now_text, moved_text}
use Rattle.fr_slots.specs.Parameters.{Parameters}

module _ (l : LiveState) (w : WorldState) (is : IsWorldHistory l w) where
  leaves : standing_of w.bus ≡ with_cluster l.bus.bus w.bus.cluster
  leaves = is.leads.bus_is.of_bus.leaves

  pub opened_same : w.bus.opened ≡ l.bus.bus.opened
  opened_same = ap (λ (h : BusStanding). h.opened) leaves

  pub begun_same : cycles_begun w.bus.sealed ≡ l.bus.bus.course.begun
  begun_same = ap (λ (h : BusStanding). h.course.begun) leaves

  pub collecting_is : collecting_of w.bus ≡ collecting_of (bare l.bus.bus)
  collecting_is = sym (collecting_same l.bus.bus w.bus is.leads.bus_is.of_bus)

  pub last_same : last_recorded w.bus ≡ l.bus.last
  last_same = is.leads.bus_is.last_is

  pub windows_same : windows_by l.bus.last ≡ length w.bus.sealed
  windows_same = ap windows_by (sym last_same)
      ∙ last_counts w.bus.cluster w.bus.cycles w.bus.sealed is.leads.bus_is.of_bus.run.recorded

  pub time_same : (p : Parameters) → kept_time p l.bus ≡ at_text p w.bus
  time_same p =
      ap (λ (n : ℕ). line_text (at_words p l.bus.bus.phase l.bus.bus.course.begun n l.bus.bus.opened)) windows_same
      ∙ sym (ap (λ (h : BusStanding). line_text (at_words p h.phase h.course.begun (length w.bus.sealed) h.opened))
      leaves)

  pub now_same : now_text (bare l.bus.bus) ≡ now_text w.bus
  now_same = sym (ap (λ (h : BusStanding). now_text (bare h)) leaves)

  pub moved_same : (hinders : Option StepError) → moved_text hinders (bare l.bus.bus) ≡ moved_text hinders w.bus
  moved_same None = now_same
  moved_same (Some error) = refl
