-- One more event in a list of events.
use Rattle.std.proofs.Common.{◌≡◌, ℕ, ◌+◌, cond, List, [], ◌∷◌, ◌++◌, refl, ap, subst, arith}
use Rattle.std.specs.Result.{is_ok}
use Rattle.std.proofs.lemmas.List.Sums.{sum_by_push}
use Rattle.fr_core.proofs.ClusterLemmas.{steps_cluster}
use Rattle.fr_core.proofs.CommitLemmas.{step_counts}
use Rattle.fr_interface.specs.Commits.{commits_of}
use Rattle.fr_core.specs.declared.event.Event.{Event}
use Rattle.fr_core.specs.Runs.{Answer, StepsAll, IsRunOf, commits_accepted}
use Rattle.fr_core.specs.Steps.{Steps}
use Rattle.fr_core.specs.Worlds.{WorldState, interface_at}

steps_more : (old : WorldState) (events : List Event) (answers : List Answer) (between : WorldState) (event : Event)
    (answer : Answer) (new : WorldState)
    → StepsAll old events answers between → Steps between event answer new
    → StepsAll old (events ++ event ∷ []) (answers ++ answer ∷ []) new
unfolding StepsAll
steps_more old [] [] between event answer new so_far step = (
  new,
  subst (λ (w : WorldState). Steps w event answer new) so_far step,
  refl,
)
steps_more old [] (a ∷ answers) between event answer new so_far step = absurd so_far
steps_more old (e ∷ events) [] between event answer new so_far step = absurd so_far
steps_more old (e ∷ events) (a ∷ answers) between event answer new so_far step =
    (so_far.0, so_far.1, steps_more so_far.0 events answers between event answer new so_far.2 step)

steps_count : (old : WorldState) (events : List Event) (answers : List Answer) (new : WorldState) (n : ℕ)
    → StepsAll old events answers new → commits_of (interface_at new n) ≡ commits_of (interface_at old n)
    + commits_accepted n events answers
unfolding StepsAll commits_accepted
steps_count old [] [] new n steps = omega (arith, ap (λ (w : WorldState). commits_of (interface_at w n)) steps)
steps_count old [] (a ∷ answers) new n steps = absurd steps
steps_count old (e ∷ events) [] new n steps = absurd steps
steps_count old (e ∷ events) (a ∷ answers) new n steps =
    omega (arith, step_counts old e a steps.0 n steps.1, steps_count steps.0 events answers new n steps.2)

pub run_none : (w : WorldState) → IsRunOf w [] 0 w
unfolding StepsAll commits_accepted
run_none w = record { answers = []; steps = refl; accepted_is = refl; commits = λ n. omega arith; cluster = refl }

pub run_more : (old : WorldState) (events : List Event) (accepted : ℕ) (between : WorldState) (event : Event)
    (answer : Answer) (more : ℕ) (new : WorldState)
    → IsRunOf old events accepted between → Steps between event answer new → more ≡ cond (is_ok answer) 1 0
    → IsRunOf old (events ++ event ∷ []) (accepted + more) new
run_more old events accepted between event answer more new run step counts =
    let steps = steps_more old events run.answers between event answer new run.steps step in
    record {
      answers = run.answers ++ answer ∷ [];
      steps = steps;
      accepted_is = omega (
        arith,
        run.accepted_is,
        counts,
        sum_by_push (λ (a : Answer). cond (is_ok a) 1 0) run.answers
            answer,
      );
      commits = λ n. steps_count old (events ++ event ∷ []) (run.answers ++ answer ∷ []) new n steps;
      cluster = steps_cluster old (events ++ event ∷ []) (run.answers ++ answer ∷ []) new steps;
    }
