-- Lists of events (project-defined).
use Rattle.std.specs.Prelude.{◌≡◌, ℕ, ◌+◌, ◌==◌, Bool, false, ◌&&◌, List, [], ◌∷◌, Result, count_by, if◌then◌else◌}
use Rattle.std.specs.Result.{is_ok}
use Rattle.fr_interface.specs.Commits.{commits_of}
use Rattle.fr_core.specs.declared.error.StepError.{StepError}
use Rattle.fr_core.specs.declared.event.Event.{Event}
use Rattle.fr_core.specs.declared.event.Event.TheVariants.{Commit, Withdraw, Read, Pop, Look, Fetch, Put, Take}
use Rattle.fr_core.specs.declared.event.Event.TheVariants.{Observe, Inject, Seal, Advance}
use Rattle.fr_core.specs.declared.event.Reply.{Reply}
use Rattle.fr_core.specs.Steps.{Steps}
use Rattle.fr_core.specs.Worlds.{WorldState, interface_at}

abbrev pub Answer : Type 0
Answer = Result Reply StepError

-- the events, with these answers, lead from `old` to `new`
unfoldable pub StepsAll : WorldState → List Event → List Answer → WorldState → Type 0
StepsAll old [] [] new = new ≡ old
StepsAll old [] (answer ∷ answers) new = ⊥
StepsAll old (event ∷ events) [] new = ⊥
StepsAll old (event ∷ events) (answer ∷ answers) new =
    (between : WorldState) × Steps old event answer between × StepsAll between events answers new

abbrev pub is_commit_at : ℕ → Event → Bool
is_commit_at n (Commit node task buffer payload) = node == n
is_commit_at n (Withdraw node task buffer) = false
is_commit_at n (Read node task buffer) = false
is_commit_at n (Pop node task) = false
is_commit_at n (Look node) = false
is_commit_at n (Fetch node) = false
is_commit_at n (Put node) = false
is_commit_at n (Take node) = false
is_commit_at n (Observe node) = false
is_commit_at n (Inject fault) = false
is_commit_at n Seal = false
is_commit_at n Advance = false

-- 1 for an accepted commit at the node
abbrev pub commits_by : ℕ → Event → Answer → ℕ
commits_by n event answer = if is_commit_at n event && is_ok answer then 1 else 0

-- the number of accepted commits at the node among the events
unfoldable pub commits_accepted : ℕ → List Event → List Answer → ℕ
commits_accepted n [] answers = 0
commits_accepted n (event ∷ events) [] = 0
commits_accepted n (event ∷ events) (answer ∷ answers) = commits_by n event answer + commits_accepted n events answers

-- The events lead from `old` to `new`, and so many of them are accepted. Each interface has as many further commits as
-- there are accepted commits at its node, and the cluster is the same.
pub record IsRunOf (old : WorldState) (events : List Event) (accepted : ℕ) (new : WorldState) : Type 0 where
  pub answers : List Answer
  pub steps : StepsAll old events answers new
  pub accepted_is : accepted ≡ count_by is_ok answers
  pub commits : (n : ℕ)
      → commits_of (interface_at new n) ≡ commits_of (interface_at old n) + commits_accepted n events answers
  pub cluster : new.bus.cluster ≡ old.bus.cluster
