-- Posts, which are counted in one book and in the shares with which they are made (project-defined).
use Rattle.std.specs.Prelude.{ℕ, ◌+◌, List, sum}

-- the parts of a ledger for so many tasks: one for the host interface and one for each task
abbrev pub parts_for : ℕ → ℕ
parts_for tasks = tasks + 1

-- the posts made with all shares: the host interface's and those of all tasks
abbrev pub posts_of : ℕ → List ℕ → ℕ
posts_of desk tasks = desk + sum tasks
