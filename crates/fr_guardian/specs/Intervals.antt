-- Half-open intervals of numbers, and the maximal ones of a set of numbers.
use Rattle.std.specs.Prelude.{ℕ, ◌<◌, ◌≤◌, nat_lt, List, [], ◌∷◌, Contains, if◌then◌else◌}
use Rattle.std.specs.List.{All, AllPairs}

-- from the first number up to the one before the second
abbrev pub Span : Type 0
Span = ℕ × ℕ

-- the number lies in one of the intervals
pub record IsCovered (spans : List Span) (n : ℕ) : Type 0 where
  pub span : Span
  pub of_list : Contains spans span
  pub from_start : span.0 ≤ n
  pub before_end : n < span.1

-- The intervals are those of the set, as large as possible. None is empty, and each ends before a later one starts, so
-- no two touch. A number is in the set exactly if it lies in one of them.
pub record AreMaximalIntervals (In : ℕ → Type 0) (spans : List Span) : Type 0 where
  pub not_empty : All (λ span. span.0 < span.1) spans
  pub apart : AllPairs (λ span later. span.1 < later.0) spans
  pub covers : (n : ℕ) → In n → IsCovered spans n
  pub covers_only : (n : ℕ) → IsCovered spans n → In n

-- one interval, or nothing if it would be empty
abbrev pub run : ℕ → ℕ → List Span
run start end = if nat_lt start end then (start, end) ∷ [] else []
