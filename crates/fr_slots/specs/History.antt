-- Functions of a list of events, in which each event is judged with those before it. The place of an event is the
-- number of events before it.
use Rattle.std.specs.Prelude.{ℕ, ◌+◌, Bool, List, [], ◌∷◌, ◌++◌, Option, None, if◌then◌else◌}
use Rattle.std.specs.Option.{option_or}

module _ {X : Type 0} where
  -- each event satisfies the predicate after those before it
  unfoldable pub AllAfter : (List X → X → Type 0) → List X → List X → Type 0
  AllAfter P before [] = Unit {0}
  AllAfter P before (x ∷ rest) = P before x × AllAfter P (before ++ x ∷ []) rest

  -- the last value that the function gives for an event
  unfoldable pub last_after : {A : Type 0} → (List X → X → Option A) → List X → List X → Option A
  last_after f before [] = None
  last_after f before (x ∷ rest) = option_or (last_after f (before ++ x ∷ []) rest) (f before x)

  -- all values that the function gives for the events, in order
  unfoldable pub each_after : {A : Type 0} → (List X → X → List A) → List X → List X → List A
  each_after f before [] = []
  each_after f before (x ∷ rest) = f before x ++ each_after f (before ++ x ∷ []) rest

  -- the number of events that pass the test
  unfoldable pub count_after : (List X → X → Bool) → List X → List X → ℕ
  count_after test before [] = 0
  count_after test before (x ∷ rest) = (if test before x then 1 else 0) + count_after test (before ++ x ∷ []) rest
