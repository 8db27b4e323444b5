-- The records of a capture file.
use Rattle.std.specs.Prelude.{ℕ, ℤ, List, Option}

-- The time in nanoseconds, if it is known; the link type; the number of bytes that there were; the bytes that were
-- captured of them.
pub record Record : Type 0 where
  pub time : Option ℤ
  pub link : ℕ
  pub original : ℕ
  pub bytes : List ℕ
