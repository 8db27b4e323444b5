-- The parameters in a table, or its refusal: the first key at fault in the order of the keys, then the sum
-- (project-defined).
use Rattle.std.specs.Prelude.{ℕ, ◌==◌, ℤ, Option, Some, None, Result, Ok, Err, if◌then◌else◌}
use Rattle.toml.specs.Data.{Data, Members, get_member, as_integer}
use Rattle.fr_slots.specs.declared.params.Key.{Key}
use Rattle.fr_slots.specs.declared.params.Key.TheVariants.{StaticSlots, Minislots, StaticWords, StaticMt, MinislotMt}
use Rattle.fr_slots.specs.declared.params.Key.TheVariants.{SymbolMt, NitMt, CycleMt, Idle, WordsPerMinislot}
use Rattle.fr_slots.specs.Parameters.{Parameters, name_of, admits, unsigned, macroticks_of, Five, assembled}
use Rattle.fr_params.specs.declared.error.ParamError.{ParamError}
use Rattle.fr_params.specs.declared.error.ParamError.TheVariants.{Missing, NotANumber, OutOfRange, CycleSum}

infixl 10 ◌>>=◌
abbrev pub ◌>>=◌ : {A B : Type 0} → Result A ParamError → (A → Result B ParamError) → Result B ParamError
(Ok x) >>= f = f x
(Err e) >>= f = Err e

-- ---- one key

-- the integer under the key, if its value is one
abbrev pub integer_in : Key → Option ℤ → Result ℕ ParamError
integer_in key None = Err (NotANumber key)
integer_in key (Some number) = if admits key number then Ok (unsigned number) else Err (OutOfRange key)

abbrev pub member_in : Key → Option Data → Result ℕ ParamError
member_in key None = Err (Missing key)
member_in key (Some data_there) = integer_in key (as_integer data_there)

-- the number under the key
unfoldable pub number_at : Key → Members → Result ℕ ParamError
number_at key table = member_in key (get_member (name_of key) table)

-- ---- all keys, and the sum

unfoldable pub first_five : Members → Result Five ParamError
first_five table = do
  static_slots ← number_at StaticSlots table
  minislots ← number_at Minislots table
  static_words ← number_at StaticWords table
  static_mt ← number_at StaticMt table
  minislot_mt ← number_at MinislotMt table
  Ok (static_slots, minislots, static_words, static_mt, minislot_mt)

unfoldable pub last_five : Members → Result Five ParamError
last_five table = do
  symbol_mt ← number_at SymbolMt table
  nit_mt ← number_at NitMt table
  cycle_mt ← number_at CycleMt table
  idle ← number_at Idle table
  words_per_minislot ← number_at WordsPerMinislot table
  Ok (symbol_mt, nit_mt, cycle_mt, idle, words_per_minislot)

-- the parameters, if their parts fill the cycle
abbrev pub summed : Parameters → Result Parameters ParamError
summed p = if macroticks_of p == p.cycle_mt then Ok p else Err CycleSum

-- the parameters of a table
unfoldable pub parameters_in : Members → Result Parameters ParamError
parameters_in table = do
  first ← first_five table
  last ← last_five table
  summed (assembled first last)
