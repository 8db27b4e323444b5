-- The value under a key of a table in a cluster file (project-defined). It is `None` if a required key is missing, or
-- its value is of another kind.
use Rattle.std.specs.Prelude.{ℕ, nat_le, ℤ, pos, Bool, false, ◌&&◌, List, [], ◌∷◌, length, codes, Option, Some, None}
use Rattle.std.specs.Prelude.{is_some, option_and_then, if◌then◌else◌}
use Rattle.std.specs.Int.Signed.{le_z}
use Rattle.std.specs.List.{list_all}
use Rattle.std.specs.Result.{result_ok}
use Rattle.std.specs.Str.{bytes_eq}
use Rattle.fr_slots.specs.declared.channel.Channels.{Channels}
use Rattle.fr_slots.specs.declared.channel.Channels.TheVariants as channels
use Rattle.fr_slots.specs.declared.plan.Mode.{Mode}
use Rattle.fr_slots.specs.declared.plan.Mode.TheVariants as mode
use Rattle.fr_slots.specs.Admission.{CycleClass, cycle_class}
use Rattle.fr_slots.specs.Parameters.{unsigned}
use Rattle.fr_slots.specs.Numbers.{most_lines}
use Rattle.toml.specs.Data.{Data, Items, no_items, item, Members, get_member, as_integer, as_bool, as_str, as_array}
use Rattle.toml.specs.Data.{as_table}

infixl 10 ◌>>=◌
abbrev pub ◌>>=◌ : {A B : Type 0} → Option A → (A → Option B) → Option B
o >>= f = option_and_then f o

-- the value under a key, or the default if there is none
abbrev pub or_default : {A : Type 0} → A → (Data → Option A) → Option Data → Option A
or_default default read None = Some default
or_default default read (Some value) = read value

-- ---- numbers: integers from a least to a greatest one

abbrev pub within : ℕ → ℕ → ℤ → Option ℕ
within least greatest number =
    if le_z (pos least) number && le_z number (pos greatest) then Some (unsigned number) else None

unfoldable pub number_in : ℕ → ℕ → Data → Option ℕ
number_in least greatest value = do
  number ← as_integer value
  within least greatest number

unfoldable pub number_at : List ℕ → ℕ → ℕ → Members → Option ℕ
number_at key least greatest table = do
  value ← get_member key table
  number_in least greatest value

unfoldable pub number_or : List ℕ → ℕ → ℕ → ℕ → Members → Option ℕ
number_or key least greatest default table = or_default default (number_in least greatest) (get_member key table)

-- ---- flags, which are false if absent

unfoldable pub flag_at : List ℕ → Members → Option Bool
flag_at key table = or_default false as_bool (get_member key table)

-- ---- words

unfoldable pub word_at : List ℕ → Members → Option (List ℕ)
word_at key table = do
  value ← get_member key table
  as_str value

unfoldable pub channels_named : List ℕ → Option Channels
channels_named word =
    if bytes_eq word (codes "A") then Some channels.A
    else if bytes_eq word (codes "B") then Some channels.B
    else if bytes_eq word (codes "AB") then Some channels.Both
    else None

unfoldable pub mode_named : List ℕ → Option Mode
mode_named word =
    if bytes_eq word (codes "event") then Some mode.Event
    else if bytes_eq word (codes "state") then Some mode.State
    else if bytes_eq word (codes "receive") then Some mode.Receive
    else None

-- "A", "B" or "AB"
unfoldable pub channels_in : Members → Option Channels
channels_in table = do
  word ← word_at (codes "channels") table
  channels_named word

-- "event", "state" or "receive"
unfoldable pub mode_in : Members → Option Mode
mode_in table = do
  word ← word_at (codes "kind") table
  mode_named word

-- ---- cycles: every cycle if neither key is there

unfoldable pub cycles_in : Members → Option CycleClass
cycles_in table = do
  base ← number_or (codes "base") 0 63 0 table
  repetition ← number_or (codes "repetition") 1 64 1 table
  result_ok (cycle_class base repetition)

-- ---- arrays

abbrev pub values_of : Items → List Data
values_of no_items = []
values_of (item value more) = value ∷ values_of more

unfoldable pub array_in : Data → Option (List Data)
array_in value = do
  items ← as_array value
  Some (values_of items)

abbrev pub is_table : Data → Bool
is_table value = is_some (as_table value)

abbrev pub are_tables : List Data → Bool
are_tables values = list_all is_table values

abbrev pub few_tables : List Data → Option (List Data)
few_tables values = if nat_le (length values) most_lines && are_tables values then Some values else None

-- an array of at most 64 tables
unfoldable pub tables_in : Data → Option (List Data)
tables_in value = do
  values ← array_in value
  few_tables values

unfoldable pub tables_at : List ℕ → Members → Option (List Data)
tables_at key table = or_default [] tables_in (get_member key table)

-- ---- values in a row

-- each value as it is read, if all can be read
unfoldable pub all_of : {X A : Type 0} → (X → Option A) → List X → Option (List A)
all_of read [] = Some []
all_of read (x ∷ xs) = do
  one ← read x
  more ← all_of read xs
  Some (one ∷ more)
