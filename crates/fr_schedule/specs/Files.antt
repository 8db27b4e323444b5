-- The cluster that a file describes, or the first of its faults (project-defined).
use Rattle.std.specs.Prelude.{◌≡◌, ℕ, ◌+◌, nat_le, ◌&&◌, List, [], ◌∷◌, length, codes, Option, Some, None, ok_or}
use Rattle.std.specs.Prelude.{option_and_then, Result, Ok, Err, if◌then◌else◌, String}
use Rattle.std.specs.BTreeMap.{BTreeMap}
use Rattle.std.specs.declared.alloc.Global.{Global}
use Rattle.std.specs.Str.{bytes_eq}
use Rattle.fr_params.specs.declared.error.ParamError.{ParamError}
use Rattle.fr_params.specs.Table.{parameters_in}
use Rattle.fr_slots.specs.declared.channel.Channels.{Channels}
use Rattle.fr_slots.specs.declared.channel.Channels.TheVariants as channels
use Rattle.fr_slots.specs.declared.plan.Buffer.{Buffer}
use Rattle.fr_slots.specs.Parameters.{Parameters}
use Rattle.fr_slots.specs.Plans.{Plan}
use Rattle.fr_schedule.specs.Clusters.{most_nodes}
use Rattle.fr_schedule.specs.Descriptions.{Description}
use Rattle.fr_schedule.specs.declared.error.ConfigError.{ConfigError}
use Rattle.fr_schedule.specs.declared.error.ConfigError.TheVariants.{Toml, Params, BadGuard, TooManyNodes, BadNode}
use Rattle.fr_schedule.specs.declared.error.ConfigError.TheVariants.{BadBuffer, Memory}
use Rattle.fr_schedule.specs.FileFaults.{file_fault}
use Rattle.fr_schedule.specs.NodeTables.{head_in, buffer_of}
use Rattle.fr_schedule.specs.TableReading.{channels_named, array_in, tables_at}
use Rattle.toml.specs.Data.{Data, Members, no_members, get_member, as_str, as_table}
use Rattle.toml.specs.declared.value.Value.{Value}
use Rattle.toml.specs.Parse.{parse_document}
use Rattle.toml.specs.View.{table_view}

infixl 10 ◌>>=◌
abbrev pub ◌>>=◌ : {A B : Type 0} → Result A ConfigError → (A → Result B ConfigError) → Result B ConfigError
(Ok x) >>= f = f x
(Err e) >>= f = Err e

-- ---- the parameters; if there is no table `params`, all its keys are missing

abbrev pub members_or_none : Option Members → Members
members_or_none None = no_members
members_or_none (Some members) = members

abbrev pub params_table : Members → Option Members
params_table root = option_and_then as_table (get_member (codes "params") root)

abbrev pub held : Result Parameters ParamError → Result Parameters ConfigError
held (Ok p) = Ok p
held (Err e) = Err (Params e)

unfoldable pub params_in : Members → Result Parameters ConfigError
params_in root = held (parameters_in (members_or_none (params_table root)))

-- ---- the guarded channels: both if `guard` is absent, and no channel for "none"

abbrev pub guard_named : List ℕ → Option (Option Channels)
guard_named word =
    if bytes_eq word (codes "none") then Some None else option_and_then (λ c. Some (Some c)) (channels_named word)

abbrev pub guard_word : Option Data → Option (Option Channels)
guard_word None = Some (Some channels.Both)
guard_word (Some value) = option_and_then guard_named (as_str value)

unfoldable pub guard_in : Members → Result (Option Channels) ConfigError
guard_in root = ok_or (guard_word (get_member (codes "guard") root)) BadGuard

-- ---- the nodes: an array of 1 to 16

abbrev pub some_nodes : List Data → Option (List Data)
some_nodes values = if nat_le 1 (length values) && nat_le (length values) most_nodes then Some values else None

unfoldable pub nodes_in : Members → Option (List Data)
nodes_in root = option_and_then some_nodes (option_and_then array_in (get_member (codes "node") root))

-- ---- values in a row

-- each value as it is read, numbered from this number up, or the first refusal
unfoldable pub each_of : {X A : Type 0} → (ℕ → X → Result A ConfigError) → ℕ → List X → Result (List A) ConfigError
each_of read n [] = Ok []
each_of read n (x ∷ xs) = do
  one ← read n x
  more ← each_of read (n + 1) xs
  Ok (one ∷ more)

-- ---- a node

abbrev pub buffer_read : Parameters → ℕ → ℕ → Data → Result Buffer ConfigError
buffer_read p node number value = ok_or (buffer_of p value) (BadBuffer node number)

abbrev pub with_buffers : Plan → List Buffer → Plan
with_buffers plan buffers = record plan { buffers = buffers }

unfoldable pub with_buffers_of : Parameters → ℕ → List Data → Plan → Result Plan ConfigError
with_buffers_of p node values plan = do
  buffers ← each_of (buffer_read p node) 0 values
  Ok (with_buffers plan buffers)

-- everything in the node is read before its buffers
unfoldable pub plan_of : Parameters → ℕ → Data → Result Plan ConfigError
plan_of p node value = do
  table ← ok_or (as_table value) (BadNode node)
  plan ← ok_or (head_in p table) (BadNode node)
  values ← ok_or (tables_at (codes "buffer") table) (BadNode node)
  with_buffers_of p node values plan

-- ---- the file

abbrev pub unless_fault : Option ConfigError → Description → Result Description ConfigError
unless_fault None d = Ok d
unless_fault (Some fault) d = Err fault

-- the description of parameters, guarded channels and plans, or the first fault among the plans
abbrev pub described_by : Parameters → Option Channels → List Plan → Result Description ConfigError
described_by params guard plans =
    unless_fault (file_fault params plans) (record { params = params; guard = guard; plans = plans })

-- the plans were read from the values of nodes
abbrev pub AreRead : Parameters → List Plan → Type 0
AreRead params plans = (values : List Data) × (each_of (plan_of params) 0 values ≡ Ok plans)

-- the description in a file's table, or its first fault
unfoldable pub description_of : Members → Result Description ConfigError
description_of root = do
  params ← params_in root
  guard ← guard_in root
  values ← ok_or (nodes_in root) TooManyNodes
  plans ← each_of (plan_of params) 0 values
  described_by params guard plans

abbrev pub or_no_toml : Option Members → Result Description ConfigError
or_no_toml None = Err Toml
or_no_toml (Some root) = description_of root

-- the same for the file's text
abbrev pub described : List ℕ → Result Description ConfigError
described text = or_no_toml (parse_document text)

-- the table in a text, unless memory ran out while it was parsed
abbrev pub IsTableOf : List ℕ → Result (BTreeMap (String Global) Value) ConfigError → Type 0
IsTableOf text (Ok root) = parse_document text ≡ Some (table_view root)
IsTableOf text (Err Toml) = parse_document text ≡ None
IsTableOf text (Err Memory) = Unit {0}
IsTableOf text (Err e) = ⊥
