-- The names that a cluster file gives to its nodes and buffers (project-defined). Numbers are those of the cluster: the
-- first node is node 0, and the first buffer of a node is buffer 0.
use Rattle.std.specs.Prelude.{◌≡◌, ℕ, List, [], map, take, codes, String, Option, Some, None, option_map}
use Rattle.std.specs.Prelude.{option_and_then}
use Rattle.std.specs.BTreeMap.{BTreeMap}
use Rattle.std.specs.declared.alloc.Global.{Global}
use Rattle.fr_names.specs.Names.{is_name, NamesOfNode}
use Rattle.fr_schedule.specs.Clusters.{most_nodes}
use Rattle.fr_schedule.specs.NodeTables.{checked}
use Rattle.fr_schedule.specs.TableReading.{array_in, word_at}
use Rattle.fr_slots.specs.Numbers.{most_lines}
use Rattle.toml.specs.Data.{Data, Members, get_member, as_table}
use Rattle.toml.specs.declared.value.Value.{Value}
use Rattle.toml.specs.Parse.{parse_document}
use Rattle.toml.specs.View.{table_view}

-- ---- the name of a node or a buffer

-- the string under the key `name`, if it has the form of a name
unfoldable pub name_in : Members → Option (List ℕ)
name_in table = option_and_then (checked is_name) (word_at (codes "name") table)

-- the same for a value, which has no name if it isn't a table
unfoldable pub name_of : Data → Option (List ℕ)
name_of value = option_and_then name_in (as_table value)

-- ---- the values of nodes and of buffers

abbrev pub or_none : Option (List Data) → List Data
or_none None = []
or_none (Some values) = values

-- the values of the array under the key, or none if there is no array
unfoldable pub values_at : List ℕ → Members → List Data
values_at key table = or_none (option_and_then array_in (get_member key table))

-- the same for the table of a node, or none if the value isn't a table
abbrev pub buffers_in : Option Members → List Data
buffers_in None = []
buffers_in (Some table) = values_at (codes "buffer") table

-- ---- all names

-- the names in a node's value; a cluster has at most 64 buffers a node
unfoldable pub names_of_node : Data → NamesOfNode
names_of_node value = record {
  name = name_of value;
  buffers = map name_of (take most_lines (buffers_in (as_table value)));
}

-- the names in a file's table; a cluster has at most 16 nodes
unfoldable pub names_in : Members → List NamesOfNode
names_in root = map names_of_node (take most_nodes (values_at (codes "node") root))

abbrev pub names_or_none : Option Members → List NamesOfNode
names_or_none None = []
names_or_none (Some root) = names_in root

-- the names in a file's text; a text that isn't TOML has none
abbrev pub names_of : List ℕ → List NamesOfNode
names_of text = names_or_none (parse_document text)

-- the table in a text, or none if the text isn't TOML
abbrev pub IsTableIn : List ℕ → Option (BTreeMap (String Global) Value) → Type 0
IsTableIn text table = parse_document text ≡ option_map table_view table
