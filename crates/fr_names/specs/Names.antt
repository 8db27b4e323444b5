-- The names of a cluster's nodes and of their buffers, and the one that a name is for (project-defined).
use Rattle.std.specs.Prelude.{ℕ, nat_le, ◌==◌, Bool, false, ◌&&◌, ◌||◌, List, length, position, slice_get, count_by}
use Rattle.std.specs.Prelude.{Option, Some, None, option_and_then, if◌then◌else◌}
use Rattle.std.specs.List.{list_all}
use Rattle.std.specs.Str.{bytes_eq}

-- ---- the form of a name

abbrev pub is_letter : ℕ → Bool
is_letter byte = nat_le 65 byte && nat_le byte 90 || nat_le 97 byte && nat_le byte 122

abbrev pub is_digit : ℕ → Bool
is_digit byte = nat_le 48 byte && nat_le byte 57

-- `_`, `-` or `.`
abbrev pub is_mark : ℕ → Bool
is_mark byte = byte == 95 || byte == 45 || byte == 46

abbrev pub is_name_byte : ℕ → Bool
is_name_byte byte = is_letter byte || is_digit byte || is_mark byte

abbrev pub longest_name : ℕ
longest_name = 32

-- 1 to 32 of these bytes
abbrev pub is_name : List ℕ → Bool
is_name word = nat_le 1 (length word) && nat_le (length word) longest_name && list_all is_name_byte word

-- ---- the names of a cluster

-- the name of a node, and of each of its buffers, where they have one
pub record NamesOfNode : Type 0 where
  pub name : Option (List ℕ)
  pub buffers : List (Option (List ℕ))

-- ---- the one that a name is for

abbrev pub is_called : List ℕ → Option (List ℕ) → Bool
is_called word None = false
is_called word (Some name) = bytes_eq name word

-- the place of the only item that passes the test, if exactly one does
abbrev pub only_place : {A : Type 0} → (A → Bool) → List A → Option ℕ
only_place test items = if count_by test items == 1 then position test items else None

abbrev pub is_node_called : List ℕ → NamesOfNode → Bool
is_node_called word node = is_called word node.name

-- the node that has this name, if exactly one has it
abbrev pub node_named : List NamesOfNode → List ℕ → Option ℕ
node_named names word = only_place (is_node_called word) names

-- the buffer of the node that has this name, if exactly one of the node's buffers has it
abbrev pub buffer_named : List NamesOfNode → ℕ → List ℕ → Option ℕ
buffer_named names node word = option_and_then (λ n. only_place (is_called word) n.buffers) (slice_get names node)
