-- Lists of nodes (project-defined).
use Rattle.std.specs.Prelude.{ℕ, ◌==◌, Bool, true, false, List, Option, Some, None, replicate}
use Rattle.std.specs.Prelude.{slice_get, slice_index_or}
use Rattle.std.specs.Prelude.{slice_set, if◌then◌else◌, is_some}
use Rattle.std.specs.List.{fold, slice_split}
use Rattle.clap.specs.Words.{Text}
use Rattle.fr_text.specs.Reading.{number_in}

-- the pieces of a list, between its commas
abbrev pub pieces_of : Text → List Text
pieces_of word = slice_split (λ byte. byte == 44) word

-- no node is named
abbrev pub no_nodes : List Bool
no_nodes = replicate 16 false

-- one more node, which wasn't named before
abbrev pub with_node : List Bool → Option ℕ → Option (List Bool)
with_node nodes None = None
with_node nodes (Some node) = if slice_index_or nodes node false then None else Some (slice_set nodes node true)

-- the node that the piece spells: 0 to 15, without a leading zero
abbrev pub with_piece : List Bool → Text → Option (List Bool)
with_piece nodes piece = with_node nodes (number_in 16 piece)

abbrev pub and_piece : Option (List Bool) → Text → Option (List Bool)
and_piece None piece = None
and_piece (Some nodes) piece = with_piece nodes piece

-- the nodes that the pieces name, each once
abbrev pub nodes_after : Option (List Bool) → List Text → Option (List Bool)
nodes_after nodes pieces = fold and_piece nodes pieces

-- the nodes of a list of 16 pieces at most
abbrev pub nodes_in : Text → Option (List Bool)
nodes_in word =
    if is_some (slice_get (pieces_of word) 16) then None else nodes_after (Some no_nodes) (pieces_of word)
