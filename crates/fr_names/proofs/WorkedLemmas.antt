-- Worked examples: forms of names, the names in a table, and what a name is for.
use Rattle.std.proofs.Common.{◌≡◌, ℕ, true, false, List, [], ◌∷◌, replicate, Some, None, pos, refl}
use Rattle.std.specs.Prelude.{codes}
use Rattle.fr_names.specs.FileNames.{name_in, name_of, values_at, names_of_node, names_in}
use Rattle.fr_names.specs.Names.{is_name, NamesOfNode, node_named, buffer_named}
use Rattle.fr_schedule.specs.TableReading.{array_in, word_at}
use Rattle.toml.specs.Data.{Data, string, integer, array, table, no_items, item, Members, no_members, member}

-- 1 to 32 letters, digits and marks
pub forms : (is_name (codes "Wheel_speeds-2.front") ≡ true) × (is_name (codes "") ≡ false)
    × (is_name (codes "two words") ≡ false) × (is_name (replicate 32 97) ≡ true) × (is_name (replicate 33 97) ≡ false)
forms = (refl, refl, refl, refl, refl)

abbrev named : List ℕ → Members → Data
named word others = table (member (codes "name") (string word) others)

abbrev node_of : Data → Data → List ℕ → Data
node_of first second word =
    table (member (codes "buffer") (array (item first (item second no_items))) (member (codes "name") (string word)
    no_members))

-- two nodes; the second buffer of the first node is no table, and the second node's name has a blank
abbrev root : Members
root = member (codes "node") (array (item (node_of (named (codes "wheel") no_members) (integer (pos 7)) (codes "rack"))
    (item (node_of (named (codes "wheel") no_members) (named (codes "wheel") no_members) (codes "a b")) no_items)))
    no_members

abbrev both : List NamesOfNode
both =
    record { name = Some (codes "rack"); buffers = Some (codes "wheel") ∷ None ∷ [] }
    ∷ record { name = None; buffers = Some (codes "wheel") ∷ Some (codes "wheel") ∷ [] } ∷ []

pub read : names_in root ≡ both
unfolding names_in names_of_node name_of name_in values_at array_in word_at
read = refl

-- a name that two buffers of the node have is for none of them
pub found : (node_named both (codes "rack") ≡ Some 0) × (node_named both (codes "a b") ≡ None)
    × (buffer_named both 0 (codes "wheel") ≡ Some 0) × (buffer_named both 1 (codes "wheel") ≡ None)
    × (buffer_named both 2 (codes "wheel") ≡ None)
found = (refl, refl, refl, refl, refl)
