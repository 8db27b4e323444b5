use Rattle.std.proofs.Common.{◌≡◌, ℕ, ◌<◌, ◌≤◌, length}
use denote.Text.{Utf8}
use denote.Shadow.{shadow}
use Rattle.toml.specs.Parse.{val, members}
use Rattle.toml.specs.Tables.{Nodes, no_nodes, close}
use Rattle.toml.specs.View.{table_view}
use Rattle.fr_reader.proofs.value.inline_table.Given as goal

abbrev pub invariant-members : goal.invariant-members
invariant-members l =
    shadow (Utf8 l.rest) × (length l.rest ≤ length l.fn.text)
    × ((depth n : ℕ) → length l.fn.text < n
    → (m : ℕ) × (nodes : Nodes) × (length l.rest < m) × (close nodes ≡ table_view l.table)
    × (members (val depth) n no_nodes l.fn.text ≡ members (val depth) m nodes l.rest))

abbrev pub decreases-members : goal.decreases-members
decreases-members l = length l.rest
