use Rattle.std.proofs.Common.{◌≡◌, ℕ, ◌<◌, ◌≤◌, List, length}
use denote.Text.{Utf8}
use denote.Shadow.{shadow}
use Rattle.fr_reader.specs.UsualText.{IsFrame, Leads}
use Rattle.toml.specs.Tables.{Nodes, no_nodes, close}
use Rattle.toml.specs.View.{table_view}
use Rattle.fr_reader.proofs.section.pairs_in.Given as goal

abbrev pub invariant-pairs : goal.invariant-pairs
invariant-pairs l =
    shadow (Utf8 l.rest) × (length l.rest ≤ length l.fn.text)
    × ((section : List (List ℕ)) (frame : Nodes → Nodes) → IsFrame section frame → (n : ℕ) → length l.fn.text < n
    → (nodes : Nodes) × (close nodes ≡ table_view l.table)
    × Leads n (frame no_nodes, section) l.fn.text (frame nodes, section) l.rest)

abbrev pub decreases-pairs : goal.decreases-pairs
decreases-pairs l = length l.rest
