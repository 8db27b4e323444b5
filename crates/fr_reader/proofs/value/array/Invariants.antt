use Rattle.std.proofs.Common.{◌≡◌, ℕ, ◌<◌, ◌≤◌, length}
use denote.Text.{Utf8}
use denote.Shadow.{shadow}
use Rattle.fr_reader.specs.UsualText.{inner_depth}
use Rattle.toml.specs.Data.{no_items}
use Rattle.toml.specs.Parse.{val, items}
use Rattle.toml.specs.View.{items_view}
use Rattle.fr_reader.proofs.value.array.Given as goal

abbrev pub invariant-items : goal.invariant-items
invariant-items l =
    shadow (Utf8 l.rest) × (length l.rest ≤ length l.fn.text)
    × ((n : ℕ) → length l.fn.text < n → (m : ℕ) × (length l.rest < m)
    × (items (val inner_depth) n no_items l.fn.text ≡ items (val inner_depth) m (items_view l.values.items) l.rest))

abbrev pub decreases-items : goal.decreases-items
decreases-items l = length l.rest
