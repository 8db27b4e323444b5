-- Arrays of a cluster file beside slices of values.
use Rattle.std.proofs.Common.{◌≡◌, ℕ, nat_le, ◌&&◌, List, [], ◌∷◌, length, map, Some, None, cond, refl, ap, ◌∙◌}
use Rattle.std.proofs.lemmas.List.{length-map}
use Rattle.std.proofs.lemmas.List.Folds.{list_all-map}
use Rattle.std.specs.List.{list_all}
use Rattle.fr_schedule.specs.TableReading.{values_of, is_table, are_tables, few_tables}
use Rattle.fr_slots.specs.Numbers.{most_lines}
use Rattle.toml.specs.Data.{Data}
use Rattle.toml.specs.View.{view, items_of}
use Rattle.toml.specs.declared.value.Value.{Value}

-- the items of a list give that list
pub values_of-items : (values : List Data) → values_of (items_of values) ≡ values
values_of-items [] = refl
values_of-items (value ∷ values) = ap (λ (vs : List Data). value ∷ vs) (values_of-items values)

pub few_tables_seen : (values : List Value) → few_tables (map view values) ≡ cond
    (nat_le (length values) most_lines && list_all (λ value. is_table (view value)) values)
    (Some (map view values)) None
few_tables_seen values =
    ap (λ (n : ℕ). cond (nat_le n most_lines && are_tables (map view values)) (Some (map view values)) None)
    (length-map values view)
    ∙ ap (λ b. cond (nat_le (length values) most_lines && b) (Some (map view values)) None)
    (list_all-map is_table view values)
