use Rattle.std.proofs.Common.{◌≡◌, ◌≤◌, ◌++◌, ◌∷◌, [], length, map}
use Rattle.std.specs.Prelude.{option_map}
use Rattle.fr_scenario.specs.Choosing.{chosen_said, each_chosen, elements_left, onto}
use Rattle.fr_scenario.specs.Lists.{few, most_meant}
use Rattle.fr_scenario.proofs.lists.+add_choices.Given as goal

abbrev pub decreases-add_choices : goal.decreases-add_choices
decreases-add_choices l = length l.left.now

-- the statements so far, and those of the elements that are left
abbrev pub invariant-loop-elements : goal.invariant-loop-elements
invariant-loop-elements l = record {
  most : length l.said.items ≤ most_meant;
  chosen : l.chosen.items ≡ l.fn.chosen.items;
  said : few (onto l.said.items (each_chosen
      (λ element. chosen_said l.names (map (λ word. word.now) l.fn.chosen.items ++ element ∷ [])
      (map (λ word. word.now) l.others))
      (elements_left (option_map (λ rest. rest.now) l.elements))))
      ≡ few (onto l.fn.said.items
      (chosen_said l.names (map (λ word. word.now) l.fn.chosen.items) (map (λ word. word.now) l.left)));
}

abbrev pub decreases-loop-elements : goal.decreases-loop-elements
decreases-loop-elements l = length (elements_left (option_map (λ rest. rest.now) l.elements))
