use Rattle.std.proofs.Common.{◌∙◌, rules}
use Rattle.fr_lines.specs.Reading.{entry_in}
use Rattle.fr_lines.proofs.entries.entry_by_word.Goals as goal

pub returns-then-eq-2 : goal.returns-then-eq-2
unfolding entry_in
returns-then-eq-2 c = c.withdraw_of.ensures c.args.bytes.now ∙ search rules

pub returns-then-eq-3 : goal.returns-then-eq-3
unfolding entry_in
returns-then-eq-3 c = c.read_of.ensures c.args.bytes.now ∙ search rules

pub returns-then-eq-4 : goal.returns-then-eq-4
unfolding entry_in
returns-then-eq-4 c = c.pop_of.ensures c.args.bytes.now ∙ search rules

pub returns-then-eq-5 : goal.returns-then-eq-5
unfolding entry_in
returns-then-eq-5 c = c.fetch_by_words.ensures c.args.bytes.now ∙ search rules
