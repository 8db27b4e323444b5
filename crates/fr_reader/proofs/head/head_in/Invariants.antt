use Rattle.std.proofs.Common.{length}
use denote.Text.{Utf8}
use denote.Shadow.{shadow}
use Rattle.fr_reader.specs.UsualText.{IsHead}
use Rattle.toml.specs.View.{table_view}
use Rattle.fr_reader.proofs.head.head_in.Given as goal

abbrev pub invariant-tables : goal.invariant-tables
invariant-tables l = shadow (Utf8 l.rest) × IsHead l.fn.text (table_view l.root) l.rest

abbrev pub decreases-tables : goal.decreases-tables
decreases-tables l = length l.rest
