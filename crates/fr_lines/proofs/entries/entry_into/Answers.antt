use Rattle.std.proofs.Common.{◌≡◌, true, List, ℕ, Option, Some, None, sym, ap, ◌∙◌}
use Rattle.std.specs.Prelude.{IfSome, option_map}
use Rattle.fr_lines.proofs.EntryLemmas.{entry_line_takes, entry_line_again, entry_fits, entry_told}
use Rattle.fr_lines.specs.Bare.{with_bytes, BareEntry}
use Rattle.fr_lines.specs.declared.bare.EntryBytes.{EntryBytes}
use Rattle.fr_lines.specs.declared.versions.Version.{Version}
use Rattle.fr_lines.specs.Reading.{entry_in}
use Rattle.fr_lines.specs.Spelled.{IsSpelledEntry}
use Rattle.fr_lines.specs.Spelling.{entry_words}
use Rattle.fr_lines.specs.Versions.{tells}
use Rattle.fr_text.specs.Spaces.{words_of, line_of}
use Rattle.fr_lines.proofs.entries.entry_into.Goals as goal

found : (v : Version) (bytes : EntryBytes) (o : Option BareEntry) (line : List ℕ)
    → option_map (with_bytes bytes) o ≡ entry_in v (words_of line)
    → IfSome o (λ e. line ≡ line_of (entry_words (with_bytes bytes e)))
found v bytes None line h = tt
found v bytes (Some e) line h = entry_line_takes v line (with_bytes bytes e) (sym h)

fits : (v : Version) (bytes : EntryBytes) (o : Option BareEntry) (line : List ℕ)
    → option_map (with_bytes bytes) o ≡ entry_in v (words_of line)
    → IfSome o (λ e. IsSpelledEntry (with_bytes bytes e))
fits v bytes None line h = tt
fits v bytes (Some e) line h = entry_fits v (words_of line) (with_bytes bytes e) (sym h)

told : (v : Version) (bytes : EntryBytes) (o : Option BareEntry) (line : List ℕ)
    → option_map (with_bytes bytes) o ≡ entry_in v (words_of line)
    → IfSome o (λ e. tells v (with_bytes bytes e) ≡ true)
told v bytes None line h = tt
told v bytes (Some e) line h = entry_told v (words_of line) (with_bytes bytes e) (sym h)

pub returns-clause-found : goal.returns-clause-found
returns-clause-found c = found c.args.version c.entry_in.new.bytes c.entry_in.result c.args.line.now c.entry_in.ensures

pub returns-clause-fits : goal.returns-clause-fits
returns-clause-fits c = fits c.args.version c.entry_in.new.bytes c.entry_in.result c.args.line.now c.entry_in.ensures

pub returns-clause-told : goal.returns-clause-told
returns-clause-told c = told c.args.version c.entry_in.new.bytes c.entry_in.result c.args.line.now c.entry_in.ensures

pub returns-clause-only : goal.returns-clause-only
returns-clause-only c e is told text =
    c.entry_in.ensures ∙ ap (λ l. entry_in c.args.version (words_of l)) text ∙ entry_line_again c.args.version e is told
