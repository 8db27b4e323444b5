-- The parts of commands that several programs have, by the rules of `clap`, and the refusals of words that follow from
-- the errors of `clap`.
use Rattle.std.specs.Prelude.{◌≡◌, ℕ, List, [], Option, Some, None, true, codes, option_map, option_and_then, ◌==◌}
use Rattle.std.specs.Prelude.{if◌then◌else◌, Bool, false, ◌&&◌, is_some}
use Rattle.std.specs.Str.{bytes_eq}
use Rattle.clap.specs.Words.{App, Row, Rule, Shape, Text, first_of, new_app, new_rule, with_rule}
use Rattle.clap.specs.declared.error.kind.ErrorKind.{ErrorKind}
use Rattle.clap.specs.declared.error.kind.ErrorKind.TheVariants as kind
use Rattle.fr_text.specs.Reading.{number_in}
use Rattle.fr_cli.specs.declared.error.OrderError.{OrderError}
use Rattle.fr_cli.specs.declared.error.OrderError.TheVariants as refusal

-- ---- programs and commands

-- a command that has only its name
abbrev pub named : Text → Shape
named name = (new_app name).top

-- the program without a command: a command is required, the words begin with it, and `clap` has no help
abbrev pub bare : Text → App
bare name = record {
  top = record (named name) {
    no_binary_name = true;
    subcommand_required = true;
    disable_help_flag = true;
    disable_help_subcommand = true;
  };
  subs = [];
}

-- the required argument FILE
abbrev pub the_file : Rule
the_file = record (new_rule (codes "FILE")) { required = true }

-- a command of this name, with a file
abbrev pub with_file : Text → App
with_file name = with_rule (new_app name) the_file

-- the required argument SCENARIO
abbrev pub the_scenario : Rule
the_scenario = record (new_rule (codes "SCENARIO")) { required = true }

-- the required number of cycles
abbrev pub the_cycles : Rule
the_cycles = record (new_rule (codes "cycles")) { long = Some (codes "cycles"); required = true }

-- ---- what the words enter

-- the name of the command
abbrev pub name_in : Option (Text × List Row) → Option Text
name_in = option_map (λ entered. entered.0)

abbrev pub IsNamed : Text → Option (Text × List Row) → Type 0
IsNamed name entered = name_in entered ≡ Some name

-- the first word of an argument of the command
abbrev pub word_in : Option (Text × List Row) → Text → Option Text
word_in entered id = option_and_then (λ e. first_of id e.1) entered

-- the number of cycles that a word spells: 1 to 1024, without a leading zero
abbrev pub cycles_in : Text → Option ℕ
cycles_in word = option_and_then (λ n. if n == 0 then None else Some n) (number_in 1025 word)

-- the number of cycles without history that a word spells: 1 to 4,000,000, without a leading zero
abbrev pub most_in : Text → Option ℕ
most_in word = option_and_then (λ n. if n == 0 then None else Some n) (number_in 4000001 word)

-- the first words of these arguments name a run: two files, and a number of cycles
abbrev pub has_run_by : (Text → Option Text) → Bool
has_run_by first_word =
    is_some (first_word (codes "FILE")) && is_some (first_word (codes "SCENARIO"))
    && is_some (option_and_then cycles_in (first_word (codes "cycles")))

-- the same for a run without history
abbrev pub has_long_run_by : (Text → Option Text) → Bool
has_long_run_by first_word =
    is_some (first_word (codes "FILE")) && is_some (first_word (codes "SCENARIO"))
    && is_some (option_and_then most_in (first_word (codes "cycles")))

-- the word is that of a flag that is set
abbrev pub is_true : Option Text → Bool
is_true None = false
is_true (Some word) = bytes_eq word (codes "true")

-- ---- refusals

-- every error but a failed allocation is a fault of the words
abbrev pub order_error_of : ErrorKind → OrderError
order_error_of kind.OutOfMemory = refusal.Memory
order_error_of _ = refusal.Usage

-- the exit status after such words
abbrev pub status_of_words : OrderError → ℕ
status_of_words refusal.Usage = 2
status_of_words refusal.Memory = 1

-- the printed text of the refusal
abbrev pub order_error_text : OrderError → List ℕ
order_error_text refusal.Usage = codes "usage"
order_error_text refusal.Memory = codes "refused Memory"
