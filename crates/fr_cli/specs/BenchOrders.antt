-- The words that are an order of `fr_bench`, by the rules of `clap`, and the refusals that follow from its errors.
use Rattle.std.specs.Prelude.{◌≡◌, ◌⊎◌, ◌<◌, List, [], length, Option, Some, Result, Ok, Err, true, codes, is_some}
use Rattle.std.specs.Prelude.{option_and_then, false}
use Rattle.clap.specs.declared.builder.action.ArgAction.TheVariants.{SetTrue}
use Rattle.clap.specs.Words.{App, Row, Rule, Text, fault_of, first_of, new_rule, subcommand_of}
use Rattle.clap.specs.Words.{with_rule, with_subcommand}
use Rattle.fr_cli.specs.declared.command.Order.{Order}
use Rattle.fr_cli.specs.declared.command.Order.TheVariants as the_order
use Rattle.fr_cli.specs.declared.error.OrderError.{OrderError}
use Rattle.fr_cli.specs.declared.error.OrderError.TheVariants as refusal
use Rattle.fr_cli.specs.Commands.{IsNamed, bare, cycles_in, has_run_by, is_true, named, the_cycles, the_scenario}
use Rattle.fr_cli.specs.Commands.{with_file, word_in}

-- the program with the commands `audit` and `check`, and then with `plan` too
abbrev pub two_commands : App
two_commands =
    with_subcommand (with_subcommand (bare (codes "fr_bench")) (named (codes "audit"))) (with_file (codes "check")).top

abbrev pub three_commands : App
three_commands = with_subcommand two_commands (with_file (codes "plan")).top

abbrev pub four_commands : App
four_commands = with_subcommand three_commands (named (codes "midpoint"))

-- the flag of a free-running run, which isn't required
abbrev pub the_flag : Rule
the_flag = record (new_rule (codes "free")) { long = Some (codes "free"); action = Some SetTrue }

abbrev pub run_files : App
run_files = with_rule (with_file (codes "run")) the_scenario

abbrev pub run_command : App
run_command = with_rule (with_rule run_files the_cycles) the_flag

-- the program with all its commands
abbrev pub the_commands : App
the_commands = with_subcommand four_commands run_command.top

-- the word for FILE
abbrev pub file_in : Option (Text × List Row) → Option Text
file_in = option_and_then (λ entered. first_of (codes "FILE") entered.1)

-- ---- a run

-- the run has the files, the number of cycles and the flag of these arguments
abbrev pub IsRunBy : (Text → Option Text) → Order → Type 0
IsRunBy first_word the_order.Audit = ⊥
IsRunBy first_word (the_order.Check file) = ⊥
IsRunBy first_word (the_order.Plan file) = ⊥
IsRunBy first_word the_order.Midpoint = ⊥
IsRunBy first_word (the_order.Run cluster scenario cycles free) =
    (first_word (codes "FILE") ≡ Some cluster.now)
    × (first_word (codes "SCENARIO") ≡ Some scenario.now)
    × (option_and_then cycles_in (first_word (codes "cycles")) ≡ Some cycles)
    × (free ≡ is_true (first_word (codes "free")))

-- one of the commands was entered, with all its required arguments
abbrev pub HasFile : Option (Text × List Row) → Type 0
HasFile entered = is_some (file_in entered) ≡ true

abbrev pub IsWhole : Option (Text × List Row) → Type 0
IsWhole entered =
    (IsNamed (codes "audit") entered ⊎ IsNamed (codes "midpoint") entered)
    ⊎ (((IsNamed (codes "check") entered ⊎ IsNamed (codes "plan") entered) × HasFile entered)
    ⊎ (IsNamed (codes "run") entered × (has_run_by (word_in entered) ≡ true)))

-- a run was entered whose word for cycles spells no number of cycles, or a file of which is missing
abbrev pub LacksRun : Option (Text × List Row) → Type 0
LacksRun entered = IsNamed (codes "run") entered × (has_run_by (word_in entered) ≡ false)

-- the order is that of the entered command, with its arguments
abbrev pub IsOrder : Option (Text × List Row) → Order → Type 0
IsOrder entered the_order.Audit = IsNamed (codes "audit") entered
IsOrder entered (the_order.Check file) = IsNamed (codes "check") entered × (file_in entered ≡ Some file.now)
IsOrder entered (the_order.Plan file) = IsNamed (codes "plan") entered × (file_in entered ≡ Some file.now)
IsOrder entered the_order.Midpoint = IsNamed (codes "midpoint") entered
IsOrder entered (the_order.Run cluster scenario cycles free) =
    IsNamed (codes "run") entered × IsRunBy (word_in entered) (the_order.Run cluster scenario cycles free)

-- An order is that of the words, and `clap` finds no fault with these. Words are refused as no command only if it finds
-- a fault, or if they enter a run that lacks something. `Memory` may come for any words.
abbrev pub IsAnswer : List Text → Result Order OrderError → Type 0
IsAnswer words (Ok order) = (fault_of the_commands words ≡ []) × IsOrder (subcommand_of the_commands words) order
IsAnswer words (Err refusal.Usage) =
    (0 < length (fault_of the_commands words)) ⊎ LacksRun (subcommand_of the_commands words)
IsAnswer words (Err refusal.Memory) = Unit {0}
