-- The words that are a command of `fr_world`, by the rules of `clap` (project-defined).
use Rattle.std.specs.Prelude.{◌≡◌, ◌⊎◌, ◌<◌, List, [], length, codes, Bool, true, false, Option, Some, None}
use Rattle.std.specs.Prelude.{Result, Ok, Err, option_map, option_and_then, is_none, is_some, ◌&&◌, ◌||◌, ◌==◌, ℕ}
use Rattle.std.specs.Prelude.{if◌then◌else◌}
use Rattle.clap.specs.Words.{App, Rule, Text, fault_of, first_of, matches_of, new_rule, with_rule}
use Rattle.clap.specs.declared.builder.action.ArgAction.TheVariants.{SetTrue}
use Rattle.fr_cli.specs.Commands.{cycles_in, is_true, most_in, named, the_file}
use Rattle.fr_cli.specs.NodeLists.{nodes_in}
use Rattle.fr_cli.specs.declared.error.OrderError.{OrderError}
use Rattle.fr_cli.specs.declared.error.OrderError.TheVariants as refusal
use Rattle.fr_cli.specs.declared.world.WorldCommand.{WorldCommand}
use Rattle.fr_cli.specs.declared.world.WorldFiles.{WorldFiles}
use Rattle.fr_cli.specs.declared.world.Words.{Words as Given}
use Rattle.fr_cli.specs.declared.world.WorldRun.{WorldRun}
use Rattle.fr_cli.specs.declared.world.WorldRun.TheVariants.{Kept, Endless}
use Rattle.fr_text.specs.Reading.{number_in}

-- the program without arguments: the words begin with the first of them, and `clap` has no help
abbrev pub bare_command : App
bare_command = record {
  top = record (named (codes "fr_world")) { no_binary_name = true; disable_help_flag = true };
  subs = [];
}

abbrev pub cycles_option : Rule
cycles_option = record (new_rule (codes "cycles")) { long = Some (codes "cycles") }

abbrev pub endless_flag : Rule
endless_flag = record (new_rule (codes "endless")) { long = Some (codes "endless"); action = Some SetTrue }

abbrev pub record_option : Rule
record_option = record (new_rule (codes "record")) { long = Some (codes "record") }

abbrev pub capture_option : Rule
capture_option = record (new_rule (codes "capture")) { long = Some (codes "capture") }

abbrev pub trace_option : Rule
trace_option = record (new_rule (codes "trace")) { long = Some (codes "trace") }

abbrev pub keep_option : Rule
keep_option = record (new_rule (codes "keep")) { long = Some (codes "keep") }

abbrev pub nodes_option : Rule
nodes_option = record (new_rule (codes "trace-nodes")) { long = Some (codes "trace-nodes") }

-- with the options, of which `clap` requires none
unfoldable pub with_options : App → App
with_options app = with_rule (with_rule app cycles_option) endless_flag

-- with the options of files
unfoldable pub with_files : App → App
with_files app = with_rule (with_rule (with_rule app record_option) capture_option) trace_option

-- with the options of traced nodes and of cycles that are kept
unfoldable pub with_keep : App → App
with_keep app = with_rule (with_rule app nodes_option) keep_option

-- the program with a file and its options
abbrev pub the_command : App
the_command = with_keep (with_files (with_options (with_rule bare_command the_file)))

-- ---- what the words enter

-- A run with its history needs a word for cycles. A run without history needs none.
abbrev pub run_in : Bool → Option Text → Option WorldRun
run_in false None = None
run_in false (Some word) = option_map Kept (cycles_in word)
run_in true None = Some (Endless None)
run_in true (Some word) = option_map (λ cycles. Endless (Some cycles)) (most_in word)

-- the words of the options that only a run without history has
pub record Words : Type 0 where
  pub record_file : Option Text
  pub capture_file : Option Text
  pub trace_folder : Option Text
  pub trace_nodes : Option Text
  pub kept_cycles : Option Text

abbrev pub words_of : Given → Words
words_of words = record {
  record_file = option_map (λ name. name.now) words.record;
  capture_file = option_map (λ name. name.now) words.capture;
  trace_folder = option_map (λ name. name.now) words.trace;
  trace_nodes = option_map (λ word. word.now) words.nodes;
  kept_cycles = option_map (λ word. word.now) words.keep;
}

-- The names of the files to which a run writes: its record, its capture, and the folder of its traces. The folder gets
-- the traces of some nodes, or of all.
pub record Files : Type 0 where
  pub record_file : Option Text
  pub capture_file : Option Text
  pub trace_folder : Option Text
  pub trace_nodes : Option (List Bool)

-- a run with its history has no such word, and nodes are named beside a folder
abbrev pub are_allowed : Bool → Words → Bool
are_allowed true words = is_some words.trace_folder || is_none words.trace_nodes
are_allowed false words =
    (is_none words.record_file && is_none words.capture_file && is_none words.trace_folder)
    && is_none words.trace_nodes && is_none words.kept_cycles

-- without the word no nodes are named
abbrev pub traced_in : Option Text → Option (Option (List Bool))
traced_in None = Some None
traced_in (Some word) = option_map (λ nodes. Some nodes) (nodes_in word)

-- the number of kept cycles that a word spells: 1 to 64, without a leading zero
abbrev pub few_in : Text → Option ℕ
few_in word = option_and_then (λ n. if n == 0 then None else Some n) (number_in 65 word)

-- without the word no number is given
abbrev pub kept_in : Option Text → Option (Option ℕ)
kept_in None = Some None
kept_in (Some word) = option_map (λ n. Some n) (few_in word)

-- a command: the cluster file, the run, the files to which it writes, and the number of cycles that are kept
pub record Command : Type 0 where
  pub file : Text
  pub run : WorldRun
  pub files : Files
  pub keep : Option ℕ

abbrev pub files_by : WorldFiles → Files
files_by files = record {
  record_file = option_map (λ name. name.now) files.record;
  capture_file = option_map (λ name. name.now) files.capture;
  trace_folder = option_map (λ name. name.now) files.trace;
  trace_nodes = files.trace_nodes;
}

abbrev pub given_by : WorldCommand → Command
given_by command = record {
  file = command.file.now;
  run = command.run;
  files = files_by command.files;
  keep = command.keep;
}

-- the files that the words name, if the word for nodes spells some or is absent
abbrev pub with_nodes : Words → Option (Option (List Bool)) → Option Files
with_nodes words None = None
with_nodes words (Some nodes) = Some (record {
  record_file = words.record_file;
  capture_file = words.capture_file;
  trace_folder = words.trace_folder;
  trace_nodes = nodes;
})

abbrev pub files_in : Words → Option Files
files_in words = with_nodes words (traced_in words.trace_nodes)

-- the command, if the words of its arguments spell a file, a run, a number of kept cycles or none, and files
abbrev pub with_found : Text → WorldRun → Option ℕ → Option Files → Option Command
with_found file run keep None = None
with_found file run keep (Some files) = Some (record { file = file; run = run; files = files; keep = keep })

abbrev pub with_kept : Text → WorldRun → Option (Option ℕ) → Option Files → Option Command
with_kept file run None files = None
with_kept file run (Some keep) files = with_found file run keep files

abbrev pub with_run : Text → Option WorldRun → Option (Option ℕ) → Option Files → Option Command
with_run file None keep files = None
with_run file (Some run) keep files = with_kept file run keep files

abbrev pub with_file : Option Text → Option WorldRun → Option (Option ℕ) → Option Files → Option Command
with_file None run keep files = None
with_file (Some file) run keep files = with_run file run keep files

-- the same, if the run may have these words
abbrev pub if_allowed : Bool → Option Command → Option Command
if_allowed true given = given
if_allowed false given = None

-- the words of the options
abbrev pub words_in : (Text → Option Text) → Words
words_in first_word = record {
  record_file = first_word (codes "record");
  capture_file = first_word (codes "capture");
  trace_folder = first_word (codes "trace");
  trace_nodes = first_word (codes "trace-nodes");
  kept_cycles = first_word (codes "keep");
}

-- the command of a file, a run and other words
abbrev pub given_with : Bool → Option Text → Option WorldRun → Words → Option Command
given_with endless file run words =
    if_allowed (are_allowed endless words) (with_file file run (kept_in words.kept_cycles) (files_in words))

abbrev pub given_in : (Text → Option Text) → Option Command
given_in first_word =
    given_with (is_true (first_word (codes "endless"))) (first_word (codes "FILE"))
    (run_in (is_true (first_word (codes "endless"))) (first_word (codes "cycles"))) (words_in first_word)

-- the first word of an argument, if `clap` accepts these words
abbrev pub entered : List Text → Text → Option Text
entered words id = first_of id (matches_of the_command words)

-- A command is that of the words, and `clap` finds no fault with these. Words are refused as no command only if it
-- finds a fault, or if they spell no run. `Memory` may come for any words.
abbrev pub IsAnswer : List Text → Result WorldCommand OrderError → Type 0
IsAnswer words (Ok command) =
    (fault_of the_command words ≡ []) × (given_in (entered words) ≡ Some (given_by command))
IsAnswer words (Err refusal.Usage) = (0 < length (fault_of the_command words)) ⊎ (given_in (entered words) ≡ None)
IsAnswer words (Err refusal.Memory) = Unit {0}
