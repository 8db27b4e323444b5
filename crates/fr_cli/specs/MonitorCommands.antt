-- The words that are a command of `fr_monitor`, by the rules of `clap` (project-defined).
use Rattle.std.specs.Prelude.{◌≡◌, ◌⊎◌, ◌<◌, ◌==◌, ℕ, List, [], length, codes, Bool, true, Option, Some, None}
use Rattle.std.specs.Prelude.{Result, Ok, Err, option_and_then, if◌then◌else◌}
use Rattle.std.specs.Str.{bytes_eq}
use Rattle.clap.specs.Words.{App, Rule, Text, fault_of, first_of, matches_of, new_rule, with_rule}
use Rattle.clap.specs.declared.builder.action.ArgAction.TheVariants.{SetTrue}
use Rattle.fr_slots.specs.declared.channel.Channel.{Channel}
use Rattle.fr_slots.specs.declared.channel.Channel.TheVariants.{A, B}
use Rattle.fr_text.specs.Reading.{number_in}
use Rattle.fr_cli.specs.Commands.{named, the_file, is_true}
use Rattle.fr_cli.specs.declared.error.OrderError.{OrderError}
use Rattle.fr_cli.specs.declared.error.OrderError.TheVariants as refusal
use Rattle.fr_cli.specs.declared.monitor.MonitorCommand.{MonitorCommand}

-- the program without arguments: the words begin with the first of them, and `clap` has no help
abbrev pub bare_command : App
bare_command = record {
  top = record (named (codes "fr_monitor")) { no_binary_name = true; disable_help_flag = true };
  subs = [];
}

abbrev pub option_named : Text → Rule
option_named name = record (new_rule name) { long = Some name }

abbrev pub the_flag : Rule
the_flag = record (new_rule (codes "whole")) { long = Some (codes "whole"); action = Some SetTrue }

abbrev pub the_frames_flag : Rule
the_frames_flag = record (new_rule (codes "frames")) { long = Some (codes "frames"); action = Some SetTrue }

unfoldable pub with_first : App → App
with_first app = with_rule (with_rule app (option_named (codes "findings"))) the_flag

unfoldable pub with_channel_option : App → App
with_channel_option app = with_rule (with_first app) (option_named (codes "channel"))

unfoldable pub with_macrotick_option : App → App
with_macrotick_option app = with_rule (with_channel_option app) (option_named (codes "macrotick"))

-- with the options, none of which is required
unfoldable pub with_options : App → App
with_options app = with_rule (with_macrotick_option app) the_frames_flag

-- the program with a file and its options
abbrev pub the_command : App
the_command = with_options (with_rule bare_command the_file)

-- ---- what the words enter

-- a number from 0 to 4294967295, without a leading zero
abbrev pub number_asked : Text → Option ℕ
number_asked word = number_in 4294967296 word

-- the most lines of each name, 20 without a word
abbrev pub findings_asked : Option Text → Option ℕ
findings_asked None = Some 20
findings_asked (Some word) = number_asked word

abbrev pub some_number : ℕ → Option ℕ
some_number n = if n == 0 then None else Some n

-- the length of a macrotick in nanoseconds, 0 without a word
abbrev pub macrotick_asked : Option Text → Option ℕ
macrotick_asked None = Some 0
macrotick_asked (Some word) = option_and_then some_number (number_asked word)

-- the only channel that is judged, if there is one
abbrev pub channel_asked : Option Text → Option (Option Channel)
channel_asked None = Some None
channel_asked (Some word) =
    if bytes_eq word (codes "A") then Some (Some A)
    else if bytes_eq word (codes "B") then Some (Some B)
    else None

pub record Given : Type 0 where
  pub file : Text
  pub findings : ℕ
  pub whole : Bool
  pub channel : Option Channel
  pub macrotick : ℕ
  pub frames : Bool

abbrev pub given_of : MonitorCommand → Given
given_of c = record {
  file = c.file.now;
  findings = c.findings;
  whole = c.whole;
  channel = c.channel;
  macrotick = c.macrotick;
  frames = c.frames;
}

abbrev pub with_macrotick : Text → ℕ → Bool → Option Channel → Option ℕ → Bool → Option Given
with_macrotick file findings whole channel None frames = None
with_macrotick file findings whole channel (Some macrotick) frames = Some (record {
  file = file;
  findings = findings;
  whole = whole;
  channel = channel;
  macrotick = macrotick;
  frames = frames;
})

abbrev pub with_channel : Text → ℕ → Bool → Option (Option Channel) → Option ℕ → Bool → Option Given
with_channel file findings whole None macrotick frames = None
with_channel file findings whole (Some channel) macrotick frames =
    with_macrotick file findings whole channel macrotick frames

abbrev pub with_findings : Text → Option ℕ → Bool → Option (Option Channel) → Option ℕ → Bool → Option Given
with_findings file None whole channel macrotick frames = None
with_findings file (Some findings) whole channel macrotick frames =
    with_channel file findings whole channel macrotick frames

abbrev pub with_file : Option Text → Option ℕ → Bool → Option (Option Channel) → Option ℕ → Bool → Option Given
with_file None findings whole channel macrotick frames = None
with_file (Some file) findings whole channel macrotick frames =
    with_findings file findings whole channel macrotick frames

-- the command of the first words of these arguments
abbrev pub given_in : (Text → Option Text) → Option Given
given_in first_word =
    with_file (first_word (codes "FILE")) (findings_asked (first_word (codes "findings")))
    (is_true (first_word (codes "whole"))) (channel_asked (first_word (codes "channel")))
    (macrotick_asked (first_word (codes "macrotick"))) (is_true (first_word (codes "frames")))

-- the first word of an argument, if `clap` accepts these words
abbrev pub entered : List Text → Text → Option Text
entered words id = first_of id (matches_of the_command words)

-- A command is that of the words, and `clap` finds no fault with these. Words are refused as no command only if it
-- finds a fault, or if the word of an option is out of its range. `Memory` may come for any words.
abbrev pub IsAnswer : List Text → Result MonitorCommand OrderError → Type 0
IsAnswer words (Ok command) = (fault_of the_command words ≡ []) × (given_in (entered words) ≡ Some (given_of command))
IsAnswer words (Err refusal.Usage) = (0 < length (fault_of the_command words)) ⊎ (given_in (entered words) ≡ None)
IsAnswer words (Err refusal.Memory) = Unit {0}
