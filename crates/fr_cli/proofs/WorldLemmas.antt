-- The answer to words follows from a parse, since the command is of the kind for which `clap` reports all faults.
use Rattle.std.proofs.Common.{◌≡◌, ◌∷◌, [], Option, Some, None, Err, List, option_map, sym, refl, true, arith}
use Rattle.std.proofs.Common.{inl, inr, codes}
use Rattle.std.specs.Option.{ok_or}
use Rattle.clap.specs.Values.{kind_of}
use Rattle.clap.specs.Words.{HasKind, IsAmong, Kinds, Text, fault_of, is_simple, is_simple_and_free}
use Rattle.clap.specs.declared.error.Error.{Error}
use Rattle.clap.proofs.OnLiterals.{clap_on_literals}
use Rattle.fr_cli.specs.Commands.{is_true, order_error_of}
use Rattle.fr_cli.specs.declared.error.OrderError.{OrderError}
use Rattle.fr_cli.specs.declared.error.OrderError.TheVariants as refusal
use Rattle.fr_cli.specs.WorldCommands.{IsAnswer, entered, given_by, given_in, given_with, run_in, the_command}
use Rattle.fr_cli.specs.WorldCommands.{with_files, with_keep, with_options, words_in}
use Rattle.fr_cli.specs.declared.world.WorldCommand.{WorldCommand}

pub are_simple : is_simple the_command ≡ true
unfolding clap_on_literals with_options with_files with_keep
are_simple = refl

pub are_free : is_simple_and_free the_command ≡ true
unfolding clap_on_literals with_options with_files with_keep
are_free = refl

words_alike : (f g : Text → Option Text) → ((id : Text) → f id ≡ g id) → words_in f ≡ words_in g
words_alike f g same = λ i. record {
  record_file = same (codes "record") i;
  capture_file = same (codes "capture") i;
  trace_folder = same (codes "trace") i;
  trace_nodes = same (codes "trace-nodes") i;
  kept_cycles = same (codes "keep") i;
}

-- two ways to the same words give the same command
pub given_alike : (f g : Text → Option Text) → ((id : Text) → f id ≡ g id) → given_in f ≡ given_in g
given_alike f g same =
    let flag = same (codes "endless") in
    let words = words_alike f g same in
    let file = same (codes "FILE") in
    let cycles = same (codes "cycles") in
    λ i. given_with (is_true (flag i)) (file i) (run_in (is_true (flag i)) (cycles i)) (words i)

-- an error of `clap` is a fault of the words, or a failed allocation
pub refused_for : (words : List Text) (e : Error) → HasKind (fault_of the_command words) e
    → IsAnswer words (Err (order_error_of (kind_of e)))
refused_for words e (inl memory) = rw memory tt
refused_for words e (inr among) = by (order_error_of (kind_of e)) (fault_of the_command words) refl among
  where
    by : (given : OrderError) (kinds : Kinds) → fault_of the_command words ≡ kinds → IsAmong (kind_of e) kinds
        → IsAnswer words (Err given)
    by refusal.Memory kinds are among = tt
    by refusal.Usage [] are among = absurd among
    by refusal.Usage (k ∷ ks) are among = inl (rw are (omega arith))

-- without a fault, the command that was found is the answer
pub taken_for : (words : List Text) (found : Option WorldCommand) → fault_of the_command words ≡ []
    → option_map given_by found ≡ given_in (entered words)
    → IsAnswer words (ok_or found refusal.Usage)
taken_for words (Some command) none given = (none, sym given)
taken_for words None none given = inr (sym given)
