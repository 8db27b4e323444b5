-- The answer to words follows from a parse, since the command is of the kind for which `clap` reports all faults.
use Rattle.std.proofs.Common.{◌≡◌, ◌∷◌, [], Option, Some, None, Err, List, option_map, ap, ◌∙◌, sym, refl, true, arith}
use Rattle.std.proofs.Common.{inl, inr, codes}
use Rattle.std.specs.Option.{ok_or}
use Rattle.clap.specs.Values.{kind_of}
use Rattle.clap.specs.Words.{HasKind, IsAmong, Kinds, Text, fault_of, is_simple, is_simple_and_free}
use Rattle.clap.specs.declared.error.Error.{Error}
use Rattle.clap.proofs.OnLiterals.{clap_on_literals}
use Rattle.fr_cli.specs.Commands.{is_true, order_error_of}
use Rattle.fr_cli.specs.declared.error.OrderError.{OrderError}
use Rattle.fr_cli.specs.declared.error.OrderError.TheVariants as refusal
use Rattle.fr_cli.specs.MonitorCommands.{Given, IsAnswer, entered, given_in, given_of, the_command, with_file}
use Rattle.fr_cli.specs.MonitorCommands.{with_first, with_channel_option, with_macrotick_option, with_options}
use Rattle.fr_cli.specs.MonitorCommands.{channel_asked, findings_asked, macrotick_asked}
use Rattle.fr_cli.specs.declared.monitor.MonitorCommand.{MonitorCommand}

pub are_simple : is_simple the_command ≡ true
unfolding clap_on_literals with_first with_channel_option with_macrotick_option with_options
are_simple = refl

pub are_free : is_simple_and_free the_command ≡ true
unfolding clap_on_literals with_first with_channel_option with_macrotick_option with_options
are_free = refl

-- two ways to the same words give the same command
pub given_alike : (f g : Text → Option Text) → ((id : Text) → f id ≡ g id) → given_in f ≡ given_in g
given_alike f g same =
    let a : Option Text → Option Given = λ word. with_file word (findings_asked (f (codes "findings")))
    (is_true (f (codes "whole"))) (channel_asked (f (codes "channel")))
    (macrotick_asked (f (codes "macrotick"))) (is_true (f (codes "frames"))) in
    let b : Option Text → Option Given = λ word. with_file (g (codes "FILE")) (findings_asked word)
    (is_true (f (codes "whole"))) (channel_asked (f (codes "channel")))
    (macrotick_asked (f (codes "macrotick"))) (is_true (f (codes "frames"))) in
    let c : Option Text → Option Given = λ word. with_file (g (codes "FILE")) (findings_asked (g (codes "findings")))
    (is_true word) (channel_asked (f (codes "channel")))
    (macrotick_asked (f (codes "macrotick"))) (is_true (f (codes "frames"))) in
    let d : Option Text → Option Given = λ word. with_file (g (codes "FILE")) (findings_asked (g (codes "findings")))
    (is_true (g (codes "whole"))) (channel_asked word)
    (macrotick_asked (f (codes "macrotick"))) (is_true (f (codes "frames"))) in
    let e : Option Text → Option Given = λ word. with_file (g (codes "FILE")) (findings_asked (g (codes "findings")))
    (is_true (g (codes "whole"))) (channel_asked (g (codes "channel")))
    (macrotick_asked word) (is_true (f (codes "frames"))) in
    let h : Option Text → Option Given = λ word. with_file (g (codes "FILE")) (findings_asked (g (codes "findings")))
    (is_true (g (codes "whole"))) (channel_asked (g (codes "channel")))
    (macrotick_asked (g (codes "macrotick"))) (is_true word) in
    ap a (same (codes "FILE"))
    ∙ ap b (same (codes "findings"))
    ∙ ap c (same (codes "whole"))
    ∙ ap d (same (codes "channel"))
    ∙ ap e (same (codes "macrotick"))
    ∙ ap h (same (codes "frames"))

-- an error of `clap` is a fault of the words, or a failed allocation
pub refused_for : (words : List Text) (e : Error) → HasKind (fault_of the_command words) e
    → IsAnswer words (Err (order_error_of (kind_of e)))
refused_for words e (inl memory) = rw memory tt
refused_for words e (inr among) = by (order_error_of (kind_of e)) (fault_of the_command words) refl among
  where
    by : (given : OrderError) (kinds : Kinds) → fault_of the_command words ≡ kinds → IsAmong (kind_of e) kinds
        → IsAnswer words (Err given)
    by refusal.Memory kinds are among = tt
    by refusal.Usage [] are among = absurd among
    by refusal.Usage (k ∷ ks) are among = inl (rw are (omega arith))

-- without a fault, the command that was found is the answer
pub taken_for : (words : List Text) (found : Option MonitorCommand) → fault_of the_command words ≡ []
    → option_map given_of found ≡ given_in (entered words)
    → IsAnswer words (ok_or found refusal.Usage)
taken_for words (Some command) none given = (none, sym given)
taken_for words None none given = inr (sym given)
