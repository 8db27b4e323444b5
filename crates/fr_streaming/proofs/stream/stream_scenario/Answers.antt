use Rattle.std.proofs.Common.{◌≡◌, ◌∙◌, ℕ, Ok, Err, ap, length, rules, subst, sym}
use Rattle.std.specs.Prelude.{IfErr, min}
use Rattle.std.specs.Io.KnownBytes.{Appends}
use Rattle.fr_files.specs.declared.error.BenchError.{BenchError}
use Rattle.fr_files.specs.Outputs.{FallsShort}
use Rattle.fr_playing.specs.declared.error.PlayError.{PlayError}
use Rattle.fr_playing.specs.declared.error.PlayError.TheVariants as refusal
use Rattle.fr_playing.specs.Moving.{whole_window}
use Rattle.fr_playing.specs.Playing.{PlaysCycles}
use Rattle.fr_streaming.proofs.LedLemmas.{cycles_executed}
use Rattle.fr_streaming.proofs.StreamLemmas.{cuts_closing, cuts_hindered, cuts_of, cuts_opening, due_silent, hindered}
use Rattle.fr_streaming.proofs.StreamLemmas.{named_fit, none_of, not_checked, not_refused, streamed_all}
use Rattle.fr_streaming.proofs.TellLemmas.{breaks_at}
use Rattle.fr_streaming.specs.Runs.{ChecksStream, CutsRun, TellsRun}
use Rattle.fr_streaming.specs.Streams.{told_opening}
use Rattle.fr_streaming.proofs.stream.stream_scenario.Goals as goal

pub returns-in_err-check_named-clause-refused : goal.returns-in_err-check_named-clause-refused
returns-in_err-check_named-clause-refused g c =
    let d = c.args.cluster.now in
    let s = c.args.scenario.now in
    let n = c.args.cycles in
    let e = c.in_err-check_named.field-0.0 in
    let gone : c.from_residual-in_err-check_named.result ≡ Err e = search rules in
    let suits = c.in_ok-world.ensures.0 in
    subst (TellsRun d s n) (sym gone)
    (not_checked d s n e suits (named_fit d.params n suits)
    (subst (λ (k : ℕ). ChecksStream d s k (Err e)) c.min.ensures c.in_err-check_named.ensures))

pub returns-in_err-write_whole-clause-early : goal.returns-in_err-write_whole-clause-early
returns-in_err-write_whole-clause-early g c =
    let d = c.args.cluster.now in
    let s = c.args.scenario.now in
    let n = c.args.cycles in
    let a = g.W.Write.contents c.args.writer.now in
    let b = g.W.Write.contents c.write_whole.new.writer in
    let e = c.in_err-write_whole.field-0.0 in
    let gone : c.from_residual-in_err-write_whole.result ≡ Err (refusal.Text e) = search rules in
    let named = gone ∙ ap (λ (x : BenchError). Err (refusal.Text x)) c.in_err-write_whole.ensures.refused in
    subst (λ r. IfErr r (CutsRun d s n c.args.streamed a b)) (sym named)
    (cuts_opening d s n c.args.streamed c.in_ok-world.world a b c.in_ok-world.ensures
    (subst (FallsShort a b) (c.as_slice-2.ensures.value ∙ c.in-Ok-opening_in.ensures.text)
    c.in_err-write_whole.ensures.cut))

pub returns-in_err-write_whole-clause-refused : goal.returns-in_err-write_whole-clause-refused
returns-in_err-write_whole-clause-refused g c =
    let d = c.args.cluster.now in
    let s = c.args.scenario.now in
    let n = c.args.cycles in
    let e = c.in_err-write_whole.field-0.0 in
    let gone : c.from_residual-in_err-write_whole.result ≡ Err (refusal.Text e) = search rules in
    let named = gone ∙ ap (λ (x : BenchError). Err (refusal.Text x)) c.in_err-write_whole.ensures.refused in
    let checks : ChecksStream d s (min n 1024) (Ok tt) =
    subst (λ (k : ℕ). ChecksStream d s k (Ok tt)) c.min.ensures c.in_ok-check_named.ensures in
    subst (TellsRun d s n) (sym named) (not_refused d s n c.in_ok-world.ensures.0 checks)

pub returns-in-Err-clause-refused : goal.returns-in-Err-clause-refused
returns-in-Err-clause-refused g c =
    let d = c.args.cluster.now in
    let s = c.args.scenario.now in
    let n = c.args.cycles in
    let checks : ChecksStream d s (min n 1024) (Ok tt) =
    subst (λ (k : ℕ). ChecksStream d s k (Ok tt)) c.min.ensures c.in_ok-check_named.ensures in
    subst (λ (e : PlayError). TellsRun d s n (Err e)) (sym c.error_of.ensures)
    (hindered d s n c.in-Err.hindrance (not_refused d s n c.in_ok-world.ensures.0 checks))

pub returns-in-Err-clause-early : goal.returns-in-Err-clause-early
returns-in-Err-clause-early g c =
    let d = c.args.cluster.now in
    let s = c.args.scenario.now in
    let n = c.args.cycles in
    let a = g.W.Write.contents c.args.writer.now in
    let begins : Appends a (g.W.Write.contents c.write_whole.new.writer) (told_opening c.args.streamed) =
    subst (Appends a (g.W.Write.contents c.write_whole.new.writer))
    (c.as_slice-2.ensures.value ∙ c.in-Ok-opening_in.ensures.text) c.in_ok-write_whole.ensures.written in
    let end = g.W.Write.contents c.show_cycles.new.writer in
    subst (CutsRun d s n c.args.streamed a end) (sym c.error_of.ensures)
    (cuts_hindered d s n c.args.streamed c.in-Err.hindrance a end
    (cuts_of d s n c.args.streamed c.in_ok-world.world a (g.W.Write.contents c.write_whole.new.writer) end
    c.in_ok-world.ensures begins c.in-Err.ensures.early))

pub returns-then-is_some-clause-refused : goal.returns-then-is_some-clause-refused
returns-then-is_some-clause-refused g c =
    let d = c.args.cluster.now in
    let s = c.args.scenario.now in
    let n = c.args.cycles in
    let checks : ChecksStream d s (min n 1024) (Ok tt) =
    subst (λ (k : ℕ). ChecksStream d s k (Ok tt)) c.min.ensures c.in_ok-check_named.ensures in
    not_refused d s n c.in_ok-world.ensures.0 checks

pub returns-then-is_some-clause-early : goal.returns-then-is_some-clause-early
returns-then-is_some-clause-early g c =
    let d = c.args.cluster.now in
    let s = c.args.scenario.now in
    let n = c.args.cycles in
    let a = g.W.Write.contents c.args.writer.now in
    let begins : Appends a (g.W.Write.contents c.write_whole.new.writer) (told_opening c.args.streamed) =
    subst (Appends a (g.W.Write.contents c.write_whole.new.writer))
    (c.as_slice-2.ensures.value ∙ c.in-Ok-opening_in.ensures.text) c.in_ok-write_whole.ensures.written in
    let due = c.as_slice.result.now in
    let due_is : due ≡ whole_window (length d.plans) =
    c.as_slice.ensures.value ∙ c.in-Ok.ensures ∙ ap whole_window c.nodes.ensures.value in
    let mid = g.W.Write.contents c.write_whole.new.writer in
    let end = g.W.Write.contents c.show_cycles.new.writer in
    cuts_of d s n c.args.streamed c.in_ok-world.world a mid end c.in_ok-world.ensures begins
    (breaks_at c.args.streamed s d (PlaysCycles s.scripts s.faults due n) c.in_ok-world.world
    c.show_cycles.new.world mid end c.in_default-show_cycles.ensures.goes
    (cycles_executed s.scripts s.faults due (due_silent due (length d.plans) due_is) n))

pub returns-in-Ok-close-clause-written : goal.returns-in-Ok-close-clause-written
returns-in-Ok-close-clause-written g c =
    let d = c.args.cluster.now in
    let s = c.args.scenario.now in
    let n = c.args.cycles in
    let a = g.W.Write.contents c.args.writer.now in
    let begins : Appends a (g.W.Write.contents c.write_whole.new.writer) (told_opening c.args.streamed) =
    subst (Appends a (g.W.Write.contents c.write_whole.new.writer))
    (c.as_slice-2.ensures.value ∙ c.in-Ok-opening_in.ensures.text) c.in_ok-write_whole.ensures.written in
    let due = c.as_slice.result.now in
    let due_is : due ≡ whole_window (length d.plans) =
    c.as_slice.ensures.value ∙ c.in-Ok.ensures ∙ ap whole_window c.nodes.ensures.value in
    let over = none_of c.window.result c.is_some.result c.is_some.ensures c.if-is_some.false in
    streamed_all c.args.streamed d s n due c.in_ok-world.world c.show_cycles.new.world a
    (g.W.Write.contents c.write_whole.new.writer) (g.W.Write.contents c.show_cycles.new.writer)
    (g.W.Write.contents c.close.new.writer) due_is
    c.in_ok-world.ensures begins c.in_default-show_cycles.ensures.goes
    (ap (λ b. b.bus.opened) (sym c.bus.ensures) ∙ sym c.window.ensures ∙ over) c.known.ensures.headline
    c.in-Ok-close.ensures.written

pub returns-in-Ok-close-clause-refused : goal.returns-in-Ok-close-clause-refused
returns-in-Ok-close-clause-refused g c =
    let d = c.args.cluster.now in
    let s = c.args.scenario.now in
    let n = c.args.cycles in
    let checks : ChecksStream d s (min n 1024) (Ok tt) =
    subst (λ (k : ℕ). ChecksStream d s k (Ok tt)) c.min.ensures c.in_ok-check_named.ensures in
    not_refused d s n c.in_ok-world.ensures.0 checks

pub returns-clause-refused : goal.returns-clause-refused
returns-clause-refused g c =
    let d = c.args.cluster.now in
    let s = c.args.scenario.now in
    let n = c.args.cycles in
    let checks : ChecksStream d s (min n 1024) (Ok tt) =
    subst (λ (k : ℕ). ChecksStream d s k (Ok tt)) c.min.ensures c.in_ok-check_named.ensures in
    subst (λ (e : PlayError). TellsRun d s n (Err e)) (sym c.error_of-in-Err-close.ensures)
    (hindered d s n c.in-Err-close.hindrance (not_refused d s n c.in_ok-world.ensures.0 checks))

pub returns-clause-early : goal.returns-clause-early
returns-clause-early g c =
    let d = c.args.cluster.now in
    let s = c.args.scenario.now in
    let n = c.args.cycles in
    let a = g.W.Write.contents c.args.writer.now in
    let mid = g.W.Write.contents c.write_whole.new.writer in
    let shown = g.W.Write.contents c.show_cycles.new.writer in
    let end = g.W.Write.contents c.close.new.writer in
    let begins : Appends a mid (told_opening c.args.streamed) =
    subst (Appends a mid) (c.as_slice-2.ensures.value ∙ c.in-Ok-opening_in.ensures.text)
    c.in_ok-write_whole.ensures.written in
    let due = c.as_slice.result.now in
    let due_is : due ≡ whole_window (length d.plans) =
    c.as_slice.ensures.value ∙ c.in-Ok.ensures ∙ ap whole_window c.nodes.ensures.value in
    subst (CutsRun d s n c.args.streamed a end) (sym c.error_of-in-Err-close.ensures)
    (cuts_hindered d s n c.args.streamed c.in-Err-close.hindrance a end
    (cuts_closing d s n c.args.streamed (PlaysCycles s.scripts s.faults due n) c.in_ok-world.world
    c.show_cycles.new.world a mid shown end c.in_ok-world.ensures begins c.in_default-show_cycles.ensures.goes
    (cycles_executed s.scripts s.faults due (due_silent due (length d.plans) due_is) n) c.in-Err-close.ensures.cut))
