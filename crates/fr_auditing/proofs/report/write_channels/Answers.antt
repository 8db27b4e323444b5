use Rattle.std.proofs.Common.{subst}
use Rattle.std.specs.Io.KnownBytes.{Appends}
use Rattle.std.specs.Prelude.{OnOk}
use Rattle.fr_auditing.specs.KeptReport.{channel_line}
use Rattle.fr_slots.specs.declared.channel.Channel.TheVariants.{A, B}
use Rattle.fr_status.specs.declared.counters.Counters.{Counters}
use Rattle.fr_trace.proofs.WritingLemmas.{appends-last}
use Rattle.fr_trace.specs.ReportText.{counts_in}
use Rattle.fr_auditing.proofs.report.write_channels.Goals as goal

pub returns : goal.returns
returns g c =
    let counters = c.args.interface.now.counters in
    let start = g.W.Write.contents c.args.writer.now in
    let mid = g.W.Write.contents c.write_channel.new.writer in
    let end = g.W.Write.contents c.write_channel-2.new.writer in
    let first : Appends start mid (channel_line A (counts_in counters.a)) =
    subst (λ (k : Counters). Appends start mid (channel_line A (counts_in k.a)))
    c.counters-counters.ensures c.in_ok-write_channel.ensures in
    let second : OnOk c.write_channel-2.result (Appends mid end (channel_line B (counts_in counters.b))) =
    subst (λ (k : Counters). OnOk c.write_channel-2.result (Appends mid end (channel_line B (counts_in k.b))))
    c.counters-counters.ensures c.write_channel-2.ensures in
    appends-last c.write_channel-2.result start mid end (channel_line A (counts_in counters.a))
    (channel_line B (counts_in counters.b)) first second
