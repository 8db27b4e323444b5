use Rattle.std.proofs.Common.{subst}
use Rattle.std.specs.Io.KnownBytes.{Appends}
use Rattle.fr_status.specs.declared.counters.Counters.{Counters}
use Rattle.fr_slots.specs.declared.channel.Channel.TheVariants.{A, B}
use Rattle.fr_lines.specs.Spelling.{line_text}
use Rattle.fr_trace.specs.ReportText.{channel_report, channel_words, counts_in}
use Rattle.fr_trace.proofs.WritingLemmas.{appends-last}
use Rattle.std.specs.Prelude.{OnOk}
use Rattle.fr_trace.proofs.report.write_channels.Goals as goal

pub returns : goal.returns
returns g c =
    let s = c.args.interface.now in
    let start = g.W.Write.contents c.args.writer.now in
    let mid = g.W.Write.contents c.write_channel.new.writer in
    let end = g.W.Write.contents c.write_channel-2.new.writer in
    let first : Appends start mid (channel_report s A) =
    subst (λ (k : Counters). Appends start mid (line_text (channel_words A (counts_in k.a))))
    c.counters-counters.ensures c.in_ok-write_channel.ensures in
    let second : OnOk c.write_channel-2.result (Appends mid end (channel_report s B)) =
    subst (λ (k : Counters). OnOk c.write_channel-2.result (Appends mid end
    (line_text (channel_words B (counts_in k.b))))) c.counters-counters.ensures c.write_channel-2.ensures in
    appends-last c.write_channel-2.result start mid end (channel_report s A) (channel_report s B) first second
