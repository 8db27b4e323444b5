-- What `fr_view bus` writes is read back as what a listener received.
use Rattle.std.proofs.Common.{◌≡◌, ℕ, ◌-◌, true, false, List, [], ◌∷◌, ◌++◌, Option, Some, None, refl, ap, ◌∙◌}
use Rattle.fr_bus.specs.Record.{Recorded, heard}
use Rattle.fr_bus.specs.Windows.{cycles_begun}
use Rattle.fr_capture.specs.Pcap.{file_header, record_seen}
use Rattle.fr_concord.specs.Recordings.{window_time, IsSameCapture, IsReadAgain, HasNoAlarm, HasNoAlarmInTime}
use Rattle.fr_core.specs.Headline.{Headline}
use Rattle.fr_core.specs.Worlds.{WorldState}
use Rattle.fr_hearing.proofs.FileLaws.{no_alarm_in_file}
use Rattle.fr_hearing.proofs.punctual.FileLaws.{no_alarm_in_exact_file}
use Rattle.fr_hearing.proofs.punctual.TogetherLaws.{no_alarm_in_exact_file_together}
use Rattle.fr_hearing.proofs.ReadBackLaws.{is_read_back}
use Rattle.fr_hearing.specs.Alarms.{judged}
use Rattle.fr_hearing.specs.Files.{window_seen, capture_of as capture_at}
use Rattle.fr_judging.specs.Judging.{fresh, finish, has_finding}
use Rattle.fr_judging.specs.Rules.{rules_of}
use Rattle.fr_recording.specs.Stream.{records_in, refusal_in}
use Rattle.fr_showing.specs.Listening.{heard_record, window_records, capture_of}
use Rattle.fr_slots.specs.declared.channel.Channel.{Channel}
use Rattle.fr_slots.specs.declared.channel.Channel.TheVariants.{A, B}
use Rattle.fr_slots.specs.History.{each_after}
use Rattle.fr_slots.specs.Parameters.{Parameters}
use Rattle.fr_status.specs.declared.seen.Seen.TheVariants.{Silence, Own, Conflict, Noise, Overrun, Bytes}
use Rattle.fr_status.specs.Forms.{Seen}

seen_same : (time : ℕ) (channel : Channel) (o : Seen)
    → heard_record time channel o ≡ record_seen false time channel o None
seen_same time channel Silence = refl
seen_same time channel Own = refl
seen_same time channel Conflict = refl
seen_same time channel Noise = refl
seen_same time channel Overrun = refl
seen_same time channel (Bytes bytes) = refl

window_same : (p : Parameters) (before : List Recorded) (r : Recorded)
    → window_records p (cycles_begun (before ++ r ∷ []) - 1) r ≡ window_seen p (window_time p before r) r
window_same p before r =
    λ i. seen_same (window_time p before r) A (heard p r A) i ++ seen_same (window_time p before r) B (heard p r B) i

pub is_same_capture : IsSameCapture
is_same_capture p rs = λ i. file_header ++ each_after (λ before r. window_same p before r i) [] rs

pub is_read_again : IsReadAgain
is_read_again p rs short =
    let same : capture_of p rs ≡ capture_at (window_time p) p rs = is_same_capture p rs in
    let back = is_read_back (window_time p) p rs short in
    (ap refusal_in same ∙ back.0, ap records_in same ∙ back.1)

pub has_no_alarm : (w : WorldState) → Headline w → HasNoAlarm w
has_no_alarm w head most whole channel healthy =
    ap (λ (bytes : List ℕ). has_finding (finish (judged (fresh (rules_of w.bus.cluster most whole (Some channel) 0))
    (records_in bytes)) true)) (is_same_capture w.bus.cluster.params w.bus.sealed)
    ∙ (no_alarm_in_file w head most whole channel (window_time w.bus.cluster.params) healthy).1

pub has_no_alarm_in_time : (w : WorldState) → Headline w → HasNoAlarmInTime w
has_no_alarm_in_time w head most whole only healthy =
    ap (λ (bytes : List ℕ). has_finding (finish (judged (fresh (rules_of w.bus.cluster most whole only 1000))
    (records_in bytes)) true)) (is_same_capture w.bus.cluster.params w.bus.sealed) ∙ by only
  where
    by : (o : Option Channel) → has_finding (finish (judged (fresh (rules_of w.bus.cluster most whole o 1000))
        (records_in (capture_at (window_time w.bus.cluster.params) w.bus.cluster.params w.bus.sealed))) true) ≡ false
    by None = no_alarm_in_exact_file_together w head most whole (healthy A) (healthy B)
    by (Some channel) = no_alarm_in_exact_file w head most whole channel healthy
