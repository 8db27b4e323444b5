-- What is written of a bus is read back as what a listener received there.
use Rattle.std.proofs.Common.{◌≡◌, ℕ, ℤ, suc, ◌+◌, ◌*◌, ◌/◌, ◌%◌, ◌<◌, ◌≤◌, List, [], ◌∷◌, ◌++◌, length, Option, Some}
use Rattle.std.proofs.Common.{None, false, refl, sym, ap, ◌∙◌, arith, ◌-◌, take, length-take}
use Rattle.std.proofs.lemmas.List.{append_assoc}
use Rattle.std.specs.Prelude.{◌^◌, pos}
use Rattle.arrayvec.specs.ArrayVec.{ArrayVec}
use Rattle.fr_bus.specs.Record.{Recorded, heard}
use Rattle.fr_capture.specs.Pcap.{file_header, record_seen, packet, record_header, captured_bytes}
use Rattle.fr_frame.specs.declared.decode.DecodeError.{DecodeError}
use Rattle.fr_frame.specs.declared.decode.DecodeError.TheVariants.{TooShort, LengthMismatch, HeaderCrc, FrameCrc}
use Rattle.fr_frame.specs.Refusal.{refusal}
use Rattle.fr_hearing.proofs.ReadingLemmas.{bytes_more, records_more, IsReady, read_item, head_of, started, none_yet}
use Rattle.fr_hearing.specs.Files.{window_seen, Clock}
use Rattle.fr_hearing.specs.ReadBack.{read_time, read_seen, read_window, AreShort, IsReadBack, TimeIsKept}
use Rattle.fr_hearing.specs.Runs.{logged}
use Rattle.fr_recording.specs.declared.numbers.Order.TheVariants.{LowFirst}
use Rattle.fr_recording.specs.declared.phase.Phase.{Phase}
use Rattle.fr_recording.specs.declared.phase.Phase.TheVariants.{RecordHeader}
use Rattle.fr_recording.specs.Numbers.{long}
use Rattle.fr_recording.specs.Records.{Record}
use Rattle.fr_recording.specs.Stream.{Progress, fresh, take_bytes, records_from, end_in}
use Rattle.fr_slots.specs.declared.channel.Channel.{Channel}
use Rattle.fr_slots.specs.declared.channel.Channel.TheVariants.{A, B}
use Rattle.fr_slots.specs.History.{each_after}
use Rattle.fr_slots.specs.Parameters.{Parameters}
use Rattle.fr_status.specs.declared.seen.Seen.TheVariants.{Silence, Own, Conflict, Noise, Overrun, Bytes}
use Rattle.fr_status.specs.Forms.{Seen}

-- ---- the time of a record

seconds_are : (time count : ℕ) → long LowFirst 0 (record_header time count) ≡ time / 1000000 % 2 ^ 32
unfolding record_header
seconds_are time count = omega arith

rest_is : (time count : ℕ) → long LowFirst 4 (record_header time count) ≡ time % 1000000
unfolding record_header
rest_is time count = omega arith

head_time : (time count : ℕ) → (head_of time count).time ≡ Some (read_time time)
head_time time count =
    (λ i. Some (pos (seconds_are time count i * 10 ^ 9 + rest_is time count i * 1000)))

few_seconds : (time : ℕ) → time < 2 ^ 32 * 1000000
    → time / 1000000 % 2 ^ 32 * 10 ^ 9 + time % 1000000 * 1000 ≡ time * 1000
few_seconds time few = omega (arith, few)

pub time_is_kept : TimeIsKept
time_is_kept time few = ap pos (few_seconds time few)

-- ---- an observation

front_short : (bytes : List ℕ) → length (take (length bytes - 3) bytes) ≤ length bytes
front_short bytes = omega (arith, length-take (length bytes - 3) bytes)

captured_short : (error : Option DecodeError) (bytes : List ℕ) → length (captured_bytes error bytes) ≤ length bytes
captured_short None bytes = front_short bytes
captured_short (Some TooShort) bytes = omega arith
captured_short (Some LengthMismatch) bytes = omega arith
captured_short (Some HeaderCrc) bytes = front_short bytes
captured_short (Some FrameCrc) bytes = front_short bytes

abbrev Short : Seen → Type 0
Short o = (bytes : ArrayVec ℕ) → o ≡ Bytes bytes → length bytes.items ≤ 262

record IsSeenRead (p : Progress) (channel : Channel) (time : ℕ) (o : Seen) (bytes : List ℕ) : Type 0 where
  next : Progress
  ready : IsReady next
  leads : take_bytes p bytes ≡ next
  made : records_from p bytes ≡ read_seen time channel o

seen_read : (p : Progress) → IsReady p → (time : ℕ) (channel : Channel) (o : Seen) → Short o
    → IsSeenRead p channel time o (record_seen false time channel o None)
seen_read p is time channel Silence short = record { next = p; ready = is; leads = refl; made = refl }
seen_read p is time channel Own short = record { next = p; ready = is; leads = refl; made = refl }
seen_read p is time channel Conflict short = record { next = p; ready = is; leads = refl; made = refl }
seen_read p is time channel Noise short = record { next = p; ready = is; leads = refl; made = refl }
seen_read p is time channel Overrun short = record { next = p; ready = is; leads = refl; made = refl }
seen_read p is time channel (Bytes bytes) short =
    let mine : List ℕ = packet channel (refusal channel bytes.items) bytes.items in
    let few = short bytes refl in
    let most = captured_short (refusal channel bytes.items) bytes.items in
    let item = read_item time (packet channel (refusal channel bytes.items) bytes.items) (omega arith)
    (omega (arith, few, most)) p is in
    record {
      next = item.next;
      ready = item.ready;
      leads = item.leads;
      made = item.told ∙ ap (λ (t : Option ℤ). logged t mine ∷ []) (item.time_is ∙ head_time time (length mine));
    }

-- ---- all windows

record IsAllRead (p : Progress) (bytes : List ℕ) (records : List Record) : Type 0 where
  next : Progress
  ready : IsReady next
  leads : take_bytes p bytes ≡ next
  made : records_from p bytes ≡ records

module _ (p : Parameters) (time : Clock) where
  abbrev written : List Recorded → Recorded → List ℕ
  written before r = window_seen p (time before r) r

  abbrev read : List Recorded → Recorded → List Record
  read before r = read_window p (time before r) r

  read_all : (q : Progress) → IsReady q → (before rs : List Recorded) → AreShort p rs
      → IsAllRead q (each_after written before rs) (each_after read before rs)
  unfolding each_after
  read_all q is before [] short = record { next = q; ready = is; leads = refl; made = refl }
  read_all q is before (r ∷ rs) short =
      let bytes_a : List ℕ = record_seen false (time before r) A (heard p r A) None in
      let bytes_b : List ℕ = record_seen false (time before r) B (heard p r B) None in
      let a = seen_read q is (time before r) A (heard p r A) (short 0 r refl A) in
      let b = seen_read a.next a.ready (time before r) B (heard p r B) (short 0 r refl B) in
      let rest = read_all b.next b.ready (before ++ r ∷ []) rs (λ k s at. short (suc k) s at) in
      let more : List ℕ = each_after written (before ++ r ∷ []) rs in
      let joined : (bytes_a ++ bytes_b) ++ more ≡ bytes_a ++ (bytes_b ++ more) = append_assoc bytes_a bytes_b more in
      let made_a : List Record = read_seen (time before r) A (heard p r A) in
      let made_b : List Record = read_seen (time before r) B (heard p r B) in
      let made_rest : List Record = each_after read (before ++ r ∷ []) rs in
      record {
        next = rest.next;
        ready = rest.ready;
        leads = ap (take_bytes q) joined ∙ bytes_more bytes_a (bytes_b ++ more) q
            ∙ ap (λ (x : Progress). take_bytes x (bytes_b ++ more)) a.leads
            ∙ bytes_more bytes_b more a.next ∙ ap (λ (x : Progress). take_bytes x more) b.leads ∙ rest.leads;
        made = ap (records_from q) joined ∙ records_more bytes_a (bytes_b ++ more) q
            ∙ ap (λ (x : Progress). records_from q bytes_a ++ records_from x (bytes_b ++ more)) a.leads
            ∙ ap (λ (l : List Record). l ++ records_from a.next (bytes_b ++ more)) a.made
            ∙ ap (λ (l : List Record). made_a ++ l) (records_more bytes_b more a.next
            ∙ ap (λ (x : Progress). records_from a.next bytes_b ++ records_from x more) b.leads
            ∙ ap (λ (l : List Record). l ++ records_from b.next more) b.made
            ∙ ap (λ (l : List Record). made_b ++ l) rest.made)
            ∙ sym (append_assoc made_a made_b made_rest);
      }

-- ---- the file

not_refused : (q : Progress) → IsReady q → end_in q.state.phase q.state q.held ≡ None
not_refused q is =
    ap (λ (phase : Phase). end_in phase q.state q.held) is.phase_is
    ∙ ap (λ (held : List ℕ). end_in (RecordHeader 1000 210)
    q.state held) is.none_held

pub is_read_back : IsReadBack
is_read_back time p rs short =
    let windows : List ℕ = each_after (written p time) [] rs in
    let all = read_all p time (take_bytes fresh file_header) started [] rs short in (
      ap (λ (q : Progress). end_in q.state.phase q.state q.held) (bytes_more file_header windows fresh ∙ all.leads)
          ∙ not_refused all.next all.ready,
      records_more file_header windows fresh
          ∙ ap (λ (l : List Record). l ++ records_from (take_bytes fresh file_header) windows) none_yet
          ∙ all.made,
    )
