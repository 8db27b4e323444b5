-- The records of a classic capture file are those that were written.
use Rattle.std.proofs.Common.{◌≡◌, ℕ, ℤ, ◌+◌, ◌*◌, ◌<◌, ◌≤◌, cond, List, [], ◌∷◌, ◌++◌, length, Option, Some, None}
use Rattle.std.proofs.Common.{refl, sym, ap, ◌∙◌, arith, length-append}
use Rattle.std.specs.Prelude.{◌==◌, ◌^◌, nat_lt, pos, option_map, option_to_list}
use Rattle.std.proofs.lemmas.Bool.{cond-true, cond-false, lt-ltb, le-ltb, ne_eqb}
use Rattle.std.proofs.lemmas.List.{append_assoc, append-nil}
use Rattle.fr_capture.specs.Pcap.{file_header, record_header}
use Rattle.fr_guarantees.proofs.GuaranteeLemmas.{take_all}
use Rattle.fr_hearing.specs.Runs.{logged}
use Rattle.fr_recording.specs.Captures.{record_head}
use Rattle.fr_recording.specs.declared.numbers.Order.{Order}
use Rattle.fr_recording.specs.declared.numbers.Order.TheVariants.{LowFirst}
use Rattle.fr_recording.specs.declared.phase.Head.{Head}
use Rattle.fr_recording.specs.declared.phase.Phase.{Phase}
use Rattle.fr_recording.specs.declared.phase.Phase.TheVariants.{RecordHeader, RecordBytes}
use Rattle.fr_recording.specs.Numbers.{long, most_captured}
use Rattle.fr_recording.specs.Records.{Record}
use Rattle.fr_recording.specs.Stream.{State, Progress, fresh, go, tell, needed, after_part, after_record_head, read_on}
use Rattle.fr_recording.specs.Stream.{take_byte, take_bytes, told_of, records_from, record_of}

-- ---- bytes after bytes

pub bytes_more : (a b : List ℕ) (p : Progress) → take_bytes p (a ++ b) ≡ take_bytes (take_bytes p a) b
bytes_more [] b p = refl
bytes_more (x ∷ a) b p = bytes_more a b (take_byte p x)

pub records_more : (a b : List ℕ) (p : Progress)
    → records_from p (a ++ b) ≡ records_from p a ++ records_from (take_bytes p a) b
records_more [] b p = refl
records_more (x ∷ a) b p =
    ap (λ (t : List Record). option_to_list (told_of (take_byte p x)) ++ t) (records_more a b (take_byte p x))
    ∙ sym (append_assoc (option_to_list (told_of (take_byte p x))) (records_from (take_byte p x) a)
    (records_from (take_bytes (take_byte p x) a) b))

-- ---- a part

abbrev held_in : State → List ℕ → Progress
held_in s held = record { state = s; held = held }

abbrev ended : State → State → List ℕ → Progress
ended s t bytes = record { state = after_part s.phase t bytes; held = [] }

record IsPartRead (s : State) (held bytes : List ℕ) : Type 0 where
  state : State
  phase_is : state.phase ≡ s.phase
  order_is : state.order ≡ s.order
  leads : take_bytes (held_in s held) bytes ≡ ended s state (held ++ bytes)
  told : records_from (held_in s held) bytes ≡ option_to_list (told_of (ended s state (held ++ bytes)))
  none : state.told ≡ None

read_part : (bytes : List ℕ) (s : State) (held : List ℕ) → 1 ≤ length bytes
    → length held + length bytes ≡ needed s.phase → IsPartRead s held bytes
read_part [] s held some fits = absurd (let none : ⊥ = omega (arith, some) in none)
read_part (b ∷ []) s held some fits =
    let full : needed s.phase ≤ length (held ++ b ∷ []) = omega (arith, fits, length-append held (b ∷ [])) in
    let one : take_byte (held_in s held) b ≡ ended s (read_on s 1) (held ++ b ∷ []) =
    cond-false (nat_lt (length (held ++ b ∷ [])) (needed s.phase)) (held_in (read_on s 1) (held ++ b ∷ []))
    (ended s (read_on s 1) (held ++ b ∷ []))
    (le-ltb (length (held ++ b ∷ [])) (needed s.phase) full) in
    record {
      state = read_on s 1;
      phase_is = refl;
      order_is = refl;
      leads = one;
      told = append-nil (option_to_list (told_of (take_byte (held_in s held) b)))
          ∙ ap (λ (p : Progress). option_to_list (told_of p)) one;
      none = refl;
    }
read_part (b ∷ c ∷ bytes) s held some fits =
    let short : length (held ++ b ∷ []) < needed s.phase = omega (arith, fits, length-append held (b ∷ [])) in
    let one : take_byte (held_in s held) b ≡ held_in (read_on s 1) (held ++ b ∷ []) =
    cond-true (nat_lt (length (held ++ b ∷ [])) (needed s.phase)) (held_in (read_on s 1) (held ++ b ∷ []))
    (ended s (read_on s 1) (held ++ b ∷ []))
    (lt-ltb (length (held ++ b ∷ [])) (needed s.phase) short) in
    let rest = read_part (c ∷ bytes) (read_on s 1) (held ++ b ∷ []) (omega arith)
    (omega (arith, fits, length-append held (b ∷ []))) in
    let joined : (held ++ b ∷ []) ++ c ∷ bytes ≡ held ++ b ∷ c ∷ bytes = append_assoc held (b ∷ []) (c ∷ bytes) in
    record {
      state = rest.state;
      phase_is = rest.phase_is;
      order_is = rest.order_is;
      leads = ap (λ (p : Progress). take_bytes p (c ∷ bytes)) one ∙ rest.leads ∙ ap (ended s rest.state) joined;
      told = ap (λ (p : Progress). option_to_list (told_of p) ++ records_from p (c ∷ bytes)) one ∙ rest.told
          ∙ ap (λ (l : List ℕ). option_to_list (told_of (ended s rest.state l))) joined;
      none = rest.none;
    }

-- ---- a record

-- between two records of a file whose numbers have their lowest byte first, and whose times are in microseconds
pub record IsReady (p : Progress) : Type 0 where
  pub phase_is : p.state.phase ≡ RecordHeader 1000 210
  pub order_is : p.state.order ≡ LowFirst
  pub none_held : p.held ≡ []

abbrev pub head_of : ℕ → ℕ → Head
head_of time count = record {
  time = Some (pos (long LowFirst 0 (record_header time count) * 10 ^ 9
      + long LowFirst 4 (record_header time count) * 1000));
  link = 210;
  captured = count;
  original = count;
}

count_is : (time count : ℕ) → count ≤ 262144 → (long LowFirst 8 (record_header time count) ≡ count)
    × (long LowFirst 12 (record_header time count) ≡ count)
unfolding record_header
count_is time count few = (omega (arith, few), omega (arith, few))

head_is : (time count : ℕ) → count ≤ 262144
    → record_head LowFirst 1000 210 (record_header time count) ≡ Some (head_of time count)
head_is time count few =
    let is = count_is time count few in
    ap (λ (n : ℕ). let o : Option Head = cond (nat_lt most_captured n) None (Some (record {
      time = Some (pos (long LowFirst 0 (record_header time count) * 10 ^ 9
          + long LowFirst 4 (record_header time count) * 1000));
      link = 210;
      captured = n;
      original = long LowFirst 12 (record_header time count);
    })) in o) is.0
    ∙ ap (λ (n : ℕ). let o : Option Head = cond (nat_lt most_captured count) None (Some (record {
      time = Some (pos (long LowFirst 0 (record_header time count) * 10 ^ 9
          + long LowFirst 4 (record_header time count) * 1000));
      link = 210;
      captured = count;
      original = n;
    })) in o) is.1
    ∙ cond-false (nat_lt most_captured count) None (Some (head_of time count)) (le-ltb most_captured count few)

length_head : (time count : ℕ) → length (record_header time count) ≡ 16
unfolding record_header
length_head time count = refl

-- one record was read
pub record IsItemRead (p : Progress) (bytes packet : List ℕ) (due : Option ℤ) : Type 0 where
  pub next : Progress
  pub ready : IsReady next
  pub time : Option ℤ
  pub time_is : time ≡ due
  pub leads : take_bytes p bytes ≡ next
  pub told : records_from p bytes ≡ logged time packet ∷ []

module _ (time : ℕ) (packet : List ℕ) (some : 1 ≤ length packet) (few : length packet ≤ 262144) where
  after_header : (s t : State) → s.phase ≡ RecordHeader 1000 210 → t.order ≡ LowFirst
      → after_part s.phase t (record_header time (length packet))
      ≡ go t (RecordBytes 1000 210 (head_of time (length packet)))
  after_header s t phase order =
      ap (λ (q : Phase). after_part q t (record_header time (length packet))) phase
      ∙ ap (λ (o : Order). after_record_head t 1000 210 (record_head o 1000 210 (record_header time (length packet))))
      order
      ∙ ap (after_record_head t 1000 210) (head_is time (length packet) few)
      ∙ cond-false (length packet == 0) (tell t 1000 210 (head_of time (length packet)) [])
      (go t (RecordBytes 1000 210 (head_of time (length packet))))
      (ne_eqb (length packet) 0 (λ z. let none : ⊥ = omega (arith, some, z) in none))

  pub read_item : (p : Progress) → IsReady p
      → IsItemRead p (record_header time (length packet) ++ packet) packet (head_of time (length packet)).time
  read_item p is =
      let s : State = p.state in
      let size = length_head time (length packet) in
      let due : needed s.phase ≡ 16 = ap needed is.phase_is in
      let first = read_part (record_header time (length packet)) s [] (omega (arith, size))
      (omega (arith, size, due)) in
      let between : State = go first.state (RecordBytes 1000 210 (head_of time (length packet))) in
      let here : ended s first.state (record_header time (length packet)) ≡ held_in between [] =
      ap (λ (t : State). held_in t []) (after_header s first.state is.phase_is (first.order_is ∙ is.order_is)) in
      let start : p ≡ held_in s [] = ap (held_in s) is.none_held in
      let middle : take_bytes p (record_header time (length packet)) ≡ held_in between [] =
      ap (λ (q : Progress). take_bytes q (record_header time (length packet))) start ∙ first.leads ∙ here in
      let silent : records_from p (record_header time (length packet)) ≡ [] =
      ap (λ (q : Progress). records_from q (record_header time (length packet))) start ∙ first.told
      ∙ ap (λ (q : Progress). option_to_list (told_of q)) here
      ∙ ap (λ (o : Option Head). option_to_list (option_map (record_of between) o)) first.none in
      let second = read_part packet between [] some (omega arith) in
      record {
        next = ended between second.state packet;
        ready = record {
          phase_is = refl;
          order_is = second.order_is ∙ first.order_is ∙ is.order_is;
          none_held = refl;
        };
        time = (head_of time (length packet)).time;
        time_is = refl;
        leads = bytes_more (record_header time (length packet)) packet p
            ∙ ap (λ (q : Progress). take_bytes q packet) middle ∙ second.leads;
        told = records_more (record_header time (length packet)) packet p
            ∙ ap (λ (l : List Record). l ++ records_from (take_bytes p (record_header time (length packet))) packet)
            silent
            ∙ ap (λ (q : Progress). records_from q packet) middle
            ∙ second.told
            ∙ ap (λ (l : List ℕ). let r : Record = record {
              time = (head_of time (length packet)).time;
              link = 210;
              original = length packet;
              bytes = l;
            } in r ∷ []) (take_all packet);
      }

-- ---- the file's header

pub started : IsReady (take_bytes fresh file_header)
started = record { phase_is = refl; order_is = refl; none_held = refl }

pub none_yet : records_from fresh file_header ≡ []
none_yet = refl
