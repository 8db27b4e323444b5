-- Several bytes at once give the same as one after another.
use Rattle.std.proofs.Common.{◌≡◌, ◌≢◌, ℕ, suc, ◌+◌, ◌-◌, ◌<◌, ◌≤◌, ◌==◌, true, false, List, [], ◌∷◌, ◌++◌, max}
use Rattle.std.proofs.Common.{length, take, drop, refl, sym, ap, ◌∙◌, arith, append_assoc, length-append, length-drop}
use Rattle.std.proofs.Common.{subst}
use Rattle.std.specs.Prelude.{Option, None, option_to_list}
use Rattle.std.proofs.lemmas.Bool.{lt-ltb, le-ltb, eqb-true, eq-eqb, cond-false}
use Rattle.std.proofs.lemmas.Bool.Decides.{nat_tests}
use Rattle.std.proofs.Math.Seq.{take-add}
use Rattle.std.proofs.lemmas.List.Sums.{fold-append}
use Rattle.std.proofs.lemmas.List.{append-nil, length-take-le, take_all}
use Rattle.fr_recording.specs.Numbers.{counted}
use Rattle.fr_recording.specs.Records.{Record}
use Rattle.fr_recording.specs.Steps.{Steps, IsWholeHead, TakesRecord}
use Rattle.fr_recording.specs.Stream.{State, Progress, read_on, take_in, take_byte, take_bytes, records_from, told_of}
use Rattle.fr_recording.specs.Stream.{needed}
use Rattle.fr_recording.specs.Stream.{after_part, after_record_head, skip, less, go, tell}
use Rattle.fr_recording.specs.declared.phase.Block.{Block}
use Rattle.fr_recording.specs.declared.phase.Head.{Head}
use Rattle.fr_recording.specs.declared.phase.Phase.{Phase}
use Rattle.fr_recording.specs.declared.phase.Phase.TheVariants.{RecordHeader, RecordBytes, Skipped, Refused}
use Rattle.fr_recording.specs.declared.phase.Refusal.{Refusal}

-- ---- counts

counted_more : (a n : ℕ) → counted (counted a 1) n ≡ counted a (suc n)
counted_more a n = omega arith

read_on_more : (s : State) (n : ℕ) → read_on (read_on s 1) n ≡ read_on s (suc n)
read_on_more s n = ap (λ (at : ℕ). record (read_on s n) { at = at }) (counted_more s.at n)

-- ---- steps

steps_on : (p q : Progress) (b : ℕ) (rest : List ℕ) (new : Progress) → take_byte p b ≡ q → told_of q ≡ None
    → Steps q rest new → Steps p (b ∷ rest) new
steps_on p q b rest new one none steps = (
  steps.0 ∙ ap (λ (r : Progress). take_bytes r rest) (sym one),
  ap (λ (r : Progress). option_to_list (told_of r) ++ records_from r rest) one
      ∙ (ap (λ (o : Option Record). option_to_list o ++ records_from q rest) none ∙ steps.1),
)

steps_one : (p : Progress) (b : ℕ) → Steps p (b ∷ []) (take_byte p b)
steps_one p b = (refl, append-nil (option_to_list (told_of (take_byte p b))))

steps_to : (p : Progress) (bytes : List ℕ) (x y : Progress) → x ≡ y → Steps p bytes x → Steps p bytes y
steps_to p bytes x y is steps = subst (λ (q : Progress). Steps p bytes q) is steps

pub steps_from : (p q : Progress) (bytes : List ℕ) (x : Progress) → p ≡ q → Steps p bytes x → Steps q bytes x
steps_from p q bytes x is steps = subst (λ (r : Progress). Steps r bytes x) is steps

-- ---- a part

-- bytes of a part, up to its end
take_part : (bytes : List ℕ) (s : State) (held : List ℕ) → 0 < length bytes
    → length held + length bytes ≤ max 1 (needed s.phase)
    → Steps (record { state = s; held = held }) bytes (take_in (read_on s (length bytes)) (held ++ bytes))
take_part [] s held some fits = absurd (omega arith)
take_part (b ∷ []) s held some fits = steps_one (record { state = s; held = held }) b
take_part (b ∷ c ∷ bytes) s held some fits =
    let len = length-append held (b ∷ []) in
    let short : length (held ++ b ∷ []) < needed s.phase = omega arith in
    let one : take_byte (record { state = s; held = held }) b ≡ record { state = read_on s 1; held = held ++ b ∷ [] } =
    rw (lt-ltb (length (held ++ b ∷ [])) (needed s.phase) short) refl in
    let rest = take_part (c ∷ bytes) (read_on s 1) (held ++ b ∷ []) (omega arith) (omega arith) in
    steps_on (record { state = s; held = held }) (record { state = read_on s 1; held = held ++ b ∷ [] }) b (c ∷ bytes)
    (take_in (read_on s (suc (length (c ∷ bytes)))) (held ++ b ∷ c ∷ bytes)) one refl
    (steps_to (record { state = read_on s 1; held = held ++ b ∷ [] }) (c ∷ bytes) _ _
    (ap (λ (t : State). take_in t ((held ++ b ∷ []) ++ (c ∷ bytes))) (read_on_more s (length (c ∷ bytes)))
    ∙ ap (take_in (read_on s (suc (length (c ∷ bytes))))) (append_assoc held (b ∷ []) (c ∷ bytes))) rest)

-- the part isn't over
pub part_open : (s : State) (held bytes : List ℕ) → 0 < length bytes
    → length held + length bytes < max 1 (needed s.phase)
    → Steps (record { state = s; held = held }) bytes
    (record { state = read_on s (length bytes); held = held ++ bytes })
part_open s held bytes some fits =
    let len = length-append held bytes in
    let short : length (held ++ bytes) < needed s.phase = omega arith in
    let is : take_in (read_on s (length bytes)) (held ++ bytes)
    ≡ record { state = read_on s (length bytes); held = held ++ bytes } =
    rw (lt-ltb (length (held ++ bytes)) (needed s.phase) short) refl in
    steps_to _ bytes _ _ is (take_part bytes s held some (omega arith))

-- the part is over
pub part_over : (s : State) (held bytes : List ℕ) → 0 < length bytes
    → length held + length bytes ≡ max 1 (needed s.phase)
    → Steps (record { state = s; held = held }) bytes
    (record { state = after_part s.phase (read_on s (length bytes)) (held ++ bytes); held = [] })
part_over s held bytes some fits =
    let len = length-append held bytes in
    let full : needed s.phase ≤ length (held ++ bytes) = omega arith in
    let is : take_in (read_on s (length bytes)) (held ++ bytes)
    ≡ record { state = after_part s.phase (read_on s (length bytes)) (held ++ bytes); held = [] } =
    rw (le-ltb (length (held ++ bytes)) (needed s.phase) full) refl in
    steps_to _ bytes _ _ is (take_part bytes s held some (omega arith))

-- ---- bytes that aren't looked at

less_more : (block : Block) (n : ℕ) → less (less block 1) n ≡ less block (suc n)
less_more block n =
    let left : block.left - 1 - n ≡ block.left - suc n = omega arith in
    ap (λ (k : ℕ). record block { left = k }) left

passing : (bytes : List ℕ) (s : State) (block : Block) (head : Option Head) → 0 < length bytes
    → length bytes ≤ max block.left 1
    → Steps (record { state = go s (Skipped block head); held = [] }) bytes
    (record { state = skip (read_on s (length bytes)) (less block (length bytes)) head; held = [] })
passing [] s block head some fits = absurd (omega arith)
passing (b ∷ []) s block head some fits = steps_one (record { state = go s (Skipped block head); held = [] }) b
passing (b ∷ c ∷ bytes) s block head some fits =
    let more : (block.left - 1 == 0) ≡ false = grind (arith, nat_tests) in
    let one : take_byte (record { state = go s (Skipped block head); held = [] }) b
    ≡ record { state = go (read_on s 1) (Skipped (less block 1) head); held = [] } = rw more refl in
    let rest = passing (c ∷ bytes) (read_on s 1) (less block 1) head (omega arith) (omega arith) in
    let n = length (c ∷ bytes) in
    steps_on (record { state = go s (Skipped block head); held = [] })
    (record { state = go (read_on s 1) (Skipped (less block 1) head); held = [] }) b (c ∷ bytes)
    (record { state = skip (read_on s (suc n)) (less block (suc n)) head; held = [] }) one refl
    (steps_to (record { state = go (read_on s 1) (Skipped (less block 1) head); held = [] }) (c ∷ bytes) _ _
    (ap (λ (t : State). record { state = skip t (less (less block 1) n) head; held = [] }) (read_on_more s n)
    ∙ ap (λ (k : Block). record { state = skip (read_on s (suc n)) k head; held = [] }) (less_more block n)) rest)

phase_go : (s : State) (phase : Phase) → s.phase ≡ phase → go s phase ≡ s
phase_go s phase is = ap (go s) (sym is)

none_held : (held : List ℕ) → length held < 1 → held ≡ []
none_held [] few = refl
none_held (b ∷ held) few = absurd (omega arith)

pub pass_part : (s : State) (held bytes : List ℕ) (block : Block) (head : Option Head) → s.phase ≡ Skipped block head
    → length held < max 1 (needed s.phase) → 0 < length bytes → length bytes ≤ max block.left 1
    → Steps (record { state = s; held = held }) bytes
    (record { state = skip (read_on s (length bytes)) (less block (length bytes)) head; held = held })
pass_part s held bytes block head is few some fits =
    let one : needed s.phase ≡ 1 = ap needed is in
    let none : held ≡ [] = none_held held (omega arith) in
    let from : (let p : Progress = record { state = go s (Skipped block head); held = [] } in p)
    ≡ record { state = s; held = held } =
    ap (λ (t : State). record { state = t; held = [] }) (phase_go s (Skipped block head) is)
    ∙ ap (λ (h : List ℕ). record { state = s; held = h }) (sym none) in
    steps_to _ bytes _ _ (ap (λ (h : List ℕ). record {
      state = skip (read_on s (length bytes)) (less block (length bytes)) head;
      held = h;
    }) (sym none)) (steps_from _ _ bytes _ from (passing bytes s block head some fits))

-- ---- a file that is refused

refusing : (bytes : List ℕ) (s : State) (refusal : Refusal) → 0 < length bytes
    → Steps (record { state = go s (Refused refusal); held = [] }) bytes
    (record { state = read_on (go s (Refused refusal)) (length bytes); held = [] })
refusing [] s refusal some = absurd (omega arith)
refusing (b ∷ []) s refusal some = steps_one (record { state = go s (Refused refusal); held = [] }) b
refusing (b ∷ c ∷ bytes) s refusal some =
    steps_on (record { state = go s (Refused refusal); held = [] })
    (record { state = go (read_on s 1) (Refused refusal); held = [] }) b (c ∷ bytes)
    (record { state = read_on (go s (Refused refusal)) (suc (length (c ∷ bytes))); held = [] }) refl refl
    (steps_to (record { state = go (read_on s 1) (Refused refusal); held = [] }) (c ∷ bytes) _ _
    (ap (λ (t : State). record { state = t; held = [] })
    (read_on_more (go s (Refused refusal)) (length (c ∷ bytes))))
    (refusing (c ∷ bytes) (read_on s 1) refusal (omega arith)))

pub refused_part : (s : State) (held bytes : List ℕ) (refusal : Refusal) → s.phase ≡ Refused refusal
    → length held < max 1 (needed s.phase) → 0 < length bytes
    → Steps (record { state = s; held = held }) bytes (record { state = read_on s (length bytes); held = held })
refused_part s held bytes refusal is few some =
    let one : needed s.phase ≡ 1 = ap needed is in
    let none : held ≡ [] = none_held held (omega arith) in
    let same = phase_go s (Refused refusal) is in
    let from : (let p : Progress = record { state = go s (Refused refusal); held = [] } in p)
    ≡ record { state = s; held = held } =
    ap (λ (t : State). record { state = t; held = [] }) same
    ∙ ap (λ (h : List ℕ). record { state = s; held = h }) (sym none) in
    steps_to _ bytes _ _
    (ap (λ (t : State). record { state = read_on t (length bytes); held = [] }) same
    ∙ ap (λ (h : List ℕ). record { state = read_on s (length bytes); held = h }) (sym none))
    (steps_from _ _ bytes _ from (refusing bytes s refusal some))

-- ---- one part after another

pub records_more : (a b : List ℕ) (p : Progress)
    → records_from p (a ++ b) ≡ records_from p a ++ records_from (take_bytes p a) b
records_more [] b p = refl
records_more (x ∷ a) b p =
    ap (λ (t : List Record). option_to_list (told_of (take_byte p x)) ++ t) (records_more a b (take_byte p x))
    ∙ sym (append_assoc (option_to_list (told_of (take_byte p x))) (records_from (take_byte p x) a)
    (records_from (take_bytes (take_byte p x) a) b))

-- bytes that completed no record, and then a part
pub next_part : (p mid new : Progress) (bytes part : List ℕ) (a b : ℕ) → mid ≡ take_bytes p (take a bytes)
    → records_from p (take a bytes) ≡ [] → part ≡ take b (drop a bytes) → Steps mid part new
    → (new ≡ take_bytes p (take (a + b) bytes)) × (records_from p (take (a + b) bytes) ≡ option_to_list (told_of new))
next_part p mid new bytes part a b state silent part_is steps =
    let cut : take (a + b) bytes ≡ take a bytes ++ take b (drop a bytes) = take-add a b bytes in
    let here : Steps (take_bytes p (take a bytes)) (take b (drop a bytes)) new =
    subst (λ (t : List ℕ). Steps (take_bytes p (take a bytes)) t new) part_is
    (subst (λ (q : Progress). Steps q part new) state steps) in (
      here.0
          ∙ sym (fold-append take_byte p (take a bytes) (take b (drop a bytes)))
          ∙ ap (take_bytes p) (sym cut),
      ap (records_from p) cut
          ∙ records_more (take a bytes) (take b (drop a bytes)) p
          ∙ ap (λ (t : List Record). t ++ records_from (take_bytes p (take a bytes)) (take b (drop a bytes))) silent
          ∙ here.1,
    )

-- ---- a part of a reader with these fields

empty_held : (held : List ℕ) → (length held == 0) ≡ true → held ≡ []
empty_held [] none = refl
empty_held (b ∷ held) none = let zero_long : length (b ∷ held) ≡ 0 = eqb-true (length (b ∷ held)) 0 none in
    absurd (omega arith)

need_of : (s : State) (held : List ℕ) (old : Progress) → record { state = s; held = held } ≡ old
    → max 1 (needed s.phase) ≡ max 1 (needed old.state.phase)
need_of s held old is = ap (λ (q : Progress). max 1 (needed q.state.phase)) is

-- the whole part lies in the piece
pub part_here : (old : Progress) (s read done : State) (held piece part : List ℕ) (whole : ℕ)
    → record { state = s; held = held } ≡ old → whole ≡ max 1 (needed old.state.phase)
    → (length held == 0) ≡ true → whole ≤ length piece → read ≡ read_on s whole
    → done ≡ after_part read.phase read part → part ≡ take whole piece
    → Steps old (take whole piece) (record { state = done; held = held })
part_here old s read done held piece part whole is need empty fits read_is done_is part_is =
    let of_s = need_of s held old is in
    let len : length (take whole piece) ≡ whole = length-take-le whole piece fits in
    let none : held ≡ [] = empty_held held empty in
    let done_at : done ≡ after_part s.phase (read_on s (length (take whole piece))) (take whole piece) =
    done_is
    ∙ ap (λ (r : State). after_part r.phase r part) read_is
    ∙ ap (λ (t : List ℕ). after_part s.phase (read_on s whole) t) part_is
    ∙ ap (λ (n : ℕ). after_part s.phase (read_on s n) (take whole piece)) (sym len) in
    let from : (let p : Progress = record { state = s; held = [] } in p) ≡ old =
    ap (λ (h : List ℕ). record { state = s; held = h }) (sym none) ∙ is in
    let to : (let p : Progress = record {
      state = after_part s.phase (read_on s (length (take whole piece))) (take whole piece);
      held = [];
    } in p) ≡ record { state = done; held = held } =
    ap (λ (d : State). record { state = d; held = [] }) (sym done_at)
    ∙ ap (λ (h : List ℕ). record { state = done; held = h }) (sym none) in
    steps_from _ old (take whole piece) _ from
    (steps_to _ (take whole piece) _ _ to (part_over s [] (take whole piece) (omega arith) (omega arith)))

-- the part ends in the piece
pub part_ended : (old : Progress) (s read done : State) (held piece part next last : List ℕ) (whole count : ℕ)
    → record { state = s; held = held } ≡ old → whole ≡ max 1 (needed old.state.phase)
    → length held < whole → count ≤ length piece → 0 < count → read ≡ read_on s count → part ≡ take count piece
    → next ≡ held ++ part → (length next == whole) ≡ true → done ≡ after_part read.phase read next → last ≡ []
    → Steps old (take count piece) (record { state = done; held = last })
part_ended old s read done held piece part next last whole count is need short fits some read_is part_is next_is full
    done_is last_is =
    let of_s = need_of s held old is in
    let len : length (take count piece) ≡ count = length-take-le count piece fits in
    let all : next ≡ held ++ take count piece = next_is ∙ ap (λ (t : List ℕ). held ++ t) part_is in
    let sum : length next ≡ length held + length (take count piece) =
    ap length all ∙ length-append held (take count piece) in
    let ended : length next ≡ whole = eqb-true (length next) whole full in
    let done_at : done ≡ after_part s.phase (read_on s (length (take count piece))) (held ++ take count piece) =
    done_is
    ∙ ap (λ (r : State). after_part r.phase r next) read_is
    ∙ ap (λ (t : List ℕ). after_part s.phase (read_on s count) t) all
    ∙ ap (λ (n : ℕ). after_part s.phase (read_on s n) (held ++ take count piece)) (sym len) in
    let to : (let p : Progress = record {
      state = after_part s.phase (read_on s (length (take count piece))) (held ++ take count piece);
      held = [];
    } in p) ≡ record { state = done; held = last } =
    ap (λ (d : State). record { state = d; held = [] }) (sym done_at)
    ∙ ap (λ (h : List ℕ). record { state = done; held = h }) (sym last_is) in
    steps_from _ old (take count piece) _ is
    (steps_to _ (take count piece) _ _ to (part_over s held (take count piece) (omega arith) (omega arith)))

-- the part doesn't end in the piece
pub part_begun : (old : Progress) (s read : State) (held piece part next : List ℕ) (whole count : ℕ)
    → record { state = s; held = held } ≡ old → whole ≡ max 1 (needed old.state.phase)
    → length held + count ≤ whole → count ≤ length piece → 0 < count → read ≡ read_on s count → part ≡ take count piece
    → next ≡ held ++ part → (length next == whole) ≡ false
    → Steps old (take count piece) (record { state = read; held = next })
part_begun old s read held piece part next whole count is need short fits some read_is part_is next_is open_part =
    let of_s = need_of s held old is in
    let len : length (take count piece) ≡ count = length-take-le count piece fits in
    let all : next ≡ held ++ take count piece = next_is ∙ ap (λ (t : List ℕ). held ++ t) part_is in
    let sum : length next ≡ length held + length (take count piece) =
    ap length all ∙ length-append held (take count piece) in
    let less_long : length next ≢ whole = λ e. cc (sym open_part ∙ eq-eqb (length next) whole e) in
    let to : (let p : Progress = record {
      state = read_on s (length (take count piece));
      held = held ++ take count piece;
    } in p) ≡ record { state = read; held = next } =
    ap (λ (n : ℕ). record { state = read_on s n; held = held ++ take count piece }) len
    ∙ ap (λ (r : State). record { state = r; held = held ++ take count piece }) (sym read_is)
    ∙ ap (λ (h : List ℕ). record { state = read; held = h }) (sym all) in
    steps_from _ old (take count piece) _ is
    (steps_to _ (take count piece) _ _ to (part_open s held (take count piece) (omega arith) (omega arith)))

-- bytes of the piece that aren't looked at
pub passed_part : (old : Progress) (s read done : State) (held piece : List ℕ) (block : Block) (head : Option Head)
    (count : ℕ) → record { state = s; held = held } ≡ old → s.phase ≡ Skipped block head
    → length held < max 1 (needed s.phase) → 0 < count → count ≤ length piece → count ≤ max block.left 1
    → read ≡ read_on s count → done ≡ skip read (less block count) head
    → Steps old (take count piece) (record { state = done; held = held })
passed_part old s read done held piece block head count is phase_is few some fits left read_is done_is =
    let len : length (take count piece) ≡ count = length-take-le count piece fits in
    let to : (let p : Progress = record {
      state = skip (read_on s (length (take count piece))) (less block (length (take count piece))) head;
      held = held;
    } in p) ≡ record { state = done; held = held } =
    ap (λ (n : ℕ). record { state = skip (read_on s n) (less block n) head; held = held }) len
    ∙ ap (λ (r : State). record { state = skip r (less block count) head; held = held }) (sym read_is)
    ∙ ap (λ (d : State). record { state = d; held = held }) (sym done_is) in
    steps_from _ old (take count piece) _ is (steps_to _ (take count piece) _ _ to
    (pass_part s held (take count piece) block head phase_is few (omega arith) (omega arith)))

-- a piece of a file that is refused
pub refused_piece : (old : Progress) (s read : State) (held piece : List ℕ) (refusal : Refusal)
    → record { state = s; held = held } ≡ old → s.phase ≡ Refused refusal
    → length held < max 1 (needed s.phase) → 0 < length piece → read ≡ read_on s (length piece)
    → Steps old (take (length piece) piece) (record { state = read; held = held })
refused_piece old s read held piece refusal is phase_is few some read_is =
    let all : take (length piece) piece ≡ piece = take_all (length piece) piece (omega arith) in
    let to : (let p : Progress = record { state = read_on s (length piece); held = held } in p)
    ≡ record { state = read; held = held } = ap (λ (r : State). record { state = r; held = held }) (sym read_is) in
    subst (λ (t : List ℕ). Steps old t (record { state = read; held = held })) (sym all)
    (steps_from _ old piece _ is (steps_to _ piece _ _ to (refused_part s held piece refusal phase_is few some)))

-- ---- a record of a classic file whose head and captured bytes are there

pub counted_twice : (a m n : ℕ) → counted (counted a m) n ≡ counted a (m + n)
counted_twice a m n = omega arith

pub record_parts : (s : State) (scale link : ℕ) (head : Head) (bytes : List ℕ) → s.phase ≡ RecordHeader scale link
    → IsWholeHead s.order scale link bytes head
    → Steps (record { state = s; held = [] }) (take (16 + head.captured) bytes) (record {
      state = tell (read_on s (16 + head.captured)) scale link head (take head.captured (drop 16 bytes));
      held = [];
    })
record_parts s scale link head bytes phase_is is_whole =
    let front = take 16 bytes in
    let part = take head.captured (drop 16 bytes) in
    let mid = go (read_on s 16) (RecordBytes scale link head) in
    let done = tell (read_on s (16 + head.captured)) scale link head part in
    let front_len : length front ≡ 16 = length-take-le 16 bytes (omega (arith, is_whole.whole)) in
    let part_len : length part ≡ head.captured =
    length-take-le head.captured (drop 16 bytes) (omega (arith, length-drop 16 bytes, is_whole.whole)) in
    let need : needed s.phase ≡ 16 = ap needed phase_is in
    let more : (head.captured == 0) ≡ false = grind (arith, nat_tests, is_whole.some) in
    let mid_is : after_part s.phase (read_on s (length front)) front ≡ mid =
    ap (λ (k : Phase). after_part k (read_on s (length front)) front) phase_is
    ∙ ap (λ (o : Option Head). after_record_head (read_on s (length front)) scale link o) is_whole.is_head
    ∙ cond-false (head.captured == 0) (tell (read_on s (length front)) scale link head [])
    (go (read_on s (length front)) (RecordBytes scale link head)) more
    ∙ ap (λ (n : ℕ). go (read_on s n) (RecordBytes scale link head)) front_len in
    let first : Steps (record { state = s; held = [] }) front (record { state = mid; held = [] }) =
    steps_to _ front _ _ (ap (λ (t : State). record { state = t; held = [] }) mid_is)
    (part_over s [] front (omega (arith, front_len)) (omega (arith, front_len, need))) in
    let done_is : after_part mid.phase (read_on mid (length part)) part ≡ done =
    ap (λ (t : List ℕ). tell (read_on mid (length part)) scale link head t)
    (take_all head.captured part (omega (arith, part_len)))
    ∙ ap (λ (n : ℕ). tell (read_on mid n) scale link head part) part_len
    ∙ ap (λ (n : ℕ). tell (record (read_on s (16 + head.captured)) { at = n }) scale link head part)
    (counted_twice s.at 16 head.captured) in
    let second : Steps (record { state = mid; held = [] }) part (record { state = done; held = [] }) =
    steps_to _ part _ _ (ap (λ (t : State). record { state = t; held = [] }) done_is)
    (part_over mid [] part (omega (arith, part_len, is_whole.some)) (omega (arith, part_len, is_whole.some))) in
    next_part (record { state = s; held = [] }) (record { state = mid; held = [] }) (record { state = done; held = [] })
    bytes part 16 head.captured first.0 first.1 refl second

pub record_here : (old : Progress) (s done : State) (held piece : List ℕ) (count : ℕ)
    → record { state = s; held = held } ≡ old → (length held == 0) ≡ true → TakesRecord s piece count done
    → Steps old (take count piece) (record { state = done; held = held })
record_here old s done held piece count is empty takes =
    let none : held ≡ [] = empty_held held empty in
    let from : (let p : Progress = record { state = s; held = [] } in p) ≡ old =
    ap (λ (h : List ℕ). record { state = s; held = h }) (sym none) ∙ is in
    let to : (let p : Progress = record {
      state = tell (read_on s (16 + takes.head.captured)) takes.scale takes.link takes.head
          (take takes.head.captured (drop 16 piece));
      held = [];
    } in p) ≡ record { state = done; held = held } =
    ap (λ (n : ℕ). record {
      state = tell (read_on s n) takes.scale takes.link takes.head (take takes.head.captured (drop 16 piece));
      held = [];
    }) (sym takes.ends)
    ∙ ap (λ (t : State). record { state = t; held = [] }) (sym takes.state)
    ∙ ap (λ (h : List ℕ). record { state = done; held = h }) (sym none) in
    subst (λ (n : ℕ). Steps old (take n piece) (record { state = done; held = held })) (sym takes.ends)
    (steps_from _ old (take (16 + takes.head.captured) piece) _ from
    (steps_to _ (take (16 + takes.head.captured) piece) _ _ to
    (record_parts s takes.scale takes.link takes.head piece takes.classic takes.is_whole)))
