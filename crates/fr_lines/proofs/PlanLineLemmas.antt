-- A line of a plan is read like the ownership line, the buffer or the receive FIFO alone, since their first words
-- differ.
use Rattle.std.proofs.Common.{◌≡◌, ℕ, true, false, List, [], ◌∷◌, Option, Some, None, codes, inl, inr, refl, sym, ap}
use Rattle.std.proofs.Common.{subst, option_map}
use Rattle.std.specs.Str.{bytes_eq}
use Rattle.std.proofs.lemmas.Bool.{cases_Bool}
use Rattle.std.proofs.lemmas.Slice.Eq.{bytes_eq-Decides}
use Rattle.fr_lines.specs.declared.plan_lines.PlanLine.{PlanLine}
use Rattle.fr_lines.specs.declared.plan_lines.PlanLine.TheVariants as plan_line
use Rattle.fr_lines.specs.declared.versions.Version.{Version}
use Rattle.fr_lines.specs.Reading.{ownership_in, own_in, transmit_in, receive_in, buffer_in, reception_in, queue_in}
use Rattle.fr_lines.specs.Reading.{plan_line_in}
use Rattle.fr_slots.specs.declared.plan.Buffer.{Buffer}
use Rattle.fr_slots.specs.declared.plan.Own.{Own}
use Rattle.fr_slots.specs.declared.plan.Queue.{Queue}

-- a result of one kind of line was read as that kind
own_mapped : (r : Option Own) (line : PlanLine) → option_map plan_line.Own r ≡ Some line
    → (o : Own) × (line ≡ plan_line.Own o) × (r ≡ Some o)
own_mapped None line h = cc h
own_mapped (Some o) line h = (o, cc h, refl)

buffer_mapped : (r : Option Buffer) (line : PlanLine) → option_map plan_line.Buffer r ≡ Some line
    → (b : Buffer) × (line ≡ plan_line.Buffer b) × (r ≡ Some b)
buffer_mapped None line h = cc h
buffer_mapped (Some b) line h = (b, cc h, refl)

queue_mapped : (r : Option Queue) (line : PlanLine) → option_map plan_line.Queue r ≡ Some line
    → (q : Queue) × (line ≡ plan_line.Queue q) × (r ≡ Some q)
queue_mapped None line h = cc h
queue_mapped (Some q) line h = (q, cc h, refl)

-- the reader of the line's own kind reads this result too
abbrev pub IsReadAs : Version → List (List ℕ) → PlanLine → Type 0
IsReadAs v words (plan_line.Own o) = own_in v words ≡ Some o
IsReadAs v words (plan_line.Buffer b) = buffer_in words ≡ Some b
IsReadAs v words (plan_line.Queue q) = queue_in words ≡ Some q

as_read : (v : Version) (words : List (List ℕ)) (line told : PlanLine) → line ≡ told → IsReadAs v words told
    → IsReadAs v words line
as_read v words line told is read = subst (IsReadAs v words) (sym is) read

own_read : (v : Version) (kind : List ℕ) (rest : List (List ℕ)) (o : Own) → bytes_eq kind (codes "own") ≡ true
    → ownership_in v rest ≡ Some o → own_in v (kind ∷ rest) ≡ Some o
unfolding own_in
own_read v kind rest o own read = rw own read

transmit_read : (kind : List ℕ) (rest : List (List ℕ)) (b : Buffer) → bytes_eq kind (codes "tx") ≡ true
    → transmit_in rest ≡ Some b → buffer_in (kind ∷ rest) ≡ Some b
unfolding buffer_in
transmit_read kind rest b tx read = rw tx read

receive_read : (kind : List ℕ) (rest : List (List ℕ)) (b : Buffer) → bytes_eq kind (codes "tx") ≡ false
    → bytes_eq kind (codes "rx") ≡ true → receive_in rest ≡ Some b
    → buffer_in (kind ∷ rest) ≡ Some b
unfolding buffer_in
receive_read kind rest b not_tx rx read = rw (not_tx, rx) read

queue_read : (kind : List ℕ) (rest : List (List ℕ)) (q : Queue) → bytes_eq kind (codes "queue") ≡ true
    → reception_in rest ≡ Some q → queue_in (kind ∷ rest) ≡ Some q
unfolding queue_in
queue_read kind rest q queue read = rw queue read

pub told_read : (v : Version) (words : List (List ℕ)) (line : PlanLine) → plan_line_in v words ≡ Some line
    → IsReadAs v words line
unfolding plan_line_in
told_read v [] line h = cc h
told_read v (kind ∷ rest) line h =
    elim (cases_Bool (bytes_eq kind (codes "own"))) [
      | inl own ↦
          let (o, is, read) = own_mapped (ownership_in v rest) line (rw own at h) in
          as_read v (kind ∷ rest) line (plan_line.Own o) is (own_read v kind rest o own read)
      | inr not_own ↦
          let h1 = rw not_own at h in
          elim (cases_Bool (bytes_eq kind (codes "tx"))) [
            | inl tx ↦
                let (b, is, read) = buffer_mapped (transmit_in rest) line (rw tx at h1) in
                as_read v (kind ∷ rest) line (plan_line.Buffer b) is (transmit_read kind rest b tx read)
            | inr not_tx ↦
                let h2 = rw not_tx at h1 in
                elim (cases_Bool (bytes_eq kind (codes "rx"))) [
                  | inl rx ↦
                      let (b, is, read) = buffer_mapped (receive_in rest) line (rw rx at h2) in
                      as_read v (kind ∷ rest) line (plan_line.Buffer b) is (receive_read kind rest b not_tx rx read)
                  | inr not_rx ↦
                      let h3 = rw not_rx at h2 in
                      elim (cases_Bool (bytes_eq kind (codes "queue"))) [
                        | inl queue ↦
                            let (q, is, read) = queue_mapped (reception_in rest) line (rw queue at h3) in
                            as_read v (kind ∷ rest) line (plan_line.Queue q) is (queue_read kind rest q queue read)
                        | inr other ↦ cc (rw other at h3)
                      ]
                ]
          ]
    ]

-- and a result of the reader of its own kind is that of the line
pub own_told : (v : Version) (words : List (List ℕ)) (o : Own) → own_in v words ≡ Some o
    → plan_line_in v words ≡ Some (plan_line.Own o)
unfolding plan_line_in own_in
own_told v [] o h = cc h
own_told v (kind ∷ rest) o h =
    elim (cases_Bool (bytes_eq kind (codes "own"))) [
      | inl own ↦ rw own (ap (option_map plan_line.Own) (rw own at h))
      | inr other ↦ cc (rw other at h)
    ]

-- a word isn't two different words
not_both : (word a b : List ℕ) → bytes_eq word a ≡ true → bytes_eq a b ≡ false → bytes_eq word b ≡ false
not_both word a b is other =
    let same : word ≡ a = (bytes_eq-Decides word a).0 is in subst (λ w. bytes_eq w b ≡ false) (sym same) other

pub buffer_told : (v : Version) (words : List (List ℕ)) (b : Buffer) → buffer_in words ≡ Some b
    → plan_line_in v words ≡ Some (plan_line.Buffer b)
unfolding plan_line_in buffer_in
buffer_told v [] b h = cc h
buffer_told v (kind ∷ rest) b h =
    elim (cases_Bool (bytes_eq kind (codes "tx"))) [
      | inl tx ↦
          rw (not_both kind (codes "tx") (codes "own") tx refl, tx) (ap (option_map plan_line.Buffer) (rw tx at h))
      | inr not_tx ↦
          let h1 = rw not_tx at h in
          elim (cases_Bool (bytes_eq kind (codes "rx"))) [
            | inl rx ↦
                let not_own = not_both kind (codes "rx") (codes "own") rx refl in
                rw (not_own, not_tx, rx) (ap (option_map plan_line.Buffer) (rw rx at h1))
            | inr other ↦ cc (rw other at h1)
          ]
    ]

pub queue_told : (v : Version) (words : List (List ℕ)) (q : Queue) → queue_in words ≡ Some q
    → plan_line_in v words ≡ Some (plan_line.Queue q)
unfolding plan_line_in queue_in
queue_told v [] q h = cc h
queue_told v (kind ∷ rest) q h =
    elim (cases_Bool (bytes_eq kind (codes "queue"))) [
      | inl queue ↦
          rw (
            not_both kind (codes "queue") (codes "own") queue refl,
            not_both kind (codes "queue") (codes "tx") queue refl,
            not_both kind (codes "queue") (codes "rx") queue refl,
            queue,
          ) (ap (option_map plan_line.Queue) (rw queue at h))
      | inr other ↦ cc (rw other at h)
    ]
