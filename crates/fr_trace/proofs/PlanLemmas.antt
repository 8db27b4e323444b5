-- The results of tests of a plan.
use Rattle.std.proofs.Common.{◌≡◌, ◌<◌, true, false, inl, inr, List, [], ◌∷◌, length, arith, Option, Some, None, refl}
use Rattle.std.proofs.Common.{eqb}
use Rattle.std.specs.Prelude.{is_none, is_some}
use Rattle.std.proofs.lemmas.Bool.{cases_Bool, eqb-true, lt-leb}
use Rattle.fr_slots.specs.declared.plan.Buffer.{Buffer}
use Rattle.fr_slots.specs.declared.plan.Own.{Own}
use Rattle.fr_slots.specs.declared.plan.Queue.{Queue}
use Rattle.fr_slots.specs.Plans.{Plan, own_fits, own_refusal, buffer_fits, buffer_refusal, queue_fits, queue_refusal}

pub nil_is : {X : Type 0} (xs : List X) → eqb (length xs) 0 ≡ true → xs ≡ []
nil_is [] h = refl
nil_is (x ∷ xs) h = let none : length (x ∷ xs) ≡ 0 = eqb-true (length (x ∷ xs)) 0 h in absurd (omega arith)

not_there : {X : Type 0} (o : Option X) → is_some o ≡ false → is_none o ≡ true
not_there None h = refl
not_there (Some x) h = cc h

pub none_is : {X : Type 0} (o : Option X) → is_none o ≡ true → o ≡ None
none_is None h = refl
none_is (Some x) h = cc h

-- a receive FIFO is taken if there is none yet
pub no_queue_yet : (plan : Plan) (q : Queue) → is_none (queue_refusal plan q) ≡ true → plan.queue ≡ None
no_queue_yet plan q h =
    elim (cases_Bool (queue_fits q)) [
      | inl fits ↦
          let h1 = rw fits at h in
          elim (cases_Bool (is_some plan.queue)) [
            | inl there ↦ cc (rw there at h1)
            | inr none ↦ none_is plan.queue (not_there plan.queue none)
          ]
      | inr unfit ↦ cc (rw unfit at h)
    ]

pub queue_taken : (plan : Plan) (q : Queue) → queue_fits q ≡ true → plan.queue ≡ None → queue_refusal plan q ≡ None
queue_taken plan q fits none = rw (fits, none) refl

-- a buffer that fits is taken as long as there is room
pub buffer_taken : (plan : Plan) (b : Buffer) → buffer_fits b ≡ true → length plan.buffers < 64
    → buffer_refusal plan b ≡ None
buffer_taken plan b fits room = rw (fits, lt-leb 64 (length plan.buffers) room) refl

-- an ownership line that fits is taken as long as there is room
pub own_taken : (plan : Plan) (o : Own) → own_fits o ≡ true → length plan.owned < 64 → own_refusal plan o ≡ None
own_taken plan o fits room = rw (fits, lt-leb 64 (length plan.owned) room) refl
