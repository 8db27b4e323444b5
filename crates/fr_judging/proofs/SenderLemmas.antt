-- The slots that have a sender.
use Rattle.std.proofs.Common.{◌≡◌, ℕ, zero, suc, Bool, true, false, List, [], ◌∷◌, refl, sym, ap, ◌∙◌, inl, inr}
use Rattle.std.specs.Prelude.{Option, Some, None, is_some, slice_get, IfSome, IfNone, ◌||◌}
use Rattle.std.specs.List.{list_any}
use Rattle.std.proofs.lemmas.Bool.{cases_Bool}
use Rattle.fr_schedule.specs.Descriptions.{Description}
use Rattle.fr_schedule.specs.SenderTable.{IsSender, may_send}
use Rattle.fr_slots.specs.Plans.{Plan}
use Rattle.fr_slots.specs.declared.channel.Channel.{Channel}
use Rattle.fr_frame.specs.Fields.{Fields}
use Rattle.fr_logged.proofs.SenderLemmas.{due_nobody}
use Rattle.fr_logged.specs.declared.due.Due.{Due}
use Rattle.fr_slots.specs.Numbers.{number_within, last_slot}
use Rattle.fr_judging.specs.Judging.{State, is_fine}
use Rattle.fr_judging.specs.Rules.{sent_in, sent_or, is_sent, due_or, due_at}
use Rattle.fr_judging.specs.declared.line.At.{At}

any_at : (p : Plan → Bool) (xs : List Plan) (i : ℕ) (x : Plan) → slice_get xs i ≡ Some x → p x ≡ true
    → list_any p xs ≡ true
any_at p [] i x at passes = cc at
any_at p (y ∷ xs) zero x at passes =
    let is : y ≡ x = cc at in
    let here : p y ≡ true = ap p is ∙ passes in
    ap (λ (b : Bool). b || list_any p xs) here
any_at p (y ∷ xs) (suc i) x at passes =
    elim (cases_Bool (p y)) [
      | inl here ↦ ap (λ (b : Bool). b || list_any p xs) here
      | inr not_here ↦ ap (λ (b : Bool). b || list_any p xs) not_here ∙ any_at p xs i x at passes
    ]

none_any : (p : Plan → Bool) (xs : List Plan)
    → ((i : ℕ) (x : Plan) → slice_get xs i ≡ Some x → p x ≡ true → ⊥) → list_any p xs ≡ false
none_any p [] none = refl
none_any p (y ∷ xs) none =
    elim (cases_Bool (p y)) [
      | inl here ↦ absurd (none 0 y refl here)
      | inr not_here ↦ ap (λ (b : Bool). b || list_any p xs) not_here
          ∙ none_any p xs (λ i x at passes. none (suc i) x at passes)
    ]

pub sent_is : (r : Option ℕ) (d : Description) (slot : ℕ) (channel : Channel) (cycle : ℕ)
    → IfSome r (λ node. IsSender d cycle slot channel node)
    → IfNone r ((node : ℕ) → IsSender d cycle slot channel node → ⊥) → is_some r ≡ sent_in d slot channel cycle
sent_is None d slot channel cycle some none =
    sym (none_any (may_send d.params cycle slot channel) d.plans
    (λ i x at passes. none i (record { plan = x; at = at; sends = passes })))
sent_is (Some node) d slot channel cycle some none =
    sym (any_at (may_send d.params cycle slot channel) d.plans node some.plan some.at some.sends)

-- ---- a slot in which something is due

due_is_sent : (d : Description) (channel : Channel) (cycle : ℕ) (slot : Option ℕ) (x : Due)
    → due_or d channel cycle slot ≡ Some x → sent_or d channel cycle slot ≡ true
due_is_sent d channel cycle None x is = absurd (let none : ⊥ = cc is in none)
due_is_sent d channel cycle (Some slot) x is =
    elim (cases_Bool (sent_in d slot channel cycle)) [
      | inl sent ↦ sent
      | inr silent ↦ absurd (let none : ⊥ = cc (sym is ∙ due_nobody d slot channel cycle (λ node sender.
          let sent : sent_in d slot channel cycle ≡ true =
          any_at (may_send d.params cycle slot channel) d.plans node sender.plan sender.at sender.sends in
          cc (sym sent ∙ silent))) in none)
    ]

pub fine_sent : (s : State) (f : Fields) (at : At) (due : Option Due)
    → due ≡ due_at s.rules.cluster f.id s.channel f.cycle → is_fine s f at due ≡ true
    → is_sent s.rules f.id s.channel f.cycle ≡ true
fine_sent s f at None is fine = absurd (let none : ⊥ = cc fine in none)
fine_sent s f at (Some d) is fine =
    due_is_sent s.rules.cluster s.channel f.cycle (number_within 1 last_slot f.id) d (sym is)
