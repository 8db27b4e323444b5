-- Where slots can begin: not before the first minislot that is left, always there, and not long after the segment.
use Rattle.std.proofs.Common.{◌≡◌, ℕ, zero, suc, ◌+◌, ◌-◌, ◌*◌, ◌≤◌, Bool, true, false, leb, eqb, List, [], ◌∷◌}
use Rattle.std.proofs.Common.{refl, sym, ap, ◌∙◌, inl, inr, arith, add-one}
use Rattle.std.specs.List.{list_any}
use Rattle.std.proofs.lemmas.Bool.{and_right, or_cases, or_from, or_left, true≢false}
use Rattle.std.proofs.lemmas.Bool.{ne_eqb}
use Rattle.std.proofs.lemmas.Grind.{div_ceil_times}
use Rattle.fr_slots.specs.declared.channel.Channel.{Channel}
use Rattle.fr_slots.specs.declared.plan.Buffer.{Buffer}
use Rattle.fr_slots.specs.Faults.{latest_on, minislots_filled, sends_at, words_of}
use Rattle.fr_slots.specs.Parameters.{Parameters, IsParameters}
use Rattle.fr_slots.specs.Plans.{Plan}
use Rattle.fr_schedule.specs.Descriptions.{Description}
use Rattle.fr_latency.specs.Openings.{frame_length, follows_frame, follows_buffer, follows_node, follows, slot_after}
use Rattle.fr_latency.specs.Openings.{can_begin}

-- ---- the items of a list

pub any_none : {X : Type 0} (test : X → Bool) → ((x : X) → test x ≡ false) → (xs : List X) → list_any test xs ≡ false
any_none test none [] = refl
any_none test none (x ∷ xs) = or_from (test x) (list_any test xs) (none x) (any_none test none xs)

-- a property that follows from each item that passes
pub any_gives : {X : Type 0} (P : Type 0) (test : X → Bool) → ((x : X) → test x ≡ true → P) → (xs : List X)
    → list_any test xs ≡ true → P
any_gives P test gives [] some = absurd (true≢false (sym some))
any_gives P test gives (x ∷ xs) some =
    elim (or_cases (test x) (list_any test xs) some) as (λ _. P) [
      | inl here ↦ gives x here
      | inr later ↦ any_gives P test gives xs later
    ]

-- ---- the length of a frame

abbrev pub HasLengths : Parameters → Type 0
HasLengths p = (b : Buffer) → 1 ≤ frame_length p b

some_filled : (q words n : ℕ) → words + 4 ≤ q * n → 1 ≤ q
some_filled zero words n few = omega (arith, few)
some_filled (suc q) words n few = omega arith

pub frames_have_lengths : (p : Parameters) → IsParameters p → HasLengths p
frames_have_lengths p is = λ b.
    let filled = minislots_filled p (words_of p b) in
    let times = div_ceil_times (words_of p b + 4) p.words_per_minislot (omega
    (arith, is.words_per_minislot_fit.from_least)) in
    let some = some_filled filled (words_of p b) p.words_per_minislot times.0 in
    omega (arith, some)

-- ---- the first minislot that is left

node_starts : (p : Parameters) (slot : ℕ) (channel : Channel) (cycle : ℕ) (test : ℕ → Bool) (most minislot : ℕ)
    → HasLengths p → ((m : ℕ) → m ≤ most → test m ≡ false) → minislot ≤ most + 1
    → (plan : Plan) → follows_node p slot channel cycle test minislot plan ≡ false
node_starts p slot channel cycle test most minislot lengths none few = λ plan.
    and_right (leb 1 plan.tasks) (list_any (follows_buffer p slot channel cycle test minislot plan) plan.buffers)
    (any_none (follows_buffer p slot channel cycle test minislot plan)
    (λ b. and_right (sends_at slot channel cycle b) (follows_frame p channel test minislot plan b)
    (and_right (leb (minislot - frame_length p b) (latest_on plan channel)) (test (minislot - frame_length p b))
    (none (minislot - frame_length p b) (omega (arith, lengths b, few)))))
    plan.buffers)

-- a slot begins after at least one minislot for each slot before it
pub starts_after : (d : Description) (channel : Channel) (cycle earlier minislot : ℕ) → HasLengths d.params
    → minislot ≤ earlier → can_begin d channel cycle earlier minislot ≡ false
unfolding can_begin
starts_after d channel cycle zero minislot lengths few = ne_eqb minislot 1 (λ same. omega (arith, same, few))
starts_after d channel cycle (suc earlier) minislot lengths few =
    let p = d.params in
    let test = can_begin d channel cycle earlier in
    let none : (m : ℕ) → m ≤ earlier → test m ≡ false = λ m less. starts_after d channel cycle earlier m lengths less in
    let slot = slot_after p earlier in
    or_from (test (minislot - 1)) (list_any (follows_node p slot channel cycle test minislot) d.plans)
    (none (minislot - 1) (omega (arith, few)))
    (any_none (follows_node p slot channel cycle test minislot)
    (node_starts p slot channel cycle test earlier minislot lengths none (omega (arith, few))) d.plans)

-- it can begin right then, if nothing is sent
pub starts_first : (d : Description) (channel : Channel) (cycle earlier : ℕ)
    → can_begin d channel cycle earlier (earlier + 1) ≡ true
unfolding can_begin
starts_first d channel cycle zero = refl
starts_first d channel cycle (suc earlier) =
    let less : suc earlier + 1 - 1 ≡ earlier + 1 = omega arith in
    or_left (can_begin d channel cycle earlier (suc earlier + 1 - 1))
    (list_any (follows_node d.params (slot_after d.params earlier) channel cycle (can_begin d channel cycle earlier)
    (suc earlier + 1)) d.plans)
    (ap (can_begin d channel cycle earlier) less ∙ starts_first d channel cycle earlier)

-- the slot after one more slot
pub begins_more : (d : Description) (channel : Channel) (cycle earlier minislot : ℕ)
    → can_begin d channel cycle (earlier + 1) minislot
    ≡ follows d.params d.plans (slot_after d.params earlier) channel cycle (can_begin d channel cycle earlier) minislot
unfolding can_begin
begins_more d channel cycle earlier minislot =
    ap (λ n. can_begin d channel cycle n minislot) (add-one earlier)

pub begins_none : (d : Description) (channel : Channel) (cycle minislot : ℕ)
    → can_begin d channel cycle 0 minislot ≡ eqb minislot 1
unfolding can_begin
begins_none d channel cycle minislot = refl
