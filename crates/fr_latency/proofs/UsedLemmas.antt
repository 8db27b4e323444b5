-- The buffers of a cluster's nodes, and the owners of its static slots.
use Rattle.std.proofs.Common.{◌≡◌, ℕ, zero, suc, ◌+◌, ◌-◌, ◌/◌, ◌<◌, ◌≤◌, Bool, true, false, ◌&&◌, eqb, leb, List, []}
use Rattle.std.proofs.Common.{◌∷◌}
use Rattle.std.proofs.Common.{refl, sym, ap, ◌∙◌, subst, arith, Some, None, Option, slice_get}
use Rattle.std.proofs.lemmas.Bool.{and_from, and_parts, eq-eqb, or_from, cond-true, false_from_ne_true, leb-true}
use Rattle.std.proofs.lemmas.Bool.{lt-leb, ne_eqb, cond_both, and_left, and_right}
use Rattle.std.proofs.Math.Nat.{div-le_self}
use Rattle.std.proofs.lemmas.Bool.Decides.{nat_tests}
use Rattle.std.proofs.lemmas.Option.{slice_get_within, get_or_from_slice_get}
use Rattle.std.proofs.lemmas.List.Folds.{list_any_at}
use Rattle.std.specs.List.{list_any}
use Rattle.std.specs.Prelude.{IfSome, IfNone, is_some, unwrap_or}
use Rattle.fr_slots.specs.declared.channel.Channel.{Channel}
use Rattle.fr_slots.specs.declared.channel.Channels.{Channels}
use Rattle.fr_slots.specs.declared.channel.Channels.TheVariants as channels
use Rattle.fr_slots.specs.declared.plan.Buffer.{Buffer}
use Rattle.fr_slots.specs.Admission.{includes}
use Rattle.fr_slots.specs.Faults.{transmits, is_owned, latest_on, sends_at, words_of}
use Rattle.fr_slots.specs.Numbers.{number_within}
use Rattle.fr_slots.specs.Parameters.{Parameters, IsParameters, is_static_slot}
use Rattle.fr_slots.specs.Plans.{Plan, IsBuffer, AllFit, buffer_fits, words_fit}
use Rattle.fr_schedule.specs.Clusters.{IsCluster, IsNode}
use Rattle.fr_schedule.specs.Descriptions.{Description}
use Rattle.fr_schedule.specs.SenderTable.{IsSender}
use Rattle.fr_latency.specs.Below.{least_below}
use Rattle.fr_latency.specs.Latencies.{channel_of}
use Rattle.fr_latency.specs.Loads.{has_owner}
use Rattle.fr_latency.specs.Openings.{is_for, can_begin, follows_buffer, follows_frame, follows_node, frame_length}
use Rattle.fr_latency.specs.Openings.{horizon, slot_after}
use Rattle.fr_latency.specs.Tables.{IsUsedFor}
use Rattle.fr_latency.proofs.StepLemmas.{each_at, latest_fits}

-- ---- buffers

on_its_channel : (cs : Channels) → includes cs (channel_of cs) ≡ true
on_its_channel channels.A = refl
on_its_channel channels.B = refl
on_its_channel channels.Both = refl

pub any_at : {X : Type 0} (test : X → Bool) (xs : List X) (k : ℕ) (x : X) → slice_get xs k ≡ Some x → test x ≡ true
    → list_any test xs ≡ true
any_at test xs k x at passes =
    list_any_at test xs k x (slice_get_within xs k x at)
    (ap test (get_or_from_slice_get xs k x x at) ∙ passes)

-- a buffer of a node
pub used_of : (d : Description) → IsCluster d → (node : ℕ) (plan : Plan) → slice_get d.plans node ≡ Some plan
    → (number : ℕ) (b : Buffer) → slice_get plan.buffers number ≡ Some b → IsUsedFor d b
used_of d is node plan at number b there =
    let of_node : IsNode d.params plan = each_at (IsNode d.params) d.plans node plan is.nodes_are at in
    let buffer : IsBuffer b = each_at IsBuffer plan.buffers number b of_node.0.buffers_are there in
    let slot = b.filter.slot in
    let on = channel_of b.filter.channels in
    record {
      slot_is = buffer.slot_is;
      used = λ sends.
          any_at (λ (p : Plan). list_any (is_for slot on) p.buffers) d.plans node plan at
          (any_at (is_for slot on) plan.buffers number b there
          (and_from (transmits b) (eqb slot slot && includes b.filter.channels on) sends
          (and_from (eqb slot slot) (includes b.filter.channels on) (eq-eqb slot slot refl)
          (on_its_channel b.filter.channels))));
    }

-- ---- owners

any_fails : {X : Type 0} (test : X → Bool) (xs : List X)
    → ((k : ℕ) (x : X) → slice_get xs k ≡ Some x → test x ≡ false) → list_any test xs ≡ false
any_fails test [] none = refl
any_fails test (x ∷ xs) none =
    or_from (test x) (list_any test xs) (none 0 x refl) (any_fails test xs (λ k y at. none (suc k) y at))

pub owner_is : (d : Description) (cycle slot : ℕ) (on : Channel) (sender : Option ℕ)
    → is_static_slot d.params slot ≡ true
    → IfSome sender (λ node. IsSender d cycle slot on node)
    → IfNone sender ((node : ℕ) → IsSender d cycle slot on node → ⊥)
    → is_some sender ≡ has_owner d.plans slot on cycle
owner_is d cycle slot on (Some node) static found none =
    let owned : is_owned found.plan.owned slot on cycle ≡ true =
    sym (cond-true (is_static_slot d.params slot) (is_owned found.plan.owned slot on cycle) _ static) ∙ found.sends in
    sym (any_at (λ (p : Plan). is_owned p.owned slot on cycle) d.plans node found.plan found.at owned)
owner_is d cycle slot on None static found none =
    sym (any_fails (λ (p : Plan). is_owned p.owned slot on cycle) d.plans
    (λ node plan at. false_from_ne_true (is_owned plan.owned slot on cycle)
    (λ owned. none node (record {
      plan = plan;
      at = at;
      sends = cond-true (is_static_slot d.params slot) (is_owned plan.owned slot on cycle) _ static ∙ owned;
    }))))

pub is_slot_number : (n slot : ℕ) → number_within 1 2047 n ≡ Some slot → slot ≡ n
is_slot_number n slot is = grind (arith, nat_tests)

pub no_slot_number : (n : ℕ) → 1 ≤ n → n ≤ 2047 → number_within 1 2047 n ≡ None → ⊥
no_slot_number n low high is = grind (arith, nat_tests)

-- ---- the least value

pub least_same : (most : ℕ) (value : ℕ → ℕ) (n : ℕ) → ((k : ℕ) → value k ≡ most) → least_below most value n ≡ most
unfolding least_below
least_same most value zero all = refl
least_same most value (suc n) all = omega (arith, least_same most value n all, all n)

-- ---- the last minislot

words_most : (b : Buffer) → buffer_fits b ≡ true → unwrap_or b.words 0 ≤ 127
words_most b fits = of_words b.words (and_parts (words_fit b.words) _ fits).0
  where
    of_words : (words : Option ℕ) → words_fit words ≡ true → unwrap_or words 0 ≤ 127
    of_words None fit = omega arith
    of_words (Some n) fit = leb-true n 127 fit

-- a frame takes fewer than 300 minislots
pub short_frame : (p : Parameters) → IsParameters p → (b : Buffer) → buffer_fits b ≡ true → frame_length p b ≤ 300
short_frame p is b fits =
    let words : words_of p b ≤ 127 =
    cond_both (is_static_slot p b.filter.slot) p.static_words (unwrap_or b.words 0) (λ n. n ≤ 127)
    (λ e. is.static_words_fit.at_most) (λ e. words_most b fits) in
    let quotient : (words_of p b + 4) / p.words_per_minislot ≤ words_of p b + 4 =
    div-le_self (words_of p b + 4) p.words_per_minislot in
    omega (arith, words, quotient, is.idle_fit.at_most)

fits_at : (fits : Buffer → Bool) (bs : List Buffer) (k : ℕ) (b : Buffer) → AllFit fits bs → slice_get bs k ≡ Some b
    → fits b ≡ true
fits_at fits [] k b all at = absurd (cc)
fits_at fits (c ∷ bs) zero b all at = let same : c ≡ b = cc in subst (λ (x : Buffer). fits x ≡ true) same all.0
fits_at fits (c ∷ bs) (suc k) b all at = fits_at fits bs k b all.1 at

late_node : (d : Description) → IsCluster d → (slot : ℕ) (on : Channel) (cycle : ℕ) (test : ℕ → Bool) (minislot : ℕ)
    → d.params.minislots + 300 < minislot → (k : ℕ) (plan : Plan) → slice_get d.plans k ≡ Some plan
    → follows_node d.params slot on cycle test minislot plan ≡ false
late_node d is slot on cycle test minislot late k plan at =
    let p = d.params in
    let of_node : IsNode p plan = each_at (IsNode p) d.plans k plan is.nodes_are at in
    let latest = latest_fits d is k plan at on in
    and_right (leb 1 plan.tasks) (list_any (follows_buffer p slot on cycle test minislot plan) plan.buffers)
    (any_fails (follows_buffer p slot on cycle test minislot plan) plan.buffers
    (λ j b there.
    let short : frame_length p b ≤ 300 = short_frame p is.params_are b
    (fits_at buffer_fits plan.buffers j b of_node.0.buffers_fit there) in
    and_right (sends_at slot on cycle b) (follows_frame p on test minislot plan b)
    (and_left (leb (minislot - frame_length p b) (latest_on plan on)) (test (minislot - frame_length p b))
    (lt-leb (minislot - frame_length p b) (latest_on plan on) (omega (arith, short, latest, late))))))

-- no slot begins later than the horizon
pub ends_by : (d : Description) → IsCluster d → (on : Channel) (cycle earlier minislot : ℕ)
    → horizon d.params earlier < minislot → can_begin d on cycle earlier minislot ≡ false
unfolding can_begin
ends_by d is on cycle zero minislot late = ne_eqb minislot 1 (λ same. omega (arith, same, late))
ends_by d is on cycle (suc earlier) minislot late =
    let test = can_begin d on cycle earlier in
    or_from (test (minislot - 1)) (list_any (follows_node d.params (slot_after d.params earlier) on cycle test minislot)
    d.plans)
    (ends_by d is on cycle earlier (minislot - 1) (omega (arith, late)))
    (any_fails (follows_node d.params (slot_after d.params earlier) on cycle test minislot) d.plans
    (late_node d is (slot_after d.params earlier) on cycle test minislot (omega (arith, late))))
