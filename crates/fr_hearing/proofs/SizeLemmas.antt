-- The size of a frame that is due: its words, its minislots and its bytes.
use Rattle.std.proofs.Common.{◌≡◌, ℕ, suc, ◌+◌, ◌-◌, ◌*◌, ◌≤◌, Bool, true, false, cond, not, ◌&&◌, List, [], ◌∷◌}
use Rattle.std.proofs.Common.{Option, Some, None, refl, sym, ap, subst, ◌∙◌, arith, slice_get}
use Rattle.std.proofs.lemmas.Bool.{cond-true, cond-false, eqb-true, ne_eqb, leb-true}
use Rattle.std.specs.Int.{div_ceil}
use Rattle.std.specs.List.{find}
use Rattle.std.specs.Prelude.{◌==◌, ◌||◌, is_some, unwrap_or}
use Rattle.fr_core.proofs.CaseLemmas.{both, both_first, both_rest}
use Rattle.fr_guarantees.proofs.TableLaws.{fit_at}
use Rattle.fr_guarantees.proofs.WayLaws.{div_ceil-halves}
use Rattle.fr_logged.specs.declared.due.Due.{Due}
use Rattle.fr_logged.specs.Dues.{line_in, buffer_in, owner_or, owner_from, sender_or, sender_from, dynamic_due, due_of}
use Rattle.fr_minislot.specs.DynamicRows.{minislots_filled_by, row_length}
use Rattle.fr_schedule.specs.Clusters.{IsCluster, IsNode}
use Rattle.fr_schedule.specs.Descriptions.{Description}
use Rattle.fr_slots.proofs.FaultlessLemmas.{faultless}
use Rattle.fr_slots.proofs.PlaceLemmas.{same_some}
use Rattle.fr_slots.specs.Admission.{includes, cycle_admitted}
use Rattle.fr_slots.specs.declared.channel.Channel.{Channel}
use Rattle.fr_slots.specs.declared.plan.Buffer.{Buffer}
use Rattle.fr_slots.specs.declared.plan.Own.{Own}
use Rattle.fr_slots.specs.Faults.{minislots_filled, sends_at, transmits, transmits_dynamic, words_of, latest_on}
use Rattle.fr_slots.specs.Parameters.{Parameters, is_static_slot}
use Rattle.fr_slots.specs.Plans.{Plan, Each, buffer_fits, filter_admits, words_fit, is_receive}

-- ---- quotients that are rounded up

-- the bytes of a frame fill the minislots of its words
pub filled_same : (p : Parameters) (bytes words : ℕ) → 1 ≤ p.words_per_minislot → bytes ≡ 8 + 2 * words
    → minislots_filled_by p bytes ≡ minislots_filled p words
filled_same p bytes words some is =
    let double : bytes ≡ 2 * (words + 4) = omega (arith, is) in
    ap (λ (n : ℕ). div_ceil n (2 * p.words_per_minislot)) double
    ∙ div_ceil-halves (words + 4) p.words_per_minislot (omega (arith, some))

pub row_same : (p : Parameters) (bytes words : ℕ) → 1 ≤ p.words_per_minislot → bytes ≡ 8 + 2 * words
    → row_length p bytes ≡ minislots_filled p words + p.idle
row_same p bytes words some is =
    cond-false (bytes == 0) 1 (minislots_filled_by p bytes + p.idle)
    (ne_eqb bytes 0 (λ none. let no : ⊥ = omega (arith, is, none) in no))
    ∙ ap (λ (n : ℕ). n + p.idle) (filled_same p bytes words some is)

-- ---- static slots

static_from : (p : Parameters) (slot : ℕ) (channel : Channel) (cycle : ℕ) (plans : List Plan) (start : ℕ) (x : Due)
    → owner_from p slot channel cycle start plans ≡ Some x → x.words ≡ p.static_words
static_from p slot channel cycle [] start x e = absurd (let none : ⊥ = cc in none)
static_from p slot channel cycle (q ∷ qs) start x e =
    by (line_in slot channel cycle q) e (static_from p slot channel cycle qs (start + 1) x)
  where
    by : (o : Option Own) → owner_or p start q o (buffer_in slot channel cycle q)
        (owner_from p slot channel cycle (start + 1) qs) ≡ Some x
        → (owner_from p slot channel cycle (start + 1) qs ≡ Some x → x.words ≡ p.static_words)
        → x.words ≡ p.static_words
    by None f more = more f
    by (Some own) f more = sym (ap (λ (y : Due). y.words) (same_some _ x f))

pub static_words : (d : Description) (slot : ℕ) (channel : Channel) (cycle : ℕ) (x : Due)
    → is_static_slot d.params slot ≡ true → due_of d slot channel cycle ≡ Some x → x.words ≡ d.params.static_words
static_words d slot channel cycle x static e =
    static_from d.params slot channel cycle d.plans 0 x
    (sym (cond-true (is_static_slot d.params slot) (owner_from d.params slot channel cycle 0 d.plans)
    (sender_from d.params slot channel cycle 0 d.plans) static) ∙ e)

-- ---- dynamic slots

pub record IsFoundAt {X : Type 0} (test : X → Bool) (xs : List X) (x : X) : Type 0 where
  pub place : ℕ
  pub at : slice_get xs place ≡ Some x
  pub passes : test x ≡ true

pub found_at : {X : Type 0} (test : X → Bool) (xs : List X) (x : X) → find test xs ≡ Some x → IsFoundAt test xs x
found_at test [] x e = absurd (let none : ⊥ = cc in none)
found_at test (y ∷ xs) x e = by (test y) refl e (found_at test xs x)
  where
    by : (b : Bool) → test y ≡ b → cond b (Some y) (find test xs) ≡ Some x
        → (find test xs ≡ Some x → IsFoundAt test xs x) → IsFoundAt test (y ∷ xs) x
    by true is f more = record { place = 0; at = f; passes = ap test (sym (same_some y x f)) ∙ is }
    by false is f more = let m = more f in record { place = suc m.place; at = m.at; passes = m.passes }

few_words : (o : Option ℕ) → words_fit o ≡ true → unwrap_or o 0 ≤ 127
few_words None fit = omega arith
few_words (Some n) fit = leb-true n 127 fit

-- a frame that begins by its node's latest minislot ends within the dynamic segment
pub record IsSized (p : Parameters) (x : Due) : Type 0 where
  pub words_fit : x.words ≤ 127
  pub ends : 1 ≤ x.latest → x.latest - 1 + minislots_filled p x.words ≤ p.minislots

module _ (p : Parameters) (slot : ℕ) (channel : Channel) (cycle : ℕ) (dynamic : is_static_slot p slot ≡ false) where
  sized : (q : Plan) (b : Buffer) (node : ℕ) (x : Due) → IsNode p q → buffer_in slot channel cycle q ≡ Some b
      → dynamic_due p channel node q b ≡ Some x → IsSized p x
  sized q b node x is_node found e = by (q.tasks == 0) e
    where
      at : IsFoundAt (sends_at slot channel cycle) q.buffers b
      at = found_at (sends_at slot channel cycle) q.buffers b found

      admits : filter_admits b.filter cycle slot channel ≡ true
      admits = both_rest (transmits b) (filter_admits b.filter cycle slot channel) at.passes

      front : (b.filter.slot == slot && includes b.filter.channels channel) ≡ true
      front = both_first (b.filter.slot == slot && includes b.filter.channels channel)
          (cycle_admitted b.filter.cycles cycle) admits

      slot_is : b.filter.slot ≡ slot
      slot_is = eqb-true b.filter.slot slot
          (both_first (b.filter.slot == slot) (includes b.filter.channels channel) front)

      not_static : is_static_slot p b.filter.slot ≡ false
      not_static = ap (is_static_slot p) slot_is ∙ dynamic

      is_dynamic : transmits_dynamic p b ≡ true
      is_dynamic = both (transmits b) (not (is_static_slot p b.filter.slot))
          (both_first (transmits b) (filter_admits b.filter cycle slot channel) at.passes) (ap not not_static)

      few : words_of p b ≤ 127
      few =
          let here : words_of p b ≡ unwrap_or b.words 0 =
          cond-false (is_static_slot p b.filter.slot) p.static_words (unwrap_or b.words 0) not_static in
          let most = few_words b.words (both_first (words_fit b.words)
          (not (is_receive b.mode) || not (is_some b.words || b.preamble))
          (fit_at buffer_fits q.buffers at.place b is_node.0.buffers_fit at.at)) in
          omega (arith, here, most)

      by : (c : Bool) → cond c None (Some (record {
        node = node;
        sync = false;
        startup = false;
        words = words_of p b;
        preamble = Some b.preamble;
        both = false;
        latest = latest_on q channel;
      })) ≡ Some x → IsSized p x
      by true f = absurd (let none : ⊥ = cc in none)
      by false f =
          subst (IsSized p) (same_some _ x f) (record {
            words_fit = few;
            ends = ((faultless p q is_node.1).dynamic_fit at.place b at.at is_dynamic).ends channel
                (both_rest (b.filter.slot == slot) (includes b.filter.channels channel) front);
          })

  sized_from : (plans : List Plan) (start : ℕ) (x : Due) → Each (IsNode p) plans
      → sender_from p slot channel cycle start plans ≡ Some x → IsSized p x
  sized_from [] start x each e = absurd (let none : ⊥ = cc in none)
  sized_from (q ∷ qs) start x each e =
      by (buffer_in slot channel cycle q) refl e (sized_from qs (start + 1) x each.1)
    where
      by : (o : Option Buffer) → buffer_in slot channel cycle q ≡ o
          → sender_or p channel start q o (sender_from p slot channel cycle (start + 1) qs) ≡ Some x
          → (sender_from p slot channel cycle (start + 1) qs ≡ Some x → IsSized p x) → IsSized p x
      by None is f more = more f
      by (Some b) is f more = sized q b start x each.0 is f

pub dynamic_sized : (d : Description) (slot : ℕ) (channel : Channel) (cycle : ℕ) (x : Due) → IsCluster d
    → is_static_slot d.params slot ≡ false → due_of d slot channel cycle ≡ Some x → IsSized d.params x
dynamic_sized d slot channel cycle x cluster dynamic e =
    sized_from d.params slot channel cycle dynamic d.plans 0 x cluster.nodes_are
    (sym (cond-false (is_static_slot d.params slot) (owner_from d.params slot channel cycle 0 d.plans)
    (sender_from d.params slot channel cycle 0 d.plans) dynamic) ∙ e)
