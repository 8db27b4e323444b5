-- Both lanes of a judge: the frames that each shows the other, and the cycles that one opened alone.
use Rattle.std.proofs.Common.{◌≡◌, ℕ, ◌+◌, ◌-◌, ◌%◌, ◌≤◌, Bool, true, false, cond, ◌&&◌, List, [], ◌∷◌, refl, sym, ap}
use Rattle.std.proofs.Common.{subst, ◌∙◌, arith, ◌⊎◌, inl, inr, Option, Some, None}
use Rattle.std.proofs.lemmas.Bool.{cond-false, eqb-true, ne_eqb, leb-true}
use Rattle.std.specs.Prelude.{min, nat_le, nat_lt, ◌==◌}
use Rattle.fr_frame.specs.Fields.{Fields}
use Rattle.fr_hearing.proofs.pairing.OpeningLemmas.{alone_after, IsHeardOf}
use Rattle.fr_hearing.proofs.pairing.ViewLemmas.{LaneView, View, entry, ShownBy, Alike, AgreesBeside}
use Rattle.fr_judging.specs.declared.judge.Shown.{Shown}
use Rattle.fr_judging.specs.Judging.{silence}
use Rattle.fr_judging.specs.Lanes.{same_open}
use Rattle.fr_judging.specs.Rules.{due_at, due_or, other_channel, are_both}
use Rattle.fr_logged.specs.declared.due.Due.{Due}
use Rattle.fr_logged.specs.Dues.{buffer_in, sender_or, sender_from, owner_from, due_of}
use Rattle.fr_recording.specs.Numbers.{counted, most_counted}
use Rattle.fr_schedule.specs.Descriptions.{Description}
use Rattle.fr_slots.proofs.PlaceLemmas.{same_some}
use Rattle.fr_slots.specs.declared.channel.Channel.{Channel}
use Rattle.fr_slots.specs.declared.channel.Channel.TheVariants.{A, B}
use Rattle.fr_slots.specs.declared.plan.Buffer.{Buffer}
use Rattle.fr_slots.specs.Faults.{words_of, latest_on}
use Rattle.fr_slots.specs.Numbers.{last_slot}
use Rattle.fr_slots.specs.Parameters.{Parameters, is_static_slot}
use Rattle.fr_slots.specs.Plans.{Plan}

-- ---- a buffer for both channels sends in a static slot

dynamic_single : (p : Parameters) (slot : ℕ) (channel : Channel) (cycle : ℕ) (plans : List Plan) (start : ℕ) (x : Due)
    → sender_from p slot channel cycle start plans ≡ Some x → x.both ≡ false
dynamic_single p slot channel cycle [] start x e = absurd (let none : ⊥ = cc in none)
dynamic_single p slot channel cycle (q ∷ qs) start x e =
    by (buffer_in slot channel cycle q) e (dynamic_single p slot channel cycle qs (start + 1) x)
  where
    due : (b : Buffer) (t : Bool) → cond t None (Some (record {
      node = start;
      sync = false;
      startup = false;
      words = words_of p b;
      preamble = Some b.preamble;
      both = false;
      latest = latest_on q channel;
    })) ≡ Some x → x.both ≡ false
    due b true f = absurd (let none : ⊥ = cc in none)
    due b false f = sym (ap (λ (y : Due). y.both) (same_some _ x f))

    by : (o : Option Buffer)
        → sender_or p channel start q o (sender_from p slot channel cycle (start + 1) qs) ≡ Some x
        → (sender_from p slot channel cycle (start + 1) qs ≡ Some x → x.both ≡ false) → x.both ≡ false
    by None f more = more f
    by (Some b) f more = due b (q.tasks == 0) f

pub both_static : (d : Description) (slot : ℕ) (channel : Channel) (cycle : ℕ) (x : Due)
    → due_of d slot channel cycle ≡ Some x → x.both ≡ true → slot ≤ d.params.static_slots
both_static d slot channel cycle x e both = by (is_static_slot d.params slot) refl
  where
    by : (b : Bool) → is_static_slot d.params slot ≡ b → slot ≤ d.params.static_slots
    by true static = leb-true slot d.params.static_slots static
    by false dynamic =
        let single = dynamic_single d.params slot channel cycle d.plans 0 x
        (sym (cond-false (is_static_slot d.params slot) (owner_from d.params slot channel cycle 0 d.plans)
        (sender_from d.params slot channel cycle 0 d.plans) dynamic) ∙ e) in
        absurd (let none : ⊥ = cc (sym both ∙ single) in none)

pub record IsInRange (slot : ℕ) (d : Description) (channel : Channel) (cycle : ℕ) (x : Due) : Type 0 where
  pub some : 1 ≤ slot
  pub due_is : due_of d slot channel cycle ≡ Some x

pub in_range : (d : Description) (slot : ℕ) (channel : Channel) (cycle : ℕ) (x : Due)
    → due_at d slot channel cycle ≡ Some x → IsInRange slot d channel cycle x
in_range d slot channel cycle x e = by (nat_le 1 slot) refl (nat_le slot last_slot) e
  where
    by : (a : Bool) → nat_le 1 slot ≡ a → (b : Bool) → due_or d channel cycle (cond (a && b) (Some slot) None) ≡ Some x
        → IsInRange slot d channel cycle x
    by true is true f = record { some = leb-true 1 slot is; due_is = f }
    by true is false f = absurd (let none : ⊥ = cc in none)
    by false is b f = absurd (let none : ⊥ = cc in none)

-- ---- the frames of the run

-- a listener receives this frame on the channel in a slot of a cycle of the run
abbrev pub FrameMap : Type 1
FrameMap = Channel → ℕ → ℕ → Fields → Type 0

-- a buffer for both channels sends the same frame on both
abbrev pub AreAlike : Description → FrameMap → Type 0
AreAlike d m = (channel : Channel) (cycle slot : ℕ) (f g : Fields) (x : Due) → m channel cycle slot f
    → m (other_channel channel) cycle slot g → due_at d slot channel f.cycle ≡ Some x → x.both ≡ true → Alike f g

-- ---- invariants of a lane

-- the open cycle has the count of its number
abbrev pub CountOk : LaneView → Type 0
CountOk l = (c : ℕ) → l.current ≡ Some c → (1 ≤ l.cycles) × (c ≡ (l.cycles - 1) % 64)

-- what is shown of the open cycle is what was received in it
abbrev pub ShownOk : FrameMap → Channel → List Shown → LaneView → Type 0
ShownOk m channel shown l = (slot : ℕ) → 1 ≤ slot → slot ≤ 1023
    → ((entry shown slot channel).opened ≤ l.cycles)
    × (1 ≤ l.cycles → (entry shown slot channel).opened ≡ l.cycles
    → m channel (l.cycles - 1) slot (entry shown slot channel).frame)

counts_same : (c x y : ℕ) → c ≡ x % 64 → c ≡ y % 64 → x ≤ y + 2 → y ≤ x + 2 → x ≡ y
counts_same c x y a b low high = omega (arith, a, b, low, high)

module _ (d : Description) (few : d.params.static_slots ≤ 1023) (m : FrameMap) (alike : AreAlike d m) where
  -- the frame of a cycle of the run, beside the other lane
  pub agrees_beside : (channel : Channel) (o : LaneView) (shown : List Shown) (b : ℕ) (f : Fields) (x : Due)
      → CountOk o → ShownOk m (other_channel channel) shown o → f.cycle ≡ b % 64 → m channel b f.id f
      → due_at d f.id channel f.cycle ≡ Some x → b ≤ o.cycles + 1 → o.cycles ≤ b + 2
      → AgreesBeside o shown (other_channel channel) x f
  agrees_beside channel o shown b f x counts shown_ok count here due low high both open_one opened =
      by o.current refl open_one
    where
      by : (c : Option ℕ) → o.current ≡ c → same_open c (Some f.cycle) ≡ true
          → Alike f (entry shown f.id (other_channel channel)).frame
      by None e same = absurd (let none : ⊥ = cc in none)
      by (Some c) e same =
          let range = in_range d f.id channel f.cycle x due in
          let static = both_static d f.id channel f.cycle x range.due_is both in
          let some = range.some in
          let is = counts c e in
          let one = is.0 in
          let same_count : c ≡ f.cycle = eqb-true c f.cycle same in
          let number : o.cycles - 1 ≡ b = counts_same c (o.cycles - 1) b is.1 (same_count ∙ count)
          (omega (arith, high, one)) (omega (arith, low, one)) in
          let there = (shown_ok f.id some (omega (arith, static, few))).1 one opened in
          alike channel b f.id f (entry shown f.id (other_channel channel)).frame x here
          (subst (λ (n : ℕ). m (other_channel channel) n f.id (entry shown f.id (other_channel channel)).frame) number
          there) due both

  other_differs : (channel : Channel) → other_channel channel ≡ channel → ⊥
  other_differs A e = let none : ⊥ = cc in none
  other_differs B e = let none : ⊥ = cc in none

  slot_same : (slot id : ℕ) → slot ≤ 1023 → id ≤ 1023 → slot % 1024 ≡ id % 1024 → slot ≡ id
  slot_same slot id low high e = omega (arith, low, high, e)

  -- after a frame of the open cycle
  pub shown_more : (channel : Channel) (old new : List Shown) (l : LaneView) (b : ℕ) (f : Fields)
      → ShownBy d.params.static_slots old new channel f l.cycles → l.cycles ≡ b + 1 → m channel b f.id f
      → ShownOk m channel old l → ShownOk m channel new l
  shown_more channel old new l b f by_frame cycles here ok slot some low = by (by_frame slot channel)
    where
      by : (entry new slot channel ≡ entry old slot channel)
          ⊎ ((f.id ≤ d.params.static_slots) × (channel ≡ channel) × (slot % 1024 ≡ f.id % 1024)
          × (entry new slot channel ≡ record { opened = l.cycles; frame = f }))
          → ((entry new slot channel).opened ≤ l.cycles)
          × (1 ≤ l.cycles → (entry new slot channel).opened ≡ l.cycles
          → m channel (l.cycles - 1) slot (entry new slot channel).frame)
      by (inl same) = subst (λ (e : Shown). (e.opened ≤ l.cycles)
          × (1 ≤ l.cycles → e.opened ≡ l.cycles → m channel (l.cycles - 1) slot e.frame)) (sym same)
          (ok slot some low)
      by (inr new_one) =
          let static = new_one.0 in
          let id : slot ≡ f.id = slot_same slot f.id low (omega (arith, static, few)) new_one.2 in
          let number : l.cycles - 1 ≡ b = omega (arith, cycles) in
          subst (λ (e : Shown). (e.opened ≤ l.cycles)
          × (1 ≤ l.cycles → e.opened ≡ l.cycles → m channel (l.cycles - 1) slot e.frame)) (sym new_one.3) (
            omega arith,
            λ one same. subst (λ (n : ℕ). m channel n slot f) (sym number)
                (subst (λ (n : ℕ). m channel b n f) (sym id) here),
          )

  -- after the first frame of the next cycle
  pub shown_next : (channel : Channel) (old new : List Shown) (l k : LaneView) (b : ℕ) (f : Fields)
      → ShownBy d.params.static_slots old new channel f k.cycles → l.cycles ≡ b → k.cycles ≡ b + 1
      → m channel b f.id f → ShownOk m channel old l → ShownOk m channel new k
  shown_next channel old new l k b f by_frame was cycles here ok slot some low = by (by_frame slot channel)
    where
      by : (entry new slot channel ≡ entry old slot channel)
          ⊎ ((f.id ≤ d.params.static_slots) × (channel ≡ channel) × (slot % 1024 ≡ f.id % 1024)
          × (entry new slot channel ≡ record { opened = k.cycles; frame = f }))
          → ((entry new slot channel).opened ≤ k.cycles)
          × (1 ≤ k.cycles → (entry new slot channel).opened ≡ k.cycles
          → m channel (k.cycles - 1) slot (entry new slot channel).frame)
      by (inl same) =
          let before = (ok slot some low).0 in
          subst (λ (e : Shown). (e.opened ≤ k.cycles)
          × (1 ≤ k.cycles → e.opened ≡ k.cycles → m channel (k.cycles - 1) slot e.frame)) (sym same) (
            omega (arith, before, was, cycles),
            λ one equal. absurd (let none : ⊥ = omega (arith, before, was, cycles, equal) in none),
          )
      by (inr new_one) =
          let static = new_one.0 in
          let id : slot ≡ f.id = slot_same slot f.id low (omega (arith, static, few)) new_one.2 in
          let number : k.cycles - 1 ≡ b = omega (arith, cycles) in
          subst (λ (e : Shown). (e.opened ≤ k.cycles)
          × (1 ≤ k.cycles → e.opened ≡ k.cycles → m channel (k.cycles - 1) slot e.frame)) (sym new_one.3) (
            omega arith,
            λ one same. subst (λ (n : ℕ). m channel n slot f) (sym number)
                (subst (λ (n : ℕ). m channel b n f) (sym id) here),
          )

  -- the other channel's frames stay as they are
  pub shown_aside : (channel : Channel) (old new : List Shown) (o : LaneView) (cycles : ℕ) (f : Fields)
      → ShownBy d.params.static_slots old new channel f cycles → ShownOk m (other_channel channel) old o
      → ShownOk m (other_channel channel) new o
  shown_aside channel old new o cycles f by_frame ok slot some low = by (by_frame slot (other_channel channel))
    where
      by : (entry new slot (other_channel channel) ≡ entry old slot (other_channel channel))
          ⊎ ((f.id ≤ d.params.static_slots) × (other_channel channel ≡ channel) × (slot % 1024 ≡ f.id % 1024)
          × (entry new slot (other_channel channel) ≡ record { opened = cycles; frame = f }))
          → ((entry new slot (other_channel channel)).opened ≤ o.cycles)
          × (1 ≤ o.cycles → (entry new slot (other_channel channel)).opened ≡ o.cycles
          → m (other_channel channel) (o.cycles - 1) slot (entry new slot (other_channel channel)).frame)
      by (inl same) = subst (λ (e : Shown). (e.opened ≤ o.cycles)
          × (1 ≤ o.cycles → e.opened ≡ o.cycles → m (other_channel channel) (o.cycles - 1) slot e.frame))
          (sym same) (ok slot some low)
      by (inr new_one) = absurd (other_differs channel new_one.1)

-- ---- the cycles that a channel opens alone

few_alone : (alone a b m : ℕ) → alone ≤ a - b → a ≤ b + 1 → 3 ≤ m → min (alone + 1) m ≡ 3 → ⊥
few_alone alone a b m low near some e = omega (arith, low, near, some, e)

pub heard_of : (o : LaneView) (number a b : ℕ) → o.alone ≤ a - b → a ≤ b + 1 → IsHeardOf o number
heard_of o number a b low near late =
    ne_eqb (counted o.alone 1) silence (few_alone o.alone a b most_counted low near (omega arith))

one_alone : (alone a b m : ℕ) → alone ≤ a - b → b ≤ a → min (alone + 1) m ≤ a + 1 - b
one_alone alone a b m low later = omega (arith, low, later)

still_alone : (alone a b : ℕ) → alone ≤ a - b → alone ≤ a + 1 - b
still_alone alone a b low = omega (arith, low)

pub alone_more : (v : View) (number a b : ℕ) → v.other.alone ≤ a - b
    → (nat_lt v.other.spoke number ≡ true → b ≤ a) → alone_after v number ≤ a + 1 - b
alone_more v number a b low later = by (are_both v.rules) (nat_lt v.other.spoke number) refl
  where
    by : (both late : Bool) → nat_lt v.other.spoke number ≡ late
        → cond (both && late) (counted v.other.alone 1) v.other.alone ≤ a + 1 - b
    by true true e = one_alone v.other.alone a b most_counted low (later e)
    by true false e = still_alone v.other.alone a b low
    by false late e = still_alone v.other.alone a b low
