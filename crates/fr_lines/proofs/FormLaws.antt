-- A line that a trace of a version can have has no wrong word. If a word of a line is wrong, no such line begins with
-- the words up to it.
use Rattle.std.proofs.Common.{◌≡◌, ℕ, suc, ◌+◌, ◌^◌, ℤ, true, false, List, [], ◌∷◌, take, codes, Option, Some}
use Rattle.std.proofs.Common.{None, is_some, inl, inr}
use Rattle.std.proofs.Common.{option_map, leb, refl, sym, ap, ◌∙◌, arith, if◌then◌else◌, IsSome, zero}
use Rattle.std.proofs.lemmas.Bool.{cases_Bool, and_parts}
use Rattle.std.specs.Prelude.{nat_le, not, ◌&&◌, ◌||◌}
use Rattle.std.specs.Result.{result_ok}
use Rattle.std.specs.Str.{bytes_eq}
use Rattle.fr_journal.specs.Forms.{Entry}
use Rattle.fr_lines.proofs.PartLemmas.{word_or}
use Rattle.fr_lines.specs.declared.forms.WordForm.{WordForm}
use Rattle.fr_lines.specs.declared.forms.WordForm.TheVariants as form
use Rattle.fr_lines.specs.declared.plan_lines.PlanLine.{PlanLine}
use Rattle.fr_lines.specs.declared.plan_lines.PlanLine.TheVariants as plan_line
use Rattle.fr_lines.specs.declared.versions.Version.{Version}
use Rattle.fr_lines.specs.declared.versions.Version.TheVariants.{One, Two, Three}
use Rattle.fr_lines.specs.Forms.{fits, number_from_in, static_slot_in, repetition_in, params_forms, node_forms}
use Rattle.fr_lines.specs.Forms.{own_forms, tx_forms, rx_forms, queue_forms, commit_forms, withdraw_forms, read_forms}
use Rattle.fr_lines.specs.Forms.{pop_forms, fetch_forms, see_forms, forms_of, wrong_at, wrong_after, wrong_in, place_in}
use Rattle.fr_lines.specs.Forms.{IsLine, BeginsNoLine}
use Rattle.fr_lines.specs.PartReading.{slot_in, optional_slot_in, channels_in, cycles_in, filter_in, flag_in, mode_in}
use Rattle.fr_lines.specs.PartReading.{size_in, payload_in, taken_back_in, from_in, offered_in, seen_in, window_in}
use Rattle.fr_lines.specs.Reading.{Five, parameter_in, five_in, at_end, ten_in, params_in, limits_in, node_in}
use Rattle.fr_lines.specs.Reading.{last_cycles_in, own_cycles_in, fitting_own, fitting_queue, ownership_in, transmit_in}
use Rattle.fr_lines.specs.Reading.{receive_in, reception_in, plan_line_in, every_cycle, commit_in, told_withdraw_in}
use Rattle.fr_lines.specs.Reading.{withdraw_in, read_in, pop_in, fetch_in, observe_in, entry_in}
use Rattle.fr_lines.specs.Versions.{has_withdraws}
use Rattle.fr_slots.specs.Admission.{CycleClass, cycle_class, is_repetition}
use Rattle.fr_slots.specs.declared.filter.Filter.{Filter}
use Rattle.fr_slots.specs.declared.plan.Buffer.{Buffer}
use Rattle.fr_slots.specs.declared.plan.Own.{Own}
use Rattle.fr_slots.specs.declared.plan.Queue.{Queue}
use Rattle.fr_slots.specs.Numbers.{last_static_slot}
use Rattle.fr_slots.specs.Plans.{Plan, plan_of, limits_fit, own_fits, queue_fits}
use Rattle.fr_slots.specs.Windows.{Opportunity}
use Rattle.fr_text.proofs.BindLemmas.{bind_some}
use Rattle.fr_text.specs.Reading.{number_in}

-- ---- words

known : {A : Type 0} (o : Option A) (x : A) → o ≡ Some x → is_some o ≡ true
known o x is = ap is_some is

lawful_class : (b n : ℕ) (c : CycleClass) → result_ok (cycle_class b n) ≡ Some c → is_repetition n ≡ true
lawful_class b n c h = elim (cases_Bool (is_repetition n)) [
  | inl is ↦ is
  | inr not_so ↦ cc (rw not_so at h)
]

number_from_right : (least bound n : ℕ) (word : List ℕ) → number_in bound word ≡ Some n → nat_le least n ≡ true
    → is_some (number_from_in least bound word) ≡ true
unfolding number_from_in
number_from_right least bound n word is low = rw is (rw low refl)

static_right : (word : List ℕ) (slot : ℕ) → slot_in word ≡ Some slot → nat_le slot last_static_slot ≡ true
    → is_some (static_slot_in word) ≡ true
unfolding static_slot_in
static_right word slot is low = rw is (rw low refl)

repetition_right : (word : List ℕ) (n : ℕ) → number_in 65 word ≡ Some n → is_repetition n ≡ true
    → is_some (repetition_in word) ≡ true
unfolding repetition_in
repetition_right word n is lawful = rw is (rw lawful refl)

cycles_right : (base repetition : List ℕ) (c : CycleClass) → cycles_in base repetition ≡ Some c
    → (is_some (number_in 64 base) ≡ true) × (is_some (repetition_in repetition) ≡ true)
unfolding cycles_in
cycles_right base repetition c h =
    let (b, kb, h0) = bind_some (number_in 64 base) _ c h in
    let (n, kn, h1) = bind_some (number_in 65 repetition) _ c h0 in
    (known (number_in 64 base) b kb, repetition_right repetition n kn (lawful_class b n c h1))

abbrev FilterRight : List ℕ → List ℕ → List ℕ → List ℕ → Type 0
FilterRight s c p q = (is_some (slot_in s) ≡ true) × (is_some (channels_in c) ≡ true)
    × (is_some (number_in 64 p) ≡ true) × (is_some (repetition_in q) ≡ true)

filter_right : (s c p q : List ℕ) (f : Filter) → filter_in s c p q ≡ Some f → FilterRight s c p q
unfolding filter_in
filter_right s c p q f h =
    let (slot, ks, h0) = bind_some (slot_in s) _ f h in
    let (channels, kc, h1) = bind_some (channels_in c) _ f h0 in
    let (cycles, ky, h2) = bind_some (cycles_in p q) _ f h1 in
    let both = cycles_right p q cycles ky in
    (known (slot_in s) slot ks, known (channels_in c) channels kc, both.0, both.1)

abbrev WindowRight : List ℕ → List ℕ → List ℕ → List ℕ → List ℕ → Type 0
WindowRight n c m a b = (is_some (number_in (2 ^ 32) n) ≡ true) × (is_some (number_in 64 c) ≡ true)
    × (is_some (number_in 8001 m) ≡ true) × (is_some (optional_slot_in a) ≡ true) ×
    (is_some (optional_slot_in b) ≡ true)

window_right : (n c m a b : List ℕ) (w : Opportunity) → window_in n c m a b ≡ Some w → WindowRight n c m a b
unfolding window_in
window_right n c m a b w h =
    let (number, kn, h0) = bind_some (number_in (2 ^ 32) n) _ w h in
    let (cycle, kc, h1) = bind_some (number_in 64 c) _ w h0 in
    let (minislot, km, h2) = bind_some (number_in 8001 m) _ w h1 in
    let (on_a, ka, h3) = bind_some (optional_slot_in a) _ w h2 in
    let (on_b, kb, h4) = bind_some (optional_slot_in b) _ w h3 in (
      known (number_in (2 ^ 32) n) number kn,
      known (number_in 64 c) cycle kc,
      known (number_in 8001 m) minislot km,
      known (optional_slot_in a) on_a ka,
      known (optional_slot_in b) on_b kb,
    )

-- ---- the lines of a plan

limits_pass : (t a b h s : ℕ) (p : Plan) → result_ok (plan_of t a b h s) ≡ Some p → limits_fit t a b h s ≡ true
limits_pass t a b h s p read = elim (cases_Bool (limits_fit t a b h s)) [
  | inl pass ↦ pass
  | inr fail ↦ cc (rw fail at read)
]

limits_low : (t a b h s : ℕ) → limits_fit t a b h s ≡ true → (nat_le 1 h ≡ true) × (nat_le 2 s ≡ true)
limits_low t a b h s pass =
    let (six, slot_high) =
    and_parts (leb t 8 && leb a 8000 && leb b 8000 && leb 1 h && leb h 16384 && leb 2 s) (leb s 65536) pass in
    let (five, slot_low) = and_parts (leb t 8 && leb a 8000 && leb b 8000 && leb 1 h && leb h 16384) (leb 2 s) six in
    let (four, host_high) = and_parts (leb t 8 && leb a 8000 && leb b 8000 && leb 1 h) (leb h 16384) five in
    let (three, host_low) = and_parts (leb t 8 && leb a 8000 && leb b 8000) (leb 1 h) four in
    (host_low, slot_low)

own_static : (o x : Own) → fitting_own o ≡ Some x → nat_le o.slot last_static_slot ≡ true
own_static o x h = elim (cases_Bool (own_fits o)) [
  | inl pass ↦ (and_parts (leb o.slot 1023) (not o.startup || o.sync) pass).0
  | inr fail ↦ cc (rw fail at h)
]

queue_some : (q x : Queue) → fitting_queue q ≡ Some x → nat_le 1 q.capacity ≡ true
queue_some q x h = elim (cases_Bool (queue_fits q)) [
  | inl pass ↦
      let (two, last) = and_parts (leb 1 q.capacity && leb q.capacity 256) (leb q.first q.last) pass in
      (and_parts (leb 1 q.capacity) (leb q.capacity 256) two).0
  | inr fail ↦ cc (rw fail at h)
]

-- ---- lines

node_right : (words : List (List ℕ)) (x : Plan) → limits_in words ≡ Some x → wrong_at node_forms words ≡ None
unfolding limits_in
node_right [] x h = cc h
node_right (t ∷ []) x h = cc h
node_right (t ∷ a ∷ []) x h = cc h
node_right (t ∷ a ∷ b ∷ []) x h = cc h
node_right (t ∷ a ∷ b ∷ host ∷ []) x h = cc h
node_right (t ∷ a ∷ b ∷ host ∷ slot ∷ []) x h =
    let (x0, k0, h0) = bind_some (number_in 9 t) _ x h in
    let (x1, k1, h1) = bind_some (number_in 8001 a) _ x h0 in
    let (x2, k2, h2) = bind_some (number_in 8001 b) _ x h1 in
    let (x3, k3, h3) = bind_some (number_in 16385 host) _ x h2 in
    let (x4, k4, h4) = bind_some (number_in 65537 slot) _ x h3 in
    let low = limits_low x0 x1 x2 x3 x4 (limits_pass x0 x1 x2 x3 x4 x h4) in
    rw (
      known (number_in 9 t) x0 k0,
      known (number_in 8001 a) x1 k1,
      known (number_in 8001 b) x2 k2,
      number_from_right 1 16385 x3 host k3 low.0,
      number_from_right 2 65537 x4 slot k4 low.1,
    ) refl
node_right (t ∷ a ∷ b ∷ host ∷ slot ∷ more ∷ words) x h = cc h

commit_right : (words : List (List ℕ)) (x : Entry) → commit_in words ≡ Some x → wrong_at commit_forms words ≡ None
unfolding commit_in
commit_right [] x h = cc h
commit_right (a ∷ []) x h = cc h
commit_right (a ∷ b ∷ []) x h = cc h
commit_right (a ∷ b ∷ c ∷ []) x h =
    let (x0, k0, h0) = bind_some (number_in 8 a) _ x h in
    let (x1, k1, h1) = bind_some (number_in 64 b) _ x h0 in
    let (x2, k2, h2) = bind_some (payload_in c) _ x h1 in
    rw (known (number_in 8 a) x0 k0, known (number_in 64 b) x1 k1, known (payload_in c) x2 k2) refl
commit_right (a ∷ b ∷ c ∷ more ∷ words) x h = cc h

told_withdraw_right : (words : List (List ℕ)) (x : Entry) → told_withdraw_in words ≡ Some x
    → wrong_at withdraw_forms words ≡ None
unfolding told_withdraw_in
told_withdraw_right [] x h = cc h
told_withdraw_right (a ∷ []) x h = cc h
told_withdraw_right (a ∷ b ∷ []) x h = cc h
told_withdraw_right (a ∷ b ∷ c ∷ []) x h =
    let (x0, k0, h0) = bind_some (number_in 8 a) _ x h in
    let (x1, k1, h1) = bind_some (number_in 64 b) _ x h0 in
    let (x2, k2, h2) = bind_some (taken_back_in c) _ x h1 in
    rw (known (number_in 8 a) x0 k0, known (number_in 64 b) x1 k1, known (taken_back_in c) x2 k2) refl
told_withdraw_right (a ∷ b ∷ c ∷ more ∷ words) x h = cc h

read_right : (words : List (List ℕ)) (x : Entry) → read_in words ≡ Some x → wrong_at read_forms words ≡ None
unfolding read_in
read_right [] x h = cc h
read_right (a ∷ []) x h = cc h
read_right (a ∷ b ∷ []) x h = cc h
read_right (a ∷ b ∷ c ∷ []) x h =
    let (x0, k0, h0) = bind_some (number_in 8 a) _ x h in
    let (x1, k1, h1) = bind_some (number_in 64 b) _ x h0 in
    let (x2, k2, h2) = bind_some (from_in c) _ x h1 in
    rw (known (number_in 8 a) x0 k0, known (number_in 64 b) x1 k1, known (from_in c) x2 k2) refl
read_right (a ∷ b ∷ c ∷ more ∷ words) x h = cc h

pop_right : (words : List (List ℕ)) (x : Entry) → pop_in words ≡ Some x → wrong_at pop_forms words ≡ None
unfolding pop_in
pop_right [] x h = cc h
pop_right (a ∷ []) x h = cc h
pop_right (a ∷ b ∷ []) x h =
    let (x0, k0, h0) = bind_some (number_in 8 a) _ x h in
    let (x1, k1, h1) = bind_some (from_in b) _ x h0 in
    rw (known (number_in 8 a) x0 k0, known (from_in b) x1 k1) refl
pop_right (a ∷ b ∷ more ∷ words) x h = cc h

see_right : (words : List (List ℕ)) (x : Entry) → observe_in words ≡ Some x → wrong_at see_forms words ≡ None
unfolding observe_in
see_right [] x h = cc h
see_right (w ∷ []) x h = cc h
see_right (w ∷ a ∷ []) x h = cc h
see_right (w ∷ a ∷ b ∷ []) x h =
    let (x0, k0, h0) = bind_some (number_in (2 ^ 32) w) _ x h in
    let (x1, k1, h1) = bind_some (seen_in a) _ x h0 in
    let (x2, k2, h2) = bind_some (seen_in b) _ x h1 in
    rw (known (number_in (2 ^ 32) w) x0 k0, known (seen_in a) x1 k1, known (seen_in b) x2 k2) refl
see_right (w ∷ a ∷ b ∷ more ∷ words) x h = cc h

fetch_right : (words : List (List ℕ)) (x : Entry) → fetch_in words ≡ Some x → wrong_at fetch_forms words ≡ None
unfolding fetch_in
fetch_right [] x h = cc h
fetch_right (n ∷ []) x h = cc h
fetch_right (n ∷ c ∷ []) x h = cc h
fetch_right (n ∷ c ∷ m ∷ []) x h = cc h
fetch_right (n ∷ c ∷ m ∷ sa ∷ []) x h = cc h
fetch_right (n ∷ c ∷ m ∷ sa ∷ sb ∷ []) x h = cc h
fetch_right (n ∷ c ∷ m ∷ sa ∷ sb ∷ oa ∷ []) x h = cc h
fetch_right (n ∷ c ∷ m ∷ sa ∷ sb ∷ oa ∷ ob ∷ []) x h =
    let (x0, k0, h0) = bind_some (window_in n c m sa sb) _ x h in
    let (x1, k1, h1) = bind_some (offered_in oa) _ x h0 in
    let (x2, k2, h2) = bind_some (offered_in ob) _ x h1 in
    let w = window_right n c m sa sb x0 k0 in
    rw (w.0, w.1, w.2, w.3, w.4, known (offered_in oa) x1 k1, known (offered_in ob) x2 k2) refl
fetch_right (n ∷ c ∷ m ∷ sa ∷ sb ∷ oa ∷ ob ∷ more ∷ words) x h = cc h

tx_right : (words : List (List ℕ)) (x : Buffer) → transmit_in words ≡ Some x → wrong_at tx_forms words ≡ None
unfolding transmit_in
tx_right [] x h = cc h
tx_right (m ∷ []) x h = cc h
tx_right (m ∷ s ∷ []) x h = cc h
tx_right (m ∷ s ∷ c ∷ []) x h = cc h
tx_right (m ∷ s ∷ c ∷ p ∷ []) x h = cc h
tx_right (m ∷ s ∷ c ∷ p ∷ q ∷ []) x h = cc h
tx_right (m ∷ s ∷ c ∷ p ∷ q ∷ z ∷ []) x h = cc h
tx_right (m ∷ s ∷ c ∷ p ∷ q ∷ z ∷ r ∷ []) x h =
    let (x0, k0, h0) = bind_some (mode_in m) _ x h in
    let (x1, k1, h1) = bind_some (filter_in s c p q) _ x h0 in
    let (x2, k2, h2) = bind_some (size_in z) _ x h1 in
    let (x3, k3, h3) = bind_some (flag_in r) _ x h2 in
    let f = filter_right s c p q x1 k1 in
    rw (known (mode_in m) x0 k0, f.0, f.1, f.2, f.3, known (size_in z) x2 k2, known (flag_in r) x3 k3) refl
tx_right (m ∷ s ∷ c ∷ p ∷ q ∷ z ∷ r ∷ more ∷ words) x h = cc h

rx_right : (words : List (List ℕ)) (x : Buffer) → receive_in words ≡ Some x → wrong_at rx_forms words ≡ None
unfolding receive_in
rx_right [] x h = cc h
rx_right (s ∷ []) x h = cc h
rx_right (s ∷ c ∷ []) x h = cc h
rx_right (s ∷ c ∷ p ∷ []) x h = cc h
rx_right (s ∷ c ∷ p ∷ q ∷ []) x h =
    let (x0, k0, h0) = bind_some (filter_in s c p q) _ x h in
    let f = filter_right s c p q x0 k0 in
    rw (f.0, f.1, f.2, f.3) refl
rx_right (s ∷ c ∷ p ∷ q ∷ more ∷ words) x h = cc h

queue_right : (words : List (List ℕ)) (x : Queue) → reception_in words ≡ Some x → wrong_at queue_forms words ≡ None
unfolding reception_in
queue_right [] x h = cc h
queue_right (n ∷ []) x h = cc h
queue_right (n ∷ s ∷ []) x h = cc h
queue_right (n ∷ s ∷ t ∷ []) x h = cc h
queue_right (n ∷ s ∷ t ∷ c ∷ []) x h = cc h
queue_right (n ∷ s ∷ t ∷ c ∷ p ∷ []) x h = cc h
queue_right (n ∷ s ∷ t ∷ c ∷ p ∷ q ∷ []) x h =
    let (x0, k0, h0) = bind_some (number_in 257 n) _ x h in
    let (x1, k1, h1) = bind_some (slot_in s) _ x h0 in
    let (x2, k2, h2) = bind_some (slot_in t) _ x h1 in
    let (x3, k3, h3) = bind_some (channels_in c) _ x h2 in
    let (x4, k4, h4) = bind_some (cycles_in p q) _ x h3 in
    let y = cycles_right p q x4 k4 in
    let some = queue_some (record { capacity = x0; first = x1; last = x2; channels = x3; cycles = x4 }) x h4 in
    rw (
      number_from_right 1 257 x0 n k0 some,
      known (slot_in s) x1 k1,
      known (slot_in t) x2 k2,
      known (channels_in c) x3 k3,
      y.0,
      y.1,
    ) refl
queue_right (n ∷ s ∷ t ∷ c ∷ p ∷ q ∷ more ∷ words) x h = cc h

end_right : {A : Type 0} (value x : A) (words : List (List ℕ)) → at_end value words ≡ Some x → wrong_at [] words ≡ None
end_right value x [] h = refl
end_right value x (word ∷ words) h = cc h

last_cycles_right : (words : List (List ℕ)) (x : CycleClass) → last_cycles_in words ≡ Some x
    → wrong_at (form.Number 64 ∷ form.Repetition ∷ []) words ≡ None
unfolding last_cycles_in
last_cycles_right [] x h = cc h
last_cycles_right (b ∷ []) x h = cc h
last_cycles_right (b ∷ r ∷ []) x h =
    let y = cycles_right b r x h in
    rw (y.0, y.1) refl
last_cycles_right (b ∷ r ∷ more ∷ words) x h = cc h

own_front : (forms : List WordForm) (s c y t : List ℕ) (rest : List (List ℕ)) → is_some (static_slot_in s) ≡ true
    → is_some (channels_in c) ≡ true → is_some (flag_in y) ≡ true → is_some (flag_in t) ≡ true
    → wrong_at forms rest ≡ None
    → wrong_at (form.StaticSlot ∷ form.Channels ∷ form.Flag ∷ form.Flag ∷ forms) (s ∷ c ∷ y ∷ t ∷ rest) ≡ None
own_front forms s c y t rest ks kc ky kt right =
    rw (ks, kc, ky, kt, right) refl

own_whole : (v : Version) (s c y t : List ℕ) (rest : List (List ℕ)) (x : CycleClass)
    → is_some (static_slot_in s) ≡ true
    → is_some (channels_in c) ≡ true → is_some (flag_in y) ≡ true → is_some (flag_in t) ≡ true
    → own_cycles_in v rest ≡ Some x → wrong_at (own_forms v) (s ∷ c ∷ y ∷ t ∷ rest) ≡ None
unfolding own_cycles_in
own_whole One s c y t rest x ks kc ky kt h = own_front [] s c y t rest ks kc ky kt (end_right every_cycle x rest h)
own_whole Two s c y t rest x ks kc ky kt h = own_front [] s c y t rest ks kc ky kt (end_right every_cycle x rest h)
own_whole Three s c y t rest x ks kc ky kt h =
    own_front (form.Number 64 ∷ form.Repetition ∷ []) s c y t rest ks kc ky kt (last_cycles_right rest x h)

own_right : (v : Version) (words : List (List ℕ)) (x : Own) → ownership_in v words ≡ Some x
    → wrong_at (own_forms v) words ≡ None
unfolding ownership_in
own_right v [] x h = cc h
own_right v (s ∷ []) x h = cc h
own_right v (s ∷ c ∷ []) x h = cc h
own_right v (s ∷ c ∷ y ∷ []) x h = cc h
own_right v (s ∷ c ∷ y ∷ t ∷ rest) x h =
    let (x0, k0, h0) = bind_some (slot_in s) _ x h in
    let (x1, k1, h1) = bind_some (channels_in c) _ x h0 in
    let (x2, k2, h2) = bind_some (flag_in y) _ x h1 in
    let (x3, k3, h3) = bind_some (flag_in t) _ x h2 in
    let (x4, k4, h4) = bind_some (own_cycles_in v rest) _ x h3 in
    let static = own_static (record { slot = x0; channels = x1; cycles = x4; sync = x2; startup = x3 }) x h4 in
    own_whole v s c y t rest x4 (static_right s x0 k0 static) (known (channels_in c) x1 k1) (known (flag_in y) x2 k2)
    (known (flag_in t) x3 k3) k4

withdraw_right : (v : Version) (words : List (List ℕ)) (x : Entry) → withdraw_in v words ≡ Some x
    → wrong_after (if has_withdraws v then Some withdraw_forms else None) words ≡ None
unfolding withdraw_in
withdraw_right v words x h = elim (cases_Bool (has_withdraws v)) [
  | inl told ↦ rw told (ap (option_map (λ n. n + 1)) (told_withdraw_right words x (rw told at h)))
  | inr untold ↦ cc (rw untold at h)
]

parameter_right : (word : List ℕ) (x : ℤ) → parameter_in word ≡ Some x → is_some (number_in (2 ^ 32) word) ≡ true
unfolding parameter_in
parameter_right word x h =
    let (n, k, h0) = bind_some (number_in (2 ^ 32) word) _ x h in known (number_in (2 ^ 32) word) n k

abbrev wide : WordForm
wide = form.Number (2 ^ 32)

five_right : (forms : List WordForm) (words : List (List ℕ)) (x : Five × List (List ℕ)) → five_in words ≡ Some x
    → wrong_at forms x.1 ≡ None → wrong_at (wide ∷ wide ∷ wide ∷ wide ∷ wide ∷ forms) words ≡ None
unfolding five_in
five_right forms [] x h right = cc h
five_right forms (a ∷ []) x h right = cc h
five_right forms (a ∷ b ∷ []) x h right = cc h
five_right forms (a ∷ b ∷ c ∷ []) x h right = cc h
five_right forms (a ∷ b ∷ c ∷ d ∷ []) x h right = cc h
five_right forms (a ∷ b ∷ c ∷ d ∷ e ∷ rest) x h right =
    let (x0, k0, h0) = bind_some (parameter_in a) _ x h in
    let (x1, k1, h1) = bind_some (parameter_in b) _ x h0 in
    let (x2, k2, h2) = bind_some (parameter_in c) _ x h1 in
    let (x3, k3, h3) = bind_some (parameter_in d) _ x h2 in
    let (x4, k4, h4) = bind_some (parameter_in e) _ x h3 in
    let same : rest ≡ x.1 = cc h4 in
    rw (
      parameter_right a x0 k0,
      parameter_right b x1 k1,
      parameter_right c x2 k2,
      parameter_right d x3 k3,
      parameter_right e x4 k4,
      ap (wrong_at forms) same ∙ right,
    ) refl

params_right : (words : List (List ℕ)) (x : List ℤ) → ten_in words ≡ Some x → wrong_at params_forms words ≡ None
unfolding ten_in
params_right words x h =
    let (first, kf, h0) = bind_some (five_in words) _ x h in
    let (last, kl, h1) = bind_some (five_in first.1) _ x h0 in
    five_right (wide ∷ wide ∷ wide ∷ wide ∷ wide ∷ []) words first kf
    (five_right [] first.1 last kl (end_right _ x last.1 h1))

-- ---- by their first words

-- a line with this first word
begun : (v : Version) (kind this : List ℕ) (words : List (List ℕ)) (o : Option (List WordForm)) → kind ≡ this
    → forms_of v this ≡ o → wrong_after o words ≡ None → wrong_in v (kind ∷ words) ≡ None
begun v kind this words o same forms right = ap (λ k. wrong_after (forms_of v k) words) same ∙
    (ap (λ f. wrong_after f words) forms ∙ right)

after : (forms : List WordForm) (words : List (List ℕ)) → wrong_at forms words ≡ None
    → wrong_after (Some forms) words ≡ None
after forms words right = ap (option_map (λ n. n + 1)) right

mapped : {A B : Type 0} (f : A → B) (o : Option A) (x : B) → option_map f o ≡ Some x → (y : A) × (o ≡ Some y)
mapped f None x h = cc h
mapped f (Some y) x h = (y, refl)

params_lines : (v : Version) (words : List (List ℕ)) (x : List ℤ) → params_in words ≡ Some x
    → wrong_in v words ≡ None
unfolding params_in
params_lines v [] x h = cc h
params_lines v (kind ∷ words) x h = elim (word_or kind (codes "params") (ten_in words) _ x h) [
  | inl is ↦ begun v kind (codes "params") words (Some params_forms) is.0 refl
      (after params_forms words (params_right words x is.1))
  | inr h1 ↦ cc h1
]

node_lines : (v : Version) (words : List (List ℕ)) (x : Plan) → node_in words ≡ Some x → wrong_in v words ≡ None
unfolding node_in
node_lines v [] x h = cc h
node_lines v (kind ∷ words) x h = elim (word_or kind (codes "node") (limits_in words) _ x h) [
  | inl is ↦ begun v kind (codes "node") words (Some node_forms) is.0 refl
      (after node_forms words (node_right words x is.1))
  | inr h1 ↦ cc h1
]

plan_lines : (v : Version) (words : List (List ℕ)) (x : PlanLine) → plan_line_in v words ≡ Some x
    → wrong_in v words ≡ None
unfolding plan_line_in
plan_lines v [] x h = cc h
plan_lines v (kind ∷ words) x h =
    elim (word_or kind (codes "own") (option_map plan_line.Own (ownership_in v words)) _ x h) [
      | inl own ↦
          let (o, is) = mapped plan_line.Own (ownership_in v words) x own.1 in
          begun v kind (codes "own") words (Some (own_forms v)) own.0 refl
          (after (own_forms v) words (own_right v words o is))
      | inr h1 ↦ elim (word_or kind (codes "tx") (option_map plan_line.Buffer (transmit_in words)) _ x h1) [
        | inl tx ↦
            let (o, is) = mapped plan_line.Buffer (transmit_in words) x tx.1 in
            begun v kind (codes "tx") words (Some tx_forms) tx.0 refl (after tx_forms words (tx_right words o is))
        | inr h2 ↦ elim (word_or kind (codes "rx") (option_map plan_line.Buffer (receive_in words)) _ x h2) [
          | inl rx ↦
              let (o, is) = mapped plan_line.Buffer (receive_in words) x rx.1 in
              begun v kind (codes "rx") words (Some rx_forms) rx.0 refl (after rx_forms words (rx_right words o is))
          | inr h3 ↦ elim (word_or kind (codes "queue") (option_map plan_line.Queue (reception_in words)) _ x h3) [
            | inl queue ↦
                let (o, is) = mapped plan_line.Queue (reception_in words) x queue.1 in
                begun v kind (codes "queue") words (Some queue_forms) queue.0 refl
                (after queue_forms words (queue_right words o is))
            | inr h4 ↦ cc h4
          ]
        ]
      ]
    ]

slot_lines : (v : Version) (kind : List ℕ) (words : List (List ℕ)) (x : Entry)
    → (if bytes_eq kind (codes "fetch") then fetch_in words
    else if bytes_eq kind (codes "see") then observe_in words else None) ≡ Some x
    → wrong_in v (kind ∷ words) ≡ None
slot_lines v kind words x h =
    elim (word_or kind (codes "fetch") (fetch_in words) _ x h) [
      | inl fetch ↦ begun v kind (codes "fetch") words (Some fetch_forms) fetch.0 refl
          (after fetch_forms words (fetch_right words x fetch.1))
      | inr h1 ↦ elim (word_or kind (codes "see") (observe_in words) _ x h1) [
        | inl see ↦ begun v kind (codes "see") words (Some see_forms) see.0 refl
            (after see_forms words (see_right words x see.1))
        | inr h2 ↦ cc h2
      ]
    ]

entry_lines : (v : Version) (words : List (List ℕ)) (x : Entry) → entry_in v words ≡ Some x
    → wrong_in v words ≡ None
unfolding entry_in
entry_lines v [] x h = cc h
entry_lines v (kind ∷ words) x h =
    elim (word_or kind (codes "commit") (commit_in words) _ x h) [
      | inl commit ↦ begun v kind (codes "commit") words (Some commit_forms) commit.0 refl
          (after commit_forms words (commit_right words x commit.1))
      | inr h1 ↦ elim (word_or kind (codes "withdraw") (withdraw_in v words) _ x h1) [
        | inl withdraw ↦ begun v kind (codes "withdraw") words (if has_withdraws v then Some withdraw_forms else None)
            withdraw.0 refl (withdraw_right v words x withdraw.1)
        | inr h2 ↦ elim (word_or kind (codes "read") (read_in words) _ x h2) [
          | inl read ↦ begun v kind (codes "read") words (Some read_forms) read.0 refl
              (after read_forms words (read_right words x read.1))
          | inr h3 ↦ elim (word_or kind (codes "pop") (pop_in words) _ x h3) [
            | inl pop ↦ begun v kind (codes "pop") words (Some pop_forms) pop.0 refl
                (after pop_forms words (pop_right words x pop.1))
            | inr h4 ↦ slot_lines v kind words x h4
          ]
        ]
      ]
    ]

-- ---- lines with the same words up to the wrong one

known_here : {A : Type 0} (o : Option A) → IsSome o → (x : A) × (o ≡ Some x)
known_here None h = cc h
known_here (Some x) h = (x, refl)

-- a line that a trace of the version can have has no wrong word
none_wrong : (v : Version) (words : List (List ℕ)) → IsLine v words → wrong_in v words ≡ None
none_wrong v words (inl is) = let (x, e) = known_here (params_in words) is in params_lines v words x e
none_wrong v words (inr (inl is)) = let (x, e) = known_here (node_in words) is in node_lines v words x e
none_wrong v words (inr (inr (inl is))) = let (x, e) = known_here (plan_line_in v words) is in plan_lines v words x e
none_wrong v words (inr (inr (inr (inl is)))) = ap (wrong_in v) is
none_wrong v words (inr (inr (inr (inr (inl is))))) = let (x, e) =
    known_here (entry_in v words) is in entry_lines v words x e
none_wrong v words (inr (inr (inr (inr (inr is))))) = ap (wrong_in v) is

one_further : (o : Option ℕ) (n : ℕ) → option_map (λ k. k + 1) o ≡ Some (suc n) → o ≡ Some n
one_further None n h = cc h
one_further (Some k) n h = let same : k + 1 ≡ suc n = cc h in ap Some (omega (arith, same))

none_further : (o : Option ℕ) → option_map (λ k. k + 1) o ≡ Some 0 → ⊥
none_further None h = cc h
none_further (Some k) h = let same : k + 1 ≡ 0 = cc h in omega (arith, same)

further : (o : Option ℕ) (n : ℕ) → o ≡ Some n → option_map (λ k. k + 1) o ≡ Some (suc n)
further o n is = ap (option_map (λ k. k + 1)) is ∙ ap Some (omega arith)

same_front : (forms : List WordForm) (words others : List (List ℕ)) (n : ℕ) → wrong_at forms words ≡ Some n
    → take (suc n) others ≡ take (suc n) words → wrong_at forms others ≡ Some n
same_front [] [] others n is same = cc is
same_front [] (w ∷ ws) [] n is same = cc same
same_front [] (w ∷ ws) (o ∷ os) n is same = is
same_front (f ∷ fs) [] [] n is same = is
same_front (f ∷ fs) [] (o ∷ os) n is same = cc same
same_front (f ∷ fs) (w ∷ ws) [] n is same = cc same
same_front (f ∷ fs) (w ∷ ws) (o ∷ os) zero is same =
    let word : o ≡ w = cc same in
    elim (cases_Bool (fits f w)) [
      | inl fit ↦ absurd (none_further (wrong_at fs ws) (rw fit at is))
      | inr unfit ↦ let other : fits f o ≡ false = ap (fits f) word ∙ unfit in rw other refl
    ]
same_front (f ∷ fs) (w ∷ ws) (o ∷ os) (suc n) is same =
    let word : o ≡ w = cc same in
    let rest : take (suc n) os ≡ take (suc n) ws = cc same in
    elim (cases_Bool (fits f w)) [
      | inl fit ↦
          let other : fits f o ≡ true = ap (fits f) word ∙ fit in
          rw other (further (wrong_at fs os) n (same_front fs ws os n
          (one_further (wrong_at fs ws) n (rw fit at is)) rest))
      | inr unfit ↦ let none : ◌≡◌ {A = Option ℕ} (Some 0) (Some (suc n)) = rw unfit at is in cc none
    ]

same_after : (o : Option (List WordForm)) (words others : List (List ℕ)) (n : ℕ) → wrong_after o words ≡ Some n
    → take n others ≡ take n words → wrong_after o others ≡ Some n
same_after None words others n is same = is
same_after (Some forms) words others zero is same = absurd (none_further (wrong_at forms words) is)
same_after (Some forms) words others (suc n) is same =
    further (wrong_at forms others) n (same_front forms words others n (one_further (wrong_at forms words) n is) same)

same_begun : (v : Version) (words others : List (List ℕ)) (n : ℕ) → wrong_in v words ≡ Some n
    → take (suc n) others ≡ take (suc n) words → wrong_in v others ≡ Some n
same_begun v [] others n is same = cc is
same_begun v (kind ∷ words) [] n is same = cc same
same_begun v (kind ∷ words) (first ∷ others) n is same =
    let word : first ≡ kind = cc same in
    let rest : take n others ≡ take n words = cc same in
    ap (λ k. wrong_after (forms_of v k) others) word ∙ same_after (forms_of v kind) words others n is rest

-- no line begins with the words up to the wrong one
pub wrong_so : (v : Version) (words : List (List ℕ)) (n : ℕ) → wrong_in v words ≡ Some n
    → BeginsNoLine v words (place_in words n)
wrong_so v words n is others same line =
    let up : suc n ≡ n + 1 = omega arith in
    let front : take (suc n) others ≡ take (suc n) words =
    ap (λ k. take k others) up ∙ same ∙ sym (ap (λ k. take k words) up) in
    let clash : ◌≡◌ {A = Option ℕ} None (Some n) =
    sym (none_wrong v others line) ∙ same_begun v words others n is front in
    cc clash
