-- The plans read from a file's tables fit the parameters of the file.
use Rattle.std.proofs.Common.{◌≡◌, ℕ, ◌+◌, ◌≤◌, ℤ, pos, nat_lt, Bool, true, false, not, ◌&&◌, ◌||◌, if◌then◌else◌, List}
use Rattle.std.proofs.Common.{[], ◌∷◌, codes, Option, Some, None, Result, Ok, Err, refl, sym, ap, subst, ◌∙◌, inl, inr}
use Rattle.std.proofs.Common.{arith}
use Rattle.std.proofs.lemmas.Bool.{cases_Bool, and_parts, cond-true, cond-false, leb-true, le-leb}
use Rattle.std.proofs.lemmas.Option.{same_Some, cond_some}
use Rattle.std.specs.Int.Signed.{le_z}
use Rattle.std.specs.List.{list_any}
use Rattle.std.specs.Prelude.{is_some, option_and_then, ok_or}
use Rattle.std.specs.Result.{result_ok}
use Rattle.fr_schedule.proofs.HeadLemmas.{owned_is, queued_is}
use Rattle.fr_schedule.proofs.StepLemmas.{then_some, then_ok, or_ok, same_Ok}
use Rattle.fr_schedule.specs.declared.error.ConfigError.{ConfigError}
use Rattle.fr_schedule.specs.declared.error.ConfigError.TheVariants as error
use Rattle.fr_schedule.specs.Files.{each_of, buffer_read, with_buffers, with_buffers_of, plan_of}
use Rattle.fr_schedule.specs.NodeTables.{own_in, own_of, words_in, transmit_buffer_in, buffer_by, buffer_in, buffer_of}
use Rattle.fr_schedule.specs.NodeTables.{limits_in, with_owned_in, head_in, filter_in}
use Rattle.fr_schedule.specs.TableReading.{within, number_in, number_at, number_or, or_default, flag_at, mode_in}
use Rattle.fr_schedule.specs.TableReading.{channels_in, cycles_in, tables_at, all_of}
use Rattle.fr_slots.specs.declared.plan.Own.{Own}
use Rattle.fr_slots.specs.declared.plan.Buffer.{Buffer}
use Rattle.fr_slots.specs.declared.plan.Mode.{Mode}
use Rattle.fr_slots.specs.declared.plan.PlanError.{PlanError}
use Rattle.fr_slots.specs.declared.filter.Filter.{Filter}
use Rattle.fr_slots.specs.Faults.{has_wrong_words, is_owned_beyond, is_out_of_params}
use Rattle.fr_slots.specs.Parameters.{Parameters, unsigned, is_static_slot}
use Rattle.fr_slots.specs.Plans.{Plan, limits_fit, empty_plan, own_fits, buffer_fits, is_receive, Each}
use Rattle.toml.specs.Data.{Data, Members, get_member, as_integer, as_table}

-- ---- numbers in their ranges

not_above : (least greatest : ℕ) (z : ℤ) → le_z (pos least) z ≡ true → le_z z (pos greatest) ≡ true
    → unsigned z ≤ greatest
not_above least greatest (pos n) low high = leb-true n greatest high
not_above least greatest z low high = cc low

number_in-fits : (least greatest : ℕ) (value : Data) (n : ℕ) → number_in least greatest value ≡ Some n → n ≤ greatest
unfolding number_in
number_in-fits least greatest value n is =
    let (z, at, rest) = then_some (as_integer value) (within least greatest) n is in
    let (both, same) = cond_some (le_z (pos least) z && le_z z (pos greatest)) (unsigned z) n rest in
    let (low, high) = and_parts (le_z (pos least) z) (le_z z (pos greatest)) both in
    subst (λ m. m ≤ greatest) same (not_above least greatest z low high)

number_at-fits : (key : List ℕ) (least greatest : ℕ) (table : Members) (n : ℕ)
    → number_at key least greatest table ≡ Some n → n ≤ greatest
unfolding number_at
number_at-fits key least greatest table n is =
    let (value, at, rest) = then_some (get_member key table)
    (number_in least greatest) n is in number_in-fits least greatest value n rest

default-fits : (least greatest usual : ℕ) (o : Option Data) (n : ℕ) → usual ≤ greatest
    → or_default usual (number_in least greatest) o ≡ Some n → n ≤ greatest
default-fits least greatest usual None n fits is = subst (λ m. m ≤ greatest) (same_Some usual n is) fits
default-fits least greatest usual (Some value) n fits is = number_in-fits least greatest value n is

number_or-fits : (key : List ℕ) (least greatest usual : ℕ) (table : Members) (n : ℕ) → usual ≤ greatest
    → number_or key least greatest usual table ≡ Some n → n ≤ greatest
unfolding number_or
number_or-fits key least greatest usual table n fits is = default-fits least greatest usual (get_member key table) n
    fits is

-- ---- lists that are read

none_of : {A : Type 0} (test : A → Bool) (xs : List A) → Each (λ x. test x ≡ false) xs → list_any test xs ≡ false
none_of test [] each = refl
none_of test (x ∷ xs) each = ap (λ b. b || list_any test xs) each.0 ∙ none_of test xs each.1

module _ {X A : Type 0} (P : A → Type 0) where
  all_of-each : (read : X → Option A) → ((x : X) (a : A) → read x ≡ Some a → P a) → (xs : List X) (all : List A)
      → all_of read xs ≡ Some all → Each P all
  unfolding all_of
  all_of-each read so [] all is = subst (Each P) (same_Some [] all is) tt
  all_of-each read so (x ∷ xs) all is =
      let (a, is_a, rest) = then_some (read x) (λ one. option_and_then (λ more. Some (one ∷ more)) (all_of read xs)) all
      is in
      let (more, is_more, made) = then_some (all_of read xs) (λ more. Some (a ∷ more)) all rest in
      subst (Each P) (same_Some (a ∷ more) all made) (so x a is_a, all_of-each read so xs more is_more)

  pub each_of-each : (read : ℕ → X → Result A ConfigError) → ((n : ℕ) (x : X) (a : A) → read n x ≡ Ok a → P a)
      → (n : ℕ) (xs : List X) (all : List A)
      → each_of read n xs ≡ Ok all → Each P all
  unfolding each_of
  each_of-each read so n [] all is = subst (Each P) (same_Ok [] all is) tt
  each_of-each read so n (x ∷ xs) all is =
      let (a, is_a, rest) = then_ok (read n x) _ all is in
      let (more, is_more, made) = then_ok (each_of read (n + 1) xs) _ all rest in
      let same : a ∷ more ≡ all = cc made in
      subst (Each P) same (so n x a is_a, each_of-each read so (n + 1) xs more is_more)

-- ---- ownership lines

own_in-static : (p : Parameters) (table : Members) (own : Own) → own_in p table ≡ Some own
    → is_owned_beyond p own ≡ false
unfolding own_in
own_in-static p table own is =
    let (slot, at, rest) = then_some (number_at (codes "slot") 1 p.static_slots table) _ own is in
    let (channels, at_c, rest_c) = then_some (channels_in table) _ own rest in
    let (cycles, at_y, rest_y) = then_some (cycles_in table) _ own rest_c in
    let (sync, at_s, rest_s) = then_some (flag_at (codes "sync") table) _ own rest_y in
    let (startup, at_u, rest_u) = then_some (flag_at (codes "startup") table) _ own rest_s in
    let (fits, same) = cond_some (own_fits
    (record { slot = slot; channels = channels; cycles = cycles; sync = sync; startup = startup })) _ own rest_u in
    subst (λ (o : Own). is_owned_beyond p o ≡ false) same (ap not
    (le-leb slot p.static_slots (number_at-fits (codes "slot") 1 p.static_slots table slot at)))

own_of-static : (p : Parameters) (value : Data) (own : Own) → own_of p value ≡ Some own → is_owned_beyond p own ≡ false
unfolding own_of
own_of-static p value own is = let (table, at, rest) = then_some (as_table value) (own_in p) own is in own_in-static p
    table own rest

-- ---- buffers

right_words : (t s : Bool) (w : Option ℕ) → (s ≡ true → w ≡ None) → (s ≡ false → is_some w ≡ true)
    → ((t && s) && is_some w || (t && not s) && not (is_some w)) ≡ false
right_words false s w none some = refl
right_words true true w none some = rw (none refl) refl
right_words true false w none some = rw (some refl) refl

-- words if there must be some, and none if there must be none
record Fits (s : Bool) (w : Option ℕ) : Type 0 where
  pub static : s ≡ true → w ≡ None
  pub dynamic : s ≡ false → is_some w ≡ true

words_by : (s : Bool) (read : Option (Option ℕ)) (w : Option ℕ) → ((v : Option ℕ) → read ≡ Some v → is_some v ≡ true)
    → (if s then Some None else read) ≡ Some w → Fits s w
words_by true read w some is = record { static = λ t. sym (same_Some None w is); dynamic = λ f. cc f }
words_by false read w some is = record { static = λ t. cc t; dynamic = λ f. some w is }

own_words : (o : Option ℕ) (w : Option ℕ) → option_and_then (λ n. Some (Some n)) o ≡ Some w → is_some w ≡ true
own_words None w is = cc is
own_words (Some n) w is = subst (λ (v : Option ℕ). is_some v ≡ true) (same_Some (Some n) w is) refl

words_in-fit : (p : Parameters) (slot : ℕ) (table : Members) (w : Option ℕ) → words_in p slot table ≡ Some w
    → Fits (is_static_slot p slot) w
unfolding words_in
words_in-fit p slot table w is =
    words_by (is_static_slot p slot) _ w (λ v read. own_words (number_at (codes "words") 0 127 table) v read) is

transmit-right : (p : Parameters) (mode : Mode) (f : Filter) (table : Members) (b : Buffer)
    → transmit_buffer_in p mode f table ≡ Some b → has_wrong_words p b ≡ false
unfolding transmit_buffer_in
transmit-right p mode f table b is =
    let (preamble, at, rest) = then_some (flag_at (codes "preamble") table) _ b is in
    let (words, at_w, rest_w) = then_some (words_in p f.slot table) _ b rest in
    let (fits, same) = cond_some (buffer_fits (record { mode = mode; filter = f; words = words; preamble = preamble }))
    _ b rest_w in
    let fit = words_in-fit p f.slot table words at_w in
    subst (λ (c : Buffer). has_wrong_words p c ≡ false) same
    (right_words (not (is_receive mode)) (is_static_slot p f.slot) words fit.static fit.dynamic)

buffer_by-right : (p : Parameters) (mode : Mode) (f : Filter) (table : Members) (b : Buffer)
    → buffer_by p mode f table ≡ Some b → has_wrong_words p b ≡ false
unfolding buffer_by
buffer_by-right p mode f table b is =
    elim (cases_Bool (is_receive mode)) [
      | inl receive ↦
          subst (λ (c : Buffer). has_wrong_words p c ≡ false)
          (same_Some (record { mode = mode; filter = f; words = None; preamble = false }) b
          (sym (cond-true (is_receive mode) (Some (record { mode = mode; filter = f; words = None; preamble = false }))
          (transmit_buffer_in p mode f table) receive) ∙ is))
          (rw receive refl)
      | inr transmits_it ↦
          transmit-right p mode f table b
          (sym (cond-false (is_receive mode) (Some (record { mode = mode; filter = f; words = None; preamble = false }))
          (transmit_buffer_in p mode f table) transmits_it) ∙ is)
    ]

buffer_of-right : (p : Parameters) (value : Data) (b : Buffer) → buffer_of p value ≡ Some b
    → has_wrong_words p b ≡ false
unfolding buffer_of buffer_in
buffer_of-right p value b is =
    let (table, at, rest) = then_some (as_table value) (buffer_in p) b is in
    let (mode, at_m, rest_m) = then_some (mode_in table) _ b rest in
    let (f, at_f, rest_f) = then_some (filter_in table) _ b rest_m in
    buffer_by-right p mode f table b rest_f

buffer_read-right : (p : Parameters) (node n : ℕ) (value : Data) (b : Buffer) → buffer_read p node n value ≡ Ok b
    → has_wrong_words p b ≡ false
buffer_read-right p node n value b is = buffer_of-right p value b
    (or_ok (buffer_of p value) (error.BadBuffer node n) b is)

-- ---- nodes

limited : (b : Bool) (made plan : Plan) (e : PlanError) → result_ok (if b then Ok made else Err e) ≡ Some plan
    → made ≡ plan
limited true made plan e is = same_Some made plan is
limited false made plan e is = cc is

-- each pLatestTx that was read is in range
record IsLimited (p : Parameters) (plan : Plan) : Type 0 where
  pub a : plan.latest_a ≤ p.minislots
  pub b : plan.latest_b ≤ p.minislots

limits-fit : (p : Parameters) (table : Members) (plan : Plan) → limits_in p table ≡ Some plan → IsLimited p plan
unfolding limits_in
limits-fit p table plan is =
    let (tasks, at_t, rest_t) = then_some (number_or (codes "tasks") 0 8 1 table) _ plan is in
    let (a, at_a, rest_a) = then_some (number_or (codes "latest_a") 0 p.minislots 0 table) _ plan rest_t in
    let (b, at_b, rest_b) = then_some (number_or (codes "latest_b") 0 p.minislots 0 table) _ plan rest_a in
    let (host, at_h, rest_h) = then_some (number_or (codes "host_entries") 1 16384 256 table) _ plan rest_b in
    let (slot, at_s, rest_s) = then_some (number_or (codes "slot_entries") 2 65536 4096 table) _ plan rest_h in
    subst (IsLimited p) (limited (limits_fit tasks a b host slot) (empty_plan tasks a b host slot) plan _ rest_s)
    (record {
      a = number_or-fits (codes "latest_a") 0 p.minislots 0 table a (omega arith) at_a;
      b = number_or-fits (codes "latest_b") 0 p.minislots 0 table b (omega arith) at_b;
    })

-- all but the words of the buffers
record IsHead (p : Parameters) (plan : Plan) : Type 0 where
  pub owned : list_any (is_owned_beyond p) plan.owned ≡ false
  pub latest : IsLimited p plan

head-fits : (p : Parameters) (table : Members) (plan : Plan) → head_in p table ≡ Some plan → IsHead p plan
unfolding head_in
head-fits p table plan is =
    let (limits, at_l, rest) = then_some (limits_in p table) _ plan is in
    let (owning, at_o, queued) = then_some (with_owned_in p table limits) _ plan rest in
    let o = owned_is p table limits owning at_o in
    let (queue, made) = queued_is table owning plan queued in
    let limit = limits-fit p table limits at_l in
    let of_owning : IsHead p owning = subst (IsHead p) o.is
    (record {
      owned = none_of (is_owned_beyond p) o.owned (all_of-each (λ own. is_owned_beyond p own ≡ false) (own_of p)
          (own_of-static p) o.lines o.owned o.read);
      latest = record { a = limit.a; b = limit.b };
    }) in
    subst (IsHead p) made (record {
      owned = of_owning.owned;
      latest =
          record { a = of_owning.latest.a; b = of_owning.latest.b };
    })

not_late : (least n : ℕ) → n ≤ least → nat_lt least n ≡ false
not_late least n le = grind (arith, le)

three_false : (a b c d : Bool) → a ≡ false → b ≡ false → c ≡ false → d ≡ false → (a || (b || c) || d) ≡ false
three_false a b c d na nb nc nd = rw (na, nb, nc, nd) refl

pub plan-fits : (p : Parameters) (node : ℕ) (value : Data) (plan : Plan) → plan_of p node value ≡ Ok plan
    → is_out_of_params p plan ≡ false
unfolding plan_of with_buffers_of
plan-fits p node value plan is =
    let (table, at, rest) = then_ok (ok_or (as_table value) (error.BadNode node)) _ plan is in
    let (bare, at_h, rest_h) = then_ok (ok_or (head_in p table) (error.BadNode node)) _ plan rest in
    let (values, at_v, rest_v) = then_ok (ok_or (tables_at (codes "buffer") table) (error.BadNode node)) _ plan rest_h
    in
    let (buffers, at_b, made) = then_ok (each_of (buffer_read p node) 0 values) _ plan rest_v in
    let is_head = head-fits p table bare (or_ok (head_in p table) (error.BadNode node) bare at_h) in
    let same : with_buffers bare buffers ≡ plan = cc made in
    subst (λ (q : Plan). is_out_of_params p q ≡ false) same
    (three_false (list_any (is_owned_beyond p) bare.owned) (nat_lt p.minislots bare.latest_a)
    (nat_lt p.minislots bare.latest_b)
    (list_any (has_wrong_words p) buffers) is_head.owned (not_late p.minislots bare.latest_a is_head.latest.a)
    (not_late p.minislots bare.latest_b is_head.latest.b)
    (none_of (has_wrong_words p) buffers
    (each_of-each (λ b. has_wrong_words p b ≡ false) (buffer_read p node)
    (λ n v b h. buffer_read-right p node n v b h) 0 values buffers at_b)))

pub plans-fit : (p : Parameters) (values : List Data) (plans : List Plan) → each_of (plan_of p) 0 values ≡ Ok plans
    → Each (λ q. is_out_of_params p q ≡ false) plans
plans-fit p values plans is = each_of-each (λ q. is_out_of_params p q ≡ false) (plan_of p)
    (plan-fits p) 0 values plans is
