-- The line of a plan's numbers in version 4.
use Rattle.std.proofs.Common.{◌≡◌, ℕ, ◌<◌, ◌≤◌, ◌&&◌, inl, inr, true, List, [], ◌∷◌, length, codes, Some}
use Rattle.std.proofs.Common.{refl, sym, ap, ◌∙◌, arith, leb}
use Rattle.std.proofs.lemmas.Bool.{and_parts, cases_Bool, leb-true, le-leb}
use Rattle.std.specs.Fmt.{decimal}
use Rattle.std.specs.Result.{result_ok}
use Rattle.fr_auditing.specs.LongReading.{long_limits_in, long_node_in, with_room}
use Rattle.fr_lines.proofs.PartLemmas.{word_or}
use Rattle.fr_lines.proofs.WordLemmas.{number_word}
use Rattle.fr_lines.specs.Spelled.{bare_plan}
use Rattle.fr_lines.specs.Spelling.{node_words}
use Rattle.fr_slots.specs.Plans.{Plan, IsPlan, plan_of, empty_plan, with_limits}
use Rattle.fr_text.proofs.BindLemmas.{bind_some}
use Rattle.fr_text.proofs.LineLemmas.{cons_same, line_of-words_of, words_of-line_of, has_no_feed-line_of}
use Rattle.fr_text.proofs.LineLemmas.{length-line_of-le}
use Rattle.fr_text.proofs.NumberLemmas.{number_takes, number_again}
use Rattle.fr_text.specs.Plain.{ArePlain, has_no_feed}
use Rattle.fr_text.specs.Reading.{number_in}
use Rattle.fr_text.specs.Spaces.{words_of, line_of}

-- ---- a plan that is read is spelled by these words

smallest_is : (t a b : ℕ) → t ≤ 8 → a ≤ 8000 → b ≤ 8000 → result_ok (plan_of t a b 1 2) ≡ Some (empty_plan t a b 1 2)
smallest_is t a b few fits_a fits_b = rw (le-leb t 8 few, le-leb a 8000 fits_a, le-leb b 8000 fits_b) refl

empty_is : (t a b h s : ℕ) → t ≤ 8 → a ≤ 8000 → b ≤ 8000 → 1 ≤ h → h ≤ 1073741824 → 2 ≤ s → s ≤ 3221225469
    → IsPlan (empty_plan t a b h s)
empty_is t a b h s few fits_a fits_b some_host host_fits some_slot slot_fits = record {
  few_tasks = few;
  latest_a_fits = fits_a;
  latest_b_fits = fits_b;
  some_host_entries = some_host;
  host_entries_fit = host_fits;
  some_slot_entries = some_slot;
  slot_entries_fit = slot_fits;
  few_owned = omega arith;
  owned_fit = tt;
  owned_are = tt;
  few_buffers = omega arith;
  buffers_fit = tt;
  buffers_are = tt;
  queue_fits = tt;
  queue_is = tt;
}

-- a room that is given
room_given : (h s : ℕ) (plan p : Plan) → with_room h s plan ≡ Some p
    → (with_limits plan h s ≡ p) × (1 ≤ h) × (2 ≤ s)
room_given h s plan p is =
    elim (cases_Bool (leb 1 h && leb 2 s)) [
      | inl pass ↦
          let parts = and_parts (leb 1 h) (leb 2 s) pass in
          (cc (rw pass at is), leb-true 1 h parts.0, leb-true 2 s parts.1)
      | inr fail ↦ cc (rw fail at is)
    ]

same_plan : (t a b h s : ℕ) (plan p : Plan) → Some (empty_plan t a b 1 2) ≡ Some plan → with_limits plan h s ≡ p
    → empty_plan t a b h s ≡ p
same_plan t a b h s plan p first last =
    let made : empty_plan t a b 1 2 ≡ plan = cc first in ap (λ (x : Plan). with_limits x h s) made ∙ last

long_limits_takes : (words : List (List ℕ)) (p : Plan) → long_limits_in words ≡ Some p
    → (codes "node" ∷ words ≡ node_words p) × (p ≡ bare_plan p) × IsPlan p
unfolding long_limits_in
long_limits_takes [] p is = cc is
long_limits_takes (t ∷ []) p is = cc is
long_limits_takes (t ∷ a ∷ []) p is = cc is
long_limits_takes (t ∷ a ∷ b ∷ []) p is = cc is
long_limits_takes (t ∷ a ∷ b ∷ host ∷ []) p is = cc is
long_limits_takes (t ∷ a ∷ b ∷ host ∷ slot ∷ []) p is =
    let (tasks, ht, h1) = bind_some (number_in 9 t) _ p is in
    let (latest_a, ha, h2) = bind_some (number_in 8001 a) _ p h1 in
    let (latest_b, hb, h3) = bind_some (number_in 8001 b) _ p h2 in
    let (host_entries, hh, h4) = bind_some (number_in 1073741825 host) _ p h3 in
    let (slot_entries, hs, h5) = bind_some (number_in 3221225470 slot) _ p h4 in
    let (plan, hp, h6) = bind_some (result_ok (plan_of tasks latest_a latest_b 1 2)) _ p h5 in
    let tt_is = number_takes 9 t tasks ht in
    let ta = number_takes 8001 a latest_a ha in
    let tb = number_takes 8001 b latest_b hb in
    let th = number_takes 1073741825 host host_entries hh in
    let ts = number_takes 3221225470 slot slot_entries hs in
    let few : tasks ≤ 8 = omega (arith, tt_is.1) in
    let fits_a : latest_a ≤ 8000 = omega (arith, ta.1) in
    let fits_b : latest_b ≤ 8000 = omega (arith, tb.1) in
    let room = room_given host_entries slot_entries plan p h6 in
    let same : empty_plan tasks latest_a latest_b host_entries slot_entries ≡ p =
    same_plan tasks latest_a latest_b host_entries slot_entries plan p
    (sym (smallest_is tasks latest_a latest_b few fits_a fits_b) ∙ hp) room.0 in
    let rest = cons_same (sym tb.0) (cons_same (sym th.0) (cons_same (sym ts.0) refl)) in
    let is_plan = empty_is tasks latest_a latest_b host_entries slot_entries few fits_a fits_b room.1
    (omega (arith, th.1)) room.2 (omega (arith, ts.1)) in
    rw (← same) (cons_same refl (cons_same (sym tt_is.0) (cons_same (sym ta.0) rest)), refl, is_plan)
long_limits_takes (t ∷ a ∷ b ∷ host ∷ slot ∷ more ∷ words) p is = cc is

pub long_node_taken : (words : List (List ℕ)) (p : Plan) → long_node_in words ≡ Some p
    → (words ≡ node_words p) × (p ≡ bare_plan p) × IsPlan p
unfolding long_node_in
long_node_taken [] p is = cc is
long_node_taken (kind ∷ words) p is =
    elim (word_or kind (codes "node") (long_limits_in words) _ p is) [
      | inl node ↦ let t = long_limits_takes words p node.1 in (cons_same node.0 refl ∙ t.0, t.1, t.2)
      | inr none ↦ cc none
    ]

pub long_line_taken : (line : List ℕ) (p : Plan) → long_node_in (words_of line) ≡ Some p → line ≡ line_of (node_words p)
long_line_taken line p is = sym (line_of-words_of line) ∙ ap line_of (long_node_taken (words_of line) p is).0

-- ---- a plan that is spelled is read again

again : (p : Plan) → IsPlan p → long_node_in (node_words p) ≡ Some (bare_plan p)
unfolding long_node_in long_limits_in
again p is =
    let tasks = is.few_tasks in
    let a = is.latest_a_fits in
    let b = is.latest_b_fits in
    let host = is.host_entries_fit in
    let slot = is.slot_entries_fit in
    let t1 : p.tasks < 9 = omega arith in
    let a1 : p.latest_a < 8001 = omega arith in
    let b1 : p.latest_b < 8001 = omega arith in
    let h1 : p.host_entries < 1073741825 = omega arith in
    let s1 : p.slot_entries < 3221225470 = omega arith in
    rw (
      number_again 9 p.tasks t1 (omega arith),
      number_again 8001 p.latest_a a1 (omega arith),
      number_again 8001 p.latest_b b1 (omega arith),
      number_again 1073741825 p.host_entries h1 (omega arith),
      number_again 3221225470 p.slot_entries s1 (omega arith),
      smallest_is p.tasks p.latest_a p.latest_b tasks a b,
      le-leb 1 p.host_entries is.some_host_entries,
      le-leb 2 p.slot_entries is.some_slot_entries,
    ) refl

-- ---- the words are plain, and the line is short

both : (p : Plan) → IsPlan p → ArePlain (node_words p) × (length (line_of (node_words p)) ≤ 1200)
both p is =
    let tasks = is.few_tasks in
    let a = is.latest_a_fits in
    let b = is.latest_b_fits in
    let host = is.host_entries_fit in
    let slot = is.slot_entries_fit in
    let tasks_is = number_word 1 p.tasks (omega arith) (omega arith) (omega arith) in
    let a_is = number_word 4 p.latest_a (omega arith) (omega arith) (omega arith) in
    let b_is = number_word 4 p.latest_b (omega arith) (omega arith) (omega arith) in
    let host_is = number_word 10 p.host_entries (omega arith) (omega arith) (omega arith) in
    let slot_is = number_word 10 p.slot_entries (omega arith) (omega arith) (omega arith) in
    let all = length-line_of-le (node_words p) in
    ((refl, (tasks_is.plain, (a_is.plain, (b_is.plain, (host_is.plain, (slot_is.plain, tt)))))), omega arith)

pub long_node_no_feed : (p : Plan) → IsPlan p → has_no_feed (line_of (node_words p)) ≡ true
long_node_no_feed p is = has_no_feed-line_of (node_words p) (both p is).0

pub long_node_short : (p : Plan) → IsPlan p → length (line_of (node_words p)) ≤ 1200
long_node_short p is = (both p is).1

pub long_node_again : (p : Plan) → IsPlan p → long_node_in (words_of (line_of (node_words p))) ≡ Some (bare_plan p)
long_node_again p is =
    ap long_node_in (words_of-line_of (codes "node")
    (decimal p.tasks ∷ decimal p.latest_a ∷ decimal p.latest_b ∷ decimal p.host_entries ∷ decimal p.slot_entries ∷ [])
    (both p is).0)
    ∙ again p is
