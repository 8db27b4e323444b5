-- The line of a plan's numbers.
use Rattle.std.proofs.Common.{◌≡◌, ℕ, ◌<◌, ◌≤◌, ◌&&◌, inl, inr, true, List, [], ◌∷◌, length, codes, Some, None, refl}
use Rattle.std.proofs.Common.{sym, ap, ◌∙◌, arith, leb}
use Rattle.std.proofs.lemmas.Bool.{and_parts, cases_Bool, leb-true, le-leb}
use Rattle.std.specs.Fmt.{decimal}
use Rattle.std.specs.Result.{result_ok}
use Rattle.fr_lines.proofs.PartLemmas.{word_or}
use Rattle.fr_lines.proofs.WordLemmas.{number_word}
use Rattle.fr_lines.specs.Reading.{limits_in, node_in}
use Rattle.fr_lines.specs.Spelled.{bare_plan}
use Rattle.fr_lines.specs.Spelling.{node_words}
use Rattle.fr_slots.specs.Plans.{Plan, IsPlan, IsNodePlan, plan_of, empty_plan, limits_fit}
use Rattle.fr_text.proofs.BindLemmas.{bind_some}
use Rattle.fr_text.proofs.LineLemmas.{cons_same, line_of-words_of, words_of-line_of, has_no_feed-line_of}
use Rattle.fr_text.proofs.LineLemmas.{length-line_of-le}
use Rattle.fr_text.proofs.NumberLemmas.{number_takes, number_again}
use Rattle.fr_text.specs.Plain.{ArePlain, has_no_feed}
use Rattle.fr_text.specs.Reading.{number_in}
use Rattle.fr_text.specs.Spaces.{words_of, line_of}

-- ---- a plan that is read is spelled by these words

limits_is : (t a b h s : ℕ) → limits_fit t a b h s ≡ true → IsNodePlan (empty_plan t a b h s)
limits_is t a b h s pass =
    let (six, slot_high) =
    and_parts (leb t 8 && leb a 8000 && leb b 8000 && leb 1 h && leb h 16384 && leb 2 s) (leb s 65536) pass in
    let (five, slot_low) = and_parts (leb t 8 && leb a 8000 && leb b 8000 && leb 1 h && leb h 16384) (leb 2 s) six in
    let (four, host_high) = and_parts (leb t 8 && leb a 8000 && leb b 8000 && leb 1 h) (leb h 16384) five in
    let (three, host_low) = and_parts (leb t 8 && leb a 8000 && leb b 8000) (leb 1 h) four in
    let (two, latest_b) = and_parts (leb t 8 && leb a 8000) (leb b 8000) three in
    let (tasks, latest_a) = and_parts (leb t 8) (leb a 8000) two in
    let few_host : h ≤ 16384 = leb-true h 16384 host_high in
    let few_slot : s ≤ 65536 = leb-true s 65536 slot_high in
    let plan : IsPlan (empty_plan t a b h s) = record {
      few_tasks = leb-true t 8 tasks;
      latest_a_fits = leb-true a 8000 latest_a;
      latest_b_fits = leb-true b 8000 latest_b;
      some_host_entries = leb-true 1 h host_low;
      host_entries_fit = omega (arith, few_host);
      some_slot_entries = leb-true 2 s slot_low;
      slot_entries_fit = omega (arith, few_slot);
      few_owned = omega arith;
      owned_fit = tt;
      owned_are = tt;
      few_buffers = omega arith;
      buffers_fit = tt;
      buffers_are = tt;
      queue_fits = tt;
      queue_is = tt;
    } in record { plan_is = plan; few_host_entries = few_host; few_slot_entries = few_slot }

plan_takes : (t a b h s : ℕ) (p : Plan) → result_ok (plan_of t a b h s) ≡ Some p
    → (empty_plan t a b h s ≡ p) × IsNodePlan (empty_plan t a b h s)
plan_takes t a b h s p read =
    elim (cases_Bool (limits_fit t a b h s)) [
      | inl pass ↦ (cc (rw pass at read), limits_is t a b h s pass)
      | inr fail ↦ cc (rw fail at read)
    ]

limits_takes : (words : List (List ℕ)) (p : Plan) → limits_in words ≡ Some p
    → (codes "node" ∷ words ≡ node_words p) × (p ≡ bare_plan p) × IsNodePlan p
unfolding limits_in
limits_takes [] p h = cc h
limits_takes (t ∷ []) p h = cc h
limits_takes (t ∷ a ∷ []) p h = cc h
limits_takes (t ∷ a ∷ b ∷ []) p h = cc h
limits_takes (t ∷ a ∷ b ∷ host ∷ []) p h = cc h
limits_takes (t ∷ a ∷ b ∷ host ∷ slot ∷ []) p h =
    let (tasks, ht, h1) = bind_some (number_in 9 t) _ p h in
    let (latest_a, ha, h2) = bind_some (number_in 8001 a) _ p h1 in
    let (latest_b, hb, h3) = bind_some (number_in 8001 b) _ p h2 in
    let (host_entries, hh, h4) = bind_some (number_in 16385 host) _ p h3 in
    let (slot_entries, hs, h5) = bind_some (number_in 65537 slot) _ p h4 in
    let is = plan_takes tasks latest_a latest_b host_entries slot_entries p h5 in
    let tt_is = (number_takes 9 t tasks ht).0 in
    let ta = (number_takes 8001 a latest_a ha).0 in
    let tb = (number_takes 8001 b latest_b hb).0 in
    let th = (number_takes 16385 host host_entries hh).0 in
    let ts = (number_takes 65537 slot slot_entries hs).0 in
    let rest = cons_same (sym tb) (cons_same (sym th) (cons_same (sym ts) refl)) in
    rw (← is.0) (cons_same refl (cons_same (sym tt_is) (cons_same (sym ta) rest)), refl, is.1)
limits_takes (t ∷ a ∷ b ∷ host ∷ slot ∷ more ∷ words) p h = cc h

taken : (words : List (List ℕ)) (p : Plan) → node_in words ≡ Some p
    → (words ≡ node_words p) × (p ≡ bare_plan p) × IsNodePlan p
unfolding node_in
taken [] p h = cc h
taken (kind ∷ words) p h =
    elim (word_or kind (codes "node") (limits_in words) _ p h) [
      | inl node ↦ let t = limits_takes words p node.1 in (cons_same node.0 refl ∙ t.0, t.1, t.2)
      | inr h1 ↦ cc h1
    ]

pub node_takes : (words : List (List ℕ)) (p : Plan) → node_in words ≡ Some p → words ≡ node_words p
node_takes words p h = (taken words p h).0

-- it has no ownership lines, no buffers and no receive FIFO
pub node_bare : (words : List (List ℕ)) (p : Plan) → node_in words ≡ Some p → p ≡ bare_plan p
node_bare words p h = (taken words p h).1

pub node_fits : (words : List (List ℕ)) (p : Plan) → node_in words ≡ Some p → IsNodePlan p
node_fits words p h = (taken words p h).2

pub node_no_lines : (words : List (List ℕ)) (p : Plan) → node_in words ≡ Some p
    → (p.owned ≡ []) × (p.buffers ≡ []) × (p.queue ≡ None)
node_no_lines words p h =
    let is = node_bare words p h in
    (ap (λ (q : Plan). q.owned) is, ap (λ (q : Plan). q.buffers) is, ap (λ (q : Plan). q.queue) is)

pub node_line_takes : (line : List ℕ) (p : Plan) → node_in (words_of line) ≡ Some p → line ≡ line_of (node_words p)
node_line_takes line p h = sym (line_of-words_of line) ∙ ap line_of (node_takes (words_of line) p h)

-- ---- a plan that is spelled is read again

limits_are : (p : Plan) → IsNodePlan p → limits_fit p.tasks p.latest_a p.latest_b p.host_entries p.slot_entries ≡ true
limits_are p is =
    rw (
      le-leb p.tasks 8 is.plan_is.few_tasks,
      le-leb p.latest_a 8000 is.plan_is.latest_a_fits,
      le-leb p.latest_b 8000 is.plan_is.latest_b_fits,
      le-leb 1 p.host_entries is.plan_is.some_host_entries,
      le-leb p.host_entries 16384 is.few_host_entries,
      le-leb 2 p.slot_entries is.plan_is.some_slot_entries,
      le-leb p.slot_entries 65536 is.few_slot_entries,
    ) refl

plan_again : (p : Plan) → IsNodePlan p
    → result_ok (plan_of p.tasks p.latest_a p.latest_b p.host_entries p.slot_entries) ≡ Some (bare_plan p)
plan_again p is = rw (limits_are p is) refl

pub node_again : (p : Plan) → IsNodePlan p → node_in (node_words p) ≡ Some (bare_plan p)
unfolding node_in limits_in
node_again p is =
    let tasks = is.plan_is.few_tasks in
    let a = is.plan_is.latest_a_fits in
    let b = is.plan_is.latest_b_fits in
    let host = is.few_host_entries in
    let slot = is.few_slot_entries in
    let t1 : p.tasks < 9 = omega arith in
    let a1 : p.latest_a < 8001 = omega arith in
    let b1 : p.latest_b < 8001 = omega arith in
    let h1 : p.host_entries < 16385 = omega arith in
    let s1 : p.slot_entries < 65537 = omega arith in
    rw (
      number_again 9 p.tasks t1 (omega arith),
      number_again 8001 p.latest_a a1 (omega arith),
      number_again 8001 p.latest_b b1 (omega arith),
      number_again 16385 p.host_entries h1 (omega arith),
      number_again 65537 p.slot_entries s1 (omega arith),
    ) (plan_again p is)

-- ---- the words are plain, and the line is short

both : (p : Plan) → IsNodePlan p → ArePlain (node_words p) × (length (line_of (node_words p)) ≤ 1200)
both p is =
    let tasks = is.plan_is.few_tasks in
    let a = is.plan_is.latest_a_fits in
    let b = is.plan_is.latest_b_fits in
    let host = is.few_host_entries in
    let slot = is.few_slot_entries in
    let tasks_is = number_word 1 p.tasks (omega arith) (omega arith) (omega arith) in
    let a_is = number_word 4 p.latest_a (omega arith) (omega arith) (omega arith) in
    let b_is = number_word 4 p.latest_b (omega arith) (omega arith) (omega arith) in
    let host_is = number_word 5 p.host_entries (omega arith) (omega arith) (omega arith) in
    let slot_is = number_word 5 p.slot_entries (omega arith) (omega arith) (omega arith) in
    let all = length-line_of-le (node_words p) in
    ((refl, (tasks_is.plain, (a_is.plain, (b_is.plain, (host_is.plain, (slot_is.plain, tt)))))), omega arith)

pub node_plain : (p : Plan) → IsNodePlan p → ArePlain (node_words p)
node_plain p is = (both p is).0

pub node_no_feed : (p : Plan) → IsNodePlan p → has_no_feed (line_of (node_words p)) ≡ true
node_no_feed p is = has_no_feed-line_of (node_words p) (node_plain p is)

pub node_short : (p : Plan) → IsNodePlan p → length (line_of (node_words p)) ≤ 1200
node_short p is = (both p is).1

-- so the line is cut into them
pub node_cut : (p : Plan) → IsNodePlan p → words_of (line_of (node_words p)) ≡ node_words p
node_cut p is =
    words_of-line_of (codes "node")
    (decimal p.tasks ∷ decimal p.latest_a ∷ decimal p.latest_b ∷ decimal p.host_entries ∷ decimal p.slot_entries ∷ [])
    (node_plain p is)

pub node_line_again : (p : Plan) → IsNodePlan p → node_in (words_of (line_of (node_words p))) ≡ Some (bare_plan p)
node_line_again p is = ap node_in (node_cut p is) ∙ node_again p is
