-- The log of commits at the start and at the end of a run.
use Rattle.std.proofs.Common.{◌≡◌, ◌≤◌, ◌<◌, ℕ, zero, suc, ◌+◌, List, [], ◌∷◌, ◌++◌, length, map, Some}
use Rattle.std.proofs.Common.{refl, sym, ap, ap₂, subst, ◌∙◌, arith, get_or}
use Rattle.std.specs.Prelude.{slice_get}
use Rattle.std.specs.List.{flat_map, range_with_len, All}
use Rattle.std.proofs.lemmas.List.Elements.{All-nil}
use Rattle.fr_core.specs.Agreement.{IsWorld}
use Rattle.fr_core.specs.Worlds.{WorldState, interface_at, new_interface, no_interface}
use Rattle.fr_endless.specs.Alike.{buffers_each}
use Rattle.fr_interface.proofs.StandingLemmas.{pending-there}
use Rattle.fr_interface.specs.Standing.{Standing, IsHistory}
use Rattle.fr_interface.specs.State.{State}
use Rattle.fr_live.specs.LiveWorlds.{LiveState, AreHistories, IsWorldHistory, with_room}
use Rattle.fr_schedule.specs.Descriptions.{Description}
use Rattle.fr_showing.specs.CommitText.{entries_at}
use Rattle.fr_journal.specs.Cycles.{cycles_of}
use Rattle.fr_slots.specs.declared.plan.Buffer.{Buffer}
use Rattle.fr_slots.specs.History.{each_after}
use Rattle.fr_slots.specs.Parameters.{Parameters}
use Rattle.fr_slots.specs.Plans.{Plan, buffer_at}
use Rattle.fr_streaming.specs.CommitLog.{entry_lines, left_pending, lines_at, node_lines, pending_on}
use Rattle.fr_streaming.specs.CommitLog.{pending_text, AddsToLog, IsLog}
use Rattle.fr_streaming.specs.LogSteps.{left_at, left_in, left_on, IsBetween, IsSealedIn}
use Rattle.fr_streaming.specs.Runs.{most_entries, opening}

-- ---- the start

new_entries : (p : Parameters) (plans : List Plan) (n : ℕ)
    → (get_or (map (new_interface p) plans) n no_interface).entries ≡ []
new_entries p [] n = refl
new_entries p (plan ∷ plans) zero = refl
new_entries p (plan ∷ plans) (suc n) = new_entries p plans n

module _ (d : Description) (cycles : ℕ) where
  no_entries : (n : ℕ) → entries_at (opening d cycles) n ≡ []
  no_entries n = new_entries d.params (with_room most_entries d).plans n

  pub opening_between : IsWorld (opening d cycles) → IsBetween d (opening d cycles)
  opening_between world = record {
    world = world;
    room = most_entries;
    cluster = refl;
    sealed = λ n. subst (All (IsSealedIn [])) (sym (no_entries n)) (All-nil (IsSealedIn []));
    begun = λ n below. ap cycles_of (no_entries n);
  }

  no_lines : (n : ℕ) → node_lines (opening d cycles) n ≡ []
  unfolding each_after
  no_lines n = ap (each_after (entry_lines (opening d cycles) n) []) (no_entries n)

  -- what is added from the start on is the log
  pub log_is : (w : WorldState) (text : List ℕ) → AddsToLog (opening d cycles) w text → IsLog w text
  log_is w text adds = record {
    lines = adds.lines;
    text_is = adds.text_is;
    each = λ n. adds.each n ∙ ap (λ (ls : List (List ℕ)). ls ++ lines_at n adds.lines) (no_lines n);
  }

-- ---- the end

same_flat : {A : Type 0} (f g : ℕ → List A) (a n : ℕ) → ((j : ℕ) → a ≤ j → j < a + n → f j ≡ g j)
    → flat_map f (range_with_len a n) ≡ flat_map g (range_with_len a n)
same_flat f g a zero same = refl
same_flat f g a (suc n) same =
    ap₂ (λ (xs ys : List _). xs ++ ys) (same a (omega arith) (omega arith))
    (same_flat f g (a + 1) n (λ j above below. same j (omega (arith, above)) (omega (arith, below))))

got : {X : Type 0} (xs : List X) (i : ℕ) → i < length xs → (x : X) × (slice_get xs i ≡ Some x)
got [] i lt = absurd (let none : ⊥ = omega (arith, lt) in none)
got (x ∷ xs) zero lt = (x, refl)
got (x ∷ xs) (suc i) lt = got xs i (omega (arith, lt))

-- the pending commits of a node
abbrev node_pending : ℕ → State → List ℕ
node_pending node s = flat_map (pending_on node s) (range_with_len 0 (length s.plan.buffers))

node_left : (node : ℕ) (h : Standing) (s : State) → IsHistory h s
    → left_at node h (length s.plan.buffers) ≡ node_pending node s
node_left node h s is =
    same_flat (left_on node h) (pending_on node s) 0 (length s.plan.buffers) (λ j above below.
    let line : (b : Buffer) × (buffer_at s.plan j ≡ Some b) = got s.plan.buffers j (omega (arith, below)) in
    ap (pending_text node) (pending-there h s j line.0 is
    (sym (ap (λ (x : Standing). buffer_at x.plan j) is.leaves) ∙ line.1)))

-- of each interface, with its number
abbrev all_pending : ℕ → List State → List ℕ
all_pending node [] = []
all_pending node (s ∷ ss) = node_pending node s ++ all_pending (node + 1) ss

left_all : (node : ℕ) (hs : List Standing) (ss : List State) → AreHistories hs ss
    → left_in hs (buffers_each ss) node ≡ all_pending node ss
left_all node [] [] are = refl
left_all node [] (s ∷ ss) are = absurd are
left_all node (h ∷ hs) [] are = absurd are
left_all node (h ∷ hs) (s ∷ ss) are =
    ap₂ (λ (xs ys : List ℕ). xs ++ ys) (node_left node h s are.0) (left_all (node + 1) hs ss are.1)

along : (at : ℕ → State) (node : ℕ) (ss : List State) → ((j : ℕ) → j < length ss → at (node + j)
    ≡ get_or ss j no_interface)
    → flat_map (λ (n : ℕ). node_pending n (at n)) (range_with_len node (length ss)) ≡ all_pending node ss
along at node [] same = refl
along at node (s ∷ ss) same =
    let place : node ≡ node + 0 = omega arith in
    ap₂ (λ (xs ys : List ℕ). xs ++ ys) (ap (node_pending node) (ap at place ∙ same 0 (omega arith)))
    (along at (node + 1) ss (λ j below.
    let next : node + 1 + j ≡ node + suc j = omega arith in
    ap at next ∙ same (suc j) (omega (arith, below))))

-- the kept data tell what is left
pub left_is : (l : LiveState) (w : WorldState) (counts : List ℕ) → IsWorldHistory l w
    → counts ≡ buffers_each w.interfaces → left_in l.interfaces counts 0 ≡ left_pending w
left_is l w counts is counted =
    ap (λ (cs : List ℕ). left_in l.interfaces cs 0) counted
    ∙ left_all 0 l.interfaces w.interfaces is.leads.interfaces_are
    ∙ sym (along (interface_at w) 0 w.interfaces (λ j below.
    let same : 0 + j ≡ j = omega arith in ap (interface_at w) same))
