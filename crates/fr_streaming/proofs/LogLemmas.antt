-- The log of commits, one piece after another, and the lines of entries, which stay as the run goes on.
use Rattle.std.proofs.Common.{◌≡◌, ℕ, ◌+◌, Bool, cond, List, [], ◌∷◌, ◌++◌, length, map, Option, Some}
use Rattle.std.proofs.Common.{refl, sym, ap, ap₂, ◌∙◌, append_assoc, append-nil, eq-eqb}
use Rattle.std.specs.Prelude.{codes, slice_get}
use Rattle.std.specs.Fmt.{decimal}
use Rattle.std.specs.List.{flat_map, All}
use Rattle.std.proofs.lemmas.Bool.{ne_eqb}
use Rattle.std.proofs.lemmas.Grind.{flat_map-append}
use Rattle.std.proofs.lemmas.List.{length-map}
use Rattle.std.proofs.lemmas.List.Elements.{All-cons, All-head, All-nil, All-tail}
use Rattle.fr_bus.specs.Record.{Recorded}
use Rattle.fr_capture.specs.declared.takers.Taker.{Taker}
use Rattle.fr_capture.specs.Takers.{takers_word}
use Rattle.fr_core.specs.Agreement.{IsWorld}
use Rattle.fr_core.specs.Worlds.{WorldState, new_interface, without_entries}
use Rattle.fr_interface.specs.State.{State}
use Rattle.fr_journal.specs.declared.entry.Entry.TheVariants.{Commit, Withdraw, Read, Pop, Fetch, Observe}
use Rattle.fr_journal.specs.declared.entry.Offered.{Offered}
use Rattle.fr_journal.specs.declared.entry.Offered.TheVariants.{Nothing, Null, Data}
use Rattle.fr_journal.specs.Forms.{Entry}
use Rattle.fr_lines.specs.Parts.{optional_number}
use Rattle.fr_lines.specs.Spelling.{line_text}
use Rattle.fr_live.specs.LiveWorlds.{Entries}
use Rattle.fr_schedule.specs.Descriptions.{Description}
use Rattle.fr_showing.specs.CommitText.{end_in, end_on, received_text, recorded_of, sending_words, taken_text}
use Rattle.fr_showing.specs.CommitText.{takers_by}
use Rattle.fr_showing.specs.declared.ends.End.{End}
use Rattle.fr_showing.specs.declared.fates.Sending.{Sending}
use Rattle.fr_showing.specs.Ends.{ended_word, offer_end}
use Rattle.fr_showing.specs.Takers.{takers_at, takers_by_plans, takers_from, takers_in}
use Rattle.fr_journal.specs.Cycles.{run_cycle}
use Rattle.fr_slots.proofs.PlaceLemmas.{get-append}
use Rattle.fr_slots.specs.Admission.{letter_of}
use Rattle.fr_slots.specs.declared.channel.Channel.{Channel}
use Rattle.fr_slots.specs.declared.channel.Channel.TheVariants.{A, B}
use Rattle.fr_slots.specs.History.{each_after}
use Rattle.fr_slots.specs.Parameters.{Parameters}
use Rattle.fr_slots.specs.Plans.{Plan, with_limits}
use Rattle.fr_slots.specs.Windows.{slot_of}
use Rattle.fr_streaming.specs.CommitLog.{entry_lines, if_sealed, line_if, lines_at, node_lines, offer_lines, sending}
use Rattle.fr_streaming.specs.CommitLog.{sent_line, text_of, AddsToLog, NodeLine}
use Rattle.fr_streaming.specs.LogSteps.{IsBetween, IsSealedIn}

-- ---- one piece after another

pub text-append : (xs ys : List NodeLine) → text_of (xs ++ ys) ≡ text_of xs ++ text_of ys
text-append xs ys = flat_map-append (λ (l : NodeLine). l.line) xs ys

pub lines-append : (n : ℕ) (xs ys : List NodeLine) → lines_at n (xs ++ ys) ≡ lines_at n xs ++ lines_at n ys
lines-append n xs ys = flat_map-append (line_if n) xs ys

pub adds_none : (w : WorldState) → AddsToLog w w []
adds_none w = record { lines = []; text_is = refl; each = λ n. sym (append-nil (node_lines w n)) }

pub adds_then : (w u v : WorldState) (a b : List ℕ) → AddsToLog w u a → AddsToLog u v b → AddsToLog w v (a ++ b)
adds_then w u v a b first second = record {
  lines = first.lines ++ second.lines;
  text_is = ap₂ (λ (x y : List ℕ). x ++ y) first.text_is second.text_is ∙ sym (text-append first.lines second.lines);
  each = λ n.
      second.each n
      ∙ ap (λ (ls : List (List ℕ)). ls ++ lines_at n second.lines) (first.each n)
      ∙ append_assoc (node_lines w n) (lines_at n first.lines) (lines_at n second.lines)
      ∙ ap (λ (ls : List (List ℕ)). node_lines w n ++ ls) (sym (lines-append n first.lines second.lines));
}

-- ---- the lines of one node

abbrev pub of_node : ℕ → List (List ℕ) → List NodeLine
of_node n ls = map (λ (l : List ℕ). record { node = n; line = l }) ls

abbrev pub joined : List (List ℕ) → List ℕ
joined ls = flat_map (λ (l : List ℕ). l) ls

pub node_text : (n : ℕ) (ls : List (List ℕ)) → text_of (of_node n ls) ≡ joined ls
node_text n [] = refl
node_text n (l ∷ ls) = ap (λ (t : List ℕ). l ++ t) (node_text n ls)

pub own_lines : (n : ℕ) (ls : List (List ℕ)) → lines_at n (of_node n ls) ≡ ls
own_lines n [] = refl
own_lines n (l ∷ ls) =
    ap₂ (λ (b : Bool) (rest : List (List ℕ)). cond b (l ∷ []) [] ++ rest) (eq-eqb n n refl) (own_lines n ls)

pub other_lines : (n m : ℕ) (ls : List (List ℕ)) → (n ≡ m → ⊥) → lines_at m (of_node n ls) ≡ []
other_lines n m [] other = refl
other_lines n m (l ∷ ls) other =
    ap₂ (λ (b : Bool) (rest : List (List ℕ)). cond b (l ∷ []) [] ++ rest) (ne_eqb n m other) (other_lines n m ls other)

-- ---- the words of a sending, by the cluster

-- the world has the parameters and the plans of the cluster, but for the room of journals
pub record IsLike (d : Description) (w : WorldState) : Type 0 where
  pub params : w.bus.cluster.params ≡ d.params
  pub takers : (r : Recorded) (channel : Channel)
      → takers_from w.bus.cluster.params r channel 0 w.interfaces ≡ takers_by_plans d.params r channel 0 d.plans

abbrev pub plan_of : State → Plan
plan_of s = s.plan

takers_planned : (p : Parameters) (r : Recorded) (channel : Channel) (node : ℕ) (ss : List State)
    → takers_from p r channel node ss ≡ takers_by_plans p r channel node (map plan_of ss)
takers_planned p r channel node [] = refl
takers_planned p r channel node (s ∷ ss) =
    ap (λ (ts : List Taker). takers_at p s.plan r channel node ++ ts) (takers_planned p r channel (node + 1) ss)

takers_roomless : (p : Parameters) (r : Recorded) (channel : Channel) (node : ℕ) (room : Entries) (plans : List Plan)
    → takers_by_plans p r channel node (map (λ (plan : Plan). with_limits plan room.host room.slot) plans)
    ≡ takers_by_plans p r channel node plans
takers_roomless p r channel node room [] = refl
takers_roomless p r channel node room (plan ∷ plans) =
    ap (λ (ts : List Taker). takers_at p plan r channel node ++ ts)
    (takers_roomless p r channel (node + 1) room plans)

plans_bare : (ss : List State) → map plan_of ss ≡ map plan_of (map without_entries ss)
plans_bare [] = refl
plans_bare (s ∷ ss) = ap (λ (ps : List Plan). s.plan ∷ ps) (plans_bare ss)

plans_new : (p : Parameters) (plans : List Plan) → map plan_of (map (new_interface p) plans) ≡ plans
plans_new p [] = refl
plans_new p (plan ∷ plans) = ap (λ (ps : List Plan). plan ∷ ps) (plans_new p plans)

pub plans_are : (w : WorldState) → IsWorld w → map plan_of w.interfaces ≡ w.bus.cluster.plans
plans_are w world =
    plans_bare w.interfaces ∙ ap (map plan_of) world.configured
    ∙ plans_new w.bus.cluster.params w.bus.cluster.plans

pub as_many_plans : (d : Description) (w : WorldState) → IsBetween d w → length w.interfaces ≡ length d.plans
as_many_plans d w between =
    sym (length-map w.interfaces plan_of) ∙ ap length (plans_are w between.world)
    ∙ ap (λ (c : Description). length c.plans) between.cluster
    ∙ length-map d.plans (λ (plan : Plan). with_limits plan between.room.host between.room.slot)

pub like_of : (d : Description) (w : WorldState) → IsBetween d w → IsLike d w
like_of d w between = record {
  params = ap (λ (c : Description). c.params) between.cluster;
  takers = λ r channel.
      takers_planned w.bus.cluster.params r channel 0 w.interfaces
      ∙ ap (takers_by_plans w.bus.cluster.params r channel 0) (plans_are w between.world)
      ∙ ap (λ (c : Description). takers_by_plans c.params r channel 0 c.plans) between.cluster
      ∙ takers_roomless d.params r channel 0 between.room d.plans;
}

-- the words of a sending in this recorded window
abbrev pub words_in : Description → Recorded → Sending → ℕ → List (List ℕ)
words_in d r s node =
    decimal s.cycle ∷ optional_number (slot_of s.window s.channel) ∷ letter_of s.channel
    ∷ ended_word (end_on d r node s.channel)
    ∷ received_text d r s.channel (end_on d r node s.channel)
    ∷ []

module _ (d : Description) (w : WorldState) (like : IsLike d w) (node : ℕ) (s : Sending) (r : Recorded)
    (there : recorded_of w s ≡ Some r) where
  same_end : end_in w node s ≡ end_on d r node s.channel
  same_end = ap₂ (λ (p : Parameters) (o : Option Recorded). offer_end p o s.channel node) like.params there

  same_takers : takers_in w.bus.cluster.params w.interfaces (recorded_of w s) s.channel
      ≡ takers_by_plans d.params r s.channel 0 d.plans
  same_takers =
      ap (λ (o : Option Recorded). takers_in w.bus.cluster.params w.interfaces o s.channel) there
      ∙ like.takers r s.channel

  same_taken : (end : Option End) → taken_text w s end ≡ received_text d r s.channel end
  unfolding taken_text received_text
  same_taken end = ap (λ (ts : List Taker). takers_word (takers_by end ts)) same_takers

  pub same_words : sending_words w node s ≡ words_in d r s node
  same_words =
      ap₂
      (λ (end : Option End) (taken : List ℕ). decimal s.cycle ∷ optional_number (slot_of s.window s.channel)
      ∷ letter_of s.channel ∷ ended_word end ∷ taken ∷ [])
      same_end (ap (taken_text w s) same_end ∙ same_taken (end_on d r node s.channel))

-- ---- lines stay

module _ (d : Description) (old new : WorldState) (of_old : IsLike d old) (of_new : IsLike d new)
    (more : List Recorded) (grown : new.bus.sealed ≡ old.bus.sealed ++ more) (node : ℕ) where
  offer_kept : (o : Offered) (s : Sending) (r : Recorded) → slice_get old.bus.sealed s.window.number ≡ Some r
      → offer_lines old node o s ≡ offer_lines new node o s
  offer_kept Nothing s r there = refl
  offer_kept Null s r there = refl
  offer_kept (Data commit) s r there =
      let still : recorded_of new s ≡ Some r = ap (λ (rs : List Recorded). slice_get rs s.window.number) grown
      ∙ get-append old.bus.sealed more s.window.number r there in
      let words : sending_words old node s ≡ sending_words new node s =
      same_words d old of_old node s r there ∙ sym (same_words d new of_new node s r still) in
      ap (λ (o : Option Recorded). if_sealed o (sent_line old node commit s)) there
      ∙ ap (λ (ws : List (List ℕ)). line_text (codes "sent" ∷ decimal node ∷ decimal commit ∷ ws) ∷ []) words
      ∙ sym (ap (λ (o : Option Recorded). if_sealed o (sent_line new node commit s)) still)

  entry_kept : (before : List Entry) (e : Entry) → IsSealedIn old.bus.sealed e
      → entry_lines old node before e ≡ entry_lines new node before e
  entry_kept before (Commit task buffer payload) is = refl
  entry_kept before (Withdraw task buffer of) is = refl
  entry_kept before (Read task buffer from) is = refl
  entry_kept before (Pop task from) is = refl
  entry_kept before (Fetch window a b) is =
      let cycle : ℕ = run_cycle (before ++ Fetch window a b ∷ []) in
      ap₂ (λ (xs ys : List (List ℕ)). xs ++ ys) (offer_kept a (sending cycle window A) is.0 is.1)
      (offer_kept b (sending cycle window B) is.0 is.1)
  entry_kept before (Observe window a b) is = refl

  pub lines_kept : (before es : List Entry) → All (IsSealedIn old.bus.sealed) es
      → each_after (entry_lines old node) before es ≡ each_after (entry_lines new node) before es
  unfolding each_after
  lines_kept before [] all = refl
  lines_kept before (e ∷ es) all =
      ap₂ (λ (xs ys : List (List ℕ)). xs ++ ys)
      (entry_kept before e (All-head (IsSealedIn old.bus.sealed) e es all))
      (lines_kept (before ++ e ∷ []) es (All-tail (IsSealedIn old.bus.sealed) e es all))

sealed_still : (rs more : List Recorded) (e : Entry) → IsSealedIn rs e → IsSealedIn (rs ++ more) e
sealed_still rs more (Commit task buffer payload) is = tt
sealed_still rs more (Withdraw task buffer of) is = tt
sealed_still rs more (Read task buffer from) is = tt
sealed_still rs more (Pop task from) is = tt
sealed_still rs more (Fetch window a b) is = (is.0, get-append rs more window.number is.0 is.1)
sealed_still rs more (Observe window a b) is = tt

pub all_still : (rs more : List Recorded) (es : List Entry) → All (IsSealedIn rs) es → All (IsSealedIn (rs ++ more)) es
all_still rs more [] all = All-nil (IsSealedIn (rs ++ more))
all_still rs more (e ∷ es) all =
    All-cons (IsSealedIn (rs ++ more)) e es (sealed_still rs more e (All-head (IsSealedIn rs) e es all))
    (all_still rs more es (All-tail (IsSealedIn rs) e es all))
