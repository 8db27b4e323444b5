-- The lines of a node's commits, as they are written of its journal.
use Rattle.std.proofs.Common.{◌≡◌, ℕ, ◌+◌, ◌<◌, true, false, Some, None, List, [], ◌∷◌, ◌++◌, length, get_or, Option}
use Rattle.std.proofs.Common.{refl, sym, ap, subst, ◌∙◌}
use Rattle.std.specs.Io.KnownBytes.{Appends}
use Rattle.std.specs.List.{flat_map, range_with_len}
use Rattle.std.proofs.lemmas.Option.{get_or_from_slice_get, slice_get_read}
use Rattle.fr_core.specs.Worlds.{WorldState, interface_at, no_interface}
use Rattle.fr_interface.specs.State.{State}
use Rattle.fr_journal.specs.Forms.{Entry}
use Rattle.fr_journal.specs.declared.entry.Entry.TheVariants.{Commit, Withdraw, Read, Pop, Fetch, Observe}
use Rattle.fr_showing.proofs.GoingLemmas.{one_list_more}
use Rattle.fr_showing.specs.CommitSteps.{is_takeable, node_text}
use Rattle.fr_showing.specs.CommitText.{commit_by, commit_line, commits_in, entries_at, line_in, takers_by}
use Rattle.fr_showing.specs.declared.ends.End.{End}
use Rattle.fr_showing.specs.declared.ends.End.TheVariants.{Alone, Turned, Overrun, Collided, Muted, Blocked}
use Rattle.fr_capture.specs.declared.takers.Taker.{Taker}
use Rattle.fr_journal.specs.Cycles.{cycles_of}
use Rattle.fr_slots.specs.History.{each_after}

module _ (w : WorldState) (node : ℕ) where
  same_lines : (before es : List Entry) → flat_map (line_in w (entries_at w node))
      (each_after (commit_by node) before es) ≡ flat_map (commit_line w) (each_after (commit_by node) before es)
  unfolding each_after
  same_lines before [] = refl
  same_lines before (Commit task buffer payload ∷ es) =
      ap (λ (t : List ℕ). line_in w (entries_at w node)
      (record {
        node = node;
        buffer = buffer;
        task = task;
        cycle = cycles_of before;
        entry = length before;
        payload = payload;
      }) ++ t)
      (same_lines (before ++ Commit task buffer payload ∷ []) es)
  same_lines before (Withdraw task buffer of ∷ es) = same_lines (before ++ Withdraw task buffer of ∷ []) es
  same_lines before (Read task buffer from ∷ es) = same_lines (before ++ Read task buffer from ∷ []) es
  same_lines before (Pop task from ∷ es) = same_lines (before ++ Pop task from ∷ []) es
  same_lines before (Fetch window a b ∷ es) = same_lines (before ++ Fetch window a b ∷ []) es
  same_lines before (Observe window a b ∷ es) = same_lines (before ++ Observe window a b ∷ []) es

  interface_is : (s : State) → node < length w.interfaces → s ≡ get_or w.interfaces node s → interface_at w node ≡ s
  interface_is s lt is = get_or_from_slice_get w.interfaces node s no_interface
      (slice_get_read w.interfaces (length w.interfaces) node s refl lt is)

  pub node_is : (s : State) → node < length w.interfaces → s ≡ get_or w.interfaces node s
      → node_text w node s.entries ≡ flat_map (commit_line w) (commits_in w node)
  node_is s lt is = ap (λ (t : State). node_text w node t.entries) (sym (interface_is s lt is)) ∙ same_lines []
      (entries_at w node)

  -- the lines of one node more
  pub node_more : (s : State) (interfaces : List State) (old now mid : Option (List ℕ)) → interfaces ≡ w.interfaces
      → node < length interfaces → s ≡ get_or interfaces node s
      → Appends old now (flat_map (commit_line w) (flat_map (commits_in w) (range_with_len 0 node)))
      → Appends now mid (node_text w node s.entries)
      → Appends old mid (flat_map (commit_line w) (flat_map (commits_in w) (range_with_len 0 (node + 1))))
  node_more s interfaces old now mid same lt is before one =
      one_list_more (commit_line w) (commits_in w) node old now mid before
      (subst (λ (t : List ℕ). Appends now mid t)
      (node_is s (subst (λ (l : List State). node < length l) same lt)
      (subst (λ (l : List State). s ≡ get_or l node s) same is)) one)

-- ---- the receivers

pub takeable : (end : Option End) (ts : List Taker) → is_takeable end ≡ true → ts ≡ takers_by end ts
takeable None ts is = absurd cc
takeable (Some Alone) ts is = refl
takeable (Some Turned) ts is = refl
takeable (Some Overrun) ts is = absurd cc
takeable (Some Collided) ts is = absurd cc
takeable (Some Muted) ts is = absurd cc
takeable (Some Blocked) ts is = absurd cc

pub not_takeable : (end : Option End) (ts : List Taker) → is_takeable end ≡ false → [] ≡ takers_by end ts
not_takeable None ts is = refl
not_takeable (Some Alone) ts is = absurd cc
not_takeable (Some Turned) ts is = absurd cc
not_takeable (Some Overrun) ts is = refl
not_takeable (Some Collided) ts is = refl
not_takeable (Some Muted) ts is = refl
not_takeable (Some Blocked) ts is = refl
