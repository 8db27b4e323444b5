-- The content of a receive FIFO, with one more move.
use Rattle.std.proofs.Common.{◌≡◌, ℕ, zero, suc, ◌+◌, ◌-◌, ◌≤◌, List, [], ◌∷◌, ◌++◌, drop, length, sym, ap}
use Rattle.std.proofs.Common.{◌∙◌, arith, length-append, append-nil, length-drop, drop-drop}
use Rattle.std.specs.Prelude.{min}
use Rattle.std.specs.List.{fold}
use Rattle.std.proofs.lemmas.List.{drop-append-le, drop_all}
use Rattle.std.proofs.lemmas.List.Sums.{fold-append}
use Rattle.fr_journal.specs.Arrivals.{Move, arrives, pops, arrived, length_after, queue_length, queue_content}
use Rattle.fr_journal.specs.declared.entry.Arrival.{Arrival}
use Rattle.fr_journal.proofs.MoveLemmas.{arrived-append}

-- the last n elements of a list
abbrev last_of : ℕ → List Arrival → List Arrival
last_of n xs = drop (length xs - n) xs

module _ (capacity : ℕ) where
  -- a receive FIFO grows by no more frames than arrive
  pub length_from : (n bound : ℕ) (ms : List Move) → n ≤ bound
      → fold (length_after capacity) n ms ≤ bound + length (arrived ms)
  length_from n bound [] le = omega (arith, le)
  length_from n bound (arrives a ∷ ms) le = omega (
    arith,
    length_from (min (n + 1) capacity) (bound + 1) ms
        (omega (arith, le)),
  )
  length_from n bound (pops ∷ ms) le = length_from (n - 1) bound ms (omega (arith, le))

  within : (n : ℕ) (ms : List Move) → n ≤ capacity → fold (length_after capacity) n ms ≤ capacity
  within n [] le = le
  within n (arrives a ∷ ms) le = within (min (n + 1) capacity) ms (omega arith)
  within n (pops ∷ ms) le = within (n - 1) ms (omega (arith, le))

  pub queue_length-capacity : (ms : List Move) → queue_length capacity ms ≤ capacity
  queue_length-capacity ms = within 0 ms (omega arith)

  -- a receive FIFO holds no more frames than arrived
  pub queue_length-arrived : (ms : List Move) → queue_length capacity ms ≤ length (arrived ms)
  queue_length-arrived ms = omega (arith, length_from 0 0 ms (omega arith))

  pub content-arrives : (ms : List Move) (a : Arrival)
      → queue_content capacity (ms ++ arrives a ∷ []) ≡ last_of capacity (queue_content capacity ms ++ a ∷ [])
  content-arrives ms a =
      let all : List Arrival = arrived ms in
      let long : ℕ = queue_length capacity ms in
      let within : long ≤ length all = queue_length-arrived ms in
      let joined : arrived (ms ++ arrives a ∷ []) ≡ all ++ a ∷ [] = arrived-append ms (arrives a ∷ []) in
      let longer : queue_length capacity (ms ++ arrives a ∷ []) ≡ min (long + 1) capacity =
      fold-append (length_after capacity) 0 ms (arrives a ∷ []) in
      let kept : queue_content capacity ms ++ a ∷ [] ≡ drop (length all - long) (all ++ a ∷ []) =
      sym (drop-append-le (length all - long) all (a ∷ []) (omega arith)) in
      let many : length (all ++ a ∷ []) ≡ length all + 1 = length-append all (a ∷ []) in
      let left : length (drop (length all - long) (all ++ a ∷ [])) ≡ long + 1 =
      omega (arith, length-drop (length all - long) (all ++ a ∷ []), many, within) in
      ap (λ (l : List Arrival). drop (length l - queue_length capacity (ms ++ arrives a ∷ [])) l) joined
      ∙ ap (λ (n : ℕ). drop n (all ++ a ∷ [])) (omega (arith, longer, many, within, left))
      ∙ sym (drop-drop (length (drop (length all - long) (all ++ a ∷ [])) - capacity) (length all - long)
      (all ++ a ∷ []))
      ∙ ap (last_of capacity) (sym kept)

  none_left : (long : ℕ) (all : List Arrival) → long ≤ length all
      → drop (length all - (long - 1)) all ≡ drop 1 (drop (length all - long) all)
  none_left zero all within =
      drop_all (length all - (0 - 1)) all (omega arith)
      ∙ sym (drop-drop 1 (length all - 0) all ∙ drop_all ((length all - 0) + 1) all (omega arith))
  none_left (suc long) all within = ap (λ (n : ℕ). drop n all) (omega (arith, within)) ∙ sym
      (drop-drop 1 (length all - suc long) all)

  pub content-pops : (ms : List Move) → queue_content capacity (ms ++ pops ∷ []) ≡ drop 1 (queue_content capacity ms)
  content-pops ms =
      let joined : arrived (ms ++ pops ∷ []) ≡ arrived ms = arrived-append ms (pops ∷ []) ∙ append-nil (arrived ms) in
      let shorter : queue_length capacity (ms ++ pops ∷ []) ≡ queue_length capacity ms - 1 =
      fold-append (length_after capacity) 0 ms (pops ∷ []) in
      ap (λ (l : List Arrival). drop (length l - queue_length capacity (ms ++ pops ∷ [])) l) joined
      ∙ ap (λ (n : ℕ). drop (length (arrived ms) - n) (arrived ms)) shorter
      ∙ none_left (queue_length capacity ms) (arrived ms) (queue_length-arrived ms)

  -- the content has as many frames as the length says
  pub length-content : (ms : List Move) → length (queue_content capacity ms) ≡ queue_length capacity ms
  length-content ms = omega (
    arith,
    length-drop (length (arrived ms) - queue_length capacity ms) (arrived ms),
    queue_length-arrived ms,
  )
