-- The open window and the last number, with one more entry.
use Rattle.std.proofs.Common.{◌≡◌, List, [], ◌∷◌, ◌++◌, ap}
use Rattle.std.specs.Option.{option_and_then, option_or}
use Rattle.fr_journal.specs.Forms.{Entry}
use Rattle.fr_journal.specs.OpenWindow.{open_window, window_mark, last_number, fetched_number}
use Rattle.fr_slots.specs.History.{last_after}
use Rattle.fr_slots.proofs.HistoryLemmas.{last_after-snoc}

pub open_window-snoc : (xs : List Entry) (e : Entry) → open_window (xs ++ e ∷ []) ≡ option_and_then (λ w. w)
    (option_or (window_mark xs e) (last_after window_mark [] xs))
open_window-snoc xs e = ap (option_and_then (λ w. w)) (last_after-snoc window_mark xs e)

pub last_number-snoc : (xs : List Entry) (e : Entry) → last_number (xs ++ e ∷ []) ≡ option_or (fetched_number xs e)
    (last_number xs)
last_number-snoc xs e = last_after-snoc fetched_number xs e
