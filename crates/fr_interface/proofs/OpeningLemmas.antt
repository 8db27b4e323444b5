-- The state of the windows, with one more entry.
use Rattle.std.proofs.Common.{◌≡◌, ℕ, List, [], ◌∷◌, ◌++◌, Option, Some, None, refl}
use Rattle.fr_journal.specs.Forms.{Entry}
use Rattle.fr_journal.specs.declared.entry.Entry.TheVariants.{Commit, Withdraw, Read, Pop, Fetch, Observe}
use Rattle.fr_journal.specs.declared.entry.Offered.{Offered}
use Rattle.fr_journal.specs.declared.entry.Origin.{Origin}
use Rattle.fr_journal.specs.OpenWindow.{last_number}
use Rattle.fr_journal.proofs.OpenWindowLemmas.{open_window-snoc, last_number-snoc}
use Rattle.fr_interface.specs.Known.{opening_of}
use Rattle.fr_slots.specs.History.{last_after}
use Rattle.fr_slots.specs.Windows.{Opportunity}
use Rattle.fr_status.specs.Forms.{Seen}

pub opening-none : opening_of [] ≡ record { window = None; last = None }
unfolding last_after
opening-none = refl

pub opening-commit : (xs : List Entry) (task buffer : ℕ) (payload : List ℕ)
    → opening_of (xs ++ Commit task buffer payload ∷ []) ≡ opening_of xs
opening-commit xs task buffer payload = λ i. record {
  window = open_window-snoc xs (Commit task buffer payload) i;
  last = last_number-snoc xs (Commit task buffer payload) i;
}

pub opening-withdraw : (xs : List Entry) (task buffer : ℕ) (of : Option ℕ)
    → opening_of (xs ++ Withdraw task buffer of ∷ []) ≡ opening_of xs
opening-withdraw xs task buffer of = λ i. record {
  window = open_window-snoc xs (Withdraw task buffer of) i;
  last =
      last_number-snoc xs (Withdraw task buffer of) i;
}

pub opening-read : (xs : List Entry) (task buffer : ℕ) (from : Option Origin)
    → opening_of (xs ++ Read task buffer from ∷ []) ≡ opening_of xs
opening-read xs task buffer from = λ i. record {
  window = open_window-snoc xs (Read task buffer from) i;
  last =
      last_number-snoc xs (Read task buffer from) i;
}

pub opening-pop : (xs : List Entry) (task : ℕ) (from : Option Origin)
    → opening_of (xs ++ Pop task from ∷ []) ≡ opening_of xs
opening-pop xs task from = λ i. record {
  window = open_window-snoc xs (Pop task from) i;
  last =
      last_number-snoc xs (Pop task from) i;
}

pub opening-fetch : (xs : List Entry) (window : Opportunity) (a b : Offered)
    → opening_of (xs ++ Fetch window a b ∷ []) ≡ record { window = Some window; last = Some window.number }
opening-fetch xs window a b = λ i. record {
  window = open_window-snoc xs (Fetch window a b) i;
  last =
      last_number-snoc xs (Fetch window a b) i;
}

pub opening-observe : (xs : List Entry) (window : ℕ) (a b : Seen)
    → opening_of (xs ++ Observe window a b ∷ []) ≡ record { window = None; last = last_number xs }
opening-observe xs window a b = λ i. record {
  window = open_window-snoc xs (Observe window a b) i;
  last =
      last_number-snoc xs (Observe window a b) i;
}
