-- Each entry is the host's or the controller's.
use Rattle.std.proofs.Common.{◌≡◌, ◌+◌, Bool, true, false, not, cond, List, [], ◌∷◌, length, refl, arith}
use Rattle.std.specs.Prelude.{count_by}
use Rattle.std.proofs.lemmas.List.Sums.{sum_by-cons}
use Rattle.fr_journal.specs.Forms.{Entry}
use Rattle.fr_journal.specs.Entries.{is_host, is_slot}

kind_digit : (b : Bool) → cond b 1 0 + cond (not b) 1 0 ≡ 1
kind_digit true = refl
kind_digit false = refl

pub kinds_fill : (entries : List Entry) → count_by is_host entries + count_by is_slot entries ≡ length entries
kinds_fill [] = refl
kinds_fill (e ∷ entries) = omega (
  arith,
  kinds_fill entries,
  kind_digit (is_host e),
  sum_by-cons (λ x. cond (is_host x) 1 0) e entries,
  sum_by-cons (λ x. cond (is_slot x) 1 0) e entries,
)
