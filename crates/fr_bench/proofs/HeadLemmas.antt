-- The head of a text, and the failure of its reader.
use Rattle.std.proofs.Common.{◌≡◌, ℕ, ◌≤◌, true, false, List, [], ◌++◌, length, Option, Some, None, Err, refl}
use Rattle.std.proofs.Common.{ap, ◌∙◌, append-nil, arith}
use Rattle.std.specs.Io.KnownBytes.{Consumes, IsAtEnd, Keeps}
use Rattle.std.specs.Prelude.{IfSome}
use Rattle.std.proofs.KnownBytes.{Consumes-kept}
use Rattle.fr_bench.proofs.VersionLemmas.{decided, open_faultless, open_short, whole_head}
use Rattle.fr_bench.specs.LongStops.{Known, LongStopsEarly}
use Rattle.fr_bench.specs.Versions.{Heads, IsHead, is_later, is_open}
use Rattle.fr_trace.specs.Audit.{StopsEarly}
use Rattle.fr_trace.specs.declared.error.TraceError.TheVariants.{Read}

-- ---- the end of the text

pub head_ended : (old mid new : Option (List ℕ)) (head : List ℕ) → Consumes old mid head → is_open head ≡ true
    → Consumes mid new [] → IsAtEnd new → IsHead old new head
head_ended old mid new head come opened none end =
    (came old mid new come none, omega (arith, open_short head opened), version old mid new come none end)
  where
    came : (o m n : Option (List ℕ)) → Consumes o m head → Consumes m n [] → Consumes o n head
    came None m n come none = tt
    came (Some text) None n come none = absurd come
    came (Some text) (Some rest) None come none = absurd none
    came (Some text) (Some rest) (Some left) come none = come ∙ ap (λ (r : List ℕ). head ++ r) none

    version : (o m n : Option (List ℕ)) → Consumes o m head → Consumes m n [] → IsAtEnd n
        → IfSome o (λ t. is_later t ≡ is_later head)
    version None m n come none end = tt
    version (Some text) None n come none end = absurd come
    version (Some text) (Some rest) None come none end = absurd none
    version (Some text) (Some rest) (Some left) come none end =
        whole_head text head (come ∙ ap (λ (r : List ℕ). head ++ r) (none ∙ end) ∙ append-nil head)

-- ---- a head that isn't open

pub head_shut : (old new : Option (List ℕ)) (head : List ℕ) → Consumes old new head → is_open head ≡ false
    → length head ≤ 4096 → IsHead old new head
head_shut old new head come shut short = (come, short, version old new come)
  where
    version : (o n : Option (List ℕ)) → Consumes o n head → IfSome o (λ t. is_later t ≡ is_later head)
    version None n come = tt
    version (Some text) None come = absurd come
    version (Some text) (Some rest) come = decided text head rest come shut

-- ---- a failure of the reader

pub head_failed : (old mid new : Option (List ℕ)) (head : List ℕ) → Consumes old mid head → is_open head ≡ true
    → Keeps mid new → Heads old new (Err Read)
head_failed old mid new head come opened kept =
    let here = Consumes-kept old mid new head come kept in
    (refl, earlier old new here, later old new here)
  where
    earlier : (o n : Option (List ℕ)) → Consumes o n head → Known o n StopsEarly
    earlier None n come = tt
    earlier (Some text) None come = absurd come
    earlier (Some text) (Some rest) come = (head, come, (open_faultless head opened).0)

    later : (o n : Option (List ℕ)) → Consumes o n head → Known o n LongStopsEarly
    later None n come = tt
    later (Some text) None come = absurd come
    later (Some text) (Some rest) come = (head, come, (open_faultless head opened).1)
