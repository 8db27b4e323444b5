-- The text of a line, and the windows of a journal.
use Rattle.std.proofs.Common.{◌≡◌, ℕ, ◌+◌, ◌<◌, ◌==◌, false, List, [], ◌∷◌, ◌++◌, length, take, get_or, Option, min}
use Rattle.std.proofs.Common.{sym, ap, ◌∙◌, cond}
use Rattle.std.proofs.lemmas.List.{take_min, take_more, get_or_default}
use Rattle.std.proofs.lemmas.List.Sums.{fold-append}
use Rattle.std.specs.Io.KnownBytes.{Appends}
use Rattle.std.specs.List.{flat_map}
use Rattle.fr_journal.specs.Forms.{Entry}
use Rattle.fr_trace.proofs.WritingLemmas.{written-more}
use Rattle.fr_why.specs.Faults.{is_fetch, window_count}
use Rattle.fr_why.specs.WhyText.{byte_text, after_space}

pub spaced : (line : List ℕ) (fits : ℕ) → (length line == 0) ≡ false → fits ≡ min 1200 (length line)
    → 32 ∷ flat_map byte_text (take fits line) ≡ after_space line
spaced [] fits some is = cc some
spaced (b ∷ bytes) fits some is =
    ap (λ (n : ℕ). 32 ∷ flat_map byte_text (take n (b ∷ bytes))) is ∙ ap (λ (t : List ℕ). 32 ∷ flat_map byte_text t)
    (take_min 1200 (b ∷ bytes))

-- one byte more
pub bytes_more : (bytes : List ℕ) (i : ℕ) (old mid new : Option (List ℕ)) → i < length bytes
    → Appends old mid (flat_map byte_text (take i bytes)) → Appends mid new (byte_text (get_or bytes i 0))
    → Appends old new (flat_map byte_text (take (i + 1) bytes))
bytes_more bytes i old mid new lt before one = written-more byte_text bytes i (get_or bytes i 0) old mid new lt
    (get_or_default bytes i 0 (get_or bytes i 0) lt) before one

-- one entry more
pub windows_more : (entries : List Entry) (i : ℕ) (e : Entry) → i < length entries → e ≡ get_or entries i e
    → window_count (take (i + 1) entries) ≡ window_count (take i entries) + cond (is_fetch e) 1 0
windows_more entries i e lt is =
    ap window_count (take_more entries i e lt ∙ ap (λ (x : Entry). take i entries ++ x ∷ []) (sym is))
    ∙ fold-append (λ (a : ℕ) (x : Entry). a + cond (is_fetch x) 1 0) 0 (take i entries) (e ∷ [])
