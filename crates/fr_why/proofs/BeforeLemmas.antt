-- The state after the lines before the fault is the one that an audit of them gives.
use Rattle.std.proofs.Common.{◌≡◌, ℕ, List, [], ◌∷◌, ◌++◌, Some, Result, Ok, Err, inl, inr, ◌⊎◌, refl, sym, ap, ◌∙◌}
use Rattle.std.proofs.Common.{subst}
use Rattle.std.proofs.lemmas.List.Sums.{fold-append}
use Rattle.fr_interface.specs.State.{State}
use Rattle.fr_lines.specs.declared.versions.Version.{Version}
use Rattle.fr_trace.specs.declared.error.TraceError.{TraceError}
use Rattle.fr_trace.specs.declared.error.TraceError.TheVariants.{Memory}
use Rattle.fr_trace.specs.Feeds.{Begins}
use Rattle.fr_trace.specs.Stream.{Phase, magic, params, node, lines, body, finished, Progress, reading, fresh}
use Rattle.fr_trace.specs.Stream.{take_byte, take_bytes, outcome_of}
use Rattle.fr_why.specs.declared.head.Head.{Head}
use Rattle.fr_why.specs.declared.head.Head.TheVariants as head
use Rattle.fr_why.specs.Faults.{state_at}
use Rattle.fr_why.specs.Heads.{head_of, Tells}

-- `end` with its line feed
abbrev pub end_bytes : List ℕ
end_bytes = 101 ∷ 110 ∷ 100 ∷ 10 ∷ []

-- the result of an audit, in which memory may run out
abbrev pub Answers : List ℕ → Result State TraceError → Type 0
Answers text r = (r ≡ outcome_of (take_bytes fresh text)) ⊎ ((r ≡ Err Memory) × Begins fresh text)

-- it is the state after these lines, or memory ran out
abbrev pub LeavesIn : Progress → Result State TraceError → Type 0
LeavesIn s (Ok t) = Some t ≡ state_at s
LeavesIn s (Err e) = e ≡ Memory

none_left : (s : Progress) (r : Result State TraceError) → r ≡ Err Memory → LeavesIn s r
none_left s r is = subst (λ (x : Result State TraceError). LeavesIn s x) (sym is) refl

in_body : (v : Version) (p : Phase) (front : List ℕ) (r : Result State TraceError) → head.Body v ≡ head_of p
    → take_bytes fresh front ≡ reading p []
    → r ≡ outcome_of (take_bytes fresh (front ++ end_bytes)) → LeavesIn (reading p []) r
in_body v magic front r told came is = cc told
in_body v (params w) front r told came is = cc told
in_body v (node w p) front r told came is = cc told
in_body v (lines w p plan) front r told came is = cc told
in_body v (finished w s) front r told came is = cc told
in_body v (body w s) front r told came is =
    let ended : take_bytes fresh (front ++ end_bytes) ≡ reading (finished w s) [] =
    fold-append take_byte fresh front end_bytes ∙ ap (λ (t : Progress). take_bytes t end_bytes) came in
    subst (λ (x : Result State TraceError). LeavesIn (reading (body w s) []) x) (sym (is ∙ ap outcome_of ended)) refl

-- within the journal
pub body_left : (v : Version) (front : List ℕ) (h : Head) (r : Result State TraceError) → Tells front h
    → h ≡ head.Body v → Answers (front ++ end_bytes) r → LeavesIn (take_bytes fresh front) r
body_left v front h r (p, came, told) is (inl e) = subst (λ (s : Progress). LeavesIn s r) (sym came)
    (in_body v p front r (sym is ∙ told) came e)
body_left v front h r tells is (inr e) = none_left (take_bytes fresh front) r e.0

over : (p : Phase) (r : Result State TraceError) → head.Finished ≡ head_of p → r ≡ outcome_of (reading p [])
    → LeavesIn (reading p []) r
over magic r told is = cc told
over (params w) r told is = cc told
over (node w p) r told is = cc told
over (lines w p plan) r told is = cc told
over (body w s) r told is = cc told
over (finished w s) r told is = subst (λ (x : Result State TraceError). LeavesIn (reading (finished w s) []) x)
    (sym is) refl

-- after `end`
pub finished_left : (front : List ℕ) (h : Head) (r : Result State TraceError) → Tells front h → h ≡ head.Finished
    → Answers front r → LeavesIn (take_bytes fresh front) r
finished_left front h r (p, came, told) is (inl e) = subst (λ (s : Progress). LeavesIn s r) (sym came)
    (over p r (sym is ∙ told) (e ∙ ap outcome_of came))
finished_left front h r tells is (inr e) = none_left (take_bytes fresh front) r e.0
