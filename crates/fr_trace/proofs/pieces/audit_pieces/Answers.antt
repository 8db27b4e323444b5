use Rattle.std.proofs.Common.{◌≡◌, ◌≤◌, ℕ, List, length, Result, Ok, Err, ◌⊎◌, inl, inr, ap, sym, subst, ◌∙◌}
use Rattle.std.specs.Prelude.{IfOk, OnOk}
use Rattle.std.specs.List.{flat_map}
use Rattle.fr_interface.specs.State.{State, IsNodeInterface}
use Rattle.fr_trace.specs.Feeds.{Begins, Reads}
use Rattle.fr_trace.specs.Stream.{Progress, fresh, take_bytes, outcome_of}
use Rattle.fr_trace.specs.TraceText.{IsTraceOf}
use Rattle.fr_trace.specs.declared.error.TraceError.{TraceError}
use Rattle.fr_trace.specs.declared.error.TraceError.TheVariants.{Memory}
use Rattle.fr_trace.specs.Refusals.{HasFewLines, LineIsNamed, longest_text}
use Rattle.fr_trace.proofs.OutcomeLemmas.{accepted_text, legal_outcome}
use Rattle.fr_trace.proofs.RefusalLemmas.{outcome_named, short_text}
use Rattle.fr_trace.proofs.pieces.audit_pieces.Goals as goal

-- the answer is the text's, unless memory ran out as an interface was made
abbrev Answers : List ℕ → Result State TraceError → Type 0
Answers text r = (r ≡ outcome_of (take_bytes fresh text)) ⊎ ((r ≡ Err Memory) × Begins fresh text)

exact : (p : Progress) (text : List ℕ) (r : Result State TraceError) → Reads fresh text p → r ≡ outcome_of p
    → Answers text r
exact p text r (inl read) is = inl (is ∙ ap outcome_of read)
exact p text r (inr out) is = inr (is ∙ ap outcome_of out.0, out.1)

found : (text : List ℕ) (r : Result State TraceError) → IfOk r IsNodeInterface → Answers text r
    → IfOk r (λ s. IsTraceOf s text × IsNodeInterface s)
found text (Ok s) legal (inl e) = (accepted_text text s (cc e), legal)
found text (Ok s) legal (inr e) = cc e.0
found text (Err f) legal e = tt

only : (text : List ℕ) (r : Result State TraceError) (s : State) → IsNodeInterface s → IsTraceOf s text
    → Answers text r → (r ≡ Ok s) ⊎ (r ≡ Err Memory)
only text r s is same (inl e) = inl (e ∙ legal_outcome text s is same)
only text r s is same (inr e) = inr e.0

short : (text : List ℕ) (r : Result State TraceError) → IfOk r HasFewLines → Answers text r
    → OnOk r (length text ≤ longest_text)
short text (Ok s) few (inl e) = short_text text s (sym e) few
short text (Ok s) few (inr e) = cc e.0
short text (Err f) few e = tt

named : (text : List ℕ) (r : Result State TraceError) → Answers text r → LineIsNamed r text
named text r (inl e) = subst (λ (o : Result State TraceError). LineIsNamed o text) (sym e) (outcome_named text)
named text r (inr e) = subst (λ (o : Result State TraceError). LineIsNamed o text) (sym e.0) tt

pub returns : goal.returns
returns c =
    let text = flat_map (λ p. p.now) c.args.pieces.now in
    let result = c.lawful.result in
    let which = exact c.fed-auditor.result text result c.fed-auditor.ensures
    (c.lawful.ensures.same ∙ c.finish.ensures) in
    record {
      found = found text result c.lawful.ensures.legal which;
      only = λ s is same. only text result s is same which;
      short = short text result c.lawful.ensures.few which;
      line = named text result which;
      exact = which;
    }
