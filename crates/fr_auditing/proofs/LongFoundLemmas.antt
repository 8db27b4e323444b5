-- An accepted text of version 4 is the text of its interface.
use Rattle.std.proofs.Common.{◌≡◌, ℕ, ◌≤◌, ◌==◌, true, List, [], ◌∷◌, ◌++◌, length, get_or, Option, Some}
use Rattle.std.proofs.Common.{None, Ok, Err, inl, inr, refl, sym, ap, subst, ◌∙◌, append_assoc, arith, append-nil}
use Rattle.std.proofs.lemmas.Bool.{cases_Bool, eqb-true}
use Rattle.std.proofs.lemmas.List.Sums.{fold-append}
use Rattle.std.specs.Prelude.{ℤ, IfErr, IfOk, Result}
use Rattle.std.specs.Str.{bytes_eq}
use Rattle.std.proofs.lemmas.Slice.Eq.{bytes_eq-Decides}
use Rattle.fr_auditing.proofs.LongAgainLemmas.{head_changed, legal_accepted}
use Rattle.fr_auditing.proofs.LongNodeLemmas.{long_node_taken, long_line_taken}
use Rattle.fr_auditing.proofs.StreamLemmas.{late_byte, next_byte_late, IsLate}
use Rattle.fr_auditing.specs.LongReading.{long_node_in}
use Rattle.fr_auditing.specs.LongStream.{long_line, long_byte, long_bytes}
use Rattle.fr_auditing.specs.LongText.{long_first_line, long_head_text, long_params_text, long_numbers_text, long_text}
use Rattle.fr_auditing.specs.Tracking.{IsLongText}
use Rattle.fr_interface.specs.State.{State, IsLegalInterface}
use Rattle.fr_lines.proofs.ParameterLemmas.{params_line_takes}
use Rattle.fr_lines.specs.declared.versions.Version.{Version}
use Rattle.fr_lines.specs.declared.versions.Version.TheVariants.{One, Two, Three}
use Rattle.fr_lines.specs.Reading.{params_in}
use Rattle.fr_lines.specs.Spelled.{bare_plan}
use Rattle.fr_lines.specs.Spelling.{line_feed}
use Rattle.fr_slots.specs.declared.params.RangeError.{RangeError}
use Rattle.fr_slots.specs.Parameters.{Parameters, parameters_of}
use Rattle.fr_slots.specs.Plans.{Plan}
use Rattle.fr_text.specs.Spaces.{words_of}
use Rattle.fr_trace.proofs.TextLemmas.{bare_text, bytes_spelled, Spelled}
use Rattle.fr_trace.specs.declared.error.TraceError.{TraceError}
use Rattle.fr_trace.specs.Stream.{Phase, Progress, magic, params, node, lines, body, finished, reading, failed}
use Rattle.fr_trace.specs.Stream.{after_numbers, after_parameters, after_node, after_line, take_byte, take_bytes, fresh}
use Rattle.fr_trace.specs.Stream.{longest_line, line_number, outcome_of}
use Rattle.fr_trace.specs.TraceText.{numbers_text, plan_text, trace_text}

-- the lines up to `node`, and bytes that lead from there to the state as in version 3
abbrev Behind : Progress → List ℕ → Type 0
Behind s text = (p : Parameters) × (plan : Plan) × (rest : List ℕ) × (plan ≡ bare_plan plan)
    × (text ≡ long_numbers_text p plan ++ rest) × (take_bytes (reading (lines Three p plan) []) rest ≡ s)

-- the bytes so far spell the phase
abbrev Begun : Progress → List ℕ → Type 0
Begun (failed e) text = Unit {0}
Begun (reading magic line) text = text ≡ line
Begun (reading (params v) line) text = (v ≡ Three) × (text ≡ long_head_text ++ line)
Begun (reading (node v p) line) text = (v ≡ Three) × (text ≡ long_params_text p ++ line)
Begun (reading q line) text = Behind (reading q line) text

-- ---- the first three lines

magic_ends : (line text : List ℕ) → text ≡ line → Begun (after_line (long_line magic line)) (text ++ line_feed)
magic_ends line text is = elim (cases_Bool (bytes_eq line long_first_line)) [
  | inl same ↦
      let first : line ≡ long_first_line = (bytes_eq-Decides line long_first_line).0 same in
      rw same (refl, ap (λ (t : List ℕ). t ++ line_feed) (is ∙ first))
  | inr other ↦ rw other tt
]

parameters_end : (v : Version) (line text : List ℕ) (numbers : List ℤ) (r : Result Parameters RangeError) → v ≡ Three
    → text ≡ long_head_text ++ line → params_in (words_of line) ≡ Some numbers → parameters_of numbers ≡ r
    → Begun (after_line (after_parameters v r)) (text ++ line_feed)
parameters_end v line text numbers (Err e) three is read made = tt
parameters_end v line text numbers (Ok p) three is read made =
    let front : text ++ line_feed ≡ long_params_text p =
    ap (λ (t : List ℕ). t ++ line_feed) is ∙ append_assoc long_head_text line line_feed
    ∙ ap (λ (t : List ℕ). long_head_text ++ (t ++ line_feed)) (params_line_takes line numbers p read made) in
    (three, front ∙ sym (append-nil (long_params_text p)))

numbers_end : (v : Version) (line text : List ℕ) (o : Option (List ℤ)) → v ≡ Three → text ≡ long_head_text ++ line
    → params_in (words_of line) ≡ o → Begun (after_line (after_numbers v o)) (text ++ line_feed)
numbers_end v line text None three is read = tt
numbers_end v line text (Some numbers) three is read =
    parameters_end v line text numbers (parameters_of numbers) three is read refl

node_ends : (v : Version) (p : Parameters) (line text : List ℕ) (o : Option Plan) → v ≡ Three
    → text ≡ long_params_text p ++ line → long_node_in (words_of line) ≡ o
    → Begun (after_line (after_node v p o)) (text ++ line_feed)
node_ends v p line text None three is read = tt
node_ends v p line text (Some plan) three is read =
    let front : text ++ line_feed ≡ long_numbers_text p plan =
    ap (λ (t : List ℕ). t ++ line_feed) is ∙ append_assoc (long_params_text p) line line_feed
    ∙ ap (λ (t : List ℕ). long_params_text p ++ (t ++ line_feed)) (long_line_taken line plan read) in (
      p,
      plan,
      [],
      (long_node_taken (words_of line) plan read).1,
      front ∙ sym (append-nil (long_numbers_text p plan)),
      ap (λ (w : Version). reading (lines w p plan) []) (sym three),
    )

-- ---- bytes

at_feed : (s : Progress) (text : List ℕ) (b : ℕ) → (b == 10) ≡ true → Begun s (text ++ line_feed)
    → Begun s (text ++ b ∷ [])
at_feed s text b feed begun = subst (λ (x : ℕ). Begun s (text ++ x ∷ [])) (sym (eqb-true b 10 feed)) begun

magic_byte : (line text : List ℕ) (b : ℕ) → text ≡ line → Begun (long_byte (reading magic line) b) (text ++ b ∷ [])
magic_byte line text b is = elim (cases_Bool (b == 10)) [
  | inl feed ↦ rw feed (at_feed (after_line (long_line magic line)) text b feed (magic_ends line text is))
  | inr other ↦ rw other (elim (cases_Bool (length line == longest_line)) [
    | inl full ↦ rw full tt
    | inr room ↦ rw room (ap (λ (t : List ℕ). t ++ b ∷ []) is)
  ])
]

params_byte : (v : Version) (line text : List ℕ) (b : ℕ) → v ≡ Three → text ≡ long_head_text ++ line
    → Begun (long_byte (reading (params v) line) b) (text ++ b ∷ [])
params_byte v line text b three is = elim (cases_Bool (b == 10)) [
  | inl feed ↦ rw feed (at_feed (after_line (long_line (params v) line)) text b feed
      (numbers_end v line text (params_in (words_of line)) three is refl))
  | inr other ↦ rw other (elim (cases_Bool (length line == longest_line)) [
    | inl full ↦ rw full tt
    | inr room ↦ rw room (
      three,
      ap (λ (t : List ℕ). t ++ b ∷ []) is ∙ append_assoc long_head_text line (b ∷ []),
    )
  ])
]

node_byte : (v : Version) (p : Parameters) (line text : List ℕ) (b : ℕ) → v ≡ Three → text ≡ long_params_text p ++ line
    → Begun (long_byte (reading (node v p) line) b) (text ++ b ∷ [])
node_byte v p line text b three is = elim (cases_Bool (b == 10)) [
  | inl feed ↦ rw feed (at_feed (after_line (long_line (node v p) line)) text b feed
      (node_ends v p line text (long_node_in (words_of line)) three is refl))
  | inr other ↦ rw other (elim (cases_Bool (length line == longest_line)) [
    | inl full ↦ rw full tt
    | inr room ↦ rw room (
      three,
      ap (λ (t : List ℕ). t ++ b ∷ []) is ∙ append_assoc (long_params_text p) line (b ∷ []),
    )
  ])
]

behind_begun : (s : Progress) (text : List ℕ) → IsLate s → Behind s text → Begun s text
behind_begun (failed e) text late behind = tt
behind_begun (reading magic line) text late behind = absurd (let none : ⊥ = omega (arith, late) in none)
behind_begun (reading (params v) line) text late behind = absurd (let none : ⊥ = omega (arith, late) in none)
behind_begun (reading (node v p) line) text late behind = absurd (let none : ⊥ = omega (arith, late) in none)
behind_begun (reading (lines v p plan) line) text late behind = behind
behind_begun (reading (body v s) line) text late behind = behind
behind_begun (reading (finished v s) line) text late behind = behind

late_begun : (q : Phase) (line text : List ℕ) (b : ℕ) → 4 ≤ line_number q → Behind (reading q line) text
    → Begun (long_byte (reading q line) b) (text ++ b ∷ [])
late_begun q line text b late behind =
    let (p, plan, rest, bare, same, read) = behind in
    let more : Behind (take_byte (reading q line) b) (text ++ b ∷ []) = (
      p,
      plan,
      rest ++ b ∷ [],
      bare,
      ap (λ (t : List ℕ). t ++ b ∷ []) same ∙ append_assoc (long_numbers_text p plan) rest (b ∷ []),
      fold-append take_byte (reading (lines Three p plan) []) rest (b ∷ []) ∙ ap (λ s. take_byte s b) read,
    ) in
    subst (λ s. Begun s (text ++ b ∷ [])) (sym (late_byte q line b late))
    (behind_begun (take_byte (reading q line) b) (text ++ b ∷ []) (next_byte_late q line b late) more)

byte_begun : (s : Progress) (text : List ℕ) (b : ℕ) → Begun s text → Begun (long_byte s b) (text ++ b ∷ [])
byte_begun (failed e) text b begun = tt
byte_begun (reading magic line) text b begun = magic_byte line text b begun
byte_begun (reading (params v) line) text b begun = params_byte v line text b begun.0 begun.1
byte_begun (reading (node v p) line) text b begun = node_byte v p line text b begun.0 begun.1
byte_begun (reading (lines v p plan) line) text b begun = late_begun (lines v p plan) line text b (omega arith) begun
byte_begun (reading (body v s) line) text b begun = late_begun (body v s) line text b (omega arith) begun
byte_begun (reading (finished v s) line) text b begun = late_begun (finished v s) line text b (omega arith) begun

bytes_begun : (bytes : List ℕ) (s : Progress) (text : List ℕ) → Begun s text
    → Begun (long_bytes s bytes) (text ++ bytes)
bytes_begun [] s text begun = subst (λ (t : List ℕ). Begun s t) (sym (append-nil text)) begun
bytes_begun (b ∷ bytes) s text begun =
    subst (λ (t : List ℕ). Begun (long_bytes (long_byte s b) bytes) t) (append_assoc text (b ∷ []) bytes)
    (bytes_begun bytes (long_byte s b) (text ++ b ∷ []) (byte_begun s text b begun))

-- ---- the end of a text

-- the text of version 3 that begins like this has version 3
version_is : (v : Version) (t : State) (p : Parameters) (plan : Plan) (rest : List ℕ)
    → numbers_text Three p plan ++ rest ≡ trace_text v t → v ≡ Three
version_is One t p plan rest same =
    let differ : 51 ≡ 49 = ap (λ (l : List ℕ). get_or l 8 0) same in
    absurd (let none : ⊥ = omega (arith, differ) in none)
version_is Two t p plan rest same =
    let differ : 51 ≡ 50 = ap (λ (l : List ℕ). get_or l 8 0) same in
    absurd (let none : ⊥ = omega (arith, differ) in none)
version_is Three t p plan rest same = refl

found_behind : (v : Version) (t : State) (line text : List ℕ) → Behind (reading (finished v t) line) text
    → text ≡ long_text t
found_behind v t line text behind =
    let (p, plan, rest, bare, same, read) = behind in
    let numbers : plan_text Three p plan ≡ numbers_text Three p plan =
    ap (plan_text Three p) bare ∙ bare_text Three p (bare_plan plan) refl refl refl in
    let start : Spelled (reading (lines Three p plan) []) (plan_text Three p plan) =
    (sym (append-nil (plan_text Three p plan)), tt) in
    let spelled : Spelled (reading (finished v t) line) (plan_text Three p plan ++ rest) =
    subst (λ s. Spelled s (plan_text Three p plan ++ rest)) read
    (bytes_spelled rest (reading (lines Three p plan) []) (plan_text Three p plan) start) in
    let whole : numbers_text Three p plan ++ rest ≡ trace_text v t =
    ap (λ (x : List ℕ). x ++ rest) (sym numbers) ∙ spelled.0 ∙ ap (λ (x : List ℕ). trace_text v t ++ x) spelled.1
    ∙ append-nil (trace_text v t) in
    let three : v ≡ Three = version_is v t p plan rest whole in
    same ∙ sym (head_changed t p plan rest (ap (λ (w : Version). trace_text w t) (sym three) ∙ sym whole))

found_in : (s : Progress) (text : List ℕ) (t : State) → Begun s text → outcome_of s ≡ Ok t → text ≡ long_text t
found_in (failed e) text t begun is = cc is
found_in (reading magic line) text t begun is = cc is
found_in (reading (params v) line) text t begun is = cc is
found_in (reading (node v p) line) text t begun is = cc is
found_in (reading (lines v p plan) line) text t begun is = cc is
found_in (reading (body v s) line) text t begun is = cc is
found_in (reading (finished v s) line) text t begun is =
    let same : s ≡ t = cc is in found_behind v s line text begun ∙ ap long_text same

-- an accepted text is the text of that interface
pub accepted_long : (text : List ℕ) (t : State) → outcome_of (long_bytes fresh text) ≡ Ok t → text ≡ long_text t
accepted_long text t is = found_in (long_bytes fresh text) text t (bytes_begun text fresh [] refl) is

-- ---- the interface that a text leaves

pub outcome_found : (r : Result State TraceError) (text : List ℕ) → r ≡ outcome_of (long_bytes fresh text)
    → IfOk r IsLegalInterface → IfOk r (λ s. IsLongText s text)
outcome_found (Ok t) text is legal = (accepted_long text t (sym is), legal)
outcome_found (Err e) text is legal = tt

pub outcome_only : (r : Result State TraceError) (s : State) → IsLegalInterface s
    → r ≡ outcome_of (long_bytes fresh (long_text s)) → IfErr r (λ e. ⊥)
outcome_only (Ok t) s legal is = tt
outcome_only (Err e) s legal is = cc (is ∙ legal_accepted s legal)
