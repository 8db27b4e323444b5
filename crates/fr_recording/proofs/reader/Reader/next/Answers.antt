use Rattle.std.proofs.Common.{◌≡◌, ℕ, Bool, List, ◌<◌, ◌+◌, ◌-◌, ◌==◌, [], length, take, drop, rules, sym, ap, ◌∙◌}
use Rattle.std.proofs.Common.{arith}
use Rattle.std.proofs.Common.{false, cond}
use Rattle.std.specs.Prelude.{Option, None, Some, is_some, option_map, option_to_list, if◌then◌else◌}
use Rattle.std.proofs.lemmas.Bool.Decides.{nat_tests}
use Rattle.std.proofs.lemmas.List.{take_rest}
use Rattle.fr_recording.specs.Records.{Record}
use Rattle.fr_recording.specs.Stream.{State, Progress, told_of, record_of}
use Rattle.fr_recording.specs.declared.phase.Head.{Head}
use Rattle.fr_recording.proofs.ReadLemmas.{next_part}
use Rattle.fr_recording.proofs.reader.Reader.next.Goals as goal

rest_is : (bytes : List ℕ) (taken count : ℕ)
    → take count (take (length bytes - taken) (drop taken bytes)) ≡ take count (drop taken bytes)
rest_is bytes taken count = ap (take count) (take_rest bytes taken)

some_taken : (a b : ℕ) (r : List Record) → 0 < b → (if a + b == 0 then [] else r) ≡ r
some_taken a b r some =
    let more : (a + b == 0) ≡ false = grind (arith, nat_tests) in
    ap (λ (t : Bool). cond t [] r) more

none_told : (s : Progress) (told : Option Head) → told ≡ s.state.told → is_some told ≡ false
    → option_to_list (told_of s) ≡ []
none_told s None is none = ap (λ (o : Option Head). option_to_list (option_map (record_of s.state) o)) (sym is)
none_told s (Some head) is none = cc none

pub returns-then-is_some-clause-state : goal.returns-then-is_some-clause-state
returns-then-is_some-clause-state c =
    let both = next_part c.args.self.now c.loop-taken.self c.step-taken.new.self c.args.bytes.now _
    c.loop-taken.taken c.step-taken.result c.loop-taken.invariant.state c.loop-taken.invariant.silent
    (rest_is c.args.bytes.now c.loop-taken.taken c.step-taken.result) c.step-taken.ensures.steps in
    both.0

pub returns-then-is_some-clause-records : goal.returns-then-is_some-clause-records
returns-then-is_some-clause-records c =
    let both = next_part c.args.self.now c.loop-taken.self c.step-taken.new.self c.args.bytes.now _
    c.loop-taken.taken c.step-taken.result c.loop-taken.invariant.state c.loop-taken.invariant.silent
    (rest_is c.args.bytes.now c.loop-taken.taken c.step-taken.result) c.step-taken.ensures.steps in
    both.1 ∙ sym (some_taken c.loop-taken.taken c.step-taken.result (option_to_list (told_of c.step-taken.new.self))
    c.step-taken.ensures.some)

pub loop-taken-preserved : goal.loop-taken-preserved
loop-taken-preserved c =
    let both = next_part c.args.self.now c.loop-taken.self c.step-taken.new.self c.args.bytes.now _
    c.loop-taken.taken c.step-taken.result c.loop-taken.invariant.state c.loop-taken.invariant.silent
    (rest_is c.args.bytes.now c.loop-taken.taken c.step-taken.result) c.step-taken.ensures.steps in
    let state_is : c.self.inside.course ≡ c.step-taken.new.self.state =
    ap (λ (p : Progress). p.state) c.self.view_is in
    let none : option_to_list (told_of c.step-taken.new.self) ≡ [] =
    none_told c.step-taken.new.self c.told.result (c.told.ensures
    ∙ ap (λ (s : State). s.told) state_is) (sym c.is_some.ensures ∙ c.if-is_some.false) in
    record {
      within = search rules;
      state = both.0;
      silent = both.1 ∙ none;
      quiet = some_taken c.loop-taken.taken c.step-taken.result (option_to_list (told_of c.step-taken.new.self))
          c.step-taken.ensures.some ∙ none;
    }

pub returns-clause-records : goal.returns-clause-records
returns-clause-records c = c.loop-taken.invariant.silent ∙ sym c.loop-taken.invariant.quiet
