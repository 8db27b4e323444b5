-- All definitions of a cycle of the run name the same one.
use Rattle.std.proofs.Common.{◌≡◌, ℕ, suc, ◌+◌, ◌-◌, ◌%◌, Bool, true, false, cond, List, [], ◌∷◌, ◌++◌, length, take}
use Rattle.std.proofs.Common.{refl, sym, ap, ◌∙◌, arith, count_by, append_assoc, drop, subst, Option}
use Rattle.std.proofs.Math.Seq.{take-append_seam, take-append-add}
use Rattle.std.proofs.lemmas.Grind.{flat_map-append}
use Rattle.std.proofs.lemmas.List.{take-map, take-append-drop}
use Rattle.std.proofs.lemmas.List.Sums.{sum_by-cons, sum_by-append}
use Rattle.std.specs.List.{flat_map}
use Rattle.std.specs.Prelude.{option_to_list, IfSome, slice_get}
use Rattle.fr_bus.specs.Record.{Recorded}
use Rattle.fr_bus.specs.Windows.{begins_cycle, cycles_begun}
use Rattle.fr_concord.specs.Cycles.{AreWindowCycles, AreSentCycles, AreCallCycles, AreLineCycles}
use Rattle.fr_core.specs.declared.script.Line.{Line}
use Rattle.fr_core.specs.Scripts.{Scripted}
use Rattle.fr_core.specs.Settling.{fetched_window, fetches_at, windows_fetched, windows_of, HasWindows, IfThere}
use Rattle.fr_interface.specs.State.{State}
use Rattle.fr_journal.specs.Cycles.{begins_cycle_at, cycles_of}
use Rattle.fr_journal.specs.declared.entry.Entry.TheVariants.{Commit, Withdraw, Read, Pop, Fetch, Observe}
use Rattle.fr_journal.specs.Forms.{Entry}
use Rattle.fr_runs.specs.Stepping.{is_fetch, is_by, lines_given, IsInStep, IsInTurn, IsStepped}
use Rattle.fr_slots.specs.History.{each_after}
use Rattle.fr_slots.specs.Windows.{opens_cycle, Opportunity, run_cycle as run_cycle_by}

-- ---- counts

abbrev one_if : Bool → ℕ
one_if b = cond b 1 0

count_cons : {A : Type 0} (p : A → Bool) (x : A) (xs : List A) → count_by p (x ∷ xs) ≡ one_if (p x) + count_by p xs
count_cons p x xs = sum_by-cons (λ y. one_if (p y)) x xs

count_last : {A : Type 0} (p : A → Bool) (xs : List A) (x : A)
    → count_by p (xs ++ x ∷ []) ≡ count_by p xs + one_if (p x)
count_last p xs x =
    let both = sum_by-append (λ y. one_if (p y)) xs (x ∷ []) in
    let one = count_cons p x [] in
    let none : one_if (p x) + 0 ≡ one_if (p x) = omega arith in
    both ∙ ap (λ (n : ℕ). count_by p xs + n) (one ∙ none)

-- ---- a window of the record

up_to : (before : List Recorded) (r : Recorded) (after : List Recorded)
    → take (length before + 1) (before ++ r ∷ after) ≡ before ++ r ∷ []
up_to before r after = take-append-add before (r ∷ after) 1

moved : (b : Bool) (n : ℕ) → cond b n (n - 1) ≡ (n + one_if b) - 1
moved true n = omega arith
moved false n = omega arith

pub window_cycles : AreWindowCycles
window_cycles before r after =
    let whole = ap (λ (l : List Recorded). cycles_begun l - 1) (up_to before r after) in
    let last = ap (λ (n : ℕ). n - 1) (count_last begins_cycle before r) in
    let back = sym last ∙ sym whole in
    record {
      of_faults = refl;
      of_row = sym whole;
      of_strikes = moved (opens_cycle r.window) (cycles_begun before) ∙ back;
      of_time = moved (opens_cycle r.window) (cycles_begun before) ∙ back;
      of_sealed_time = sym whole;
      of_delays = λ w same.
          ap (λ (l : List Recorded). run_cycle_by (cycles_begun l) r.window) same
          ∙ moved (opens_cycle r.window) (cycles_begun before) ∙ back;
      of_number = ap (λ (n : ℕ). n % 64) (sym whole);
    }

-- ---- the windows of a journal

abbrev window_in : Entry → List Opportunity
window_in e = option_to_list (fetched_window e)

abbrev windows_in : List Entry → List Opportunity
windows_in entries = flat_map window_in entries

fetched_are : (before entries : List Entry) → each_after fetches_at before entries ≡ windows_in entries
unfolding each_after
fetched_are before [] = refl
fetched_are before (e ∷ entries) =
    ap (λ (l : List Opportunity). window_in e ++ l) (fetched_are (before ++ e ∷ []) entries)

-- an entry that is no fetch adds nothing to a count
skip : (p : Entry → Bool) (e : Entry) (entries : List Entry) (n : ℕ) → p e ≡ false → count_by p entries ≡ n
    → count_by p (e ∷ entries) ≡ n
skip p e entries n other rest =
    let none : 0 + n ≡ n = omega arith in
    count_cons p e entries ∙ ap (λ (b : Bool). one_if b + count_by p entries) other
    ∙ ap (λ (m : ℕ). 0 + m) rest ∙ none

begun_are : (entries : List Entry) → count_by begins_cycle_at entries ≡ count_by opens_cycle (windows_in entries)
begun_are [] = refl
begun_are (Commit task buffer payload ∷ entries) = skip begins_cycle_at (Commit task buffer payload) entries
    (count_by opens_cycle (windows_in entries)) refl (begun_are entries)
begun_are (Withdraw task buffer of ∷ entries) = skip begins_cycle_at (Withdraw task buffer of) entries
    (count_by opens_cycle (windows_in entries)) refl (begun_are entries)
begun_are (Read task buffer from ∷ entries) = skip begins_cycle_at (Read task buffer from) entries
    (count_by opens_cycle (windows_in entries)) refl (begun_are entries)
begun_are (Pop task from ∷ entries) = skip begins_cycle_at (Pop task from) entries
    (count_by opens_cycle (windows_in entries)) refl (begun_are entries)
begun_are (Fetch w a b ∷ entries) =
    count_cons begins_cycle_at (Fetch w a b) entries
    ∙ ap (λ (n : ℕ). one_if (opens_cycle w) + n) (begun_are entries)
    ∙ sym (count_cons opens_cycle w (windows_in entries))
begun_are (Observe number a b ∷ entries) = skip begins_cycle_at (Observe number a b) entries
    (count_by opens_cycle (windows_in entries)) refl (begun_are entries)

fetches_are : (entries : List Entry) → count_by is_fetch entries ≡ length (windows_in entries)
fetches_are [] = refl
fetches_are (Commit task buffer payload ∷ entries) = skip is_fetch (Commit task buffer payload) entries
    (length (windows_in entries)) refl (fetches_are entries)
fetches_are (Withdraw task buffer of ∷ entries) = skip is_fetch (Withdraw task buffer of) entries
    (length (windows_in entries)) refl (fetches_are entries)
fetches_are (Read task buffer from ∷ entries) = skip is_fetch (Read task buffer from) entries
    (length (windows_in entries)) refl (fetches_are entries)
fetches_are (Pop task from ∷ entries) = skip is_fetch (Pop task from) entries
    (length (windows_in entries)) refl (fetches_are entries)
fetches_are (Fetch w a b ∷ entries) =
    let next : 1 + length (windows_in entries) ≡ suc (length (windows_in entries)) = omega arith in
    count_cons is_fetch (Fetch w a b) entries ∙ ap (λ (n : ℕ). 1 + n) (fetches_are entries) ∙ next
fetches_are (Observe number a b ∷ entries) = skip is_fetch (Observe number a b) entries
    (length (windows_in entries)) refl (fetches_are entries)

begun_there : (rs : List Recorded) → cycles_begun rs ≡ count_by opens_cycle (windows_of rs)
begun_there [] = refl
begun_there (r ∷ rs) =
    count_cons begins_cycle r rs ∙ ap (λ (n : ℕ). one_if (opens_cycle r.window) + n) (begun_there rs)
    ∙ sym (count_cons opens_cycle r.window (windows_of rs))

module _ (s : State) (rs : List Recorded) (same : windows_fetched s ≡ windows_of rs) where
  -- as many windows of the record as the first entries fetched are the windows that they fetched
  front_is : (before later : List Entry) → s.entries ≡ before ++ later
      → windows_of (take (count_by is_fetch before) rs) ≡ windows_in before
  front_is before later cut =
      let n = count_by is_fetch before in
      let all : windows_of rs ≡ windows_in before ++ windows_in later =
      sym same ∙ fetched_are [] s.entries ∙ ap windows_in cut ∙ flat_map-append window_in before later in
      sym (take-map (λ (r : Recorded). r.window) n rs) ∙ ap (take n) all
      ∙ ap (λ (k : ℕ). take k (windows_in before ++ windows_in later)) (fetches_are before)
      ∙ take-append_seam (windows_in before) (windows_in later)

  begun_same : (before later : List Entry) → s.entries ≡ before ++ later
      → cycles_of before ≡ cycles_begun (take (count_by is_fetch before) rs)
  begun_same before later cut =
      begun_are before ∙ ap (count_by opens_cycle) (sym (front_is before later cut))
      ∙ sym (begun_there (take (count_by is_fetch before) rs))

pub call_cycles : AreCallCycles
call_cycles s rs before later cycle same cut step = begun_same s rs same before later cut ∙ step.cycle_is

pub sent_cycles : AreSentCycles
sent_cycles s rs before later w a b same cut =
    let parts = before ++ Fetch w a b ∷ [] in
    let all : s.entries ≡ parts ++ later = cut ∙ sym (append_assoc before (Fetch w a b ∷ []) later) in
    ap (λ (n : ℕ). n - 1) (begun_same s rs same parts later all
    ∙ ap (λ (n : ℕ). cycles_begun (take n rs)) (count_last is_fetch before (Fetch w a b)))

-- the next line of the task is in step
abbrev IsLineOf : List Recorded → List Scripted → ℕ → List Entry → ℕ → Type 0
IsLineOf rs scripts n before task =
    IfSome (slice_get (lines_given scripts n task) (count_by (is_by task) before)) (λ line.
    IsInStep rs line.cycle before)

pub line_cycles : AreLineCycles
line_cycles d scripts lines cycles played settled n k task s e line few at entry_at task_is line_at =
    let rs = played.world.bus.sealed in
    let interfaces = played.world.interfaces in
    let windows : HasWindows rs s =
    subst (λ (o : Option State). IfThere o (HasWindows rs)) at (settled.agrees.windows n few) in
    let stepped : IsStepped rs scripts n s =
    subst (λ (o : Option State). IfThere o (IsStepped rs scripts n)) at (settled.stepped n few) in
    let turn : IsInTurn rs scripts n (take k s.entries) e =
    subst (λ (o : Option Entry). IfSome o (IsInTurn rs scripts n (take k s.entries))) entry_at (stepped k) in
    let of_task : IsLineOf rs scripts n (take k s.entries) task =
    subst (λ (o : Option ℕ). IfSome o (IsLineOf rs scripts n (take k s.entries))) task_is turn in
    let step : IsInStep rs line.cycle (take k s.entries) =
    subst (λ (o : Option Line). IfSome o (λ l. IsInStep rs l.cycle (take k s.entries))) line_at of_task in
    call_cycles s rs (take k s.entries) (drop k s.entries) line.cycle windows.fetches
    (sym (take-append-drop k s.entries)) step
