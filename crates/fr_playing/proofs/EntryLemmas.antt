-- The entries of host calls and of slots in journals.
use Rattle.std.proofs.Common.{◌≡◌, ◌<◌, ℕ, ◌+◌, Bool, true, false, cond, List, [], ◌∷◌, ◌++◌, length, map}
use Rattle.std.proofs.Common.{Option, Some, None, refl, ap, ap₂, ◌∙◌, append-nil, arith, length-append}
use Rattle.std.specs.Prelude.{◌==◌, count_by, option_to_list}
use Rattle.std.specs.List.{flat_map}
use Rattle.std.proofs.lemmas.Bool.{ltb-true}
use Rattle.std.proofs.lemmas.Grind.{flat_map-append}
use Rattle.std.proofs.lemmas.List.{map-append}
use Rattle.std.proofs.lemmas.List.Sums.{sum_by-append, sum_by_push}
use Rattle.fr_core.specs.Agreeing.{handed_at, fetched}
use Rattle.fr_core.specs.declared.error.StepError.{StepError}
use Rattle.fr_core.specs.declared.error.StepError.TheVariants.{UnknownNode}
use Rattle.fr_core.specs.Scripts.{Executed, call_in, call_at, calls_of}
use Rattle.fr_core.specs.Steps.{event_of, if_node, step_done, step_refusal, with_interface}
use Rattle.fr_core.specs.Worlds.{WorldState, has_node, interface_at}
use Rattle.fr_interface.specs.declared.call.Call.{Call}
use Rattle.fr_interface.specs.declared.call.Call.TheVariants as host_call
use Rattle.fr_interface.specs.State.{State, with_entry, withdraw_entry, read_entry, pop_entry}
use Rattle.fr_journal.specs.Forms.{Entry}
use Rattle.fr_journal.specs.declared.entry.Entry.TheVariants.{Commit, Withdraw, Read, Pop, Fetch, Observe}
use Rattle.fr_runs.specs.Stepping.{is_fetch, is_observe, is_by, task_of}
use Rattle.fr_slots.specs.History.{each_after}
use Rattle.fr_slots.specs.Parameters.{Parameters}
use Rattle.fr_slots.specs.Plans.{Plan}

-- ---- the calls of a task in a journal

-- the call of the entry, if the task made it
abbrev pub call_by : ℕ → Entry → List Call
call_by task (Commit t buffer payload) = cond (t == task) (host_call.Commit buffer payload ∷ []) []
call_by task (Withdraw t buffer of) = cond (t == task) (host_call.Withdraw buffer ∷ []) []
call_by task (Read t buffer from) = cond (t == task) (host_call.Read buffer ∷ []) []
call_by task (Pop t from) = cond (t == task) (host_call.Pop ∷ []) []
call_by task (Fetch window a b) = []
call_by task (Observe number a b) = []

abbrev pub calls_by : ℕ → List Entry → List Call
calls_by task entries = flat_map (call_by task) entries

pub calls_more : (task : ℕ) (entries : List Entry) (e : Entry)
    → calls_by task (entries ++ e ∷ []) ≡ calls_by task entries ++ call_by task e
calls_more task entries e =
    flat_map-append (call_by task) entries (e ∷ [])
    ∙ ap (λ (l : List Call). calls_by task entries ++ l) (append-nil (call_by task e))

pub no_call : (task : ℕ) (e : Entry) → task_of e ≡ None → call_by task e ≡ []
no_call task (Commit t buffer payload) none = absurd (let no : ⊥ = cc in no)
no_call task (Withdraw t buffer of) none = absurd (let no : ⊥ = cc in no)
no_call task (Read t buffer from) none = absurd (let no : ⊥ = cc in no)
no_call task (Pop t from) none = absurd (let no : ⊥ = cc in no)
no_call task (Fetch window a b) none = refl
no_call task (Observe number a b) none = refl

-- ---- their number

one_if : (b : Bool) (c : Call) → cond {A = ℕ} b 1 0 ≡ length (cond b (c ∷ []) [])
one_if true c = refl
one_if false c = refl

one_call : (task : ℕ) (e : Entry) → cond {A = ℕ} (is_by task e) 1 0 ≡ length (call_by task e)
one_call task (Commit t buffer payload) = one_if (t == task) (host_call.Commit buffer payload)
one_call task (Withdraw t buffer of) = one_if (t == task) (host_call.Withdraw buffer)
one_call task (Read t buffer from) = one_if (t == task) (host_call.Read buffer)
one_call task (Pop t from) = one_if (t == task) host_call.Pop
one_call task (Fetch window a b) = refl
one_call task (Observe number a b) = refl

pub as_many_calls : (task : ℕ) (entries : List Entry) → count_by (is_by task) entries ≡ length (calls_by task entries)
as_many_calls task [] = refl
as_many_calls task (e ∷ entries) =
    let split = length-append (call_by task e) (calls_by task entries) in
    let counted : count_by (is_by task) (e ∷ entries) ≡ 0 + cond {A = ℕ} (is_by task e) 1 0
    + count_by (is_by task) entries = sum_by-append (λ (x : Entry). cond {A = ℕ} (is_by task x) 1 0) (e ∷ []) entries in
    let all : length (calls_by task (e ∷ entries)) ≡ length (call_by task e) + length (calls_by task entries) = split in
    omega (arith, counted, all, one_call task e, as_many_calls task entries)

-- ---- executed calls

taken_if : (s : State) (b : Bool) (d : Executed)
    → map (λ (x : Executed). x.0) (option_to_list (cond b (Some d) None)) ≡ cond b (d.0 ∷ []) []
taken_if s true d = refl
taken_if s false d = refl

call_taken : (s : State) (task number : ℕ) (e : Entry)
    → map (λ (x : Executed). x.0) (option_to_list (call_in s task number e)) ≡ call_by task e
call_taken s task number (Commit t buffer payload) = taken_if s (t == task) _
call_taken s task number (Withdraw t buffer of) = taken_if s (t == task) _
call_taken s task number (Read t buffer from) = taken_if s (t == task) _
call_taken s task number (Pop t from) = taken_if s (t == task) _
call_taken s task number (Fetch window a b) = refl
call_taken s task number (Observe window a b) = refl

calls_after : (s : State) (task : ℕ) (before entries : List Entry)
    → map (λ (x : Executed). x.0) (each_after (call_at s task) before entries) ≡ calls_by task entries
unfolding each_after
calls_after s task before [] = refl
calls_after s task before (e ∷ entries) =
    map-append (λ (x : Executed). x.0) (call_at s task before e) (each_after (call_at s task) (before ++ e ∷ [])
    entries)
    ∙ ap₂ (λ (a : List Call) (b : List Call). a ++ b) (call_taken s task (length before) e)
    (calls_after s task (before ++ e ∷ []) entries)

pub calls_are : (s : State) (task : ℕ) → map (λ (x : Executed). x.0) (calls_of s task) ≡ calls_by task s.entries
calls_are s task = calls_after s task [] s.entries

-- ---- fetches

one_handed : (p : Parameters) (plan : Plan) (before : List Entry) (e : Entry)
    → length (handed_at p plan before e) ≡ cond {A = ℕ} (is_fetch e) 1 0
one_handed p plan before (Commit t buffer payload) = refl
one_handed p plan before (Withdraw t buffer of) = refl
one_handed p plan before (Read t buffer from) = refl
one_handed p plan before (Pop t from) = refl
one_handed p plan before (Fetch window a b) = refl
one_handed p plan before (Observe number a b) = refl

handed_after : (p : Parameters) (plan : Plan) (before entries : List Entry)
    → length (each_after (handed_at p plan) before entries) ≡ count_by is_fetch entries
unfolding each_after
handed_after p plan before [] = refl
handed_after p plan before (e ∷ entries) =
    let split = length-append (handed_at p plan before e) (each_after (handed_at p plan) (before ++ e ∷ []) entries) in
    let counted : count_by is_fetch (e ∷ entries) ≡ 0 + cond {A = ℕ} (is_fetch e) 1 0 + count_by is_fetch entries =
    sum_by-append (λ (x : Entry). cond {A = ℕ} (is_fetch x) 1 0) (e ∷ []) entries in
    let all : length (each_after (handed_at p plan) before (e ∷ entries)) ≡ length (handed_at p plan before e)
    + length (each_after (handed_at p plan) (before ++ e ∷ []) entries) = split in
    omega (arith, counted, all, one_handed p plan before e, handed_after p plan (before ++ e ∷ []) entries)

pub as_many_fetches : (s : State) → length (fetched s) ≡ count_by is_fetch s.entries
as_many_fetches s = handed_after s.params s.plan [] s.entries

-- ---- one entry more

pub fetches_more : (entries : List Entry) (e : Entry)
    → count_by is_fetch (entries ++ e ∷ []) ≡ count_by is_fetch entries + cond (is_fetch e) 1 0
fetches_more entries e = sum_by_push (λ (x : Entry). cond (is_fetch x) 1 0) entries e

pub observes_more : (entries : List Entry) (e : Entry)
    → count_by is_observe (entries ++ e ∷ []) ≡ count_by is_observe entries + cond (is_observe e) 1 0
observes_more entries e = sum_by_push (λ (x : Entry). cond (is_observe x) 1 0) entries e

-- ---- the entry of a call

abbrev pub host_entry : State → ℕ → Call → Entry
host_entry s task (host_call.Commit buffer payload) = Commit task buffer payload
host_entry s task (host_call.Withdraw buffer) = withdraw_entry s task buffer
host_entry s task (host_call.Read buffer) = read_entry s task buffer
host_entry s task host_call.Pop = pop_entry s task

pub host_done : (w : WorldState) (n task : ℕ) (call : Call) → step_done w (event_of n task call)
    ≡ with_interface w n (with_entry (interface_at w n) (host_entry (interface_at w n) task call))
host_done w n task (host_call.Commit buffer payload) = refl
host_done w n task (host_call.Withdraw buffer) = refl
host_done w n task (host_call.Read buffer) = refl
host_done w n task host_call.Pop = refl

known : (b : Bool) (found : Option StepError) → cond b found (Some UnknownNode) ≡ None → b ≡ true
known true found e = refl
known false found e = absurd (let none : ⊥ = cc in none)

pub is_there : (w : WorldState) (n : ℕ) (refusal : Option StepError) → if_node w n refusal ≡ None
    → n < length w.interfaces
is_there w n refusal free = ltb-true n (length w.interfaces) (known (has_node w n) refusal free)

pub host_there : (w : WorldState) (n task : ℕ) (call : Call) → step_refusal w (event_of n task call) ≡ None
    → n < length w.interfaces
host_there w n task (host_call.Commit buffer payload) free = is_there w n _ free
host_there w n task (host_call.Withdraw buffer) free = is_there w n _ free
host_there w n task (host_call.Read buffer) free = is_there w n _ free
host_there w n task host_call.Pop free = is_there w n _ free

pub host_task : (s : State) (task : ℕ) (call : Call) → task_of (host_entry s task call) ≡ Some task
host_task s task (host_call.Commit buffer payload) = refl
host_task s task (host_call.Withdraw buffer) = refl
host_task s task (host_call.Read buffer) = refl
host_task s task host_call.Pop = refl

pub host_call_by : (s : State) (task t : ℕ) (call : Call)
    → call_by t (host_entry s task call) ≡ cond (task == t) (call ∷ []) []
host_call_by s task t (host_call.Commit buffer payload) = refl
host_call_by s task t (host_call.Withdraw buffer) = refl
host_call_by s task t (host_call.Read buffer) = refl
host_call_by s task t host_call.Pop = refl

pub host_no_fetch : (s : State) (task : ℕ) (call : Call) → is_fetch (host_entry s task call) ≡ false
host_no_fetch s task (host_call.Commit buffer payload) = refl
host_no_fetch s task (host_call.Withdraw buffer) = refl
host_no_fetch s task (host_call.Read buffer) = refl
host_no_fetch s task host_call.Pop = refl

pub host_no_observe : (s : State) (task : ℕ) (call : Call) → is_observe (host_entry s task call) ≡ false
host_no_observe s task (host_call.Commit buffer payload) = refl
host_no_observe s task (host_call.Withdraw buffer) = refl
host_no_observe s task (host_call.Read buffer) = refl
host_no_observe s task host_call.Pop = refl
