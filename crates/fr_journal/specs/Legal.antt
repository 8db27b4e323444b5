-- The legal journals for given parameters and a given plan.
use Rattle.std.specs.Prelude.{◌≡◌, ℕ, ◌+◌, ◌*◌, ◌≤◌, ◌<◌, true, false, List, [], length, Option, None, count_by, IfSome}
use Rattle.std.specs.Prelude.{IsSomeAnd, option_map}
use Rattle.fr_journal.specs.Arrivals.{moves, oldest}
use Rattle.fr_journal.specs.Forms.{Entry}
use Rattle.fr_journal.specs.declared.entry.Entry.TheVariants.{Commit, Withdraw, Read, Pop, Fetch, Observe}
use Rattle.fr_journal.specs.declared.entry.Offered.{Offered}
use Rattle.fr_journal.specs.declared.entry.Origin.{Origin}
use Rattle.fr_journal.specs.Entries.{is_host, is_slot, IsEntry}
use Rattle.fr_journal.specs.Fate.{pending_commit}
use Rattle.fr_journal.specs.Held.{held, origin_of}
use Rattle.fr_journal.specs.Offers.{offered}
use Rattle.fr_journal.specs.OpenWindow.{open_window, last_number}
use Rattle.fr_slots.specs.declared.channel.Channel.TheVariants as channel
use Rattle.fr_slots.specs.Faults.{words_of}
use Rattle.fr_slots.specs.History.{AllAfter}
use Rattle.fr_slots.specs.Parameters.{Parameters}
use Rattle.fr_slots.specs.Plans.{Plan, buffer_at, is_receive}
use Rattle.fr_slots.specs.Windows.{Opportunity, window_fits}

-- ---- calls of the host

-- a payload has as many words as its buffer sends
pub record IsLegalCommit (params : Parameters) (plan : Plan) (before : List Entry) (task buffer : ℕ)
    (payload : List ℕ) : Type 0 where
  pub task_is : task < plan.tasks
  pub transmits : IsSomeAnd (buffer_at plan buffer) (λ b. (is_receive b.mode ≡ false)
      × (length payload ≡ 2 * words_of params b))
  pub room : count_by is_host before < plan.host_entries

-- the withdrawn commit is the buffer's last one, if that is pending
pub record IsLegalWithdraw (plan : Plan) (before : List Entry) (task buffer : ℕ) (of : Option ℕ) : Type 0 where
  pub task_is : task < plan.tasks
  pub transmits : IsSomeAnd (buffer_at plan buffer) (λ b. is_receive b.mode ≡ false)
  pub found : of ≡ pending_commit buffer before
  pub room : count_by is_host before < plan.host_entries

pub record IsLegalRead (params : Parameters) (plan : Plan) (before : List Entry) (task buffer : ℕ)
    (from : Option Origin) : Type 0 where
  pub task_is : task < plan.tasks
  pub receives : IsSomeAnd (buffer_at plan buffer) (λ b. (is_receive b.mode ≡ true)
      × (from ≡ option_map origin_of (held params b.filter before)))
  pub room : count_by is_host before < plan.host_entries

pub record IsLegalPop (params : Parameters) (plan : Plan) (before : List Entry) (task : ℕ)
    (from : Option Origin) : Type 0 where
  pub task_is : task < plan.tasks
  pub queued : IsSomeAnd plan.queue (λ q. from ≡ option_map origin_of (oldest q.capacity (moves params plan q before)))
  pub room : count_by is_host before < plan.host_entries

-- ---- calls of the controller

pub record IsLegalFetch (params : Parameters) (plan : Plan) (before : List Entry) (window : Opportunity)
    (a b : Offered) : Type 0 where
  pub closed : open_window before ≡ None
  pub fits : window_fits params window ≡ true
  pub later : IfSome (last_number before) (λ n. n < window.number)
  pub room : count_by is_slot before + 2 ≤ plan.slot_entries
  pub offer_a : a ≡ offered plan before window channel.A
  pub offer_b : b ≡ offered plan before window channel.B

-- an observe has the number of the open window, which it closes
abbrev pub IsLegalObserve : List Entry → ℕ → Type 0
IsLegalObserve before window = IsSomeAnd (open_window before) (λ w. w.number ≡ window)

-- ---- journals

-- an entry is legal after those before it
abbrev pub IsLegal : Parameters → Plan → List Entry → Entry → Type 0
IsLegal params plan before (Commit task buffer payload) = IsLegalCommit params plan before task buffer payload
IsLegal params plan before (Withdraw task buffer of) = IsLegalWithdraw plan before task buffer of
IsLegal params plan before (Read task buffer from) = IsLegalRead params plan before task buffer from
IsLegal params plan before (Pop task from) = IsLegalPop params plan before task from
IsLegal params plan before (Fetch window a b) = IsLegalFetch params plan before window a b
IsLegal params plan before (Observe window a b) = IsLegalObserve before window

-- each entry is legal after those before it
abbrev pub IsLegalJournal : Parameters → Plan → List Entry → Type 0
IsLegalJournal params plan entries = AllAfter (IsLegal params plan) [] entries

-- the numbers and bytes of each entry are in their ranges
abbrev pub AreEntries : List Entry → Type 0
AreEntries entries = AllAfter (λ before e. IsEntry e) [] entries
