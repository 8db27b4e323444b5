-- The answer of a cross-check of a cluster, interfaces, a record and scripts (project-defined).
use Rattle.std.specs.Prelude.{◌≡◌, ℕ, ◌<◌, ◌≤◌, nat_lt, Bool, true, not, ◌&&◌, ◌||◌, List, [], length, map}
use Rattle.std.specs.Prelude.{slice_get, Option, Some, None, option_to_list, Result, Ok, Err}
use Rattle.std.specs.List.{list_all}
use Rattle.fr_bus.specs.declared.outcome.SentFate.{SentFate}
use Rattle.fr_bus.specs.declared.outcome.SentFate.TheVariants.{Passed, Blocked, Muted}
use Rattle.fr_bus.specs.declared.outcome.Sent.{Sent}
use Rattle.fr_bus.specs.Outcome.{is_of}
use Rattle.fr_bus.specs.Record.{Recorded}
use Rattle.fr_bus.specs.States.{BusState, IsRun}
use Rattle.fr_core.specs.Agreeing.{fetched, observed, offers_of, sights_of, Follows}
use Rattle.fr_core.specs.Agreement.{IsWorld}
use Rattle.fr_core.specs.Carried.{Carried}
use Rattle.fr_core.specs.declared.settle.Settled.{Settled}
use Rattle.fr_core.specs.declared.settle.SettleError.{SettleError}
use Rattle.fr_core.specs.declared.settle.SettleError.TheVariants.{PlanDiffers, WindowsDiffer, OfferDiffers, SeenDiffers}
use Rattle.fr_core.specs.declared.settle.SettleError.TheVariants.{ScriptDiffers, Memory}
use Rattle.fr_core.specs.Scripts.{Scripted, ScriptAgrees}
use Rattle.fr_core.specs.Worlds.{is_between}
use Rattle.fr_guardian.specs.Guarding.{passes}
use Rattle.fr_interface.specs.State.{State}
use Rattle.fr_journal.specs.Forms.{Entry}
use Rattle.fr_journal.specs.declared.entry.Entry.TheVariants.{Commit, Withdraw, Read, Pop, Fetch, Observe}
use Rattle.fr_journal.specs.OpenWindow.{open_window}
use Rattle.fr_schedule.specs.Descriptions.{Description}
use Rattle.fr_slots.specs.History.{each_after}
use Rattle.fr_slots.specs.Numbers.{last_node, last_task}
use Rattle.fr_slots.specs.Parameters.{Parameters}
use Rattle.fr_slots.specs.Plans.{Plan}
use Rattle.fr_slots.specs.Windows.{Opportunity}

-- ---- the first failure

-- the least number at which this fails
pub record IsFirst (P : ℕ → Type 0) (n : ℕ) : Type 0 where
  pub fails : ¬ P n
  pub before : (m : ℕ) → m < n → P m

-- nodes are numbered up to the last that a cluster may have
abbrev pub EachNode : (ℕ → Type 0) → Type 0
EachNode P = (n : ℕ) → n ≤ last_node → P n

abbrev pub EachTask : (ℕ → Type 0) → Type 0
EachTask P = (task : ℕ) → task ≤ last_task → P task

-- the property holds for an interface, if it exists
abbrev pub IfThere : Option State → (State → Type 0) → Type 0
IfThere None P = Unit {0}
IfThere (Some s) P = P s

-- ---- plans

-- interface and node both exist, with the same parameters and the same plan, or neither does
abbrev pub ArePlanned : Parameters → Option State → Option Plan → Type 0
ArePlanned p None None = Unit {0}
ArePlanned p (Some s) (Some plan) = (s.params ≡ p) × (s.plan ≡ plan)
ArePlanned p (Some s) None = ⊥
ArePlanned p None (Some plan) = ⊥

abbrev pub PlansAgree : Description → List State → ℕ → Type 0
PlansAgree d is n = ArePlanned d.params (slice_get is n) (slice_get d.plans n)

-- ---- windows

abbrev pub windows_of : List Recorded → List Opportunity
windows_of rs = map (λ (r : Recorded). r.window) rs

-- the window that an entry fetched
abbrev pub fetched_window : Entry → Option Opportunity
fetched_window (Commit task buffer payload) = None
fetched_window (Withdraw task buffer of) = None
fetched_window (Read task buffer from) = None
fetched_window (Pop task from) = None
fetched_window (Fetch window a b) = Some window
fetched_window (Observe number a b) = None

-- the window that an entry observed, if this window is open before it
abbrev pub observed_window : Option Opportunity → Entry → Option Opportunity
observed_window opened (Commit task buffer payload) = None
observed_window opened (Withdraw task buffer of) = None
observed_window opened (Read task buffer from) = None
observed_window opened (Pop task from) = None
observed_window opened (Fetch window a b) = None
observed_window opened (Observe number a b) = opened

abbrev pub fetches_at : List Entry → Entry → List Opportunity
fetches_at before e = option_to_list (fetched_window e)

abbrev pub observes_at : List Entry → Entry → List Opportunity
observes_at before e = option_to_list (observed_window (open_window before) e)

-- the windows that the journal fetched, and those that it observed, in order
abbrev pub windows_fetched : State → List Opportunity
windows_fetched s = each_after fetches_at [] s.entries

abbrev pub windows_observed : State → List Opportunity
windows_observed s = each_after observes_at [] s.entries

-- both lists of windows are the record's
pub record HasWindows (rs : List Recorded) (s : State) : Type 0 where
  pub fetches : windows_fetched s ≡ windows_of rs
  pub observes : windows_observed s ≡ windows_of rs

abbrev pub WindowsAgree : List State → List Recorded → ℕ → Type 0
WindowsAgree is rs n = IfThere (slice_get is n) (HasWindows rs)

-- ---- offers and fates

-- the fate is the guardian's, or a mute
abbrev pub is_due : SentFate → Bool → Bool
is_due Passed let_pass = let_pass
is_due Blocked let_pass = not let_pass
is_due Muted let_pass = true

-- a transmission of the node is of a node of the cluster, and its fate is a mute or that of the cluster's guardians
abbrev pub is_right : Description → ℕ → Opportunity → Sent → Bool
is_right d n w t = not (is_of n t) || (nat_lt n (length d.plans) && is_due t.fate (passes d n w t.channel))

abbrev pub are_right : Description → ℕ → Recorded → Bool
are_right d n r = list_all (is_right d n r.window) r.sent

-- the node's transmissions in the window at this place of the record are right
abbrev pub IsFatedAt : Description → List Recorded → ℕ → ℕ → Type 0
IsFatedAt d rs n k = (r : Recorded) → slice_get rs k ≡ Some r → are_right d n r ≡ true

-- the offers that the node handed to the bus there are those of the record
abbrev pub IsHandedAt : List Recorded → ℕ → ℕ → State → Type 0
IsHandedAt rs n k s = slice_get (fetched s) k ≡ slice_get (map (offers_of n) rs) k

pub record IsOfferedAt (d : Description) (rs : List Recorded) (n : ℕ) (s : Option State) (k : ℕ) : Type 0 where
  pub offers : IfThere s (IsHandedAt rs n k)
  pub fates : IsFatedAt d rs n k

abbrev pub OffersAgree : Description → List State → List Recorded → ℕ → Type 0
OffersAgree d is rs n = (k : ℕ) → IsOfferedAt d rs n (slice_get is n) k

-- ---- observations

abbrev pub IsShownAt : Parameters → List Recorded → ℕ → ℕ → State → Type 0
IsShownAt p rs n k s = slice_get (observed s) k ≡ slice_get (map (sights_of p n) rs) k

-- the node's observation in the window at this place is the one that the record gives
abbrev pub IsSeenAt : Description → List Recorded → ℕ → Option State → ℕ → Type 0
IsSeenAt d rs n s k = IfThere s (IsShownAt d.params rs n k)

abbrev pub SightsAgree : Description → List State → List Recorded → ℕ → Type 0
SightsAgree d is rs n = (k : ℕ) → IsSeenAt d rs n (slice_get is n) k

-- ---- scripts

abbrev pub ScriptsAgree : List State → List Scripted → ℕ → Type 0
ScriptsAgree is scripts n = EachTask (ScriptAgrees is scripts n)

-- ---- agreement

-- The interfaces are those of the cluster's nodes, and their journals and the scripts agree with the record.
pub record Agrees (d : Description) (is : List State) (rs : List Recorded) (given : List Scripted) : Type 0 where
  pub plans : (n : ℕ) → PlansAgree d is n
  pub windows : EachNode (WindowsAgree is rs)
  pub offers : EachNode (OffersAgree d is rs)
  pub sights : EachNode (SightsAgree d is rs)
  pub scripts : EachNode (ScriptsAgree is given)

-- ---- the answer

-- this number is that of the first window of the record at whose place the property fails
pub record IsFirstWindow (rs : List Recorded) (P : ℕ → Type 0) (number : ℕ) : Type 0 where
  pub place : ℕ
  pub first : IsFirst P place
  pub there : Recorded
  pub is_there : slice_get rs place ≡ Some there
  pub number_is : number ≡ there.window.number

-- Each part is tested for all nodes before the next. A failure names the least node at which a part fails, and of that
-- node the first window or the least task.
abbrev pub Settles : Description → List State → List Recorded → List Scripted → Result Settled SettleError → Type 0
Settles d is rs scripts (Ok settled) = Agrees d is rs scripts × (settled.windows ≡ length rs)
Settles d is rs scripts (Err (PlanDiffers n)) = IsFirst (PlansAgree d is) n
Settles d is rs scripts (Err (WindowsDiffer n)) = ((m : ℕ) → PlansAgree d is m) × IsFirst (WindowsAgree is rs) n
Settles d is rs scripts (Err (OfferDiffers n w)) =
    ((m : ℕ) → PlansAgree d is m)
    × EachNode (WindowsAgree is rs)
    × IsFirst (OffersAgree d is rs) n
    × IsFirstWindow rs (IsOfferedAt d rs n (slice_get is n)) w
Settles d is rs scripts (Err (SeenDiffers n w)) =
    ((m : ℕ) → PlansAgree d is m)
    × EachNode (WindowsAgree is rs)
    × EachNode (OffersAgree d is rs)
    × IsFirst (SightsAgree d is rs) n
    × IsFirstWindow rs (IsSeenAt d rs n (slice_get is n)) w
Settles d is rs scripts (Err (ScriptDiffers n task)) =
    ((m : ℕ) → PlansAgree d is m)
    × EachNode (WindowsAgree is rs)
    × EachNode (OffersAgree d is rs)
    × EachNode (SightsAgree d is rs)
    × IsFirst (ScriptsAgree is scripts) n
    × IsFirst (ScriptAgrees is scripts n) task
Settles d is rs scripts (Err Memory) = ((m : ℕ) → PlansAgree d is m) × EachNode (WindowsAgree is rs)

-- ---- consequences

-- the lists of each interface are those of the record
abbrev pub EachFollows : Parameters → List State → List Recorded → Type 0
EachFollows p is rs = (n : ℕ) (s : State) → slice_get is n ≡ Some s → Follows p rs n s

-- these are the cluster, the interfaces and the bus of a world that is between two windows
pub record IsBetweenWindows (d : Description) (is : List State) (b : BusState) : Type 0 where
  pub carried : List Carried
  pub world : IsWorld (record { interfaces = is; bus = b; carried = carried })
  pub run : IsRun b
  pub cluster_is : b.cluster ≡ d
  pub between : list_all is_between carried ≡ true

-- everything but the scripts agrees, or an allocation fails
abbrev pub DiffersInScriptsAlone : Result Settled SettleError → Type 0
DiffersInScriptsAlone (Ok settled) = Unit {0}
DiffersInScriptsAlone (Err (ScriptDiffers n task)) = Unit {0}
DiffersInScriptsAlone (Err Memory) = Unit {0}
DiffersInScriptsAlone (Err e) = ⊥
