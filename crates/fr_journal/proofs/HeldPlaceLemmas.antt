-- The frame in a receive buffer has its origin in an entry of the journal.
use Rattle.std.proofs.Common.{◌≡◌, ℕ, ◌+◌, ◌≤◌, ◌<◌, ◌^◌, Bool, true, false, cond, List, [], ◌∷◌, ◌++◌, length, Option}
use Rattle.std.proofs.Common.{Some, None, refl, arith, length-append, option_map}
use Rattle.std.specs.Prelude.{IfSome}
use Rattle.std.specs.Option.{option_and_then}
use Rattle.fr_frame.specs.Fields.{Fields}
use Rattle.fr_journal.specs.Cycles.{moment_after}
use Rattle.fr_journal.specs.declared.entry.Arrival.{Arrival}
use Rattle.fr_journal.specs.declared.entry.Moment.{Moment}
use Rattle.fr_journal.specs.Forms.{Entry}
use Rattle.fr_journal.specs.declared.entry.Entry.TheVariants.{Commit, Withdraw, Read, Pop, Fetch, Observe}
use Rattle.fr_journal.specs.Entries.{IsOrigin}
use Rattle.fr_journal.specs.Held.{held, arrival_at, arrival_by, arrival_in, arrival_on, arrival_of, data_frame_seen}
use Rattle.fr_journal.specs.Held.{origin_of}
use Rattle.fr_slots.specs.Plans.{admits_window}
use Rattle.fr_journal.specs.OpenWindow.{open_window}
use Rattle.fr_slots.specs.declared.channel.Channel.{Channel}
use Rattle.fr_slots.specs.declared.channel.Channel.TheVariants.{A, B}
use Rattle.fr_slots.specs.declared.filter.Filter.{Filter}
use Rattle.fr_slots.specs.History.{last_after}
use Rattle.fr_slots.specs.Parameters.{Parameters}
use Rattle.fr_slots.specs.Windows.{Opportunity}
use Rattle.fr_slots.proofs.HistoryLemmas.{IfSome-or}
use Rattle.fr_status.specs.Forms.{Seen}

abbrev IsFrom : Moment → Arrival → Type 0
IsFrom moment arrival = arrival.origin.entry ≡ moment.entry

from_entry_of : (moment : Moment) (channel : Channel) (o : Option Fields)
    → IfSome (option_map (arrival_of moment channel) o) (IsFrom moment)
from_entry_of moment channel None = tt
from_entry_of moment channel (Some f) = refl

from_cond : (b : Bool) (o : Option Arrival) (moment : Moment) → IfSome o (IsFrom moment)
    → IfSome (cond b o None) (IsFrom moment)
from_cond true o moment h = h
from_cond false o moment h = tt

from_channel : (params : Parameters) (filter : Filter) (moment : Moment) (window : Opportunity) (channel : Channel)
    (seen : Seen) → IfSome (arrival_on params filter moment window channel seen) (IsFrom moment)
from_channel params filter moment window channel seen =
    from_cond (admits_window filter window channel) (option_map (arrival_of moment channel)
    (data_frame_seen params window channel seen)) moment
    (from_entry_of moment channel (data_frame_seen params window channel seen))

from_window : (params : Parameters) (filter : Filter) (moment : Moment) (a b : Seen) (window : Option Opportunity)
    → IfSome (option_and_then (arrival_in params filter moment a b) window) (IsFrom moment)
from_window params filter moment a b None = tt
from_window params filter moment a b (Some window) =
    IfSome-or (IsFrom moment) (arrival_on params filter moment window A a) (arrival_on params filter moment window B b)
    (from_channel params filter moment window A a) (from_channel params filter moment window B b)

from_entry : (params : Parameters) (filter : Filter) (moment : Moment) (window : Option Opportunity) (e : Entry)
    → IfSome (arrival_by params filter moment window e) (IsFrom moment)
from_entry params filter moment window (Commit task buffer payload) = tt
from_entry params filter moment window (Withdraw task buffer of) = tt
from_entry params filter moment window (Read task buffer from) = tt
from_entry params filter moment window (Pop task from) = tt
from_entry params filter moment window (Fetch w a b) = tt
from_entry params filter moment window (Observe w a b) = from_window params filter moment a b window

abbrev IsBelow : ℕ → Arrival → Type 0
IsBelow bound arrival = arrival.origin.entry < bound

weaker : (o : Option Arrival) (m n : ℕ) → m ≤ n → IfSome o (IsBelow m) → IfSome o (IsBelow n)
weaker None m n le h = tt
weaker (Some a) m n le h = omega arith

below_next : (o : Option Arrival) (moment : Moment) → IfSome o (IsFrom moment) → IfSome o (IsBelow (moment.entry + 1))
below_next None moment h = tt
below_next (Some a) moment h = omega (arith, h)

held-below_from : (params : Parameters) (filter : Filter) (before xs : List Entry)
    → IfSome (last_after (arrival_at params filter) before xs) (IsBelow (length before + length xs))
unfolding last_after
held-below_from params filter before [] = tt
held-below_from params filter before (e ∷ xs) =
    IfSome-or (IsBelow (length before + length (e ∷ xs))) (last_after (arrival_at params filter) (before ++ e ∷ []) xs)
    (arrival_at params filter before e)
    (weaker _ (length (before ++ e ∷ []) + length xs) (length before + length (e ∷ xs))
    (omega (arith, length-append before (e ∷ []))) (held-below_from params filter (before ++ e ∷ []) xs))
    (weaker _ (length before + 1) (length before + length (e ∷ xs)) (omega arith)
    (below_next _ (moment_after before) (from_entry params filter (moment_after before) (open_window before) e)))

-- the origin of the held frame is one of these entries
pub held-below : (params : Parameters) (filter : Filter) (entries : List Entry)
    → IfSome (held params filter entries) (λ a. a.origin.entry < length entries)
held-below params filter entries = weaker (held params filter entries) (length {A = Entry} [] + length entries)
    (length entries) (omega arith) (held-below_from params filter [] entries)

origin_below : (o : Option Arrival) (n : ℕ) → n ≤ 2 ^ 32 → IfSome o (IsBelow n) → IsOrigin (option_map origin_of o)
origin_below None n few h = tt
origin_below (Some a) n few h = omega arith

pub origin_fits : (params : Parameters) (filter : Filter) (entries : List Entry) → length entries ≤ 2 ^ 32
    → IsOrigin (option_map origin_of (held params filter entries))
origin_fits params filter entries few = origin_below (held params filter entries) (length entries) few
    (held-below params filter entries)
