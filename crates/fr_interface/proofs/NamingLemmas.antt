-- A frame of an observe, by the window that it closes.
use Rattle.std.proofs.Common.{◌≡◌, List, refl}
use Rattle.fr_journal.specs.Forms.{Entry}
use Rattle.fr_journal.specs.declared.entry.Entry.TheVariants.{Commit, Withdraw, Read, Pop, Fetch, Observe}
use Rattle.fr_journal.specs.Held.{frame_in_entry}
use Rattle.fr_journal.specs.OpenWindow.{open_window, closed_window}
use Rattle.fr_slots.specs.declared.channel.Channel.{Channel}
use Rattle.fr_slots.specs.Parameters.{Parameters}

-- only an observe has a frame, and it closes the window that is open before it
pub frame_by_closed : (params : Parameters) (channel : Channel) (before : List Entry) (e : Entry)
    → frame_in_entry params channel (closed_window before e) e ≡ frame_in_entry params channel (open_window before) e
frame_by_closed params channel before (Commit task buffer payload) = refl
frame_by_closed params channel before (Withdraw task buffer of) = refl
frame_by_closed params channel before (Read task buffer from) = refl
frame_by_closed params channel before (Pop task from) = refl
frame_by_closed params channel before (Fetch window a b) = refl
frame_by_closed params channel before (Observe window a b) = refl
