-- What follows from the observation in `Heard`.
use Rattle.std.specs.Prelude.{◌≡◌}
use Rattle.std.specs.Option.{ForSome}
use Rattle.fr_interface.specs.declared.sight.Heard.TheInside.{Inside}
use Rattle.fr_interface.specs.declared.sight.Judged.{Judged}
use Rattle.fr_interface.specs.Seeing.{status_seen}
use Rattle.fr_journal.specs.Held.{data_frame_seen}
use Rattle.fr_status.specs.Forms.{Seen}

-- the status and the frame are those of the observation
pub record Follows (seen : Seen) (j : Judged) : Type 0 where
  pub status_is : j.status ≡ status_seen j.params j.window j.channel seen
  pub frame_is : j.frame ≡ data_frame_seen j.params j.window j.channel seen

abbrev pub IsJudged : Inside → Type 0
IsJudged h = ForSome h.judged (Follows h.seen)
