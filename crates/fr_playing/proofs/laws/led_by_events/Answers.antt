use Rattle.fr_playing.proofs.LawLemmas.{led_by}
use Rattle.fr_playing.proofs.laws.led_by_events.Goals as goal

pub returns : goal.returns
returns c = led_by
