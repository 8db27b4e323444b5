-- The call that the code has at hand.
use Rattle.fr_playing.specs.Calls.{Asked}
use Rattle.fr_showing.specs.declared.answers.TaskCall.{TaskCall}

abbrev pub asked_by : TaskCall → Asked
asked_by made = record { node = made.node; task = made.task; cycle = made.cycle; call = made.call.now }
