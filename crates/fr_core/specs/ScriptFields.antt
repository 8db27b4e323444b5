-- The fields of `Script` as `Scripted`.
use Rattle.fr_core.specs.declared.script.Script.TheInside.{Inside}
use Rattle.fr_core.specs.Scripts.{Scripted}

abbrev pub scripted_in : Inside → Scripted
scripted_in s = record { node = s.node; task = s.task; lines = s.lines.items }
