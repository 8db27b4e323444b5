use Rattle.std.proofs.Common.{[]}
use Rattle.fr_endless.proofs.EachLemmas.{then_flushed}
use Rattle.fr_endless.proofs.taps.Taps.flush.Goals as goal

pub returns : goal.returns
returns g c =
    then_flushed c.args.self.now c.flush_windows.new.self c.flush_traces.new.self (λ n. []) c.flush_windows.ensures
    c.flush_traces.ensures
