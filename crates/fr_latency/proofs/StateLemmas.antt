-- The kind of a transmit buffer, by three answers.
use Rattle.std.proofs.Common.{◌≡◌, Bool, true, false, refl}
use Rattle.fr_latency.specs.declared.latency.State.TheVariants.{Guaranteed, Possible, Blocked}
use Rattle.fr_latency.specs.Latencies.{state_by}

pub by_all : (tasks all ever : Bool) → tasks ≡ true → all ≡ true → Guaranteed ≡ state_by tasks all ever
by_all true true ever some every = refl
by_all true false ever some every = absurd (cc)
by_all false all ever some every = absurd (cc)

pub by_ever : (tasks all ever : Bool) → tasks ≡ true → all ≡ false → ever ≡ true → Possible ≡ state_by tasks all ever
by_ever true false true some every one = refl
by_ever true false false some every one = absurd (cc)
by_ever true true ever some every one = absurd (cc)
by_ever false all ever some every one = absurd (cc)

pub by_never : (tasks all ever : Bool) → tasks ≡ true → all ≡ false → ever ≡ false → Blocked ≡ state_by tasks all ever
by_never true false false some every one = refl
by_never true false true some every one = absurd (cc)
by_never true true ever some every one = absurd (cc)
by_never false all ever some every one = absurd (cc)
