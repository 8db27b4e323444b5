use Rattle.std.proofs.Common.{Err, None, Ok, Some, ◌≡◌, ◌∙◌, subst, sym}
use Rattle.fr_endless.proofs.OpeningLemmas.{opens_of}
use Rattle.fr_world.proofs.ServingLemmas.{live_ended, live_opens, live_served, live_unopened, room_as}
use Rattle.fr_world.specs.declared.failure.WorldFailure.{WorldFailure}
use Rattle.fr_world.specs.Serving.{ServesLive}
use Rattle.fr_world.proofs.serving.serve_live.Goals as goal

pub serve_endless-requires : goal.serve_endless-requires
serve_endless-requires g c =
    opens_of c.args.cluster.now c.args.cycles c.greatest-room.result c.in-Ok.world c.in-Ok.ensures

pub returns-in-Some : goal.returns-in-Some
returns-in-Some g c =
    let opens = live_opens c.args.cluster.now c.args.cycles (g.R.Read.remaining c.args.reader.now)
    (g.R.Read.remaining c.args.reader.now) (g.W.Write.contents c.args.writer.now)
    (g.W.Write.contents c.args.writer.now) c.args.taps.now c.begin_traces.new.self c.begin_traces.new.self
    c.greatest-room.result
    (Ok c.in-Ok.world) c.greatest-room.ensures c.in-Ok.ensures in
    live_unopened c.args.cluster.now c.args.cycles (g.R.Read.remaining c.args.reader.now)
    (g.W.Write.contents c.args.writer.now) c.args.taps.now c.begin_traces.new.self c.in-Ok.world c.in-Some.tap
    (room_as c.args.taps.now c.begin_traces.new.self c.args.cluster.now c.greatest-room.result c.greatest-room.ensures
    c.begin_traces.ensures) (sym c.failed.ensures ∙ c.in-Some.is) opens

pub returns-in-Ok-serve_endless : goal.returns-in-Ok-serve_endless
returns-in-Ok-serve_endless g c =
    let opens = live_opens c.args.cluster.now c.args.cycles (g.R.Read.remaining c.args.reader.now)
    (g.R.Read.remaining c.serve_endless.new.reader) (g.W.Write.contents c.args.writer.now)
    (g.W.Write.contents c.serve_endless.new.writer) c.args.taps.now c.begin_traces.new.self c.serve_endless.new.taps
    c.greatest-room.result
    (Ok c.in-Ok.world) c.greatest-room.ensures c.in-Ok.ensures in
    live_served c.args.cluster.now c.args.cycles (g.R.Read.remaining c.args.reader.now)
    (g.R.Read.remaining c.serve_endless.new.reader) (g.W.Write.contents c.args.writer.now)
    (g.W.Write.contents c.serve_endless.new.writer) c.args.taps.now c.begin_traces.new.self c.serve_endless.new.taps
    c.in-Ok.world c.serve_endless.new.world
    (room_as c.args.taps.now c.begin_traces.new.self c.args.cluster.now c.greatest-room.result c.greatest-room.ensures
    c.begin_traces.ensures) (sym c.failed.ensures ∙ c.in_default.is) opens c.in-Ok-serve_endless.ensures.served
    c.in-Ok-serve_endless.ensures.failed

pub returns : goal.returns
returns g c =
    let opens = live_opens c.args.cluster.now c.args.cycles (g.R.Read.remaining c.args.reader.now)
    (g.R.Read.remaining c.serve_endless.new.reader) (g.W.Write.contents c.args.writer.now)
    (g.W.Write.contents c.serve_endless.new.writer) c.args.taps.now c.begin_traces.new.self c.serve_endless.new.taps
    c.greatest-room.result
    (Ok c.in-Ok.world) c.greatest-room.ensures c.in-Ok.ensures in
    subst (λ (f : WorldFailure). ServesLive c.args.cluster.now c.args.cycles (g.R.Read.remaining c.args.reader.now)
    (g.R.Read.remaining c.serve_endless.new.reader) (g.W.Write.contents c.args.writer.now)
    (g.W.Write.contents c.serve_endless.new.writer) c.args.taps.now c.serve_endless.new.taps (Err f))
    (sym c.failure_of.ensures)
    (live_ended c.args.cluster.now c.args.cycles (g.R.Read.remaining c.args.reader.now)
    (g.R.Read.remaining c.serve_endless.new.reader) (g.W.Write.contents c.args.writer.now)
    (g.W.Write.contents c.serve_endless.new.writer) c.args.taps.now c.begin_traces.new.self c.serve_endless.new.taps
    c.in-Ok.world
    c.serve_endless.new.world c.in-Err-serve_endless.error
    (room_as c.args.taps.now c.begin_traces.new.self c.args.cluster.now c.greatest-room.result c.greatest-room.ensures
    c.begin_traces.ensures) (sym c.failed.ensures ∙ c.in_default.is) opens c.in-Err-serve_endless.ensures.early
    c.in-Err-serve_endless.ensures.failed)
