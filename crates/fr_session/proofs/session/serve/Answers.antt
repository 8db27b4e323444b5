use Rattle.std.proofs.Common.{◌≡◌, ◌∙◌, List, ap}
use Rattle.fr_core.specs.declared.event.Event.{Event}
use Rattle.fr_playing.specs.Moving.{window_events}
use Rattle.fr_session.proofs.CutLemmas.{ended_so, memory_ends}
use Rattle.fr_session.proofs.SessionLemmas.{opened_so}
use Rattle.fr_session.specs.Sessions.{Terms, terms_of}
use Rattle.fr_session.proofs.session.serve.Goals as goal

pub returns-clause-served : goal.returns-clause-served
returns-clause-served g c =
    let cluster = c.args.cluster.now in
    let w = c.args.world.now in
    let due : c.as_slice.result.now ≡ window_events c.nodes.result = c.as_slice.ensures.value ∙ c.in-Ok.ensures in
    let given : Terms = record { due = c.as_slice.result.now; cluster = cluster; cycles = c.args.cycles; keep = 0 } in
    let of_given : given ≡ terms_of cluster c.args.cycles =
    ap (λ (events : List Event). record { due = events; cluster = cluster; cycles = c.args.cycles; keep = 0 })
    (due ∙ ap window_events c.nodes.ensures.value) in
    opened_so c.answer_all.result given (g.R.Read.remaining c.args.reader.now)
    (g.W.Write.contents c.args.writer.now) (g.W.Write.contents c.answer_all.new.writer) w
    c.answer_all.new.world cluster c.args.cycles c.in-Ok-new-2.noted c.answer_all.new.self.noted c.requires of_given
    c.in-Ok-new-2.ensures c.answer_all.ensures.served

pub returns-clause-early : goal.returns-clause-early
returns-clause-early g c =
    let cluster = c.args.cluster.now in
    let w = c.args.world.now in
    let due : c.as_slice.result.now ≡ window_events c.nodes.result = c.as_slice.ensures.value ∙ c.in-Ok.ensures in
    let given : Terms = record { due = c.as_slice.result.now; cluster = cluster; cycles = c.args.cycles; keep = 0 } in
    let of_given : given ≡ terms_of cluster c.args.cycles =
    ap (λ (events : List Event). record { due = events; cluster = cluster; cycles = c.args.cycles; keep = 0 })
    (due ∙ ap window_events c.nodes.ensures.value) in
    ended_so c.answer_all.result given (g.R.Read.remaining c.args.reader.now)
    (g.R.Read.remaining c.answer_all.new.reader) (g.W.Write.contents c.args.writer.now)
    (g.W.Write.contents c.answer_all.new.writer) w c.answer_all.new.world cluster c.args.cycles c.in-Ok-new-2.noted
    c.answer_all.new.self.noted c.requires of_given c.in-Ok-new-2.ensures c.answer_all.ensures.early

pub returns-in_default-clause-early : goal.returns-in_default-clause-early
returns-in_default-clause-early g c =
    memory_ends (g.R.Read.remaining c.args.reader.now) (g.W.Write.contents c.args.writer.now) c.args.world.now

pub returns-in_default-new-clause-early : goal.returns-in_default-new-clause-early
returns-in_default-new-clause-early g c =
    memory_ends (g.R.Read.remaining c.args.reader.now) (g.W.Write.contents c.args.writer.now) c.args.world.now

pub returns-in_default-new-2-clause-early : goal.returns-in_default-new-2-clause-early
returns-in_default-new-2-clause-early g c =
    memory_ends (g.R.Read.remaining c.args.reader.now) (g.W.Write.contents c.args.writer.now) c.args.world.now
