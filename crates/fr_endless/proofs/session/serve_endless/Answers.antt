use Rattle.std.proofs.Common.{◌≡◌, ◌∙◌, ℕ, List, Option, ap, length, refl, sym}
use Rattle.fr_endless.proofs.SessionLemmas.{begun_so, closed_so, ended_so, opened_so, unmade_so, unopened_so}
use Rattle.fr_playing.specs.Moving.{window_events}
use Rattle.fr_endless.specs.Serving.{endless_terms}
use Rattle.fr_session.specs.Sessions.{Terms}
use Rattle.fr_endless.proofs.session.serve_endless.Goals as goal

pub returns-clause-served : goal.returns-clause-served
returns-clause-served g c =
    let cluster = c.args.cluster.now in
    let due : c.as_slice.result.now ≡ window_events c.nodes.result = c.as_slice.ensures.value ∙ c.in-Ok.ensures in
    let given : Terms = record {
      due = c.as_slice.result.now;
      cluster = cluster;
      cycles = c.min.result;
      keep = length
          c.kept.result.now;
    } in
    let same : given ≡ endless_terms cluster c.args.cycles (length c.args.taps.now.kept) =
    let events_are = due ∙ ap window_events c.nodes.ensures.value in
    let places = ap (λ (k : List (Option (List ℕ))). length k) c.kept.ensures in
    let cycles_are = c.min.ensures in
    λ i. record { due = events_are i; cluster = cluster; cycles = cycles_are i; keep = places i } in
    opened_so (endless_terms cluster c.args.cycles (length c.args.taps.now.kept)) given
    (g.R.Read.remaining c.args.reader.now) (g.W.Write.contents c.args.writer.now)
    (g.W.Write.contents c.answer_all.new.writer) c.args.world.now c.answer_all.new.world c.args.taps.now
    c.begin.new.self c.answer_all.new.taps c.end.new.self c.in-Ok-new-2.noted c.answer_all.new.self.noted same refl
    c.in-Ok-new-2.ensures (begun_so _ _ _ c.forget.ensures c.begin.ensures) c.in-Ok-answer_all.ensures.served
    c.end.ensures

pub returns-in-Some-failed-clause-early : goal.returns-in-Some-failed-clause-early
returns-in-Some-failed-clause-early g c =
    let cluster = c.args.cluster.now in
    let due : c.as_slice.result.now ≡ window_events c.nodes.result = c.as_slice.ensures.value ∙ c.in-Ok.ensures in
    let given : Terms = record {
      due = c.as_slice.result.now;
      cluster = cluster;
      cycles = c.min.result;
      keep = length
          c.kept.result.now;
    } in
    let same : given ≡ endless_terms cluster c.args.cycles (length c.args.taps.now.kept) =
    let events_are = due ∙ ap window_events c.nodes.ensures.value in
    let places = ap (λ (k : List (Option (List ℕ))). length k) c.kept.ensures in
    let cycles_are = c.min.ensures in
    λ i. record { due = events_are i; cluster = cluster; cycles = cycles_are i; keep = places i } in
    closed_so (endless_terms cluster c.args.cycles (length c.args.taps.now.kept)) given
    (g.R.Read.remaining c.args.reader.now) (g.R.Read.remaining c.answer_all.new.reader)
    (g.W.Write.contents c.args.writer.now)
    (g.W.Write.contents c.answer_all.new.writer) c.args.world.now c.answer_all.new.world c.args.taps.now
    c.begin.new.self c.answer_all.new.taps c.end.new.self c.in-Some-failed.tap c.in-Ok-new-2.noted
    c.answer_all.new.self.noted
    same refl c.in-Ok-new-2.ensures (begun_so _ _ _ c.forget.ensures c.begin.ensures)
    c.in-Ok-answer_all.ensures.served c.end.ensures

pub returns-in-Err-clause-early : goal.returns-in-Err-clause-early
returns-in-Err-clause-early g c =
    let cluster = c.args.cluster.now in
    let due : c.as_slice.result.now ≡ window_events c.nodes.result = c.as_slice.ensures.value ∙ c.in-Ok.ensures in
    let given : Terms = record {
      due = c.as_slice.result.now;
      cluster = cluster;
      cycles = c.min.result;
      keep = length
          c.kept.result.now;
    } in
    let same : given ≡ endless_terms cluster c.args.cycles (length c.args.taps.now.kept) =
    let events_are = due ∙ ap window_events c.nodes.ensures.value in
    let places = ap (λ (k : List (Option (List ℕ))). length k) c.kept.ensures in
    let cycles_are = c.min.ensures in
    λ i. record { due = events_are i; cluster = cluster; cycles = cycles_are i; keep = places i } in
    ended_so c.in-Err.error (endless_terms cluster c.args.cycles (length c.args.taps.now.kept)) given
    (g.R.Read.remaining c.args.reader.now) (g.R.Read.remaining c.answer_all.new.reader)
    (g.W.Write.contents c.args.writer.now) (g.W.Write.contents c.answer_all.new.writer) c.args.world.now
    c.answer_all.new.world c.args.taps.now c.begin.new.self c.answer_all.new.taps c.in-Ok-new-2.noted
    c.answer_all.new.self.noted same refl c.in-Ok-new-2.ensures
    (begun_so _ _ _ c.forget.ensures c.begin.ensures) c.in-Err.ensures.stream c.in-Err.ensures.failed
    c.in-Err.ensures.early

pub returns-in-Some-clause-early : goal.returns-in-Some-clause-early
returns-in-Some-clause-early g c =
    unopened_so (endless_terms c.args.cluster.now c.args.cycles (length c.args.taps.now.kept))
    (g.R.Read.remaining c.args.reader.now)
    (g.W.Write.contents c.args.writer.now) c.args.world.now c.args.taps.now c.begin.new.self c.in-Some.tap
    (begun_so _ _ _ c.forget.ensures c.begin.ensures) (sym c.failed.ensures ∙ c.in-Some.is)

pub returns-in_default-clause-early : goal.returns-in_default-clause-early
returns-in_default-clause-early g c =
    unmade_so (endless_terms c.args.cluster.now c.args.cycles (length c.args.taps.now.kept))
    (g.R.Read.remaining c.args.reader.now)
    (g.W.Write.contents c.args.writer.now) c.args.world.now c.args.taps.now

pub returns-in_default-new-clause-early : goal.returns-in_default-new-clause-early
returns-in_default-new-clause-early g c =
    unmade_so (endless_terms c.args.cluster.now c.args.cycles (length c.args.taps.now.kept))
    (g.R.Read.remaining c.args.reader.now)
    (g.W.Write.contents c.args.writer.now) c.args.world.now c.args.taps.now

pub returns-in_default-new-2-clause-early : goal.returns-in_default-new-2-clause-early
returns-in_default-new-2-clause-early g c =
    unmade_so (endless_terms c.args.cluster.now c.args.cycles (length c.args.taps.now.kept))
    (g.R.Read.remaining c.args.reader.now) (g.W.Write.contents c.args.writer.now) c.args.world.now c.args.taps.now
