use Rattle.std.proofs.Common.{IfOk, List, ℕ, drop, Result, ◌∙◌, sym, subst}
use Rattle.std.proofs.lemmas.List.{take_rest}
use Rattle.fr_trace.specs.declared.error.TraceError.{TraceError}
use Rattle.fr_trace.proofs.RefusalLemmas.{short_text}
use Rattle.fr_trace.specs.Feeds.{Reads}
use Rattle.fr_why.specs.declared.finding.Found.{Found}
use Rattle.fr_why.specs.Finding.{IsFound}
use Rattle.fr_why.proofs.FindingLemmas.{next_feed, no_feed_left, piece_with, line_at, goes_on, refused_here}
use Rattle.fr_why.proofs.FindingLemmas.{refused_last, accepted_last, found_holds}
use Rattle.fr_why.proofs.finding.find.Goals as goal

pub returns-in-Err-clause-found : goal.returns-in-Err-clause-found
returns-in-Err-clause-found c =
    let text = c.args.text.now in
    let start = c.loop-at.start in
    let at = c.in-Some.at in
    let next = next_feed (drop start text) _ at (take_rest text start) c.in-Some.ensures in
    subst (λ (r : Result Found TraceError). IfOk r (IsFound text)) (sym c.refused.ensures)
    (found_holds text c.in-Err.error _ (λ is. refused_here text start c.loop-at.before at c.loop-at.head
    c.loop-at.auditor c.feed.new.self _ c.in-Err.error c.loop-at.invariant next
    (piece_with start at text next) c.feed.ensures.state (sym c.feed.ensures.answer ∙ c.in-Err.is) is))

pub loop-at-preserved : goal.loop-at-preserved
loop-at-preserved c =
    let text = c.args.text.now in
    let start = c.loop-at.start in
    let at = c.in-Some.at in
    let next = next_feed (drop start text) _ at (take_rest text start) c.in-Some.ensures in
    goes_on text start c.loop-at.before at c.loop-at.head c.follow.new.head c.loop-at.auditor c.feed.new.self _ _
    c.loop-at.invariant next (piece_with start at text next) (line_at start at text) c.feed.ensures.state
    (sym c.feed.ensures.answer ∙ c.in_default-feed.is) c.follow.ensures

pub returns-in-Ok-clause-found : goal.returns-in-Ok-clause-found
returns-in-Ok-clause-found c =
    let text = c.args.text.now in
    let start = c.loop-at.start in
    let plain = no_feed_left (drop start text) _ (take_rest text start) c.in_default.ensures in
    let done = accepted_last text start c.loop-at.before c.loop-at.head c.loop-at.auditor c.feed-2.new.self
    c.in-Ok.interface c.loop-at.invariant plain (subst (λ (t : List ℕ). Reads c.loop-at.auditor t c.feed-2.new.self)
    (take_rest text start) c.feed-2.ensures.state) (sym c.finish.ensures ∙ c.in-Ok.is) in
    subst (IsFound text) (sym c.accepted.ensures.found) (
      done.0,
      c.accepted.ensures.legal,
      done.1,
      short_text text c.in-Ok.interface done.0 c.accepted.ensures.few,
    )

pub returns-in-Err-finish-clause-found : goal.returns-in-Err-finish-clause-found
returns-in-Err-finish-clause-found c =
    let text = c.args.text.now in
    let start = c.loop-at.start in
    let plain = no_feed_left (drop start text) _ (take_rest text start) c.in_default.ensures in
    subst (λ (r : Result Found TraceError). IfOk r (IsFound text)) (sym c.refused-in-Err-finish.ensures)
    (found_holds text c.in-Err-finish.error _ (λ is. refused_last text start c.loop-at.before c.loop-at.head
    c.loop-at.auditor c.feed-2.new.self c.in-Err-finish.error c.loop-at.invariant plain
    (subst (λ (t : List ℕ). Reads c.loop-at.auditor t c.feed-2.new.self)
    (take_rest text start) c.feed-2.ensures.state) (sym c.finish.ensures ∙ c.in-Err-finish.is) is))
