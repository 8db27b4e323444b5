use Rattle.std.proofs.Common.{◌≡◌, ◌+◌, ◌≤◌, [], rules, refl, ◌∙◌, inl, inr}
use Rattle.std.proofs.KnownBytes.{Appends-nil}
use Rattle.fr_latency.specs.Openings.{slots_before}
use Rattle.fr_picture.proofs.OwnerLemmas.{adds_text}
use Rattle.fr_picture.proofs.RangeLemmas.{range_moved, sender_used}
use Rattle.fr_picture.proofs.ShareLemmas.{line_height_is, line_top_is}
use Rattle.fr_picture.specs.Ranges.{IsRangeText, latest_of, range_text}
use Rattle.fr_picture.specs.Shares.{line_height, line_top}
use Rattle.fr_picture.proofs.ranges.write_sent_range.Goals as goal

pub latest_of-last-requires-clause-used : goal.latest_of-last-requires-clause-used
latest_of-last-requires-clause-used g c =
    sender_used c.args.cluster.now c.args.cycle c.args.sender.slot c.args.channel c.args.sender.node
    c.requires.sender.dynamic c.requires.sender.sender

pub returns-then-last-eq0 : goal.returns-then-last-eq0
returns-then-last-eq0 g c =
    let never : latest_of c.args.cluster.now c.args.cycle c.args.channel c.args.sender.slot ≡ 0 = search rules in
    ([], inr (inr never, refl), Appends-nil (g.W.Write.contents c.args.writer.now))

pub returns : goal.returns
returns g c =
    let d = c.args.cluster.now in
    let slot = c.args.sender.slot in
    let channel = c.args.channel in
    let node = c.args.sender.node in
    let before = c.args.before in
    let count = c.args.count in
    let earlier = slots_before d.params slot in
    let params = c.params-2.result.now in
    let first = c.slots_before-first.result + 1 in
    let last = c.latest_of-last.result in
    let params_is : params ≡ d.params = search rules in
    let first_is : first ≡ earlier + 1 = search rules in
    let last_is : last ≡ latest_of d c.args.cycle channel slot = c.latest_of-last.ensures in
    let opens : 1 ≤ latest_of d c.args.cycle channel slot = search rules in
    adds_text c.write_range.result (IsRangeText d c.args.cycle channel slot)
    (range_text params channel slot node first last c.strip_of-strip.result.top c.strip_of-strip.result.height)
    (g.W.Write.contents c.args.writer.now) (g.W.Write.contents c.write_range.new.writer)
    (inl (
      node,
      c.requires.sender,
      record {
        opens = opens;
        text_is = range_moved channel slot node params d.params first (earlier + 1) last
            (latest_of d c.args.cycle channel slot) c.strip_of-strip.result.top (line_top d c.args.cycle channel slot)
            c.strip_of-strip.result.height (line_height d c.args.cycle channel) params_is first_is last_is
            (c.strip_of-strip.ensures.top ∙ line_top_is d c.args.cycle channel slot before count c.requires.place)
            (c.strip_of-strip.ensures.height
            ∙ line_height_is d c.args.cycle channel slot before count c.requires.place);
      },
    )) c.write_range.ensures
