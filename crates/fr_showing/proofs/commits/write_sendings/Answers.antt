use Rattle.std.proofs.Common.{◌≡◌, ◌∙◌, ℕ, ◌+◌, ◌-◌, ◌<◌, ◌≤◌, true, cond, List, [], ◌∷◌, ◌++◌, length, take, Some}
use Rattle.std.proofs.Common.{refl, sym, ap, subst, arith}
use Rattle.std.specs.Prelude.{slice_get}
use Rattle.std.specs.Io.KnownBytes.{Appends}
use Rattle.std.specs.List.{flat_map}
use Rattle.fr_journal.specs.Cycles.{begins_cycle_at, run_cycle}
use Rattle.fr_journal.specs.Lent.{whole}
use Rattle.fr_showing.proofs.FateLemmas.{commit_within, cycles_more, cycles_with, handed_is, lent_none, lent_there}
use Rattle.fr_showing.proofs.FateLemmas.{unsent_here}
use Rattle.fr_showing.proofs.GoingLemmas.{ends, ends_behind, goes_on, here, starts}
use Rattle.fr_showing.specs.CommitText.{sending_text, sendings_text}
use Rattle.fr_showing.specs.Fates.{sendings_by}
use Rattle.fr_journal.specs.Cycles.{cycles_of}
use Rattle.fr_showing.proofs.commits.write_sendings.Goals as goal

pub overflow_step-number : goal.overflow_step-number
overflow_step-number g c =
    let commit = c.args.commit.now in
    let within : commit.entry < length c.args.interface.now.entries =
    commit_within c.args.interface.now.entries commit.buffer commit.entry c.requires.there in
    omega (
      arith,
      within,
      ap (length {A = _}) c.journal-journal.ensures.entries,
      c.len-end.ensures.value,
      c.len-end.ensures.few,
    )

pub loop-number-init : goal.loop-number-init
loop-number-init g c =
    let commit = c.args.commit.now in
    record {
      cycle = c.requires.cycle ∙ cycles_with c.args.interface.now.entries commit.buffer commit.entry c.requires.there;
      written =
          starts (sendings_by commit.entry) (sending_text c.args.world.now commit.node) c.args.interface.now.entries
          (sendings_text c.args.world.now commit.node c.args.interface.now.entries commit.entry)
          (g.W.Write.contents c.args.writer.now) (commit.entry + 1) refl;
    }

pub returns-in_default : goal.returns-in_default
returns-in_default g c =
    absurd (lent_none c.args.interface.now.entries c.journal-journal.result.now.entries c.loop-number.number
    c.len-end.result c.lent.result c.journal-journal.ensures.entries
    c.lent.ensures.entry c.len-end.ensures.value c.loop-number-test.true c.in_default.is)

pub returns-then-is_commit_on : goal.returns-then-is_commit_on
returns-then-is_commit_on g c =
    let commit = c.args.commit.now in
    let es = c.args.interface.now.entries in
    let n : ℕ = c.loop-number.number in
    let e = whole c.in-Some.entry in
    let there : slice_get es n ≡ Some e = lent_there es c.journal-journal.result.now.entries n c.lent.result
    c.in-Some.entry c.journal-journal.ensures.entries c.lent.ensures.entry c.in-Some.is in
    let later : commit.entry < n = omega (arith, c.loop-number.auto.number) in
    ends (sendings_by commit.entry) (sending_text c.args.world.now commit.node) es
    (sendings_text c.args.world.now commit.node es commit.entry) (g.W.Write.contents c.args.writer.now)
    (g.W.Write.contents c.loop-number.writer) n
    (ap (flat_map (sending_text c.args.world.now commit.node))
    (unsent_here c.args.interface.now commit.buffer commit.entry c.journal-journal.ensures.legal c.requires.there n e
    later there (sym c.is_commit_on.ensures ∙ c.if-is_commit_on.true)))
    c.loop-number.invariant.written

pub loop-number-preserved : goal.loop-number-preserved
loop-number-preserved g c =
    let commit = c.args.commit.now in
    let es = c.args.interface.now.entries in
    let n : ℕ = c.loop-number.number in
    let e = whole c.in-Some.entry in
    let k : ℕ = commit.entry in
    let now = g.W.Write.contents c.loop-number.writer in
    let mid = g.W.Write.contents c.write_handed.new.writer in
    let there : slice_get es n ≡ Some e = lent_there es c.journal-journal.result.now.entries n c.lent.result
    c.in-Some.entry c.journal-journal.ensures.entries c.lent.ensures.entry c.in-Some.is in
    let begun : c.begun_with-begun.result ≡ cycles_of (take (n + 1) es) =
    c.begun_with-begun.ensures ∙ ap (λ (b : ℕ). b + cond (begins_cycle_at e) 1 0) c.loop-number.invariant.cycle ∙ sym
    (cycles_more es n e there) in
    let cycle : c.begun_with-begun.result - 1 ≡ run_cycle (take n es ++ e ∷ []) =
    ap (λ (b : ℕ). b - 1) (begun ∙ ap cycles_of (here es n e there).passed) in
    record {
      cycle = begun;
      written =
          goes_on (sendings_by k) (sending_text c.args.world.now commit.node) es
          (sendings_text c.args.world.now commit.node es k)
          (g.W.Write.contents c.args.writer.now) now mid n e there c.loop-number.invariant.written
          (subst (λ (t : List ℕ). Appends now mid t) (handed_is c.args.world.now commit.node k
          (c.begun_with-begun.result - 1) (take n es) e cycle) c.in_ok-write_handed.ensures);
    }

pub returns : goal.returns
returns g c =
    let commit = c.args.commit.now in
    let es = c.args.interface.now.entries in
    let n : ℕ = c.loop-number.number in
    let le : length es ≤ n = omega (
      arith,
      c.loop-number-test.false,
      c.len-end.ensures.value,
      ap (length {A = _}) c.journal-journal.ensures.entries,
    ) in
    ends_behind (sendings_by commit.entry) (sending_text c.args.world.now commit.node) es
    (sendings_text c.args.world.now commit.node es commit.entry) (g.W.Write.contents c.args.writer.now)
    (g.W.Write.contents c.loop-number.writer) n le
    c.loop-number.invariant.written
