use Rattle.std.proofs.Common.{◌≡◌, Some, None, List, [], subst, sym, ap, ◌∙◌, slice_get}
use Rattle.fr_schedule.specs.Clusters.{IsCluster}
use Rattle.fr_guardian.specs.GuardianFields.{Row, IsRowAt}
use Rattle.fr_guardian.specs.Guarding.{IsOpenMacrotick}
use Rattle.fr_guardian.specs.declared.guardian.Post.{Post}
use Rattle.fr_guardian.proofs.SameLemmas.{maximal_same}
use Rattle.fr_guardian.proofs.PostLemmas.{kept_posts, some_rows, windows_at, windows_none}
use Rattle.fr_guardian.proofs.guardian.Guardian.windows.Goals as goal

pub row_at-requires : goal.row_at-requires
row_at-requires c =
    let posts = c.self.inside.posts.items in
    let are = kept_posts c.self.inside c.args.self.now c.self.invariant c.self.view_is in
    let at : slice_get posts c.args.node ≡ Some c.in-Some.post.now =
    ap (λ (xs : List Post). slice_get xs c.args.node) (sym c.as_slice.ensures.value) ∙ sym c.in-Some.ensures in
    rw c.rows_on.ensures (some_rows c.args.self.now posts c.args.node c.in-Some.post.now c.args.channel are at)

pub returns-in-Some : goal.returns-in-Some
returns-in-Some c =
    let d = c.args.self.now in
    let posts = c.self.inside.posts.items in
    let are = kept_posts c.self.inside d c.self.invariant c.self.view_is in
    let at : slice_get posts c.args.node ≡ Some c.in-Some.post.now =
    ap (λ (xs : List Post). slice_get xs c.args.node) (sym c.as_slice.ensures.value) ∙ sym c.in-Some.ensures in
    let row = subst (λ (rows : List Row). IsRowAt rows c.args.cycle c.row_at.result.now) c.rows_on.ensures
    c.row_at.ensures in
    let found = windows_at d (subst IsCluster c.self.view_is c.self.invariant.cluster) posts c.args.node c.args.cycle
    c.in-Some.post.now c.args.channel c.row_at.result.now are at row in
    record {
      found = found;
      only = λ others are. maximal_same
          (IsOpenMacrotick d c.args.node c.args.cycle c.args.channel) c.row_at.result.now others found are;
    }

pub returns-in-None : goal.returns-in-None
returns-in-None c =
    let posts = c.self.inside.posts.items in
    let at : slice_get posts c.args.node ≡ None = ap (λ (xs : List Post). slice_get xs c.args.node)
    (sym c.as_slice.ensures.value) ∙ sym c.in-None.ensures in
    let found = windows_none c.args.self.now posts c.args.node c.args.cycle c.args.channel
    (kept_posts c.self.inside c.args.self.now c.self.invariant c.self.view_is) at in
    record {
      found = found;
      only = λ others are. maximal_same
          (IsOpenMacrotick c.args.self.now c.args.node c.args.cycle c.args.channel) [] others found are;
    }
