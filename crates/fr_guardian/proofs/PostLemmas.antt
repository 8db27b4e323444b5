-- The posts of a guardian, and the open macroticks of its nodes.
use Rattle.std.proofs.Common.{◌≡◌, ℕ, zero, suc, ◌+◌, ◌%◌, ◌≤◌, not, Bool, true, ◌||◌}
use Rattle.std.proofs.Common.{List, [], ◌∷◌, ◌++◌, length, take, refl, sym, ap, subst}
use Rattle.std.proofs.Common.{◌∙◌, inl, inr, arith, max, Option, Some, None, map, option_map, slice_get, ◌↔◌}
use Rattle.std.proofs.lemmas.Option.{same_Some, slice_get-map, get_or_from_slice_get, slice_get_within}
use Rattle.std.proofs.lemmas.Grind.{flat_map-append}
use Rattle.std.proofs.Math.Nat.{max_comm, le-max_left, le-max_right}
use Rattle.std.proofs.lemmas.List.{map-append, length_push, take_more, take_all, append-nil}
use Rattle.std.specs.List.{All}
use Rattle.std.proofs.lemmas.List.Elements.{All-push, All-nil}
use Rattle.fr_slots.specs.declared.channel.Channel.{Channel}
use Rattle.fr_slots.specs.declared.channel.Channel.TheVariants.{A, B}
use Rattle.fr_slots.specs.declared.channel.Channels.{Channels}
use Rattle.fr_slots.specs.Parameters.{Parameters}
use Rattle.fr_slots.specs.declared.plan.Own.{Own}
use Rattle.fr_slots.specs.Admission.{is_repetition}
use Rattle.fr_slots.specs.Plans.{Plan, IsOwn, Each}
use Rattle.fr_slots.proofs.PlaceLemmas.{place-append}
use Rattle.fr_schedule.specs.Clusters.{IsNode, IsCluster}
use Rattle.fr_schedule.specs.Descriptions.{Description, is_guarded}
use Rattle.fr_schedule.specs.FileFaults.{all_owned}
use Rattle.fr_guardian.specs.declared.guardian.Post.{Post}
use Rattle.fr_guardian.specs.GuardianFields.{Row, rows_on, AreRows, IsRowAt, IsPost, ArePosts, IsLawful, description_in}
use Rattle.fr_guardian.specs.declared.guardian.Guardian.TheInside.{Inside}
use Rattle.fr_guardian.specs.Guarding.{is_open, IsOpenTo, IsOpenMacrotick}
use Rattle.fr_guardian.specs.Periods.{period}
use Rattle.fr_guardian.specs.Intervals.{Span, AreMaximalIntervals}
use Rattle.fr_guardian.proofs.AloneLemmas.{each_at}
use Rattle.fr_guardian.proofs.PeriodLemmas.{AreWithin, owned_again, period_is, period_some}
use Rattle.fr_guardian.proofs.PeriodLemmas.{within_period, period-append, within_more}
use Rattle.fr_guardian.proofs.SpanLemmas.{same_set, none_of}
use Rattle.fr_timing.specs.Layout.{Part, static_slot, minislot, symbol_window, idle_time, part_of}

-- the open parts of a cycle are those of each cycle some periods later
same_open : (most : ℕ) → is_repetition most ≡ true → (guarded : Bool) (owned : List Own) → Each IsOwn owned
    → AreWithin most owned
    → (cycle : ℕ) (channel : Channel) (part : Part) → is_open guarded owned (cycle % most) channel part ≡ is_open
    guarded owned cycle channel part
same_open most is guarded owned lawful within cycle channel (static_slot slot) =
    ap (λ (b : Bool). not guarded || b) (owned_again most is owned lawful within slot channel cycle)
same_open most is guarded owned lawful within cycle channel (minislot number) = refl
same_open most is guarded owned lawful within cycle channel symbol_window = refl
same_open most is guarded owned lawful within cycle channel idle_time = refl

-- the owned slots of a plan are lawful
lines_are : (d : Description) → IsCluster d → (node : ℕ) (plan : Plan) → slice_get d.plans node ≡ Some plan
    → Each IsOwn plan.owned
lines_are d lawful node plan is = (each_at (IsNode d.params) d.plans node plan lawful.nodes_are is).0.owned_are

-- the intervals of a plan are those of the node that has it
pub node_windows : (d : Description) → IsCluster d → (node cycle : ℕ) (channel : Channel) (plan : Plan)
    (spans : List Span) → slice_get d.plans node ≡ Some plan
    → AreMaximalIntervals (IsOpenTo d.params (is_guarded d.guard channel) plan.owned
    (cycle % period plan.owned) channel) spans
    → AreMaximalIntervals (IsOpenMacrotick d node cycle channel) spans
node_windows d lawful node cycle channel plan spans is h =
    same_set (IsOpenTo d.params (is_guarded d.guard channel) plan.owned (cycle % period plan.owned) channel)
    (IsOpenMacrotick d node cycle channel) spans
    (λ n opens. record {
      plan = plan;
      of_node = is;
      open_to =
          record { place = opens.place; at = opens.at; opens = there (part_of opens.place) opens.opens };
    })
    (λ n opens.
    let same_plan : opens.plan ≡ plan = (let a = opens.of_node in cc) in
    let opened = subst (λ (x : Plan). IsOpenTo d.params (is_guarded d.guard channel) x.owned cycle channel n) same_plan
    opens.open_to in
    record { place = opened.place; at = opened.at; opens = back (part_of opened.place) opened.opens })
    h
  where
    same : (part : Part) → is_open (is_guarded d.guard channel) plan.owned (cycle % period plan.owned) channel part
        ≡ is_open (is_guarded d.guard channel) plan.owned cycle channel part
    same = same_open (period plan.owned) (period_is plan.owned (lines_are d lawful node plan is))
        (is_guarded d.guard channel) plan.owned
        (lines_are d lawful node plan is) (within_period plan.owned) cycle channel

    there : (part : Part) → is_open (is_guarded d.guard channel) plan.owned (cycle % period plan.owned) channel part
        ≡ true
        → is_open (is_guarded d.guard channel) plan.owned cycle channel part ≡ true
    there part opens = sym (same part) ∙ opens

    back : (part : Part) → is_open (is_guarded d.guard channel) plan.owned cycle channel part ≡ true
        → is_open (is_guarded d.guard channel) plan.owned (cycle % period plan.owned) channel part ≡ true
    back part opens = same part ∙ opens

pub no_windows : (d : Description) (node cycle : ℕ) (channel : Channel) → slice_get d.plans node ≡ None
    → AreMaximalIntervals (IsOpenMacrotick d node cycle channel) []
no_windows d node cycle channel is = none_of (IsOpenMacrotick d node cycle channel)
    (λ n opens. let a = opens.of_node in cc)

-- a post of a node
record IsAtNode (d : Description) (posts : List Post) (node : ℕ) (post : Post) : Type 0 where
  plan_is : slice_get d.plans node ≡ Some post.plan
  post_is : IsPost d post

at_node : (d : Description) (posts : List Post) (node : ℕ) (post : Post) → ArePosts d posts
    → slice_get posts node ≡ Some post → IsAtNode d posts node post
at_node d posts node post h is =
    record {
      plan_is = ap (λ (xs : List Plan). slice_get xs node) (sym h.plans_are) ∙ slice_get-map
          (λ (x : Post). x.plan) posts node ∙ ap (option_map (λ (x : Post). x.plan)) is;
      post_is = subst (IsPost d) (get_or_from_slice_get posts node post post is)
          (h.each node post (slice_get_within posts node post is));
    }

pub plan_at : (d : Description) (posts : List Post) (node : ℕ) (post : Post) → ArePosts d posts
    → slice_get posts node ≡ Some post → slice_get d.plans node ≡ Some post.plan
plan_at d posts node post h is = (at_node d posts node post h is).plan_is

-- the rows of the post on the channel
rows_are : (d : Description) (post : Post) (channel : Channel) → IsPost d post
    → AreRows d.params (is_guarded d.guard channel) post.plan.owned channel (rows_on post channel)
rows_are d post A is = is.on_a
rows_are d post B is = is.on_b

pub some_rows : (d : Description) (posts : List Post) (node : ℕ) (post : Post) (channel : Channel) → ArePosts d posts
    → slice_get posts node ≡ Some post
    → 1 ≤ length (rows_on post channel)
some_rows d posts node post channel h is =
    let rows = rows_are d post channel (at_node d posts node post h is).post_is in
    subst (λ n. 1 ≤ n) (sym rows.size) (period_some post.plan.owned)

pub windows_at : (d : Description) → IsCluster d → (posts : List Post) (node cycle : ℕ) (post : Post)
    (channel : Channel) (spans : List Span) → ArePosts d posts
    → slice_get posts node ≡ Some post → IsRowAt (rows_on post channel) cycle spans
    → AreMaximalIntervals (IsOpenMacrotick d node cycle channel) spans
windows_at d lawful posts node cycle post channel spans h is row =
    let w = at_node d posts node post h is in
    let rows = rows_are d post channel w.post_is in
    let guarded = is_guarded d.guard channel in
    let here = subst (λ n. AreMaximalIntervals (IsOpenTo d.params guarded post.plan.owned (cycle % n) channel)
    row.row.items) rows.size
    (rows.each (cycle % length (rows_on post channel)) row.row row.at) in
    node_windows d lawful node cycle channel post.plan spans w.plan_is
    (subst (λ (xs : List Span). AreMaximalIntervals (IsOpenTo d.params guarded post.plan.owned
    (cycle % period post.plan.owned) channel) xs) row.spans_are here)

pub windows_none : (d : Description) (posts : List Post) (node cycle : ℕ) (channel : Channel) → ArePosts d posts
    → slice_get posts node ≡ None
    → AreMaximalIntervals (IsOpenMacrotick d node cycle channel) []
windows_none d posts node cycle channel h is =
    no_windows d node cycle channel (ap (λ (xs : List Plan). slice_get xs node) (sym h.plans_are) ∙ slice_get-map
    (λ (x : Post). x.plan) posts node ∙ ap (option_map (λ (x : Post). x.plan)) is)

-- ---- rows, one cycle after another

-- the rows of so many cycles
pub record AreFirstRows (p : Parameters) (guarded : Bool) (owned : List Own) (channel : Channel) (count : ℕ)
    (rows : List Row) : Type 0 where
  pub size : length rows ≡ count
  pub each : (cycle : ℕ) (row : Row) → slice_get rows cycle ≡ Some row
      → AreMaximalIntervals (IsOpenTo p guarded owned cycle channel) row.items

pub rows_none : (p : Parameters) (guarded : Bool) (owned : List Own) (channel : Channel)
    → AreFirstRows p guarded owned channel 0 []
rows_none p guarded owned channel = record { size = refl; each = λ cycle row at. absurd (cc) }

pub rows_more : (p : Parameters) (guarded : Bool) (owned : List Own) (channel : Channel) (count : ℕ) (rows : List Row)
    (row : Row)
    → AreFirstRows p guarded owned channel count rows → AreMaximalIntervals (IsOpenTo p guarded owned count channel)
    row.items
    → AreFirstRows p guarded owned channel (count + 1) (rows ++ row ∷ [])
rows_more p guarded owned channel count rows row h this = record {
  size = length_push rows row ∙ ap (λ n. n + 1) h.size;
  each = λ cycle other at.
      elim (place-append rows (row ∷ []) cycle other at) [
        | inl before ↦ h.each cycle other before
        | inr after ↦
            (let (first, same) = only_one row after.place other after.at in
            let place_is = after.place_is in
            let here : cycle ≡ count = omega (arith, place_is, first, h.size) in
            subst (λ (n : ℕ). AreMaximalIntervals (IsOpenTo p guarded owned n channel) other.items) (sym here)
            (subst (λ (r : Row). AreMaximalIntervals (IsOpenTo p guarded owned count channel) r.items) same this))
      ];
}
  where
    only_one : (x : Row) (k : ℕ) (y : Row) → slice_get (x ∷ []) k ≡ Some y → (k ≡ 0) × (x ≡ y)
    only_one x zero y at = (refl, same_Some x y at)
    only_one x (suc k) y at = absurd (cc)

pub rows_all : (p : Parameters) (guarded : Bool) (owned : List Own) (channel : Channel) (count : ℕ) (rows : List Row)
    → AreFirstRows p guarded owned channel count rows → count ≡ period owned → AreRows p guarded owned channel rows
rows_all p guarded owned channel count rows h all = record { size = h.size ∙ all; each = h.each }

-- ---- the cycles after which the open macroticks of all nodes repeat

abbrev pub plan_of : Post → Plan
plan_of post = post.plan

-- the greatest repetition of so many posts
pub cycles_more : (posts : List Post) (post : Post)
    → period (all_owned (map plan_of (posts ++ post ∷ []))) ≡ max (period post.plan.owned)
    (period (all_owned (map plan_of posts)))
cycles_more posts post =
    ap (λ (plans : List Plan). period (all_owned plans)) (map-append plan_of posts (post ∷ []))
    ∙ ap period (flat_map-append (λ (plan : Plan). plan.owned) (map plan_of posts) (post.plan ∷ []))
    ∙ ap (λ (lines : List Own). period (all_owned (map plan_of posts) ++ lines)) (append-nil post.plan.owned)
    ∙ period-append (all_owned (map plan_of posts)) post.plan.owned
    ∙ max_comm (period (all_owned (map plan_of posts))) (period post.plan.owned)

-- no line of a node has a greater repetition than all lines have
within_all : (plans : List Plan) (node : ℕ) (plan : Plan) → slice_get plans node ≡ Some plan
    → AreWithin (period (all_owned plans)) plan.owned
within_all [] node plan is = absurd (cc)
within_all (first ∷ plans) zero plan is =
    subst (λ (x : Plan). AreWithin (period (first.owned ++ all_owned plans)) x.owned) (same_Some first plan is)
    (subst (λ n. AreWithin n first.owned) (sym (period-append first.owned (all_owned plans)))
    (within_more (period first.owned) _ (le-max_left (period first.owned) (period (all_owned plans))) first.owned
    (within_period first.owned)))
within_all (first ∷ plans) (suc node) plan is =
    subst (λ n. AreWithin n plan.owned) (sym (period-append first.owned (all_owned plans)))
    (within_more (period (all_owned plans)) _ (le-max_right (period first.owned) (period (all_owned plans))) plan.owned
    (within_all plans node plan is))

Each-append : {X : Type 0} (P : X → Type 0) (xs ys : List X) → Each P xs → Each P ys → Each P (xs ++ ys)
Each-append P [] ys px py = py
Each-append P (x ∷ xs) ys px py = (px.0, Each-append P xs ys px.1 py)

all_lines : (p : Parameters) (plans : List Plan) → Each (IsNode p) plans → Each IsOwn (all_owned plans)
all_lines p [] nodes = tt
all_lines p (plan ∷ plans) nodes = Each-append IsOwn plan.owned (all_owned plans) nodes.0.0.owned_are
    (all_lines p plans nodes.1)

pub opens_again : (d : Description) → IsCluster d → (most : ℕ) → most ≡ period (all_owned d.plans)
    → (node cycle macrotick : ℕ) (channel : Channel)
    → IsOpenMacrotick d node (cycle % most) channel macrotick ↔ IsOpenMacrotick d node cycle channel macrotick
opens_again d lawful most is node cycle macrotick channel = (
  λ opens. record {
    plan = opens.plan;
    of_node = opens.of_node;
    open_to = record {
      place = opens.open_to.place;
      at = opens.open_to.at;
      opens = sym (same opens.plan opens.of_node (part_of opens.open_to.place)) ∙ opens.open_to.opens;
    };
  },
  λ opens. record {
    plan = opens.plan;
    of_node = opens.of_node;
    open_to = record {
      place = opens.open_to.place;
      at = opens.open_to.at;
      opens = same opens.plan opens.of_node (part_of opens.open_to.place) ∙ opens.open_to.opens;
    };
  },
)
  where
    same : (plan : Plan) → slice_get d.plans node ≡ Some plan → (part : Part)
        → is_open (is_guarded d.guard channel) plan.owned (cycle % most) channel part ≡ is_open
        (is_guarded d.guard channel) plan.owned cycle channel part
    same plan at =
        same_open most (subst (λ n. is_repetition n ≡ true) (sym is)
        (period_is (all_owned d.plans) (all_lines d.params d.plans lawful.nodes_are)))
        (is_guarded d.guard channel) plan.owned (lines_are d lawful node plan at)
        (subst (λ n. AreWithin n plan.owned) (sym is) (within_all d.plans node plan at)) cycle channel

-- ---- one post after another

-- the posts of so many nodes
pub record AreFirst (d : Description) (count : ℕ) (posts : List Post) : Type 0 where
  pub plans_are : map (λ (post : Post). post.plan) posts ≡ take count d.plans
  pub each : All (IsPost d) posts

pub first_none : (d : Description) → AreFirst d 0 []
first_none d = record { plans_are = refl; each = All-nil (IsPost d) }

pub first_more : (d : Description) (count : ℕ) (posts : List Post) (post : Post) → AreFirst d count posts
    → slice_get d.plans count ≡ Some post.plan → IsPost d post
    → AreFirst d (count + 1) (posts ++ post ∷ [])
first_more d count posts post h is this =
    record {
      plans_are = map-append (λ (x : Post). x.plan) posts (post ∷ []) ∙ ap
          (λ (xs : List Plan). xs ++ post.plan ∷ []) h.plans_are ∙ ap (λ (x : Plan). take count d.plans ++ x ∷ [])
          (sym (get_or_from_slice_get d.plans count post.plan post.plan is)) ∙ sym
          (take_more d.plans count post.plan (slice_get_within d.plans count post.plan is));
      each = All-push (IsPost d) posts post h.each this;
    }

pub first_all : (d : Description) (count : ℕ) (posts : List Post) → AreFirst d count posts → count ≡ length d.plans
    → ArePosts d posts
first_all d count posts h all = record { plans_are = h.plans_are ∙ take_all count d.plans (omega arith); each = h.each }

-- ---- the fields of a guardian

abbrev of_parts : Parameters → Option Channels → List Plan → Description
of_parts params guard plans = record { params = params; guard = guard; plans = plans }

made_same : (g : Inside) (d : Description) → g.params ≡ d.params → g.guard ≡ d.guard
    → map (λ (post : Post). post.plan) g.posts.items ≡ d.plans → d ≡ description_in g
made_same g d params guard plans =
    sym
    (ap (λ (x : Parameters). of_parts x g.guard (map (λ (post : Post). post.plan) g.posts.items)) params
    ∙ ap (λ (x : Option Channels). of_parts d.params x (map (λ (post : Post). post.plan) g.posts.items)) guard
    ∙ ap (λ (x : List Plan). of_parts d.params d.guard x) plans)

pub kept_posts : (g : Inside) (d : Description) → IsLawful g → description_in g ≡ d → ArePosts d g.posts.items
kept_posts g d lawful is = subst (λ (x : Description). ArePosts x g.posts.items) is
    (record { plans_are = refl; each = lawful.each })

pub made_lawful : (g : Inside) (d : Description) → IsCluster d → g.params ≡ d.params → g.guard ≡ d.guard
    → ArePosts d g.posts.items → IsLawful g
made_lawful g d cluster params guard posts =
    let same : d ≡ description_in g = made_same g d params guard posts.plans_are in
    record {
      cluster = subst IsCluster same cluster;
      each = subst (λ (x : Description). All (IsPost x) g.posts.items)
          same posts.each;
    }
