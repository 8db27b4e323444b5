-- One more window of a run, in which nothing is sent, or a frame that a host committed right before it.
use Rattle.std.proofs.Common.{◌≡◌, ℕ, ◌+◌, ◌<◌, ◌≤◌, false, List, [], ◌∷◌, ◌++◌, length, length-append, Some, None}
use Rattle.std.proofs.Common.{refl, sym, ap, subst, ◌∙◌, arith, slice_get}
use Rattle.std.specs.Prelude.{count_by}
use Rattle.fr_bus.specs.Courses.{IsCourse, course_of}
use Rattle.fr_bus.specs.Outcome.{longest}
use Rattle.fr_bus.specs.Record.{Recorded}
use Rattle.fr_bus.specs.Windows.{following}
use Rattle.fr_core.specs.Steps.{offer_of}
use Rattle.fr_core.specs.Worlds.{WorldState, interface_at}
use Rattle.fr_guarantees.proofs.FollowingLemmas.{following_fits}
use Rattle.fr_guarantees.proofs.HeardLemmas.{longest_none, none_pass}
use Rattle.fr_guarantees.proofs.JournalLemmas.{HasWindows, fetch_ready, windows_more, hosts_same}
use Rattle.fr_guarantees.proofs.ObservingLemmas.{IsObserved}
use Rattle.fr_guarantees.proofs.OfferingLemmas.{fetched_by}
use Rattle.fr_guarantees.proofs.ProgressLemmas.{course_next, number_fits}
use Rattle.fr_guarantees.proofs.SilenceLemmas.{Keeps, HasReady, IsMute, none_offered, no_bytes, kept_after}
use Rattle.fr_guarantees.proofs.WindowLemmas.{recorded_by, IsBetween, HasPassed, has_passed}
use Rattle.fr_guarantees.specs.Exactness.{HasRoom}
use Rattle.fr_guarantees.specs.Leading.{Leads}
use Rattle.fr_interface.specs.State.{State, fetch_refusal}
use Rattle.fr_journal.specs.Entries.{is_host}
use Rattle.fr_journal.specs.Offers.{commit_offered}
use Rattle.fr_schedule.specs.Descriptions.{Description}
use Rattle.fr_slots.specs.declared.channel.Channel.{Channel}
use Rattle.fr_slots.specs.Parameters.{Parameters}
use Rattle.fr_slots.specs.Plans.{Plan}
use Rattle.fr_slots.specs.Windows.{Opportunity, is_static, window_fits}

-- ---- worlds on the way

-- The interface of this node has journaled so many windows and at most so many calls. These commits are ready.
pub record IsNodeAt (d : Description) (kept : Keeps) (n : ℕ) (s : State) (many calls : ℕ) : Type 0 where
  pub params_are : s.params ≡ d.params
  pub plan_at : slice_get d.plans n ≡ Some s.plan
  pub has : HasWindows s many
  pub hosts : count_by is_host s.entries ≤ calls
  pub ready : HasReady kept s

-- a world of the cluster between two windows, in which no host made more calls
pub record IsAt (d : Description) (cycles : ℕ) (kept : ℕ → Keeps) (calls : ℕ) (w : WorldState) : Type 0 where
  pub cluster : w.bus.cluster ≡ d
  pub cycles_are : w.bus.cycles ≡ cycles
  pub one_each : length w.interfaces ≡ length d.plans
  pub course : IsCourse (course_of d.params cycles w.bus.sealed)
  pub between : IsBetween w
  pub nodes : (n : ℕ) → n < length w.interfaces
      → IsNodeAt d (kept n) n (interface_at w n) (length w.bus.sealed) calls

-- no node sends a commit that is ready in the window
abbrev pub AreMute : Description → (ℕ → Keeps) → Opportunity → Type 0
AreMute d kept window = (n : ℕ) (plan : Plan) → slice_get d.plans n ≡ Some plan → IsMute (kept n) plan window

-- The window has passed. If it was dynamic, the longest transmission on the channel had so many bytes.
pub record IsPast (d : Description) (cycles : ℕ) (kept : ℕ → Keeps) (calls : ℕ) (w : WorldState) (window : Opportunity)
    (channel : Channel) (bytes : ℕ) : Type 0 where
  pub world : WorldState
  pub leads : Leads w world
  pub is_at : IsAt d cycles kept calls world
  pub recorded : Recorded
  pub sealed : world.bus.sealed ≡ w.bus.sealed ++ recorded ∷ []
  pub window_is : recorded.window ≡ window
  pub longest_is : is_static window ≡ false → longest channel recorded.sent ≡ bytes

-- no more calls were made than so many more
pub at_more : (d : Description) (cycles : ℕ) (kept : ℕ → Keeps) (calls more : ℕ) (w : WorldState) → calls ≤ more
    → IsAt d cycles kept calls w → IsAt d cycles kept more w
at_more d cycles kept calls more w few here = record {
  cluster = here.cluster;
  cycles_are = here.cycles_are;
  one_each = here.one_each;
  course = here.course;
  between = here.between;
  nodes = λ n within. (
      let node = here.nodes n within in
      record {
        params_are = node.params_are;
        plan_at = node.plan_at;
        has = node.has;
        hosts = omega (arith, node.hosts, few);
        ready = node.ready;
      });
}

pub past_more : (d : Description) (cycles : ℕ) (kept : ℕ → Keeps) (calls more bytes : ℕ) (w : WorldState)
    (window : Opportunity) (channel : Channel) → calls ≤ more → IsPast d cycles kept calls w window channel bytes
    → IsPast d cycles kept more w window channel bytes
past_more d cycles kept calls more bytes w window channel few past = record {
  world = past.world;
  leads = past.leads;
  is_at = at_more d cycles kept calls more past.world few past.is_at;
  recorded = past.recorded;
  sealed = past.sealed;
  window_is = past.window_is;
  longest_is = past.longest_is;
}

pub next_here : (d : Description) (cycles : ℕ) (kept : ℕ → Keeps) (calls : ℕ) (w : WorldState)
    → IsAt d cycles kept calls w
    → following w.bus.cluster.params w.bus.cycles w.bus.sealed ≡ following d.params cycles w.bus.sealed
next_here d cycles kept calls w here = λ i. following (here.cluster i).params (here.cycles_are i) w.bus.sealed

-- the world after one more window, from its nodes
pub at_next : (d : Description) (cycles : ℕ) (kept keeps : ℕ → Keeps) (calls more : ℕ) (w v : WorldState) (r : Recorded)
    → IsAt d cycles kept calls w → following d.params cycles w.bus.sealed ≡ Some r.window
    → v.bus.cluster ≡ w.bus.cluster → v.bus.cycles ≡ w.bus.cycles → length v.interfaces ≡ length w.interfaces
    → v.bus.sealed ≡ w.bus.sealed ++ r ∷ [] → IsBetween v
    → ((n : ℕ) → n < length w.interfaces
    → IsNodeAt d (keeps n) n (interface_at v n) (length w.bus.sealed + 1) more)
    → IsAt d cycles keeps more v
at_next d cycles kept keeps calls more w v r here next cluster cycles_are long sealed between nodes =
    let many : length w.bus.sealed + 1 ≡ length v.bus.sealed =
    sym (ap (λ (rs : List Recorded). length rs) sealed ∙ length-append w.bus.sealed (r ∷ [])) in
    record {
      cluster = cluster ∙ here.cluster;
      cycles_are = cycles_are ∙ here.cycles_are;
      one_each = long ∙ here.one_each;
      course = subst (λ (rs : List Recorded). IsCourse (course_of d.params cycles rs)) (sym sealed)
          (course_next d.params cycles w.bus.sealed r here.course next);
      between = between;
      nodes = λ n within. subst (λ (m : ℕ). IsNodeAt d (keeps n) n (interface_at v n) m more) many
          (nodes n (subst (λ (m : ℕ). n < m) long within));
    }

module _ (d : Description) (cycles most : ℕ) (room : HasRoom d cycles most) (kept : ℕ → Keeps) where
  -- an interface between two windows takes the next one
  pub takes_next : (n : ℕ) (s : State) (rs : List Recorded) (window : Opportunity) → s.params ≡ d.params
      → slice_get d.plans n ≡ Some s.plan → HasWindows s (length rs) → IsCourse (course_of d.params cycles rs)
      → following d.params cycles rs ≡ Some window → fetch_refusal s window ≡ None
  takes_next n s rs window params_are plan_at has course next =
      let fitting = following_fits d.params cycles rs window
      (omega (arith, course.lawful.static_slots_fit.from_least)) next in
      let fits = number_fits d.params cycles rs window course next in
      let many = room.for_windows n s.plan plan_at in
      fetch_ready s window (subst (HasWindows s) (sym fitting.number_is) has)
      (ap (λ (p : Parameters). window_fits p window) params_are ∙ fitting.fits)
      (omega (arith, fits, many, fitting.number_is))

  -- a node after a window
  pub node_past : (n many calls : ℕ) (s t : State) (window : Opportunity) → IsNodeAt d (kept n) n s many calls
      → AreMute d kept window → window.number ≡ many → IsObserved (fetched_by s window) t window
      → IsNodeAt d (kept n) n t (many + 1) calls
  node_past n many calls s t window was mute number_is seen = record {
    params_are = ap (λ (x : State). x.params) seen.is ∙ was.params_are;
    plan_at = was.plan_at ∙ ap (λ (x : State). Some x.plan) (sym seen.is);
    has = windows_more s t window many was.has number_is seen;
    hosts = subst (λ (m : ℕ). m ≤ calls) (sym (hosts_same s t window seen)) was.hosts;
    ready = kept_after (kept n) s t window was.ready (mute n s.plan was.plan_at) seen;
  }

  module _ (calls : ℕ) (w : WorldState) (here : IsAt d cycles kept calls w) (window : Opportunity)
      (next : following d.params cycles w.bus.sealed ≡ Some window) where
    pub takes_here : (n : ℕ) → n < length w.interfaces → fetch_refusal (interface_at w n) window ≡ None
    takes_here n within =
        let node = here.nodes n within in
        takes_next n (interface_at w n) w.bus.sealed window node.params_are node.plan_at node.has here.course next

    pub number_here : window.number ≡ length w.bus.sealed
    number_here = (following_fits d.params cycles w.bus.sealed window
        (omega (arith, here.course.lawful.static_slots_fit.from_least)) next).number_is

    -- ---- a window without a call of a host

    module _ (mute : AreMute d kept window) where
      pub past_silent : HasPassed w window
      past_silent = has_passed w window here.between (next_here d cycles kept calls w here ∙ next) takes_here

      pub at_silent : IsAt d cycles kept calls past_silent.world
      at_silent = at_next d cycles kept kept calls calls w past_silent.world
          (recorded_by w.bus.cluster window past_silent.stations) here next past_silent.cluster past_silent.cycles
          past_silent.interfaces_long past_silent.sealed past_silent.is_between
          (λ n within. node_past n (length w.bus.sealed) calls (interface_at w n) (interface_at past_silent.world n)
          window (here.nodes n within) mute number_here (past_silent.interfaces n within))

      pub none_commits : (channel : Channel) (n : ℕ) → n < length w.interfaces
          → commit_offered (interface_at w n).plan (interface_at w n).entries window channel ≡ None
      none_commits channel n within =
          none_offered (kept n) (interface_at w n) (here.nodes n within).ready window
          (mute n (interface_at w n).plan (here.nodes n within).plan_at) channel

  -- nothing is sent in the window
  pub passes_silent : (calls : ℕ) (w : WorldState) (window : Opportunity) (channel : Channel)
      → IsAt d cycles kept calls w → following d.params cycles w.bus.sealed ≡ Some window → AreMute d kept window
      → IsPast d cycles kept calls w window channel 0
  passes_silent calls w window channel here next mute =
      let past = past_silent calls w here window next mute in
      let r = recorded_by w.bus.cluster window past.stations in
      let in_w : (n : ℕ) → n < length past.stations → n < length w.interfaces =
      λ n within. subst (λ (m : ℕ). n < m) past.offers.one_each within in
      record {
        world = past.world;
        leads = past.leads;
        is_at = at_silent calls w here window next mute;
        recorded = r;
        sealed = past.sealed;
        window_is = refl;
        longest_is = λ dynamic. longest_none channel r.sent (none_pass w.bus.cluster window channel past.stations
            (λ n. offer_of (interface_at w n) window) (λ n within. past.offers.are n (in_w n within))
            (λ n within. no_bytes (interface_at w n) window channel dynamic
            (none_commits calls w here window next mute channel n (in_w n within))));
      }
