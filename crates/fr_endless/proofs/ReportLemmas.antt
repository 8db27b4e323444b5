-- The report by the kept data of a node is that of each world with its history.
use Rattle.std.proofs.Common.{◌≡◌, ℕ, zero, suc, ◌<◌, ◌≤◌, Bool, true, false, List, [], ◌∷◌, length, cond, get_or, map}
use Rattle.std.proofs.Common.{Some, None, Ok, refl, sym, ap, subst, ◌∙◌, arith}
use Rattle.std.proofs.lemmas.Bool.{lt-ltb, le-ltb}
use Rattle.std.specs.Prelude.{slice_get, slice_index_or}
use Rattle.fr_bus.specs.Standing.{roomless, no_room}
use Rattle.fr_core.proofs.ClusterLemmas.{steps_cluster}
use Rattle.fr_core.specs.declared.event.Event.{Event}
use Rattle.fr_core.specs.Runs.{Answer, StepsAll}
use Rattle.fr_core.specs.Steps.{Steps, step_done, step_reply}
use Rattle.fr_live.specs.LiveSteps.{Accepts}
use Rattle.fr_core.specs.declared.error.StepError.TheVariants.{UnknownNode}
use Rattle.fr_core.specs.Worlds.{WorldState, has_node, interface_at, no_interface, without_entries, new_interface}
use Rattle.fr_endless.specs.Alike.{buffers_in, buffers_each}
use Rattle.fr_auditing.proofs.KeptLemmas.{report_same}
use Rattle.fr_auditing.specs.KeptReport.{kept_report}
use Rattle.fr_endless.specs.Answers.{IsReportOf, kept_status, IsStatusOf}
use Rattle.fr_interface.proofs.StandingLemmas.{answer-counters}
use Rattle.fr_interface.specs.Standing.{Standing, IsHistory}
use Rattle.fr_interface.specs.State.{State}
use Rattle.fr_lines.specs.Spelling.{line_text}
use Rattle.fr_live.proofs.LeadLemmas.{as_many}
use Rattle.fr_live.specs.LiveWorlds.{LiveState, AreHistories, IsWorldHistory}
use Rattle.fr_schedule.specs.Descriptions.{Description}
use Rattle.fr_session.proofs.QueryLemmas.{counts_same}
use Rattle.fr_session.specs.Queries.{IsBlock, IsBlockIf, counters_on, status_line, status_text}
use Rattle.fr_session.specs.Replies.{refusal_words}
use Rattle.fr_slots.specs.declared.channel.Channel.{Channel}
use Rattle.fr_slots.specs.Parameters.{Parameters}
use Rattle.fr_slots.specs.Plans.{Plan, with_limits}
use Rattle.fr_status.specs.declared.counters.Counters.{Counters}
use Rattle.fr_trace.specs.ReportText.{counts_in, report_text}

-- ---- the interfaces of a world

pub history_got : (hs : List Standing) (ss : List State) (n : ℕ) (h : Standing) → AreHistories hs ss → n < length hs
    → h ≡ get_or hs n h → IsHistory h (slice_index_or ss n no_interface)
history_got [] ss n h are lt at = absurd (let none_is : ⊥ = omega (arith, lt) in none_is)
history_got (g ∷ hs) [] n h are lt at = absurd are
history_got (g ∷ hs) (s ∷ ss) zero h are lt at = subst (λ (x : Standing). IsHistory x s) (sym at) are.0
history_got (g ∷ hs) (s ∷ ss) (suc n) h are lt at = history_got hs ss n h are.1 (omega (arith, lt)) at

count_got : (ss : List State) (n count : ℕ) → slice_get (buffers_each ss) n ≡ Some count
    → (n < length ss) × (count ≡ length (slice_index_or ss n no_interface).plan.buffers)
count_got [] n count at = absurd (let none_is : ⊥ = cc in none_is)
count_got (s ∷ ss) zero count at = (omega arith, let same : count ≡ length s.plan.buffers = cc in same)
count_got (s ∷ ss) (suc n) count at = let rest = count_got ss n count at in (omega (arith, rest.0), rest.1)

count_none : (ss : List State) (n : ℕ) → slice_get (buffers_each ss) n ≡ None → length ss ≤ n
count_none [] n at = omega arith
count_none (s ∷ ss) zero at = absurd (let none_is : ⊥ = cc in none_is)
count_none (s ∷ ss) (suc n) at = let rest = count_none ss n at in omega (arith, rest)

module _ (l : LiveState) (n : ℕ) where
  -- the report by the kept data is that of the node in each world
  pub node_same : (h : Standing) (count : ℕ) (buffers : List ℕ) → n < length l.interfaces
      → h ≡ get_or l.interfaces n h → ((w : WorldState) → IsWorldHistory l w → buffers ≡ buffers_each w.interfaces)
      → slice_get buffers n ≡ Some count → (w : WorldState) → IsWorldHistory l w
      → kept_report h count ≡ report_text (interface_at w n)
  node_same h count buffers lt at each got w is =
      let counted = count_got w.interfaces n count (ap (λ (bs : List ℕ). slice_get bs n) (sym (each w is)) ∙ got) in
      report_same h (interface_at w n) (history_got l.interfaces w.interfaces n h is.leads.interfaces_are lt at) count
      counted.1

  -- the block of a report by the kept data is that of each world
  pub block_same : (h : Standing) (count : ℕ) (buffers : List ℕ) → n < length l.interfaces
      → h ≡ get_or l.interfaces n h → ((w : WorldState) → IsWorldHistory l w → buffers ≡ buffers_each w.interfaces)
      → slice_get buffers n ≡ Some count → (reply : List ℕ) → IsBlock (kept_report h count) reply
      → IsReportOf l n reply
  block_same h count buffers lt at each got reply block w is =
      let counted = count_got w.interfaces n count (ap (λ (bs : List ℕ). slice_get bs n) (sym (each w is)) ∙ got) in
      let text = node_same h count buffers lt at each got w is in
      let has : has_node w n ≡ true = lt-ltb n (length w.interfaces) counted.0 in
      subst (λ (b : Bool). IsBlockIf b (report_text (interface_at w n)) reply) (sym has)
      (subst (λ (t : List ℕ). IsBlock t reply) text block)

  -- a node that there isn't
  pub unknown_same : ((w : WorldState) → IsWorldHistory l w → length w.interfaces ≤ n)
      → IsReportOf l n (line_text (refusal_words UnknownNode))
  unknown_same none w is =
      let beyond = none w is in
      let has : has_node w n ≡ false = le-ltb n (length w.interfaces) beyond in
      subst (λ (b : Bool). IsBlockIf b (report_text (interface_at w n)) (line_text (refusal_words UnknownNode)))
      (sym has) refl

  pub unknown_place : length l.interfaces ≤ n → (w : WorldState) → IsWorldHistory l w → length w.interfaces ≤ n
  unknown_place beyond w is =
      omega (arith, beyond, as_many l.interfaces w.interfaces is.leads.interfaces_are)

  pub unknown_count : (buffers : List ℕ) → ((w : WorldState) → IsWorldHistory l w → buffers ≡ buffers_each w.interfaces)
      → slice_get buffers n ≡ None → (w : WorldState) → IsWorldHistory l w → length w.interfaces ≤ n
  unknown_count buffers each none w is =
      count_none w.interfaces n (ap (λ (bs : List ℕ). slice_get bs n) (sym (each w is)) ∙ none)

-- ---- the status counters of a node

module _ (l : LiveState) (n : ℕ) (channel : Channel) where
  pub status_same : (h : Standing) → n < length l.interfaces → h ≡ get_or l.interfaces n h
      → IsStatusOf l n channel (kept_status channel h)
  status_same h lt at w is =
      let history = history_got l.interfaces w.interfaces n h is.leads.interfaces_are lt at in
      let s = interface_at w n in
      let many = as_many l.interfaces w.interfaces is.leads.interfaces_are in
      let has : has_node w n ≡ true = lt-ltb n (length w.interfaces) (omega (arith, lt, many)) in
      let counts = ap (λ (k : Counters). status_line channel (counts_in (counters_on channel k)))
      (answer-counters h s history) ∙ ap (status_line channel) (counts_same channel s) in
      counts ∙ sym (ap (λ (b : Bool). cond b (status_text channel s) (line_text (refusal_words UnknownNode))) has)

  pub no_status : length l.interfaces ≤ n → IsStatusOf l n channel (line_text (refusal_words UnknownNode))
  no_status beyond w is =
      let has : has_node w n ≡ false = le-ltb n (length w.interfaces) (unknown_place l n beyond w is) in
      sym (ap (λ (b : Bool). cond b (status_text channel (interface_at w n)) (line_text (refusal_words UnknownNode)))
      has)

-- ---- the buffers of a cluster's nodes

roomless_buffers : (plans : List Plan) → buffers_in (map no_room plans) ≡ buffers_in plans
roomless_buffers [] = refl
roomless_buffers (p ∷ plans) = ap (λ (t : List ℕ). length p.buffers ∷ t) (roomless_buffers plans)

pub alike_buffers : (d e : Description) → roomless d ≡ roomless e → buffers_in d.plans ≡ buffers_in e.plans
alike_buffers d e same =
    sym (roomless_buffers d.plans) ∙ ap (λ (x : Description). buffers_in x.plans) same ∙ roomless_buffers e.plans

pub room_buffers : (host slot : ℕ) (plans : List Plan)
    → buffers_in (map (λ (p : Plan). with_limits p host slot) plans) ≡ buffers_in plans
room_buffers host slot [] = refl
room_buffers host slot (p ∷ plans) = ap (λ (t : List ℕ). length p.buffers ∷ t) (room_buffers host slot plans)

each_of_plans : (ss : List State) (params : Parameters) (plans : List Plan)
    → map without_entries ss ≡ map (new_interface params) plans → buffers_each ss ≡ buffers_in plans
each_of_plans ss params plans same = sym (shown ss) ∙ ap buffers_each same ∙ made plans
  where
    shown : (xs : List State) → buffers_each (map without_entries xs) ≡ buffers_each xs
    shown [] = refl
    shown (x ∷ xs) = ap (λ (t : List ℕ). length x.plan.buffers ∷ t) (shown xs)

    made : (ps : List Plan) → buffers_each (map (new_interface params) ps) ≡ buffers_in ps
    made [] = refl
    made (p ∷ ps) = ap (λ (t : List ℕ). length p.buffers ∷ t) (made ps)

-- two worlds that lead to the same data have as many buffers
pub buffers_same : (l : LiveState) (v w : WorldState) → IsWorldHistory l v → IsWorldHistory l w
    → buffers_in v.bus.cluster.plans ≡ buffers_each w.interfaces
buffers_same l v w of_v of_w =
    alike_buffers v.bus.cluster w.bus.cluster (of_v.leads.bus_is.of_bus.alike ∙ sym of_w.leads.bus_is.of_bus.alike)
    ∙ sym (each_of_plans w.interfaces w.bus.cluster.params w.bus.cluster.plans of_w.world_is.configured)

-- a step changes no plan
pub step_buffers : (old : WorldState) (event : Event) (answer : Answer) (new : WorldState) → Steps old event answer new
    → buffers_in old.bus.cluster.plans ≡ buffers_in new.bus.cluster.plans
unfolding StepsAll
step_buffers old event answer new step =
    sym (ap (λ (d : Description). buffers_in d.plans)
    (steps_cluster old (event ∷ []) (answer ∷ []) new (new, step, refl)))

-- accepted events change none
pub accepts_buffers : (events : List Event) (old new : WorldState) → Accepts old events new
    → buffers_in old.bus.cluster.plans ≡ buffers_in new.bus.cluster.plans
unfolding Accepts
accepts_buffers [] old new same = ap (λ (w : WorldState). buffers_in w.bus.cluster.plans) (sym same)
accepts_buffers (e ∷ es) old new accepts =
    step_buffers old e (Ok (step_reply old e)) (step_done old e) (accepts.0, refl, refl)
    ∙ accepts_buffers es (step_done old e) new accepts.1
