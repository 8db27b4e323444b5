-- Further results of a cross-check: the senders and the receivers of the record are those of the cluster, for a bus
-- that was made with any cluster.
use Rattle.std.proofs.Common.{◌≡◌, ◌<◌, ◌≤◌, ℕ, Bool, true, false, not, ◌&&◌, ◌||◌, List, [], ◌∷◌, length, Some, refl}
use Rattle.std.proofs.Common.{Option, None, sym, ap, subst, ◌∙◌, arith, ◌+◌}
use Rattle.std.specs.Prelude.{slice_get, nat_lt, ◌==◌, Result, Ok, Err, OnOk, All}
use Rattle.std.specs.List.{list_all}
use Rattle.std.proofs.lemmas.Bool.{eq-eqb, ltb-true}
use Rattle.std.proofs.lemmas.List.Elements.{All-nil, All-cons}
use Rattle.std.proofs.lemmas.Option.{slice_get-get_or}
use Rattle.fr_bus.proofs.SenderLemmas.{IsLetPass, passed_sends, channel_case}
use Rattle.fr_bus.specs.declared.outcome.SentFate.{SentFate}
use Rattle.fr_bus.specs.declared.outcome.SentFate.TheVariants.{Passed, Blocked, Muted}
use Rattle.fr_bus.specs.declared.outcome.Sent.{Sent}
use Rattle.fr_bus.specs.Outcome.{is_passed}
use Rattle.fr_bus.specs.Record.{Recorded, IsOutcome}
use Rattle.fr_bus.specs.States.{BusState, IsRun, OneSenderEach}
use Rattle.fr_core.proofs.CaseLemmas.{both, both_first, both_rest}
use Rattle.fr_core.proofs.FollowLemmas.{legal_at}
use Rattle.fr_core.proofs.HarmlessLemmas.{harmless}
use Rattle.fr_core.proofs.JudgedLemmas.{is_judged, is_judged_in, AreJudged}
use Rattle.fr_core.proofs.ReceiverLemmas.{receivers}
use Rattle.fr_core.proofs.SentLemmas.{of_all}
use Rattle.fr_core.proofs.SettledLemmas.{each_follows, outcome_at, lt_of}
use Rattle.fr_core.specs.Accounts.{IsHarmless}
use Rattle.fr_core.specs.declared.settle.Settled.{Settled}
use Rattle.fr_core.specs.declared.settle.SettleError.{SettleError}
use Rattle.fr_core.specs.Receivers.{Receivers}
use Rattle.fr_core.specs.Scripts.{Scripted}
use Rattle.fr_core.specs.Settling.{ArePlanned, is_due, is_right, Agrees, Settles}
use Rattle.fr_guardian.specs.Guarding.{passes}
use Rattle.fr_interface.specs.State.{State, IsLegalInterface}
use Rattle.fr_schedule.specs.Clusters.{IsCluster}
use Rattle.fr_schedule.specs.Descriptions.{Description}
use Rattle.fr_slots.specs.Admission.{is_channel}
use Rattle.fr_slots.specs.declared.channel.Channel.{Channel}
use Rattle.fr_slots.specs.Numbers.{last_node}
use Rattle.fr_slots.specs.Parameters.{Parameters}
use Rattle.fr_slots.specs.Plans.{Plan}
use Rattle.fr_slots.specs.Windows.{Opportunity}

-- ---- each transmission is of a node of some cluster

is_numbered : Sent → Bool
is_numbered t = nat_lt t.node (last_node + 1)

numbered : (d : Description) (r : Recorded) → IsCluster d → IsOutcome d r → list_all is_numbered r.sent ≡ true
unfolding is_numbered
numbered d r cluster o =
    let as_many = o.one_each in
    let few = cluster.few_nodes in
    ap (list_all is_numbered) o.sent_is
    ∙ of_all d r.window is_numbered (last_node + 1) (λ node channel babble muted bytes within. lt_of node
    (last_node + 1) within)
    0 o.stations (omega (arith, as_many, few))

-- ---- fates that are right for each node are those of the guardians

due_judged : (f : SentFate) (let_pass : Bool) → is_due f let_pass ≡ true → is_judged f let_pass ≡ true
due_judged Passed let_pass e = e
due_judged Blocked let_pass e = e
due_judged Muted let_pass e = e

if_own : (own right : Bool) → own ≡ true → (not own || right) ≡ true → right ≡ true
if_own true right own e = e
if_own false right own e = absurd (let none : ⊥ = cc in none)

right_judged : (d : Description) (w : Opportunity) (t : Sent) → is_right d t.node w t ≡ true → is_judged_in d w t ≡ true
right_judged d w t e =
    let there : Bool = nat_lt t.node (length d.plans) in
    let due : Bool = is_due t.fate (passes d t.node w t.channel) in
    due_judged t.fate (passes d t.node w t.channel)
    (both_rest there due (if_own (t.node == t.node) (there && due) (eq-eqb t.node t.node refl) e))

all_judged : (d : Description) (w : Opportunity) (sent : List Sent)
    → ((n : ℕ) → n ≤ last_node → list_all (is_right d n w) sent ≡ true)
    → list_all is_numbered sent ≡ true → list_all (is_judged_in d w) sent ≡ true
unfolding is_numbered
all_judged d w [] right few = refl
all_judged d w (t ∷ ts) right few =
    let below : t.node < last_node + 1 = ltb-true t.node (last_node + 1)
    (both_first (is_numbered t) (list_all is_numbered ts) few) in
    let own : list_all (is_right d t.node w) (t ∷ ts) ≡ true = right t.node (omega (arith, below)) in
    both (is_judged_in d w t) (list_all (is_judged_in d w) ts)
    (right_judged d w t (both_first (is_right d t.node w t) (list_all (is_right d t.node w) ts) own))
    (all_judged d w ts (λ n le. both_rest (is_right d n w t) (list_all (is_right d n w) ts) (right n le))
    (both_rest (is_numbered t) (list_all is_numbered ts) few))

pub agreed_judged : (d : Description) (is : List State) (b : BusState) (given : List Scripted) → IsRun b
    → Agrees d is b.sealed given → AreJudged d b.sealed
agreed_judged d is b given run a k r at =
    all_judged d r.window r.sent (λ n le. (a.offers n le k).fates r at)
    (numbered b.cluster r run.lawful (outcome_at b.cluster b.cycles [] b.sealed k r run.recorded at))

-- ---- senders

passed_is : (f : SentFate) (let_pass : Bool) → is_passed f ≡ true → is_judged f let_pass ≡ true → let_pass ≡ true
passed_is Passed let_pass p e = e
passed_is Blocked let_pass p e = absurd (let none : ⊥ = cc in none)
passed_is Muted let_pass p e = absurd (let none : ⊥ = cc in none)

judged_let_pass : (d : Description) (w : Opportunity) (t : Sent) → is_judged_in d w t ≡ true → IsLetPass d w t
judged_let_pass d w t judged channel e =
    let on : is_channel t.channel channel ≡ true = both_first (is_channel t.channel channel) (is_passed t.fate) e in
    let fate : is_passed t.fate ≡ true = both_rest (is_channel t.channel channel) (is_passed t.fate) e in
    subst (λ (c : Channel). passes d t.node w c ≡ true) (channel_case t.channel channel on)
    (passed_is t.fate (passes d t.node w t.channel) fate judged)

all_let_pass : (d : Description) (w : Opportunity) (sent : List Sent) → list_all (is_judged_in d w) sent ≡ true
    → All (IsLetPass d w) sent
all_let_pass d w [] judged = All-nil (IsLetPass d w)
all_let_pass d w (t ∷ ts) judged =
    All-cons (IsLetPass d w) t ts
    (judged_let_pass d w t (both_first (is_judged_in d w t) (list_all (is_judged_in d w) ts) judged))
    (all_let_pass d w ts (both_rest (is_judged_in d w t) (list_all (is_judged_in d w) ts) judged))

one_sender : (d : Description) (rs : List Recorded) → IsCluster d → AreJudged d rs → OneSenderEach d rs
one_sender d rs cluster judged r channel slot t of_record static guarded opened of_passed =
    let within = of_record.1 in
    let at : slice_get rs of_record.0 ≡ Some r =
    slice_get-get_or rs of_record.0 r within ∙ ap (λ (x : Recorded). Some x) of_record.2 in
    passed_sends d cluster r (all_let_pass d r.window r.sent (judged of_record.0 r at)) channel slot t static guarded
    opened of_passed

-- ---- the answer

pub answer_one_sender : (d : Description) (is : List State) (b : BusState) (given : List Scripted)
    (answer : Result Settled SettleError)
    → IsCluster d → IsRun b → Settles d is b.sealed given answer → OnOk answer (OneSenderEach d b.sealed)
answer_one_sender d is b given (Ok x) cluster run told = one_sender d b.sealed cluster
    (agreed_judged d is b given run told.0)
answer_one_sender d is b given (Err e) cluster run told = tt

pub answer_receivers : (d : Description) (is : List State) (b : BusState) (given : List Scripted)
    (answer : Result Settled SettleError)
    → IsCluster d → IsRun b → All IsLegalInterface is → Settles d is b.sealed given answer
    → OnOk answer (Receivers d is b.sealed)
answer_receivers d is b given (Ok x) cluster run lawful told =
    receivers d is b.sealed cluster (agreed_judged d is b given run told.0) (legal_at is lawful)
    (each_follows d is b.sealed given cluster told.0)
answer_receivers d is b given (Err e) cluster run lawful told = tt

-- ---- babbling nodes

-- a node that has an interface has its plan
planned_at : (p : Parameters) (s : State) (plans : List Plan) (n : ℕ) → ArePlanned p (Some s) (slice_get plans n)
    → slice_get plans n ≡ Some s.plan
planned_at p s plans n is = by (slice_get plans n) refl is
  where
    by : (o : Option Plan) → slice_get plans n ≡ o → ArePlanned p (Some s) o → slice_get plans n ≡ Some s.plan
    by None there planned = absurd planned
    by (Some plan) there planned = there ∙ ap Some (sym planned.1)

agreed_harmless : (b : BusState) (is : List State) (given : List Scripted) → IsRun b → All IsLegalInterface is
    → Agrees b.cluster is b.sealed given → IsHarmless b.cluster is b.sealed
agreed_harmless b is given run lawful a =
    harmless b.cluster b.cycles is b.sealed run.lawful run.recorded (legal_at is lawful)
    (λ n s at. planned_at b.cluster.params s b.cluster.plans n
    (subst (λ (o : Option State). ArePlanned b.cluster.params o (slice_get b.cluster.plans n)) at (a.plans n)))
    (each_follows b.cluster is b.sealed given run.lawful a)

pub answer_harmless : (d : Description) (is : List State) (b : BusState) (given : List Scripted)
    (answer : Result Settled SettleError) → IsRun b → All IsLegalInterface is → Settles d is b.sealed given answer
    → OnOk answer (b.cluster ≡ d → IsHarmless d is b.sealed)
answer_harmless d is b given (Ok x) run lawful told =
    λ same. subst (λ (c : Description). IsHarmless c is b.sealed) same
    (agreed_harmless b is given run lawful
    (subst (λ (c : Description). Agrees c is b.sealed given) (sym same) told.0))
answer_harmless d is b given (Err e) run lawful told = tt
