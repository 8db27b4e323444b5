-- The result of a cross-check: the windows of lists that agree, the place of a first failure, and a world's own result.
use Rattle.std.proofs.Common.{◌≡◌, ◌<◌, ◌≤◌, ℕ, zero, suc, Bool, true, false, not, ◌&&◌, ◌||◌, List, [], ◌∷◌, ◌++◌}
use Rattle.std.proofs.Common.{length, map, Option, Some, None, refl, sym, ap, subst, ◌∙◌, arith, get_or, inl, inr}
use Rattle.std.specs.Prelude.{slice_get, option_map, option_to_list, nat_lt, ◌==◌, Result, Ok, Err, IfSome, OnOk}
use Rattle.std.specs.List.{list_all}
use Rattle.std.proofs.lemmas.List.{append-nil, length-map, length-append, map-append}
use Rattle.std.proofs.lemmas.Bool.{ltb-false}
use Rattle.std.proofs.lemmas.Bool.Decides.{eqb_tells}
use Rattle.std.proofs.lemmas.Option.{slice_get_past, slice_get_within, get_or_from_slice_get}
use Rattle.arrayvec.specs.ArrayVec.{ArrayVec}
use Rattle.fr_bus.specs.Outcome.{fate_of}
use Rattle.fr_bus.specs.Record.{Recorded, IsOutcome}
use Rattle.fr_bus.specs.States.{BusState, IsRun, IsRecorded}
use Rattle.fr_core.proofs.CaseLemmas.{both, both_first, both_rest}
use Rattle.fr_core.proofs.SentLemmas.{of_all}
use Rattle.fr_core.proofs.WalkLemmas.{get_map, some_alike, none_past, same_places}
use Rattle.fr_core.specs.Agreeing.{Handed, Sight, handed_at, sight_at, sight_of, fetched, observed, offers_of}
use Rattle.fr_core.specs.Agreeing.{sights_of}
use Rattle.fr_core.specs.Agreement.{BusView, view_for, ahead, behind, AgreesAt, IsWorld}
use Rattle.fr_core.specs.Carried.{Carried, Idle, Knows, Offers, Waits, Took}
use Rattle.fr_core.specs.declared.settle.Settled.{Settled}
use Rattle.fr_core.specs.declared.settle.SettleError.{SettleError}
use Rattle.fr_core.specs.declared.settle.SettleError.TheVariants.{PlanDiffers, WindowsDiffer, OfferDiffers, SeenDiffers}
use Rattle.fr_core.specs.declared.settle.SettleError.TheVariants.{ScriptDiffers, Memory}
use Rattle.fr_core.specs.Scripts.{Scripted}
use Rattle.fr_core.specs.Settling.{IsFirst, IsFirstWindow, EachNode, IfThere, ArePlanned, PlansAgree, HasWindows}
use Rattle.fr_core.specs.Settling.{WindowsAgree, fetches_at, observes_at, windows_fetched, windows_observed, windows_of}
use Rattle.fr_core.specs.Settling.{is_due, is_right, are_right, IsFatedAt, IsHandedAt, IsOfferedAt, OffersAgree}
use Rattle.fr_core.specs.Settling.{IsShownAt, IsSeenAt, SightsAgree, Agrees, Settles, EachFollows, IsBetweenWindows}
use Rattle.fr_core.specs.Settling.{DiffersInScriptsAlone}
use Rattle.fr_core.specs.Worlds.{WorldState, interface_at, carried_at, no_interface, new_interface, without_entries}
use Rattle.fr_core.specs.Worlds.{is_between}
use Rattle.fr_guardian.specs.Guarding.{passes}
use Rattle.fr_interface.specs.State.{State}
use Rattle.fr_journal.specs.Forms.{Entry}
use Rattle.fr_journal.specs.declared.entry.Entry.TheVariants.{Commit, Withdraw, Read, Pop, Fetch, Observe}
use Rattle.fr_journal.specs.OpenWindow.{open_window}
use Rattle.fr_schedule.specs.Clusters.{IsCluster}
use Rattle.fr_schedule.specs.Descriptions.{Description}
use Rattle.fr_slots.specs.declared.channel.Channel.{Channel}
use Rattle.fr_slots.specs.History.{AllAfter, each_after}
use Rattle.fr_slots.specs.Numbers.{last_node}
use Rattle.fr_slots.specs.Parameters.{Parameters}
use Rattle.fr_slots.specs.Plans.{Plan}
use Rattle.fr_slots.specs.Windows.{Opportunity}

-- ---- the windows of lists

each_map : {X A C : Type 0} (g : A → C) (f : List X → X → List A) (h : List X → X → List C)
    → ((b : List X) (x : X) → map g (f b x) ≡ h b x)
    → (before xs : List X) → map g (each_after f before xs) ≡ each_after h before xs
unfolding each_after
each_map g f h same before [] = refl
each_map g f h same before (x ∷ xs) =
    map-append g (f before x) (each_after f (before ++ x ∷ []) xs)
    ∙ ap (λ l. l ++ map g (each_after f (before ++ x ∷ []) xs)) (same before x)
    ∙ ap (λ l. h before x ++ l) (each_map g f h same (before ++ x ∷ []) xs)

window_handed : (p : Parameters) (plan : Plan) (before : List Entry) (e : Entry)
    → map (λ (h : Handed). h.window) (handed_at p plan before e) ≡ fetches_at before e
window_handed p plan before (Commit task buffer payload) = refl
window_handed p plan before (Withdraw task buffer of) = refl
window_handed p plan before (Read task buffer from) = refl
window_handed p plan before (Pop task from) = refl
window_handed p plan before (Fetch window a b) = refl
window_handed p plan before (Observe number a b) = refl

window_sighted : (before : List Entry) (e : Entry) → map (λ (x : Sight). x.window) (sight_at before e) ≡ observes_at
    before e
window_sighted before (Commit task buffer payload) = refl
window_sighted before (Withdraw task buffer of) = refl
window_sighted before (Read task buffer from) = refl
window_sighted before (Pop task from) = refl
window_sighted before (Fetch window a b) = refl
window_sighted before (Observe number a b) = by_window (open_window before)
  where
    by_window : (w : Option Opportunity) → map (λ (x : Sight). x.window) (option_to_list (option_map (sight_of a b) w))
        ≡ option_to_list w
    by_window None = refl
    by_window (Some x) = refl

pub fetched_windows : (s : State) → map (λ (h : Handed). h.window) (fetched s) ≡ windows_fetched s
fetched_windows s = each_map (λ (h : Handed). h.window) (handed_at s.params s.plan) fetches_at
    (window_handed s.params s.plan) [] s.entries

pub observed_windows : (s : State) → map (λ (x : Sight). x.window) (observed s) ≡ windows_observed s
observed_windows s = each_map (λ (x : Sight). x.window) sight_at observes_at window_sighted [] s.entries

offered_windows : (n : ℕ) (rs : List Recorded) → map (λ (h : Handed). h.window) (map (offers_of n) rs) ≡ windows_of rs
offered_windows n [] = refl
offered_windows n (r ∷ rs) = ap (λ l. r.window ∷ l) (offered_windows n rs)

shown_windows : (p : Parameters) (n : ℕ) (rs : List Recorded)
    → map (λ (x : Sight). x.window) (map (sights_of p n) rs) ≡ windows_of rs
shown_windows p n [] = refl
shown_windows p n (r ∷ rs) = ap (λ l. r.window ∷ l) (shown_windows p n rs)

-- lists that are the record's have the record's windows
same_windows : (p : Parameters) (n : ℕ) (rs : List Recorded) (s : State) → fetched s ≡ map (offers_of n) rs
    → observed s ≡ map (sights_of p n) rs → HasWindows rs s
same_windows p n rs s fetches sees = record {
  fetches = sym (fetched_windows s) ∙ ap (map (λ (h : Handed). h.window)) fetches ∙ offered_windows n rs;
  observes = sym (observed_windows s) ∙ ap (map (λ (x : Sight). x.window)) sees ∙ shown_windows p n rs;
}

-- ---- a first failure is within the record

fetched_long : (rs : List Recorded) (s : State) → HasWindows rs s → length (fetched s) ≡ length rs
fetched_long rs s h =
    sym (length-map (fetched s) (λ (x : Handed). x.window)) ∙ ap length (fetched_windows s ∙ h.fetches) ∙ length-map rs
    (λ (r : Recorded). r.window)

observed_long : (rs : List Recorded) (s : State) → HasWindows rs s → length (observed s) ≡ length rs
observed_long rs s h =
    sym (length-map (observed s) (λ (x : Sight). x.window)) ∙ ap length (observed_windows s ∙ h.observes)
    ∙ length-map rs (λ (r : Recorded). r.window)

both_past : {A : Type 0} (xs : List A) (g : Recorded → A) (rs : List Recorded) (k : ℕ) → length xs ≡ length rs
    → length rs ≤ k → slice_get xs k ≡ slice_get (map g rs) k
both_past xs g rs k long past =
    slice_get_past xs k (omega (arith, long, past)) ∙ sym (get_map g rs k ∙ ap (option_map g)
    (slice_get_past rs k past))

offered_past : (d : Description) (rs : List Recorded) (n k : ℕ) (o : Option State) → IfThere o (HasWindows rs)
    → length rs ≤ k → IsOfferedAt d rs n o k
offered_past d rs n k None h past = record {
  offers = tt;
  fates = λ r at. absurd (let none : ⊥ = (let within = slice_get_within rs k r at in omega (arith, within, past))
      in none);
}
offered_past d rs n k (Some s) h past = record {
  offers = both_past (fetched s) (offers_of n) rs k (fetched_long rs s h) past;
  fates = λ r at. absurd (let none : ⊥ = (let within = slice_get_within rs k r at in omega (arith, within, past))
      in none);
}

seen_past : (d : Description) (rs : List Recorded) (n k : ℕ) (o : Option State) → IfThere o (HasWindows rs)
    → length rs ≤ k → IsSeenAt d rs n o k
seen_past d rs n k None h past = tt
seen_past d rs n k (Some s) h past = both_past (observed s) (sights_of d.params n) rs k (observed_long rs s h) past

within_or : (k m : ℕ) → (m ≤ k → ⊥) → k < m
within_or k m none = omega (arith, none)

pub offer_within : (d : Description) (is : List State) (rs : List Recorded) (n k : ℕ) → EachNode (WindowsAgree is rs)
    → n ≤ last_node → IsFirst (IsOfferedAt d rs n (slice_get is n)) k → k < length rs
offer_within d is rs n k windows few first = within_or k (length rs)
    (λ past. first.fails (offered_past d rs n k (slice_get is n) (windows n few) past))

pub sight_within : (d : Description) (is : List State) (rs : List Recorded) (n k : ℕ) → EachNode (WindowsAgree is rs)
    → n ≤ last_node → IsFirst (IsSeenAt d rs n (slice_get is n)) k → k < length rs
sight_within d is rs n k windows few first = within_or k (length rs)
    (λ past. first.fails (seen_past d rs n k (slice_get is n) (windows n few) past))

-- ---- a record isn't longer than a journal that has it

few_after : {X A : Type 0} (f : List X → X → List A) → ((b : List X) (x : X) → length (f b x) ≤ 1)
    → (before xs : List X) → length (each_after f before xs) ≤ length xs
unfolding each_after
few_after f one before [] = omega arith
few_after f one before (x ∷ xs) =
    let split = length-append (f before x) (each_after f (before ++ x ∷ []) xs) in
    omega (arith, split, one before x, few_after f one (before ++ x ∷ []) xs)

one_fetch : (before : List Entry) (e : Entry) → length (fetches_at before e) ≤ 1
one_fetch before (Commit task buffer payload) = omega arith
one_fetch before (Withdraw task buffer of) = omega arith
one_fetch before (Read task buffer from) = omega arith
one_fetch before (Pop task from) = omega arith
one_fetch before (Fetch window a b) = omega arith
one_fetch before (Observe number a b) = omega arith

pub few_windows : (rs : List Recorded) (s : State) → HasWindows rs s → length rs ≤ length s.entries
few_windows rs s h =
    let same : length (windows_fetched s) ≡ length rs = ap length h.fetches ∙ length-map rs (λ (r : Recorded). r.window)
    in
    omega (arith, same, few_after fetches_at one_fetch [] s.entries)

-- ---- consequences of an agreement

planned_few : (p : Parameters) (s : State) (o : Option State) (plans : List Plan) (n : ℕ) → o ≡ Some s
    → ArePlanned p o (slice_get plans n) → n < length plans
planned_few p s o plans n at is = by_plan (slice_get plans n) refl
    (subst (λ x. ArePlanned p x (slice_get plans n)) at is)
  where
    by_plan : (q : Option Plan) → slice_get plans n ≡ q → ArePlanned p (Some s) q → n < length plans
    by_plan None there is = absurd is
    by_plan (Some plan) there is = slice_get_within plans n plan there

pub each_follows : (d : Description) (is : List State) (rs : List Recorded) (given : List Scripted) → IsCluster d
    → Agrees d is rs given → EachFollows d.params is rs
each_follows d is rs given cluster a n s at =
    let below = planned_few d.params s (slice_get is n) d.plans n at (a.plans n) in
    let most = cluster.few_nodes in
    let few : n ≤ last_node = omega (arith, below, most) in
    let fetches : fetched s ≡ map (offers_of n) rs =
    same_places (fetched s) (map (offers_of n) rs) (λ k. subst (λ o. IfThere o (IsHandedAt rs n k)) at
    (a.offers n few k).offers) in
    let sees : observed s ≡ map (sights_of d.params n) rs =
    same_places (observed s) (map (sights_of d.params n) rs)
    (λ k. subst (λ o. IfThere o (IsShownAt d.params rs n k)) at (a.sights n few k)) in
    record {
      under_way = [];
      unseen = [];
      fetches = fetches ∙ sym (append-nil (map (offers_of n) rs));
      sees = append-nil (observed s) ∙ sees;
    }

pub some_interface : (d : Description) (is : List State) → IsCluster d → PlansAgree d is 0 → 0 < length is
some_interface d is cluster agrees = by_lists is d.plans cluster.some_nodes agrees
  where
    by_lists : (ss : List State) (plans : List Plan) → 1 ≤ length plans
        → ArePlanned d.params (slice_get ss 0) (slice_get plans 0) → 0 < length ss
    by_lists ss [] some is = absurd (let none : ⊥ = omega (arith, some) in none)
    by_lists [] (plan ∷ plans) some is = absurd is
    by_lists (s ∷ ss) (plan ∷ plans) some is = omega arith

-- ---- the fates that a bus records

due : (muted let_pass : Bool) → is_due (fate_of muted let_pass) let_pass ≡ true
due true let_pass = refl
due false true = refl
due false false = refl

pub lt_of : (a b : ℕ) → a < b → nat_lt a b ≡ true
lt_of a b less = by_test (nat_lt a b) refl
  where
    by_test : (t : Bool) → nat_lt a b ≡ t → t ≡ true
    by_test true e = refl
    by_test false e = absurd (let none : ⊥ = (let great = ltb-false a b e in omega (arith, less, great)) in none)

or_rest : (p q : Bool) → q ≡ true → (p || q) ≡ true
or_rest true q e = refl
or_rest false q e = e

or_first : (p q : Bool) → p ≡ false → (not p || q) ≡ true
or_first true q e = absurd (let none : ⊥ = cc in none)
or_first false q e = refl

module _ (d : Description) (w : Opportunity) (n : ℕ) where
  right : (node : ℕ) (channel : Channel) (babble muted : Bool) (bytes : ArrayVec ℕ) → node < length d.plans
      → is_right d n w (record {
        node = node;
        channel = channel;
        babble = babble;
        bytes = bytes;
        fate =
            fate_of muted (passes d node w channel);
      }) ≡ true
  right node channel babble muted bytes within =
      elim (eqb_tells node n) [
        | inl same ↦
            let below : nat_lt n (length d.plans) ≡ true = lt_of n (length d.plans)
            (subst (λ m. m < length d.plans) same.1 within) in
            let fated : is_due (fate_of muted (passes d node w channel)) (passes d n w channel) ≡ true =
            ap (λ m. is_due (fate_of muted (passes d node w channel)) (passes d m w channel)) (sym same.1) ∙ due muted
            (passes d node w channel) in
            or_rest (not (node == n)) (nat_lt n (length d.plans) && is_due (fate_of muted (passes d node w channel))
            (passes d n w channel)) (both (nat_lt n (length d.plans)) _ below fated)
        | inr other ↦ or_first (node == n) _ other.0
      ]

outcome_right : (d : Description) (n : ℕ) (r : Recorded) → IsOutcome d r → are_right d n r ≡ true
outcome_right d n r o =
    let as_many = o.one_each in
    ap (list_all (is_right d n r.window)) o.sent_is
    ∙ of_all d r.window (is_right d n r.window) (length d.plans) (right d r.window n) 0 o.stations
    (omega (arith, as_many))

pub outcome_at : (d : Description) (cycles : ℕ) (before rs : List Recorded) (k : ℕ) (r : Recorded)
    → AllAfter (IsRecorded d cycles) before rs → slice_get rs k ≡ Some r → IsOutcome d r
unfolding AllAfter
outcome_at d cycles before [] k r all at = absurd (let none : ⊥ = cc in none)
outcome_at d cycles before (x ∷ rs) zero r all at = subst (IsOutcome d) (some_alike x r at) all.0.1
outcome_at d cycles before (x ∷ rs) (suc k) r all at = outcome_at d cycles (before ++ x ∷ []) rs k r all.1 at

pub run_fated : (b : BusState) → IsRun b → (n k : ℕ) → IsFatedAt b.cluster b.sealed n k
run_fated b run n k r at = outcome_right b.cluster n r (outcome_at b.cluster b.cycles [] b.sealed k r run.recorded at)

-- ---- a world between two windows

heads : {X : Type 0} (x y : X) (xs ys : List X) → x ∷ xs ≡ y ∷ ys → x ≡ y
heads x y xs ys e = cc

tails : {X : Type 0} (x y : X) (xs ys : List X) → x ∷ xs ≡ y ∷ ys → xs ≡ ys
tails x y xs ys e = cc

planned : (p : Parameters) (is : List State) (plans : List Plan) → map without_entries is ≡ map (new_interface p) plans
    → (n : ℕ) → ArePlanned p (slice_get is n) (slice_get plans n)
planned p [] [] e n = tt
planned p [] (plan ∷ plans) e n = absurd (let none : ⊥ = cc in none)
planned p (i ∷ is) [] e n = absurd (let none : ⊥ = cc in none)
planned p (i ∷ is) (plan ∷ plans) e zero =
    let same = heads (without_entries i) (new_interface p plan) (map without_entries is)
    (map (new_interface p) plans) e in
    (ap (λ (s : State). s.params) same, ap (λ (s : State). s.plan) same)
planned p (i ∷ is) (plan ∷ plans) e (suc n) =
    planned p is plans (tails (without_entries i) (new_interface p plan) (map without_entries is)
    (map (new_interface p) plans) e) n

all_get : (cs : List Carried) (n : ℕ) → list_all is_between cs ≡ true → is_between (get_or cs n Idle) ≡ true
all_get [] n e = refl
all_get (c ∷ cs) zero e = both_first (is_between c) (list_all is_between cs) e
all_get (c ∷ cs) (suc n) e = all_get cs n (both_rest (is_between c) (list_all is_between cs) e)

nothing_ahead : (c : Carried) (v : BusView) → is_between c ≡ true → ahead c v ≡ []
nothing_ahead Idle v e = refl
nothing_ahead (Knows w) v e = refl
nothing_ahead (Offers w o) v e = absurd (let none : ⊥ = cc in none)
nothing_ahead (Waits w) v e = absurd (let none : ⊥ = cc in none)
nothing_ahead (Took w a b) v e = absurd (let none : ⊥ = cc in none)

nothing_behind : (n : ℕ) (c : Carried) (v : BusView) → is_between c ≡ true → behind n c v ≡ []
nothing_behind n Idle v e = refl
nothing_behind n (Knows w) v e = refl
nothing_behind n (Offers w o) v e = absurd (let none : ⊥ = cc in none)
nothing_behind n (Waits w) v e = absurd (let none : ⊥ = cc in none)
nothing_behind n (Took w a b) v e = absurd (let none : ⊥ = cc in none)

-- the lists of a node's interface are those of the record
record IsLevel (p : Parameters) (rs : List Recorded) (n : ℕ) (s : State) : Type 0 where
  pub fetches : fetched s ≡ map (offers_of n) rs
  pub sees : observed s ≡ map (sights_of p n) rs

level_at : (w : WorldState) → IsWorld w → list_all is_between w.carried ≡ true → (n : ℕ) (s : State)
    → slice_get w.interfaces n ≡ Some s → IsLevel w.bus.cluster.params w.bus.sealed n s
level_at w world between n s at =
    let within = slice_get_within w.interfaces n s at in
    let as_many = world.agrees.a_station_each in
    let agrees : AgreesAt w n = world.agrees.each n (omega (arith, within, as_many)) in
    let same : interface_at w n ≡ s = get_or_from_slice_get w.interfaces n s no_interface at in
    let idle = all_get w.carried n between in
    let rs = w.bus.sealed in
    subst (IsLevel w.bus.cluster.params rs n) same
    (record {
      fetches = agrees.fetches ∙ ap (λ l. map (offers_of n) rs ++ l)
          (nothing_ahead (carried_at w n) (view_for w.bus n) idle) ∙ append-nil (map (offers_of n) rs);
      sees = sym (append-nil (observed (interface_at w n)))
          ∙ ap (λ l. observed (interface_at w n) ++ l) (sym (nothing_behind n (carried_at w n) (view_for w.bus n) idle))
          ∙ agrees.sees;
    })

if_there : (is : List State) (n : ℕ) (P : State → Type 0) → ((s : State) → slice_get is n ≡ Some s → P s)
    → IfThere (slice_get is n) P
if_there is n P each = by_place (slice_get is n) refl
  where
    by_place : (o : Option State) → slice_get is n ≡ o → IfThere o P
    by_place None at = tt
    by_place (Some s) at = each s at

module _ (is : List State) (b : BusState) (carried : List Carried)
    (world : IsWorld (record { interfaces = is; bus = b; carried = carried })) (run : IsRun b)
    (between : list_all is_between carried ≡ true) where
  level : (n : ℕ) (s : State) → slice_get is n ≡ Some s → IsLevel b.cluster.params b.sealed n s
  level = level_at (record { interfaces = is; bus = b; carried = carried }) world between

  plans_agree : (n : ℕ) → PlansAgree b.cluster is n
  plans_agree = planned b.cluster.params is b.cluster.plans world.configured

  windows_agree : (n : ℕ) → WindowsAgree is b.sealed n
  windows_agree n = if_there is n (HasWindows b.sealed) (λ s at. same_windows b.cluster.params n b.sealed s
      (level n s at).fetches (level n s at).sees)

  offers_agree : (n : ℕ) → OffersAgree b.cluster is b.sealed n
  offers_agree n k = record {
    offers = if_there is n (IsHandedAt b.sealed n k) (λ s at. ap (λ l. slice_get l k) (level n s at).fetches);
    fates = run_fated b run n k;
  }

  sights_agree : (n : ℕ) → SightsAgree b.cluster is b.sealed n
  sights_agree n k = if_there is n (IsShownAt b.cluster.params b.sealed n k)
      (λ s at. ap (λ l. slice_get l k) (level n s at).sees)

  scripts_alone : (given : List Scripted) (answer : Result Settled SettleError)
      → Settles b.cluster is b.sealed given answer → DiffersInScriptsAlone answer
  scripts_alone given (Ok x) told = tt
  scripts_alone given (Err (PlanDiffers n)) told = told.fails (plans_agree n)
  scripts_alone given (Err (WindowsDiffer n)) told = told.1.fails (windows_agree n)
  scripts_alone given (Err (OfferDiffers n w)) told = told.2.fails (offers_agree n)
  scripts_alone given (Err (SeenDiffers n w)) told = told.3.fails (sights_agree n)
  scripts_alone given (Err (ScriptDiffers n task)) told = tt
  scripts_alone given (Err Memory) told = tt

pub between_windows : (d : Description) (is : List State) (b : BusState) (given : List Scripted)
    (answer : Result Settled SettleError) → Settles d is b.sealed given answer
    → IsBetweenWindows d is b → DiffersInScriptsAlone answer
between_windows d is b given answer told w =
    scripts_alone is b w.carried w.world w.run w.between given answer
    (subst (λ (c : Description). Settles c is b.sealed given answer) (sym w.cluster_is) told)

-- ---- the answer

pub first_window : (rs : List Recorded) (P : ℕ → Type 0) (place number : ℕ) → place < length rs → IsFirst P place
    → IfSome (slice_get rs place) (λ r. number ≡ r.window.number) → IsFirstWindow rs P number
first_window rs P place number within first told = by_place (slice_get rs place) refl told
  where
    by_place : (o : Option Recorded) → slice_get rs place ≡ o → IfSome o (λ r. number ≡ r.window.number)
        → IsFirstWindow rs P number
    by_place None at told = absurd (none_past rs place within at)
    by_place (Some r) at told = record { place = place; first = first; there = r; is_there = at; number_is = told }

pub answer_follows : (d : Description) (is : List State) (rs : List Recorded) (given : List Scripted)
    (answer : Result Settled SettleError) → IsCluster d → Settles d is rs given answer
    → OnOk answer (EachFollows d.params is rs)
answer_follows d is rs given (Ok x) cluster told = each_follows d is rs given cluster told.0
answer_follows d is rs given (Err e) cluster told = tt
