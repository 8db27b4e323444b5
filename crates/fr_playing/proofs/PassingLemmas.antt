-- Events that are executed from the front of a list.
use Rattle.std.proofs.Common.{◌≡◌, ℕ, zero, suc, ◌+◌, ◌-◌, ◌<◌, ◌≤◌, List, [], ◌∷◌, ◌++◌, length, take, drop, get_or}
use Rattle.std.proofs.Common.{Option, Some, None, Result, Ok, Err, arith, refl, sym, ap, subst, ◌∙◌, append-nil}
use Rattle.std.proofs.Common.{append_assoc}
use Rattle.std.proofs.lemmas.List.{take_all, take_more, take-append-drop}
use Rattle.std.specs.Prelude.{OnOk}
use Rattle.fr_core.specs.declared.error.StepError.{StepError}
use Rattle.fr_core.specs.declared.event.Event.{Event}
use Rattle.fr_core.specs.Fronts.{Accepts}
use Rattle.fr_core.specs.declared.event.Reply.{Reply}
use Rattle.fr_core.specs.declared.event.Reply.TheVariants.{Done}
use Rattle.fr_core.specs.Steps.{Applies, answered, step_done, step_reply}
use Rattle.fr_core.specs.Worlds.{WorldState}
use Rattle.fr_playing.proofs.MovingLemmas.{does_more, found_so, nodes_more}
use Rattle.fr_playing.proofs.StrikingLemmas.{passes_append}
use Rattle.fr_playing.specs.Moving.{DoesAll, first_refusal, for_nodes}
use Rattle.fr_playing.specs.Striking.{Passes}

-- ---- lists

take_nil : {X : Type 0} (n : ℕ) (xs : List X) → xs ≡ [] → take n xs ≡ []
take_nil zero xs none = refl
take_nil (suc n) [] none = refl
take_nil (suc n) (x ∷ xs) none = absurd (let no : ⊥ = cc none in no)

pub take_split : {X : Type 0} (i n : ℕ) (xs : List X) → take (i + n) xs ≡ take i xs ++ take n (drop i xs)
take_split zero n xs = let same : 0 + n ≡ n = omega arith in ap (λ (k : ℕ). take k xs) same
take_split (suc i) n [] = take_nil (suc i + n) [] refl ∙ sym (take_nil n [] refl)
take_split (suc i) n (x ∷ xs) =
    let next : suc i + n ≡ suc (i + n) = omega arith in
    ap (λ (k : ℕ). take k (x ∷ xs)) next ∙ ap (λ (l : List _). x ∷ l) (take_split i n xs)

-- all that remains
pub rest_all : {X : Type 0} (i : ℕ) (xs : List X) → take (length xs - i) (drop i xs) ≡ drop i xs
rest_all zero xs = take_all (length xs - 0) xs (omega arith)
rest_all (suc i) [] = take_nil (0 - suc i) [] refl
rest_all (suc i) (x ∷ xs) =
    let same : suc (length xs) - suc i ≡ length xs - i = omega arith in
    ap (λ (n : ℕ). take n (drop i xs)) same ∙ rest_all i xs

-- ---- accepted events

pub accepts_pass : (es : List Event) (w v : WorldState) → Accepts w es v → Passes w es v
unfolding Accepts Passes
accepts_pass [] w v same = same
accepts_pass (e ∷ es) w v accepts =
    (step_done w e, step_reply w e, (accepts.0, refl, refl), accepts_pass es (step_done w e) v accepts.1)

-- after the first events, which are accepted, come the others
pub rest_passed : {A E : Type 0} (r : Result A E) (w mid v : WorldState) (events : List Event) (n k : ℕ) → n ≡ k
    → Accepts w (take n events) mid → OnOk r (Passes mid (drop k events) v) → OnOk r (Passes w events v)
rest_passed (Ok x) w mid v events n k same first second =
    subst (λ (es : List Event). Passes w es v) (take-append-drop k events)
    (passes_append w (take k events) mid (drop k events) v
    (subst (λ (i : ℕ). Passes w (take i events) mid) same (accepts_pass (take n events) w mid first)) second)
rest_passed (Err e) w mid v events n k same first second = tt

pub all_passed : (w v : WorldState) (events : List Event) (n : ℕ) → length events ≤ n → Accepts w (take n events) v
    → Passes w events v
all_passed w v events n all first =
    subst (λ (es : List Event). Passes w es v) (take_all n events all) (accepts_pass (take n events) w v first)

-- the events of one more node
pub nodes_passed : (events : ℕ → List Event) (count n : ℕ) (w mid v : WorldState) → n ≡ count
    → Passes w (for_nodes events count) mid → Passes mid (events n) v → Passes w (for_nodes events (count + 1)) v
nodes_passed events count n w mid v same first second =
    subst (λ (es : List Event). Passes w es v) (sym (nodes_more events count))
    (passes_append w (for_nodes events count) mid (events count) v first
    (subst (λ (i : ℕ). Passes mid (events i) v) same second))

-- ---- events of which some may be refused

-- accepted events are no refusal
found_kept : (found : Option StepError) (reply : Reply) → first_refusal found (Ok reply) ≡ found
found_kept None reply = refl
found_kept (Some e) reply = refl

pub does_accepted : (old : WorldState) (es events : List Event) (found : Option StepError) (between new : WorldState)
    → DoesAll old events found between → Accepts between es new → DoesAll old (events ++ es) found new
unfolding Accepts
does_accepted old [] events found between new so_far same =
    subst (λ (es : List Event). DoesAll old es found new) (sym (append-nil events))
    (subst (λ (x : WorldState). DoesAll old events found x) (sym same) so_far)
does_accepted old (e ∷ es) events found between new so_far accepts =
    let reply = step_reply between e in
    let one : DoesAll old (events ++ e ∷ []) found (step_done between e) =
    subst (λ (f : Option StepError). DoesAll old (events ++ e ∷ []) f (step_done between e)) (found_kept found reply)
    (does_more old events found between e (Ok reply) (step_done between e) so_far (accepts.0, refl, refl)) in
    subst (λ (l : List Event). DoesAll old l found new) (append_assoc events (e ∷ []) es)
    (does_accepted old es (events ++ e ∷ []) found (step_done between e) new one accepts.1)

pub did_front : (w mid v : WorldState) (events rest : List Event) (i n : ℕ) (found : Option StepError)
    → rest ≡ drop i events → DoesAll w (take i events) found mid → Accepts mid (take n rest) v
    → DoesAll w (take (i + n) events) found v
did_front w mid v events rest i n found rest_is first second =
    subst (λ (es : List Event). DoesAll w es found v)
    (ap (λ (r : List Event). take i events ++ take n r) rest_is ∙ sym (take_split i n events))
    (does_accepted w (take n rest) (take i events) found mid v first second)

pub did_more : (w mid v : WorldState) (events : List Event) (i : ℕ) (event : Event) (found next : Option StepError)
    (outcome : Result (Unit {0}) StepError) → i < length events → event ≡ get_or events i event
    → next ≡ first_refusal found (answered Done outcome) → DoesAll w (take i events) found mid
    → Applies mid event outcome v → DoesAll w (take (i + 1) events) next v
did_more w mid v events i event found next outcome lt event_is next_is first step =
    rw (
      take_more events i event lt,
      ← event_is,
      next_is,
      found_so found outcome Done (step_reply mid event),
    )
    (does_more _ _ _ _ _ _ _ first step)

pub did_as : (w : WorldState) (events : List Event) (p q : ℕ) (f h : Option StepError) (a b : WorldState) → q ≡ p
    → h ≡ f → b ≡ a → DoesAll w (take p events) f a → DoesAll w (take q events) h b
did_as w events p q f h a b place_is found_is world_is given =
    subst (λ (n : ℕ). DoesAll w (take n events) h b) (sym place_is)
    (subst (λ (o : Option StepError). DoesAll w (take p events) o b) (sym found_is)
    (subst (λ (x : WorldState). DoesAll w (take p events) f x) (sym world_is) given))

pub did_all : (w v : WorldState) (events : List Event) (i : ℕ) (found : Option StepError) → length events ≤ i
    → DoesAll w (take i events) found v → DoesAll w events found v
did_all w v events i found all given =
    subst (λ (es : List Event). DoesAll w es found v) (take_all i events all) given
