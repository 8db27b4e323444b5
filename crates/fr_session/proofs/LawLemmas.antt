-- Laws of every session.
use Rattle.std.proofs.Common.{◌≡◌, ℕ, ◌+◌, List, [], ◌∷◌, ◌++◌, Option, Some, None, refl, sym, ap}
use Rattle.std.proofs.Common.{subst, ◌∙◌, append_assoc, arith, Ok, Err, ◌≢◌, ◌<◌}
use Rattle.std.proofs.lemmas.List.{get_or-set_other}
use Rattle.fr_runs.specs.declared.fault_line.FaultLine.{FaultLine}
use Rattle.fr_runs.specs.Refusing.{EachFaultSuits}
use Rattle.fr_session.specs.declared.request.Request.{Request}
use Rattle.fr_session.specs.declared.request.Request.TheVariants as request
use Rattle.fr_playing.specs.Laws.{IsLed}
use Rattle.fr_core.specs.declared.event.Event.TheVariants.{Read, Pop}
use Rattle.fr_core.specs.Runs.{Answer}
use Rattle.fr_core.specs.Worlds.{interface_at}
use Rattle.fr_interface.specs.State.{received_by}
use Rattle.fr_journal.specs.declared.entry.Arrival.{Arrival}
use Rattle.fr_session.specs.declared.noted.Noted.{Noted}
use Rattle.fr_session.specs.Latest.{last_entry, place_of, with_arrival}
use Rattle.fr_session.specs.Laws.{AreElsewhere, IsElsewhere, IsServedFirst}
use Rattle.fr_session.specs.Reading.{asked_in}
use Rattle.fr_session.specs.Sessions.{Terms, SessionState, DoesRequest, DoesIf, Serves, after_receipt, with_faults}
use Rattle.fr_session.proofs.KeepingLemmas.{kept_suit, both_suit}
use Rattle.fr_playing.proofs.LedLemmas.{led_same, led_step, led_on, led_window, led_runs}

-- ---- in order

pub serves_split : (terms : Terms) (lines more : List (List ℕ)) (old new : SessionState) (number : ℕ) (replies : List ℕ)
    → Serves terms old number (lines ++ more) replies new → IsServedFirst terms old number lines more replies new
unfolding Serves
serves_split terms [] more old new number replies all =
    (old, [], replies, (refl, refl), refl, subst (λ k. Serves terms old k more replies new) (omega arith) all)
serves_split terms (line ∷ lines) more old new number replies all =
    let (between, reply, later, does, is, rest) = all in
    let (mid, first, last, before, cut, after) = serves_split terms lines more between new (number + 1) later rest in (
      mid,
      reply ++ first,
      last,
      (between, reply, first, does, refl, before),
      is ∙ ap (λ l. reply ++ l) cut ∙ sym (append_assoc reply first last),
      subst (λ k. Serves terms mid k more last new) (omega arith) after,
    )

-- ---- by events

led_state : (old new : SessionState) → new ≡ old → IsLed old.world new.world
led_state old new is = led_same old.world new.world (ap (λ (s : SessionState). s.world) is)

led_request : (terms : Terms) (old : SessionState) (asked : Request) (reply : List ℕ) (new : SessionState)
    → DoesRequest terms old asked reply new → IsLed old.world new.world
led_request terms old (request.Event event) reply new does = led_step old.world event does.0 new.world does.1
led_request terms old (request.Receive node task buffer) reply new does =
    led_step old.world (Read node task buffer) does.0 new.world does.1
led_request terms old (request.Next node task) reply new does =
    led_step old.world (Pop node task) does.0 new.world does.1
led_request terms old (request.Fault line) reply new does = led_same old.world new.world does.1
led_request terms old (request.Faults a b) reply new does = led_same old.world new.world does.1
led_request terms old request.Forget reply new does = led_same old.world new.world
    (ap (λ (s : SessionState). s.world) does.1)
led_request terms old request.Window reply new does = led_window old.noted.faults terms.due old.world does.0 new.world
    does.1
led_request terms old (request.Run cycles) reply new does = led_runs old.noted.faults terms.due cycles old.world does.0
    new.world does.1
led_request terms old request.Now reply new does = led_state old new does.0
led_request terms old request.At reply new does = led_state old new does.0
led_request terms old (request.Report node) reply new does = led_state old new does.0
led_request terms old (request.Status node channel) reply new does = led_state old new does.0
led_request terms old (request.Trace node) reply new does = led_state old new does.0
led_request terms old (request.Origin node) reply new does = led_state old new does.0
led_request terms old (request.Record window) reply new does = led_state old new does.0

led_if : (terms : Terms) (old : SessionState) (number : ℕ) (asked : Option Request) (reply : List ℕ)
    (new : SessionState) → DoesIf terms old number asked reply new
    → IsLed old.world new.world
led_if terms old number None reply new does = led_state old new does.1
led_if terms old number (Some asked) reply new does = led_request terms old asked reply new does

pub led_by : (terms : Terms) (lines : List (List ℕ)) (old new : SessionState) (number : ℕ) (replies : List ℕ)
    → Serves terms old number lines replies new
    → IsLed old.world new.world
unfolding Serves
led_by terms [] old new number replies all = led_state old new all.1
led_by terms (line ∷ lines) old new number replies all =
    let (between, reply, later, does, is, rest) = all in
    led_on old.world between.world new.world (led_if terms old number (asked_in line) reply between does)
    (led_by terms lines between new (number + 1) later rest)

-- ---- lines that are kept

module _ (terms : Terms) where
  -- each line that is kept suits those before it
  abbrev Suit : List FaultLine → Type 0
  Suit faults = EachFaultSuits terms.cluster terms.cycles faults

  suit_same : (old new : Noted) → Suit old.faults → new ≡ old → Suit new.faults
  suit_same old new all is = subst (λ (n : Noted). Suit n.faults) (sym is) all

  suit_state : (old new : SessionState) → Suit old.noted.faults → new ≡ old → Suit new.noted.faults
  suit_state old new all is = suit_same old.noted new.noted all (ap (λ (s : SessionState). s.noted) is)

  suit_none : Suit []
  suit_none i = tt

  suit_receipt : (old : Noted) (place : ℕ) (arrival : Option Arrival) (answer : Answer) → Suit old.faults
      → Suit (after_receipt old place arrival answer).faults
  suit_receipt old place arrival (Ok reply) all = all
  suit_receipt old place arrival (Err error) all = all

  suit_request : (old : SessionState) (asked : Request) (reply : List ℕ) (new : SessionState) → Suit old.noted.faults
      → DoesRequest terms old asked reply new → Suit new.noted.faults
  suit_request old (request.Event event) reply new all does = suit_same old.noted new.noted all does.3
  suit_request old (request.Receive node task buffer) reply new all does =
      let arrival = received_by (interface_at old.world node) buffer in
      suit_same (after_receipt old.noted (place_of node buffer) arrival does.0) new.noted
      (suit_receipt old.noted (place_of node buffer) arrival does.0 all) does.3
  suit_request old (request.Next node task) reply new all does = suit_same old.noted new.noted all does.3
  suit_request old (request.Fault line) reply new all does =
      kept_suit terms.cluster terms.cycles old.noted.faults line reply new.noted.faults all does.0
  suit_request old (request.Faults a b) reply new all does =
      both_suit terms.cluster terms.cycles old.noted.faults a b reply new.noted.faults all does.0
  suit_request old request.Forget reply new all does =
      suit_same (with_faults old.noted []) new.noted suit_none (ap (λ (s : SessionState). s.noted) does.1)
  suit_request old request.Window reply new all does = suit_same old.noted new.noted all does.3
  suit_request old (request.Run cycles) reply new all does = suit_same old.noted new.noted all does.3
  suit_request old request.Now reply new all does = suit_state old new all does.0
  suit_request old request.At reply new all does = suit_state old new all does.0
  suit_request old (request.Report node) reply new all does = suit_state old new all does.0
  suit_request old (request.Status node channel) reply new all does = suit_state old new all does.0
  suit_request old (request.Trace node) reply new all does = suit_state old new all does.0
  suit_request old (request.Origin node) reply new all does = suit_state old new all does.0
  suit_request old (request.Record window) reply new all does = suit_state old new all does.0

  suit_if : (old : SessionState) (number : ℕ) (asked : Option Request) (reply : List ℕ) (new : SessionState)
      → Suit old.noted.faults → DoesIf terms old number asked reply new
      → Suit new.noted.faults
  suit_if old number None reply new all does = suit_state old new all does.1
  suit_if old number (Some asked) reply new all does = suit_request old asked reply new all does

  pub suit_by : (lines : List (List ℕ)) (old new : SessionState) (number : ℕ) (replies : List ℕ)
      → Suit old.noted.faults → Serves terms old number lines replies new → Suit new.noted.faults
  unfolding Serves
  suit_by [] old new number replies suits all = suit_state old new suits all.1
  suit_by (line ∷ lines) old new number replies suits all =
      let (between, reply, later, does, is, rest) = all in
      suit_by lines between new (number + 1) later (suit_if old number (asked_in line) reply between suits does) rest

-- ---- frames that were received last

module _ (terms : Terms) (place : ℕ) where
  -- the entry of the last frame at the place is the same
  abbrev Stays : Noted → Noted → Type 0
  Stays old new = last_entry new.latest place ≡ last_entry old.latest place

  stays_same : (old new : Noted) → new.latest ≡ old.latest → Stays old new
  stays_same old new is = ap (λ (l : List (Option ℕ)). last_entry l place) is

  stays_state : (old new : SessionState) → new ≡ old → Stays old.noted new.noted
  stays_state old new is = stays_same old.noted new.noted (ap (λ (s : SessionState). s.noted.latest) is)

  stays_set : (latest : List (Option ℕ)) (other : ℕ) (arrival : Option Arrival) → place ≢ other
      → last_entry (with_arrival latest other arrival) place ≡ last_entry latest place
  stays_set latest other None apart = refl
  stays_set latest other (Some a) apart = get_or-set_other latest other place (Some a.origin.entry) None apart

  stays_receipt : (old : Noted) (other : ℕ) (arrival : Option Arrival) (answer : Answer) → place ≢ other
      → Stays old (after_receipt old other arrival answer)
  stays_receipt old other arrival (Ok reply) apart = stays_set old.latest other arrival apart
  stays_receipt old other arrival (Err error) apart = refl

  stays_by : (old new : SessionState) → new.noted ≡ old.noted → Stays old.noted new.noted
  stays_by old new is = stays_same old.noted new.noted (ap (λ (n : Noted). n.latest) is)

  stays_request : (old : SessionState) (asked : Request) (reply : List ℕ) (new : SessionState)
      → IsElsewhere place (Some asked) → DoesRequest terms old asked reply new → Stays old.noted new.noted
  stays_request old (request.Event event) reply new apart does = stays_by old new does.3
  stays_request old (request.Receive node task buffer) reply new apart does =
      let arrival = received_by (interface_at old.world node) buffer in
      let other = place_of node buffer in
      ap (λ (n : Noted). last_entry n.latest place) does.3
      ∙ stays_receipt old.noted other arrival does.0 (λ same. absurd (apart same))
  stays_request old (request.Next node task) reply new apart does = stays_by old new does.3
  stays_request old (request.Fault line) reply new apart does = stays_same old.noted new.noted does.2
  stays_request old (request.Faults a b) reply new apart does = stays_same old.noted new.noted does.2
  stays_request old request.Forget reply new apart does =
      stays_same old.noted new.noted (ap (λ (s : SessionState). s.noted.latest) does.1)
  stays_request old request.Window reply new apart does = stays_by old new does.3
  stays_request old (request.Run cycles) reply new apart does = stays_by old new does.3
  stays_request old request.Now reply new apart does = stays_state old new does.0
  stays_request old request.At reply new apart does = stays_state old new does.0
  stays_request old (request.Report node) reply new apart does = stays_state old new does.0
  stays_request old (request.Status node channel) reply new apart does = stays_state old new does.0
  stays_request old (request.Trace node) reply new apart does = stays_state old new does.0
  stays_request old (request.Origin node) reply new apart does = stays_state old new does.0
  stays_request old (request.Record window) reply new apart does = stays_state old new does.0

  stays_if : (old : SessionState) (number : ℕ) (asked : Option Request) (reply : List ℕ) (new : SessionState)
      → IsElsewhere place asked → DoesIf terms old number asked reply new → Stays old.noted new.noted
  stays_if old number None reply new apart does = stays_state old new does.1
  stays_if old number (Some asked) reply new apart does = stays_request old asked reply new apart does

  pub stays_through : (lines : List (List ℕ)) (old new : SessionState) (number : ℕ) (replies : List ℕ)
      → AreElsewhere place lines → Serves terms old number lines replies new
      → last_entry new.noted.latest place ≡ last_entry old.noted.latest place
  unfolding Serves
  stays_through [] old new number replies apart all = stays_state old new all.1
  stays_through (line ∷ lines) old new number replies apart all =
      let (between, reply, later, does, is, rest) = all in
      stays_through lines between new (number + 1) later apart.1 rest
      ∙ stays_if old number (asked_in line) reply between apart.0 does

pub places_apart : (node other buffer same : ℕ) → buffer < 64 → same < 64 → place_of node buffer ≡ place_of other same
    → (node ≡ other) × (buffer ≡ same)
places_apart node other buffer same few few' is = (omega (arith, few, few', is), omega (arith, few, few', is))
