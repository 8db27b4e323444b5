-- In a guarded static slot only the owner's transmissions are observed, and they are those of its station.
use Rattle.std.proofs.Common.{◌≡◌, ℕ, zero, suc, ◌+◌, ◌<◌, Bool, true, false, cond, ◌&&◌, List, [], ◌∷◌, ◌++◌, length}
use Rattle.std.proofs.Common.{Option, Some, None, refl, sym, ap, ◌∙◌, arith}
use Rattle.std.specs.Prelude.{◌==◌, slice_index_or}
use Rattle.std.specs.List.{list_all}
use Rattle.std.proofs.lemmas.Bool.{eq-eqb, ne_eqb}
use Rattle.std.proofs.lemmas.List.{append-nil}
use Rattle.std.proofs.lemmas.List.Elements.{filter-append}
use Rattle.arrayvec.specs.ArrayVec.{ArrayVec}
use Rattle.fr_bus.specs.declared.outcome.SentFate.{SentFate}
use Rattle.fr_bus.specs.declared.outcome.SentFate.TheVariants.{Passed, Blocked, Muted}
use Rattle.fr_bus.specs.declared.outcome.Sent.{Sent}
use Rattle.fr_bus.specs.declared.station.Side.{Side}
use Rattle.fr_bus.specs.Stations.{Station}
use Rattle.fr_bus.specs.Outcome.{fate_of, transmission, sent_in, sent_of, sent_from, is_passed, all_passed, is_of}
use Rattle.fr_bus.specs.Outcome.{seen_of}
use Rattle.fr_slots.specs.Admission.{is_channel}
use Rattle.fr_bus.specs.Record.{Recorded, corrupt_on, seen_by, side_on, if_bytes, recordable}
use Rattle.fr_bus.specs.States.{idle_station}
use Rattle.fr_core.proofs.CaseLemmas.{both_first, both_rest, differ}
use Rattle.fr_core.proofs.LoneLemmas.{same_channel}
use Rattle.fr_core.specs.Accounts.{own, of_owner}
use Rattle.fr_core.proofs.JudgedLemmas.{is_judged, is_judged_in}
use Rattle.fr_guardian.specs.Guarding.{passes}
use Rattle.fr_schedule.specs.Descriptions.{Description}
use Rattle.fr_slots.specs.declared.channel.Channel.{Channel}
use Rattle.fr_slots.specs.declared.channel.Channel.TheVariants.{A, B}
use Rattle.fr_slots.specs.Parameters.{Parameters}
use Rattle.fr_slots.specs.Windows.{Opportunity, slot_of}
use Rattle.fr_status.specs.declared.seen.Seen.TheVariants.{Silence}

abbrev is_own : Channel → ℕ → Sent → Bool
is_own channel node t = is_of node t && is_channel t.channel channel

-- ---- the owner's transmissions among all that passed

module _ (d : Description) (w : Opportunity) (channel : Channel) (owner : ℕ)
    (alone : (other : ℕ) → passes d other w channel ≡ true → other ≡ owner) where
  -- a transmission that passed on the channel is the owner's
  passed_is_own : (u : Sent) (on : Bool) (f : SentFate) → is_channel u.channel channel ≡ on → u.fate ≡ f
      → is_judged_in d w u ≡ true → is_own channel owner u ≡ false → (on && is_passed f) ≡ false
  passed_is_own u false f on_is is judged other = refl
  passed_is_own u true Blocked on_is is judged other = refl
  passed_is_own u true Muted on_is is judged other = refl
  passed_is_own u true Passed on_is is judged other =
      let passed : passes d u.node w channel ≡ true =
      ap (λ (c : Channel). passes d u.node w c) (sym (same_channel u.channel channel on_is)) ∙ ap
      (λ (f : SentFate). is_judged f (passes d u.node w u.channel)) (sym is) ∙ judged in
      let mine : is_of owner u ≡ true = eq-eqb u.node owner (alone u.node passed) in
      differ (ap (λ (b : Bool). b && is_channel u.channel channel) mine ∙ on_is) other

  own_step : (u : Sent) (us : List Sent) (mine : Bool) → is_own channel owner u ≡ mine → is_judged_in d w u ≡ true
      → all_passed channel us ≡ all_passed channel (own channel owner us)
      → all_passed channel (u ∷ us) ≡ all_passed channel (cond mine (u ∷ own channel owner us) (own channel owner us))
  own_step u us true is judged rest = ap (λ (l : List Sent). cond (is_channel u.channel channel && is_passed u.fate)
      (u ∷ l) l) rest
  own_step u us false is judged rest =
      ap (λ (b : Bool). cond b (u ∷ all_passed channel us) (all_passed channel us))
      (passed_is_own u (is_channel u.channel channel) u.fate refl refl judged is) ∙ rest

  pub passed_own : (sent : List Sent) → list_all (is_judged_in d w) sent ≡ true
      → all_passed channel sent ≡ all_passed channel (own channel owner sent)
  passed_own [] judged = refl
  passed_own (u ∷ us) judged =
      own_step u us (is_own channel owner u) refl (both_first (is_judged_in d w u)
      (list_all (is_judged_in d w) us) judged)
      (passed_own us (both_rest (is_judged_in d w u) (list_all (is_judged_in d w) us) judged))

-- each node's observation is the one that the owner's transmissions alone give
pub seen_alone : (d : Description) (p : Parameters) (r : Recorded) (channel : Channel) (owner : ℕ)
    → ((other : ℕ) → passes d other r.window channel ≡ true → other ≡ owner)
    → list_all (is_judged_in d r.window) r.sent ≡ true → (n : ℕ)
    → seen_by p r channel n ≡ seen_of p r.window (corrupt_on r channel) n
    (all_passed channel (own channel owner r.sent))
seen_alone d p r channel owner alone judged n = ap (seen_of p r.window (corrupt_on r channel) n)
    (passed_own d r.window channel owner alone r.sent judged)

-- ---- without an owner nothing passes

none_step : (d : Description) (w : Opportunity) (channel : Channel) (u : Sent) (on : Bool) (f : SentFate)
    → ((node : ℕ) → passes d node w channel ≡ false) → is_channel u.channel channel ≡ on
    → u.fate ≡ f → is_judged_in d w u ≡ true → (on && is_passed f) ≡ false
none_step d w channel u false f nobody on_is is judged = refl
none_step d w channel u true Blocked nobody on_is is judged = refl
none_step d w channel u true Muted nobody on_is is judged = refl
none_step d w channel u true Passed nobody on_is is judged =
    differ (ap (λ (c : Channel). passes d u.node w c) (sym (same_channel u.channel channel on_is)) ∙ ap
    (λ (f : SentFate). is_judged f (passes d u.node w u.channel)) (sym is) ∙ judged) (nobody u.node)

none_passed : (d : Description) (w : Opportunity) (channel : Channel) (sent : List Sent)
    → ((node : ℕ) → passes d node w channel ≡ false) → list_all (is_judged_in d w) sent ≡ true
    → all_passed channel sent ≡ []
none_passed d w channel [] nobody judged = refl
none_passed d w channel (u ∷ us) nobody judged =
    ap (λ (b : Bool). cond b (u ∷ all_passed channel us) (all_passed channel us))
    (none_step d w channel u (is_channel u.channel channel) u.fate nobody refl refl
    (both_first (is_judged_in d w u) (list_all (is_judged_in d w) us) judged))
    ∙ none_passed d w channel us nobody (both_rest (is_judged_in d w u) (list_all (is_judged_in d w) us) judged)

pub silent : (d : Description) (p : Parameters) (r : Recorded) (channel : Channel) (n : ℕ)
    → ((node : ℕ) → passes d node r.window channel ≡ false)
    → list_all (is_judged_in d r.window) r.sent ≡ true → seen_by p r channel n ≡ Silence
silent d p r channel n nobody judged = ap (seen_of p r.window (corrupt_on r channel) n)
    (none_passed d r.window channel r.sent nobody judged)

-- ---- the owner's transmissions are those of its station

neither : (b : Bool) → cond {A = List Sent} b [] [] ≡ []
neither true = refl
neither false = refl

one_case : (channel : Channel) (n : ℕ) (t : Sent) (none : Bool)
    → own channel n (cond none [] (t ∷ [])) ≡ cond (is_own channel n t) (cond none [] (t ∷ [])) []
one_case channel n t true = sym (neither (is_own channel n t))
one_case channel n t false = refl

own_one : (channel c : Channel) (n node : ℕ) (babble : Bool) (fate : SentFate) (bytes : Option (ArrayVec ℕ))
    → own channel n (transmission node c babble fate bytes) ≡ cond (node == n && is_channel c channel)
    (transmission node c babble fate bytes) []
own_one channel c n node babble fate None = sym (neither (node == n && is_channel c channel))
own_one channel c n node babble fate (Some bytes) = one_case channel n
    (record { node = node; channel = c; babble = babble; bytes = bytes; fate = fate }) (length bytes.items == 0)

joined : (b : Bool) (xs ys : List Sent) → cond b xs [] ++ cond b ys [] ≡ cond b (xs ++ ys) []
joined true xs ys = refl
joined false xs ys = refl

own_side : (d : Description) (w : Opportunity) (channel c : Channel) (n node : ℕ) (side : Side) (slot : Option ℕ)
    → own channel n (sent_in d w node c side slot) ≡ cond (node == n && is_channel c channel)
    (sent_in d w node c side slot) []
own_side d w channel c n node side None = sym (neither (node == n && is_channel c channel))
own_side d w channel c n node side (Some slot) =
    let offer = transmission node c false (fate_of side.mute (passes d node w c)) side.offer in
    let babble = transmission node c true (fate_of false (passes d node w c)) side.babble in
    filter-append (is_own channel n) offer babble
    ∙ ap (λ (l : List Sent). l ++ own channel n babble) (own_one channel c n node false
    (fate_of side.mute (passes d node w c)) side.offer)
    ∙ ap (λ (l : List Sent). cond (node == n && is_channel c channel) offer [] ++ l)
    (own_one channel c n node true (fate_of false (passes d node w c)) side.babble)
    ∙ joined (node == n && is_channel c channel) offer babble

own_node : (d : Description) (w : Opportunity) (channel : Channel) (n node : ℕ) (s : Station) (mine : Bool)
    → (node == n) ≡ mine
    → own channel n (sent_of d w node s) ≡ cond mine (sent_in d w node channel (side_on channel s) (slot_of w channel))
    []
own_node d w A n node s mine e =
    let a = sent_in d w node A s.a (slot_of w A) in
    let b = sent_in d w node B s.b (slot_of w B) in
    filter-append (is_own A n) a b
    ∙ ap (λ (l : List Sent). l ++ own A n b) (own_side d w A A n node s.a (slot_of w A) ∙ ap
    (λ (m : Bool). cond (m && true) a []) e)
    ∙ ap (λ (l : List Sent). cond (mine && true) a [] ++ l) (own_side d w A B n node s.b (slot_of w B) ∙ ap
    (λ (m : Bool). cond (m && false) b []) e)
    ∙ first mine a b
  where
    first : (m : Bool) (x y : List Sent) → cond (m && true) x [] ++ cond (m && false) y [] ≡ cond m x []
    first true x y = append-nil x
    first false x y = refl
own_node d w B n node s mine e =
    let a = sent_in d w node A s.a (slot_of w A) in
    let b = sent_in d w node B s.b (slot_of w B) in
    filter-append (is_own B n) a b
    ∙ ap (λ (l : List Sent). l ++ own B n b) (own_side d w B A n node s.a (slot_of w A) ∙ ap
    (λ (m : Bool). cond (m && false) a []) e)
    ∙ ap (λ (l : List Sent). cond (mine && false) a [] ++ l)
    (own_side d w B B n node s.b (slot_of w B) ∙ ap (λ (m : Bool). cond (m && true) b []) e)
    ∙ second mine a b
  where
    second : (m : Bool) (x y : List Sent) → cond (m && false) x [] ++ cond (m && true) y [] ≡ cond m y []
    second true x y = refl
    second false x y = refl

own_before : (d : Description) (w : Opportunity) (channel : Channel) (n start : ℕ) (ss : List Station) → n < start
    → own channel n (sent_from d w start ss) ≡ []
own_before d w channel n start [] below = refl
own_before d w channel n start (s ∷ ss) below =
    filter-append (is_own channel n) (sent_of d w start s) (sent_from d w (start + 1) ss)
    ∙ ap (λ (l : List Sent). l ++ own channel n (sent_from d w (start + 1) ss))
    (own_node d w channel n start s false (ne_eqb start n
    (λ same. let none : ⊥ = omega (arith, below, same) in none)))
    ∙ own_before d w channel n (start + 1) ss (omega (arith, below))

pub own_from : (d : Description) (w : Opportunity) (channel : Channel) (n start k : ℕ) (ss : List Station)
    → n ≡ start + k → k < length ss
    → own channel n (sent_from d w start ss) ≡ sent_in d w n channel
    (side_on channel (slice_index_or ss k idle_station)) (slot_of w channel)
own_from d w channel n start k [] e within = absurd (let none : ⊥ = omega (arith, within) in none)
own_from d w channel n start zero (s ∷ ss) e within =
    let same : start ≡ n = omega (arith, e) in
    filter-append (is_own channel n) (sent_of d w start s) (sent_from d w (start + 1) ss)
    ∙ ap (λ (l : List Sent). l ++ own channel n (sent_from d w (start + 1) ss))
    (own_node d w channel n start s true (eq-eqb start n same))
    ∙ ap (λ (l : List Sent). sent_in d w start channel (side_on channel s) (slot_of w channel) ++ l)
    (own_before d w channel n (start + 1) ss (omega (arith, e)))
    ∙ append-nil (sent_in d w start channel (side_on channel s) (slot_of w channel))
    ∙ ap (λ (m : ℕ). sent_in d w m channel (side_on channel s) (slot_of w channel)) same
own_from d w channel n start (suc k) (s ∷ ss) e within =
    filter-append (is_own channel n) (sent_of d w start s) (sent_from d w (start + 1) ss)
    ∙ ap (λ (l : List Sent). l ++ own channel n (sent_from d w (start + 1) ss))
    (own_node d w channel n start s false (ne_eqb start n (λ same. let none : ⊥ = omega (arith, e, same) in none)))
    ∙ own_from d w channel n (start + 1) k ss (omega (arith, e)) (omega (arith, within))

-- ---- the owner's transmissions, with the recorded offer

-- an offer without bytes is no offer
same_transmission : (node : ℕ) (c : Channel) (babble : Bool) (fate : SentFate) (o : Option (ArrayVec ℕ))
    → transmission node c babble fate (if_bytes o) ≡ transmission node c babble fate o
same_transmission node c babble fate None = refl
same_transmission node c babble fate (Some bytes) = by_length (length bytes.items == 0) refl
  where
    by_length : (b : Bool) → (length bytes.items == 0) ≡ b
        → transmission node c babble fate (cond b None (Some bytes)) ≡ cond b []
        (record { node = node; channel = c; babble = babble; bytes = bytes; fate = fate } ∷ [])
    by_length true e = refl
    by_length false e = ap (λ (b : Bool). cond b []
        (record { node = node; channel = c; babble = babble; bytes = bytes; fate = fate } ∷ [])) e

-- the owner's transmissions are its recorded offer, with its mute, and its babble
pub own_is : (d : Description) (w : Opportunity) (channel : Channel) (owner slot : ℕ) (side : Side)
    → slot_of w channel ≡ Some slot → passes d owner w channel ≡ true
    → sent_in d w owner channel side (slot_of w channel) ≡ of_owner owner channel side.mute
    (recordable (slot_of w channel) side.offer) side.babble
own_is d w channel owner slot side is passing =
    ap (sent_in d w owner channel side) is
    ∙ ap (λ (b : Bool). transmission owner channel false (fate_of side.mute b) side.offer ++ transmission owner channel
    true (fate_of false b) side.babble) passing
    ∙ ap (λ (l : List Sent). l ++ transmission owner channel true (fate_of false true) side.babble)
    (sym (same_transmission owner channel false (fate_of side.mute true) side.offer))
    ∙ ap (λ (o : Option ℕ). of_owner owner channel side.mute (recordable o side.offer) side.babble) (sym is)
