-- The babbles and mutes of stations in the record of their window.
use Rattle.std.proofs.Common.{◌≡◌, ℕ, zero, suc, ◌+◌, ◌<◌, Bool, true, false, cond, not, ◌&&◌, List, [], ◌∷◌, ◌++◌}
use Rattle.std.proofs.Common.{length, Option, Some, None, refl, sym, ap, subst, ◌∙◌, arith, get_or, slice_get}
use Rattle.std.specs.Prelude.{◌==◌}
use Rattle.std.specs.Option.{option_or}
use Rattle.std.proofs.lemmas.Bool.{eq-eqb, ne_eqb}
use Rattle.arrayvec.specs.ArrayVec.{ArrayVec}
use Rattle.fr_bus.specs.declared.outcome.SentFate.{SentFate}
use Rattle.fr_bus.specs.declared.outcome.Sent.{Sent}
use Rattle.fr_bus.specs.declared.station.Side.{Side}
use Rattle.fr_bus.specs.Outcome.{fate_of, transmission, sent_in, sent_of, sent_from}
use Rattle.fr_bus.specs.Record.{side_on, if_bytes, recordable}
use Rattle.fr_bus.specs.States.{idle_station}
use Rattle.fr_bus.specs.Stations.{Station}
use Rattle.fr_guardian.specs.Guarding.{passes}
use Rattle.fr_runs.specs.Faulted.{is_babble_of, babble_in, is_muted}
use Rattle.fr_schedule.specs.Descriptions.{Description}
use Rattle.fr_slots.specs.Admission.{is_channel}
use Rattle.fr_slots.specs.declared.channel.Channel.{Channel}
use Rattle.fr_slots.specs.declared.channel.Channel.TheVariants.{A, B}
use Rattle.fr_slots.specs.Windows.{Opportunity, slot_of}

abbrev Bytes : Type 0
Bytes = Option (ArrayVec ℕ)

-- ---- babbles

or_case : (b : Bool) (x : ArrayVec ℕ) (o p : Bytes) → cond b (Some x) (option_or o p) ≡ option_or (cond b (Some x) o) p
or_case true x o p = refl
or_case false x o p = refl

babble_append : (channel : Channel) (n : ℕ) (xs ys : List Sent)
    → babble_in channel n (xs ++ ys) ≡ option_or (babble_in channel n xs) (babble_in channel n ys)
babble_append channel n [] ys = refl
babble_append channel n (t ∷ xs) ys =
    ap (λ (o : Bytes). cond (is_babble_of channel n t) (Some t.bytes) o) (babble_append channel n xs ys)
    ∙ or_case (is_babble_of channel n t) t.bytes (babble_in channel n xs) (babble_in channel n ys)

or_none : (o : Bytes) → option_or o None ≡ o
or_none None = refl
or_none (Some x) = refl

neither : (b : Bool) → cond {A = Bytes} b None None ≡ None
neither true = refl
neither false = refl

one_case : (channel : Channel) (n : ℕ) (t : Sent) (none : Bool)
    → babble_in channel n (cond none [] (t ∷ [])) ≡ cond (is_babble_of channel n t) (cond none None (Some t.bytes)) None
one_case channel n t true = sym (neither (is_babble_of channel n t))
one_case channel n t false = refl

one_babble : (channel c : Channel) (n node : ℕ) (babble : Bool) (fate : SentFate) (bytes : Bytes)
    → babble_in channel n (transmission node c babble fate bytes)
    ≡ cond (node == n && is_channel c channel && babble) (if_bytes bytes) None
one_babble channel c n node babble fate None = sym (neither (node == n && is_channel c channel && babble))
one_babble channel c n node babble fate (Some bytes) =
    one_case channel n (record { node = node; channel = c; babble = babble; bytes = bytes; fate = fate })
    (length bytes.items == 0)

settled : (p q : Bool) (o b : Bytes)
    → option_or (cond (p && q && false) o None) (cond (p && q && true) b None) ≡ cond (p && q) b None
settled true true o b = refl
settled true false o b = refl
settled false true o b = refl
settled false false o b = refl

-- a node's side gives its babble on the channel, if it is this node
of_side : (d : Description) (w : Opportunity) (channel c : Channel) (n node : ℕ) (side : Side) (slot : Option ℕ)
    (mine on : Bool) → (node == n) ≡ mine → is_channel c channel ≡ on
    → babble_in channel n (sent_in d w node c side slot) ≡ cond (mine && on) (recordable slot side.babble) None
of_side d w channel c n node side None mine on e f = sym (neither (mine && on))
of_side d w channel c n node side (Some slot) mine on e f =
    babble_append channel n (transmission node c false (fate_of side.mute (passes d node w c)) side.offer)
    (transmission node c true (fate_of false (passes d node w c)) side.babble)
    ∙ ap (λ (o : Bytes). option_or o (babble_in channel n (transmission node c true
    (fate_of false (passes d node w c)) side.babble))) (one_babble channel c n node false
    (fate_of side.mute (passes d node w c)) side.offer)
    ∙ ap (option_or (cond (node == n && is_channel c channel && false) (if_bytes side.offer) None))
    (one_babble channel c n node true (fate_of false (passes d node w c)) side.babble)
    ∙ rw (e, f) (settled mine on (if_bytes side.offer) (if_bytes side.babble))

of_node : (d : Description) (w : Opportunity) (channel : Channel) (n node : ℕ) (s : Station) (mine : Bool)
    → (node == n) ≡ mine
    → babble_in channel n (sent_of d w node s) ≡ cond mine (recordable (slot_of w channel) (side_on channel s).babble)
    None
of_node d w A n node s mine e =
    babble_append A n (sent_in d w node A s.a (slot_of w A)) (sent_in d w node B s.b (slot_of w B))
    ∙ ap (λ (o : Bytes). option_or o (babble_in A n (sent_in d w node B s.b (slot_of w B))))
    (of_side d w A A n node s.a (slot_of w A) mine true e refl)
    ∙ ap (option_or (cond (mine && true) (recordable (slot_of w A) s.a.babble) None))
    (of_side d w A B n node s.b (slot_of w B) mine false e refl)
    ∙ first mine (recordable (slot_of w A) s.a.babble) (recordable (slot_of w B) s.b.babble)
  where
    first : (m : Bool) (o p : Bytes) → option_or (cond (m && true) o None) (cond (m && false) p None) ≡ cond m o None
    first true o p = or_none o
    first false o p = refl
of_node d w B n node s mine e =
    babble_append B n (sent_in d w node A s.a (slot_of w A)) (sent_in d w node B s.b (slot_of w B))
    ∙ ap (λ (o : Bytes). option_or o (babble_in B n (sent_in d w node B s.b (slot_of w B))))
    (of_side d w B A n node s.a (slot_of w A) mine false e refl)
    ∙ ap (option_or (cond (mine && false) (recordable (slot_of w A) s.a.babble) None))
    (of_side d w B B n node s.b (slot_of w B) mine true e refl)
    ∙ second mine (recordable (slot_of w A) s.a.babble) (recordable (slot_of w B) s.b.babble)
  where
    second : (m : Bool) (o p : Bytes) → option_or (cond (m && false) o None) (cond (m && true) p None) ≡ cond m p None
    second true o p = refl
    second false o p = refl

before_all : (d : Description) (w : Opportunity) (channel : Channel) (n start : ℕ) (ss : List Station) → n < start
    → babble_in channel n (sent_from d w start ss) ≡ None
before_all d w channel n start [] below = refl
before_all d w channel n start (s ∷ ss) below =
    babble_append channel n (sent_of d w start s) (sent_from d w (start + 1) ss)
    ∙ ap (λ (o : Bytes). option_or o (babble_in channel n (sent_from d w (start + 1) ss)))
    (of_node d w channel n start s false (ne_eqb start n
    (λ same. let none : ⊥ = omega (arith, below, same) in none)))
    ∙ before_all d w channel n (start + 1) ss (omega (arith, below))

no_bytes : (slot : Option ℕ) → recordable slot None ≡ None
no_bytes None = refl
no_bytes (Some slot) = refl

-- the side on a channel of a station that is idle
idle_side : (channel : Channel) → (side_on channel idle_station).babble ≡ None
idle_side A = refl
idle_side B = refl

-- the node's babble in the record is the one of its station
pub babble_of_station : (d : Description) (w : Opportunity) (channel : Channel) (n start k : ℕ) (ss : List Station)
    → n ≡ start + k
    → babble_in channel n (sent_from d w start ss)
    ≡ recordable (slot_of w channel) (side_on channel (get_or ss k idle_station)).babble
babble_of_station d w channel n start k [] e =
    sym (ap (recordable (slot_of w channel)) (idle_side channel) ∙ no_bytes (slot_of w channel))
babble_of_station d w channel n start zero (s ∷ ss) e =
    babble_append channel n (sent_of d w start s) (sent_from d w (start + 1) ss)
    ∙ ap (λ (o : Bytes). option_or o (babble_in channel n (sent_from d w (start + 1) ss)))
    (of_node d w channel n start s true (eq-eqb start n (omega (arith, e))))
    ∙ ap (option_or (recordable (slot_of w channel) (side_on channel s).babble))
    (before_all d w channel n (start + 1) ss (omega (arith, e)))
    ∙ or_none (recordable (slot_of w channel) (side_on channel s).babble)
babble_of_station d w channel n start (suc k) (s ∷ ss) e =
    babble_append channel n (sent_of d w start s) (sent_from d w (start + 1) ss)
    ∙ ap (λ (o : Bytes). option_or o (babble_in channel n (sent_from d w (start + 1) ss)))
    (of_node d w channel n start s false (ne_eqb start n (λ same. let none : ⊥ = omega (arith, e, same) in none)))
    ∙ babble_of_station d w channel n (start + 1) k ss (omega (arith, e))

-- ---- mutes

abbrev pub Each : (Sent → Type 0) → List Sent → Type 0
Each P [] = Unit {0}
Each P (t ∷ ts) = P t × Each P ts

each_append : (P : Sent → Type 0) (xs ys : List Sent) → Each P xs → Each P ys → Each P (xs ++ ys)
each_append P [] ys first second = second
each_append P (x ∷ xs) ys first second = (first.0, each_append P xs ys first.1 second)

pub each_at : (P : Sent → Type 0) (xs : List Sent) (k : ℕ) (t : Sent) → Each P xs → slice_get xs k ≡ Some t → P t
each_at P [] k t each at = absurd (let none : ⊥ = cc in none)
each_at P (x ∷ xs) zero t each at = let same : x ≡ t = cc in subst P same each.0
each_at P (x ∷ xs) (suc k) t each at = each_at P xs k t each.1 at

-- the transmission is muted exactly if it is an offer, and its node's station is muted on its channel
abbrev pub IsMutedBy : (ℕ → Station) → Sent → Type 0
IsMutedBy station t = is_muted t.fate ≡ (not t.babble && (side_on t.channel (station t.node)).mute)

muted_fate : (muted let_pass : Bool) → is_muted (fate_of muted let_pass) ≡ muted
muted_fate true let_pass = refl
muted_fate false true = refl
muted_fate false false = refl

module _ (station : ℕ → Station) (d : Description) (w : Opportunity) where
  sent_if : (none : Bool) (t : Sent) → IsMutedBy station t → Each (IsMutedBy station) (cond none [] (t ∷ []))
  sent_if true t is = tt
  sent_if false t is = (is, tt)

  transmitted : (node : ℕ) (channel : Channel) (babble : Bool) (fate : SentFate) (bytes : Bytes)
      → is_muted fate ≡ (not babble && (side_on channel (station node)).mute)
      → Each (IsMutedBy station) (transmission node channel babble fate bytes)
  transmitted node channel babble fate None is = tt
  transmitted node channel babble fate (Some bytes) is =
      sent_if (length bytes.items == 0)
      (record { node = node; channel = channel; babble = babble; bytes = bytes; fate = fate }) is

  muted_side : (node : ℕ) (channel : Channel) (slot : Option ℕ) (side : Side) → side_on channel (station node) ≡ side
      → Each (IsMutedBy station) (sent_in d w node channel side slot)
  muted_side node channel None side is = tt
  muted_side node channel (Some slot) side is =
      each_append (IsMutedBy station)
      (transmission node channel false (fate_of side.mute (passes d node w channel)) side.offer)
      (transmission node channel true (fate_of false (passes d node w channel)) side.babble)
      (transmitted node channel false (fate_of side.mute (passes d node w channel)) side.offer
      (muted_fate side.mute (passes d node w channel) ∙ ap (λ (s : Side). s.mute) (sym is)))
      (transmitted node channel true (fate_of false (passes d node w channel)) side.babble
      (muted_fate false (passes d node w channel)))

  muted_node : (node : ℕ) (s : Station) → station node ≡ s → Each (IsMutedBy station) (sent_of d w node s)
  muted_node node s is =
      each_append (IsMutedBy station) (sent_in d w node A s.a (slot_of w A)) (sent_in d w node B s.b (slot_of w B))
      (muted_side node A (slot_of w A) s.a (ap (side_on A) is))
      (muted_side node B (slot_of w B) s.b (ap (side_on B) is))

  -- the mutes of the transmissions are those of the stations
  pub muted_from : (start : ℕ) (ss : List Station)
      → ((k : ℕ) → k < length ss → station (start + k) ≡ get_or ss k idle_station)
      → Each (IsMutedBy station) (sent_from d w start ss)
  muted_from start [] are = tt
  muted_from start (s ∷ ss) are =
      let here : start + 0 ≡ start = omega arith in
      each_append (IsMutedBy station) (sent_of d w start s) (sent_from d w (start + 1) ss)
      (muted_node start s (ap station (sym here) ∙ are 0 (omega arith)))
      (muted_from (start + 1) ss (λ k within.
      let next : start + 1 + k ≡ start + suc k = omega arith in
      ap station next ∙ are (suc k) (omega (arith, within))))
