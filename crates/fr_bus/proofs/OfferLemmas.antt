-- The offer of a node, by the record.
use Rattle.std.proofs.Common.{◌≡◌, ℕ, zero, suc, ◌+◌, ◌<◌, Bool, true, false, cond, List, [], ◌∷◌, ◌++◌, length, Option}
use Rattle.std.proofs.Common.{Some, None, refl, sym, ap, ◌∙◌, arith}
use Rattle.std.proofs.lemmas.Bool.{eq-eqb, ne_eqb}
use Rattle.std.specs.Prelude.{◌&&◌, ◌==◌, not, slice_index_or}
use Rattle.std.specs.Option.{option_or}
use Rattle.arrayvec.specs.ArrayVec.{ArrayVec}
use Rattle.fr_bus.specs.declared.outcome.SentFate.{SentFate}
use Rattle.fr_bus.specs.declared.outcome.Sent.{Sent}
use Rattle.fr_bus.specs.declared.station.Side.{Side}
use Rattle.fr_bus.specs.Stations.{Station}
use Rattle.fr_bus.specs.Outcome.{transmission, sent_in, sent_of, sent_from, fate_of}
use Rattle.fr_slots.specs.Admission.{is_channel}
use Rattle.fr_bus.specs.Record.{side_on, is_offer_of, offer_in, if_bytes, recordable}
use Rattle.fr_bus.specs.States.{idle_station}
use Rattle.fr_guardian.specs.Guarding.{passes}
use Rattle.fr_schedule.specs.Descriptions.{Description}
use Rattle.fr_slots.specs.declared.channel.Channel.{Channel}
use Rattle.fr_slots.specs.declared.channel.Channel.TheVariants.{A, B}
use Rattle.fr_slots.specs.Windows.{Opportunity, slot_of}

abbrev Bytes : Type 0
Bytes = Option (ArrayVec ℕ)

or_case : (b : Bool) (x : ArrayVec ℕ) (o p : Bytes) → cond b (Some x) (option_or o p) ≡ option_or (cond b (Some x) o) p
or_case true x o p = refl
or_case false x o p = refl

offer_append : (channel : Channel) (n : ℕ) (xs ys : List Sent)
    → offer_in channel n (xs ++ ys) ≡ option_or (offer_in channel n xs) (offer_in channel n ys)
offer_append channel n [] ys = refl
offer_append channel n (t ∷ xs) ys =
    ap (λ (o : Bytes). cond (is_offer_of channel n t) (Some t.bytes) o) (offer_append channel n xs ys)
    ∙ or_case (is_offer_of channel n t) t.bytes (offer_in channel n xs) (offer_in channel n ys)

or_none : (o : Bytes) → option_or o None ≡ o
or_none None = refl
or_none (Some x) = refl

neither : (b : Bool) → cond {A = Bytes} b None None ≡ None
neither true = refl
neither false = refl

one_case : (channel : Channel) (n : ℕ) (t : Sent) (none : Bool)
    → offer_in channel n (cond none [] (t ∷ [])) ≡ cond (is_offer_of channel n t) (cond none None (Some t.bytes)) None
one_case channel n t true = sym (neither (is_offer_of channel n t))
one_case channel n t false = refl

one_offer : (channel c : Channel) (n node : ℕ) (babble : Bool) (fate : SentFate) (bytes : Bytes)
    → offer_in channel n (transmission node c babble fate bytes) ≡ cond
    (node == n && is_channel c channel && not babble) (if_bytes bytes) None
one_offer channel c n node babble fate None = sym (neither (node == n && is_channel c channel && not babble))
one_offer channel c n node babble fate (Some bytes) =
    one_case channel n (record { node = node; channel = c; babble = babble; bytes = bytes; fate = fate })
    (length bytes.items == 0)

-- a node's two sides give its offer on the channel, if it is this node
of_side : (d : Description) (w : Opportunity) (channel c : Channel) (n node : ℕ) (side : Side) (slot : Option ℕ)
    (mine on : Bool) → (node == n) ≡ mine → is_channel c channel ≡ on
    → offer_in channel n (sent_in d w node c side slot) ≡ cond (mine && on) (recordable slot side.offer) None
of_side d w channel c n node side None mine on e f = sym (neither (mine && on))
of_side d w channel c n node side (Some slot) mine on e f =
    offer_append channel n (transmission node c false (fate_of side.mute (passes d node w c)) side.offer)
    (transmission node c true (fate_of false (passes d node w c)) side.babble)
    ∙ ap (λ (o : Bytes). option_or o (offer_in channel n (transmission node c true
    (fate_of false (passes d node w c)) side.babble))) (one_offer channel c n node false
    (fate_of side.mute (passes d node w c)) side.offer)
    ∙ ap (option_or (cond (node == n && is_channel c channel && true) (if_bytes side.offer) None))
    (one_offer channel c n node true (fate_of false (passes d node w c)) side.babble)
    ∙ rw (e, f) (settled mine on (if_bytes side.offer) (if_bytes side.babble))
  where
    settled : (p q : Bool) (o b : Bytes) → option_or (cond (p && q && true) o None) (cond (p && q && false) b None) ≡
        cond (p && q) o None
    settled true true o b = or_none o
    settled true false o b = refl
    settled false true o b = refl
    settled false false o b = refl

of_node : (d : Description) (w : Opportunity) (channel : Channel) (n node : ℕ) (s : Station) (mine : Bool)
    → (node == n) ≡ mine
    → offer_in channel n (sent_of d w node s) ≡ cond mine (recordable (slot_of w channel) (side_on channel s).offer)
    None
of_node d w A n node s mine e =
    offer_append A n (sent_in d w node A s.a (slot_of w A)) (sent_in d w node B s.b (slot_of w B))
    ∙ ap (λ (o : Bytes). option_or o (offer_in A n (sent_in d w node B s.b (slot_of w B))))
    (of_side d w A A n node s.a (slot_of w A) mine true e refl)
    ∙ ap (option_or (cond (mine && true) (recordable (slot_of w A) s.a.offer) None))
    (of_side d w A B n node s.b (slot_of w B) mine false e refl)
    ∙ first mine (recordable (slot_of w A) s.a.offer) (recordable (slot_of w B) s.b.offer)
  where
    first : (m : Bool) (o p : Bytes) → option_or (cond (m && true) o None) (cond (m && false) p None) ≡ cond m o None
    first true o p = or_none o
    first false o p = refl
of_node d w B n node s mine e =
    offer_append B n (sent_in d w node A s.a (slot_of w A)) (sent_in d w node B s.b (slot_of w B))
    ∙ ap (λ (o : Bytes). option_or o (offer_in B n (sent_in d w node B s.b (slot_of w B))))
    (of_side d w B A n node s.a (slot_of w A) mine false e refl)
    ∙ ap (option_or (cond (mine && false) (recordable (slot_of w A) s.a.offer) None))
    (of_side d w B B n node s.b (slot_of w B) mine true e refl)
    ∙ second mine (recordable (slot_of w A) s.a.offer) (recordable (slot_of w B) s.b.offer)
  where
    second : (m : Bool) (o p : Bytes) → option_or (cond (m && false) o None) (cond (m && true) p None) ≡ cond m p None
    second true o p = refl
    second false o p = refl

before_all : (d : Description) (w : Opportunity) (channel : Channel) (n start : ℕ) (ss : List Station) → n < start
    → offer_in channel n (sent_from d w start ss) ≡ None
before_all d w channel n start [] below = refl
before_all d w channel n start (s ∷ ss) below =
    offer_append channel n (sent_of d w start s) (sent_from d w (start + 1) ss)
    ∙ ap (λ (o : Bytes). option_or o (offer_in channel n (sent_from d w (start + 1) ss)))
    (of_node d w channel n start s false (ne_eqb start n
    (λ same. let none : ⊥ = omega (arith, below, same) in none)))
    ∙ before_all d w channel n (start + 1) ss (omega (arith, below))

-- the node's offer in the record is the one of its station
pub offer_of_station : (d : Description) (w : Opportunity) (channel : Channel) (n start k : ℕ) (ss : List Station)
    → n ≡ start + k → k < length ss
    → offer_in channel n (sent_from d w start ss) ≡ recordable (slot_of w channel)
    (side_on channel (slice_index_or ss k idle_station)).offer
offer_of_station d w channel n start k [] e within = absurd (let none : ⊥ = omega (arith, within) in none)
offer_of_station d w channel n start zero (s ∷ ss) e within =
    offer_append channel n (sent_of d w start s) (sent_from d w (start + 1) ss)
    ∙ ap (λ (o : Bytes). option_or o (offer_in channel n (sent_from d w (start + 1) ss)))
    (of_node d w channel n start s true (eq-eqb start n (omega (arith, e))))
    ∙ ap (option_or (recordable (slot_of w channel) (side_on channel s).offer))
    (before_all d w channel n (start + 1) ss (omega (arith, e)))
    ∙ or_none (recordable (slot_of w channel) (side_on channel s).offer)
offer_of_station d w channel n start (suc k) (s ∷ ss) e within =
    offer_append channel n (sent_of d w start s) (sent_from d w (start + 1) ss)
    ∙ ap (λ (o : Bytes). option_or o (offer_in channel n (sent_from d w (start + 1) ss)))
    (of_node d w channel n start s false (ne_eqb start n (λ same. let none : ⊥ = omega (arith, e, same) in none)))
    ∙ offer_of_station d w channel n (start + 1) k ss (omega (arith, e)) (omega (arith, within))
