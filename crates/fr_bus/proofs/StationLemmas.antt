-- Stations whose flags and sides are kept apart.
use Rattle.std.proofs.Common.{◌≡◌, ℕ, zero, suc, ◌+◌, ◌<◌, ◌≤◌, Bool, false, List, [], ◌∷◌, ◌++◌, length, drop}
use Rattle.std.proofs.Common.{replicate, refl, sym, ap, subst, ◌∙◌, add-one, arith, true, Option, Some, None, get_or}
use Rattle.std.specs.Prelude.{slice_index_or, slice_set}
use Rattle.arrayvec.specs.ArrayVec.{ArrayVec}
use Rattle.fr_bus.specs.declared.station.Sides.{Sides}
use Rattle.fr_bus.specs.declared.station.Stations.TheInside.{Inside}
use Rattle.fr_bus.specs.declared.station.Side.{Side}
use Rattle.fr_bus.specs.Outcome.{fate_of, sent_from, sent_in, sent_of, transmission}
use Rattle.fr_bus.specs.Record.{side_on}
use Rattle.fr_bus.specs.States.{idle_station, babbling, muting}
use Rattle.fr_bus.specs.Stations.{AllSendNothing, SendNothing, SendsNothing}
use Rattle.fr_bus.specs.Stations.{Station, station_of, stations_of, silent_sides, side_in, with_babble, with_mute}
use Rattle.fr_bus.specs.StationsFields.{stations_in, HasRoom}
use Rattle.fr_schedule.specs.Descriptions.{Description}
use Rattle.fr_guardian.specs.Guarding.{passes}
use Rattle.fr_slots.specs.Windows.{Opportunity, slot_of}
use Rattle.fr_slots.specs.declared.channel.Channel.{Channel}
use Rattle.fr_slots.specs.declared.channel.Channel.TheVariants.{A, B}

-- there is a station for each of the sides
pub length_stations : (ps ts : List Bool) (ss : List Sides) → length ss ≤ length ps → length ss ≤ length ts
    → length (stations_of ps ts ss) ≡ length ss
length_stations (p ∷ ps) (t ∷ ts) (s ∷ ss) put taken = ap suc
    (length_stations ps ts ss (omega (arith, put)) (omega (arith, taken)))
length_stations (p ∷ ps) (t ∷ ts) [] put taken = refl
length_stations (p ∷ ps) [] (s ∷ ss) put taken = absurd (let none : ⊥ = omega (arith, taken) in none)
length_stations (p ∷ ps) [] [] put taken = refl
length_stations [] ts (s ∷ ss) put taken = absurd (let none : ⊥ = omega (arith, put) in none)
length_stations [] ts [] put taken = refl

-- a node's station has the node's flags and sides
pub station_is : (ps ts : List Bool) (ss : List Sides) (n : ℕ) (d : Station) (p t : Bool) (s : Sides) → n < length ss
    → length ss ≤ length ps → length ss ≤ length ts
    → slice_index_or (stations_of ps ts ss) n d ≡ station_of (slice_index_or ps n p) (slice_index_or ts n t)
    (slice_index_or ss n s)
station_is (p ∷ ps) (t ∷ ts) (s ∷ ss) zero d q u v within put taken = refl
station_is (p ∷ ps) (t ∷ ts) (s ∷ ss) (suc n) d q u v within put taken =
    station_is ps ts ss n d q u v (omega (arith, within)) (omega (arith, put)) (omega (arith, taken))
station_is ps ts [] n d q u v within put taken = absurd (let none : ⊥ = omega (arith, within) in none)
station_is (p ∷ ps) [] (s ∷ ss) n d q u v within put taken = absurd (let none : ⊥ = omega (arith, taken) in none)
station_is [] ts (s ∷ ss) n d q u v within put taken = absurd (let none : ⊥ = omega (arith, put) in none)

-- setting the flags and sides of a node sets its station
pub station_set : (ps ts : List Bool) (ss : List Sides) (n : ℕ) (p t : Bool) (s : Sides)
    → slice_set (stations_of ps ts ss) n (station_of p t s) ≡ stations_of (slice_set ps n p) (slice_set ts n t)
    (slice_set ss n s)
station_set (q ∷ ps) (u ∷ ts) (v ∷ ss) zero p t s = refl
station_set (q ∷ ps) (u ∷ ts) (v ∷ ss) (suc n) p t s = ap (λ zs. station_of q u v ∷ zs) (station_set ps ts ss n p t s)
station_set (q ∷ ps) (u ∷ ts) [] zero p t s = refl
station_set (q ∷ ps) (u ∷ ts) [] (suc n) p t s = refl
station_set (q ∷ ps) [] ss zero p t s = refl
station_set (q ∷ ps) [] ss (suc n) p t s = refl
station_set [] ts ss n p t s = refl

-- if no flag is set and all sides are silent, all stations are idle
pub stations_idle : (k n : ℕ) → n ≤ k → stations_of (replicate k false) (replicate k false) (replicate n silent_sides)
    ≡ replicate n idle_station
stations_idle (suc k) (suc n) few = ap (λ zs. idle_station ∷ zs) (stations_idle k n (omega (arith, few)))
stations_idle (suc k) zero few = refl
stations_idle zero zero few = refl
stations_idle zero (suc n) few = absurd (let none : ⊥ = omega (arith, few) in none)

-- ---- as the bus keeps them

sides_here : (i : Inside) → HasRoom i → (now : List Station) → stations_in i ≡ now → length now ≡ length i.sides.items
sides_here i room now view =
    sym (ap length view)
    ∙ length_stations i.put i.taken i.sides.items (omega (arith, room.put_long, room.few))
    (omega (arith, room.taken_long, room.few))

-- reading the flags and sides of a node
pub read_station : (i : Inside) → HasRoom i → (now : List Station) → stations_in i ≡ now → (m n : ℕ) → m ≡ n
    → n < length now → (q u : Bool) (v : Sides)
    → slice_index_or now n idle_station ≡ station_of (slice_index_or i.put m q) (slice_index_or i.taken m u)
    (slice_index_or i.sides.items m v)
read_station i room now view m n is within q u v =
    sym (λ j. slice_index_or (view j) (is j) idle_station)
    ∙ station_is i.put i.taken i.sides.items m idle_station q u v
    (omega (arith, is, within, sides_here i room now view)) (omega (arith, room.put_long, room.few))
    (omega (arith, room.taken_long, room.few))

-- writing the flags and sides of a node
pub write_station : (i : Inside) → HasRoom i → (now : List Station) → stations_in i ≡ now → (m n : ℕ) → m ≡ n
    → n < length now
    → (q u : Bool) (v : Sides) (p t : Bool) (s : Sides) (f : Station → Station)
    → f (station_of (slice_index_or i.put m q) (slice_index_or i.taken m u) (slice_index_or i.sides.items m v))
    ≡ station_of p t s
    → stations_of (slice_set i.put m p) (slice_set i.taken m t) (slice_set i.sides.items m s) ≡ slice_set now n
    (f (slice_index_or now n idle_station))
write_station i room now view m n is within q u v p t s f changed =
    sym (station_set i.put i.taken i.sides.items m p t s)
    ∙ ap (λ (x : Station). slice_set (stations_in i) m x) (sym changed ∙ ap f
    (sym (read_station i room now view m n is within q u v)))
    ∙ (λ j. slice_set (view j) (is j) (f (slice_index_or now n idle_station)))

-- all are idle again
pub clear_stations : (i : Inside) → HasRoom i → (now : List Station) → stations_in i ≡ now → (ss : List Sides)
    → ss ≡ replicate (length i.sides.items) silent_sides
    → stations_of (replicate 16 false) (replicate 16 false) ss ≡ replicate (length now) idle_station
clear_stations i room now view ss silent =
    ap (λ (xs : List Sides). stations_of (replicate 16 false) (replicate 16 false) xs) silent
    ∙ stations_idle 16 (length i.sides.items) room.few
    ∙ ap (λ (n : ℕ). replicate n idle_station) (sym (sides_here i room now view))

-- ---- one node

pub side_is : (channel : Channel) (p t : Bool) (s : Sides) → side_on channel (station_of p t s) ≡ side_in channel s
side_is A p t s = refl
side_is B p t s = refl

pub babbling_is : (channel : Channel) (bytes : ArrayVec ℕ) (p t : Bool) (s : Sides)
    → babbling channel bytes (station_of p t s) ≡ station_of p t (with_babble channel bytes s)
babbling_is A bytes p t s = refl
babbling_is B bytes p t s = refl

pub muting_is : (channel : Channel) (p t : Bool) (s : Sides)
    → muting channel (station_of p t s) ≡ station_of p t (with_mute channel s)
muting_is A p t s = refl
muting_is B p t s = refl

-- ---- transmissions of stations

sent_next : (d : Description) (w : Opportunity) (n k : ℕ) (ss : List Station) → n < length ss
    → sent_from d w k (drop n ss) ≡ sent_of d w k (slice_index_or ss n idle_station) ++ sent_from d w (k + 1)
    (drop (suc n) ss)
sent_next d w n k [] within = absurd (let none : ⊥ = omega (arith, within) in none)
sent_next d w zero k (s ∷ ss) within = refl
sent_next d w (suc n) k (s ∷ ss) within = sent_next d w n k ss (omega (arith, within))

-- the transmissions of the stations from one on are those of that one, then those of the rest
pub sent_more : (d : Description) (w : Opportunity) (n k : ℕ) (ss : List Station) → n < length ss
    → sent_from d w k (drop n ss) ≡ sent_of d w k (slice_index_or ss n idle_station) ++ sent_from d w (k + 1)
    (drop (n + 1) ss)
sent_more d w n k ss within =
    sent_next d w n k ss within
    ∙ ap (λ m. sent_of d w k (slice_index_or ss n idle_station) ++ sent_from d w (k + 1) (drop m ss)) (sym (add-one n))

-- ---- stations that send nothing

-- all from one on send nothing if it and all after it do
quiet_from : (n : ℕ) (ss : List Sides) (s : Sides) → n < length ss → s ≡ get_or ss n s → SendNothing s
    → AllSendNothing (drop (suc n) ss) → AllSendNothing (drop n ss)
quiet_from n [] s within is here rest = absurd (let none : ⊥ = omega (arith, within) in none)
quiet_from zero (t ∷ ts) s within is here rest = (subst SendNothing is here, rest)
quiet_from (suc n) (t ∷ ts) s within is here rest = quiet_from n ts s (omega (arith, within)) is here rest

pub quiet_more : (n : ℕ) (ss : List Sides) (s : Sides) → n < length ss → s ≡ get_or ss n s → SendNothing s
    → AllSendNothing (drop (n + 1) ss) → AllSendNothing (drop n ss)
quiet_more n ss s within is here rest =
    quiet_from n ss s within is here (subst (λ (m : ℕ). AllSendNothing (drop m ss)) (add-one n) rest)

quiet_side : (d : Description) (w : Opportunity) (n : ℕ) (channel : Channel) (side : Side) (slot : Option ℕ)
    → SendsNothing side → sent_in d w n channel side slot ≡ []
quiet_side d w n channel side None quiet = refl
quiet_side d w n channel side (Some slot) quiet =
    λ i. transmission n channel false (fate_of side.mute (passes d n w channel)) (quiet.0 i)
    ++ transmission n channel true (fate_of false (passes d n w channel)) (quiet.1 i)

pub quiet_stations : (ps ts : List Bool) (ss : List Sides) → AllSendNothing ss → (d : Description) (w : Opportunity)
    (n : ℕ) → sent_from d w n (stations_of ps ts ss) ≡ []
quiet_stations (p ∷ ps) (t ∷ ts) (s ∷ ss) quiet d w n =
    λ i. (quiet_side d w n A s.a (slot_of w A) quiet.0.0 i ++ quiet_side d w n B s.b (slot_of w B) quiet.0.1 i)
    ++ quiet_stations ps ts ss quiet.1 d w (n + 1) i
quiet_stations (p ∷ ps) (t ∷ ts) [] quiet d w n = refl
quiet_stations (p ∷ ps) [] ss quiet d w n = refl
quiet_stations [] ts ss quiet d w n = refl
