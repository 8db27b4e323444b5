-- Each event keeps the agreement of its node.
use Rattle.std.proofs.Common.{◌≡◌, ℕ, ◌-◌, Bool, true, false, cond, List, [], ◌∷◌, ◌++◌, length, map, Option, Some}
use Rattle.std.proofs.Common.{None, refl, sym, ap, subst, ◌∙◌, arith, length-append, option_map, slice_get}
use Rattle.std.specs.Prelude.{◌==◌, option_to_list}
use Rattle.std.specs.Option.{option_and_then, option_or}
use Rattle.std.proofs.lemmas.Bool.{ne_eqb}
use Rattle.std.proofs.lemmas.List.{append-nil, map-append}
use Rattle.arrayvec.specs.ArrayVec.{ArrayVec}
use Rattle.fr_bus.specs.declared.error.Phase.{Phase}
use Rattle.fr_bus.specs.declared.error.Phase.TheVariants.{Collect, Sealed as InSealed, Finished}
use Rattle.fr_bus.specs.Stations.{Station}
use Rattle.fr_bus.specs.Record.{Recorded, offer_in, recordable}
use Rattle.fr_bus.specs.States.{collects, seals, idle_station, offering}
use Rattle.fr_core.proofs.CaseLemmas.{differ}
use Rattle.fr_core.specs.Agreeing.{Handed, Sight, handed_at, fetched, sight_of, sight_at, observed, offers_of}
use Rattle.fr_core.specs.Agreeing.{sights_of}
use Rattle.fr_core.specs.Agreement.{BusView, last_of, sight_in, last_seen, handed_as, ahead, behind, Turn}
use Rattle.fr_core.specs.Agreement.{AreRecordable, CarriesLawful, NodeAgrees}
use Rattle.fr_core.specs.Carried.{Carried, Idle, Knows, Offers, Waits, Took}
use Rattle.fr_core.specs.Steps.{offer_of}
use Rattle.fr_slots.proofs.PlaceLemmas.{get-after}
use Rattle.fr_frame.proofs.EncodingLemmas.{length-encoded}
use Rattle.fr_frame.specs.Encoding.{encoded}
use Rattle.fr_frame.specs.Fields.{Fields}
use Rattle.fr_interface.specs.declared.interface.Offer.{Offer}
use Rattle.fr_interface.specs.State.{State, with_entry, fetch_entry}
use Rattle.fr_journal.specs.Forms.{Entry}
use Rattle.fr_journal.specs.declared.entry.Entry.TheVariants.{Observe}
use Rattle.fr_journal.specs.Offers.{offered, frame_of_offer, bytes_of}
use Rattle.fr_journal.specs.OpenWindow.{window_mark}
use Rattle.fr_journal.proofs.OpenWindowLemmas.{open_window-snoc}
use Rattle.fr_slots.specs.declared.channel.Channel.{Channel}
use Rattle.fr_slots.specs.declared.channel.Channel.TheVariants.{A, B}
use Rattle.fr_slots.specs.History.{last_after, each_after}
use Rattle.fr_slots.specs.Parameters.{Parameters}
use Rattle.fr_slots.specs.Plans.{Plan}
use Rattle.fr_slots.specs.Windows.{Opportunity, slot_of}
use Rattle.fr_slots.proofs.HistoryLemmas.{each_after-snoc}
use Rattle.fr_status.specs.Forms.{Seen}

-- ---- lists with one more item

pub fetched-more : (s : State) (e : Entry) → fetched (with_entry s e) ≡ fetched s ++ handed_at s.params s.plan s.entries
    e
fetched-more s e = each_after-snoc (handed_at s.params s.plan) s.entries e

pub observed-more : (s : State) (e : Entry) → observed (with_entry s e) ≡ observed s ++ sight_at s.entries e
observed-more s e = each_after-snoc sight_at s.entries e

last_of-more : (rs : List Recorded) (r : Recorded) → last_of (rs ++ r ∷ []) ≡ Some r
last_of-more rs r =
    let place : length (rs ++ r ∷ []) - 1 ≡ length rs = omega (arith, length-append rs (r ∷ [])) in
    ap (slice_get (rs ++ r ∷ [])) place ∙ get-after rs [] r

handed_same : {w x : Opportunity} {a c b d : Option (ArrayVec ℕ)} → w ≡ x → a ≡ c → b ≡ d
    → ◌≡◌ {A = List Handed} (handed_as w a b ∷ []) (handed_as x c d ∷ [])
handed_same p q r = cc

sight_same : {w x : Opportunity} {a c b d : Seen} → w ≡ x → a ≡ c → b ≡ d
    → ◌≡◌ {A = List Sight} (sight_of a b w ∷ []) (sight_of c d x ∷ [])
sight_same p q r = cc

-- ---- calls of the host

same_after : (before : Option (Option Opportunity)) (o : Option Opportunity)
    → option_and_then (λ (w : Option Opportunity). w) before ≡ o
    → option_and_then (λ (w : Option Opportunity). w) (option_or None before) ≡ o
same_after before o e = e

-- an entry that hands nothing over and observes nothing, as all entries of the host
pub agrees_host : (n : ℕ) (i : State) (c : Carried) (v : BusView) (e : Entry)
    → handed_at i.params i.plan i.entries e ≡ [] → sight_at i.entries e ≡ [] → window_mark i.entries e ≡ None
    → NodeAgrees n i c v → NodeAgrees n (with_entry i e) c v
agrees_host n i c v e hands sees mark a = record {
  fetches = fetched-more i e ∙ ap (λ l. fetched i ++ l) hands ∙ append-nil (fetched i) ∙ a.fetches;
  sees = ap (λ l. l ++ behind n c v) (observed-more i e ∙ ap (λ l. observed i ++ l) sees ∙ append-nil (observed i))
      ∙ a.sees;
  opens = open_window-snoc i.entries e ∙ ap (λ o. option_and_then (λ w. w)
      (option_or o (last_after window_mark [] i.entries))) mark ∙ a.opens;
  fits = a.fits;
  turn = a.turn;
}

-- ---- Look

look_turn : (p : Phase) (w : Opportunity) (opened : Option Opportunity) (put taken : Bool) → collects p ≡ true
    → opened ≡ Some w → Turn Idle p opened put taken → Turn (Knows w) p opened put taken
look_turn Collect w opened put taken e o t = (t.0, t.1, o)
look_turn InSealed w opened put taken e o t = absurd (let none : ⊥ = cc in none)
look_turn Finished w opened put taken e o t = absurd (let none : ⊥ = cc in none)

pub agrees_look : (n : ℕ) (i : State) (v : BusView) (w : Opportunity) → collects v.phase ≡ true → v.opened ≡ Some w
    → NodeAgrees n i Idle v → NodeAgrees n i (Knows w) v
agrees_look n i v w e o a = record {
  fetches = a.fetches;
  sees = a.sees;
  opens = a.opens;
  fits = tt;
  turn = look_turn v.phase w v.opened v.station.put v.station.taken e o a.turn;
}

-- ---- Fetch

bytes_kept : (slot : ℕ) (channel : Channel) (f : Option Fields)
    → recordable (Some slot) (bytes_of channel f) ≡ bytes_of channel f
bytes_kept slot channel None = refl
bytes_kept slot channel (Some f) =
    let some : (length (encoded f channel) == 0) ≡ false = ne_eqb (length (encoded f channel)) 0
    (λ none. let h : ⊥ = omega (arith, length-encoded f channel, none) in h) in
    ap (λ (b : Bool). cond b None (Some (record { items = encoded f channel }))) some

-- the encoded frame of an offer is recorded unchanged
offer_kept : (channel : Channel) (slot : Option ℕ) (g : ℕ → Option Fields)
    → recordable slot (bytes_of channel (option_and_then g slot)) ≡ bytes_of channel (option_and_then g slot)
offer_kept channel None g = refl
offer_kept channel (Some slot) g = bytes_kept slot channel (g slot)

pub offer_is_recordable : (s : State) (w : Opportunity) → AreRecordable w (offer_of s w).a (offer_of s w).b
offer_is_recordable s w = record {
  on_a = offer_kept A (slot_of w A) (λ slot. frame_of_offer s.params s.plan s.entries w A slot
      (offered s.plan s.entries w A));
  on_b = offer_kept B (slot_of w B) (λ slot. frame_of_offer s.params s.plan s.entries w B slot
      (offered s.plan s.entries w B));
}

fetch_turn : (p : Phase) (w : Opportunity) (o : Offer) (opened : Option Opportunity) (put taken : Bool)
    → Turn (Knows w) p opened put taken → Turn (Offers w o) p opened put taken
fetch_turn Collect w o opened put taken t = t
fetch_turn InSealed w o opened put taken t = t
fetch_turn Finished w o opened put taken t = t

pub agrees_fetch : (n : ℕ) (i : State) (w : Opportunity) (v : BusView) → NodeAgrees n i (Knows w) v
    → NodeAgrees n (with_entry i (fetch_entry i w)) (Offers w (offer_of i w)) v
agrees_fetch n i w v a = record {
  fetches = fetched-more i (fetch_entry i w) ∙ ap (λ l. l ++ handed_as w (offer_of i w).a (offer_of i w).b ∷ [])
      (a.fetches ∙ append-nil (map (offers_of n) v.sealed));
  sees = ap (λ l. l ++ []) (observed-more i (fetch_entry i w) ∙ append-nil (observed i)) ∙ a.sees;
  opens = open_window-snoc i.entries (fetch_entry i w);
  fits = offer_is_recordable i w;
  turn = fetch_turn v.phase w (offer_of i w) v.opened v.station.put v.station.taken a.turn;
}

-- ---- Put

put_step : (n : ℕ) (i : State) (w : Opportunity) (o : Offer) (v : BusView) (p : Phase) (opened : Option Opportunity)
    → NodeAgrees n i (Offers w o) (record v { phase = p; opened = opened })
    → NodeAgrees n i (Waits w) (record v { phase = p; opened = opened; station = offering v.station o })
put_step n i w o v Collect opened a = record {
  fetches = a.fetches;
  sees = a.sees;
  opens = a.opens;
  fits = record { on_a = a.fits.on_a; on_b = a.fits.on_b };
  turn = (refl, a.turn.1, a.turn.2);
}
put_step n i w o v InSealed opened a = absurd (a.turn)
put_step n i w o v Finished opened a = absurd (a.turn)

pub agrees_put : (n : ℕ) (i : State) (w : Opportunity) (o : Offer) (v : BusView) → NodeAgrees n i (Offers w o) v
    → NodeAgrees n i (Waits w) (record v { station = offering v.station o })
agrees_put n i w o v a = put_step n i w o v v.phase v.opened a

-- ---- Seal: all have put, so all wait

seal_step : (n : ℕ) (i : State) (c : Carried) (v : BusView) (p : Phase) (made : Recorded) → collects p ≡ true
    → v.station.put ≡ true → v.opened ≡ Some made.window
    → offer_in A n made.sent ≡ recordable (slot_of made.window A) v.station.a.offer
    → offer_in B n made.sent ≡ recordable (slot_of made.window B) v.station.b.offer
    → NodeAgrees n i c (record v { phase = p }) → NodeAgrees n i c
    (record v { phase = InSealed; sealed = v.sealed ++ made ∷ [] })
seal_step n i (Waits w) v Collect made e put at on_a on_b a =
    let window : made.window ≡ w = (let both : ◌≡◌ {A = Option Opportunity} (Some made.window) (Some w) =
    sym at ∙ a.turn.2 in cc) in
    let offer_a : offer_in A n made.sent ≡ v.station.a.offer =
    on_a ∙ ap (λ (x : Opportunity). recordable (slot_of x A) v.station.a.offer) window ∙ a.fits.on_a in
    let offer_b : offer_in B n made.sent ≡ v.station.b.offer =
    on_b ∙ ap (λ (x : Opportunity). recordable (slot_of x B) v.station.b.offer) window ∙ a.fits.on_b in
    let last = last_of-more v.sealed made in
    record {
      fetches = a.fetches ∙ ap (λ l. map (offers_of n) v.sealed ++ l) (sym (handed_same window offer_a offer_b)) ∙ sym
          (map-append (offers_of n) v.sealed (made ∷ []))
          ∙ sym (append-nil (map (offers_of n) (v.sealed ++ made ∷ [])));
      sees = ap (λ l. l ++ sight_of (last_seen v.params (v.sealed ++ made ∷ []) A n)
          (last_seen v.params (v.sealed ++ made ∷ []) B n) w ∷ []) (sym (append-nil (observed i)) ∙ a.sees)
          ∙ ap (λ l. map (sights_of v.params n) v.sealed ++ l)
          (sight_same (sym window) (ap (sight_in v.params A n) last) (ap (sight_in v.params B n) last))
          ∙ sym (map-append (sights_of v.params n) v.sealed (made ∷ []));
      opens = a.opens;
      fits = a.fits;
      turn = (a.turn.1, a.turn.2);
    }
seal_step n i Idle v Collect made e put at on_a on_b a = differ put a.turn.0
seal_step n i (Knows w) v Collect made e put at on_a on_b a = differ put a.turn.0
seal_step n i (Offers w o) v Collect made e put at on_a on_b a = differ put a.turn.0
seal_step n i (Took w x y) v Collect made e put at on_a on_b a = differ put a.turn.0
seal_step n i c v InSealed made e put at on_a on_b a = absurd (let none : ⊥ = cc in none)
seal_step n i c v Finished made e put at on_a on_b a = absurd (let none : ⊥ = cc in none)

pub agrees_seal : (n : ℕ) (i : State) (c : Carried) (v : BusView) (made : Recorded) → collects v.phase ≡ true
    → v.station.put ≡ true → v.opened ≡ Some made.window
    → offer_in A n made.sent ≡ recordable (slot_of made.window A) v.station.a.offer
    → offer_in B n made.sent ≡ recordable (slot_of made.window B) v.station.b.offer
    → NodeAgrees n i c v → NodeAgrees n i c (record v { phase = InSealed; sealed = v.sealed ++ made ∷ [] })
agrees_seal n i c v made e put at on_a on_b a = seal_step n i c v v.phase made e put at on_a on_b a

-- ---- Take

take_step : (n : ℕ) (i : State) (w : Opportunity) (v : BusView) (p : Phase) → seals p ≡ true
    → NodeAgrees n i (Waits w) (record v { phase = p })
    → NodeAgrees n i (Took w (last_seen v.params v.sealed A n) (last_seen v.params v.sealed B n))
    (record v { phase = p; station = record v.station { taken = true } })
take_step n i w v Collect e a = absurd (let none : ⊥ = cc in none)
take_step n i w v InSealed e a = record { fetches = a.fetches; sees = a.sees; opens = a.opens; fits = tt; turn = refl }
take_step n i w v Finished e a = absurd (let none : ⊥ = cc in none)

pub agrees_take : (n : ℕ) (i : State) (w : Opportunity) (v : BusView) → seals v.phase ≡ true
    → NodeAgrees n i (Waits w) v
    → NodeAgrees n i (Took w (last_seen v.params v.sealed A n) (last_seen v.params v.sealed B n))
    (record v { station = record v.station { taken = true } })
agrees_take n i w v e a = take_step n i w v v.phase e a

-- ---- Observe

observe_turn : (p : Phase) (w : Opportunity) (x y : Seen) (opened : Option Opportunity) (put taken : Bool)
    → Turn (Took w x y) p opened put taken → Turn Idle p opened put taken
observe_turn Collect w x y opened put taken t = t
observe_turn InSealed w x y opened put taken t = t
observe_turn Finished w x y opened put taken t = t

pub agrees_observe : (n : ℕ) (i : State) (w : Opportunity) (number : ℕ) (x y : Seen) (v : BusView)
    → NodeAgrees n i (Took w x y) v → NodeAgrees n (with_entry i (Observe number x y)) Idle v
agrees_observe n i w number x y v a = record {
  fetches = fetched-more i (Observe number x y) ∙ append-nil (fetched i) ∙ a.fetches;
  sees = append-nil (observed (with_entry i (Observe number x y))) ∙ observed-more i (Observe number x y)
      ∙ ap (λ (o : Option Opportunity). observed i ++ option_to_list (option_map (sight_of x y) o)) a.opens ∙ a.sees;
  opens = open_window-snoc i.entries (Observe number x y);
  fits = tt;
  turn = observe_turn v.phase w x y v.opened v.station.put v.station.taken a.turn;
}

-- ---- Inject: a fault changes neither puts nor takes

inject_ahead : (c : Carried) (v : BusView) (s : Station) → s.a.offer ≡ v.station.a.offer → s.b.offer ≡ v.station.b.offer
    → ahead c (record v { station = s }) ≡ ahead c v
inject_ahead Idle v s e f = refl
inject_ahead (Knows w) v s e f = refl
inject_ahead (Offers w o) v s e f = refl
inject_ahead (Waits w) v s e f = ap (λ (l : List Handed). cond (collects v.phase) l []) (handed_same refl e f)
inject_ahead (Took w x y) v s e f = refl

inject_behind : (n : ℕ) (c : Carried) (v : BusView) (s : Station) → behind n c (record v { station = s }) ≡ behind n c v
inject_behind n Idle v s = refl
inject_behind n (Knows w) v s = refl
inject_behind n (Offers w o) v s = refl
inject_behind n (Waits w) v s = refl
inject_behind n (Took w x y) v s = refl

inject_fits : (c : Carried) (s t : Station) → s.a.offer ≡ t.a.offer → s.b.offer ≡ t.b.offer → CarriesLawful c t
    → CarriesLawful c s
inject_fits Idle s t e f h = tt
inject_fits (Knows w) s t e f h = tt
inject_fits (Offers w o) s t e f h = h
inject_fits (Waits w) s t e f h = record {
  on_a = subst (λ (o : Option (ArrayVec ℕ)). recordable (slot_of w A) o ≡ o) (sym e) h.on_a;
  on_b = subst (λ (o : Option (ArrayVec ℕ)). recordable (slot_of w B) o ≡ o) (sym f) h.on_b;
}
inject_fits (Took w x y) s t e f h = tt

-- a station with other faults
pub agrees_inject : (n : ℕ) (i : State) (c : Carried) (v : BusView) (s : Station) → s.a.offer ≡ v.station.a.offer
    → s.b.offer ≡ v.station.b.offer → s.put ≡ v.station.put
    → s.taken ≡ v.station.taken → NodeAgrees n i c v → NodeAgrees n i c (record v { station = s })
agrees_inject n i c v s on_a on_b put taken a = record {
  fetches = a.fetches ∙ ap (λ l. map (offers_of n) v.sealed ++ l) (sym (inject_ahead c v s on_a on_b));
  sees = ap (λ l. observed i ++ l) (inject_behind n c v s) ∙ a.sees;
  opens = a.opens;
  fits = inject_fits c s v.station on_a on_b a.fits;
  turn = subst (λ (b : Bool). Turn c v.phase v.opened b s.taken) (sym put)
      (subst (λ (b : Bool). Turn c v.phase v.opened v.station.put b) (sym taken) a.turn);
}

-- ---- Advance: all have taken, so all are idle or hold their observations

pub record IsReady (c : Carried) (v w : BusView) (n : ℕ) : Type 0 where
  pub same_ahead : ahead c w ≡ ahead c v
  pub same_behind : behind n c w ≡ behind n c v
  pub fits : CarriesLawful c w.station
  pub turn : Turn c w.phase w.opened w.station.put w.station.taken

advance_ready : (c : Carried) (v : BusView) (p q : Phase) (next : Option Opportunity) (n : ℕ) → seals p ≡ true
    → v.station.taken ≡ true → seals q ≡ false
    → Turn c p v.opened v.station.put v.station.taken → IsReady c (record v { phase = p })
    (record v { phase = q; opened = next; station = idle_station }) n
advance_ready Idle v InSealed Collect next n e was new t = record {
  same_ahead = refl;
  same_behind = refl;
  fits = tt;
  turn = (refl, refl);
}
advance_ready Idle v InSealed Finished next n e was new t = record {
  same_ahead = refl;
  same_behind = refl;
  fits = tt;
  turn = tt;
}
advance_ready (Took w x y) v InSealed Collect next n e was new t =
    record { same_ahead = refl; same_behind = refl; fits = tt; turn = (refl, refl) }
advance_ready (Took w x y) v InSealed Finished next n e was new t =
    record { same_ahead = refl; same_behind = refl; fits = tt; turn = tt }
advance_ready (Knows w) v InSealed q next n e was new t = absurd t
advance_ready (Offers w o) v InSealed q next n e was new t = absurd t
advance_ready (Waits w) v InSealed q next n e was new t = differ was t.0
advance_ready c v InSealed InSealed next n e was new t = absurd (let none : ⊥ = cc in none)
advance_ready c v Collect q next n e was new t = absurd (let none : ⊥ = cc in none)
advance_ready c v Finished q next n e was new t = absurd (let none : ⊥ = cc in none)

pub agrees_advance : (n : ℕ) (i : State) (c : Carried) (v : BusView) (q : Phase) (next : Option Opportunity)
    → seals v.phase ≡ true → v.station.taken ≡ true → seals q ≡ false
    → NodeAgrees n i c v → NodeAgrees n i c (record v { phase = q; opened = next; station = idle_station })
agrees_advance n i c v q next e was new a =
    let r = advance_ready c v v.phase q next n e was new a.turn in
    record {
      fetches = a.fetches ∙ ap (λ l. map (offers_of n) v.sealed ++ l) (sym r.same_ahead);
      sees = ap (λ l. observed i ++ l) r.same_behind ∙ a.sees;
      opens = a.opens;
      fits = r.fits;
      turn = r.turn;
    }

-- ---- the opening

-- a node agrees at the opening
pub opening_agrees : (n : ℕ) (p : Parameters) (plan : Plan) (opened : Option Opportunity)
    → NodeAgrees n (record { params = p; plan = plan; entries = [] }) Idle
    (record { params = p; sealed = []; phase = Collect; opened = opened; station = idle_station })
unfolding each_after last_after
opening_agrees n p plan opened = record { fetches = refl; sees = refl; opens = refl; fits = tt; turn = (refl, refl) }
