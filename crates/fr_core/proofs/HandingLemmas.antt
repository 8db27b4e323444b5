-- Each data frame that a journal handed to the bus is one of its commits.
use Rattle.std.proofs.Common.{◌≡◌, ℕ, zero, suc, ◌*◌, ◌%◌, ◌≤◌, ◌<◌, ◌^◌, Bool, true, false, cond, List, [], ◌∷◌, ◌++◌}
use Rattle.std.proofs.Common.{length, replicate, Option, Some, None, refl, sym, ap, subst, ◌∙◌, arith, slice_get}
use Rattle.std.specs.Option.{option_and_then}
use Rattle.std.proofs.Math.Nat.{mul-mod_right}
use Rattle.std.proofs.lemmas.List.{length-replicate}
use Rattle.std.proofs.lemmas.Option.{slice_get_within}
use Rattle.arrayvec.specs.ArrayVec.{ArrayVec}
use Rattle.fr_slots.proofs.PlaceLemmas.{same_some, IsCutAt, get-append, get-after, AllAfter-cut, last_after-at}
use Rattle.fr_slots.proofs.PlaceLemmas.{each_after-at}
use Rattle.fr_core.proofs.CaseLemmas.{kept}
use Rattle.fr_core.proofs.ReadyLemmas.{ready_is_last}
use Rattle.fr_core.specs.Agreeing.{Handed, handed_at, fetched}
use Rattle.fr_core.specs.Receivers.{offered_on, HandsOver}
use Rattle.fr_frame.specs.Decoding.{decoded}
use Rattle.fr_frame.specs.Encoding.{encoded}
use Rattle.fr_frame.specs.Fields.{Fields, IsFrame}
use Rattle.fr_frame.specs.Payload.{IsPayload}
use Rattle.fr_frame.proofs.EncodingLemmas.{encoded_is_decoded}
use Rattle.fr_interface.specs.State.{State, IsLegalInterface}
use Rattle.fr_journal.specs.Forms.{Entry}
use Rattle.fr_journal.specs.declared.entry.Entry.TheVariants.{Commit, Withdraw, Read, Pop, Fetch, Observe}
use Rattle.fr_journal.specs.declared.entry.Offered.{Offered}
use Rattle.fr_journal.specs.declared.entry.Offered.TheVariants.{Nothing, Null, Data}
use Rattle.fr_journal.specs.Entries.{IsEntry}
use Rattle.fr_journal.specs.Fate.{is_commit_on, commit_on, last_commit}
use Rattle.fr_journal.specs.Legal.{AreEntries, IsLegal, IsLegalFetch}
use Rattle.fr_journal.specs.Offers.{ready, ready_in, transmitter, may_begin, commit_offered, owns, data_or}
use Rattle.fr_journal.specs.Offers.{offered_at, offered, payload_in, payload_of, null_frame, data_frame_of}
use Rattle.fr_journal.specs.Offers.{frame_of_offer, frame_with, bytes_of}
use Rattle.fr_slots.specs.Plans.{buffer_at, Plan}
use Rattle.fr_slots.specs.declared.channel.Channel.{Channel}
use Rattle.fr_slots.specs.declared.channel.Channel.TheVariants.{A, B}
use Rattle.fr_slots.specs.declared.plan.Buffer.{Buffer}
use Rattle.fr_slots.specs.declared.plan.Mode.{Mode}
use Rattle.fr_slots.specs.History.{AllAfter}
use Rattle.fr_slots.specs.Parameters.{Parameters, IsParameters}
use Rattle.fr_slots.specs.Windows.{Opportunity, IsInRange, IsSlotOrNone, slot_of}

-- ---- the offered commit

-- an entry of the journal is this commit
pub record IsCommitAt (entries : List Entry) (number : ℕ) : Type 0 where
  pub task : ℕ
  pub buffer : ℕ
  pub payload : List ℕ
  pub at : slice_get entries number ≡ Some (Commit task buffer payload)

number_is : (b : Bool) (m n : ℕ) → cond b (Some m) None ≡ Some n → m ≡ n
number_is true m n e = cc
number_is false m n e = absurd (let none : ⊥ = cc in none)

commit_here : (buffer number : ℕ) (before after : List Entry) (e : Entry) → commit_on buffer before e ≡ Some number
    → IsCommitAt (before ++ e ∷ after) number
commit_here buffer number before after (Commit task b payload) e = record {
  task = task;
  buffer = b;
  payload = payload;
  at = subst (λ (k : ℕ). slice_get (before ++ Commit task b payload ∷ after) k ≡ Some (Commit task b payload))
      (number_is (is_commit_on buffer (Commit task b payload)) (length before) number e)
      (get-after before after (Commit task b payload));
}
commit_here buffer number before after (Withdraw task b of) e = absurd (let none : ⊥ = cc in none)
commit_here buffer number before after (Read task b from) e = absurd (let none : ⊥ = cc in none)
commit_here buffer number before after (Pop task from) e = absurd (let none : ⊥ = cc in none)
commit_here buffer number before after (Fetch w x y) e = absurd (let none : ⊥ = cc in none)
commit_here buffer number before after (Observe w x y) e = absurd (let none : ⊥ = cc in none)

pub last_is_commit : (buffer number : ℕ) (entries : List Entry) → last_commit buffer entries ≡ Some number
    → IsCommitAt entries number
last_is_commit buffer number entries e =
    let c = last_after-at (commit_on buffer) [] entries number e in
    subst (λ (l : List Entry). IsCommitAt l number) (sym c.cut)
    (commit_here buffer number c.inner c.after c.here c.holds)

ready_is : (m : Mode) (buffer number : ℕ) (entries : List Entry) → ready m buffer entries ≡ Some number
    → IsCommitAt entries number
ready_is m buffer number entries e = last_is_commit buffer number entries (ready_is_last m buffer number entries e)

ready_of : (buffer number : ℕ) (entries : List Entry) (b : Option Buffer)
    → option_and_then (λ (x : Buffer). ready x.mode buffer entries) b ≡ Some number → IsCommitAt entries number
ready_of buffer number entries None e = absurd (let none : ⊥ = cc in none)
ready_of buffer number entries (Some b) e = ready_is b.mode buffer number entries e

ready_by : (plan : Plan) (number : ℕ) (entries : List Entry) (t : Option ℕ)
    → option_and_then (ready_in plan entries) t ≡ Some number → IsCommitAt entries number
ready_by plan number entries None e = absurd (let none : ⊥ = cc in none)
ready_by plan number entries (Some buffer) e = ready_of buffer number entries (buffer_at plan buffer) e

pub data_is : (b : Bool) (o : Option ℕ) (number : ℕ) → data_or (cond b Null Nothing) o ≡ Data number → o ≡ Some number
data_is true None number e = absurd (let none : ⊥ = cc in none)
data_is false None number e = absurd (let none : ⊥ = cc in none)
data_is b (Some k) number e = ap Some (let same : k ≡ number = cc in same)

in_slot : (plan : Plan) (entries : List Entry) (w : Opportunity) (channel : Channel) (number : ℕ) (slot : Option ℕ)
    → offered_at plan entries w channel slot ≡ Data number → IsCommitAt entries number
in_slot plan entries w channel number None e = absurd (let none : ⊥ = cc in none)
in_slot plan entries w channel number (Some slot) e =
    ready_by plan number entries (transmitter plan w channel)
    (kept (may_begin plan w channel) (option_and_then (ready_in plan entries) (transmitter plan w channel)) number
    (data_is (owns plan w channel slot) (commit_offered plan entries w channel) number e))

-- the data that a node offers is a commit of its journal
pub offered_is_commit : (plan : Plan) (entries : List Entry) (w : Opportunity) (channel : Channel) (number : ℕ)
    → offered plan entries w channel ≡ Data number → IsCommitAt entries number
offered_is_commit plan entries w channel number e = in_slot plan entries w channel number (slot_of w channel) e

-- ---- the frame that is handed to the bus

slot_fits : (w : Opportunity) (channel : Channel) (slot : ℕ) → IsInRange w → slot_of w channel ≡ Some slot
    → slot < 2 ^ 11
slot_fits w A slot range e = let fits = subst IsSlotOrNone e range.slot_a in let most = fits.at_most in omega arith
slot_fits w B slot range e = let fits = subst IsSlotOrNone e range.slot_b in let most = fits.at_most in omega arith

zeros_fit : (words : ℕ) → words ≤ 127 → IsPayload (replicate (2 * words) 0)
zeros_fit words most =
    let len : length (replicate (2 * words) 0) ≡ 2 * words = length-replicate (2 * words) 0 in
    record { short = omega (arith, len); even = ap (λ (n : ℕ). n % 2) len ∙ mul-mod_right 2 words }

null_is_frame : (p : Parameters) (plan : Plan) (w : Opportunity) (channel : Channel) (slot : ℕ) → IsParameters p
    → IsInRange w → slot < 2 ^ 11 → IsFrame (null_frame p plan w channel slot)
null_is_frame p plan w channel slot params range fits = record {
  id_fits = fits;
  cycle_fits = range.cycle_fits;
  payload_fits = zeros_fit p.static_words params.static_words_fit.at_most;
}

data_is_frame : (plan : Plan) (entries : List Entry) (w : Opportunity) (channel : Channel) (slot number : ℕ)
    → IsInRange w → slot < 2 ^ 11 → IsPayload (payload_of entries number)
    → IsFrame (data_frame_of plan entries w channel slot number)
data_is_frame plan entries w channel slot number range fits payload =
    record { id_fits = fits; cycle_fits = range.cycle_fits; payload_fits = payload }

-- the bytes of a frame are decoded to it alone
same_frame : (g f : Fields) (channel : Channel) (bytes : ArrayVec ℕ) → IsFrame g
    → ◌≡◌ {A = Option (ArrayVec ℕ)} (Some (record { items = encoded g channel })) (Some bytes)
    → decoded channel bytes.items ≡ Some f → g ≡ f
same_frame g f channel bytes is e decodes =
    let same : ◌≡◌ {A = ArrayVec ℕ} (record { items = encoded g channel }) bytes = same_some _ bytes e in
    same_some g f (sym (encoded_is_decoded g channel is) ∙ ap (λ (x : ArrayVec ℕ). decoded channel x.items) same
    ∙ decodes)

-- a data frame that was handed to the bus is a commit's
pub record IsDataOf (entries : List Entry) (o : Offered) (f : Fields) : Type 0 where
  pub commit : ℕ
  pub offer_is : o ≡ Data commit
  pub payload_is : f.payload ≡ payload_of entries commit

module _ (p : Parameters) (plan : Plan) (entries : List Entry) (w : Opportunity) (channel : Channel)
    (params : IsParameters p) (range : IsInRange w)
    (payloads : (number : ℕ) → IsPayload (payload_of entries number)) (f : Fields) (bytes : ArrayVec ℕ)
    (decodes : decoded channel bytes.items ≡ Some f) (has_data : f.has_data ≡ true) where
  data_in : (slot : ℕ) (o : Offered) → slot < 2 ^ 11 → bytes_of channel (frame_of_offer p plan entries w channel slot o)
      ≡ Some bytes → IsDataOf entries o f
  data_in slot Nothing fits e = absurd (let none : ⊥ = cc in none)
  data_in slot Null fits e =
      let same = same_frame (null_frame p plan w channel slot) f channel bytes
      (null_is_frame p plan w channel slot params range fits) e decodes in
      let null : false ≡ true = ap (λ (x : Fields). x.has_data) same ∙ has_data in
      absurd (let none : ⊥ = cc in none)
  data_in slot (Data number) fits e =
      let same = same_frame (data_frame_of plan entries w channel slot number) f channel bytes
      (data_is_frame plan entries w channel slot number range fits (payloads number)) e decodes in
      record { commit = number; offer_is = refl; payload_is = sym (ap (λ (x : Fields). x.payload) same) }

  data_at : (o : Offered) (slot : Option ℕ) → slot_of w channel ≡ slot
      → bytes_of channel (option_and_then (λ s. frame_of_offer p plan entries w channel s o) slot) ≡ Some bytes
      → IsDataOf entries o f
  data_at o None is e = absurd (let none : ⊥ = cc in none)
  data_at o (Some slot) is e = data_in slot o (slot_fits w channel slot range is) e

  pub data_handed : (o : Offered) → bytes_of channel (frame_with p plan entries w channel o) ≡ Some bytes
      → IsDataOf entries o f
  data_handed o e = data_at o (slot_of w channel) refl e

-- ---- the fetch

-- the entry is a fetch, and hands these frames to the bus
pub record IsFetchOf (s : State) (before : List Entry) (e : Entry) (h : Handed) : Type 0 where
  pub window : Opportunity
  pub a : Offered
  pub b : Offered
  pub entry_is : e ≡ Fetch window a b
  pub handed_is : record {
    window = window;
    a = bytes_of A (frame_with s.params s.plan before window A a);
    b =
        bytes_of B (frame_with s.params s.plan before window B b);
  } ≡ h

only_one : {X : Type 0} (x y : X) (k : ℕ) → slice_get (x ∷ []) k ≡ Some y → x ≡ y
only_one x y zero e = cc
only_one x y (suc k) e = absurd (let none : ⊥ = cc in none)

pub fetch_in : (s : State) (before : List Entry) (e : Entry) (h : Handed) (k : ℕ)
    → slice_get (handed_at s.params s.plan before e) k ≡ Some h → IsFetchOf s before e h
fetch_in s before (Commit task buffer payload) h k e = absurd (let none : ⊥ = cc in none)
fetch_in s before (Withdraw task buffer of) h k e = absurd (let none : ⊥ = cc in none)
fetch_in s before (Read task buffer from) h k e = absurd (let none : ⊥ = cc in none)
fetch_in s before (Pop task from) h k e = absurd (let none : ⊥ = cc in none)
fetch_in s before (Observe w a b) h k e = absurd (let none : ⊥ = cc in none)
fetch_in s before (Fetch w a b) h k e = record {
  window = w;
  a = a;
  b = b;
  entry_is = refl;
  handed_is =
      only_one _ h k e;
}

-- a fetch hands over the frames at each place
pub fetch_of : (s : State) (k : ℕ) (h : Handed) → slice_get (fetched s) k ≡ Some h
    → IsCutAt (λ before e. IsFetchOf s before e h) [] s.entries
fetch_of s k h e =
    let c = each_after-at (handed_at s.params s.plan) [] s.entries k h e in
    record {
      inner = c.inner;
      here = c.here;
      after = c.after;
      cut = c.cut;
      holds =
          fetch_in s c.inner c.here h c.holds.place c.holds.at;
    }

abbrev pub handed_on : Channel → Handed → Option (ArrayVec ℕ)
handed_on A h = h.a
handed_on B h = h.b

pub bytes_on : (s : State) (before : List Entry) (e : Entry) (h : Handed) (channel : Channel)
    (f : IsFetchOf s before e h)
    → bytes_of channel (frame_with s.params s.plan before f.window channel (offered_on channel f.a f.b))
    ≡ handed_on channel h
bytes_on s before e h A f = ap (λ (x : Handed). x.a) f.handed_is
bytes_on s before e h B f = ap (λ (x : Handed). x.b) f.handed_is

pub offer_is : (s : State) (before : List Entry) (w : Opportunity) (a b : Offered) (channel : Channel)
    → IsLegalFetch s.params s.plan before w a b
    → offered s.plan before w channel ≡ offered_on channel a b
offer_is s before w a b A legal = sym legal.offer_a
offer_is s before w a b B legal = sym legal.offer_b

-- ---- payloads

entry_at : (before entries : List Entry) (k : ℕ) (e : Entry)
    → AllAfter (λ (b : List Entry) (x : Entry). IsEntry x) before entries → slice_get entries k ≡ Some e → IsEntry e
unfolding AllAfter
entry_at before [] k e all is = absurd (let none : ⊥ = cc in none)
entry_at before (x ∷ entries) zero e all is = subst IsEntry (same_some x e is) all.0
entry_at before (x ∷ entries) (suc k) e all is = entry_at (before ++ x ∷ []) entries k e all.1 is

no_bytes : IsPayload []
no_bytes = record { short = omega arith; even = refl }

payload_if : (entries : List Entry) (k : ℕ) (e : Option Entry) → slice_get entries k ≡ e
    → ((x : Entry) → slice_get entries k ≡ Some x → IsEntry x) → IsPayload (payload_in e)
payload_if entries k None is all = no_bytes
payload_if entries k (Some (Commit task buffer payload)) is all = (all (Commit task buffer payload) is).2
payload_if entries k (Some (Withdraw task buffer of)) is all = no_bytes
payload_if entries k (Some (Read task buffer from)) is all = no_bytes
payload_if entries k (Some (Pop task from)) is all = no_bytes
payload_if entries k (Some (Fetch w a b)) is all = no_bytes
payload_if entries k (Some (Observe w a b)) is all = no_bytes

-- each payload of a journal's beginning is one
payloads_before : (entries before rest : List Entry) → entries ≡ before ++ rest → AreEntries entries → (number : ℕ)
    → IsPayload (payload_of before number)
payloads_before entries before rest cut all number =
    payload_if before number (slice_get before number) refl
    (λ x is. entry_at [] entries number x all (ap (λ (l : List Entry). slice_get l number) cut
    ∙ get-append before rest number x is))

-- ---- a data frame that was handed to the bus

-- the fetch at this place offers this commit
at_fetch : (s : State) (channel : Channel) (f : Fields) (before after : List Entry) (w : Opportunity) (a b : Offered)
    → s.entries ≡ before ++ Fetch w a b ∷ after
    → (d : IsDataOf before (offered_on channel a b) f) → IsCommitAt before d.commit → HandsOver s w channel f
at_fetch s channel f before after w a b cut d m =
    let payload : f.payload ≡ m.payload = d.payload_is ∙ ap payload_in m.at in
    record {
      fetch = length before;
      a = a;
      b = b;
      fetched_at = ap (λ (l : List Entry). slice_get l (length before)) cut ∙ get-after before after (Fetch w a b);
      commit = d.commit;
      offers = d.offer_is;
      task = m.task;
      buffer = m.buffer;
      committed_at = ap (λ (l : List Entry). slice_get l d.commit) cut ∙ get-append before
          (Fetch w a b ∷ after) d.commit (Commit m.task m.buffer m.payload) m.at
          ∙ ap (λ (y : List ℕ). Some (Commit m.task m.buffer y)) (sym payload);
      earlier = slice_get_within before d.commit (Commit m.task m.buffer m.payload) m.at;
    }

-- an entry of a lawful journal that hands a data frame to the bus on the channel
at_entry : (s : State) (h : Handed) (channel : Channel) (bytes : ArrayVec ℕ) (f : Fields) (before after : List Entry)
    (e : Entry) → IsLegalInterface s → s.entries ≡ before ++ e ∷ after
    → IsFetchOf s before e h → handed_on channel h ≡ Some bytes → decoded channel bytes.items ≡ Some f
    → f.has_data ≡ true → HandsOver s h.window channel f
at_entry s h channel bytes f before after e lawful cut x handed decodes has_data =
    let entries : s.entries ≡ before ++ Fetch x.window x.a x.b ∷ after =
    cut ∙ ap (λ (y : Entry). before ++ y ∷ after) x.entry_is in
    let legal : IsLegalFetch s.params s.plan before x.window x.a x.b =
    AllAfter-cut (IsLegal s.params s.plan) [] before (Fetch x.window x.a x.b) after
    (subst (λ (l : List Entry). AllAfter (IsLegal s.params s.plan) [] l) entries lawful.legal) in
    let ranges = AllAfter-cut (λ (b : List Entry) (y : Entry). IsEntry y) [] before (Fetch x.window x.a x.b) after
    (subst (λ (l : List Entry). AreEntries l) entries lawful.entries_are) in
    let d = data_handed s.params s.plan before x.window channel lawful.params_are ranges.window_is
    (payloads_before s.entries before (Fetch x.window x.a x.b ∷ after) entries lawful.entries_are) f bytes decodes
    has_data
    (offered_on channel x.a x.b) (bytes_on s before e h channel x ∙ handed) in
    subst (λ (w : Opportunity). HandsOver s w channel f) (ap (λ (y : Handed). y.window) x.handed_is)
    (at_fetch s channel f before after x.window x.a x.b entries d
    (offered_is_commit s.plan before x.window channel d.commit
    (offer_is s before x.window x.a x.b channel legal ∙ d.offer_is)))

pub hands_over : (s : State) (k : ℕ) (h : Handed) (channel : Channel) (bytes : ArrayVec ℕ) (f : Fields)
    → IsLegalInterface s → slice_get (fetched s) k ≡ Some h
    → handed_on channel h ≡ Some bytes → decoded channel bytes.items ≡ Some f → f.has_data ≡ true
    → HandsOver s h.window channel f
hands_over s k h channel bytes f lawful at handed decodes has_data =
    let c = fetch_of s k h at in
    at_entry s h channel bytes f c.inner c.after c.here lawful c.cut c.holds handed decodes has_data
