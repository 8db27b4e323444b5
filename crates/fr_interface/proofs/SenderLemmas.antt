-- The frames in a window, and the transmit buffers after it.
use Rattle.std.proofs.Common.{◌≡◌, ℕ, ◌+◌, Bool, true, false, cond, eqb, ◌||◌, List, [], ◌∷◌, ◌++◌, length, Option}
use Rattle.std.proofs.Common.{Some, None, refl, sym, ap, subst, ◌∙◌, arith, option_map, eq-eqb}
use Rattle.std.specs.Prelude.{IfSome, IsSomeAnd, slice_get, is_some, unwrap_or}
use Rattle.std.specs.Option.{option_and_then, option_or}
use Rattle.std.proofs.lemmas.Bool.{eqb-true}
use Rattle.std.proofs.lemmas.List.{append_assoc}
use Rattle.fr_buffers.specs.Transmitting.{Transmitter, offer_of, after_send}
use Rattle.fr_interface.specs.declared.sending.Sender.{Sender}
use Rattle.fr_interface.specs.Known.{commit_of, transmitter_of, transmitters, each_buffer}
use Rattle.fr_interface.specs.Sending.{ready_at, sender_of, sender_at, sender_in, sender_on, commit_in, offered_in}
use Rattle.fr_interface.specs.Sending.{offered_by, owner_on, outgoing_on, held_payload, payload_at, null_frame_with}
use Rattle.fr_interface.specs.Sending.{frame_at, frame_by, send_offered, after_sender}
use Rattle.fr_interface.proofs.ChangeLemmas.{change_each, each-same_there, get_each}
use Rattle.fr_interface.proofs.TransmitLemmas.{offer-ready, tally-other, tally_after, same_commit, IsOther}
use Rattle.fr_journal.specs.Forms.{Entry}
use Rattle.fr_journal.specs.declared.entry.Entry.TheVariants.{Fetch}
use Rattle.fr_journal.specs.declared.entry.Offered.{Offered}
use Rattle.fr_journal.specs.declared.entry.Offered.TheVariants.{Nothing, Null}
use Rattle.fr_journal.specs.declared.fate.Tally.{Tally}
use Rattle.fr_journal.specs.Fate.{is_commit_on, is_data_of, last_commit, held_commit, sends, takes_back, tally_of}
use Rattle.fr_journal.specs.Offers.{ready, ready_in, may_begin, transmitter, owns, data_or, offered, offered_at}
use Rattle.fr_journal.specs.Offers.{payload_of, line_of, data_frame_of, frame_of_offer, frame_offered}
use Rattle.fr_journal.proofs.FateStepLemmas.{MarksLast, OnlyLast, marks_none, marks_last_from, stands_from}
use Rattle.fr_journal.proofs.HeldCommitLemmas.{pending_is, held_is, held-some, held-other, pending_stands, withdrawn_at}
use Rattle.fr_journal.proofs.HeldCommitLemmas.{same_entry, last_there, one_buffer}
use Rattle.fr_journal.proofs.LastCommitLemmas.{IsCommitAt, slice_get-next}
use Rattle.fr_slots.specs.declared.channel.Channel.{Channel}
use Rattle.fr_slots.specs.declared.plan.Buffer.{Buffer}
use Rattle.fr_slots.specs.declared.plan.Mode.{Mode}
use Rattle.fr_slots.specs.declared.plan.Mode.TheVariants as mode
use Rattle.fr_slots.specs.declared.plan.Own.{Own}
use Rattle.fr_slots.specs.History.{AllAfter}
use Rattle.fr_slots.specs.Parameters.{Parameters}
use Rattle.fr_slots.specs.Plans.{Plan}
use Rattle.fr_slots.specs.Windows.{Opportunity, slot_of}

-- ---- a sender

-- the buffer's last commit, which it offers by its mode
pub record IsSender (plan : Plan) (xs : List Entry) (s : Sender) : Type 0 where
  pub line : Buffer
  pub there : slice_get plan.buffers s.buffer ≡ Some line
  pub offers : ready line.mode s.buffer xs ≡ Some s.commit

-- the ready commit is the one that the buffer holds
ready_held : (m : Mode) (number : ℕ) (xs : List Entry) (k : ℕ) → ready m number xs ≡ Some k
    → held_commit number xs ≡ Some k
ready_held mode.Event number xs k e =
    let parts = pending_is number xs k e in
    held-some number xs k parts.0 (pending_stands number xs k parts.1)
ready_held mode.State number xs k e = e
ready_held mode.Receive number xs k e = absurd cc

-- it is the last one, and isn't withdrawn
ready_last : (m : Mode) (number : ℕ) (xs : List Entry) (k : ℕ) → ready m number xs ≡ Some k
    → last_commit number xs ≡ Some k
ready_last m number xs k e = (held_is number xs k (ready_held m number xs k e)).0

ready_stands : (m : Mode) (number : ℕ) (xs : List Entry) (k : ℕ) → ready m number xs ≡ Some k
    → withdrawn_at number xs k ≡ false
ready_stands m number xs k e = (held_is number xs k (ready_held m number xs k e)).1

module _ (plan : Plan) (xs : List Entry) where
  ready_each : (number : ℕ) → ready_at (transmitters plan xs) number ≡ ready_in plan xs number
  ready_each number =
      ap (option_and_then offer_of) (get_each (transmitter_of xs) number plan.buffers) ∙ by_line
      (slice_get plan.buffers number)
    where
      by_line : (o : Option Buffer) → option_and_then offer_of
          (option_map (λ (b : Buffer). transmitter_of xs number b.mode) o) ≡ option_and_then
          (λ (b : Buffer). ready b.mode number xs) o
      by_line None = refl
      by_line (Some b) = offer-ready xs number b.mode

  -- ---- the offer

  commit_by : (o : Option ℕ) → commit_in (option_and_then (sender_at (transmitters plan xs)) o) ≡ option_and_then
      (ready_in plan xs) o
  commit_by None = refl
  commit_by (Some number) = named (ready_at (transmitters plan xs) number) ∙ ready_each number
    where
      named : (o : Option ℕ) → commit_in (option_map (sender_of number) o) ≡ o
      named None = refl
      named (Some k) = refl

  commit_if : (t : Bool) (o : Option ℕ) → commit_in (cond t (option_and_then (sender_at (transmitters plan xs)) o) None)
      ≡ cond t (option_and_then (ready_in plan xs) o) None
  commit_if true o = commit_by o
  commit_if false o = refl

  module _ (window : Opportunity) (channel : Channel) where
    offered_where : (slot : Option ℕ) → offered_in (option_and_then (line_of plan window channel) slot)
        (sender_in plan (transmitters plan xs) window channel slot) slot ≡ offered_at plan xs window channel slot
    offered_where None = refl
    offered_where (Some slot) = ap (data_or (cond (owns plan window channel slot) Null Nothing))
        (commit_if (may_begin plan window channel) (transmitter plan window channel))

    -- the offer by the kept data is the one that the journal gives
    pub offered-place : offered_by window channel (owner_on plan window channel)
        (sender_on plan (transmitters plan xs) window channel) ≡ offered plan xs window channel
    offered-place = offered_where (slot_of window channel)

    -- ---- a sender's buffer

    of_ready : (number : ℕ) (o : Option Buffer) → slice_get plan.buffers number ≡ o → (p : Option ℕ)
        → option_and_then (λ (b : Buffer). ready b.mode number xs) o ≡ p
        → IfSome (option_map (sender_of number) p) (IsSender plan xs)
    of_ready number None there None is = tt
    of_ready number None there (Some k) is = absurd cc
    of_ready number (Some b) there None is = tt
    of_ready number (Some b) there (Some k) is = record { line = b; there = there; offers = is }

    of_number : (o : Option ℕ) → IfSome (option_and_then (sender_at (transmitters plan xs)) o) (IsSender plan xs)
    of_number None = tt
    of_number (Some number) = of_ready number (slice_get plan.buffers number) refl
        (ready_at (transmitters plan xs) number) (sym (ready_each number))

    of_test : (t : Bool) (o : Option ℕ) → IfSome (cond t (option_and_then (sender_at (transmitters plan xs)) o) None)
        (IsSender plan xs)
    of_test true o = of_number o
    of_test false o = tt

    of_slot : (slot : Option ℕ) → IfSome (sender_in plan (transmitters plan xs) window channel slot) (IsSender plan xs)
    of_slot None = tt
    of_slot (Some slot) = of_test (may_begin plan window channel) (transmitter plan window channel)

    pub sender-is : IfSome (sender_on plan (transmitters plan xs) window channel) (IsSender plan xs)
    sender-is = of_slot (slot_of window channel)

  -- ---- the frame

  -- the payload of a sender's buffer is that of its commit
  sender_payload : (s : Sender) → IsSender plan xs s → payload_at (transmitters plan xs) s.buffer ≡ payload_of xs
      s.commit
  sender_payload s is =
      let last : held_commit s.buffer xs ≡ Some s.commit = ready_held is.line.mode s.buffer xs s.commit is.offers in
      ap (λ (o : Option Transmitter). unwrap_or (option_map held_payload o) [])
      (get_each (transmitter_of xs) s.buffer plan.buffers ∙ ap
      (option_map (λ (b : Buffer). transmitter_of xs s.buffer b.mode)) is.there)
      ∙ ap (λ (o : Option ℕ). unwrap_or (option_map (λ c. c.payload) (option_map (commit_of xs) o)) []) last

  module _ (params : Parameters) (window : Opportunity) (channel : Channel) where
    abbrev own : ℕ → Option Own
    own slot = line_of plan window channel slot

    null_or : (slot : ℕ) (t : Bool) → cond t (Some (null_frame_with params window slot (own slot))) None
        ≡ frame_of_offer params plan xs window channel slot (cond t Null Nothing)
    null_or slot true = refl
    null_or slot false = refl

    frame_from : (slot : ℕ) (o : Option Sender) → IfSome o (IsSender plan xs)
        → frame_at params plan (transmitters plan xs) window channel slot (own slot) o
        ≡ frame_of_offer params plan xs window channel slot (offered_in (own slot) o (Some slot))
    frame_from slot None h = null_or slot (owns plan window channel slot)
    frame_from slot (Some s) h = λ i. Some (record (data_frame_of plan xs window channel slot s.commit)
        { payload = sender_payload s h i })

    frame_where : (slot : Option ℕ) → option_and_then (λ n. frame_at params plan (transmitters plan xs) window channel n
        (option_and_then own slot) (sender_in plan (transmitters plan xs) window channel slot)) slot
        ≡ option_and_then (λ n. frame_of_offer params plan xs window channel n (offered_at plan xs window channel slot))
        slot
    frame_where None = refl
    frame_where (Some slot) =
        frame_from slot (sender_in plan (transmitters plan xs) window channel (Some slot))
        (of_slot window channel (Some slot))
        ∙ ap (frame_of_offer params plan xs window channel slot) (offered_where window channel (Some slot))

    -- the frame by the kept data is the one that the journal gives
    pub frame-place : frame_by params plan (transmitters plan xs) window channel
        (outgoing_on plan (transmitters plan xs) window channel) ≡ frame_offered params plan xs window channel
    frame-place = frame_where (slot_of window channel)

    nothing_where : (slot : Option ℕ) → option_and_then (λ n. frame_of_offer params plan xs window channel n Nothing)
        slot ≡ None
    nothing_where None = refl
    nothing_where (Some slot) = refl

    -- without an offer there is no frame
    pub frame-nothing : offered plan xs window channel ≡ Nothing → frame_offered params plan xs window channel ≡ None
    frame-nothing is = ap (λ (o : Offered). option_and_then (λ n. frame_of_offer params plan xs window channel n o)
        (slot_of window channel)) is ∙ nothing_where (slot_of window channel)

-- ---- sent commits

abbrev selects : ℕ → Option Sender → Bool
selects number None = false
selects number (Some s) = eqb number s.buffer

abbrev pub sends_by : ℕ → Option Sender → Bool
sends_by k None = false
sends_by k (Some s) = eqb s.commit k

data_of : (t : Bool) (k : ℕ) → is_data_of k (cond t Null Nothing) ≡ false
data_of true k = refl
data_of false k = refl

module _ (plan : Plan) (window : Opportunity) (channel : Channel) where
  -- if the channel has no slot there is no sender
  sent_where : (k : ℕ) (buffers : List Transmitter) (slot : Option ℕ)
      → is_data_of k (offered_in (option_and_then (line_of plan window channel) slot)
      (sender_in plan buffers window channel slot) slot) ≡ sends_by k (sender_in plan buffers window channel slot)
  sent_where k buffers None = refl
  sent_where k buffers (Some slot) = by_sender (sender_in plan buffers window channel (Some slot))
    where
      by_sender : (o : Option Sender) → is_data_of k (offered_in (line_of plan window channel slot) o (Some slot))
          ≡ sends_by k o
      by_sender None = data_of (owns plan window channel slot) k
      by_sender (Some s) = refl

  pub sent-by : (k : ℕ) (buffers : List Transmitter) → is_data_of k
      (offered_by window channel (owner_on plan window channel) (sender_on plan buffers window channel)) ≡ sends_by k
      (sender_on plan buffers window channel)
  sent-by k buffers = sent_where k buffers (slot_of window channel)

-- ---- the buffer of a sent commit

module _ (xs : List Entry) where
  same_number : (n : ℕ) → eqb n n ≡ true
  same_number n = eq-eqb n n refl

  some_is : (j k : ℕ) → Some j ≡ Some k → j ≡ k
  some_is j k e = cc

  -- it sends a buffer's last commit exactly if it is that buffer's
  selected_by : (number k : ℕ) (s : Sender) → last_commit s.buffer xs ≡ Some s.commit → last_commit number xs ≡ Some k
      → (t u : Bool) → eqb number s.buffer ≡ t → eqb s.commit k ≡ u → t ≡ u
  selected_by number k s from last true true p q = refl
  selected_by number k s from last false false p q = refl
  selected_by number k s from last true false p q =
      let same : number ≡ s.buffer = eqb-true number s.buffer p in
      let equal : s.commit ≡ k = some_is s.commit k (sym from ∙ ap (λ (n : ℕ). last_commit n xs) (sym same) ∙ last) in
      let yes : eqb s.commit k ≡ true = ap (λ (n : ℕ). eqb s.commit n) (sym equal) ∙ same_number s.commit in
      absurd cc
  selected_by number k s from last false true p q =
      let equal : s.commit ≡ k = eqb-true s.commit k q in
      let same : number ≡ s.buffer = one_buffer xs number s.buffer k last
      (from ∙ ap (λ (n : ℕ). let o : Option ℕ = Some n in o) equal) in
      let yes : eqb number s.buffer ≡ true = ap (λ (n : ℕ). eqb number n) (sym same) ∙ same_number number in
      absurd cc

-- ---- a buffer after a fetch

module _ (plan : Plan) (xs : List Entry) (window : Opportunity) (a b : Offered) (from_a from_b : Option Sender) where
  -- the senders of both channels
  pub record IsFetched : Type 0 where
    pub sender_a : IfSome from_a (IsSender plan xs)
    pub sender_b : IfSome from_b (IsSender plan xs)
    pub sent_a : (k : ℕ) → is_data_of k a ≡ sends_by k from_a
    pub sent_b : (k : ℕ) → is_data_of k b ≡ sends_by k from_b

  abbrev pub entry : Entry
  entry = Fetch window a b

  -- the fetch sends the commit that the buffer holds
  abbrev sends_from : ℕ → Bool
  sends_from number = selects number from_a || selects number from_b

  module _ (h : IsFetched) where
    sent : (k : ℕ) → sends k entry ≡ (sends_by k from_a || sends_by k from_b)
    sent k = λ i. h.sent_a k i || h.sent_b k i

    selected : (number k : ℕ) (o : Option Sender) → IfSome o (IsSender plan xs) → last_commit number xs ≡ Some k
        → selects number o ≡ sends_by k o
    selected number k None is last = refl
    selected number k (Some s) is last = selected_by xs number k s
        (ready_last is.line.mode s.buffer xs s.commit is.offers) last (eqb number s.buffer) (eqb s.commit k) refl refl

    same : (number k : ℕ) → last_commit number xs ≡ Some k → sends_from number ≡ sends k entry
    same number k last = (λ i. selected number k from_a h.sender_a last i || selected number k from_b h.sender_b last i)
        ∙ sym (sent k)

    -- a sent commit is a buffer's last commit
    last_of : (k : ℕ) (o : Option Sender) → IfSome o (IsSender plan xs) → sends_by k o ≡ true
        → (s : Sender) × (last_commit s.buffer xs ≡ Some k)
    last_of k None is sends = absurd cc
    last_of k (Some s) is sends = (
      s,
      ready_last is.line.mode s.buffer xs s.commit is.offers ∙ ap
          (λ (n : ℕ). let o : Option ℕ = Some n in o) (eqb-true s.commit k sends),
    )

    either : (k : ℕ) (t u : Bool) → sends_by k from_a ≡ t → sends_by k from_b ≡ u → (t || u) ≡ true
        → (s : Sender) × (last_commit s.buffer xs ≡ Some k)
    either k true u p q e = last_of k from_a h.sender_a p
    either k false true p q e = last_of k from_b h.sender_b q
    either k false false p q e = absurd cc

    only : (number : ℕ) (before : List Entry) (x : Entry) (rest : List Entry) → xs ≡ before ++ x ∷ rest
        → OnlyLast number (λ k. sends k entry) (last_commit number xs) before x
    only number before x rest is on sends =
        let k : ℕ = length before in
        let from : (s : Sender) × (last_commit s.buffer xs ≡ Some k) =
        either k (sends_by k from_a) (sends_by k from_b) refl refl (sym (sent k) ∙ sends) in
        let here : slice_get xs k ≡ Some x = ap (λ (l : List Entry). slice_get l k) is ∙ slice_get-next before x rest in
        let on_it : IsCommitAt number xs k = subst (λ (o : Option Entry). IsSomeAnd o
        (λ e. is_commit_on number e ≡ true)) (sym here) on in
        let one : number ≡ from.0.buffer = same_entry number from.0.buffer (slice_get xs k) on_it
        (last_there xs from.0.buffer k from.1) in
        ap (λ (n : ℕ). last_commit n xs) one ∙ from.1

    all_only : (number : ℕ) (before rest : List Entry) → xs ≡ before ++ rest
        → AllAfter (OnlyLast number (λ k. sends k entry) (last_commit number xs)) before rest
    unfolding AllAfter
    all_only number before [] is = tt
    all_only number before (x ∷ rest) is = (
      only number before x rest is,
      all_only number (before ++ x ∷ []) rest (is ∙ sym (append_assoc before (x ∷ []) rest)),
    )

    or_none : (o : Option ℕ) → option_or o None ≡ o
    or_none None = refl
    or_none (Some k) = refl

    sends_last : (number : ℕ) → MarksLast number 0 (sends_from number) (λ k. sends k entry) xs
    sends_last number =
        marks_last_from number (sends_from number) (λ k. sends k entry) (last_commit number xs) None [] xs
        (sym (or_none (last_commit number xs))) (all_only number [] xs refl) (same number)

    -- a sent commit isn't withdrawn
    stands_by : (number k : ℕ) → last_commit number xs ≡ Some k → (o : Option Sender) → IfSome o (IsSender plan xs)
        → selects number o ≡ true → withdrawn_at number xs k ≡ false
    stands_by number k last None is selected = absurd cc
    stands_by number k last (Some s) is selected =
        let place : number ≡ s.buffer = eqb-true number s.buffer selected in
        let there : Some s.commit ≡ Some k = sym (ready_last is.line.mode s.buffer xs s.commit is.offers) ∙ ap
        (λ (n : ℕ). last_commit n xs) (sym place) ∙ last in
        let equal : s.commit ≡ k = cc in
        (λ i. withdrawn_at (place i) xs (sym equal i)) ∙ ready_stands is.line.mode s.buffer xs s.commit is.offers

    stands_either : (number k : ℕ) → last_commit number xs ≡ Some k → (t u : Bool) → selects number from_a ≡ t
        → selects number from_b ≡ u → (t || u) ≡ true → withdrawn_at number xs k ≡ false
    stands_either number k last true u p q e = stands_by number k last from_a h.sender_a p
    stands_either number k last false true p q e = stands_by number k last from_b h.sender_b q
    stands_either number k last false false p q e = absurd cc

    stands : (number k : ℕ) → last_commit number xs ≡ Some k → sends_from number ≡ true
        → withdrawn_at number xs k ≡ false
    stands number k last = stands_either number k last (selects number from_a) (selects number from_b) refl refl

    is_other : (number : ℕ) → IsOther number (sends_from number) false xs entry
    is_other number = record {
      off = refl;
      sending = sends_last number;
      taking = marks_none number 0 (λ k. takes_back k entry) xs (λ k. refl);
      stands = stands_from number (sends_from number) xs (last_commit number xs) None [] xs refl
          (sym (or_none (last_commit number xs))) (stands number);
    }

    same_held : (number : ℕ) → held_commit number (xs ++ entry ∷ []) ≡ held_commit number xs
    same_held number = held-other number xs entry refl (λ k last. refl)
        (λ k last sent. stands number k last (same number k last ∙ sent))

    -- ---- each buffer

    abbrev after_one : Bool → Transmitter → Transmitter
    after_one t b = cond t (send_offered b) b

    sent_twice : (b : Transmitter) → send_offered (after_send b) ≡ after_send b
    sent_twice b = by_offer (is_some (offer_of (after_send b)))
      where
        by_offer : (t : Bool) → cond t (after_send (after_send b)) (after_send b) ≡ after_send b
        by_offer true =
            let none : b.tally.sent + b.tally.pending + 0 ≡ b.tally.sent + b.tally.pending = omega arith in
            λ i. record {
              mode = b.mode;
              last = b.last;
              tally =
                  record {
                    committed = b.tally.committed;
                    sent = none i;
                    overwritten = b.tally.overwritten;
                    pending = 0;
                    withdrawn = b.tally.withdrawn;
                  };
            }
        by_offer false = refl

    both : (b : Transmitter) (t u : Bool) → (t ≡ true → is_some (offer_of b) ≡ true)
        → (u ≡ true → is_some (offer_of b) ≡ true)
        → after_one u (after_one t b) ≡ cond (t || u) (after_send b) b
    both b true true p q = ap send_offered (ap (λ (v : Bool). cond v (after_send b) b) (p refl)) ∙ sent_twice b
    both b true false p q = ap (λ (v : Bool). cond v (after_send b) b) (p refl)
    both b false true p q = ap (λ (v : Bool). cond v (after_send b) b) (q refl)
    both b false false p q = refl

    tally_cond : (t : Bool) (b : Transmitter) → (cond t (after_send b) b).tally ≡ tally_after t b.tally
    tally_cond true b = refl
    tally_cond false b = refl

    rest_cond : (t : Bool) (b : Transmitter) (x : Tally) → x ≡ tally_after t b.tally
        → cond t (after_send b) b ≡ record b { tally = x }
    rest_cond true b x is = λ i. record b { tally = sym is i }
    rest_cond false b x is = λ i. record b { tally = sym is i }

    one_buffer_after : (number : ℕ) (m : Mode) → cond (sends_from number) (after_send (transmitter_of xs number m))
        (transmitter_of xs number m) ≡ transmitter_of (xs ++ entry ∷ []) number m
    one_buffer_after number m =
        let b : Transmitter = transmitter_of xs number m in
        let tally : tally_after (sends_from number) (tally_of number xs) ≡ tally_of number (xs ++ entry ∷ []) =
        tally-other number xs entry (sends_from number) (is_other number) in
        rest_cond (sends_from number) b (tally_of number (xs ++ entry ∷ [])) (sym tally)
        ∙ (λ i. record {
          mode = m;
          last = same_commit number xs entry (same_held number) i;
          tally =
              tally_of number (xs ++ entry ∷ []);
        })

    offers_there : (number : ℕ) (b : Buffer) → slice_get plan.buffers number ≡ Some b → (o : Option Sender)
        → IfSome o (IsSender plan xs) → selects number o ≡ true
        → is_some (offer_of (transmitter_of xs number b.mode)) ≡ true
    offers_there number b there None is selected = absurd cc
    offers_there number b there (Some s) is selected =
        let place : number ≡ s.buffer = eqb-true number s.buffer selected in
        let both_there : Some b ≡ Some is.line = sym there ∙ ap (slice_get plan.buffers) place ∙ is.there in
        let line : b ≡ is.line = cc in
        let ready_is : ready b.mode number xs ≡ Some s.commit = (λ i. ready (line i).mode (place i) xs) ∙ is.offers in
        ap is_some (offer-ready xs number b.mode ∙ ready_is)

    one_sender : (f : ℕ → Mode → Transmitter) (o : Option Sender)
        → after_sender (each_buffer f 0 plan.buffers) o ≡ each_buffer
        (λ n m. after_one (selects n o) (f n m)) 0 plan.buffers
    one_sender f None = refl
    one_sender f (Some s) = change_each send_offered f s.buffer plan.buffers

    pub transmitters-fetch : after_sender (after_sender (transmitters plan xs) from_a) from_b ≡ transmitters plan
        (xs ++ entry ∷ [])
    transmitters-fetch =
        ap (λ (l : List Transmitter). after_sender l from_b) (one_sender (transmitter_of xs) from_a)
        ∙ one_sender (λ n m. after_one (selects n from_a) (transmitter_of xs n m)) from_b
        ∙ each-same_there (λ n m. after_one (selects n from_b) (after_one (selects n from_a) (transmitter_of xs n m)))
        (transmitter_of (xs ++ entry ∷ [])) 0 plan.buffers by_place
      where
        at_place : (n : ℕ) (b : Buffer) → slice_get plan.buffers n ≡ Some b
            → after_one (selects n from_b) (after_one (selects n from_a) (transmitter_of xs n b.mode)) ≡ transmitter_of
            (xs ++ entry ∷ []) n b.mode
        at_place n b there =
            both (transmitter_of xs n b.mode) (selects n from_a) (selects n from_b)
            (offers_there n b there from_a h.sender_a) (offers_there n b there from_b h.sender_b)
            ∙ one_buffer_after n b.mode

        by_place : (place : ℕ) (b : Buffer) → slice_get plan.buffers place ≡ Some b
            → after_one (selects (0 + place) from_b) (after_one (selects (0 + place) from_a)
            (transmitter_of xs (0 + place) b.mode)) ≡ transmitter_of (xs ++ entry ∷ []) (0 + place) b.mode
        by_place place b there =
            let here : place ≡ 0 + place = omega arith in
            subst (λ (n : ℕ). after_one (selects n from_b) (after_one (selects n from_a) (transmitter_of xs n b.mode))
            ≡ transmitter_of (xs ++ entry ∷ []) n b.mode) here (at_place place b there)
