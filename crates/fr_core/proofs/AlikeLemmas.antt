-- Observations in a guarded static slot depend only on its owner's account, mute and babble and on the corrupt bit.
use Rattle.std.proofs.Common.{◌≡◌, ℕ, Bool, true, false, cond, ◌||◌, List, [], ◌∷◌, ◌++◌, Option, Some, refl, sym, ap}
use Rattle.std.proofs.Common.{subst, ◌∙◌, slice_get, ◌≤◌, ◌<◌, arith, inl, inr, ◌⊎◌}
use Rattle.std.specs.Prelude.{IfSome}
use Rattle.arrayvec.specs.ArrayVec.{ArrayVec}
use Rattle.fr_bus.specs.declared.outcome.Sent.{Sent}
use Rattle.fr_bus.specs.Outcome.{all_passed, seen_of}
use Rattle.fr_bus.specs.Record.{Recorded, corrupt_on, seen_by}
use Rattle.fr_core.specs.Accounts.{is_fetch_of, before_fetch, account_at, Kept, account, turn_of, frame_by_account}
use Rattle.fr_core.specs.Accounts.{own, of_owner, IsSeenByAccount, IsHarmless, mute_of, babble_of, IsSamePart}
use Rattle.fr_core.specs.Accounts.{AreAlike, sent_by_account, recorded_cycle}
use Rattle.fr_core.proofs.TimingLemmas.{AreTimed, same_cycle}
use Rattle.fr_core.specs.Receivers.{IsOwner}
use Rattle.fr_interface.specs.State.{State, IsLegalInterface}
use Rattle.fr_slots.proofs.PlaceLemmas.{AllAfter-front, AllAfter-cut}
use Rattle.fr_journal.specs.Forms.{Entry}
use Rattle.fr_journal.specs.declared.entry.Entry.TheVariants.{Commit, Withdraw, Read, Pop, Fetch, Observe}
use Rattle.fr_journal.specs.declared.entry.Offered.{Offered}
use Rattle.fr_journal.specs.Legal.{IsLegal, IsLegalFetch}
use Rattle.fr_journal.specs.OpenWindow.{fetched_number, last_number}
use Rattle.fr_slots.specs.History.{AllAfter}
use Rattle.fr_slots.proofs.HistoryLemmas.{last_after-snoc, AllAfter-induction}
use Rattle.std.proofs.lemmas.Bool.{eqb-true, eq-eqb}
use Rattle.std.specs.List.{list_any}
use Rattle.std.specs.Option.{option_or}
use Rattle.fr_journal.specs.Offers.{bytes_of}
use Rattle.fr_schedule.specs.Descriptions.{Description}
use Rattle.fr_slots.specs.declared.channel.Channel.{Channel}
use Rattle.fr_slots.specs.Parameters.{Parameters}
use Rattle.fr_slots.specs.Plans.{Plan}
use Rattle.fr_slots.specs.Windows.{Opportunity}

-- ---- the one fetch of a window

any_more : {X : Type 0} (test : X → Bool) (xs : List X) (x : X) → list_any test (xs ++ x ∷ []) ≡ true
    → (list_any test xs ≡ true) ⊎ (test x ≡ true)
any_more test [] x e = inr (or_nothing (test x) e)
  where
    or_nothing : (b : Bool) → (b || false) ≡ true → b ≡ true
    or_nothing true h = refl
    or_nothing false h = h
any_more test (y ∷ xs) x e = first (test y) (any_more test xs x) e
  where
    first : (b : Bool) → (list_any test (xs ++ x ∷ []) ≡ true → (list_any test xs ≡ true) ⊎ (test x ≡ true))
        → (b || list_any test (xs ++ x ∷ [])) ≡ true
        → ((b || list_any test xs) ≡ true) ⊎ (test x ≡ true)
    first true deeper h = inl refl
    first false deeper h = deeper h

-- a fetched number is at most the last one
pub record IsAtMostLast (number : ℕ) (last : Option ℕ) : Type 0 where
  pub highest : ℕ
  pub is : last ≡ Some highest
  pub at_most : number ≤ highest

abbrev pub AreAtMostLast : List Entry → Type 0
AreAtMostLast es = (number : ℕ) → list_any (is_fetch_of number) es ≡ true → IsAtMostLast number (last_number es)

below_later : (number later : ℕ) (last : Option ℕ) → IsAtMostLast number last → IfSome last (λ n. n < later)
    → number < later
below_later number later last h less = let most = h.at_most in let below =
    subst (λ (o : Option ℕ). IfSome o (λ n. n < later)) h.is less in omega (arith, most, below)

keeps_last : (p : Parameters) (plan : Plan) (sofar : List Entry) (e : Entry) → AreAtMostLast sofar
    → IsLegal p plan sofar e → AreAtMostLast (sofar ++ e ∷ [])
keeps_last p plan sofar e h legal number among = subst (IsAtMostLast number)
    (sym (last_after-snoc fetched_number sofar e)) (step e legal (any_more (is_fetch_of number) sofar e among))
  where
    step : (x : Entry) → IsLegal p plan sofar x → ((list_any (is_fetch_of number) sofar ≡ true) ⊎
        (is_fetch_of number x ≡ true)) → IsAtMostLast number (option_or (fetched_number sofar x) (last_number sofar))
    step (Commit task buffer payload) l (inl before) = h number before
    step (Commit task buffer payload) l (inr here) = absurd (let none : ⊥ = cc in none)
    step (Withdraw task buffer of) l (inl before) = h number before
    step (Read task buffer from) l (inl before) = h number before
    step (Withdraw task buffer of) l (inr here) = absurd (let none : ⊥ = cc in none)
    step (Read task buffer from) l (inr here) = absurd (let none : ⊥ = cc in none)
    step (Pop task from) l (inl before) = h number before
    step (Pop task from) l (inr here) = absurd (let none : ⊥ = cc in none)
    step (Observe window a b) l (inl before) = h number before
    step (Observe window a b) l (inr here) = absurd (let none : ⊥ = cc in none)
    step (Fetch w a b) l (inl before) =
        let below = below_later number w.number (last_number sofar)
        (h number before) l.later in record { highest = w.number; is = refl; at_most = omega (arith, below) }
    step (Fetch w a b) l (inr here) = let same = eqb-true w.number number here
        in record { highest = w.number; is = refl; at_most = omega (arith, same) }

unfetched : (p : Parameters) (plan : Plan) (before : List Entry) (w : Opportunity) (a b : Offered) (found : Bool)
    → list_any (is_fetch_of w.number) before ≡ found → AllAfter (IsLegal p plan) [] before
    → IsLegalFetch p plan before w a b → found ≡ false
unfetched p plan before w a b false e all legal = refl
unfetched p plan before w a b true e all legal =
    let last : AreAtMostLast before = AllAfter-induction (IsLegal p plan) AreAtMostLast [] before
    (λ number among. absurd (let none : ⊥ = cc in none)) (keeps_last p plan) all in
    let below = below_later w.number w.number (last_number before) (last w.number e) legal.later in
    absurd (let none : ⊥ = omega (arith, below) in none)

before_is : (number : ℕ) (before : List Entry) (e : Entry) (after : List Entry)
    → list_any (is_fetch_of number) before ≡ false → is_fetch_of number e ≡ true
    → before_fetch number (before ++ e ∷ after) ≡ before
before_is number [] e after none is = ap (λ (b : Bool). cond b [] (e ∷ before_fetch number after)) is
before_is number (x ∷ before) e after none is = other (is_fetch_of number x) (λ h. before_is number before e after h is)
    none
  where
    other : (b : Bool) → (list_any (is_fetch_of number) before ≡ false
        → before_fetch number (before ++ e ∷ after) ≡ before) → (b || list_any (is_fetch_of number) before) ≡ false
        → cond b [] (x ∷ before_fetch number (before ++ e ∷ after)) ≡ x ∷ before
    other true deeper h = absurd (let nothing : ⊥ = cc in nothing)
    other false deeper h = ap (λ (l : List Entry). x ∷ l) (deeper h)

-- a window has one fetch in a legal journal
pub account_before : (s : State) (slot : ℕ) (before after : List Entry) (w : Opportunity) (a b : Offered)
    → IsLegalInterface s → s.entries ≡ before ++ Fetch w a b ∷ after
    → account_at s slot w.number ≡ account s.plan slot before
account_before s slot before after w a b lawful cut =
    let legal_all = subst (λ (l : List Entry). AllAfter (IsLegal s.params s.plan) [] l) cut lawful.legal in
    let none = unfetched s.params s.plan before w a b (list_any (is_fetch_of w.number) before) refl
    (AllAfter-front (IsLegal s.params s.plan) [] before (Fetch w a b ∷ after) legal_all)
    (AllAfter-cut (IsLegal s.params s.plan) [] before (Fetch w a b) after legal_all) in
    ap (λ (l : List Entry). account s.plan slot (before_fetch w.number l)) cut
    ∙ ap (account s.plan slot) (before_is w.number before (Fetch w a b) after none (eq-eqb w.number w.number refl))

-- ---- two runs

same_frame : (p q : Parameters) (plan other : Plan) (slot : ℕ) (channel : Channel) (cycle : ℕ) (kept more : List Kept)
    → p ≡ q → plan ≡ other → kept ≡ more
    → bytes_of channel (Some (frame_by_account p plan slot channel cycle kept)) ≡ bytes_of channel
    (Some (frame_by_account q other slot channel cycle more))
same_frame p q plan other slot channel cycle kept more e f g =
    ap (λ (x : Parameters). bytes_of channel (Some (frame_by_account x plan slot channel cycle kept))) e
    ∙ ap (λ (x : Plan). bytes_of channel (Some (frame_by_account q x slot channel cycle kept))) f
    ∙ ap (λ (x : List Kept). bytes_of channel (Some (frame_by_account q other slot channel cycle x))) g

same_owner : (owner : ℕ) (channel : Channel) (m o : Bool) (a b c e : Option (ArrayVec ℕ)) → m ≡ o → a ≡ b → c ≡ e
    → of_owner owner channel m a c ≡ of_owner owner channel o b e
same_owner owner channel m o a b c e f g h =
    ap (λ (x : Bool). of_owner owner channel x a c) f ∙ ap (λ (x : Option (ArrayVec ℕ)). of_owner owner channel o x c) g
    ∙ ap (λ (x : Option (ArrayVec ℕ)). of_owner owner channel o b x) h

-- two recorded windows with the same part of their owner
pub same_part : (p : Parameters) (r t : Recorded) (cycle : ℕ) (mine theirs : State) (owner : ℕ) (channel : Channel)
    (slot : ℕ) → IsLegalInterface mine → IsLegalInterface theirs → mine.params ≡ theirs.params → mine.plan ≡ theirs.plan
    → IsSeenByAccount p r cycle mine owner channel slot → IsSeenByAccount p t cycle theirs owner channel slot
    → IsSamePart slot owner channel r t mine theirs
    → (n : ℕ) → seen_by p r channel n ≡ seen_by p t channel n
same_part p r t cycle mine theirs owner channel slot legal_mine legal_theirs params plan x y same n =
    let offer = bytes_of channel (Some (frame_by_account mine.params mine.plan slot channel cycle
    (account mine.plan slot x.before))) in
    let other = bytes_of channel (Some (frame_by_account theirs.params theirs.plan slot channel cycle
    (account theirs.plan slot y.before))) in
    let offers : offer ≡ other =
    same_frame mine.params theirs.params mine.plan theirs.plan slot channel cycle (account mine.plan slot x.before)
    (account theirs.plan slot y.before) params plan
    (sym (account_before mine slot x.before x.after r.window x.a x.b legal_mine x.cut) ∙ same.accounts
    ∙ account_before theirs slot y.before y.after t.window y.a y.b legal_theirs y.cut) in
    let sent : sent_by_account mine owner channel slot cycle x.before (own channel owner r.sent)
    ≡ sent_by_account theirs owner channel slot cycle y.before (own channel owner t.sent) =
    same_owner owner channel (mute_of (own channel owner r.sent)) (mute_of (own channel owner t.sent)) offer other
    (babble_of (own channel owner r.sent)) (babble_of (own channel owner t.sent)) same.mutes offers same.babbles in
    x.seen n
    ∙ ap (λ (l : List Sent). seen_of p (turn_of slot cycle) (corrupt_on r channel) n (all_passed channel l)) sent
    ∙ ap (λ (c : Option ℕ). seen_of p (turn_of slot cycle) c n
    (all_passed channel (sent_by_account theirs owner channel slot cycle y.before (own channel owner t.sent))))
    same.corrupts
    ∙ sym (y.seen n)

-- two harmless runs of one cluster are alike
pub alike : (d : Description) (interfaces others : List State) (rs ts : List Recorded) → IsHarmless d interfaces rs
    → IsHarmless d others ts → AreTimed rs → AreTimed ts
    → ((n : ℕ) (s : State) → slice_get interfaces n ≡ Some s → IsLegalInterface s)
    → ((n : ℕ) (s : State) → slice_get others n ≡ Some s → IsLegalInterface s)
    → ((n : ℕ) (mine theirs : State) → slice_get interfaces n ≡ Some mine → slice_get others n ≡ Some theirs
    → mine.params ≡ theirs.params)
    → ((n : ℕ) (mine theirs : State) → slice_get interfaces n ≡ Some mine → slice_get others n ≡ Some theirs
    → mine.plan ≡ theirs.plan)
    → AreAlike d interfaces rs others ts
alike d interfaces others rs ts h g timed_r timed_t lawful legal params plans =
    λ k j owner slot r t mine theirs channel at there mine_at theirs_at static still guarded on_r on_t own_it cycle same
    n.
    let x = h.owned k owner slot r mine channel at mine_at static guarded on_r own_it in
    let own_there : IsOwner d t.window.cycle slot channel owner =
    subst (λ (c : ℕ). IsOwner d c slot channel owner) (same_cycle rs ts k j r t timed_r timed_t at there static
    still cycle) own_it in
    let y = g.owned j owner slot t theirs channel there theirs_at still guarded on_t own_there in
    same_part d.params r t (recorded_cycle rs k) mine theirs owner channel slot (lawful owner mine mine_at)
    (legal owner theirs theirs_at) (params owner mine theirs mine_at theirs_at)
    (plans owner mine theirs mine_at theirs_at) x
    (subst (λ (c : ℕ). IsSeenByAccount d.params t c theirs owner channel slot) (sym cycle) y) same n
