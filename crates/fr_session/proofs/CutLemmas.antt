-- Sessions that a stream cuts short.
use Rattle.std.proofs.Common.{◌≡◌, ℕ, zero, suc, ◌+◌, ◌-◌, ◌≤◌, true, List, [], ◌∷◌, ◌++◌, length, Option, Some, None}
use Rattle.std.proofs.Common.{Result, Ok, Err, refl}
use Rattle.std.proofs.Common.{sym, ap, ap₂, subst, inl, inr, ◌∙◌, append_assoc, zero-add, arith, take, drop}
use Rattle.std.proofs.Common.{take-append-drop}
use Rattle.std.proofs.KnownBytes.{Appends-nil, Consumes-nil, Keeps-refl}
use Rattle.std.proofs.lemmas.List.{append-nil, length-drop}
use Rattle.std.proofs.Math.Seq.{take-length}
use Rattle.std.specs.List.{flat_map}
use Rattle.std.specs.Io.KnownBytes.{Appends, Consumes, Keeps, WriteAppends}
use Rattle.std.specs.Prelude.{IfErr, IsErr}
use Rattle.fr_core.specs.Worlds.{WorldState}
use Rattle.fr_schedule.specs.Descriptions.{Description}
use Rattle.fr_session.proofs.LineLemmas.{front_asks}
use Rattle.fr_session.proofs.SessionLemmas.{SoFarBy, appends_kept, appends_more, are_lines_more, feeds_more}
use Rattle.fr_session.specs.Cuts.{EndsEarly, EndsWorld, FailsNext, Hands, IsFront, Sends}
use Rattle.fr_session.specs.declared.error.SessionError.{SessionError}
use Rattle.fr_session.specs.declared.error.SessionError.TheVariants.{Read, Write, Memory}
use Rattle.fr_session.specs.declared.noted.Noted.{Noted}
use Rattle.fr_session.specs.Lines.{Comes, ComesFront, IsLine, with_feed}
use Rattle.fr_session.specs.Replies.{greeting}
use Rattle.fr_session.specs.Reading.{asked_in}
use Rattle.fr_session.specs.Sessions.{Does, DoesIf, IsOf, Serves, SessionState, Terms, opening, state_of, terms_of}
use Rattle.fr_session.specs.Sessions.{nothing_noted, terms_with}

-- ---- texts that are handed on

-- nothing of the text
pub none_of : (text : List ℕ) → IsFront [] text
none_of text = (text, refl)

-- all of the text
pub all_of : (text : List ℕ) → IsFront text text
all_of text = ([], sym (append-nil text))

-- the first text, and a front of the second
pub front_of_second : (front first second : List ℕ) → IsFront front second → IsFront (first ++ front) (first ++ second)
front_of_second front first second is =
    (is.0, ap (λ l. first ++ l) is.1 ∙ sym (append_assoc first front is.0))

-- this many of the bytes
pub some_of : (count : ℕ) (text : List ℕ) → IsFront (take count text) text
some_of count text = (drop count text, sym (take-append-drop count text))

take_none : (count : ℕ) → take {A = ℕ} count [] ≡ []
take_none zero = refl
take_none (suc count) = refl

take_seam : (count more : ℕ) (text : List ℕ) → take count text ++ take more (drop count text) ≡ take (count + more) text
take_seam zero more text = ap (λ k. take k text) (sym (zero-add more))
take_seam (suc count) more [] = take_none more ∙ sym (take_none (suc count + more))
take_seam (suc count) more (b ∷ text) =
    let next : suc (count + more) ≡ suc count + more = omega arith in
    ap (λ l. b ∷ l) (take_seam count more text) ∙ ap (λ k. take k (b ∷ text)) next

-- the bytes that are left, as a slice
abbrev pub rest_of : List ℕ → ℕ → List ℕ
rest_of text count = take (length text - count) (drop count text)

rest_is : (text : List ℕ) (count : ℕ) → rest_of text count ≡ drop count text
rest_is text count =
    ap (λ k. take k (drop count text)) (sym (length-drop count text)) ∙ take-length (drop count text)

-- more of the bytes were taken
pub wrote_more : (before mid after : Option (List ℕ)) (text : List ℕ) (count more : ℕ)
    → Appends before mid (take count text) → Appends mid after (take more (rest_of text count))
    → Appends before after (take (count + more) text)
wrote_more before mid after text count more first second =
    subst (Appends before after) (take_seam count more text)
    (appends_more before mid after (take count text) (take more (drop count text)) first
    (subst (λ (l : List ℕ). Appends mid after (take more l)) (rest_is text count) second))

-- a slice of the bytes that are left has no more than these
pub rest_fits : (text : List ℕ) (count more : ℕ) → more ≤ length (rest_of text count) → count ≤ length text
    → count + more ≤ length text
rest_fits text count more fits within =
    let len : length (rest_of text count) ≡ length text - count =
    ap length (rest_is text count) ∙ length-drop count text in
    omega (arith, fits, within, len)

-- none were taken
pub wrote_none : {E : Type 0} (before after : Option (List ℕ)) (r : Result ℕ E) (text : List ℕ) (count : ℕ)
    → r ≡ Ok count
    → count ≡ 0 → WriteAppends before after r text → Keeps before after
wrote_none before after r text count is none told =
    kept before after (subst (λ (k : ℕ). Appends before after (take k text)) none
    (subst (λ (q : Result ℕ _). WriteAppends before after q text) is told))
  where
    kept : (one other : Option (List ℕ)) → Appends one other [] → Keeps one other
    kept None other same = tt
    kept (Some x) None same = absurd same
    kept (Some x) (Some y) same = same ∙ append-nil x

module _ {W A E : Type 0} (contents : W → Option (List ℕ)) where
  -- one text was handed on, and then another one
  pub hands_both : (old mid new : W) (result : Result A E) (first second : List ℕ)
      → Appends (contents old) (contents mid) first → Hands contents mid new result second
      → Hands contents old new result (first ++ second)
  hands_both old mid new (Ok x) first second one other =
      appends_more (contents old) (contents mid) (contents new) first second one other
  hands_both old mid new (Err e) first second one other = (
    first ++ other.0,
    front_of_second other.0 first second other.1,
    appends_more (contents old) (contents mid) (contents new) first other.0 one other.2,
  )

  -- a text was handed on, and the writer was flushed
  pub flushed_so : (old mid new : W) (result : Result A E) (text : List ℕ)
      → Appends (contents old) (contents mid) text → Keeps (contents mid) (contents new)
      → Hands contents old new result text
  flushed_so old mid new (Ok x) text told keeps =
      appends_kept (contents old) (contents mid) (contents new) text told keeps
  flushed_so old mid new (Err e) text told keeps =
      (text, all_of text, appends_kept (contents old) (contents mid) (contents new) text told keeps)

-- ---- replies that are prepared

-- a reply that was prepared is sent
pub sent_so : {W A E : Type 0} (contents : W → Option (List ℕ)) (old new : W) (result : Result A E)
    (empty prepared : List ℕ) (Is : List ℕ → List ℕ → Type 0) (line items : List ℕ) → line ≡ items → empty ≡ []
    → (reply : List ℕ) × Is line reply × (prepared ≡ empty ++ reply) → Hands contents old new result prepared
    → Sends contents old new result (Is items)
sent_so contents old new result empty prepared Is line items same none answered hands =
    let (reply, is, told) = answered in (
      reply,
      subst (λ (t : List ℕ). Is t reply) same is,
      subst (λ (t : List ℕ). Hands contents old new result t) (told ∙ ap (λ l. l ++ reply) none) hands,
    )

-- a reply that couldn't be prepared
pub unsent_so : {W A E : Type 0} (contents : W → Option (List ℕ)) (w : W) (result : Result A E)
    (Is : List ℕ → List ℕ → Type 0) (line items reply : List ℕ) → IsErr result → line ≡ items → Is line reply
    → Sends contents w w result (Is items)
unsent_so contents w (Ok x) Is line items reply failed same is = absurd (let none : ⊥ = cc failed in none)
unsent_so contents w (Err e) Is line items reply failed same is =
    (reply, subst (λ (t : List ℕ). Is t reply) same is, ([], none_of reply, Appends-nil (contents w)))

-- ---- the reader or the writer fails

module _ (DoesLine : SessionState → ℕ → List ℕ → List ℕ → SessionState → Type 0)
    (DoesLines : SessionState → ℕ → List (List ℕ) → List ℕ → SessionState → Type 0) where
  pub ends_greeting : (text before after : Option (List ℕ)) (front : List ℕ) (old : SessionState)
      → IsFront front greeting → Appends before after front
      → EndsEarly DoesLine DoesLines Write text text before after old old
  ends_greeting None before after front old is told = tt
  ends_greeting (Some text) before after front old is told = inl (front, is, told, refl, refl)

  -- an allocation failed before the first line
  pub ends_memory : (text before : Option (List ℕ)) (old : SessionState)
      → EndsEarly DoesLine DoesLines Memory text text before before old old
  ends_memory None before old = tt
  ends_memory (Some text) before old = (refl, Keeps-refl before, refl)

  pub ends_reading : (text left left' before after after' : Option (List ℕ)) (number : ℕ) (old mid new : SessionState)
      (part : List ℕ) → SoFarBy DoesLines text left before after number old mid → IsLine part
      → Consumes left left' part → Keeps after after' → new ≡ mid
      → EndsEarly DoesLine DoesLines Read text left' before after' old new
  ends_reading None left left' before after after' number old mid new part so_far plain takes keeps same = tt
  ends_reading (Some text) None left' before after after' number old mid new part so_far plain takes keeps same =
      absurd so_far
  ends_reading (Some text) (Some left) None before after after' number old mid new part so_far plain takes keeps same =
      absurd takes
  ends_reading (Some text) (Some left) (Some left') before after after' number old mid new part so_far plain takes
      keeps same =
      let (lines, replies, is, all, count, serves, told) = so_far in (
        lines,
        part,
        replies,
        is ∙ ap (λ l. flat_map with_feed lines ++ l) takes,
        all,
        plain,
        subst (λ (s : SessionState). DoesLines old 1 lines replies s) (sym same) serves,
        appends_kept before after after' (greeting ++ replies) told keeps,
      )

  pub ends_writing : (text left left' before after after' : Option (List ℕ)) (number : ℕ) (old mid new : SessionState)
      (line reply front : List ℕ) → SoFarBy DoesLines text left before after number old mid
      → Comes true left left' line → DoesLine mid number line reply new → IsFront front reply
      → Appends after after' front → EndsEarly DoesLine DoesLines Write text left' before after' old new
  ends_writing None left left' before after after' number old mid new line reply front so_far comes does is told = tt
  ends_writing (Some text) None left' before after after' number old mid new line reply front so_far comes does is
      told = absurd so_far
  ends_writing (Some text) (Some left) None before after after' number old mid new line reply front so_far comes does
      is told = absurd comes
  ends_writing (Some text) (Some left) (Some left') before after after' number old mid new line reply front so_far
      comes does is tells =
      let (lines, replies, are, all, count, serves, told) = so_far in inr (
        lines,
        line,
        replies,
        reply,
        front,
        mid,
        are ∙ ap (λ l. flat_map with_feed lines ++ l) comes.0 ∙ sym (feeds_more lines line left'),
        are_lines_more lines line all comes.1,
        serves,
        subst (λ k. DoesLine mid k line reply new) count does,
        is,
        appends_more before after after' (greeting ++ replies) front told tells,
      )

  -- the next line isn't answered whole
  pub ends_so : (error : SessionError) (text left left' before after after' : Option (List ℕ)) (number : ℕ)
      (old mid new : SessionState) → SoFarBy DoesLines text left before after number old mid
      → FailsNext DoesLine DoesLines error left left' after after' number mid new
      → EndsEarly DoesLine DoesLines error text left' before after' old new
  ends_so Read text left left' before after after' number old mid new so_far fails =
      let (part, plain, takes) = fails.0 in
      ends_reading text left left' before after after' number old mid new part so_far plain takes fails.1 fails.2
  ends_so Write text left left' before after after' number old mid new so_far fails =
      let (line, reply, front, comes, does, is, tells) = fails in
      ends_writing text left left' before after after' number old mid new line reply front so_far comes does is tells
  ends_so Memory text left left' before after after' number old mid new so_far fails = absurd fails

  -- there is no number for another line
  pub ends_full : (text left before after : Option (List ℕ)) (number : ℕ) (old new : SessionState)
      → SoFarBy DoesLines text left before after number old new
      → EndsEarly DoesLine DoesLines Read text left before after old new
  ends_full text left before after number old new so_far =
      ends_reading text left left before after after number old new new [] so_far refl (Consumes-nil left)
      (Keeps-refl after) refl

-- a line of which the front was kept is answered by its front, in part
pub failed_front : (terms : Terms) (text left before after : Option (List ℕ)) (number : ℕ) (start : List ℕ)
    (old new : SessionState) → ComesFront true text left start
    → (reply : List ℕ) × DoesIf terms old number (asked_in start) reply new
    × ((front : List ℕ) × IsFront front reply × Appends before after front)
    → FailsNext (Does terms) (Serves terms) Write text left before after number old new
failed_front terms text left before after number start old new comes answered =
    let (line, whole, is) = comes in
    let (reply, does, told) = answered in (
      line,
      reply,
      told.0,
      whole,
      subst (λ asked. DoesIf terms old number asked reply new) (ap asked_in is ∙ front_asks line) does,
      told.1,
      told.2,
    )

-- a session that began with nothing noted, by the terms of its world, and ended with an error
pub ended_so : {A : Type 0} (r : Result A SessionError) (given : Terms) (text left before after : Option (List ℕ))
    (old new : WorldState) (d : Description) (cycles : ℕ) (first noted : Noted) → IsOf d cycles old
    → given ≡ terms_of d cycles → first ≡ nothing_noted
    → IfErr r (λ error. EndsEarly (Does given) (Serves given) error text left before after (state_of old first)
    (state_of new noted))
    → IfErr r (λ error. EndsWorld error text left before after old new)
ended_so (Ok x) given text left before after old new d cycles first noted is_of same none ends = tt
ended_so (Err error) given text left before after old new d cycles first noted is_of same none ends = (
  noted,
  subst (λ (t : Terms). EndsEarly (Does t) (Serves t) error text left before after (opening old) (state_of new noted))
      (same ∙ ap₂ terms_of (sym is_of.0) (sym is_of.1))
      (subst (λ (f : Noted). EndsEarly (Does given) (Serves given) error text left before after
      (state_of old f) (state_of new noted)) none ends),
)

-- a session that began with no memory for itself
pub memory_ends : (text before : Option (List ℕ)) (w : WorldState) → EndsWorld Memory text text before before w w
memory_ends text before w =
    (nothing_noted, ends_memory (Does (terms_with w)) (Serves (terms_with w)) text before (opening w))
