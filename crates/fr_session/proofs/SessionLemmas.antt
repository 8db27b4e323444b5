-- A session continues by one line.
use Rattle.std.proofs.Common.{◌≡◌, ℕ, ◌+◌, true, false, List, [], ◌∷◌, ◌++◌, length, Option, Some, None, refl, sym, ap}
use Rattle.std.proofs.Common.{ap₂, subst, ◌∙◌, append_assoc, arith, length-append, Result, Ok, Err}
use Rattle.std.specs.Prelude.{OnOk}
use Rattle.std.proofs.lemmas.List.{append-nil}
use Rattle.std.specs.List.{flat_map}
use Rattle.std.specs.Io.KnownBytes.{Appends, Keeps}
use Rattle.fr_core.specs.Worlds.{WorldState}
use Rattle.fr_schedule.specs.Descriptions.{Description}
use Rattle.fr_session.specs.declared.noted.Noted.{Noted}
use Rattle.fr_session.specs.Lines.{AreLines, ComesFront, IsLine, with_feed}
use Rattle.fr_session.specs.Reading.{asked_in}
use Rattle.fr_session.specs.Replies.{greeting}
use Rattle.fr_session.specs.Sessions.{AnswersNext, Does, DoesIf, IsOf, Served, ServedWorld, Serves, SessionState, Terms}
use Rattle.fr_session.specs.Sessions.{nothing_noted, opening, state_of, terms_of}
use Rattle.fr_session.proofs.LineLemmas.{front_asks}

serves_none : (terms : Terms) (w : SessionState) (number : ℕ) → Serves terms w number [] [] w
unfolding Serves
serves_none terms w number = (refl, refl)

serves_more : (terms : Terms) (old : SessionState) (number : ℕ) (lines : List (List ℕ)) (replies : List ℕ)
    (between : SessionState) (line reply : List ℕ) (new : SessionState)
    → Serves terms old number lines replies between → Does terms between (number + length lines) line reply new
    → Serves terms old number (lines ++ line ∷ []) (replies ++ reply) new
unfolding Serves
serves_more terms old number [] replies between line reply new so_far does =
    let here : Does terms old number line reply new = subst (λ (w : SessionState). Does terms w number line reply new)
    so_far.1
    (subst (λ k. Does terms between k line reply new) (omega arith) does) in
    (new, reply, [], here, ap (λ r. r ++ reply) so_far.0 ∙ sym (append-nil reply), (refl, refl))
serves_more terms old number (first ∷ lines) replies between line reply new so_far does =
    let (mid, answer, later, did, is, rest) = so_far in
    let there : Does terms between (number + 1 + length lines) line reply new =
    subst (λ k. Does terms between k line reply new) (omega arith) does in (
      mid,
      answer,
      later ++ reply,
      did,
      ap (λ r. r ++ reply) is ∙ append_assoc answer later reply,
      serves_more terms mid (number + 1) lines later between line reply new rest there,
    )

pub are_lines_more : (lines : List (List ℕ)) (line : List ℕ) → AreLines lines → IsLine line
    → AreLines (lines ++ line ∷ [])
are_lines_more [] line all is = (is, tt)
are_lines_more (first ∷ lines) line all is = (all.0, are_lines_more lines line all.1 is)

pub feeds_more : (lines : List (List ℕ)) (line left : List ℕ)
    → flat_map with_feed (lines ++ line ∷ []) ++ left ≡ flat_map
    with_feed lines ++ (line ++ 10 ∷ left)
feeds_more [] line left =
    ap (λ l. l ++ left) (append-nil (with_feed line)) ∙ append_assoc line (10 ∷ []) left
feeds_more (first ∷ lines) line left =
    append_assoc (with_feed first) (flat_map with_feed (lines ++ line ∷ [])) left
    ∙ ap (λ l. with_feed first ++ l) (feeds_more lines line left)
    ∙ sym (append_assoc (with_feed first) (flat_map with_feed lines) (line ++ 10 ∷ left))

-- the lines that were read so far are answered, where lines do this one after another
abbrev pub SoFarBy : (SessionState → ℕ → List (List ℕ) → List ℕ → SessionState → Type 0) → Option (List ℕ)
    → Option (List ℕ) → Option (List ℕ) → Option (List ℕ) → ℕ → SessionState → SessionState → Type 0
SoFarBy DoesLines None left before after number old new = Unit {0}
SoFarBy DoesLines (Some text) None before after number old new = ⊥
SoFarBy DoesLines (Some text) (Some left) before after number old new =
    (lines : List (List ℕ)) × (replies : List ℕ) × (text ≡ flat_map with_feed lines ++ left) × AreLines lines
    × (number ≡ 1 + length lines) × DoesLines old 1 lines replies new × Appends before after (greeting ++ replies)

abbrev pub SoFar : Terms → Option (List ℕ) → Option (List ℕ) → Option (List ℕ) → Option (List ℕ) → ℕ → SessionState
    → SessionState → Type 0
SoFar terms text left before after number old new = SoFarBy (Serves terms) text left before after number old new

pub appends_more : (a b c : Option (List ℕ)) (xs ys : List ℕ) → Appends a b xs → Appends b c ys → Appends a c (xs ++ ys)
appends_more None b c xs ys first second = tt
appends_more (Some x) None c xs ys first second = absurd first
appends_more (Some x) (Some y) None xs ys first second = absurd second
appends_more (Some x) (Some y) (Some z) xs ys first second = second ∙ ap (λ l. l ++ ys) first ∙ append_assoc x xs ys

pub appends_kept : (a b c : Option (List ℕ)) (xs : List ℕ) → Appends a b xs → Keeps b c → Appends a c xs
appends_kept None b c xs first second = tt
appends_kept (Some x) None c xs first second = absurd first
appends_kept (Some x) (Some y) None xs first second = absurd second
appends_kept (Some x) (Some y) (Some z) xs first second = second ∙ first

pub so_far_none : (terms : Terms) (text before after : Option (List ℕ)) (w : SessionState)
    → Appends before after greeting → SoFar terms text text before after 1 w w
so_far_none terms None before after w told = tt
so_far_none terms (Some text) before after w told = ([], [], refl, tt, refl, serves_none terms w 1, told)

pub so_far_more : (terms : Terms) (text left left' before after after' : Option (List ℕ)) (number : ℕ)
    (old mid new : SessionState)
    → SoFar terms text left before after number old mid → AnswersNext terms true left left' after after' number mid new
    → SoFar terms text left' before after' (number + 1) old new
so_far_more terms None left left' before after after' number old mid new so_far next = tt
so_far_more terms (Some text) None left' before after after' number old mid new so_far next = absurd so_far
so_far_more terms (Some text) (Some left) None before after after' number old mid new so_far next = absurd next.2
so_far_more terms (Some text) (Some left) (Some left') before after after' number old mid new so_far next =
    let (lines, replies, is, all, count, serves, told) = so_far in
    let (line, reply, comes, does, tells) = next in
    let here : Does terms mid (1 + length lines) line reply new =
    subst (λ k. Does terms mid k line reply new) count does in (
      lines ++ line ∷ [],
      replies ++ reply,
      is ∙ ap (λ l. flat_map with_feed lines ++ l) comes.0 ∙ sym (feeds_more lines line left'),
      are_lines_more lines line all comes.1,
      omega (arith, count, length-append lines (line ∷ [])),
      serves_more terms old 1 lines replies mid line reply new serves here,
      subst (Appends before after') (append_assoc greeting replies reply)
          (appends_more before after after' (greeting ++ replies) reply told tells),
    )

pub so_far_over : (terms : Terms) (text left left' before after after' : Option (List ℕ)) (number : ℕ)
    (old mid new : SessionState)
    → SoFar terms text left before after number old mid → AnswersNext terms false left left' after after' number mid new
    → Served terms text before after' old new
so_far_over terms None left left' before after after' number old mid new so_far next = tt
so_far_over terms (Some text) None left' before after after' number old mid new so_far next = absurd so_far
so_far_over terms (Some text) (Some left) left' before after after' number old mid new so_far next =
    let (lines, replies, is, all, count, serves, told) = so_far in (
      lines,
      left,
      replies,
      (is, all, next.0),
      subst (λ (w : SessionState). Serves terms old 1 lines replies w) (sym next.1) serves,
      appends_kept before after after' (greeting ++ replies) told next.2,
    )

-- a line of which the front was kept is answered by its front
pub answered_front : (terms : Terms) (text left before after : Option (List ℕ)) (number : ℕ) (front : List ℕ)
    (old new : SessionState)
    → ComesFront true text left front → (reply : List ℕ) × DoesIf terms old number (asked_in front) reply new
    × Appends before after reply
    → AnswersNext terms true text left before after number old new
answered_front terms text left before after number front old new comes answered =
    let (line, whole, is) = comes in
    let (reply, does, tells) = answered in (
      line,
      reply,
      whole,
      subst (λ asked. DoesIf terms old number asked reply new) (ap asked_in is ∙ front_asks line) does,
      tells,
    )

-- a session that began with nothing noted, by the terms of its world
pub opened_so : {A E : Type 0} (r : Result A E) (given : Terms) (text before after : Option (List ℕ))
    (old new : WorldState) (d : Description) (cycles : ℕ) (first noted : Noted) → IsOf d cycles old
    → given ≡ terms_of d cycles → first ≡ nothing_noted → OnOk r (Served given text before after (state_of old first)
    (state_of new noted))
    → OnOk r (ServedWorld text before after old new)
opened_so (Err e) given text before after old new d cycles first noted is_of same none served = tt
opened_so (Ok x) given text before after old new d cycles first noted is_of same none served = (
  noted,
  subst (λ (t : Terms). Served t text before after (opening old) (state_of new noted))
      (same ∙ ap₂ terms_of (sym is_of.0) (sym is_of.1))
      (subst (λ (f : Noted). Served given text before after (state_of old f) (state_of new noted)) none served),
)
