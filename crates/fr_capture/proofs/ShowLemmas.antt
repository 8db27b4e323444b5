-- The text of the observations so far: some of it was handed to the writer, and the rest is in a piece.
use Rattle.std.proofs.Common.{◌≡◌, ℕ, ◌+◌, ◌<◌, ◌≤◌, List, [], ◌∷◌, ◌++◌, length, take, drop, get_or, Option, Some}
use Rattle.std.proofs.Common.{None}
use Rattle.std.proofs.Common.{Result, Ok, Err, refl, sym, ap, subst, ◌∙◌, arith, append_assoc, append-nil, inl, inr}
use Rattle.std.proofs.Common.{take-append-drop}
use Rattle.std.specs.Io.KnownBytes.{Appends, Keeps}
use Rattle.fr_files.specs.Outputs.{AppendsFront, FallsShort}
use Rattle.fr_files.proofs.OutputLemmas.{short_front}
use Rattle.std.specs.List.{flat_map}
use Rattle.std.specs.Prelude.{OnErr, OnOk, IfErr, IfSome}
use Rattle.std.proofs.KnownBytes.{Appends-nil, Appends-trans}
use Rattle.std.proofs.lemmas.Grind.{flat_map-append}
use Rattle.std.proofs.lemmas.List.{length-take, take_more, take_all}
use Rattle.fr_capture.specs.Clocks.{IsMoment, moment_after, seen_after, HasRounds}
use Rattle.fr_capture.specs.declared.form.Form.{Form}
use Rattle.fr_interface.specs.State.{State}
use Rattle.fr_trace.specs.Audit.{IsOfText, Understands, Stops, StopsAtEnd}
use Rattle.fr_trace.specs.Refusals.{LineIsNamed, NamesItsLine}
use Rattle.fr_trace.specs.declared.error.TraceError.{TraceError}
use Rattle.fr_trace.specs.declared.error.TraceError.TheVariants as error
use Rattle.fr_trace.proofs.OutcomeLemmas.{accepted_begins}
use Rattle.fr_capture.specs.declared.moment.Moment.{Moment}
use Rattle.fr_capture.specs.Shows.{heading, shown, shown_of, IsUnwritten, Shows, Ends, EndsAt}
use Rattle.fr_capture.specs.Sightings.{Sighting, sightings_at, sightings_in}
use Rattle.fr_capture.proofs.MomentLemmas.{one_moment, seen_same, sightings-snoc, few_rounds}
use Rattle.fr_journal.specs.Forms.{Entry}
use Rattle.fr_slots.specs.History.{each_after}

-- the values of two lists of events, one after the other
each_after-append : {X A : Type 0} (f : List X → X → List A) (before xs ys : List X)
    → each_after f before (xs ++ ys) ≡ each_after f before xs ++ each_after f (before ++ xs) ys
unfolding each_after
each_after-append {X = X} {A = A} f before [] ys = ap (λ (b : List X). each_after f b ys) (sym (append-nil before))
each_after-append {X = X} {A = A} f before (x ∷ xs) ys =
    ap (λ (t : List A). f before x ++ t)
    (each_after-append f (before ++ x ∷ []) xs ys
    ∙ ap (λ (b : List X). each_after f (before ++ x ∷ []) xs ++ each_after f b ys) (append_assoc before (x ∷ []) xs))
    ∙ sym (append_assoc (f before x) (each_after f (before ++ x ∷ []) xs) (each_after f (before ++ x ∷ xs) ys))

-- a fact that holds of each result
pub on_each : {A E : Type 0} (P : Type 0) (r : Result A E) → P → OnErr r P
on_each P (Ok x) h = tt
on_each P (Err e) h = h

-- after the heading, the observations of the first `count` entries have been written
pub record IsShown (form : Form) (s : State) (entries : List Entry) (count : ℕ) (start now : Option (List ℕ))
    (piece : List ℕ)
    (last : Option Moment) : Type 0 where
  pub handed : List ℕ
  pub written : Appends start now handed
  pub text_is : handed ++ piece ≡ heading form ++ flat_map (shown form s.params) (sightings_in s (take count entries))
  pub moment_is : IsMoment s.params (take count entries) last

module _ (form : Form) (s : State) (entries : List Entry) (start : Option (List ℕ)) where
  pub shown_none : (piece : List ℕ) → piece ≡ heading form → IsShown form s entries 0 start start piece None
  unfolding Rattle.fr_slots.specs.History.each_after Rattle.fr_slots.specs.History.last_after
      Rattle.fr_slots.specs.History.count_after
  shown_none piece is = record {
    handed = [];
    written = Appends-nil start;
    text_is =
        is ∙ sym (append-nil (heading form));
    moment_is = (refl, refl);
  }

  more-texts : (before : List Entry) (last : Option Moment) (e : Entry) → IsMoment s.params before last
      → flat_map (shown form s.params) (sightings_in s (before ++ e ∷ [])) ≡ flat_map (shown form s.params)
      (sightings_in s before) ++ flat_map (shown form s.params) (seen_after s last e)
  more-texts before last e moment =
      ap (flat_map (shown form s.params)) (sightings-snoc s before e)
      ∙ flat_map-append (shown form s.params) (sightings_in s before) (sightings_at s before e)
      ∙ ap (λ (more : List Sighting). flat_map (shown form s.params) (sightings_in s before) ++ flat_map
      (shown form s.params) more) (seen_same s before last e moment)

  pub shown_entry : (count : ℕ) (e : Entry) (now : Option (List ℕ)) (piece next : List ℕ) (last : Option Moment)
      → count < length entries → e ≡ get_or entries count e
      → IsShown form s entries count start now piece last → next ≡ piece ++ flat_map (shown form s.params)
      (seen_after s last e)
      → IsShown form s entries (count + 1) start now next (moment_after s.params last count e)
  shown_entry count e now piece next last lt at h is =
      let before = take count entries in
      let longer : take (count + 1) entries ≡ before ++ e ∷ [] =
      take_more entries count e lt ∙ ap (λ (x : Entry). before ++ x ∷ []) (sym at) in
      let number_is : count ≡ length before = omega (arith, length-take count entries, lt) in
      let more = flat_map (shown form s.params) (seen_after s last e) in
      let so_far = flat_map (shown form s.params) (sightings_in s before) in
      record {
        handed = h.handed;
        written = h.written;
        text_is =
            ap (λ (t : List ℕ). h.handed ++ t) is
            ∙ sym (append_assoc h.handed piece more)
            ∙ ap (λ (t : List ℕ). t ++ more) h.text_is
            ∙ append_assoc (heading form) so_far more
            ∙ ap (λ (t : List ℕ). heading form ++ t) (sym (more-texts before last e h.moment_is))
            ∙ ap (λ (es : List Entry). heading form ++ flat_map (shown form s.params) (sightings_in s es)) (sym longer);
        moment_is = subst (λ (es : List Entry). IsMoment s.params es (moment_after s.params last count e)) (sym longer)
            (one_moment s.params before last count number_is h.moment_is e);
      }

  pub shown_handed : (count : ℕ) (now next : Option (List ℕ)) (piece empty : List ℕ) (last : Option Moment)
      → IsShown form s entries count start now piece last → Appends now next piece
      → empty ≡ [] → IsShown form s entries count start next empty last
  shown_handed count now next piece empty last h handed is = record {
    handed = h.handed ++ piece;
    written = Appends-trans start now next h.handed piece h.written handed;
    text_is = ap (λ (t : List ℕ). (h.handed ++ piece) ++ t) is ∙ append-nil (h.handed ++ piece) ∙ h.text_is;
    moment_is = h.moment_is;
  }

  pub shown_all : {X E : Type 0} (r : Result X E) (count : ℕ) (now next : Option (List ℕ)) (piece : List ℕ)
      (last : Option Moment) → IsShown form s entries count start now piece last
      → length entries ≤ count → OnOk r (Appends now next piece) → OnOk r (Appends start next (shown_of form s entries))
  shown_all (Err e) count now next piece last h all handed = tt
  shown_all (Ok x) count now next piece last h all handed =
      let text : h.handed ++ piece ≡ shown_of form s entries =
      h.text_is ∙ ap (λ (es : List Entry). heading form ++ flat_map (shown form s.params) (sightings_in s es))
      (take_all count entries all) in
      subst (λ (t : List ℕ). Appends start next t) text (Appends-trans start now next h.handed piece h.written handed)

  -- the observations of the first entries are a front of those of all entries
  begins-texts : (count : ℕ) → (more : List ℕ)
      × (shown_of form s entries
      ≡ (heading form ++ flat_map (shown form s.params) (sightings_in s (take count entries))) ++ more)
  begins-texts count =
      let front = take count entries in
      let rest = drop count entries in
      let behind = each_after (sightings_at s) front rest in
      let text = flat_map (shown form s.params) in (
        text behind,
        ap (λ (es : List Entry). heading form ++ text (sightings_in s es)) (sym (take-append-drop count entries))
            ∙ ap (λ (t : List Sighting). heading form ++ text t) (each_after-append (sightings_at s) [] front rest)
            ∙ ap (λ (t : List ℕ). heading form ++ t)
            (flat_map-append (shown form s.params) (sightings_in s front) behind)
            ∙ sym (append_assoc (heading form) (text (sightings_in s front)) (text behind)),
      )

  -- what was written is a front of the whole output, if a front of the piece was
  pub shown_cut : (count : ℕ) (now next : Option (List ℕ)) (piece : List ℕ) (last : Option Moment)
      → IsShown form s entries count start now piece last → AppendsFront now next piece
      → AppendsFront start next (shown_of form s entries)
  shown_cut count now next piece last h (front, rest, is, taken) =
      let (more, begins) = begins-texts count in (
        h.handed ++ front,
        rest ++ more,
        begins
            ∙ ap (λ (t : List ℕ). t ++ more) (sym h.text_is ∙ ap (λ (t : List ℕ). h.handed ++ t) is)
            ∙ ap (λ (t : List ℕ). t ++ more) (sym (append_assoc h.handed front rest))
            ∙ append_assoc (h.handed ++ front) rest more,
        Appends-trans start now next h.handed front h.written taken,
      )

  -- nothing more was written
  pub shown_part : (count : ℕ) (now : Option (List ℕ)) (piece : List ℕ) (last : Option Moment)
      → IsShown form s entries count start now piece last → AppendsFront start now (shown_of form s entries)
  shown_part count now piece last h = shown_cut count now now piece last h ([], piece, refl, Appends-nil now)

  pub shown_last : {X E : Type 0} (r : Result X E) (count : ℕ) (now next : Option (List ℕ)) (piece : List ℕ)
      (last : Option Moment) → IsShown form s entries count start now piece last
      → OnErr r (FallsShort now next piece) → OnErr r (AppendsFront start next (shown_of form s entries))
  shown_last (Ok x) count now next piece last h short = tt
  shown_last (Err e) count now next piece last h short =
      shown_cut count now next piece last h (short_front now next piece short)

  pub shown_rounds : (count most : ℕ) (now : Option (List ℕ)) (piece : List ℕ) (last : Option Moment)
      → IsShown form s entries count start now piece last → count ≤ most → HasRounds most last
  shown_rounds count most now piece last h few = few_rounds s.params (take count entries) last most h.moment_is
      (omega (arith, length-take count entries))

-- ---- the output for an accepted trace

no_other : (out : List ℕ) (old new : Option (List ℕ)) (e : TraceError) → IsOfText e → IsUnwritten out old new e → ⊥
no_other out old new e of_text (inl h) = subst IsOfText h.0 of_text
no_other out old new e of_text (inr h) = subst IsOfText h.0 of_text

no_read : (out : List ℕ) (old new : Option (List ℕ)) → IsUnwritten out old new error.Read → ⊥
no_read out old new (inl h) = let is = h.0 in cc
no_read out old new (inr h) = let is = h.0 in cc

kept_memory : (out : List ℕ) (old new : Option (List ℕ)) → IsUnwritten out old new error.Memory → Keeps old new
kept_memory out old new (inl h) = let is = h.0 in absurd (cc)
kept_memory out old new (inr h) = h.1

part_write : (out : List ℕ) (old new : Option (List ℕ)) → IsUnwritten out old new error.Write
    → AppendsFront old new out
part_write out old new (inl h) = h.1
part_write out old new (inr h) = let is = h.0 in absurd (cc)

pub shows_form : (written : State → List ℕ) (text old new : Option (List ℕ)) (s : State)
    (r : Result (Unit {0}) TraceError) → Understands text (Ok s)
    → OnOk r (Appends old new (written s)) → IfErr r (IsUnwritten (written s) old new) → Shows written text old new r
shows_form written text old new s (Ok x) told done refused = (s, told.0, told.1, done)
shows_form written text old new s (Err error.Write) told done refused =
    (s, told.0, told.1, part_write (written s) old new refused)
shows_form written text old new s (Err error.Memory) told done refused =
    (accepted_begins text s told.1 told.0, kept_memory (written s) old new refused)
shows_form written text old new s (Err error.Read) told done refused = absurd (no_read (written s) old new refused)
shows_form written text old new s (Err error.BadMagic) told done refused =
    absurd (no_other (written s) old new error.BadMagic tt refused)
shows_form written text old new s (Err (error.BadLine n)) told done refused =
    absurd (no_other (written s) old new (error.BadLine n) tt refused)
shows_form written text old new s (Err (error.LineTooLong n)) told done refused =
    absurd (no_other (written s) old new (error.LineTooLong n) tt refused)
shows_form written text old new s (Err (error.Refused n)) told done refused =
    absurd (no_other (written s) old new (error.Refused n) tt refused)
shows_form written text old new s (Err (error.WrongAnswer n)) told done refused =
    absurd (no_other (written s) old new (error.WrongAnswer n) tt refused)
shows_form written text old new s (Err error.Truncated) told done refused =
    absurd (no_other (written s) old new error.Truncated tt refused)

ends_at : (out text rest : List ℕ) (old new : Option (List ℕ)) (s : State) (r : Result (Unit {0}) TraceError)
    → StopsAtEnd text rest → Understands (Some text) (Ok s)
    → IfErr r (IsUnwritten out old new) → EndsAt text rest r
ends_at out text rest old new s (Ok x) stops told refused = stops
ends_at out text rest old new s (Err error.Write) stops told refused = stops
ends_at out text rest old new s (Err error.Memory) stops told refused = inr (stops, (s, told.0, told.1))
ends_at out text rest old new s (Err error.Read) stops told refused = absurd (no_read out old new refused)
ends_at out text rest old new s (Err error.BadMagic) stops told refused =
    absurd (no_other out old new error.BadMagic tt refused)
ends_at out text rest old new s (Err (error.BadLine n)) stops told refused =
    absurd (no_other out old new (error.BadLine n) tt refused)
ends_at out text rest old new s (Err (error.LineTooLong n)) stops told refused =
    absurd (no_other out old new (error.LineTooLong n) tt refused)
ends_at out text rest old new s (Err (error.Refused n)) stops told refused =
    absurd (no_other out old new (error.Refused n) tt refused)
ends_at out text rest old new s (Err (error.WrongAnswer n)) stops told refused =
    absurd (no_other out old new (error.WrongAnswer n) tt refused)
ends_at out text rest old new s (Err error.Truncated) stops told refused =
    absurd (no_other out old new error.Truncated tt refused)

-- the bytes of an accepted trace that are read
pub ends_form : (out : List ℕ) (text rest old new : Option (List ℕ)) (s : State) (r : Result (Unit {0}) TraceError)
    → Stops text rest (Ok tt) → Understands text (Ok s)
    → IfErr r (IsUnwritten out old new) → Ends text rest r
ends_form out None rest old new s r stops told refused = tt
ends_form out (Some text) None old new s r stops told refused = stops
ends_form out (Some text) (Some rest) old new s r stops told refused =
    ends_at out text rest old new s r stops told refused

-- an error of writing names no line
line_of_writing : (out text : List ℕ) (old new : Option (List ℕ)) (e : TraceError) → IsUnwritten out old new e
    → NamesItsLine e text
line_of_writing out text old new e (inl h) = subst (λ (x : TraceError). NamesItsLine x text) (sym h.0) tt
line_of_writing out text old new e (inr h) = subst (λ (x : TraceError). NamesItsLine x text) (sym h.0) tt

pub line_form : (out : List ℕ) (text old new : Option (List ℕ)) (r : Result (Unit {0}) TraceError)
    → IfErr r (IsUnwritten out old new)
    → IfSome text (λ t. LineIsNamed r t)
line_form out None old new r refused = tt
line_form out (Some text) old new (Ok x) refused = tt
line_form out (Some text) old new (Err e) refused = line_of_writing out text old new e refused
