-- The text of records, one after another.
use Rattle.std.proofs.Common.{◌≡◌, ℕ, Bool, ◌+◌, List, [], ◌∷◌, ◌++◌, take, drop, refl, sym, ap, ◌∙◌}
use Rattle.std.proofs.Common.{append_assoc, subst}
use Rattle.std.specs.Io.KnownBytes.{Appends}
use Rattle.std.specs.Prelude.{Option, Some, None, option_to_list}
use Rattle.std.proofs.KnownBytes.{Appends-nil, Appends-trans}
use Rattle.std.proofs.Math.Seq.{take-add}
use Rattle.std.proofs.lemmas.List.{append-nil}
use Rattle.std.proofs.lemmas.List.Sums.{fold-append}
use Rattle.fr_judging.specs.Judging.{State, judge}
use Rattle.fr_recording.specs.Records.{Record}
use Rattle.fr_recording.specs.Stream.{Progress, take_byte, take_bytes, records_from, told_of}
use Rattle.fr_monitoring.specs.Monitoring.{judged, record_text, told, IsFollowed}

pub told_some : (frames : Bool) (s : State) (o : Option Record) (r : Record) → o ≡ Some r
    → record_text frames s r ≡ told frames s (option_to_list o)
unfolding told
told_some frames s o r is =
    sym (append-nil (record_text frames s r))
    ∙ ap (λ (t : Option Record). told frames s (option_to_list t)) (sym is)

pub told_none : (frames : Bool) (s : State) (o : Option Record) → o ≡ None → [] ≡ told frames s (option_to_list o)
unfolding told
told_none frames s o is = ap (λ (t : Option Record). told frames s (option_to_list t)) (sym is)

pub told_nothing : (frames : Bool) (s : State) → told frames s [] ≡ []
unfolding told
told_nothing frames s = refl

pub told_more : (frames : Bool) (s : State) (a b : List Record)
    → told frames s (a ++ b) ≡ told frames s a ++ told frames (judged s a) b
unfolding told
told_more frames s [] b = refl
told_more frames s (r ∷ a) b =
    ap (λ (t : List ℕ). record_text frames s r ++ t) (told_more frames (judge s r) a b)
    ∙ sym (append_assoc (record_text frames s r) (told frames (judge s r) a) (told frames (judged (judge s r) a) b))

pub judged_more : (s : State) (a b : List Record) → judged s (a ++ b) ≡ judged (judged s a) b
judged_more s a b = fold-append judge s a b

-- ---- bytes, one part after another

pub records_more : (a b : List ℕ) (p : Progress)
    → records_from p (a ++ b) ≡ records_from p a ++ records_from (take_bytes p a) b
records_more [] b p = refl
records_more (x ∷ a) b p =
    ap (λ (t : List Record). option_to_list (told_of (take_byte p x)) ++ t) (records_more a b (take_byte p x))
    ∙ sym (append_assoc (option_to_list (told_of (take_byte p x))) (records_from (take_byte p x) a)
    (records_from (take_bytes (take_byte p x) a) b))

pub followed_none : (frames : Bool) (p : Progress) (s : State) (w : Option (List ℕ)) → IsFollowed frames p s p s w w []
followed_none frames p s w = record {
  progress_is = refl;
  state_is = refl;
  text_is = subst (λ (t : List ℕ). Appends w w t) (sym (told_nothing frames s)) (Appends-nil w);
}

pub followed_more : (frames : Bool) (p q q' : Progress) (s t t' : State) (old mid new : Option (List ℕ)) (a b : List ℕ)
    → IsFollowed frames p s q t old mid a → IsFollowed frames q t q' t' mid new b
    → IsFollowed frames p s q' t' old new (a ++ b)
followed_more frames p q q' s t t' old mid new a b x y =
    let here : take_bytes p (a ++ b) ≡ take_bytes q b =
    fold-append take_byte p a b ∙ ap (λ (r : Progress). take_bytes r b) (sym x.progress_is) in
    let all : records_from p (a ++ b) ≡ records_from p a ++ records_from q b =
    records_more a b p ∙ ap (λ (r : Progress). records_from p a ++ records_from r b) (sym x.progress_is) in
    let later : told frames t (records_from q b) ≡ told frames (judged s (records_from p a)) (records_from q b) =
    ap (λ (v : State). told frames v (records_from q b)) x.state_is in
    let text : told frames s (records_from p a) ++ told frames t (records_from q b)
    ≡ told frames s (records_from p (a ++ b)) =
    ap (λ (u : List ℕ). told frames s (records_from p a) ++ u) later
    ∙ sym (told_more frames s (records_from p a) (records_from q b))
    ∙ ap (told frames s) (sym all) in
    record {
      progress_is = y.progress_is ∙ sym here;
      state_is = y.state_is
          ∙ ap (λ (v : State). judged v (records_from q b)) x.state_is
          ∙ sym (judged_more s (records_from p a) (records_from q b))
          ∙ ap (judged s) (sym all);
      text_is = subst (λ (u : List ℕ). Appends old new u) text
          (Appends-trans old mid new (told frames s (records_from p a)) (told frames t (records_from q b)) x.text_is
          y.text_is);
    }

-- the next bytes of a piece
pub followed_next : (frames : Bool) (p q q' : Progress) (s t t' : State) (old mid new : Option (List ℕ))
    (piece rest : List ℕ) (a b : ℕ)
    → IsFollowed frames p s q t old mid (take a piece) → rest ≡ drop a piece → q' ≡ take_bytes q (take b rest)
    → records_from q (take b rest) ≡ option_to_list (told_of q') → t' ≡ judged t (option_to_list (told_of q'))
    → Appends mid new (told frames t (option_to_list (told_of q')))
    → IsFollowed frames p s q' t' old new (take (a + b) piece)
followed_next frames p q q' s t t' old mid new piece rest a b so_far rest_is progress records state text =
    let cut : take a piece ++ take b rest ≡ take (a + b) piece =
    ap (λ (r : List ℕ). take a piece ++ take b r) rest_is ∙ sym (take-add a b piece) in
    let one : IsFollowed frames q t q' t' mid new (take b rest) = record {
      progress_is = progress;
      state_is = state ∙ ap (judged t) (sym records);
      text_is = subst (λ (u : List Record). Appends mid new (told frames t u)) (sym records) text;
    } in
    subst (λ (front : List ℕ). IsFollowed frames p s q' t' old new front) cut
    (followed_more frames p q q' s t t' old mid new (take a piece) (take b rest) so_far one)

-- the bytes after them
pub followed_further : (frames : Bool) (p q q' : Progress) (s t t' : State) (old mid new : Option (List ℕ))
    (piece rest : List ℕ) (a b : ℕ) → IsFollowed frames p s q t old mid (take a piece) → rest ≡ drop a piece
    → IsFollowed frames q t q' t' mid new (take b rest) → IsFollowed frames p s q' t' old new (take (a + b) piece)
followed_further frames p q q' s t t' old mid new piece rest a b so_far rest_is more =
    let cut : take a piece ++ take b rest ≡ take (a + b) piece =
    ap (λ (r : List ℕ). take a piece ++ take b r) rest_is ∙ sym (take-add a b piece) in
    subst (λ (front : List ℕ). IsFollowed frames p s q' t' old new front) cut
    (followed_more frames p q q' s t t' old mid new (take a piece) (take b rest) so_far more)
