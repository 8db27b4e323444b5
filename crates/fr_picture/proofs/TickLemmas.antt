-- The numbers of macroticks, one more; and a segment between other numbers for the same macroticks.
use Rattle.std.proofs.Common.{◌≡◌, ℕ, ◌+◌, ◌<◌, List, [], ◌∷◌, ◌++◌, length, take, get_or, Option, Result, refl, sym}
use Rattle.std.proofs.Common.{ap, ap₂, subst, ◌∙◌, append-nil, append_assoc}
use Rattle.std.specs.Prelude.{OnOk}
use Rattle.std.specs.Io.KnownBytes.{Appends}
use Rattle.std.proofs.KnownBytes.{Appends-nil, Appends-trans}
use Rattle.std.proofs.lemmas.List.{take_more}
use Rattle.fr_picture.specs.Frames.{segment_text, tick_end, tick_text, ticks_text}
use Rattle.fr_picture.specs.Places.{across}
use Rattle.fr_slots.specs.Parameters.{Parameters}

module _ (p : Parameters) where
  -- the first free place after the numbers
  pub end_of_ticks : ℕ → List ℕ → ℕ
  end_of_ticks from [] = from
  end_of_ticks from (m ∷ ms) = end_of_ticks (tick_end (across p m) from) ms

  ticks_more : (from : ℕ) (ms : List ℕ) (m : ℕ)
      → ticks_text p from (ms ++ m ∷ []) ≡ ticks_text p from ms ++ tick_text (across p m) m (end_of_ticks from ms)
  unfolding ticks_text end_of_ticks
  ticks_more from [] m = append-nil (tick_text (across p m) m from)
  ticks_more from (x ∷ ms) m =
      ap (λ (t : List ℕ). tick_text (across p x) x from ++ t) (ticks_more (tick_end (across p x) from) ms m)
      ∙ sym (append_assoc (tick_text (across p x) x from) (ticks_text p (tick_end (across p x) from) ms)
      (tick_text (across p m) m (end_of_ticks (tick_end (across p x) from) ms)))

  end_more : (from : ℕ) (ms : List ℕ) (m : ℕ)
      → end_of_ticks from (ms ++ m ∷ []) ≡ tick_end (across p m) (end_of_ticks from ms)
  unfolding end_of_ticks
  end_more from [] m = refl
  end_more from (x ∷ ms) m = end_more (tick_end (across p x) from) ms m

  -- the numbers so far have been written, and this is the first free place
  pub record AreTicks (ms : List ℕ) (from : ℕ) (old new : Option (List ℕ)) : Type 0 where
    pub from_is : from ≡ end_of_ticks 0 ms
    pub written : Appends old new (ticks_text p 0 ms)

  pub no_ticks : (old : Option (List ℕ)) → AreTicks [] 0 old old
  unfolding ticks_text end_of_ticks
  no_ticks old = record { from_is = refl; written = Appends-nil old }

  pub one_tick : (ms : List ℕ) (i from next left : ℕ) (old mid new : Option (List ℕ)) → i < length ms
      → AreTicks (take i ms) from old mid → left ≡ across p (get_or ms i 0)
      → Appends mid new (tick_text left (get_or ms i 0) from) → next ≡ tick_end left from
      → AreTicks (take (i + 1) ms) next old new
  one_tick ms i from next left old mid new lt before left_is one next_is =
      let m = get_or ms i 0 in
      let done = take i ms in
      let longer : take (i + 1) ms ≡ done ++ m ∷ [] = take_more ms i 0 lt in
      let place : tick_end left from ≡ tick_end (across p m) (end_of_ticks 0 done) =
      ap (λ (n : ℕ). tick_end n from) left_is ∙ ap (tick_end (across p m)) before.from_is in
      let text : tick_text left m from ≡ tick_text (across p m) m (end_of_ticks 0 done) =
      ap (λ (n : ℕ). tick_text n m from) left_is ∙ ap (tick_text (across p m) m) before.from_is in
      let now : AreTicks (done ++ m ∷ []) next old new = record {
        from_is = next_is ∙ place ∙ sym (end_more 0 done m);
        written = subst (λ (t : List ℕ). Appends old new t) (sym (ticks_more 0 done m))
            (Appends-trans old mid new (ticks_text p 0 done) (tick_text (across p m) m (end_of_ticks 0 done))
            before.written (subst (λ (t : List ℕ). Appends mid new t) text one));
      } in
      subst (λ (xs : List ℕ). AreTicks xs next old new) (sym longer) now

  pub segment_moved : (class name : List ℕ) (a b start end : ℕ) (old new : Option (List ℕ)) → a ≡ start → b ≡ end
      → Appends old new (segment_text p class name a b) → Appends old new (segment_text p class name start end)
  segment_moved class name a b start end old new from upto h =
      subst (λ (t : List ℕ). Appends old new t) (ap₂ (segment_text p class name) from upto) h

pub last_moved : {A E : Type 0} (r : Result A E) (p : Parameters) (class name : List ℕ) (a b start end : ℕ)
    (old new : Option (List ℕ)) → a ≡ start → b ≡ end
    → OnOk r (Appends old new (segment_text p class name a b))
    → OnOk r (Appends old new (segment_text p class name start end))
last_moved r p class name a b start end old new from upto h =
    subst (λ (t : List ℕ). OnOk r (Appends old new t)) (ap₂ (segment_text p class name) from upto) h
