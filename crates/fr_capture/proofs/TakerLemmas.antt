-- The receivers of a frame and their words, step by step.
use Rattle.std.proofs.Common.{◌≡◌, ℕ, ◌+◌, Bool, true, false, cond, ◌||◌, List, [], ◌∷◌, ◌++◌, Option, Some, None}
use Rattle.std.proofs.Common.{Result, Ok, Err, refl, sym, ap, subst, ◌∙◌}
use Rattle.std.specs.Prelude.{codes, is_some, IfOk, OnOk}
use Rattle.std.specs.Io.KnownBytes.{Appends}
use Rattle.std.proofs.KnownBytes.{Appends-trans, Appends-nil}
use Rattle.std.proofs.lemmas.List.{append_assoc}
use Rattle.fr_capture.specs.declared.takers.Taker.{Taker}
use Rattle.fr_capture.specs.Takers.{after_commas, buffers_from, taker_if, taker_word, takers_of, takers_word}
use Rattle.fr_capture.specs.TakerSteps.{buffers_by, is_any, takers_by}
use Rattle.fr_capture.proofs.TakingLemmas.{queue_is, takes_is}
use Rattle.fr_frame.specs.Fields.{Fields}
use Rattle.fr_journal.specs.Held.{data_frame_seen}
use Rattle.fr_slots.specs.declared.channel.Channel.{Channel}
use Rattle.fr_slots.specs.declared.channel.Channel.TheVariants.{A, B}
use Rattle.fr_slots.specs.declared.plan.Buffer.{Buffer}
use Rattle.fr_slots.specs.Parameters.{Parameters}
use Rattle.fr_slots.specs.Plans.{Plan}
use Rattle.fr_slots.specs.Windows.{Opportunity}
use Rattle.fr_status.specs.Forms.{Seen}

-- ---- commas

pub commas-append : (any : Bool) (xs ys : List Taker) → after_commas any (xs ++ ys) ≡ after_commas any xs ++
    after_commas (any || is_any xs) ys
unfolding after_commas
commas-append true [] ys = refl
commas-append false [] ys = refl
commas-append any (x ∷ xs) ys =
    let front : List ℕ = cond any (codes ",") [] ++ taker_word x in
    ap (λ (t : List ℕ). front ++ t) (commas-append true xs ys)
    ∙ ap (λ (b : Bool). front ++ (after_commas true xs ++ after_commas b ys)) (sym (with_one any))
    ∙ sym (append_assoc front (after_commas true xs) (after_commas (any || true) ys))
  where
    with_one : (b : Bool) → (b || true) ≡ true
    with_one true = refl
    with_one false = refl

or_assoc : (a b c : Bool) → (a || (b || c)) ≡ ((a || b) || c)
or_assoc true b c = refl
or_assoc false b c = refl

or_none : (b : Bool) → (b || false) ≡ b
or_none true = refl
or_none false = refl

pub any-append : (xs ys : List Taker) → is_any (xs ++ ys) ≡ (is_any xs || is_any ys)
any-append [] ys = refl
any-append (x ∷ xs) ys = refl

-- once the receivers that are left are written, all are written
pub record IsGoing (first : Bool) (all : List Taker) (old now : Option (List ℕ)) (any : Bool)
    (left : List Taker) : Type 0 where
  pub then_all : (new : Option (List ℕ)) → Appends now new (after_commas any left)
      → Appends old new (after_commas first all)
  pub same_any : (any || is_any left) ≡ (first || is_any all)

pub starts : (first : Bool) (all : List Taker) (old : Option (List ℕ)) → IsGoing first all old old first all
starts first all old = record { then_all = λ new more. more; same_any = refl }

pub goes_on : (first : Bool) (all : List Taker) (old now mid : Option (List ℕ)) (any then : Bool)
    (left part rest : List Taker) → left ≡ part ++ rest
    → Appends now mid (after_commas any part) → then ≡ (any || is_any part) → IsGoing first all old now any left
    → IsGoing first all old mid then rest
goes_on first all old now mid any then left part rest cut one then_is so_far = record {
  then_all = λ new more.
      so_far.then_all new (
      subst (λ (t : List ℕ). Appends now new t) (sym (ap (after_commas any) cut ∙ commas-append any part rest))
      (Appends-trans now mid new (after_commas any part) (after_commas (any || is_any part) rest) one
      (subst (λ (b : Bool). Appends mid new (after_commas b rest)) then_is more)));
  same_any =
      ap (λ (b : Bool). b || is_any rest) then_is ∙ sym (or_assoc any (is_any part) (is_any rest)) ∙ ap
      (λ (b : Bool). any || b) (sym (ap is_any cut ∙ any-append part rest))
      ∙ so_far.same_any;
}

pub ends_text : (first : Bool) (all : List Taker) (old now : Option (List ℕ)) (any : Bool) (left : List Taker)
    → left ≡ [] → IsGoing first all old now any left
    → Appends old now (after_commas first all)
unfolding after_commas
ends_text first all old now any left none so_far =
    so_far.then_all now (subst (λ (l : List Taker). Appends now now (after_commas any l)) (sym none) (Appends-nil now))

pub ends_any : (first : Bool) (all : List Taker) (old now : Option (List ℕ)) (any : Bool) (left : List Taker)
    → left ≡ [] → IsGoing first all old now any left
    → any ≡ (first || is_any all)
ends_any first all old now any left none so_far =
    sym (or_none any) ∙ ap (λ (l : List Taker). any || is_any l) (sym none) ∙ so_far.same_any

-- ---- two parts

pub after_both : {E : Type 0} (r : Result Bool E) (any then : Bool) (old mid new : Option (List ℕ)) (xs ys : List Taker)
    → Appends old mid (after_commas any xs)
    → then ≡ (any || is_any xs) → OnOk r (Appends mid new (after_commas then ys))
    → OnOk r (Appends old new (after_commas any (xs ++ ys)))
after_both (Ok x) any then old mid new xs ys one then_is two =
    subst (λ (t : List ℕ). Appends old new t) (sym (commas-append any xs ys))
    (Appends-trans old mid new (after_commas any xs) (after_commas (any || is_any xs) ys) one
    (subst (λ (b : Bool). Appends mid new (after_commas b ys)) then_is two))
after_both (Err e) any then old mid new xs ys one then_is two = tt

any_both : (any then : Bool) (xs ys : List Taker) → then ≡ (any || is_any xs)
    → (then || is_any ys) ≡ (any || is_any (xs ++ ys))
any_both any then xs ys then_is =
    ap (λ (b : Bool). b || is_any ys) then_is ∙ sym (or_assoc any (is_any xs) (is_any ys)) ∙ ap (λ (b : Bool). any || b)
    (sym (any-append xs ys))

-- ---- the words of all receivers

pub word_is : (ts : List Taker) → is_any ts ≡ true → after_commas false ts ≡ takers_word ts
word_is [] is = absurd cc
word_is (t ∷ ts) is = refl

pub no_word : (ts : List Taker) → is_any ts ≡ false → (after_commas false ts ++ codes "-") ≡ takers_word ts
unfolding after_commas
no_word [] is = refl
no_word (t ∷ ts) is = absurd cc

module _ (p : Parameters) (w : Opportunity) (a b : Seen) where
  abbrev on_a : Option Fields
  on_a = data_frame_seen p w A a

  abbrev on_b : Option Fields
  on_b = data_frame_seen p w B b

  buffers_is : (channel : Channel) (which : Option ℕ) (number : ℕ) (lines : List Buffer)
      → buffers_by w (is_some on_a) (is_some on_b) channel which number lines
      ≡ buffers_from p w a b channel which number lines
  buffers_is channel which number [] = refl
  buffers_is channel which number (line ∷ lines) =
      λ i. taker_if (takes_is p w a b channel line i) which (Some number)
      ++ buffers_is channel which (number + 1) lines i

module _ (p : Parameters) (plan : Plan) (w : Opportunity) (a b : Seen) where
  -- the receivers, if it is known whether data frames came
  pub takers_is : (came_a came_b : Bool) → came_a ≡ is_some (data_frame_seen p w A a)
      → came_b ≡ is_some (data_frame_seen p w B b) → (channel : Channel) (node : Option ℕ)
      → takers_by plan w came_a came_b channel node ≡ takers_of p plan w a b channel node
  takers_is came_a came_b a_is b_is channel node =
      (λ i. takers_by plan w (a_is i) (b_is i) channel node)
      ∙ (λ i. buffers_is p w a b channel node 0 plan.buffers i ++ taker_if
      (queue_is p w a b plan channel plan.queue i) node None)

-- ---- the results

pub any_answered : {E : Type 0} (r : Result Bool E) (any then : Bool) (xs ys ts : List Taker) →
    then ≡ (any || is_any xs) → (xs ++ ys) ≡ ts
    → IfOk r (λ now. now ≡ (then || is_any ys)) → IfOk r (λ now. now ≡ (any || is_any ts))
any_answered (Ok x) any then xs ys ts then_is all is = is ∙ any_both any then
    xs ys then_is ∙ ap (λ (l : List Taker). any || is_any l) all
any_answered (Err e) any then xs ys ts then_is all is = tt
