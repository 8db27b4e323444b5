use Rattle.std.proofs.Common.{◌≡◌, Bool, true, false, refl, sym, ◌∙◌, ◌&&◌, ◌||◌, List, [], ◌∷◌, arith, cond, subst}
use Rattle.std.specs.List.{list_any}
use Rattle.std.specs.HashSet.{HashSet, contains, contains_by}
use Rattle.fr_session.specs.declared.marks.Target.{Target}
use Rattle.fr_session.specs.declared.marks.Target.TheVariants as target
use Rattle.fr_session.specs.declared.marks.Reach.{Reach}
use Rattle.fr_session.specs.declared.marks.Reach.TheVariants as reach
use Rattle.fr_session.specs.declared.marks.Mark.{Mark}
use Rattle.fr_session.specs.contracts.marks.MarkPartialEq.TheImpl as derived
use Rattle.fr_session.specs.contracts.marks.ReachPartialEq.TheImpl as derived_reach
use Rattle.fr_session.specs.contracts.marks.TargetPartialEq.TheImpl as derived_target
use Rattle.fr_session.specs.Marks.{mark_eq, reach_eq, target_eq, is_same, at, leaves}
use mathlib.Core.Bool.{beq}

pub reach_same : (a b : Reach) → derived_reach.eq-value.it a b ≡ reach_eq a b
reach_same reach.Every reach.Every = refl
reach_same reach.Every (reach.Only n) = refl
reach_same reach.Every reach.Any = refl
reach_same (reach.Only n) reach.Every = refl
reach_same (reach.Only n) (reach.Only m) = grind arith
reach_same (reach.Only n) reach.Any = refl
reach_same reach.Any reach.Every = refl
reach_same reach.Any (reach.Only m) = refl
reach_same reach.Any reach.Any = refl

flag_same : (a b : Bool) → beq a b ≡ is_same a b
flag_same true true = refl
flag_same true false = refl
flag_same false true = refl
flag_same false false = refl

both : (a b c d : Bool) → a ≡ b → c ≡ d → (a && c) ≡ (b && d)
both a b c d one other = grind (arith, one, other)

pub target_same : (a b : Target) → derived_target.eq-value.it a b ≡ target_eq a b
target_same (target.Babble n b) (target.Babble m c) = both _ _ _ _ (grind arith) (flag_same b c)
target_same (target.Babble n b) (target.Mute m c) = refl
target_same (target.Babble n b) (target.Corrupt c) = refl
target_same (target.Mute n b) (target.Babble m c) = refl
target_same (target.Mute n b) (target.Mute m c) = both _ _ _ _ (grind arith) (flag_same b c)
target_same (target.Mute n b) (target.Corrupt c) = refl
target_same (target.Corrupt b) (target.Babble m c) = refl
target_same (target.Corrupt b) (target.Mute m c) = refl
target_same (target.Corrupt b) (target.Corrupt c) = flag_same b c

pub mark_same : (a b : Mark) → derived.eq-value.it a b ≡ mark_eq a b
mark_same a b = both _ _ _ _ (target_same a.target b.target) (both _ _ _ _ (flag_same a.in_static b.in_static)
    (both _ _ _ _ (reach_same a.cycles b.cycles) (reach_same a.places b.places)))

pub list_any_same : {X : Type 0} (f g : X → Bool) → ((x : X) → f x ≡ g x) → (xs : List X)
    → list_any f xs ≡ list_any g xs
list_any_same f g same [] = refl
list_any_same f g same (x ∷ xs) = let here = same x in let later =
    list_any_same f g same xs in grind (arith, here, later)

pub has_same : {S : Type 0} (set : HashSet Mark S) (m : Mark)
    → contains_by (derived.eq-value.it m) set ≡ contains mark_eq set m
has_same set m = list_any_same _ _ (mark_same m) set.keys

pub same_or : (a b c d : Bool) → a ≡ b → c ≡ d → cond a true c ≡ (b || d)
same_or a b c d one other = grind (arith, one, other)

pub added : {S : Type 0} (old new : HashSet Mark S) (k : Mark)
    → ((q : Mark) → contains derived.eq-value.it new q ≡ cond (derived.eq-value.it k q) true
    (contains derived.eq-value.it old q))
    → (m : Mark) → contains mark_eq new m ≡ (mark_eq k m || contains mark_eq old m)
added old new k updates m = sym (has_same new m) ∙ updates m ∙ same_or _ _ _ _ (mark_same k m) (has_same old m)

table : (t f ca c pa p had : Bool)
    → ((t && (f && (ca && pa))) || ((t && (f && (c && pa))) ||
    ((t && (f && (ca && p))) || ((t && (f && (c && p))) || had))))
    ≡ ((t && (f && ((ca || c) && (pa || p)))) || had)
table false f ca c pa p had = refl
table true false ca c pa p had = refl
table true true true true true true had = refl
table true true true true true false had = refl
table true true true true false true had = refl
table true true true true false false had = refl
table true true true false true true had = refl
table true true true false true false had = refl
table true true true false false true had = refl
table true true true false false false had = refl
table true true false true true true had = refl
table true true false true true false had = refl
table true true false true false true had = refl
table true true false true false false had = refl
table true true false false pa p had = refl

-- the four marks of a line are those that it leaves
pub left : (own k2 k3 k4 m : Mark) (p q r s had : Bool) → k2 ≡ at own reach.Any own.places
    → k3 ≡ at own own.cycles reach.Any → k4 ≡ at own reach.Any reach.Any
    → s ≡ (mark_eq own m || had) → r ≡ (mark_eq k2 m || s) → q ≡ (mark_eq k3 m || r) → p ≡ (mark_eq k4 m || q)
    → p ≡ (leaves own m || had)
left own k2 k3 k4 m p q r s had is2 is3 is4 one two three four =
    let all = table (target_eq own.target m.target) (is_same own.in_static m.in_static) (reach_eq reach.Any m.cycles)
    (reach_eq own.cycles m.cycles) (reach_eq reach.Any m.places) (reach_eq own.places m.places) had in
    let by2 = subst (λ k. r ≡ (mark_eq k m || s)) is2 two in
    let by3 = subst (λ k. q ≡ (mark_eq k m || r)) is3 three in
    let by4 = subst (λ k. p ≡ (mark_eq k m || q)) is4 four in
    grind (arith, one, by2, by3, by4, all)
