-- The fault lines that are kept suit the cluster, the run and one another.
use Rattle.std.proofs.Common.{ℕ, zero, suc, true, false, List, [], ◌∷◌, ◌++◌, take, slice_get, inl, inr, refl, sym}
use Rattle.std.proofs.Common.{append_assoc, subst}
use Rattle.std.specs.Prelude.{Bool, IfSome, IsTrue}
use Rattle.fr_runs.specs.declared.fault_line.FaultLine.{FaultLine}
use Rattle.fr_runs.specs.Refusing.{EachFaultSuits}
use Rattle.fr_runs.specs.Suiting.{IsFaultAfter}
use Rattle.fr_schedule.specs.Descriptions.{Description}
use Rattle.fr_session.specs.Keeping.{AreFaultsAfter, KeepsBoth, KeepsIf, KeepsLine}

-- a fact of each element and those before it, if it holds of the last element
each_more : {X : Type 0} (P : List X → X → Type 0) (xs : List X) (last : X) (i : ℕ)
    → ((j : ℕ) → IfSome (slice_get xs j) (P (take j xs))) → P xs last
    → IfSome (slice_get (xs ++ last ∷ []) i) (P (take i (xs ++ last ∷ [])))
each_more P [] last zero all here = here
each_more P [] last (suc i) all here = tt
each_more P (x ∷ xs) last zero all here = all 0
each_more P (x ∷ xs) last (suc i) all here = each_more (λ before. P (x ∷ before)) xs last i (λ j. all (suc j)) here

pub kept_suit : (d : Description) (cycles : ℕ) (old : List FaultLine) (line : FaultLine) (reply : List ℕ)
    (new : List FaultLine) → EachFaultSuits d cycles old
    → KeepsLine d cycles old line reply new → EachFaultSuits d cycles new
kept_suit d cycles old line reply new all keeps = by keeps.0 keeps.1.0 keeps.2
  where
    by : (suits : Bool) → (IsTrue suits → IsFaultAfter d cycles old line) → KeepsIf suits old (line ∷ []) reply new
        → EachFaultSuits d cycles new
    by true fits (inl kept) =
        subst (EachFaultSuits d cycles) (sym kept.1) (λ i. each_more (IsFaultAfter d cycles) old line i all (fits refl))
    by true fits (inr refused) = subst (EachFaultSuits d cycles) (sym refused.1) all
    by false fits refused = subst (EachFaultSuits d cycles) (sym refused.1) all

pub both_suit : (d : Description) (cycles : ℕ) (old : List FaultLine) (a b : FaultLine) (reply : List ℕ)
    (new : List FaultLine) → EachFaultSuits d cycles old
    → KeepsBoth d cycles old a b reply new → EachFaultSuits d cycles new
both_suit d cycles old a b reply new all keeps = by keeps.0 keeps.1.0 keeps.2
  where
    both : AreFaultsAfter d cycles old a b → EachFaultSuits d cycles (old ++ a ∷ b ∷ [])
    both suit =
        let one : EachFaultSuits d cycles (old ++ a ∷ []) = λ i. each_more (IsFaultAfter d cycles) old a i all suit.0 in
        subst (EachFaultSuits d cycles) (append_assoc old (a ∷ []) (b ∷ []))
        (λ i. each_more (IsFaultAfter d cycles) (old ++ a ∷ []) b i one suit.1)

    by : (suit : Bool) → (IsTrue suit → AreFaultsAfter d cycles old a b) → KeepsIf suit old (a ∷ b ∷ []) reply new
        → EachFaultSuits d cycles new
    by true fits (inl kept) = subst (EachFaultSuits d cycles) (sym kept.1) (both (fits refl))
    by true fits (inr refused) = subst (EachFaultSuits d cycles) (sym refused.1) all
    by false fits refused = subst (EachFaultSuits d cycles) (sym refused.1) all
