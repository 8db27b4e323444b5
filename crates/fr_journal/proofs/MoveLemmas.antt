-- The moves of a receive FIFO, with one more entry.
use Rattle.std.proofs.Common.{◌≡◌, List, [], ◌∷◌, ◌++◌, refl, ap}
use Rattle.fr_journal.specs.Arrivals.{Move, arrives, pops, arrive_all, moves_at, moves, arrived}
use Rattle.fr_journal.specs.declared.entry.Arrival.{Arrival}
use Rattle.fr_journal.specs.Forms.{Entry}
use Rattle.fr_slots.specs.declared.plan.Queue.{Queue}
use Rattle.fr_slots.specs.Parameters.{Parameters}
use Rattle.fr_slots.specs.Plans.{Plan}
use Rattle.fr_slots.proofs.HistoryLemmas.{each_after-snoc}

pub moves-snoc : (params : Parameters) (plan : Plan) (q : Queue) (xs : List Entry) (e : Entry)
    → moves params plan q (xs ++ e ∷ []) ≡ moves params plan q xs ++ moves_at params plan q xs e
moves-snoc params plan q xs e = each_after-snoc (moves_at params plan q) xs e

pub arrived-append : (xs ys : List Move) → arrived (xs ++ ys) ≡ arrived xs ++ arrived ys
arrived-append [] ys = refl
arrived-append (arrives a ∷ xs) ys = ap (λ (l : List Arrival). a ∷ l) (arrived-append xs ys)
arrived-append (pops ∷ xs) ys = arrived-append xs ys

pub arrive_all-append : (xs ys : List Arrival) → arrive_all (xs ++ ys) ≡ arrive_all xs ++ arrive_all ys
arrive_all-append [] ys = refl
arrive_all-append (a ∷ xs) ys = ap (λ (l : List Move). arrives a ∷ l) (arrive_all-append xs ys)

pub arrived-all : (xs : List Arrival) → arrived (arrive_all xs) ≡ xs
arrived-all [] = refl
arrived-all (a ∷ xs) = ap (λ (l : List Arrival). a ∷ l) (arrived-all xs)
