-- The nodes of an outcome by kept data, one node more.
use Rattle.std.proofs.Common.{◌≡◌, ℕ, zero, suc, ◌+◌, ◌<◌, List, [], ◌∷◌, ◌++◌, length, get_or, Option, Some}
use Rattle.std.proofs.Common.{refl, subst, ◌∙◌, arith}
use Rattle.std.specs.Io.KnownBytes.{Appends}
use Rattle.std.specs.Prelude.{slice_get, slice_index_or, codes}
use Rattle.std.specs.Fmt.{decimal}
use Rattle.std.proofs.KnownBytes.{Appends-trans}
use Rattle.fr_core.specs.Worlds.{WorldState, interface_at, no_interface}
use Rattle.fr_endless.proofs.AlikeLemmas.{windows_same}
use Rattle.fr_endless.proofs.ReportLemmas.{node_same}
use Rattle.fr_endless.specs.Alike.{buffers_each}
use Rattle.fr_endless.specs.Answers.{kept_node, windows_by}
use Rattle.fr_files.proofs.NodeTextLemmas.{AreNodes, no_node, one_node, all_nodes}
use Rattle.fr_interface.specs.Standing.{Standing}
use Rattle.fr_interface.specs.State.{State}
use Rattle.fr_lines.specs.Spelling.{line_text}
use Rattle.fr_live.proofs.LeadLemmas.{as_many}
use Rattle.fr_live.specs.LiveWorlds.{LiveState, ForEachWorld, IsWorldHistory}
use Rattle.fr_outcome.specs.OutcomeText.{node_text, nodes_text, outcome_text, settled_text}

got_at : (ss : List State) (n : ℕ) → n < length ss → slice_get ss n ≡ Some (slice_index_or ss n no_interface)
got_at [] n lt = absurd (let none_is : ⊥ = omega (arith, lt) in none_is)
got_at (s ∷ ss) zero lt = refl
got_at (s ∷ ss) (suc n) lt = got_at ss n (omega (arith, lt))

-- the texts of so many nodes of each world have been written
abbrev pub AreKept : LiveState → ℕ → Option (List ℕ) → Option (List ℕ) → Type 0
AreKept l count old new = ForEachWorld l (λ w. AreNodes node_text w.interfaces count old new)

pub none_kept : (l : LiveState) (old : Option (List ℕ)) → AreKept l 0 old old
none_kept l old w is = no_node node_text w.interfaces old

pub one_kept : (l : LiveState) (n : ℕ) (h : Standing) (count : ℕ) (buffers : List ℕ) (old mid new : Option (List ℕ))
    → n < length l.interfaces → h ≡ get_or l.interfaces n h
    → ((w : WorldState) → IsWorldHistory l w → buffers ≡ buffers_each w.interfaces)
    → slice_get buffers n ≡ Some count → AreKept l n old mid → Appends mid new (kept_node n h count)
    → AreKept l (n + 1) old new
one_kept l n h count buffers old mid new lt at each got before more w is =
    let many = as_many l.interfaces w.interfaces is.leads.interfaces_are in
    let there : n < length w.interfaces = omega (arith, lt, many) in
    one_node node_text w.interfaces n (interface_at w n) old mid new (got_at w.interfaces n there) (before w is)
    (subst (λ (t : List ℕ). Appends mid new (line_text (codes "node" ∷ decimal n ∷ []) ++ t))
    (node_same l n h count buffers lt at each got w is) more)

pub all_kept : (l : LiveState) (count : ℕ) (old new : Option (List ℕ)) → AreKept l count old new
    → count ≡ length l.interfaces → ForEachWorld l (λ w. Appends old new (nodes_text w.interfaces))
all_kept l count old new are all w is =
    all_nodes node_text w.interfaces count old new (are w is)
    (omega (arith, all, as_many l.interfaces w.interfaces is.leads.interfaces_are))

pub outcome_kept : (l : LiveState) (windows : ℕ) (old mid new : Option (List ℕ)) → windows ≡ windows_by l.bus.last
    → ForEachWorld l (λ w. Appends old mid (nodes_text w.interfaces)) → Appends mid new (settled_text windows)
    → ForEachWorld l (λ w. Appends old new (outcome_text w.interfaces (length w.bus.sealed)))
outcome_kept l windows old mid new windows_are nodes settled w is =
    Appends-trans old mid new (nodes_text w.interfaces) (settled_text (length w.bus.sealed)) (nodes w is)
    (subst (λ (n : ℕ). Appends mid new (settled_text n)) (windows_are ∙ windows_same l w is) settled)
