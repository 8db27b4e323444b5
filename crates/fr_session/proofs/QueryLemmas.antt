-- Blocks, as they are written.
use Rattle.std.proofs.Common.{◌≡◌, ◌<◌, ℕ, true, List, length, Option, Result, refl, sym, subst, ◌∙◌, get_or}
use Rattle.std.proofs.Common.{inl, inr, ap, None, [], arith}
use Rattle.std.proofs.lemmas.Option.{slice_get_past}
use Rattle.std.specs.Option.{option_and_then}
use Rattle.std.proofs.lemmas.Bool.{lt-ltb}
use Rattle.std.proofs.lemmas.List.{get_or_default}
use Rattle.fr_core.specs.Worlds.{WorldState, has_node, interface_at, no_interface}
use Rattle.fr_interface.specs.State.{State, oldest_of, received_by, received_in}
use Rattle.fr_session.specs.Queries.{block_text, memory_text, IsBlock, IsBlockIf, IsBlockOf, Replies, node_text}
use Rattle.fr_journal.specs.Counts.{counters_of, counts_of}
use Rattle.fr_session.specs.Queries.{counters_on}
use Rattle.fr_slots.specs.declared.channel.Channel.{Channel}
use Rattle.fr_slots.specs.declared.channel.Channel.TheVariants.{A, B}
use Rattle.fr_text.specs.Writing.{Writes}
use Rattle.fr_trace.specs.ReportText.{counts_in}

-- a block of these lines
pub block_told : {W A E : Type 0} (contents : W → Option (List ℕ)) (old new : W) (result : Result A E)
    (lines items : List ℕ) → items ≡ lines → Writes contents old new result (block_text items)
    → Replies contents old new result (IsBlock lines)
block_told contents old new result lines items is told =
    (block_text lines, inl refl, subst (λ (l : List ℕ). Writes contents old new result (block_text l)) is told)

-- a block that an allocation failed for
pub memory_told : {W A E : Type 0} (contents : W → Option (List ℕ)) (old new : W) (result : Result A E)
    (lines : List ℕ) → Writes contents old new result memory_text → Replies contents old new result (IsBlock lines)
memory_told contents old new result lines told = (memory_text, inr refl, told)

-- a text that is such a reply
pub reply_told : {W A E : Type 0} (contents : W → Option (List ℕ)) (old new : W) (result : Result A E)
    (text : List ℕ) (IsReply : List ℕ → Type 0) → IsReply text → Writes contents old new result text
    → Replies contents old new result IsReply
reply_told contents old new result text IsReply holds told = (text, holds, told)

-- the block of a node that the cluster has
pub node_told : {W A E : Type 0} (contents : W → Option (List ℕ)) (old new : W) (result : Result A E)
    (text : State → List ℕ) (w : WorldState) (n : ℕ) (s : State) → n < length w.interfaces → s ≡ get_or w.interfaces n s
    → Replies contents old new result (IsBlock (text s)) → Replies contents old new result (IsBlockOf text w n)
node_told contents old new result text w n s within is told =
    let has : has_node w n ≡ true = lt-ltb n (length w.interfaces) within in
    let at : s ≡ interface_at w n = is ∙ get_or_default w.interfaces n s no_interface within in
    subst (λ b. Replies contents old new result (IsBlockIf b (text (interface_at w n)))) (sym has)
    (subst (λ (t : State). Replies contents old new result (IsBlock (text t))) at told)

-- the same text, told in another way
pub writes_so : {W A E : Type 0} (contents : W → Option (List ℕ)) (old new : W) (result : Result A E)
    (text other : List ℕ) → text ≡ other → Writes contents old new result text → Writes contents old new result other
writes_so contents old new result text other same told =
    subst (λ (t : List ℕ). Writes contents old new result t) same told

-- the counters of an interface are the counts of its journal
pub counts_same : (channel : Channel) (s : State)
    → counts_in (counters_on channel (counters_of s.params s.entries)) ≡ counts_of s.params channel s.entries
counts_same A s = refl
counts_same B s = refl

-- the line of a node that the cluster has
pub line_told : {W A E : Type 0} (contents : W → Option (List ℕ)) (old new : W) (result : Result A E)
    (text : State → List ℕ) (w : WorldState) (n : ℕ) (s : State) → n < length w.interfaces → s ≡ get_or w.interfaces n s
    → Writes contents old new result (text s) → Writes contents old new result (node_text text w n)
line_told contents old new result text w n s within is told =
    let has : has_node w n ≡ true = lt-ltb n (length w.interfaces) within in
    let at : s ≡ interface_at w n = is ∙ get_or_default w.interfaces n s no_interface within in
    rw has (subst (λ (t : State). Writes contents old new result (text t)) at told)

-- an interface without buffers and receive FIFO has no frame
pub none_held : (buffer : ℕ) → received_by no_interface buffer ≡ None
none_held buffer = ap (λ o. option_and_then (received_in no_interface) o) (slice_get_past [] buffer (omega arith))

pub none_oldest : oldest_of no_interface ≡ None
none_oldest = refl
