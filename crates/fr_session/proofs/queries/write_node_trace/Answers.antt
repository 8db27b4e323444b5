use Rattle.std.proofs.Common.{rules, ◌≡◌, ℕ, zero, suc, ◌<◌, Bool, true, List, [], ◌∷◌, length, refl, sym, subst}
use Rattle.std.proofs.Common.{arith, ◌∙◌}
use Rattle.std.proofs.lemmas.Bool.{ltb-true}
use Rattle.std.specs.Prelude.{slice_index_or}
use Rattle.fr_core.specs.Worlds.{has_node, interface_at, no_interface}
use Rattle.fr_interface.specs.State.{State}
use Rattle.fr_lines.specs.declared.versions.Version.TheVariants.{Three}
use Rattle.fr_session.specs.Queries.{IsBlock, IsBlockIf, Replies}
use Rattle.fr_trace.specs.TraceText.{trace_text}
use Rattle.fr_session.proofs.queries.write_node_trace.Goals as goal

-- a place within a list has the same item, whatever stands for those beyond
any_default : (xs : List State) (n : ℕ) (d e : State) → n < length xs → slice_index_or xs n d ≡ slice_index_or xs n e
any_default [] n d e within = absurd (let none : ⊥ = omega (arith, within) in none)
any_default (x ∷ xs) zero d e within = refl
any_default (x ∷ xs) (suc n) d e within = any_default xs n d e (omega (arith, within))

pub returns-then-place-interfaces : goal.returns-then-place-interfaces
returns-then-place-interfaces g c =
    let w = c.args.world.now in
    let n = c.args.node in
    let lent = c.index-interfaces-place.result in
    let there : has_node w n ≡ true = search rules in
    let within : n < length w.interfaces = ltb-true n (length w.interfaces) there in
    let place : c.from-place.result ≡ n = search rules in
    let items : c.interfaces-interfaces.result.now ≡ w.interfaces = c.interfaces-interfaces.ensures.value in
    let same : interface_at w n ≡ lent =
    any_default w.interfaces n no_interface lent within
    ∙ (λ i. slice_index_or (sym items i) (sym place i) lent) ∙ sym c.index-interfaces-place.is in
    subst (λ (b : Bool). Replies g.W.Write.contents c.args.writer.now c.write_trace_block.new.writer
    c.write_trace_block.result (IsBlockIf b (trace_text Three (interface_at w n)))) (sym there)
    (subst (λ (s : State). Replies g.W.Write.contents c.args.writer.now c.write_trace_block.new.writer
    c.write_trace_block.result (IsBlock (trace_text Three s))) (sym same) c.write_trace_block.ensures)
