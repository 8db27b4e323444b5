use Rattle.std.proofs.Common.{◌≡◌, ℕ, ◌-◌, ◌++◌, ◌∷◌, [], List, true, false, sym, ap, ◌∙◌, subst, arith}
use Rattle.std.proofs.Common.{append-nil, append_assoc, Result, Ok, Err}
use Rattle.std.specs.List.{list_any}
use Rattle.std.specs.Prelude.{OnOk}
use Rattle.fr_slots.specs.Parameters.{Parameters}
use Rattle.fr_latency.specs.declared.way.Frame.{Frame}
use Rattle.fr_latency.specs.Marks.{IsFrameInto}
use Rattle.fr_latency.specs.Openings.{can_begin, follows_node, slot_after}
use Rattle.fr_latency.specs.Ways.{IsWay}
use Rattle.fr_latency.proofs.WayLemmas.{marks_there, no_slots, no_way, way_sent, way_silent, begins_late}
use Rattle.fr_latency.proofs.way.+append_way.Goals as goal

on_ok : {T E A B : Type 0} (r : Result T E) → (A → B) → OnOk r A → OnOk r B
on_ok (Ok x) f a = f a
on_ok (Err e) f a = tt

pub returns-then-earlier-eq0 : goal.returns-then-earlier-eq0
returns-then-earlier-eq0 t c =
    let d = c.args.cluster.now in
    let first = subst (λ (n : ℕ). can_begin d c.args.channel c.args.cycle n c.args.minislot
    ≡ true) c.if-earlier-eq0.true
    c.requires.begins in (
      [],
      subst (λ (n : ℕ). IsWay d c.args.channel c.args.cycle n c.args.minislot []) (sym c.if-earlier-eq0.true)
          (no_slots d c.args.channel c.args.cycle c.args.minislot first),
      sym (append-nil c.args.frames.now.items),
    )

pub append_way-requires : goal.append_way-requires
append_way-requires t c =
    let d = c.args.cluster.now in
    let at : c.from.result ≡ c.args.earlier - 1 = omega arith in
    let marks = marks_there d c.args.channel c.args.cycle c.requires.marks.0 c.args.history.now (c.args.earlier - 1)
    c.from.result c.index-history-from.result c.as_slice-marks.result.now c.requires.marks.1 at (omega arith)
    c.index-history-from.is c.as_slice-marks.ensures.value in (
      omega arith,
      (
        c.requires.marks,
        (
          omega arith,
          (
            omega arith,
            sym (c.begins_at.ensures (can_begin d c.args.channel c.args.cycle (c.args.earlier - 1)) marks)
                ∙ c.if-begins_at.true,
          ),
        ),
      ),
    )

pub returns-then-begins_at : goal.returns-then-begins_at
returns-then-begins_at t c =
    let d = c.args.cluster.now in
    let late = begins_late d c.args.channel c.args.cycle c.args.earlier c.args.minislot c.params.ensures.lawful
    c.requires.begins in
    let silent : c.saturating_sub-silent.result ≡ c.args.minislot - 1 = omega arith in
    on_ok c.append_way.result
    (λ (w : (way : List Frame)
    × IsWay d c.args.channel c.args.cycle (c.args.earlier - 1) c.saturating_sub-silent.result way
    × (c.append_way.new.frames.items ≡ c.args.frames.now.items ++ way)). (
      w.0,
      way_silent d c.args.channel c.args.cycle c.args.earlier c.args.minislot w.0 (omega arith) (omega (arith, late))
          (subst (λ (n : ℕ). IsWay d c.args.channel c.args.cycle (c.args.earlier - 1) n w.0) silent w.1),
      w.2,
    )) c.append_way.ensures

pub append_way-requires-in-Some : goal.append_way-requires-in-Some
append_way-requires-in-Some t c =
    let d = c.args.cluster.now in
    let at : c.from.result ≡ c.args.earlier - 1 = omega arith in
    let marks = marks_there d c.args.channel c.args.cycle c.requires.marks.0 c.args.history.now (c.args.earlier - 1)
    c.from.result c.index-history-from.result c.as_slice-marks.result.now c.requires.marks.1 at (omega arith)
    c.index-history-from.is c.as_slice-marks.ensures.value in
    let into = c.in-Some.ensures.found (can_begin d c.args.channel c.args.cycle (c.args.earlier - 1)) marks in
    (omega arith, (c.requires.marks, (omega arith, (omega arith, into.begins))))

pub returns-in_ok-push-in-Some : goal.returns-in_ok-push-in-Some
returns-in_ok-push-in-Some t c =
    let d = c.args.cluster.now in
    let at : c.from.result ≡ c.args.earlier - 1 = omega arith in
    let test = can_begin d c.args.channel c.args.cycle (c.args.earlier - 1) in
    let marks = marks_there d c.args.channel c.args.cycle c.requires.marks.0 c.args.history.now (c.args.earlier - 1)
    c.from.result c.index-history-from.result c.as_slice-marks.result.now c.requires.marks.1 at (omega arith)
    c.index-history-from.is c.as_slice-marks.ensures.value in
    let slot : c.slot_after.result ≡ slot_after d.params (c.args.earlier - 1) = c.slot_after.ensures
    ∙ ap (λ (p : Parameters). slot_after p (c.args.earlier - 1)) c.params.ensures.value in
    let frame = c.in-Some.frame in
    let into = subst (λ (s : ℕ). IsFrameInto d c.args.channel c.args.cycle s test c.args.minislot frame) slot
    (c.in-Some.ensures.found test marks) in
    let before = c.in_ok-append_way-in-Some.ensures in (
      before.0 ++ frame ∷ [],
      way_sent d c.args.channel c.args.cycle c.args.earlier c.args.minislot before.0 frame (omega arith) into before.1,
      c.in_ok-push-in-Some.ensures.items ∙ ap (λ (xs : List Frame). xs ++ frame ∷ []) before.2
          ∙ append_assoc c.args.frames.now.items before.0 (frame ∷ []),
    )

pub returns-in-None : goal.returns-in-None
returns-in-None t c =
    let d = c.args.cluster.now in
    let at : c.from.result ≡ c.args.earlier - 1 = omega arith in
    let test = can_begin d c.args.channel c.args.cycle (c.args.earlier - 1) in
    let marks = marks_there d c.args.channel c.args.cycle c.requires.marks.0 c.args.history.now (c.args.earlier - 1)
    c.from.result c.index-history-from.result c.as_slice-marks.result.now c.requires.marks.1 at (omega arith)
    c.index-history-from.is c.as_slice-marks.ensures.value in
    let slot : c.slot_after.result ≡ slot_after d.params (c.args.earlier - 1) = c.slot_after.ensures
    ∙ ap (λ (p : Parameters). slot_after p (c.args.earlier - 1)) c.params.ensures.value in
    let less : c.saturating_sub-silent.result ≡ c.args.minislot - 1 = omega arith in
    let silent : test (c.args.minislot - 1) ≡ false =
    ap test (sym less) ∙ sym (c.begins_at.ensures test marks) ∙ c.if-begins_at.false in
    let sent = subst (λ (s : ℕ). list_any (follows_node d.params s c.args.channel c.args.cycle test c.args.minislot)
    d.plans ≡ false) slot (c.in-None.ensures.none test marks) in
    absurd (no_way d c.args.channel c.args.cycle c.args.earlier c.args.minislot (omega arith) c.requires.begins silent
    sent)
