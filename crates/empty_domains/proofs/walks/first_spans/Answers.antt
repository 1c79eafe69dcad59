use Rattle.std.proofs.Common.{◌≡◌, ◌-◌, ◌++◌, ◌∷◌, ◌∙◌, [], ℕ, Vec, Global, ap, arith, get_or, map, refl, sym}
use Rattle.std.proofs.lemmas.Grind.{get_or_default_zero}
use Rattle.drawing.specs.Pieces.{piece_of, span_count}
use Rattle.obd_base.specs.Lists.{below}
use Rattle.region_table.proofs.ChordTables.{told_more}
use Rattle.region_table.proofs.NumberSteps.{first_piece, named_size, piece_new, piece_old, table_size}
use Rattle.empty_domains.proofs.LedMade.{some_span}
use Rattle.empty_domains.proofs.Made.{entry_at}
use Rattle.empty_domains.proofs.walks.first_spans.Goals as goal
use Rattle.empty_domains.proofs.walks.first_spans.Goals.{then-mate-at+in_ok-push-2, else-mate-at+in_ok-push-3}

pub loop-at-init : goal.loop-at-init
loop-at-init c =
    c.in_ok-push.ensures.items ∙ (ap (λ zs. zs ++ 0 ∷ []) c.new-firsts.ensures.items ∙ ap (λ n. n ∷ []) (sym (first_piece c.args.diagram.now c.requires.valid c.args.other.now c.requires.other)))

pub overflow_cast-at : goal.overflow_cast-at
overflow_cast-at c = omega (arith, table_size c.args.diagram.now c.requires.valid c.args.other.now c.requires.other, c.requires.few, c.loop-at-test.true, c.loop-at.auto)

pub index-first-requires : goal.index-first-requires
index-first-requires c = omega (arith, named_size (piece_of c.args.diagram.now) c.loop-at.at c.loop-at.firsts.items c.loop-at.invariant, c.if-mate-at.false, c.loop-at.firsts.ok)

pub loop-at-preserved : goal.loop-at-preserved
loop-at-preserved c =
    let d = c.args.diagram.now in
    let at = c.loop-at.at in
    let mate = get_or c.args.other.now (at - 1) 0 in
    elim c.if-mate-at.branch [
      | then-mate-at+in_ok-push-2 w ↦
          told_more (piece_of d) at at c.loop-at.firsts.items _ c.loop-at.invariant
          (sym (piece_new d c.requires.valid c.args.other.now c.requires.other at _ mate (omega (arith, c.loop-at.auto)) c.loop-at-test.true refl refl w.if-mate-at.true))
          (ap (λ (x : Vec ℕ Global). x.items) w.firsts-is ∙ w.in_ok-push-2.ensures.items)
      | else-mate-at+in_ok-push-3 w ↦
          told_more (piece_of d) at w.index-first.result.now c.loop-at.firsts.items _ c.loop-at.invariant
          (w.index-first.ensures ∙ (get_or_default_zero c.loop-at.firsts.items mate _ (omega (arith, named_size (piece_of d) at c.loop-at.firsts.items c.loop-at.invariant, w.if-mate-at.false))
          ∙ (entry_at (piece_of d) at c.loop-at.firsts.items c.loop-at.invariant mate (omega (arith, w.if-mate-at.false))
          ∙ sym (piece_old d c.requires.valid c.args.other.now c.requires.other at _ mate (omega (arith, c.loop-at.auto)) c.loop-at-test.true refl refl (omega (arith, w.if-mate-at.false))))))
          (ap (λ (x : Vec ℕ Global). x.items) w.firsts-is ∙ w.in_ok-push-3.ensures.items)
    ]

pub returns : goal.returns
returns c =
    let d = c.args.diagram.now in
    let n : c.loop-at.at ≡ span_count d = omega (arith, table_size d c.requires.valid c.args.other.now c.requires.other, some_span d c.requires.valid, c.loop-at-test.false, c.loop-at.auto) in
    c.loop-at.invariant ∙ ap (λ n. map (piece_of d) (below n)) n
