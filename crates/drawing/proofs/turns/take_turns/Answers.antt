use Rattle.std.proofs.Common.{ap, arith, false, sym}
use Rattle.page_surface.specs.Polygon.{sides}
use Rattle.drawing.specs.ThinTables.{is_gone}
use Rattle.drawing.proofs.Thinned.{turns_gone_none, turns_gone_same}
use Rattle.drawing.proofs.TurnTables.{no_turn_strands, no_turn_tight}
use Rattle.drawing.proofs.turns.take_turns.Goals as goal

pub loop-strand-init : goal.loop-strand-init
loop-strand-init c =
    let d = c.args.layout.now.drawing in
    record {
      taken = turns_gone_same d c.requires.embedded (λ x. false) (is_gone c.args.gone.now) 0 (λ x l. sym (c.requires.clear x)) (turns_gone_none d c.requires.embedded);
      none = λ z i l. absurd (omega (arith, l));
    }

pub loop-strand-preserved : goal.loop-strand-preserved
loop-strand-preserved c = record {
  taken = c.take_strand-turns.ensures.taken;
  none = λ z. no_turn_strands c.args.layout.now.drawing _ _ c.new.ensures (c.loop-strand.invariant.none (omega (arith, z, c.take_strand-turns.ensures.more))) (c.take_strand-turns.ensures.none z);
}

pub returns-clause-tight : goal.returns-clause-tight
returns-clause-tight c = λ z.
    let arcs = ap sides c.polygon.ensures.value in
    no_turn_tight c.args.layout.now.drawing c.requires.embedded (λ i l. c.loop-strand.invariant.none z i (omega (arith, l, c.loop-strand-test.false, c.sides-strand-end.ensures.value, arcs)))
