use Rattle.std.proofs.Common.{◌∙◌, ap, arith, length}
use Rattle.page_surface.specs.Drawing.{exit}
use Rattle.dehn_twist.specs.Surgery.{leaving_exit}
use Rattle.dehn_twist.proofs.RingTables.{next_less}
use Rattle.dehn_twist.proofs.ring.chord_at.Goals as goal

pub returns-else-leaves-exits-clause-inside : goal.returns-else-leaves-exits-clause-inside
returns-else-leaves-exits-clause-inside c =
    next_less _ _ c.curve-exits.ensures.taken (exit c.args.side c.args.place) (c.requires.side, c.requires.place) _ _ _ _ (ap length c.curve-exits.ensures.value) (c.leaving-leaves.ensures ∙ ap (λ es. leaving_exit es (exit c.args.side c.args.place)) c.curve-exits.ensures.value) c.if-leaves-exits.false c.entering.ensures.value c.next.ensures

pub returns-else-leaves-exits-clause-few : goal.returns-else-leaves-exits-clause-few
returns-else-leaves-exits-clause-few c =
    let l = next_less _ _ c.curve-exits.ensures.taken (exit c.args.side c.args.place) (c.requires.side, c.requires.place) _ _ _ _ (ap length c.curve-exits.ensures.value) (c.leaving-leaves.ensures ∙ ap (λ es. leaving_exit es (exit c.args.side c.args.place)) c.curve-exits.ensures.value) c.if-leaves-exits.false c.entering.ensures.value c.next.ensures in
    omega (arith, l, c.curve-exits.ensures.taken.few_exits)
