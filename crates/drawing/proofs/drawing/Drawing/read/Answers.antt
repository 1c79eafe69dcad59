use Rattle.std.proofs.Common.{◌≡◌, ◌∙◌, ap₂, map, rules, sym, subst, false}
use Rattle.page_surface.specs.Drawing.{Drawing, HasRightPlaces, IsPlaced, chords, no_two_cross}
use Rattle.drawing.specs.Layout.{drawn}
use Rattle.drawing.proofs.Laws.{always_cut}
use Rattle.drawing.proofs.SweepTables.{written_placed}
use Rattle.drawing.proofs.drawing.Drawing.read.Goals as goal

pub returns-then-not-branch-clause-refused : goal.returns-then-not-branch-clause-refused
returns-then-not-branch-clause-refused c =
    let right : HasRightPlaces c.in_ok-layout.layout.drawing = rw c.in_default.is at c.in_ok-side.ensures.right in
    let placed : IsPlaced c.in_ok-layout.layout.drawing = written_placed _ c.polygon.ensures.written right in
    let cross : no_two_cross (chords c.in_ok-layout.layout.drawing) ≡ false = sym c.in_ok-is_uncrossed.ensures ∙ c.if-not-branch.true in
    let is = c.in_ok-layout.ensures.drawing ∙ ap₂ drawn c.in_ok-copy.ensures c.in_ok-copied.ensures in
    subst (λ (d : Drawing). IsPlaced d × (no_two_cross (chords d) ≡ false)) is (placed, cross)

pub returns-clause-cut : goal.returns-clause-cut
returns-clause-cut c = always_cut (drawn c.args.polygon.now (map (λ s. s.items) c.args.strands.now)) (search rules)
