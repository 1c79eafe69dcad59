use Rattle.std.proofs.Common.{◌≡◌, ◌<◌, ◌∙◌, length, ap, subst, sym, arith}
use Rattle.std.proofs.lemmas.List.{get_or_read}
use Rattle.page_surface.specs.Drawing.{exit as point}
use Rattle.page_surface.specs.Polygon.{sides}
use Rattle.curve_paths.specs.Curves.{curve_points, exit_at}
use Rattle.obd_base.specs.declared.points.Exit.{Exit}
use Rattle.handle_slide.specs.Carried.{Carried, IsSliding}
use Rattle.handle_slide.proofs.CarriedTables.{exit_range}
use Rattle.handle_slide.proofs.carried.Carried.exit.Goals as goal

pub returns-clause-side : goal.returns-clause-side
returns-clause-side c =
    let l : c.args.at < length c.self.inside.exits.now = omega (arith, c.requires, ap (λ (w : Carried). length w.exits) c.self.view_is) in
    let v : c.index-exits-at.result ≡ exit_at c.args.self.now.exits c.args.at
    = get_or_read c.self.inside.exits.now c.args.at c.index-exits-at.result l c.index-exits-at.is (point 0 0) ∙ ap (λ (w : Carried). exit_at w.exits c.args.at) c.self.view_is in
    subst (λ (e : Exit). e.side < sides c.args.self.now.polygon) (sym v) (exit_range c.args.self.now (subst IsSliding c.self.view_is c.self.invariant.sliding) c.args.at c.requires).0

pub returns-clause-place : goal.returns-clause-place
returns-clause-place c =
    let l : c.args.at < length c.self.inside.exits.now = omega (arith, c.requires, ap (λ (w : Carried). length w.exits) c.self.view_is) in
    let v : c.index-exits-at.result ≡ exit_at c.args.self.now.exits c.args.at
    = get_or_read c.self.inside.exits.now c.args.at c.index-exits-at.result l c.index-exits-at.is (point 0 0) ∙ ap (λ (w : Carried). exit_at w.exits c.args.at) c.self.view_is in
    subst (λ (e : Exit). e.place < curve_points c.args.self.now.polygon c.args.self.now.exits e.side) (sym v)
    (exit_range c.args.self.now (subst IsSliding c.self.view_is c.self.invariant.sliding) c.args.at c.requires).1
