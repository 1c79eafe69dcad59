use Rattle.std.proofs.Common.{sym, ap, ◌∙◌}
use Rattle.std.proofs.lemmas.Option.{same_Some}
use Rattle.page_surface.specs.Joining.{side}
use Rattle.page_surface.proofs.EmbeddedTest.{all_in}
use Rattle.arc_basis.proofs.Places.{map_more, mem_read}
use Rattle.curve_paths.specs.declared.crossing.Crossing.{Crossing}
use Rattle.curve_paths.specs.Paths.{crossing, is_known}
use Rattle.curve_paths.proofs.Numbers.{number_read, some_there}
use Rattle.curve_paths.proofs.crossing.numbered.Goals as goal

pub unwrap-label-requires : goal.unwrap-label-requires
unwrap-label-requires c =
    let known = all_in (is_known c.args.page.now) _ _ c.requires (mem_read _ _ _ c.loop-cross-test.true c.cross-item.is) in
    some_there _ _ (number_read c.args.page.now c.cross-item.result _ _ known c.as_str.ensures c.label.ensures)

pub loop-cross-preserved : goal.loop-cross-preserved
loop-cross-preserved c =
    let known = all_in (is_known c.args.page.now) _ _ c.requires (mem_read _ _ _ c.loop-cross-test.true c.cross-item.is) in
    let number = same_Some _ _ (sym c.unwrap-label.ensures ∙ number_read c.args.page.now c.cross-item.result _ _ known c.as_str.ensures c.label.ensures) in
    map_more (crossing c.args.page.now) _ _ _ _ _ _ c.loop-cross-test.true c.cross-item.is c.loop-cross.invariant c.in_ok-push.ensures.items
    (ap (λ n. let x : Crossing = record { side = side n c.cross-item.result.occurrence; place = c.cross-item.result.place } in x) number)
