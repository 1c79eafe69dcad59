use Rattle.std.proofs.Common.{◌≡◌, ◌+◌, ◌-◌, ◌<◌, ◌^◌, ◌%◌, ◌∙◌, ap, arith}
use Rattle.std.proofs.lemmas.List.{length-set}
use Rattle.page_surface.specs.Drawing.{end_of, offset, spot}
use Rattle.page_surface.specs.Polygon.{partner, sides}
use Rattle.drawing.proofs.Windows.{is_window, told_more}
use Rattle.drawing.proofs.window.Window.of.Goals as goal

pub loop-side-preserved : goal.loop-side-preserved
loop-side-preserved c =
    let d = c.args.layout.now.drawing in
    let h = c.loop-side.invariant in
    let side : c.loop-side.side < 16 = omega (arith, c.loop-side-test.true, c.loop-side.auto.side-end, c.sides-side-end.ensures.most) in
    let begins : c.spot.result ≡ offset d c.loop-side.side = omega (arith, c.spot.ensures.value, ap (offset d) c.new.ensures) in
    let pair : c.pair.result ≡ partner d.polygon c.loop-side.side = cc in
    let ends : c.spot-in-loop-side.result ≡ spot d (end_of d (partner d.polygon c.loop-side.side)) = c.spot-in-loop-side.ensures.value ∙ ap (spot d) (c.end_of-last.ensures ∙ ap (end_of d) pair) in
    record {
      exits_size = length-set c.loop-side.exits c.loop-side.side _ ∙ h.exits_size;
      entries_size = length-set c.loop-side.entries c.loop-side.side _ ∙ h.entries_size;
      exits = told_more (λ k. (offset d k + (2 ^ 32 - c.min-first.result)) % 2 ^ 32) c.loop-side.exits c.loop-side.side _ (omega (arith, side, h.exits_size)) h.exits
          (ap (λ x. (x + (2 ^ 32 - c.min-first.result)) % 2 ^ 32) begins);
      entries = told_more (λ k. (spot d (end_of d (partner d.polygon k)) + (2 ^ 32 - (c.min-first.result + 1))) % 2 ^ 32) c.loop-side.entries c.loop-side.side _ (omega (arith, side, h.entries_size)) h.entries
          (ap (λ x. (x + (2 ^ 32 - (c.min-first.result + 1))) % 2 ^ 32) ends);
    }

pub returns-clause-window : goal.returns-clause-window
returns-clause-window c =
    let h = c.loop-side.invariant in
    is_window c.args.start c.args.segment c.min-first.result c.abs_diff.result c.min-first.ensures c.abs_diff.ensures (omega (arith, c.min-first.ensures, c.requires.start)) c.args.layout.now.drawing c.requires.placed c.polygon.ensures.written c.requires.start c.requires.segment
    _ _ c.loop-side.side (omega (arith, c.loop-side-test.false, c.loop-side.auto.side-end, c.sides-side-end.ensures.value, ap sides c.polygon.ensures.value)) h.exits_size h.entries_size h.exits h.entries
