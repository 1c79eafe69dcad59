use Rattle.std.proofs.Common.{◌≡◌, ◌∙◌, add-one, ap, arith, count_by, length, replicate, false, true, set}
use Rattle.std.proofs.lemmas.List.{length-map, length-replicate, length-set}
use Rattle.std.proofs.lemmas.List.Sums.{count_by-le-length}
use Rattle.page_surface.specs.Marks.{marked_next, marked_within}
use Rattle.page_surface.proofs.reached.count_reached.Goals as goal

pub loop-init : goal.loop-init
loop-init c =
    let all_false : c.in_ok-marked.marked.items ≡ replicate (length c.args.polygons.now) false = c.in_ok-marked.ensures.items_if_clones_equal (λ y e. e) in
    record {
      size = length-set c.in_ok-marked.marked.items 0 true ∙ (ap length all_false ∙ length-replicate (length c.args.polygons.now) false);
      marks = ap (λ ms. set ms 0 true) all_false;
    }

pub loop-preserved : goal.loop-preserved
loop-preserved c =
    let marks = c.in_ok-marked-2.ensures in
    record {
      size = ap length marks ∙ length-map c.args.polygons.now _;
      marks = marks ∙ (ap (marked_next c.args.polygons.now) (c.deref.ensures.value ∙ c.loop.invariant.marks) ∙ rw (add-one));
    }

pub overflow_cast-result : goal.overflow_cast-result
overflow_cast-result c =
    omega (arith, c.count_marks.ensures, count_by-le-length (λ mark. mark) c.deref-2.result.now, ap length c.deref-2.ensures.value, c.loop.invariant.size, c.requires.few)

pub returns : goal.returns
returns c =
    let end : c.loop.counter ≡ length c.args.polygons.now = omega arith in
    c.count_marks.ensures ∙ ap (count_by (λ mark. mark)) (c.deref-2.ensures.value ∙ (c.loop.invariant.marks ∙ ap (marked_within c.args.polygons.now) end))
