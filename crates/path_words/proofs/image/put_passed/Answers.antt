use Rattle.std.proofs.Common.{◌≡◌, ◌∙◌, ◌+◌, ◌%◌, ◌++◌, ℕ, ap, arith, map, refl, sym}
use Rattle.std.specs.List.{flat_map}
use Rattle.std.proofs.Math.Nat.{mod-eq_of_lt}
use Rattle.obd_base.specs.Lists.{below}
use Rattle.page_surface.specs.Polygon.{sides}
use Rattle.page_surface.specs.Words.{reduced}
use Rattle.path_words.specs.Pushes.{push_of}
use Rattle.path_words.proofs.Passed.{next_passed}
use Rattle.path_words.proofs.Stacks.{product_more, stacked_more, stacked_none}
use Rattle.path_words.proofs.image.put_passed.Goals as goal

pub loop-step-init : goal.loop-step-init
loop-step-init c =
    let here : c.args.from + 0 ≡ c.args.from = omega arith in (
      sym (ap (λ (n : ℕ). n % sides c.args.polygon.now) here ∙ mod-eq_of_lt c.requires.from),
      stacked_none c.args.polygon.now c.args.word.now.items c.requires.in_range c.requires.is_reduced,
    )

pub loop-step-preserved : goal.loop-step-preserved
loop-step-preserved c =
    let p = c.args.polygon.now in
    let f = push_of c.args.pushes.now in
    let g = λ (i : ℕ). (c.args.from + 1 + i) % sides p in
    let next : c.next_side-side.result ≡ g c.loop-step.step = c.next_side-side.ensures.value ∙ next_passed p c.args.from c.loop-step.step c.loop-step.side c.loop-step.invariant.0 in
    let moved : c.args.from + 1 + c.loop-step.step ≡ c.args.from + (c.loop-step.step + 1) = omega arith in
    let push : c.along.result.now ≡ f (g c.loop-step.step) = c.along.ensures ∙ ap f next in (
      next ∙ ap (λ (n : ℕ). n % sides p) moved,
      stacked_more p c.requires.table.valid.pairs c.args.word.now.items (flat_map f (map g (below c.loop-step.step))) (flat_map f (map g (below (c.loop-step.step + 1))))
          (f (g c.loop-step.step)) c.loop-step.word.items c.put_letters.new.word.items c.loop-step.invariant.1 (product_more f g c.loop-step.step (g c.loop-step.step) refl)
          (c.in_ok-put_letters.ensures.word ∙ ap (λ x. reduced p (c.loop-step.word.items ++ x)) push) c.in_ok-put_letters.ensures.in_range c.in_ok-put_letters.ensures.is_reduced,
    )
