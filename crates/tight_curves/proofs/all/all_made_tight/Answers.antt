use Rattle.std.proofs.Common.{◌≡◌, subst, arith}
use Rattle.std.specs.Option.{option_map}
use Rattle.curve_paths.specs.Twists.{exits_of}
use Rattle.tight_curves.specs.Parts.{MadeTight}
use Rattle.tight_curves.proofs.AllMade.{all_more, all_none, all_words}
use Rattle.tight_curves.proofs.all.all_made_tight.Goals as goal

pub loop-curve-init : goal.loop-curve-init
loop-curve-init c = all_none c.args.polygon.now c.new-made.result c.new-made.ensures

pub loop-curve-preserved : goal.loop-curve-preserved
loop-curve-preserved c =
    let is : option_map (λ r. r.now) c.as_ref.result ≡ c.curve-item.result = c.as_ref.ensures.value in
    all_more c.args.polygon.now c.args.curves.now c.loop-curve.made c.push.new.self c.loop-curve.curve-index c.curve-item.result c.in_ok-tight_if_some.field-0 (omega (arith, c.loop-curve-test.true))
    c.curve-item.is c.loop-curve.invariant (subst (λ z. MadeTight c.args.polygon.now (exits_of z) (exits_of c.in_ok-tight_if_some.field-0)) is c.in_ok-tight_if_some.ensures) c.in_ok-push.ensures.ok

pub returns-clause-words : goal.returns-clause-words
returns-clause-words c =
    all_words c.args.polygon.now c.sides.ensures.valid c.args.curves.now c.loop-curve.made c.loop-curve.curve-index (omega (arith, c.loop-curve-test.false)) c.loop-curve.invariant.1
