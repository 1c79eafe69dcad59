use Rattle.std.proofs.Common.{◌≡◌, ◌∙◌, ℕ, ap, arith, length, map}
use Rattle.std.proofs.lemmas.List.FromFn.{length-map-range_with_len}
use Rattle.obd_base.specs.Lists.{below}
use Rattle.page_surface.specs.Polygon.{sides}
use Rattle.page_surface.specs.Words.{reduced}
use Rattle.curve_paths.specs.Curves.{push_at}
use Rattle.path_words.specs.Pushes.{reduced_pushes}
use Rattle.path_words.proofs.PushWords.{pushes_in_range, pushes_more, pushes_reduced, pushes_short}
use Rattle.path_words.proofs.pushes.Pushes.of.Goals as goal
use Rattle.path_words.proofs.pushes.Pushes.of.Goals.{After-loop-side}

pub loop-side-preserved : goal.loop-side-preserved
loop-side-preserved c =
    let p = c.args.polygon.now in
    let f = λ (k : ℕ). reduced p (push_at p c.args.curve.now c.args.sign k) in
    pushes_more f c.loop-side.side c.loop-side.words c.push.new.self c.from_vec.result c.loop-side.invariant
    (c.from_vec.ensures ∙ (c.in_ok-push.ensures ∙ (ap (λ es. reduced p (push_at p es c.args.sign c.new.result)) c.exits-exits.ensures.value ∙ ap f c.new.ensures))) c.in_ok-push-2.ensures.ok

-- the pushes along all sides
all : (c : After-loop-side) → c.loop-side.words ≡ reduced_pushes c.args.polygon.now c.args.curve.now c.args.sign
all c =
    let f = λ (k : ℕ). reduced c.args.polygon.now (push_at c.args.polygon.now c.args.curve.now c.args.sign k) in
    let end : c.loop-side.side ≡ sides c.args.polygon.now = omega (arith, c.sides-side-end.ensures.value) in
    c.loop-side.invariant ∙ ap (λ n. map f (below n)) end

pub returns-clause-value : goal.returns-clause-value
returns-clause-value c = all c

pub returns-clause-table : goal.returns-clause-table
returns-clause-table c =
    let p = c.args.polygon.now in
    let ok = c.sides-side-end.ensures.valid.pairs in
    record {
      valid = c.sides-side-end.ensures.valid;
      few_sides = omega (arith, c.sides-side-end.ensures.value, c.sides-side-end.ensures.most);
      each = ap length (all c) ∙ length-map-range_with_len (λ (k : ℕ). reduced p (push_at p c.args.curve.now c.args.sign k)) 0 (sides p);
      in_range = pushes_in_range p ok c.args.curve.now c.requires c.args.sign c.loop-side.words (all c);
      are_reduced = pushes_reduced p ok c.args.curve.now c.requires c.args.sign c.loop-side.words (all c);
      short = pushes_short p ok c.args.curve.now c.requires c.args.sign c.exits-exits.ensures.most c.loop-side.words (all c);
    }
