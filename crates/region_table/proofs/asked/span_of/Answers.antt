use Rattle.std.proofs.Common.{ℕ, eqb, filter, length, get_or, sym, ◌∙◌, ap, arith}
use Rattle.std.proofs.lemmas.Bool.{eq-eqb}
use Rattle.obd_base.specs.Lists.{below}
use Rattle.obd_base.proofs.lists.Below.{passing_at}
use Rattle.region_table.proofs.AskedSpans.{size_kept, size_met}
use Rattle.region_table.proofs.asked.span_of.Goals as goal
use Rattle.region_table.proofs.asked.span_of.Goals.{then-names-at+else-before-index, else-names-at}

pub returns-then-before-index : goal.returns-then-before-index
returns-then-before-index c =
    let at = c.loop-at.at in
    let n = length c.args.names.now in
    let p = λ (r : ℕ). eqb (get_or c.args.names.now r 0) c.args.name in
    let there = passing_at p n at 0 c.loop-at-test.true (eq-eqb (get_or c.args.names.now at 0) c.args.name c.if-names-at.true) in
    sym (ap (λ k. get_or (filter p (below n)) k 0) (sym c.if-before-index.true ∙ c.loop-at.invariant.counted) ∙ there)

pub loop-at-preserved : goal.loop-at-preserved
loop-at-preserved c =
    let v = c.loop-at.invariant in
    let name : ℕ → ℕ = λ s. get_or c.args.names.now s 0 in
    elim c.if-names-at.branch [
      | then-names-at+else-before-index w ↦ record {
        counted = omega (arith, w.before-is, v.counted, size_met name c.loop-at.at c.args.name w.if-names-at.true);
        small = omega (arith, w.before-is, v.small, w.if-before-index.false);
      }
      | else-names-at w ↦ record {
        counted = omega (arith, w.before-is, v.counted, size_kept name c.loop-at.at c.args.name w.if-names-at.false);
        small = omega (arith, w.before-is, v.small);
      }
    ]
