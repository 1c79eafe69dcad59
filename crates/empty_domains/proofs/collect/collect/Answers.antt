use Rattle.std.proofs.Common.{ℕ, suc, ◌+◌, ◌++◌, ◌∙◌, List, arith, get_or, map, subst, sym, take}
use Rattle.std.specs.List.{flat_map}
use Rattle.std.proofs.lemmas.List.{take_all}
use Rattle.empty_domains.proofs.MarkSteps.{rows_more}
use Rattle.empty_domains.specs.Marks.{AreMarked}
use Rattle.obd_base.specs.Lists.{below}
use Rattle.region_table.proofs.EdgeWalk.{mem_of_place}
use Rattle.empty_domains.proofs.collect.collect.Goals as goal

pub collect_row-requires-clause-row : goal.collect_row-requires-clause-row
collect_row-requires-clause-row c = c.requires.rows (get_or c.args.rows.now c.loop-start.start-index 0) (mem_of_place c.args.rows.now c.loop-start.start-index 0 c.loop-start-test.true)

pub loop-start-preserved : goal.loop-start-preserved
loop-start-preserved c =
    let v = c.loop-start.invariant in
    let row : ℕ → List ℕ = λ start. map (λ i. suc (start + i)) (below c.args.width) in
    record {
      size = c.collect_row.ensures.size ∙ v.size;
      collected = λ spans is. subst (λ (zs : List ℕ). AreMarked c.args.pieces.now zs c.collect_row.new.found.items c.collect_row.new.marks)
          (sym (rows_more row spans c.args.rows.now c.loop-start.start-index (c.loop-start.start-index + 1) (omega arith) c.loop-start-test.true))
          (c.in_ok-collect_row.ensures.collected (spans ++ flat_map row (take c.loop-start.start-index c.args.rows.now)) (v.collected spans is));
    }

pub returns-clause-collected : goal.returns-clause-collected
returns-clause-collected c = λ spans is.
    let row : ℕ → List ℕ = λ start. map (λ i. suc (start + i)) (below c.args.width) in
    subst (λ (zs : List ℕ). AreMarked c.args.pieces.now (spans ++ flat_map row zs) c.loop-start.found.items c.loop-start.marks)
    (take_all c.loop-start.start-index c.args.rows.now (omega (arith, c.loop-start-test.false))) (c.loop-start.invariant.collected spans is)
