use Rattle.std.proofs.Common.{◌≡◌, ℕ, Bool, suc, ◌∙◌, ◌+◌, ap, sym, arith, cond, refl}
use Rattle.std.specs.List.{list_all}
use Rattle.empty_domains.proofs.AllBelow.{all_not, all_push}
use Rattle.empty_domains.proofs.SpotReads.{name_next_in, next_in, one_side, rule_on}
use Rattle.empty_domains.specs.Ground.{spot_rule_by}
use Rattle.empty_domains.specs.Marks.{marked_by}
use Rattle.obd_base.specs.Lists.{below}
use Rattle.empty_domains.proofs.rules.edge_keeps.Goals as goal

pub side-side-requires : goal.side-side-requires
side-side-requires c = omega (arith, next_in c.args.diagram.now c.requires.valid c.args.tables.now c.args.pieces.now c.args.marks.now c.args.from.now c.args.to.now c.requires.near (c.args.start + 0) (c.requires.spots 0 (omega arith)))

pub mark-before-requires-clause-span : goal.mark-before-requires-clause-span
mark-before-requires-clause-span c = omega (arith, c.requires.near.pieces_size, next_in c.args.diagram.now c.requires.valid c.args.tables.now c.args.pieces.now c.args.marks.now c.args.from.now c.args.to.now c.requires.near (c.args.start + 0) (c.requires.spots 0 (omega arith)))

pub overflow_add-at : goal.overflow_add-at
overflow_add-at c = omega (arith, c.requires.near.few, next_in c.args.diagram.now c.requires.valid c.args.tables.now c.args.pieces.now c.args.marks.now c.args.from.now c.args.to.now c.requires.near (c.args.start + c.loop-column.column) (c.requires.spots c.loop-column.column (omega (arith, c.loop-column-test.true))))

pub overflow_add-at-in-loop-column : goal.overflow_add-at-in-loop-column
overflow_add-at-in-loop-column c = omega (arith, c.requires.near.few, next_in c.args.diagram.now c.requires.valid c.args.tables.now c.args.pieces.now c.args.marks.now c.args.from.now c.args.to.now c.requires.near (c.args.start + c.loop-column.column) (c.requires.spots c.loop-column.column (omega (arith, c.loop-column-test.true))))

pub mark-after-requires-clause-span : goal.mark-after-requires-clause-span
mark-after-requires-clause-span c = omega (arith, c.requires.near.pieces_size, next_in c.args.diagram.now c.requires.valid c.args.tables.now c.args.pieces.now c.args.marks.now c.args.from.now c.args.to.now c.requires.near (c.args.start + c.loop-column.column) (c.requires.spots c.loop-column.column (omega (arith, c.loop-column-test.true))))

pub point_keeps-requires-clause-at : goal.point_keeps-requires-clause-at
point_keeps-requires-clause-at c = omega (arith, next_in c.args.diagram.now c.requires.valid c.args.tables.now c.args.pieces.now c.args.marks.now c.args.from.now c.args.to.now c.requires.near (c.args.start + c.loop-column.column) (c.requires.spots c.loop-column.column (omega (arith, c.loop-column-test.true))))

pub point_keeps-requires-clause-name : goal.point_keeps-requires-clause-name
point_keeps-requires-clause-name c = omega (arith, c.requires.near.pieces_size, name_next_in c.args.diagram.now c.requires.valid c.args.tables.now c.args.pieces.now c.args.marks.now c.args.from.now c.args.to.now c.requires.near (c.args.start + c.loop-column.column) (c.requires.spots c.loop-column.column (omega (arith, c.loop-column-test.true))))

pub point_keeps-requires-clause-few : goal.point_keeps-requires-clause-few
point_keeps-requires-clause-few c = omega (arith, c.requires.near.pieces_size, c.requires.near.few)

pub returns-then-not-point_keeps : goal.returns-then-not-point_keeps
returns-then-not-point_keeps c =
    let g = c.args.tables.now in
    let p : ℕ → Bool = λ i. spot_rule_by g c.args.from.now c.args.to.now (marked_by c.args.pieces.now c.args.marks.now) (c.args.start + i) in
    let here = sym (one_side c.args.diagram.now c.requires.valid g c.requires.near.tables c.args.start c.args.width c.requires.spots c.loop-column.column (omega (arith, c.loop-column-test.true))) in
    let rule = rule_on g c.args.from.now c.args.to.now (marked_by c.args.pieces.now c.args.marks.now) (c.args.start + c.loop-column.column) (c.args.start + c.loop-column.column + 1) c.side-side.result _ _ c.loop-column.before c.mark-after.result c.point_keeps.result
    (c.side-side.ensures.value ∙ here) (omega arith) refl refl c.loop-column.invariant.before c.mark-after.ensures.value c.point_keeps.ensures in
    sym (all_not p (suc c.args.width) c.loop-column.column (omega (arith, c.loop-column-test.true)) (sym rule ∙ c.if-not-point_keeps.true))

pub loop-column-preserved : goal.loop-column-preserved
loop-column-preserved c =
    let g = c.args.tables.now in
    let p : ℕ → Bool = λ i. spot_rule_by g c.args.from.now c.args.to.now (marked_by c.args.pieces.now c.args.marks.now) (c.args.start + i) in
    let here = sym (one_side c.args.diagram.now c.requires.valid g c.requires.near.tables c.args.start c.args.width c.requires.spots c.loop-column.column (omega (arith, c.loop-column-test.true))) in
    let rule = rule_on g c.args.from.now c.args.to.now (marked_by c.args.pieces.now c.args.marks.now) (c.args.start + c.loop-column.column) (c.args.start + c.loop-column.column + 1) c.side-side.result _ _ c.loop-column.before c.mark-after.result c.point_keeps.result
    (c.side-side.ensures.value ∙ here) (omega arith) refl refl c.loop-column.invariant.before c.mark-after.ensures.value c.point_keeps.ensures in
    record {
      kept = all_push p c.loop-column.column (c.loop-column.column + 1) refl c.loop-column.invariant.kept (sym rule ∙ c.if-not-point_keeps.false);
      before = c.mark-after.ensures.value ∙ ap (λ (n : ℕ). cond (marked_by c.args.pieces.now c.args.marks.now n) 1 0) (omega arith);
      small = c.mark-after.ensures.most;
    }

pub returns : goal.returns
returns c =
    let p : ℕ → Bool = λ i. spot_rule_by c.args.tables.now c.args.from.now c.args.to.now (marked_by c.args.pieces.now c.args.marks.now) (c.args.start + i) in
    let all : suc c.args.width ≡ c.loop-column.column = omega (arith, c.loop-column-test.false, c.loop-column.auto) in
    sym (ap (λ n. list_all p (below n)) all ∙ c.loop-column.invariant.kept)
