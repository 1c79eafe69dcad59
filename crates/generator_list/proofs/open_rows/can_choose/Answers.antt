use Rattle.std.proofs.Common.{◌≡◌, ◌∙◌, arith, sym, ap}
use Rattle.std.specs.List.{list_any}
use Rattle.obd_base.specs.Lists.{below}
use Rattle.generator_list.specs.Search.{is_choice}
use Rattle.generator_list.proofs.SetTables.{none_more, some_more}
use Rattle.generator_list.proofs.open_rows.can_choose.Goals as goal

pub returns-then-is_choice : goal.returns-then-is_choice
returns-then-is_choice c =
    sym (some_more (is_choice c.args.strands c.args.next.now c.args.used) c.loop-strand.strand _ 8 _ c.loop-strand-test.true c.new.ensures c.is_choice.ensures c.if-is_choice.true)

pub loop-strand-preserved : goal.loop-strand-preserved
loop-strand-preserved c =
    none_more (is_choice c.args.strands c.args.next.now c.args.used) c.loop-strand.strand _ _ c.loop-strand.invariant c.new.ensures c.is_choice.ensures c.if-is_choice.false

pub returns : goal.returns
returns c =
    let all : c.loop-strand.strand ≡ 8 = omega (arith, c.loop-strand-test.false, c.loop-strand.auto.strand-end) in
    sym (ap (λ n. list_any (is_choice c.args.strands c.args.next.now c.args.used) (below n)) (sym all) ∙ c.loop-strand.invariant)
