use Rattle.std.proofs.Common.{List, ℕ, ◌∷◌, ◌-◌, ◌≡◌, get_or, length, map, reverse, sym, ap, subst, ◌∙◌, arith}
use Rattle.obd_base.specs.Lists.{Mem}
use Rattle.mod2_rank.specs.Reduction.{list_of}
use Rattle.mod2_rank.specs.Rows.{Rows, odd_times, only, plus}
use Rattle.mod2_rank.specs.RowWords.{row_in}
use Rattle.mod2_rank.specs.Written.{chosen, expand}
use Rattle.mod2_rank.proofs.ChainWalk.{Walked, walk_first, walk_down_off, walk_down_on}
use Rattle.mod2_rank.proofs.Members.{mem_at}
use Rattle.std.proofs.Math.ListN.{get_or-map}
use Rattle.mod2_rank.proofs.WrittenSteps.{reverse_push}
use Rattle.mod2_rank.specs.declared.outcome.Pivot.{Pivot}
use Rattle.mod2_rank.proofs.written.chain.Goals as goal

pub loop-pivot-init : goal.loop-pivot-init
loop-pivot-init c = record {
  within = omega arith;
  room = omega (arith, c.in_ok-flags.ensures.room, c.toggle.ensures.room);
  walked =
      let column = λ (i : ℕ). get_or (map (λ (p : Pivot). p.column) c.args.pivots.now) i 0 in
      let added = λ (i : ℕ). odd_times (list_of c.args.added.now.lists i) in
      let n = length c.args.pivots.now in
      let whole = chosen column (expand added n (only c.args.last)) n in
      let flags : row_in c.toggle.new.self ≡ only c.args.last = c.toggle.ensures.rows ∙ ap (λ (v : Rows). plus v (only c.args.last)) c.in_ok-flags.ensures.empty in
      subst (λ (v : Rows). Walked column added whole n v (reverse c.new-found.result.items)) (sym flags)
      (subst (λ (xs : List ℕ). Walked column added whole n (only c.args.last) (reverse xs)) (sym c.new-found.ensures.items) (walk_first column added n (only c.args.last)));
}

pub add-requires : goal.add-requires
add-requires c = λ k d l.
    let m = mem_at c.list.result.now k d l in
    let e = c.requires.early (c.loop-pivot.pivot - 1) (get_or c.list.result.now k d) (omega (arith, c.loop-pivot-test.true, c.loop-pivot.invariant.within)) (subst (λ (xs : List ℕ). Mem (get_or c.list.result.now k d) xs) c.list.ensures m) in
    omega (arith, e, c.loop-pivot.invariant.within, c.loop-pivot.invariant.room)

pub loop-pivot-preserved-then-has : goal.loop-pivot-preserved-then-has
loop-pivot-preserved-then-has c = record {
  within = omega (arith, c.loop-pivot.invariant.within);
  room = omega (arith, c.loop-pivot.invariant.room, c.add.ensures.room);
  walked =
      let column = λ (i : ℕ). get_or (map (λ (p : Pivot). p.column) c.args.pivots.now) i 0 in
      let added = λ (i : ℕ). odd_times (list_of c.args.added.now.lists i) in
      let n = length c.args.pivots.now in
      let entry = sym (get_or-map (λ (p : Pivot). p.column) c.args.pivots.now (c.loop-pivot.pivot - 1) (record { column = 0; row = 0 })) in
      walk_down_on column added (chosen column (expand added n (only c.args.last)) n) c.loop-pivot.pivot (row_in c.loop-pivot.flags) (row_in c.add.new.self) (reverse c.loop-pivot.found.items)
      (reverse c.push.new.self.items) c.loop-pivot-test.true c.loop-pivot.invariant.walked (sym c.if-has.ensures)
      (c.add.ensures.rows ∙ ap (λ (xs : List ℕ). plus (row_in c.loop-pivot.flags) (odd_times xs)) c.list.ensures)
      (ap (λ (xs : List ℕ). reverse xs) c.in_ok-push.ensures.items ∙ (reverse_push c.loop-pivot.found.items (get_or c.args.pivots.now (c.loop-pivot.pivot - 1) (record { column = 0; row = 0 })).column ∙ ap (λ (x : ℕ). x ∷ reverse c.loop-pivot.found.items) entry));
}

pub loop-pivot-preserved : goal.loop-pivot-preserved
loop-pivot-preserved c = record {
  within = omega (arith, c.loop-pivot.invariant.within);
  room = c.loop-pivot.invariant.room;
  walked =
      let column = λ (i : ℕ). get_or (map (λ (p : Pivot). p.column) c.args.pivots.now) i 0 in
      let added = λ (i : ℕ). odd_times (list_of c.args.added.now.lists i) in
      let n = length c.args.pivots.now in
      walk_down_off column added (chosen column (expand added n (only c.args.last)) n) c.loop-pivot.pivot (row_in c.loop-pivot.flags) (reverse c.loop-pivot.found.items)
      c.loop-pivot-test.true c.loop-pivot.invariant.walked (sym c.if-has.ensures);
}
