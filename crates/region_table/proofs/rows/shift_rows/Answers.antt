use Rattle.std.proofs.Common.{◌≡◌, ℕ, ◌<◌, [], Vec, Global, length, map, get_or, refl, ◌∙◌, ap, arith}
use Rattle.std.proofs.lemmas.List.{length-map, length-set}
use Rattle.region_table.specs.FingerLists.{shifted}
use Rattle.region_table.proofs.RowTables.{lists_done, lists_left, room_set, row_read}
use Rattle.region_table.proofs.ToldTables.{written}
use Rattle.region_table.proofs.Written.{map_of_entries}
use Rattle.region_table.proofs.rows.shift_rows.Goals as goal

pub loop-index-preserved : goal.loop-index-preserved
loop-index-preserved c =
    let v = c.loop-index.invariant in
    let rows = c.loop-index.rows in
    let n = c.loop-index.index in
    let l : n < length rows = omega (arith, c.loop-index-test.true, v.size) in
    let t = c.args.entry.entered in
    let u = c.args.entry.beyond in
    let row = get_or rows n c.index-rows-index.result in
    let moved = c.shift_all.new.numbers in
    let long : row.len ≡ length moved = omega (arith, ap length c.shift_all.ensures, length-map c.deref_mut.result.now (shifted t u), c.deref_mut.ensures.len) in
    record {
      size = length-set rows n _ ∙ v.size;
      kept = λ room has. let was = v.kept room has in room_set rows n room _ was (λ li. was n c.index-rows-index.result li);
      done = lists_done (map (shifted t u)) rows c.args.rows.now n _ l
          (written moved _ _ _ long refl ∙ (c.shift_all.ensures ∙ ap (map (shifted t u)) (c.deref_mut.ensures.value ∙ (row_read rows n c.index-rows-index.result l ∙ v.left n (omega arith))))) v.done;
      left = lists_left (map (shifted t u)) rows c.args.rows.now n _ l v.left;
    }

pub returns-clause-lists : goal.returns-clause-lists
returns-clause-lists c =
    let v = c.loop-index.invariant in
    map_of_entries [] (map (shifted c.args.entry.entered c.args.entry.beyond)) (map (λ (row : Vec ℕ Global). row.items) c.args.rows.now) (map (λ (row : Vec ℕ Global). row.items) c.loop-index.rows)
    (length-map c.loop-index.rows (λ (row : Vec ℕ Global). row.items) ∙ (v.size ∙ length_back))
    (λ p l. v.done p (omega (arith, l, c.loop-index-test.false, length-map c.args.rows.now (λ (row : Vec ℕ Global). row.items))))
  where
    length_back : length c.args.rows.now ≡ length (map (λ (row : Vec ℕ Global). row.items) c.args.rows.now)
    length_back = omega (arith, length-map c.args.rows.now (λ (row : Vec ℕ Global). row.items))
