use Rattle.std.proofs.Common.{ℕ, ◌<◌, Vec, Global, length, ◌∙◌, arith}
use Rattle.std.proofs.lemmas.List.{length-set}
use Rattle.std.proofs.Math.Seq.{map-set_same}
use Rattle.region_table.proofs.RowTables.{room_set, rows_done}
use Rattle.region_table.proofs.rows.reserve_rows.Goals as goal

pub returns-in_err-try_reserve-clause-lists : goal.returns-in_err-try_reserve-clause-lists
returns-in_err-try_reserve-clause-lists c =
    map-set_same (λ (row : Vec ℕ Global). row.items) c.loop-index.rows c.loop-index.index c.try_reserve.new.self c.index-rows-index.result c.in_err-try_reserve.ensures.items ∙ c.loop-index.invariant.lists

pub returns-in_err-try_reserve-clause-kept : goal.returns-in_err-try_reserve-clause-kept
returns-in_err-try_reserve-clause-kept c = λ room has.
    let v = c.loop-index.invariant in
    let was = v.kept room has in
    room_set c.loop-index.rows c.loop-index.index room c.try_reserve.new.self was
    (λ l. let w = was c.loop-index.index c.index-rows-index.result l in omega (arith, w, c.in_err-try_reserve.ensures.len, c.in_err-try_reserve.ensures.capacity))

pub loop-index-preserved : goal.loop-index-preserved
loop-index-preserved c =
    let v = c.loop-index.invariant in
    let rows = c.loop-index.rows in
    let n = c.loop-index.index in
    let l : n < length rows = omega (arith, c.loop-index-test.true, v.size) in
    record {
      size = length-set rows n c.try_reserve.new.self ∙ v.size;
      lists = map-set_same (λ (row : Vec ℕ Global). row.items) rows n c.try_reserve.new.self c.index-rows-index.result c.in_ok-try_reserve.ensures.items ∙ v.lists;
      kept = λ room has.
          let was = v.kept room has in
          room_set rows n room c.try_reserve.new.self was (λ li. let w = was n c.index-rows-index.result li in omega (arith, w, c.in_ok-try_reserve.ensures.len, c.in_ok-try_reserve.ensures.capacity));
      done = rows_done rows n c.args.fingers c.try_reserve.new.self l v.done (omega (arith, c.in_ok-try_reserve.ensures.ok));
    }
