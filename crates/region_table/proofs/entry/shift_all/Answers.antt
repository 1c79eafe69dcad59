use Rattle.std.proofs.Common.{◌<◌, length, get_or, ◌∙◌, ap, arith}
use Rattle.std.proofs.lemmas.List.{length-set}
use Rattle.region_table.specs.FingerLists.{shifted}
use Rattle.region_table.proofs.Written.{left_more, map_of_entries, written_more}
use Rattle.region_table.proofs.entry.shift_all.Goals as goal

pub shifted-requires : goal.shifted-requires
shifted-requires c = omega (arith, c.loop-at.invariant.left c.loop-at.at (omega arith), c.requires c.loop-at.at)

pub loop-at-preserved : goal.loop-at-preserved
loop-at-preserved c =
    let v = c.loop-at.invariant in
    let n = c.loop-at.at in
    let t = c.args.entry.entered in
    let u = c.args.entry.beyond in
    let fits : n < length c.loop-at.numbers = omega (arith, c.loop-at-test.true, v.size) in
    record {
      size = length-set c.loop-at.numbers n _ ∙ v.size;
      done = written_more 0 (λ p. shifted t u (get_or c.args.numbers.now p 0)) c.loop-at.numbers n _ fits (c.shifted.ensures ∙ ap (shifted t u) (v.left n (omega arith))) v.done;
      left = left_more 0 c.loop-at.numbers c.args.numbers.now n _ v.left;
    }

pub returns : goal.returns
returns c =
    map_of_entries 0 (shifted c.args.entry.entered c.args.entry.beyond) c.args.numbers.now _ c.loop-at.invariant.size
    (λ p l. c.loop-at.invariant.done p (omega (arith, l, c.loop-at-test.false)))
