use Rattle.std.proofs.Common.{◌≡◌, length, refl, ◌∙◌, ap, arith}
use Rattle.std.proofs.lemmas.List.{length-map}
use Rattle.region_table.specs.FingerLists.{part_of, renumbered}
use Rattle.region_table.proofs.ToldTables.{written}
use Rattle.region_table.proofs.fingers.Lists.{ends_code, parts_named}
use Rattle.region_table.proofs.ends.write_ends.Goals as goal

pub returns-clause-ends : goal.returns-clause-ends
returns-clause-ends c =
    let p = c.args.push in
    let pushed = c.args.pushed in
    let ends = c.args.ends.now.items in
    let moved = c.renumber_all.new.ends in
    let first = c.part-here.result in
    let turn = c.part-beyond.result in
    let last = c.part-there.result in
    let long : c.args.ends.now.len ≡ length moved
    = omega (arith, ap length c.renumber_all.ensures, length-map c.deref_mut.result.now (renumbered pushed), c.deref_mut.ensures.len) in
    let made = ends_code p.entry.entered p.entry.beyond p.near p.far pushed first turn last ends c.deref_mut.result.now moved _ _ _ _
    c.requires.ends_apart c.requires.near c.requires.far c.deref_mut.ensures.value c.renumber_all.ensures (written moved _ _ _ long refl) c.shifted-near.ensures c.shifted-far.ensures c.put_entries.ensures.put in
    parts_named _ _ _ _ _ _ _ _ _ _ _ _ _ _ (c.part-here.ensures ∙ ap (part_of pushed) c.near_part.ensures) c.part-beyond.ensures (c.part-there.ensures ∙ ap (part_of pushed) c.far_part.ensures) made
