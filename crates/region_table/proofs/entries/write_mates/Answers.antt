use Rattle.std.proofs.Common.{◌≡◌, length, refl, ap, arith}
use Rattle.std.proofs.lemmas.List.{length-map}
use Rattle.region_table.specs.FingerLists.{shifted}
use Rattle.region_table.proofs.ToldTables.{written}
use Rattle.region_table.proofs.fingers.Lists.{mates_code}
use Rattle.region_table.proofs.entries.write_mates.Goals as goal

pub returns-clause-mates : goal.returns-clause-mates
returns-clause-mates c =
    let p = c.args.push in
    let moved = c.shift_all.new.numbers in
    let long : c.args.mates.now.len ≡ length moved
    = omega (arith, ap length c.shift_all.ensures, length-map c.deref_mut.result.now (shifted p.entry.entered p.entry.beyond), c.deref_mut.ensures.len) in
    mates_code p.entry.entered p.entry.beyond p.near p.far c.args.mates.now.items c.deref_mut.result.now moved _ _ _ _ _ _ c.requires.ends_apart c.requires.near c.requires.far
    c.deref_mut.ensures.value c.shift_all.ensures (written moved _ _ _ long refl) c.shifted-near.ensures c.shifted-far.ensures c.first_new-front.ensures c.first_beyond-past.ensures c.put_entries.ensures.put
