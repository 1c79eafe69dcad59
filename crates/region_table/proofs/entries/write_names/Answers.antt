use Rattle.std.proofs.Common.{◌≡◌, length, refl, ◌∙◌, arith}
use Rattle.std.proofs.lemmas.List.{get_or_default}
use Rattle.region_table.proofs.ToldTables.{written}
use Rattle.region_table.proofs.fingers.Lists.{names_code}
use Rattle.region_table.proofs.entries.write_names.Goals as goal

pub returns-clause-named : goal.returns-clause-named
returns-clause-named c =
    let p = c.args.push in
    let names = c.args.names.now.items in
    let long : c.args.names.now.len ≡ length c.rename_part.new.names = omega (arith, c.rename_part.ensures.size, c.deref_mut.ensures.len) in
    names_code p.entry.entered p.entry.beyond p.from p.near c.args.count names c.deref_mut.result.now c.rename_part.new.names _ _ _ _ _ _ c.deref_mut.ensures.value (written c.rename_part.new.names _ _ _ long refl)
    (c.index-piece.ensures ∙ get_or_default names p.entry.entered _ 0 c.requires.entered) (c.index-behind.ensures ∙ get_or_default names p.near _ 0 c.requires.near)
    (c.index-past.ensures ∙ get_or_default names p.entry.beyond _ 0 c.requires.beyond) (omega arith) c.rename_part.ensures.size c.rename_part.ensures.renamed c.put_entries.ensures.put
