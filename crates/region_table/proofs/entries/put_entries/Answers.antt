use Rattle.std.proofs.Common.{◌∙◌, sym, ap, subst, arith}
use Rattle.region_table.specs.FingerLists.{ArePut, put_two}
use Rattle.region_table.proofs.fingers.Entries.{put_high, put_low}
use Rattle.region_table.proofs.entries.put_entries.Goals as goal

pub returns-then-entry-clause-put : goal.returns-then-entry-clause-put
returns-then-entry-clause-put g c =
    let e = c.args.entry in
    let n = c.args.new in
    subst (λ ys. ArePut e.entered e.beyond n.front n.middle n.beyond n.tip c.args.entries.now.items ys)
    (sym (c.put_two-then-entry.ensures.put ∙ ap (put_two e.entered n.front n.middle) c.put_two.ensures.put))
    (put_low e.entered e.beyond n.front n.middle n.beyond n.tip c.args.entries.now.items c.if-entry.true c.requires.beyond)

pub returns-else-entry-clause-put : goal.returns-else-entry-clause-put
returns-else-entry-clause-put g c =
    let e = c.args.entry in
    let n = c.args.new in
    subst (λ ys. ArePut e.entered e.beyond n.front n.middle n.beyond n.tip c.args.entries.now.items ys)
    (sym (c.put_two-else-entry-2.ensures.put ∙ ap (put_two e.beyond n.beyond n.tip) c.put_two-else-entry.ensures.put))
    (put_high e.entered e.beyond n.front n.middle n.beyond n.tip c.args.entries.now.items (omega (arith, c.if-entry.false, c.requires.apart)) c.requires.entered)
