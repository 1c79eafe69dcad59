use Rattle.std.proofs.Common.{◌≢◌, suc, ◌<◌, length, arith}
use Rattle.std.proofs.lemmas.Bool.{ne_eqb}
use Rattle.tight_curves.proofs.TurnSearch.{removed_both}
use Rattle.tight_curves.proofs.turns.take_out.Goals as goal

pub returns-else-at-len : goal.returns-else-at-len
returns-else-at-len c =
    let ne : suc c.args.at ≢ length c.args.part.now.items = λ q. omega (arith, q, c.if-at-len.false, c.len.ensures) in
    let l : suc c.args.at < length c.args.part.now.items = omega (arith, ne, c.requires.at) in
    rw (ne_eqb (suc c.args.at) (length c.args.part.now.items) ne)
    (removed_both c.args.part.now.items c.remove-else-at-len.new.self.items c.remove-else-at-len-2.new.self.items c.args.at c.remove-else-at-len.ensures.items c.remove-else-at-len-2.ensures.items l)
