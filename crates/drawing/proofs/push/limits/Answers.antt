use Rattle.std.proofs.Common.{◌^◌, refl, replicate}
use Rattle.std.proofs.lemmas.List.{get_or-replicate}
use Rattle.drawing.proofs.RaiseTables.{limits_told}
use Rattle.drawing.proofs.push.limits.Goals as goal

pub returns-clause-told : goal.returns-clause-told
returns-clause-told c = limits_told c.args.near.now c.args.far.now _ _ (replicate 16 (2 ^ 30)) refl (λ k l. get_or-replicate 16 k (2 ^ 30) 0 l) c.requires.near c.requires.far c.number.ensures.value c.number-2.ensures.value
