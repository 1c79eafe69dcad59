use Rattle.std.proofs.Common.{◌+◌, ◌∙◌, ap, sym, length, arith}
use Rattle.generator_list.specs.Packed.{Packed}
use Rattle.generator_list.proofs.PackedRows.{pushed, rows_size}
use Rattle.generator_list.proofs.packed.Packed.put.Goals as goal

pub returns-then-self-limit-clause-over : goal.returns-then-self-limit-clause-over
returns-then-self-limit-clause-over c over e =
    let size = sym (ap (λ (f : Packed). length f.lists) c.self.view_is) ∙ rows_size c.self.inside.width c.self.inside.count c.self.inside.points.items in
    (cc, omega (arith, size, c.if-self-limit.true))

pub returns-clause-found : goal.returns-clause-found
returns-clause-found c = pushed _ _ _ _ _ _ c.self.view_is c.self.invariant c.requires.width c.in_ok-append.ensures.ok

pub returns-clause-within : goal.returns-clause-within
returns-clause-within c = let size = rows_size c.self.inside.width (c.self.inside.count + 1) c.append.new.points.items in omega (arith, size, c.if-self-limit.false)
