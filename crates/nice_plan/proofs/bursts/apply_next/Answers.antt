use Rattle.std.proofs.Common.{◌≡◌, ◌∙◌, false, subst}
use Rattle.std.specs.Prelude.{IfSome}
use Rattle.region_table.specs.Changed.{KeepsAllNames}
use Rattle.region_table.specs.Nice.{is_nice}
use Rattle.nice_plan.specs.Burst.{burst}
use Rattle.nice_plan.proofs.NextBurst.{next_legal}
use Rattle.nice_plan.proofs.bursts.apply_next.Goals as goal

pub push_all-requires-clause-legal : goal.push_all-requires-clause-legal
push_all-requires-clause-legal c =
    let d = c.args.drawing.now.drawing in
    let bad : is_nice d ≡ false = subst (λ o. IfSome o (λ f. is_nice d ≡ false)) c.in-Some.is c.in_ok-burst.ensures.bad in
    let is = c.deref-2.ensures.value ∙ subst (λ o. IfSome o (λ f. f.items ≡ burst d)) c.in-Some.is c.in_ok-burst.ensures.burst in
    next_legal d c.requires.embedded bad c.deref-2.result.now is

pub returns-clause-names : goal.returns-clause-names
returns-clause-names c = λ same.
    let d = c.args.drawing.now.drawing in
    let is = c.deref-2.ensures.value ∙ subst (λ o. IfSome o (λ f. f.items ≡ burst d)) c.in-Some.is c.in_ok-burst.ensures.burst in
    subst (λ fs. KeepsAllNames d fs c.args.regions.now c.push_all.new.regions) is c.in_ok-push_all.ensures.names
