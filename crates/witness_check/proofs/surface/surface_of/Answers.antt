use Rattle.std.proofs.Common.{Some, subst, sym}
use Rattle.witness_check.specs.BookRules.{SlidesCome}
use Rattle.witness_check.specs.declared.fault.Fault.{Fault}
use Rattle.witness_check.proofs.SlideLines.{slide_number, slides_fault, slides_kept, slides_leave}
use Rattle.witness_check.proofs.surface.surface_of.Goals as goal

pub not_slid-requires : goal.not_slid-requires
not_slid-requires c other = slide_number c.args.slides.now c.in_ok-joined.joined c.in-Err.refused c.requires.few (c.in-Err.ensures.refused other)

pub returns-in-Ok-clause-slid : goal.returns-in-Ok-clause-slid
returns-in-Ok-clause-slid c =
    slides_leave c.args.page.now c.args.curves.now c.args.slides.now c.in_ok-joined.joined c.in-Ok.slid c.in_ok-joined.ensures.value c.in-Ok.ensures.slid

pub returns-in-Ok-clause-kept : goal.returns-in-Ok-clause-kept
returns-in-Ok-clause-kept c =
    slides_kept c.args.page.now c.args.curves.now c.args.slides.now c.in_ok-joined.joined c.in-Ok.slid c.in_ok-joined.ensures.value c.in-Ok.ensures.slid

pub returns-in-Err-clause-fault : goal.returns-in-Err-clause-fault
returns-in-Err-clause-fault c fault same =
    let (is, other) = c.not_slid.ensures fault same in
    subst (λ (f : Fault). SlidesCome c.args.page.now c.args.curves.now c.args.slides.now (Some f)) (sym is)
    (slides_fault c.args.page.now c.args.curves.now c.args.slides.now c.in_ok-joined.joined c.in-Err.refused c.in_ok-joined.ensures.value (c.in-Err.ensures.refused other))
