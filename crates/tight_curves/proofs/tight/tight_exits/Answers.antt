use Rattle.std.proofs.Common.{◌≡◌, ◌∙◌, ap, subst, sym, ◌++◌}
use Rattle.std.proofs.lemmas.Result.{IfOk-weaker}
use Rattle.tight_curves.specs.Parts.{IsPart}
use Rattle.tight_curves.proofs.TurnSteps.{made_of}
use Rattle.tight_curves.proofs.WholeCurve.{whole_part}
use Rattle.tight_curves.proofs.tight.tight_exits.Goals as goal

pub take_turns_out-requires-clause-part : goal.take_turns_out-requires-clause-part
take_turns_out-requires-clause-part c =
    let copied : c.extend_from_slice.new.self.items ≡ c.args.exits.now = c.in_ok-extend_from_slice.ensures.items ∙ ap (λ xs. xs ++ c.args.exits.now) c.new-part.ensures.items in
    subst (IsPart c.args.polygon.now c.args.exits.now) (sym copied) (whole_part c.args.polygon.now c.requires.valid.pairs c.args.exits.now c.requires.curve)

pub returns-clause-made : goal.returns-clause-made
returns-clause-made c =
    let copied : c.extend_from_slice.new.self.items ≡ c.args.exits.now = c.in_ok-extend_from_slice.ensures.items ∙ ap (λ xs. xs ++ c.args.exits.now) c.new-part.ensures.items in
    IfOk-weaker c.placed_anew.result _ _ (λ placed is. made_of c.args.polygon.now c.requires.valid c.args.exits.now c.requires.curve c.extend_from_slice.new.self.items c.take_turns_out.new.part.items c.deref.result.now
    placed.items copied c.take_turns_out.ensures.less c.take_turns_out.ensures.free c.deref.ensures.value is) c.placed_anew.ensures
