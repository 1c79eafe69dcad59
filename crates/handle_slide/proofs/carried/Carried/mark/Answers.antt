use Rattle.std.proofs.Common.{◌∙◌, sym, subst, ap}
use Rattle.curve_paths.specs.Curves.{curve_entry}
use Rattle.handle_slide.specs.Carried.{IsOnTwo, row_number}
use Rattle.handle_slide.proofs.CarriedTables.{ends_on_two, marked_is}
use Rattle.handle_slide.proofs.carried.Carried.mark.Goals as goal

pub number-requires : goal.number-requires
number-requires c =
    subst (IsOnTwo c.args.self.now) (sym (c.entry.ensures ∙ ap (curve_entry c.args.self.now.polygon c.args.self.now.exits) c.previous.ensures.value))
    (ends_on_two c.args.self.now c.slid_side.ensures.known c.args.at c.requires.at (sym c.is_inside.ensures ∙ c.if-is_inside.true)).0

pub returns-then-is_inside : goal.returns-then-is_inside
returns-then-is_inside c =
    marked_is c.args.self.now c.args.at c.args.marks.now.items c.number.result c.number-then-is_inside.result (sym c.is_inside.ensures ∙ c.if-is_inside.true)
    (c.number.ensures.value ∙ ap (row_number c.args.self.now) (c.entry.ensures ∙ ap (curve_entry c.args.self.now.polygon c.args.self.now.exits) c.previous.ensures.value))
    (c.number-then-is_inside.ensures.value ∙ ap (row_number c.args.self.now) c.exit.ensures.value)
