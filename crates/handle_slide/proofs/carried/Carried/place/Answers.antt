use Rattle.handle_slide.proofs.CarriedTables.{on_new, place_is}
use Rattle.handle_slide.proofs.carried.Carried.place.Goals as goal

pub number-requires : goal.number-requires
number-requires c = on_new c.args.self.now c.slid_side.ensures.known c.args.point c.requires.there

pub bounds-staying-number : goal.bounds-staying-number
bounds-staying-number c =
    (place_is c.args.self.now c.number.ensures.known c.args.staying.now c.args.point c.number.result c.requires.staying c.requires.there c.number.ensures.value).0

pub returns-clause-value : goal.returns-clause-value
returns-clause-value c =
    (place_is c.args.self.now c.number.ensures.known c.args.staying.now c.args.point c.number.result c.requires.staying c.requires.there c.number.ensures.value).1

pub returns-clause-within : goal.returns-clause-within
returns-clause-within c =
    (place_is c.args.self.now c.number.ensures.known c.args.staying.now c.args.point c.number.result c.requires.staying c.requires.there c.number.ensures.value).2
