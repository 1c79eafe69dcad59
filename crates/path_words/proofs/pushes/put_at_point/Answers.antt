use Rattle.std.proofs.Common.{◌+◌, arith, map}
use Rattle.curve_paths.specs.Curves.{turned}
use Rattle.path_words.proofs.Readings.{entering_end, exits_on_sides, inverse-inverse, rho_entering}
use Rattle.path_words.proofs.pushes.put_at_point.Goals as goal

pub put_round_back-requires-clause-in_range : goal.put_round_back-requires-clause-in_range
put_round_back-requires-clause-in_range c = exits_on_sides c.args.polygon.now c.args.exits.now c.requires.curve

pub leaving_partner-enters-requires : goal.leaving_partner-enters-requires
leaving_partner-enters-requires c = exits_on_sides c.args.polygon.now c.args.exits.now c.requires.curve

pub overflow_add-enters : goal.overflow_add-enters
overflow_add-enters c =
    omega (
      arith,
      c.leaving-leaves.type_inv,
      entering_end c.args.polygon.now c.requires.valid.pairs c.args.exits.now c.requires.curve c.args.side c.args.place c.args.count c.requires.side c.requires.count c.requires.place
          c.leaving-leaves.result c.leaving_partner-enters.result c.leaving-leaves.ensures c.if-leaves-exits.false c.leaving_partner-enters.ensures,
    )

pub put_round_back-requires-in-Plus-sign-clause-in_range : goal.put_round_back-requires-in-Plus-sign-clause-in_range
put_round_back-requires-in-Plus-sign-clause-in_range c = exits_on_sides c.args.polygon.now c.args.exits.now c.requires.curve

pub put_round_back-requires-in-Plus-sign-clause-start : goal.put_round_back-requires-in-Plus-sign-clause-start
put_round_back-requires-in-Plus-sign-clause-start c =
    entering_end c.args.polygon.now c.requires.valid.pairs c.args.exits.now c.requires.curve c.args.side c.args.place c.args.count c.requires.side c.requires.count c.requires.place
    c.leaving-leaves.result c.leaving_partner-enters.result c.leaving-leaves.ensures c.if-leaves-exits.false c.leaving_partner-enters.ensures

pub overflow_add-enters-in-Minus-sign : goal.overflow_add-enters-in-Minus-sign
overflow_add-enters-in-Minus-sign c =
    omega (
      arith,
      c.leaving-leaves.type_inv,
      entering_end c.args.polygon.now c.requires.valid.pairs c.args.exits.now c.requires.curve c.args.side c.args.place c.args.count c.requires.side c.requires.count c.requires.place
          c.leaving-leaves.result c.leaving_partner-enters.result c.leaving-leaves.ensures c.if-leaves-exits.false c.leaving_partner-enters.ensures,
    )

pub put_round-requires-in-Minus-sign : goal.put_round-requires-in-Minus-sign
put_round-requires-in-Minus-sign c =
    entering_end c.args.polygon.now c.requires.valid.pairs c.args.exits.now c.requires.curve c.args.side c.args.place c.args.count c.requires.side c.requires.count c.requires.place
    c.leaving-leaves.result c.leaving_partner-enters.result c.leaving-leaves.ensures c.if-leaves-exits.false c.leaving_partner-enters.ensures

pub returns-in-Plus-sign : goal.returns-in-Plus-sign
returns-in-Plus-sign c =
    let is = rho_entering c.args.polygon.now c.requires.valid.pairs c.args.exits.now c.requires.curve c.args.side c.args.place c.args.count c.requires.side c.requires.count c.requires.place
    c.leaving-leaves.result c.leaving_partner-enters.result c.leaving-leaves.ensures c.if-leaves-exits.false c.leaving_partner-enters.ensures in
    rw (c.in-Plus-sign.is, is) c.put_round_back-in-Plus-sign.ensures

pub returns-in-Minus-sign : goal.returns-in-Minus-sign
returns-in-Minus-sign c =
    let is = rho_entering c.args.polygon.now c.requires.valid.pairs c.args.exits.now c.requires.curve c.args.side c.args.place c.args.count c.requires.side c.requires.count c.requires.place
    c.leaving-leaves.result c.leaving_partner-enters.result c.leaving-leaves.ensures c.if-leaves-exits.false c.leaving_partner-enters.ensures in
    rw (c.in-Minus-sign.is, is, inverse-inverse c.args.polygon.now c.requires.valid.pairs (turned (c.leaving_partner-enters.result + 1) (map (λ e. e.side) c.args.exits.now)))
    c.put_round-in-Minus-sign.ensures
