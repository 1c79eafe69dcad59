use Rattle.handle_slide.proofs.CarriedTables.{exits_more}
use Rattle.handle_slide.proofs.carried.Carried.slid_exits.Goals as goal

pub loop-at-preserved : goal.loop-at-preserved
loop-at-preserved c =
    exits_more c.args.self.now.polygon c.args.self.now.side c.args.self.now.exits c.loop-at.at c.loop-at.exits.items c.put.new.exits.items c.put-in-loop-at.new.exits.items c.put-in-loop-at-2.new.exits.items
    c.through_new.result c.own.result c.through_partner.result c.loop-at.invariant c.through_new.ensures c.in_ok-put.ensures c.own.ensures c.in_ok-put-2.ensures c.through_partner.ensures c.in_ok-put-3.ensures
