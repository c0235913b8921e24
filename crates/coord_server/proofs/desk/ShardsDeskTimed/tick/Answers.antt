use Rattle.coord_server.proofs.desk.ShardsDeskTimed.tick.Goals as goal

pub returns : goal.returns
returns g c = (c.tick_each.ensures.ticks, c.tick_each.ensures.others)
