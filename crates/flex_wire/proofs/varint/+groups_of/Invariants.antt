use Rattle.flex_wire.proofs.varint.+groups_of.Given as goal

abbrev pub decreases-groups_of : goal.decreases-groups_of
decreases-groups_of l = l.more
