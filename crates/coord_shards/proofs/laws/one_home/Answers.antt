use Rattle.std.proofs.Common.{sym, ap, ◌∙◌, inl, inr}
use Rattle.coord_shards.specs.declared.event.Event.TheVariants.{Frame, Tick, Image}
use Rattle.coord_node.specs.Parsed.{group_named}
use Rattle.coord_shards.specs.Home.{OneHome, shard_of_group}
use Rattle.kip_msgs.specs.Laws.{OneRequestABody}
use Rattle.coord_shards.proofs.laws.one_home.Goals as goal

homes-are_one : OneRequestABody → OneHome
homes-are_one one_request shards (Frame body stamp moment) one other (inl (v, request_v, is_v)) (inl (w, request_w, is_w)) =
    is_v ∙ ap (λ r. shard_of_group shards (group_named r)) (one_request v w body request_v.spells request_w.spells) ∙ sym is_w
homes-are_one one_request shards (Frame body stamp moment) one other (inl (v, request_v, is_v)) (inr none) = absurd (none.0 v request_v)
homes-are_one one_request shards (Frame body stamp moment) one other (inr none) (inl (w, request_w, is_w)) = absurd (none.0 w request_w)
homes-are_one one_request shards (Frame body stamp moment) one other (inr none) (inr none') = none.1 ∙ sym none'.1
homes-are_one one_request shards (Tick shard moment) one other is is' = is ∙ sym is'
homes-are_one one_request shards (Image shard image) one other is is' = is ∙ sym is'

pub returns : goal.returns
returns c = homes-are_one c.one_request_a_body.ensures
