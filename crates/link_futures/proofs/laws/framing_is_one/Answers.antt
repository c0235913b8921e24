use Rattle.link_futures.proofs.FramingLemmas.{FramingIsOne_by}
use Rattle.link_futures.proofs.laws.framing_is_one.Goals as goal

pub returns : goal.returns
returns c = FramingIsOne_by c.int32_begins_no_other.ensures
