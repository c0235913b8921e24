use Rattle.std.proofs.Common.{◌≡◌, ◌++◌, map, string_bytes}
use Rattle.group_types.specs.Sets.{in_order}
use Rattle.topic_meta.specs.Views.{all_named}
use Rattle.topic_meta.proofs.Found.{found}
use Rattle.topic_meta.proofs.image.Image.view.Given as goal

abbrev pub invariant-loop-name : goal.invariant-loop-name
invariant-loop-name l = all_named l.topics.items ++ found l.self (map string_bytes l.name-iterator) ≡ found l.self (in_order l.names)
