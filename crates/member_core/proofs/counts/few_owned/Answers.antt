use Rattle.std.proofs.Common.{rules, tests, ◌≡◌, true, sym, ◌∙◌, ap, arith, ◌&&◌, length, map, Some}
use Rattle.std.specs.List.{list_all}
use Rattle.std.specs.Option.{option_map}
use Rattle.std.proofs.lemmas.Iterator.{YieldsList-from_slice}
use Rattle.std.proofs.lemmas.Iterator.Search.{all_from_yields_List}
use Rattle.std.proofs.lemmas.Bool.{le-leb}
use Rattle.std.proofs.Math.ListN.{length-map}
use Rattle.std.proofs.lemmas.List.Folds.{list_all-map}
use Rattle.kip_msgs.specs.Topics.{topic_partitions_value, topic_partitions_values}
use Rattle.member_core.specs.Writing.{is_few, are_few_owned}
use Rattle.member_core.proofs.counts.few_owned.Goals as goal

pub returns-then-topics-le-LARGEST_BODY : goal.returns-then-topics-le-LARGEST_BODY
returns-then-topics-le-LARGEST_BODY c =
    let all = all_from_yields_List (λ t. is_few (length t.partitions)) _ _ c.all.result c.all.ensures.ran (YieldsList-from_slice c.as_slice-topics.result.now cc) (λ x b q k. search (rules, tests)) in
    let few : is_few (length (map topic_partitions_value c.as_slice-topics.result.now)) ≡ true = le-leb _ _ (simp length-map (omega arith)) in
    all ∙ sym (list_all-map (λ t. is_few (length t.partitions)) topic_partitions_value c.as_slice-topics.result.now)
    ∙ ap (λ b. b && list_all (λ t. is_few (length t.partitions)) (map topic_partitions_value c.as_slice-topics.result.now)) (sym few)
    ∙ ap (λ ts. are_few_owned (Some (map topic_partitions_value ts))) c.as_slice-topics.ensures
    ∙ ap (λ o. are_few_owned (option_map topic_partitions_values o)) (sym c.in-Some.is)
