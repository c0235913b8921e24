use Rattle.std.proofs.Common.{rules, tests, List, [], ◌∷◌, refl, ◌≡◌, true, sym, ◌∙◌, ap, arith, ◌&&◌, length, map}
use Rattle.std.specs.List.{list_all}
use Rattle.std.proofs.lemmas.Iterator.{YieldsList-from_slice}
use Rattle.std.proofs.lemmas.Iterator.Search.{all_from_yields_List}
use Rattle.std.proofs.lemmas.Bool.{le-leb}
use Rattle.std.proofs.Math.ListN.{length-map}
use Rattle.std.proofs.lemmas.List.Folds.{list_all-map}
use Rattle.kip_msgs.specs.Views.{commit_request_partition_value, commit_request_topic_value}
use Rattle.kip_msgs.specs.declared.commit.CommitRequestTopic.{CommitRequestTopic}
use Rattle.member_core.specs.Writing.{is_few}
use Rattle.member_core.proofs.counts.few_offsets.Goals as goal

-- as many entries as values
same_tests : (ts : List CommitRequestTopic) → list_all (λ t. is_few (length t.partitions)) ts ≡ list_all (λ t. is_few (length (commit_request_topic_value t).partitions)) ts
same_tests [] = refl
same_tests (t ∷ ts) =
    ap (λ n. is_few n && list_all (λ u. is_few (length u.partitions)) ts) (sym (length-map t.partitions commit_request_partition_value))
    ∙ ap (λ b. is_few (length (commit_request_topic_value t).partitions) && b) (same_tests ts)

pub returns-then-topics-le-LARGEST_BODY : goal.returns-then-topics-le-LARGEST_BODY
returns-then-topics-le-LARGEST_BODY c =
    let all = all_from_yields_List (λ t. is_few (length t.partitions)) _ _ c.all.result c.all.ensures.ran (YieldsList-from_slice c.args.topics.now cc) (λ x b q k. search (rules, tests)) in
    let few : is_few (length (map commit_request_topic_value c.args.topics.now)) ≡ true = le-leb _ _ (simp length-map (omega arith)) in
    all ∙ same_tests c.args.topics.now ∙ sym (list_all-map (λ t. is_few (length t.partitions)) commit_request_topic_value c.args.topics.now)
    ∙ ap (λ b. b && list_all (λ t. is_few (length t.partitions)) (map commit_request_topic_value c.args.topics.now)) (sym few)
