use Rattle.std.proofs.Common.{rules, ap, ◌∙◌}
use Rattle.std.specs.Str.{bytes_eq}
use Rattle.std.specs.String.{string_bytes}
use Rattle.indexmap.specs.IndexMap.{get_by_text}
use Rattle.offset_guard.proofs.Stores.{sets_topic, at_other}
use Rattle.offset_guard.proofs.store.append_topic.Goals as goal

pub returns-in-Some-clause-others : goal.returns-in-Some-clause-others
returns-in-Some-clause-others c other apart =
    let name = c.as_str.result.now in
    let entry = c.append.new.self in
    let new = c.get_mut.follows.lender entry in
    let follows = (c.get_mut.follows.holds entry).3 (search rules) in
    at_other c.args.topics.now new name entry (sets_topic c.args.topics.now new name entry follows) other
    (ap (λ n. bytes_eq n other) c.as_str.ensures.value ∙ apart)

pub returns-in-Ok-clause-others : goal.returns-in-Ok-clause-others
returns-in-Ok-clause-others c other apart =
    let name = string_bytes c.args.name in
    let old = c.get_mut.follows.lender-at-none in
    let new = c.insert.new.self in
    at_other old new name c.args.news (sets_topic old new name c.args.news c.in-Ok.ensures.updates) other apart
    ∙ ap (λ m. get_by_text m other) c.get_mut.follows.holds-at-none
