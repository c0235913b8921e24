use Rattle.std.proofs.Common.{rules, ◌≡◌, ap, sym, ◌∙◌, to_z, of_z, w32}
use Rattle.std.specs.FinMap as finite
use Rattle.std.proofs.lemmas.Result.{on_ok_weaker}
use Rattle.offset_guard.specs.Topics.{offset_in}
use Rattle.std.specs.String.{string_bytes}
use Rattle.offset_guard.proofs.Stores.{sets_topic, at_put, at_new}
use Rattle.offset_guard.proofs.store.put.Goals as goal

pub returns-in-Some : goal.returns-in-Some
returns-in-Some c =
    let old = c.args.topics.now in
    let name = c.args.name.now in
    let entry = c.insert.new.self in
    let new = c.get_mut.follows.lender entry in
    let index : to_z w32 (of_z w32 c.args.index) ≡ c.args.index = search rules in
    let follows = (c.get_mut.follows.holds entry).3 (search rules) in
    on_ok_weaker c.insert.result
    (λ is. at_put old new name entry (sets_topic old new name entry follows)
    c.in-Some.offsets.now.offsets (λ i. ap (λ o. offset_in o i) (sym c.in-Some.ensures.value))
    c.args.index c.args.committed (is ∙ ap (λ i. finite.insert c.in-Some.offsets.now.offsets i c.args.committed) index))
    c.insert.ensures

pub returns : goal.returns
returns c =
    let index : to_z w32 (of_z w32 c.args.index) ≡ c.args.index = search rules in
    let key = string_bytes c.in_ok-name.name in
    let before = c.get_mut.follows.lender-at-none in
    let new = c.insert-3.new.self in
    let entry = c.insert-2.new.self in
    at_new before c.args.topics.now new key c.args.name.now entry c.args.index c.args.committed
    c.get_mut.follows.holds-at-none c.in_ok-name.ensures.ok (sym c.in_default.ensures.value)
    (sets_topic before new key entry c.in_ok-insert-2.ensures.updates)
    (c.in_ok-insert.ensures ∙ (λ j. finite.insert (c.new-offsets.ensures j) (index j) c.args.committed))
