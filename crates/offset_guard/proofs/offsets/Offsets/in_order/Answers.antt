use Rattle.std.proofs.Common.{◌≡◌, [], map, ap, sym, ◌++◌, ◌∙◌, append-nil}
use Rattle.std.specs.List.{flat_map}
use Rattle.std.specs.FinMap as finite
use Rattle.std.proofs.lemmas.List.{nil_from_length}
use Rattle.offset_guard.specs.Listing.{entries_of_topic, entry_of, named}
use Rattle.offset_guard.proofs.Listings.{entries-offsets_in}
use Rattle.offset_guard.proofs.offsets.Offsets.in_order.Goals as goal

pub returns : goal.returns
returns c =
    let none : c.loop-name.name-iterator.rest.items ≡ [] = nil_from_length _ (sym c.loop-name.name-iterator.rest.ok.0 ∙ c.in-None.ensures.steps.0) in
    sym (append-nil (map entry_of c.loop-name.list.items))
    ∙ ap (λ rest. map entry_of c.loop-name.list.items ++ flat_map entries_of_topic (map named rest)) (sym none)
    ∙ c.loop-name.invariant
    ∙ ap (λ v. flat_map entries_of_topic (map named v)) c.into_iter-name-iterator.ensures.into_iter_gives.0
    ∙ ap (flat_map entries_of_topic) c.in_ok-items.ensures
    ∙ entries-offsets_in c.self.inside.topics.entries
    ∙ ap finite.entries c.self.view_is
