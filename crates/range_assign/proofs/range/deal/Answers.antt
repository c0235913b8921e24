use Rattle.std.proofs.Common.{◌≡◌, refl, sym, ap, ◌∙◌, Some}
use Rattle.std.specs.List.{slice_get}
use Rattle.std.specs.Option.{option_map}
use Rattle.std.proofs.lemmas.Option.{same_Some, slice_get-map, slice_get_read}
use Rattle.range_assign.specs.Members.{subscriber_of, subscribers_in}
use Rattle.range_assign.specs.Turns.{IsDealt}
use Rattle.range_assign.proofs.range.deal.Goals as goal

pub returns-clause-share : goal.returns-clause-share
returns-clause-share c =
    let subs = subscribers_in c.args.members.now in
    let m = subscriber_of c.index-members-at.result in
    let here : slice_get subs c.args.at ≡ Some m =
    slice_get-map subscriber_of c.args.members.now c.args.at ∙ ap (option_map subscriber_of) (slice_get_read c.args.members.now _ c.args.at c.index-members-at.result refl c.requires.within c.index-members-at.is) in
    let dealt : IsDealt c.args.topics.now subs c.args.at (m.id, c.in_ok-set.set) = record {
      same_id = λ n there. ap (λ s. s.id) (same_Some m n (sym here ∙ there));
      set = c.in_ok-set.ensures.share;
    } in
    ((m.id, c.in_ok-set.set), dealt, c.in_ok-add_share.ensures)
