use Rattle.std.proofs.Common.{◌≡◌, ◌+◌, ℕ, Option, None, Some, length, get_or, slice_get, refl, sym, ap, subst, ◌∙◌, arith, inl, inr}
use Rattle.std.specs.Global.{Vec}
use Rattle.std.specs.FinMap as finite
use Rattle.std.specs.Option.{option_map}
use Rattle.std.proofs.lemmas.Bool.{cases_lt}
use Rattle.std.proofs.lemmas.List.{get_or-replicate, length-replicate}
use Rattle.std.proofs.lemmas.Option.{slice_get-map, slice_get_read, slice_get_within}
use Rattle.group_types.specs.Owners.{IsShare}
use Rattle.range_assign.specs.declared.subs.Subscriber.{Subscriber}
use Rattle.range_assign.specs.Members.{subscriber_of, subscribers_in}
use Rattle.uniform_assign.proofs.FormerOwners.{IsFormerTo, IsFormerTo-none, IsFormerTo-share, IsFormerTo-skip}
use Rattle.uniform_assign.proofs.board.Board.former_owners.Goals as goal
use Rattle.uniform_assign.proofs.board.Board.former_owners.Goals.{in-Some, in_default}

pub loop-at-init : goal.loop-at-init
loop-at-init c =
    let former = c.args.former.now in
    let subs = subscribers_in c.args.members.now in
    let places = c.args.self.now.places in
    let ok = places.ok in
    let len = c.len.ensures in
    let items = c.in_ok-owners.ensures in
    let long = ap length items ∙ length-replicate c.len.result None in (
      omega arith,
      λ k place is_place.
          let low = slice_get_within places.items k place is_place in
          let none = ap (λ xs. get_or xs k None) items ∙ get_or-replicate c.len.result k None None (omega arith) in
          subst (IsFormerTo former subs 0 place.partition) (sym none) (IsFormerTo-none former subs place.partition),
    )

pub loop-at-preserved : goal.loop-at-preserved
loop-at-preserved c =
    let former = c.args.former.now in
    let members = c.args.members.now in
    let subs = subscribers_in members in
    let n = c.loop-at.at in
    let m = c.index-members-at.result in
    let (many, are) = c.loop-at.invariant in
    let here : slice_get subs n ≡ Some (subscriber_of m) =
    slice_get-map subscriber_of members n ∙ ap (option_map subscriber_of) (slice_get_read members (length members) n m refl (omega (arith, c.loop-at-test.true, c.last_owner_end-at-end.ensures.within)) c.index-members-at.is) in
    elim c.match-share_near.branch [
      | in-Some w ↦ (
        ap (λ (v : Vec (Option ℕ)). length v.items) w.owners-is ∙ w.add_share.ensures.as_many ∙ many,
        λ k place is_place.
            subst (λ (v : Vec (Option ℕ)). IsFormerTo former subs (n + 1) place.partition (get_or v.items k None)) (sym w.owners-is)
            (IsFormerTo-share former subs n (subscriber_of m) here place.partition (get_or c.loop-at.owners.items k None) (are k place is_place) c.requires.apart w.in-Some.set.now
            (get_or w.add_share.new.owners.items k None) (subst (λ id. IsShare former id w.in-Some.set.now) (c.as_str.ensures.value ∙ ap (λ (x : Subscriber). x.id.now) (sym c.index-members-at.is)) w.in-Some.ensures) (w.add_share.ensures.shared k place is_place)),
      )
      | in_default w ↦ (
        ap (λ (v : Vec (Option ℕ)). length v.items) w.owners-is ∙ many,
        λ k place is_place.
            subst (λ (v : Vec (Option ℕ)). IsFormerTo former subs (n + 1) place.partition (get_or v.items k None)) (sym w.owners-is)
            (IsFormerTo-skip former subs n (subscriber_of m) here place.partition (get_or c.loop-at.owners.items k None) (are k place is_place)
            (subst (λ id. ¬ (finite.get former place.partition ≡ Some id)) (c.as_str.ensures.value ∙ ap (λ (x : Subscriber). x.id.now) (sym c.index-members-at.is)) (w.in_default.ensures place.partition))),
      )
    ]

pub returns-clause-owners : goal.returns-clause-owners
returns-clause-owners c = λ k m place is_place.
    let former = c.loop-at.invariant.1 k place is_place m in (
      λ is. (former.0 is).1,
      λ owner. former.1 (
        elim (cases_lt m c.last_owner_end-at-end.result) [
          | inl below ↦ let last = c.loop-at-test.false in omega (arith, below, last)
          | inr behind ↦ absurd (c.last_owner_end-at-end.ensures.none m owner.member place.partition behind owner.is_member owner.owned)
        ],
        owner,
      ),
    )
