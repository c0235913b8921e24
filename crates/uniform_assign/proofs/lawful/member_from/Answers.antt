use Rattle.std.proofs.Common.{length, refl, sym, ap, ◌∙◌}
use Rattle.std.proofs.lemmas.Option.{slice_get_read}
use Rattle.std.proofs.lemmas.Slice.Eq.{bytes_eq-Decides}
use Rattle.range_assign.specs.declared.subs.Subscriber.{Subscriber}
use Rattle.range_assign.specs.Members.{subscriber_of}
use Rattle.uniform_assign.proofs.Lists.{slice_get-map_at}
use Rattle.uniform_assign.proofs.lawful.member_from.Goals as goal

pub returns-then-is : goal.returns-then-is
returns-then-is c =
    let members = c.args.members.now in
    let m = c.index-members-at.result in (
      subscriber_of m,
      slice_get-map_at subscriber_of members c.loop-at.at m (slice_get_read members (length members) c.loop-at.at m refl c.loop-at-test.true c.index-members-at.is),
      ap (λ (x : Subscriber). x.id.now) c.index-members-at.is ∙ (bytes_eq-Decides _ c.args.id.now).0 (sym c.is.ensures.value ∙ c.if-is.true),
    )
