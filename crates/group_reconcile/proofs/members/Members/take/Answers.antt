use Rattle.std.proofs.Common.{Some, None, refl, sym, subst, ap}
use Rattle.std.specs.Option.{option_map_or}
use Rattle.group_types.specs.Sets.{nothing}
use Rattle.group_reconcile.specs.Members.{IsIdOrder, TakesMember}
use Rattle.group_reconcile.proofs.Numbers.{Changes-of, IsIdOrder-without, IsIdOrderBut-remove, IsNumberOf-absent, IsNumberOf-found}
use Rattle.group_reconcile.proofs.members.Members.take.Goals as goal

pub returns-in_default : goal.returns-in_default
returns-in_default c =
    let ms = c.self.inside.members in
    let id = c.args.id.now in
    let place = c.in_default.ensures in
    subst (λ us. TakesMember us us id None) c.self.view_is
    (record { number = None; of_id = IsNumberOf-absent ms c.self.inside.by_id.items c.self.invariant id c.in_default.field-0 place; of_number = refl; others = λ k. refl })

pub invariant_of-self-2 : goal.invariant_of-self-2
invariant_of-self-2 c =
    let ms = c.self.inside.members in
    let us = c.try_remove.new.self in
    let n = c.in-Some.number in
    let ns = c.self.inside.by_id.items in
    let place = c.in-Ok.ensures in
    subst (IsIdOrder us) (sym c.in-Some.ensures.items)
    (IsIdOrder-without ms us n _ (IsIdOrderBut-remove ms ns c.in-Ok.place n c.self.invariant place.0 c.in-Some.ensures.value)
    (Changes-of ms us n None c.try_remove.ensures.updates))

pub returns : goal.returns
returns c =
    let ms = c.self.inside.members in
    let us = c.try_remove.new.self in
    let id = c.args.id.now in
    let n = c.in-Some.number in
    let place = c.in-Ok.ensures in
    subst (λ before. TakesMember before us id (Some c.in_ok-parts.field-0.parts)) c.self.view_is
    (record {
      number = Some n;
      of_id = IsNumberOf-found ms c.self.inside.by_id.items c.self.invariant id c.in-Ok.place n place c.in-Some.ensures.value;
      of_number = ap (λ o. Some (option_map_or (λ m. m.parts) o nothing)) c.in_ok-parts.ensures.value;
      others = Changes-of ms us n None c.try_remove.ensures.updates;
    })
