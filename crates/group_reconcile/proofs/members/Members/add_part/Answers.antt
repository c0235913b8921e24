use Rattle.std.proofs.Common.{◌≡◌, Some, is_some, sym, ap}
use Rattle.slab.proofs.SlabLemmas.{Updates-with_value}
use Rattle.slab.specs.Slab.{get, with_value}
use Rattle.group_reconcile.specs.Members.{with_parts}
use Rattle.group_reconcile.proofs.Numbers.{Changes-of, IsIdOrder-parts}
use Rattle.group_reconcile.proofs.members.Members.add_part.Goals as goal
use Rattle.group_reconcile.proofs.members.Members.add_part.Goals.{in-Some+in_ok-insert, in_default}

pub invariant_of-self-2 : goal.invariant_of-self-2
invariant_of-self-2 c =
    elim c.match-get_mut.branch [
      | in-Some+in_ok-insert w ↦
          let ms = c.self.inside.members in
          let n = c.args.number in
          let m = w.in-Some.member.now in
          let parts = w.insert.new.self in
          let after = with_value ms n (with_parts parts m) in
          let was : get ms n ≡ Some m = sym w.in-Some.ensures.value in
          rw w.self-inside-is
          (IsIdOrder-parts ms after n m parts c.self.inside.by_id.items was
          (Changes-of ms after n (Some (with_parts parts m)) (Updates-with_value ms n (with_parts parts m) (ap is_some was))) c.self.invariant)
      | in_default w ↦ rw w.self-inside-is c.self.invariant
    ]
