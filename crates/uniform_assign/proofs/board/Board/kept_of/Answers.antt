use Rattle.std.proofs.Common.{◌≡◌, ◌<◌, ◌+◌, ℕ, List, Option, get_or, length, sym, ap, subst, ◌∙◌, arith, Some, None}
use Rattle.std.specs.FinMap as finite
use Rattle.std.specs.List.{slice_get}
use Rattle.std.proofs.lemmas.List.{get_or_default, length-map}
use Rattle.std.proofs.lemmas.Option.{same_Some, slice_get_within}
use Rattle.group_types.specs.declared.partition.Partition.{Partition}
use Rattle.group_types.specs.Text.{Text}
use Rattle.group_types.specs.Uniform.{in_partition_order}
use Rattle.range_assign.specs.Members.{subscriber_of}
use Rattle.uniform_assign.specs.declared.draft.Draft.{Draft}
use Rattle.uniform_assign.specs.Drafts.{IsDraft}
use Rattle.uniform_assign.proofs.Boards.{as_many_places, part_at, parts_are_apart, place_here}
use Rattle.uniform_assign.proofs.Kept.{AreKeptTo, AreKeptTo-give, AreKeptTo-none, AreKeptTo-skip, IsDraft-none, IsKept-of, Keeps, Keeps-of, Keeps-owner, Keeps-subscribes}
use Rattle.uniform_assign.proofs.Moves.{IsDraft-give}
use Rattle.uniform_assign.proofs.board.Board.kept_of.Goals as goal
use Rattle.uniform_assign.proofs.board.Board.kept_of.Goals.{in-Some+then-takes, in-Some+else-takes, in_default}
use Rattle.std.specs.Global.{Vec}
use Rattle.uniform_assign.specs.Boards.{AreKnown, members_on}
use Rattle.uniform_assign.proofs.Known.{AreKnown-none}

-- the former owner that was read
read : (owners : List (Option ℕ)) (k : ℕ) (o : Option ℕ) (m : ℕ) → k < length owners → o ≡ get_or owners k o → o ≡ Some m → get_or owners k None ≡ Some m
read owners k o m within is same = get_or_default owners k None o within ∙ sym is ∙ same

pub loop-at-init : goal.loop-at-init
loop-at-init c =
    let draft = c.in_ok-draft.draft in
    let subs = members_on c.args.self.now in
    let parts = in_partition_order c.args.self.now.view.now in
    let members = sym (length-map c.args.self.now.members.now subscriber_of) in (
      IsDraft-none c.args.self.now draft c.len.result (length c.args.self.now.members.now) c.in_ok-draft.ensures.owners c.in_ok-draft.ensures.counts (c.len.ensures ∙ c.args.self.now.places.ok.0) members,
      AreKeptTo-none c.args.former.now subs parts draft.owners.items c.len.result c.in_ok-draft.ensures.owners,
      AreKnown-none c.args.self.now c.in_ok-known.known.items (length c.args.self.now.members.now) c.in_ok-known.ensures members,
    )

pub takes-requires : goal.takes-requires
takes-requires c =
    let board = c.args.self.now in
    let place = c.place-item.result in
    let at = part_at board c.requires c.loop-at.at place (place_here c.deref-place-items.result.now board.places.items c.loop-at.at place c.deref-place-items.ensures.value c.loop-at-test.true c.place-item.is) in
    let here = place_here c.deref-place-items.result.now board.places.items c.loop-at.at place c.deref-place-items.ensures.value c.loop-at-test.true c.place-item.is in
    let owner = (c.in_ok-owners.ensures.owners c.loop-at.at c.in-Some.member place here).0 (read c.in_ok-owners.owners.items c.loop-at.at c.index.result.now c.in-Some.member (let as_many = c.in_ok-owners.ensures.as_many in let shown = ap length c.deref-place-items.ensures.value in let within = c.loop-at-test.true in omega arith) c.index.ensures c.in-Some.is) in
    record {
      member_in = slice_get_within (members_on board) c.in-Some.member owner.member owner.is_member;
      topic_in = slice_get_within (finite.entries board.view.now) place.topic at.topic at.is_topic;
      known = c.loop-at.invariant.2;
    }

pub give-requires : goal.give-requires
give-requires c =
    let board = c.args.self.now in
    let place = c.place-item.result in
    let here = place_here c.deref-place-items.result.now board.places.items c.loop-at.at place c.deref-place-items.ensures.value c.loop-at-test.true c.place-item.is in
    let owner = (c.in_ok-owners.ensures.owners c.loop-at.at c.in-Some.member place here).0 (read c.in_ok-owners.owners.items c.loop-at.at c.index.result.now c.in-Some.member (let as_many = c.in_ok-owners.ensures.as_many in let shown = ap length c.deref-place-items.ensures.value in let within = c.loop-at-test.true in omega arith) c.index.ensures c.in-Some.is) in
    let member = slice_get_within (members_on board) c.in-Some.member owner.member owner.is_member in
    let low = c.loop-at-test.true in
    let places = ap length c.deref-place-items.ensures.value in
    let owners = c.loop-at.invariant.0.as_many_owners in
    let counts = c.loop-at.invariant.0.as_many_counts in
    record { partition_in = omega arith; member_in = omega arith; counts = c.loop-at.invariant.0.counts }

pub loop-at-preserved : goal.loop-at-preserved
loop-at-preserved c =
    let board = c.args.self.now in
    let former = c.args.former.now in
    let subs = members_on board in
    let parts = in_partition_order board.view.now in
    let n = c.loop-at.at in
    let place = c.place-item.result in
    let at = part_at board c.requires n place (place_here c.deref-place-items.result.now board.places.items n place c.deref-place-items.ensures.value c.loop-at-test.true c.place-item.is) in
    let owners = c.loop-at.draft.owners.items in
    let (draft, kept, known) = c.loop-at.invariant in
    let low = c.loop-at-test.true in
    let within : n < length owners = let places = ap length c.deref-place-items.ensures.value in let many = draft.as_many_owners in omega arith in
    let here = place_here c.deref-place-items.result.now board.places.items n place c.deref-place-items.ensures.value low c.place-item.is in
    let in_owners : n < length c.in_ok-owners.owners.items = let as_many = c.in_ok-owners.ensures.as_many in let places = ap length c.deref-place-items.ensures.value in omega arith in
    let x : Text × Partition = (at.topic.0, place.partition) in
    elim c.match-index.branch [
      | in-Some+then-takes w ↦
          let m = w.in-Some.member in
          let owner = (c.in_ok-owners.ensures.owners n m place here).0 (read c.in_ok-owners.owners.items n c.index.result.now m in_owners c.index.ensures w.in-Some.is) in
          let takes = sym (w.if-takes.ensures.takes owner.member at.topic owner.is_member at.is_topic) in
          let keeps = Keeps-of former subs parts n m x owner.member at.is_part owner.is_member owner takes in
          let given = ap (λ (d : Draft). d.owners.items) w.draft-is ∙ w.give.ensures.owners in (
            subst (IsDraft board) (sym w.draft-is) (IsDraft-give board c.loop-at.draft w.give.new.self n (Some m) draft w.give.ensures.owners w.give.ensures.as_many w.give.ensures.counts),
            subst (AreKeptTo former subs parts (n + 1)) (sym given) (AreKeptTo-give former subs parts n m owners kept within c.requires.apart keeps),
            subst (λ (v : Vec (Option ℕ)). AreKnown board v.items) (sym w.known-is) w.takes.ensures.known,
          )
      | in-Some+else-takes w ↦
          let m = w.in-Some.member in
          let owner = (c.in_ok-owners.ensures.owners n m place here).0 (read c.in_ok-owners.owners.items n c.index.result.now m in_owners c.index.ensures w.in-Some.is) in
          let away = sym (w.if-takes.ensures.takes owner.member at.topic owner.is_member at.is_topic) in
          let nobody : (j : ℕ) → ¬ Keeps former subs parts n j = λ j keeps.
          let other = Keeps-owner former subs parts n j x at.is_part keeps in
          let ids : owner.member.id ≡ other.member.id = same_Some owner.member.id other.member.id (sym owner.owned ∙ other.owned) in
          let same : m ≡ j = c.requires.apart m j owner.member other.member owner.is_member other.is_member ids in
          let there = Keeps-subscribes former subs parts n j x owner.member at.is_part (ap (slice_get subs) (sym same) ∙ owner.is_member) keeps in
          cc in (
            subst (IsDraft board) (sym w.draft-is) draft,
            subst (λ (d : Draft). AreKeptTo former subs parts (n + 1) d.owners.items) (sym w.draft-is) (AreKeptTo-skip former subs parts n owners kept within nobody),
            subst (λ (v : Vec (Option ℕ)). AreKnown board v.items) (sym w.known-is) w.takes.ensures.known,
          )
      | in_default w ↦
          let nobody : (j : ℕ) → ¬ Keeps former subs parts n j = λ j keeps.
          let other = Keeps-owner former subs parts n j x at.is_part keeps in
          let found = (c.in_ok-owners.ensures.owners n j place here).1 other in
          let none = w.in_default.is in
          let shown = get_or_default c.in_ok-owners.owners.items n None c.index.result.now in_owners in
          let value = c.index.ensures in
          cc in (
            subst (IsDraft board) (sym w.draft-is) draft,
            subst (λ (d : Draft). AreKeptTo former subs parts (n + 1) d.owners.items) (sym w.draft-is) (AreKeptTo-skip former subs parts n owners kept within nobody),
            subst (λ (v : Vec (Option ℕ)). AreKnown board v.items) (sym w.known-is) known,
          )
    ]

pub returns : goal.returns
returns c =
    let board = c.args.self.now in
    let places = ap length c.deref-place-items.ensures.value in
    let many = as_many_places board c.requires in
    let last = c.loop-at-test.false in
    record {
      draft = c.loop-at.invariant.0;
      kept = IsKept-of board.view.now (members_on board) c.args.former.now c.loop-at.at c.loop-at.draft.owners.items (parts_are_apart board c.requires) (omega arith) c.loop-at.invariant.1;
    }
