use Rattle.std.proofs.Common.{◌≡◌, length, replicate, Ok, Err, IfOk, sym, subst, ◌∙◌, arith, None}
use Rattle.std.proofs.lemmas.List.{length-map}
use Rattle.std.proofs.lemmas.Result.{IfOk-weaker}
use Rattle.group_types.specs.Uniform.{IsKept, in_partition_order}
use Rattle.range_assign.specs.Members.{subscriber_of}
use Rattle.uniform_assign.specs.Boards.{members_on}
use Rattle.uniform_assign.specs.Drafts.{IsDraft, drawn_on}
use Rattle.uniform_assign.specs.Former.{OwnNothingFrom}
use Rattle.uniform_assign.proofs.Boards.{parts_are_apart}
use Rattle.uniform_assign.proofs.Kept.{AreKeptTo-nobody, IsDraft-none, IsKept-of}
use Rattle.uniform_assign.proofs.board.Board.kept.Goals as goal

pub returns-then-last_owner_end-eq0-clause-draft : goal.returns-then-last_owner_end-eq0-clause-draft
returns-then-last_owner_end-eq0-clause-draft c =
    let board = c.args.self.now in
    let many = length board.members.now in
    let members = sym (length-map board.members.now subscriber_of) in
    elim c.new.result as (λ r. IfOk r (λ d. d.owners.items ≡ replicate c.len.result None) → IfOk r (λ d. d.counts.items ≡ replicate many 0) → IfOk r (IsDraft board)) [
      | Ok d ↦ λ owners counts. IsDraft-none board d c.len.result many owners counts (c.len.ensures ∙ board.places.ok.0) members
      | Err e ↦ λ owners counts. tt
    ] c.new.ensures.owners c.new.ensures.counts

pub returns-then-last_owner_end-eq0-clause-kept : goal.returns-then-last_owner_end-eq0-clause-kept
returns-then-last_owner_end-eq0-clause-kept c =
    let board = c.args.self.now in
    let subs = members_on board in
    let former = c.args.former.now in
    let parts = in_partition_order board.view.now in
    let nobody = subst (OwnNothingFrom former subs) c.if-last_owner_end-eq0.true c.last_owner_end.ensures.none in
    IfOk-weaker c.new.result (λ d. d.owners.items ≡ replicate c.len.result None) (λ d. IsKept board.view.now subs former (drawn_on board d.owners.items))
    (λ d owners. IsKept-of board.view.now subs former (length parts) d.owners.items (parts_are_apart board c.requires) (omega arith) (AreKeptTo-nobody former subs parts d.owners.items c.len.result (length parts) owners nobody))
    c.new.ensures.owners
