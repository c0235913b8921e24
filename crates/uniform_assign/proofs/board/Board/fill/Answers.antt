use Rattle.std.proofs.Common.{◌≡◌, ◌<◌, ◌+◌, ℕ, length, take, Bool, true, false, not, Option, is_some, refl, sym, ap, subst, ◌∙◌, arith, Some, None}
use Rattle.std.specs.List.{slice_get}
use Rattle.std.proofs.lemmas.List.{take_all}
use Rattle.std.proofs.lemmas.Option.{slice_get_read, slice_get_within}
use Rattle.group_types.specs.declared.partition.Partition.{Partition}
use Rattle.group_types.specs.Text.{Text}
use Rattle.group_types.specs.Uniform.{AreFilled, in_partition_order}
use Rattle.uniform_assign.specs.declared.draft.Draft.{Draft}
use Rattle.uniform_assign.specs.declared.fill.Queue.{Queue}
use Rattle.uniform_assign.specs.Drafts.{IsDraft, drawn_on}
use Rattle.uniform_assign.specs.CountSets.{IsSetOf}
use Rattle.uniform_assign.proofs.Boards.{as_many_places, at_place}
use Rattle.uniform_assign.proofs.Filled.{AreFilled-next, Fills-owned}
use Rattle.uniform_assign.proofs.Lists.{some_at}
use Rattle.uniform_assign.proofs.board.Board.fill.Goals as goal
use Rattle.uniform_assign.proofs.board.Board.fill.Goals.{then-is_none+in_ok-turn_to, else-is_none}
use Rattle.uniform_assign.specs.Boards.{IsOfClass, members_on}

pub loop-at-init : goal.loop-at-init
loop-at-init c = (
  c.requires.draft,
  refl,
  λ takers is_takers.
      let low = slice_get_within c.args.self.now.takers.items c.len.result takers is_takers in
      let shown = c.len.ensures in
      let ok = c.args.self.now.takers.ok in
      absurd (omega arith),
)

no_owner : (o : Option ℕ) (b : Bool) → is_some o ≡ not b → b ≡ true → o ≡ None
no_owner None b is none = refl
no_owner (Some m) b is none = cc

some_owner : (o : Option ℕ) (b : Bool) → is_some o ≡ not b → b ≡ false → (m : ℕ) × (o ≡ Some m)
some_owner None b is none = cc
some_owner (Some m) b is none = (m, refl)

pub give_first-requires-clause-free : goal.give_first-requires-clause-free
give_first-requires-clause-free c =
    let owners = c.loop-at.draft.owners.items in
    let n = c.loop-at.at in
    let low = c.loop-at-test.true in
    let shown = c.len-at-end.ensures in
    let ok = c.args.self.now.places.ok in
    let many = c.loop-at.invariant.0.as_many_owners in
    slice_get_read owners (length owners) n c.index.result.now refl (omega arith) c.index.ensures ∙ ap Some (no_owner c.index.result.now c.is_none.result c.is_none.ensures c.if-is_none.true)

pub give_first-requires-clause-class : goal.give_first-requires-clause-class
give_first-requires-clause-class c = subst (IsOfClass c.args.self.now c.loop-at.at) (sym c.in_ok-turn_to.ensures.class) c.class_at.ensures.class

pub loop-at-preserved : goal.loop-at-preserved
loop-at-preserved c =
    let board = c.args.self.now in
    let subs = members_on board in
    let parts = in_partition_order board.view.now in
    let n = c.loop-at.at in
    let shown = c.len-at-end.ensures in
    let ok = board.places.ok in
    let below = c.loop-at-test.true in
    let (place, is_place) = some_at board.places.items n (omega arith) in
    let at = at_place board c.requires.board n place is_place in
    let draft = c.loop-at.draft in
    let (is_draft, filled, queue) = c.loop-at.invariant in
    let low = c.loop-at-test.true in
    let within : n < length draft.owners.items = let many = is_draft.as_many_owners in omega arith in
    let owner : slice_get draft.owners.items n ≡ Some c.index.result.now = slice_get_read draft.owners.items (length draft.owners.items) n c.index.result.now refl within c.index.ensures in
    let x : Text × Partition = (at.topic.0, place.partition) in
    let first = drawn_on board c.args.draft.now.owners.items in
    let spread = drawn_on board draft.owners.items in
    elim c.if-is_none.branch [
      | then-is_none+in_ok-turn_to w ↦
          let given = w.give_first.ensures in
          let new = w.give_first.new.draft in
          let turned = w.give_first.new.queue in
          let ranked = subst (λ t. IsSetOf board new t turned.counts) (sym given.class) given.queue in (
            subst (IsDraft board) (sym w.draft-is) given.draft,
            subst (λ (d : Draft). AreFilled subs first (take (n + 1) parts) (drawn_on board d.owners.items)) (sym w.draft-is)
                (AreFilled-next subs first spread (drawn_on board new.owners.items) parts n x at.is_part filled (given.filled x at.is_part)),
            subst (λ (q : Queue). IsSetOf board c.if-is_none.draft q.class q.counts) (sym w.queue-is) (subst (λ (d : Draft). IsSetOf board d turned.class turned.counts) (sym w.draft-is) ranked),
          )
      | else-is_none w ↦
          let (m, is_m) = some_owner c.index.result.now c.is_none.result c.is_none.ensures w.if-is_none.false in
          let fills = Fills-owned board draft c.requires.board.bare is_draft n x at.is_part m (owner ∙ ap Some is_m) in (
            subst (IsDraft board) (sym w.draft-is) is_draft,
            subst (λ (d : Draft). AreFilled subs first (take (n + 1) parts) (drawn_on board d.owners.items)) (sym w.draft-is) (AreFilled-next subs first spread spread parts n x at.is_part filled fills),
            subst (λ (q : Queue). IsSetOf board c.if-is_none.draft q.class q.counts) (sym w.queue-is) (subst (λ (d : Draft). IsSetOf board d c.loop-at.queue.class c.loop-at.queue.counts) (sym w.draft-is) queue),
          )
    ]

pub returns : goal.returns
returns c =
    let board = c.args.self.now in
    let parts = in_partition_order board.view.now in
    let shown = c.len-at-end.ensures in
    let ok = board.places.ok in
    let many = as_many_places board c.requires.board.bare in
    let last = c.loop-at-test.false in
    record {
      draft = c.loop-at.invariant.0;
      filled = subst (λ xs. AreFilled (members_on board) (drawn_on board c.args.draft.now.owners.items) xs (drawn_on board c.loop-at.draft.owners.items)) (take_all c.loop-at.at parts (omega arith)) c.loop-at.invariant.1;
    }
