use Rattle.std.proofs.Common.{◌≡◌, Result, Ok, Err, refl, sym, subst}
use Rattle.std.specs.Result.{IfOk, OnErr, OnOk}
use Rattle.kip_msgs.specs.Values.{CommitReplyValue}
use Rattle.kip_msgs.specs.Views.{commit_reply_value, commit_request_value}
use Rattle.group_types.specs.Topics.{Topics}
use Rattle.group_types.specs.Group.{Group, Offsets}
use Rattle.group_types.specs.Commit.{Commit, commit_reply, offsets_after, refusal_of_commit}
use Rattle.group_types.specs.Sound.{IsSound}
use Rattle.group_types.proofs.Runs.{committed_is_sound}
use Rattle.group_epochs.specs.Records.{Marks}
use Rattle.group_epochs.specs.Request.{commit_of}
use Rattle.offset_guard.specs.Replies.{commit_reply_value as value_of_reply}
use Rattle.group_core.specs.Commits.{Commits}
use Rattle.group_core.specs.GroupView.{group_of}
use Rattle.group_core.specs.Steady.{AreMarked}
use Rattle.group_core.proofs.Marking.{marked_at}
use Rattle.group_core.specs.Group.{GroupValue}
use Rattle.group_core.specs.GroupView.{group_view}
use Rattle.group_core.proofs.Results.{on_err}
use Rattle.group_core.proofs.Sinces.{value_on_err}
use Rattle.group_core.proofs.group.Group.commit.Goals as goal

-- what is answered, and the offsets that are stored, are the machine's step
stepped : {X E : Type 0} (r : Result X E) (value : X → CommitReplyValue) (g : Group) (c : Commit) (image : Topics) (offsets : Offsets)
    → IfOk r (λ reply. value reply ≡ value_of_reply (commit_reply (refusal_of_commit g.records c.member c.epoch) c image))
    → OnOk r (offsets ≡ offsets_after (refusal_of_commit g.records c.member c.epoch) g.offsets c image)
    → IfOk r (λ reply. Commits g c image (value reply) (record g { offsets = offsets }))
stepped (Ok reply) value g c image offsets says stores =
    record {
      reply = commit_reply (refusal_of_commit g.records c.member c.epoch) c image;
      step = record { answers = refl; stores = λ i. record g { offsets = stores i } };
      says = says;
    }
stepped (Err e) value g c image offsets says stores = tt

kept : {X E : Type 0} (r : Result X E) (g : Group) (offsets : Offsets) → OnErr r (offsets ≡ g.offsets) → OnErr r (record g { offsets = offsets } ≡ g)
kept (Ok reply) g offsets err = tt
kept (Err e) g offsets err = λ i. record g { offsets = err i }

-- a commit that is answered, or for which memory is short, leaves what holds of every group
holds_after : {X E : Type 0} (r : Result X E) (value : X → CommitReplyValue) (c : Commit) (image : Topics) (old new : Group) (marks : Marks)
    → IsSound old → AreMarked old marks → IfOk r (λ reply. Commits old c image (value reply) new) → OnErr r (new ≡ old) → IsSound new × AreMarked new marks
holds_after (Ok reply) value c image old new marks sound are step err = (
  committed_is_sound old c image step.reply new step.step sound,
  subst (λ (g : Group). AreMarked g marks) (sym step.step.stores) (marked_at old marks are old.epoch old.clock _),
)
holds_after (Err e) value c image old new marks sound are step err = (
  subst IsSound (sym err) sound,
  subst (λ (g : Group). AreMarked g marks) (sym err) are,
)

pub invariant_of-self : goal.invariant_of-self
invariant_of-self c =
    let s = c.self.inside.state in
    let g : Group = group_of s in
    let request = commit_of (commit_request_value c.args.request.now) in
    let step = stepped c.commit.result commit_reply_value g request c.args.image.now c.commit.new.self c.commit.ensures.reply c.commit.ensures.offsets in
    let after = holds_after c.commit.result commit_reply_value request c.args.image.now g (record g { offsets = c.commit.new.self }) s.records.marks
    c.self.invariant.sound c.self.invariant.marked step (kept c.commit.result g c.commit.new.self c.commit.ensures.err) in
    record { sound = after.0; marked = after.1 }

pub returns-clause-err : goal.returns-clause-err
returns-clause-err c =
    let s = c.self.inside.state in
    let g : Group = group_of s in
    subst (λ (v : GroupValue). OnErr c.commit.result (group_view (record { state = record s { offsets = c.commit.new.self } }) ≡ v)) c.self.view_is
    (value_on_err c.commit.result (record g { offsets = c.commit.new.self }) g s.grants s.grants
    (kept c.commit.result g c.commit.new.self c.commit.ensures.err) (on_err c.commit.result _ refl))
