use Rattle.std.proofs.Common.{◌≡◌, is_some, not, false, true, sym, ap, ◌∙◌}
use Rattle.std.specs.List.{flat_map}
use Rattle.kip_msgs.specs.Views.{commit_request_value}
use Rattle.group_types.specs.Commit.{named_commitments, offsets_after}
use Rattle.group_epochs.specs.Request.{commit_of}
use Rattle.offset_guard.proofs.Commits.{with_offsets-absorbed, after_taken, after_refused}
use Rattle.offset_guard.proofs.offsets.Offsets.commit.Goals as goal
use Rattle.offset_guard.proofs.offsets.Offsets.commit.Goals.{then-is_none+in_ok-news+in_ok-absorb, else-is_none}

pub returns-clause-offsets : goal.returns-clause-offsets
returns-clause-offsets c =
    let old = c.args.self.now in
    let image = c.args.image.now in
    let commit = commit_of (commit_request_value c.args.request.now) in
    let refusal = c.refusal_of-refusal.result in
    elim c.if-is_none.branch [
      | then-is_none+in_ok-news+in_ok-absorb w ↦
          let taken : is_some refusal ≡ false = c.is_none.ensures ∙ ap not w.if-is_none.true in
          w.self-is
          ∙ with_offsets-absorbed image old w.in_ok-news.news w.absorb.new.self (flat_map named_commitments commit.topics) w.in_ok-news.ensures w.in_ok-absorb.ensures.absorbed
          ∙ sym (after_taken refusal old commit image taken)
          ∙ ap (λ r. offsets_after r old commit image) c.refusal_of-refusal.ensures
      | else-is_none w ↦
          let refused : is_some refusal ≡ true = c.is_none.ensures ∙ ap not w.if-is_none.false in
          w.self-is
          ∙ sym (after_refused refusal old commit image refused)
          ∙ ap (λ r. offsets_after r old commit image) c.refusal_of-refusal.ensures
    ]
