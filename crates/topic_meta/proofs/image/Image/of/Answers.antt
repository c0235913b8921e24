use Rattle.std.proofs.Common.{◌≡◌, false, true≢false, length, sym, ap, ◌∙◌, inl, inr}
use Rattle.std.proofs.lemmas.Result.{err_from_is_err_and}
use Rattle.std.proofs.lemmas.Iterator.Adapters.{YieldsList-from_vec}
use Rattle.std.proofs.lemmas.Iterator.Consumers.{YieldsList-end}
use Rattle.topic_meta.specs.Images.{entries_of, is_too_many}
use Rattle.topic_meta.proofs.Reading.{reading-start, reading-more, reading-fault, first_fault-of_short, nothing_to_come, reading-no_fault, reading-topics, reading-AreImageTopics}
use Rattle.topic_meta.proofs.image.Image.of.Goals as goal

pub loop-entry-init : goal.loop-entry-init
loop-entry-init c = reading-start _ _ _ c.into_iter-entry-iterator.ensures.into_iter_gives.0 c.new-draft.ensures

pub loop-entry-preserved : goal.loop-entry-preserved
loop-entry-preserved c =
    let taken = c.in_ok-add.ensures.taken (entries_of c.loop-entry.yielded) c.loop-entry.invariant.drafted in
    reading-more _ _ _ _ c.loop-entry.draft _ c.in-Some.ensures.steps.0 c.loop-entry.invariant _ taken.0 c.in_ok-add.ensures.sixteen taken.1

pub returns-in_err-add-clause-refused : goal.returns-in_err-add-clause-refused
returns-in_err-add-clause-refused c =
    let short : is_too_many (entries_of c.args.list.items) ≡ false =
    ap (λ list. is_too_many (entries_of list)) (sym c.deref.ensures.value) ∙ sym c.is_past_the_limits.ensures ∙ c.if-is_past_the_limits.false in
    let p = err_from_is_err_and c.from_residual.result c.from_residual.ensures.1 in
    rw (p.1, p.2) (elim (c.in_err-add.ensures.refused (entries_of c.loop-entry.yielded) c.loop-entry.invariant.drafted) [
      | inl h ↦ inl h
      | inr h ↦ inr (first_fault-of_short (entries_of c.args.list.items) short ∙ reading-fault _ _ _ _ c.loop-entry.draft _ c.in-Some.ensures.steps.0 c.loop-entry.invariant _ h)
    ])

pub returns-in_err-add-clause-past_the_limits : goal.returns-in_err-add-clause-past_the_limits
returns-in_err-add-clause-past_the_limits c = λ past.
    let short : is_too_many (entries_of c.args.list.items) ≡ false =
    ap (λ list. is_too_many (entries_of list)) (sym c.deref.ensures.value) ∙ sym c.is_past_the_limits.ensures ∙ c.if-is_past_the_limits.false in
    absurd (true≢false (sym past ∙ short))

pub returns-clause-past_the_limits : goal.returns-clause-past_the_limits
returns-clause-past_the_limits c = λ past.
    let short : is_too_many (entries_of c.args.list.items) ≡ false =
    ap (λ list. is_too_many (entries_of list)) (sym c.deref.ensures.value) ∙ sym c.is_past_the_limits.ensures ∙ c.if-is_past_the_limits.false in
    absurd (true≢false (sym past ∙ short))

pub invariant_of-result : goal.invariant_of-result
invariant_of-result c =
    let short : is_too_many (entries_of c.args.list.items) ≡ false =
    ap (λ list. is_too_many (entries_of list)) (sym c.deref.ensures.value) ∙ sym c.is_past_the_limits.ensures ∙ c.if-is_past_the_limits.false in
    let gives = c.into_iter-entry-iterator.ensures.into_iter_gives in
    let ended = YieldsList-end (YieldsList-from_vec c.args.list.items gives.0 (gives.1 ∙ sym c.deref.ensures.len ∙ ap length c.deref.ensures.value)) c.loop-entry.yielded c.loop-entry.entry-iterator c.loop-entry.yielded_by c.next.result c.next.new.self c.in-None.is c.next.ensures.steps in
    reading-AreImageTopics _ _ _ c.loop-entry.draft short (nothing_to_come _ _ _ c.loop-entry.invariant.parts ended.1) c.loop-entry.invariant

pub returns-clause-accepted : goal.returns-clause-accepted
returns-clause-accepted c =
    let short : is_too_many (entries_of c.args.list.items) ≡ false =
    ap (λ list. is_too_many (entries_of list)) (sym c.deref.ensures.value) ∙ sym c.is_past_the_limits.ensures ∙ c.if-is_past_the_limits.false in
    let gives = c.into_iter-entry-iterator.ensures.into_iter_gives in
    let counted = YieldsList-end (YieldsList-from_vec c.args.list.items gives.0 (gives.1 ∙ sym c.deref.ensures.len ∙ ap length c.deref.ensures.value)) c.loop-entry.yielded c.loop-entry.entry-iterator c.loop-entry.yielded_by c.next.result c.next.new.self c.in-None.is c.next.ensures.steps in
    let ended = nothing_to_come _ _ _ c.loop-entry.invariant.parts counted.1 in
    (reading-no_fault _ _ _ c.loop-entry.draft short ended c.loop-entry.invariant, reading-topics _ _ _ c.loop-entry.draft short ended c.loop-entry.invariant)
