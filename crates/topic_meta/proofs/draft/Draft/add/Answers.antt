use Rattle.std.proofs.Common.{◌≡◌, Bool, true, false, not, refl, sym, ap, ◌∙◌, inr, is_some, true≢false}
use Rattle.std.specs.BTreeMap.{get_by_text}
use Rattle.topic_meta.specs.Images.{entry_of, is_count}
use Rattle.topic_meta.proofs.Drafts.{fault-duplicate_name, fault-duplicate_id, fault-none, draft-push, ids-updated}
use Rattle.topic_meta.proofs.draft.Draft.add.Goals as goal

not_to_true : (b : Bool) → not b ≡ false → b ≡ true
not_to_true true h = refl
not_to_true false h = absurd (true≢false h)

not_to_false : (b : Bool) → not b ≡ true → b ≡ false
not_to_false true h = absurd (true≢false (sym h))
not_to_false false h = refl

pub returns-then-contains_key-clause-refused : goal.returns-then-contains_key-clause-refused
returns-then-contains_key-clause-refused c = λ earlier is.
    inr (fault-duplicate_name earlier c.args.self.now (entry_of c.args.entry) is
    (ap is_count (sym c.partitions-count.ensures) ∙ sym c.is_in_range.ensures ∙ c.if-not-is_in_range.false)
    (ap (λ bs. is_some (get_by_text c.args.self.now.topics bs)) (sym c.as_str.ensures.value) ∙ sym c.contains_key.ensures ∙ c.if-contains_key.true))

pub returns-then-not-branch-clause-refused : goal.returns-then-not-branch-clause-refused
returns-then-not-branch-clause-refused c = λ earlier is.
    inr (fault-duplicate_id earlier c.args.self.now (entry_of c.args.entry) is
    (ap is_count (sym c.partitions-count.ensures) ∙ sym c.is_in_range.ensures ∙ c.if-not-is_in_range.false)
    (ap (λ bs. is_some (get_by_text c.args.self.now.topics bs)) (sym c.as_str.ensures.value) ∙ sym c.contains_key.ensures ∙ c.if-contains_key.false)
    (not_to_true _ (sym c.in_ok-insert.ensures.added ∙ c.if-not-branch.true)))

pub returns-clause-taken : goal.returns-clause-taken
returns-clause-taken c = λ earlier is.
    let free : is_some (get_by_text c.args.self.now.topics (entry_of c.args.entry).name) ≡ false =
    ap (λ bs. is_some (get_by_text c.args.self.now.topics bs)) (sym c.as_str.ensures.value) ∙ sym c.contains_key.ensures ∙ c.if-contains_key.false in (
      fault-none earlier c.args.self.now (entry_of c.args.entry) is
          (ap is_count (sym c.partitions-count.ensures) ∙ sym c.is_in_range.ensures ∙ c.if-not-is_in_range.false)
          free
          (not_to_false _ (sym c.in_ok-insert.ensures.added ∙ c.if-not-branch.false)),
      draft-push earlier c.args.self.now (record { topics = c.insert-2.new.self; ids = c.insert.new.self }) (entry_of c.args.entry)
          (record { id = c.args.entry.id; count = c.partitions-count.result }) is free
          (ap (λ n. record { id = c.args.entry.id; count = n }) c.partitions-count.ensures)
          c.in_ok-insert-2.ensures.updates
          (ids-updated c.args.self.now.ids c.insert.new.self c.args.entry.id c.in_ok-insert.ensures.updates),
    )
