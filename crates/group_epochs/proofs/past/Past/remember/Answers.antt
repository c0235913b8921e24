use Rattle.std.proofs.Common.{rules, ◌≡◌, None, ap, ◌∙◌}
use Rattle.group_types.specs.Members.{past_stamp}
use Rattle.group_epochs.proofs.Remembered.{TakesOne, kept_behind, takes_one_without_oldest}
use Rattle.group_epochs.proofs.past.Past.remember.Goals as goal
use Rattle.group_epochs.proofs.past.Past.remember.Goals.{then-len-ge-MOST_PAST_MEMBERS, else-len-ge-MOST_PAST_MEMBERS}

takes_one : (c : goal.After-push_back_reserved-2) → TakesOne c.if-len-ge-MOST_PAST_MEMBERS.self-inside.entries.items c.if-len-ge-MOST_PAST_MEMBERS.self-inside.fingerprints.items c.if-len-ge-MOST_PAST_MEMBERS.self-inside.hasher c.args.id
takes_one c =
    let past = c.self.inside.entries.items in
    let none : past_stamp past c.args.id ≡ None = ap (λ s. past_stamp s.past c.args.id) c.self.view_is ∙ c.requires.new in
    elim c.if-len-ge-MOST_PAST_MEMBERS.branch [
      | then-len-ge-MOST_PAST_MEMBERS w ↦
          rw (w.self-inside-is, w.pop_front.ensures.rest, w.pop_front-then-len-ge-MOST_PAST_MEMBERS.ensures.rest)
          (takes_one_without_oldest past c.self.inside.fingerprints.items c.self.inside.hasher c.args.id c.self.invariant none)
      | else-len-ge-MOST_PAST_MEMBERS w ↦
          rw w.self-inside-is (record { kept = c.self.invariant; absent = none; place = search rules })
    ]

pub invariant_of-self : goal.invariant_of-self
invariant_of-self c =
    let i = c.if-len-ge-MOST_PAST_MEMBERS.self-inside in
    rw (c.push_back_reserved-2.ensures.items, c.push_back_reserved.ensures.items, c.fingerprint.ensures, c.as_str.ensures.value)
    (kept_behind i.entries.items i.fingerprints.items i.hasher c.args.id c.args.stamp (takes_one c))
