use Rattle.std.proofs.Common.{is_some, true≢false, sym, ap, ◌∙◌}
use Rattle.std.specs.Prelude.{string_bytes}
use Rattle.std.specs.Str.{bytes_eq}
use Rattle.indexmap.proofs.MapLemmas.{Missing-position}
use Rattle.group_epochs.specs.Table.{with_beat}
use Rattle.group_epochs.proofs.Found.{rewrites_at, unwritten_at}
use Rattle.group_epochs.proofs.table.beat_marked.Goals as goal
use Rattle.group_epochs.proofs.table.beat_marked.Goals.{then-ne-via-then-ne, then-ne-via-else-ne+then-not-is_above}

pub returns-in_default-clause-marked : goal.returns-in_default-clause-marked
returns-in_default-clause-marked c = λ e found.
    let none = (Missing-position (λ key. bytes_eq c.args.id.now (string_bytes key)) c.args.members.now.entries (sym c.in_default.ensures.index)).value in
    absurd (true≢false (ap is_some (sym found ∙ none)))

pub returns-then-ne-clause-no : goal.returns-then-ne-clause-no
returns-then-ne-clause-no c = λ _.
    let same = unwritten_at c.args.members.now c.in-Some.place c.in-Some-get_index_mut.entry.now c.in-Some-get_index_mut.ensures.value in
    elim c.then-ne.branch [
      | then-ne-via-then-ne w ↦ w.members-is ∙ same
      | then-ne-via-else-ne+then-not-is_above w ↦ w.members-is ∙ same
    ]

pub returns-clause-yes : goal.returns-clause-yes
returns-clause-yes c = λ _.
    let entry = c.in-Some-get_index_mut.entry.now in
    let found = sym c.in-Some.ensures.value ∙ sym c.in-Some-get_index_mut.ensures.value in
    rewrites_at c.args.members.now c.args.id.now c.in-Some.place entry (record entry { kept = c.beat.new.self }) (with_beat c.args.stamp c.args.now)
    c.place_of.ensures.unique (sym c.in-Some.ensures.index) found (λ j. record entry { kept = c.beat.ensures j })
