use Rattle.std.proofs.Common.{◌≡◌, Some, true, sym, ap, ◌∙◌}
use Rattle.std.specs.Prelude.{position, string_bytes}
use Rattle.std.specs.Map.{keys_of}
use Rattle.std.specs.Str.{bytes_eq}
use Rattle.indexmap.proofs.MapLemmas.{Found-position}
use Rattle.group_epochs.proofs.Found.{first_of_text}
use Rattle.group_epochs.proofs.lookup.place_of.Given.{Over}
use Rattle.group_epochs.proofs.lookup.place_of.Goals as goal

-- the text stands where the last was found
here : (g : Over) (c : goal.Then-eq g) → position (λ key. bytes_eq c.args.text.now (string_bytes key)) (keys_of c.args.map.now.entries) ≡ Some c.args.last
here g c =
    let same : bytes_eq (string_bytes c.in-Some.key.now) c.args.text.now ≡ true = ap (λ bytes. bytes_eq bytes c.args.text.now) (sym c.as_str.ensures.value) ∙ sym c.eq.ensures ∙ c.if-eq.true in
    first_of_text c.args.text.now c.args.map.now.entries c.args.last c.in-Some.key.now c.in-Some.field-0-1.now c.len.ensures.unique (sym c.in-Some.ensures.entry) same

pub returns-then-eq-clause-index : goal.returns-then-eq-clause-index
returns-then-eq-clause-index g c = sym (here g c)

pub returns-then-eq-clause-value : goal.returns-then-eq-clause-value
returns-then-eq-clause-value g c =
    sym (Found-position (λ key. bytes_eq c.args.text.now (string_bytes key)) c.args.map.now.entries c.args.last (here g c)).value
