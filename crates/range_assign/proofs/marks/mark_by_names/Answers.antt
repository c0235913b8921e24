use Rattle.std.proofs.Common.{ℕ, length, sym, ap, subst, ◌∙◌, arith, string_bytes}
use Rattle.std.proofs.lemmas.Option.{slice_get_within}
use Rattle.group_types.specs.Text.{Text}
use Rattle.group_types.proofs.NameLemmas.{texts_of}
use Rattle.range_assign.specs.Marks.{IsNamedAt}
use Rattle.range_assign.proofs.Marked.{AreMarked, AreMarked-all, AreMarked-at, AreMarked-none, AreMarked-skip, made_longer}
use Rattle.range_assign.proofs.marks.mark_by_names.Goals as goal

pub loop-name-init : goal.loop-name-init
loop-name-init c =
    subst (AreMarked c.args.topics.now c.args.names.now c.resize.new.self.items) (sym (ap texts_of c.into_iter-name-iterator.ensures.into_iter_gives ∙ c.iter-name-items.ensures.rest))
    (AreMarked-none c.args.topics.now c.args.names.now c.resize.new.self.items
    (c.in_ok-resize.ensures.items ∙ made_longer (length c.args.topics.now) c.args.marks.now.len c.args.marks.now.items c.requires.none c.args.marks.now.ok.0))

pub index_mut-requires : goal.index_mut-requires
index_mut-requires c =
    let (topic, there, named) = c.in-Some-place_named.ensures in
    let many = c.loop-name.invariant.as_many in
    let low = slice_get_within c.args.topics.now c.in-Some-place_named.place topic there in
    let long = c.loop-name.marks.ok.0 in
    omega arith

pub loop-name-preserved-in-Some-place_named : goal.loop-name-preserved-in-Some-place_named
loop-name-preserved-in-Some-place_named c =
    let topics = c.args.topics.now in
    let names = c.args.names.now in
    let marks = c.loop-name.marks.items in
    AreMarked-at topics names marks (string_bytes c.in-Some.name.now) (texts_of c.next.new.self)
    (subst (λ left. AreMarked topics names marks (texts_of left)) c.in-Some.ensures.steps c.loop-name.invariant) c.requires.rise c.in-Some-place_named.place
    (subst (λ (n : Text). IsNamedAt topics n c.in-Some-place_named.place) c.as_str.ensures.value c.in-Some-place_named.ensures)

pub loop-name-preserved : goal.loop-name-preserved
loop-name-preserved c =
    let topics = c.args.topics.now in
    let names = c.args.names.now in
    let marks = c.loop-name.marks.items in
    AreMarked-skip topics names marks (string_bytes c.in-Some.name.now) (texts_of c.next.new.self)
    (subst (λ left. AreMarked topics names marks (texts_of left)) c.in-Some.ensures.steps c.loop-name.invariant)
    (subst (λ (n : Text). (k : ℕ) → ¬ IsNamedAt topics n k) c.as_str.ensures.value c.in_default.ensures)

pub returns : goal.returns
returns c =
    AreMarked-all c.args.topics.now c.args.names.now c.loop-name.marks.items
    (subst (λ left. AreMarked c.args.topics.now c.args.names.now c.loop-name.marks.items (texts_of left)) c.in-None.ensures.steps.0 c.loop-name.invariant)
