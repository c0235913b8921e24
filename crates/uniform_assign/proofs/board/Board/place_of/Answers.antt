use Rattle.std.proofs.Common.{◌≡◌, length, refl, sym, ap, subst, ◌∙◌, arith, rules, to_z, of_z}
use Rattle.std.specs.Int.{w32}
use Rattle.std.specs.List.{slice_get}
use Rattle.std.specs.Cmp.{Equal-is}
use Rattle.std.proofs.lemmas.Option.{same_Some, slice_get_read, slice_get_within}
use Rattle.group_types.specs.declared.partition.Partition.{Partition}
use Rattle.group_types.specs.Partition.{partition_cmp}
use Rattle.group_types.proofs.Orders.{partition_cmp-IsAntisymmetric, partition_cmp-itself}
use Rattle.uniform_assign.specs.declared.board.Place.{Place}
use Rattle.uniform_assign.specs.Former.{IsPlaceOf}
use Rattle.uniform_assign.proofs.Located.{index-read, known-first}
use Rattle.uniform_assign.proofs.board.Board.place_of.Goals as goal
use Rattle.uniform_assign.proofs.board.Board.place_of.Goals.{else-at-len-via-then-at-len+else-is_eq, else-at-len-via-else-at-len}

pub returns-in_err-first : goal.returns-in_err-first
returns-in_err-first c =
    subst (IsPlaceOf c.args.self.now.places.items c.args.partition.now) (sym c.from_residual.ensures) (λ k place is_place same.
    let known = known-first c.args.self.now c.requires.board c.args.firsts.now c.requires.firsts c.args.partition.now k place is_place same in
    let there = known.is_first in
    let none = c.in_err-first.ensures.value in
    cc)

pub returns-in_err-index : goal.returns-in_err-index
returns-in_err-index c =
    subst (IsPlaceOf c.args.self.now.places.items c.args.partition.now) (sym c.from_residual-in_err-index.ensures) (λ k place is_place same.
    let known = known-first c.args.self.now c.requires.board c.args.firsts.now c.requires.firsts c.args.partition.now k place is_place same in
    let shown : to_z w32 (of_z w32 c.args.partition.now.index) ≡ c.args.partition.now.index = search rules in
    let low = slice_get_within c.args.self.now.places.items k place is_place in
    let sum = known.behind in
    let ok = c.args.self.now.places.ok in
    let read = index-read c.try_from.result _ known.index (shown ∙ known.is_index) (omega arith) c.try_from.ensures in
    let none = c.in_err-index.ensures.value in
    cc)

pub returns-in_err-at : goal.returns-in_err-at
returns-in_err-at c =
    subst (IsPlaceOf c.args.self.now.places.items c.args.partition.now) (sym c.from_residual-in_err-at.ensures) (λ k place is_place same.
    let known = known-first c.args.self.now c.requires.board c.args.firsts.now c.requires.firsts c.args.partition.now k place is_place same in
    let shown : to_z w32 (of_z w32 c.args.partition.now.index) ≡ c.args.partition.now.index = search rules in
    let low = slice_get_within c.args.self.now.places.items k place is_place in
    let sum = known.behind in
    let ok = c.args.self.now.places.ok in
    let read = index-read c.try_from.result _ known.index (shown ∙ known.is_index) (omega arith) c.try_from.ensures in
    let index : c.in_ok-index.index ≡ known.index = same_Some c.in_ok-index.index known.index (c.in_ok-index.ensures.value ∙ read) in
    let first : c.in_ok-first.field-0.now ≡ known.first = same_Some c.in_ok-first.field-0.now known.first (c.in_ok-first.ensures.value ∙ known.is_first) in
    c.in_err-at.ensures (omega arith))

pub returns-then-is_eq : goal.returns-then-is_eq
returns-then-is_eq c =
    let places = c.args.self.now.places.items in
    let place = c.index.result.now in
    let low = c.if-at-len.true in
    let len = c.len.ensures in
    let ok = c.args.self.now.places.ok in
    let is_place = slice_get_read places (length places) c.in_ok-at.at place refl (omega arith) c.index.ensures in
    (place, is_place, partition_cmp-IsAntisymmetric place.partition c.args.partition.now (sym c.cmp.ensures ∙ (Equal-is c.cmp.result).0 (sym c.if-is_eq.ensures)))

pub returns-else-at-len : goal.returns-else-at-len
returns-else-at-len c = λ k place is_place same.
    let known = known-first c.args.self.now c.requires.board c.args.firsts.now c.requires.firsts c.args.partition.now k place is_place same in
    let shown : to_z w32 (of_z w32 c.args.partition.now.index) ≡ c.args.partition.now.index = search rules in
    let low = slice_get_within c.args.self.now.places.items k place is_place in
    let sum = known.behind in
    let ok = c.args.self.now.places.ok in
    let read = index-read c.try_from.result _ known.index (shown ∙ known.is_index) (omega arith) c.try_from.ensures in
    let index : c.in_ok-index.index ≡ known.index = same_Some c.in_ok-index.index known.index (c.in_ok-index.ensures.value ∙ read) in
    let first : c.in_ok-first.field-0.now ≡ known.first = same_Some c.in_ok-first.field-0.now known.first (c.in_ok-first.ensures.value ∙ known.is_first) in
    let here : c.in_ok-at.at ≡ k = let at = c.in_ok-at.ensures.1 in omega arith in
    let len = c.len.ensures in
    elim c.else-at-len.branch [
      | else-at-len-via-then-at-len+else-is_eq w ↦
          let there = slice_get_read c.args.self.now.places.items (length c.args.self.now.places.items) c.in_ok-at.at w.index.result.now refl (omega arith) w.index.ensures in
          let equal : w.index.result.now ≡ place = same_Some w.index.result.now place (sym there ∙ ap (slice_get c.args.self.now.places.items) here ∙ is_place) in
          let itself = (Equal-is w.cmp.result).1 (w.cmp.ensures ∙ ap (λ (q : Partition). partition_cmp q c.args.partition.now) (ap (λ (x : Place). x.partition) equal ∙ same) ∙ partition_cmp-itself c.args.partition.now) in
          let away = w.if-is_eq.ensures in
          cc
      | else-at-len-via-else-at-len w ↦ let high = w.if-at-len.false in omega arith
    ]
