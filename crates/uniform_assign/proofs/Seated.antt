-- The members' places among the takers, class by class.
use Rattle.std.proofs.Common.{◌≡◌, ◌⊎◌, ℕ, zero, suc, ◌+◌, List, [], ◌∷◌, ◌++◌, length, set as set_at, slice_get, refl, sym, ap, subst, ◌∙◌, arith, inl, inr, Some, length-set}
use Rattle.std.specs.Global.{Vec}
use Rattle.std.specs.List.{All}
use Rattle.std.proofs.lemmas.Bool.{cases_lt}
use Rattle.std.proofs.lemmas.Option.{same_Some, slice_get_within}
use Rattle.uniform_assign.specs.declared.board.Board.{Board}
use Rattle.uniform_assign.specs.declared.seats.Seat.{Seat}
use Rattle.uniform_assign.specs.Boards.{members_on}
use Rattle.uniform_assign.specs.Seats.{AddsSeats, AreSeats, AreSeatsOf, IsSeatIn, Seated}
use Rattle.uniform_assign.proofs.Counts.{cases_equal}
use Rattle.uniform_assign.proofs.Kept.{slice_get-set_other, slice_get-set_same}
use Rattle.uniform_assign.proofs.Lists.{pushed_at, slice_get-append_cases, slice_get-append_left}
use Rattle.uniform_assign.proofs.Piled.{empty_at}

-- ---- a place is added

module _ (lists : List Seated) (m : ℕ) (v w : Seated) (seat : Seat) (is_v : slice_get lists m ≡ Some v) (pushed : w.items ≡ v.items ++ seat ∷ []) where
  here : slice_get (set_at lists m w) m ≡ Some w
  here = slice_get-set_same lists m w (slice_get_within lists m v is_v)

  IsSeatIn-kept : (j : ℕ) (other : Seat) → IsSeatIn lists j other → IsSeatIn (set_at lists m w) j other
  IsSeatIn-kept j other (list, i, is_list, is) = elim (cases_equal j m) [
    | inl same ↦
        let equal : list ≡ v = same_Some list v (sym is_list ∙ ap (slice_get lists) same ∙ is_v) in (
          w,
          i,
          ap (slice_get (set_at lists m w)) same ∙ here,
          ap (λ xs. slice_get xs i) pushed ∙ slice_get-append_left v.items (seat ∷ []) i other (ap (λ (l : Seated). slice_get l.items i) (sym equal) ∙ is),
        )
    | inr apart ↦ (list, i, slice_get-set_other lists m j w apart ∙ is_list, is)
  ]

  IsSeatIn-last : IsSeatIn (set_at lists m w) m seat
  IsSeatIn-last = (w, length v.items, here, ap (λ xs. slice_get xs (length v.items)) pushed ∙ pushed_at v.items seat)

  IsSeatIn-back : (j : ℕ) (other : Seat) → IsSeatIn (set_at lists m w) j other → IsSeatIn lists j other ⊎ ((j ≡ m) × (seat ≡ other))
  IsSeatIn-back j other (list, i, is_list, is) = elim (cases_equal j m) [
    | inl same ↦
        let equal : w ≡ list = same_Some w list (sym here ∙ ap (slice_get (set_at lists m w)) (sym same) ∙ is_list) in
        let inside : slice_get (v.items ++ seat ∷ []) i ≡ Some other = ap (λ xs. slice_get xs i) (sym pushed) ∙ ap (λ (l : Seated). slice_get l.items i) equal ∙ is in
        elim (slice_get-append_cases v.items (seat ∷ []) i other inside) [
          | inl before ↦ inl (v, i, ap (slice_get lists) same ∙ is_v, before)
          | inr (k, at, end) ↦ inr (same, last k end)
        ]
    | inr apart ↦ inl (list, i, sym (slice_get-set_other lists m j w apart) ∙ is_list, is)
  ]
    where
      last : (k : ℕ) → slice_get (seat ∷ []) k ≡ Some other → seat ≡ other
      last zero end = same_Some seat other end
      last (suc k) end = cc

module _ (takers : List ℕ) (class : ℕ) (old : List Seated) where
  pub AddsSeats-none : AddsSeats takers class 0 old old
  AddsSeats-none = record { as_many = refl; kept = λ m seat is. is; added = λ k m low. absurd (omega arith); others = λ m seat is. inl is }

  pub AddsSeats-more : (n m : ℕ) (new : List Seated) (v w : Seated) → AddsSeats takers class n old new → slice_get takers n ≡ Some m → slice_get new m ≡ Some v
      → w.items ≡ v.items ++ record { class = class; place = n } ∷ [] → AddsSeats takers class (n + 1) old (set_at new m w)
  AddsSeats-more n m new v w before is_m is_v pushed =
      let seat : Seat = record { class = class; place = n } in
      record {
        as_many = length-set new m w ∙ before.as_many;
        kept = λ j other is. IsSeatIn-kept new m v w seat is_v pushed j other (before.kept j other is);
        added = λ k j low is_j. elim (cases_lt k n) [
          | inl below ↦ IsSeatIn-kept new m v w seat is_v pushed j (record { class = class; place = k }) (before.added k j below is_j)
          | inr above ↦
              let end : n ≡ k = omega arith in
              let same : m ≡ j = same_Some m j (sym is_m ∙ ap (slice_get takers) end ∙ is_j) in
              subst (λ i. IsSeatIn (set_at new m w) i (record { class = class; place = k })) same
              (subst (λ i. IsSeatIn (set_at new m w) m (record { class = class; place = i })) end (IsSeatIn-last new m v w seat is_v pushed))
        ];
        others = λ j other is. elim (IsSeatIn-back new m v w seat is_v pushed j other is) [
          | inl was ↦ before.others j other was
          | inr (same, this) ↦ inr (
            ap (λ (s : Seat). s.class) (sym this),
            ap (λ (s : Seat). slice_get takers s.place) (sym this) ∙ is_m ∙ ap Some (sym same),
          )
        ];
      }

-- ---- class by class

module _ (board : Board) where
  pub AreSeats-none : (lists : List Seated) → length lists ≡ length (members_on board) → All (λ (list : Seated). list.items ≡ []) lists → AreSeats board 0 lists
  AreSeats-none lists many empty = record {
    as_many = many;
    sound = λ m seat (list, i, is_list, is). absurd (nowhere i seat (ap (λ xs. slice_get xs i) (sym (empty_at lists (λ (l : Seated). l.items ≡ []) m list empty is_list)) ∙ is));
    all = λ m seat low. absurd (omega arith);
  }
    where
      nowhere : (i : ℕ) (seat : Seat) → slice_get [] i ≡ Some seat → ⊥
      nowhere i seat is = cc

  pub AreSeats-more : (n : ℕ) (takers : Vec ℕ) (old new : List Seated) → AreSeats board n old → slice_get board.takers.items n ≡ Some takers → AddsSeats takers.items n (length takers.items) old new
      → AreSeats board (n + 1) new
  AreSeats-more n takers old new before is_takers adds = record {
    as_many = adds.as_many ∙ before.as_many;
    sound = λ m seat is. elim (adds.others m seat is) [
      | inl was ↦ before.sound m seat was
      | inr (same, at) ↦ (takers, ap (slice_get board.takers.items) same ∙ is_takers, at)
    ];
    all = λ m seat low (others, are, at). elim (cases_lt seat.class n) [
      | inl below ↦ adds.kept m seat (before.all m seat below (others, are, at))
      | inr above ↦
          let end : n ≡ seat.class = omega arith in
          let same : takers ≡ others = same_Some takers others (sym is_takers ∙ ap (slice_get board.takers.items) end ∙ are) in
          let here : slice_get takers.items seat.place ≡ Some m = ap (λ (v : Vec ℕ). slice_get v.items seat.place) same ∙ at in
          subst (λ c. IsSeatIn new m (record { class = c; place = seat.place })) end (adds.added seat.place m (slice_get_within takers.items seat.place m here) here)
    ];
  }

  pub AreSeatsOf-listed : (lists : List Seated) (m : ℕ) (list : Seated) → AreSeats board (length board.takers.items) lists → slice_get lists m ≡ Some list → AreSeatsOf board m list.items
  AreSeatsOf-listed lists m list are is_list = record {
    sound = λ i seat is. are.sound m seat (list, i, is_list, is);
    all = λ seat (takers, is_takers, at).
        let (other, i, is_other, is) = are.all m seat (slice_get_within board.takers.items seat.class takers is_takers) (takers, is_takers, at) in
        let same : list ≡ other = same_Some list other (sym is_list ∙ is_other) in
        (i, ap (λ (l : Seated). slice_get l.items i) same ∙ is);
  }
