-- The members at places, but one of them.
use Rattle.std.proofs.Common.{◌≡◌, ℕ, Option, Some, None, List, [], ◌∷◌, ◌++◌, map, slice_get, String, refl, ap, ◌∙◌}
use Rattle.std.proofs.lemmas.List.{map-append}
use Rattle.std.proofs.lemmas.List.Elements.{filter-append}
use Rattle.std.specs.Prelude.{not, string_bytes}
use Rattle.std.specs.Str.{bytes_eq}
use Rattle.group_types.specs.Assignors.{Subscriber}
use Rattle.group_types.specs.Text.{Text}
use Rattle.group_epochs.specs.Table.{others, rows_at, seen_of, with_row}
use Rattle.group_epochs.specs.declared.entry.Entry.{Entry}

module _ {Y : Type 0} (rows : List (String Y × Entry)) where
  rows_at-append : (xs ys : List ℕ) → rows_at rows (xs ++ ys) ≡ rows_at rows xs ++ rows_at rows ys
  rows_at-append [] ys = refl
  rows_at-append (x ∷ xs) ys = ap (with_row (slice_get rows x)) (rows_at-append xs ys) ∙ by (slice_get rows x)
    where
      by : (o : Option (String Y × Entry)) → with_row o (rows_at rows xs ++ rows_at rows ys) ≡ with_row o (rows_at rows xs) ++ rows_at rows ys
      by None = refl
      by (Some row) = refl

  -- the members at places but this one, as an assignor sees them
  abbrev pub listed : Text → List ℕ → List Subscriber
  listed id places = map seen_of (others id (rows_at rows places))

  pub listed-append : (id : Text) (xs ys : List ℕ) → listed id (xs ++ ys) ≡ listed id xs ++ listed id ys
  listed-append id xs ys =
      ap (λ l. map seen_of (others id l)) (rows_at-append xs ys)
      ∙ ap (map seen_of) (filter-append (λ (row : String Y × Entry). not (bytes_eq (string_bytes row.0) id)) (rows_at rows xs) (rows_at rows ys))
      ∙ map-append seen_of (others id (rows_at rows xs)) (others id (rows_at rows ys))
