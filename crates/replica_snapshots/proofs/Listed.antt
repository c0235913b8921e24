-- A node whose groups are listed, and its sections by their numbers.
use Rattle.std.proofs.Common.{◌≡◌, ℕ, zero, suc, ◌+◌, ◌<◌, List, [], ◌∷◌, length, map, take, Option, Some, None, option_map, Result, Ok, Err, refl, sym, ap, subst, ◌∙◌, arith}
use Rattle.std.specs.Prelude.{IfSome, slice_get}
use Rattle.std.proofs.lemmas.List.{length-map, take_all}
use Rattle.std.proofs.lemmas.Option.{slice_get-map}
use Rattle.coord_node.specs.declared.restored.NamedGroup.{NamedGroup}
use Rattle.coord_node.specs.Restored.{listed_named}
use Rattle.replica_snapshots.specs.declared.fault.SnapshotFault.{SnapshotFault}
use Rattle.replica_snapshots.specs.declared.node.Sections.{Sections}
use Rattle.replica_snapshots.specs.Nodes.{head_with, Head, OneGroup, sections_of}
use Rattle.replica_snapshots.specs.Views.{listed_node}
use Rattle.replica_snapshots.specs.Writing.{PutsUpToWhere, PutsWhere}

module _ (s : Sections) where
  pub count_sections : length (sections_of (listed_node s)) ≡ length s.groups.items + 1
  count_sections =
      let one = length-map s.groups.items listed_named in
      let other = length-map (map listed_named s.groups.items) OneGroup in
      omega (arith, one, other)

  pub head_first : (number : ℕ) → number ≡ 0
      → slice_get (sections_of (listed_node s)) number ≡ Some (Head (head_with s.salt s.image.now (length s.groups.items)))
  head_first number first =
      ap (slice_get (sections_of (listed_node s))) first
      ∙ ap (λ n. Some (Head (head_with s.salt s.image.now n))) (length-map s.groups.items listed_named)

  at_group : (number place : ℕ) → number ≡ place + 1
      → slice_get (sections_of (listed_node s)) number ≡ option_map OneGroup (option_map listed_named (slice_get s.groups.items place))
  at_group number place behind =
      let next : number ≡ suc place = omega arith in
      ap (slice_get (sections_of (listed_node s))) next
      ∙ (slice_get-map OneGroup (map listed_named s.groups.items) place ∙ ap (option_map OneGroup) (slice_get-map listed_named s.groups.items place))

  pub group_behind : (number place : ℕ) (g : NamedGroup) → number ≡ place + 1 → slice_get s.groups.items place ≡ Some g
      → slice_get (sections_of (listed_node s)) number ≡ Some (OneGroup (listed_named g))
  group_behind number place g behind at = at_group number place behind ∙ ap (λ o. option_map OneGroup (option_map listed_named o)) at

  pub none_behind : (number place : ℕ) → number ≡ place + 1 → slice_get s.groups.items place ≡ None → slice_get (sections_of (listed_node s)) number ≡ None
  none_behind number place behind at = at_group number place behind ∙ ap (λ o. option_map OneGroup (option_map listed_named o)) at

-- what is said of a value that is known
pub known_some : {X : Type 0} (P : X → Type 0) (o : Option X) (x : X) → o ≡ Some x → P x → IfSome o P
known_some P o x is so = subst (λ p. IfSome p P) (sym is) so

pub known_none : {X : Type 0} (P : X → Type 0) (o : Option X) → o ≡ None → IfSome o P
known_none P o is = subst (λ p. IfSome p P) (sym is) tt

-- what is said of the section at a place, where one is
pub said_there : {X : Type 0} (P : X → Type 0) (o : Option X) (x : X) → o ≡ Some x → IfSome o P → P x
said_there P o x is so = subst (λ p. IfSome p P) is so

pub some_there : {X : Type 0} (xs : List X) (i : ℕ) → i < length xs → (x : X) × (slice_get xs i ≡ Some x)
some_there [] i within = absurd (omega arith)
some_there (x ∷ xs) zero within = (x, refl)
some_there (x ∷ xs) (suc i) within = some_there xs i (omega arith)

-- a put that changes no byte where it fails
pub up_to : {M F : Type 0} {s old new : List ℕ} (r : Result (Unit {0}) SnapshotFault) → PutsWhere r old new M F s → PutsUpToWhere r old new M F s
up_to (Ok u) put = record { ok = put.items; fits = put.fits; err = tt; fitting = put.fitting }
up_to {M} {F} {s} {old} {new} (Err e) put = record {
  ok = tt;
  fits = tt;
  err = ap (take (length old)) put.items ∙ take_all (length old) old (omega arith);
  fitting = put.fitting;
}
