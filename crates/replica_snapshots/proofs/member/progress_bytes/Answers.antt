use Rattle.std.proofs.Common.{◌≡◌, ℕ, suc, List, [], ◌∷◌, ◌++◌, refl, ◌∙◌, ap}
use Rattle.std.specs.Int.{w32, to_be_bytes}
use Rattle.flex_wire.specs.Spelling.{signed}
use Rattle.replica_snapshots.specs.Spelling.{number64, stamp_fields}
use Rattle.replica_snapshots.proofs.Arrays.{two_parts}
use Rattle.replica_snapshots.proofs.member.progress_bytes.Goals as goal

both_same : {a b x y : List ℕ} → a ≡ x → b ≡ y → a ++ (b ++ []) ≡ x ++ (y ++ [])
both_same {a} {b} {x} {y} one two = ap (λ (l : List ℕ). l ++ (b ++ [])) one ∙ ap (λ (l : List ℕ). x ++ (l ++ [])) two

pub returns : goal.returns
unfolding signed number64 stamp_fields
returns c =
    let epochs = both_same (c.to_be_bytes.ensures ∙ ap (to_be_bytes w32) c.as_u32.ensures.value) (c.to_be_bytes-2.ensures ∙ ap (to_be_bytes w32) c.as_u32-2.ensures.value) in
    let stamp = both_same c.to_be_bytes-3.ensures c.to_be_bytes-4.ensures in
    two_parts (1 ∷ c.copy_from_slice.new.self) c.copy_from_slice-2.new.self (1 ∷ 1 ∷ 1 ∷ 1 ∷ 1 ∷ 1 ∷ 1 ∷ 1 ∷ 1 ∷ 1 ∷ 1 ∷ 1 ∷ 1 ∷ 1 ∷ 1 ∷ 1 ∷ []) 9 16
    (ap (λ (l : List ℕ). 1 ∷ l) (c.copy_from_slice.ensures.after ∙ (c.as_flattened.ensures.value ∙ epochs)))
    (c.copy_from_slice-2.ensures.after ∙ (c.as_flattened-2.ensures.value ∙ stamp)) (ap suc c.copy_from_slice.ensures.len) refl
