-- Bytes begin with one list of whole frames only.
use Rattle.std.proofs.Common.{◌≡◌, ℕ, List, [], ◌∷◌, ◌++◌, length, take, drop, All, refl, sym, ap, ap₂, ◌∙◌, arith, append_assoc, take_at, drop_at, pos}
use Rattle.std.specs.Prelude.{FitsSigned}
use Rattle.std.specs.Int.{w32}
use Rattle.std.specs.List.{flat_map}
use Rattle.std.proofs.lemmas.List.Elements.{All-head, All-tail}
use Rattle.flex_wire.specs.Spelling.{int32}
use Rattle.flex_wire.specs.Laws.{BeginsNoOther}
use Rattle.group_types.specs.Frames.{frame_of, IsBody}
use Rattle.link_futures.specs.Framing.{BeginsWithFrame, FramingIsOne}

-- two lists of one length at the front of one list are the same
same_front : (xs ys a b : List ℕ) → xs ++ a ≡ ys ++ b → length xs ≡ length ys → (xs ≡ ys) × (a ≡ b)
same_front xs ys a b e len = (
  sym (take_at xs a (length ys) len) ∙ ap (take (length ys)) e ∙ take_at ys b (length ys) refl,
  sym (drop_at xs a (length ys) len) ∙ ap (drop (length ys)) e ∙ drop_at ys b (length ys) refl,
)

fits : (body : List ℕ) → IsBody body → FitsSigned w32 (pos (length body))
fits body is = record { sfits = omega (arith, is.1) }

-- two frames at the front of one list are the same
one_frame : BeginsNoOther (FitsSigned w32) int32 → (x y a b : List ℕ) → IsBody x → IsBody y → frame_of x ++ a ≡ frame_of y ++ b → (x ≡ y) × (a ≡ b)
one_frame alone x y a b is_x is_y e =
    let apart : int32 (pos (length x)) ++ (x ++ a) ≡ int32 (pos (length y)) ++ (y ++ b) = sym (append_assoc (int32 (pos (length x))) x a) ∙ e ∙ append_assoc (int32 (pos (length y))) y b in
    let parts = alone (pos (length x)) (pos (length y)) (x ++ a) (y ++ b) (fits x is_x) (fits y is_y) apart in
    let sizes : pos (length x) ≡ pos (length y) = parts.0 in
    let len : length x ≡ length y = cc in
    same_front x y a b parts.1 len

frames_are_one : BeginsNoOther (FitsSigned w32) int32 → (rest other : List ℕ) (bodies others : List (List ℕ)) → All IsBody bodies → All IsBody others
    → (¬ BeginsWithFrame rest) → (¬ BeginsWithFrame other) → flat_map frame_of bodies ++ rest ≡ flat_map frame_of others ++ other → (bodies ≡ others) × (rest ≡ other)
frames_are_one alone rest other [] [] xs ys not_rest not_other e = (refl, e)
frames_are_one alone rest other [] (y ∷ others) xs ys not_rest not_other e =
    absurd (not_rest (record { body = y; rest = flat_map frame_of others ++ other; is_body = All-head IsBody y others ys; whole = e ∙ append_assoc (frame_of y) (flat_map frame_of others) other }))
frames_are_one alone rest other (x ∷ bodies) [] xs ys not_rest not_other e =
    absurd (not_other (record { body = x; rest = flat_map frame_of bodies ++ rest; is_body = All-head IsBody x bodies xs; whole = sym e ∙ append_assoc (frame_of x) (flat_map frame_of bodies) rest }))
frames_are_one alone rest other (x ∷ bodies) (y ∷ others) xs ys not_rest not_other e =
    let front =
    one_frame alone x y (flat_map frame_of bodies ++ rest) (flat_map frame_of others ++ other) (All-head IsBody x bodies xs) (All-head IsBody y others ys)
    (sym (append_assoc (frame_of x) (flat_map frame_of bodies) rest) ∙ e ∙ append_assoc (frame_of y) (flat_map frame_of others) other) in
    let more = frames_are_one alone rest other bodies others (All-tail IsBody x bodies xs) (All-tail IsBody y others ys) not_rest not_other front.1 in
    (ap₂ (λ (b : List ℕ) (bs : List (List ℕ)). b ∷ bs) front.0 more.0, more.1)

pub FramingIsOne_by : BeginsNoOther (FitsSigned w32) int32 → FramingIsOne
FramingIsOne_by alone bytes rest other bodies others one two =
    frames_are_one alone rest other bodies others one.each two.each one.partial two.partial (sym one.whole ∙ two.whole)
