-- The first line of an input that has bytes.
use Rattle.std.proofs.Common.{◌≡◌, ℕ, ◌+◌, ◌-◌, ◌<◌, ◌≤◌, Bool, true, false, cond, List, [], ◌∷◌, length, take, drop, Some, None, refl, sym, ◌∙◌, ap, arith, All, nat_lt, length-drop}
use Rattle.std.proofs.Math.Dec.{eqb-suc-zero}
use Rattle.std.proofs.lemmas.Bool.{ltb-true, ltb-false}
use Rattle.std.proofs.lemmas.List.{take_all}
use Rattle.std.proofs.lemmas.List.Splits.{slice_split_first, slice_split_none, length-slice_split}
use Rattle.std.proofs.lemmas.List.Sums.{fails_before_first, count_by-le-length}
use Rattle.std.specs.List.{slice_split, position, position_or_len}
use Rattle.scenario_text.specs.Lines.{lines_of, ended, is_line_feed}

ended-cons : (line : List ℕ) (parts : List (List ℕ)) → 0 < length parts → ended (line ∷ parts) ≡ line ∷ ended parts
ended-cons line [] some = absurd (omega arith)
ended-cons line (next ∷ more) some = refl

ended-last : (line : List ℕ) → 0 < length line → ended (line ∷ []) ≡ line ∷ []
ended-last [] some = absurd (omega arith)
ended-last (byte ∷ bytes) some = rw (eqb-suc-zero (length bytes)) refl

place_is : (b : Bool) (place end : ℕ) → cond b (Some place) None ≡ Some end → (b ≡ true) × (place ≡ end)
place_is true place end e = (refl, cc)
place_is false place end e = absurd cc

no_place : (b : Bool) (place : ℕ) → cond b (Some place) None ≡ None → b ≡ false
no_place true place e = absurd cc
no_place false place e = refl

-- a line feed ends the first line
pub lines_of-fed : (input rest : List ℕ) (end : ℕ) → position is_line_feed input ≡ Some end
    → rest ≡ take (length input - (end + 1)) (drop (end + 1) input) → lines_of input ≡ take end input ∷ lines_of rest
lines_of-fed input rest end found left =
    let place = position_or_len is_line_feed input in
    let at = place_is (nat_lt place (length input)) place end found in
    let below : place < length input = ltb-true _ _ at.0 in
    let all : length (drop (end + 1) input) ≤ length input - (end + 1) = rw length-drop (omega arith) in
    let left' : rest ≡ drop (end + 1) input = left ∙ take_all _ (drop (end + 1) input) all in
    let cut = slice_split_first is_line_feed input 0 below in
    let parts = slice_split is_line_feed (drop (place + 1) input) in
    let some : 0 < length parts = omega (arith, length-slice_split is_line_feed (drop (place + 1) input)) in
    ap ended cut ∙ ended-cons (take place input) parts some
    ∙ ap (λ n. take n input ∷ lines_of (drop (n + 1) input)) at.1
    ∙ ap (λ l. take end input ∷ lines_of l) (sym left')

-- with no line feed the input is one line
pub lines_of-last : (input : List ℕ) → 0 < length input → position is_line_feed input ≡ None → lines_of input ≡ input ∷ []
lines_of-last input some none =
    let place = position_or_len is_line_feed input in
    let past : length input ≤ place = ltb-false _ _ (no_place (nat_lt place (length input)) place none) in
    let lacks : All (λ byte. is_line_feed byte ≡ false) input = λ k d below. fails_before_first is_line_feed input k d (omega arith) in
    ap ended (slice_split_none is_line_feed input lacks) ∙ ended-last input some

length-ended-le : (parts : List (List ℕ)) → length (ended parts) ≤ length parts
length-ended-le [] = omega arith
length-ended-le ([] ∷ []) = omega arith
length-ended-le ((byte ∷ bytes) ∷ []) = rw (ended-last (byte ∷ bytes) (omega arith)) (omega arith)
length-ended-le (line ∷ next ∷ more) = omega (arith, length-ended-le (next ∷ more))

-- there are at most as many lines as bytes, and one more
pub length-lines_of-le : (input : List ℕ) → length (lines_of input) ≤ length input + 1
length-lines_of-le input =
    omega (arith, length-ended-le (slice_split is_line_feed input), length-slice_split is_line_feed input, count_by-le-length is_line_feed input)
