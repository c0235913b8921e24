-- Lines that are bytes spelled in hex, two digits each.
use Rattle.std.proofs.Common.{All, Bool, true, false, IfOk, ◌==◌, ◌≡◌, ◌≢◌, ℕ, ◌<◌, List, [], ◌∷◌, length, Result, Ok, Err, refl, sym, ap, ◌∙◌, subst, arith}
use Rattle.std.specs.Prelude.{IsErr}
use Rattle.std.specs.List.{AllPass, join_with_byte}
use Rattle.std.specs.Str.{IsAscii}
use Rattle.std.proofs.lemmas.Bool.{false≢true}
use Rattle.std.proofs.lemmas.Bool.Decides.{nat_tests}
use Rattle.std.proofs.lemmas.List.Elements.{All-nil, All-cons, All-head, All-tail}
use Rattle.std.proofs.lemmas.List.Splits.{slice_split_none, join_with_byte-slice_split}
use Rattle.std.proofs.lemmas.Str.{IsUtf8-from_ascii}
use Rattle.std.proofs.lemmas.Str.Ascii.{IsAscii-nil, IsAscii-cons}
use Rattle.hex.proofs.HexLemmas.{decode_of-ok}
use Rattle.hex.specs.Hex.{is_hex_digit, decode_of}
use Rattle.scenario_text.specs.Words.{is_space, words_of}
use Rattle.scenario_text.specs.FrameLines.{IsFrameLine, SpellsBytes}

digit_below_128 : (c : ℕ) → is_hex_digit c ≡ true → c < 128
digit_below_128 c is = grind (arith, nat_tests)

digit_no_space : (c : ℕ) → is_hex_digit c ≡ true → is_space c ≡ false
digit_no_space c is = grind (arith, nat_tests)

IsAscii-digits : (line : List ℕ) → AllPass is_hex_digit line → IsAscii line
IsAscii-digits [] all = IsAscii-nil
IsAscii-digits (c ∷ line) all =
    IsAscii-cons c line (digit_below_128 c (All-head (λ x. is_hex_digit x ≡ true) c line all)) (IsAscii-digits line (All-tail (λ x. is_hex_digit x ≡ true) c line all))

no_spaces : (line : List ℕ) → AllPass is_hex_digit line → All (λ c. is_space c ≡ false) line
no_spaces [] all = All-nil _
no_spaces (c ∷ line) all =
    All-cons (λ x. is_space x ≡ false) c line (digit_no_space c (All-head (λ x. is_hex_digit x ≡ true) c line all)) (no_spaces line (All-tail (λ x. is_hex_digit x ≡ true) c line all))

-- digits are ASCII
pub digits_are_ascii : (line bytes : List ℕ) → decode_of line ≡ Ok bytes → IsAscii line
digits_are_ascii line bytes spelled = IsAscii-digits line (decode_of-ok line bytes spelled).1

-- and one word
pub digits_are_alone : (line bytes : List ℕ) → decode_of line ≡ Ok bytes → words_of line ≡ line ∷ []
digits_are_alone line bytes spelled = slice_split_none is_space line (no_spaces line (decode_of-ok line bytes spelled).1)

-- digits are a line of one word
pub digits_are_a_line : (line bytes : List ℕ) → line ≢ [] → decode_of line ≡ Ok bytes → IsFrameLine line bytes
digits_are_a_line line bytes some spelled =
    let alone = digits_are_alone line bytes spelled in
    record {
      is_line = record {
        text = IsUtf8-from_ascii line (digits_are_ascii line bytes spelled);
        words = subst (All (λ (word : List ℕ). word ≢ [])) (sym alone) (All-cons (λ (word : List ℕ). word ≢ []) line [] some (All-nil _));
      };
      word = line;
      alone = alone;
      spelled = spelled;
    }

-- and a line of one word is that word
pub line_is_word : (line bytes : List ℕ) → IsFrameLine line bytes → decode_of line ≡ Ok bytes
line_is_word line bytes is =
    let same : is.word ≡ line = sym (ap (join_with_byte 32) is.alone) ∙ join_with_byte-slice_split 32 line in
    subst (λ l. decode_of l ≡ Ok bytes) same is.spelled

pub not_both_ways : {X E : Type 0} (r : Result X E) (x : X) → r ≡ Ok x → IsErr r → ⊥
not_both_ways (Ok y) x is bad = absurd (false≢true bad)
not_both_ways (Err e) x is bad = absurd cc

pub no_frame_line : (line : List ℕ) → IsErr (decode_of line) → SpellsBytes line → ⊥
no_frame_line line bad (bytes, is) = not_both_ways (decode_of line) bytes (line_is_word line bytes is) bad

pub no_empty_line : (line bytes : List ℕ) → line ≡ [] → IsFrameLine line bytes → ⊥
no_empty_line line bytes none is =
    let same : is.word ≡ line = sym (ap (join_with_byte 32) is.alone) ∙ join_with_byte-slice_split 32 line in
    let given = All-head (λ (word : List ℕ). word ≢ []) is.word [] (subst (All (λ (word : List ℕ). word ≢ [])) is.alone is.is_line.words) in
    given (same ∙ none)

pub is_not_empty : (line : List ℕ) (answer : Bool) → answer ≡ (length line == 0) → answer ≡ false → line ≢ []
is_not_empty [] answer says other = λ _. absurd (false≢true (sym other ∙ says))
is_not_empty (c ∷ line) answer says other = λ none. cc

pub if_ok_by : {X E : Type 0} (r : Result X E) (P Q : X → Type 0) → IfOk r P → ((x : X) → P x → Q x) → IfOk r Q
if_ok_by (Ok x) P Q holds more = more x holds
if_ok_by (Err e) P Q holds more = tt
