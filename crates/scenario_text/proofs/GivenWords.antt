-- The words of a line, as parts of a text that are all given.
use Rattle.std.proofs.Common.{◌≡◌, ◌≢◌, ℕ, Bool, false, IsTrue, List, [], map, Bor, All, sym, subst}
use Rattle.std.proofs.lemmas.List.Elements.{All-map}
use Rattle.kip_msgs.proofs.Puts.{All-of_map}
use Rattle.scenario_text.specs.Words.{words_of}

abbrev IsGiven : List ℕ → Type 0
IsGiven word = word ≢ []

abbrev read : Bor (List ℕ) → List ℕ
read word = word.now

-- parts that are given are a line's words
pub given_parts : (line text : List ℕ) (parts : List (Bor (List ℕ)))
    → map (λ (part : Bor (List ℕ)). part.now) parts ≡ words_of text → text ≡ line → All (λ part. part.now ≢ []) parts
    → All (λ word. word ≢ []) (words_of line)
given_parts line text parts cut same given =
    subst (λ l. All IsGiven (words_of l)) same (subst (All IsGiven) cut (All-map IsGiven read parts given))

-- and a line's words are given parts
pub given_words : (line text : List ℕ) (parts : List (Bor (List ℕ)))
    → map (λ (part : Bor (List ℕ)). part.now) parts ≡ words_of text → text ≡ line → All (λ word. word ≢ []) (words_of line)
    → All (λ (part : Bor (List ℕ)). part.now ≢ []) parts
given_words line text parts cut same given =
    All-of_map IsGiven read parts (subst (All IsGiven) (sym cut) (subst (λ l. All IsGiven (words_of l)) (sym same) given))

pub not_both : (answer : Bool) → IsTrue answer → answer ≡ false → ⊥
not_both answer holds fails = cc
