-- What is put on a page, piece by piece.
use Rattle.std.proofs.Common.{◌≡◌, ℕ, List, [], ◌∷◌, ◌++◌, codes, ap, ◌∙◌, sym, refl, append_assoc, append-nil}
use Rattle.std.specs.List.{flat_map}
use Rattle.std.proofs.lemmas.Grind.{flat_map-append}
use Rattle.scenario_text.specs.Lines.{fed}
use Rattle.scenario_text.specs.Reports.{spaced, line}

-- two pieces are one
pub two_put : (a b c x y : List ℕ) → b ≡ a ++ x → c ≡ b ++ y → c ≡ a ++ (x ++ y)
two_put a b c x y first second = second ∙ ap (λ l. l ++ y) first ∙ append_assoc a x y

-- ---- words

-- the words of a line up to its end
abbrev ended : List (List ℕ) → List ℕ
ended [] = 10 ∷ []
ended (word ∷ words) = (32 ∷ word) ++ ended words

spaced-ended : (words : List (List ℕ)) → spaced words ++ 10 ∷ [] ≡ ended words
spaced-ended [] = refl
spaced-ended (word ∷ words) = append_assoc (32 ∷ word) (spaced words) (10 ∷ []) ∙ ap (λ l. (32 ∷ word) ++ l) (spaced-ended words)

-- a key and the words up to the line's end are a line
line_put : (before after key : List ℕ) (words : List (List ℕ)) → after ≡ before ++ (key ++ ended words) → after ≡ before ++ fed (line key words)
line_put before after key words put =
    put ∙ ap (λ l. before ++ l) (ap (λ l. key ++ l) (sym (spaced-ended words)) ∙ sym (append_assoc key (spaced words) (10 ∷ [])))

-- a word and what comes behind it
word_put : (a b c word rest : List ℕ) → b ≡ a ++ codes " " ++ word → c ≡ b ++ rest → c ≡ a ++ ((32 ∷ word) ++ rest)
word_put a b c word rest first more =
    two_put a b c (32 ∷ word) rest (first ∙ append_assoc a (32 ∷ []) word) more

-- a key, two words and a line feed
pub two_words_put : (s0 s1 s2 s3 s4 key a b : List ℕ)
    → s1 ≡ s0 ++ key → s2 ≡ s1 ++ codes " " ++ a → s3 ≡ s2 ++ codes " " ++ b → s4 ≡ s3 ++ 10 ∷ []
    → s4 ≡ s0 ++ fed (line key (a ∷ b ∷ []))
two_words_put s0 s1 s2 s3 s4 key a b e1 e2 e3 e4 =
    let p3 = word_put s2 s3 s4 b (10 ∷ []) e3 e4 in
    let p2 = word_put s1 s2 s4 a _ e2 p3 in
    line_put s0 s4 key (a ∷ b ∷ []) (two_put s0 s1 s4 key _ e1 p2)

-- a key, three words and a line feed
pub three_words_put : (s0 s1 s2 s3 s4 s5 key a b c : List ℕ)
    → s1 ≡ s0 ++ key → s2 ≡ s1 ++ codes " " ++ a → s3 ≡ s2 ++ codes " " ++ b → s4 ≡ s3 ++ codes " " ++ c
    → s5 ≡ s4 ++ 10 ∷ [] → s5 ≡ s0 ++ fed (line key (a ∷ b ∷ c ∷ []))
three_words_put s0 s1 s2 s3 s4 s5 key a b c e1 e2 e3 e4 e5 =
    let p4 = word_put s3 s4 s5 c (10 ∷ []) e4 e5 in
    let p3 = word_put s2 s3 s5 b _ e3 p4 in
    let p2 = word_put s1 s2 s5 a _ e2 p3 in
    line_put s0 s5 key (a ∷ b ∷ c ∷ []) (two_put s0 s1 s5 key _ e1 p2)

-- a key, four words and a line feed
pub four_words_put : (s0 s1 s2 s3 s4 s5 s6 key a b c d : List ℕ)
    → s1 ≡ s0 ++ key → s2 ≡ s1 ++ codes " " ++ a → s3 ≡ s2 ++ codes " " ++ b → s4 ≡ s3 ++ codes " " ++ c
    → s5 ≡ s4 ++ codes " " ++ d → s6 ≡ s5 ++ 10 ∷ [] → s6 ≡ s0 ++ fed (line key (a ∷ b ∷ c ∷ d ∷ []))
four_words_put s0 s1 s2 s3 s4 s5 s6 key a b c d e1 e2 e3 e4 e5 e6 =
    let p5 = word_put s4 s5 s6 d (10 ∷ []) e5 e6 in
    let p4 = word_put s3 s4 s6 c _ e4 p5 in
    let p3 = word_put s2 s3 s6 b _ e3 p4 in
    let p2 = word_put s1 s2 s6 a _ e2 p3 in
    line_put s0 s6 key (a ∷ b ∷ c ∷ d ∷ []) (two_put s0 s1 s6 key _ e1 p2)

-- a key, five words and a line feed
pub five_words_put : (s0 s1 s2 s3 s4 s5 s6 s7 key a b c d e : List ℕ)
    → s1 ≡ s0 ++ key → s2 ≡ s1 ++ codes " " ++ a → s3 ≡ s2 ++ codes " " ++ b → s4 ≡ s3 ++ codes " " ++ c
    → s5 ≡ s4 ++ codes " " ++ d → s6 ≡ s5 ++ codes " " ++ e → s7 ≡ s6 ++ 10 ∷ []
    → s7 ≡ s0 ++ fed (line key (a ∷ b ∷ c ∷ d ∷ e ∷ []))
five_words_put s0 s1 s2 s3 s4 s5 s6 s7 key a b c d e e1 e2 e3 e4 e5 e6 e7 =
    let p6 = word_put s5 s6 s7 e (10 ∷ []) e6 e7 in
    let p5 = word_put s4 s5 s7 d _ e5 p6 in
    let p4 = word_put s3 s4 s7 c _ e4 p5 in
    let p3 = word_put s2 s3 s7 b _ e3 p4 in
    let p2 = word_put s1 s2 s7 a _ e2 p3 in
    line_put s0 s7 key (a ∷ b ∷ c ∷ d ∷ e ∷ []) (two_put s0 s1 s7 key _ e1 p2)

-- a word behind a space that was put before it
pub behind_space : (a b c word : List ℕ) → b ≡ a ++ codes " " → c ≡ b ++ word → c ≡ a ++ codes " " ++ word
behind_space a b c word space put = put ∙ ap (λ l. l ++ word) space

-- a key, seven words and a line feed
pub seven_words_put : (s0 s1 s2 s3 s4 s5 s6 s7 s8 s9 key a b c d e f g : List ℕ)
    → s1 ≡ s0 ++ key → s2 ≡ s1 ++ codes " " ++ a → s3 ≡ s2 ++ codes " " ++ b → s4 ≡ s3 ++ codes " " ++ c
    → s5 ≡ s4 ++ codes " " ++ d → s6 ≡ s5 ++ codes " " ++ e → s7 ≡ s6 ++ codes " " ++ f → s8 ≡ s7 ++ codes " " ++ g
    → s9 ≡ s8 ++ 10 ∷ [] → s9 ≡ s0 ++ fed (line key (a ∷ b ∷ c ∷ d ∷ e ∷ f ∷ g ∷ []))
seven_words_put s0 s1 s2 s3 s4 s5 s6 s7 s8 s9 key a b c d e f g e1 e2 e3 e4 e5 e6 e7 e8 e9 =
    let p8 = word_put s7 s8 s9 g (10 ∷ []) e8 e9 in
    let p7 = word_put s6 s7 s9 f _ e7 p8 in
    let p6 = word_put s5 s6 s9 e _ e6 p7 in
    let p5 = word_put s4 s5 s9 d _ e5 p6 in
    let p4 = word_put s3 s4 s9 c _ e4 p5 in
    let p3 = word_put s2 s3 s9 b _ e3 p4 in
    let p2 = word_put s1 s2 s9 a _ e2 p3 in
    line_put s0 s9 key (a ∷ b ∷ c ∷ d ∷ e ∷ f ∷ g ∷ []) (two_put s0 s1 s9 key _ e1 p2)

-- ---- lines

-- a line and the lines behind it
pub fed_put : (a b c l : List ℕ) (ls : List (List ℕ)) → b ≡ a ++ fed l → c ≡ b ++ flat_map fed ls → c ≡ a ++ flat_map fed (l ∷ ls)
fed_put a b c l ls first more = two_put a b c (fed l) (flat_map fed ls) first more

-- a line alone
pub one_put : (a b l : List ℕ) → b ≡ a ++ fed l → b ≡ a ++ flat_map fed (l ∷ [])
one_put a b l put = put ∙ ap (λ x. a ++ x) (sym (append-nil (fed l)))

-- lines and those behind them
pub lines_put : (a b c : List ℕ) (ls more : List (List ℕ)) → b ≡ a ++ flat_map fed ls → c ≡ b ++ flat_map fed more → c ≡ a ++ flat_map fed (ls ++ more)
lines_put a b c ls more first second =
    two_put a b c (flat_map fed ls) (flat_map fed more) first second ∙ ap (λ x. a ++ x) (sym (flat_map-append fed ls more))

-- two lines and those behind them
pub two_lines_put : (s0 s1 s2 s3 a b : List ℕ) (more : List (List ℕ))
    → s1 ≡ s0 ++ fed a → s2 ≡ s1 ++ fed b → s3 ≡ s2 ++ flat_map fed more → s3 ≡ s0 ++ flat_map fed (a ∷ b ∷ more)
two_lines_put s0 s1 s2 s3 a b more e1 e2 e3 = fed_put s0 s1 s3 a (b ∷ more) e1 (fed_put s1 s2 s3 b more e2 e3)

-- three lines and those behind them
pub three_lines_put : (s0 s1 s2 s3 s4 a b c : List ℕ) (more : List (List ℕ))
    → s1 ≡ s0 ++ fed a → s2 ≡ s1 ++ fed b → s3 ≡ s2 ++ fed c → s4 ≡ s3 ++ flat_map fed more
    → s4 ≡ s0 ++ flat_map fed (a ∷ b ∷ c ∷ more)
three_lines_put s0 s1 s2 s3 s4 a b c more e1 e2 e3 e4 =
    let p3 = fed_put s2 s3 s4 c more e3 e4 in
    let p2 = fed_put s1 s2 s4 b (c ∷ more) e2 p3 in
    fed_put s0 s1 s4 a (b ∷ c ∷ more) e1 p2

-- five lines and those behind them
pub five_lines_put : (s0 s1 s2 s3 s4 s5 s6 a b c d e : List ℕ) (more : List (List ℕ))
    → s1 ≡ s0 ++ fed a → s2 ≡ s1 ++ fed b → s3 ≡ s2 ++ fed c → s4 ≡ s3 ++ fed d → s5 ≡ s4 ++ fed e → s6 ≡ s5 ++ flat_map fed more
    → s6 ≡ s0 ++ flat_map fed (a ∷ b ∷ c ∷ d ∷ e ∷ more)
five_lines_put s0 s1 s2 s3 s4 s5 s6 a b c d e more e1 e2 e3 e4 e5 e6 =
    let p5 = fed_put s4 s5 s6 e more e5 e6 in
    let p4 = fed_put s3 s4 s6 d (e ∷ more) e4 p5 in
    three_lines_put s0 s1 s2 s3 s6 a b c (d ∷ e ∷ more) e1 e2 e3 p4
