-- What the words of a client's settings say, and that other words say nothing.
use Rattle.std.proofs.Common.{◌≡◌, ◌≢◌, ◌<◌, ◌≤◌, inl, inr, ℕ, List, [], ◌∷◌, length, map, All, codes, Bor, sym, subst, ◌∙◌, refl, arith}
use Rattle.std.specs.List.{slice_split}
use Rattle.std.proofs.lemmas.List.Elements.{All-map}
use Rattle.kip_msgs.proofs.Puts.{All-of_map}
use Rattle.member_core.specs.Settings.{Settings}
use Rattle.scenario_text.specs.Words.{IsName}
use Rattle.scenario_text.specs.Numbers.{SpellsCount}
use Rattle.scenario_lines.specs.Scripts.{SpellSettings, SpellsNameIfAny, SpellsNames, is_comma}
use Rattle.scenario_text.proofs.TopicWords.{texts, word_at}

pub four_words : (words : List (Bor (List ℕ))) → 4 ≤ length words → length words < 5
    → texts words ≡ word_at words 0 ∷ word_at words 1 ∷ word_at words 2 ∷ word_at words 3 ∷ []
four_words [] least most = absurd (omega arith)
four_words (a ∷ []) least most = absurd (omega arith)
four_words (a ∷ b ∷ []) least most = absurd (omega arith)
four_words (a ∷ b ∷ c ∷ []) least most = absurd (omega arith)
four_words (a ∷ b ∷ c ∷ d ∷ []) least most = refl
four_words (a ∷ b ∷ c ∷ d ∷ e ∷ words) least most = absurd (omega arith)

pub five_words : (words : List (Bor (List ℕ))) → 5 ≤ length words → length words < 6
    → texts words ≡ word_at words 0 ∷ word_at words 1 ∷ word_at words 2 ∷ word_at words 3 ∷ word_at words 4 ∷ []
five_words [] least most = absurd (omega arith)
five_words (a ∷ []) least most = absurd (omega arith)
five_words (a ∷ b ∷ []) least most = absurd (omega arith)
five_words (a ∷ b ∷ c ∷ []) least most = absurd (omega arith)
five_words (a ∷ b ∷ c ∷ d ∷ []) least most = absurd (omega arith)
five_words (a ∷ b ∷ c ∷ d ∷ e ∷ []) least most = refl
five_words (a ∷ b ∷ c ∷ d ∷ e ∷ f ∷ words) least most = absurd (omega arith)

-- word by word
pub record SaysSettings (a b c d e : List ℕ) (s : Settings) : Type 0 where
  pub group : IsName a
  pub group_is : s.group ≡ a
  pub instance : SpellsNameIfAny b s.instance
  pub assignor : SpellsNameIfAny c s.assignor
  pub rebalance : SpellsCount d s.rebalance_timeout
  pub topics : SpellsNames e s.names

pub said_five : (words : List (List ℕ)) (a b c d e : List ℕ) (s : Settings) → words ≡ a ∷ b ∷ c ∷ d ∷ e ∷ [] → SpellSettings words s → SaysSettings a b c d e s
said_five words a b c d e s is n =
    let all : s.group ∷ n.instance ∷ n.assignor ∷ n.rebalance ∷ n.topics ∷ [] ≡ a ∷ b ∷ c ∷ d ∷ e ∷ [] = sym n.are ∙ is in
    let first : s.group ≡ a = cc in
    let second : n.instance ≡ b = cc in
    let third : n.assignor ≡ c = cc in
    let fourth : n.rebalance ≡ d = cc in
    let fifth : n.topics ≡ e = cc in
    record {
      group = subst IsName first n.group;
      group_is = first;
      instance = subst (λ w. SpellsNameIfAny w s.instance) second n.instance_is;
      assignor = subst (λ w. SpellsNameIfAny w s.assignor) third n.assignor_is;
      rebalance = subst (λ w. SpellsCount w s.rebalance_timeout) fourth n.rebalance_is;
      topics = subst (λ w. SpellsNames w s.names) fifth n.topics_are;
    }

-- ---- names that commas part

abbrev IsPart : List ℕ → Type 0
IsPart part = IsName part × (part ≢ [])

abbrev read : Bor (List ℕ) → List ℕ
read part = part.now

-- parts that are names are those that the word has
pub named_parts : (word : List ℕ) (parts : List (Bor (List ℕ))) (names : List (List ℕ)) → map (λ (part : Bor (List ℕ)). part.now) parts ≡ slice_split is_comma word
    → names ≡ map (λ (part : Bor (List ℕ)). part.now) parts → All (λ (part : Bor (List ℕ)). IsName part.now × (part.now ≢ [])) parts → SpellsNames word names
named_parts word parts names cut same given = inr (same ∙ cut, subst (All IsPart) (sym same) (All-map IsPart read parts given))

-- and a word with another part has none
pub no_named_parts : (word : List ℕ) (parts : List (Bor (List ℕ))) (names : List (List ℕ)) → word ≢ codes "-" → map (λ (part : Bor (List ℕ)). part.now) parts ≡ slice_split is_comma word
    → (All (λ (part : Bor (List ℕ)). IsName part.now × (part.now ≢ [])) parts → ⊥) → SpellsNames word names → ⊥
no_named_parts word parts names plain cut none (inl (is, empty)) = plain is
no_named_parts word parts names plain cut none (inr (is, given)) = none (All-of_map IsPart read parts (subst (All IsPart) (is ∙ sym cut) given))
