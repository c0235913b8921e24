-- Which topics words spell.
use Rattle.std.proofs.Common.{◌≡◌, ◌≢◌, ◌⊎◌, inl, inr, Ok, Err, Result, IfOk, IfSome, IfNone, ℕ, pos, ◌<◌, ◌≤◌, min, List, [], ◌∷◌, ◌++◌, length, map, get_or, Bor, Option, Some, None, refl, sym, ap, ◌∙◌, subst, arith, append-nil, append_assoc}
use Rattle.std.specs.Prelude.{ℤ, ok_or, is_ok, IsOk, MatchResult}
use Rattle.std.proofs.lemmas.Bool.{false≢true}
use Rattle.std.proofs.lemmas.Fmt.{decimal_injective}
use Rattle.topic_meta.specs.declared.image_fault.ImageFault.{ImageFault}
use Rattle.topic_meta.specs.declared.image_fault.ImageFault.TheVariants.{NoMemory}
use Rattle.topic_meta.specs.Images.{Entry, entry_of, entries_of, first_fault}
use Rattle.topic_meta.specs.declared.topic.TopicEntry.{TopicEntry}
use Rattle.scenario_text.specs.ImageWords.{SpellsTopic, SpellTopics, SpellImage}

-- ---- topics

abbrev entry : List ℕ → List ℕ → ℤ → Entry
entry name id count = record { name = name; id = id; count = count }

same_entry : (e f : Entry) → e.name ≡ f.name → e.id ≡ f.id → e.count ≡ f.count → e ≡ f
same_entry e f names ids counts =
    ap (λ name. entry name e.id e.count) names ∙ ap (λ id. entry f.name id e.count) ids ∙ ap (entry f.name f.id) counts

-- three words are one topic at most
SpellsTopic-unique : (name id count : List ℕ) (e f : Entry) → SpellsTopic name id count e → SpellsTopic name id count f → e ≡ f
SpellsTopic-unique name id count e f a b =
    let names : e.name ≡ f.name = a.named ∙ sym b.named in
    let both : Some e.id ≡ Some f.id = sym a.identified ∙ b.identified in
    let ids : e.id ≡ f.id = cc in
    let numbers : a.number ≡ b.number = decimal_injective a.number b.number (omega (arith, a.small)) (omega (arith, b.small)) (sym a.spelled ∙ b.spelled) in
    let counts : e.count ≡ f.count = a.counted ∙ ap pos numbers ∙ sym b.counted in
    same_entry e f names ids counts

-- and words are one list of topics
pub SpellTopics-unique : (words : List (List ℕ)) (es fs : List Entry) → SpellTopics words es → SpellTopics words fs → es ≡ fs
SpellTopics-unique [] [] [] a b = refl
SpellTopics-unique [] [] (f ∷ fs) a b = absurd b
SpellTopics-unique [] (e ∷ es) fs a b = absurd a
SpellTopics-unique (name ∷ []) es fs a b = absurd a
SpellTopics-unique (name ∷ id ∷ []) es fs a b = absurd a
SpellTopics-unique (name ∷ id ∷ count ∷ words) [] fs a b = absurd a
SpellTopics-unique (name ∷ id ∷ count ∷ words) (e ∷ es) [] a b = absurd b
SpellTopics-unique (name ∷ id ∷ count ∷ words) (e ∷ es) (f ∷ fs) a b =
    let one = SpellsTopic-unique name id count e f a.0 b.0 in
    let others = SpellTopics-unique words es fs a.1 b.1 in
    ap (λ x. x ∷ es) one ∙ ap (λ xs. f ∷ xs) others

-- three words before others are the first topic
pub SpellTopics-first : (words more : List (List ℕ)) (es : List Entry) → length words ≡ 3 → SpellTopics (words ++ more) es
    → (e : Entry) × (others : List Entry) × (es ≡ e ∷ others) × SpellTopics words (e ∷ []) × SpellTopics more others
SpellTopics-first [] more es three all = absurd (omega arith)
SpellTopics-first (name ∷ []) more es three all = absurd (omega arith)
SpellTopics-first (name ∷ id ∷ []) more es three all = absurd (omega arith)
SpellTopics-first (name ∷ id ∷ count ∷ []) more [] three all = absurd all
SpellTopics-first (name ∷ id ∷ count ∷ []) more (e ∷ es) three all = (e, es, refl, (all.0, tt), all.1)
SpellTopics-first (name ∷ id ∷ count ∷ other ∷ words) more es three all = absurd (omega arith)

no_more : (word : List ℕ) (words : List (List ℕ)) → SpellTopics (word ∷ words) [] → ⊥
no_more word [] none = none
no_more word (next ∷ []) none = none
no_more word (next ∷ last ∷ words) none = none

pub SpellTopics-cons : (words more : List (List ℕ)) (e : Entry) (es : List Entry) → SpellTopics words (e ∷ []) → SpellTopics more es → SpellTopics (words ++ more) (e ∷ es)
SpellTopics-cons [] more e es one others = absurd one
SpellTopics-cons (name ∷ []) more e es one others = absurd one
SpellTopics-cons (name ∷ id ∷ []) more e es one others = absurd one
SpellTopics-cons (name ∷ id ∷ count ∷ []) more e es one others = (one.0, others)
SpellTopics-cons (name ∷ id ∷ count ∷ other ∷ words) more e es one others = absurd (no_more other words one.1)

-- The words are those that were read and those that are left: they are topics exactly where those that are left are, behind
-- those that were found.
pub record HasTopics (words left : List (List ℕ)) (found : List Entry) : Type 0 where
  pub all : (more : List Entry) → SpellTopics left more → SpellTopics words (found ++ more)
  pub only : (list : List Entry) → SpellTopics words list → (more : List Entry) × (list ≡ found ++ more) × SpellTopics left more

is_three : (chunk : List (List ℕ)) (e : Entry) → SpellTopics chunk (e ∷ []) → length chunk ≡ 3
is_three [] e one = absurd one
is_three (name ∷ []) e one = absurd one
is_three (name ∷ id ∷ []) e one = absurd one
is_three (name ∷ id ∷ count ∷ []) e one = omega arith
is_three (name ∷ id ∷ count ∷ other ∷ words) e one = absurd (no_more other words one.1)

no_first : (chunk left old : List (List ℕ)) (es : List Entry) → old ≡ chunk ++ left → length chunk ≡ min 3 (length old) → 0 < length old
    → ((e : Entry) → SpellTopics chunk (e ∷ []) → ⊥) → SpellTopics old es → ⊥
no_first chunk left [] es parts size some none are = omega arith
no_first chunk left (name ∷ []) es parts size some none are = are
no_first chunk left (name ∷ id ∷ []) es parts size some none are = are
no_first chunk left (name ∷ id ∷ count ∷ words) es parts size some none are =
    let first = SpellTopics-first chunk left es (omega arith) (subst (λ l. SpellTopics l es) parts are) in
    none first.0 first.3

pub HasTopics-none : (words : List (List ℕ)) → HasTopics words words []
HasTopics-none words = record { all = λ more are. are; only = λ list are. (list, refl, are) }

-- three words more
pub HasTopics-more : (words chunk left old new : List (List ℕ)) (found : List Entry) (e : Entry)
    → HasTopics words old found → old ≡ chunk ++ left → new ≡ left → SpellTopics chunk (e ∷ []) → HasTopics words new (found ++ e ∷ [])
HasTopics-more words chunk left old new found e has parts same one =
    let goes : HasTopics words (chunk ++ left) found = subst (λ l. HasTopics words l found) parts has in
    let three : length chunk ≡ 3 = is_three chunk e one in
    subst (λ l. HasTopics words l (found ++ e ∷ [])) (sym same)
    (record {
      all = λ more are. subst (SpellTopics words) (sym (append_assoc found (e ∷ []) more)) (goes.all (e ∷ more) (SpellTopics-cons chunk left e more one are));
      only = λ list are.
          let rest = goes.only list are in
          let first = SpellTopics-first chunk left rest.0 three rest.2 in
          let same_first = SpellTopics-unique chunk (first.0 ∷ []) (e ∷ []) first.3 one in
          let cut : first.0 ∷ first.1 ≡ e ∷ first.1 = ap (λ l. l ++ first.1) same_first in
          (first.1, rest.1 ∙ ap (λ l. found ++ l) (first.2 ∙ cut) ∙ sym (append_assoc found (e ∷ []) first.1), first.4);
    })

-- words that are no topic end the list
pub no_topics : (words chunk left old : List (List ℕ)) (found list : List Entry) → HasTopics words old found → old ≡ chunk ++ left
    → length chunk ≡ min 3 (length old) → 0 < length old → ((e : Entry) → SpellTopics chunk (e ∷ []) → ⊥) → SpellTopics words list → ⊥
no_topics words chunk left old found list has parts size some none are =
    let rest = has.only list are in
    no_first chunk left old rest.0 parts size some none rest.2

-- ---- words

-- the word at a place
abbrev pub word_at : List (Bor (List ℕ)) → ℕ → List ℕ
word_at words place = (get_or words place (record { ref_ptr = (0, 0); now = [] })).now

abbrev pub texts : List (Bor (List ℕ)) → List (List ℕ)
texts words = map (λ (word : Bor (List ℕ)). word.now) words

pub one_word : (words : List (Bor (List ℕ))) → 1 ≤ length words → length words < 2 → texts words ≡ word_at words 0 ∷ []
one_word [] least most = absurd (omega arith)
one_word (a ∷ []) least most = refl
one_word (a ∷ b ∷ words) least most = absurd (omega arith)

pub two_words : (words : List (Bor (List ℕ))) → 2 ≤ length words → length words < 3 → texts words ≡ word_at words 0 ∷ word_at words 1 ∷ []
two_words [] least most = absurd (omega arith)
two_words (a ∷ []) least most = absurd (omega arith)
two_words (a ∷ b ∷ []) least most = refl
two_words (a ∷ b ∷ c ∷ words) least most = absurd (omega arith)

pub three_words : (words : List (Bor (List ℕ))) → 3 ≤ length words → length words < 4 → texts words ≡ word_at words 0 ∷ word_at words 1 ∷ word_at words 2 ∷ []
three_words [] least most = absurd (omega arith)
three_words (a ∷ []) least most = absurd (omega arith)
three_words (a ∷ b ∷ []) least most = absurd (omega arith)
three_words (a ∷ b ∷ c ∷ []) least most = refl
three_words (a ∷ b ∷ c ∷ d ∷ words) least most = absurd (omega arith)

length-texts : (words : List (Bor (List ℕ))) → length (texts words) ≡ length words
length-texts [] = refl
length-texts (a ∷ words) = omega (arith, length-texts words)

-- one topic is three words
pub topic_is_three : (words : List (Bor (List ℕ))) (e : Entry) → SpellTopics (texts words) (e ∷ []) → length words ≡ 3
topic_is_three words e one = omega (arith, is_three (texts words) e one, length-texts words)

-- the topic that three words spell
pub topic_of_three : (words : List (Bor (List ℕ))) (e : Entry) → 3 ≤ length words → length words < 4 → SpellTopics (texts words) (e ∷ [])
    → SpellsTopic (word_at words 0) (word_at words 1) (word_at words 2) e
topic_of_three words e least most one = (subst (λ l. SpellTopics l (e ∷ [])) (three_words words least most) one).0

pub three_spell : (words : List (Bor (List ℕ))) (e : Entry) → 3 ≤ length words → length words < 4
    → SpellsTopic (word_at words 0) (word_at words 1) (word_at words 2) e → SpellTopics (texts words) (e ∷ [])
three_spell words e least most one = subst (λ l. SpellTopics l (e ∷ [])) (sym (three_words words least most)) (one, tt)

-- what was looked for
pub found_is : {X F : Type 0} (found : Option X) (fault : F) (x : X) (P : X → Type 0) → Ok x ≡ ok_or found fault → IfSome found P → P x
found_is None fault x P is some = absurd cc
found_is (Some y) fault x P is some = let same : y ≡ x = cc in subst P same some

pub not_found : {X F : Type 0} (found : Option X) (fault other : F) (P : Type 0) → Err other ≡ ok_or found fault → IfNone found P → P
not_found None fault other P is none = none
not_found (Some y) fault other P is none = absurd cc

pub kept_ok : {X Y E F : Type 0} (r : Result X E) (s : Result Y F) (fault : F) → s ≡ Err fault → is_ok s ≡ is_ok r → IsOk r → ⊥
kept_ok r s fault was same ok = false≢true (sym (ap is_ok was) ∙ same ∙ ok)

pub mapped_is : {X E F : Type 0} (r : Result X E) (s : Result X F) (x : X) (P : X → Type 0) (Q : E → Type 0) → s ≡ Ok x → is_ok s ≡ is_ok r
    → MatchResult r (λ y. s ≡ Ok y) Q → IfOk r P → P x
mapped_is (Ok y) s x P Q was same case holds = let is : y ≡ x = cc in subst P is holds
mapped_is (Err e) s x P Q was same case holds = absurd (false≢true (sym same ∙ ap is_ok was))

-- ---- topics in threes

texts-append : (a b : List (Bor (List ℕ))) → texts (a ++ b) ≡ texts a ++ texts b
texts-append [] b = refl
texts-append (word ∷ a) b = ap (λ ws. word.now ∷ ws) (texts-append a b)

pub entries_of-push : (list : List TopicEntry) (topic : TopicEntry) → entries_of (list ++ topic ∷ []) ≡ entries_of list ++ entry_of topic ∷ []
entries_of-push [] topic = refl
entries_of-push (first ∷ list) topic = ap (λ es. entry_of first ∷ es) (entries_of-push list topic)

pub chunk_more : (words old chunk left : List (Bor (List ℕ))) (list new : List TopicEntry) (topic : TopicEntry) → HasTopics (texts words) (texts old) (entries_of list)
    → old ≡ chunk ++ left → new ≡ list ++ topic ∷ [] → SpellTopics (texts chunk) (entry_of topic ∷ []) → HasTopics (texts words) (texts left) (entries_of new)
chunk_more words old chunk left list new topic has parts pushed one =
    subst (HasTopics (texts words) (texts left)) (sym (ap entries_of pushed ∙ entries_of-push list topic))
    (HasTopics-more (texts words) (texts chunk) (texts left) (texts old) (texts left) (entries_of list) (entry_of topic) has
    (ap texts parts ∙ texts-append chunk left) refl one)

pub chunk_bad : (words old chunk left : List (Bor (List ℕ))) (found list : List Entry) (size : ℕ) → HasTopics (texts words) (texts old) found
    → size ≡ 3 → old ≡ chunk ++ left → length chunk ≡ min size (length old) → 0 < length old
    → ((e : Entry) → SpellTopics (texts chunk) (e ∷ []) → ⊥) → SpellTopics (texts words) list → ⊥
chunk_bad words old chunk left found list size has three parts long some none are =
    no_topics (texts words) (texts chunk) (texts left) (texts old) found list has (ap texts parts ∙ texts-append chunk left)
    (length-texts chunk ∙ long ∙ ap (λ n. min n (length old)) three ∙ ap (min 3) (sym (length-texts old)))
    (omega (arith, length-texts old)) none are

pub all_topics : (words rest : List (Bor (List ℕ))) (found : List Entry) → HasTopics (texts words) (texts rest) found → length rest ≡ 0 → SpellTopics (texts words) found
all_topics words [] found has none = subst (SpellTopics (texts words)) (append-nil found) (has.all [] tt)
all_topics words (word ∷ rest) found has none = absurd (omega arith)

-- topics with a fault are no image
pub no_image : (words : List (List ℕ)) (list : List Entry) (fault : ImageFault) → SpellTopics words list → (fault ≡ NoMemory) ⊎ (first_fault list ≡ Some fault)
    → fault ≢ NoMemory → (es : List Entry) → SpellImage words es → ⊥
no_image words list fault topics (inl short) other es spelled = other short
no_image words list fault topics (inr bad) other es spelled =
    let one = SpellTopics-unique words es list spelled.topics topics in
    let none : first_fault list ≡ None = ap first_fault (sym one) ∙ spelled.sound in
    absurd cc
