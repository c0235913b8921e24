-- Which acts words ask for, and that other words ask for none.
use Rattle.std.proofs.Common.{◌≡◌, ◌≢◌, ◌<◌, ◌≤◌, ◌^◌, ℕ, List, [], ◌∷◌, length, map, Bor, Option, Some, None, IfSome, IfNone, Result, Ok, Err, IfOk, codes, decimal, refl, sym, ap, ◌∙◌, subst, arith}
use Rattle.std.specs.Prelude.{OnErr, ok_or}
use Rattle.uuid.specs.Text.{parsed}
use Rattle.group_types.specs.Topics.{Topics}
use Rattle.group_types.specs.Text.{Text}
use Rattle.group_types.specs.declared.partition.Partition.{Partition}
use Rattle.kip_msgs.specs.Values.{CommitRequestTopicValue}
use Rattle.member_core.specs.Asking.{Fullness, Join, Beat, Leave, GoAway}
use Rattle.world_sim.specs.Acts.{Act, Asks, GivesUp, Deliver, Take, Release, Commits, Bring, Clock, Passes, Sees}
use Rattle.scenario_lines.specs.declared.verb.Verb.TheVariants as verbs
use Rattle.scenario_text.specs.declared.fault.LineFault.{LineFault}
use Rattle.scenario_text.specs.Words.{IsName}
use Rattle.scenario_text.specs.ImageWords.{IsImage}
use Rattle.scenario_text.specs.Numbers.{SpellsNumber, SpellsCount, SpellsOffset}
use Rattle.scenario_lines.specs.Scripts.{IsClient, SpellsAct, NamesClient, NamesClientAnd, NamesPartition, NamesOffset, IsNumber, kind_word}
use Rattle.scenario_text.proofs.TopicWords.{texts, word_at, one_word}

pub no_image_act : (cast : List Text) (words : List (List ℕ)) (act : Act) → ((image : Topics) → IsImage words image → ⊥) → SpellsAct cast verbs.Image words act → ⊥
no_image_act cast words (Sees image) none s = none image s
no_image_act cast words act none s = s

pub no_clock : (cast : List Text) (words : List (List ℕ)) (act : Act) → ((number : ℕ) → IsNumber words number → ⊥) → SpellsAct cast verbs.Clock words act → ⊥
no_clock cast words (Clock moment) none s = none moment s
no_clock cast words act none s = s

pub no_tick : (cast : List Text) (words : List (List ℕ)) (act : Act) → ((number : ℕ) → IsNumber words number → ⊥) → SpellsAct cast verbs.Tick words act → ⊥
no_tick cast words (Passes moment) none s = none moment s
no_tick cast words act none s = s

pub no_deliver : (cast : List Text) (words : List (List ℕ)) (act : Act) → ((number : ℕ) → IsNumber words number → ⊥) → SpellsAct cast verbs.Deliver words act → ⊥
no_deliver cast words (Deliver request) none s = none request s
no_deliver cast words act none s = s

pub no_take : (cast : List Text) (words : List (List ℕ)) (act : Act) → ((number : ℕ) → IsNumber words number → ⊥) → SpellsAct cast verbs.Take words act → ⊥
no_take cast words (Take reply) none s = none reply s
no_take cast words act none s = s

pub no_bring : (cast : List Text) (words : List (List ℕ)) (act : Act) → ((number : ℕ) → IsNumber words number → ⊥) → SpellsAct cast verbs.Bring words act → ⊥
no_bring cast words (Bring commit) none s = none commit s
no_bring cast words act none s = s

pub no_join : (cast : List Text) (words : List (List ℕ)) (act : Act) → ((client : ℕ) → NamesClient cast words client → ⊥) → SpellsAct cast verbs.Join words act → ⊥
no_join cast words (Asks client Join) none s = none client s
no_join cast words act none s = s

pub no_lose : (cast : List Text) (words : List (List ℕ)) (act : Act) → ((client : ℕ) → NamesClient cast words client → ⊥) → SpellsAct cast verbs.Lose words act → ⊥
no_lose cast words (GivesUp client) none s = none client s
no_lose cast words act none s = s

pub no_beat : (cast : List Text) (words : List (List ℕ)) (act : Act) → ((client : ℕ) (kind : Fullness) → NamesClientAnd cast words client (kind_word kind) → ⊥)
    → SpellsAct cast verbs.Beat words act → ⊥
no_beat cast words (Asks client (Beat kind)) none s = none client kind s
no_beat cast words act none s = s

pub no_quit : (cast : List Text) (words : List (List ℕ)) (act : Act) → ((client : ℕ) → NamesClientAnd cast words client (codes "leave") → ⊥)
    → ((client : ℕ) → NamesClientAnd cast words client (codes "away") → ⊥) → SpellsAct cast verbs.Quit words act → ⊥
no_quit cast words (Asks client Leave) leave away s = leave client s
no_quit cast words (Asks client GoAway) leave away s = away client s
no_quit cast words act leave away s = s

pub no_release : (cast : List Text) (words : List (List ℕ)) (act : Act) → ((client : ℕ) (p : Partition) → NamesPartition cast words client p → ⊥)
    → SpellsAct cast verbs.Release words act → ⊥
no_release cast words (Release client p) none s = none client p s
no_release cast words act none s = s

pub no_commit : (cast : List Text) (words : List (List ℕ)) (act : Act) → ((client : ℕ) (topics : List CommitRequestTopicValue) → NamesOffset cast words client topics → ⊥)
    → SpellsAct cast verbs.Commit words act → ⊥
no_commit cast words (Commits client topics) none s = none client topics s
no_commit cast words act none s = s

-- ---- what the words of an act say, word by word

pub named_one : (cast : List Text) (words : List (List ℕ)) (a : List ℕ) (client : ℕ) → words ≡ a ∷ [] → NamesClient cast words client → IsClient cast a client
named_one cast words a client is n =
    let both : n.name ∷ [] ≡ a ∷ [] = sym n.are ∙ is in
    let same : n.name ≡ a = cc in
    subst (λ w. IsClient cast w client) same n.is_client

pub named_two : (cast : List Text) (words : List (List ℕ)) (a b word : List ℕ) (client : ℕ) → words ≡ a ∷ b ∷ [] → NamesClientAnd cast words client word
    → IsClient cast a client × (b ≡ word)
named_two cast words a b word client is n =
    let both : n.name ∷ word ∷ [] ≡ a ∷ b ∷ [] = sym n.are ∙ is in
    let same : n.name ≡ a = cc in
    let other : b ≡ word = cc in
    (subst (λ w. IsClient cast w client) same n.is_client, other)

pub named_three : (cast : List Text) (words : List (List ℕ)) (a b c : List ℕ) (client : ℕ) (p : Partition) → words ≡ a ∷ b ∷ c ∷ [] → (n : NamesPartition cast words client p)
    → IsName a × (parsed b ≡ Some p.topic) × SpellsCount c n.number
named_three cast words a b c client p is n =
    let all : n.name ∷ n.topic ∷ n.index ∷ [] ≡ a ∷ b ∷ c ∷ [] = sym n.are ∙ is in
    let first : n.name ≡ a = cc in
    let second : n.topic ≡ b = cc in
    let third : n.index ≡ c = cc in
    (subst IsName first n.is_client.is_name, ap parsed (sym second) ∙ n.is_topic, subst (λ w. SpellsCount w n.number) third n.is_index)

pub named_four : (cast : List Text) (words : List (List ℕ)) (a b c d : List ℕ) (client : ℕ) (topics : List CommitRequestTopicValue) → words ≡ a ∷ b ∷ c ∷ d ∷ []
    → (n : NamesOffset cast words client topics) → IsName a × IsName b × SpellsCount c n.number × SpellsOffset d n.committed
named_four cast words a b c d client topics is n =
    let all : n.name ∷ n.topic ∷ n.index ∷ n.offset ∷ [] ≡ a ∷ b ∷ c ∷ d ∷ [] = sym n.are ∙ is in
    let first : n.name ≡ a = cc in
    let second : n.topic ≡ b = cc in
    let third : n.index ≡ c = cc in
    let fourth : n.offset ≡ d = cc in (
      subst IsName first n.is_client.is_name,
      subst IsName second n.is_topic,
      subst (λ w. SpellsCount w n.number) third n.is_index,
      subst (λ w. SpellsOffset w n.committed) fourth n.is_offset,
    )

pub numbered_one : (words : List (List ℕ)) (a : List ℕ) (number : ℕ) → words ≡ a ∷ [] → IsNumber words number → SpellsNumber a number
numbered_one words a number is n =
    let both : n.word ∷ [] ≡ a ∷ [] = sym n.are ∙ is in
    let same : n.word ≡ a = cc in
    subst (λ w. SpellsNumber w number) same n.spells

-- the texts of words are as many as the words
pub length-are : (words : List (Bor (List ℕ))) (list : List (List ℕ)) → map (λ word. word.now) words ≡ list → length words ≡ length list
length-are [] list is = ap length is
length-are (word ∷ words) list is = omega (arith, ap length is, length-are words (map (λ w. w.now) words) refl)

-- ---- words of a line

pub one_named : (cast : List Text) (words : List (Bor (List ℕ))) (r : Result ℕ LineFault) → 1 ≤ length words → length words < 2
    → IfOk r (IsClient cast (word_at words 0)) → IfOk r (NamesClient cast (texts words))
one_named cast words (Ok client) least most is = record { name = word_at words 0; is_client = is; are = one_word words least most }
one_named cast words (Err fault) least most is = tt

pub none_named : (cast : List Text) (words : List (Bor (List ℕ))) (r : Result ℕ LineFault) → 1 ≤ length words → length words < 2
    → OnErr r (IsName (word_at words 0) → ⊥) → OnErr r ((client : ℕ) → NamesClient cast (texts words) client → ⊥)
none_named cast words (Ok client) least most none = tt
none_named cast words (Err fault) least most none = λ client n. none (named_one cast (texts words) (word_at words 0) client (one_word words least most) n).is_name

pub one_numbered : (words : List (Bor (List ℕ))) (found : Option ℕ) (r : Result ℕ LineFault) (fault : LineFault) → 1 ≤ length words → length words < 2 → r ≡ ok_or found fault
    → IfSome found (λ number. (number < 2 ^ 64) × (word_at words 0 ≡ decimal number)) → IfOk r (IsNumber (texts words))
one_numbered words (Some number) r fault least most is some =
    rw is (record { word = word_at words 0; spells = record { below = some.0; spelled = some.1 }; are = one_word words least most })
one_numbered words None r fault least most is some = rw is tt

pub none_numbered : (words : List (Bor (List ℕ))) (found : Option ℕ) (r : Result ℕ LineFault) (fault : LineFault) → 1 ≤ length words → length words < 2 → r ≡ ok_or found fault
    → IfNone found ((number : ℕ) → number < 2 ^ 64 → word_at words 0 ≢ decimal number) → OnErr r ((number : ℕ) → IsNumber (texts words) number → ⊥)
none_numbered words (Some number) r fault least most is none = rw is tt
none_numbered words None r fault least most is none =
    rw is (λ number n. let one = numbered_one (texts words) (word_at words 0) number (one_word words least most) n in none number one.below one.spelled)

-- what holds whatever the fault is
pub on_err : {X E : Type 0} (r : Result X E) (P : Type 0) → P → OnErr r P
on_err (Ok x) P holds = tt
on_err (Err e) P holds = holds
