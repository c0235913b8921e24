-- What the lines of `coord run` do. A play is a world with the names of its clients.
use Rattle.std.specs.Prelude.{◌≡◌, ℕ, Bool, true, false, List, [], ◌∷◌, ◌++◌, Result, refl}
use Rattle.std.specs.Coded.{Coded, code_by, coded×, coded_ℕ, coded_list, coded_bool}
use Rattle.group_types.specs.Text.{Text}
use Rattle.member_core.specs.Settings.{Settings}
use Rattle.member_core.specs.Client.{new_client}
use Rattle.world_sim.specs.declared.shown.Shown.{Shown}
use Rattle.world_sim.specs.declared.fault.WorldFault.{WorldFault}
use Rattle.world_sim.specs.World.{World, new_world}
use Rattle.world_sim.specs.Stored.{world_code}
use Rattle.world_sim.specs.Acts.{Act}
use Rattle.world_sim.specs.Acting.{Acted}
use Rattle.world_sim.specs.Settling.{IsSettling}
use Rattle.scenario_lines.specs.declared.verb.Verb.{Verb}
use Rattle.scenario_lines.specs.declared.verb.Verb.TheVariants as verbs
use Rattle.scenario_text.specs.Words.{IsLine, IsName, words_of}
use Rattle.scenario_lines.specs.Scripts.{word_of, number_in, SpellSettings, SpellsAct}
use Rattle.scenario_lines.specs.Shows.{IsAnswerText, settled_text, standings_text}

pub record Play : Type 0 where
  pub cast : List Text  -- the clients' names, in the order of their numbers
  pub world : World
  pub has_begun : Bool  -- an act was tried

-- a play is stored as the nested pairs of its fields
abbrev pub play_code : Coded Play
play_code =
    code_by (List (List ℕ) × (World × Bool)) (coded× (coded_list (coded_list coded_ℕ)) (coded× world_code coded_bool))
    (λ p. (p.cast, (p.world, p.has_begun))) (λ c. record { cast = c.0; world = c.1.0; has_begun = c.1.1 }) (λ _. refl)

-- nobody, at the clock 0; the salt is 0
abbrev pub new_play : Play
new_play = record { cast = []; world = new_world 0 []; has_begun = false }

-- ---- clients

-- the words are a client's name, which is new, and its settings; no act was tried
pub record Entrance (words : List (List ℕ)) (p : Play) : Type 0 where
  pub name : List ℕ
  pub more : List (List ℕ)
  pub settings : Settings
  pub are : words ≡ name ∷ more
  pub is_name : IsName name
  pub is_new : number_in p.cast name ≡ 0
  pub spelled : SpellSettings more settings
  pub early : p.has_begun ≡ false

-- with one client more, which hasn't asked for anything
abbrev pub with_entrance : Play → Text → Settings → Play
with_entrance p name settings =
    record p { cast = p.cast ++ name ∷ []; world = record p.world { clients = p.world.clients ++ new_client settings ∷ [] } }

pub record Enters (words : List (List ℕ)) (old new : Play) : Type 0 where
  pub entrance : Entrance words old
  pub after : new ≡ with_entrance old entrance.name entrance.settings

-- ---- acts

-- another world, in which an act was tried
abbrev pub in_world : Play → World → Play
in_world p w = record p { world = w; has_begun = true }

-- the act is done in the world, and what it shows is printed
pub record Performs (verb : Verb) (act : Act) (old new : Play) (text : List ℕ) : Type 0 where
  pub answer : Result Shown WorldFault
  pub acted : Acted old.world act answer new.world
  pub after : new ≡ in_world old new.world
  pub shown : IsAnswerText verb new.world answer text

-- the world is settled, and how that went is printed
pub record Settles (old new : Play) (text : List ℕ) : Type 0 where
  pub answer : Result (Unit {0}) WorldFault
  pub settled : IsSettling old.world answer new.world
  pub after : new ≡ in_world old new.world
  pub shown : text ≡ settled_text answer

-- ---- lines

-- what a verb and the words behind it do
abbrev pub DoesVerb : Verb → List (List ℕ) → Play → Play → List ℕ → Type 0
DoesVerb verbs.Client words old new text = Enters words old new × (text ≡ [])
DoesVerb verbs.Settle words old new text = (words ≡ []) × Settles old new text
DoesVerb verb words old new text = (act : Act) × SpellsAct old.cast verb words act × Performs verb act old new text

-- it isn't the verb of a client or of settling
abbrev pub IsOfAct : Verb → Type 0
IsOfAct verbs.Client = ⊥
IsOfAct verbs.Settle = ⊥
IsOfAct verb = Unit {0}

-- whether they may stand in a line
abbrev pub MayStand : Verb → List (List ℕ) → Play → Type 0
MayStand verbs.Client words p = Entrance words p
MayStand verbs.Settle words p = words ≡ []
MayStand verb words p = (act : Act) × SpellsAct p.cast verb words act

-- a line of `coord run`
pub record IsScriptLine (p : Play) (line : List ℕ) : Type 0 where
  pub is_line : IsLine line
  pub verb : Verb
  pub words : List (List ℕ)
  pub are : words_of line ≡ word_of verb ∷ words
  pub may : MayStand verb words p

-- what it does
pub record DoesScriptLine (old : Play) (line : List ℕ) (new : Play) (text : List ℕ) : Type 0 where
  pub is_line : IsLine line
  pub verb : Verb
  pub words : List (List ℕ)
  pub are : words_of line ≡ word_of verb ∷ words
  pub does : DoesVerb verb words old new text

-- what is printed behind the last line: where the clients stand
abbrev pub PrintsStandings : Play → List ℕ → Type 0
PrintsStandings p text = text ≡ standings_text p.cast p.world.clients
