-- What the code's player does, as a play.
use Rattle.std.proofs.Common.{◌≡◌, ◌≢◌, ℕ, Bool, true, false, List, [], ◌∷◌, ◌++◌, Result, Ok, Err, OnOk, refl, sym, ap, ◌∙◌, subst, append-nil}
use Rattle.group_types.specs.Text.{Text}
use Rattle.member_core.specs.Settings.{Settings}
use Rattle.member_core.specs.Client.{new_client}
use Rattle.world_sim.specs.declared.shown.Shown.{Shown}
use Rattle.world_sim.specs.declared.fault.WorldFault.{WorldFault}
use Rattle.world_sim.specs.World.{World}
use Rattle.world_sim.specs.Acts.{Act}
use Rattle.world_sim.specs.Acting.{Acted}
use Rattle.scenario_lines.specs.declared.verb.Verb.{Verb}
use Rattle.scenario_lines.specs.declared.verb.Verb.TheVariants as verbs
use Rattle.scenario_lines.specs.declared.player.Stage.{Stage}
use Rattle.scenario_text.specs.Runs.{Prints}
use Rattle.scenario_text.specs.Words.{IsName, words_of}
use Rattle.scenario_lines.specs.Scripts.{word_of, number_in, SpellSettings, SpellsAct}
use Rattle.scenario_lines.specs.Shows.{IsAnswerText, standings_text}
use Rattle.scenario_lines.specs.Plays.{Play, Entrance, Enters, Performs, DoesVerb, MayStand, IsOfAct, IsScriptLine, PrintsStandings}
use Rattle.scenario_lines.specs.Stages.{world_at, has_begun}
use Rattle.scenario_lines.proofs.Verbs.{one_verb}

abbrev pub play : List Text → World → Bool → Play
play cast world begun = record { cast = cast; world = world; has_begun = begun }

-- ---- acts

pub performs : (cast : List Text) (stage taken : Stage) (old : Play) (w new : World) (verb : Verb) (act : Act) (answer : Result Shown WorldFault) (text : List ℕ)
    → play cast (world_at stage) (has_begun stage) ≡ old → taken ≡ stage → w ≡ world_at taken → Acted w act answer new → IsAnswerText verb new answer text
    → Performs verb act old (play cast new true) text
performs cast stage taken old w new verb act answer text view same is acted shown =
    subst (λ p. Performs verb act p (play cast new true) text) view
    (record { answer = answer; acted = subst (λ v. Acted v act answer new) (is ∙ ap world_at same) acted; after = refl; shown = shown })

-- ---- where the clients stand

pub stands : (cast : List Text) (stage taken : Stage) (old : Play) (page before after : List ℕ)
    → play cast (world_at stage) (has_begun stage) ≡ old → taken ≡ stage → page ≡ standings_text cast (world_at taken).clients
    → after ≡ before ++ page → Prints (PrintsStandings old) before after
stands cast stage taken old page before after view same put printed =
    subst (λ p. Prints (PrintsStandings p) before after) view
    (record { text = page; is_text = put ∙ ap (λ (s : Stage). standings_text cast (world_at s).clients) same; printed = printed })

-- ---- clients

abbrev with_settings : World → Settings → World
with_settings w settings = record w { clients = w.clients ++ new_client settings ∷ [] }

pub enters : (cast cast' : List Text) (stage stage' : Stage) (old : Play) (words more : List (List ℕ)) (name : List ℕ) (settings : Settings)
    → play cast (world_at stage) (has_begun stage) ≡ old → words ≡ name ∷ more → IsName name → number_in cast name ≡ 0 → SpellSettings more settings
    → has_begun stage ≡ false → has_begun stage' ≡ false → world_at stage' ≡ with_settings (world_at stage) settings → cast' ≡ cast ++ name ∷ []
    → Enters words old (play cast' (world_at stage') (has_begun stage'))
enters cast cast' stage stage' old words more name settings view are is_name is_new spelled early early' world casts =
    subst (λ p. Enters words p (play cast' (world_at stage') (has_begun stage'))) view
    (record {
      entrance = record { name = name; more = more; settings = settings; are = are; is_name = is_name; is_new = is_new; spelled = spelled; early = early };
      after = ap (λ c. play c (world_at stage') (has_begun stage')) casts
          ∙ ap (λ w. play (cast ++ name ∷ []) w (has_begun stage')) world
          ∙ ap (play (cast ++ name ∷ []) (with_settings (world_at stage) settings)) (early' ∙ sym early);
    })

pub no_words : (p : Play) → Entrance [] p → ⊥
no_words p e = absurd cc

-- words that aren't those of an entrance: by the name, by the settings, or since it is late
pub same_name : (name : List ℕ) (more : List (List ℕ)) (p : Play) (e : Entrance (name ∷ more) p) → e.name ≡ name
same_name name more p e = let are = e.are in cc

pub same_more : (name : List ℕ) (more : List (List ℕ)) (p : Play) (e : Entrance (name ∷ more) p) → e.more ≡ more
same_more name more p e = let are = e.are in cc

pub no_settings : (name : List ℕ) (more : List (List ℕ)) (p : Play) → ((s : Settings) → SpellSettings more s → ⊥) → Entrance (name ∷ more) p → ⊥
no_settings name more p none e = none e.settings (subst (λ ws. SpellSettings ws e.settings) (same_more name more p e) e.spelled)

pub no_name : (name : List ℕ) (more : List (List ℕ)) (p : Play) → (IsName name → ⊥) → Entrance (name ∷ more) p → ⊥
no_name name more p none e = none (subst IsName (same_name name more p e) e.is_name)

pub no_new_name : (name : List ℕ) (more : List (List ℕ)) (p : Play) → number_in p.cast name ≢ 0 → Entrance (name ∷ more) p → ⊥
no_new_name name more p old e = old (sym (ap (number_in p.cast) (same_name name more p e)) ∙ e.is_new)

pub too_late : (name : List ℕ) (more : List (List ℕ)) (p : Play) → p.has_begun ≡ true → Entrance (name ∷ more) p → ⊥
too_late name more p begun e = let early = e.early in absurd cc

-- ---- verbs

pub is_of_act : (verb : Verb) → verb ≢ verbs.Client → verb ≢ verbs.Settle → IsOfAct verb
is_of_act verbs.Client client settle = client refl
is_of_act verbs.Settle client settle = settle refl
is_of_act verb client settle = tt

pub does_verb : (verb : Verb) (words : List (List ℕ)) (old new : Play) (text : List ℕ) → IsOfAct verb
    → (act : Act) → SpellsAct old.cast verb words act → Performs verb act old new text → DoesVerb verb words old new text
does_verb verbs.Client words old new text of act spelled performs = absurd of
does_verb verbs.Settle words old new text of act spelled performs = absurd of
does_verb verb words old new text of act spelled performs = (act, spelled, performs)

-- an act of the player, whose view the play is
pub does_act : (cast : List Text) (stage : Stage) (old new : Play) (verb : Verb) (words : List (List ℕ)) (act : Act) (text : List ℕ)
    → play cast (world_at stage) (has_begun stage) ≡ old → IsOfAct verb → SpellsAct cast verb words act → Performs verb act old new text
    → DoesVerb verb words old new text
does_act cast stage old new verb words act text view of spelled performs =
    does_verb verb words old new text of act (subst (λ (p : Play). SpellsAct p.cast verb words act) view spelled) performs

pub may_act : (verb : Verb) (words : List (List ℕ)) (p : Play) → IsOfAct verb → MayStand verb words p → (act : Act) × SpellsAct p.cast verb words act
may_act verbs.Client words p of may = absurd of
may_act verbs.Settle words p of may = absurd of
may_act verb words p of may = may

-- a client comes in, and nothing is printed
pub nothing_printed : {E : Type 0} (r : Result (Unit {0}) E) (words : List (List ℕ)) (old new : Play) (output : List ℕ) → OnOk r (Enters words old new)
    → OnOk r (Prints (DoesVerb verbs.Client words old new) output output)
nothing_printed (Ok done) words old new output enters = record { text = []; is_text = (enters, refl); printed = sym (append-nil output) }
nothing_printed (Err fault) words old new output enters = tt

-- ---- lines

-- the verb and the words behind it are the line's
pub same_verb : (line word : List ℕ) (more : List (List ℕ)) (verb : Verb) (p : Play) → words_of line ≡ word ∷ more → word ≡ word_of verb
    → IsScriptLine p line → MayStand verb more p
same_verb line word more verb p are is l =
    let both : word ∷ more ≡ word_of l.verb ∷ l.words = sym are ∙ l.are in
    let words : word ≡ word_of l.verb = cc in
    let rest : l.words ≡ more = cc in
    let one : l.verb ≡ verb = one_verb l.verb verb (sym words ∙ is) in
    subst (λ v. MayStand v more p) one (subst (λ ws. MayStand l.verb ws p) rest l.may)

pub no_verb : (line word : List ℕ) (more : List (List ℕ)) (p : Play) → words_of line ≡ word ∷ more → ((verb : Verb) → word ≢ word_of verb) → IsScriptLine p line → ⊥
no_verb line word more p are none l =
    let both : word ∷ more ≡ word_of l.verb ∷ l.words = sym are ∙ l.are in
    none l.verb cc
