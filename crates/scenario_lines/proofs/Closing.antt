-- The lines of where the clients stand.
use Rattle.std.proofs.Common.{◌≡◌, ◌≤◌, ◌<◌, ℕ, zero, suc, ◌+◌, List, [], ◌∷◌, ◌++◌, length, map, take, get_or, slice_get, Bor, Option, Some, None, String, string_bytes, unwrap_or, refl, sym, ap, ◌∙◌, subst, append-nil, Global}
use Rattle.std.specs.List.{flat_map, zip}
use Rattle.std.specs.Option.{option_copied, option_map}
use Rattle.std.proofs.lemmas.Grind.{flat_map-append}
use Rattle.std.proofs.lemmas.List.{length-map, take_all}
use Rattle.std.proofs.lemmas.Option.{slice_get-map, slice_get_read}
use Rattle.std.proofs.Math.Numerals.{add-one}
use Rattle.group_types.specs.Text.{Text}
use Rattle.member_core.specs.Client.{state_of}
use Rattle.world_sim.specs.declared.view.ClientView.{ClientView}
use Rattle.world_sim.specs.Standing.{state_value}
use Rattle.world_sim.specs.Viewing.{IsView}
use Rattle.world_sim.specs.World.{World, numbered}
use Rattle.scenario_text.specs.Lines.{fed}
use Rattle.scenario_text.specs.Reports.{line}
use Rattle.scenario_lines.specs.Shows.{standing_text, standing_words, standings_text}
use Rattle.scenario_text.proofs.Pages.{two_put}

zip-take_one : {A B : Type 0} (xs : List A) (ys : List B) (i : ℕ) (x : A) (y : B) → slice_get xs i ≡ Some x → slice_get ys i ≡ Some y
    → zip (take (suc i) xs) ys ≡ zip (take i xs) ys ++ (x, y) ∷ []
zip-take_one [] ys i x y one other = absurd cc
zip-take_one (a ∷ xs) [] i x y one other = absurd cc
zip-take_one (a ∷ xs) (b ∷ ys) zero x y one other =
    let first : a ≡ x = cc in
    let second : b ≡ y = cc in
    ap (λ z. (z, b) ∷ []) first ∙ ap (λ z. (x, z) ∷ []) second
zip-take_one (a ∷ xs) (b ∷ ys) (suc i) x y one other = ap (λ es. (a, b) ∷ es) (zip-take_one xs ys i x y one other)

zip-take_none : {A B : Type 0} (xs : List A) (ys : List B) (i : ℕ) → slice_get ys i ≡ None → zip (take (suc i) xs) ys ≡ zip (take i xs) ys
zip-take_none [] ys zero none = refl
zip-take_none [] ys (suc i) none = refl
zip-take_none (a ∷ xs) [] zero none = refl
zip-take_none (a ∷ xs) [] (suc i) none = refl
zip-take_none (a ∷ xs) (b ∷ ys) zero none = absurd cc
zip-take_none (a ∷ xs) (b ∷ ys) (suc i) none = ap (λ es. (a, b) ∷ es) (zip-take_none xs ys i none)

-- a client's line, by what is seen of it
standing_text-view : (w : World) (n : ℕ) (name : Text) (view : ClientView) (v : IsView w n view)
    → fed (line name (standing_words (state_value view.state) (option_copied view.id) view.epoch view.own.now)) ≡ standing_text (name, v.client)
standing_text-view w n name view v =
    let c = v.client in
    ap (λ s. fed (line name (standing_words s (option_copied view.id) view.epoch view.own.now))) v.state
    ∙ ap (λ id. fed (line name (standing_words (state_of c) id view.epoch view.own.now))) v.id
    ∙ ap (λ e. fed (line name (standing_words (state_of c) c.id e view.own.now))) v.epoch
    ∙ ap (λ own. fed (line name (standing_words (state_of c) c.id c.epoch own))) v.own

-- the line of a client more
pub one_stands : (before between after : List ℕ) (names : List Text) (w : World) (i : ℕ) (name text : Text) (view : ClientView)
    → slice_get names i ≡ Some name → text ≡ name → IsView w (i + 1) view → between ≡ before ++ standings_text (take i names) w.clients
    → after ≡ between ++ fed (line text (standing_words (state_value view.state) (option_copied view.id) view.epoch view.own.now))
    → after ≡ before ++ standings_text (take (i + 1) names) w.clients
one_stands before between after names w i name text view named same v so_far put =
    let clients = w.clients in
    let c = v.client in
    let there : slice_get clients i ≡ Some c = subst (λ n. numbered clients n ≡ Some c) (add-one i) v.is_client in
    let more : zip (take (i + 1) names) clients ≡ zip (take i names) clients ++ (name, c) ∷ [] =
    ap (λ n. zip (take n names) clients) (add-one i) ∙ zip-take_one names clients i name c named there in
    let shown : fed (line text (standing_words (state_value view.state) (option_copied view.id) view.epoch view.own.now)) ≡ standing_text (name, c) =
    ap (λ t. fed (line t (standing_words (state_value view.state) (option_copied view.id) view.epoch view.own.now))) same
    ∙ standing_text-view w (i + 1) name view v in
    let all : standings_text (take (i + 1) names) clients ≡ standings_text (take i names) clients ++ standing_text (name, c) =
    ap (flat_map standing_text) more ∙ flat_map-append standing_text (zip (take i names) clients) ((name, c) ∷ [])
    ∙ ap (λ l. standings_text (take i names) clients ++ l) (append-nil (standing_text (name, c))) in
    two_put before between after (standings_text (take i names) clients) (standing_text (name, c)) so_far
    (put ∙ ap (λ l. between ++ l) shown) ∙ ap (λ l. before ++ l) (sym all)

-- there is no client more
pub nobody_stands : (before after : List ℕ) (names : List Text) (w : World) (i : ℕ) → numbered w.clients (i + 1) ≡ None
    → after ≡ before ++ standings_text (take i names) w.clients → after ≡ before ++ standings_text (take (i + 1) names) w.clients
nobody_stands before after names w i none so_far =
    let clients = w.clients in
    let nobody : slice_get clients i ≡ None = subst (λ n. numbered clients n ≡ None) (add-one i) none in
    so_far
    ∙ ap (λ es. before ++ flat_map standing_text es)
    (sym (ap (λ n. zip (take n names) clients) (add-one i) ∙ zip-take_none names clients i nobody))

-- all clients' lines
pub all_stand : (before after : List ℕ) (names : List Text) (w : World) (i : ℕ) → length names ≤ i
    → after ≡ before ++ standings_text (take i names) w.clients → after ≡ before ++ standings_text names w.clients
all_stand before after names w i all so_far = so_far ∙ ap (λ (l : List Text). before ++ standings_text l w.clients) (take_all i names all)

-- the name at a place
pub name_at : (names : List (String Global)) (i : ℕ) (name : String Global) → i < length names → name ≡ get_or names i name
    → slice_get (map string_bytes names) i ≡ Some (string_bytes name)
name_at names i name there is = slice_get-map string_bytes names i ∙ ap (option_map string_bytes) (slice_get_read names (length names) i name refl there is)

pub length-names : (names : List (String Global)) (i : ℕ) → length names ≤ i → length (map string_bytes names) ≤ i
length-names names i all = rw length-map all

-- the bytes of a text, or of another one
pub unwrap_or-copied : (text : Option (Bor (List ℕ))) (other : Bor (List ℕ)) → (unwrap_or text other).now ≡ unwrap_or (option_copied text) other.now
unwrap_or-copied None other = refl
unwrap_or-copied (Some text) other = refl
