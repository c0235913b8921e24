-- Names that are listed one after the other.
use Rattle.std.proofs.Common.{◌≡◌, ◌+◌, ◌<◌, ℕ, List, [], ◌∷◌, ◌++◌, length, take, get_or, All, Bor, sym, ap, subst, ◌∙◌, append_assoc}
use Rattle.std.proofs.lemmas.List.{map_push}
use Rattle.std.proofs.lemmas.List.Elements.{All-push}
use Rattle.std.proofs.lemmas.Grind.{take_at_read}
use Rattle.kip_msgs.specs.Writable.{IsShort}
use Rattle.broker_messages.specs.Heartbeat.{texts}

-- the names so far: those at first, and the further ones below an index
pub record AreNames (first further : List (Bor (List ℕ))) (i : ℕ) (all : List (Bor (List ℕ))) : Type 0 where
  pub names : texts all ≡ texts first ++ texts (take i further)
  pub short : All IsShort (texts all)

pub one_more : (first further : List (Bor (List ℕ))) (i : ℕ) (all more : List (Bor (List ℕ))) (d : Bor (List ℕ)) → i < length further → AreNames first further i all → IsShort (get_or further i d).now → more ≡ all ++ get_or further i d ∷ [] → AreNames first further (i + 1) more
one_more first further i all more d lt so_far short is =
    let name = get_or further i d in
    let pushed : texts more ≡ texts all ++ name.now ∷ [] = ap texts is ∙ map_push _ all name in
    let taken : texts (take (i + 1) further) ≡ texts (take i further) ++ name.now ∷ [] = ap texts (take_at_read further i d lt).1 ∙ map_push _ (take i further) name in
    record {
      names =
          pushed ∙ (ap (λ (l : List (List ℕ)). l ++ name.now ∷ []) so_far.names
          ∙ (append_assoc (texts first) (texts (take i further)) (name.now ∷ []) ∙ ap (λ (l : List (List ℕ)). texts first ++ l) (sym taken)));
      short = subst (All IsShort) (sym pushed) (All-push IsShort (texts all) name.now so_far.short short);
    }
