-- Which commands words spell.
use Rattle.std.proofs.Common.{◌≡◌, ℕ, ◌<◌, ◌≤◌, ◌^◌, List, [], ◌∷◌, length, get_or, Bor, Some, codes, decimal, refl, sym, ap, ◌∙◌, subst, arith}
use Rattle.group_types.specs.declared.stamp.Stamp.{Stamp}
use Rattle.group_types.specs.Topics.{Topics}
use Rattle.topic_meta.specs.Images.{Entry}
use Rattle.scenario_lines.specs.declared.interpreter.Interpreter.{Interpreter}
use Rattle.scenario_text.specs.ImageWords.{SpellImage, IsImage}
use Rattle.scenario_text.proofs.TopicWords.{one_word, texts, two_words, word_at}
use Rattle.scenario_lines.specs.Commands.{Image, Now, Stamped, Request, Tick, IsCommand, DoesCommand}

-- ---- commands

pub now_done : (old : Interpreter) (moment : ℕ) (words : List (Bor (List ℕ))) → 1 ≤ length words → length words < 2
    → (moment < 2 ^ 64) × (word_at words 0 ≡ decimal moment) → DoesCommand (codes "now" ∷ texts words) old (record old { now = moment }) []
now_done old moment words least most spelled =
    record {
      command = Now moment;
      spelled = (spelled.0, ap (λ ws. codes "now" ∷ ws) (one_word words least most ∙ ap (λ w. w ∷ []) spelled.1));
      does = (refl, refl);
    }

pub stamp_done : (old : Interpreter) (stamp : Stamp) (words : List (Bor (List ℕ))) → 2 ≤ length words → length words < 3
    → (stamp.connection < 2 ^ 64) × (word_at words 0 ≡ decimal stamp.connection) → (stamp.frame < 2 ^ 64) × (word_at words 1 ≡ decimal stamp.frame)
    → DoesCommand (codes "stamp" ∷ texts words) old (record old { stamps = record old.stamps { given = Some stamp } }) []
stamp_done old stamp words least most first second =
    record {
      command = Stamped stamp;
      spelled = (
        first.0,
        second.0,
        ap (λ ws. codes "stamp" ∷ ws) (two_words words least most ∙ ap (λ w. w ∷ word_at words 1 ∷ []) first.1 ∙ ap (λ w. decimal stamp.connection ∷ w ∷ []) second.1),
      );
      does = (refl, refl);
    }

pub image_done : (old : Interpreter) (words : List (List ℕ)) (image : Topics) → IsImage words image
    → DoesCommand (codes "image" ∷ words) old (record old { node = record old.node { image = image } }) []
image_done old words image is =
    record {
      command = Image is.0;
      spelled = (words, refl, is.1);
      does = (ap (λ (t : Topics). (let it : Interpreter = record old { node = record old.node { image = t } } in it)) is.2, refl);
    }

abbrev pub first_byte : List (List ℕ) → ℕ
first_byte [] = 0
first_byte (word ∷ words) = get_or word 0 0

-- words that are no image ask for none
pub not_image : (words : List (List ℕ)) → ((list : List Entry) → SpellImage words list → ⊥) → IsCommand (codes "image" ∷ words) → ⊥
not_image words none (Image es, spelled) =
    let same : words ≡ spelled.0 = cc in
    none es (subst (λ ws. SpellImage ws es) (sym same) spelled.2)
not_image words none (Now moment, spelled) = absurd (omega (arith, ap first_byte spelled.1))
not_image words none (Stamped stamp, spelled) = absurd (omega (arith, ap first_byte spelled.2))
not_image words none (Request bytes, spelled) = absurd (omega (arith, ap first_byte spelled.1))
not_image words none (Tick, spelled) = absurd (omega (arith, ap first_byte spelled))
