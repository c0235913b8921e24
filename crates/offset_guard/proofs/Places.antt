-- The offsets of all topics, by a topic's name and an index.
use Rattle.std.proofs.Common.{◌≡◌, ℤ, Bool, true, false, cond, not, ◌&&◌, List, [], ◌∷◌, Option, Some, None, refl, sym, ap, ◌∙◌, String, Global}
use Rattle.std.specs.FinMap as finite
use Rattle.std.specs.Map.{lookup}
use Rattle.std.specs.Option.{option_or}
use Rattle.std.specs.Ordering.{eq_by_cmp, int_cmp}
use Rattle.std.specs.Str.{bytes_eq}
use Rattle.std.specs.String.{string_bytes}
use Rattle.std.proofs.lemmas.Map.Text.{is_eq-slice_cmp}
use Rattle.group_types.specs.Text.{Text, text_cmp}
use Rattle.group_types.specs.Group.{Committed, Offsets, place_cmp}
use Rattle.group_types.proofs.OffsetLemmas.{place_cmp_total, place_cmp-IsAntisymmetric, eq-place}
use Rattle.offset_guard.specs.Topics.{TopicState, offset_in, with_topic, offsets_in}

one_more : {A : Type 0} (a b : Bool) (x : A) (o p : Option A) → cond (a && b) (Some x) (cond a (option_or o p) p) ≡ cond a (option_or (cond b (Some x) o) p) p
one_more true true x o p = refl
one_more true false x o p = refl
one_more false b x o p = refl

get-with_topic : (name : Text) (xs : List (ℤ × Committed)) (offsets : Offsets) (q : Text × ℤ)
    → finite.get (with_topic name xs offsets) q ≡ cond (eq_by_cmp text_cmp q.0 name) (option_or (finite.find int_cmp q.1 xs) (finite.get offsets q)) (finite.get offsets q)
get-with_topic name [] offsets q =
    elim (eq_by_cmp text_cmp q.0 name) as (λ b. finite.get offsets q ≡ cond b (finite.get offsets q) (finite.get offsets q)) [ true ↦ refl | false ↦ refl ]
get-with_topic name (x ∷ xs) offsets q =
    finite.get-insert place_cmp_total (with_topic name xs offsets) (name, x.0) x.1 q
    ∙ (λ j. cond (eq-place q (name, x.0) j) (Some x.1) (get-with_topic name xs offsets q j))
    ∙ one_more (eq_by_cmp text_cmp q.0 name) (eq_by_cmp int_cmp q.1 x.0) x.1 (finite.find int_cmp q.1 xs) (finite.get offsets q)

or_none : {A : Type 0} (o : Option A) → option_or o None ≡ o
or_none None = refl
or_none (Some x) = refl

chosen : {A : Type 0} (b : Bool) (o rest : Option A) → cond b (option_or o (cond (not b) rest None)) (cond (not b) rest None) ≡ cond b o rest
chosen true o rest = or_none o
chosen false o rest = refl

pub offset_in-cond : (b : Bool) (t : TopicState) (o : Option TopicState) (i : ℤ) → offset_in (cond b (Some t) o) i ≡ cond b (finite.get t.offsets i) (offset_in o i)
offset_in-cond true t o i = refl
offset_in-cond false t o i = refl

-- what is committed at a place is what a look-up of the topic finds, at the index
pub get-offsets_in : (ts : List (String Global × TopicState)) (q : Text × ℤ)
    → finite.get (offsets_in ts) q ≡ offset_in (lookup (λ k. bytes_eq q.0 (string_bytes k)) ts) q.1
get-offsets_in [] q = finite.get-empty place_cmp q
get-offsets_in (t ∷ ts) q =
    let name = string_bytes t.0 in
    let here = eq_by_cmp text_cmp q.0 name in
    let rest = finite.retain_keys (offsets_in ts) (λ place. not (eq_by_cmp text_cmp place.0 name)) in
    get-with_topic name (finite.entries t.1.offsets) rest q
    ∙ ap (λ o. cond here (option_or (finite.find int_cmp q.1 (finite.entries t.1.offsets)) o) o)
    (finite.get-retain_keys (offsets_in ts) (λ place. not (eq_by_cmp text_cmp place.0 name)) q (λ x tie. ap (λ (p : Text × ℤ). not (eq_by_cmp text_cmp p.0 name)) (sym (place_cmp-IsAntisymmetric q x tie))))
    ∙ chosen here (finite.find int_cmp q.1 (finite.entries t.1.offsets)) (finite.get (offsets_in ts) q)
    ∙ (λ j. cond here (sym (finite.get-entries t.1.offsets q.1) j) (get-offsets_in ts q j))
    ∙ sym (offset_in-cond here t.1 (lookup (λ k. bytes_eq q.0 (string_bytes k)) ts) q.1)
    ∙ ap (λ b. offset_in (cond b (Some t.1) (lookup (λ k. bytes_eq q.0 (string_bytes k)) ts)) q.1) (is_eq-slice_cmp q.0 name)
