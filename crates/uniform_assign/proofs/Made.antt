-- How the places and the takers of a board are made, topic by topic and member by member.
use Rattle.std.proofs.Common.{◌≡◌, ℕ, ◌+◌, true, false, cond, List, [], ◌∷◌, ◌++◌, map, take, pos, refl, sym, ap, ◌∙◌, Some}
use Rattle.std.specs.List.{flat_map, range_with_len, slice_get}
use Rattle.std.specs.Option.{option_map}
use Rattle.std.proofs.lemmas.Grind.{flat_map-append}
use Rattle.std.proofs.lemmas.List.{append-nil, map-append, take_more}
use Rattle.std.proofs.lemmas.Option.{get_or_from_slice_get, slice_get_within}
use Rattle.group_types.specs.declared.partition.Partition.{Partition}
use Rattle.group_types.specs.Text.{Text}
use Rattle.group_types.specs.Topics.{Topic}
use Rattle.group_types.specs.Sets.{has}
use Rattle.group_types.specs.Assignors.{Subscriber, subscribers_of}
use Rattle.group_types.specs.Uniform.{partitions_of}
use Rattle.range_assign.proofs.Turns.{subscribers_of-next}
use Rattle.uniform_assign.specs.declared.board.Place.{Place}
use Rattle.uniform_assign.specs.Boards.{place_at, shown_place}

-- ---- places

-- the places show the partitions of the first n topics
abbrev pub ArePlacesTo : List (Text × Topic) → ℕ → List Place → Type 0
ArePlacesTo topics n places = map (shown_place topics) places ≡ map Some (flat_map partitions_of (take n topics))

abbrev part_of : Text × Topic → ℕ → Text × Partition
part_of t n = (t.0, record { topic = t.1.id; index = pos n })

places-topic : (topics : List (Text × Topic)) (at : ℕ) (t : Text × Topic) (is : List ℕ) → slice_get topics at ≡ Some t → map (shown_place topics) (map (place_at at t.1.id) is) ≡ map Some (map (part_of t) is)
places-topic topics at t [] here = refl
places-topic topics at t (i ∷ is) here =
    λ k. shown k ∷ places-topic topics at t is here k
  where
    shown : shown_place topics (place_at at t.1.id i) ≡ Some (part_of t i)
    shown = ap (option_map (λ (u : Text × Topic). (u.0, (place_at at t.1.id i).partition))) here

pub take-next : {X : Type 0} (xs : List X) (k : ℕ) (x : X) → slice_get xs k ≡ Some x → take (k + 1) xs ≡ take k xs ++ x ∷ []
take-next xs k x is = take_more xs k x (slice_get_within xs k x is) ∙ ap (λ y. take k xs ++ y ∷ []) (get_or_from_slice_get xs k x x is)

pub ArePlacesTo-more : (topics : List (Text × Topic)) (at : ℕ) (t : Text × Topic) (old new : List Place) → slice_get topics at ≡ Some t → ArePlacesTo topics at old → new ≡ old ++ map (place_at at t.1.id) (range_with_len 0 t.1.count)
    → ArePlacesTo topics (at + 1) new
ArePlacesTo-more topics at t old new here before same =
    ap (map (shown_place topics)) same
    ∙ map-append (shown_place topics) old (map (place_at at t.1.id) (range_with_len 0 t.1.count))
    ∙ (λ k. before k ++ places-topic topics at t (range_with_len 0 t.1.count) here k)
    ∙ sym (map-append Some (flat_map partitions_of (take at topics)) (partitions_of t))
    ∙ ap (map Some) (ap (λ xs. flat_map partitions_of (take at topics) ++ xs) (sym (append-nil (partitions_of t))) ∙ sym (flat_map-append partitions_of (take at topics) (t ∷ [])) ∙ ap (flat_map partitions_of) (sym (take-next topics at t here)))

-- ---- takers

pub AreTakersOf-next : (subs : List Subscriber) (at : ℕ) (m : Subscriber) (name : Text) (takers : List ℕ) → slice_get subs at ≡ Some m → has m.names name ≡ true
    → map (slice_get subs) takers ≡ map Some (subscribers_of (take at subs) name) → map (slice_get subs) (takers ++ at ∷ []) ≡ map Some (subscribers_of (take (at + 1) subs) name)
AreTakersOf-next subs at m name takers here there before =
    map-append (slice_get subs) takers (at ∷ [])
    ∙ (λ k. before k ++ here k ∷ [])
    ∙ sym (map-append Some (subscribers_of (take at subs) name) (m ∷ []))
    ∙ ap (map Some) (sym (subscribers_of-next subs at m here name ∙ ap (λ b. subscribers_of (take at subs) name ++ cond b (m ∷ []) []) there))

pub AreTakersOf-skip : (subs : List Subscriber) (at : ℕ) (m : Subscriber) (name : Text) (takers : List ℕ) → slice_get subs at ≡ Some m → has m.names name ≡ false
    → map (slice_get subs) takers ≡ map Some (subscribers_of (take at subs) name) → map (slice_get subs) takers ≡ map Some (subscribers_of (take (at + 1) subs) name)
AreTakersOf-skip subs at m name takers here away before =
    before ∙ ap (map Some) (sym (subscribers_of-next subs at m here name ∙ ap (λ b. subscribers_of (take at subs) name ++ cond b (m ∷ []) []) away ∙ append-nil (subscribers_of (take at subs) name)))
