-- The room for more offsets.
use Rattle.std.proofs.Common.{◌≡◌, ℕ, zero, suc, ◌≤◌, ◌<◌, ◌+◌, Bool, true, false, cond, List, [], ◌∷◌, length, Some, None, refl, sym, ap, subst, ◌∙◌, String, Global, slice_get, below_more, arith}
use Rattle.std.specs.Map.{lookup}
use Rattle.std.specs.Str.{bytes_eq}
use Rattle.std.specs.String.{string_bytes}
use Rattle.std.proofs.lemmas.Slice.Eq.{bytes_eq-Decides}
use Rattle.indexmap.specs.IndexMap.{get_by_text, index_map_len, spare}
use Rattle.group_types.specs.Text.{Text}
use Rattle.offset_guard.specs.Topics.{TopicState, TopicTable, HasTopicRoom, KeepsRoom, HasRoomFor}
use Rattle.offset_guard.proofs.Stores.{SetsTopic, at_other, at_name, same_entry, none_not}

-- the topic has as much room as before, or more
pub room_kept : (m n : TopicTable) (name : Text) (t : TopicState) → SetsTopic m n name t → (o : TopicState) → get_by_text m name ≡ Some o → o.room ≤ t.room → KeepsRoom m n
room_kept m n name t sets o was more other k room u there = by (bytes_eq name other) refl
  where
    by : (b : Bool) → bytes_eq name other ≡ b → k ≤ u.room
    by true here =
        let one : name ≡ other = (bytes_eq-Decides name other).0 here in
        let before : k ≤ o.room = room o (ap (get_by_text m) (sym one) ∙ was) in
        let same : t ≡ u = same_entry t u (sym (at_name m n name t sets) ∙ ap (get_by_text n) one ∙ there) in
        subst (λ (s : TopicState). k ≤ s.room) same (omega arith)
    by false apart = room u (sym (at_other m n name t sets other apart) ∙ there)

-- a topic without an entry needs no room
pub no_entry : (m : TopicTable) (name : Text) (k : ℕ) → get_by_text m name ≡ None → HasTopicRoom m name k
no_entry m name k none t there = absurd (none_not t (sym none ∙ there))

-- ---- room for the news, entry by entry

abbrev pub HasEntryRoom : TopicTable → List (String Global × TopicState) → ℕ → Type 0
HasEntryRoom topics es k = (e : String Global × TopicState) → slice_get es k ≡ Some e → HasTopicRoom topics (string_bytes e.0) e.1.len

-- an entry of the name stands somewhere
abbrev StandsIn : Text → TopicState → List (String Global × TopicState) → Type 0
StandsIn name t es = (k : ℕ) × (e : String Global × TopicState) × (k < length es) × (slice_get es k ≡ Some e) × (string_bytes e.0 ≡ name) × (e.1 ≡ t)

found_at : (name : Text) (es : List (String Global × TopicState)) (t : TopicState) → lookup (λ k. bytes_eq name (string_bytes k)) es ≡ Some t → StandsIn name t es
found_at name [] t none = absurd (none_not t none)
found_at name (e ∷ es) t there =
    elim (bytes_eq name (string_bytes e.0)) as (λ b. bytes_eq name (string_bytes e.0) ≡ b → cond b (Some e.1) (lookup (λ k. bytes_eq name (string_bytes k)) es) ≡ Some t → StandsIn name t (e ∷ es)) [
      | true ↦ λ here is. (zero, e, omega arith, refl, sym ((bytes_eq-Decides name (string_bytes e.0)).0 here), same_entry e.1 t is)
      | false ↦ λ apart is. let later = found_at name es t is in (suc later.0, later.1, omega (arith, later.2), later.3, later.4, later.5)
    ] refl there

pub room_of_each : (topics news : TopicTable) → index_map_len news ≤ spare topics → ((k : ℕ) → k < index_map_len news → HasEntryRoom topics news.entries k) → HasRoomFor topics news
room_of_each topics news fits each =
    record {
      entries = fits;
      each = λ name t there.
          let at : StandsIn name t news.entries = found_at name news.entries t there in
          let room : HasTopicRoom topics (string_bytes at.1.0) at.1.1.len = each at.0 at.2 at.1 at.3 in
          subst {A = Text} (λ n. HasTopicRoom topics n t.len) at.4 (subst (λ (u : TopicState). HasTopicRoom topics (string_bytes at.1.0) u.len) at.5 room);
    }

-- one entry more has room
pub room_step : (old new news : TopicTable) (at : ℕ) (name : String Global) (t : TopicState) → KeepsRoom old new → slice_get news.entries at ≡ Some (name, t) → HasTopicRoom new (string_bytes name) t.len
    → ((k : ℕ) → k < at → HasEntryRoom old news.entries k) → (k : ℕ) → k < at + 1 → HasEntryRoom new news.entries k
room_step old new news at name t keeps here room each =
    below_more (λ k. HasEntryRoom new news.entries k) at (λ k before e is. keeps (string_bytes e.0) e.1.len (each k before e is))
    (λ e is. subst {A = String Global × TopicState} (λ x. HasTopicRoom new (string_bytes x.0) x.1.len) (same_pair (name, t) e (sym here ∙ is)) room)
  where
    same_pair : (x y : String Global × TopicState) → Some x ≡ Some y → x ≡ y
    same_pair x y is = cc
