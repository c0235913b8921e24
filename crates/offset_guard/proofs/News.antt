-- The news, which go in entry by entry.
use Rattle.std.proofs.Common.{◌≡◌, ◌≤◌, ◌+◌, ℤ, Bool, true, false, cond, List, [], ◌∷◌, ◌++◌, Option, Some, None, refl, sym, ap, ◌∙◌, String, Global, arith}
use Rattle.std.specs.FinMap as finite
use Rattle.std.specs.Cmp.Lexicographic.{nat_list_eq_equiv}
use Rattle.std.specs.HashMap.{UpdatesBy}
use Rattle.std.specs.Map.{lookup}
use Rattle.std.specs.Option.{option_or}
use Rattle.std.specs.Str.{bytes_eq}
use Rattle.std.specs.String.{string_bytes, string_eq}
use Rattle.std.proofs.lemmas.Map.Text.{hash_map_updates_text}
use Rattle.std.proofs.lemmas.List.{nil_from_length}
use Rattle.std.proofs.lemmas.Slice.Eq.{bytes_eq-Decides}
use Rattle.indexmap.specs.IndexMap.{get_by_text, index_map_len, spare}
use Rattle.group_types.specs.Text.{Text}
use Rattle.group_types.specs.Group.{Committed}
use Rattle.offset_guard.specs.Topics.{TopicState, TopicTable, offset_in, offset_at, HasTopicRoom, HasRoomFor}
use Rattle.offset_guard.proofs.Stores.{at_name, none_not}

lookup-push : {X : Type 0} (test : String Global → Bool) (es : List (String Global × X)) (k : String Global) (x : X)
    → lookup test es ≡ None → test k ≡ true → lookup test (es ++ (k, x) ∷ []) ≡ Some x
lookup-push test [] k x none is = ap (λ b. cond b (Some x) None) is
lookup-push test (e ∷ es) k x none is =
    elim (test e.0) as (λ b. cond b (Some e.1) (lookup test es) ≡ None → cond b (Some e.1) (lookup test (es ++ (k, x) ∷ [])) ≡ Some x) [
      | true ↦ λ never. absurd (some_not e.1 never)
      | false ↦ λ rest. lookup-push test es k x rest is
    ] none
  where
    some_not : {X : Type 0} (x : X) → Some x ≡ None → ⊥
    some_not x is = cc

-- the last entry was taken out of the news, and its offsets went in
module _ (news rest : TopicTable) (name : String Global) (t : TopicState)
    (entries : news.entries ≡ rest.entries ++ (name, t) ∷ [])
    (gone : UpdatesBy string_eq (λ k. bytes_eq (string_bytes name) (string_bytes k)) news rest None) where
  rest_at : (other : Text) → get_by_text rest other ≡ cond (bytes_eq (string_bytes name) other) None (get_by_text news other)
  rest_at other = hash_map_updates_text (string_bytes name) news rest None gone other

  rest_here : (other : Text) → bytes_eq (string_bytes name) other ≡ true → get_by_text rest other ≡ None
  rest_here other here = rest_at other ∙ ap (λ b. cond b None (get_by_text news other)) here

  rest_apart : (other : Text) → bytes_eq (string_bytes name) other ≡ false → get_by_text rest other ≡ get_by_text news other
  rest_apart other apart = rest_at other ∙ ap (λ b. cond b None (get_by_text news other)) apart

  pub news_here : get_by_text news (string_bytes name) ≡ Some t
  news_here =
      ap (lookup (λ k. bytes_eq (string_bytes name) (string_bytes k))) entries
      ∙ lookup-push (λ k. bytes_eq (string_bytes name) (string_bytes k)) rest.entries name t
      (rest_here (string_bytes name) (nat_list_eq_equiv.refl (string_bytes name))) (nat_list_eq_equiv.refl (string_bytes name))

  module _ (old new : TopicTable) (others : (other : Text) → bytes_eq (string_bytes name) other ≡ false → get_by_text new other ≡ get_by_text old other) where
    pub room_left : HasRoomFor old news → index_map_len rest + 1 ≡ index_map_len news → spare old ≤ spare new + 1 → HasRoomFor new rest
    room_left room fewer used =
        record { entries = let all : index_map_len news ≤ spare old = room.entries in omega arith; each = λ other u there. by other u there (bytes_eq (string_bytes name) other) refl }
      where
        by : (other : Text) (u : TopicState) → get_by_text rest other ≡ Some u → (b : Bool) → bytes_eq (string_bytes name) other ≡ b → HasTopicRoom new other u.len
        by other u there true here = absurd (none_not u (sym (rest_here other here) ∙ there))
        by other u there false apart = λ v at. room.each other u (sym (rest_apart other apart) ∙ there) v (sym (others other apart) ∙ at)

    pub merged_left : ((i : ℤ) → offset_at new (string_bytes name, i) ≡ option_or (finite.get t.offsets i) (offset_at old (string_bytes name, i)))
        → (place : Text × ℤ) → option_or (offset_at rest place) (offset_at new place) ≡ option_or (offset_at news place) (offset_at old place)
    merged_left at_name place = by (bytes_eq (string_bytes name) place.0) refl
      where
        by : (b : Bool) → bytes_eq (string_bytes name) place.0 ≡ b → option_or (offset_at rest place) (offset_at new place) ≡ option_or (offset_at news place) (offset_at old place)
        by true here =
            let one : place.0 ≡ string_bytes name = sym ((bytes_eq-Decides (string_bytes name) place.0).0 here) in
            ap (λ o. option_or (offset_in o place.1) (offset_at new place)) (rest_here place.0 here)
            ∙ ap (λ other. offset_at new (other, place.1)) one
            ∙ at_name place.1
            ∙ ap (λ o. option_or (offset_in o place.1) (offset_at old (string_bytes name, place.1))) (sym news_here)
            ∙ ap (λ other. option_or (offset_at news (other, place.1)) (offset_at old (other, place.1))) (sym one)
        by false apart = λ j. option_or (offset_in (rest_apart place.0 apart j) place.1) (offset_in (others place.0 apart j) place.1)

-- no news are left
pub none_left : (news : TopicTable) (place : Text × ℤ) (o : Option Committed) → index_map_len news ≡ 0 → option_or (offset_at news place) o ≡ o
none_left news place o none =
    ap (λ es. option_or (offset_in (lookup (λ k. bytes_eq place.0 (string_bytes k)) es) place.1) o) (nil_from_length news.entries none)
