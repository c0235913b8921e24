-- One entry more in a draft.
use Rattle.std.proofs.Common.{◌≡◌, ℕ, Bool, true, false, cond, ◌||◌, List, [], ◌∷◌, ◌++◌, map, refl, sym, ap, ◌∙◌, Option, Some, None, string_bytes, is_some, bytes_eq, true≢false, String}
use Rattle.std.specs.declared.alloc.Global.{Global}
use Rattle.std.specs.Option.{option_map}
use Rattle.std.specs.BTreeMap.{BTreeMap, get_by_text, UpdatesBy}
use Rattle.std.specs.Ordering.{eq_by_cmp, is_eq, nat_cmp}
use Rattle.std.specs.Cmp.{eq_by_cmp_equiv}
use Rattle.std.specs.Cmp.Lexicographic.{slice_cmp}
use Rattle.std.specs.String.{string_cmp}
use Rattle.std.proofs.lemmas.Map.Text.{is_eq-slice_cmp, btree_map_updates_text}
use Rattle.group_types.specs.Topics.{Topics}
use Rattle.group_types.proofs.Orders.{text_cmp_total, text_cmp-IsAntisymmetric}
use Rattle.std.specs.BTreeSet as sorted
use Rattle.std.specs.BTreeSet.{BTreeSet, contains}
use Rattle.std.proofs.lemmas.List.{map-append}
use Rattle.std.specs.Set.{is_member}
use Rattle.std.specs.FinMap as finite
use Rattle.group_types.specs.Text.{Text, text_cmp}
use Rattle.topic_meta.specs.declared.draft.Draft.{Draft}
use Rattle.topic_meta.specs.declared.topic.StoredTopic.{StoredTopic}
use Rattle.topic_meta.specs.declared.image_fault.ImageFault.TheVariants.{DuplicateName, DuplicateId}
use Rattle.topic_meta.specs.Drafts.{IsDraftOf}
use Rattle.topic_meta.specs.Images.{Entry, fault_of, is_count, partitions, topic_of, topics_of}
use Rattle.topic_meta.specs.Stored.{shown_topic, topics_in}
use Rattle.topic_meta.proofs.Lookups.{get-topics_in, is_some-get-topics_of, is_some-find_named}

is_some-option_map : {A B : Type 0} (f : A → B) (o : Option A) → is_some (option_map f o) ≡ is_some o
is_some-option_map f None = refl
is_some-option_map f (Some x) = refl

-- a draft has a name where an earlier entry has it
pub name_is_taken : (earlier : List Entry) (draft : Draft) (q : Text) → IsDraftOf earlier draft
    → is_some (get_by_text draft.topics q) ≡ is_member bytes_eq (map (λ e. e.name) earlier) q
name_is_taken earlier draft q is =
    sym (is_some-option_map shown_topic (get_by_text draft.topics q))
    ∙ ap is_some (sym (get-topics_in draft.topics q))
    ∙ ap (λ topics. is_some (finite.get topics q)) is.topics
    ∙ is_some-get-topics_of earlier q

pub fault-duplicate_name : (earlier : List Entry) (draft : Draft) (e : Entry) → IsDraftOf earlier draft
    → is_count (partitions e.count) ≡ true → is_some (get_by_text draft.topics e.name) ≡ true
    → fault_of earlier e ≡ Some DuplicateName
fault-duplicate_name earlier draft e is counted taken =
    let name = sym (name_is_taken earlier draft e.name is) ∙ taken in rw (counted, name) refl

pub fault-duplicate_id : (earlier : List Entry) (draft : Draft) (e : Entry) → IsDraftOf earlier draft
    → is_count (partitions e.count) ≡ true → is_some (get_by_text draft.topics e.name) ≡ false
    → contains text_cmp draft.ids e.id ≡ true
    → fault_of earlier e ≡ Some DuplicateId
fault-duplicate_id earlier draft e is counted free taken =
    let name = sym (name_is_taken earlier draft e.name is) ∙ free in
    let id = sym (is.ids e.id) ∙ taken in
    rw (counted, name, id) refl

pub fault-none : (earlier : List Entry) (draft : Draft) (e : Entry) → IsDraftOf earlier draft
    → is_count (partitions e.count) ≡ true → is_some (get_by_text draft.topics e.name) ≡ false
    → contains text_cmp draft.ids e.id ≡ false
    → fault_of earlier e ≡ None
fault-none earlier draft e is counted free apart =
    let name = sym (name_is_taken earlier draft e.name is) ∙ free in
    let id = sym (is.ids e.id) ∙ apart in
    rw (counted, name, id) refl

none_of_not_some : {A : Type 0} (o : Option A) → is_some o ≡ false → o ≡ None
none_of_not_some None h = refl
none_of_not_some (Some x) h = absurd (true≢false h)

-- an entry with a new name adds its topic
pub topics_of-push : (earlier : List Entry) (e : Entry) → is_member bytes_eq (map (λ d. d.name) earlier) e.name ≡ false
    → topics_of (earlier ++ e ∷ []) ≡ finite.insert (topics_of earlier) e.name (topic_of e)
topics_of-push earlier e free =
    ap finite.from_entries (map-append (λ d. (d.name, topic_of d)) earlier (e ∷ []))
    ∙ finite.from_entries_push text_cmp_total text_cmp-IsAntisymmetric _ e.name (topic_of e)
    (none_of_not_some _ (is_some-find_named e.name earlier ∙ free))

pub is_member-push : (ids : List (List ℕ)) (x q : List ℕ) → is_member bytes_eq (ids ++ x ∷ []) q ≡ (bytes_eq q x || is_member bytes_eq ids q)
is_member-push [] x q = refl
is_member-push (y ∷ ids) x q =
    ap (λ b. bytes_eq q y || b) (is_member-push ids x q) ∙ either_first (bytes_eq q y) (bytes_eq q x) _
  where
    either_first : (a b c : Bool) → (a || (b || c)) ≡ (b || (a || c))
    either_first true true c = refl
    either_first true false c = refl
    either_first false b c = refl

option_map-cond : {A B : Type 0} (f : A → B) (b : Bool) (x : A) (o : Option A) → option_map f (cond b (Some x) o) ≡ cond b (Some (f x)) (option_map f o)
option_map-cond f true x o = refl
option_map-cond f false x o = refl

pub bytes_eq-tie : (x q : List ℕ) → bytes_eq x q ≡ eq_by_cmp text_cmp q x
bytes_eq-tie x q = sym (is_eq-slice_cmp x q) ∙ (eq_by_cmp_equiv text_cmp_total).symm x q

get-updated : (old new : BTreeMap (String Global) StoredTopic) (name : Text) (stored : StoredTopic) (topics : Topics) (q : Text)
    → UpdatesBy string_cmp (λ k. slice_cmp nat_cmp name (string_bytes k)) old new (Some stored)
    → topics_in old.entries ≡ topics
    → finite.get (topics_in new.entries) q ≡ finite.get (finite.insert topics name (shown_topic stored)) q
get-updated old new name stored topics q updates is =
    get-topics_in new q
    ∙ ap (option_map shown_topic) (btree_map_updates_text name old new (Some stored) updates q)
    ∙ option_map-cond shown_topic (bytes_eq name q) stored (get_by_text old q)
    ∙ ap (cond (bytes_eq name q) (Some (shown_topic stored))) (sym (get-topics_in old q) ∙ ap (λ m. finite.get m q) is)
    ∙ ap (λ b. cond b (Some (shown_topic stored)) (finite.get topics q)) (bytes_eq-tie name q)
    ∙ sym (finite.get-insert text_cmp_total topics name (shown_topic stored) q)

-- one entry more, with a new name
pub draft-push : (earlier : List Entry) (old new : Draft) (e : Entry) (stored : StoredTopic)
    → IsDraftOf earlier old
    → is_some (get_by_text old.topics e.name) ≡ false
    → shown_topic stored ≡ topic_of e
    → UpdatesBy string_cmp (λ k. slice_cmp nat_cmp e.name (string_bytes k)) old.topics new.topics (Some stored)
    → ((q : List ℕ) → contains text_cmp new.ids q ≡ (bytes_eq q e.id || contains text_cmp old.ids q))
    → IsDraftOf (earlier ++ e ∷ []) new
draft-push earlier old new e stored is free same updates ids = record {
  topics =
      finite.same_map text_cmp_total text_cmp-IsAntisymmetric _ _ (λ q. get-updated old.topics new.topics e.name stored _ q updates is.topics)
      ∙ ap (finite.insert (topics_of earlier) e.name) same
      ∙ sym (topics_of-push earlier e (sym (name_is_taken earlier old e.name is) ∙ free));
  ids = λ q.
      ids q
      ∙ ap (λ b. bytes_eq q e.id || b) (is.ids q)
      ∙ sym (is_member-push (map (λ d. d.id) earlier) e.id q)
      ∙ ap (λ all. is_member bytes_eq all q) (sym (map-append (λ d. d.id) earlier (e ∷ [])));
}

cond-or : (b c : Bool) → cond b true c ≡ (b || c)
cond-or true c = refl
cond-or false c = refl

-- one id more in the set of ids
pub ids-updated : (old new : BTreeSet (List ℕ)) (x : List ℕ) → sorted.Updates text_cmp old new x true
    → (q : List ℕ) → contains text_cmp new q ≡ (bytes_eq q x || contains text_cmp old q)
ids-updated old new x updates q =
    updates.0 q
    ∙ cond-or (is_eq (text_cmp x q)) (contains text_cmp old q)
    ∙ ap (λ b. b || contains text_cmp old q) (is_eq-slice_cmp x q ∙ bytes_eq-tie x q ∙ is_eq-slice_cmp q x)
