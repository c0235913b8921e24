-- What a change at one id keeps of a table, and what callers see of it.
use Rattle.std.proofs.Common.{◌≡◌, ℕ, ◌+◌, ◌-◌, ◌<◌, ◌≤◌, Bool, true, false, cond, not, ◌||◌, Option, Some, None, is_some, IsTrue, [], ◌∷◌, ◌++◌, length, min, String, refl, sym, ap, subst, ◌∙◌, true≢false, arith, List}
use borrow.Author.Tests.{leb-true}
use Rattle.std.specs.Prelude.{string_bytes, IsSome, nat_le}
use Rattle.std.specs.Ordering.{eq_by_cmp}
use Rattle.std.specs.List.{list_any}
use Rattle.std.specs.Str.{bytes_eq}
use Rattle.std.specs.FinMap as finite
use Rattle.std.specs.List.Sorted.{IsStrictlySortedBy}
use Rattle.std.specs.Map.{lookup}
use Rattle.std.specs.String.{string_eq}
use Rattle.std.proofs.lemmas.List.{length-append, length-drop}
use Rattle.indexmap.specs.IndexMap.{IndexMap, index_map_len, spare, get_by_text, IsUnique}
use Rattle.group_types.specs.declared.stamp.Stamp.{Stamp}
use Rattle.group_types.specs.Limits.{MOST_PAST_MEMBERS}
use Rattle.group_types.specs.Text.{Text, text_cmp}
use Rattle.group_types.specs.Group.{Record, Past, Records}
use Rattle.group_types.specs.Members.{HasInstance, is_remembered, past_stamp, remembering, without_past}
use Rattle.group_types.proofs.Lookups.{Tie, ties, differs, tie, not_none, some_is, text_ties}
use Rattle.group_types.proofs.PastLemmas.{few_without, stamp_without}
use Rattle.group_epochs.specs.Past.{PastState, HasRoomFor, places}
use Rattle.group_epochs.specs.Records.{RecordsState, IsMember}
use Rattle.group_types.specs.Places.{IsOrder}
use Rattle.group_epochs.specs.Table.{Adds, ChangesAt, IsIdOrder, IsMemberOrder, IsNobodys, IsOfMemberWith, IsTable, Rewrites, TakesOut, ids, key_cmp, keys_in, marks_in, no_key, records_in, room_in, texts_in}
use Rattle.group_epochs.specs.declared.entry.Entry.{Entry}
use Rattle.group_epochs.proofs.Keys.{keys_stay}
use Rattle.group_epochs.proofs.Remembered.{absent_behind, absent_drop, without_absent}
use Rattle.group_epochs.proofs.Rows.{found_after, get-marks_in, get-records_in, inserted, kept_in, mark_in, marks_after, records_after, removed, stays}

-- ---- options

pub the_some : {X : Type 0} (o : Option X) → IsSome o → (x : X) × (o ≡ Some x)
the_some None there = absurd (true≢false (sym there))
the_some (Some x) there = (x, refl)

is_some-kept_in : (o : Option Entry) → is_some (kept_in o) ≡ is_some o
is_some-kept_in None = refl
is_some-kept_in (Some e) = refl

-- ---- who is in a table

module _ {Y S : Type 0} (m : IndexMap (String Y) Entry S) where
  -- a member's entry is found
  pub entry_there : (id : Text) → IsTrue (finite.contains_key (records_in m.entries) id) → IsSome (get_by_text m id)
  entry_there id there = sym (ap is_some (get-records_in m.entries id) ∙ is_some-kept_in (get_by_text m id)) ∙ there

  none_there : (id : Text) → kept_in (get_by_text m id) ≡ None → get_by_text m id ≡ None
  none_there id none =
      elim (get_by_text m id) as (λ o. kept_in o ≡ None → o ≡ None) [ None ↦ λ _. refl | Some e ↦ λ is. absurd (not_none e.kept (sym is)) ] none

  pub member_there : (s : RecordsState) (id : Text) → records_in m.entries ≡ s.records → IsMember s id → IsSome (get_by_text m id)
  member_there s id is there = entry_there id (subst (λ (r : Records). IsTrue (finite.contains_key r id)) (sym is) there)

  -- no entry is found where there is no record
  pub entry_absent : (id : Text) → finite.get (records_in m.entries) id ≡ None → get_by_text m id ≡ None
  entry_absent id none = none_there id (sym (get-records_in m.entries id) ∙ none)

  -- the record of an entry that is found
  pub kept_of_found : (id : Text) (e : Entry) (r : Record) → get_by_text m id ≡ Some e → finite.get (records_in m.entries) id ≡ Some r → e.kept ≡ r
  kept_of_found id e r at is = some_is e.kept r (ap kept_in (sym at) ∙ sym (get-records_in m.entries id) ∙ is)

  -- a member is remembered, and another id where it is a former member's
  pub remembered_here : (past : PastState) (id : Text) → IsSome (get_by_text m id) → is_remembered (record { records = records_in m.entries; past = past.past }) id ≡ true
  remembered_here past id there = ap (λ b. b || list_any (λ e. eq_by_cmp text_cmp id e.0) past.past) (ap is_some (get-records_in m.entries id) ∙ is_some-kept_in (get_by_text m id) ∙ there)

  pub remembered_before : (past : PastState) (id : Text) → is_some (get_by_text m id) ≡ false → is_remembered (record { records = records_in m.entries; past = past.past }) id ≡ list_any (λ e. eq_by_cmp text_cmp id e.0) past.past
  remembered_before past id absent = ap (λ b. b || list_any (λ e. eq_by_cmp text_cmp id e.0) past.past) (ap is_some (get-records_in m.entries id) ∙ is_some-kept_in (get_by_text m id) ∙ absent)

-- ---- what a change keeps

module _ {Y S : Type 0} (m n : IndexMap (String Y) Entry S) (id : Text) where
  named_there : (w : Option Entry) → ChangesAt id m n w → (q : Text) → Tie q id → (e : Entry) → get_by_text n q ≡ Some e
      → ((e : Entry) → w ≡ Some e → e.id ≡ id) → ((q : Text) (e : Entry) → get_by_text m q ≡ Some e → e.id ≡ q) → e.id ≡ q
  named_there w changes q (ties same) e is own others =
      own e (sym (found_after m n id w changes q ∙ ap (λ b. cond b w (get_by_text m q)) (ap (λ t. eq_by_cmp text_cmp t id) same ∙ text_ties id)) ∙ is) ∙ sym same
  named_there w changes q (differs other apart) e is own others =
      others q e (sym (found_after m n id w changes q ∙ ap (λ b. cond b w (get_by_text m q)) apart) ∙ is)

  -- each entry stands under its id
  pub named_after : (w : Option Entry) → ChangesAt id m n w → ((e : Entry) → w ≡ Some e → e.id ≡ id)
      → ((q : Text) (e : Entry) → get_by_text m q ≡ Some e → e.id ≡ q) → (q : Text) (e : Entry) → get_by_text n q ≡ Some e → e.id ≡ q
  named_after w changes own others q e is = named_there w changes q (tie q id) e is own others

  -- another id that is there was there
  pub there_before : (w : Option Entry) → ChangesAt id m n w → (q : Text) → eq_by_cmp text_cmp q id ≡ false → IsSome (get_by_text n q) → IsSome (get_by_text m q)
  there_before w changes q apart there =
      ap is_some (sym (found_after m n id w changes q ∙ ap (λ b. cond b w (get_by_text m q)) apart)) ∙ there

  -- the id itself isn't there once it was taken out
  pub gone : ChangesAt id m n None → (q : Text) → q ≡ id → IsSome (get_by_text n q) → ⊥
  gone changes q same there =
      true≢false (sym there ∙ ap is_some (found_after m n id None changes q ∙ ap (λ b. cond b None (get_by_text m q)) (ap (λ t. eq_by_cmp text_cmp t id) same ∙ text_ties id)))

-- ---- a member's entry becomes another one

module _ {Y S : Type 0} {by_id : List ℕ} (m n : IndexMap (String Y) Entry S) (past : PastState) (id : Text) (change : Entry → Entry)
    (rewrites : Rewrites m n id change) (table : IsTable m by_id past) (there : IsSome (get_by_text m id)) where
  was : (e : Entry) × (get_by_text m id ≡ Some e)
  was = the_some (get_by_text m id) there

  changed : ChangesAt id m n (Some (change was.0))
  changed = rewrites.entry was.0 was.1

  pub table_rewritten : ((e : Entry) → (change e).id ≡ e.id) → IsTable n by_id past
  table_rewritten keeps =
      record {
        named =
            named_after m n id (Some (change was.0)) changed
            (λ e is. ap (λ e. e.id) (sym (some_is (change was.0) e is)) ∙ keeps was.0 ∙ table.named id was.0 was.1)
            table.named;
        apart = λ q found. by q found (tie q id);
        room = subst (λ k. HasRoomFor past (k + length past.past)) (sym rewrites.len) table.room;
        distinct = rewrites.distinct;
        order = subst (λ texts. IsIdOrder texts by_id) (sym rewrites.texts) table.order;
      }
    where
      by : (q : Text) → IsSome (get_by_text n q) → Tie q id → past_stamp past.past q ≡ None
      by q found (ties same) = ap (past_stamp past.past) same ∙ table.apart id there
      by q found (differs other apart) = table.apart q (there_before m n id (Some (change was.0)) changed q apart found)

  -- its instance stays, and so does its place in member order
  pub member_order_stays : {places : List ℕ} → ((e : Entry) → (change e).kept.instance ≡ e.kept.instance) → IsMemberOrder m.entries places → IsMemberOrder n.entries places
  member_order_stays {places} keeps order =
      let same : keys_in n.entries ≡ keys_in m.entries =
      ap keys_in (rewrites.rows was.0 was.1) ∙ keys_stay (λ k. bytes_eq id (string_bytes k)) m.entries was.0 (change was.0) was.1 (keeps was.0) in
      subst (λ keys. IsOrder key_cmp no_key keys places) (sym same) order

  -- its record becomes that of the new entry
  pub record_rewritten : (r : Record) → ((e : Entry) → get_by_text m id ≡ Some e → (change e).kept ≡ r) → records_in n.entries ≡ finite.insert (records_in m.entries) id r
  record_rewritten r is =
      inserted (records_in m.entries) (records_in n.entries) id r
      (λ q. records_after m n id (Some (change was.0)) changed q ∙ ap (λ o. cond (eq_by_cmp text_cmp q id) (Some o) (finite.get (records_in m.entries) q)) (is was.0 was.1))

  pub record_stays : ((e : Entry) → (change e).kept ≡ e.kept) → records_in n.entries ≡ records_in m.entries
  record_stays is =
      stays (records_in m.entries) (records_in n.entries) id
      (λ q. records_after m n id (Some (change was.0)) changed q
      ∙ ap (λ o. cond (eq_by_cmp text_cmp q id) o (finite.get (records_in m.entries) q)) (ap Some (is was.0) ∙ ap kept_in (sym was.1) ∙ sym (get-records_in m.entries id)))

  pub mark_stays : ((e : Entry) → (change e).mark ≡ e.mark) → marks_in n.entries ≡ marks_in m.entries
  mark_stays is =
      stays (marks_in m.entries) (marks_in n.entries) id
      (λ q. marks_after m n id (Some (change was.0)) changed q
      ∙ ap (λ o. cond (eq_by_cmp text_cmp q id) o (finite.get (marks_in m.entries) q)) (is was.0 ∙ ap mark_in (sym was.1) ∙ sym (get-marks_in m.entries id)))

  pub mark_set : (epoch : ℕ) → ((e : Entry) → (change e).mark ≡ Some epoch) → marks_in n.entries ≡ finite.insert (marks_in m.entries) id epoch
  mark_set epoch is =
      inserted (marks_in m.entries) (marks_in n.entries) id epoch
      (λ q. marks_after m n id (Some (change was.0)) changed q ∙ ap (λ o. cond (eq_by_cmp text_cmp q id) o (finite.get (marks_in m.entries) q)) (is was.0))

  pub mark_cleared : ((e : Entry) → (change e).mark ≡ None) → marks_in n.entries ≡ finite.remove (marks_in m.entries) id
  mark_cleared is =
      removed (marks_in m.entries) (marks_in n.entries) id
      (λ q. marks_after m n id (Some (change was.0)) changed q ∙ ap (λ o. cond (eq_by_cmp text_cmp q id) o (finite.get (marks_in m.entries) q)) (is was.0))

-- ---- a member comes in

none_forgotten : (past : Past) (id : Text) → past_stamp (without_past past id) id ≡ None
none_forgotten [] id = refl
none_forgotten (e ∷ past) id =
    elim (eq_by_cmp text_cmp id e.0) as (λ b. eq_by_cmp text_cmp id e.0 ≡ b → past_stamp (cond (not b) (e ∷ without_past past id) (without_past past id)) id ≡ None) [
      | true ↦ λ _. none_forgotten past id
      | false ↦ λ apart. ap (λ b. cond b (Some e.1) (past_stamp (without_past past id) id)) apart ∙ none_forgotten past id
    ] refl

module _ {Y S : Type 0} {by_id : List ℕ} (m n : IndexMap (String Y) Entry S) (past after : PastState) (id : Text) (entry : Entry)
    (adds : Adds m n id entry) (table : IsTable m by_id past) (forgets : after.past ≡ without_past past.past id) (same_places : places after ≡ places past) where
  pub table_added : entry.id ≡ id → HasRoomFor past (ids m past + 1) → (ranks : List ℕ) → IsIdOrder (texts_in n.entries) ranks → IsTable n ranks after
  table_added own room ranks order =
      let fewer = few_without past.past id in
      let long : length after.past ≡ length (without_past past.past id) = ap length forgets in
      let len : index_map_len n ≡ index_map_len m + 1 = adds.len in
      record {
        named = named_after m n id (Some entry) adds.entries (λ e is. ap (λ e. e.id) (sym (some_is entry e is)) ∙ own) table.named;
        apart = λ q found. ap (λ p. past_stamp p q) forgets ∙ by q found (tie q id);
        room = omega (arith, room, same_places, fewer, long, len);
        distinct = adds.distinct;
        order = order;
      }
    where
      by : (q : Text) → IsSome (get_by_text n q) → Tie q id → past_stamp (without_past past.past id) q ≡ None
      by q found (ties same) = ap (past_stamp (without_past past.past id)) same ∙ none_forgotten past.past id
      by q found (differs other apart) = stamp_without past.past id q (table.apart q (there_before m n id (Some entry) adds.entries q apart found))

  pub record_added : records_in n.entries ≡ finite.insert (records_in m.entries) id entry.kept
  record_added = inserted (records_in m.entries) (records_in n.entries) id entry.kept (records_after m n id (Some entry) adds.entries)

  pub marks_added : get_by_text m id ≡ None → entry.mark ≡ None → marks_in n.entries ≡ marks_in m.entries
  marks_added absent none =
      stays (marks_in m.entries) (marks_in n.entries) id
      (λ q. marks_after m n id (Some entry) adds.entries q
      ∙ ap (λ o. cond (eq_by_cmp text_cmp q id) o (finite.get (marks_in m.entries) q)) (none ∙ ap mark_in (sym absent) ∙ sym (get-marks_in m.entries id)))

-- room for a member is room for its id, too
pub room_for_one : {Y S : Type 0} (m : IndexMap (String Y) Entry S) (past : PastState) (order : ℕ) → 0 < room_in m past order → (0 < order) × (0 < spare m) × HasRoomFor past (ids m past + 1)
room_for_one m past order some = by (nat_le (min MOST_PAST_MEMBERS (ids m past + 1)) (places past)) refl some
  where
    by : (b : Bool) → nat_le (min MOST_PAST_MEMBERS (ids m past + 1)) (places past) ≡ b → 0 < cond b (min order (spare m)) 0 → (0 < order) × (0 < spare m) × HasRoomFor past (ids m past + 1)
    by true fits some = (omega (arith, some), omega (arith, some), leb-true _ _ fits)
    by false _ some = absurd (omega (arith, some))

-- ---- a member goes

remembered_apart : (past : Past) (id : Text) (stamp : Stamp) (q : Text) → eq_by_cmp text_cmp q id ≡ false → past_stamp past q ≡ None → past_stamp (remembering past id stamp) q ≡ None
remembered_apart past id stamp q apart none =
    absent_drop (length (past ++ (id, stamp) ∷ []) - MOST_PAST_MEMBERS) (past ++ (id, stamp) ∷ []) q (absent_behind past id q stamp apart none)

length-remembering : (past : Past) (id : Text) (stamp : Stamp) → length (remembering past id stamp) ≤ length past + 1
length-remembering past id stamp =
    let all : Past = past ++ (id, stamp) ∷ [] in
    let long = length-append past ((id, stamp) ∷ []) in
    let short = length-drop (length all - MOST_PAST_MEMBERS) all in
    omega (arith, long, short)

module _ {Y S : Type 0} {by_id : List ℕ} (m n : IndexMap (String Y) Entry S) (past after : PastState) (id given : Text) (stamp : Stamp)
    (takes : TakesOut m n id given) (table : IsTable m by_id past) (there : IsSome (get_by_text m id)) where
  pub given_is : given ≡ id
  given_is =
      let was = the_some (get_by_text m id) there in
      takes.given was.0 was.1 ∙ table.named id was.0 was.1

  -- the id isn't remembered yet, and there is room to
  pub given_absent : past_stamp past.past given ≡ None
  given_absent = ap (past_stamp past.past) given_is ∙ table.apart id there

  pub room_for_given : HasRoomFor past (length past.past + 1)
  room_for_given = let room = table.room in let len : index_map_len n + 1 ≡ index_map_len m = takes.len in omega (arith, room, len)

  pub table_without : after.past ≡ remembering past.past given stamp → places after ≡ places past → (ranks : List ℕ) → IsIdOrder (texts_in n.entries) ranks → IsTable n ranks after
  table_without remembers same_places ranks order =
      let is : after.past ≡ remembering past.past id stamp = remembers ∙ ap (λ t. remembering past.past t stamp) given_is in
      let long : length after.past ≡ length (remembering past.past id stamp) = ap length is in
      let longer = length-remembering past.past id stamp in
      let room = table.room in
      let len : index_map_len n + 1 ≡ index_map_len m = takes.len in
      record {
        named = named_after m n id None takes.entries (λ e is. absurd (not_none e is)) table.named;
        apart = λ q found. ap (λ p. past_stamp p q) is ∙ by q found (tie q id);
        room = omega (arith, room, len, longer, long, same_places);
        distinct = takes.distinct;
        order = order;
      }
    where
      by : (q : Text) → IsSome (get_by_text n q) → Tie q id → past_stamp (remembering past.past id stamp) q ≡ None
      by q found (ties same) = absurd (gone m n id takes.entries q same found)
      by q found (differs other apart) = remembered_apart past.past id stamp q apart (table.apart q (there_before m n id None takes.entries q apart found))

  pub record_gone : records_in n.entries ≡ finite.remove (records_in m.entries) id
  record_gone = removed (records_in m.entries) (records_in n.entries) id (records_after m n id None takes.entries)

  pub mark_gone : marks_in n.entries ≡ finite.remove (marks_in m.entries) id
  mark_gone = removed (marks_in m.entries) (marks_in n.entries) id (marks_after m n id None takes.entries)

-- ---- who has an instance id

module _ {Y S : Type 0} {by_id : List ℕ} (m : IndexMap (String Y) Entry S) (past : PastState) (table : IsTable m by_id past) (i : Text) where
  pub instance_found : (e : Entry) → IsOfMemberWith i m e → (finite.get (records_in m.entries) e.id ≡ Some e.kept) × (e.kept.instance ≡ Some i)
  instance_found e found =
      (ap (finite.get (records_in m.entries)) (table.named found.id e found.there) ∙ get-records_in m.entries found.id ∙ ap kept_in found.there, found.same)

  pub instance_absent : IsNobodys i m → (q : Text) → ¬ HasInstance (records_in m.entries) q i
  instance_absent nobodys q has =
      let found = the_some (get_by_text m q) (entry_there m q (ap is_some has.is_kept)) in
      nobodys q found.0 found.1 (ap (λ (r : Record). r.instance) (kept_of_found m q found.0 has.kept found.1 has.is_kept) ∙ has.same)

-- the table with no member
pub empty_table : {Y S : Type 0} (m : IndexMap (String Y) Entry S) (ranks : List ℕ) (past : PastState) → m.entries ≡ [] → ranks ≡ [] → IsUnique string_eq m → past.past ≡ [] → IsTable m ranks past
unfolding IsStrictlySortedBy
empty_table m ranks past none no_ranks distinct no_past =
    let found : (q : Text) → get_by_text m q ≡ None = λ q. ap (lookup (λ k. bytes_eq q (string_bytes k))) none in
    let order : IsIdOrder [] [] = record { rise = tt; all = λ q. refl; within = tt } in
    record {
      named = λ q e is. absurd (not_none e (sym (found q) ∙ is));
      apart = λ q there. absurd (true≢false (sym there ∙ ap is_some (found q)));
      room = omega (arith, ap length none, ap length no_past);
      distinct = distinct;
      order = subst (λ rows. IsIdOrder (texts_in rows) ranks) (sym none) (subst (IsIdOrder []) (sym no_ranks) order);
    }

pub nobody_in_order : {Y S : Type 0} (m : IndexMap (String Y) Entry S) (places : List ℕ) → m.entries ≡ [] → places ≡ [] → IsMemberOrder m.entries places
unfolding IsStrictlySortedBy
nobody_in_order {Y} m places none no_places =
    let order : IsMemberOrder {Y = Y} [] [] = record { rise = tt; all = λ q. refl; within = tt } in
    subst (λ rows. IsMemberOrder rows places) (sym none) (subst (IsMemberOrder {Y = Y} []) (sym no_places) order)

-- ---- an heir takes a member's place

module _ {Y S : Type 0} {by_id : List ℕ} (m n : IndexMap (String Y) Entry S) (past forgot after : PastState) (old heir given : Text) (last : Stamp)
    (takes : TakesOut m n old given) (table : IsTable m by_id past) (there : IsSome (get_by_text m old)) (absent : get_by_text m heir ≡ None)
    (forgets : forgot.past ≡ without_past past.past heir) (same_places : places forgot ≡ places past) where
  -- the heir is no former member any more
  pub table_forgotten : IsTable m by_id forgot
  table_forgotten =
      let fewer = few_without past.past heir in
      let long : length forgot.past ≡ length (without_past past.past heir) = ap length forgets in
      let room = table.room in
      record {
        named = table.named;
        apart = λ q found. ap (λ p. past_stamp p q) forgets ∙ stamp_without past.past heir q (table.apart q found);
        room = omega (arith, room, same_places, fewer, long);
        distinct = table.distinct;
        order = table.order;
      }

  apart_ids : eq_by_cmp text_cmp heir old ≡ false
  apart_ids = by (tie heir old)
    where
      by : Tie heir old → eq_by_cmp text_cmp heir old ≡ false
      by (ties same) = absurd (true≢false (sym there ∙ ap is_some (ap (get_by_text m) (sym same) ∙ absent)))
      by (differs _ apart) = apart

  pub heir_absent : get_by_text n heir ≡ None
  heir_absent = found_after m n old None takes.entries heir ∙ ap (λ b. cond b None (get_by_text m heir)) apart_ids ∙ absent

  pub past_taken_over : after.past ≡ remembering forgot.past given last → after.past ≡ remembering (without_past past.past heir) old last
  past_taken_over remembers =
      remembers ∙ (λ i. remembering (forgets i) (given_is m n forgot after old given last takes table_forgotten there i) last)

  heir_forgotten : after.past ≡ remembering forgot.past given last → past_stamp after.past heir ≡ None
  heir_forgotten remembers =
      ap (λ p. past_stamp p heir) (past_taken_over remembers) ∙ remembered_apart (without_past past.past heir) old last heir apart_ids (none_forgotten past.past heir)

  pub heir_stays_forgotten : after.past ≡ remembering forgot.past given last → after.past ≡ without_past after.past heir
  heir_stays_forgotten remembers = sym (without_absent after.past heir (heir_forgotten remembers))

  pub room_for_heir : after.past ≡ remembering forgot.past given last → places after ≡ places forgot → HasRoomFor past (ids m past + 1) → HasRoomFor after (ids n after + 1)
  room_for_heir remembers kept_places room =
      let fewer = few_without past.past heir in
      let short : length forgot.past ≡ length (without_past past.past heir) = ap length forgets in
      let long : length after.past ≡ length (remembering forgot.past given last) = ap length remembers in
      let longer = length-remembering forgot.past given last in
      let len : index_map_len n + 1 ≡ index_map_len m = takes.len in
      omega (arith, room, same_places, kept_places, fewer, short, long, longer, len)
