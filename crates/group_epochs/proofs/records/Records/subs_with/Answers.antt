use Rattle.std.proofs.Common.{◌≡◌, [], ◌∷◌, ◌++◌, map, is_some, sym, ap, subst, ◌∙◌, append_assoc}
use Rattle.std.specs.Prelude.{IsPermutation, IsSorted, position, string_bytes}
use Rattle.std.specs.FinMap as finite
use Rattle.std.specs.Map.{keys_of, lookup}
use Rattle.std.specs.Str.{bytes_eq}
use Rattle.std.specs.VecDeque.Iter.{deque_iter_rest}
use Rattle.std.proofs.lemmas.List.{map-append}
use Rattle.group_types.specs.Assignors.{IdsAreApart, member_cmp}
use Rattle.group_types.specs.Group.{Records}
use Rattle.group_types.specs.Renewal as renewal
use Rattle.group_types.specs.Renewal.{AreMembers}
use Rattle.range_assign.specs.Members.{subscriber_of, subscribers_in}
use Rattle.group_epochs.specs.Records.{RecordsState}
use Rattle.group_epochs.specs.Table.{IsSplitAt, keys_in, other_places, rows_at, seen_of}
use Rattle.group_epochs.proofs.Around.{apart_around, listed_around, sorted_around}
use Rattle.group_epochs.proofs.Listed.{listed}
use Rattle.group_epochs.proofs.Others.{members_move}
use Rattle.group_epochs.proofs.Ranked.{all_in_member_order, ordered_distinct, ordered_named, records_alike}
use Rattle.group_epochs.proofs.records.Records.subs_with.Goals as goal

pub in_order-requires-clause-sorted : goal.in_order-requires-clause-sorted
in_order-requires-clause-sorted c =
    let all = c.self.inside.members.entries in
    let places = c.self.inside.in_member_order.items in
    let id = c.args.id.now in
    let r = c.args.record.now in
    let table = c.self.invariant.table in
    let own = c.get_index_of-own.result in
    let front = deque_iter_rest c.around.result.0 in
    let back = deque_iter_rest c.around.result.1 in
    let own_is : own ≡ position (λ k. bytes_eq id (string_bytes k)) (keys_of all) =
    c.get_index_of-own.ensures.index ∙ ap (λ t. position (λ k. bytes_eq t (string_bytes k)) (keys_of all)) c.as_str.ensures.value in
    let there : is_some own ≡ is_some (lookup (λ k. bytes_eq id (string_bytes k)) all) =
    c.get_index_of-own.ensures.found ∙ ap (λ t. is_some (lookup (λ k. bytes_eq t (string_bytes k)) all)) c.as_str.ensures.value in
    let split : IsSplitAt (keys_in all) places (r.instance, id) front back =
    subst (λ k. IsSplitAt (keys_in all) places k front back) (λ i. (c.instance.ensures i, c.as_str-2.ensures.value i)) c.around.ensures in
    let listed_so = map seen_of (rows_at all (other_places own front)) ++ renewal.subscriber_of (id, r) ∷ map seen_of (rows_at all (other_places own back)) in
    let pushed : subscribers_in c.push.new.self.items ≡ map seen_of (rows_at all (other_places own front)) ++ renewal.subscriber_of (id, r) ∷ [] =
    ap subscribers_in c.in_ok-push.ensures.items
    ∙ map-append subscriber_of c.add_others.new.subscribers.items (c.as_subscriber.result ∷ [])
    ∙ (λ i. (c.in_ok-add_others.ensures ∙ ap (λ l. subscribers_in l ++ map seen_of (rows_at all (other_places own front))) c.in_ok-members.ensures.items) i ++ c.as_subscriber.ensures i ∷ []) in
    let given : subscribers_in c.add_others-2.new.subscribers.items ≡ listed_so =
    c.in_ok-add_others-2.ensures
    ∙ ap (λ l. l ++ map seen_of (rows_at all (other_places own back))) pushed
    ∙ append_assoc (map seen_of (rows_at all (other_places own front))) (renewal.subscriber_of (id, r) ∷ []) (map seen_of (rows_at all (other_places own back))) in
    subst (IsSorted member_cmp) (sym given) (sorted_around all table.distinct table.named id own own_is there places front back c.self.invariant.member_order r split)

pub in_order-requires-clause-apart : goal.in_order-requires-clause-apart
in_order-requires-clause-apart c =
    let all = c.self.inside.members.entries in
    let places = c.self.inside.in_member_order.items in
    let id = c.args.id.now in
    let r = c.args.record.now in
    let table = c.self.invariant.table in
    let own = c.get_index_of-own.result in
    let front = deque_iter_rest c.around.result.0 in
    let back = deque_iter_rest c.around.result.1 in
    let own_is : own ≡ position (λ k. bytes_eq id (string_bytes k)) (keys_of all) =
    c.get_index_of-own.ensures.index ∙ ap (λ t. position (λ k. bytes_eq t (string_bytes k)) (keys_of all)) c.as_str.ensures.value in
    let there : is_some own ≡ is_some (lookup (λ k. bytes_eq id (string_bytes k)) all) =
    c.get_index_of-own.ensures.found ∙ ap (λ t. is_some (lookup (λ k. bytes_eq t (string_bytes k)) all)) c.as_str.ensures.value in
    let split : IsSplitAt (keys_in all) places (r.instance, id) front back =
    subst (λ k. IsSplitAt (keys_in all) places k front back) (λ i. (c.instance.ensures i, c.as_str-2.ensures.value i)) c.around.ensures in
    let listed_so = map seen_of (rows_at all (other_places own front)) ++ renewal.subscriber_of (id, r) ∷ map seen_of (rows_at all (other_places own back)) in
    let pushed : subscribers_in c.push.new.self.items ≡ map seen_of (rows_at all (other_places own front)) ++ renewal.subscriber_of (id, r) ∷ [] =
    ap subscribers_in c.in_ok-push.ensures.items
    ∙ map-append subscriber_of c.add_others.new.subscribers.items (c.as_subscriber.result ∷ [])
    ∙ (λ i. (c.in_ok-add_others.ensures ∙ ap (λ l. subscribers_in l ++ map seen_of (rows_at all (other_places own front))) c.in_ok-members.ensures.items) i ++ c.as_subscriber.ensures i ∷ []) in
    let given : subscribers_in c.add_others-2.new.subscribers.items ≡ listed_so =
    c.in_ok-add_others-2.ensures
    ∙ ap (λ l. l ++ map seen_of (rows_at all (other_places own back))) pushed
    ∙ append_assoc (map seen_of (rows_at all (other_places own front))) (renewal.subscriber_of (id, r) ∷ []) (map seen_of (rows_at all (other_places own back))) in
    subst IdsAreApart (sym given) (apart_around all table.distinct table.named id own own_is there places front back c.self.invariant.member_order r split)

pub returns : goal.returns
returns c =
    let all = c.self.inside.members.entries in
    let places = c.self.inside.in_member_order.items in
    let id = c.args.id.now in
    let r = c.args.record.now in
    let table = c.self.invariant.table in
    let own = c.get_index_of-own.result in
    let front = deque_iter_rest c.around.result.0 in
    let back = deque_iter_rest c.around.result.1 in
    let own_is : own ≡ position (λ k. bytes_eq id (string_bytes k)) (keys_of all) =
    c.get_index_of-own.ensures.index ∙ ap (λ t. position (λ k. bytes_eq t (string_bytes k)) (keys_of all)) c.as_str.ensures.value in
    let there : is_some own ≡ is_some (lookup (λ k. bytes_eq id (string_bytes k)) all) =
    c.get_index_of-own.ensures.found ∙ ap (λ t. is_some (lookup (λ k. bytes_eq t (string_bytes k)) all)) c.as_str.ensures.value in
    let split : IsSplitAt (keys_in all) places (r.instance, id) front back =
    subst (λ k. IsSplitAt (keys_in all) places k front back) (λ i. (c.instance.ensures i, c.as_str-2.ensures.value i)) c.around.ensures in
    let listed_so = map seen_of (rows_at all (other_places own front)) ++ renewal.subscriber_of (id, r) ∷ map seen_of (rows_at all (other_places own back)) in
    let pushed : subscribers_in c.push.new.self.items ≡ map seen_of (rows_at all (other_places own front)) ++ renewal.subscriber_of (id, r) ∷ [] =
    ap subscribers_in c.in_ok-push.ensures.items
    ∙ map-append subscriber_of c.add_others.new.subscribers.items (c.as_subscriber.result ∷ [])
    ∙ (λ i. (c.in_ok-add_others.ensures ∙ ap (λ l. subscribers_in l ++ map seen_of (rows_at all (other_places own front))) c.in_ok-members.ensures.items) i ++ c.as_subscriber.ensures i ∷ []) in
    let given : subscribers_in c.add_others-2.new.subscribers.items ≡ listed_so =
    c.in_ok-add_others-2.ensures
    ∙ ap (λ l. l ++ map seen_of (rows_at all (other_places own back))) pushed
    ∙ append_assoc (map seen_of (rows_at all (other_places own front))) (renewal.subscriber_of (id, r) ∷ []) (map seen_of (rows_at all (other_places own back))) in
    let listed_all = all_in_member_order all places table.distinct c.self.invariant.member_order in
    let apart = ordered_distinct all places listed_all table.distinct in
    let named = ordered_named all places listed_all table.distinct table.named in
    let subs : c.in_order.result ≡ listed_so = c.in_order.ensures ∙ given in
    subst (λ (s : RecordsState). AreMembers (finite.insert s.records id r) c.in_order.result) c.self.view_is
    (subst (λ (s : Records). AreMembers (finite.insert s id r) c.in_order.result) (records_alike all places listed_all table.distinct)
    (record {
      same =
          members_move (rows_at all places) id r c.in_order.result apart named
          (subst (IsPermutation (renewal.subscriber_of (id, r) ∷ listed all id places)) (sym subs) (listed_around all table.distinct table.named id own own_is there places front back c.self.invariant.member_order r split));
      sorted = subst (IsSorted member_cmp) (sym subs) (sorted_around all table.distinct table.named id own own_is there places front back c.self.invariant.member_order r split);
    }))
