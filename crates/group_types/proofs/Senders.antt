-- Whom a heartbeat is of: what the sender's own record and the other member with its instance are.
use Rattle.std.proofs.Common.{◌≡◌, ◌≢◌, ℕ, suc, Bool, true, false, cond, not, ◌&&◌, ◌||◌, List, [], ◌∷◌, length, Option, Some, None, is_some, refl, sym, ap, subst, ◌∙◌, arith, true≢false}
use Rattle.std.specs.List.{find, list_any}
use Rattle.std.specs.Option.{option_map, option_map_or}
use Rattle.std.specs.Ordering.{eq_by_cmp}
use Rattle.std.specs.Str.{bytes_eq}
use Rattle.std.specs.FinMap as finite
use Rattle.std.proofs.lemmas.Slice.Eq.{bytes_eq-Decides}
use Rattle.group_types.specs.Text.{Text, text_cmp}
use Rattle.group_types.specs.MemberId.{made_id}
use Rattle.group_types.specs.Group.{Record, Records, Group}
use Rattle.group_types.specs.Join.{IsNamed, IsSerial, Name, name_of_serial}
use Rattle.group_types.specs.Checks.{Member, has_instance, member_at, other_id_with, other_with, record_under}
use Rattle.group_types.proofs.Lookups.{Tie, ties, differs, tie, same_text, not_none, some_is}
use Rattle.group_types.proofs.MadeIds.{length-made_id}

-- ---- the first of a list that passes a test

pub find_passes : (test : Text → Bool) (ks : List Text) (k : Text) → find test ks ≡ Some k → test k ≡ true
find_passes test [] k is = absurd (not_none k is)
find_passes test (x ∷ xs) k is =
    elim (test x) as (λ b. test x ≡ b → cond b (Some x) (find test xs) ≡ Some k → test k ≡ true) [
      | true ↦ λ so first. ap test (sym (some_is x k first)) ∙ so
      | false ↦ λ apart later. find_passes test xs k later
    ] refl is

find_some : (test : Text → Bool) (ks : List Text) (n : Text) → test n ≡ true → list_any (eq_by_cmp text_cmp n) ks ≡ true → find test ks ≡ None → ⊥
find_some test [] n so there none = true≢false (sym there)
find_some test (x ∷ xs) n so there none =
    elim (test x) as (λ b. test x ≡ b → cond b (Some x) (find test xs) ≡ None → ⊥) [
      | true ↦ λ passes is. not_none x (sym is)
      | false ↦ λ fails is.
          find_some test xs n so (later fails (eq_by_cmp text_cmp n x) refl there) is
    ] refl none
  where
    later : test x ≡ false → (b : Bool) → eq_by_cmp text_cmp n x ≡ b → (b || list_any (eq_by_cmp text_cmp n) xs) ≡ true → list_any (eq_by_cmp text_cmp n) xs ≡ true
    later fails true same there = absurd (true≢false (sym so ∙ ap test (same_text n x same) ∙ fails))
    later fails false apart there = there

-- ---- instances

pub instance_of : (j : Text) (o : Option Text) → option_map_or (λ i. bytes_eq i j) o false ≡ true → o ≡ Some j
instance_of j None never = absurd (true≢false (sym never))
instance_of j (Some i) so = ap Some ((bytes_eq-Decides i j).0 so)

-- what passes the test has a record with the instance
with_instance : (records : Records) (m j k : Text) → (not (eq_by_cmp text_cmp m k) && has_instance j (finite.get records k)) ≡ true
    → (r : Record) × (finite.get records k ≡ Some r) × (r.instance ≡ Some j)
with_instance records m j k so = by (not (eq_by_cmp text_cmp m k)) (finite.get records k) refl so
  where
    by : (b : Bool) (o : Option Record) → finite.get records k ≡ o → (b && has_instance j o) ≡ true → (r : Record) × (finite.get records k ≡ Some r) × (r.instance ≡ Some j)
    by false o is never = absurd (true≢false (sym never))
    by true None is never = absurd (true≢false (sym never))
    by true (Some r) is so = (r, is, instance_of j r.instance so)

has_it : (records : Records) (m j n : Text) (s : Record) → n ≢ m → finite.get records n ≡ Some s → s.instance ≡ Some j
    → (not (eq_by_cmp text_cmp m n) && has_instance j (finite.get records n)) ≡ true
has_it records m j n s other there is =
    ap (λ o. not (eq_by_cmp text_cmp m n) && has_instance j o) there
    ∙ ap (λ o. not (eq_by_cmp text_cmp m n) && option_map_or (λ i. bytes_eq i j) o false) is
    ∙ (λ i. not (by (tie m n) i) && (bytes_eq-Decides j j).1 refl i)
  where
    by : Tie m n → eq_by_cmp text_cmp m n ≡ false
    by (ties same) = absurd (other (sym same))
    by (differs _ apart) = apart

-- where there is no other, no other has the instance
pub no_other : (records : Records) (m : Text) (instance : Option Text) → other_with records m instance ≡ None
    → (n : Text) (s : Record) (i : Text) → n ≢ m → finite.get records n ≡ Some s → instance ≡ Some i → s.instance ≡ Some i → ⊥
no_other records m None none n s i other there is has = not_none i is
no_other records m (Some j) none n s i other there is has =
    by (other_id_with records m j) refl none
  where
    by : (o : Option Text) → other_id_with records m j ≡ o → member_at records o ≡ None → ⊥
    by None is_none none =
        find_some (λ k. not (eq_by_cmp text_cmp m k) && has_instance j (finite.get records k)) (finite.keys records) n
        (has_it records m j n s other there (has ∙ ap Some (sym (some_is j i is))))
        (sym (finite.contains_key-keys records n) ∙ ap is_some there) is_none
    by (Some k) is_some none =
        let found = with_instance records m j k (find_passes (λ k. not (eq_by_cmp text_cmp m k) && has_instance j (finite.get records k)) (finite.keys records) k is_some) in
        not_none (record { id = k; kept = found.0 }) (sym none ∙ ap (option_map (λ r. record { id = k; kept = r })) found.1)

-- the other has a record, with the instance
pub other_is : (records : Records) (m : Text) (instance : Option Text) (old : Member) → other_with records m instance ≡ Some old
    → (finite.get records old.id ≡ Some old.kept) × (old.kept.instance ≡ instance)
other_is records m None old is = absurd (not_none old is)
other_is records m (Some j) old is = by (other_id_with records m j) refl is
  where
    by : (o : Option Text) → other_id_with records m j ≡ o → member_at records o ≡ Some old → (finite.get records old.id ≡ Some old.kept) × (old.kept.instance ≡ Some j)
    by None none is = absurd (not_none old is)
    by (Some k) there is =
        let found = with_instance records m j k (find_passes (λ k. not (eq_by_cmp text_cmp m k) && has_instance j (finite.get records k)) (finite.keys records) k there) in
        let same : record { id = k; kept = found.0 } ≡ old = some_is (record { id = k; kept = found.0 }) old (sym (ap (option_map (λ r. record { id = k; kept = r })) found.1) ∙ is) in (
          subst (λ (o : Member). finite.get records o.id ≡ Some o.kept) same found.1,
          subst (λ (o : Member). o.kept.instance ≡ Some j) same found.2,
        )

-- ---- the sender's own record

pub own_is : (records : Records) (m : Text) (r : Record) → record_under records m ≡ Some r → finite.get records m ≡ Some r
own_is records [] r is = absurd (not_none r is)
own_is records (c ∷ m) r is = is

pub own_none : (records : Records) (m : Text) → finite.get records [] ≡ None → record_under records m ≡ None → finite.get records m ≡ None
own_none records [] named none = named
own_none records (c ∷ m) named none = none

-- ---- the id under which a member joins

not_remembered : (a b : Bool) → (a || b) ≡ false → a ≡ false
not_remembered true b never = never
not_remembered false b none = refl

none_of : {X : Type 0} (o : Option X) → is_some o ≡ false → o ≡ None
none_of None none = refl
none_of (Some x) never = absurd (true≢false never)

some_bytes : (bs : Text) → length bs ≡ 36 → bs ≢ []
some_bytes bs long is = let none : length bs ≡ 0 = ap length is in absurd (omega (arith, long, none))

-- it is no member's yet where the sender has no record
pub named_fresh : (g : Group) (m : Text) (name : Name) → IsNamed g m (Some name) → record_under g.records m ≡ None
    → (finite.get g.records name.id ≡ None) × (name.id ≢ [])
named_fresh g (c ∷ m) name named none =
    let same : name ≡ record { id = c ∷ m; next_serial = g.serial } = some_is name (record { id = c ∷ m; next_serial = g.serial }) named in (
      ap (λ (n : Name). finite.get g.records n.id) same ∙ none,
      λ empty. let never : suc (length m) ≡ 0 = ap length (sym (ap (λ (n : Name). n.id) same) ∙ empty) in absurd (omega (arith, never)),
    )
named_fresh g [] name (serial, is_serial, named) none = by serial is_serial named
  where
    by : (o : Option ℕ) → IsSerial g o → Some name ≡ option_map (name_of_serial g) o → (finite.get g.records name.id ≡ None) × (name.id ≢ [])
    by None is never = absurd (not_none name (sym never))
    by (Some n) is same_some =
        let same : name ≡ name_of_serial g n = some_is name (name_of_serial g n) same_some in
        let fresh : finite.get g.records (made_id g.salt n) ≡ None = none_of _ (not_remembered _ _ is.fresh) in (
          ap (λ (x : Name). finite.get g.records x.id) same ∙ fresh,
          λ empty. some_bytes (made_id g.salt n) (length-made_id g.salt n) (sym (ap (λ (x : Name). x.id) same) ∙ empty),
        )

-- a member that has a record joins under its id
pub named_own : (g : Group) (m : Text) (name : Name) (r : Record) → IsNamed g m (Some name) → record_under g.records m ≡ Some r → name.id ≡ m
named_own g [] name r named own = absurd (not_none r own)
named_own g (c ∷ m) name r named own = ap (λ (n : Name). n.id) (some_is name (record { id = c ∷ m; next_serial = g.serial }) named)
