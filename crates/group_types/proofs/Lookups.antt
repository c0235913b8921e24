-- What a map of texts answers after a change, and what texts that tie are.
use Rattle.std.proofs.Common.{◌≡◌, ◌≢◌, true, false, cond, Some, None, is_some, IsTrue, refl, sym, ap, ◌∙◌, true≢false}
use Rattle.std.specs.Option.{unwrap_or}
use Rattle.std.specs.Ordering.{eq_by_cmp}
use Rattle.std.specs.Cmp.{Equal-is, eq_by_cmp_equiv}
use Rattle.std.specs.FinMap as finite
use Rattle.group_types.specs.Text.{Text, text_cmp}
use Rattle.group_types.proofs.Orders.{text_cmp_total, text_cmp-IsAntisymmetric}

pub same_text : (m n : Text) → eq_by_cmp text_cmp m n ≡ true → m ≡ n
same_text m n so = text_cmp-IsAntisymmetric m n ((Equal-is (text_cmp m n)).0 so)

pub text_ties : (m : Text) → eq_by_cmp text_cmp m m ≡ true
text_ties m = (eq_by_cmp_equiv text_cmp_total).refl m

-- texts that don't tie differ
pub apart_texts : (m n : Text) → eq_by_cmp text_cmp m n ≡ false → m ≢ n
apart_texts m n apart is = true≢false (sym (text_ties m) ∙ ap (eq_by_cmp text_cmp m) is ∙ apart)

-- a text is another one or it isn't
pub data Tie (m n : Text) : Type 0 where
  ties : m ≡ n → Tie m n
  differs : m ≢ n → eq_by_cmp text_cmp m n ≡ false → Tie m n

pub tie : (m n : Text) → Tie m n
tie m n =
    elim (eq_by_cmp text_cmp m n) as (λ b. eq_by_cmp text_cmp m n ≡ b → Tie m n) [
      | true ↦ λ so. ties (same_text m n so)
      | false ↦ λ apart. differs (apart_texts m n apart) apart
    ] refl

-- texts that differ don't tie
pub no_tie : (m n : Text) → m ≢ n → eq_by_cmp text_cmp m n ≡ false
no_tie m n other = by (tie m n)
  where
    by : Tie m n → eq_by_cmp text_cmp m n ≡ false
    by (ties same) = absurd (other same)
    by (differs _ apart) = apart

pub some_is : {X : Type 0} (x y : X) → Some x ≡ Some y → x ≡ y
some_is x y is = ap (λ o. unwrap_or o x) is

pub not_none : {X : Type 0} (x : X) → None ≡ Some x → ⊥
not_none x is = true≢false (sym (ap is_some is))

module _ {X : Type 0} where
  -- what is found after a key was taken out was there before, under another key
  pub found_without : (s : finite.FinMap text_cmp X) (k q : Text) (x : X) → finite.get (finite.remove s k) q ≡ Some x → (finite.get s q ≡ Some x) × (q ≢ k)
  found_without s k q x is = by (tie q k)
    where
      answer : finite.get (finite.remove s k) q ≡ cond (eq_by_cmp text_cmp q k) None (finite.get s q)
      answer = finite.get-remove text_cmp_total s k q

      by : Tie q k → (finite.get s q ≡ Some x) × (q ≢ k)
      by (ties same) = absurd (not_none x (sym (answer ∙ ap (λ b. cond b None (finite.get s q)) (ap (λ t. eq_by_cmp text_cmp t k) same ∙ text_ties k)) ∙ is))
      by (differs other apart) = (sym (answer ∙ ap (λ b. cond b None (finite.get s q)) apart) ∙ is, other)

  pub none_without : (s : finite.FinMap text_cmp X) (k q : Text) → finite.get s q ≡ None → finite.get (finite.remove s k) q ≡ None
  none_without s k q none =
      finite.get-remove text_cmp_total s k q
      ∙ elim (eq_by_cmp text_cmp q k) as (λ b. cond b None (finite.get s q) ≡ None) [ true ↦ refl | false ↦ none ]

  pub removed_is_none : (s : finite.FinMap text_cmp X) (k : Text) → finite.get (finite.remove s k) k ≡ None
  removed_is_none s k = finite.get-remove text_cmp_total s k k ∙ ap (λ b. cond b None (finite.get s k)) (text_ties k)

  -- another key stays
  pub has_other : (s : finite.FinMap text_cmp X) (k q : Text) → q ≢ k → IsTrue (finite.contains_key s q) → IsTrue (finite.contains_key (finite.remove s k) q)
  has_other s k q other there = by (tie q k)
    where
      by : Tie q k → IsTrue (finite.contains_key (finite.remove s k) q)
      by (ties same) = absurd (other same)
      by (differs _ apart) = ap is_some (finite.get-remove text_cmp_total s k q ∙ ap (λ b. cond b None (finite.get s q)) apart) ∙ there

  pub get-inserted : (s : finite.FinMap text_cmp X) (k : Text) (v : X) → finite.get (finite.insert s k v) k ≡ Some v
  get-inserted s k v = finite.get-insert text_cmp_total s k v k ∙ ap (λ b. cond b (Some v) (finite.get s k)) (text_ties k)

  pub get-insert_other : (s : finite.FinMap text_cmp X) (k : Text) (v : X) (q : Text) → eq_by_cmp text_cmp q k ≡ false → finite.get (finite.insert s k v) q ≡ finite.get s q
  get-insert_other s k v q apart = finite.get-insert text_cmp_total s k v q ∙ ap (λ b. cond b (Some v) (finite.get s q)) apart

  -- what is found after a value was put in is that value, or it was there before
  pub data Found (s : finite.FinMap text_cmp X) (k : Text) (v : X) (q : Text) (x : X) : Type 0 where
    this : q ≡ k → x ≡ v → Found s k v q x
    another : q ≢ k → eq_by_cmp text_cmp q k ≡ false → finite.get s q ≡ Some x → Found s k v q x

  pub found : (s : finite.FinMap text_cmp X) (k : Text) (v : X) (q : Text) (x : X) → finite.get (finite.insert s k v) q ≡ Some x → Found s k v q x
  found s k v q x is =
      elim (eq_by_cmp text_cmp q k) as (λ b. eq_by_cmp text_cmp q k ≡ b → Found s k v q x) [
        | true ↦ λ so. this (same_text q k so) (some_is x v (sym is ∙ finite.get-insert text_cmp_total s k v q ∙ ap (λ b. cond b (Some v) (finite.get s q)) so))
        | false ↦ λ apart. another (apart_texts q k apart) apart (sym (get-insert_other s k v q apart) ∙ is)
      ] refl
