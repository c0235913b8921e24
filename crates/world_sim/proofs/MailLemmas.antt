-- What the code's requests and replies are once there is one more.
use Rattle.std.proofs.Common.{◌≡◌, ℕ, zero, suc, ◌<◌, ◌≤◌, List, [], ◌∷◌, ◌++◌, length, map, slice_get, Option, Some, None, unwrap_or, ◌⊎◌, refl, sym, ap, ap₂, subst, inl, inr, arith, length-append}
use Rattle.std.specs.List.{Contains}
use Rattle.world_sim.specs.declared.mail.Request as mail
use Rattle.world_sim.specs.declared.mail.Reply as answer
use Rattle.group_types.specs.Limits.{LARGEST_BODY}
use Rattle.coord_node.specs.Coordinator.{Coordinator}
use Rattle.world_sim.specs.World.{Request, Commit, numbered, cut}
use Rattle.world_sim.specs.Acts.{no_stamp}
use Rattle.world_sim.specs.Mail.{request_value, reply_value, replies_of, AreNamed, AreSmall}
use Rattle.world_sim.proofs.Lists.{In, from_in, in_map, to_in}
use Rattle.world_sim.proofs.Numbered.{one_more}

-- ---- places

module _ {X : Type 0} where
  pub nothing_there : (xs : List X) (n : ℕ) → (n ≡ 0) ⊎ (length xs < n) → numbered xs n ≡ None
  nothing_there xs zero out = refl
  nothing_there [] (suc n) out = refl
  nothing_there (x ∷ xs) (suc zero) (inl never) = absurd (omega (arith, never))
  nothing_there (x ∷ xs) (suc zero) (inr past) = absurd (omega (arith, past))
  nothing_there (x ∷ xs) (suc (suc n)) (inl never) = absurd (omega (arith, never))
  nothing_there (x ∷ xs) (suc (suc n)) (inr past) = nothing_there xs (suc n) (inr (omega (arith, past)))

  pub at_place : (xs : List X) (place : ℕ) (d : X) → place < length xs → slice_get xs place ≡ Some (unwrap_or (slice_get xs place) d)
  at_place [] place d below = absurd (omega (arith, below))
  at_place (x ∷ xs) zero d below = refl
  at_place (x ∷ xs) (suc place) d below = at_place xs place d (omega (arith, below))

  pub same_at : {Y : Type 0} (f : X → Y) (xs : List X) (place : ℕ) (x : X) → place < length xs → slice_get (map f (xs ++ x ∷ [])) place ≡ slice_get (map f xs) place
  same_at f [] place x below = absurd (omega (arith, below))
  same_at f (y ∷ ys) zero x below = refl
  same_at f (y ∷ ys) (suc place) x below = same_at f ys place x (omega (arith, below))

  pub map_more : {Y : Type 0} (f : X → Y) (xs : List X) (x : X) → map f (xs ++ x ∷ []) ≡ map f xs ++ f x ∷ []
  map_more f [] x = refl
  map_more f (y ∷ ys) x = ap (λ rest. f y ∷ rest) (map_more f ys x)

  map_alike : {Y : Type 0} (f g : X → Y) (xs : List X) → ((x : X) → In xs x → f x ≡ g x) → map f xs ≡ map g xs
  map_alike f g [] same = refl
  map_alike f g (x ∷ xs) same = ap₂ (λ y ys. y ∷ ys) (same x (inl refl)) (map_alike f g xs (λ y there. same y (inr there)))

-- ---- one more request

pub replies_stay : (requests : List mail.Request) (replies : List answer.Reply) (q : mail.Request) → AreNamed requests replies
    → replies_of (requests ++ q ∷ []) replies ≡ replies_of requests replies
replies_stay requests replies q named =
    map_alike (reply_value (requests ++ q ∷ [])) (reply_value requests) replies
    (λ r there. ap (λ (o : Option Request). record { request = unwrap_or o (record { sender = 0; stamp = no_stamp; body = [] }); body = r.frame })
    (same_at request_value requests r.request q (named r (from_in replies r there))))

pub named_still : (requests : List mail.Request) (replies : List answer.Reply) (q : mail.Request) → AreNamed requests replies → AreNamed (requests ++ q ∷ []) replies
named_still requests replies q named r there =
    let below : r.request < length requests = named r there in
    omega (arith, below, length-append requests (q ∷ []))

-- ---- one more reply

pub named_more : (requests : List mail.Request) (replies : List answer.Reply) (r : answer.Reply) → AreNamed requests replies → r.request < length requests → AreNamed requests (replies ++ r ∷ [])
named_more requests replies r named below other there = by (one_more replies r other there)
  where
    by : Contains replies other ⊎ (other ≡ r) → other.request < length requests
    by (inl before) = named other before
    by (inr is) = subst (λ (x : answer.Reply). x.request < length requests) (sym is) below

-- ---- commits that are cut, and one more

pub small_cut : (c : Coordinator) (old new : List Commit) → AreSmall old → new ≡ map (cut c) old → AreSmall new
small_cut c old new small is k there =
    let at = in_map (cut c) old k (to_in (map (cut c) old) k (subst (λ (ks : List Commit). Contains ks k) is there)) in
    subst (λ (x : Commit). length x.body ≤ LARGEST_BODY) at.2 (small at.0 (from_in old at.0 at.1))

pub small_more : (old : List Commit) (k : Commit) → AreSmall old → length k.body ≤ LARGEST_BODY → AreSmall (old ++ k ∷ [])
small_more old k small fits other there = by (one_more old k other there)
  where
    by : Contains old other ⊎ (other ≡ k) → length other.body ≤ LARGEST_BODY
    by (inl before) = small other before
    by (inr is) = subst (λ (x : Commit). length x.body ≤ LARGEST_BODY) (sym is) fits
