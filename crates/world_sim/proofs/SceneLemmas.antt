-- What a scene is as a world, once something in it has changed.
use Rattle.std.proofs.Common.{◌≡◌, ℕ, zero, suc, ◌+◌, ◌<◌, List, [], ◌∷◌, ◌++◌, length, map, set, slice_get, get_or, Option, Some, unwrap_or, refl, sym, ap, ap₂, subst, ◌∙◌, arith, add-one}
use Rattle.std.proofs.lemmas.List.{set-get_or}
use Rattle.group_types.proofs.Lookups.{not_none}
use Rattle.member_core.specs.Client.{Client}
use Rattle.coord_node.specs.Coordinator.{Coordinator}
use Rattle.coord_node.specs.Nodes.{coordinator_of}
use Rattle.world_sim.specs.declared.mail.Request as mail
use Rattle.world_sim.specs.declared.mail.Reply as answer
use Rattle.world_sim.specs.declared.scene.Scene.{Scene}
use Rattle.world_sim.specs.World.{World, Request, Reply, numbered, renumbered, with_client, with_coordinator, with_reply, with_request}
use Rattle.world_sim.specs.Mail.{request_value, requests_of, reply_value, replies_of, AreNamed}
use Rattle.world_sim.specs.Scene.{scene_view}
use Rattle.world_sim.proofs.MailLemmas.{map_more, replies_stay}

-- ---- numbers and places

module _ {X : Type 0} where
  pub at_number : (xs : List X) (n place : ℕ) → n ≡ place + 1 → numbered xs n ≡ slice_get xs place
  at_number xs n place is = ap (λ k. numbered xs k) (is ∙ add-one place)

  pub renumbered_at : (xs : List X) (n place : ℕ) (x : X) → n ≡ place + 1 → renumbered xs n x ≡ set xs place x
  renumbered_at xs n place x is = ap (λ k. renumbered xs k x) (is ∙ add-one place)

  -- what an index gives is there
  pub indexed : (xs : List X) (place : ℕ) (x : X) → place < length xs → x ≡ get_or xs place x → slice_get xs place ≡ Some x
  indexed [] place x below is = absurd (omega (arith, below))
  indexed (y ∷ ys) zero x below is = ap Some (sym is)
  indexed (y ∷ ys) (suc place) x below is = indexed ys place x (omega (arith, below)) is

  pub some_at : (xs : List X) (place : ℕ) → place < length xs → (x : X) × (slice_get xs place ≡ Some x)
  some_at [] place below = absurd (omega (arith, below))
  some_at (y ∷ ys) zero below = (y, refl)
  some_at (y ∷ ys) (suc place) below = some_at ys place (omega (arith, below))

  pub numbered_index : (xs : List X) (n place : ℕ) (x : X) → n ≡ place + 1 → place < length xs → x ≡ get_or xs place x → numbered xs n ≡ Some x
  numbered_index xs n place x number below is = at_number xs n place number ∙ indexed xs place x below is

  -- what is put back where it was
  pub put_back : (xs : List X) (place : ℕ) (x y : X) → x ≡ get_or xs place x → y ≡ x → set xs place y ≡ xs
  put_back xs place x y is same = ap (λ z. set xs place z) (same ∙ is) ∙ set-get_or xs place x

pub some_same : {X : Type 0} (a b : X) → Some a ≡ Some b → a ≡ b
some_same a b same = ap (λ o. unwrap_or o a) same

pub mapped : {X Y : Type 0} (f : X → Y) (xs : List X) (place : ℕ) (x : X) → slice_get xs place ≡ Some x → slice_get (map f xs) place ≡ Some (f x)
mapped f [] place x is = absurd (not_none x is)
mapped f (y ∷ ys) zero x is = ap Some (ap f (some_same y x is))
mapped f (y ∷ ys) (suc place) x is = mapped f ys place x is

-- the request at a place is the one of its number
pub request_at : (xs : List mail.Request) (n place count : ℕ) (q : mail.Request) → n ≡ place + 1 → place < count → count ≡ length xs → q ≡ get_or xs place q
    → (slice_get (requests_of xs) place ≡ Some (request_value q)) × (numbered (requests_of xs) n ≡ Some (request_value q))
request_at xs n place count q number below all is =
    let there = mapped request_value xs place q (indexed xs place q (subst (λ k. place < k) all below) is) in
    (there, at_number (requests_of xs) n place number ∙ there)

-- ---- worlds

module _ (s : Scene) where
  abbrev w : World
  w = scene_view s

  pub changed_world : (n place : ℕ) (c : Client) (clients : List Client) → n ≡ place + 1 → clients ≡ set s.clients.items place c
      → record w { clients = clients } ≡ with_client w n c
  changed_world n place c clients is now = ap (λ (xs : List Client). record w { clients = xs }) (now ∙ sym (renumbered_at s.clients.items n place c is))

  pub same_world : (clients : List Client) → clients ≡ s.clients.items → record w { clients = clients } ≡ w
  same_world clients now = ap (λ (xs : List Client). record w { clients = xs }) now

  pub same_node : (c : Coordinator) (replies : List answer.Reply) → c ≡ coordinator_of s.node → replies ≡ s.replies.items
      → record w { coordinator = c; replies = replies_of s.requests.items replies } ≡ w
  same_node c replies same kept = ap₂ (λ (n : Coordinator) (rs : List answer.Reply). record w { coordinator = n; replies = replies_of s.requests.items rs }) same kept

  pub sent_world : (n place : ℕ) (c : Client) (clients : List Client) (requests : List mail.Request) (q : mail.Request) → AreNamed s.requests.items s.replies.items
      → n ≡ place + 1 → clients ≡ set s.clients.items place c → requests ≡ s.requests.items ++ q ∷ []
      → record w { clients = clients; requests = requests_of requests; replies = replies_of requests s.replies.items } ≡ with_request (with_client w n c) (request_value q)
  sent_world n place c clients requests q named is now more =
      ap₂ (λ (xs : List Client) (qs : List mail.Request). record w { clients = xs; requests = requests_of qs; replies = replies_of qs s.replies.items })
      (now ∙ sym (renumbered_at s.clients.items n place c is)) more
      ∙ ap₂ (λ (qs : List Request) (rs : List Reply). record w { clients = renumbered s.clients.items n c; requests = qs; replies = rs })
      (map_more request_value s.requests.items q) (replies_stay s.requests.items s.replies.items q named)

  pub replied_world : (c : Coordinator) (r : answer.Reply) (q : Request) (body : List ℕ) → slice_get (requests_of s.requests.items) r.request ≡ Some q → r.frame ≡ body
      → record (with_coordinator w c) { replies = replies_of s.requests.items (s.replies.items ++ r ∷ []) } ≡ with_reply (with_coordinator w c) (record { request = q; body = body })
  replied_world c r q body there is =
      ap (λ (rs : List Reply). record (with_coordinator w c) { replies = rs }) (map_more (reply_value s.requests.items) s.replies.items r)
      ∙ ap₂ (λ (o : Option Request) (b : List ℕ). with_reply (with_coordinator w c) (record { request = unwrap_or o (record { sender = 0; stamp = record { connection = 0; frame = 0 }; body = [] }); body = b })) there is
