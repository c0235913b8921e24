-- That a scene's acts are the world's.
use Rattle.std.proofs.lemmas.List.{length-map}
use Rattle.std.proofs.Common.{◌≡◌, ◌⊎◌, ℕ, suc, ◌+◌, ◌<◌, true, false, List, [], ◌∷◌, ◌++◌, length, map, slice_get, Option, Some, None, unwrap_or, Ok, Err, Result, refl, sym, ap, ap₂, subst, ◌∙◌, add-one, length-append}
use Rattle.group_types.specs.declared.partition.Partition.{Partition}
use Rattle.group_types.specs.declared.stamp.Stamp.{Stamp}
use Rattle.member_core.specs.Client.{Client, state_of}
use Rattle.member_core.specs.Asking.{Ask, after_giving_up, may_ask}
use Rattle.member_core.specs.Releasing.{may_release, after_release}
use Rattle.world_sim.specs.declared.mail.Request as mail
use Rattle.world_sim.specs.declared.scene.Scene.{Scene}
use Rattle.world_sim.specs.declared.shown.Shown.{Shown}
use Rattle.world_sim.specs.declared.shown.Shown.TheVariants as shows
use Rattle.world_sim.specs.declared.state.ClientState.{ClientState}
use Rattle.world_sim.specs.declared.fault.WorldFault.{WorldFault}
use Rattle.world_sim.specs.declared.fault.WorldFault.TheVariants as faults
use Rattle.world_sim.specs.World.{World, Request, Reply, numbered, with_client, with_request}
use Rattle.world_sim.specs.Acts.{Asks, GivesUp, Release, Take, Is, IsSent, IsIgnored, ActStep, stamp_of}
use Rattle.world_sim.specs.Mail.{request_value, requests_of, replies_of, AreNamed}
use Rattle.world_sim.specs.Scene.{scene_view}
use Rattle.world_sim.specs.Acting.{Acted}
use Rattle.world_sim.specs.Standing.{CannotAsk}
use Rattle.world_sim.specs.Places.{AskedAt, ChangedAt, ShowsChange, ShowsTaken, TookAt}
use Rattle.world_sim.proofs.MailLemmas.{nothing_there}
use Rattle.world_sim.proofs.Performs.{asks, asks_not, gives_up, releases, takes}
use Rattle.world_sim.proofs.SceneLemmas.{at_number, changed_world, same_world, sent_world}

-- a number past the last
pub nobody : {X : Type 0} (xs : List X) (n count : ℕ) → count ≡ length xs → (n ≡ 0) ⊎ (count < n) → numbered xs n ≡ None
nobody xs n count all out = nothing_there xs n (subst (λ k. (n ≡ 0) ⊎ (k < n)) all out)

pub unmapped : {X Y : Type 0} (f : X → Y) (xs : List X) (n count : ℕ) → count ≡ length xs → (n ≡ 0) ⊎ (count < n) → numbered (map f xs) n ≡ None
unmapped f xs n count all out = nothing_there (map f xs) n (subst (λ k. (n ≡ 0) ⊎ (k < n)) (all ∙ sym (length-map xs f)) out)

module _ (s : Scene) (n place : ℕ) (is : n ≡ place + 1) where
  abbrev w : World
  w = scene_view s

  abbrev cs : List Client
  cs = s.clients.items

  there_is : (c : Client) → slice_get cs place ≡ Some c → numbered cs n ≡ Some c
  there_is c there = at_number cs n place is ∙ there

  -- ---- it asks

  request_is : (q : mail.Request) (after : Client) → q.stamp ≡ stamp_of (suc place) after → request_value q ≡ record { sender = n; stamp = stamp_of n after; body = q.frame }
  request_is q after stamped =
      ap (λ (st : Stamp). record { sender = st.connection; stamp = st; body = q.frame }) stamped
      ∙ ap (λ k. record { sender = k; stamp = stamp_of k after; body = q.frame }) (sym (is ∙ add-one place))

  pub asked : (ask : Ask) (q : mail.Request) (clients : List Client) (requests : List mail.Request) (count : ℕ)
      → AreNamed s.requests.items s.replies.items → AskedAt cs place ask (Ok q) clients → requests ≡ s.requests.items ++ q ∷ [] → count ≡ length requests
      → Acted w (Asks n ask) (Ok (shows.Sent count)) (record w { clients = clients; requests = requests_of requests; replies = replies_of requests s.replies.items })
  asked ask q clients requests count named (c, after, there, within, now, stamped) more counted =
      let sent = asks w n c (there_is c there) ask q.frame after within in
      let world : record w { clients = clients; requests = requests_of requests; replies = replies_of requests s.replies.items }
      ≡ with_request (with_client w n after) (record { sender = n; stamp = stamp_of n after; body = q.frame }) =
      sent_world s n place after clients requests q named is now more ∙ ap (λ (x : Request). with_request (with_client w n after) x) (request_is q after stamped) in
      let all : suc (length w.requests) ≡ count =
      ap suc (length-map s.requests.items request_value) ∙ sym (counted ∙ ap length more ∙ length-append s.requests.items (q ∷ []) ∙ add-one (length s.requests.items)) in
      (IsSent (suc (length w.requests)), subst (λ (x : World). ActStep w (Asks n ask) (IsSent (suc (length w.requests))) x) (sym world) sent, ap IsSent all)

  pub asked_not : (me : Client) (ask : Ask) (fault : WorldFault) (clients : List Client) (requests : List mail.Request)
      → numbered cs n ≡ Some me → may_ask me ask ≡ true → AskedAt cs place ask (Err fault) clients → requests ≡ s.requests.items
      → Acted w (Asks n ask) (Err fault) (record w { clients = clients; requests = requests_of requests; replies = replies_of requests s.replies.items })
  asked_not me ask fault clients requests known may (c, there, cannot, now) same = (
    asks_not w n me known ask fault may (subst (λ (x : Client). CannotAsk x ask fault) (ap (λ o. unwrap_or o c) (sym (there_is c there) ∙ known)) cannot),
    ap₂ (λ (xs : List Client) (qs : List mail.Request). record w { clients = xs; requests = requests_of qs; replies = replies_of qs s.replies.items }) now same,
  )

  -- ---- it gives up

  pub gave_up : (state : ClientState) (clients : List Client) → ChangedAt (λ c. c.waits) after_giving_up cs place (Some state) clients
      → Acted w (GivesUp n) (Ok (shows.Is state)) (record w { clients = clients })
  gave_up state clients (c, there, waits, shown, now) = (
    Is (state_of (after_giving_up c)),
    subst (λ (x : World). ActStep w (GivesUp n) (Is (state_of (after_giving_up c))) x) (sym (changed_world s n place (after_giving_up c) clients is now)) (gives_up w n c (there_is c there) true waits),
    ap Is (sym shown),
  )

  pub gave_up_not : (clients : List Client) → ChangedAt (λ c. c.waits) after_giving_up cs place None clients → Acted w (GivesUp n) (Err faults.WrongState) (record w { clients = clients })
  gave_up_not clients (c, there, waits, now) = (gives_up w n c (there_is c there) false waits, same_world s clients now)

  -- ---- it releases

  pub released : (p : Partition) (state : ClientState) (clients : List Client) → ChangedAt may_release (λ c. after_release c p) cs place (Some state) clients
      → Acted w (Release n p) (Ok (shows.Is state)) (record w { clients = clients })
  released p state clients (c, there, may, shown, now) = (
    Is (state_of (after_release c p)),
    subst (λ (x : World). ActStep w (Release n p) (Is (state_of (after_release c p))) x) (sym (changed_world s n place (after_release c p) clients is now)) (releases w n c (there_is c there) p true may),
    ap Is (sym shown),
  )

  pub released_not : (p : Partition) (clients : List Client) → ChangedAt may_release (λ c. after_release c p) cs place None clients → Acted w (Release n p) (Err faults.WrongState) (record w { clients = clients })
  released_not p clients (c, there, may, now) = (releases w n c (there_is c there) p false may, same_world s clients now)

-- ---- a reply is taken

module _ (s : Scene) (n place : ℕ) (r : Reply) (pooled : numbered (scene_view s).replies n ≡ Some r) (is : r.request.sender ≡ place + 1) where
  abbrev v : World
  v = scene_view s

  pub took : (state : ClientState) (clients : List Client) → TookAt s.clients.items place r.body (Ok (Some state)) clients
      → Acted v (Take n) (Ok (shows.Is state)) (record v { clients = clients })
  took state clients (c, after, there, takes_it, shown, now) = (
    Is (state_of after),
    subst (λ (x : World). ActStep v (Take n) (Is (state_of after)) x) (sym (changed_world s r.request.sender place after clients is now))
        (takes v n r c after true pooled (at_number s.clients.items r.request.sender place is ∙ there) takes_it),
    ap Is (sym shown),
  )

  pub took_not : (clients : List Client) → TookAt s.clients.items place r.body (Ok None) clients → Acted v (Take n) (Ok shows.Ignored) (record v { clients = clients })
  took_not clients (c, there, takes_it, now) = (
    IsIgnored,
    subst (λ (x : World). ActStep v (Take n) IsIgnored x) (sym (same_world s clients now))
        (takes v n r c c false pooled (at_number s.clients.items r.request.sender place is ∙ there) takes_it),
    refl,
  )

-- ---- whichever came of it

module _ (s : Scene) (n place : ℕ) (is : n ≡ place + 1) where
  pub gives_up_any : (o : Option ClientState) (r : Result Shown WorldFault) (clients : List Client) → ShowsChange o r → ChangedAt (λ c. c.waits) after_giving_up s.clients.items place o clients
      → Acted (scene_view s) (GivesUp n) r (record (scene_view s) { clients = clients })
  gives_up_any (Some state) r clients shown changed = subst (λ (x : Result Shown WorldFault). Acted (scene_view s) (GivesUp n) x (record (scene_view s) { clients = clients })) (sym shown) (gave_up s n place is state clients changed)
  gives_up_any None r clients shown changed = subst (λ (x : Result Shown WorldFault). Acted (scene_view s) (GivesUp n) x (record (scene_view s) { clients = clients })) (sym shown) (gave_up_not s n place is clients changed)

  pub releases_any : (p : Partition) (o : Option ClientState) (r : Result Shown WorldFault) (clients : List Client) → ShowsChange o r → ChangedAt may_release (λ c. after_release c p) s.clients.items place o clients
      → Acted (scene_view s) (Release n p) r (record (scene_view s) { clients = clients })
  releases_any p (Some state) r clients shown changed = subst (λ (x : Result Shown WorldFault). Acted (scene_view s) (Release n p) x (record (scene_view s) { clients = clients })) (sym shown) (released s n place is p state clients changed)
  releases_any p None r clients shown changed = subst (λ (x : Result Shown WorldFault). Acted (scene_view s) (Release n p) x (record (scene_view s) { clients = clients })) (sym shown) (released_not s n place is p clients changed)

module _ (s : Scene) (n place : ℕ) (r : Reply) (pooled : numbered (scene_view s).replies n ≡ Some r) (is : r.request.sender ≡ place + 1) where
  pub takes_any : (o : Option ClientState) (shown : Shown) (clients : List Client) → ShowsTaken o shown → TookAt s.clients.items place r.body (Ok o) clients
      → Acted (scene_view s) (Take n) (Ok shown) (record (scene_view s) { clients = clients })
  takes_any (Some state) shown clients so took_it = subst (λ (x : Shown). Acted (scene_view s) (Take n) (Ok x) (record (scene_view s) { clients = clients })) (sym so) (took s n place r pooled is state clients took_it)
  takes_any None shown clients so took_it = subst (λ (x : Shown). Acted (scene_view s) (Take n) (Ok x) (record (scene_view s) { clients = clients })) (sym so) (took_not s n place r pooled is clients took_it)
