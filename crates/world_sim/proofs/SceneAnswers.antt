-- That what a scene's coordinator answers is the world's.
use Rattle.std.proofs.lemmas.List.{length-map}
use Rattle.std.proofs.Common.{◌≡◌, ℕ, suc, ◌≤◌, List, [], ◌∷◌, ◌++◌, length, map, drop, slice_get, Option, Some, None, Ok, refl, sym, ap, ap₂, subst, ◌∙◌, add-one, length-append}
use Rattle.kip_msgs.specs.Values.{commit_request, heartbeat_request}
use Rattle.kip_msgs.specs.Laws.{OneRequestABody}
use Rattle.group_types.specs.Limits.{LARGEST_BODY}
use Rattle.coord_node.specs.declared.event.Answered.{Answered}
use Rattle.coord_node.specs.declared.event.Answered.TheVariants as kinds
use Rattle.coord_node.specs.Coordinator.{Coordinator, Frame}
use Rattle.coord_node.specs.Nodes.{coordinator_of}
use Rattle.coord_node.specs.Answers as node
use Rattle.member_core.specs.Asking.{header_of}
use Rattle.member_core.specs.Committing.{commit_value}
use Rattle.world_sim.specs.declared.mail.Request as mail
use Rattle.world_sim.specs.declared.mail.Reply as answer
use Rattle.world_sim.specs.declared.scene.Scene.{Scene}
use Rattle.world_sim.specs.declared.shown.Shown.TheVariants as shows
use Rattle.world_sim.specs.World.{World, Request, Commit, numbered, cut, with_coordinator, with_reply}
use Rattle.world_sim.specs.Acts.{Bring, Deliver, Forgotten, IsRefused, ActStep, BringStep, no_stamp}
use Rattle.world_sim.specs.Invariant.{Keeps}
use Rattle.world_sim.specs.Mail.{request_value, reply_value, replies_of}
use Rattle.world_sim.specs.Scene.{scene_view}
use Rattle.world_sim.specs.Acting.{Acted, IsShown}
use Rattle.world_sim.specs.Passing.{AnswersUnlessForgotten}
use Rattle.world_sim.proofs.Delivered.{AnswersOne, IsHeartbeat, answered, closed, commit_is_request, never_closed, replied}
use Rattle.world_sim.proofs.Granted.{brought_grants, uncut}
use Rattle.world_sim.proofs.Numbered.{numbered_in}
use Rattle.world_sim.proofs.SceneLemmas.{replied_world}
use Rattle.world_sim.proofs.SceneMessages.{delivered, forgets, is_heartbeat}

module _ (one : OneRequestABody) (s : Scene) where
  abbrev w : World
  w = scene_view s

  -- ---- a request

  module _ (keeps : Keeps w) (n : ℕ) (m : mail.Request) (pooled : numbered w.requests n ≡ Some (request_value m)) (c : Coordinator) (before after : List ℕ) where
    abbrev HasCome : Option Answered → Type 0
    HasCome came = AnswersUnlessForgotten (coordinator_of s.node) m s.clock came c before after

    abbrev q : Request
    q = request_value m

    spelled : IsHeartbeat q
    spelled = is_heartbeat w n q pooled keeps

    pub answer_forgotten : HasCome None → ActStep w (Deliver n) (IsRefused Forgotten) w
    answer_forgotten come = forgets w n q pooled spelled (sym (come.forgotten (heartbeat_request spelled.0 spelled.1) spelled.2))

    module _ (commits : List Commit) (now : commits ≡ map (cut c) s.commits.items) where
      pub answer_closes : HasCome (Some kinds.Closes) → Acted w (Deliver n) (Ok shows.Closed) (record w { coordinator = c; commits = commits })
      answer_closes come =
          delivered w n q pooled spelled shows.Closed (record w { coordinator = c; commits = commits }) (sym (come.forgotten (heartbeat_request spelled.0 spelled.1) spelled.2))
          (subst (λ (ks : List Commit). AnswersOne q w shows.Closed (record w { coordinator = c; commits = ks })) (sym now) (closed one w q c before after come.step))

      pub answer_kept : HasCome (Some kinds.Replied) → before ≡ [] → (r : answer.Reply) (replies : List answer.Reply) (count : ℕ)
          → slice_get w.requests r.request ≡ Some q → r.frame ≡ drop 4 after → replies ≡ s.replies.items ++ r ∷ [] → count ≡ length replies
          → Acted w (Deliver n) (Ok (shows.Replied count)) (record w { coordinator = c; commits = commits; replies = replies_of s.requests.items replies })
      answer_kept come empty r replies count there framed more counted =
          delivered w n q pooled spelled (shows.Replied count) new (sym (come.forgotten (heartbeat_request spelled.0 spelled.1) spelled.2))
          (subst (λ (x : World). AnswersOne q w (shows.Replied count) x) (sym same)
          (subst (λ k. AnswersOne q w (shows.Replied k) target) all (replied one w q spelled c before after empty come.step)))
        where
          new : World
          new = record w { coordinator = c; commits = commits; replies = replies_of s.requests.items replies }

          target : World
          target = with_reply (with_coordinator w c) (record { request = q; body = drop 4 after })

          all : suc (length w.replies) ≡ count
          all =
              ap suc (length-map s.replies.items (reply_value s.requests.items))
              ∙ sym (counted ∙ ap length more ∙ length-append s.replies.items (r ∷ []) ∙ add-one (length s.replies.items))

          same : new ≡ target
          same =
              ap₂ (λ (ks : List Commit) (rs : List answer.Reply). record w { coordinator = c; commits = ks; replies = replies_of s.requests.items rs }) now more
              ∙ replied_world s c r q (drop 4 after) there framed

  -- ---- a commit

  module _ (keeps : Keeps w) (n : ℕ) (k : Commit) (pooled : numbered s.commits.items n ≡ Some k) (small : length k.body ≤ LARGEST_BODY) (c : Coordinator) (before after : List ℕ) where
    pub commit_answered : node.Answers (coordinator_of s.node) (Frame k.body no_stamp s.clock) kinds.Closes c before after → ⊥
    commit_answered answers =
        let made = keeps.commits k (numbered_in s.commits.items n k pooled) in
        never_closed one w k (commit_request (header_of made.number) (commit_value k.group k.id k.epoch made.topics))
        (commit_is_request (header_of made.number) (commit_value k.group k.id k.epoch made.topics) k.body made.spells small) c before after answers
        (header_of made.number) (commit_value k.group k.id k.epoch made.topics) refl

    pub commit_brought : before ≡ [] → node.Answers (coordinator_of s.node) (Frame k.body no_stamp s.clock) kinds.Replied c before after
        → (frame : List ℕ) → frame ≡ drop 4 after → Acted w (Bring n) (Ok (shows.Answered frame)) (record w { coordinator = c })
    commit_brought empty answers frame framed =
        let made = keeps.commits k (numbered_in s.commits.items n k pooled) in
        let same = uncut w keeps c (brought_grants one w.coordinator c k w.clients made no_stamp w.clock answers.answer answers.step) in
        let it = answered one w k (commit_request (header_of made.number) (commit_value k.group k.id k.epoch made.topics))
        (commit_is_request (header_of made.number) (commit_value k.group k.id k.epoch made.topics) k.body made.spells small) c before after empty answers
        (header_of made.number) (commit_value k.group k.id k.epoch made.topics) refl in (
          it.0,
          subst (λ (o : Option Commit). BringStep o w it.0 (record w { coordinator = c })) (sym pooled)
              (subst (λ (ks : List Commit). BringStep (Some k) w it.0 (record w { coordinator = c; commits = ks })) same it.1),
          subst (λ (f : List ℕ). IsShown (shows.Answered f) it.0) (sym framed) it.2,
        )
