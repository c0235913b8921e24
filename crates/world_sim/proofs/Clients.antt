-- What is kept beside a member stays true of it.
use Rattle.std.proofs.Common.{◌≡◌, ℕ, suc, ◌+◌, Bool, true, false, List, [], drop, length, Option, Some, None, unwrap_or, ◌≤◌, Result, Ok, Err, if◌then◌else◌, is_some, refl, sym, ap, subst, ◌∙◌, arith}
use Rattle.kip_msgs.specs.Values.{CommitRequestTopicValue}
use Rattle.kip_msgs.specs.Spelling.{SpellsRequest}
use Rattle.group_types.specs.Text.{Text}
use Rattle.member_core.specs.Committing.{commit_for, may_commit_at}
use Rattle.group_types.proofs.FrameLemmas.{frame_body}
use Rattle.member_core.specs.Framing.{IsRequestFrame}
use Rattle.member_core.specs.Refusing.{Sends}
use Rattle.world_sim.specs.World.{Commit}
use Rattle.world_sim.specs.Acts.{commit_by}
use Rattle.std.specs.declared.alloc.AllocError.{AllocError}
use Rattle.group_types.specs.declared.partition.Partition.{Partition}
use Rattle.member_core.specs.Client.{Client}
use Rattle.member_core.specs.Asking.{Ask, Join, Beat, Leave, GoAway, after_asking, after_giving_up}
use Rattle.member_core.specs.Taking.{News, Accepts, Fences, Retries, Ends, TakesIf, after_news}
use Rattle.group_types.specs.Limits.{LARGEST_BODY}
use Rattle.group_types.specs.Partition.{Partitions}
use Rattle.member_core.specs.Releasing.{after_release, released_if}
use Rattle.world_sim.specs.declared.client.Client.TheInside.{Inside}
use Rattle.world_sim.specs.declared.standing.Standing.{Standing}
use Rattle.world_sim.specs.Standing.{client_of}
use Rattle.world_sim.specs.Stands.{TakesReply}
use Rattle.world_sim.specs.Clients.{IsClient, AsksWithin, IsCommitOf}

-- another client with the same settings and number
pub record IsLike (c new : Client) : Type 0 where
  pub settings : new.settings ≡ c.settings
  pub number : new.number ≡ c.number

itself : (c : Client) → IsLike c c
itself c = record { settings = refl; number = refl }

like_as : (c d new : Client) → new ≡ d → IsLike c d → IsLike c new
like_as c d new is like = record { settings = ap (λ (x : Client). x.settings) is ∙ like.settings; number = ap (λ (x : Client). x.number) is ∙ like.number }

pub like_giving_up : (waits : Bool) (c new : Client) → new ≡ (if waits then after_giving_up c else c) → IsLike c new
like_giving_up true c new is = like_as c (after_giving_up c) new is (record { settings = refl; number = refl })
like_giving_up false c new is = like_as c c new is (itself c)

released : (shown : Bool) (c : Client) (p : Partition) → IsLike c (released_if shown c p)
released true c p = itself c
released false c p = record { settings = refl; number = refl }

pub like_releasing : (may : Bool) (c new : Client) (p : Partition) → new ≡ (if may then after_release c p else c) → IsLike c new
like_releasing true c new p is = like_as c (after_release c p) new is (released _ c p)
like_releasing false c new p is = like_as c c new is (itself c)

told : (c : Client) (news : News) → IsLike c (after_news c news)
told c (Accepts m epoch None) = record { settings = refl; number = refl }
told c (Accepts m epoch (Some set)) = record { settings = refl; number = refl }
told c Fences = record { settings = refl; number = refl }
told c Retries = record { settings = refl; number = refl }
told c Ends = record { settings = refl; number = refl }

takes : (waits taken : Bool) (c new : Client) (body : List ℕ) → TakesIf waits c body taken new → IsLike c new
takes false taken c new body is = like_as c c new is.1 (itself c)
takes true true c new body is = like_as c (after_news c is.0) new is.2 (told c is.0)
takes true false c new body is = like_as c c new is.1 (itself c)

pub like_taking : (result : Result Bool AllocError) (c new : Client) (body : List ℕ) → TakesReply c body result new → IsLike c new
like_taking (Ok taken) c new body is = takes c.waits taken c new body is
like_taking (Err fault) c new body is = like_as c c new is (itself c)

-- a client that asked has one number more
pub asked_settings : (c : Client) (ask : Ask) → (after_asking c ask).settings ≡ c.settings
asked_settings c Join = refl
asked_settings c (Beat fullness) = refl
asked_settings c Leave = refl
asked_settings c GoAway = refl

pub asked_number : (c : Client) (ask : Ask) → (after_asking c ask).number ≡ suc c.number
asked_number c Join = refl
asked_number c (Beat fullness) = refl
asked_number c Leave = refl
asked_number c GoAway = refl

-- what is kept is true of a client like the former one
pub still : (a : Inside) (s : Standing) → IsClient a → IsLike (client_of a.standing) (client_of s) → IsClient (record a { standing = s })
still a s is like =
    record {
      group = is.group ∙ ap (λ settings. settings.group) (sym like.settings);
      number = is.number ∙ sym like.number;
      instance = is.instance ∙ ap (λ settings. is_some settings.instance) (sym like.settings);
    }

pub like_of : (s t : Standing) (new : Client) → s ≡ t → IsLike (client_of s) new → IsLike (client_of t) new
like_of s t new same like = subst (λ (x : Standing). IsLike (client_of x) new) same like

-- ---- it asks

pub asks_within : (c new : Client) (ask : Ask) (frame : List ℕ) → Sends c ask frame new → AsksWithin c ask (drop 4 frame) new
asks_within c new ask frame sends =
    subst (λ (body : List ℕ). AsksWithin c ask body new) (sym (frame_body sends.body frame sends.framed)) (record { asks = sends.asks; limit = sends.limit })

pub one_more_number : (a : Inside) (s : Standing) (ask : Ask) (frame : List ℕ) → IsClient a → Sends (client_of a.standing) ask frame (client_of s)
    → IsClient (record a { standing = s; requests = a.requests + 1 })
one_more_number a s ask frame is sends =
    let c = client_of a.standing in
    let number : (client_of s).number ≡ suc c.number = ap (λ (x : Client). x.number) sends.asks.after ∙ asked_number c ask in
    let was : a.requests ≡ c.number = is.number in
    record {
      group = is.group ∙ ap (λ settings. settings.group) (sym (asked_settings c ask)) ∙ ap (λ (x : Client). x.settings.group) (sym sends.asks.after);
      number = omega (arith, number, was);
      instance = is.instance ∙ ap (λ settings. is_some settings.instance) (sym (asked_settings c ask)) ∙ ap (λ (x : Client). is_some x.settings.instance) (sym sends.asks.after);
    }

-- ---- it commits

pub is_commit : (c : Client) (number : ℕ) (topics : List CommitRequestTopicValue) (frame : List ℕ) (k : Commit)
    → may_commit_at c.place ≡ true → IsRequestFrame (commit_for c number topics) frame → k ≡ commit_by c (drop 4 frame) → IsCommitOf c number topics k
is_commit c number topics frame k may is made =
    let body : k.body ≡ is.body = ap (λ (x : Commit). x.body) made ∙ frame_body is.body frame is.framed in
    record {
      may = may;
      spells = subst (λ (b : List ℕ). SpellsRequest (commit_for c number topics) b) (sym body) is.spells;
      is = made ∙ ap (λ (b : List ℕ). commit_by c b) (sym (ap (λ (x : Commit). x.body) made));
      limit = subst (λ (b : List ℕ). length b ≤ LARGEST_BODY) (sym body) is.limit;
    }

pub same_commit : (c : Client) (k : Commit) (b body group : List ℕ) (id : Option Text) (epoch : ℕ) (own : Partitions)
    → k ≡ record { body = body; group = group; id = unwrap_or id []; epoch = epoch; own = own; since = own }
    → body ≡ b → group ≡ c.settings.group → id ≡ c.id → epoch ≡ c.epoch → own ≡ c.own → k ≡ commit_by c b
same_commit c k b body group id epoch own made is_body is_group is_id is_epoch is_own =
    made
    ∙ ap (λ (x : List ℕ). record { body = x; group = group; id = unwrap_or id []; epoch = epoch; own = own; since = own }) is_body
    ∙ ap (λ (x : List ℕ). record { body = b; group = x; id = unwrap_or id []; epoch = epoch; own = own; since = own }) is_group
    ∙ ap (λ (x : Option Text). record { body = b; group = c.settings.group; id = unwrap_or x []; epoch = epoch; own = own; since = own }) is_id
    ∙ ap (λ x. record { body = b; group = c.settings.group; id = unwrap_or c.id []; epoch = x; own = own; since = own }) is_epoch
    ∙ ap (λ (x : Partitions). record { body = b; group = c.settings.group; id = unwrap_or c.id []; epoch = c.epoch; own = x; since = x }) is_own
