-- An act leaves a live world live.
use Rattle.std.proofs.Common.{◌≡◌, ◌⊎◌, ℕ, zero, suc, ℤ, pos, negsuc, Bool, true, false, ◌||◌, not, List, [], ◌∷◌, ◌++◌, map, length, Option, option_map, Some, None, IfSome, inl, inr, refl, sym, ap, subst, ◌∙◌, arith, true≢false}
use Rattle.std.specs.Prelude.{FitsSigned}
use Rattle.std.specs.Cmp.{Equal-is, second_so}
use Rattle.std.specs.Int.{w32}
use Rattle.std.specs.List.{AllByRecursion, Contains, flat_map, list_any}
use Rattle.std.specs.Ordering.{eq_by_cmp}
use Rattle.std.proofs.lemmas.Bool.{leb-true}
use Rattle.std.proofs.lemmas.List.Elements.{recursion_from_All}
use Rattle.flex_wire.specs.Spelling.{FitsNullableText, FitsText, FitsUuid}
use Rattle.kip_msgs.specs.Values.{AssignmentValue, TopicPartitionsValue}
use Rattle.kip_msgs.specs.Spelling.{FitsAssignment, FitsTopicPartitions, SpellsRequest}
use Rattle.group_types.specs.Limits.{LARGEST_BODY}
use Rattle.group_types.specs.declared.partition.Partition.{Partition}
use Rattle.group_types.specs.Text.{Text}
use Rattle.group_types.specs.Sets.{has, nothing, union}
use Rattle.group_types.specs.Partition.{partition_cmp, Partitions}
use Rattle.group_types.proofs.Lookups.{some_is}
use Rattle.group_types.proofs.Orders.{partition_cmp-IsAntisymmetric, partition_cmp_total}
use Rattle.group_types.proofs.SetLemmas.{has-nothing, has-of_list, has-union, has-without}
use Rattle.coord_node.specs.Coordinator.{Answer, Closes, Coordinator, Done, Frame, Image, Replied, Tick}
use Rattle.coord_node.specs.Laws.{IsServing, StepsAreSound}
use Rattle.coord_node.specs.Steps.{Step}
use Rattle.member_core.specs.Asking.{Ask, Beat, GoAway, Join, Leave, after_asking, after_giving_up, request_for}
use Rattle.member_core.specs.Client.{Client}
use Rattle.member_core.specs.Committing.{commit_for}
use Rattle.member_core.specs.Existence.{CanSay}
use Rattle.member_core.specs.Listing.{all_partitions_of, partitions_of}
use Rattle.member_core.specs.Refusing.{is_too_large}
use Rattle.member_core.specs.Releasing.{after_release, released_if}
use Rattle.member_core.specs.Settings.{FitsSettings}
use Rattle.member_core.specs.Taking as taking
use Rattle.member_core.specs.Taking.{Accepts, Ends, Fences, Meaning, MeansEnd, MeansFenced, MeansRetry, MeansSuccess, News, Retries, TakesIf, Tells, after_news, assigned, meaning_of, news_by, showing}
use Rattle.world_sim.specs.World.{Commit, Reply, Request, World, cut, numbered, renumbered, with_client, with_commit, with_coordinator, with_reply, with_request}
use Rattle.world_sim.specs.Acts.{Act, ActStep, Answers, Asks, AsksIf, AsksStep, Bring, BringStep, ChangesIf, Clock, Commits, CommitsBy, CommitsIf, CommitsStep, Deliver, DeliversIf, DeliverStep, GivesUp, GivesUpStep, Outcome, Passes, Pools, Release, ReleaseStep, Sees, SendsIf, Take, TakeBy, TakenAs, TakeStep, commit_by, fits_frame, is_forgotten}
use Rattle.world_sim.specs.Existence.{ActsLeaveLiveWorlds, CanBeTaken, IsCommit, IsLive, IsPooled}
use Rattle.world_sim.proofs.Delivered.{commit_is_request}
use Rattle.world_sim.proofs.FullTurns.{heartbeat_is_request}
use Rattle.world_sim.proofs.Lists.{In, from_in, in_map, to_in}
use Rattle.world_sim.proofs.RequestSizes.{within_if_small}
use Rattle.world_sim.proofs.Numbered.{Has, Place, at, changed, elsewhere, has_number, numbered_in, numbered_itself, numbered_other, one_more, place, unchanged}

-- ---- what a client can say after what it does

abbrev IsWritten : Partition → Type 0
IsWritten p = FitsUuid p.topic × FitsSigned w32 p.index

abbrev AreSaid : Partitions → Type 0
AreSaid set = (p : Partition) → has set p ≡ true → IsWritten p

nothing_said : AreSaid nothing
nothing_said p there = absurd (true≢false (sym there ∙ has-nothing partition_cmp p))

asked_can : (c : Client) (ask : Ask) → CanSay c → CanSay (after_asking c ask)
asked_can c Join can = record { settings = can.settings; id = can.id; epoch = can.epoch; own = can.own }
asked_can c (Beat fullness) can = record { settings = can.settings; id = can.id; epoch = can.epoch; own = can.own }
asked_can c Leave can = record { settings = can.settings; id = can.id; epoch = can.epoch; own = nothing_said }
asked_can c GoAway can = record { settings = can.settings; id = can.id; epoch = can.epoch; own = nothing_said }

given_up_can : (c : Client) → CanSay c → CanSay (after_giving_up c)
given_up_can c can = record { settings = can.settings; id = can.id; epoch = can.epoch; own = can.own }

released_can : (b : Bool) (c : Client) (p : Partition) → CanSay c → CanSay (released_if b c p)
released_can true c p can = can
released_can false c p can = record {
  settings = can.settings;
  id = can.id;
  epoch = can.epoch;
  own = λ q there. can.own q (second_so (not (eq_by_cmp partition_cmp q p)) _ (sym (has-without partition_cmp_total c.own p q) ∙ there));
}

-- ---- what news tell

all_append : (xs ys : List Partition) → AllByRecursion IsWritten xs → AllByRecursion IsWritten ys → AllByRecursion IsWritten (xs ++ ys)
all_append [] ys one other = other
all_append (x ∷ xs) ys one other = (one.0, all_append xs ys one.1 other)

entry_said : (topic : List ℕ) (is : List ℤ) → FitsUuid topic → AllByRecursion (FitsSigned w32) is → AllByRecursion IsWritten (map (λ i. record { topic = topic; index = i }) is)
entry_said topic [] id fits = tt
entry_said topic (i ∷ is) id fits = ((id, fits.0), entry_said topic is id fits.1)

entries_said : (ts : List TopicPartitionsValue) → AllByRecursion FitsTopicPartitions ts → AllByRecursion IsWritten (flat_map partitions_of ts)
entries_said [] fits = tt
entries_said (t ∷ ts) fits =
    all_append (partitions_of t) (flat_map partitions_of ts)
    (entry_said t.topic_id t.partitions fits.0.topic_id (recursion_from_All (FitsSigned w32) t.partitions fits.0.partitions.1)) (entries_said ts fits.1)

any_said : (p : Partition) (ps : List Partition) → AllByRecursion IsWritten ps → list_any (eq_by_cmp partition_cmp p) ps ≡ true → IsWritten p
any_said p [] all there = cc
any_said p (q ∷ ps) all there =
    elim (eq_by_cmp partition_cmp p q) as (λ b. eq_by_cmp partition_cmp p q ≡ b → (b || list_any (eq_by_cmp partition_cmp p) ps) ≡ true → IsWritten p) [
      | true ↦ λ tie so. subst IsWritten (sym (partition_cmp-IsAntisymmetric p q ((Equal-is (partition_cmp p q)).0 tie))) all.0
      | false ↦ λ apart so. any_said p ps all.1 so
    ] refl there

assigned_said : (v : AssignmentValue) → FitsAssignment v → AreSaid (assigned v)
assigned_said v fits p there =
    any_said p (all_partitions_of v.topic_partitions) (entries_said v.topic_partitions (recursion_from_All FitsTopicPartitions v.topic_partitions fits.topic_partitions.1))
    (sym (has-of_list partition_cmp_total (all_partitions_of v.topic_partitions) p) ∙ there)

assigned_if_said : (a : Option AssignmentValue) → IfSome a FitsAssignment → IfSome (option_map assigned a) AreSaid
assigned_if_said None fits = tt
assigned_if_said (Some v) fits = assigned_said v fits

-- news whose parts have a spelling
abbrev IsTold : News → Type 0
IsTold (Accepts m epoch assignment) = FitsText m × FitsSigned w32 (pos epoch) × IfSome assignment AreSaid
IsTold Fences = Unit {0}
IsTold Retries = Unit {0}
IsTold Ends = Unit {0}

news_told : (meaning : Meaning) (m : Option Text) (epoch : ℤ) (a : Option Partitions) (news : News) → FitsNullableText m → FitsSigned w32 epoch → IfSome a AreSaid → news_by meaning m epoch a ≡ Some news → IsTold news
news_told MeansSuccess (Some m) (pos (suc epoch)) a news id fits said is = subst IsTold (some_is _ _ is) (id, fits, said)
news_told MeansSuccess (Some m) (pos zero) a news id fits said is = cc
news_told MeansSuccess (Some m) (negsuc n) a news id fits said is = cc
news_told MeansSuccess None epoch a news id fits said is = cc
news_told MeansFenced m epoch a news id fits said is = subst IsTold (some_is _ _ is) tt
news_told MeansRetry m epoch a news id fits said is = subst IsTold (some_is _ _ is) tt
news_told MeansEnd m epoch a news id fits said is = subst IsTold (some_is _ _ is) tt

told : (number : ℕ) (body : List ℕ) (news : News) → Tells number body news → IsTold news
told number body news tells =
    let fits = tells.spells.fits.1 in
    news_told (meaning_of tells.reply.error_code) tells.reply.member_id tells.reply.member_epoch (option_map assigned tells.reply.assignment) news
    fits.member_id fits.member_epoch (assigned_if_said tells.reply.assignment fits.assignment) tells.tells

either_said : (s t : Partitions) → AreSaid s → AreSaid t → AreSaid (union s t)
either_said s t one other p there =
    elim (has s p) as (λ b. has s p ≡ b → (b || has t p) ≡ true → IsWritten p) [
      | true ↦ λ here so. one p here
      | false ↦ λ away so. other p so
    ] refl (sym (has-union partition_cmp_total s t p) ∙ there)

shown_said : (c : Client) (a : Option Partitions) → AreSaid c.own → IfSome a AreSaid → AreSaid (showing c a).own
shown_said c None own said = own
shown_said c (Some set) own said = either_said c.own set own said

shown_settings : (c : Client) (a : Option Partitions) → (showing c a).settings ≡ c.settings
shown_settings c None = refl
shown_settings c (Some set) = refl

taken_can : (c : Client) (news : News) → CanSay c → IsTold news → CanSay (after_news c news)
taken_can c (Accepts m epoch a) can is = record {
  settings = subst FitsSettings (sym (shown_settings c a)) can.settings;
  id = is.0;
  epoch = is.1;
  own = shown_said c a can.own is.2;
}
taken_can c Fences can is = record { settings = can.settings; id = can.id; epoch = record { sfits = omega arith }; own = nothing_said }
taken_can c Retries can is = record { settings = can.settings; id = can.id; epoch = can.epoch; own = can.own }
taken_can c Ends can is = record { settings = can.settings; id = can.id; epoch = can.epoch; own = nothing_said }

takes_can : (waits : Bool) (c : Client) (body : List ℕ) (taken : Bool) (after : Client) → TakesIf waits c body taken after → CanSay c → CanSay after
takes_can false c body taken after is can = subst CanSay (sym is.1) can
takes_can true c body true after is can = subst CanSay (sym is.2) (taken_can c is.0 can (told c.number body is.0 is.1))
takes_can true c body false after is can = subst CanSay (sym is.1) can

-- ---- changes of a world

-- who had a number has one
still_there : (clients : List Client) (n k : ℕ) (c x : Client) → numbered clients k ≡ Some x → (y : Client) × (numbered (renumbered clients n c) k ≡ Some y)
still_there clients n k c x is = by (place k n)
  where
    by : Place k n → (y : Client) × (numbered (renumbered clients n c) k ≡ Some y)
    by (at same) = (c, ap (numbered (renumbered clients n c)) same ∙ numbered_itself clients n c x (ap (numbered clients) (sym same) ∙ is))
    by (elsewhere other) = (x, numbered_other clients n k c other ∙ is)

pooled_still : (clients : List Client) (n : ℕ) (c : Client) (q : Request) → IsPooled clients q → IsPooled (renumbered clients n c) q
pooled_still clients n c q is =
    let (y, there) = still_there clients n q.sender c is.client is.sender in
    record { client = y; sender = there; header = is.header; heartbeat = is.heartbeat; is = is.is }

taken_still : (clients : List Client) (n : ℕ) (c : Client) (r : Reply) → CanBeTaken clients r → CanBeTaken (renumbered clients n c) r
taken_still clients n c r is =
    let (y, there) = still_there clients n r.request.sender c is.client is.taker in
    record { client = y; taker = there; header = is.header; reply = is.reply; spells = is.spells }

module _ (w : World) (live : IsLive w) where
  client_live : (n : ℕ) (c : Client) → CanSay c → IsLive (with_client w n c)
  client_live n c can = record {
    serving = live.serving;
    clients = λ k x is. by k x (has_number w.clients n c k x is);
    requests = λ q there. pooled_still w.clients n c q (live.requests q there);
    replies = λ r there. taken_still w.clients n c r (live.replies r there);
    commits = live.commits;
  }
    where
      by : (k : ℕ) (x : Client) → Has w.clients n c k x → CanSay x
      by k x (changed same it) = subst CanSay (sym it) can
      by k x (unchanged other before) = live.clients k x before

  coordinator_live : (c : Coordinator) → IsServing c → IsLive (with_coordinator w c)
  coordinator_live c serving = record {
    serving = serving;
    clients = live.clients;
    requests = live.requests;
    replies = live.replies;
    commits = λ k there. by k (in_map (cut c) w.commits k (to_in (map (cut c) w.commits) k there));
  }
    where
      by : (k : Commit) → (x : Commit) × In w.commits x × (cut c x ≡ k) → IsCommit k
      by k (x, there, same) =
          let is = live.commits x (from_in w.commits x there) in
          subst IsCommit same (record { header = is.header; commit = is.commit; is = is.is })

  clock_live : (moment : ℕ) → IsLive (record w { clock = moment })
  clock_live moment = record { serving = live.serving; clients = live.clients; requests = live.requests; replies = live.replies; commits = live.commits }

  request_live : (q : Request) → IsPooled w.clients q → IsLive (with_request w q)
  request_live q is = record {
    serving = live.serving;
    clients = live.clients;
    requests = λ x there. by x (one_more w.requests q x there);
    replies = live.replies;
    commits = live.commits;
  }
    where
      by : (x : Request) → Contains w.requests x ⊎ (x ≡ q) → IsPooled w.clients x
      by x (inl before) = live.requests x before
      by x (inr it) = subst (IsPooled w.clients) (sym it) is

  reply_live : (r : Reply) → CanBeTaken w.clients r → IsLive (with_reply w r)
  reply_live r is = record {
    serving = live.serving;
    clients = live.clients;
    requests = live.requests;
    replies = λ x there. by x (one_more w.replies r x there);
    commits = live.commits;
  }
    where
      by : (x : Reply) → Contains w.replies x ⊎ (x ≡ r) → CanBeTaken w.clients x
      by x (inl before) = live.replies x before
      by x (inr it) = subst (CanBeTaken w.clients) (sym it) is

  commit_live : (k : Commit) → IsCommit k → IsLive (with_commit w k)
  commit_live k is = record {
    serving = live.serving;
    clients = live.clients;
    requests = live.requests;
    replies = live.replies;
    commits = λ x there. by x (one_more w.commits k x there);
  }
    where
      by : (x : Commit) → Contains w.commits x ⊎ (x ≡ k) → IsCommit x
      by x (inl before) = live.commits x before
      by x (inr it) = subst IsCommit (sym it) is

-- ---- the acts

-- an outcome and the world that is left
module _ (w : World) (live : IsLive w) (outcome : Outcome) (new : World) where
  stays : new ≡ w → IsLive new
  stays is = subst IsLive (sym is) live

  changes : (may : Bool) (n : ℕ) (after : Client) → CanSay after → ChangesIf may after w n outcome new → IsLive new
  changes true n after can is = subst IsLive (sym is.1) (client_live w live n after can)
  changes false n after can is = stays is.1

  gives_up : (n : ℕ) (o : Option Client) → numbered w.clients n ≡ o → GivesUpStep o w n outcome new → IsLive new
  gives_up n None none is = stays is.1
  gives_up n (Some c) there is = changes c.waits n (after_giving_up c) (given_up_can c (live.clients n c there)) is

  releases : (n : ℕ) (p : Partition) (o : Option Client) → numbered w.clients n ≡ o → ReleaseStep o w n p outcome new → IsLive new
  releases n p None none is = stays is.1
  releases n p (Some c) there is = changes _ n (after_release c p) (released_can (has c.shown p) c p (live.clients n c there)) is

  sends : (large : Bool) (n : ℕ) (ask : Ask) (c : Client) → numbered w.clients n ≡ Some c → is_too_large (request_for c ask) ≡ large → SendsIf large c w n ask outcome new → IsLive new
  sends true n ask c there large is = stays is.1
  sends false n ask c there small (body, after, asked, is) =
      let can : CanSay after = subst CanSay (sym asked.after) (asked_can c ask (live.clients n c there)) in
      let then_live = client_live w live n after can in
      subst IsLive (sym is.1) (request_live (with_client w n after) then_live _ (record {
        client = after;
        sender = numbered_itself w.clients n after c there;
        header = _;
        heartbeat = _;
        is = heartbeat_is_request _ _ body asked.spells (within_if_small (request_for c ask) body asked.spells.bytes small);
      }))

  asks : (may : Bool) (n : ℕ) (ask : Ask) (c : Client) → numbered w.clients n ≡ Some c → AsksIf may c w n ask outcome new → IsLive new
  asks false n ask c there is = stays is.1
  asks true n ask c there is = sends (is_too_large (request_for c ask)) n ask c there refl is

  asks_step : (n : ℕ) (ask : Ask) (o : Option Client) → numbered w.clients n ≡ o → AsksStep o w n ask outcome new → IsLive new
  asks_step n ask None none is = stays is.1
  asks_step n ask (Some c) there is = asks _ n ask c there is

  takes_as : (taken : Bool) (n : ℕ) (c after : Client) (body : List ℕ) → numbered w.clients n ≡ Some c → taking.Takes c body taken after → TakenAs taken w n after outcome new → IsLive new
  takes_as true n c after body there takes is =
      subst IsLive (sym is.1) (client_live w live n after (takes_can c.waits c body true after takes (live.clients n c there)))
  takes_as false n c after body there takes is = stays is.1

  takes_by : (r : Reply) (o : Option Client) → numbered w.clients r.request.sender ≡ o → TakeBy o r w outcome new → IsLive new
  takes_by r None none is = absurd is
  takes_by r (Some c) there (taken, after, takes, is) = takes_as taken r.request.sender c after r.body there takes is

  takes : (o : Option Reply) → TakeStep o w outcome new → IsLive new
  takes None is = stays is.1
  takes (Some r) is = takes_by r (numbered w.clients r.request.sender) refl is

  commits_by : (fits : Bool) (c : Client) (topics : _) (body : List ℕ) → fits_frame body ≡ fits → SpellsRequest (commit_for c (suc (length w.commits)) topics) body → CommitsBy fits w (commit_by c body) outcome new → IsLive new
  commits_by false c topics body fits spells is = stays is.1
  commits_by true c topics body fits spells is =
      subst IsLive (sym is.1) (commit_live w live _ (record { header = _; commit = _; is = commit_is_request _ _ body spells (leb-true (length body) LARGEST_BODY fits) }))

  commits_if : (may : Bool) (c : Client) (topics : _) → CommitsIf may c w topics outcome new → IsLive new
  commits_if false c topics is = stays is.1
  commits_if true c topics (body, spells, is) = commits_by (fits_frame body) c topics body refl spells is

  commits : (o : Option Client) (topics : _) → CommitsStep o w topics outcome new → IsLive new
  commits None topics is = stays is.1
  commits (Some c) topics is = commits_if _ c topics is

  module _ (steps_are_sound : StepsAreSound Step) where
    pools : (c : Coordinator) → IsServing c → (q : Request) (answer : Answer) → IsPooled w.clients q → Pools (with_coordinator w c) q answer outcome new → IsLive new
    pools c serving q (Replied frame) is (body, header, reply, framed, spells, comes) =
        subst IsLive (sym comes.1) (reply_live (with_coordinator w c) (coordinator_live w live c serving) _ (record { client = is.client; taker = is.sender; header = header; reply = reply; spells = spells }))
    pools c serving q Closes is comes = subst IsLive (sym comes.1) (coordinator_live w live c serving)
    pools c serving q (Done removed) is never = absurd never

    delivers_if : (forgotten : Bool) (q : Request) → IsPooled w.clients q → DeliversIf forgotten w q outcome new → IsLive new
    delivers_if true q pooled is = stays is.1
    delivers_if false q pooled (answer, c, step, is) = pools c (steps_are_sound w.coordinator (Frame q.body q.stamp w.clock) answer c step live.serving) q answer pooled is

    delivers : (k : ℕ) (o : Option Request) → numbered w.requests k ≡ o → DeliverStep o w outcome new → IsLive new
    delivers k None none is = stays is.1
    delivers k (Some q) there (header, v, spells, is) = delivers_if (is_forgotten w.coordinator v) q (live.requests q (numbered_in w.requests k q there)) is

    answers : (c : Coordinator) → IsServing c → (answer : Answer) → Answers (with_coordinator w c) answer outcome new → IsLive new
    answers c serving (Replied frame) (body, header, reply, framed, spells, comes) = subst IsLive (sym comes.1) (coordinator_live w live c serving)
    answers c serving Closes never = absurd never
    answers c serving (Done removed) never = absurd never

    brings : (o : Option Commit) → BringStep o w outcome new → IsLive new
    brings None is = stays is.1
    brings (Some k) (answer, c, step, is) = answers c (steps_are_sound w.coordinator (Frame k.body _ w.clock) answer c step live.serving) answer is

    lives_on : (act : Act) → ActStep w act outcome new → IsLive new
    lives_on (Asks n ask) is = asks_step n ask (numbered w.clients n) refl is
    lives_on (GivesUp n) is = gives_up n (numbered w.clients n) refl is
    lives_on (Deliver k) is = delivers k (numbered w.requests k) refl is
    lives_on (Take j) is = takes (numbered w.replies j) is
    lives_on (Release n p) is = releases n p (numbered w.clients n) refl is
    lives_on (Commits n topics) is = commits (numbered w.clients n) topics is
    lives_on (Bring k) is = brings (numbered w.commits k) is
    lives_on (Clock moment) is = subst IsLive (sym is.1) (clock_live w live moment)
    lives_on (Passes moment) (removed, c, step, comes) =
        subst IsLive (sym comes.1) (coordinator_live (record w { clock = moment }) (clock_live w live moment) c (steps_are_sound w.coordinator (Tick moment) (Done removed) c step live.serving))
    lives_on (Sees image) (c, step, comes) =
        subst IsLive (sym comes.1) (coordinator_live w live c (steps_are_sound w.coordinator (Image image) (Done 0) c step live.serving))

pub acts_leave_live_worlds : StepsAreSound Step → ActsLeaveLiveWorlds
acts_leave_live_worlds steps_are_sound w act outcome new step live = lives_on w live outcome new steps_are_sound act step
