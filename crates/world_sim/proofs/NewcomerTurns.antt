-- A newcomer's turn in a round: its full heartbeat is answered and it takes the reply; then it releases what it isn't shown.
use Rattle.std.proofs.Common.{◌≡◌, ℕ, suc, pos, Bool, true, false, not, ◌&&◌, ◌||◌, nat_lt, ◌==◌, if◌then◌else◌, List, [], ◌∷◌, ◌++◌, length, map, Option, Some, refl, sym, ap, subst, ◌∙◌}
use Rattle.std.specs.Ordering.{eq_by_cmp, int_eq}
use Rattle.std.specs.FinMap as finite
use Rattle.group_types.specs.declared.partition.Partition.{Partition}
use Rattle.group_types.specs.Sets.{has, in_order, is_nothing, minus, union, without}
use Rattle.group_types.specs.Partition.{partition_cmp}
use Rattle.group_types.specs.Request.{is_empty}
use Rattle.group_types.specs.Group.{Group}
use Rattle.group_types.specs.HeartbeatStep as group
use Rattle.group_types.proofs.BoolLemmas.{or_none}
use Rattle.group_types.proofs.Orders.{partition_cmp_total, partition_cmp-IsAntisymmetric}
use Rattle.group_types.proofs.SetLemmas.{has-minus, has-nothing, has-of_list, has-union, has-without, same_set}
use Rattle.coord_node.specs.Coordinator.{Coordinator, Groups}
use Rattle.coord_node.specs.Steps.{HeartbeatAt}
use Rattle.member_core.specs.Client.{Client, Inside, IsReleasing, IsSteady, state_of, to_release}
use Rattle.member_core.specs.Limits.{GREATEST_NUMBER}
use Rattle.member_core.specs.Asking.{Beat, Full, after_sending, full_heartbeat, request_value}
use Rattle.member_core.specs.Releasing.{after_release, is_releasing, may_release, released_if}
use Rattle.member_core.specs.Taking.{after_news, assigned}
use Rattle.world_sim.specs.World.{World, Request, Reply, numbered, renumbered, with_client}
use Rattle.world_sim.specs.Acts.{Release, Is, ActStep, ChangesIf, ReleaseStep, Run, is_unremembered}
use Rattle.world_sim.specs.Rounds.{HasTurn, IsTold}
use Rattle.world_sim.proofs.FullTurns.{last_get}
use Rattle.world_sim.proofs.Newcomers.{GROUP, Newcomer, client_of, id_of, number_of, partition_of, parts_of, set_of, stamp_at}
use Rattle.world_sim.proofs.NewcomerMessages.{Exchange, IsSpelled, answering, asking, asks, assignment_in, delivers, heartbeat_in, inside_of, news_in, own_order, pooled_in, reply_in, sent_in, takes}
use Rattle.world_sim.proofs.Numbered.{numbered_itself}
use Rattle.world_sim.proofs.TwoNewcomers.{OneTopic}

-- ---- a newcomer's sets

pub has_set : (x : Newcomer) (b : Bool) (p : Partition) → has (set_of x b) p ≡ (b && eq_by_cmp partition_cmp p (partition_of x))
has_set x true p = has-of_list partition_cmp_total (partition_of x ∷ []) p ∙ or_none (eq_by_cmp partition_cmp p (partition_of x))
has_set x false p = has-nothing partition_cmp p

united : (x : Newcomer) (b c : Bool) → union (set_of x b) (set_of x c) ≡ set_of x (b || c)
united x b c =
    same_set partition_cmp_total partition_cmp-IsAntisymmetric (union (set_of x b) (set_of x c)) (set_of x (b || c)) (λ p.
    has-union partition_cmp_total (set_of x b) (set_of x c) p
    ∙ (λ i. has_set x b p i || has_set x c p i)
    ∙ spread b c (eq_by_cmp partition_cmp p (partition_of x))
    ∙ sym (has_set x (b || c) p))
  where
    spread : (b c e : Bool) → ((b && e) || (c && e)) ≡ ((b || c) && e)
    spread true true true = refl
    spread true true false = refl
    spread true false e = or_none e
    spread false c e = refl

left_over : (x : Newcomer) (b c : Bool) → minus (set_of x b) (set_of x c) ≡ set_of x (b && not c)
left_over x b c =
    same_set partition_cmp_total partition_cmp-IsAntisymmetric (minus (set_of x b) (set_of x c)) (set_of x (b && not c)) (λ p.
    has-minus partition_cmp_total (set_of x b) (set_of x c) p
    ∙ (λ i. has_set x b p i && not (has_set x c p i))
    ∙ taken_out b c (eq_by_cmp partition_cmp p (partition_of x))
    ∙ sym (has_set x (b && not c) p))
  where
    taken_out : (b c e : Bool) → ((b && e) && not (c && e)) ≡ ((b && not c) && e)
    taken_out true true true = refl
    taken_out true true false = refl
    taken_out true false true = refl
    taken_out true false false = refl
    taken_out false c e = refl

without_own : (x : Newcomer) → without (set_of x true) (partition_of x) ≡ set_of x false
without_own x =
    same_set partition_cmp_total partition_cmp-IsAntisymmetric (without (set_of x true) (partition_of x)) (set_of x false) (λ p.
    has-without partition_cmp_total (set_of x true) (partition_of x) p
    ∙ ap (λ b. not (eq_by_cmp partition_cmp p (partition_of x)) && b) (has_set x true p)
    ∙ neither (eq_by_cmp partition_cmp p (partition_of x))
    ∙ sym (has_set x false p))
  where
    neither : (e : Bool) → (not e && e) ≡ false
    neither true = refl
    neither false = refl

assigned_as : (x : Newcomer) (shows : Bool) → assigned (assignment_in x shows) ≡ set_of x shows
assigned_as x true = refl
assigned_as x false = refl

-- ---- what it is inside, and in which worlds

-- after `number` requests, at an epoch; whether it owns its partition, and whether it is shown it
abbrev pub insider : Newcomer → ℕ → ℕ → Bool → Bool → Client
insider x number epoch owns shows =
    record (client_of x) { place = Inside; id = Some (id_of x); epoch = epoch; own = set_of x owns; shown = set_of x shows; number = number }

abbrev pub node_of : Groups → Coordinator
node_of groups = record { salt = 0; groups = groups; image = OneTopic }

abbrev pub world_of : Groups → List Client → List Request → List Reply → World
world_of groups clients requests replies =
    record { coordinator = node_of groups; clock = 0; clients = clients; requests = requests; replies = replies; commits = [] }

abbrev pub beat_in : Newcomer → ℕ → ℕ → Bool → ℕ → Bool → Exchange
beat_in x number epoch owns below shows =
    record { number = number; member = id_of x; epoch = epoch; owns = owns; below = below; shows = shows }

-- once it has joined
pub inside_is : (x : Newcomer) → inside_of x ≡ insider x 1 (number_of x) true true
inside_is x = λ i. record (insider x 1 (number_of x) true true) { own = united x false true i }

-- once it has taken a reply
pub taken_in : (x : Newcomer) (number epoch below : ℕ) (owns shown shows : Bool)
    → after_news (after_sending (insider x number epoch owns shown)) (news_in x (beat_in x (suc number) epoch owns below shows)) ≡ insider x (suc number) (suc below) (owns || shows) shows
taken_in x number epoch below owns shown shows =
    λ i. record (insider x (suc number) (suc below) (owns || shows) shows) {
      own = (ap (union (set_of x owns)) (assigned_as x shows) ∙ united x owns shows) i;
      shown = assigned_as x shows i;
    }

module _ (x : Newcomer) (number below next : ℕ) (owns shown shows : Bool) (spelled : IsSpelled x (beat_in x (suc number) (suc below) owns next shows))
    (few : nat_lt number GREATEST_NUMBER ≡ true) (known : int_eq (pos (suc below)) (pos 0) ≡ false) where
  abbrev pub The : Exchange
  The = beat_in x (suc number) (suc below) owns next shows

  abbrev Was : Client
  Was = insider x number (suc below) owns shown

  abbrev pub Asked : Client
  Asked = after_sending Was

  abbrev pub Told : Client
  Told = insider x (suc number) (suc next) (owns || shows) shows

  module _ (groups : Groups) (clients after : List Client) (requests : List Request) (replies : List Reply) (g new : Group)
      (there : numbered clients (number_of x) ≡ Some Was) (is_after : renumbered (renumbered clients (number_of x) Asked) (number_of x) Told ≡ after)
      (of_group : finite.get groups GROUP ≡ Some g)
      (step : group.HeartbeatStep g (record { heartbeat = heartbeat_in x The; stamp = stamp_at x (suc number); moment = 0; image = OneTopic }) (group.Replied (reply_in x The)) new) where
    abbrev Now : World
    Now = world_of groups clients requests replies

    abbrev Sent : World
    Sent = asking x The Asked Now

    abbrev Answering : Coordinator
    Answering = node_of (finite.insert groups GROUP new)

    abbrev Heard : World
    Heard = answering x The Asked Sent Answering

    abbrev pub Then : World
    Then = world_of (finite.insert groups GROUP new) after (requests ++ sent_in x The Asked ∷ []) (replies ++ pooled_in x The Asked ∷ [])

    said : request_value (suc number) (full_heartbeat Was (pos (suc below)) (in_order Was.own)) ≡ request_value (suc number) (heartbeat_in x The)
    said = λ i. request_value (suc number) (full_heartbeat Was (pos (suc below)) (own_order x owns i))

    beats : HeartbeatAt (finite.get groups GROUP) (node_of groups)
        (record { heartbeat = heartbeat_in x The; stamp = stamp_at x (suc number); moment = 0; image = OneTopic }) (group.Replied (reply_in x The)) Answering
    beats =
        subst (λ (o : Option Group). HeartbeatAt o (node_of groups) (record { heartbeat = heartbeat_in x The; stamp = stamp_at x (suc number); moment = 0; image = OneTopic }) (group.Replied (reply_in x The)) Answering)
        (sym of_group) (new, step, refl)

    raw : IsTold Now (number_of x) (world_of (finite.insert groups GROUP new) (renumbered (renumbered clients (number_of x) Asked) (number_of x) (after_news Asked (news_in x The))) Then.requests Then.replies)
    raw =
        record {
          heard = Heard;
          is_heard = record {
            sent = Sent;
            request = suc (length requests);
            sends = asks x The spelled Now Was (Beat Full) there (ap (λ b. b && true) few) said;
            reply = suc (length replies);
            said = _;
            delivers = delivers x The spelled Sent Asked Answering beats (suc (length requests)) (last_get requests (sent_in x The Asked))
                (ap (λ b. b && not (is_empty (id_of x)) && is_unremembered (finite.get groups GROUP) (id_of x)) known);
          };
          state = _;
          takes = takes x The spelled Heard Asked (suc (length replies)) (last_get replies (pooled_in x The Asked)) (numbered_itself clients (number_of x) Asked Was there) refl refl;
        }

    pub is_told : IsTold Now (number_of x) Then
    is_told =
        subst (λ (cs : List Client). IsTold Now (number_of x) (world_of (finite.insert groups GROUP new) cs Then.requests Then.replies)) is_after
        (subst (λ (c : Client). IsTold Now (number_of x) (world_of (finite.insert groups GROUP new) (renumbered (renumbered clients (number_of x) Asked) (number_of x) c) Then.requests Then.replies))
        (taken_in x number (suc below) next owns shown shows) raw)

    to_go : in_order (to_release Told) ≡ parts_of x ((owns || shows) && not shows)
    to_go = ap in_order (left_over x (owns || shows) shows) ∙ own_order x ((owns || shows) && not shows)

    -- where it is shown what it owns
    pub turns : numbered after (number_of x) ≡ Some Told → ((owns || shows) && not shows) ≡ false → HasTurn Now (number_of x) Then
    turns is_client all =
        record {
          told = Then;
          is_told = is_told;
          client = Told;
          is_client = is_client;
          states = [];
          releases = subst (λ (ps : List Partition). Run Then (map (Release (number_of x)) ps) [] Then) (sym (to_go ∙ ap (parts_of x) all)) refl;
        }

    -- where it isn't: it releases its partition
    abbrev pub Released : Client
    Released = insider x (suc number) (suc next) false shows

    pub releases : numbered after (number_of x) ≡ Some Told → owns ≡ true → shows ≡ false → HasTurn Now (number_of x) (with_client Then (number_of x) Released)
    releases is_client its hidden =
        record {
          told = Then;
          is_told = is_told;
          client = Told;
          is_client = is_client;
          states = Is (state_of Released) ∷ [];
          releases = subst (λ (ps : List Partition). Run Then (map (Release (number_of x)) ps) (Is (state_of Released) ∷ []) (with_client Then (number_of x) Released))
              (sym (to_go ∙ ap (parts_of x) (λ i. (its i || hidden i) && not (hidden i)))) (with_client Then (number_of x) Released, gives_up, refl);
        }
      where
        left : is_nothing (to_release Told) ≡ false
        left = ap (λ (ps : List Partition). length ps == 0) (to_go ∙ ap (parts_of x) (λ i. (its i || hidden i) && not (hidden i)))

        may : may_release Told ≡ true
        may = ap (λ b. is_releasing (if b then IsSteady else IsReleasing)) left

        unseen : has (set_of x shows) (partition_of x) ≡ false
        unseen = has_set x shows (partition_of x) ∙ ap (λ b. b && eq_by_cmp partition_cmp (partition_of x) (partition_of x)) hidden

        given_up : after_release Told (partition_of x) ≡ Released
        given_up =
            ap (λ b. released_if b Told (partition_of x)) unseen
            ∙ (λ i. record Released { own = (ap (λ b. without (set_of x b) (partition_of x)) (λ j. its j || hidden j) ∙ without_own x) i })

        gives_up : ActStep Then (Release (number_of x) (partition_of x)) (Is (state_of Released)) (with_client Then (number_of x) Released)
        gives_up =
            subst (λ (o : Option Client). ReleaseStep o Then (number_of x) (partition_of x) (Is (state_of Released)) (with_client Then (number_of x) Released)) (sym is_client)
            (subst (λ b. ChangesIf b (after_release Told (partition_of x)) Then (number_of x) (Is (state_of Released)) (with_client Then (number_of x) Released)) (sym may)
            (subst (λ (c : Client). ChangesIf true c Then (number_of x) (Is (state_of Released)) (with_client Then (number_of x) Released)) (sym given_up) (refl, refl)))
