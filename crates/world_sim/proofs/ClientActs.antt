-- What follows where a client gives up, releases, asks, or takes a reply.
use Rattle.std.proofs.Common.{◌≡◌, ◌≢◌, ◌⊎◌, ℕ, zero, suc, ◌<◌, ◌≤◌, ℤ, pos, negsuc, Bool, true, false, not, List, [], Option, Some, None, unwrap_or, IsTrue, inl, inr, refl, sym, ap, subst, ◌∙◌, true≢false, arith, le_refl, lt_of_lt_of_le, lt_irrefl}
use Rattle.std.specs.Cmp.{second_so}
use Rattle.std.specs.Ordering.{eq_by_cmp}
use Rattle.group_types.specs.declared.partition.Partition.{Partition}
use Rattle.group_types.specs.declared.stamp.Stamp.{Stamp}
use Rattle.group_types.specs.Text.{Text}
use Rattle.group_types.specs.Sets.{nothing, has, without, in_order, of_list}
use Rattle.group_types.specs.Partition.{partition_cmp, Partitions}
use Rattle.group_types.specs.Request.{Heartbeat, Beats, kind_of, reported, reported_at}
use Rattle.group_types.specs.Group.{Group}
use Rattle.group_types.proofs.Orders.{partition_cmp_total}
use Rattle.group_types.proofs.SetLemmas.{has-nothing, has-without}
use Rattle.group_types.proofs.Lookups.{not_none, some_is}
use Rattle.member_core.proofs.Outcomes.{nothing_without}
use Rattle.member_core.specs.Settings.{Settings}
use Rattle.member_core.specs.Client.{Client, Place, Outside, Inside, Gone}
use Rattle.member_core.specs.Asking.{Ask, Join, Beat, Leave, GoAway, Fullness, Short, Owned, Full, after_asking, after_giving_up, after_quitting, after_sending, beat_of, fullness_of, heartbeat_for, may_ask_at}
use Rattle.member_core.specs.Taking.{News, Accepts, Fences, Retries, Ends, after_news, showing}
use Rattle.member_core.specs.Releasing.{after_release, released_if}
use Rattle.world_sim.specs.Turn.{Seen, IsLater}
use Rattle.world_sim.specs.Invariant.{Clients, IsMade, IsOf, ClientKeeps, SaysSettings, SenderKeeps, ReplyKeeps}
use Rattle.world_sim.proofs.Messages.{of_list-in_order}
use Rattle.world_sim.proofs.KeptByTurns.{later_frame}
use Rattle.world_sim.proofs.Takes.{told_keeps}
use Rattle.world_sim.proofs.Changes.{Follows}

-- ---- places

abbrev is_gone : Place → Bool
is_gone Outside = false
is_gone Inside = false
is_gone Gone = true

abbrev pub is_inside : Place → Bool
is_inside Outside = false
is_inside Inside = true
is_inside Gone = false

abbrev is_outside : Place → Bool
is_outside Outside = true
is_outside Inside = false
is_outside Gone = false

abbrev is_below : ℤ → Bool
is_below (pos n) = false
is_below (negsuc n) = true

abbrev number_in : ℤ → ℕ
number_in (pos n) = n
number_in (negsuc n) = n

none_has : (p : Partition) → IsTrue (has (nothing {R = partition_cmp}) p) → ⊥
none_has p there = true≢false (sym there ∙ has-nothing partition_cmp p)

module _ (g : Group) (clients : Clients) (n : ℕ) (c : Client) (known : ClientKeeps g clients n c) where
  -- ---- it gives up, or may ask again

  pub giving_up : Follows g clients n c (after_giving_up c)
  giving_up =
      record {
        settings = refl;
        further = le_refl c.number;
        over = λ s over. over;
        keeps = record {
          its = known.its;
          holds = known.holds;
          behind = known.behind;
          below = known.below;
          lags = known.lags;
          inside = known.inside;
          empty = known.empty;
          outside = known.outside;
          gone = λ gone. refl;
        };
        sends = λ number q old.
            record { sent = old.sent; reports = old.reports; outside = old.outside; names = λ waits latest. absurd (true≢false (sym waits)); instance = old.instance; leaves = old.leaves; settings = old.settings };
        takes = λ number m epoch shown sent old waits latest. absurd (true≢false (sym waits));
      }

  -- ---- it owns less

  owning_less : (own : Partitions) → ((p : Partition) → IsTrue (has own p) → IsTrue (has c.own p)) → (c.place ≢ Inside → own ≡ nothing) → Follows g clients n c (record c { own = own })
  owning_less own less empty =
      record {
        settings = refl;
        further = le_refl c.number;
        over = λ s over. over;
        keeps = record {
          its = known.its;
          holds = λ m r p is there owns. known.holds m r p is there (less p owns);
          behind = known.behind;
          below = known.below;
          lags = known.lags;
          inside = known.inside;
          empty = empty;
          outside = known.outside;
          gone = known.gone;
        };
        sends = λ number q old.
            record {
              sent = old.sent;
              reports = λ owned p s is_id some seen later owns. old.reports owned p s is_id some seen later (less p owns);
              outside = old.outside;
              names = old.names;
              instance = old.instance;
              leaves = old.leaves;
              settings = old.settings;
            };
        takes = λ number m epoch shown sent old waits latest.
            let taker = old waits latest in
            record { same = taker.same; answers = taker.answers; shows = taker.shows; behind = taker.behind };
      }

  released_by : (b : Bool) (p : Partition) → Follows g clients n c (released_if b c p)
  released_by true p = owning_less c.own (λ q owns. owns) known.empty
  released_by false p =
      owning_less (without c.own p)
      (λ q owns. second_so (not (eq_by_cmp partition_cmp q p)) (has c.own q) (sym (has-without partition_cmp_total c.own p q) ∙ owns))
      (λ out. nothing_without c.own p (known.empty out))

  pub releasing : (p : Partition) → Follows g clients n c (after_release c p)
  releasing p = released_by (has c.shown p) p

  -- ---- it asks

  -- its id is as much its own after one more request
  its_then : (m : Text) → c.id ≡ Some m → IsOf g m n (suc c.number)
  its_then m is =
      let its = known.its m is in
      record { made = its.made; owner = its.owner; latest = λ s seen. let least = its.latest s seen in omega (arith, least) }

  module _ (still : c.waits ≡ false) (here : c.place ≢ Gone) where
    sending : Follows g clients n c (after_sending c)
    sending =
        record {
          settings = refl;
          further = omega arith;
          over = λ s over. absurd (here over.0);
          keeps = record {
            its = its_then;
            holds = known.holds;
            behind = known.behind;
            below = known.below;
            lags = known.lags;
            inside = known.inside;
            empty = known.empty;
            outside = known.outside;
            gone = λ gone. absurd (here gone);
          };
          sends = λ number q old.
              let sent = old.sent in
              record {
                sent = omega (arith, sent);
                reports = old.reports;
                outside = old.outside;
                names = λ waits latest. absurd (omega (arith, sent, latest));
                instance = old.instance;
                leaves = λ below is. absurd (here (old.leaves below is).0);
                settings = old.settings;
              };
          takes = λ number m epoch shown sent old waits latest. absurd (omega (arith, sent, latest));
        }

    quitting : Follows g clients n c (after_quitting c)
    quitting =
        record {
          settings = refl;
          further = omega arith;
          over = λ s over. absurd (here over.0);
          keeps = record {
            its = its_then;
            holds = λ m r p is there owns. absurd (none_has p owns);
            behind = known.behind;
            below = known.below;
            lags = known.lags;
            inside = λ inside. absurd (true≢false (sym (ap is_inside inside)));
            empty = λ out. refl;
            outside = λ out. absurd (true≢false (sym (ap is_outside out)));
            gone = λ gone. still;
          };
          sends = λ number q old.
              let sent = old.sent in
              record {
                sent = omega (arith, sent);
                reports = λ owned p s is_id some seen later owns. absurd (none_has p owns);
                outside = old.outside;
                names = λ waits latest. absurd (true≢false (sym waits ∙ still));
                instance = old.instance;
                leaves = λ below is. absurd (here (old.leaves below is).0);
                settings = old.settings;
              };
          takes = λ number m epoch shown sent old waits latest. absurd (true≢false (sym waits ∙ still));
        }

  pub asking : (ask : Ask) → c.waits ≡ false → c.place ≢ Gone → Follows g clients n c (after_asking c ask)
  asking Join still here = sending still here
  asking (Beat fullness) still here = sending still here
  asking Leave still here = quitting still here
  asking GoAway still here = quitting still here

  -- ---- its new request

  its_id : (o : Option Text) → c.id ≡ o → unwrap_or o [] ≢ [] → IsOf g (unwrap_or o []) n c.number
  its_id None is given = absurd (given refl)
  its_id (Some m) is given = known.its m is

  -- what is known of it, and of the one who sent it
  pub record IsAsked (q : Heartbeat) (new : Client) : Type 0 where
    pub member : q.member ≡ unwrap_or c.id []
    pub group : q.group ≡ c.settings.group
    pub sender : SenderKeeps g n (suc c.number) q new

  pub asked_owner : (q : Heartbeat) (new : Client) → IsAsked q new → q.member ≢ [] → (s : Stamp) → Seen g q.member s → s.connection ≡ n
  asked_owner q new asked given s seen =
      (its_id c.id refl (λ empty. given (asked.member ∙ empty))).owner s (subst (λ (m : Text). Seen g m s) asked.member seen)

  pub asked_made : (q : Heartbeat) (new : Client) → IsAsked q new → q.member ≢ [] → IsMade g q.member
  asked_made q new asked given =
      subst (λ (m : Text). IsMade g m) (sym asked.member) (its_id c.id refl (λ empty. given (asked.member ∙ empty))).made

  joins_as : c.place ≡ Outside → IsAsked (heartbeat_for c Join) (after_sending c)
  joins_as out =
      record {
        member = refl;
        group = refl;
        sender = record {
          sent = le_refl (suc c.number);
          reports = λ owned p s is_id some seen later owns. absurd (none_has p (subst (λ (x : Partitions). IsTrue (has x p)) (known.empty (λ inside. true≢false (sym (ap is_inside (sym out ∙ inside))))) owns));
          outside = λ s is_id joins seen later. known.outside out;
          names = λ waits latest. refl;
          instance = λ joins. refl;
          leaves = λ below is. absurd (true≢false (sym (ap is_below is)));
          settings = record { group = refl; names = inr refl; assignor = inr refl; joins = λ joins. (refl, refl) };
        };
      }

  beats_at : (e : ℕ) → 0 < e → (owned : Option (List Partition)) → reported_at (kind_of (pos e)) owned ≡ reported_at (Beats e) owned
  beats_at zero above owned = absurd (omega (arith, above))
  beats_at (suc e) above owned = refl

  -- a beat reports what the client reads, or nothing
  beat_reports : (fullness : Fullness) → 0 < c.epoch → (owned : Partitions) → reported (beat_of c fullness) ≡ Some owned → (p : Partition) → IsTrue (has c.own p) → IsTrue (has owned p)
  beat_reports Short above owned some p owns = absurd (not_none owned (sym (beats_at c.epoch above None) ∙ some))
  beat_reports Owned above owned some p owns =
      ap (λ (x : Partitions). has x p) (sym (some_is (of_list (in_order c.own)) owned (sym (beats_at c.epoch above (Some (in_order c.own))) ∙ some)) ∙ of_list-in_order c.own) ∙ owns
  beat_reports Full above owned some p owns =
      ap (λ (x : Partitions). has x p) (sym (some_is (of_list (in_order c.own)) owned (sym (beats_at c.epoch above (Some (in_order c.own))) ∙ some)) ∙ of_list-in_order c.own) ∙ owns

  beat_member : (fullness : Fullness) → (beat_of c fullness).member ≡ unwrap_or c.id []
  beat_member Short = refl
  beat_member Owned = refl
  beat_member Full = refl

  beat_group : (fullness : Fullness) → (beat_of c fullness).group ≡ c.settings.group
  beat_group Short = refl
  beat_group Owned = refl
  beat_group Full = refl

  beat_epoch : (fullness : Fullness) → (beat_of c fullness).epoch ≡ pos c.epoch
  beat_epoch Short = refl
  beat_epoch Owned = refl
  beat_epoch Full = refl

  beat_says : (fullness : Fullness) → ((beat_of c fullness).epoch ≡ pos 0 → ⊥) → SaysSettings c.settings (beat_of c fullness)
  beat_says Short no_join = record { group = refl; names = inl refl; assignor = inl refl; joins = λ joins. absurd (no_join joins) }
  beat_says Owned no_join = record { group = refl; names = inl refl; assignor = inl refl; joins = λ joins. absurd (no_join joins) }
  beat_says Full no_join = record { group = refl; names = inr refl; assignor = inr refl; joins = λ joins. absurd (no_join joins) }

  beats_as : c.place ≡ Inside → (fullness : Fullness) → IsAsked (beat_of c fullness) (after_sending c)
  beats_as inside fullness =
      let above = (known.inside inside).2 in
      let no_join : (beat_of c fullness).epoch ≡ pos 0 → c.epoch ≡ 0 = λ joins. ap number_in (sym (beat_epoch fullness) ∙ joins) in
      record {
        member = beat_member fullness;
        group = beat_group fullness;
        sender = record {
          sent = le_refl (suc c.number);
          reports = λ owned p s is_id some seen later owns. beat_reports fullness above owned some p owns;
          outside = λ s is_id joins seen later. no_join joins;
          names = λ waits latest. beat_member fullness;
          instance = λ joins. let none = no_join joins in absurd (omega (arith, above, none));
          leaves = λ below is. absurd (true≢false (sym (ap is_below (sym (beat_epoch fullness) ∙ is))));
          settings = beat_says fullness (λ joins. let none = no_join joins in omega (arith, above, none));
        };
      }

  quits_as : (q : Heartbeat) → q.member ≡ unwrap_or c.id [] → q.group ≡ c.settings.group → q.names ≡ None → q.assignor ≡ None → is_below q.epoch ≡ true → IsAsked q (after_quitting c)
  quits_as q member group names assignor below =
      let no_join : q.epoch ≡ pos 0 → ⊥ = λ joins. true≢false (sym below ∙ ap is_below joins) in
      record {
        member = member;
        group = group;
        sender = record {
          sent = le_refl (suc c.number);
          reports = λ owned p s is_id some seen later owns. absurd (none_has p owns);
          outside = λ s is_id joins seen later. absurd (no_join joins);
          names = λ waits latest. member;
          instance = λ joins. absurd (no_join joins);
          leaves = λ under is. (refl, refl);
          settings = record { group = group; names = inl names; assignor = inl assignor; joins = λ joins. absurd (no_join joins) };
        };
      }

  pub asks_as : (ask : Ask) → may_ask_at c.place ask c.settings.instance ≡ true → IsAsked (heartbeat_for c ask) (after_asking c ask)
  asks_as ask may = by c.place refl ask may
    where
      by : (place : Place) → c.place ≡ place → (ask : Ask) → may_ask_at place ask c.settings.instance ≡ true → IsAsked (heartbeat_for c ask) (after_asking c ask)
      by Outside is Join may = joins_as is
      by Outside is (Beat fullness) may = absurd (true≢false (sym may))
      by Outside is Leave may = absurd (true≢false (sym may))
      by Outside is GoAway may = absurd (true≢false (sym may))
      by Inside is Join may = absurd (true≢false (sym may))
      by Inside is (Beat fullness) may = beats_as is (fullness_of c fullness)
      by Inside is Leave may = quits_as (heartbeat_for c Leave) refl refl refl refl refl
      by Inside is GoAway may = quits_as (heartbeat_for c GoAway) refl refl refl refl refl
      by Gone is ask may = absurd (true≢false (sym may))

  pub not_gone : (ask : Ask) → may_ask_at c.place ask c.settings.instance ≡ true → c.place ≢ Gone
  not_gone ask may gone = true≢false (sym may ∙ ap (λ (place : Place). may_ask_at place ask c.settings.instance) gone)

  -- ---- it takes a reply

  module _ (waits : c.waits ≡ true) where
    here_still : c.place ≢ Gone
    here_still gone = true≢false (sym waits ∙ known.gone gone)

    fenced : Follows g clients n c (after_news c Fences)
    fenced =
        record {
          settings = refl;
          further = le_refl c.number;
          over = λ s over. absurd (here_still over.0);
          keeps = record {
            its = known.its;
            holds = λ m r p is there owns. absurd (none_has p owns);
            behind = λ m r is there. omega arith;
            below = omega arith;
            lags = λ m is s x heir instance r past is_client settings there given. lower (known.lags m is s x heir instance r past is_client settings there given);
            inside = λ inside. absurd (true≢false (sym (ap is_inside inside)));
            empty = λ out. refl;
            outside = λ out. refl;
            gone = λ gone. refl;
          };
          sends = λ number q old.
              record {
                sent = old.sent;
                reports = λ owned p s is_id some seen later owns. absurd (none_has p owns);
                outside = λ s is_id joins seen later. refl;
                names = λ waits latest. absurd (true≢false (sym waits));
                instance = old.instance;
                leaves = λ below is. absurd (here_still (old.leaves below is).0);
                settings = old.settings;
              };
          takes = λ number m epoch shown sent old waits latest. absurd (true≢false (sym waits));
        }
      where
        lower : {A : Type 0} {e : ℕ} → A ⊎ (c.epoch < e) → A ⊎ (0 < e)
        lower (inl done) = inl done
        lower (inr less) = inr (omega (arith, less))

    ended : Follows g clients n c (after_news c Ends)
    ended =
        record {
          settings = refl;
          further = le_refl c.number;
          over = λ s over. absurd (here_still over.0);
          keeps = record {
            its = known.its;
            holds = λ m r p is there owns. absurd (none_has p owns);
            behind = known.behind;
            below = known.below;
            lags = known.lags;
            inside = λ inside. absurd (true≢false (sym (ap is_inside inside)));
            empty = λ out. refl;
            outside = λ out. absurd (true≢false (sym (ap is_outside out)));
            gone = λ gone. refl;
          };
          sends = λ number q old.
              record {
                sent = old.sent;
                reports = λ owned p s is_id some seen later owns. absurd (none_has p owns);
                outside = old.outside;
                names = λ waits latest. absurd (true≢false (sym waits));
                instance = old.instance;
                leaves = λ below is. absurd (here_still (old.leaves below is).0);
                settings = old.settings;
              };
          takes = λ number m epoch shown sent old waits latest. absurd (true≢false (sym waits));
        }

    same_number : (o : Option Partitions) → (showing c o).number ≡ c.number
    same_number None = refl
    same_number (Some set) = refl

    same_settings : (o : Option Partitions) → (showing c o).settings ≡ c.settings
    same_settings None = refl
    same_settings (Some set) = refl

    module _ (is : clients n c) (m : Text) (epoch : ℕ) (shown : Option Partitions) (positive : 0 < epoch) (reply : ReplyKeeps g clients n c.number m epoch shown) where
      abbrev new : Client
      new = after_news c (Accepts m epoch shown)

      -- none of its requests comes after the one that was answered
      never : (number : ℕ) (q : Heartbeat) → number ≤ c.number → Some m ≡ Some q.member → (s : Stamp) → Seen g q.member s → IsLater (record { connection = n; frame = number }) s → ⊥
      never number q sent is_id s seen later =
          let taker = reply.taker c is waits refl in
          let last : s ≡ record { connection = n; frame = c.number } = taker.answers s (subst (λ (x : Text). Seen g x s) (sym (some_is m q.member is_id)) seen) in
          let less = later_frame (record { connection = n; frame = number }) s (sym (ap (λ (x : Stamp). x.connection) last)) later in
          lt_irrefl c.number (lt_of_lt_of_le (subst (λ x. x < number) (ap (λ (x : Stamp). x.frame) last) less) sent)

      accepted : Follows g clients n c new
      accepted =
          record {
            settings = same_settings shown;
            further = subst (λ x. c.number ≤ x) (sym (same_number shown)) (le_refl c.number);
            over = λ s over. absurd (here_still over.0);
            keeps = told_keeps g clients n c is known waits m epoch shown positive reply;
            sends = λ number q old.
                record {
                  sent = subst (λ x. number ≤ x) (sym (same_number shown)) old.sent;
                  reports = λ owned p s is_id some seen later owns. absurd (never number q old.sent is_id s seen later);
                  outside = λ s is_id joins seen later. absurd (never number q old.sent is_id s seen later);
                  names = λ waits latest. absurd (true≢false (sym waits));
                  instance = λ joins. old.instance joins ∙ ap (λ (x : Settings). x.instance) (sym (same_settings shown));
                  leaves = λ below is. absurd (here_still (old.leaves below is).0);
                  settings = subst (λ (x : Settings). SaysSettings x q) (sym (same_settings shown)) old.settings;
                };
            takes = λ number m epoch shown sent old waits latest. absurd (true≢false (sym waits));
          }

    -- of a reply of success something must be known
    pub taking : clients n c → (news : News) → ((m : Text) (epoch : ℕ) (shown : Option Partitions) → news ≡ Accepts m epoch shown → (0 < epoch) × ReplyKeeps g clients n c.number m epoch shown)
        → Follows g clients n c (after_news c news)
    taking is (Accepts m epoch shown) reply = let both = reply m epoch shown refl in accepted is m epoch shown both.0 both.1
    taking is Fences reply = fenced
    taking is Retries reply = giving_up
    taking is Ends reply = ended
