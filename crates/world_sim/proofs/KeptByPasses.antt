-- A tick and a commit keep what the world knows of a group's clients and messages.
use Rattle.std.proofs.Common.{◌≡◌, ◌⊎◌, ℕ, ◌<◌, Bool, true, false, ◌&&◌, Option, Some, is_some, sym, ap, subst, ◌∙◌, inl, inr, true≢false, le_trans}
use Rattle.std.specs.List.{Contains}
use Rattle.std.specs.FinMap as finite
use Rattle.group_types.specs.declared.stamp.Stamp.{Stamp}
use Rattle.group_types.specs.Text.{Text}
use Rattle.group_types.specs.Sets.{has, common}
use Rattle.group_types.specs.Partition.{Partitions}
use Rattle.group_types.specs.Group.{Record, Group, held}
use Rattle.group_types.proofs.Orders.{partition_cmp_total}
use Rattle.group_types.proofs.SetLemmas.{has-common}
use Rattle.group_types.specs.Leave.{last_epoch}
use Rattle.group_types.specs.Sound.{IsSound}
use Rattle.member_core.specs.Client.{Client}
use Rattle.world_sim.proofs.Former.{made_after, past_apart}
use Rattle.group_types.specs.Request.{Heartbeat}
use Rattle.world_sim.specs.World.{Commit}
use Rattle.world_sim.specs.Turn.{Seen, Pass}
use Rattle.world_sim.specs.Invariant.{Clients, IsMade, IsOver, GroupKeeps, ClientKeeps, RequestKeeps, ReplyKeeps, CommitKeeps, Lags}
use Rattle.group_types.proofs.GrantLemmas.{has-held}

module _ (g new : Group) (clients : Clients) (group : GroupKeeps g clients) (pass : Pass g new) where
  seen_before : (m : Text) (s : Stamp) → Seen new m s → Seen g m s
  seen_before m s (inl (r, there, is)) = inl (r, (pass.kept m r there).before, is)
  seen_before m s (inr past) = pass.went m s past

  made_still : (m : Text) → IsMade g m → IsMade new m
  made_still m is = made_after g new pass.salt pass.serial m is

  pub group_passes : IsSound new → GroupKeeps new clients
  group_passes sound =
      record {
        sound = sound;
        made = λ m s seen. made_still m (group.made m s (seen_before m s seen));
        owner = λ m s seen. group.owner m s (seen_before m s seen);
        instance = λ m r c there is. group.instance m r c (pass.kept m r there).before is;
        away = λ m r c there gone is. group.away m r c (pass.kept m r there).before gone is;
        settings = λ m r c there is. group.settings m r c (pass.kept m r there).before is;
      }

  -- ---- those that have gone

  pub lags_passes : IsSound new → (id : Text) (e : ℕ) → Lags g clients id e → Lags new clients id e
  lags_passes sound id e lags s c heir instance r past is settings there given = heirs s c heir instance r past is settings there given (pass.went id s past)
    where
      -- nobody else has the instance of one that was removed
      heirs : (s : Stamp) (c : Client) (heir instance : Text) (r : Record) → Contains new.past (id, s) → clients s.connection c
          → c.settings.instance ≡ Some instance → finite.get new.records heir ≡ Some r → r.instance ≡ Some instance → Seen g id s
          → IsOver c s ⊎ (e < last_epoch r)
      heirs s c heir instance r past is settings there given (inl (x, was, stamped)) =
          let own : x.instance ≡ Some instance = group.instance id x c was (subst (λ (t : Stamp). clients t.connection c) (sym stamped) is) ∙ settings in
          let same : heir ≡ id = group.sound.instances heir id r x instance (pass.kept heir r there).before was given own in
          absurd (true≢false (ap is_some (sym there ∙ ap (finite.get new.records) same ∙ past_apart new.records new.past id s sound.past past)))
      heirs s c heir instance r past is settings there given (inr old) =
          lags s c heir instance r old is settings (pass.kept heir r there).before given

  pub client_passes : IsSound new → (n : ℕ) (c : Client) → ClientKeeps g clients n c → ClientKeeps new clients n c
  client_passes sound n c keeps =
      record {
        its = λ m is.
            let its = keeps.its m is in
            record { made = made_still m its.made; owner = λ s seen. its.owner s (seen_before m s seen); latest = λ s seen. its.latest s (seen_before m s seen) };
        holds = λ m r p is there owns. (pass.kept m r there).holds p ∙ keeps.holds m r p is (pass.kept m r there).before owns;
        behind = λ m r is there. keeps.behind m r is (pass.kept m r there).before;
        below = le_trans keeps.below pass.target_epoch;
        lags = λ m is. lags_passes sound m c.epoch (keeps.lags m is);
        inside = keeps.inside;
        empty = keeps.empty;
        outside = keeps.outside;
        gone = keeps.gone;
      }

  pub request_passes : (n number : ℕ) (q : Heartbeat) → RequestKeeps g clients n number q → RequestKeeps new clients n number q
  request_passes n number q keeps =
      record {
        owner = λ given s seen. keeps.owner given s (seen_before q.member s seen);
        made = λ given. made_still q.member (keeps.made given);
        sender = λ c is.
            let old = keeps.sender c is in
            record {
              sent = old.sent;
              reports = λ owned p s is_id some seen. old.reports owned p s is_id some (seen_before q.member s seen);
              outside = λ s is_id joins seen. old.outside s is_id joins (seen_before q.member s seen);
              names = old.names;
              instance = old.instance;
              leaves = old.leaves;
              settings = old.settings;
            };
      }

  pub reply_passes : IsSound new → (n number : ℕ) (m : Text) (epoch : ℕ) (shown : Option Partitions) → ReplyKeeps g clients n number m epoch shown → ReplyKeeps new clients n number m epoch shown
  reply_passes sound n number m epoch shown keeps =
      record {
        made = made_still m keeps.made;
        owner = λ s seen. keeps.owner s (seen_before m s seen);
        below = le_trans keeps.below pass.target_epoch;
        lags = lags_passes sound m epoch keeps.lags;
        sent = keeps.sent;
        taker = λ c is waits latest.
            let old = keeps.taker c is waits latest in
            record {
              same = old.same;
              answers = λ s seen. old.answers s (seen_before m s seen);
              shows = λ set r p some there has_p. (pass.kept m r there).holds p ∙ old.shows set r p some (pass.kept m r there).before has_p;
              behind = λ r there. old.behind r (pass.kept m r there).before;
            };
      }

  -- what the new group knows is sound
  pub commit_passes : IsSound new → (k : Commit) → CommitKeeps g clients k → CommitKeeps new clients (record k { since = common k.since (held new.grants k.id) })
  commit_passes sound k keeps =
      record {
        made = made_still k.id keeps.made;
        below = le_trans keeps.below pass.target_epoch;
        behind = λ r there. keeps.behind r (pass.kept k.id r there).before;
        still = λ r p there same owns.
            let kept = pass.kept k.id r there in
            let since = keeps.still r p kept.before same owns in
            has-common partition_cmp_total k.since (held new.grants k.id) p
            ∙ (λ i. since i && (has-held new.grants k.id p ∙ kept.holds p ∙ keeps.within p since) i);
        within = λ p there. sym (has-held new.grants k.id p) ∙ second (has k.since p) (has (held new.grants k.id) p) (sym (has-common partition_cmp_total k.since (held new.grants k.id) p) ∙ there);
        lags = lags_passes sound k.id k.epoch keeps.lags;
      }
    where
      second : (a b : Bool) → (a && b) ≡ true → b ≡ true
      second true b so = so
      second false b so = absurd (true≢false (sym so))
