-- The world keeps what it knows where one client changes.
use Rattle.std.proofs.Common.{◌≡◌, ◌⊎◌, ℕ, ◌<◌, ◌≤◌, true, Option, Some, inl, inr, refl, sym, ap, subst, subst₂, ◌∙◌, le_trans}
use Rattle.std.specs.List.{Contains}
use Rattle.std.specs.FinMap as finite
use Rattle.group_types.specs.declared.epoch.Epoch.TheVariants.{Away}
use Rattle.group_types.specs.declared.stamp.Stamp.{Stamp}
use Rattle.group_types.specs.Text.{Text}
use Rattle.group_types.specs.Partition.{Partitions}
use Rattle.group_types.specs.Request.{Heartbeat}
use Rattle.group_types.specs.Group.{Group, Record}
use Rattle.group_types.specs.Leave.{last_epoch}
use Rattle.group_types.proofs.Lookups.{some_is}
use Rattle.member_core.specs.Settings.{Settings}
use Rattle.member_core.specs.Client.{Client}
use Rattle.member_core.specs.Taking.{Accepts, Tells}
use Rattle.world_sim.specs.World.{World, Request, Reply, Commit, numbered, with_client}
use Rattle.world_sim.specs.Invariant.{Clients, IsOfSettings, IsOver, Lags, GroupKeeps, ClientKeeps, SenderKeeps, TakerKeeps, ReplyKeeps, Committed, Keeps, Says, clients_of, group_at}
use Rattle.world_sim.proofs.Numbered.{Has, changed, unchanged, has_number, Place, at, elsewhere, place, numbered_itself, numbered_other}

-- What follows from what was known of a client's messages, and what others know of it, once it is another.
pub record Follows (g : Group) (clients : Clients) (n : ℕ) (c new : Client) : Type 0 where
  pub settings : new.settings ≡ c.settings
  pub further : c.number ≤ new.number
  pub over : (s : Stamp) → IsOver c s → IsOver new s
  pub keeps : ClientKeeps g clients n new
  pub sends : (number : ℕ) (q : Heartbeat) → SenderKeeps g n number q c → SenderKeeps g n number q new
  pub takes : (number : ℕ) (m : Text) (epoch : ℕ) (shown : Option Partitions) → number ≤ c.number
      → (c.waits ≡ true → number ≡ c.number → TakerKeeps g n c m epoch shown)
      → new.waits ≡ true → number ≡ new.number → TakerKeeps g n new m epoch shown

module _ (w : World) (keeps : Keeps w) (n : ℕ) (c new : Client) (there : numbered w.clients n ≡ Some c)
    (follows : Follows (group_at w.coordinator c.settings.group) (clients_of w.clients c.settings.group) n c new) where
  abbrev After : World
  After = with_client w n new

  -- who has a number now had it, or is the one that changed
  data Back (name : Text) (k : ℕ) (x : Client) : Type 0 where
    same : clients_of w.clients name k x → Back name k x
    other : k ≡ n → x ≡ new → clients_of w.clients name n c → Back name k x

  back : (name : Text) (k : ℕ) (x : Client) → clients_of After.clients name k x → Back name k x
  back name k x (is, of) = by (has_number w.clients n new k x is)
    where
      by : Has w.clients n new k x → Back name k x
      by (changed is_n is_new) = other is_n is_new (there, ap (λ (s : Settings). s.group) (sym follows.settings) ∙ ap (λ (y : Client). y.settings.group) (sym is_new) ∙ of)
      by (unchanged not_n before) = same (before, of)

  numbered_new : (k : ℕ) → k ≡ n → numbered After.clients k ≡ Some new
  numbered_new k is = ap (numbered After.clients) is ∙ numbered_itself w.clients n new c there

  -- whoever had a number: somebody of the same group has it
  forth : (name : Text) (k : ℕ) (x : Client) → clients_of w.clients name k x → (y : Client) × clients_of After.clients name k y
  forth name k x (is, of) = by (place k n)
    where
      by : Place k n → (y : Client) × clients_of After.clients name k y
      by (at is_n) =
          let was : x ≡ c = some_is x c (sym is ∙ ap (numbered w.clients) is_n ∙ there) in
          (new, (numbered_new k is_n, ap (λ (s : Settings). s.group) follows.settings ∙ ap (λ (y : Client). y.settings.group) (sym was) ∙ of))
      by (elsewhere apart) = (x, (numbered_other w.clients n k new apart ∙ is, of))

  -- ---- those that have gone

  lags : (name m : Text) (epoch : ℕ) → Lags (group_at w.coordinator name) (clients_of w.clients name) m epoch → Lags (group_at w.coordinator name) (clients_of After.clients name) m epoch
  lags name m epoch old s x heir instance r past is settings there given = by (back name s.connection x is)
    where
      by : Back name s.connection x → IsOver x s ⊎ (epoch < last_epoch r)
      by (same before) = old s x heir instance r past before settings there given
      by (other is_n is_new before) =
          over (old s c heir instance r past (subst (λ k. clients_of w.clients name k c) (sym is_n) before) (ap (λ (s : Settings). s.instance) (sym follows.settings) ∙ ap (λ (y : Client). y.settings.instance) (sym is_new) ∙ settings) there given)
        where
          over : IsOver c s ⊎ (epoch < last_epoch r) → IsOver x s ⊎ (epoch < last_epoch r)
          over (inl done) = inl (subst (λ (y : Client). IsOver y s) (sym is_new) (follows.over s done))
          over (inr less) = inr less

  -- ---- the groups

  group_keeps : (name : Text) → GroupKeeps (group_at w.coordinator name) (clients_of After.clients name)
  group_keeps name =
      let old = keeps.groups name in
      record {
        sound = old.sound;
        made = old.made;
        owner = λ m s seen. let owner = old.owner m s seen in forth name s.connection owner.0 owner.1;
        instance = λ m r x there is. instance m r x there (back name r.stamp.connection x is);
        away = λ m r x there gone is. away m r x there gone (back name r.stamp.connection x is);
        settings = λ m r x there is. of_settings m r x there (back name r.stamp.connection x is);
      }
    where
      instance : (m : Text) (r : Record) (x : Client) → finite.get (group_at w.coordinator name).records m ≡ Some r → Back name r.stamp.connection x → r.instance ≡ x.settings.instance
      instance m r x has_r (same before) = (keeps.groups name).instance m r x has_r before
      instance m r x has_r (other is_n is_new before) =
          (keeps.groups name).instance m r c has_r (subst (λ k. clients_of w.clients name k c) (sym is_n) before)
          ∙ ap (λ (s : Settings). s.instance) (sym follows.settings) ∙ ap (λ (y : Client). y.settings.instance) (sym is_new)

      of_settings : (m : Text) (r : Record) (x : Client) → finite.get (group_at w.coordinator name).records m ≡ Some r → Back name r.stamp.connection x → IsOfSettings x.settings r
      of_settings m r x has_r (same before) = (keeps.groups name).settings m r x has_r before
      of_settings m r x has_r (other is_n is_new before) =
          subst (λ (s : Settings). IsOfSettings s r) (sym follows.settings ∙ ap (λ (y : Client). y.settings) (sym is_new))
          ((keeps.groups name).settings m r c has_r (subst (λ k. clients_of w.clients name k c) (sym is_n) before))

      away : (m : Text) (r : Record) (x : Client) → finite.get (group_at w.coordinator name).records m ≡ Some r → r.epoch ≡ Away → Back name r.stamp.connection x → IsOver x r.stamp
      away m r x has_r gone (same before) = (keeps.groups name).away m r x has_r gone before
      away m r x has_r gone (other is_n is_new before) =
          subst (λ (y : Client). IsOver y r.stamp) (sym is_new)
          (follows.over r.stamp ((keeps.groups name).away m r c has_r gone (subst (λ k. clients_of w.clients name k c) (sym is_n) before)))

  -- ---- the clients

  with_lags : (name : Text) (k : ℕ) (x : Client) → ClientKeeps (group_at w.coordinator name) (clients_of w.clients name) k x → ClientKeeps (group_at w.coordinator name) (clients_of After.clients name) k x
  with_lags name k x old =
      record {
        its = old.its;
        holds = old.holds;
        behind = old.behind;
        below = old.below;
        lags = λ m is. lags name m x.epoch (old.lags m is);
        inside = old.inside;
        empty = old.empty;
        outside = old.outside;
        gone = old.gone;
      }

  client_keeps : (k : ℕ) (x : Client) → numbered After.clients k ≡ Some x → ClientKeeps (group_at w.coordinator x.settings.group) (clients_of After.clients x.settings.group) k x
  client_keeps k x is = by (has_number w.clients n new k x is)
    where
      by : Has w.clients n new k x → ClientKeeps (group_at w.coordinator x.settings.group) (clients_of After.clients x.settings.group) k x
      by (unchanged apart before) = with_lags x.settings.group k x (keeps.clients k x before)
      by (changed is_n is_new) =
          let group : x.settings.group ≡ c.settings.group = ap (λ (y : Client). y.settings.group) is_new ∙ ap (λ (s : Settings). s.group) follows.settings in
          subst (λ (name : Text). ClientKeeps (group_at w.coordinator name) (clients_of After.clients name) k x) (sym group)
          (with_lags c.settings.group k x
          (subst₂ (λ j (y : Client). ClientKeeps (group_at w.coordinator c.settings.group) (clients_of w.clients c.settings.group) j y) (sym is_n) (sym is_new) follows.keeps))

  -- ---- the requests

  sender_keeps : (name : Text) (k number : ℕ) (q : Heartbeat) → ((x : Client) → clients_of w.clients name k x → SenderKeeps (group_at w.coordinator name) k number q x)
      → (x : Client) → Back name k x → SenderKeeps (group_at w.coordinator name) k number q x
  sender_keeps name k number q old x (same before) = old x before
  sender_keeps name k number q old x (other is_n is_new before) =
      subst₂ (λ (a : Text) (y : Client). SenderKeeps (group_at w.coordinator a) k number q y) before.1 (sym is_new)
      (subst (λ j. SenderKeeps (group_at w.coordinator c.settings.group) j number q new) (sym is_n)
      (follows.sends number q
      (subst (λ (a : Text). SenderKeeps (group_at w.coordinator a) n number q c) (sym before.1)
      (subst (λ j. SenderKeeps (group_at w.coordinator name) j number q c) is_n (old c (subst (λ j. clients_of w.clients name j c) (sym is_n) before))))))

  request_keeps : (q : Request) → Says w.coordinator w.clients q → Says After.coordinator After.clients q
  request_keeps q old =
      let name = old.heartbeat.group in
      let sender = forth name q.sender old.client old.sender in
      record {
        heartbeat = old.heartbeat;
        spells = old.spells;
        connection = old.connection;
        client = sender.0;
        sender = sender.1;
        keeps = record {
          owner = old.keeps.owner;
          made = old.keeps.made;
          sender = λ x is. sender_keeps name q.sender q.stamp.frame old.heartbeat old.keeps.sender x (back name q.sender x is);
        };
      }

  -- ---- the replies

  module _ (name : Text) (k number : ℕ) (m : Text) (epoch : ℕ) (shown : Option Partitions)
      (old : ReplyKeeps (group_at w.coordinator name) (clients_of w.clients name) k number m epoch shown) where
    sent_before : (x : Client) → Back name k x → number ≤ x.number
    sent_before x (same before) = old.sent x before
    sent_before x (other is_n is_new before) =
        subst (λ (y : Client). number ≤ y.number) (sym is_new) (le_trans (old.sent c (subst (λ j. clients_of w.clients name j c) (sym is_n) before)) follows.further)

    takes_after : (x : Client) → Back name k x → x.waits ≡ true → number ≡ x.number → TakerKeeps (group_at w.coordinator name) k x m epoch shown
    takes_after x (same before) waits latest = old.taker x before waits latest
    takes_after x (other is_n is_new before) waits latest =
        let was : clients_of w.clients name k c = subst (λ j. clients_of w.clients name j c) (sym is_n) before in
        subst₂ (λ (a : Text) (y : Client). TakerKeeps (group_at w.coordinator a) k y m epoch shown) before.1 (sym is_new)
        (subst (λ j. TakerKeeps (group_at w.coordinator c.settings.group) j new m epoch shown) (sym is_n)
        (follows.takes number m epoch shown (old.sent c was)
        (λ waited last. subst (λ (a : Text). TakerKeeps (group_at w.coordinator a) n c m epoch shown) (sym before.1)
        (subst (λ j. TakerKeeps (group_at w.coordinator name) j c m epoch shown) is_n (old.taker c was waited last)))
        (ap (λ (y : Client). y.waits) (sym is_new) ∙ waits) (latest ∙ ap (λ (y : Client). y.number) is_new)))

    reply_after : ReplyKeeps (group_at w.coordinator name) (clients_of After.clients name) k number m epoch shown
    reply_after =
        record {
          made = old.made;
          owner = old.owner;
          below = old.below;
          lags = lags name m epoch old.lags;
          sent = λ x is. sent_before x (back name k x is);
          taker = λ x is waits latest. takes_after x (back name k x is) waits latest;
        }

  reply_keeps : (r : Reply) (x : Client) (number : ℕ) (m : Text) (epoch : ℕ) (shown : Option Partitions) → Contains w.replies r
      → numbered After.clients r.request.sender ≡ Some x → Tells number r.body (Accepts m epoch shown)
      → ReplyKeeps (group_at w.coordinator x.settings.group) (clients_of After.clients x.settings.group) r.request.sender number m epoch shown
  reply_keeps r x number m epoch shown pooled is tells = by (has_number w.clients n new r.request.sender x is)
    where
      by : Has w.clients n new r.request.sender x → ReplyKeeps (group_at w.coordinator x.settings.group) (clients_of After.clients x.settings.group) r.request.sender number m epoch shown
      by (unchanged apart before) = reply_after x.settings.group r.request.sender number m epoch shown (keeps.replies r x number m epoch shown pooled before tells)
      by (changed is_n is_new) =
          let group : x.settings.group ≡ c.settings.group = ap (λ (y : Client). y.settings.group) is_new ∙ ap (λ (s : Settings). s.group) follows.settings in
          subst (λ (name : Text). ReplyKeeps (group_at w.coordinator name) (clients_of After.clients name) r.request.sender number m epoch shown) (sym group)
          (reply_after c.settings.group r.request.sender number m epoch shown (keeps.replies r c number m epoch shown pooled (ap (numbered w.clients) is_n ∙ there) tells))

  taker : (r : Reply) → (x : Client) × (numbered w.clients r.request.sender ≡ Some x) → (x : Client) × (numbered After.clients r.request.sender ≡ Some x)
  taker r before =
      let now = forth before.0.settings.group r.request.sender before.0 (before.1, refl) in
      (now.0, now.1.0)

  -- ---- the commits

  commit_keeps : (k : Commit) → Committed w.coordinator w.clients k → Committed After.coordinator After.clients k
  commit_keeps k old =
      record {
        number = old.number;
        topics = old.topics;
        spells = old.spells;
        keeps = record {
          made = old.keeps.made;
          below = old.keeps.below;
          behind = old.keeps.behind;
          still = old.keeps.still;
          within = old.keeps.within;
          lags = lags k.group k.id k.epoch old.keeps.lags;
        };
      }

  pub change_keeps : Keeps (with_client w n new)
  change_keeps =
      record {
        image = keeps.image;
        groups = group_keeps;
        clients = client_keeps;
        requests = λ q there. request_keeps q (keeps.requests q there);
        replies = reply_keeps;
        takers = λ r there. taker r (keeps.takers r there);
        commits = λ k there. commit_keeps k (keeps.commits k there);
      }
