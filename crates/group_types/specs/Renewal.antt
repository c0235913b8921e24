-- KIP-848, "Target Assignment": a change raises the group epoch, and then the target is renewed.
use Rattle.std.specs.Prelude.{◌≡◌, suc, Bool, true, false, ◌==◌, List, map, Option, Some, None, IsPermutation, IsSorted}
use Rattle.std.specs.List.{list_any}
use Rattle.std.specs.FinMap as finite
use Rattle.group_types.specs.declared.assignor_name.AssignorName.{AssignorName}
use Rattle.group_types.specs.declared.assignor_name.AssignorName.TheVariants.{Range, Uniform}
use Rattle.group_types.specs.Text.{Text}
use Rattle.group_types.specs.Sets.{has}
use Rattle.group_types.specs.Topics.{Topics}
use Rattle.group_types.specs.Assignors.{Subscriber, member_cmp, assignor_of}
use Rattle.group_types.specs.Owners.{Spread, IsRange}
use Rattle.group_types.specs.Uniform.{IsUniform}
use Rattle.group_types.specs.Group.{Record, Records, Target, Group}

-- some member subscribes the name
abbrev pub is_subscribed : Records → Text → Bool
is_subscribed records name = list_any (λ r. has r.names name) (finite.values records)

-- of the image, the topics that some member subscribes
abbrev pub view_for : Topics → Records → Topics
view_for image records = finite.retain_keys image (is_subscribed records)

-- names, assignor and view are as they were
pub record IsUnchanged (before after : Record) (stored present : Topics) : Type 0 where
  pub names : before.names ≡ after.names
  pub assignor : before.assignor ≡ after.assignor
  pub view : stored ≡ present

-- Whether a step is a change: the member is new, its names or its assignor became others, or the view isn't the stored
-- one.
abbrev pub IsChange : Bool → Option Record → Record → Topics → Topics → Type 0
IsChange change None after stored view = change ≡ true
IsChange true (Some before) after stored view = ¬ IsUnchanged before after stored view
IsChange false (Some before) after stored view = IsUnchanged before after stored view

-- a change raises the group epoch and stores the view
abbrev pub changed_if : Bool → Group → Topics → Group
changed_if true g view = record g { epoch = suc g.epoch; view = view }
changed_if false g view = g

-- a member as an assignor sees it
abbrev pub subscriber_of : Text × Record → Subscriber
subscriber_of m = record { id = m.0; instance = m.1.instance; names = m.1.names; assignor = m.1.assignor }

-- the members, in member order
pub record AreMembers (records : Records) (subs : List Subscriber) : Type 0 where
  pub same : IsPermutation (map subscriber_of (finite.entries records)) subs
  pub sorted : IsSorted member_cmp subs

-- the owners of the partitions of a view under an assignor, where the former owners are known
abbrev pub AreOwners : AssignorName → Topics → List Subscriber → Spread → Spread → Type 0
AreOwners Range view subs former target = IsRange view subs target
AreOwners Uniform view subs former target = IsUniform view subs former target

-- KIP-848, "Server Side Assignors": the owners under the assignor that the members ask for
abbrev pub IsTarget : Records → Topics → Target → Target → Type 0
IsTarget records view former target =
    (subs : List Subscriber) × AreMembers records subs × AreOwners (assignor_of subs) view subs former target

abbrev pub RenewsWhere : Bool → Group → Group → Type 0
RenewsWhere true g new = new ≡ g
RenewsWhere false g new =
    (target : Target) × IsTarget g.records g.view g.target target
    × (new ≡ record g { target = target; target_epoch = g.epoch })

-- the target is renewed where its epoch isn't the group's
abbrev pub Renews : Group → Group → Type 0
Renews g new = RenewsWhere (g.epoch == g.target_epoch) g new
