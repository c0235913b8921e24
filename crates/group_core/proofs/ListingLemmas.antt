-- How the listing of partitions grows at its end, how long it is, and that its entries have no tagged fields.
use Rattle.std.proofs.Common.{◌≡◌, ◌≤◌, List, [], ◌∷◌, ◌++◌, length}
use Rattle.group_types.specs.declared.partition.Partition.{Partition}
use Rattle.kip_msgs.specs.Growth.{behind}
use Rattle.kip_msgs.proofs.ListingLemmas.{HaveNoTags, HaveNoTags-listed_by, indexes_in, indexes_in-listed_by, length-listed_by, listed_by-push}
use Rattle.group_core.specs.Listing.{listed}

pub listed-push : (ps : List Partition) (p : Partition) → listed (ps ++ p ∷ []) ≡ behind (listed ps) p.topic p.index
listed-push = listed_by-push (λ (p : Partition). p.topic) (λ (p : Partition). p.index)

pub indexes_in-listed : (ps : List Partition) → indexes_in (listed ps) ≡ length ps
indexes_in-listed = indexes_in-listed_by (λ (p : Partition). p.topic) (λ (p : Partition). p.index)

pub length-listed : (ps : List Partition) → length (listed ps) ≤ length ps
length-listed = length-listed_by (λ (p : Partition). p.topic) (λ (p : Partition). p.index)

pub HaveNoTags-listed : (ps : List Partition) → HaveNoTags (listed ps)
HaveNoTags-listed = HaveNoTags-listed_by (λ (p : Partition). p.topic) (λ (p : Partition). p.index)
