use Rattle.std.proofs.Common.{◌≡◌, ◌<◌, ℕ, List, Some, None, length, get_or, slice_set, refl, sym, ap, subst, ◌∙◌, arith}
use Rattle.std.specs.Global.{Vec}
use Rattle.std.specs.List.{slice_get}
use Rattle.std.proofs.lemmas.List.{get_or_read, length-map, nil_from_length}
use Rattle.std.proofs.lemmas.Option.{get_or_from_slice_get, same_Some, slice_get_read, slice_get_within}
use Rattle.group_types.specs.Uniform.{Fills}
use Rattle.uniform_assign.specs.declared.board.Board.{Board}
use Rattle.uniform_assign.specs.declared.draft.Draft.{Draft}
use Rattle.uniform_assign.specs.Drafts.{AreCounts, IsDraft, drawn_on}
use Rattle.uniform_assign.specs.CountSets.{IsLeastAt, counts_of}
use Rattle.uniform_assign.proofs.Boards.{all_takers, no_takers}
use Rattle.uniform_assign.proofs.Filled.{Fills-fewest, Fills-nobody}
use Rattle.uniform_assign.proofs.Moves.{fewest-shown}
use Rattle.uniform_assign.proofs.Queued.{AreOnce-takers, IsFirstIn, IsFirstIn-of, IsQueued, IsQueued-of, counts_of-given, first-within}
use Rattle.uniform_assign.proofs.board.Board.give_first.Goals as goal
use Rattle.uniform_assign.specs.Boards.{members_on}

-- the taker that was read is the first in the queue
read_first : (board : Board) (draft : Draft) (at class k m : ℕ) (set : List ℕ) (v : Vec ℕ) → IsDraft board draft → (queued : IsQueued board draft at class set) → IsLeastAt (counts_of draft.counts.items queued.is_at.takers.items) k
    → v ≡ get_or board.takers.items class v → m ≡ get_or v.items k m → IsFirstIn board draft at class set k m
read_first board draft at class k m set v are queued least read_v read_m =
    let there = slice_get_read board.takers.items (length board.takers.items) class v refl (slice_get_within board.takers.items class queued.is_at.takers queued.are_takers) read_v in
    let same : v ≡ queued.is_at.takers = same_Some v queued.is_at.takers (sym there ∙ queued.are_takers) in
    let items = ap (λ (w : Vec ℕ). w.items) same in
    let low = first-within board draft at class k set queued least in
    let longs = ap length items in
    IsFirstIn-of board draft at class k m set are queued least (ap (λ xs. slice_get xs k) (sym items) ∙ slice_get_read v.items (length v.items) k m refl (omega arith) read_m)

taker_in : (board : Board) (draft : Draft) (at class k : ℕ) (set : List ℕ) (v : Vec ℕ) → (queued : IsQueued board draft at class set) → IsLeastAt (counts_of draft.counts.items queued.is_at.takers.items) k
    → v ≡ get_or board.takers.items class v → k < length v.items
taker_in board draft at class k set v queued least read_v =
    let there = slice_get_read board.takers.items (length board.takers.items) class v refl (slice_get_within board.takers.items class queued.is_at.takers queued.are_takers) read_v in
    let same : v ≡ queued.is_at.takers = same_Some v queued.is_at.takers (sym there ∙ queued.are_takers) in
    let longs = ap (λ (w : Vec ℕ). length w.items) same in
    let low = first-within board draft at class k set queued least in
    omega arith

pub index-requires : goal.index-requires
index-requires c =
    let board = c.args.self.now in
    let queued = IsQueued-of board c.args.draft.now c.args.at c.args.queue.now.class c.args.queue.now.counts c.requires.board c.requires.class c.requires.queue in
    let low = slice_get_within board.takers.items c.args.queue.now.class queued.is_at.takers queued.are_takers in
    let ok = board.takers.ok in
    omega arith

pub index-member-requires : goal.index-member-requires
index-member-requires c =
    let board = c.args.self.now in
    let draft = c.args.draft.now in
    let class = c.args.queue.now.class in
    let set = c.args.queue.now.counts in
    let queued = IsQueued-of board draft c.args.at class c.args.queue.now.counts c.requires.board c.requires.class c.requires.queue in
    let low = taker_in board draft c.args.at class c.in-Some.first.place set c.index.result.now queued (subst (λ (xs : List ℕ). IsLeastAt xs c.in-Some.first.place) queued.set_of c.in-Some.ensures.least) c.index.ensures in
    let ok = c.index.result.now.ok in
    omega arith

pub give-requires-clause-partition_in : goal.give-requires-clause-partition_in
give-requires-clause-partition_in c = slice_get_within c.args.draft.now.owners.items c.args.at None c.requires.free

pub give-requires-clause-member_in : goal.give-requires-clause-member_in
give-requires-clause-member_in c =
    let board = c.args.self.now in
    let draft = c.args.draft.now in
    let class = c.args.queue.now.class in
    let set = c.args.queue.now.counts in
    let queued = IsQueued-of board draft c.args.at class c.args.queue.now.counts c.requires.board c.requires.class c.requires.queue in
    let first = read_first board draft c.args.at class c.in-Some.first.place c.index-member.result.now set c.index.result.now c.requires.draft queued (subst (λ (xs : List ℕ). IsLeastAt xs c.in-Some.first.place) queued.set_of c.in-Some.ensures.least) c.index.ensures c.index-member.ensures in
    first.within

pub index-requires-in-Some : goal.index-requires-in-Some
index-requires-in-Some c =
    let board = c.args.self.now in
    let draft = c.args.draft.now in
    let class = c.args.queue.now.class in
    let set = c.args.queue.now.counts in
    let queued = IsQueued-of board draft c.args.at class c.args.queue.now.counts c.requires.board c.requires.class c.requires.queue in
    let first = read_first board draft c.args.at class c.in-Some.first.place c.index-member.result.now set c.index.result.now c.requires.draft queued (subst (λ (xs : List ℕ). IsLeastAt xs c.in-Some.first.place) queued.set_of c.in-Some.ensures.least) c.index.ensures c.index-member.ensures in
    let low = first.within in
    let many = c.give.ensures.as_many in
    let ok = c.give.new.self.counts.ok in
    omega arith

pub set-requires : goal.set-requires
set-requires c =
    let board = c.args.self.now in
    let draft = c.args.draft.now in
    let class = c.args.queue.now.class in
    let set = c.args.queue.now.counts in
    let queued = IsQueued-of board draft c.args.at class c.args.queue.now.counts c.requires.board c.requires.class c.requires.queue in
    let first = read_first board draft c.args.at class c.in-Some.first.place c.index-member.result.now set c.index.result.now c.requires.draft queued (subst (λ (xs : List ℕ). IsLeastAt xs c.in-Some.first.place) queued.set_of c.in-Some.ensures.least) c.index.ensures c.index-member.ensures in
    let room = first.room in
    omega arith

pub returns-in-Some-clause-queue : goal.returns-in-Some-clause-queue
returns-in-Some-clause-queue c = λ takers is_takers.
    let board = c.args.self.now in
    let draft = c.args.draft.now in
    let class = c.args.queue.now.class in
    let set = c.args.queue.now.counts in
    let queued = IsQueued-of board draft c.args.at class c.args.queue.now.counts c.requires.board c.requires.class c.requires.queue in
    let m = c.index-member.result.now in
    let first = read_first board draft c.args.at class c.in-Some.first.place m set c.index.result.now c.requires.draft queued (subst (λ (xs : List ℕ). IsLeastAt xs c.in-Some.first.place) queued.set_of c.in-Some.ensures.least) c.index.ensures c.index-member.ensures in
    let new = c.give.new.self in
    let here = first.queued.is_at in
    let same : here.takers ≡ takers = same_Some here.takers takers (sym first.queued.are_takers ∙ is_takers) in
    let after = subst (λ os. AreCounts os new.counts.items) c.give.ensures.owners c.give.ensures.counts in
    let low = first.within in
    let many = c.give.ensures.as_many in
    let value = get_or_read new.counts.items m c.index-in-Some.result.now (omega arith) c.index-in-Some.ensures 0 in
    c.set.ensures ∙ (λ i. slice_set (first.queued.set_of i) c.in-Some.first.place (value i))
    ∙ counts_of-given draft.owners.items draft.counts.items new.counts.items here.takers.items c.args.at c.in-Some.first.place m c.requires.draft.counts c.requires.free first.within after many
    (AreOnce-takers (members_on board) here.topic.0 here.takers.items c.requires.board.bare.apart here.are_takers)
    (λ j t is_t.
    let all = all_takers (members_on board) here.topic.0 here.takers.items here.are_takers in
    let inside = slice_get_within here.takers.items j t is_t in
    let taker = all j t inside in
    let read = get_or_from_slice_get here.takers.items j t t is_t in
    let as_many = c.requires.draft.as_many_counts in
    omega arith)
    first.is_taker
    ∙ ap (λ (v : Vec ℕ). counts_of new.counts.items v.items) same

pub returns-in-Some-clause-filled : goal.returns-in-Some-clause-filled
returns-in-Some-clause-filled c = λ x is_x.
    let board = c.args.self.now in
    let draft = c.args.draft.now in
    let class = c.args.queue.now.class in
    let set = c.args.queue.now.counts in
    let queued = IsQueued-of board draft c.args.at class c.args.queue.now.counts c.requires.board c.requires.class c.requires.queue in
    let m = c.index-member.result.now in
    let first = read_first board draft c.args.at class c.in-Some.first.place m set c.index.result.now c.requires.draft queued (subst (λ (xs : List ℕ). IsLeastAt xs c.in-Some.first.place) queued.set_of c.in-Some.ensures.least) c.index.ensures c.index-member.ensures in
    let here = first.queued.is_at in
    let part : (here.topic.0, first.queued.place.partition) ≡ x = same_Some _ x (sym here.is_part ∙ is_x) in
    let fewest = fewest-shown board draft c.requires.board c.requires.draft here.topic.0 here.takers.items m first.member here.are_takers first.least first.is_member in
    subst (λ os. Fills (members_on board) (drawn_on board draft.owners.items) x (drawn_on board os)) (sym c.give.ensures.owners)
    (subst (λ y. Fills (members_on board) (drawn_on board draft.owners.items) y (drawn_on board (slice_set draft.owners.items c.args.at (Some m)))) part
    (Fills-fewest board draft c.requires.board.bare c.requires.draft c.args.at (here.topic.0, first.queued.place.partition) here.is_part m first.member c.requires.free first.is_member
    (slice_get_within draft.owners.items c.args.at None c.requires.free) fewest))

pub returns-in_default-clause-filled : goal.returns-in_default-clause-filled
returns-in_default-clause-filled c = λ x is_x.
    let board = c.args.self.now in
    let draft = c.args.draft.now in
    let class = c.args.queue.now.class in
    let queued = IsQueued-of board draft c.args.at class c.args.queue.now.counts c.requires.board c.requires.class c.requires.queue in
    let here = queued.is_at in
    let part : (here.topic.0, queued.place.partition) ≡ x = same_Some _ x (sym here.is_part ∙ is_x) in
    let none = sym queued.set_of ∙ c.in_default.ensures in
    let long = length-map here.takers.items (λ u. get_or draft.counts.items u 0) in
    let nothing = ap length none in
    let empty = nil_from_length here.takers.items (omega arith) in
    subst (λ y. Fills (members_on board) (drawn_on board draft.owners.items) y (drawn_on board draft.owners.items)) part
    (Fills-nobody board draft c.requires.board.bare c.requires.draft c.args.at (here.topic.0, queued.place.partition) here.is_part c.requires.free (no_takers (members_on board) here.topic.0 here.takers.items here.are_takers empty))

pub returns-in_default-clause-queue : goal.returns-in_default-clause-queue
returns-in_default-clause-queue c = c.requires.queue
