-- Which request came under a stamp, and the stamps of a world in the place of a log's.
use Rattle.std.proofs.Common.{◌≡◌, ℕ, suc, Bool, true, false, ◌&&◌, ◌==◌, List, [], ◌∷◌, Option, Some, None, inl, inr, refl, sym, ap, subst, ◌∙◌, arith}
use Rattle.std.specs.Cmp.{first_so, second_so}
use Rattle.std.specs.Option.{option_or}
use Rattle.std.proofs.lemmas.Bool.Decides.{Decides-eqb}
use Rattle.group_types.specs.declared.stamp.Stamp.{Stamp}
use Rattle.group_types.specs.Checks.{is_late}
use Rattle.group_types.proofs.ListLemmas.{In, from_in}
use Rattle.group_types.proofs.Lookups.{not_none, some_is}
use Rattle.member_core.specs.Client.{Client}
use Rattle.replica_entries.specs.Values.{EntryValue}
use Rattle.world_sim.specs.World.{Request, numbered}
use Rattle.replica_worlds.specs.ReplicaWorlds.{AreStamped, Brings, Came, Delivers, Does, Goes, ReplicaAct, stamp_of_entry}
use Rattle.replica_worlds.proofs.StampOrder.{Above, Below, InOrder, Same, frames_rise, in_order, late_before, late_behind, late_itself, not_before_itself}
use Rattle.replica_worlds.proofs.Pools.{PoolKeeps}

abbrev same_stamp : Stamp → Stamp → Bool
same_stamp s t = (s.connection == t.connection) && (s.frame == t.frame)

same_is : (s t : Stamp) → same_stamp s t ≡ true → s ≡ t
same_is s t so =
    let connection = (Decides-eqb s.connection t.connection).0 (first_so (s.connection == t.connection) (s.frame == t.frame) so) in
    let frame = (Decides-eqb s.frame t.frame).0 (second_so (s.connection == t.connection) (s.frame == t.frame) so) in
    λ i. record { connection = connection i; frame = frame i }

same_itself : (t : Stamp) → same_stamp t t ≡ true
same_itself t = λ i. (Decides-eqb t.connection t.connection).1 refl i && (Decides-eqb t.frame t.frame).1 refl i

-- ---- the request

module _ (requests : List Request) where
  abbrev under_if : Bool → ℕ → Option Request
  under_if true k = numbered requests k
  under_if false k = None

  abbrev came_by : Stamp → ReplicaAct → Option Request
  came_by t (Does act) = None
  came_by t (Delivers k e) = under_if (same_stamp (stamp_of_entry e) t) k
  came_by t (Brings k e) = None
  came_by t (Goes e) = None

  -- the first request that came under a stamp
  abbrev pub came_under : List ReplicaAct → Stamp → Option Request
  came_under [] t = None
  came_under (act ∷ acts) t = option_or (came_by t act) (came_under acts t)

  -- it came, as an entry of that stamp
  pub record CameIn (acts : List ReplicaAct) (t : Stamp) (q : Request) : Type 0 where
    pub number : ℕ
    pub entry : EntryValue
    pub is_in : In acts (Delivers number entry)
    pub is_pooled : numbered requests number ≡ Some q
    pub stamped : stamp_of_entry entry ≡ t

  later : (act : ReplicaAct) (acts : List ReplicaAct) (t : Stamp) (q : Request) → CameIn acts t q → CameIn (act ∷ acts) t q
  later act acts t q c = record { number = c.number; entry = c.entry; is_in = inr c.is_in; is_pooled = c.is_pooled; stamped = c.stamped }

  pub came_in : (acts : List ReplicaAct) (t : Stamp) (q : Request) → came_under acts t ≡ Some q → CameIn acts t q
  came_in [] t q is = absurd (not_none q is)
  came_in (Does act ∷ acts) t q is = later (Does act) acts t q (came_in acts t q is)
  came_in (Brings k e ∷ acts) t q is = later (Brings k e) acts t q (came_in acts t q is)
  came_in (Goes e ∷ acts) t q is = later (Goes e) acts t q (came_in acts t q is)
  came_in (Delivers k e ∷ acts) t q is = by (λ rest. later (Delivers k e) acts t q (came_in acts t q rest)) (same_stamp (stamp_of_entry e) t) refl is
    where
      pooled : (came_under acts t ≡ Some q → CameIn (Delivers k e ∷ acts) t q) → (o : Option Request) → numbered requests k ≡ o → same_stamp (stamp_of_entry e) t ≡ true
          → option_or o (came_under acts t) ≡ Some q → CameIn (Delivers k e ∷ acts) t q
      pooled later_one None none so is = later_one is
      pooled later_one (Some r) there so is = record { number = k; entry = e; is_in = inl refl; is_pooled = there ∙ is; stamped = same_is (stamp_of_entry e) t so }

      by : (came_under acts t ≡ Some q → CameIn (Delivers k e ∷ acts) t q) → (b : Bool) → same_stamp (stamp_of_entry e) t ≡ b
          → option_or (under_if b k) (came_under acts t) ≡ Some q → CameIn (Delivers k e ∷ acts) t q
      by later_one true so is = pooled later_one (numbered requests k) refl so is
      by later_one false so is = later_one is

  some_or : (o p : Option Request) (q : Request) → p ≡ Some q → (r : Request) × (option_or o p ≡ Some r)
  some_or None p q is = (q, is)
  some_or (Some r) p q is = (r, refl)

  pub under_came : (acts : List ReplicaAct) (k : ℕ) (e : EntryValue) (q : Request) → In acts (Delivers k e) → numbered requests k ≡ Some q
      → (r : Request) × (came_under acts (stamp_of_entry e) ≡ Some r)
  under_came [] k e q there is = absurd there
  under_came (act ∷ acts) k e q (inl same) is =
      let first : came_by (stamp_of_entry e) act ≡ Some q =
      ap (came_by (stamp_of_entry e)) same ∙ ap (λ b. under_if b k) (same_itself (stamp_of_entry e)) ∙ is
      in (q, ap (λ (o : Option Request). option_or o (came_under acts (stamp_of_entry e))) first)
  under_came (act ∷ acts) k e q (inr there) is =
      let rest = under_came acts k e q there is in some_or (came_by (stamp_of_entry e) act) (came_under acts (stamp_of_entry e)) rest.0 rest.1

-- ---- other stamps

abbrev stamp_in_world : Option Request → Stamp → Stamp
stamp_in_world None t = t
stamp_in_world (Some q) t = q.stamp

-- a stamp under which no request came becomes another one
abbrev stamp_if_came : Option Request → Stamp → Stamp
stamp_if_came None t = record t { frame = suc t.frame }
stamp_if_came (Some q) t = t

module _ (acts : List ReplicaAct) (requests : List Request) where
  -- the stamp that the request has in a world
  abbrev pub world_stamp : Stamp → Stamp
  world_stamp t = stamp_in_world (came_under requests acts t) t

  abbrev pub kept_stamp : Stamp → Stamp
  kept_stamp t = stamp_if_came (came_under requests acts t) t

  pub kept_came : (t : Stamp) → kept_stamp t ≡ t → (q : Request) × (came_under requests acts t ≡ Some q)
  kept_came t same = by (came_under requests acts t) refl same
    where
      by : (o : Option Request) → came_under requests acts t ≡ o → stamp_if_came o t ≡ t → (q : Request) × (came_under requests acts t ≡ Some q)
      by None none same = let frame : suc t.frame ≡ t.frame = ap (λ (x : Stamp). x.frame) same in absurd (omega arith)
      by (Some q) there same = (q, there)

  pub came_kept : (t : Stamp) (q : Request) → came_under requests acts t ≡ Some q → kept_stamp t ≡ t
  came_kept t q is = ap (λ (o : Option Request). stamp_if_came o t) is

  pub came_world : (t : Stamp) (q : Request) → came_under requests acts t ≡ Some q → world_stamp t ≡ q.stamp
  came_world t q is = ap (λ (o : Option Request). stamp_in_world o t) is

  module _ (clients : List Client) (stamped : AreStamped acts requests) (pool : PoolKeeps clients requests) where
    came_of : (t : Stamp) (q : Request) (c : CameIn requests acts t q) → Came acts requests c.number c.entry q
    came_of t q c = record { is_delivered = from_in acts (Delivers c.number c.entry) c.is_in; is_pooled = c.is_pooled }

    -- the requests that came under one stamp are one
    pub one_came : (t : Stamp) (q r : Request) → CameIn requests acts t q → CameIn requests acts t r → q ≡ r
    one_came t q r c d = by (in_order c.number d.number)
      where
        same : stamp_of_entry c.entry ≡ stamp_of_entry d.entry
        same = c.stamped ∙ sym d.stamped

        sender : q.sender ≡ r.sender
        sender = stamped.apart c.number d.number c.entry d.entry q r (came_of t q c) (came_of t r d) (ap (λ (x : Stamp). x.connection) same)

        by : InOrder c.number d.number → q ≡ r
        by (Below below) = absurd (not_before_itself (stamp_of_entry c.entry) (stamp_of_entry d.entry) same (stamped.rise c.number d.number c.entry d.entry q r (came_of t q c) (came_of t r d) sender below))
        by (Same number) = some_is q r (sym c.is_pooled ∙ ap (numbered requests) number ∙ d.is_pooled)
        by (Above above) = absurd (not_before_itself (stamp_of_entry d.entry) (stamp_of_entry c.entry) (sym same) (stamped.rise d.number c.number d.entry c.entry r q (came_of t r d) (came_of t q c) (sym sender) above))

    pub world_of_came : (k : ℕ) (e : EntryValue) (q : Request) → In acts (Delivers k e) → numbered requests k ≡ Some q → came_under requests acts (stamp_of_entry e) ≡ Some q
    world_of_came k e q there is =
        let found = under_came requests acts k e q there is in
        let same = one_came (stamp_of_entry e) found.0 q (came_in requests acts (stamp_of_entry e) found.0 found.1)
        (record { number = k; entry = e; is_in = there; is_pooled = is; stamped = refl })
        in found.1 ∙ ap Some same

    -- of one client's requests the one is late behind the other in the world as it is in the log
    pub same_order : (s t : Stamp) (q r : Request) → CameIn requests acts s q → CameIn requests acts t r → q.sender ≡ r.sender → is_late q.stamp r.stamp ≡ is_late s t
    same_order s t q r c d sender = by (in_order c.number d.number)
      where
        connection : q.stamp.connection ≡ r.stamp.connection
        connection = pool.connection c.number q c.is_pooled ∙ sender ∙ sym (pool.connection d.number r d.is_pooled)

        in_log : is_late (stamp_of_entry c.entry) (stamp_of_entry d.entry) ≡ is_late s t
        in_log = λ i. is_late (c.stamped i) (d.stamped i)

        by : InOrder c.number d.number → is_late q.stamp r.stamp ≡ is_late s t
        by (Below below) =
            late_before q.stamp r.stamp (frames_rise q.stamp r.stamp connection (pool.rise c.number d.number q r c.is_pooled d.is_pooled sender below))
            ∙ sym (late_before (stamp_of_entry c.entry) (stamp_of_entry d.entry) (stamped.rise c.number d.number c.entry d.entry q r (came_of s q c) (came_of t r d) sender below))
            ∙ in_log
        by (Same number) =
            let one : q ≡ r = some_is q r (sym c.is_pooled ∙ ap (numbered requests) number ∙ d.is_pooled) in
            let again : Came acts requests d.number c.entry r = subst (λ (x : Request). Came acts requests d.number c.entry x) one (subst (λ (n : ℕ). Came acts requests n c.entry q) number (came_of s q c)) in
            let stamps : stamp_of_entry c.entry ≡ stamp_of_entry d.entry = stamped.one d.number c.entry d.entry r again (came_of t r d) in
            ap (λ (x : Request). is_late x.stamp r.stamp) one ∙ late_itself r.stamp
            ∙ sym (ap (λ (x : Stamp). is_late x (stamp_of_entry d.entry)) stamps ∙ late_itself (stamp_of_entry d.entry))
            ∙ in_log
        by (Above above) =
            late_behind q.stamp r.stamp (frames_rise r.stamp q.stamp (sym connection) (pool.rise d.number c.number r q d.is_pooled c.is_pooled (sym sender) above))
            ∙ sym (late_behind (stamp_of_entry c.entry) (stamp_of_entry d.entry) (stamped.rise d.number c.number d.entry c.entry r q (came_of t r d) (came_of s q c) (sym sender) above))
            ∙ in_log
