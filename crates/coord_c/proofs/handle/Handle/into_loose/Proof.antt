-- `into_loose` moves the pointer, and what it owns, into a `Loose`.
use Rattle.std.proofs.Common.{◌≡◌, List, [], ◌∷◌, ◌++◌, Option, None, Some, refl, sym, ap, subst, ◌∙◌}
use lib.Dec.{T}
use mir.Syntax.{Fn, ty_ptr, tnil, tcons}
use mir.Raw.{raw as bare}
use mir.Val.{Val, vptr}
use base.Logic.{SProp, ent, emp, never, id⊢, fst∗}
use prog.Wp.{WpFn}
use types.Logic.{sem}
use contract.Monad.{fact, fact_i}
use contract.Running.{tables}
use types.Kit.{‵, raw, ◌⊛◌, ◌$◌, ◌∵◌, !, qed, by, move, keep, use0, split, fsplit, fjoin, rewrite, suffices}
use types.Part.{whole, sub, agg}
use types.Run.{stop, fld, of_opd, no_more, and_then, returns, enter}
use types.ByLocal.{alloc_all, pass_all, free_all, look_at, get, get_in, sets}
use denote.Exit.{yes}
use denote.RattleType.{RattleType, owns}
use denote.Memory.{lone}
use denote.RawPtr.{Ptr, block_ptr, null_ptr, in_a_block}
use denote.Signature.{types_at, plain}
use denote.Steps.{nothing, heard}
use denote.Triple.Entry.{alive}
use denote.Triple.Walked.{Stays, stay_dropped, walk_of}
use Rattle.std.proofs.alloc.Calls.{Goes-blank, handle_tells}
use Rattle.std.proofs.raw_atomic.Walks.{proved_at, leaves}
use Rattle.std_alloc.specs.Box.Ownership.{box_owns}
use Rattle.std_heap.specs.contracts.Global as Heap
use Rattle.std_heap.specs.contracts.GlobalAllocator.TheImpl.{ghosts}
use Rattle.std_heap.proofs.Global.TheLaws as heap
use Rattle.coord_c.specs.declared.embedded.Embedded.{Embedded}
use Rattle.coord_c.specs.contracts.embedded.Embedded as embedded
use Rattle.coord_c.specs.Held.{held, freed, HasEmbedded}
use Rattle.coord_c.specs.contracts.handle.Handle as handle
use Rattle.coord_c.proofs.Pointers.{allocator, pair, pair_good, loose_in, word, handle_out}
use Rattle.coord_c.specs.contracts.handle.Handle.into_loose.{ended, clauses}
use Rattle.coord_c.specs.contracts.handle.Handle.into_loose.Key.{name as #self}
use Rattle.coord_c.proofs.handle.Handle.into_loose.Statement.{statement}
use Rattle.coord_c.proofs.handle.Handle.into_loose.Code as code

there : (kept : Option Embedded) → HasEmbedded kept → (x : Embedded) × (kept ≡ Some x)
there (Some x) t = (x, refl)
there None t = absurd (subst T (sym t) tt)

pub into_loose_spec : {M : Type 1} → statement M
into_loose_spec 𝓤 𝓛 𝓜 𝓡 wired =
    let H = 𝓛.H in let 𝓣 = tables 𝓤 H 𝓜 𝓡 𝓡.env in let c = clauses 𝓛 𝓜.mem 𝓡.returns in let fn : Fn = code.function in
    let R : RattleType = embedded.the_row in let Z : RattleType = Heap.the_row in let L = heap.the_row_laws in let g = ghosts in
    let stays : Stays ended.signature.params ended.kept = (stay_dropped (plain (λ _. handle.the_row)) yes, (stay_dropped (plain (λ _. Z)) yes, tt)) in
    proved_at 𝓛 ended stays c 𝓜 𝓡 (Goes-blank 𝓛 0 (plain (λ _. handle.the_row)) yes (λ κs x f. tt), (Goes-blank 𝓛 0 (plain (λ _. Z)) yes (λ κs x f. tt), tt)) #self fn (code.unfolded 𝓤 H 𝓜 𝓡 wired) (λ z are.
    let v = z.0.3.0 in let a = z.0.3.1.0 in let Post : Val → SProp 𝓤 = (walk_of 𝓛 ended stays c).post z in let Run : List Val → SProp 𝓤 = λ ws. WpFn 𝓤 H 𝓣.C 𝓣.Λ fn ws Post in
    qed 𝓛 ((raw (alive 𝓛 ended.signature z.0.0 z.0.1) ⊛ ‵ (owns (types_at ended.signature.params z.0.0) z.0.3 z.0.4)) ∷ raw (fact 𝓤 (HasEmbedded v.kept)) ∷ []) ∵
    move ! (1 ∷ []) $ heard ! (HasEmbedded v.kept) (λ is_kept. let x : Embedded = (there v.kept is_kept).0 in let is : v.kept ≡ Some x = (there v.kept is_kept).1 in split ! $ move ! (1 ∷ []) $
    fsplit ! $ handle_out ! v z.0.4.0 (λ first. rewrite ! 0 (λ (kept : Option Embedded). ‵ (held v.at kept)) is refl $
    in_a_block ! v.at (λ p. box_owns freed R p x) (fst∗ 𝓤 (never 𝓤) (sem 𝓛 (freed (bare (lone R.mir)) null_ptr))) (λ b o e.
    move ! (1 ∷ []) $ fsplit ! $ handle_tells (allocator R Z L g) ! a z.0.4.1.0 (λ h second good.
    let w : Val = word (block_ptr b o) in
    let same : z.0.4.0 ++ (z.0.4.1.0 ++ []) ≡ w ∷ h ∷ [] = (λ i. first i ++ (second i ++ [])) ∙ ap (λ (p : Ptr). word p ∷ h ∷ []) e in
    suffices ! (Run (w ∷ h ∷ [])) (subst (λ (us : List Val). ent 𝓤 (Run (w ∷ h ∷ [])) (Run us)) (sym same) (id⊢ 𝓤 (Run (w ∷ h ∷ [])))) $
    enter ! 𝓣.C 𝓣.Λ fn (w ∷ h ∷ []) Post $ alloc_all ! (λ l. pass_all ! refl ((tt, (tt, tt)), (good, tt)) $
    sets ! (of_opd ! (get_in ! (fld ! refl (stop !)) (sub ! {τs = tcons ty_ptr tnil} 0 refl (whole !)))) refl (tt, tt) $
    sets ! (of_opd ! (get ! refl)) refl (tt, tt) $
    sets ! (agg ! (and_then ! (get ! refl) (and_then ! (get ! refl) (no_more !)))) refl (pair_good R Z L g b o h good) $
    returns ! (look_at ! 0 refl) $ free_all ! refl $
    move ! (2 ∷ 0 ∷ []) $ loose_in R Z L g ! b o h a x $
    use0 𝓛 (raw (fact 𝓤 (Some x ≡ v.kept))) (fact_i 𝓤 (Some x ≡ v.kept) (emp 𝓤) (sym is)) $ nothing ! $ nothing ! $ fjoin ! $ nothing ! $ fjoin ! $
    keep ! (4 ∷ 0 ∷ 2 ∷ 1 ∷ []) $ by ! (leaves 𝓛 ended stays c z (pair (vptr b o) h) (record { at = block_ptr b o; alloc = a; value = x }) (tt, (tt, tt)) (tt, (tt, tt)))))))))
