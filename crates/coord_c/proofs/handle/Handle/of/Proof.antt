-- `of` moves the pointer, and what it owns, from a `Loose`.
use Rattle.std.proofs.Common.{◌≡◌, List, [], ◌∷◌, ◌++◌, Option, Some, refl, sym, subst}
use mir.Syntax.{Fn, ty_ptr, tnil, tcons}
use mir.Val.{Val, vptr}
use base.Logic.{SProp, ent, emp, id⊢}
use base.Fml.{ftrue}
use prog.Wp.{WpFn}
use contract.Monad.{fact, fact_i}
use contract.Running.{tables}
use types.Kit.{‵, raw, ◌⊛◌, ◌$◌, ◌∵◌, !, qed, by, move, keep, drop, use0, split, fsplit, fjoin, suffices}
use types.Part.{whole, sub, agg}
use types.Run.{stop, fld, of_opd, no_more, and_then, returns, enter}
use types.ByLocal.{alloc_all, pass_all, free_all, look_at, get, get_in, sets}
use denote.Exit.{yes}
use denote.Param.{layout}
use denote.RattleType.{RattleType, owns}
use denote.RawPtr.{block_ptr}
use denote.Signature.{types_at, plain}
use denote.Steps.{nothing}
use denote.Triple.Entry.{alive}
use denote.Triple.Walked.{Stays, stay_dropped, walk_of}
use Rattle.std.proofs.alloc.Calls.{Goes-blank}
use Rattle.std.proofs.raw_atomic.Walks.{proved_at, leaves}
use Rattle.std_heap.specs.contracts.Global as Heap
use Rattle.std_heap.specs.contracts.GlobalAllocator.TheImpl.{ghosts}
use Rattle.std_heap.proofs.Global.TheLaws as heap
use Rattle.coord_c.specs.declared.embedded.Embedded.{Embedded}
use Rattle.coord_c.specs.contracts.embedded.Embedded as embedded
use Rattle.coord_c.proofs.Pointers.{Loose, pair, pair_good, loose_out, word, handle_in}
use Rattle.coord_c.specs.contracts.handle.Handle.of.{ended, clauses}
use Rattle.coord_c.specs.contracts.handle.Handle.of.Key.{name as #self}
use Rattle.coord_c.proofs.handle.Handle.of.Statement.{statement}
use Rattle.coord_c.proofs.handle.Handle.of.Code as code

pub of_spec : {M : Type 1} → statement M
of_spec 𝓤 𝓛 𝓜 𝓡 wired =
    let H = 𝓛.H in let 𝓣 = tables 𝓤 H 𝓜 𝓡 𝓡.env in let c = clauses 𝓛 𝓜.mem 𝓡.returns in let fn : Fn = code.function in
    let R : RattleType = embedded.the_row in let Z : RattleType = Heap.the_row in let L = heap.the_row_laws in let g = ghosts in
    let stays : Stays ended.signature.params ended.kept = (stay_dropped (plain (λ _. Loose R Z L g)) yes, tt) in
    proved_at 𝓛 ended stays c 𝓜 𝓡 (Goes-blank 𝓛 0 (plain (λ _. Loose R Z L g)) yes (λ κs x f. tt), tt) #self fn (code.unfolded 𝓤 H 𝓜 𝓡 wired) (λ z are.
    let v = z.0.3.0 in let Post : Val → SProp 𝓤 = (walk_of 𝓛 ended stays c).post z in let Run : List Val → SProp 𝓤 = λ ws. WpFn 𝓤 H 𝓣.C 𝓣.Λ fn ws Post in
    let lives = raw (alive 𝓛 ended.signature z.0.0 z.0.1) in
    qed 𝓛 ((lives ⊛ ‵ (owns (types_at ended.signature.params z.0.0) z.0.3 z.0.4)) ∷ ‵ ftrue ∷ []) ∵ move ! (1 ∷ []) $ drop ! $ split ! $ move ! (1 ∷ []) $
    fsplit ! $ loose_out R Z L g ! v z.0.4.0 (λ b o h e is good.
    suffices ! (Run (pair (vptr b o) h ∷ [])) (subst (λ (us : List Val). ent 𝓤 (Run (pair (vptr b o) h ∷ [])) (Run us)) (sym (λ i. is i ++ [])) (id⊢ 𝓤 (Run (pair (vptr b o) h ∷ [])))) $
    enter ! 𝓣.C 𝓣.Λ fn (pair (vptr b o) h ∷ []) Post $ alloc_all ! (λ l. pass_all ! refl (pair_good R Z L g b o h good, tt) $
    sets ! (of_opd ! (get_in ! (fld ! refl (stop !)) (sub ! {τs = tcons ty_ptr (tcons (layout Z) tnil)} 0 refl (whole !)))) refl (tt, tt) $
    sets ! (of_opd ! (get ! refl)) refl (tt, tt) $
    sets ! (agg ! (and_then ! (get ! refl) (no_more !))) refl (tt, (tt, tt)) $
    returns ! (look_at ! 0 refl) $ free_all ! refl $
    handle_in {Γ = ‵ (Z.own_val v.alloc (h ∷ [])) ∷ ‵ ftrue ∷ lives ∷ []} ! (block_ptr b o) (Some v.value) $
    let kept : Option Embedded = Some v.value in
    use0 𝓛 (raw (fact 𝓤 (kept ≡ kept))) (fact_i 𝓤 (kept ≡ kept) (emp 𝓤) refl) $ nothing ! $ nothing ! $ fjoin ! $
    keep ! (5 ∷ 0 ∷ 2 ∷ 1 ∷ []) $ by ! (leaves 𝓛 ended stays c z (word (block_ptr b o)) (record { at = block_ptr b o; kept = kept }) (tt, tt) (tt, tt)))))
