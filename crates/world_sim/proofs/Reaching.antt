-- What acts lead to from a world that acts lead to.
use Rattle.std.proofs.Common.{◌≡◌, ℕ, ◌<◌, List, [], ◌∷◌, ◌++◌, length, map, get_or, All, Result, Ok, Err, refl, sym, ap, ap₂, subst, ◌∙◌, arith, append_assoc, length-append}
use Rattle.std.proofs.lemmas.List.{nil_from_length}
use Rattle.coord_node.specs.Coordinator.{opening}
use Rattle.member_core.specs.Settings.{Settings}
use Rattle.member_core.specs.Client.{Client, new_client}
use Rattle.world_sim.specs.declared.shown.Shown.{Shown}
use Rattle.world_sim.specs.declared.fault.WorldFault.{WorldFault}
use Rattle.world_sim.specs.World.{World, new_world}
use Rattle.world_sim.specs.Acts.{Act, Outcome, ActStep, Run}
use Rattle.world_sim.specs.Exclusivity.{ActsLawfully, Always, HoldsOn, RenewsLawfully, target_epoch_of}
use Rattle.world_sim.specs.Acting.{Acted}
use Rattle.world_sim.specs.Reached.{IsReached}
use Rattle.world_sim.specs.Running.{AllActed, Answers, StaysLawful, StaysSo}
use Rattle.world_sim.proofs.MailLemmas.{map_more}

one_act_more : (acts : List Act) (outcomes : List Outcome) (w middle new : World) (act : Act) (outcome : Outcome)
    → Run w acts outcomes middle → ActStep middle act outcome new → Run w (acts ++ act ∷ []) (outcomes ++ outcome ∷ []) new
one_act_more [] [] w middle new act outcome is step = (new, subst (λ (x : World). ActStep x act outcome new) is step, refl)
one_act_more [] (o ∷ os) w middle new act outcome never step = absurd never
one_act_more (a ∷ acts) [] w middle new act outcome never step = absurd never
one_act_more (a ∷ acts) (o ∷ os) w middle new act outcome run step = (run.0, run.1, one_act_more acts os run.0 middle new act outcome run.2 step)

pub reached_by : (w new : World) (act : Act) (outcome : Outcome) → IsReached w → ActStep w act outcome new → IsReached new
reached_by w new act outcome reached step =
    record {
      salt = reached.salt;
      clients = reached.clients;
      acts = reached.acts ++ act ∷ [];
      outcomes = reached.outcomes ++ outcome ∷ [];
      run = one_act_more reached.acts reached.outcomes _ w new act outcome reached.run step;
    }

pub run_reaches : (acts : List Act) (outcomes : List Outcome) (w new : World) → IsReached w → Run w acts outcomes new → IsReached new
run_reaches [] [] w new reached is = subst IsReached (sym is) reached
run_reaches [] (outcome ∷ outcomes) w new reached is = absurd is
run_reaches (act ∷ acts) [] w new reached is = absurd is
run_reaches (act ∷ acts) (outcome ∷ outcomes) w new reached (middle, step, later) = run_reaches acts outcomes middle new (reached_by w middle act outcome reached step) later

pub acted_reaches : (w new : World) (act : Act) (result : Result Shown WorldFault) → IsReached w → Acted w act result new → IsReached new
acted_reaches w new act (Ok shown) reached acted = reached_by w new act acted.0 reached acted.1
acted_reaches w new act (Err fault) reached acted = subst IsReached (sym acted.1) reached

pub always : (Holds : World → Type 0) → Always Holds → (w : World) → IsReached w → Holds w
always Holds so w reached = so reached.salt reached.clients reached.acts reached.outcomes w reached.run

pub holds_on : (Holds : World → Type 0) → Always Holds → (w : World) → IsReached w → HoldsOn Holds w
holds_on Holds so w reached acts outcomes new run = always Holds so new (run_reaches acts outcomes w new reached run)

-- what stays as it is is renewed lawfully: no target epoch is another
same_lawfully : (w : World) → RenewsLawfully w w
same_lawfully w name g there other = absurd (other (ap target_epoch_of there))

pub acted_lawfully : (w new : World) (act : Act) (result : Result Shown WorldFault) → ActsLawfully w → Acted w act result new → RenewsLawfully w new
acted_lawfully w new act (Ok shown) lawfully acted = lawfully act acted.0 new acted.1
acted_lawfully w new act (Err fault) lawfully acted = subst (λ (x : World). RenewsLawfully w x) (sym acted.1) (same_lawfully w)

-- ---- a list of acts in the code

pub stays_so : (Holds : World → Type 0) → Always Holds → (w : World) → IsReached w → StaysSo Holds w
stays_so Holds so w reached [] answers = tt
stays_so Holds so w reached (act ∷ acts) [] = tt
stays_so Holds so w reached (act ∷ acts) (answer ∷ answers) = λ new acted.
    let after = acted_reaches w new act answer reached acted in
    (always Holds so new after, stays_so Holds so new after acts answers)

pub stays_lawful : Always ActsLawfully → (w : World) → IsReached w → StaysLawful w
stays_lawful so w reached [] answers = tt
stays_lawful so w reached (act ∷ acts) [] = tt
stays_lawful so w reached (act ∷ acts) (answer ∷ answers) = λ new acted.
    let after = acted_reaches w new act answer reached acted in
    (acted_lawfully w new act answer (always ActsLawfully so w reached) acted, stays_lawful so new after acts answers)

pub one_more_acted : (acts : List Act) (answers : Answers) (w middle new : World) (act : Act) (answer : Result Shown WorldFault)
    → AllActed w acts answers middle → Acted middle act answer new → AllActed w (acts ++ act ∷ []) (answers ++ answer ∷ []) new
one_more_acted [] [] w middle new act answer is acted = (new, subst (λ (x : World). Acted x act answer new) is acted, refl)
one_more_acted [] (a ∷ answers) w middle new act answer never acted = absurd never
one_more_acted (a ∷ acts) [] w middle new act answer never acted = absurd never
one_more_acted (a ∷ acts) (b ∷ answers) w middle new act answer all acted = (all.0, all.1, one_more_acted acts answers all.0 middle new act answer all.2 acted)

-- ---- the first world

map_twice : {X Y Z : Type 0} (f : Y → Z) (g : X → Y) (xs : List X) → map (λ x. f (g x)) xs ≡ map f (map g xs)
map_twice f g [] = refl
map_twice f g (x ∷ xs) = ap (λ ys. f (g x) ∷ ys) (map_twice f g xs)

pub is_new_world : {X : Type 0} (w : World) (salt : ℕ) (value : X → Settings) (settings : List X) (clients : List Client)
    → w ≡ record { coordinator = opening salt; clock = 0; clients = clients; requests = []; replies = []; commits = [] }
    → clients ≡ map (λ s. new_client (value s)) settings → w ≡ new_world salt (map value settings)
is_new_world w salt value settings clients is made =
    is ∙ ap (λ (cs : List Client). record { coordinator = opening salt; clock = 0; clients = cs; requests = []; replies = []; commits = [] }) (made ∙ map_twice new_client value settings)

pub reached_first : (w : World) (salt : ℕ) (clients : List Settings) → w ≡ new_world salt clients → IsReached w
reached_first w salt clients is = record { salt = salt; clients = clients; acts = []; outcomes = []; run = is }

-- ---- lists

at_middle : {X : Type 0} (ys : List X) (y : X) (us : List X) → get_or (ys ++ y ∷ us) (length ys) y ≡ y
at_middle [] y us = refl
at_middle (v ∷ vs) y us = at_middle vs y us

before_middle : {X : Type 0} (ys : List X) (y : X) (us : List X) → length ys < length (ys ++ y ∷ us)
before_middle ys y us = omega (arith, length-append ys (y ∷ us))

pub middle : {X : Type 0} (P : X → Type 0) (all done rest left : List X) (x : X) → All P all → all ≡ done ++ rest → rest ≡ x ∷ left → P x
middle P all done rest left x each parts next =
    subst P (at_middle done x left) (subst (λ xs. All P xs) (parts ∙ ap (λ ys. done ++ ys) next) each (length done) x (before_middle done x left))

pub further : {X : Type 0} (all done rest left : List X) (x : X) → all ≡ done ++ rest → rest ≡ x ∷ left → all ≡ (done ++ x ∷ []) ++ left
further all done rest left x parts next = parts ∙ ap (λ ys. done ++ ys) next ∙ sym (append_assoc done (x ∷ []) left)

pub is_before : {X : Type 0} (all done rest left : List X) (x : X) → all ≡ done ++ rest → rest ≡ x ∷ left → length done < length all
is_before all done rest left x parts next = subst (λ ys. length done < length ys) (sym (parts ∙ ap (λ ys. done ++ ys) next)) (before_middle done x left)

pub one_more_made : {X Y : Type 0} (f : X → Y) (done : List X) (x : X) (made : List Y) (y : Y) (new : List Y) → made ≡ map f done → y ≡ f x → new ≡ made ++ y ∷ [] → new ≡ map f (done ++ x ∷ [])
one_more_made f done x made y new so is more = more ∙ ap₂ (λ ys z. ys ++ z ∷ []) so is ∙ sym (map_more f done x)

nothing_left : {X : Type 0} (all done rest : List X) → all ≡ done ++ rest → length done ≡ length all → rest ≡ []
nothing_left all done rest parts same = nil_from_length rest (let sum = ap length parts ∙ length-append done rest in omega arith)

append_nil : {X : Type 0} (xs : List X) → xs ++ [] ≡ xs
append_nil [] = refl
append_nil (x ∷ xs) = ap (λ ys. x ∷ ys) (append_nil xs)

pub no_more : {X : Type 0} (all done rest : List X) → all ≡ done ++ rest → length done ≡ length all → done ≡ all
no_more all done rest parts same = sym (parts ∙ ap (λ ys. done ++ ys) (nothing_left all done rest parts same) ∙ append_nil done)
