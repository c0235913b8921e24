use Rattle.std.proofs.Common.{◌≡◌, ◌∙◌, ◌<◌, ◌≤◌, ◌+◌, ◌++◌, ◌∷◌, [], List, suc, length, map, ap, ap₂, sym, subst, refl, arith}
use Rattle.std.proofs.lemmas.Result.{err_from_is_err_and}
use Rattle.coord_node.specs.Nodes.{coordinator_of}
use Rattle.world_sim.specs.World.{Commit}
use Rattle.world_sim.specs.Scene.{scene_view}
use Rattle.kip_msgs.specs.Views.{commit_request_topic_value}
use Rattle.member_core.specs.Limits.{GREATEST_NUMBER}
use Rattle.std.proofs.Common.{Ok}
use Rattle.world_sim.specs.declared.shown.Shown.TheVariants as shows
use Rattle.world_sim.specs.World.{cut}
use Rattle.world_sim.specs.Acts.{Commits}
use Rattle.world_sim.specs.Acting.{Acted}
use Rattle.world_sim.specs.Mail.{AreSmall}
use Rattle.world_sim.proofs.MailLemmas.{small_more}
use Rattle.world_sim.proofs.Performs.{nobody_commits}
use Rattle.world_sim.proofs.SceneActs.{nobody}
use Rattle.world_sim.proofs.SceneLemmas.{at_number, numbered_index, some_at}
use Rattle.world_sim.proofs.SceneMessages.{above_false, commits, commits_not, commits_short, past_the_numbers}
use Rattle.world_sim.proofs.scene.Scene.commit.Goals as goal

pub returns-in_default : goal.returns-in_default
returns-in_default c = (nobody_commits (scene_view c.args.self.now) c.args.number (nobody _ _ _ (ap length c.as_slice.ensures.value) c.in_default.ensures) _, refl)

pub returns-then-len-ge-GREATEST_NUMBER : goal.returns-then-len-ge-GREATEST_NUMBER
returns-then-len-ge-GREATEST_NUMBER c =
    let s = c.args.self.now in
    let at = some_at s.clients.items c.in-Some.place (subst (λ k. c.in-Some.place < k) (ap length c.as_slice.ensures.value) c.in-Some.ensures.1) in
    let count : c.len.result ≡ length s.commits.items = c.len.ensures ∙ s.commits.ok.0 in
    let most : 2147483647 ≤ c.len.result = c.if-len-ge-GREATEST_NUMBER.true in
    let past : GREATEST_NUMBER < suc (length s.commits.items) = omega (arith, count, most) in
    (past_the_numbers (scene_view s) c.args.number at.0 (at_number s.clients.items c.args.number c.in-Some.place c.in-Some.ensures.0 ∙ at.1) (map commit_request_topic_value c.args.topics) (above_false (suc (length s.commits.items)) GREATEST_NUMBER past), refl)

pub returns-in_err-commit : goal.returns-in_err-commit
returns-in_err-commit c =
    let s = c.args.self.now in
    let p = err_from_is_err_and c.from_residual.result c.from_residual.ensures.1 in
    let me = c.index.result.now in
    let there = numbered_index s.clients.items c.args.number c.in-Some.place me c.in-Some.ensures.0 (subst (λ k. c.in-Some.place < k) (ap length c.as_slice.ensures.value) c.in-Some.ensures.1) c.index.ensures in
    let first : c.len.result ≡ length s.commits.items = c.len.ensures ∙ s.commits.ok.0 in
    let count : c.len-number.result ≡ length s.commits.items = c.len-number.ensures ∙ s.commits.ok.0 in
    let few : c.len.result < 2147483647 = c.if-len-ge-GREATEST_NUMBER.false in
    let is : c.len-number.result + 1 ≡ suc (length s.commits.items) = omega (arith, count) in
    let below : c.len-number.result + 1 ≤ GREATEST_NUMBER = omega (arith, count, first, few) in
    rw (p.1, p.2)
    (commits_not (scene_view s) c.args.number me there (map commit_request_topic_value c.args.topics) (c.len-number.result + 1) _ is below c.in_err-commit.ensures.fault, refl)

pub returns-in_err-reserve : goal.returns-in_err-reserve
returns-in_err-reserve c =
    let s = c.args.self.now in
    let p = err_from_is_err_and c.from_residual-in_err-reserve.result c.from_residual-in_err-reserve.ensures.1 in
    let me = c.index.result.now in
    let there = numbered_index s.clients.items c.args.number c.in-Some.place me c.in-Some.ensures.0 (subst (λ k. c.in-Some.place < k) (ap length c.as_slice.ensures.value) c.in-Some.ensures.1) c.index.ensures in
    let first : c.len.result ≡ length s.commits.items = c.len.ensures ∙ s.commits.ok.0 in
    let count : c.len-number.result ≡ length s.commits.items = c.len-number.ensures ∙ s.commits.ok.0 in
    let few : c.len.result < 2147483647 = c.if-len-ge-GREATEST_NUMBER.false in
    let is : c.len-number.result + 1 ≡ suc (length s.commits.items) = omega (arith, count) in
    let below : c.len-number.result + 1 ≤ GREATEST_NUMBER = omega (arith, count, first, few) in
    rw (p.1, p.2) (
      commits_short (scene_view s) c.args.number me there (map commit_request_topic_value c.args.topics) (c.len-number.result + 1) c.in_ok-commit.commit is below c.in_ok-commit.ensures.made,
      ap (λ (ks : List Commit). record (scene_view s) { commits = ks }) c.reserve.ensures.items,
    )

pub invariant_of-self-2 : goal.invariant_of-self-2
invariant_of-self-2 c =
    let s = c.args.self.now in
    let k = c.in_ok-commit.commit in
    let more = c.push_reserved.ensures.items ∙ ap₂ (λ (ks : List Commit) (x : Commit). ks ++ x ∷ []) c.reserve.ensures.items c.cut.ensures in
    record {
      named = s.named;
      small = subst (λ (ks : List Commit). AreSmall ks) (sym more) (small_more s.commits.items (cut (coordinator_of s.node) k) s.small c.in_ok-commit.ensures.made.limit);
    }

pub returns : goal.returns
returns c =
    let s = c.args.self.now in
    let k = c.in_ok-commit.commit in
    let me = c.index.result.now in
    let there = numbered_index s.clients.items c.args.number c.in-Some.place me c.in-Some.ensures.0 (subst (λ j. c.in-Some.place < j) (ap length c.as_slice.ensures.value) c.in-Some.ensures.1) c.index.ensures in
    let first : c.len.result ≡ length s.commits.items = c.len.ensures ∙ s.commits.ok.0 in
    let count : c.len-number.result ≡ length s.commits.items = c.len-number.ensures ∙ s.commits.ok.0 in
    let few : c.len.result < 2147483647 = c.if-len-ge-GREATEST_NUMBER.false in
    let is : c.len-number.result + 1 ≡ suc (length s.commits.items) = omega (arith, count) in
    let below : c.len-number.result + 1 ≤ GREATEST_NUMBER = omega (arith, count, first, few) in
    let more = c.push_reserved.ensures.items ∙ ap₂ (λ (ks : List Commit) (x : Commit). ks ++ x ∷ []) c.reserve.ensures.items c.cut.ensures in
    subst (λ (ks : List Commit). Acted (scene_view s) (Commits c.args.number (map commit_request_topic_value c.args.topics)) (Ok (shows.Committed (c.len-number.result + 1))) (record (scene_view s) { commits = ks })) (sym more)
    (commits (scene_view s) c.args.number me there (map commit_request_topic_value c.args.topics) (c.len-number.result + 1) k is below c.in_ok-commit.ensures.made)
