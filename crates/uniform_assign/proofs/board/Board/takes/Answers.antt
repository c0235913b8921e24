use Rattle.std.proofs.Common.{Some, length, refl, sym, ap, ◌∙◌, arith}
use Rattle.std.proofs.lemmas.Option.{slice_get_read}
use Rattle.uniform_assign.proofs.Known.{AreKnown-set}
use Rattle.uniform_assign.proofs.board.Board.takes.Goals as goal

pub index-requires : goal.index-requires
index-requires c =
    let many = c.requires.known.as_many in
    let low = c.requires.member_in in
    let ok = c.args.known.now.ok.0 in
    omega arith

pub returns-then-last-topic-clause-takes : goal.returns-then-last-topic-clause-takes
returns-then-last-topic-clause-takes c = λ m t is_m is_t.
    let known = c.args.known.now.items in
    let many = c.requires.known.as_many in
    let low = c.requires.member_in in
    let here = slice_get_read known (length known) c.args.member c.index.result.now refl (omega arith) c.index.ensures in
    sym (c.requires.known.subscribe c.args.member c.args.topic m t (here ∙ ap Some c.in-Some.is ∙ ap (λ k. Some (Some k)) c.if-last-topic.true) is_m is_t)

pub returns-clause-known : goal.returns-clause-known
returns-clause-known c =
    AreKnown-set c.args.self.now c.args.known.now.items c.args.member c.args.topic c.requires.known c.requires.member_in (λ m t is_m is_t. sym (c.if-not-subscribes.ensures m t is_m is_t))
